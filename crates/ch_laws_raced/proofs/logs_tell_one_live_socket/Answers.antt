use Rattle.ch_laws_raced.proofs.Together.{many_lively}
use Rattle.ch_laws_raced.proofs.logs_tell_one_live_socket.Goals as goal

pub returns : goal.returns
returns z = λ bytes front rest whole log world e peers. (many_lively bytes front rest whole log world e peers).has
