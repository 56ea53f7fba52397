use Rattle.ch_laws_messages.proofs.PromisedPromises.{promised}
use Rattle.ch_laws_messages.proofs.promised.the_promise_is_kept.Goals as goal

pub returns : goal.returns
returns c = promised
