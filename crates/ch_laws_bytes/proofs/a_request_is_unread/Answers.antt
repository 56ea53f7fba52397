use Rattle.ch_laws_bytes.proofs.Scene.{unread_request}
use Rattle.ch_laws_bytes.proofs.a_request_is_unread.Goals as goal

pub returns : goal.returns
returns c = unread_request
