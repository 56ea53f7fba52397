use Rattle.ch_laws_messages.proofs.PayloadsPayloads.{true_payloads}
use Rattle.ch_laws_messages.proofs.payloads.written_payloads_are_true.Goals as goal

pub returns : goal.returns
returns c = true_payloads
