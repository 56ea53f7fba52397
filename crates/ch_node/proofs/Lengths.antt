-- How long a payload is.
use Rattle.std.proofs.Common.{◌≡◌, ℕ, ◌<◌, ◌≤◌, false, List, [], ◌∷◌, ◌++◌, length, Err, refl, arith}
use Rattle.std.specs.Prelude.{nat_le}
use Rattle.std.proofs.lemmas.Bool.Decides.{nat_tests}
use Rattle.ch_ident.specs.Spelling.{short, long, number}
use Rattle.ch_ident.specs.declared.message.Message.{Message}
use Rattle.ch_static.specs.declared.target.Target.{Target}
use Rattle.ch_static.specs.declared.target.Target.TheVariants as targets
use Rattle.ch_model.specs.declared.command.CommandError.TheVariants.{Long}
use Rattle.ch_model.specs.NodeRoom.{fitting, longest}
use Rattle.ch_model.specs.NodeSends.{payload_of}

-- what stands last has at most the length of all
last : (front back : List ℕ) → length back ≤ length (front ++ back)
last [] back = omega arith
last (x ∷ front) back = let rest : length back ≤ length (front ++ back) = last front back in omega (arith, rest)

-- a message's body has at most the length of its payload
pub body_within : (to : Target) (message : Message) → length message.body ≤ length (payload_of to message)
body_within (targets.Process process) message = last (short message.mark) message.body
body_within (targets.Port port) message = last (short message.mark) message.body
body_within (targets.Named at name) message =
    let spelled : length message.body ≤ length (number (length message.body) ++ message.body) = last (number (length message.body)) message.body in
    let named : length (long message.body) ≤ length (short name ++ short message.mark ++ long message.body) = last (short name ++ short message.mark) (long message.body) in
    omega (arith, spelled, named)

over : (n : ℕ) → longest < n → nat_le n longest ≡ false
over n h = grind (arith, nat_tests)

-- a message with too long a body doesn't fit
pub too_long : (to : Target) (message : Message) → longest < length message.body → fitting (payload_of to message) ≡ Err Long
unfolding fitting
too_long to message h =
    let body : length message.body ≤ length (payload_of to message) = body_within to message in
    let far : longest < length (payload_of to message) = omega (arith, h, body) in
    rw (over (length (payload_of to message)) far) refl
