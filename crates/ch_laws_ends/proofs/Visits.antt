-- A visit that settling makes is of a socket of the world, and its end is due.
use Rattle.std.proofs.Common.{◌≡◌, ℕ, zero, suc, ◌+◌, Bool, true, false, cond, List, [], ◌∷◌, drop, refl, ap}
use Rattle.std.specs.Prelude.{find, Option, Some, None}
use Rattle.ch_model.specs.declared.name.End.TheVariants.{O, T}
use Rattle.ch_model.specs.Settle.{Visit, Pass, is_due, due_from, due_at, due_in, next_visit, from_start}
use Rattle.ch_model.specs.WorldSockets.{is_socket_named}
use Rattle.ch_model.specs.WorldState.{WorldSocket, World}
use Rattle.ch_laws_log.proofs.Stored.{Distinct, self_same, found_before}

-- the end of a visit is due, and its socket stands at its name
pub record IsVisit (sockets : List WorldSocket) (visit : Visit) : Type 0 where
  pub is : find (is_socket_named visit.socket.name) sockets ≡ Some visit.socket
  pub due : is_due visit.which visit.socket ≡ true

abbrev pub AreVisits : List WorldSocket → Option Visit → Type 0
AreVisits sockets None = Unit {0}
AreVisits sockets (Some visit) = IsVisit sockets visit

later_visit : (known : WorldSocket) (rest : List WorldSocket) (o : Option Visit) → Distinct (known ∷ rest) → AreVisits rest o → AreVisits (known ∷ rest) o
later_visit known rest None d v = tt
later_visit known rest (Some visit) d v = record { is = found_before visit.socket.name known rest visit.socket d v.is; due = v.due }

at_head : (known : WorldSocket) (rest : List WorldSocket) → find (is_socket_named known.name) (known ∷ rest) ≡ Some known
at_head known rest = ap (λ b. cond b (Some known) (find (is_socket_named known.name) rest)) (self_same known.name)

from_place : (place : ℕ) (sockets : List WorldSocket) → Distinct sockets → AreVisits sockets (due_from place sockets)
from_place place [] d = tt
from_place place (known ∷ rest) d = by_tests (is_due O known) refl (is_due T known) refl (later_visit known rest (due_from (place + 1) rest) d (from_place (place + 1) rest d.1)) where
  by_tests : (a : Bool) → is_due O known ≡ a → (b : Bool) → is_due T known ≡ b → AreVisits (known ∷ rest) (due_from (place + 1) rest)
      → AreVisits (known ∷ rest) (cond a (Some (record { place = place; which = O; socket = known })) (cond b (Some (record { place = place; which = T; socket = known })) (due_from (place + 1) rest)))
  by_tests true h b g more = record { is = at_head known rest; due = h }
  by_tests false h true g more = record { is = at_head known rest; due = g }
  by_tests false h false g more = more

at_pass : (pass : Pass) (sockets : List WorldSocket) → Distinct sockets → AreVisits sockets (due_at pass sockets)
at_pass pass [] d = tt
at_pass pass (known ∷ rest) d = by_tests pass.at_target (is_due T known) refl where
  by_tests : (a b : Bool) → is_due T known ≡ b → AreVisits (known ∷ rest) (cond a (cond b (Some (record { place = pass.place; which = T; socket = known })) (due_from (pass.place + 1) rest)) (due_from pass.place (known ∷ rest)))
  by_tests true true h = record { is = at_head known rest; due = h }
  by_tests true false h = later_visit known rest (due_from (pass.place + 1) rest) d (from_place (pass.place + 1) rest d.1)
  by_tests false b h = from_place pass.place (known ∷ rest) d

in_rest : (pass : Pass) (n : ℕ) (sockets : List WorldSocket) → Distinct sockets → AreVisits sockets (due_at pass (drop n sockets))
in_rest pass zero sockets d = at_pass pass sockets d
in_rest pass (suc n) [] d = tt
in_rest pass (suc n) (known ∷ rest) d = later_visit known rest (due_at pass (drop n rest)) d (in_rest pass n rest d.1)

pub next_is : (pass : Pass) (world : World) → Distinct world.sockets → AreVisits world.sockets (next_visit pass world)
next_is pass world d = by_due (due_in pass world) (in_rest pass pass.place world.sockets d) where
  by_due : (o : Option Visit) → AreVisits world.sockets o → AreVisits world.sockets (elim o as (λ o. Option Visit) [
    | Some visit ↦ Some visit
    | None ↦ due_in from_start world
  ])
  by_due None v = in_rest from_start 0 world.sockets d
  by_due (Some visit) v = v
