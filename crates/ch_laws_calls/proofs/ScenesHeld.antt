-- The ends of a world's sockets by cell and number, and the records that hosts have of them.
use Rattle.std.proofs.Common.{◌≡◌, ℕ, suc, Bool, true, false, cond, ◌&&◌, List, [], ◌∷◌, refl, ap, ◌∙◌, subst}
use Rattle.std.proofs.lemmas.Bool.{and_parts}
use Rattle.std.specs.List.{list_any}
use Rattle.std.specs.Option.{option_map}
use Rattle.std.specs.Prelude.{◌||◌, is_some, slice_get, Option, Some, None}
use Rattle.ch_model.specs.declared.name.End.{End}
use Rattle.ch_model.specs.declared.name.End.TheVariants.{O, T}
use Rattle.ch_model.specs.declared.name.SockName.{SockName}
use Rattle.ch_model.specs.HostState.{Socket}
use Rattle.ch_model.specs.Stages.{Stage}
use Rattle.ch_model.specs.WorldSockets.{end_of, same_number, is_end_of, end_at, find_end}
use Rattle.ch_model.specs.WorldState.{WorldEnd, WorldSocket}
use Rattle.ch_laws_log.specs.WorldEnds.{stage_found}
use Rattle.ch_laws_log.proofs.Stored.{number_is, number_same}
use Rattle.ch_laws_race.specs.View.{has_end}

-- ---- an end of a cell, under a number

number_of : (o : Option ℕ) (n : ℕ) → same_number o n ≡ true → o ≡ Some n
number_of None n e = absurd cc
number_of (Some m) n e = ap Some (number_is m n e)

pub held_by : (place n : ℕ) (end : WorldEnd) → is_end_of place n end ≡ true → (end.cell ≡ Some place) × (end.number ≡ Some n)
held_by place n end e = let parts = and_parts (same_number end.cell place) (same_number end.number n) e in (number_of end.cell place parts.0, number_of end.number n parts.1)

pub is_held : (place n : ℕ) (end : WorldEnd) → end.cell ≡ Some place → end.number ≡ Some n → is_end_of place n end ≡ true
is_held place n end c m = ap (λ (o : Option ℕ). same_number o place && same_number end.number n) c ∙ ap (λ (b : Bool). b && same_number end.number n) (number_same place) ∙ ap (λ (o : Option ℕ). same_number o n) m ∙ number_same n

end_is_of : (place n : ℕ) (socket : WorldSocket) (e : End) → end_at place n socket ≡ Some e → is_end_of place n (end_of e socket) ≡ true
end_is_of place n socket e h = by_tests (is_end_of place n socket.o) refl (is_end_of place n socket.t) refl e h where
  by_tests : (a : Bool) → is_end_of place n socket.o ≡ a → (b : Bool) → is_end_of place n socket.t ≡ b → (e : End) → cond a (Some O) (cond b (Some T) None) ≡ Some e → is_end_of place n (end_of e socket) ≡ true
  by_tests true p b q O h = p
  by_tests true p b q T h = absurd cc
  by_tests false p true q O h = absurd cc
  by_tests false p true q T h = q
  by_tests false p false q e h = absurd cc

-- ---- what is found under a number

-- a socket of the world, at its place among all
pub record IsFoundAt (place n : ℕ) (at : SockName × End) (sockets : List WorldSocket) : Type 0 where
  pub i : ℕ
  pub socket : WorldSocket
  pub there : slice_get sockets i ≡ Some socket
  pub name : socket.name ≡ at.0
  pub of : is_end_of place n (end_of at.1 socket) ≡ true

pub found_at : (place n : ℕ) (sockets : List WorldSocket) (at : SockName × End) → find_end place n sockets ≡ Some at → IsFoundAt place n at sockets
found_at place n [] at e = absurd cc
found_at place n (socket ∷ rest) at e = by_end (end_at place n socket) refl e (found_at place n rest at) where
  by_end : (o : Option End) → end_at place n socket ≡ o → (elim o as (λ o. Option (SockName × End)) [
    | Some end ↦ Some (socket.name, end)
    | None ↦ find_end place n rest
  ]) ≡ Some at → (find_end place n rest ≡ Some at → IsFoundAt place n at rest) → IsFoundAt place n at (socket ∷ rest)
  by_end (Some end) is e more = let same : ◌≡◌ {A = SockName × End} (socket.name, end) at = cc in
      record { i = 0; socket = socket; there = refl; name = ap (λ (x : SockName × End). x.0) same; of = subst (λ (x : SockName × End). is_end_of place n (end_of x.1 socket) ≡ true) same (end_is_of place n socket end is) }
  by_end None is e more = let one = more e in record { i = suc one.i; socket = one.socket; there = one.there; name = one.name; of = one.of }

pub any_found : (place n : ℕ) (sockets : List WorldSocket) → list_any (has_end place n) sockets ≡ is_some (find_end place n sockets)
any_found place n [] = refl
any_found place n (socket ∷ rest) = by_end (end_at place n socket) (any_found place n rest) where
  by_end : (o : Option End) → list_any (has_end place n) rest ≡ is_some (find_end place n rest) → (is_some o || list_any (has_end place n) rest) ≡ is_some (elim o as (λ o. Option (SockName × End)) [
    | Some end ↦ Some (socket.name, end)
    | None ↦ find_end place n rest
  ])
  by_end (Some end) more = refl
  by_end None more = more

-- ---- stages

-- a record of this stage is kept
pub record IsKept (o : Option Socket) (stage : Stage) : Type 0 where
  pub known : Socket
  pub is : o ≡ Some known
  pub stands : known.stage ≡ stage

pub kept_there : (o : Option Socket) (stage : Stage) → option_map (λ (w : Socket). w.stage) o ≡ Some stage → IsKept o stage
kept_there None stage e = absurd cc
kept_there (Some known) stage e = let is : known.stage ≡ stage = cc in record { known = known; is = refl; stands = is }

-- an end that stands is found
pub found_held : (o : Option (SockName × End)) (sockets : List WorldSocket) (stage : Stage) → stage_found o sockets ≡ Some stage → (at : SockName × End) × (o ≡ Some at)
found_held None sockets stage e = absurd cc
found_held (Some at) sockets stage e = (at, refl)
