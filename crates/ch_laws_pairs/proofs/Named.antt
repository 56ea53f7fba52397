-- The users of the openers' ends stay called as they were, whatever a cell tells and whatever changes an end.
use Rattle.std.proofs.Common.{◌≡◌, ℕ, Bool, true, false, cond, List, [], ◌∷◌, refl, sym, ap, ◌∙◌, subst}
use Rattle.std.specs.Prelude.{find, Option, Some, None, ◌==◌}
use Rattle.ch_base.specs.declared.address.Address.{Address}
use Rattle.ch_model.specs.declared.local.LocalEntry.{LocalEntry}
use Rattle.ch_model.specs.declared.local.LocalEntry.TheVariants as local
use Rattle.ch_model.specs.declared.name.End.{End}
use Rattle.ch_model.specs.declared.name.End.TheVariants.{O, T}
use Rattle.ch_model.specs.declared.name.SockName.{SockName}
use Rattle.ch_model.specs.declared.step.Step.{Step}
use Rattle.ch_model.specs.declared.step.Step.TheVariants as steps
use Rattle.ch_model.specs.HostSteps.{own_address}
use Rattle.ch_model.specs.Naming.{Names, called}
use Rattle.ch_model.specs.Same.{same_socket}
use Rattle.ch_model.specs.Stages.{Pending}
use Rattle.ch_model.specs.WorldSockets.{end_of, with_end, end_of_nobody, is_socket_named, store_in, with_socket, with_end_of, cell_of, target_end, new_socket}
use Rattle.ch_model.specs.WorldState.{Cell, WorldEnd, WorldSocket, World}
use Rattle.ch_model.specs.WorldSteps.{stepped, local_told, all_told}
use Rattle.ch_laws_log.specs.HostEnds.{steps_in}
use Rattle.ch_laws_log.proofs.Stored.{number_is, number_same, find_stored}
use Rattle.ch_laws_ends.proofs.Changes.{OnDial, step_as}
use Rattle.ch_laws_ends.proofs.Found.{KeepsPlace}
use Rattle.ch_laws_bytes.proofs.Told.{told_names}
use Rattle.ch_laws_pairs.specs.Askers.{Asker, asker_after, asker_after_all, IsFresh, AreFresh}
use Rattle.ch_laws_pairs.specs.Users.{AsksAs, OpenerAsks, IsOdd, IsAsked, AllNamed, moved, all_moved}

-- ---- a socket is stored, or an end is changed

pub named_as_one : (own : ℕ → ℕ → Address) (known : Names) (one two : ℕ → ℕ → Asker) (name : SockName) (c m : Option ℕ) → ((p n : ℕ) → two p n ≡ one p n) → OpenerAsks own known one name c m → OpenerAsks own known two name c m
named_as_one own known one two name None m each a = tt
named_as_one own known one two name (Some p) None each a = a
named_as_one own known one two name (Some p) (Some n) each a = subst (λ (asker : Asker). AsksAs (own p) known name asker) (sym (each p n)) a

pub all_as : (own : ℕ → ℕ → Address) (known : Names) (one two : ℕ → ℕ → Asker) (sockets : List WorldSocket) → ((p n : ℕ) → two p n ≡ one p n) → AllNamed own known one sockets → AllNamed own known two sockets
all_as own known one two sockets each all s socket f = (named_as_one own known one two socket.name socket.o.cell socket.o.number each (all s socket f).0, (all s socket f).1)

pub stored_named : (own : ℕ → ℕ → Address) (known : Names) (askers : ℕ → ℕ → Asker) (new : WorldSocket) (sockets : List WorldSocket) → IsAsked own known askers new → AllNamed own known askers sockets → AllNamed own known askers (store_in new sockets)
stored_named own known askers new sockets mine all s socket f = by_name (same_socket new.name s) (sym (find_stored new sockets s) ∙ f) where
  by_name : (b : Bool) → cond b (Some new) (find (is_socket_named s) sockets) ≡ Some socket → IsAsked own known askers socket
  by_name true f = let is : new ≡ socket = cc in subst (λ (w : WorldSocket). IsAsked own known askers w) is mine
  by_name false f = all s socket f

-- what changes an opener's end leaves it in its place, and what changes a target's leaves or makes its number odd
abbrev pub KeepsOpener : End → (WorldEnd → WorldEnd) → Type 0
KeepsOpener O f = KeepsPlace f
KeepsOpener T f = (end : WorldEnd) → IsOdd end.number → IsOdd (f end).number

pub end_named : (own : ℕ → ℕ → Address) (known : Names) (askers : ℕ → ℕ → Asker) (s : SockName) (e : End) (f : WorldEnd → WorldEnd) (world : World) → KeepsOpener e f → AllNamed own known askers world.sockets → AllNamed own known askers (with_end_of s e f world).sockets
end_named own known askers s e f world k all = by_socket (find (is_socket_named s) world.sockets) refl where
  by_end : (e : End) (old : WorldSocket) → KeepsOpener e f → IsAsked own known askers old → IsAsked own known askers (with_end e (f (end_of e old)) old)
  by_end O old k a = (subst (λ (c : Option ℕ). OpenerAsks own known askers old.name c (f old.o).number) (sym (k old.o).0) (subst (λ (m : Option ℕ). OpenerAsks own known askers old.name old.o.cell m) (sym (k old.o).1) a.0), a.1)
  by_end T old k a = (a.0, k old.t a.1)

  by_socket : (o : Option WorldSocket) → find (is_socket_named s) world.sockets ≡ o → AllNamed own known askers (elim o as (λ o. World) [
    | None ↦ world
    | Some socket ↦ with_socket (with_end e (f (end_of e socket)) socket) world
  ]).sockets
  by_socket None is = all
  by_socket (Some old) is = stored_named own known askers (with_end e (f (end_of e old)) old) world.sockets (by_end e old k (all s old is)) all

pub any_kept : (e : End) (f : WorldEnd → WorldEnd) → KeepsPlace f → KeepsOpener e f
any_kept O f k = k
any_kept T f k = λ end odd. subst IsOdd (sym (k end).1) odd

-- a target's end has no number before it comes
pub target_odd : (c : Option ℕ) → IsOdd (target_end c).number
target_odd None = tt
target_odd (Some p) = tt

-- ---- a step

either : (b : Bool) (x : Asker) → cond b x x ≡ x
either true x = refl
either false x = refl

-- who asked before a fresh socket is dialed still does
dialed_named : (own : ℕ → ℕ → Address) (known : Names) (askers : ℕ → ℕ → Asker) (place sock end : ℕ) (peer : Address) (name : SockName) (c m : Option ℕ) → askers place sock ≡ None → OpenerAsks own known askers name c m → OpenerAsks own known (moved place (steps.Dial sock end peer) askers) name c m
dialed_named own known askers place sock end peer name None m none a = tt
dialed_named own known askers place sock end peer name (Some p) None none a = a
dialed_named own known askers place sock end peer name (Some p) (Some n) none a = by_tests (place == p) refl (sock == n) refl where
  by_tests : (b : Bool) → (place == p) ≡ b → (d : Bool) → (sock == n) ≡ d → AsksAs (own p) known name (cond b (cond d (Some (end, peer)) (askers p n)) (askers p n))
  by_tests true h true g =
      let here : askers p n ≡ None = ap (λ (k : ℕ). askers k n) (sym (number_is place p h)) ∙ ap (askers place) (sym (number_is sock n g)) ∙ none in
      let never : AsksAs (own p) known name None = subst (λ (asker : Asker). AsksAs (own p) known name asker) here a in absurd never
  by_tests true h false g = a
  by_tests false h d g = a

step_named : (own : ℕ → ℕ → Address) (known : Names) (askers : ℕ → ℕ → Asker) (place : ℕ) (cell : Cell) (step : Step) (world : World) → world.names ≡ known → ((end : ℕ) → own_address cell.host end ≡ own place end) → ((n : ℕ) → IsFresh n step (askers place n)) → AllNamed own known askers world.sockets
    → AllNamed own known (moved place step askers) (stepped place cell step world).1.sockets
step_named own known askers place cell step world is own_is fresh all = step_as (λ w. AllNamed own known (moved place step askers) w.sockets) (λ one two c s k. subst (λ (l : List WorldSocket). AllNamed own known (moved place step askers) l) (sym s) k) place cell step world (dial step fresh)
    (λ s e f c. end_named own known (moved place step askers) s e f world (any_kept e f c.changes.place) (still step fresh)) (still step fresh) where
      still : (step : Step) → ((n : ℕ) → IsFresh n step (askers place n)) → AllNamed own known (moved place step askers) world.sockets
      still (steps.Dial sock end peer) fresh = λ s socket f. (dialed_named own known askers place sock end peer socket.name socket.o.cell socket.o.number (fresh sock (number_same sock)) (all s socket f).0, (all s socket f).1)
      still (steps.Read sock) fresh = all_as own known askers (moved place (steps.Read sock) askers) world.sockets (λ p n. either (place == p) (askers p n)) all
      still (steps.Write sock bytes said) fresh = all_as own known askers (moved place (steps.Write sock bytes said) askers) world.sockets (λ p n. either (place == p) (askers p n)) all
      still (steps.Up sock) fresh = all_as own known askers (moved place (steps.Up sock) askers) world.sockets (λ p n. either (place == p) (askers p n)) all
      still (steps.Down sock) fresh = all_as own known askers (moved place (steps.Down sock) askers) world.sockets (λ p n. either (place == p) (askers p n)) all
      still (steps.Left sock) fresh = all_as own known askers (moved place (steps.Left sock) askers) world.sockets (λ p n. either (place == p) (askers p n)) all
      still (steps.Broke end peer why) fresh = all_as own known askers (moved place (steps.Broke end peer why) askers) world.sockets (λ p n. either (place == p) (askers p n)) all
      still (steps.Post end event) fresh = all_as own known askers (moved place (steps.Post end event) askers) world.sockets (λ p n. either (place == p) (askers p n)) all

      dial : (step : Step) → ((n : ℕ) → IsFresh n step (askers place n)) → OnDial (λ w. AllNamed own known (moved place step askers) w.sockets) place cell step world
      dial (steps.Dial sock end peer) fresh = stored_named own known (moved place (steps.Dial sock end peer) askers) (new_socket world (called world.names (own_address cell.host end)) (called world.names peer) cell.host.host (end_of_nobody (Some place) (Some sock) Pending) peer) world.sockets (
        (subst (λ (asker : Asker). AsksAs (own place) known (new_socket world (called world.names (own_address cell.host end)) (called world.names peer) cell.host.host (end_of_nobody (Some place) (Some sock) Pending) peer).name asker) (sym (here (Some (end, peer)) (askers place sock)))
            (ap (λ (k : Names). called k (own place end)) (sym is) ∙ ap (called world.names) (sym (own_is end)), ap (λ (k : Names). called k peer) (sym is))),
        target_odd (cell_of world peer),
      )
          (still (steps.Dial sock end peer) fresh) where
            here : (x y : Asker) → cond (place == place) (cond (sock == sock) x y) y ≡ x
            here x y = ap (λ b. cond b (cond (sock == sock) x y) y) (number_same place) ∙ ap (λ b. cond b x y) (number_same sock)
      dial (steps.Read sock) fresh = tt
      dial (steps.Write sock bytes said) fresh = tt
      dial (steps.Up sock) fresh = tt
      dial (steps.Down sock) fresh = tt
      dial (steps.Left sock) fresh = tt
      dial (steps.Broke end peer why) fresh = tt
      dial (steps.Post end event) fresh = tt

-- ---- all that was told

pub told_named : (own : ℕ → ℕ → Address) (known : Names) (askers : ℕ → ℕ → Asker) (place : ℕ) (cell : Cell) (told : List LocalEntry) (world : World) → world.names ≡ known → ((end : ℕ) → own_address cell.host end ≡ own place end) → ((n : ℕ) → AreFresh n (steps_in told) (askers place n)) → AllNamed own known askers world.sockets
    → AllNamed own known (all_moved place (steps_in told) askers) (all_told place cell told world).1.sockets
told_named own known askers place cell [] world is own_is fresh all = all
told_named own known askers place cell (local.Note note ∷ rest) world is own_is fresh all = told_named own known askers place cell rest (local_told place cell (local.Note note) world).1 is own_is fresh all
told_named own known askers place cell (local.Step step ∷ rest) world is own_is fresh all = told_named own known (moved place step askers) place cell rest (stepped place cell step world).1 (told_names place cell (local.Step step ∷ []) world ∙ is) own_is
    (λ n. subst (λ (asker : Asker). AreFresh n (steps_in rest) asker) (sym (here n (asker_after n step (askers place n)) (askers place n))) (fresh n).1)
    (step_named own known askers place cell step world is own_is (λ n. (fresh n).0) all) where
      here : (n : ℕ) (x y : Asker) → cond (place == place) x y ≡ x
      here n x y = ap (λ b. cond b x y) (number_same place)

-- who asks after all of it
pub moved_is : (place : ℕ) (told : List Step) (askers : ℕ → ℕ → Asker) (p n : ℕ) → all_moved place told askers p n ≡ cond (place == p) (asker_after_all n told (askers p n)) (askers p n)
moved_is place [] askers p n = sym (either (place == p) (askers p n))
moved_is place (step ∷ rest) askers p n = moved_is place rest (moved place step askers) p n ∙ by_test (place == p) where
  by_test : (b : Bool) → cond b (asker_after_all n rest (cond b (asker_after n step (askers p n)) (askers p n))) (cond b (asker_after n step (askers p n)) (askers p n)) ≡ cond b (asker_after_all n rest (asker_after n step (askers p n))) (askers p n)
  by_test true = refl
  by_test false = refl
