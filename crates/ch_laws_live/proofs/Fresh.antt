-- Each socket that a call dials is new: its name was told of in no way before.
use Rattle.std.proofs.Common.{◌≡◌, ℕ, Bool, true, false, not, ◌&&◌, ◌||◌, List, [], ◌∷◌, ◌++◌, refl, sym, ap, ◌∙◌, subst}
use Rattle.std.proofs.lemmas.List.{append-nil}
use Rattle.std.proofs.lemmas.List.Folds.{list_any-append}
use Rattle.std.specs.Prelude.{find, Option, Some, None}
use Rattle.ch_model.specs.declared.entry.Entry.{Entry}
use Rattle.ch_model.specs.declared.entry.Entry.TheVariants as entries
use Rattle.ch_model.specs.declared.line.Line.{Line}
use Rattle.ch_model.specs.declared.name.End.{End}
use Rattle.ch_model.specs.declared.name.End.TheVariants.{O, T}
use Rattle.ch_model.specs.declared.name.SockName.{SockName}
use Rattle.ch_model.specs.declared.step.Step.{Step}
use Rattle.ch_model.specs.declared.step.Step.TheVariants as steps
use Rattle.ch_model.specs.CellSteps.{told_steps}
use Rattle.ch_model.specs.HostState.{HostState}
use Rattle.ch_model.specs.HostSteps.{own_address}
use Rattle.ch_model.specs.Links.{rises, has_risen, is_closed}
use Rattle.ch_model.specs.Logs.{each_after}
use Rattle.ch_model.specs.Naming.{called}
use Rattle.ch_model.specs.Sockets.{closes}
use Rattle.ch_model.specs.Stages.{Pending}
use Rattle.ch_model.specs.WorldHappenings.{with_cell}
use Rattle.ch_model.specs.WorldSockets.{end_of, with_end, other, ended, item_arrives, end_of_nobody, is_socket_named, with_socket, with_end_of, find_end, next_name, new_socket}
use Rattle.ch_model.specs.WorldState.{Cell, WorldEnd, WorldSocket, World}
use Rattle.ch_model.specs.WorldSteps.{on_end, later_places, reads_item, item_is_read, end_closes, stepped, all_told}
use Rattle.ch_laws_log.proofs.Agreeing.{Good, keeps_good}
use Rattle.ch_laws_log.proofs.Blocks.{each_append}
use Rattle.ch_laws_log.proofs.Stored.{found_end, next_is_new}
use Rattle.ch_laws_ends.proofs.Over.{none_stored}
use Rattle.ch_laws_links.proofs.Found.{is_one, one_is}
use Rattle.ch_laws_links.proofs.Risen.{IsUntold}
use Rattle.ch_laws_calls.specs.Calls.{with_host, done_at}
use Rattle.ch_laws_live.specs.Lives.{dials_new}
use Rattle.ch_laws_live.proofs.Logs.{or_none}

-- of a socket that isn't there nothing is told
abbrev pub Untold : List Entry → World → Type 0
Untold log world = (s : SockName) (e : End) → find (is_socket_named s) world.sockets ≡ None → IsUntold log s e

-- ---- one more entry

pub still_untold : (log : List Entry) (x : Entry) (s : SockName) (e : End) → rises s e x ≡ false → closes s e x ≡ false → IsUntold log s e → IsUntold (log ++ x ∷ []) s e
still_untold log x s e r c u = (
  list_any-append (rises s e) log (x ∷ []) ∙ or_none (has_risen log s e) (rises s e x || false) u.0 (ap (λ b. b || false) r),
  list_any-append (closes s e) log (x ∷ []) ∙ or_none (is_closed log s e) (closes s e x || false) u.1 (ap (λ b. b || false) c),
)

-- a socket whose end is changed stays there
pub end_none : (name : SockName) (e : End) (f : WorldEnd → WorldEnd) (world : World) (s : SockName) → find (is_socket_named s) (with_end_of name e f world).sockets ≡ None → find (is_socket_named s) world.sockets ≡ None
end_none name e f world s none = by_found (find (is_socket_named name) world.sockets) none where
  by_found : (o : Option WorldSocket) → find (is_socket_named s) (elim o as (λ o. World) [
    | None ↦ world
    | Some socket ↦ with_socket (with_end e (f (end_of e socket)) socket) world
  ]).sockets ≡ None → find (is_socket_named s) world.sockets ≡ None
  by_found None n = n
  by_found (Some socket) n = (none_stored (with_end e (f (end_of e socket)) socket) world.sockets s n).1

-- an end that is there isn't one of a socket that isn't
not_there : (place sock : ℕ) (world : World) (at : SockName × End) → find_end place sock world.sockets ≡ Some at → (s : SockName) (e : End) → find (is_socket_named s) world.sockets ≡ None → is_one at (s, e) ≡ false
not_there place sock world at found s e none = by_one (is_one at (s, e)) refl where
  not_both : (o : Option WorldSocket) (w : WorldSocket) → o ≡ Some w → o ≡ None → ⊥
  not_both o w p q = absurd cc

  by_one : (b : Bool) → is_one at (s, e) ≡ b → b ≡ false
  by_one false h = refl
  by_one true h = let held = found_end place sock world.sockets at found in
      absurd (not_both (find (is_socket_named s) world.sockets) held.socket (ap (λ (m : SockName × End). find (is_socket_named m.0) world.sockets) (sym (one_is at (s, e) h)) ∙ held.is) none)

-- ---- a step

-- nothing is told still of what isn't there, and what was dialed is new
abbrev KeepsUntold : List Entry → List Entry × World → Type 0
KeepsUntold log done = Untold (log ++ done.0) done.1 × (each_after dials_new log done.0 ≡ true)

nothing_told : (log : List Entry) (world : World) → Untold log world → KeepsUntold log ([], world)
nothing_told log world u = (subst (λ (l : List Entry). Untold l world) (sym (append-nil log)) u, refl)

on_one : (log : List Entry) (place sock : ℕ) (f : SockName × End → World → List Entry × World) (world : World) → Untold log world → ((at : SockName × End) → find_end place sock world.sockets ≡ Some at → KeepsUntold log (f at world)) → KeepsUntold log (on_end place sock f world)
on_one log place sock f world u each = by_end (find_end place sock world.sockets) refl where
  by_end : (o : Option (SockName × End)) → find_end place sock world.sockets ≡ o → KeepsUntold log (elim o as (λ o. List Entry × World) [
    | None ↦ ([], world)
    | Some at ↦ f at world
  ])
  by_end None e = nothing_told log world u
  by_end (Some at) e = each at e

read_untold : (log : List Entry) (at : SockName × End) (world : World) → Untold log world → KeepsUntold log (reads_item at world)
read_untold log at world u = (subst (λ (l : List Entry). Untold l (reads_item at world).1) (sym (append-nil log)) (λ s e none. u s e (before s (find (is_socket_named at.0) world.sockets) none)), refl) where
  before : (s : SockName) (o : Option WorldSocket) → find (is_socket_named s) (item_is_read at o world).sockets ≡ None → find (is_socket_named s) world.sockets ≡ None
  before s None none = none
  before s (Some socket) none = end_none at.0 at.1 (λ end. record end { places = later_places end.places }) world s none

step_untold : (journal : List Line) (seen log : List Entry) (place : ℕ) (cell : Cell) (step : Step) (world : World) → Good journal seen world → Untold log world → KeepsUntold log (stepped place cell step world)
step_untold journal seen log place cell (steps.Dial sock end peer) world g u = (λ s e none. still_untold log (entries.Dial new.name) s e refl refl (u s e (none_stored new world.sockets s none).1), is_new) where
  new : WorldSocket
  new = new_socket world (called world.names (own_address cell.host end)) (called world.names peer) cell.host.host (end_of_nobody (Some place) (Some sock) Pending) peer

  none : find (is_socket_named (next_name world (called world.names (own_address cell.host end)) (called world.names peer))) world.sockets ≡ None
  none = next_is_new world (called world.names (own_address cell.host end)) (called world.names peer) g.numbered

  by_parts : (a b c : Bool) → a ≡ false → b ≡ false → c ≡ false → ((not a && (not b && not c)) && true) ≡ true
  by_parts false false false p q r = refl
  by_parts true b c p q r = absurd cc
  by_parts false true c p q r = absurd cc
  by_parts false false true p q r = absurd cc

  is_new : each_after dials_new log (entries.Dial (next_name world (called world.names (own_address cell.host end)) (called world.names peer)) ∷ []) ≡ true
  is_new = let name : SockName = next_name world (called world.names (own_address cell.host end)) (called world.names peer) in
      by_parts (is_closed log name O) (has_risen log name O) (has_risen log name T) (u name O none).1 (u name O none).0 (u name T none).0
step_untold journal seen log place cell (steps.Read sock) world g u = on_one log place sock reads_item world u (λ at found. read_untold log at world u)
step_untold journal seen log place cell (steps.Write sock bytes said) world g u = on_one log place sock (λ at now. (entries.Wrote at.0 at.1 bytes ∷ [], with_end_of at.0 (other at.1) (item_arrives bytes said) now)) world u
    (λ at found. (λ s e none. still_untold log (entries.Wrote at.0 at.1 bytes) s e refl refl (u s e (end_none at.0 (other at.1) (item_arrives bytes said) world s none)), refl))
step_untold journal seen log place cell (steps.Up sock) world g u = on_one log place sock (λ at now. (entries.Up at.0 at.1 ∷ [], now)) world u
    (λ at found. (λ s e none. still_untold log (entries.Up at.0 at.1) s e (not_there place sock world at found s e none) refl (u s e none), refl))
step_untold journal seen log place cell (steps.Down sock) world g u = on_one log place sock (λ at now. (entries.Down at.0 at.1 ∷ [], end_closes at now)) world u
    (λ at found. (λ s e none. let was = end_none at.0 at.1 ended world s none in still_untold log (entries.Down at.0 at.1) s e refl (not_there place sock world at found s e was) (u s e was), refl))
step_untold journal seen log place cell (steps.Left sock) world g u = on_one log place sock (λ at now. (entries.Left at.0 at.1 ∷ [], end_closes at now)) world u
    (λ at found. (λ s e none. let was = end_none at.0 at.1 ended world s none in still_untold log (entries.Left at.0 at.1) s e refl (not_there place sock world at found s e was) (u s e was), refl))
step_untold journal seen log place cell (steps.Broke end peer why) world g u = (λ s e none. still_untold log _ s e refl refl (u s e none), refl)
step_untold journal seen log place cell (steps.Post end event) world g u = nothing_told log world u

-- ---- a call

all_new : (journal : List Line) (seen log : List Entry) (place : ℕ) (cell : Cell) (told : List Step) (world : World) → Good journal seen world → Untold log world → each_after dials_new log (all_told place cell (told_steps told) world).0 ≡ true
all_new journal seen log place cell [] world g u = refl
all_new journal seen log place cell (step ∷ rest) world g u = let one = step_untold journal seen log place cell step world g u in
    each_append dials_new log (stepped place cell step world).0 (all_told place cell (told_steps rest) (stepped place cell step world).1).0 one.1
    (all_new journal (seen ++ (stepped place cell step world).0) (log ++ (stepped place cell step world).0) place cell rest (stepped place cell step world).1 ((keeps_good journal).step seen world place cell step g) one.0)

pub call_new : (journal : List Line) (seen log : List Entry) (place : ℕ) (cell : Cell × ℕ) (told : List Step) (host : HostState) (world : World) → Good journal seen world → Untold log world → each_after dials_new log (done_at place cell told host world).0 ≡ true
call_new journal seen log place cell told host world g u = all_new journal seen log place (with_host cell host) told (with_cell place (with_host cell host, cell.1) world) ((keeps_good journal).cell seen world place (with_host cell host, cell.1) g) u
