-- Worlds that differ in their nodes alone go on alike.
use Rattle.std.specs.Prelude.{◌≡◌, ℕ, List, [], ◌∷◌, ◌++◌, find, Option, Some, None}
use Rattle.std.proofs.Common.{refl, ap, ◌∙◌, subst}
use Rattle.ch_base.specs.declared.address.Address.{Address}
use Rattle.ch_model.specs.declared.entry.Entry.{Entry}
use Rattle.ch_model.specs.declared.entry.Entry.TheVariants as entries
use Rattle.ch_model.specs.declared.local.LocalEntry.{LocalEntry}
use Rattle.ch_model.specs.declared.local.LocalEntry.TheVariants as local
use Rattle.ch_model.specs.declared.name.End.{End}
use Rattle.ch_model.specs.declared.name.SockName.{SockName}
use Rattle.ch_model.specs.declared.step.Step.{Step}
use Rattle.ch_model.specs.declared.step.Step.TheVariants as steps
use Rattle.ch_model.specs.Stages.{Pending}
use Rattle.ch_model.specs.HostSteps.{own_address}
use Rattle.ch_model.specs.Naming.{called}
use Rattle.ch_model.specs.WorldState.{Cell, WorldEnd, WorldSocket, World}
use Rattle.ch_model.specs.WorldSockets.{end_of, other, with_end, with_socket, with_end_of, is_socket_named, store_in, find_end, ended, item_arrives, end_of_nobody, next_name, cell_of, target_end}
use Rattle.ch_model.specs.WorldSteps.{later_places, dials, on_end, item_is_read, reads_item, end_closes, stepped, all_told, place_after}
use Rattle.ch_model.specs.CellSteps.{told_steps}
use Rattle.ch_laws_race.specs.Chains.{steps_told}

-- two worlds of the same names, sockets and places of hosts
pub record Same (v w : World) : Type 0 where
  pub names : v.names ≡ w.names
  pub sockets : v.sockets ≡ w.sockets
  pub places : (a : Address) → cell_of v a ≡ cell_of w a

-- the second with the first one's names and sockets
abbrev As : World → World → World
As v w = record w { names = v.names; sockets = v.sockets }

as_is : (v w : World) → Same v w → As v w ≡ w
as_is v w h = ap (λ z. record w { names = z; sockets = v.sockets }) h.names ∙ ap (λ (z : List WorldSocket). record w { sockets = z }) h.sockets

as_same : (v w : World) → Same v w → Same v (As v w)
as_same v w h = record { names = refl; sockets = refl; places = h.places }

module _ (v w : World) (h : Same v w) where
  abbrev U : World
  U = As v w

  same_u : Same v U
  same_u = as_same v w h

  with_sockets : (xs : List WorldSocket) → Same (record v { sockets = xs }) (record U { sockets = xs })
  with_sockets xs = record { names = refl; sockets = refl; places = h.places }

  end_same : (name : SockName) (e : End) (f : WorldEnd → WorldEnd) → Same (with_end_of name e f v) (with_end_of name e f U)
  end_same name e f = by_found (find (is_socket_named name) v.sockets) where
    by_found : (o : Option WorldSocket) → Same (elim o [ None ↦ v | Some socket ↦ with_socket (with_end e (f (end_of e socket)) socket) v ]) (elim o [ None ↦ U | Some socket ↦ with_socket (with_end e (f (end_of e socket)) socket) U ])
    by_found None = same_u
    by_found (Some socket) = with_sockets (store_in (with_end e (f (end_of e socket)) socket) v.sockets)

  read_same : (at : SockName × End) → Same (reads_item at v).1 (reads_item at U).1
  read_same at = by_found (find (is_socket_named at.0) v.sockets) where
    by_found : (o : Option WorldSocket) → Same (item_is_read at o v) (item_is_read at o U)
    by_found None = same_u
    by_found (Some socket) = let s = end_same at.0 at.1 (λ end. record end { places = later_places end.places }) in record { names = s.names; sockets = s.sockets; places = s.places }

  abbrev Picked : (SockName × End → World → List Entry × World) → World → Option (SockName × End) → List Entry × World
  Picked f u None = ([], u)
  Picked f u (Some at) = f at u

  found_same : (place sock : ℕ) (f : SockName × End → World → List Entry × World) → ((at : SockName × End) → Same (f at v).1 (f at U).1) → Same (on_end place sock f v).1 (on_end place sock f U).1
  found_same place sock f each = by_found (find_end place sock v.sockets) where
    by_found : (o : Option (SockName × End)) → Same (Picked f v o).1 (Picked f U o).1
    by_found None = same_u
    by_found (Some at) = each at

  abbrev Dialed : ℕ → ℕ → List ℕ → Address → Address → Option ℕ → WorldSocket
  Dialed place sock from_host own peer o = record { name = next_name v (called v.names own) (called v.names peer); from_host = from_host; o = end_of_nobody (Some place) (Some sock) Pending; t = target_end o }

  dial_same : (place sock : ℕ) (from_host : List ℕ) (own peer : Address) → Same (dials place sock from_host own peer v).1 (dials place sock from_host own peer U).1
  dial_same place sock from_host own peer = record { names = refl; sockets = ap (λ (o : Option ℕ). store_in (Dialed place sock from_host own peer o) v.sockets) (h.places peer); places = h.places }

  step_u : (place : ℕ) (c : Cell) (step : Step) → Same (stepped place c step v).1 (stepped place c step U).1
  step_u place c (steps.Dial sock end peer) = dial_same place sock c.host.host (own_address c.host end) peer
  step_u place c (steps.Read sock) = found_same place sock reads_item read_same
  step_u place c (steps.Write sock bytes said) = found_same place sock (λ at now. (entries.Wrote at.0 at.1 bytes ∷ [], with_end_of at.0 (other at.1) (item_arrives bytes said) now)) (λ at. end_same at.0 (other at.1) (item_arrives bytes said))
  step_u place c (steps.Up sock) = found_same place sock (λ at now. (entries.Up at.0 at.1 ∷ [], now)) (λ at. same_u)
  step_u place c (steps.Down sock) = found_same place sock (λ at now. (entries.Down at.0 at.1 ∷ [], end_closes at now)) (λ at. end_same at.0 at.1 ended)
  step_u place c (steps.Left sock) = found_same place sock (λ at now. (entries.Left at.0 at.1 ∷ [], end_closes at now)) (λ at. end_same at.0 at.1 ended)
  step_u place c (steps.Broke end peer why) = same_u
  step_u place c (steps.Post end event) = same_u

-- the cell's host matters by its text and its port alone
by_text : (place : ℕ) (c d : Cell) (step : Step) (w : World) → c.host.host ≡ d.host.host → c.host.port ≡ d.host.port → (stepped place c step w).1 ≡ (stepped place d step w).1
by_text place c d (steps.Dial sock end peer) w text port = ap (λ (z : List ℕ). (dials place sock z (record { host = z; port = c.host.port; id = end }) peer w).1) text
    ∙ ap (λ (z : ℕ). (dials place sock d.host.host (record { host = d.host.host; port = z; id = end }) peer w).1) port
by_text place c d (steps.Read sock) w text port = refl
by_text place c d (steps.Write sock bytes said) w text port = refl
by_text place c d (steps.Up sock) w text port = refl
by_text place c d (steps.Down sock) w text port = refl
by_text place c d (steps.Left sock) w text port = refl
by_text place c d (steps.Broke end peer why) w text port = refl
by_text place c d (steps.Post end event) w text port = refl

step_same : (place : ℕ) (c d : Cell) (step : Step) (v w : World) → c.host.host ≡ d.host.host → c.host.port ≡ d.host.port → Same v w → Same (stepped place c step v).1 (stepped place d step w).1
step_same place c d step v w text port h = subst (λ (z : World). Same (stepped place c step v).1 z) (by_text place c d step w text port)
    (subst (λ (z : World). Same (stepped place c step v).1 (stepped place c step z).1) (as_is v w h) (step_u v w h place c step))

-- notes change nothing of it
pub all_same : (place : ℕ) (c d : Cell) (told : List LocalEntry) (v w : World) → c.host.host ≡ d.host.host → c.host.port ≡ d.host.port → Same v w → Same (all_told place c told v).1 (all_told place d (told_steps (steps_told told)) w).1
all_same place c d [] v w text port h = h
all_same place c d (local.Note note ∷ rest) v w text port h = all_same place c d rest (record v { last = place_after v.last note }) w text port (record { names = h.names; sockets = h.sockets; places = h.places })
all_same place c d (local.Step step ∷ rest) v w text port h = all_same place c d rest (stepped place c step v).1 (stepped place d step w).1 text port (step_same place c d step v w text port h)

-- steps after steps
pub told_after : (place : ℕ) (c : Cell) (a b : List Step) (w : World) → (all_told place c (told_steps (a ++ b)) w).1 ≡ (all_told place c (told_steps b) (all_told place c (told_steps a) w).1).1
told_after place c [] b w = refl
told_after place c (step ∷ a) b w = told_after place c a b (stepped place c step w).1

-- ---- cells stay

end_cells : (name : SockName) (e : End) (f : WorldEnd → WorldEnd) (w : World) → (with_end_of name e f w).cells ≡ w.cells
end_cells name e f w = by_found (find (is_socket_named name) w.sockets) where
  by_found : (o : Option WorldSocket) → (elim o as (λ o. World) [ None ↦ w | Some socket ↦ with_socket (with_end e (f (end_of e socket)) socket) w ]).cells ≡ w.cells
  by_found None = refl
  by_found (Some socket) = refl

found_cells : (place sock : ℕ) (f : SockName × End → World → List Entry × World) (w : World) → ((at : SockName × End) → (f at w).1.cells ≡ w.cells) → (on_end place sock f w).1.cells ≡ w.cells
found_cells place sock f w each = by_found (find_end place sock w.sockets) where
  by_found : (o : Option (SockName × End)) → (elim o as (λ o. List Entry × World) [ None ↦ ([], w) | Some at ↦ f at w ]).1.cells ≡ w.cells
  by_found None = refl
  by_found (Some at) = each at

read_cells : (at : SockName × End) (w : World) → (reads_item at w).1.cells ≡ w.cells
read_cells at w = by_found (find (is_socket_named at.0) w.sockets) where
  by_found : (o : Option WorldSocket) → (item_is_read at o w).cells ≡ w.cells
  by_found None = refl
  by_found (Some socket) = end_cells at.0 at.1 (λ end. record end { places = later_places end.places }) w

step_cells : (place : ℕ) (c : Cell) (step : Step) (w : World) → (stepped place c step w).1.cells ≡ w.cells
step_cells place c (steps.Dial sock end peer) w = refl
step_cells place c (steps.Read sock) w = found_cells place sock reads_item w (λ at. read_cells at w)
step_cells place c (steps.Write sock bytes said) w = found_cells place sock (λ at now. (entries.Wrote at.0 at.1 bytes ∷ [], with_end_of at.0 (other at.1) (item_arrives bytes said) now)) w (λ at. end_cells at.0 (other at.1) (item_arrives bytes said) w)
step_cells place c (steps.Up sock) w = found_cells place sock (λ at now. (entries.Up at.0 at.1 ∷ [], now)) w (λ at. refl)
step_cells place c (steps.Down sock) w = found_cells place sock (λ at now. (entries.Down at.0 at.1 ∷ [], end_closes at now)) w (λ at. end_cells at.0 at.1 ended w)
step_cells place c (steps.Left sock) w = found_cells place sock (λ at now. (entries.Left at.0 at.1 ∷ [], end_closes at now)) w (λ at. end_cells at.0 at.1 ended w)
step_cells place c (steps.Broke end peer why) w = refl
step_cells place c (steps.Post end event) w = refl

pub all_cells : (place : ℕ) (c : Cell) (told : List LocalEntry) (w : World) → (all_told place c told w).1.cells ≡ w.cells
all_cells place c [] w = refl
all_cells place c (local.Note note ∷ rest) w = all_cells place c rest (record w { last = place_after w.last note })
all_cells place c (local.Step step ∷ rest) w = all_cells place c rest (stepped place c step w).1 ∙ step_cells place c step w
