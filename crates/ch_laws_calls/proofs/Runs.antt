-- What a cell tells keeps a claim: one thing after another, where the world has the cell as it is in the end from the start on.
use Rattle.std.specs.Prelude.{◌≡◌, ℕ, List, [], ◌∷◌, ◌++◌, find, slice_get, Option, Some, None}
use Rattle.std.proofs.Common.{refl, ap, sym, ◌∙◌, subst, append_assoc}
use Rattle.std.proofs.lemmas.List.{append-nil}
use Rattle.ch_base.specs.declared.address.Address.{Address}
use Rattle.ch_model.specs.declared.entry.Entry.{Entry}
use Rattle.ch_model.specs.declared.entry.Entry.TheVariants as entries
use Rattle.ch_model.specs.declared.local.LocalEntry.{LocalEntry}
use Rattle.ch_model.specs.declared.local.LocalEntry.TheVariants as local
use Rattle.ch_model.specs.declared.name.End.{End}
use Rattle.ch_model.specs.declared.name.SockName.{SockName}
use Rattle.ch_model.specs.declared.step.Step.{Step}
use Rattle.ch_model.specs.declared.step.Step.TheVariants as steps
use Rattle.ch_model.specs.CellSteps.{told_steps}
use Rattle.ch_model.specs.HostSteps.{own_address}
use Rattle.ch_model.specs.Naming.{called}
use Rattle.ch_model.specs.Stages.{Pending}
use Rattle.ch_model.specs.WorldHappenings.{with_cell}
use Rattle.ch_model.specs.WorldSockets.{end_of, other, with_end, ended, item_arrives, end_of_nobody, is_socket_named, store_in, with_socket, with_end_of, find_end, next_name, target_end}
use Rattle.ch_model.specs.WorldState.{Cell, WorldEnd, WorldSocket, World}
use Rattle.ch_model.specs.WorldSteps.{first_place, later_places, on_end, dials, item_is_read, reads_item, end_closes, stepped, local_told, after_told, all_told}
use Rattle.ch_laws_items.specs.Kept.{Apart}
use Rattle.ch_laws_ends.proofs.Changes.{told_cells}
use Rattle.ch_laws_ends.proofs.Places.{got_same, set_twice}
use Rattle.ch_laws_race.specs.Chains.{unposted}
use Rattle.ch_laws_race.proofs.InTurn.{cell_stays}
use Rattle.ch_laws_race.proofs.Sockets.{set_same}
use Rattle.ch_laws_calls.specs.Calls.{Claim}

-- ---- the cell is kept in its place before what it tells, or after

-- the cell is kept in its place after what was told
abbrev put : ℕ → Cell × ℕ → List Entry × World → List Entry × World
put place cell done = (done.0, with_cell place cell done.1)

-- the two cells are at one host and port
module _ (place : ℕ) (c d : Cell) (count : ℕ) (text : d.host.host ≡ c.host.host) (port : d.host.port ≡ c.host.port) where
  abbrev In : World → World
  In world = with_cell place (d, count) world

  abbrev Put : List Entry × World → List Entry × World
  Put done = put place (d, count) done

  end_moved : (name : SockName) (e : End) (f : WorldEnd → WorldEnd) (world : World) → with_end_of name e f (In world) ≡ In (with_end_of name e f world)
  end_moved name e f world = by_found (find (is_socket_named name) world.sockets) where
    by_found : (o : Option WorldSocket) → (elim o as (λ o. World) [ None ↦ In world | Some socket ↦ with_socket (with_end e (f (end_of e socket)) socket) (In world) ]) ≡ In (elim o as (λ o. World) [ None ↦ world | Some socket ↦ with_socket (with_end e (f (end_of e socket)) socket) world ])
    by_found None = refl
    by_found (Some socket) = refl

  read_moved : (at : SockName × End) (world : World) → reads_item at (In world) ≡ Put (reads_item at world)
  read_moved at world = by_found (find (is_socket_named at.0) world.sockets) where
    by_found : (o : Option WorldSocket) → ◌≡◌ {A = List Entry × World} ([], item_is_read at o (In world)) ([], In (item_is_read at o world))
    by_found None = refl
    by_found (Some socket) = ap (λ (w : World). ([], record w { last = first_place (end_of at.1 socket).places })) (end_moved at.0 at.1 (λ end. record end { places = later_places end.places }) world)

  found_moved : (sock : ℕ) (f : SockName × End → World → List Entry × World) (world : World) → ((at : SockName × End) → f at (In world) ≡ Put (f at world)) → on_end place sock f (In world) ≡ Put (on_end place sock f world)
  found_moved sock f world each = by_found (find_end place sock world.sockets) where
    by_found : (o : Option (SockName × End)) → (elim o as (λ o. List Entry × World) [ None ↦ ([], In world) | Some at ↦ f at (In world) ]) ≡ Put (elim o as (λ o. List Entry × World) [ None ↦ ([], world) | Some at ↦ f at world ])
    by_found None = refl
    by_found (Some at) = each at

  dial_moved : (sock : ℕ) (from_host : List ℕ) (own peer : Address) (world : World) → slice_get world.cells place ≡ Some (c, count) → dials place sock from_host own peer (In world) ≡ Put (dials place sock from_host own peer world)
  dial_moved sock from_host own peer world at = ap (λ (o : Option ℕ). (entries.Dial name ∷ [], In (record world { sockets = store_in (dialed o) world.sockets }))) (cell_stays world place (c, count) (d, count) peer at text port) where
    name : SockName
    name = next_name world (called world.names own) (called world.names peer)

    dialed : Option ℕ → WorldSocket
    dialed o = record { name = name; from_host = from_host; o = end_of_nobody (Some place) (Some sock) Pending; t = target_end o }

  step_moved : (step : Step) (world : World) → slice_get world.cells place ≡ Some (c, count) → stepped place d step (In world) ≡ Put (stepped place c step world)
  step_moved (steps.Dial sock end peer) world at = ap (λ (z : List ℕ). dials place sock z (record { host = z; port = d.host.port; id = end }) peer (In world)) text
      ∙ ap (λ (z : ℕ). dials place sock c.host.host (record { host = c.host.host; port = z; id = end }) peer (In world)) port
      ∙ dial_moved sock c.host.host (own_address c.host end) peer world at
  step_moved (steps.Read sock) world at = found_moved sock reads_item world (λ found. read_moved found world)
  step_moved (steps.Write sock bytes said) world at = found_moved sock (λ found now. (entries.Wrote found.0 found.1 bytes ∷ [], with_end_of found.0 (other found.1) (item_arrives bytes said) now)) world
      (λ found. ap (λ (w : World). (entries.Wrote found.0 found.1 bytes ∷ [], w)) (end_moved found.0 (other found.1) (item_arrives bytes said) world))
  step_moved (steps.Up sock) world at = found_moved sock (λ found now. (entries.Up found.0 found.1 ∷ [], now)) world (λ found. refl)
  step_moved (steps.Down sock) world at = found_moved sock (λ found now. (entries.Down found.0 found.1 ∷ [], end_closes found now)) world (λ found. ap (λ (w : World). (entries.Down found.0 found.1 ∷ [], w)) (end_moved found.0 found.1 ended world))
  step_moved (steps.Left sock) world at = found_moved sock (λ found now. (entries.Left found.0 found.1 ∷ [], end_closes found now)) world (λ found. ap (λ (w : World). (entries.Left found.0 found.1 ∷ [], w)) (end_moved found.0 found.1 ended world))
  step_moved (steps.Broke end peer why) world at = ap (λ (z : List ℕ). (entries.Broke (called world.names (record { host = z; port = d.host.port; id = end })) (called world.names peer) why ∷ [], In world)) text
      ∙ ap (λ (z : ℕ). (entries.Broke (called world.names (record { host = c.host.host; port = z; id = end })) (called world.names peer) why ∷ [], In world)) port
  step_moved (steps.Post end event) world at = refl

  one_moved : (entry : LocalEntry) (world : World) → slice_get world.cells place ≡ Some (c, count) → local_told place d entry (In world) ≡ Put (local_told place c entry world)
  one_moved (local.Step step) world at = step_moved step world at
  one_moved (local.Note note) world at = refl

  -- what is told is the same, and so is the world, but for the cell
  pub all_moved : (told : List LocalEntry) (world : World) → slice_get world.cells place ≡ Some (c, count) → all_told place d told (In world) ≡ Put (all_told place c told world)
  all_moved [] world at = refl
  all_moved (entry ∷ rest) world at = ap (λ (one : List Entry × World). after_told one.0 (all_told place d rest one.1)) (one_moved entry world at) ∙ ap (after_told (local_told place c entry world).0) (all_moved rest (local_told place c entry world).1 there) where
    there : slice_get (local_told place c entry world).1.cells place ≡ Some (c, count)
    there = ap (λ (l : List (Cell × ℕ)). slice_get l place) (told_cells place c (entry ∷ []) world) ∙ at

-- one part and then another
told_both : (place : ℕ) (cell : Cell) (one two : List LocalEntry) (world : World) → all_told place cell (one ++ two) world ≡ after_told (all_told place cell one world).0 (all_told place cell two (all_told place cell one world).1)
told_both place cell [] two world = refl
told_both place cell (entry ∷ one) two world =
    let first = local_told place cell entry world in
    let more = all_told place cell one first.1 in
    let last = all_told place cell two more.1 in
    ap (after_told first.0) (told_both place cell one two first.1) ∙ ap (λ (l : List Entry). (l, last.1)) (sym (append_assoc first.0 more.0 last.0))

-- what is posted is no entry
pub posts_untold : (place : ℕ) (cell : Cell) (done : List Step) (world : World) → all_told place cell (told_steps done) world ≡ all_told place cell (told_steps (unposted done)) world
posts_untold place cell [] world = refl
posts_untold place cell (steps.Post end event ∷ rest) world = posts_untold place cell rest world
posts_untold place cell (steps.Dial sock end peer ∷ rest) world = let one = stepped place cell (steps.Dial sock end peer) world in ap (after_told one.0) (posts_untold place cell rest one.1)
posts_untold place cell (steps.Read sock ∷ rest) world = let one = stepped place cell (steps.Read sock) world in ap (after_told one.0) (posts_untold place cell rest one.1)
posts_untold place cell (steps.Write sock bytes said ∷ rest) world = let one = stepped place cell (steps.Write sock bytes said) world in ap (after_told one.0) (posts_untold place cell rest one.1)
posts_untold place cell (steps.Up sock ∷ rest) world = let one = stepped place cell (steps.Up sock) world in ap (after_told one.0) (posts_untold place cell rest one.1)
posts_untold place cell (steps.Down sock ∷ rest) world = let one = stepped place cell (steps.Down sock) world in ap (after_told one.0) (posts_untold place cell rest one.1)
posts_untold place cell (steps.Left sock ∷ rest) world = let one = stepped place cell (steps.Left sock) world in ap (after_told one.0) (posts_untold place cell rest one.1)
posts_untold place cell (steps.Broke end peer why ∷ rest) world = let one = stepped place cell (steps.Broke end peer why) world in ap (after_told one.0) (posts_untold place cell rest one.1)

-- ---- a cell goes on

-- what was told at a cell, and the world then, as it was kept there before
abbrev pub told_at : ℕ → ℕ → Cell → List LocalEntry → World → List Entry × World
told_at place count cell told world = all_told place cell told (with_cell place (cell, count) world)

-- the claim holds once that is told
abbrev pub HoldsAfter : Claim → List Entry → List Entry × World → Type 0
HoldsAfter J log done = J (log ++ done.0) done.1

-- From one cell to another what is told keeps the claim; the host stays where it is, and its sockets' numbers differ still.
pub record Runs (J : Claim) (place : ℕ) (before : Cell) (told : List LocalEntry) (after : Cell) : Type 0 where
  pub text : after.host.host ≡ before.host.host
  pub port : after.host.port ≡ before.host.port
  pub apart : Apart before.host.sockets → Apart after.host.sockets
  pub keeps : (log : List Entry) (world : World) (count : ℕ) → slice_get world.cells place ≡ Some (before, count) → J log world → HoldsAfter J log (told_at place count after told world)

-- the world as it is
pub as_it_is : (place : ℕ) (cell : Cell × ℕ) (world : World) → slice_get world.cells place ≡ Some cell → with_cell place cell world ≡ world
as_it_is place cell world at = ap (λ (l : List (Cell × ℕ)). record world { cells = l }) (set_same world.cells place cell at)

-- what was told in the middle keeps, and what follows
pub more_told : (J : Claim) (place count : ℕ) (before : Cell × ℕ) (mid after : Cell) (one two : List LocalEntry) (log : List Entry) (world : World) → slice_get world.cells place ≡ Some before → Runs J place mid two after
    → HoldsAfter J log (told_at place count mid one world) → HoldsAfter J log (told_at place count after (one ++ two) world)
more_told J place count before mid after one two log world at runs held = subst (HoldsAfter J log) (sym in_two) (subst (λ (l : List Entry). J l second.1) (append_assoc log first.0 second.0) (runs.keeps (log ++ first.0) first.1 count there held)) where
  kept : World
  kept = with_cell place (mid, count) world

  first : List Entry × World
  first = all_told place mid one kept

  second : List Entry × World
  second = told_at place count after two first.1

  at_kept : slice_get kept.cells place ≡ Some (mid, count)
  at_kept = got_same world.cells place before (mid, count) at

  there : slice_get first.1.cells place ≡ Some (mid, count)
  there = ap (λ (l : List (Cell × ℕ)). slice_get l place) (told_cells place mid one kept) ∙ at_kept

  begins : all_told place after one (with_cell place (after, count) world) ≡ put place (after, count) first
  begins = ap (λ (l : List (Cell × ℕ)). all_told place after one (record world { cells = l })) (sym (set_twice world.cells place (mid, count) (after, count)))
      ∙ all_moved place mid after count runs.text runs.port one kept at_kept

  in_two : told_at place count after (one ++ two) world ≡ after_told first.0 second
  in_two = told_both place after one two (with_cell place (after, count) world) ∙ ap (λ (done : List Entry × World). after_told done.0 (all_told place after two done.1)) begins

pub runs_both : (J : Claim) (place : ℕ) (before mid after : Cell) (one two : List LocalEntry) → Runs J place before one mid → Runs J place mid two after → Runs J place before (one ++ two) after
runs_both J place before mid after one two a b = record {
  text = b.text ∙ a.text;
  port = b.port ∙ a.port;
  apart = λ h. b.apart (a.apart h);
  keeps = λ log world count at j. more_told J place count (before, count) mid after one two log world at b (a.keeps log world count at j);
}

pub runs_none : (J : Claim) (place : ℕ) (cell : Cell) → Runs J place cell [] cell
runs_none J place cell = record {
  text = refl;
  port = refl;
  apart = λ h. h;
  keeps = λ log world count at j. subst (λ (w : World). J (log ++ []) w) (sym (as_it_is place (cell, count) world at)) (subst (λ (l : List Entry). J l world) (sym (append-nil log)) j);
}
