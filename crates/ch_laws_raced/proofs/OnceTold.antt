-- Which dials a call tells: those of its steps, each between the names of its endpoint and of its peer.
use Rattle.std.proofs.Common.{◌≡◌, ◌⊎◌, inl, inr, ℕ, Bool, true, false, cond, ◌&&◌, ◌||◌, List, [], ◌∷◌, ◌++◌, refl, sym, ap, ◌∙◌, subst}
use Rattle.std.proofs.lemmas.Bool.{and_parts, eq-eqb}
use Rattle.std.proofs.lemmas.List.{append-nil}
use Rattle.std.proofs.lemmas.List.Folds.{list_any-append, list_all-append}
use Rattle.std.proofs.lemmas.Slice.Eq.{bytes_eq-Decides}
use Rattle.std.specs.List.{list_all, fold}
use Rattle.std.specs.Prelude.{Option, Some, None}
use Rattle.std.specs.Str.{bytes_eq}
use Rattle.ch_base.specs.declared.address.Address.{Address}
use Rattle.ch_watch.specs.Same.{same_node}
use Rattle.ch_model.specs.declared.entry.Entry.{Entry}
use Rattle.ch_model.specs.declared.entry.Entry.TheVariants as entries
use Rattle.ch_model.specs.declared.name.End.{End}
use Rattle.ch_model.specs.declared.name.SockName.{SockName}
use Rattle.ch_model.specs.declared.note.Note.{Note}
use Rattle.ch_model.specs.declared.note.Note.TheVariants as notes
use Rattle.ch_model.specs.declared.step.Place.{Place}
use Rattle.ch_model.specs.declared.step.Step.{Step}
use Rattle.ch_model.specs.declared.step.Step.TheVariants as steps
use Rattle.ch_model.specs.CellSteps.{told_steps}
use Rattle.ch_model.specs.HostSteps.{own_address}
use Rattle.ch_model.specs.Epochs.{breaks}
use Rattle.ch_model.specs.Links.{dials_to}
use Rattle.ch_model.specs.Logs.{since}
use Rattle.ch_model.specs.Naming.{Names, called}
use Rattle.ch_model.specs.WorldSockets.{other, item_arrives, with_end_of, find_end}
use Rattle.ch_model.specs.WorldState.{Cell, World}
use Rattle.ch_model.specs.WorldSteps.{note_entry, on_end, reads_item, end_closes, stepped, all_told}
use Rattle.ch_laws_log.proofs.Homes.{node_self}
use Rattle.ch_laws_log.proofs.Stored.{bytes_same}
use Rattle.ch_laws_bytes.proofs.Told.{told_names}
use Rattle.ch_laws_live.proofs.Logs.{clash, or_either}
use Rattle.ch_laws_calls.proofs.ScenesPlaces.{first_or, second_or}
use Rattle.ch_laws_raced.specs.UnbrokenBreaks.{is_no_break, NoBreaks}
use Rattle.ch_laws_raced.specs.OnceBegun.{is_dial_for, has_dial_for}
use Rattle.ch_laws_raced.specs.OnceOnce.{has_dial}

-- ---- of a call

-- an endpoint of the cell's host dials a peer in these steps, and they are called so
pub record IsDialed (known : Names) (cell : Cell) (x y : List ℕ) (told : List Step) : Type 0 where
  pub end : ℕ
  pub peer : Address
  pub own : called known (own_address cell.host end) ≡ x
  pub its : called known peer ≡ y
  pub dials : has_dial_for end peer told ≡ true

later : (known : Names) (cell : Cell) (x y : List ℕ) (step : Step) (rest : List Step) → IsDialed known cell x y rest → IsDialed known cell x y (step ∷ rest)
later known cell x y step rest d = record { end = d.end; peer = d.peer; own = d.own; its = d.its; dials = second_or (is_dial_for d.end d.peer step) (has_dial_for d.end d.peer rest) d.dials }

-- a step at an end dials nothing
on_one : (x y : List ℕ) (place sock : ℕ) (f : SockName × End → World → List Entry × World) (world : World) → ((at : SockName × End) → has_dial (f at world).0 x y ≡ false) → has_dial (on_end place sock f world).0 x y ≡ false
on_one x y place sock f world each = by_end (find_end place sock world.sockets) where
  by_end : (o : Option (SockName × End)) → has_dial (elim o as (λ o. List Entry × World) [
    | None ↦ ([], world)
    | Some at ↦ f at world
  ]).0 x y ≡ false
  by_end None = refl
  by_end (Some at) = each at

step_dials : (place : ℕ) (cell : Cell) (step : Step) (rest : List Step) (world : World) (x y : List ℕ) → has_dial (stepped place cell step world).0 x y ≡ true → IsDialed world.names cell x y (step ∷ rest)
step_dials place cell (steps.Dial sock end peer) rest world x y d = record {
  end = end;
  peer = peer;
  own = (bytes_eq-Decides (called world.names (own_address cell.host end)) x).0 parts.0;
  its = (bytes_eq-Decides (called world.names peer) y).0 parts.1;
  dials = first_or (is_dial_for end peer (steps.Dial sock end peer)) (has_dial_for end peer rest) (ap (λ b. b && same_node peer peer) (eq-eqb end end refl) ∙ node_self peer);
} where
  or_false : (b : Bool) → (b || false) ≡ true → b ≡ true
  or_false true e = refl
  or_false false e = e

  parts : (bytes_eq (called world.names (own_address cell.host end)) x ≡ true) × (bytes_eq (called world.names peer) y ≡ true)
  parts = and_parts (bytes_eq (called world.names (own_address cell.host end)) x) (bytes_eq (called world.names peer) y) (or_false (bytes_eq (called world.names (own_address cell.host end)) x && bytes_eq (called world.names peer) y) d)
step_dials place cell (steps.Read sock) rest world x y d = absurd (clash _ d (on_one x y place sock reads_item world (λ at. refl)))
step_dials place cell (steps.Write sock bytes said) rest world x y d = absurd (clash _ d (on_one x y place sock (λ at now. (entries.Wrote at.0 at.1 bytes ∷ [], with_end_of at.0 (other at.1) (item_arrives bytes said) now)) world (λ at. refl)))
step_dials place cell (steps.Up sock) rest world x y d = absurd (clash _ d (on_one x y place sock (λ at now. (entries.Up at.0 at.1 ∷ [], now)) world (λ at. refl)))
step_dials place cell (steps.Down sock) rest world x y d = absurd (clash _ d (on_one x y place sock (λ at now. (entries.Down at.0 at.1 ∷ [], end_closes at now)) world (λ at. refl)))
step_dials place cell (steps.Left sock) rest world x y d = absurd (clash _ d (on_one x y place sock (λ at now. (entries.Left at.0 at.1 ∷ [], end_closes at now)) world (λ at. refl)))
step_dials place cell (steps.Broke end peer why) rest world x y d = absurd cc
step_dials place cell (steps.Post end event) rest world x y d = absurd cc

pub told_dials : (place : ℕ) (cell : Cell) (told : List Step) (world : World) (x y : List ℕ) → has_dial (all_told place cell (told_steps told) world).0 x y ≡ true → IsDialed world.names cell x y told
told_dials place cell [] world x y d = absurd cc
told_dials place cell (step ∷ rest) world x y d = by_either (told_dials place cell rest next x y) (or_either (has_dial one x y) (has_dial more x y) (sym (list_any-append (dials_to x y) one more) ∙ d)) where
  next : World
  next = (stepped place cell step world).1

  one : List Entry
  one = (stepped place cell step world).0

  more : List Entry
  more = (all_told place cell (told_steps rest) next).0

  named : next.names ≡ world.names
  named = told_names place cell (told_steps (step ∷ [])) world

  by_either : (has_dial more x y ≡ true → IsDialed next.names cell x y rest) → (has_dial one x y ≡ true) ⊎ (has_dial more x y ≡ true) → IsDialed world.names cell x y (step ∷ rest)
  by_either further (inl h) = step_dials place cell step rest world x y h
  by_either further (inr h) = later world.names cell x y step rest (subst (λ (known : Names). IsDialed known cell x y rest) named (further h))

-- ---- of entries

-- a note dials nothing
pub note_dials : (known : Names) (last : Option Place) (note : Note) (x y : List ℕ) → dials_to x y (note_entry known last note) ≡ false
note_dials known last (notes.Made process origin) x y = refl
note_dials known last note x y = refl

-- a dial is of the names of its socket
pub dials_self : (s : SockName) → dials_to s.from s.to (entries.Dial s) ≡ true
dials_self s = ap (λ b. b && bytes_eq s.to s.to) (bytes_same s.from) ∙ bytes_same s.to

-- where nothing breaks all of a log stands since the last break
no_break : (x y : List ℕ) (entry : Entry) → is_no_break entry ≡ true → breaks x y entry ≡ false
no_break x y (entries.Broke node peer why) n = absurd cc
no_break x y entry n = refl

since_from : (x y : List ℕ) (kept log : List Entry) → NoBreaks log → fold (λ (kept : List Entry) (entry : Entry). cond (breaks x y entry) [] (kept ++ entry ∷ [])) kept log ≡ kept ++ log
since_from x y kept [] n = sym (append-nil kept)
since_from x y kept (entry ∷ log) n = let parts = and_parts (is_no_break entry) (list_all is_no_break log) n in
    ap (λ b. fold (λ (kept : List Entry) (entry : Entry). cond (breaks x y entry) [] (kept ++ entry ∷ [])) (cond b [] (kept ++ entry ∷ [])) log) (no_break x y entry parts.0) ∙ since_from x y (kept ++ entry ∷ []) log parts.1 ∙ appended kept where
      appended : (kept : List Entry) → (kept ++ entry ∷ []) ++ log ≡ kept ++ entry ∷ log
      appended [] = refl
      appended (first ∷ rest) = ap (λ (l : List Entry). first ∷ l) (appended rest)

pub since_all : (x y : List ℕ) (log : List Entry) → NoBreaks log → since (breaks x y) log ≡ log
since_all x y log n = since_from x y [] log n

pub front_unbroken : (front back : List Entry) → NoBreaks (front ++ back) → NoBreaks front
front_unbroken front back n = (and_parts (list_all is_no_break front) (list_all is_no_break back) (sym (list_all-append is_no_break front back) ∙ n)).0

pub back_unbroken : (front back : List Entry) → NoBreaks (front ++ back) → NoBreaks back
back_unbroken front back n = (and_parts (list_all is_no_break front) (list_all is_no_break back) (sym (list_all-append is_no_break front back) ∙ n)).1

-- what stands after the same front is the same
pub after_front : (front one two : List Entry) → front ++ one ≡ front ++ two → one ≡ two
after_front [] one two e = e
after_front (x ∷ front) one two e = after_front front one two cc
