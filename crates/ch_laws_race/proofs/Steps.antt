-- What steps of a host do to the world's sockets.
use Rattle.std.specs.Prelude.{◌≡◌, ℕ, Bool, true, false, cond, ◌||◌, List, [], ◌∷◌, ◌++◌, slice_get, slice_set, Option, Some, None}
use Rattle.std.proofs.Common.{refl, ap, ◌∙◌}
use Rattle.std.proofs.lemmas.Option.{slice_get_within}
use Rattle.ch_light.proofs.Lists.{set_here}
use Rattle.ch_model.specs.declared.entry.Entry.{Entry}
use Rattle.ch_model.specs.declared.name.End.{End}
use Rattle.ch_model.specs.declared.name.SockName.{SockName}
use Rattle.ch_model.specs.declared.step.Place.{Place}
use Rattle.ch_model.specs.declared.step.Step.TheVariants as steps
use Rattle.ch_model.specs.Stages.{is_ended}
use Rattle.ch_model.specs.WorldState.{Cell, WorldEnd, WorldSocket, World}
use Rattle.ch_model.specs.WorldSockets.{end_of, other, with_end, with_end_of, is_end_of, find_end, ended, item_arrives}
use Rattle.ch_model.specs.declared.entry.Entry.TheVariants as entries
use Rattle.ch_model.specs.WorldSteps.{on_end, first_place, later_places, item_is_read, reads_item, stepped, end_closes}
use Rattle.ch_laws_race.specs.Sound.{AreApart}
use Rattle.ch_laws_race.proofs.Sockets.{Alike, alike_with, end_alike, set_apart, name_found, end_changed, end_found, set_set}

-- the end, as far as its places go
abbrev pub one_read : WorldEnd → WorldEnd
one_read end = record end { places = later_places end.places }

-- a socket where bytes arrive keeps its keys
pub arrived_alike : (e : End) (s t : WorldSocket) (bytes : List ℕ) (said : Option Place) → Alike s t → Alike s (with_end e (item_arrives bytes said (end_of e t)) t)
arrived_alike e s t bytes said a = alike_with e s t (item_arrives bytes said (end_of e t)) a (cell_by (is_ended (end_of e t).stage || (end_of e t).is_cut)) (number_by (is_ended (end_of e t).stage || (end_of e t).is_cut)) where
  cell_by : (b : Bool) → (cond b (end_of e t) (record (end_of e t) { unread = (end_of e t).unread ++ bytes; places = (end_of e t).places ++ said ∷ [] })).cell ≡ (end_of e t).cell
  cell_by true = refl
  cell_by false = refl

  number_by : (b : Bool) → (cond b (end_of e t) (record (end_of e t) { unread = (end_of e t).unread ++ bytes; places = (end_of e t).places ++ said ∷ [] })).number ≡ (end_of e t).number
  number_by true = refl
  number_by false = refl

-- a world whose i-th socket is s; a cell has its end e under a number
module _ (w : World) (i : ℕ) (first s : WorldSocket) (e : End) (place number : ℕ) (cell : Cell)
    (apart : AreApart w.sockets) (at : slice_get w.sockets i ≡ Some first) (alike : Alike first s) (own : is_end_of place number (end_of e first) ≡ true) where
  abbrev In : World
  In = record w { sockets = slice_set w.sockets i s }

  here : slice_get In.sockets i ≡ Some s
  here = set_here w.sockets i s (slice_get_within w.sockets i first at)

  apart_in : AreApart In.sockets
  apart_in = set_apart w.sockets i first s apart at alike

  own_in : is_end_of place number (end_of e s) ≡ true
  own_in = end_alike first s place number e alike ∙ own

  found : find_end place number In.sockets ≡ Some (s.name, e)
  found = end_found In.sockets i s e place number apart_in here own_in

  changed : (f : End) (g : WorldEnd → WorldEnd) → with_end_of s.name f g In ≡ record w { sockets = slice_set w.sockets i (with_end f (g (end_of f s)) s) }
  changed f g = end_changed In i s f g apart_in here ∙ ap (λ (xs : List WorldSocket). record w { sockets = xs }) (set_set w.sockets i s (with_end f (g (end_of f s)) s))

  abbrev told_at : (SockName × End → World → List Entry × World) → Option (SockName × End) → List Entry × World
  told_at f None = ([], In)
  told_at f (Some at) = f at In

  on_it : (f : SockName × End → World → List Entry × World) → (on_end place number f In).1 ≡ (f (s.name, e) In).1
  on_it f = ap (λ (o : Option (SockName × End)). (told_at f o).1) found

  pub writes_there : (bytes : List ℕ) (said : Option Place) → (stepped place cell (steps.Write number bytes said) In).1 ≡ record w { sockets = slice_set w.sockets i (with_end (other e) (item_arrives bytes said (end_of (other e) s)) s) }
  writes_there bytes said = on_it (λ at now. (entries.Wrote at.0 at.1 bytes ∷ [], with_end_of at.0 (other at.1) (item_arrives bytes said) now)) ∙ changed (other e) (item_arrives bytes said)

  pub leaves_there : (stepped place cell (steps.Left number) In).1 ≡ record w { sockets = slice_set w.sockets i (with_end e (ended (end_of e s)) s) }
  leaves_there = on_it (λ at now. (entries.Left at.0 at.1 ∷ [], end_closes at now)) ∙ changed e ended

  pub goes_down_there : (stepped place cell (steps.Down number) In).1 ≡ record w { sockets = slice_set w.sockets i (with_end e (ended (end_of e s)) s) }
  goes_down_there = on_it (λ at now. (entries.Down at.0 at.1 ∷ [], end_closes at now)) ∙ changed e ended

  pub up_there : (stepped place cell (steps.Up number) In).1 ≡ In
  up_there = on_it (λ at now. (entries.Up at.0 at.1 ∷ [], now))

  pub reads_there : (stepped place cell (steps.Read number) In).1 ≡ record w { sockets = slice_set w.sockets i (with_end e (one_read (end_of e s)) s); last = first_place (end_of e s).places }
  reads_there = on_it reads_item
      ∙ ap (λ (o : Option WorldSocket). item_is_read (s.name, e) o In) (name_found In.sockets i s apart_in here)
      ∙ ap (λ (z : World). record z { last = first_place (end_of e s).places }) (changed e one_read)
