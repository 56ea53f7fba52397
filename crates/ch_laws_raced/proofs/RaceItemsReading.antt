-- What is ready at an end between two nodes: an item that is read there.
use Rattle.std.specs.Prelude.{◌≡◌, ◌<◌, ℕ, true, false, [], ◌∷◌, find, slice_get, Some}
use Rattle.std.proofs.Common.{inl, refl, ap, sym, ◌∙◌, arith}
use Rattle.std.proofs.lemmas.Bool.{and_parts}
use Rattle.std.proofs.lemmas.List.{append-nil}
use Rattle.ch_wire.specs.Spelling.{IsFrame}
use Rattle.ch_wire.specs.declared.frame.Frame.{Frame}
use Rattle.ch_reader.specs.Items.{spellings}
use Rattle.ch_reader.specs.declared.item.Item.TheVariants as items
use Rattle.ch_model.specs.declared.name.End.{End}
use Rattle.ch_model.specs.Host.{front_of, is_ready_front, is_ready}
use Rattle.ch_model.specs.HostState.{Socket, HostState}
use Rattle.ch_model.specs.HostSteps.{is_socket}
use Rattle.ch_model.specs.Stages.{Stage, Pending, Open, Ended, is_open, is_ended}
use Rattle.ch_model.specs.WorldSockets as ends
use Rattle.ch_model.specs.WorldSockets.{end_of}
use Rattle.ch_model.specs.WorldState.{Cell, WorldSocket, World}
use Rattle.ch_race.specs.Pair.{Side}
use Rattle.ch_laws_writes.specs.Dues.{Due, Framing, due_open, due_staged, due_of, due_at}
use Rattle.ch_laws_race.specs.Reading.{Reads}
use Rattle.ch_laws_race.specs.Scene.{Party, Scene, hosts_of, host_in, host_of}
use Rattle.ch_laws_race.specs.Sound.{Acts, HasEnd, TakesItem, first_of}
use Rattle.ch_laws_calls.specs.Scenes.{scene_of, SceneFacts}
use Rattle.ch_laws_raced.proofs.RaceItemsFronts.{IsFirst, first_item}

pub open_is : (stage : Stage) → is_open stage ≡ true → stage ≡ Open
open_is Pending h = absurd cc
open_is Open h = refl
open_is Ended h = absurd cc

module _ (party : Side → Party) (world : World) (facts : SceneFacts party world) (x : Side) (cell : Cell × ℕ) (e : End) (i : ℕ) (socket : WorldSocket) (known : Socket)
    (at : slice_get world.cells (party x).place ≡ Some cell) (has : HasEnd (scene_of party world) x e i known.number socket) (found : find (is_socket known.number) (host_of (scene_of party world) x).sockets ≡ Some known) (ready : is_ready known ≡ true) where
  abbrev pub S : Scene
  S = scene_of party world

  abbrev pub Own : HostState
  Own = host_of (scene_of party world) x

  pub acts : Acts (scene_of party world) x cell
  acts = facts.acts x cell at

  -- its host is the cell's
  pub own_is : cell.0.host ≡ host_of (scene_of party world) x
  own_is = sym (ap host_in at)

  pub is_standing : known.stage ≡ Open
  is_standing = open_is known.stage (and_parts (is_open known.stage) (is_ready_front (front_of known).0) ready).0

  pub standing : (end_of e socket).stage ≡ Open
  standing = sym (facts.stands x e i known.number socket known has found) ∙ is_standing

  pub unended : is_ended (end_of e socket).stage ≡ false
  unended = ap is_ended standing

  pub first : IsFirst known (end_of e socket).unread
  first = let all = facts.spelled x e i socket known has found unended in first_item known (end_of e socket).unread all.0 (and_parts (is_open known.stage) (is_ready_front (front_of known).0) ready).1 all.1 all.2

  pub reads : Reads (scene_of party world) x e i socket known first.item
  reads = record {
    has = has;
    standing = standing;
    kept = found;
    more = first.more;
    front = first.front;
    rest = first.rest;
    part = [];
    stream = record { whole = first.whole ∙ sym (append-nil (spellings (first.item ∷ first.rest))); each = first.each; unfinished = inl few };
  } where
    few : 0 < 4
    few = omega arith

  -- what is due at an open end
  pub due : due_at (host_of (scene_of party world) x) known.number ≡ Some (due_open known.expected)
  due = ap due_of found ∙ ap (λ (z : Stage). due_staged z known) is_standing

  -- an end that has read its first item, or joined, writes frames
  pub takes_frame : (frame : Frame) → due_open known.expected ≡ Framing → IsFrame frame → TakesItem (hosts_of world) (first_of (ends.other e)) (end_of (ends.other e) socket) (items.Frame frame)
  takes_frame frame frames spelled = facts.takes_frame x e i known.number socket frame has (due ∙ ap (λ (d : Due). Some d) frames) spelled
