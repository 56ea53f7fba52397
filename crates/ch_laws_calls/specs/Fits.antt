-- The frames that are unread between two nodes fit the connections that their reader has open.
use Rattle.std.specs.Prelude.{◌≡◌, ℕ, true, List, ◌++◌, map, find, Some, is_some}
use Rattle.ch_wire.specs.declared.frame.Frame.{Frame}
use Rattle.ch_reader.specs.Items.{spellings, MayFollow}
use Rattle.ch_reader.specs.declared.item.Expected.TheVariants as expected
use Rattle.ch_reader.specs.declared.item.Item.{Item}
use Rattle.ch_reader.specs.declared.item.Item.TheVariants as items
use Rattle.ch_model.specs.declared.entry.Entry.{Entry}
use Rattle.ch_model.specs.declared.line.Line.{Line}
use Rattle.ch_model.specs.declared.name.End.{End}
use Rattle.ch_model.specs.HostState.{Socket}
use Rattle.ch_model.specs.HostSteps.{is_socket}
use Rattle.ch_model.specs.Stages.{Open}
use Rattle.ch_model.specs.WorldSockets.{end_of}
use Rattle.ch_model.specs.WorldState.{WorldSocket, World}
use Rattle.ch_race.specs.Pair.{Side}
use Rattle.ch_laws_race.specs.Answers.{AreData}
use Rattle.ch_laws_race.specs.Scene.{Party, host_of, link_of}
use Rattle.ch_laws_race.specs.Sound.{HasEnd}
use Rattle.ch_laws_calls.specs.Tables.{table_of, frames_on}
use Rattle.ch_laws_calls.specs.Scenes.{IsPairOf, scene_of}

-- What waits on the links of the two are frames of connections; and what is unread at an end that reads frames fits the connections
-- that its link has created.
pub record FramesFit (party : Side → Party) (world : World) : Type 0 where
  pub are_data : (x : Side) → AreData (link_of (scene_of party world) x).waits
  pub fit : (x : Side) (e : End) (i : ℕ) (socket : WorldSocket) (known : Socket) (all : List Frame) → HasEnd (scene_of party world) x e i known.number socket → find (is_socket known.number) (host_of (scene_of party world) x).sockets ≡ Some known
      → known.stage ≡ Open → known.expected ≡ expected.Frame → known.since ++ (end_of e socket).unread ≡ spellings (map (λ (frame : Frame). items.Frame frame) all) → MayFollow expected.Frame (map (λ (frame : Frame). items.Frame frame) all) → is_some (frames_on all (table_of (link_of (scene_of party world) x).created)) ≡ true

-- so it is of each two nodes of the journal
abbrev pub AllFit : List Line → List Entry → World → Type 0
AllFit journal log world = (party : Side → Party) → IsPairOf journal party → FramesFit party world
