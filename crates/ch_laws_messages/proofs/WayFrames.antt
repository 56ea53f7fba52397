-- The frames among items that were written, read back from their bytes.
use Rattle.std.proofs.Common.{◌≡◌, List, [], ◌∷◌, ◌++◌, drop, filter_map, refl, ap, ◌∙◌}
use Rattle.std.specs.List.{cons_option}
use Rattle.std.specs.Prelude.{Option}
use Rattle.ch_wire.specs.declared.frame.Frame.{Frame}
use Rattle.ch_reader.specs.Items.{MayFollow}
use Rattle.ch_reader.specs.declared.item.Expected.TheVariants as expected
use Rattle.ch_reader.specs.declared.item.Item.TheVariants as items
use Rattle.ch_model.specs.declared.name.End.{End}
use Rattle.ch_model.specs.declared.name.End.TheVariants.{O, T}
use Rattle.ch_model.specs.AccountsItems.{frame_of}
use Rattle.ch_laws_bytes.specs.Streams.{first_at}
use Rattle.ch_laws_peers.specs.Words.{Placed}
use Rattle.ch_laws_peers.specs.Reads.{PlacedItem, items_in, spelled_in, frames_among, placed_in}
use Rattle.ch_laws_messages.proofs.SaidWritten.{frame_read}

frames_read : (all : List PlacedItem) → MayFollow expected.Frame (items_in all) → filter_map frame_of (spelled_in all) ≡ frames_among (placed_in all)
frames_read [] m = refl
frames_read ((items.Frame frame, place) ∷ rest) m = ap (λ (o : Option Frame). cons_option o (filter_map frame_of (spelled_in rest))) (frame_read frame m.0) ∙ ap (λ (l : List Frame). frame ∷ l) (frames_read rest m.1)
frames_read ((items.Request request, place) ∷ rest) m = absurd m.0
frames_read ((items.Answer answer, place) ∷ rest) m = absurd m.0

-- behind its first item an end is written frames
pub frames_written : (e : End) (all : List PlacedItem) → MayFollow (first_at e) (items_in all) → filter_map frame_of (drop 1 (spelled_in all)) ≡ frames_among (placed_in all)
frames_written O [] m = refl
frames_written O ((items.Answer answer, place) ∷ rest) m = frames_read rest m.1
frames_written O ((items.Request request, place) ∷ rest) m = absurd m.0
frames_written O ((items.Frame frame, place) ∷ rest) m = absurd m.0
frames_written T [] m = refl
frames_written T ((items.Request request, place) ∷ rest) m = frames_read rest m.1
frames_written T ((items.Answer answer, place) ∷ rest) m = absurd m.0
frames_written T ((items.Frame frame, place) ∷ rest) m = absurd m.0

pub placed_append : (xs ys : List PlacedItem) → placed_in (xs ++ ys) ≡ placed_in xs ++ placed_in ys
placed_append [] ys = refl
placed_append ((items.Frame frame, place) ∷ xs) ys = ap (λ (l : List Placed). (frame, place) ∷ l) (placed_append xs ys)
placed_append ((items.Request request, place) ∷ xs) ys = placed_append xs ys
placed_append ((items.Answer answer, place) ∷ xs) ys = placed_append xs ys
