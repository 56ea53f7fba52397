-- An answer that is read between two nodes, on the socket that its opener dials.
use Rattle.std.specs.Prelude.{◌≡◌, ℕ, true, [], ◌∷◌, ◌++◌, find, slice_get, Some}
use Rattle.std.proofs.Common.{refl, ap, ◌∙◌, subst}
use Rattle.ch_wire.specs.declared.answer.Answer.{Answer}
use Rattle.ch_wire.specs.declared.answer.Answer.TheVariants.{Accepted, Crossed, Invalid, Mismatch}
use Rattle.ch_wire.specs.declared.frame.Frame.TheVariants as frames
use Rattle.ch_reader.specs.Items.{spellings, MayStand, expected_after}
use Rattle.ch_reader.specs.declared.item.Expected.{Expected}
use Rattle.ch_reader.specs.declared.item.Expected.TheVariants as expected
use Rattle.ch_reader.specs.declared.item.Item.{Item}
use Rattle.ch_reader.specs.declared.item.Item.TheVariants as items
use Rattle.ch_link.specs.declared.LinkState.TheVariants.{Dialing}
use Rattle.ch_model.specs.declared.name.End.TheVariants.{O, T}
use Rattle.ch_model.specs.Host.{is_ready}
use Rattle.ch_model.specs.HostState.{Socket}
use Rattle.ch_model.specs.HostSteps.{is_socket}
use Rattle.ch_model.specs.WorldState.{Cell, WorldSocket, World}
use Rattle.ch_race.specs.Pair.{Side}
use Rattle.ch_race.specs.Moves.{Read_o}
use Rattle.ch_laws_writes.specs.Dues.{due_open}
use Rattle.ch_laws_race.specs.Answers.{reads_and_says}
use Rattle.ch_laws_race.specs.Reading.{Reads, IsUser}
use Rattle.ch_laws_race.specs.Scene.{Party, Scene, hosts_of, host_of, link_of}
use Rattle.ch_laws_race.specs.Sound.{HasEnd, TakesFrames, first_of}
use Rattle.ch_laws_race.specs.View.{reader_at}
use Rattle.ch_laws_race.proofs.AnswersRead.{accepted_read, crossed_read, invalid_read}
use Rattle.ch_laws_race.proofs.Read.{frame_expected}
use Rattle.ch_laws_calls.specs.Fits.{FramesFit}
use Rattle.ch_laws_calls.specs.Scenes.{scene_of, SceneFacts}
use Rattle.ch_laws_raced.proofs.RaceItemsFronts.{IsFirst, answer_is}
use Rattle.ch_laws_raced.proofs.RaceItemsReading as reading
use Rattle.ch_laws_raced.proofs.RaceItemsSeen.{IsShown}

module _ (party : Side → Party) (world : World) (facts : SceneFacts party world) (fits : FramesFit party world) (x : Side) (cell : Cell × ℕ) (i : ℕ) (socket : WorldSocket) (known : Socket) (at : slice_get world.cells (party x).place ≡ Some cell)
    (has : HasEnd (scene_of party world) x O i known.number socket) (found : find (is_socket known.number) (host_of (scene_of party world) x).sockets ≡ Some known) (ready : is_ready known ≡ true)
    (expects : known.expected ≡ expected.Answer) (user : IsUser (scene_of party world) x known) (dials : (link_of (scene_of party world) x).state ≡ Dialing known.number) where
  abbrev S : Scene
  S = scene_of party world

  abbrev first : IsFirst known socket.o.unread
  first = reading.first party world facts x cell O i socket known at has found ready

  its_answer : (a : Answer) × (first.item ≡ items.Answer a)
  its_answer = answer_is first.item (subst (λ (e : Expected). MayStand e first.item) expects first.each.0)

  reads : (answer : Answer) → its_answer.0 ≡ answer → Reads (scene_of party world) x O i socket known (items.Answer answer)
  reads answer is = subst (Reads (scene_of party world) x O i socket known) (its_answer.1 ∙ ap (λ (a : Answer). items.Answer a) is) (reading.reads party world facts x cell O i socket known at has found ready)

  way : TakesFrames (hosts_of world) (first_of T) socket.t (link_of (scene_of party world) x).waits
  way stands =
      let place = reading.takes_frame party world facts x cell O i socket known at has found ready frames.Probe (ap due_open expects) tt stands in
      record {
        items = place.items;
        whole = place.whole;
        each = place.each;
        framed = frame_expected (expected_after (reader_at (hosts_of world) (first_of T) socket.t).0 place.items) frames.Probe place.next;
        spelled = facts.waits x;
      }

  by_answer : (answer : Answer) → its_answer.0 ≡ answer → IsShown (scene_of party world) x cell known
  by_answer Accepted is = (reads_and_says x i (link_of S x).waits, accepted_read S x cell i socket known Accepted (facts.acts x cell at) (reads Accepted is) user dials refl (fits.are_data x) way)
  by_answer Crossed is = (Read_o i ∷ [], crossed_read S x cell i socket known Crossed (facts.acts x cell at) (reads Crossed is) user dials refl)
  by_answer Invalid is = (Read_o i ∷ [], invalid_read S x cell i socket known Invalid (facts.acts x cell at) (reads Invalid is) user dials refl)
  by_answer Mismatch is = absurd (facts.no_mismatch x i socket known first.rest has found (reading.unended party world facts x cell O i socket known at has found ready) expects
      (subst (λ (z : Item). known.since ++ socket.o.unread ≡ spellings (z ∷ first.rest)) (its_answer.1 ∙ ap (λ (a : Answer). items.Answer a) is) first.whole))

  pub answer_shown : IsShown (scene_of party world) x cell known
  answer_shown = by_answer its_answer.0 refl
