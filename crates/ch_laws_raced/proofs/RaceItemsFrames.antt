-- A frame that is read between two nodes, on the socket that the link is up on.
use Rattle.std.specs.Prelude.{◌≡◌, ℕ, Bool, true, false, nat_lt, List, [], ◌∷◌, find, is_some, slice_get, Some, Result, Ok, Err, if◌then◌else◌}
use Rattle.std.proofs.Common.{refl, ap, sym, ◌∙◌, subst}
use Rattle.ch_base.specs.declared.event.Event.TheVariants as events
use Rattle.ch_base.specs.declared.memory.Stop.TheVariants as stops
use Rattle.ch_light.specs.Ids.{created_of}
use Rattle.ch_light.specs.declared.Connection.{Connection}
use Rattle.ch_light.specs.declared.error.LightError.{LightError}
use Rattle.ch_wire.specs.declared.frame.Frame.{Frame}
use Rattle.ch_wire.specs.declared.frame.Frame.TheVariants as frames
use Rattle.ch_reader.specs.Items.{spellings, MayFollow}
use Rattle.ch_reader.specs.declared.item.Expected.{Expected}
use Rattle.ch_reader.specs.declared.item.Expected.TheVariants as expected
use Rattle.ch_reader.specs.declared.item.Item.{Item}
use Rattle.ch_reader.specs.declared.item.Item.TheVariants as items
use Rattle.ch_link.specs.declared.LinkState.TheVariants.{Up}
use Rattle.ch_model.specs.declared.name.End.{End}
use Rattle.ch_model.specs.declared.step.Step.{Step}
use Rattle.ch_model.specs.declared.step.Step.TheVariants as steps
use Rattle.ch_model.specs.Host.{is_ready}
use Rattle.ch_model.specs.HostItems.{most_arrived, posts, arrived_at, with_arrival, next_arrival, arrives}
use Rattle.ch_model.specs.HostState.{Link, Socket, HostState}
use Rattle.ch_model.specs.HostSteps as host
use Rattle.ch_model.specs.HostSteps.{Stepped, is_socket, with_link, with_socket}
use Rattle.ch_model.specs.WorldSockets.{end_of}
use Rattle.ch_model.specs.WorldState.{Cell, WorldSocket, World}
use Rattle.ch_race.specs.Pair.{Side}
use Rattle.ch_laws_writes.specs.Dues.{due_open}
use Rattle.ch_laws_race.specs.Reading.{Reads, IsUser, read_at, reads_front}
use Rattle.ch_laws_race.specs.Scene.{Party, Scene, host_of, link_of}
use Rattle.ch_laws_race.specs.Sound.{HasEnd}
use Rattle.ch_laws_race.proofs.Read as read
use Rattle.ch_laws_race.proofs.Read.{probe_read, ack_read, closed_read, payload_read, close_read, open_read}
use Rattle.ch_laws_race.proofs.Readings.{taken}
use Rattle.ch_laws_race.proofs.Sockets.{by_test}
use Rattle.ch_laws_calls.specs.Fits.{FramesFit}
use Rattle.ch_laws_calls.specs.Scenes.{scene_of, SceneFacts}
use Rattle.ch_laws_calls.specs.Tables.{table_of, frame_on}
use Rattle.ch_laws_raced.proofs.RaceItemsFronts.{IsFirst, as_items, frame_is, frames_are}
use Rattle.ch_laws_raced.proofs.RaceItemsReading as reading
use Rattle.ch_laws_raced.proofs.RaceItemsSeen.{IsShown}
use Rattle.ch_laws_raced.proofs.RaceItemsTables.{first_fits, data_fits, close_fits, open_fits}

module _ (party : Side → Party) (world : World) (facts : SceneFacts party world) (fits : FramesFit party world) (x : Side) (cell : Cell × ℕ) (e : End) (i : ℕ) (socket : WorldSocket) (known : Socket) (at : slice_get world.cells (party x).place ≡ Some cell)
    (has : HasEnd (scene_of party world) x e i known.number socket) (found : find (is_socket known.number) (host_of (scene_of party world) x).sockets ≡ Some known) (ready : is_ready known ≡ true)
    (expects : known.expected ≡ expected.Frame) (user : IsUser (scene_of party world) x known) (probed : Bool) (up : (link_of (scene_of party world) x).state ≡ Up known.number probed)
    (told : List Step) (after : HostState) (does : reads_front (scene_of party world) x known ≡ Ok (told, after)) where
  abbrev S : Scene
  S = scene_of party world

  abbrev Own : HostState
  Own = host_of (scene_of party world) x

  abbrev L : Link
  L = link_of (scene_of party world) x

  abbrev first : IsFirst known (end_of e socket).unread
  first = reading.first party world facts x cell e i socket known at has found ready

  reads : Reads (scene_of party world) x e i socket known first.item
  reads = reading.reads party world facts x cell e i socket known at has found ready

  each : MayFollow expected.Frame (first.item ∷ first.rest)
  each = subst (λ (k : Expected). MayFollow k (first.item ∷ first.rest)) expects first.each

  its_frame : (f : Frame) × (first.item ≡ items.Frame f)
  its_frame = frame_is first.item each.0

  -- it fits the connections that the link has created
  fits_first : is_some (frame_on its_frame.0 (table_of L.created)) ≡ true
  fits_first =
      let later = frames_are first.rest each.1 in
      let all : first.item ∷ first.rest ≡ as_items (its_frame.0 ∷ later.0) = ap (λ (z : Item). z ∷ first.rest) its_frame.1 ∙ ap (λ (l : List Item). items.Frame its_frame.0 ∷ l) later.1 in
      first_fits its_frame.0 later.0 (table_of L.created)
      (fits.fit x e i socket known (its_frame.0 ∷ later.0) has found (reading.is_standing party world facts x cell e i socket known at has found ready) expects (first.whole ∙ ap spellings all) (subst (MayFollow expected.Frame) all each))

  fits_as : (f : Frame) → its_frame.0 ≡ f → is_some (frame_on f (table_of L.created)) ≡ true
  fits_as f is = subst (λ (z : Frame). is_some (frame_on z (table_of L.created)) ≡ true) is fits_first

  item_as : (f : Frame) → its_frame.0 ≡ f → first.item ≡ items.Frame f
  item_as f is = its_frame.1 ∙ ap (λ (z : Frame). items.Frame z) is

  -- where no more connections may be numbered, nothing is done
  worn : (id : ℕ) (created : List Connection) → first.item ≡ items.Frame (frames.Created id) → created_of L.created id (next_arrival (host_of (scene_of party world) x) L.end) ≡ Ok created
      → nat_lt (arrived_at (host_of (scene_of party world) x) L.end) most_arrived ≡ false → ⊥
  worn id created is creates spent = let clash : ◌≡◌ {A = Stepped} (Ok (told, after)) (Err stops.Worn) = sym does
      ∙ read.takes_frame S x cell e i socket known first.item (facts.acts x cell at) reads (frames.Created id) is user
      ∙ ap (λ (r : Result (List Connection) LightError). host.after_steps (steps.Read known.number ∷ []) (arrives (taken known reads.more) L r (with_socket (taken known reads.more) Own))) creates
      ∙ ap (λ b. host.after_steps (steps.Read known.number ∷ []) (if b then posts L.end (events.ConnectionOpened (next_arrival Own L.end) L.peer)
      (with_arrival L.end (with_link (record L { created = created }) (with_socket (taken known reads.more) Own))) else Err stops.Worn)) spent in absurd cc

  by_frame : (f : Frame) → its_frame.0 ≡ f → IsShown (scene_of party world) x cell known
  by_frame (frames.Created id) is =
      let opens = open_fits L.created id (next_arrival Own L.end) (fits_as (frames.Created id) is) in (
        read_at e i ∷ [],
        open_read S x cell e i socket known first.item (facts.acts x cell at) reads id opens.0 (item_as (frames.Created id) is) user opens.1
            (by_test (nat_lt (arrived_at Own L.end) most_arrived) (λ h. h) (λ h. absurd (worn id opens.0 (item_as (frames.Created id) is) opens.1 h))),
      )
  by_frame (frames.Closed id) is =
      let closes = close_fits L.created id (fits_as (frames.Closed id) is) in
      (read_at e i ∷ [], close_read S x cell e i socket known first.item (facts.acts x cell at) reads id closes.0 (item_as (frames.Closed id) is) user closes.1)
  by_frame (frames.Data id payload) is =
      let carried = data_fits L.created id payload (fits_as (frames.Data id payload) is) in
      (read_at e i ∷ [], payload_read S x cell e i socket known first.item (facts.acts x cell at) reads id payload carried.0 (item_as (frames.Data id payload) is) user carried.1)
  by_frame frames.EndClosed is = (read_at e i ∷ [], closed_read S x cell e i socket known first.item (facts.acts x cell at) reads probed (item_as frames.EndClosed is) user up)
  by_frame frames.Probe is = (
    read_at e i ∷ [],
    probe_read S x cell e i socket known first.item (facts.acts x cell at) reads probed (item_as frames.Probe is) user up
        (reading.takes_frame party world facts x cell e i socket known at has found ready frames.ProbeAck (ap due_open expects) tt),
  )
  by_frame frames.ProbeAck is = (read_at e i ∷ [], ack_read S x cell e i socket known first.item (facts.acts x cell at) reads probed (item_as frames.ProbeAck is) user up)

  pub frame_shown : IsShown (scene_of party world) x cell known
  frame_shown = by_frame its_frame.0 refl
