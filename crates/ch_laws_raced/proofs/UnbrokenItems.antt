-- An item that is read between two nodes breaks nothing.
use Rattle.std.specs.Prelude.{◌≡◌, ◌⊎◌, ℕ, Bool, true, false, List, [], ◌∷◌, ◌++◌, find, slice_get, is_some, Option, Some, None, Ok}
use Rattle.std.proofs.Common.{inl, inr, refl, ap, sym, ◌∙◌, subst}
use Rattle.std.proofs.lemmas.Bool.{and_parts}
use Rattle.ch_wire.specs.declared.answer.Answer.{Answer}
use Rattle.ch_wire.specs.declared.answer.Answer.TheVariants.{Accepted, Crossed, Invalid, Mismatch}
use Rattle.ch_wire.specs.declared.frame.Frame.{Frame}
use Rattle.ch_wire.specs.declared.frame.Frame.TheVariants as frames
use Rattle.ch_reader.specs.Items.{spellings, MayStand, MayFollow}
use Rattle.ch_reader.specs.declared.item.Expected.{Expected}
use Rattle.ch_reader.specs.declared.item.Expected.TheVariants as expected
use Rattle.ch_reader.specs.declared.item.Item.{Item}
use Rattle.ch_reader.specs.declared.item.Item.TheVariants as items
use Rattle.ch_link.specs.declared.LinkIn.TheVariants as inputs
use Rattle.ch_link.specs.declared.LinkState.TheVariants.{Dialing, Up}
use Rattle.ch_model.specs.declared.entry.Entry.{Entry}
use Rattle.ch_model.specs.declared.line.Line.{Line}
use Rattle.ch_model.specs.declared.name.End.{End}
use Rattle.ch_model.specs.declared.name.End.TheVariants.{O, T}
use Rattle.ch_model.specs.declared.step.Step.{Step}
use Rattle.ch_model.specs.declared.step.Step.TheVariants as steps
use Rattle.ch_model.specs.Host.{front_of, is_ready_front, is_ready, takes, handles, host_next}
use Rattle.ch_model.specs.HostItems.{heard_answer, reads_frame, reads_on}
use Rattle.ch_model.specs.HostLinks.{hears}
use Rattle.ch_model.specs.HostState.{Socket, HostState}
use Rattle.ch_model.specs.HostSteps as host
use Rattle.ch_model.specs.HostSteps.{Stepped, still, is_socket, link_with, with_socket}
use Rattle.ch_base.specs.declared.address.Address.{Address}
use Rattle.ch_model.specs.Stages.{Stage, Open, is_open, is_ended}
use Rattle.ch_model.specs.World.{names_of}
use Rattle.ch_model.specs.WorldSockets.{end_of}
use Rattle.ch_model.specs.WorldState.{Cell, WorldSocket, World}
use Rattle.ch_race.specs.Invariant.{Invariant}
use Rattle.ch_race.specs.Moves.{Read_o}
use Rattle.ch_race.specs.Pair as pair
use Rattle.ch_race.specs.Pair.{Side, other, OEnd, OAsking, OUp, TEnd, TUp, Sock, Pair}
use Rattle.ch_race.specs.Quiet.{Breaks_o, Breaks_t, Breaks}
use Rattle.ch_race.proofs.QuietMoves.{no_break}
use Rattle.ch_race.proofs.Runs.{invariant_reached}
use Rattle.ch_laws_many.proofs.Reached.{IsJournal}
use Rattle.ch_laws_bytes.specs.Streams.{AreAddresses}
use Rattle.ch_laws_links.specs.Naming.{IsNaming, IsDialedBy, IsUpFor}
use Rattle.ch_laws_links.proofs.Says as says
use Rattle.ch_laws_race.specs.Reading.{Reads, IsUser, read_at, reads_front}
use Rattle.ch_laws_race.specs.Scene.{Party, Scene, host_in, host_of, link_of}
use Rattle.ch_laws_race.specs.Sound.{Acts, HasEnd}
use Rattle.ch_laws_race.specs.View.{kind, Reader, opener_end, view}
use Rattle.ch_laws_race.proofs.Read as read
use Rattle.ch_laws_race.proofs.Readings.{taken, takes_front, IsUp, unread}
use Rattle.ch_laws_calls.specs.Scenes.{IsPairOf, scene_of, SceneFacts}
use Rattle.ch_laws_calls.specs.Tables.{table_of, frame_on}
use Rattle.ch_laws_raced.proofs.RaceItemsFound.{opener_is}
use Rattle.ch_laws_raced.proofs.RaceItemsFronts.{IsFirst, as_items, answer_is, frame_is, frames_are}
use Rattle.ch_laws_raced.proofs.RaceItemsNext.{IsServed, is_served}
use Rattle.ch_laws_raced.proofs.RaceItemsReading as reading
use Rattle.ch_laws_raced.proofs.RaceItemsTables.{first_fits}
use Rattle.ch_laws_raced.specs.UnbrokenBreaks.{calm}
use Rattle.ch_laws_raced.specs.UnbrokenGiven.{Given}
use Rattle.ch_laws_raced.proofs.UnbrokenFound.{IsWorlds, worlds_end, IsTheirs, theirs}
use Rattle.ch_laws_raced.proofs.UnbrokenSteps.{Calm, after_calm, unused_calm, is_refusing, answer_calm, is_end_closed, frame_calm}

-- ---- what would break a link

-- a refusal stands first at an end that asks
refused_breaks : (i : ℕ) (v : Pair) (s : Sock) (rest : List pair.Item) → v.sock i ≡ s → s.o ≡ OAsking → s.in_o ≡ pair.Invalid ∷ rest → Breaks (Read_o i) v
refused_breaks i v s rest at asks first = subst (λ (z : Sock). Breaks_o z.o z.in_o) (sym at) (subst (λ (o : OEnd). Breaks_o o s.in_o) (sym asks) (subst (Breaks_o OAsking) (sym first) tt))

-- it stands first at an end that is up that the peer's endpoint is closed
closed_breaks : (e : End) (i : ℕ) (v : Pair) (s : Sock) (rest : List pair.Item) → v.sock i ≡ s → IsUp e s → unread e s ≡ pair.EndClosed ∷ rest → Breaks (read_at e i) v
closed_breaks O i v s rest at up first = subst (λ (z : Sock). Breaks_o z.o z.in_o) (sym at) (subst (λ (o : OEnd). Breaks_o o s.in_o) (sym up) (subst (Breaks_o OUp) (sym first) tt))
closed_breaks T i v s rest at up first = subst (λ (z : Sock). Breaks_t z.t z.in_t) (sym at) (subst (λ (t : TEnd). Breaks_t t s.in_t) (sym up) (subst (Breaks_t TUp) (sym first) tt))

-- ---- an item of a link

-- An end of x's of a socket between the two has something to read, and is for their link.
record IsReadyEnd (party : Side → Party) (world : World) (x : Side) (cell : Cell × ℕ) (e : End) (i : ℕ) (socket : WorldSocket) (known : Socket) : Type 0 where
  at : slice_get world.cells (party x).place ≡ Some cell
  has : HasEnd (scene_of party world) x e i known.number socket
  found : find (is_socket known.number) (host_of (scene_of party world) x).sockets ≡ Some known
  ready : is_ready known ≡ true
  user : IsUser (scene_of party world) x known

module _ (journal : List Line) (log : List Entry) (world : World) (g : Given journal log world) (party : Side → Party) (pair_is : IsPairOf journal party) where
  abbrev S : Scene
  S = scene_of party world

  abbrev V : Pair
  V = view (scene_of party world)

  facts : SceneFacts party world
  facts = g.shown party pair_is

  -- the pair is as the machine's are, and it is quiet
  so : Invariant V
  so = invariant_reached V (g.raced party pair_is)

  -- ---- an answer

  module _ (x : Side) (cell : Cell × ℕ) (i : ℕ) (socket : WorldSocket) (known : Socket) (r : IsReadyEnd party world x cell O i socket known) (expects : known.expected ≡ expected.Answer) where
    abbrev first : IsFirst known socket.o.unread
    first = reading.first party world facts x cell O i socket known r.at r.has r.found r.ready

    its_answer : (a : Answer) × (first.item ≡ items.Answer a)
    its_answer = answer_is first.item (subst (λ (k : Expected). MayStand k first.item) expects first.each.0)

    answers : (answer : Answer) → its_answer.0 ≡ answer → first.item ≡ items.Answer answer
    answers answer is = its_answer.1 ∙ ap (λ (a : Answer). items.Answer a) is

    reads_first : Reads S x O i socket known first.item
    reads_first = reading.reads party world facts x cell O i socket known r.at r.has r.found r.ready

    acts : Acts S x cell
    acts = facts.acts x cell r.at

    -- the end asks, and the answer is the first that it has to read
    asking : (read.Seen S x cell O i socket known first.item acts reads_first).o ≡ OAsking
    asking = ap (λ (k : Reader). opener_end socket.o.stage k.0) (read.mine_is S x cell O i socket known first.item acts reads_first)
        ∙ ap (λ (z : Stage). opener_end z known.expected) reads_first.standing ∙ ap (opener_end Open) expects

    not_invalid : its_answer.0 ≡ Invalid → ⊥
    not_invalid is = no_break V so (Read_o i) refl tt
        (refused_breaks i V (read.Seen S x cell O i socket known first.item acts reads_first) (read.Rest S x cell O i socket known first.item acts reads_first) (read.sock_at S x cell O i socket known first.item acts reads_first) asking
        (read.first_is S x cell O i socket known first.item acts reads_first ∙ ap (λ (z : Item). kind z ∷ read.Rest S x cell O i socket known first.item acts reads_first) (answers Invalid is)))

    not_mismatch : its_answer.0 ≡ Mismatch → ⊥
    not_mismatch is = facts.no_mismatch x i socket known first.rest r.has r.found (reading.unended party world facts x cell O i socket known r.at r.has r.found r.ready) expects
        (subst (λ (z : Item). known.since ++ socket.o.unread ≡ spellings (z ∷ first.rest)) (answers Mismatch is) first.whole)

    no_refusal : (answer : Answer) → its_answer.0 ≡ answer → is_refusing answer ≡ false
    no_refusal Accepted is = refl
    no_refusal Crossed is = refl
    no_refusal Invalid is = absurd (not_invalid is)
    no_refusal Mismatch is = absurd (not_mismatch is)

    -- the link hears it
    heard : reads_front S x known ≡ host.after_steps (steps.Read known.number ∷ []) (hears (inputs.Answered (heard_answer its_answer.0)) (link_of S x) (with_socket (taken known first.more) (host_of S x)))
    heard = takes_front known first.item first.more (host_of S x) first.front first.each.0
        ∙ ap (λ (z : Item). takes (taken known first.more) z (host_of S x)) its_answer.1
        ∙ ap (λ (o : Option (ℕ × Address)). host.after_steps (steps.Read known.number ∷ []) (elim o as (λ o. Stepped) [
          | None ↦ still (with_socket (taken known first.more) (host_of S x))
          | Some user ↦ reads_on (taken known first.more) (link_with (with_socket (taken known first.more) (host_of S x)) user.0 user.1) (items.Answer its_answer.0) (with_socket (taken known first.more) (host_of S x))
        ])) r.user

    calm_answer : Calm (reads_front S x known)
    calm_answer = subst Calm (sym heard) (after_calm (steps.Read known.number ∷ []) (hears (inputs.Answered (heard_answer its_answer.0)) (link_of S x) (with_socket (taken known first.more) (host_of S x))) refl
        (answer_calm its_answer.0 (link_of S x) (with_socket (taken known first.more) (host_of S x)) (no_refusal its_answer.0 refl)))

  -- ---- a frame

  module _ (x : Side) (cell : Cell × ℕ) (e : End) (i : ℕ) (socket : WorldSocket) (known : Socket) (r : IsReadyEnd party world x cell e i socket known) (expects : known.expected ≡ expected.Frame) where
    abbrev front : IsFirst known (end_of e socket).unread
    front = reading.first party world facts x cell e i socket known r.at r.has r.found r.ready

    reads_it : Reads S x e i socket known front.item
    reads_it = reading.reads party world facts x cell e i socket known r.at r.has r.found r.ready

    its_acts : Acts S x cell
    its_acts = facts.acts x cell r.at

    each : MayFollow expected.Frame (front.item ∷ front.rest)
    each = subst (λ (k : Expected). MayFollow k (front.item ∷ front.rest)) expects front.each

    its_frame : (f : Frame) × (front.item ≡ items.Frame f)
    its_frame = frame_is front.item each.0

    -- it fits the connections that the link has created
    fits_first : is_some (frame_on its_frame.0 (table_of (link_of S x).created)) ≡ true
    fits_first =
        let later = frames_are front.rest each.1 in
        let all : front.item ∷ front.rest ≡ as_items (its_frame.0 ∷ later.0) = ap (λ (z : Item). z ∷ front.rest) its_frame.1 ∙ ap (λ (l : List Item). items.Frame its_frame.0 ∷ l) later.1 in
        first_fits its_frame.0 later.0 (table_of (link_of S x).created)
        ((g.fit party pair_is).fit x e i socket known (its_frame.0 ∷ later.0) r.has r.found (reading.is_standing party world facts x cell e i socket known r.at r.has r.found r.ready) expects (front.whole ∙ ap spellings all) (subst (MayFollow expected.Frame) all each))

    not_closed : its_frame.0 ≡ frames.EndClosed → ⊥
    not_closed is = no_break V so (read_at e i) refl (read.may_read e i V)
        (closed_breaks e i V (read.Seen S x cell e i socket known front.item its_acts reads_it) (read.Rest S x cell e i socket known front.item its_acts reads_it) (read.sock_at S x cell e i socket known front.item its_acts reads_it)
        (read.is_up S x cell e i socket known front.item its_acts reads_it expects)
        (read.first_is S x cell e i socket known front.item its_acts reads_it ∙ ap (λ (z : Item). kind z ∷ read.Rest S x cell e i socket known front.item its_acts reads_it) (its_frame.1 ∙ ap (λ (f : Frame). items.Frame f) is)))

    stays_open : (f : Frame) → its_frame.0 ≡ f → is_end_closed f ≡ false
    stays_open frames.EndClosed is = absurd (not_closed is)
    stays_open f is = refl

    calm_frame : Calm (reads_front S x known)
    calm_frame = subst Calm (sym (read.takes_frame S x cell e i socket known front.item its_acts reads_it its_frame.0 its_frame.1 r.user))
        (after_calm (steps.Read known.number ∷ []) (reads_frame (taken known reads_it.more) (link_of S x) its_frame.0 (with_socket (taken known reads_it.more) (host_of S x))) refl
        (frame_calm (taken known reads_it.more) (link_of S x) its_frame.0 (with_socket (taken known reads_it.more) (host_of S x)) (stays_open its_frame.0 refl) fits_first))

-- ---- any item

module _ (journal : List Line) (j : IsJournal journal) (addresses : AreAddresses (names_of journal)) (log : List Entry) (world : World) (g : Given journal log world) (place : ℕ) (cell : Cell × ℕ) (at : slice_get world.cells place ≡ Some cell) (told : List Step) (after : HostState) (next : IsServed cell.0.host told after) where
  its : IsWorlds place next.known.number world
  its = worlds_end journal log world place next.known.number cell next.known g.sound.ends.sure.ends at next.found

  two : IsTheirs journal world place next.known.number its.e its.socket
  two = theirs journal j addresses log world g place next.known.number its.e its.socket its.is its.end

  facts_two : SceneFacts two.party world
  facts_two = g.shown two.party two.pair

  there : slice_get world.cells (two.party two.side).place ≡ Some cell
  there = ap (slice_get world.cells) two.here ∙ at

  -- its host is the cell's
  own_is : host_of (scene_of two.party world) two.side ≡ cell.0.host
  own_is = ap host_in there

  found_there : find (is_socket next.known.number) (host_of (scene_of two.party world) two.side).sockets ≡ Some next.known
  found_there = ap (λ (h : HostState). find (is_socket next.known.number) h.sockets) own_is ∙ next.found

  naming : IsNaming (host_of (scene_of two.party world) two.side)
  naming = subst IsNaming (sym own_is) (g.sound.links.naming place cell at).naming

  unended : is_ended next.known.stage ≡ false
  unended = ap is_ended (reading.open_is next.known.stage (and_parts (is_open next.known.stage) (is_ready_front (front_of next.known).0) next.ready).0)

  by_state : (r : IsReadyEnd two.party world two.side cell its.e two.i its.socket next.known)
      → (((link_of (scene_of two.party world) two.side).state ≡ Dialing next.known.number) × IsDialedBy (two.party two.side).address.id (two.party (other two.side)).address next.known)
      ⊎ ((probed : Bool) × ((link_of (scene_of two.party world) two.side).state ≡ Up next.known.number probed) × IsUpFor (two.party two.side).address.id (two.party (other two.side)).address next.known)
      → Calm (reads_front (scene_of two.party world) two.side next.known)
  by_state r (inl dials) =
      let opener : its.e ≡ O = opener_is journal world g.sound.links.asked place next.known.number cell next.known its.socket at next.found its.is its.e ((two.party two.side).address.id, (two.party (other two.side)).address) its.end dials.1.opener r.user in
      calm_answer journal log world g two.party two.pair two.side cell two.i its.socket next.known (subst (λ (f : End). IsReadyEnd two.party world two.side cell f two.i its.socket next.known) opener r) dials.1.expects
  by_state r (inr up) = calm_frame journal log world g two.party two.pair two.side cell its.e two.i its.socket next.known r up.2.expects

  by_user : (next.known.user ≡ None) ⊎ IsUser (scene_of two.party world) two.side next.known → Calm (reads_front (scene_of two.party world) two.side next.known)
  by_user (inl unused) = unused_calm next.known (front_of next.known) (host_of (scene_of two.party world) two.side) unused
  by_user (inr user) = by_state (record { at = there; has = two.has; found = found_there; ready = next.ready; user = user })
      (says.used (host_of (scene_of two.party world) two.side) (two.party two.side).address.id (two.party (other two.side)).address next.known.number next.known naming found_there user unended)

  any_item : calm told ≡ true
  any_item = subst Calm (ap (λ (h : HostState). handles next.known (front_of next.known) h) own_is ∙ next.does) (by_user (facts_two.users two.side its.e two.i next.known.number its.socket next.known two.has found_there))

pub calm_next : (journal : List Line) → IsJournal journal → AreAddresses (names_of journal) → (log : List Entry) (world : World) → Given journal log world → (place : ℕ) (cell : Cell × ℕ) (told : List Step) (after : HostState) → slice_get world.cells place ≡ Some cell → host_next cell.0.host ≡ Ok (Some told, after) → calm told ≡ true
calm_next journal j addresses log world g place cell told after at e = any_item journal j addresses log world g place cell at told after (is_served cell.0.host after told (g.sound.links.naming place cell at).naming.sockets e)
