-- A request that is read between two nodes, whatever the link of its target is in.
use Rattle.std.specs.Prelude.{◌≡◌, ℕ, Bool, true, false, ◌==◌, List, [], ◌∷◌, ◌++◌, find, slice_get, Option, Some, None}
use Rattle.std.proofs.Common.{inl, inr, refl, ap, sym, ◌∙◌, subst}
use Rattle.ch_base.specs.declared.address.Address.{Address}
use Rattle.ch_wire.specs.declared.answer.Answer.{Answer}
use Rattle.ch_wire.specs.declared.answer.Answer.TheVariants as answers
use Rattle.ch_wire.specs.declared.frame.Frame.TheVariants as frames
use Rattle.ch_wire.specs.declared.request.Request.{Request}
use Rattle.ch_reader.specs.Items.{spellings, MayStand, MayFollow}
use Rattle.ch_reader.specs.declared.item.Expected.{Expected}
use Rattle.ch_reader.specs.declared.item.Expected.TheVariants as expected
use Rattle.ch_reader.specs.declared.item.Item.{Item}
use Rattle.ch_reader.specs.declared.item.Item.TheVariants as items
use Rattle.ch_link.specs.declared.LinkState.{LinkState}
use Rattle.ch_link.specs.declared.LinkState.TheVariants.{Idle, Dialing, AwaitOther, Up}
use Rattle.ch_model.specs.declared.entry.Entry.{Entry}
use Rattle.ch_model.specs.declared.line.Line.{Line}
use Rattle.ch_model.specs.declared.name.End.{End}
use Rattle.ch_model.specs.declared.name.End.TheVariants.{O, T}
use Rattle.ch_model.specs.Host.{is_ready}
use Rattle.ch_model.specs.HostItems.{is_mismatch}
use Rattle.ch_model.specs.HostState.{Link, Socket, HostState}
use Rattle.ch_model.specs.HostSteps.{is_socket}
use Rattle.ch_model.specs.WorldState.{Cell, WorldSocket, World}
use Rattle.ch_race.specs.Pair.{Side, other, is_greater}
use Rattle.ch_race.specs.Moves.{Read_t}
use Rattle.ch_laws_log.proofs.HostTold.{number_found}
use Rattle.ch_laws_log.proofs.Stored.{number_is}
use Rattle.ch_laws_ends.proofs.Places.{some_is}
use Rattle.ch_laws_links.specs.Naming.{IsNaming, IsUpFor}
use Rattle.ch_laws_links.proofs.Says as says
use Rattle.ch_laws_writes.specs.Dues.{Framing, due_open, due_staged, due_of, due_at}
use Rattle.ch_laws_race.specs.Reading.{Reads}
use Rattle.ch_laws_race.specs.Requests.{request_to, accepts_and_says}
use Rattle.ch_laws_race.specs.Scene.{Party, Scene, hosts_of, host_of, link_of}
use Rattle.ch_laws_race.specs.Sound.{HasEnd, TakesItem, first_of}
use Rattle.ch_laws_race.specs.View.{is_shut}
use Rattle.ch_laws_race.proofs.LeavesDial.{request_taken}
use Rattle.ch_laws_race.proofs.ProbesThere.{request_up}
use Rattle.ch_laws_race.proofs.RequestsRead as requests
use Rattle.ch_laws_race.proofs.Sockets.{by_test, name_found}
use Rattle.ch_laws_calls.specs.Fits.{FramesFit}
use Rattle.ch_laws_calls.specs.Scenes.{scene_of, SceneFacts}
use Rattle.ch_laws_calls.specs.Sound.{Sound}
use Rattle.ch_laws_raced.proofs.RaceItemsFound.{opener_is}
use Rattle.ch_laws_raced.proofs.RaceItemsFronts.{IsFirst, request_is}
use Rattle.ch_laws_raced.proofs.RaceItemsReading as reading
use Rattle.ch_laws_raced.proofs.RaceItemsSeen.{IsShown}

module _ (journal : List Line) (log : List Entry) (party : Side → Party) (world : World) (sound : Sound journal log world) (facts : SceneFacts party world) (fits : FramesFit party world)
    (x : Side) (cell : Cell × ℕ) (i : ℕ) (socket : WorldSocket) (known : Socket) (at : slice_get world.cells (party x).place ≡ Some cell) (has : HasEnd (scene_of party world) x T i known.number socket)
    (found : find (is_socket known.number) (host_of (scene_of party world) x).sockets ≡ Some known) (ready : is_ready known ≡ true) (expects : known.expected ≡ expected.Request) (unused : known.user ≡ None) where
  abbrev S : Scene
  S = scene_of party world

  abbrev Own : HostState
  Own = host_of (scene_of party world) x

  abbrev Number : ℕ
  Number = (party x).address.id

  abbrev Peer : Address
  Peer = (party (other x)).address

  abbrev L : Link
  L = link_of (scene_of party world) x

  naming : IsNaming (host_of (scene_of party world) x)
  naming = subst IsNaming (reading.own_is party world facts x cell T i socket known at has found ready) (sound.links.naming (party x).place cell at).naming

  abbrev first : IsFirst known socket.t.unread
  first = reading.first party world facts x cell T i socket known at has found ready

  its_request : (r : Request) × (first.item ≡ items.Request r)
  its_request = request_is first.item (subst (λ (e : Expected). MayStand e first.item) expects first.each.0)

  asked : (its_request.0 ≡ request_to (scene_of party world) x) × (is_mismatch (host_of (scene_of party world) x) known.peer_host (party x).address.id (party (other x)).address ≡ false)
  asked = facts.request x i socket known its_request.0 first.rest has found (reading.unended party world facts x cell T i socket known at has found ready) expects
      (subst (λ (z : Item). known.since ++ socket.t.unread ≡ spellings (z ∷ first.rest)) its_request.1 first.whole)
      (subst (λ (z : Item). MayFollow expected.Request (z ∷ first.rest)) its_request.1 (subst (λ (e : Expected). MayFollow e (first.item ∷ first.rest)) expects first.each))

  reads : Reads (scene_of party world) x T i socket known (items.Request (request_to (scene_of party world) x))
  reads = subst (Reads (scene_of party world) x T i socket known) (its_request.1 ∙ ap (λ (r : Request). items.Request r) asked.0) (reading.reads party world facts x cell T i socket known at has found ready)

  way : (answer : Answer) → TakesItem (hosts_of world) (first_of O) socket.o (items.Answer answer)
  way answer = facts.takes_answer x i known.number socket answer has (reading.due party world facts x cell T i socket known at has found ready ∙ ap (λ (e : Expected). Some (due_open e)) expects)

  -- the end of the world that a record of the link of the two is of
  record IsLinks (m : ℕ) (record_of : Socket) : Type 0 where
    pub j : ℕ
    pub their : WorldSocket
    pub e : End
    pub end : HasEnd (scene_of party world) x e j record_of.number their
    pub kept : find (is_socket record_of.number) (host_of (scene_of party world) x).sockets ≡ Some record_of
    pub number : record_of.number ≡ m

  its_end : (m : ℕ) (record_of : Socket) → find (is_socket m) (host_of (scene_of party world) x).sockets ≡ Some record_of → record_of.user ≡ Some ((party x).address.id, (party (other x)).address) → IsLinks m record_of
  its_end m record_of kept user =
      let number : record_of.number ≡ m = number_found m Own.sockets record_of kept in
      let there = facts.between x m record_of kept user in
      record {
        j = there.0;
        their = there.1;
        e = there.2;
        end = subst (λ (k : ℕ). HasEnd (scene_of party world) x there.2 there.0 k there.1) (sym number) there.3;
        kept = subst (λ (k : ℕ). find (is_socket k) (host_of (scene_of party world) x).sockets ≡ Some record_of) (sym number) kept;
        number = number;
      }

  by_dial : (own : ℕ) → L.state ≡ Dialing own → is_shut (party x).address.id (host_of (scene_of party world) x) ≡ false → (b : Bool) → is_greater x ≡ b → IsShown (scene_of party world) x cell known
  by_dial own dials stands true greater = (Read_t i ∷ [], requests.request_while_dialing S x cell i socket known (facts.acts x cell at) reads asked.1 own greater stands dials (way answers.Crossed))
  by_dial own dials stands false lesser =
      let dialed = says.dialing Own Number Peer own naming dials in
      let its = its_end own dialed.0 dialed.1 dialed.2.user in
      let opener : its.e ≡ O = opener_is journal world sound.links.asked (party x).place dialed.0.number cell dialed.0 its.their at
      (subst (λ (h : HostState). find (is_socket dialed.0.number) h.sockets ≡ Some dialed.0) (sym (reading.own_is party world facts x cell T i socket known at has found ready)) its.kept)
      (name_found world.sockets its.j its.their facts.apart its.end.at) its.e (Number, Peer) its.end.end dialed.2.opener dialed.2.user in (
        accepts_and_says S x i,
        request_taken S x cell i socket known (facts.acts x cell at) reads asked.1 its.j its.their dialed.0 (subst (λ (f : End). HasEnd (scene_of party world) x f its.j dialed.0.number its.their) opener its.end) its.kept
            (fits.are_data x) (facts.waits x) (way answers.Accepted) lesser stands (dials ∙ ap (λ (k : ℕ). Dialing k) (sym its.number)),
      )

  by_up : (up : ℕ) (probed : Bool) → L.state ≡ Up up probed → is_shut (party x).address.id (host_of (scene_of party world) x) ≡ false → IsShown (scene_of party world) x cell known
  by_up up true is stands = (Read_t i ∷ [], requests.request_while_probed S x cell i socket known (facts.acts x cell at) reads asked.1 up stands is (way answers.Crossed))
  by_up up false is stands =
      let risen = says.risen Own Number Peer up false naming is in
      let its = its_end up risen.0 risen.1 risen.2.user in (
        Read_t i ∷ [],
        request_up S x cell i socket known (facts.acts x cell at) reads asked.1 its.e its.j its.their risen.0 its.end (by_test (known.number == risen.0.number) (λ h. absurd (others risen.0 its.kept risen.2.user h)) (λ h. h)) its.kept
            (way answers.Crossed) (facts.takes_frame x its.e its.j risen.0.number its.their frames.Probe its.end (framing risen.0 its.kept risen.2) tt) stands (is ∙ ap (λ (k : ℕ). Up k false) (sym its.number)),
      ) where
        others : (up : Socket) → find (is_socket up.number) (host_of (scene_of party world) x).sockets ≡ Some up → up.user ≡ Some ((party x).address.id, (party (other x)).address) → (known.number == up.number) ≡ true → ⊥
        others up kept user h =
            let same : known ≡ up = some_is known up (sym (subst (λ (k : ℕ). find (is_socket k) (host_of (scene_of party world) x).sockets ≡ Some known) (number_is known.number up.number h) found) ∙ kept) in
            let clash : ◌≡◌ {A = Option (ℕ × Address)} None (Some (Number, Peer)) = sym unused ∙ ap (λ (s : Socket). s.user) same ∙ user in absurd cc

        framing : (up : Socket) → find (is_socket up.number) (host_of (scene_of party world) x).sockets ≡ Some up → IsUpFor (party x).address.id (party (other x)).address up → due_at (host_of (scene_of party world) x) up.number ≡ Some Framing
        framing up kept of = ap due_of kept ∙ ap (λ z. due_staged z up) of.stands ∙ ap (λ (e : Expected). Some (due_open e)) of.expects

  by_state : is_shut (party x).address.id (host_of (scene_of party world) x) ≡ false → (state : LinkState) → L.state ≡ state → IsShown (scene_of party world) x cell known
  by_state stands Idle is = (accepts_and_says S x i, requests.request_while_free S x cell i socket known (facts.acts x cell at) reads asked.1 (inl is) stands (fits.are_data x) (facts.waits x) (way answers.Accepted))
  by_state stands AwaitOther is = (accepts_and_says S x i, requests.request_while_free S x cell i socket known (facts.acts x cell at) reads asked.1 (inr is) stands (fits.are_data x) (facts.waits x) (way answers.Accepted))
  by_state stands (Dialing own) is = by_dial own is stands (is_greater x) refl
  by_state stands (Up up probed) is = by_up up probed is stands

  by_shut : (b : Bool) → is_shut (party x).address.id (host_of (scene_of party world) x) ≡ b → IsShown (scene_of party world) x cell known
  by_shut true shut = (Read_t i ∷ [], requests.request_refused S x cell i socket known (facts.acts x cell at) reads asked.1 shut (way answers.Invalid))
  by_shut false stands = by_state stands L.state refl

  pub request_shown : IsShown (scene_of party world) x cell known
  request_shown = by_shut (is_shut Number Own) refl
