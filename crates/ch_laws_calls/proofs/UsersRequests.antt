-- A request that a target of two names reads is the one that its opener asks: so its host text is true, and whom it asks for is called as the socket.
use Rattle.std.proofs.Common.{◌≡◌, ℕ, Bool, true, false, cond, not, ◌||◌, inl, inr, List, [], ◌∷◌, ◌++◌, refl, sym, ap, ◌∙◌, subst}
use Rattle.std.proofs.lemmas.Bool.{and_parts}
use Rattle.std.proofs.lemmas.List.Quantifiers.{position-Some}
use Rattle.std.proofs.lemmas.Option.{get_or_from_slice_get}
use Rattle.std.proofs.lemmas.Slice.Eq.{bytes_eq-Decides}
use Rattle.std.specs.List.{list_any}
use Rattle.std.specs.Option.{option_map}
use Rattle.std.specs.Prelude.{find, slice_get, Option, Some, None, ◌==◌}
use Rattle.std.specs.Str.{bytes_eq}
use Rattle.ch_base.specs.declared.address.Address.{Address}
use Rattle.ch_wire.specs.Spelling.{IsRequest, request_spelling}
use Rattle.ch_wire.specs.declared.request.Request.{Request}
use Rattle.ch_reader.specs.Reading.{reading}
use Rattle.ch_reader.specs.declared.item.Expected.{Expected}
use Rattle.ch_reader.specs.declared.item.Expected.TheVariants as expected
use Rattle.ch_reader.specs.declared.item.Front.{Front}
use Rattle.ch_reader.specs.declared.item.Front.TheVariants.{Unfinished, Whole}
use Rattle.ch_reader.specs.declared.item.Item.TheVariants as items
use Rattle.ch_reader.proofs.Bodies.{at}
use Rattle.ch_reader.proofs.Complete.{reads_item}
use Rattle.ch_watch.specs.Same.{same_node}
use Rattle.ch_model.specs.declared.entry.Entry.{Entry}
use Rattle.ch_model.specs.declared.line.Line.{Line}
use Rattle.ch_model.specs.declared.name.End.{End}
use Rattle.ch_model.specs.declared.name.End.TheVariants.{T}
use Rattle.ch_model.specs.declared.name.SockName.{SockName}
use Rattle.ch_model.specs.HostItems.{is_mismatch}
use Rattle.ch_model.specs.HostState.{Socket, HostState}
use Rattle.ch_model.specs.HostSteps.{own_address}
use Rattle.ch_model.specs.Naming.{called}
use Rattle.ch_model.specs.Stages.{Stage, Pending, Open, Ended, is_open, is_ended}
use Rattle.ch_model.specs.World.{world_new}
use Rattle.ch_model.specs.WorldSockets.{is_socket_named, is_host_of, cell_of}
use Rattle.ch_model.specs.WorldState.{Cell, WorldSocket, World}
use Rattle.ch_laws_world.specs.Grows.{homes_of}
use Rattle.ch_laws_world.proofs.Journals.{address_stays}
use Rattle.ch_laws_log.specs.WorldEnds.{stage_found}
use Rattle.ch_laws_log.proofs.Keys.{node_is}
use Rattle.ch_laws_log.proofs.Stored.{number_is, bytes_same}
use Rattle.ch_laws_ends.proofs.Found.{EachFound, Stands}
use Rattle.ch_laws_ends.specs.Agree.{AgreesOnEnds}
use Rattle.ch_laws_reads.proofs.Stays.{stays_whole}
use Rattle.ch_laws_links.proofs.Readings.{FrontMatches, reading_matches}
use Rattle.ch_laws_bytes.proofs.Asked.{may_be_asked}
use Rattle.ch_laws_bytes.proofs.Lines.{own_of}
use Rattle.ch_laws_bytes.specs.Streams.{AreAddresses, reader_in, reader_at, readers_of, is_over, reads_at, writes_at, dues_of}
use Rattle.ch_laws_pairs.specs.Dials.{IsBetweenNames}
use Rattle.ch_laws_calls.specs.UsersCarried.{hosts_of, record_at, records_of, IsClean, IsSeated, AsksOn, IsBegun, Carried}
use Rattle.ch_laws_calls.specs.UsersRecords.{IsReadAs, Asks}
use Rattle.ch_laws_calls.proofs.UsersBlames.{IsFalse}
use Rattle.ch_laws_calls.proofs.UsersHomes.{circle_is}
use Rattle.ch_laws_calls.proofs.UsersStarts.{is_at}

-- ---- what stands at the front

-- a request is read where one is expected
request_expected : (e : Expected) (bytes : List ℕ) (request : Request) → (reading e bytes).0 ≡ Whole (items.Request request) → e ≡ expected.Request
request_expected e bytes request w = by_kind e (subst (λ (f : Front). FrontMatches e f) w (reading_matches e bytes)) where
  by_kind : (e : Expected) → FrontMatches e (Whole (items.Request request)) → e ≡ expected.Request
  by_kind expected.Request m = refl
  by_kind expected.Answer m = absurd m
  by_kind expected.Frame m = absurd m

request_of : (a b : Request) → Whole (items.Request a) ≡ Whole (items.Request b) → a ≡ b
request_of a b e = cc

-- the request at the front is the one that the bytes begin with
front_is : (since unread more : List ℕ) (request asked : Request) → (reading expected.Request since).0 ≡ Whole (items.Request request) → IsRequest asked → since ++ unread ≡ request_spelling asked ++ more → request ≡ asked
front_is since unread more request asked w may e = request_of request asked
    (sym (stays_whole expected.Request since unread (items.Request request) w).0 ∙ ap (λ (l : List ℕ). (reading expected.Request l).0) e ∙ ap (λ (r : Front × ℕ). r.0) (reads_item expected.Request (items.Request asked) more may))

-- of no bytes none is read
none_read : {A : Type 0} (since unread : List ℕ) (request : Request) → (reading expected.Request since).0 ≡ Whole (items.Request request) → since ++ unread ≡ [] → A
none_read [] unread request w e = let clash : Unfinished ≡ Whole (items.Request request) = w in absurd cc
none_read (b ∷ since) unread request w e = absurd cc

-- ---- what a target reads

-- what is given of a host and the world
pub record IsHosted (journal : List Line) (log : List Entry) (world : World) (place : ℕ) (cell : Cell × ℕ) : Type 0 where
  pub at : slice_get world.cells place ≡ Some cell
  pub each : EachFound world.sockets
  pub agrees : AgreesOnEnds world
  pub homes : homes_of world.cells ≡ homes_of (world_new journal).cells
  pub own_is : (end : ℕ) → own_address cell.0.host end ≡ own_of journal place end
  pub addresses : AreAddresses world.names
  pub carried : Carried journal log world

-- the request is of an endpoint that is called as the opener, to the address that the target's end leads to
pub record IsAskedFor (journal : List Line) (world : World) (socket : WorldSocket) (place : ℕ) (request : Request) : Type 0 where
  pub opener : ℕ
  pub asker : ℕ
  pub asked : Address
  pub from : called world.names (own_of journal opener asker) ≡ socket.name.from
  pub to : called world.names asked ≡ socket.name.to
  pub is : request ≡ record { target = asked.id; from = own_of journal opener asker }
  pub own : asked ≡ own_of journal place asked.id
  pub from_host : socket.from_host ≡ (own_of journal opener 0).host
  pub taken : list_any (bytes_eq (own_of journal opener 0).host) (hosts_of journal) ≡ true

open_is : (stage : Stage) → is_open stage ≡ true → stage ≡ Open
open_is Pending e = absurd cc
open_is Open e = refl
open_is Ended e = absurd cc

-- an address that leads to a cell is one of its endpoints'
leads_home : (journal : List Line) (world : World) (place : ℕ) (cell : Cell × ℕ) (asked : Address) → slice_get world.cells place ≡ Some cell → homes_of world.cells ≡ homes_of (world_new journal).cells → ((end : ℕ) → own_address cell.0.host end ≡ own_of journal place end) → cell_of (world_new journal) asked ≡ Some place → asked ≡ own_of journal place asked.id
leads_home journal world place cell asked at homes own_is e = host_is ∙ own_is asked.id where
  here : is_host_of asked cell ≡ true
  here = subst (λ (c : Cell × ℕ). is_host_of asked c ≡ true) (get_or_from_slice_get world.cells place cell cell at) (position-Some (is_host_of asked) world.cells place cell (address_stays asked (world_new journal) world homes ∙ e)).1

  host_is : asked ≡ own_address cell.0.host asked.id
  host_is = let parts = and_parts (bytes_eq cell.0.host.host asked.host) (cell.0.host.port == asked.port) here in
      same cell.0.host.host asked.host cell.0.host.port asked.port ((bytes_eq-Decides cell.0.host.host asked.host).0 parts.0) (number_is cell.0.host.port asked.port parts.1) where
        same : (h k : List ℕ) (p q : ℕ) → h ≡ k → p ≡ q → ◌≡◌ {A = Address} (record { host = k; port = q; id = asked.id }) (record { host = h; port = p; id = asked.id })
        same h k p q e f = ap (λ (x : List ℕ). record { host = x; port = q; id = asked.id }) (sym e) ∙ ap (λ (x : ℕ). record { host = h; port = x; id = asked.id }) (sym f)

pub asked_for : (journal : List Line) (log : List Entry) (world : World) (place : ℕ) (cell : Cell × ℕ) (s : SockName) (socket : WorldSocket) (n : ℕ) (request : Request) → IsHosted journal log world place cell → find (is_socket_named s) world.sockets ≡ Some socket → socket.t.cell ≡ Some place → socket.t.number ≡ Some n
    → IsBetweenNames socket.name → IsReadAs cell.0.host n request → IsAskedFor journal world socket place request
asked_for journal log world place cell s socket n request g f c m names read = by_asked (b.request seat.opener seat.at standing read.socket.since reader) where
  seat : IsSeated journal world.names (records_of world.cells) socket
  seat = g.carried.seated s socket f

  b : IsBegun journal world.names (readers_of world.cells) (dues_of world.cells) socket
  b = g.carried.begun s socket f

  expects : read.socket.expected ≡ expected.Request
  expects = request_expected read.socket.expected read.socket.since request read.front

  front : (reading expected.Request read.socket.since).0 ≡ Whole (items.Request request)
  front = subst (λ (e : Expected). (reading e read.socket.since).0 ≡ Whole (items.Request request)) expects read.front

  stage : socket.t.stage ≡ Open
  stage = one (sym (ap (λ (o : Option (SockName × End)). stage_found o world.sockets) (g.each s socket T place n f (is_at place n socket.t c m)) ∙ ap (Stands T) f) ∙ sym (g.agrees.ends place cell g.at n) ∙ ap (option_map (λ (w : Socket). w.stage)) read.found) ∙ open_is read.socket.stage read.stands where
    one : ◌≡◌ {A = Option Stage} (Some socket.t.stage) (Some read.socket.stage) → socket.t.stage ≡ read.socket.stage
    one e = cc

  standing : is_over socket.t ≡ false
  standing = ap (λ (x : Stage). is_ended x || socket.t.is_cut) stage ∙ seat.uncut T

  reader : reads_at (readers_of world.cells) expected.Request socket.t.cell socket.t.number ≡ Some (expected.Request, read.socket.since)
  reader = ap (λ (o : Option ℕ). reads_at (readers_of world.cells) expected.Request o socket.t.number) c ∙ ap (λ (o : Option ℕ). reads_at (readers_of world.cells) expected.Request (Some place) o) m ∙ ap (λ (o : Option (Cell × ℕ)). reader_at o n) g.at ∙ ap reader_in read.found
      ∙ ap (λ (x : Stage). cond (is_ended x) None (Some (read.socket.expected, read.socket.since))) (open_is read.socket.stage read.stands) ∙ ap (λ (e : Expected). Some (e, read.socket.since)) expects

  own : b.leads.asked ≡ own_of journal place b.leads.asked.id
  own = leads_home journal world place cell b.leads.asked g.at g.homes g.own_is (sym b.leads.cell ∙ c)

  by_asked : AsksOn (own_of journal seat.opener) world.names b.leads.asked socket.name (read.socket.since ++ socket.t.unread) (writes_at (dues_of world.cells) socket.o.cell socket.o.number) → IsAskedFor journal world socket place request
  by_asked (inl w) = none_read read.socket.since socket.t.unread request front w.0
  by_asked (inr a) = record {
    opener = seat.opener;
    asker = a.asker;
    asked = b.leads.asked;
    from = a.from;
    to = b.leads.to;
    is = front_is read.socket.since socket.t.unread a.more request (record { target = b.leads.asked.id; from = own_of journal seat.opener a.asker }) front (may_be_asked (own_of journal seat.opener) world.names socket.name g.addresses names.0 names.1 a.asker b.leads.asked a.from b.leads.to) a.begins;
    own = own;
    from_host = seat.from_host;
    taken = seat.taken;
  }

-- ---- so a user that is asked for is called as the socket

pub users_named : (journal : List Line) (log : List Entry) (world : World) (place : ℕ) (cell : Cell × ℕ) (s : SockName) (socket : WorldSocket) (n : ℕ) (user : ℕ × Address) → IsHosted journal log world place cell → find (is_socket_named s) world.sockets ≡ Some socket → socket.t.cell ≡ Some place → socket.t.number ≡ Some n
    → Asks cell.0.host n user → IsBetweenNames socket.name → (called world.names (own_of journal place user.0) ≡ socket.name.to) × (called world.names user.1 ≡ socket.name.from)
users_named journal log world place cell s socket n user g f c m asks names = (
  ap (λ (u : ℕ × Address). called world.names (own_of journal place u.0)) user_is ∙ ap (called world.names) (sym of.own) ∙ of.to,
  ap (λ (u : ℕ × Address). called world.names u.1) user_is ∙ of.from,
) where
  of : IsAskedFor journal world socket place asks.0
  of = asked_for journal log world place cell s socket n asks.0 g f c m names asks.1

  user_is : user ≡ (of.asked.id, own_of journal of.opener of.asker)
  user_is = asks.2 ∙ ap (λ (r : Request). (r.target, r.from)) of.is

-- ---- and its host text is true

-- all endpoints of a place are of one host
own_host : (journal : List Line) (place end : ℕ) → (own_of journal place end).host ≡ (own_of journal place 0).host
own_host journal place end = by_cell (slice_get (world_new journal).cells place) where
  own : Option (Cell × ℕ) → ℕ → Address
  own o = elim o as (λ o. ℕ → Address) [
    | None ↦ λ e. record { host = []; port = 0; id = e }
    | Some cell ↦ λ e. own_address cell.0.host e
  ]

  by_cell : (o : Option (Cell × ℕ)) → (own o end).host ≡ (own o 0).host
  by_cell None = refl
  by_cell (Some cell) = refl

-- a text that is that of the peer, which the host takes, and of another node
true_text : (host : HostState) (text : List ℕ) (target : ℕ) (peer : Address) → bytes_eq peer.host text ≡ true → list_any (bytes_eq peer.host) host.circle ≡ true → same_node peer (own_address host target) ≡ false → is_mismatch host (Some text) target peer ≡ false
true_text host text target peer a b c = ap (λ x. not x || (not (list_any (bytes_eq peer.host) host.circle) || same_node peer (own_address host target))) a ∙ ap (λ x. not x || same_node peer (own_address host target)) b ∙ c

pub not_false : (journal : List Line) (log : List Entry) (world : World) (place : ℕ) (cell : Cell × ℕ) (s : SockName) (socket : WorldSocket) (n : ℕ) → IsHosted journal log world place cell → find (is_socket_named s) world.sockets ≡ Some socket → socket.t.cell ≡ Some place → socket.t.number ≡ Some n
    → IsClean socket.name → IsFalse cell.0.host n → ⊥
not_false journal log world place cell s socket n g f c m clean x = clash (sym x.mismatch ∙ ap (λ (h : Option (List ℕ)). is_mismatch cell.0.host h x.request.target x.request.from) peer_host
    ∙ ap (λ (r : Request). is_mismatch cell.0.host (Some socket.from_host) r.target r.from) of.is ∙ true_text cell.0.host socket.from_host of.asked.id (own_of journal of.opener of.asker) text taken apart) where
      clash : true ≡ false → ⊥
      clash e = cc

      of : IsAskedFor journal world socket place x.request
      of = asked_for journal log world place cell s socket n x.request g f c m clean.0 x.read

      peer_host : x.read.socket.peer_host ≡ Some socket.from_host
      peer_host = ((g.carried.seated s socket f).target place n x.read.socket c m (ap (λ (o : Option (Cell × ℕ)). record_at o n) g.at ∙ x.read.found)).peer_host

      host : (own_of journal of.opener of.asker).host ≡ (own_of journal of.opener 0).host
      host = own_host journal of.opener of.asker

      text : bytes_eq (own_of journal of.opener of.asker).host socket.from_host ≡ true
      text = ap (bytes_eq (own_of journal of.opener of.asker).host) (of.from_host ∙ sym host) ∙ bytes_same (own_of journal of.opener of.asker).host

      taken : list_any (bytes_eq (own_of journal of.opener of.asker).host) cell.0.host.circle ≡ true
      taken = ap (λ (h : List ℕ). list_any (bytes_eq h) cell.0.host.circle) host ∙ ap (list_any (bytes_eq (own_of journal of.opener 0).host)) (circle_is journal world place cell g.homes g.at) ∙ of.taken

      apart : same_node (own_of journal of.opener of.asker) (own_address cell.0.host of.asked.id) ≡ false
      apart = by_test (same_node (own_of journal of.opener of.asker) (own_address cell.0.host of.asked.id)) refl where
        by_test : (b : Bool) → same_node (own_of journal of.opener of.asker) (own_address cell.0.host of.asked.id) ≡ b → b ≡ false
        by_test false e = refl
        by_test true e =
            let is : own_of journal of.opener of.asker ≡ of.asked = node_is (own_of journal of.opener of.asker) (own_address cell.0.host of.asked.id) e ∙ g.own_is of.asked.id ∙ sym of.own in
            let names : socket.name.from ≡ socket.name.to = sym of.from ∙ ap (called world.names) is ∙ of.to in
            absurd (clash (sym (bytes_same socket.name.to) ∙ sym (ap (λ (l : List ℕ). bytes_eq l socket.name.to) names) ∙ clean.1))
