-- What an item that a host reads brings, and what the end of a socket's input does.
use Rattle.std.proofs.Common.{◌≡◌, ◌⊎◌, inl, inr, ℕ, ◌+◌, Bool, true, false, cond, List, [], ◌∷◌, Ok, Err, refl, sym, ap, ◌∙◌, subst}
use Rattle.std.specs.Prelude.{find, Option, Some, None, Result, nat_lt, ◌==◌}
use Rattle.ch_base.specs.declared.address.Address.{Address}
use Rattle.ch_base.specs.declared.event.Event.TheVariants as events
use Rattle.ch_base.specs.declared.memory.Stop.TheVariants as stops
use Rattle.ch_wire.specs.declared.answer.Answer.{Answer}
use Rattle.ch_wire.specs.declared.frame.Frame.{Frame}
use Rattle.ch_wire.specs.declared.frame.Frame.TheVariants as frames
use Rattle.ch_wire.specs.declared.request.Request.{Request}
use Rattle.ch_reader.specs.declared.item.Expected.{Expected}
use Rattle.ch_reader.specs.declared.item.Expected.TheVariants as expected
use Rattle.ch_reader.specs.declared.item.Front.{Front}
use Rattle.ch_reader.specs.declared.item.Front.TheVariants.{Unfinished, Whole, Refused}
use Rattle.ch_reader.specs.declared.item.Item.{Item}
use Rattle.ch_reader.specs.declared.item.Item.TheVariants as items
use Rattle.ch_light.specs.declared.Connection.{Connection}
use Rattle.ch_light.specs.declared.error.LightError.{LightError}
use Rattle.ch_light.specs.Ids.{created_of, conn_of, closed_of}
use Rattle.ch_link.specs.declared.LinkIn.{LinkIn}
use Rattle.ch_link.specs.declared.LinkIn.TheVariants as inputs
use Rattle.ch_link.specs.declared.LinkState.TheVariants as states
use Rattle.ch_model.specs.declared.step.SocketEvent.TheVariants as sockets
use Rattle.ch_model.specs.declared.step.Step.TheVariants as steps
use Rattle.ch_model.specs.Host.{front_of, is_ready_front, takes, handles, host_on}
use Rattle.ch_model.specs.HostItems.{most_arrived, posts, is_gone, refusal_of, asks_link, reads_request, heard_answer, arrived_at, with_arrival, next_arrival, arrives, closes, receives, reads_frame, reads_on, reads}
use Rattle.ch_model.specs.HostLinks.{hears}
use Rattle.ch_model.specs.HostState.{Endpoint, Link, Socket, HostState}
use Rattle.ch_model.specs.HostSteps.{Stepped, still, after_steps, is_endpoint, link_with, with_link, with_socket, with_endpoint, is_socket}
use Rattle.ch_model.specs.HostWrites.{answers_and_leaves, end_socket}
use Rattle.ch_model.specs.Stages.{is_open, is_ended}
use Rattle.ch_laws_links.specs.Naming.{IsNaming, IsDialedBy, IsUpFor}
use Rattle.ch_laws_links.proofs.Keys.{ended_rest}
use Rattle.ch_laws_links.proofs.Readings.{Matches, FrontMatches, reading_matches}
use Rattle.ch_laws_links.proofs.Says.{used, unused}
use Rattle.ch_laws_writes.specs.Orderly.{IsOrderly, link_at}
use Rattle.ch_laws_calls.specs.FitsFit.{frames_in}
use Rattle.ch_laws_calls.proofs.FitsItems.{Fronts}
use Rattle.ch_laws_calls.proofs.FitsStores.{Stores, stored}
use Rattle.ch_laws_plain.specs.Talks.{HostIsPlain}
use Rattle.ch_laws_plain.proofs.Talks.{clash}
use Rattle.ch_laws_plain.specs.ReadsReading.{AllReadThere, AreOfNone, ReadOn, Brings}
use Rattle.ch_laws_plain.proofs.ReadsBrought.{own_key, kept_created, nothing_of, loses_of, AllLet, all_gone, lets_bring}
use Rattle.ch_laws_plain.proofs.ReadsEnds.{all_there, none_so, none_at_any, none_of, not_over, taken, asking, taken_so, taken_of_host, asked_there, none_at}
use Rattle.ch_laws_plain.proofs.ReadsLinks.{Keeps, Fails, AllHear, AllAsk, IsHeard, heard, heard_asked}
use Rattle.ch_laws_plain.proofs.ReadsSockets.{WereSo, same_so, ended_so}

-- ---- whatever was done

abbrev pub AllBring : HostState → Stepped → Type 0
AllBring host (Ok done) = Brings host done.0 done.1
AllBring host (Err stop) = Unit {0}

-- the same behind an item that was read
abbrev AllRead : HostState → ℕ → Stepped → Type 0
AllRead host sock done = AllBring host (after_steps (steps.Read sock ∷ []) done)

-- the host from whose end the item was taken
abbrev taken_from : Socket → HostState → HostState
taken_from socket host = with_socket (taken socket) host

-- ---- an end that is gone

gone_let : (host : HostState) (socket : Socket) (link : Link) (done : Stepped) → IsNaming host → link_with host link.end link.peer ≡ link → AllLet host socket.number link done → AllBring host done
gone_let host socket link (Ok done) s is l = lets_bring host host done.1 socket.number link done.0 done.0 [] s refl is (none_of host) (none_at_any host socket.number) l refl
gone_let host socket link (Err stop) s is l = tt

gone : (host : HostState) (socket : Socket) → IsNaming host → AllBring host (is_gone socket host)
gone host socket s = all_gone host host socket (AllBring host) refl (λ link done is l. gone_let host socket link done s is l)

-- the item that was read there is refused
refused_let : (host : HostState) (socket : Socket) (item : Item) (link : Link) (done : Stepped) → IsNaming host → Fronts host socket item → link_with host link.end link.peer ≡ link → AllLet (taken_from socket host) socket.number link done → AllRead host socket.number done
refused_let host socket item link (Ok done) s f is l = lets_bring host (taken_from socket host) done.1 socket.number link (steps.Read socket.number ∷ done.0) done.0 (frames_in (item ∷ [])) s refl is (taken_of_host host socket item f) (taken_so host socket item f) l refl
refused_let host socket item link (Err stop) s f is l = tt

refused : (host : HostState) (socket : Socket) (item : Item) → IsNaming host → Fronts host socket item → AllRead host socket.number (is_gone (taken socket) (taken_from socket host))
refused host socket item s f = all_gone host (taken_from socket host) (taken socket) (AllRead host socket.number) refl (λ link done is l. refused_let host socket item link done s f is l)

-- ---- a link that hears of an item

heard_brings : (host : HostState) (socket : Socket) (item : Item) (link : Link) (done : Stepped) → IsNaming host → Fronts host socket item → link_with host link.end link.peer ≡ link → AreOfNone (frames_in (item ∷ [])) → AllHear (taken_from socket host) link done → AllRead host socket.number done
heard_brings host socket item link (Err stop) s f is none h = tt
heard_brings host socket item link (Ok done) s f is none h = by_heard h where
  at : ℕ → List Frame
  at n = cond (socket.number == n) (frames_in (item ∷ [])) []

  all_none : (n : ℕ) → AreOfNone (at n)
  all_none n = none_at socket.number n (frames_in (item ∷ [])) none

  read : WereSo (taken_from socket host) done.1 → AllReadThere host done.1 at
  read so = all_there host (taken_from socket host) done.1 at so (taken_so host socket item f)

  by_heard : Keeps (taken_from socket host) link done.0 done.1 ⊎ Fails (taken_from socket host) link done.0 done.1 → Brings host (steps.Read socket.number ∷ done.0) done.1
  by_heard (inl k) = inl (nothing_of host (taken_from socket host) done.1 link (steps.Read socket.number ∷ done.0) done.0 at refl is k refl all_none (read k.so))
  by_heard (inr x) = inr (inr (inr (inr (loses_of host (taken_from socket host) done.1 link (steps.Read socket.number ∷ done.0) done.0 at s refl is x refl all_none (read x.so) at (taken_of_host host socket item f) (taken_so host socket item f)))))

hears_item : (host : HostState) (socket : Socket) (item : Item) (end : ℕ) (peer : Address) (input : LinkIn) → IsNaming host → Fronts host socket item → AreOfNone (frames_in (item ∷ [])) → IsHeard input → AllRead host socket.number (hears input (link_with host end peer) (taken_from socket host))
hears_item host socket item end peer input s f none m = heard_brings host socket item (link_with host end peer) (hears input (link_with host end peer) (taken_from socket host)) s f (own_key host end peer) none (heard input (link_with host end peer) (taken_from socket host) m)

-- ---- a request

-- the request is answered at once
turned_away : (host : HostState) (socket : Socket) (request : Request) (answer : Answer) → Fronts host socket (items.Request request) → AllRead host socket.number (answers_and_leaves socket.number answer (taken_from socket host))
turned_away host socket request answer f = inl (record {
  posted = refl;
  created = λ e p. ap (λ (l : List Link). (link_at l e p).created) (ended_rest socket.number (taken_from socket host)).0;
  frames = λ n. cond (socket.number == n) [] [];
  none = λ n. none_at socket.number n [] tt;
  read = all_there host (taken_from socket host) (end_socket socket.number (taken_from socket host)) (λ n. cond (socket.number == n) [] []) (ended_so socket.number (taken_from socket host)) (taken_so host socket (items.Request request) f);
})

-- the link is asked
asked_brings : (host : HostState) (socket : Socket) (request : Request) (done : Stepped) → Fronts host socket (items.Request request) → socket.user ≡ None → AllAsk (with_socket (asking socket request.target request.from) (taken_from socket host)) (link_with host request.target request.from) socket.number done → AllRead host socket.number done
asked_brings host socket request (Err stop) f unused a = tt
asked_brings host socket request (Ok done) f unused a = inl (nothing_of host mid done.1 link (steps.Read socket.number ∷ done.0) done.0 (λ n. []) refl (own_key host request.target request.from) a.0 refl (λ n. tt)
    (asked_there host done.1 socket request request.target request.from f unused a.0.so (λ now found stands. kept_created host done.1 link a.0.two (own_key host request.target request.from) a.0.stores a.0.created request.target request.from ∙ a.1 now found stands)))
  where
    mid : HostState
    mid = with_socket (asking socket request.target request.from) (taken_from socket host)

    link : Link
    link = link_with host request.target request.from

requested : (own : ℕ → Address) (host : HostState) (socket : Socket) (request : Request) → IsOrderly own host → HostIsPlain host → Fronts host socket (items.Request request) → socket.expected ≡ expected.Request → AllRead host socket.number (reads_request (taken socket) request (taken_from socket host))
requested own host socket request o p f e = by_answer (refusal_of (taken_from socket host) (taken socket) request.target request.from) where
  by_answer : (answer : Option Answer) → AllRead host socket.number (elim answer as (λ x. Stepped) [
    | Some answer ↦ answers_and_leaves socket.number answer (taken_from socket host)
    | None ↦ asks_link (taken socket) request.target request.from (taken_from socket host)
  ])
  by_answer (Some answer) = turned_away host socket request answer f
  by_answer None = asked_brings host socket request (asks_link (taken socket) request.target request.from (taken_from socket host)) f ((o.sockets socket.number socket f.found).unasked e)
      (heard_asked (link_with host request.target request.from) socket.number (with_socket (asking socket request.target request.from) (taken_from socket host)) (p request.target request.from).created)

-- ---- a frame

-- one of a socket that its link is up on
record Framed (host : HostState) (socket : Socket) (frame : Frame) (link : Link) : Type 0 where
  is : link_with host link.end link.peer ≡ link
  fronts : Fronts host socket (items.Frame frame)
  probed : Bool
  up : link.state ≡ states.Up socket.number probed

-- it is taken, and the link has these connections then
read_on : (host after : HostState) (socket : Socket) (frame : Frame) (link : Link) (ids : List Connection) → Framed host socket frame link → Stores host.links after.links link.end link.peer (record link { created = ids }) → after.sockets ≡ (taken_from socket host).sockets → ReadOn host link.end link.peer frame after
read_on host after socket frame link ids f s same = record {
  sock = socket.number;
  probed = f.probed;
  up = ap (λ (l : Link). l.state) f.is ∙ f.up;
  up_still = ap (λ (l : Link). l.state) s.now ∙ f.up;
  others = λ e p h. ap (λ (l : Link). l.created) (s.others e p h);
  read = all_there host (taken_from socket host) after (λ n. cond (socket.number == n) (frame ∷ []) []) (same_so (taken_from socket host) after same) (taken_so host socket (items.Frame frame) f.fronts);
}

-- ids that are found are those of its link
now_created : (host after : HostState) (link : Link) (ids : List Connection) → Stores host.links after.links link.end link.peer (record link { created = ids }) → (link_with after link.end link.peer).created ≡ ids
now_created host after link ids s = ap (λ (l : Link). l.created) s.now

arrival_rest : (end : ℕ) (host : HostState) → ((with_arrival end host).links ≡ host.links) × ((with_arrival end host).sockets ≡ host.sockets)
arrival_rest end host = by_endpoint (find (is_endpoint end) host.ends) where
  after : Option Endpoint → HostState
  after o = elim o [
    | None ↦ host
    | Some endpoint ↦ with_endpoint (record endpoint { arrived = endpoint.arrived + 1 }) host
  ]

  by_endpoint : (o : Option Endpoint) → ((after o).links ≡ host.links) × ((after o).sockets ≡ host.sockets)
  by_endpoint None = (refl, refl)
  by_endpoint (Some endpoint) = (refl, refl)

created_brings : (host : HostState) (socket : Socket) (id : ℕ) (link : Link) → IsNaming host → Framed host socket (frames.Created id) link → AllRead host socket.number (arrives (taken socket) link (created_of link.created id (next_arrival host link.end)) (taken_from socket host))
created_brings host socket id link s f = by_created (created_of link.created id number) refl where
  mid : HostState
  mid = taken_from socket host

  number : ℕ
  number = next_arrival host link.end

  by_test : (created : List Connection) → created_of link.created id number ≡ Ok created → (b : Bool) → AllRead host socket.number (cond b (posts link.end (events.ConnectionOpened number link.peer) (with_arrival link.end (with_link (record link { created = created }) mid))) (Err stops.Worn))
  by_test ids e false = tt
  by_test ids e true = inr (inl (record {
    end = link.end;
    peer = link.peer;
    id = id;
    on = read_on host after socket (frames.Created id) link ids f stores (arrival_rest link.end (with_link (record link { created = ids }) mid)).1;
    created = ap (λ (l : Link). created_of l.created id number) f.is ∙ e ∙ ap Ok (sym (now_created host after link ids stores));
    posted = refl;
  })) where
    after : HostState
    after = with_arrival link.end (with_link (record link { created = ids }) mid)

    stores : Stores host.links after.links link.end link.peer (record link { created = ids })
    stores = subst (λ (l : List Link). Stores host.links l link.end link.peer (record link { created = ids })) (sym (arrival_rest link.end (with_link (record link { created = ids }) mid)).0) (stored host.links (record link { created = ids }))

  by_created : (r : Result (List Connection) LightError) → created_of link.created id number ≡ r → AllRead host socket.number (arrives (taken socket) link r mid)
  by_created (Err x) e = refused host socket (items.Frame (frames.Created id)) s f.fronts
  by_created (Ok ids) e = by_test ids e (nat_lt (arrived_at mid link.end) most_arrived)

closed_brings : (host : HostState) (socket : Socket) (id : ℕ) (link : Link) → IsNaming host → Framed host socket (frames.Closed id) link → AllRead host socket.number (closes (taken socket) link (closed_of link.created id) (taken_from socket host))
closed_brings host socket id link s f = by_closed (closed_of link.created id) refl where
  by_closed : (r : Result (ℕ × List Connection) LightError) → closed_of link.created id ≡ r → AllRead host socket.number (closes (taken socket) link r (taken_from socket host))
  by_closed (Err x) e = refused host socket (items.Frame (frames.Closed id)) s f.fronts
  by_closed (Ok (conn, ids)) e = inr (inr (inl (record {
    end = link.end;
    peer = link.peer;
    id = id;
    conn = conn;
    on = read_on host after socket (frames.Closed id) link ids f (stored host.links (record link { created = ids })) refl;
    created = ap (λ (l : Link). closed_of l.created id) f.is ∙ e ∙ ap (λ (l : List Connection). Ok (conn, l)) (sym (now_created host after link ids (stored host.links (record link { created = ids }))));
    posted = refl;
  }))) where
    after : HostState
    after = with_link (record link { created = ids }) (taken_from socket host)

data_brings : (host : HostState) (socket : Socket) (id : ℕ) (payload : List ℕ) (link : Link) → IsNaming host → Framed host socket (frames.Data id payload) link → AllRead host socket.number (receives (taken socket) link payload (conn_of link.created id) (taken_from socket host))
data_brings host socket id payload link s f = by_conn (conn_of link.created id) refl where
  by_conn : (r : Result ℕ LightError) → conn_of link.created id ≡ r → AllRead host socket.number (receives (taken socket) link payload r (taken_from socket host))
  by_conn (Err x) e = refused host socket (items.Frame (frames.Data id payload)) s f.fronts
  by_conn (Ok conn) e = inr (inr (inr (inl (record {
    end = link.end;
    peer = link.peer;
    id = id;
    conn = conn;
    payload = payload;
    on = read_on host (taken_from socket host) socket (frames.Data id payload) link link.created f (record { now = f.is; others = λ e p h. refl }) refl;
    found = ap (λ (l : Link). conn_of l.created id) f.is ∙ e;
    created = refl;
    posted = refl;
  }))))

framed : (host : HostState) (socket : Socket) (frame : Frame) (end : ℕ) (peer : Address) → IsNaming host → Framed host socket frame (link_with host end peer) → AllRead host socket.number (reads_frame (taken socket) (link_with host end peer) frame (taken_from socket host))
framed host socket (frames.Created id) end peer s f = created_brings host socket id (link_with host end peer) s f
framed host socket (frames.Closed id) end peer s f = closed_brings host socket id (link_with host end peer) s f
framed host socket (frames.Data id payload) end peer s f = data_brings host socket id payload (link_with host end peer) s f
framed host socket frames.EndClosed end peer s f = hears_item host socket (items.Frame frames.EndClosed) end peer inputs.EndClosed s f.fronts (tt, tt) tt
framed host socket frames.Probe end peer s f = hears_item host socket (items.Frame frames.Probe) end peer inputs.Probe s f.fronts (tt, tt) tt
framed host socket frames.ProbeAck end peer s f = hears_item host socket (items.Frame frames.ProbeAck) end peer inputs.Ack s f.fronts (tt, tt) tt

-- ---- any item

asks_is : (e : Expected) (request : Request) → Matches e (items.Request request) → e ≡ expected.Request
asks_is expected.Request request m = refl
asks_is expected.Answer request m = absurd m
asks_is expected.Frame request m = absurd m

answers_is : (e : Expected) (answer : Answer) → Matches e (items.Answer answer) → e ≡ expected.Answer
answers_is expected.Request answer m = absurd m
answers_is expected.Answer answer m = refl
answers_is expected.Frame answer m = absurd m

frames_is : (e : Expected) (frame : Frame) → Matches e (items.Frame frame) → e ≡ expected.Frame
frames_is expected.Request frame m = absurd m
frames_is expected.Answer frame m = absurd m
frames_is expected.Frame frame m = refl

read_item : (own : ℕ → Address) (host : HostState) (socket : Socket) (item : Item) → IsNaming host → IsOrderly own host → HostIsPlain host → Fronts host socket item → AllBring host (takes (taken socket) item host)
read_item own host socket item s o p f = by_item item f (subst (FrontMatches socket.expected) f.front (reading_matches socket.expected socket.since)) where
  stands : is_ended socket.stage ≡ false
  stands = not_over socket.stage f.stands

  up : (frame : Frame) (user : ℕ × Address) → Fronts host socket (items.Frame frame) → socket.expected ≡ expected.Frame → (((link_with host user.0 user.1).state ≡ states.Dialing socket.number) × IsDialedBy user.0 user.1 socket) ⊎ ((probed : Bool) × ((link_with host user.0 user.1).state ≡ states.Up socket.number probed) × IsUpFor user.0 user.1 socket)
      → Framed host socket frame (link_with host user.0 user.1)
  up frame user f e (inl d) = let no : expected.Frame ≡ expected.Answer = sym e ∙ d.1.expects in absurd cc
  up frame user f e (inr u) = record { is = own_key host user.0 user.1; fronts = f; probed = u.0; up = u.1 }

  by_user : (item : Item) → (socket.expected ≡ expected.Request → ⊥) → ((user : ℕ × Address) → socket.user ≡ Some user → AllRead host socket.number (reads_on (taken socket) (link_with host user.0 user.1) item (taken_from socket host))) → (w : Option (ℕ × Address)) → socket.user ≡ w
      → AllRead host socket.number (elim w as (λ w. Stepped) [
        | None ↦ still (taken_from socket host)
        | Some user ↦ reads_on (taken socket) (link_with (taken_from socket host) user.0 user.1) item (taken_from socket host)
      ])
  by_user item off each None u = absurd (off (unused host socket.number socket s f.found u stands).expects)
  by_user item off each (Some user) u = each user u

  by_item : (item : Item) → Fronts host socket item → Matches socket.expected item → AllRead host socket.number (reads (taken socket) item (taken_from socket host))
  by_item (items.Request request) f m = requested own host socket request o p f (asks_is socket.expected request m)
  by_item (items.Answer answer) f m = let e = answers_is socket.expected answer m in by_user (items.Answer answer) (λ r. let no : expected.Answer ≡ expected.Request = sym e ∙ r in absurd cc) (λ user u. hears_item host socket (items.Answer answer) user.0 user.1 (inputs.Answered (heard_answer answer)) s f tt tt) socket.user refl
  by_item (items.Frame frame) f m = let e = frames_is socket.expected frame m in by_user (items.Frame frame) (λ r. let no : expected.Frame ≡ expected.Request = sym e ∙ r in absurd cc) (λ user u. framed host socket frame user.0 user.1 s (up frame user f e (used host user.0 user.1 socket.number socket s f.found u stands))) socket.user refl

pub handled : (own : ℕ → Address) (host : HostState) (socket : Socket) → IsNaming host → IsOrderly own host → HostIsPlain host → find (is_socket socket.number) host.sockets ≡ Some socket → is_open socket.stage ≡ true → is_ready_front (front_of socket).0 ≡ true → AllBring host (handles socket (front_of socket) host)
handled own host socket s o p found stands ready = by_front (front_of socket).0 refl ready where
  by_front : (x : Front) → (front_of socket).0 ≡ x → is_ready_front x ≡ true → AllBring host (elim x as (λ x. Stepped) [
    | Unfinished ↦ still host
    | Refused error ↦ is_gone socket host
    | Whole item ↦ takes (taken socket) item host
  ])
  by_front Unfinished e r = clash (sym r)
  by_front (Refused error) e r = gone host socket s
  by_front (Whole item) e r = read_item own host socket item s o p (record { found = found; stands = stands; front = e })

-- nothing is done
at_rest : (host : HostState) → AllBring host (still host)
at_rest host = inl (record { posted = refl; created = λ e p. refl; frames = λ n. []; none = λ n. tt; read = all_there host host host (λ n. []) (same_so host host refl) (none_so host) })

-- the input of a socket ends
pub ended_brings : (host : HostState) (sock : ℕ) → IsNaming host → AllBring host (host_on host (sockets.Ended sock))
unfolding host_on
ended_brings host sock s = by_socket (find (is_socket sock) host.sockets) where
  by_test : (socket : Socket) (b : Bool) → AllBring host (cond b (is_gone socket host) (still host))
  by_test socket true = gone host socket s
  by_test socket false = at_rest host

  by_socket : (x : Option Socket) → AllBring host (elim x as (λ x. Stepped) [
    | None ↦ still host
    | Some socket ↦ cond (is_open socket.stage) (is_gone socket host) (still host)
  ])
  by_socket None = at_rest host
  by_socket (Some socket) = by_test socket (is_open socket.stage)
