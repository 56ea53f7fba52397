-- What a host does with a payload of a link that isn't up.
use Rattle.std.specs.Prelude.{◌≡◌, ℕ, ◌+◌, Bool, true, false, cond, List, [], ◌∷◌, ◌++◌, find, nat_lt, Option, Some, None, Result, Ok, Err, if◌then◌else◌}
use Rattle.std.proofs.Common.{refl, ap, sym, ◌∙◌}
use Rattle.ch_base.specs.AddressValues.{AddressValue}
use Rattle.ch_base.specs.declared.memory.Stop.TheVariants as stops
use Rattle.ch_link.specs.Table.{step_of}
use Rattle.ch_link.specs.declared.LinkState.{LinkState}
use Rattle.ch_link.specs.declared.LinkState.TheVariants.{Idle, Dialing, AwaitOther, Up}
use Rattle.ch_link.specs.declared.LinkIn.TheVariants.{Want}
use Rattle.ch_light.specs.Ids.{id_of}
use Rattle.ch_light.specs.declared.Connection.{Connection}
use Rattle.ch_wire.specs.declared.frame.Frame.{Frame}
use Rattle.ch_wire.specs.declared.frame.Frame.TheVariants as frames
use Rattle.ch_model.specs.declared.step.EndError.{EndError}
use Rattle.ch_model.specs.declared.step.Step.{Step}
use Rattle.ch_model.specs.declared.step.Step.TheVariants as steps
use Rattle.ch_model.specs.declared.step.Weight.{Weight}
use Rattle.ch_model.specs.HostState.{Link, Socket, HostState}
use Rattle.ch_model.specs.HostSteps.{after_steps, is_link, link_with, with_link, store_link, is_socket, store_socket, with_socket}
use Rattle.ch_model.specs.HostWrites.{is_up}
use Rattle.ch_model.specs.HostLinks.{most_dials, next_dial, dialed, hears}
use Rattle.ch_model.specs.HostCalls.{◌>>=◌, stepped, found_or, short_enough, has_room, carries, puts_and_wants, host_send}
use Rattle.ch_model.specs.Host.{is_ready, lower, first_ready}
use Rattle.ch_laws_delivery.specs.Sends.{dial_steps, IsSettled}
use Rattle.ch_laws_delivery.proofs.Keys.{link_test, link_kept}

-- a socket of which nothing can be read is kept
unready_kept : (socket : Socket) → is_ready socket ≡ false → (sockets : List Socket) → first_ready sockets ≡ None → first_ready (store_socket socket sockets) ≡ None
unready_kept socket off [] h = ap (λ b. if b then Some (lower socket None) else None) off
unready_kept socket off (known ∷ rest) h = by_ready (is_ready known) refl h (λ q. unready_kept socket off rest q) where
  some_none : (x : Socket) → Some x ≡ None → ⊥
  some_none x h = cc

  by_place : (b : Bool) → is_ready known ≡ false → first_ready rest ≡ None → first_ready (store_socket socket rest) ≡ None → first_ready (if b then socket ∷ rest else known ∷ store_socket socket rest) ≡ None
  by_place true is q later = ap (λ b. if b then Some (lower socket (first_ready rest)) else first_ready rest) off ∙ q
  by_place false is q later = ap (λ b. if b then Some (lower known (first_ready (store_socket socket rest))) else first_ready (store_socket socket rest)) is ∙ later

  by_ready : (b : Bool) → is_ready known ≡ b → (if b then Some (lower known (first_ready rest)) else first_ready rest) ≡ None → (first_ready rest ≡ None → first_ready (store_socket socket rest) ≡ None) → first_ready (store_socket socket (known ∷ rest)) ≡ None
  by_ready true is q f = absurd (some_none (lower known (first_ready rest)) q)
  by_ready false is q f = by_place (is_socket socket.number known) is q (f q)

-- The host takes the item, which waits behind the others; the link is still not up, and by now dials or awaits the peer.
-- It was kept twice: with the item, and in its new state.
pub record Takes (item : Frame × Weight) (link : Link) (host : HostState) : Type 0 where
  pub done : List Step
  pub now : HostState
  pub next : LinkState
  pub did : stepped (puts_and_wants item link host) ≡ Ok (done, now)
  pub kept : link_with now link.end link.peer ≡ record link { state = next; waits = link.waits ++ item ∷ [] }
  pub down : is_up next ≡ false
  pub busy : next ≡ Idle → ⊥
  pub does : done ≡ dial_steps link.state link host
  pub settled : IsSettled host → IsSettled now
  pub links : now.links ≡ store_link (record link { state = next; waits = link.waits ++ item ∷ [] }) (store_link (record link { waits = link.waits ++ item ∷ [] }) host.links)

module _ (end : ℕ) (peer : AddressValue) (waits : List (Frame × Weight)) (given created : List Connection) (item : Frame × Weight) (host : HostState) where
  -- the link in a state, with these waiting
  abbrev In : LinkState → List (Frame × Weight) → Link
  In state items = record { end = end; peer = peer; state = state; waits = items; given = given; created = created }

  -- the host with that link, where one more waits
  abbrev First : LinkState → HostState
  First state = with_link (In state (waits ++ item ∷ [])) host

  first_kept : (state : LinkState) → link_with (First state) end peer ≡ In state (waits ++ item ∷ [])
  first_kept state = link_kept (In state (waits ++ item ∷ [])) host

  then_kept : (state next : LinkState) → link_with (with_link (In next (waits ++ item ∷ [])) (First state)) end peer ≡ In next (waits ++ item ∷ [])
  then_kept state next = link_kept (In next (waits ++ item ∷ [])) (First state)

  -- an idle link dials
  idle_takes : nat_lt host.dials most_dials ≡ true → Takes item (In Idle waits) host
  unfolding step_of
  idle_takes room = record {
    done = steps.Dial (next_dial host) end peer ∷ [];
    now = with_socket (dialed (next_dial host) end peer) (record (with_link (In (Dialing (next_dial host)) (waits ++ item ∷ [])) (First Idle)) { dials = host.dials + 1 });
    next = Dialing (next_dial host);
    did = ap (λ (l : Link). stepped (after_steps [] (hears (Want (next_dial host)) l (First Idle)))) (first_kept Idle)
        ∙ ap (λ b. stepped (after_steps []
        (if b then Ok (steps.Dial (next_dial host) end peer ∷ [], with_socket (dialed (next_dial host) end peer) (record (with_link (In (Dialing (next_dial host)) (waits ++ item ∷ [])) (First Idle)) { dials = host.dials + 1 })) else Err stops.Worn))) room;
    kept = then_kept Idle (Dialing (next_dial host));
    down = refl;
    busy = λ h. not_idle h;
    does = refl;
    settled = λ h. unready_kept (dialed (next_dial host) end peer) refl host.sockets h;
    links = refl;
  } where
    not_idle : Dialing (next_dial host) ≡ Idle → ⊥
    not_idle h = cc

  -- one that dials or awaits the peer does nothing more
  dialing_takes : (sock : ℕ) → Takes item (In (Dialing sock) waits) host
  unfolding step_of
  dialing_takes sock = record {
    done = [];
    now = with_link (In (Dialing sock) (waits ++ item ∷ [])) (First (Dialing sock));
    next = Dialing sock;
    did = ap (λ (l : Link). stepped (after_steps [] (hears (Want (next_dial host)) l (First (Dialing sock))))) (first_kept (Dialing sock));
    kept = then_kept (Dialing sock) (Dialing sock);
    down = refl;
    busy = λ h. not_idle h;
    does = refl;
    settled = λ h. h;
    links = refl;
  } where
    not_idle : Dialing sock ≡ Idle → ⊥
    not_idle h = cc

  awaiting_takes : Takes item (In AwaitOther waits) host
  unfolding step_of
  awaiting_takes = record {
    done = [];
    now = with_link (In AwaitOther (waits ++ item ∷ [])) (First AwaitOther);
    next = AwaitOther;
    did = ap (λ (l : Link). stepped (after_steps [] (hears (Want (next_dial host)) l (First AwaitOther)))) (first_kept AwaitOther);
    kept = then_kept AwaitOther AwaitOther;
    down = refl;
    busy = λ h. not_idle h;
    does = refl;
    settled = λ h. h;
    links = refl;
  } where
    not_idle : AwaitOther ≡ Idle → ⊥
    not_idle h = cc

  takes_in : (state : LinkState) → is_up state ≡ false → (state ≡ Idle → nat_lt host.dials most_dials ≡ true) → Takes item (In state waits) host
  takes_in Idle h room = idle_takes (room refl)
  takes_in (Dialing sock) h room = dialing_takes sock
  takes_in AwaitOther h room = awaiting_takes
  takes_in (Up sock probed) h room = absurd (clash h) where
    clash : true ≡ false → ⊥
    clash h = cc

pub takes : (item : Frame × Weight) (link : Link) (host : HostState) → is_up link.state ≡ false → (link.state ≡ Idle → nat_lt host.dials most_dials ≡ true) → Takes item link host
takes item link host h room = takes_in link.end link.peer link.waits link.given link.created item host link.state h room

-- a payload is sent, as far as it waits
pub sends : (host : HostState) (end conn : ℕ) (payload : List ℕ) (weight : Weight) (link : Link) (id : ℕ) → find (carries end conn) host.links ≡ Some link → short_enough payload ≡ Ok payload
    → has_room link weight ≡ Ok link → id_of link.given conn ≡ Some id → host_send host end conn payload weight ≡ stepped (puts_and_wants (frames.Data id payload, weight) link host)
unfolding host_send
sends host end conn payload weight link id found short room given =
    ap (λ (o : Option Link). found_or o >>= (λ l. short_enough payload >>= (λ bytes. has_room l weight >>= (λ roomy. found_or (id_of l.given conn) >>= (λ i. stepped (puts_and_wants (frames.Data i bytes, weight) l host)))))) found
    ∙ ap (λ (r : Result (List ℕ) EndError). r >>= (λ bytes. has_room link weight >>= (λ roomy. found_or (id_of link.given conn) >>= (λ i. stepped (puts_and_wants (frames.Data i bytes, weight) link host))))) short
    ∙ ap (λ (r : Result Link EndError). r >>= (λ roomy. found_or (id_of link.given conn) >>= (λ i. stepped (puts_and_wants (frames.Data i payload, weight) link host)))) room
    ∙ ap (λ (o : Option ℕ). found_or o >>= (λ i. stepped (puts_and_wants (frames.Data i payload, weight) link host))) given

-- ---- which link carries a connection

-- no link before the one with this key carries the connection
abbrev pub Alone : ℕ → ℕ → ℕ → AddressValue → List Link → Type 0
Alone end conn key peer [] = Unit {0}
Alone end conn key peer (known ∷ rest) = is_link key peer known ≡ false → (carries end conn known ≡ false) × Alone end conn key peer rest

-- where none carries it
pub none_alone : (end conn : ℕ) (link : Link) (links : List Link) → find (carries end conn) links ≡ None → Alone end conn link.end link.peer links
none_alone end conn link [] h = tt
none_alone end conn link (known ∷ rest) h = λ off. by_test (carries end conn known) refl h (λ q. none_alone end conn link rest q) where
  some_none : (x : Link) → Some x ≡ None → ⊥
  some_none x h = cc

  by_test : (b : Bool) → carries end conn known ≡ b → cond b (Some known) (find (carries end conn) rest) ≡ None → (find (carries end conn) rest ≡ None → Alone end conn link.end link.peer rest) → (carries end conn known ≡ false) × Alone end conn link.end link.peer rest
  by_test true is q f = absurd (some_none known q)
  by_test false is q f = (is, f q)

module _ (end conn : ℕ) (link : Link) where
  -- a link with this key is kept
  pub kept_alone : (links : List Link) → Alone end conn link.end link.peer links → Alone end conn link.end link.peer (store_link link links)
  kept_alone [] a = λ off. absurd (clash (sym off ∙ link_test link)) where
    clash : false ≡ true → ⊥
    clash h = cc
  kept_alone (known ∷ rest) a = by_test (is_link link.end link.peer known) refl (λ q. kept_alone rest q) where
    clash : false ≡ true → ⊥
    clash h = cc

    by_test : (b : Bool) → is_link link.end link.peer known ≡ b → (Alone end conn link.end link.peer rest → Alone end conn link.end link.peer (store_link link rest)) → Alone end conn link.end link.peer (cond b (link ∷ rest) (known ∷ store_link link rest))
    by_test true is f = λ off. absurd (clash (sym off ∙ link_test link))
    by_test false is f = λ off. ((a is).0, f (a is).1)

  -- and is found, if it carries the connection
  pub alone_found : carries end conn link ≡ true → (links : List Link) → Alone end conn link.end link.peer links → find (carries end conn) (store_link link links) ≡ Some link
  alone_found own [] a = ap (λ b. cond b (Some link) None) own
  alone_found own (known ∷ rest) a = by_test (is_link link.end link.peer known) refl (λ q. alone_found own rest q) where
    by_test : (b : Bool) → is_link link.end link.peer known ≡ b → (Alone end conn link.end link.peer rest → find (carries end conn) (store_link link rest) ≡ Some link) → find (carries end conn) (cond b (link ∷ rest) (known ∷ store_link link rest)) ≡ Some link
    by_test true is f = ap (λ b. cond b (Some link) (find (carries end conn) rest)) own
    by_test false is f = ap (λ b. cond b (Some known) (find (carries end conn) (store_link link rest))) (a is).0 ∙ f (a is).1

-- a link that isn't idle dials nothing
pub none_dialed : (state : LinkState) (link : Link) (host : HostState) → (state ≡ Idle → ⊥) → dial_steps state link host ≡ []
none_dialed Idle link host busy = absurd (busy refl)
none_dialed (Dialing sock) link host busy = refl
none_dialed AwaitOther link host busy = refl
none_dialed (Up sock probed) link host busy = refl
