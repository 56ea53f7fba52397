-- What an endpoint asks of its host: with a place a frame of data alone is written, or waits.
use Rattle.std.proofs.Common.{◌≡◌, ◌≤◌, ℕ, ◌+◌, Bool, true, false, cond, List, [], ◌∷◌, ◌++◌, length, Ok, Err, refl, sym, ap, subst, arith}
use Rattle.std.proofs.lemmas.Bool.Decides.{nat_tests}
use Rattle.std.specs.Prelude.{find, Option, Some, None, Result, nat_lt}
use Rattle.ch_base.specs.declared.address.Address.{Address}
use Rattle.ch_base.specs.declared.memory.Stop.TheVariants as stops
use Rattle.ch_wire.specs.Spelling.{IsFrame}
use Rattle.ch_wire.specs.declared.TheConstants.{MOST_PAYLOAD_BYTES}
use Rattle.ch_wire.specs.declared.frame.Frame.{Frame}
use Rattle.ch_wire.specs.declared.frame.Frame.TheVariants as frames
use Rattle.ch_reader.specs.declared.item.Item.TheVariants as items
use Rattle.ch_link.specs.Table.{step_of}
use Rattle.ch_link.specs.declared.LinkIn.TheVariants.{Want}
use Rattle.ch_link.specs.declared.LinkState.{LinkState}
use Rattle.ch_link.specs.declared.LinkState.TheVariants as states
use Rattle.ch_light.specs.declared.Connection.{Connection}
use Rattle.ch_light.specs.Ids.{id_of, give_of, close_of}
use Rattle.ch_model.specs.declared.step.EndError.{EndError}
use Rattle.ch_model.specs.declared.step.EndError.TheVariants as ends
use Rattle.ch_model.specs.declared.step.Place.{Place}
use Rattle.ch_model.specs.declared.step.Step.{Step}
use Rattle.ch_model.specs.declared.step.Step.TheVariants as steps
use Rattle.ch_model.specs.declared.step.Weight.{Weight}
use Rattle.ch_model.specs.declared.step.Weight.TheVariants.{Free}
use Rattle.ch_model.specs.Greater.{is_greater}
use Rattle.ch_model.specs.HostCalls.{◌>>=◌, stepped, of_ids, open_endpoint, wants, puts_and_wants, carries, found_or, short_enough, has_room, host_connect, host_send, host_close}
use Rattle.ch_model.specs.HostLinks.{most_dials, next_dial, dialed, does_act, hears}
use Rattle.ch_model.specs.HostState.{Link, HostState}
use Rattle.ch_model.specs.HostSteps.{Stepped, after_steps, ◌then◌, own_address, link_or_new, link_with, with_link, with_socket}
use Rattle.ch_model.specs.HostWrites.{said_of, frame_step, puts}
use Rattle.ch_laws_bytes.specs.Streams.{AsksNothing}
use Rattle.ch_laws_writes.specs.Dues.{due_at}
use Rattle.ch_laws_writes.specs.Orderly.{LinkFits, IsOrderly}
use Rattle.ch_laws_writes.proofs.Calls.{gives, closes_one, has_id}
use Rattle.ch_laws_writes.proofs.Ordered.{at_stored, found_own}
use Rattle.ch_laws_places.specs.Places.{StandsBy, WaitsPlaced, HostPlaced}
use Rattle.ch_laws_places.specs.Said.{Says, AllSay}
use Rattle.ch_laws_places.proofs.Waits.{link_stored, waits_placed, found_placed, waits_last, frame_said}

-- a link of a host, as it fits, and what waits for it
record IsOwn (host : HostState) (link : Link) : Type 0 where
  end : ℕ
  peer : Address
  fits : LinkFits host.sockets end peer link
  waits : WaitsPlaced link.waits

asks_up : (host : HostState) (link : Link) (sock : ℕ) (probed : Bool) → IsOwn host link → link.state ≡ states.Up sock probed → AsksNothing (due_at host sock)
asks_up host link sock probed l is = subst AsksNothing (sym (l.fits.up sock probed is)) tt

is_short : (payload short : List ℕ) → short_enough payload ≡ Ok short → length short ≤ MOST_PAYLOAD_BYTES
is_short payload short e = by_test (nat_lt MOST_PAYLOAD_BYTES (length payload)) refl e where
  fits : (n : ℕ) → nat_lt MOST_PAYLOAD_BYTES n ≡ false → n ≤ MOST_PAYLOAD_BYTES
  fits n h = grind (arith, nat_tests)

  by_test : (b : Bool) → nat_lt MOST_PAYLOAD_BYTES (length payload) ≡ b → cond b (Err ends.PayloadLong) (Ok payload) ≡ Ok short → length short ≤ MOST_PAYLOAD_BYTES
  by_test true h e = absurd cc
  by_test false h e = let is : payload ≡ short = cc in subst (λ (l : List ℕ). length l ≤ MOST_PAYLOAD_BYTES) is (fits (length payload) h)

-- any place stands by a frame of data, and none by another
data_stands : (id : ℕ) (payload : List ℕ) (said : Option Place) → StandsBy (items.Frame (frames.Data id payload)) said
data_stands id payload None = tt
data_stands id payload (Some place) = tt

-- ---- an item is put

-- what a link in this state makes of wanting a socket
abbrev wanted : Link → HostState → LinkState → Stepped
wanted link host state = does_act (step_of state (Want (next_dial host)) (is_greater (own_address host link.end) link.peer)).1 state (Want (next_dial host)) (record link { state = (step_of state (Want (next_dial host)) (is_greater (own_address host link.end) link.peer)).0 })
    (with_link (record link { state = (step_of state (Want (next_dial host)) (is_greater (own_address host link.end) link.peer)).0 }) host)

-- a link that is another now, by its ids alone; the frame that is put may be spelled, and the place stands by it
record IsPut (host : HostState) (link : Link) (item : Frame × Weight) : Type 0 where
  own : IsOwn host link
  framed : IsFrame item.0
  stands : StandsBy (items.Frame item.0) (said_of item.1)

-- it is written where the link is up
put_up : (host : HostState) (link : Link) (item : Frame × Weight) (sock : ℕ) (probed : Bool) (after : HostState) → IsPut host link item → link.state ≡ states.Up sock probed → HostPlaced after → Says (due_at host) (frame_step sock item ∷ []) after
put_up host link item sock probed after p is placed = record { placed = placed; said = (frame_said (due_at host sock) item.0 (said_of item.1) (asks_up host link sock probed p.own is) p.framed p.stands, tt); alone = tt }

put_and_wanted : (host : HostState) (link : Link) (given : List Connection) (item : Frame × Weight) → HostPlaced host → IsPut host link item → AllSay (due_at host) (puts_and_wants item (record link { given = given }) host)
unfolding step_of
put_and_wanted host link given item placed p = by_state link.state refl where
  put : Link
  put = record link { given = given }

  waiting : Link
  waiting = record link { given = given; waits = link.waits ++ item ∷ [] }

  put_waits : WaitsPlaced link.waits
  put_waits = p.own.waits

  more_waits : WaitsPlaced (link.waits ++ item ∷ [])
  more_waits = waits_last link.waits item p.own.waits p.stands

  -- the state is the link's own
  as_stored : (xs : List Step) (one : Link) (state : LinkState) → one.state ≡ state → AllSay (due_at host) (after_steps xs (wanted one (with_link one host) state)) → AllSay (due_at host) (after_steps xs (hears (Want (next_dial (with_link one host))) (link_with (with_link one host) one.end one.peer) (with_link one host)))
  as_stored xs one state is t = subst (λ (x : Link). AllSay (due_at host) (after_steps xs (hears (Want (next_dial (with_link one host))) x (with_link one host)))) (sym (at_stored one host.links)) (subst (λ (x : LinkState). AllSay (due_at host) (after_steps xs (wanted one (with_link one host) x))) (sym is) t)

  twice : (one two : Link) → WaitsPlaced one.waits → WaitsPlaced two.waits → HostPlaced (with_link two (with_link one host))
  twice one two w v = link_stored two (with_link one host).links v (link_stored one host.links w placed)

  still : (state : LinkState) → Says (due_at host) [] (with_link (record waiting { state = state }) (with_link waiting host))
  still state = record { placed = twice waiting (record waiting { state = state }) more_waits more_waits; said = tt; alone = tt }

  dials : (b : Bool) → AllSay (due_at host) (after_steps [] (cond b (Ok (steps.Dial (next_dial (with_link waiting host)) link.end link.peer ∷ [], with_socket (dialed (next_dial (with_link waiting host)) link.end link.peer) (record (with_link (record waiting { state = states.Dialing (next_dial (with_link waiting host)) }) (with_link waiting host)) { dials = host.dials + 1 }))) (Err stops.Worn)))
  dials true = record { placed = twice waiting (record waiting { state = states.Dialing (next_dial (with_link waiting host)) }) more_waits more_waits; said = tt; alone = refl }
  dials false = tt

  by_state : (state : LinkState) → link.state ≡ state → AllSay (due_at host) ((elim state as (λ x. Stepped) [
    | states.Up sock probed ↦ Ok (frame_step sock item ∷ [], with_link put host)
    | _ ↦ Ok ([], with_link waiting host)
  ]) then wants link.end link.peer)
  by_state (states.Up sock probed) is = as_stored (frame_step sock item ∷ []) put (states.Up sock probed) is (put_up host link item sock probed (with_link (record put { state = states.Up sock probed }) (with_link put host)) p is (twice put (record put { state = states.Up sock probed }) put_waits put_waits))
  by_state (states.Dialing sock) is = as_stored [] waiting (states.Dialing sock) is (still (states.Dialing sock))
  by_state states.AwaitOther is = as_stored [] waiting states.AwaitOther is (still states.AwaitOther)
  by_state states.Idle is = as_stored [] waiting states.Idle is (dials (nat_lt host.dials most_dials))

put_alone : (host : HostState) (link : Link) (given : List Connection) (item : Frame × Weight) → HostPlaced host → IsPut host link item → AllSay (due_at host) (puts item (record link { given = given }) host)
put_alone host link given item placed p = by_state link.state refl where
  put : Link
  put = record link { given = given }

  waiting : Link
  waiting = record link { given = given; waits = link.waits ++ item ∷ [] }

  still : Says (due_at host) [] (with_link waiting host)
  still = record { placed = link_stored waiting host.links (waits_last link.waits item p.own.waits p.stands) placed; said = tt; alone = tt }

  by_state : (state : LinkState) → link.state ≡ state → AllSay (due_at host) (elim state as (λ x. Stepped) [
    | states.Up sock probed ↦ Ok (frame_step sock item ∷ [], with_link put host)
    | _ ↦ Ok ([], with_link waiting host)
  ])
  by_state (states.Up sock probed) is = put_up host link item sock probed (with_link put host) p is (link_stored put host.links p.own.waits placed)
  by_state (states.Dialing sock) is = still
  by_state states.AwaitOther is = still
  by_state states.Idle is = still

-- ---- the calls

bound : {A : Type 0} (host : HostState) (given : Result A EndError) (f : A → Result (List Step × HostState) EndError) → ((x : A) → given ≡ Ok x → AllSay (due_at host) (f x)) → AllSay (due_at host) (given >>= f)
bound host (Ok x) f each = each x refl
bound host (Err e) f each = tt

as_asked : (host : HostState) (done : Stepped) → AllSay (due_at host) done → AllSay (due_at host) (stepped done)
as_asked host (Ok done) t = t
as_asked host (Err stop) t = tt

-- the link that some test finds
found_link : (own : ℕ → Address) (host : HostState) (test : Link → Bool) (link : Link) → IsOrderly own host → HostPlaced host → found_or (find test host.links) ≡ Ok link → IsOwn host link
found_link own host test link o placed e = record { end = link.end; peer = link.peer; fits = subst (λ (l : Link). LinkFits host.sockets link.end link.peer l) is (o.links link.end link.peer); waits = found_placed test host.links link placed found } where
  by_found : (x : Option Link) → found_or x ≡ Ok link → x ≡ Some link
  by_found (Some x) e = let is : x ≡ link = cc in ap Some is
  by_found None e = absurd cc

  found : find test host.links ≡ Some link
  found = by_found (find test host.links) e

  is : link_with host link.end link.peer ≡ link
  is = ap (link_or_new link.end link.peer) (found_own test host.links link o.apart found)

pub connected : (own : ℕ → Address) (host : HostState) (end : ℕ) (peer : Address) (conn : ℕ) → IsOrderly own host → HostPlaced host → AllSay (due_at host) (host_connect host end peer conn)
unfolding host_connect
connected own host end peer conn o placed = bound host (open_endpoint host end) _ (λ standing e. bound host (of_ids (give_of (link_with host end peer).given conn)) _ (λ given g. as_asked host _
    (put_and_wanted host (link_with host end peer) given.1 (frames.Created given.0, Free) placed (record { own = record { end = end; peer = peer; fits = o.links end peer; waits = waits_placed host end peer placed }; framed = (gives (link_with host end peer).given conn given g).range; stands = tt }))))

pub sent : (own : ℕ → Address) (host : HostState) (end conn : ℕ) (payload : List ℕ) (weight : Weight) → IsOrderly own host → HostPlaced host → AllSay (due_at host) (host_send host end conn payload weight)
unfolding host_send
sent own host end conn payload weight o placed = bound host (found_or (find (carries end conn) host.links)) _ (λ link l. bound host (short_enough payload) _ (λ short m. bound host (has_room link weight) _ (λ roomy r. bound host (found_or (id_of link.given conn)) _ (λ id i. as_asked host _
    (put_and_wanted host link link.given (frames.Data id short, weight) placed (record { own = found_link own host (carries end conn) link o placed l; framed = (has_id link.given conn id (found_link own host (carries end conn) link o placed l).fits.given i, is_short payload short m); stands = data_stands id short (said_of weight) }))))))

pub closed : (own : ℕ → Address) (host : HostState) (end conn : ℕ) → IsOrderly own host → HostPlaced host → AllSay (due_at host) (host_close host end conn)
unfolding host_close
closed own host end conn o placed = bound host (found_or (find (carries end conn) host.links)) _ (λ link l. bound host (of_ids (close_of link.given conn)) _ (λ given g. as_asked host _
    (put_alone host link given.1 (frames.Closed given.0, Free) placed (record { own = found_link own host (carries end conn) link o placed l; framed = (closes_one link.given conn given (found_link own host (carries end conn) link o placed l).fits.given g).range; stands = tt }))))
