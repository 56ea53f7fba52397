-- What a node's acts ask of its host: which connections are given after it, and that it isn't refused.
use Rattle.std.proofs.Common.{◌≡◌, ◌≤◌, ◌<◌, ℕ, suc, ◌+◌, Bool, true, false, cond, ◌&&◌, ◌||◌, not, List, [], ◌∷◌, ◌++◌, length, Ok, Err, refl, sym, ap, ◌∙◌, subst, arith}
use Rattle.std.proofs.lemmas.Bool.{and_parts}
use Rattle.std.proofs.lemmas.Bool.Decides.{nat_tests}
use Rattle.std.specs.Prelude.{filter}
use Rattle.std.specs.Prelude.{find, ◌==◌, nat_lt, nat_le, slice_set, is_some, Option, Some, None, Result}
use Rattle.ch_base.specs.declared.address.Address.{Address}
use Rattle.ch_base.specs.declared.memory.Stop.{Stop}
use Rattle.ch_base.specs.declared.memory.Stop.TheVariants as stops
use Rattle.ch_wire.specs.declared.TheConstants.{MOST_PAYLOAD_BYTES}
use Rattle.ch_wire.specs.declared.frame.Frame.{Frame}
use Rattle.ch_wire.specs.declared.frame.Frame.TheVariants as frames
use Rattle.ch_light.specs.declared.TheConstants.{FIRST_ID, MOST_IDS}
use Rattle.ch_light.specs.declared.Connection.{Connection}
use Rattle.ch_light.specs.declared.error.LightError.{LightError}
use Rattle.ch_light.specs.declared.error.LightError.TheVariants as lights
use Rattle.ch_light.specs.Ids.{opened, closed, place_of, close_at, id_of, give_of, close_of}
use Rattle.ch_link.specs.declared.LinkState.{LinkState}
use Rattle.ch_link.specs.declared.LinkState.TheVariants as states
use Rattle.ch_model.specs.declared.step.EndError.{EndError}
use Rattle.ch_model.specs.declared.step.EndError.TheVariants as errors
use Rattle.ch_model.specs.declared.step.Step.{Step}
use Rattle.ch_model.specs.declared.step.Weight.{Weight}
use Rattle.ch_model.specs.declared.step.Weight.TheVariants.{Free}
use Rattle.ch_model.specs.HostCalls.{◌>>=◌, stepped, of_ids, open_endpoint, wants, puts_and_wants, host_connect, carries, found_or, short_enough, has_room, host_send, host_close}
use Rattle.ch_model.specs.HostLinks.{next_dial}
use Rattle.ch_model.specs.HostState.{Link, HostState}
use Rattle.ch_model.specs.HostSteps.{Stepped, after_steps, ◌then◌, is_link, link_or_new, link_with, with_link}
use Rattle.ch_model.specs.HostWrites.{is_up, is_counted, counted_in, puts, frame_step}
use Rattle.ch_watch.specs.Same.{same_node}
use Rattle.ch_laws_log.proofs.Stored.{number_is}
use Rattle.ch_laws_connections.specs.Tables.{given_at, given_so, open_in, LinksApart, is_standing, has_space, roomy_at}
use Rattle.ch_laws_connections.proofs.Keys.{given_stored, stored_apart, with_key, found_self}
use Rattle.ch_laws_connections.proofs.HostLinks.{Quiet, AllQuiet, IsOf, stored_quiet, wanted, SameRooms, AllSameRooms, HasRoomOf, stored_rooms, wanted_rooms}
use Rattle.ch_laws_connections.proofs.HostItems.{of_found}
use Rattle.ch_laws_connections.proofs.GivenIn.{place, some_open, without_id, with_id, is_placed}

-- the link's connections are given there, and all others as before
pub record Sets (link : Link) (before after : HostState) : Type 0 where
  pub given : (end : ℕ) (peer : Address) → given_at after end peer ≡ cond (is_link end peer link) link.given (given_at before end peer)
  pub apart : LinksApart before.links → LinksApart after.links
  pub ends : (end : ℕ) → is_standing after end ≡ is_standing before end

abbrev AllSet : Link → HostState → Stepped → Type 0
AllSet link host (Ok done) = Sets link host done.1
AllSet link host (Err stop) = Unit {0}

-- what was asked isn't refused
abbrev pub IsTaken : (HostState → Type 0) → Result (List Step × HostState) EndError → Type 0
IsTaken P (Ok done) = P done.1
IsTaken P (Err errors.Worn) = Unit {0}
IsTaken P (Err errors.OutOfMemory) = Unit {0}
IsTaken P (Err e) = ⊥

stored_sets : (link : Link) (host : HostState) → Sets link host (with_link link host)
stored_sets link host = record { given = given_stored link host; apart = stored_apart link host.links; ends = λ e. refl }

waits_sets : (link : Link) (waits : List (Frame × Weight)) (host : HostState) → Sets link host (with_link (record link { waits = waits }) host)
waits_sets link waits host = record { given = given_stored (record link { waits = waits }) host; apart = stored_apart (record link { waits = waits }) host.links; ends = λ e. refl }

put_sets : (item : Frame × Weight) (link : Link) (host : HostState) → AllSet link host (puts item link host)
put_sets item link host = by_state link.state where
  by_state : (state : LinkState) → AllSet link host (elim state as (λ x. Stepped) [
    | states.Up sock probed ↦ Ok (frame_step sock item ∷ [], with_link link host)
    | _ ↦ Ok ([], with_link (record link { waits = link.waits ++ item ∷ [] }) host)
  ])
  by_state (states.Up sock probed) = stored_sets link host
  by_state (states.Dialing sock) = waits_sets link (link.waits ++ item ∷ []) host
  by_state states.Idle = waits_sets link (link.waits ++ item ∷ []) host
  by_state states.AwaitOther = waits_sets link (link.waits ++ item ∷ []) host

then_quiet : (link : Link) (host : HostState) (done : Stepped) (f : HostState → Stepped) → AllSet link host done → ((next : HostState) → AllQuiet next (f next)) → AllSet link host (done then f)
then_quiet link host (Ok done) f s g = from (f done.1) (g done.1) where
  from : (more : Stepped) → AllQuiet done.1 more → AllSet link host (after_steps done.0 more)
  from (Ok more) q = record { given = λ e p. q.0.given e p ∙ s.given e p; apart = λ a. q.0.apart (s.apart a); ends = λ e. q.0.ends e ∙ s.ends e }
  from (Err stop) q = tt
then_quiet link host (Err stop) f s g = tt

put_and_wanted : (item : Frame × Weight) (link : Link) (host : HostState) → AllSet link host (puts_and_wants item link host)
put_and_wanted item link host = then_quiet link host (puts item link host) (wants link.end link.peer) (put_sets item link host) (λ next. wanted (next_dial next) (link_with next link.end link.peer) next (of_found next link.end link.peer))

-- the link's connections are given, and no room is taken
abbrev pub SetsFree : Link → HostState → HostState → Type 0
SetsFree link host after = Sets link host after × SameRooms host after

taken : (link : Link) (host : HostState) (done : Stepped) → AllSet link host done → AllSameRooms host done → IsTaken (SetsFree link host) (stepped done)
taken link host (Ok done) s r = (s, r)
taken link host (Err stops.OutOfMemory) s r = tt
taken link host (Err stops.Worn) s r = tt

-- ---- room

-- one that isn't counted takes no room
uncounted : (item : Frame × Weight) (waits : List (Frame × Weight)) → is_counted item.1 ≡ false → length (filter (λ item. is_counted item.1) (waits ++ item ∷ [])) ≡ length (filter (λ item. is_counted item.1) waits)
uncounted item [] e = ap (λ b. length (cond b (item ∷ []) [])) e
uncounted item (x ∷ rest) e = by_test (is_counted x.1) (uncounted item rest e) where
  by_test : (b : Bool) → length (filter (λ item. is_counted item.1) (rest ++ item ∷ [])) ≡ length (filter (λ item. is_counted item.1) rest) → length (cond b (x ∷ filter (λ item. is_counted item.1) (rest ++ item ∷ [])) (filter (λ item. is_counted item.1) (rest ++ item ∷ []))) ≡ length (cond b (x ∷ filter (λ item. is_counted item.1) rest) (filter (λ item. is_counted item.1) rest))
  by_test true e = ap suc e
  by_test false e = e

put_rooms : (item : Frame × Weight) (link : Link) (host : HostState) → is_counted item.1 ≡ false → HasRoomOf link host → AllSameRooms host (puts item link host)
put_rooms item link host free i = by_state link.state where
  waiting : Link
  waiting = record link { waits = link.waits ++ item ∷ [] }

  same : has_space waiting ≡ has_space link
  same = ap (λ (n : ℕ). is_up link.state || not (nat_le Rattle.ch_model.specs.HostCalls.most_waiting n)) (uncounted item link.waits free)

  by_state : (state : LinkState) → AllSameRooms host (elim state as (λ x. Stepped) [
    | states.Up sock probed ↦ Ok (frame_step sock item ∷ [], with_link link host)
    | _ ↦ Ok ([], with_link (record link { waits = link.waits ++ item ∷ [] }) host)
  ])
  by_state (states.Up sock probed) = stored_rooms link host i
  by_state (states.Dialing sock) = stored_rooms waiting host (same ∙ i)
  by_state states.Idle = stored_rooms waiting host (same ∙ i)
  by_state states.AwaitOther = stored_rooms waiting host (same ∙ i)

room_of_found : (host : HostState) (end : ℕ) (peer : Address) → HasRoomOf (link_with host end peer) host
room_of_found host end peer = let key = with_key host end peer in ap (λ (e : ℕ). roomy_at host e peer) (sym key.0) ∙ ap (λ (p : Address). roomy_at host (link_with host end peer).end p) (sym key.1)

then_rooms : (host : HostState) (done : Stepped) (f : HostState → Stepped) → AllSameRooms host done → ((next : HostState) → AllSameRooms next (f next)) → AllSameRooms host (done then f)
then_rooms host (Ok done) f s g = from (f done.1) (g done.1) where
  from : (more : Stepped) → AllSameRooms done.1 more → AllSameRooms host (after_steps done.0 more)
  from (Ok more) q = λ e p. q e p ∙ s e p
  from (Err stop) q = tt
then_rooms host (Err stop) f s g = tt

put_wanted_rooms : (item : Frame × Weight) (link : Link) (host : HostState) → is_counted item.1 ≡ false → HasRoomOf link host → AllSameRooms host (puts_and_wants item link host)
put_wanted_rooms item link host free i = then_rooms host (puts item link host) (wants link.end link.peer) (put_rooms item link host free i) (λ next. wanted_rooms (next_dial next) (link_with next link.end link.peer) next (room_of_found next link.end link.peer))

-- ---- a connection is opened

-- the link, where the connection has got the next id
abbrev pub with_opened : HostState → ℕ → Address → ℕ → Link
with_opened host end peer conn = record (link_with host end peer) { given = given_at host end peer ++ opened conn ∷ [] }

pub connected : (host : HostState) (end : ℕ) (peer : Address) (conn : ℕ) → is_standing host end ≡ true → suc (length (given_at host end peer)) ≤ MOST_IDS → IsTaken (SetsFree (with_opened host end peer conn) host) (host_connect host end peer conn)
unfolding host_connect give_of
connected host end peer conn standing room = by_tests (is_standing host end) standing (nat_le MOST_IDS (length (given_at host end peer))) (fits (length (given_at host end peer)) room) where
  fits : (n : ℕ) → suc n ≤ MOST_IDS → nat_le MOST_IDS n ≡ false
  fits n l = grind (arith, nat_tests)

  gave : Bool → Result (ℕ × List Connection) LightError
  gave b = cond b (Err lights.Spent) (Ok (FIRST_ID + length (given_at host end peer), given_at host end peer ++ opened conn ∷ []))

  by_tests : (a : Bool) → a ≡ true → (b : Bool) → b ≡ false → IsTaken (SetsFree (with_opened host end peer conn) host) (cond a (Ok end) (Err errors.NoEndPoint) >>= (λ standing. of_ids (gave b)
      >>= (λ given. stepped (puts_and_wants (frames.Created given.0, Free) (record (link_with host end peer) { given = given.1 }) host))))
  by_tests true e false f = taken (with_opened host end peer conn) host (puts_and_wants (frames.Created (FIRST_ID + length (given_at host end peer)), Free) (with_opened host end peer conn) host) (put_and_wanted (frames.Created (FIRST_ID + length (given_at host end peer)), Free) (with_opened host end peer conn) host)
      (put_wanted_rooms (frames.Created (FIRST_ID + length (given_at host end peer)), Free) (with_opened host end peer conn) host refl (room_of_found host end peer))
  by_tests true e true f = absurd cc
  by_tests false e b f = absurd cc

-- a closed endpoint opens none
pub not_connected : (host : HostState) (end : ℕ) (peer : Address) (conn : ℕ) → is_standing host end ≡ false → host_connect host end peer conn ≡ Err errors.NoEndPoint
unfolding host_connect
not_connected host end peer conn closed = by_test (is_standing host end) closed where
  by_test : (a : Bool) → a ≡ false → (cond a (Ok end) (Err errors.NoEndPoint) >>= (λ standing. of_ids (give_of (given_at host end peer) conn) >>= (λ given. stepped (puts_and_wants (frames.Created given.0, Free) (record (link_with host end peer) { given = given.1 }) host)))) ≡ Err errors.NoEndPoint
  by_test true e = absurd cc
  by_test false e = refl

-- ---- the link that carries a connection

-- it is the endpoint's link with its peer, where the connection is open
pub record IsCarried (host : HostState) (end conn : ℕ) (link : Link) : Type 0 where
  pub end_is : link.end ≡ end
  pub is_there : link_with host link.end link.peer ≡ link
  pub placed : place link.given conn < length link.given

pub carried : (host : HostState) (end conn : ℕ) (link : Link) → LinksApart host.links → find (carries end conn) host.links ≡ Some link → IsCarried host end conn link
carried host end conn link a e =
    let parts = and_parts (link.end == end) (is_some (id_of link.given conn)) (passes host.links e) in
    record { end_is = number_is link.end end parts.0; is_there = ap (link_or_new link.end link.peer) (found_self (carries end conn) host.links link a e); placed = with_id link.given conn parts.1 } where
      passes : (links : List Link) → find (carries end conn) links ≡ Some link → carries end conn link ≡ true
      passes [] e = absurd cc
      passes (known ∷ rest) e = by_test (carries end conn known) refl e (passes rest) where
        by_test : (b : Bool) → carries end conn known ≡ b → cond b (Some known) (find (carries end conn) rest) ≡ Some link → (find (carries end conn) rest ≡ Some link → carries end conn link ≡ true) → carries end conn link ≡ true
        by_test true h e more = let this : known ≡ link = cc in subst (λ (l : Link). carries end conn l ≡ true) this h
        by_test false h e more = more e

-- where no link carries it, it is given on none
pub none_given : (host : HostState) (end conn : ℕ) → find (carries end conn) host.links ≡ None → (peer : Address) → given_so host end conn peer ≡ 0
none_given host end conn e peer = in_links host.links e where
  in_links : (links : List Link) → find (carries end conn) links ≡ None → open_in (link_or_new end peer (find (is_link end peer) links)).given conn ≡ 0
  in_links [] e = refl
  in_links (known ∷ rest) e = by_tests (carries end conn known) refl (is_link end peer known) refl e (in_links rest) where
    is_end : is_link end peer known ≡ true → (known.end == end) ≡ true
    is_end h = (and_parts (known.end == end) (same_node known.peer peer) h).0

    no_id : (known.end == end) ≡ true → carries end conn known ≡ false → is_some (id_of known.given conn) ≡ false
    no_id h f = ap (λ b. b && is_some (id_of known.given conn)) (sym h) ∙ f

    by_tests : (a : Bool) → carries end conn known ≡ a → (b : Bool) → is_link end peer known ≡ b → cond a (Some known) (find (carries end conn) rest) ≡ None
        → (find (carries end conn) rest ≡ None → open_in (link_or_new end peer (find (is_link end peer) rest)).given conn ≡ 0) → open_in (link_or_new end peer (cond b (Some known) (find (is_link end peer) rest))).given conn ≡ 0
    by_tests true f b h e more = absurd cc
    by_tests false f true h e more = without_id known.given conn (no_id (is_end h) f)
    by_tests false f false h e more = more e

-- ---- a payload is sent

-- What is sent changes nothing that is given, and takes no room but where it is counted.
abbrev pub QuietOrRefused : Weight → HostState → Result (List Step × HostState) EndError → Type 0
QuietOrRefused weight host (Ok done) = Quiet host done.1 × (is_counted weight ≡ false → SameRooms host done.1)
QuietOrRefused weight host (Err e) = Unit {0}

sets_quiet : (link : Link) (host after : HostState) → IsOf link host → Sets link host after → Quiet host after
sets_quiet link host after i s = let q = stored_quiet link host i in record { given = λ e p. s.given e p ∙ sym (given_stored link host e p) ∙ q.given e p; apart = s.apart; ends = s.ends }

bound : {A : Type 0} (weight : Weight) (host : HostState) (given : Result A EndError) (f : A → Result (List Step × HostState) EndError) → ((x : A) → QuietOrRefused weight host (f x)) → QuietOrRefused weight host (given >>= f)
bound weight host (Ok x) f k = k x
bound weight host (Err e) f k = tt

of_carried : (host : HostState) (end conn : ℕ) (link : Link) → IsCarried host end conn link → IsOf link host
of_carried host end conn link c = ap (λ (l : Link). l.given) (sym c.is_there)

room_of_carried : (host : HostState) (end conn : ℕ) (link : Link) → IsCarried host end conn link → HasRoomOf link host
room_of_carried host end conn link c = ap has_space (sym c.is_there)

pub sent : (host : HostState) (end conn : ℕ) (payload : List ℕ) (weight : Weight) → LinksApart host.links → QuietOrRefused weight host (host_send host end conn payload weight)
unfolding host_send
sent host end conn payload weight a = by_found (find (carries end conn) host.links) refl where
  done_so : (link : Link) (done : Stepped) → IsOf link host → AllSet link host done → (is_counted weight ≡ false → AllSameRooms host done) → QuietOrRefused weight host (stepped done)
  done_so link (Ok done) i s r = (sets_quiet link host done.1 i s, r)
  done_so link (Err stop) i s r = tt

  by_found : (o : Option Link) → find (carries end conn) host.links ≡ o → QuietOrRefused weight host (found_or o >>= (λ link. short_enough payload >>= (λ short. has_room link weight >>= (λ roomy. found_or (id_of link.given conn) >>= (λ id. stepped (puts_and_wants (frames.Data id short, weight) link host))))))
  by_found None e = tt
  by_found (Some link) e = bound weight host (short_enough payload) _ (λ short. bound weight host (has_room link weight) _ (λ roomy. bound weight host (found_or (id_of link.given conn)) _ (λ id. done_so link (puts_and_wants (frames.Data id short, weight) link host) (of_carried host end conn link (carried host end conn link a e)) (put_and_wanted (frames.Data id short, weight) link host)
      (λ free. put_wanted_rooms (frames.Data id short, weight) link host free (room_of_carried host end conn link (carried host end conn link a e))))))

-- It is refused only where the connection isn't given, the payload is too long, or it is counted and there is no room.
abbrev pub SentButLong : List ℕ → Result (List Step × HostState) EndError → Type 0
SentButLong payload (Ok done) = Unit {0}
SentButLong payload (Err errors.Worn) = Unit {0}
SentButLong payload (Err errors.OutOfMemory) = Unit {0}
SentButLong payload (Err errors.PayloadLong) = nat_lt MOST_PAYLOAD_BYTES (length payload) ≡ true
SentButLong payload (Err e) = ⊥

pub takes_payload : (host : HostState) (end conn : ℕ) (payload : List ℕ) (weight : Weight) → LinksApart host.links → (peer : Address) → 1 ≤ given_so host end conn peer → ((other : Address) → 1 ≤ given_so host end conn other → peer ≡ other) → (is_counted weight ≡ true → roomy_at host end peer ≡ true) → SentButLong payload (host_send host end conn payload weight)
unfolding host_send
takes_payload host end conn payload weight a peer there alone room = by_found (find (carries end conn) host.links) refl where
  never : (n : ℕ) → 1 ≤ n → n ≡ 0 → ⊥
  never n l e = omega arith

  stepped_so : (done : Stepped) → SentButLong payload (stepped done)
  stepped_so (Ok done) = tt
  stepped_so (Err stops.OutOfMemory) = tt
  stepped_so (Err stops.Worn) = tt

  is_at : (link : Link) → IsCarried host end conn link → peer ≡ link.peer
  is_at link c = alone link.peer (subst (λ (t : List Connection). 1 ≤ open_in t conn) (ap (λ (l : Link). l.given) (sym c.is_there) ∙ ap (λ (e : ℕ). given_at host e link.peer) c.end_is) (some_open link.given conn c.placed))

  space : (link : Link) → IsCarried host end conn link → is_counted weight ≡ true → has_space link ≡ true
  space link c w = ap has_space (sym c.is_there) ∙ ap (λ (e : ℕ). roomy_at host e link.peer) c.end_is ∙ ap (roomy_at host end) (sym (is_at link c)) ∙ room w

  no_full : (w u n : Bool) → (w ≡ true → (u || not n) ≡ true) → (w && (not u && n)) ≡ false
  no_full true true n f = refl
  no_full true false true f = let wrong : false ≡ true = f refl in absurd cc
  no_full true false false f = refl
  no_full false u n f = refl

  by_id : (link : Link) (short : List ℕ) (o : Option ℕ) → is_some o ≡ true → SentButLong payload (found_or o >>= (λ id. stepped (puts_and_wants (frames.Data id short, weight) link host)))
  by_id link short None e = absurd cc
  by_id link short (Some id) e = stepped_so (puts_and_wants (frames.Data id short, weight) link host)

  by_room : (link : Link) (short : List ℕ) → is_some (id_of link.given conn) ≡ true → (b : Bool) → b ≡ false → SentButLong payload (cond b (Err errors.QueueFull) (Ok link) >>= (λ roomy. found_or (id_of link.given conn) >>= (λ id. stepped (puts_and_wants (frames.Data id short, weight) link host))))
  by_room link short i true e = absurd cc
  by_room link short i false e = by_id link short (id_of link.given conn) i

  by_length : (link : Link) → IsCarried host end conn link → is_some (id_of link.given conn) ≡ true → (b : Bool) → nat_lt MOST_PAYLOAD_BYTES (length payload) ≡ b → SentButLong payload (cond b (Err errors.PayloadLong) (Ok payload) >>= (λ short. has_room link weight >>= (λ roomy. found_or (id_of link.given conn) >>= (λ id. stepped (puts_and_wants (frames.Data id short, weight) link host)))))
  by_length link c i true e = e
  by_length link c i false e = by_room link payload i (is_counted weight && (not (is_up link.state) && nat_le Rattle.ch_model.specs.HostCalls.most_waiting (counted_in link))) (no_full (is_counted weight) (is_up link.state) (nat_le Rattle.ch_model.specs.HostCalls.most_waiting (counted_in link)) (space link c))

  passes : (links : List Link) (link : Link) → find (carries end conn) links ≡ Some link → carries end conn link ≡ true
  passes [] link e = absurd cc
  passes (known ∷ rest) link e = by_test (carries end conn known) refl e (passes rest link) where
    by_test : (b : Bool) → carries end conn known ≡ b → cond b (Some known) (find (carries end conn) rest) ≡ Some link → (find (carries end conn) rest ≡ Some link → carries end conn link ≡ true) → carries end conn link ≡ true
    by_test true h e more = let this : known ≡ link = cc in subst (λ (l : Link). carries end conn l ≡ true) this h
    by_test false h e more = more e

  by_found : (o : Option Link) → find (carries end conn) host.links ≡ o → SentButLong payload (found_or o >>= (λ link. short_enough payload >>= (λ short. has_room link weight >>= (λ roomy. found_or (id_of link.given conn) >>= (λ id. stepped (puts_and_wants (frames.Data id short, weight) link host))))))
  by_found None e = absurd (never (given_so host end conn peer) there (none_given host end conn e peer))
  by_found (Some link) e = by_length link (carried host end conn link a e) (and_parts (link.end == end) (is_some (id_of link.given conn)) (passes host.links link e)).1 (nat_lt MOST_PAYLOAD_BYTES (length payload)) refl

-- ---- a connection is closed

-- the link, where the connection is closed
abbrev pub with_closed : Link → ℕ → Link
with_closed link conn = record link { given = slice_set link.given (place link.given conn) (closed conn) }

-- it was given on a link, where it is closed
pub record Closes (host : HostState) (end conn : ℕ) (after : HostState) : Type 0 where
  pub link : Link
  pub carried : IsCarried host end conn link
  pub sets : Sets (with_closed link conn) host after
  pub rooms : SameRooms host after

-- it is closed, or is given nowhere
abbrev pub ClosesAll : HostState → ℕ → ℕ → Result (List Step × HostState) EndError → Type 0
ClosesAll host end conn (Ok done) = Closes host end conn done.1
ClosesAll host end conn (Err errors.NoConnection) = (peer : Address) → given_so host end conn peer ≡ 0
ClosesAll host end conn (Err e) = ⊥

pub closed_conn : (host : HostState) (end conn : ℕ) → LinksApart host.links → ClosesAll host end conn (host_close host end conn)
unfolding host_close close_of
closed_conn host end conn a = by_found (find (carries end conn) host.links) refl where
  item : Link → ℕ → Frame × Weight
  item link k = (frames.Closed (FIRST_ID + k), Free)

  done_so : (link : Link) (carried : IsCarried host end conn link) (done : Stepped) → AllSet (with_closed link conn) host done → AllSameRooms host done → ((stop : Stop) → done ≡ Err stop → ⊥) → ClosesAll host end conn (stepped done)
  done_so link c (Ok done) s r never = record { link = link; carried = c; sets = s; rooms = r }
  done_so link c (Err stop) s r never = absurd (never stop refl)

  puts_ok : (frame : Frame × Weight) (link : Link) (state : LinkState) (stop : Stop) → (elim state as (λ x. Stepped) [
    | states.Up sock probed ↦ Ok (frame_step sock frame ∷ [], with_link link host)
    | _ ↦ Ok ([], with_link (record link { waits = link.waits ++ frame ∷ [] }) host)
  ]) ≡ Err stop → ⊥
  puts_ok frame link (states.Up sock probed) stop e = cc
  puts_ok frame link (states.Dialing sock) stop e = cc
  puts_ok frame link states.Idle stop e = cc
  puts_ok frame link states.AwaitOther stop e = cc

  by_place : (link : Link) → IsCarried host end conn link → (o : Option ℕ) → o ≡ Some (place link.given conn) → ClosesAll host end conn (of_ids (close_at link.given conn o) >>= (λ closed. stepped (puts (frames.Closed closed.0, Free) (record link { given = closed.1 }) host)))
  by_place link c None e = absurd cc
  by_place link c (Some k) e = let same : k ≡ place link.given conn = cc in
      subst (λ (k : ℕ). ClosesAll host end conn (stepped (puts (frames.Closed (FIRST_ID + k), Free) (record link { given = slice_set link.given k (closed conn) }) host))) (sym same)
      (done_so link c (puts (item link (place link.given conn)) (with_closed link conn) host) (put_sets (item link (place link.given conn)) (with_closed link conn) host) (put_rooms (item link (place link.given conn)) (with_closed link conn) host refl (room_of_carried host end conn link c)) (puts_ok (item link (place link.given conn)) (with_closed link conn) link.state))

  by_found : (o : Option Link) → find (carries end conn) host.links ≡ o → ClosesAll host end conn (found_or o >>= (λ link. of_ids (close_at link.given conn (place_of link.given conn)) >>= (λ closed. stepped (puts (frames.Closed closed.0, Free) (record link { given = closed.1 }) host))))
  by_found None e = none_given host end conn e
  by_found (Some link) e = let c = carried host end conn link a e in by_place link c (place_of link.given conn) (is_placed link.given conn c.placed)
