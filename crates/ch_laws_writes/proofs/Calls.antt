-- What an endpoint asks of its host writes what is due.
use Rattle.std.proofs.Common.{◌≡◌, ◌≤◌, ◌<◌, ℕ, ◌+◌, ◌^◌, Bool, true, false, cond, List, [], ◌∷◌, ◌++◌, length, Ok, Err, refl, sym, ap, ◌∙◌, subst, length-append, arith}
use Rattle.std.proofs.lemmas.Bool.{leb-false}
use Rattle.std.proofs.lemmas.Bool.Decides.{nat_tests}
use Rattle.std.proofs.lemmas.List.{length-set}
use Rattle.std.proofs.lemmas.List.Quantifiers.{position-Some}
use Rattle.std.specs.Prelude.{find, Option, Some, None, Result, nat_lt, nat_le, ◌==◌, slice_set}
use Rattle.std.specs.Option.{option_map}
use Rattle.ch_base.specs.declared.address.Address.{Address}
use Rattle.ch_base.specs.declared.event.Event.TheVariants as events
use Rattle.ch_wire.specs.Spelling.{IsFrame, IsConnection, frame_spelling}
use Rattle.ch_wire.specs.declared.TheConstants.{MOST_PAYLOAD_BYTES, FIRST_ID as FIRST_FRAME_ID}
use Rattle.ch_wire.specs.declared.frame.Frame.{Frame}
use Rattle.ch_wire.specs.declared.frame.Frame.TheVariants as frames
use Rattle.ch_link.specs.declared.LinkIn.TheVariants as inputs
use Rattle.ch_link.specs.declared.LinkState.{LinkState}
use Rattle.ch_link.specs.declared.LinkState.TheVariants as states
use Rattle.ch_light.specs.Ids.{opened, closed, is_open_as, place_of, id_of, give_of, close_at, close_of}
use Rattle.ch_light.specs.declared.Connection.{Connection}
use Rattle.ch_light.specs.declared.TheConstants.{FIRST_ID, MOST_IDS}
use Rattle.ch_light.specs.declared.error.LightError.TheVariants as lights
use Rattle.ch_model.specs.declared.step.EndError.{EndError}
use Rattle.ch_model.specs.declared.step.EndError.TheVariants as ends
use Rattle.ch_model.specs.declared.step.Step.{Step}
use Rattle.ch_model.specs.declared.step.Weight.{Weight}
use Rattle.ch_model.specs.declared.step.Weight.TheVariants.{Free}
use Rattle.ch_model.specs.HostCalls.{◌>>=◌, stepped, of_ids, open_endpoint, wants, puts_and_wants, host_connect, carries, found_or, short_enough, has_room, host_send, host_close, shuts_links, closes_endpoint, host_close_endpoint}
use Rattle.ch_model.specs.HostItems.{posts}
use Rattle.ch_model.specs.HostLinks.{next_dial, hears}
use Rattle.ch_model.specs.HostState.{Endpoint, Link, HostState}
use Rattle.ch_model.specs.HostSteps.{Stepped, still, ◌then◌, is_endpoint, link_or_new, link_with, with_link, after_steps}
use Rattle.ch_model.specs.HostWrites.{frame_step, puts}
use Rattle.ch_laws_items.proofs.Hosts.{Stays, where_is, Where}
use Rattle.ch_laws_items.proofs.Hosts as hosts
use Rattle.ch_laws_log.specs.HostEnds.{IsSound, AllTold}
use Rattle.ch_laws_log.proofs.HostItemsTold as told
use Rattle.ch_laws_log.proofs.HostLinksTold as told_links
use Rattle.ch_laws_writes.specs.Dues.{due_at}
use Rattle.ch_laws_writes.specs.Orderly.{AreFrames, link_at, IsOrderly, AllWrite}
use Rattle.ch_laws_writes.proofs.Dues.{Dues, nothing_said, and_then, writes_frame, framed_still}
use Rattle.ch_laws_writes.proofs.Ordered.{is_key, Fit, fit_of, left_out, named_end, named_peer, found_own, linked}
use Rattle.ch_laws_writes.proofs.Links.{Does, AllDo, IsLinked, linked_at, heard}

-- ---- an orderly host

-- what fits, of a sound host where it was, is orderly
pub orderly : (own : ℕ → Address) (before after : HostState) → IsOrderly own before → where_is after ≡ where_is before → IsSound after → Fit after.links after.sockets → IsOrderly own after
orderly own before after o stays sound f = record {
  sound = sound;
  own_is = λ end. ap (address_there end) stays ∙ o.own_is end;
  apart = f.apart;
  links = λ end peer. f.each_link end peer refl;
  sockets = λ n socket found. record { asks = (f.each_socket n socket found).asks; unasked = (f.each_socket n socket found).unasked; awaits = λ live a end peer u. (f.each_socket n socket found).awaits live a end peer refl u };
} where
  address_there : ℕ → Where → Address
  address_there end w = record { host = w.0; port = w.1; id = end }

-- whatever was done
pub all_orderly : {E : Type 0} (own : ℕ → Address) (d : Dues) (host : HostState) (done : Result (List Step × HostState) E) → IsOrderly own host → AllTold host done → Stays host done → AllDo own d done → AllWrite own d done
all_orderly own d host (Ok done) o tells stays does = record { orderly = orderly own host done.1 o stays (tells o.sound).sound does.fit; writes = does.writes }
all_orderly own d host (Err e) o tells stays does = tt

-- ---- one thing and then another

pub chained : (own : ℕ → Address) (d : Dues) (done : Stepped) (f : HostState → Stepped) → AllDo own d done → ((next : HostState) → Fit next.links next.sockets → AllDo own (due_at next) (f next)) → AllDo own d (done then f)
chained own d (Ok done) f a g = from (f done.1) (g done.1 a.fit) where
  from : (more : Stepped) → AllDo own (due_at done.1) more → AllDo own d (after_steps done.0 more)
  from (Ok more) b = record { fit = b.fit; writes = and_then own d (due_at done.1) (due_at more.1) done.0 more.0 a.writes b.writes }
  from (Err stop) b = tt
chained own d (Err stop) f a g = tt

-- the same of a sound host
chained_sound : (own : ℕ → Address) (host : HostState) (done : Stepped) (f : HostState → Stepped) → IsSound host → AllTold host done → AllDo own (due_at host) done → ((next : HostState) → IsSound next → Fit next.links next.sockets → AllDo own (due_at next) (f next)) → AllDo own (due_at host) (done then f)
chained_sound own host (Ok done) f s t a g = from (f done.1) (g done.1 (t s).sound a.fit) where
  from : (more : Stepped) → AllDo own (due_at done.1) more → AllDo own (due_at host) (after_steps done.0 more)
  from (Ok more) b = record { fit = b.fit; writes = and_then own (due_at host) (due_at done.1) (due_at more.1) done.0 more.0 a.writes b.writes }
  from (Err stop) b = tt
chained_sound own host (Err stop) f s t a g = tt

bound : {A : Type 0} (own : ℕ → Address) (d : Dues) (given : Result A EndError) (f : A → Result (List Step × HostState) EndError) → ((x : A) → given ≡ Ok x → AllDo own d (f x)) → AllDo own d (given >>= f)
bound own d (Ok x) f k = k x refl
bound own d (Err e) f k = tt

done_as : (own : ℕ → Address) (d : Dues) (done : Stepped) → AllDo own d done → AllDo own d (stepped done)
done_as own d (Ok done) f = f
done_as own d (Err stop) f = tt

-- ---- ids

in_range : (place most : ℕ) → place < most → most ≤ MOST_IDS → FIRST_ID + place < 2 ^ 32
in_range place most l m = omega arith

pub record Given (id : ℕ) (table : List Connection) : Type 0 where
  pub range : id < 2 ^ 32
  pub length : length table ≤ MOST_IDS

pub gives : (table : List Connection) (conn : ℕ) (given : ℕ × List Connection) → of_ids (give_of table conn) ≡ Ok given → Given given.0 given.1
unfolding give_of
gives table conn given e = by_test (nat_le MOST_IDS (length table)) refl e where
  one_more : (n : ℕ) → n < MOST_IDS → n + 1 ≤ MOST_IDS
  one_more n l = omega arith

  below : (n : ℕ) → n < MOST_IDS → FIRST_ID + n < 2 ^ 32
  below n l = omega arith

  by_test : (b : Bool) → nat_le MOST_IDS (length table) ≡ b → of_ids (cond b (Err lights.Spent) (Ok (FIRST_ID + length table, table ++ opened conn ∷ []))) ≡ Ok given → Given given.0 given.1
  by_test true h e = absurd cc
  by_test false h e = let is : (FIRST_ID + length table, table ++ opened conn ∷ []) ≡ given = cc in subst (λ (g : ℕ × List Connection). Given g.0 g.1) is
      (record { range = below (length table) (leb-false MOST_IDS (length table) h); length = subst (λ (n : ℕ). n ≤ MOST_IDS) (sym (length-append table (opened conn ∷ []))) (one_more (length table) (leb-false MOST_IDS (length table) h)) })

pub closes_one : (table : List Connection) (conn : ℕ) (given : ℕ × List Connection) → length table ≤ MOST_IDS → of_ids (close_of table conn) ≡ Ok given → Given given.0 given.1
unfolding close_of
closes_one table conn given most e = by_place (place_of table conn) refl e where
  by_place : (o : Option ℕ) → place_of table conn ≡ o → of_ids (close_at table conn o) ≡ Ok given → Given given.0 given.1
  by_place None h e = absurd cc
  by_place (Some place) h e = let is : (FIRST_ID + place, slice_set table place (closed conn)) ≡ given = cc in subst (λ (g : ℕ × List Connection). Given g.0 g.1) is
      (record { range = in_range place (length table) (position-Some (is_open_as conn) table place (closed conn) h).0 most; length = subst (λ (n : ℕ). n ≤ MOST_IDS) (sym (length-set table place (closed conn))) most })

pub has_id : (table : List Connection) (conn id : ℕ) → length table ≤ MOST_IDS → found_or (id_of table conn) ≡ Ok id → IsConnection id
unfolding id_of
has_id table conn id most e = by_place (place_of table conn) refl e where
  at_least : (place : ℕ) → FIRST_FRAME_ID ≤ FIRST_ID + place
  at_least place = omega arith

  by_place : (o : Option ℕ) → place_of table conn ≡ o → found_or (option_map (λ place. FIRST_ID + place) o) ≡ Ok id → IsConnection id
  by_place None h e = absurd cc
  by_place (Some place) h e = let is : FIRST_ID + place ≡ id = cc in subst IsConnection is (at_least place, in_range place (length table) (position-Some (is_open_as conn) table place (closed conn) h).0 most)

is_short : (payload short : List ℕ) → short_enough payload ≡ Ok short → length short ≤ MOST_PAYLOAD_BYTES
is_short payload short e = by_test (nat_lt MOST_PAYLOAD_BYTES (length payload)) refl e where
  fits : (n : ℕ) → nat_lt MOST_PAYLOAD_BYTES n ≡ false → n ≤ MOST_PAYLOAD_BYTES
  fits n h = grind (arith, nat_tests)

  by_test : (b : Bool) → nat_lt MOST_PAYLOAD_BYTES (length payload) ≡ b → cond b (Err ends.PayloadLong) (Ok payload) ≡ Ok short → length short ≤ MOST_PAYLOAD_BYTES
  by_test true h e = absurd cc
  by_test false h e = let is : payload ≡ short = cc in subst (λ (l : List ℕ). length l ≤ MOST_PAYLOAD_BYTES) is (fits (length payload) h)

-- ---- links

-- the link of an endpoint with a peer
pub linked_with : (host : HostState) (end : ℕ) (peer : Address) → Fit host.links host.sockets → IsLinked host (link_with host end peer)
linked_with host end peer f = linked_at host (link_with host end peer) f (ap (λ (n : ℕ). link_at host.links n peer) (sym (named_end host.links end peer)) ∙ ap (λ (a : Address). link_at host.links (link_with host end peer).end a) (sym (named_peer host.links end peer)))

-- the link that some test finds
found_link : (host : HostState) (test : Link → Bool) (link : Link) → Fit host.links host.sockets → found_or (find test host.links) ≡ Ok link → IsLinked host link
found_link host test link f e = linked_at host link f (sym (ap (link_or_new link.end link.peer) (found_own test host.links link f.apart (by_found (find test host.links) e)))) where
  by_found : (o : Option Link) → found_or o ≡ Ok link → o ≡ Some link
  by_found (Some x) e = let is : x ≡ link = cc in ap Some is
  by_found None e = absurd cc

-- the same link with other ids
reissued : (host : HostState) (link : Link) (table : List Connection) → length table ≤ MOST_IDS → IsLinked host link → IsLinked host (record link { given = table })
reissued host link table most l = record { fit = l.fit; fits = record { named = l.fits.named; up = l.fits.up; spelled = l.fits.spelled; given = most }; awaited = l.awaited }

frames_append : (waits : List (Frame × Weight)) (item : Frame × Weight) → AreFrames waits → IsFrame item.0 → AreFrames (waits ++ item ∷ [])
frames_append [] item a f = (f, tt)
frames_append (wait ∷ waits) item a f = (a.0, frames_append waits item a.1 f)

-- an item of a link is put
put : (own : ℕ → Address) (item : Frame × Weight) (link : Link) (host : HostState) → IsLinked host link → IsFrame item.0 → AllDo own (due_at host) (puts item link host)
put own item link host l fits = by_state link.state refl where
  waiting : Link
  waiting = record link { waits = link.waits ++ item ∷ [] }

  waits : Does own (due_at host) [] (with_link waiting host)
  waits = record {
    fit = linked waiting host.links host.sockets (left_out (is_key link.end link.peer) host.links host.sockets l.fit) (record { named = l.fits.named; up = l.fits.up; spelled = frames_append link.waits item l.fits.spelled fits; given = l.fits.given }) l.awaited;
    writes = nothing_said own (due_at host) (due_at host) (λ n. refl);
  }

  by_state : (state : LinkState) → link.state ≡ state → AllDo own (due_at host) (elim state as (λ x. Stepped) [
    | states.Up sock probed ↦ Ok (frame_step sock item ∷ [], with_link link host)
    | _ ↦ Ok ([], with_link (record link { waits = link.waits ++ item ∷ [] }) host)
  ])
  by_state (states.Up sock probed) is = record {
    fit = linked link host.links host.sockets (left_out (is_key link.end link.peer) host.links host.sockets l.fit) l.fits l.awaited;
    writes = record { due = λ n. (writes_frame own (due_at host) sock item.0 n (l.fits.up sock probed is) fits, tt); leads = λ n. sym (framed_still (due_at host) sock (frame_spelling item.0) n (l.fits.up sock probed is)) };
  }
  by_state (states.Dialing sock) is = waits
  by_state states.Idle is = waits
  by_state states.AwaitOther is = waits

put_and_wanted : (own : ℕ → Address) (item : Frame × Weight) (link : Link) (host : HostState) → IsSound host → IsLinked host link → IsFrame item.0 → AllDo own (due_at host) (puts_and_wants item link host)
put_and_wanted own item link host s l fits = chained_sound own host (puts item link host) (wants link.end link.peer) s (told_links.put item link host) (put own item link host l fits)
    (λ next sound f. heard own (inputs.Want (next_dial next)) (link_with next link.end link.peer) next (linked_with next link.end link.peer f) (refl, sound.free next.dials (self next.dials))) where
      self : (n : ℕ) → n ≤ n
      self n = omega arith

-- ---- the calls

connects : (own : ℕ → Address) (host : HostState) (end : ℕ) (peer : Address) (conn : ℕ) → IsSound host → Fit host.links host.sockets → AllDo own (due_at host) (host_connect host end peer conn)
unfolding host_connect
connects own host end peer conn s f = bound own (due_at host) (open_endpoint host end) _ (λ standing e. bound own (due_at host) (of_ids (give_of (link_with host end peer).given conn)) _ (λ given g.
    done_as own (due_at host) _ (put_and_wanted own (frames.Created given.0, Free) (record (link_with host end peer) { given = given.1 }) host s
    (reissued host (link_with host end peer) given.1 (gives (link_with host end peer).given conn given g).length (linked_with host end peer f)) (gives (link_with host end peer).given conn given g).range)))

sends : (own : ℕ → Address) (host : HostState) (end conn : ℕ) (payload : List ℕ) (weight : Weight) → IsSound host → Fit host.links host.sockets → AllDo own (due_at host) (host_send host end conn payload weight)
unfolding host_send
sends own host end conn payload weight s f = bound own (due_at host) (found_or (find (carries end conn) host.links)) _ (λ link l. bound own (due_at host) (short_enough payload) _ (λ short m. bound own (due_at host) (has_room link weight) _ (λ roomy r. bound own (due_at host) (found_or (id_of link.given conn)) _ (λ id i.
    done_as own (due_at host) _ (put_and_wanted own (frames.Data id short, weight) link host s (found_link host (carries end conn) link f l)
    (has_id link.given conn id (found_link host (carries end conn) link f l).fits.given i, is_short payload short m))))))

closes_conn : (own : ℕ → Address) (host : HostState) (end conn : ℕ) → Fit host.links host.sockets → AllDo own (due_at host) (host_close host end conn)
unfolding host_close
closes_conn own host end conn f = bound own (due_at host) (found_or (find (carries end conn) host.links)) _ (λ link l. bound own (due_at host) (of_ids (close_of link.given conn)) _ (λ given g.
    done_as own (due_at host) _ (put own (frames.Closed given.0, Free) (record link { given = given.1 }) host
    (reissued host link given.1 (closes_one link.given conn given (found_link host (carries end conn) link f l).fits.given g).length (found_link host (carries end conn) link f l))
    (closes_one link.given conn given (found_link host (carries end conn) link f l).fits.given g).range)))

shuts : (own : ℕ → Address) (end : ℕ) (links : List Link) (host : HostState) → Fit host.links host.sockets → AllDo own (due_at host) (shuts_links end links host)
shuts own end [] host f = record { fit = f; writes = nothing_said own (due_at host) (due_at host) (λ n. refl) }
shuts own end (link ∷ rest) host f = by_test (link.end == end) (shuts own end rest) where
  by_test : (b : Bool) → ((next : HostState) → Fit next.links next.sockets → AllDo own (due_at next) (shuts_links end rest next)) → AllDo own (due_at host) (cond b (hears inputs.Shut (link_with host end link.peer) host) (still host) then shuts_links end rest)
  by_test true k = chained own (due_at host) (hears inputs.Shut (link_with host end link.peer) host) (shuts_links end rest) (heard own inputs.Shut (link_with host end link.peer) host (linked_with host end link.peer f) tt) k
  by_test false k = chained own (due_at host) (still host) (shuts_links end rest) (record { fit = f; writes = nothing_said own (due_at host) (due_at host) (λ n. refl) }) k

closes_end : (own : ℕ → Address) (host : HostState) (end : ℕ) → Fit host.links host.sockets → AllDo own (due_at host) (host_close_endpoint host end)
unfolding host_close_endpoint
closes_end own host end f = bound own (due_at host) (open_endpoint host end) _ (λ standing e. done_as own (due_at host) _ (chained own (due_at host) (shuts_links end host.links host) (λ shut. posts end events.EndPointClosed (closes_endpoint (find (is_endpoint end) shut.ends) shut)) (shuts own end host.links host f)
    (λ next g. by_end next g (find (is_endpoint end) next.ends)))) where
      by_end : (next : HostState) → Fit next.links next.sockets → (o : Option Endpoint) → AllDo own (due_at next) (posts end events.EndPointClosed (closes_endpoint o next))
      by_end next g None = record { fit = g; writes = record { due = λ n. (tt, tt); leads = λ n. refl } }
      by_end next g (Some endpoint) = record { fit = g; writes = record { due = λ n. (tt, tt); leads = λ n. refl } }

pub connected : (own : ℕ → Address) (host : HostState) (end : ℕ) (peer : Address) (conn : ℕ) → IsOrderly own host → AllWrite own (due_at host) (host_connect host end peer conn)
connected own host end peer conn o = all_orderly own (due_at host) host (host_connect host end peer conn) o (told.connected host end peer conn) (hosts.connected host end peer conn) (connects own host end peer conn o.sound (fit_of own host o))

pub sent : (own : ℕ → Address) (host : HostState) (end conn : ℕ) (payload : List ℕ) (weight : Weight) → IsOrderly own host → AllWrite own (due_at host) (host_send host end conn payload weight)
sent own host end conn payload weight o = all_orderly own (due_at host) host (host_send host end conn payload weight) o (told.sent host end conn payload weight) (hosts.sent host end conn payload weight) (sends own host end conn payload weight o.sound (fit_of own host o))

pub closed_conn : (own : ℕ → Address) (host : HostState) (end conn : ℕ) → IsOrderly own host → AllWrite own (due_at host) (host_close host end conn)
closed_conn own host end conn o = all_orderly own (due_at host) host (host_close host end conn) o (told.closed_conn host end conn) (hosts.closed host end conn) (closes_conn own host end conn (fit_of own host o))

pub endpoint_closed : (own : ℕ → Address) (host : HostState) (end : ℕ) → IsOrderly own host → AllWrite own (due_at host) (host_close_endpoint host end)
endpoint_closed own host end o = all_orderly own (due_at host) host (host_close_endpoint host end) o (told.endpoint_closed host end) (hosts.endpoint_closed host end) (closes_end own host end (fit_of own host o))
