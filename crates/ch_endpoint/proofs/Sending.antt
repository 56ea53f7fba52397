-- Payloads that are sent on a connection.
use Rattle.std.proofs.Common.{◌≡◌, ℕ, ◌+◌, ◌<◌, ◌≤◌, Bool, true, false, ◌&&◌, not, nat_lt, nat_le, length, List, find, Option, Some, None, Ok, Err, refl, ap, ◌∙◌, arith}
use Rattle.std.proofs.lemmas.Bool.Decides.{nat_tests}
use Rattle.ch_wire.specs.declared.frame.Frame.TheVariants as frames
use Rattle.std.specs.Prelude.{slice_set, option_map}
use Rattle.ch_light.specs.Ids.{id_of, place_of, close_of, close_at, closed}
use Rattle.ch_light.specs.declared.error.LightError.TheVariants.{NotOpen}
use Rattle.ch_model.specs.declared.step.Weight.TheVariants.{Free}
use Rattle.ch_endpoint.specs.Waits.{closing, closed_among}
use Rattle.ch_light.specs.declared.Connection.{Connection}
use Rattle.ch_model.specs.declared.step.Step.{Step}
use Rattle.ch_model.specs.declared.step.Weight.{Weight}
use Rattle.ch_model.specs.declared.step.EndError.TheVariants.{NoConnection, PayloadLong, QueueFull, Worn}
use Rattle.ch_model.specs.HostState.{Link, HostState}
use Rattle.ch_model.specs.HostWrites.{is_counted, is_up, counted_in, puts}
use Rattle.ch_model.specs.HostLinks.{most_dials}
use Rattle.ch_endpoint.specs.Places.{is_idle}
use Rattle.ch_endpoint.proofs.Sends.{puts_and_wants_worn, idle_is, both_hold, at_most}
use Rattle.ch_model.specs.HostCalls.{host_send, host_close, carries, puts_and_wants, stepped}

-- an id is at least the first
pub id_least : (table : List Connection) (conn id : ℕ) → id_of table conn ≡ Some id → 1024 ≤ id
unfolding id_of
id_least table conn id e = by_place (place_of table conn) e
  where
    by_place : (o : Option ℕ) → Path (Option ℕ) (elim o [ None ↦ None | Some place ↦ Some (1024 + place) ]) (Some id) → 1024 ≤ id
    by_place None e = absurd cc
    by_place (Some place) e = let is : 1024 + place ≡ id = cc in omega (arith, is)

pub send_none : (host : HostState) (end conn : ℕ) (payload : List ℕ) (weight : Weight) → find (carries end conn) host.links ≡ None → host_send host end conn payload weight ≡ Err NoConnection
unfolding host_send
send_none host end conn payload weight e = rw e refl

pub send_long : (host : HostState) (end conn : ℕ) (payload : List ℕ) (weight : Weight) (link : Link) → find (carries end conn) host.links ≡ Some link → nat_lt 65536 (length payload) ≡ true → host_send host end conn payload weight ≡ Err PayloadLong
unfolding host_send
send_long host end conn payload weight link e l = rw (e, l) refl

pub send_full : (host : HostState) (end conn : ℕ) (payload : List ℕ) (weight : Weight) (link : Link) → find (carries end conn) host.links ≡ Some link → nat_lt 65536 (length payload) ≡ false → (is_counted weight && (not (is_up link.state) && nat_le 4096 (counted_in link))) ≡ true → host_send host end conn payload weight ≡ Err QueueFull
unfolding host_send
send_full host end conn payload weight link e l f = rw (e, l, f) refl

pub send_lost : (host : HostState) (end conn : ℕ) (payload : List ℕ) (weight : Weight) (link : Link) → find (carries end conn) host.links ≡ Some link → nat_lt 65536 (length payload) ≡ false → (is_counted weight && (not (is_up link.state) && nat_le 4096 (counted_in link))) ≡ false → id_of link.given conn ≡ None → host_send host end conn payload weight ≡ Err NoConnection
unfolding host_send
send_lost host end conn payload weight link e l f n = rw (e, l, f, n) refl

pub send_does : (host : HostState) (end conn id : ℕ) (payload : List ℕ) (weight : Weight) (link : Link) → find (carries end conn) host.links ≡ Some link → nat_lt 65536 (length payload) ≡ false → (is_counted weight && (not (is_up link.state) && nat_le 4096 (counted_in link))) ≡ false → id_of link.given conn ≡ Some id → host_send host end conn payload weight ≡ stepped (puts_and_wants (frames.Data id payload, weight) link host)
unfolding host_send
send_does host end conn id payload weight link e l f i = rw (e, l, f, i) refl

-- a payload that isn't refused may wait
pub may_wait : (counted up : Bool) (waits : ℕ) → (counted && (not up && nat_le 4096 waits)) ≡ false → counted ≡ true → up ≡ false → waits < 4096
may_wait true false waits e c u = nat_le_false waits e
  where
    nat_le_false : (n : ℕ) → nat_le 4096 n ≡ false → n < 4096
    nat_le_false n e = grind (arith, nat_tests)
may_wait true true waits e c u = absurd cc
may_wait false up waits e c u = absurd cc

short_is : (n : ℕ) → n ≤ 65536 → nat_lt 65536 n ≡ false
short_is n h = grind (arith, nat_tests)

long_is : (n : ℕ) → 65536 < n → nat_lt 65536 n ≡ true
long_is n h = grind (arith, nat_tests)

-- the refusals and the answer of a payload, for a link that is known
pub too_long : (host : HostState) (end conn : ℕ) (payload : List ℕ) (weight : Weight) (link : Link) → find (carries end conn) host.links ≡ Some link → 65536 < length payload → host_send host end conn payload weight ≡ Err PayloadLong
too_long host end conn payload weight link e l = send_long host end conn payload weight link e (long_is (length payload) l)

pub too_full : (host : HostState) (end conn : ℕ) (payload : List ℕ) (weight : Weight) (link : Link) → find (carries end conn) host.links ≡ Some link → length payload ≤ 65536 → (is_counted weight && (not (is_up link.state) && nat_le 4096 (counted_in link))) ≡ true → host_send host end conn payload weight ≡ Err QueueFull
too_full host end conn payload weight link e l f = send_full host end conn payload weight link e (short_is (length payload) l) f

pub not_carried : (host : HostState) (end conn : ℕ) (payload : List ℕ) (weight : Weight) (link : Link) → find (carries end conn) host.links ≡ Some link → length payload ≤ 65536 → (is_counted weight && (not (is_up link.state) && nat_le 4096 (counted_in link))) ≡ false → id_of link.given conn ≡ None → host_send host end conn payload weight ≡ Err NoConnection
not_carried host end conn payload weight link e l f n = send_lost host end conn payload weight link e (short_is (length payload) l) f n

pub sent : (host : HostState) (end conn id : ℕ) (payload : List ℕ) (weight : Weight) (link : Link) (done : List Step × HostState) → find (carries end conn) host.links ≡ Some link → length payload ≤ 65536 → (is_counted weight && (not (is_up link.state) && nat_le 4096 (counted_in link))) ≡ false → id_of link.given conn ≡ Some id → puts_and_wants (frames.Data id payload, weight) link host ≡ Ok done → host_send host end conn payload weight ≡ Ok done
sent host end conn id payload weight link done e l f i d = send_does host end conn id payload weight link e (short_is (length payload) l) f i ∙ ap stepped d

pub sent_worn : (host : HostState) (end conn id : ℕ) (payload : List ℕ) (weight : Weight) (link : Link) → find (carries end conn) host.links ≡ Some link → length payload ≤ 65536 → (is_counted weight && (not (is_up link.state) && nat_le 4096 (counted_in link))) ≡ false → id_of link.given conn ≡ Some id → (is_idle link.state && nat_le most_dials host.dials) ≡ true → host_send host end conn payload weight ≡ Err Worn
sent_worn host end conn id payload weight link e l f i w =
    let h = both_hold _ _ w in
    send_does host end conn id payload weight link e (short_is (length payload) l) f i ∙ ap stepped (puts_and_wants_worn (frames.Data id payload, weight) link host (idle_is link.state h.0) (at_most host.dials most_dials h.1))

-- ---- a connection that is closed

close_place : (table : List Connection) (conn id : ℕ) (o : Option ℕ) → option_map (λ place. 1024 + place) o ≡ Some id → close_at table conn o ≡ Ok (id, closed_among (close_at table conn o) table)
close_place table conn id None e = absurd cc
close_place table conn id (Some place) e = let is : 1024 + place ≡ id = cc in (λ i. Ok (is i, slice_set table place (closed conn)))

-- a connection that has an id is closed under it
pub close_id : (table : List Connection) (conn id : ℕ) → id_of table conn ≡ Some id → close_of table conn ≡ Ok (id, closed_among (close_of table conn) table)
unfolding id_of close_of
close_id table conn id e = close_place table conn id (place_of table conn) e

none_place : (table : List Connection) (conn : ℕ) (o : Option ℕ) → option_map (λ place. 1024 + place) o ≡ None → close_at table conn o ≡ Err NotOpen
none_place table conn None e = refl
none_place table conn (Some place) e = absurd cc

close_lost_id : (table : List Connection) (conn : ℕ) → id_of table conn ≡ None → close_of table conn ≡ Err NotOpen
unfolding id_of close_of
close_lost_id table conn e = none_place table conn (place_of table conn) e

pub close_none : (host : HostState) (end conn : ℕ) → find (carries end conn) host.links ≡ None → host_close host end conn ≡ Err NoConnection
unfolding host_close
close_none host end conn e = rw e refl

pub close_lost : (host : HostState) (end conn : ℕ) (link : Link) → find (carries end conn) host.links ≡ Some link → id_of link.given conn ≡ None → host_close host end conn ≡ Err NoConnection
unfolding host_close
close_lost host end conn link e n = let lost = close_lost_id link.given conn n in rw (e, lost) refl

close_stands : (host : HostState) (end conn id : ℕ) (link : Link) (given : List Connection) → find (carries end conn) host.links ≡ Some link → close_of link.given conn ≡ Ok (id, given) → host_close host end conn ≡ stepped (puts (frames.Closed id, Free) (record link { given = given }) host)
unfolding host_close
close_stands host end conn id link given e c = rw (e, c) refl

pub close_does : (host : HostState) (end conn id : ℕ) (link : Link) (done : List Step × HostState) → find (carries end conn) host.links ≡ Some link → id_of link.given conn ≡ Some id → puts (frames.Closed id, Free) (closing conn link) host ≡ Ok done → host_close host end conn ≡ Ok done
close_does host end conn id link done e i p = close_stands host end conn id link (closed_among (close_of link.given conn) link.given) e (close_id link.given conn id i) ∙ ap stepped p
