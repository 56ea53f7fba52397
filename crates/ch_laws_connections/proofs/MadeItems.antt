-- What a host makes of events and items makes what is created just as it tells.
use Rattle.std.proofs.Common.{◌≡◌, ◌≤◌, ◌<◌, ℕ, zero, suc, ◌+◌, ◌*◌, ◌-◌, arith, length, Bool, true, false, cond, ◌&&◌, ◌||◌, List, [], ◌∷◌, ◌++◌, drop, Ok, Err, refl, sym, ap, ◌∙◌, subst}
use Rattle.std.specs.List.{list_any}
use Rattle.std.specs.Prelude.{find, ◌==◌, Result, Option, Some, None, nat_lt, nat_le, slice_get, slice_set}
use Rattle.ch_base.specs.declared.address.Address.{Address}
use Rattle.ch_base.specs.declared.event.Event.TheVariants as events
use Rattle.ch_base.specs.declared.memory.Stop.{Stop}
use Rattle.ch_base.specs.declared.memory.Stop.TheVariants as stops
use Rattle.ch_wire.specs.Spelling.{request_spelling}
use Rattle.ch_wire.specs.declared.answer.Answer.{Answer}
use Rattle.ch_wire.specs.declared.frame.Frame.{Frame}
use Rattle.ch_wire.specs.declared.frame.Frame.TheVariants as frames
use Rattle.ch_wire.specs.declared.request.Request.{Request}
use Rattle.ch_reader.specs.declared.item.Expected.TheVariants as expected
use Rattle.ch_reader.specs.declared.item.Front.{Front}
use Rattle.ch_reader.specs.declared.item.Front.TheVariants.{Unfinished, Whole, Refused}
use Rattle.ch_reader.specs.declared.item.Item.{Item}
use Rattle.ch_reader.specs.declared.item.Item.TheVariants as items
use Rattle.ch_link.specs.Sockets.{names}
use Rattle.ch_link.specs.declared.LinkIn.TheVariants as inputs
use Rattle.ch_light.specs.Ids.{opened, is_open_as, open_number, closed_by, created_of, conn_of, closed_of}
use Rattle.ch_light.specs.Ids.{closed as shut}
use Rattle.ch_light.specs.declared.TheConstants.{FIRST_ID, MOST_IDS}
use Rattle.ch_light.specs.declared.error.LightError.TheVariants as lights
use Rattle.ch_light.specs.declared.Connection.{Connection}
use Rattle.ch_light.specs.declared.error.LightError.{LightError}
use Rattle.ch_model.specs.declared.step.SocketEvent.{SocketEvent}
use Rattle.ch_model.specs.declared.step.SocketEvent.TheVariants as sockets
use Rattle.ch_model.specs.declared.step.Step.{Step}
use Rattle.ch_model.specs.declared.step.Step.TheVariants as steps
use Rattle.ch_model.specs.Host.{front_of, first_ready, on_socket, joins, accepted, keeps, host_on, takes, handles, some_steps, host_next}
use Rattle.ch_model.specs.HostCalls.{host_timer_runs}
use Rattle.ch_model.specs.HostItems.{most_arrived, posts, gone_from, is_gone, refusal_of, asks_link, reads_request, heard_answer, arrived_at, with_arrival, next_arrival, arrives, closes, receives, reads_frame, reads_on, reads_other, reads}
use Rattle.ch_model.specs.HostLinks.{hears}
use Rattle.ch_model.specs.HostState.{Endpoint, Link, Socket, HostState}
use Rattle.ch_model.specs.HostSteps.{Stepped, still, after_steps, is_endpoint, store_endpoint, is_socket, own_address, is_link, link_with, with_link, with_socket, with_endpoint}
use Rattle.ch_model.specs.HostWrites.{writes, leaves, answers_and_leaves}
use Rattle.ch_model.specs.Stages.{Stage, Open, is_pending, is_open}
use Rattle.ch_watch.specs.Same.{same_node}
use Rattle.ch_laws_log.proofs.Homes.{node_self}
use Rattle.ch_laws_log.proofs.Keys.{node_is}
use Rattle.ch_laws_log.proofs.Stored.{number_is, number_same}
use Rattle.ch_laws_connections.specs.Tables.{open_in}
use Rattle.ch_laws_connections.specs.Senders.{once}
use Rattle.ch_laws_connections.specs.Arrivals.{made_at, made_so, after_told, IsOfArrived, MadeOnce}
use Rattle.ch_laws_connections.proofs.Keys.{with_key, link_key}
use Rattle.ch_laws_connections.proofs.GivenIn.{opened_once}
use Rattle.ch_laws_connections.proofs.MadeLinks.{Quiet, AllQuiet, Goes, AllGo, IsOf, at_rest, going, made_stored, stored_quiet, same, left, answered, heard}
use Rattle.ch_laws_connections.proofs.MadeLinks as links

-- the link that is found has what is created on it
pub of_found : (host : HostState) (end : ℕ) (peer : Address) → IsOf (link_with host end peer) host
of_found host end peer = let key = with_key host end peer in ap (λ (e : ℕ). made_at host e peer) (sym key.0) ∙ ap (λ (p : Address). made_at host (link_with host end peer).end p) (sym key.1)

-- What is created at an endpoint is as the steps tell, and still each once.
pub record Comes (end : ℕ) (before : HostState) (told : List Step) (after : HostState) : Type 0 where
  pub kept : MadeOnce before end → MadeOnce after end
  pub made : MadeOnce before end → (conn : ℕ) (peer : Address) → made_so after end conn peer ≡ after_told told end conn peer (made_so before end conn peer)

abbrev pub AllCome : ℕ → HostState → Stepped → Type 0
AllCome end host (Ok done) = Comes end host done.0 done.1
AllCome end host (Err stop) = Unit {0}

within : (a b : ℕ) → a ≤ b → b ≤ 1 → a ≤ 1
within a b l m = omega arith

more : (a b : ℕ) → 1 ≤ a → a ≤ b → 1 ≤ b
more a b l m = omega arith

-- where no more is created and the counts are the same
pub fewer_once : (end : ℕ) (before after : HostState) → ((conn : ℕ) (peer : Address) → made_so after end conn peer ≤ made_so before end conn peer) → arrived_at after end ≡ arrived_at before end → MadeOnce before end → MadeOnce after end
fewer_once end before after l e o = record {
  alone = λ c p. within (made_so after end c p) (made_so before end c p) (l c p) (o.alone c p);
  one_link = λ c p q x y. o.one_link c p q (more (made_so after end c p) (made_so before end c p) x (l c p)) (more (made_so after end c q) (made_so before end c q) y (l c q));
  drawn = λ c p x. subst (λ (n : ℕ). IsOfArrived n c) (sym e) (o.drawn c p (more (made_so after end c p) (made_so before end c p) x (l c p)));
}

goes_come : (end : ℕ) (host : HostState) (done : Stepped) → AllGo host done → AllCome end host done
goes_come end host (Ok done) g = record { kept = fewer_once end host done.1 (g.fewer end) (g.counts end); made = λ o c p. g.made end c p }
goes_come end host (Err stop) g = tt

quiet_come : (end : ℕ) (host : HostState) (done : Stepped) → AllQuiet host done → AllCome end host done
quiet_come end host done q = goes_come end host done (going host done q)

rests : (end : ℕ) (host : HostState) → AllCome end host (still host)
rests end host = quiet_come end host (still host) (at_rest host, λ e c p n. refl)

abbrev pub HasEnd : HostState → ℕ → Type 0
HasEnd host end = list_any (is_endpoint end) host.ends ≡ true

-- ---- endpoints

pub number_of_found : (n : ℕ) (ends : List Endpoint) (known : Endpoint) → find (is_endpoint n) ends ≡ Some known → known.number ≡ n
number_of_found n [] known e = absurd cc
number_of_found n (x ∷ rest) known e = by_test (is_endpoint n x) refl e (number_of_found n rest known) where
  by_test : (t : Bool) → is_endpoint n x ≡ t → cond t (Some x) (find (is_endpoint n) rest) ≡ Some known → (find (is_endpoint n) rest ≡ Some known → known.number ≡ n) → known.number ≡ n
  by_test true h e ih = let this : x ≡ known = cc in ap (λ (y : Endpoint). y.number) (sym this) ∙ number_is x.number n h
  by_test false h e ih = ih e

-- an endpoint that is stored in its place is found
found_again : (next : Endpoint) (ends : List Endpoint) (known : Endpoint) → find (is_endpoint next.number) ends ≡ Some known → find (is_endpoint next.number) (store_endpoint next ends) ≡ Some next
found_again next [] known e = absurd cc
found_again next (x ∷ rest) known e = by_test (is_endpoint next.number x) refl e (found_again next rest known) where
  by_test : (t : Bool) → is_endpoint next.number x ≡ t → cond t (Some x) (find (is_endpoint next.number) rest) ≡ Some known → (find (is_endpoint next.number) rest ≡ Some known → find (is_endpoint next.number) (store_endpoint next rest) ≡ Some next) → find (is_endpoint next.number) (cond t (next ∷ rest) (x ∷ store_endpoint next rest)) ≡ Some next
  by_test true h e ih = ap (λ b. cond b (Some next) (find (is_endpoint next.number) rest)) (number_same next.number)
  by_test false h e ih = ap (λ b. cond b (Some x) (find (is_endpoint next.number) (store_endpoint next rest))) h ∙ ih e

pub other_again : (next : Endpoint) (n : ℕ) (ends : List Endpoint) → (next.number == n) ≡ false → find (is_endpoint n) (store_endpoint next ends) ≡ find (is_endpoint n) ends
other_again next n [] h = refl
other_again next n (x ∷ rest) h = by_test (is_endpoint next.number x) refl (other_again next n rest h) where
  by_test : (t : Bool) → is_endpoint next.number x ≡ t → find (is_endpoint n) (store_endpoint next rest) ≡ find (is_endpoint n) rest → find (is_endpoint n) (cond t (next ∷ rest) (x ∷ store_endpoint next rest)) ≡ cond (is_endpoint n x) (Some x) (find (is_endpoint n) rest)
  by_test true g e = ap (λ b. cond b (Some next) (find (is_endpoint n) rest)) h ∙ sym (ap (λ b. cond b (Some x) (find (is_endpoint n) rest)) (ap (λ (m : ℕ). m == n) (number_is x.number next.number g) ∙ h))
  by_test false g e = ap (cond (is_endpoint n x) (Some x)) e

-- how many have arrived, where one endpoint's count grows
abbrev count_of : Option Endpoint → ℕ
count_of o = elim o [
  | None ↦ 0
  | Some endpoint ↦ endpoint.arrived
]

grown : (end n : ℕ) (host : HostState) → ((end == n) ≡ true → HasEnd host n) → arrived_at (with_arrival end host) n ≡ once (end == n) + arrived_at host n
grown end n host has = by_found (find (is_endpoint end) host.ends) refl where
  after : Option Endpoint → HostState
  after o = elim o [
    | None ↦ host
    | Some endpoint ↦ with_endpoint (record endpoint { arrived = endpoint.arrived + 1 }) host
  ]

  missing : (ends : List Endpoint) → find (is_endpoint end) ends ≡ None → list_any (is_endpoint end) ends ≡ true → ⊥
  missing [] e h = cc
  missing (x ∷ rest) e h = by_test (is_endpoint end x) e h (missing rest) where
    by_test : (b : Bool) → cond b (Some x) (find (is_endpoint end) rest) ≡ None → (b || list_any (is_endpoint end) rest) ≡ true → (find (is_endpoint end) rest ≡ None → list_any (is_endpoint end) rest ≡ true → ⊥) → ⊥
    by_test true e h ih = cc
    by_test false e h ih = ih e h

  none : (k : ℕ) → k ≡ 0 + k
  none k = omega arith

  one : (k : ℕ) → k + 1 ≡ 1 + k
  one k = omega arith

  by_found : (o : Option Endpoint) → find (is_endpoint end) host.ends ≡ o → arrived_at (after o) n ≡ once (end == n) + arrived_at host n
  by_found None e = by_number (end == n) refl where
    by_number : (b : Bool) → (end == n) ≡ b → arrived_at host n ≡ once b + arrived_at host n
    by_number true h = absurd (missing host.ends e (subst (λ (k : ℕ). HasEnd host k) (sym (number_is end n h)) (has h)))
    by_number false h = none (arrived_at host n)
  by_found (Some known) e = by_number (end == n) refl where
    next : Endpoint
    next = record known { arrived = known.arrived + 1 }

    is : known.number ≡ end
    is = number_of_found end host.ends known e

    by_number : (b : Bool) → (end == n) ≡ b → count_of (find (is_endpoint n) (store_endpoint next host.ends)) ≡ once b + arrived_at host n
    by_number true h = ap (λ (k : ℕ). count_of (find (is_endpoint k) (store_endpoint next host.ends))) (sym (is ∙ number_is end n h)) ∙ ap count_of (found_again next host.ends known (ap (λ (k : ℕ). find (is_endpoint k) host.ends) is ∙ e)) ∙ one known.arrived
        ∙ ap (λ k. 1 + k) (sym (ap (λ (k : ℕ). arrived_at host k) (sym (number_is end n h)) ∙ ap count_of e))
    by_number false h = ap count_of (other_again next n host.ends (ap (λ (k : ℕ). k == n) is ∙ h)) ∙ none (arrived_at host n)

arrival_made : (end : ℕ) (host : HostState) (e : ℕ) (p : Address) → made_at (with_arrival end host) e p ≡ made_at host e p
arrival_made end host e p = by_endpoint (find (is_endpoint end) host.ends) where
  by_endpoint : (o : Option Endpoint) → made_at (elim o as (λ o. HostState) [
    | None ↦ host
    | Some endpoint ↦ with_endpoint (record endpoint { arrived = endpoint.arrived + 1 }) host
  ]) e p ≡ made_at host e p
  by_endpoint None = refl
  by_endpoint (Some endpoint) = refl

-- ---- a connection that arrives, and one that is closed

created_is : (table created : List Connection) (id n : ℕ) → created_of table id n ≡ Ok created → created ≡ table ++ opened n ∷ []
unfolding created_of
created_is table created id n e = by_full (nat_le MOST_IDS (length table)) e where
  by_next : (b : Bool) → cond b (Ok (table ++ opened n ∷ [])) (Err lights.NotNext) ≡ Ok created → created ≡ table ++ opened n ∷ []
  by_next true e = cc
  by_next false e = absurd cc

  by_full : (b : Bool) → cond b (Err lights.Spent) (cond (id == FIRST_ID + length table) (Ok (table ++ opened n ∷ [])) (Err lights.NotNext)) ≡ Ok created → created ≡ table ++ opened n ∷ []
  by_full true e = absurd cc
  by_full false e = by_next (id == FIRST_ID + length table) e

-- the open connection at a place is open once less where it is closed
shut_once : (table : List Connection) (k n other : ℕ) → open_number (slice_get table k) ≡ Ok n → open_in (slice_set table k (shut n)) other + once (n == other) ≡ open_in table other
shut_once [] k n other e = absurd cc
shut_once (c ∷ rest) zero n other e = by_open c.is_open e where
  turned : (a b : ℕ) → (0 + a) + b ≡ b + a
  turned a b = omega arith

  by_open : (b : Bool) → cond b (Ok c.number) (Err lights.NotOpen) ≡ Ok n → (0 + open_in rest other) + once (n == other) ≡ once (b && (c.number == other)) + open_in rest other
  by_open true e = let same : c.number ≡ n = cc in turned (open_in rest other) (once (n == other)) ∙ ap (λ (m : ℕ). once (m == other) + open_in rest other) (sym same)
  by_open false e = absurd cc
shut_once (c ∷ rest) (suc k) n other e = onto (once (is_open_as other c)) (open_in (slice_set rest k (shut n)) other) (once (n == other)) (open_in rest other) (shut_once rest k n other e) where
  onto : (k a b n : ℕ) → a + b ≡ n → (k + a) + b ≡ k + n
  onto k a b n e = omega arith

closed_is : (table : List Connection) (id : ℕ) (done : ℕ × List Connection) → closed_of table id ≡ Ok done → (done.1 ≡ slice_set table (id - FIRST_ID) (shut done.0)) × (open_number (slice_get table (id - FIRST_ID)) ≡ Ok done.0)
unfolding closed_of conn_of
closed_is table id done e = by_low (nat_lt id FIRST_ID) e where
  by_number : (r : Result ℕ LightError) → closed_by table id r ≡ Ok done → (done.1 ≡ slice_set table (id - FIRST_ID) (shut done.0)) × (r ≡ Ok done.0)
  by_number (Ok n) e = let same : (n, slice_set table (id - FIRST_ID) (shut n)) ≡ done = cc in
      (ap (λ (d : ℕ × List Connection). d.1) (sym same) ∙ ap (λ (m : ℕ). slice_set table (id - FIRST_ID) (shut m)) (ap (λ (d : ℕ × List Connection). d.0) same), ap Ok (ap (λ (d : ℕ × List Connection). d.0) same))
  by_number (Err x) e = absurd cc

  by_low : (b : Bool) → closed_by table id (cond b (Err lights.NotOpen) (open_number (slice_get table (id - FIRST_ID)))) ≡ Ok done → (done.1 ≡ slice_set table (id - FIRST_ID) (shut done.0)) × (open_number (slice_get table (id - FIRST_ID)) ≡ Ok done.0)
  by_low true e = absurd cc
  by_low false e = by_number (open_number (slice_get table (id - FIRST_ID))) e

not_arrived : (n k c : ℕ) → c ≡ 2 * n + 1 → c ≡ 2 * k + 1 → k < n → ⊥
not_arrived n k c e f l = omega arith

nothing : (n : ℕ) → (1 ≤ n → ⊥) → n ≡ 0
nothing zero f = refl
nothing (suc n) f = absurd (f (one n)) where
  one : (n : ℕ) → 1 ≤ suc n
  one n = omega arith

-- what is created at an endpoint after a link is stored
link_there : (link : Link) (host : HostState) (end : ℕ) (p : Address) → IsOf link host → is_link end p link ≡ true → link.created ≡ made_at host end p
link_there link host end p i h = let key = link_key end p link h in i ∙ ap (λ (e : ℕ). made_at host e link.peer) key.0 ∙ ap (made_at host end) key.1

arrived_come : (end : ℕ) (link : Link) (created : List Connection) (host : HostState) → IsOf link host → created ≡ link.created ++ opened (next_arrival host link.end) ∷ [] → HasEnd host end
    → Comes end host (steps.Post link.end (events.ConnectionOpened (next_arrival host link.end) link.peer) ∷ []) (with_arrival link.end (with_link (record link { created = created }) host))
arrived_come end link created host i is has = record { kept = λ o. once_kept o; made = λ o c p. so c p } where
  n : ℕ
  n = next_arrival host link.end

  stored : HostState
  stored = with_link (record link { created = created }) host

  after : HostState
  after = with_arrival link.end stored

  so : (c : ℕ) (p : Address) → made_so after end c p ≡ once ((link.end == end) && ((n == c) && same_node link.peer p)) + made_so host end c p
  so c p = ap (λ (t : List Connection). open_in t c) (arrival_made link.end stored end p ∙ made_stored (record link { created = created }) host end p) ∙ by_tests (link.end == end) refl (same_node link.peer p) refl where
    none : (k : ℕ) → k ≡ 0 + k
    none k = omega arith

    at_link : (link.end == end) ≡ true → same_node link.peer p ≡ true → open_in created c ≡ once (n == c) + made_so host end c p
    at_link g h = ap (λ (t : List Connection). open_in t c) is ∙ opened_once link.created n c ∙ ap (λ (t : List Connection). once (n == c) + open_in t c) (link_there link host end p i (ap (λ b. b && same_node link.peer p) g ∙ h))

    and_true : (b : Bool) → (b && true) ≡ b
    and_true true = refl
    and_true false = refl

    and_false : (b : Bool) → (b && false) ≡ false
    and_false true = refl
    and_false false = refl

    by_tests : (a : Bool) → (link.end == end) ≡ a → (b : Bool) → same_node link.peer p ≡ b → open_in (cond (a && b) created (made_at host end p)) c ≡ once (a && ((n == c) && b)) + made_so host end c p
    by_tests true g true h = at_link g h ∙ ap (λ b. once b + made_so host end c p) (sym (and_true (n == c)))
    by_tests true g false h = none (made_so host end c p) ∙ ap (λ b. once b + made_so host end c p) (sym (and_false (n == c)))
    by_tests false g b h = none (made_so host end c p)

  count : arrived_at after end ≡ once (link.end == end) + arrived_at host end
  count = grown link.end end stored (λ h. has)

  once_kept : MadeOnce host end → MadeOnce after end
  once_kept o = by_end (link.end == end) refl where
    here : (link.end == end) ≡ true → (c : ℕ) (p : Address) → made_so after end c p ≡ once ((n == c) && same_node link.peer p) + made_so host end c p
    here g c p = so c p ∙ ap (λ b. once (b && ((n == c) && same_node link.peer p)) + made_so host end c p) g

    away : (link.end == end) ≡ false → (c : ℕ) (p : Address) → made_so after end c p ≤ made_so host end c p
    away g c p = equal (made_so after end c p) (made_so host end c p) (so c p ∙ ap (λ b. once (b && ((n == c) && same_node link.peer p)) + made_so host end c p) g) where
      equal : (a b : ℕ) → a ≡ 0 + b → a ≤ b
      equal a b e = omega arith

    n_is : (link.end == end) ≡ true → n ≡ 2 * arrived_at host end + 1
    n_is g = ap (λ (e : ℕ). 2 * arrived_at host e + 1) (number_is link.end end g)

    fresh : (link.end == end) ≡ true → (p : Address) → made_so host end n p ≡ 0
    fresh g p = nothing (made_so host end n p) (λ x. let i = o.drawn n p x in not_arrived (arrived_at host end) i.0 n (n_is g) i.2 i.1)

    one_at_most : (k : ℕ) → k ≡ 0 → 1 + k ≤ 1
    one_at_most k e = omega arith

    none_at_most : (k : ℕ) → k ≤ 1 → 0 + k ≤ 1
    none_at_most k l = omega arith

    less : (k : ℕ) → 1 ≤ 0 + k → 1 ≤ k
    less k l = omega arith

    new_alone : (link.end == end) ≡ true → (c : ℕ) (p : Address) (d b : Bool) → (n == c) ≡ d → once (d && b) + made_so host end c p ≤ 1
    new_alone g c p true true h = one_at_most (made_so host end c p) (ap (λ (k : ℕ). made_so host end k p) (sym (number_is n c h)) ∙ fresh g p)
    new_alone g c p true false h = none_at_most (made_so host end c p) (o.alone c p)
    new_alone g c p false b h = none_at_most (made_so host end c p) (o.alone c p)

    at_peer : (link.end == end) ≡ true → (c : ℕ) (p : Address) (b : Bool) → (n == c) ≡ true → same_node link.peer p ≡ b → 1 ≤ once b + made_so host end c p → link.peer ≡ p
    at_peer g c p true h e x = node_is link.peer p e
    at_peer g c p false h e x = absurd (never (made_so host end c p) (ap (λ (k : ℕ). made_so host end k p) (sym (number_is n c h)) ∙ fresh g p) x) where
      never : (k : ℕ) → k ≡ 0 → 1 ≤ 0 + k → ⊥
      never k e l = omega arith

    new_one : (link.end == end) ≡ true → (c : ℕ) (p q : Address) (d : Bool) → (n == c) ≡ d → 1 ≤ once (d && same_node link.peer p) + made_so host end c p → 1 ≤ once (d && same_node link.peer q) + made_so host end c q → p ≡ q
    new_one g c p q true h x y = sym (at_peer g c p (same_node link.peer p) h refl x) ∙ at_peer g c q (same_node link.peer q) h refl y
    new_one g c p q false h x y = o.one_link c p q (less (made_so host end c p) x) (less (made_so host end c q) y)

    later_count : (link.end == end) ≡ true → arrived_at after end ≡ 1 + arrived_at host end
    later_count g = count ∙ ap (λ b. once b + arrived_at host end) g

    new_drawn : (link.end == end) ≡ true → (c : ℕ) (p : Address) (d : Bool) → (n == c) ≡ d → 1 ≤ once (d && same_node link.peer p) + made_so host end c p → IsOfArrived (arrived_at after end) c
    new_drawn g c p true h x = (arrived_at host end, next (arrived_at host end) (arrived_at after end) (later_count g), sym (number_is n c h) ∙ n_is g) where
      next : (a b : ℕ) → b ≡ 1 + a → a < b
      next a b e = omega arith
    new_drawn g c p false h x = let i = o.drawn c p (less (made_so host end c p) x) in (i.0, next i.0 (arrived_at host end) (arrived_at after end) i.1 (later_count g), i.2) where
      next : (k a b : ℕ) → k < a → b ≡ 1 + a → k < b
      next k a b l e = omega arith

    same_count : (link.end == end) ≡ false → arrived_at after end ≡ arrived_at host end
    same_count g = equal (arrived_at after end) (arrived_at host end) (count ∙ ap (λ b. once b + arrived_at host end) g) where
      equal : (a b : ℕ) → a ≡ 0 + b → a ≡ b
      equal a b e = omega arith

    by_end : (b : Bool) → (link.end == end) ≡ b → MadeOnce after end
    by_end true g = record {
      alone = λ c p. subst (λ (k : ℕ). k ≤ 1) (sym (here g c p)) (new_alone g c p (n == c) (same_node link.peer p) refl);
      one_link = λ c p q x y. new_one g c p q (n == c) refl (subst (λ (k : ℕ). 1 ≤ k) (here g c p) x) (subst (λ (k : ℕ). 1 ≤ k) (here g c q) y);
      drawn = λ c p x. new_drawn g c p (n == c) refl (subst (λ (k : ℕ). 1 ≤ k) (here g c p) x);
    }
    by_end false g = fewer_once end host after (away g) (same_count g) o

closed_come : (end : ℕ) (link : Link) (k : ℕ) (done : ℕ × List Connection) (host : HostState) → IsOf link host → done.1 ≡ slice_set link.created k (shut done.0) → open_number (slice_get link.created k) ≡ Ok done.0
    → Comes end host (steps.Post link.end (events.ConnectionClosed done.0) ∷ []) (with_link (record link { created = done.1 }) host)
closed_come end link k done host i is there = record { kept = λ o. fewer_once end host after (λ c p. subst (λ (m : ℕ). m ≤ made_so host end c p) (sym (so o c p)) (below ((link.end == end) && (done.0 == c)) (made_so host end c p))) refl o; made = so } where
  after : HostState
  after = with_link (record link { created = done.1 }) host

  below : (b : Bool) (m : ℕ) → cond b 0 m ≤ m
  below true m = none m where
    none : (m : ℕ) → 0 ≤ m
    none m = omega arith
  below false m = same m where
    same : (m : ℕ) → m ≤ m
    same m = omega arith

  shut_in : (c : ℕ) → open_in done.1 c + once (done.0 == c) ≡ open_in link.created c
  shut_in c = ap (λ (t : List Connection). open_in t c + once (done.0 == c)) is ∙ shut_once link.created k done.0 c there

  gone : (a m : ℕ) → a + 1 ≡ m → m ≤ 1 → a ≡ 0
  gone a m e l = omega arith

  level : (a m : ℕ) → a + 0 ≡ m → a ≡ m
  level a m e = omega arith

  was : (a m : ℕ) → a + 1 ≡ m → 1 ≤ m
  was a m e = omega arith

  self_is : (link.end == end) ≡ true → is_link end link.peer link ≡ true
  self_is g = ap (λ b. b && same_node link.peer link.peer) g ∙ node_self link.peer

  so : MadeOnce host end → (c : ℕ) (p : Address) → made_so after end c p ≡ cond ((link.end == end) && (done.0 == c)) 0 (made_so host end c p)
  so o c p = ap (λ (t : List Connection). open_in t c) (made_stored (record link { created = done.1 }) host end p) ∙ by_tests (link.end == end) refl (same_node link.peer p) refl (done.0 == c) refl (shut_in c) where
    in_there : (link.end == end) ≡ true → same_node link.peer p ≡ true → link.created ≡ made_at host end p
    in_there g h = link_there link host end p i (ap (λ b. b && same_node link.peer p) g ∙ h)

    elsewhere : (link.end == end) ≡ true → same_node link.peer p ≡ false → (done.0 == c) ≡ true → open_in done.1 c + 1 ≡ open_in link.created c → made_so host end c p ≡ 0
    elsewhere g h d e = nothing (made_so host end c p) (λ x. clash (sym h ∙ ap (same_node link.peer) (sym (o.one_link c link.peer p (subst (λ (t : List Connection). 1 ≤ open_in t c) (link_there link host end link.peer i (self_is g)) (was (open_in done.1 c) (open_in link.created c) e)) x)) ∙ node_self link.peer)) where
      clash : false ≡ true → ⊥
      clash e = cc

    by_tests : (a : Bool) → (link.end == end) ≡ a → (b : Bool) → same_node link.peer p ≡ b → (d : Bool) → (done.0 == c) ≡ d → open_in done.1 c + once d ≡ open_in link.created c → open_in (cond (a && b) done.1 (made_at host end p)) c ≡ cond (a && d) 0 (made_so host end c p)
    by_tests true g true h true d e = gone (open_in done.1 c) (open_in link.created c) e (subst (λ (t : List Connection). open_in t c ≤ 1) (sym (in_there g h)) (o.alone c p))
    by_tests true g true h false d e = level (open_in done.1 c) (open_in link.created c) e ∙ ap (λ (t : List Connection). open_in t c) (in_there g h)
    by_tests true g false h true d e = elsewhere g h d e
    by_tests true g false h false d e = refl
    by_tests false g b h d f e = refl

-- ---- what a host makes of items

module _ (end : ℕ) where
  gone : (sock : ℕ) (link : Link) (host : HostState) → IsOf link host → AllCome end host (gone_from sock link host)
  gone sock link host i = by_test (names link.state sock) where
    by_test : (b : Bool) → AllCome end host (cond b (hears inputs.Gone link host) (leaves sock host))
    by_test true = goes_come end host (hears inputs.Gone link host) (heard inputs.Gone link host tt i)
    by_test false = quiet_come end host (leaves sock host) (left sock host)

  socket_gone : (socket : Socket) (host : HostState) → AllCome end host (is_gone socket host)
  socket_gone socket host = by_user socket.user where
    by_user : (user : Option (ℕ × Address)) → AllCome end host (elim user as (λ x. Stepped) [
      | None ↦ leaves socket.number host
      | Some user ↦ gone_from socket.number (link_with host user.0 user.1) host
    ])
    by_user None = quiet_come end host (leaves socket.number host) (left socket.number host)
    by_user (Some user) = gone socket.number (link_with host user.0 user.1) host (of_found host user.0 user.1)

  requested : (socket : Socket) (request : Request) (host : HostState) → AllCome end host (reads_request socket request host)
  requested socket request host = by_answer (refusal_of host socket request.target request.from) where
    asking : HostState
    asking = with_socket (record socket { user = Some (request.target, request.from) }) host

    by_answer : (answer : Option Answer) → AllCome end host (elim answer as (λ x. Stepped) [
      | Some answer ↦ answers_and_leaves socket.number answer host
      | None ↦ asks_link socket request.target request.from host
    ])
    by_answer (Some answer) = quiet_come end host (answers_and_leaves socket.number answer host) (answered socket.number answer host)
    by_answer None = goes_come end host (asks_link socket request.target request.from host) (links.from_quiet host asking (asks_link socket request.target request.from host) (same host asking refl refl) (heard (inputs.Asked socket.number) (link_with host request.target request.from) asking tt (of_found host request.target request.from)))

  arrived : (socket : Socket) (link : Link) (id : ℕ) (host : HostState) → IsOf link host → HasEnd host end → AllCome end host (arrives socket link (created_of link.created id (next_arrival host link.end)) host)
  arrived socket link id host i has = by_created (created_of link.created id (next_arrival host link.end)) refl where
    by_created : (r : Result (List Connection) LightError) → created_of link.created id (next_arrival host link.end) ≡ r → AllCome end host (arrives socket link r host)
    by_created (Err e) is = socket_gone socket host
    by_created (Ok created) is = by_test (nat_lt (arrived_at host link.end) most_arrived) where
      by_test : (b : Bool) → AllCome end host (cond b (posts link.end (events.ConnectionOpened (next_arrival host link.end) link.peer) (with_arrival link.end (with_link (record link { created = created }) host))) (Err stops.Worn))
      by_test true = arrived_come end link created host i (created_is link.created created id (next_arrival host link.end) is) has
      by_test false = tt

  closed : (socket : Socket) (link : Link) (id : ℕ) (host : HostState) → IsOf link host → AllCome end host (closes socket link (closed_of link.created id) host)
  closed socket link id host i = by_closed (closed_of link.created id) refl where
    by_closed : (r : Result (ℕ × List Connection) LightError) → closed_of link.created id ≡ r → AllCome end host (closes socket link r host)
    by_closed (Err e) is = socket_gone socket host
    by_closed (Ok done) is = let x = closed_is link.created id done is in closed_come end link (id - FIRST_ID) done host i x.0 x.1

  received : (socket : Socket) (link : Link) (payload : List ℕ) (conn : Result ℕ LightError) (host : HostState) → AllCome end host (receives socket link payload conn host)
  received socket link payload (Err e) host = socket_gone socket host
  received socket link payload (Ok conn) host = quiet_come end host (posts link.end (events.Received conn payload) host) (at_rest host, λ e c p n. refl)

  framed : (socket : Socket) (link : Link) (frame : Frame) (host : HostState) → IsOf link host → HasEnd host end → AllCome end host (reads_frame socket link frame host)
  framed socket link (frames.Created id) host i has = arrived socket link id host i has
  framed socket link (frames.Closed id) host i has = closed socket link id host i
  framed socket link (frames.Data id payload) host i has = received socket link payload (conn_of link.created id) host
  framed socket link frames.EndClosed host i has = goes_come end host (hears inputs.EndClosed link host) (heard inputs.EndClosed link host tt i)
  framed socket link frames.Probe host i has = goes_come end host (hears inputs.Probe link host) (heard inputs.Probe link host tt i)
  framed socket link frames.ProbeAck host i has = goes_come end host (hears inputs.Ack link host) (heard inputs.Ack link host tt i)

  read_on : (socket : Socket) (link : Link) (item : Item) (host : HostState) → IsOf link host → HasEnd host end → AllCome end host (reads_on socket link item host)
  read_on socket link (items.Request request) host i has = rests end host
  read_on socket link (items.Answer answer) host i has = goes_come end host (hears (inputs.Answered (heard_answer answer)) link host) (heard (inputs.Answered (heard_answer answer)) link host tt i)
  read_on socket link (items.Frame frame) host i has = framed socket link frame host i has

  read_other : (socket : Socket) (item : Item) (host : HostState) → HasEnd host end → AllCome end host (reads_other socket item host)
  read_other socket item host has = by_user socket.user where
    by_user : (user : Option (ℕ × Address)) → AllCome end host (elim user as (λ x. Stepped) [
      | None ↦ still host
      | Some user ↦ reads_on socket (link_with host user.0 user.1) item host
    ])
    by_user None = rests end host
    by_user (Some user) = read_on socket (link_with host user.0 user.1) item host (of_found host user.0 user.1) has

  read : (socket : Socket) (item : Item) (host : HostState) → HasEnd host end → AllCome end host (reads socket item host)
  read socket (items.Request request) host has = requested socket request host
  read socket (items.Answer answer) host has = read_other socket (items.Answer answer) host has
  read socket (items.Frame frame) host has = read_other socket (items.Frame frame) host has

  read_first : (now : Socket) (host : HostState) (r : Stepped) → AllCome end (with_socket now host) r → AllCome end host (after_steps (steps.Read now.number ∷ []) r)
  read_first now host (Ok r) c = record { kept = λ o. c.kept (before o); made = λ o. c.made (before o) } where
    before : MadeOnce host end → MadeOnce (with_socket now host) end
    before o = record { alone = o.alone; one_link = o.one_link; drawn = o.drawn }
  read_first now host (Err stop) c = tt

  handled : (socket : Socket) (front : Front × ℕ) (host : HostState) → HasEnd host end → AllCome end host (handles socket front host)
  handled socket front host has = by_front front.0 where
    now : Socket
    now = record socket { since = drop front.1 socket.since; expected = expected.Frame }

    by_front : (x : Front) → AllCome end host (elim x as (λ x. Stepped) [
      | Unfinished ↦ still host
      | Refused error ↦ is_gone socket host
      | Whole item ↦ takes now item host
    ])
    by_front Unfinished = rests end host
    by_front (Refused error) = socket_gone socket host
    by_front (Whole item) = read_first now host (reads now item (with_socket now host)) (read now item (with_socket now host) has)

  pub next_comes : (host after : HostState) (told : List Step) → HasEnd host end → host_next host ≡ Ok (Some told, after) → Comes end host told after
  unfolding host_next
  next_comes host after told has e = by_first (first_ready host.sockets) e where
    some_in : Result (Option (List Step) × HostState) Stop → Option (List Step)
    some_in (Ok next) = next.0
    some_in (Err stop) = None

    steps_in : Result (Option (List Step) × HostState) Stop → List Step
    steps_in (Ok next) = elim next.0 [
      | None ↦ []
      | Some steps ↦ steps
    ]
    steps_in (Err stop) = []

    host_in : Result (Option (List Step) × HostState) Stop → HostState
    host_in (Ok next) = next.1
    host_in (Err stop) = host

    by_done : (one : Stepped) → AllCome end host one → some_steps one ≡ Ok (Some told, after) → Comes end host told after
    by_done (Ok one) f e =
        let same_host : one.1 ≡ after = ap host_in e in
        let same_steps : one.0 ≡ told = ap steps_in e in
        subst (λ (h : HostState). Comes end host told h) same_host (subst (λ (l : List Step). Comes end host l one.1) same_steps f)
    by_done (Err stop) f e = absurd cc

    by_first : (o : Option Socket) → (elim o as (λ o. Result (Option (List Step) × HostState) Stop) [
      | None ↦ Ok (None, host)
      | Some socket ↦ some_steps (handles socket (front_of socket) host)
    ]) ≡ Ok (Some told, after) → Comes end host told after
    by_first None e = let never : None ≡ Some told = ap some_in e in absurd cc
    by_first (Some socket) e = by_done (handles socket (front_of socket) host) (handled socket (front_of socket) host has) e

  on_one : (test : Stage → Bool) (sock : ℕ) (f : Socket → HostState → Stepped) (host : HostState) → ((socket : Socket) → AllCome end host (f socket host)) → AllCome end host (on_socket test sock f host)
  on_one test sock f host each = by_socket (find (is_socket sock) host.sockets) where
    by_test : (socket : Socket) (b : Bool) → AllCome end host (cond b (f socket host) (still host))
    by_test socket true = each socket
    by_test socket false = rests end host

    by_socket : (o : Option Socket) → AllCome end host (elim o as (λ x. Stepped) [
      | None ↦ still host
      | Some socket ↦ cond (test socket.stage) (f socket host) (still host)
    ])
    by_socket None = rests end host
    by_socket (Some socket) = by_test socket (test socket.stage)

  joined : (socket : Socket) (host : HostState) → AllCome end host (joins socket host)
  joined socket host = by_user socket.user where
    by_user : (user : Option (ℕ × Address)) → AllCome end host (elim user as (λ x. Stepped) [
      | None ↦ still host
      | Some user ↦ writes socket.number (request_spelling (record { target = user.1.id; from = own_address host user.0 })) (with_socket (record socket { stage = Open }) host)
    ])
    by_user None = rests end host
    by_user (Some user) = quiet_come end host (writes socket.number (request_spelling (record { target = user.1.id; from = own_address host user.0 })) (with_socket (record socket { stage = Open }) host)) (same host (with_socket (record socket { stage = Open }) host) refl refl, λ e c p n. refl)

  pub event_comes : (host : HostState) (event : SocketEvent) → AllCome end host (host_on host event)
  unfolding host_on
  event_comes host (sockets.Joined sock) = on_one is_pending sock joins host (λ socket. joined socket host)
  event_comes host (sockets.Came sock peer_host) = quiet_come end host (still (with_socket (accepted sock peer_host) host)) (same host (with_socket (accepted sock peer_host) host) refl refl, λ e c p n. refl)
  event_comes host (sockets.Refused sock) = on_one is_pending sock is_gone host (λ socket. socket_gone socket host)
  event_comes host (sockets.Fed sock bytes) = on_one is_open sock (keeps bytes) host (λ socket. quiet_come end host (keeps bytes socket host) (same host (with_socket (record socket { since = socket.since ++ bytes }) host) refl refl, λ e c p n. refl))
  event_comes host (sockets.Ended sock) = on_one is_open sock is_gone host (λ socket. socket_gone socket host)
  event_comes host (sockets.Lost sock) = on_one is_open sock is_gone host (λ socket. socket_gone socket host)
  event_comes host (sockets.Late at peer) = by_test (host_timer_runs host at peer) where
    by_test : (b : Bool) → AllCome end host (cond b (hears inputs.Late (link_with host at peer) host) (still host))
    by_test true = goes_come end host (hears inputs.Late (link_with host at peer) host) (heard inputs.Late (link_with host at peer) host tt (of_found host at peer))
    by_test false = rests end host
