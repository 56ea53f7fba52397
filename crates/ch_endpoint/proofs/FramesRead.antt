-- What follows where a frame was read, by what its id stands for.
use Rattle.std.proofs.Common.{◌≡◌, ℕ, ◌+◌, ◌*◌, Bool, true, false, not, cond, ◌&&◌, ◌==◌, nat_le, nat_lt, List, [], ◌∷◌, ◌++◌, length, Some, None, Result, Ok, Err, refl, ap, sym, ◌∙◌}
use Rattle.ch_base.specs.declared.address.Address.{Address}
use Rattle.ch_base.specs.declared.event.Event.TheVariants as events
use Rattle.ch_base.specs.declared.memory.Stop.TheVariants.{Worn}
use Rattle.ch_wire.specs.declared.frame.Frame.TheVariants as frames
use Rattle.ch_light.specs.declared.TheConstants.{FIRST_ID, MOST_IDS}
use Rattle.ch_light.specs.declared.error.LightError.{LightError}
use Rattle.ch_light.specs.declared.error.LightError.TheVariants.{Spent, NotNext}
use Rattle.ch_light.specs.Ids.{opened, created_of, conn_of, closed_of, closed_by}
use Rattle.ch_model.specs.declared.step.Step.TheVariants as steps
use Rattle.ch_model.specs.HostState.{Link, Socket, HostState}
use Rattle.ch_model.specs.HostSteps.{link_with, with_link, Stepped}
use Rattle.ch_model.specs.HostItems.{most_arrived, is_gone, arrived_at, next_arrival, with_arrival, arrives, closes, receives, reads_frame}
use Rattle.ch_endpoint.specs.Waits.{closed_among}
use Rattle.ch_endpoint.specs.Arrivals.{may_create, creating, closing_id, number_of, next_number, arrives_as, departs_as}
use Rattle.ch_endpoint.proofs.Tables.{key_with}
use Rattle.ch_endpoint.proofs.Arriving.{created_so}

-- ---- a connection that is opened

-- an id that may not be created is a bad item
pub created_bad : (socket : Socket) (link : Link) (id : ℕ) (host : HostState) → may_create id link.created ≡ false → reads_frame socket link (frames.Created id) host ≡ is_gone socket host
unfolding created_of
created_bad socket link id host may = by_tests (nat_le MOST_IDS (length link.created)) (id == FIRST_ID + length link.created) may
  where
    by_tests : (a b : Bool) → (not a && b) ≡ false → arrives socket link (cond a (Err Spent) (cond b (Ok (link.created ++ opened (next_arrival host link.end) ∷ [])) (Err NotNext))) host ≡ is_gone socket host
    by_tests true b m = refl
    by_tests false false m = refl
    by_tests false true m = absurd cc

created_if : (socket : Socket) (link : Link) (id : ℕ) (host : HostState) → may_create id link.created ≡ true → reads_frame socket link (frames.Created id) host ≡ arrives socket link (Ok (link.created ++ opened (next_arrival host link.end) ∷ [])) host
created_if socket link id host may = ap (λ r. arrives socket link r host) (created_so id (next_arrival host link.end) link.created may)

-- a connection that can't be numbered stops
pub created_worn : (socket : Socket) (end : ℕ) (peer : Address) (id : ℕ) (host : HostState) → may_create id (link_with host end peer).created ≡ true → next_number (arrived_at host end) ≡ None → reads_frame socket (link_with host end peer) (frames.Created id) host ≡ Err Worn
created_worn socket end peer id host may none =
    let link : Link = link_with host end peer in
    let key = key_with end peer host.links in
    created_if socket link id host may ∙ by_test (nat_lt (arrived_at host link.end) most_arrived) (ap (λ n. next_number (arrived_at host n)) key.0 ∙ none)
  where
    by_test : (b : Bool) → cond b (Some (2 * arrived_at host (link_with host end peer).end + 1)) None ≡ None → (let link = link_with host end peer in Path Stepped (cond b (Ok (steps.Post link.end (events.ConnectionOpened (next_arrival host link.end) link.peer) ∷ [], with_arrival link.end (with_link (record link { created = link.created ++ opened (next_arrival host link.end) ∷ [] }) host))) (Err Worn)) (Err Worn))
    by_test true e = absurd cc
    by_test false e = refl

-- a connection that arrives
pub created_good : (socket : Socket) (end : ℕ) (peer : Address) (id conn : ℕ) (host : HostState) → may_create id (link_with host end peer).created ≡ true → next_number (arrived_at host end) ≡ Some conn → reads_frame socket (link_with host end peer) (frames.Created id) host ≡ arrives_as conn (link_with host end peer) host
created_good socket end peer id conn host may some =
    let link : Link = link_with host end peer in
    let key = key_with end peer host.links in
    created_if socket link id host may ∙ by_test (nat_lt (arrived_at host link.end) most_arrived) (ap (λ n. next_number (arrived_at host n)) key.0 ∙ some)
  where
    as_number : ℕ → Stepped
    as_number n = let link = link_with host end peer in Ok (steps.Post link.end (events.ConnectionOpened n link.peer) ∷ [], with_arrival link.end (with_link (record link { created = link.created ++ opened n ∷ [] }) host))

    by_test : (b : Bool) → cond b (Some (2 * arrived_at host (link_with host end peer).end + 1)) None ≡ Some conn → Path Stepped (cond b (as_number (next_arrival host (link_with host end peer).end)) (Err Worn)) (as_number conn)
    by_test true e = let same : 2 * arrived_at host (link_with host end peer).end + 1 ≡ conn = cc in ap as_number same
    by_test false e = absurd cc

pub arrives_done : (end : ℕ) (peer told : Address) (conn : ℕ) (host between after : HostState) → told ≡ peer → between ≡ with_link (creating conn (link_with host end peer)) host → after ≡ with_arrival end between → arrives_as conn (link_with host end peer) host ≡ Ok (steps.Post end (events.ConnectionOpened conn told) ∷ [], after)
arrives_done end peer told conn host between after same b a =
    let link : Link = link_with host end peer in
    let key = key_with end peer host.links in
    let now : with_arrival end (with_link (creating conn link) host) ≡ after = ap (with_arrival end) (sym b) ∙ sym a in
    (λ i. Ok (steps.Post (key.0 i) (events.ConnectionOpened conn (key.1 i)) ∷ [], with_arrival (key.0 i) (with_link (creating conn link) host)))
    ∙ (λ i. Ok (steps.Post end (events.ConnectionOpened conn (sym same i)) ∷ [], now i))

-- ---- a connection that is closed

pub closed_bad : (socket : Socket) (link : Link) (id : ℕ) (host : HostState) → number_of (conn_of link.created id) ≡ None → reads_frame socket link (frames.Closed id) host ≡ is_gone socket host
unfolding closed_of
closed_bad socket link id host none = by_case (conn_of link.created id) none
  where
    by_case : (r : Result ℕ LightError) → number_of r ≡ None → closes socket link (closed_by link.created id r) host ≡ is_gone socket host
    by_case (Ok n) e = absurd cc
    by_case (Err x) e = refl

pub closed_good : (socket : Socket) (link : Link) (id conn : ℕ) (host : HostState) → number_of (conn_of link.created id) ≡ Some conn → reads_frame socket link (frames.Closed id) host ≡ departs_as id conn link host
unfolding closed_of
closed_good socket link id conn host some = by_case (conn_of link.created id) some
  where
    by_case : (r : Result ℕ LightError) → number_of r ≡ Some conn → Path Stepped (closes socket link (closed_by link.created id r) host) (Ok (steps.Post link.end (events.ConnectionClosed conn) ∷ [], with_link (record link { created = closed_among (closed_by link.created id r) link.created }) host))
    by_case (Ok n) e = let same : n ≡ conn = cc in (λ i. Ok (steps.Post link.end (events.ConnectionClosed (same i)) ∷ [], with_link (record link { created = closed_among (closed_by link.created id (Ok n)) link.created }) host))
    by_case (Err x) e = absurd cc

pub departs_done : (end : ℕ) (peer : Address) (id conn : ℕ) (host after : HostState) → after ≡ with_link (closing_id id (link_with host end peer)) host → departs_as id conn (link_with host end peer) host ≡ Ok (steps.Post end (events.ConnectionClosed conn) ∷ [], after)
departs_done end peer id conn host after a =
    let key = key_with end peer host.links in
    (λ i. Ok (steps.Post (key.0 i) (events.ConnectionClosed conn) ∷ [], sym a i))

-- ---- a payload

pub data_bad : (socket : Socket) (link : Link) (id : ℕ) (payload : List ℕ) (host : HostState) → number_of (conn_of link.created id) ≡ None → reads_frame socket link (frames.Data id payload) host ≡ is_gone socket host
data_bad socket link id payload host none = by_case (conn_of link.created id) none
  where
    by_case : (r : Result ℕ LightError) → number_of r ≡ None → receives socket link payload r host ≡ is_gone socket host
    by_case (Ok n) e = absurd cc
    by_case (Err x) e = refl

pub data_good : (socket : Socket) (end : ℕ) (peer : Address) (id conn : ℕ) (payload : List ℕ) (host : HostState) → number_of (conn_of (link_with host end peer).created id) ≡ Some conn → reads_frame socket (link_with host end peer) (frames.Data id payload) host ≡ Ok (steps.Post end (events.Received conn payload) ∷ [], host)
data_good socket end peer id conn payload host some = by_case (conn_of (link_with host end peer).created id) some
  where
    by_case : (r : Result ℕ LightError) → number_of r ≡ Some conn → Path Stepped (receives socket (link_with host end peer) payload r host) (Ok (steps.Post end (events.Received conn payload) ∷ [], host))
    by_case (Ok n) e =
        let same : n ≡ conn = cc in
        let key = key_with end peer host.links in
        (λ i. Ok (steps.Post (key.0 i) (events.Received (same i) payload) ∷ [], host))
    by_case (Err x) e = absurd cc
