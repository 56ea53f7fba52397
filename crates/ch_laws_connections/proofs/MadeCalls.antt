-- What a node's acts ask of its host leaves what is created as it was; and so does the end of another endpoint.
use Rattle.std.proofs.Common.{◌≡◌, ℕ, Bool, true, false, cond, ◌&&◌, List, [], ◌∷◌, ◌++◌, Ok, Err, refl, sym, ap, ◌∙◌, subst}
use Rattle.std.specs.Prelude.{find, ◌==◌, Option, Some, None, Result}
use Rattle.ch_base.specs.declared.address.Address.{Address}
use Rattle.ch_base.specs.declared.event.Event.TheVariants as events
use Rattle.ch_wire.specs.declared.frame.Frame.{Frame}
use Rattle.ch_wire.specs.declared.frame.Frame.TheVariants as frames
use Rattle.ch_light.specs.Ids.{id_of, give_of, close_of}
use Rattle.ch_link.specs.Table.{step_of}
use Rattle.ch_link.specs.declared.LinkAct.{LinkAct}
use Rattle.ch_link.specs.declared.LinkAct.TheVariants as link_acts
use Rattle.ch_link.specs.declared.LinkIn.TheVariants as inputs
use Rattle.ch_link.specs.declared.LinkState.{LinkState}
use Rattle.ch_link.specs.declared.LinkState.TheVariants as states
use Rattle.ch_watch.specs.Same.{same_node}
use Rattle.ch_model.specs.declared.act.Act.{Act}
use Rattle.ch_model.specs.declared.act.Act.TheVariants as acts
use Rattle.ch_model.specs.declared.step.EndError.{EndError}
use Rattle.ch_model.specs.declared.step.EndError.TheVariants as errors
use Rattle.ch_model.specs.declared.step.Step.{Step}
use Rattle.ch_model.specs.declared.step.Weight.{Weight}
use Rattle.ch_model.specs.declared.step.Weight.TheVariants.{Free}
use Rattle.ch_model.specs.Greater.{is_greater}
use Rattle.ch_model.specs.CellSteps.{Followed, asked, act_on}
use Rattle.ch_model.specs.HostCalls.{◌>>=◌, stepped, of_ids, open_endpoint, wants, puts_and_wants, host_connect, carries, found_or, short_enough, has_room, host_send, host_close, shuts_links, closes_endpoint, host_close_endpoint}
use Rattle.ch_model.specs.HostItems.{posts, arrived_at}
use Rattle.ch_model.specs.HostLinks.{next_dial, says_closed, does_act, hears}
use Rattle.ch_model.specs.HostState.{Endpoint, Link, HostState}
use Rattle.ch_model.specs.HostSteps.{Stepped, still, after_steps, ◌then◌, is_endpoint, own_address, link_with, with_link}
use Rattle.ch_model.specs.HostWrites.{puts, frame_step, leaves_off, forgotten}
use Rattle.ch_model.specs.WorldState.{Cell}
use Rattle.ch_laws_connections.specs.Tables.{LinksApart}
use Rattle.ch_laws_connections.specs.Arrivals.{made_at, after_told}
use Rattle.ch_laws_connections.proofs.HostCalls.{carried}
use Rattle.ch_laws_connections.proofs.Keys.{with_key}
use Rattle.ch_laws_connections.proofs.MadeLinks.{Quiet, AllQuiet, IsOf, at_rest, onward, stored_quiet, made_stored, wanted, closed_said, left_off}
use Rattle.ch_laws_connections.proofs.MadeLinks as links
use Rattle.ch_laws_connections.proofs.MadeItems.{of_found, number_of_found, other_again}

put_quiet : (item : Frame × Weight) (link : Link) (host : HostState) → IsOf link host → AllQuiet host (puts item link host)
put_quiet item link host i = by_state link.state where
  by_state : (state : LinkState) → AllQuiet host (elim state as (λ x. Stepped) [
    | states.Up sock probed ↦ Ok (frame_step sock item ∷ [], with_link link host)
    | _ ↦ Ok ([], with_link (record link { waits = link.waits ++ item ∷ [] }) host)
  ])
  by_state (states.Up sock probed) = (stored_quiet link host i, λ e c p n. refl)
  by_state (states.Dialing sock) = (stored_quiet (record link { waits = link.waits ++ item ∷ [] }) host i, λ e c p n. refl)
  by_state states.Idle = (stored_quiet (record link { waits = link.waits ++ item ∷ [] }) host i, λ e c p n. refl)
  by_state states.AwaitOther = (stored_quiet (record link { waits = link.waits ++ item ∷ [] }) host i, λ e c p n. refl)

put_wanted : (item : Frame × Weight) (link : Link) (host : HostState) → IsOf link host → AllQuiet host (puts_and_wants item link host)
put_wanted item link host i = links.chained host (puts item link host) (wants link.end link.peer) (put_quiet item link host i) (λ next q. wanted (next_dial next) (link_with next link.end link.peer) next (of_found next link.end link.peer))

abbrev AskQuiet : HostState → Result (List Step × HostState) EndError → Type 0
AskQuiet host (Ok done) = Quiet host done.1
AskQuiet host (Err e) = Unit {0}

bound : {A : Type 0} (host : HostState) (given : Result A EndError) (f : A → Result (List Step × HostState) EndError) → ((x : A) → AskQuiet host (f x)) → AskQuiet host (given >>= f)
bound host (Ok x) f k = k x
bound host (Err e) f k = tt

quiet_so : (host : HostState) (done : Stepped) → AllQuiet host done → AskQuiet host (stepped done)
quiet_so host (Ok done) q = q.0
quiet_so host (Err stop) q = tt

connected : (host : HostState) (end : ℕ) (peer : Address) (conn : ℕ) → AskQuiet host (host_connect host end peer conn)
unfolding host_connect
connected host end peer conn = bound host (open_endpoint host end) _ (λ standing. bound host (of_ids (give_of (link_with host end peer).given conn)) _ (λ given. quiet_so host _ (put_wanted (frames.Created given.0, Free) (record (link_with host end peer) { given = given.1 }) host (of_found host end peer))))

of_carried : (host : HostState) (end conn : ℕ) (link : Link) → LinksApart host.links → find (carries end conn) host.links ≡ Some link → IsOf link host
of_carried host end conn link a e = ap (λ (l : Link). l.created) (sym (carried host end conn link a e).is_there)

sent : (host : HostState) (end conn : ℕ) (payload : List ℕ) (weight : Weight) → LinksApart host.links → AskQuiet host (host_send host end conn payload weight)
unfolding host_send
sent host end conn payload weight a = by_found (find (carries end conn) host.links) refl where
  by_found : (o : Option Link) → find (carries end conn) host.links ≡ o → AskQuiet host (found_or o >>= (λ link. short_enough payload >>= (λ short. has_room link weight >>= (λ roomy. found_or (id_of link.given conn) >>= (λ id. stepped (puts_and_wants (frames.Data id short, weight) link host))))))
  by_found None e = tt
  by_found (Some link) e = bound host (short_enough payload) _ (λ short. bound host (has_room link weight) _ (λ roomy. bound host (found_or (id_of link.given conn)) _ (λ id. quiet_so host _ (put_wanted (frames.Data id short, weight) link host (of_carried host end conn link a e)))))

closed_conn : (host : HostState) (end conn : ℕ) → LinksApart host.links → AskQuiet host (host_close host end conn)
unfolding host_close
closed_conn host end conn a = by_found (find (carries end conn) host.links) refl where
  by_found : (o : Option Link) → find (carries end conn) host.links ≡ o → AskQuiet host (found_or o >>= (λ link. of_ids (close_of link.given conn) >>= (λ closed. stepped (puts (frames.Closed closed.0, Free) (record link { given = closed.1 }) host))))
  by_found None e = tt
  by_found (Some link) e = bound host (of_ids (close_of link.given conn)) _ (λ closed. quiet_so host _ (put_quiet (frames.Closed closed.0, Free) (record link { given = closed.1 }) host (of_carried host end conn link a e)))

-- ---- acts

abbrev pub ActQuiet : Cell → Followed → Type 0
ActQuiet before (Ok done) = Quiet before.host done.1.host
ActQuiet before (Err stop) = Unit {0}

asked_quiet : (cell : Cell) (r : Result (List Step × HostState) EndError) → AskQuiet cell.host r → ActQuiet cell (asked cell r)
asked_quiet cell (Ok done) q = q
asked_quiet cell (Err errors.Worn) q = tt
asked_quiet cell (Err errors.OutOfMemory) q = tt
asked_quiet cell (Err errors.NoEndPoint) q = at_rest cell.host
asked_quiet cell (Err errors.NoConnection) q = at_rest cell.host
asked_quiet cell (Err errors.QueueFull) q = at_rest cell.host
asked_quiet cell (Err errors.PayloadLong) q = at_rest cell.host
asked_quiet cell (Err errors.Spent) q = at_rest cell.host

pub act_quiet : (end : ℕ) (act : Act) (cell : Cell) → LinksApart cell.host.links → ActQuiet cell (act_on end act cell)
act_quiet end (acts.Note note) cell a = at_rest cell.host
act_quiet end (acts.Open conn peer) cell a = asked_quiet cell (host_connect cell.host end peer conn) (connected cell.host end peer conn)
act_quiet end (acts.Put conn payload weight) cell a = asked_quiet cell (host_send cell.host end conn payload weight) (sent cell.host end conn payload weight a)
act_quiet end (acts.Close conn) cell a = asked_quiet cell (host_close cell.host end conn) (closed_conn cell.host end conn a)

-- ---- the end of another endpoint

pub record OthersSame (end : ℕ) (before after : HostState) : Type 0 where
  pub made : (e : ℕ) (p : Address) → (end == e) ≡ false → made_at after e p ≡ made_at before e p
  pub counts : (e : ℕ) → (end == e) ≡ false → arrived_at after e ≡ arrived_at before e

abbrev pub AllOthers : {E : Type 0} → ℕ → HostState → Result (List Step × HostState) E → Type 0
AllOthers end host (Ok done) = OthersSame end host done.1
AllOthers end host (Err e) = Unit {0}

others_quiet : (end : ℕ) (one two three : HostState) → Quiet one two → OthersSame end two three → OthersSame end one three
others_quiet end one two three q o = record { made = λ e p h. o.made e p h ∙ q.made e p; counts = λ e h. o.counts e h ∙ q.counts e }

others_on : (end : ℕ) (one two three : HostState) → OthersSame end one two → OthersSame end two three → OthersSame end one three
others_on end one two three a b = record { made = λ e p h. b.made e p h ∙ a.made e p h; counts = λ e h. b.counts e h ∙ a.counts e h }

others_then : (end : ℕ) (host : HostState) (done : Stepped) (f : HostState → Stepped) → AllOthers end host done → ((next : HostState) → AllOthers end next (f next)) → AllOthers end host (done then f)
others_then end host (Ok done) f a g = from (f done.1) (g done.1) where
  from : (more : Stepped) → AllOthers end done.1 more → AllOthers end host (after_steps done.0 more)
  from (Ok more) b = others_on end host done.1 more.1 a b
  from (Err stop) b = tt
others_then end host (Err stop) f a g = tt

closes_so : (state : LinkState) (greater : Bool) → (step_of state inputs.Shut greater).1 ≡ link_acts.Close
unfolding step_of
closes_so states.Idle greater = refl
closes_so state greater = refl

shut_one : (end : ℕ) (peer : Address) (host : HostState) → AllOthers end host (hears inputs.Shut (link_with host end peer) host)
shut_one end peer host = by_told (step_of link.state inputs.Shut (is_greater (own_address host link.end) link.peer)) (closes_so link.state (is_greater (own_address host link.end) link.peer)) where
  link : Link
  link = link_with host end peer

  forgets : (state : LinkState) (next : HostState) → OthersSame end next (with_link (forgotten (record link { state = state }) state) next)
  forgets state next = record { made = λ e p h. made_stored (forgotten (record link { state = state }) state) next e p ∙ ap (λ b. cond b [] (made_at next e p)) (ap (λ (n : ℕ). (n == e) && same_node link.peer p) (with_key host end peer).0 ∙ ap (λ b. b && same_node link.peer p) h); counts = λ e h. refl }

  quiet_first : (now : HostState) (done : Stepped) (f : HostState → Stepped) → Quiet host now → AllQuiet now done → ((next : HostState) → AllOthers end next (f next)) → AllOthers end host (done then f)
  quiet_first now (Ok done) f a q g = from (f done.1) (g done.1) where
    from : (more : Stepped) → AllOthers end done.1 more → AllOthers end host (after_steps done.0 more)
    from (Ok more) b = others_quiet end host done.1 more.1 (onward host now done.1 a q.0) b
    from (Err stop) b = tt
  quiet_first now (Err stop) f a q g = tt

  by_told : (told : LinkState × LinkAct) → told.1 ≡ link_acts.Close → AllOthers end host (does_act told.1 link.state inputs.Shut (record link { state = told.0 }) (with_link (record link { state = told.0 }) host))
  by_told told e = subst (λ (a : LinkAct). AllOthers end host (does_act a link.state inputs.Shut (record link { state = told.0 }) (with_link (record link { state = told.0 }) host))) (sym e)
      (quiet_first (with_link (record link { state = told.0 }) host) (says_closed link.state (with_link (record link { state = told.0 }) host) then leaves_off link.state) (λ left. still (with_link (forgotten (record link { state = told.0 }) told.0) left)) (stored_quiet (record link { state = told.0 }) host (of_found host end peer))
      (links.chained (with_link (record link { state = told.0 }) host) (says_closed link.state (with_link (record link { state = told.0 }) host)) (leaves_off link.state) (closed_said link.state (with_link (record link { state = told.0 }) host)) (λ next q. left_off link.state next)) (λ next. forgets told.0 next))

shut_all : (end : ℕ) (all : List Link) (host : HostState) → AllOthers end host (shuts_links end all host)
shut_all end [] host = record { made = λ e p h. refl; counts = λ e h. refl }
shut_all end (link ∷ rest) host = by_test (link.end == end) (shut_all end rest) where
  by_test : (b : Bool) → ((next : HostState) → AllOthers end next (shuts_links end rest next)) → AllOthers end host (cond b (hears inputs.Shut (link_with host end link.peer) host) (still host) then shuts_links end rest)
  by_test true k = others_then end host (hears inputs.Shut (link_with host end link.peer) host) (shuts_links end rest) (shut_one end link.peer host) k
  by_test false k = others_then end host (still host) (shuts_links end rest) (record { made = λ e p h. refl; counts = λ e h. refl }) k

pub closed_others : (host : HostState) (end : ℕ) → AllOthers end host (host_close_endpoint host end)
unfolding host_close_endpoint
closed_others host end = by_open (open_endpoint host end) where
  told : HostState → Stepped
  told shut = posts end events.EndPointClosed (closes_endpoint (find (is_endpoint end) shut.ends) shut)

  ended : (next : HostState) → AllOthers end next (told next)
  ended next = by_found (find (is_endpoint end) next.ends) refl where
    by_found : (o : Option Endpoint) → find (is_endpoint end) next.ends ≡ o → OthersSame end next (closes_endpoint o next)
    by_found None e = record { made = λ e p h. refl; counts = λ e h. refl }
    by_found (Some known) e = record { made = λ n p h. refl; counts = λ n h. ap count_of (other_again (record known { is_open = false }) n next.ends (ap (λ (k : ℕ). k == n) (number_of_found end next.ends known e) ∙ h)) } where
      count_of : Option Endpoint → ℕ
      count_of o = elim o [
        | None ↦ 0
        | Some endpoint ↦ endpoint.arrived
      ]

  as_asked : (r : Stepped) → AllOthers end host r → AllOthers end host (stepped r)
  as_asked (Ok done) o = o
  as_asked (Err stop) o = tt

  by_open : (r : Result ℕ EndError) → AllOthers end host (r >>= (λ standing. stepped (shuts_links end host.links host then told)))
  by_open (Ok x) = as_asked (shuts_links end host.links host then told) (others_then end host (shuts_links end host.links host) told (shut_all end host.links host) ended)
  by_open (Err e) = tt

-- ---- the steps by which an endpoint is closed tell of no connection

abbrev pub ShutSteps : {E : Type 0} → ℕ → HostState → Result (List Step × HostState) E → Type 0
ShutSteps end host (Ok done) = (e c : ℕ) (p : Address) (n : ℕ) → after_told done.0 e c p n ≡ n
ShutSteps end host (Err e) = Unit {0}

steps_then : (end : ℕ) (host : HostState) (done : Stepped) (f : HostState → Stepped) → ShutSteps end host done → ((next : HostState) → ShutSteps end next (f next)) → ShutSteps end host (done then f)
steps_then end host (Ok done) f a g = from (f done.1) (g done.1) where
  from : (more : Stepped) → ShutSteps end done.1 more → ShutSteps end host (after_steps done.0 more)
  from (Ok more) b = links.none_both done.0 more.0 a b
  from (Err stop) b = tt
steps_then end host (Err stop) f a g = tt

steps_of_quiet : (end : ℕ) (host now : HostState) (done : Stepped) → AllQuiet now done → ShutSteps end host done
steps_of_quiet end host now (Ok done) q = q.1
steps_of_quiet end host now (Err stop) q = tt

one_steps : (end : ℕ) (link : Link) (host : HostState) → ShutSteps end host (hears inputs.Shut link host)
one_steps end link host = by_told (step_of link.state inputs.Shut (is_greater (own_address host link.end) link.peer)) (closes_so link.state (is_greater (own_address host link.end) link.peer)) where
  by_told : (told : LinkState × LinkAct) → told.1 ≡ link_acts.Close → ShutSteps end host (does_act told.1 link.state inputs.Shut (record link { state = told.0 }) (with_link (record link { state = told.0 }) host))
  by_told told e = let now : HostState = with_link (record link { state = told.0 }) host in
      subst (λ (a : LinkAct). ShutSteps end host (does_act a link.state inputs.Shut (record link { state = told.0 }) now)) (sym e)
      (steps_then end host (says_closed link.state now then leaves_off link.state) (λ left. still (with_link (forgotten (record link { state = told.0 }) told.0) left)) (steps_of_quiet end host now (says_closed link.state now then leaves_off link.state)
      (links.chained now (says_closed link.state now) (leaves_off link.state) (closed_said link.state now) (λ next q. left_off link.state next))) (λ next e c p n. refl))

all_steps : (end : ℕ) (all : List Link) (host : HostState) → ShutSteps end host (shuts_links end all host)
all_steps end [] host = λ e c p n. refl
all_steps end (link ∷ rest) host = by_test (link.end == end) (all_steps end rest) where
  by_test : (b : Bool) → ((next : HostState) → ShutSteps end next (shuts_links end rest next)) → ShutSteps end host (cond b (hears inputs.Shut (link_with host end link.peer) host) (still host) then shuts_links end rest)
  by_test true k = steps_then end host (hears inputs.Shut (link_with host end link.peer) host) (shuts_links end rest) (one_steps end (link_with host end link.peer) host) k
  by_test false k = steps_then end host (still host) (shuts_links end rest) (λ e c p n. refl) k

pub shut_steps : (end : ℕ) (host : HostState) → ShutSteps end host (host_close_endpoint host end)
unfolding host_close_endpoint
shut_steps end host = by_open (open_endpoint host end) where
  told : HostState → Stepped
  told shut = posts end events.EndPointClosed (closes_endpoint (find (is_endpoint end) shut.ends) shut)

  as_asked : (r : Stepped) → ShutSteps end host r → ShutSteps end host (stepped r)
  as_asked (Ok done) o = o
  as_asked (Err stop) o = tt

  by_open : (r : Result ℕ EndError) → ShutSteps end host (r >>= (λ standing. stepped (shuts_links end host.links host then told)))
  by_open (Ok x) = as_asked (shuts_links end host.links host then told) (steps_then end host (shuts_links end host.links host) told (all_steps end host.links host) (λ next e c p n. refl))
  by_open (Err e) = tt
