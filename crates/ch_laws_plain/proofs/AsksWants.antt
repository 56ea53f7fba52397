-- What a host dials as an endpoint asks of its link with one peer: a link that is idle dials once, and no other does.
use Rattle.std.proofs.Common.{◌≡◌, ◌⊎◌, inl, inr, ◌≤◌, ℕ, ◌+◌, Bool, true, false, cond, List, [], ◌∷◌, ◌++◌, Ok, Err, refl, sym, ap, ◌∙◌, subst}
use Rattle.std.specs.Prelude.{find, Option, Some, None, Result, nat_lt}
use Rattle.ch_base.specs.declared.address.Address.{Address}
use Rattle.ch_base.specs.declared.memory.Stop.TheVariants as stops
use Rattle.ch_wire.specs.declared.frame.Frame.{Frame}
use Rattle.ch_wire.specs.declared.frame.Frame.TheVariants as frames
use Rattle.ch_link.specs.Table.{step_of}
use Rattle.ch_link.specs.declared.LinkIn.TheVariants.{Want}
use Rattle.ch_link.specs.declared.LinkState.{LinkState}
use Rattle.ch_link.specs.declared.LinkState.TheVariants as states
use Rattle.ch_light.specs.declared.Connection.{Connection}
use Rattle.ch_light.specs.Ids.{id_of, give_of, close_of}
use Rattle.ch_model.specs.declared.step.EndError.{EndError}
use Rattle.ch_model.specs.declared.step.EndError.TheVariants as ends
use Rattle.ch_model.specs.declared.step.Step.{Step}
use Rattle.ch_model.specs.declared.step.Step.TheVariants as steps
use Rattle.ch_model.specs.declared.step.Weight.{Weight}
use Rattle.ch_model.specs.declared.step.Weight.TheVariants.{Free}
use Rattle.ch_model.specs.Greater.{is_greater}
use Rattle.ch_model.specs.HostCalls.{◌>>=◌, stepped, of_ids, open_endpoint, wants, puts_and_wants, carries, found_or, short_enough, has_room, host_connect, host_send, host_close}
use Rattle.ch_model.specs.HostLinks.{most_dials, next_dial, dialed, does_act, hears}
use Rattle.ch_model.specs.HostState.{Link, Socket, HostState}
use Rattle.ch_model.specs.HostSteps.{Stepped, after_steps, ◌then◌, own_address, link_with, with_link, with_socket, is_socket}
use Rattle.ch_model.specs.HostWrites.{is_up, frame_step, puts}
use Rattle.ch_laws_links.proofs.Keys.{link_named, number_self}
use Rattle.ch_laws_log.proofs.HostTold.{find_stored}
use Rattle.ch_laws_writes.proofs.Ordered.{at_stored}
use Rattle.ch_laws_connections.specs.Tables.{given_at, open_in}
use Rattle.ch_laws_connections.proofs.GivenIn.{some_open}
use Rattle.ch_laws_connections.proofs.HostCalls.{IsCarried, carried}
use Rattle.ch_laws_calls.specs.FitsTurns.{NoDials}
use Rattle.ch_laws_calls.proofs.FitsStores.{stored_again}
use Rattle.ch_laws_plain.proofs.Opens.{IsAlone}

-- ---- what is told of one link

-- one socket was dialed, and the link dials it, of which the host has the new record
pub record Dials (end : ℕ) (peer : Address) (told : List Step) (after : HostState) : Type 0 where
  pub sock : ℕ
  pub alone : told ≡ steps.Dial sock end peer ∷ []
  pub state : (link_with after end peer).state ≡ states.Dialing sock
  pub known : find (is_socket sock) after.sockets ≡ Some (dialed sock end peer)

-- the link stands as it did, nothing was told, and the sockets are as they were
pub record Rests (host : HostState) (end : ℕ) (peer : Address) (state : LinkState) (told : List Step) (after : HostState) : Type 0 where
  pub none : told ≡ []
  pub state_is : (link_with after end peer).state ≡ state
  pub sockets : after.sockets ≡ host.sockets

-- From where the link stood so: an idle one rests, or dials once; one that is up stays up, and dials nothing; and any other rests.
abbrev pub AsksFrom : ℕ → Address → HostState → List Step → HostState → LinkState → Type 0
AsksFrom end peer host told after states.Idle = Rests host end peer states.Idle told after ⊎ Dials end peer told after
AsksFrom end peer host told after (states.Up sock probed) = NoDials told × (is_up (link_with after end peer).state ≡ true)
AsksFrom end peer host told after state = Rests host end peer state told after

-- the same from where it stands
abbrev pub Asks : ℕ → Address → HostState → List Step → HostState → Type 0
Asks end peer host told after = AsksFrom end peer host told after (link_with host end peer).state

-- whatever was done, from where the link stood so
abbrev DoneFrom : ℕ → Address → HostState → LinkState → Stepped → Type 0
DoneFrom end peer host state (Ok done) = AsksFrom end peer host done.0 done.1 state
DoneFrom end peer host state (Err stop) = Unit {0}

-- whatever was asked
abbrev pub AllAsk : {E : Type 0} → ℕ → Address → HostState → Result (List Step × HostState) E → Type 0
AllAsk end peer host (Ok done) = Asks end peer host done.0 done.1
AllAsk end peer host (Err e) = Unit {0}

-- where nothing was asked
pub asks_nothing : (end : ℕ) (peer : Address) (host : HostState) → Asks end peer host [] host
asks_nothing end peer host = by_state (link_with host end peer).state refl where
  by_state : (state : LinkState) → (link_with host end peer).state ≡ state → AsksFrom end peer host [] host state
  by_state states.Idle is = inl (record { none = refl; state_is = is; sockets = refl })
  by_state (states.Up sock probed) is = (tt, ap is_up is)
  by_state (states.Dialing sock) is = record { none = refl; state_is = is; sockets = refl }
  by_state states.AwaitOther is = record { none = refl; state_is = is; sockets = refl }

-- ---- one thing and then another

pub none_both : (xs ys : List Step) → NoDials xs → NoDials ys → NoDials (xs ++ ys)
none_both [] ys a b = b
none_both (steps.Dial sock end peer ∷ xs) ys a b = absurd a
none_both (steps.Read sock ∷ xs) ys a b = none_both xs ys a b
none_both (steps.Write sock bytes said ∷ xs) ys a b = none_both xs ys a b
none_both (steps.Up sock ∷ xs) ys a b = none_both xs ys a b
none_both (steps.Down sock ∷ xs) ys a b = none_both xs ys a b
none_both (steps.Left sock ∷ xs) ys a b = none_both xs ys a b
none_both (steps.Broke end peer why ∷ xs) ys a b = none_both xs ys a b
none_both (steps.Post end event ∷ xs) ys a b = none_both xs ys a b

nothing_first : (xs ys zs : List Step) → xs ≡ [] → ys ≡ zs → xs ++ ys ≡ zs
nothing_first xs ys zs e f = ap (λ (l : List Step). l ++ ys) e ∙ f

module _ (end : ℕ) (peer : Address) (one two three : HostState) (xs ys : List Step) where
  -- where the link rested first, the second is from the same state
  rested_first : (state : LinkState) → Rests one end peer state xs two → AsksFrom end peer two ys three (link_with two end peer).state → AsksFrom end peer one (xs ++ ys) three state
  rested_first state r b = by_state state r (subst (AsksFrom end peer two ys three) r.state_is b) where
    by_rest : (s : LinkState) → Rests one end peer s xs two → Rests two end peer s ys three → Rests one end peer s (xs ++ ys) three
    by_rest s r b = record { none = nothing_first xs ys [] r.none b.none; state_is = b.state_is; sockets = b.sockets ∙ r.sockets }

    by_idle : Rests one end peer states.Idle xs two → Rests two end peer states.Idle ys three ⊎ Dials end peer ys three → Rests one end peer states.Idle (xs ++ ys) three ⊎ Dials end peer (xs ++ ys) three
    by_idle r (inl b) = inl (by_rest states.Idle r b)
    by_idle r (inr b) = inr (record { sock = b.sock; alone = nothing_first xs ys (steps.Dial b.sock end peer ∷ []) r.none b.alone; state = b.state; known = b.known })

    by_state : (s : LinkState) → Rests one end peer s xs two → AsksFrom end peer two ys three s → AsksFrom end peer one (xs ++ ys) three s
    by_state states.Idle r b = by_idle r b
    by_state (states.Up sock probed) r b = (subst NoDials (sym (nothing_first xs ys ys r.none refl)) b.0, b.1)
    by_state (states.Dialing sock) r b = by_rest (states.Dialing sock) r b
    by_state states.AwaitOther r b = by_rest states.AwaitOther r b

  -- where it dialed first, it dials still
  dialed_first : Dials end peer xs two → AsksFrom end peer two ys three (link_with two end peer).state → Dials end peer (xs ++ ys) three
  dialed_first d b = by_rest (subst (AsksFrom end peer two ys three) d.state b) where
    by_rest : Rests two end peer (states.Dialing d.sock) ys three → Dials end peer (xs ++ ys) three
    by_rest r = record {
      sock = d.sock;
      alone = ap (λ (l : List Step). l ++ ys) d.alone ∙ ap (λ (l : List Step). steps.Dial d.sock end peer ∷ l) r.none;
      state = r.state_is;
      known = ap (λ (l : List Socket). find (is_socket d.sock) l) r.sockets ∙ d.known;
    }

  -- where it is up, it stays so
  up_first : NoDials xs → is_up (link_with two end peer).state ≡ true → AsksFrom end peer two ys three (link_with two end peer).state → NoDials (xs ++ ys) × (is_up (link_with three end peer).state ≡ true)
  up_first none up b = by_state (link_with two end peer).state up b where
    by_state : (s : LinkState) → is_up s ≡ true → AsksFrom end peer two ys three s → NoDials (xs ++ ys) × (is_up (link_with three end peer).state ≡ true)
    by_state states.Idle up b = absurd cc
    by_state (states.Up sock probed) up b = (none_both xs ys none b.0, b.1)
    by_state (states.Dialing sock) up b = absurd cc
    by_state states.AwaitOther up b = absurd cc

  pub asks_then : Asks end peer one xs two → Asks end peer two ys three → Asks end peer one (xs ++ ys) three
  asks_then a b = by_state (link_with one end peer).state a where
    by_idle : Rests one end peer states.Idle xs two ⊎ Dials end peer xs two → AsksFrom end peer one (xs ++ ys) three states.Idle
    by_idle (inl r) = rested_first states.Idle r b
    by_idle (inr d) = inr (dialed_first d b)

    by_state : (s : LinkState) → AsksFrom end peer one xs two s → AsksFrom end peer one (xs ++ ys) three s
    by_state states.Idle a = by_idle a
    by_state (states.Up sock probed) a = up_first a.0 a.1 b
    by_state (states.Dialing sock) a = rested_first (states.Dialing sock) a b
    by_state states.AwaitOther a = rested_first states.AwaitOther a b

-- ---- a frame is put, and the link wants a socket

-- what a link in this state makes of that
abbrev wanted : Link → HostState → LinkState → Stepped
wanted link host state = does_act (step_of state (Want (next_dial host)) (is_greater (own_address host link.end) link.peer)).1 state (Want (next_dial host)) (record link { state = (step_of state (Want (next_dial host)) (is_greater (own_address host link.end) link.peer)).0 })
    (with_link (record link { state = (step_of state (Want (next_dial host)) (is_greater (own_address host link.end) link.peer)).0 }) host)

pub put_and_wanted : (host : HostState) (link : Link) (given : List Connection) (item : Frame × Weight) → link_with host link.end link.peer ≡ link → AllAsk link.end link.peer host (puts_and_wants item (record link { given = given }) host)
unfolding step_of
put_and_wanted host link given item is_own = as_own (puts_and_wants item (record link { given = given }) host) (by_state link.state refl) where
  put : Link
  put = record link { given = given }

  waiting : Link
  waiting = record link { given = given; waits = link.waits ++ item ∷ [] }

  -- the link of the host is this one
  as_own : (r : Stepped) → DoneFrom link.end link.peer host link.state r → AllAsk link.end link.peer host r
  as_own (Ok done) a = subst (AsksFrom link.end link.peer host done.0 done.1) (sym (ap (λ (l : Link). l.state) is_own)) a
  as_own (Err stop) a = tt

  -- its state is the one that is stored
  as_stored : (from : LinkState) (xs : List Step) (one : Link) (state : LinkState) → one.state ≡ state → DoneFrom link.end link.peer host from (after_steps xs (wanted one (with_link one host) state)) → DoneFrom link.end link.peer host from (after_steps xs (hears (Want (next_dial (with_link one host))) (link_with (with_link one host) one.end one.peer) (with_link one host)))
  as_stored from xs one state is t = subst (λ (x : Link). DoneFrom link.end link.peer host from (after_steps xs (hears (Want (next_dial (with_link one host))) x (with_link one host)))) (sym (at_stored one host.links)) (subst (λ (x : LinkState). DoneFrom link.end link.peer host from (after_steps xs (wanted one (with_link one host) x))) (sym is) t)

  still : (state : LinkState) → Rests host link.end link.peer state [] (with_link (record waiting { state = state }) (with_link waiting host))
  still state = record { none = refl; state_is = ap (λ (l : Link). l.state) (stored_again host.links waiting (record waiting { state = state }) refl refl).now; sockets = refl }

  dials : (b : Bool) → DoneFrom link.end link.peer host states.Idle (after_steps [] (cond b (Ok (steps.Dial (next_dial (with_link waiting host)) link.end link.peer ∷ [], with_socket (dialed (next_dial (with_link waiting host)) link.end link.peer) (record (with_link (record waiting { state = states.Dialing (next_dial (with_link waiting host)) }) (with_link waiting host)) { dials = host.dials + 1 }))) (Err stops.Worn)))
  dials true = inr (record {
    sock = next_dial (with_link waiting host);
    alone = refl;
    state = ap (λ (l : Link). l.state) (stored_again host.links waiting (record waiting { state = states.Dialing (next_dial (with_link waiting host)) }) refl refl).now;
    known = find_stored (dialed (next_dial host) link.end link.peer) host.sockets (next_dial host) ∙ ap (λ b. cond b (Some (dialed (next_dial host) link.end link.peer)) (find (is_socket (next_dial host)) host.sockets)) (number_self (next_dial host));
  })
  dials false = tt

  by_state : (state : LinkState) → link.state ≡ state → DoneFrom link.end link.peer host link.state ((elim state as (λ x. Stepped) [
    | states.Up sock probed ↦ Ok (frame_step sock item ∷ [], with_link put host)
    | _ ↦ Ok ([], with_link waiting host)
  ]) then wants link.end link.peer)
  by_state (states.Up sock probed) is = subst (λ (s : LinkState). DoneFrom link.end link.peer host s (Ok (frame_step sock item ∷ [], with_link put host) then wants link.end link.peer)) (sym is) (as_stored (states.Up sock probed) (frame_step sock item ∷ []) put (states.Up sock probed) is
      (tt, ap (λ (l : Link). is_up l.state) (stored_again host.links put (record put { state = states.Up sock probed }) refl refl).now))
  by_state (states.Dialing sock) is = subst (λ (s : LinkState). DoneFrom link.end link.peer host s (Ok ([], with_link waiting host) then wants link.end link.peer)) (sym is) (as_stored (states.Dialing sock) [] waiting (states.Dialing sock) is (still (states.Dialing sock)))
  by_state states.AwaitOther is = subst (λ (s : LinkState). DoneFrom link.end link.peer host s (Ok ([], with_link waiting host) then wants link.end link.peer)) (sym is) (as_stored states.AwaitOther [] waiting states.AwaitOther is (still states.AwaitOther))
  by_state states.Idle is = subst (λ (s : LinkState). DoneFrom link.end link.peer host s (Ok ([], with_link waiting host) then wants link.end link.peer)) (sym is) (as_stored states.Idle [] waiting states.Idle is (dials (nat_lt host.dials most_dials)))

-- ---- the calls

-- what is so of the steps of a host is so of them as an answer
asked_all : (P : Result (List Step × HostState) EndError → Type 0) (done : Stepped) → ((d : List Step × HostState) → done ≡ Ok d → P (Ok d)) → ((e : EndError) → P (Err e)) → P (stepped done)
asked_all P (Ok done) f g = f done refl
asked_all P (Err stops.OutOfMemory) f g = g ends.OutOfMemory
asked_all P (Err stops.Worn) f g = g ends.Worn

-- and so is what hangs on a step that may be refused
bound : {A : Type 0} (P : Result (List Step × HostState) EndError → Type 0) (given : Result A EndError) (f : A → Result (List Step × HostState) EndError) → ((e : EndError) → P (Err e)) → ((x : A) → given ≡ Ok x → P (f x)) → P (given >>= f)
bound P (Ok x) f g each = each x refl
bound P (Err e) f g each = g e

found_some : {A : Type 0} (x : Option A) (a : A) → found_or x ≡ Ok a → x ≡ Some a
found_some (Some x) a e = let is : x ≡ a = cc in ap Some is
found_some None a e = absurd cc

ask_so : (end : ℕ) (peer : Address) (host : HostState) (done : Stepped) (d : List Step × HostState) → done ≡ Ok d → AllAsk end peer host done → Asks end peer host d.0 d.1
ask_so end peer host done d e a = subst (λ (r : Stepped). AllAsk end peer host r) e a

pub connected : (host : HostState) (end : ℕ) (peer : Address) (conn : ℕ) → AllAsk end peer host (host_connect host end peer conn)
unfolding host_connect
connected host end peer conn = bound P (open_endpoint host end) _ (λ e. tt) (λ standing e. bound P (of_ids (give_of link.given conn)) _ (λ e. tt) (λ given g. asked_all P (puts_and_wants (frames.Created given.0, Free) (record link { given = given.1 }) host)
    (λ d is. ask_so end peer host (puts_and_wants (frames.Created given.0, Free) (record link { given = given.1 }) host) d is (put_so given)) (λ e. tt)))
  where
    P : Result (List Step × HostState) EndError → Type 0
    P r = AllAsk end peer host r

    link : Link
    link = link_with host end peer

    named : (link.end ≡ end) × (link.peer ≡ peer)
    named = link_named host end peer

    own_link : link_with host link.end link.peer ≡ link
    own_link = ap (λ (n : ℕ). link_with host n link.peer) named.0 ∙ ap (link_with host end) named.1

    put_so : (given : ℕ × List Connection) → AllAsk end peer host (puts_and_wants (frames.Created given.0, Free) (record link { given = given.1 }) host)
    put_so given = subst (λ (n : ℕ). AllAsk n peer host (puts_and_wants (frames.Created given.0, Free) (record link { given = given.1 }) host)) named.0
        (subst (λ (a : Address). AllAsk link.end a host (puts_and_wants (frames.Created given.0, Free) (record link { given = given.1 }) host)) named.1 (put_and_wanted host link given.1 (frames.Created given.0, Free) own_link))

-- a payload goes on the link with the peer that its connection is open with
pub sent : (host : HostState) (end conn : ℕ) (peer : Address) (payload : List ℕ) (weight : Weight) → IsAlone host end conn peer → AllAsk end peer host (host_send host end conn payload weight)
unfolding host_send
sent host end conn peer payload weight a = bound P (found_or (find (carries end conn) host.links)) _ (λ e. tt) (λ link l. bound P (short_enough payload) _ (λ e. tt) (λ short m. bound P (has_room link weight) _ (λ e. tt) (λ roomy r. bound P (found_or (id_of link.given conn)) _ (λ e. tt) (λ id i.
    asked_all P (puts_and_wants (frames.Data id short, weight) link host) (λ d is. ask_so end peer host (puts_and_wants (frames.Data id short, weight) link host) d is (put_so link (carried host end conn link a.apart (found_some (find (carries end conn) host.links) link l)) (frames.Data id short, weight))) (λ e. tt)))))
  where
    P : Result (List Step × HostState) EndError → Type 0
    P r = AllAsk end peer host r

    same_peer : (link : Link) → IsCarried host end conn link → link.peer ≡ peer
    same_peer link c = a.one_link link.peer peer (subst (λ (t : List Connection). 1 ≤ open_in t conn) (ap (λ (l : Link). l.given) (sym c.is_there) ∙ ap (λ (e : ℕ). given_at host e link.peer) c.end_is) (some_open link.given conn c.placed)) a.there

    put_so : (link : Link) → IsCarried host end conn link → (item : Frame × Weight) → AllAsk end peer host (puts_and_wants item link host)
    put_so link c item = subst (λ (n : ℕ). AllAsk n peer host (puts_and_wants item link host)) c.end_is (subst (λ (q : Address). AllAsk link.end q host (puts_and_wants item link host)) (same_peer link c) (put_and_wanted host link link.given item c.is_there))

-- what closes a connection dials nothing
abbrev pub AllDialNone : {E : Type 0} → Result (List Step × HostState) E → Type 0
AllDialNone (Ok done) = NoDials done.0
AllDialNone (Err e) = Unit {0}

pub closed : (host : HostState) (end conn : ℕ) → AllDialNone (host_close host end conn)
unfolding host_close
closed host end conn = bound P (found_or (find (carries end conn) host.links)) _ (λ e. tt) (λ link l. bound P (of_ids (close_of link.given conn)) _ (λ e. tt) (λ given g.
    asked_all P (puts (frames.Closed given.0, Free) (record link { given = given.1 }) host) (λ d is. subst (λ (r : Stepped). AllDialNone r) is (put (frames.Closed given.0, Free) (record link { given = given.1 }))) (λ e. tt)))
  where
    P : Result (List Step × HostState) EndError → Type 0
    P r = AllDialNone r

    put : (item : Frame × Weight) (link : Link) → AllDialNone (puts item link host)
    put item link = by_state link.state where
      by_state : (state : LinkState) → AllDialNone (elim state as (λ x. Stepped) [
        | states.Up sock probed ↦ Ok (frame_step sock item ∷ [], with_link link host)
        | _ ↦ Ok ([], with_link (record link { waits = link.waits ++ item ∷ [] }) host)
      ])
      by_state (states.Up sock probed) = tt
      by_state (states.Dialing sock) = tt
      by_state states.AwaitOther = tt
      by_state states.Idle = tt
