-- What an act of the link table does to a host: to its links' states, to its sockets, and what its steps tell.
use Rattle.std.proofs.Common.{◌≡◌, ℕ, ◌+◌, Bool, true, false, cond, List, [], ◌∷◌, map, Ok, Err, refl, sym, ap, ◌∙◌, subst}
use Rattle.std.specs.Option.{option_map}
use Rattle.std.specs.Prelude.{◌==◌, find, nat_lt, Option, Some, None}
use Rattle.ch_base.specs.declared.address.Address.{Address}
use Rattle.ch_base.specs.declared.event.Why.{Why}
use Rattle.ch_base.specs.declared.memory.Stop.TheVariants as stops
use Rattle.ch_wire.specs.declared.frame.Frame.{Frame}
use Rattle.ch_link.specs.declared.LinkAct.{LinkAct}
use Rattle.ch_link.specs.declared.LinkAct.TheVariants as acts
use Rattle.ch_link.specs.declared.LinkIn.{LinkIn}
use Rattle.ch_link.specs.declared.LinkState.{LinkState}
use Rattle.ch_link.specs.declared.LinkState.TheVariants as states
use Rattle.ch_model.specs.declared.step.Step.{Step}
use Rattle.ch_model.specs.declared.step.Step.TheVariants as steps
use Rattle.ch_model.specs.declared.step.Weight.{Weight}
use Rattle.ch_model.specs.HostLinks.{most_dials, dialed, dials_for, accepts_on, asked_on, wanted_on, raised, acknowledged, does_act}
use Rattle.ch_model.specs.HostState.{Link, Socket, HostState}
use Rattle.ch_model.specs.HostSteps.{Stepped, still, is_link, with_socket, is_socket}
use Rattle.ch_model.specs.HostWrites.{end_socket, frame_step, forgotten}
use Rattle.ch_laws_log.proofs.HostTold.{find_stored}
use Rattle.ch_laws_links.specs.Standing.{Standing, IsPending, IsOpen, IsRisen, IsOver, standing_after_all, is_there, is_unrisen, AreRight}
use Rattle.ch_laws_links.proofs.Keys.{number_self, state_at, relinked, over, ended_found, ended_rest, states_as}
use Rattle.ch_laws_links.proofs.Table.{is_ended_by}

-- the sockets of each number after the act
abbrev pub acted_on : LinkAct → LinkState → LinkIn → ℕ → Address → ℕ → Option Socket → Option Socket
acted_on acts.Dial old input end peer n o = cond (wanted_on input == n) (Some (dialed (wanted_on input) end peer)) o
acted_on act old input end peer n o = over (is_ended_by old input act n) o

abbrev pub dials_after : LinkAct → ℕ → ℕ
dials_after acts.Dial dials = dials + 1
dials_after act dials = dials

-- a link comes up on the socket by the act
abbrev pub is_raised_by : LinkAct → LinkIn → LinkState → ℕ → Bool
is_raised_by acts.Accept input new n = asked_on input == n
is_raised_by (acts.LeaveAndAccept own) input new n = asked_on input == n
is_raised_by acts.Raise (input) (states.Up u probed) n = u == n
is_raised_by act input new n = false

abbrev pub overs : Bool → Option Standing → Option Standing
overs b now = cond b (option_map (λ (s : Standing). IsOver) now) now

abbrev pub risens : Bool → Option Standing → Option Standing
risens b now = cond b (option_map (λ (s : Standing). IsRisen) now) now

-- how an end stands after the act
abbrev pub acted_standing : LinkAct → LinkState → LinkIn → LinkState → ℕ → Option Standing → Option Standing
acted_standing acts.Dial old input new n now = cond (wanted_on input == n) (Some IsPending) now
acted_standing act old input new n now = risens (is_raised_by act input new n) (overs (is_ended_by old input act n) now)

-- the end that the state names stands as it says
abbrev pub StateRight : (ℕ → Option Standing) → LinkState → Type 0
StateRight f (states.Dialing d) = is_unrisen (f d) ≡ true
StateRight f (states.Up u probed) = f u ≡ Some IsRisen
StateRight f state = Unit {0}

-- a link that came up did so on an end that was open
abbrev pub RaiseRight : (ℕ → Option Standing) → LinkState → Type 0
RaiseRight f (states.Up u probed) = f u ≡ Some IsOpen
RaiseRight f state = Unit {0}

-- where ends stand so the act may be told
abbrev pub ActRight : (ℕ → Option Standing) → LinkAct → LinkState → LinkIn → LinkState → Type 0
ActRight f acts.Nothing old input new = Unit {0}
ActRight f acts.Dial old input new = f (wanted_on input) ≡ None
ActRight f acts.Accept old input new = f (asked_on input) ≡ Some IsOpen
ActRight f acts.Cross old input new = f (asked_on input) ≡ Some IsOpen
ActRight f (acts.LeaveAndAccept own) old input new = (is_unrisen (f own) ≡ true) × (f (asked_on input) ≡ Some IsOpen) × ((own == asked_on input) ≡ false)
ActRight f (acts.CrossAndProbe up) old input new = (f (asked_on input) ≡ Some IsOpen) × (f up ≡ Some IsRisen) × ((asked_on input == up) ≡ false)
ActRight f acts.Raise old input new = RaiseRight f new
ActRight f (acts.Leave own) old input new = is_unrisen (f own) ≡ true
ActRight f (acts.Fail why) old input new = StateRight f old
ActRight f acts.Acknowledge old input new = StateRight f new
ActRight f acts.Close old input new = StateRight f old

-- The act leaves each link's state as it is, ends or dials sockets, and tells so.
pub record Does (act : LinkAct) (old : LinkState) (input : LinkIn) (link : Link) (before : HostState) (told : List Step) (after : HostState) : Type 0 where
  pub states : (end : ℕ) (peer : Address) → state_at after end peer ≡ state_at before end peer
  pub socks : (n : ℕ) → find (is_socket n) after.sockets ≡ acted_on act old input link.end link.peer n (find (is_socket n) before.sockets)
  pub dials : after.dials ≡ dials_after act before.dials
  pub effect : (n : ℕ) (now : Option Standing) → standing_after_all told n now ≡ acted_standing act old input link.state n now
  pub right : (f : ℕ → Option Standing) → ActRight f act old input link.state → AreRight f told

abbrev pub AllDoes : LinkAct → LinkState → LinkIn → Link → HostState → Stepped → Type 0
AllDoes act old input link before (Ok done) = Does act old input link before done.0 done.1
AllDoes act old input link before (Err stop) = Unit {0}

-- the link is kept in its state
abbrev pub IsAt : Link → HostState → Type 0
IsAt link host = (end : ℕ) (peer : Address) → is_link end peer link ≡ true → state_at host end peer ≡ link.state

-- ---- frames that are written

pub frames_tell : (sock : ℕ) (items : List (Frame × Weight)) (n : ℕ) (now : Option Standing) → standing_after_all (map (frame_step sock) items) n now ≡ now
frames_tell sock [] n now = refl
frames_tell sock (item ∷ items) n now = frames_tell sock items n now

pub frames_right : (sock : ℕ) (items : List (Frame × Weight)) (f : ℕ → Option Standing) → is_there (f sock) ≡ true → AreRight f (map (frame_step sock) items)
frames_right sock [] f h = tt
frames_right sock (item ∷ items) f h = (h, frames_right sock items f h)

pub there_open : (now : Option Standing) → now ≡ Some IsOpen → is_there now ≡ true
there_open now e = ap is_there e

pub there_risen : (now : Option Standing) → now ≡ Some IsRisen → is_there now ≡ true
there_risen now e = ap is_there e

unrisen_open : (now : Option Standing) → now ≡ Some IsOpen → is_unrisen now ≡ true
unrisen_open now e = ap is_unrisen e

-- an end that came up is there
there_after : (sock : ℕ) (f : ℕ → Option Standing) → f sock ≡ Some IsOpen → is_there (cond (sock == sock) (option_map (λ (s : Standing). IsRisen) (f sock)) (f sock)) ≡ true
there_after sock f e = ap (λ b. is_there (cond b (option_map (λ (s : Standing). IsRisen) (f sock)) (f sock))) (number_self sock) ∙ ap (λ (o : Option Standing). is_there (option_map (λ (s : Standing). IsRisen) o)) e

-- ---- acts

-- a link of the same key and state is kept
pub again : (link : Link) (host : HostState) → IsAt link host → (end : ℕ) (peer : Address) → cond (is_link end peer link) link.state (state_at host end peer) ≡ state_at host end peer
again link host at end peer = by_test (is_link end peer link) refl where
  by_test : (b : Bool) → is_link end peer link ≡ b → cond b link.state (state_at host end peer) ≡ state_at host end peer
  by_test true h = sym (at end peer h)
  by_test false h = refl

-- after a socket that ended, too
again_ended : (link : Link) (sock : ℕ) (host : HostState) → IsAt link host → (end : ℕ) (peer : Address) → cond (is_link end peer link) link.state (state_at (end_socket sock host) end peer) ≡ state_at host end peer
again_ended link sock host at end peer = ap (cond (is_link end peer link) link.state) (states_as (end_socket sock host) host (ended_rest sock host).0 end peer) ∙ again link host at end peer

acted_nothing : (old : LinkState) (input : LinkIn) (link : Link) (host : HostState) → AllDoes acts.Nothing old input link host (still host)
acted_nothing old input link host = record { states = λ end peer. refl; socks = λ n. refl; dials = refl; effect = λ n now. refl; right = λ f r. tt }

acted_dial : (old : LinkState) (input : LinkIn) (link : Link) (host : HostState) → AllDoes acts.Dial old input link host (dials_for (wanted_on input) link host)
acted_dial old input link host = by_test (nat_lt host.dials most_dials) where
  by_test : (b : Bool) → AllDoes acts.Dial old input link host (cond b (Ok (steps.Dial (wanted_on input) link.end link.peer ∷ [], with_socket (dialed (wanted_on input) link.end link.peer) (record host { dials = host.dials + 1 }))) (Err stops.Worn))
  by_test true = record { states = λ end peer. refl; socks = λ n. find_stored (dialed (wanted_on input) link.end link.peer) host.sockets n; dials = refl; effect = λ n now. refl; right = λ f r. (r, tt) }
  by_test false = tt

acted_accept : (old : LinkState) (input : LinkIn) (link : Link) (host : HostState) → IsAt link host → AllDoes acts.Accept old input link host (accepts_on (asked_on input) link host)
acted_accept old input link host at = record {
  states = λ end peer. relinked (record link { waits = [] }) host end peer ∙ again link host at end peer;
  socks = λ n. refl;
  dials = refl;
  effect = λ n now. frames_tell (asked_on input) link.waits n (risens (asked_on input == n) now);
  right = λ f r. (r, (there_after (asked_on input) f r, frames_right (asked_on input) link.waits (λ n. risens (asked_on input == n) (f n)) (there_after (asked_on input) f r)));
}

acted_cross : (old : LinkState) (input : LinkIn) (link : Link) (host : HostState) → AllDoes acts.Cross old input link host (does_act acts.Cross old input link host)
acted_cross old input link host = record {
  states = λ end peer. states_as (end_socket (asked_on input) host) host (ended_rest (asked_on input) host).0 end peer;
  socks = λ n. ended_found (asked_on input) host n;
  dials = (ended_rest (asked_on input) host).1;
  effect = λ n now. refl;
  right = λ f r. (there_open (f (asked_on input)) r, (unrisen_open (f (asked_on input)) r, tt));
}

-- what another socket's end tells leaves an end as it was
other_over : (own n : ℕ) (f : ℕ → Option Standing) (x : Option Standing) → (own == n) ≡ false → f n ≡ x → overs (own == n) (f n) ≡ x
other_over own n f x e h = ap (λ b. overs b (f n)) e ∙ h

acted_leave_and_accept : (own : ℕ) (old : LinkState) (input : LinkIn) (link : Link) (host : HostState) → IsAt link host → AllDoes (acts.LeaveAndAccept own) old input link host (does_act (acts.LeaveAndAccept own) old input link host)
acted_leave_and_accept own old input link host at = record {
  states = λ end peer. relinked (record link { waits = [] }) (end_socket own host) end peer ∙ again_ended link own host at end peer;
  socks = λ n. ended_found own host n;
  dials = (ended_rest own host).1;
  effect = λ n now. frames_tell (asked_on input) link.waits n (risens (asked_on input == n) (overs (own == n) now));
  right = λ f r. let asked = other_over own (asked_on input) f (Some IsOpen) r.2 r.1 in
      (r.0, (asked, (there_after (asked_on input) (λ n. overs (own == n) (f n)) asked, frames_right (asked_on input) link.waits (λ n. risens (asked_on input == n) (overs (own == n) (f n))) (there_after (asked_on input) (λ n. overs (own == n) (f n)) asked))));
}

acted_cross_and_probe : (up : ℕ) (old : LinkState) (input : LinkIn) (link : Link) (host : HostState) → AllDoes (acts.CrossAndProbe up) old input link host (does_act (acts.CrossAndProbe up) old input link host)
acted_cross_and_probe up old input link host = record {
  states = λ end peer. states_as (end_socket (asked_on input) host) host (ended_rest (asked_on input) host).0 end peer;
  socks = λ n. ended_found (asked_on input) host n;
  dials = (ended_rest (asked_on input) host).1;
  effect = λ n now. refl;
  right = λ f r. (there_open (f (asked_on input)) r.0, (unrisen_open (f (asked_on input)) r.0, (there_risen (overs (asked_on input == up) (f up)) (other_over (asked_on input) up f (Some IsRisen) r.2 r.1), tt)));
}

acted_raise : (state : LinkState) (old : LinkState) (input : LinkIn) (link : Link) (host : HostState) → link.state ≡ state → IsAt link host → AllDoes acts.Raise old input link host (raised state link host)
acted_raise (states.Up u probed) old input link host e at = record {
  states = λ end peer. relinked (record link { waits = [] }) host end peer ∙ again link host at end peer;
  socks = λ n. refl;
  dials = refl;
  effect = λ n now. frames_tell u link.waits n (risens (u == n) now) ∙ sym (ap (λ (state : LinkState). risens (is_raised_by acts.Raise input state n) now) e);
  right = λ f r. let was : f u ≡ Some IsOpen = subst (RaiseRight f) e r in (was, frames_right u link.waits (λ n. risens (u == n) (f n)) (there_after u f was));
}
acted_raise (states.Dialing d) old input link host e at = record { states = λ end peer. refl; socks = λ n. refl; dials = refl; effect = λ n now. sym (ap (λ (state : LinkState). risens (is_raised_by acts.Raise input state n) now) e); right = λ f r. tt }
acted_raise states.Idle old input link host e at = record { states = λ end peer. refl; socks = λ n. refl; dials = refl; effect = λ n now. sym (ap (λ (state : LinkState). risens (is_raised_by acts.Raise input state n) now) e); right = λ f r. tt }
acted_raise states.AwaitOther old input link host e at = record { states = λ end peer. refl; socks = λ n. refl; dials = refl; effect = λ n now. sym (ap (λ (state : LinkState). risens (is_raised_by acts.Raise input state n) now) e); right = λ f r. tt }

acted_leave : (own : ℕ) (old : LinkState) (input : LinkIn) (link : Link) (host : HostState) → AllDoes (acts.Leave own) old input link host (does_act (acts.Leave own) old input link host)
acted_leave own old input link host = record {
  states = λ end peer. states_as (end_socket own host) host (ended_rest own host).0 end peer;
  socks = λ n. ended_found own host n;
  dials = (ended_rest own host).1;
  effect = λ n now. refl;
  right = λ f r. (r, tt);
}

acted_fail : (old : LinkState) (input : LinkIn) (why : Why) (link : Link) (host : HostState) → IsAt link host → AllDoes (acts.Fail why) old input link host (does_act (acts.Fail why) old input link host)
acted_fail (states.Up u probed) input why link host at = record {
  states = λ end peer. relinked (forgotten link link.state) (end_socket u host) end peer ∙ again_ended link u host at end peer;
  socks = λ n. ended_found u host n;
  dials = (ended_rest u host).1;
  effect = λ n now. refl;
  right = λ f r. (r, (tt, (tt, tt)));
}
acted_fail (states.Dialing d) input why link host at = record {
  states = λ end peer. relinked (forgotten link link.state) (end_socket d host) end peer ∙ again_ended link d host at end peer;
  socks = λ n. ended_found d host n;
  dials = (ended_rest d host).1;
  effect = λ n now. refl;
  right = λ f r. (r, (tt, (tt, tt)));
}
acted_fail states.Idle input why link host at = record {
  states = λ end peer. relinked (forgotten link link.state) host end peer ∙ again link host at end peer;
  socks = λ n. refl;
  dials = refl;
  effect = λ n now. refl;
  right = λ f r. (tt, (tt, tt));
}
acted_fail states.AwaitOther input why link host at = record {
  states = λ end peer. relinked (forgotten link link.state) host end peer ∙ again link host at end peer;
  socks = λ n. refl;
  dials = refl;
  effect = λ n now. refl;
  right = λ f r. (tt, (tt, tt));
}

acted_close : (old : LinkState) (input : LinkIn) (link : Link) (host : HostState) → IsAt link host → AllDoes acts.Close old input link host (does_act acts.Close old input link host)
acted_close (states.Up u probed) input link host at = record {
  states = λ end peer. relinked (forgotten link link.state) (end_socket u host) end peer ∙ again_ended link u host at end peer;
  socks = λ n. ended_found u host n;
  dials = (ended_rest u host).1;
  effect = λ n now. refl;
  right = λ f r. (there_risen (f u) r, (r, tt));
}
acted_close (states.Dialing d) input link host at = record {
  states = λ end peer. relinked (forgotten link link.state) (end_socket d host) end peer ∙ again_ended link d host at end peer;
  socks = λ n. ended_found d host n;
  dials = (ended_rest d host).1;
  effect = λ n now. refl;
  right = λ f r. (r, tt);
}
acted_close states.Idle input link host at = record {
  states = λ end peer. relinked (forgotten link link.state) host end peer ∙ again link host at end peer;
  socks = λ n. refl;
  dials = refl;
  effect = λ n now. refl;
  right = λ f r. tt;
}
acted_close states.AwaitOther input link host at = record {
  states = λ end peer. relinked (forgotten link link.state) host end peer ∙ again link host at end peer;
  socks = λ n. refl;
  dials = refl;
  effect = λ n now. refl;
  right = λ f r. tt;
}

acted_acknowledge : (state : LinkState) (old : LinkState) (input : LinkIn) (link : Link) (host : HostState) → link.state ≡ state → AllDoes acts.Acknowledge old input link host (acknowledged state host)
acted_acknowledge (states.Up u probed) old input link host e = record { states = λ end peer. refl; socks = λ n. refl; dials = refl; effect = λ n now. refl; right = λ f r. let was : f u ≡ Some IsRisen = subst (StateRight f) e r in (there_risen (f u) was, tt) }
acted_acknowledge (states.Dialing d) old input link host e = record { states = λ end peer. refl; socks = λ n. refl; dials = refl; effect = λ n now. refl; right = λ f r. tt }
acted_acknowledge states.Idle old input link host e = record { states = λ end peer. refl; socks = λ n. refl; dials = refl; effect = λ n now. refl; right = λ f r. tt }
acted_acknowledge states.AwaitOther old input link host e = record { states = λ end peer. refl; socks = λ n. refl; dials = refl; effect = λ n now. refl; right = λ f r. tt }

pub acted : (act : LinkAct) (old : LinkState) (input : LinkIn) (link : Link) (host : HostState) → IsAt link host → AllDoes act old input link host (does_act act old input link host)
acted acts.Nothing old input link host at = acted_nothing old input link host
acted acts.Dial old input link host at = acted_dial old input link host
acted acts.Accept old input link host at = acted_accept old input link host at
acted acts.Cross old input link host at = acted_cross old input link host
acted (acts.LeaveAndAccept own) old input link host at = acted_leave_and_accept own old input link host at
acted (acts.CrossAndProbe up) old input link host at = acted_cross_and_probe up old input link host
acted acts.Raise old input link host at = acted_raise link.state old input link host refl at
acted (acts.Leave own) old input link host at = acted_leave own old input link host
acted (acts.Fail why) old input link host at = acted_fail old input why link host at
acted acts.Acknowledge old input link host at = acted_acknowledge link.state old input link host refl
acted acts.Close old input link host at = acted_close old input link host at
