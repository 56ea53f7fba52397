-- A link hears an input, and its host's links and sockets go on saying the same of each other.
use Rattle.std.proofs.Common.{◌≡◌, ◌≤◌, ℕ, ◌+◌, ◌*◌, Bool, true, false, cond, List, Ok, Err, refl, sym, ap, ◌∙◌, subst, arith}
use Rattle.std.proofs.lemmas.Bool.{eqb-true}
use Rattle.std.proofs.lemmas.Bool.Decides.{nat_tests}
use Rattle.std.specs.Option.{option_map}
use Rattle.std.specs.Prelude.{◌==◌, find, Option, Some, None}
use Rattle.ch_base.specs.declared.address.Address.{Address}
use Rattle.ch_reader.specs.declared.item.Expected.{Expected}
use Rattle.ch_reader.specs.declared.item.Expected.TheVariants as expected
use Rattle.ch_link.specs.Table.{step_of}
use Rattle.ch_link.specs.declared.LinkAct.{LinkAct}
use Rattle.ch_link.specs.declared.LinkAct.TheVariants as acts
use Rattle.ch_link.specs.declared.LinkIn.{LinkIn}
use Rattle.ch_link.specs.declared.LinkState.{LinkState}
use Rattle.ch_link.specs.declared.LinkState.TheVariants as states
use Rattle.ch_model.specs.declared.step.Step.{Step}
use Rattle.ch_model.specs.Greater.{is_greater}
use Rattle.ch_model.specs.HostLinks.{wanted_on, dialed, does_act, hears}
use Rattle.ch_model.specs.HostState.{Link, Socket, HostState}
use Rattle.ch_model.specs.HostSteps.{Stepped, own_address, is_link, with_link, is_socket}
use Rattle.ch_model.specs.Stages.{Stage, Pending, Open, Ended}
use Rattle.ch_laws_links.specs.Naming.{Word, Unnamed, Dialed, IsUp, link_says, stage_says, is_user, is_for, socket_says, Fits, IsFit}
use Rattle.ch_laws_links.specs.Standing.{Standing, IsRisen, standing, standing_of, standing_at, standing_after_all, is_unrisen, AreRight}
use Rattle.ch_laws_links.proofs.Keys.{number_self, key_self, key_of, state_at, relinked, ended, over}
use Rattle.ch_laws_links.proofs.Table.{heard_says, is_ended_by, acted_says, AsksFree, table_says, ends_named, WhereDials, WhereWants, dials_wanted}
use Rattle.ch_laws_links.proofs.Acts.{acted_on, dials_after, acted_standing, StateRight, ActRight, AllDoes, IsAt, acted}

-- what is so of a host's links and sockets as they are found
pub record IsNamed (host : HostState) : Type 0 where
  pub free : (k : ℕ) → host.dials ≤ k → find (is_socket (2 * k)) host.sockets ≡ None
  pub fit : (n : ℕ) (socket : Socket) → find (is_socket n) host.sockets ≡ Some socket → IsFit socket
  pub same : (end : ℕ) (peer : Address) (n : ℕ) → link_says (state_at host end peer) n ≡ socket_says end peer (find (is_socket n) host.sockets)

-- The link is to hear the input, and but for what the input itself is of, all say the same.
pub record IsAsked (input : LinkIn) (link : Link) (host : HostState) : Type 0 where
  pub at : (end : ℕ) (peer : Address) → is_link end peer link ≡ true → state_at host end peer ≡ link.state
  pub said : (end : ℕ) (peer : Address) (n : ℕ) → cond (is_link end peer link) (heard_says input link.state n) (link_says (state_at host end peer) n) ≡ socket_says end peer (find (is_socket n) host.sockets)
  pub free : (k : ℕ) → host.dials ≤ k → find (is_socket (2 * k)) host.sockets ≡ None
  pub fit : (n : ℕ) (socket : Socket) → find (is_socket n) host.sockets ≡ Some socket → IsFit socket
  pub wants : WhereWants input (λ m. m ≡ 2 * host.dials)
  pub asks : AsksFree input link.state

-- ---- ends as they may be

fit_dialed : (host : Option (List ℕ)) (stage : Stage) (user : Option (ℕ × Address)) (e : Expected) → Fits host stage user e → stage_says stage e ≡ Dialed → is_unrisen (Some (standing stage (stage_says stage e))) ≡ true
fit_dialed host Ended user e f w = absurd cc
fit_dialed host Pending user e f w = refl
fit_dialed host Open user expected.Answer f w = refl
fit_dialed host Open user expected.Request f w = absurd cc
fit_dialed host Open user expected.Frame f w = absurd cc

pub fit_up : (host : Option (List ℕ)) (stage : Stage) (user : Option (ℕ × Address)) (e : Expected) → Fits host stage user e → stage_says stage e ≡ IsUp → standing stage (stage_says stage e) ≡ IsRisen
fit_up host Ended user e f w = absurd cc
fit_up host Open user e f w = ap (standing Open) w
fit_up host Pending user expected.Request f w = absurd cc
fit_up host Pending user expected.Answer f w = absurd cc
fit_up None Pending None expected.Frame f w = absurd f
fit_up None Pending (Some user) expected.Frame f w = absurd f
fit_up (Some host) Pending None expected.Frame f w = absurd f
fit_up (Some host) Pending (Some user) expected.Frame f w = absurd f

-- an end of which a link says something is for that link
pub for_link : (end : ℕ) (peer : Address) (socket : Socket) (w : Word) → socket_says end peer (Some socket) ≡ w → (w ≡ Unnamed → ⊥) → (is_for end peer socket.user ≡ true) × (stage_says socket.stage socket.expected ≡ w)
for_link end peer socket w e some = by_test (is_for end peer socket.user) refl e where
  by_test : (b : Bool) → is_for end peer socket.user ≡ b → cond b (stage_says socket.stage socket.expected) Unnamed ≡ w → (b ≡ true) × (stage_says socket.stage socket.expected ≡ w)
  by_test true h e = (refl, e)
  by_test false h e = absurd (some (sym e))

dialed_end : (end : ℕ) (peer : Address) (o : Option Socket) → ((socket : Socket) → o ≡ Some socket → IsFit socket) → socket_says end peer o ≡ Dialed → is_unrisen (option_map standing_of o) ≡ true
dialed_end end peer None fit e = absurd cc
dialed_end end peer (Some socket) fit e = fit_dialed socket.peer_host socket.stage socket.user socket.expected (fit socket refl) (for_link end peer socket Dialed e (λ w. absurd cc)).1

up_end : (end : ℕ) (peer : Address) (o : Option Socket) → ((socket : Socket) → o ≡ Some socket → IsFit socket) → socket_says end peer o ≡ IsUp → option_map standing_of o ≡ Some IsRisen
up_end end peer None fit e = absurd cc
up_end end peer (Some socket) fit e = ap Some (fit_up socket.peer_host socket.stage socket.user socket.expected (fit socket refl) (for_link end peer socket IsUp e (λ w. absurd cc)).1)

-- the end that a state names stands as it says
pub state_right : (host : HostState) (end : ℕ) (peer : Address) (state : LinkState) → IsNamed host → state_at host end peer ≡ state → StateRight (standing_at host) state
state_right host end peer (states.Dialing d) s e = dialed_end end peer (find (is_socket d) host.sockets) (s.fit d) (sym (s.same end peer d) ∙ ap (λ (state : LinkState). link_says state d) e ∙ ap (λ b. cond b Dialed Unnamed) (number_self d))
state_right host end peer (states.Up u probed) s e = up_end end peer (find (is_socket u) host.sockets) (s.fit u) (sym (s.same end peer u) ∙ ap (λ (state : LinkState). link_says state u) e ∙ ap (λ b. cond b IsUp Unnamed) (number_self u))
state_right host end peer states.Idle s e = tt
state_right host end peer states.AwaitOther s e = tt

-- ---- what sockets say after an act

pub ended_says : (end : ℕ) (peer : Address) (o : Option Socket) → socket_says end peer (over true o) ≡ Unnamed
ended_says end peer None = refl
ended_says end peer (Some socket) = by_test (is_for end peer socket.user) where
  by_test : (b : Bool) → cond b Unnamed Unnamed ≡ Unnamed
  by_test true = refl
  by_test false = refl

-- of the link that heard
over_mine : (end : ℕ) (peer : Address) (b : Bool) (o : Option Socket) → cond b Unnamed (socket_says end peer o) ≡ socket_says end peer (over b o)
over_mine end peer true o = sym (ended_says end peer o)
over_mine end peer false o = refl

acted_mine : (act : LinkAct) (old : LinkState) (input : LinkIn) (link : Link) (n : ℕ) (o : Option Socket) (end : ℕ) (peer : Address) → is_link end peer link ≡ true → acted_says act old input n (socket_says end peer o) ≡ socket_says end peer (acted_on act old input link.end link.peer n o)
acted_mine acts.Dial old input link n o end peer h = by_test (wanted_on input == n) where
  by_test : (b : Bool) → cond b Dialed (socket_says end peer o) ≡ socket_says end peer (cond b (Some (dialed (wanted_on input) link.end link.peer)) o)
  by_test true = sym (ap (λ b. cond b Dialed Unnamed) h)
  by_test false = refl
acted_mine acts.Nothing old input link n o end peer h = over_mine end peer (is_ended_by old input acts.Nothing n) o
acted_mine acts.Accept old input link n o end peer h = over_mine end peer (is_ended_by old input acts.Accept n) o
acted_mine acts.Cross old input link n o end peer h = over_mine end peer (is_ended_by old input acts.Cross n) o
acted_mine (acts.LeaveAndAccept own) old input link n o end peer h = over_mine end peer (is_ended_by old input (acts.LeaveAndAccept own) n) o
acted_mine (acts.CrossAndProbe up) old input link n o end peer h = over_mine end peer (is_ended_by old input (acts.CrossAndProbe up) n) o
acted_mine acts.Raise old input link n o end peer h = over_mine end peer (is_ended_by old input acts.Raise n) o
acted_mine (acts.Leave own) old input link n o end peer h = over_mine end peer (is_ended_by old input (acts.Leave own) n) o
acted_mine (acts.Fail why) old input link n o end peer h = over_mine end peer (is_ended_by old input (acts.Fail why) n) o
acted_mine acts.Acknowledge old input link n o end peer h = over_mine end peer (is_ended_by old input acts.Acknowledge n) o
acted_mine acts.Close old input link n o end peer h = over_mine end peer (is_ended_by old input acts.Close n) o

-- of another link
over_other : (end : ℕ) (peer : Address) (b : Bool) (o : Option Socket) → (b ≡ true → socket_says end peer o ≡ Unnamed) → socket_says end peer o ≡ socket_says end peer (over b o)
over_other end peer true o k = k refl ∙ sym (ended_says end peer o)
over_other end peer false o k = refl

acted_other : (act : LinkAct) (old : LinkState) (input : LinkIn) (link : Link) (n : ℕ) (o : Option Socket) (end : ℕ) (peer : Address) → is_link end peer link ≡ false → WhereDials act input (λ m. (m == n) ≡ true → o ≡ None)
    → (is_ended_by old input act n ≡ true → socket_says end peer o ≡ Unnamed) → socket_says end peer o ≡ socket_says end peer (acted_on act old input link.end link.peer n o)
acted_other acts.Dial old input link n o end peer h new k = by_test (wanted_on input == n) refl where
  by_test : (b : Bool) → (wanted_on input == n) ≡ b → socket_says end peer o ≡ socket_says end peer (cond b (Some (dialed (wanted_on input) link.end link.peer)) o)
  by_test true e = ap (socket_says end peer) (new e) ∙ sym (ap (λ b. cond b Dialed Unnamed) h)
  by_test false e = refl
acted_other acts.Nothing old input link n o end peer h new k = over_other end peer (is_ended_by old input acts.Nothing n) o k
acted_other acts.Accept old input link n o end peer h new k = over_other end peer (is_ended_by old input acts.Accept n) o k
acted_other acts.Cross old input link n o end peer h new k = over_other end peer (is_ended_by old input acts.Cross n) o k
acted_other (acts.LeaveAndAccept own) old input link n o end peer h new k = over_other end peer (is_ended_by old input (acts.LeaveAndAccept own) n) o k
acted_other (acts.CrossAndProbe up) old input link n o end peer h new k = over_other end peer (is_ended_by old input (acts.CrossAndProbe up) n) o k
acted_other acts.Raise old input link n o end peer h new k = over_other end peer (is_ended_by old input acts.Raise n) o k
acted_other (acts.Leave own) old input link n o end peer h new k = over_other end peer (is_ended_by old input (acts.Leave own) n) o k
acted_other (acts.Fail why) old input link n o end peer h new k = over_other end peer (is_ended_by old input (acts.Fail why) n) o k
acted_other acts.Acknowledge old input link n o end peer h new k = over_other end peer (is_ended_by old input acts.Acknowledge n) o k
acted_other acts.Close old input link n o end peer h new k = over_other end peer (is_ended_by old input acts.Close n) o k

-- an end that the act ends is for the link that heard
ended_mine : (old : LinkState) (input : LinkIn) (greater : Bool) (link : Link) (n : ℕ) (o : Option Socket) → heard_says input old n ≡ socket_says link.end link.peer o → (end : ℕ) (peer : Address) → is_link end peer link ≡ false
    → is_ended_by old input (step_of old input greater).1 n ≡ true → socket_says end peer o ≡ Unnamed
ended_mine old input greater link n None e end peer h c = refl
ended_mine old input greater link n (Some socket) e end peer h c = by_test (is_for link.end link.peer socket.user) refl where
  clash : (b : Bool) → b ≡ true → b ≡ false → ⊥
  clash b t f = absurd cc

  by_user : (user : Option (ℕ × Address)) → is_for link.end link.peer user ≡ true → is_for end peer user ≡ false
  by_user None u = absurd cc
  by_user (Some user) u = let key = key_of link.end link.peer (record link { end = user.0; peer = user.1 }) u in ap (λ (z : ℕ). is_user end peer (z, user.1)) key.0 ∙ ap (λ (z : Address). is_user end peer (link.end, z)) key.1 ∙ h

  by_test : (b : Bool) → is_for link.end link.peer socket.user ≡ b → socket_says end peer (Some socket) ≡ Unnamed
  by_test true u = ap (λ b. cond b (stage_says socket.stage socket.expected) Unnamed) (by_user socket.user u)
  by_test false u = absurd (clash (is_ended_by old input (step_of old input greater).1 n) c (ends_named old input greater n (e ∙ ap (λ b. cond b (stage_says socket.stage socket.expected) Unnamed) u)))

-- ---- ends after an act are as they may be

ended_fit : (socket : Socket) → IsFit (ended socket)
ended_fit socket = by_host socket.peer_host socket.user socket.expected where
  by_host : (host : Option (List ℕ)) (user : Option (ℕ × Address)) (e : Expected) → Fits host Ended user e
  by_host host user e = tt

pub over_fit : (b : Bool) (o : Option Socket) (socket : Socket) → ((known : Socket) → o ≡ Some known → IsFit known) → over b o ≡ Some socket → IsFit socket
over_fit true None socket fit e = absurd cc
over_fit true (Some known) socket fit e = let is : ended known ≡ socket = cc in subst IsFit is (ended_fit known)
over_fit false o socket fit e = fit socket e

acted_fit : (act : LinkAct) (old : LinkState) (input : LinkIn) (link : Link) (n : ℕ) (o : Option Socket) (socket : Socket) → ((known : Socket) → o ≡ Some known → IsFit known) → acted_on act old input link.end link.peer n o ≡ Some socket → IsFit socket
acted_fit acts.Dial old input link n o socket fit e = by_test (wanted_on input == n) e where
  by_test : (b : Bool) → cond b (Some (dialed (wanted_on input) link.end link.peer)) o ≡ Some socket → IsFit socket
  by_test true e = let is : dialed (wanted_on input) link.end link.peer ≡ socket = cc in subst IsFit is tt
  by_test false e = fit socket e
acted_fit acts.Nothing old input link n o socket fit e = over_fit (is_ended_by old input acts.Nothing n) o socket fit e
acted_fit acts.Accept old input link n o socket fit e = over_fit (is_ended_by old input acts.Accept n) o socket fit e
acted_fit acts.Cross old input link n o socket fit e = over_fit (is_ended_by old input acts.Cross n) o socket fit e
acted_fit (acts.LeaveAndAccept own) old input link n o socket fit e = over_fit (is_ended_by old input (acts.LeaveAndAccept own) n) o socket fit e
acted_fit (acts.CrossAndProbe up) old input link n o socket fit e = over_fit (is_ended_by old input (acts.CrossAndProbe up) n) o socket fit e
acted_fit acts.Raise old input link n o socket fit e = over_fit (is_ended_by old input acts.Raise n) o socket fit e
acted_fit (acts.Leave own) old input link n o socket fit e = over_fit (is_ended_by old input (acts.Leave own) n) o socket fit e
acted_fit (acts.Fail why) old input link n o socket fit e = over_fit (is_ended_by old input (acts.Fail why) n) o socket fit e
acted_fit acts.Acknowledge old input link n o socket fit e = over_fit (is_ended_by old input acts.Acknowledge n) o socket fit e
acted_fit acts.Close old input link n o socket fit e = over_fit (is_ended_by old input acts.Close n) o socket fit e

-- ---- numbers

pub over_none : (b : Bool) (o : Option Socket) → o ≡ None → over b o ≡ None
over_none b None e = by_test b where
  by_test : (b : Bool) → over b None ≡ None
  by_test true = refl
  by_test false = refl
over_none b (Some socket) e = absurd cc

-- a number that the act doesn't dial stays free
acted_none : (act : LinkAct) (old : LinkState) (input : LinkIn) (link : Link) (n : ℕ) (o : Option Socket) → WhereDials act input (λ m. (m == n) ≡ false) → o ≡ None → acted_on act old input link.end link.peer n o ≡ None
acted_none acts.Dial old input link n o d e = ap (λ b. cond b (Some (dialed (wanted_on input) link.end link.peer)) o) d ∙ e
acted_none acts.Nothing old input link n o d e = over_none (is_ended_by old input acts.Nothing n) o e
acted_none acts.Accept old input link n o d e = over_none (is_ended_by old input acts.Accept n) o e
acted_none acts.Cross old input link n o d e = over_none (is_ended_by old input acts.Cross n) o e
acted_none (acts.LeaveAndAccept own) old input link n o d e = over_none (is_ended_by old input (acts.LeaveAndAccept own) n) o e
acted_none (acts.CrossAndProbe up) old input link n o d e = over_none (is_ended_by old input (acts.CrossAndProbe up) n) o e
acted_none acts.Raise old input link n o d e = over_none (is_ended_by old input acts.Raise n) o e
acted_none (acts.Leave own) old input link n o d e = over_none (is_ended_by old input (acts.Leave own) n) o e
acted_none (acts.Fail why) old input link n o d e = over_none (is_ended_by old input (acts.Fail why) n) o e
acted_none acts.Acknowledge old input link n o d e = over_none (is_ended_by old input acts.Acknowledge n) o e
acted_none acts.Close old input link n o d e = over_none (is_ended_by old input acts.Close n) o e

abbrev pub map_dials : (act : LinkAct) (input : LinkIn) (P Q : ℕ → Type 0) → ((m : ℕ) → P m → Q m) → WhereDials act input P → WhereDials act input Q
map_dials acts.Dial input P Q k w = k (wanted_on input) w
map_dials act input P Q k w = tt

even_even : (d k m : ℕ) → d + 1 ≤ k → m ≡ 2 * d → (m == 2 * k) ≡ false
even_even d k m l e = grind (arith, nat_tests)

even_odd : (d k m : ℕ) → m ≡ 2 * d → (m == 2 * k + 1) ≡ false
even_odd d k m e = grind (arith, nat_tests)

-- ---- what a link hears

-- the host after what was heard says the same of links and sockets
pub record Heard (input : LinkIn) (link : Link) (before : HostState) (told : List Step) (after : HostState) : Type 0 where
  pub named : IsNamed after
  pub socks : (n : ℕ) → find (is_socket n) after.sockets ≡ acted_on (step_of link.state input (is_greater (own_address before link.end) link.peer)).1 link.state input link.end link.peer n (find (is_socket n) before.sockets)
  pub odd : (k : ℕ) → find (is_socket (2 * k + 1)) before.sockets ≡ None → find (is_socket (2 * k + 1)) after.sockets ≡ None
  pub effect : (n : ℕ) (now : Option Standing) → standing_after_all told n now ≡ acted_standing (step_of link.state input (is_greater (own_address before link.end) link.peer)).1 link.state input (step_of link.state input (is_greater (own_address before link.end) link.peer)).0 n now
  pub right : (f : ℕ → Option Standing) → ActRight f (step_of link.state input (is_greater (own_address before link.end) link.peer)).1 link.state input (step_of link.state input (is_greater (own_address before link.end) link.peer)).0 → AreRight f told

abbrev pub AllHeard : LinkIn → Link → HostState → Stepped → Type 0
AllHeard input link before (Ok done) = Heard input link before done.0 done.1
AllHeard input link before (Err stop) = Unit {0}

pub heard : (input : LinkIn) (link : Link) (host : HostState) → IsAsked input link host → AllHeard input link host (hears input link host)
heard input link host a = by_done (does_act told.1 link.state input now (with_link now host)) (acted told.1 link.state input now (with_link now host) at_now) where
  greater : Bool
  greater = is_greater (own_address host link.end) link.peer

  told : LinkState × LinkAct
  told = step_of link.state input greater

  now : Link
  now = record link { state = told.0 }

  at_now : IsAt now (with_link now host)
  at_now end peer h = relinked now host end peer ∙ ap (λ b. cond b told.0 (state_at host end peer)) h

  dials : WhereDials told.1 input (λ m. m ≡ 2 * host.dials)
  dials = dials_wanted link.state input greater (λ m. m ≡ 2 * host.dials) a.wants

  dials_new : (n : ℕ) → WhereDials told.1 input (λ m. (m == n) ≡ true → find (is_socket n) host.sockets ≡ None)
  dials_new n = map_dials told.1 input (λ m. m ≡ 2 * host.dials) (λ m. (m == n) ≡ true → find (is_socket n) host.sockets ≡ None) (λ m e h. subst (λ (z : ℕ). find (is_socket z) host.sockets ≡ None) (sym e ∙ eqb-true m n h) (a.free host.dials (same_as host.dials))) dials where
    same_as : (d : ℕ) → d ≤ d
    same_as d = omega arith

  by_key : (end : ℕ) (peer : Address) (n : ℕ) (k : Bool) → is_link end peer link ≡ k → cond k (heard_says input link.state n) (link_says (state_at host end peer) n) ≡ socket_says end peer (find (is_socket n) host.sockets)
      → link_says (cond k told.0 (state_at host end peer)) n ≡ socket_says end peer (acted_on told.1 link.state input link.end link.peer n (find (is_socket n) host.sockets))
  by_key end peer n true h w = table_says link.state input greater n a.asks ∙ ap (acted_says told.1 link.state input n) w ∙ acted_mine told.1 link.state input link n (find (is_socket n) host.sockets) end peer h
  by_key end peer n false h w = w ∙ acted_other told.1 link.state input link n (find (is_socket n) host.sockets) end peer h (dials_new n)
      (ended_mine link.state input greater link n (find (is_socket n) host.sockets) (sym (ap (λ b. cond b (heard_says input link.state n) (link_says (state_at host link.end link.peer) n)) (key_self link)) ∙ a.said link.end link.peer n) end peer h)

  by_dials : (act : LinkAct) (d k : ℕ) → dials_after act host.dials ≤ k → WhereDials act input (λ m. m ≡ 2 * host.dials) → WhereDials act input (λ m. (m == 2 * k) ≡ false)
  by_dials acts.Dial d k l w = even_even host.dials k (wanted_on input) l w
  by_dials act d k l w = tt

  at_least : (act : LinkAct) (k : ℕ) → dials_after act host.dials ≤ k → host.dials ≤ k
  at_least acts.Dial k l = omega arith
  at_least acts.Nothing k l = l
  at_least acts.Accept k l = l
  at_least act k l = l

  by_done : (done : Stepped) → AllDoes told.1 link.state input now (with_link now host) done → AllHeard input link host done
  by_done (Ok done) d = record {
    named = record {
      free = λ k l. let least = subst (λ (m : ℕ). m ≤ k) d.dials l in d.socks (2 * k) ∙ acted_none told.1 link.state input link (2 * k) (find (is_socket (2 * k)) host.sockets) (by_dials told.1 host.dials k least dials) (a.free k (at_least told.1 k least));
      fit = λ n socket e. acted_fit told.1 link.state input link n (find (is_socket n) host.sockets) socket (a.fit n) (sym (d.socks n) ∙ e);
      same = λ end peer n. ap (λ (state : LinkState). link_says state n) (d.states end peer ∙ relinked now host end peer) ∙ by_key end peer n (is_link end peer link) refl (a.said end peer n) ∙ sym (ap (socket_says end peer) (d.socks n));
    };
    socks = d.socks;
    odd = λ k none. d.socks (2 * k + 1) ∙ acted_none told.1 link.state input link (2 * k + 1) (find (is_socket (2 * k + 1)) host.sockets) (map_dials told.1 input (λ m. m ≡ 2 * host.dials) (λ m. (m == 2 * k + 1) ≡ false) (λ m e. even_odd host.dials k m e) dials) none;
    effect = d.effect;
    right = d.right;
  }
  by_done (Err stop) d = tt
