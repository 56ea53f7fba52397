-- What the link table makes of what is said of a socket.
use Rattle.std.proofs.Common.{◌≡◌, ℕ, Bool, true, false, cond, refl, sym, ap, ◌∙◌, subst}
use Rattle.std.proofs.lemmas.Bool.{eqb-true}
use Rattle.std.specs.Prelude.{◌==◌}
use Rattle.ch_link.specs.Table.{step_of}
use Rattle.ch_link.specs.declared.LinkAct.{LinkAct}
use Rattle.ch_link.specs.declared.LinkAct.TheVariants as acts
use Rattle.ch_link.specs.declared.LinkAnswer.TheVariants as links
use Rattle.ch_link.specs.declared.LinkIn.{LinkIn}
use Rattle.ch_link.specs.declared.LinkIn.TheVariants as inputs
use Rattle.ch_link.specs.declared.LinkState.{LinkState}
use Rattle.ch_link.specs.declared.LinkState.TheVariants as states
use Rattle.ch_model.specs.HostLinks.{asked_on, wanted_on}
use Rattle.ch_laws_links.specs.Naming.{Word, Unnamed, Dialed, IsUp, link_says}

-- the link names the socket
abbrev pub is_named : LinkState → ℕ → Bool
is_named (states.Dialing d) n = d == n
is_named (states.Up u probed) n = u == n
is_named state n = false

-- what ends say when a link hears this input: one that was asked on, or answered, says already that the link is up on it
abbrev pub heard_says : LinkIn → LinkState → ℕ → Word
heard_says (inputs.Asked s) state n = cond (s == n) IsUp (link_says state n)
heard_says (inputs.Answered a) (states.Dialing d) n = cond (d == n) IsUp Unnamed
heard_says input state n = link_says state n

-- the act ends the host's end of the socket
abbrev pub is_ended_by : LinkState → LinkIn → LinkAct → ℕ → Bool
is_ended_by old input (acts.LeaveAndAccept own) n = own == n
is_ended_by old input (acts.Leave own) n = own == n
is_ended_by old input (acts.Fail why) n = is_named old n
is_ended_by old input acts.Close n = is_named old n
is_ended_by old input acts.Cross n = asked_on input == n
is_ended_by old input (acts.CrossAndProbe up) n = asked_on input == n
is_ended_by old input act n = false

-- what the end says after the act
abbrev pub acted_says : LinkAct → LinkState → LinkIn → ℕ → Word → Word
acted_says acts.Dial old input n word = cond (wanted_on input == n) Dialed word
acted_says act old input n word = cond (is_ended_by old input act n) Unnamed word

-- the socket that is asked on is named by none
abbrev pub AsksFree : LinkIn → LinkState → Type 0
AsksFree (inputs.Asked s) state = is_named state s ≡ false
AsksFree input state = Unit {0}

pub clash : {A : Type 0} → true ≡ false → A
clash e = absurd (no e) where
  no : true ≡ false → ⊥
  no e = cc

-- of two numbers that differ the second is no third that is the first
pub apart : (d s n : ℕ) → (d == s) ≡ false → (s == n) ≡ true → (d == n) ≡ false
apart d s n e h = subst (λ (m : ℕ). (d == m) ≡ false) (eqb-true s n h) e

twice : (b : Bool) (w : Word) → Unnamed ≡ cond b Unnamed (cond b w Unnamed)
twice true w = refl
twice false w = refl

crossed : (d s n : ℕ) (w : Word) → (d == s) ≡ false → cond (d == n) w Unnamed ≡ cond (s == n) Unnamed (cond (s == n) IsUp (cond (d == n) w Unnamed))
crossed d s n w e = by_test (s == n) refl where
  by_test : (b : Bool) → (s == n) ≡ b → cond (d == n) w Unnamed ≡ cond b Unnamed (cond b IsUp (cond (d == n) w Unnamed))
  by_test true h = ap (λ b. cond b w Unnamed) (apart d s n e h)
  by_test false h = refl

left_for : (d s n : ℕ) → (d == s) ≡ false → cond (s == n) IsUp Unnamed ≡ cond (d == n) Unnamed (cond (s == n) IsUp (cond (d == n) Dialed Unnamed))
left_for d s n e = by_tests (d == n) refl (s == n) refl where
  by_tests : (a : Bool) → (d == n) ≡ a → (b : Bool) → (s == n) ≡ b → cond b IsUp Unnamed ≡ cond a Unnamed (cond b IsUp (cond a Dialed Unnamed))
  by_tests true h true g = clash (sym h ∙ apart d s n e g)
  by_tests true h false g = refl
  by_tests false h true g = refl
  by_tests false h false g = refl

-- the new state says of each socket what its end says after the act
pub table_says : (old : LinkState) (input : LinkIn) (greater : Bool) (n : ℕ) → AsksFree input old
    → link_says (step_of old input greater).0 n ≡ acted_says (step_of old input greater).1 old input n (heard_says input old n)
unfolding step_of
table_says states.Idle (inputs.Want m) greater n f = refl
table_says states.Idle (inputs.Asked s) greater n f = refl
table_says states.Idle (inputs.Answered a) greater n f = refl
table_says states.Idle inputs.Gone greater n f = refl
table_says states.Idle inputs.EndClosed greater n f = refl
table_says states.Idle inputs.Probe greater n f = refl
table_says states.Idle inputs.Ack greater n f = refl
table_says states.Idle inputs.Late greater n f = refl
table_says states.Idle inputs.Shut greater n f = refl
table_says states.AwaitOther (inputs.Want m) greater n f = refl
table_says states.AwaitOther (inputs.Asked s) greater n f = refl
table_says states.AwaitOther (inputs.Answered a) greater n f = refl
table_says states.AwaitOther inputs.Gone greater n f = refl
table_says states.AwaitOther inputs.EndClosed greater n f = refl
table_says states.AwaitOther inputs.Probe greater n f = refl
table_says states.AwaitOther inputs.Ack greater n f = refl
table_says states.AwaitOther inputs.Late greater n f = refl
table_says states.AwaitOther inputs.Shut greater n f = refl
table_says (states.Dialing d) (inputs.Want m) greater n f = refl
table_says (states.Dialing d) (inputs.Asked s) true n f = crossed d s n Dialed f
table_says (states.Dialing d) (inputs.Asked s) false n f = left_for d s n f
table_says (states.Dialing d) (inputs.Answered links.Accepted) greater n f = refl
table_says (states.Dialing d) (inputs.Answered links.Crossed) greater n f = twice (d == n) IsUp
table_says (states.Dialing d) (inputs.Answered links.Invalid) greater n f = twice (d == n) IsUp
table_says (states.Dialing d) (inputs.Answered links.Mismatch) greater n f = twice (d == n) IsUp
table_says (states.Dialing d) inputs.Gone greater n f = twice (d == n) Dialed
table_says (states.Dialing d) inputs.EndClosed greater n f = refl
table_says (states.Dialing d) inputs.Probe greater n f = refl
table_says (states.Dialing d) inputs.Ack greater n f = refl
table_says (states.Dialing d) inputs.Late greater n f = twice (d == n) Dialed
table_says (states.Dialing d) inputs.Shut greater n f = twice (d == n) Dialed
table_says (states.Up u probed) (inputs.Want m) greater n f = refl
table_says (states.Up u true) (inputs.Asked s) greater n f = crossed u s n IsUp f
table_says (states.Up u false) (inputs.Asked s) greater n f = crossed u s n IsUp f
table_says (states.Up u probed) (inputs.Answered a) greater n f = refl
table_says (states.Up u probed) inputs.Gone greater n f = twice (u == n) IsUp
table_says (states.Up u probed) inputs.EndClosed greater n f = twice (u == n) IsUp
table_says (states.Up u probed) inputs.Probe greater n f = refl
table_says (states.Up u probed) inputs.Ack greater n f = refl
table_says (states.Up u true) inputs.Late greater n f = twice (u == n) IsUp
table_says (states.Up u false) inputs.Late greater n f = refl
table_says (states.Up u probed) inputs.Shut greater n f = twice (u == n) IsUp

-- ---- what no end says

dialed_says : (b : Bool) → cond b Dialed Unnamed ≡ Unnamed → b ≡ false
dialed_says true e = absurd cc
dialed_says false e = refl

up_says : (b : Bool) → cond b IsUp Unnamed ≡ Unnamed → b ≡ false
up_says true e = absurd cc
up_says false e = refl

asked_says : (b : Bool) (w : Word) → cond b IsUp w ≡ Unnamed → b ≡ false
asked_says true w e = absurd cc
asked_says false w e = refl

asked_rest : (b : Bool) (w : Word) → cond b IsUp w ≡ Unnamed → w ≡ Unnamed
asked_rest true w e = absurd cc
asked_rest false w e = e

pub unnamed_state : (state : LinkState) (n : ℕ) → link_says state n ≡ Unnamed → is_named state n ≡ false
unnamed_state states.Idle n e = refl
unnamed_state states.AwaitOther n e = refl
unnamed_state (states.Dialing d) n e = dialed_says (d == n) e
unnamed_state (states.Up u probed) n e = up_says (u == n) e

-- an end that says nothing of the link isn't ended by it
pub ends_named : (old : LinkState) (input : LinkIn) (greater : Bool) (n : ℕ) → heard_says input old n ≡ Unnamed → is_ended_by old input (step_of old input greater).1 n ≡ false
unfolding step_of
ends_named states.Idle (inputs.Want m) greater n e = refl
ends_named states.Idle (inputs.Asked s) greater n e = refl
ends_named states.Idle (inputs.Answered a) greater n e = refl
ends_named states.Idle inputs.Gone greater n e = refl
ends_named states.Idle inputs.EndClosed greater n e = refl
ends_named states.Idle inputs.Probe greater n e = refl
ends_named states.Idle inputs.Ack greater n e = refl
ends_named states.Idle inputs.Late greater n e = refl
ends_named states.Idle inputs.Shut greater n e = refl
ends_named states.AwaitOther (inputs.Want m) greater n e = refl
ends_named states.AwaitOther (inputs.Asked s) greater n e = refl
ends_named states.AwaitOther (inputs.Answered a) greater n e = refl
ends_named states.AwaitOther inputs.Gone greater n e = refl
ends_named states.AwaitOther inputs.EndClosed greater n e = refl
ends_named states.AwaitOther inputs.Probe greater n e = refl
ends_named states.AwaitOther inputs.Ack greater n e = refl
ends_named states.AwaitOther inputs.Late greater n e = refl
ends_named states.AwaitOther inputs.Shut greater n e = refl
ends_named (states.Dialing d) (inputs.Want m) greater n e = refl
ends_named (states.Dialing d) (inputs.Asked s) true n e = asked_says (s == n) (cond (d == n) Dialed Unnamed) e
ends_named (states.Dialing d) (inputs.Asked s) false n e = dialed_says (d == n) (asked_rest (s == n) (cond (d == n) Dialed Unnamed) e)
ends_named (states.Dialing d) (inputs.Answered links.Accepted) greater n e = refl
ends_named (states.Dialing d) (inputs.Answered links.Crossed) greater n e = up_says (d == n) e
ends_named (states.Dialing d) (inputs.Answered links.Invalid) greater n e = up_says (d == n) e
ends_named (states.Dialing d) (inputs.Answered links.Mismatch) greater n e = up_says (d == n) e
ends_named (states.Dialing d) inputs.Gone greater n e = dialed_says (d == n) e
ends_named (states.Dialing d) inputs.EndClosed greater n e = refl
ends_named (states.Dialing d) inputs.Probe greater n e = refl
ends_named (states.Dialing d) inputs.Ack greater n e = refl
ends_named (states.Dialing d) inputs.Late greater n e = dialed_says (d == n) e
ends_named (states.Dialing d) inputs.Shut greater n e = dialed_says (d == n) e
ends_named (states.Up u probed) (inputs.Want m) greater n e = refl
ends_named (states.Up u true) (inputs.Asked s) greater n e = asked_says (s == n) (cond (u == n) IsUp Unnamed) e
ends_named (states.Up u false) (inputs.Asked s) greater n e = asked_says (s == n) (cond (u == n) IsUp Unnamed) e
ends_named (states.Up u probed) (inputs.Answered a) greater n e = refl
ends_named (states.Up u probed) inputs.Gone greater n e = up_says (u == n) e
ends_named (states.Up u probed) inputs.EndClosed greater n e = up_says (u == n) e
ends_named (states.Up u probed) inputs.Probe greater n e = refl
ends_named (states.Up u probed) inputs.Ack greater n e = refl
ends_named (states.Up u true) inputs.Late greater n e = up_says (u == n) e
ends_named (states.Up u false) inputs.Late greater n e = refl
ends_named (states.Up u probed) inputs.Shut greater n e = up_says (u == n) e

-- ---- what dials

-- where the table dials, this holds of the input
abbrev pub WhereDials : LinkAct → LinkIn → (ℕ → Type 0) → Type 0
WhereDials acts.Dial input P = P (wanted_on input)
WhereDials act input P = Unit {0}

abbrev pub WhereWants : LinkIn → (ℕ → Type 0) → Type 0
WhereWants (inputs.Want m) P = P m
WhereWants input P = Unit {0}

pub dials_wanted : (old : LinkState) (input : LinkIn) (greater : Bool) (P : ℕ → Type 0) → WhereWants input P → WhereDials (step_of old input greater).1 input P
unfolding step_of
dials_wanted states.Idle (inputs.Want n) greater P w = w
dials_wanted (states.Dialing d) (inputs.Want n) greater P w = tt
dials_wanted states.AwaitOther (inputs.Want n) greater P w = tt
dials_wanted (states.Up u probed) (inputs.Want n) greater P w = tt
dials_wanted states.Idle (inputs.Asked s) greater P w = tt
dials_wanted states.AwaitOther (inputs.Asked s) greater P w = tt
dials_wanted (states.Dialing d) (inputs.Asked s) true P w = tt
dials_wanted (states.Dialing d) (inputs.Asked s) false P w = tt
dials_wanted (states.Up u false) (inputs.Asked s) greater P w = tt
dials_wanted (states.Up u true) (inputs.Asked s) greater P w = tt
dials_wanted (states.Dialing d) (inputs.Answered links.Accepted) greater P w = tt
dials_wanted (states.Dialing d) (inputs.Answered links.Crossed) greater P w = tt
dials_wanted (states.Dialing d) (inputs.Answered links.Invalid) greater P w = tt
dials_wanted (states.Dialing d) (inputs.Answered links.Mismatch) greater P w = tt
dials_wanted (states.Up u true) inputs.Late greater P w = tt
dials_wanted (states.Up u false) inputs.Late greater P w = tt
dials_wanted state input greater P w = tt
