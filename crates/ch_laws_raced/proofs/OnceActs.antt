-- What a link does as it hears an input that doesn't shut it: unless it fails, it isn't idle again, and dials only from idle.
use Rattle.std.proofs.Common.{◌≡◌, ◌⊎◌, inl, inr, ℕ, ◌+◌, Bool, true, false, cond, ◌||◌, List, [], ◌∷◌, ◌++◌, map, Ok, Err, refl, sym, ap, ◌∙◌}
use Rattle.std.proofs.lemmas.Bool.{and_parts}
use Rattle.std.proofs.lemmas.List.Folds.{list_any-append, list_all-append}
use Rattle.std.specs.Prelude.{nat_lt}
use Rattle.ch_base.specs.declared.address.Address.{Address}
use Rattle.ch_base.specs.declared.memory.Stop.TheVariants as stops
use Rattle.ch_wire.specs.declared.frame.Frame.{Frame}
use Rattle.ch_link.specs.Table.{step_of}
use Rattle.ch_link.specs.declared.LinkAct.{LinkAct}
use Rattle.ch_link.specs.declared.LinkAct.TheVariants as acts
use Rattle.ch_link.specs.declared.LinkAnswer.TheVariants as links
use Rattle.ch_link.specs.declared.LinkIn.{LinkIn}
use Rattle.ch_link.specs.declared.LinkIn.TheVariants as inputs
use Rattle.ch_link.specs.declared.LinkState.{LinkState}
use Rattle.ch_link.specs.declared.LinkState.TheVariants.{Idle, Dialing, AwaitOther, Up}
use Rattle.ch_model.specs.declared.step.Step.{Step}
use Rattle.ch_model.specs.declared.step.Step.TheVariants as steps
use Rattle.ch_model.specs.declared.step.Weight.{Weight}
use Rattle.ch_model.specs.Greater.{is_greater}
use Rattle.ch_model.specs.HostLinks as asks
use Rattle.ch_model.specs.HostLinks.{most_dials, dialed, dials_for, wanted_on, raised, acknowledged, does_act, hears}
use Rattle.ch_model.specs.HostState.{Link, HostState}
use Rattle.ch_model.specs.HostSteps.{Stepped, after_steps, ◌then◌, own_address, is_link, with_link, with_socket}
use Rattle.ch_model.specs.HostWrites.{frame_step}
use Rattle.ch_laws_links.proofs.Acts.{AllDoes, IsAt, acted}
use Rattle.ch_laws_links.proofs.Keys.{state_at, relinked}
use Rattle.ch_laws_live.proofs.Logs.{clash, or_either}
use Rattle.ch_laws_raced.specs.UnbrokenBreaks.{is_calm, calm}
use Rattle.ch_laws_raced.specs.OnceBegun.{is_idle, is_dial_for, has_dial_for, GoesOn}

-- ---- what is done, one thing after another

-- where what is done is calm, links go on
abbrev pub AllOn : HostState → Stepped → Type 0
AllOn before (Ok done) = calm done.0 ≡ true → GoesOn before done.0 done.1
AllOn before (Err stop) = Unit {0}

-- no socket is dialed
abbrev pub NoDials : List Step → Type 0
NoDials told = (end : ℕ) (peer : Address) → has_dial_for end peer told ≡ false

-- states stay as they are, and no socket is dialed
pub rests : (before after : HostState) (told : List Step) → ((end : ℕ) (peer : Address) → state_at after end peer ≡ state_at before end peer) → NoDials told → GoesOn before told after
rests before after told same none = record {
  kept = λ end peer begun. ap is_idle (same end peer) ∙ begun;
  dials = λ end peer dials. absurd (clash (has_dial_for end peer told) dials (none end peer));
}

pub goes_both : (before mid after : HostState) (xs ys : List Step) → GoesOn before xs mid → GoesOn mid ys after → GoesOn before (xs ++ ys) after
goes_both before mid after xs ys one two = record {
  kept = λ end peer begun. two.kept end peer (one.kept end peer begun);
  dials = λ end peer dials. by_either end peer (or_either (has_dial_for end peer xs) (has_dial_for end peer ys) (sym (list_any-append (is_dial_for end peer) xs ys) ∙ dials));
} where
  by_idle : (end : ℕ) (peer : Address) (b : Bool) → is_idle (state_at before end peer) ≡ b → is_idle (state_at mid end peer) ≡ true → b ≡ true
  by_idle end peer true is idle = refl
  by_idle end peer false is idle = absurd (clash (is_idle (state_at mid end peer)) idle (one.kept end peer is))

  by_either : (end : ℕ) (peer : Address) → (has_dial_for end peer xs ≡ true) ⊎ (has_dial_for end peer ys ≡ true) → (is_idle (state_at before end peer) ≡ true) × (is_idle (state_at after end peer) ≡ false)
  by_either end peer (inl d) = let first = one.dials end peer d in (first.0, two.kept end peer first.1)
  by_either end peer (inr d) = let second = two.dials end peer d in (by_idle end peer (is_idle (state_at before end peer)) refl second.0, second.1)

pub calm_parts : (xs ys : List Step) → calm (xs ++ ys) ≡ true → (calm xs ≡ true) × (calm ys ≡ true)
calm_parts xs ys c = and_parts (calm xs) (calm ys) (sym (list_all-append is_calm xs ys) ∙ c)

pub then_on : (before : HostState) (done : Stepped) (f : HostState → Stepped) → AllOn before done → ((next : HostState) → AllOn next (f next)) → AllOn before (done then f)
then_on before (Err stop) f one more = tt
then_on before (Ok done) f one more = by_rest (f done.1) (more done.1) where
  by_rest : (rest : Stepped) → AllOn done.1 rest → AllOn before (after_steps done.0 rest)
  by_rest (Err stop) two = tt
  by_rest (Ok rest) two = λ c. let parts = calm_parts done.0 rest.0 c in goes_both before done.1 rest.1 done.0 rest.0 (one parts.0) (two parts.1)

-- from a host with the same links
pub from_on : (before mid : HostState) (done : Stepped) → ((end : ℕ) (peer : Address) → state_at mid end peer ≡ state_at before end peer) → AllOn mid done → AllOn before done
from_on before mid (Err stop) same one = tt
from_on before mid (Ok done) same one = λ c. goes_both before mid done.1 [] done.0 (rests before mid [] same (λ end peer. refl)) (one c)

-- ---- the table

-- what the act and the new state say: a link that has begun isn't idle again, unless it fails; and dials only from idle
abbrev pub Begins : LinkAct → LinkState → LinkState → Type 0
Begins acts.Dial old new = (is_idle old ≡ true) × (is_idle new ≡ false)
Begins (acts.Fail why) old new = Unit {0}
Begins act old new = is_idle old ≡ false → is_idle new ≡ false

abbrev pub IsOn : LinkState → LinkState × LinkAct → Type 0
IsOn old told = Begins told.1 old told.0

-- the input doesn't shut the link
abbrev pub is_open_in : LinkIn → Bool
is_open_in inputs.Shut = false
is_open_in input = true

want_on : (n : ℕ) (state : LinkState) (greater : Bool) → IsOn state (step_of state (inputs.Want n) greater)
unfolding step_of
want_on n Idle greater = (refl, refl)
want_on n (Dialing d) greater = λ b. refl
want_on n AwaitOther greater = λ b. refl
want_on n (Up u probed) greater = λ b. refl

asked_on : (n : ℕ) (state : LinkState) (greater : Bool) → IsOn state (step_of state (inputs.Asked n) greater)
unfolding step_of
asked_on n Idle greater = λ b. refl
asked_on n AwaitOther greater = λ b. refl
asked_on n (Dialing d) true = λ b. refl
asked_on n (Dialing d) false = λ b. refl
asked_on n (Up u true) greater = λ b. refl
asked_on n (Up u false) greater = λ b. refl

accepted_on : (state : LinkState) (greater : Bool) → IsOn state (step_of state (inputs.Answered links.Accepted) greater)
unfolding step_of
accepted_on Idle greater = λ b. b
accepted_on (Dialing d) greater = λ b. refl
accepted_on AwaitOther greater = λ b. refl
accepted_on (Up u probed) greater = λ b. refl

crossed_on : (state : LinkState) (greater : Bool) → IsOn state (step_of state (inputs.Answered links.Crossed) greater)
unfolding step_of
crossed_on Idle greater = λ b. b
crossed_on (Dialing d) greater = λ b. refl
crossed_on AwaitOther greater = λ b. refl
crossed_on (Up u probed) greater = λ b. refl

invalid_on : (state : LinkState) (greater : Bool) → IsOn state (step_of state (inputs.Answered links.Invalid) greater)
unfolding step_of
invalid_on Idle greater = λ b. b
invalid_on (Dialing d) greater = tt
invalid_on AwaitOther greater = λ b. refl
invalid_on (Up u probed) greater = λ b. refl

mismatch_on : (state : LinkState) (greater : Bool) → IsOn state (step_of state (inputs.Answered links.Mismatch) greater)
unfolding step_of
mismatch_on Idle greater = λ b. b
mismatch_on (Dialing d) greater = tt
mismatch_on AwaitOther greater = λ b. refl
mismatch_on (Up u probed) greater = λ b. refl

gone_on : (state : LinkState) (greater : Bool) → IsOn state (step_of state inputs.Gone greater)
unfolding step_of
gone_on Idle greater = λ b. b
gone_on (Dialing d) greater = tt
gone_on AwaitOther greater = λ b. refl
gone_on (Up u probed) greater = tt

closed_on : (state : LinkState) (greater : Bool) → IsOn state (step_of state inputs.EndClosed greater)
unfolding step_of
closed_on Idle greater = λ b. b
closed_on (Dialing d) greater = λ b. refl
closed_on AwaitOther greater = λ b. refl
closed_on (Up u probed) greater = tt

probe_on : (state : LinkState) (greater : Bool) → IsOn state (step_of state inputs.Probe greater)
unfolding step_of
probe_on Idle greater = λ b. b
probe_on (Dialing d) greater = λ b. refl
probe_on AwaitOther greater = λ b. refl
probe_on (Up u probed) greater = λ b. refl

ack_on : (state : LinkState) (greater : Bool) → IsOn state (step_of state inputs.Ack greater)
unfolding step_of
ack_on Idle greater = λ b. b
ack_on (Dialing d) greater = λ b. refl
ack_on AwaitOther greater = λ b. refl
ack_on (Up u probed) greater = λ b. refl

late_on : (state : LinkState) (greater : Bool) → IsOn state (step_of state inputs.Late greater)
unfolding step_of
late_on Idle greater = λ b. b
late_on (Dialing d) greater = tt
late_on AwaitOther greater = tt
late_on (Up u true) greater = tt
late_on (Up u false) greater = λ b. refl

table_on : (input : LinkIn) (state : LinkState) (greater : Bool) → is_open_in input ≡ true → IsOn state (step_of state input greater)
table_on (inputs.Want n) state greater o = want_on n state greater
table_on (inputs.Asked n) state greater o = asked_on n state greater
table_on (inputs.Answered links.Accepted) state greater o = accepted_on state greater
table_on (inputs.Answered links.Crossed) state greater o = crossed_on state greater
table_on (inputs.Answered links.Invalid) state greater o = invalid_on state greater
table_on (inputs.Answered links.Mismatch) state greater o = mismatch_on state greater
table_on inputs.Gone state greater o = gone_on state greater
table_on inputs.EndClosed state greater o = closed_on state greater
table_on inputs.Probe state greater o = probe_on state greater
table_on inputs.Ack state greater o = ack_on state greater
table_on inputs.Late state greater o = late_on state greater
table_on inputs.Shut state greater o = absurd cc

-- ---- what an act tells

-- a dial tells that alone; a link that fails isn't calm; and nothing else dials
abbrev pub Tells : LinkAct → LinkIn → Link → List Step → Type 0
Tells acts.Dial input link told = told ≡ steps.Dial (wanted_on input) link.end link.peer ∷ []
Tells (acts.Fail why) input link told = calm told ≡ false
Tells act input link told = NoDials told

abbrev pub AllTell : LinkAct → LinkIn → Link → Stepped → Type 0
AllTell act input link (Ok done) = Tells act input link done.0
AllTell act input link (Err stop) = Unit {0}

pub frames_dial_none : (sock : ℕ) (waits : List (Frame × Weight)) → NoDials (map (frame_step sock) waits)
frames_dial_none sock [] end peer = refl
frames_dial_none sock (item ∷ waits) end peer = frames_dial_none sock waits end peer

raised_tells : (state : LinkState) (input : LinkIn) (link : Link) (host : HostState) → AllTell acts.Raise input link (raised state link host)
raised_tells Idle input link host = λ end peer. refl
raised_tells (Dialing d) input link host = λ end peer. refl
raised_tells AwaitOther input link host = λ end peer. refl
raised_tells (Up u probed) input link host = frames_dial_none u link.waits

acknowledged_tells : (state : LinkState) (input : LinkIn) (link : Link) (host : HostState) → AllTell acts.Acknowledge input link (acknowledged state host)
acknowledged_tells Idle input link host = λ end peer. refl
acknowledged_tells (Dialing d) input link host = λ end peer. refl
acknowledged_tells AwaitOther input link host = λ end peer. refl
acknowledged_tells (Up u probed) input link host = λ end peer. refl

dial_tells : (input : LinkIn) (link : Link) (host : HostState) → AllTell acts.Dial input link (dials_for (wanted_on input) link host)
dial_tells input link host = by_test (nat_lt host.dials most_dials) where
  by_test : (b : Bool) → AllTell acts.Dial input link (cond b (Ok (steps.Dial (wanted_on input) link.end link.peer ∷ [], with_socket (dialed (wanted_on input) link.end link.peer) (record host { dials = host.dials + 1 }))) (Err stops.Worn))
  by_test true = refl
  by_test false = tt

act_tells : (act : LinkAct) (old : LinkState) (input : LinkIn) (link : Link) (host : HostState) → AllTell act input link (does_act act old input link host)
act_tells acts.Nothing old input link host = λ end peer. refl
act_tells acts.Dial old input link host = dial_tells input link host
act_tells acts.Accept old input link host = frames_dial_none (asks.asked_on input) link.waits
act_tells acts.Cross old input link host = λ end peer. refl
act_tells (acts.LeaveAndAccept own) old input link host = frames_dial_none (asks.asked_on input) link.waits
act_tells (acts.CrossAndProbe up) old input link host = λ end peer. refl
act_tells acts.Raise old input link host = raised_tells link.state input link host
act_tells (acts.Leave own) old input link host = λ end peer. refl
act_tells (acts.Fail why) Idle input link host = refl
act_tells (acts.Fail why) (Dialing d) input link host = refl
act_tells (acts.Fail why) AwaitOther input link host = refl
act_tells (acts.Fail why) (Up u probed) input link host = refl
act_tells acts.Acknowledge old input link host = acknowledged_tells link.state input link host
act_tells acts.Close Idle input link host = λ end peer. refl
act_tells acts.Close (Dialing d) input link host = λ end peer. refl
act_tells acts.Close AwaitOther input link host = λ end peer. refl
act_tells acts.Close (Up u probed) input link host = λ end peer. refl

-- ---- a link hears

module _ (input : LinkIn) (link : Link) (host : HostState) (at : IsAt link host) where
  module _ (new : LinkState) where
    abbrev now : Link
    now = record link { state = new }

    abbrev kept : HostState
    kept = with_link now host

    now_at : IsAt now kept
    now_at end peer h = relinked now host end peer ∙ ap (λ b. cond b new (state_at host end peer)) h

    module _ (done : List Step × HostState) (states : (end : ℕ) (peer : Address) → state_at done.1 end peer ≡ state_at kept end peer) where
      -- the link is in its new state, and any other in its own
      found : (end : ℕ) (peer : Address) → state_at done.1 end peer ≡ cond (is_link end peer now) new (state_at host end peer)
      found end peer = states end peer ∙ relinked now host end peer

      still_begun : (is_idle link.state ≡ false → is_idle new ≡ false) → (end : ℕ) (peer : Address) → is_idle (state_at host end peer) ≡ false → is_idle (state_at done.1 end peer) ≡ false
      still_begun on end peer begun = ap is_idle (found end peer) ∙ by_key (is_link end peer link) refl where
        by_key : (b : Bool) → is_link end peer link ≡ b → is_idle (cond b new (state_at host end peer)) ≡ false
        by_key true h = on (ap is_idle (sym (at end peer h)) ∙ begun)
        by_key false h = begun

      quietly : (is_idle link.state ≡ false → is_idle new ≡ false) → NoDials done.0 → GoesOn host done.0 done.1
      quietly on none = record { kept = still_begun on; dials = λ end peer d. absurd (clash (has_dial_for end peer done.0) d (none end peer)) }

      dialing : (is_idle link.state ≡ true) → (is_idle new ≡ false) → done.0 ≡ steps.Dial (wanted_on input) link.end link.peer ∷ [] → GoesOn host done.0 done.1
      dialing was is told = record { kept = still_begun (λ b. is); dials = λ end peer d. by_key end peer (is_link end peer link) refl (sym (or_none (is_link end peer link)) ∙ ap (has_dial_for end peer) (sym told) ∙ d) } where
        or_none : (b : Bool) → (b || false) ≡ b
        or_none true = refl
        or_none false = refl

        by_key : (end : ℕ) (peer : Address) (b : Bool) → is_link end peer link ≡ b → b ≡ true → (is_idle (state_at host end peer) ≡ true) × (is_idle (state_at done.1 end peer) ≡ false)
        by_key end peer true h e = (ap is_idle (at end peer h) ∙ was, ap is_idle (found end peer) ∙ ap (λ b. is_idle (cond b new (state_at host end peer))) h ∙ is)
        by_key end peer false h e = absurd cc

    by_act : (act : LinkAct) → Begins act link.state new → (done : Stepped) → AllDoes act link.state input now kept done → AllTell act input now done → AllOn host done
    by_act act on (Err stop) does tells = tt
    by_act acts.Dial on (Ok done) does tells = λ c. dialing done does.states on.0 on.1 tells
    by_act (acts.Fail why) on (Ok done) does tells = λ c. absurd (clash (calm done.0) c tells)
    by_act acts.Nothing on (Ok done) does tells = λ c. quietly done does.states on tells
    by_act acts.Accept on (Ok done) does tells = λ c. quietly done does.states on tells
    by_act acts.Cross on (Ok done) does tells = λ c. quietly done does.states on tells
    by_act (acts.LeaveAndAccept own) on (Ok done) does tells = λ c. quietly done does.states on tells
    by_act (acts.CrossAndProbe up) on (Ok done) does tells = λ c. quietly done does.states on tells
    by_act acts.Raise on (Ok done) does tells = λ c. quietly done does.states on tells
    by_act (acts.Leave own) on (Ok done) does tells = λ c. quietly done does.states on tells
    by_act acts.Acknowledge on (Ok done) does tells = λ c. quietly done does.states on tells
    by_act acts.Close on (Ok done) does tells = λ c. quietly done does.states on tells

  pub hears_on : is_open_in input ≡ true → AllOn host (hears input link host)
  hears_on o = by_act told.0 told.1 (table_on input link.state greater o) (does_act told.1 link.state input (now told.0) (kept told.0)) (acted told.1 link.state input (now told.0) (kept told.0) (now_at told.0)) (act_tells told.1 link.state input (now told.0) (kept told.0)) where
    greater : Bool
    greater = is_greater (own_address host link.end) link.peer

    told : LinkState × LinkAct
    told = step_of link.state input greater
