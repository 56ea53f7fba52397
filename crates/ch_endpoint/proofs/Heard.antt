-- What a link does when it hears an input, in the parts that the code makes of it.
use Rattle.std.proofs.Common.{◌≡◌, ℕ, Bool, true, false, List, [], ◌∷◌, ◌++◌, find, Ok, refl, ap, sym, ◌∙◌}
use Rattle.std.proofs.lemmas.List.{append-nil}
use Rattle.ch_base.specs.declared.address.Address.{Address}
use Rattle.ch_base.specs.declared.event.Why.{Why}
use Rattle.ch_base.specs.declared.event.Event.TheVariants as events
use Rattle.ch_link.specs.Table.{step_of}
use Rattle.ch_link.specs.declared.LinkState.{LinkState}
use Rattle.ch_link.specs.declared.LinkState.TheVariants.{Idle, Dialing, AwaitOther, Up}
use Rattle.ch_link.specs.declared.LinkIn.{LinkIn}
use Rattle.ch_link.specs.declared.LinkIn.TheVariants.{Want, Asked, Answered, Gone, EndClosed, Probe, Ack, Late, Shut}
use Rattle.ch_link.specs.declared.LinkAnswer.TheVariants.{Accepted, Invalid, Crossed, Mismatch}
use Rattle.ch_endpoint.specs.Dialing.{dials, is_want_in}
use Rattle.ch_link.specs.declared.LinkAct.{LinkAct}
use Rattle.ch_link.specs.declared.LinkAct.TheVariants as acts
use Rattle.ch_model.specs.declared.step.Step.{Step}
use Rattle.ch_model.specs.declared.step.Step.TheVariants as steps
use Rattle.ch_model.specs.Greater.{is_greater}
use Rattle.ch_model.specs.HostState.{Link, HostState}
use Rattle.ch_model.specs.HostSteps.{is_link, link_or_new, link_with, store_link, with_link, own_address, Stepped, after_steps, ◌then◌}
use Rattle.ch_model.specs.HostWrites.{leaves, leaves_off}
use Rattle.ch_model.specs.HostLinks.{hears, does_act, fails_with, accepts_on, says_closed, asked_on}
use Rattle.ch_endpoint.specs.Waits.{forgetting}
use Rattle.ch_endpoint.proofs.Tables.{key_with}
use Rattle.ch_endpoint.proofs.Sends.{with_stored}

-- one thing that was done, and then another
pub then_done : (first : Stepped) (f : HostState → Stepped) (one two : List Step) (between after : HostState) → first ≡ Ok (one, between) → f between ≡ Ok (two, after) → (first then f) ≡ Ok (one ++ two, after)
then_done first f one two between after e g = ap (λ (s : Stepped). s then f) e ∙ ap (after_steps one) g

-- the links of two hosts are the same, so the link of a key is
pub same_link : (end : ℕ) (peer : Address) (host left : HostState) → left.links ≡ host.links → link_with left end peer ≡ link_with host end peer
same_link end peer host left same = ap (λ links. link_or_new end peer (find (is_link end peer) links)) same

-- a link that has failed
pub fails_done : (end : ℕ) (peer : Address) (why : Why) (old : LinkState) (input : LinkIn) (host left after : HostState) (first told : List Step) → leaves_off old host ≡ Ok (first, left) → left.links ≡ host.links → after ≡ with_link (forgetting (link_with left end peer)) left → told ≡ steps.Broke end peer why ∷ steps.Post end (events.ConnectionLost peer why) ∷ [] → does_act (acts.Fail why) old input (link_with host end peer) host ≡ Ok (first ++ told, after)
fails_done end peer why old input host left after first told goes same now says =
    let link : Link = link_with host end peer in
    let key = key_with end peer host.links in
    let is : link_with left end peer ≡ link = same_link end peer host left same in
    let rest : fails_with link why (with_link (forgetting link) left) ≡ Ok (told, after) =
    (λ i. Ok (steps.Broke (key.0 i) (key.1 i) why ∷ steps.Post (key.0 i) (events.ConnectionLost (key.1 i) why) ∷ [], with_link (forgetting (sym is i)) left)) ∙ (λ i. Ok (sym says i, sym now i)) in
    then_done (leaves_off old host) (λ left. fails_with link why (with_link (forgetting link) left)) first told left after goes rest

-- a link that was shut
pub shuts_done : (end : ℕ) (peer : Address) (old : LinkState) (input : LinkIn) (host left after : HostState) (said first : List Step) → says_closed old host ≡ Ok (said, host) → leaves_off old host ≡ Ok (first, left) → left.links ≡ host.links → after ≡ with_link (forgetting (link_with left end peer)) left → does_act acts.Close old input (link_with host end peer) host ≡ Ok (said ++ first, after)
shuts_done end peer old input host left after said first says goes same now =
    let link : Link = link_with host end peer in
    let is : link_with left end peer ≡ link = same_link end peer host left same in
    let rest : Path Stepped (Ok ([], with_link (forgetting link) left)) (Ok ([], after)) = (λ i. Ok ([], with_link (forgetting (sym is i)) left)) ∙ (λ i. Ok ([], sym now i)) in
    then_done (says_closed old host then leaves_off old) (λ left. Ok ([], with_link (forgetting link) left)) (said ++ first) [] left after (then_done (says_closed old host) (leaves_off old) said first host left says goes) rest ∙ ap (λ (ss : List Step). Ok (ss, after)) (append-nil (said ++ first))

-- a link that leaves its own socket and takes the one that asks
pub accepts_done : (end : ℕ) (peer : Address) (own sock : ℕ) (old : LinkState) (input : LinkIn) (host left after : HostState) (first more : List Step) → sock ≡ asked_on input → leaves own host ≡ Ok (first, left) → left.links ≡ host.links → accepts_on sock (link_with left end peer) left ≡ Ok (more, after) → does_act (acts.LeaveAndAccept own) old input (link_with host end peer) host ≡ Ok (first ++ more, after)
accepts_done end peer own sock old input host left after first more asked goes same takes =
    let link : Link = link_with host end peer in
    let rest : accepts_on (asked_on input) link left ≡ Ok (more, after) = (λ i. accepts_on (sym asked i) (sym (same_link end peer host left same) i) left) ∙ takes in
    then_done (leaves own host) (accepts_on (asked_on input) link) first more left after goes rest

-- a link hears an input
pub hears_done : (end : ℕ) (peer : Address) (input : LinkIn) (host after : HostState) (state now : LinkState) (act : LinkAct) (greater : Bool) (done : List Step × HostState) → state ≡ (link_with host end peer).state → greater ≡ is_greater (own_address host end) peer → (now, act) ≡ step_of state input greater → after ≡ with_link (record (link_with host end peer) { state = now }) host → does_act act state input (link_with after end peer) after ≡ Ok done → hears input (link_with host end peer) host ≡ Ok done
hears_done end peer input host after state now act greater done s g t a d =
    let link : Link = link_with host end peer in
    let key = key_with end peer host.links in
    let told : step_of link.state input (is_greater (own_address host link.end) link.peer) ≡ (now, act) =
    (λ i. step_of (sym s i) input (is_greater (own_address host (key.0 i)) (key.1 i))) ∙ ap (step_of state input) (sym g) ∙ sym t in
    let stored : link_with after end peer ≡ record link { state = now } = ap (λ h. link_with h end peer) a ∙ with_stored end peer (record link { state = now }) host key.0 key.1 in
    let act_now : does_act act state input (record link { state = now }) (with_link (record link { state = now }) host) ≡ Ok done =
    (λ i. does_act act state input (sym stored i) (sym a i)) ∙ d in
    (λ i. does_act (told i).1 (sym s i) input (record link { state = (told i).0 }) (with_link (record link { state = (told i).0 }) host)) ∙ act_now

-- the host with its links so
pub with_links : (f : Link → Link) (end : ℕ) (peer : Address) (inside left : HostState) (links : List Link) → inside ≡ left → links ≡ store_link (f (link_or_new end peer (find (is_link end peer) inside.links))) inside.links → record inside { links = links } ≡ with_link (f (link_with left end peer)) left
with_links f end peer inside left links same e = ap (λ (ls : List Link). record inside { links = ls }) e ∙ ap (λ h. with_link (f (link_with h end peer)) h) same

-- only what wants a socket dials
pub never_dials : (state : LinkState) (input : LinkIn) (greater : Bool) → is_want_in input ≡ false → dials (step_of state input greater).1 ≡ false
unfolding step_of
never_dials Idle (Want n) g e = absurd cc
never_dials (Dialing d) (Want n) g e = absurd cc
never_dials AwaitOther (Want n) g e = absurd cc
never_dials (Up u false) (Want n) g e = absurd cc
never_dials (Up u true) (Want n) g e = absurd cc
never_dials Idle (Asked s) g e = refl
never_dials (Dialing d) (Asked s) true e = refl
never_dials (Dialing d) (Asked s) false e = refl
never_dials AwaitOther (Asked s) g e = refl
never_dials (Up u false) (Asked s) g e = refl
never_dials (Up u true) (Asked s) g e = refl
never_dials Idle (Answered Accepted) g e = refl
never_dials (Dialing d) (Answered Accepted) g e = refl
never_dials AwaitOther (Answered Accepted) g e = refl
never_dials (Up u false) (Answered Accepted) g e = refl
never_dials (Up u true) (Answered Accepted) g e = refl
never_dials Idle (Answered Invalid) g e = refl
never_dials (Dialing d) (Answered Invalid) g e = refl
never_dials AwaitOther (Answered Invalid) g e = refl
never_dials (Up u false) (Answered Invalid) g e = refl
never_dials (Up u true) (Answered Invalid) g e = refl
never_dials Idle (Answered Crossed) g e = refl
never_dials (Dialing d) (Answered Crossed) g e = refl
never_dials AwaitOther (Answered Crossed) g e = refl
never_dials (Up u false) (Answered Crossed) g e = refl
never_dials (Up u true) (Answered Crossed) g e = refl
never_dials Idle (Answered Mismatch) g e = refl
never_dials (Dialing d) (Answered Mismatch) g e = refl
never_dials AwaitOther (Answered Mismatch) g e = refl
never_dials (Up u false) (Answered Mismatch) g e = refl
never_dials (Up u true) (Answered Mismatch) g e = refl
never_dials Idle Gone g e = refl
never_dials (Dialing d) Gone g e = refl
never_dials AwaitOther Gone g e = refl
never_dials (Up u false) Gone g e = refl
never_dials (Up u true) Gone g e = refl
never_dials Idle EndClosed g e = refl
never_dials (Dialing d) EndClosed g e = refl
never_dials AwaitOther EndClosed g e = refl
never_dials (Up u false) EndClosed g e = refl
never_dials (Up u true) EndClosed g e = refl
never_dials Idle Probe g e = refl
never_dials (Dialing d) Probe g e = refl
never_dials AwaitOther Probe g e = refl
never_dials (Up u false) Probe g e = refl
never_dials (Up u true) Probe g e = refl
never_dials Idle Ack g e = refl
never_dials (Dialing d) Ack g e = refl
never_dials AwaitOther Ack g e = refl
never_dials (Up u false) Ack g e = refl
never_dials (Up u true) Ack g e = refl
never_dials Idle Late g e = refl
never_dials (Dialing d) Late g e = refl
never_dials AwaitOther Late g e = refl
never_dials (Up u false) Late g e = refl
never_dials (Up u true) Late g e = refl
never_dials Idle Shut g e = refl
never_dials (Dialing d) Shut g e = refl
never_dials AwaitOther Shut g e = refl
never_dials (Up u false) Shut g e = refl
never_dials (Up u true) Shut g e = refl
