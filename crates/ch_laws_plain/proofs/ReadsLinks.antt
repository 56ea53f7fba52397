-- What a link makes of what it hears: what it tells its node, what it keeps of the connections that have arrived, and which ends are over.
use Rattle.std.proofs.Common.{◌≡◌, ◌⊎◌, inl, inr, ℕ, Bool, true, false, List, [], ◌∷◌, map, Ok, Err, refl, sym, ap, ◌∙◌, subst}
use Rattle.std.specs.Prelude.{find, Some}
use Rattle.ch_base.specs.declared.event.Event.TheVariants as events
use Rattle.ch_base.specs.declared.event.Why.{Why}
use Rattle.ch_wire.specs.declared.frame.Frame.{Frame}
use Rattle.ch_link.specs.Sockets.{names}
use Rattle.ch_link.specs.Table.{step_of}
use Rattle.ch_link.specs.declared.LinkAnswer.TheVariants as links
use Rattle.ch_link.specs.declared.LinkIn.{LinkIn}
use Rattle.ch_link.specs.declared.LinkIn.TheVariants as inputs
use Rattle.ch_link.specs.declared.LinkState.{LinkState}
use Rattle.ch_link.specs.declared.LinkState.TheVariants as states
use Rattle.ch_model.specs.declared.step.Step.{Step}
use Rattle.ch_model.specs.declared.step.Step.TheVariants as steps
use Rattle.ch_model.specs.declared.step.Weight.{Weight}
use Rattle.ch_model.specs.Greater.{is_greater}
use Rattle.ch_model.specs.HostLinks.{does_act, hears}
use Rattle.ch_model.specs.HostState.{Link, Socket, HostState}
use Rattle.ch_model.specs.HostSteps.{Stepped, own_address, store_link, with_link, is_socket}
use Rattle.ch_model.specs.HostWrites.{is_up, frame_step, forgotten, end_socket}
use Rattle.ch_model.specs.Stages.{is_ended}
use Rattle.ch_laws_items.proofs.Sockets.{number_is}
use Rattle.ch_laws_links.proofs.Keys.{ended_rest}
use Rattle.ch_laws_calls.specs.FitsTurns.{bytes_at}
use Rattle.ch_laws_calls.proofs.FitsStores.{Stores, stored, stored_again}
use Rattle.ch_laws_plain.proofs.Heard.{over_stores}
use Rattle.ch_laws_plain.proofs.Talks.{clash}
use Rattle.ch_laws_plain.specs.ReadsReading.{posts_in}
use Rattle.ch_laws_plain.proofs.ReadsSockets.{WereSo, same_so, ended_so, ended_over}

-- no node is told anything, and all connections that have arrived stand
pub record Keeps (host : HostState) (link : Link) (told : List Step) (after : HostState) : Type 0 where
  pub posted : posts_in told ≡ []
  pub two : Link
  pub stores : Stores host.links after.links link.end link.peer two
  pub created : two.created ≡ link.created
  pub so : WereSo host after

-- the link has failed, each end that it named is over, and nothing is written
pub record Fails (host : HostState) (link : Link) (told : List Step) (after : HostState) : Type 0 where
  pub why : Why
  pub posted : posts_in told ≡ (link.end, events.ConnectionLost link.peer why) ∷ []
  pub stores : Stores host.links after.links link.end link.peer (forgotten link states.Idle)
  pub so : WereSo host after
  pub over : (n : ℕ) (now : Socket) → names link.state n ≡ true → find (is_socket n) after.sockets ≡ Some now → is_ended now.stage ≡ true
  pub silent : (n : ℕ) → bytes_at n told ≡ []

abbrev pub AllHear : HostState → Link → Stepped → Type 0
AllHear host link (Ok done) = Keeps host link done.0 done.1 ⊎ Fails host link done.0 done.1
AllHear host link (Err stop) = Unit {0}

abbrev pub AllFail : HostState → Link → Stepped → Type 0
AllFail host link (Ok done) = Fails host link done.0 done.1
AllFail host link (Err stop) = Unit {0}

-- it was asked on this socket: it keeps what it has, and where that end isn't over nothing had arrived
abbrev pub AllAsk : HostState → Link → ℕ → Stepped → Type 0
AllAsk host link sock (Ok done) = Keeps host link done.0 done.1 × ((now : Socket) → find (is_socket sock) done.1.sockets ≡ Some now → is_ended now.stage ≡ false → link.created ≡ [])
AllAsk host link sock (Err stop) = Unit {0}

-- what comes with an item, but for a request
abbrev pub IsHeard : LinkIn → Type 0
IsHeard (inputs.Answered answer) = Unit {0}
IsHeard inputs.Gone = Unit {0}
IsHeard inputs.EndClosed = Unit {0}
IsHeard inputs.Probe = Unit {0}
IsHeard inputs.Ack = Unit {0}
IsHeard input = ⊥

-- ---- what is done

waits_post : (sock : ℕ) (waits : List (Frame × Weight)) → posts_in (map (frame_step sock) waits) ≡ []
waits_post sock [] = refl
waits_post sock (wait ∷ waits) = waits_post sock waits

again_over : (sock : ℕ) (host : HostState) (one two : Link) → two.end ≡ one.end → two.peer ≡ one.peer → Stores host.links (with_link two (end_socket sock (with_link one host))).links one.end one.peer two
again_over sock host one two e p = subst (λ (l : List Link). Stores host.links (store_link two l) one.end one.peer two) (sym (ended_rest sock (with_link one host)).0) (stored_again host.links one two e p)

-- the link is in that state then, and no more
stays : (host : HostState) (link : Link) (state : LinkState) (told : List Step) → posts_in told ≡ [] → Keeps host link told (with_link (record link { state = state }) host)
stays host link state told posted = record { posted = posted; two = record link { state = state }; stores = stored host.links (record link { state = state }); created = refl; so = same_so host (with_link (record link { state = state }) host) refl }

-- an end is left besides
leaving : (host : HostState) (link : Link) (state : LinkState) (sock : ℕ) (told : List Step) → posts_in told ≡ [] → Keeps host link told (end_socket sock (with_link (record link { state = state }) host))
leaving host link state sock told posted = record {
  posted = posted;
  two = record link { state = state };
  stores = over_stores host.links sock (with_link (record link { state = state }) host) link.end link.peer (record link { state = state }) (stored host.links (record link { state = state }));
  created = refl;
  so = ended_so sock (with_link (record link { state = state }) host);
}

-- the link comes up
rises : (host : HostState) (link : Link) (sock : ℕ) (told : List Step) → posts_in told ≡ [] → Keeps host link told (with_link (record link { state = states.Up sock false; waits = [] }) (with_link (record link { state = states.Up sock false }) host))
rises host link sock told posted = record {
  posted = posted;
  two = record link { state = states.Up sock false; waits = [] };
  stores = stored_again host.links (record link { state = states.Up sock false }) (record link { state = states.Up sock false; waits = [] }) refl refl;
  created = refl;
  so = same_so host (with_link (record link { state = states.Up sock false; waits = [] }) (with_link (record link { state = states.Up sock false }) host)) refl;
}

-- and the end that it dialed is left
rises_over : (host : HostState) (link : Link) (sock own : ℕ) (told : List Step) → posts_in told ≡ [] → Keeps host link told (with_link (record link { state = states.Up sock false; waits = [] }) (end_socket own (with_link (record link { state = states.Up sock false }) host)))
rises_over host link sock own told posted = record {
  posted = posted;
  two = record link { state = states.Up sock false; waits = [] };
  stores = again_over own host (record link { state = states.Up sock false }) (record link { state = states.Up sock false; waits = [] }) refl refl;
  created = refl;
  so = ended_so own (with_link (record link { state = states.Up sock false }) host);
}

-- the link fails, on the one socket that it names
fails : (host : HostState) (link : Link) (state : LinkState) (why : Why) (sock : ℕ) (told : List Step) → link.state ≡ state → ((n : ℕ) → names state n ≡ true → n ≡ sock) → posts_in told ≡ (link.end, events.ConnectionLost link.peer why) ∷ [] → ((n : ℕ) → bytes_at n told ≡ [])
    → Fails host link told (with_link (forgotten link states.Idle) (end_socket sock (with_link (record link { state = states.Idle }) host)))
fails host link state why sock told is one posted silent = record {
  why = why;
  posted = posted;
  stores = again_over sock host (record link { state = states.Idle }) (forgotten link states.Idle) refl refl;
  so = ended_so sock (with_link (record link { state = states.Idle }) host);
  over = λ n now named found. ended_over sock (with_link (record link { state = states.Idle }) host) now (subst (λ (m : ℕ). find (is_socket m) (end_socket sock (with_link (record link { state = states.Idle }) host)).sockets ≡ Some now) (one n (ap (λ (s : LinkState). names s n) (sym is) ∙ named)) found);
  silent = silent;
}

-- ---- the table

heard_in : (host : HostState) (link : Link) (state : LinkState) (input : LinkIn) (greater : Bool) → link.state ≡ state → IsHeard input
    → AllHear host link (does_act (step_of state input greater).1 state input (record link { state = (step_of state input greater).0 }) (with_link (record link { state = (step_of state input greater).0 }) host))
unfolding step_of
heard_in host link state (inputs.Want n) greater is m = absurd m
heard_in host link state (inputs.Asked n) greater is m = absurd m
heard_in host link state inputs.Late greater is m = absurd m
heard_in host link state inputs.Shut greater is m = absurd m
heard_in host link (states.Dialing d) (inputs.Answered links.Accepted) greater is m = inl (rises host link d (steps.Up d ∷ map (frame_step d) link.waits) (waits_post d link.waits))
heard_in host link (states.Dialing d) (inputs.Answered links.Crossed) greater is m = inl (leaving host link states.AwaitOther d (steps.Left d ∷ []) refl)
heard_in host link (states.Dialing d) (inputs.Answered links.Invalid) greater is m = inr (fails host link (states.Dialing d) _ d _ is (λ n h. number_is n d h) refl (λ n. refl))
heard_in host link (states.Dialing d) (inputs.Answered links.Mismatch) greater is m = inr (fails host link (states.Dialing d) _ d _ is (λ n h. number_is n d h) refl (λ n. refl))
heard_in host link (states.Dialing d) inputs.Gone greater is m = inr (fails host link (states.Dialing d) _ d _ is (λ n h. number_is n d h) refl (λ n. refl))
heard_in host link (states.Up u probed) inputs.Gone greater is m = inr (fails host link (states.Up u probed) _ u _ is (λ n h. number_is n u h) refl (λ n. refl))
heard_in host link (states.Up u probed) inputs.EndClosed greater is m = inr (fails host link (states.Up u probed) _ u _ is (λ n h. number_is n u h) refl (λ n. refl))
heard_in host link (states.Up u probed) inputs.Probe greater is m = inl (stays host link (states.Up u probed) _ refl)
heard_in host link (states.Up u probed) inputs.Ack greater is m = inl (stays host link (states.Up u false) [] refl)
heard_in host link state input greater is m = inl (stays host link state [] refl)

-- a link that hears of an answer, or of a frame that is of no connection
pub heard : (input : LinkIn) (link : Link) (host : HostState) → IsHeard input → AllHear host link (hears input link host)
heard input link host m = heard_in host link link.state input (is_greater (own_address host link.end) link.peer) refl m

gone_in : (host : HostState) (link : Link) (state : LinkState) (sock : ℕ) (greater : Bool) → link.state ≡ state → names state sock ≡ true
    → AllFail host link (does_act (step_of state inputs.Gone greater).1 state inputs.Gone (record link { state = (step_of state inputs.Gone greater).0 }) (with_link (record link { state = (step_of state inputs.Gone greater).0 }) host))
unfolding step_of
gone_in host link states.Idle sock greater is named = clash (sym named)
gone_in host link states.AwaitOther sock greater is named = clash (sym named)
gone_in host link (states.Dialing d) sock greater is named = fails host link (states.Dialing d) _ d _ is (λ n h. number_is n d h) refl (λ n. refl)
gone_in host link (states.Up u probed) sock greater is named = fails host link (states.Up u probed) _ u _ is (λ n h. number_is n u h) refl (λ n. refl)

-- one whose socket is gone
pub heard_gone : (link : Link) (sock : ℕ) (host : HostState) → names link.state sock ≡ true → AllFail host link (hears inputs.Gone link host)
heard_gone link sock host named = gone_in host link link.state sock (is_greater (own_address host link.end) link.peer) refl named

asked_in : (host : HostState) (link : Link) (state : LinkState) (sock : ℕ) (greater : Bool) → link.state ≡ state → (is_up link.state ≡ false → link.created ≡ [])
    → AllAsk host link sock (does_act (step_of state (inputs.Asked sock) greater).1 state (inputs.Asked sock) (record link { state = (step_of state (inputs.Asked sock) greater).0 }) (with_link (record link { state = (step_of state (inputs.Asked sock) greater).0 }) host))
unfolding step_of
asked_in host link states.Idle s greater is none = (rises host link s _ (waits_post s link.waits), λ now found stands. none (ap is_up is))
asked_in host link states.AwaitOther s greater is none = (rises host link s _ (waits_post s link.waits), λ now found stands. none (ap is_up is))
asked_in host link (states.Dialing d) s true is none = (leaving host link (states.Dialing d) s _ refl, λ now found stands. clash (sym (ended_over s (with_link (record link { state = states.Dialing d }) host) now found) ∙ stands))
asked_in host link (states.Dialing d) s false is none = (rises_over host link s d _ (waits_post s link.waits), λ now found stands. none (ap is_up is))
asked_in host link (states.Up u false) s greater is none = (leaving host link (states.Up u true) s _ refl, λ now found stands. clash (sym (ended_over s (with_link (record link { state = states.Up u true }) host) now found) ∙ stands))
asked_in host link (states.Up u true) s greater is none = (leaving host link (states.Up u true) s _ refl, λ now found stands. clash (sym (ended_over s (with_link (record link { state = states.Up u true }) host) now found) ∙ stands))

-- one that is asked on a socket
pub heard_asked : (link : Link) (sock : ℕ) (host : HostState) → (is_up link.state ≡ false → link.created ≡ []) → AllAsk host link sock (hears (inputs.Asked sock) link host)
heard_asked link sock host none = asked_in host link link.state sock (is_greater (own_address host link.end) link.peer) refl none
