-- What a link makes of what it hears as an item is read, where it doesn't fail: no payload is put, or what waited is written as it comes up.
use Rattle.std.proofs.Common.{◌≡◌, ◌⊎◌, inl, inr, ℕ, Bool, true, false, cond, List, [], ◌∷◌, ◌++◌, map, refl, sym, ap, ◌∙◌, subst}
use Rattle.std.proofs.lemmas.List.{append-nil}
use Rattle.std.specs.Prelude.{Option, Some, None, ◌==◌}
use Rattle.ch_wire.specs.Spelling.{answer_spelling, frame_spelling}
use Rattle.ch_wire.specs.declared.answer.Answer.TheVariants as answers
use Rattle.ch_wire.specs.declared.frame.Frame.{Frame}
use Rattle.ch_wire.specs.declared.frame.Frame.TheVariants as frames
use Rattle.ch_link.specs.Table.{step_of}
use Rattle.ch_link.specs.declared.LinkAnswer.TheVariants as links
use Rattle.ch_link.specs.declared.LinkIn.{LinkIn}
use Rattle.ch_link.specs.declared.LinkIn.TheVariants as inputs
use Rattle.ch_link.specs.declared.LinkState.{LinkState}
use Rattle.ch_link.specs.declared.LinkState.TheVariants as states
use Rattle.ch_model.specs.declared.step.Step.{Step}
use Rattle.ch_model.specs.declared.step.Step.TheVariants as steps
use Rattle.ch_model.specs.declared.step.Weight.{Weight}
use Rattle.ch_model.specs.Greater.{is_greater}
use Rattle.ch_model.specs.HostLinks.{does_act, hears}
use Rattle.ch_model.specs.HostState.{Link, HostState}
use Rattle.ch_model.specs.HostSteps.{own_address, store_link, with_link}
use Rattle.ch_model.specs.HostWrites.{is_up, frame_step, end_socket}
use Rattle.ch_laws_calls.specs.FitsTurns.{NoDials}
use Rattle.ch_laws_calls.proofs.FitsHalves.{MayHear}
use Rattle.ch_laws_calls.proofs.FitsStores.{Stores, stored, stored_again, waits_alone}
use Rattle.ch_laws_ids.specs.Runs.{pieces_at}
use Rattle.ch_laws_plain.specs.Talks.{MaySpell}
use Rattle.ch_laws_plain.proofs.Heard.{IsWell, over_stores}
use Rattle.ch_laws_links.proofs.Keys.{ended_rest}
use Rattle.ch_laws_writes.specs.Dues.{Due, Answering, Framing}
use Rattle.ch_laws_writes.specs.Orderly.{AreFrames}
use Rattle.ch_laws_writes.proofs.Worlds.{number_is, number_same}
use Rattle.ch_laws_peers.specs.Words.{words_in, waiting_as}
use Rattle.ch_laws_peers.specs.Says.{ArePlaced}
use Rattle.ch_laws_messages.specs.SaidGoes.{bare}
use Rattle.ch_laws_messages.specs.SaidPuts.{spelled}
use Rattle.ch_laws_messages.specs.SaidHeeds.{IsFirst, IsAnswer, Tells, AllTell}

clash : {A : Type 0} → false ≡ true → A
clash e = absurd cc

off_on : {A : Type 0} → true ≡ false → A
off_on e = absurd cc

-- ---- what waits

pub waits_spell : (waits : List (Frame × Weight)) → AreFrames waits → MaySpell (bare (waiting_as waits))
waits_spell [] a = tt
waits_spell (wait ∷ rest) a = (a.0, waits_spell rest a.1)

pub waits_pieces : (sock n : ℕ) (waits : List (Frame × Weight)) → pieces_at n (map (frame_step sock) waits) ≡ cond (sock == n) (spelled (waiting_as waits)) []
waits_pieces sock n [] = by_test (sock == n) where
  by_test : (b : Bool) → ◌≡◌ {A = List (List ℕ)} [] (cond b [] [])
  by_test true = refl
  by_test false = refl
waits_pieces sock n (wait ∷ rest) = by_test (sock == n) (waits_pieces sock n rest) where
  by_test : (b : Bool) → pieces_at n (map (frame_step sock) rest) ≡ cond b (spelled (waiting_as rest)) [] → cond b (frame_spelling wait.0 ∷ pieces_at n (map (frame_step sock) rest)) (pieces_at n (map (frame_step sock) rest)) ≡ cond b (spelled (waiting_as (wait ∷ rest))) []
  by_test true e = ap (λ (l : List (List ℕ)). frame_spelling wait.0 ∷ l) e
  by_test false e = e

again_over : (sock : ℕ) (host : HostState) (one two : Link) → two.end ≡ one.end → two.peer ≡ one.peer → Stores host.links (with_link two (end_socket sock (with_link one host))).links one.end one.peer two
again_over sock host one two e p = subst (λ (l : List Link). Stores host.links (store_link two l) one.end one.peer two) (sym (ended_rest sock (with_link one host)).0) (stored_again host.links one two e p)

-- ---- what is done

up_is : {sock n : ℕ} {p q : Bool} → states.Up sock p ≡ states.Up n q → sock ≡ n
up_is e = cc

same_number : {m n : ℕ} → m ≡ n → (m == n) ≡ true
same_number {m} e = ap (λ (k : ℕ). m == k) (sym e) ∙ number_same m

-- The link stays as it was, but for its state, in which it is up where it was; and what is written is an answer alone, or nothing.
pub still_up : (due : ℕ → Option Due) (links : List Link) (link : Link) (state : LinkState) (told : List Step) (after : HostState) → Stores links after.links link.end link.peer (record link { state = state }) → ((sock : ℕ) (probed : Bool) → link.state ≡ states.Up sock probed → (now : Bool) × (state ≡ states.Up sock now)) → (is_up link.state ≡ false → is_up state ≡ false)
    → ((n : ℕ) → (pieces_at n told ≡ []) ⊎ IsAnswer (due n) (pieces_at n told)) → ((sock : ℕ) (probed : Bool) → link.state ≡ states.Up sock probed → due sock ≡ Some Framing) → NoDials told → Tells due links link told after
still_up due links link state told after s up down written framing alone = record {
  two = record link { state = state };
  stores = s;
  given = refl;
  new = [];
  placed = tt;
  silent = refl;
  may = tt;
  up = λ sock probed is. (up sock probed is, refl, none_up sock (framing sock probed is) (written sock));
  down = λ off. inl (down off, sym (append-nil (waiting_as link.waits)));
  where_up = λ n. either n (written n);
  alone = alone;
} where
  none_up : (sock : ℕ) → due sock ≡ Some Framing → (pieces_at sock told ≡ []) ⊎ IsAnswer (due sock) (pieces_at sock told) → pieces_at sock told ≡ []
  none_up sock is (inl none) = none
  none_up sock is (inr a) = let no : ◌≡◌ {A = Option Due} (Some Framing) (Some Answering) = sym is ∙ a.0 in absurd cc

  either : (n : ℕ) → (pieces_at n told ≡ []) ⊎ IsAnswer (due n) (pieces_at n told) → (pieces_at n told ≡ []) ⊎ (((probed : Bool) × (state ≡ states.Up n probed)) ⊎ IsAnswer (due n) (pieces_at n told))
  either n (inl none) = inl none
  either n (inr a) = inr (inr a)

-- nothing is done, in this state
nothing : (due : ℕ → Option Due) (host : HostState) (link : Link) (state : LinkState) → link.state ≡ state → IsWell due link → Tells due host.links link [] (with_link (record link { state = state }) host)
nothing due host link state is w = still_up due host.links link state [] _ (stored host.links (record link { state = state })) (λ sock probed up. (probed, sym is ∙ up)) (λ off. ap is_up (sym is) ∙ off) (λ n. inl refl) w.up tt

-- one answer
pub one_answer : (due : ℕ → Option Due) (sock n : ℕ) (one : List ℕ) → due sock ≡ Some Answering → (cond (sock == n) (one ∷ []) [] ≡ []) ⊎ IsAnswer (due n) (cond (sock == n) (one ∷ []) [])
one_answer due sock n one answering = by_test (sock == n) refl where
  by_test : (b : Bool) → (sock == n) ≡ b → (cond b (one ∷ []) [] ≡ []) ⊎ IsAnswer (due n) (cond b (one ∷ []) [])
  by_test true h = inr (ap due (sym (number_is sock n h)) ∙ answering, (one, refl))
  by_test false h = inl refl

-- the request is crossed
crosses : (due : ℕ → Option Due) (host : HostState) (link : Link) (sock : ℕ) (state : LinkState) → link.state ≡ state → due sock ≡ Some Answering → IsWell due link
    → Tells due host.links link (steps.Write sock (answer_spelling answers.Crossed) None ∷ steps.Left sock ∷ []) (end_socket sock (with_link (record link { state = state }) host))
crosses due host link sock state is answering w = still_up due host.links link state _ _ (over_stores host.links sock (with_link (record link { state = state }) host) link.end link.peer (record link { state = state }) (stored host.links (record link { state = state })))
    (λ s probed up. (probed, sym is ∙ up)) (λ off. ap is_up (sym is) ∙ off) (λ n. one_answer due sock n (answer_spelling answers.Crossed) answering) w.up tt

-- it is known that the own request was crossed
awaits : (due : ℕ → Option Due) (host : HostState) (link : Link) (sock : ℕ) → link.state ≡ states.Dialing sock → IsWell due link → Tells due host.links link (steps.Left sock ∷ []) (end_socket sock (with_link (record link { state = states.AwaitOther }) host))
awaits due host link sock is w = still_up due host.links link states.AwaitOther _ _ (over_stores host.links sock (with_link (record link { state = states.AwaitOther }) host) link.end link.peer (record link { state = states.AwaitOther }) (stored host.links (record link { state = states.AwaitOther })))
    (λ s probed up. off_on (sym (sym (ap is_up is) ∙ ap is_up up))) (λ off. refl) (λ n. inl refl) w.up tt

-- a frame without payload is written on the socket that the link is up on, and perhaps an answer before, on another
puts_frame : (due : ℕ → Option Due) (links : List Link) (link : Link) (sock : ℕ) (probed now : Bool) (frame : Frame) (told : List Step) (after : HostState) → link.state ≡ states.Up sock probed → Stores links after.links link.end link.peer (record link { state = states.Up sock now })
    → ArePlaced ((frame, None) ∷ []) → words_in ((frame, None) ∷ []) ≡ [] → MaySpell (frame ∷ []) → pieces_at sock told ≡ frame_spelling frame ∷ [] → ((n : ℕ) → (sock == n) ≡ false → (pieces_at n told ≡ []) ⊎ IsAnswer (due n) (pieces_at n told)) → NoDials told → Tells due links link told after
puts_frame due links link sock probed now frame told after is s placed silent may wrote others alone = record {
  two = record link { state = states.Up sock now };
  stores = s;
  given = refl;
  new = (frame, None) ∷ [];
  placed = placed;
  silent = silent;
  may = may;
  up = λ n p up. let same : sock ≡ n = up_is (sym is ∙ up) in ((now, ap (λ (k : ℕ). states.Up k now) same), refl, ap (λ (k : ℕ). pieces_at k told) (sym same) ∙ wrote);
  down = λ off. off_on (sym (ap is_up is) ∙ off);
  where_up = λ n. by_test n (sock == n) refl;
  alone = alone;
} where
  Where : ℕ → Type 0
  Where n = (pieces_at n told ≡ []) ⊎ (((p : Bool) × (states.Up sock now ≡ states.Up n p)) ⊎ IsAnswer (due n) (pieces_at n told))

  either : (n : ℕ) → (pieces_at n told ≡ []) ⊎ IsAnswer (due n) (pieces_at n told) → Where n
  either n (inl none) = inl none
  either n (inr a) = inr (inr a)

  by_test : (n : ℕ) (b : Bool) → (sock == n) ≡ b → Where n
  by_test n true h = inr (inl (now, ap (λ (k : ℕ). states.Up k now) (number_is sock n h)))
  by_test n false h = either n (others n h)

-- a probe is acknowledged
acknowledges : (due : ℕ → Option Due) (host : HostState) (link : Link) (sock : ℕ) (probed : Bool) → link.state ≡ states.Up sock probed → Tells due host.links link (steps.Write sock (frame_spelling frames.ProbeAck) None ∷ []) (with_link (record link { state = states.Up sock probed }) host)
acknowledges due host link sock probed is = puts_frame due host.links link sock probed probed frames.ProbeAck _ _ is (stored host.links (record link { state = states.Up sock probed })) (refl, tt) refl (tt, tt)
    (ap (λ (b : Bool). cond b (frame_spelling frames.ProbeAck ∷ []) []) (number_same sock)) (λ n h. inl (ap (λ (b : Bool). cond b (frame_spelling frames.ProbeAck ∷ []) []) h)) tt

-- the request is crossed, and the own socket is probed
probes : (due : ℕ → Option Due) (host : HostState) (link : Link) (sock up : ℕ) → link.state ≡ states.Up up false → due sock ≡ Some Answering → IsWell due link
    → Tells due host.links link (steps.Write sock (answer_spelling answers.Crossed) None ∷ steps.Left sock ∷ steps.Write up (frame_spelling frames.Probe) None ∷ []) (end_socket sock (with_link (record link { state = states.Up up true }) host))
probes due host link sock up is answering w = puts_frame due host.links link up false true frames.Probe _ _ is (over_stores host.links sock (with_link (record link { state = states.Up up true }) host) link.end link.peer (record link { state = states.Up up true }) (stored host.links (record link { state = states.Up up true })))
    (refl, tt) refl (tt, tt) (ap (λ (b : Bool). cond b (answer_spelling answers.Crossed ∷ cond (up == up) (frame_spelling frames.Probe ∷ []) []) (cond (up == up) (frame_spelling frames.Probe ∷ []) [])) (apart (sock == up) refl) ∙ ap (λ (b : Bool). cond b (frame_spelling frames.Probe ∷ []) []) (number_same up))
    (λ n h. elsewhere n h (one_answer due sock n (answer_spelling answers.Crossed) answering)) tt
  where
    apart : (b : Bool) → (sock == up) ≡ b → (sock == up) ≡ false
    apart false h = h
    apart true h = let no : ◌≡◌ {A = Option Due} (Some Answering) (Some Framing) = sym answering ∙ ap due (number_is sock up h) ∙ w.up up false is in absurd cc

    written : ℕ → Bool → List (List ℕ)
    written n b = cond (sock == n) (answer_spelling answers.Crossed ∷ cond b (frame_spelling frames.Probe ∷ []) []) (cond b (frame_spelling frames.Probe ∷ []) [])

    elsewhere : (n : ℕ) → (up == n) ≡ false → (cond (sock == n) (answer_spelling answers.Crossed ∷ []) [] ≡ []) ⊎ IsAnswer (due n) (cond (sock == n) (answer_spelling answers.Crossed ∷ []) []) → (written n (up == n) ≡ []) ⊎ IsAnswer (due n) (written n (up == n))
    elsewhere n h o = subst (λ (b : Bool). (written n b ≡ []) ⊎ IsAnswer (due n) (written n b)) (sym h) o

-- the link comes up, and what waits is written behind that
rises : (due : ℕ → Option Due) (links : List Link) (link : Link) (sock : ℕ) (told : List Step) (after : HostState) (first : List (List ℕ)) → is_up link.state ≡ false → AreFrames link.waits → Stores links after.links link.end link.peer (record link { state = states.Up sock false; waits = [] })
    → ((n : ℕ) → pieces_at n told ≡ cond (sock == n) (first ++ spelled (waiting_as link.waits)) []) → IsFirst (due sock) first → NoDials told → Tells due links link told after
rises due links link sock told after first off framed s wrote fits alone = record {
  two = record link { state = states.Up sock false; waits = [] };
  stores = s;
  given = refl;
  new = [];
  placed = tt;
  silent = refl;
  may = tt;
  up = λ n p up. off_on (sym (ap is_up up) ∙ off);
  down = λ off. inr (
    refl,
    record {
      sock = sock;
      probed = false;
      up = refl;
      waits = refl;
      first = first;
      fits = fits;
      wrote = wrote sock ∙ ap (λ (b : Bool). cond b (first ++ spelled (waiting_as link.waits)) []) (number_same sock);
      may = waits_spell link.waits framed;
    },
  );
  where_up = λ n. by_test n (sock == n) refl;
  alone = alone;
} where
  by_test : (n : ℕ) (b : Bool) → (sock == n) ≡ b → (pieces_at n told ≡ []) ⊎ (((p : Bool) × (states.Up sock false ≡ states.Up n p)) ⊎ IsAnswer (due n) (pieces_at n told))
  by_test n true h = inr (inl (false, ap (λ (k : ℕ). states.Up k false) (number_is sock n h)))
  by_test n false h = inl (wrote n ∙ ap (λ (b : Bool). cond b (first ++ spelled (waiting_as link.waits)) []) h)

-- the request is accepted
accepts : (due : ℕ → Option Due) (links : List Link) (link : Link) (sock : ℕ) (before : List Step) (after : HostState) → ((n : ℕ) → pieces_at n (before ++ steps.Write sock (answer_spelling answers.Accepted) None ∷ map (frame_step sock) link.waits) ≡ pieces_at n (steps.Write sock (answer_spelling answers.Accepted) None ∷ map (frame_step sock) link.waits))
    → is_up link.state ≡ false → due sock ≡ Some Answering → IsWell due link → Stores links after.links link.end link.peer (record link { state = states.Up sock false; waits = [] })
    → NoDials (before ++ steps.Write sock (answer_spelling answers.Accepted) None ∷ map (frame_step sock) link.waits) → Tells due links link (before ++ steps.Write sock (answer_spelling answers.Accepted) None ∷ map (frame_step sock) link.waits) after
accepts due links link sock before after silent off answering w s alone = rises due links link sock (before ++ steps.Write sock (answer_spelling answers.Accepted) None ∷ map (frame_step sock) link.waits) after (answer_spelling answers.Accepted ∷ []) off w.framed s (λ n. silent n ∙ bytes n (sock == n) (waits_pieces sock n link.waits))
    (inr (answering, (answer_spelling answers.Accepted, refl))) alone
  where
    bytes : (n : ℕ) (b : Bool) → pieces_at n (map (frame_step sock) link.waits) ≡ cond b (spelled (waiting_as link.waits)) [] → cond b (answer_spelling answers.Accepted ∷ pieces_at n (map (frame_step sock) link.waits)) (pieces_at n (map (frame_step sock) link.waits)) ≡ cond b (answer_spelling answers.Accepted ∷ spelled (waiting_as link.waits)) []
    bytes n true e = ap (λ (l : List (List ℕ)). answer_spelling answers.Accepted ∷ l) e
    bytes n false e = e

-- ---- the table

heard_in : (due : ℕ → Option Due) (host : HostState) (link : Link) (state : LinkState) (input : LinkIn) (greater : Bool) → link.state ≡ state → IsWell due link → MayHear due input link
    → AllTell due host.links link (does_act (step_of state input greater).1 state input (record link { state = (step_of state input greater).0 }) (with_link (record link { state = (step_of state input greater).0 }) host))
unfolding step_of
heard_in due host link state (inputs.Want n) greater is w m = absurd m
heard_in due host link state inputs.Late greater is w m = absurd m
heard_in due host link state inputs.Shut greater is w m = absurd m
heard_in due host link states.Idle (inputs.Asked s) greater is w m = λ c. accepts due host.links link s (steps.Up s ∷ []) _ (λ n. refl) (ap is_up is) m w (stored_again host.links (record link { state = states.Up s false }) (record link { state = states.Up s false; waits = [] }) refl refl) (waits_alone s link.waits)
heard_in due host link states.AwaitOther (inputs.Asked s) greater is w m = λ c. accepts due host.links link s (steps.Up s ∷ []) _ (λ n. refl) (ap is_up is) m w (stored_again host.links (record link { state = states.Up s false }) (record link { state = states.Up s false; waits = [] }) refl refl) (waits_alone s link.waits)
heard_in due host link (states.Dialing d) (inputs.Asked s) true is w m = λ c. crosses due host link s (states.Dialing d) is m w
heard_in due host link (states.Dialing d) (inputs.Asked s) false is w m = λ c. accepts due host.links link s (steps.Left d ∷ steps.Up s ∷ []) _ (λ n. refl) (ap is_up is) m w (again_over d host (record link { state = states.Up s false }) (record link { state = states.Up s false; waits = [] }) refl refl) (waits_alone s link.waits)
heard_in due host link (states.Up u false) (inputs.Asked s) greater is w m = λ c. probes due host link s u is m w
heard_in due host link (states.Up u true) (inputs.Asked s) greater is w m = λ c. crosses due host link s (states.Up u true) is m w
heard_in due host link (states.Dialing d) (inputs.Answered links.Accepted) greater is w m = λ c. rises due host.links link d (steps.Up d ∷ map (frame_step d) link.waits) _ [] (ap is_up is) w.framed (stored_again host.links (record link { state = states.Up d false }) (record link { state = states.Up d false; waits = [] }) refl refl) (λ n. waits_pieces d n link.waits)
    (inl (m d is, refl)) (waits_alone d link.waits)
heard_in due host link (states.Dialing d) (inputs.Answered links.Crossed) greater is w m = λ c. awaits due host link d is w
heard_in due host link (states.Dialing d) (inputs.Answered links.Invalid) greater is w m = λ c. absurd c
heard_in due host link (states.Dialing d) (inputs.Answered links.Mismatch) greater is w m = λ c. absurd c
heard_in due host link (states.Dialing d) inputs.Gone greater is w m = λ c. absurd c
heard_in due host link (states.Up u probed) inputs.Gone greater is w m = λ c. absurd c
heard_in due host link (states.Up u probed) inputs.EndClosed greater is w m = λ c. absurd c
heard_in due host link (states.Up u probed) inputs.Probe greater is w m = λ c. acknowledges due host link u probed is
heard_in due host link (states.Up u probed) inputs.Ack greater is w m = λ c. still_up due host.links link (states.Up u false) [] _ (stored host.links (record link { state = states.Up u false })) (λ sock p up. (false, ap (λ (k : ℕ). states.Up k false) (up_is (sym is ∙ up)))) (λ off. off_on (sym (ap is_up is) ∙ off)) (λ n. inl refl) w.up tt
heard_in due host link state input greater is w m = λ c. nothing due host link state is w

pub heard : (due : ℕ → Option Due) (input : LinkIn) (link : Link) (host : HostState) → IsWell due link → MayHear due input link → AllTell due host.links link (hears input link host)
heard due input link host w m = heard_in due host link link.state input (is_greater (own_address host link.end) link.peer) refl w m
