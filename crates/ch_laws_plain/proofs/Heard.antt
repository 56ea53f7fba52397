-- What a link makes of what it hears: the streams that its host writes then are plain.
use Rattle.std.proofs.Common.{◌≡◌, ℕ, Bool, true, false, cond, List, [], ◌∷◌, ◌++◌, map, Ok, Err, refl, sym, ap, ◌∙◌, subst}
use Rattle.std.specs.Prelude.{Option, Some, None, ◌==◌}
use Rattle.ch_base.specs.declared.address.Address.{Address}
use Rattle.ch_wire.specs.Spelling.{answer_spelling, frame_spelling}
use Rattle.ch_wire.specs.declared.answer.Answer.TheVariants as answers
use Rattle.ch_wire.specs.declared.frame.Frame.{Frame}
use Rattle.ch_wire.specs.declared.frame.Frame.TheVariants as frames
use Rattle.ch_reader.specs.Items.{spellings}
use Rattle.ch_reader.specs.declared.item.Item.{Item}
use Rattle.ch_reader.specs.declared.item.Item.TheVariants as items
use Rattle.ch_link.specs.Table.{step_of}
use Rattle.ch_link.specs.declared.LinkAnswer.TheVariants as links
use Rattle.ch_link.specs.declared.LinkIn.{LinkIn}
use Rattle.ch_link.specs.declared.LinkIn.TheVariants as inputs
use Rattle.ch_link.specs.declared.LinkState.{LinkState}
use Rattle.ch_link.specs.declared.LinkState.TheVariants as states
use Rattle.ch_model.specs.declared.step.Step.{Step}
use Rattle.ch_model.specs.declared.step.Step.TheVariants as steps
use Rattle.ch_model.specs.Greater.{is_greater}
use Rattle.ch_model.specs.HostLinks.{does_act, hears}
use Rattle.ch_model.specs.HostState.{Link, HostState}
use Rattle.ch_model.specs.HostSteps.{Stepped, own_address, store_link, with_link}
use Rattle.ch_model.specs.HostWrites.{is_up, frame_step, forgotten, end_socket}
use Rattle.ch_laws_items.proofs.Sockets.{number_is}
use Rattle.ch_laws_links.proofs.Keys.{ended_rest}
use Rattle.ch_laws_writes.specs.Dues.{Due, Answering, Framing}
use Rattle.ch_laws_writes.specs.Orderly.{AreFrames}
use Rattle.ch_laws_calls.specs.FitsFit.{frames_in}
use Rattle.ch_laws_calls.specs.FitsTurns.{bytes_at, IsKind}
use Rattle.ch_laws_calls.proofs.FitsFrames.{in_append}
use Rattle.ch_laws_calls.proofs.FitsHalves.{MayHear}
use Rattle.ch_laws_calls.proofs.FitsStores.{Stores, stored, stored_again, none_kind, only_at, only_kind, only_spelled, items_of, waits_in, waits_follow, waits_bytes}
use Rattle.ch_laws_plain.specs.Streams.{IsPlainStream}
use Rattle.ch_laws_plain.specs.Talks.{frames_of, LinkIsPlain}
use Rattle.ch_laws_plain.proofs.Streams.{probe_plain, ack_plain}
use Rattle.ch_laws_plain.proofs.Talks.{clash}

-- What is done of a link that was this: it is plain after it, and what is written is.
pub record Says (own : ℕ → Address) (due : ℕ → Option Due) (links : List Link) (link : Link) (told : List Step) (after : HostState) : Type 0 where
  pub two : Link
  pub stores : Stores links after.links link.end link.peer two
  pub plain : LinkIsPlain two
  pub said : ℕ → List Item
  pub spelled : (n : ℕ) → bytes_at n told ≡ spellings (said n)
  pub kind : (n : ℕ) → IsKind own (due n) (said n)
  pub streams : (n : ℕ) → IsPlainStream (frames_in (said n))

abbrev pub AllSay : (ℕ → Address) → (ℕ → Option Due) → List Link → Link → Stepped → Type 0
AllSay own due links link (Ok done) = Says own due links link done.0 done.1
AllSay own due links link (Err stop) = Unit {0}

-- what is asked of a link: it is plain, what waits may be spelled, and frames are due where it is up
pub record IsWell (due : ℕ → Option Due) (link : Link) : Type 0 where
  pub plain : LinkIsPlain link
  pub framed : AreFrames link.waits
  pub up : (sock : ℕ) (probed : Bool) → link.state ≡ states.Up sock probed → due sock ≡ Some Framing

-- ---- links

pub over_stores : (links : List Link) (sock : ℕ) (host : HostState) (end : ℕ) (peer : Address) (two : Link) → Stores links host.links end peer two → Stores links (end_socket sock host).links end peer two
over_stores links sock host end peer two s = subst (λ (l : List Link). Stores links l end peer two) (sym (ended_rest sock host).0) s

again_over : (sock : ℕ) (host : HostState) (one two : Link) → two.end ≡ one.end → two.peer ≡ one.peer → Stores host.links (with_link two (end_socket sock (with_link one host))).links one.end one.peer two
again_over sock host one two e p = subst (λ (l : List Link). Stores host.links (store_link two l) one.end one.peer two) (sym (ended_rest sock (with_link one host)).0) (stored_again host.links one two e p)

-- a link in another state is plain, where it is up as it was
plain_as : (link : Link) (state : LinkState) → is_up state ≡ is_up link.state → LinkIsPlain link → LinkIsPlain (record link { state = state })
plain_as link state same p = record { up = λ e. p.up (sym same ∙ e); waits = λ e. p.waits (sym same ∙ e); created = λ e. p.created (sym same ∙ e) }

forgotten_plain : (link : Link) → LinkIsPlain (forgotten link states.Idle)
forgotten_plain link = record { up = λ e. refl; waits = λ e. refl; created = λ e. refl }

risen_plain : (link : Link) (sock : ℕ) → LinkIsPlain (record link { state = states.Up sock false; waits = [] })
risen_plain link sock = record { up = λ e. refl; waits = λ e. clash e; created = λ e. clash e }

-- ---- what is done

-- nothing is written
pub quiet : (own : ℕ → Address) (due : ℕ → Option Due) (links : List Link) (link two : Link) (told : List Step) (after : HostState) → Stores links after.links link.end link.peer two → LinkIsPlain two → ((n : ℕ) → bytes_at n told ≡ []) → Says own due links link told after
quiet own due links link two told after s p bytes = record { two = two; stores = s; plain = p; said = λ n. []; spelled = bytes; kind = λ n. none_kind own (due n); streams = λ n. refl }

-- the link has failed, which ended its socket
fails : (own : ℕ → Address) (due : ℕ → Option Due) (host : HostState) (link : Link) (told : List Step) (sock : ℕ) → ((n : ℕ) → bytes_at n told ≡ [])
    → Says own due host.links link told (with_link (forgotten link states.Idle) (end_socket sock (with_link (record link { state = states.Idle }) host)))
fails own due host link told sock bytes = quiet own due host.links link (forgotten link states.Idle) told _ (again_over sock host (record link { state = states.Idle }) (forgotten link states.Idle) refl refl) (forgotten_plain link) bytes

-- nothing is done, in this state
nothing : (own : ℕ → Address) (due : ℕ → Option Due) (host : HostState) (link : Link) (one two : LinkState) → link.state ≡ one → is_up two ≡ is_up one → IsWell due link → Says own due host.links link [] (with_link (record link { state = two }) host)
nothing own due host link one two is up w = quiet own due host.links link (record link { state = two }) [] _ (stored host.links (record link { state = two })) (plain_as link two (up ∙ sym (ap is_up is)) w.plain) (λ n. refl)

-- items at one number alone are written, of which the frames are plain
pub alone : (own : ℕ → Address) (due : ℕ → Option Due) (links : List Link) (link two : Link) (told : List Step) (after : HostState) (sock : ℕ) (said : List Item) → Stores links after.links link.end link.peer two → LinkIsPlain two → ((n : ℕ) → bytes_at n told ≡ cond (sock == n) (spellings said) [])
    → IsKind own (due sock) said → IsPlainStream (frames_in said) → Says own due links link told after
alone own due links link two told after sock said s p bytes kind stream = record {
  two = two;
  stores = s;
  plain = p;
  said = only_at sock said;
  spelled = λ n. bytes n ∙ only_spelled sock n said;
  kind = only_kind own due sock said (λ n h. number_is sock n h) kind;
  streams = λ n. by_test (sock == n);
} where
  by_test : (b : Bool) → IsPlainStream (frames_in (cond b said []))
  by_test true = stream
  by_test false = refl

-- the request is crossed
crosses : (own : ℕ → Address) (due : ℕ → Option Due) (host : HostState) (link : Link) (sock : ℕ) (state : LinkState) → link.state ≡ state → due sock ≡ Some Answering → IsWell due link
    → Says own due host.links link (steps.Write sock (answer_spelling answers.Crossed) None ∷ steps.Left sock ∷ []) (end_socket sock (with_link (record link { state = state }) host))
crosses own due host link sock state is answering w = alone own due host.links link (record link { state = state }) _ _ sock (items.Answer answers.Crossed ∷ []) (over_stores host.links sock (with_link (record link { state = state }) host) link.end link.peer (record link { state = state }) (stored host.links (record link { state = state })))
    (plain_as link state (sym (ap is_up is)) w.plain) (λ n. refl) (subst (λ (d : Option Due). IsKind own d (items.Answer answers.Crossed ∷ [])) (sym answering) (tt, tt)) refl

-- and the own socket is probed
probes : (own : ℕ → Address) (due : ℕ → Option Due) (host : HostState) (link : Link) (sock up : ℕ) → link.state ≡ states.Up up false → due sock ≡ Some Answering → IsWell due link
    → Says own due host.links link (steps.Write sock (answer_spelling answers.Crossed) None ∷ steps.Left sock ∷ steps.Write up (frame_spelling frames.Probe) None ∷ []) (end_socket sock (with_link (record link { state = states.Up up true }) host))
probes own due host link sock up is answering w = record {
  two = two;
  stores = over_stores host.links sock (with_link two host) link.end link.peer two (stored host.links two);
  plain = plain_as link (states.Up up true) (sym (ap is_up is)) w.plain;
  said = said;
  spelled = λ n. spelled_at (sock == n) (up == n);
  kind = λ n. kind_at n (sock == n) refl (up == n) refl;
  streams = λ n. stream_at (sock == n) (up == n);
} where
  two : Link
  two = record link { state = states.Up up true }

  said : ℕ → List Item
  said n = cond (sock == n) (items.Answer answers.Crossed ∷ cond (up == n) (items.Frame frames.Probe ∷ []) []) (cond (up == n) (items.Frame frames.Probe ∷ []) [])

  spelled_at : (a b : Bool) → cond a (answer_spelling answers.Crossed ++ cond b (frame_spelling frames.Probe ++ []) []) (cond b (frame_spelling frames.Probe ++ []) []) ≡ spellings (cond a (items.Answer answers.Crossed ∷ cond b (items.Frame frames.Probe ∷ []) []) (cond b (items.Frame frames.Probe ∷ []) []))
  spelled_at true true = refl
  spelled_at true false = refl
  spelled_at false true = refl
  spelled_at false false = refl

  kind_at : (n : ℕ) (a : Bool) → (sock == n) ≡ a → (b : Bool) → (up == n) ≡ b → IsKind own (due n) (cond a (items.Answer answers.Crossed ∷ cond b (items.Frame frames.Probe ∷ []) []) (cond b (items.Frame frames.Probe ∷ []) []))
  kind_at n true h true g = subst (λ (d : Option Due). IsKind own d (items.Answer answers.Crossed ∷ items.Frame frames.Probe ∷ [])) (sym (ap due (sym (number_is sock n h)) ∙ answering)) (tt, (tt, tt))
  kind_at n true h false g = subst (λ (d : Option Due). IsKind own d (items.Answer answers.Crossed ∷ [])) (sym (ap due (sym (number_is sock n h)) ∙ answering)) (tt, tt)
  kind_at n false h true g = subst (λ (d : Option Due). IsKind own d (items.Frame frames.Probe ∷ [])) (sym (ap due (sym (number_is up n g)) ∙ w.up up false is)) (tt, tt)
  kind_at n false h false g = none_kind own (due n)

  stream_at : (a b : Bool) → IsPlainStream (frames_in (cond a (items.Answer answers.Crossed ∷ cond b (items.Frame frames.Probe ∷ []) []) (cond b (items.Frame frames.Probe ∷ []) [])))
  stream_at true true = probe_plain
  stream_at true false = refl
  stream_at false true = probe_plain
  stream_at false false = refl

-- the link comes up, and what waits is written behind that
rises : (own : ℕ → Address) (due : ℕ → Option Due) (links : List Link) (link : Link) (sock : ℕ) (told : List Step) (after : HostState) (first : List Item) → frames_in first ≡ [] → is_up link.state ≡ false → IsWell due link → Stores links after.links link.end link.peer (record link { state = states.Up sock false; waits = [] })
    → ((n : ℕ) → bytes_at n told ≡ cond (sock == n) (spellings (first ++ items_of link.waits)) []) → IsKind own (due sock) (first ++ items_of link.waits) → Says own due links link told after
rises own due links link sock told after first none off w s bytes kind = alone own due links link (record link { state = states.Up sock false; waits = [] }) told after sock (first ++ items_of link.waits) s (risen_plain link sock) bytes kind (subst IsPlainStream (sym written) (w.plain.waits off)) where
  written : frames_in (first ++ items_of link.waits) ≡ frames_of link.waits
  written = in_append first (items_of link.waits) ∙ ap (λ (l : List Frame). l ++ frames_in (items_of link.waits)) none ∙ waits_in link.waits

-- a probe is acknowledged
acknowledges : (own : ℕ → Address) (due : ℕ → Option Due) (host : HostState) (link : Link) (sock : ℕ) (probed : Bool) → link.state ≡ states.Up sock probed → IsWell due link
    → Says own due host.links link (steps.Write sock (frame_spelling frames.ProbeAck) None ∷ []) (with_link (record link { state = states.Up sock probed }) host)
acknowledges own due host link sock probed is w = alone own due host.links link (record link { state = states.Up sock probed }) _ _ sock (items.Frame frames.ProbeAck ∷ []) (stored host.links (record link { state = states.Up sock probed })) (plain_as link (states.Up sock probed) (sym (ap is_up is)) w.plain) (λ n. refl)
    (subst (λ (d : Option Due). IsKind own d (items.Frame frames.ProbeAck ∷ [])) (sym (w.up sock probed is)) (tt, tt)) ack_plain

-- the request is accepted
accepts : (own : ℕ → Address) (due : ℕ → Option Due) (links : List Link) (link : Link) (sock : ℕ) (before : List Step) (after : HostState) → ((n : ℕ) → bytes_at n (before ++ steps.Write sock (answer_spelling answers.Accepted) None ∷ map (frame_step sock) link.waits) ≡ bytes_at n (steps.Write sock (answer_spelling answers.Accepted) None ∷ map (frame_step sock) link.waits))
    → is_up link.state ≡ false → due sock ≡ Some Answering → IsWell due link → Stores links after.links link.end link.peer (record link { state = states.Up sock false; waits = [] }) → Says own due links link (before ++ steps.Write sock (answer_spelling answers.Accepted) None ∷ map (frame_step sock) link.waits) after
accepts own due links link sock before after silent off answering w s = rises own due links link sock (before ++ steps.Write sock (answer_spelling answers.Accepted) None ∷ map (frame_step sock) link.waits) after (items.Answer answers.Accepted ∷ []) refl off w s (λ n. silent n ∙ bytes n (sock == n) (waits_bytes sock n link.waits))
    (subst (λ (d : Option Due). IsKind own d (items.Answer answers.Accepted ∷ items_of link.waits)) (sym answering) (tt, waits_follow link.waits w.framed))
  where
    bytes : (n : ℕ) (b : Bool) → bytes_at n (map (frame_step sock) link.waits) ≡ cond b (spellings (items_of link.waits)) [] → cond b (answer_spelling answers.Accepted ++ bytes_at n (map (frame_step sock) link.waits)) (bytes_at n (map (frame_step sock) link.waits)) ≡ cond b (spellings (items.Answer answers.Accepted ∷ items_of link.waits)) []
    bytes n true e = ap (λ (l : List ℕ). answer_spelling answers.Accepted ++ l) e
    bytes n false e = e

-- ---- the table

heard_in : (own : ℕ → Address) (due : ℕ → Option Due) (host : HostState) (link : Link) (state : LinkState) (input : LinkIn) (greater : Bool) → link.state ≡ state → IsWell due link → MayHear due input link
    → AllSay own due host.links link (does_act (step_of state input greater).1 state input (record link { state = (step_of state input greater).0 }) (with_link (record link { state = (step_of state input greater).0 }) host))
unfolding step_of
heard_in own due host link state (inputs.Want n) greater is w m = absurd m
heard_in own due host link state inputs.Late greater is w m = absurd m
heard_in own due host link state inputs.Shut greater is w m = absurd m
heard_in own due host link states.Idle (inputs.Asked s) greater is w m = accepts own due host.links link s (steps.Up s ∷ []) _ (λ n. refl) (ap is_up is) m w (stored_again host.links (record link { state = states.Up s false }) (record link { state = states.Up s false; waits = [] }) refl refl)
heard_in own due host link states.AwaitOther (inputs.Asked s) greater is w m = accepts own due host.links link s (steps.Up s ∷ []) _ (λ n. refl) (ap is_up is) m w (stored_again host.links (record link { state = states.Up s false }) (record link { state = states.Up s false; waits = [] }) refl refl)
heard_in own due host link (states.Dialing d) (inputs.Asked s) true is w m = crosses own due host link s (states.Dialing d) is m w
heard_in own due host link (states.Dialing d) (inputs.Asked s) false is w m = accepts own due host.links link s (steps.Left d ∷ steps.Up s ∷ []) _ (λ n. refl) (ap is_up is) m w (again_over d host (record link { state = states.Up s false }) (record link { state = states.Up s false; waits = [] }) refl refl)
heard_in own due host link (states.Up u false) (inputs.Asked s) greater is w m = probes own due host link s u is m w
heard_in own due host link (states.Up u true) (inputs.Asked s) greater is w m = crosses own due host link s (states.Up u true) is m w
heard_in own due host link (states.Dialing d) (inputs.Answered links.Accepted) greater is w m = rises own due host.links link d (steps.Up d ∷ map (frame_step d) link.waits) _ [] refl (ap is_up is) w (stored_again host.links (record link { state = states.Up d false }) (record link { state = states.Up d false; waits = [] }) refl refl) (λ n. waits_bytes d n link.waits)
    (subst (λ (x : Option Due). IsKind own x (items_of link.waits)) (sym (m d is)) (waits_follow link.waits w.framed))
heard_in own due host link (states.Dialing d) (inputs.Answered links.Crossed) greater is w m = quiet own due host.links link (record link { state = states.AwaitOther }) (steps.Left d ∷ []) _ (over_stores host.links d (with_link (record link { state = states.AwaitOther }) host) link.end link.peer (record link { state = states.AwaitOther }) (stored host.links (record link { state = states.AwaitOther })))
    (plain_as link states.AwaitOther (sym (ap is_up is)) w.plain) (λ n. refl)
heard_in own due host link (states.Dialing d) (inputs.Answered links.Invalid) greater is w m = fails own due host link _ d (λ n. refl)
heard_in own due host link (states.Dialing d) (inputs.Answered links.Mismatch) greater is w m = fails own due host link _ d (λ n. refl)
heard_in own due host link (states.Dialing d) inputs.Gone greater is w m = fails own due host link _ d (λ n. refl)
heard_in own due host link (states.Up u probed) inputs.Gone greater is w m = fails own due host link _ u (λ n. refl)
heard_in own due host link (states.Up u probed) inputs.EndClosed greater is w m = fails own due host link _ u (λ n. refl)
heard_in own due host link (states.Up u probed) inputs.Probe greater is w m = acknowledges own due host link u probed is w
heard_in own due host link (states.Up u probed) inputs.Ack greater is w m = nothing own due host link (states.Up u probed) (states.Up u false) is refl w
heard_in own due host link state input greater is w m = nothing own due host link state state is refl w

pub heard : (own : ℕ → Address) (due : ℕ → Option Due) (input : LinkIn) (link : Link) (host : HostState) → IsWell due link → MayHear due input link → AllSay own due host.links link (hears input link host)
heard own due input link host w m = heard_in own due host link link.state input (is_greater (own_address host link.end) link.peer) refl w m
