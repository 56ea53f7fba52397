-- What a link makes of what it hears, as far as its ids go and what is written of them.
use Rattle.std.proofs.Common.{◌≡◌, ℕ, Bool, true, false, cond, List, [], ◌∷◌, ◌++◌, map, Ok, Err, refl, sym, ap, ◌∙◌, subst}
use Rattle.std.specs.Prelude.{Option, Some, None, ◌==◌}
use Rattle.ch_base.specs.declared.address.Address.{Address}
use Rattle.ch_wire.specs.Spelling.{answer_spelling, frame_spelling}
use Rattle.ch_wire.specs.declared.answer.Answer.TheVariants as answers
use Rattle.ch_wire.specs.declared.frame.Frame.{Frame}
use Rattle.ch_wire.specs.declared.frame.Frame.TheVariants as frames
use Rattle.ch_reader.specs.Items.{spellings}
use Rattle.ch_reader.specs.declared.item.Item.{Item}
use Rattle.ch_reader.specs.declared.item.Item.TheVariants as items
use Rattle.ch_light.specs.declared.Connection.{Connection}
use Rattle.ch_link.specs.Table.{step_of}
use Rattle.ch_link.specs.declared.LinkAnswer.TheVariants as links
use Rattle.ch_link.specs.declared.LinkIn.{LinkIn}
use Rattle.ch_link.specs.declared.LinkIn.TheVariants as inputs
use Rattle.ch_link.specs.declared.LinkState.{LinkState}
use Rattle.ch_link.specs.declared.LinkState.TheVariants as states
use Rattle.ch_model.specs.declared.step.Step.{Step}
use Rattle.ch_model.specs.declared.step.Step.TheVariants as steps
use Rattle.ch_model.specs.Greater.{is_greater}
use Rattle.ch_model.specs.HostLinks.{does_act, hears}
use Rattle.ch_model.specs.HostState.{Link, HostState}
use Rattle.ch_model.specs.HostSteps.{Stepped, own_address, store_link, with_link}
use Rattle.ch_model.specs.HostWrites.{is_up, frame_step, forgotten, end_socket}
use Rattle.ch_laws_calls.specs.Tables.{table_of, frames_on}
use Rattle.ch_laws_items.proofs.Sockets.{number_is}
use Rattle.ch_laws_links.proofs.Keys.{ended_rest}
use Rattle.ch_laws_reads.specs.Reads.{reads_of}
use Rattle.ch_laws_writes.specs.Dues.{Due, Answering, Framing}
use Rattle.ch_laws_writes.specs.Orderly.{AreFrames}
use Rattle.ch_laws_calls.specs.FitsFit.{is_up_at, LinkHolds, frames_in}
use Rattle.ch_laws_calls.specs.FitsTurns.{bytes_at, NoDials, IsKind, ids_up, Gives, Creates}
use Rattle.ch_laws_calls.proofs.FitsStores.{Stores, stored, stored_again, none_kind, only_at, only_kind, only_spelled, items_of, frames_of, waits_in, waits_follow, waits_bytes, waits_read, waits_alone, IsDown, Stays, still_gives, still_creates, down_gives, down_creates}
use Rattle.ch_laws_calls.proofs.FitsFrames.{in_append}
use Rattle.ch_laws_calls.proofs.FitsCalls.{clash}

-- What is done of a link that was this: what it is after, what is written, and nothing read beyond.
pub record Half (own : ℕ → Address) (due : ℕ → Option Due) (links : List Link) (link : Link) (told : List Step) (after : HostState) : Type 0 where
  pub two : Link
  pub stores : Stores links after.links link.end link.peer two
  pub holds : LinkHolds two
  pub said : ℕ → List Item
  pub spelled : (n : ℕ) → bytes_at n told ≡ spellings (said n)
  pub kind : (n : ℕ) → IsKind own (due n) (said n)
  pub gives : (n : ℕ) → Gives n link two (frames_in (said n))
  pub reads : (n : ℕ) → reads_of n told ≡ 0
  pub creates : (n : ℕ) → Creates n link two []
  pub alone : NoDials told

abbrev pub AllHalf : (ℕ → Address) → (ℕ → Option Due) → List Link → Link → Stepped → Type 0
AllHalf own due links link (Ok done) = Half own due links link done.0 done.1
AllHalf own due links link (Err stop) = Unit {0}

-- what is asked of a link: it holds, what waits may be spelled, and frames are due where it is up
pub record IsWell (due : ℕ → Option Due) (link : Link) : Type 0 where
  pub holds : LinkHolds link
  pub framed : AreFrames link.waits
  pub up : (sock : ℕ) (probed : Bool) → link.state ≡ states.Up sock probed → due sock ≡ Some Framing

-- and of what it hears
abbrev pub MayHear : (ℕ → Option Due) → LinkIn → Link → Type 0
MayHear due (inputs.Want sock) link = ⊥
MayHear due (inputs.Asked sock) link = due sock ≡ Some Answering
MayHear due (inputs.Answered answer) link = (sock : ℕ) → link.state ≡ states.Dialing sock → due sock ≡ Some Framing
MayHear due inputs.Late link = ⊥
MayHear due inputs.Shut link = ⊥
MayHear due input link = Unit {0}

-- ---- links

over_stores : (links : List Link) (sock : ℕ) (host : HostState) (end : ℕ) (peer : Address) (two : Link) → Stores links host.links end peer two → Stores links (end_socket sock host).links end peer two
over_stores links sock host end peer two s = subst (λ (l : List Link). Stores links l end peer two) (sym (ended_rest sock host).0) s

again_over : (sock : ℕ) (host : HostState) (one two : Link) → two.end ≡ one.end → two.peer ≡ one.peer → Stores host.links (with_link two (end_socket sock (with_link one host))).links one.end one.peer two
again_over sock host one two e p = subst (λ (l : List Link). Stores host.links (store_link two l) one.end one.peer two) (sym (ended_rest sock (with_link one host)).0) (stored_again host.links one two e p)

-- a link in another state holds, where it is up as it was
holds_as : (link : Link) (state : LinkState) → is_up state ≡ is_up link.state → LinkHolds link → LinkHolds (record link { state = state })
holds_as link state same h = record { payloads = h.payloads; up = λ e. h.up (sym same ∙ e); gives = λ e. h.gives (sym same ∙ e); created = λ e. h.created (sym same ∙ e) }

forgotten_holds : (link : Link) → LinkHolds (forgotten link states.Idle)
forgotten_holds link = record { payloads = tt; up = λ e. refl; gives = λ e. refl; created = λ e. refl }

risen_holds : (link : Link) (sock : ℕ) → LinkHolds (record link { state = states.Up sock false; waits = [] })
risen_holds link sock = record { payloads = tt; up = λ e. refl; gives = λ e. clash e; created = λ e. clash e }

-- where it is in the same state, or up on the same socket, it stays
stays_as : (link : Link) (one two : LinkState) → link.state ≡ one → ((n : ℕ) → is_up_at n two ≡ true → is_up_at n one ≡ true) → Stays link (record link { state = two })
stays_as link one two is same = record { up = λ n h. ap (is_up_at n) is ∙ same n h; given = refl; created = refl }

-- ---- what is done

-- nothing is written
quiet : (own : ℕ → Address) (due : ℕ → Option Due) (links : List Link) (link two : Link) (told : List Step) (after : HostState) → Stores links after.links link.end link.peer two → LinkHolds two → ((n : ℕ) → bytes_at n told ≡ []) → ((n : ℕ) → reads_of n told ≡ 0)
    → ((n : ℕ) → Gives n link two []) → ((n : ℕ) → Creates n link two []) → NoDials told → Half own due links link told after
quiet own due links link two told after s h bytes reads gives creates alone = record { alone = alone; two = two; stores = s; holds = h; said = λ n. []; spelled = bytes; kind = λ n. none_kind own (due n); gives = gives; reads = reads; creates = creates }

-- the link has failed, which ended its socket
fails : (own : ℕ → Address) (due : ℕ → Option Due) (host : HostState) (link : Link) (told : List Step) (sock : ℕ) → ((n : ℕ) → bytes_at n told ≡ []) → ((n : ℕ) → reads_of n told ≡ 0) → NoDials told
    → Half own due host.links link told (with_link (forgotten link states.Idle) (end_socket sock (with_link (record link { state = states.Idle }) host)))
fails own due host link told sock bytes reads alone = quiet own due host.links link (forgotten link states.Idle) told _ (again_over sock host (record link { state = states.Idle }) (forgotten link states.Idle) refl refl) (forgotten_holds link) bytes reads
    (λ n. down_gives n link (forgotten link states.Idle) (λ m. refl)) (λ n. down_creates n link (forgotten link states.Idle) (λ m. refl)) alone

-- and it is down then
pub fails_down : (own : ℕ → Address) (due : ℕ → Option Due) (host : HostState) (link : Link) (told : List Step) (sock : ℕ) → ((n : ℕ) → bytes_at n told ≡ []) → ((n : ℕ) → reads_of n told ≡ 0) → NoDials told
    → (h : Half own due host.links link told (with_link (forgotten link states.Idle) (end_socket sock (with_link (record link { state = states.Idle }) host)))) × IsDown h.two
unfolding fails quiet
fails_down own due host link told sock bytes reads alone = (fails own due host link told sock bytes reads alone, λ n. refl)

-- nothing is done, in this state
nothing : (own : ℕ → Address) (due : ℕ → Option Due) (host : HostState) (link : Link) (one two : LinkState) → link.state ≡ one → is_up two ≡ is_up one → ((n : ℕ) → is_up_at n two ≡ true → is_up_at n one ≡ true) → IsWell due link
    → Half own due host.links link [] (with_link (record link { state = two }) host)
nothing own due host link one two is up same w = quiet own due host.links link (record link { state = two }) [] _ (stored host.links (record link { state = two })) (holds_as link two (up ∙ sym (ap is_up is)) w.holds) (λ n. refl) (λ n. refl)
    (λ n. still_gives n link (record link { state = two }) (stays_as link one two is same)) (λ n. still_creates n link (record link { state = two }) (stays_as link one two is same)) tt

-- the request is crossed
crosses : (own : ℕ → Address) (due : ℕ → Option Due) (host : HostState) (link : Link) (sock : ℕ) (state : LinkState) → link.state ≡ state → due sock ≡ Some Answering → IsWell due link
    → Half own due host.links link (steps.Write sock (answer_spelling answers.Crossed) None ∷ steps.Left sock ∷ []) (end_socket sock (with_link (record link { state = state }) host))
crosses own due host link sock state is answering w = record {
  alone = tt;
  two = two;
  stores = over_stores host.links sock (with_link two host) link.end link.peer two (stored host.links two);
  holds = holds_as link state (sym (ap is_up is)) w.holds;
  said = only_at sock (items.Answer answers.Crossed ∷ []);
  spelled = λ n. only_spelled sock n (items.Answer answers.Crossed ∷ []);
  kind = only_kind own due sock (items.Answer answers.Crossed ∷ []) (λ n h. number_is sock n h) (subst (λ (d : Option Due). IsKind own d (items.Answer answers.Crossed ∷ [])) (sym answering) (tt, tt));
  gives = λ n. gives_at n (sock == n);
  reads = λ n. refl;
  creates = λ n. still_creates n link two (stays_as link state state is (λ n h. h));
} where
  two : Link
  two = record link { state = state }

  gives_at : (n : ℕ) (b : Bool) → Gives n link two (frames_in (cond b (items.Answer answers.Crossed ∷ []) []))
  gives_at n true = still_gives n link two (stays_as link state state is (λ n h. h))
  gives_at n false = still_gives n link two (stays_as link state state is (λ n h. h))

-- and the own socket is probed
probes : (own : ℕ → Address) (due : ℕ → Option Due) (host : HostState) (link : Link) (sock up : ℕ) → link.state ≡ states.Up up false → due sock ≡ Some Answering → IsWell due link
    → Half own due host.links link (steps.Write sock (answer_spelling answers.Crossed) None ∷ steps.Left sock ∷ steps.Write up (frame_spelling frames.Probe) None ∷ []) (end_socket sock (with_link (record link { state = states.Up up true }) host))
probes own due host link sock up is answering w = record {
  alone = tt;
  two = two;
  stores = over_stores host.links sock (with_link two host) link.end link.peer two (stored host.links two);
  holds = holds_as link (states.Up up true) (sym (ap is_up is)) w.holds;
  said = said;
  spelled = λ n. spelled_at (sock == n) (up == n);
  kind = λ n. kind_at n (sock == n) refl (up == n) refl;
  gives = λ n. gives_at n (sock == n) (up == n) refl;
  reads = λ n. refl;
  creates = λ n. still_creates n link two stays;
} where
  two : Link
  two = record link { state = states.Up up true }

  stays : Stays link two
  stays = stays_as link (states.Up up false) (states.Up up true) is (λ n h. h)

  said : ℕ → List Item
  said n = cond (sock == n) (items.Answer answers.Crossed ∷ cond (up == n) (items.Frame frames.Probe ∷ []) []) (cond (up == n) (items.Frame frames.Probe ∷ []) [])

  spelled_at : (a b : Bool) → cond a (answer_spelling answers.Crossed ++ cond b (frame_spelling frames.Probe ++ []) []) (cond b (frame_spelling frames.Probe ++ []) []) ≡ spellings (cond a (items.Answer answers.Crossed ∷ cond b (items.Frame frames.Probe ∷ []) []) (cond b (items.Frame frames.Probe ∷ []) []))
  spelled_at true true = refl
  spelled_at true false = refl
  spelled_at false true = refl
  spelled_at false false = refl

  kind_at : (n : ℕ) (a : Bool) → (sock == n) ≡ a → (b : Bool) → (up == n) ≡ b → IsKind own (due n) (cond a (items.Answer answers.Crossed ∷ cond b (items.Frame frames.Probe ∷ []) []) (cond b (items.Frame frames.Probe ∷ []) []))
  kind_at n true h true g = subst (λ (d : Option Due). IsKind own d (items.Answer answers.Crossed ∷ items.Frame frames.Probe ∷ [])) (sym (ap due (sym (number_is sock n h)) ∙ answering)) (tt, (tt, tt))
  kind_at n true h false g = subst (λ (d : Option Due). IsKind own d (items.Answer answers.Crossed ∷ [])) (sym (ap due (sym (number_is sock n h)) ∙ answering)) (tt, tt)
  kind_at n false h true g = subst (λ (d : Option Due). IsKind own d (items.Frame frames.Probe ∷ [])) (sym (ap due (sym (number_is up n g)) ∙ w.up up false is)) (tt, tt)
  kind_at n false h false g = none_kind own (due n)

  probed : (n : ℕ) → (up == n) ≡ true → Gives n link two (frames.Probe ∷ [])
  probed n h = record { up = (still_gives n link two stays).up; not = λ k. clash (sym h ∙ k) }

  gives_at : (n : ℕ) (a b : Bool) → (up == n) ≡ b → Gives n link two (frames_in (cond a (items.Answer answers.Crossed ∷ cond b (items.Frame frames.Probe ∷ []) []) (cond b (items.Frame frames.Probe ∷ []) [])))
  gives_at n true true h = probed n h
  gives_at n true false h = still_gives n link two stays
  gives_at n false true h = probed n h
  gives_at n false false h = still_gives n link two stays

-- the link comes up, and what waits is written behind that
rises : (own : ℕ → Address) (due : ℕ → Option Due) (links : List Link) (link : Link) (sock : ℕ) (told : List Step) (after : HostState) (first : List Item) → frames_in first ≡ [] → is_up link.state ≡ false → IsWell due link → Stores links after.links link.end link.peer (record link { state = states.Up sock false; waits = [] })
    → ((n : ℕ) → bytes_at n told ≡ cond (sock == n) (spellings (first ++ items_of link.waits)) []) → ((n : ℕ) → reads_of n told ≡ 0) → IsKind own (due sock) (first ++ items_of link.waits) → NoDials told → Half own due links link told after
rises own due links link sock told after first none off w s bytes reads kind alone = record {
  alone = alone;
  two = two;
  stores = s;
  holds = risen_holds link sock;
  said = only_at sock (first ++ items_of link.waits);
  spelled = λ n. bytes n ∙ only_spelled sock n (first ++ items_of link.waits);
  kind = only_kind own due sock (first ++ items_of link.waits) (λ n h. number_is sock n h) kind;
  gives = λ n. gives_at n (sock == n) refl;
  reads = reads;
  creates = λ n. record { up = λ h. ap (λ b. Some (cond b (table_of link.created) [])) (down n) ∙ ap (λ (l : List Connection). Some (table_of l)) (sym (w.holds.created off)); not = λ h. refl };
} where
  two : Link
  two = record link { state = states.Up sock false; waits = [] }

  down : (n : ℕ) → is_up_at n link.state ≡ false
  down n = by_state link.state off where
    by_state : (x : LinkState) → is_up x ≡ false → is_up_at n x ≡ false
    by_state (states.Up u probed) h = clash h
    by_state (states.Dialing d) h = refl
    by_state states.Idle h = refl
    by_state states.AwaitOther h = refl

  written : frames_in (first ++ items_of link.waits) ≡ frames_of link.waits
  written = in_append first (items_of link.waits) ∙ ap (λ (l : List Frame). l ++ frames_in (items_of link.waits)) none ∙ waits_in link.waits

  gives_at : (n : ℕ) (b : Bool) → (sock == n) ≡ b → Gives n link two (frames_in (cond b (first ++ items_of link.waits) []))
  gives_at n true h = record {
    up = λ k. ap (λ (l : List Frame). frames_on l (ids_up (λ (l : Link). l.given) n link)) written ∙ ap (λ b. frames_on (frames_of link.waits) (cond b (table_of link.given) [])) (down n) ∙ w.holds.gives off;
    not = λ k. clash (sym h ∙ k);
  }
  gives_at n false h = record { up = λ k. clash (sym k ∙ h); not = λ k. refl }

-- a probe is acknowledged
acknowledges : (own : ℕ → Address) (due : ℕ → Option Due) (host : HostState) (link : Link) (sock : ℕ) (probed : Bool) → link.state ≡ states.Up sock probed → IsWell due link
    → Half own due host.links link (steps.Write sock (frame_spelling frames.ProbeAck) None ∷ []) (with_link (record link { state = states.Up sock probed }) host)
acknowledges own due host link sock probed is w = record {
  alone = tt;
  two = two;
  stores = stored host.links two;
  holds = holds_as link (states.Up sock probed) (sym (ap is_up is)) w.holds;
  said = only_at sock (items.Frame frames.ProbeAck ∷ []);
  spelled = λ n. only_spelled sock n (items.Frame frames.ProbeAck ∷ []);
  kind = only_kind own due sock (items.Frame frames.ProbeAck ∷ []) (λ n h. number_is sock n h) (subst (λ (d : Option Due). IsKind own d (items.Frame frames.ProbeAck ∷ [])) (sym (w.up sock probed is)) (tt, tt));
  gives = λ n. gives_at n (sock == n) refl;
  reads = λ n. refl;
  creates = λ n. still_creates n link two stays;
} where
  two : Link
  two = record link { state = states.Up sock probed }

  stays : Stays link two
  stays = stays_as link (states.Up sock probed) (states.Up sock probed) is (λ n h. h)

  gives_at : (n : ℕ) (b : Bool) → (sock == n) ≡ b → Gives n link two (frames_in (cond b (items.Frame frames.ProbeAck ∷ []) []))
  gives_at n true h = record { up = (still_gives n link two stays).up; not = λ k. clash (sym h ∙ k) }
  gives_at n false h = still_gives n link two stays

-- the request is accepted
accepts : (own : ℕ → Address) (due : ℕ → Option Due) (links : List Link) (link : Link) (sock : ℕ) (before : List Step) (after : HostState) → ((n : ℕ) → bytes_at n (before ++ steps.Write sock (answer_spelling answers.Accepted) None ∷ map (frame_step sock) link.waits) ≡ bytes_at n (steps.Write sock (answer_spelling answers.Accepted) None ∷ map (frame_step sock) link.waits))
    → ((n : ℕ) → reads_of n (before ++ steps.Write sock (answer_spelling answers.Accepted) None ∷ map (frame_step sock) link.waits) ≡ reads_of n (map (frame_step sock) link.waits)) → is_up link.state ≡ false → due sock ≡ Some Answering → IsWell due link → Stores links after.links link.end link.peer (record link { state = states.Up sock false; waits = [] })
    → NoDials (before ++ steps.Write sock (answer_spelling answers.Accepted) None ∷ map (frame_step sock) link.waits) → Half own due links link (before ++ steps.Write sock (answer_spelling answers.Accepted) None ∷ map (frame_step sock) link.waits) after
accepts own due links link sock before after plain unread off answering w s alone = rises own due links link sock (before ++ steps.Write sock (answer_spelling answers.Accepted) None ∷ map (frame_step sock) link.waits) after (items.Answer answers.Accepted ∷ []) refl off w s (λ n. plain n ∙ bytes n (sock == n) (waits_bytes sock n link.waits)) (λ n. unread n ∙ waits_read sock n link.waits)
    (subst (λ (d : Option Due). IsKind own d (items.Answer answers.Accepted ∷ items_of link.waits)) (sym answering) (tt, waits_follow link.waits w.framed)) alone
  where
    bytes : (n : ℕ) (b : Bool) → bytes_at n (map (frame_step sock) link.waits) ≡ cond b (spellings (items_of link.waits)) [] → cond b (answer_spelling answers.Accepted ++ bytes_at n (map (frame_step sock) link.waits)) (bytes_at n (map (frame_step sock) link.waits)) ≡ cond b (spellings (items.Answer answers.Accepted ∷ items_of link.waits)) []
    bytes n true e = ap (λ (l : List ℕ). answer_spelling answers.Accepted ++ l) e
    bytes n false e = e

-- ---- the table

heard_in : (own : ℕ → Address) (due : ℕ → Option Due) (host : HostState) (link : Link) (state : LinkState) (input : LinkIn) (greater : Bool) → link.state ≡ state → IsWell due link → MayHear due input link
    → AllHalf own due host.links link (does_act (step_of state input greater).1 state input (record link { state = (step_of state input greater).0 }) (with_link (record link { state = (step_of state input greater).0 }) host))
unfolding step_of
heard_in own due host link state (inputs.Want n) greater is w m = absurd m
heard_in own due host link state inputs.Late greater is w m = absurd m
heard_in own due host link state inputs.Shut greater is w m = absurd m
heard_in own due host link states.Idle (inputs.Asked s) greater is w m = accepts own due host.links link s (steps.Up s ∷ []) _ (λ n. refl) (λ n. refl) (ap is_up is) m w (stored_again host.links (record link { state = states.Up s false }) (record link { state = states.Up s false; waits = [] }) refl refl) (waits_alone s link.waits)
heard_in own due host link states.AwaitOther (inputs.Asked s) greater is w m = accepts own due host.links link s (steps.Up s ∷ []) _ (λ n. refl) (λ n. refl) (ap is_up is) m w (stored_again host.links (record link { state = states.Up s false }) (record link { state = states.Up s false; waits = [] }) refl refl) (waits_alone s link.waits)
heard_in own due host link (states.Dialing d) (inputs.Asked s) true is w m = crosses own due host link s (states.Dialing d) is m w
heard_in own due host link (states.Dialing d) (inputs.Asked s) false is w m = accepts own due host.links link s (steps.Left d ∷ steps.Up s ∷ []) _ (λ n. refl) (λ n. refl) (ap is_up is) m w (again_over d host (record link { state = states.Up s false }) (record link { state = states.Up s false; waits = [] }) refl refl) (waits_alone s link.waits)
heard_in own due host link (states.Up u false) (inputs.Asked s) greater is w m = probes own due host link s u is m w
heard_in own due host link (states.Up u true) (inputs.Asked s) greater is w m = crosses own due host link s (states.Up u true) is m w
heard_in own due host link (states.Dialing d) (inputs.Answered links.Accepted) greater is w m = rises own due host.links link d (steps.Up d ∷ map (frame_step d) link.waits) _ [] refl (ap is_up is) w (stored_again host.links (record link { state = states.Up d false }) (record link { state = states.Up d false; waits = [] }) refl refl) (λ n. waits_bytes d n link.waits) (λ n. waits_read d n link.waits)
    (subst (λ (x : Option Due). IsKind own x (items_of link.waits)) (sym (m d is)) (waits_follow link.waits w.framed)) (waits_alone d link.waits)
heard_in own due host link (states.Dialing d) (inputs.Answered links.Crossed) greater is w m = quiet own due host.links link (record link { state = states.AwaitOther }) (steps.Left d ∷ []) _ (over_stores host.links d (with_link (record link { state = states.AwaitOther }) host) link.end link.peer (record link { state = states.AwaitOther }) (stored host.links (record link { state = states.AwaitOther })))
    (holds_as link states.AwaitOther (sym (ap is_up is)) w.holds) (λ n. refl) (λ n. refl) (λ n. down_gives n link (record link { state = states.AwaitOther }) (λ k. refl)) (λ n. down_creates n link (record link { state = states.AwaitOther }) (λ k. refl)) tt
heard_in own due host link (states.Dialing d) (inputs.Answered links.Invalid) greater is w m = fails own due host link _ d (λ n. refl) (λ n. refl) tt
heard_in own due host link (states.Dialing d) (inputs.Answered links.Mismatch) greater is w m = fails own due host link _ d (λ n. refl) (λ n. refl) tt
heard_in own due host link (states.Dialing d) inputs.Gone greater is w m = fails own due host link _ d (λ n. refl) (λ n. refl) tt
heard_in own due host link (states.Up u probed) inputs.Gone greater is w m = fails own due host link _ u (λ n. refl) (λ n. refl) tt
heard_in own due host link (states.Up u probed) inputs.EndClosed greater is w m = fails own due host link _ u (λ n. refl) (λ n. refl) tt
heard_in own due host link (states.Up u probed) inputs.Probe greater is w m = acknowledges own due host link u probed is w
heard_in own due host link (states.Up u probed) inputs.Ack greater is w m = nothing own due host link (states.Up u probed) (states.Up u false) is refl (λ n h. h) w
heard_in own due host link state input greater is w m = nothing own due host link state state is refl (λ n h. h) w

pub heard : (own : ℕ → Address) (due : ℕ → Option Due) (input : LinkIn) (link : Link) (host : HostState) → IsWell due link → MayHear due input link → AllHalf own due host.links link (hears input link host)
heard own due input link host w m = heard_in own due host link link.state input (is_greater (own_address host link.end) link.peer) refl w m

-- what leaves the link as it is
pub unheard : (own : ℕ → Address) (due : ℕ → Option Due) (links : List Link) (link : Link) (told : List Step) (after : HostState) → IsWell due link → Stores links after.links link.end link.peer link → (said : ℕ → List Item) → ((n : ℕ) → bytes_at n told ≡ spellings (said n)) → ((n : ℕ) → IsKind own (due n) (said n)) → ((n : ℕ) → frames_in (said n) ≡ []) → ((n : ℕ) → reads_of n told ≡ 0) → NoDials told → Half own due links link told after
unheard own due links link told after w s said spelled kind none reads alone = record {
  alone = alone;
  two = link;
  stores = s;
  holds = w.holds;
  said = said;
  spelled = spelled;
  kind = kind;
  gives = λ n. subst (λ (l : List Frame). Gives n link link l) (sym (none n)) (still_gives n link link stays);
  reads = reads;
  creates = λ n. still_creates n link link stays;
} where
  stays : Stays link link
  stays = record { up = λ n h. h; given = refl; created = refl }
