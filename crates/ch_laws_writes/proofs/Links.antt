-- What a host does for its links writes what is due, and leaves its links and sockets fit.
use Rattle.std.proofs.Common.{◌≡◌, ◌≤◌, ℕ, ◌+◌, ◌*◌, Bool, true, false, cond, List, [], ◌∷◌, length, map, Ok, Err, refl, sym, ap, ◌∙◌, subst, arith}
use Rattle.std.proofs.lemmas.Slice.Eq.{bytes_eq-Decides}
use Rattle.std.specs.Prelude.{find, Option, Some, None, Result, nat_lt, ◌==◌}
use Rattle.std.specs.Str.{bytes_eq}
use Rattle.ch_base.specs.declared.address.Address.{Address}
use Rattle.ch_base.specs.declared.event.Why.{Why}
use Rattle.ch_base.specs.declared.event.Event.TheVariants as events
use Rattle.ch_base.specs.declared.memory.Stop.TheVariants as stops
use Rattle.ch_wire.specs.Spelling.{answer_spelling, frame_spelling, IsFrame}
use Rattle.ch_wire.specs.declared.answer.Answer.{Answer}
use Rattle.ch_wire.specs.declared.answer.Answer.TheVariants as answers
use Rattle.ch_wire.specs.declared.frame.Frame.{Frame}
use Rattle.ch_wire.specs.declared.frame.Frame.TheVariants as frames
use Rattle.ch_reader.specs.declared.item.Expected.TheVariants as expected
use Rattle.ch_link.specs.Sockets.{names}
use Rattle.ch_link.specs.Table.{step_of}
use Rattle.ch_link.specs.declared.LinkAnswer.TheVariants as links
use Rattle.ch_link.specs.declared.LinkIn.{LinkIn}
use Rattle.ch_link.specs.declared.LinkIn.TheVariants as inputs
use Rattle.ch_link.specs.declared.LinkState.{LinkState}
use Rattle.ch_link.specs.declared.LinkState.TheVariants as states
use Rattle.ch_light.specs.declared.TheConstants.{MOST_IDS}
use Rattle.ch_model.specs.declared.step.Step.{Step}
use Rattle.ch_model.specs.declared.step.Step.TheVariants as steps
use Rattle.ch_model.specs.declared.step.Weight.{Weight}
use Rattle.ch_model.specs.Greater.{is_greater}
use Rattle.ch_model.specs.HostLinks.{most_dials, dialed, does_act, hears}
use Rattle.ch_model.specs.HostState.{Link, Socket, HostState}
use Rattle.ch_model.specs.HostSteps.{is_socket, own_address, with_link, with_socket, store_link}
use Rattle.ch_model.specs.HostWrites.{frame_step, forgotten, end_socket}
use Rattle.ch_model.specs.Stages.{is_ended}
use Rattle.ch_laws_items.proofs.Sockets.{number_is}
use Rattle.ch_laws_log.proofs.HostTold.{number_same, number_found, find_stored}
use Rattle.ch_laws_writes.specs.Dues.{Asking, Answering, Framing, due_of, due_at, due_past, Writes}
use Rattle.ch_laws_writes.specs.Orderly.{AreFrames, user_of, link_at, LinkFits}
use Rattle.ch_laws_writes.proofs.Dues.{Dues, nothing_said, first, and_then, writes_frame, writes_answer, framed_still, frames_said, due_ended, user_ended, Stood, stood, ended_linked}
use Rattle.ch_laws_writes.proofs.Ordered.{is_key, key_self, FitBut, Fit, SocketFitsBut, left_out, added, ended_fit, relinked, linked, Awaited}

-- what is done writes what is due, and links and sockets fit after it
pub record Does (own : ℕ → Address) (d : Dues) (told : List Step) (after : HostState) : Type 0 where
  pub fit : Fit after.links after.sockets
  pub writes : Writes own d told (due_at after)

abbrev pub AllDo : {E : Type 0} → (ℕ → Address) → Dues → Result (List Step × HostState) E → Type 0
AllDo own d (Ok done) = Does own d done.0 done.1
AllDo own d (Err e) = Unit {0}

-- a link of a host whose links and sockets fit
pub record IsLinked (host : HostState) (link : Link) : Type 0 where
  pub fit : Fit host.links host.sockets
  pub fits : LinkFits host.sockets link.end link.peer link
  pub awaited : Awaited link host.sockets

pub linked_at : (host : HostState) (link : Link) → Fit host.links host.sockets → link ≡ link_at host.links link.end link.peer → IsLinked host link
linked_at host link f is = record {
  fit = f;
  fits = subst (λ (l : Link). LinkFits host.sockets link.end link.peer l) (sym is) (f.each_link link.end link.peer refl);
  awaited = λ n socket found live a u. ap (λ (l : Link). l.state) is ∙ (f.each_socket n socket found).awaits live a link.end link.peer refl u;
}

-- ---- what is written

same_bytes : (bytes : List ℕ) → bytes_eq bytes bytes ≡ true
same_bytes bytes = (bytes_eq-Decides bytes bytes).1 refl

-- the accepting answer, and all that waits
accept_writes : (own : ℕ → Address) (d e : Dues) (sock : ℕ) (waits : List (Frame × Weight)) → d sock ≡ Some Answering → AreFrames waits → ((n : ℕ) → e n ≡ cond (sock == n) (Some Framing) (d n))
    → Writes own d (steps.Up sock ∷ steps.Write sock (answer_spelling answers.Accepted) None ∷ map (frame_step sock) waits) e
accept_writes own d e sock waits is fits same =
    first own d e (steps.Up sock) (steps.Write sock (answer_spelling answers.Accepted) None ∷ map (frame_step sock) waits) (λ n. tt)
    (first own d e (steps.Write sock (answer_spelling answers.Accepted) None) (map (frame_step sock) waits) (λ n. writes_answer own d sock answers.Accepted n is)
    (frames_said own past e sock waits (now sock ∙ ap (λ b. cond b (Some Framing) (d sock)) (number_same sock)) fits (λ n. same n ∙ sym (now n)))) where
      past : Dues
      past n = cond (sock == n) (due_past (answer_spelling answers.Accepted) (d n)) (d n)

      now : (n : ℕ) → cond (sock == n) (due_past (answer_spelling answers.Accepted) (d n)) (d n) ≡ cond (sock == n) (Some Framing) (d n)
      now n = by_test (sock == n) refl where
        by_test : (b : Bool) → (sock == n) ≡ b → cond b (due_past (answer_spelling answers.Accepted) (d n)) (d n) ≡ cond b (Some Framing) (d n)
        by_test true h = let here : d n ≡ Some Answering = ap d (sym (number_is sock n h)) ∙ is in ap (due_past (answer_spelling answers.Accepted)) here ∙ ap (λ b. cond b (Some Framing) None) (same_bytes (answer_spelling answers.Accepted))
        by_test false h = refl

-- an answer, and nothing more
pub refuse_writes : (own : ℕ → Address) (d e : Dues) (sock : ℕ) (answer : Answer) → d sock ≡ Some Answering → ((n : ℕ) → e n ≡ cond (sock == n) None (d n)) → Writes own d (steps.Write sock (answer_spelling answer) None ∷ steps.Left sock ∷ []) e
refuse_writes own d e sock answer is same = record { due = λ n. (writes_answer own d sock answer n is, (tt, tt)); leads = λ n. same n ∙ by_test n (sock == n) } where
  by_test : (n : ℕ) (b : Bool) → cond b None (d n) ≡ cond b None (cond b (due_past (answer_spelling answer) (d n)) (d n))
  by_test n true = refl
  by_test n false = refl

one_frame : (own : ℕ → Address) (d e : Dues) (sock : ℕ) (frame : Frame) → d sock ≡ Some Framing → IsFrame frame → ((n : ℕ) → e n ≡ d n) → Writes own d (steps.Write sock (frame_spelling frame) None ∷ []) e
one_frame own d e sock frame is fits same = record { due = λ n. (writes_frame own d sock frame n is fits, tt); leads = λ n. same n ∙ sym (framed_still d sock (frame_spelling frame) n is) }

-- ---- what fits

-- as a link fits that waits for nothing on a socket of its own where frames are due
fits_up : (sockets : List Socket) (link : Link) (sock : ℕ) → user_of (find (is_socket sock) sockets) ≡ Some (link.end, link.peer) → due_of (find (is_socket sock) sockets) ≡ Some Framing → length link.given ≤ MOST_IDS
    → LinkFits sockets link.end link.peer (record link { state = states.Up sock false; waits = [] })
fits_up sockets link sock user due given = record {
  named = λ n e. subst (λ (m : ℕ). user_of (find (is_socket m) sockets) ≡ Some (link.end, link.peer)) (sym (number_is n sock e)) user;
  up = λ u probed e. let is : sock ≡ u = cc in subst (λ (m : ℕ). due_of (find (is_socket m) sockets) ≡ Some Framing) is due;
  spelled = tt;
  given = given;
}

-- as one fits that has no socket
fits_off : (sockets : List Socket) (link : Link) (state : LinkState) → ((n : ℕ) → names state n ≡ false) → AreFrames link.waits → length link.given ≤ MOST_IDS → LinkFits sockets link.end link.peer (record link { state = state })
fits_off sockets link state off waits given = record {
  named = λ n e. let no : true ≡ false = sym e ∙ off n in absurd cc;
  up = λ u probed e. let no : true ≡ false = sym (number_same u) ∙ sym (ap (λ (s : LinkState). names s u) e) ∙ off u in absurd cc;
  spelled = waits;
  given = given;
}

-- none awaits an answer for a link that isn't dialing
none_awaited : (link : Link) (sockets : List Socket) → Awaited link sockets → ((n : ℕ) → link.state ≡ states.Dialing n → ⊥) → (n : ℕ) (socket : Socket) → find (is_socket n) sockets ≡ Some socket → is_ended socket.stage ≡ false → socket.expected ≡ expected.Answer → socket.user ≡ Some (link.end, link.peer) → ⊥
none_awaited link sockets w off n socket found live a u = off socket.number (w n socket found live a u)

-- nor once the end that it was dialing is over
none_left : (link : Link) (host : HostState) (sock : ℕ) → Awaited link host.sockets → link.state ≡ states.Dialing sock → (n : ℕ) (socket : Socket) → find (is_socket n) (end_socket sock host).sockets ≡ Some socket → is_ended socket.stage ≡ false → socket.expected ≡ expected.Answer → socket.user ≡ Some (link.end, link.peer) → ⊥
none_left link host sock w is n socket found live a u =
    let at : Stood sock n host socket = stood sock n host socket found live in
    let other : link.state ≡ states.Dialing socket.number = w n socket at.was live a u in
    let same : sock ≡ socket.number = cc in
    let here : (sock == n) ≡ true = ap (λ (m : ℕ). m == n) (same ∙ number_found n host.sockets socket at.was) ∙ number_same n in
    absurd cc

-- a link names no socket of another
own_alone : (host : HostState) (link : Link) (sock : ℕ) → Fit host.links host.sockets → user_of (find (is_socket sock) host.sockets) ≡ Some (link.end, link.peer) → (end : ℕ) (peer : Address) → is_key link.end link.peer end peer ≡ false → names (link_at host.links end peer).state sock ≡ true → ⊥
own_alone host link sock f user end peer off e =
    let both : ◌≡◌ {A = Option (ℕ × Address)} (Some (link.end, link.peer)) (Some (end, peer)) = sym user ∙ (f.each_link end peer refl).named sock e in
    let no : true ≡ false = sym (key_self link.end link.peer) ∙ ap key_in both ∙ off in absurd cc where
      key_in : Option (ℕ × Address) → Bool
      key_in (Some user) = is_key link.end link.peer user.0 user.1
      key_in None = false

-- the end of a socket of the link is over, and all others fit
end_left : (host : HostState) (link : Link) (sock : ℕ) → Fit host.links host.sockets → user_of (find (is_socket sock) host.sockets) ≡ Some (link.end, link.peer) → FitBut (is_key link.end link.peer) (end_socket sock host).links (end_socket sock host).sockets
end_left host link sock f user = ended_fit (is_key link.end link.peer) host sock (left_out (is_key link.end link.peer) host.links host.sockets f) (own_alone host link sock f user)

apart_from : (state : LinkState) (s n : ℕ) → names state s ≡ false → names state n ≡ true → (s == n) ≡ false
apart_from state s n off is = by_test (s == n) refl where
  by_test : (b : Bool) → (s == n) ≡ b → b ≡ false
  by_test true e = let no : true ≡ false = sym is ∙ sym (ap (names state) (number_is s n e)) ∙ off in no
  by_test false e = refl

-- ---- acts

-- a link in a state where it names no other socket than before
settled : (host : HostState) (link : Link) (state : LinkState) → IsLinked host link → ((n : ℕ) → names state n ≡ true → names link.state n ≡ true) → ((u : ℕ) (q : Bool) → state ≡ states.Up u q → (r : Bool) × (link.state ≡ states.Up u r)) → ((n : ℕ) → link.state ≡ states.Dialing n → state ≡ states.Dialing n)
    → Fit (store_link (record link { state = state }) host.links) host.sockets
settled host link state l named up dials = linked (record link { state = state }) host.links host.sockets (left_out (is_key link.end link.peer) host.links host.sockets l.fit)
    (record { named = λ n e. l.fits.named n (named n e); up = λ u q e. l.fits.up u (up u q e).0 (up u q e).1; spelled = l.fits.spelled; given = l.fits.given })
    (λ n socket found live a u. dials socket.number (l.awaited n socket found live a u))

-- a link in its own state
stays : (host : HostState) (link : Link) (state : LinkState) → link.state ≡ state → IsLinked host link → Fit (store_link (record link { state = state }) host.links) host.sockets
stays host link state is l = settled host link state l (λ n e. ap (λ (s : LinkState). names s n) is ∙ e) (λ u q e. (q, is ∙ e)) (λ n e. sym is ∙ e)

-- a link whose probe was sent or answered
probed_as : (host : HostState) (link : Link) (sock : ℕ) (p q : Bool) → link.state ≡ states.Up sock p → IsLinked host link → Fit (store_link (record link { state = states.Up sock q }) host.links) host.sockets
probed_as host link sock p q is l = settled host link (states.Up sock q) l (λ n e. ap (λ (s : LinkState). names s n) is ∙ e) (λ u r e. let same : sock ≡ u = cc in (p, is ∙ ap (λ (m : ℕ). states.Up m p) same)) (λ n e. absurd cc)

nothing_done : (own : ℕ → Address) (host : HostState) (link : Link) (state : LinkState) → Fit (store_link (record link { state = state }) host.links) host.sockets → Does own (due_at host) [] (with_link (record link { state = state }) host)
nothing_done own host link state f = record { fit = f; writes = nothing_said own (due_at host) (due_at host) (λ n. refl) }

-- the next socket is dialed
dial_done : (own : ℕ → Address) (host : HostState) (link : Link) (sock : ℕ) → link.state ≡ states.Idle → find (is_socket sock) host.sockets ≡ None → IsLinked host link
    → Does own (due_at host) (steps.Dial sock link.end link.peer ∷ []) (with_socket (dialed sock link.end link.peer) (record host { links = store_link (record link { state = states.Dialing sock }) host.links; dials = host.dials + 1 }))
dial_done own host link sock idle none l = record {
  fit = linked (record link { state = states.Dialing sock }) host.links _ (added (is_key link.end link.peer) host.links host.sockets new (left_out (is_key link.end link.peer) host.links host.sockets l.fit) none socket_fits)
      (record { named = λ n e. ap user_of (find_stored new host.sockets n) ∙ by_user n (sock == n) (ap (λ (m : ℕ). m == n) (sym (number_is n sock e)) ∙ number_same n); up = λ u q e. absurd cc; spelled = l.fits.spelled; given = l.fits.given })
      (λ n socket found live a u. by_awaited n socket live a u (sock == n) (sym (find_stored new host.sockets n) ∙ found));
  writes = record { due = λ n. (tt, tt); leads = λ n. ap due_of (find_stored new host.sockets n) ∙ by_due n (sock == n) };
} where
  new : Socket
  new = dialed sock link.end link.peer

  key_in : Option (ℕ × Address) → Bool
  key_in (Some user) = is_key link.end link.peer user.0 user.1
  key_in None = false

  socket_fits : SocketFitsBut (is_key link.end link.peer) host.links new
  socket_fits = record { asks = λ p. refl; unasked = λ e. absurd cc; awaits = λ s a end peer off u. let no : true ≡ false = sym (key_self link.end link.peer) ∙ ap key_in u ∙ off in absurd cc }

  by_user : (n : ℕ) (b : Bool) → b ≡ true → user_of (cond b (Some new) (find (is_socket n) host.sockets)) ≡ Some (link.end, link.peer)
  by_user n true e = refl
  by_user n false e = absurd cc

  by_awaited : (n : ℕ) (socket : Socket) → is_ended socket.stage ≡ false → socket.expected ≡ expected.Answer → socket.user ≡ Some (link.end, link.peer) → (b : Bool) → cond b (Some new) (find (is_socket n) host.sockets) ≡ Some socket → states.Dialing sock ≡ states.Dialing socket.number
  by_awaited n socket live a u true found = let is : new ≡ socket = cc in ap (λ (w : Socket). states.Dialing w.number) is
  by_awaited n socket live a u false found = let at : link.state ≡ states.Dialing socket.number = l.awaited n socket found live a u in absurd cc

  by_due : (n : ℕ) (b : Bool) → due_of (cond b (Some new) (find (is_socket n) host.sockets)) ≡ cond b (Some (Asking link.end link.peer)) (due_at host n)
  by_due n true = refl
  by_due n false = refl

-- what is due where a socket was asked on
abbrev pub asked_dues : ℕ → HostState → Dues
asked_dues sock host n = cond (sock == n) (Some Answering) (due_at host n)

pub answers_there : (sock : ℕ) (host : HostState) → asked_dues sock host sock ≡ Some Answering
answers_there sock host = ap (λ b. cond b (Some Answering) (due_at host sock)) (number_same sock)

-- a link that was asked is up on the socket
up_fit : (host : HostState) (link : Link) (sock : ℕ) → FitBut (is_key link.end link.peer) host.links host.sockets → user_of (find (is_socket sock) host.sockets) ≡ Some (link.end, link.peer) → due_at host sock ≡ Some Framing → length link.given ≤ MOST_IDS
    → ((n : ℕ) (socket : Socket) → find (is_socket n) host.sockets ≡ Some socket → is_ended socket.stage ≡ false → socket.expected ≡ expected.Answer → socket.user ≡ Some (link.end, link.peer) → ⊥)
    → Fit (store_link (record link { state = states.Up sock false; waits = [] }) (store_link (record link { state = states.Up sock false }) host.links)) host.sockets
up_fit host link sock f user due given none = linked (record link { state = states.Up sock false; waits = [] }) _ host.sockets (relinked (record link { state = states.Up sock false }) host.links host.sockets f) (fits_up host.sockets link sock user due given)
    (λ n socket found live a u. absurd (none n socket found live a u))

accept_done : (own : ℕ → Address) (host : HostState) (link : Link) (sock : ℕ) → ((n : ℕ) → link.state ≡ states.Dialing n → ⊥) → user_of (find (is_socket sock) host.sockets) ≡ Some (link.end, link.peer) → due_at host sock ≡ Some Framing → IsLinked host link
    → Does own (asked_dues sock host) (steps.Up sock ∷ steps.Write sock (answer_spelling answers.Accepted) None ∷ map (frame_step sock) link.waits) (with_link (record link { state = states.Up sock false; waits = [] }) (with_link (record link { state = states.Up sock false }) host))
accept_done own host link sock off user due l = record {
  fit = up_fit host link sock (left_out (is_key link.end link.peer) host.links host.sockets l.fit) user due l.fits.given (none_awaited link host.sockets l.awaited off);
  writes = accept_writes own (asked_dues sock host) (due_at host) sock link.waits (answers_there sock host) l.fits.spelled (λ n. by_test n (sock == n) refl);
} where
  by_test : (n : ℕ) (b : Bool) → (sock == n) ≡ b → due_at host n ≡ cond b (Some Framing) (cond b (Some Answering) (due_at host n))
  by_test n true e = ap (due_at host) (sym (number_is sock n e)) ∙ due
  by_test n false e = refl

-- the same once the own dial is left
leave_accept_done : (own : ℕ → Address) (host : HostState) (link : Link) (dial sock : ℕ) → link.state ≡ states.Dialing dial → user_of (find (is_socket sock) host.sockets) ≡ Some (link.end, link.peer) → due_at host sock ≡ Some Framing → names link.state sock ≡ false → IsLinked host link
    → Does own (asked_dues sock host) (steps.Left dial ∷ steps.Up sock ∷ steps.Write sock (answer_spelling answers.Accepted) None ∷ map (frame_step sock) link.waits)
    (with_link (record link { state = states.Up sock false; waits = [] }) (end_socket dial (with_link (record link { state = states.Up sock false }) host)))
leave_accept_done own host link dial sock is user due off l = subst (λ (h : HostState). Does own (asked_dues sock host) (steps.Left dial ∷ steps.Up sock ∷ steps.Write sock (answer_spelling answers.Accepted) None ∷ map (frame_step sock) link.waits) (with_link (record link { state = states.Up sock false; waits = [] }) h))
    (sym (ended_linked dial (record link { state = states.Up sock false }) host)) (record {
      fit = up_fit left link sock (end_left host link dial l.fit (l.fits.named dial names_dial)) (user_ended dial host sock ∙ user) (due_ended dial host sock ∙ ap (λ b. cond b None (due_at host sock)) other ∙ due) l.fits.given (none_left link host dial l.awaited is);
      writes = first own (asked_dues sock host) (due_at left) (steps.Left dial) _ (λ n. tt) (accept_writes own now (due_at left) sock link.waits (ap (λ b. cond b None (asked_dues sock host sock)) other ∙ answers_there sock host) l.fits.spelled (λ n. due_ended dial host n ∙ by_tests n (dial == n) refl (sock == n) refl));
    }) where
      left : HostState
      left = end_socket dial host

      now : Dues
      now n = cond (dial == n) None (asked_dues sock host n)

      names_dial : names link.state dial ≡ true
      names_dial = ap (λ (s : LinkState). names s dial) is ∙ number_same dial

      other : (dial == sock) ≡ false
      other = by_test (dial == sock) refl where
        by_test : (b : Bool) → (dial == sock) ≡ b → b ≡ false
        by_test true e = let no : true ≡ false = sym names_dial ∙ ap (names link.state) (number_is dial sock e) ∙ off in no
        by_test false e = refl

      by_tests : (n : ℕ) (a : Bool) → (dial == n) ≡ a → (b : Bool) → (sock == n) ≡ b → cond a None (due_at host n) ≡ cond b (Some Framing) (cond a None (cond b (Some Answering) (due_at host n)))
      by_tests n true e true g = let no : true ≡ false = sym (number_same dial) ∙ ap (λ (m : ℕ). dial == m) (number_is dial n e ∙ sym (number_is sock n g)) ∙ other in absurd cc
      by_tests n true e false g = refl
      by_tests n false e true g = ap (due_at host) (sym (number_is sock n g)) ∙ due
      by_tests n false e false g = refl

-- the request is answered, and its socket left
cross_done : (own : ℕ → Address) (host : HostState) (link : Link) (state : LinkState) (sock : ℕ) (answer : Answer) → user_of (find (is_socket sock) host.sockets) ≡ Some (link.end, link.peer) → names link.state sock ≡ false
    → ((n : ℕ) → names state n ≡ true → names link.state n ≡ true) → ((u : ℕ) (q : Bool) → state ≡ states.Up u q → (r : Bool) × (link.state ≡ states.Up u r)) → ((n : ℕ) → link.state ≡ states.Dialing n → state ≡ states.Dialing n) → IsLinked host link
    → Does own (asked_dues sock host) (steps.Write sock (answer_spelling answer) None ∷ steps.Left sock ∷ []) (end_socket sock (with_link (record link { state = state }) host))
cross_done own host link state sock answer user off named up dials l = subst (λ (h : HostState). Does own (asked_dues sock host) (steps.Write sock (answer_spelling answer) None ∷ steps.Left sock ∷ []) h) (sym (ended_linked sock (record link { state = state }) host)) (record {
  fit = linked (record link { state = state }) left.links left.sockets (end_left host link sock l.fit user)
      (record { named = λ n e. user_ended sock host n ∙ l.fits.named n (named n e); up = λ u q e. up_there u (up u q e).0 (up u q e).1; spelled = l.fits.spelled; given = l.fits.given })
      (λ n socket found live a u. let at : Stood sock n host socket = stood sock n host socket found live in dials socket.number (l.awaited n socket at.was live a u));
  writes = refuse_writes own (asked_dues sock host) (due_at left) sock answer (answers_there sock host) (λ n. due_ended sock host n ∙ by_test n (sock == n));
}) where
  left : HostState
  left = end_socket sock host

  up_there : (u : ℕ) (r : Bool) → link.state ≡ states.Up u r → due_at left u ≡ Some Framing
  up_there u r e = due_ended sock host u ∙ ap (λ b. cond b None (due_at host u)) (apart_from link.state sock u off (ap (λ (s : LinkState). names s u) e ∙ number_same u)) ∙ l.fits.up u r e

  by_test : (n : ℕ) (b : Bool) → cond b None (due_at host n) ≡ cond b None (cond b (Some Answering) (due_at host n))
  by_test n true = refl
  by_test n false = refl

-- none awaits an answer once the end that the link named is over
none_gone : (link : Link) (host : HostState) (sock : ℕ) → Awaited link host.sockets → names link.state sock ≡ true → (n : ℕ) (socket : Socket) → find (is_socket n) (end_socket sock host).sockets ≡ Some socket → is_ended socket.stage ≡ false → socket.expected ≡ expected.Answer → socket.user ≡ Some (link.end, link.peer) → ⊥
none_gone link host sock w named n socket found live a u =
    let at : Stood sock n host socket = stood sock n host socket found live in
    let here : (sock == socket.number) ≡ true = sym (ap (λ (s : LinkState). names s sock) (w n socket at.was live a u)) ∙ named in
    let no : true ≡ false = sym here ∙ ap (λ (m : ℕ). sock == m) (number_found n host.sockets socket at.was) ∙ at.other in
    absurd cc

-- a link that was in a state with a socket, and forgot all
over_fit : (host : HostState) (link : Link) (sock : ℕ) → names link.state sock ≡ true → IsLinked host link
    → Fit (store_link (forgotten link states.Idle) (store_link (record link { state = states.Idle }) (end_socket sock host).links)) (end_socket sock host).sockets
over_fit host link sock named l = linked (forgotten link states.Idle) _ (end_socket sock host).sockets (relinked (record link { state = states.Idle }) (end_socket sock host).links (end_socket sock host).sockets (end_left host link sock l.fit (l.fits.named sock named)))
    (record { named = λ n e. absurd cc; up = λ u q e. absurd cc; spelled = tt; given = omega arith })
    (λ n socket found live a u. absurd (none_gone link host sock l.awaited named n socket found live a u))

over_done : (own : ℕ → Address) (host : HostState) (link : Link) (sock : ℕ) (told : List Step) → names link.state sock ≡ true → IsLinked host link → Writes own (due_at host) told (due_at (end_socket sock host))
    → Does own (due_at host) told (with_link (forgotten link states.Idle) (end_socket sock (with_link (record link { state = states.Idle }) host)))
over_done own host link sock told named l w = subst (λ (h : HostState). Does own (due_at host) told (with_link (forgotten link states.Idle) h)) (sym (ended_linked sock (record link { state = states.Idle }) host))
    (record { fit = over_fit host link sock named l; writes = w })

-- a link that had none, and forgot all
forgotten_done : (own : ℕ → Address) (host : HostState) (link : Link) (told : List Step) → ((n : ℕ) → link.state ≡ states.Dialing n → ⊥) → IsLinked host link → Writes own (due_at host) told (due_at host)
    → Does own (due_at host) told (with_link (forgotten link states.Idle) (with_link (record link { state = states.Idle }) host))
forgotten_done own host link told off l w = record {
  fit = linked (forgotten link states.Idle) _ host.sockets (relinked (record link { state = states.Idle }) host.links host.sockets (left_out (is_key link.end link.peer) host.links host.sockets l.fit))
      (record { named = λ n e. absurd cc; up = λ u q e. absurd cc; spelled = tt; given = omega arith })
      (λ n socket found live a u. absurd (none_awaited link host.sockets l.awaited off n socket found live a u));
  writes = w;
}

-- the link has failed, and so it is told
fail_left : (own : ℕ → Address) (host : HostState) (link : Link) (why : Why) (sock : ℕ) → link.state ≡ states.Dialing sock → IsLinked host link
    → Does own (due_at host) (steps.Left sock ∷ steps.Broke link.end link.peer why ∷ steps.Post link.end (events.ConnectionLost link.peer why) ∷ []) (with_link (forgotten link states.Idle) (end_socket sock (with_link (record link { state = states.Idle }) host)))
fail_left own host link why sock is l = over_done own host link sock _ (ap (λ (s : LinkState). names s sock) is ∙ number_same sock) l (record { due = λ n. (tt, (tt, (tt, tt))); leads = λ n. due_ended sock host n })

fail_down : (own : ℕ → Address) (host : HostState) (link : Link) (why : Why) (sock : ℕ) (probed : Bool) → link.state ≡ states.Up sock probed → IsLinked host link
    → Does own (due_at host) (steps.Down sock ∷ steps.Broke link.end link.peer why ∷ steps.Post link.end (events.ConnectionLost link.peer why) ∷ []) (with_link (forgotten link states.Idle) (end_socket sock (with_link (record link { state = states.Idle }) host)))
fail_down own host link why sock probed is l = over_done own host link sock _ (ap (λ (s : LinkState). names s sock) is ∙ number_same sock) l (record { due = λ n. (tt, (tt, (tt, tt))); leads = λ n. due_ended sock host n })

-- the link is shut
close_down : (own : ℕ → Address) (host : HostState) (link : Link) (sock : ℕ) (probed : Bool) → link.state ≡ states.Up sock probed → IsLinked host link
    → Does own (due_at host) (steps.Write sock (frame_spelling frames.EndClosed) None ∷ steps.Down sock ∷ []) (with_link (forgotten link states.Idle) (end_socket sock (with_link (record link { state = states.Idle }) host)))
close_down own host link sock probed is l = over_done own host link sock _ (ap (λ (s : LinkState). names s sock) is ∙ number_same sock) l
    (record { due = λ n. (writes_frame own (due_at host) sock frames.EndClosed n (l.fits.up sock probed is) tt, (tt, tt)); leads = λ n. due_ended sock host n ∙ by_test n (sock == n) }) where
      by_test : (n : ℕ) (b : Bool) → cond b None (due_at host n) ≡ cond b None (cond b (due_past (frame_spelling frames.EndClosed) (due_at host n)) (due_at host n))
      by_test n true = refl
      by_test n false = refl

close_left : (own : ℕ → Address) (host : HostState) (link : Link) (sock : ℕ) → link.state ≡ states.Dialing sock → IsLinked host link
    → Does own (due_at host) (steps.Left sock ∷ []) (with_link (forgotten link states.Idle) (end_socket sock (with_link (record link { state = states.Idle }) host)))
close_left own host link sock is l = over_done own host link sock _ (ap (λ (s : LinkState). names s sock) is ∙ number_same sock) l (record { due = λ n. (tt, tt); leads = λ n. due_ended sock host n })

-- the own dial is left, since the other is taken
leave_done : (own : ℕ → Address) (host : HostState) (link : Link) (sock : ℕ) → link.state ≡ states.Dialing sock → IsLinked host link → Does own (due_at host) (steps.Left sock ∷ []) (end_socket sock (with_link (record link { state = states.AwaitOther }) host))
leave_done own host link sock is l = subst (λ (h : HostState). Does own (due_at host) (steps.Left sock ∷ []) h) (sym (ended_linked sock (record link { state = states.AwaitOther }) host)) (record {
  fit = linked (record link { state = states.AwaitOther }) (end_socket sock host).links (end_socket sock host).sockets (end_left host link sock l.fit (l.fits.named sock (ap (λ (s : LinkState). names s sock) is ∙ number_same sock)))
      (fits_off (end_socket sock host).sockets link states.AwaitOther (λ n. refl) l.fits.spelled l.fits.given)
      (λ n socket found live a u. absurd (none_left link host sock l.awaited is n socket found live a u));
  writes = record { due = λ n. (tt, tt); leads = λ n. due_ended sock host n };
})

-- the dialed socket is up
raise_done : (own : ℕ → Address) (host : HostState) (link : Link) (sock : ℕ) → link.state ≡ states.Dialing sock → due_at host sock ≡ Some Framing → ((socket : Socket) → find (is_socket sock) host.sockets ≡ Some socket → socket.expected ≡ expected.Answer → ⊥) → IsLinked host link
    → Does own (due_at host) (steps.Up sock ∷ map (frame_step sock) link.waits) (with_link (record link { state = states.Up sock false; waits = [] }) (with_link (record link { state = states.Up sock false }) host))
raise_done own host link sock is due read l = record {
  fit = up_fit host link sock (left_out (is_key link.end link.peer) host.links host.sockets l.fit) (l.fits.named sock (ap (λ (s : LinkState). names s sock) is ∙ number_same sock)) due l.fits.given none;
  writes = first own (due_at host) (due_at host) (steps.Up sock) (map (frame_step sock) link.waits) (λ n. tt) (frames_said own (due_at host) (due_at host) sock link.waits due l.fits.spelled (λ n. refl));
} where
  none : (n : ℕ) (socket : Socket) → find (is_socket n) host.sockets ≡ Some socket → is_ended socket.stage ≡ false → socket.expected ≡ expected.Answer → socket.user ≡ Some (link.end, link.peer) → ⊥
  none n socket found live a u =
      let at : link.state ≡ states.Dialing socket.number = l.awaited n socket found live a u in
      let same : sock ≡ socket.number = cc in
      read socket (subst (λ (m : ℕ). find (is_socket m) host.sockets ≡ Some socket) (sym (same ∙ number_found n host.sockets socket found)) found) a

-- a probe is acknowledged
acknowledge_done : (own : ℕ → Address) (host : HostState) (link : Link) (sock : ℕ) (probed : Bool) → link.state ≡ states.Up sock probed → IsLinked host link
    → Does own (due_at host) (steps.Write sock (frame_spelling frames.ProbeAck) None ∷ []) (with_link (record link { state = states.Up sock probed }) host)
acknowledge_done own host link sock probed is l = record { fit = stays host link (states.Up sock probed) is l; writes = one_frame own (due_at host) (due_at host) sock frames.ProbeAck (l.fits.up sock probed is) tt (λ n. refl) }

-- a request is answered, and the own socket is probed
probe_done : (own : ℕ → Address) (host : HostState) (link : Link) (up sock : ℕ) → link.state ≡ states.Up up false → user_of (find (is_socket sock) host.sockets) ≡ Some (link.end, link.peer) → names link.state sock ≡ false → IsLinked host link
    → Does own (asked_dues sock host) (steps.Write sock (answer_spelling answers.Crossed) None ∷ steps.Left sock ∷ steps.Write up (frame_spelling frames.Probe) None ∷ []) (end_socket sock (with_link (record link { state = states.Up up true }) host))
probe_done own host link up sock is user off l = by_crossed (cross_done own host link (states.Up up true) sock answers.Crossed user off (λ n e. ap (λ (s : LinkState). names s n) is ∙ e) (λ u r e. let same : up ≡ u = cc in (false, is ∙ ap (λ (m : ℕ). states.Up m false) same)) (λ n e. absurd cc) l) where
  after : HostState
  after = end_socket sock (with_link (record link { state = states.Up up true }) host)

  due : due_at after up ≡ Some Framing
  due = due_ended sock (with_link (record link { state = states.Up up true }) host) up ∙ ap (λ b. cond b None (due_at host up)) (apart_from link.state sock up off (ap (λ (s : LinkState). names s up) is ∙ number_same up)) ∙ l.fits.up up false is

  by_crossed : Does own (asked_dues sock host) (steps.Write sock (answer_spelling answers.Crossed) None ∷ steps.Left sock ∷ []) after → Does own (asked_dues sock host) (steps.Write sock (answer_spelling answers.Crossed) None ∷ steps.Left sock ∷ steps.Write up (frame_spelling frames.Probe) None ∷ []) after
  by_crossed d = record { fit = d.fit; writes = and_then own (asked_dues sock host) (due_at after) (due_at after) (steps.Write sock (answer_spelling answers.Crossed) None ∷ steps.Left sock ∷ []) (steps.Write up (frame_spelling frames.Probe) None ∷ []) d.writes (one_frame own (due_at after) (due_at after) up frames.Probe due tt (λ n. refl)) }

-- ---- the table

-- what is due where a link hears an input
abbrev pub dues_heard : LinkIn → HostState → Dues
dues_heard (inputs.Asked sock) host n = cond (sock == n) (Some Answering) (due_at host n)
dues_heard input host n = due_at host n

-- The input comes as it should: the next dial's number is free; the socket that is asked on is for this link, which doesn't name it;
-- and the socket that was answered on is open, and has read its answer.
abbrev pub MayHear : LinkIn → Link → HostState → Type 0
MayHear (inputs.Want sock) link host = (sock ≡ 2 * host.dials) × (find (is_socket sock) host.sockets ≡ None)
MayHear (inputs.Asked sock) link host = (user_of (find (is_socket sock) host.sockets) ≡ Some (link.end, link.peer)) × (due_at host sock ≡ Some Framing) × (names link.state sock ≡ false)
MayHear (inputs.Answered answer) link host = (n : ℕ) → link.state ≡ states.Dialing n → (due_at host n ≡ Some Framing) × ((socket : Socket) → find (is_socket n) host.sockets ≡ Some socket → socket.expected ≡ expected.Answer → ⊥)
MayHear input link host = Unit {0}

heard_in : (own : ℕ → Address) (host : HostState) (link : Link) (state : LinkState) (input : LinkIn) (greater : Bool) → link.state ≡ state → IsLinked host link → MayHear input link host
    → AllDo own (dues_heard input host) (does_act (step_of state input greater).1 state input (record link { state = (step_of state input greater).0 }) (with_link (record link { state = (step_of state input greater).0 }) host))
unfolding step_of
heard_in own host link states.Idle (inputs.Want n) greater is l m = by_test (nat_lt host.dials most_dials) where
  by_test : (b : Bool) → AllDo own (due_at host) (cond b (Ok (steps.Dial n link.end link.peer ∷ [], with_socket (dialed n link.end link.peer) (record host { links = store_link (record link { state = states.Dialing n }) host.links; dials = host.dials + 1 }))) (Err stops.Worn))
  by_test true = dial_done own host link n is m.1 l
  by_test false = tt
heard_in own host link (states.Dialing d) (inputs.Want n) greater is l m = nothing_done own host link (states.Dialing d) (stays host link (states.Dialing d) is l)
heard_in own host link states.AwaitOther (inputs.Want n) greater is l m = nothing_done own host link states.AwaitOther (stays host link states.AwaitOther is l)
heard_in own host link (states.Up u probed) (inputs.Want n) greater is l m = nothing_done own host link (states.Up u probed) (stays host link (states.Up u probed) is l)
heard_in own host link states.Idle (inputs.Asked s) greater is l m = accept_done own host link s (λ n e. absurd cc) m.0 m.1 l
heard_in own host link states.AwaitOther (inputs.Asked s) greater is l m = accept_done own host link s (λ n e. absurd cc) m.0 m.1 l
heard_in own host link (states.Dialing d) (inputs.Asked s) true is l m = cross_done own host link (states.Dialing d) s answers.Crossed m.0 m.2 (λ n e. ap (λ (x : LinkState). names x n) is ∙ e) (λ u q e. absurd cc) (λ n e. sym is ∙ e) l
heard_in own host link (states.Dialing d) (inputs.Asked s) false is l m = leave_accept_done own host link d s is m.0 m.1 m.2 l
heard_in own host link (states.Up u false) (inputs.Asked s) greater is l m = probe_done own host link u s is m.0 m.2 l
heard_in own host link (states.Up u true) (inputs.Asked s) greater is l m = cross_done own host link (states.Up u true) s answers.Crossed m.0 m.2 (λ n e. ap (λ (x : LinkState). names x n) is ∙ e) (λ v q e. (q, is ∙ e)) (λ n e. absurd cc) l
heard_in own host link (states.Dialing d) (inputs.Answered links.Accepted) greater is l m = raise_done own host link d is (m d is).0 (m d is).1 l
heard_in own host link (states.Dialing d) (inputs.Answered links.Crossed) greater is l m = leave_done own host link d is l
heard_in own host link (states.Dialing d) (inputs.Answered links.Invalid) greater is l m = fail_left own host link _ d is l
heard_in own host link (states.Dialing d) (inputs.Answered links.Mismatch) greater is l m = fail_left own host link _ d is l
heard_in own host link (states.Dialing d) inputs.Gone greater is l m = fail_left own host link _ d is l
heard_in own host link (states.Up u probed) inputs.Gone greater is l m = fail_down own host link _ u probed is l
heard_in own host link (states.Up u probed) inputs.EndClosed greater is l m = fail_down own host link _ u probed is l
heard_in own host link (states.Up u probed) inputs.Probe greater is l m = acknowledge_done own host link u probed is l
heard_in own host link (states.Up u probed) inputs.Ack greater is l m = nothing_done own host link (states.Up u false) (probed_as host link u probed false is l)
heard_in own host link (states.Dialing d) inputs.Late greater is l m = fail_left own host link _ d is l
heard_in own host link states.AwaitOther inputs.Late greater is l m = forgotten_done own host link _ (λ n e. absurd cc) l (record { due = λ n. (tt, (tt, tt)); leads = λ n. refl })
heard_in own host link (states.Up u true) inputs.Late greater is l m = fail_down own host link _ u true is l
heard_in own host link states.Idle inputs.Late greater is l m = nothing_done own host link states.Idle (stays host link states.Idle is l)
heard_in own host link (states.Up u false) inputs.Late greater is l m = nothing_done own host link (states.Up u false) (stays host link (states.Up u false) is l)
heard_in own host link states.Idle inputs.Shut greater is l m = forgotten_done own host link _ (λ n e. absurd cc) l (nothing_said own (due_at host) (due_at host) (λ n. refl))
heard_in own host link states.AwaitOther inputs.Shut greater is l m = forgotten_done own host link _ (λ n e. absurd cc) l (nothing_said own (due_at host) (due_at host) (λ n. refl))
heard_in own host link (states.Dialing d) inputs.Shut greater is l m = close_left own host link d is l
heard_in own host link (states.Up u probed) inputs.Shut greater is l m = close_down own host link u probed is l
heard_in own host link state input greater is l m = nothing_done own host link state (stays host link state is l)

-- what a link makes of an input
pub heard : (own : ℕ → Address) (input : LinkIn) (link : Link) (host : HostState) → IsLinked host link → MayHear input link host → AllDo own (dues_heard input host) (hears input link host)
heard own input link host l m = heard_in own host link link.state input (is_greater (own_address host link.end) link.peer) refl l m
