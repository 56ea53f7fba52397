-- Steps that write what is due, one after another.
use Rattle.std.proofs.Common.{◌≡◌, ℕ, Bool, true, false, cond, List, [], ◌∷◌, ◌++◌, map, refl, sym, ap, ◌∙◌, subst}
use Rattle.std.specs.Prelude.{find, Option, Some, None, ◌==◌}
use Rattle.ch_base.specs.declared.address.Address.{Address}
use Rattle.ch_wire.specs.Spelling.{IsFrame, answer_spelling, frame_spelling}
use Rattle.ch_wire.specs.declared.answer.Answer.{Answer}
use Rattle.ch_wire.specs.declared.frame.Frame.{Frame}
use Rattle.ch_model.specs.declared.step.Step.{Step}
use Rattle.ch_model.specs.declared.step.Weight.{Weight}
use Rattle.ch_model.specs.HostState.{Link, Socket, HostState}
use Rattle.ch_model.specs.HostSteps.{is_socket, with_link}
use Rattle.ch_model.specs.HostWrites.{frame_step, ended_in, end_socket}
use Rattle.ch_model.specs.Stages.{Ended, is_ended}
use Rattle.ch_laws_items.proofs.Sockets.{number_is}
use Rattle.ch_laws_log.proofs.HostTold.{number_found, find_stored}
use Rattle.ch_laws_writes.specs.Dues.{Due, Answering, Framing, due_of, due_at, due_past, due_after, due_after_all, IsDue, WritesDue, AllDue, Writes}
use Rattle.ch_laws_writes.specs.Orderly.{AreFrames, user_of}

-- what is due under each number
abbrev pub Dues : Type 0
Dues = ℕ → Option Due

-- ---- one after another

pub nothing_said : (own : ℕ → Address) (d e : Dues) → ((n : ℕ) → e n ≡ d n) → Writes own d [] e
nothing_said own d e same = record { due = λ n. tt; leads = same }

pub first : (own : ℕ → Address) (d e : Dues) (step : Step) (rest : List Step) → ((n : ℕ) → WritesDue own n step (d n)) → Writes own (λ n. due_after n step (d n)) rest e → Writes own d (step ∷ rest) e
first own d e step rest w more = record { due = λ n. (w n, more.due n); leads = more.leads }

pub all_past : (n : ℕ) (xs ys : List Step) (due : Option Due) → due_after_all n (xs ++ ys) due ≡ due_after_all n ys (due_after_all n xs due)
all_past n [] ys due = refl
all_past n (x ∷ xs) ys due = all_past n xs ys (due_after n x due)

due_append : (own : ℕ → Address) (n : ℕ) (xs ys : List Step) (due : Option Due) → AllDue own n xs due → AllDue own n ys (due_after_all n xs due) → AllDue own n (xs ++ ys) due
due_append own n [] ys due a b = b
due_append own n (x ∷ xs) ys due a b = (a.0, due_append own n xs ys (due_after n x due) a.1 b)

pub and_then : (own : ℕ → Address) (d e f : Dues) (xs ys : List Step) → Writes own d xs e → Writes own e ys f → Writes own d (xs ++ ys) f
and_then own d e f xs ys a b = record {
  due = λ n. due_append own n xs ys (d n) (a.due n) (subst (λ (x : Option Due). AllDue own n ys x) (a.leads n) (b.due n));
  leads = λ n. b.leads n ∙ ap (due_after_all n ys) (a.leads n) ∙ sym (all_past n xs ys (d n));
}

-- what was due before may be told otherwise
pub since : (own : ℕ → Address) (d e f : Dues) (told : List Step) → ((n : ℕ) → d n ≡ e n) → Writes own d told f → Writes own e told f
since own d e f told same w = record {
  due = λ n. subst (λ (x : Option Due). AllDue own n told x) (same n) (w.due n);
  leads = λ n. w.leads n ∙ ap (due_after_all n told) (same n);
}

-- ---- writings

-- at the socket that is written on, what is due there
at_sock : (P : Option Due → Type 0) (d : Dues) (sock n : ℕ) (due : Option Due) → d sock ≡ due → P due → (sock == n) ≡ true → P (d n)
at_sock P d sock n due is p e = subst P (sym is ∙ ap d (number_is sock n e)) p

pub writes_frame : (own : ℕ → Address) (d : Dues) (sock : ℕ) (frame : Frame) (n : ℕ) → d sock ≡ Some Framing → IsFrame frame → (sock == n) ≡ true → IsDue own (d n) (frame_spelling frame)
writes_frame own d sock frame n is fits e = at_sock (λ (x : Option Due). IsDue own x (frame_spelling frame)) d sock n (Some Framing) is (frame, fits, refl) e

pub writes_answer : (own : ℕ → Address) (d : Dues) (sock : ℕ) (answer : Answer) (n : ℕ) → d sock ≡ Some Answering → (sock == n) ≡ true → IsDue own (d n) (answer_spelling answer)
writes_answer own d sock answer n is e = at_sock (λ (x : Option Due). IsDue own x (answer_spelling answer)) d sock n (Some Answering) is (answer, refl) e

-- after a frame frames are due
pub framed_still : (d : Dues) (sock : ℕ) (bytes : List ℕ) (n : ℕ) → d sock ≡ Some Framing → cond (sock == n) (due_past bytes (d n)) (d n) ≡ d n
framed_still d sock bytes n is = by_test (sock == n) refl where
  by_test : (b : Bool) → (sock == n) ≡ b → cond b (due_past bytes (d n)) (d n) ≡ d n
  by_test true e = let here : d n ≡ Some Framing = ap d (sym (number_is sock n e)) ∙ is in ap (due_past bytes) here ∙ sym here
  by_test false e = refl

pub frames_said : (own : ℕ → Address) (d e : Dues) (sock : ℕ) (items : List (Frame × Weight)) → d sock ≡ Some Framing → AreFrames items → ((n : ℕ) → e n ≡ d n) → Writes own d (map (frame_step sock) items) e
frames_said own d e sock [] is fits same = nothing_said own d e same
frames_said own d e sock (item ∷ items) is fits same = first own d e (frame_step sock item) (map (frame_step sock) items) (λ n. writes_frame own d sock item.0 n is fits.0)
    (frames_said own (λ n. due_after n (frame_step sock item) (d n)) e sock items (framed_still d sock (frame_spelling item.0) sock is ∙ is) fits.1 (λ n. same n ∙ sym (framed_still d sock (frame_spelling item.0) n is)))

-- ---- an end that is over

abbrev pub over : Socket → Socket
over socket = record socket { stage = Ended; since = [] }

-- under its number nothing is due then
pub due_ended : (sock : ℕ) (host : HostState) (n : ℕ) → due_at (end_socket sock host) n ≡ cond (sock == n) None (due_at host n)
due_ended sock host n = by_socket (find (is_socket sock) host.sockets) refl where
  by_none : (b : Bool) → (sock == n) ≡ b → find (is_socket sock) host.sockets ≡ None → due_at host n ≡ cond b None (due_at host n)
  by_none true e none = ap due_of (subst (λ (m : ℕ). find (is_socket m) host.sockets ≡ None) (number_is sock n e) none)
  by_none false e none = refl

  by_test : (socket : Socket) (b : Bool) → due_of (cond b (Some (over socket)) (find (is_socket n) host.sockets)) ≡ cond b None (due_at host n)
  by_test socket true = refl
  by_test socket false = refl

  by_socket : (o : Option Socket) → find (is_socket sock) host.sockets ≡ o → due_at (ended_in o host) n ≡ cond (sock == n) None (due_at host n)
  by_socket None e = by_none (sock == n) refl e
  by_socket (Some socket) e = ap due_of (find_stored (over socket) host.sockets n) ∙ ap (λ (m : ℕ). due_of (cond (m == n) (Some (over socket)) (find (is_socket n) host.sockets))) (number_found sock host.sockets socket e) ∙ by_test socket (sock == n)

-- and each socket is of the link that it was of
pub user_ended : (sock : ℕ) (host : HostState) (n : ℕ) → user_of (find (is_socket n) (end_socket sock host).sockets) ≡ user_of (find (is_socket n) host.sockets)
user_ended sock host n = by_socket (find (is_socket sock) host.sockets) refl where
  by_test : (socket : Socket) (b : Bool) → (sock == n) ≡ b → find (is_socket sock) host.sockets ≡ Some socket → user_of (cond b (Some (over socket)) (find (is_socket n) host.sockets)) ≡ user_of (find (is_socket n) host.sockets)
  by_test socket true e found = sym (ap user_of (subst (λ (m : ℕ). find (is_socket m) host.sockets ≡ Some socket) (number_is sock n e) found))
  by_test socket false e found = refl

  by_socket : (o : Option Socket) → find (is_socket sock) host.sockets ≡ o → user_of (find (is_socket n) (ended_in o host).sockets) ≡ user_of (find (is_socket n) host.sockets)
  by_socket None e = refl
  by_socket (Some socket) e = ap user_of (find_stored (over socket) host.sockets n) ∙ ap (λ (m : ℕ). user_of (cond (m == n) (Some (over socket)) (find (is_socket n) host.sockets))) (number_found sock host.sockets socket e) ∙ by_test socket (sock == n) refl e

-- what hasn't ended then was there, under another number
pub record Stood (sock n : ℕ) (host : HostState) (socket : Socket) : Type 0 where
  pub was : find (is_socket n) host.sockets ≡ Some socket
  pub other : (sock == n) ≡ false

pub stood : (sock n : ℕ) (host : HostState) (socket : Socket) → find (is_socket n) (end_socket sock host).sockets ≡ Some socket → is_ended socket.stage ≡ false → Stood sock n host socket
stood sock n host socket found lives = by_socket (find (is_socket sock) host.sockets) refl found where
  by_none : (b : Bool) → (sock == n) ≡ b → find (is_socket sock) host.sockets ≡ None → find (is_socket n) host.sockets ≡ Some socket → Stood sock n host socket
  by_none true e none f = let no : find (is_socket n) host.sockets ≡ None = subst (λ (m : ℕ). find (is_socket m) host.sockets ≡ None) (number_is sock n e) none in absurd cc
  by_none false e none f = record { was = f; other = e }

  by_test : (old : Socket) (b : Bool) → (sock == n) ≡ b → cond b (Some (over old)) (find (is_socket n) host.sockets) ≡ Some socket → Stood sock n host socket
  by_test old true e f = let is : over old ≡ socket = cc in let no : true ≡ false = ap (λ (w : Socket). is_ended w.stage) is ∙ lives in absurd cc
  by_test old false e f = record { was = f; other = e }

  by_socket : (o : Option Socket) → find (is_socket sock) host.sockets ≡ o → find (is_socket n) (ended_in o host).sockets ≡ Some socket → Stood sock n host socket
  by_socket None e f = by_none (sock == n) refl e f
  by_socket (Some old) e f = by_test old (sock == n) refl (sym (find_stored (over old) host.sockets n ∙ ap (λ (m : ℕ). cond (m == n) (Some (over old)) (find (is_socket n) host.sockets)) (number_found sock host.sockets old e)) ∙ f)

-- an end that is over and a link that is kept change nothing of each other
pub ended_linked : (sock : ℕ) (link : Link) (host : HostState) → end_socket sock (with_link link host) ≡ with_link link (end_socket sock host)
ended_linked sock link host = by_socket (find (is_socket sock) host.sockets) where
  by_socket : (o : Option Socket) → ended_in o (with_link link host) ≡ with_link link (ended_in o host)
  by_socket None = refl
  by_socket (Some socket) = refl
