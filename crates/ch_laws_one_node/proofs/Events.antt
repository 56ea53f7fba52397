-- Each event line is answered as the log before it shows, and what it does is lawful.
use Rattle.std.specs.Prelude.{◌≡◌, ℕ, suc, ◌+◌, ◌≤◌, ◌<◌, Bool, true, false, not, List, [], ◌∷◌, ◌++◌, length, Option, Some, None, is_some, Ok, Err, nat_lt, slice_get, slice_set, if◌then◌else◌}
use Rattle.std.specs.Str.{bytes_eq}
use Rattle.std.proofs.Common.{refl, ap, sym, ◌∙◌, subst, append_assoc, arith}
use Rattle.std.proofs.lemmas.List.{append-nil, length-append}
use Rattle.std.proofs.lemmas.Option.{slice_get_past}
use Rattle.std.proofs.lemmas.Bool.{not-true, not-false, lt-ltb, le-ltb}
use Rattle.ch_ident.specs.declared.message.Message.{Message}
use Rattle.ch_ident.specs.declared.reason.Reason.TheVariants.{Normal}
use Rattle.ch_mail.specs.declared.life.Life.TheVariants as lives
use Rattle.ch_mail.specs.Process.{Process}
use Rattle.ch_mail.specs.Lives.{is_live, is_over}
use Rattle.ch_mail.specs.Queue.{first_that}
use Rattle.ch_mail.specs.Mail.{waiting_in, last_u32, last_u64}
use Rattle.ch_model.specs.declared.name.ProcName.{ProcName}
use Rattle.ch_one_node.specs.declared.note.Note.{Note}
use Rattle.ch_model.specs.declared.name.TargetName.TheVariants as targets
use Rattle.ch_model.specs.declared.entry.Entry.{Entry}
use Rattle.ch_model.specs.declared.entry.Entry.TheVariants.{Line, Made, Said, Got, Took, Over}
use Rattle.ch_model.specs.declared.entry.Verdict.{Verdict}
use Rattle.ch_model.specs.declared.entry.Verdict.TheVariants as verdicts
use Rattle.ch_model.specs.declared.line.What.{What}
use Rattle.ch_model.specs.declared.line.What.TheVariants as lines
use Rattle.ch_one_node.specs.declared.command.CommandError.TheVariants as errors
use Rattle.ch_one_node.specs.States.{NodeState, World}
use Rattle.ch_one_node.specs.Node.{process_id, next_index, with_said, send_of, receive_of, finish_of, node_make}
use Rattle.ch_one_node.specs.World.{entries_of}
use Rattle.ch_laws_one_node.specs.Counts.{gets, is_made_in, is_over_in, taken_in}
use Rattle.ch_laws_one_node.specs.Life.{Lives}
use Rattle.ch_laws_one_node.specs.Delivery.{is_the_said, IsLawfulSaid, IsLawfulReceipt}
use Rattle.ch_laws_one_node.specs.Mailboxes.{message_of, said_by, first_some, entered}
use Rattle.ch_laws_one_node.specs.Answers.{answer_acting, answer_over, IsDone}
use Rattle.ch_laws_one_node.specs.Lawful.{AreLawfulAfter}
use Rattle.ch_laws_one_node.proofs.Appending.{at, any_now, count_same, last_now, message_more, bodies, IsTaken, HasTaken, has_taken, place_more, place_set, length_set, length_more, first_left}
use Rattle.ch_laws_one_node.proofs.Shows.{is_over_at, Mailed, Account, Shows, AllGot, put, raise, reheld, renumbered, regot, line_shows, line_got, new_process, made_shows, made_got, over_shows, over_got, the_said, said_shows, got_shows, took_shows, took_got, said_got_never, said_got_at_once}
use Rattle.ch_laws_one_node.proofs.Calls.{Done, to_process, to_target, by_live, by_sender, send_is, of_found, taking, receive_is, finishing, ending, finish_is, making, make_is, said_next}

-- what the log shows is what the node holds
pub record Holds (name : List ℕ) (state : NodeState) (log : List Entry) : Type 0 where
  pub shows : Shows name (length state.mail) (λ i. slice_get state.mail i) (λ i j. next_index state.pairs (i, j)) log
  pub got : AllGot name (λ i j. next_index state.pairs (i, j)) log

-- the log with a line's mark
abbrev pub marked : List Entry → ℕ → Verdict → List Entry
marked before number answer = before ++ Line number answer ∷ []

-- the line is done: that is its answer, and what it did is lawful
pub record Does (w : World) (before : List Entry) (number : ℕ) (what : What) (notes : List Note) (state : NodeState) : Type 0 where
  pub answer : answer_over before what ≡ verdicts.Ok
  pub done : IsDone before what verdicts.Ok (entries_of w notes)
  pub lawful : AreLawfulAfter (marked before number verdicts.Ok) (entries_of w notes)
  pub holds : Holds w.name state (marked before number verdicts.Ok ++ entries_of w notes)

-- what the node gives for a line is the answer to it
abbrev pub Fine : World → List Entry → ℕ → What → Done → Type 0
Fine w before number what (Ok done) = Does w before number what done.0 done.1
Fine w before number what (Err errors.Unknown) = answer_over before what ≡ verdicts.Unknown
Fine w before number what (Err errors.Dead) = answer_over before what ≡ verdicts.Dead
Fine w before number what (Err errors.Empty) = answer_over before what ≡ verdicts.Empty
Fine w before number what (Err errors.OutOfMemory) = Unit {0}
Fine w before number what (Err errors.Worn) = Unit {0}

pub marked_holds : (name : List ℕ) (state : NodeState) (log : List Entry) (number : ℕ) (answer : Verdict) → Holds name state log → Holds name state (marked log number answer)
marked_holds name state log number answer h = record {
  shows = line_shows name (length state.mail) (λ i. slice_get state.mail i) (λ i j. next_index state.pairs (i, j)) log number answer h.shows;
  got = line_got name (λ i j. next_index state.pairs (i, j)) log number answer h.got;
}

account_at : (name : List ℕ) (state : NodeState) (log : List Entry) (i : ℕ) (held : Option Process) → slice_get state.mail i ≡ held → Holds name state log → Account log (at name i) held
account_at name state log i held is h = subst (λ o. Account log (at name i) o) is (h.shows.accounts i)

acting_is : (log : List Entry) (p : ProcName) (answer : Verdict) (held : Option Process) → Account log p held → answer_acting log p answer ≡ (if not (is_some held) then verdicts.Unknown else (if is_over_at held then verdicts.Dead else answer))
acting_is log p answer held a = ap (λ b. if not b then verdicts.Unknown else (if is_over_in log p then verdicts.Dead else answer)) a.made ∙ ap (λ b. if not (is_some held) then verdicts.Unknown else (if b then verdicts.Dead else answer)) a.over

unmade_acting : (log : List Entry) (p : ProcName) (answer : Verdict) → Account log p None → answer_acting log p answer ≡ verdicts.Unknown
unmade_acting log p answer a = acting_is log p answer None a

over_acting : (log : List Entry) (p : ProcName) (answer : Verdict) (process : Process) → is_live process.life ≡ false → Account log p (Some process) → answer_acting log p answer ≡ verdicts.Dead
over_acting log p answer process dead a = acting_is log p answer (Some process) a ∙ ap (λ b. if b then verdicts.Dead else answer) (not-false (is_over process.life) (sym a.undoomed ∙ dead))

not_over : (log : List Entry) (p : ProcName) (process : Process) → is_live process.life ≡ true → Account log p (Some process) → is_over process.life ≡ false
not_over log p process live a = not-true (is_over process.life) (sym a.undoomed ∙ live)

live_acting : (log : List Entry) (p : ProcName) (answer : Verdict) (process : Process) → is_live process.life ≡ true → Account log p (Some process) → answer_acting log p answer ≡ answer
live_acting log p answer process live a = acting_is log p answer (Some process) a ∙ ap (λ b. if b then verdicts.Dead else answer) (not_over log p process live a)

alive_shows : (log : List Entry) (p : ProcName) (process : Process) → is_over process.life ≡ false → Account log p (Some process) → Lives log p
alive_shows log p process alive a = record { made = a.made; not_over = a.over ∙ alive }

-- ---- a process is made

pub make_fine : (w : World) (before : List Entry) (number : ℕ) → Holds w.name w.node before → Fine w before number (lines.Proc w.name) (node_make w.node)
make_fine w before number h = subst (λ d. Fine w before number (lines.Proc w.name) d) (sym (make_is w.node)) (by_room (nat_lt (length w.node.mail) last_u32)) where
  log : List Entry
  log = marked before number verdicts.Ok

  holds : Holds w.name w.node log
  holds = marked_holds w.name w.node before number verdicts.Ok h

  shown : Shows w.name (length w.node.mail + 1) (λ i. slice_get (w.node.mail ++ new_process ∷ []) i) (λ i j. next_index w.node.pairs (i, j)) (log ++ Made (at w.name (length w.node.mail)) None None ∷ [])
  shown = reheld w.name (length w.node.mail + 1) (put (length w.node.mail) new_process (λ i. slice_get w.node.mail i)) (λ i. slice_get (w.node.mail ++ new_process ∷ []) i) (λ i j. next_index w.node.pairs (i, j)) (log ++ Made (at w.name (length w.node.mail)) None None ∷ [])
      (λ i. sym (place_more w.node.mail new_process i))
      (made_shows w.name (length w.node.mail) (λ i. slice_get w.node.mail i) (λ i j. next_index w.node.pairs (i, j)) log (slice_get_past w.node.mail (length w.node.mail) (same (length w.node.mail))) holds.shows) where
        same : (n : ℕ) → n ≤ n
        same n = omega arith

  by_room : (room : Bool) → Fine w before number (lines.Proc w.name) (making w.node room)
  by_room false = tt
  by_room true = record {
    answer = refl;
    done = (refl, tt, refl);
    lawful = (sym holds.shows.count_is, tt);
    holds = record {
      shows = subst (λ n. Shows w.name n (λ i. slice_get (w.node.mail ++ new_process ∷ []) i) (λ i j. next_index w.node.pairs (i, j)) (log ++ Made (at w.name (length w.node.mail)) None None ∷ [])) (sym (length_more w.node.mail new_process)) shown;
      got = made_got w.name (λ i j. next_index w.node.pairs (i, j)) log (at w.name (length w.node.mail)) holds.got;
    };
  }

-- ---- a process ends

pub end_fine : (w : World) (before : List Entry) (number i : ℕ) → Holds w.name w.node before → Fine w before number (lines.End (at w.name i)) (finish_of w.node i)
end_fine w before number i h = subst (λ d. Fine w before number (lines.End (at w.name i)) d) (sym (finish_is w.node i)) (by_held (slice_get w.node.mail i) refl) where
  log : List Entry
  log = marked before number verdicts.Ok

  holds : Holds w.name w.node log
  holds = marked_holds w.name w.node before number verdicts.Ok h

  by_over : (p : Process) → slice_get w.node.mail i ≡ Some p → is_live p.life ≡ true → (over : Bool) → is_over p.life ≡ over → Fine w before number (lines.End (at w.name i)) (finishing w.node i p over)
  by_over p is live true over = let alive : is_over p.life ≡ false = not_over before (at w.name i) p live (account_at w.name w.node before i (Some p) is h) in absurd (cc)
  by_over p is live false alive = record {
    answer = live_acting before (at w.name i) verdicts.Ok p live (account_at w.name w.node before i (Some p) is h);
    done = ((refl, refl), tt, refl);
    lawful = (alive_shows log (at w.name i) p alive (account_at w.name w.node log i (Some p) is holds), tt);
    holds = record {
      shows = subst (λ n. Shows w.name n (λ k. slice_get (slice_set w.node.mail i (record p { life = lives.Over Normal })) k) (λ i j. next_index w.node.pairs (i, j)) (log ++ Over (at w.name i) Normal ∷ [])) (sym (length_set w.node.mail i (record p { life = lives.Over Normal })))
          (reheld w.name (length w.node.mail) (put i (record p { life = lives.Over Normal }) (λ k. slice_get w.node.mail k)) (λ k. slice_get (slice_set w.node.mail i (record p { life = lives.Over Normal })) k) (λ i j. next_index w.node.pairs (i, j)) (log ++ Over (at w.name i) Normal ∷ [])
          (λ k. sym (place_set w.node.mail i p (record p { life = lives.Over Normal }) k is))
          (over_shows w.name (length w.node.mail) (λ k. slice_get w.node.mail k) (λ i j. next_index w.node.pairs (i, j)) log i p Normal is holds.shows));
      got = over_got w.name (λ i j. next_index w.node.pairs (i, j)) log (at w.name i) Normal holds.got;
    };
  }

  by_life : (p : Process) → slice_get w.node.mail i ≡ Some p → (live : Bool) → is_live p.life ≡ live → Fine w before number (lines.End (at w.name i)) (by_live live (finishing w.node i p (is_over p.life)))
  by_life p is false dead = over_acting before (at w.name i) verdicts.Ok p dead (account_at w.name w.node before i (Some p) is h)
  by_life p is true live = by_over p is live (is_over p.life) refl

  by_held : (held : Option Process) → slice_get w.node.mail i ≡ held → Fine w before number (lines.End (at w.name i)) (ending w.node i held)
  by_held None is = unmade_acting before (at w.name i) verdicts.Ok (account_at w.name w.node before i None is h)
  by_held (Some p) is = by_life p is (is_live p.life) refl

-- ---- a process takes a message

abbrev pub answer_taking : List Entry → ProcName → List ℕ → Verdict
answer_taking log p mark = if nat_lt (taken_in log p mark) (length (entered log p mark)) then verdicts.Ok else verdicts.Empty

nothing_left : (log : List Entry) (p : ProcName) (mark : List ℕ) (messages : List Message) → bodies mark messages ≡ [] → Mailed log p mark messages → answer_taking log p mark ≡ verdicts.Empty
nothing_left log p mark messages none m =
    let all : entered log p mark ≡ m.front = m.all ∙ ap (λ l. m.front ++ l) none ∙ append-nil m.front in
    let count : length (entered log p mark) ≡ taken_in log p mark = ap (λ l. length l) all ∙ sym m.taken in
    ap (λ b. if b then verdicts.Ok else verdicts.Empty) (le-ltb (taken_in log p mark) (length (entered log p mark)) (at_most (length (entered log p mark)) (taken_in log p mark) count)) where
      at_most : (n k : ℕ) → n ≡ k → n ≤ k
      at_most n k e = omega arith

something_left : (log : List Entry) (p : ProcName) (mark : List ℕ) (messages : List Message) (body : List ℕ) (more : List (List ℕ)) → bodies mark messages ≡ body ∷ more → Mailed log p mark messages → answer_taking log p mark ≡ verdicts.Ok
something_left log p mark messages body more some m =
    let all : entered log p mark ≡ m.front ++ body ∷ more = m.all ∙ ap (λ l. m.front ++ l) some in
    let count : length (entered log p mark) ≡ length m.front + length (body ∷ more) = ap (λ l. length l) all ∙ length-append m.front (body ∷ more) in
    ap (λ b. if b then verdicts.Ok else verdicts.Empty) (lt-ltb (taken_in log p mark) (length (entered log p mark)) (less (taken_in log p mark) (length m.front) (length (entered log p mark)) (length more) m.taken count)) where
      less : (t f n k : ℕ) → t ≡ f → n ≡ f + suc k → t < n
      less t f n k e c = omega arith

first_is_left : (log : List Entry) (p : ProcName) (mark : List ℕ) (messages : List Message) (body : List ℕ) (more : List (List ℕ)) → bodies mark messages ≡ body ∷ more → Mailed log p mark messages → slice_get (entered log p mark) (taken_in log p mark) ≡ Some body
first_is_left log p mark messages body more some m = ap (λ l. slice_get l (taken_in log p mark)) (m.all ∙ ap (λ l. m.front ++ l) some) ∙ ap (λ n. slice_get (m.front ++ body ∷ more) n) m.taken ∙ first_left m.front body more

pub receive_fine : (w : World) (before : List Entry) (number i : ℕ) (mark : List ℕ) → Holds w.name w.node before → Fine w before number (lines.Recv (at w.name i) mark) (receive_of w.node i mark)
receive_fine w before number i mark h = subst (λ d. Fine w before number (lines.Recv (at w.name i) mark) d) (sym (receive_is w.node i mark)) (by_held (slice_get w.node.mail i) refl) where
  log : List Entry
  log = marked before number verdicts.Ok

  holds : Holds w.name w.node log
  holds = marked_holds w.name w.node before number verdicts.Ok h

  by_found : (p : Process) → slice_get w.node.mail i ≡ Some p → is_live p.life ≡ true → (found : Option (Message × List Message)) → HasTaken mark p.mailbox found → Fine w before number (lines.Recv (at w.name i) mark) (of_found w.node i p found)
  by_found p is live None none = live_acting before (at w.name i) (answer_taking before (at w.name i) mark) p live (account_at w.name w.node before i (Some p) is h)
      ∙ nothing_left before (at w.name i) mark p.mailbox none ((account_at w.name w.node before i (Some p) is h).mailbox mark)
  by_found p is live (Some found) taken = record {
    answer = live_acting before (at w.name i) (answer_taking before (at w.name i) mark) p live (account_at w.name w.node before i (Some p) is h)
        ∙ something_left before (at w.name i) mark p.mailbox found.0.body (bodies mark found.1) taken.first ((account_at w.name w.node before i (Some p) is h).mailbox mark);
    done = ((refl, taken.of_mark), tt, refl);
    lawful = (
      record {
        living = alive_shows log (at w.name i) p (not_over log (at w.name i) p live account) account;
        first_left = first_is_left log (at w.name i) found.0.mark p.mailbox found.0.body (bodies found.0.mark found.1) of_its_mark.first (account.mailbox found.0.mark);
      },
      tt,
    );
    holds = record {
      shows = subst (λ n. Shows w.name n (λ k. slice_get (slice_set w.node.mail i (record p { mailbox = found.1 })) k) (λ i j. next_index w.node.pairs (i, j)) (log ++ Took (at w.name i) None found.0.mark found.0.body ∷ [])) (sym (length_set w.node.mail i (record p { mailbox = found.1 })))
          (reheld w.name (length w.node.mail) (put i (record p { mailbox = found.1 }) (λ k. slice_get w.node.mail k)) (λ k. slice_get (slice_set w.node.mail i (record p { mailbox = found.1 })) k) (λ i j. next_index w.node.pairs (i, j)) (log ++ Took (at w.name i) None found.0.mark found.0.body ∷ [])
          (λ k. sym (place_set w.node.mail i p (record p { mailbox = found.1 }) k is))
          (took_shows w.name (length w.node.mail) (λ k. slice_get w.node.mail k) (λ i j. next_index w.node.pairs (i, j)) log i p found.0 found.1 is of_its_mark holds.shows));
      got = took_got w.name (λ i j. next_index w.node.pairs (i, j)) log (at w.name i) found.0.mark found.0.body holds.got;
    };
  } where
    account : Account log (at w.name i) (Some p)
    account = account_at w.name w.node log i (Some p) is holds

    of_its_mark : IsTaken found.0.mark p.mailbox found.0 found.1
    of_its_mark = subst (λ m. IsTaken m p.mailbox found.0 found.1) (sym taken.of_mark) taken

  by_life : (p : Process) → slice_get w.node.mail i ≡ Some p → (live : Bool) → is_live p.life ≡ live → Fine w before number (lines.Recv (at w.name i) mark) (by_live live (of_found w.node i p (first_that (λ message. bytes_eq message.mark mark) p.mailbox)))
  by_life p is false dead = over_acting before (at w.name i) (answer_taking before (at w.name i) mark) p dead (account_at w.name w.node before i (Some p) is h)
  by_life p is true live = by_found p is live (first_that (λ message. bytes_eq message.mark mark) p.mailbox) (has_taken mark p.mailbox)

  by_held : (held : Option Process) → slice_get w.node.mail i ≡ held → Fine w before number (lines.Recv (at w.name i) mark) (taking w.node i mark held)
  by_held None is = unmade_acting before (at w.name i) (answer_taking before (at w.name i) mark) (account_at w.name w.node before i None is h)
  by_held (Some p) is = by_life p is (is_live p.life) refl

-- ---- a process sends a message

abbrev pub answer_sending : List Entry → ProcName → Verdict
answer_sending log to = if is_made_in log to then verdicts.Ok else verdicts.Unknown

pub send_fine : (w : World) (before : List Entry) (number i j : ℕ) (m : Message) → Holds w.name w.node before → Fine w before number (lines.Send (at w.name i) (targets.Process (at w.name j)) m.mark m.body) (send_of w.node i (process_id w.node j) m)
send_fine w before number i j m h = subst (λ d. Fine w before number line d) (sym (send_is w.node i j m)) (by_held (slice_get w.node.mail i) refl) where
  line : What
  line = lines.Send (at w.name i) (targets.Process (at w.name j)) m.mark m.body

  log : List Entry
  log = marked before number verdicts.Ok

  holds : Holds w.name w.node log
  holds = marked_holds w.name w.node before number verdicts.Ok h

  held : ℕ → Option Process
  held k = slice_get w.node.mail k

  next : ℕ → ℕ → ℕ
  next p q = next_index w.node.pairs (p, q)

  said : Entry
  said = Said (at w.name i) (targets.Process (at w.name j)) 0 (next i j) m.mark m.body

  got : Entry
  got = Got (at w.name i) (targets.Process (at w.name j)) 0 (next i j) (Some (at w.name j))

  after : ℕ → ℕ → ℕ
  after p q = next_index (with_said w.node.pairs (i, j) (next i j + 1)) (p, q)

  raised : (p q : ℕ) → raise i j next p q ≡ after p q
  raised p q = sym (said_next w.node.pairs i j (next i j + 1) p q)

  shown : Shows w.name (length w.node.mail) held (raise i j next) (log ++ said ∷ [])
  shown = said_shows w.name (length w.node.mail) held next log i j m.mark m.body holds.shows

  is_said : (p : Process) → slice_get w.node.mail i ≡ Some p → is_live p.life ≡ true → IsLawfulSaid log (at w.name i) (at w.name j) 0 (next i j)
  is_said p is live = record {
    living = alive_shows log (at w.name i) p (not_over log (at w.name i) p live account) account;
    epoch_is = refl;
    index_is = sym (holds.shows.pairs i j).index;
  } where
    account : Account log (at w.name i) (Some p)
    account = account_at w.name w.node log i (Some p) is holds

  answered_ok : (p q : Process) → slice_get w.node.mail i ≡ Some p → is_live p.life ≡ true → slice_get w.node.mail j ≡ Some q → answer_over before line ≡ verdicts.Ok
  answered_ok p q is live there = live_acting before (at w.name i) (answer_sending before (at w.name j)) p live (account_at w.name w.node before i (Some p) is h)
      ∙ ap (λ b. if b then verdicts.Ok else verdicts.Unknown) (account_at w.name w.node before j (Some q) there h).made

  -- the receiver is over: the message goes nowhere
  never : (p q : Process) → slice_get w.node.mail i ≡ Some p → is_live p.life ≡ true → slice_get w.node.mail j ≡ Some q → is_over q.life ≡ true → (fits : Bool) → Fine w before number line (to_process w.node i j m q true true fits)
  never p q is live there over fits = record {
    answer = answered_ok p q is live there;
    done = ((refl, refl, refl, refl), tt, ap (λ b. if b then 0 else 1) (sym ((account_at w.name w.node before j (Some q) there h).over ∙ over)));
    lawful = (is_said p is live, tt);
    holds = record {
      shows = renumbered w.name (length w.node.mail) held (raise i j next) after (log ++ said ∷ []) raised shown;
      got = regot w.name (raise i j next) after (log ++ said ∷ []) raised (said_got_never w.name next log i j (next i j) m.mark m.body ((account_at w.name w.node log j (Some q) there holds).over ∙ over) holds.got);
    };
  }

  -- the receiver isn't over: the message is got at once
  at_once : (p q : Process) → slice_get w.node.mail i ≡ Some p → is_live p.life ≡ true → slice_get w.node.mail j ≡ Some q → is_over q.life ≡ false → Fine w before number line (to_process w.node i j m q true false true)
  at_once p q is live there alive = record {
    answer = answered_ok p q is live there;
    done = ((refl, refl, refl, refl), (tt, tt), ap (λ b. if b then 0 else 1) (sym ((account_at w.name w.node before j (Some q) there h).over ∙ alive)));
    lawful = (is_said p is live, (receipt, tt));
    holds = subst (λ l. Holds w.name (record w.node { mail = slice_set w.node.mail j longer; pairs = with_said w.node.pairs (i, j) (next i j + 1) }) l) (append_assoc log (said ∷ []) (got ∷ [])) (record {
      shows = renumbered w.name (length (slice_set w.node.mail j longer)) (λ k. slice_get (slice_set w.node.mail j longer) k) (raise i j next) after ((log ++ said ∷ []) ++ got ∷ []) raised
          (subst (λ n. Shows w.name n (λ k. slice_get (slice_set w.node.mail j longer) k) (raise i j next) ((log ++ said ∷ []) ++ got ∷ [])) (sym (length_set w.node.mail j longer))
          (reheld w.name (length w.node.mail) (put j longer held) (λ k. slice_get (slice_set w.node.mail j longer) k) (raise i j next) ((log ++ said ∷ []) ++ got ∷ [])
          (λ k. sym (place_set w.node.mail j q longer k there))
          (got_shows w.name (length w.node.mail) held (raise i j next) (log ++ said ∷ []) i j (next i j) q m there the_message shown)));
      got = regot w.name (raise i j next) after ((log ++ said ∷ []) ++ got ∷ []) raised (said_got_at_once w.name next log i j (next i j) m.mark m.body holds.got);
    });
  } where
    longer : Process
    longer = record q { mailbox = q.mailbox ++ m ∷ [] }

    account : Account (log ++ said ∷ []) (at w.name j) (Some q)
    account = subst (λ o. Account (log ++ said ∷ []) (at w.name j) o) there (shown.accounts j)

    same : (n : ℕ) → n ≤ n
    same n = omega arith

    the_message : message_of (log ++ said ∷ []) (at w.name i) (at w.name j) 0 (next i j) ≡ Some m
    the_message = message_more log said (at w.name i) (at w.name j) 0 (next i j)
        ∙ ap (λ o. first_some o (said_by (at w.name i) (at w.name j) 0 (next i j) said)) ((holds.shows.pairs i j).fresh (next i j) (same (next i j)))
        ∙ ap (λ b. if b then Some m else None) (the_said w.name i j (next i j) m.mark m.body)

    receipt : IsLawfulReceipt (log ++ said ∷ []) (at w.name i) (at w.name j) 0 (next i j) (at w.name j)
    receipt = record {
      said_first = any_now (is_the_said (at w.name i) (at w.name j) 0 (next i j)) log said (the_said w.name i j (next i j) m.mark m.body);
      in_order_and_once = count_same (gets (at w.name i) (at w.name j) 0) log said refl ∙ holds.got.got i j ((account_at w.name w.node log j (Some q) there holds).over ∙ alive);
      epochs_in_order = (shown.pairs i j).later;
      receiver_is = refl;
      living = alive_shows (log ++ said ∷ []) (at w.name j) q alive account;
      at_once = last_now (is_the_said (at w.name i) (at w.name j) 0 (next i j)) log said (the_said w.name i j (next i j) m.mark m.body);
    }

  by_over : (p q : Process) → slice_get w.node.mail i ≡ Some p → is_live p.life ≡ true → slice_get w.node.mail j ≡ Some q → (grows over fits : Bool) → is_over q.life ≡ over → Fine w before number line (to_process w.node i j m q grows over fits)
  by_over p q is live there false over fits o = tt
  by_over p q is live there true true fits o = never p q is live there o fits
  by_over p q is live there true false true o = at_once p q is live there o
  by_over p q is live there true false false o = tt

  by_target : (p : Process) → slice_get w.node.mail i ≡ Some p → is_live p.life ≡ true → (target : Option Process) → slice_get w.node.mail j ≡ target → Fine w before number line (to_target w.node i j m target)
  by_target p is live None there = live_acting before (at w.name i) (answer_sending before (at w.name j)) p live (account_at w.name w.node before i (Some p) is h)
      ∙ ap (λ b. if b then verdicts.Ok else verdicts.Unknown) (account_at w.name w.node before j None there h).made
  by_target p is live (Some q) there = by_over p q is live there (nat_lt (next i j) last_u64) (is_over q.life) (nat_lt (waiting_in q) last_u64) refl

  by_life : (p : Process) → slice_get w.node.mail i ≡ Some p → (live : Bool) → is_live p.life ≡ live → Fine w before number line (by_live live (to_target w.node i j m (slice_get w.node.mail j)))
  by_life p is false dead = over_acting before (at w.name i) (answer_sending before (at w.name j)) p dead (account_at w.name w.node before i (Some p) is h)
  by_life p is true live = by_target p is live (slice_get w.node.mail j) refl

  by_held : (sender : Option Process) → slice_get w.node.mail i ≡ sender → Fine w before number line (by_sender sender (to_target w.node i j m (slice_get w.node.mail j)))
  by_held None is = unmade_acting before (at w.name i) (answer_sending before (at w.name j)) (account_at w.name w.node before i None is h)
  by_held (Some p) is = by_life p is (is_live p.life) refl
