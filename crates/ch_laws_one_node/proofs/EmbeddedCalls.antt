-- The calls of the whole model's node as functions of what they look up, where the node is that of one node.
use Rattle.std.specs.Prelude.{◌≡◌, ℕ, ◌+◌, Bool, true, false, not, ◌&&◌, ◌||◌, List, [], ◌∷◌, ◌++◌, length, map, Option, Some, None, is_some, Result, Ok, Err, nat_lt, nat_le, ◌==◌, slice_get, slice_set, if◌then◌else◌}
use Rattle.std.specs.Option.{option_map}
use Rattle.std.specs.Str.{bytes_eq}
use Rattle.std.proofs.Common.{refl, ap, ◌∙◌}
use Rattle.ch_base.specs.declared.memory.Stop.TheVariants as stops
use Rattle.ch_base.specs.declared.event.Room.{Room}
use Rattle.ch_ident.specs.declared.message.Message.{Message}
use Rattle.ch_ident.specs.declared.reason.Reason.TheVariants.{Normal}
use Rattle.ch_ident.specs.Spelling as spelling
use Rattle.ch_mail.specs.declared.life.Life.{Life}
use Rattle.ch_mail.specs.declared.life.Life.TheVariants as lives
use Rattle.ch_mail.specs.declared.error.MailError.{MailError}
use Rattle.ch_mail.specs.declared.error.MailError.TheVariants as mails
use Rattle.ch_mail.specs.Process.{Process}
use Rattle.ch_mail.specs.Lives.{is_live, is_over}
use Rattle.ch_mail.specs.Queue.{first_that, first_of_mark}
use Rattle.ch_mail.specs.Mail as mail
use Rattle.ch_mail.specs.Mail.{newborn, there_or, waiting_in, appended, given_to, taken_from, ended, make_of, life_of, put_of, take_of, end_of, last_u32, last_u64}
use Rattle.ch_static.specs.declared.target.Target.TheVariants as targets
use Rattle.ch_watch.specs.Same.{same_node}
use Rattle.ch_watch.specs.Watches.{ending_of, ended_of}
use Rattle.ch_model.specs.declared.note.Note.TheVariants as notes
use Rattle.ch_model.specs.declared.act.Act.TheVariants as acts
use Rattle.ch_model.specs.declared.step.Weight.{Weight}
use Rattle.ch_model.specs.declared.command.CommandError.{CommandError}
use Rattle.ch_model.specs.declared.command.CommandError.TheVariants.{Unknown, Dead, Empty, Long, Worn}
use Rattle.ch_model.specs.NodeState.{NodeState as WholeNode, Pair}
use Rattle.ch_model.specs.NodeActs.{◌>>=◌, Done, Answered, after, stopping, mailed, or_unchanged, growing}
use Rattle.ch_model.specs.NodeIds.{is_own, life_here}
use Rattle.ch_model.specs.NodeLives.{make}
use Rattle.ch_model.specs.NodeEnds.{farewell, over}
use Rattle.ch_model.specs.NodePairs.{closed_pairs}
use Rattle.ch_model.specs.NodeRoom.{acting_as, acting, is_known, known, fitting, longest, room_to_send, not_full, not_spent}
use Rattle.ch_model.specs.NodeSends.{got_put, get, deliver, carry, say, send_on}
use Rattle.ch_model.specs.NodeCommands.{send_of, receive_of, finish_of}
use Rattle.ch_model.specs.Node.{node_make}
use Rattle.ch_one_node.specs.States.{NodeState}
use Rattle.ch_one_node.specs.Node.{next_index, with_said}
use Rattle.ch_laws_one_node.proofs.Appending.{equal_numbers}
use Rattle.ch_laws_one_node.proofs.Shows.{new_process}
use Rattle.ch_laws_one_node.proofs.Calls.{given}
use Rattle.ch_laws_one_node.proofs.Embedded.{id_in, pair_in, pairs_in, node_in, same_own, pair_found, pair_kept, none_open, none_closed}

-- it may go on where the test holds
abbrev pub allowed : Bool → CommandError → Result (Unit {0}) CommandError
allowed test e = if test then Ok tt else Err e

acting_is : (life : Life) → acting_as (Some life) ≡ allowed (is_live life) Dead
acting_is lives.Live = refl
acting_is (lives.Doomed text) = refl
acting_is (lives.Over reason) = refl

abbrev pub whole_by_live : Bool → Answered → Answered
whole_by_live live done = if live then done else Err Dead

-- ---- receiving

abbrev pub whole_found : NodeState → List (List ℕ) → ℕ → Process → Option (Message × List Message) → Answered
whole_found node args i p None = Err Empty
whole_found node args i p (Some found) = Ok (acts.Note (notes.Took (id_in node.own node.unique i) None found.0) ∷ [], node_in (record node { mail = slice_set node.mail i (record p { mailbox = found.1 }) }) args)

abbrev pub whole_taking : NodeState → List (List ℕ) → ℕ → List ℕ → Option Process → Answered
whole_taking node args i mark None = Err Unknown
whole_taking node args i mark (Some p) = whole_by_live (is_live p.life) (whole_found node args i p (first_that (λ message. bytes_eq message.mark mark) p.mailbox))

pub whole_receive_is : (node : NodeState) (args : List (List ℕ)) (i : ℕ) (mark : List ℕ) → receive_of (node_in node args) i mark ≡ whole_taking node args i mark (slice_get node.mail i)
unfolding receive_of acting life_of take_of taken_from first_of_mark
whole_receive_is node args i mark = by_cases (slice_get node.mail i) where
  told : Message × List Process → Answered
  told taken = Ok (acts.Note (notes.Took (id_in node.own node.unique i) None taken.0) ∷ [], node_in (record node { mail = taken.1 }) args)

  left : Process → Option (Message × List Message) → Result (Message × Process) MailError
  left p found = mail.◌>>=◌ (there_or mails.Empty found) (λ taken. Ok (taken.0, record p { mailbox = taken.1 }))

  from : Process → Bool → Option (Message × List Message) → Result (Message × List Process) MailError
  from p live found = mail.◌>>=◌ (if live then left p found else Err mails.NotLive) (λ taken. Ok (taken.0, slice_set node.mail i taken.1))

  by_found : (p : Process) (live : Bool) (found : Option (Message × List Message)) → allowed live Dead >>= (λ l. mailed (from p live found) >>= told) ≡ whole_by_live live (whole_found node args i p found)
  by_found p true None = refl
  by_found p true (Some found) = refl
  by_found p false found = refl

  taken_at : Option Process → Result (Message × List Process) MailError
  taken_at a = mail.◌>>=◌ (there_or mails.NotLive a) (λ process. mail.◌>>=◌ (taken_from process mark) (λ taken. Ok (taken.0, slice_set node.mail i taken.1)))

  by_cases : (a : Option Process) → acting_as (option_map (λ p. p.life) a) >>= (λ live. mailed (taken_at a) >>= told) ≡ whole_taking node args i mark a
  by_cases None = refl
  by_cases (Some p) = ap (λ r. r >>= (λ live. mailed (taken_at (Some p)) >>= told)) (acting_is p.life) ∙ by_found p (is_live p.life) (first_that (λ message. bytes_eq message.mark mark) p.mailbox)

-- ---- ending

abbrev pub whole_finishing : NodeState → List (List ℕ) → ℕ → Process → Bool → Answered
whole_finishing node args i p over = Ok (acts.Note (notes.Over (id_in node.own node.unique i) Normal) ∷ [], node_in (record node { mail = if over then node.mail else slice_set node.mail i (record p { life = lives.Over Normal }) }) args)

abbrev pub whole_ending : NodeState → List (List ℕ) → ℕ → Option Process → Answered
whole_ending node args i None = Err Unknown
whole_ending node args i (Some p) = whole_by_live (is_live p.life) (whole_finishing node args i p (is_over p.life))

-- the node after a process is over, whose mail is this
over_is : (node : NodeState) (args : List (List ℕ)) (i : ℕ) → over (node_in node args) i Normal ≡ or_unchanged node.mail (end_of node.mail i Normal) >>= (λ left. Ok (acts.Note (notes.Over (id_in node.own node.unique i) Normal) ∷ [], node_in (record node { mail = left }) args))
unfolding over farewell ended_of ending_of
over_is node args i = ap (λ conns. or_unchanged node.mail (end_of node.mail i Normal) >>= (λ left. Ok ((acts.Note (notes.Over (id_in node.own node.unique i) Normal) ∷ map (λ conn. acts.Close conn) conns) ++ [], record (node_in (record node { mail = left }) args) { pairs = closed_pairs (pairs_in node.own node.unique node.pairs) i }))) (none_open node.own node.unique i node.pairs)
    ∙ ap (λ pairs. or_unchanged node.mail (end_of node.mail i Normal) >>= (λ left. Ok (acts.Note (notes.Over (id_in node.own node.unique i) Normal) ∷ [], record (node_in (record node { mail = left }) args) { pairs = pairs }))) (none_closed node.own node.unique i node.pairs)

pub whole_finish_is : (node : NodeState) (args : List (List ℕ)) (i : ℕ) → finish_of (node_in node args) i Normal ≡ whole_ending node args i (slice_get node.mail i)
unfolding finish_of acting life_of end_of ended
whole_finish_is node args i = ap (λ d. acting_as (option_map (λ p. p.life) (slice_get node.mail i)) >>= (λ live. stopping d)) (over_is node args i) ∙ by_cases (slice_get node.mail i) where
  told : List Process → Done
  told left = Ok (acts.Note (notes.Over (id_in node.own node.unique i) Normal) ∷ [], node_in (record node { mail = left }) args)

  by_over : (p : Process) (live over : Bool) → allowed live Dead >>= (λ l. stopping (or_unchanged node.mail (mail.◌>>=◌ (if over then Err mails.NotLive else Ok (record p { life = lives.Over Normal })) (λ left. Ok (slice_set node.mail i left))) >>= told)) ≡ whole_by_live live (whole_finishing node args i p over)
  by_over p true true = refl
  by_over p true false = refl
  by_over p false over = refl

  by_cases : (a : Option Process) → acting_as (option_map (λ p. p.life) a) >>= (λ live. stopping (or_unchanged node.mail (mail.◌>>=◌ (there_or mails.NotLive a) (λ process. mail.◌>>=◌ (ended process Normal) (λ left. Ok (slice_set node.mail i left)))) >>= told)) ≡ whole_ending node args i a
  by_cases None = refl
  by_cases (Some p) = ap (λ r. r >>= (λ live. stopping (or_unchanged node.mail (mail.◌>>=◌ (ended p Normal) (λ left. Ok (slice_set node.mail i left))) >>= told))) (acting_is p.life) ∙ by_over p (is_live p.life) (is_over p.life)

-- ---- making

abbrev pub whole_making : NodeState → List (List ℕ) → Bool → Answered
whole_making node args room = if room then Ok (acts.Note (notes.Made (id_in node.own node.unique (length node.mail)) None) ∷ [], node_in (record node { mail = node.mail ++ new_process ∷ [] }) (args ++ [] ∷ [])) else Err Worn

pub whole_make_is : (node : NodeState) (args : List (List ℕ)) → node_make (node_in node args) ≡ whole_making node args (nat_lt (length node.mail) last_u32)
unfolding node_make make newborn make_of
whole_make_is node args = by_test (nat_lt (length node.mail) last_u32) where
  told : ℕ × List Process → Done
  told made = Ok (acts.Note (notes.Made (id_in node.own node.unique made.0) None) ∷ [], node_in (record node { mail = made.1 }) (args ++ [] ∷ []))

  by_test : (b : Bool) → stopping ((if b then Ok (length node.mail, node.mail ++ new_process ∷ []) else Err stops.Worn) >>= told) ≡ whole_making node args b
  by_test true = refl
  by_test false = refl

-- ---- sending

-- the node after a pair has said one message more
abbrev pub after_said : NodeState → ℕ → ℕ → NodeState
after_said node i j = record node { pairs = with_said node.pairs (i, j) (next_index node.pairs (i, j) + 1) }

-- a message that was said to what was found, and its way
abbrev pub whole_said : NodeState → List (List ℕ) → ℕ → ℕ → Message → Bool → Result (List Process) MailError → Done
whole_said node args i j m grows put = (if grows then Ok (next_index node.pairs (i, j)) else Err stops.Worn) >>= (λ index. after (acts.Note (notes.Said (id_in node.own node.unique i) (targets.Process (id_in node.own node.unique j)) 0 index m) ∷ []) (got_put (node_in (after_said node i j) args) (id_in node.own node.unique i) (targets.Process (id_in node.own node.unique j)) (id_in node.own node.unique j) put))

abbrev pub whole_target : NodeState → List (List ℕ) → ℕ → ℕ → Message → Option Process → Answered
whole_target node args i j m None = Err Unknown
whole_target node args i j m (Some q) = stopping (whole_said node args i j m (nat_lt (next_index node.pairs (i, j)) last_u64) (given node.mail j m q (is_over q.life) (nat_lt (waiting_in q) last_u64)))

abbrev pub whole_by_sender : Option Process → Answered → Answered
whole_by_sender None done = Err Unknown
whole_by_sender (Some p) done = whole_by_live (is_live p.life) done

abbrev pub put_at : NodeState → ℕ → Message → Option Process → Result (List Process) MailError
put_at node j m target = mail.◌>>=◌ (there_or mails.NotLive target) (λ process. mail.◌>>=◌ (given_to process None m) (λ left. Ok (slice_set node.mail j left)))

say_is : (node : NodeState) (args : List (List ℕ)) (i j : ℕ) (m : Message) → say (node_in node args) (pair_in node.own node.unique ((i, j), next_index node.pairs (i, j))) m ≡ whole_said node args i j m (nat_lt (next_index node.pairs (i, j)) last_u64) (put_at node j m (slice_get node.mail j))
unfolding say growing carry deliver get put_of
say_is node args i j m = ap (λ pairs. telling pairs (same_node node.own node.own)) (pair_kept node.own node.unique i j (next_index node.pairs (i, j) + 1) node.pairs) ∙ ap (λ b. telling (pairs_in node.own node.unique (with_said node.pairs (i, j) (next_index node.pairs (i, j) + 1))) b) (same_own node.own) where
  pair : Pair
  pair = pair_in node.own node.unique ((i, j), next_index node.pairs (i, j) + 1)

  kept : List Pair → WholeNode
  kept pairs = record (node_in node args) { pairs = pairs }

  weight : ℕ → Weight
  weight index = Rattle.ch_model.specs.NodeSends.weight_of 0 index

  telling : List Pair → Bool → Done
  telling pairs here = (if nat_lt (next_index node.pairs (i, j)) last_u64 then Ok (next_index node.pairs (i, j)) else Err stops.Worn) >>= (λ index. after (acts.Note (notes.Said (id_in node.own node.unique i) (targets.Process (id_in node.own node.unique j)) 0 index m) ∷ []) (if here then got_put (kept pairs) (id_in node.own node.unique i) (targets.Process (id_in node.own node.unique j)) (id_in node.own node.unique j) (put_at node j m (slice_get node.mail j)) else send_on (kept pairs) pair m (weight index) pair.mark))

room_is : (node : NodeState) (args : List (List ℕ)) (i j v : ℕ) (room : Room) → room_to_send (node_in node args) (pair_in node.own node.unique ((i, j), v)) room ≡ allowed true Dead
unfolding room_to_send
room_is node args i j v room = ap (λ b. if b || false then allowed true Dead else (not_full (node_in node args) node.own room >>= (λ waits. not_spent (node_in node args) (pair_in node.own node.unique ((i, j), v)) room))) (same_own node.own)

pub whole_send_is : (node : NodeState) (args : List (List ℕ)) (i j : ℕ) (m : Message) (room : Room) → nat_le (length (spelling.user m)) longest ≡ true → send_of (node_in node args) i (targets.Process (id_in node.own node.unique j)) m room ≡ whole_by_sender (slice_get node.mail i) (whole_target node args i j m (slice_get node.mail j))
unfolding send_of acting known is_known life_here is_own life_of fitting given_to appended
whole_send_is node args i j m room short =
    ap (λ pair. sending (same_node node.own node.own) (node.unique == node.unique) (nat_le (length (spelling.user m)) longest) (room_to_send (node_in node args) pair room) (say (node_in node args) pair m) (slice_get node.mail i) (slice_get node.mail j)) (pair_found node.own node.unique i j node.pairs)
    ∙ ap (λ b. sending b (node.unique == node.unique) (nat_le (length (spelling.user m)) longest) roomy told (slice_get node.mail i) (slice_get node.mail j)) (same_own node.own)
    ∙ ap (λ b. sending true b (nat_le (length (spelling.user m)) longest) roomy told (slice_get node.mail i) (slice_get node.mail j)) (equal_numbers node.unique)
    ∙ ap (λ b. sending true true b roomy told (slice_get node.mail i) (slice_get node.mail j)) short
    ∙ ap (λ r. sending true true true r told (slice_get node.mail i) (slice_get node.mail j)) (room_is node args i j (next_index node.pairs (i, j)) room)
    ∙ ap (λ d. sending true true true (allowed true Dead) d (slice_get node.mail i) (slice_get node.mail j)) (say_is node args i j m)
    ∙ by_cases (slice_get node.mail i) (slice_get node.mail j) where
      own_pair : Pair
      own_pair = pair_in node.own node.unique ((i, j), next_index node.pairs (i, j))

      roomy : Result (Unit {0}) CommandError
      roomy = room_to_send (node_in node args) own_pair room

      told : Done
      told = say (node_in node args) own_pair m

      sending : Bool → Bool → Bool → Result (Unit {0}) CommandError → Done → Option Process → Option Process → Answered
      sending here own fits room said a b = acting_as (option_map (λ p. p.life) a) >>= (λ live. allowed (not here || is_some (if here && own then option_map (λ p. p.life) b else None)) Unknown >>= (λ there. allowed fits Long >>= (λ short. room >>= (λ roomy. stopping said))))

      saying : Option Process → Done
      saying b = whole_said node args i j m (nat_lt (next_index node.pairs (i, j)) last_u64) (put_at node j m b)

      put_is : (q : Process) → put_at node j m (Some q) ≡ given node.mail j m q (is_over q.life) (nat_lt (waiting_in q) last_u64)
      put_is q = refl

      by_live : (live : Bool) (x y : Answered) → x ≡ y → allowed live Dead >>= (λ l. x) ≡ whole_by_live live y
      by_live true x y h = h
      by_live false x y h = refl

      by_cases : (a b : Option Process) → sending true true true (allowed true Dead) (saying b) a b ≡ whole_by_sender a (whole_target node args i j m b)
      by_cases None b = refl
      by_cases (Some p) None = ap (λ r. r >>= (λ live. Err Unknown)) (acting_is p.life) ∙ by_live (is_live p.life) (Err Unknown) (Err Unknown) refl
      by_cases (Some p) (Some q) = ap (λ r. r >>= (λ live. stopping (saying (Some q)))) (acting_is p.life) ∙ by_live (is_live p.life) _ _ (ap (λ r. stopping (whole_said node args i j m (nat_lt (next_index node.pairs (i, j)) last_u64) r)) (put_is q))
