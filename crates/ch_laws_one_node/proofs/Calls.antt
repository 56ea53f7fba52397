-- The node's calls as functions of what they look up, so that a proof can go by its cases.
use Rattle.std.specs.Prelude.{◌≡◌, ℕ, ◌+◌, Bool, true, false, cond, ◌&&◌, List, [], ◌∷◌, ◌++◌, length, Option, Some, None, Result, Ok, Err, nat_lt, ◌==◌, slice_get, slice_set, if◌then◌else◌}
use Rattle.std.specs.Option.{option_map}
use Rattle.std.specs.Str.{bytes_eq}
use Rattle.std.proofs.Common.{refl, ap, sym, ◌∙◌}
use Rattle.std.proofs.lemmas.Bool.{eqb-true, and_parts}
use Rattle.ch_ident.specs.declared.message.Message.{Message}
use Rattle.ch_ident.specs.declared.reason.Reason.TheVariants.{Normal}
use Rattle.ch_mail.specs.declared.life.Life.TheVariants as lives
use Rattle.ch_mail.specs.declared.error.MailError.{MailError}
use Rattle.ch_mail.specs.declared.error.MailError.TheVariants as mails
use Rattle.ch_mail.specs.Process.{Process}
use Rattle.ch_mail.specs.Lives.{is_live, is_over}
use Rattle.ch_mail.specs.Queue.{first_that, first_of_mark}
use Rattle.ch_mail.specs.Mail as mail
use Rattle.ch_mail.specs.Mail.{newborn, there_or, waiting_in, appended, given_to, taken_from, ended, make_of, life_of, put_of, take_of, end_of, last_u32, last_u64}
use Rattle.ch_one_node.specs.declared.note.Note.{Note}
use Rattle.ch_one_node.specs.declared.note.Note.TheVariants.{Made, Said, Got, Took, Over}
use Rattle.ch_one_node.specs.declared.command.CommandError.{CommandError}
use Rattle.ch_one_node.specs.declared.command.CommandError.TheVariants.{Unknown, Dead, Empty, Worn}
use Rattle.ch_one_node.specs.States.{NodeState}
use Rattle.ch_one_node.specs.Node.{◌>>=◌, mailed, acting, process_id, is_own, made_or_unknown, target_of, next_index, with_said, growing, delivered, got_at_once, send_of, receive_of, finish_of, made_by, node_make}
use Rattle.ch_laws_one_node.proofs.Appending.{equal_bytes, equal_numbers}
use Rattle.ch_laws_one_node.proofs.Shows.{new_process}

abbrev pub Done : Type 0
Done = Result (List Note × NodeState) CommandError

-- ---- sending

-- the mail after a message was given to a process
abbrev pub given : List Process → ℕ → Message → Process → Bool → Bool → Result (List Process) MailError
given processes j m q over fits = mail.◌>>=◌ (if over then Err mails.NotLive else (if fits then Ok (record q { mailbox = q.mailbox ++ m ∷ [] }) else Err mails.Worn)) (λ after. Ok (slice_set processes j after))

-- a message to a process that was made
abbrev pub to_process : NodeState → ℕ → ℕ → Message → Process → Bool → Bool → Bool → Done
to_process node i j m q grows over fits = do
  index ← if grows then Ok (next_index node.pairs (i, j)) else Err Worn
  after ← if over then Ok node.mail else mailed (given node.mail j m q over fits)
  Ok (
    Said (process_id node i) (process_id node j) 0 index m ∷ (if over then [] else Got (process_id node i) (process_id node j) (process_id node j) ∷ []),
    record node { mail = after; pairs = with_said node.pairs (i, j) (index + 1) },
  )

abbrev pub to_target : NodeState → ℕ → ℕ → Message → Option Process → Done
to_target node i j m None = Err Unknown
to_target node i j m (Some q) = to_process node i j m q (nat_lt (next_index node.pairs (i, j)) last_u64) (is_over q.life) (nat_lt (waiting_in q) last_u64)

abbrev pub by_live : Bool → Done → Done
by_live live done = if live then done else Err Dead

abbrev pub by_sender : Option Process → Done → Done
by_sender None done = Err Unknown
by_sender (Some p) done = by_live (is_live p.life) done

own_is : (node : NodeState) (j : ℕ) → is_own node (process_id node j) ≡ true
own_is node j = ap (λ b. b && node.own.port == node.own.port && node.own.id == node.own.id && node.unique == node.unique) (equal_bytes node.own.host)
    ∙ ap (λ b. b && node.own.id == node.own.id && node.unique == node.unique) (equal_numbers node.own.port)
    ∙ ap (λ b. b && node.unique == node.unique) (equal_numbers node.own.id)
    ∙ equal_numbers node.unique

pub send_is : (node : NodeState) (i j : ℕ) (m : Message) → send_of node i (process_id node j) m ≡ by_sender (slice_get node.mail i) (to_target node i j m (slice_get node.mail j))
unfolding send_of acting life_of target_of growing delivered put_of given_to appended
send_is node i j m = ap (λ own. acting (option_map (λ p. p.life) (slice_get node.mail i)) >>= (λ live. (if own then made_or_unknown (option_map (λ p. p.life) (slice_get node.mail j)) else Err Unknown) >>= (λ life. growing (next_index node.pairs (i, j)) >>= (λ index. delivered node.mail j life m >>= (λ after. Ok (Said (process_id node i) (process_id node j) 0 index m ∷ got_at_once (process_id node i) (process_id node j) life, record node { mail = after; pairs = with_said node.pairs (i, j) (index + 1) })))))) (own_is node j) ∙ by_cases (slice_get node.mail i) (slice_get node.mail j) where
  sending : Option Process → Option Process → Done
  sending a b = acting (option_map (λ p. p.life) a) >>= (λ live. made_or_unknown (option_map (λ p. p.life) b) >>= (λ life. growing (next_index node.pairs (i, j)) >>= (λ index. (if is_over life then Ok node.mail else mailed (mail.◌>>=◌ (there_or mails.NotLive b) (λ process. mail.◌>>=◌ (given_to process None m) (λ after. Ok (slice_set node.mail j after))))) >>= (λ after. Ok (Said (process_id node i) (process_id node j) 0 index m ∷ got_at_once (process_id node i) (process_id node j) life, record node { mail = after; pairs = with_said node.pairs (i, j) (index + 1) })))))

  by_test : (b : Bool) (p : Process) (x y : Done) → x ≡ y → (if b then Ok p.life else Err Dead) >>= (λ live. x) ≡ by_live b y
  by_test true p x y h = h
  by_test false p x y h = refl

  by_cases : (a b : Option Process) → sending a b ≡ by_sender a (to_target node i j m b)
  by_cases None b = refl
  by_cases (Some p) None = by_test (is_live p.life) p _ (Err Unknown) refl
  by_cases (Some p) (Some q) = by_test (is_live p.life) p _ (to_target node i j m (Some q)) refl

-- ---- receiving

abbrev pub of_found : NodeState → ℕ → Process → Option (Message × List Message) → Done
of_found node i p None = Err Empty
of_found node i p (Some found) = Ok (Took (process_id node i) found.0 ∷ [], record node { mail = slice_set node.mail i (record p { mailbox = found.1 }) })

abbrev pub taking : NodeState → ℕ → List ℕ → Option Process → Done
taking node i mark None = Err Unknown
taking node i mark (Some p) = by_live (is_live p.life) (of_found node i p (first_that (λ message. bytes_eq message.mark mark) p.mailbox))

pub receive_is : (node : NodeState) (i : ℕ) (mark : List ℕ) → receive_of node i mark ≡ taking node i mark (slice_get node.mail i)
unfolding receive_of acting life_of take_of taken_from first_of_mark
receive_is node i mark = by_cases (slice_get node.mail i) where
  left : Process → Option (Message × List Message) → Result (Message × Process) MailError
  left p found = mail.◌>>=◌ (there_or mails.Empty found) (λ taken. Ok (taken.0, record p { mailbox = taken.1 }))

  from : Process → Bool → Option (Message × List Message) → Result (Message × List Process) MailError
  from p live found = mail.◌>>=◌ (if live then left p found else Err mails.NotLive) (λ taken. Ok (taken.0, slice_set node.mail i taken.1))

  by_found : (p : Process) (live : Bool) (found : Option (Message × List Message)) → (if live then Ok p.life else Err Dead) >>= (λ l. mailed (from p live found) >>= (λ taken. Ok (Took (process_id node i) taken.0 ∷ [], record node { mail = taken.1 }))) ≡ by_live live (of_found node i p found)
  by_found p true None = refl
  by_found p true (Some found) = refl
  by_found p false found = refl

  taken_at : Option Process → Result (Message × List Process) MailError
  taken_at a = mail.◌>>=◌ (there_or mails.NotLive a) (λ process. mail.◌>>=◌ (taken_from process mark) (λ taken. Ok (taken.0, slice_set node.mail i taken.1)))

  by_cases : (a : Option Process) → acting (option_map (λ p. p.life) a) >>= (λ live. mailed (taken_at a) >>= (λ taken. Ok (Took (process_id node i) taken.0 ∷ [], record node { mail = taken.1 }))) ≡ taking node i mark a
  by_cases None = refl
  by_cases (Some p) = by_found p (is_live p.life) (first_that (λ message. bytes_eq message.mark mark) p.mailbox)

-- ---- ending

abbrev pub finishing : NodeState → ℕ → Process → Bool → Done
finishing node i p over = if over then Err Dead else Ok (Over (process_id node i) Normal ∷ [], record node { mail = slice_set node.mail i (record p { life = lives.Over Normal }) })

abbrev pub ending : NodeState → ℕ → Option Process → Done
ending node i None = Err Unknown
ending node i (Some p) = by_live (is_live p.life) (finishing node i p (is_over p.life))

pub finish_is : (node : NodeState) (i : ℕ) → finish_of node i ≡ ending node i (slice_get node.mail i)
unfolding finish_of acting life_of end_of ended
finish_is node i = by_cases (slice_get node.mail i) where
  by_over : (p : Process) (live over : Bool) → (if live then Ok p.life else Err Dead) >>= (λ l. mailed (mail.◌>>=◌ (if over then Err mails.NotLive else Ok (record p { life = lives.Over Normal })) (λ after. Ok (slice_set node.mail i after))) >>= (λ after. Ok (Over (process_id node i) Normal ∷ [], record node { mail = after }))) ≡ by_live live (finishing node i p over)
  by_over p true true = refl
  by_over p true false = refl
  by_over p false over = refl

  by_cases : (a : Option Process) → acting (option_map (λ p. p.life) a) >>= (λ live. mailed (mail.◌>>=◌ (there_or mails.NotLive a) (λ process. mail.◌>>=◌ (ended process Normal) (λ after. Ok (slice_set node.mail i after)))) >>= (λ after. Ok (Over (process_id node i) Normal ∷ [], record node { mail = after }))) ≡ ending node i a
  by_cases None = refl
  by_cases (Some p) = by_over p (is_live p.life) (is_over p.life)

-- ---- making

abbrev pub making : NodeState → Bool → Done
making node room = if room then Ok (Made (process_id node (length node.mail)) ∷ [], record node { mail = node.mail ++ new_process ∷ [] }) else Err Worn

pub make_is : (node : NodeState) → node_make node ≡ making node (nat_lt (length node.mail) last_u32)
unfolding node_make make_of newborn
make_is node = by_test (nat_lt (length node.mail) last_u32) where
  by_test : (b : Bool) → made_by node (if b then Ok (length node.mail, node.mail ++ new_process ∷ []) else Err Rattle.ch_base.specs.declared.memory.Stop.TheVariants.Worn) ≡ making node b
  by_test true = refl
  by_test false = refl

-- ---- the next index of each pair

and_same : (p q i j k l : ℕ) → (i == k && j == l) ≡ true → (p == k && q == l) ≡ (p == i && q == j)
and_same p q i j k l h = let parts = and_parts (i == k) (j == l) h in
    ap (λ n. p == n && q == l) (sym (eqb-true i k parts.0)) ∙ ap (λ n. p == i && q == n) (sym (eqb-true j l parts.1))

pub said_next : (pairs : List ((ℕ × ℕ) × ℕ)) (i j v p q : ℕ) → next_index (with_said pairs (i, j) v) (p, q) ≡ cond (p == i && q == j) v (next_index pairs (p, q))
said_next [] i j v p q = refl
said_next (known ∷ others) i j v p q = by_test (i == known.0.0 && j == known.0.1) refl (said_next others i j v p q) where
  here : (s r : Bool) (x y : ℕ) → s ≡ r → (if s then v else y) ≡ cond r v (if s then x else y)
  here true true x y h = refl
  here false false x y h = refl
  here true false x y h = absurd (cc)
  here false true x y h = absurd (cc)

  there : (s r : Bool) (x y z : ℕ) → (s ≡ true → r ≡ false) → z ≡ cond r v y → (if s then x else z) ≡ cond r v (if s then x else y)
  there true true x y z h e = let no : true ≡ false = h refl in absurd (cc)
  there true false x y z h e = refl
  there false r x y z h e = e

  not_both : (i == known.0.0 && j == known.0.1) ≡ false → (r : Bool) → (p == i && q == j) ≡ r → (p == known.0.0 && q == known.0.1) ≡ true → r ≡ false
  not_both apart false e h = refl
  not_both apart true e h = let parts = and_parts (p == i) (q == j) e in
      let eq : (i == known.0.0 && j == known.0.1) ≡ true = ap (λ n. n == known.0.0 && j == known.0.1) (sym (eqb-true p i parts.0)) ∙ ap (λ n. p == known.0.0 && n == known.0.1) (sym (eqb-true q j parts.1)) ∙ h in
      absurd (cc)

  by_test : (t : Bool) → (i == known.0.0 && j == known.0.1) ≡ t → next_index (with_said others (i, j) v) (p, q) ≡ cond (p == i && q == j) v (next_index others (p, q)) → next_index (if t then (known.0, v) ∷ others else known ∷ with_said others (i, j) v) (p, q) ≡ cond (p == i && q == j) v (next_index (known ∷ others) (p, q))
  by_test true h e = here (p == known.0.0 && q == known.0.1) (p == i && q == j) known.1 (next_index others (p, q)) (and_same p q i j known.0.0 known.0.1 h)
  by_test false h e = there (p == known.0.0 && q == known.0.1) (p == i && q == j) known.1 (next_index others (p, q)) (next_index (with_said others (i, j) v) (p, q)) (not_both h (p == i && q == j) refl) e
