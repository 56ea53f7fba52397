-- What a log shows of a node's processes and pairs is what the node holds: kept by each entry and what it does.
use Rattle.std.specs.Prelude.{◌≡◌, ℕ, ◌+◌, ◌≤◌, Bool, true, false, not, cond, ◌&&◌, List, [], ◌∷◌, ◌++◌, length, count_by, Option, Some, None, is_some, ◌==◌, if◌then◌else◌}
use Rattle.std.specs.Str.{bytes_eq}
use Rattle.std.proofs.Common.{refl, ap, sym, ◌∙◌, subst, append_assoc, arith}
use Rattle.std.proofs.lemmas.List.{append-nil}
use Rattle.std.proofs.lemmas.Bool.{eqb-true, ne_eqb, and_parts, or_parts}
use Rattle.std.proofs.lemmas.Slice.Eq.{bytes_eq-Decides}
use Rattle.ch_ident.specs.declared.message.Message.{Message}
use Rattle.ch_ident.specs.declared.reason.Reason.{Reason}
use Rattle.ch_mail.specs.declared.life.Life.TheVariants as lives
use Rattle.ch_mail.specs.Lives.{is_live, is_over}
use Rattle.ch_mail.specs.Process.{Process}
use Rattle.ch_model.specs.declared.name.ProcName.{ProcName}
use Rattle.ch_model.specs.declared.name.TargetName.TheVariants as targets
use Rattle.ch_model.specs.declared.entry.Entry.{Entry}
use Rattle.ch_model.specs.declared.entry.Entry.TheVariants.{Line, Made, Said, Got, Took, Over}
use Rattle.ch_model.specs.declared.entry.Verdict.{Verdict}
use Rattle.ch_laws_one_node.specs.Counts.{same_process, makes, makes_on, ends, says, gets, takes, is_made_in, is_over_in, made_in, index_of, got_in, taken_in}
use Rattle.ch_laws_one_node.specs.Delivery.{is_the_said, gets_later}
use Rattle.ch_laws_one_node.specs.Mailboxes.{said_by, first_some, message_of, body_of_mark, entering, entered}
use Rattle.ch_laws_one_node.proofs.Appending.{at, any_same, any_now, any_more, count_same, count_next, same_at, same_self, apart, equal_bytes, equal_numbers, message_more, entered_more, bodies, bodies_more, IsTaken, length_more}

abbrev pub is_over_at : Option Process → Bool
is_over_at None = false
is_over_at (Some process) = is_over process.life

abbrev pub waiting : Option Process → List Message
waiting None = []
waiting (Some process) = process.mailbox

-- no process is doomed
abbrev pub IsUndoomed : Option Process → Type 0
IsUndoomed None = Unit {0}
IsUndoomed (Some process) = is_live process.life ≡ not (is_over process.life)

-- what entered the mailbox of a mark: what was taken, and then what waits
pub record Mailed (log : List Entry) (p : ProcName) (word : List ℕ) (messages : List Message) : Type 0 where
  pub front : List (List ℕ)
  pub all : entered log p word ≡ front ++ bodies word messages
  pub taken : taken_in log p word ≡ length front

pub record Account (log : List Entry) (p : ProcName) (held : Option Process) : Type 0 where
  pub made : is_made_in log p ≡ is_some held
  pub over : is_over_in log p ≡ is_over_at held
  pub undoomed : IsUndoomed held
  pub mailbox : (word : List ℕ) → Mailed log p word (waiting held)

pub record Pair (log : List Entry) (p q : ProcName) (next : ℕ) : Type 0 where
  pub index : index_of log p q 0 ≡ next
  pub fresh : (k : ℕ) → next ≤ k → message_of log p q 0 k ≡ None
  pub later : count_by (gets_later p q 0) log ≡ 0

-- the node has made so many processes; it holds these, and these are the next indexes of their pairs
pub record Shows (node : List ℕ) (count : ℕ) (held : ℕ → Option Process) (next : ℕ → ℕ → ℕ) (log : List Entry) : Type 0 where
  pub count_is : made_in log node ≡ count
  pub accounts : (i : ℕ) → Account log (at node i) (held i)
  pub pairs : (i j : ℕ) → Pair log (at node i) (at node j) (next i j)

-- whatever was said to a process that isn't over was got
pub record AllGot (node : List ℕ) (next : ℕ → ℕ → ℕ) (log : List Entry) : Type 0 where
  pub got : (i j : ℕ) → is_over_in log (at node j) ≡ false → got_in log (at node i) (at node j) 0 ≡ next i j

-- ---- changes of what is held

abbrev pub put : ℕ → Process → (ℕ → Option Process) → ℕ → Option Process
put k process held i = cond (i == k) (Some process) (held i)

abbrev pub raise : ℕ → ℕ → (ℕ → ℕ → ℕ) → ℕ → ℕ → ℕ
raise i j next p q = cond (p == i && q == j) (next i j + 1) (next p q)

pub reheld : (node : List ℕ) (count : ℕ) (held other : ℕ → Option Process) (next : ℕ → ℕ → ℕ) (log : List Entry) → ((i : ℕ) → held i ≡ other i) → Shows node count held next log → Shows node count other next log
reheld node count held other next log h s = record {
  count_is = s.count_is;
  accounts = λ i. subst (λ o. Account log (at node i) o) (h i) (s.accounts i);
  pairs = s.pairs;
}

pub renumbered : (node : List ℕ) (count : ℕ) (held : ℕ → Option Process) (next other : ℕ → ℕ → ℕ) (log : List Entry) → ((i j : ℕ) → next i j ≡ other i j) → Shows node count held next log → Shows node count held other log
renumbered node count held next other log h s = record {
  count_is = s.count_is;
  accounts = s.accounts;
  pairs = λ i j. subst (λ k. Pair log (at node i) (at node j) k) (h i j) (s.pairs i j);
}

pub regot : (node : List ℕ) (next other : ℕ → ℕ → ℕ) (log : List Entry) → ((i j : ℕ) → next i j ≡ other i j) → AllGot node next log → AllGot node other log
regot node next other log h s = record { got = λ i j o. s.got i j o ∙ h i j }

-- ---- entries that change nothing

mailed_same : (log : List Entry) (x : Entry) (p : ProcName) (word : List ℕ) (messages : List Message) → entering log p word x ≡ [] → takes p word x ≡ false → Mailed log p word messages → Mailed (log ++ x ∷ []) p word messages
mailed_same log x p word messages none untaken m = record {
  front = m.front;
  all = entered_more log x p word ∙ ap (λ l. entered log p word ++ l) none ∙ append-nil (entered log p word) ∙ m.all;
  taken = count_same (takes p word) log x untaken ∙ m.taken;
}

account_same : (log : List Entry) (x : Entry) (p : ProcName) (held : Option Process) → makes p x ≡ false → ends p x ≡ false → ((word : List ℕ) → entering log p word x ≡ []) → ((word : List ℕ) → takes p word x ≡ false) → Account log p held → Account (log ++ x ∷ []) p held
account_same log x p held unmade unended none untaken a = record {
  made = any_same (makes p) log x unmade ∙ a.made;
  over = any_same (ends p) log x unended ∙ a.over;
  undoomed = a.undoomed;
  mailbox = λ word. mailed_same log x p word (waiting held) (none word) (untaken word) (a.mailbox word);
}

pair_same : (log : List Entry) (x : Entry) (p q : ProcName) (next : ℕ) → says p q 0 x ≡ false → ((k : ℕ) → said_by p q 0 k x ≡ None) → gets_later p q 0 x ≡ false → Pair log p q next → Pair (log ++ x ∷ []) p q next
pair_same log x p q next unsaid none ungot a = record {
  index = count_same (says p q 0) log x unsaid ∙ a.index;
  fresh = λ k h. message_more log x p q 0 k ∙ ap (λ m. first_some m (said_by p q 0 k x)) (a.fresh k h) ∙ none k;
  later = count_same (gets_later p q 0) log x ungot ∙ a.later;
}

got_same : (node : List ℕ) (next : ℕ → ℕ → ℕ) (log : List Entry) (x : Entry) → ((p : ProcName) → ends p x ≡ false) → ((p q : ProcName) → gets p q 0 x ≡ false) → AllGot node next log → AllGot node next (log ++ x ∷ [])
got_same node next log x unended ungot s = record {
  got = λ i j o. count_same (gets (at node i) (at node j) 0) log x (ungot (at node i) (at node j)) ∙ s.got i j (sym (any_same (ends (at node j)) log x (unended (at node j))) ∙ o);
}

-- ---- one process changes, and all others stay as they are

placed : (node : List ℕ) (log : List Entry) (k : ℕ) (process : Process) (held : ℕ → Option Process) → Account log (at node k) (Some process) → ((i : ℕ) → (i == k) ≡ false → Account log (at node i) (held i)) → (i : ℕ) → Account log (at node i) (put k process held i)
placed node log k process held here others i = by_test (i == k) refl where
  by_test : (b : Bool) → (i == k) ≡ b → Account log (at node i) (cond b (Some process) (held i))
  by_test true h = subst (λ m. Account log (at node m) (Some process)) (sym (eqb-true i k h)) here
  by_test false h = others i h

-- ---- the entries

pub line_shows : (node : List ℕ) (count : ℕ) (held : ℕ → Option Process) (next : ℕ → ℕ → ℕ) (log : List Entry) (number : ℕ) (answer : Verdict) → Shows node count held next log → Shows node count held next (log ++ Line number answer ∷ [])
line_shows node count held next log number answer s = record {
  count_is = count_same (makes_on node) log (Line number answer) refl ∙ s.count_is;
  accounts = λ i. account_same log (Line number answer) (at node i) (held i) refl refl (λ word. refl) (λ word. refl) (s.accounts i);
  pairs = λ i j. pair_same log (Line number answer) (at node i) (at node j) (next i j) refl (λ k. refl) refl (s.pairs i j);
}

pub line_got : (node : List ℕ) (next : ℕ → ℕ → ℕ) (log : List Entry) (number : ℕ) (answer : Verdict) → AllGot node next log → AllGot node next (log ++ Line number answer ∷ [])
line_got node next log number answer s = got_same node next log (Line number answer) (λ p. refl) (λ p q. refl) s

-- a process that was just made
abbrev pub new_process : Process
new_process = record { life = lives.Live; mailbox = []; ports = [] }

pub made_shows : (node : List ℕ) (count : ℕ) (held : ℕ → Option Process) (next : ℕ → ℕ → ℕ) (log : List Entry) → held count ≡ None → Shows node count held next log → Shows node (count + 1) (put count new_process held) next (log ++ Made (at node count) None None ∷ [])
made_shows node count held next log none s = record {
  count_is = count_next (makes_on node) log (Made (at node count) None None) (equal_bytes node) ∙ ap (λ k. k + 1) s.count_is;
  accounts = placed node (log ++ Made (at node count) None None ∷ []) count new_process held (record {
    made = any_now (makes (at node count)) log (Made (at node count) None None) (same_self node count);
    over = any_same (ends (at node count)) log (Made (at node count) None None) refl ∙ (s.accounts count).over ∙ ap is_over_at none;
    undoomed = refl;
    mailbox = λ word. mailed_same log (Made (at node count) None None) (at node count) word [] refl refl (subst (λ o. Mailed log (at node count) word (waiting o)) none ((s.accounts count).mailbox word));
  }) (λ i h. account_same log (Made (at node count) None None) (at node i) (held i) (apart node i count h) refl (λ word. refl) (λ word. refl) (s.accounts i));
  pairs = λ i j. pair_same log (Made (at node count) None None) (at node i) (at node j) (next i j) refl (λ k. refl) refl (s.pairs i j);
}

pub made_got : (node : List ℕ) (next : ℕ → ℕ → ℕ) (log : List Entry) (process : ProcName) → AllGot node next log → AllGot node next (log ++ Made process None None ∷ [])
made_got node next log process s = got_same node next log (Made process None None) (λ p. refl) (λ p q. refl) s

pub over_shows : (node : List ℕ) (count : ℕ) (held : ℕ → Option Process) (next : ℕ → ℕ → ℕ) (log : List Entry) (k : ℕ) (process : Process) (reason : Reason) → held k ≡ Some process → Shows node count held next log → Shows node count (put k (record process { life = lives.Over reason }) held) next (log ++ Over (at node k) reason ∷ [])
over_shows node count held next log k process reason is s = record {
  count_is = count_same (makes_on node) log (Over (at node k) reason) refl ∙ s.count_is;
  accounts = placed node (log ++ Over (at node k) reason ∷ []) k (record process { life = lives.Over reason }) held (record {
    made = any_same (makes (at node k)) log (Over (at node k) reason) refl ∙ (s.accounts k).made ∙ ap is_some is;
    over = any_now (ends (at node k)) log (Over (at node k) reason) (same_self node k);
    undoomed = refl;
    mailbox = λ word. mailed_same log (Over (at node k) reason) (at node k) word process.mailbox refl refl (subst (λ o. Mailed log (at node k) word (waiting o)) is ((s.accounts k).mailbox word));
  }) (λ i h. account_same log (Over (at node k) reason) (at node i) (held i) refl (apart node i k h) (λ word. refl) (λ word. refl) (s.accounts i));
  pairs = λ i j. pair_same log (Over (at node k) reason) (at node i) (at node j) (next i j) refl (λ k. refl) refl (s.pairs i j);
}

pub over_got : (node : List ℕ) (next : ℕ → ℕ → ℕ) (log : List Entry) (process : ProcName) (reason : Reason) → AllGot node next log → AllGot node next (log ++ Over process reason ∷ [])
over_got node next log process reason s = record {
  got = λ i j o. count_same (gets (at node i) (at node j) 0) log (Over process reason) refl ∙ s.got i j (or_parts (is_over_in log (at node j)) (same_process (at node j) process) (sym (any_more (ends (at node j)) log (Over process reason)) ∙ o)).0;
}

both : (x y : Bool) → (x && y && true) ≡ (x && y)
both true true = refl
both true false = refl
both false y = refl

never : (x y : Bool) → (x && y && false) ≡ false
never true true = refl
never true false = refl
never false y = refl

-- whether the entry is of this pair
says_is : (node : List ℕ) (p q i j : ℕ) (k : ℕ) (mark body : List ℕ) → says (at node p) (at node q) 0 (Said (at node i) (targets.Process (at node j)) 0 k mark body) ≡ (p == i && q == j)
says_is node p q i j k mark body = both (same_process (at node p) (at node i)) (same_process (at node q) (at node j)) ∙ ap (λ b. b && same_process (at node q) (at node j)) (same_at node p i) ∙ ap (λ b. p == i && b) (same_at node q j)

gets_is : (node : List ℕ) (p q i j : ℕ) (k : ℕ) (receiver : ProcName) → gets (at node p) (at node q) 0 (Got (at node i) (targets.Process (at node j)) 0 k (Some receiver)) ≡ (p == i && q == j)
gets_is node p q i j k receiver = both (same_process (at node p) (at node i)) (same_process (at node q) (at node j)) ∙ ap (λ b. b && same_process (at node q) (at node j)) (same_at node p i) ∙ ap (λ b. p == i && b) (same_at node q j)

and_fourth : (x y z : Bool) → (x && y && true && z) ≡ (x && y && z)
and_fourth true true z = refl
and_fourth true false z = refl
and_fourth false y z = refl

pub the_said_is : (node : List ℕ) (p q i j : ℕ) (n k : ℕ) (mark body : List ℕ) → is_the_said (at node p) (at node q) 0 n (Said (at node i) (targets.Process (at node j)) 0 k mark body) ≡ (p == i && q == j && n == k)
the_said_is node p q i j n k mark body = and_fourth (same_process (at node p) (at node i)) (same_process (at node q) (at node j)) (n == k) ∙ ap (λ b. b && same_process (at node q) (at node j) && n == k) (same_at node p i) ∙ ap (λ b. p == i && b && n == k) (same_at node q j)

pub the_said : (node : List ℕ) (i j : ℕ) (k : ℕ) (mark body : List ℕ) → is_the_said (at node i) (at node j) 0 k (Said (at node i) (targets.Process (at node j)) 0 k mark body) ≡ true
the_said node i j k mark body = the_said_is node i j i j k k mark body ∙ ap (λ b. b && j == j && k == k) (equal_numbers i) ∙ ap (λ b. b && k == k) (equal_numbers j) ∙ equal_numbers k

and_apart : (x y z : Bool) → (x && y) ≡ false → (x && y && z) ≡ false
and_apart true true z h = absurd (cc)
and_apart true false z h = refl
and_apart false y z h = refl

and_all : (x y z : Bool) → z ≡ false → (x && y && z) ≡ false
and_all x y z h = ap (λ b. x && y && b) h ∙ never x y

pub said_shows : (node : List ℕ) (count : ℕ) (held : ℕ → Option Process) (next : ℕ → ℕ → ℕ) (log : List Entry) (i j : ℕ) (mark body : List ℕ) → Shows node count held next log → Shows node count held (raise i j next) (log ++ Said (at node i) (targets.Process (at node j)) 0 (next i j) mark body ∷ [])
said_shows node count held next log i j mark body s = record {
  count_is = count_same (makes_on node) log said refl ∙ s.count_is;
  accounts = λ m. account_same log said (at node m) (held m) refl refl (λ word. refl) (λ word. refl) (s.accounts m);
  pairs = λ p q. by_test p q (p == i && q == j) refl;
} where
  said : Entry
  said = Said (at node i) (targets.Process (at node j)) 0 (next i j) mark body

  unsaid : (p q k : ℕ) → (p == i && q == j && k == next i j) ≡ false → said_by (at node p) (at node q) 0 k said ≡ None
  unsaid p q k h = ap (λ b. if b then Some (record { mark = mark; body = body }) else None) (the_said_is node p q i j k (next i j) mark body ∙ h)

  here : Pair (log ++ said ∷ []) (at node i) (at node j) (next i j + 1)
  here = record {
    index = count_next (says (at node i) (at node j) 0) log said (says_is node i j i j (next i j) mark body ∙ ap (λ b. b && j == j) (equal_numbers i) ∙ equal_numbers j) ∙ ap (λ k. k + 1) (s.pairs i j).index;
    fresh = λ k h. message_more log said (at node i) (at node j) 0 k ∙ ap (λ m. first_some m (said_by (at node i) (at node j) 0 k said)) ((s.pairs i j).fresh k (below (next i j) k h)) ∙ unsaid i j k (and_all (i == i) (j == j) (k == next i j) (ne_eqb k (next i j) (beyond (next i j) k h)));
    later = count_same (gets_later (at node i) (at node j) 0) log said refl ∙ (s.pairs i j).later;
  } where
    below : (n k : ℕ) → n + 1 ≤ k → n ≤ k
    below n k h = omega arith

    beyond : (n k : ℕ) → n + 1 ≤ k → k ≡ n → ⊥
    beyond n k h e = omega arith

  by_test : (p q : ℕ) (b : Bool) → (p == i && q == j) ≡ b → Pair (log ++ said ∷ []) (at node p) (at node q) (cond b (next i j + 1) (next p q))
  by_test p q true h = let parts = and_parts (p == i) (q == j) h in
      subst (λ m. Pair (log ++ said ∷ []) (at node m) (at node q) (next i j + 1)) (sym (eqb-true p i parts.0)) (subst (λ m. Pair (log ++ said ∷ []) (at node i) (at node m) (next i j + 1)) (sym (eqb-true q j parts.1)) here)
  by_test p q false h = pair_same log said (at node p) (at node q) (next p q) (says_is node p q i j (next i j) mark body ∙ h) (λ k. unsaid p q k (and_apart (p == i) (q == j) (k == next i j) h)) refl (s.pairs p q)

pub got_shows : (node : List ℕ) (count : ℕ) (held : ℕ → Option Process) (next : ℕ → ℕ → ℕ) (log : List Entry) (i j k : ℕ) (process : Process) (message : Message) → held j ≡ Some process → message_of log (at node i) (at node j) 0 k ≡ Some message → Shows node count held next log → Shows node count (put j (record process { mailbox = process.mailbox ++ message ∷ [] }) held) next (log ++ Got (at node i) (targets.Process (at node j)) 0 k (Some (at node j)) ∷ [])
got_shows node count held next log i j k process message is said s = record {
  count_is = count_same (makes_on node) log got refl ∙ s.count_is;
  accounts = placed node (log ++ got ∷ []) j (record process { mailbox = process.mailbox ++ message ∷ [] }) held (record {
    made = any_same (makes (at node j)) log got refl ∙ (s.accounts j).made ∙ ap is_some is;
    over = any_same (ends (at node j)) log got refl ∙ (s.accounts j).over ∙ ap is_over_at is;
    undoomed = subst (λ o. IsUndoomed o) is (s.accounts j).undoomed;
    mailbox = λ word. mailed word (subst (λ o. Mailed log (at node j) word (waiting o)) is ((s.accounts j).mailbox word));
  }) (λ m h. account_same log got (at node m) (held m) refl refl (λ word. ap (λ b. if b then body_of_mark word (message_of log (at node i) (at node j) 0 k) else []) (apart node m j h)) (λ word. refl) (s.accounts m));
  pairs = λ p q. pair_same log got (at node p) (at node q) (next p q) refl (λ n. refl) (never (same_process (at node p) (at node i)) (same_process (at node q) (at node j))) (s.pairs p q);
} where
  got : Entry
  got = Got (at node i) (targets.Process (at node j)) 0 k (Some (at node j))

  enters : (word : List ℕ) → entering log (at node j) word got ≡ body_of_mark word (Some message)
  enters word = ap (λ b. if b then body_of_mark word (message_of log (at node i) (at node j) 0 k) else []) (same_self node j) ∙ ap (λ m. body_of_mark word m) said

  mailed : (word : List ℕ) → Mailed log (at node j) word process.mailbox → Mailed (log ++ got ∷ []) (at node j) word (process.mailbox ++ message ∷ [])
  mailed word m = record {
    front = m.front;
    all = entered_more log got (at node j) word
        ∙ ap (λ l. entered log (at node j) word ++ l) (enters word)
        ∙ ap (λ l. l ++ body_of_mark word (Some message)) m.all
        ∙ append_assoc m.front (bodies word process.mailbox) (body_of_mark word (Some message))
        ∙ ap (λ l. m.front ++ l) (sym (bodies_more word process.mailbox message));
    taken = count_same (takes (at node j) word) log got refl ∙ m.taken;
  }

pub took_shows : (node : List ℕ) (count : ℕ) (held : ℕ → Option Process) (next : ℕ → ℕ → ℕ) (log : List Entry) (k : ℕ) (process : Process) (message : Message) (rest : List Message) → held k ≡ Some process → IsTaken message.mark process.mailbox message rest → Shows node count held next log → Shows node count (put k (record process { mailbox = rest }) held) next (log ++ Took (at node k) None message.mark message.body ∷ [])
took_shows node count held next log k process message rest is taken s = record {
  count_is = count_same (makes_on node) log took refl ∙ s.count_is;
  accounts = placed node (log ++ took ∷ []) k (record process { mailbox = rest }) held (record {
    made = any_same (makes (at node k)) log took refl ∙ (s.accounts k).made ∙ ap is_some is;
    over = any_same (ends (at node k)) log took refl ∙ (s.accounts k).over ∙ ap is_over_at is;
    undoomed = subst (λ o. IsUndoomed o) is (s.accounts k).undoomed;
    mailbox = λ word. by_mark word (bytes_eq word message.mark) refl (subst (λ o. Mailed log (at node k) word (waiting o)) is ((s.accounts k).mailbox word));
  }) (λ m h. account_same log took (at node m) (held m) refl refl (λ word. refl) (λ word. ap (λ b. b && bytes_eq word message.mark) (apart node m k h)) (s.accounts m));
  pairs = λ p q. pair_same log took (at node p) (at node q) (next p q) refl (λ n. refl) refl (s.pairs p q);
} where
  took : Entry
  took = Took (at node k) None message.mark message.body

  nothing_enters : (word : List ℕ) → entered (log ++ took ∷ []) (at node k) word ≡ entered log (at node k) word
  nothing_enters word = entered_more log took (at node k) word ∙ append-nil (entered log (at node k) word)

  takes_is : (word : List ℕ) (b : Bool) → bytes_eq word message.mark ≡ b → takes (at node k) word took ≡ b
  takes_is word b h = ap (λ x. x && bytes_eq word message.mark) (same_self node k) ∙ h

  of_mark : Mailed log (at node k) message.mark process.mailbox → bytes_eq message.mark message.mark ≡ true → Mailed (log ++ took ∷ []) (at node k) message.mark rest
  of_mark m h = record {
    front = m.front ++ message.body ∷ [];
    all = nothing_enters message.mark ∙ m.all ∙ ap (λ l. m.front ++ l) taken.first ∙ sym (append_assoc m.front (message.body ∷ []) (bodies message.mark rest));
    taken = count_next (takes (at node k) message.mark) log took (takes_is message.mark true h) ∙ ap (λ n. n + 1) m.taken ∙ sym (length_more m.front message.body);
  }

  by_mark : (word : List ℕ) (b : Bool) → bytes_eq word message.mark ≡ b → Mailed log (at node k) word process.mailbox → Mailed (log ++ took ∷ []) (at node k) word rest
  by_mark word true h m = let same : word ≡ message.mark = (bytes_eq-Decides word message.mark).0 h in
      subst (λ w. Mailed (log ++ took ∷ []) (at node k) w rest) (sym same) (of_mark (subst (λ w. Mailed log (at node k) w process.mailbox) same m) (equal_bytes message.mark))
  by_mark word false h m = record {
    front = m.front;
    all = nothing_enters word ∙ m.all ∙ ap (λ l. m.front ++ l) (taken.others word h);
    taken = count_same (takes (at node k) word) log took (takes_is word false h) ∙ m.taken;
  }

pub took_got : (node : List ℕ) (next : ℕ → ℕ → ℕ) (log : List Entry) (process : ProcName) (mark body : List ℕ) → AllGot node next log → AllGot node next (log ++ Took process None mark body ∷ [])
took_got node next log process mark body s = got_same node next log (Took process None mark body) (λ p. refl) (λ p q. refl) s

-- ---- a message is said, and got where its receiver isn't over

pub said_got_never : (node : List ℕ) (next : ℕ → ℕ → ℕ) (log : List Entry) (i j k : ℕ) (mark body : List ℕ) → is_over_in log (at node j) ≡ true → AllGot node next log → AllGot node (raise i j next) (log ++ Said (at node i) (targets.Process (at node j)) 0 k mark body ∷ [])
said_got_never node next log i j k mark body over s = record { got = λ p q o. by_test p q (p == i && q == j) refl (sym (any_same (ends (at node q)) log said refl) ∙ o) } where
  said : Entry
  said = Said (at node i) (targets.Process (at node j)) 0 k mark body

  by_test : (p q : ℕ) (b : Bool) → (p == i && q == j) ≡ b → is_over_in log (at node q) ≡ false → got_in (log ++ said ∷ []) (at node p) (at node q) 0 ≡ cond b (next i j + 1) (next p q)
  by_test p q true h o =
      let same : q ≡ j = eqb-true q j (and_parts (p == i) (q == j) h).1 in
      let alive : is_over_in log (at node j) ≡ false = subst (λ m. is_over_in log (at node m) ≡ false) same o in
      absurd (cc)
  by_test p q false h o = count_same (gets (at node p) (at node q) 0) log said refl ∙ s.got p q o

pub said_got_at_once : (node : List ℕ) (next : ℕ → ℕ → ℕ) (log : List Entry) (i j k : ℕ) (mark body : List ℕ) → AllGot node next log → AllGot node (raise i j next) ((log ++ Said (at node i) (targets.Process (at node j)) 0 k mark body ∷ []) ++ Got (at node i) (targets.Process (at node j)) 0 k (Some (at node j)) ∷ [])
said_got_at_once node next log i j k mark body s = record { got = λ p q o. by_test p q (p == i && q == j) refl (sym (any_same (ends (at node q)) log said refl) ∙ sym (any_same (ends (at node q)) (log ++ said ∷ []) got refl) ∙ o) } where
  said : Entry
  said = Said (at node i) (targets.Process (at node j)) 0 k mark body

  got : Entry
  got = Got (at node i) (targets.Process (at node j)) 0 k (Some (at node j))

  here : is_over_in log (at node j) ≡ false → got_in ((log ++ said ∷ []) ++ got ∷ []) (at node i) (at node j) 0 ≡ next i j + 1
  here o = count_next (gets (at node i) (at node j) 0) (log ++ said ∷ []) got (gets_is node i j i j k (at node j) ∙ ap (λ b. b && j == j) (equal_numbers i) ∙ equal_numbers j) ∙ ap (λ n. n + 1) (count_same (gets (at node i) (at node j) 0) log said refl ∙ s.got i j o)

  by_test : (p q : ℕ) (b : Bool) → (p == i && q == j) ≡ b → is_over_in log (at node q) ≡ false → got_in ((log ++ said ∷ []) ++ got ∷ []) (at node p) (at node q) 0 ≡ cond b (next i j + 1) (next p q)
  by_test p q true h o =
      let parts = and_parts (p == i) (q == j) h in
      let left : p ≡ i = eqb-true p i parts.0 in
      let right : q ≡ j = eqb-true q j parts.1 in
      subst (λ m. got_in ((log ++ said ∷ []) ++ got ∷ []) (at node m) (at node q) 0 ≡ next i j + 1) (sym left) (subst (λ m. got_in ((log ++ said ∷ []) ++ got ∷ []) (at node i) (at node m) 0 ≡ next i j + 1) (sym right) (here (subst (λ m. is_over_in log (at node m) ≡ false) right o)))
  by_test p q false h o = count_same (gets (at node p) (at node q) 0) (log ++ said ∷ []) got (gets_is node p q i j k (at node j) ∙ h) ∙ count_same (gets (at node p) (at node q) 0) log said refl ∙ s.got p q o

-- ---- before the first event

pub nothing_shows : (node : List ℕ) → Shows node 0 (λ i. None) (λ i j. 0) []
nothing_shows node = record {
  count_is = refl;
  accounts = λ i. record { made = refl; over = refl; undoomed = tt; mailbox = λ word. record { front = []; all = refl; taken = refl } };
  pairs = λ i j. record { index = refl; fresh = λ k h. refl; later = refl };
}

pub nothing_got : (node : List ℕ) → AllGot node (λ i j. 0) []
nothing_got node = record { got = λ i j o. refl }
