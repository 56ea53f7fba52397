-- What each entry does to what stands in a mailbox by the log.
use Rattle.std.proofs.Common.{◌≡◌, ◌≤◌, ◌<◌, ℕ, zero, suc, ◌+◌, Bool, true, false, cond, ◌&&◌, List, [], ◌∷◌, ◌++◌, length, drop, refl, sym, ap, ◌∙◌, subst, append_assoc, arith, ◌==◌}
use Rattle.std.proofs.lemmas.Bool.{and_parts}
use Rattle.std.proofs.lemmas.List.{append-nil, drop-append-le, length-append}
use Rattle.std.proofs.lemmas.List.Elements.{filter_map-append}
use Rattle.std.proofs.lemmas.Slice.Eq.{bytes_eq-Decides}
use Rattle.std.specs.List.{cons_option}
use Rattle.std.specs.Prelude.{filter_map, count_by, slice_get, Option, Some, None}
use Rattle.std.specs.Str.{bytes_eq}
use Rattle.ch_ident.specs.declared.message.Message.{Message}
use Rattle.ch_model.specs.declared.entry.Entry.{Entry}
use Rattle.ch_model.specs.declared.entry.Entry.TheVariants as entries
use Rattle.ch_model.specs.declared.line.Line.{Line}
use Rattle.ch_model.specs.declared.name.ProcName.{ProcName}
use Rattle.ch_model.specs.declared.name.TargetName.{TargetName}
use Rattle.ch_model.specs.declared.name.TargetName.TheVariants as targets
use Rattle.ch_model.specs.Epochs.{says_it, says_in, index_of, has_next_index}
use Rattle.ch_model.specs.Logs.{each_after, first_of, or_else, some_and, collected, collected_after, never, kept_with}
use Rattle.ch_model.specs.Mailboxes.{said_as, message_of, entering, body_of, entered, takes_marked, takes_the_first}
use Rattle.ch_model.specs.Same.{same_process}
use Rattle.ch_laws_log.proofs.Stored.{number_is, number_same, bytes_same}
use Rattle.ch_laws_one_node.proofs.Appending.{count_same, count_next, bodies, IsTaken}
use Rattle.ch_laws_messages.specs.MailMail.{MarkStands, MailStands}

-- ---- lists

none_after : {A : Type 0} (xs : List A) (n : ℕ) (x : A) (rest : List A) → drop n xs ≡ x ∷ rest → (slice_get xs n ≡ Some x) × (drop (suc n) xs ≡ rest) × (suc n ≤ length xs)
none_after [] zero x rest e = absurd cc
none_after [] (suc n) x rest e = absurd cc
none_after (y ∷ xs) zero x rest e = let same : y ≡ x = cc in let tail : xs ≡ rest = cc in (ap Some same, tail, least (length xs)) where
  least : (n : ℕ) → 1 ≤ suc n
  least n = omega arith
none_after (y ∷ xs) (suc n) x rest e = let more = none_after xs n x rest e in (more.0, more.1, up n (length xs) more.2) where
  up : (i j : ℕ) → suc i ≤ j → suc (suc i) ≤ suc j
  up i j h = omega arith

-- what is first of what is left stands there, and the others are left behind it
pub none_below : {A : Type 0} (xs : List A) (n : ℕ) (x : A) (rest : List A) → drop n xs ≡ x ∷ rest → (slice_get xs n ≡ Some x) × (drop (n + 1) xs ≡ rest) × (n + 1 ≤ length xs)
none_below xs n x rest e = let more = none_after xs n x rest e in let next : suc n ≡ n + 1 = omega arith in
    (more.0, ap (λ (i : ℕ). drop i xs) (sym next) ∙ more.1, subst (λ (i : ℕ). i ≤ length xs) next more.2)

pub bodies_are : (word : List ℕ) (messages : List Message) → bodies word messages ≡ filter_map (body_of word) messages
bodies_are word [] = refl
bodies_are word (m ∷ messages) = by_test (bytes_eq m.mark word) (bodies_are word messages) where
  by_test : (b : Bool) → bodies word messages ≡ filter_map (body_of word) messages → cond b (m.body ∷ []) [] ++ bodies word messages ≡ cons_option (cond b (Some m.body) None) (filter_map (body_of word) messages)
  by_test true more = ap (λ (l : List (List ℕ)). m.body ∷ l) more
  by_test false more = more

-- ---- messages that were said

or_later : {A : Type 0} (x y z : Option A) → or_else x (or_else y z) ≡ or_else (or_else x y) z
or_later None y z = refl
or_later (Some x) y z = refl

or_none : {A : Type 0} (x : Option A) → or_else x None ≡ x
or_none None = refl
or_none (Some x) = refl

first_both : {A B : Type 0} (look : A → Option B) (xs ys : List A) → first_of look (xs ++ ys) ≡ or_else (first_of look xs) (first_of look ys)
first_both look [] ys = refl
first_both look (x ∷ xs) ys = ap (or_else (look x)) (first_both look xs ys) ∙ or_later (look x) (first_of look xs) (first_of look ys)

-- what was said is said still
pub said_still : (log more : List Entry) (p : ProcName) (d : TargetName) (e k : ℕ) (message : Message) → message_of log p d e k ≡ Some message → message_of (log ++ more) p d e k ≡ Some message
said_still log more p d e k message said = first_both (said_as p d e k) log more ∙ ap (λ (o : Option Message). or_else o (message_of more p d e k)) said

message_more : (log : List Entry) (x : Entry) (p : ProcName) (d : TargetName) (e k : ℕ) → message_of (log ++ x ∷ []) p d e k ≡ or_else (message_of log p d e k) (said_as p d e k x)
message_more log x p d e k = first_both (said_as p d e k) log (x ∷ []) ∙ ap (or_else (message_of log p d e k)) (or_none (said_as p d e k x))

process_same : (p : ProcName) → same_process p p ≡ true
process_same p = ap (λ b. b && p.counter == p.counter) (bytes_same p.node) ∙ number_same p.counter

pub process_is : (p q : ProcName) → same_process p q ≡ true → p ≡ q
process_is p q h =
    let parts = and_parts (bytes_eq p.node q.node) (p.counter == q.counter) h in
    ap (λ (z : List ℕ). record p { node = z }) ((bytes_eq-Decides p.node q.node).0 parts.0) ∙ ap (λ (z : ℕ). record q { counter = z }) (number_is p.counter q.counter parts.1)

pub both_true : (a b : Bool) → a ≡ true → b ≡ true → (a && b) ≡ true
both_true true b h g = g
both_true false b h g = h

-- a message of a pair and epoch has an index below the next one
abbrev IsBelow : List Entry → ProcName → TargetName → ℕ → ℕ → Type 0
IsBelow log p d e k = (message : Message) → message_of log p d e k ≡ Some message → k < index_of log p d e

module _ (p q : ProcName) (e k : ℕ) where
  -- by one entry more
  below_more : (log : List Entry) (x : Entry) → has_next_index log x ≡ true → IsBelow log p (targets.Process q) e k → IsBelow (log ++ x ∷ []) p (targets.Process q) e k
  below_more log x next below message said = by_old (message_of log p (targets.Process q) e k) refl where
    grown : (b : Bool) → says_in p (targets.Process q) e x ≡ b → k < index_of log p (targets.Process q) e → k < index_of (log ++ x ∷ []) p (targets.Process q) e
    grown true h less = subst (λ (n : ℕ). k < n) (sym (count_next (says_in p (targets.Process q) e) log x h)) (up k (index_of log p (targets.Process q) e) less) where
      up : (i j : ℕ) → i < j → i < j + 1
      up i j h = omega arith
    grown false h less = subst (λ (n : ℕ). k < n) (sym (count_same (says_in p (targets.Process q) e) log x h)) less

    now : (x : Entry) → has_next_index log x ≡ true → said_as p (targets.Process q) e k x ≡ Some message → k < index_of (log ++ x ∷ []) p (targets.Process q) e
    now (entries.Said by (targets.Process to) epoch index mark body) next said = by_test (says_it p (targets.Process q) e k (entries.Said by (targets.Process to) epoch index mark body)) refl said where
      least : (n : ℕ) → n < n + 1
      least n = omega arith

      by_test : (b : Bool) → says_it p (targets.Process q) e k (entries.Said by (targets.Process to) epoch index mark body) ≡ b → cond b (Some (record { mark = mark; body = body })) None ≡ Some message
          → k < index_of (log ++ entries.Said by (targets.Process to) epoch index mark body ∷ []) p (targets.Process q) e
      by_test false h is = absurd cc
      by_test true h is =
          let one = and_parts (same_process by p && same_process to q && epoch == e) (index == k) h in
          let two = and_parts (same_process by p && same_process to q) (epoch == e) one.0 in
          let three = and_parts (same_process by p) (same_process to q) two.0 in
          let at : index ≡ index_of log p (targets.Process q) e =
          number_is index (index_of log by (targets.Process to) epoch) next ∙ ap (λ (n : ProcName). index_of log n (targets.Process to) epoch) (process_is by p three.0)
          ∙ ap (λ (n : ProcName). index_of log p (targets.Process n) epoch) (process_is to q three.1) ∙ ap (index_of log p (targets.Process q)) (number_is epoch e two.1) in
          subst (λ (n : ℕ). n < index_of (log ++ entries.Said by (targets.Process to) epoch index mark body ∷ []) p (targets.Process q) e) (sym at ∙ number_is index k one.1)
          (subst (λ (n : ℕ). index_of log p (targets.Process q) e < n) (sym (count_next (says_in p (targets.Process q) e) log (entries.Said by (targets.Process to) epoch index mark body) one.0)) (least (index_of log p (targets.Process q) e)))
    now (entries.Said by (targets.Port process port) epoch index mark body) next said = absurd (never_port (same_process by p) said) where
      never_port : (b : Bool) → cond (((b && false) && epoch == e) && index == k) (Some (record { mark = mark; body = body })) None ≡ Some message → ⊥
      never_port true h = absurd cc
      never_port false h = absurd cc
    now (entries.Said by (targets.Named node name) epoch index mark body) next said = absurd (never_name (same_process by p) said) where
      never_name : (b : Bool) → cond (((b && false) && epoch == e) && index == k) (Some (record { mark = mark; body = body })) None ≡ Some message → ⊥
      never_name true h = absurd cc
      never_name false h = absurd cc
    now x next said = absurd cc

    by_old : (o : Option Message) → message_of log p (targets.Process q) e k ≡ o → k < index_of (log ++ x ∷ []) p (targets.Process q) e
    by_old (Some old) is = grown (says_in p (targets.Process q) e x) refl (below old is)
    by_old None is = now x next (ap (λ (o : Option Message). or_else o (said_as p (targets.Process q) e k x)) (sym is) ∙ sym (message_more log x p (targets.Process q) e k) ∙ said)

  all_below : (before rest : List Entry) → each_after has_next_index before rest ≡ true → IsBelow before p (targets.Process q) e k → IsBelow (before ++ rest) p (targets.Process q) e k
  all_below before [] each below = subst (λ (l : List Entry). IsBelow l p (targets.Process q) e k) (sym (append-nil before)) below
  all_below before (x ∷ rest) each below =
      let parts = and_parts (has_next_index before x) (each_after has_next_index (before ++ x ∷ []) rest) each in
      subst (λ (l : List Entry). IsBelow l p (targets.Process q) e k) (append_assoc before (x ∷ []) rest) (all_below (before ++ x ∷ []) rest parts.1 (below_more before x parts.0 below))

-- a message that has its epoch's next index is the one of that index
pub said_alone : (log : List Entry) (p q : ProcName) (e k : ℕ) (message : Message) → each_after has_next_index [] log ≡ true → has_next_index log (entries.Said p (targets.Process q) e k message.mark message.body) ≡ true
    → message_of (log ++ entries.Said p (targets.Process q) e k message.mark message.body ∷ []) p (targets.Process q) e k ≡ Some message
said_alone log p q e k message each next = by_old (message_of log p (targets.Process q) e k) refl where
  said : Entry
  said = entries.Said p (targets.Process q) e k message.mark message.body

  itself : said_as p (targets.Process q) e k (entries.Said p (targets.Process q) e k message.mark message.body) ≡ Some message
  itself = ap (λ b. cond b (Some message) None) (both_true (same_process p p && same_process q q && e == e) (k == k) (both_true (same_process p p && same_process q q) (e == e) (both_true (same_process p p) (same_process q q) (process_same p) (process_same q)) (number_same e)) (number_same k))

  not_below : (i j : ℕ) → i ≡ j → i < j → ⊥
  not_below i j e h = omega arith

  by_old : (o : Option Message) → message_of log p (targets.Process q) e k ≡ o → message_of (log ++ entries.Said p (targets.Process q) e k message.mark message.body ∷ []) p (targets.Process q) e k ≡ Some message
  by_old None is = message_more log said p (targets.Process q) e k ∙ ap (λ (o : Option Message). or_else o (said_as p (targets.Process q) e k said)) is ∙ itself
  by_old (Some old) is = absurd (not_below k (index_of log p (targets.Process q) e) (number_is k (index_of log p (targets.Process q) e) next) (all_below p q e k [] log each (λ m none. absurd (nothing_said m none)) old is)) where
    nothing_said : (m : Message) → ◌≡◌ {A = Option Message} None (Some m) → ⊥
    nothing_said m e = absurd cc

-- ---- what has entered

abbrev found_bodies : List ℕ → Option Message → List (List ℕ)
found_bodies word None = []
found_bodies word (Some m) = cons_option (body_of word m) []

collected_from : {B : Type 0} (look : List Entry → Entry → Option B) (before : List Entry) (kept : List B) (log : List Entry) (x : Entry) → collected_after never look before kept (log ++ x ∷ []) ≡ kept_with (look (before ++ log) x) (collected_after never look before kept log)
collected_from look before kept [] x = ap (λ (l : List Entry). kept_with (look l x) kept) (sym (append-nil before))
collected_from look before kept (y ∷ log) x = collected_from look (before ++ y ∷ []) (kept_with (look before y) kept) log x ∙ ap (λ (l : List Entry). kept_with (look l x) (collected_after never look (before ++ y ∷ []) (kept_with (look before y) kept) log)) (append_assoc before (y ∷ []) log)

bodies_kept : (word : List ℕ) (o : Option Message) (kept : List Message) → filter_map (body_of word) (kept_with o kept) ≡ filter_map (body_of word) kept ++ found_bodies word o
bodies_kept word None kept = sym (append-nil (filter_map (body_of word) kept))
bodies_kept word (Some m) kept = filter_map-append (body_of word) kept (m ∷ [])

entered_more : (journal : List Line) (log : List Entry) (x : Entry) (p : ProcName) (word : List ℕ) → entered journal (log ++ x ∷ []) p word ≡ entered journal log p word ++ found_bodies word (entering journal p log x)
entered_more journal log x p word = ap (filter_map (body_of word)) (collected_from (entering journal p) [] [] log x) ∙ bodies_kept word (entering journal p log x) (collected never (entering journal p) log)

-- ---- one entry more

module _ (journal : List Line) (log : List Entry) (x : Entry) (p : ProcName) where
  -- nothing enters, and nothing is taken
  stands_still : (word : List ℕ) (messages : List Message) → entering journal p log x ≡ None → takes_marked p word x ≡ false → MarkStands journal log p word messages → MarkStands journal (log ++ x ∷ []) p word messages
  stands_still word messages none untaken m = record {
    within = subst (λ (n : ℕ). n ≤ length (entered journal (log ++ x ∷ []) p word)) (sym taken) (subst (λ (l : List (List ℕ)). count_by (takes_marked p word) log ≤ length l) (sym same) m.within);
    left = m.left ∙ ap (drop (count_by (takes_marked p word) log)) (sym same) ∙ ap (λ (n : ℕ). drop n (entered journal (log ++ x ∷ []) p word)) (sym taken);
  } where
    same : entered journal (log ++ x ∷ []) p word ≡ entered journal log p word
    same = entered_more journal log x p word ∙ ap (λ (o : Option Message). entered journal log p word ++ found_bodies word o) none ∙ append-nil (entered journal log p word)

    taken : count_by (takes_marked p word) (log ++ x ∷ []) ≡ count_by (takes_marked p word) log
    taken = count_same (takes_marked p word) log x untaken

  -- a message enters
  enters : (word : List ℕ) (messages : List Message) (message : Message) → entering journal p log x ≡ Some message → takes_marked p word x ≡ false → MarkStands journal log p word messages → MarkStands journal (log ++ x ∷ []) p word (messages ++ message ∷ [])
  enters word messages message comes untaken m = record {
    within = subst (λ (n : ℕ). n ≤ length (entered journal (log ++ x ∷ []) p word)) (sym taken) (subst (λ (l : List (List ℕ)). n ≤ length l) (sym more) (longer (entered journal log p word) (found_bodies word (Some message)) n m.within));
    left = filter_map-append (body_of word) messages (message ∷ []) ∙ ap (λ (l : List (List ℕ)). l ++ found_bodies word (Some message)) m.left ∙ sym (drop-append-le n (entered journal log p word) (found_bodies word (Some message)) m.within)
        ∙ ap (drop n) (sym more) ∙ ap (λ (i : ℕ). drop i (entered journal (log ++ x ∷ []) p word)) (sym taken);
  } where
    n : ℕ
    n = count_by (takes_marked p word) log

    more : entered journal (log ++ x ∷ []) p word ≡ entered journal log p word ++ found_bodies word (Some message)
    more = entered_more journal log x p word ∙ ap (λ (o : Option Message). entered journal log p word ++ found_bodies word o) comes

    taken : count_by (takes_marked p word) (log ++ x ∷ []) ≡ count_by (takes_marked p word) log
    taken = count_same (takes_marked p word) log x untaken

    longer : {A : Type 0} (xs ys : List A) (i : ℕ) → i ≤ length xs → i ≤ length (xs ++ ys)
    longer xs ys i h = subst (λ (j : ℕ). i ≤ j) (sym (length-append xs ys)) (wide i (length xs) (length ys) h) where
      wide : (i j k : ℕ) → i ≤ j → i ≤ j + k
      wide i j k h = omega arith

  -- the first of the mark is taken
  leaves : (word : List ℕ) (messages rest : List Message) (body : List ℕ) → entering journal p log x ≡ None → takes_marked p word x ≡ true → filter_map (body_of word) messages ≡ body ∷ filter_map (body_of word) rest → MarkStands journal log p word messages → MarkStands journal (log ++ x ∷ []) p word rest
  leaves word messages rest body none takes first m = record {
    within = subst (λ (n : ℕ). n ≤ length (entered journal (log ++ x ∷ []) p word)) (sym taken) (subst (λ (l : List (List ℕ)). count_by (takes_marked p word) log + 1 ≤ length l) (sym same) below.2);
    left = sym below.1 ∙ ap (drop (count_by (takes_marked p word) log + 1)) (sym same) ∙ ap (λ (n : ℕ). drop n (entered journal (log ++ x ∷ []) p word)) (sym taken);
  } where
    same : entered journal (log ++ x ∷ []) p word ≡ entered journal log p word
    same = entered_more journal log x p word ∙ ap (λ (o : Option Message). entered journal log p word ++ found_bodies word o) none ∙ append-nil (entered journal log p word)

    taken : count_by (takes_marked p word) (log ++ x ∷ []) ≡ count_by (takes_marked p word) log + 1
    taken = count_next (takes_marked p word) log x takes

    below : (slice_get (entered journal log p word) (count_by (takes_marked p word) log) ≡ Some body) × (drop (count_by (takes_marked p word) log + 1) (entered journal log p word) ≡ filter_map (body_of word) rest) × (count_by (takes_marked p word) log + 1 ≤ length (entered journal log p word))
    below = none_below (entered journal log p word) (count_by (takes_marked p word) log) body (filter_map (body_of word) rest) (sym m.left ∙ first)

-- ---- entries that touch no mailbox

abbrev pub is_silent : Entry → Bool
is_silent (entries.Got by to epoch index receiver) = false
is_silent (entries.Took by port mark body) = false
is_silent (entries.Told watch reason) = false
is_silent (entries.Spawned question process) = false
is_silent (entries.Isat question found) = false
is_silent entry = true

abbrev pub AreSilent : List Entry → Type 0
AreSilent [] = Unit {0}
AreSilent (entry ∷ rest) = (is_silent entry ≡ true) × AreSilent rest

pub silent_both : (xs ys : List Entry) → AreSilent xs → AreSilent ys → AreSilent (xs ++ ys)
silent_both [] ys a b = b
silent_both (x ∷ xs) ys a b = (a.0, silent_both xs ys a.1 b)

silent_one : (journal : List Line) (log : List Entry) (x : Entry) (p : ProcName) (messages : List Message) → is_silent x ≡ true → MailStands journal log p messages → MailStands journal (log ++ x ∷ []) p messages
silent_one journal log x p messages s m = λ word. stands_still journal log x p word messages (enters_none x s) (takes_none word x s) (m word) where
  enters_none : (x : Entry) → is_silent x ≡ true → entering journal p log x ≡ None
  enters_none (entries.Got by to epoch index receiver) s = absurd cc
  enters_none (entries.Told watch reason) s = absurd cc
  enters_none (entries.Spawned question process) s = absurd cc
  enters_none (entries.Isat question found) s = absurd cc
  enters_none x s = refl

  takes_none : (word : List ℕ) (x : Entry) → is_silent x ≡ true → takes_marked p word x ≡ false
  takes_none word (entries.Took by port mark body) s = absurd cc
  takes_none word x s = refl

pub silent_all : (journal : List Line) (log more : List Entry) (p : ProcName) (messages : List Message) → AreSilent more → MailStands journal log p messages → MailStands journal (log ++ more) p messages
silent_all journal log [] p messages s m = subst (λ (l : List Entry). MailStands journal l p messages) (sym (append-nil log)) m
silent_all journal log (x ∷ more) p messages s m = subst (λ (l : List Entry). MailStands journal l p messages) (append_assoc log (x ∷ []) more) (silent_all journal (log ++ x ∷ []) more p messages s.1 (silent_one journal log x p messages s.0 m))

pub silent_tests : (journal : List Line) (log more : List Entry) → AreSilent more → each_after (takes_the_first journal) log more ≡ true
silent_tests journal log [] s = refl
silent_tests journal log (x ∷ more) s = both_true (takes_the_first journal log x) (each_after (takes_the_first journal) (log ++ x ∷ []) more) (one x s.0) (silent_tests journal (log ++ x ∷ []) more s.1) where
  one : (x : Entry) → is_silent x ≡ true → takes_the_first journal log x ≡ true
  one (entries.Took by port mark body) s = absurd cc
  one x s = refl

-- ---- a message is got

-- who got it has it last
pub got_here : (journal : List Line) (log : List Entry) (by q p : ProcName) (epoch index : ℕ) (message : Message) (messages : List Message) → message_of log by (targets.Process q) epoch index ≡ Some message
    → MailStands journal log p messages → MailStands journal (log ++ entries.Got by (targets.Process q) epoch index (Some p) ∷ []) p (messages ++ message ∷ [])
got_here journal log by q p epoch index message messages said m = λ word. enters journal log (entries.Got by (targets.Process q) epoch index (Some p)) p word messages message (ap (λ b. cond b (message_of log by (targets.Process q) epoch index) None) (process_same p) ∙ said) refl (m word)

-- nobody else has
pub got_elsewhere : (journal : List Line) (log : List Entry) (by q r p : ProcName) (epoch index : ℕ) (messages : List Message) → same_process r p ≡ false
    → MailStands journal log p messages → MailStands journal (log ++ entries.Got by (targets.Process q) epoch index (Some r) ∷ []) p messages
got_elsewhere journal log by q r p epoch index messages other m = λ word. stands_still journal log (entries.Got by (targets.Process q) epoch index (Some r)) p word messages (ap (λ b. cond b (message_of log by (targets.Process q) epoch index) None) other) refl (m word)

-- ---- a message is taken

differ : (xs ys : List ℕ) → bytes_eq xs ys ≡ false → bytes_eq ys xs ≡ false
differ xs ys h = by_test (bytes_eq ys xs) refl where
  by_test : (b : Bool) → bytes_eq ys xs ≡ b → b ≡ false
  by_test false e = refl
  by_test true e =
      let is : bytes_eq xs ys ≡ true = (bytes_eq-Decides xs ys).1 (sym ((bytes_eq-Decides ys xs).0 e)) in
      let clash : true ≡ false = sym is ∙ h in absurd cc

pub took_here : (journal : List Line) (log : List Entry) (p : ProcName) (messages rest : List Message) (message : Message) → IsTaken message.mark messages message rest
    → MailStands journal log p messages → MailStands journal (log ++ entries.Took p None message.mark message.body ∷ []) p rest
took_here journal log p messages rest message t m = λ word. by_test word (bytes_eq message.mark word) refl where
  took : Entry
  took = entries.Took p None message.mark message.body

  by_test : (word : List ℕ) (b : Bool) → bytes_eq message.mark word ≡ b → MarkStands journal (log ++ entries.Took p None message.mark message.body ∷ []) p word rest
  by_test word true h = leaves journal log took p word messages rest message.body refl (both_true (same_process p p) (bytes_eq message.mark word) (process_same p) h)
      (subst (λ (w : List ℕ). filter_map (body_of w) messages ≡ message.body ∷ filter_map (body_of w) rest) ((bytes_eq-Decides message.mark word).0 h) (sym (bodies_are message.mark messages) ∙ t.first ∙ ap (λ (l : List (List ℕ)). message.body ∷ l) (bodies_are message.mark rest))) (m word)
  by_test word false h = same (stands_still journal log took p word messages refl (ap (λ b. same_process p p && b) h ∙ never_both (same_process p p)) (m word)) where
    never_both : (b : Bool) → (b && false) ≡ false
    never_both true = refl
    never_both false = refl

    same : MarkStands journal (log ++ entries.Took p None message.mark message.body ∷ []) p word messages → MarkStands journal (log ++ entries.Took p None message.mark message.body ∷ []) p word rest
    same s = record { within = s.within; left = sym (bodies_are word rest) ∙ sym (t.others word (differ message.mark word h)) ∙ bodies_are word messages ∙ s.left }

pub took_elsewhere : (journal : List Line) (log : List Entry) (r p : ProcName) (mark body : List ℕ) (messages : List Message) → same_process r p ≡ false → MailStands journal log p messages → MailStands journal (log ++ entries.Took r None mark body ∷ []) p messages
took_elsewhere journal log r p mark body messages other m = λ word. stands_still journal log (entries.Took r None mark body) p word messages refl (ap (λ b. b && bytes_eq mark word) other) (m word)

-- and it is the first that is left
pub took_first : (journal : List Line) (log : List Entry) (p : ProcName) (messages rest : List Message) (message : Message) → IsTaken message.mark messages message rest → MailStands journal log p messages → takes_the_first journal log (entries.Took p None message.mark message.body) ≡ true
took_first journal log p messages rest message t m = ap (some_and (bytes_eq message.body)) below.0 ∙ bytes_same message.body where
  below : (slice_get (entered journal log p message.mark) (count_by (takes_marked p message.mark) log) ≡ Some message.body) × (drop (count_by (takes_marked p message.mark) log + 1) (entered journal log p message.mark) ≡ filter_map (body_of message.mark) rest) × (count_by (takes_marked p message.mark) log + 1 ≤ length (entered journal log p message.mark))
  below = none_below (entered journal log p message.mark) (count_by (takes_marked p message.mark) log) message.body (filter_map (body_of message.mark) rest)
      (sym (m message.mark).left ∙ sym (bodies_are message.mark messages) ∙ t.first ∙ ap (λ (l : List (List ℕ)). message.body ∷ l) (bodies_are message.mark rest))
