-- What one more entry adds to each count of a log, and the same of lists.
use Rattle.std.specs.Prelude.{◌≡◌, ℕ, zero, suc, ◌+◌, Bool, true, false, cond, ◌&&◌, ◌||◌, List, [], ◌∷◌, ◌++◌, length, count_by, Option, Some, None, ◌==◌, slice_get, slice_set, if◌then◌else◌}
use Rattle.std.specs.List.{list_any, fold}
use Rattle.std.specs.Str.{bytes_eq}
use Rattle.std.proofs.Common.{refl, ap, sym, ◌∙◌, subst, append_assoc, arith}
use Rattle.std.proofs.lemmas.List.{append-nil}
use Rattle.std.proofs.lemmas.List.Folds.{list_any-append}
use Rattle.std.proofs.lemmas.Bool.{eq-eqb, ne_eqb}
use Rattle.std.proofs.lemmas.Bool.Decides.{nat_tests}
use Rattle.std.proofs.lemmas.Slice.Eq.{bytes_eq-Decides}
use Rattle.ch_ident.specs.declared.message.Message.{Message}
use Rattle.ch_mail.specs.Queue.{first_that, after_passing}
use Rattle.ch_model.specs.declared.name.ProcName.{ProcName}
use Rattle.ch_model.specs.declared.entry.Entry.{Entry}
use Rattle.ch_laws_one_node.specs.Counts.{same_process}
use Rattle.ch_laws_one_node.specs.Delivery.{last_is}
use Rattle.ch_laws_one_node.specs.Mailboxes.{said_by, first_some, message_of, body_of_mark, entering, entered_after, entered}
use Rattle.ch_laws_one_node.specs.Lawful.{AreLawfulAfter}

-- ---- tests and counts

or_none : (b : Bool) → (b || false) ≡ b
or_none true = refl
or_none false = refl

or_always : (b : Bool) → (b || true) ≡ true
or_always true = refl
or_always false = refl

pub any_more : {X : Type 0} (p : X → Bool) (xs : List X) (x : X) → list_any p (xs ++ x ∷ []) ≡ (list_any p xs || p x)
any_more p xs x = list_any-append p xs (x ∷ []) ∙ ap (λ b. list_any p xs || b) (or_none (p x))

pub any_same : {X : Type 0} (p : X → Bool) (xs : List X) (x : X) → p x ≡ false → list_any p (xs ++ x ∷ []) ≡ list_any p xs
any_same p xs x h = any_more p xs x ∙ ap (λ b. list_any p xs || b) h ∙ or_none (list_any p xs)

pub any_now : {X : Type 0} (p : X → Bool) (xs : List X) (x : X) → p x ≡ true → list_any p (xs ++ x ∷ []) ≡ true
any_now p xs x h = any_more p xs x ∙ ap (λ b. list_any p xs || b) h ∙ or_always (list_any p xs)

fold_more : {A B : Type 0} (f : B → A → B) (a : B) (xs : List A) (x : A) → fold f a (xs ++ x ∷ []) ≡ f (fold f a xs) x
fold_more f a [] x = refl
fold_more f a (y ∷ ys) x = fold_more f (f a y) ys x

count_more : {X : Type 0} (p : X → Bool) (xs : List X) (x : X) → count_by p (xs ++ x ∷ []) ≡ count_by p xs + cond (p x) 1 0
count_more p xs x = fold_more (λ a y. a + cond (p y) 1 0) 0 xs x

pub count_same : {X : Type 0} (p : X → Bool) (xs : List X) (x : X) → p x ≡ false → count_by p (xs ++ x ∷ []) ≡ count_by p xs
count_same p xs x h = count_more p xs x ∙ ap (λ b. count_by p xs + cond b 1 0) h ∙ none (count_by p xs) where
  none : (n : ℕ) → n + 0 ≡ n
  none n = omega arith

pub count_next : {X : Type 0} (p : X → Bool) (xs : List X) (x : X) → p x ≡ true → count_by p (xs ++ x ∷ []) ≡ count_by p xs + 1
count_next p xs x h = count_more p xs x ∙ ap (λ b. count_by p xs + cond b 1 0) h

pub last_now : (p : Entry → Bool) (xs : List Entry) (x : Entry) → p x ≡ true → last_is p (xs ++ x ∷ []) ≡ true
last_now p [] x h = h
last_now p (y ∷ []) x h = h
last_now p (y ∷ z ∷ xs) x h = last_now p (z ∷ xs) x h

-- ---- names of processes of one node

-- the name of a process of this node
abbrev pub at : List ℕ → ℕ → ProcName
at node counter = record { node = node; counter = counter }

pub equal_bytes : (xs : List ℕ) → bytes_eq xs xs ≡ true
equal_bytes xs = (bytes_eq-Decides xs xs).1 refl

pub equal_numbers : (i : ℕ) → (i == i) ≡ true
equal_numbers i = eq-eqb i i refl

pub same_at : (node : List ℕ) (i j : ℕ) → same_process (at node i) (at node j) ≡ (i == j)
same_at node i j = ap (λ b. b && (i == j)) (equal_bytes node)

pub same_self : (node : List ℕ) (i : ℕ) → same_process (at node i) (at node i) ≡ true
same_self node i = same_at node i i ∙ equal_numbers i

pub apart : (node : List ℕ) (i j : ℕ) → (i == j) ≡ false → same_process (at node i) (at node j) ≡ false
apart node i j h = same_at node i j ∙ h

-- ---- messages that were said, and mailboxes

first_of_three : {A : Type 0} (x y z : Option A) → first_some x (first_some y z) ≡ first_some (first_some x y) z
first_of_three None y z = refl
first_of_three (Some x) y z = refl

first_or_none : {A : Type 0} (x : Option A) → first_some x None ≡ x
first_or_none None = refl
first_or_none (Some x) = refl

pub message_more : (log : List Entry) (x : Entry) (p q : ProcName) (e k : ℕ) → message_of (log ++ x ∷ []) p q e k ≡ first_some (message_of log p q e k) (said_by p q e k x)
message_more [] x p q e k = first_or_none (said_by p q e k x)
message_more (y ∷ log) x p q e k = ap (first_some (said_by p q e k y)) (message_more log x p q e k) ∙ first_of_three (said_by p q e k y) (message_of log p q e k) (said_by p q e k x)

entered_from : (before log : List Entry) (x : Entry) (p : ProcName) (word : List ℕ) → entered_after before p word (log ++ x ∷ []) ≡ entered_after before p word log ++ entering (before ++ log) p word x
entered_from before [] x p word = append-nil (entering before p word x) ∙ ap (λ l. entering l p word x) (sym (append-nil before))
entered_from before (y ∷ log) x p word = ap (λ l. entering before p word y ++ l) (entered_from (before ++ y ∷ []) log x p word)
    ∙ sym (append_assoc (entering before p word y) (entered_after (before ++ y ∷ []) p word log) (entering ((before ++ y ∷ []) ++ log) p word x))
    ∙ ap (λ l. (entering before p word y ++ entered_after (before ++ y ∷ []) p word log) ++ entering l p word x) (append_assoc before (y ∷ []) log)

pub entered_more : (log : List Entry) (x : Entry) (p : ProcName) (word : List ℕ) → entered (log ++ x ∷ []) p word ≡ entered log p word ++ entering log p word x
entered_more log x p word = entered_from [] log x p word

-- the bodies of a mark among some messages
abbrev pub bodies : List ℕ → List Message → List (List ℕ)
bodies word [] = []
bodies word (message ∷ messages) = body_of_mark word (Some message) ++ bodies word messages

pub bodies_more : (word : List ℕ) (messages : List Message) (message : Message) → bodies word (messages ++ message ∷ []) ≡ bodies word messages ++ body_of_mark word (Some message)
bodies_more word [] message = append-nil (body_of_mark word (Some message))
bodies_more word (m ∷ messages) message = ap (λ l. body_of_mark word (Some m) ++ l) (bodies_more word messages message)
    ∙ sym (append_assoc (body_of_mark word (Some m)) (bodies word messages) (body_of_mark word (Some message)))

-- ---- the first message of a mark

pub record IsTaken (mark : List ℕ) (messages : List Message) (message : Message) (rest : List Message) : Type 0 where
  pub of_mark : message.mark ≡ mark
  pub first : bodies mark messages ≡ message.body ∷ bodies mark rest
  pub others : (word : List ℕ) → bytes_eq word mark ≡ false → bodies word messages ≡ bodies word rest

abbrev pub HasTaken : List ℕ → List Message → Option (Message × List Message) → Type 0
HasTaken mark messages None = bodies mark messages ≡ []
HasTaken mark messages (Some taken) = IsTaken mark messages taken.0 taken.1

of_other_mark : (word : List ℕ) (message : Message) → bytes_eq message.mark word ≡ false → body_of_mark word (Some message) ≡ []
of_other_mark word message h = ap (λ b. if b then message.body ∷ [] else []) h

of_this_mark : (word : List ℕ) (message : Message) → bytes_eq message.mark word ≡ true → body_of_mark word (Some message) ≡ message.body ∷ []
of_this_mark word message h = ap (λ b. if b then message.body ∷ [] else []) h

differ : (xs ys : List ℕ) → bytes_eq xs ys ≡ false → bytes_eq ys xs ≡ false
differ xs ys h = by_test (bytes_eq ys xs) refl where
  by_test : (b : Bool) → bytes_eq ys xs ≡ b → b ≡ false
  by_test false e = refl
  by_test true e = let eq : ys ≡ xs = (bytes_eq-Decides ys xs).0 e in
      let is : bytes_eq xs ys ≡ true = (bytes_eq-Decides xs ys).1 (sym eq) in cc

pub has_taken : (mark : List ℕ) (messages : List Message) → HasTaken mark messages (first_that (λ message. bytes_eq message.mark mark) messages)
has_taken mark [] = refl
has_taken mark (m ∷ messages) = by_test (bytes_eq m.mark mark) refl (first_that (λ message. bytes_eq message.mark mark) messages) (has_taken mark messages) where
  later : bytes_eq m.mark mark ≡ false → (found : Option (Message × List Message)) → HasTaken mark messages found → HasTaken mark (m ∷ messages) (after_passing m found)
  later h None none = ap (λ l. l ++ bodies mark messages) (of_other_mark mark m h) ∙ none
  later h (Some taken) is = record {
    of_mark = is.of_mark;
    first = ap (λ l. l ++ bodies mark messages) (of_other_mark mark m h) ∙ is.first ∙ ap (λ l. taken.0.body ∷ (l ++ bodies mark taken.1)) (sym (of_other_mark mark m h));
    others = λ word apart. ap (λ l. body_of_mark word (Some m) ++ l) (is.others word apart);
  }

  by_test : (b : Bool) → bytes_eq m.mark mark ≡ b → (found : Option (Message × List Message)) → HasTaken mark messages found → HasTaken mark (m ∷ messages) (if b then Some (m, messages) else after_passing m found)
  by_test true h found is =
      let same : m.mark ≡ mark = (bytes_eq-Decides m.mark mark).0 h in
      record {
        of_mark = same;
        first = ap (λ l. l ++ bodies mark messages) (of_this_mark mark m h);
        others = λ word apart. ap (λ l. l ++ bodies word messages) (of_other_mark word m (subst (λ n. bytes_eq n word ≡ false) (sym same) (differ word mark apart)));
      }
  by_test false h found is = later h found is

-- ---- places of a list

next_apart : (i : ℕ) → (suc i == 0) ≡ false
next_apart i = ne_eqb (suc i) 0 (λ h. omega arith)

first_apart : (i : ℕ) → (0 == suc i) ≡ false
first_apart i = ne_eqb 0 (suc i) (λ h. omega arith)

next_same : (i k : ℕ) → (suc i == suc k) ≡ (i == k)
next_same i k = grind (arith, nat_tests)

pub place_more : {X : Type 0} (xs : List X) (x : X) (i : ℕ) → slice_get (xs ++ x ∷ []) i ≡ cond (i == length xs) (Some x) (slice_get xs i)
place_more [] x zero = refl
place_more [] x (suc i) = ap (λ b. cond b (Some x) None) (sym (next_apart i))
place_more (y ∷ xs) x zero = ap (λ b. cond b (Some x) (Some y)) (sym (first_apart (length xs)))
place_more (y ∷ xs) x (suc i) = place_more xs x i ∙ ap (λ b. cond b (Some x) (slice_get xs i)) (sym (next_same i (length xs)))

pub place_set : {X : Type 0} (xs : List X) (k : ℕ) (x y : X) (i : ℕ) → slice_get xs k ≡ Some x → slice_get (slice_set xs k y) i ≡ cond (i == k) (Some y) (slice_get xs i)
place_set [] k x y i h = absurd (cc)
place_set (z ∷ xs) zero x y zero h = refl
place_set (z ∷ xs) zero x y (suc i) h = ap (λ b. cond b (Some y) (slice_get xs i)) (sym (next_apart i))
place_set (z ∷ xs) (suc k) x y zero h = ap (λ b. cond b (Some y) (Some z)) (sym (first_apart k))
place_set (z ∷ xs) (suc k) x y (suc i) h = place_set xs k x y i h ∙ ap (λ b. cond b (Some y) (slice_get xs i)) (sym (next_same i k))

pub length_set : {X : Type 0} (xs : List X) (k : ℕ) (y : X) → length (slice_set xs k y) ≡ length xs
length_set [] k y = refl
length_set (x ∷ xs) zero y = refl
length_set (x ∷ xs) (suc k) y = ap suc (length_set xs k y)

pub length_more : {X : Type 0} (xs : List X) (x : X) → length (xs ++ x ∷ []) ≡ length xs + 1
length_more [] x = refl
length_more (y ∷ xs) x = next (length xs) (length (xs ++ x ∷ [])) (length_more xs x) where
  next : (n m : ℕ) → m ≡ n + 1 → suc m ≡ suc n + 1
  next n m h = omega arith

pub first_left : {X : Type 0} (front : List X) (x : X) (rest : List X) → slice_get (front ++ x ∷ rest) (length front) ≡ Some x
first_left [] x rest = refl
first_left (y ∷ front) x rest = first_left front x rest

-- ---- entries after entries

pub lawful_append : (log xs ys : List Entry) → AreLawfulAfter log xs → AreLawfulAfter (log ++ xs) ys → AreLawfulAfter log (xs ++ ys)
lawful_append log [] ys a b = subst (λ l. AreLawfulAfter l ys) (append-nil log) b
lawful_append log (x ∷ xs) ys a b = (a.0, lawful_append (log ++ x ∷ []) xs ys a.1 (subst (λ l. AreLawfulAfter l ys) (sym (append_assoc log (x ∷ []) xs)) b))
