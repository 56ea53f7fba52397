-- Whether a pair has said something shows by its connection, and by its index in the log.
use Rattle.std.proofs.Common.{◌≡◌, ◌<◌, ◌^◌, ℕ, suc, ◌==◌, Bool, true, false, cond, not, ◌&&◌, ◌||◌, List, [], ◌∷◌, ◌++◌, length, Ok, refl, sym, ap, ◌∙◌, subst, arith, append_assoc}
use Rattle.std.proofs.lemmas.Bool.{and_parts, eqb-true}
use Rattle.std.proofs.lemmas.Bool.Decides.{nat_tests}
use Rattle.std.proofs.lemmas.List.{append-nil, append_cancel_left}
use Rattle.std.proofs.lemmas.List.Sums.{length-filter}
use Rattle.std.proofs.lemmas.Slice.Eq.{bytes_eq-Decides}
use Rattle.std.specs.List.{count_by, filter, filter_map, cons_option, list_all, list_any}
use Rattle.std.specs.Option.{option_map}
use Rattle.std.specs.Prelude.{find, Result, Option, Some, None}
use Rattle.std.specs.Str.{bytes_eq}
use Rattle.ch_base.specs.declared.address.Address.{Address}
use Rattle.ch_ident.specs.declared.identifier.Identifier.{Identifier}
use Rattle.ch_ident.specs.declared.identifier.Identifier.TheVariants as identifiers
use Rattle.ch_ident.specs.declared.identifier.ProcessId.{ProcessId}
use Rattle.ch_ident.specs.declared.node_message.NodeMessage.TheVariants.{Opening}
use Rattle.ch_ident.specs.Reading.{number_at}
use Rattle.ch_ident.specs.Spelling as spelling
use Rattle.ch_ident.specs.Spelling.{message}
use Rattle.ch_ident.proofs.Fields.{number_reads}
use Rattle.ch_model.specs.declared.entry.Entry.{Entry}
use Rattle.ch_model.specs.declared.entry.Entry.TheVariants as entries
use Rattle.ch_model.specs.declared.line.Line.{Line}
use Rattle.ch_model.specs.declared.name.ProcName.{ProcName}
use Rattle.ch_model.specs.declared.name.TargetName.TheVariants as names
use Rattle.ch_model.specs.AccountsFrames.{Saying, pair_opening}
use Rattle.ch_model.specs.AccountsItems.{first_payload}
use Rattle.ch_model.specs.Declarations.{Peer, peer}
use Rattle.ch_model.specs.Epochs.{says_in, epoch_of, index_of, is_said_in_epoch}
use Rattle.ch_model.specs.Logs.{some_and, each_after}
use Rattle.ch_model.specs.Same.{same_process, same_target}
use Rattle.ch_laws_plain_logs.specs.Plain.{is_plain, IsPlain, said_by}
use Rattle.ch_laws_plain_logs.proofs.Plain.{plain_more}
use Rattle.ch_laws_plain_logs.proofs.Absent.{first_epoch}
use Rattle.ch_laws_peers.specs.Words.{Word, datas_in, carried_after, opens_one, TrueWord, TrueWords}
use Rattle.ch_laws_peers.specs.Says.{has_said}
use Rattle.ch_laws_messages.specs.SendsSends.{SaysSmall}

-- ---- an opening tells the counters of its pair

numbers_same : (a b : ℕ) (r s : List ℕ) → a < 2 ^ 32 → b < 2 ^ 32 → spelling.number a ++ r ≡ spelling.number b ++ s → (a ≡ b) × (r ≡ s)
numbers_same a b r s m n e = given (sym (number_reads.again a r m) ∙ ap number_at e ∙ number_reads.again b s n) where
  given : {E : Type 0} → ◌≡◌ {A = Result (ℕ × List ℕ) E} (Ok (a, r)) (Ok (b, s)) → (a ≡ b) × (r ≡ s)
  given e = let both : ◌≡◌ {A = ℕ × List ℕ} (a, r) (b, s) = cc in (ap (λ (t : ℕ × List ℕ). t.0) both, ap (λ (t : ℕ × List ℕ). t.1) both)

abbrev process_at : Address → ℕ → ℕ → ProcessId
process_at node unique counter = record { node = node; unique = unique; counter = counter }

process_same : (node : Address) (unique a b : ℕ) (r s : List ℕ) → a < 2 ^ 32 → b < 2 ^ 32 → spelling.process (process_at node unique a) ++ r ≡ spelling.process (process_at node unique b) ++ s → (a ≡ b) × (r ≡ s)
process_same node unique a b r s m n e = numbers_same a b r s m n (append_cancel_left (spelling.number unique) (spelling.number a ++ r) (spelling.number b ++ s)
    (append_cancel_left (spelling.address node) (spelling.number unique ++ (spelling.number a ++ r)) (spelling.number unique ++ (spelling.number b ++ s)) (sym (grouped a r) ∙ e ∙ grouped b s))) where
      grouped : (c : ℕ) (t : List ℕ) → spelling.process (process_at node unique c) ++ t ≡ spelling.address node ++ (spelling.number unique ++ (spelling.number c ++ t))
      grouped c t = append_assoc (spelling.address node ++ spelling.number unique) (spelling.number c) t ∙ append_assoc (spelling.address node) (spelling.number unique) (spelling.number c ++ t)

abbrev opening_of : ProcessId → ProcessId → List ℕ
opening_of from to = message (Opening (identifiers.Process from) (identifiers.Process to))

openings_same : (from to : Address) (u v a b c d : ℕ) → a < 2 ^ 32 → b < 2 ^ 32 → c < 2 ^ 32 → d < 2 ^ 32 → opening_of (process_at from u a) (process_at to v c) ≡ opening_of (process_at from u b) (process_at to v d) → (a ≡ b) × (c ≡ d)
openings_same from to u v a b c d la lb lc ld e = (one.0, two.0) where
  inner : (x y : List ℕ) → ◌≡◌ {A = List ℕ} (0 ∷ 1 ∷ x) (0 ∷ 1 ∷ y) → x ≡ y
  inner x y e = cc

  tail : (x y : List ℕ) → ◌≡◌ {A = List ℕ} (1 ∷ x) (1 ∷ y) → x ≡ y
  tail x y e = cc

  one : (a ≡ b) × (1 ∷ spelling.process (process_at to v c) ≡ 1 ∷ spelling.process (process_at to v d))
  one = process_same from u a b (1 ∷ spelling.process (process_at to v c)) (1 ∷ spelling.process (process_at to v d)) la lb (inner _ _ e)

  two : (c ≡ d) × (◌≡◌ {A = List ℕ} [] [])
  two = process_same to v c d [] [] lc ld (append-nil (spelling.process (process_at to v c)) ∙ tail _ _ one.1 ∙ sym (append-nil (spelling.process (process_at to v d))))

abbrev as_process : Option Peer → ℕ → Option ProcessId
as_process o counter = option_map (λ (at : Peer). record { node = at.address; unique = at.unique; counter = counter }) o

abbrev as_opened : Option Peer → ℕ → Option Peer → ℕ → Option (List ℕ)
as_opened m a n c = elim (as_process m a) as (λ o. Option (List ℕ)) [
  | None ↦ None
  | Some from ↦ option_map (λ (to : Identifier). message (Opening (identifiers.Process from) to)) (option_map identifiers.Process (as_process n c))
]

-- two pairs between the same nodes have one opening only where they are one
pub same_pair : (journal : List Line) (p r q s : ProcName) (opening : List ℕ) → p.node ≡ r.node → q.node ≡ s.node → p.counter < 2 ^ 32 → r.counter < 2 ^ 32 → q.counter < 2 ^ 32 → s.counter < 2 ^ 32
    → pair_opening journal p (names.Process q) ≡ Some opening → pair_opening journal r (names.Process s) ≡ Some opening → (p ≡ r) × (q ≡ s)
same_pair journal p r q s opening f t lp lr lq ls one two = let both = by_peers (peer journal p.node) (peer journal q.node) one (ap (λ (n : List ℕ). as_opened (peer journal n) r.counter (peer journal q.node) s.counter) f
    ∙ ap (λ (n : List ℕ). as_opened (peer journal r.node) r.counter (peer journal n) s.counter) t ∙ two) in
    (ap (λ (n : List ℕ). record p { node = n }) f ∙ ap (λ (c : ℕ). record r { counter = c }) both.0, ap (λ (n : List ℕ). record q { node = n }) t ∙ ap (λ (c : ℕ). record s { counter = c }) both.1)
  where
    by_peers : (m n : Option Peer) → as_opened m p.counter n q.counter ≡ Some opening → as_opened m r.counter n s.counter ≡ Some opening → (p.counter ≡ r.counter) × (q.counter ≡ s.counter)
    by_peers None n one two = absurd cc
    by_peers (Some from) None one two = absurd cc
    by_peers (Some from) (Some to) one two = openings_same from.address to.address from.unique to.unique p.counter r.counter q.counter s.counter lp lr lq ls (given _ _ (one ∙ sym two)) where
      given : (x y : List ℕ) → ◌≡◌ {A = Option (List ℕ)} (Some x) (Some y) → x ≡ y
      given x y e = cc

-- ---- a first payload opens the connection of a pair that has said something

not_there : (id : ℕ) (datas : List (ℕ × List ℕ)) (d : ℕ × List ℕ) → first_payload id datas ≡ None → (d.0 == id) ≡ false → first_payload id (datas ++ d ∷ []) ≡ None
not_there id [] d e h = ap (λ (b : Bool). option_map (λ (d : ℕ × List ℕ). d.1) (cond b (Some d) None)) h
not_there id (one ∷ datas) d e h = by_test (one.0 == id) e (λ f. not_there id datas d f h) where
  by_test : (b : Bool) → option_map (λ (d : ℕ × List ℕ). d.1) (cond b (Some one) (find (λ (d : ℕ × List ℕ). d.0 == id) datas)) ≡ None → (first_payload id datas ≡ None → first_payload id (datas ++ d ∷ []) ≡ None)
      → option_map (λ (d : ℕ × List ℕ). d.1) (cond b (Some one) (find (λ (d : ℕ × List ℕ). d.0 == id) (datas ++ d ∷ []))) ≡ None
  by_test true e more = absurd cc
  by_test false e more = more e

pub first_opens : (journal : List Line) (said : List Saying) (before : List (ℕ × List ℕ)) (n : ℕ) (words : List Word) (end id : ℕ) (one : List ℕ) → TrueWords journal said before n words end → first_payload id before ≡ None → first_payload id (datas_in words) ≡ Some one → opens_one journal said one ≡ true
first_opens journal said before n [] end id one t none first = absurd cc
first_opens journal said before n (word ∷ rest) end id one t none first = by_test (word.0.0 == id) refl first (λ h f. first_opens journal said (before ++ word.0 ∷ []) (carried_after (first_payload word.0.0 before) n) rest end id one t.1 (not_there id before word.0 none h) f) where
  given : (x y : List ℕ) → ◌≡◌ {A = Option (List ℕ)} (Some x) (Some y) → x ≡ y
  given x y e = cc

  by_first : (o : Option (List ℕ)) → o ≡ None → TrueWord journal said n word o → opens_one journal said word.0.1 ≡ true
  by_first o is w = (subst (TrueWord journal said n word) is w).0

  by_test : (b : Bool) → (word.0.0 == id) ≡ b → option_map (λ (d : ℕ × List ℕ). d.1) (cond b (Some word.0) (find (λ (d : ℕ × List ℕ). d.0 == id) (datas_in rest))) ≡ Some one → ((word.0.0 == id) ≡ false → first_payload id (datas_in rest) ≡ Some one → opens_one journal said one ≡ true) → opens_one journal said one ≡ true
  by_test true h f more = subst (λ (l : List ℕ). opens_one journal said l ≡ true) (given word.0.1 one f) (by_first (first_payload word.0.0 before) (ap (λ (m : ℕ). first_payload m before) (eqb-true word.0.0 id h) ∙ none) t.0)
  by_test false h f more = more h f

module _ (journal : List Line) (x y : List ℕ) (p q : ProcName) (at_x : p.node ≡ x) (at_y : q.node ≡ y) where
  names_same : (a b : ProcName) → a ≡ b → same_process a b ≡ true
  names_same a b e = ap (λ (c : ProcName). same_process a c) (sym e) ∙ ap (λ (t : Bool). t && a.counter == a.counter) ((bytes_eq-Decides a.node a.node).1 refl) ∙ number_self a.counter where
    number_self : (n : ℕ) → (n == n) ≡ true
    number_self n = grind (arith, nat_tests)

  -- a pair whose opening opens the connection of one that has said something has said something
  pub opens_said : (opening : List ℕ) → pair_opening journal p (names.Process q) ≡ Some opening → p.counter < 2 ^ 32 → q.counter < 2 ^ 32 → (log : List Entry) → IsPlain log → SaysSmall log → opens_one journal (filter_map (said_by x y) log) opening ≡ true → has_said p q (filter_map (said_by x y) log) ≡ true
  opens_said opening is lp lq [] plain small e = absurd cc
  opens_said opening is lp lq (entries.Said by (names.Process to) epoch index mark body ∷ log) plain small e = by_test (bytes_eq by.node x && bytes_eq to.node y) refl e (opens_said opening is lp lq log plain small.1) where
    said : Saying
    said = record { by = by; to = names.Process to; epoch = epoch; index = index; mark = mark; body = body }

    rest : List Saying
    rest = filter_map (said_by x y) log

    found : (o : Option (List ℕ)) → some_and (bytes_eq opening) o ≡ true → o ≡ Some opening
    found None e = absurd cc
    found (Some one) e = ap Some (sym ((bytes_eq-Decides opening one).0 e))

    by_said : (b : Bool) → some_and (bytes_eq opening) (pair_opening journal by (names.Process to)) ≡ b → (bytes_eq by.node x && bytes_eq to.node y) ≡ true → (b || opens_one journal (filter_map (said_by x y) log) opening) ≡ true → (opens_one journal (filter_map (said_by x y) log) opening ≡ true → has_said p q (filter_map (said_by x y) log) ≡ true)
        → (same_process by p && same_process to q || has_said p q (filter_map (said_by x y) log)) ≡ true
    by_said true h ends e more =
        let at = and_parts (bytes_eq by.node x) (bytes_eq to.node y) ends in
        let same = same_pair journal by p to q opening ((bytes_eq-Decides by.node x).0 at.0 ∙ sym at_x) ((bytes_eq-Decides to.node y).0 at.1 ∙ sym at_y) small.0.0 lp small.0.1 lq (found (pair_opening journal by (names.Process to)) h) is in
        ap (λ (b : Bool). b && same_process to q || has_said p q (filter_map (said_by x y) log)) (names_same by p same.0) ∙ ap (λ (b : Bool). b || has_said p q (filter_map (said_by x y) log)) (names_same to q same.1)
    by_said false h ends e more = or_more (same_process by p && same_process to q) (has_said p q (filter_map (said_by x y) log)) (more e) where
      or_more : (a b : Bool) → b ≡ true → (a || b) ≡ true
      or_more true b h = refl
      or_more false b h = h

    by_test : (b : Bool) → (bytes_eq by.node x && bytes_eq to.node y) ≡ b → opens_one journal (cons_option (cond b (Some (record { by = by; to = names.Process to; epoch = epoch; index = index; mark = mark; body = body })) None) (filter_map (said_by x y) log)) opening ≡ true
        → (opens_one journal (filter_map (said_by x y) log) opening ≡ true → has_said p q (filter_map (said_by x y) log) ≡ true)
        → has_said p q (cons_option (cond b (Some (record { by = by; to = names.Process to; epoch = epoch; index = index; mark = mark; body = body })) None) (filter_map (said_by x y) log)) ≡ true
    by_test true h e more = by_said (some_and (bytes_eq opening) (pair_opening journal by (names.Process to))) refl h e more
    by_test false h e more = more e
  opens_said opening is lp lq (entries.Said by (names.Port to port) epoch index mark body ∷ log) plain small e = absurd cc
  opens_said opening is lp lq (entries.Said by (names.Named at name) epoch index mark body ∷ log) plain small e = absurd cc
  opens_said opening is lp lq (entry ∷ log) plain small e = opens_said opening is lp lq log (and_parts (is_plain entry) (list_all is_plain log) plain).1 small.1 e

  -- ---- its index tells whether a pair has said something

  says_so : (before : List Entry) (entry : Entry) → IsPlain before → is_plain entry ≡ true → is_said_in_epoch before entry ≡ true → some_and (λ (s : Saying). same_process s.by p && same_target s.to (names.Process q)) (said_by x y entry) ≡ says_in p (names.Process q) 0 entry
  says_so before (entries.Said by (names.Process to) epoch index mark body) b plain e = by_tests (bytes_eq by.node x && bytes_eq to.node y) (same_process by p && same_process to q) (epoch == 0) ends refl first where
    first : (epoch == 0) ≡ true
    first = ap (λ (n : ℕ). epoch == n) (sym (first_epoch before by to b)) ∙ e

    both : (a b : Bool) → a ≡ true → b ≡ true → (a && b) ≡ true
    both true b h g = g
    both false b h g = absurd cc

    ends : (same_process by p && same_process to q) ≡ true → (bytes_eq by.node x && bytes_eq to.node y) ≡ true
    ends h = let parts = and_parts (same_process by p) (same_process to q) h in
        both (bytes_eq by.node x) (bytes_eq to.node y) (ap (λ (n : List ℕ). bytes_eq by.node n) (sym at_x) ∙ (and_parts (bytes_eq by.node p.node) (by.counter == p.counter) parts.0).0) (ap (λ (n : List ℕ). bytes_eq to.node n) (sym at_y) ∙ (and_parts (bytes_eq to.node q.node) (to.counter == q.counter) parts.1).0)

    by_tests : (b t z : Bool) → (t ≡ true → b ≡ true) → (same_process by p && same_process to q) ≡ t → z ≡ true
        → some_and (λ (s : Saying). same_process s.by p && same_target s.to (names.Process q)) (cond b (Some (record { by = by; to = names.Process to; epoch = epoch; index = index; mark = mark; body = body })) None) ≡ (same_process by p && same_process to q && z)
    by_tests true t true f h g = sym (and_true (same_process by p && same_process to q)) where
      and_true : (b : Bool) → (b && true) ≡ b
      and_true true = refl
      and_true false = refl
    by_tests false false true f h g = ap (λ (b : Bool). b && true) (sym h)
    by_tests false true z f h g = absurd (let no : false ≡ true = f refl in absurd cc)
    by_tests b t false f h g = absurd cc
  says_so before (entries.Said by (names.Port to port) epoch index mark body) b plain e = absurd cc
  says_so before (entries.Said by (names.Named at name) epoch index mark body) b plain e = absurd cc
  says_so before entry b plain e = refl

  said_among : (before log : List Entry) → IsPlain before → IsPlain log → each_after is_said_in_epoch before log ≡ true → has_said p q (filter_map (said_by x y) log) ≡ list_any (says_in p (names.Process q) 0) log
  said_among before [] b plain e = refl
  said_among before (entry ∷ log) b plain e =
      let parts = and_parts (is_plain entry) (list_all is_plain log) plain in
      let each = and_parts (is_said_in_epoch before entry) (each_after is_said_in_epoch (before ++ entry ∷ []) log) e in
      joined (said_by x y entry) ∙ ap (λ (b : Bool). b || has_said p q (filter_map (said_by x y) log)) (says_so before entry b parts.0 each.0)
      ∙ ap (λ (b : Bool). says_in p (names.Process q) 0 entry || b) (said_among (before ++ entry ∷ []) log (plain_more before entry b parts.0) parts.1 each.1)
    where
      joined : (o : Option Saying) → has_said p q (cons_option o (filter_map (said_by x y) log)) ≡ (some_and (λ (s : Saying). same_process s.by p && same_target s.to (names.Process q)) o || has_said p q (filter_map (said_by x y) log))
      joined None = refl
      joined (Some s) = refl

  none_kept : (test : Entry → Bool) (log : List Entry) → (length (filter test log) == 0) ≡ not (list_any test log)
  none_kept test [] = refl
  none_kept test (entry ∷ log) = by_test (test entry) (none_kept test log) where
    some : (n : ℕ) → (suc n == 0) ≡ false
    some n = grind (arith, nat_tests)

    by_test : (b : Bool) → (length (filter test log) == 0) ≡ not (list_any test log) → (length (cond b (entry ∷ filter test log) (filter test log)) == 0) ≡ not (b || list_any test log)
    by_test true more = some (length (filter test log))
    by_test false more = more

  none_counted : (test : Entry → Bool) (log : List Entry) → (count_by test log == 0) ≡ not (list_any test log)
  none_counted test log = ap (λ (n : ℕ). n == 0) (sym (length-filter test log)) ∙ none_kept test log

  -- the index of a pair is 0 where it has said nothing
  pub index_so : (log : List Entry) → IsPlain log → each_after is_said_in_epoch [] log ≡ true → (index_of log p (names.Process q) (epoch_of log p (names.Process q)) == 0) ≡ not (has_said p q (filter_map (said_by x y) log))
  index_so log plain e = ap (λ (n : ℕ). index_of log p (names.Process q) n == 0) (first_epoch log p q plain) ∙ none_counted (says_in p (names.Process q) 0) log ∙ ap not (sym (said_among [] log refl plain e))
