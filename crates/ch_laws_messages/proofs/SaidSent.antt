-- Where a process of the node says a message to one of the other, that is carried too.
use Rattle.std.proofs.Common.{◌≡◌, ◌⊎◌, inl, inr, ◌≤◌, ◌<◌, ℕ, suc, Bool, true, false, cond, ◌&&◌, ◌||◌, List, [], ◌∷◌, ◌++◌, length, refl, sym, ap, ◌∙◌, subst, arith}
use Rattle.std.proofs.lemmas.Bool.{and_parts, eqb-true}
use Rattle.std.proofs.lemmas.List.Folds.{list_any-append}
use Rattle.std.proofs.lemmas.Slice.Eq.{bytes_eq-Decides}
use Rattle.std.specs.List.{list_any}
use Rattle.std.specs.Option.{option_map, option_or}
use Rattle.std.specs.Prelude.{find, Option, Some, None, ◌==◌}
use Rattle.std.specs.Str.{bytes_eq}
use Rattle.ch_base.specs.declared.address.Address.{Address}
use Rattle.ch_ident.specs.declared.identifier.ProcessId.{ProcessId}
use Rattle.ch_model.specs.declared.entry.Entry.{Entry}
use Rattle.ch_model.specs.declared.line.Line.{Line}
use Rattle.ch_model.specs.declared.name.ProcName.{ProcName}
use Rattle.ch_model.specs.declared.name.TargetName.{TargetName}
use Rattle.ch_model.specs.declared.name.TargetName.TheVariants as names
use Rattle.ch_model.specs.AccountsFrames.{Saying, pair_opening, payload_of}
use Rattle.ch_model.specs.AccountsItems.{first_payload}
use Rattle.ch_model.specs.Logs.{some_and}
use Rattle.ch_model.specs.Naming.{Names, process_as, process_called}
use Rattle.ch_model.specs.NodeIds.{process_id, is_living}
use Rattle.ch_model.specs.NodePairs.{is_pair}
use Rattle.ch_model.specs.NodeState.{NodeState, Mark, Unopened, Opened, Broken}
use Rattle.ch_model.specs.Same.{same_process, same_target}
use Rattle.ch_model.specs.WorldState.{World}
use Rattle.ch_model.specs.declared.step.Place.{Place}
use Rattle.ch_laws_writes.proofs.Worlds.{number_same}
use Rattle.ch_race.specs.Pair.{Side, other}
use Rattle.ch_laws_race.specs.Scene.{Party}
use Rattle.ch_laws_peers.specs.Words.{Placed, Word, words_in, datas_in, carried_after, opens_one, TrueWord, TrueWords}
use Rattle.ch_laws_peers.specs.Says.{all_towards, node_of, HasOpened, has_said, Says}
use Rattle.ch_laws_messages.specs.SaidGoes.{said_to, frames_to, waits_for, mark_of, IsDeclared, sent_next, sent_first, Sent}
use Rattle.ch_laws_messages.proofs.SaidWords.{got_last, first_of_both, first_more, first_later, first_opens, words_append, datas_append, true_more, true_both}
use Rattle.ch_laws_messages.proofs.SaidGrows.{grown, waits_placed}
use Rattle.ch_laws_messages.proofs.SaidQuiet.{called_as}

-- ---- the words of one message

abbrev word_next : ℕ → Saying → Word
word_next id s = ((id, payload_of s), Some (record { epoch = s.epoch; index = s.index }))

abbrev word_first : ℕ → List ℕ → Word
word_first id opening = ((id, opening), None)

clash : {A : Type 0} → true ≡ false → A
clash e = absurd cc

any_last : (p : Saying → Bool) (said : List Saying) (s : Saying) → p s ≡ true → list_any p (said ++ s ∷ []) ≡ true
any_last p said s e = list_any-append p said (s ∷ []) ∙ ap (λ (b : Bool). list_any p said || (b || false)) e ∙ last (list_any p said) where
  last : (b : Bool) → (b || true) ≡ true
  last true = refl
  last false = refl

any_none : (p : Saying → Bool) (said : List Saying) (s : Saying) → list_any p said ≡ false → p s ≡ false → list_any p (said ++ s ∷ []) ≡ false
any_none p said s e f = list_any-append p said (s ∷ []) ∙ ap (λ (b : Bool). b || (p s || false)) e ∙ ap (λ (b : Bool). b || false) f

opens_itself : (journal : List Line) (s : Saying) (opening : List ℕ) (o : Option (List ℕ)) → o ≡ Some opening → some_and (bytes_eq opening) o ≡ true
opens_itself journal s opening o e = subst (λ (o : Option (List ℕ)). some_and (bytes_eq opening) o ≡ true) (sym e) ((bytes_eq-Decides opening opening).1 refl)

-- the payload of the message, on a connection that was opened before
next_true : (journal : List Line) (said : List Saying) (s : Saying) (before : List (ℕ × List ℕ)) (id : ℕ) (opening : List ℕ) → pair_opening journal s.by s.to ≡ Some opening → first_payload id before ≡ Some opening → TrueWords journal (said ++ s ∷ []) before (length said) (word_next id s ∷ []) (length (said ++ s ∷ []))
next_true journal said s before id opening opens first = subst (λ (o : Option (List ℕ)). TrueFrom o) (sym first) ((s, got_last said s, record { payload = refl; pair = opens; place = refl }), longer said) where
  TrueFrom : Option (List ℕ) → Type 0
  TrueFrom o = TrueWord journal (said ++ s ∷ []) (length said) (word_next id s) o × (carried_after o (length said) ≡ length (said ++ s ∷ []))

  longer : (l : List Saying) → suc (length l) ≡ length (l ++ s ∷ [])
  longer [] = refl
  longer (y ∷ l) = ap suc (longer l)

-- and on one that is opened at once
first_true : (journal : List Line) (said : List Saying) (s : Saying) (before : List (ℕ × List ℕ)) (id : ℕ) (opening : List ℕ) → pair_opening journal s.by s.to ≡ Some opening → first_payload id before ≡ None → TrueWords journal (said ++ s ∷ []) before (length said) (word_first id opening ∷ word_next id s ∷ []) (length (said ++ s ∷ []))
first_true journal said s before id opening opens none = subst (λ (o : Option (List ℕ)). TrueFrom o) (sym none)
    ((any_last (λ (s : Saying). some_and (bytes_eq opening) (pair_opening journal s.by s.to)) said s (opens_itself journal s opening (pair_opening journal s.by s.to) opens), refl), next_true journal said s (before ++ (id, opening) ∷ []) id opening opens (first_later id before ((id, opening) ∷ []) none ∙ ap (λ (b : Bool). option_map payload (cond b (Some (id, opening)) None)) (self id))) where
      payload : ℕ × List ℕ → List ℕ
      payload d = d.1

      TrueFrom : Option (List ℕ) → Type 0
      TrueFrom o = TrueWord journal (said ++ s ∷ []) (length said) (word_first id opening) o × TrueWords journal (said ++ s ∷ []) (before ++ (id, opening) ∷ []) (carried_after o (length said)) (word_next id s ∷ []) (length (said ++ s ∷ []))

      self : (n : ℕ) → (n == n) ≡ true
      self n = number_same n

-- ---- the ids of the new payloads

-- these payloads are all under this id
abbrev AllUnder : ℕ → List (ℕ × List ℕ) → Type 0
AllUnder id [] = Unit {0}
AllUnder id (d ∷ rest) = (d.0 ≡ id) × AllUnder id rest

under_only : (id i : ℕ) (datas : List (ℕ × List ℕ)) (one : List ℕ) → AllUnder id datas → first_payload i datas ≡ Some one → i ≡ id
under_only id i [] one a e = absurd cc
under_only id i (d ∷ rest) one a e = by_test (d.0 == i) refl e (under_only id i rest one a.1) where
  payload : ℕ × List ℕ → List ℕ
  payload d = d.1

  by_test : (b : Bool) → (d.0 == i) ≡ b → option_map payload (cond b (Some d) (find (λ (d : ℕ × List ℕ). d.0 == i) rest)) ≡ Some one → (first_payload i rest ≡ Some one → i ≡ id) → i ≡ id
  by_test true h e more = sym (eqb-true d.0 i h) ∙ a.0
  by_test false h e more = more e

-- the first under an id was the first before, or is new
first_or : (id i : ℕ) (old new : List (ℕ × List ℕ)) (one : List ℕ) → AllUnder id new → first_payload i (old ++ new) ≡ Some one → (first_payload i old ≡ Some one) ⊎ ((i ≡ id) × (first_payload i old ≡ None) × (first_payload i new ≡ Some one))
first_or id i old new one a e = by_old (first_payload i old) refl (sym (first_of_both i old new) ∙ e) where
  by_old : (o : Option (List ℕ)) → first_payload i old ≡ o → option_or o (first_payload i new) ≡ Some one → (first_payload i old ≡ Some one) ⊎ ((i ≡ id) × (first_payload i old ≡ None) × (first_payload i new ≡ Some one))
  by_old None h f = inr (under_only id i new one a f, h, f)
  by_old (Some p) h f = inl (h ∙ f)

-- ---- names

-- one process name of two
same_name : (p q : ProcName) → same_process p q ≡ true → p ≡ q
same_name p q e = let both = and_parts (bytes_eq p.node q.node) (p.counter == q.counter) e in ap (λ (n : List ℕ). made n p.counter) ((bytes_eq-Decides p.node q.node).0 both.0) ∙ ap (made q.node) (eqb-true p.counter q.counter both.1) where
  made : List ℕ → ℕ → ProcName
  made node counter = record { node = node; counter = counter }

abbrev counter_of : ProcName → ℕ
counter_of p = p.counter

test_false : (b : Bool) → (b ≡ true → ⊥) → b ≡ false
test_false true n = absurd (n refl)
test_false false n = refl

-- ---- a message more

pub sends : (journal : List Line) (log : List Entry) (world : World) (party : Side → Party) (x : Side) (after_log : List Entry) (after : World) → Says journal log world party x → Sent journal party x log world after_log after → Says journal after_log after party x
sends journal log world party x after_log after s k = record {
  placed = waits_placed (frames_to party x log) (waits_for party world x) (frames_to party x after_log) (waits_for party after x) k.new s.placed k.streams.placed k.streams.flows;
  words = subst (λ (w : List Placed). TrueWords journal said_now [] 0 (words_in w) (length said_now)) (sym all_is) new_true;
  one = k.streams.is_one.one;
  down = k.streams.is_one.down;
  declared = λ node pair to there found is at. subst (λ (known : Names). to ≡ process_as known (process_called known to)) (sym k.named) (k.declared pair to (subst (λ (n : NodeState). find (is_pair pair.by pair.to) n.pairs ≡ Some pair) (node_is node there) found) is at);
  opened = λ node by to conn there at marked. subst (λ (n : NodeState). HasOpened journal party after_log after x n by to conn) (sym (node_is node there)) (has by to conn at (subst (λ (n : NodeState). mark_of n by to ≡ Opened conn) (node_is node there) marked) (k.others by to));
  unopened = λ node by to there at declared marked living. subst (λ (n : NodeState). has_said (process_called after.names (process_id n by)) (process_called after.names to) said_now ≡ false) (sym (node_is node there))
      (renamed by to (not_said by to at (subst (λ (known : Names). to ≡ process_as known (process_called known to)) k.named declared) (subst (λ (n : NodeState). mark_of n by to ≡ Unopened) (node_is node there) marked)
      (subst (λ (n : NodeState). is_living n (process_id n by) ≡ true) (node_is node there) living) (k.others by to)));
  unbroken = λ node by to there at marked. not_broken by to at (subst (λ (n : NodeState). mark_of n by to ≡ Broken) (node_is node there) marked) (k.others by to);
  unmade = λ node by q there le. subst (λ (n : NodeState). has_said (process_called after.names (process_id n by)) q said_now ≡ false) (sym (node_is node there)) (none_made by q (subst (λ (n : NodeState). length n.mail ≤ by) (node_is node there) le));
  alone = λ i j opening a b. one_id i j opening (first_or k.id i old new_datas opening all_under (sym (first_now i) ∙ a)) (first_or k.id j old new_datas opening all_under (sym (first_now j) ∙ b));
} where
  said : List Saying
  said = said_to party x log

  said_now : List Saying
  said_now = said_to party x after_log

  all : List Placed
  all = all_towards party world x log

  old : List (ℕ × List ℕ)
  old = datas_in (words_in all)

  new_datas : List (ℕ × List ℕ)
  new_datas = datas_in (words_in k.new)

  p : ProcName
  p = process_called world.names (process_id k.was k.by)

  q : ProcName
  q = process_called world.names k.to

  node_is : (node : NodeState) → node_of party after x ≡ Some node → node ≡ k.now
  node_is node there = one_is node k.now (sym there ∙ k.there_now) where
    one_is : (a b : NodeState) → ◌≡◌ {A = Option NodeState} (Some a) (Some b) → a ≡ b
    one_is a b e = cc

  -- ---- words

  old_true : TrueWords journal (said ++ k.s ∷ []) [] 0 (words_in all) (length said)
  old_true = true_more journal said (k.s ∷ []) [] 0 (words_in all) (length said) s.words

  place_now : Place
  place_now = record { epoch = k.s.epoch; index = k.s.index }

  tail_true : TrueWords journal (said ++ k.s ∷ []) old (length said) (words_in k.new) (length (said ++ k.s ∷ []))
  tail_true = by_goes k.goes where
    by_goes : ((k.new ≡ sent_next k.id k.s place_now) × (first_payload k.id old ≡ Some k.opening)) ⊎ ((k.new ≡ sent_first k.id k.opening k.s place_now) × (first_payload k.id old ≡ None) × (has_said k.s.by q said ≡ false)) → TrueWords journal (said ++ k.s ∷ []) old (length said) (words_in k.new) (length (said ++ k.s ∷ []))
    by_goes (inl g) = subst (λ (l : List Placed). TrueWords journal (said ++ k.s ∷ []) old (length said) (words_in l) (length (said ++ k.s ∷ []))) (sym g.0) (next_true journal said k.s old k.id k.opening k.opens g.1)
    by_goes (inr g) = subst (λ (l : List Placed). TrueWords journal (said ++ k.s ∷ []) old (length said) (words_in l) (length (said ++ k.s ∷ []))) (sym g.0) (first_true journal said k.s old k.id k.opening k.opens g.1)

  new_true : TrueWords journal said_now [] 0 (words_in (all ++ k.new)) (length said_now)
  new_true = subst (λ (l : List Saying). TrueWords journal l [] 0 (words_in (all ++ k.new)) (length l)) (sym k.said)
      (subst (λ (w : List Word). TrueWords journal (said ++ k.s ∷ []) [] 0 w (length (said ++ k.s ∷ []))) (sym (words_append all k.new)) (true_both journal (said ++ k.s ∷ []) [] 0 (words_in all) (words_in k.new) (length said) (length (said ++ k.s ∷ [])) old_true tail_true))

  all_is : all_towards party after x after_log ≡ all ++ k.new
  all_is = grown journal said said_now (frames_to party x log) (waits_for party world x) (frames_to party x after_log) (waits_for party after x) k.new (length said_now) s.placed k.streams.placed new_true k.streams.flows

  datas_now : datas_in (words_in (all_towards party after x after_log)) ≡ old ++ new_datas
  datas_now = ap (λ (l : List Placed). datas_in (words_in l)) all_is ∙ ap datas_in (words_append all k.new) ∙ datas_append (words_in all) (words_in k.new)

  first_now : (i : ℕ) → first_payload i (datas_in (words_in (all_towards party after x after_log))) ≡ first_payload i (old ++ new_datas)
  first_now i = ap (first_payload i) datas_now

  -- ---- ids

  all_under : AllUnder k.id new_datas
  all_under = by_goes k.goes where
    by_goes : ((k.new ≡ sent_next k.id k.s place_now) × (first_payload k.id old ≡ Some k.opening)) ⊎ ((k.new ≡ sent_first k.id k.opening k.s place_now) × (first_payload k.id old ≡ None) × (has_said k.s.by q said ≡ false)) → AllUnder k.id new_datas
    by_goes (inl g) = subst (λ (l : List Placed). AllUnder k.id (datas_in (words_in l))) (sym g.0) (refl, tt)
    by_goes (inr g) = subst (λ (l : List Placed). AllUnder k.id (datas_in (words_in l))) (sym g.0) (refl, (refl, tt))

  self : (n : ℕ) → (n == n) ≡ true
  self n = number_same n

  payload : ℕ × List ℕ → List ℕ
  payload d = d.1

  -- the id was opened for the pair
  id_opened : first_payload k.id (old ++ new_datas) ≡ Some k.opening
  id_opened = by_goes k.goes where
    by_goes : ((k.new ≡ sent_next k.id k.s place_now) × (first_payload k.id old ≡ Some k.opening)) ⊎ ((k.new ≡ sent_first k.id k.opening k.s place_now) × (first_payload k.id old ≡ None) × (has_said k.s.by q said ≡ false)) → first_payload k.id (old ++ new_datas) ≡ Some k.opening
    by_goes (inl g) = first_more k.id old new_datas k.opening g.1
    by_goes (inr g) = first_later k.id old new_datas g.1 ∙ ap (λ (l : List Placed). first_payload k.id (datas_in (words_in l))) g.0 ∙ ap (λ (b : Bool). option_map payload (cond b (Some (k.id, k.opening)) (find (λ (d : ℕ × List ℕ). d.0 == k.id) ((k.id, payload_of k.s) ∷ [])))) (self k.id)

  -- an id that is new is opened for the pair, and no other was
  old_not : (i : ℕ) (opening : List ℕ) → first_payload k.id old ≡ None → first_payload k.id new_datas ≡ Some opening → first_payload i old ≡ Some opening → ⊥
  old_not i opening none e f = by_goes k.goes where
    same : k.opening ≡ opening
    same = one_is (sym id_opened ∙ first_later k.id old new_datas none ∙ e) where
      one_is : {a b : List ℕ} → ◌≡◌ {A = Option (List ℕ)} (Some a) (Some b) → a ≡ b
      one_is e = cc

    by_goes : ((k.new ≡ sent_next k.id k.s place_now) × (first_payload k.id old ≡ Some k.opening)) ⊎ ((k.new ≡ sent_first k.id k.opening k.s place_now) × (first_payload k.id old ≡ None) × (has_said k.s.by q said ≡ false)) → ⊥
    by_goes (inl g) = let no : ◌≡◌ {A = Option (List ℕ)} None (Some k.opening) = sym none ∙ g.1 in absurd cc
    by_goes (inr g) = clash (sym (k.only (subst (λ (o : List ℕ). opens_one journal said o ≡ true) (sym same) (first_opens journal said [] 0 (words_in all) (length said) i opening s.words refl f))) ∙ g.2)

  one_id : (i j : ℕ) (opening : List ℕ) → (first_payload i old ≡ Some opening) ⊎ ((i ≡ k.id) × (first_payload i old ≡ None) × (first_payload i new_datas ≡ Some opening)) → (first_payload j old ≡ Some opening) ⊎ ((j ≡ k.id) × (first_payload j old ≡ None) × (first_payload j new_datas ≡ Some opening)) → i ≡ j
  one_id i j opening (inl a) (inl b) = s.alone i j opening a b
  one_id i j opening (inl a) (inr b) = absurd (old_not i opening (ap (λ (n : ℕ). first_payload n old) (sym b.0) ∙ b.1) (ap (λ (n : ℕ). first_payload n new_datas) (sym b.0) ∙ b.2) a)
  one_id i j opening (inr a) (inl b) = absurd (old_not j opening (ap (λ (n : ℕ). first_payload n old) (sym a.0) ∙ a.1) (ap (λ (n : ℕ). first_payload n new_datas) (sym a.0) ∙ a.2) b)
  one_id i j opening (inr a) (inr b) = a.0 ∙ sym b.0

  -- ---- pairs

  name_same : (by : ℕ) → process_called after.names (process_id k.now by) ≡ process_called world.names (process_id k.was by)
  name_same by = ap (λ (known : Names). called_as known k.now.own by) k.named ∙ ap (λ (own : Address). called_as world.names own by) k.own

  renamed : (by : ℕ) (to : ProcessId) → has_said (process_called world.names (process_id k.was by)) (process_called world.names to) said_now ≡ false → has_said (process_called after.names (process_id k.now by)) (process_called after.names to) said_now ≡ false
  renamed by to e = ap (λ (known : Names). has_said (process_called after.names (process_id k.now by)) (process_called known to) said_now) k.named ∙ ap (λ (m : ProcName). has_said m (process_called world.names to) said_now) (name_same by) ∙ e

  mark_is : (conn : ℕ) → mark_of k.now k.by k.to ≡ Opened conn → k.conn ≡ conn
  mark_is conn e = one_is (sym k.marked ∙ e) where
    one_is : {a b : ℕ} → ◌≡◌ {A = Mark} (Opened a) (Opened b) → a ≡ b
    one_is e = cc

  opens_now : (by : ℕ) (to : ProcessId) → pair_opening journal (process_called after.names (process_id k.now by)) (names.Process (process_called after.names to)) ≡ pair_opening journal (process_called world.names (process_id k.was by)) (names.Process (process_called world.names to))
  opens_now by to = ap (λ (m : ProcName). pair_opening journal m (names.Process (process_called after.names to))) (name_same by) ∙ ap (λ (known : Names). pair_opening journal (process_called world.names (process_id k.was by)) (names.Process (process_called known to))) k.named

  has_new : (conn : ℕ) → mark_of k.now k.by k.to ≡ Opened conn → HasOpened journal party after_log after x k.now k.by k.to conn
  has_new conn e = subst (HasOpened journal party after_log after x k.now k.by k.to) (mark_is conn e) (record {
    id = k.id;
    given = k.given;
    opening = k.opening;
    opens = opens_now k.by k.to ∙ ap (λ (m : ProcName). pair_opening journal m (names.Process q)) (sym k.s_by) ∙ ap (pair_opening journal k.s.by) (sym k.s_to) ∙ k.opens;
    opened = first_now k.id ∙ id_opened;
  })

  has : (by : ℕ) (to : ProcessId) (conn : ℕ) → to.node ≡ (party (other x)).address → mark_of k.now by to ≡ Opened conn → ((by ≡ k.by) × (to ≡ k.to)) ⊎ (mark_of k.now by to ≡ mark_of k.was by to) → HasOpened journal party after_log after x k.now by to conn
  has by to conn at marked (inl same) = subst (λ (t : ProcessId). mark_of k.now by t ≡ Opened conn → HasOpened journal party after_log after x k.now by t conn) (sym same.1)
      (subst (λ (b : ℕ). mark_of k.now b k.to ≡ Opened conn → HasOpened journal party after_log after x k.now b k.to conn) (sym same.0) (has_new conn)) marked
  has by to conn at marked (inr kept) = let o = s.opened k.was by to conn k.there at (sym kept ∙ marked) in record {
    id = o.id;
    given = k.kept conn o.id o.given;
    opening = o.opening;
    opens = opens_now by to ∙ o.opens;
    opened = first_now o.id ∙ first_more o.id old new_datas o.opening o.opened;
  }

  not_broken : (by : ℕ) (to : ProcessId) → to.node ≡ (party (other x)).address → mark_of k.now by to ≡ Broken → ((by ≡ k.by) × (to ≡ k.to)) ⊎ (mark_of k.now by to ≡ mark_of k.was by to) → ⊥
  not_broken by to at marked (inl same) = let no : Opened k.conn ≡ Broken = sym k.marked ∙ ap (λ (b : ℕ). mark_of k.now b k.to) (sym same.0) ∙ ap (mark_of k.now by) (sym same.1) ∙ marked in absurd cc
  not_broken by to at marked (inr kept) = s.unbroken k.was by to k.there at (sym kept ∙ marked)

  -- the message said isn't of another pair
  of_other : (by : ℕ) (to : ProcessId) → IsDeclared world to → mark_of k.now by to ≡ Unopened → (same_process k.s.by (process_called world.names (process_id k.was by)) && same_target k.s.to (names.Process (process_called world.names to))) ≡ true → ⊥
  of_other by to declared marked e = absurd no where
    both : (same_process k.s.by (process_called world.names (process_id k.was by)) ≡ true) × (same_target k.s.to (names.Process (process_called world.names to)) ≡ true)
    both = and_parts (same_process k.s.by (process_called world.names (process_id k.was by))) (same_target k.s.to (names.Process (process_called world.names to))) e

    by_is : k.by ≡ by
    by_is = ap counter_of (sym k.s_by ∙ same_name k.s.by (process_called world.names (process_id k.was by)) both.0)

    to_is : k.to ≡ to
    to_is = k.to_declared ∙ ap (process_as world.names) (same_name q (process_called world.names to) (subst (λ (t : TargetName). same_target t (names.Process (process_called world.names to)) ≡ true) k.s_to both.1)) ∙ sym declared

    no : ⊥
    no = let clash : Opened k.conn ≡ Unopened = sym k.marked ∙ ap (λ (b : ℕ). mark_of k.now b k.to) by_is ∙ ap (mark_of k.now by) to_is ∙ marked in absurd cc

  not_said : (by : ℕ) (to : ProcessId) → to.node ≡ (party (other x)).address → IsDeclared world to → mark_of k.now by to ≡ Unopened → is_living k.now (process_id k.now by) ≡ true → ((by ≡ k.by) × (to ≡ k.to)) ⊎ (mark_of k.now by to ≡ mark_of k.was by to) → has_said (process_called world.names (process_id k.was by)) (process_called world.names to) said_now ≡ false
  not_said by to at declared marked living (inl same) = let no : Opened k.conn ≡ Unopened = sym k.marked ∙ ap (λ (b : ℕ). mark_of k.now b k.to) (sym same.0) ∙ ap (mark_of k.now by) (sym same.1) ∙ marked in absurd cc
  not_said by to at declared marked living (inr kept) = ap (has_said (process_called world.names (process_id k.was by)) (process_called world.names to)) k.said
      ∙ any_none _ said k.s (s.unopened k.was by to k.there at declared (sym kept ∙ marked) (k.living by living)) (test_false _ (of_other by to declared marked))

  none_made : (by : ℕ) (r : ProcName) → length k.now.mail ≤ by → has_said (process_called after.names (process_id k.now by)) r said_now ≡ false
  none_made by r le = ap (λ (m : ProcName). has_said m r said_now) (name_same by) ∙ ap (has_said (process_called world.names (process_id k.was by)) r) k.said
      ∙ any_none _ said k.s (s.unmade k.was by r k.there (less (length k.was.mail) (length k.now.mail) by k.made le)) (test_false _ other_by) where
        less : (a b c : ℕ) → a ≤ b → b ≤ c → a ≤ c
        less a b c e f = omega arith

        not_less : (a b c d : ℕ) → a < b → b ≤ c → c ≤ d → a ≡ d → ⊥
        not_less a b c d e f g h = omega arith

        other_by : (same_process k.s.by (process_called world.names (process_id k.was by)) && same_target k.s.to (names.Process r)) ≡ true → ⊥
        other_by e = not_less k.by (length k.was.mail) (length k.now.mail) by k.by_made k.made le
            (ap counter_of (sym k.s_by ∙ same_name k.s.by (process_called world.names (process_id k.was by)) (and_parts (same_process k.s.by (process_called world.names (process_id k.was by))) (same_target k.s.to (names.Process r)) e).0))
