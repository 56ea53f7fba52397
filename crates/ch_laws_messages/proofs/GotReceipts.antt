-- Each message that is got was said before, is the next of its pair, and is got by whom it was sent to: turn by turn.
use Rattle.std.proofs.Common.{◌≡◌, ℕ, zero, suc, Bool, true, false, cond, not, ◌&&◌, ◌||◌, List, [], ◌∷◌, ◌++◌, length, take, refl, sym, ap, ◌∙◌, subst}
use Rattle.std.specs.Prelude.{slice_get, count_by, Option, Some, ◌==◌}
use Rattle.std.specs.List.{list_any}
use Rattle.std.specs.Str.{bytes_eq}
use Rattle.std.proofs.lemmas.Bool.{and_parts}
use Rattle.std.proofs.lemmas.Slice.Eq.{bytes_eq-Decides}
use Rattle.ch_ident.specs.declared.identifier.Identifier.TheVariants as ends
use Rattle.ch_ident.specs.declared.identifier.ProcessId.{ProcessId}
use Rattle.ch_ident.specs.declared.node_message.NodeMessage.TheVariants.{Opening}
use Rattle.ch_ident.specs.Spelling.{message}
use Rattle.ch_model.specs.declared.entry.Entry.{Entry}
use Rattle.ch_model.specs.declared.entry.Entry.TheVariants as entries
use Rattle.ch_model.specs.declared.line.Line.{Line}
use Rattle.ch_model.specs.declared.name.ProcName.{ProcName}
use Rattle.ch_model.specs.declared.name.TargetName.{TargetName}
use Rattle.ch_model.specs.declared.name.TargetName.TheVariants as names
use Rattle.ch_model.specs.declared.step.Place.{Place}
use Rattle.ch_model.specs.AccountsFrames.{Saying, pair_opening}
use Rattle.ch_model.specs.AccountsItems.{first_payload}
use Rattle.ch_model.specs.Delivery.{gets_in}
use Rattle.ch_model.specs.Epochs.{says_in, says_it}
use Rattle.ch_model.specs.Logs.{from_first, last_is}
use Rattle.ch_model.specs.Naming.{Names, process_called}
use Rattle.ch_model.specs.Same.{same_process, same_target}
use Rattle.ch_model.specs.WorldState.{World}
use Rattle.ch_model.specs.WorldSteps.{or_first}
use Rattle.ch_race.specs.Pair.{Side, other}
use Rattle.ch_laws_log.proofs.Stored.{number_same}
use Rattle.ch_laws_race.specs.Scene.{Party}
use Rattle.ch_laws_calls.specs.Scenes.{IsPairOf, SceneFacts}
use Rattle.ch_laws_peers.specs.Words.{Word, datas_in, sayings, Carries, TrueWord, TrueWords}
use Rattle.ch_laws_peers.specs.Reads.{after_first, gets_of, read_of, IsOfPair}
use Rattle.ch_laws_messages.specs.WayReadingGoes.{Known}
use Rattle.ch_laws_messages.specs.GotReceipts.{IsGotWell, GotWell, AreGotWell}
use Rattle.ch_laws_messages.specs.GotSaidWell.{SaidWell}
use Rattle.ch_laws_messages.proofs.GotLists.{clash, some_is}
use Rattle.ch_laws_messages.proofs.GotMoves.{of_pair_opens}
use Rattle.ch_laws_messages.proofs.GotBounds.{AreAlone}
use Rattle.ch_laws_messages.proofs.GotCounts.{IsOfOpening, Carried, carried_next}
use Rattle.ch_laws_messages.proofs.GotHearing.{same_itself}
use Rattle.ch_laws_messages.proofs.GotIndex.{opening_is, is_pair_of, target_is, index_is}
use Rattle.ch_laws_messages.proofs.GotTold.{is_receipt, NoGots}
use Rattle.ch_laws_messages.proofs.GotTurn.{first_said}
use Rattle.ch_laws_messages.proofs.GotWords.{IsSaying, saying_is, SaidPair, said_pair}
use Rattle.ch_laws_messages.proofs.GotWorlds.{names_apart, Follows, alone_read}
use Rattle.ch_laws_messages.proofs.ArrivedSayings.{process_is}

-- ---- entries that get nothing

no_receipt : (log : List Entry) (entry : Entry) → is_receipt entry ≡ false → GotWell log entry
no_receipt log (entries.Got by to epoch index receiver) e = absurd cc
no_receipt log (entries.Line number answer) e = tt
no_receipt log (entries.Made process spawn label) e = tt
no_receipt log (entries.Said by to epoch index mark body) e = tt
no_receipt log entry e = tt

pub no_receipts : (log more : List Entry) → NoGots more → AreGotWell log more
no_receipts log [] n = tt
no_receipts log (x ∷ rest) n = (no_receipt log x n.0, no_receipts (log ++ x ∷ []) rest n.1)

pub got_more : (log one two : List Entry) → AreGotWell log one → AreGotWell (log ++ one) two → AreGotWell log (one ++ two)
got_more log [] two a b = subst (λ (l : List Entry). AreGotWell l two) (nothing log) b where
  nothing : (xs : List Entry) → xs ++ [] ≡ xs
  nothing [] = refl
  nothing (y ∷ xs) = ap (λ (l : List Entry). y ∷ l) (nothing xs)
got_more log (x ∷ one) two a b = (a.0, got_more (log ++ x ∷ []) one two a.1 (subst (λ (l : List Entry). AreGotWell l two) (sym (assoc log)) b)) where
  assoc : (xs : List Entry) → (xs ++ x ∷ []) ++ one ≡ xs ++ x ∷ one
  assoc [] = refl
  assoc (y ∷ xs) = ap (λ (l : List Entry). y ∷ l) (assoc xs)

-- ---- what was said is found

pub said_found : (p : ProcName) (d : TargetName) (e k : ℕ) (log : List Entry) (i : ℕ) (x : Entry) → slice_get log i ≡ Some x → says_it p d e k x ≡ true → says_in p d e x ≡ true → list_any (says_it p d e k) (from_first (says_in p d e) log) ≡ true
said_found p d e k [] i x at h g = absurd cc
said_found p d e k (y ∷ log) i x at h g = by_test (says_in p d e y) refl i at (said_found p d e k log) where
  any : (xs : List Entry) (j : ℕ) → slice_get xs j ≡ Some x → list_any (says_it p d e k) xs ≡ true
  any [] j f = absurd cc
  any (z ∷ xs) zero f = let is : z ≡ x = cc in ap (λ (b : Bool). b || list_any (says_it p d e k) xs) (ap (says_it p d e k) is ∙ h)
  any (z ∷ xs) (suc j) f = by_head (says_it p d e k z) (any xs j f) where
    by_head : (b : Bool) → list_any (says_it p d e k) xs ≡ true → (b || list_any (says_it p d e k) xs) ≡ true
    by_head true m = refl
    by_head false m = m

  by_test : (b : Bool) → says_in p d e y ≡ b → (i : ℕ) → slice_get (y ∷ log) i ≡ Some x → ((i : ℕ) (z : Entry) → slice_get log i ≡ Some z → says_it p d e k z ≡ true → says_in p d e z ≡ true → list_any (says_it p d e k) (from_first (says_in p d e) log) ≡ true) → list_any (says_it p d e k) (cond b (y ∷ log) (from_first (says_in p d e) log)) ≡ true
  by_test true s i at more = any (y ∷ log) i at
  by_test false s zero at more = let is : y ≡ x = cc in clash (sym (ap (says_in p d e) is ∙ g) ∙ s)
  by_test false s (suc i) at more = more i x at h g

-- the entry says this message
pub says_this : (p q : ProcName) (e k : ℕ) (mark body : List ℕ) → (says_it p (names.Process q) e k (entries.Said p (names.Process q) e k mark body) ≡ true) × (says_in p (names.Process q) e (entries.Said p (names.Process q) e k mark body) ≡ true)
says_this p q e k mark body = (
  ap (λ (b : Bool). b && same_process q q && (e == e) && (k == k)) (same_itself p) ∙ ap (λ (b : Bool). b && (e == e) && (k == k)) (same_itself q) ∙ ap (λ (b : Bool). b && (k == k)) (number_same e) ∙ number_same k,
  ap (λ (b : Bool). b && same_process q q && (e == e)) (same_itself p) ∙ ap (λ (b : Bool). b && (e == e)) (same_itself q) ∙ number_same e,
)

-- ---- a message that is got from another node

-- the sayings of an opening's pair are those of its two processes
of_opening : (journal : List Line) (known : Names) (a b : List ℕ) (from to : ProcessId) (said : List Saying) → IsOfPair journal known a b from to → ((n : ℕ) (s : Saying) → slice_get said n ≡ Some s → SaidPair journal known a b s.by s.to) → IsOfOpening journal said (message (Opening (ends.Process from) (ends.Process to))) (is_pair_of (process_called known from) (process_called known to))
of_opening journal known a b from to said pair each n s o at opens = (one, two) where
  sp : SaidPair journal known a b s.by s.to
  sp = each n s at

  one : o ≡ message (Opening (ends.Process from) (ends.Process to)) → is_pair_of (process_called known from) (process_called known to) s ≡ true
  one e =
      let same = opening_is sp.from sp.receiver from to sp.pair.from_fits sp.pair.to_fits pair.from_fits pair.to_fits (some_is (message (Opening (ends.Process sp.from) (ends.Process sp.receiver))) o (sym sp.opens ∙ opens) ∙ e) in
      ap (λ (p : ProcName). same_process p (process_called known from) && same_target s.to (names.Process (process_called known to))) (sp.by_is ∙ ap (process_called known) same.0)
      ∙ ap (λ (t : TargetName). same_process (process_called known from) (process_called known from) && same_target t (names.Process (process_called known to))) (sp.to_is ∙ ap (λ (r : ProcessId). names.Process (process_called known r)) same.1)
      ∙ ap (λ (c : Bool). c && same_process (process_called known to) (process_called known to)) (same_itself (process_called known from)) ∙ same_itself (process_called known to)

  two : is_pair_of (process_called known from) (process_called known to) s ≡ true → o ≡ message (Opening (ends.Process from) (ends.Process to))
  two h =
      let parts = and_parts (same_process s.by (process_called known from)) (same_target s.to (names.Process (process_called known to))) h in
      some_is o (message (Opening (ends.Process from) (ends.Process to))) (sym opens ∙ ap (λ (p : ProcName). pair_opening journal p s.to) (process_is s.by (process_called known from) parts.0) ∙ ap (pair_opening journal (process_called known from)) (target_is s.to (process_called known to) parts.1) ∙ of_pair_opens journal known a b from to pair)

pub got_well : (journal : List Line) (log : List Entry) (world : World) → Known journal log world → SaidWell journal log → (party : Side → Party) (pair : IsPairOf journal party) (x : Side) (id : ℕ) (payload : List ℕ) (word : Option Place) (f : Follows party world x log id payload word) (from to : ProcessId) → IsOfPair journal world.names (party x).name (party (other x)).name from to
    → first_payload id (read_of party world x log) ≡ Some (message (Opening (ends.Process from) (ends.Process to))) → gets_of (process_called world.names from) (process_called world.names to) log ≡ after_first id (read_of party world x log)
    → IsGotWell log (process_called world.names from) (process_called world.names to) (or_first word).epoch (or_first word).index (process_called world.names to)
got_well journal log world k well party pair x id payload word f from to of opened counted = record {
  receives = refl;
  first = epoch_is ∙ first;
  said = said_found p (names.Process q) (or_first word).epoch (or_first word).index log saying.i (entries.Said s.by s.to s.epoch s.index s.mark s.body) saying.at (ap says_it_at (sym same_place) ∙ by_pair.0) (ap says_in_at (sym same_place) ∙ by_pair.1);
  at_once = ap (λ (b : Bool). not b || last_is (says_it p (names.Process q) (or_first word).epoch (or_first word).index) log) apart;
  next = λ differ. ap (λ (e : ℕ). count_by (gets_in p (names.Process q) e) log) (epoch_is ∙ first) ∙ counted ∙ ap (after_first id) (sym f.read) ∙ c.counted ∙ ap (λ (n : List ℕ). count_by (is_pair_of p q) (take c.n (sayings n (party (other x)).name log))) (sym of.from_node) ∙ ap (λ (n : List ℕ). count_by (is_pair_of p q) (take c.n (sayings p.node n log))) (sym of.to_node)
      ∙ sym (index_is journal log k.0.kinds well c.n s p q (ap (λ (n : List ℕ). slice_get (sayings n q.node log) c.n) of.from_node ∙ ap (λ (n : List ℕ). slice_get (sayings (party x).name n log) c.n) of.to_node ∙ w.1) by_is to_is) ∙ ap (λ (l : Place). l.index) same_place;
} where
  p : ProcName
  p = process_called world.names from

  q : ProcName
  q = process_called world.names to

  scene : SceneFacts party world
  scene = k.0.each_pair.shown party pair

  said : List Saying
  said = sayings (party x).name (party (other x)).name log

  opening : List ℕ
  opening = message (Opening (ends.Process from) (ends.Process to))

  pair_of : (n : ℕ) (t : Saying) → slice_get (sayings (party x).name (party (other x)).name log) n ≡ Some t → SaidPair journal world.names (party x).name (party (other x)).name t.by t.to
  pair_of n t at = said_pair journal world.names party pair scene.called_as x log well t (saying_is (party x).name (party (other x)).name log n t at)

  alone : AreAlone (datas_in f.before)
  alone = subst AreAlone (sym f.read) (alone_read journal log world party x (k.1.0 party pair x))

  c : Carried journal (sayings (party x).name (party (other x)).name log) ((id, payload), word) (datas_in f.before) (message (Opening (ends.Process from) (ends.Process to))) id (is_pair_of (process_called world.names from) (process_called world.names to))
  c = carried_next journal (sayings (party x).name (party (other x)).name log) (message (Opening (ends.Process from) (ends.Process to))) id (is_pair_of (process_called world.names from) (process_called world.names to)) (of_opening journal world.names (party x).name (party (other x)).name from to (sayings (party x).name (party (other x)).name log) of pair_of) [] 0 f.before ((id, payload), word) f.rest (length (sayings (party x).name (party (other x)).name log))
      (subst (λ (l : List Word). TrueWords journal (sayings (party x).name (party (other x)).name log) [] 0 l (length (sayings (party x).name (party (other x)).name log))) f.words (k.1.0 party pair x).words) alone (ap (first_payload id) f.read ∙ opened) refl

  w : (s : Saying) × (slice_get (sayings (party x).name (party (other x)).name log) c.n ≡ Some s) × Carries journal (message (Opening (ends.Process from) (ends.Process to))) ((id, payload), word) s
  w = subst (TrueWord journal (sayings (party x).name (party (other x)).name log) c.n ((id, payload), word)) (ap (first_payload id) f.read ∙ opened) c.true_word

  s : Saying
  s = w.0

  saying : IsSaying (party x).name (party (other x)).name log w.0
  saying = saying_is (party x).name (party (other x)).name log c.n w.0 w.1

  sp : SaidPair journal world.names (party x).name (party (other x)).name w.0.by w.0.to
  sp = pair_of c.n w.0 w.1

  same : (sp.from ≡ from) × (sp.receiver ≡ to)
  same = opening_is sp.from sp.receiver from to sp.pair.from_fits sp.pair.to_fits of.from_fits of.to_fits (some_is (message (Opening (ends.Process sp.from) (ends.Process sp.receiver))) (message (Opening (ends.Process from) (ends.Process to))) (sym sp.opens ∙ w.2.pair))

  by_is : w.0.by ≡ process_called world.names from
  by_is = sp.by_is ∙ ap (process_called world.names) same.0

  to_is : w.0.to ≡ names.Process (process_called world.names to)
  to_is = sp.to_is ∙ ap (λ (r : ProcessId). names.Process (process_called world.names r)) same.1

  same_place : record { epoch = w.0.epoch; index = w.0.index } ≡ or_first word
  same_place = sym (ap or_first w.2.place)

  epoch_is : (or_first word).epoch ≡ w.0.epoch
  epoch_is = ap (λ (l : Place). l.epoch) (sym same_place)

  first : w.0.epoch ≡ 0
  first = first_said journal log k.0.kinds well saying.i w.0.by (process_called world.names to) w.0.epoch w.0.index w.0.mark w.0.body (saying.at ∙ ap (λ (t : TargetName). Some (entries.Said w.0.by t w.0.epoch w.0.index w.0.mark w.0.body)) to_is)

  says_it_at : Place → Bool
  says_it_at l = says_it (process_called world.names from) (names.Process (process_called world.names to)) l.epoch l.index (entries.Said w.0.by w.0.to w.0.epoch w.0.index w.0.mark w.0.body)

  says_in_at : Place → Bool
  says_in_at l = says_in (process_called world.names from) (names.Process (process_called world.names to)) l.epoch (entries.Said w.0.by w.0.to w.0.epoch w.0.index w.0.mark w.0.body)

  by_pair : (says_it (process_called world.names from) (names.Process (process_called world.names to)) w.0.epoch w.0.index (entries.Said w.0.by w.0.to w.0.epoch w.0.index w.0.mark w.0.body) ≡ true) × (says_in (process_called world.names from) (names.Process (process_called world.names to)) w.0.epoch (entries.Said w.0.by w.0.to w.0.epoch w.0.index w.0.mark w.0.body) ≡ true)
  by_pair =
      let it = says_this (process_called world.names from) (process_called world.names to) w.0.epoch w.0.index w.0.mark w.0.body in
      let entry : entries.Said w.0.by w.0.to w.0.epoch w.0.index w.0.mark w.0.body ≡ entries.Said (process_called world.names from) (names.Process (process_called world.names to)) w.0.epoch w.0.index w.0.mark w.0.body = ap (λ (r : ProcName). entries.Said r w.0.to w.0.epoch w.0.index w.0.mark w.0.body) by_is ∙ ap (λ (t : TargetName). entries.Said (process_called world.names from) t w.0.epoch w.0.index w.0.mark w.0.body) to_is in
      (ap (says_it (process_called world.names from) (names.Process (process_called world.names to)) w.0.epoch w.0.index) entry ∙ it.0, ap (says_in (process_called world.names from) (names.Process (process_called world.names to)) w.0.epoch) entry ∙ it.1)

  apart : bytes_eq (process_called world.names from).node (process_called world.names to).node ≡ false
  apart = by_test (bytes_eq (process_called world.names from).node (process_called world.names to).node) refl where
    by_test : (b : Bool) → bytes_eq (process_called world.names from).node (process_called world.names to).node ≡ b → b ≡ false
    by_test false h = refl
    by_test true h = absurd (names_apart party world scene x (sym of.from_node ∙ (bytes_eq-Decides (process_called world.names from).node (process_called world.names to).node).0 h ∙ of.to_node))
