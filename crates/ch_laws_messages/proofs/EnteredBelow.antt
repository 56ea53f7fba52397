-- What was got by then stays among the sayings that are carried; and what isn't got between two nodes changes nothing of it.
use Rattle.std.proofs.Common.{◌≡◌, ◌≤◌, ◌<◌, ℕ, zero, suc, ◌+◌, Bool, true, false, cond, ◌&&◌, List, [], ◌∷◌, ◌++◌, Ok, refl, sym, ap, ◌∙◌, subst, arith}
use Rattle.std.specs.Prelude.{slice_get, count_by, Some, None, ◌==◌}
use Rattle.std.specs.Str.{bytes_eq}
use Rattle.std.proofs.lemmas.List.Elements.{filter_map-append}
use Rattle.std.proofs.lemmas.Slice.Eq.{bytes_eq-Decides}
use Rattle.ch_static.specs.declared.target.Target.TheVariants as targets
use Rattle.ch_model.specs.declared.act.Act.{Act}
use Rattle.ch_model.specs.declared.entry.Entry.{Entry}
use Rattle.ch_model.specs.declared.entry.Entry.TheVariants as entries
use Rattle.ch_model.specs.declared.local.LocalEntry.{LocalEntry}
use Rattle.ch_model.specs.declared.local.LocalEntry.TheVariants as local
use Rattle.ch_model.specs.declared.name.ProcName.{ProcName}
use Rattle.ch_model.specs.declared.name.TargetName.TheVariants as names
use Rattle.ch_model.specs.declared.note.Note.TheVariants as notes
use Rattle.ch_model.specs.AccountsFrames.{Saying}
use Rattle.ch_model.specs.CellSteps.{acts_on}
use Rattle.ch_model.specs.Delivery.{gets_in}
use Rattle.ch_model.specs.Naming.{called}
use Rattle.ch_model.specs.NodeIds.{process_id}
use Rattle.ch_model.specs.NodeState.{NodeState}
use Rattle.ch_model.specs.Same.{same_process, node_of}
use Rattle.ch_model.specs.WorldState.{Cell, World}
use Rattle.ch_model.specs.WorldSteps.{all_told}
use Rattle.ch_laws_log.proofs.Stored.{number_same}
use Rattle.ch_laws_plain_logs.specs.Plain.{said_by}
use Rattle.ch_laws_peers.specs.Words.{sayings}
use Rattle.ch_laws_messages.specs.GotReceipts.{GotWell, AreGotWell, IsGotWell}
use Rattle.ch_laws_messages.proofs.GotCounts.{count_both}
use Rattle.ch_laws_messages.proofs.GotGots.{SaidHome}
use Rattle.ch_laws_messages.proofs.GotHearing.{same_itself}
use Rattle.ch_laws_messages.proofs.GotNodes.{ok_is}
use Rattle.ch_laws_messages.proofs.GotTold.{is_receipt, NoGots}
use Rattle.ch_laws_messages.specs.CarriedNexts.{GotBelow, AllBelow}

-- ---- more is said, and more is carried

pub longer : {A : Type 0} (xs more : List A) (i : ℕ) (x : A) → slice_get xs i ≡ Some x → slice_get (xs ++ more) i ≡ Some x
longer [] more i x e = absurd cc
longer (y ∷ xs) more zero x e = e
longer (y ∷ xs) more (suc i) x e = longer xs more i x e

got_later : (x y : List ℕ) (said more : List Saying) (n m : ℕ) → n ≤ m → (entry : Entry) → GotBelow x y said n entry → GotBelow x y (said ++ more) m entry
got_later x y said more n m less (entries.Got by to epoch index receiver) g = λ a b. let w = g a b in (w.0, under w.0 w.1, (w.2.0, longer said more w.0 w.2.0 w.2.1, w.2.2)) where
  under : (i : ℕ) → i < n → i < m
  under i h = omega arith
got_later x y said more n m less entry g = tt

all_later : (x y : List ℕ) (said more : List Saying) (n m : ℕ) → n ≤ m → (log : List Entry) → AllBelow x y said n log → AllBelow x y (said ++ more) m log
all_later x y said more n m less [] g = tt
all_later x y said more n m less (entry ∷ log) g = (got_later x y said more n m less entry g.0, all_later x y said more n m less log g.1)

all_both : (x y : List ℕ) (said : List Saying) (n : ℕ) (one two : List Entry) → AllBelow x y said n one → AllBelow x y said n two → AllBelow x y said n (one ++ two)
all_both x y said n [] two g h = h
all_both x y said n (entry ∷ one) two g h = (g.0, all_both x y said n one two g.1 h)

sayings_both : (x y : List ℕ) (one two : List Entry) → sayings x y (one ++ two) ≡ sayings x y one ++ sayings x y two
sayings_both x y one two = filter_map-append (said_by x y) one two

-- a saying is where it was
pub said_still : (x y : List ℕ) (log more : List Entry) (i : ℕ) (s : Saying) → slice_get (sayings x y log) i ≡ Some s → slice_get (sayings x y (log ++ more)) i ≡ Some s
said_still x y log more i s e = ap (λ (l : List Saying). slice_get l i) (sayings_both x y log more) ∙ longer (sayings x y log) (sayings x y more) i s e

pub goes_on : (x y : List ℕ) (n m : ℕ) (log more : List Entry) → n ≤ m → AllBelow x y (sayings x y log) n log → AllBelow x y (sayings x y (log ++ more)) m more → AllBelow x y (sayings x y (log ++ more)) m (log ++ more)
goes_on x y n m log more less g h = all_both x y (sayings x y (log ++ more)) m log more (subst (λ (l : List Saying). AllBelow x y l m log) (sym (sayings_both x y log more)) (all_later x y (sayings x y log) (sayings x y more) n m less log g)) h

-- ---- what isn't got between the two

-- the entry gets nothing from x at y
abbrev pub GotApart : List ℕ → List ℕ → Entry → Type 0
GotApart x y (entries.Got by to epoch index receiver) = by.node ≡ x → node_of to ≡ y → ⊥
GotApart x y entry = Unit {0}

abbrev pub AllApart : List ℕ → List ℕ → List Entry → Type 0
AllApart x y [] = Unit {0}
AllApart x y (entry ∷ rest) = GotApart x y entry × AllApart x y rest

one_apart : (x y : List ℕ) (said : List Saying) (n : ℕ) (entry : Entry) → GotApart x y entry → GotBelow x y said n entry
one_apart x y said n (entries.Got by to epoch index receiver) g = λ a b. absurd (g a b)
one_apart x y said n entry g = tt

pub apart_below : (x y : List ℕ) (said : List Saying) (n : ℕ) (more : List Entry) → AllApart x y more → AllBelow x y said n more
apart_below x y said n [] g = tt
apart_below x y said n (entry ∷ rest) g = (one_apart x y said n entry g.0, apart_below x y said n rest g.1)

none_apart : (x y : List ℕ) (entry : Entry) → is_receipt entry ≡ false → GotApart x y entry
none_apart x y (entries.Got by to epoch index receiver) e = absurd cc
none_apart x y entry e = tt

pub no_gots_apart : (x y : List ℕ) (more : List Entry) → NoGots more → AllApart x y more
no_gots_apart x y [] n = tt
no_gots_apart x y (entry ∷ rest) n = (none_apart x y entry n.0, no_gots_apart x y rest n.1)

-- a message of the two that is got is counted
counted : (p q : ProcName) (epoch index : ℕ) (log : List Entry) → count_by (gets_in p (names.Process q) epoch) (entries.Got p (names.Process q) epoch index (Some q) ∷ log) ≡ suc (count_by (gets_in p (names.Process q) epoch) log)
counted p q epoch index log = count_both (gets_in p (names.Process q) epoch) (entries.Got p (names.Process q) epoch index (Some q) ∷ []) log
    ∙ ap (λ (b : Bool). (0 + cond b 1 0) + count_by (gets_in p (names.Process q) epoch) log) (ap (λ (b : Bool). b && same_process q q && (epoch == epoch)) (same_itself p) ∙ ap (λ (b : Bool). b && (epoch == epoch)) (same_itself q) ∙ number_same epoch)
    ∙ one_more (count_by (gets_in p (names.Process q) epoch) log) where
      one_more : (n : ℕ) → (0 + 1) + n ≡ suc n
      one_more n = omega arith

-- what is got well after any log isn't got between two nodes: there it has an index, which no two counts are
pub well_apart : (x y : List ℕ) → (x ≡ y → ⊥) → (before more : List Entry) → ((log : List Entry) → AreGotWell (log ++ before) more) → AllApart x y more
well_apart x y differ before [] w = tt
well_apart x y differ before (entry ∷ rest) w = (by_entry entry (λ log. (w log).0), well_apart x y differ (before ++ entry ∷ []) rest (λ log. subst (λ (l : List Entry). AreGotWell l rest) (assoc log) (w log).1)) where
  assoc : (xs : List Entry) → (xs ++ before) ++ entry ∷ [] ≡ xs ++ (before ++ entry ∷ [])
  assoc [] = refl
  assoc (z ∷ xs) = ap (λ (l : List Entry). z ∷ l) (assoc xs)

  by_process : (by q r : ProcName) (epoch index : ℕ) → ((log : List Entry) → IsGotWell (log ++ before) by q epoch index r) → by.node ≡ x → q.node ≡ y → ⊥
  by_process by q r epoch index each a b = two_counts (count_by (gets_in by (names.Process q) epoch) before) index ((each []).next apart) (sym (counted by q epoch index before) ∙ (each (entries.Got by (names.Process q) epoch index (Some q) ∷ [])).next apart) where
    two_counts : (n k : ℕ) → n ≡ k → suc n ≡ k → ⊥
    two_counts n k e f = absurd (omega arith)

    apart : bytes_eq by.node q.node ≡ false
    apart = by_test (bytes_eq by.node q.node) refl where
      by_test : (c : Bool) → bytes_eq by.node q.node ≡ c → c ≡ false
      by_test false h = refl
      by_test true h = absurd (differ (sym a ∙ (bytes_eq-Decides by.node q.node).0 h ∙ b))

  by_entry : (e : Entry) → ((log : List Entry) → GotWell (log ++ before) e) → GotApart x y e
  by_entry (entries.Got by (names.Process q) epoch index (Some r)) each = by_process by q r epoch index each
  by_entry (entries.Got by (names.Process q) epoch index None) each = absurd (each [])
  by_entry (entries.Got by (names.Port q n) epoch index r) each = absurd (each [])
  by_entry (entries.Got by (names.Named node name) epoch index r) each = absurd (each [])
  by_entry e each = tt

-- a message that is said and got within a node isn't got between two
pub home_apart : (x y : List ℕ) → (x ≡ y → ⊥) → (place end : ℕ) (node : NodeState) (done : List Act) (cell : Cell) (told : List LocalEntry) (after at : Cell) (world : World) → SaidHome node done → acts_on end done cell ≡ Ok (told, after) → AllApart x y (all_told place at told world).0
home_apart x y differ place end node done cell told after at world h e = subst (λ (t : List LocalEntry). AllApart x y (all_told place at t world).0) (sym is_told) (tt, ((λ a b. differ (sym a ∙ ap (called world.names) h.here ∙ b)), tt)) where
  is_told : told ≡ local.Note (notes.Said (process_id node h.by) (targets.Process h.to) h.epoch h.index h.said) ∷ local.Note (notes.Got (process_id node h.by) (targets.Process h.to) (Some h.to)) ∷ []
  is_told = sym (ap (λ (x : List LocalEntry × Cell). x.0) (ok_is (local.Note (notes.Said (process_id node h.by) (targets.Process h.to) h.epoch h.index h.said) ∷ local.Note (notes.Got (process_id node h.by) (targets.Process h.to) (Some h.to)) ∷ [], cell) (told, after) (ap (λ (l : List Act). acts_on end l cell) (sym h.is) ∙ e)))
