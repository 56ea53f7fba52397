-- What follows of a log whose messages are spelled as its journal's grammar allows.
use Rattle.std.specs.Prelude.{◌≡◌, ℕ, zero, suc, ◌<◌, ◌^◌, Bool, true, false, ◌&&◌, List, [], ◌∷◌, ◌++◌, filter_map, slice_get, Some, None, Ok, if◌then◌else◌}
use Rattle.std.specs.List.{AllByRecursion, cons_option}
use Rattle.std.specs.Str.{bytes_eq}
use Rattle.std.proofs.Common.{refl, ap, ◌∙◌, subst}
use Rattle.ch_ident.specs.Fits.{IsUser}
use Rattle.ch_ident.specs.Reading.{user_of}
use Rattle.ch_ident.specs.Spelling.{user}
use Rattle.ch_ident.specs.declared.message.Message.{Message}
use Rattle.ch_ident.proofs.Fields.{name_reads}
use Rattle.ch_model.specs.declared.entry.Entry.{Entry}
use Rattle.ch_model.specs.declared.entry.Entry.TheVariants as entries
use Rattle.ch_model.specs.declared.line.Line.{Line}
use Rattle.ch_model.specs.declared.name.ProcName.{ProcName}
use Rattle.ch_model.specs.declared.name.TargetName.{TargetName}
use Rattle.ch_model.specs.declared.name.TargetName.TheVariants as targets
use Rattle.ch_model.specs.AccountsFrames.{Saying, payload_to}
use Rattle.ch_model.specs.Same.{node_of}
use Rattle.ch_model.specs.World.{names_of}
use Rattle.ch_laws_plain_logs.specs.Plain.{said_by}
use Rattle.ch_laws_spelled.specs.Sayings.{IsWellSaid, IsCounted}
use Rattle.ch_laws_spelled.specs.Spelled.{IsSpelled, IsSentWell, IsWell, SaysWell}
use Rattle.ch_laws_spelled.proofs.Fronts.{first_such}
use Rattle.ch_laws_spelled.proofs.NamesFit.{has_id}

-- a message whose mark is a name is read back as it was spelled
pub user_read : (m : Message) → IsUser m → user_of (user m) ≡ Ok m
unfolding user_of
user_read m is = rw (name_reads.again m.mark m.body is) refl

-- ---- one saying

pub saying_well : (journal : List Line) (by : ProcName) (to : TargetName) (epoch index : ℕ) (mark body : List ℕ) → IsSentWell (names_of journal) by to mark → IsWellSaid journal (record { by = by; to = to; epoch = epoch; index = index; mark = mark; body = body })
saying_well journal by to epoch index mark body w = record {
  marked = w.marked;
  from = has_id journal by w.from;
  receiver = w.receiver;
  is = w.is;
  goes = has_id journal w.receiver w.goes;
  read = ap (λ (t : TargetName). user_of (payload_to t mark body)) w.is ∙ user_read (record { mark = mark; body = body }) w.marked;
}

-- what holds of each holds of one
pub one_such : {A : Type 0} (P : A → Type 0) (xs : List A) → AllByRecursion P xs → (i : ℕ) (x : A) → slice_get xs i ≡ Some x → P x
one_such P [] all i x e = absurd cc
one_such P (y ∷ xs) all zero x e = let same : y ≡ x = cc in subst P same all.0
one_such P (y ∷ xs) all (suc i) x e = one_such P xs all.1 i x e

-- ---- the log

-- what is said anywhere in the log
pub entry_well : (journal : List Line) (log : List Entry) → SaysWell journal log → (i : ℕ) (by : ProcName) (to : TargetName) (epoch index : ℕ) (mark body : List ℕ) → slice_get log i ≡ Some (entries.Said by to epoch index mark body)
    → IsWellSaid journal (record { by = by; to = to; epoch = epoch; index = index; mark = mark; body = body })
entry_well journal log well i by to epoch index mark body e = saying_well journal by to epoch index mark body (one_such (IsWell journal) log well i (entries.Said by to epoch index mark body) e)

-- what a node says to another
pub all_sayings : (journal : List Line) (x y : List ℕ) (log : List Entry) → SaysWell journal log → AllByRecursion (IsWellSaid journal) (filter_map (said_by x y) log)
all_sayings journal x y [] well = tt
all_sayings journal x y (entry ∷ log) well = by_entry entry well.0 (filter_map (said_by x y) log) (all_sayings journal x y log well.1) where
  by_test : (b : Bool) (s : Saying) (rest : List Saying) → IsWellSaid journal s → AllByRecursion (IsWellSaid journal) rest → AllByRecursion (IsWellSaid journal) (cons_option (if b then Some s else None) rest)
  by_test true s rest w more = (w, more)
  by_test false s rest w more = more

  by_entry : (entry : Entry) → IsWell journal entry → (rest : List Saying) → AllByRecursion (IsWellSaid journal) rest → AllByRecursion (IsWellSaid journal) (cons_option (said_by x y entry) rest)
  by_entry (entries.Said by to epoch index mark body) w rest more = by_test (bytes_eq by.node x && bytes_eq (node_of to) y) (record { by = by; to = to; epoch = epoch; index = index; mark = mark; body = body }) rest (saying_well journal by to epoch index mark body w) more
  by_entry entry w rest more = more

pub saying_at : (journal : List Line) (x y : List ℕ) (log : List Entry) → SaysWell journal log → (i : ℕ) (s : Saying) → slice_get (filter_map (said_by x y) log) i ≡ Some s → IsWellSaid journal s
saying_at journal x y log well i s e = one_such (IsWellSaid journal) (filter_map (said_by x y) log) (all_sayings journal x y log well) i s e

-- the counters of what an entry says
pub is_counted : (journal : List Line) (entry : Entry) → IsWell journal entry → IsCounted entry
is_counted journal (entries.Said by (targets.Process to) epoch index mark body) w = (w.from.fits.2, by_receiver w.receiver w.is w.goes) where
  by_receiver : (p : ProcName) → targets.Process to ≡ targets.Process p → IsSpelled (names_of journal) p → to.counter < 2 ^ 32
  by_receiver p e is = let same : p ≡ to = cc in subst (λ (q : ProcName). q.counter < 2 ^ 32) same is.fits.2
is_counted journal entry w = tt

pub all_counted : (journal : List Line) (log : List Entry) → SaysWell journal log → AllByRecursion IsCounted log
all_counted journal [] well = tt
all_counted journal (entry ∷ log) well = (is_counted journal entry well.0, all_counted journal log well.1)

-- the first entries of such a log are so
pub first_well : (journal : List Line) (one two : List Entry) → SaysWell journal (one ++ two) → SaysWell journal one
first_well journal one two well = first_such (IsWell journal) one two well

-- entries that follow may be added
pub both_well : (journal : List Line) (one two : List Entry) → SaysWell journal one → SaysWell journal two → SaysWell journal (one ++ two)
both_well journal [] two a b = b
both_well journal (x ∷ one) two a b = (a.0, both_well journal one two a.1 b)
