-- What a node has said to another is found again as the message of its pair, epoch and index.
use Rattle.std.proofs.Common.{◌≡◌, ℕ, zero, suc, Bool, true, false, cond, ◌&&◌, List, [], ◌∷◌, ◌++◌, refl, ap, ◌∙◌, subst}
use Rattle.std.specs.List.{cons_option}
use Rattle.std.specs.Prelude.{filter_map, slice_get, Option, Some, None}
use Rattle.std.specs.Str.{bytes_eq}
use Rattle.ch_model.specs.declared.entry.Entry.{Entry}
use Rattle.ch_model.specs.declared.entry.Entry.TheVariants as entries
use Rattle.ch_model.specs.declared.name.ProcName.{ProcName}
use Rattle.ch_model.specs.declared.name.TargetName.{TargetName}
use Rattle.ch_model.specs.declared.name.TargetName.TheVariants as names
use Rattle.ch_model.specs.AccountsFrames.{Saying}
use Rattle.ch_model.specs.Epochs.{has_next_index}
use Rattle.ch_model.specs.Logs.{each_after}
use Rattle.ch_model.specs.Mailboxes.{message_of}
use Rattle.ch_model.specs.Same.{node_of}
use Rattle.ch_laws_plain_logs.specs.Plain.{said_by}
use Rattle.ch_laws_messages.proofs.MailCalls.{said_once}

-- what is found in a list is found of one of its elements
record Split {A B : Type 0} (look : A → Option B) (xs : List A) (b : B) : Type 0 where
  front : List A
  x : A
  back : List A
  whole : xs ≡ front ++ x ∷ back
  looks : look x ≡ Some b

split : {A B : Type 0} (look : A → Option B) (xs : List A) (n : ℕ) (b : B) → slice_get (filter_map look xs) n ≡ Some b → Split look xs b
split look [] n b e = absurd cc
split {A = A} {B = B} look (x ∷ xs) n b e = by_look (look x) refl n e (split look xs) where
  further : Split look xs b → Split look (x ∷ xs) b
  further s = record { front = x ∷ s.front; x = s.x; back = s.back; whole = ap (λ (l : List A). x ∷ l) s.whole; looks = s.looks }

  by_look : (o : Option B) → look x ≡ o → (n : ℕ) → slice_get (cons_option o (filter_map look xs)) n ≡ Some b → ((n : ℕ) (b : B) → slice_get (filter_map look xs) n ≡ Some b → Split look xs b) → Split look (x ∷ xs) b
  by_look None is n e more = further (more n b e)
  by_look (Some first) is zero e more = record { front = []; x = x; back = xs; whole = refl; looks = is ∙ e }
  by_look (Some first) is (suc n) e more = further (more n b e)

-- the entry that says it
entry_of : (x y : List ℕ) (entry : Entry) (s : Saying) → said_by x y entry ≡ Some s → entry ≡ entries.Said s.by s.to s.epoch s.index s.mark s.body
entry_of x y (entries.Said by to epoch index mark body) s e = by_test (bytes_eq by.node x && bytes_eq (node_of to) y) e where
  by_test : (b : Bool) → cond b (Some (record { by = by; to = to; epoch = epoch; index = index; mark = mark; body = body })) None ≡ Some s → entries.Said by to epoch index mark body ≡ entries.Said s.by s.to s.epoch s.index s.mark s.body
  by_test true e = let same : ◌≡◌ {A = Saying} (record { by = by; to = to; epoch = epoch; index = index; mark = mark; body = body }) s = cc in ap (λ (t : Saying). entries.Said t.by t.to t.epoch t.index t.mark t.body) same
  by_test false e = absurd cc
entry_of x y entry s e = absurd cc

-- what a node has said to a process of another is the one message of its pair, epoch and index, where messages are numbered as they come
pub saying_found : (x y : List ℕ) (log : List Entry) (n : ℕ) (s : Saying) (q : ProcName) → slice_get (filter_map (said_by x y) log) n ≡ Some s → s.to ≡ names.Process q → each_after has_next_index [] log ≡ true
    → message_of log s.by (names.Process q) s.epoch s.index ≡ Some (record { mark = s.mark; body = s.body })
saying_found x y log n s q e to each = by_split (split (said_by x y) log n s e) where
  by_split : Split (said_by x y) log s → message_of log s.by (names.Process q) s.epoch s.index ≡ Some (record { mark = s.mark; body = s.body })
  by_split p = ap (λ (l : List Entry). message_of l s.by (names.Process q) s.epoch s.index) whole ∙ said_once p.front p.back s.by q s.epoch s.index (record { mark = s.mark; body = s.body }) (subst (λ (l : List Entry). each_after has_next_index [] l ≡ true) whole each) where
    whole : log ≡ p.front ++ entries.Said s.by (names.Process q) s.epoch s.index s.mark s.body ∷ p.back
    whole = p.whole ∙ ap (λ (x : Entry). p.front ++ x ∷ p.back) (entry_of x y p.x s p.looks) ∙ ap (λ (t : TargetName). p.front ++ entries.Said s.by t s.epoch s.index s.mark s.body ∷ p.back) to
