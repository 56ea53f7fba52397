-- How a plain log is looked through simply: what is collected in it, which sockets are up, and which payloads are users'.
use Rattle.std.proofs.Common.{◌≡◌, ℕ, Bool, true, false, cond, not, ◌&&◌, List, [], ◌∷◌, ◌++◌, length, refl, sym, ap, ◌∙◌, append_assoc}
use Rattle.std.proofs.lemmas.Bool.{and_parts}
use Rattle.std.proofs.lemmas.List.{append-nil}
use Rattle.std.specs.List.{list_all, filter, filter_map, cons_option}
use Rattle.std.specs.Prelude.{Option, Some, None, is_some, slice_get, if◌then◌else◌}
use Rattle.std.specs.Str.{bytes_eq}
use Rattle.ch_model.specs.declared.entry.Entry.{Entry}
use Rattle.ch_model.specs.declared.entry.Entry.TheVariants as entries
use Rattle.ch_model.specs.declared.line.Line.{Line}
use Rattle.ch_model.specs.declared.name.SockName.{SockName}
use Rattle.ch_model.specs.declared.name.End.{End}
use Rattle.ch_model.specs.AccountsFrames.{Saying, going, said_between, datas, is_user_data, user_data, next_carried}
use Rattle.ch_model.specs.AccountsItems.{first_payload, opens_nodes}
use Rattle.ch_model.specs.Epochs.{breaks}
use Rattle.ch_model.specs.Links.{risen_with, is_still_up, up_sockets}
use Rattle.ch_model.specs.Logs.{never, collected, collected_after, kept_with, some_and}
use Rattle.ch_model.specs.Same.{node_of, owner, across}
use Rattle.ch_laws_plain_logs.specs.Plain.{is_plain, IsPlain, HasNoNodePayloads, said_by}
use Rattle.ch_laws_plain_logs.proofs.Plain.{plain_more}
use Rattle.ch_laws_plain_logs.proofs.None.{never_resets}
use Rattle.ch_laws_plain_logs.proofs.Absent.{no_breaks, no_pair_broken, still_up}

-- ---- what is collected

as_filter_from : {A : Type 0} (look : List Entry → Entry → Option A) (plainly : Entry → Option A) → ((before : List Entry) (x : Entry) → IsPlain before → is_plain x ≡ true → look before x ≡ plainly x)
    → (before : List Entry) (kept : List A) (log : List Entry) → IsPlain before → IsPlain log → collected_after never look before kept log ≡ kept ++ filter_map plainly log
as_filter_from look plainly one before kept [] b p = sym (append-nil kept)
as_filter_from {A = A} look plainly one before kept (x ∷ log) b p =
    let parts = and_parts (is_plain x) (list_all is_plain log) p in
    ap (λ o. collected_after never look (before ++ x ∷ []) (kept_with o kept) log) (one before x b parts.0)
    ∙ as_filter_from look plainly one (before ++ x ∷ []) (kept_with (plainly x) kept) log (plain_more before x b parts.0) parts.1 ∙ kept_more (plainly x)
  where
    kept_more : (o : Option A) → kept_with o kept ++ filter_map plainly log ≡ kept ++ cons_option o (filter_map plainly log)
    kept_more None = refl
    kept_more (Some y) = append_assoc kept (y ∷ []) (filter_map plainly log)

-- what is found of each entry after a plain log as if nothing stood before is collected as if nothing did
pub as_filter : {A : Type 0} (look : List Entry → Entry → Option A) (plainly : Entry → Option A) → ((before : List Entry) (x : Entry) → IsPlain before → is_plain x ≡ true → look before x ≡ plainly x)
    → (log : List Entry) → IsPlain log → collected never look log ≡ filter_map plainly log
as_filter look plainly one log p = as_filter_from look plainly one [] [] log refl p

going_plainly : (x y : List ℕ) (before : List Entry) (entry : Entry) → IsPlain before → is_plain entry ≡ true → going x y before entry ≡ said_by x y entry
going_plainly x y before (entries.Said by to epoch index mark body) plain e =
    ap (λ b. if bytes_eq by.node x && bytes_eq (node_of to) y && not b then Some saying else None) (no_pair_broken before by to plain)
    ∙ ap (λ b. if b then Some saying else None) (and_true (bytes_eq by.node x && bytes_eq (node_of to) y))
  where
    saying : Saying
    saying = record { by = by; to = to; epoch = epoch; index = index; mark = mark; body = body }

    and_true : (b : Bool) → (b && true) ≡ b
    and_true true = refl
    and_true false = refl
going_plainly x y before entry plain e = refl

-- all that x ever said to y was said since the last break
pub said_between_plainly : (log : List Entry) (x y : List ℕ) → IsPlain log → said_between log x y ≡ filter_map (said_by x y) log
said_between_plainly log x y plain = never_resets (breaks x y) (no_breaks x y) (going x y) log plain ∙ as_filter (going x y) (said_by x y) (going_plainly x y) log plain

-- the next payload carries what was said after as many as were ever carried
pub carried_next : (journal : List Line) (log : List Entry) (x y : List ℕ) → IsPlain log → next_carried journal log x y ≡ slice_get (filter_map (said_by x y) log) (length (collected never (user_data journal x y) log))
carried_next journal log x y plain =
    ap (λ sayings. slice_get sayings (length (collected (breaks x y) (user_data journal x y) log))) (said_between_plainly log x y plain)
    ∙ ap (λ carried. slice_get (filter_map (said_by x y) log) (length carried)) (never_resets (breaks x y) (no_breaks x y) (user_data journal x y) log plain)

-- each payload but the first under its id is a user's
pub user_after_first : (journal : List Line) (log : List Entry) (sock : SockName) (end : End) (d : ℕ × List ℕ) → HasNoNodePayloads journal log → is_user_data journal log sock end d ≡ is_some (first_payload d.0 (datas log sock end))
user_after_first journal log sock end d unopened = by_first (first_payload d.0 (datas log sock end)) (unopened sock end d.0) where
  by_first : (o : Option (List ℕ)) → some_and (opens_nodes journal (owner sock end) (owner sock (across end))) o ≡ false → some_and (λ opening. not (opens_nodes journal (owner sock end) (owner sock (across end)) opening)) o ≡ is_some o
  by_first None e = refl
  by_first (Some opening) e = ap not e

-- ---- sockets

all_filtered : {A : Type 0} (test : A → Bool) → ((x : A) → test x ≡ true) → (xs : List A) → filter test xs ≡ xs
all_filtered test passes [] = refl
all_filtered test passes (x ∷ xs) = ap (λ b. cond b (x ∷ filter test xs) (filter test xs)) (passes x) ∙ ap (λ l. x ∷ l) (all_filtered test passes xs)

-- x is up with y on each socket on which it came up
pub up_since_risen : (log : List Entry) (x y : List ℕ) → IsPlain log → up_sockets log x y ≡ filter_map (risen_with x y) log
up_since_risen log x y plain = all_filtered (is_still_up log x) (λ sock. still_up log x sock plain) (filter_map (risen_with x y) log)
