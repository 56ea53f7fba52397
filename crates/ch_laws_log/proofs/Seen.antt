-- What is seen of a socket in a log is what the tests of the lawful log find there.
use Rattle.std.proofs.Common.{◌≡◌, ℕ, zero, suc, ◌+◌, Bool, true, false, cond, not, ◌||◌, List, [], ◌∷◌, ◌++◌, length, drop, refl, sym, ap, ◌∙◌, append_assoc, arith}
use Rattle.std.proofs.lemmas.List.{append-nil}
use Rattle.std.proofs.lemmas.List.Sums.{sum_by-cons}
use Rattle.std.specs.List.{list_any, flat_map, fold}
use Rattle.std.specs.Prelude.{sum_by, Some, None}
use Rattle.ch_model.specs.declared.name.SockName.{SockName}
use Rattle.ch_model.specs.declared.name.End.{End}
use Rattle.ch_model.specs.declared.name.End.TheVariants.{O, T}
use Rattle.ch_model.specs.declared.entry.Entry.{Entry}
use Rattle.ch_model.specs.declared.entry.Entry.TheVariants as entries
use Rattle.ch_model.specs.declared.line.Line.{Line}
use Rattle.ch_model.specs.AnswersEntries.{refuses}
use Rattle.ch_model.specs.Declarations.{has_host}
use Rattle.ch_model.specs.Logs.{some_and}
use Rattle.ch_model.specs.Sockets.{is_opening, opens_opener, opens_target, closes, ends_opener, cuts, unclosed_state, end_state, stands_at, puts, feeds, written, fed, is_cut, unread}
use Rattle.ch_model.specs.Stages.{Stage, Pending, Open, Ended, is_ended}
use Rattle.ch_model.specs.WorldState.{WorldEnd}
use Rattle.ch_laws_log.specs.Agrees.{IsAsTold}
use Rattle.ch_laws_log.proofs.Views.{SeenEnd, Seen, unseen, is_of, grown, raised, sees, sees_entry, seen_in, end_seen, stage_seen}

fold_end : {A B : Type 0} (f : B → A → B) (a : B) (xs : List A) (x : A) → fold f a (xs ++ x ∷ []) ≡ f (fold f a xs) x
fold_end f a [] x = refl
fold_end f a (y ∷ ys) x = fold_end f (f a y) ys x

-- one more entry
pub seen_more : (log : List Entry) (s : SockName) (x : Entry) → seen_in (log ++ x ∷ []) s ≡ sees (is_of s x) x (seen_in log s)
seen_more log s x = fold_end (sees_entry s) unseen log x

-- an entry of another socket, or of none, shows nothing of this one
pub sees_nothing : (x : Entry) (seen : Seen) → sees false x seen ≡ seen
sees_nothing (entries.Dial sock) seen = refl
sees_nothing x seen = refl

pub unmoved : (log : List Entry) (s : SockName) (x : Entry) → is_of s x ≡ false → seen_in (log ++ x ∷ []) s ≡ seen_in log s
unmoved log s x e = seen_more log s x ∙ ap (λ b. sees b x (seen_in log s)) e ∙ sees_nothing x (seen_in log s)

pub moved : (log : List Entry) (s : SockName) (x : Entry) → is_of s x ≡ true → seen_in (log ++ x ∷ []) s ≡ sees true x (seen_in log s)
moved log s x e = seen_more log s x ∙ ap (λ b. sees b x (seen_in log s)) e

-- ---- a field that is set once

swap : (a b c : Bool) → (a || (b || c)) ≡ ((b || a) || c)
swap true true c = refl
swap true false c = refl
swap false true c = refl
swap false false c = refl

or_none : (b : Bool) → (b || false) ≡ b
or_none true = refl
or_none false = refl

set_from : (p : Entry → Bool) (get : Seen → Bool) (s : SockName) → ((x : Entry) (v : Seen) → get (sees_entry s v x) ≡ (p x || get v)) → (log : List Entry) (v : Seen) → get (fold (sees_entry s) v log) ≡ (list_any p log || get v)
set_from p get s h [] v = refl
set_from p get s h (x ∷ xs) v = set_from p get s h xs (sees_entry s v x) ∙ ap (λ b. list_any p xs || b) (h x v) ∙ swap (list_any p xs) (p x) (get v)

set_once : (p : Entry → Bool) (get : Seen → Bool) (s : SockName) → ((x : Entry) (v : Seen) → get (sees_entry s v x) ≡ (p x || get v)) → get unseen ≡ false → (log : List Entry) → get (seen_in log s) ≡ list_any p log
set_once p get s h e log = set_from p get s h log unseen ∙ ap (λ b. list_any p log || b) e ∙ or_none (list_any p log)

pub opened_is : (log : List Entry) (s : SockName) → (seen_in log s).opened ≡ list_any (is_opening s) log
opened_is log s = set_once (is_opening s) (λ v. v.opened) s one refl log where
  one : (x : Entry) (v : Seen) → (sees_entry s v x).opened ≡ (is_opening s x || v.opened)
  one (entries.Dial sock) v = refl
  one x v = refl

joined_is : (log : List Entry) (s : SockName) → (seen_in log s).joined ≡ list_any (opens_opener s) log
joined_is log s = set_once (opens_opener s) (λ v. v.joined) s one refl log where
  one : (x : Entry) (v : Seen) → (sees_entry s v x).joined ≡ (opens_opener s x || v.joined)
  one (entries.Joined sock) v = refl
  one x v = refl

came_is : (log : List Entry) (s : SockName) → (seen_in log s).came ≡ list_any (opens_target s) log
came_is log s = set_once (opens_target s) (λ v. v.came) s one refl log where
  one : (x : Entry) (v : Seen) → (sees_entry s v x).came ≡ (opens_target s x || v.came)
  one (entries.Came sock) v = refl
  one x v = refl

over_is : (log : List Entry) (s : SockName) → (seen_in log s).over ≡ list_any (ends_opener s) log
over_is log s = set_once (ends_opener s) (λ v. v.over) s one refl log where
  one : (x : Entry) (v : Seen) → (sees_entry s v x).over ≡ (ends_opener s x || v.over)
  one (entries.Refused sock) v = refl
  one x v = refl

pub refused_is : (log : List Entry) (s : SockName) → (seen_in log s).refused ≡ list_any (refuses s) log
refused_is log s = set_once (refuses s) (λ v. v.refused) s one refl log where
  one : (x : Entry) (v : Seen) → (sees_entry s v x).refused ≡ (refuses s x || v.refused)
  one (entries.Refused sock) v = refl
  one x v = refl

closed_is : (log : List Entry) (s : SockName) (e : End) → (end_seen e (seen_in log s)).closed ≡ list_any (closes s e) log
closed_is log s O = set_once (closes s O) (λ v. v.o.closed) s one refl log where
  one : (x : Entry) (v : Seen) → (sees_entry s v x).o.closed ≡ (closes s O x || v.o.closed)
  one (entries.Down sock end) v = refl
  one x v = refl
closed_is log s T = set_once (closes s T) (λ v. v.t.closed) s one refl log where
  one : (x : Entry) (v : Seen) → (sees_entry s v x).t.closed ≡ (closes s T x || v.t.closed)
  one (entries.Down sock end) v = refl
  one x v = refl

pub cut_is : (log : List Entry) (s : SockName) (e : End) → (end_seen e (seen_in log s)).cut ≡ is_cut log s e
cut_is log s O = set_once (cuts s O) (λ v. v.o.cut) s one refl log where
  one : (x : Entry) (v : Seen) → (sees_entry s v x).o.cut ≡ (cuts s O x || v.o.cut)
  one (entries.Cut sock end) v = refl
  one x v = refl
cut_is log s T = set_once (cuts s T) (λ v. v.t.cut) s one refl log where
  one : (x : Entry) (v : Seen) → (sees_entry s v x).t.cut ≡ (cuts s T x || v.t.cut)
  one (entries.Cut sock end) v = refl
  one x v = refl

-- ---- bytes

pub grown_is : (old new : List ℕ) → grown old new ≡ old ++ new
grown_is old [] = sym (append-nil old)
grown_is old (b ∷ bytes) = refl

pub raised_is : (old new : ℕ) → raised old new ≡ old + new
raised_is old zero = zero_last old where
  zero_last : (n : ℕ) → n ≡ n + 0
  zero_last n = omega arith
raised_is old (suc n) = refl

written_from : (p : Entry → List ℕ) (get : Seen → List ℕ) (s : SockName) → ((x : Entry) (v : Seen) → get (sees_entry s v x) ≡ grown (get v) (p x)) → (log : List Entry) (v : Seen) → get (fold (sees_entry s) v log) ≡ get v ++ flat_map p log
written_from p get s h [] v = sym (append-nil (get v))
written_from p get s h (x ∷ xs) v = written_from p get s h xs (sees_entry s v x) ∙ ap (λ l. l ++ flat_map p xs) (h x v ∙ grown_is (get v) (p x)) ∙ append_assoc (get v) (p x) (flat_map p xs)

pub written_is : (log : List Entry) (s : SockName) (e : End) → (end_seen e (seen_in log s)).written ≡ written log s e
written_is log s O = written_from (puts s O) (λ v. v.o.written) s one log unseen where
  one : (x : Entry) (v : Seen) → (sees_entry s v x).o.written ≡ grown v.o.written (puts s O x)
  one (entries.Wrote sock end bytes) v = refl
  one x v = refl
written_is log s T = written_from (puts s T) (λ v. v.t.written) s one log unseen where
  one : (x : Entry) (v : Seen) → (sees_entry s v x).t.written ≡ grown v.t.written (puts s T x)
  one (entries.Wrote sock end bytes) v = refl
  one x v = refl

fed_from : (p : Entry → ℕ) (get : Seen → ℕ) (s : SockName) → ((x : Entry) (v : Seen) → get (sees_entry s v x) ≡ raised (get v) (p x)) → (log : List Entry) (v : Seen) → get (fold (sees_entry s) v log) ≡ get v + sum_by p log
fed_from p get s h [] v = zero_last (get v) where
  zero_last : (n : ℕ) → n ≡ n + 0
  zero_last n = omega arith
fed_from p get s h (x ∷ xs) v = fed_from p get s h xs (sees_entry s v x) ∙ ap (λ n. n + sum_by p xs) (h x v ∙ raised_is (get v) (p x)) ∙ added (get v) (p x) (sum_by p xs) ∙ ap (λ n. get v + n) (sym (sum_by-cons p x xs)) where
  added : (a b c : ℕ) → (a + b) + c ≡ a + (b + c)
  added a b c = omega arith

none_before : (n : ℕ) → 0 + n ≡ n
none_before n = omega arith

pub fed_is : (log : List Entry) (s : SockName) (e : End) → (end_seen e (seen_in log s)).fed ≡ fed log s e
fed_is log s O = fed_from (feeds s O) (λ v. v.o.fed) s one log unseen ∙ none_before (sum_by (feeds s O) log) where
  one : (x : Entry) (v : Seen) → (sees_entry s v x).o.fed ≡ raised v.o.fed (feeds s O x)
  one (entries.Fed sock end count) v = refl
  one x v = refl
fed_is log s T = fed_from (feeds s T) (λ v. v.t.fed) s one log unseen ∙ none_before (sum_by (feeds s T) log) where
  one : (x : Entry) (v : Seen) → (sees_entry s v x).t.fed ≡ raised v.t.fed (feeds s T x)
  one (entries.Fed sock end count) v = refl
  one x v = refl

-- ---- an end

-- what is unread is what was written past what was fed
pub record HasFront (seen : SeenEnd) (left : List ℕ) : Type 0 where
  pub front : List ℕ
  pub is : seen.written ≡ front ++ left
  pub count : length front ≡ seen.fed

-- where an end is over or cut, nothing is unread
abbrev pub UnreadIs : Bool → SeenEnd → List ℕ → Type 0
UnreadIs true seen left = left ≡ []
UnreadIs false seen left = HasFront seen left

pub record EndFits (stage : Stage) (seen : SeenEnd) (end : WorldEnd) : Type 0 where
  pub stands : stage ≡ end.stage
  pub cut_same : seen.cut ≡ end.is_cut
  pub left : UnreadIs (is_ended end.stage || end.is_cut) seen end.unread

drop_front : (front left : List ℕ) → drop (length front) (front ++ left) ≡ left
drop_front [] left = refl
drop_front (b ∷ front) left = drop_front front left

left_is : (gone : Bool) (seen : SeenEnd) (left : List ℕ) → UnreadIs gone seen left → cond gone [] (drop seen.fed seen.written) ≡ left
left_is true seen left h = sym h
left_is false seen left h = ap (λ n. drop n seen.written) (sym h.count) ∙ ap (λ l. drop (length h.front) l) h.is ∙ drop_front h.front left

state_by : (opening closed : Bool) (stage : Stage) → opening ≡ true → cond (not opening) None (cond closed (Some Ended) (Some stage)) ≡ Some (cond closed Ended stage)
state_by true true stage e = refl
state_by true false stage e = refl
state_by false closed stage e = absurd cc

pub state_told : (journal : List Line) (log : List Entry) (s : SockName) (e : End) → (seen_in log s).opened ≡ true → end_state journal log s e ≡ Some (stage_seen (has_host journal s.to) e (seen_in log s))
state_told journal log s O o = state_by (list_any (is_opening s) log) (list_any (closes s O) log) (unclosed_state journal log s O) (sym (opened_is log s) ∙ o)
    ∙ ap (λ b. Some (cond b Ended (unclosed_state journal log s O))) (sym (closed_is log s O))
    ∙ ap (λ b. Some (cond (seen_in log s).o.closed Ended (cond b Ended (cond (list_any (opens_opener s) log) Open Pending)))) (sym (over_is log s))
    ∙ ap (λ b. Some (cond (seen_in log s).o.closed Ended (cond (seen_in log s).over Ended (cond b Open Pending)))) (sym (joined_is log s))
state_told journal log s T o = state_by (list_any (is_opening s) log) (list_any (closes s T) log) (unclosed_state journal log s T) (sym (opened_is log s) ∙ o)
    ∙ ap (λ b. Some (cond b Ended (unclosed_state journal log s T))) (sym (closed_is log s T))
    ∙ ap (λ b. Some (cond (seen_in log s).t.closed Ended (cond (not (has_host journal s.to)) Ended (cond b Open Pending)))) (sym (came_is log s))

-- an end that fits what was seen is as the log tells
pub as_told : (journal : List Line) (log : List Entry) (s : SockName) (e : End) (end : WorldEnd) → (seen_in log s).opened ≡ true → EndFits (stage_seen (has_host journal s.to) e (seen_in log s)) (end_seen e (seen_in log s)) end → IsAsTold journal log s e end
as_told journal log s e end opened fits = record { stage = stage; stands = stands; cut = cut; unread = left } where
  stage : end_state journal log s e ≡ Some end.stage
  stage = state_told journal log s e opened ∙ ap Some fits.stands

  stands : (test : Stage → Bool) → stands_at journal log s e test ≡ test end.stage
  stands test = ap (some_and test) stage

  cut : is_cut log s e ≡ end.is_cut
  cut = sym (cut_is log s e) ∙ fits.cut_same

  left : unread journal log s e ≡ end.unread
  left = ap (λ b. cond (b || is_cut log s e) [] (drop (fed log s e) (written log s e))) (stands is_ended)
      ∙ ap (λ b. cond (is_ended end.stage || b) [] (drop (fed log s e) (written log s e))) cut
      ∙ ap (λ n. cond (is_ended end.stage || end.is_cut) [] (drop n (written log s e))) (sym (fed_is log s e))
      ∙ ap (λ l. cond (is_ended end.stage || end.is_cut) [] (drop (end_seen e (seen_in log s)).fed l)) (sym (written_is log s e))
      ∙ left_is (is_ended end.stage || end.is_cut) (end_seen e (seen_in log s)) end.unread fits.left
