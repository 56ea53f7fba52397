-- What a log tells of ends that come up and are closed, where each entry is one that may be told.
use Rattle.std.proofs.Common.{◌≡◌, ◌⊎◌, inl, inr, ℕ, Bool, true, false, cond, not, ◌&&◌, ◌||◌, List, [], ◌∷◌, ◌++◌, refl, sym, ap, ◌∙◌, subst, append_assoc}
use Rattle.std.proofs.lemmas.Bool.{and_parts}
use Rattle.std.proofs.lemmas.List.{append-nil}
use Rattle.std.proofs.lemmas.List.Folds.{list_any-append}
use Rattle.std.proofs.lemmas.Slice.Eq.{bytes_eq-Decides}
use Rattle.std.specs.List.{list_any, list_all}
use Rattle.std.specs.Str.{bytes_eq}
use Rattle.ch_model.specs.declared.entry.Entry.{Entry}
use Rattle.ch_model.specs.declared.entry.Entry.TheVariants as entries
use Rattle.ch_model.specs.declared.name.End.{End}
use Rattle.ch_model.specs.declared.name.End.TheVariants.{O, T}
use Rattle.ch_model.specs.declared.name.SockName.{SockName}
use Rattle.ch_model.specs.Links.{rises, goes_down, leaves, has_risen, is_closed, rises_once, falls_from_up, leaves_unrisen, rests_closed}
use Rattle.ch_model.specs.Logs.{each_after, always_after}
use Rattle.ch_model.specs.Same.{same_socket, same_end, owner, end_of}
use Rattle.ch_model.specs.Sockets.{closes}
use Rattle.ch_laws_log.proofs.Stored.{bytes_same}
use Rattle.ch_laws_links.proofs.Found.{one_is}
use Rattle.ch_laws_links.proofs.Risen.{may_tell}
use Rattle.ch_laws_calls.proofs.ScenesPlaces.{first_or, second_or}
use Rattle.ch_laws_live.specs.Turns.{is_start, is_turn}
use Rattle.ch_laws_live.proofs.Entries.{both}

-- each entry was one that may be told
abbrev pub IsMay : List Entry → Type 0
IsMay log = each_after may_tell [] log ≡ true

-- ---- tests of booleans

pub not_true : (b : Bool) → not b ≡ true → b ≡ false
not_true false e = refl
not_true true e = absurd cc

pub not_false : (b : Bool) → b ≡ false → not b ≡ true
not_false b e = ap not e

pub clash : (b : Bool) → b ≡ true → b ≡ false → ⊥
clash b t f = absurd cc

pub or_either : (a b : Bool) → (a || b) ≡ true → (a ≡ true) ⊎ (b ≡ true)
or_either true b e = inl refl
or_either false b e = inr e

pub or_none : (a b : Bool) → a ≡ false → b ≡ false → (a || b) ≡ false
or_none true b e g = absurd cc
or_none false b e g = g

pub or_parts : (a b : Bool) → (a || b) ≡ false → (a ≡ false) × (b ≡ false)
or_parts true b e = absurd cc
or_parts false b e = (refl, e)

-- ---- lists

pub any_split : (p : Entry → Bool) (front : List Entry) (x : Entry) (back : List Entry) → list_any p (front ++ x ∷ back) ≡ (list_any p front || (p x || list_any p back))
any_split p front x back = list_any-append p front (x ∷ back)

pub any_more : (p : Entry → Bool) (front back : List Entry) → list_any p front ≡ true → list_any p (front ++ back) ≡ true
any_more p front back e = list_any-append p front back ∙ first_or (list_any p front) (list_any p back) e

pub any_less : (p : Entry → Bool) (front back : List Entry) → list_any p (front ++ back) ≡ false → list_any p front ≡ false
any_less p front back e = (or_parts (list_any p front) (list_any p back) (sym (list_any-append p front back) ∙ e)).0

pub any_last : (p : Entry → Bool) (front : List Entry) (x : Entry) → p x ≡ true → list_any p (front ++ x ∷ []) ≡ true
any_last p front x e = list_any-append p front (x ∷ []) ∙ second_or (list_any p front) (p x || false) (first_or (p x) false e)

-- what holds of no other entry than of those holds of none here
pub none_among : (p : Entry → Bool) (those : Entry → Bool) → ((x : Entry) → those x ≡ false → p x ≡ false) → (log : List Entry) → list_all (λ x. not (those x)) log ≡ true → list_any p log ≡ false
none_among p those only [] n = refl
none_among p those only (x ∷ log) n = let parts = and_parts (not (those x)) (list_all (λ x. not (those x)) log) n in or_none (p x) (list_any p log) (only x (not_true (those x) parts.0)) (none_among p those only log parts.1)

pub each_front : (test : List Entry → Entry → Bool) (before front back : List Entry) → each_after test before (front ++ back) ≡ true → each_after test before front ≡ true
each_front test before [] back e = refl
each_front test before (x ∷ front) back e = let parts = and_parts (test before x) (each_after test (before ++ x ∷ []) (front ++ back)) e in both (test before x) (each_after test (before ++ x ∷ []) front) parts.0 (each_front test (before ++ x ∷ []) front back parts.1)

pub each_at : (test : List Entry → Entry → Bool) (before front : List Entry) (x : Entry) (back : List Entry) → each_after test before (front ++ x ∷ back) ≡ true → test (before ++ front) x ≡ true
each_at test before [] x back e = subst (λ (l : List Entry). test l x ≡ true) (sym (append-nil before)) (and_parts (test before x) (each_after test (before ++ x ∷ []) back) e).0
each_at test before (y ∷ front) x back e = subst (λ (l : List Entry). test l x ≡ true) (append_assoc before (y ∷ []) front) (each_at test (before ++ y ∷ []) front x back (and_parts (test before y) (each_after test (before ++ y ∷ []) (front ++ x ∷ back)) e).1)

pub always_append : (test : List Entry → Bool) (before xs ys : List Entry) → always_after test before xs ≡ true → always_after test (before ++ xs) ys ≡ true → always_after test before (xs ++ ys) ≡ true
always_append test before [] ys a b = subst (λ (l : List Entry). always_after test l ys ≡ true) (append-nil before) b
always_append test before (x ∷ xs) ys a b = let parts = and_parts (test before) (always_after test (before ++ x ∷ []) xs) a in
    both (test before) (always_after test (before ++ x ∷ []) (xs ++ ys)) parts.0 (always_append test (before ++ x ∷ []) xs ys parts.1 (subst (λ (l : List Entry). always_after test l ys ≡ true) (sym (append_assoc before (x ∷ []) xs)) b))

-- ---- kinds of entries

pub rises_start : (s : SockName) (e : End) (x : Entry) → is_start x ≡ false → rises s e x ≡ false
rises_start s e (entries.Up sock end) n = absurd cc
rises_start s e x n = refl

pub rises_turn : (s : SockName) (e : End) (x : Entry) → is_turn x ≡ false → rises s e x ≡ false
rises_turn s e (entries.Up sock end) n = absurd cc
rises_turn s e x n = refl

pub down_turn : (s : SockName) (e : End) (x : Entry) → is_turn x ≡ false → goes_down s e x ≡ false
down_turn s e (entries.Down sock end) n = absurd cc
down_turn s e x n = refl

pub closes_turn : (s : SockName) (e : End) (x : Entry) → is_turn x ≡ false → closes s e x ≡ false
closes_turn s e (entries.Down sock end) n = absurd cc
closes_turn s e (entries.Left sock end) n = absurd cc
closes_turn s e x n = refl

pub down_no_start : (s : SockName) (e : End) (x : Entry) → is_start x ≡ true → goes_down s e x ≡ false
down_no_start s e (entries.Down sock end) n = absurd cc
down_no_start s e x n = refl

pub closes_no_start : (s : SockName) (e : End) (x : Entry) → is_start x ≡ true → closes s e x ≡ false
closes_no_start s e (entries.Down sock end) n = absurd cc
closes_no_start s e (entries.Left sock end) n = absurd cc
closes_no_start s e x n = refl

-- an end is closed as it goes down, or is left
pub closed_how : (s : SockName) (e : End) (log : List Entry) → is_closed log s e ≡ true → (list_any (goes_down s e) log ≡ true) ⊎ (list_any (leaves s e) log ≡ true)
closed_how s e [] c = absurd cc
closed_how s e (x ∷ log) c = by_entry x c (closed_how s e log) where
  Down : Bool → Bool
  Down b = b || list_any (goes_down s e) log

  Left : Bool → Bool
  Left b = b || list_any (leaves s e) log

  later : (a b : Bool) → (list_any (goes_down s e) log ≡ true) ⊎ (list_any (leaves s e) log ≡ true) → (Down a ≡ true) ⊎ (Left b ≡ true)
  later a b (inl d) = inl (second_or a (list_any (goes_down s e) log) d)
  later a b (inr l) = inr (second_or b (list_any (leaves s e) log) l)

  here_down : (b : Bool) → (b || is_closed log s e) ≡ true → (is_closed log s e ≡ true → (list_any (goes_down s e) log ≡ true) ⊎ (list_any (leaves s e) log ≡ true)) → (Down b ≡ true) ⊎ (Left false ≡ true)
  here_down true c more = inl refl
  here_down false c more = later false false (more c)

  here_left : (b : Bool) → (b || is_closed log s e) ≡ true → (is_closed log s e ≡ true → (list_any (goes_down s e) log ≡ true) ⊎ (list_any (leaves s e) log ≡ true)) → (Down false ≡ true) ⊎ (Left b ≡ true)
  here_left true c more = inr refl
  here_left false c more = later false false (more c)

  by_entry : (x : Entry) → (closes s e x || is_closed log s e) ≡ true → (is_closed log s e ≡ true → (list_any (goes_down s e) log ≡ true) ⊎ (list_any (leaves s e) log ≡ true)) → (Down (goes_down s e x) ≡ true) ⊎ (Left (leaves s e x) ≡ true)
  by_entry (entries.Down sock end) c more = here_down (same_socket sock s && same_end end e) c more
  by_entry (entries.Left sock end) c more = here_left (same_socket sock s && same_end end e) c more
  by_entry x c more = more c

down_closes : (s : SockName) (e : End) (log : List Entry) → list_any (goes_down s e) log ≡ true → is_closed log s e ≡ true
down_closes s e [] c = absurd cc
down_closes s e (x ∷ log) c = by_entry x c (down_closes s e log) where
  by_entry : (x : Entry) → (goes_down s e x || list_any (goes_down s e) log) ≡ true → (list_any (goes_down s e) log ≡ true → is_closed log s e ≡ true) → (closes s e x || is_closed log s e) ≡ true
  by_entry (entries.Down sock end) c more = by_test (same_socket sock s && same_end end e) c where
    by_test : (b : Bool) → (b || list_any (goes_down s e) log) ≡ true → (b || is_closed log s e) ≡ true
    by_test true c = refl
    by_test false c = more c
  by_entry x c more = second_or (closes s e x) (is_closed log s e) (more c)

-- what isn't closed hasn't gone down
pub unclosed_stays : (s : SockName) (e : End) (log : List Entry) → is_closed log s e ≡ false → list_any (goes_down s e) log ≡ false
unclosed_stays s e log c = by_test (list_any (goes_down s e) log) refl where
  by_test : (b : Bool) → list_any (goes_down s e) log ≡ b → b ≡ false
  by_test false h = refl
  by_test true h = absurd (clash (is_closed log s e) (down_closes s e log h) c)

-- ---- what may be told

pub may_parts : (log : List Entry) (x : Entry) → may_tell log x ≡ true → (rises_once log x ≡ true) × (falls_from_up log x ≡ true) × (leaves_unrisen log x ≡ true) × (rests_closed log x ≡ true)
may_parts log x m =
    let halves = and_parts (rises_once log x && falls_from_up log x) (leaves_unrisen log x && rests_closed log x) m in
    let one = and_parts (rises_once log x) (falls_from_up log x) halves.0 in
    let two = and_parts (leaves_unrisen log x) (rests_closed log x) halves.1 in
    (one.0, one.1, two.0, two.1)

-- an end that comes up didn't before, and isn't closed
pub rises_new : (log : List Entry) (x : Entry) (s : SockName) (e : End) → may_tell log x ≡ true → rises s e x ≡ true → (has_risen log s e ≡ false) × (is_closed log s e ≡ false)
rises_new log (entries.Up sock end) s e m r = let parts = may_parts log (entries.Up sock end) m in
    subst (λ (at : SockName × End). (has_risen log at.0 at.1 ≡ false) × (is_closed log at.0 at.1 ≡ false)) (one_is (sock, end) (s, e) r) (not_true (has_risen log sock end) parts.0, not_true (is_closed log sock end) parts.3)
rises_new log x s e m r = absurd cc

pub leaves_new : (log : List Entry) (x : Entry) (s : SockName) (e : End) → may_tell log x ≡ true → leaves s e x ≡ true → (has_risen log s e ≡ false) × (rises s e x ≡ false)
leaves_new log (entries.Left sock end) s e m r = let parts = may_parts log (entries.Left sock end) m in
    (subst (λ (at : SockName × End). has_risen log at.0 at.1 ≡ false) (one_is (sock, end) (s, e) r) (not_true (has_risen log sock end) parts.2), refl)
leaves_new log x s e m r = absurd cc

pub downs_new : (log : List Entry) (x : Entry) (s : SockName) (e : End) → may_tell log x ≡ true → goes_down s e x ≡ true → has_risen log s e ≡ true
downs_new log (entries.Down sock end) s e m r = subst (λ (at : SockName × End). has_risen log at.0 at.1 ≡ true) (one_is (sock, end) (s, e) r) (may_parts log (entries.Down sock end) m).1
downs_new log x s e m r = absurd cc

-- an end that has come up doesn't again
pub once_after : (before rest : List Entry) → each_after may_tell before rest ≡ true → (s : SockName) (e : End) → has_risen before s e ≡ true → has_risen rest s e ≡ false
once_after before [] w s e r = refl
once_after before (x ∷ rest) w s e r = let parts = and_parts (may_tell before x) (each_after may_tell (before ++ x ∷ []) rest) w in
    by_test (rises s e x) refl parts.0 (once_after (before ++ x ∷ []) rest parts.1 s e (any_more (rises s e) before (x ∷ []) r)) where
      by_test : (b : Bool) → rises s e x ≡ b → may_tell before x ≡ true → has_risen rest s e ≡ false → (b || has_risen rest s e) ≡ false
      by_test true h m more = absurd (clash (has_risen before s e) r (rises_new before x s e m h).0)
      by_test false h m more = more

-- an end that has come up is never left
left_after : (before rest : List Entry) → each_after may_tell before rest ≡ true → (s : SockName) (e : End) → (has_risen before s e ≡ true → list_any (leaves s e) before ≡ true → ⊥) → has_risen (before ++ rest) s e ≡ true → list_any (leaves s e) (before ++ rest) ≡ true → ⊥
left_after before [] w s e never r l = never (subst (λ (log : List Entry). has_risen log s e ≡ true) (append-nil before) r) (subst (λ (log : List Entry). list_any (leaves s e) log ≡ true) (append-nil before) l)
left_after before (x ∷ rest) w s e never r l = let parts = and_parts (may_tell before x) (each_after may_tell (before ++ x ∷ []) rest) w in
    left_after (before ++ x ∷ []) rest parts.1 s e (still parts.0) (subst (λ (log : List Entry). has_risen log s e ≡ true) (sym (append_assoc before (x ∷ []) rest)) r) (subst (λ (log : List Entry). list_any (leaves s e) log ≡ true) (sym (append_assoc before (x ∷ []) rest)) l) where
      last_one : (b : Bool) → (b || false) ≡ true → b ≡ true
      last_one true e = refl
      last_one false e = e

      no_left : (list_any (closes s e) before ≡ false) → list_any (leaves s e) before ≡ true → ⊥
      no_left c h = clash (is_closed before s e) (left_closes before h) c where
        left_closes : (log : List Entry) → list_any (leaves s e) log ≡ true → is_closed log s e ≡ true
        left_closes [] h = absurd cc
        left_closes (y ∷ log) h = by_entry y h (left_closes log) where
          by_entry : (y : Entry) → (leaves s e y || list_any (leaves s e) log) ≡ true → (list_any (leaves s e) log ≡ true → is_closed log s e ≡ true) → (closes s e y || is_closed log s e) ≡ true
          by_entry (entries.Left sock end) c more = by_test (same_socket sock s && same_end end e) c where
            by_test : (b : Bool) → (b || list_any (leaves s e) log) ≡ true → (b || is_closed log s e) ≡ true
            by_test true c = refl
            by_test false c = more c
          by_entry y c more = second_or (closes s e y) (is_closed log s e) (more c)

      by_parts : may_tell before x ≡ true → (has_risen before s e ≡ true) ⊎ (rises s e x ≡ true) → (list_any (leaves s e) before ≡ true) ⊎ (leaves s e x ≡ true) → ⊥
      by_parts m (inl r) (inl l) = never r l
      by_parts m (inr r) (inl l) = no_left (rises_new before x s e m r).1 l
      by_parts m (inl r) (inr l) = clash (has_risen before s e) r (leaves_new before x s e m l).0
      by_parts m (inr r) (inr l) = clash (rises s e x) r (leaves_new before x s e m l).1

      either : (p : Entry → Bool) → list_any p (before ++ x ∷ []) ≡ true → (list_any p before ≡ true) ⊎ (p x ≡ true)
      either p h = by_or (or_either (list_any p before) (p x || false) (sym (list_any-append p before (x ∷ [])) ∙ h)) where
        by_or : (list_any p before ≡ true) ⊎ ((p x || false) ≡ true) → (list_any p before ≡ true) ⊎ (p x ≡ true)
        by_or (inl a) = inl a
        by_or (inr b) = inr (last_one (p x) b)

      still : may_tell before x ≡ true → has_risen (before ++ x ∷ []) s e ≡ true → list_any (leaves s e) (before ++ x ∷ []) ≡ true → ⊥
      still m r l = by_parts m (either (rises s e) r) (either (leaves s e) l)

-- an end that went down had come up
down_after : (before rest : List Entry) → each_after may_tell before rest ≡ true → (s : SockName) (e : End) → (list_any (goes_down s e) before ≡ true → has_risen before s e ≡ true) → list_any (goes_down s e) (before ++ rest) ≡ true → has_risen (before ++ rest) s e ≡ true
down_after before [] w s e had d = subst (λ (log : List Entry). has_risen log s e ≡ true) (sym (append-nil before)) (had (subst (λ (log : List Entry). list_any (goes_down s e) log ≡ true) (append-nil before) d))
down_after before (x ∷ rest) w s e had d = let parts = and_parts (may_tell before x) (each_after may_tell (before ++ x ∷ []) rest) w in
    subst (λ (log : List Entry). has_risen log s e ≡ true) (append_assoc before (x ∷ []) rest)
    (down_after (before ++ x ∷ []) rest parts.1 s e (still parts.0) (subst (λ (log : List Entry). list_any (goes_down s e) log ≡ true) (sym (append_assoc before (x ∷ []) rest)) d)) where
      by_or : may_tell before x ≡ true → (list_any (goes_down s e) before ≡ true) ⊎ ((goes_down s e x || false) ≡ true) → has_risen before s e ≡ true
      by_or m (inl a) = had a
      by_or m (inr b) = by_last (or_either (goes_down s e x) false b) where
        by_last : (goes_down s e x ≡ true) ⊎ (false ≡ true) → has_risen before s e ≡ true
        by_last (inl d) = downs_new before x s e m d
        by_last (inr c) = absurd cc

      still : may_tell before x ≡ true → list_any (goes_down s e) (before ++ x ∷ []) ≡ true → has_risen (before ++ x ∷ []) s e ≡ true
      still m d = any_more (rises s e) before (x ∷ []) (by_or m (or_either (list_any (goes_down s e) before) (goes_down s e x || false) (sym (list_any-append (goes_down s e) before (x ∷ [])) ∙ d)))

pub never_left : (log : List Entry) → IsMay log → (s : SockName) (e : End) → has_risen log s e ≡ true → list_any (leaves s e) log ≡ true → ⊥
never_left log w s e r l = left_after [] log w s e (λ r l. absurd cc) r l

pub down_rose : (log : List Entry) → IsMay log → (s : SockName) (e : End) → list_any (goes_down s e) log ≡ true → has_risen log s e ≡ true
down_rose log w s e d = down_after [] log w s e (λ d. absurd cc) d

-- an end that came up and didn't go down isn't closed
pub up_unclosed : (log : List Entry) → IsMay log → (s : SockName) (e : End) → has_risen log s e ≡ true → list_any (goes_down s e) log ≡ false → is_closed log s e ≡ false
up_unclosed log w s e r d = by_test (is_closed log s e) refl where
  by_how : (list_any (goes_down s e) log ≡ true) ⊎ (list_any (leaves s e) log ≡ true) → ⊥
  by_how (inl h) = clash (list_any (goes_down s e) log) h d
  by_how (inr h) = never_left log w s e r h

  by_test : (b : Bool) → is_closed log s e ≡ b → b ≡ false
  by_test false h = refl
  by_test true h = absurd (by_how (closed_how s e log h))

-- ---- ends of sockets between two names

pub end_is : (t : SockName) (f : End) (x : List ℕ) → owner t f ≡ x → bytes_eq t.from t.to ≡ false → end_of x t ≡ f
end_is t O x own apart = ap (λ b. cond b O T) (ap (λ (y : List ℕ). bytes_eq t.from y) (sym own) ∙ bytes_same t.from)
end_is t T x own apart = ap (λ b. cond b O T) (ap (λ (y : List ℕ). bytes_eq t.from y) (sym own) ∙ apart)

pub one_end : (s : SockName) (e f : End) → owner s e ≡ owner s f → bytes_eq s.from s.to ≡ false → e ≡ f
one_end s O O own apart = refl
one_end s T T own apart = refl
one_end s O T own apart = absurd (clash (bytes_eq s.from s.to) ((bytes_eq-Decides s.from s.to).1 own) apart)
one_end s T O own apart = absurd (clash (bytes_eq s.from s.to) ((bytes_eq-Decides s.from s.to).1 (sym own)) apart)
