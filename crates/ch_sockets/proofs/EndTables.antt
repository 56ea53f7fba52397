-- The ends that hosts have under numbers, from the places that are known for them.
use Rattle.std.proofs.Common.{◌≡◌, ℕ, zero, suc, ◌+◌, ◌<◌, ◌≤◌, Bool, true, false, not, cond, ◌&&◌, ◌==◌, nat_lt, List, [], ◌∷◌, ◌++◌, length, take, drop, get_or, find, is_some, Option, Some, None, option_map, refl, ap, sym, subst, ◌∙◌, arith}
use Rattle.std.specs.List.{position_or_len, position}
use Rattle.std.specs.Map.{lookup}
use Rattle.std.specs.Prelude.{set, slice_set}
use Rattle.std.proofs.lemmas.Bool.{ltb-true, ltb-false, lt-ltb, le-ltb}
use Rattle.std.proofs.lemmas.List.{length-append, length-set, length-drop, take-append-le}
use Rattle.ch_model.specs.declared.name.End.{End}
use Rattle.ch_model.specs.declared.name.End.TheVariants.{O, T}
use Rattle.ch_model.specs.WorldState.{WorldEnd, WorldSocket}
use Rattle.ch_model.specs.WorldSockets.{end_of, with_end, is_end_of, same_number, target_end}
use Rattle.ch_sockets.specs.Among.{come_under}
use Rattle.ch_sockets.specs.Openers.{opener_end}
use Rattle.ch_sockets.specs.Ends.{lower, is_under, IsEndFrom, has_end, AreEnds, is_noted, IsNoted, under, opener_key}
use Rattle.ch_sockets.specs.declared.opener.Opener.{Opener}
use Rattle.ch_sockets.specs.declared.opener.Opener.TheVariants as openers
use Rattle.ch_sockets.proofs.Named.{number_is}

-- ---- lists without one that passes

none_here : {X : Type 0} (b : Bool) (x : X) (rest : Option X) → cond b (Some x) rest ≡ None → (b ≡ false) × (rest ≡ None)
none_here true x rest e = absurd cc
none_here false x rest e = (refl, e)

none_both : {X : Type 0} (p : X → Bool) (x : X) (rest : Option X) → p x ≡ false → rest ≡ None → cond (p x) (Some x) rest ≡ None
none_both p x rest a e = ap (λ b. cond b (Some x) rest) a ∙ e

still_false : (a b : Bool) → (a ≡ true → b ≡ true) → b ≡ false → a ≡ false
still_false false b f e = refl
still_false true b f e = absurd (let no : true ≡ false = sym (f refl) ∙ e in cc)

-- a write of what passes only where what was there did
none_set : {X : Type 0} (p : X → Bool) (xs : List X) (place : ℕ) (before after : X) → before ≡ get_or xs place before → (p after ≡ true → p before ≡ true) → find p xs ≡ None → find p (set xs place after) ≡ None
none_set p [] place before after is f e = refl
none_set p (x ∷ xs) zero before after is f e =
    let h = none_here (p x) x (find p xs) e in
    none_both p after (find p xs) (still_false (p after) (p before) f (ap p is ∙ h.0)) h.1
none_set p (x ∷ xs) (suc n) before after is f e =
    let h = none_here (p x) x (find p xs) e in
    none_both p x (find p (set xs n after)) h.0 (none_set p xs n before after is f h.1)

none_take_set : {X : Type 0} (p : X → Bool) (m : ℕ) (xs : List X) (place : ℕ) (before after : X) → before ≡ get_or xs place before → (p after ≡ true → p before ≡ true) → find p (take m xs) ≡ None → find p (take m (set xs place after)) ≡ None
none_take_set p zero xs place before after is f e = refl
none_take_set p (suc m) [] place before after is f e = refl
none_take_set p (suc m) (x ∷ xs) zero before after is f e =
    let h = none_here (p x) x (find p (take m xs)) e in
    none_both p after (find p (take m xs)) (still_false (p after) (p before) f (ap p is ∙ h.0)) h.1
none_take_set p (suc m) (x ∷ xs) (suc n) before after is f e =
    let h = none_here (p x) x (find p (take m xs)) e in
    none_both p x (find p (take m (set xs n after))) h.0 (none_take_set p m xs n before after is f h.1)

-- among the first fewer there is none either
none_fewer : {X : Type 0} (p : X → Bool) (m n : ℕ) (xs : List X) → m ≤ n → find p (take n xs) ≡ None → find p (take m xs) ≡ None
none_fewer p zero n xs le e = refl
none_fewer p (suc m) n [] le e = refl
none_fewer p (suc m) zero (x ∷ xs) le e = absurd (omega (arith, le))
none_fewer p (suc m) (suc n) (x ∷ xs) le e =
    let h = none_here (p x) x (find p (take n xs)) e in
    none_both p x (find p (take m xs)) h.0 (none_fewer p m n xs (omega (arith, le)) h.1)

none_among : {X : Type 0} (p : X → Bool) (m : ℕ) (xs : List X) → find p xs ≡ None → find p (take m xs) ≡ None
none_among p zero xs e = refl
none_among p (suc m) [] e = refl
none_among p (suc m) (x ∷ xs) e =
    let h = none_here (p x) x (find p xs) e in
    none_both p x (find p (take m xs)) h.0 (none_among p m xs h.1)

none_last : {X : Type 0} (p : X → Bool) (xs : List X) (x : X) → p x ≡ false → find p xs ≡ None → find p (xs ++ x ∷ []) ≡ None
none_last p [] x a e = none_both p x None a refl
none_last p (y ∷ ys) x a e =
    let h = none_here (p y) y (find p ys) e in
    none_both p y (find p (ys ++ x ∷ [])) h.0 (none_last p ys x a h.1)

-- a write behind the first few leaves them
take_set : {X : Type 0} (m : ℕ) (xs : List X) (place : ℕ) (y : X) → m ≤ place → take m (set xs place y) ≡ take m xs
take_set zero xs place y le = refl
take_set (suc m) [] place y le = refl
take_set (suc m) (x ∷ xs) zero y le = absurd (omega (arith, le))
take_set (suc m) (x ∷ xs) (suc n) y le = ap (λ l. x ∷ l) (take_set m xs n y (omega (arith, le)))

-- the first that passes, behind a few that don't
place_behind : {X : Type 0} (p : X → Bool) (n : ℕ) (xs : List X) → n ≤ length xs → find p (take n xs) ≡ None → position_or_len p xs ≡ n + position_or_len p (drop n xs)
place_behind p zero xs le e = let h : position_or_len p xs ≡ 0 + position_or_len p xs = omega arith in h
place_behind p (suc n) [] le e = absurd (omega (arith, le))
place_behind p (suc n) (x ∷ xs) le e =
    let h = none_here (p x) x (find p (take n xs)) e in
    let rest : position_or_len p xs ≡ n + position_or_len p (drop n xs) = place_behind p n xs (omega (arith, le)) h.1 in
    let here : cond (not (p x)) (1 + position_or_len p xs) 0 ≡ 1 + position_or_len p xs = ap (λ b. cond (not b) (1 + position_or_len p xs) 0) h.0 in
    here ∙ (let k : 1 + position_or_len p xs ≡ suc n + position_or_len p (drop n xs) = omega (arith, rest) in k)

pub found_behind : {X : Type 0} (p : X → Bool) (n : ℕ) (xs : List X) → n ≤ length xs → find p (take n xs) ≡ None → option_map (λ more. n + more) (position p (drop n xs)) ≡ position p xs
found_behind p n xs le e =
    let at : position_or_len p xs ≡ n + position_or_len p (drop n xs) = place_behind p n xs le e in
    by_test (nat_lt (position_or_len p (drop n xs)) (length (drop n xs))) refl at
  where
    by_test : (b : Bool) → nat_lt (position_or_len p (drop n xs)) (length (drop n xs)) ≡ b → position_or_len p xs ≡ n + position_or_len p (drop n xs) → option_map (λ more. n + more) (cond b (Some (position_or_len p (drop n xs))) None) ≡ position p xs
    by_test true e at =
        let lt : position_or_len p (drop n xs) < length (drop n xs) = ltb-true _ _ e in
        let in_all : position_or_len p xs < length xs = omega (arith, lt, at, length-drop n xs) in
        sym (ap (λ b. cond b (Some (position_or_len p xs)) None) (lt-ltb _ _ in_all) ∙ ap Some at)
    by_test false e at =
        let ge = ltb-false _ _ e in
        let past : length xs ≤ position_or_len p xs = omega (arith, ge, at, length-drop n xs, le) in
        sym (ap (λ b. cond b (Some (position_or_len p xs)) None) (le-ltb _ _ past))

len_none : {X : Type 0} (p : X → Bool) (xs : List X) → find p xs ≡ None → position_or_len p xs ≡ length xs
len_none p [] e = refl
len_none p (x ∷ xs) e =
    let h = none_here (p x) x (find p xs) e in
    let rest : position_or_len p xs ≡ length xs = len_none p xs h.1 in
    let one : 1 + position_or_len p xs ≡ suc (length xs) = omega (arith, rest) in
    ap (λ b. cond (not b) (1 + position_or_len p xs) 0) h.0 ∙ one

pub no_place_none : {X : Type 0} (p : X → Bool) (xs : List X) → find p xs ≡ None → position p xs ≡ None
no_place_none p xs e = ap (λ b. cond b (Some (position_or_len p xs)) None) (le-ltb _ _ (omega (arith, len_none p xs e)))

-- ---- what is known of the sockets

from_set : (cell number : ℕ) (known : Option ℕ) (sockets : List WorldSocket) (place : ℕ) (before after : WorldSocket) → before ≡ get_or sockets place before → (is_under cell number after ≡ true → is_under cell number before ≡ true) → IsEndFrom cell number known sockets → IsEndFrom cell number known (set sockets place after)
from_set cell number None sockets place before after is f c = none_set (is_under cell number) sockets place before after is f c
from_set cell number (Some first) sockets place before after is f c = (omega (arith, length-set sockets place after, c.0), none_take_set (is_under cell number) first sockets place before after is f c.1)

-- a socket that is written in place of another has no end under a number that the other hadn't
pub ends_set : (es : List ((ℕ × ℕ) × ℕ)) (rows : List WorldSocket) (place : ℕ) (before after : WorldSocket) → before ≡ get_or rows place before → ((cell number : ℕ) → is_under cell number after ≡ true → is_under cell number before ≡ true) → AreEnds es rows → AreEnds es (slice_set rows place after)
ends_set es rows place before after is fewer a cell number = from_set cell number (lookup (has_end cell number) es) rows place before after is (fewer cell number) (a cell number)

-- what keeps an end's host and number
abbrev pub Keeps : (WorldEnd → WorldEnd) → Type 0
Keeps f = (end : WorldEnd) → ((f end).cell ≡ end.cell) × ((f end).number ≡ end.number)

end_kept : (f : WorldEnd → WorldEnd) → Keeps f → (cell number : ℕ) (end : WorldEnd) → is_end_of cell number (f end) ≡ is_end_of cell number end
end_kept f keeps cell number end = (λ i. same_number ((keeps end).0 i) cell && same_number ((keeps end).1 i) number)

under_kept : (f : WorldEnd → WorldEnd) → Keeps f → (which : End) (socket : WorldSocket) (cell number : ℕ) → is_under cell number (with_end which (f (end_of which socket)) socket) ≡ is_under cell number socket
under_kept f keeps O socket cell number = ap (λ b. is_some (cond b (Some O) (cond (is_end_of cell number socket.t) (Some T) None))) (end_kept f keeps cell number socket.o)
under_kept f keeps T socket cell number = ap (λ b. is_some (cond (is_end_of cell number socket.o) (Some O) (cond b (Some T) None))) (end_kept f keeps cell number socket.t)

-- a change that keeps hosts and numbers
pub ends_changed : (f : WorldEnd → WorldEnd) → Keeps f → (which : End) (es : List ((ℕ × ℕ) × ℕ)) (rows : List WorldSocket) (place : ℕ) (before after : WorldSocket) → before ≡ get_or rows place before → after ≡ with_end which (f (end_of which before)) before → AreEnds es rows → AreEnds es (slice_set rows place after)
ends_changed f keeps which es rows place before after is done a =
    ends_set es rows place before after is (λ cell number h. sym (under_kept f keeps which before cell number) ∙ ap (is_under cell number) (sym done) ∙ h) a

-- ---- an end that is noted

-- the lower place is known too
from_lower : (cell number : ℕ) (known : Option ℕ) (sockets : List WorldSocket) (place : ℕ) → IsEndFrom cell number known sockets → (find (is_under cell number) (take (lower known place) sockets) ≡ None) × (lower known place ≤ place)
from_lower cell number None sockets place c = (none_among (is_under cell number) place sockets c, omega arith)
from_lower cell number (Some first) sockets place c = by_test (nat_lt first place) refl
  where
    by_test : (b : Bool) → nat_lt first place ≡ b → (find (is_under cell number) (take (cond b first place) sockets) ≡ None) × (cond b first place ≤ place)
    by_test true e = let below : first < place = ltb-true _ _ e in (c.1, omega (arith, below))
    by_test false e = (none_fewer (is_under cell number) place first sockets (omega (arith, ltb-false _ _ e)) c.1, omega arith)

take_within : {X : Type 0} (m n : ℕ) (xs ys : List X) → m ≤ n → take n xs ≡ take n ys → take m xs ≡ take m ys
take_within zero n xs ys le e = refl
take_within (suc m) zero xs ys le e = absurd (omega (arith, le))
take_within (suc m) (suc n) [] [] le e = refl
take_within (suc m) (suc n) [] (y ∷ ys) le e = absurd cc
take_within (suc m) (suc n) (x ∷ xs) [] le e = absurd cc
take_within (suc m) (suc n) (x ∷ xs) (y ∷ ys) le e =
    let same : x ≡ y = cc in
    let rest : take n xs ≡ take n ys = cc in
    (λ i. same i ∷ take_within m n xs ys (omega (arith, le)) rest i)

-- What is known once an end is noted, and the sockets behind the place are others.
ends_noted : (key : Option (ℕ × ℕ)) (place : ℕ) (es now : List ((ℕ × ℕ) × ℕ)) (rows next : List WorldSocket) → IsNoted key place es now → take place next ≡ take place rows → place ≤ length next → ((q : ℕ × ℕ) (known : Option ℕ) → is_noted key q ≡ false → IsEndFrom q.0 q.1 known rows → IsEndFrom q.0 q.1 known next) → AreEnds es rows → AreEnds now next
ends_noted None place es now rows next told front within moved a cell number =
    subst (λ (l : List ((ℕ × ℕ) × ℕ)). IsEndFrom cell number (lookup (has_end cell number) l) next) (sym told) (moved (cell, number) (lookup (has_end cell number) es) refl (a cell number))
ends_noted (Some key) place es now rows next told front within moved a cell number =
    subst (λ o. IsEndFrom cell number o next) (sym (told (cell, number))) (by_test (key.0 == cell) (key.1 == number) refl refl)
  where
    here : IsEndFrom key.0 key.1 (Some (lower (lookup (has_end key.0 key.1) es) place)) next
    here =
        let low = from_lower key.0 key.1 (lookup (has_end key.0 key.1) es) rows place (a key.0 key.1) in
        (omega (arith, low.1, within), ap (find (is_under key.0 key.1)) (take_within (lower (lookup (has_end key.0 key.1) es) place) place next rows low.1 front) ∙ low.0)

    by_test : (x y : Bool) → (key.0 == cell) ≡ x → (key.1 == number) ≡ y → IsEndFrom cell number (cond (x && y) (Some (lower (lookup (has_end key.0 key.1) es) place)) (lookup (has_end cell number) es)) next
    by_test true true p q = subst (λ m. IsEndFrom m number (Some (lower (lookup (has_end key.0 key.1) es) place)) next) (number_is key.0 cell p) (subst (λ m. IsEndFrom key.0 m (Some (lower (lookup (has_end key.0 key.1) es) place)) next) (number_is key.1 number q) here)
    by_test true false p q = moved (cell, number) (lookup (has_end cell number) es) ((λ i. p i && q i)) (a cell number)
    by_test false y p q = moved (cell, number) (lookup (has_end cell number) es) (ap (λ b. b && (key.1 == number)) p) (a cell number)

-- ---- a socket that is added

from_added : (cell number : ℕ) (known : Option ℕ) (sockets : List WorldSocket) (socket : WorldSocket) → is_under cell number socket ≡ false → IsEndFrom cell number known sockets → IsEndFrom cell number known (sockets ++ socket ∷ [])
from_added cell number None sockets socket n c = none_last (is_under cell number) sockets socket n c
from_added cell number (Some first) sockets socket n c = (omega (arith, length-append sockets (socket ∷ []), c.0), ap (find (is_under cell number)) (take-append-le first sockets (socket ∷ []) c.0) ∙ c.1)

and_false : (b : Bool) → (b && false) ≡ false
and_false true = refl
and_false false = refl

-- a target's end has no number
target_none : (cell number : ℕ) (target : Option ℕ) → is_end_of cell number (target_end target) ≡ false
target_none cell number None = refl
target_none cell number (Some place) = and_false (place == cell)

opener_only : (cell number : ℕ) (opener : Opener) → is_end_of cell number (opener_end opener) ≡ is_noted (opener_key opener) (cell, number)
opener_only cell number (openers.Dialing own n) = refl
opener_only cell number openers.Stranger = refl

opened_one : (b : Bool) → is_some (cond b (Some O) (cond false (Some T) None)) ≡ b
opened_one true = refl
opened_one false = refl

-- a new socket is under its opener's number alone
opened_under : (cell number : ℕ) (opener : Opener) (target : Option ℕ) (socket : WorldSocket) → socket.o ≡ opener_end opener → socket.t ≡ target_end target → is_under cell number socket ≡ is_noted (opener_key opener) (cell, number)
opened_under cell number opener target socket o t =
    (λ i. is_some (cond (is_end_of cell number (o i)) (Some O) (cond (is_end_of cell number (t i)) (Some T) None)))
    ∙ ap (λ b. is_some (cond (is_end_of cell number (opener_end opener)) (Some O) (cond b (Some T) None))) (target_none cell number target)
    ∙ opened_one (is_end_of cell number (opener_end opener))
    ∙ opener_only cell number opener

pub ends_opened : (opener : Opener) (target : Option ℕ) (place : ℕ) (es now : List ((ℕ × ℕ) × ℕ)) (rows after : List WorldSocket) (socket : WorldSocket) → IsNoted (opener_key opener) place es now → place ≡ length rows → socket.o ≡ opener_end opener → socket.t ≡ target_end target → after ≡ rows ++ socket ∷ [] → AreEnds es rows → AreEnds now after
ends_opened opener target place es now rows after socket told at o t push a =
    subst (λ (ls : List WorldSocket). AreEnds now ls) (sym push) (ends_noted (opener_key opener) place es now rows (rows ++ socket ∷ []) told (take-append-le place rows (socket ∷ []) (omega (arith, at))) (omega (arith, at, length-append rows (socket ∷ []))) (λ q known other c. from_added q.0 q.1 known rows socket (opened_under q.0 q.1 opener target socket o t ∙ other) c) a)

-- a note alone
pub ends_told : (key : Option (ℕ × ℕ)) (place : ℕ) (es now : List ((ℕ × ℕ) × ℕ)) (rows : List WorldSocket) → IsNoted key place es now → place ≤ length rows → AreEnds es rows → AreEnds now rows
ends_told key place es now rows told within a = ends_noted key place es now rows rows told refl within (λ q known other c. c) a

-- ---- an end that has come

come_only : (cell number : ℕ) (own : Option ℕ) (n : ℕ) → (same_number own cell && (n == number)) ≡ is_noted (under n own) (cell, number)
come_only cell number None n = refl
come_only cell number (Some place) n = refl

none_then : (a : Bool) (b c : Bool) → c ≡ false → is_some (cond a (Some O) (cond c (Some T) None)) ≡ true → is_some (cond a (Some O) (cond b (Some T) None)) ≡ true
none_then true b c e h = refl
none_then false b c e h = absurd (let no : false ≡ true = sym (ap (λ d. is_some (cond d (Some T) None)) e) ∙ h in cc)

come_fewer : (cell number n : ℕ) (socket : WorldSocket) → is_noted (under n socket.t.cell) (cell, number) ≡ false → is_under cell number (with_end T (come_under n (end_of T socket)) socket) ≡ true → is_under cell number socket ≡ true
come_fewer cell number n socket other h = none_then (is_end_of cell number socket.o) (is_end_of cell number socket.t) (same_number socket.t.cell cell && (n == number)) (come_only cell number socket.t.cell n ∙ other) h

pub ends_come : (n place : ℕ) (es now : List ((ℕ × ℕ) × ℕ)) (rows : List WorldSocket) (before after : WorldSocket) → IsNoted (under n before.t.cell) place es now → place < length rows → before ≡ get_or rows place before → after ≡ with_end T (come_under n (end_of T before)) before → AreEnds es rows → AreEnds now (slice_set rows place after)
ends_come n place es now rows before after told within is done a =
    ends_noted (under n before.t.cell) place es now rows (set rows place after) told (take_set place rows place after (omega arith)) (omega (arith, within, length-set rows place after)) (λ q known other c. from_set q.0 q.1 known rows place before after is (λ h. come_fewer q.0 q.1 n before other (ap (is_under q.0 q.1) (sym done) ∙ h)) c) a
