-- Sockets that are numbered in order have names that differ.
use Rattle.std.proofs.Common.{◌≡◌, ◌≤◌, ◌<◌, ℕ, ◌+◌, Bool, true, false, cond, ◌&&◌, ◌==◌, List, [], ◌∷◌, ◌++◌, refl, sym, ap, ◌∙◌, subst, append_assoc, arith}
use Rattle.std.proofs.lemmas.Bool.{eqb-true, eq-eqb, and_parts}
use Rattle.std.proofs.lemmas.Slice.Eq.{bytes_eq-Decides}
use Rattle.std.proofs.lemmas.List.Sums.{sum_by-cons}
use Rattle.std.specs.Prelude.{find, count_by, Some, None}
use Rattle.std.specs.Str.{bytes_eq}
use Rattle.ch_model.specs.declared.name.SockName.{SockName}
use Rattle.ch_model.specs.Same.{same_socket}
use Rattle.ch_model.specs.Naming.{same_ends}
use Rattle.ch_model.specs.WorldState.{WorldSocket}
use Rattle.ch_model.specs.WorldSockets.{is_socket_named}
use Rattle.ch_laws_world.specs.Grows.{names_of, count_between, NumberedAfter}

-- ---- tests

equal_bytes : (xs : List ℕ) → bytes_eq xs xs ≡ true
equal_bytes xs = (bytes_eq-Decides xs xs).1 refl

pub name_self : (a : SockName) → same_socket a a ≡ true
name_self a = ap (λ (b : Bool). b && bytes_eq a.to a.to && (a.number == a.number)) (equal_bytes a.from) ∙ ap (λ (b : Bool). b && (a.number == a.number)) (equal_bytes a.to) ∙ eq-eqb a.number a.number refl

pub name_is : (a b : SockName) → same_socket a b ≡ true → a ≡ b
name_is a b h =
    let parts = and_parts (bytes_eq a.from b.from && bytes_eq a.to b.to) (a.number == b.number) h in
    let ends = and_parts (bytes_eq a.from b.from) (bytes_eq a.to b.to) parts.0 in
    ap (λ (z : List ℕ). record a { from = z }) ((bytes_eq-Decides a.from b.from).0 ends.0)
    ∙ ap (λ (z : List ℕ). record a { from = b.from; to = z }) ((bytes_eq-Decides a.to b.to).0 ends.1)
    ∙ ap (λ (z : ℕ). record b { number = z }) (eqb-true a.number b.number parts.1)

ends_self : (a : SockName) → same_ends a.from a.to a ≡ true
ends_self a = ap (λ (b : Bool). b && bytes_eq a.to a.to) (equal_bytes a.from) ∙ equal_bytes a.to

-- ---- what is found under a name

pub found_name : (name : SockName) (socket : WorldSocket) (sockets : List WorldSocket) → find (is_socket_named name) sockets ≡ Some socket → socket.name ≡ name
found_name name socket [] e = absurd cc
found_name name socket (known ∷ rest) e = by_test (is_socket_named name known) refl (found_name name socket rest) e
  where
    by_test : (b : Bool) → is_socket_named name known ≡ b → (find (is_socket_named name) rest ≡ Some socket → socket.name ≡ name) → cond b (Some known) (find (is_socket_named name) rest) ≡ Some socket → socket.name ≡ name
    by_test true is ih e = let same : socket ≡ known = cc in ap (λ (s : WorldSocket). s.name) same ∙ name_is known.name name is
    by_test false is ih e = ih e

-- ---- counts

counted : (from to : List ℕ) (xs ys : List SockName) → count_between from to (xs ++ ys) ≡ count_between from to xs + count_between from to ys
counted from to [] ys = omega arith
counted from to (x ∷ rest) ys = by_test (same_ends from to x) (counted from to rest ys)
  where
    by_test : (b : Bool) → count_between from to (rest ++ ys) ≡ count_between from to rest + count_between from to ys → cond b (1 + count_between from to (rest ++ ys)) (count_between from to (rest ++ ys)) ≡ cond b (1 + count_between from to rest) (count_between from to rest) + count_between from to ys
    by_test true e = omega arith
    by_test false e = e

-- a name counts among those of its own ends
counted_one : (name : SockName) (rest : List SockName) → count_between name.from name.to (name ∷ rest) ≡ 1 + count_between name.from name.to rest
counted_one name rest = ap (λ (b : Bool). cond b (1 + count_between name.from name.to rest) (count_between name.from name.to rest)) (ends_self name)

pub is_count : (from to : List ℕ) (sockets : List WorldSocket) → count_by (λ socket. same_ends from to socket.name) sockets ≡ count_between from to (names_of sockets)
is_count from to [] = refl
is_count from to (socket ∷ rest) = sum_by-cons (λ socket. cond (same_ends from to socket.name) 1 0) socket rest ∙ by_test (same_ends from to socket.name) (is_count from to rest)
  where
    by_test : (b : Bool) → count_by (λ socket. same_ends from to socket.name) rest ≡ count_between from to (names_of rest) → cond b 1 0 + count_by (λ socket. same_ends from to socket.name) rest ≡ cond b (1 + count_between from to (names_of rest)) (count_between from to (names_of rest))
    by_test true e = ap (λ (n : ℕ). 1 + n) e
    by_test false e = nothing _ _ e
      where
        nothing : (m n : ℕ) → m ≡ n → 0 + m ≡ n
        nothing m n e = omega arith

-- ---- numbers in order

moved : (others : List SockName) (name : SockName) (rest : List SockName) (P : List SockName → Type 0) → P (others ++ name ∷ rest) → P ((others ++ name ∷ []) ++ rest)
moved others name rest P k = subst P (sym (append_assoc others (name ∷ []) rest)) k

-- where a name's number is that of all of its ends or more, no socket has it
pub none_yet : (name : SockName) (others : List SockName) (sockets : List WorldSocket) → NumberedAfter others (names_of sockets) → count_between name.from name.to (others ++ names_of sockets) ≤ name.number → find (is_socket_named name) sockets ≡ None
none_yet name others [] k l = refl
none_yet name others (socket ∷ rest) k l = by_test (is_socket_named name socket) refl (none_yet name (others ++ socket.name ∷ []) rest k.1 (moved others socket.name (names_of rest) (λ (ns : List SockName). count_between name.from name.to ns ≤ name.number) l))
  where
    by_test : (b : Bool) → is_socket_named name socket ≡ b → find (is_socket_named name) rest ≡ None → cond b (Some socket) (find (is_socket_named name) rest) ≡ None
    by_test true is none =
        let same : socket.name ≡ name = name_is socket.name name is in
        let here : name.number ≡ count_between name.from name.to others = subst (λ (n : SockName). n.number ≡ count_between n.from n.to others) same k.0 in
        let all : count_between name.from name.to (others ++ socket.name ∷ names_of rest) ≡ count_between name.from name.to others + count_between name.from name.to (socket.name ∷ names_of rest) = counted name.from name.to others (socket.name ∷ names_of rest) in
        let one : count_between name.from name.to (socket.name ∷ names_of rest) ≡ 1 + count_between name.from name.to (names_of rest) = subst (λ (n : SockName). count_between name.from name.to (n ∷ names_of rest) ≡ 1 + count_between name.from name.to (names_of rest)) (sym same) (counted_one name (names_of rest)) in
        absurd (omega arith)
    by_test false is none = none

-- nor has one that comes later
none_later : (name : SockName) (others : List SockName) (sockets : List WorldSocket) → NumberedAfter others (names_of sockets) → name.number < count_between name.from name.to others → find (is_socket_named name) sockets ≡ None
none_later name others [] k l = refl
none_later name others (socket ∷ rest) k l = by_test (is_socket_named name socket) refl (none_later name (others ++ socket.name ∷ []) rest k.1 (more _ _ _ _ (counted name.from name.to others (socket.name ∷ [])) l))
  where
    more : (n all before one : ℕ) → all ≡ before + one → n < before → n < all
    more n all before one e l = omega arith

    by_test : (b : Bool) → is_socket_named name socket ≡ b → find (is_socket_named name) rest ≡ None → cond b (Some socket) (find (is_socket_named name) rest) ≡ None
    by_test true is none =
        let same : socket.name ≡ name = name_is socket.name name is in
        let here : name.number ≡ count_between name.from name.to others = subst (λ (n : SockName). n.number ≡ count_between n.from n.to others) same k.0 in
        absurd (omega arith)
    by_test false is none = none

-- no two sockets have one name
abbrev pub NamesApart : List WorldSocket → Type 0
NamesApart [] = Unit {0}
NamesApart (socket ∷ rest) = (find (is_socket_named socket.name) rest ≡ None) × NamesApart rest

pub names_apart : (others : List SockName) (sockets : List WorldSocket) → NumberedAfter others (names_of sockets) → NamesApart sockets
names_apart others [] k = tt
names_apart others (socket ∷ rest) k = (none_later socket.name (others ++ socket.name ∷ []) rest k.1 (less _ _ _ _ k.0 (counted socket.name.from socket.name.to others (socket.name ∷ [])) (counted_one socket.name [])), names_apart (others ++ socket.name ∷ []) rest k.1)
  where
    less : (n all before one : ℕ) → n ≡ before → all ≡ before + one → one ≡ 1 → n < all
    less n all before one e f g = omega arith

-- the next of its ends is numbered in order
pub numbered_next : (others names : List SockName) (next : SockName) → NumberedAfter others names → next.number ≡ count_between next.from next.to (others ++ names) → NumberedAfter others (names ++ next ∷ [])
numbered_next others [] next k e = (e ∙ at_end others, tt)
  where
    at_end : (xs : List SockName) → count_between next.from next.to (xs ++ []) ≡ count_between next.from next.to xs
    at_end xs = counted next.from next.to xs [] ∙ nothing (count_between next.from next.to xs)
      where
        nothing : (n : ℕ) → n + 0 ≡ n
        nothing n = omega arith
numbered_next others (name ∷ rest) next k e = (k.0, numbered_next (others ++ name ∷ []) rest next k.1 (moved others name rest (λ (ns : List SockName). next.number ≡ count_between next.from next.to ns) e))
