-- The world's sockets by name: which is found after one was stored, and which names are new.
use Rattle.std.proofs.Common.{◌≡◌, ℕ, ◌+◌, ◌<◌, Bool, true, false, cond, ◌&&◌, List, [], ◌∷◌, refl, sym, ap, ◌∙◌, subst, arith}
use Rattle.std.proofs.lemmas.Bool.{and_parts}
use Rattle.std.proofs.lemmas.Bool.Decides.{nat_tests}
use Rattle.std.proofs.lemmas.Slice.Eq.{bytes_eq-Decides}
use Rattle.std.specs.List.{fold}
use Rattle.std.specs.Prelude.{find, count_by, Option, Some, None, ◌==◌}
use Rattle.std.specs.Str.{bytes_eq}
use Rattle.ch_model.specs.declared.name.SockName.{SockName}
use Rattle.ch_model.specs.declared.name.End.{End}
use Rattle.ch_model.specs.Naming.{same_ends}
use Rattle.ch_model.specs.Same.{same_socket}
use Rattle.ch_model.specs.WorldSockets.{is_socket_named, store_in, end_at, find_end, next_name}
use Rattle.ch_model.specs.WorldState.{WorldSocket, World}

-- ---- names

pub number_is : (a b : ℕ) → (a == b) ≡ true → a ≡ b
number_is a b e = grind (arith, nat_tests)

pub number_same : (a : ℕ) → (a == a) ≡ true
number_same a = grind (arith, nat_tests)

pub bytes_same : (a : List ℕ) → bytes_eq a a ≡ true
bytes_same a = (bytes_eq-Decides a a).1 refl

pub same_is : (s t : SockName) → same_socket s t ≡ true → s ≡ t
same_is s t e =
    let one = and_parts (bytes_eq s.from t.from && bytes_eq s.to t.to) (s.number == t.number) e in
    let two = and_parts (bytes_eq s.from t.from) (bytes_eq s.to t.to) one.0 in
    ap (λ (f : List ℕ). made f s.to s.number) ((bytes_eq-Decides s.from t.from).0 two.0)
    ∙ ap (λ (f : List ℕ). made t.from f s.number) ((bytes_eq-Decides s.to t.to).0 two.1)
    ∙ ap (λ n. made t.from t.to n) (number_is s.number t.number one.1)
  where
    made : List ℕ → List ℕ → ℕ → SockName
    made from to number = record { from = from; to = to; number = number }

pub self_same : (s : SockName) → same_socket s s ≡ true
self_same s = ap (λ b. b && bytes_eq s.to s.to && s.number == s.number) (bytes_same s.from) ∙ ap (λ b. true && b && s.number == s.number) (bytes_same s.to) ∙ number_same s.number

pub not_same : (s t : SockName) → same_socket s t ≡ false → same_socket t s ≡ false
not_same s t e = by_test (same_socket t s) refl where
  by_test : (b : Bool) → same_socket t s ≡ b → b ≡ false
  by_test false h = refl
  by_test true h = let one : same_socket t t ≡ false = subst (λ (n : SockName). same_socket n t ≡ false) (sym (same_is t s h)) e in let two = self_same t in absurd cc

-- ---- found by name

pub find_name : (s : SockName) (sockets : List WorldSocket) (socket : WorldSocket) → find (is_socket_named s) sockets ≡ Some socket → socket.name ≡ s
find_name s [] socket e = absurd cc
find_name s (known ∷ rest) socket e = by_test (same_socket known.name s) refl (find_name s rest socket) e where
  by_test : (b : Bool) → same_socket known.name s ≡ b → (find (is_socket_named s) rest ≡ Some socket → socket.name ≡ s) → cond b (Some known) (find (is_socket_named s) rest) ≡ Some socket → socket.name ≡ s
  by_test true h more e = let is : known ≡ socket = cc in subst (λ (w : WorldSocket). w.name ≡ s) is (same_is known.name s h)
  by_test false h more e = more e

pub find_stored : (socket : WorldSocket) (sockets : List WorldSocket) (s : SockName) → find (is_socket_named s) (store_in socket sockets) ≡ cond (same_socket socket.name s) (Some socket) (find (is_socket_named s) sockets)
find_stored socket [] s = refl
find_stored socket (known ∷ rest) s = by_tests (same_socket known.name socket.name) refl (same_socket socket.name s) refl (same_socket known.name s) refl (find_stored socket rest s) where
  by_tests : (a : Bool) → same_socket known.name socket.name ≡ a → (b : Bool) → same_socket socket.name s ≡ b → (c : Bool) → same_socket known.name s ≡ c
      → find (is_socket_named s) (store_in socket rest) ≡ cond b (Some socket) (find (is_socket_named s) rest)
      → find (is_socket_named s) (cond a (socket ∷ rest) (known ∷ store_in socket rest)) ≡ cond b (Some socket) (cond c (Some known) (find (is_socket_named s) rest))
  by_tests true h true g c k ih = ap (λ b. cond b (Some socket) (find (is_socket_named s) rest)) g
  by_tests true h false g true k ih = let is : known.name ≡ socket.name = same_is known.name socket.name h in let no : same_socket socket.name s ≡ true = subst (λ (n : SockName). same_socket n s ≡ true) is k in absurd cc
  by_tests true h false g false k ih = ap (λ b. cond b (Some socket) (find (is_socket_named s) rest)) g
  by_tests false h true g true k ih = let is : socket.name ≡ s = same_is socket.name s g in let no : same_socket known.name socket.name ≡ true = subst (λ (n : SockName). same_socket known.name n ≡ true) (sym is) k in absurd cc
  by_tests false h true g false k ih = ap (λ b. cond b (Some known) (find (is_socket_named s) (store_in socket rest))) k ∙ ih
  by_tests false h false g true k ih = ap (λ b. cond b (Some known) (find (is_socket_named s) (store_in socket rest))) k
  by_tests false h false g false k ih = ap (λ b. cond b (Some known) (find (is_socket_named s) (store_in socket rest))) k ∙ ih

-- the socket and the end that a cell has under a number is of the world
pub record IsHeld (s : SockName) (sockets : List WorldSocket) : Type 0 where
  pub socket : WorldSocket
  pub is : find (is_socket_named s) sockets ≡ Some socket

pub found_end : (cell number : ℕ) (sockets : List WorldSocket) (at : SockName × End) → find_end cell number sockets ≡ Some at → IsHeld at.0 sockets
found_end cell number [] at e = absurd cc
found_end cell number (known ∷ rest) at e = by_end (end_at cell number known) (found_end cell number rest at) e where
  by_name : (b : Bool) → same_socket known.name at.0 ≡ b → IsHeld at.0 rest → IsHeld at.0 (known ∷ rest)
  by_name true h more = record { socket = known; is = ap (λ b. cond b (Some known) (find (is_socket_named at.0) rest)) h }
  by_name false h more = record { socket = more.socket; is = ap (λ b. cond b (Some known) (find (is_socket_named at.0) rest)) h ∙ more.is }

  name_in : Option (SockName × End) → SockName
  name_in None = known.name
  name_in (Some at) = at.0

  by_end : (o : Option End) → (find_end cell number rest ≡ Some at → IsHeld at.0 rest) → (elim o as (λ o. Option (SockName × End)) [
    | Some end ↦ Some (known.name, end)
    | None ↦ find_end cell number rest
  ]) ≡ Some at → IsHeld at.0 (known ∷ rest)
  by_end None more e = by_name (same_socket known.name at.0) refl (more e)
  by_end (Some end) more e = let is : known.name ≡ at.0 = ap name_in e in
      record { socket = known; is = ap (λ b. cond b (Some known) (find (is_socket_named at.0) rest)) (subst (λ (n : SockName). same_socket known.name n ≡ true) is (self_same known.name)) }

-- ---- no two sockets have one name

abbrev pub Distinct : List WorldSocket → Type 0
Distinct [] = Unit {0}
Distinct (socket ∷ rest) = (find (is_socket_named socket.name) rest ≡ None) × Distinct rest

none_comes : (s : SockName) (socket : WorldSocket) (sockets : List WorldSocket) → same_socket socket.name s ≡ false → find (is_socket_named s) sockets ≡ None → find (is_socket_named s) (store_in socket sockets) ≡ None
none_comes s socket sockets other none = find_stored socket sockets s ∙ ap (λ b. cond b (Some socket) (find (is_socket_named s) sockets)) other ∙ none

pub stored_distinct : (socket : WorldSocket) (sockets : List WorldSocket) → Distinct sockets → Distinct (store_in socket sockets)
stored_distinct socket [] d = (refl, tt)
stored_distinct socket (known ∷ rest) d = by_test (same_socket known.name socket.name) refl (stored_distinct socket rest d.1) where
  by_test : (b : Bool) → same_socket known.name socket.name ≡ b → Distinct (store_in socket rest) → Distinct (cond b (socket ∷ rest) (known ∷ store_in socket rest))
  by_test true e s = (subst (λ (n : SockName). find (is_socket_named n) rest ≡ None) (same_is known.name socket.name e) d.0, d.1)
  by_test false e s = (none_comes known.name socket rest (not_same known.name socket.name e) d.0, s)

-- a socket that stands at its name in the rest of a list does so in the whole
pub found_before : (s : SockName) (known : WorldSocket) (rest : List WorldSocket) (socket : WorldSocket) → Distinct (known ∷ rest) → find (is_socket_named s) rest ≡ Some socket → find (is_socket_named s) (known ∷ rest) ≡ Some socket
found_before s known rest socket d e = by_test (same_socket known.name s) refl where
  by_test : (b : Bool) → same_socket known.name s ≡ b → cond b (Some known) (find (is_socket_named s) rest) ≡ Some socket
  by_test true h = let none : find (is_socket_named s) rest ≡ None = subst (λ (n : SockName). find (is_socket_named n) rest ≡ None) (same_is known.name s h) d.0 in absurd cc
  by_test false h = e

-- ---- sockets of one opener and target are numbered in order

abbrev pub of_ends : List ℕ → List ℕ → WorldSocket → Bool
of_ends from to socket = same_ends from to socket.name

abbrev pub Numbered : List WorldSocket → Type 0
Numbered sockets = (s : SockName) (socket : WorldSocket) → find (is_socket_named s) sockets ≡ Some socket → s.number < count_by (of_ends s.from s.to) sockets

-- the name of a socket that comes next is new
pub next_is_new : (world : World) (from to : List ℕ) → Numbered world.sockets → find (is_socket_named (next_name world from to)) world.sockets ≡ None
next_is_new world from to n = by_found (find (is_socket_named (next_name world from to)) world.sockets) refl where
  never : (k : ℕ) → k < k → ⊥
  never k h = omega arith

  by_found : (o : Option WorldSocket) → find (is_socket_named (next_name world from to)) world.sockets ≡ o → o ≡ None
  by_found None e = refl
  by_found (Some socket) e = absurd (never (count_by (of_ends from to) world.sockets) (n (next_name world from to) socket e))

-- one that is stored in another's place is of the same ends
count_kept : (from to : List ℕ) (n : ℕ) (socket : WorldSocket) (sockets : List WorldSocket) (old : WorldSocket) → find (is_socket_named socket.name) sockets ≡ Some old → fold (λ n w. n + cond (of_ends from to w) 1 0) n (store_in socket sockets) ≡ fold (λ n w. n + cond (of_ends from to w) 1 0) n sockets
count_kept from to n socket [] old e = absurd cc
count_kept from to n socket (known ∷ rest) old e = by_test (same_socket known.name socket.name) refl (count_kept from to (n + cond (of_ends from to known) 1 0) socket rest old) e where
  by_test : (b : Bool) → same_socket known.name socket.name ≡ b
      → (find (is_socket_named socket.name) rest ≡ Some old → fold (λ n w. n + cond (of_ends from to w) 1 0) (n + cond (of_ends from to known) 1 0) (store_in socket rest) ≡ fold (λ n w. n + cond (of_ends from to w) 1 0) (n + cond (of_ends from to known) 1 0) rest)
      → cond b (Some known) (find (is_socket_named socket.name) rest) ≡ Some old
      → fold (λ n w. n + cond (of_ends from to w) 1 0) n (cond b (socket ∷ rest) (known ∷ store_in socket rest)) ≡ fold (λ n w. n + cond (of_ends from to w) 1 0) n (known ∷ rest)
  by_test true h more e = ap (λ (s : SockName). fold (λ n w. n + cond (of_ends from to w) 1 0) (n + cond (same_ends from to s) 1 0) rest) (sym (same_is known.name socket.name h))
  by_test false h more e = more e

-- one that is new comes last
count_new : (from to : List ℕ) (n : ℕ) (socket : WorldSocket) (sockets : List WorldSocket) → find (is_socket_named socket.name) sockets ≡ None → fold (λ n w. n + cond (of_ends from to w) 1 0) n (store_in socket sockets) ≡ fold (λ n w. n + cond (of_ends from to w) 1 0) n sockets + cond (of_ends from to socket) 1 0
count_new from to n socket [] e = refl
count_new from to n socket (known ∷ rest) e = by_test (same_socket known.name socket.name) refl (count_new from to (n + cond (of_ends from to known) 1 0) socket rest) e where
  by_test : (b : Bool) → same_socket known.name socket.name ≡ b
      → (find (is_socket_named socket.name) rest ≡ None → fold (λ n w. n + cond (of_ends from to w) 1 0) (n + cond (of_ends from to known) 1 0) (store_in socket rest) ≡ fold (λ n w. n + cond (of_ends from to w) 1 0) (n + cond (of_ends from to known) 1 0) rest + cond (of_ends from to socket) 1 0)
      → cond b (Some known) (find (is_socket_named socket.name) rest) ≡ None
      → fold (λ n w. n + cond (of_ends from to w) 1 0) n (cond b (socket ∷ rest) (known ∷ store_in socket rest)) ≡ fold (λ n w. n + cond (of_ends from to w) 1 0) n (known ∷ rest) + cond (of_ends from to socket) 1 0
  by_test true h more e = absurd cc
  by_test false h more e = more e

pub numbered_kept : (socket old : WorldSocket) (sockets : List WorldSocket) → find (is_socket_named socket.name) sockets ≡ Some old → Numbered sockets → Numbered (store_in socket sockets)
numbered_kept socket old sockets is n s w e = by_test (same_socket socket.name s) refl (sym (find_stored socket sockets s) ∙ e) where
  same : count_by (of_ends s.from s.to) (store_in socket sockets) ≡ count_by (of_ends s.from s.to) sockets
  same = count_kept s.from s.to 0 socket sockets old is

  by_test : (b : Bool) → same_socket socket.name s ≡ b → cond b (Some socket) (find (is_socket_named s) sockets) ≡ Some w → s.number < count_by (of_ends s.from s.to) (store_in socket sockets)
  by_test true h e = subst (λ k. s.number < k) (sym same) (n s old (subst (λ (m : SockName). find (is_socket_named m) sockets ≡ Some old) (same_is socket.name s h) is))
  by_test false h e = subst (λ k. s.number < k) (sym same) (n s w e)

ends_of_self : (s : SockName) → same_ends s.from s.to s ≡ true
ends_of_self s = ap (λ b. b && bytes_eq s.to s.to) (bytes_same s.from) ∙ bytes_same s.to

pub numbered_new : (socket : WorldSocket) (sockets : List WorldSocket) → socket.name.number ≡ count_by (of_ends socket.name.from socket.name.to) sockets → find (is_socket_named socket.name) sockets ≡ None → Numbered sockets → Numbered (store_in socket sockets)
numbered_new socket sockets next is n s w e = by_test (same_socket socket.name s) refl (sym (find_stored socket sockets s) ∙ e) where
  one_more : count_by (of_ends s.from s.to) (store_in socket sockets) ≡ count_by (of_ends s.from s.to) sockets + cond (of_ends s.from s.to socket) 1 0
  one_more = count_new s.from s.to 0 socket sockets is

  above : (k m c j : ℕ) → k < m → j ≡ m + c → k < j
  above k m c j h e = omega arith

  at_last : (k m j : ℕ) → k ≡ m → j ≡ m + 1 → k < j
  at_last k m j h e = omega arith

  at_new : s ≡ socket.name → s.number < count_by (of_ends s.from s.to) (store_in socket sockets)
  at_new h = at_last s.number (count_by (of_ends s.from s.to) sockets) (count_by (of_ends s.from s.to) (store_in socket sockets))
      (subst (λ (m : SockName). m.number ≡ count_by (of_ends m.from m.to) sockets) (sym h) next)
      (one_more ∙ ap (λ b. count_by (of_ends s.from s.to) sockets + cond b 1 0) (subst (λ (m : SockName). same_ends s.from s.to m ≡ true) h (ends_of_self s)))

  by_test : (b : Bool) → same_socket socket.name s ≡ b → cond b (Some socket) (find (is_socket_named s) sockets) ≡ Some w → s.number < count_by (of_ends s.from s.to) (store_in socket sockets)
  by_test true h e = at_new (sym (same_is socket.name s h))
  by_test false h e = above s.number (count_by (of_ends s.from s.to) sockets) (cond (of_ends s.from s.to socket) 1 0) (count_by (of_ends s.from s.to) (store_in socket sockets)) (n s w e) one_more
