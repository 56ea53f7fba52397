-- The sockets of a host by number: what one that is stored adds to what is unread.
use Rattle.std.proofs.Common.{◌≡◌, ◌≤◌, ℕ, ◌+◌, Bool, true, false, cond, List, [], ◌∷◌, length, refl, sym, ap, subst, arith}
use Rattle.std.proofs.lemmas.Bool.Decides.{nat_tests}
use Rattle.std.specs.Prelude.{find, Option, Some, None, ◌==◌}
use Rattle.ch_model.specs.Stages.{Ended}
use Rattle.ch_model.specs.HostState.{Socket, HostState}
use Rattle.ch_model.specs.HostSteps.{is_socket, store_socket, with_socket}
use Rattle.ch_model.specs.HostWrites.{ended_in, end_socket}
use Rattle.ch_laws_items.specs.Kept.{kept_of, kept_at, Apart, KeepsNoMore}

past : (a b r : ℕ) → (a + r) + b ≡ (b + r) + a
past a b r = omega arith

onto : (k t a r b : ℕ) → t + a ≡ r + b → (k + t) + a ≡ (k + r) + b
onto k t a r b e = omega arith

first : (a : ℕ) → (a + 0) + 0 ≡ 0 + a
first a = omega arith

-- a socket that is stored takes the place of what was unread under its number
pub stored : (socket : Socket) (sockets : List Socket) → kept_of (store_socket socket sockets) + kept_at socket.number sockets ≡ kept_of sockets + length socket.since
stored socket [] = first (length socket.since)
stored socket (known ∷ rest) = by_test (is_socket socket.number known) (stored socket rest)
  where
    by_test : (b : Bool) → kept_of (store_socket socket rest) + kept_at socket.number rest ≡ kept_of rest + length socket.since → kept_of (cond b (socket ∷ rest) (known ∷ store_socket socket rest)) + cond b (length known.since) (kept_at socket.number rest) ≡ (length known.since + kept_of rest) + length socket.since
    by_test true e = past (length socket.since) (length known.since) (kept_of rest)
    by_test false e = onto (length known.since) (kept_of (store_socket socket rest)) (kept_at socket.number rest) (kept_of rest) (length socket.since) e

pub number_is : (a b : ℕ) → (a == b) ≡ true → a ≡ b
number_is a b e = grind (arith, nat_tests)

-- numbers that differ, the other way round
turned : (a b : ℕ) → (a == b) ≡ false → (b == a) ≡ false
turned a b e = grind (arith, nat_tests)

-- no socket of another number comes by one that is stored
none_comes : (number : ℕ) (socket : Socket) (sockets : List Socket) → (socket.number == number) ≡ false → find (is_socket number) sockets ≡ None → find (is_socket number) (store_socket socket sockets) ≡ None
none_comes number socket [] other none = rw other refl
none_comes number socket (known ∷ rest) other none = by_tests (is_socket socket.number known) (is_socket number known) refl (none_comes number socket rest other) none
  where
    by_tests : (b c : Bool) → is_socket number known ≡ c → (find (is_socket number) rest ≡ None → find (is_socket number) (store_socket socket rest) ≡ None) → cond c (Some known) (find (is_socket number) rest) ≡ None → find (is_socket number) (cond b (socket ∷ rest) (known ∷ store_socket socket rest)) ≡ None
    by_tests b true is ih e = absurd cc
    by_tests true false is ih e = rw other e
    by_tests false false is ih e = rw is (ih e)

-- numbers that differ still differ
pub stored_apart : (socket : Socket) (sockets : List Socket) → Apart sockets → Apart (store_socket socket sockets)
stored_apart socket [] a = (refl, tt)
stored_apart socket (known ∷ rest) a = by_test (is_socket socket.number known) refl (stored_apart socket rest a.1)
  where
    by_test : (b : Bool) → is_socket socket.number known ≡ b → Apart (store_socket socket rest) → Apart (cond b (socket ∷ rest) (known ∷ store_socket socket rest))
    by_test true e s = (subst (λ (n : ℕ). find (is_socket n) rest ≡ None) (number_is known.number socket.number e) a.0, a.1)
    by_test false e s = (none_comes known.number socket rest (turned known.number socket.number e) a.0, s)

-- ---- a host

-- where the sockets are the same nothing more is unread
pub same : (before after : HostState) → after.sockets ≡ before.sockets → KeepsNoMore before after
same before after e = record { apart = λ a. subst Apart (sym e) a; kept = equal _ _ (ap kept_of e) }
  where
    equal : (m n : ℕ) → m ≡ n → m ≤ n
    equal m n e = omega arith

-- one thing and then another
pub onward : (one two three : HostState) → KeepsNoMore one two → KeepsNoMore two three → KeepsNoMore one three
onward one two three a b = record { apart = λ k. b.apart (a.apart k); kept = least _ _ _ b.kept a.kept }
  where
    least : (m n k : ℕ) → m ≤ n → n ≤ k → m ≤ k
    least m n k a b = omega arith

less : (t a k s : ℕ) → t + a ≡ k + s → s ≤ a → t ≤ k
less t a k s e l = omega arith

-- a socket that is stored with no more than stood under its number
pub stores : (socket : Socket) (host : HostState) → length socket.since ≤ kept_at socket.number host.sockets → KeepsNoMore host (with_socket socket host)
stores socket host l = record { apart = stored_apart socket host.sockets; kept = less _ _ _ _ (stored socket host.sockets) l }

none : (n : ℕ) → 0 ≤ n
none n = omega arith

-- a socket that is ended keeps nothing
pub ends : (sock : ℕ) (host : HostState) → KeepsNoMore host (end_socket sock host)
ends sock host = by_socket (find (is_socket sock) host.sockets)
  where
    by_socket : (o : Option Socket) → KeepsNoMore host (ended_in o host)
    by_socket None = same host host refl
    by_socket (Some socket) = stores (record socket { stage = Ended; since = [] }) host (none _)
