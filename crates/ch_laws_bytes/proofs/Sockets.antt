-- The streams of all sockets where one socket is changed, or what one end writes next.
use Rattle.std.proofs.Common.{◌≡◌, ℕ, Bool, true, false, cond, ◌&&◌, List, refl, sym, ap, ◌∙◌, subst}
use Rattle.std.specs.Prelude.{find, Option, Some, None, ◌==◌}
use Rattle.ch_base.specs.declared.address.Address.{Address}
use Rattle.ch_reader.specs.declared.item.Expected.TheVariants as expected
use Rattle.ch_model.specs.declared.name.End.{End}
use Rattle.ch_model.specs.declared.name.End.TheVariants.{O, T}
use Rattle.ch_model.specs.declared.name.SockName.{SockName}
use Rattle.ch_model.specs.Naming.{Names}
use Rattle.ch_model.specs.Same.{same_socket, same_end}
use Rattle.ch_model.specs.WorldSockets.{end_of, with_end, is_socket_named, store_in, with_socket, with_end_of, same_number, is_end_of, find_end}
use Rattle.ch_model.specs.WorldState.{WorldEnd, WorldSocket, World}
use Rattle.ch_laws_log.proofs.Stored.{number_is, number_same, same_is, self_same, find_stored}
use Rattle.ch_laws_ends.proofs.Found.{EachFound, new_name}
use Rattle.ch_laws_writes.specs.Dues.{Due}
use Rattle.ch_laws_bytes.specs.Streams.{Reader, is_over, ToOpener, FromOpener, reads_at, writes_at, BothFlow, AllFlow}

pub flip : (a b : ℕ) → (a == b) ≡ (b == a)
flip a b = by_tests (a == b) refl (b == a) refl where
  by_tests : (c : Bool) → (a == b) ≡ c → (d : Bool) → (b == a) ≡ d → c ≡ d
  by_tests true e true h = refl
  by_tests false e false h = refl
  by_tests true e false h = let yes : (b == a) ≡ true = subst (λ (k : ℕ). (b == k) ≡ true) (sym (number_is a b e)) (number_same b) in absurd cc
  by_tests false e true h = let yes : (a == b) ≡ true = subst (λ (k : ℕ). (a == k) ≡ true) (sym (number_is b a h)) (number_same a) in absurd cc

-- ---- what an end writes next

-- but at one place and number, the same is due
abbrev pub Elsewhere : ℕ → ℕ → (ℕ → ℕ → Option Due) → (ℕ → ℕ → Option Due) → Type 0
Elsewhere place sock one two = (p n : ℕ) → ((p == place) && (n == sock)) ≡ false → two p n ≡ one p n

pub writes_elsewhere : (place sock : ℕ) (one two : ℕ → ℕ → Option Due) (end : WorldEnd) → Elsewhere place sock one two → is_end_of place sock end ≡ false → writes_at two end.cell end.number ≡ writes_at one end.cell end.number
writes_elsewhere place sock one two end each = by_end end.cell end.number where
  by_end : (c m : Option ℕ) → (same_number c place && same_number m sock) ≡ false → writes_at two c m ≡ writes_at one c m
  by_end None m h = refl
  by_end (Some p) None h = refl
  by_end (Some p) (Some n) h = each p n h

pub writes_same : (one two : ℕ → ℕ → Option Due) (c m : Option ℕ) → ((p n : ℕ) → two p n ≡ one p n) → writes_at two c m ≡ writes_at one c m
writes_same one two None m each = refl
writes_same one two (Some p) None each = refl
writes_same one two (Some p) (Some n) each = each p n

-- what is written next at the place and number of an end
pub writes_there : (place sock : ℕ) (dues : ℕ → ℕ → Option Due) (end : WorldEnd) → is_end_of place sock end ≡ true → writes_at dues end.cell end.number ≡ dues place sock
writes_there place sock dues end = by_end end.cell end.number where
  by_end : (c m : Option ℕ) → (same_number c place && same_number m sock) ≡ true → writes_at dues c m ≡ dues place sock
  by_end None m h = absurd cc
  by_end (Some p) None h = absurd_and (p == place) h where
    absurd_and : {A : Type 0} (b : Bool) → (b && false) ≡ true → A
    absurd_and true h = absurd cc
    absurd_and false h = absurd cc
  by_end (Some p) (Some n) h = by_tests (p == place) refl (n == sock) refl h where
    by_tests : (c : Bool) → (p == place) ≡ c → (d : Bool) → (n == sock) ≡ d → (c && d) ≡ true → dues p n ≡ dues place sock
    by_tests true e true g h = ap (λ (k : ℕ). dues k n) (number_is p place e) ∙ ap (dues place) (number_is n sock g)
    by_tests true e false g h = absurd cc
    by_tests false e d g h = absurd cc

-- ---- one socket

-- both ways as before, where its ends write the same next
pub both_as : (own : ℕ → ℕ → Address) (known : Names) (readers : ℕ → ℕ → Option Reader) (one two : ℕ → ℕ → Option Due) (socket : WorldSocket)
    → writes_at two socket.o.cell socket.o.number ≡ writes_at one socket.o.cell socket.o.number → writes_at two socket.t.cell socket.t.number ≡ writes_at one socket.t.cell socket.t.number → BothFlow own known readers one socket → BothFlow own known readers two socket
both_as own known readers one two socket o t f = record {
  opener = subst (λ (due : Option Due). ToOpener (reads_at readers expected.Answer socket.o.cell socket.o.number) (is_over socket.o) socket.o.unread due) (sym t) f.opener;
  target = subst (λ (due : Option Due). FromOpener own known socket.name socket.o.cell (reads_at readers expected.Request socket.t.cell socket.t.number) (is_over socket.t) socket.t.unread due) (sym o) f.target;
}

pub all_as : (own : ℕ → ℕ → Address) (known : Names) (readers : ℕ → ℕ → Option Reader) (one two : ℕ → ℕ → Option Due) (sockets : List WorldSocket) → ((p n : ℕ) → two p n ≡ one p n) → AllFlow own known readers one sockets → AllFlow own known readers two sockets
all_as own known readers one two sockets same all s socket f = both_as own known readers one two socket (writes_same one two socket.o.cell socket.o.number same) (writes_same one two socket.t.cell socket.t.number same) (all s socket f)

-- ---- which ends are elsewhere

-- an end that isn't found under a number isn't of it
pub not_found : (place sock : ℕ) (sockets : List WorldSocket) (s : SockName) (socket : WorldSocket) (e : End) → EachFound sockets → find (is_socket_named s) sockets ≡ Some socket → (find_end place sock sockets ≡ Some (s, e) → ⊥) → is_end_of place sock (end_of e socket) ≡ false
not_found place sock sockets s socket e each f never = by_test (is_end_of place sock (end_of e socket)) refl where
  by_test : (b : Bool) → is_end_of place sock (end_of e socket) ≡ b → b ≡ false
  by_test false h = refl
  by_test true h = absurd (never (each s socket e place sock f h))

-- both ends of a socket are elsewhere, where none is found
pub none_there : (own : ℕ → ℕ → Address) (known : Names) (readers : ℕ → ℕ → Option Reader) (one two : ℕ → ℕ → Option Due) (place sock : ℕ) (sockets : List WorldSocket) → EachFound sockets → Elsewhere place sock one two → find_end place sock sockets ≡ None → AllFlow own known readers one sockets → AllFlow own known readers two sockets
none_there own known readers one two place sock sockets each else none all s socket f = both_as own known readers one two socket
    (writes_elsewhere place sock one two socket.o else (not_found place sock sockets s socket O each f (λ h. gone O h)))
    (writes_elsewhere place sock one two socket.t else (not_found place sock sockets s socket T each f (λ h. gone T h))) (all s socket f) where
      gone : (e : End) → find_end place sock sockets ≡ Some (s, e) → ⊥
      gone e h = let clash : ◌≡◌ {A = Option (SockName × End)} None (Some (s, e)) = sym none ∙ h in absurd cc

-- so are those of all other sockets, where one is
pub other_there : (own : ℕ → ℕ → Address) (known : Names) (readers : ℕ → ℕ → Option Reader) (one two : ℕ → ℕ → Option Due) (place sock : ℕ) (sockets : List WorldSocket) (at : SockName × End) → EachFound sockets → Elsewhere place sock one two → find_end place sock sockets ≡ Some at
    → AllFlow own known readers one sockets → (s : SockName) (socket : WorldSocket) → same_socket at.0 s ≡ false → find (is_socket_named s) sockets ≡ Some socket → BothFlow own known readers two socket
other_there own known readers one two place sock sockets at each else is all s socket apart f = both_as own known readers one two socket
    (writes_elsewhere place sock one two socket.o else (not_found place sock sockets s socket O each f (λ h. gone O h)))
    (writes_elsewhere place sock one two socket.t else (not_found place sock sockets s socket T each f (λ h. gone T h))) (all s socket f) where
      name_in : Option (SockName × End) → SockName
      name_in None = s
      name_in (Some a) = a.0

      gone : (e : End) → find_end place sock sockets ≡ Some (s, e) → ⊥
      gone e h = let same : at.0 ≡ s = ap name_in (sym is ∙ h) in let yes : same_socket at.0 s ≡ true = subst (λ (m : SockName). same_socket at.0 m ≡ true) same (self_same at.0) in absurd cc

-- the other end of the socket that is found is elsewhere
pub other_end_there : (place sock : ℕ) (sockets : List WorldSocket) (at : SockName × End) (socket : WorldSocket) (e : End) → EachFound sockets → find_end place sock sockets ≡ Some at → find (is_socket_named at.0) sockets ≡ Some socket → same_end at.1 e ≡ false → is_end_of place sock (end_of e socket) ≡ false
other_end_there place sock sockets at socket e each is f other = not_found place sock sockets at.0 socket e each f (λ h. gone h) where
  end_in : Option (SockName × End) → End
  end_in None = e
  end_in (Some a) = a.1

  own_end : (a : End) → same_end a a ≡ true
  own_end O = refl
  own_end T = refl

  gone : find_end place sock sockets ≡ Some (at.0, e) → ⊥
  gone h = let same : at.1 ≡ e = ap end_in (sym is ∙ h) in let yes : same_end at.1 e ≡ true = subst (λ (m : End). same_end at.1 m ≡ true) same (own_end at.1) in absurd cc

-- ---- a socket is stored

pub stored_flow : (own : ℕ → ℕ → Address) (known : Names) (readers : ℕ → ℕ → Option Reader) (dues : ℕ → ℕ → Option Due) (new : WorldSocket) (sockets : List WorldSocket) → BothFlow own known readers dues new
    → ((s : SockName) (socket : WorldSocket) → same_socket new.name s ≡ false → find (is_socket_named s) sockets ≡ Some socket → BothFlow own known readers dues socket) → AllFlow own known readers dues (store_in new sockets)
stored_flow own known readers dues new sockets mine others s socket f = by_name (same_socket new.name s) refl (sym (find_stored new sockets s) ∙ f) where
  by_name : (b : Bool) → same_socket new.name s ≡ b → cond b (Some new) (find (is_socket_named s) sockets) ≡ Some socket → BothFlow own known readers dues socket
  by_name true h f = let is : new ≡ socket = cc in subst (λ (w : WorldSocket). BothFlow own known readers dues w) is mine
  by_name false h f = others s socket h f

-- an end is changed
pub end_flow : (own : ℕ → ℕ → Address) (known : Names) (readers : ℕ → ℕ → Option Reader) (dues : ℕ → ℕ → Option Due) (s : SockName) (e : End) (f : WorldEnd → WorldEnd) (world : World)
    → ((old : WorldSocket) → find (is_socket_named s) world.sockets ≡ Some old → BothFlow own known readers dues (with_end e (f (end_of e old)) old))
    → ((t : SockName) (socket : WorldSocket) → same_socket s t ≡ false → find (is_socket_named t) world.sockets ≡ Some socket → BothFlow own known readers dues socket) → AllFlow own known readers dues (with_end_of s e f world).sockets
end_flow own known readers dues s e f world mine others = by_socket (find (is_socket_named s) world.sockets) refl where
  by_name : (t : SockName) (socket : WorldSocket) → find (is_socket_named s) world.sockets ≡ None → find (is_socket_named t) world.sockets ≡ Some socket → (b : Bool) → same_socket s t ≡ b → BothFlow own known readers dues socket
  by_name t socket none is true h = let gone : find (is_socket_named t) world.sockets ≡ None = subst (λ (m : SockName). find (is_socket_named m) world.sockets ≡ None) (same_is s t h) none in absurd cc
  by_name t socket none is false h = others t socket h is

  by_socket : (o : Option WorldSocket) → find (is_socket_named s) world.sockets ≡ o → AllFlow own known readers dues (elim o as (λ o. World) [
    | None ↦ world
    | Some socket ↦ with_socket (with_end e (f (end_of e socket)) socket) world
  ]).sockets
  by_socket None none = λ t socket is. by_name t socket none is (same_socket s t) refl
  by_socket (Some old) is = stored_flow own known readers dues (with_end e (f (end_of e old)) old) world.sockets (mine old is)
      (λ t socket h found. others t socket (subst (λ (m : SockName). same_socket m t ≡ false) (new_name s e (f (end_of e old)) world.sockets old is) h) found)
