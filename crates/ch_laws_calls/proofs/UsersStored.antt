-- What is so of all sockets where one is stored, or an end of one is changed; and which ends a number isn't of.
use Rattle.std.proofs.Common.{◌≡◌, ℕ, Bool, true, false, cond, List, refl, sym, ap, ◌∙◌, subst}
use Rattle.std.specs.Prelude.{find, Option, Some, None}
use Rattle.ch_model.specs.declared.name.End.{End}
use Rattle.ch_model.specs.declared.name.SockName.{SockName}
use Rattle.ch_model.specs.Same.{same_socket}
use Rattle.ch_model.specs.WorldSockets.{end_of, with_end, is_socket_named, store_in, with_socket, with_end_of, is_end_of, find_end}
use Rattle.ch_model.specs.WorldState.{WorldEnd, WorldSocket, World}
use Rattle.ch_laws_log.proofs.Stored.{same_is, self_same, find_stored}
use Rattle.ch_laws_ends.proofs.Found.{EachFound, new_name}
use Rattle.ch_laws_bytes.proofs.Sockets.{not_found}
use Rattle.ch_laws_calls.specs.UsersCarried.{AllOf}

-- a socket is stored, and so it is of that one and all others
pub all_stored : (C : WorldSocket → Type 0) (new : WorldSocket) (sockets : List WorldSocket) → C new → ((s : SockName) (socket : WorldSocket) → same_socket new.name s ≡ false → find (is_socket_named s) sockets ≡ Some socket → C socket) → AllOf C (store_in new sockets)
all_stored C new sockets mine others s socket f = by_name (same_socket new.name s) refl (sym (find_stored new sockets s) ∙ f) where
  by_name : (b : Bool) → same_socket new.name s ≡ b → cond b (Some new) (find (is_socket_named s) sockets) ≡ Some socket → C socket
  by_name true h f = let is : new ≡ socket = cc in subst C is mine
  by_name false h f = others s socket h f

-- an end is changed, and so it is of its socket and all others
pub all_changed : (C : WorldSocket → Type 0) (s : SockName) (e : End) (f : WorldEnd → WorldEnd) (world : World) → ((old : WorldSocket) → find (is_socket_named s) world.sockets ≡ Some old → C (with_end e (f (end_of e old)) old))
    → ((t : SockName) (socket : WorldSocket) → same_socket s t ≡ false → find (is_socket_named t) world.sockets ≡ Some socket → C socket) → AllOf C (with_end_of s e f world).sockets
all_changed C s e f world mine others = by_socket (find (is_socket_named s) world.sockets) refl where
  by_name : (t : SockName) (socket : WorldSocket) → find (is_socket_named s) world.sockets ≡ None → find (is_socket_named t) world.sockets ≡ Some socket → (b : Bool) → same_socket s t ≡ b → C socket
  by_name t socket none is true h = let gone : find (is_socket_named t) world.sockets ≡ None = subst (λ (m : SockName). find (is_socket_named m) world.sockets ≡ None) (same_is s t h) none in absurd cc
  by_name t socket none is false h = others t socket h is

  by_socket : (o : Option WorldSocket) → find (is_socket_named s) world.sockets ≡ o → AllOf C (elim o as (λ o. World) [
    | None ↦ world
    | Some socket ↦ with_socket (with_end e (f (end_of e socket)) socket) world
  ]).sockets
  by_socket None none = λ t socket is. by_name t socket none is (same_socket s t) refl
  by_socket (Some old) is = all_stored C (with_end e (f (end_of e old)) old) world.sockets (mine old is)
      (λ t socket h found. others t socket (subst (λ (m : SockName). same_socket m t ≡ false) (new_name s e (f (end_of e old)) world.sockets old is) h) found)

-- ---- which ends a number isn't of

-- neither end of a socket, where none is found
pub none_off : (place sock : ℕ) (sockets : List WorldSocket) (s : SockName) (socket : WorldSocket) (e : End) → EachFound sockets → find_end place sock sockets ≡ None → find (is_socket_named s) sockets ≡ Some socket → is_end_of place sock (end_of e socket) ≡ false
none_off place sock sockets s socket e each none f = not_found place sock sockets s socket e each f (λ h. gone h) where
  gone : find_end place sock sockets ≡ Some (s, e) → ⊥
  gone h = let clash : ◌≡◌ {A = Option (SockName × End)} None (Some (s, e)) = sym none ∙ h in absurd cc

-- nor those of another socket than the one that is found
pub other_off : (place sock : ℕ) (sockets : List WorldSocket) (at : SockName × End) (s : SockName) (socket : WorldSocket) (e : End) → EachFound sockets → find_end place sock sockets ≡ Some at → same_socket at.0 s ≡ false → find (is_socket_named s) sockets ≡ Some socket
    → is_end_of place sock (end_of e socket) ≡ false
other_off place sock sockets at s socket e each is apart f = not_found place sock sockets s socket e each f (λ h. gone h) where
  name_in : Option (SockName × End) → SockName
  name_in None = s
  name_in (Some a) = a.0

  gone : find_end place sock sockets ≡ Some (s, e) → ⊥
  gone h = let same : at.0 ≡ s = ap name_in (sym is ∙ h) in let yes : same_socket at.0 s ≡ true = subst (λ (m : SockName). same_socket at.0 m ≡ true) same (self_same at.0) in absurd cc
