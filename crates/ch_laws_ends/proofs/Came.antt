-- A target's end comes: it is open, and has the number that its host gives it.
use Rattle.std.proofs.Common.{◌≡◌, ℕ, Bool, true, false, cond, ◌&&◌, List, refl, sym, ap, ◌∙◌, subst}
use Rattle.std.proofs.lemmas.Bool.{and_parts}
use Rattle.std.specs.Prelude.{find, Option, Some, None, ◌==◌}
use Rattle.ch_model.specs.declared.name.End.{End}
use Rattle.ch_model.specs.declared.name.End.TheVariants.{O, T}
use Rattle.ch_model.specs.declared.name.SockName.{SockName}
use Rattle.ch_model.specs.Same.{same_socket}
use Rattle.ch_model.specs.Stages.{Open}
use Rattle.ch_model.specs.WorldSockets.{end_of, with_end, opened, is_socket_named, store_in, with_end_of, same_number, is_end_of, find_end}
use Rattle.ch_model.specs.WorldState.{WorldEnd, WorldSocket, World}
use Rattle.ch_laws_log.specs.WorldEnds.{stage_found, stage_held}
use Rattle.ch_laws_log.proofs.Agreeing.{with_end_is}
use Rattle.ch_laws_log.proofs.Kept.{IsIn}
use Rattle.ch_laws_log.proofs.Stored.{number_is, same_is, self_same, find_stored, Distinct}
use Rattle.ch_laws_log.proofs.WorldEnds.{found_is}
use Rattle.ch_laws_ends.proofs.Found.{same_found, now_found, EachFound, Stands}

-- the target's end that has come under this number
abbrev pub come_as : ℕ → WorldEnd → WorldEnd
come_as number end = record (opened end) { number = Some number }

abbrev pub come_socket : ℕ → WorldSocket → WorldSocket
come_socket number socket = with_end T (come_as number socket.t) socket

-- Where a target's end may come: it has no number, and none of its cell has the number that it gets.
pub record MayCome (place number : ℕ) (socket : WorldSocket) (sockets : List WorldSocket) : Type 0 where
  pub is : find (is_socket_named socket.name) sockets ≡ Some socket
  pub apart : Distinct sockets
  pub each : EachFound sockets
  pub cell : socket.t.cell ≡ Some place
  pub unnumbered : socket.t.number ≡ None
  pub free : find_end place number sockets ≡ None

-- this place and number are the new ones
abbrev pub is_new : ℕ → ℕ → ℕ → ℕ → Bool
is_new place number p n = (place == p) && (number == n)

new_target : (place number : ℕ) (socket : WorldSocket) (sockets : List WorldSocket) → MayCome place number socket sockets → (p n : ℕ) → is_end_of p n (come_socket number socket).t ≡ is_new place number p n
new_target place number socket sockets m p n = ap (λ (o : Option ℕ). same_number o p && (number == n)) m.cell

old_target : (place number : ℕ) (socket : WorldSocket) (sockets : List WorldSocket) → MayCome place number socket sockets → (p n : ℕ) → is_end_of p n socket.t ≡ false
old_target place number socket sockets m p n = ap (λ (o : Option ℕ). same_number socket.t.cell p && same_number o n) m.unnumbered ∙ by_test (same_number socket.t.cell p) where
  by_test : (b : Bool) → (b && false) ≡ false
  by_test true = refl
  by_test false = refl

free_at : (place number : ℕ) (socket : WorldSocket) (sockets : List WorldSocket) → MayCome place number socket sockets → (p n : ℕ) → is_new place number p n ≡ true → find_end p n sockets ≡ None
free_at place number socket sockets m p n e = let both = and_parts (place == p) (number == n) e in
    subst (λ (k : ℕ). find_end k n sockets ≡ None) (number_is place p both.0) (subst (λ (k : ℕ). find_end place k sockets ≡ None) (number_is number n both.1) m.free)

-- which end is found once it has come
pub come_found : (place number : ℕ) (socket : WorldSocket) (sockets : List WorldSocket) → MayCome place number socket sockets → (p n : ℕ) → find_end p n (store_in (come_socket number socket) sockets) ≡ cond (is_new place number p n) (Some (socket.name, T)) (find_end p n sockets)
come_found place number socket sockets m p n = by_new (is_new place number p n) refl where
  opener : find_end p n sockets ≡ None → (b : Bool) → is_end_of p n socket.o ≡ b → b ≡ false
  opener none false h = refl
  opener none true h = let there = m.each socket.name socket O p n m.is h in absurd cc

  by_new : (b : Bool) → is_new place number p n ≡ b → find_end p n (store_in (come_socket number socket) sockets) ≡ cond b (Some (socket.name, T)) (find_end p n sockets)
  by_new true h = let none = free_at place number socket sockets m p n h in now_found p n (come_socket number socket) socket T sockets m.is none
      (ap (λ b. cond b (Some O) (cond (is_end_of p n (come_socket number socket).t) (Some T) None)) (opener none (is_end_of p n socket.o) refl) ∙ ap (λ b. cond b (Some T) None) (new_target place number socket sockets m p n ∙ h))
  by_new false h = same_found p n (come_socket number socket) socket sockets m.is (ap (λ b. cond (is_end_of p n socket.o) (Some O) (cond b (Some T) None)) (new_target place number socket sockets m p n ∙ h ∙ sym (old_target place number socket sockets m p n)))

-- how the ends stand once it has come
pub come_held : (place number : ℕ) (socket : WorldSocket) (sockets : List WorldSocket) → MayCome place number socket sockets → (p n : ℕ) → stage_held p n (store_in (come_socket number socket) sockets) ≡ cond (is_new place number p n) (Some Open) (stage_held p n sockets)
come_held place number socket sockets m p n = ap (λ (o : Option (SockName × End)). stage_found o (store_in new sockets)) (come_found place number socket sockets m p n) ∙ by_new (is_new place number p n) where
  new : WorldSocket
  new = come_socket number socket

  by_end : (e : End) → is_end_of p n (end_of e socket) ≡ true → Stands e (Some new) ≡ Stands e (Some socket)
  by_end O h = refl
  by_end T h = let other = old_target place number socket sockets m p n in absurd cc

  by_name : (a : SockName × End) → find_end p n sockets ≡ Some a → (b : Bool) → same_socket new.name a.0 ≡ b → Stands a.1 (cond b (Some new) (find (is_socket_named a.0) sockets)) ≡ Stands a.1 (find (is_socket_named a.0) sockets)
  by_name a f true h =
      let o : find (is_socket_named a.0) sockets ≡ Some socket = subst (λ (s : SockName). find (is_socket_named s) sockets ≡ Some socket) (same_is socket.name a.0 h) m.is in
      by_end a.1 (found_is p n sockets a socket m.apart f o) ∙ ap (Stands a.1) (sym o)
  by_name a f false h = refl

  by_found : (o : Option (SockName × End)) → find_end p n sockets ≡ o → stage_found o (store_in new sockets) ≡ stage_found o sockets
  by_found None f = refl
  by_found (Some a) f = ap (Stands a.1) (find_stored new sockets a.0) ∙ by_name a f (same_socket new.name a.0) refl

  by_new : (b : Bool) → stage_found (cond b (Some (socket.name, T)) (find_end p n sockets)) (store_in new sockets) ≡ cond b (Some Open) (stage_held p n sockets)
  by_new true = ap (Stands T) (find_stored new sockets socket.name ∙ ap (λ b. cond b (Some new) (find (is_socket_named socket.name) sockets)) (self_same socket.name))
  by_new false = by_found (find_end p n sockets) refl

-- each end is found still
pub come_each : (place number : ℕ) (socket : WorldSocket) (sockets : List WorldSocket) → MayCome place number socket sockets → EachFound (store_in (come_socket number socket) sockets)
come_each place number socket sockets m t other a p n found of = come_found place number socket sockets m p n ∙ by_name (same_socket socket.name t) refl (sym (find_stored new sockets t) ∙ found) where
  new : WorldSocket
  new = come_socket number socket

  -- it is an end of another socket, or the opener's of this one
  old_end : find_end p n sockets ≡ Some (t, a) → (b : Bool) → is_new place number p n ≡ b → cond b (Some (socket.name, T)) (find_end p n sockets) ≡ Some (t, a)
  old_end f true h = let none = free_at place number socket sockets m p n h in absurd cc
  old_end f false h = f

  by_end : (e : End) → is_end_of p n (end_of e new) ≡ true → cond (is_new place number p n) (Some (socket.name, T)) (find_end p n sockets) ≡ Some (socket.name, e)
  by_end O of = by_opener (m.each socket.name socket O p n m.is of) (is_new place number p n) refl where
    by_opener : find_end p n sockets ≡ Some (socket.name, O) → (b : Bool) → is_new place number p n ≡ b → cond b (Some (socket.name, T)) (find_end p n sockets) ≡ Some (socket.name, O)
    by_opener f true h = let none = free_at place number socket sockets m p n h in absurd cc
    by_opener f false h = f
  by_end T of = ap (λ b. cond b (Some (socket.name, T)) (find_end p n sockets)) (sym (new_target place number socket sockets m p n) ∙ of)

  by_name : (b : Bool) → same_socket socket.name t ≡ b → cond b (Some new) (find (is_socket_named t) sockets) ≡ Some other → cond (is_new place number p n) (Some (socket.name, T)) (find_end p n sockets) ≡ Some (t, a)
  by_name true h found = let same : new ≡ other = cc in
      by_end a (subst (λ (w : WorldSocket). is_end_of p n (end_of a w) ≡ true) (sym same) of) ∙ ap (λ (s : SockName). Some (s, a)) (same_is socket.name t h)
  by_name false h found = old_end (m.each t other a p n found of) (is_new place number p n) refl

-- the sockets of the world where it has come
pub come_sockets : (number : ℕ) (socket : WorldSocket) (world : World) → IsIn socket world → (with_end_of socket.name T (come_as number) world).sockets ≡ store_in (come_socket number socket) world.sockets
come_sockets number socket world is = ap (λ (w : World). w.sockets) (with_end_is socket.name T (come_as number) world socket is)
