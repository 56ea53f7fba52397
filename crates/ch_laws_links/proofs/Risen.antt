-- How ends stand at their hosts is what the log tells of them.
use Rattle.std.proofs.Common.{◌≡◌, ℕ, Bool, true, false, cond, not, ◌&&◌, ◌||◌, List, [], ◌∷◌, ◌++◌, inl, inr, refl, sym, ap, ◌∙◌, subst}
use Rattle.std.proofs.lemmas.Bool.{and_parts, eqb-true}
use Rattle.std.proofs.lemmas.List.Folds.{list_any-append}
use Rattle.std.specs.Option.{option_map}
use Rattle.std.specs.Prelude.{◌⊎◌, find, Option, Some, None, ◌==◌, is_some}
use Rattle.ch_model.specs.declared.entry.Entry.{Entry}
use Rattle.ch_model.specs.declared.entry.Entry.TheVariants as entries
use Rattle.ch_model.specs.declared.name.End.{End}
use Rattle.ch_model.specs.declared.name.End.TheVariants.{T}
use Rattle.ch_model.specs.declared.name.SockName.{SockName}
use Rattle.ch_model.specs.Links.{rises, has_risen, is_closed, rises_once, falls_from_up, leaves_unrisen, rests_closed}
use Rattle.ch_model.specs.Logs.{each_after}
use Rattle.ch_model.specs.Same.{same_socket}
use Rattle.ch_model.specs.Sockets.{closes}
use Rattle.ch_model.specs.Stages.{is_pending, is_ended}
use Rattle.ch_model.specs.WorldSockets.{end_of, with_end, is_socket_named, store_in, with_end_of, same_number, end_at, find_end}
use Rattle.ch_model.specs.WorldState.{WorldEnd, WorldSocket, World}
use Rattle.ch_laws_log.proofs.Blocks.{each_append}
use Rattle.ch_laws_log.proofs.Stored.{find_stored, found_end, Distinct, same_is}
use Rattle.ch_laws_log.proofs.WorldEnds.{found_is}
use Rattle.ch_laws_links.specs.Risings.{IsToldAs}
use Rattle.ch_laws_links.specs.Standing.{Standing, IsPending, IsOpen, IsRisen, IsOver, joined, is_there, is_unrisen}
use Rattle.ch_laws_links.proofs.Found.{IsKnown, stored_known, new_known, is_one, one_is, one_self, which, KeepsPlace, number_kept, pending_kept, ended_kept, stored_found, found_kept, socket_kept}

closed_not : (b : Bool) → b ≡ true → b ≡ false → ⊥
closed_not b t f = absurd cc

-- ---- what a log tells of an end

-- nothing is told of the end
abbrev pub IsUntold : List Entry → SockName → End → Type 0
IsUntold log s e = (has_risen log s e ≡ false) × (is_closed log s e ≡ false)

-- the entry is what may be told after the log
abbrev pub may_tell : List Entry → Entry → Bool
may_tell log x = (rises_once log x && falls_from_up log x) && (leaves_unrisen log x && rests_closed log x)

-- Each end stands as the log tells; one that no host has a number for, as a target's that hasn't come, and each of a socket that
-- isn't there, isn't told of; one that is closed has ended; a number that a host has is of an end; and each entry was one that may be told.
pub record Agrees (now : ℕ → ℕ → Option Standing) (log : List Entry) (sockets : List WorldSocket) : Type 0 where
  pub held : (p n : ℕ) (at : SockName × End) → find_end p n sockets ≡ Some at → IsToldAs (now p n) (has_risen log at.0 at.1) (is_closed log at.0 at.1)
  pub unheld : (s : SockName) (e : End) (socket : WorldSocket) → find (is_socket_named s) sockets ≡ Some socket → (end_of e socket).number ≡ None → IsUntold log s e
  pub unopened : (s : SockName) (e : End) → find (is_socket_named s) sockets ≡ None → IsUntold log s e
  pub waiting : (s : SockName) (socket : WorldSocket) → find (is_socket_named s) sockets ≡ Some socket → is_pending socket.t.stage ≡ true → socket.t.number ≡ None
  pub known : (p n : ℕ) → is_some (now p n) ≡ true → IsKnown p n sockets
  pub over : (s : SockName) (e : End) (socket : WorldSocket) → find (is_socket_named s) sockets ≡ Some socket → is_closed log s e ≡ true → is_ended (end_of e socket).stage ≡ true
  pub well : each_after may_tell [] log ≡ true

-- ---- one more entry

risen_more : (log : List Entry) (x : Entry) (s : SockName) (e : End) (b : Bool) → rises s e x ≡ b → has_risen (log ++ x ∷ []) s e ≡ has_risen log s e || b
risen_more log x s e b h = list_any-append (rises s e) log (x ∷ []) ∙ ap (λ t. has_risen log s e || (t || false)) h ∙ by_test b where
  by_test : (b : Bool) → (has_risen log s e || (b || false)) ≡ (has_risen log s e || b)
  by_test true = refl
  by_test false = refl

closed_more : (log : List Entry) (x : Entry) (s : SockName) (e : End) (b : Bool) → closes s e x ≡ b → is_closed (log ++ x ∷ []) s e ≡ is_closed log s e || b
closed_more log x s e b h = list_any-append (closes s e) log (x ∷ []) ∙ ap (λ t. is_closed log s e || (t || false)) h ∙ by_test b where
  by_test : (b : Bool) → (is_closed log s e || (b || false)) ≡ (is_closed log s e || b)
  by_test true = refl
  by_test false = refl

or_false : (b : Bool) → (b || false) ≡ b
or_false true = refl
or_false false = refl

or_true : (b : Bool) → (b || true) ≡ true
or_true true = refl
or_true false = refl

-- an entry that isn't of the end
still_risen : (log : List Entry) (x : Entry) (s : SockName) (e : End) → rises s e x ≡ false → has_risen (log ++ x ∷ []) s e ≡ has_risen log s e
still_risen log x s e h = risen_more log x s e false h ∙ or_false (has_risen log s e)

still_closed : (log : List Entry) (x : Entry) (s : SockName) (e : End) → closes s e x ≡ false → is_closed (log ++ x ∷ []) s e ≡ is_closed log s e
still_closed log x s e h = closed_more log x s e false h ∙ or_false (is_closed log s e)

still_told : (now : Option Standing) (log : List Entry) (x : Entry) (s : SockName) (e : End) → rises s e x ≡ false → closes s e x ≡ false → IsToldAs now (has_risen log s e) (is_closed log s e) → IsToldAs now (has_risen (log ++ x ∷ []) s e) (is_closed (log ++ x ∷ []) s e)
still_told now log x s e r c t = subst (λ b. IsToldAs now (has_risen (log ++ x ∷ []) s e) b) (sym (still_closed log x s e c)) (subst (λ b. IsToldAs now b (is_closed log s e)) (sym (still_risen log x s e r)) t)

still_untold : (log : List Entry) (x : Entry) (s : SockName) (e : End) → rises s e x ≡ false → closes s e x ≡ false → IsUntold log s e → IsUntold (log ++ x ∷ []) s e
still_untold log x s e r c u = (still_risen log x s e r ∙ u.0, still_closed log x s e c ∙ u.1)

one_more : (log : List Entry) (x : Entry) → each_after may_tell [] log ≡ true → may_tell log x ≡ true → each_after may_tell [] (log ++ x ∷ []) ≡ true
one_more log x w m = each_append may_tell [] log (x ∷ []) w (ap (λ b. b && true) m)

-- ---- an entry that tells nothing of how an end stands

abbrev pub IsQuiet : Entry → Type 0
IsQuiet (entries.Fed sock end count) = ⊥
IsQuiet (entries.Up sock end) = ⊥
IsQuiet (entries.Down sock end) = ⊥
IsQuiet (entries.Left sock end) = ⊥
IsQuiet (entries.Wrote sock end bytes) = ⊥
IsQuiet entry = Unit {0}

quiet_rises : (x : Entry) → IsQuiet x → (s : SockName) (e : End) → rises s e x ≡ false
quiet_rises (entries.Up sock end) q s e = absurd q
quiet_rises x q s e = refl

quiet_closes : (x : Entry) → IsQuiet x → (s : SockName) (e : End) → closes s e x ≡ false
quiet_closes (entries.Down sock end) q s e = absurd q
quiet_closes (entries.Left sock end) q s e = absurd q
quiet_closes x q s e = refl

quiet_may : (x : Entry) → IsQuiet x → (log : List Entry) → may_tell log x ≡ true
quiet_may (entries.Fed sock end count) q log = absurd q
quiet_may (entries.Up sock end) q log = absurd q
quiet_may (entries.Down sock end) q log = absurd q
quiet_may (entries.Left sock end) q log = absurd q
quiet_may (entries.Wrote sock end bytes) q log = absurd q
quiet_may x q log = refl

pub quietly : (now : ℕ → ℕ → Option Standing) (log : List Entry) (sockets : List WorldSocket) (x : Entry) → IsQuiet x → Agrees now log sockets → Agrees now (log ++ x ∷ []) sockets
quietly now log sockets x q a = record {
  held = λ p n at e. still_told (now p n) log x at.0 at.1 (quiet_rises x q at.0 at.1) (quiet_closes x q at.0 at.1) (a.held p n at e);
  unheld = λ s e socket f u. still_untold log x s e (quiet_rises x q s e) (quiet_closes x q s e) (a.unheld s e socket f u);
  unopened = λ s e f. still_untold log x s e (quiet_rises x q s e) (quiet_closes x q s e) (a.unopened s e f);
  waiting = a.waiting;
  known = a.known;
  over = λ s e socket f c. a.over s e socket f (sym (still_closed log x s e (quiet_closes x q s e)) ∙ c);
  well = one_more log x a.well (quiet_may x q log);
}

-- ---- ends that stand otherwise, of which the same is told

pub restand : (now next : ℕ → ℕ → Option Standing) (log : List Entry) (sockets : List WorldSocket) → ((p n : ℕ) (risen closed : Bool) → IsToldAs (now p n) risen closed → IsToldAs (next p n) risen closed) → ((p n : ℕ) → is_some (next p n) ≡ true → is_some (now p n) ≡ true) → Agrees now log sockets → Agrees next log sockets
restand now next log sockets k b a = record {
  held = λ p n at e. k p n (has_risen log at.0 at.1) (is_closed log at.0 at.1) (a.held p n at e);
  unheld = a.unheld;
  unopened = a.unopened;
  waiting = a.waiting;
  known = λ p n h. a.known p n (b p n h);
  over = a.over;
  well = a.well;
}

pub joined_told : (now : Option Standing) (risen closed : Bool) → IsToldAs now risen closed → IsToldAs (joined now) risen closed
joined_told None risen closed t = t
joined_told (Some IsPending) risen closed t = t
joined_told (Some IsOpen) risen closed t = t
joined_told (Some IsRisen) risen closed t = t
joined_told (Some IsOver) risen closed t = t

-- ---- a socket of which an end is changed

pub rekept : (now : ℕ → ℕ → Option Standing) (log : List Entry) (world : World) (name : SockName) (e : End) (f : WorldEnd → WorldEnd) (old : WorldSocket) → find (is_socket_named name) world.sockets ≡ Some old → KeepsPlace f → (is_ended (end_of e old).stage ≡ true → is_ended (f (end_of e old)).stage ≡ true) → Agrees now log world.sockets → Agrees now log (with_end_of name e f world).sockets
rekept now log world name e f old is k o a = record {
  held = λ p n at found. a.held p n at (sym (found_kept p n name e f world old is k) ∙ found);
  unheld = λ s which socket found u. by_name s which socket (same_socket name s) refl (sym (socket_kept name e f world old s is) ∙ found) u;
  unopened = λ s which found. none_of s which (same_socket name s) (sym (socket_kept name e f world old s is) ∙ found);
  waiting = λ s socket found p. by_waiting s socket (same_socket name s) refl (sym (socket_kept name e f world old s is) ∙ found) p;
  known = λ p n h. ap is_some (found_kept p n name e f world old is k) ∙ a.known p n h;
  over = λ s which socket found c. by_over s which socket (same_socket name s) refl (sym (socket_kept name e f world old s is) ∙ found) c;
  well = a.well;
} where
  new : WorldSocket
  new = with_end e (f (end_of e old)) old

  by_name : (s : SockName) (which : End) (socket : WorldSocket) (b : Bool) → same_socket name s ≡ b → cond b (Some new) (find (is_socket_named s) world.sockets) ≡ Some socket → (end_of which socket).number ≡ None → IsUntold log s which
  by_name s which socket true h found u = let same : new ≡ socket = cc in a.unheld s which old (subst (λ (m : SockName). find (is_socket_named m) world.sockets ≡ Some old) (same_is name s h) is) (sym (number_kept which e f old k) ∙ subst (λ (w : WorldSocket). (end_of which w).number ≡ None) (sym same) u)
  by_name s which socket false h found u = a.unheld s which socket found u

  by_over : (s : SockName) (which : End) (socket : WorldSocket) (b : Bool) → same_socket name s ≡ b → cond b (Some new) (find (is_socket_named s) world.sockets) ≡ Some socket → is_closed log s which ≡ true → is_ended (end_of which socket).stage ≡ true
  by_over s which socket true h found c = let same : new ≡ socket = cc in
      subst (λ (w : WorldSocket). is_ended (end_of which w).stage ≡ true) same (ended_kept which e f old o (a.over s which old (subst (λ (m : SockName). find (is_socket_named m) world.sockets ≡ Some old) (same_is name s h) is) c))
  by_over s which socket false h found c = a.over s which socket found c

  by_waiting : (s : SockName) (socket : WorldSocket) (b : Bool) → same_socket name s ≡ b → cond b (Some new) (find (is_socket_named s) world.sockets) ≡ Some socket → is_pending socket.t.stage ≡ true → socket.t.number ≡ None
  by_waiting s socket true h found p = let same : new ≡ socket = cc in
      subst (λ (w : WorldSocket). w.t.number ≡ None) same (number_kept T e f old k ∙ a.waiting name old is (pending_kept e f old k (subst (λ (w : WorldSocket). is_pending w.t.stage ≡ true) (sym same) p)))
  by_waiting s socket false h found p = a.waiting s socket found p

  none_of : (s : SockName) (which : End) (b : Bool) → cond b (Some new) (find (is_socket_named s) world.sockets) ≡ None → IsUntold log s which
  none_of s which true found = absurd cc
  none_of s which false found = a.unopened s which found

-- ---- an entry of an end that a cell has under a number

-- the end under this number stands otherwise
abbrev pub set_at : ℕ → ℕ → (Option Standing → Option Standing) → (ℕ → ℕ → Option Standing) → ℕ → ℕ → Option Standing
set_at place sock g now p n = cond ((place == p) && (sock == n)) (g (now p n)) (now p n)

-- what an entry says of an end is said of the one that it names alone
pub record IsOf (x : Entry) (at : SockName × End) : Type 0 where
  pub rises_there : (s : SockName) (e : End) → is_one at (s, e) ≡ false → rises s e x ≡ false
  pub closes_there : (s : SockName) (e : End) → is_one at (s, e) ≡ false → closes s e x ≡ false

-- an end that has a number isn't one that has none, nor one of a socket that isn't there
other_unheld : (place sock : ℕ) (sockets : List WorldSocket) (at : SockName × End) → Distinct sockets → find_end place sock sockets ≡ Some at → (s : SockName) (e : End) (socket : WorldSocket) → find (is_socket_named s) sockets ≡ Some socket → (end_of e socket).number ≡ None → is_one at (s, e) ≡ false
other_unheld place sock sockets at d found s e socket is u = by_one (is_one at (s, e)) refl where
  by_number : (o : Option ℕ) → o ≡ None → same_number o sock ≡ true → ⊥
  by_number None e h = absurd cc
  by_number (Some n) e h = absurd cc

  by_one : (b : Bool) → is_one at (s, e) ≡ b → b ≡ false
  by_one false h = refl
  by_one true h = let same : at ≡ (s, e) = one_is at (s, e) h in
      let there : find_end place sock sockets ≡ Some (s, e) = found ∙ ap Some same in
      absurd (by_number (end_of e socket).number u (and_parts (same_number (end_of e socket).cell place) (same_number (end_of e socket).number sock) (found_is place sock sockets (s, e) socket d there is)).1)

unopened_is : (place sock : ℕ) (sockets : List WorldSocket) (at : SockName × End) → find_end place sock sockets ≡ Some at → (s : SockName) (e : End) → find (is_socket_named s) sockets ≡ None → is_one at (s, e) ≡ false
unopened_is place sock sockets at found s e none = by_one (is_one at (s, e)) refl where
  not_both : (o : Option WorldSocket) (w : WorldSocket) → o ≡ Some w → o ≡ None → ⊥
  not_both o w p q = absurd cc

  by_one : (b : Bool) → is_one at (s, e) ≡ b → b ≡ false
  by_one false h = refl
  by_one true h = let held = found_end place sock sockets at found in
      absurd (not_both (find (is_socket_named s) sockets) held.socket (ap (λ (m : SockName × End). find (is_socket_named m.0) sockets) (sym (one_is at (s, e) h)) ∙ held.is) none)

-- the entry tells how the end stands after it
pub told_at : (now : ℕ → ℕ → Option Standing) (log : List Entry) (sockets : List WorldSocket) (place sock : ℕ) (at : SockName × End) (x : Entry) (g : Option Standing → Option Standing) → Distinct sockets → find_end place sock sockets ≡ Some at → IsOf x at → may_tell log x ≡ true
    → ((socket : WorldSocket) → find (is_socket_named at.0) sockets ≡ Some socket → closes at.0 at.1 x ≡ true → is_ended (end_of at.1 socket).stage ≡ true)
    → (IsToldAs (now place sock) (has_risen log at.0 at.1) (is_closed log at.0 at.1) → IsToldAs (g (now place sock)) (has_risen (log ++ x ∷ []) at.0 at.1) (is_closed (log ++ x ∷ []) at.0 at.1)) → Agrees now log sockets → Agrees (set_at place sock g now) (log ++ x ∷ []) sockets
told_at now log sockets place sock at x g d found of may ends mine a = record {
  held = λ p n other e. by_which p n other (which place sock p n sockets at other d found e) (a.held p n other e);
  unheld = λ s e socket is u. let other = other_unheld place sock sockets at d found s e socket is u in still_untold log x s e (of.rises_there s e other) (of.closes_there s e other) (a.unheld s e socket is u);
  unopened = λ s e none. let other = unopened_is place sock sockets at found s e none in still_untold log x s e (of.rises_there s e other) (of.closes_there s e other) (a.unopened s e none);
  waiting = a.waiting;
  known = λ p n h. by_known p n ((place == p) && (sock == n)) refl h;
  over = λ s e socket is c. by_one s e socket is (is_one at (s, e)) refl c;
  well = one_more log x a.well may;
} where
  by_known : (p n : ℕ) (c : Bool) → ((place == p) && (sock == n)) ≡ c → is_some (cond c (g (now p n)) (now p n)) ≡ true → IsKnown p n sockets
  by_known p n true h s = let parts = and_parts (place == p) (sock == n) h in
      ap is_some (ap (λ (k : ℕ). find_end k n sockets) (sym (eqb-true place p parts.0)) ∙ ap (λ (k : ℕ). find_end place k sockets) (sym (eqb-true sock n parts.1)) ∙ found)
  by_known p n false h s = a.known p n s

  by_closes : (s : SockName) (e : End) (socket : WorldSocket) → find (is_socket_named s) sockets ≡ Some socket → at ≡ (s, e) → (b : Bool) → closes s e x ≡ b → is_closed (log ++ x ∷ []) s e ≡ true → is_ended (end_of e socket).stage ≡ true
  by_closes s e socket is same true h c = subst (λ (m : SockName × End). find (is_socket_named m.0) sockets ≡ Some socket → closes m.0 m.1 x ≡ true → is_ended (end_of m.1 socket).stage ≡ true) same (ends socket) is h
  by_closes s e socket is same false h c = a.over s e socket is (sym (still_closed log x s e h) ∙ c)

  by_one : (s : SockName) (e : End) (socket : WorldSocket) → find (is_socket_named s) sockets ≡ Some socket → (b : Bool) → is_one at (s, e) ≡ b → is_closed (log ++ x ∷ []) s e ≡ true → is_ended (end_of e socket).stage ≡ true
  by_one s e socket is true h c = by_closes s e socket is (one_is at (s, e) h) (closes s e x) refl c
  by_one s e socket is false h c = a.over s e socket is (sym (still_closed log x s e (of.closes_there s e h)) ∙ c)

  there : (p n : ℕ) → ((place == p) && (sock == n)) ≡ true → now place sock ≡ now p n
  there p n h = let parts = and_parts (place == p) (sock == n) h in ap (λ (k : ℕ). now k sock) (eqb-true place p parts.0) ∙ ap (now p) (eqb-true sock n parts.1)

  by_which : (p n : ℕ) (other : SockName × End) → (((place == p) && (sock == n)) ≡ true × (at ≡ other)) ⊎ ((((place == p) && (sock == n)) ≡ false) × (is_one at other ≡ false)) → IsToldAs (now p n) (has_risen log other.0 other.1) (is_closed log other.0 other.1)
      → IsToldAs (set_at place sock g now p n) (has_risen (log ++ x ∷ []) other.0 other.1) (is_closed (log ++ x ∷ []) other.0 other.1)
  by_which p n other (inl both) t = subst (λ (o : Option Standing). IsToldAs o (has_risen (log ++ x ∷ []) other.0 other.1) (is_closed (log ++ x ∷ []) other.0 other.1)) (sym (ap (λ b. cond b (g (now p n)) (now p n)) both.0))
      (subst (λ (m : SockName × End). IsToldAs (g (now p n)) (has_risen (log ++ x ∷ []) m.0 m.1) (is_closed (log ++ x ∷ []) m.0 m.1)) both.1
      (subst (λ (o : Option Standing). IsToldAs (g o) (has_risen (log ++ x ∷ []) at.0 at.1) (is_closed (log ++ x ∷ []) at.0 at.1)) (there p n both.0) (mine (a.held place sock at found))))
  by_which p n other (inr neither) t = subst (λ (o : Option Standing). IsToldAs o (has_risen (log ++ x ∷ []) other.0 other.1) (is_closed (log ++ x ∷ []) other.0 other.1)) (sym (ap (λ b. cond b (g (now p n)) (now p n)) neither.0))
      (still_told (now p n) log x other.0 other.1 (of.rises_there other.0 other.1 neither.1) (of.closes_there other.0 other.1 neither.1) t)

-- where the cell has no end under the number, nothing is told of it
pub unseen_at : (now : ℕ → ℕ → Option Standing) (log : List Entry) (sockets : List WorldSocket) (place sock : ℕ) (g : Option Standing → Option Standing) → ((x : Option Standing) → is_some (g x) ≡ true → is_some x ≡ true) → find_end place sock sockets ≡ None → Agrees now log sockets → Agrees (set_at place sock g now) log sockets
unseen_at now log sockets place sock g b none a = record {
  held = λ p n at e. by_both p n at e ((place == p) && (sock == n)) refl;
  unheld = a.unheld;
  unopened = a.unopened;
  waiting = a.waiting;
  known = λ p n h. a.known p n (by_known ((place == p) && (sock == n)) (now p n) h);
  over = a.over;
  well = a.well;
} where
  by_known : (c : Bool) (x : Option Standing) → is_some (cond c (g x) x) ≡ true → is_some x ≡ true
  by_known true x h = b x h
  by_known false x h = h

  not_both : (o : Option (SockName × End)) (at : SockName × End) → o ≡ Some at → o ≡ None → ⊥
  not_both o at p q = absurd cc

  by_both : (p n : ℕ) (at : SockName × End) → find_end p n sockets ≡ Some at → (b : Bool) → ((place == p) && (sock == n)) ≡ b → IsToldAs (cond b (g (now p n)) (now p n)) (has_risen log at.0 at.1) (is_closed log at.0 at.1)
  by_both p n at e true h = let parts = and_parts (place == p) (sock == n) h in
      absurd (not_both (find_end p n sockets) at e (ap (λ (k : ℕ). find_end k n sockets) (sym (eqb-true place p parts.0)) ∙ ap (λ (k : ℕ). find_end place k sockets) (sym (eqb-true sock n parts.1)) ∙ none))
  by_both p n at e false h = a.held p n at e

-- ---- the entries of steps

up_may : (log : List Entry) (s : SockName) (e : End) → has_risen log s e ≡ false → is_closed log s e ≡ false → may_tell log (entries.Up s e) ≡ true
up_may log s e r c = ap (λ b. (not b && true) && (true && not (is_closed log s e))) r ∙ ap not c

down_may : (log : List Entry) (s : SockName) (e : End) → has_risen log s e ≡ true → is_closed log s e ≡ false → may_tell log (entries.Down s e) ≡ true
down_may log s e r c = ap (λ b. (true && b) && (true && not (is_closed log s e))) r ∙ ap not c

left_may : (log : List Entry) (s : SockName) (e : End) → has_risen log s e ≡ false → is_closed log s e ≡ false → may_tell log (entries.Left s e) ≡ true
left_may log s e r c = ap (λ b. (true && true) && (not b && not (is_closed log s e))) r ∙ ap not c

wrote_may : (log : List Entry) (s : SockName) (e : End) (bytes : List ℕ) → is_closed log s e ≡ false → may_tell log (entries.Wrote s e bytes) ≡ true
wrote_may log s e bytes c = ap not c

open_told : (now : Option Standing) (r c : Bool) → now ≡ Some IsOpen → IsToldAs now r c → (r ≡ false) × (c ≡ false)
open_told now r c e t = subst (λ (o : Option Standing). IsToldAs o r c) e t

risen_told : (now : Option Standing) (r c : Bool) → now ≡ Some IsRisen → IsToldAs now r c → (r ≡ true) × (c ≡ false)
risen_told now r c e t = subst (λ (o : Option Standing). IsToldAs o r c) e t

unrisen_told : (now : Option Standing) (r c : Bool) → is_unrisen now ≡ true → IsToldAs now r c → (r ≡ false) × (c ≡ false)
unrisen_told None r c e t = absurd t
unrisen_told (Some IsPending) r c e t = t
unrisen_told (Some IsOpen) r c e t = t
unrisen_told (Some IsRisen) r c e t = absurd cc
unrisen_told (Some IsOver) r c e t = absurd cc

there_told : (now : Option Standing) (r c : Bool) → is_there now ≡ true → IsToldAs now r c → c ≡ false
there_told None r c e t = absurd t
there_told (Some IsPending) r c e t = absurd cc
there_told (Some IsOpen) r c e t = t.1
there_told (Some IsRisen) r c e t = t.1
there_told (Some IsOver) r c e t = absurd cc

over_told : (now : Option Standing) (r c d : Bool) → IsToldAs now r c → d ≡ true → (r2 : Bool) → IsToldAs (option_map (λ (s : Standing). IsOver) now) r2 d
over_told None r c d t e r2 = absurd t
over_told (Some s) r c d t e r2 = e

pub up_told : (now : ℕ → ℕ → Option Standing) (log : List Entry) (sockets : List WorldSocket) (place sock : ℕ) (at : SockName × End) → Distinct sockets → find_end place sock sockets ≡ Some at → now place sock ≡ Some IsOpen → Agrees now log sockets → Agrees (set_at place sock (option_map (λ (s : Standing). IsRisen)) now) (log ++ entries.Up at.0 at.1 ∷ []) sockets
up_told now log sockets place sock at d found right a = let told = open_told (now place sock) (has_risen log at.0 at.1) (is_closed log at.0 at.1) right (a.held place sock at found) in
    told_at now log sockets place sock at (entries.Up at.0 at.1) (option_map (λ (s : Standing). IsRisen)) d found (record { rises_there = λ s e h. h; closes_there = λ s e h. refl }) (up_may log at.0 at.1 told.0 told.1) (λ w is c. absurd cc)
    (λ t. subst (λ (o : Option Standing). IsToldAs (option_map (λ (s : Standing). IsRisen) o) (has_risen (log ++ entries.Up at.0 at.1 ∷ []) at.0 at.1) (is_closed (log ++ entries.Up at.0 at.1 ∷ []) at.0 at.1)) (sym right)
    (risen_more log (entries.Up at.0 at.1) at.0 at.1 true (one_self at) ∙ or_true (has_risen log at.0 at.1), still_closed log (entries.Up at.0 at.1) at.0 at.1 refl ∙ told.1)) a

pub down_told : (now : ℕ → ℕ → Option Standing) (log : List Entry) (sockets : List WorldSocket) (place sock : ℕ) (at : SockName × End) → Distinct sockets → find_end place sock sockets ≡ Some at → ((socket : WorldSocket) → find (is_socket_named at.0) sockets ≡ Some socket → is_ended (end_of at.1 socket).stage ≡ true) → now place sock ≡ Some IsRisen → Agrees now log sockets → Agrees (set_at place sock (option_map (λ (s : Standing). IsOver)) now) (log ++ entries.Down at.0 at.1 ∷ []) sockets
down_told now log sockets place sock at d found ends right a = let told = risen_told (now place sock) (has_risen log at.0 at.1) (is_closed log at.0 at.1) right (a.held place sock at found) in
    told_at now log sockets place sock at (entries.Down at.0 at.1) (option_map (λ (s : Standing). IsOver)) d found (record { rises_there = λ s e h. refl; closes_there = λ s e h. h }) (down_may log at.0 at.1 told.0 told.1) (λ w is c. ends w is)
    (λ t. over_told (now place sock) (has_risen log at.0 at.1) (is_closed log at.0 at.1) (is_closed (log ++ entries.Down at.0 at.1 ∷ []) at.0 at.1) t (closed_more log (entries.Down at.0 at.1) at.0 at.1 true (one_self at) ∙ or_true (is_closed log at.0 at.1)) (has_risen (log ++ entries.Down at.0 at.1 ∷ []) at.0 at.1)) a

pub left_told : (now : ℕ → ℕ → Option Standing) (log : List Entry) (sockets : List WorldSocket) (place sock : ℕ) (at : SockName × End) → Distinct sockets → find_end place sock sockets ≡ Some at → ((socket : WorldSocket) → find (is_socket_named at.0) sockets ≡ Some socket → is_ended (end_of at.1 socket).stage ≡ true) → is_unrisen (now place sock) ≡ true → Agrees now log sockets → Agrees (set_at place sock (option_map (λ (s : Standing). IsOver)) now) (log ++ entries.Left at.0 at.1 ∷ []) sockets
left_told now log sockets place sock at d found ends right a = let told = unrisen_told (now place sock) (has_risen log at.0 at.1) (is_closed log at.0 at.1) right (a.held place sock at found) in
    told_at now log sockets place sock at (entries.Left at.0 at.1) (option_map (λ (s : Standing). IsOver)) d found (record { rises_there = λ s e h. refl; closes_there = λ s e h. h }) (left_may log at.0 at.1 told.0 told.1) (λ w is c. ends w is)
    (λ t. over_told (now place sock) (has_risen log at.0 at.1) (is_closed log at.0 at.1) (is_closed (log ++ entries.Left at.0 at.1 ∷ []) at.0 at.1) t (closed_more log (entries.Left at.0 at.1) at.0 at.1 true (one_self at) ∙ or_true (is_closed log at.0 at.1)) (has_risen (log ++ entries.Left at.0 at.1 ∷ []) at.0 at.1)) a

pub wrote_told : (now : ℕ → ℕ → Option Standing) (log : List Entry) (sockets : List WorldSocket) (place sock : ℕ) (at : SockName × End) (bytes : List ℕ) → find_end place sock sockets ≡ Some at → is_there (now place sock) ≡ true → Agrees now log sockets → Agrees now (log ++ entries.Wrote at.0 at.1 bytes ∷ []) sockets
wrote_told now log sockets place sock at bytes found right a = record {
  held = λ p n other e. still_told (now p n) log x other.0 other.1 refl refl (a.held p n other e);
  unheld = λ s e socket is u. still_untold log x s e refl refl (a.unheld s e socket is u);
  unopened = λ s e none. still_untold log x s e refl refl (a.unopened s e none);
  waiting = a.waiting;
  known = a.known;
  over = λ s e socket is c. a.over s e socket is (sym (still_closed log x s e refl) ∙ c);
  well = one_more log x a.well (wrote_may log at.0 at.1 bytes (there_told (now place sock) (has_risen log at.0 at.1) (is_closed log at.0 at.1) right (a.held place sock at found)));
} where
  x : Entry
  x = entries.Wrote at.0 at.1 bytes

-- ---- a new socket

pub opened_told : (now next : ℕ → ℕ → Option Standing) (log : List Entry) (sockets : List WorldSocket) (new : WorldSocket) → find (is_socket_named new.name) sockets ≡ None → ((p n : ℕ) (r c : Bool) → IsToldAs (now p n) r c → IsToldAs (next p n) r c)
    → ((p n : ℕ) (end : End) (r c : Bool) → end_at p n new ≡ Some end → r ≡ false → c ≡ false → IsToldAs (next p n) r c) → ((p n : ℕ) → is_some (next p n) ≡ true → (is_some (now p n) ≡ true) ⊎ (is_some (end_at p n new) ≡ true)) → new.t.number ≡ None → Agrees now log sockets → Agrees next log (store_in new sockets)
opened_told now next log sockets new none k first from unnumbered a = record {
  held = λ p n at e. by_found p n at (stored_found p n new sockets at (λ h old is. absurd (not_both (find (is_socket_named new.name) sockets) old is none)) e);
  unheld = λ s e socket is u. by_name s e socket (same_socket new.name s) refl (sym (find_stored new sockets s) ∙ is) u;
  unopened = λ s e is. none_of s e (same_socket new.name s) (sym (find_stored new sockets s) ∙ is);
  waiting = λ s socket is p. by_waiting s socket (same_socket new.name s) (sym (find_stored new sockets s) ∙ is) p;
  known = λ p n h. by_from p n (from p n h);
  over = λ s e socket is c. by_over s e socket (same_socket new.name s) refl (sym (find_stored new sockets s) ∙ is) c;
  well = a.well;
} where
  not_both : (o : Option WorldSocket) (w : WorldSocket) → o ≡ Some w → o ≡ None → ⊥
  not_both o w p q = absurd cc

  by_from : (p n : ℕ) → (is_some (now p n) ≡ true) ⊎ (is_some (end_at p n new) ≡ true) → IsKnown p n (store_in new sockets)
  by_from p n (inl h) = stored_known p n new sockets (λ old is. absurd (not_both (find (is_socket_named new.name) sockets) old is none)) (a.known p n h)
  by_from p n (inr h) = new_known p n new sockets h

  by_found : (p n : ℕ) (at : SockName × End) → (find_end p n sockets ≡ Some at) ⊎ ((end : End) × (end_at p n new ≡ Some end) × (at ≡ (new.name, end))) → IsToldAs (next p n) (has_risen log at.0 at.1) (is_closed log at.0 at.1)
  by_found p n at (inl e) = k p n (has_risen log at.0 at.1) (is_closed log at.0 at.1) (a.held p n at e)
  by_found p n at (inr e) = subst (λ (m : SockName × End). IsToldAs (next p n) (has_risen log m.0 m.1) (is_closed log m.0 m.1)) (sym e.2) (let untold = a.unopened new.name e.0 none in first p n e.0 (has_risen log new.name e.0) (is_closed log new.name e.0) e.1 untold.0 untold.1)

  by_name : (s : SockName) (e : End) (socket : WorldSocket) (b : Bool) → same_socket new.name s ≡ b → cond b (Some new) (find (is_socket_named s) sockets) ≡ Some socket → (end_of e socket).number ≡ None → IsUntold log s e
  by_name s e socket true h is u = a.unopened s e (subst (λ (m : SockName). find (is_socket_named m) sockets ≡ None) (same_is new.name s h) none)
  by_name s e socket false h is u = a.unheld s e socket is u

  none_of : (s : SockName) (e : End) (b : Bool) → cond b (Some new) (find (is_socket_named s) sockets) ≡ None → IsUntold log s e
  none_of s e true is = absurd cc
  none_of s e false is = a.unopened s e is

  by_waiting : (s : SockName) (socket : WorldSocket) (b : Bool) → cond b (Some new) (find (is_socket_named s) sockets) ≡ Some socket → is_pending socket.t.stage ≡ true → socket.t.number ≡ None
  by_waiting s socket true is p = let same : new ≡ socket = cc in subst (λ (w : WorldSocket). w.t.number ≡ None) same unnumbered
  by_waiting s socket false is p = a.waiting s socket is p

  by_over : (s : SockName) (e : End) (socket : WorldSocket) (b : Bool) → same_socket new.name s ≡ b → cond b (Some new) (find (is_socket_named s) sockets) ≡ Some socket → is_closed log s e ≡ true → is_ended (end_of e socket).stage ≡ true
  by_over s e socket true h is c = absurd (closed_not (is_closed log s e) c (a.unopened s e (subst (λ (m : SockName). find (is_socket_named m) sockets ≡ None) (same_is new.name s h) none)).1)
  by_over s e socket false h is c = a.over s e socket is c

-- ---- bytes that are fed

pub fed_told : (now : ℕ → ℕ → Option Standing) (log : List Entry) (sockets : List WorldSocket) (s : SockName) (e : End) (count : ℕ) → is_closed log s e ≡ false → Agrees now log sockets → Agrees now (log ++ entries.Fed s e count ∷ []) sockets
fed_told now log sockets s e count c a = record {
  held = λ p n other f. still_told (now p n) log x other.0 other.1 refl refl (a.held p n other f);
  unheld = λ m which socket is u. still_untold log x m which refl refl (a.unheld m which socket is u);
  unopened = λ m which none. still_untold log x m which refl refl (a.unopened m which none);
  waiting = a.waiting;
  known = a.known;
  over = λ m which socket is k. a.over m which socket is (sym (still_closed log x m which refl) ∙ k);
  well = one_more log x a.well (ap not c);
} where
  x : Entry
  x = entries.Fed s e count
