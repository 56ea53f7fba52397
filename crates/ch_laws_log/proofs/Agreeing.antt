-- The world's sockets agree with the log: each single thing that happens keeps it so.
use Rattle.std.proofs.Common.{◌≡◌, ℕ, zero, suc, ◌+◌, ◌<◌, Bool, true, false, cond, not, ◌||◌, List, [], ◌∷◌, ◌++◌, length, take, drop, refl, sym, ap, ◌∙◌, subst, append_assoc, length-append, arith}
use Rattle.std.proofs.lemmas.List.{append-nil, take-append-drop}
use Rattle.std.proofs.lemmas.List.Quantifiers.{position-Some}
use Rattle.std.specs.Prelude.{find, is_some, position, slice_get, slice_set, Option, Some, None}
use Rattle.ch_base.specs.declared.address.Address.{Address}
use Rattle.ch_model.specs.declared.entry.Entry.{Entry}
use Rattle.ch_model.specs.declared.entry.Entry.TheVariants as entries
use Rattle.ch_model.specs.declared.line.Line.{Line}
use Rattle.ch_model.specs.declared.name.End.{End}
use Rattle.ch_model.specs.declared.name.End.TheVariants.{O, T}
use Rattle.ch_model.specs.declared.name.SockName.{SockName}
use Rattle.ch_model.specs.declared.note.Note.{Note}
use Rattle.ch_model.specs.declared.note.Note.TheVariants as notes
use Rattle.ch_model.specs.declared.step.Place.{Place}
use Rattle.ch_model.specs.declared.step.Step.{Step}
use Rattle.ch_model.specs.declared.step.Step.TheVariants as steps
use Rattle.ch_model.specs.Declarations.{has_host}
use Rattle.ch_model.specs.HostSteps.{own_address}
use Rattle.ch_model.specs.Naming.{Names, called, address_as}
use Rattle.ch_model.specs.Same.{same_socket}
use Rattle.ch_model.specs.Stages.{Stage, Pending, Open, Ended, is_pending, is_ended}
use Rattle.ch_model.specs.WorldHappenings.{with_cell}
use Rattle.ch_model.specs.WorldLines.{stranger_host}
use Rattle.ch_model.specs.WorldSockets.{end_of, other, with_end, ended, cut, opened, arrives, item_arrives, end_of_nobody, is_socket_named, with_socket, with_end_of, find_end, next_name, is_host_of, cell_of, target_end, new_socket}
use Rattle.ch_model.specs.WorldState.{Cell, WorldEnd, WorldSocket, World}
use Rattle.ch_model.specs.WorldSteps.{note_entry, place_after, on_end, later_places, item_is_read, reads_item, end_closes, stepped}
use Rattle.ch_laws_log.proofs.Views.{SeenEnd, Seen, unseen, is_of, grown, raised, sees, seen_in, stage_seen}
use Rattle.ch_laws_log.proofs.Kept.{IsIn, Keeps}
use Rattle.ch_laws_log.proofs.Seen.{unmoved, moved, grown_is, raised_is, HasFront, UnreadIs, EndFits}
use Rattle.ch_laws_log.proofs.Stored.{same_is, self_same, find_name, find_stored, found_end, Distinct, stored_distinct, Numbered, next_is_new, numbered_kept, numbered_new}

-- ---- a socket

-- What was seen of a socket fits how it stands: its opener's end where its dial wasn't refused, its target's end
-- where that is of a cell exactly if its name has a host.
pub record Fits (hosted : Bool) (seen : Seen) (socket : WorldSocket) : Type 0 where
  pub is_opened : seen.opened ≡ true
  pub of_opener : seen.refused ≡ false → EndFits (stage_seen hosted O seen) seen.o socket.o
  pub of_target : is_some socket.t.cell ≡ hosted → EndFits (stage_seen hosted T seen) seen.t socket.t

abbrev pub At : Bool → Seen → Option WorldSocket → Type 0
At hosted seen None = seen ≡ unseen
At hosted seen (Some socket) = Fits hosted seen socket

pub record Good (journal : List Line) (log : List Entry) (world : World) : Type 0 where
  pub apart : Distinct world.sockets
  pub numbered : Numbered world.sockets
  pub within : (s : SockName) (socket : WorldSocket) (place : ℕ) → find (is_socket_named s) world.sockets ≡ Some socket → socket.t.cell ≡ Some place → place < length world.cells
  pub agrees : (s : SockName) → At (has_host journal s.to) (seen_in log s) (find (is_socket_named s) world.sockets)

-- ---- entries of no socket

pub quiet : (journal : List Line) (log : List Entry) (world : World) (x : Entry) → ((s : SockName) → is_of s x ≡ false) → Good journal log world → Good journal (log ++ x ∷ []) world
quiet journal log world x none g = record {
  apart = g.apart;
  numbered = g.numbered;
  within = g.within;
  agrees = λ s. subst (λ (v : Seen). At (has_host journal s.to) v (find (is_socket_named s) world.sockets)) (sym (unmoved log s x (none s))) (g.agrees s);
}

pub length_set : {X : Type 0} (xs : List X) (k : ℕ) (y : X) → length (slice_set xs k y) ≡ length xs
length_set [] k y = refl
length_set (x ∷ xs) zero y = refl
length_set (x ∷ xs) (suc k) y = ap suc (length_set xs k y)

pub cell_kept : (journal : List Line) (log : List Entry) (world : World) (place : ℕ) (cell : Cell × ℕ) → Good journal log world → Good journal log (with_cell place cell world)
cell_kept journal log world place cell g = record {
  apart = g.apart;
  numbered = g.numbered;
  within = λ s socket at is of. subst (λ n. at < n) (sym (length_set world.cells place cell)) (g.within s socket at is of);
  agrees = g.agrees;
}

-- ---- one socket is changed

-- A socket takes another's place; the log shows nothing more of other sockets.
changed : (journal : List Line) (log more : List Entry) (world : World) (n : SockName) (old new : WorldSocket) → find (is_socket_named n) world.sockets ≡ Some old → new.name ≡ n → new.t.cell ≡ old.t.cell
    → ((s : SockName) → same_socket n s ≡ false → seen_in more s ≡ seen_in log s)
    → (Fits (has_host journal n.to) (seen_in log n) old → Fits (has_host journal n.to) (seen_in more n) new)
    → Good journal log world → Good journal more (with_socket new world)
changed journal log more world n old new is name cell others own g = record {
  apart = stored_distinct new world.sockets g.apart;
  numbered = numbered_kept new old world.sockets at_name g.numbered;
  within = λ s socket place found of. by_within s socket place (same_socket new.name s) refl (sym (find_stored new world.sockets s) ∙ found) of;
  agrees = λ s. subst (λ (o : Option WorldSocket). At (has_host journal s.to) (seen_in more s) o) (sym (find_stored new world.sockets s)) (by_name s (same_socket new.name s) refl);
} where
  at_name : find (is_socket_named new.name) world.sockets ≡ Some old
  at_name = subst (λ (m : SockName). find (is_socket_named m) world.sockets ≡ Some old) (sym name) is

  by_within : (s : SockName) (socket : WorldSocket) (place : ℕ) (b : Bool) → same_socket new.name s ≡ b → cond b (Some new) (find (is_socket_named s) world.sockets) ≡ Some socket → socket.t.cell ≡ Some place → place < length world.cells
  by_within s socket place true h found of = let same : new ≡ socket = cc in g.within n old place is (sym cell ∙ subst (λ (w : WorldSocket). w.t.cell ≡ Some place) (sym same) of)
  by_within s socket place false h found of = g.within s socket place found of

  fits : Fits (has_host journal n.to) (seen_in more n) new
  fits = own (subst (λ (o : Option WorldSocket). At (has_host journal n.to) (seen_in log n) o) is (g.agrees n))

  by_name : (s : SockName) (b : Bool) → same_socket new.name s ≡ b → At (has_host journal s.to) (seen_in more s) (cond b (Some new) (find (is_socket_named s) world.sockets))
  by_name s true h = subst (λ (m : SockName). Fits (has_host journal m.to) (seen_in more m) new) (sym name ∙ same_is new.name s h) fits
  by_name s false h = subst (λ (v : Seen). At (has_host journal s.to) v (find (is_socket_named s) world.sockets)) (sym (others s (subst (λ (m : SockName). same_socket m s ≡ false) name h))) (g.agrees s)

-- what is changed of an end leaves it in its cell
abbrev pub KeepsCell : (WorldEnd → WorldEnd) → Type 0
KeepsCell f = (end : WorldEnd) → (f end).cell ≡ end.cell

pub cell_of_end : (e : End) (f : WorldEnd → WorldEnd) (old : WorldSocket) → KeepsCell f → (with_end e (f (end_of e old)) old).t.cell ≡ old.t.cell
cell_of_end O f old k = refl
cell_of_end T f old k = k old.t

pub name_of_end : (e : End) (end : WorldEnd) (old : WorldSocket) → (with_end e end old).name ≡ old.name
name_of_end O end old = refl
name_of_end T end old = refl

pub with_end_is : (n : SockName) (e : End) (f : WorldEnd → WorldEnd) (world : World) (old : WorldSocket) → find (is_socket_named n) world.sockets ≡ Some old → with_end_of n e f world ≡ with_socket (with_end e (f (end_of e old)) old) world
with_end_is n e f world old is = ap (λ (o : Option WorldSocket). elim o as (λ o. World) [
  | None ↦ world
  | Some socket ↦ with_socket (with_end e (f (end_of e socket)) socket) world
]) is

-- an end of a socket is changed, by an entry of this socket
pub end_changed : (journal : List Line) (log : List Entry) (world : World) (x : Entry) (n : SockName) (e : End) (f : WorldEnd → WorldEnd) (old : WorldSocket) → find (is_socket_named n) world.sockets ≡ Some old → KeepsCell f
    → ((s : SockName) → is_of s x ≡ same_socket n s)
    → ((hosted : Bool) (seen : Seen) → Fits hosted seen old → Fits hosted (sees true x seen) (with_end e (f (end_of e old)) old))
    → Good journal log world → Good journal (log ++ x ∷ []) (with_end_of n e f world)
end_changed journal log world x n e f old is k of own g = subst (λ (w : World). Good journal (log ++ x ∷ []) w) (sym (with_end_is n e f world old is))
    (changed journal log (log ++ x ∷ []) world n old (with_end e (f (end_of e old)) old) is (name_of_end e (f (end_of e old)) old ∙ find_name n world.sockets old is) (cell_of_end e f old k)
    (λ s h. unmoved log s x (of s ∙ h))
    (λ fits. subst (λ (v : Seen). Fits (has_host journal n.to) v (with_end e (f (end_of e old)) old)) (sym (moved log n x (of n ∙ self_same n))) (own (has_host journal n.to) (seen_in log n) fits))
    g)

-- an end of a socket is changed in what the log doesn't tell
pub end_changed_silently : (journal : List Line) (log : List Entry) (world : World) (n : SockName) (e : End) (f : WorldEnd → WorldEnd) (old : WorldSocket) → find (is_socket_named n) world.sockets ≡ Some old → KeepsCell f
    → ((hosted : Bool) (seen : Seen) → Fits hosted seen old → Fits hosted seen (with_end e (f (end_of e old)) old))
    → Good journal log world → Good journal log (with_end_of n e f world)
end_changed_silently journal log world n e f old is k own g = subst (λ (w : World). Good journal log w) (sym (with_end_is n e f world old is))
    (changed journal log log world n old (with_end e (f (end_of e old)) old) is (name_of_end e (f (end_of e old)) old ∙ find_name n world.sockets old is) (cell_of_end e f old k)
    (λ s h. refl) (own (has_host journal n.to) (seen_in log n)) g)

-- the log tells of a socket what the world doesn't keep
pub noticed : (journal : List Line) (log : List Entry) (world : World) (x : Entry) (n : SockName) (old : WorldSocket) → find (is_socket_named n) world.sockets ≡ Some old
    → ((s : SockName) → is_of s x ≡ same_socket n s)
    → ((hosted : Bool) (seen : Seen) → Fits hosted seen old → Fits hosted (sees true x seen) old)
    → Good journal log world → Good journal (log ++ x ∷ []) world
noticed journal log world x n old is of own g = record {
  apart = g.apart;
  numbered = g.numbered;
  within = g.within;
  agrees = λ s. by_name s (same_socket n s) refl;
} where
  at_self : (s : SockName) → n ≡ s → find (is_socket_named s) world.sockets ≡ Some old
  at_self s e = subst (λ (m : SockName). find (is_socket_named m) world.sockets ≡ Some old) e is

  by_name : (s : SockName) (b : Bool) → same_socket n s ≡ b → At (has_host journal s.to) (seen_in (log ++ x ∷ []) s) (find (is_socket_named s) world.sockets)
  by_name s true h = subst (λ (v : Seen). At (has_host journal s.to) v (find (is_socket_named s) world.sockets)) (sym (moved log s x (of s ∙ h)))
      (subst (λ (o : Option WorldSocket). At (has_host journal s.to) (sees true x (seen_in log s)) o) (sym (at_self s (same_is n s h)))
      (own (has_host journal s.to) (seen_in log s) (subst (λ (o : Option WorldSocket). At (has_host journal s.to) (seen_in log s) o) (at_self s (same_is n s h)) (g.agrees s))))
  by_name s false h = subst (λ (v : Seen). At (has_host journal s.to) v (find (is_socket_named s) world.sockets)) (sym (unmoved log s x (of s ∙ h))) (g.agrees s)

-- ---- a new socket

target_cell : (c : Option ℕ) → (target_end c).cell ≡ c
target_cell None = refl
target_cell (Some place) = refl

position_within : {X : Type 0} (p : X → Bool) (xs : List X) (i : ℕ) → position p xs ≡ Some i → i < length xs
position_within p [] i e = absurd cc
position_within p (x ∷ xs) i e = (position-Some p (x ∷ xs) i x e).0

pub opened_new : (journal : List Line) (log : List Entry) (world : World) (x : Entry) (from to from_host : List ℕ) (opener : WorldEnd) (address : Address)
    → ((s : SockName) → is_of s x ≡ same_socket (next_name world from to) s)
    → ((hosted : Bool) → Fits hosted (sees true x unseen) (new_socket world from to from_host opener address))
    → Good journal log world → Good journal (log ++ x ∷ []) (with_socket (new_socket world from to from_host opener address) world)
opened_new journal log world x from to from_host opener address of own g = record {
  apart = stored_distinct new world.sockets g.apart;
  numbered = numbered_new new world.sockets refl is_new g.numbered;
  within = λ s socket place found at. by_within s socket place (same_socket new.name s) refl (sym (find_stored new world.sockets s) ∙ found) at;
  agrees = λ s. subst (λ (o : Option WorldSocket). At (has_host journal s.to) (seen_in (log ++ x ∷ []) s) o) (sym (find_stored new world.sockets s)) (by_name s (same_socket new.name s) refl);
} where
  new : WorldSocket
  new = new_socket world from to from_host opener address

  is_new : find (is_socket_named new.name) world.sockets ≡ None
  is_new = next_is_new world from to g.numbered

  by_within : (s : SockName) (socket : WorldSocket) (place : ℕ) (b : Bool) → same_socket new.name s ≡ b → cond b (Some new) (find (is_socket_named s) world.sockets) ≡ Some socket → socket.t.cell ≡ Some place → place < length world.cells
  by_within s socket place true h found at = let same : new ≡ socket = cc in
      position_within (is_host_of address) world.cells place (sym (target_cell (cell_of world address)) ∙ subst (λ (w : WorldSocket). w.t.cell ≡ Some place) (sym same) at)
  by_within s socket place false h found at = g.within s socket place found at

  before : seen_in log new.name ≡ unseen
  before = subst (λ (o : Option WorldSocket). At (has_host journal to) (seen_in log new.name) o) is_new (g.agrees new.name)

  fits : Fits (has_host journal new.name.to) (seen_in (log ++ x ∷ []) new.name) new
  fits = subst (λ (v : Seen). Fits (has_host journal to) v new) (sym (moved log new.name x (of new.name ∙ self_same new.name) ∙ ap (λ (v : Seen). sees true x v) before)) (own (has_host journal to))

  by_name : (s : SockName) (b : Bool) → same_socket new.name s ≡ b → At (has_host journal s.to) (seen_in (log ++ x ∷ []) s) (cond b (Some new) (find (is_socket_named s) world.sockets))
  by_name s true h = subst (λ (m : SockName). Fits (has_host journal m.to) (seen_in (log ++ x ∷ []) m) new) (same_is new.name s h) fits
  by_name s false h = subst (λ (v : Seen). At (has_host journal s.to) v (find (is_socket_named s) world.sockets)) (sym (unmoved log s x (of s ∙ h))) (g.agrees s)

-- ---- how an end fits after each thing

or_always : (b : Bool) → (b || true) ≡ true
or_always true = refl
or_always false = refl

nothing_put : HasFront (record { closed = false; cut = false; written = []; fed = 0 }) []
nothing_put = record { front = []; is = refl; count = refl }

pending_is : (stage : Stage) → is_pending stage ≡ true → stage ≡ Pending
pending_is Pending e = refl
pending_is Open e = absurd cc
pending_is Ended e = absurd cc

-- bytes arrive
left_grown : (seen : SeenEnd) (left bytes : List ℕ) → HasFront seen left → HasFront (record seen { written = grown seen.written bytes }) (left ++ bytes)
left_grown seen left bytes h = record { front = h.front; is = grown_is seen.written bytes ∙ ap (λ l. l ++ bytes) h.is ∙ append_assoc h.front left bytes; count = h.count }

after_arrival : (seen : SeenEnd) (end : WorldEnd) (bytes : List ℕ) (places : List (Option Place)) (stage : Stage) → EndFits stage seen end
    → EndFits stage (record seen { written = grown seen.written bytes }) (cond (is_ended end.stage || end.is_cut) end (record end { unread = end.unread ++ bytes; places = places }))
after_arrival seen end bytes places stage f = by_gone (is_ended end.stage || end.is_cut) refl f.left where
  by_gone : (b : Bool) → (is_ended end.stage || end.is_cut) ≡ b → UnreadIs b seen end.unread → EndFits stage (record seen { written = grown seen.written bytes }) (cond b end (record end { unread = end.unread ++ bytes; places = places }))
  by_gone true e l = record { stands = f.stands; cut_same = f.cut_same; left = subst (λ b. UnreadIs b (record seen { written = grown seen.written bytes }) end.unread) (sym e) l }
  by_gone false e l = record { stands = f.stands; cut_same = f.cut_same; left = subst (λ b. UnreadIs b (record seen { written = grown seen.written bytes }) (end.unread ++ bytes)) (sym e) (left_grown seen end.unread bytes l) }

-- bytes are fed
left_fed : (seen : SeenEnd) (left : List ℕ) (count : ℕ) (gone : Bool) → UnreadIs gone seen left → UnreadIs gone (record seen { fed = raised seen.fed (length (take count left)) }) (drop count left)
left_fed seen left count true h = subst (λ (l : List ℕ). drop count l ≡ []) (sym h) (nothing_left count) where
  nothing_left : (n : ℕ) → ◌≡◌ {A = List ℕ} (drop n []) []
  nothing_left zero = refl
  nothing_left (suc n) = refl
left_fed seen left count false h = record {
  front = h.front ++ take count left;
  is = h.is ∙ ap (λ l. h.front ++ l) (sym (take-append-drop count left)) ∙ sym (append_assoc h.front (take count left) (drop count left));
  count = length-append h.front (take count left) ∙ ap (λ n. n + length (take count left)) h.count ∙ sym (raised_is seen.fed (length (take count left)));
}

after_feeding : (seen : SeenEnd) (end : WorldEnd) (count : ℕ) (stage : Stage) → EndFits stage seen end → EndFits stage (record seen { fed = raised seen.fed (length (take count end.unread)) }) (record end { unread = drop count end.unread })
after_feeding seen end count stage f = record { stands = f.stands; cut_same = f.cut_same; left = left_fed seen end.unread count (is_ended end.stage || end.is_cut) f.left }

-- an end is closed, or over
after_closing : (seen now : SeenEnd) (end : WorldEnd) (stage : Stage) → now.cut ≡ seen.cut → EndFits stage seen end → EndFits Ended now (ended end)
after_closing seen now end stage c f = record { stands = refl; cut_same = c ∙ f.cut_same; left = refl }

-- an end is cut
after_cut : (seen now : SeenEnd) (end : WorldEnd) (stage : Stage) → now.cut ≡ true → EndFits stage seen end → EndFits stage now (cut end)
after_cut seen now end stage c f = record { stands = f.stands; cut_same = c; left = subst (λ b. UnreadIs b now []) (sym (or_always (is_ended end.stage))) refl }

-- a pending end is open
after_opening : (seen : SeenEnd) (end : WorldEnd) (number : Option ℕ) (stage : Stage) → is_pending end.stage ≡ true → EndFits stage seen end → EndFits Open seen (record end { stage = Open; number = number })
after_opening seen end number stage p f = record { stands = refl; cut_same = f.cut_same; left = subst (λ (s : Stage). UnreadIs (is_ended s || end.is_cut) seen end.unread) (pending_is end.stage p) f.left }

opener_opens : (closed over joined : Bool) (stage : Stage) → cond closed Ended (cond over Ended (cond joined Open Pending)) ≡ stage → is_pending stage ≡ true → cond closed Ended (cond over Ended Open) ≡ Open
opener_opens true over joined stage e p = let is : Ended ≡ Pending = e ∙ pending_is stage p in absurd cc
opener_opens false true joined stage e p = let is : Ended ≡ Pending = e ∙ pending_is stage p in absurd cc
opener_opens false false joined stage e p = refl

over_closed : (closed : Bool) → cond closed Ended Ended ≡ Ended
over_closed true = refl
over_closed false = refl

restaged : (one two : Stage) (seen : SeenEnd) (end : WorldEnd) → one ≡ two → EndFits two seen end → EndFits one seen end
restaged one two seen end e f = subst (λ (s : Stage). EndFits s seen end) (sym e) f

-- ---- each thing

wrote_fits : (n : SockName) (e : End) (bytes : List ℕ) (said : Option Place) (old : WorldSocket) (hosted : Bool) (seen : Seen) → Fits hosted seen old → Fits hosted (sees true (entries.Wrote n e bytes) seen) (with_end (other e) (item_arrives bytes said (end_of (other e) old)) old)
wrote_fits n O bytes said old hosted seen f = record { is_opened = f.is_opened; of_opener = f.of_opener; of_target = λ h. after_arrival seen.t old.t bytes (old.t.places ++ said ∷ []) (stage_seen hosted T seen) (f.of_target (sym (arrived_cell (is_ended old.t.stage || old.t.is_cut)) ∙ h)) } where
  arrived_cell : (b : Bool) → is_some (cond b old.t (record old.t { unread = old.t.unread ++ bytes; places = old.t.places ++ said ∷ [] })).cell ≡ is_some old.t.cell
  arrived_cell true = refl
  arrived_cell false = refl
wrote_fits n T bytes said old hosted seen f = record { is_opened = f.is_opened; of_opener = λ h. after_arrival seen.o old.o bytes (old.o.places ++ said ∷ []) (stage_seen hosted O seen) (f.of_opener h); of_target = f.of_target }

down_fits : (n : SockName) (e : End) (old : WorldSocket) (hosted : Bool) (seen : Seen) → Fits hosted seen old → Fits hosted (sees true (entries.Down n e) seen) (with_end e (ended (end_of e old)) old)
down_fits n O old hosted seen f = record { is_opened = f.is_opened; of_opener = λ h. after_closing seen.o _ old.o (stage_seen hosted O seen) refl (f.of_opener h); of_target = f.of_target }
down_fits n T old hosted seen f = record { is_opened = f.is_opened; of_opener = f.of_opener; of_target = λ h. after_closing seen.t _ old.t (stage_seen hosted T seen) refl (f.of_target h) }

left_fits : (n : SockName) (e : End) (old : WorldSocket) (hosted : Bool) (seen : Seen) → Fits hosted seen old → Fits hosted (sees true (entries.Left n e) seen) (with_end e (ended (end_of e old)) old)
left_fits n O old hosted seen f = record { is_opened = f.is_opened; of_opener = λ h. after_closing seen.o _ old.o (stage_seen hosted O seen) refl (f.of_opener h); of_target = f.of_target }
left_fits n T old hosted seen f = record { is_opened = f.is_opened; of_opener = f.of_opener; of_target = λ h. after_closing seen.t _ old.t (stage_seen hosted T seen) refl (f.of_target h) }

cut_fits : (n : SockName) (e : End) (old : WorldSocket) (hosted : Bool) (seen : Seen) → Fits hosted seen old → Fits hosted (sees true (entries.Cut n e) seen) (with_end e (cut (end_of e old)) old)
cut_fits n O old hosted seen f = record { is_opened = f.is_opened; of_opener = λ h. after_cut seen.o _ old.o (stage_seen hosted O seen) refl (f.of_opener h); of_target = f.of_target }
cut_fits n T old hosted seen f = record { is_opened = f.is_opened; of_opener = f.of_opener; of_target = λ h. after_cut seen.t _ old.t (stage_seen hosted T seen) refl (f.of_target h) }

fed_fits : (n : SockName) (e : End) (count : ℕ) (old : WorldSocket) (hosted : Bool) (seen : Seen) → Fits hosted seen old
    → Fits hosted (sees true (entries.Fed n e (length (take count (end_of e old).unread))) seen) (with_end e (record (end_of e old) { unread = drop count (end_of e old).unread }) old)
fed_fits n O count old hosted seen f = record { is_opened = f.is_opened; of_opener = λ h. after_feeding seen.o old.o count (stage_seen hosted O seen) (f.of_opener h); of_target = f.of_target }
fed_fits n T count old hosted seen f = record { is_opened = f.is_opened; of_opener = f.of_opener; of_target = λ h. after_feeding seen.t old.t count (stage_seen hosted T seen) (f.of_target h) }

joined_fits : (n : SockName) (old : WorldSocket) → is_pending old.o.stage ≡ true → (hosted : Bool) (seen : Seen) → Fits hosted seen old → Fits hosted (sees true (entries.Joined n) seen) (with_end O (opened old.o) old)
joined_fits n old p hosted seen f = record {
  is_opened = f.is_opened;
  of_opener = λ h. restaged _ Open seen.o (opened old.o) (opener_opens seen.o.closed seen.over seen.joined old.o.stage (f.of_opener h).stands p) (after_opening seen.o old.o old.o.number (stage_seen hosted O seen) p (f.of_opener h));
  of_target = f.of_target;
}

came_fits : (n : SockName) (old : WorldSocket) (number : ℕ) → is_pending old.t.stage ≡ true → (hosted : Bool) (seen : Seen) → Fits hosted seen old → Fits hosted (sees true (entries.Came n) seen) (with_end T (record (opened old.t) { number = Some number }) old)
came_fits n old number p hosted seen f = record {
  is_opened = f.is_opened;
  of_opener = f.of_opener;
  of_target = λ h. restaged _ Open seen.t (record (opened old.t) { number = Some number }) (opener_opens seen.t.closed (not hosted) seen.came old.t.stage (f.of_target h).stands p) (after_opening seen.t old.t (Some number) (stage_seen hosted T seen) p (f.of_target h));
}

refused_fits : (n : SockName) (old : WorldSocket) (hosted : Bool) (seen : Seen) → Fits hosted seen old → Fits hosted (sees true (entries.Refused n) seen) old
refused_fits n old hosted seen f = record { is_opened = f.is_opened; of_opener = λ h. absurd cc; of_target = f.of_target }

quitted_fits : (n : SockName) (old : WorldSocket) (hosted : Bool) (seen : Seen) → Fits hosted seen old → Fits hosted (sees true (entries.Quitted n) seen) (with_end O (ended old.o) old)
quitted_fits n old hosted seen f = record { is_opened = f.is_opened; of_opener = λ h. restaged _ Ended seen.o (ended old.o) (over_closed seen.o.closed) (after_closing seen.o seen.o old.o (stage_seen hosted O seen) refl (f.of_opener h)); of_target = f.of_target }

poked_fits : (n : SockName) (bytes : List ℕ) (old : WorldSocket) (hosted : Bool) (seen : Seen) → Fits hosted seen old → Fits hosted (sees true (entries.Poked n bytes) seen) (with_end T (arrives bytes old.t) old)
poked_fits n bytes old hosted seen f = record { is_opened = f.is_opened; of_opener = f.of_opener; of_target = λ h. after_arrival seen.t old.t bytes old.t.places (stage_seen hosted T seen) (f.of_target (sym (arrived_cell (is_ended old.t.stage || old.t.is_cut)) ∙ h)) } where
  arrived_cell : (b : Bool) → is_some (cond b old.t (record old.t { unread = old.t.unread ++ bytes })).cell ≡ is_some old.t.cell
  arrived_cell true = refl
  arrived_cell false = refl

read_fits : (e : End) (old : WorldSocket) (hosted : Bool) (seen : Seen) → Fits hosted seen old → Fits hosted seen (with_end e (record (end_of e old) { places = later_places (end_of e old).places }) old)
read_fits O old hosted seen f = record { is_opened = f.is_opened; of_opener = λ h. record { stands = (f.of_opener h).stands; cut_same = (f.of_opener h).cut_same; left = (f.of_opener h).left }; of_target = f.of_target }
read_fits T old hosted seen f = record { is_opened = f.is_opened; of_opener = f.of_opener; of_target = λ h. record { stands = (f.of_target h).stands; cut_same = (f.of_target h).cut_same; left = (f.of_target h).left } }

target_fits : (c : Option ℕ) (hosted : Bool) → is_some (target_end c).cell ≡ hosted → EndFits (cond (not hosted) Ended Pending) (record { closed = false; cut = false; written = []; fed = 0 }) (target_end c)
target_fits None false e = record { stands = refl; cut_same = refl; left = refl }
target_fits None true e = absurd cc
target_fits (Some place) true e = record { stands = refl; cut_same = refl; left = nothing_put }
target_fits (Some place) false e = absurd cc

dial_fits : (world : World) (from to from_host : List ℕ) (cell sock : ℕ) (peer : Address) (hosted : Bool) → Fits hosted (sees true (entries.Dial (next_name world from to)) unseen) (new_socket world from to from_host (end_of_nobody (Some cell) (Some sock) Pending) peer)
dial_fits world from to from_host cell sock peer hosted = record { is_opened = refl; of_opener = λ h. record { stands = refl; cut_same = refl; left = nothing_put }; of_target = target_fits (cell_of world peer) hosted }

knock_fits : (world : World) (from to from_host : List ℕ) (address : Address) (hosted : Bool) → Fits hosted (sees true (entries.Knocked (next_name world from to)) unseen) (new_socket world from to from_host (end_of_nobody None None Open) address)
knock_fits world from to from_host address hosted = record { is_opened = refl; of_opener = λ h. record { stands = refl; cut_same = refl; left = nothing_put }; of_target = target_fits (cell_of world address) hosted }

-- ---- what is told at a cell

note_quiet : (known : Names) (last : Option Place) (note : Note) (s : SockName) → is_of s (note_entry known last note) ≡ false
note_quiet known last (notes.Made process origin) s = refl
note_quiet known last note s = refl

note_kept : (journal : List Line) (log : List Entry) (world : World) (note : Note) → Good journal log world → Good journal (log ++ note_entry world.names world.last note ∷ []) (record world { last = place_after world.last note })
note_kept journal log world note g = record { apart = h.apart; numbered = h.numbered; within = h.within; agrees = h.agrees } where
  h : Good journal (log ++ note_entry world.names world.last note ∷ []) world
  h = quiet journal log world (note_entry world.names world.last note) (note_quiet world.names world.last note) g

-- nothing is told
still : (journal : List Line) (log : List Entry) (world : World) → Good journal log world → Good journal (log ++ []) world
still journal log world g = subst (λ (l : List Entry). Good journal l world) (sym (append-nil log)) g

at_end : (journal : List Line) (log : List Entry) (place sock : ℕ) (f : SockName × End → World → List Entry × World) (world : World) → Good journal log world
    → ((at : SockName × End) (old : WorldSocket) → find (is_socket_named at.0) world.sockets ≡ Some old → Good journal (log ++ (f at world).0) (f at world).1)
    → Good journal (log ++ (on_end place sock f world).0) (on_end place sock f world).1
at_end journal log place sock f world g each = by_end (find_end place sock world.sockets) refl where
  told : Option (SockName × End) → List Entry × World
  told o = elim o as (λ o. List Entry × World) [
    | None ↦ ([], world)
    | Some at ↦ f at world
  ]

  by_end : (o : Option (SockName × End)) → find_end place sock world.sockets ≡ o → Good journal (log ++ (told o).0) (told o).1
  by_end None e = still journal log world g
  by_end (Some at) e = let held = found_end place sock world.sockets at e in each at held.socket held.is

read_kept : (journal : List Line) (log : List Entry) (at : SockName × End) (world : World) (old : WorldSocket) → find (is_socket_named at.0) world.sockets ≡ Some old → Good journal log world → Good journal (log ++ (reads_item at world).0) (reads_item at world).1
read_kept journal log at world old is g = still journal log (item_is_read at (find (is_socket_named at.0) world.sockets) world)
    (subst (λ (o : Option WorldSocket). Good journal log (item_is_read at o world)) (sym is) (record { apart = h.apart; numbered = h.numbered; within = h.within; agrees = h.agrees })) where
      h : Good journal log (with_end_of at.0 at.1 (λ end. record end { places = later_places end.places }) world)
      h = end_changed_silently journal log world at.0 at.1 (λ end. record end { places = later_places end.places }) old is (λ end. refl) (read_fits at.1 old) g

pub arrived_in_cell : (bytes : List ℕ) (said : Option Place) (end : WorldEnd) → (item_arrives bytes said end).cell ≡ end.cell
arrived_in_cell bytes said end = by_gone (is_ended end.stage || end.is_cut) where
  by_gone : (b : Bool) → (cond b end (record end { unread = end.unread ++ bytes; places = end.places ++ said ∷ [] })).cell ≡ end.cell
  by_gone true = refl
  by_gone false = refl

pub poked_in_cell : (bytes : List ℕ) (end : WorldEnd) → (arrives bytes end).cell ≡ end.cell
poked_in_cell bytes end = by_gone (is_ended end.stage || end.is_cut) where
  by_gone : (b : Bool) → (cond b end (record end { unread = end.unread ++ bytes })).cell ≡ end.cell
  by_gone true = refl
  by_gone false = refl

step_kept : (journal : List Line) (log : List Entry) (world : World) (place : ℕ) (cell : Cell) (step : Step) → Good journal log world → Good journal (log ++ (stepped place cell step world).0) (stepped place cell step world).1
step_kept journal log world place cell (steps.Dial sock end peer) g =
    opened_new journal log world (entries.Dial (next_name world (called world.names (own_address cell.host end)) (called world.names peer)))
    (called world.names (own_address cell.host end)) (called world.names peer) cell.host.host (end_of_nobody (Some place) (Some sock) Pending) peer (λ s. refl)
    (dial_fits world (called world.names (own_address cell.host end)) (called world.names peer) cell.host.host place sock peer) g
step_kept journal log world place cell (steps.Read sock) g = at_end journal log place sock reads_item world g (λ at old is. read_kept journal log at world old is g)
step_kept journal log world place cell (steps.Write sock bytes said) g = at_end journal log place sock (λ at now. (entries.Wrote at.0 at.1 bytes ∷ [], with_end_of at.0 (other at.1) (item_arrives bytes said) now)) world g
    (λ at old is. end_changed journal log world (entries.Wrote at.0 at.1 bytes) at.0 (other at.1) (item_arrives bytes said) old is (arrived_in_cell bytes said) (λ s. refl) (wrote_fits at.0 at.1 bytes said old) g)
step_kept journal log world place cell (steps.Up sock) g = at_end journal log place sock (λ at now. (entries.Up at.0 at.1 ∷ [], now)) world g (λ at old is. quiet journal log world (entries.Up at.0 at.1) (λ s. refl) g)
step_kept journal log world place cell (steps.Down sock) g = at_end journal log place sock (λ at now. (entries.Down at.0 at.1 ∷ [], end_closes at now)) world g
    (λ at old is. end_changed journal log world (entries.Down at.0 at.1) at.0 at.1 ended old is (λ end. refl) (λ s. refl) (down_fits at.0 at.1 old) g)
step_kept journal log world place cell (steps.Left sock) g = at_end journal log place sock (λ at now. (entries.Left at.0 at.1 ∷ [], end_closes at now)) world g
    (λ at old is. end_changed journal log world (entries.Left at.0 at.1) at.0 at.1 ended old is (λ end. refl) (λ s. refl) (left_fits at.0 at.1 old) g)
step_kept journal log world place cell (steps.Broke end peer why) g = quiet journal log world (entries.Broke (called world.names (own_address cell.host end)) (called world.names peer) why) (λ s. refl) g
step_kept journal log world place cell (steps.Post end event) g = still journal log world g

-- ---- all of it

pub some_within : {X : Type 0} (xs : List X) (i : ℕ) → i < length xs → is_some (slice_get xs i) ≡ true
some_within [] i h = absurd (never i h) where
  never : (n : ℕ) → n < 0 → ⊥
  never n h = omega arith
some_within (x ∷ xs) zero h = refl
some_within (x ∷ xs) (suc i) h = some_within xs i (before i (length xs) h) where
  before : (n m : ℕ) → suc n < suc m → n < m
  before n m h = omega arith

nowhere : (journal : List Line) (log : List Entry) (world : World) (socket : WorldSocket) (place : ℕ) → IsIn socket world → socket.t.cell ≡ Some place → slice_get world.cells place ≡ None → Good journal log world → ⊥
nowhere journal log world socket place is at none g =
    let there : is_some (slice_get world.cells place) ≡ true = some_within world.cells place (g.within socket.name socket place is at) in
    let gone : is_some (slice_get world.cells place) ≡ false = ap is_some none in
    absurd cc

-- refusals and feedings of any kind keep it
abbrev pub AnyCount : ℕ → List ℕ → Type 0
AnyCount count left = Unit {0}

pub keeps_good : (journal : List Line) → Keeps (Unit {0}) AnyCount (Good journal)
keeps_good journal = record {
  whole = λ left. tt;
  distinct = λ log world g. g.apart;
  cell = cell_kept journal;
  mark = λ log world number answer g. quiet journal log world (entries.Line number answer) (λ s. refl) g;
  settled = λ log world g. quiet journal log world entries.Settled (λ s. refl) g;
  note = note_kept journal;
  step = step_kept journal;
  joined = λ log world socket is p g. end_changed journal log world (entries.Joined socket.name) socket.name O opened socket is (λ end. refl) (λ s. refl) (joined_fits socket.name socket p) g;
  refused = λ r log world socket is p g. noticed journal log world (entries.Refused socket.name) socket.name socket is (λ s. refl) (refused_fits socket.name socket) g;
  came = λ log world socket number is p g. end_changed journal log world (entries.Came socket.name) socket.name T (λ end. record (opened end) { number = Some number }) socket is (λ end. refl) (λ s. refl) (came_fits socket.name socket number p) g;
  came_nowhere = λ log world socket place is at none g. absurd (nowhere journal log world socket place is at none g);
  fed = λ log world socket which count is stands input w g. end_changed journal log world (entries.Fed socket.name which (length (take count (end_of which socket).unread))) socket.name which (λ end. record end { unread = drop count end.unread }) socket is (λ end. refl) (λ s. refl) (fed_fits socket.name which count socket) g;
  lost = λ log world socket which g. quiet journal log world (entries.Lost socket.name which) (λ s. refl) g;
  timed = λ log world node peer g. quiet journal log world (entries.Timed node peer) (λ s. refl) g;
  was_cut = λ log world socket which is g. end_changed journal log world (entries.Cut socket.name which) socket.name which cut socket is (λ end. refl) (λ s. refl) (cut_fits socket.name which socket) g;
  knocked = λ log world stranger node g. opened_new journal log world (entries.Knocked (next_name world stranger node)) stranger node (stranger_host world stranger) (end_of_nobody None None Open) (address_as world.names node) (λ s. refl) (knock_fits world stranger node (stranger_host world stranger) (address_as world.names node)) g;
  poked = λ log world socket bytes is g. end_changed journal log world (entries.Poked socket.name bytes) socket.name T (arrives bytes) socket is (poked_in_cell bytes) (λ s. refl) (poked_fits socket.name bytes socket) g;
  quitted = λ log world socket is g. end_changed journal log world (entries.Quitted socket.name) socket.name O ended socket is (λ end. refl) (λ s. refl) (quitted_fits socket.name socket) g;
}
