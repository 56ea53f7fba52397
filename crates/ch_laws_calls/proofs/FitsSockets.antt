-- What steps of a cell's host do to the world's sockets: what they write arrives at the other ends, and some ends end.
use Rattle.std.proofs.Common.{◌≡◌, ◌⊎◌, inl, inr, ℕ, Bool, true, false, cond, ◌&&◌, ◌||◌, List, [], ◌∷◌, ◌++◌, refl, sym, ap, ◌∙◌, subst, append_assoc}
use Rattle.std.specs.Prelude.{find, Option, Some, None, ◌==◌}
use Rattle.ch_base.specs.declared.address.Address.{Address}
use Rattle.ch_model.specs.declared.entry.Entry.{Entry}
use Rattle.ch_model.specs.declared.entry.Entry.TheVariants as entries
use Rattle.ch_model.specs.declared.line.Line.{Line}
use Rattle.ch_model.specs.declared.local.LocalEntry.TheVariants as local
use Rattle.ch_model.specs.declared.name.End.{End}
use Rattle.ch_model.specs.declared.name.End.TheVariants.{O, T}
use Rattle.ch_model.specs.declared.name.SockName.{SockName}
use Rattle.ch_model.specs.declared.step.Place.{Place}
use Rattle.ch_model.specs.declared.step.Step.{Step}
use Rattle.ch_model.specs.declared.step.Step.TheVariants as steps
use Rattle.ch_model.specs.CellSteps.{told_steps}
use Rattle.ch_model.specs.Same.{same_socket, same_end}
use Rattle.ch_model.specs.Stages.{is_ended}
use Rattle.ch_model.specs.WorldSockets.{end_of, other, with_end, ended, opened, item_arrives, is_socket_named, with_socket, with_end_of, same_number, is_end_of, find_end}
use Rattle.ch_model.specs.WorldState.{Cell, WorldEnd, WorldSocket, World}
use Rattle.ch_model.specs.WorldSteps.{later_places, item_is_read, reads_item, end_closes, stepped, all_told}
use Rattle.ch_laws_bytes.specs.Streams.{is_over}
use Rattle.ch_laws_bytes.proofs.Sockets.{flip, not_found, other_end_there}
use Rattle.ch_laws_bytes.proofs.Stepped.{at_end_flow}
use Rattle.ch_laws_ends.proofs.Changes.{OnDial, step_as}
use Rattle.ch_laws_ends.proofs.Found.{EachFound, each_kept, new_name}
use Rattle.ch_laws_ends.proofs.Known.{Sorted, keeps_sorted}
use Rattle.ch_laws_log.proofs.Kept.{one_told}
use Rattle.ch_laws_log.proofs.Stored.{same_is, self_same, find_stored, Distinct}
use Rattle.ch_laws_log.proofs.WorldEnds.{found_is}
use Rattle.ch_laws_calls.specs.FitsTurns.{bytes_at, NoDials}

-- ---- bytes

-- what steps of the cell at a place write at its end of this number
abbrev pub bytes_for : ℕ → List Step → Option ℕ → Option ℕ → List ℕ
bytes_for place told (Some p) (Some n) = cond (p == place) (bytes_at n told) []
bytes_for place told cell number = []

abbrev pub bytes_of : ℕ → List Step → WorldEnd → List ℕ
bytes_of place told end = bytes_for place told end.cell end.number

none_first : (n : ℕ) (step : Step) (rest : List Step) → bytes_at n (step ∷ rest) ≡ bytes_at n (step ∷ []) ++ bytes_at n rest
none_first n (steps.Write sock bytes said) rest = by_test (sock == n) where
  by_test : (b : Bool) → cond b (bytes ++ bytes_at n rest) (bytes_at n rest) ≡ cond b (bytes ++ []) [] ++ bytes_at n rest
  by_test true = sym (append_assoc bytes [] (bytes_at n rest))
  by_test false = refl
none_first n (steps.Dial sock end peer) rest = refl
none_first n (steps.Read sock) rest = refl
none_first n (steps.Up sock) rest = refl
none_first n (steps.Down sock) rest = refl
none_first n (steps.Left sock) rest = refl
none_first n (steps.Broke end peer why) rest = refl
none_first n (steps.Post end event) rest = refl

first_bytes : (place : ℕ) (step : Step) (rest : List Step) (cell number : Option ℕ) → bytes_for place (step ∷ rest) cell number ≡ bytes_for place (step ∷ []) cell number ++ bytes_for place rest cell number
first_bytes place step rest None number = refl
first_bytes place step rest (Some p) None = refl
first_bytes place step rest (Some p) (Some n) = by_test (p == place) where
  by_test : (b : Bool) → cond b (bytes_at n (step ∷ rest)) [] ≡ cond b (bytes_at n (step ∷ [])) [] ++ cond b (bytes_at n rest) []
  by_test true = none_first n step rest
  by_test false = refl

-- nothing is written anywhere
abbrev IsSilent : Step → Type 0
IsSilent step = (n : ℕ) → bytes_at n (step ∷ []) ≡ []

silent_bytes : (place : ℕ) (step : Step) (cell number : Option ℕ) → IsSilent step → bytes_for place (step ∷ []) cell number ≡ []
silent_bytes place step None number s = refl
silent_bytes place step (Some p) None s = refl
silent_bytes place step (Some p) (Some n) s = ap (λ (l : List ℕ). cond (p == place) l []) (s n) ∙ by_test (p == place) where
  by_test : (b : Bool) → ◌≡◌ {A = List ℕ} (cond b [] []) []
  by_test true = refl
  by_test false = refl

-- what one step writes, it writes at its own end
write_bytes : (place sock : ℕ) (bytes : List ℕ) (said : Option Place) (end : WorldEnd) → bytes_of place (steps.Write sock bytes said ∷ []) end ≡ cond (is_end_of place sock end) (bytes ++ []) []
write_bytes place sock bytes said end = by_end end.cell end.number where
  by_end : (c m : Option ℕ) → bytes_for place (steps.Write sock bytes said ∷ []) c m ≡ cond (same_number c place && same_number m sock) (bytes ++ []) []
  by_end None m = refl
  by_end (Some p) None = by_test (p == place) where
    by_test : (b : Bool) → [] ≡ cond (b && false) (bytes ++ []) []
    by_test true = refl
    by_test false = refl
  by_end (Some p) (Some n) = by_test (p == place) where
    by_test : (b : Bool) → cond b (cond (sock == n) (bytes ++ []) []) [] ≡ cond (b && (n == sock)) (bytes ++ []) []
    by_test true = ap (λ c. cond c (bytes ++ []) []) (flip sock n)
    by_test false = refl

-- ---- ends

-- an end goes on: it is in its place, and unless it is over, these bytes have come to it
pub record EndGoes (bytes : List ℕ) (before after : WorldEnd) : Type 0 where
  pub cell : after.cell ≡ before.cell
  pub number : after.number ≡ before.number
  pub lives : is_over after ≡ false → is_over before ≡ false
  pub unread : is_over after ≡ false → after.unread ≡ before.unread ++ bytes

pub record SocketGoes (place : ℕ) (told : List Step) (before after : WorldSocket) : Type 0 where
  pub name : after.name ≡ before.name
  pub ends : (e : End) → EndGoes (bytes_of place told (end_of (other e) before)) (end_of e before) (end_of e after)

nil_last : (l : List ℕ) → l ++ [] ≡ l
nil_last [] = refl
nil_last (x ∷ l) = ap (λ (m : List ℕ). x ∷ m) (nil_last l)

-- nothing comes to it
end_rests : (bytes : List ℕ) (end : WorldEnd) → bytes ≡ [] → EndGoes bytes end end
end_rests bytes end none = record { cell = refl; number = refl; lives = λ h. h; unread = λ h. sym (ap (λ (l : List ℕ). end.unread ++ l) none ∙ nil_last end.unread) }

end_ends : (bytes : List ℕ) (end : WorldEnd) → EndGoes bytes end (ended end)
end_ends bytes end = record { cell = refl; number = refl; lives = λ h. absurd cc; unread = λ h. absurd cc }

end_gets : (bytes more : List ℕ) (said : Option Place) (end : WorldEnd) → bytes ≡ more ++ [] → EndGoes bytes end (item_arrives more said end)
end_gets bytes more said end is = by_over (is_over end) refl where
  arrived : Bool → WorldEnd
  arrived b = cond b end (record end { unread = end.unread ++ more; places = end.places ++ said ∷ [] })

  by_over : (b : Bool) → is_over end ≡ b → EndGoes bytes end (arrived b)
  by_over true o = record { cell = refl; number = refl; lives = λ h. h; unread = λ h. let no : true ≡ false = sym o ∙ h in absurd cc }
  by_over false o = record { cell = refl; number = refl; lives = λ h. h; unread = λ h. ap (λ (l : List ℕ). end.unread ++ l) (sym (is ∙ nil_last more)) }

end_reads : (bytes : List ℕ) (end : WorldEnd) → bytes ≡ [] → EndGoes bytes end (record end { places = later_places end.places })
end_reads bytes end none = record { cell = refl; number = refl; lives = λ h. h; unread = λ h. sym (ap (λ (l : List ℕ). end.unread ++ l) none ∙ nil_last end.unread) }

-- one after another
end_onward : (one two three : List ℕ) (a b c : WorldEnd) → three ≡ one ++ two → EndGoes one a b → EndGoes two b c → EndGoes three a c
end_onward one two three a b c is p q = record {
  cell = q.cell ∙ p.cell;
  number = q.number ∙ p.number;
  lives = λ h. p.lives (q.lives h);
  unread = λ h. q.unread h ∙ ap (λ (l : List ℕ). l ++ two) (p.unread (q.lives h)) ∙ append_assoc a.unread one two ∙ ap (λ (l : List ℕ). a.unread ++ l) (sym is);
}

socket_onward : (place : ℕ) (step : Step) (rest : List Step) (a b c : WorldSocket) → SocketGoes place (step ∷ []) a b → SocketGoes place rest b c → SocketGoes place (step ∷ rest) a c
socket_onward place step rest a b c p q = record { name = q.name ∙ p.name; ends = λ e. end_onward (bytes_of place (step ∷ []) (end_of (other e) a)) (bytes_of place rest (end_of (other e) b)) (bytes_of place (step ∷ rest) (end_of (other e) a)) (end_of e a) (end_of e b) (end_of e c) (bytes e) (p.ends e) (q.ends e) } where
  bytes : (e : End) → bytes_of place (step ∷ rest) (end_of (other e) a) ≡ bytes_of place (step ∷ []) (end_of (other e) a) ++ bytes_of place rest (end_of (other e) b)
  bytes e = first_bytes place step rest (end_of (other e) a).cell (end_of (other e) a).number
      ∙ ap (λ (l : List ℕ). bytes_of place (step ∷ []) (end_of (other e) a) ++ l) (sym (ap (λ (c : Option ℕ). bytes_for place rest c (end_of (other e) b).number) (p.ends (other e)).cell ∙ ap (bytes_for place rest (end_of (other e) a).cell) (p.ends (other e)).number))

-- ---- sockets of a world

-- the socket of this name was there, and went on so
pub record WasThere (place : ℕ) (told : List Step) (world : World) (s : SockName) (socket : WorldSocket) : Type 0 where
  pub before : WorldSocket
  pub found : find (is_socket_named s) world.sockets ≡ Some before
  pub goes : SocketGoes place told before socket

abbrev pub AllWere : ℕ → List Step → World → World → Type 0
AllWere place told world after = (s : SockName) (socket : WorldSocket) → find (is_socket_named s) after.sockets ≡ Some socket → WasThere place told world s socket

-- an end of one socket is changed
all_changed : (place : ℕ) (told : List Step) (s : SockName) (e : End) (f : WorldEnd → WorldEnd) (world : World) → ((old : WorldSocket) → find (is_socket_named s) world.sockets ≡ Some old → SocketGoes place told old (with_end e (f (end_of e old)) old))
    → ((t : SockName) (socket : WorldSocket) → (find (is_socket_named s) world.sockets ≡ None) ⊎ (same_socket s t ≡ false) → find (is_socket_named t) world.sockets ≡ Some socket → SocketGoes place told socket socket) → AllWere place told world (with_end_of s e f world)
all_changed place told s e f world mine others = by_socket (find (is_socket_named s) world.sockets) refl where
  at_name : (old : WorldSocket) → find (is_socket_named s) world.sockets ≡ Some old → (t : SockName) (socket : WorldSocket) (b : Bool) → same_socket s t ≡ b → cond b (Some (with_end e (f (end_of e old)) old)) (find (is_socket_named t) world.sockets) ≡ Some socket → WasThere place told world t socket
  at_name old is t socket true h found =
      let new : with_end e (f (end_of e old)) old ≡ socket = cc in
      record { before = old; found = subst (λ (n : SockName). find (is_socket_named n) world.sockets ≡ Some old) (same_is s t h) is; goes = subst (λ (w : WorldSocket). SocketGoes place told old w) new (mine old is) }
  at_name old is t socket false h found = record { before = socket; found = found; goes = others t socket (inr h) found }

  by_socket : (o : Option WorldSocket) → find (is_socket_named s) world.sockets ≡ o → AllWere place told world (elim o as (λ o. World) [
    | None ↦ world
    | Some socket ↦ with_socket (with_end e (f (end_of e socket)) socket) world
  ])
  by_socket None none = λ t socket found. record { before = socket; found = found; goes = others t socket (inl none) found }
  by_socket (Some old) is = λ t socket found. at_name old is t socket (same_socket s t) refl (ap (λ (n : SockName). cond (same_socket n t) (Some (with_end e (f (end_of e old)) old)) (find (is_socket_named t) world.sockets)) (sym (new_name s e (f (end_of e old)) world.sockets old is)) ∙ sym (find_stored (with_end e (f (end_of e old)) old) world.sockets t) ∙ found)

-- what changes one end, and comes to none
with_one : (place : ℕ) (told : List Step) (e : End) (end : WorldEnd) (old : WorldSocket) → EndGoes (bytes_of place told (end_of (other e) old)) (end_of e old) end → EndGoes (bytes_of place told (end_of e old)) (end_of (other e) old) (end_of (other e) old) → SocketGoes place told old (with_end e end old)
with_one place told O end old mine rest = record { name = refl; ends = λ e. by_end e } where
  by_end : (e : End) → EndGoes (bytes_of place told (end_of (other e) old)) (end_of e old) (end_of e (with_end O end old))
  by_end O = mine
  by_end T = rest
with_one place told T end old mine rest = record { name = refl; ends = λ e. by_end e } where
  by_end : (e : End) → EndGoes (bytes_of place told (end_of (other e) old)) (end_of e old) (end_of e (with_end T end old))
  by_end O = rest
  by_end T = mine

silent_rests : (place : ℕ) (step : Step) (socket : WorldSocket) → IsSilent step → SocketGoes place (step ∷ []) socket socket
silent_rests place step socket s = record { name = refl; ends = λ e. end_rests (bytes_of place (step ∷ []) (end_of (other e) socket)) (end_of e socket) (silent_bytes place step (end_of (other e) socket).cell (end_of (other e) socket).number s) }

pub dial_rests : (place sock end : ℕ) (peer : Address) (socket : WorldSocket) → SocketGoes place (steps.Dial sock end peer ∷ []) socket socket
dial_rests place sock end peer socket = silent_rests place (steps.Dial sock end peer) socket (λ n. refl)

-- a silent step that changes an end so
silent_change : (place : ℕ) (step : Step) (s : SockName) (e : End) (f : WorldEnd → WorldEnd) (world : World) → IsSilent step → ((bytes : List ℕ) (end : WorldEnd) → bytes ≡ [] → EndGoes bytes end (f end)) → AllWere place (step ∷ []) world (with_end_of s e f world)
silent_change place step s e f world silent goes = all_changed place (step ∷ []) s e f world
    (λ old is. with_one place (step ∷ []) e (f (end_of e old)) old (goes (bytes_of place (step ∷ []) (end_of (other e) old)) (end_of e old) (none (end_of (other e) old))) (end_rests (bytes_of place (step ∷ []) (end_of e old)) (end_of (other e) old) (none (end_of e old))))
    (λ t socket off found. silent_rests place step socket silent)
  where
    none : (end : WorldEnd) → bytes_of place (step ∷ []) end ≡ []
    none end = silent_bytes place step end.cell end.number silent

-- ---- one step

-- where the end that writes isn't found, nothing is written
write_off : (place sock : ℕ) (bytes : List ℕ) (said : Option Place) (end : WorldEnd) → is_end_of place sock end ≡ false → bytes_of place (steps.Write sock bytes said ∷ []) end ≡ []
write_off place sock bytes said end off = write_bytes place sock bytes said end ∙ ap (λ b. cond b (bytes ++ []) []) off

write_rests : (place sock : ℕ) (bytes : List ℕ) (said : Option Place) (socket : WorldSocket) → ((e : End) → is_end_of place sock (end_of e socket) ≡ false) → SocketGoes place (steps.Write sock bytes said ∷ []) socket socket
write_rests place sock bytes said socket off = record { name = refl; ends = λ e. end_rests (bytes_of place (steps.Write sock bytes said ∷ []) (end_of (other e) socket)) (end_of e socket) (write_off place sock bytes said (end_of (other e) socket) (off (other e))) }

twice : (e : End) → other (other e) ≡ e
twice O = refl
twice T = refl

not_same : (e : End) → same_end e (other e) ≡ false
not_same O = refl
not_same T = refl

written : (place sock : ℕ) (bytes : List ℕ) (said : Option Place) (at : SockName × End) (world : World) → Distinct world.sockets → EachFound world.sockets → find_end place sock world.sockets ≡ Some at → AllWere place (steps.Write sock bytes said ∷ []) world (with_end_of at.0 (other at.1) (item_arrives bytes said) world)
written place sock bytes said at world apart each is = all_changed place (steps.Write sock bytes said ∷ []) at.0 (other at.1) (item_arrives bytes said) world mine others where
  name_in : SockName → Option (SockName × End) → SockName
  name_in s None = s
  name_in s (Some a) = a.0

  mine : (old : WorldSocket) → find (is_socket_named at.0) world.sockets ≡ Some old → SocketGoes place (steps.Write sock bytes said ∷ []) old (with_end (other at.1) (item_arrives bytes said (end_of (other at.1) old)) old)
  mine old found =
      let own : is_end_of place sock (end_of at.1 old) ≡ true = found_is place sock world.sockets at old apart is found in
      with_one place (steps.Write sock bytes said ∷ []) (other at.1) (item_arrives bytes said (end_of (other at.1) old)) old
      (end_gets (bytes_of place (steps.Write sock bytes said ∷ []) (end_of (other (other at.1)) old)) bytes said (end_of (other at.1) old) (ap (λ (e : End). bytes_of place (steps.Write sock bytes said ∷ []) (end_of e old)) (twice at.1) ∙ write_bytes place sock bytes said (end_of at.1 old) ∙ ap (λ b. cond b (bytes ++ []) []) own))
      (end_rests (bytes_of place (steps.Write sock bytes said ∷ []) (end_of (other at.1) old)) (end_of (other (other at.1)) old) (write_off place sock bytes said (end_of (other at.1) old) (other_end_there place sock world.sockets at old (other at.1) each is found (not_same at.1))))

  others : (t : SockName) (socket : WorldSocket) → (find (is_socket_named at.0) world.sockets ≡ None) ⊎ (same_socket at.0 t ≡ false) → find (is_socket_named t) world.sockets ≡ Some socket → SocketGoes place (steps.Write sock bytes said ∷ []) socket socket
  others t socket off found = write_rests place sock bytes said socket (λ e. not_found place sock world.sockets t socket e each found (λ h. clash off (ap (name_in t) (sym is ∙ h)))) where
    clash : (find (is_socket_named at.0) world.sockets ≡ None) ⊎ (same_socket at.0 t ≡ false) → at.0 ≡ t → ⊥
    clash (inl none) same = let some : find (is_socket_named at.0) world.sockets ≡ Some socket = subst (λ (n : SockName). find (is_socket_named n) world.sockets ≡ Some socket) (sym same) found in absurd cc
    clash (inr off) same = let yes : same_socket at.0 t ≡ true = subst (λ (n : SockName). same_socket at.0 n ≡ true) same (self_same at.0) in absurd cc

unfound : (place sock : ℕ) (bytes : List ℕ) (said : Option Place) (world : World) → EachFound world.sockets → find_end place sock world.sockets ≡ None → AllWere place (steps.Write sock bytes said ∷ []) world world
unfound place sock bytes said world each none s socket found = record { before = socket; found = found; goes = write_rests place sock bytes said socket (λ e. not_found place sock world.sockets s socket e each found (λ h. clash (sym none ∙ h))) } where
  clash : {e : End} → ◌≡◌ {A = Option (SockName × End)} None (Some (s, e)) → ⊥
  clash h = cc

all_rest : (place : ℕ) (step : Step) (world : World) → IsSilent step → AllWere place (step ∷ []) world world
all_rest place step world silent s socket found = record { before = socket; found = found; goes = silent_rests place step socket silent }

step_goes : (place : ℕ) (cell : Cell) (step : Step) (world : World) → Distinct world.sockets → EachFound world.sockets → NoDials (step ∷ []) → AllWere place (step ∷ []) world (stepped place cell step world).1
step_goes place cell (steps.Dial sock end peer) world apart each n = absurd n
step_goes place cell (steps.Read sock) world apart each n = at_end_flow (λ w. AllWere place (steps.Read sock ∷ []) world w) place sock reads_item world (λ at e. by_socket at (find (is_socket_named at.0) world.sockets)) (λ e. all_rest place (steps.Read sock) world (λ m. refl)) where
  by_socket : (at : SockName × End) (o : Option WorldSocket) → AllWere place (steps.Read sock ∷ []) world (item_is_read at o world)
  by_socket at None = all_rest place (steps.Read sock) world (λ m. refl)
  by_socket at (Some socket) = silent_change place (steps.Read sock) at.0 at.1 (λ end. record end { places = later_places end.places }) world (λ m. refl) end_reads
step_goes place cell (steps.Write sock bytes said) world apart each n = at_end_flow (λ w. AllWere place (steps.Write sock bytes said ∷ []) world w) place sock (λ at now. (entries.Wrote at.0 at.1 bytes ∷ [], with_end_of at.0 (other at.1) (item_arrives bytes said) now)) world (λ at e. written place sock bytes said at world apart each e) (λ e. unfound place sock bytes said world each e)
step_goes place cell (steps.Up sock) world apart each n = at_end_flow (λ w. AllWere place (steps.Up sock ∷ []) world w) place sock (λ at now. (entries.Up at.0 at.1 ∷ [], now)) world (λ at e. all_rest place (steps.Up sock) world (λ m. refl)) (λ e. all_rest place (steps.Up sock) world (λ m. refl))
step_goes place cell (steps.Down sock) world apart each n = at_end_flow (λ w. AllWere place (steps.Down sock ∷ []) world w) place sock (λ at now. (entries.Down at.0 at.1 ∷ [], end_closes at now)) world (λ at e. silent_change place (steps.Down sock) at.0 at.1 ended world (λ m. refl) (λ bytes end none. end_ends bytes end)) (λ e. all_rest place (steps.Down sock) world (λ m. refl))
step_goes place cell (steps.Left sock) world apart each n = at_end_flow (λ w. AllWere place (steps.Left sock ∷ []) world w) place sock (λ at now. (entries.Left at.0 at.1 ∷ [], end_closes at now)) world (λ at e. silent_change place (steps.Left sock) at.0 at.1 ended world (λ m. refl) (λ bytes end none. end_ends bytes end)) (λ e. all_rest place (steps.Left sock) world (λ m. refl))
step_goes place cell (steps.Broke end peer why) world apart each n = all_rest place (steps.Broke end peer why) world (λ m. refl)
step_goes place cell (steps.Post end event) world apart each n = all_rest place (steps.Post end event) world (λ m. refl)

-- ---- all steps

first_alone : (step : Step) (rest : List Step) → NoDials (step ∷ rest) → NoDials (step ∷ []) × NoDials rest
first_alone (steps.Dial sock end peer) rest n = absurd n
first_alone (steps.Read sock) rest n = (tt, n)
first_alone (steps.Write sock bytes said) rest n = (tt, n)
first_alone (steps.Up sock) rest n = (tt, n)
first_alone (steps.Down sock) rest n = (tt, n)
first_alone (steps.Left sock) rest n = (tt, n)
first_alone (steps.Broke end peer why) rest n = (tt, n)
first_alone (steps.Post end event) rest n = (tt, n)

no_dial : (P : World → Type 0) (place : ℕ) (cell : Cell) (step : Step) (world : World) → NoDials (step ∷ []) → OnDial P place cell step world
no_dial P place cell (steps.Dial sock end peer) world n = absurd n
no_dial P place cell (steps.Read sock) world n = tt
no_dial P place cell (steps.Write sock bytes said) world n = tt
no_dial P place cell (steps.Up sock) world n = tt
no_dial P place cell (steps.Down sock) world n = tt
no_dial P place cell (steps.Left sock) world n = tt
no_dial P place cell (steps.Broke end peer why) world n = tt
no_dial P place cell (steps.Post end event) world n = tt

pub told_goes : (journal : List Line) (place : ℕ) (cell : Cell) (told : List Step) (log : List Entry) (world : World) → Sorted journal log world → EachFound world.sockets → NoDials told → AllWere place told world (all_told place cell (told_steps told) world).1
told_goes journal place cell [] log world g each n s socket found = record { before = socket; found = found; goes = record { name = refl; ends = λ e. end_rests (bytes_of place [] (end_of (other e) socket)) (end_of e socket) (none (end_of (other e) socket).cell (end_of (other e) socket).number) } } where
  none : (c m : Option ℕ) → bytes_for place [] c m ≡ []
  none None m = refl
  none (Some p) None = refl
  none (Some p) (Some k) = by_test (p == place) where
    by_test : (b : Bool) → ◌≡◌ {A = List ℕ} (cond b [] []) []
    by_test true = refl
    by_test false = refl
told_goes journal place cell (step ∷ rest) log world g each n s socket found =
    let parts = first_alone step rest n in
    let later = told_goes journal place cell rest (log ++ (stepped place cell step world).0) one (one_told (Sorted journal) (keeps_sorted journal) log place cell (local.Step step) world g) (now parts.0) parts.1 s socket found in
    let first = step_goes place cell step world g.0.apart each parts.0 s later.before later.found in
    record { before = first.before; found = first.found; goes = socket_onward place step rest first.before later.before socket first.goes later.goes }
  where
    one : World
    one = (stepped place cell step world).1

    now : NoDials (step ∷ []) → EachFound one.sockets
    now alone = step_as (λ w. EachFound w.sockets) (λ one two c s k. subst EachFound (sym s) k) place cell step world (no_dial (λ w. EachFound w.sockets) place cell step world alone) (λ s e f c. each_kept s e f world c.changes.place each) each

-- ---- an end is opened before the steps

none_told : (place : ℕ) (c m : Option ℕ) → bytes_for place [] c m ≡ []
none_told place None m = refl
none_told place (Some p) None = refl
none_told place (Some p) (Some k) = by_test (p == place) where
  by_test : (b : Bool) → ◌≡◌ {A = List ℕ} (cond b [] []) []
  by_test true = refl
  by_test false = refl

-- an end that hasn't ended is opened
end_opens : (bytes : List ℕ) (end : WorldEnd) → bytes ≡ [] → is_ended end.stage ≡ false → EndGoes bytes end (opened end)
end_opens bytes end none live = record { cell = refl; number = refl; lives = λ h. ap (λ b. b || end.is_cut) live ∙ h; unread = λ h. sym (ap (λ (l : List ℕ). end.unread ++ l) none ∙ nil_last end.unread) }

pub opened_goes : (place : ℕ) (s : SockName) (e : End) (world : World) → ((old : WorldSocket) → find (is_socket_named s) world.sockets ≡ Some old → is_ended (end_of e old).stage ≡ false) → AllWere place [] world (with_end_of s e opened world)
opened_goes place s e world live = all_changed place [] s e opened world
    (λ old is. with_one place [] e (opened (end_of e old)) old (end_opens (bytes_of place [] (end_of (other e) old)) (end_of e old) (none (end_of (other e) old)) (live old is)) (end_rests (bytes_of place [] (end_of e old)) (end_of (other e) old) (none (end_of e old))))
    (λ t socket off found. record { name = refl; ends = λ x. end_rests (bytes_of place [] (end_of (other x) socket)) (end_of x socket) (none (end_of (other x) socket)) })
  where
    none : (end : WorldEnd) → bytes_of place [] end ≡ []
    none end = none_told place end.cell end.number

-- where nothing was told yet, what is told then is all
pub none_first_goes : (place : ℕ) (told : List Step) (a b c : WorldSocket) → SocketGoes place [] a b → SocketGoes place told b c → SocketGoes place told a c
none_first_goes place told a b c p q = record { name = q.name ∙ p.name; ends = λ e. end_onward (bytes_of place [] (end_of (other e) a)) (bytes_of place told (end_of (other e) b)) (bytes_of place told (end_of (other e) a)) (end_of e a) (end_of e b) (end_of e c) (bytes e) (p.ends e) (q.ends e) } where
  bytes : (e : End) → bytes_of place told (end_of (other e) a) ≡ bytes_of place [] (end_of (other e) a) ++ bytes_of place told (end_of (other e) b)
  bytes e = sym (ap (λ (c : Option ℕ). bytes_for place told c (end_of (other e) b).number) (p.ends (other e)).cell ∙ ap (bytes_for place told (end_of (other e) a).cell) (p.ends (other e)).number)
      ∙ ap (λ (l : List ℕ). l ++ bytes_of place told (end_of (other e) b)) (sym (none_told place (end_of (other e) a).cell (end_of (other e) a).number))

-- ---- which socket was changed

-- the socket of this name is the one whose end was changed
pub record IsChanged (s : SockName) (e : End) (f : WorldEnd → WorldEnd) (world : World) (t : SockName) (socket : WorldSocket) : Type 0 where
  pub old : WorldSocket
  pub found : find (is_socket_named s) world.sockets ≡ Some old
  pub name : s ≡ t
  pub is : with_end e (f (end_of e old)) old ≡ socket

-- or another
pub record IsAnother (s : SockName) (world : World) (t : SockName) (socket : WorldSocket) : Type 0 where
  pub other : same_socket s t ≡ false
  pub found : find (is_socket_named t) world.sockets ≡ Some socket

pub changed_or : (s : SockName) (e : End) (f : WorldEnd → WorldEnd) (world : World) (t : SockName) (socket : WorldSocket) → find (is_socket_named t) (with_end_of s e f world).sockets ≡ Some socket → IsChanged s e f world t socket ⊎ IsAnother s world t socket
changed_or s e f world t socket = by_socket (find (is_socket_named s) world.sockets) refl where
  at_none : (b : Bool) → same_socket s t ≡ b → find (is_socket_named s) world.sockets ≡ None → find (is_socket_named t) world.sockets ≡ Some socket → IsChanged s e f world t socket ⊎ IsAnother s world t socket
  at_none true h none found = let gone : find (is_socket_named t) world.sockets ≡ None = subst (λ (n : SockName). find (is_socket_named n) world.sockets ≡ None) (same_is s t h) none in absurd cc
  at_none false h none found = inr (record { other = h; found = found })

  at_name : (old : WorldSocket) → find (is_socket_named s) world.sockets ≡ Some old → (b : Bool) → same_socket s t ≡ b → cond b (Some (with_end e (f (end_of e old)) old)) (find (is_socket_named t) world.sockets) ≡ Some socket → IsChanged s e f world t socket ⊎ IsAnother s world t socket
  at_name old is true h found = let new : with_end e (f (end_of e old)) old ≡ socket = cc in inl (record { old = old; found = is; name = same_is s t h; is = new })
  at_name old is false h found = inr (record { other = h; found = found })

  by_socket : (o : Option WorldSocket) → find (is_socket_named s) world.sockets ≡ o → find (is_socket_named t) (elim o as (λ o. World) [
    | None ↦ world
    | Some socket ↦ with_socket (with_end e (f (end_of e socket)) socket) world
  ]).sockets ≡ Some socket → IsChanged s e f world t socket ⊎ IsAnother s world t socket
  by_socket None none = at_none (same_socket s t) refl none
  by_socket (Some old) is = λ found. at_name old is (same_socket s t) refl (ap (λ (n : SockName). cond (same_socket n t) (Some (with_end e (f (end_of e old)) old)) (find (is_socket_named t) world.sockets)) (sym (new_name s e (f (end_of e old)) world.sockets old is)) ∙ sym (find_stored (with_end e (f (end_of e old)) old) world.sockets t) ∙ found)
