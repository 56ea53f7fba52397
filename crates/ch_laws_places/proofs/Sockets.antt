-- What steps of a cell's host do to the places at the ends of the world's sockets: each item that is written brings one, and each that is read takes one.
use Rattle.std.proofs.Common.{◌≡◌, ◌⊎◌, inl, inr, ℕ, zero, suc, ◌+◌, Bool, true, false, cond, ◌&&◌, ◌||◌, List, [], ◌∷◌, ◌++◌, length, refl, sym, ap, ◌∙◌, subst, append_assoc, arith}
use Rattle.std.proofs.lemmas.Grind.{flat_map-append}
use Rattle.std.proofs.lemmas.List.{append-nil, map-append}
use Rattle.std.specs.Prelude.{find, Option, Some, None, ◌==◌}
use Rattle.ch_base.specs.declared.address.Address.{Address}
use Rattle.ch_model.specs.declared.entry.Entry.{Entry}
use Rattle.ch_model.specs.declared.entry.Entry.TheVariants as entries
use Rattle.ch_model.specs.declared.line.Line.{Line}
use Rattle.ch_model.specs.declared.local.LocalEntry.TheVariants as local
use Rattle.ch_model.specs.declared.name.End.{End}
use Rattle.ch_model.specs.declared.name.End.TheVariants.{O, T}
use Rattle.ch_model.specs.declared.name.SockName.{SockName}
use Rattle.ch_model.specs.declared.step.Place.{Place}
use Rattle.ch_model.specs.declared.step.Step.{Step}
use Rattle.ch_model.specs.declared.step.Step.TheVariants as steps
use Rattle.ch_model.specs.CellSteps.{told_steps}
use Rattle.ch_model.specs.Same.{same_socket, same_end}
use Rattle.ch_model.specs.Stages.{is_ended}
use Rattle.ch_model.specs.WorldSockets.{end_of, other, with_end, ended, opened, item_arrives, is_socket_named, with_socket, with_end_of, same_number, is_end_of, find_end}
use Rattle.ch_model.specs.WorldState.{Cell, WorldEnd, WorldSocket, World}
use Rattle.ch_model.specs.WorldSteps.{later_places, item_is_read, reads_item, end_closes, stepped, all_told}
use Rattle.ch_laws_bytes.specs.Streams.{is_over}
use Rattle.ch_laws_bytes.proofs.Sockets.{flip, not_found, other_end_there}
use Rattle.ch_laws_bytes.proofs.Stepped.{at_end_flow}
use Rattle.ch_laws_ends.proofs.Changes.{OnDial, step_as}
use Rattle.ch_laws_ends.proofs.Found.{EachFound, each_kept, new_name}
use Rattle.ch_laws_ends.proofs.Known.{Sorted, keeps_sorted}
use Rattle.ch_laws_log.proofs.Kept.{one_told}
use Rattle.ch_laws_log.proofs.Stored.{same_is, self_same, find_stored, Distinct}
use Rattle.ch_laws_log.proofs.WorldEnds.{found_is}
use Rattle.ch_laws_reads.specs.Reads.{reads_of}
use Rattle.ch_laws_reads.proofs.HostReads.{reads_append}
use Rattle.ch_laws_calls.specs.FitsTurns.{NoDials}
use Rattle.ch_laws_places.specs.Said.{Piece, said_at, bytes_in, places_in}

-- ---- what is read and written

-- the pieces that steps of the cell at a place write at its end of this number, and how many items they read there
abbrev pub pieces_for : ℕ → List Step → Option ℕ → Option ℕ → List Piece
pieces_for place told (Some p) (Some n) = cond (p == place) (said_at n told) []
pieces_for place told cell number = []

abbrev pub reads_for : ℕ → List Step → Option ℕ → Option ℕ → ℕ
reads_for place told (Some p) (Some n) = cond (p == place) (reads_of n told) 0
reads_for place told cell number = 0

abbrev pub pieces_of : ℕ → List Step → WorldEnd → List Piece
pieces_of place told end = pieces_for place told end.cell end.number

abbrev pub reads_at_end : ℕ → List Step → WorldEnd → ℕ
reads_at_end place told end = reads_for place told end.cell end.number

said_first : (n : ℕ) (step : Step) (rest : List Step) → said_at n (step ∷ rest) ≡ said_at n (step ∷ []) ++ said_at n rest
said_first n (steps.Write sock bytes said) rest = by_test (sock == n) where
  by_test : (b : Bool) → cond b ((bytes, said) ∷ said_at n rest) (said_at n rest) ≡ cond b ((bytes, said) ∷ []) [] ++ said_at n rest
  by_test true = refl
  by_test false = refl
said_first n (steps.Dial sock end peer) rest = refl
said_first n (steps.Read sock) rest = refl
said_first n (steps.Up sock) rest = refl
said_first n (steps.Down sock) rest = refl
said_first n (steps.Left sock) rest = refl
said_first n (steps.Broke end peer why) rest = refl
said_first n (steps.Post end event) rest = refl

pieces_first : (place : ℕ) (step : Step) (rest : List Step) (cell number : Option ℕ) → pieces_for place (step ∷ rest) cell number ≡ pieces_for place (step ∷ []) cell number ++ pieces_for place rest cell number
pieces_first place step rest None number = refl
pieces_first place step rest (Some p) None = refl
pieces_first place step rest (Some p) (Some n) = by_test (p == place) where
  by_test : (b : Bool) → cond b (said_at n (step ∷ rest)) [] ≡ cond b (said_at n (step ∷ [])) [] ++ cond b (said_at n rest) []
  by_test true = said_first n step rest
  by_test false = refl

reads_first : (place : ℕ) (step : Step) (rest : List Step) (cell number : Option ℕ) → reads_for place (step ∷ rest) cell number ≡ reads_for place (step ∷ []) cell number + reads_for place rest cell number
reads_first place step rest None number = refl
reads_first place step rest (Some p) None = refl
reads_first place step rest (Some p) (Some n) = by_test (p == place) where
  by_test : (b : Bool) → cond b (reads_of n (step ∷ rest)) 0 ≡ cond b (reads_of n (step ∷ [])) 0 + cond b (reads_of n rest) 0
  by_test true = reads_append n (step ∷ []) rest
  by_test false = refl

-- nothing is written anywhere
abbrev IsSilent : Step → Type 0
IsSilent step = (n : ℕ) → said_at n (step ∷ []) ≡ []

-- nothing is read anywhere
abbrev IsBlind : Step → Type 0
IsBlind step = (n : ℕ) → reads_of n (step ∷ []) ≡ 0

nothing_for : {A : Type 0} (b : Bool) (x y : A) → x ≡ y → cond b x y ≡ y
nothing_for true x y e = e
nothing_for false x y e = refl

silent_pieces : (place : ℕ) (step : Step) (cell number : Option ℕ) → IsSilent step → pieces_for place (step ∷ []) cell number ≡ []
silent_pieces place step None number s = refl
silent_pieces place step (Some p) None s = refl
silent_pieces place step (Some p) (Some n) s = nothing_for (p == place) (said_at n (step ∷ [])) [] (s n)

blind_reads : (place : ℕ) (step : Step) (cell number : Option ℕ) → IsBlind step → reads_for place (step ∷ []) cell number ≡ 0
blind_reads place step None number s = refl
blind_reads place step (Some p) None s = refl
blind_reads place step (Some p) (Some n) s = nothing_for (p == place) (reads_of n (step ∷ [])) 0 (s n)

-- a step at an end of this number, of some end
at_number : {A : Type 0} (place sock : ℕ) (f : Bool → A) (nil : A) (end : WorldEnd) → f false ≡ nil → (by_end : Option ℕ → Option ℕ → A) → ((m : Option ℕ) → by_end None m ≡ nil) → ((p : ℕ) → by_end (Some p) None ≡ nil) → ((p n : ℕ) → by_end (Some p) (Some n) ≡ cond (p == place) (f (sock == n)) nil)
    → by_end end.cell end.number ≡ f (is_end_of place sock end)
at_number place sock f nil end none by_end no_cell no_number both = by_parts end.cell end.number where
  by_parts : (c m : Option ℕ) → by_end c m ≡ f (same_number c place && same_number m sock)
  by_parts None m = no_cell m ∙ sym none
  by_parts (Some p) None = no_number p ∙ sym none ∙ ap f (sym (by_test (p == place))) where
    by_test : (b : Bool) → (b && false) ≡ false
    by_test true = refl
    by_test false = refl
  by_parts (Some p) (Some n) = both p n ∙ by_test (p == place) where
    by_test : (b : Bool) → cond b (f (sock == n)) nil ≡ f (b && (n == sock))
    by_test true = ap f (flip sock n)
    by_test false = sym none

-- what one step writes, it writes at its own end
write_pieces : (place sock : ℕ) (bytes : List ℕ) (said : Option Place) (end : WorldEnd) → pieces_of place (steps.Write sock bytes said ∷ []) end ≡ cond (is_end_of place sock end) ((bytes, said) ∷ []) []
write_pieces place sock bytes said end = at_number place sock (λ b. cond b ((bytes, said) ∷ []) []) [] end refl (pieces_for place (steps.Write sock bytes said ∷ [])) (λ m. refl) (λ p. refl) (λ p n. refl)

-- and what one step reads, it reads there
read_count : (place sock : ℕ) (end : WorldEnd) → reads_at_end place (steps.Read sock ∷ []) end ≡ cond (is_end_of place sock end) 1 0
read_count place sock end = at_number place sock (λ b. cond b 1 0) 0 end refl (reads_for place (steps.Read sock ∷ [])) (λ m. refl) (λ p. refl) (λ p n. refl)

-- ---- ends

-- An end goes on: it is in its place, and unless it is over, so many places were taken there from the front, and these pieces have come to it.
pub record EndGoes (gone : ℕ) (pieces : List Piece) (before after : WorldEnd) : Type 0 where
  pub cell : after.cell ≡ before.cell
  pub number : after.number ≡ before.number
  pub lives : is_over after ≡ false → is_over before ≡ false
  pub unread : is_over after ≡ false → after.unread ≡ before.unread ++ bytes_in pieces
  pub places : is_over after ≡ false → (taken rest : List (Option Place)) → before.places ≡ taken ++ rest → length taken ≡ gone → after.places ≡ rest ++ places_in pieces

pub record SocketGoes (place : ℕ) (told : List Step) (before after : WorldSocket) : Type 0 where
  pub name : after.name ≡ before.name
  pub ends : (e : End) → EndGoes (reads_at_end place told (end_of e before)) (pieces_of place told (end_of (other e) before)) (end_of e before) (end_of e after)

-- as many as were taken
none_taken : {A : Type 0} (taken : List A) (count : ℕ) → length taken ≡ count → count ≡ 0 → taken ≡ []
none_taken [] count e z = refl
none_taken (x ∷ l) count e z = let no : length (x ∷ l) ≡ 0 = e ∙ z in absurd cc

-- nothing comes to it, and nothing is taken
end_rests : (gone : ℕ) (pieces : List Piece) (end : WorldEnd) → gone ≡ 0 → pieces ≡ [] → EndGoes gone pieces end end
end_rests gone pieces end untaken none = record {
  cell = refl;
  number = refl;
  lives = λ h. h;
  unread = λ h. sym (ap (λ (l : List Piece). end.unread ++ bytes_in l) none ∙ append-nil end.unread);
  places = λ h taken rest is many. is ∙ ap (λ (l : List (Option Place)). l ++ rest) (none_taken taken gone many untaken) ∙ sym (ap (λ (l : List Piece). rest ++ places_in l) none ∙ append-nil rest);
}

end_ends : (gone : ℕ) (pieces : List Piece) (end : WorldEnd) → EndGoes gone pieces end (ended end)
end_ends gone pieces end = record { cell = refl; number = refl; lives = λ h. absurd cc; unread = λ h. absurd cc; places = λ h. absurd cc }

-- one piece comes to it
end_gets : (gone : ℕ) (pieces : List Piece) (bytes : List ℕ) (said : Option Place) (end : WorldEnd) → gone ≡ 0 → pieces ≡ (bytes, said) ∷ [] → EndGoes gone pieces end (item_arrives bytes said end)
end_gets gone pieces bytes said end untaken is = by_over (is_over end) refl where
  arrived : Bool → WorldEnd
  arrived b = cond b end (record end { unread = end.unread ++ bytes; places = end.places ++ said ∷ [] })

  by_over : (b : Bool) → is_over end ≡ b → EndGoes gone pieces end (arrived b)
  by_over true o = record { cell = refl; number = refl; lives = λ h. h; unread = λ h. let no : true ≡ false = sym o ∙ h in absurd cc; places = λ h. let no : true ≡ false = sym o ∙ h in absurd cc }
  by_over false o = record {
    cell = refl;
    number = refl;
    lives = λ h. h;
    unread = λ h. ap (λ (l : List ℕ). end.unread ++ l) (sym (ap bytes_in is ∙ append-nil bytes));
    places = λ h taken rest e many. ap (λ (l : List (Option Place)). l ++ said ∷ []) (e ∙ ap (λ (l : List (Option Place)). l ++ rest) (none_taken taken gone many untaken)) ∙ sym (ap (λ (l : List Piece). rest ++ places_in l) is);
  }

-- one place is taken from it
end_reads : (gone : ℕ) (pieces : List Piece) (end : WorldEnd) → gone ≡ 1 → pieces ≡ [] → EndGoes gone pieces end (record end { places = later_places end.places })
end_reads gone pieces end one none = record {
  cell = refl;
  number = refl;
  lives = λ h. h;
  unread = λ h. sym (ap (λ (l : List Piece). end.unread ++ bytes_in l) none ∙ append-nil end.unread);
  places = λ h taken rest is many. ap later_places is ∙ by_taken taken rest (many ∙ one) ∙ sym (ap (λ (l : List Piece). rest ++ places_in l) none ∙ append-nil rest);
} where
  by_taken : (taken rest : List (Option Place)) → length taken ≡ 1 → later_places (taken ++ rest) ≡ rest
  by_taken [] rest many = absurd cc
  by_taken (x ∷ []) rest many = refl
  by_taken (x ∷ y ∷ l) rest many = absurd cc

-- a list of so many has so many first
record Cut (taken : List (Option Place)) (one two : ℕ) : Type 0 where
  front : List (Option Place)
  back : List (Option Place)
  is : taken ≡ front ++ back
  first : length front ≡ one
  second : length back ≡ two

none_fewer : {A : Type 0} (one two : ℕ) → 0 ≡ suc one + two → A
none_fewer one two e = absurd (never one two e) where
  never : (a b : ℕ) → 0 ≡ suc a + b → ⊥
  never a b e = omega arith

cut_at : (one two : ℕ) (taken : List (Option Place)) → length taken ≡ one + two → Cut taken one two
cut_at zero two taken many = record { front = []; back = taken; is = refl; first = refl; second = many ∙ alone two } where
  alone : (n : ℕ) → 0 + n ≡ n
  alone n = omega arith
cut_at (suc one) two [] many = none_fewer one two many
cut_at (suc one) two (x ∷ l) many = let c = cut_at one two l (fewer (length l) one two many) in record { front = x ∷ c.front; back = c.back; is = ap (λ (m : List (Option Place)). x ∷ m) c.is; first = ap suc c.first; second = c.second } where
  fewer : (a b c : ℕ) → suc a ≡ suc b + c → a ≡ b + c
  fewer a b c e = omega arith

-- one after another
end_onward : (one two both : ℕ) (xs ys zs : List Piece) (a b c : WorldEnd) → both ≡ one + two → zs ≡ xs ++ ys → EndGoes one xs a b → EndGoes two ys b c → EndGoes both zs a c
end_onward one two both xs ys zs a b c sum is p q = record {
  cell = q.cell ∙ p.cell;
  number = q.number ∙ p.number;
  lives = λ h. p.lives (q.lives h);
  unread = λ h. q.unread h ∙ ap (λ (l : List ℕ). l ++ bytes_in ys) (p.unread (q.lives h)) ∙ append_assoc a.unread (bytes_in xs) (bytes_in ys) ∙ ap (λ (l : List ℕ). a.unread ++ l) (sym (ap bytes_in is ∙ flat_map-append (λ (piece : Piece). piece.0) xs ys));
  places = λ h taken rest e many. by_cut h taken rest e (cut_at one two taken (many ∙ sum));
} where
  by_cut : is_over c ≡ false → (taken rest : List (Option Place)) → a.places ≡ taken ++ rest → Cut taken one two → c.places ≡ rest ++ places_in zs
  by_cut h taken rest e cut =
      let first : b.places ≡ (cut.back ++ rest) ++ places_in xs = p.places (q.lives h) cut.front (cut.back ++ rest) (e ∙ ap (λ (l : List (Option Place)). l ++ rest) cut.is ∙ append_assoc cut.front cut.back rest) cut.first in
      q.places h cut.back (rest ++ places_in xs) (first ∙ append_assoc cut.back rest (places_in xs)) cut.second ∙ append_assoc rest (places_in xs) (places_in ys) ∙ ap (λ (l : List (Option Place)). rest ++ l) (sym (ap places_in is ∙ map-append (λ (piece : Piece). piece.1) xs ys))

socket_onward : (place : ℕ) (step : Step) (rest : List Step) (a b c : WorldSocket) → SocketGoes place (step ∷ []) a b → SocketGoes place rest b c → SocketGoes place (step ∷ rest) a c
socket_onward place step rest a b c p q = record { name = q.name ∙ p.name; ends = λ e. end_onward (reads_at_end place (step ∷ []) (end_of e a)) (reads_at_end place rest (end_of e b)) (reads_at_end place (step ∷ rest) (end_of e a)) (pieces_of place (step ∷ []) (end_of (other e) a)) (pieces_of place rest (end_of (other e) b)) (pieces_of place (step ∷ rest) (end_of (other e) a)) (end_of e a) (end_of e b) (end_of e c) (reads e) (pieces e) (p.ends e) (q.ends e) } where
  same_end_for : {A : Type 0} (f : Option ℕ → Option ℕ → A) (e : End) → f (end_of e b).cell (end_of e b).number ≡ f (end_of e a).cell (end_of e a).number
  same_end_for f e = ap (λ (c : Option ℕ). f c (end_of e b).number) (p.ends e).cell ∙ ap (f (end_of e a).cell) (p.ends e).number

  reads : (e : End) → reads_at_end place (step ∷ rest) (end_of e a) ≡ reads_at_end place (step ∷ []) (end_of e a) + reads_at_end place rest (end_of e b)
  reads e = reads_first place step rest (end_of e a).cell (end_of e a).number ∙ ap (λ (n : ℕ). reads_at_end place (step ∷ []) (end_of e a) + n) (sym (same_end_for (reads_for place rest) e))

  pieces : (e : End) → pieces_of place (step ∷ rest) (end_of (other e) a) ≡ pieces_of place (step ∷ []) (end_of (other e) a) ++ pieces_of place rest (end_of (other e) b)
  pieces e = pieces_first place step rest (end_of (other e) a).cell (end_of (other e) a).number ∙ ap (λ (l : List Piece). pieces_of place (step ∷ []) (end_of (other e) a) ++ l) (sym (same_end_for (pieces_for place rest) (other e)))

-- ---- sockets of a world

-- the socket of this name was there, and went on so
pub record WasThere (place : ℕ) (told : List Step) (world : World) (s : SockName) (socket : WorldSocket) : Type 0 where
  pub before : WorldSocket
  pub found : find (is_socket_named s) world.sockets ≡ Some before
  pub goes : SocketGoes place told before socket

abbrev pub AllWere : ℕ → List Step → World → World → Type 0
AllWere place told world after = (s : SockName) (socket : WorldSocket) → find (is_socket_named s) after.sockets ≡ Some socket → WasThere place told world s socket

-- an end of one socket is changed
all_changed : (place : ℕ) (told : List Step) (s : SockName) (e : End) (f : WorldEnd → WorldEnd) (world : World) → ((old : WorldSocket) → find (is_socket_named s) world.sockets ≡ Some old → SocketGoes place told old (with_end e (f (end_of e old)) old))
    → ((t : SockName) (socket : WorldSocket) → (find (is_socket_named s) world.sockets ≡ None) ⊎ (same_socket s t ≡ false) → find (is_socket_named t) world.sockets ≡ Some socket → SocketGoes place told socket socket) → AllWere place told world (with_end_of s e f world)
all_changed place told s e f world mine others = by_socket (find (is_socket_named s) world.sockets) refl where
  at_name : (old : WorldSocket) → find (is_socket_named s) world.sockets ≡ Some old → (t : SockName) (socket : WorldSocket) (b : Bool) → same_socket s t ≡ b → cond b (Some (with_end e (f (end_of e old)) old)) (find (is_socket_named t) world.sockets) ≡ Some socket → WasThere place told world t socket
  at_name old is t socket true h found =
      let new : with_end e (f (end_of e old)) old ≡ socket = cc in
      record { before = old; found = subst (λ (n : SockName). find (is_socket_named n) world.sockets ≡ Some old) (same_is s t h) is; goes = subst (λ (w : WorldSocket). SocketGoes place told old w) new (mine old is) }
  at_name old is t socket false h found = record { before = socket; found = found; goes = others t socket (inr h) found }

  by_socket : (o : Option WorldSocket) → find (is_socket_named s) world.sockets ≡ o → AllWere place told world (elim o as (λ o. World) [
    | None ↦ world
    | Some socket ↦ with_socket (with_end e (f (end_of e socket)) socket) world
  ])
  by_socket None none = λ t socket found. record { before = socket; found = found; goes = others t socket (inl none) found }
  by_socket (Some old) is = λ t socket found. at_name old is t socket (same_socket s t) refl (ap (λ (n : SockName). cond (same_socket n t) (Some (with_end e (f (end_of e old)) old)) (find (is_socket_named t) world.sockets)) (sym (new_name s e (f (end_of e old)) world.sockets old is)) ∙ sym (find_stored (with_end e (f (end_of e old)) old) world.sockets t) ∙ found)

-- what changes one end, and another way the other
with_one : (place : ℕ) (told : List Step) (e : End) (end : WorldEnd) (old : WorldSocket) → EndGoes (reads_at_end place told (end_of e old)) (pieces_of place told (end_of (other e) old)) (end_of e old) end
    → EndGoes (reads_at_end place told (end_of (other e) old)) (pieces_of place told (end_of e old)) (end_of (other e) old) (end_of (other e) old) → SocketGoes place told old (with_end e end old)
with_one place told O end old mine rest = record { name = refl; ends = λ e. by_end e } where
  by_end : (e : End) → EndGoes (reads_at_end place told (end_of e old)) (pieces_of place told (end_of (other e) old)) (end_of e old) (end_of e (with_end O end old))
  by_end O = mine
  by_end T = rest
with_one place told T end old mine rest = record { name = refl; ends = λ e. by_end e } where
  by_end : (e : End) → EndGoes (reads_at_end place told (end_of e old)) (pieces_of place told (end_of (other e) old)) (end_of e old) (end_of e (with_end T end old))
  by_end O = rest
  by_end T = mine

-- a step that reads and writes nothing
quiet_rests : (place : ℕ) (step : Step) (socket : WorldSocket) → IsSilent step → IsBlind step → SocketGoes place (step ∷ []) socket socket
quiet_rests place step socket s b = record { name = refl; ends = λ e. end_rests (reads_at_end place (step ∷ []) (end_of e socket)) (pieces_of place (step ∷ []) (end_of (other e) socket)) (end_of e socket) (blind_reads place step (end_of e socket).cell (end_of e socket).number b) (silent_pieces place step (end_of (other e) socket).cell (end_of (other e) socket).number s) }

pub dial_rests : (place sock end : ℕ) (peer : Address) (socket : WorldSocket) → SocketGoes place (steps.Dial sock end peer ∷ []) socket socket
dial_rests place sock end peer socket = quiet_rests place (steps.Dial sock end peer) socket (λ n. refl) (λ n. refl)

-- such a step that ends an end
quiet_ends : (place : ℕ) (step : Step) (s : SockName) (e : End) (world : World) → IsSilent step → IsBlind step → AllWere place (step ∷ []) world (with_end_of s e ended world)
quiet_ends place step s e world silent blind = all_changed place (step ∷ []) s e ended world
    (λ old is. with_one place (step ∷ []) e (ended (end_of e old)) old (end_ends (reads_at_end place (step ∷ []) (end_of e old)) (pieces_of place (step ∷ []) (end_of (other e) old)) (end_of e old))
    (end_rests (reads_at_end place (step ∷ []) (end_of (other e) old)) (pieces_of place (step ∷ []) (end_of e old)) (end_of (other e) old) (blind_reads place step (end_of (other e) old).cell (end_of (other e) old).number blind) (silent_pieces place step (end_of e old).cell (end_of e old).number silent)))
    (λ t socket off found. quiet_rests place step socket silent blind)

-- ---- one step

off_by : {A : Type 0} (x y : A) (b : Bool) → b ≡ false → cond b x y ≡ y
off_by x y true e = absurd cc
off_by x y false e = refl

on_by : {A : Type 0} (x y : A) (b : Bool) → b ≡ true → cond b x y ≡ x
on_by x y true e = refl
on_by x y false e = absurd cc

-- a step at an end of the cell that isn't this socket's
write_rests : (place sock : ℕ) (bytes : List ℕ) (said : Option Place) (socket : WorldSocket) → ((e : End) → is_end_of place sock (end_of e socket) ≡ false) → SocketGoes place (steps.Write sock bytes said ∷ []) socket socket
write_rests place sock bytes said socket off = record {
  name = refl;
  ends = λ e. end_rests (reads_at_end place (steps.Write sock bytes said ∷ []) (end_of e socket)) (pieces_of place (steps.Write sock bytes said ∷ []) (end_of (other e) socket)) (end_of e socket) (blind_reads place (steps.Write sock bytes said) (end_of e socket).cell (end_of e socket).number (λ n. refl))
      (write_pieces place sock bytes said (end_of (other e) socket) ∙ off_by ((bytes, said) ∷ []) [] (is_end_of place sock (end_of (other e) socket)) (off (other e)));
}

read_rests : (place sock : ℕ) (socket : WorldSocket) → ((e : End) → is_end_of place sock (end_of e socket) ≡ false) → SocketGoes place (steps.Read sock ∷ []) socket socket
read_rests place sock socket off = record { name = refl; ends = λ e. end_rests (reads_at_end place (steps.Read sock ∷ []) (end_of e socket)) (pieces_of place (steps.Read sock ∷ []) (end_of (other e) socket)) (end_of e socket) (read_count place sock (end_of e socket) ∙ off_by 1 0 (is_end_of place sock (end_of e socket)) (off e)) (silent_pieces place (steps.Read sock) (end_of (other e) socket).cell (end_of (other e) socket).number (λ n. refl)) }

twice : (e : End) → other (other e) ≡ e
twice O = refl
twice T = refl

not_same : (e : End) → same_end e (other e) ≡ false
not_same O = refl
not_same T = refl

-- the end is of no other socket
off_others : (place sock : ℕ) (at : SockName × End) (world : World) → EachFound world.sockets → find_end place sock world.sockets ≡ Some at → (t : SockName) (socket : WorldSocket) → (find (is_socket_named at.0) world.sockets ≡ None) ⊎ (same_socket at.0 t ≡ false) → find (is_socket_named t) world.sockets ≡ Some socket → (e : End) → is_end_of place sock (end_of e socket) ≡ false
off_others place sock at world each is t socket off found e = not_found place sock world.sockets t socket e each found (λ h. clash off (ap (name_in t) (sym is ∙ h))) where
  name_in : SockName → Option (SockName × End) → SockName
  name_in s None = s
  name_in s (Some a) = a.0

  clash : (find (is_socket_named at.0) world.sockets ≡ None) ⊎ (same_socket at.0 t ≡ false) → at.0 ≡ t → ⊥
  clash (inl none) same = let some : find (is_socket_named at.0) world.sockets ≡ Some socket = subst (λ (n : SockName). find (is_socket_named n) world.sockets ≡ Some socket) (sym same) found in absurd cc
  clash (inr off) same = let yes : same_socket at.0 t ≡ true = subst (λ (n : SockName). same_socket at.0 n ≡ true) same (self_same at.0) in absurd cc

off_all : (place sock : ℕ) (world : World) → EachFound world.sockets → find_end place sock world.sockets ≡ None → (s : SockName) (socket : WorldSocket) → find (is_socket_named s) world.sockets ≡ Some socket → (e : End) → is_end_of place sock (end_of e socket) ≡ false
off_all place sock world each none s socket found e = not_found place sock world.sockets s socket e each found (λ h. clash (sym none ∙ h)) where
  clash : ◌≡◌ {A = Option (SockName × End)} None (Some (s, e)) → ⊥
  clash h = cc

written : (place sock : ℕ) (bytes : List ℕ) (said : Option Place) (at : SockName × End) (world : World) → Distinct world.sockets → EachFound world.sockets → find_end place sock world.sockets ≡ Some at → AllWere place (steps.Write sock bytes said ∷ []) world (with_end_of at.0 (other at.1) (item_arrives bytes said) world)
written place sock bytes said at world apart each is = all_changed place (steps.Write sock bytes said ∷ []) at.0 (other at.1) (item_arrives bytes said) world mine (λ t socket off found. write_rests place sock bytes said socket (off_others place sock at world each is t socket off found)) where
  told : List Step
  told = steps.Write sock bytes said ∷ []

  blind : (end : WorldEnd) → reads_at_end place told end ≡ 0
  blind end = blind_reads place (steps.Write sock bytes said) end.cell end.number (λ n. refl)

  mine : (old : WorldSocket) → find (is_socket_named at.0) world.sockets ≡ Some old → SocketGoes place (steps.Write sock bytes said ∷ []) old (with_end (other at.1) (item_arrives bytes said (end_of (other at.1) old)) old)
  mine old found =
      let own : is_end_of place sock (end_of at.1 old) ≡ true = found_is place sock world.sockets at old apart is found in
      with_one place told (other at.1) (item_arrives bytes said (end_of (other at.1) old)) old
      (end_gets (reads_at_end place told (end_of (other at.1) old)) (pieces_of place told (end_of (other (other at.1)) old)) bytes said (end_of (other at.1) old) (blind (end_of (other at.1) old))
      (ap (λ (e : End). pieces_of place told (end_of e old)) (twice at.1) ∙ write_pieces place sock bytes said (end_of at.1 old) ∙ on_by ((bytes, said) ∷ []) [] (is_end_of place sock (end_of at.1 old)) own))
      (end_rests (reads_at_end place told (end_of (other (other at.1)) old)) (pieces_of place told (end_of (other at.1) old)) (end_of (other (other at.1)) old) (blind (end_of (other (other at.1)) old))
      (write_pieces place sock bytes said (end_of (other at.1) old) ∙ off_by ((bytes, said) ∷ []) [] (is_end_of place sock (end_of (other at.1) old)) (other_end_there place sock world.sockets at old (other at.1) each is found (not_same at.1))))

item_read : (place sock : ℕ) (at : SockName × End) (world : World) → Distinct world.sockets → EachFound world.sockets → find_end place sock world.sockets ≡ Some at → AllWere place (steps.Read sock ∷ []) world (with_end_of at.0 at.1 (λ end. record end { places = later_places end.places }) world)
item_read place sock at world apart each is = all_changed place (steps.Read sock ∷ []) at.0 at.1 (λ end. record end { places = later_places end.places }) world mine (λ t socket off found. read_rests place sock socket (off_others place sock at world each is t socket off found)) where
  told : List Step
  told = steps.Read sock ∷ []

  silent : (end : WorldEnd) → pieces_of place told end ≡ []
  silent end = silent_pieces place (steps.Read sock) end.cell end.number (λ n. refl)

  mine : (old : WorldSocket) → find (is_socket_named at.0) world.sockets ≡ Some old → SocketGoes place (steps.Read sock ∷ []) old (with_end at.1 (record (end_of at.1 old) { places = later_places (end_of at.1 old).places }) old)
  mine old found =
      let own : is_end_of place sock (end_of at.1 old) ≡ true = found_is place sock world.sockets at old apart is found in
      with_one place told at.1 (record (end_of at.1 old) { places = later_places (end_of at.1 old).places }) old
      (end_reads (reads_at_end place told (end_of at.1 old)) (pieces_of place told (end_of (other at.1) old)) (end_of at.1 old) (read_count place sock (end_of at.1 old) ∙ on_by 1 0 (is_end_of place sock (end_of at.1 old)) own) (silent (end_of (other at.1) old)))
      (end_rests (reads_at_end place told (end_of (other at.1) old)) (pieces_of place told (end_of at.1 old)) (end_of (other at.1) old) (read_count place sock (end_of (other at.1) old) ∙ off_by 1 0 (is_end_of place sock (end_of (other at.1) old)) (other_end_there place sock world.sockets at old (other at.1) each is found (not_same at.1))) (silent (end_of at.1 old)))

-- where the end isn't found, nothing changes
all_rest : (place : ℕ) (step : Step) (world : World) → ((s : SockName) (socket : WorldSocket) → find (is_socket_named s) world.sockets ≡ Some socket → SocketGoes place (step ∷ []) socket socket) → AllWere place (step ∷ []) world world
all_rest place step world rests s socket found = record { before = socket; found = found; goes = rests s socket found }

quiet : (place : ℕ) (step : Step) (world : World) → IsSilent step → IsBlind step → AllWere place (step ∷ []) world world
quiet place step world silent blind = all_rest place step world (λ s socket found. quiet_rests place step socket silent blind)

step_goes : (place : ℕ) (cell : Cell) (step : Step) (world : World) → Distinct world.sockets → EachFound world.sockets → NoDials (step ∷ []) → AllWere place (step ∷ []) world (stepped place cell step world).1
step_goes place cell (steps.Dial sock end peer) world apart each n = absurd n
step_goes place cell (steps.Read sock) world apart each n = at_end_flow (λ w. AllWere place (steps.Read sock ∷ []) world w) place sock reads_item world (λ at e. by_socket at e (find (is_socket_named at.0) world.sockets) refl) (λ e. all_rest place (steps.Read sock) world (λ s socket found. read_rests place sock socket (off_all place sock world each e s socket found))) where
  by_socket : (at : SockName × End) → find_end place sock world.sockets ≡ Some at → (o : Option WorldSocket) → find (is_socket_named at.0) world.sockets ≡ o → AllWere place (steps.Read sock ∷ []) world (item_is_read at o world)
  by_socket at e None none = all_rest place (steps.Read sock) world (λ s socket found. read_rests place sock socket (off_others place sock at world each e s socket (inl none) found))
  by_socket at e (Some socket) is = item_read place sock at world apart each e
step_goes place cell (steps.Write sock bytes said) world apart each n = at_end_flow (λ w. AllWere place (steps.Write sock bytes said ∷ []) world w) place sock (λ at now. (entries.Wrote at.0 at.1 bytes ∷ [], with_end_of at.0 (other at.1) (item_arrives bytes said) now)) world (λ at e. written place sock bytes said at world apart each e) (λ e. all_rest place (steps.Write sock bytes said) world (λ s socket found. write_rests place sock bytes said socket (off_all place sock world each e s socket found)))
step_goes place cell (steps.Up sock) world apart each n = at_end_flow (λ w. AllWere place (steps.Up sock ∷ []) world w) place sock (λ at now. (entries.Up at.0 at.1 ∷ [], now)) world (λ at e. quiet place (steps.Up sock) world (λ m. refl) (λ m. refl)) (λ e. quiet place (steps.Up sock) world (λ m. refl) (λ m. refl))
step_goes place cell (steps.Down sock) world apart each n = at_end_flow (λ w. AllWere place (steps.Down sock ∷ []) world w) place sock (λ at now. (entries.Down at.0 at.1 ∷ [], end_closes at now)) world (λ at e. quiet_ends place (steps.Down sock) at.0 at.1 world (λ m. refl) (λ m. refl)) (λ e. quiet place (steps.Down sock) world (λ m. refl) (λ m. refl))
step_goes place cell (steps.Left sock) world apart each n = at_end_flow (λ w. AllWere place (steps.Left sock ∷ []) world w) place sock (λ at now. (entries.Left at.0 at.1 ∷ [], end_closes at now)) world (λ at e. quiet_ends place (steps.Left sock) at.0 at.1 world (λ m. refl) (λ m. refl)) (λ e. quiet place (steps.Left sock) world (λ m. refl) (λ m. refl))
step_goes place cell (steps.Broke end peer why) world apart each n = quiet place (steps.Broke end peer why) world (λ m. refl) (λ m. refl)
step_goes place cell (steps.Post end event) world apart each n = quiet place (steps.Post end event) world (λ m. refl) (λ m. refl)

-- ---- all steps

first_alone : (step : Step) (rest : List Step) → NoDials (step ∷ rest) → NoDials (step ∷ []) × NoDials rest
first_alone (steps.Dial sock end peer) rest n = absurd n
first_alone (steps.Read sock) rest n = (tt, n)
first_alone (steps.Write sock bytes said) rest n = (tt, n)
first_alone (steps.Up sock) rest n = (tt, n)
first_alone (steps.Down sock) rest n = (tt, n)
first_alone (steps.Left sock) rest n = (tt, n)
first_alone (steps.Broke end peer why) rest n = (tt, n)
first_alone (steps.Post end event) rest n = (tt, n)

no_dial : (P : World → Type 0) (place : ℕ) (cell : Cell) (step : Step) (world : World) → NoDials (step ∷ []) → OnDial P place cell step world
no_dial P place cell (steps.Dial sock end peer) world n = absurd n
no_dial P place cell (steps.Read sock) world n = tt
no_dial P place cell (steps.Write sock bytes said) world n = tt
no_dial P place cell (steps.Up sock) world n = tt
no_dial P place cell (steps.Down sock) world n = tt
no_dial P place cell (steps.Left sock) world n = tt
no_dial P place cell (steps.Broke end peer why) world n = tt
no_dial P place cell (steps.Post end event) world n = tt

-- where nothing was told, nothing was read or written
untold_pieces : (place : ℕ) (c m : Option ℕ) → pieces_for place [] c m ≡ []
untold_pieces place None m = refl
untold_pieces place (Some p) None = refl
untold_pieces place (Some p) (Some k) = nothing_for (p == place) [] [] refl

untold_reads : (place : ℕ) (c m : Option ℕ) → reads_for place [] c m ≡ 0
untold_reads place None m = refl
untold_reads place (Some p) None = refl
untold_reads place (Some p) (Some k) = nothing_for (p == place) 0 0 refl

untold : (place : ℕ) (socket : WorldSocket) (e : End) → EndGoes (reads_at_end place [] (end_of e socket)) (pieces_of place [] (end_of (other e) socket)) (end_of e socket) (end_of e socket)
untold place socket e = end_rests (reads_at_end place [] (end_of e socket)) (pieces_of place [] (end_of (other e) socket)) (end_of e socket) (untold_reads place (end_of e socket).cell (end_of e socket).number) (untold_pieces place (end_of (other e) socket).cell (end_of (other e) socket).number)

pub told_goes : (journal : List Line) (place : ℕ) (cell : Cell) (told : List Step) (log : List Entry) (world : World) → Sorted journal log world → EachFound world.sockets → NoDials told → AllWere place told world (all_told place cell (told_steps told) world).1
told_goes journal place cell [] log world g each n s socket found = record { before = socket; found = found; goes = record { name = refl; ends = untold place socket } }
told_goes journal place cell (step ∷ rest) log world g each n s socket found =
    let parts = first_alone step rest n in
    let later = told_goes journal place cell rest (log ++ (stepped place cell step world).0) one (one_told (Sorted journal) (keeps_sorted journal) log place cell (local.Step step) world g) (now parts.0) parts.1 s socket found in
    let first = step_goes place cell step world g.0.apart each parts.0 s later.before later.found in
    record { before = first.before; found = first.found; goes = socket_onward place step rest first.before later.before socket first.goes later.goes }
  where
    one : World
    one = (stepped place cell step world).1

    now : NoDials (step ∷ []) → EachFound one.sockets
    now alone = step_as (λ w. EachFound w.sockets) (λ one two c s k. subst EachFound (sym s) k) place cell step world (no_dial (λ w. EachFound w.sockets) place cell step world alone) (λ s e f c. each_kept s e f world c.changes.place each) each

-- ---- an end is opened before the steps

-- an end that hasn't ended is opened
end_opens : (gone : ℕ) (pieces : List Piece) (end : WorldEnd) → gone ≡ 0 → pieces ≡ [] → is_ended end.stage ≡ false → EndGoes gone pieces end (opened end)
end_opens gone pieces end untaken none live = let rests = end_rests gone pieces end untaken none in record { cell = refl; number = refl; lives = λ h. ap (λ b. b || end.is_cut) live ∙ h; unread = λ h. rests.unread (ap (λ b. b || end.is_cut) live ∙ h); places = λ h. rests.places (ap (λ b. b || end.is_cut) live ∙ h) }

pub opened_goes : (place : ℕ) (s : SockName) (e : End) (world : World) → ((old : WorldSocket) → find (is_socket_named s) world.sockets ≡ Some old → is_ended (end_of e old).stage ≡ false) → AllWere place [] world (with_end_of s e opened world)
opened_goes place s e world live = all_changed place [] s e opened world
    (λ old is. with_one place [] e (opened (end_of e old)) old (end_opens (reads_at_end place [] (end_of e old)) (pieces_of place [] (end_of (other e) old)) (end_of e old) (untold_reads place (end_of e old).cell (end_of e old).number) (untold_pieces place (end_of (other e) old).cell (end_of (other e) old).number) (live old is))
    (end_rests (reads_at_end place [] (end_of (other e) old)) (pieces_of place [] (end_of e old)) (end_of (other e) old) (untold_reads place (end_of (other e) old).cell (end_of (other e) old).number) (untold_pieces place (end_of e old).cell (end_of e old).number)))
    (λ t socket off found. record { name = refl; ends = untold place socket })

-- where nothing was told yet, what is told then is all
pub none_first_goes : (place : ℕ) (told : List Step) (a b c : WorldSocket) → SocketGoes place [] a b → SocketGoes place told b c → SocketGoes place told a c
none_first_goes place told a b c p q = record { name = q.name ∙ p.name; ends = λ e. end_onward (reads_at_end place [] (end_of e a)) (reads_at_end place told (end_of e b)) (reads_at_end place told (end_of e a)) (pieces_of place [] (end_of (other e) a)) (pieces_of place told (end_of (other e) b)) (pieces_of place told (end_of (other e) a)) (end_of e a) (end_of e b) (end_of e c) (reads e) (pieces e) (p.ends e) (q.ends e) } where
  same_end_for : {A : Type 0} (f : Option ℕ → Option ℕ → A) (e : End) → f (end_of e b).cell (end_of e b).number ≡ f (end_of e a).cell (end_of e a).number
  same_end_for f e = ap (λ (c : Option ℕ). f c (end_of e b).number) (p.ends e).cell ∙ ap (f (end_of e a).cell) (p.ends e).number

  alone : (n : ℕ) → n ≡ 0 + n
  alone n = omega arith

  reads : (e : End) → reads_at_end place told (end_of e a) ≡ reads_at_end place [] (end_of e a) + reads_at_end place told (end_of e b)
  reads e = sym (same_end_for (reads_for place told) e) ∙ alone (reads_at_end place told (end_of e b)) ∙ ap (λ (n : ℕ). n + reads_at_end place told (end_of e b)) (sym (untold_reads place (end_of e a).cell (end_of e a).number))

  pieces : (e : End) → pieces_of place told (end_of (other e) a) ≡ pieces_of place [] (end_of (other e) a) ++ pieces_of place told (end_of (other e) b)
  pieces e = sym (same_end_for (pieces_for place told) (other e)) ∙ ap (λ (l : List Piece). l ++ pieces_of place told (end_of (other e) b)) (sym (untold_pieces place (end_of (other e) a).cell (end_of (other e) a).number))
