-- The ends of the sockets between two nodes, and what one has written on them towards the other.
use Rattle.std.proofs.Common.{◌≡◌, ◌⊎◌, inl, inr, ℕ, zero, suc, Bool, true, false, cond, ◌&&◌, ◌||◌, List, [], ◌∷◌, ◌++◌, refl, sym, ap, ◌∙◌, subst}
use Rattle.std.proofs.lemmas.Bool.{and_parts}
use Rattle.std.proofs.lemmas.List.{map-append}
use Rattle.std.proofs.lemmas.List.Elements.{filter_map-append}
use Rattle.std.proofs.lemmas.Slice.Eq.{bytes_eq-Decides}
use Rattle.std.specs.Prelude.{find, slice_get, is_some, Some}
use Rattle.std.specs.Str.{bytes_eq}
use Rattle.ch_wire.specs.declared.frame.Frame.{Frame}
use Rattle.ch_model.specs.declared.entry.Entry.{Entry}
use Rattle.ch_model.specs.declared.line.Line.{Line}
use Rattle.ch_model.specs.declared.name.End.{End}
use Rattle.ch_model.specs.declared.name.End.TheVariants.{O, T}
use Rattle.ch_model.specs.declared.name.SockName.{SockName}
use Rattle.ch_model.specs.AccountsFrames.{Saying}
use Rattle.ch_model.specs.AccountsItems.{frames_of}
use Rattle.ch_model.specs.Same.{is_between, owner, across, is_end_of}
use Rattle.ch_model.specs.Sockets.{writings}
use Rattle.ch_model.specs.WorldSockets.{end_of, is_socket_named}
use Rattle.ch_model.specs.WorldState.{WorldSocket, World}
use Rattle.ch_race.specs.Pair.{Side, Lesser, Greater, other}
use Rattle.ch_laws_log.proofs.Stored.{find_name}
use Rattle.ch_laws_race.specs.Scene.{Party}
use Rattle.ch_laws_race.specs.Sound.{HasEnd, opener_by}
use Rattle.ch_laws_race.specs.View.{opener_of}
use Rattle.ch_laws_calls.specs.Scenes.{IsOfSide, SceneFacts, scene_of}
use Rattle.ch_laws_calls.proofs.ScenesHeld.{is_held}
use Rattle.ch_laws_peers.specs.Words.{Placed, words_in, placing, sayings, TrueWords}
use Rattle.ch_laws_peers.specs.Says.{frames_towards, towards, ArePlaced, Says}
use Rattle.ch_laws_peers.specs.Reads.{frames_among, AreTruly}
use Rattle.ch_laws_plain_logs.specs.Plain.{said_by}
use Rattle.ch_laws_messages.specs.WayGoes.{written_frames}
use Rattle.ch_laws_messages.proofs.WayLists.{datas_behind, count_behind, placing_append, truly_placed, true_first, AreBare, bare_placed, placed_all}

-- ---- an end of x

pub same : (a b : List ℕ) → bytes_eq a b ≡ true → a ≡ b
same a b h = (bytes_eq-Decides a b).0 h

self : (a : List ℕ) → bytes_eq a a ≡ true
self a = (bytes_eq-Decides a a).1 refl

place_found : {A : Type 0} (p : A → Bool) (xs : List A) (x : A) → find p xs ≡ Some x → (i : ℕ) × (slice_get xs i ≡ Some x)
place_found p [] x e = absurd cc
place_found p (y ∷ xs) x e = by_test (p y) e (place_found p xs x) where
  by_test : (b : Bool) → cond b (Some y) (find p xs) ≡ Some x → (find p xs ≡ Some x → (i : ℕ) × (slice_get xs i ≡ Some x)) → (i : ℕ) × (slice_get (y ∷ xs) i ≡ Some x)
  by_test true e more = (zero, e)
  by_test false e more = let found = more e in (suc found.0, found.1)

-- a socket of the two, of which x has this end
pub record IsOf (party : Side → Party) (world : World) (x : Side) (socket : WorldSocket) (e : End) : Type 0 where
  pub i : ℕ
  pub at : slice_get world.sockets i ≡ Some socket
  pub between : is_between (party Lesser).name (party Greater).name socket.name ≡ true
  pub opener : opener_of party socket ≡ opener_by e x
  pub cell : (end_of e socket).cell ≡ Some (party x).place
  pub target : is_some socket.t.cell ≡ true

by_opener : (e : End) (x z : Side) → opener_by e z ≡ opener_by e x → z ≡ x
by_opener O x z h = h
by_opener T Lesser Lesser h = refl
by_opener T Greater Greater h = refl
by_opener T Lesser Greater h = absurd cc
by_opener T Greater Lesser h = absurd cc

-- who opened it, by the names
opened_as : (party : Side → Party) (x : Side) (socket : WorldSocket) (e : End) → bytes_eq (party Greater).name (party Lesser).name ≡ false → owner socket.name e ≡ (party x).name → owner socket.name (across e) ≡ (party (other x)).name
    → (opener_of party socket ≡ opener_by e x) × (is_between (party Lesser).name (party Greater).name socket.name ≡ true)
opened_as party x socket e differ own theirs = by_side e x own theirs where
  first : (a b : Bool) → a ≡ true → (a || b) ≡ true
  first true b h = refl
  first false b h = absurd cc

  second : (a b : Bool) → b ≡ true → (a || b) ≡ true
  second true b h = refl
  second false b h = h

  both : (a b : Bool) → a ≡ true → b ≡ true → (a && b) ≡ true
  both true b h g = g
  both false b h g = absurd cc

  is : (a b : List ℕ) → a ≡ b → bytes_eq a b ≡ true
  is a b h = subst (λ (c : List ℕ). bytes_eq a c ≡ true) h (self a)

  of_lesser : socket.name.from ≡ (party Lesser).name → opener_of party socket ≡ Lesser
  of_lesser h = ap (λ b. cond b Lesser Greater) (is socket.name.from (party Lesser).name h)

  of_greater : socket.name.from ≡ (party Greater).name → opener_of party socket ≡ Greater
  of_greater h = ap (λ b. cond b Lesser Greater) (subst (λ (c : List ℕ). bytes_eq c (party Lesser).name ≡ false) (sym h) differ)

  lesser : socket.name.from ≡ (party Lesser).name → socket.name.to ≡ (party Greater).name → is_between (party Lesser).name (party Greater).name socket.name ≡ true
  lesser f t = first _ _ (both _ _ (is socket.name.from (party Lesser).name f) (is socket.name.to (party Greater).name t))

  greater : socket.name.from ≡ (party Greater).name → socket.name.to ≡ (party Lesser).name → is_between (party Lesser).name (party Greater).name socket.name ≡ true
  greater f t = second _ _ (both _ _ (is socket.name.from (party Greater).name f) (is socket.name.to (party Lesser).name t))

  by_side : (e : End) (x : Side) → owner socket.name e ≡ (party x).name → owner socket.name (across e) ≡ (party (other x)).name → (opener_of party socket ≡ opener_by e x) × (is_between (party Lesser).name (party Greater).name socket.name ≡ true)
  by_side O Lesser f t = (of_lesser f, lesser f t)
  by_side O Greater f t = (of_greater f, greater f t)
  by_side T Lesser t f = (of_greater f, greater f t)
  by_side T Greater t f = (of_lesser f, lesser f t)

pub is_of : (party : Side → Party) (world : World) (x : Side) (s : SockName) (socket : WorldSocket) (e : End) → SceneFacts party world → find (is_socket_named s) world.sockets ≡ Some socket → is_end_of (party x).name (party (other x)).name s e ≡ true → IsOf party world x socket e
is_of party world x s socket e f found of = record { i = at.0; at = at.1; between = opened.1; opener = opened.0; cell = side.cell ∙ ap (λ (z : Side). Some (party z).place) mine; target = by_end e opened.1 opened.0 (f.sides at.0 socket at.1 opened.1 T) } where
  name : socket.name ≡ s
  name = find_name s world.sockets socket found

  parts : (bytes_eq (owner s e) (party x).name ≡ true) × (bytes_eq (owner s (across e)) (party (other x)).name ≡ true)
  parts = and_parts (bytes_eq (owner s e) (party x).name) (bytes_eq (owner s (across e)) (party (other x)).name) of

  at : (i : ℕ) × (slice_get world.sockets i ≡ Some socket)
  at = place_found (is_socket_named s) world.sockets socket found

  opened : (opener_of party socket ≡ opener_by e x) × (is_between (party Lesser).name (party Greater).name socket.name ≡ true)
  opened = opened_as party x socket e f.names_differ (ap (λ (n : SockName). owner n e) name ∙ same (owner s e) (party x).name parts.0) (ap (λ (n : SockName). owner n (across e)) name ∙ same (owner s (across e)) (party (other x)).name parts.1)

  side : IsOfSide party e socket
  side = f.sides at.0 socket at.1 opened.1 e

  mine : side.side ≡ x
  mine = by_opener e x side.side (sym side.opener ∙ opened.0)

  by_end : (e : End) → is_between (party Lesser).name (party Greater).name socket.name ≡ true → opener_of party socket ≡ opener_by e x → IsOfSide party T socket → is_some socket.t.cell ≡ true
  by_end e between opener t = ap is_some t.cell

-- under a number
pub has_end : (party : Side → Party) (world : World) (x : Side) (socket : WorldSocket) (e : End) (n : ℕ) → (o : IsOf party world x socket e) → (end_of e socket).number ≡ Some n → HasEnd (scene_of party world) x e o.i n socket
has_end party world x socket e n o number = record { at = o.at; end = is_held (party x).place n (end_of e socket) o.cell number; between = o.between; opener = o.opener; target = o.target }

-- ---- what was written

-- the frames that x has written at this end are true so far
pub record WroteTrue (journal : List Line) (log : List Entry) (party : Side → Party) (x : Side) (s : SockName) (e : End) : Type 0 where
  pub count : ℕ
  pub words : TrueWords journal (sayings (party x).name (party (other x)).name log) [] 0 (words_in (written_frames (sayings (party x).name (party (other x)).name log) (writings log s e))) count
  pub placed : ArePlaced (written_frames (sayings (party x).name (party (other x)).name log) (writings log s e))

pub wrote_true : (journal : List Line) (log : List Entry) (world : World) (party : Side → Party) (x : Side) (s : SockName) (e : End) → Says journal log world party x → is_end_of (party x).name (party (other x)).name s e ≡ true → WroteTrue journal log party x s e
wrote_true journal log world party x s e says of = record { count = (words_so (says.one s e of)).0; words = (words_so (says.one s e of)).1; placed = placed_all said [] 0 (frames_of log s e) } where
  said : List Saying
  said = sayings (party x).name (party (other x)).name log

  Words : List Frame → Type 0
  Words frames = (count : ℕ) × TrueWords journal said [] 0 (words_in (placing said [] 0 frames)) count

  words_so : {A : Type 0} → (frames_of log s e ≡ []) ⊎ (A × (frames_of log s e ≡ frames_towards (party x).name (party (other x)).name log)) → Words (frames_of log s e)
  words_so (inl none) = subst Words (sym none) (0, refl)
  words_so (inr all) = subst Words (sym all.1) (count_behind [] 0 (frames_among (towards (party x).name (party (other x)).name log)), true_first journal said [] 0 _ (towards (party x).name (party (other x)).name log) _ says.words)

-- more is said later
pub said_more : (x y : List ℕ) (log more : List Entry) → sayings x y (log ++ more) ≡ sayings x y log ++ sayings x y more
said_more x y log more = filter_map-append (said_by x y) log more

-- frames behind others are placed truly, where both are
pub truly_behind : (next : List Saying) (xs ys : List Placed) → AreTruly next xs → placing next (datas_behind [] (frames_among xs)) (count_behind [] 0 (frames_among xs)) (frames_among ys) ≡ ys → AreTruly next (xs ++ ys)
truly_behind next xs ys t u = ap (placing next [] 0) (map-append (λ (placed : Placed). placed.0) xs ys) ∙ placing_append next [] 0 (frames_among xs) (frames_among ys) ∙ ap (λ (l : List Placed). l ++ placing next (datas_behind [] (frames_among xs)) (count_behind [] 0 (frames_among xs)) (frames_among ys)) t ∙ ap (λ (l : List Placed). xs ++ l) u

-- what was written stays true when more is said, and so it is with frames without payloads behind it
pub truly_bare : (journal : List Line) (log more : List Entry) (party : Side → Party) (x : Side) (s : SockName) (e : End) (new : List Placed) → WroteTrue journal log party x s e → AreBare new → AreTruly (sayings (party x).name (party (other x)).name (log ++ more)) (written_frames (sayings (party x).name (party (other x)).name log) (writings log s e) ++ new)
truly_bare journal log more party x s e new w b = subst (λ (l : List Saying). AreTruly l (written_frames said (writings log s e) ++ new)) (sym (said_more (party x).name (party (other x)).name log more))
    (truly_behind (said ++ later) (written_frames said (writings log s e)) new (truly_placed journal said later [] 0 w.count (written_frames said (writings log s e)) w.words w.placed) (bare_placed (said ++ later) _ _ new b))
  where
    said : List Saying
    said = sayings (party x).name (party (other x)).name log

    later : List Saying
    later = sayings (party x).name (party (other x)).name more
