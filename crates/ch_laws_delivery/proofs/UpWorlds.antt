-- A line by which a process sends while the link is up is the passage's move: its frame's bytes come behind what is unread at the
-- receiving node's end.
use Rattle.std.specs.Prelude.{◌≡◌, ◌<◌, ℕ, ◌+◌, ◌-◌, Bool, true, false, cond, ◌&&◌, ◌||◌, ◌==◌, nat_eq, List, [], ◌∷◌, ◌++◌, map, length, find, slice_get, nat_lt, Option, Some, None, if◌then◌else◌}
use Rattle.std.specs.List.{flat_map}
use Rattle.std.specs.Str.{bytes_eq}
use Rattle.std.proofs.Common.{refl, ap, sym, ◌∙◌, subst, arith}
use Rattle.std.proofs.lemmas.Bool.{eqb-true, eq-eqb, and_parts}
use Rattle.std.proofs.lemmas.Bool.Decides.{nat_tests}
use Rattle.std.proofs.lemmas.Grind.{flat_map-append}
use Rattle.std.proofs.lemmas.List.{append-nil, append_assoc}
use Rattle.std.proofs.lemmas.Option.{slice_get_within}
use Rattle.std.proofs.lemmas.Slice.Eq.{bytes_eq-Decides}
use Rattle.ch_ident.specs.declared.message.Message.{Message}
use Rattle.ch_light.proofs.Lists.{set_here, set_other}
use Rattle.ch_light.specs.declared.TheConstants.{FIRST_ID}
use Rattle.ch_link.specs.declared.LinkState.TheVariants.{Up}
use Rattle.ch_wire.specs.Spelling.{frame_spelling}
use Rattle.ch_wire.specs.declared.frame.Frame.{Frame}
use Rattle.ch_model.specs.declared.entry.Entry.{Entry}
use Rattle.ch_model.specs.declared.entry.Entry.TheVariants as entries
use Rattle.ch_model.specs.declared.name.End.{End}
use Rattle.ch_model.specs.declared.name.End.TheVariants.{O, T}
use Rattle.ch_model.specs.declared.name.ProcName.{ProcName}
use Rattle.ch_model.specs.declared.name.SockName.{SockName}
use Rattle.ch_model.specs.declared.name.TargetName.{TargetName}
use Rattle.ch_model.specs.declared.step.Place.{Place}
use Rattle.ch_model.specs.declared.step.Step.TheVariants as steps
use Rattle.ch_model.specs.declared.step.Weight.{Weight}
use Rattle.ch_model.specs.Same.{same_socket}
use Rattle.ch_model.specs.Stages.{is_ended}
use Rattle.ch_model.specs.HostState.{Link, HostState}
use Rattle.ch_model.specs.HostSteps.{link_with}
use Rattle.ch_model.specs.HostWrites.{said_of, frame_step}
use Rattle.ch_model.specs.NodeState.{NodeState, Pair}
use Rattle.ch_model.specs.NodePairs.{keeping}
use Rattle.ch_model.specs.NodeSends.{with_said}
use Rattle.ch_model.specs.WorldState.{Cell, WorldEnd, WorldSocket, World}
use Rattle.ch_model.specs.WorldSockets.{end_of, other, with_end, item_arrives, is_socket_named, store_in, with_socket, with_end_of, is_end_of, end_at, find_end}
use Rattle.ch_model.specs.WorldSteps.{stepped}
use Rattle.ch_model.specs.WorldHappenings.{with_cell, cell_told}
use Rattle.ch_delivery.specs.Passage as passages
use Rattle.ch_delivery.specs.Passage.{Item}
use Rattle.ch_delivery.specs.Moves.{put, onto}
use Rattle.ch_laws_delivery.specs.Scene.{Name, Use, Scene, link_of}
use Rattle.ch_laws_delivery.specs.Sending.{pair_at, flat, use_at, items_in, items_of}
use Rattle.ch_laws_delivery.specs.FirstSends.{IsGiven, AreGiven}
use Rattle.ch_laws_delivery.specs.UpSends.{SaysUp, sent, frame_of}
use Rattle.ch_laws_delivery.specs.View as views
use Rattle.ch_laws_delivery.specs.Cells.{IsAt, Sends, cell_with}
use Rattle.ch_laws_delivery.specs.Worlds.{Leg, since_of, answer_bytes, answer_places, Comes, Carries, OnLeg, IsOn, IsReadAt, IsWay, IsSceneOf, IsLineOf}
use Rattle.ch_laws_delivery.specs.UpLines.{IsWrittenAt, AreSocketsApart, IsWrittenIn}
use Rattle.ch_laws_delivery.proofs.UpCells.{is_written_at}
use Rattle.ch_laws_delivery.proofs.Worlds.{line_is}

-- ---- names of sockets

pub wrong : {A : Type 0} → false ≡ true → A
wrong h = absurd (clash h) where
  clash : false ≡ true → ⊥
  clash h = cc

same_name : (a b : SockName) → same_socket a b ≡ true → a ≡ b
same_name a b h =
    let parts = and_parts (bytes_eq a.from b.from && bytes_eq a.to b.to) (a.number == b.number) h in
    let texts = and_parts (bytes_eq a.from b.from) (bytes_eq a.to b.to) parts.0 in
    ap (λ (z : List ℕ). record a { from = z }) ((bytes_eq-Decides a.from b.from).0 texts.0)
    ∙ ap (λ (z : List ℕ). record a { from = b.from; to = z }) ((bytes_eq-Decides a.to b.to).0 texts.1)
    ∙ ap (λ (z : ℕ). record b { number = z }) (eqb-true a.number b.number parts.1)

name_self : (a : SockName) → same_socket a a ≡ true
name_self a = ap (λ b. (b && bytes_eq a.to a.to) && (a.number == a.number)) ((bytes_eq-Decides a.from a.from).1 refl) ∙ ap (λ b. b && (a.number == a.number)) ((bytes_eq-Decides a.to a.to).1 refl) ∙ eq-eqb a.number a.number refl

pub other_name : (name : SockName) (socket : WorldSocket) → (socket.name ≡ name → ⊥) → is_socket_named name socket ≡ false
other_name name socket off = by_test (is_socket_named name socket) refl where
  by_test : (b : Bool) → is_socket_named name socket ≡ b → b ≡ false
  by_test false is = refl
  by_test true is = absurd (off (same_name socket.name name is))

-- what is found has the name
pub found_name : (name : SockName) (known : List WorldSocket) (socket : WorldSocket) → find (is_socket_named name) known ≡ Some socket → socket.name ≡ name
found_name name [] socket h = absurd (clash h) where
  clash : ◌≡◌ {A = Option WorldSocket} None (Some socket) → ⊥
  clash e = cc
found_name name (first ∷ rest) socket h = by_test (is_socket_named name first) refl h (λ q. found_name name rest socket q) where
  some_is : (x y : WorldSocket) → Some x ≡ Some y → x ≡ y
  some_is x y q = ap (λ (o : Option WorldSocket). elim o [ Some z ↦ z | None ↦ x ]) q

  by_test : (b : Bool) → is_socket_named name first ≡ b → cond b (Some first) (find (is_socket_named name) rest) ≡ Some socket → (find (is_socket_named name) rest ≡ Some socket → socket.name ≡ name) → socket.name ≡ name
  by_test true is q f = ap (λ (z : WorldSocket). z.name) (sym (some_is first socket q)) ∙ same_name first.name name is
  by_test false is q f = f q

-- ---- a socket that is kept

module _ (socket : WorldSocket) where
  pub stored_found : (known : List WorldSocket) → find (is_socket_named socket.name) (store_in socket known) ≡ Some socket
  stored_found [] = ap (λ b. cond b (Some socket) None) (name_self socket.name)
  stored_found (first ∷ rest) = by_test (is_socket_named socket.name first) refl (stored_found rest) where
    by_test : (b : Bool) → is_socket_named socket.name first ≡ b → find (is_socket_named socket.name) (store_in socket rest) ≡ Some socket → find (is_socket_named socket.name) (if b then socket ∷ rest else first ∷ store_in socket rest) ≡ Some socket
    by_test true is f = ap (λ b. cond b (Some socket) (find (is_socket_named socket.name) rest)) (name_self socket.name)
    by_test false is f = ap (λ b. cond b (Some first) (find (is_socket_named socket.name) (store_in socket rest))) is ∙ f

  pub stored_other : (name : SockName) → is_socket_named name socket ≡ false → (known : List WorldSocket) → find (is_socket_named name) (store_in socket known) ≡ find (is_socket_named name) known
  stored_other name off [] = ap (λ b. cond b (Some socket) None) off
  stored_other name off (first ∷ rest) = by_test (is_socket_named socket.name first) refl (stored_other name off rest) where
    by_test : (b : Bool) → is_socket_named socket.name first ≡ b → find (is_socket_named name) (store_in socket rest) ≡ find (is_socket_named name) rest
        → find (is_socket_named name) (if b then socket ∷ rest else first ∷ store_in socket rest) ≡ cond (is_socket_named name first) (Some first) (find (is_socket_named name) rest)
    by_test true is f = ap (λ b. cond b (Some socket) (find (is_socket_named name) rest)) off
        ∙ sym (ap (λ b. cond b (Some first) (find (is_socket_named name) rest)) (ap (λ (z : SockName). same_socket z name) (same_name first.name socket.name is) ∙ off))
    by_test false is f = ap (cond (is_socket_named name first) (Some first)) f

  pub stored_end : (cell number : ℕ) (before : WorldSocket) → end_at cell number socket ≡ end_at cell number before → (known : List WorldSocket) → find (is_socket_named socket.name) known ≡ Some before → find_end cell number (store_in socket known) ≡ find_end cell number known
  stored_end cell number before same [] h = absurd (clash h) where
    clash : ◌≡◌ {A = Option WorldSocket} None (Some before) → ⊥
    clash e = cc
  stored_end cell number before same (first ∷ rest) h = by_test (is_socket_named socket.name first) refl h (λ q. stored_end cell number before same rest q) where
    some_is : (x y : WorldSocket) → Some x ≡ Some y → x ≡ y
    some_is x y q = ap (λ (o : Option WorldSocket). elim o [ Some z ↦ z | None ↦ x ]) q

    by_test : (b : Bool) → is_socket_named socket.name first ≡ b → cond b (Some first) (find (is_socket_named socket.name) rest) ≡ Some before → (find (is_socket_named socket.name) rest ≡ Some before → find_end cell number (store_in socket rest) ≡ find_end cell number rest)
        → find_end cell number (if b then socket ∷ rest else first ∷ store_in socket rest) ≡ find_end cell number (first ∷ rest)
    by_test true is q f = ap (λ o. elim o as (λ z. Option (SockName × End)) [ Some e ↦ Some (socket.name, e) | None ↦ find_end cell number rest ]) (same ∙ ap (end_at cell number) (sym (some_is first before q)))
        ∙ ap (λ (name : SockName). elim (end_at cell number first) as (λ z. Option (SockName × End)) [ Some e ↦ Some (name, e) | None ↦ find_end cell number rest ]) (sym (same_name first.name socket.name is))
    by_test false is q f = ap (λ (later : Option (SockName × End)). elim (end_at cell number first) as (λ z. Option (SockName × End)) [ Some e ↦ Some (first.name, e) | None ↦ later ]) (f q)

-- ---- an item that comes to an end

module _ (bytes : List ℕ) (said : Option Place) where
  -- the socket with the item at this end
  abbrev pub Changed : End → WorldSocket → WorldSocket
  Changed end socket = with_end end (item_arrives bytes said (end_of end socket)) socket

  pub name_kept : (end : End) (socket : WorldSocket) → (Changed end socket).name ≡ socket.name
  name_kept O socket = refl
  name_kept T socket = refl

  pub end_kept : (end : End) (socket : WorldSocket) → end_of end (Changed end socket) ≡ item_arrives bytes said (end_of end socket)
  end_kept O socket = refl
  end_kept T socket = refl

  is_end_kept : (cell number : ℕ) (end : WorldEnd) → is_end_of cell number (item_arrives bytes said end) ≡ is_end_of cell number end
  is_end_kept cell number end = by_over (is_ended end.stage || end.is_cut) where
    by_over : (b : Bool) → is_end_of cell number (if b then end else record end { unread = end.unread ++ bytes; places = end.places ++ said ∷ [] }) ≡ is_end_of cell number end
    by_over true = refl
    by_over false = refl

  pub at_kept : (cell number : ℕ) (end : End) (socket : WorldSocket) → end_at cell number (Changed end socket) ≡ end_at cell number socket
  at_kept cell number O socket = ap (λ b. if b then Some O else (if is_end_of cell number socket.t then Some T else None)) (is_end_kept cell number socket.o)
  at_kept cell number T socket = ap (λ b. if is_end_of cell number socket.o then Some O else (if b then Some T else None)) (is_end_kept cell number socket.t)

map_more : {X Y : Type 0} (f : X → Y) (xs : List X) (x : X) → map f xs ++ f x ∷ [] ≡ map f (xs ++ x ∷ [])
map_more f [] x = refl
map_more {Y = Y} f (y ∷ rest) x = ap (λ (z : List Y). f y ∷ z) (map_more f rest x)

-- ids that were given, with one frame more
given_more : (uses : List (Option Use)) (known : List (Frame × Weight)) (item : Frame × Weight) → AreGiven uses known → IsGiven uses item.0 → AreGiven uses (known ++ item ∷ [])
given_more uses [] item h g = (g, tt)
given_more uses (first ∷ rest) item h g = (h.0, given_more uses rest item h.1 g)

-- an id that is for something was given
pub used_given : (uses : List (Option Use)) (id : ℕ) (u : Use) → use_at uses id ≡ Some u → id < FIRST_ID + length uses
used_given uses id u h = by_test (nat_lt id FIRST_ID) refl h where
  none : {A : Type 0} → ◌≡◌ {A = Option Use} None (Some u) → A
  none q = absurd (clash q) where
    clash : ◌≡◌ {A = Option Use} None (Some u) → ⊥
    clash e = cc

  within : (a n id : ℕ) → nat_lt id a ≡ false → id - a < n → id < a + n
  within a n id off h = grind (arith, nat_tests)

  by_slot : (o : Option (Option Use)) → slice_get uses (id - FIRST_ID) ≡ o → flat o ≡ Some u → id - FIRST_ID < length uses
  by_slot None is q = none q
  by_slot (Some one) is q = slice_get_within uses (id - FIRST_ID) one is

  by_test : (b : Bool) → nat_lt id FIRST_ID ≡ b → (if b then None else flat (slice_get uses (id - FIRST_ID))) ≡ Some u → id < FIRST_ID + length uses
  by_test true is q = none q
  by_test false is q = within FIRST_ID (length uses) id is (by_slot (slice_get uses (id - FIRST_ID)) refl q)

-- what comes there, with one frame more
pub comes_more : (host : HostState) (uses : List (Option Use)) (end : WorldEnd) (word : List Item) (cut : Bool) (item : Frame × Weight) → IsGiven uses item.0 → Comes host uses end word cut
    → Comes host uses (item_arrives (frame_spelling item.0) (said_of item.1) end) (onto cut word (items_of uses (item ∷ []))) cut
comes_more host uses end word cut item given h = subst (λ (b : Bool). Comes host uses (if b then end else more) (onto cut word (items_of uses (item ∷ []))) cut) (sym h.over) (by_cut cut h) where
  more : WorldEnd
  more = record end { unread = end.unread ++ frame_spelling item.0; places = end.places ++ said_of item.1 ∷ [] }

  by_cut : (cut : Bool) → Comes host uses end word cut → Comes host uses (if cut then end else more) (onto cut word (items_of uses (item ∷ []))) cut
  by_cut true h = h
  by_cut false h = record {
    over = h.over;
    gone = λ q. wrong q;
    answer = h.answer;
    written = h.written ++ item ∷ [];
    given = given_more uses h.written item h.given given;
    bytes = λ q. sym (append_assoc (since_of end.number host) end.unread (frame_spelling item.0)) ∙ ap (λ (z : List ℕ). z ++ frame_spelling item.0) (h.bytes refl)
        ∙ append_assoc (answer_bytes h.answer) (flat_map (λ x. frame_spelling x.0) h.written) (frame_spelling item.0)
        ∙ ap (λ (z : List ℕ). answer_bytes h.answer ++ (flat_map (λ x. frame_spelling x.0) h.written ++ z)) (sym (append-nil (frame_spelling item.0)))
        ∙ ap (λ (z : List ℕ). answer_bytes h.answer ++ z) (sym (flat_map-append (λ x. frame_spelling x.0) h.written (item ∷ [])));
    places = λ q. ap (λ (z : List (Option Place)). z ++ said_of item.1 ∷ []) (h.places refl) ∙ append_assoc (answer_places h.answer) (map (λ x. said_of x.1) h.written) (said_of item.1 ∷ [])
        ∙ ap (λ (z : List (Option Place)). answer_places h.answer ++ z) (map_more (λ x. said_of x.1) h.written item);
    items = λ q. ap (λ (z : List Item). z ++ items_of uses (item ∷ [])) (h.items refl) ∙ sym (flat_map-append (λ x. items_in uses x.0 (said_of x.1)) h.written (item ∷ []));
  }

-- ---- the write

abbrev of_end : (SockName × End → World → List Entry × World) → World → Option (SockName × End) → List Entry × World
of_end f world None = ([], world)
of_end f world (Some at) = f at world

abbrev of_socket : (WorldSocket → World) → World → Option WorldSocket → World
of_socket f world None = world
of_socket f world (Some socket) = f socket

other_twice : (end : End) → other (other end) ≡ end
other_twice O = refl
other_twice T = refl

pub write_now : (world : World) (place sock : ℕ) (cell : Cell) (name : SockName) (toward : End) (bytes : List ℕ) (said : Option Place) (socket : WorldSocket) → find_end place sock world.sockets ≡ Some (name, other toward)
    → find (is_socket_named name) world.sockets ≡ Some socket → (stepped place cell (steps.Write sock bytes said) world).1 ≡ with_socket (Changed bytes said toward socket) world
write_now world place sock cell name toward bytes said socket at found =
    ap (λ (o : Option (SockName × End)). (of_end (λ at now. (entries.Wrote at.0 at.1 bytes ∷ [], with_end_of at.0 (other at.1) (item_arrives bytes said) now)) world o).1) at
    ∙ ap (λ (end : End). with_end_of name end (item_arrives bytes said) world) (other_twice toward)
    ∙ ap (of_socket (λ s. with_socket (Changed bytes said toward s) world) world) found

-- ---- the scene

pub same_number : (i j : ℕ) → nat_eq i j ≡ true → i ≡ j
same_number i j h = grind (arith, nat_tests)

-- the way, where one frame more has come on the leg that the sending node is up on
module _ (world now : World) (from to : ℕ) (legs : ℕ → Option Leg) (scene : Scene) (w : IsWay world from to legs scene) (apart : AreSocketsApart legs) (item : Frame × Weight) (leg : Leg) (is : legs scene.way.on ≡ Some leg)
    (uses : leg.uses ≡ scene.given) (given : IsGiven scene.given item.0) (c : Carries world scene.to.host leg (scene.way.flight scene.way.on) (scene.way.cut scene.way.on))
    (sockets : now.sockets ≡ store_in (Changed (frame_spelling item.0) (said_of item.1) leg.toward c.socket) world.sockets) where
  abbrev After : WorldSocket
  After = Changed (frame_spelling item.0) (said_of item.1) leg.toward c.socket

  after_name : After.name ≡ leg.socket
  after_name = name_kept (frame_spelling item.0) (said_of item.1) leg.toward c.socket ∙ found_name leg.socket world.sockets c.socket c.found

  found_before : find (is_socket_named After.name) world.sockets ≡ Some c.socket
  found_before = ap (λ (name : SockName). find (is_socket_named name) world.sockets) after_name ∙ c.found

  ends_now : (cell number : ℕ) → find_end cell number now.sockets ≡ find_end cell number world.sockets
  ends_now cell number = ap (find_end cell number) sockets ∙ stored_end After cell number c.socket (at_kept (frame_spelling item.0) (said_of item.1) cell number leg.toward c.socket) world.sockets found_before

  -- the leg itself
  carries_now : Carries now scene.to.host leg (onto (scene.way.cut scene.way.on) (scene.way.flight scene.way.on) (items_of scene.given (item ∷ []))) (scene.way.cut scene.way.on)
  carries_now = record {
    socket = After;
    found = ap (find (is_socket_named leg.socket)) sockets ∙ ap (λ (name : SockName). find (is_socket_named name) (store_in After world.sockets)) (sym after_name) ∙ stored_found After world.sockets;
    comes = subst (λ (end : WorldEnd). Comes scene.to.host leg.uses end (onto (scene.way.cut scene.way.on) (scene.way.flight scene.way.on) (items_of scene.given (item ∷ []))) (scene.way.cut scene.way.on))
        (sym (end_kept (frame_spelling item.0) (said_of item.1) leg.toward c.socket))
        (subst (λ (given : List (Option Use)). Comes scene.to.host leg.uses (item_arrives (frame_spelling item.0) (said_of item.1) (end_of leg.toward c.socket)) (onto (scene.way.cut scene.way.on) (scene.way.flight scene.way.on) (items_of given (item ∷ []))) (scene.way.cut scene.way.on)) uses
        (comes_more scene.to.host leg.uses (end_of leg.toward c.socket) (scene.way.flight scene.way.on) (scene.way.cut scene.way.on) item (subst (λ (z : List (Option Use)). IsGiven z item.0) (sym uses) given) c.comes));
  }

  -- every other
  others_now : (i : ℕ) → (i ≡ scene.way.on → ⊥) → (o : Option Leg) → legs i ≡ o → OnLeg world scene.to.host o (scene.way.flight i) (scene.way.cut i) → OnLeg now scene.to.host o (scene.way.flight i) (scene.way.cut i)
  others_now i off None at h = h
  others_now i off (Some l) at h = record {
    socket = h.socket;
    found = ap (find (is_socket_named l.socket)) sockets ∙ stored_other After l.socket (other_name l.socket After (λ e. off (apart i scene.way.on l leg at is (sym e ∙ after_name)))) world.sockets ∙ h.found;
    comes = h.comes;
  }

  abbrev Word : List Item
  Word = onto (scene.way.cut scene.way.on) (scene.way.flight scene.way.on) (items_of scene.given (item ∷ []))

  pub all_now : (i : ℕ) → OnLeg now scene.to.host (legs i) (put scene.way.on Word scene.way.flight i) (scene.way.cut i)
  all_now i = by_test (nat_eq i scene.way.on) refl where
    differ : (i j : ℕ) → nat_eq i j ≡ false → i ≡ j → ⊥
    differ i j h e = grind (arith, nat_tests)

    by_test : (b : Bool) → nat_eq i scene.way.on ≡ b → OnLeg now scene.to.host (legs i) (cond b Word (scene.way.flight i)) (scene.way.cut i)
    by_test true q = subst (λ (j : ℕ). OnLeg now scene.to.host (legs j) Word (scene.way.cut j)) (sym (same_number i scene.way.on q)) (subst (λ (o : Option Leg). OnLeg now scene.to.host o Word (scene.way.cut scene.way.on)) (sym is) carries_now)
    by_test false q = others_now i (differ i scene.way.on q) (legs i) refl (w.carries i)

  pub is_on_now : (place sock : ℕ) (o : Option Leg) (given : List (Option Use)) → IsOn world place sock o given → IsOn now place sock o given
  is_on_now place sock None given h = h
  is_on_now place sock (Some l) given h = (ends_now place sock ∙ h.0, h.1)

  pub is_read_now : (place sock : ℕ) (o : Option Leg) (created : List (Option Use)) → IsReadAt world place sock o created → IsReadAt now place sock o created
  is_read_now place sock None created h = h
  is_read_now place sock (Some l) created h = (ends_now place sock ∙ h.0, h.1)

-- the scene after one frame is written there by the sending node, whose cell is this after it, with the link in the same state
module _ (world : World) (from to : ℕ) (legs : ℕ → Option Leg) (scene : Scene) (s : IsSceneOf world from to legs scene) (apart : AreSocketsApart legs) (node : NodeState) (host : HostState) (cell : Cell)
    (at : IsAt (record (scene.from) { node = node; host = host }) cell) (state : (link_with host scene.from.end scene.from.peer).state ≡ (link_of scene.from).state) (sock : ℕ) (probed : Bool) (up : (link_of scene.from).state ≡ Up sock probed)
    (last : Option Place) (item : Frame × Weight) (given : IsGiven scene.given item.0) (log : List passages.Entry) where
  -- the world with the cell
  abbrev pub Before : World
  Before = record (with_cell from (cell, s.sender.came) world) { last = last }

  abbrev pub Wrote : World
  Wrote = (stepped from cell (frame_step sock item) Before).1

  abbrev pub Later : Scene
  Later = record scene { from = record (scene.from) { node = node; host = host }; way = sent scene.given (item ∷ []) scene.way; log = log }

  by_leg : (leg : Leg) → legs scene.way.on ≡ Some leg → (find_end from sock world.sockets ≡ Some (leg.socket, other leg.toward)) × (leg.uses ≡ scene.given)
      → Carries world scene.to.host leg (scene.way.flight scene.way.on) (scene.way.cut scene.way.on) → IsSceneOf Wrote from to legs Later
  by_leg leg is on carried =
      let written = write_now Before from sock cell leg.socket leg.toward (frame_spelling item.0) (said_of item.1) carried.socket on.0 carried.found in
      let sockets = ap (λ (w : World). w.sockets) written in
      let cells = ap (λ (w : World). w.cells) written in
      record {
        sender = record {
          cell = cell;
          came = s.sender.came;
          there = ap (λ z. slice_get z from) cells ∙ set_here world.cells from (cell, s.sender.came) (slice_get_within world.cells from (s.sender.cell, s.sender.came) s.sender.there);
          at = at;
        };
        receiver = record { cell = s.receiver.cell; came = s.receiver.came; there = ap (λ z. slice_get z to) cells ∙ set_other world.cells from (cell, s.sender.came) to (λ e. s.apart (sym e)) ∙ s.receiver.there; at = s.receiver.at };
        apart = s.apart;
        way = record {
          carries = λ i. all_now world Wrote from to legs scene s.way apart item leg is on.1 given carried sockets i;
          on = λ other_sock other_probed other_up. is_on_now world Wrote from to legs scene s.way apart item leg is on.1 given carried sockets from other_sock (legs scene.way.on) scene.given (s.way.on other_sock other_probed (sym state ∙ other_up));
          at = λ other_sock other_probed other_up. is_read_now world Wrote from to legs scene s.way apart item leg is on.1 given carried sockets to other_sock (legs scene.way.at) scene.created (s.way.at other_sock other_probed other_up);
        };
      }

  by_way : (o : Option Leg) → legs scene.way.on ≡ o → IsOn world from sock o scene.given → OnLeg world scene.to.host o (scene.way.flight scene.way.on) (scene.way.cut scene.way.on) → IsSceneOf Wrote from to legs Later
  by_way None is on carried = absurd on
  by_way (Some leg) is on carried = by_leg leg is on carried

  pub scene_written : IsSceneOf Wrote from to legs Later
  scene_written = by_way (legs scene.way.on) refl (s.way.on sock probed up) (s.way.carries scene.way.on)

-- ---- the line

module _ (names : List Name) (named_apart : views.AreApart names) (world : World) (from to : ℕ) (legs : ℕ → Option Leg) (scene : Scene) (c : ℕ) (name : Name) (conn id sock : ℕ) (probed : Bool) (said : Message) (by : ProcName) (target : TargetName)
    (s : IsSceneOf world from to legs scene) (apart : AreSocketsApart legs) (l : IsLineOf world from scene.from name by target) (h : SaysUp names scene c name conn id sock probed said) (sends : Sends scene name s.sender.cell) where
  abbrev P : Pair
  P = pair_at scene.from.node name

  wrote : IsWrittenAt names scene c name id sock said s.sender.cell
  wrote = is_written_at names named_apart scene c name conn id sock probed said h s.sender.cell sends

  abbrev Then : Cell
  Then = cell_with s.sender.cell scene.from.end (keeping scene.from.node (with_said P)) wrote.host

  pub is_written_in : IsWrittenIn names world from to legs scene c name id sock said by target
  is_written_in = record {
    host = wrote.host;
    cell = Then;
    came = s.sender.came;
    answered = line_is world from scene.from name by target said l s.sender ∙ ap (cell_told from (s.sender.cell, s.sender.came) world) wrote.answered;
    now = scene_written world from to legs scene s apart (keeping scene.from.node (with_said P)) wrote.host Then wrote.at (ap (λ (z : Link). z.state) wrote.link) sock probed h.up (Some (record { epoch = P.epoch; index = P.index })) (frame_of id P said)
        (used_given scene.given id (record { pair = c; epoch = P.epoch }) h.used) (passages.Said c P.epoch P.index ∷ scene.log);
    seen = wrote.seen;
  }
