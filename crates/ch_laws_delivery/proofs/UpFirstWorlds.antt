-- A line by which a process sends the first message of an epoch while the link is up is the passage's move: three frames come
-- behind what is unread at the receiving node's end, and the leg has one id more.
use Rattle.std.specs.Prelude.{◌≡◌, ◌<◌, ℕ, ◌+◌, Bool, true, false, cond, nat_eq, List, [], ◌∷◌, ◌++◌, map, length, find, slice_get, Option, Some, None}
use Rattle.std.proofs.Common.{refl, ap, sym, ◌∙◌, subst, arith}
use Rattle.std.proofs.lemmas.Bool.{eq-eqb}
use Rattle.std.proofs.lemmas.Bool.Decides.{nat_tests}
use Rattle.std.proofs.lemmas.List.{append-nil, append_assoc, length-append}
use Rattle.std.proofs.lemmas.Option.{slice_get_within}
use Rattle.ch_ident.specs.declared.message.Message.{Message}
use Rattle.ch_light.proofs.Lists.{set_here, set_other}
use Rattle.ch_light.specs.declared.TheConstants.{FIRST_ID}
use Rattle.ch_wire.specs.Spelling.{frame_spelling}
use Rattle.ch_wire.specs.declared.frame.Frame.{Frame}
use Rattle.ch_wire.specs.declared.frame.Frame.TheVariants as frames
use Rattle.ch_model.specs.declared.local.LocalEntry.TheVariants as local
use Rattle.ch_model.specs.declared.name.End.{End}
use Rattle.ch_model.specs.declared.name.ProcName.{ProcName}
use Rattle.ch_model.specs.declared.name.SockName.{SockName}
use Rattle.ch_model.specs.declared.name.TargetName.{TargetName}
use Rattle.ch_model.specs.declared.step.Weight.{Weight}
use Rattle.ch_model.specs.HostState.{Link, HostState}
use Rattle.ch_model.specs.HostWrites.{said_of, frame_step}
use Rattle.ch_model.specs.NodeState.{Pair}
use Rattle.ch_model.specs.WorldState.{Cell, WorldEnd, WorldSocket, World}
use Rattle.ch_model.specs.WorldSockets.{end_of, other, item_arrives, is_socket_named, store_in, with_socket, find_end}
use Rattle.ch_model.specs.WorldSteps.{all_told}
use Rattle.ch_model.specs.WorldHappenings.{with_cell, cell_told}
use Rattle.ch_delivery.specs.Passage.{Item}
use Rattle.ch_delivery.specs.Moves.{put, onto}
use Rattle.ch_laws_delivery.specs.Scene.{Name, Use, Scene, link_of}
use Rattle.ch_laws_delivery.specs.Sending.{pair_at, items_in, items_of}
use Rattle.ch_laws_delivery.specs.FirstSends.{IsGiven, AreGiven, first_after}
use Rattle.ch_laws_delivery.specs.UpFirstSends.{SaysFirstUp, first_frames, opened_up_in}
use Rattle.ch_laws_delivery.specs.View as views
use Rattle.ch_laws_delivery.specs.Cells.{SendsFirst, cell_with}
use Rattle.ch_laws_delivery.specs.Worlds.{Leg, Comes, Carries, OnLeg, IsOn, IsReadAt, IsSceneOf, IsLineOf}
use Rattle.ch_laws_delivery.specs.UpLines.{AreSocketsApart}
use Rattle.ch_laws_delivery.specs.UpFirstLines.{IsWrittenFirstAt, with_use, used_by, used_on, legs_after, wrote_first_in, IsWrittenFirstIn}
use Rattle.ch_laws_delivery.proofs.SaysFirst.{old_waits}
use Rattle.ch_laws_delivery.proofs.UpFirstCells.{is_written_first_at}
use Rattle.ch_laws_delivery.proofs.Worlds.{line_is}
use Rattle.ch_laws_delivery.proofs.UpWorlds.{found_name, other_name, stored_found, stored_other, stored_end, Changed, name_kept, end_kept, at_kept, comes_more, write_now, same_number}

-- ---- ids

-- what was given is given still
still_given : (uses : List (Option Use)) (u : Option Use) (waits : List (Frame × Weight)) → AreGiven uses waits → AreGiven (uses ++ u ∷ []) waits
still_given uses u [] h = tt
still_given uses u (item ∷ rest) h = (one item.0 h.0, still_given uses u rest h.1) where
  more : (a n m id : ℕ) → m ≡ n + 1 → id < a + n → id < a + m
  more a n m id e h = omega (arith, e, h)

  one : (frame : Frame) → IsGiven uses frame → IsGiven (uses ++ u ∷ []) frame
  one (frames.Data id payload) h = more FIRST_ID (length uses) (length (uses ++ u ∷ [])) id (length-append uses (u ∷ [])) h
  one (frames.Closed id) h = more FIRST_ID (length uses) (length (uses ++ u ∷ [])) id (length-append uses (u ∷ [])) h
  one (frames.Created id) h = tt
  one frames.EndClosed h = tt
  one frames.Probe h = tt
  one frames.ProbeAck h = tt

-- the id that is given next
next_given : (uses : List (Option Use)) (u : Option Use) (n : ℕ) → length uses ≡ n → FIRST_ID + n < FIRST_ID + length (uses ++ u ∷ [])
next_given uses u n h = more FIRST_ID (length uses) n (length (uses ++ u ∷ [])) h (length-append uses (u ∷ [])) where
  more : (a n k m : ℕ) → n ≡ k → m ≡ n + 1 → a + k < a + m
  more a n k m e q = omega (arith, e, q)

-- ---- what comes to an end

-- several frames come
abbrev arrived : List (Frame × Weight) → WorldEnd → WorldEnd
arrived [] end = end
arrived (item ∷ rest) end = arrived rest (item_arrives (frame_spelling item.0) (said_of item.1) end)

onto_none : (cut : Bool) (word : List Item) → onto cut word [] ≡ word
onto_none true word = refl
onto_none false word = append-nil word

onto_twice : (cut : Bool) (word one rest : List Item) → onto cut (onto cut word (one ++ [])) rest ≡ onto cut word (one ++ rest)
onto_twice true word one rest = refl
onto_twice false word one rest = ap (λ (z : List Item). (word ++ z) ++ rest) (append-nil one) ∙ append_assoc word one rest

all_come : (host : HostState) (uses : List (Option Use)) (end : WorldEnd) (word : List Item) (cut : Bool) (items : List (Frame × Weight)) → AreGiven uses items → Comes host uses end word cut
    → Comes host uses (arrived items end) (onto cut word (items_of uses items)) cut
all_come host uses end word cut [] g h = subst (λ (z : List Item). Comes host uses end z cut) (sym (onto_none cut word)) h
all_come host uses end word cut (item ∷ rest) g h =
    let come = item_arrives (frame_spelling item.0) (said_of item.1) end in
    subst (λ (z : List Item). Comes host uses (arrived rest come) z cut) (onto_twice cut word (items_in uses item.0 (said_of item.1)) (items_of uses rest))
    (all_come host uses come (onto cut word (items_of uses (item ∷ []))) cut rest g.1 (comes_more host uses end word cut item g.0 h))

-- the same items, with one id more
comes_used : (host : HostState) (uses : List (Option Use)) (u : Option Use) (end : WorldEnd) (word : List Item) (cut : Bool) → Comes host uses end word cut → Comes host (uses ++ u ∷ []) end word cut
comes_used host uses u end word cut h = record {
  over = h.over;
  gone = h.gone;
  answer = h.answer;
  written = h.written;
  given = still_given uses u h.written h.given;
  bytes = h.bytes;
  places = h.places;
  items = λ q. h.items q ∙ sym (old_waits uses u h.written h.given);
}

-- ---- the writes

-- The frames have come to this end of the socket of this name, and all else of cells and sockets is as it was.
record Came (cells : List (Cell × ℕ)) (known : List WorldSocket) (now : World) (name : SockName) (toward : End) (socket : WorldSocket) (items : List (Frame × Weight)) : Type 0 where
  pub kept : now.cells ≡ cells
  pub after : WorldSocket
  pub found : find (is_socket_named name) now.sockets ≡ Some after
  pub end : end_of toward after ≡ arrived items (end_of toward socket)
  pub ends : (cell number : ℕ) → find_end cell number now.sockets ≡ find_end cell number known
  pub others : (another : SockName) → (name ≡ another → ⊥) → find (is_socket_named another) now.sockets ≡ find (is_socket_named another) known

-- one frame, and then the others
module _ (place sock : ℕ) (cell : Cell) (name : SockName) (toward : End) (item : Frame × Weight) (rest : List (Frame × Weight)) (world : World) (socket : WorldSocket) (found : find (is_socket_named name) world.sockets ≡ Some socket) where
  abbrev One : WorldSocket
  One = Changed (frame_spelling item.0) (said_of item.1) toward socket

  abbrev Rest : World
  Rest = (all_told place cell (map (λ x. local.Step (frame_step sock x)) rest) (with_socket One world)).1

  one_name : One.name ≡ name
  one_name = name_kept (frame_spelling item.0) (said_of item.1) toward socket ∙ found_name name world.sockets socket found

  ends_one : (c n : ℕ) → find_end c n (store_in One world.sockets) ≡ find_end c n world.sockets
  ends_one c n = stored_end One c n socket (at_kept (frame_spelling item.0) (said_of item.1) c n toward socket) world.sockets (ap (λ (z : SockName). find (is_socket_named z) world.sockets) one_name ∙ found)

  found_one : find (is_socket_named name) (store_in One world.sockets) ≡ Some One
  found_one = ap (λ (z : SockName). find (is_socket_named z) (store_in One world.sockets)) (sym one_name) ∙ stored_found One world.sockets

  once : Came world.cells (store_in One world.sockets) Rest name toward One rest → Came world.cells world.sockets Rest name toward socket (item ∷ rest)
  once more = record {
    kept = more.kept;
    after = more.after;
    found = more.found;
    end = more.end ∙ ap (arrived rest) (end_kept (frame_spelling item.0) (said_of item.1) toward socket);
    ends = λ c n. more.ends c n ∙ ends_one c n;
    others = λ another off. more.others another off ∙ stored_other One another (other_name another One (λ e. off (sym one_name ∙ e))) world.sockets;
  }

all_written : (place sock : ℕ) (cell : Cell) (name : SockName) (toward : End) (items : List (Frame × Weight)) (world : World) (socket : WorldSocket) → find_end place sock world.sockets ≡ Some (name, other toward)
    → find (is_socket_named name) world.sockets ≡ Some socket → Came world.cells world.sockets (all_told place cell (map (λ item. local.Step (frame_step sock item)) items) world).1 name toward socket items
all_written place sock cell name toward [] world socket at found = record { kept = refl; after = socket; found = found; end = refl; ends = λ c n. refl; others = λ another off. refl }
all_written place sock cell name toward (item ∷ rest) world socket at found =
    let one = Changed (frame_spelling item.0) (said_of item.1) toward socket in
    subst (λ (w : World). Came world.cells world.sockets (all_told place cell (map (λ x. local.Step (frame_step sock x)) rest) w).1 name toward socket (item ∷ rest))
    (sym (write_now world place sock cell name toward (frame_spelling item.0) (said_of item.1) socket at found))
    (once place sock cell name toward item rest world socket found
    (all_written place sock cell name toward rest (with_socket one world) one (ends_one place sock cell name toward item rest world socket found place sock ∙ at) (found_one place sock cell name toward item rest world socket found)))

-- ---- the scene

some_is : (x y : Leg) → Some x ≡ Some y → x ≡ y
some_is x y q = ap (λ (o : Option Leg). elim o [ Some z ↦ z | None ↦ x ]) q

none_is : {A : Type 0} (x : Leg) → ◌≡◌ {A = Option Leg} None (Some x) → A
none_is x q = absurd (clash q) where
  clash : ◌≡◌ {A = Option Leg} None (Some x) → ⊥
  clash e = cc

-- a leg with an id more was there, with the same socket
record Was (before : Option Leg) (now : Leg) : Type 0 where
  pub leg : Leg
  pub is : before ≡ Some leg
  pub socket : leg.socket ≡ now.socket

was : (b : Bool) (u : Option Use) (o : Option Leg) (now : Leg) → used_by b u o ≡ Some now → Was o now
was true u None now h = none_is now h
was true u (Some leg) now h = record { leg = leg; is = refl; socket = ap (λ (z : Leg). z.socket) (some_is (with_use u leg) now h) }
was false u None now h = none_is now h
was false u (Some leg) now h = record { leg = leg; is = refl; socket = ap (λ (z : Leg). z.socket) (some_is leg now h) }

pub still_apart : (on : ℕ) (u : Option Use) (legs : ℕ → Option Leg) → AreSocketsApart legs → AreSocketsApart (used_on on u legs)
still_apart on u legs apart i j a b p q same =
    let one = was (nat_eq i on) u (legs i) a p in
    let two = was (nat_eq j on) u (legs j) b q in
    apart i j one.leg two.leg one.is two.is (one.socket ∙ same ∙ sym two.socket)

-- the way, where these frames have come on the leg that the sending node is up on, and an id was given
module _ (world now : World) (from to : ℕ) (legs : ℕ → Option Leg) (scene : Scene) (s : IsSceneOf world from to legs scene) (apart : AreSocketsApart legs) (u : Option Use) (items : List (Frame × Weight)) (leg : Leg) (is : legs scene.way.on ≡ Some leg)
    (uses : leg.uses ≡ scene.given) (given : AreGiven (scene.given ++ u ∷ []) items) (c : Carries world scene.to.host leg (scene.way.flight scene.way.on) (scene.way.cut scene.way.on)) (cells : List (Cell × ℕ))
    (came : Came cells world.sockets now leg.socket leg.toward c.socket items) where
  abbrev Word : List Item
  Word = onto (scene.way.cut scene.way.on) (scene.way.flight scene.way.on) (items_of (scene.given ++ u ∷ []) items)

  -- the leg itself
  carries_now : Carries now scene.to.host (with_use u leg) Word (scene.way.cut scene.way.on)
  carries_now = record {
    socket = came.after;
    found = came.found;
    comes = subst (λ (end : WorldEnd). Comes scene.to.host (leg.uses ++ u ∷ []) end Word (scene.way.cut scene.way.on)) (sym came.end)
        (subst (λ (z : List (Option Use)). Comes scene.to.host (leg.uses ++ u ∷ []) (arrived items (end_of leg.toward c.socket)) (onto (scene.way.cut scene.way.on) (scene.way.flight scene.way.on) (items_of (z ++ u ∷ []) items)) (scene.way.cut scene.way.on)) uses
        (all_come scene.to.host (leg.uses ++ u ∷ []) (end_of leg.toward c.socket) (scene.way.flight scene.way.on) (scene.way.cut scene.way.on) items (subst (λ (z : List (Option Use)). AreGiven (z ++ u ∷ []) items) (sym uses) given)
        (comes_used scene.to.host leg.uses u (end_of leg.toward c.socket) (scene.way.flight scene.way.on) (scene.way.cut scene.way.on) c.comes)));
  }

  -- every other
  others_now : (i : ℕ) → (i ≡ scene.way.on → ⊥) → (o : Option Leg) → legs i ≡ o → OnLeg world scene.to.host o (scene.way.flight i) (scene.way.cut i) → OnLeg now scene.to.host o (scene.way.flight i) (scene.way.cut i)
  others_now i off None at h = h
  others_now i off (Some l) at h = record { socket = h.socket; found = came.others l.socket (λ e. off (apart i scene.way.on l leg at is (sym e))) ∙ h.found; comes = h.comes }

  all_now : (i : ℕ) → OnLeg now scene.to.host (used_on scene.way.on u legs i) (put scene.way.on Word scene.way.flight i) (scene.way.cut i)
  all_now i = by_test (nat_eq i scene.way.on) refl where
    differ : (i j : ℕ) → nat_eq i j ≡ false → i ≡ j → ⊥
    differ i j h e = grind (arith, nat_tests)

    by_test : (b : Bool) → nat_eq i scene.way.on ≡ b → OnLeg now scene.to.host (used_by b u (legs i)) (cond b Word (scene.way.flight i)) (scene.way.cut i)
    by_test true q = subst (λ (j : ℕ). OnLeg now scene.to.host (used_by true u (legs j)) Word (scene.way.cut j)) (sym (same_number i scene.way.on q))
        (subst (λ (o : Option Leg). OnLeg now scene.to.host (used_by true u o) Word (scene.way.cut scene.way.on)) (sym is) carries_now)
    by_test false q = others_now i (differ i scene.way.on q) (legs i) refl (s.way.carries i)

  leg_now : used_on scene.way.on u legs scene.way.on ≡ Some (with_use u leg)
  leg_now = ap (λ b. used_by b u (legs scene.way.on)) (eq-eqb scene.way.on scene.way.on refl) ∙ ap (used_by true u) is

  is_on_now : (place sock : ℕ) → IsOn world place sock (legs scene.way.on) scene.given → IsOn now place sock (used_on scene.way.on u legs scene.way.on) (scene.given ++ u ∷ [])
  is_on_now place sock h = subst (λ (o : Option Leg). IsOn now place sock o (scene.given ++ u ∷ [])) (sym leg_now) (of_leg (subst (λ (o : Option Leg). IsOn world place sock o scene.given) is h)) where
    of_leg : IsOn world place sock (Some leg) scene.given → IsOn now place sock (Some (with_use u leg)) (scene.given ++ u ∷ [])
    of_leg q = (came.ends place sock ∙ q.0, ap (λ (z : List (Option Use)). z ++ u ∷ []) q.1)

  is_read_now : (place sock : ℕ) (b : Bool) (o : Option Leg) (created : List (Option Use)) → IsReadAt world place sock o created → IsReadAt now place sock (used_by b u o) created
  is_read_now place sock true None created h = h
  is_read_now place sock false None created h = h
  is_read_now place sock true (Some l) created h =
      (came.ends place sock ∙ h.0, record { later = h.1.later ++ u ∷ []; first = ap (λ (z : List (Option Use)). z ++ u ∷ []) h.1.first ∙ append_assoc created h.1.later (u ∷ []) })
  is_read_now place sock false (Some l) created h = (came.ends place sock ∙ h.0, h.1)

-- ---- the line

module _ (names : List Name) (named_apart : views.AreApart names) (world : World) (from to : ℕ) (legs : ℕ → Option Leg) (scene : Scene) (c : ℕ) (name : Name) (conn sock : ℕ) (probed : Bool) (said : Message) (by : ProcName) (target : TargetName)
    (s : IsSceneOf world from to legs scene) (apart : AreSocketsApart legs) (l : IsLineOf world from scene.from name by target) (h : SaysFirstUp names scene c name conn sock probed said) (sends : SendsFirst scene name s.sender.cell) where
  abbrev P : Pair
  P = pair_at scene.from.node name

  sent : IsWrittenFirstAt names scene c name conn sock said s.sender.cell
  sent = is_written_first_at names named_apart scene c name conn sock probed said h s.sender.cell sends

  abbrev Then : Cell
  Then = cell_with s.sender.cell scene.from.end (first_after scene.from.node P conn) sent.host

  abbrev Now : World
  Now = (wrote_first_in world from Then s.sender.came scene.from P sock said).1

  -- the world with the cell, where the message is the last one said
  abbrev Said : World
  Said = record (with_cell from (Then, s.sender.came) world) { last = Some (record { epoch = P.epoch; index = P.index }) }

  abbrev Later : Scene
  Later = opened_up_in scene c P conn said sent.host

  abbrev Given : Option Use
  Given = Some (record { pair = c; epoch = P.epoch })

  abbrev Frames : List (Frame × Weight)
  Frames = first_frames scene.from.node (link_of scene.from) P said

  frames_given : AreGiven (scene.given ++ Given ∷ []) Frames
  frames_given = let next = next_given scene.given Given (length (link_of scene.from).given) h.level in (tt, (next, (next, tt)))

  by_leg : (leg : Leg) → legs scene.way.on ≡ Some leg → (find_end from sock world.sockets ≡ Some (leg.socket, other leg.toward)) × (leg.uses ≡ scene.given)
      → Carries world scene.to.host leg (scene.way.flight scene.way.on) (scene.way.cut scene.way.on) → IsSceneOf Now from to (legs_after scene c P legs) Later
  by_leg leg is on carried =
      let came = all_written from sock Then leg.socket leg.toward Frames Said carried.socket on.0 carried.found in
      record {
        sender = record {
          cell = Then;
          came = s.sender.came;
          there = ap (λ z. slice_get z from) came.kept ∙ set_here world.cells from (Then, s.sender.came) (slice_get_within world.cells from (s.sender.cell, s.sender.came) s.sender.there);
          at = sent.at;
        };
        receiver = record { cell = s.receiver.cell; came = s.receiver.came; there = ap (λ z. slice_get z to) came.kept ∙ set_other world.cells from (Then, s.sender.came) to (λ e. s.apart (sym e)) ∙ s.receiver.there; at = s.receiver.at };
        apart = s.apart;
        way = record {
          carries = λ i. all_now world Now from to legs scene s apart Given Frames leg is on.1 frames_given carried Said.cells came i;
          on = λ other_sock other_probed up. is_on_now world Now from to legs scene s apart Given Frames leg is on.1 frames_given carried Said.cells came from other_sock
              (s.way.on other_sock other_probed (sym (ap (λ (z : Link). z.state) sent.link) ∙ up));
          at = λ other_sock other_probed up. is_read_now world Now from to legs scene s apart Given Frames leg is on.1 frames_given carried Said.cells came to other_sock (nat_eq scene.way.at scene.way.on) (legs scene.way.at) scene.created
              (s.way.at other_sock other_probed up);
        };
      }

  by_way : (o : Option Leg) → legs scene.way.on ≡ o → IsOn world from sock o scene.given → OnLeg world scene.to.host o (scene.way.flight scene.way.on) (scene.way.cut scene.way.on) → IsSceneOf Now from to (legs_after scene c P legs) Later
  by_way None is on carried = absurd on
  by_way (Some leg) is on carried = by_leg leg is on carried

  pub is_written_first_in : IsWrittenFirstIn names world from to legs scene c name conn sock said by target
  is_written_first_in = record {
    host = sent.host;
    cell = Then;
    came = s.sender.came;
    answered = line_is world from scene.from name by target said l s.sender ∙ ap (cell_told from (s.sender.cell, s.sender.came) world) sent.answered;
    now = by_way (legs scene.way.on) refl (s.way.on sock probed h.up) (s.way.carries scene.way.on);
    apart = still_apart scene.way.on Given legs apart;
    seen = sent.seen;
  }
