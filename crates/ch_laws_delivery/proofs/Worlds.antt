-- A line by which a process sends to another node, while the link isn't up, is the passage's move; and the way between is as
-- it was.
use Rattle.std.specs.Prelude.{◌≡◌, ℕ, Bool, true, false, cond, List, [], ◌∷◌, ◌++◌, find, slice_get, slice_set, Option, Some, None, if◌then◌else◌}
use Rattle.std.proofs.Common.{refl, ap, sym, ◌∙◌, subst}
use Rattle.std.proofs.lemmas.Option.{slice_get_within}
use Rattle.ch_ident.specs.declared.message.Message.{Message}
use Rattle.ch_light.proofs.Lists.{set_here, set_other}
use Rattle.ch_link.specs.declared.LinkState.{LinkState}
use Rattle.ch_link.specs.declared.LinkState.TheVariants.{Idle, Dialing, AwaitOther, Up}
use Rattle.ch_static.specs.declared.command.Command.TheVariants.{Send}
use Rattle.ch_static.specs.declared.target.Target.{Target}
use Rattle.ch_model.specs.declared.line.What.TheVariants as lines
use Rattle.ch_model.specs.declared.local.LocalEvent.TheVariants.{Command}
use Rattle.ch_model.specs.declared.name.End.{End}
use Rattle.ch_model.specs.declared.name.ProcName.{ProcName}
use Rattle.ch_model.specs.declared.name.SockName.{SockName}
use Rattle.ch_model.specs.declared.name.TargetName.{TargetName}
use Rattle.ch_model.specs.Stages.{Pending}
use Rattle.ch_model.specs.HostState.{HostState}
use Rattle.ch_model.specs.HostSteps.{own_address}
use Rattle.ch_model.specs.HostWrites.{is_up}
use Rattle.ch_model.specs.HostLinks.{next_dial}
use Rattle.ch_model.specs.NodeState.{NodeState, Pair}
use Rattle.ch_model.specs.NodePairs.{keeping}
use Rattle.ch_model.specs.NodeSends.{with_said}
use Rattle.ch_model.specs.Naming.{called, address_as, target_as}
use Rattle.ch_model.specs.WorldState.{Cell, WorldSocket, World}
use Rattle.ch_model.specs.WorldSockets.{end_of_nobody, other, is_socket_named, store_in, end_at, find_end, new_socket}
use Rattle.ch_model.specs.WorldSteps.{all_told}
use Rattle.ch_model.specs.WorldHappenings.{Answered, nothing, with_cell, cell_told, cell_hears}
use Rattle.ch_model.specs.WorldLines.{line_done}
use Rattle.ch_model.specs.CellSteps.{told_steps}
use Rattle.ch_model.specs.Cell.{cell_step}
use Rattle.ch_delivery.specs.Passage.{Item}
use Rattle.ch_laws_delivery.specs.Scene.{Name, Use, Party, Scene, link_of}
use Rattle.ch_laws_delivery.specs.Sending.{pair_at}
use Rattle.ch_laws_delivery.specs.Sends.{SaysOnOpen, dial_steps, said_in}
use Rattle.ch_laws_delivery.specs.FirstSends.{SaysFirst, first_after, first_in}
use Rattle.ch_laws_delivery.specs.View.{AreApart}
use Rattle.ch_laws_delivery.specs.Cells.{IsAt, Sends, SendsFirst, cell_with, IsSentAt, IsSentFirstAt}
use Rattle.ch_laws_delivery.specs.Worlds.{Stands, Leg, OnLeg, IsOn, IsReadAt, IsSceneOf, NamesAreNew, IsLineOf, told_in, IsSentIn, IsSentFirstIn}
use Rattle.ch_laws_delivery.proofs.Cells.{is_sent_at, is_sent_first_at}

-- ---- a socket more

none_some : {X A : Type 0} (x : X) → Some x ≡ None → A
none_some {X = X} x h = absurd (clash h) where
  clash : ◌≡◌ {A = Option X} (Some x) None → ⊥
  clash h = cc

some_none : {X A : Type 0} (x : X) → ◌≡◌ {A = Option X} None (Some x) → A
some_none {X = X} x h = absurd (clash h) where
  clash : ◌≡◌ {A = Option X} None (Some x) → ⊥
  clash h = cc

found_more : {X : Type 0} (p : X → Bool) (xs ys : List X) (x : X) → find p xs ≡ Some x → find p (xs ++ ys) ≡ Some x
found_more p [] ys x h = some_none x h
found_more p (y ∷ rest) ys x h = by_test (p y) h (found_more p rest ys x) where
  by_test : (b : Bool) → cond b (Some y) (find p rest) ≡ Some x → (find p rest ≡ Some x → find p (rest ++ ys) ≡ Some x) → cond b (Some y) (find p (rest ++ ys)) ≡ Some x
  by_test true q f = q
  by_test false q f = f q

end_of_one : ℕ → ℕ → WorldSocket → Option End → Option (SockName × End) → Option (SockName × End)
end_of_one cell number socket (Some end) later = Some (socket.name, end)
end_of_one cell number socket None later = later

end_more : (cell number : ℕ) (xs ys : List WorldSocket) (x : SockName × End) → find_end cell number xs ≡ Some x → find_end cell number (xs ++ ys) ≡ Some x
end_more cell number [] ys x h = some_none x h
end_more cell number (socket ∷ rest) ys x h = by_end (end_at cell number socket) refl h (end_more cell number rest ys x) where
  by_end : (o : Option End) → end_at cell number socket ≡ o → find_end cell number (socket ∷ rest) ≡ Some x → (find_end cell number rest ≡ Some x → find_end cell number (rest ++ ys) ≡ Some x) → find_end cell number ((socket ∷ rest) ++ ys) ≡ Some x
  by_end (Some end) is q f = ap (λ o. elim o as (λ z. Option (SockName × End)) [ Some e ↦ Some (socket.name, e) | None ↦ find_end cell number (rest ++ ys) ]) is
      ∙ sym (ap (λ o. elim o as (λ z. Option (SockName × End)) [ Some e ↦ Some (socket.name, e) | None ↦ find_end cell number rest ]) is) ∙ q
  by_end None is q f = ap (λ o. elim o as (λ z. Option (SockName × End)) [ Some e ↦ Some (socket.name, e) | None ↦ find_end cell number (rest ++ ys) ]) is
      ∙ f (sym (ap (λ o. elim o as (λ z. Option (SockName × End)) [ Some e ↦ Some (socket.name, e) | None ↦ find_end cell number rest ]) is) ∙ q)

-- a socket of a new name comes last
stored_last : (socket : WorldSocket) (known : List WorldSocket) → find (is_socket_named socket.name) known ≡ None → store_in socket known ≡ known ++ socket ∷ []
stored_last socket [] h = refl
stored_last socket (first ∷ rest) h = by_test (is_socket_named socket.name first) h (stored_last socket rest) where
  by_test : (b : Bool) → cond b (Some first) (find (is_socket_named socket.name) rest) ≡ None → (find (is_socket_named socket.name) rest ≡ None → store_in socket rest ≡ rest ++ socket ∷ []) → (if b then socket ∷ rest else first ∷ store_in socket rest) ≡ first ∷ rest ++ socket ∷ []
  by_test true q f = none_some first q
  by_test false q f = ap (λ (z : List WorldSocket). first ∷ z) (f q)

-- ---- the scene stays

-- the way, where a world has some sockets more
module _ (world now : World) (more : List WorldSocket) (sockets : now.sockets ≡ world.sockets ++ more) where
  pub found_now : (name : SockName) (socket : WorldSocket) → find (is_socket_named name) world.sockets ≡ Some socket → find (is_socket_named name) now.sockets ≡ Some socket
  found_now name socket h = ap (find (is_socket_named name)) sockets ∙ found_more (is_socket_named name) world.sockets more socket h

  pub end_now : (cell number : ℕ) (x : SockName × End) → find_end cell number world.sockets ≡ Some x → find_end cell number now.sockets ≡ Some x
  end_now cell number x h = ap (find_end cell number) sockets ∙ end_more cell number world.sockets more x h

  pub on_leg_still : (host : HostState) (o : Option Leg) (word : List Item) (cut : Bool) → OnLeg world host o word cut → OnLeg now host o word cut
  on_leg_still host None word cut h = h
  on_leg_still host (Some leg) word cut h = record { socket = h.socket; found = found_now leg.socket h.socket h.found; comes = h.comes }

  pub is_on_still : (place sock : ℕ) (o : Option Leg) (given : List (Option Use)) → IsOn world place sock o given → IsOn now place sock o given
  is_on_still place sock None given h = h
  is_on_still place sock (Some leg) given h = (end_now place sock (leg.socket, other leg.toward) h.0, h.1)

  pub is_read_still : (place sock : ℕ) (o : Option Leg) (created : List (Option Use)) → IsReadAt world place sock o created → IsReadAt now place sock o created
  is_read_still place sock None created h = h
  is_read_still place sock (Some leg) created h = (end_now place sock (leg.socket, leg.toward) h.0, h.1)

-- the scene after a message that waits, in a world that has the sender's cell and perhaps some sockets more
module _ (world now : World) (from to : ℕ) (legs : ℕ → Option Leg) (scene : Scene) (s : IsSceneOf world from to legs scene) (node : NodeState) (host : HostState) (cell : Cell)
    (cells : now.cells ≡ slice_set world.cells from (cell, s.sender.came)) (more : List WorldSocket) (sockets : now.sockets ≡ world.sockets ++ more) (at : IsAt (record (scene.from) { node = node; host = host }) cell)
    (down : is_up (link_of (record (scene.from) { node = node; host = host })).state ≡ false) where
  never_up : {A : Type 0} (state : LinkState) (sock : ℕ) (probed : Bool) → is_up state ≡ false → state ≡ Up sock probed → A
  never_up state sock probed off is = absurd (clash (sym off ∙ ap is_up is)) where
    clash : false ≡ true → ⊥
    clash e = cc

  pub scene_still : (later : Scene) → later.from ≡ record (scene.from) { node = node; host = host } → later.to ≡ scene.to → later.way ≡ scene.way → later.created ≡ scene.created → IsSceneOf now from to legs later
  scene_still later f t w c = record {
    sender = record { cell = cell; came = s.sender.came; there = ap (λ z. slice_get z from) cells ∙ set_here world.cells from (cell, s.sender.came) (slice_get_within world.cells from (s.sender.cell, s.sender.came) s.sender.there); at = subst (λ (p : Party). IsAt p cell) (sym f) at };
    receiver = record {
      cell = s.receiver.cell;
      came = s.receiver.came;
      there = ap (λ z. slice_get z to) cells ∙ set_other world.cells from (cell, s.sender.came) to (λ e. s.apart (sym e)) ∙ s.receiver.there;
      at = subst (λ (p : Party). IsAt p s.receiver.cell) (sym t) s.receiver.at;
    };
    apart = s.apart;
    way = record {
      carries = λ i. subst (λ (p : Party). OnLeg now p.host (legs i) (later.way.flight i) (later.way.cut i)) (sym t)
          (subst (λ z. OnLeg now scene.to.host (legs i) (z.flight i) (z.cut i)) (sym w) (on_leg_still world now more sockets scene.to.host (legs i) (scene.way.flight i) (scene.way.cut i) (s.way.carries i)));
      on = λ sock probed up. never_up (link_of (record (scene.from) { node = node; host = host })).state sock probed down (sym (ap (λ (p : Party). (link_of p).state) f) ∙ up);
      at = λ sock probed up. subst (λ z. IsReadAt now to sock (legs z.at) later.created) (sym w)
          (subst (λ z. IsReadAt now to sock (legs scene.way.at) z) (sym c)
          (is_read_still world now more sockets to sock (legs scene.way.at) scene.created (s.way.at sock probed (sym (ap (λ (p : Party). (link_of p).state) t) ∙ up))));
    };
  }

-- ---- what follows in the world

-- a message that is said, and perhaps a dial, leave the cells as they were, and the sockets but for one that comes last
pub record More (world now : World) : Type 0 where
  pub cells : now.cells ≡ world.cells
  pub sockets : List WorldSocket
  pub last : now.sockets ≡ world.sockets ++ sockets

pub append_none : {X : Type 0} (xs : List X) → xs ≡ xs ++ []
append_none [] = refl
append_none (x ∷ xs) = ap (λ z. x ∷ z) (append_none xs)

-- what a world has of the names, and of its sockets' names, is there still after a cell changed
told_more : (world : World) (place : ℕ) (cell : Cell) (came : ℕ) (party : Party) (pair : Pair) (said : Message) → NamesAreNew world
    → More (with_cell place (cell, came) world) (told_in world place cell came party pair said).1
told_more world place cell came party pair said new = by_state (link_of party).state where
  dials : WorldSocket
  dials = new_socket (record (with_cell place (cell, came) world) { last = Some (record { epoch = pair.epoch; index = pair.index }) }) (called world.names (own_address cell.host (link_of party).end)) (called world.names (link_of party).peer) cell.host.host
      (end_of_nobody (Some place) (Some (next_dial party.host)) Pending) (link_of party).peer

  by_state : (state : LinkState) → More (with_cell place (cell, came) world)
      (all_told place cell (told_steps (dial_steps state (link_of party) party.host)) (record (with_cell place (cell, came) world) { last = Some (record { epoch = pair.epoch; index = pair.index }) })).1
  by_state Idle = record { cells = refl; sockets = dials ∷ []; last = stored_last dials world.sockets (new (called world.names (own_address cell.host (link_of party).end)) (called world.names (link_of party).peer)) }
  by_state (Dialing sock) = record { cells = refl; sockets = []; last = append_none world.sockets }
  by_state AwaitOther = record { cells = refl; sockets = []; last = append_none world.sockets }
  by_state (Up sock probed) = record { cells = refl; sockets = []; last = append_none world.sockets }

-- ---- the line

abbrev pub hears_of : World → (ℕ → Answered) → Option ℕ → Answered
hears_of world f None = nothing world
hears_of world f (Some place) = f place

abbrev pub cell_of_world : World → (Cell × ℕ → Answered) → Option (Cell × ℕ) → Answered
cell_of_world world f None = nothing world
cell_of_world world f (Some cell) = f cell

module _ (world : World) (place : ℕ) (party : Party) (name : Name) (by : ProcName) (target : TargetName) (said : Message) (l : IsLineOf world place party name by target) (stands : Stands world place party) where
  pub line_is : line_done (lines.Send by target said.mark said.body) world ≡ cell_told place (stands.cell, stands.came) world (cell_step stands.cell (Command party.end name.by (Send name.to said)))
  line_is = ap (hears_of world (λ p. cell_hears p (Command (address_as world.names by.node).id by.counter (Send (target_as world.names target) said)) world)) l.home
      ∙ ap (cell_of_world world (λ c. cell_told place c world (cell_step c.0 (Command (address_as world.names by.node).id by.counter (Send (target_as world.names target) said))))) stands.there
      ∙ ap (λ (end : ℕ). cell_told place (stands.cell, stands.came) world (cell_step stands.cell (Command end by.counter (Send (target_as world.names target) said)))) l.end
      ∙ ap (λ (number : ℕ). cell_told place (stands.cell, stands.came) world (cell_step stands.cell (Command party.end number (Send (target_as world.names target) said)))) l.process
      ∙ ap (λ (to : Target). cell_told place (stands.cell, stands.came) world (cell_step stands.cell (Command party.end name.by (Send to said)))) l.target

module _ (names : List Name) (apart : AreApart names) (world : World) (from to : ℕ) (legs : ℕ → Option Leg) (scene : Scene) (c : ℕ) (name : Name) (conn id : ℕ) (said : Message) (by : ProcName) (target : TargetName)
    (s : IsSceneOf world from to legs scene) (new : NamesAreNew world) (l : IsLineOf world from scene.from name by target) (h : SaysOnOpen names scene c name conn id said) (sends : Sends scene name s.sender.cell) where
  abbrev P : Pair
  P = pair_at scene.from.node name

  sent : IsSentAt names scene c name said s.sender.cell
  sent = is_sent_at names apart scene c name conn id said h s.sender.cell sends

  abbrev Now : NodeState
  Now = keeping scene.from.node (with_said P)

  abbrev Then : Cell
  Then = cell_with s.sender.cell scene.from.end Now sent.host

  more : More (with_cell from (Then, s.sender.came) world) (told_in world from Then s.sender.came scene.from P said).1
  more = told_more world from Then s.sender.came scene.from P said new

  pub is_sent_in : IsSentIn names world from to legs scene c name said by target
  is_sent_in = record {
    host = sent.host;
    cell = Then;
    came = s.sender.came;
    answered = line_is world from scene.from name by target said l s.sender ∙ ap (cell_told from (s.sender.cell, s.sender.came) world) sent.answered;
    now = scene_still world (told_in world from Then s.sender.came scene.from P said).1 from to legs scene s Now sent.host Then more.cells more.sockets more.last sent.at sent.down (said_in scene c P sent.host) refl refl refl refl;
    seen = sent.seen;
  }

module _ (names : List Name) (apart : AreApart names) (world : World) (from to : ℕ) (legs : ℕ → Option Leg) (scene : Scene) (c : ℕ) (name : Name) (conn : ℕ) (said : Message) (by : ProcName) (target : TargetName)
    (s : IsSceneOf world from to legs scene) (new : NamesAreNew world) (l : IsLineOf world from scene.from name by target) (h : SaysFirst names scene c name conn said) (sends : SendsFirst scene name s.sender.cell) where
  abbrev First : Pair
  First = pair_at scene.from.node name

  begun : IsSentFirstAt names scene c name conn said s.sender.cell
  begun = is_sent_first_at names apart scene c name conn said h s.sender.cell sends

  abbrev Begun : NodeState
  Begun = first_after scene.from.node First conn

  abbrev Became : Cell
  Became = cell_with s.sender.cell scene.from.end Begun begun.host

  one_more : More (with_cell from (Became, s.sender.came) world) (told_in world from Became s.sender.came scene.from First said).1
  one_more = told_more world from Became s.sender.came scene.from First said new

  pub is_sent_first_in : IsSentFirstIn names world from to legs scene c name conn said by target
  is_sent_first_in = record {
    host = begun.host;
    cell = Became;
    came = s.sender.came;
    answered = line_is world from scene.from name by target said l s.sender ∙ ap (cell_told from (s.sender.cell, s.sender.came) world) begun.answered;
    now = scene_still world (told_in world from Became s.sender.came scene.from First said).1 from to legs scene s Begun begun.host Became one_more.cells one_more.sockets one_more.last begun.at begun.down
        (first_in scene c First conn begun.host) refl refl refl refl;
    seen = begun.seen;
  }
