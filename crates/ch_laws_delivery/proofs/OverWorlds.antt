-- A line by which a process of the sending node is over is the passage's moves: each close waits, or comes behind what is unread.
use Rattle.std.specs.Prelude.{◌≡◌, ℕ, Bool, List, [], ◌∷◌, ◌++◌, slice_get, Option, Some, None, Ok}
use Rattle.std.proofs.Common.{refl, ap, sym, ◌∙◌, subst}
use Rattle.std.proofs.lemmas.Option.{slice_get_within}
use Rattle.ch_light.proofs.Lists.{set_here, set_other}
use Rattle.ch_link.specs.declared.LinkState.{LinkState}
use Rattle.ch_link.specs.declared.LinkState.TheVariants.{Idle, Dialing, AwaitOther, Up}
use Rattle.ch_wire.specs.Spelling.{frame_spelling}
use Rattle.ch_model.specs.declared.act.Act.{Act}
use Rattle.ch_model.specs.declared.act.Act.TheVariants as acts
use Rattle.ch_model.specs.declared.entry.Verdict.TheVariants as verdicts
use Rattle.ch_model.specs.declared.line.What.{What}
use Rattle.ch_model.specs.declared.local.LocalEntry.{LocalEntry}
use Rattle.ch_model.specs.declared.local.LocalEntry.TheVariants as local
use Rattle.ch_model.specs.declared.local.LocalEvent.{LocalEvent}
use Rattle.ch_model.specs.declared.local.LocalEvent.TheVariants as events
use Rattle.ch_model.specs.HostState.{Link, HostState}
use Rattle.ch_model.specs.Host.{first_ready}
use Rattle.ch_model.specs.HostWrites.{said_of, frame_step}
use Rattle.ch_model.specs.HostCalls.{host_close}
use Rattle.ch_model.specs.NodeState.{NodeState}
use Rattle.ch_model.specs.Node.{node_make, node_command, target_node}
use Rattle.ch_model.specs.WorldState.{Cell, World}
use Rattle.ch_model.specs.WorldSockets.{other, find_end}
use Rattle.ch_model.specs.WorldSteps.{all_told, local_told, noted, stepped}
use Rattle.ch_model.specs.WorldHappenings.{with_cell, cell_told}
use Rattle.ch_model.specs.CellSteps as cells
use Rattle.ch_model.specs.CellSteps.{Followed, told_steps, after_entries, acts_on, all_items, store_node}
use Rattle.ch_model.specs.Cell.{answered, room_for, node_did, commanded, cell_step}
use Rattle.ch_laws_delivery.specs.Scene.{Name, Party, Scene, link_of}
use Rattle.ch_laws_delivery.specs.Sends.{IsSettled}
use Rattle.ch_laws_delivery.specs.UpReconnects.{close_frame}
use Rattle.ch_laws_delivery.specs.Endings.{Parting, Parts, parting_steps, parted_as, parted, all_parted, AllPart, AllClosed, EndsWith, ended_in}
use Rattle.ch_laws_delivery.specs.Cells.{IsAt, cell_with}
use Rattle.ch_laws_delivery.specs.Worlds.{Leg, Carries, OnLeg, IsOn, IsWay, IsSceneOf}
use Rattle.ch_laws_delivery.specs.UpLines.{AreSocketsApart}
use Rattle.ch_laws_delivery.specs.QuietLines.{asked_of, IsHeardAt}
use Rattle.ch_laws_delivery.specs.OverLines.{AreFarewells, left_entries, IsLeftBy, left_in, IsOverIn}
use Rattle.ch_laws_delivery.proofs.Farewells.{kept_now, without_now, is_finished}
use Rattle.ch_laws_delivery.proofs.Cells.{at_of, found_stored, ends_at}
use Rattle.ch_laws_delivery.proofs.Worlds.{cell_of_world, append_none, on_leg_still, is_on_still, is_read_still}
use Rattle.ch_laws_delivery.proofs.UpWorlds.{write_now, used_given, all_now, is_on_now, is_read_now}
use Rattle.ch_laws_delivery.proofs.AgainWorlds.{closes_on}

-- ---- the scene

-- but for its host the sending node is as it was, and so is all of the receiving node
record Same (scene later : Scene) : Type 0 where
  pub from : later.from ≡ record (scene.from) { host = later.from.host }
  pub to : later.to ≡ scene.to
  pub sockets : later.from.host.sockets ≡ scene.from.host.sockets

same_as : (names : List Name) (scene : Scene) (p : Parting) (state : LinkState) → Same scene (parted_as state scene p)
same_as names scene p Idle = record { from = refl; to = refl; sockets = refl }
same_as names scene p (Dialing sock) = record { from = refl; to = refl; sockets = refl }
same_as names scene p AwaitOther = record { from = refl; to = refl; sockets = refl }
same_as names scene p (Up sock probed) = record { from = refl; to = refl; sockets = refl }

same_all : (names : List Name) (scene : Scene) (ps : List Parting) → Same scene (all_parted scene ps)
same_all names scene [] = record { from = refl; to = refl; sockets = refl }
same_all names scene (p ∷ rest) =
    let one = same_as names scene p (link_of scene.from).state in
    let more = same_all names (parted scene p) rest in
    record { from = more.from ∙ ap (λ (q : Party). record q { host = (all_parted (parted scene p) rest).from.host }) one.from; to = more.to ∙ one.to; sockets = more.sockets ∙ one.sockets }

-- ---- the cell

all_acts : (names : List Name) (did : List Act) (scene : Scene) (ps : List Parting) (end : ℕ) (host : HostState) (nodes : List (ℕ × NodeState)) → AreFarewells did ps → AllClosed scene ps → host ≡ scene.from.host → scene.from.end ≡ end
    → acts_on end did (record { host = host; nodes = nodes }) ≡ Ok (left_entries scene did ps, record { host = (all_parted scene ps).from.host; nodes = nodes })
all_acts names [] scene [] end host nodes f c same at = ap (λ (h : HostState). Ok ([], record { host = h; nodes = nodes })) same
all_acts names [] scene (p ∷ ps) end host nodes f c same at = absurd f
all_acts names (acts.Note note ∷ more) scene ps end host nodes f c same at = ap (after_entries (local.Note note ∷ [])) (all_acts names more scene ps end host nodes f c same at)
all_acts names (acts.Close conn ∷ more) scene [] end host nodes f c same at = absurd f
all_acts names (acts.Close conn ∷ more) scene (p ∷ ps) end host nodes f c same at =
    closes_on end conn more (record { host = host; nodes = nodes }) (parting_steps (link_of scene.from).state p.id) (parted scene p).from.host
    (ap (λ (h : HostState). host_close h end conn) same ∙ ap (λ (e : ℕ). host_close scene.from.host e conn) (sym at) ∙ ap (host_close scene.from.host scene.from.end) f.0 ∙ c.0)
    ∙ ap (after_entries (told_steps (parting_steps (link_of scene.from).state p.id)))
    (all_acts names more (parted scene p) ps end (parted scene p).from.host nodes f.1 c.1 refl (ap (λ (q : Party). q.end) (same_as names scene p (link_of scene.from).state).from ∙ at))
all_acts names (acts.Open conn peer ∷ more) scene ps end host nodes f c same at = absurd f
all_acts names (acts.Put conn payload weight ∷ more) scene ps end host nodes f c same at = absurd f

-- ---- the way

-- another world with the same sockets
way_still : (world now : World) (from to : ℕ) (legs : ℕ → Option Leg) (scene : Scene) → now.sockets ≡ world.sockets → IsWay world from to legs scene → IsWay now from to legs scene
way_still world now from to legs scene same w = let more = same ∙ append_none world.sockets in record {
  carries = λ i. on_leg_still world now [] more scene.to.host (legs i) (scene.way.flight i) (scene.way.cut i) (w.carries i);
  on = λ sock probed up. is_on_still world now [] more from sock (legs scene.way.on) scene.given (w.on sock probed up);
  at = λ sock probed up. is_read_still world now [] more to sock (legs scene.way.at) scene.created (w.at sock probed up);
}

-- the cells are as they were, and the way is that of the scene
record Left (world now : World) (from to : ℕ) (legs : ℕ → Option Leg) (scene : Scene) : Type 0 where
  pub cells : now.cells ≡ world.cells
  pub way : IsWay now from to legs scene

module _ (names : List Name) (from to : ℕ) (legs : ℕ → Option Leg) (apart : AreSocketsApart legs) (cell : Cell) where
  module _ (world : World) (scene : Scene) (p : Parting) (w : IsWay world from to legs scene) (h : Parts scene p) where
    waits : IsWay world from to legs (parted_as Idle scene p)
    waits = record { carries = w.carries; on = λ sock probed up. w.on sock probed (sym (ap (λ (l : Link). l.state) (kept_now names scene p h)) ∙ up); at = w.at }

    module _ (sock : ℕ) (probed : Bool) (up : (link_of scene.from).state ≡ Up sock probed) where
      abbrev Wrote : World
      Wrote = (stepped from cell (frame_step sock (close_frame p.id)) world).1

      by_leg : (leg : Leg) → legs scene.way.on ≡ Some leg → (find_end from sock world.sockets ≡ Some (leg.socket, other leg.toward)) × (leg.uses ≡ scene.given)
          → Carries world scene.to.host leg (scene.way.flight scene.way.on) (scene.way.cut scene.way.on) → Left world Wrote from to legs (parted_as (Up sock probed) scene p)
      by_leg leg is on carried =
          let written = write_now world from sock cell leg.socket leg.toward (frame_spelling (close_frame p.id).0) (said_of (close_frame p.id).1) carried.socket on.0 carried.found in
          let sockets = ap (λ (z : World). z.sockets) written in
          let given = used_given scene.given p.id (record { pair = p.pair; epoch = p.epoch }) h.used in
          record {
            cells = ap (λ (z : World). z.cells) written;
            way = record {
              carries = λ i. all_now world Wrote from to legs scene w apart (close_frame p.id) leg is on.1 given carried sockets i;
              on = λ s t q. is_on_now world Wrote from to legs scene w apart (close_frame p.id) leg is on.1 given carried sockets from s (legs scene.way.on) scene.given (w.on s t (sym (ap (λ (l : Link). l.state) (without_now names scene p h)) ∙ q));
              at = λ s t q. is_read_now world Wrote from to legs scene w apart (close_frame p.id) leg is on.1 given carried sockets to s (legs scene.way.at) scene.created (w.at s t q);
            };
          }

      by_way : (o : Option Leg) → legs scene.way.on ≡ o → IsOn world from sock o scene.given → OnLeg world scene.to.host o (scene.way.flight scene.way.on) (scene.way.cut scene.way.on) → Left world Wrote from to legs (parted_as (Up sock probed) scene p)
      by_way None is on carried = absurd on
      by_way (Some leg) is on carried = by_leg leg is on carried

    by_state : (state : LinkState) → (link_of scene.from).state ≡ state → Left world (all_told from cell (told_steps (parting_steps state p.id)) world).1 from to legs (parted_as state scene p)
    by_state Idle is = record { cells = refl; way = waits }
    by_state (Dialing sock) is = record { cells = refl; way = waits }
    by_state AwaitOther is = record { cells = refl; way = waits }
    by_state (Up sock probed) is = by_way sock probed is (legs scene.way.on) refl (w.on sock probed is) (w.carries scene.way.on)

  told_more : (xs ys : List LocalEntry) (world : World) → (all_told from cell (xs ++ ys) world).1 ≡ (all_told from cell ys (all_told from cell xs world).1).1
  told_more [] ys world = refl
  told_more (x ∷ xs) ys world = told_more xs ys (local_told from cell x world).1

  all_left : (did : List Act) (world : World) (scene : Scene) (ps : List Parting) → AreFarewells did ps → AllPart scene ps → IsWay world from to legs scene → Left world (all_told from cell (left_entries scene did ps) world).1 from to legs (all_parted scene ps)
  all_left [] world scene [] f h w = record { cells = refl; way = w }
  all_left [] world scene (p ∷ ps) f h w = absurd f
  all_left (acts.Note note ∷ more) world scene ps f h w =
      let rest = all_left more (noted note world).1 scene ps f h (way_still world (noted note world).1 from to legs scene refl w) in
      record { cells = rest.cells; way = rest.way }
  all_left (acts.Close conn ∷ more) world scene [] f h w = absurd f
  all_left (acts.Close conn ∷ more) world scene (p ∷ ps) f h w =
      let steps = told_steps (parting_steps (link_of scene.from).state p.id) in
      let one = by_state world scene p w h.0 (link_of scene.from).state refl in
      let rest = all_left more (all_told from cell steps world).1 (parted scene p) ps f.1 h.1 one.way in
      subst (λ (z : World). Left world z from to legs (all_parted (parted scene p) ps)) (sym (told_more steps (left_entries (parted scene p) more ps) world))
      (record { cells = rest.cells ∙ one.cells; way = rest.way })
  all_left (acts.Open conn peer ∷ more) world scene ps f h w = absurd f
  all_left (acts.Put conn payload weight ∷ more) world scene ps f h w = absurd f

-- ---- the line

module _ (names : List Name) (world : World) (from to : ℕ) (legs : ℕ → Option Leg) (scene : Scene) (what : What) (event : LocalEvent) (did : List Act) (after : NodeState) (number : ℕ) (ps : List Parting) (others : List ℕ)
    (s : IsSceneOf world from to legs scene) (apart : AreSocketsApart legs) (l : IsLeftBy world from scene.from what event did after ps) (h : EndsWith names scene number after ps others) where
  abbrev Start : Scene
  Start = record scene { from = record (scene.from) { node = after } }

  abbrev Later : Scene
  Later = ended_in scene after ps

  abbrev Then : Cell
  Then = cell_with s.sender.cell scene.from.end after Later.from.host

  same : Same Start Later
  same = same_all names Start ps

  settled : IsSettled Later.from.host
  settled = ap first_ready same.sockets ∙ s.sender.at.settled

  carried_out : node_did scene.from.end s.sender.cell (Ok (did, after)) ≡ Ok ((verdicts.Ok, left_entries Start did ps), Then)
  carried_out = ap (λ (r : Followed). answered verdicts.Ok (cells.◌then◌ r all_items))
      (all_acts names did Start ps scene.from.end s.sender.cell.host (store_node scene.from.end after s.sender.cell.nodes) l.farewells (is_finished names scene number after ps others h).host_closes s.sender.at.host refl)
      ∙ ends_at (left_entries Start did ps) Then settled

  steps : (event : LocalEvent) → IsHeardAt scene.from.end event → asked_of scene.from event ≡ Ok (did, after) → cell_step s.sender.cell event ≡ Ok ((verdicts.Ok, left_entries Start did ps), Then)
  steps (events.Make end) at does = ap (λ (e : ℕ). cell_step s.sender.cell (events.Make e)) at
      ∙ ap (at_of s.sender.cell (λ node. node_did scene.from.end s.sender.cell (node_make node))) s.sender.at.node ∙ ap (node_did scene.from.end s.sender.cell) does ∙ carried_out
  steps (events.Command end by command) at does = ap (λ (e : ℕ). cell_step s.sender.cell (events.Command e by command)) at
      ∙ ap (at_of s.sender.cell (commanded scene.from.end by command s.sender.cell)) s.sender.at.node
      ∙ ap (λ (host : HostState). node_did scene.from.end s.sender.cell (node_command scene.from.node by command (room_for host scene.from.end scene.from.node.own (target_node scene.from.node by command)))) s.sender.at.host
      ∙ ap (node_did scene.from.end s.sender.cell) does ∙ carried_out
  steps (events.Shut end) at does = absurd at
  steps (events.Came mark sock host) at does = absurd at
  steps (events.Socket event) at does = absurd at

  abbrev Moved : World
  Moved = with_cell from (Then, s.sender.came) world

  start_way : IsWay Moved from to legs Start
  start_way = let w = way_still world Moved from to legs scene refl s.way in record { carries = w.carries; on = w.on; at = w.at }

  left : Left Moved (left_in world from Then s.sender.came Start did ps).1 from to legs Later
  left = all_left names from to legs apart Then did Moved Start ps l.farewells h.part start_way

  pub is_over_in : IsOverIn names world from to legs scene what did after ps others
  is_over_in = record {
    cell = Then;
    came = s.sender.came;
    answered = l.heard ∙ ap (cell_of_world world (λ c. cell_told from c world (cell_step c.0 event))) s.sender.there ∙ ap (cell_told from (s.sender.cell, s.sender.came) world) (steps event l.end l.does);
    now = record {
      sender = record {
        cell = Then;
        came = s.sender.came;
        there = ap (λ z. slice_get z from) left.cells ∙ set_here world.cells from (Then, s.sender.came) (slice_get_within world.cells from (s.sender.cell, s.sender.came) s.sender.there);
        at = subst (λ (q : Party). IsAt q Then) (sym same.from) (record { host = refl; node = found_stored scene.from.end after s.sender.cell.nodes (scene.from.end, scene.from.node) s.sender.at.node; settled = settled });
      };
      receiver = record {
        cell = s.receiver.cell;
        came = s.receiver.came;
        there = ap (λ z. slice_get z to) left.cells ∙ set_other world.cells from (Then, s.sender.came) to (λ e. s.apart (sym e)) ∙ s.receiver.there;
        at = subst (λ (q : Party). IsAt q s.receiver.cell) (sym same.to) s.receiver.at;
      };
      apart = s.apart;
      way = left.way;
    };
    seen = (is_finished names scene number after ps others h).seen;
  }
