-- What a cell makes of a command by which a process sends: its node says the message, its host takes it, and nothing more
-- follows.
use Rattle.std.specs.Prelude.{◌≡◌, ℕ, zero, suc, Bool, true, false, not, cond, ◌&&◌, ◌||◌, ◌==◌, List, [], ◌∷◌, ◌++◌, find, length, nat_lt, nat_le, Option, Some, None, Result, Ok, Err, if◌then◌else◌}
use Rattle.std.specs.Prelude as std
use Rattle.std.proofs.Common.{refl, ap, sym, ◌∙◌, arith}
use Rattle.std.proofs.lemmas.Bool.{eq-eqb}
use Rattle.std.proofs.lemmas.Bool.Decides.{nat_tests}
use Rattle.std.proofs.lemmas.List.{append-nil}
use Rattle.ch_base.specs.AddressValues.{AddressValue}
use Rattle.ch_base.specs.declared.event.Room.{Room}
use Rattle.ch_base.specs.declared.memory.Stop.{Stop}
use Rattle.ch_ident.specs.declared.message.Message.{Message}
use Rattle.ch_static.specs.declared.command.Command.TheVariants.{Send}
use Rattle.ch_static.specs.declared.target.Target.{Target}
use Rattle.ch_static.specs.declared.target.Target.TheVariants as targets
use Rattle.ch_wire.specs.declared.TheConstants.{MOST_PAYLOAD_BYTES}
use Rattle.ch_model.specs.declared.act.Act.{Act}
use Rattle.ch_model.specs.declared.act.Act.TheVariants as acts
use Rattle.ch_model.specs.declared.command.CommandError.{CommandError}
use Rattle.ch_model.specs.declared.command.CommandError.TheVariants.{Unknown, Long, Full, Spent}
use Rattle.ch_model.specs.declared.entry.Verdict.TheVariants as verdicts
use Rattle.ch_model.specs.declared.local.LocalEntry.{LocalEntry}
use Rattle.ch_model.specs.declared.local.LocalEntry.TheVariants as local
use Rattle.ch_model.specs.declared.local.LocalEvent.TheVariants.{Command}
use Rattle.ch_model.specs.declared.note.Note.TheVariants as notes
use Rattle.ch_model.specs.declared.step.EndError.{EndError}
use Rattle.ch_model.specs.declared.step.EndError.TheVariants.{PayloadLong, QueueFull}
use Rattle.ch_model.specs.declared.step.Step.{Step}
use Rattle.ch_model.specs.declared.step.Weight.{Weight}
use Rattle.ch_model.specs.declared.step.Weight.TheVariants.{Free}
use Rattle.ch_model.specs.HostState.{Link, Socket, HostState}
use Rattle.ch_model.specs.HostWrites.{is_up, counted_in}
use Rattle.ch_model.specs.HostCalls.{most_waiting, short_enough, has_room, host_room, host_connect, host_send}
use Rattle.ch_model.specs.Host.{front_of, handles, some_steps, host_next}
use Rattle.ch_model.specs.NodeState as nodes
use Rattle.ch_model.specs.NodeState.{NodeState, Pair}
use Rattle.ch_model.specs.NodeActs as node
use Rattle.ch_model.specs.NodeActs.{Answered, stopping}
use Rattle.ch_model.specs.NodeIds.{process_id, is_here, is_port_here, life_here, target_at}
use Rattle.ch_model.specs.NodePairs.{pair_of, keeping}
use Rattle.ch_model.specs.NodeRoom.{acting, is_known, known, longest, fitting, not_full, is_unopened, is_broken, most_opened, opened_besides, not_spent, room_to_send}
use Rattle.ch_model.specs.NodeSends.{payload_of, with_said, say}
use Rattle.ch_model.specs.NodeCommands.{send_of}
use Rattle.ch_model.specs.Node.{node_command, target_node}
use Rattle.ch_model.specs.WorldState.{Cell}
use Rattle.ch_model.specs.CellSteps as cells
use Rattle.ch_model.specs.CellSteps.{Followed, is_at, store_node, with_node, told_steps, after_entries, asked, acts_on, steps_on, items_on, all_items, kept_bytes}
use Rattle.ch_model.specs.Cell.{Celled, answered, refused, no_room, room_for, node_did, commanded, cell_step}
use Rattle.ch_laws_delivery.specs.Scene.{Name, Party, Scene, link_of}
use Rattle.ch_laws_delivery.specs.Sending.{pair_at}
use Rattle.ch_laws_delivery.specs.Sends.{weight_at, SaysOnOpen, dial_steps, IsSettled, IsSaid, acts_of}
use Rattle.ch_laws_delivery.specs.FirstSends.{opening_of, SaysFirst, first_acts, first_after, IsSaidFirst}
use Rattle.ch_laws_delivery.specs.View.{AreApart}
use Rattle.ch_laws_delivery.specs.Cells.{IsAt, Sends, SendsFirst, cell_with, IsSentAt, IsSentFirstAt}
use Rattle.ch_laws_delivery.proofs.Keys.{pair_named}
use Rattle.ch_laws_delivery.proofs.Says.{is_said}
use Rattle.ch_laws_delivery.proofs.SaysFirst.{is_said_first}

-- ---- the command is accepted

-- what is at another node is known
away_known : (n : NodeState) (to : Target) → is_here n (target_at to) ≡ false → known n to ≡ Ok tt
unfolding known is_known
away_known n (targets.Process p) away = ap (λ b. if not b || std.is_some (life_here n p) then Ok tt else Err Unknown) away
away_known n (targets.Port q) away = ap (λ b. if not b || is_port_here n q then Ok tt else Err Unknown) away
away_known n (targets.Named at name) away = refl

-- a payload that is short enough for the host fits
short_fits : (payload : List ℕ) → short_enough payload ≡ Ok payload → fitting payload ≡ Ok tt
unfolding fitting
short_fits payload short = ap (λ b. if b then Ok tt else Err Long) (turned (nat_lt MOST_PAYLOAD_BYTES (length payload)) refl short) where
  other : (a b : ℕ) → nat_lt a b ≡ false → nat_le b a ≡ true
  other a b h = grind (arith, nat_tests)

  clash : ◌≡◌ {A = Result (List ℕ) EndError} (Err PayloadLong) (Ok payload) → ⊥
  clash e = cc

  turned : (b : Bool) → nat_lt MOST_PAYLOAD_BYTES (length payload) ≡ b → (if b then Err PayloadLong else Ok payload) ≡ Ok payload → nat_le (length payload) longest ≡ true
  turned true is q = absurd (clash q)
  turned false is q = other MOST_PAYLOAD_BYTES (length payload) is

-- a command that meets all that is asked says the message
accepts : (n : NodeState) (by : ℕ) (to : Target) (said : Message) (room : Room) → acting n by ≡ Ok tt → is_here n (target_at to) ≡ false → short_enough (payload_of to said) ≡ Ok (payload_of to said)
    → room_to_send n (pair_of n.pairs by to) room ≡ Ok tt → node_command n by (Send to said) room ≡ stopping (say n (pair_of n.pairs by to) said)
unfolding node_command send_of
accepts n by to said room acts away short roomy =
    ap (λ (r : Result (Unit {0}) CommandError). node.◌>>=◌ r (λ live. node.◌>>=◌ (known n to) (λ there. node.◌>>=◌ (fitting (payload_of to said)) (λ fits. node.◌>>=◌ (room_to_send n (pair_of n.pairs by to) room) (λ more. stopping (say n (pair_of n.pairs by to) said)))))) acts
    ∙ ap (λ (r : Result (Unit {0}) CommandError). node.◌>>=◌ r (λ there. node.◌>>=◌ (fitting (payload_of to said)) (λ fits. node.◌>>=◌ (room_to_send n (pair_of n.pairs by to) room) (λ more. stopping (say n (pair_of n.pairs by to) said))))) (away_known n to away)
    ∙ ap (λ (r : Result (Unit {0}) CommandError). node.◌>>=◌ r (λ fits. node.◌>>=◌ (room_to_send n (pair_of n.pairs by to) room) (λ more. stopping (say n (pair_of n.pairs by to) said)))) (short_fits (payload_of to said) short)
    ∙ ap (λ (r : Result (Unit {0}) CommandError). node.◌>>=◌ r (λ more. stopping (say n (pair_of n.pairs by to) said))) roomy

-- the link that isn't up has room
room_there : (n : NodeState) (pair : Pair) (room : Room) (mark : nodes.Mark) → is_here n (target_at pair.to) ≡ false → pair.mark ≡ mark → is_broken mark ≡ false → (room.up || not (nat_le most_waiting room.waits)) ≡ true
    → not_spent n pair room ≡ Ok tt → room_to_send n pair room ≡ Ok tt
unfolding room_to_send not_full
room_there n pair room mark away is sound free spent =
    ap (λ b. if b || is_broken pair.mark then Ok tt else node.◌>>=◌ (if is_here n (target_at pair.to) || (room.up || not (nat_le most_waiting room.waits)) then Ok tt else Err Full) (λ free. not_spent n pair room)) away
    ∙ ap (λ b. if b then Ok tt else node.◌>>=◌ (if is_here n (target_at pair.to) || (room.up || not (nat_le most_waiting room.waits)) then Ok tt else Err Full) (λ free. not_spent n pair room)) (ap is_broken is ∙ sound)
    ∙ ap (λ b. node.◌>>=◌ (if b || (room.up || not (nat_le most_waiting room.waits)) then Ok tt else Err Full) (λ some. not_spent n pair room)) away
    ∙ ap (λ b. node.◌>>=◌ (if b then Ok tt else Err Full) (λ some. not_spent n pair room)) free
    ∙ spent

-- a payload that is counted has room where fewer wait than the most
has_waits : (link : Link) (pair : Pair) → is_up link.state ≡ false → has_room link (weight_at pair) ≡ Ok link → nat_le most_waiting (counted_in link) ≡ false
has_waits link pair down room = by_waits (nat_le most_waiting (counted_in link)) refl (sym (ap (λ b. if not b && nat_le most_waiting (counted_in link) then Err QueueFull else Ok link) down) ∙ room) where
  clash : ◌≡◌ {A = Result Link EndError} (Err QueueFull) (Ok link) → ⊥
  clash e = cc

  by_waits : (b : Bool) → nat_le most_waiting (counted_in link) ≡ b → (if nat_le most_waiting (counted_in link) then Err QueueFull else Ok link) ≡ Ok link → nat_le most_waiting (counted_in link) ≡ false
  by_waits false is q = is
  by_waits true is q = absurd (clash (sym (ap (λ b. if b then Err QueueFull else Ok link) is) ∙ q))

has_free : (link : Link) → is_up link.state ≡ false → nat_le most_waiting (counted_in link) ≡ false → (is_up link.state || not (nat_le most_waiting (counted_in link))) ≡ true
has_free link down waits = ap (λ b. b || not (nat_le most_waiting (counted_in link))) down ∙ ap not waits

-- ---- the cell

next_of : HostState → Option Socket → Result (Option (List Step) × HostState) Stop
next_of host None = Ok (None, host)
next_of host (Some socket) = some_steps (handles socket (front_of socket) host)

next_none : (host : HostState) → IsSettled host → host_next host ≡ Ok (None, host)
unfolding host_next next_of
next_none host h = ap (next_of host) h

abbrev one_more : (Cell → Followed) → Cell → Result (Option (List Step) × HostState) Stop → Followed
one_more more cell (Err stop) = Err stop
one_more more cell (Ok next) = elim next.0 [
  | None ↦ Ok ([], cell)
  | Some done ↦ cells.◌then◌ (steps_on done (record cell { host = next.1 })) more
]

-- where no whole item is unread nothing follows
settles : (cell : Cell) (fuel : ℕ) → IsSettled cell.host → items_on fuel cell ≡ Ok ([], cell)
settles cell zero h = refl
settles cell (suc fuel) h = ap (one_more (items_on fuel) cell) (next_none cell.host h)

abbrev pub at_of : Cell → (NodeState → Celled) → Option (ℕ × NodeState) → Celled
at_of cell f None = refused verdicts.Nothing cell
at_of cell f (Some known) = f known.1

-- the node that is kept is found
pub found_stored : (end : ℕ) (now : NodeState) (known : List (ℕ × NodeState)) (one : ℕ × NodeState) → find (is_at end) known ≡ Some one → find (is_at end) (store_node end now known) ≡ Some (end, now)
found_stored end now [] one h = absurd (clash h) where
  clash : ◌≡◌ {A = Option (ℕ × NodeState)} None (Some one) → ⊥
  clash e = cc
found_stored end now (first ∷ rest) one h = by_test (is_at end first) refl h (λ q. found_stored end now rest one q) where
  by_test : (b : Bool) → is_at end first ≡ b → cond b (Some first) (find (is_at end) rest) ≡ Some one → (find (is_at end) rest ≡ Some one → find (is_at end) (store_node end now rest) ≡ Some (end, now))
      → find (is_at end) (if b then (end, now) ∷ rest else first ∷ store_node end now rest) ≡ Some (end, now)
  by_test true is q f = ap (λ b. cond b (Some (end, now)) (find (is_at end) rest)) (eq-eqb end end refl)
  by_test false is q f = ap (λ b. cond b (Some first) (find (is_at end) (store_node end now rest))) is ∙ f q

-- an act by which the host takes something
pub puts_on : (end conn : ℕ) (payload : List ℕ) (weight : Weight) (rest : List Act) (cell : Cell) (done : List Step) (host : HostState) → host_send cell.host end conn payload weight ≡ Ok (done, host)
    → acts_on end (acts.Put conn payload weight ∷ rest) cell ≡ after_entries (told_steps done) (acts_on end rest (record cell { host = host }))
puts_on end conn payload weight rest cell done host h = ap (λ (r : Result (List Step × HostState) EndError). cells.◌then◌ (asked cell r) (acts_on end rest)) h

pub opens_on : (end conn : ℕ) (peer : AddressValue) (rest : List Act) (cell : Cell) (done : List Step) (host : HostState) → host_connect cell.host end peer conn ≡ Ok (done, host)
    → acts_on end (acts.Open conn peer ∷ rest) cell ≡ after_entries (told_steps done) (acts_on end rest (record cell { host = host }))
opens_on end conn peer rest cell done host h = ap (λ (r : Result (List Step × HostState) EndError). cells.◌then◌ (asked cell r) (acts_on end rest)) h

-- ---- the command

module _ (party : Party) (cell : Cell) (at : IsAt party cell) (name : Name) (said : Message) (acting_is : acting party.node name.by ≡ Ok tt) (at_peer : target_at name.to ≡ party.peer)
    (away : is_here party.node (target_at name.to) ≡ false) (mark : nodes.Mark) (is : (pair_at party.node name).mark ≡ mark) (sound : is_broken mark ≡ false)
    (free : (is_up (link_of party).state || not (nat_le most_waiting (counted_in (link_of party)))) ≡ true) (short : short_enough (payload_of name.to said) ≡ Ok (payload_of name.to said))
    (spent : not_spent party.node (pair_at party.node name) (host_room party.host party.end party.peer) ≡ Ok tt) where
  abbrev N : NodeState
  N = party.node

  abbrev P : Pair
  P = pair_at N name

  to_is : P.to ≡ name.to
  to_is = (pair_named N.pairs name.by name.to).1

  -- the room of the link with the peer
  room_is : room_for cell.host party.end N.own (target_node N name.by (Send name.to said)) ≡ host_room party.host party.end party.peer
  unfolding target_node
  room_is = ap (λ b. if b then no_room else host_room cell.host party.end (target_at name.to)) away
      ∙ ap (λ (host : HostState). host_room host party.end (target_at name.to)) at.host ∙ ap (λ (peer : AddressValue). host_room party.host party.end peer) at_peer

  roomy : room_to_send N P (host_room party.host party.end party.peer) ≡ Ok tt
  unfolding host_room
  roomy = room_there N P (host_room party.host party.end party.peer) mark (ap (λ (z : Target). is_here N (target_at z)) to_is ∙ away) is sound free spent

  abbrev Does : Result (List Act × NodeState) Stop → Celled
  Does r = node_did party.end cell (stopping r)

  pub commands : cell_step cell (Command party.end name.by (Send name.to said)) ≡ Does (say N P said)
  commands = ap (at_of cell (commanded party.end name.by (Send name.to said) cell)) at.node
      ∙ ap (λ (room : Room). node_did party.end cell (node_command N name.by (Send name.to said) room)) room_is
      ∙ ap (node_did party.end cell) (accepts N name.by name.to said (host_room party.host party.end party.peer) acting_is away short roomy)

-- ---- what follows

pub ends_at : (entries : List LocalEntry) (cell : Cell) → IsSettled cell.host → answered verdicts.Ok (cells.◌then◌ (Ok (entries, cell)) all_items) ≡ Ok ((verdicts.Ok, entries), cell)
ends_at entries cell h = ap (λ (r : Followed). answered verdicts.Ok (after_entries entries r)) (settles cell (kept_bytes cell.host) h) ∙ ap (λ (z : List LocalEntry). Ok ((verdicts.Ok, z), cell)) (append-nil entries)

module _ (names : List Name) (apart : AreApart names) (scene : Scene) (c : ℕ) (name : Name) (conn id : ℕ) (said : Message) (h : SaysOnOpen names scene c name conn id said) (cell : Cell) (s : Sends scene name cell) where
  abbrev Own : Party
  Own = scene.from

  abbrev Q : Pair
  Q = pair_at Own.node name

  abbrev Now : NodeState
  Now = keeping Own.node (with_said Q)

  one : IsSaid names scene c name conn said
  one = is_said names apart scene c name conn id said h

  to_name : Q.to ≡ name.to
  to_name = (pair_named Own.node.pairs name.by name.to).1

  short_name : short_enough (payload_of name.to said) ≡ Ok (payload_of name.to said)
  short_name = ap (λ (z : Target). short_enough (payload_of z said)) (sym to_name) ∙ h.short ∙ ap (λ (z : Target). Ok (payload_of z said)) to_name

  not_fresh : not_spent Own.node Q (host_room Own.host Own.end Own.peer) ≡ Ok tt
  unfolding not_spent
  not_fresh = ap (λ (m : nodes.Mark). if is_unopened m && nat_le most_opened (opened_besides Own.node (target_at Q.to) (host_room Own.host Own.end Own.peer)) then Err Spent else Ok tt) h.opened

  abbrev Entry : LocalEntry
  Entry = local.Note (notes.Said (process_id Own.node Q.by) Q.to Q.epoch Q.index said)

  abbrev Dials : List LocalEntry
  Dials = told_steps (dial_steps (link_of Own).state (link_of Own) Own.host)

  carried_out : acts_on Own.end (acts_of Own.node Q conn said) (with_node Own.end Now cell) ≡ Ok (Entry ∷ Dials, cell_with cell Own.end Now one.host)
  carried_out = ap (after_entries (Entry ∷ []))
      (puts_on Own.end conn (payload_of Q.to said) (weight_at Q) [] (with_node Own.end Now cell) (dial_steps (link_of Own).state (link_of Own) Own.host) one.host
      (ap (λ (host : HostState). host_send host Own.end conn (payload_of Q.to said) (weight_at Q)) s.at.host ∙ one.host_takes))
      ∙ ap (λ (z : List LocalEntry). Ok (Entry ∷ z, cell_with cell Own.end Now one.host)) (append-nil Dials)

  pub is_sent_at : IsSentAt names scene c name said cell
  is_sent_at = record {
    host = one.host;
    answered = commands Own cell s.at name said s.acts s.at_peer h.away (nodes.Opened conn) h.opened refl (has_free (link_of Own) h.down (has_waits (link_of Own) Q h.down h.room)) short_name not_fresh
        ∙ ap (λ (r : Result (List Act × NodeState) Stop). node_did Own.end cell (stopping r)) one.node_says
        ∙ ap (λ (r : Followed). answered verdicts.Ok (cells.◌then◌ r all_items)) carried_out
        ∙ ends_at (Entry ∷ Dials) (cell_with cell Own.end Now one.host) (one.settled s.at.settled);
    at = record { host = refl; node = found_stored Own.end Now cell.nodes (Own.end, Own.node) s.at.node; settled = one.settled s.at.settled };
    down = one.down;
    seen = one.seen;
  }

-- ---- the first message of an epoch

module _ (names : List Name) (apart : AreApart names) (scene : Scene) (c : ℕ) (name : Name) (conn : ℕ) (said : Message) (h : SaysFirst names scene c name conn said) (cell : Cell) (s : SendsFirst scene name cell) where
  abbrev First : Party
  First = scene.from

  abbrev F : Pair
  F = pair_at First.node name

  abbrev Opens : NodeState
  Opens = first_after First.node F conn

  begun : IsSaidFirst names scene c name conn said
  begun = is_said_first names apart scene c name conn said h

  first_to : F.to ≡ name.to
  first_to = (pair_named First.node.pairs name.by name.to).1

  first_short : short_enough (payload_of name.to said) ≡ Ok (payload_of name.to said)
  first_short = ap (λ (z : Target). short_enough (payload_of z said)) (sym first_to) ∙ h.short ∙ ap (λ (z : Target). Ok (payload_of z said)) first_to

  abbrev FirstEntry : LocalEntry
  FirstEntry = local.Note (notes.Said (process_id First.node F.by) F.to F.epoch F.index said)

  abbrev FirstDials : List LocalEntry
  FirstDials = told_steps (dial_steps (link_of First).state (link_of First) First.host)

  abbrev Begun : Cell
  Begun = with_node First.end Opens cell

  first_out : acts_on First.end (first_acts First.node F conn said) Begun ≡ Ok (FirstEntry ∷ FirstDials, cell_with cell First.end Opens begun.host)
  first_out = ap (after_entries (FirstEntry ∷ []))
      (opens_on First.end conn (target_at F.to) (acts.Put conn (opening_of First.node F) Free ∷ acts.Put conn (payload_of F.to said) (weight_at F) ∷ []) Begun (dial_steps (link_of First).state (link_of First) First.host) begun.connected
      (ap (λ (host : HostState). host_connect host First.end (target_at F.to) conn) s.at.host ∙ begun.host_connects)
      ∙ ap (after_entries FirstDials)
      (puts_on First.end conn (opening_of First.node F) Free (acts.Put conn (payload_of F.to said) (weight_at F) ∷ []) (record Begun { host = begun.connected }) [] begun.told begun.host_tells
      ∙ ap (after_entries []) (puts_on First.end conn (payload_of F.to said) (weight_at F) [] (record Begun { host = begun.told }) [] begun.host begun.host_takes)))
      ∙ ap (λ (z : List LocalEntry). Ok (FirstEntry ∷ z, cell_with cell First.end Opens begun.host)) (append-nil FirstDials)

  pub is_sent_first_at : IsSentFirstAt names scene c name conn said cell
  is_sent_first_at = record {
    host = begun.host;
    answered = commands First cell s.at name said s.acts s.at_peer h.away nodes.Unopened h.fresh refl (has_free (link_of First) h.down h.room) first_short s.unspent
        ∙ ap (λ (r : Result (List Act × NodeState) Stop). node_did First.end cell (stopping r)) begun.node_says
        ∙ ap (λ (r : Followed). answered verdicts.Ok (cells.◌then◌ r all_items)) first_out
        ∙ ends_at (FirstEntry ∷ FirstDials) (cell_with cell First.end Opens begun.host) (begun.settled s.at.settled);
    at = record { host = refl; node = found_stored First.end Opens cell.nodes (First.end, First.node) s.at.node; settled = begun.settled s.at.settled };
    down = begun.down;
    seen = begun.seen;
  }
