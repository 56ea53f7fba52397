-- What the lines of a journal of many nodes ask, and what is known of the process that asks.
use Rattle.std.proofs.Common.{◌≡◌, ◌≤◌, ◌<◌, ℕ, zero, suc, ◌+◌, Bool, true, false, cond, ◌&&◌, List, [], ◌∷◌, ◌++◌, length, Ok, Err, refl, ap, ◌∙◌, subst, arith}
use Rattle.std.proofs.lemmas.Bool.{and_parts}
use Rattle.std.proofs.lemmas.Bool.Decides.{nat_tests}
use Rattle.std.proofs.lemmas.List.{length-append}
use Rattle.std.specs.Option.{option_map, option_map_or}
use Rattle.std.specs.Prelude.{Result, find, nat_le, not, slice_get, Option, Some, None, ◌==◌}
use Rattle.ch_base.specs.Addresses.{IsAddress, address_text}
use Rattle.ch_base.specs.declared.event.Room.{Room}
use Rattle.ch_ident.specs.declared.identifier.Identifier.TheVariants as identifiers
use Rattle.ch_ident.specs.declared.identifier.ProcessId.{ProcessId}
use Rattle.ch_ident.specs.declared.message.Message.{Message}
use Rattle.ch_ident.specs.declared.node_message.NodeMessage.TheVariants.{Opening}
use Rattle.ch_ident.specs.Spelling.{number, address, process, identifier, message, user}
use Rattle.ch_mail.specs.declared.life.Life.{Life}
use Rattle.ch_mail.specs.declared.life.Life.TheVariants as lives
use Rattle.ch_mail.specs.Process.{Process}
use Rattle.ch_mail.specs.Lives.{is_over}
use Rattle.ch_mail.specs.Mail.{life_of}
use Rattle.ch_static.specs.declared.command.Command.{Command}
use Rattle.ch_static.specs.declared.command.Command.TheVariants as commands
use Rattle.ch_static.specs.declared.target.Target.TheVariants as targets
use Rattle.ch_wire.specs.declared.TheConstants.{MOST_PAYLOAD_BYTES}
use Rattle.ch_model.specs.declared.act.Act.{Act}
use Rattle.ch_model.specs.declared.command.CommandError.{CommandError}
use Rattle.ch_model.specs.declared.command.CommandError.TheVariants as errors
use Rattle.ch_model.specs.declared.line.What.{What}
use Rattle.ch_model.specs.declared.line.What.TheVariants as lines
use Rattle.ch_model.specs.declared.local.LocalEvent.TheVariants as events
use Rattle.ch_model.specs.declared.name.ProcName.{ProcName}
use Rattle.ch_model.specs.declared.name.TargetName.TheVariants as names
use Rattle.ch_model.specs.Cell.{room_for}
use Rattle.ch_model.specs.CellSteps.{is_at, with_node}
use Rattle.ch_model.specs.Naming.{Names, process_as}
use Rattle.ch_model.specs.Node.{node_command, target_node}
use Rattle.ch_model.specs.NodeActs.{◌>>=◌, stopping}
use Rattle.ch_model.specs.NodeCommands.{send_of}
use Rattle.ch_model.specs.NodeIds.{process_id, is_own, life_here, is_living}
use Rattle.ch_model.specs.NodePairs.{pair_of}
use Rattle.ch_model.specs.NodeRoom.{acting_as, acting, fitting, known, room_to_send}
use Rattle.ch_model.specs.NodeSends.{payload_of, say}
use Rattle.ch_model.specs.NodeState.{NodeState}
use Rattle.ch_model.specs.WorldLines.{command_as}
use Rattle.ch_model.specs.WorldState.{Cell}
use Rattle.ch_laws_connections.specs.Fits.{FitsAs, CellHolds}
use Rattle.ch_laws_connections.specs.Senders.{sender_of, Own}
use Rattle.ch_laws_connections.specs.Taken.{ActsTaken, CallTaken, AtNode}
use Rattle.ch_laws_connections.proofs.Cells.{node_fits}
use Rattle.ch_laws_connections.proofs.CellSteps.{room_fits}
use Rattle.ch_laws_connections.proofs.Does as does
use Rattle.ch_laws_connections.proofs.Nodes as agrees
use Rattle.ch_laws_connections.proofs.Taken.{event_taken}
use Rattle.ch_laws_log.specs.Declared.{is_declared}
use Rattle.ch_laws_log.proofs.Homes.{node_self}
use Rattle.ch_laws_log.proofs.Stored.{number_same}
use Rattle.ch_laws_many.specs.ManyLines.{is_of_many}

-- ---- what is asked

-- a message goes to a process of a declared node, or one is taken, or the process ends
abbrev pub SendsToDeclared : Names → Command → Type 0
SendsToDeclared known (commands.Send to said) = (name : ProcName) × (is_declared known name.node ≡ true) × (to ≡ targets.Process (process_as known name))
SendsToDeclared known (commands.Receive mark) = Unit {0}
SendsToDeclared known commands.End = Unit {0}
SendsToDeclared known command = ⊥

-- so a process of a declared node asks
pub record AsksPlainly (known : Names) (by : ProcName) (command : Command) : Type 0 where
  pub declared : is_declared known by.node ≡ true
  pub sends : SendsToDeclared known command

asks_so : (known : Names) (one by : ProcName) (asked command : Command) → ◌≡◌ {A = Option (ProcName × Command)} (Some (one, asked)) (Some (by, command)) → AsksPlainly known one asked → AsksPlainly known by command
asks_so known one by asked command e a = let is : ◌≡◌ {A = ProcName × Command} (one, asked) (by, command) = cc in subst (λ (x : ProcName × Command). AsksPlainly known x.0 x.1) is a

pub asks_plainly : (known : Names) (what : What) (by : ProcName) (command : Command) → is_of_many known what ≡ true → command_as known what ≡ Some (by, command) → AsksPlainly known by command
asks_plainly known (lines.Send one (names.Process to) mark body) by command of asks = let parts = and_parts (is_declared known one.node) (is_declared known to.node) of in asks_so known one by _ command asks (record { declared = parts.0; sends = (to, parts.1, refl) })
asks_plainly known (lines.Send one (names.Port process port) mark body) by command of asks = absurd cc
asks_plainly known (lines.Send one (names.Named node name) mark body) by command of asks = absurd cc
asks_plainly known (lines.Recv one mark) by command of asks = asks_so known one by _ command asks (record { declared = of; sends = tt })
asks_plainly known (lines.End one) by command of asks = asks_so known one by _ command asks (record { declared = of; sends = tt })
asks_plainly known what by command of asks = absurd cc

-- ---- who asks acts

-- a process that acts was made, and lives
pub record Acts (node : NodeState) (by : ℕ) : Type 0 where
  pub made : by < length node.mail
  pub lives : is_living node (process_id node by) ≡ true

pub acts_so : (node : NodeState) (by : ℕ) → acting node by ≡ Ok tt → Acts node by
unfolding acting life_of is_living life_here is_own
acts_so node by e = by_process (slice_get node.mail by) refl e where
  within : (all : List Process) (n : ℕ) (p : Process) → slice_get all n ≡ Some p → n < length all
  within [] n p e = absurd cc
  within (x ∷ rest) zero p e = more (length rest) where
    more : (k : ℕ) → zero < suc k
    more k = omega arith
  within (x ∷ rest) (suc n) p e = more n (length rest) (within rest n p e) where
    more : (n k : ℕ) → n < k → suc n < suc k
    more n k l = omega arith

  by_process : (o : Option Process) → slice_get node.mail by ≡ o → acting_as (option_map (λ (p : Process). p.life) o) ≡ Ok tt → Acts node by
  by_process None at e = absurd cc
  by_process (Some p) at e = by_life p.life refl e where
    by_life : (life : Life) → p.life ≡ life → acting_as (Some life) ≡ Ok tt → Acts node by
    by_life lives.Live is e = record {
      made = within node.mail by p at;
      lives = ap (λ (b : Bool). option_map_or (λ life. not (is_over life)) (cond b (option_map (λ (p : Process). p.life) (slice_get node.mail by)) None) false) (ap (λ (b : Bool). b && (node.unique == node.unique)) (node_self node.own) ∙ number_same node.unique)
          ∙ ap (λ (o : Option Process). option_map_or (λ life. not (is_over life)) (option_map (λ (p : Process). p.life) o) false) at ∙ ap (λ (l : Life). not (is_over l)) is;
    }
    by_life (lives.Doomed text) is e = absurd cc
    by_life (lives.Over reason) is e = absurd cc

-- what was bound went well
pub went : {A : Type 0} (r : Result A CommandError) (f : A → Result (List Act × NodeState) CommandError) (one : List Act × NodeState) → (r >>= f) ≡ Ok one → (x : A) × (r ≡ Ok x) × (f x ≡ Ok one)
went (Ok x) f one e = (x, refl, e)
went (Err k) f one e = absurd cc

-- who sends acts, and the message is short
pub sender_acts : (node next : NodeState) (by : ℕ) (to : ProcessId) (said : Message) (room : Room) (done : List Act) → node_command node by (commands.Send (targets.Process to) said) room ≡ Ok (done, next) → Acts node by × (length (user said) ≤ MOST_PAYLOAD_BYTES)
unfolding node_command send_of fitting
sender_acts node next by to said room done e =
    let one = went (acting node by) (λ live. known node (targets.Process to) >>= (λ there. fitting (payload_of (targets.Process to) said) >>= (λ short. room_to_send node (pair_of node.pairs by (targets.Process to)) room >>= (λ roomy. stopping (say node (pair_of node.pairs by (targets.Process to)) said))))) (done, next) e in
    let two = went (known node (targets.Process to)) (λ there. fitting (payload_of (targets.Process to) said) >>= (λ short. room_to_send node (pair_of node.pairs by (targets.Process to)) room >>= (λ roomy. stopping (say node (pair_of node.pairs by (targets.Process to)) said)))) (done, next) one.2 in
    let three = went (fitting (payload_of (targets.Process to) said)) (λ short. room_to_send node (pair_of node.pairs by (targets.Process to)) room >>= (λ roomy. stopping (say node (pair_of node.pairs by (targets.Process to)) said))) (done, next) two.2 in
    (acts_so node by one.1, short_so (user said) three.1)
  where
    short_so : (payload : List ℕ) → fitting payload ≡ Ok tt → length payload ≤ MOST_PAYLOAD_BYTES
    short_so payload e = by_test (nat_le (length payload) MOST_PAYLOAD_BYTES) refl e where
      less : (n m : ℕ) → nat_le n m ≡ true → n ≤ m
      less n m h = grind (arith, nat_tests)

      by_test : (b : Bool) → nat_le (length payload) MOST_PAYLOAD_BYTES ≡ b → cond {A = Result (Unit {0}) CommandError} b (Ok tt) (Err errors.Long) ≡ Ok tt → length payload ≤ MOST_PAYLOAD_BYTES
      by_test true h e = less (length payload) MOST_PAYLOAD_BYTES h
      by_test false h e = absurd cc

-- ---- what the host takes

-- the acts that are done are those that the host agrees with, and takes
pub record Agreed (cell : Cell) (end : ℕ) (done : List Act) (next : NodeState) : Type 0 where
  pub fits : FitsAs false cell.host end done (sender_of next)
  pub taken : ActsTaken end done (with_node end next cell)

pub command_agreed : (cell : Cell) (end number : ℕ) (node : NodeState) (by : ℕ) (command : Command) (done : List Act) (next : NodeState) → CellHolds cell → find (is_at end) cell.nodes ≡ Some (number, node) → next.is_shut ≡ false → node_command node by command (room_for cell.host end node.own (target_node node by command)) ≡ Ok (done, next) → Agreed cell end done next
command_agreed cell end number node by command done next holds found unshut e = record { fits = fit; taken = take unshut } where
  room : Room
  room = room_for cell.host end node.own (target_node node by command)

  did : Own (sender_of node) → does.Does (agrees.RoomFits node (target_node node by command) room) (sender_of node) done (sender_of next)
  did = subst (λ (r : Result (List Act × NodeState) CommandError). does.AllDo (agrees.RoomFits node (target_node node by command) room) (sender_of node) r) e (agrees.on_command node by command room)

  fit : FitsAs false cell.host end done (sender_of next)
  fit = subst (λ b. FitsAs b cell.host end done (sender_of next)) unshut (node_fits (agrees.RoomFits node (target_node node by command) room) cell.host end done (sender_of node) (sender_of next) did (room_fits cell.host end node (target_node node by command)) (holds.1.nodes end (number, node) found)).1

  call : CallTaken end cell (Ok (done, next))
  call = subst (λ (r : Result (List Act × NodeState) CommandError). CallTaken end cell r) e (subst (λ (o : Option (ℕ × NodeState)). AtNode o (λ (n : NodeState). CallTaken end cell (node_command n by command (room_for cell.host end n.own (target_node n by command))))) found (event_taken cell (events.Command end by command) holds))

  take : next.is_shut ≡ false → ActsTaken end done (with_node end next cell)
  take = call.0

-- ---- openings

process_short : (p : ProcessId) → IsAddress p.node → length (process p) ≤ 89
process_short p a = fits (length (address_text p.node)) (length (address p.node ++ number p.unique)) (length (process p)) a.short (length-append (address p.node) (number p.unique)) (length-append (address p.node ++ number p.unique) (number p.counter)) where
  fits : (t f l : ℕ) → t ≤ 80 → f ≡ suc t + 4 → l ≡ f + 4 → l ≤ 89
  fits t f l s e g = omega arith

-- the opening of a connection between processes at addresses that may be spelled fits in a frame
pub opening_short : (from to : ProcessId) → IsAddress from.node → IsAddress to.node → length (message (Opening (identifiers.Process from) (identifiers.Process to))) ≤ MOST_PAYLOAD_BYTES
opening_short from to a b = fits (length (process from)) (length (process to)) (length (identifier (identifiers.Process from) ++ identifier (identifiers.Process to))) (process_short from a) (process_short to b) (length-append (identifier (identifiers.Process from)) (identifier (identifiers.Process to))) where
  fits : (x y l : ℕ) → x ≤ 89 → y ≤ 89 → l ≡ suc x + suc y → suc l ≤ MOST_PAYLOAD_BYTES
  fits x y l s t e = omega arith
