-- What each call of a plain node gives: its acts, and the node after them.
use Rattle.std.specs.Prelude.{◌≡◌, ℕ, ◌+◌, ◌*◌, Bool, true, false, List, [], ◌∷◌, map, length, Some, None}
use Rattle.ch_ident.specs.declared.identifier.ProcessId.{ProcessId}
use Rattle.ch_ident.specs.declared.identifier.Identifier.TheVariants as ends
use Rattle.ch_ident.specs.declared.message.Message.{Message}
use Rattle.ch_ident.specs.declared.node_message.NodeMessage.TheVariants.{Opening}
use Rattle.ch_ident.specs.declared.reason.Reason.TheVariants.{Normal}
use Rattle.ch_ident.specs.Spelling.{message, user}
use Rattle.ch_static.specs.declared.target.Target.TheVariants as targets
use Rattle.ch_model.specs.declared.note.Note.TheVariants as notes
use Rattle.ch_model.specs.declared.act.Act.{Act}
use Rattle.ch_model.specs.declared.act.Act.TheVariants as acts
use Rattle.ch_model.specs.declared.step.Weight.TheVariants.{Free}
use Rattle.ch_model.specs.NodeState.{NodeState, Pair, Mark, Unopened, Opened, Broken}
use Rattle.ch_model.specs.NodeIds.{process_id}
use Rattle.ch_model.specs.NodePairs.{pair_of, with_pair, conns_by, closed_pairs}
use Rattle.ch_model.specs.NodeSends.{weight_of}
use Rattle.ch_laws_plain_nodes.specs.Plain.{IsPlain}
use Rattle.ch_laws_plain_nodes.specs.Acts.{ArePlain, AreNotes}

-- what is done is plain, the node is plain after it, and what arrived stands as it did
pub record Does (before : NodeState) (done : List Act) (after : NodeState) : Type 0 where
  pub did : ArePlain before.own done
  pub node : IsPlain after
  pub arrived : after.arrived ≡ before.arrived

-- things may be told, and all is as it was but the processes: their mail, and what they were given
pub record Tells (before : NodeState) (done : List Act) (after : NodeState) : Type 0 where
  pub did : AreNotes done
  pub node : IsPlain after
  pub same : after ≡ record before { mail = after.mail; args = after.args }

-- a process is made, under the next number
pub record Makes (before : NodeState) (done : List Act) (after : NodeState) : Type 0 where
  pub did : done ≡ acts.Note (notes.Made (process_id before (length before.mail)) None) ∷ []
  pub tells : Tells before done after

-- a process takes a message from its mailbox
pub record Takes (before : NodeState) (by : ℕ) (done : List Act) (after : NodeState) : Type 0 where
  pub said : Message
  pub did : done ≡ acts.Note (notes.Took (process_id before by) None said) ∷ []
  pub tells : Tells before done after

-- nothing is done or told, and the node is this one after it
pub record Hears (next : NodeState) (done : List Act) (after : NodeState) : Type 0 where
  pub did : done ≡ []
  pub node : IsPlain after
  pub same : after ≡ next

-- ---- a message is said

-- the pair of a process and a process to which it sends
abbrev pub pair_between : NodeState → ℕ → ProcessId → Pair
pair_between node by to = pair_of node.pairs by (targets.Process to)

-- that the next message of the pair is said
abbrev pub said_note : NodeState → ℕ → ProcessId → Message → Act
said_note node by to said = acts.Note (notes.Said (process_id node by) (targets.Process to) (pair_between node by to).epoch (pair_between node by to).index said)

-- the message goes on a connection
abbrev pub said_on : NodeState → ℕ → ProcessId → Message → ℕ → Act
said_on node by to said conn = acts.Put conn (user said) (weight_of (pair_between node by to).epoch (pair_between node by to).index)

-- what is done to send it to another node, by the mark of its pair: the first opens a connection, under the next number
abbrev pub sent_acts : NodeState → ℕ → ProcessId → Message → Mark → List Act
sent_acts node by to said Unopened = acts.Open (2 * node.opened) to.node ∷ acts.Put (2 * node.opened) (message (Opening (ends.Process (process_id node by)) (ends.Process to))) Free ∷ said_on node by to said (2 * node.opened) ∷ []
sent_acts node by to said (Opened conn) = said_on node by to said conn ∷ []
sent_acts node by to said Broken = []

-- the mark of the pair after it
abbrev pub sent_mark : ℕ → Mark → Mark
sent_mark conn Unopened = Opened conn
sent_mark conn mark = mark

-- how many connections were opened after it, where so many were before
abbrev pub sent_count : ℕ → Mark → ℕ
sent_count opened Unopened = opened + 1
sent_count opened mark = opened

-- the pair after it, with that mark
abbrev pub said_pair : NodeState → ℕ → ProcessId → Mark → Pair
said_pair node by to mark = record { by = by; to = targets.Process to; epoch = (pair_between node by to).epoch; index = (pair_between node by to).index + 1; mark = mark }

-- a message to a process of another node is said, and goes on the pair's connection
pub record SendsAway (before : NodeState) (by : ℕ) (to : ProcessId) (said : Message) (done : List Act) (after : NodeState) : Type 0 where
  pub did : done ≡ said_note before by to said ∷ sent_acts before by to said (pair_between before by to).mark
  pub same : after ≡ record before { pairs = with_pair (said_pair before by to (sent_mark (2 * before.opened) (pair_between before by to).mark)) before.pairs; opened = sent_count before.opened (pair_between before by to).mark }

-- that a process of the node got a message, where it did
abbrev pub got_acts : Bool → ProcessId → ProcessId → List Act
got_acts true from to = acts.Note (notes.Got from (targets.Process to) (Some to)) ∷ []
got_acts false from to = []

-- a message to a process of the same node is said, and got there where that process isn't over
pub record SendsHome (before : NodeState) (by : ℕ) (to : ProcessId) (said : Message) (done : List Act) (after : NodeState) : Type 0 where
  pub is_got : Bool
  pub did : done ≡ said_note before by to said ∷ got_acts is_got (process_id before by) to
  pub same : after ≡ record before { pairs = with_pair (said_pair before by to (pair_between before by to).mark) before.pairs; mail = after.mail }

-- ---- a process is over

-- a process is over: its connections are closed, and nobody is told
pub record Ends (before : NodeState) (by : ℕ) (done : List Act) (after : NodeState) : Type 0 where
  pub did : done ≡ acts.Note (notes.Over (process_id before by) Normal) ∷ map (λ conn. acts.Close conn) (conns_by before.pairs by)
  pub same : after ≡ record before { mail = after.mail; watches = after.watches; pairs = closed_pairs before.pairs by }
