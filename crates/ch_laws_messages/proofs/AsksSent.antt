-- What a node tells that sends to a process of another node: that it was said, and what its host makes of the message.
use Rattle.std.proofs.Common.{◌≡◌, inl, inr, ◌≤◌, ℕ, ◌*◌, false, List, ◌∷◌, length, Ok, refl, ap, ◌∙◌, subst}
use Rattle.std.specs.Prelude.{is_some, Some}
use Rattle.ch_base.specs.declared.address.Address.{Address}
use Rattle.ch_ident.specs.declared.identifier.Identifier.TheVariants as identifiers
use Rattle.ch_ident.specs.declared.identifier.ProcessId.{ProcessId}
use Rattle.ch_ident.specs.declared.message.Message.{Message}
use Rattle.ch_ident.specs.declared.node_message.NodeMessage.TheVariants.{Opening}
use Rattle.ch_ident.specs.Spelling.{message, user}
use Rattle.ch_light.specs.Ids.{id_of}
use Rattle.ch_static.specs.declared.target.Target.TheVariants as targets
use Rattle.ch_wire.specs.declared.TheConstants.{MOST_PAYLOAD_BYTES}
use Rattle.ch_model.specs.declared.act.Act.{Act}
use Rattle.ch_model.specs.declared.local.LocalEntry.{LocalEntry}
use Rattle.ch_model.specs.declared.local.LocalEntry.TheVariants as local
use Rattle.ch_model.specs.declared.note.Note.TheVariants as notes
use Rattle.ch_model.specs.declared.step.Step.{Step}
use Rattle.ch_model.specs.CellSteps.{told_steps, with_node, acts_on}
use Rattle.ch_model.specs.HostSteps.{link_with}
use Rattle.ch_model.specs.NodeIds.{process_id}
use Rattle.ch_model.specs.NodeSends.{weight_of}
use Rattle.ch_model.specs.NodeState.{NodeState, Mark, Unopened, Opened, Broken}
use Rattle.ch_model.specs.WorldState.{Cell, World}
use Rattle.ch_laws_connections.specs.Fits.{FitsAs}
use Rattle.ch_laws_connections.specs.Senders.{sender_of}
use Rattle.ch_laws_connections.specs.Tables.{given_so, LinksApart}
use Rattle.ch_laws_connections.specs.Taken.{ActsTaken}
use Rattle.ch_laws_connections.proofs.GivenIn.{some_open, with_id}
use Rattle.ch_laws_log.specs.HostEnds.{steps_in}
use Rattle.ch_laws_plain.specs.Talks.{MaySpell}
use Rattle.ch_laws_plain_nodes.specs.Does.{SendsAway, pair_between, said_note, sent_acts}
use Rattle.ch_laws_writes.specs.Orderly.{IsOrderly}
use Rattle.ch_laws_peers.specs.Words.{Placed}
use Rattle.ch_laws_messages.specs.SaidGoes.{bare, mark_of, sent_next, sent_first}
use Rattle.ch_laws_messages.specs.SaidPuts.{Puts}
use Rattle.ch_laws_messages.specs.SaidSends.{saying_of}
use Rattle.ch_laws_messages.proofs.SaidActs.{NextOn, next_acts, FirstActs, first_acts}
use Rattle.ch_laws_messages.specs.AsksMessages.{IsMessage}

-- It is noted that the message was said; and on the link with its node its payload is put, or what opens a connection and then that.
pub record SaysAway (world : World) (cell : Cell) (end : ℕ) (node : NodeState) (by : ℕ) (to : ProcessId) (said : Message) (told : List LocalEntry) (after : Cell) : Type 0 where
  pub epoch : ℕ
  pub index : ℕ
  pub steps : List Step
  pub told_is : told ≡ local.Note (notes.Said (process_id node by) (targets.Process to) epoch index said) ∷ told_steps steps
  pub id : ℕ
  pub opening : List ℕ
  pub new : List Placed
  pub puts : Puts cell.host end to.node new (steps_in told) after.host
  pub spelled : MaySpell (bare new)
  pub goes : IsMessage id opening (saying_of world node by to epoch index said) new

module _ (world : World) (own : ℕ → Address) (cell : Cell) (end : ℕ) (node next : NodeState) (by : ℕ) (to : ProcessId) (said : Message) (done : List Act) (told : List LocalEntry) (after : Cell) (sends : SendsAway node by to said done next)
    (short_opening : length (message (Opening (identifiers.Process (process_id node by)) (identifiers.Process to))) ≤ MOST_PAYLOAD_BYTES) (short : length (user said) ≤ MOST_PAYLOAD_BYTES) (given : (conn : ℕ) → mark_of node by to ≡ Opened conn → (id : ℕ) × (id_of (link_with cell.host end to.node).given conn ≡ Some id)) (unbroken : mark_of node by to ≡ Broken → ⊥)
    (orderly : IsOrderly own cell.host) (apart : LinksApart cell.host.links) (one_link : (conn : ℕ) (p q : Address) → 1 ≤ given_so cell.host end conn p → 1 ≤ given_so cell.host end conn q → p ≡ q)
    (fits : FitsAs false cell.host end done (sender_of next)) (taken : ActsTaken end done (with_node end next cell)) (all : acts_on end done (with_node end next cell) ≡ Ok (told, after)) where
  abbrev epoch : ℕ
  epoch = (pair_between node by to).epoch

  abbrev index : ℕ
  index = (pair_between node by to).index

  abbrev opening : List ℕ
  opening = message (Opening (identifiers.Process (process_id node by)) (identifiers.Process to))

  -- the first message of the pair
  first : mark_of node by to ≡ Unopened → SaysAway world cell end node by to said told after
  first unopened = record {
    epoch = epoch;
    index = index;
    steps = f.steps;
    told_is = f.told_is;
    id = f.first.id;
    opening = opening;
    new = sent_first f.first.id opening (saying_of world node by to epoch index said) (record { epoch = epoch; index = index });
    puts = f.first.puts;
    spelled = f.first.spelled;
    goes = inr refl;
  } where
    did : done ≡ said_note node by to said ∷ sent_acts node by to said Unopened
    did = sends.did ∙ ap (λ (m : Mark). said_note node by to said ∷ sent_acts node by to said m) unopened

    f : FirstActs own (with_node end next cell) end (2 * node.opened) to.node opening (user said) (weight_of epoch index) (notes.Said (process_id node by) (targets.Process to) epoch index said) told after
    f = first_acts own (with_node end next cell) end (2 * node.opened) to.node opening (user said) (weight_of epoch index) (notes.Said (process_id node by) (targets.Process to) epoch index said) (sender_of next) told after orderly apart
        (subst (λ (l : List Act). FitsAs false cell.host end l (sender_of next)) did fits) short_opening short (subst (λ (l : List Act). ActsTaken end l (with_node end next cell)) did taken) (subst (λ (l : List Act). acts_on end l (with_node end next cell) ≡ Ok (told, after)) did all)

  -- a later one
  later : (conn : ℕ) → mark_of node by to ≡ Opened conn → SaysAway world cell end node by to said told after
  later conn is_open = record {
    epoch = epoch;
    index = index;
    steps = f.steps;
    told_is = f.told_is;
    id = f.put.id;
    opening = opening;
    new = sent_next f.put.id (saying_of world node by to epoch index said) (record { epoch = epoch; index = index });
    puts = f.put.puts;
    spelled = f.put.spelled;
    goes = inl refl;
  } where
    did : done ≡ said_note node by to said ∷ sent_acts node by to said (Opened conn)
    did = sends.did ∙ ap (λ (m : Mark). said_note node by to said ∷ sent_acts node by to said m) is_open

    there : 1 ≤ given_so cell.host end conn to.node
    there = let g = given conn is_open in some_open (link_with cell.host end to.node).given conn (with_id (link_with cell.host end to.node).given conn (ap is_some g.1))

    f : NextOn own (with_node end next cell) end conn to.node (user said) (weight_of epoch index) (notes.Said (process_id node by) (targets.Process to) epoch index said) told after
    f = next_acts own (with_node end next cell) end conn to.node (user said) (weight_of epoch index) (notes.Said (process_id node by) (targets.Process to) epoch index said) told after orderly (record { apart = apart; there = there; one_link = one_link conn }) short
        (subst (λ (l : List Act). ActsTaken end l (with_node end next cell)) did taken) (subst (λ (l : List Act). acts_on end l (with_node end next cell) ≡ Ok (told, after)) did all)

  pub says_so : SaysAway world cell end node by to said told after
  says_so = by_mark (mark_of node by to) refl where
    by_mark : (m : Mark) → mark_of node by to ≡ m → SaysAway world cell end node by to said told after
    by_mark Unopened e = first e
    by_mark (Opened conn) e = later conn e
    by_mark Broken e = absurd (unbroken e)
