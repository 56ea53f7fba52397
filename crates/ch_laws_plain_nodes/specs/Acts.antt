-- What a plain node does.
use Rattle.std.specs.Prelude.{◌≡◌, ℕ, false, List, [], ◌∷◌, Some, None}
use Rattle.ch_base.specs.declared.address.Address.{Address}
use Rattle.ch_ident.specs.declared.identifier.ProcessId.{ProcessId}
use Rattle.ch_ident.specs.declared.identifier.Identifier.TheVariants as ends
use Rattle.ch_ident.specs.declared.message.Message.{Message}
use Rattle.ch_ident.specs.declared.node_message.NodeMessage.TheVariants.{Opening}
use Rattle.ch_ident.specs.Spelling.{message, user}
use Rattle.ch_watch.specs.Same.{same_node}
use Rattle.ch_model.specs.declared.note.Note.{Note}
use Rattle.ch_model.specs.declared.note.Note.TheVariants as notes
use Rattle.ch_model.specs.declared.act.Act.{Act}
use Rattle.ch_model.specs.declared.act.Act.TheVariants as acts
use Rattle.ch_model.specs.declared.step.Weight.{Weight}
use Rattle.ch_model.specs.declared.step.Weight.TheVariants.{Free, Counted}
use Rattle.ch_laws_plain_nodes.specs.Plain.{IsToProcess}

-- a process was made by no spawn, said a message to a process, got one, took one from its mailbox, or is over
abbrev pub IsPlainNote : Note → Type 0
IsPlainNote (notes.Made process None) = Unit {0}
IsPlainNote (notes.Said by to epoch index said) = IsToProcess to
IsPlainNote (notes.Got from to (Some receiver)) = IsToProcess to
IsPlainNote (notes.Took by None said) = Unit {0}
IsPlainNote (notes.Over process reason) = Unit {0}
IsPlainNote note = ⊥

-- the first payload on the connection that was opened before it: it opens that from a process of the node to one of the peer
pub record IsFirst (own : Address) (conn : ℕ) (peer : Address) (on : ℕ) (payload : List ℕ) (weight : Weight) : Type 0 where
  pub from : ProcessId
  pub to : ProcessId
  pub same : on ≡ conn
  pub from_node : from.node ≡ own
  pub to_node : to.node ≡ peer
  pub spelled : payload ≡ message (Opening (ends.Process from) (ends.Process to))
  pub free : weight ≡ Free

-- a user's message goes, counted, as a said message of some epoch and index
abbrev pub IsSaid : List ℕ → Weight → Type 0
IsSaid payload (Counted (Some place)) = (said : Message) × (payload ≡ user said)
IsSaid payload weight = ⊥

-- What a node at this address tells and does is plain: each connection that is opened is told at once between which
-- processes it goes, and all that is sent on connections else are messages of users.
abbrev pub ArePlain : Address → List Act → Type 0
ArePlain own [] = Unit {0}
ArePlain own (acts.Note note ∷ rest) = IsPlainNote note × ArePlain own rest
ArePlain own (acts.Open conn peer ∷ acts.Put on payload weight ∷ rest) = IsFirst own conn peer on payload weight × ArePlain own rest
ArePlain own (acts.Open conn peer ∷ rest) = ⊥
ArePlain own (acts.Put conn payload weight ∷ rest) = IsSaid payload weight × ArePlain own rest
ArePlain own (acts.Close conn ∷ rest) = ArePlain own rest

-- nothing is done, but something may be told
abbrev pub AreNotes : List Act → Type 0
AreNotes [] = Unit {0}
AreNotes (acts.Note note ∷ rest) = IsPlainNote note × AreNotes rest
AreNotes (act ∷ rest) = ⊥

-- no connection is opened
abbrev pub OpensNone : List Act → Type 0
OpensNone [] = Unit {0}
OpensNone (acts.Open conn peer ∷ rest) = ⊥
OpensNone (act ∷ rest) = OpensNone rest

-- one connection is opened at most, and that to this peer, which isn't the node itself
abbrev pub OpensTo : Address → Address → List Act → Type 0
OpensTo own peer [] = Unit {0}
OpensTo own peer (acts.Open conn at ∷ rest) = (at ≡ peer) × (same_node peer own ≡ false) × OpensNone rest
OpensTo own peer (act ∷ rest) = OpensTo own peer rest
