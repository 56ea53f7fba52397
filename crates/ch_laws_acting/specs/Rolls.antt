-- Which processes of a node act no more, and what the node tells of it.
use Rattle.std.specs.Prelude.{◌≡◌, Bool, true, false, not, List, [], ◌∷◌, ◌++◌, map}
use Rattle.ch_mail.specs.Lives.{is_live}
use Rattle.ch_mail.specs.Process.{Process}
use Rattle.ch_model.specs.declared.act.Act.{Act}
use Rattle.ch_model.specs.declared.note.Note.{Note}
use Rattle.ch_model.specs.declared.note.Note.TheVariants as notes
use Rattle.ch_model.specs.NodeState.{NodeState}
use Rattle.ch_laws_lives.specs.Rolls.{Roll as Lives, over_at, notes_in, ArePermitted, IsReached}
use Rattle.ch_laws_lives.specs.Rolls as lives

-- whether each process of a mail acts no more: it is doomed or over
abbrev pub rests_of : List Process → List Bool
rests_of mail = map (λ process. not (is_live process.life)) mail

-- of each process of a node, by number, whether it acts no more, after what the node told: one process more, one that is
-- doomed or over, or all; nothing else changes it
abbrev pub rests_after : Note → List Bool → List Bool
rests_after (notes.Made process origin) rests = rests ++ false ∷ []
rests_after (notes.Doom process text) rests = over_at process.counter rests
rests_after (notes.Over process reason) rests = over_at process.counter rests
rests_after (notes.Shut node) rests = map (λ rest. true) rests
rests_after note rests = rests

-- after all that the node told, in order
abbrev pub rests_after_all : List Note → List Bool → List Bool
rests_after_all [] rests = rests
rests_after_all (note ∷ rest) rests = rests_after_all rest (rests_after note rests)

-- the roll of a node: which processes it has and which are over, and which of them act no more
pub record Roll : Type 0 where
  pub lives : Lives
  pub rests : List Bool

-- the roll of a node as it stands
abbrev pub roll_of : NodeState → Roll
roll_of node = record { lives = lives.roll_of node; rests = rests_of node.mail }

-- the roll after what the node told
abbrev pub roll_after : Note → Roll → Roll
roll_after note roll = record { lives = lives.roll_after note roll.lives; rests = rests_after note roll.rests }

-- the roll after all that the node told, in order
abbrev pub roll_after_all : List Note → Roll → Roll
roll_after_all [] roll = roll
roll_after_all (note ∷ rest) roll = roll_after_all rest (roll_after note roll)

-- what the node told was permitted, and made the one roll of the other
pub record Tells (before : Roll) (told : List Note) (after : Roll) : Type 0 where
  pub permitted : ArePermitted told before.lives
  pub moved : after ≡ roll_after_all told before

-- what a node did is told as its roll permits, and what arrived there still goes to it
pub record RestsOn (before : NodeState) (done : List Act) (after : NodeState) : Type 0 where
  pub tells : Tells (roll_of before) (notes_in done) (roll_of after)
  pub reached : IsReached after
