-- Small scenes in which a pair is broken, and in which its process is over.
use Rattle.std.specs.Prelude.{List, [], ◌∷◌}
use Rattle.ch_ident.specs.declared.reason.Reason.TheVariants.{Normal}
use Rattle.ch_light.specs.Ids.{closed}
use Rattle.ch_link.specs.declared.LinkState.TheVariants.{Dialing}
use Rattle.ch_mail.specs.declared.life.Life.TheVariants.{Over}
use Rattle.ch_model.specs.declared.act.Act.{Act}
use Rattle.ch_model.specs.declared.act.Act.TheVariants as acts
use Rattle.ch_model.specs.declared.note.Note.TheVariants as notes
use Rattle.ch_model.specs.NodeState as nodes
use Rattle.ch_model.specs.NodeState.{NodeState}
use Rattle.ch_laws_delivery.specs.Scene.{Scene}
use Rattle.ch_laws_delivery.specs.Endings.{Parting}
use Rattle.ch_laws_delivery.specs.Rows.{here, only, node_at, open_pair, said_once}

-- one message was said, and the pair is broken
abbrev pub broken_once : Scene
broken_once = record (said_once (Dialing 0)) { from = record ((said_once (Dialing 0)).from) { node = record (node_at here) { pairs = record open_pair { mark = nodes.Broken } ∷ []; opened = 1 } } }

-- the connection is closed
abbrev pub the_parting : Parting
the_parting = record { conn = 0; id = 1024; table = closed 0 ∷ []; pair = 0; epoch = 0 }

-- the node after one message, whose process is over
abbrev pub over_here : NodeState
over_here = record (node_at here) { mail = record { life = Over Normal; mailbox = []; ports = [] } ∷ []; pairs = record open_pair { mark = nodes.Unopened } ∷ []; opened = 1 }

-- what that node told and asked when its process ended
abbrev pub farewells_here : List Act
farewells_here = acts.Note (notes.Over (only here) Normal) ∷ acts.Close 0 ∷ []
