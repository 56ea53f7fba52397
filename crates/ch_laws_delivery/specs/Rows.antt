-- Small scenes, which have all that the laws ask.
use Rattle.std.specs.Prelude.{ℕ, nat_eq, true, false, List, [], ◌∷◌, Some}
use Rattle.ch_base.specs.AddressValues.{AddressValue}
use Rattle.ch_ident.specs.declared.identifier.ProcessId.{ProcessId}
use Rattle.ch_ident.specs.declared.message.Message.{Message}
use Rattle.ch_ident.specs.Spelling as spelling
use Rattle.ch_light.specs.declared.Connection.{Connection}
use Rattle.ch_light.specs.Ids.{opened}
use Rattle.ch_link.specs.declared.LinkState.{LinkState}
use Rattle.ch_link.specs.declared.LinkState.TheVariants.{Up}
use Rattle.ch_mail.specs.declared.life.Life.TheVariants.{Live}
use Rattle.ch_static.specs.declared.target.Target.TheVariants as targets
use Rattle.ch_watch.specs.Lists.{Lists}
use Rattle.ch_model.specs.HostState.{Link, HostState}
use Rattle.ch_model.specs.NodeState as nodes
use Rattle.ch_model.specs.NodeState.{NodeState, Pair, Arrived}
use Rattle.ch_delivery.specs.Passage as items
use Rattle.ch_delivery.specs.Passage.{Item}
use Rattle.ch_laws_delivery.specs.Scene.{Name, Use, Way, Scene}
use Rattle.ch_laws_delivery.specs.FirstSends.{opening_of}
use Rattle.ch_laws_delivery.specs.Receipts.{Reading}
use Rattle.ch_laws_delivery.specs.Openings.{Opening}
use Rattle.ch_laws_delivery.specs.Closings.{Closing}

-- the addresses of two nodes
abbrev pub here : AddressValue
here = record { host = 104 ∷ []; port = 1; id = 7 }

abbrev pub there : AddressValue
there = record { host = 107 ∷ []; port = 1; id = 7 }

-- the one process of a node
abbrev pub only : AddressValue → ProcessId
only node = record { node = node; unique = 0; counter = 0 }

abbrev pub no_watches : Lists
no_watches = record { next = 0; waiting = []; watched = []; names = [] }

-- a node with one process
abbrev pub node_at : AddressValue → NodeState
node_at own = record { own = own; unique = 0; labels = []; is_shut = false; mail = record { life = Live; mailbox = []; ports = [] } ∷ []; args = [] ∷ []; watches = no_watches; pairs = []; opened = 0; to_nodes = []; arrived = [] }

-- its host, with these links
abbrev pub host_at : AddressValue → List Link → HostState
host_at own links = record { host = own.host; port = own.port; circle = here.host ∷ there.host ∷ []; ends = record { number = own.id; is_open = true; arrived = 0 } ∷ []; links = links; sockets = []; dials = 0 }

-- a link with a peer, in a state, with ids given and created
abbrev pub link_to : AddressValue → LinkState → List Connection → List Connection → Link
link_to peer state given created = record { end = 7; peer = peer; state = state; waits = []; given = given; created = created }

-- the pair of the one process and the other
abbrev pub the_name : Name
the_name = record { by = 0; to = targets.Process (only there) }

abbrev pub the_names : List Name
the_names = the_name ∷ []

-- a message
abbrev pub hello : Message
hello = record { mark = 109 ∷ []; body = 1 ∷ [] }

-- a way with these items on socket 1
abbrev pub way_with : ℕ → List Item → Way
way_with i word = record { on = i; at = i; flight = λ j. elim (nat_eq j 1) [ true ↦ word | false ↦ [] ]; cut = λ j. nat_eq j 0 }

-- nothing was said yet
abbrev pub at_start : Scene
at_start = record {
  from = record { host = host_at here []; end = 7; node = node_at here; peer = there };
  to = record { host = host_at there []; end = 7; node = node_at there; peer = here };
  way = way_with 0 [];
  given = [];
  created = [];
  log = [];
}

-- the same, where the sending node is up on socket 0 of its host
abbrev pub up_at_start : Scene
up_at_start = record at_start { from = record (at_start.from) { host = host_at here (link_to there (Up 0 false) [] [] ∷ []) } }

-- the pair, with its connection, after one message
abbrev pub open_pair : Pair
open_pair = record { by = 0; to = the_name.to; epoch = 0; index = 1; mark = nodes.Opened 0 }

-- what the connection is for
abbrev pub the_use : Use
the_use = record { pair = 0; epoch = 0 }

-- one message was said, and the link stands so
abbrev pub said_once : LinkState → Scene
said_once state = record at_start {
  from = record (at_start.from) { host = host_at here (link_to there state (opened 0 ∷ []) [] ∷ []); node = record (node_at here) { pairs = open_pair ∷ []; opened = 1 } };
  given = Some the_use ∷ [];
}

-- the connection as the receiving node has it
abbrev pub arrived_as : nodes.Bound → Arrived
arrived_as bound = record { conn = 1; peer = here; bound = bound }

-- both are up on socket 1, where these items are unread
abbrev pub up_with : nodes.Bound → List Item → Scene
up_with bound word = record (said_once (Up 0 false)) {
  to = record (at_start.to) { host = host_at there (link_to here (Up 1 false) [] (opened 1 ∷ []) ∷ []); node = record (node_at there) { arrived = arrived_as bound ∷ [] } };
  way = way_with 1 word;
  created = Some the_use ∷ [];
}

abbrev pub message_item : Item
message_item = items.Message 0 0 0

-- the opening message is read
abbrev pub the_opening : Opening
the_opening = record { pair = 0; epoch = 0; payload = opening_of (node_at here) open_pair; from = only here; to = the_name.to; place = 0; conn = 1; arrived = arrived_as nodes.Unread }

-- and then the message
abbrev pub bound_there : nodes.Bound
bound_there = nodes.ToTarget (only here) (targets.Process (only there))

abbrev pub the_reading : Reading
the_reading = record {
  pair = 0;
  epoch = 0;
  index = 0;
  payload = spelling.user hello;
  said = hello;
  from = only here;
  to = the_name.to;
  receiver = only there;
  place = 0;
  conn = 1;
  arrived = arrived_as bound_there;
  mail = record { life = Live; mailbox = hello ∷ []; ports = [] } ∷ [];
}

-- and later the close
abbrev pub the_closing : Closing
the_closing = record { pair = 0; epoch = 0; place = 0; conn = 1 }
