-- Small scenes in which something is read for a port, for a name, or for nobody.
use Rattle.std.specs.Prelude.{ℕ, false, List, [], ◌∷◌}
use Rattle.ch_ident.specs.declared.reason.Reason.TheVariants.{Normal}
use Rattle.ch_link.specs.declared.LinkState.TheVariants.{Up}
use Rattle.ch_mail.specs.declared.life.Life.TheVariants.{Live, Over}
use Rattle.ch_mail.specs.Process.{Process}
use Rattle.ch_static.specs.declared.target.Target.{Target}
use Rattle.ch_static.specs.declared.target.Target.TheVariants as targets
use Rattle.ch_model.specs.NodeState as nodes
use Rattle.ch_model.specs.NodeState.{NodeState}
use Rattle.ch_model.specs.NodeSends.{payload_of}
use Rattle.ch_delivery.specs.Passage.{Item}
use Rattle.ch_laws_delivery.specs.Scene.{Name, Scene}
use Rattle.ch_laws_delivery.specs.FirstSends.{opening_of}
use Rattle.ch_laws_delivery.specs.Receipts.{bound_as, Reading}
use Rattle.ch_laws_delivery.specs.Openings.{Opening}
use Rattle.ch_laws_delivery.specs.Drops.{Arriving}
use Rattle.ch_laws_delivery.specs.Rows.{here, there, only, no_watches, node_at, host_at, link_to, open_pair, arrived_as, hello, at_start, up_with}

-- the peer is up there, and nothing was created yet
abbrev pub up_there : Scene
up_there = record at_start { to = record (at_start.to) { host = host_at there (link_to here (Up 1 false) [] [] ∷ []) } }

-- a port and a name of the receiving node
abbrev pub port_there : Target
port_there = targets.Port (record { process = only there; port = 0 })

abbrev pub title : List ℕ
title = 110 ∷ []

abbrev pub name_there : Target
name_there = targets.Named there title

-- the pair of the one process and a target
abbrev pub pair_to : Target → Name
pair_to to = record { by = 0; to = to }

abbrev pub pairs_to : Target → List Name
pairs_to to = pair_to to ∷ []

-- the one process with one port, which holds these
abbrev pub with_port : List Process
with_port = record { life = Live; mailbox = []; ports = [] ∷ [] } ∷ []

-- the receiving node with that process and the name for it, where these items are unread
abbrev pub up_to : nodes.Bound → List Item → Scene
up_to bound word = record (up_with bound word) {
  to = record ((up_with bound word).to) { node = record ((up_with bound word).to.node) { mail = with_port; watches = record no_watches { names = record { name = title; process = 0 } ∷ [] } } };
}

-- the opening message of a pair is read there
abbrev pub opening_to : Target → Opening
opening_to to = record { pair = 0; epoch = 0; payload = opening_of (node_at here) (record open_pair { to = to }); from = only here; to = to; place = 0; conn = 1; arrived = arrived_as nodes.Unread }

-- and then its message, which leads to this mail
abbrev pub reading_to : Target → List Process → Reading
reading_to to mail = record {
  pair = 0;
  epoch = 0;
  index = 0;
  payload = payload_of to hello;
  said = hello;
  from = only here;
  to = to;
  receiver = only there;
  place = 0;
  conn = 1;
  arrived = arrived_as (bound_as (only here) to);
  mail = mail;
}

-- the same message, where its connection is bound so
abbrev pub arriving_on : nodes.Bound → Target → Arriving
arriving_on bound to = record { pair = 0; epoch = 0; index = 0; payload = payload_of to hello; place = 0; conn = 1; arrived = arrived_as bound }

-- the receiving node after its process is over
abbrev pub over_there : NodeState
over_there = record (node_at there) { mail = record { life = Over Normal; mailbox = []; ports = [] } ∷ [] }
