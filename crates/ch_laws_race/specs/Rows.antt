-- Small scenes, which have all that the laws ask; and a test that sockets are apart.
use Rattle.std.specs.Prelude.{ℕ, Bool, true, false, not, ◌&&◌, ◌||◌, ◌==◌, List, [], ◌∷◌, Option, Some, None}
use Rattle.ch_base.specs.declared.address.Address.{Address}
use Rattle.ch_wire.specs.declared.frame.Frame.{Frame}
use Rattle.ch_wire.specs.declared.frame.Frame.TheVariants as frames
use Rattle.ch_wire.specs.Spelling.{request_spelling, frame_spelling}
use Rattle.ch_wire.specs.declared.request.Request.{Request}
use Rattle.ch_reader.specs.declared.item.Expected.{Expected}
use Rattle.ch_reader.specs.declared.item.Expected.TheVariants as expected
use Rattle.ch_light.specs.Ids.{opened}
use Rattle.ch_link.specs.declared.LinkState.{LinkState}
use Rattle.ch_link.specs.declared.LinkState.TheVariants as states
use Rattle.ch_model.specs.declared.step.Weight.{Weight}
use Rattle.ch_model.specs.declared.step.Weight.TheVariants.{Free}
use Rattle.ch_model.specs.Stages.{Stage, Pending, Open, Ended}
use Rattle.ch_model.specs.HostState.{Link, Socket, HostState}
use Rattle.ch_model.specs.Same.{same_socket}
use Rattle.ch_model.specs.WorldState.{Cell, Named, WorldEnd, WorldSocket, World}
use Rattle.ch_race.specs.Pair.{Side, Lesser, Greater, other}
use Rattle.ch_laws_race.specs.Scene.{Party, Scene, host_of}

-- ---- apart, by a test

-- two ends are of one cell under one number
abbrev pub meets_by : Option ℕ → Option ℕ → Option ℕ → Option ℕ → Bool
meets_by (Some c) (Some n) (Some d) (Some m) = (c == d) && (n == m)
meets_by c n d m = false

abbrev pub meets : WorldEnd → WorldEnd → Bool
meets e f = meets_by e.cell e.number f.cell f.number

-- two sockets have one name, or ends that meet
abbrev pub alike : WorldSocket → WorldSocket → Bool
alike s t = meets s.o t.o || (meets s.o t.t || (meets s.t t.o || (meets s.t t.t || same_socket s.name t.name)))

abbrev pub none_alike : WorldSocket → List WorldSocket → Bool
none_alike s [] = true
none_alike s (t ∷ rest) = not (alike s t) && none_alike s rest

abbrev pub all_apart : List WorldSocket → Bool
all_apart [] = true
all_apart (s ∷ rest) = not (meets s.o s.t) && (none_alike s rest && all_apart rest)

-- ---- two nodes on two hosts

abbrev pub address_at : Side → Address
address_at Lesser = record { host = 104 ∷ []; port = 1; id = 7 }
address_at Greater = record { host = 107 ∷ []; port = 1; id = 7 }

abbrev pub name_at : Side → List ℕ
name_at Lesser = 97 ∷ []
name_at Greater = 98 ∷ []

abbrev pub place_at : Side → ℕ
place_at Lesser = 0
place_at Greater = 1

abbrev pub the_party : Side → Party
the_party x = record { name = name_at x; place = place_at x; address = address_at x }

-- a node's link with the other, in a state; a connection is open each way, and these frames wait
abbrev pub link_in : Side → LinkState → List (Frame × Weight) → Link
link_in x state waits = record { end = 7; peer = address_at (other x); state = state; waits = waits; given = opened 0 ∷ []; created = opened 1 ∷ [] }

-- a host's record of a socket
abbrev pub known_as : Side → ℕ → Stage → Option Expected → List ℕ → Socket
known_as x number stage (Some e) since = record { number = number; peer_host = None; stage = stage; user = Some (7, address_at (other x)); expected = e; since = since }
known_as x number stage None since = record { number = number; peer_host = Some (address_at (other x)).host; stage = stage; user = None; expected = expected.Request; since = since }

-- a node's host: its endpoint, with a link and these sockets
abbrev pub host_with : Side → Bool → List Link → List Socket → HostState
host_with x is_open links sockets = record {
  host = (address_at x).host;
  port = 1;
  circle = (104 ∷ []) ∷ (107 ∷ []) ∷ [];
  ends = record { number = 7; is_open = is_open; arrived = 1 } ∷ [];
  links = links;
  sockets = sockets;
  dials = 1;
}

abbrev pub cell_with : HostState → Cell × ℕ
cell_with host = (record { host = host; nodes = [] }, 1)

abbrev pub named_as : Side → Named
named_as x = record { name = name_at x; address = address_at x; unique = 0; is_node = true }

-- the world of two hosts with these sockets
abbrev pub world_with : HostState → HostState → List WorldSocket → World
world_with lesser greater sockets = record { names = named_as Lesser ∷ named_as Greater ∷ []; strangers = []; cells = cell_with lesser ∷ cell_with greater ∷ []; sockets = sockets; last = None }

abbrev pub scene_with : HostState → HostState → List WorldSocket → Scene
scene_with lesser greater sockets = record { party = the_party; world = world_with lesser greater sockets; quiet = true }

-- ---- sockets

-- an end of a node's host, under a number
abbrev pub end_as : Side → Option ℕ → Stage → WorldEnd
end_as x number stage = record { cell = Some (place_at x); number = number; stage = stage; unread = []; places = []; is_cut = false }

-- the first socket that a node dialed: its own end has the number 0, and the target's 1
abbrev pub dialed_by : Side → Stage → Stage → WorldSocket
dialed_by x o t = record { name = record { from = name_at x; to = name_at (other x); number = 0 }; from_host = (address_at x).host; o = end_as x (Some 0) o; t = end_as (other x) (Some 1) t }

-- the same, before the target's host has taken it
abbrev pub dialing_by : Side → Stage → WorldSocket
dialing_by x o = record { name = record { from = name_at x; to = name_at (other x); number = 0 }; from_host = (address_at x).host; o = end_as x (Some 0) o; t = end_as (other x) None Pending }

-- ---- scenes

-- The lesser node is up on its own dial, where the other is up, and has these bytes there.
abbrev pub up_with : Bool → List ℕ → Scene
up_with probed since = scene_with
    (host_with Lesser true (link_in Lesser (states.Up 0 probed) [] ∷ []) (known_as Lesser 0 Open (Some expected.Frame) since ∷ []))
    (host_with Greater true (link_in Greater (states.Up 1 false) [] ∷ []) (known_as Greater 1 Open (Some expected.Frame) [] ∷ []))
    (dialed_by Lesser Open Open ∷ [])

-- an opening that waits
abbrev pub one_waits : List (Frame × Weight)
one_waits = (frames.Created 1024, Free) ∷ []

-- The lesser node dials, where the other is up, and has these bytes there.
abbrev pub dials_with : List ℕ → Scene
dials_with since = scene_with
    (host_with Lesser true (link_in Lesser (states.Dialing 0) one_waits ∷ []) (known_as Lesser 0 Open (Some expected.Answer) since ∷ []))
    (host_with Greater true (link_in Greater (states.Up 1 false) [] ∷ []) (known_as Greater 1 Open (Some expected.Frame) [] ∷ []))
    (dialed_by Lesser Open Open ∷ [])

-- the request of a node to the other
abbrev pub request_of : Side → Request
request_of x = record { target = 7; from = address_at x }

-- The lesser node has the other's request, on the other's dial; its own end of its own dial is open, and reads this next; its
-- link is in this state; and its endpoint is open, or not.
abbrev pub lesser_asked : Bool → Expected → LinkState → Scene
lesser_asked is_open own state = scene_with
    (host_with Lesser is_open (link_in Lesser state one_waits ∷ []) (known_as Lesser 0 Open (Some own) [] ∷ known_as Lesser 1 Open None (request_spelling (request_of Greater)) ∷ []))
    (host_with Greater true (link_in Greater (states.Dialing 0) [] ∷ []) (known_as Greater 0 Open (Some expected.Answer) [] ∷ known_as Greater 1 Open (Some expected.Frame) [] ∷ []))
    (dialed_by Lesser Open Open ∷ dialed_by Greater Open Open ∷ [])

-- The greater node has the other's request, and dials.
abbrev pub greater_asked : Scene
greater_asked = scene_with
    (host_with Lesser true (link_in Lesser (states.Dialing 0) [] ∷ []) (known_as Lesser 0 Open (Some expected.Answer) [] ∷ []))
    (host_with Greater true (link_in Greater (states.Dialing 0) [] ∷ []) (known_as Greater 0 Open (Some expected.Answer) [] ∷ known_as Greater 1 Open None (request_spelling (request_of Lesser)) ∷ []))
    (dialed_by Lesser Open Open ∷ dialed_by Greater Open Open ∷ [])

-- The other has ended its end of the lesser node's dial; the link is in this state, and this would be read next.
abbrev pub left_with : LinkState → Expected → Scene
left_with state e = scene_with (host_with Lesser true (link_in Lesser state [] ∷ []) (known_as Lesser 0 Open (Some e) [] ∷ [])) (host_with Greater true [] []) (dialed_by Lesser Open Ended ∷ [])

-- The other has ended its own dial, before its request was read.
abbrev pub stale : Scene
stale = scene_with (host_with Lesser true (link_in Lesser states.Idle [] ∷ []) (known_as Lesser 1 Open None [] ∷ [])) (host_with Greater true [] []) (dialed_by Greater Ended Open ∷ [])

-- Nothing was dialed yet.
abbrev pub at_first : Scene
at_first = scene_with (host_with Lesser true (link_in Lesser states.Idle [] ∷ []) []) (host_with Greater true [] []) []

-- The lesser node has dialed, and nothing more has happened.
abbrev pub just_dialed : Scene
just_dialed = scene_with (host_with Lesser true (link_in Lesser (states.Dialing 0) [] ∷ []) (known_as Lesser 0 Pending (Some expected.Answer) [] ∷ [])) (host_with Greater true [] []) (dialing_by Lesser Pending ∷ [])

-- A probe stands unread in the world at the lesser node's end, where both are up.
abbrev pub half_probe : WorldSocket
half_probe = record (dialed_by Lesser Open Open) { o = record (end_as Lesser (Some 0) Open) { unread = frame_spelling frames.Probe; places = None ∷ [] } }

abbrev pub half_fed : Scene
half_fed = record (up_with false []) { world = record (up_with false []).world { sockets = half_probe ∷ [] } }

-- ---- a third node

-- a node elsewhere, with which the lesser node has a link too
abbrev pub third : Address
third = record { host = 109 ∷ []; port = 1; id = 7 }

abbrev pub link_to_third : LinkState → Link
link_to_third state = record { end = 7; peer = third; state = state; waits = []; given = opened 0 ∷ []; created = [] }

-- the host's record of the socket to it, with these bytes
abbrev pub known_third : List ℕ → Socket
known_third since = record { number = 2; peer_host = None; stage = Open; user = Some (7, third); expected = expected.Frame; since = since }

-- the socket to it, of which the other end is a stranger's
abbrev pub dial_third : WorldSocket
dial_third = record {
  name = record { from = name_at Lesser; to = 99 ∷ []; number = 0 };
  from_host = (address_at Lesser).host;
  o = end_as Lesser (Some 2) Open;
  t = record { cell = None; number = None; stage = Open; unread = []; places = []; is_cut = false };
}

-- The two are up on the lesser node's dial, which is also up with the third, and has these bytes from it.
abbrev pub three_with : List ℕ → Scene
three_with since = scene_with
    (host_with Lesser true (link_in Lesser (states.Up 0 false) [] ∷ link_to_third (states.Up 2 false) ∷ []) (known_as Lesser 0 Open (Some expected.Frame) [] ∷ known_third since ∷ []))
    (host_with Greater true (link_in Greater (states.Up 1 false) [] ∷ []) (known_as Greater 1 Open (Some expected.Frame) [] ∷ []))
    (dialed_by Lesser Open Open ∷ dial_third ∷ [])

-- The same, where the third's host is in the world, and is up there.
abbrev pub met_third : WorldSocket
met_third = record dial_third { t = record { cell = Some 2; number = Some 1; stage = Open; unread = []; places = []; is_cut = false } }

abbrev pub third_cell : Cell × ℕ
third_cell = cell_with (record {
  host = third.host;
  port = 1;
  circle = (104 ∷ []) ∷ (109 ∷ []) ∷ [];
  ends = record { number = 7; is_open = true; arrived = 1 } ∷ [];
  links = record { end = 7; peer = address_at Lesser; state = states.Up 1 false; waits = []; given = []; created = opened 0 ∷ [] } ∷ [];
  sockets = record { number = 1; peer_host = Some (104 ∷ []); stage = Open; user = Some (7, address_at Lesser); expected = expected.Frame; since = [] } ∷ [];
  dials = 0;
})

abbrev pub three_hosts : Scene
three_hosts = record (three_with []) { world = record (three_with []).world { cells = cell_with (host_of (three_with []) Lesser) ∷ cell_with (host_of (three_with []) Greater) ∷ third_cell ∷ []; sockets = dialed_by Lesser Open Open ∷ met_third ∷ [] } }

-- ---- two nodes on one host

-- the addresses differ by the number of the endpoint
abbrev pub address_near : Side → Address
address_near Lesser = record { host = 104 ∷ []; port = 1; id = 7 }
address_near Greater = record { host = 104 ∷ []; port = 1; id = 8 }

abbrev pub party_near : Side → Party
party_near x = record { name = name_at x; place = 0; address = address_near x }

-- the host's record of an end of one of the two
abbrev pub known_near : Side → ℕ → List ℕ → Socket
known_near x number since = record { number = number; peer_host = None; stage = Open; user = Some ((address_near x).id, address_near (other x)); expected = expected.Frame; since = since }

abbrev pub link_near : Side → ℕ → Link
link_near x sock = record { end = (address_near x).id; peer = address_near (other x); state = states.Up sock false; waits = []; given = []; created = [] }

-- the lesser node's dial, with both ends at the one host
abbrev pub dial_near : WorldSocket
dial_near = record { name = record { from = name_at Lesser; to = name_at Greater; number = 0 }; from_host = 104 ∷ []; o = end_as Lesser (Some 0) Open; t = end_as Lesser (Some 1) Open }

-- The two are up on it, and the lesser node has these bytes there.
abbrev pub host_near : List ℕ → HostState
host_near since = record {
  host = 104 ∷ [];
  port = 1;
  circle = (104 ∷ []) ∷ [];
  ends = record { number = 7; is_open = true; arrived = 0 } ∷ record { number = 8; is_open = true; arrived = 0 } ∷ [];
  links = link_near Lesser 0 ∷ link_near Greater 1 ∷ [];
  sockets = known_near Lesser 0 since ∷ known_near Greater 1 [] ∷ [];
  dials = 1;
}

abbrev pub near_with : List ℕ → Scene
near_with since = record { party = party_near; world = record { names = []; strangers = []; cells = cell_with (host_near since) ∷ []; sockets = dial_near ∷ []; last = None }; quiet = true }

-- ---- the cell that acts

-- the cell of a node in a scene of two hosts
abbrev pub cell_of : Side → Scene → Cell × ℕ
cell_of x scene = cell_with (host_of scene x)
