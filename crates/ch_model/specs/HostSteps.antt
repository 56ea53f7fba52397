-- How a host goes on step by step: the shape of all that it does, and its parts by key.
use Rattle.std.specs.Prelude.{ℕ, Bool, ◌&&◌, ◌==◌, List, [], ◌∷◌, ◌++◌, find, Option, Some, None, Result, Ok, Err, if◌then◌else◌}
use Rattle.ch_base.specs.declared.address.Address.{Address}
use Rattle.ch_base.specs.declared.memory.Stop.{Stop}
use Rattle.ch_link.specs.declared.LinkState.TheVariants.{Idle}
use Rattle.ch_watch.specs.Same.{same_node}
use Rattle.ch_model.specs.declared.step.Step.{Step}
use Rattle.ch_model.specs.HostState.{Endpoint, Link, Socket, HostState}

-- the steps that were done, and the host after them; or a count stands at its type's last value
abbrev pub Stepped : Type 0
Stepped = Result (List Step × HostState) Stop

-- nothing is done
abbrev pub still : HostState → Stepped
still host = Ok ([], host)

-- one step is done, and changes nothing else
abbrev pub does : Step → HostState → Stepped
does step host = Ok (step ∷ [], host)

-- steps before those of what follows
abbrev pub after_steps : List Step → Stepped → Stepped
after_steps steps (Ok done) = Ok (steps ++ done.0, done.1)
after_steps steps (Err stop) = Err stop

infixl 10 ◌then◌
-- one thing and then another, with the steps of both in order
abbrev pub ◌then◌ : Stepped → (HostState → Stepped) → Stepped
(Ok done) then f = after_steps done.0 (f done.1)
(Err stop) then f = Err stop

-- ---- endpoints by number

abbrev pub is_endpoint : ℕ → Endpoint → Bool
is_endpoint number endpoint = endpoint.number == number

-- an endpoint that was opened and isn't closed
abbrev pub is_open_endpoint : ℕ → Endpoint → Bool
is_open_endpoint number endpoint = is_endpoint number endpoint && endpoint.is_open

-- the endpoint is kept in place of the one with its number
abbrev pub store_endpoint : Endpoint → List Endpoint → List Endpoint
store_endpoint endpoint [] = []
store_endpoint endpoint (known ∷ rest) = if is_endpoint endpoint.number known then endpoint ∷ rest else known ∷ store_endpoint endpoint rest

-- the address of the host's endpoint with this number
abbrev pub own_address : HostState → ℕ → Address
own_address host end = record { host = host.host; port = host.port; id = end }

-- ---- links by endpoint and peer

abbrev pub is_link : ℕ → Address → Link → Bool
is_link end peer link = (link.end == end) && same_node link.peer peer

-- a link that wasn't used before
abbrev pub new_link : ℕ → Address → Link
new_link end peer = record { end = end; peer = peer; state = Idle; waits = []; given = []; created = [] }

abbrev pub link_or_new : ℕ → Address → Option Link → Link
link_or_new end peer (Some link) = link
link_or_new end peer None = new_link end peer

-- the link of an endpoint with a peer
abbrev pub link_with : HostState → ℕ → Address → Link
link_with host end peer = link_or_new end peer (find (is_link end peer) host.links)

-- the link is kept in place of the one of its endpoint and peer; one that wasn't used before comes last
abbrev pub store_link : Link → List Link → List Link
store_link link [] = link ∷ []
store_link link (known ∷ rest) = if is_link link.end link.peer known then link ∷ rest else known ∷ store_link link rest

-- ---- sockets by number

abbrev pub is_socket : ℕ → Socket → Bool
is_socket number socket = socket.number == number

-- the socket is kept in place of the one with its number; one that is new comes last
abbrev pub store_socket : Socket → List Socket → List Socket
store_socket socket [] = socket ∷ []
store_socket socket (known ∷ rest) = if is_socket socket.number known then socket ∷ rest else known ∷ store_socket socket rest

-- the host with a link, or a socket, or an endpoint kept
abbrev pub with_link : Link → HostState → HostState
with_link link host = record host { links = store_link link host.links }

abbrev pub with_socket : Socket → HostState → HostState
with_socket socket host = record host { sockets = store_socket socket host.sockets }

abbrev pub with_endpoint : Endpoint → HostState → HostState
with_endpoint endpoint host = record host { ends = store_endpoint endpoint host.ends }
