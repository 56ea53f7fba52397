-- A link comes up on a socket, as either node of a passage sees it: its dial was accepted, or it takes a request.
use Rattle.std.specs.Prelude.{◌≡◌, ℕ, false, List, [], ◌∷◌, ◌++◌, map, None, Ok}
use Rattle.ch_wire.specs.Spelling.{answer_spelling}
use Rattle.ch_wire.specs.declared.answer.Answer.TheVariants.{Accepted}
use Rattle.ch_link.specs.Table.{step_of}
use Rattle.ch_link.specs.declared.LinkState.{LinkState}
use Rattle.ch_link.specs.declared.LinkState.TheVariants.{Dialing, Up}
use Rattle.ch_link.specs.declared.LinkIn.{LinkIn}
use Rattle.ch_link.specs.declared.LinkIn.TheVariants.{Asked}
use Rattle.ch_model.specs.declared.step.Step.{Step}
use Rattle.ch_model.specs.declared.step.Step.TheVariants as steps
use Rattle.ch_model.specs.Greater.{is_greater}
use Rattle.ch_model.specs.HostState.{Link, HostState}
use Rattle.ch_model.specs.HostSteps.{own_address, with_link}
use Rattle.ch_model.specs.HostWrites.{frame_step, end_socket, is_up}
use Rattle.ch_model.specs.HostLinks.{hears}
use Rattle.ch_delivery.specs.Passage.{Rose, Came}
use Rattle.ch_delivery.specs.Moves.{Rise, Come, Allowed, put, onto, after}
use Rattle.ch_laws_delivery.specs.Scene.{Name, Party, Scene, link_of}
use Rattle.ch_laws_delivery.specs.Sending.{items_of}
use Rattle.ch_laws_delivery.specs.View.{view}

-- The link isn't up, and the input brings it up on a socket.
pub record ComesUp (party : Party) (input : LinkIn) (sock : ℕ) : Type 0 where
  pub down : is_up (link_of party).state ≡ false
  pub up : (step_of (link_of party).state input (is_greater (own_address party.host (link_of party).end) (link_of party).peer)).0 ≡ Up sock false

-- what the host does first: it leaves its own dial, tells that the socket is up, and accepts the request
abbrev pub first_steps : LinkState → LinkIn → ℕ → List Step
first_steps (Dialing own) (Asked asked) sock = steps.Left own ∷ steps.Up sock ∷ steps.Write sock (answer_spelling Accepted) None ∷ []
first_steps state (Asked asked) sock = steps.Up sock ∷ steps.Write sock (answer_spelling Accepted) None ∷ []
first_steps state input sock = steps.Up sock ∷ []

-- the host without the dial that it leaves
abbrev pub left_dial : LinkState → LinkIn → HostState → HostState
left_dial (Dialing own) (Asked asked) host = end_socket own host
left_dial state input host = host

-- the link that is up, where nothing waits
abbrev pub link_up : Link → ℕ → Link
link_up link sock = record link { state = Up sock false; waits = [] }

-- the host whose link came up
abbrev pub host_up : HostState → Link → LinkIn → ℕ → HostState
host_up host link input sock = with_link (link_up link sock) (left_dial link.state input (with_link (record link { state = Up sock false }) host))

-- what waited is written in order, and nothing else that carries a message
abbrev pub Raises : Party → LinkIn → ℕ → Type 0
Raises party input sock = hears input (link_of party) party.host
    ≡ Ok (first_steps (link_of party).state input sock ++ map (frame_step sock) (link_of party).waits, host_up party.host (link_of party) input sock)

-- ---- the sending node

-- the scene after it, where the socket has number i on the way
abbrev pub risen_in : Scene → LinkIn → ℕ → ℕ → Scene
risen_in scene input sock i = record scene {
  from = record (scene.from) { host = host_up scene.from.host (link_of scene.from) input sock };
  way = record (scene.way) { on = i; flight = put i (onto (scene.way.cut i) [] (items_of scene.given (link_of scene.from).waits)) scene.way.flight };
  log = Rose i ∷ scene.log;
}

-- The host tells that the socket is up and writes what waited, and what is seen then is the passage after the move, which
-- may happen.
pub record IsRisen (names : List Name) (scene : Scene) (input : LinkIn) (sock i : ℕ) : Type 0 where
  pub host_raises : Raises scene.from input sock
  pub allowed : Allowed (Rise i) (view names scene)
  pub seen : view names (risen_in scene input sock i) ≡ after (Rise i) (view names scene)

-- ---- the receiving node

-- the scene after it, where the socket has number i on the way: no connection was created there yet
abbrev pub come_in : Scene → LinkIn → ℕ → ℕ → Scene
come_in scene input sock i = record scene {
  to = record (scene.to) { host = host_up scene.to.host (link_of scene.to) input sock };
  way = record (scene.way) { at = i };
  created = [];
  log = Came i ∷ scene.log;
}

-- The host tells that the socket is up, its table of connections stays, and what is seen then is the passage after the
-- move, which may happen.
pub record IsCome (names : List Name) (scene : Scene) (input : LinkIn) (sock i : ℕ) : Type 0 where
  pub host_raises : Raises scene.to input sock
  pub allowed : Allowed (Come i) (view names scene)
  pub table : (link_of (come_in scene input sock i).to).created ≡ (link_of scene.to).created
  pub seen : view names (come_in scene input sock i) ≡ after (Come i) (view names scene)
