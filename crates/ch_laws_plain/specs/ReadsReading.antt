-- What a plain host does as it reads an item: what it posts, what it changes of the connections that have arrived, and what it has read at each end.
use Rattle.std.specs.Prelude.{◌≡◌, ◌⊎◌, ℕ, Bool, cond, true, false, ◌==◌, List, [], ◌∷◌, find, Some, None, Ok}
use Rattle.ch_base.specs.declared.address.Address.{Address}
use Rattle.ch_base.specs.declared.event.Event.{Event}
use Rattle.ch_base.specs.declared.event.Event.TheVariants as events
use Rattle.ch_base.specs.declared.event.Why.{Why}
use Rattle.ch_wire.specs.declared.frame.Frame.{Frame}
use Rattle.ch_wire.specs.declared.frame.Frame.TheVariants as frames
use Rattle.ch_reader.specs.declared.item.Item.{Item}
use Rattle.ch_light.specs.Ids.{created_of, closed_of, conn_of}
use Rattle.ch_link.specs.declared.LinkState.TheVariants.{Up}
use Rattle.ch_model.specs.declared.step.Step.{Step}
use Rattle.ch_model.specs.declared.step.Step.TheVariants as steps
use Rattle.ch_model.specs.HostItems.{next_arrival}
use Rattle.ch_model.specs.HostState.{Socket, HostState}
use Rattle.ch_model.specs.HostSteps.{link_with, is_socket}
use Rattle.ch_model.specs.Stages.{is_ended}
use Rattle.ch_laws_reads.specs.Reads.{AreRead}
use Rattle.ch_laws_writes.proofs.Ordered.{is_key}
use Rattle.ch_laws_calls.specs.FitsFit.{frames_in}

-- the events that steps post, each to the node of an endpoint
abbrev pub posts_in : List Step → List (ℕ × Event)
posts_in [] = []
posts_in (steps.Post end event ∷ rest) = (end, event) ∷ posts_in rest
posts_in (step ∷ rest) = posts_in rest

-- ---- what was read at each end

-- Items were read at an end, of which these are the frames; and it is for the link that it was for, or it was for none and is
-- for one now that has no connection.
pub record ReadThere (known now : Socket) (frames : List Frame) (after : HostState) : Type 0 where
  pub stood : is_ended known.stage ≡ false
  pub read : List Item
  pub are : AreRead known.expected known.since read now.expected now.since
  pub framed : frames_in read ≡ frames
  pub user : (now.user ≡ known.user) ⊎ ((known.user ≡ None) × ((end : ℕ) (peer : Address) → now.user ≡ Some (end, peer) → (link_with after end peer).created ≡ []))

-- at each end that the host had, and that hasn't ended, these are the frames that were read, by number
abbrev pub AllReadThere : HostState → HostState → (ℕ → List Frame) → Type 0
AllReadThere host after frames = (n : ℕ) (known now : Socket) → find (is_socket n) host.sockets ≡ Some known → find (is_socket n) after.sockets ≡ Some now → is_ended now.stage ≡ false → ReadThere known now (frames n) after

-- each end that the host had it has still
abbrev pub HasStill : HostState → HostState → Type 0
HasStill host after = (n : ℕ) (known : Socket) → find (is_socket n) host.sockets ≡ Some known → (now : Socket) × (find (is_socket n) after.sockets ≡ Some now)

-- ---- what an item brings

-- a frame of no connection
abbrev pub IsOfNone : Frame → Type 0
IsOfNone (frames.Created id) = ⊥
IsOfNone (frames.Closed id) = ⊥
IsOfNone (frames.Data id payload) = ⊥
IsOfNone frame = Unit {0}

abbrev pub AreOfNone : List Frame → Type 0
AreOfNone [] = Unit {0}
AreOfNone (frame ∷ rest) = IsOfNone frame × AreOfNone rest

-- nothing is posted, and all connections that have arrived stand
pub record Nothing (host : HostState) (told : List Step) (after : HostState) : Type 0 where
  pub posted : posts_in told ≡ []
  pub created : (e : ℕ) (p : Address) → (link_with after e p).created ≡ (link_with host e p).created
  pub frames : ℕ → List Frame
  pub none : (n : ℕ) → AreOfNone (frames n)
  pub read : AllReadThere host after frames

-- a frame was read on the socket that this link is up on, and it is up there still
pub record ReadOn (host : HostState) (end : ℕ) (peer : Address) (frame : Frame) (after : HostState) : Type 0 where
  pub sock : ℕ
  pub probed : Bool
  pub up : (link_with host end peer).state ≡ Up sock probed
  pub up_still : (link_with after end peer).state ≡ Up sock probed
  pub others : (e : ℕ) (p : Address) → is_key end peer e p ≡ false → (link_with after e p).created ≡ (link_with host e p).created
  pub read : AllReadThere host after (λ n. cond (sock == n) (frame ∷ []) [])

-- a connection was created there: its node hears of it, under the next number
pub record Opens (host : HostState) (told : List Step) (after : HostState) : Type 0 where
  pub end : ℕ
  pub peer : Address
  pub id : ℕ
  pub on : ReadOn host end peer (frames.Created id) after
  pub created : created_of (link_with host end peer).created id (next_arrival host end) ≡ Ok (link_with after end peer).created
  pub posted : posts_in told ≡ (end, events.ConnectionOpened (next_arrival host end) peer) ∷ []

-- one was closed
pub record Closes (host : HostState) (told : List Step) (after : HostState) : Type 0 where
  pub end : ℕ
  pub peer : Address
  pub id : ℕ
  pub conn : ℕ
  pub on : ReadOn host end peer (frames.Closed id) after
  pub created : closed_of (link_with host end peer).created id ≡ Ok (conn, (link_with after end peer).created)
  pub posted : posts_in told ≡ (end, events.ConnectionClosed conn) ∷ []

-- a payload came on one
pub record Receives (host : HostState) (told : List Step) (after : HostState) : Type 0 where
  pub end : ℕ
  pub peer : Address
  pub id : ℕ
  pub conn : ℕ
  pub payload : List ℕ
  pub on : ReadOn host end peer (frames.Data id payload) after
  pub found : conn_of (link_with host end peer).created id ≡ Ok conn
  pub created : (link_with after end peer).created ≡ (link_with host end peer).created
  pub posted : posts_in told ≡ (end, events.Received conn payload) ∷ []

-- The link failed, on the socket that it was up on, dialed or awaited, and nothing has arrived there any more; what is read at other
-- ends is of no connection.
pub record Loses (host : HostState) (told : List Step) (after : HostState) : Type 0 where
  pub end : ℕ
  pub peer : Address
  pub why : Why
  pub posted : posts_in told ≡ (end, events.ConnectionLost peer why) ∷ []
  pub others : (e : ℕ) (p : Address) → is_key end peer e p ≡ false → (link_with after e p).created ≡ (link_with host e p).created
  pub created : (link_with after end peer).created ≡ []
  pub frames : ℕ → List Frame
  pub none : (n : ℕ) → AreOfNone (frames n)
  pub read : AllReadThere host after frames
  -- no end that hasn't ended is for that link
  pub unused : (n : ℕ) (now : Socket) → find (is_socket n) after.sockets ≡ Some now → now.user ≡ Some (end, peer) → is_ended now.stage ≡ true

-- what a host does as it reads an item, or as the input of a socket ends: one of these
abbrev pub Brings : HostState → List Step → HostState → Type 0
Brings host told after = Nothing host told after ⊎ (Opens host told after ⊎ (Closes host told after ⊎ (Receives host told after ⊎ Loses host told after)))

-- so it is, and each end is still there
abbrev pub Reading : HostState → List Step → HostState → Type 0
Reading host told after = HasStill host after × Brings host told after
