-- What a host writes for a link, and what waits there: plain streams.
use Rattle.std.specs.Prelude.{◌≡◌, ◌⊎◌, ℕ, Bool, true, false, cond, ◌==◌, List, [], ◌∷◌, ◌++◌, map, find, Some, Result, Ok, Err}
use Rattle.ch_base.specs.declared.address.Address.{Address}
use Rattle.ch_wire.specs.Spelling.{IsFrame}
use Rattle.ch_wire.specs.declared.frame.Frame.{Frame}
use Rattle.ch_wire.specs.declared.frame.Frame.TheVariants as frames
use Rattle.ch_reader.specs.Items.{spellings}
use Rattle.ch_reader.specs.declared.item.Item.{Item}
use Rattle.ch_reader.specs.declared.item.Item.TheVariants as items
use Rattle.ch_light.specs.Ids.{id_of, give_of, close_of}
use Rattle.ch_light.specs.declared.Connection.{Connection}
use Rattle.ch_link.specs.declared.LinkState.TheVariants.{Up}
use Rattle.ch_model.specs.declared.step.Step.{Step}
use Rattle.ch_model.specs.declared.step.Weight.{Weight}
use Rattle.ch_model.specs.HostCalls.{of_ids, carries}
use Rattle.ch_model.specs.HostState.{Link, Socket, HostState}
use Rattle.ch_model.specs.HostSteps.{link_with, is_socket}
use Rattle.ch_model.specs.HostWrites.{is_up}
use Rattle.ch_laws_writes.specs.Dues.{due_at}
use Rattle.ch_laws_writes.proofs.Ordered.{is_key}
use Rattle.ch_laws_calls.specs.FitsFit.{frames_in}
use Rattle.ch_laws_calls.specs.FitsTurns.{bytes_at, IsKind}
use Rattle.ch_laws_plain.specs.Streams.{IsPlainStream}

-- ---- links

abbrev pub frames_of : List (Frame × Weight) → List Frame
frames_of waits = map (λ (wait : Frame × Weight). wait.0) waits

abbrev pub items_of : List Frame → List Item
items_of frames = map (λ (frame : Frame). items.Frame frame) frames

-- While a link is up nothing waits for it; while it isn't, what waits is a plain stream, and no connection has arrived.
pub record LinkIsPlain (link : Link) : Type 0 where
  pub up : is_up link.state ≡ true → link.waits ≡ []
  pub waits : is_up link.state ≡ false → IsPlainStream (frames_of link.waits)
  pub created : is_up link.state ≡ false → link.created ≡ []

-- so it is of each link of the host
abbrev pub HostIsPlain : HostState → Type 0
HostIsPlain host = (end : ℕ) (peer : Address) → LinkIsPlain (link_with host end peer)

-- ---- frames that an endpoint puts

-- each of these may be spelled
abbrev pub MaySpell : List Frame → Type 0
MaySpell [] = Unit {0}
MaySpell (frame ∷ rest) = IsFrame frame × MaySpell rest

-- they are written on the socket that the link is up on
pub record Written (one two : Link) (frames : List Frame) (told : List Step) (sock : ℕ) (probed : Bool) : Type 0 where
  pub was : one.state ≡ Up sock probed
  pub now : two.state ≡ Up sock probed
  pub waits : two.waits ≡ one.waits
  pub bytes : (n : ℕ) → bytes_at n told ≡ cond (sock == n) (spellings (items_of frames)) []

-- or they wait
pub record Waiting (one two : Link) (frames : List Frame) (told : List Step) : Type 0 where
  pub was : is_up one.state ≡ false
  pub now : is_up two.state ≡ false
  pub waits : frames_of two.waits ≡ frames_of one.waits ++ frames
  pub bytes : (n : ℕ) → bytes_at n told ≡ []

abbrev pub IsAdded : Link → Link → List Frame → List Step → Type 0
IsAdded one two frames told = ((sock : ℕ) × (probed : Bool) × Written one two frames told sock probed) ⊎ Waiting one two frames told

-- each socket that the host had is as it was
abbrev pub KeepsSockets : HostState → HostState → Type 0
KeepsSockets host after = (n : ℕ) (known : Socket) → find (is_socket n) host.sockets ≡ Some known → find (is_socket n) after.sockets ≡ Some known

-- An endpoint puts these frames on its link with a peer, which has given these ids then, and nothing else is changed of its host's links.
pub record Adds (host : HostState) (end : ℕ) (peer : Address) (ids : List Connection) (frames : List Frame) (told : List Step) (after : HostState) : Type 0 where
  pub others : (e : ℕ) (p : Address) → is_key end peer e p ≡ false → link_with after e p ≡ link_with host e p
  pub given : (link_with after end peer).given ≡ ids
  pub created : (link_with after end peer).created ≡ (link_with host end peer).created
  pub sockets : KeepsSockets host after
  pub spelled : MaySpell frames
  pub added : IsAdded (link_with host end peer) (link_with after end peer) frames told

-- a connection is opened: its id is created
abbrev pub Connects : {E : Type 0} → HostState → ℕ → Address → ℕ → Result (List Step × HostState) E → Type 0
Connects host end peer conn (Ok done) = (given : ℕ × List Connection) × (of_ids (give_of (link_with host end peer).given conn) ≡ Ok given) × Adds host end peer given.1 (frames.Created given.0 ∷ []) done.0 done.1
Connects host end peer conn (Err e) = Unit {0}

-- the link that carries a connection
pub record Carried (host : HostState) (end conn : ℕ) (link : Link) : Type 0 where
  pub found : find (carries end conn) host.links ≡ Some link
  pub own_link : link_with host link.end link.peer ≡ link

-- a payload is sent on it
abbrev pub Sends : {E : Type 0} → HostState → ℕ → ℕ → List ℕ → Result (List Step × HostState) E → Type 0
Sends host end conn payload (Ok done) = (link : Link) × Carried host end conn link × (id : ℕ) × (id_of link.given conn ≡ Some id) × Adds host link.end link.peer link.given (frames.Data id payload ∷ []) done.0 done.1
Sends host end conn payload (Err e) = Unit {0}

-- it is closed
abbrev pub Closes : {E : Type 0} → HostState → ℕ → ℕ → Result (List Step × HostState) E → Type 0
Closes host end conn (Ok done) = (link : Link) × Carried host end conn link × (given : ℕ × List Connection) × (of_ids (close_of link.given conn) ≡ Ok given) × Adds host link.end link.peer given.1 (frames.Closed given.0 ∷ []) done.0 done.1
Closes host end conn (Err e) = Unit {0}

-- ---- all that a host writes

-- What a host does changes one link, and what it writes under each number is plain.
pub record Talks (own : ℕ → Address) (host : HostState) (end : ℕ) (peer : Address) (told : List Step) (after : HostState) : Type 0 where
  pub others : (e : ℕ) (p : Address) → is_key end peer e p ≡ false → link_with after e p ≡ link_with host e p
  pub plain : LinkIsPlain (link_with after end peer)
  pub said : ℕ → List Item
  pub spelled : (n : ℕ) → bytes_at n told ≡ spellings (said n)
  pub kind : (n : ℕ) → IsKind own (due_at host n) (said n)
  pub streams : (n : ℕ) → IsPlainStream (frames_in (said n))

-- ---- all that an endpoint asks, one call after another

-- a link of the host is up on the socket of this number
pub record IsUpThere (host : HostState) (n : ℕ) : Type 0 where
  pub end : ℕ
  pub peer : Address
  pub probed : Bool
  pub up : (link_with host end peer).state ≡ Up n probed

-- What an endpoint asks leaves the host plain; plain frames are written, and that where a link was up and is up still.
pub record Speaks (host : HostState) (told : List Step) (after : HostState) : Type 0 where
  pub plain : HostIsPlain after
  pub sockets : KeepsSockets host after
  pub created : (end : ℕ) (peer : Address) → (link_with after end peer).created ≡ (link_with host end peer).created
  pub said : ℕ → List Frame
  pub spelled : (n : ℕ) → bytes_at n told ≡ spellings (items_of (said n))
  pub may : (n : ℕ) → MaySpell (said n)
  pub streams : (n : ℕ) → IsPlainStream (said n)
  pub where_up : (n : ℕ) → (said n ≡ []) ⊎ IsUpThere host n
  pub up_still : (n : ℕ) → IsUpThere after n → IsUpThere host n
