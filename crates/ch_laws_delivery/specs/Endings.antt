-- A process is over: at the receiving node, and at the sending node, whose host closes its connections.
use Rattle.std.specs.Prelude.{◌≡◌, ℕ, Bool, true, false, ◌==◌, ◌||◌, nat_eq, List, [], ◌∷◌, ◌++◌, map, find, slice_get, Option, Some, None, Ok, if◌then◌else◌}
use Rattle.ch_light.specs.declared.Connection.{Connection}
use Rattle.ch_light.specs.Ids.{close_of}
use Rattle.ch_link.specs.declared.LinkState.{LinkState}
use Rattle.ch_link.specs.declared.LinkState.TheVariants.{Up}
use Rattle.ch_model.specs.declared.step.Step.{Step}
use Rattle.ch_model.specs.HostWrites.{frame_step}
use Rattle.ch_model.specs.HostCalls.{carries, host_close}
use Rattle.ch_model.specs.NodeState.{NodeState}
use Rattle.ch_model.specs.NodePairs.{closed_pairs}
use Rattle.ch_delivery.specs.Passage.{Opened, Closed, Passage}
use Rattle.ch_delivery.specs.Moves.{Finish, write, run}
use Rattle.ch_laws_delivery.specs.Scene.{Name, Scene, link_of}
use Rattle.ch_laws_delivery.specs.Sending.{is_over_at, use_at}
use Rattle.ch_laws_delivery.specs.Reconnects.{closed_host}
use Rattle.ch_laws_delivery.specs.UpSends.{sent}
use Rattle.ch_laws_delivery.specs.UpReconnects.{close_frame, host_without}
use Rattle.ch_laws_delivery.specs.View.{view}

-- ---- the node

-- The process of this number is over, and every other as before; its pairs have no connection any more.
pub record Ends (node : NodeState) (number : ℕ) (now : NodeState) : Type 0 where
  pub pairs : now.pairs ≡ closed_pairs node.pairs number
  pub shut : now.is_shut ≡ node.is_shut
  pub over : (by : ℕ) → is_over_at now by ≡ (if by == number then true else is_over_at node by)

-- ---- the host closes a connection

-- a connection that is closed: its number, its id on the link, the table of ids without it, and the pair and epoch that it
-- is for
pub record Parting : Type 0 where
  pub conn : ℕ
  pub id : ℕ
  pub table : List Connection
  pub pair : ℕ
  pub epoch : ℕ

-- It has an id on the link, which is for its pair and epoch.
pub record Parts (scene : Scene) (p : Parting) : Type 0 where
  pub carried : find (carries scene.from.end p.conn) scene.from.host.links ≡ Some (link_of scene.from)
  pub closes : close_of (link_of scene.from).given p.conn ≡ Ok (p.id, p.table)
  pub used : use_at scene.given p.id ≡ Some (record { pair = p.pair; epoch = p.epoch })

-- what the host does: it writes the close where the link is up
abbrev pub parting_steps : LinkState → ℕ → List Step
parting_steps (Up sock probed) id = frame_step sock (close_frame id) ∷ []
parting_steps state id = []

-- the scene after it, by the link's state: the close is on the way, or waits
abbrev pub parted_as : LinkState → Scene → Parting → Scene
parted_as (Up sock probed) scene p = record scene { from = record (scene.from) { host = host_without scene.from.host (link_of scene.from) p.table }; way = sent scene.given (close_frame p.id ∷ []) scene.way }
parted_as state scene p = record scene { from = record (scene.from) { host = closed_host scene.from.host (link_of scene.from) p.id p.table } }

abbrev pub parted : Scene → Parting → Scene
parted scene p = parted_as (link_of scene.from).state scene p

-- The host closes it, and what is seen then is the passage that has written the close.
pub record IsParted (names : List Name) (scene : Scene) (p : Parting) : Type 0 where
  pub host_closes : host_close scene.from.host scene.from.end p.conn ≡ Ok (parting_steps (link_of scene.from).state p.id, (parted scene p).from.host)
  pub seen : view names (parted scene p) ≡ write (Closed p.pair p.epoch ∷ []) (view names scene)

-- ---- one after another

abbrev pub all_parted : Scene → List Parting → Scene
all_parted scene [] = scene
all_parted scene (p ∷ rest) = all_parted (parted scene p) rest

abbrev pub AllPart : Scene → List Parting → Type 0
AllPart scene [] = Unit {0}
AllPart scene (p ∷ rest) = Parts scene p × AllPart (parted scene p) rest

-- the host closes each, as it is after those before
abbrev pub AllClosed : Scene → List Parting → Type 0
AllClosed scene [] = Unit {0}
AllClosed scene (p ∷ rest) = (host_close scene.from.host scene.from.end p.conn ≡ Ok (parting_steps (link_of scene.from).state p.id, (parted scene p).from.host)) × AllClosed (parted scene p) rest

-- ---- the pairs of a process

-- the number is one of these
abbrev pub has : List ℕ → ℕ → Bool
has [] d = false
has (c ∷ rest) d = nat_eq d c || has rest d

-- no number stands there twice
abbrev pub AreDistinct : List ℕ → Type 0
AreDistinct [] = Unit {0}
AreDistinct (c ∷ rest) = (has rest c ≡ false) × AreDistinct rest

abbrev pub is_by : ℕ → Option Name → Bool
is_by number None = false
is_by number (Some name) = name.by == number

-- the pairs of these connections are open, each in its epoch
abbrev pub AllOpen : Passage → List Parting → Type 0
AllOpen p [] = Unit {0}
AllOpen p (q ∷ rest) = ((p.mark q.pair ≡ Opened) × (p.epoch q.pair ≡ q.epoch)) × AllOpen p rest

-- and these pairs aren't
abbrev pub NoneOpen : Passage → List ℕ → Type 0
NoneOpen p [] = Unit {0}
NoneOpen p (c ∷ rest) = (p.mark c ≡ Opened → ⊥) × NoneOpen p rest

abbrev pub pairs_of : List Parting → List ℕ
pairs_of ps = map (λ p. p.pair) ps

-- The process is over at the node; its pairs are those of the connections that are closed, one each, and others that have
-- none; and each connection is closed by the host, one after another.
pub record EndsWith (names : List Name) (scene : Scene) (number : ℕ) (now : NodeState) (ps : List Parting) (others : List ℕ) : Type 0 where
  pub ends : Ends scene.from.node number now
  pub all : (d : ℕ) → has (pairs_of ps ++ others) d ≡ is_by number (slice_get names d)
  pub distinct : AreDistinct (pairs_of ps)
  pub opens : AllOpen (view names scene) ps
  pub bare : NoneOpen (view names scene) others
  pub part : AllPart (record scene { from = record (scene.from) { node = now } }) ps

-- the scene after it
abbrev pub ended_in : Scene → NodeState → List Parting → Scene
ended_in scene now ps = all_parted (record scene { from = record (scene.from) { node = now } }) ps

-- The host closes each connection, and what is seen then is the passage after its pairs are finished, one after another.
pub record IsOver (names : List Name) (scene : Scene) (now : NodeState) (ps : List Parting) (others : List ℕ) : Type 0 where
  pub host_closes : AllClosed (record scene { from = record (scene.from) { node = now } }) ps
  pub seen : view names (ended_in scene now ps) ≡ run (map (λ c. Finish c) (pairs_of ps ++ others)) (view names scene)
