-- What a host makes of its links as it reads an item, where no link fails: what it puts on them, and what it writes as one comes up.
use Rattle.std.specs.Prelude.{◌≡◌, ◌⊎◌, ◌≤◌, ℕ, Bool, true, false, List, [], ◌∷◌, ◌++◌, length, find, Option, Some, Ok, Err}
use Rattle.ch_base.specs.declared.address.Address.{Address}
use Rattle.ch_base.specs.declared.event.Event.TheVariants as events
use Rattle.ch_link.specs.declared.LinkState.TheVariants as states
use Rattle.ch_model.specs.declared.local.LocalEntry.{LocalEntry}
use Rattle.ch_model.specs.declared.local.LocalEntry.TheVariants as local
use Rattle.ch_model.specs.declared.note.Note.TheVariants as notes
use Rattle.ch_model.specs.declared.step.Step.{Step}
use Rattle.ch_model.specs.declared.step.Step.TheVariants as steps
use Rattle.ch_model.specs.CellSteps.{is_at}
use Rattle.ch_model.specs.HostState.{Link, HostState}
use Rattle.ch_model.specs.HostSteps.{Stepped, link_with}
use Rattle.ch_model.specs.HostWrites.{is_up}
use Rattle.ch_model.specs.NodeIds.{process_id, is_living}
use Rattle.ch_model.specs.NodeState.{NodeState}
use Rattle.ch_model.specs.WorldState.{Cell}
use Rattle.ch_laws_calls.proofs.FitsStores.{Stores}
use Rattle.ch_laws_calls.specs.FitsTurns.{NoDials}
use Rattle.ch_laws_ids.specs.Runs.{pieces_at}
use Rattle.ch_laws_log.specs.HostEnds.{steps_in}
use Rattle.ch_laws_plain.specs.Talks.{MaySpell, IsUpThere}
use Rattle.ch_laws_writes.specs.Dues.{Due, Answering, Framing, due_at}
use Rattle.ch_laws_peers.specs.Words.{Placed, words_in, waiting_as}
use Rattle.ch_laws_peers.specs.Says.{ArePlaced}
use Rattle.ch_laws_messages.specs.SaidGoes.{bare}
use Rattle.ch_laws_messages.specs.SaidPuts.{spelled}

-- no step tells that a link has failed
abbrev pub AreCalm : List Step → Type 0
AreCalm [] = Unit {0}
AreCalm (steps.Broke end peer why ∷ rest) = ⊥
AreCalm (steps.Post end (events.ConnectionLost peer why) ∷ rest) = ⊥
AreCalm (step ∷ rest) = AreCalm rest

-- what is written first at an end that comes up: where an answer is due, that, and else nothing
abbrev pub IsFirst : Option Due → List (List ℕ) → Type 0
IsFirst due first = ((due ≡ Some Framing) × (first ≡ [])) ⊎ ((due ≡ Some Answering) × ((one : List ℕ) × (first ≡ one ∷ [])))

-- The link comes up there: what waited is written, behind what is due there first, and waits no more.
pub record Rises (due : ℕ → Option Due) (one two : Link) (told : List Step) : Type 0 where
  pub sock : ℕ
  pub probed : Bool
  pub up : two.state ≡ states.Up sock probed
  pub waits : two.waits ≡ []
  pub first : List (List ℕ)
  pub fits : IsFirst (due sock) first
  pub wrote : pieces_at sock told ≡ first ++ spelled (waiting_as one.waits)
  pub may : MaySpell (bare (waiting_as one.waits))

-- An answer is written alone.
abbrev pub IsAnswer : Option Due → List (List ℕ) → Type 0
IsAnswer due pieces = (due ≡ Some Answering) × ((one : List ℕ) × (pieces ≡ one ∷ []))

-- what becomes of a link that isn't up: it isn't still, or it comes up and nothing more is put on it
abbrev pub FromDown : (ℕ → Option Due) → Link → Link → List Step → List Placed → Type 0
FromDown due one two told new = ((is_up two.state ≡ false) × (waiting_as two.waits ≡ waiting_as one.waits ++ new)) ⊎ ((new ≡ []) × Rises due one two told)

-- what becomes of one that is up: it is still, there, and these are written
abbrev pub FromUp : Link → Link → List Step → List Placed → ℕ → Type 0
FromUp one two told new sock = ((now : Bool) × (two.state ≡ states.Up sock now)) × (two.waits ≡ one.waits) × (pieces_at sock told ≡ spelled new)

-- One link was this and is another, and of it no payload is put.
pub record Tells (due : ℕ → Option Due) (links : List Link) (link : Link) (told : List Step) (after : HostState) : Type 0 where
  pub two : Link
  pub stores : Stores links after.links link.end link.peer two
  pub given : two.given ≡ link.given
  pub new : List Placed
  pub placed : ArePlaced new
  pub silent : words_in new ≡ []
  pub may : MaySpell (bare new)
  pub up : (sock : ℕ) (probed : Bool) → link.state ≡ states.Up sock probed → FromUp link two told new sock
  pub down : is_up link.state ≡ false → FromDown due link two told new
  pub where_up : (n : ℕ) → (pieces_at n told ≡ []) ⊎ (((probed : Bool) × (two.state ≡ states.Up n probed)) ⊎ IsAnswer (due n) (pieces_at n told))
  pub alone : NoDials told

-- whatever was done, where no link has failed
abbrev pub AllTell : (ℕ → Option Due) → List Link → Link → Stepped → Type 0
AllTell due links link (Ok done) = AreCalm done.0 → Tells due links link done.0 done.1
AllTell due links link (Err stop) = Unit {0}

-- So it is of each link of a host: no payload is put on any.
pub record Heeds (host : HostState) (told : List Step) (after : HostState) (new : ℕ → Address → List Placed) : Type 0 where
  pub given : (e : ℕ) (p : Address) → (link_with after e p).given ≡ (link_with host e p).given
  pub placed : (e : ℕ) (p : Address) → ArePlaced (new e p)
  pub silent : (e : ℕ) (p : Address) → words_in (new e p) ≡ []
  pub may : (e : ℕ) (p : Address) → MaySpell (bare (new e p))
  pub up : (e : ℕ) (p : Address) (sock : ℕ) (probed : Bool) → (link_with host e p).state ≡ states.Up sock probed → FromUp (link_with host e p) (link_with after e p) told (new e p) sock
  pub down : (e : ℕ) (p : Address) → is_up (link_with host e p).state ≡ false → FromDown (due_at host) (link_with host e p) (link_with after e p) told (new e p)
  pub where_up : (n : ℕ) → (pieces_at n told ≡ []) ⊎ (IsUpThere after n ⊎ IsAnswer (due_at host n) (pieces_at n told))
  pub alone : NoDials told

-- ---- what nodes make of it

-- no note tells that something was said
abbrev pub IsUnsaid : LocalEntry → Type 0
IsUnsaid (local.Note (notes.Said by to epoch index message)) = ⊥
IsUnsaid entry = Unit {0}

abbrev pub AreUnsaid : List LocalEntry → Type 0
AreUnsaid [] = Unit {0}
AreUnsaid (one ∷ rest) = IsUnsaid one × AreUnsaid rest

-- A node after which no pair has changed: none of its processes is gone, and none lives that didn't.
pub record NodeHears (was now : NodeState) : Type 0 where
  pub own : now.own ≡ was.own
  pub made : length was.mail ≤ length now.mail
  pub pairs : now.pairs ≡ was.pairs
  pub living : (by : ℕ) → is_living now (process_id now by) ≡ true → is_living was (process_id was by) ≡ true

abbrev pub NodesHear : Cell → Cell → Type 0
NodesHear cell after = (end : ℕ) (there : ℕ × NodeState) → find (is_at end) after.nodes ≡ Some there → (number : ℕ) × (was : NodeState) × (find (is_at end) cell.nodes ≡ Some (number, was)) × NodeHears was there.1

-- What follows at a cell as its host reads: all steps that are told are its host's, nothing is said, and its nodes only hear.
pub record Follows (cell : Cell) (done : List Step) (host : HostState) (told : List LocalEntry) (after : Cell) : Type 0 where
  pub same_host : after.host ≡ host
  pub pieces : (n : ℕ) → pieces_at n (steps_in told) ≡ pieces_at n done
  pub alone : NoDials done → NoDials (steps_in told)
  pub unsaid : AreUnsaid told
  pub nodes : NodesHear cell after
