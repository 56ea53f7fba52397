-- What an endpoint puts on its link with a peer, step by step: it is written, or it waits.
use Rattle.std.specs.Prelude.{◌≡◌, ◌⊎◌, ℕ, Bool, false, cond, List, [], ◌∷◌, ◌++◌, map, Result, Ok, Err}
use Rattle.ch_base.specs.declared.address.Address.{Address}
use Rattle.ch_wire.specs.Spelling.{frame_spelling}
use Rattle.ch_link.specs.declared.LinkState.TheVariants as states
use Rattle.ch_model.specs.declared.step.Step.{Step}
use Rattle.ch_model.specs.declared.step.Step.TheVariants as steps
use Rattle.ch_model.specs.HostState.{Link, HostState}
use Rattle.ch_model.specs.HostSteps.{link_with}
use Rattle.ch_model.specs.HostWrites.{is_up}
use Rattle.ch_laws_writes.proofs.Ordered.{is_key}
use Rattle.ch_laws_calls.specs.FitsTurns.{NoDials}
use Rattle.ch_laws_ids.specs.Runs.{pieces_at}
use Rattle.ch_laws_plain.specs.Talks.{MaySpell, IsUpThere}
use Rattle.ch_laws_peers.specs.Words.{Placed, waiting_as}
use Rattle.ch_laws_messages.specs.SaidGoes.{bare}

-- a frame is written, with its place
abbrev pub write_step : ℕ → Placed → Step
write_step sock one = steps.Write sock (frame_spelling one.0) one.1

-- nothing is told; or the link was idle, and dials
abbrev pub DialsFrom : Link → Link → List Step → Type 0
DialsFrom one two told = ((told ≡ []) × (two.state ≡ one.state)) ⊎ ((one.state ≡ states.Idle) × ((sock : ℕ) × (end : ℕ) × (peer : Address) × (told ≡ steps.Dial sock end peer ∷ []) × (two.state ≡ states.Dialing sock)))

-- These are put on the link: where it is up they are written, one after another, and it stays up there; else they wait.
pub record Puts (host : HostState) (end : ℕ) (peer : Address) (new : List Placed) (told : List Step) (after : HostState) : Type 0 where
  pub up : (sock : ℕ) (probed : Bool) → (link_with host end peer).state ≡ states.Up sock probed → ((link_with after end peer).state ≡ states.Up sock probed) × ((link_with after end peer).waits ≡ (link_with host end peer).waits) × (told ≡ map (write_step sock) new)
  pub down : is_up (link_with host end peer).state ≡ false → (is_up (link_with after end peer).state ≡ false) × (waiting_as (link_with after end peer).waits ≡ waiting_as (link_with host end peer).waits ++ new) × DialsFrom (link_with host end peer) (link_with after end peer) told
  pub others : (e : ℕ) (p : Address) → is_key end peer e p ≡ false → link_with after e p ≡ link_with host e p

-- whatever was done
abbrev pub AllPut : {E : Type 0} → HostState → ℕ → Address → List Placed → Result (List Step × HostState) E → Type 0
AllPut host end peer new (Ok done) = Puts host end peer new done.0 done.1
AllPut host end peer new (Err e) = Unit {0}

-- ---- all that a host does in a turn

-- the pieces that frames are
abbrev pub spelled : List Placed → List (List ℕ)
spelled new = map (λ (one : Placed). frame_spelling one.0) new

-- On each link these are put: where it is up they are written, and it stays up there; else they wait. Nothing is written else.
pub record Utters (host : HostState) (told : List Step) (after : HostState) (new : ℕ → Address → List Placed) : Type 0 where
  pub up : (e : ℕ) (p : Address) (sock : ℕ) (probed : Bool) → (link_with host e p).state ≡ states.Up sock probed → ((now : Bool) × ((link_with after e p).state ≡ states.Up sock now)) × ((link_with after e p).waits ≡ (link_with host e p).waits) × (pieces_at sock told ≡ spelled (new e p))
  pub down : (e : ℕ) (p : Address) → is_up (link_with host e p).state ≡ false → (is_up (link_with after e p).state ≡ false) × (waiting_as (link_with after e p).waits ≡ waiting_as (link_with host e p).waits ++ new e p)
  pub where_up : (n : ℕ) → (pieces_at n told ≡ []) ⊎ IsUpThere host n
  pub may : (e : ℕ) (p : Address) → MaySpell (bare (new e p))

-- nothing is dialed, or one socket, and that is all
abbrev pub DialsOne : List Step → Type 0
DialsOne told = NoDials told ⊎ ((sock : ℕ) × (end : ℕ) × (peer : Address) × (told ≡ steps.Dial sock end peer ∷ []))

-- of this link alone
abbrev pub only_on : ℕ → Address → List Placed → ℕ → Address → List Placed
only_on end peer new e p = cond (is_key end peer e p) new []
