-- Links that have begun: they dial, wait for the peer's dial, or are up.
use Rattle.std.specs.Prelude.{◌≡◌, ℕ, Bool, true, false, ◌&&◌, ◌==◌, List}
use Rattle.std.specs.List.{list_any}
use Rattle.ch_base.specs.declared.address.Address.{Address}
use Rattle.ch_link.specs.declared.LinkState.{LinkState}
use Rattle.ch_link.specs.declared.LinkState.TheVariants.{Idle}
use Rattle.ch_watch.specs.Same.{same_node}
use Rattle.ch_model.specs.declared.step.Step.{Step}
use Rattle.ch_model.specs.declared.step.Step.TheVariants as steps
use Rattle.ch_model.specs.HostState.{HostState}
use Rattle.ch_model.specs.HostSteps.{link_with}

-- the link hasn't begun
abbrev pub is_idle : LinkState → Bool
is_idle Idle = true
is_idle state = false

-- the step dials a socket for the link of this endpoint with this peer
abbrev pub is_dial_for : ℕ → Address → Step → Bool
is_dial_for end peer (steps.Dial sock own other) = (own == end) && same_node other peer
is_dial_for end peer step = false

-- one of these steps does
abbrev pub has_dial_for : ℕ → Address → List Step → Bool
has_dial_for end peer told = list_any (is_dial_for end peer) told

-- Of a host's call: no link that has begun is idle after it; and each link that is dialed for was idle, and isn't.
pub record GoesOn (before : HostState) (told : List Step) (after : HostState) : Type 0 where
  pub kept : (end : ℕ) (peer : Address) → is_idle (link_with before end peer).state ≡ false → is_idle (link_with after end peer).state ≡ false
  pub dials : (end : ℕ) (peer : Address) → has_dial_for end peer told ≡ true → (is_idle (link_with before end peer).state ≡ true) × (is_idle (link_with after end peer).state ≡ false)
