-- The place of a link in the list of a host's links.
use Rattle.std.specs.Prelude.{◌≡◌, ℕ, ◌<◌, Bool, true, false, List, [], ◌∷◌, None, length, slice_index_or, slice_set, find}
use Rattle.ch_base.specs.declared.address.Address.{Address}
use Rattle.ch_link.specs.declared.LinkState.{LinkState}
use Rattle.ch_link.specs.declared.LinkState.TheVariants.{Idle}
use Rattle.ch_model.specs.HostState.{Link}
use Rattle.ch_model.specs.HostSteps.{is_link, link_or_new, store_link}

-- a link has no socket, and wants none
abbrev pub is_idle : LinkState → Bool
is_idle Idle = true
is_idle state = false

-- no two links are of one key
abbrev pub Apart : List Link → Type 0
Apart [] = Unit {0}
Apart (link ∷ rest) = (find (is_link link.end link.peer) rest ≡ None) × Apart rest

-- The link of this key stands at that place, and what is written there is stored in the list as it was before.
pub record IsPlaceOf (end : ℕ) (peer : Address) (old new : List Link) (place : ℕ) : Type 0 where
  pub within : place < length new
  pub value : (d : Link) → slice_index_or new place d ≡ link_or_new end peer (find (is_link end peer) old)
  pub stores : (link : Link) → link.end ≡ end → link.peer ≡ peer → slice_set new place link ≡ store_link link old
  pub keeps : (link : Link) → link.end ≡ end → link.peer ≡ peer → Apart (slice_set new place link)
