-- Timers of links, as the world sees them.
use Rattle.std.specs.Prelude.{ℕ, Bool, false, ◌==◌, List, [], map, filter, Some, None, slice_get}
use Rattle.std.specs.List.{flat_map}
use Rattle.ch_base.specs.declared.address.Address.{Address}
use Rattle.ch_model.specs.HostCalls.{host_timer_runs}
use Rattle.ch_model.specs.WorldState.{World}
use Rattle.ch_model.specs.Naming.{called, named_as}
use Rattle.ch_model.specs.WorldSockets.{cell_of}

-- the timer of a node's link with a peer runs
abbrev pub timer_runs_for : World → List ℕ → List ℕ → Bool
timer_runs_for world node peer =
    let own = (named_as world.names node).address in
    elim (cell_of world own) [
      | None ↦ false
      | Some place ↦ elim (slice_get world.cells place) [
        | None ↦ false
        | Some cell ↦ host_timer_runs cell.0.host own.id (named_as world.names peer).address
      ]
    ]

-- the peers of a node, in order of first use
abbrev pub peers_of : World → Address → List (List ℕ)
peers_of world own = elim (cell_of world own) [
  | None ↦ []
  | Some place ↦ elim (slice_get world.cells place) [
    | None ↦ []
    | Some cell ↦ map (λ link. called world.names link.peer) (filter (λ link. link.end == own.id) cell.0.host.links)
  ]
]

-- each node, in order of declaration, with each of its peers, in order of first use
abbrev pub all_links : World → List (List ℕ × List ℕ)
all_links world = flat_map (λ named. map (λ peer. (named.name, peer)) (peers_of world named.address)) (filter (λ named. named.is_node) world.names)
