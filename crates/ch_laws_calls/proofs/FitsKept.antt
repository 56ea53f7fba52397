-- That frames fit is kept by whatever happens in a sound world, and holds where nothing has happened.
use Rattle.std.proofs.Common.{◌≡◌, ℕ, zero, suc, Bool, true, false, cond, List, [], ◌∷◌, ◌++◌, map, refl, sym, subst}
use Rattle.std.specs.List.{list_any}
use Rattle.std.specs.Prelude.{slice_get, Some}
use Rattle.ch_base.specs.declared.address.Address.{Address}
use Rattle.ch_model.specs.declared.entry.Entry.{Entry}
use Rattle.ch_model.specs.declared.line.Line.{Line}
use Rattle.ch_model.specs.Cell.{opened_for}
use Rattle.ch_model.specs.HostCalls.{host_open}
use Rattle.ch_model.specs.HostState.{Link, HostState}
use Rattle.ch_model.specs.HostSteps.{is_endpoint, new_link}
use Rattle.ch_model.specs.NodeState.{NodeState}
use Rattle.ch_model.specs.World.{cell_at, world_new, first_of_hosts, nodes_of}
use Rattle.ch_model.specs.WorldState.{Cell, World}
use Rattle.ch_laws_calls.specs.Calls.{KeepsCalls}
use Rattle.ch_laws_calls.specs.Sound.{Sound}
use Rattle.ch_laws_writes.specs.Orderly.{link_at}
use Rattle.ch_laws_calls.specs.FitsFit.{LinkHolds, HostHolds, Fit}
use Rattle.ch_laws_calls.proofs.FitsCalled.{connected_fits, sent_fits, closed_fits, ended_fits, item_fits, joined_fits}
use Rattle.ch_laws_calls.proofs.FitsHanded.{came_fits, fed_fits, seated_fits}

-- the log says nothing of it
told_more : (journal : List Line) (log more : List Entry) (world : World) → Fit journal log world → Fit journal more world
told_more journal log more world j = record { hosts = j.hosts; ends = j.ends }

pub fit_kept : (journal : List Line) → KeepsCalls journal (Sound journal) (Sound journal) (Fit journal)
fit_kept journal = record {
  marked = λ log world number answer p j q. told_more journal log _ world j;
  noted = λ log world note p j q. record { hosts = j.hosts; ends = λ s w e found may. j.ends s w e found (record { place = may.place; cell = may.cell; may = may.may }) };
  seated = λ log world place cell nodes at seats p j q. seated_fits journal log log world place cell nodes at j;
  connected = λ log world place cell end peer conn told host at is p j q. connected_fits journal log _ world place cell end peer conn told host at is p j q;
  sent = λ log world place cell end conn payload weight told host at is p j q. sent_fits journal log _ world place cell end conn payload weight told host at is p j q;
  closed = λ log world place cell end conn told host at is p j q. closed_fits journal log _ world place cell end conn told host at is p j q;
  joined = λ log world socket place n cell told host is can held c read p j q. joined_fits journal log _ world socket place n cell told host is can c p j q;
  came = λ log world socket place cell told host is can at_cell c read p j q. came_fits journal log _ world socket place cell told host is can at_cell c p j;
  fed = λ log world socket which count b bytes place n cell told host is can taken held c read p j q. fed_fits journal log _ world socket which count b bytes place n cell told host is can taken held c p j;
  ended = λ log world socket which place n cell told host is can none held c read p j q. ended_fits journal log _ world place cell n told host c p j q;
  item = λ log world place cell told host at is p j q. item_fits journal log _ world place cell told host at is p j q;
}

-- ---- where nothing has happened

new_holds : (end : ℕ) (peer : Address) → LinkHolds (new_link end peer)
new_holds end peer = record { payloads = tt; up = λ h. refl; gives = λ h. refl; created = λ h. refl }

no_links : (host : HostState) → host.links ≡ [] → HostHolds host
no_links host none end peer = subst (λ (l : List Link). LinkHolds (link_at l end peer)) (sym none) (new_holds end peer)

opened_links : (nodes : List (ℕ × NodeState)) (host : HostState) → host.links ≡ [] → (opened_for nodes host).links ≡ []
unfolding host_open
opened_links [] host e = e
opened_links (node ∷ rest) host e = opened_links rest (host_open host node.0).1 (by_test (list_any (is_endpoint node.0) host.ends)) where
  by_test : (b : Bool) → (cond {A = Bool × HostState} b (false, host) (true, record host { ends = host.ends ++ record { number = node.0; is_open = true; arrived = 0 } ∷ [] })).1.links ≡ []
  by_test true = e
  by_test false = e

fresh_hosts : (journal : List Line) (addresses : List Address) (place : ℕ) (cell : Cell × ℕ) → slice_get (map (λ (address : Address). (cell_at journal address, 0)) addresses) place ≡ Some cell → HostHolds cell.0.host
fresh_hosts journal [] place cell e = absurd cc
fresh_hosts journal (address ∷ rest) zero cell e = let is : (cell_at journal address, 0) ≡ cell = cc in subst (λ (c : Cell × ℕ). HostHolds c.0.host) is (no_links (cell_at journal address).host (opened_links (cell_at journal address).nodes _ refl))
fresh_hosts journal (address ∷ rest) (suc place) cell e = fresh_hosts journal rest place cell e

pub fresh_fit : (journal : List Line) → Fit journal [] (world_new journal)
fresh_fit journal = record { hosts = λ place cell at. fresh_hosts journal (first_of_hosts [] (nodes_of journal)) place cell at; ends = λ s w e found may. absurd cc }
