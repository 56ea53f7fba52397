-- What stands whole ends within what was fed last: where nothing has happened, and turn by turn.
use Rattle.std.proofs.Common.{◌≡◌, ℕ, zero, suc, Bool, true, false, cond, List, [], ◌∷◌, ◌++◌, map, refl, sym, ap, ◌∙◌, subst}
use Rattle.std.specs.List.{list_any}
use Rattle.std.specs.Prelude.{find, slice_get, Some}
use Rattle.ch_base.specs.declared.address.Address.{Address}
use Rattle.ch_model.specs.declared.line.Line.{Line}
use Rattle.ch_model.specs.Cell.{opened_for}
use Rattle.ch_model.specs.HostCalls.{host_open}
use Rattle.ch_model.specs.HostState.{Socket, HostState}
use Rattle.ch_model.specs.HostSteps.{is_endpoint, is_socket}
use Rattle.ch_model.specs.NodeState.{NodeState}
use Rattle.ch_model.specs.World.{cell_at, world_new, first_of_hosts, nodes_of}
use Rattle.ch_model.specs.WorldState.{Cell}
use Rattle.ch_laws_calls.specs.Calls.{Anything, Both}
use Rattle.ch_laws_calls.specs.Sound.{Sound}
use Rattle.ch_laws_calls.proofs.Together.{Combines, given_first}
use Rattle.ch_laws_risen.proofs.Kept.{fresh_risen, sound_kept}
use Rattle.ch_laws_calls.specs.Turns.{KeepsTurns}
use Rattle.ch_laws_calls.proofs.TurnsOfCalls.{by_calls}
use Rattle.ch_laws_calls.proofs.TurnsTogether as turns
use Rattle.ch_laws_peers.specs.Standing.{IsOfNodes, Standing}
use Rattle.ch_laws_messages.specs.ArrivedFed.{LastFed}
use Rattle.ch_laws_messages.proofs.ArrivedEmpty.{HostHoldsNone}
use Rattle.ch_laws_messages.proofs.ArrivedKept.{last_kept}

-- ---- where nothing has happened

no_sockets : (host : HostState) → host.sockets ≡ [] → HostHoldsNone host
no_sockets host none n known found p = let no : find (is_socket n) [] ≡ Some known = ap (λ (l : List Socket). find (is_socket n) l) (sym none) ∙ found in absurd cc

opened_sockets : (nodes : List (ℕ × NodeState)) (host : HostState) → host.sockets ≡ [] → (opened_for nodes host).sockets ≡ []
unfolding host_open
opened_sockets [] host e = e
opened_sockets (node ∷ rest) host e = opened_sockets rest (host_open host node.0).1 (by_test (list_any (is_endpoint node.0) host.ends)) where
  by_test : (b : Bool) → (cond {A = Bool × HostState} b (false, host) (true, record host { ends = host.ends ++ record { number = node.0; is_open = true; arrived = 0 } ∷ [] })).1.sockets ≡ []
  by_test true = e
  by_test false = e

fresh_hosts : (journal : List Line) (addresses : List Address) (place : ℕ) (cell : Cell × ℕ) → slice_get (map (λ (address : Address). (cell_at journal address, 0)) addresses) place ≡ Some cell → HostHoldsNone cell.0.host
fresh_hosts journal [] place cell e = absurd cc
fresh_hosts journal (address ∷ rest) zero cell e = let is : (cell_at journal address, 0) ≡ cell = cc in subst (λ (c : Cell × ℕ). HostHoldsNone c.0.host) is (no_sockets (cell_at journal address).host (opened_sockets (cell_at journal address).nodes _ refl))
fresh_hosts journal (address ∷ rest) (suc place) cell e = fresh_hosts journal rest place cell e

pub fresh_last : (journal : List Line) → LastFed [] (world_new journal)
fresh_last journal = record {
  risen = fresh_risen journal;
  ends = λ s socket e reader found. absurd cc;
  empty = λ place cell n known at found p. fresh_hosts journal (first_of_hosts [] (nodes_of journal)) place cell at n known found p;
}

-- ---- turns

pub last_turns : (journal : List Line) → IsOfNodes journal → KeepsTurns journal (Standing journal) (Standing journal) LastFed
last_turns journal nodes = turns.combined gives by_turns by_turns where
  gives : Combines (Standing journal) (Standing journal) LastFed Anything Anything (Both (Sound journal) LastFed) Anything Anything (Both (Sound journal) LastFed)
  gives l m w v p j q f g = (f tt (p.all.sound, j) tt).1

  by_turns : KeepsTurns journal Anything Anything (Both (Sound journal) LastFed)
  by_turns = by_calls journal (Both (Sound journal) LastFed) (given_first (sound_kept journal nodes.is) (last_kept journal))
