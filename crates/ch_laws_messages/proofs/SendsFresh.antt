-- Where nothing has happened nothing waits, and no id is given.
use Rattle.std.proofs.Common.{◌≡◌, ℕ, Bool, true, false, cond, List, [], ◌∷◌, ◌++◌, length, map, refl, sym, ap, ◌∙◌, subst}
use Rattle.std.proofs.lemmas.Option.{slice_get-map}
use Rattle.std.specs.List.{list_any}
use Rattle.std.specs.Option.{option_map}
use Rattle.std.specs.Prelude.{find, slice_get, Option, Some, None}
use Rattle.ch_base.specs.declared.address.Address.{Address}
use Rattle.ch_model.specs.declared.line.Line.{Line}
use Rattle.ch_model.specs.Cell.{opened_for}
use Rattle.ch_model.specs.HostCalls.{host_new, host_open}
use Rattle.ch_model.specs.HostState.{Link, HostState}
use Rattle.ch_model.specs.HostSteps.{is_endpoint, is_link, link_or_new}
use Rattle.ch_model.specs.NodeState.{NodeState}
use Rattle.ch_model.specs.World.{nodes_of, first_of_hosts, cell_at, world_new}
use Rattle.ch_model.specs.WorldState.{Cell, Named}
use Rattle.ch_race.specs.Pair.{other}
use Rattle.ch_laws_race.specs.Scene.{host_in}
use Rattle.ch_laws_messages.specs.SendsSends.{LinksWeighed, AllGive}

abbrev opened_or : HostState → ℕ → Bool → Bool × HostState
opened_or host end b = cond b (false, host) (true, record host { ends = host.ends ++ record { number = end; is_open = true; arrived = 0 } ∷ [] })

opened_links : (end : ℕ) (host : HostState) → (host_open host end).1.links ≡ host.links
unfolding host_open
opened_links end host = by_test (list_any (is_endpoint end) host.ends) where
  by_test : (b : Bool) → (opened_or host end b).1.links ≡ host.links
  by_test true = refl
  by_test false = refl

all_links : (nodes : List (ℕ × NodeState)) (host : HostState) → (opened_for nodes host).links ≡ host.links
all_links [] host = refl
all_links (node ∷ rest) host = all_links rest (host_open host node.0).1 ∙ opened_links node.0 host

new_links : (journal : List Line) (at : Address) → (cell_at journal at).host.links ≡ []
new_links journal at = all_links (cell_at journal at).nodes (host_new at.host at.port (map (λ (named : Named). named.address.host) (nodes_of journal)))

-- no host of the world has a link
none_there : (journal : List Line) (o : Option Address) → (host_in (option_map (λ (a : Address). (cell_at journal a, 0)) o)).links ≡ []
none_there journal None = refl
none_there journal (Some at) = new_links journal at

none_at : (journal : List Line) (q : ℕ) → (host_in (slice_get (world_new journal).cells q)).links ≡ []
none_at journal q = ap (λ (o : Option (Cell × ℕ)). (host_in o).links) (slice_get-map (λ (a : Address). (cell_at journal a, 0)) (first_of_hosts [] (nodes_of journal)) q) ∙ none_there journal (slice_get (first_of_hosts [] (nodes_of journal)) q)

pub fresh_give : (journal : List Line) → AllGive journal [] (world_new journal)
fresh_give journal = record {
  weighed = λ q cell at. subst LinksWeighed (sym (ap (λ (o : Option (Cell × ℕ)). (host_in o).links) (sym at) ∙ none_at journal q)) tt;
  level = λ party pair x. ap (λ (l : List Link). length (link_or_new (party x).address.id (party (other x)).address (find (is_link (party x).address.id (party (other x)).address) l)).given) (none_at journal (party x).place);
}
