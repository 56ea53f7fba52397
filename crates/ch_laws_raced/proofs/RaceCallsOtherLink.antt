-- What is asked of a link that isn't the one of two nodes is unseen.
use Rattle.std.specs.Prelude.{◌≡◌, ℕ, suc, Bool, true, false, cond, ◌&&◌, ◌==◌, List, [], ◌∷◌, find, slice_get, Option, Some, None, Ok}
use Rattle.std.specs.List.{list_any}
use Rattle.std.proofs.Common.{refl, ap, sym, ◌∙◌, subst}
use Rattle.ch_base.specs.declared.address.Address.{Address}
use Rattle.ch_link.specs.Sockets.{names}
use Rattle.ch_link.specs.declared.LinkState.{LinkState}
use Rattle.ch_link.specs.declared.LinkState.TheVariants.{Up}
use Rattle.ch_watch.specs.Same.{same_node}
use Rattle.ch_wire.specs.declared.frame.Frame.{Frame}
use Rattle.ch_model.specs.declared.name.End.{End}
use Rattle.ch_model.specs.declared.name.End.TheVariants.{O, T}
use Rattle.ch_model.specs.declared.name.SockName.{SockName}
use Rattle.ch_model.specs.declared.step.Step.{Step}
use Rattle.ch_model.specs.declared.step.Weight.{Weight}
use Rattle.ch_model.specs.HostCalls.{puts_and_wants}
use Rattle.ch_model.specs.HostLinks.{next_dial}
use Rattle.ch_model.specs.HostState.{Link, Socket, HostState}
use Rattle.ch_model.specs.HostSteps.{is_socket, own_address, link_with}
use Rattle.ch_model.specs.HostWrites.{puts}
use Rattle.ch_model.specs.Naming.{called}
use Rattle.ch_model.specs.Same.{is_between}
use Rattle.ch_model.specs.WorldSockets.{end_of, is_end_of, find_end, next_name}
use Rattle.ch_model.specs.WorldState.{Cell, WorldSocket, World}
use Rattle.ch_race.specs.Pair.{Side, Lesser, Greater, other}
use Rattle.ch_laws_writes.specs.Orderly.{user_of, IsOrderly}
use Rattle.ch_laws_race.specs.Others.{IsElsewhere, IsNew, IsOtherLink, IsUnseen}
use Rattle.ch_laws_race.specs.Scene.{Party, Scene, host_in, hosts_of}
use Rattle.ch_laws_race.specs.View.{has_end}
use Rattle.ch_laws_race.proofs.Keys.{wrong}
use Rattle.ch_laws_race.proofs.OtherLinks.{asks_other, puts_other}
use Rattle.ch_laws_race.proofs.Sockets.{by_test}
use Rattle.ch_laws_race.proofs.Views.{self_number}
use Rattle.ch_laws_calls.specs.Scenes.{SceneFacts, IsOthersLink, scene_of}

-- ---- whose a socket is

-- a socket that a host has, and that is for this link
pub record IsUsed (end : ℕ) (peer : Address) (o : Option Socket) : Type 0 where
  pub known : Socket
  pub found : o ≡ Some known
  pub user : known.user ≡ Some (end, peer)

pub used_by : (end : ℕ) (peer : Address) (o : Option Socket) → user_of o ≡ Some (end, peer) → IsUsed end peer o
used_by end peer (Some known) h = record { known = known; found = refl; user = h }
used_by end peer None h = absurd cc

-- the state names its socket
pub names_up : (state : LinkState) (n : ℕ) (probed : Bool) → state ≡ Up n probed → names state n ≡ true
names_up state n probed is = ap (λ (k : LinkState). names k n) is ∙ self_number n

-- an end that is free of the two is elsewhere
at_elsewhere : (party : Side → Party) (place m : ℕ) (u : WorldSocket) → (is_between (party Lesser).name (party Greater).name u.name ≡ true → (e : End) → is_end_of place m (end_of e u) ≡ false)
    → (rest : Option (SockName × End)) → IsElsewhere party rest → (o t : Bool) → is_end_of place m u.o ≡ o → is_end_of place m u.t ≡ t → IsElsewhere party (elim (cond o (Some O) (cond t (Some T) None)) as (λ z. Option (SockName × End)) [ None ↦ rest | Some e ↦ Some (u.name, e) ])
at_elsewhere party place m u free rest later true t is_o is_t = by_test (is_between (party Lesser).name (party Greater).name u.name) (λ own. wrong (sym is_o ∙ free own O)) (λ off. off)
at_elsewhere party place m u free rest later false true is_o is_t = by_test (is_between (party Lesser).name (party Greater).name u.name) (λ own. wrong (sym is_t ∙ free own T)) (λ off. off)
at_elsewhere party place m u free rest later false false is_o is_t = later

elsewhere : (party : Side → Party) (place m : ℕ) (xs : List WorldSocket)
    → ((j : ℕ) (u : WorldSocket) → slice_get xs j ≡ Some u → is_between (party Lesser).name (party Greater).name u.name ≡ true → (e : End) → is_end_of place m (end_of e u) ≡ false)
    → IsElsewhere party (find_end place m xs)
elsewhere party place m [] free = tt
elsewhere party place m (u ∷ rest) free = at_elsewhere party place m u (λ own e. free 0 u refl own e) (find_end place m rest) (elsewhere party place m rest (λ j s at own e. free (suc j) s at own e))
    (is_end_of place m u.o) (is_end_of place m u.t) refl refl

-- ---- a link of others

module _ (party : Side → Party) (world : World) (facts : SceneFacts party world) (place : ℕ) (cell : Cell × ℕ) (there : slice_get world.cells place ≡ Some cell) (own : ℕ → Address) (orderly : IsOrderly own cell.0.host)
    (end : ℕ) (peer : Address) (off : IsOthersLink party place end peer) where
  abbrev S : Scene
  S = scene_of party world

  abbrev Base : Link
  Base = link_with cell.0.host end peer

  here : hosts_of world place ≡ cell.0.host
  here = ap host_in there

  up_elsewhere : (n : ℕ) (probed : Bool) → Base.state ≡ Up n probed → IsElsewhere party (find_end place n world.sockets)
  up_elsewhere n probed is = elsewhere party place n world.sockets (facts.others place n cell used.known end peer there used.found used.user off) where
    used : IsUsed end peer (find (is_socket n) cell.0.host.sockets)
    used = used_by end peer (find (is_socket n) cell.0.host.sockets) ((orderly.links end peer).named n (names_up Base.state n probed is))

  other_link : (link : Link) → link.end ≡ end → link.peer ≡ peer → link.state ≡ Base.state → IsOtherLink S place cell link
  other_link link ends peers state = record {
    there = there;
    known = facts.known;
    key = λ z q. ap (λ (n : ℕ). (n == (party z).address.id) && same_node link.peer (party (other z)).address) ends ∙ ap (λ (a : Address). (end == (party z).address.id) && same_node a (party (other z)).address) peers ∙ off z q;
    up = λ n probed is. up_elsewhere n probed (sym state ∙ is);
    new_number = λ is. ap (λ (h : HostState). list_any (has_end place (next_dial h)) world.sockets) here ∙ facts.next_free place cell there;
    new_name = λ is. subst (λ (n : SockName). IsNew party n world.sockets)
        (sym (ap (λ (h : HostState). next_name world (called world.names (own_address h link.end)) (called world.names link.peer)) here
        ∙ ap (λ (n : ℕ). next_name world (called world.names (own_address cell.0.host n)) (called world.names link.peer)) ends
        ∙ ap (λ (a : Address). next_name world (called world.names (own_address cell.0.host end)) (called world.names a)) peers))
        (facts.other_names place cell end peer there off, facts.new_name (called world.names (own_address cell.0.host end)) (called world.names peer));
  }

  module _ (item : Frame × Weight) (link : Link) (ends : link.end ≡ end) (peers : link.peer ≡ peer) (state : link.state ≡ Base.state) (d : List Step × HostState) where
    -- a frame is put, and the link wants a socket
    pub asks_unseen : puts_and_wants item link cell.0.host ≡ Ok d → IsUnseen S place cell (Ok d)
    asks_unseen so = asks_other S place cell item link (other_link link ends peers state) d (ap (λ (h : HostState). puts_and_wants item link h) here ∙ so)

    -- a frame is put alone
    pub puts_unseen : puts item link cell.0.host ≡ Ok d → IsUnseen S place cell (Ok d)
    puts_unseen so = puts_other S place cell item link (other_link link ends peers state) d (ap (λ (h : HostState). puts item link h) here ∙ so)
