-- An item that is read on a socket that isn't between two nodes shows nothing of them.
use Rattle.std.specs.Prelude.{◌≡◌, ℕ, true, false, ◌&&◌, ◌==◌, List, find, slice_get, Option, Some, None, Ok}
use Rattle.std.proofs.Common.{refl, ap, sym, ◌∙◌, subst}
use Rattle.std.proofs.lemmas.Bool.{and_parts}
use Rattle.ch_base.specs.declared.address.Address.{Address}
use Rattle.ch_link.specs.Sockets.{names}
use Rattle.ch_watch.specs.Same.{same_node}
use Rattle.ch_model.specs.declared.entry.Entry.{Entry}
use Rattle.ch_model.specs.declared.line.Line.{Line}
use Rattle.ch_model.specs.declared.step.Step.{Step}
use Rattle.ch_model.specs.Host.{front_of, handles}
use Rattle.ch_model.specs.HostState.{Socket, HostState}
use Rattle.ch_model.specs.HostSteps.{is_socket, link_with}
use Rattle.ch_model.specs.Stages.{is_ended}
use Rattle.ch_model.specs.WorldSockets.{end_of, is_end_of}
use Rattle.ch_model.specs.WorldState.{Cell, World}
use Rattle.ch_race.specs.Pair.{Side, other}
use Rattle.ch_laws_log.proofs.Keys.{node_is}
use Rattle.ch_laws_log.proofs.Stored.{number_is}
use Rattle.ch_laws_writes.specs.Orderly.{user_of}
use Rattle.ch_laws_race.specs.Others.{IsUnseen, IsFree, IsAway}
use Rattle.ch_laws_race.specs.Scene.{Party, hosts_of, host_in, host_of}
use Rattle.ch_laws_race.proofs.Keys.{link_named}
use Rattle.ch_laws_race.proofs.OtherReads.{reads_elsewhere}
use Rattle.ch_laws_race.proofs.Sockets.{by_test}
use Rattle.ch_laws_calls.specs.Scenes.{IsOthersLink, scene_of, SceneFacts}
use Rattle.ch_laws_calls.specs.Sound.{Sound}

module _ (journal : List Line) (log : List Entry) (party : Side → Party) (world : World) (sound : Sound journal log world) (facts : SceneFacts party world) (place : ℕ) (cell : Cell × ℕ) (at : slice_get world.cells place ≡ Some cell) where
  -- another link than the two's is on no socket between them
  away : (end : ℕ) (peer : Address) → IsOthersLink party place end peer → IsAway (scene_of party world) place (link_with (hosts_of world place) end peer)
  away end peer others = record {
    key = λ z here. ap (λ (n : ℕ). (n == (party z).address.id) && same_node (link_with (hosts_of world place) end peer).peer (party (other z)).address) (link_named (hosts_of world place) end peer).0
        ∙ ap (λ (a : Address). (end == (party z).address.id) && same_node a (party (other z)).address) (link_named (hosts_of world place) end peer).1 ∙ others z here;
    named = λ m says. by_socket m (find (is_socket m) cell.0.host.sockets) refl
        (((sound.ends.flowing.orderly place cell at).links end peer).named m (subst (λ (h : HostState). names (link_with h end peer).state m ≡ true) (ap host_in at) says));
  } where
    by_socket : (m : ℕ) (o : Option Socket) → find (is_socket m) cell.0.host.sockets ≡ o → user_of o ≡ Some (end, peer) → IsFree (scene_of party world) place m
    by_socket m None found user = absurd cc
    by_socket m (Some known) found user = facts.others place m cell known end peer at found user others

  -- a record of no end between the two is of another link
  others_link : (known : Socket) (end : ℕ) (peer : Address) → find (is_socket known.number) cell.0.host.sockets ≡ Some known → IsFree (scene_of party world) place known.number → known.user ≡ Some (end, peer) → IsOthersLink party place end peer
  others_link known end peer found free user z here = by_test ((end == (party z).address.id) && same_node peer (party (other z)).address) (λ h. absurd (clash h)) (λ h. h) where
    there : find (is_socket known.number) (host_of (scene_of party world) z).sockets ≡ Some known
    there = ap (λ (p : ℕ). find (is_socket known.number) (hosts_of world p).sockets) here ∙ ap (λ (h : HostState). find (is_socket known.number) h.sockets) (ap host_in at) ∙ found

    clash : ((end == (party z).address.id) && same_node peer (party (other z)).address) ≡ true → ⊥
    clash h =
        let keys = and_parts (end == (party z).address.id) (same_node peer (party (other z)).address) h in
        let own : known.user ≡ Some ((party z).address.id, (party (other z)).address) = user ∙ ap (λ (n : ℕ). Some (n, peer)) (number_is end (party z).address.id keys.0) ∙ ap (λ (a : Address). Some ((party z).address.id, a)) (node_is peer (party (other z)).address keys.1) in
        let its = facts.between z known.number known there own in
        let no = sym its.3.end ∙ ap (λ (p : ℕ). is_end_of p known.number (end_of its.2 its.1)) here ∙ free its.0 its.1 its.3.at its.3.between its.2 in absurd cc

  pub elsewhere : (known : Socket) (told : List Step) (after : HostState) → find (is_socket known.number) cell.0.host.sockets ≡ Some known → IsFree (scene_of party world) place known.number → is_ended known.stage ≡ false
      → handles known (front_of known) cell.0.host ≡ Ok (told, after) → IsUnseen (scene_of party world) place cell (Ok (told, after))
  elsewhere known told after found free unended does = reads_elsewhere (scene_of party world) place cell known (record {
    there = at;
    known = facts.known;
    free = free;
    user = λ end peer user. away end peer (others_link known end peer found free user);
    request = λ r front. away r.target r.from (facts.other_request place known.number cell known r at found free unended front);
  }) (told, after) (ap (λ (h : HostState). handles known (front_of known) h) (ap host_in at) ∙ does)
