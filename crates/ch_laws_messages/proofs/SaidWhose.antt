-- Whose end a link of a cell is up on: an end of x towards the other, on which a link of a cell is up, is one that x's link with the other is up on.
use Rattle.std.proofs.Common.{◌≡◌, ℕ, Bool, true, false, ◌&&◌, refl, sym, ap, ◌∙◌, subst}
use Rattle.std.proofs.lemmas.Bool.{and_parts}
use Rattle.std.specs.Prelude.{find, slice_get, Option, Some, ◌==◌}
use Rattle.ch_link.specs.declared.LinkState.TheVariants as states
use Rattle.ch_model.specs.declared.name.End.{End}
use Rattle.ch_model.specs.declared.name.SockName.{SockName}
use Rattle.ch_model.specs.HostState.{HostState}
use Rattle.ch_model.specs.HostSteps.{link_with}
use Rattle.ch_model.specs.Same.{is_end_of}
use Rattle.ch_model.specs.WorldSockets as ends
use Rattle.ch_model.specs.WorldSockets.{end_of, is_socket_named, find_end}
use Rattle.ch_model.specs.WorldState.{Cell, WorldSocket, World}
use Rattle.ch_race.specs.Pair.{Side, other}
use Rattle.ch_laws_calls.specs.Scenes.{IsOthersLink, SceneFacts}
use Rattle.ch_laws_ends.proofs.Found.{EachFound}
use Rattle.ch_laws_links.specs.Naming.{IsNaming}
use Rattle.ch_laws_links.proofs.Says.{risen}
use Rattle.ch_laws_log.proofs.Stored.{find_name}
use Rattle.ch_laws_plain.specs.Talks.{IsUpThere}
use Rattle.ch_laws_race.specs.Scene.{Party, host_in, hosts_of}
use Rattle.ch_laws_writes.proofs.Ordered.{is_key, at_key}
use Rattle.ch_laws_writes.proofs.Worlds.{number_is, number_same}
use Rattle.ch_laws_messages.proofs.SaidSides.{up_end, others_end, not_both}
use Rattle.ch_laws_messages.proofs.SaidTurned.{either_side, twice_is}

-- the node is of the cell, and its link is up on this end
pub record UpHere (party : Side → Party) (x : Side) (world : World) (place : ℕ) (host : HostState) (s : SockName) (e : End) : Type 0 where
  pub here : place ≡ (party x).place
  pub n : ℕ
  pub probed : Bool
  pub up : (link_with host (party x).address.id (party (other x)).address).state ≡ states.Up n probed
  pub found : find_end place n world.sockets ≡ Some (s, e)

one_found : {a b : SockName × End} → ◌≡◌ {A = Option (SockName × End)} (Some a) (Some b) → a ≡ b
one_found e = cc

module _ (world : World) (place : ℕ) (cell : Cell × ℕ) (at : slice_get world.cells place ≡ Some cell) (naming : IsNaming cell.0.host) (each : EachFound world.sockets) (party : Side → Party) (x : Side) (facts : SceneFacts party world) where
  host_at : (z : Side) → place ≡ (party z).place → hosts_of world (party z).place ≡ cell.0.host
  host_at z here = ap (λ (p : ℕ). host_in (slice_get world.cells p)) (sym here) ∙ ap host_in at

  pub whose : (s : SockName) (socket : WorldSocket) (e : End) (n : ℕ) → is_end_of (party x).name (party (other x)).name s e ≡ true → find (is_socket_named s) world.sockets ≡ Some socket → ends.is_end_of place n (end_of e socket) ≡ true → IsUpThere cell.0.host n → UpHere party x world place cell.0.host s e
  whose s socket e n theirs is of ut = by_own ((place == (party x).place) && is_key ut.end ut.peer (party x).address.id (party (other x)).address) refl where
    found : find_end place n world.sockets ≡ Some (s, e)
    found = each s socket e place n is of

    -- it is of the other
    of_other : place ≡ (party (other x)).place → is_key ut.end ut.peer (party (other x)).address.id (party (other (other x))).address ≡ true → ⊥
    of_other here key =
        let up : (link_with (hosts_of world (party (other x)).place) (party (other x)).address.id (party (other (other x))).address).state ≡ states.Up n ut.probed = ap (λ (h : HostState). (link_with h (party (other x)).address.id (party (other (other x))).address).state) (host_at (other x) here) ∙ sym (at_key (λ m q. (link_with cell.0.host ut.end ut.peer).state ≡ (link_with cell.0.host m q).state) ut.end ut.peer (party (other x)).address.id (party (other (other x))).address key refl) ∙ ut.up in
        let one = up_end party world (other x) n ut.probed facts each (subst IsNaming (sym (host_at (other x) here)) naming) up in
        let same : (one.s, one.e) ≡ (s, e) = one_found (sym one.found ∙ ap (λ (p : ℕ). find_end p n world.sockets) (sym here) ∙ found) in
        not_both party x s e facts.names_differ theirs (subst (λ (a : SockName × End). is_end_of (party (other x)).name (party x).name a.0 a.1 ≡ true) same (subst (λ (z : Side). is_end_of (party (other x)).name (party z).name one.s one.e ≡ true) (twice_is x) one.theirs))

    -- it is of neither
    of_none : ((place == (party x).place) && is_key ut.end ut.peer (party x).address.id (party (other x)).address) ≡ false → ((place == (party (other x)).place) && is_key ut.end ut.peer (party (other x)).address.id (party (other (other x))).address) ≡ false → ⊥
    of_none off away = let known = risen cell.0.host ut.end ut.peer n ut.probed naming ut.up in
        others_end party world place n cell known.0 ut.end ut.peer x s e socket facts at known.1 known.2.user (by_side x off away) is (find_name s world.sockets socket is) of theirs where
          not_key : (z : Side) → ((place == (party z).place) && is_key ut.end ut.peer (party z).address.id (party (other z)).address) ≡ false → (party z).place ≡ place → is_key ut.end ut.peer (party z).address.id (party (other z)).address ≡ false
          not_key z off here = sym (ap (λ (b : Bool). b && is_key ut.end ut.peer (party z).address.id (party (other z)).address) (ap (λ (p : ℕ). place == p) here ∙ number_same place)) ∙ off

          by_side : (x : Side) → ((place == (party x).place) && is_key ut.end ut.peer (party x).address.id (party (other x)).address) ≡ false → ((place == (party (other x)).place) && is_key ut.end ut.peer (party (other x)).address.id (party (other (other x))).address) ≡ false → IsOthersLink party place ut.end ut.peer
          by_side x off away z here = not_key z (either_side (λ z. ((place == (party z).place) && is_key ut.end ut.peer (party z).address.id (party (other z)).address) ≡ false) x z off away) here

    by_other : ((place == (party x).place) && is_key ut.end ut.peer (party x).address.id (party (other x)).address) ≡ false → (b : Bool) → ((place == (party (other x)).place) && is_key ut.end ut.peer (party (other x)).address.id (party (other (other x))).address) ≡ b → UpHere party x world place cell.0.host s e
    by_other off true h = let both = and_parts (place == (party (other x)).place) (is_key ut.end ut.peer (party (other x)).address.id (party (other (other x))).address) h in absurd (of_other (number_is place (party (other x)).place both.0) both.1)
    by_other off false h = absurd (of_none off h)

    by_own : (b : Bool) → ((place == (party x).place) && is_key ut.end ut.peer (party x).address.id (party (other x)).address) ≡ b → UpHere party x world place cell.0.host s e
    by_own true h = let both = and_parts (place == (party x).place) (is_key ut.end ut.peer (party x).address.id (party (other x)).address) h in record {
      here = number_is place (party x).place both.0;
      n = n;
      probed = ut.probed;
      up = sym (at_key (λ m q. (link_with cell.0.host ut.end ut.peer).state ≡ (link_with cell.0.host m q).state) ut.end ut.peer (party x).address.id (party (other x)).address both.1 refl) ∙ ut.up;
      found = found;
    }
    by_own false h = by_other h ((place == (party (other x)).place) && is_key ut.end ut.peer (party (other x)).address.id (party (other (other x))).address) refl
