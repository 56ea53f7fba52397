-- What is asked of the link of two nodes is seen as moves that may happen.
use Rattle.std.specs.Prelude.{◌≡◌, ℕ, Bool, true, false, List, [], ◌∷◌, length, find, nat_lt, slice_get, Some, Ok, Err, if◌then◌else◌}
use Rattle.std.specs.List.{list_any}
use Rattle.std.proofs.Common.{inl, inr, refl, ap, sym, ◌∙◌, subst}
use Rattle.ch_base.specs.declared.address.Address.{Address}
use Rattle.ch_base.specs.declared.memory.Stop.TheVariants as stops
use Rattle.ch_link.specs.Table.{step_of}
use Rattle.ch_link.specs.declared.LinkIn.TheVariants as inputs
use Rattle.ch_link.specs.declared.LinkState.{LinkState}
use Rattle.ch_link.specs.declared.LinkState.TheVariants.{Idle, Dialing, AwaitOther, Up}
use Rattle.ch_wire.specs.Spelling.{IsFrame}
use Rattle.ch_wire.specs.declared.frame.Frame.{Frame}
use Rattle.ch_model.specs.declared.name.End.{End}
use Rattle.ch_model.specs.declared.step.Step.{Step}
use Rattle.ch_model.specs.declared.step.Step.TheVariants as steps
use Rattle.ch_model.specs.declared.step.Weight.{Weight}
use Rattle.ch_model.specs.HostCalls.{puts_and_wants}
use Rattle.ch_model.specs.HostLinks as links
use Rattle.ch_model.specs.HostLinks.{most_dials, next_dial}
use Rattle.ch_model.specs.HostState.{Link, Socket, HostState}
use Rattle.ch_model.specs.HostSteps as host
use Rattle.ch_model.specs.HostSteps.{Stepped, is_socket, link_with, with_link}
use Rattle.ch_model.specs.HostWrites.{is_up, puts}
use Rattle.ch_model.specs.WorldState.{Cell, WorldSocket, World}
use Rattle.ch_race.specs.Moves.{Say, Want}
use Rattle.ch_race.specs.Pair as pair
use Rattle.ch_race.specs.Pair.{Side, other}
use Rattle.ch_laws_log.proofs.HostTold.{number_found}
use Rattle.ch_laws_writes.specs.Orderly.{LinkFits, IsOrderly}
use Rattle.ch_laws_race.specs.Asks.{IsRenewed, AsksUp, AsksIdle, asks_link}
use Rattle.ch_laws_race.specs.Calls.{puts_frame}
use Rattle.ch_laws_race.specs.Reading.{IsUser}
use Rattle.ch_laws_race.specs.Scene.{Party, Scene, host_in, host_of, link_of}
use Rattle.ch_laws_race.specs.Sound.{Acts}
use Rattle.ch_laws_race.specs.View.{frame_kind, has_end, is_shut}
use Rattle.ch_laws_race.proofs.Asks.{In, More_waits, Dialed, asks_up, puts_while_up, asks_waiting, puts_waiting}
use Rattle.ch_laws_race.proofs.Dials.{asks_idle}
use Rattle.ch_laws_race.proofs.Keys.{link_kept, link_named}
use Rattle.ch_laws_calls.specs.Scenes.{SceneFacts, IsMoved, scene_of}
use Rattle.ch_laws_raced.proofs.RaceCallsMoved.{world_after, moved_here}
use Rattle.ch_laws_raced.proofs.RaceCallsOtherLink.{IsUsed, used_by, names_up}

-- a host whose idle link wants a socket, where that isn't refused, has a dial left
dial_left : (item : Frame × Weight) (link : Link) (now : HostState) (d : List Step × HostState) → link.state ≡ Idle → puts_and_wants item link now ≡ Ok d → nat_lt now.dials most_dials ≡ true
unfolding step_of
dial_left item link now d is so = by_room (nat_lt now.dials most_dials) refl where
  full : Link
  full = More_waits item link Idle

  tried : Bool → Stepped
  tried b = host.after_steps [] (if b then Ok (steps.Dial (next_dial now) link.end link.peer ∷ [], Dialed item link now) else Err stops.Worn)

  wanted : puts_and_wants item link now ≡ tried (nat_lt now.dials most_dials)
  wanted = ap (λ (k : LinkState). puts_and_wants item (In link k) now) is ∙ ap (λ (z : Link). host.after_steps [] (links.hears (inputs.Want (next_dial now)) z (with_link full now))) (link_kept full now)

  none_left : tried false ≡ Ok d → ⊥
  none_left q = cc

  by_room : (b : Bool) → nat_lt now.dials most_dials ≡ b → b ≡ true
  by_room true room = refl
  by_room false worn = absurd (none_left (sym (ap tried worn) ∙ sym wanted ∙ so))

-- The link of the two at x, whose host is this one.
module _ (party : Side → Party) (world : World) (facts : SceneFacts party world) (x : Side) (cell : Cell × ℕ) (there : slice_get world.cells (party x).place ≡ Some cell) (own : ℕ → Address) (orderly : IsOrderly own cell.0.host) where
  abbrev S : Scene
  S = scene_of party world

  abbrev Own : HostState
  Own = host_of S x

  abbrev Number : ℕ
  Number = (party x).address.id

  abbrev Peer : Address
  Peer = (party (other x)).address

  abbrev L : Link
  L = link_of S x

  abbrev Moved : List Step × HostState → Type 0
  Moved d = IsMoved party world (world_after (party x).place cell world d)

  here : Own ≡ cell.0.host
  here = ap host_in there

  acts : Acts S x cell
  acts = facts.acts x cell there

  fits : LinkFits Own.sockets Number Peer L
  fits = subst (λ (h : HostState). LinkFits h.sockets Number Peer (link_with h Number Peer)) (sym here) (orderly.links Number Peer)

  module _ (item : Frame × Weight) (link : Link) (ends : link.end ≡ Number) (peers : link.peer ≡ Peer) (state : link.state ≡ (link_with cell.0.host Number Peer).state) (kinded : frame_kind item.0 ≡ pair.Data) (spelled : IsFrame item.0) where
    renewed : IsRenewed S x link
    renewed = let key = link_named Own Number Peer in record {
      end = ends ∙ sym key.0;
      peer = peers ∙ sym key.1;
      state = state ∙ sym (ap (λ (h : HostState). (link_with h Number Peer).state) here);
    }

    -- what the link is up on
    record UpOn (probed : Bool) : Type 0 where
      pub e : End
      pub i : ℕ
      pub socket : WorldSocket
      pub known : Socket
      pub asks : AsksUp S x cell e i socket known item link probed

    up_there : (known : Socket) (probed : Bool) → find (is_socket known.number) Own.sockets ≡ Some known → IsUser S x known → L.state ≡ Up known.number probed → UpOn probed
    up_there known probed found user is = let at = facts.between x known.number known found user in record {
      e = at.2;
      i = at.0;
      socket = at.1;
      known = known;
      asks = record {
        acts = acts;
        has = at.3;
        kept = found;
        renewed = renewed;
        up = is;
        payload = kinded;
        way = facts.takes_frame x at.2 at.0 known.number at.1 item.0 at.3 (fits.up known.number probed is) spelled;
      };
    }

    up_on : (n : ℕ) (probed : Bool) → L.state ≡ Up n probed → UpOn probed
    up_on n probed is = up_there used.known probed (subst (λ (m : ℕ). find (is_socket m) Own.sockets ≡ Some used.known) (sym number) used.found) used.user (is ∙ ap (λ (m : ℕ). Up m probed) (sym number)) where
      used : IsUsed Number Peer (find (is_socket n) Own.sockets)
      used = used_by Number Peer (find (is_socket n) Own.sockets) (fits.named n (names_up L.state n probed is))

      number : used.known.number ≡ n
      number = number_found n Own.sockets used.known used.found

    module _ (d : List Step × HostState) where
      -- a frame is put, and the link wants a socket
      pub asks_moved : (L.state ≡ Idle → is_shut Number Own ≡ false) → puts_and_wants item link cell.0.host ≡ Ok d → Moved d
      asks_moved stands so = by_state L.state refl where
        done : asks_link S x item link ≡ Ok d
        done = ap (λ (h : HostState). puts_and_wants item link h) here ∙ so

        idle : L.state ≡ Idle → AsksIdle S x cell link
        idle is = record {
          acts = acts;
          renewed = renewed;
          idle = is;
          stands = stands is;
          room = dial_left item link Own d (renewed.state ∙ is) done;
          new_number = ap (λ (h : HostState). list_any (has_end (party x).place (next_dial h)) world.sockets) here ∙ facts.next_free (party x).place cell there;
          called_own = facts.called_as x;
          called_peer = facts.called_as (other x);
          apart = facts.names_differ;
          new_name = facts.new_name (party x).name (party (other x)).name;
          other_known = facts.known (other x);
        }

        by_state : (k : LinkState) → L.state ≡ k → Moved d
        by_state (Up n probed) is = let u = up_on n probed is in moved_here party world x cell (asks_link S x item link) (Say x ∷ []) d (asks_up S x cell u.e u.i u.socket u.known item link probed u.asks) done
        by_state (Dialing n) is = moved_here party world x cell (asks_link S x item link) [] d (asks_waiting S x cell item link acts renewed (inl (n, is))) done
        by_state AwaitOther is = moved_here party world x cell (asks_link S x item link) [] d (asks_waiting S x cell item link acts renewed (inr is)) done
        by_state Idle is = moved_here party world x cell (asks_link S x item link) (Want x (length world.sockets) ∷ []) d (asks_idle S x cell item link (idle is)) done

      -- a frame is put alone
      pub puts_moved : puts item link cell.0.host ≡ Ok d → Moved d
      puts_moved so = by_state L.state refl where
        done : puts_frame S x item link ≡ Ok d
        done = ap (λ (h : HostState). puts item link h) here ∙ so

        waits : is_up L.state ≡ false → Moved d
        waits down = moved_here party world x cell (puts_frame S x item link) [] d (puts_waiting S x cell item link acts renewed down) done

        by_state : (k : LinkState) → L.state ≡ k → Moved d
        by_state (Up n probed) is = let u = up_on n probed is in moved_here party world x cell (puts_frame S x item link) (Say x ∷ []) d (puts_while_up S x cell u.e u.i u.socket u.known item link probed u.asks) done
        by_state (Dialing n) is = waits (ap is_up is)
        by_state AwaitOther is = waits (ap is_up is)
        by_state Idle is = waits (ap is_up is)
