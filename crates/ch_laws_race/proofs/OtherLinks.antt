-- What an endpoint asks of another link shows nothing of two nodes.
use Rattle.std.specs.Prelude.{◌≡◌, ℕ, ◌+◌, true, false, ◌==◌, List, [], ◌∷◌, find, nat_lt, slice_get, Option, Some, None, Result, Ok, Err, if◌then◌else◌}
use Rattle.std.specs.List.{list_any}
use Rattle.std.proofs.Common.{refl, ap, sym, ◌∙◌, subst}
use Rattle.std.proofs.lemmas.Bool.{eqb-true}
use Rattle.ch_base.specs.declared.address.Address.{Address}
use Rattle.ch_base.specs.declared.memory.Stop.TheVariants as stops
use Rattle.ch_wire.specs.declared.frame.Frame.{Frame}
use Rattle.ch_wire.specs.declared.frame.Frame.TheVariants as frames
use Rattle.ch_light.specs.Ids.{id_of, give_of, close_of}
use Rattle.ch_light.specs.declared.Connection.{Connection}
use Rattle.ch_light.specs.declared.error.LightError.{LightError}
use Rattle.ch_link.specs.Table.{step_of}
use Rattle.ch_link.specs.declared.LinkState.{LinkState}
use Rattle.ch_link.specs.declared.LinkState.TheVariants.{Idle, Dialing, AwaitOther, Up}
use Rattle.ch_link.specs.declared.LinkIn.TheVariants as inputs
use Rattle.ch_model.specs.declared.name.End.{End}
use Rattle.ch_model.specs.declared.step.EndError.{EndError}
use Rattle.ch_model.specs.declared.step.Step.{Step}
use Rattle.ch_model.specs.declared.step.Step.TheVariants as steps
use Rattle.ch_model.specs.declared.step.Weight.{Weight}
use Rattle.ch_model.specs.declared.step.Weight.TheVariants.{Free}
use Rattle.ch_model.specs.HostState.{Link, Socket, HostState}
use Rattle.ch_model.specs.HostSteps as host
use Rattle.ch_model.specs.HostSteps.{Stepped, is_socket, is_link, link_with, with_link, with_socket}
use Rattle.ch_model.specs.HostWrites.{frame_step, puts}
use Rattle.ch_model.specs.HostLinks as links
use Rattle.ch_model.specs.HostLinks.{most_dials, next_dial, dialed}
use Rattle.ch_model.specs.HostCalls.{◌>>=◌, stepped, open_endpoint, of_ids, found_or, carries, short_enough, has_room, puts_and_wants, host_connect, host_send, host_close}
use Rattle.ch_model.specs.WorldState.{Cell, WorldSocket}
use Rattle.ch_model.specs.WorldSockets.{end_of, is_end_of}
use Rattle.ch_model.specs.WorldHappenings.{with_cell}
use Rattle.ch_race.specs.Pair.{Side, other}
use Rattle.ch_laws_race.specs.Scene.{Scene, hosts_of}
use Rattle.ch_laws_race.specs.View.{has_end}
use Rattle.ch_laws_race.specs.Others.{AreElsewhere, KeepsPair, IsUnseen, IsOtherLink}
use Rattle.ch_laws_race.proofs.Keys.{link_kept, other_key, other_socket}
use Rattle.ch_laws_race.proofs.Sockets.{by_test, given}
use Rattle.ch_laws_race.proofs.Grown.{nobody_has}
use Rattle.ch_laws_race.proofs.Asks.{In, More_waits, Dialed, puts_up, puts_dialing, puts_awaiting, puts_idle}
use Rattle.ch_laws_race.proofs.Others.{same_view}

-- ---- what happens once

refused : {A B : Type 0} {E : Type 0} (e : E) (d : B) → ◌≡◌ {A = Result B E} (Err e) (Ok d) → A
refused {A = A} {B = B} {E = E} e d h = absurd (clash h) where
  clash : ◌≡◌ {A = Result B E} (Err e) (Ok d) → ⊥
  clash q = cc

-- no more dials
puts_worn : (item : Frame × Weight) (link : Link) (now : HostState) → link.state ≡ Idle → nat_lt now.dials most_dials ≡ false → puts_and_wants item link now ≡ Err stops.Worn
unfolding step_of
puts_worn item link now is room = ap (λ (k : LinkState). puts_and_wants item (In link k) now) is
    ∙ ap (λ (z : Link). host.after_steps [] (links.hears (inputs.Want (next_dial now)) z (with_link (More_waits item link Idle) now))) (link_kept (More_waits item link Idle) now)
    ∙ ap (λ b. host.after_steps [] (if b then Ok (steps.Dial (next_dial now) link.end link.peer ∷ [], Dialed item link now) else Err stops.Worn)) room

module _ (scene : Scene) (place : ℕ) (cell : Cell × ℕ) where
  abbrev Own : HostState
  Own = hosts_of scene.world place

  keeps_self : KeepsPair scene place Own
  keeps_self = record { link = λ z q. refl; ends = λ z q. refl; records = λ j u at own e m q. refl }

  keeps_link : (l : Link) (now : HostState) → ((z : Side) → (scene.party z).place ≡ place → is_link (scene.party z).address.id (scene.party (other z)).address l ≡ false) → KeepsPair scene place now → KeepsPair scene place (with_link l now)
  keeps_link l now key k = record {
    link = λ z q. ap (λ (y : Link). y.state) (other_key l now (scene.party z).address.id (scene.party (other z)).address (key z q)) ∙ k.link z q;
    ends = k.ends;
    records = k.records;
  }

  keeps_dials : (now : HostState) (count : ℕ) → KeepsPair scene place now → KeepsPair scene place (record now { dials = count })
  keeps_dials now count k = record { link = k.link; ends = k.ends; records = k.records }

  keeps_socket : (s : Socket) (now : HostState) → list_any (has_end place s.number) scene.world.sockets ≡ false → KeepsPair scene place now → KeepsPair scene place (with_socket s now)
  keeps_socket s now new k = record {
    link = k.link;
    ends = k.ends;
    records = λ j u at own e m q. other_socket s m (differs j u at e m q) now.sockets ∙ k.records j u at own e m q;
  } where
    clash : {A : Type 0} → true ≡ false → A
    clash h = absurd (no h) where
      no : true ≡ false → ⊥
      no h = cc

    differs : (j : ℕ) (u : WorldSocket) → slice_get scene.world.sockets j ≡ Some u → (e : End) (m : ℕ) → is_end_of place m (end_of e u) ≡ true → (s.number == m) ≡ false
    differs j u at e m q = by_test (s.number == m)
        (λ h. clash (sym q ∙ ap (λ (n : ℕ). is_end_of place n (end_of e u)) (sym (eqb-true s.number m h)) ∙ nobody_has place s.number scene.world.sockets new j u at e))
        (λ h. h)

  -- it did this, and that is unseen
  did : (done : Stepped) (does : List Step × HostState) (d : List Step × HostState) → done ≡ Ok does → done ≡ Ok d → IsUnseen scene place cell (Ok does) → IsUnseen scene place cell (Ok d)
  did done does d is so u = subst (λ (r : Stepped). IsUnseen scene place cell r) (sym is ∙ so) u

  module _ (item : Frame × Weight) (link : Link) (h : IsOtherLink scene place cell link) where
    shows : (done : List Step) (now : HostState) → AreElsewhere scene.party place (record (cell.0) { host = now }) done (with_cell place (record (cell.0) { host = now }, cell.1) scene.world) → KeepsPair scene place now → IsUnseen scene place cell (Ok (done, now))
    shows done now elsewhere keeps = record { steps = done; host = now; does = refl; same = same_view scene place cell done now h.there h.known elsewhere keeps }

    twice : (l : Link) → ((z : Side) → (scene.party z).place ≡ place → is_link (scene.party z).address.id (scene.party (other z)).address l ≡ false) → KeepsPair scene place (with_link l (with_link l Own))
    twice l key = keeps_link l (with_link l Own) key (keeps_link l Own key keeps_self)

    dials_there : link.state ≡ Idle → KeepsPair scene place (Dialed item link Own)
    dials_there is = keeps_socket (dialed (next_dial Own) link.end link.peer) (record (with_link (More_waits item link (Dialing (next_dial Own))) (with_link (More_waits item link Idle) Own)) { dials = Own.dials + 1 }) (h.new_number is)
        (keeps_dials (with_link (More_waits item link (Dialing (next_dial Own))) (with_link (More_waits item link Idle) Own)) (Own.dials + 1)
        (keeps_link (More_waits item link (Dialing (next_dial Own))) (with_link (More_waits item link Idle) Own) h.key (keeps_link (More_waits item link Idle) Own h.key keeps_self)))

    -- a frame is put, and the link wants a socket
    pub asks_other : (d : List Step × HostState) → puts_and_wants item link Own ≡ Ok d → IsUnseen scene place cell (Ok d)
    asks_other d so = by_state link.state refl where
      by_state : (k : LinkState) → link.state ≡ k → IsUnseen scene place cell (Ok d)
      by_state (Up n probed) is = did (puts_and_wants item link Own) (frame_step n item ∷ [], with_link (In link (Up n probed)) (with_link (In link (Up n probed)) Own)) d (puts_up item link n probed Own is) so
          (shows (frame_step n item ∷ []) (with_link (In link (Up n probed)) (with_link (In link (Up n probed)) Own)) (h.up n probed is, tt) (twice (In link (Up n probed)) h.key))
      by_state (Dialing n) is = did (puts_and_wants item link Own) ([], with_link (More_waits item link (Dialing n)) (with_link (More_waits item link (Dialing n)) Own)) d (puts_dialing item link n Own is) so
          (shows [] (with_link (More_waits item link (Dialing n)) (with_link (More_waits item link (Dialing n)) Own)) tt (twice (More_waits item link (Dialing n)) h.key))
      by_state AwaitOther is = did (puts_and_wants item link Own) ([], with_link (More_waits item link AwaitOther) (with_link (More_waits item link AwaitOther) Own)) d (puts_awaiting item link Own is) so
          (shows [] (with_link (More_waits item link AwaitOther) (with_link (More_waits item link AwaitOther) Own)) tt (twice (More_waits item link AwaitOther) h.key))
      by_state Idle is = by_test (nat_lt Own.dials most_dials)
          (λ room. did (puts_and_wants item link Own) (steps.Dial (next_dial Own) link.end link.peer ∷ [], Dialed item link Own) d (puts_idle item link Own is room) so
          (shows (steps.Dial (next_dial Own) link.end link.peer ∷ []) (Dialed item link Own) (h.new_name is, tt) (dials_there is)))
          (λ worn. refused stops.Worn d (sym (puts_worn item link Own is worn) ∙ so))

    -- a frame is put alone
    pub puts_other : (d : List Step × HostState) → puts item link Own ≡ Ok d → IsUnseen scene place cell (Ok d)
    puts_other d so = by_state link.state refl where
      put_in : (k : LinkState) → link.state ≡ k → puts item link Own ≡ puts item (In link k) Own
      put_in k is = ap (λ (y : LinkState). puts item (In link y) Own) is

      by_state : (k : LinkState) → link.state ≡ k → IsUnseen scene place cell (Ok d)
      by_state (Up n probed) is = did (puts item link Own) (frame_step n item ∷ [], with_link (In link (Up n probed)) Own) d (put_in (Up n probed) is) so
          (shows (frame_step n item ∷ []) (with_link (In link (Up n probed)) Own) (h.up n probed is, tt) (keeps_link (In link (Up n probed)) Own h.key keeps_self))
      by_state (Dialing n) is = did (puts item link Own) ([], with_link (More_waits item link (Dialing n)) Own) d (put_in (Dialing n) is) so
          (shows [] (with_link (More_waits item link (Dialing n)) Own) tt (keeps_link (More_waits item link (Dialing n)) Own h.key keeps_self))
      by_state AwaitOther is = did (puts item link Own) ([], with_link (More_waits item link AwaitOther) Own) d (put_in AwaitOther is) so
          (shows [] (with_link (More_waits item link AwaitOther) Own) tt (keeps_link (More_waits item link AwaitOther) Own h.key keeps_self))
      by_state Idle is = did (puts item link Own) ([], with_link (More_waits item link Idle) Own) d (put_in Idle is) so
          (shows [] (with_link (More_waits item link Idle) Own) tt (keeps_link (More_waits item link Idle) Own h.key keeps_self))

  -- other ids leave it another link
  renewed : (link : Link) (given : List Connection) → IsOtherLink scene place cell link → IsOtherLink scene place cell (record link { given = given })
  renewed link given h = record { there = h.there; known = h.known; key = h.key; up = h.up; new_number = h.new_number; new_name = h.new_name }

  -- what isn't refused was done
  unrefused : (done : Stepped) (d : List Step × HostState) → stepped done ≡ Ok d → done ≡ Ok d
  unrefused (Ok did) d h = by did d h where
    by : (a b : List Step × HostState) → ◌≡◌ {A = Result (List Step × HostState) EndError} (Ok a) (Ok b) → ◌≡◌ {A = Stepped} (Ok a) (Ok b)
    by a b q = ap {A = Result (List Step × HostState) EndError} {B = Stepped} (λ r. elim r [ Ok z ↦ Ok z | Err e ↦ Ok a ]) q
  unrefused (Err stops.OutOfMemory) d h = refused _ d h
  unrefused (Err stops.Worn) d h = refused _ d h

  pub connects_other : (end : ℕ) (peer : Address) (conn : ℕ) (d : List Step × HostState) → IsOtherLink scene place cell (link_with Own end peer) → host_connect Own end peer conn ≡ Ok d → IsUnseen scene place cell (Ok d)
  unfolding host_connect
  connects_other end peer conn d h so = by_open (open_endpoint Own end) so where
    by_ids : (r : Result (ℕ × List Connection) LightError) → (of_ids r >>= (λ g. stepped (puts_and_wants (frames.Created g.0, Free) (record (link_with Own end peer) { given = g.1 }) Own))) ≡ Ok d → IsUnseen scene place cell (Ok d)
    by_ids (Err e) q = refused _ d q
    by_ids (Ok g) q = asks_other (frames.Created g.0, Free) (record (link_with Own end peer) { given = g.1 }) (renewed (link_with Own end peer) g.1 h) d
        (unrefused (puts_and_wants (frames.Created g.0, Free) (record (link_with Own end peer) { given = g.1 }) Own) d q)

    by_open : (r : Result ℕ EndError) → (r >>= (λ standing. of_ids (give_of (link_with Own end peer).given conn) >>= (λ g. stepped (puts_and_wants (frames.Created g.0, Free) (record (link_with Own end peer) { given = g.1 }) Own)))) ≡ Ok d → IsUnseen scene place cell (Ok d)
    by_open (Err e) q = refused e d q
    by_open (Ok n) q = by_ids (give_of (link_with Own end peer).given conn) q

  pub sends_other : (end conn : ℕ) (payload : List ℕ) (weight : Weight) (link : Link) (d : List Step × HostState) → find (carries end conn) Own.links ≡ Some link → IsOtherLink scene place cell link
      → host_send Own end conn payload weight ≡ Ok d → IsUnseen scene place cell (Ok d)
  unfolding host_send
  sends_other end conn payload weight link d found h so = by_short (short_enough payload)
      (sym (ap (λ (o : Option Link). found_or o >>= (λ l. short_enough payload >>= (λ bytes. has_room l weight >>= (λ roomy. found_or (id_of l.given conn) >>= (λ i. stepped (puts_and_wants (frames.Data i bytes, weight) l Own)))))) found) ∙ so) where
        by_id : (bytes : List ℕ) (o : Option ℕ) → (found_or o >>= (λ i. stepped (puts_and_wants (frames.Data i bytes, weight) link Own))) ≡ Ok d → IsUnseen scene place cell (Ok d)
        by_id bytes None q = refused _ d q
        by_id bytes (Some i) q = asks_other (frames.Data i bytes, weight) link h d (unrefused (puts_and_wants (frames.Data i bytes, weight) link Own) d q)

        by_room : (bytes : List ℕ) (r : Result Link EndError) → (r >>= (λ roomy. found_or (id_of link.given conn) >>= (λ i. stepped (puts_and_wants (frames.Data i bytes, weight) link Own)))) ≡ Ok d → IsUnseen scene place cell (Ok d)
        by_room bytes (Err e) q = refused e d q
        by_room bytes (Ok l) q = by_id bytes (id_of link.given conn) q

        by_short : (r : Result (List ℕ) EndError) → (r >>= (λ bytes. has_room link weight >>= (λ roomy. found_or (id_of link.given conn) >>= (λ i. stepped (puts_and_wants (frames.Data i bytes, weight) link Own))))) ≡ Ok d → IsUnseen scene place cell (Ok d)
        by_short (Err e) q = refused e d q
        by_short (Ok bytes) q = by_room bytes (has_room link weight) q

  pub closes_other : (end conn : ℕ) (link : Link) (d : List Step × HostState) → find (carries end conn) Own.links ≡ Some link → IsOtherLink scene place cell link → host_close Own end conn ≡ Ok d → IsUnseen scene place cell (Ok d)
  unfolding host_close
  closes_other end conn link d found h so = by_ids (close_of link.given conn)
      (sym (ap (λ (o : Option Link). found_or o >>= (λ l. of_ids (close_of l.given conn) >>= (λ c. stepped (puts (frames.Closed c.0, Free) (record l { given = c.1 }) Own)))) found) ∙ so) where
        by_ids : (r : Result (ℕ × List Connection) LightError) → (of_ids r >>= (λ c. stepped (puts (frames.Closed c.0, Free) (record link { given = c.1 }) Own))) ≡ Ok d → IsUnseen scene place cell (Ok d)
        by_ids (Err e) q = refused _ d q
        by_ids (Ok c) q = puts_other (frames.Closed c.0, Free) (record link { given = c.1 }) (renewed link c.1 h) d (unrefused (puts (frames.Closed c.0, Free) (record link { given = c.1 }) Own) d q)
