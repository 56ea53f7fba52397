-- The calls of an endpoint, each by what it puts on a link.
use Rattle.std.specs.Prelude.{◌≡◌, ◌≤◌, ℕ, Bool, true, false, cond, not, nat_lt, List, length, find, slice_get, Option, Some, None, Result, Ok, Err}
use Rattle.std.specs.List.{list_any}
use Rattle.std.proofs.Common.{refl, ap, sym, ◌∙◌, subst, arith}
use Rattle.std.proofs.lemmas.Bool.Decides.{nat_tests}
use Rattle.ch_base.specs.declared.address.Address.{Address}
use Rattle.ch_base.specs.declared.memory.Stop.TheVariants as stops
use Rattle.ch_light.specs.Ids.{id_of, give_of, close_of}
use Rattle.ch_light.specs.declared.Connection.{Connection}
use Rattle.ch_light.specs.declared.error.LightError.{LightError}
use Rattle.ch_wire.specs.declared.TheConstants.{MOST_PAYLOAD_BYTES}
use Rattle.ch_wire.specs.declared.frame.Frame.TheVariants as frames
use Rattle.ch_model.specs.declared.entry.Entry.{Entry}
use Rattle.ch_model.specs.declared.line.Line.{Line}
use Rattle.ch_model.specs.declared.step.EndError.{EndError}
use Rattle.ch_model.specs.declared.step.EndError.TheVariants as ends
use Rattle.ch_model.specs.declared.step.Step.{Step}
use Rattle.ch_model.specs.declared.step.Weight.{Weight}
use Rattle.ch_model.specs.declared.step.Weight.TheVariants.{Free}
use Rattle.ch_model.specs.HostCalls.{◌>>=◌, stepped, of_ids, found_or, carries, short_enough, has_room, puts_and_wants, host_connect, host_send, host_close}
use Rattle.ch_model.specs.HostState.{Link, HostState}
use Rattle.ch_model.specs.HostSteps.{Stepped, is_open_endpoint, link_or_new, link_with}
use Rattle.ch_model.specs.HostWrites.{puts}
use Rattle.ch_model.specs.WorldState.{Cell, World}
use Rattle.ch_race.specs.Pair.{Side}
use Rattle.ch_laws_bytes.proofs.Lines.{own_of}
use Rattle.ch_laws_writes.specs.Orderly.{LinkFits, IsOrderly}
use Rattle.ch_laws_writes.proofs.Calls.{gives, closes_one, has_id}
use Rattle.ch_laws_writes.proofs.Ordered.{named_end, named_peer, found_own}
use Rattle.ch_laws_race.specs.Scene.{Party, host_in, host_of}
use Rattle.ch_laws_race.specs.View.{is_shut}
use Rattle.ch_laws_calls.specs.Scenes.{SceneFacts, IsMoved, scene_of}
use Rattle.ch_laws_calls.specs.Sound.{Sound}
use Rattle.ch_laws_raced.specs.RaceCallsUnshut.{IsUnshut}
use Rattle.ch_laws_raced.proofs.RaceCallsLinks.{IsLinkOf, IsSides, asks_any, puts_any}
use Rattle.ch_laws_raced.proofs.RaceCallsMoved.{world_after}

-- what isn't refused was done
unrefused : (done : Stepped) (d : List Step × HostState) → stepped done ≡ Ok d → done ≡ Ok d
unrefused (Ok did) d h = let is : did ≡ d = cc in ap Ok is
unrefused (Err stops.OutOfMemory) d h = absurd cc
unrefused (Err stops.Worn) d h = absurd cc

-- a payload that isn't too long may be spelled
short_fits : (payload short : List ℕ) → short_enough payload ≡ Ok short → length short ≤ MOST_PAYLOAD_BYTES
short_fits payload short e = by_test (nat_lt MOST_PAYLOAD_BYTES (length payload)) refl e where
  within : (n : ℕ) → nat_lt MOST_PAYLOAD_BYTES n ≡ false → n ≤ MOST_PAYLOAD_BYTES
  within n h = grind (arith, nat_tests)

  by_test : (b : Bool) → nat_lt MOST_PAYLOAD_BYTES (length payload) ≡ b → cond b (Err ends.PayloadLong) (Ok payload) ≡ Ok short → length short ≤ MOST_PAYLOAD_BYTES
  by_test true h q = absurd cc
  by_test false h q = let is : payload ≡ short = cc in subst (λ (bytes : List ℕ). length bytes ≤ MOST_PAYLOAD_BYTES) is (within (length payload) h)

module _ (journal : List Line) (log : List Entry) (world : World) (sound : Sound journal log world) (party : Side → Party) (facts : SceneFacts party world) (place : ℕ) (cell : Cell × ℕ) (there : slice_get world.cells place ≡ Some cell) (d : List Step × HostState) where
  abbrev Host : HostState
  Host = cell.0.host

  abbrev Moved : Type 0
  Moved = IsMoved party world (world_after place cell world d)

  orderly : IsOrderly (own_of journal place) Host
  orderly = sound.ends.flowing.orderly place cell there

  -- the link of an endpoint with a peer, whatever ids it has
  with_ids : (end : ℕ) (peer : Address) (ids : List Connection) → IsLinkOf Host end peer (record (link_with Host end peer) { given = ids })
  with_ids end peer ids = record { end = named_end Host.links end peer; peer = named_peer Host.links end peer; state = refl }

  module _ (test : Link → Bool) (link : Link) (found : find test Host.links ≡ Some link) where
    -- a link that some test finds is that of its endpoint with its peer
    itself : link_with Host link.end link.peer ≡ link
    itself = ap (link_or_new link.end link.peer) (found_own test Host.links link orderly.apart found)

    itself_with : (ids : List Connection) → IsLinkOf Host link.end link.peer (record link { given = ids })
    itself_with ids = record { end = refl; peer = refl; state = sym (ap (λ (l : Link). l.state) itself) }

    fits : LinkFits Host.sockets link.end link.peer link
    fits = subst (λ (l : Link). LinkFits Host.sockets link.end link.peer l) itself (orderly.links link.end link.peer)

  -- ---- a connection is opened

  module _ (end : ℕ) (peer : Address) (conn : ℕ) where
    -- the endpoint stands, so that of a side whose link it is does
    stands : list_any (is_open_endpoint end) Host.ends ≡ true → (x : Side) → IsSides party place end peer x → is_shut (party x).address.id (host_of (scene_of party world) x) ≡ false
    stands h x same = ap (λ (n : HostState). is_shut (party x).address.id n) (ap host_in (subst (λ (p : ℕ). slice_get world.cells p ≡ Some cell) same.0 there)) ∙ ap (λ (n : ℕ). is_shut n Host) (sym same.1) ∙ ap not h

    connected_ids : list_any (is_open_endpoint end) Host.ends ≡ true → (r : Result (ℕ × List Connection) LightError) → give_of (link_with Host end peer).given conn ≡ r
        → (of_ids r >>= (λ g. stepped (puts_and_wants (frames.Created g.0, Free) (record (link_with Host end peer) { given = g.1 }) Host))) ≡ Ok d → Moved
    connected_ids stood (Err e) is q = absurd cc
    connected_ids stood (Ok g) is q = asks_any party world facts place cell there (own_of journal place) orderly end peer (frames.Created g.0, Free) (record (link_with Host end peer) { given = g.1 }) (with_ids end peer g.1) refl
        (gives (link_with Host end peer).given conn g (ap of_ids is)).range d (stands stood) (unrefused (puts_and_wants (frames.Created g.0, Free) (record (link_with Host end peer) { given = g.1 }) Host) d q)

    pub connects_moved : host_connect Host end peer conn ≡ Ok d → Moved
    unfolding host_connect
    connects_moved so = by_open (list_any (is_open_endpoint end) Host.ends) refl so where
      by_open : (b : Bool) → list_any (is_open_endpoint end) Host.ends ≡ b
          → (cond b (Ok end) (Err ends.NoEndPoint) >>= (λ standing. of_ids (give_of (link_with Host end peer).given conn) >>= (λ g. stepped (puts_and_wants (frames.Created g.0, Free) (record (link_with Host end peer) { given = g.1 }) Host)))) ≡ Ok d → Moved
      by_open true stood q = connected_ids stood (give_of (link_with Host end peer).given conn) refl q
      by_open false stood q = absurd cc

  -- ---- a payload is sent, or a connection closed

  module _ (end conn : ℕ) where
    module _ (payload : List ℕ) (weight : Weight) (unshut : IsUnshut party world) where
      sent_on : (link : Link) → find (carries end conn) Host.links ≡ Some link → (short : List ℕ) → short_enough payload ≡ Ok short → (o : Option ℕ) → id_of link.given conn ≡ o
          → (found_or o >>= (λ id. stepped (puts_and_wants (frames.Data id short, weight) link Host))) ≡ Ok d → Moved
      sent_on link found short fit None is q = absurd cc
      sent_on link found short fit (Some id) is q = asks_any party world facts place cell there (own_of journal place) orderly link.end link.peer (frames.Data id short, weight) link (itself_with (carries end conn) link found link.given) refl
          (has_id link.given conn id (fits (carries end conn) link found).given (ap found_or is), short_fits payload short fit) d (λ x same. unshut x) (unrefused (puts_and_wants (frames.Data id short, weight) link Host) d q)

      pub sends_moved : host_send Host end conn payload weight ≡ Ok d → Moved
      unfolding host_send
      sends_moved so = by_link (find (carries end conn) Host.links) refl so where
        by_room : (link : Link) → find (carries end conn) Host.links ≡ Some link → (short : List ℕ) → short_enough payload ≡ Ok short → (r : Result Link EndError)
            → (r >>= (λ roomy. found_or (id_of link.given conn) >>= (λ id. stepped (puts_and_wants (frames.Data id short, weight) link Host)))) ≡ Ok d → Moved
        by_room link found short fit (Err e) q = absurd cc
        by_room link found short fit (Ok roomy) q = sent_on link found short fit (id_of link.given conn) refl q

        by_short : (link : Link) → find (carries end conn) Host.links ≡ Some link → (r : Result (List ℕ) EndError) → short_enough payload ≡ r
            → (r >>= (λ short. has_room link weight >>= (λ roomy. found_or (id_of link.given conn) >>= (λ id. stepped (puts_and_wants (frames.Data id short, weight) link Host))))) ≡ Ok d → Moved
        by_short link found (Err e) fit q = absurd cc
        by_short link found (Ok short) fit q = by_room link found short fit (has_room link weight) q

        by_link : (o : Option Link) → find (carries end conn) Host.links ≡ o
            → (found_or o >>= (λ link. short_enough payload >>= (λ short. has_room link weight >>= (λ roomy. found_or (id_of link.given conn) >>= (λ id. stepped (puts_and_wants (frames.Data id short, weight) link Host)))))) ≡ Ok d → Moved
        by_link None found q = absurd cc
        by_link (Some link) found q = by_short link found (short_enough payload) refl q

    closed_on : (link : Link) → find (carries end conn) Host.links ≡ Some link → (r : Result (ℕ × List Connection) LightError) → close_of link.given conn ≡ r
        → (of_ids r >>= (λ c. stepped (puts (frames.Closed c.0, Free) (record link { given = c.1 }) Host))) ≡ Ok d → Moved
    closed_on link found (Err e) is q = absurd cc
    closed_on link found (Ok c) is q = puts_any party world facts place cell there (own_of journal place) orderly link.end link.peer (frames.Closed c.0, Free) (record link { given = c.1 }) (itself_with (carries end conn) link found c.1) refl
        (closes_one link.given conn c (fits (carries end conn) link found).given (ap of_ids is)).range d (unrefused (puts (frames.Closed c.0, Free) (record link { given = c.1 }) Host) d q)

    pub closes_moved : host_close Host end conn ≡ Ok d → Moved
    unfolding host_close
    closes_moved so = by_link (find (carries end conn) Host.links) refl so where
      by_link : (o : Option Link) → find (carries end conn) Host.links ≡ o
          → (found_or o >>= (λ link. of_ids (close_of link.given conn) >>= (λ c. stepped (puts (frames.Closed c.0, Free) (record link { given = c.1 }) Host)))) ≡ Ok d → Moved
      by_link None found q = absurd cc
      by_link (Some link) found q = closed_on link found (close_of link.given conn) refl q
