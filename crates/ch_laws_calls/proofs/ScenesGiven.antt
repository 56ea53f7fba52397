-- Two nodes of a journal in a world: their names, their addresses and their hosts.
use Rattle.std.proofs.Common.{◌≡◌, ℕ, Bool, true, false, List, [], refl, sym, ap, ◌∙◌, subst}
use Rattle.std.specs.Prelude.{◌==◌, find, is_some, slice_get, Option, Some}
use Rattle.ch_base.specs.declared.address.Address.{Address}
use Rattle.ch_model.specs.declared.entry.Entry.{Entry}
use Rattle.ch_model.specs.declared.line.Line.{Line}
use Rattle.ch_model.specs.Greater as greater
use Rattle.ch_model.specs.HostSteps.{own_address}
use Rattle.ch_model.specs.Naming.{Names, is_named, or_nobody, called}
use Rattle.ch_model.specs.World.{names_of, world_new}
use Rattle.ch_model.specs.WorldSockets.{is_host_of}
use Rattle.ch_model.specs.WorldState.{Cell, Named, World}
use Rattle.ch_race.specs.Pair.{Side, Lesser, Greater, other}
use Rattle.ch_laws_world.specs.Grows.{Home}
use Rattle.ch_laws_world.proofs.Journals.{address_stays}
use Rattle.ch_laws_log.proofs.Homes.{called_so}
use Rattle.ch_laws_log.proofs.Stored.{number_is}
use Rattle.ch_laws_many.specs.ManyLines.{AreNamedApart}
use Rattle.ch_laws_many.proofs.Reached.{IsJournal, named}
use Rattle.ch_laws_bytes.specs.Streams.{AreAddresses}
use Rattle.ch_laws_bytes.proofs.Lines.{own_of}
use Rattle.ch_laws_race.specs.Scene.{Party, host_in, hosts_of}
use Rattle.ch_laws_race.proofs.Sockets.{given}
use Rattle.ch_laws_calls.specs.Peers.{Peers}
use Rattle.ch_laws_calls.specs.Scenes.{IsPairOf}
use Rattle.ch_laws_calls.specs.Sound.{Sound}
use Rattle.ch_laws_calls.specs.Users.{AllUsed}
use Rattle.ch_laws_calls.specs.ScenesKnocks.{Unknocked}
use Rattle.ch_laws_calls.proofs.ScenesNames.{called_is_at, some_name}
use Rattle.ch_laws_calls.proofs.ScenesPlaces.{Stands, stands_at, host_parts, IsHomedAs, homed_as, is_there}

-- All that is given: a journal of many nodes that declares no name twice, with addresses that may be spelled; what is so of its log and
-- its world, where each dial is between two of its nodes, and nobody knocks; and two of these.
pub record IsGiven (journal : List Line) (log : List Entry) (world : World) (party : Side → Party) : Type 0 where
  pub many : IsJournal journal
  pub names : AreNamedApart (names_of journal)
  pub addresses : AreAddresses (names_of journal)
  pub sound : Sound journal log world
  pub used : AllUsed journal log world
  pub peers : Peers journal log world
  pub unknocked : Unknocked log
  pub pair : IsPairOf journal party

-- ---- names and addresses

pub declared_called : (known : Names) (name : List ℕ) (d : Named) (a : Address) → find (is_named name) known ≡ Some d → d.address ≡ a → called known a ≡ called known (or_nobody (find (is_named name) known)).address
declared_called known name d a found at = ap (called known) (sym at ∙ ap (λ (o : Option Named). (or_nobody o).address) (sym found))

pub called_as : (journal : List Line) (party : Side → Party) → IsJournal journal → IsPairOf journal party → (x : Side) → called (names_of journal) (party x).address ≡ (party x).name
called_as journal party j pair x =
    declared_called (names_of journal) (party x).name (pair.named x).0 (party x).address (pair.named x).1 (pair.named x).3
    ∙ called_so (names_of journal) (party x).name j.apart (ap is_some (pair.named x).1)

pub names_are : (journal : List Line) (party : Side → Party) → IsJournal journal → IsPairOf journal party → (x : Side) → (party x).name ≡ [] → ⊥
names_are journal party j pair x empty = some_name (names_of journal) (party x).name (pair.named x).0 (named journal j) (pair.named x).1 ((pair.named x).2 ∙ empty)

pub is_called : (journal : List Line) (party : Side → Party) → IsJournal journal → AreNamedApart (names_of journal) → IsPairOf journal party → (x : Side) (a : Address) → called (names_of journal) a ≡ (party x).name → a ≡ (party x).address
is_called journal party j apart pair x a e = called_is_at (names_of journal) a (party x).name (pair.named x).0 apart (names_are journal party j pair x) (pair.named x).1 e ∙ (pair.named x).3

-- the two are at different addresses
both_ways : (a b : Address) → greater.is_greater a b ≡ false → greater.is_greater b a ≡ true → a ≡ b → ⊥
both_ways a b less more same = let both : false ≡ true = sym less ∙ ap (λ (c : Address). greater.is_greater c b) same ∙ ap (λ (c : Address). greater.is_greater b c) (sym same) ∙ more in absurd cc

pub addresses_differ : (journal : List Line) (party : Side → Party) → IsPairOf journal party → (x : Side) → (party x).address ≡ (party (other x)).address → ⊥
addresses_differ journal party pair Lesser same = both_ways (party Lesser).address (party Greater).address (pair.order Lesser) (pair.order Greater) same
addresses_differ journal party pair Greater same = both_ways (party Lesser).address (party Greater).address (pair.order Lesser) (pair.order Greater) (sym same)

pub names_differ : (journal : List Line) (log : List Entry) (world : World) (party : Side → Party) → IsGiven journal log world party → (x : Side) → (party x).name ≡ (party (other x)).name → ⊥
names_differ journal log world party g x same = addresses_differ journal party g.pair x (is_called journal party g.many g.names g.pair (other x) (party x).address (called_as journal party g.many g.pair x ∙ same))

-- ---- the names of the world are the journal's

pub called_in : (journal : List Line) (log : List Entry) (world : World) (party : Side → Party) → IsGiven journal log world party → (x : Side) → called world.names (party x).address ≡ (party x).name
called_in journal log world party g x = subst (λ (known : Names). called known (party x).address ≡ (party x).name) (sym g.sound.ends.set.names) (called_as journal party g.many g.pair x)

pub is_called_in : (journal : List Line) (log : List Entry) (world : World) (party : Side → Party) → IsGiven journal log world party → (x : Side) (a : Address) → called world.names a ≡ (party x).name → a ≡ (party x).address
is_called_in journal log world party g x a e = is_called journal party g.many g.names g.pair x a (subst (λ (known : Names). called known a ≡ (party x).name) g.sound.ends.set.names e)

-- ---- hosts

-- the host of an address has it as its own
pub own_at : (a : Address) (cell : Cell × ℕ) → is_host_of a cell ≡ true → own_address cell.0.host a.id ≡ a
own_at a cell h = let parts = host_parts a cell h in ap (λ (x : List ℕ). record { host = x; port = cell.0.host.port; id = a.id }) parts.0 ∙ ap (λ (n : ℕ). record { host = a.host; port = n; id = a.id }) parts.1

pub hosted : (journal : List Line) (log : List Entry) (world : World) (party : Side → Party) → IsGiven journal log world party → (x : Side) → Stands (is_host_of (party x).address) world.cells (party x).place
hosted journal log world party g x = stands_at (is_host_of (party x).address) world.cells (party x).place (address_stays (party x).address (world_new journal) world g.sound.ends.homes ∙ g.pair.placed x)

pub own_there : (journal : List Line) (log : List Entry) (world : World) (party : Side → Party) → IsGiven journal log world party → (x : Side) (cell : Cell × ℕ) → slice_get world.cells (party x).place ≡ Some cell → own_address cell.0.host (party x).address.id ≡ (party x).address
own_there journal log world party g x cell at = let found = hosted journal log world party g x in
    own_at (party x).address cell (subst (λ (c : Cell × ℕ). is_host_of (party x).address c ≡ true) (given found.0 cell (sym found.1 ∙ at)) found.2)

-- the address of an endpoint, by the place of its host
pub own_by : (journal : List Line) (log : List Entry) (world : World) (party : Side → Party) → IsGiven journal log world party → (place end : ℕ) (cell : Cell × ℕ) → slice_get world.cells place ≡ Some cell → own_address cell.0.host end ≡ own_of journal place end
own_by journal log world party g place end cell at = (g.sound.ends.flowing.orderly place cell at).own_is end

-- a host with an endpoint at the address of one of the two is that one's, and the endpoint is that of the address
pub place_by : (journal : List Line) (log : List Entry) (world : World) (party : Side → Party) → IsGiven journal log world party → (z : Side) (place end : ℕ) (cell : Cell × ℕ) → slice_get world.cells place ≡ Some cell → own_of journal place end ≡ (party z).address → place ≡ (party z).place
place_by journal log world party g z place end cell at is = given place (party z).place (sym (is_there journal place made.other (party z).address made.at (ap (λ (h : Home). h.0) made.home ∙ ap (λ (a : Address). a.host) own) (ap (λ (h : Home). h.1) made.home ∙ ap (λ (a : Address). a.port) own)) ∙ g.pair.placed z) where
  made : IsHomedAs (world_new journal).cells place cell
  made = homed_as world.cells (world_new journal).cells place cell g.sound.ends.homes at

  own : own_address cell.0.host end ≡ (party z).address
  own = own_by journal log world party g place end cell at ∙ is

pub end_by : (journal : List Line) (log : List Entry) (world : World) (party : Side → Party) → IsGiven journal log world party → (z : Side) (place end : ℕ) (cell : Cell × ℕ) → slice_get world.cells place ≡ Some cell → own_of journal place end ≡ (party z).address → end ≡ (party z).address.id
end_by journal log world party g z place end cell at is = ap (λ (a : Address). a.id) (own_by journal log world party g place end cell at ∙ is)

-- the host of one of the two has its address
pub own_is_at : (journal : List Line) (log : List Entry) (world : World) (party : Side → Party) → IsGiven journal log world party → (x : Side) → own_of journal (party x).place (party x).address.id ≡ (party x).address
own_is_at journal log world party g x = let found = hosted journal log world party g x in sym (own_by journal log world party g (party x).place (party x).address.id found.0 found.1) ∙ own_there journal log world party g x found.0 found.1

pub host_is : (world : World) (place : ℕ) (cell : Cell × ℕ) → slice_get world.cells place ≡ Some cell → hosts_of world place ≡ cell.0.host
host_is world place cell at = ap host_in at

-- on one host the two have different endpoints
pub ends_differ : (journal : List Line) (log : List Entry) (world : World) (party : Side → Party) → IsGiven journal log world party → (x : Side) → (party (other x)).place ≡ (party x).place → ((party x).address.id == (party (other x)).address.id) ≡ false
ends_differ journal log world party g x same = by_test ((party x).address.id == (party (other x)).address.id) refl where
  by_test : (b : Bool) → ((party x).address.id == (party (other x)).address.id) ≡ b → b ≡ false
  by_test false h = refl
  by_test true h = absurd (addresses_differ journal party g.pair x
      (sym (own_is_at journal log world party g x) ∙ ap (λ (n : ℕ). own_of journal n (party x).address.id) (sym same) ∙ ap (own_of journal (party (other x)).place) (number_is (party x).address.id (party (other x)).address.id h) ∙ own_is_at journal log world party g (other x)))
