-- Where a node of a sound world stands: at its own address, which is that of its name.
use Rattle.std.proofs.Common.{◌≡◌, ℕ, zero, suc, Bool, true, false, cond, List, [], ◌∷◌, sym, ap, ◌∙◌, subst}
use Rattle.std.proofs.lemmas.Bool.{and_parts}
use Rattle.std.proofs.lemmas.List.Quantifiers.{position-Some}
use Rattle.std.proofs.lemmas.Slice.Eq.{bytes_eq-Decides}
use Rattle.std.specs.Prelude.{find, is_some, slice_get, get_or, Some, ◌==◌}
use Rattle.std.specs.Str.{bytes_eq}
use Rattle.ch_base.specs.Addresses.{IsAddress}
use Rattle.ch_base.specs.declared.address.Address.{Address}
use Rattle.ch_model.specs.declared.entry.Entry.{Entry}
use Rattle.ch_model.specs.declared.line.Line.{Line}
use Rattle.ch_model.specs.HostSteps.{own_address}
use Rattle.ch_model.specs.Naming.{Names, is_named, or_nobody, address_as}
use Rattle.ch_model.specs.World.{world_new}
use Rattle.ch_model.specs.WorldSockets.{is_host_of, cell_of}
use Rattle.ch_model.specs.WorldState.{Cell, World}
use Rattle.ch_laws_world.specs.Grows.{Home, home_of, homes_of}
use Rattle.ch_laws_log.specs.Declared.{is_declared}
use Rattle.ch_laws_log.proofs.Homes.{SeatsAt, AllAtHome, Housed, fresh_housed}
use Rattle.ch_laws_log.proofs.Stored.{number_is}
use Rattle.ch_laws_items.specs.Stays.{seats_of}
use Rattle.ch_laws_bytes.specs.Streams.{AreAddresses}
use Rattle.ch_laws_calls.specs.Sound.{Sound}

-- ---- who lives where

home_kept : (before after : Cell) → home_of after ≡ home_of before → SeatsAt before.host.host before.host.port (seats_of before.nodes) → SeatsAt after.host.host after.host.port (seats_of after.nodes)
home_kept before after e at = subst (λ (h : Home). SeatsAt h.0 h.1 h.3) (sym e) at

homes_kept : (before after : List (Cell × ℕ)) → homes_of after ≡ homes_of before → AllAtHome before → AllAtHome after
homes_kept before [] e at = tt
homes_kept [] (next ∷ more) e at = absurd cc
homes_kept (known ∷ rest) (next ∷ more) e at =
    let head : home_of next.0 ≡ home_of known.0 = cc in
    let others : homes_of more ≡ homes_of rest = cc in
    (home_kept known.0 next.0 head at.0, homes_kept rest more others at.1)

pub housed : (journal : List Line) (log : List Entry) (world : World) → Sound journal log world → Housed journal world
housed journal log world sound = record { names = sound.ends.set.names; homes = homes_kept (world_new journal).cells world.cells sound.ends.homes (fresh_housed journal).homes; numbered = sound.ends.set.numbered }

-- ---- addresses

get_is : (cells : List (Cell × ℕ)) (place : ℕ) (cell d : Cell × ℕ) → slice_get cells place ≡ Some cell → get_or cells place d ≡ cell
get_is [] place cell d e = absurd cc
get_is (known ∷ rest) zero cell d e = cc
get_is (known ∷ rest) (suc place) cell d e = get_is rest place cell d e

host_is : (own : Address) (cell : Cell × ℕ) → is_host_of own cell ≡ true → own_address cell.0.host own.id ≡ own
host_is own cell e = let parts = and_parts (bytes_eq cell.0.host.host own.host) (cell.0.host.port == own.port) e in
    ap (λ (h : List ℕ). record { host = h; port = cell.0.host.port; id = own.id }) ((bytes_eq-Decides cell.0.host.host own.host).0 parts.0) ∙ ap (λ (p : ℕ). record { host = own.host; port = p; id = own.id }) (number_is cell.0.host.port own.port parts.1)

-- the endpoint at an address's cell has that address
pub own_there : (world : World) (own : Address) (place : ℕ) (cell : Cell × ℕ) → cell_of world own ≡ Some place → slice_get world.cells place ≡ Some cell → own_address cell.0.host own.id ≡ own
own_there world own place cell of at = host_is own cell (subst (λ (c : Cell × ℕ). is_host_of own c ≡ true) (get_is world.cells place cell cell at) (position-Some (is_host_of own) world.cells place cell of).1)

-- the address of a declared name may be spelled
pub address_spelled : (known : Names) (name : List ℕ) → AreAddresses known → is_declared known name ≡ true → IsAddress (address_as known name)
address_spelled [] name all declared = absurd cc
address_spelled (named ∷ rest) name all declared = by_test (is_named name named) declared (address_spelled rest name all.1) where
  by_test : (b : Bool) → is_some (cond b (Some named) (find (is_named name) rest)) ≡ true → (is_declared rest name ≡ true → IsAddress (address_as rest name)) → IsAddress (or_nobody (cond b (Some named) (find (is_named name) rest))).address
  by_test true declared more = all.0
  by_test false declared more = more declared
