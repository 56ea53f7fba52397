-- Which end of the world a host's record is of.
use Rattle.std.specs.Prelude.{◌≡◌, ℕ, suc, ◌+◌, ◌*◌, Bool, true, false, cond, List, [], ◌∷◌, find, is_some, slice_get, Option, Some, None}
use Rattle.std.specs.Option.{option_map}
use Rattle.std.proofs.Common.{refl, ap, sym, ◌∙◌, subst}
use Rattle.std.proofs.lemmas.Bool.{and_parts}
use Rattle.ch_base.specs.declared.address.Address.{Address}
use Rattle.ch_model.specs.declared.entry.Entry.{Entry}
use Rattle.ch_model.specs.declared.line.Line.{Line}
use Rattle.ch_model.specs.declared.name.End.{End}
use Rattle.ch_model.specs.declared.name.End.TheVariants.{O, T}
use Rattle.ch_model.specs.declared.name.SockName.{SockName}
use Rattle.ch_model.specs.HostState.{Socket}
use Rattle.ch_model.specs.HostSteps.{is_socket}
use Rattle.ch_model.specs.Stages.{Stage}
use Rattle.ch_model.specs.WorldSockets.{end_of, same_number, is_end_of, find_end, is_socket_named}
use Rattle.ch_model.specs.WorldState.{Cell, WorldEnd, WorldSocket, World}
use Rattle.ch_laws_log.specs.WorldEnds.{stage_found}
use Rattle.ch_laws_log.proofs.Stored.{number_is}
use Rattle.ch_laws_log.proofs.WorldEnds.{found_is}
use Rattle.ch_laws_ends.proofs.Places.{some_is}
use Rattle.ch_laws_ends.proofs.Told.{Ends}
use Rattle.ch_laws_bytes.proofs.Lines.{own_of}
use Rattle.ch_laws_pairs.specs.Askers.{Asker, asker_with, asker_of, asker_at}
use Rattle.ch_laws_pairs.specs.Users.{asker_in, askers_of, AsksAs, OpenerAsks, IsOdd}
use Rattle.ch_laws_pairs.proofs.Heard.{Asked}

-- An end of the world's i-th socket is of the cell at this place under this number, and stands so.
pub record IsOfWorld (place n : ℕ) (world : World) (how : Stage) : Type 0 where
  pub i : ℕ
  pub socket : WorldSocket
  pub e : End
  pub at : slice_get world.sockets i ≡ Some socket
  pub end : is_end_of place n (end_of e socket) ≡ true
  pub stands : (end_of e socket).stage ≡ how

-- the place of what is found first
pub place_found : {X : Type 0} (p : X → Bool) (xs : List X) (x : X) → find p xs ≡ Some x → (i : ℕ) × (slice_get xs i ≡ Some x)
place_found p [] x f = absurd cc
place_found {X = X} p (first ∷ rest) x f = by_test (p first) (place_found p rest x) f where
  by_test : (b : Bool) → (find p rest ≡ Some x → (i : ℕ) × (slice_get rest i ≡ Some x)) → cond b (Some first) (find p rest) ≡ Some x → (i : ℕ) × (slice_get (first ∷ rest) i ≡ Some x)
  by_test true more f = (0, f)
  by_test false more f = let later = more f in (suc later.0, later.1)

pub worlds_end : (journal : List Line) (log : List Entry) (world : World) (place n : ℕ) (cell : Cell × ℕ) (known : Socket) → Ends journal log world → slice_get world.cells place ≡ Some cell → find (is_socket n) cell.0.host.sockets ≡ Some known → IsOfWorld place n world known.stage
worlds_end journal log world place n cell known ends at found = by_found (find_end place n world.sockets) refl (sym (ends.agrees.ends place cell at n) ∙ ap (option_map (λ (w : Socket). w.stage)) found) where
  by_socket : (a : SockName × End) → find_end place n world.sockets ≡ Some a → (o : Option WorldSocket) → find (is_socket_named a.0) world.sockets ≡ o → option_map (λ (w : WorldSocket). (end_of a.1 w).stage) o ≡ Some known.stage → IsOfWorld place n world known.stage
  by_socket a f None is h = absurd cc
  by_socket a f (Some socket) is h =
      let there = place_found (is_socket_named a.0) world.sockets socket is in
      record { i = there.0; socket = socket; e = a.1; at = there.1; end = found_is place n world.sockets a socket ends.sorted.0.apart f is; stands = some_is (end_of a.1 socket).stage known.stage h }

  by_found : (o : Option (SockName × End)) → find_end place n world.sockets ≡ o → stage_found o world.sockets ≡ Some known.stage → IsOfWorld place n world known.stage
  by_found None f h = absurd cc
  by_found (Some a) f h = by_socket a f (find (is_socket_named a.0) world.sockets) refl h

-- ---- cell and number of an end

number_of : (o : Option ℕ) (n : ℕ) → same_number o n ≡ true → o ≡ Some n
number_of None n h = absurd cc
number_of (Some m) n h = ap Some (number_is m n h)

pub end_keys : (place n : ℕ) (end : WorldEnd) → is_end_of place n end ≡ true → (end.cell ≡ Some place) × (end.number ≡ Some n)
end_keys place n end h = let both = and_parts (same_number end.cell place) (same_number end.number n) h in (number_of end.cell place both.0, number_of end.number n both.1)

-- ---- openers and targets

-- an opener's end is of a link from the dial on, and a target's has an odd number, under which nobody asks
module _ (journal : List Line) (world : World) (asked : Asked (own_of journal) world) (place n : ℕ) (cell : Cell × ℕ) (known : Socket) (socket : WorldSocket)
    (at : slice_get world.cells place ≡ Some cell) (found : find (is_socket n) cell.0.host.sockets ≡ Some known) (is : find (is_socket_named socket.name) world.sockets ≡ Some socket) where
  asker_is : askers_of world.cells place n ≡ asker_with known.peer_host known.user
  asker_is = ap (λ (o : Option (Cell × ℕ)). asker_in o n) at ∙ ap asker_of found

  asks : is_end_of place n socket.o ≡ true → AsksAs (own_of journal place) world.names socket.name (asker_with known.peer_host known.user)
  asks of =
      let keys = end_keys place n socket.o of in
      subst (AsksAs (own_of journal place) world.names socket.name) asker_is
      (subst (λ (m : Option ℕ). OpenerAsks (own_of journal) world.names (askers_of world.cells) socket.name (Some place) m) keys.1
      (subst (λ (c : Option ℕ). OpenerAsks (own_of journal) world.names (askers_of world.cells) socket.name c socket.o.number) keys.0 (asked.named socket.name socket is).0))

  -- an end that knows its peer's host is the target's
  pub target_is : (e : End) → is_end_of place n (end_of e socket) ≡ true → is_some known.peer_host ≡ true → e ≡ T
  target_is T of hosted = refl
  target_is O of hosted = absurd (by_host known.peer_host hosted (asks of)) where
    by_host : (h : Option (List ℕ)) → is_some h ≡ true → AsksAs (own_of journal place) world.names socket.name (asker_with h known.user) → ⊥
    by_host None hosted a = absurd cc
    by_host (Some h) hosted a = a

  nobody_asks : is_end_of place n socket.t ≡ true → asker_with known.peer_host known.user ≡ None
  nobody_asks of = sym (ap asker_of found) ∙ by_odd (subst IsOdd (end_keys place n socket.t of).1 (asked.named socket.name socket is).1) where
    by_odd : (k : ℕ) × (n ≡ 2 * k + 1) → asker_at cell.0.host n ≡ None
    by_odd o = ap (asker_at cell.0.host) o.1 ∙ (asked.homes place cell at).asking.odd o.0

  -- an end of a link that doesn't is the opener's
  pub opener_is : (e : End) (user : ℕ × Address) → is_end_of place n (end_of e socket) ≡ true → known.peer_host ≡ None → known.user ≡ Some user → e ≡ O
  opener_is O user of host used = refl
  opener_is T user of host used = let clash : ◌≡◌ {A = Asker} (Some user) None = sym (ap (λ (h : Option (List ℕ)). asker_with h known.user) host ∙ used) ∙ nobody_asks of in absurd cc
