-- The ends of a socket between two nodes: of which host each is, and what that has of it.
use Rattle.std.proofs.Common.{◌≡◌, ℕ, Bool, true, false, cond, ◌&&◌, List, inl, inr, refl, sym, ap, ◌∙◌, subst}
use Rattle.std.proofs.lemmas.Bool.{and_parts}
use Rattle.std.proofs.lemmas.Slice.Eq.{bytes_eq-Decides}
use Rattle.std.specs.Prelude.{◌||◌, ◌⊎◌, find, is_some, slice_get, Option, Some, None}
use Rattle.std.specs.Str.{bytes_eq}
use Rattle.ch_base.specs.declared.address.Address.{Address}
use Rattle.ch_model.specs.declared.entry.Entry.{Entry}
use Rattle.ch_model.specs.declared.line.Line.{Line}
use Rattle.ch_model.specs.declared.name.End.{End}
use Rattle.ch_model.specs.declared.name.End.TheVariants.{O, T}
use Rattle.ch_model.specs.HostState.{Socket, HostState}
use Rattle.ch_model.specs.HostSteps.{is_socket}
use Rattle.ch_model.specs.Naming.{called}
use Rattle.ch_model.specs.Same.{is_between}
use Rattle.ch_model.specs.World.{world_new}
use Rattle.ch_model.specs.WorldSockets.{end_of, cell_of}
use Rattle.ch_model.specs.WorldState.{Cell, WorldSocket, World}
use Rattle.ch_race.specs.Pair.{Side, Lesser, Greater, other}
use Rattle.ch_laws_log.proofs.Kept.{IsIn}
use Rattle.ch_laws_ends.proofs.Apart.{found_there}
use Rattle.ch_laws_ends.proofs.Happen.{its_stage}
use Rattle.ch_laws_bytes.proofs.Lines.{own_of}
use Rattle.ch_laws_pairs.specs.Askers.{Asker, asker_with, asker_of}
use Rattle.ch_laws_pairs.specs.Dials.{IsBetweenNames}
use Rattle.ch_laws_pairs.specs.Users.{asker_in, askers_of, AsksAs, OpenerAsks, IsUsedAs}
use Rattle.ch_laws_race.specs.Scene.{Party, hosts_of}
use Rattle.ch_laws_race.specs.View.{opener_of}
use Rattle.ch_laws_race.specs.Sound.{HasEnd}
use Rattle.ch_laws_race.specs.Reading.{IsUser}
use Rattle.ch_laws_race.proofs.Readings.{other_twice}
use Rattle.ch_laws_race.proofs.Sockets.{given}
use Rattle.ch_laws_calls.specs.Scenes.{IsOfSide, scene_of}
use Rattle.ch_laws_calls.proofs.ScenesGiven.{IsGiven, names_are, is_called_in, names_differ, place_by, end_by, host_is}
use Rattle.ch_laws_calls.proofs.ScenesHeld.{held_by, IsKept, kept_there}

-- ---- the names of a socket between the two

-- this side opened it, and it is called so
pub record IsOpenedBy (party : Side → Party) (socket : WorldSocket) (z : Side) : Type 0 where
  pub opener : opener_of party socket ≡ z
  pub from : socket.name.from ≡ (party z).name
  pub to : socket.name.to ≡ (party (other z)).name

pub opened_by : (journal : List Line) (log : List Entry) (world : World) (party : Side → Party) → IsGiven journal log world party → (socket : WorldSocket) → is_between (party Lesser).name (party Greater).name socket.name ≡ true → (z : Side) × IsOpenedBy party socket z
opened_by journal log world party g socket between = by_tests (bytes_eq socket.name.from (party Lesser).name) refl (bytes_eq socket.name.to (party Greater).name) refl between where
  same : (a b : List ℕ) → bytes_eq a b ≡ true → a ≡ b
  same a b h = (bytes_eq-Decides a b).0 h

  swapped : (bytes_eq socket.name.from (party Greater).name && bytes_eq socket.name.to (party Lesser).name) ≡ true → (socket.name.from ≡ (party Greater).name) × (socket.name.to ≡ (party Lesser).name)
  swapped h = let parts = and_parts (bytes_eq socket.name.from (party Greater).name) (bytes_eq socket.name.to (party Lesser).name) h in (same socket.name.from (party Greater).name parts.0, same socket.name.to (party Lesser).name parts.1)

  by_tests : (a : Bool) → bytes_eq socket.name.from (party Lesser).name ≡ a → (b : Bool) → bytes_eq socket.name.to (party Greater).name ≡ b
      → (a && b || bytes_eq socket.name.from (party Greater).name && bytes_eq socket.name.to (party Lesser).name) ≡ true → (z : Side) × IsOpenedBy party socket z
  by_tests true p true q h = (Lesser, record { opener = ap (λ (c : Bool). cond c Lesser Greater) p; from = same socket.name.from (party Lesser).name p; to = same socket.name.to (party Greater).name q })
  by_tests true p false q h = absurd (names_differ journal log world party g Lesser (sym (same socket.name.from (party Lesser).name p) ∙ (swapped h).0))
  by_tests false p b q h = (Greater, record { opener = ap (λ (c : Bool). cond c Lesser Greater) p; from = (swapped h).0; to = (swapped h).1 })

-- neither name is empty
pub named_both : (journal : List Line) (log : List Entry) (world : World) (party : Side → Party) → IsGiven journal log world party → (socket : WorldSocket) (z : Side) → IsOpenedBy party socket z → IsBetweenNames socket.name
named_both journal log world party g socket z by = (λ e. names_are journal party g.many g.pair z (sym by.from ∙ e), λ e. names_are journal party g.many g.pair (other z) (sym by.to ∙ e))

-- whose name it is says who opened it
pub opened_as : (journal : List Line) (log : List Entry) (world : World) (party : Side → Party) → IsGiven journal log world party → (socket : WorldSocket) (z : Side) → socket.name.from ≡ (party z).name → socket.name.to ≡ (party (other z)).name
    → (is_between (party Lesser).name (party Greater).name socket.name ≡ true) × (opener_of party socket ≡ z)
opened_as journal log world party g socket Lesser from to = (
  ap (λ (b : Bool). b && bytes_eq socket.name.to (party Greater).name || bytes_eq socket.name.from (party Greater).name && bytes_eq socket.name.to (party Lesser).name) ((bytes_eq-Decides socket.name.from (party Lesser).name).1 from)
      ∙ ap (λ (b : Bool). b || bytes_eq socket.name.from (party Greater).name && bytes_eq socket.name.to (party Lesser).name) ((bytes_eq-Decides socket.name.to (party Greater).name).1 to),
  ap (λ (c : Bool). cond c Lesser Greater) ((bytes_eq-Decides socket.name.from (party Lesser).name).1 from),
)
opened_as journal log world party g socket Greater from to = by_test (bytes_eq socket.name.from (party Lesser).name) refl where
  by_test : (b : Bool) → bytes_eq socket.name.from (party Lesser).name ≡ b → (is_between (party Lesser).name (party Greater).name socket.name ≡ true) × (opener_of party socket ≡ Greater)
  by_test true h = absurd (names_differ journal log world party g Greater (sym from ∙ (bytes_eq-Decides socket.name.from (party Lesser).name).0 h))
  by_test false h = (
    ap (λ (b : Bool). b && bytes_eq socket.name.to (party Greater).name || bytes_eq socket.name.from (party Greater).name && bytes_eq socket.name.to (party Lesser).name) h
        ∙ ap (λ (b : Bool). b && bytes_eq socket.name.to (party Lesser).name) ((bytes_eq-Decides socket.name.from (party Greater).name).1 from)
        ∙ (bytes_eq-Decides socket.name.to (party Lesser).name).1 to,
    ap (λ (c : Bool). cond c Lesser Greater) h,
  )

-- ---- the opener's end

-- its cell, its number there, and the record that its host has of it
pub record IsDialed (journal : List Line) (world : World) (socket : WorldSocket) : Type 0 where
  pub place : ℕ
  pub n : ℕ
  pub cell : Cell × ℕ
  pub held : Socket
  pub cell_is : socket.o.cell ≡ Some place
  pub number_is : socket.o.number ≡ Some n
  pub at : slice_get world.cells place ≡ Some cell
  pub kept : find (is_socket n) cell.0.host.sockets ≡ Some held
  pub used : IsUsedAs (own_of journal place) world.names socket.name held

pub dialed : (journal : List Line) (log : List Entry) (world : World) (party : Side → Party) → IsGiven journal log world party → (socket : WorldSocket) → IsIn socket world → IsDialed journal world socket
dialed journal log world party g socket is = by_end socket.o.cell refl socket.o.number refl (g.sound.ends.set.led socket.name socket is).o (g.sound.links.asked.named socket.name socket is).0 where
  by_record : (place : ℕ) (held : Socket) (h : Option (List ℕ)) → held.peer_host ≡ h → (u : Asker) → held.user ≡ u → AsksAs (own_of journal place) world.names socket.name (asker_with h u) → IsUsedAs (own_of journal place) world.names socket.name held
  by_record place held (Some host) e u f a = absurd a
  by_record place held None e None f a = absurd a
  by_record place held None e (Some user) f a = record { end = user.0; peer = user.1; opener = e; user = f; from = a.0; to = a.1 }

  by_held : (place n : ℕ) (cell : Cell × ℕ) → socket.o.cell ≡ Some place → socket.o.number ≡ Some n → slice_get world.cells place ≡ Some cell → (o : Option Socket) → find (is_socket n) cell.0.host.sockets ≡ o → AsksAs (own_of journal place) world.names socket.name (asker_of o) → IsDialed journal world socket
  by_held place n cell c m at None k a = absurd a
  by_held place n cell c m at (Some held) k a = record { place = place; n = n; cell = cell; held = held; cell_is = c; number_is = m; at = at; kept = k; used = by_record place held held.peer_host refl held.user refl a }

  by_cell : (place n : ℕ) → socket.o.cell ≡ Some place → socket.o.number ≡ Some n → (o : Option (Cell × ℕ)) → slice_get world.cells place ≡ o → AsksAs (own_of journal place) world.names socket.name (asker_in o n) → IsDialed journal world socket
  by_cell place n c m None at a = absurd a
  by_cell place n c m (Some cell) at a = by_held place n cell c m at (find (is_socket n) cell.0.host.sockets) refl a

  by_end : (c : Option ℕ) → socket.o.cell ≡ c → (m : Option ℕ) → socket.o.number ≡ m → is_some c ≡ true → OpenerAsks (own_of journal) world.names (askers_of world.cells) socket.name c m → IsDialed journal world socket
  by_end None c m k some a = absurd cc
  by_end (Some place) c None k some a = absurd a
  by_end (Some place) c (Some n) k some a = by_cell place n c k (slice_get world.cells place) refl a

-- ---- of which side each end is

pub of_side : (journal : List Line) (log : List Entry) (world : World) (party : Side → Party) → IsGiven journal log world party → (socket : WorldSocket) → IsIn socket world → is_between (party Lesser).name (party Greater).name socket.name ≡ true → (e : End) → IsOfSide party e socket
of_side journal log world party g socket is between O =
    let by = opened_by journal log world party g socket between in
    let d = dialed journal log world party g socket is in
    record { side = by.0; opener = by.1.opener; cell = d.cell_is ∙ ap Some (place_by journal log world party g by.0 d.place d.used.end d.cell d.at (is_called_in journal log world party g by.0 (own_of journal d.place d.used.end) (d.used.from ∙ by.1.from))) }
of_side journal log world party g socket is between T =
    let by = opened_by journal log world party g socket between in
    let leads = (g.used socket.name socket is).leads in
    record {
      side = other by.0;
      opener = by.1.opener ∙ sym (other_twice by.0);
      cell = leads.cell ∙ ap (cell_of (world_new journal)) (is_called_in journal log world party g (other by.0) leads.asked (leads.to ∙ by.1.to)) ∙ g.pair.placed (other by.0);
    }

-- ---- an end of x

pub is_in : (journal : List Line) (log : List Entry) (world : World) (party : Side → Party) → IsGiven journal log world party → (i : ℕ) (socket : WorldSocket) → slice_get world.sockets i ≡ Some socket → IsIn socket world
is_in journal log world party g i socket at = found_there world.sockets i socket g.sound.ends.sure.ends.sorted.0.apart at

-- its host has a record of an end, which stands as the end does
pub kept_as : (journal : List Line) (log : List Entry) (world : World) (party : Side → Party) → IsGiven journal log world party → (x : Side) (e : End) (i n : ℕ) (socket : WorldSocket) → HasEnd (scene_of party world) x e i n socket → (cell : Cell × ℕ) → slice_get world.cells (party x).place ≡ Some cell
    → IsKept (find (is_socket n) cell.0.host.sockets) (end_of e socket).stage
kept_as journal log world party g x e i n socket has cell at = let held = held_by (party x).place n (end_of e socket) has.end in
    kept_there (find (is_socket n) cell.0.host.sockets) (end_of e socket).stage
    (g.sound.ends.sure.ends.agrees.ends (party x).place cell at n ∙ its_stage journal log world socket e (party x).place n g.sound.ends.sure (is_in journal log world party g i socket has.at) held.0 held.1)

-- the opener's end, of a socket that x opened
opener_user : (journal : List Line) (log : List Entry) (world : World) (party : Side → Party) → IsGiven journal log world party → (x : Side) (i n : ℕ) (socket : WorldSocket) (known : Socket) → HasEnd (scene_of party world) x O i n socket → find (is_socket n) (hosts_of world (party x).place).sockets ≡ Some known → IsUser (scene_of party world) x known
opener_user journal log world party g x i n socket known has kept = subst (IsUser (scene_of party world) x) one used where
  d : IsDialed journal world socket
  d = dialed journal log world party g socket (is_in journal log world party g i socket has.at)

  by : (z : Side) × IsOpenedBy party socket z
  by = opened_by journal log world party g socket has.between

  it : by.0 ≡ x
  it = sym by.1.opener ∙ has.opener

  held : (socket.o.cell ≡ Some (party x).place) × (socket.o.number ≡ Some n)
  held = held_by (party x).place n socket.o has.end

  place : d.place ≡ (party x).place
  place = given d.place (party x).place (sym d.cell_is ∙ held.0)

  number : d.n ≡ n
  number = given d.n n (sym d.number_is ∙ held.1)

  one : d.held ≡ known
  one = given d.held known (sym d.kept ∙ ap (λ (m : ℕ). find (is_socket m) d.cell.0.host.sockets) number
      ∙ ap (λ (h : HostState). find (is_socket n) h.sockets) (sym (host_is world d.place d.cell d.at) ∙ ap (hosts_of world) place) ∙ kept)

  own : own_of journal d.place d.used.end ≡ (party x).address
  own = is_called_in journal log world party g x (own_of journal d.place d.used.end) (d.used.from ∙ by.1.from ∙ ap (λ (z : Side). (party z).name) it)

  end : d.used.end ≡ (party x).address.id
  end = end_by journal log world party g x d.place d.used.end d.cell d.at own

  peer : d.used.peer ≡ (party (other x)).address
  peer = is_called_in journal log world party g (other x) d.used.peer (d.used.to ∙ by.1.to ∙ ap (λ (z : Side). (party (other z)).name) it)

  used : IsUser (scene_of party world) x d.held
  used = d.used.user ∙ ap (λ (m : ℕ). Some (m, d.used.peer)) end ∙ ap (λ (a : Address). Some ((party x).address.id, a)) peer

-- the target's end, of a socket that the other opened
target_user : (journal : List Line) (log : List Entry) (world : World) (party : Side → Party) → IsGiven journal log world party → (x : Side) (i n : ℕ) (socket : WorldSocket) (known : Socket) → HasEnd (scene_of party world) x T i n socket → (cell : Cell × ℕ) → slice_get world.cells (party x).place ≡ Some cell
    → find (is_socket n) cell.0.host.sockets ≡ Some known → (known.user ≡ None) ⊎ IsUser (scene_of party world) x known
target_user journal log world party g x i n socket known has cell at kept = by_user known.user refl where
  is : IsIn socket world
  is = is_in journal log world party g i socket has.at

  by : (z : Side) × IsOpenedBy party socket z
  by = opened_by journal log world party g socket has.between

  it : by.0 ≡ other x
  it = sym by.1.opener ∙ has.opener

  held : (socket.t.cell ≡ Some (party x).place) × (socket.t.number ≡ Some n)
  held = held_by (party x).place n socket.t has.end

  by_user : (u : Option (ℕ × Address)) → known.user ≡ u → (known.user ≡ None) ⊎ IsUser (scene_of party world) x known
  by_user None e = inl e
  by_user (Some user) e = inr (e ∙ ap (λ (m : ℕ). Some (m, user.1)) end ∙ ap (λ (a : Address). Some ((party x).address.id, a)) peer) where
    called_so : (called world.names (own_of journal (party x).place user.0) ≡ socket.name.to) × (called world.names user.1 ≡ socket.name.from)
    called_so = ((g.used socket.name socket is).target (party x).place n cell known held.0 held.1 at kept).user user.0 user.1 (named_both journal log world party g socket by.0 by.1) e

    own : own_of journal (party x).place user.0 ≡ (party x).address
    own = is_called_in journal log world party g x (own_of journal (party x).place user.0) (called_so.0 ∙ by.1.to ∙ ap (λ (z : Side). (party (other z)).name) it ∙ ap (λ (z : Side). (party z).name) (other_twice x))

    end : user.0 ≡ (party x).address.id
    end = end_by journal log world party g x (party x).place user.0 cell at own

    peer : user.1 ≡ (party (other x)).address
    peer = is_called_in journal log world party g (other x) user.1 (called_so.1 ∙ by.1.from ∙ ap (λ (z : Side). (party z).name) it)

pub used_for : (journal : List Line) (log : List Entry) (world : World) (party : Side → Party) → IsGiven journal log world party → (x : Side) (e : End) (i n : ℕ) (socket : WorldSocket) (known : Socket) → HasEnd (scene_of party world) x e i n socket → (cell : Cell × ℕ) → slice_get world.cells (party x).place ≡ Some cell
    → find (is_socket n) cell.0.host.sockets ≡ Some known → (known.user ≡ None) ⊎ IsUser (scene_of party world) x known
used_for journal log world party g x O i n socket known has cell at kept = inr (opener_user journal log world party g x i n socket known has (ap (λ (h : HostState). find (is_socket n) h.sockets) (host_is world (party x).place cell at) ∙ kept))
used_for journal log world party g x T i n socket known has cell at kept = target_user journal log world party g x i n socket known has cell at kept
