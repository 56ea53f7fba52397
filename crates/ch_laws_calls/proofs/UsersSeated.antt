-- Whatever a host tells, each socket's opener is of a host whose text the socket has, its target's record is the target's, and no end is cut.
use Rattle.std.proofs.Common.{◌≡◌, ℕ, true, false, ◌&&◌, List, refl, sym, ap, ◌∙◌, subst}
use Rattle.std.specs.Prelude.{Option, Some, None}
use Rattle.std.specs.List.{list_any}
use Rattle.std.specs.Str.{bytes_eq}
use Rattle.ch_base.specs.declared.address.Address.{Address}
use Rattle.ch_model.specs.declared.line.Line.{Line}
use Rattle.ch_model.specs.declared.name.End.{End}
use Rattle.ch_model.specs.declared.name.End.TheVariants.{O, T}
use Rattle.ch_model.specs.declared.step.Step.{Step}
use Rattle.ch_model.specs.declared.step.Step.TheVariants as steps
use Rattle.ch_model.specs.HostState.{Socket}
use Rattle.ch_model.specs.HostSteps.{own_address}
use Rattle.ch_model.specs.Naming.{Names, called}
use Rattle.ch_model.specs.Stages.{Pending}
use Rattle.ch_model.specs.WorldSockets.{end_of, with_end, end_of_nobody, is_end_of, same_number, cell_of, target_end, new_socket}
use Rattle.ch_model.specs.WorldState.{Cell, WorldEnd, WorldSocket, World}
use Rattle.ch_model.specs.WorldSteps.{stepped}
use Rattle.ch_laws_ends.proofs.Changes.{OnDial, step_as}
use Rattle.ch_laws_ends.proofs.Found.{KeepsPlace}
use Rattle.ch_laws_ends.proofs.Told.{no_number}
use Rattle.ch_laws_bytes.proofs.Lines.{own_of}
use Rattle.ch_laws_calls.specs.UsersCarried.{AllOf, hosts_of, IsClean, IsSeated}
use Rattle.ch_laws_calls.proofs.UsersStored.{all_stored, all_changed}

-- ---- an end is changed

pub seated_end : (journal : List Line) (known : Names) (records : ℕ → ℕ → Option Socket) (e : End) (f : WorldEnd → WorldEnd) (old : WorldSocket) → KeepsPlace f → ((end : WorldEnd) → (f end).is_cut ≡ end.is_cut) → IsSeated journal known records old → IsSeated journal known records (with_end e (f (end_of e old)) old)
seated_end journal known records O f old k cut s = record {
  opener = s.opener;
  at = (k old.o).0 ∙ s.at;
  from_host = s.from_host;
  taken = s.taken;
  uncut = by_end;
  target = λ place n held c m r. let t = s.target place n held c m r in record { peer_host = t.peer_host; user = t.user };
} where
  by_end : (e : End) → (end_of e (with_end O (f old.o) old)).is_cut ≡ false
  by_end O = cut old.o ∙ s.uncut O
  by_end T = s.uncut T
seated_end journal known records T f old k cut s = record {
  opener = s.opener;
  at = s.at;
  from_host = s.from_host;
  taken = s.taken;
  uncut = by_end;
  target = λ place n held c m r. let t = s.target place n held (sym (k old.t).0 ∙ c) (sym (k old.t).1 ∙ m) r in record { peer_host = t.peer_host; user = t.user };
} where
  by_end : (e : End) → (end_of e (with_end T (f old.t) old)).is_cut ≡ false
  by_end O = s.uncut O
  by_end T = cut old.t ∙ s.uncut T

-- the numbers of a place at which this is so, are those of the targets of two names
abbrev pub IsClear : ℕ → (ℕ → Type 0) → WorldSocket → Type 0
IsClear place clear socket = IsClean socket.name → (n : ℕ) → is_end_of place n socket.t ≡ true → clear n

clear_end : (place : ℕ) (clear : ℕ → Type 0) (e : End) (f : WorldEnd → WorldEnd) (old : WorldSocket) → KeepsPlace f → IsClear place clear old → IsClear place clear (with_end e (f (end_of e old)) old)
clear_end place clear O f old k c = c
clear_end place clear T f old k c = λ clean n is. c clean n (sym (same n) ∙ is) where
  same : (n : ℕ) → is_end_of place n (f old.t) ≡ is_end_of place n old.t
  same n = ap (λ (c : Option ℕ). same_number c place && same_number (f old.t).number n) (k old.t).0 ∙ ap (λ (m : Option ℕ). same_number old.t.cell place && same_number m n) (k old.t).1

-- ---- all that was told

-- what is carried from step to step
abbrev pub IsPut : List Line → Names → (ℕ → ℕ → Option Socket) → ℕ → (ℕ → Type 0) → WorldSocket → Type 0
IsPut journal known records place clear socket = IsSeated journal known records socket × IsClear place clear socket

-- a socket that is dialed from a host is of that host, and its target hasn't come
new_put : (journal : List Line) (known : Names) (records : ℕ → ℕ → Option Socket) (place : ℕ) (clear : ℕ → Type 0) (cell : Cell) (step : Step) (world : World) → ((end : ℕ) → own_address cell.host end ≡ own_of journal place end) → list_any (bytes_eq (own_of journal place 0).host) (hosts_of journal) ≡ true → AllOf (IsPut journal known records place clear) world.sockets
    → OnDial (λ w. AllOf (IsPut journal known records place clear) w.sockets) place cell step world
new_put journal known records place clear cell (steps.Dial sock end peer) world own_is taken all = all_stored (IsPut journal known records place clear) new world.sockets (seated, λ clean n is. nowhere (cell_of world peer) n is) (λ s socket h f. all s socket f) where
  new : WorldSocket
  new = new_socket world (called world.names (own_address cell.host end)) (called world.names peer) cell.host.host (end_of_nobody (Some place) (Some sock) Pending) peer

  nowhere : {A : Type 0} (c : Option ℕ) (n : ℕ) → is_end_of place n (target_end c) ≡ true → A
  nowhere c n is = let none = no_number c place n in absurd cc

  unnumbered : {A : Type 0} (c : Option ℕ) (n : ℕ) → (target_end c).number ≡ Some n → A
  unnumbered None n e = absurd cc
  unnumbered (Some p) n e = absurd cc

  whole : (c : Option ℕ) → (target_end c).is_cut ≡ false
  whole None = refl
  whole (Some p) = refl

  by_end : (e : End) → (end_of e new).is_cut ≡ false
  by_end O = refl
  by_end T = whole (cell_of world peer)

  seated : IsSeated journal known records new
  seated = record { opener = place; at = refl; from_host = ap (λ (a : Address). a.host) (own_is 0); taken = taken; uncut = by_end; target = λ p n held at number r. unnumbered (cell_of world peer) n number }
new_put journal known records place clear cell step world own_is taken all = tt

pub step_put : (journal : List Line) (known : Names) (records : ℕ → ℕ → Option Socket) (place : ℕ) (clear : ℕ → Type 0) (cell : Cell) (step : Step) (world : World) → ((end : ℕ) → own_address cell.host end ≡ own_of journal place end) → list_any (bytes_eq (own_of journal place 0).host) (hosts_of journal) ≡ true → AllOf (IsPut journal known records place clear) world.sockets
    → AllOf (IsPut journal known records place clear) (stepped place cell step world).1.sockets
step_put journal known records place clear cell step world own_is taken all = step_as (λ w. AllOf (IsPut journal known records place clear) w.sockets) (λ one two c s k. subst (λ (l : List WorldSocket). AllOf (IsPut journal known records place clear) l) (sym s) k) place cell step world
    (new_put journal known records place clear cell step world own_is taken all)
    (λ s e f c. all_changed (IsPut journal known records place clear) s e f world (λ old is. let one = all s old is in (seated_end journal known records e f old c.changes.place c.cut one.0, clear_end place clear e f old c.changes.place one.1)) (λ t socket h is. all t socket is)) all
