-- A turn of a cell whose host dials a socket, and does nothing else to sockets, leaves a plain world.
use Rattle.std.proofs.Common.{◌≡◌, ◌⊎◌, inl, inr, ℕ, Bool, true, false, cond, List, [], ◌∷◌, ◌++◌, refl, sym, ap, ◌∙◌, subst}
use Rattle.std.specs.Prelude.{find, slice_get, slice_set, Option, Some, None}
use Rattle.ch_base.specs.declared.address.Address.{Address}
use Rattle.ch_reader.specs.declared.item.Expected.{Expected}
use Rattle.ch_reader.specs.declared.item.Expected.TheVariants as expected
use Rattle.ch_reader.specs.declared.item.Item.{Item}
use Rattle.ch_light.specs.Ids.{id_of}
use Rattle.ch_light.specs.declared.Connection.{Connection}
use Rattle.ch_link.specs.declared.LinkState.TheVariants as states
use Rattle.ch_model.specs.declared.entry.Entry.{Entry}
use Rattle.ch_model.specs.declared.line.Line.{Line}
use Rattle.ch_model.specs.declared.local.LocalEntry.{LocalEntry}
use Rattle.ch_model.specs.declared.name.End.{End}
use Rattle.ch_model.specs.declared.name.End.TheVariants.{O, T}
use Rattle.ch_model.specs.declared.name.SockName.{SockName}
use Rattle.ch_model.specs.declared.step.Step.{Step}
use Rattle.ch_model.specs.declared.step.Step.TheVariants as steps
use Rattle.ch_model.specs.CellSteps.{is_at, told_steps}
use Rattle.ch_model.specs.HostState.{Socket}
use Rattle.ch_model.specs.HostSteps.{own_address, is_socket, link_with}
use Rattle.ch_model.specs.HostWrites.{is_up}
use Rattle.ch_model.specs.Naming.{called}
use Rattle.ch_model.specs.NodeState.{Arrived}
use Rattle.ch_model.specs.Same.{same_socket}
use Rattle.ch_model.specs.Stages.{Pending, is_ended}
use Rattle.ch_model.specs.WorldHappenings.{with_cell}
use Rattle.ch_model.specs.WorldSockets.{is_socket_named, end_of_nobody, store_in, cell_of, target_end, new_socket}
use Rattle.ch_model.specs.WorldState.{Cell, WorldSocket, World}
use Rattle.ch_model.specs.WorldSteps.{all_told}
use Rattle.ch_laws_bytes.specs.Streams.{reader_in, reader_at, readers_of, reads_at, is_over}
use Rattle.ch_laws_bytes.proofs.Event.{Flowing}
use Rattle.ch_laws_bytes.proofs.Lines.{own_of}
use Rattle.ch_laws_bytes.proofs.Told.{told_names}
use Rattle.ch_laws_ends.proofs.Changes.{told_cells}
use Rattle.ch_laws_ends.proofs.Places.{got_same, set_split}
use Rattle.ch_laws_ends.proofs.Told.{Sure}
use Rattle.ch_laws_links.specs.Naming.{IsNaming, IsDialedBy, IsUpFor}
use Rattle.ch_laws_links.proofs.Says.{used}
use Rattle.ch_laws_log.specs.HostEnds.{steps_in}
use Rattle.ch_laws_log.proofs.Stored.{find_stored}
use Rattle.ch_laws_reads.specs.Reads.{IsFresh}
use Rattle.ch_laws_race.specs.Chains.{steps_told}
use Rattle.ch_laws_race.proofs.Same.{Same, all_same}
use Rattle.ch_laws_calls.specs.FitsFit.{frames_in, MayAskWell}
use Rattle.ch_laws_calls.proofs.FitsFrames.{spelled_once}
use Rattle.ch_laws_calls.proofs.FitsSockets.{SocketGoes, dial_rests}
use Rattle.ch_laws_calls.specs.Turns.{told_on}
use Rattle.ch_laws_plain.specs.Streams.{PlainOn}
use Rattle.ch_laws_plain.specs.Talks.{HostIsPlain}
use Rattle.ch_laws_plain.specs.Plain.{is_unread_of, arrived_in, id_for, pending_for, pending_by, pending_in, pending_at, pending_there, pending_of, CellIsPlain, PlainIn, PlainAt, EndIsPlain, WorldIsPlain}
use Rattle.ch_laws_plain.specs.Turns.{CellCarries, DialedWell}
use Rattle.ch_laws_plain.proofs.Ends.{there_plain}
use Rattle.ch_laws_plain.proofs.Worlds.{steps_same}

-- ---- a socket that was dialed

-- nothing is unread of a link that has created nothing
none_created : (arrived : Option Arrived) → id_for [] arrived ≡ None
unfolding id_of
none_created None = refl
none_created (Some arrived) = refl

-- no opening is unread at an end that expects its answer
answer_unread : (cell : Cell) (n : ℕ) (known : Socket) → IsNaming cell.host → HostIsPlain cell.host → find (is_socket n) cell.host.sockets ≡ Some known → is_ended known.stage ≡ false → known.expected ≡ expected.Answer → pending_by cell known.user ≡ None
answer_unread cell n known s p found live e = by_user known.user refl where
  by_used : (user : ℕ × Address) → (((link_with cell.host user.0 user.1).state ≡ states.Dialing n) × IsDialedBy user.0 user.1 known) ⊎ ((probed : Bool) × ((link_with cell.host user.0 user.1).state ≡ states.Up n probed) × IsUpFor user.0 user.1 known) → pending_for cell user.0 user.1 ≡ None
  by_used user (inl d) = ap (λ (c : List Connection). id_for c (find (is_unread_of user.1) (arrived_in (find (is_at user.0) cell.nodes)))) ((p user.0 user.1).created (ap is_up d.0)) ∙ none_created (find (is_unread_of user.1) (arrived_in (find (is_at user.0) cell.nodes)))
  by_used user (inr u) = let never : expected.Answer ≡ expected.Frame = sym e ∙ u.2.expects in absurd cc

  by_user : (o : Option (ℕ × Address)) → known.user ≡ o → pending_by cell o ≡ None
  by_user None u = refl
  by_user (Some user) u = by_used user (used cell.host user.0 user.1 n known s found u live)

-- of no bytes there are no items, and no frames
none_plain : (e : Expected) (since : List ℕ) (pending : Option ℕ) → since ≡ [] → pending ≡ None → PlainIn (e, since) [] pending
none_plain e since pending none q all whole each = subst (λ (l : List Item). PlainOn pending (frames_in l) None) (sym (spelled_once e all [] each tt (sym whole ∙ ap (λ (l : List ℕ). l ++ []) none))) q

new_opener : (cell : Cell) (sock : ℕ) → IsNaming cell.host → HostIsPlain cell.host → IsFresh (find (is_socket sock) cell.host.sockets) → PlainAt (reader_in (find (is_socket sock) cell.host.sockets)) false [] (pending_at cell sock)
new_opener cell sock s p fresh = by_found (find (is_socket sock) cell.host.sockets) refl fresh where
  by_found : (o : Option Socket) → find (is_socket sock) cell.host.sockets ≡ o → IsFresh o → PlainAt (reader_in o) false [] (pending_in cell o)
  by_found None found f = tt
  by_found (Some known) found f = by_test (is_ended known.stage) refl where
    by_test : (b : Bool) → is_ended known.stage ≡ b → PlainAt (cond b None (Some (known.expected, known.since))) false [] (pending_by cell known.user)
    by_test true live = tt
    by_test false live = none_plain known.expected known.since (pending_by cell known.user) (f live).1 (answer_unread cell sock known s p found live (f live).0)

new_end : (final world : World) (place : ℕ) (now : Cell × ℕ) (sock : ℕ) (from to from_host : List ℕ) (address : Address) (e : End) → slice_get final.cells place ≡ Some now → IsNaming now.0.host → HostIsPlain now.0.host → IsFresh (find (is_socket sock) now.0.host.sockets)
    → EndIsPlain final (new_socket world from to from_host (end_of_nobody (Some place) (Some sock) Pending) address) e
new_end final world place now sock from to from_host address O at s p fresh = subst (λ (o : Option (Cell × ℕ)). PlainAt (reader_at o sock) false [] (pending_there o sock)) (sym at) (new_opener now.0 sock s p fresh)
new_end final world place now sock from to from_host address T at s p fresh = by_cell (cell_of world address) where
  by_cell : (c : Option ℕ) → PlainAt (reads_at (readers_of final.cells) expected.Request (target_end c).cell (target_end c).number) (is_over (target_end c)) (target_end c).unread (pending_of final.cells (target_end c).cell (target_end c).number)
  by_cell None = tt
  by_cell (Some q) = none_plain expected.Request [] None refl refl

-- ---- the turn

pub dial_plain : (journal : List Line) (log : List Entry) (world : World) (place : ℕ) (cell : Cell × ℕ) (told : List LocalEntry) (after : Cell) (sock end : ℕ) (peer : Address) → Sure journal log world → Flowing (own_of journal) world → WorldIsPlain journal world → slice_get world.cells place ≡ Some cell → steps_in told ≡ steps.Dial sock end peer ∷ []
    → CellCarries (own_of journal place) cell.0 (steps_in told) after → DialedWell sock after → WorldIsPlain journal (told_on place cell after told world).1
dial_plain journal log world place cell told after sock end peer sure flowing plain at is carries well = record {
  cells = λ p c f. set_split world.cells place cell now at (λ p c. CellIsPlain c.0) well.plain (λ p c e g. plain.cells p c g) p c (ap (λ (l : List (Cell × ℕ)). slice_get l p) (sym cells) ∙ f);
  ends = λ s socket e found may. by_name s socket e may (same_socket new.name s) refl (sym (find_stored new world.sockets s) ∙ ap (λ (l : List WorldSocket). find (is_socket_named s) l) (sym sockets) ∙ found);
} where
  now : Cell × ℕ
  now = (after, cell.1)

  kept : World
  kept = with_cell place now world

  final : World
  final = (all_told place after told kept).1

  cells : final.cells ≡ slice_set world.cells place now
  cells = told_cells place after told kept

  names : final.names ≡ world.names
  names = told_names place after told kept

  new : WorldSocket
  new = new_socket kept (called kept.names (own_address after.host end)) (called kept.names peer) after.host.host (end_of_nobody (Some place) (Some sock) Pending) peer

  alike : Same final (all_told place after (told_steps (steps_told told)) kept).1
  alike = all_same place after after told kept kept refl refl (record { names = refl; sockets = refl; places = λ a. refl })

  sockets : final.sockets ≡ store_in new world.sockets
  sockets = alike.sockets ∙ ap (λ (l : List Step). (all_told place after (told_steps l) kept).1.sockets) (steps_same told ∙ is)

  by_name : (s : SockName) (socket : WorldSocket) (e : End) → MayAskWell journal final socket → (b : Bool) → same_socket new.name s ≡ b → cond b (Some new) (find (is_socket_named s) world.sockets) ≡ Some socket → EndIsPlain final socket e
  by_name s socket e may true h f = let one : new ≡ socket = cc in subst (λ (w : WorldSocket). EndIsPlain final w e) one
      (new_end final kept place now sock (called kept.names (own_address after.host end)) (called kept.names peer) after.host.host peer e (ap (λ (l : List (Cell × ℕ)). slice_get l place) cells ∙ got_same world.cells place cell now at) well.naming well.plain.host well.fresh)
  by_name s socket e may false h f = there_plain journal log world final place cell now (steps_in told) sure flowing plain at cells names carries s socket e
      (record { before = socket; found = f; goes = subst (λ (l : List Step). SocketGoes place l socket socket) (sym is) (dial_rests place sock end peer socket) }) may
