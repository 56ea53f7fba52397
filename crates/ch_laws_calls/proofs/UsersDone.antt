-- What is so while a host's steps are told is so, once they are, of the world with that host.
use Rattle.std.proofs.Common.{◌≡◌, ℕ, Bool, true, false, cond, List, refl, sym, ap, ◌∙◌, subst}
use Rattle.std.specs.Prelude.{find, slice_get, slice_set, Option, Some, None, ◌==◌}
use Rattle.std.specs.List.{list_any}
use Rattle.std.specs.Str.{bytes_eq}
use Rattle.ch_base.specs.declared.address.Address.{Address}
use Rattle.ch_reader.specs.declared.item.Expected.{Expected}
use Rattle.ch_reader.specs.declared.item.Expected.TheVariants as expected
use Rattle.ch_model.specs.declared.entry.Entry.{Entry}
use Rattle.ch_model.specs.declared.line.Line.{Line}
use Rattle.ch_model.specs.declared.step.Step.{Step}
use Rattle.ch_model.specs.CellSteps.{told_steps}
use Rattle.ch_model.specs.HostState.{Socket, HostState}
use Rattle.ch_model.specs.HostSteps.{is_socket, own_address}
use Rattle.ch_model.specs.Naming.{Names}
use Rattle.ch_model.specs.World.{world_new}
use Rattle.ch_model.specs.WorldHappenings.{with_cell}
use Rattle.ch_model.specs.WorldSockets.{cell_of}
use Rattle.ch_model.specs.WorldState.{Cell, WorldSocket, World}
use Rattle.ch_model.specs.WorldSteps.{all_told}
use Rattle.ch_laws_ends.proofs.Changes.{told_cells}
use Rattle.ch_laws_ends.proofs.Found.{EachFound}
use Rattle.ch_laws_ends.proofs.Known.{Sorted, keeps_sorted}
use Rattle.ch_laws_writes.specs.Dues.{Due, due_at, due_after_all}
use Rattle.ch_laws_bytes.proofs.Event.{given_readers, given_dues, set_at, readers_set, dues_set}
use Rattle.ch_laws_bytes.proofs.Lines.{own_of}
use Rattle.ch_laws_bytes.proofs.Sockets.{writes_same}
use Rattle.ch_laws_bytes.proofs.Told.{told_names, moved_is}
use Rattle.ch_laws_bytes.specs.Streams.{Reader, readers_of, dues_of, reads_at, all_moved}
use Rattle.ch_laws_calls.specs.Calls.{with_host, done_at}
use Rattle.ch_laws_calls.specs.UsersCarried.{AllOf, hosts_of, record_at, records_of, IsSeated, IsBegun, Carried}
use Rattle.ch_laws_calls.proofs.UsersBegun.{begun_as}
use Rattle.ch_laws_calls.proofs.UsersSteps.{MayDo}
use Rattle.ch_laws_calls.proofs.UsersTold.{AreCarried, told_carried}

-- ---- the same is read, and the same records are there

reads_same : (one two : ℕ → ℕ → Option Reader) (first : Expected) (c m : Option ℕ) → ((p n : ℕ) → two p n ≡ one p n) → reads_at two first c m ≡ reads_at one first c m
reads_same one two first None m each = refl
reads_same one two first (Some p) None each = refl
reads_same one two first (Some p) (Some n) each = each p n

pub read_as : (journal : List Line) (known : Names) (one two : ℕ → ℕ → Option Reader) (dues : ℕ → ℕ → Option Due) (sockets : List WorldSocket) → ((p n : ℕ) → two p n ≡ one p n) → AllOf (IsBegun journal known one dues) sockets → AllOf (IsBegun journal known two dues) sockets
read_as journal known one two dues sockets each all s socket f = record {
  leads = b.leads;
  answer = λ clean over since r. b.answer clean over since (sym (reads_same one two expected.Answer socket.o.cell socket.o.number each) ∙ r);
  request = λ p c over since r. b.request p c over since (sym (reads_same one two expected.Request socket.t.cell socket.t.number each) ∙ r);
} where
  b : IsBegun journal known one dues socket
  b = all s socket f

pub due_as : (journal : List Line) (known : Names) (readers : ℕ → ℕ → Option Reader) (one two : ℕ → ℕ → Option Due) (sockets : List WorldSocket) → ((p n : ℕ) → two p n ≡ one p n) → AllOf (IsBegun journal known readers one) sockets → AllOf (IsBegun journal known readers two) sockets
due_as journal known readers one two sockets each all s socket f = begun_as journal known readers one two socket (writes_same one two socket.o.cell socket.o.number each) (writes_same one two socket.t.cell socket.t.number each) (all s socket f)

pub held_as : (journal : List Line) (known : Names) (one two : ℕ → ℕ → Option Socket) (socket : WorldSocket) → ((p n : ℕ) → two p n ≡ one p n) → IsSeated journal known one socket → IsSeated journal known two socket
held_as journal known one two socket each s = record { opener = s.opener; at = s.at; from_host = s.from_host; taken = s.taken; uncut = s.uncut; target = λ p n held c m r. s.target p n held c m (sym (each p n) ∙ r) }

-- ---- one host's records, and those of all others

abbrev pub given_records : ℕ → HostState → List (Cell × ℕ) → ℕ → ℕ → Option Socket
given_records place host cells p n = cond (place == p) (find (is_socket n) host.sockets) (records_of cells p n)

records_set : (cells : List (Cell × ℕ)) (place : ℕ) (was now : Cell × ℕ) → slice_get cells place ≡ Some was → (p n : ℕ) → records_of (slice_set cells place now) p n ≡ given_records place now.0.host cells p n
records_set cells place was now at p n = ap (λ (o : Option (Cell × ℕ)). record_at o n) (set_at cells place was now p at) ∙ by_test (place == p) where
  by_test : (b : Bool) → record_at (cond b (Some now) (slice_get cells p)) n ≡ cond b (find (is_socket n) now.0.host.sockets) (records_of cells p n)
  by_test true = refl
  by_test false = refl

-- ---- once all is told

-- what is due at a host after its steps leads from what was due there
pub settled : (journal : List Line) (log : List Entry) (cells : List (Cell × ℕ)) (place : ℕ) (was now : Cell × ℕ) (dues : ℕ → Option Due) (told : List Step) (clear : ℕ → Type 0) (world : World) → slice_get cells place ≡ Some was → world.cells ≡ slice_set cells place now → ((n : ℕ) → due_at now.0.host n ≡ due_after_all n told (dues n))
    → AreCarried journal world.names (given_records place now.0.host cells) (given_readers place now.0.host cells) (all_moved place told (given_dues place dues cells)) place clear world.sockets → Carried journal log world
settled journal log cells place was now dues told clear world at is leads a = record {
  seated = λ s socket f. held_as journal world.names (given_records place now.0.host cells) (records_of world.cells) socket (λ p n. ap (λ (l : List (Cell × ℕ)). records_of l p n) is ∙ records_set cells place was now at p n) (a.put s socket f).0;
  begun = read_as journal world.names (given_readers place now.0.host cells) (readers_of world.cells) (dues_of world.cells) world.sockets (λ p n. ap (λ (l : List (Cell × ℕ)). readers_of l p n) is ∙ readers_set cells place was now at p n)
      (due_as journal world.names (given_readers place now.0.host cells) (all_moved place told (given_dues place dues cells)) (dues_of world.cells) world.sockets due_now a.begun);
} where
  due_now : (p n : ℕ) → dues_of world.cells p n ≡ all_moved place told (given_dues place dues cells) p n
  due_now p n = ap (λ (l : List (Cell × ℕ)). dues_of l p n) is ∙ dues_set cells place was now at p n ∙ sym (moved_is place told (given_dues place dues cells) p n ∙ by_test (place == p)) where
    by_test : (b : Bool) → cond b (due_after_all n told (cond b (dues n) (dues_of cells p n))) (cond b (dues n) (dues_of cells p n)) ≡ cond b (due_at now.0.host n) (dues_of cells p n)
    by_test true = sym (leads n)
    by_test false = refl

-- A call of the host at a place, whose steps may be told of the world, where all is carried so far.
pub record IsCall (journal : List Line) (log : List Entry) (world : World) (place : ℕ) (cell : Cell × ℕ) (told : List Step) (host : HostState) (dues : ℕ → Option Due) (clear : ℕ → Type 0) : Type 0 where
  pub at : slice_get world.cells place ≡ Some cell
  pub sorted : Sorted journal log world
  pub each : EachFound world.sockets
  pub own_is : (end : ℕ) → own_address host end ≡ own_of journal place end
  pub taken : list_any (bytes_eq (own_of journal place 0).host) (hosts_of journal) ≡ true
  pub homes : (a : Address) → cell_of (with_cell place (with_host cell host, cell.1) world) a ≡ cell_of (world_new journal) a
  pub leads : (n : ℕ) → due_at host n ≡ due_after_all n told (dues n)
  pub may : MayDo (own_of journal) (given_readers place host world.cells) (given_dues place dues world.cells) place clear told world.sockets
  pub carried : AreCarried journal world.names (given_records place host world.cells) (given_readers place host world.cells) (given_dues place dues world.cells) place clear world.sockets

pub call_carried : (journal : List Line) (log after : List Entry) (world : World) (place : ℕ) (cell : Cell × ℕ) (told : List Step) (host : HostState) (dues : ℕ → Option Due) (clear : ℕ → Type 0) → IsCall journal log world place cell told host dues clear → Carried journal after (done_at place cell told host world).1
call_carried journal log after world place cell told host dues clear g = settled journal after world.cells place cell (with_host cell host, cell.1) dues told clear final g.at (told_cells place (with_host cell host) (told_steps told) kept) g.leads
    (subst (λ (known : Names). AreCarried journal known (given_records place host world.cells) (given_readers place host world.cells) (all_moved place told (given_dues place dues world.cells)) place clear final.sockets) (sym (told_names place (with_host cell host) (told_steps told) kept))
    (told_carried journal world.names (given_records place host world.cells) (given_readers place host world.cells) (given_dues place dues world.cells) place clear (with_host cell host) told log kept (record {
      sorted = (keeps_sorted journal).cell log world place (with_host cell host, cell.1) g.sorted;
      each = g.each;
      names = refl;
      own_is = g.own_is;
      taken = g.taken;
      homes = g.homes;
    }) (record { new = g.may.new; due = g.may.due; first = g.may.first; fine = g.may.fine }) g.carried)) where
      kept : World
      kept = with_cell place (with_host cell host, cell.1) world

      final : World
      final = (all_told place (with_host cell host) (told_steps told) kept).1
