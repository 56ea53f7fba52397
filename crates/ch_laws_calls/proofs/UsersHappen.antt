-- What is carried stays, whatever an endpoint asks of its host, or its host reads.
use Rattle.std.proofs.Common.{◌≡◌, ℕ, Bool, true, false, cond, ◌&&◌, List, [], Ok, refl, sym, ap, ◌∙◌, subst}
use Rattle.std.specs.Option.{option_map}
use Rattle.std.specs.Prelude.{find, slice_get, Result, Option, Some, None, ◌==◌}
use Rattle.ch_base.specs.declared.address.Address.{Address}
use Rattle.ch_wire.specs.Spelling.{answer_spelling}
use Rattle.ch_wire.specs.declared.answer.Answer.TheVariants.{Mismatch}
use Rattle.ch_model.specs.declared.entry.Entry.{Entry}
use Rattle.ch_model.specs.declared.line.Line.{Line}
use Rattle.ch_model.specs.declared.name.SockName.{SockName}
use Rattle.ch_model.specs.declared.step.SocketEvent.TheVariants as sockets
use Rattle.ch_model.specs.declared.step.Step.{Step}
use Rattle.ch_model.specs.declared.step.Weight.{Weight}
use Rattle.ch_model.specs.CellSteps.{told_steps}
use Rattle.ch_model.specs.Host.{host_on, host_next}
use Rattle.ch_model.specs.HostCalls.{host_connect, host_send, host_close}
use Rattle.ch_model.specs.HostState.{Socket, HostState}
use Rattle.ch_model.specs.HostSteps.{is_socket}
use Rattle.ch_model.specs.Naming.{called}
use Rattle.ch_model.specs.NodeState.{NodeState}
use Rattle.ch_model.specs.Stages.{Stage}
use Rattle.ch_model.specs.World.{world_new}
use Rattle.ch_model.specs.WorldHappenings.{with_cell}
use Rattle.ch_model.specs.WorldSockets.{is_socket_named, same_number, is_end_of}
use Rattle.ch_model.specs.WorldState.{Cell, WorldEnd, WorldSocket, World}
use Rattle.ch_laws_world.specs.Grows.{homes_of}
use Rattle.ch_laws_world.proofs.Journals.{address_stays}
use Rattle.ch_laws_log.specs.HostEnds.{AreNewTo, IsSound, Tells, AllTold}
use Rattle.ch_laws_log.specs.WorldEnds.{stage_held}
use Rattle.ch_laws_log.proofs.HostItemsTold as told
use Rattle.ch_laws_log.proofs.HostEventsTold.{event_told}
use Rattle.ch_laws_log.proofs.Stored.{number_is, number_same}
use Rattle.ch_laws_ends.proofs.Changes.{told_cells}
use Rattle.ch_laws_ends.proofs.Found.{EachFound}
use Rattle.ch_laws_ends.proofs.Known.{Sorted}
use Rattle.ch_laws_reads.specs.Reads.{Reads, AllRead}
use Rattle.ch_laws_reads.proofs.HostEventsRead.{event_read}
use Rattle.ch_laws_reads.proofs.HostItemsRead as reads
use Rattle.ch_laws_writes.specs.Dues.{Due, Answering, due_at, AllDue}
use Rattle.ch_laws_writes.specs.Orderly.{IsOrderly, WritesOn, AllWrite}
use Rattle.ch_laws_writes.proofs.Calls as writes
use Rattle.ch_laws_writes.proofs.Events.{event_writes}
use Rattle.ch_laws_writes.proofs.Items.{next_writes}
use Rattle.ch_laws_bytes.proofs.Event.{given_readers, given_dues}
use Rattle.ch_laws_bytes.proofs.Happen.{readers_there, dues_there}
use Rattle.ch_laws_bytes.proofs.Lines.{own_of}
use Rattle.ch_laws_bytes.proofs.Reading.{host_first}
use Rattle.ch_laws_bytes.proofs.Stepped.{ReadsFirst}
use Rattle.ch_laws_bytes.specs.Streams.{AreAddresses, Reader, reader_in, readers_of, dues_of}
use Rattle.ch_laws_calls.specs.Calls.{with_host, done_at}
use Rattle.ch_laws_calls.specs.Sound.{SoundEnds}
use Rattle.ch_laws_pairs.specs.Dials.{IsBetweenNames}
use Rattle.ch_laws_calls.specs.UsersCarried.{AllOf, record_at, records_of, IsClean, Carried}
use Rattle.ch_laws_calls.specs.UsersRecords.{Users, Nobody, Asks, Holds, AllHold, Refuses, Grows, AllGrow}
use Rattle.ch_laws_calls.proofs.UsersBlames.{Silent, next_blames, ended_silent}
use Rattle.ch_laws_calls.proofs.UsersCalls as calls
use Rattle.ch_laws_calls.proofs.UsersDone.{due_as, read_as, held_as, given_records, settled, call_carried}
use Rattle.ch_laws_calls.proofs.UsersHomes.{own_taken}
use Rattle.ch_laws_calls.proofs.UsersHoldsItems.{next_holds, ended_holds}
use Rattle.ch_laws_calls.proofs.UsersRequests.{IsHosted, users_named, not_false}
use Rattle.ch_laws_calls.proofs.UsersSeated.{IsClear}
use Rattle.ch_laws_calls.proofs.UsersStarts.{HaveRecords, have_records, reads_back, starts}

-- ---- a call

-- What is given of a call of a host: what it reads and writes, that it dials new sockets, whose link its ends are for, and that it
-- answers no mismatch where that is so of the number.
pub record Given (journal : List Line) (log : List Entry) (world : World) (place : ℕ) (cell : Cell × ℕ) (told : List Step) (host : HostState) (may : Users) (clear : ℕ → Type 0) : Type 0 where
  pub at : slice_get world.cells place ≡ Some cell
  pub sorted : Sorted journal log world
  pub each : EachFound world.sockets
  pub carried : Carried journal log world
  pub taken : IsOrderly (own_of journal place) cell.0.host
  pub homes : homes_of world.cells ≡ homes_of (world_new journal).cells
  pub after : homes_of (done_at place cell told host world).1.cells ≡ homes_of (world_new journal).cells
  pub writes : WritesOn (own_of journal place) (due_at cell.0.host) told host
  pub reads : Reads cell.0.host told host
  pub new : (n : ℕ) → AreNewTo n told (stage_held place n world.sockets)
  pub none : (n : ℕ) → stage_held place n world.sockets ≡ None → find (is_socket n) cell.0.host.sockets ≡ None
  pub there : HaveRecords place cell.0.host world.sockets
  pub holds : Holds may cell.0.host host
  pub named : (s : SockName) (socket : WorldSocket) (n : ℕ) (user : ℕ × Address) → find (is_socket_named s) world.sockets ≡ Some socket → socket.t.cell ≡ Some place → socket.t.number ≡ Some n → may n user → IsBetweenNames socket.name
      → (called world.names (own_of journal place user.0) ≡ socket.name.to) × (called world.names user.1 ≡ socket.name.from)
  pub covers : AllOf (IsClear place clear) world.sockets
  pub fine : (n : ℕ) → clear n → due_at cell.0.host n ≡ Some Answering → Refuses n told → ⊥

pub call_kept : (journal : List Line) (log after : List Entry) (world : World) (place : ℕ) (cell : Cell × ℕ) (told : List Step) (host : HostState) (may : Users) (clear : ℕ → Type 0) → Given journal log world place cell told host may clear → Carried journal after (done_at place cell told host world).1
call_kept journal log after world place cell told host may clear g = call_carried journal log after world place cell told host (due_at cell.0.host) clear (record {
  at = g.at;
  sorted = g.sorted;
  each = g.each;
  own_is = g.writes.orderly.own_is;
  taken = own_taken journal world place cell g.homes g.at (g.taken.own_is 0);
  homes = λ a. address_stays a (world_new journal) kept (sym (ap homes_of (told_cells place (with_host cell host) (told_steps told) kept)) ∙ g.after);
  leads = g.writes.writes.leads;
  may = record {
    new = g.new;
    due = λ n. subst (λ (d : Option Due). AllDue (own_of journal place) n told d) (sym (here (due_at cell.0.host n) (dues_of world.cells place n))) (g.writes.writes.due n);
    first = λ n e. subst (λ (r : Option Reader). ReadsFirst r) (sym (here (reader_in (find (is_socket n) host.sockets)) (readers_of world.cells place n))) (host_first cell.0.host host told n g.reads (g.none n e));
    fine = λ n c d e. g.fine n c (sym (here (due_at cell.0.host n) (dues_of world.cells place n)) ∙ d) e;
  };
  carried = starts journal log world place cell host may clear g.at g.carried (record { there = g.there; holds = g.holds; back = λ n held k since f never r. reads_back cell.0.host host told n held k since g.reads f never r; named = g.named; covers = g.covers });
}) where
  kept : World
  kept = with_cell place (with_host cell host, cell.1) world

  here : {A : Type 0} (x y : A) → cond (place == place) x y ≡ x
  here x y = ap (λ b. cond b x y) (number_same place)

-- ---- in a world as it is

pub none_found : (o : Option Socket) → option_map (λ (v : Socket). v.stage) o ≡ None → o ≡ None
none_found None e = refl
none_found (Some v) e = absurd cc

-- what is given where a host of such a world does something
record Does (journal : List Line) (world : World) (place : ℕ) (cell : Cell × ℕ) (told : List Step) (host : HostState) (may : Users) (clear : ℕ → Type 0) : Type 0 where
  tells : Tells cell.0.host told host
  reads : Reads cell.0.host told host
  writes : WritesOn (own_of journal place) (due_at cell.0.host) told host
  holds : Holds may cell.0.host host
  named : (s : SockName) (socket : WorldSocket) (n : ℕ) (user : ℕ × Address) → find (is_socket_named s) world.sockets ≡ Some socket → socket.t.cell ≡ Some place → socket.t.number ≡ Some n → may n user → IsBetweenNames socket.name
      → (called world.names (own_of journal place user.0) ≡ socket.name.to) × (called world.names user.1 ≡ socket.name.from)
  covers : AllOf (IsClear place clear) world.sockets
  fine : (n : ℕ) → clear n → due_at cell.0.host n ≡ Some Answering → Refuses n told → ⊥

done_kept : (journal : List Line) (log more after : List Entry) (world : World) (place : ℕ) (cell : Cell × ℕ) (told : List Step) (host : HostState) (may : Users) (clear : ℕ → Type 0) → slice_get world.cells place ≡ Some cell → SoundEnds journal log world → SoundEnds journal more (done_at place cell told host world).1 → Carried journal log world → Does journal world place cell told host may clear
    → Carried journal after (done_at place cell told host world).1
done_kept journal log more after world place cell told host may clear at s t j d = call_kept journal log after world place cell told host may clear (record {
  at = at;
  sorted = s.sure.ends.sorted;
  each = s.sure.ends.each;
  carried = j;
  taken = s.flowing.orderly place cell at;
  homes = s.homes;
  after = t.homes;
  writes = d.writes;
  reads = d.reads;
  new = λ n. subst (λ (o : Option Stage). AreNewTo n told o) (s.sure.ends.agrees.ends place cell at n) (d.tells.new n);
  none = λ n e. none_found (find (is_socket n) cell.0.host.sockets) (s.sure.ends.agrees.ends place cell at n ∙ e);
  there = have_records place cell world at s.sure.ends.each s.sure.ends.agrees;
  holds = d.holds;
  named = d.named;
  covers = d.covers;
  fine = d.fine;
})

-- each number is so
abbrev pub AnyNumber : ℕ → Type 0
AnyNumber n = Unit {0}

-- ---- what an endpoint asks

asks_kept : {E : Type 0} (journal : List Line) (log more after : List Entry) (world : World) (place : ℕ) (cell : Cell × ℕ) (told : List Step) (host : HostState) (call : Result (List Step × HostState) E) → slice_get world.cells place ≡ Some cell → call ≡ Ok (told, host) → AllTold cell.0.host call → AllRead cell.0.host call → AllWrite (own_of journal place) (due_at cell.0.host) call → AllGrow cell.0.host call
    → SoundEnds journal log world → SoundEnds journal more (done_at place cell told host world).1 → Carried journal log world → Carried journal after (done_at place cell told host world).1
asks_kept {E = E} journal log more after world place cell told host call at e tells reads writes grows s t j = done_kept journal log more after world place cell told host Nobody AnyNumber at s t j (record {
  tells = subst (λ (d : Result (List Step × HostState) E). AllTold cell.0.host d) e tells sound;
  reads = subst (λ (d : Result (List Step × HostState) E). AllRead cell.0.host d) e reads sound;
  writes = writing;
  holds = calls.grown_holds Nobody cell.0.host host grown;
  named = λ sock socket n user f c m never names. absurd never;
  covers = λ sock socket f clean n is. tt;
  fine = λ n c d r. let no : ◌≡◌ {A = Option (List ℕ)} None (Some (answer_spelling Mismatch)) = sym (calls.grown_silent (own_of journal place) cell.0.host host told n grown writing.writes d) ∙ r in absurd cc;
}) where
  sound : IsSound cell.0.host
  sound = s.sure.ends.agrees.sound place cell at

  writing : WritesOn (own_of journal place) (due_at cell.0.host) told host
  writing = subst (λ (d : Result (List Step × HostState) E). AllWrite (own_of journal place) (due_at cell.0.host) d) e writes

  grown : Grows cell.0.host host
  grown = subst (λ (d : Result (List Step × HostState) E). AllGrow cell.0.host d) e grows sound.free

pub connected : (journal : List Line) (log more after : List Entry) (world : World) (place : ℕ) (cell : Cell × ℕ) (end : ℕ) (peer : Address) (conn : ℕ) (told : List Step) (host : HostState) → slice_get world.cells place ≡ Some cell → host_connect cell.0.host end peer conn ≡ Ok (told, host)
    → SoundEnds journal log world → SoundEnds journal more (done_at place cell told host world).1 → Carried journal log world → Carried journal after (done_at place cell told host world).1
connected journal log more after world place cell end peer conn steps host at e s t j = asks_kept journal log more after world place cell steps host (host_connect cell.0.host end peer conn) at e (told.connected cell.0.host end peer conn) (reads.connected cell.0.host end peer conn)
    (writes.connected (own_of journal place) cell.0.host end peer conn (s.flowing.orderly place cell at)) (calls.connected cell.0.host end peer conn) s t j

pub sent : (journal : List Line) (log more after : List Entry) (world : World) (place : ℕ) (cell : Cell × ℕ) (end conn : ℕ) (payload : List ℕ) (weight : Weight) (told : List Step) (host : HostState) → slice_get world.cells place ≡ Some cell → host_send cell.0.host end conn payload weight ≡ Ok (told, host)
    → SoundEnds journal log world → SoundEnds journal more (done_at place cell told host world).1 → Carried journal log world → Carried journal after (done_at place cell told host world).1
sent journal log more after world place cell end conn payload weight steps host at e s t j = asks_kept journal log more after world place cell steps host (host_send cell.0.host end conn payload weight) at e (told.sent cell.0.host end conn payload weight) (reads.sent cell.0.host end conn payload weight)
    (writes.sent (own_of journal place) cell.0.host end conn payload weight (s.flowing.orderly place cell at)) (calls.sent cell.0.host end conn payload weight) s t j

pub closed : (journal : List Line) (log more after : List Entry) (world : World) (place : ℕ) (cell : Cell × ℕ) (end conn : ℕ) (told : List Step) (host : HostState) → slice_get world.cells place ≡ Some cell → host_close cell.0.host end conn ≡ Ok (told, host)
    → SoundEnds journal log world → SoundEnds journal more (done_at place cell told host world).1 → Carried journal log world → Carried journal after (done_at place cell told host world).1
closed journal log more after world place cell end conn steps host at e s t j = asks_kept journal log more after world place cell steps host (host_close cell.0.host end conn) at e (told.closed_conn cell.0.host end conn) (reads.closed_conn cell.0.host end conn)
    (writes.closed_conn (own_of journal place) cell.0.host end conn (s.flowing.orderly place cell at)) (calls.closed_conn cell.0.host end conn) s t j

-- ---- the end of its input

pub ended : (journal : List Line) (log more after : List Entry) (world : World) (place : ℕ) (cell : Cell × ℕ) (sock : ℕ) (told : List Step) (host : HostState) → slice_get world.cells place ≡ Some cell → host_on cell.0.host (sockets.Ended sock) ≡ Ok (told, host)
    → SoundEnds journal log world → SoundEnds journal more (done_at place cell told host world).1 → Carried journal log world → Carried journal after (done_at place cell told host world).1
ended journal log more after world place cell sock steps host at e s t j = done_kept journal log more after world place cell steps host Nobody AnyNumber at s t j (record {
  tells = subst (λ d. AllTold cell.0.host d) e (event_told cell.0.host (sockets.Ended sock) refl) sound;
  reads = subst (λ d. AllRead cell.0.host d) e (event_read cell.0.host (sockets.Ended sock)) sound;
  writes = subst (λ d. AllWrite (own_of journal place) (due_at cell.0.host) d) e (event_writes (own_of journal place) cell.0.host (sockets.Ended sock) orderly tt);
  holds = subst (λ d. AllHold Nobody cell.0.host d) e (ended_holds cell.0.host sock) sound.free;
  named = λ s socket n user f c m never names. absurd never;
  covers = λ s socket f clean n is. tt;
  fine = λ n c d r. let no : ◌≡◌ {A = Option (List ℕ)} None (Some (answer_spelling Mismatch)) = sym (subst (λ x. Silent n x) e (ended_silent (own_of journal place) cell.0.host sock n orderly d)) ∙ r in absurd cc;
}) where
  sound : IsSound cell.0.host
  sound = s.sure.ends.agrees.sound place cell at

  orderly : IsOrderly (own_of journal place) cell.0.host
  orderly = s.flowing.orderly place cell at

-- ---- an item

-- the number is that of the target of a socket of two names
record IsOfTwo (world : World) (place n : ℕ) : Type 0 where
  name : SockName
  socket : WorldSocket
  found : find (is_socket_named name) world.sockets ≡ Some socket
  clean : IsClean socket.name
  cell : socket.t.cell ≡ Some place
  number : socket.t.number ≡ Some n

-- an end of a place and a number has both
ends_of : (place n : ℕ) (end : WorldEnd) → is_end_of place n end ≡ true → (end.cell ≡ Some place) × (end.number ≡ Some n)
ends_of place n end is = by_end end.cell end.number is where
  by_end : (c m : Option ℕ) → (same_number c place && same_number m n) ≡ true → (c ≡ Some place) × (m ≡ Some n)
  by_end None m e = absurd cc
  by_end (Some p) None e = never (p == place) e where
    never : {A : Type 0} (b : Bool) → (b && false) ≡ true → A
    never true e = absurd cc
    never false e = absurd cc
  by_end (Some p) (Some k) e = by_tests (p == place) refl (k == n) refl e where
    by_tests : (a : Bool) → (p == place) ≡ a → (b : Bool) → (k == n) ≡ b → (a && b) ≡ true → (◌≡◌ {A = Option ℕ} (Some p) (Some place)) × (◌≡◌ {A = Option ℕ} (Some k) (Some n))
    by_tests true f true g e = (ap Some (number_is p place f), ap Some (number_is k n g))
    by_tests true f false g e = absurd cc
    by_tests false f b g e = absurd cc

pub item : (journal : List Line) (log more after : List Entry) (world : World) (place : ℕ) (cell : Cell × ℕ) (told : List Step) (host : HostState) → AreAddresses world.names → slice_get world.cells place ≡ Some cell → host_next cell.0.host ≡ Ok (Some told, host)
    → SoundEnds journal log world → SoundEnds journal more (done_at place cell told host world).1 → Carried journal log world → Carried journal after (done_at place cell told host world).1
item journal log more after world place cell steps host addresses at e s t j = done_kept journal log more after world place cell steps host (Asks cell.0.host) (IsOfTwo world place) at s t j (record {
  tells = told.next_told cell.0.host host steps sound e;
  reads = reads.next_told cell.0.host host steps sound e;
  writes = next_writes (own_of journal place) cell.0.host host steps orderly e;
  holds = next_holds cell.0.host host steps sound.apart sound.free e;
  named = λ s socket n user f c m asks names. users_named journal log world place cell s socket n user hosted f c m asks names;
  covers = λ s socket f clean n is. let both = ends_of place n socket.t is in record { name = s; socket = socket; found = f; clean = clean; cell = both.0; number = both.1 };
  fine = λ n c d r. not_false journal log world place cell c.name c.socket n hosted c.found c.cell c.number c.clean (next_blames (own_of journal place) cell.0.host host steps n orderly e d r);
}) where
  sound : IsSound cell.0.host
  sound = s.sure.ends.agrees.sound place cell at

  orderly : IsOrderly (own_of journal place) cell.0.host
  orderly = s.flowing.orderly place cell at

  hosted : IsHosted journal log world place cell
  hosted = record { at = at; each = s.sure.ends.each; agrees = s.sure.ends.agrees; homes = s.homes; own_is = orderly.own_is; addresses = addresses; carried = j }

-- ---- other nodes in a cell

pub seated : (journal : List Line) (log after : List Entry) (world : World) (place : ℕ) (cell : Cell × ℕ) (nodes : List (ℕ × NodeState)) → slice_get world.cells place ≡ Some cell → Carried journal log world → Carried journal after (with_cell place (record (cell.0) { nodes = nodes }, cell.1) world)
seated journal log after world place cell nodes at j = settled journal after world.cells place cell now (due_at cell.0.host) [] AnyNumber (with_cell place now world) at refl (λ n. refl) (record {
  put = λ s socket f. (held_as journal world.names (records_of world.cells) (given_records place cell.0.host world.cells) socket (λ p n. records_there p n (place == p) refl) (j.seated s socket f), λ clean n is. tt);
  begun = read_as journal world.names (readers_of world.cells) (given_readers place cell.0.host world.cells) (given_dues place (due_at cell.0.host) world.cells) world.sockets (readers_there world.cells place cell at)
      (due_as journal world.names (readers_of world.cells) (dues_of world.cells) (given_dues place (due_at cell.0.host) world.cells) world.sockets (dues_there world.cells place cell at) j.begun);
}) where
  now : Cell × ℕ
  now = (record (cell.0) { nodes = nodes }, cell.1)

  records_there : (p n : ℕ) (b : Bool) → (place == p) ≡ b → cond b (find (is_socket n) cell.0.host.sockets) (records_of world.cells p n) ≡ records_of world.cells p n
  records_there p n true e = sym (ap (λ (q : ℕ). records_of world.cells q n) (sym (number_is place p e)) ∙ ap (λ (o : Option (Cell × ℕ)). record_at o n) at)
  records_there p n false e = refl
