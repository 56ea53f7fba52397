-- An opener's end that is joined keeps what is carried: its request is written, and nothing else.
use Rattle.std.proofs.Common.{◌≡◌, ℕ, Bool, true, false, cond, ◌||◌, inl, List, [], ◌∷◌, ◌++◌, Ok, Err, refl, sym, ap, ◌∙◌, subst}
use Rattle.std.proofs.lemmas.Bool.{and_parts}
use Rattle.std.specs.Prelude.{find, is_some, slice_get, Option, Some, None, ◌==◌}
use Rattle.ch_base.specs.declared.address.Address.{Address}
use Rattle.ch_wire.specs.Spelling.{request_spelling, answer_spelling}
use Rattle.ch_wire.specs.declared.answer.Answer.TheVariants.{Mismatch}
use Rattle.ch_model.specs.declared.entry.Entry.{Entry}
use Rattle.ch_model.specs.declared.entry.Entry.TheVariants as entries
use Rattle.ch_model.specs.declared.line.Line.{Line}
use Rattle.ch_model.specs.declared.name.End.{End}
use Rattle.ch_model.specs.declared.name.End.TheVariants.{O, T}
use Rattle.ch_model.specs.declared.step.SocketEvent.TheVariants as sockets
use Rattle.ch_model.specs.declared.step.Step.{Step}
use Rattle.ch_model.specs.Host.{joins, host_on}
use Rattle.ch_model.specs.HostState.{Socket, HostState}
use Rattle.ch_model.specs.HostSteps.{Stepped, still, is_socket, own_address, with_socket}
use Rattle.ch_model.specs.HostWrites.{writes}
use Rattle.ch_model.specs.Naming.{Names}
use Rattle.ch_model.specs.Stages.{Stage, Open, is_pending, is_ended}
use Rattle.ch_model.specs.WorldLines.{can_join}
use Rattle.ch_model.specs.WorldSockets.{end_of, with_end, opened, is_socket_named, is_end_of}
use Rattle.ch_model.specs.WorldState.{Cell, WorldSocket, World}
use Rattle.ch_laws_world.specs.Grows.{homes_of}
use Rattle.ch_laws_log.specs.HostEnds.{AreNewTo}
use Rattle.ch_laws_log.specs.WorldEnds.{stage_held}
use Rattle.ch_laws_log.proofs.HostTold.{number_found}
use Rattle.ch_laws_log.proofs.Stored.{number_is}
use Rattle.ch_laws_ends.proofs.Changes.{cells_stay}
use Rattle.ch_laws_ends.proofs.Found.{each_kept, changed_held}
use Rattle.ch_laws_ends.proofs.Known.{keeps_sorted, pending_is}
use Rattle.ch_laws_reads.specs.Reads.{AllRead}
use Rattle.ch_laws_reads.proofs.HostEventsRead.{event_read}
use Rattle.ch_laws_writes.specs.Dues.{Due, Answering, due_at}
use Rattle.ch_laws_writes.specs.Orderly.{AllWrite}
use Rattle.ch_laws_writes.proofs.Events.{event_writes}
use Rattle.ch_laws_bytes.proofs.Feeds.{same_end_gone}
use Rattle.ch_laws_bytes.proofs.Lines.{own_of}
use Rattle.ch_laws_bytes.proofs.Told.{end_names}
use Rattle.ch_laws_bytes.specs.Streams.{Reader, readers_of, dues_of, is_over}
use Rattle.ch_laws_calls.specs.Calls.{IsIn, IsCalled, done_at, joined_in}
use Rattle.ch_laws_calls.specs.Sound.{SoundEnds}
use Rattle.ch_laws_calls.specs.UsersCarried.{AllOf, records_of, IsSeated, IsBegun, Carried}
use Rattle.ch_laws_calls.specs.UsersRecords.{Nobody, IsFree, Holds, first_written}
use Rattle.ch_laws_calls.proofs.UsersBlames.{is_unread}
use Rattle.ch_laws_calls.proofs.UsersHappen.{none_found, AnyNumber, call_kept}
use Rattle.ch_laws_calls.proofs.UsersHolds.{at_rest, keeps}
use Rattle.ch_laws_calls.proofs.UsersSeated.{seated_end}
use Rattle.ch_laws_calls.proofs.UsersStarts.{HaveRecords, have_records}
use Rattle.ch_laws_calls.proofs.UsersStored.{all_changed}

-- ---- the host

-- The host dials nothing, its ends are for whom they were, and it writes nothing where an answer is due.
record IsJoin (before : HostState) (told : List Step) (after : HostState) : Type 0 where
  plain : (n : ℕ) (stage : Option Stage) → AreNewTo n told stage
  holds : Holds Nobody before after
  silent : (n : ℕ) → due_at before n ≡ Some Answering → first_written n told ≡ None

abbrev AllJoin : HostState → Stepped → Type 0
AllJoin before (Ok done) = IsFree before → IsJoin before done.0 done.1
AllJoin before (Err stop) = Unit {0}

nothing : (host : HostState) → AllJoin host (still host)
nothing host s = record { plain = λ n stage. tt; holds = at_rest Nobody host s; silent = λ n d. refl }

not_open : {A : Type 0} (stage : Stage) → is_pending stage ≡ true → stage ≡ Open → A
not_open stage p o = let no : is_pending Open ≡ true = subst (λ (s : Stage). is_pending s ≡ true) o p in absurd cc

join_one : (host : HostState) (n : ℕ) (socket : Socket) → find (is_socket n) host.sockets ≡ Some socket → is_pending socket.stage ≡ true → AllJoin host (joins socket host)
join_one host n socket f p = by_user socket.user where
  there : find (is_socket socket.number) host.sockets ≡ Some socket
  there = subst (λ (m : ℕ). find (is_socket m) host.sockets ≡ Some socket) (sym (number_found n host.sockets socket f)) f

  elsewhere : (request : List ℕ) (m : ℕ) → due_at host m ≡ Some Answering → (b : Bool) → (socket.number == m) ≡ b → cond b (Some request) None ≡ None
  elsewhere request m d false e = refl
  elsewhere request m d true e =
      let unread = is_unread host m d in
      not_open socket.stage p (one (sym there ∙ subst (λ (k : ℕ). find (is_socket k) host.sockets ≡ Some unread.socket) (sym (number_is socket.number m e)) unread.found) unread.stands) where
        one : {other : Socket} → ◌≡◌ {A = Option Socket} (Some socket) (Some other) → other.stage ≡ Open → socket.stage ≡ Open
        one {other = other} e o = ap (λ (w : Socket). w.stage) (same e) ∙ o where
          same : ◌≡◌ {A = Option Socket} (Some socket) (Some other) → socket ≡ other
          same e = cc

  by_user : (user : Option (ℕ × Address)) → AllJoin host (elim user as (λ x. Stepped) [
    | None ↦ still host
    | Some user ↦ writes socket.number (request_spelling (record { target = user.1.id; from = own_address host user.0 })) (with_socket (record socket { stage = Open }) host)
  ])
  by_user None = nothing host
  by_user (Some user) = λ s. record {
    plain = λ m stage. (tt, tt);
    holds = keeps Nobody (record socket { stage = Open }) socket host there (record { peer_host = refl; user = inl refl }) s;
    silent = λ m d. elsewhere (request_spelling (record { target = user.1.id; from = own_address host user.0 })) m d (socket.number == m) refl;
  }

join_host : (host : HostState) (n : ℕ) → AllJoin host (host_on host (sockets.Joined n))
unfolding host_on
join_host host n = by_socket (find (is_socket n) host.sockets) refl where
  by_test : (socket : Socket) → find (is_socket n) host.sockets ≡ Some socket → (b : Bool) → is_pending socket.stage ≡ b → AllJoin host (cond b (joins socket host) (still host))
  by_test socket f true e = join_one host n socket f e
  by_test socket f false e = nothing host

  by_socket : (o : Option Socket) → find (is_socket n) host.sockets ≡ o → AllJoin host (elim o as (λ x. Stepped) [
    | None ↦ still host
    | Some socket ↦ cond (is_pending socket.stage) (joins socket host) (still host)
  ])
  by_socket None f = nothing host
  by_socket (Some socket) f = by_test socket f (is_pending socket.stage) refl

-- ---- the world in which it has joined

opened_begun : (journal : List Line) (known : Names) (readers : ℕ → ℕ → Option Reader) (dues : ℕ → ℕ → Option Due) (old : WorldSocket) → is_pending old.o.stage ≡ true → IsBegun journal known readers dues old → IsBegun journal known readers dues (with_end O (opened old.o) old)
opened_begun journal known readers dues old p b = record {
  leads = record { asked = b.leads.asked; to = b.leads.to; cell = b.leads.cell };
  answer = λ clean over since r. b.answer clean (same ∙ over) since r;
  request = b.request;
} where
  same : is_over old.o ≡ is_over (opened old.o)
  same = ap (λ (x : Stage). is_ended x || old.o.is_cut) (pending_is old.o.stage p)

opened_carried : (journal : List Line) (log : List Entry) (socket : WorldSocket) (world : World) → IsIn socket world → is_pending socket.o.stage ≡ true → Carried journal log world → Carried journal log (joined_in socket world)
opened_carried journal log socket world is p j = record {
  seated = subst (λ (known : Names). AllOf (IsSeated journal known (records_of now.cells)) now.sockets) (sym names) (subst (λ (l : List (Cell × ℕ)). AllOf (IsSeated journal world.names (records_of l)) now.sockets) (sym cells)
      (all_changed (IsSeated journal world.names (records_of world.cells)) socket.name O opened world (λ old f. seated_end journal world.names (records_of world.cells) O opened old (λ end. (refl, refl)) (λ end. refl) (j.seated socket.name old f)) (λ t other h f. j.seated t other f)));
  begun = subst (λ (known : Names). AllOf (IsBegun journal known (readers_of now.cells) (dues_of now.cells)) now.sockets) (sym names) (subst (λ (l : List (Cell × ℕ)). AllOf (IsBegun journal world.names (readers_of l) (dues_of l)) now.sockets) (sym cells)
      (all_changed (IsBegun journal world.names (readers_of world.cells) (dues_of world.cells)) socket.name O opened world (λ old f. opened_begun journal world.names (readers_of world.cells) (dues_of world.cells) old (ap (λ (w : WorldSocket). is_pending w.o.stage) (sym (same_end_gone socket old socket.name world.sockets is f)) ∙ p) (j.begun socket.name old f)) (λ t other h f. j.begun t other f)));
} where
  now : World
  now = joined_in socket world

  names : now.names ≡ world.names
  names = end_names socket.name O opened world

  cells : now.cells ≡ world.cells
  cells = cells_stay socket.name O opened world

pub joined : (journal : List Line) (log more after : List Entry) (world : World) (socket : WorldSocket) (place n : ℕ) (cell : Cell × ℕ) (told : List Step) (host : HostState) → IsIn socket world → can_join socket ≡ true → IsCalled world place cell (sockets.Joined n) told host
    → SoundEnds journal log world → SoundEnds journal more (done_at place cell told host (joined_in socket world)).1 → Carried journal log world → Carried journal after (done_at place cell told host (joined_in socket world)).1
joined journal log more after world socket place n cell steps host is can called s t j = call_kept journal (log ++ entries.Joined socket.name ∷ []) after now place cell steps host Nobody AnyNumber (record {
  at = ap (λ (l : List (Cell × ℕ)). slice_get l place) cells ∙ called.at;
  sorted = (keeps_sorted journal).joined log world socket is pending s.sure.ends.sorted;
  each = each_kept socket.name O opened world (λ end. (refl, refl)) s.sure.ends.each;
  carried = let c = opened_carried journal log socket world is pending j in record { seated = c.seated; begun = c.begun };
  taken = s.flowing.orderly place cell called.at;
  homes = ap homes_of cells ∙ s.homes;
  after = t.homes;
  writes = subst (λ d. AllWrite (own_of journal place) (due_at cell.0.host) d) called.does (event_writes (own_of journal place) cell.0.host (sockets.Joined n) (s.flowing.orderly place cell called.at) tt);
  reads = subst (λ d. AllRead cell.0.host d) called.does (event_read cell.0.host (sockets.Joined n)) (s.sure.ends.agrees.sound place cell called.at);
  new = λ m. join.plain m (stage_held place m now.sockets);
  none = λ m e. none_found (find (is_socket m) cell.0.host.sockets) (s.sure.ends.agrees.ends place cell called.at m ∙ by_end m (is_end_of place m socket.o) (sym (held m) ∙ e));
  there = λ t other e m f of. all_changed (λ w. (e : End) (m : ℕ) → is_end_of place m (end_of e w) ≡ true → (held : Socket) × (find (is_socket m) cell.0.host.sockets ≡ Some held)) socket.name O opened world (λ old f. by_which old f) (λ t other h f e m of. there t other e m f of) t other f e m of;
  holds = join.holds;
  named = λ t other m user f c k never names. absurd never;
  covers = λ t other f clean m of. tt;
  fine = λ m c d r. let no : ◌≡◌ {A = Option (List ℕ)} None (Some (answer_spelling Mismatch)) = sym (join.silent m d) ∙ r in absurd cc;
}) where
  now : World
  now = joined_in socket world

  cells : now.cells ≡ world.cells
  cells = cells_stay socket.name O opened world

  pending : is_pending socket.o.stage ≡ true
  pending = (and_parts (is_pending socket.o.stage) (is_some socket.t.cell) can).0

  join : IsJoin cell.0.host steps host
  join = subst (λ d. AllJoin cell.0.host d) called.does (join_host cell.0.host n) (s.sure.ends.agrees.sound place cell called.at).free

  held : (m : ℕ) → stage_held place m now.sockets ≡ cond (is_end_of place m socket.o) (Some Open) (stage_held place m world.sockets)
  held m = changed_held place m socket.name O opened world socket s.sure.ends.sorted.0.apart s.sure.ends.each is (λ end. (refl, refl))

  by_end : (m : ℕ) (b : Bool) → cond b (Some Open) (stage_held place m world.sockets) ≡ None → stage_held place m world.sockets ≡ None
  by_end m true e = absurd cc
  by_end m false e = e

  there : HaveRecords place cell.0.host world.sockets
  there = have_records place cell world called.at s.sure.ends.each s.sure.ends.agrees

  by_which : (old : WorldSocket) → find (is_socket_named socket.name) world.sockets ≡ Some old → (e : End) (m : ℕ) → is_end_of place m (end_of e (with_end O (opened old.o) old)) ≡ true → (held : Socket) × (find (is_socket m) cell.0.host.sockets ≡ Some held)
  by_which old f O m of = there socket.name old O m f of
  by_which old f T m of = there socket.name old T m f of
