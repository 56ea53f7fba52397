-- What happens in a journal of many nodes, thing by thing, leaves hosts what was fed, and raises links by that alone.
use Rattle.std.proofs.Common.{◌≡◌, ℕ, Bool, true, false, cond, ◌&&◌, ◌||◌, List, [], ◌∷◌, ◌++◌, Ok, refl, sym, ap, ◌∙◌, subst, append_assoc}
use Rattle.std.proofs.lemmas.Bool.{and_parts}
use Rattle.std.proofs.lemmas.List.Sums.{sum_by-cons}
use Rattle.std.specs.List.{list_any}
use Rattle.std.specs.Option.{option_map}
use Rattle.std.specs.Prelude.{find, slice_get, slice_set, Result, Option, Some, None, ◌==◌}
use Rattle.ch_wire.specs.declared.answer.Answer.TheVariants as answers
use Rattle.ch_reader.specs.Reading.{reading}
use Rattle.ch_reader.specs.declared.item.Expected.{Expected}
use Rattle.ch_reader.specs.declared.item.Expected.TheVariants as expected
use Rattle.ch_reader.specs.declared.item.Front.TheVariants.{Whole}
use Rattle.ch_reader.specs.declared.item.Item.TheVariants as items
use Rattle.ch_model.specs.declared.entry.Entry.{Entry}
use Rattle.ch_model.specs.declared.entry.Entry.TheVariants as entries
use Rattle.ch_model.specs.declared.entry.Verdict.{Verdict}
use Rattle.ch_model.specs.declared.line.Line.{Line}
use Rattle.ch_model.specs.declared.name.End.{End}
use Rattle.ch_model.specs.declared.name.End.TheVariants.{O, T}
use Rattle.ch_model.specs.declared.name.SockName.{SockName}
use Rattle.ch_model.specs.declared.note.Note.{Note}
use Rattle.ch_model.specs.declared.note.Note.TheVariants as notes
use Rattle.ch_model.specs.declared.step.Place.{Place}
use Rattle.ch_model.specs.declared.step.SocketEvent.TheVariants as sockets
use Rattle.ch_model.specs.declared.step.Step.{Step}
use Rattle.ch_model.specs.declared.step.Step.TheVariants.{Write}
use Rattle.ch_model.specs.AccountsBytes.{accepts_next}
use Rattle.ch_model.specs.Declarations.{has_host}
use Rattle.ch_model.specs.Host.{host_next}
use Rattle.ch_model.specs.HostState.{Socket, HostState}
use Rattle.ch_model.specs.HostSteps.{is_socket}
use Rattle.ch_model.specs.Logs.{each, each_between}
use Rattle.ch_model.specs.Naming.{Names}
use Rattle.ch_model.specs.NodeState.{NodeState}
use Rattle.ch_model.specs.Sockets.{feeds, fed}
use Rattle.ch_model.specs.Stages.{Stage, Pending, Open, Ended, is_pending, is_ended}
use Rattle.ch_model.specs.WorldHappenings.{with_cell}
use Rattle.ch_model.specs.WorldSockets.{end_of, opened, is_socket_named, is_end_of, same_number}
use Rattle.ch_model.specs.WorldState.{Cell, WorldEnd, WorldSocket, World}
use Rattle.ch_model.specs.WorldSteps.{note_entry, place_after}
use Rattle.ch_laws_log.specs.HostEnds.{stage_at, IsSound, Tells, AllTold}
use Rattle.ch_laws_log.proofs.Agreeing.{At, Good, keeps_good}
use Rattle.ch_laws_log.proofs.Blocks.{each_append}
use Rattle.ch_laws_log.proofs.HostTold.{number_found}
use Rattle.ch_laws_log.proofs.Seen.{seen_more}
use Rattle.ch_laws_log.proofs.Stored.{number_is, number_same, found_end, find_name}
use Rattle.ch_laws_log.proofs.Views.{Seen, is_of, sees, seen_in}
use Rattle.ch_laws_log.proofs.WorldEnds.{found_is}
use Rattle.ch_laws_ends.proofs.Changes.{cells_stay}
use Rattle.ch_laws_ends.proofs.Happen.{its_stage}
use Rattle.ch_laws_ends.proofs.Known.{pending_is}
use Rattle.ch_laws_reads.specs.Reads.{Reads, AllRead}
use Rattle.ch_laws_bytes.specs.Streams.{Reader, reader_in, readers_of, first_at, reads_at}
use Rattle.ch_laws_bytes.proofs.Event.{given_readers, readers_set}
use Rattle.ch_laws_bytes.proofs.Happen.{readers_there}
use Rattle.ch_laws_bytes.proofs.Stepped.{ReadsFirst}
use Rattle.ch_laws_links.specs.Naming.{IsNaming, Word}
use Rattle.ch_laws_links.specs.Standing.{standing, standing_of, standing_at, is_there}
use Rattle.ch_laws_links.proofs.Hosts.{next_naming}
use Rattle.ch_laws_accounts.specs.Ups.{AllUps, raises_by, IsRaised}
use Rattle.ch_laws_accounts.proofs.Ups.{next_ups, on_raises_none}
use Rattle.ch_laws_calls.specs.Calls.{IsIn, IsHeldBy, IsCalled, with_host, done_at, joined_in}
use Rattle.ch_laws_calls.specs.Sound.{SoundEnds}
use Rattle.ch_laws_calls.proofs.SoundHears.{IsJoined, joined_so, found_after}
use Rattle.ch_laws_risen.specs.Firsts.{IsFed, HasAll, AllHave, begins_whole, has_read, AreRisen}
use Rattle.ch_laws_risen.specs.Risings.{IsAnswered}
use Rattle.ch_laws_risen.proofs.Firsts.{have_more, have_as, have_changed, AllDials, done_have, call_have}
use Rattle.ch_laws_risen.proofs.Fronts.{request_raised, answer_raised, no_answer, no_frame_raises, no_frame_answers}
use Rattle.ch_laws_risen.proofs.Logs.{zero_last, unfed, is_feeding, is_rising, quiet_read, quiet_accepted, accepted_both}
use Rattle.ch_laws_risen.proofs.Risings.{next_rises}
use Rattle.ch_laws_risen.proofs.Told.{Risen, Fit, RisenSo, told_unrisen, told_good, told_risen}

-- ---- a log that grows

-- what is so of the log alone
abbrev pub IsRisen : List Entry → Type 0
IsRisen log = (each has_read log ≡ true) × (each_between accepts_next log ≡ true)

pub grown : (log told : List Entry) → RisenSo log told → IsRisen log → IsRisen (log ++ told)
grown log told so is = (each_append has_read [] log told is.0 so.0, accepted_both [] log told is.1 so.1)

pub quietly_grown : (log told : List Entry) → list_any is_rising told ≡ false → IsRisen log → IsRisen (log ++ told)
quietly_grown log told quiet is = grown log told (quiet_read log told quiet, quiet_accepted log told quiet) is

-- ---- what calls no host

pub marked_risen : (log : List Entry) (world : World) (number : ℕ) (answer : Verdict) → AreRisen log world → AreRisen (log ++ entries.Line number answer ∷ []) world
marked_risen log world number answer r = record {
  good = λ journal. (keeps_good journal).mark log world number answer (r.good journal);
  have = have_more log (entries.Line number answer ∷ []) (readers_of world.cells) world.sockets (unfed (entries.Line number answer ∷ []) refl) r.have;
  read = so.0;
  accepted = so.1;
} where
  so : IsRisen (log ++ entries.Line number answer ∷ [])
  so = quietly_grown log (entries.Line number answer ∷ []) refl (r.read, r.accepted)

note_unfed : (known : Names) (last : Option Place) (note : Note) → is_feeding (note_entry known last note) ≡ false
note_unfed known last (notes.Made process origin) = refl
note_unfed known last note = refl

note_unrisen : (known : Names) (last : Option Place) (note : Note) → is_rising (note_entry known last note) ≡ false
note_unrisen known last (notes.Made process origin) = refl
note_unrisen known last note = refl

alone : (b : Bool) → b ≡ false → (b || false) ≡ false
alone b e = ap (λ c. c || false) e

pub noted_risen : (log : List Entry) (world : World) (note : Note) → AreRisen log world → AreRisen (log ++ note_entry world.names world.last note ∷ []) (record world { last = place_after world.last note })
noted_risen log world note r = record {
  good = λ journal. (keeps_good journal).note log world note (r.good journal);
  have = have_more log (x ∷ []) (readers_of world.cells) world.sockets (unfed (x ∷ []) (alone (is_feeding x) (note_unfed world.names world.last note))) r.have;
  read = so.0;
  accepted = so.1;
} where
  x : Entry
  x = note_entry world.names world.last note

  so : IsRisen (log ++ x ∷ [])
  so = quietly_grown log (x ∷ []) (alone (is_rising x) (note_unrisen world.names world.last note)) (r.read, r.accepted)

pub seated_risen : (log : List Entry) (world : World) (place : ℕ) (cell : Cell × ℕ) (nodes : List (ℕ × NodeState)) → slice_get world.cells place ≡ Some cell → AreRisen log world → AreRisen log (with_cell place (record (cell.0) { nodes = nodes }, cell.1) world)
seated_risen log world place cell nodes at r = record {
  good = λ journal. (keeps_good journal).cell log world place now (r.good journal);
  have = have_as log (readers_of world.cells) (readers_of (slice_set world.cells place now)) world.sockets (λ p n. readers_set world.cells place cell now at p n ∙ readers_there world.cells place cell at p n) r.have;
  read = r.read;
  accepted = r.accepted;
} where
  now : Cell × ℕ
  now = (record (cell.0) { nodes = nodes }, cell.1)

-- ---- a call

-- what is told of a host's steps, where the log is as it should be, and hosts then have what was fed
pub done_risen : (log : List Entry) (world : World) (place : ℕ) (cell : Cell × ℕ) (steps : List Step) (host : HostState) → ((journal : List Line) → Good journal log world) → let done = done_at place cell steps host world in RisenSo log done.0 → IsRisen log → AllHave (log ++ done.0) (readers_of done.1.cells) done.1.sockets
    → AreRisen (log ++ done.0) done.1
done_risen log world place cell steps host good so is have = record {
  good = λ journal. told_good journal log place (with_host cell host) steps (with_cell place (with_host cell host, cell.1) world) ((keeps_good journal).cell log world place (with_host cell host, cell.1) (good journal));
  have = have;
  read = now.0;
  accepted = now.1;
} where
  now : IsRisen (log ++ (done_at place cell steps host world).0)
  now = grown log (done_at place cell steps host world).0 so is

-- where no link comes up in it
pub quiet_risen : (log : List Entry) (world : World) (place : ℕ) (cell : Cell × ℕ) (steps : List Step) (host : HostState) → ((journal : List Line) → Good journal log world) → AllUps (λ n. ⊥) steps → IsRisen log → let done = done_at place cell steps host world in AllHave (log ++ done.0) (readers_of done.1.cells) done.1.sockets
    → AreRisen (log ++ done.0) done.1
quiet_risen log world place cell steps host good ups is have = done_risen log world place cell steps host good (quiet_read log done.0 quiet, quiet_accepted log done.0 quiet) is have where
  done : List Entry × World
  done = done_at place cell steps host world

  quiet : list_any is_rising done.0 ≡ false
  quiet = told_unrisen place (with_host cell host) steps (with_cell place (with_host cell host, cell.1) world) ups

-- the same after an entry of the world's own
pub after_own : (log : List Entry) (x : Entry) (told : List Entry) (world : World) → AreRisen ((log ++ x ∷ []) ++ told) world → AreRisen (log ++ x ∷ told) world
after_own log x told world r = subst (λ (l : List Entry). AreRisen l world) (append_assoc log (x ∷ []) told) r

-- whatever is asked of the host, by which no link comes up
pub asked_risen : {E : Type 0} (journal : List Line) (before log : List Entry) (world : World) (place : ℕ) (cell : Cell × ℕ) (steps : List Step) (host : HostState) (given : Result (List Step × HostState) E) → given ≡ Ok (steps, host) → SoundEnds journal before world → slice_get world.cells place ≡ Some cell
    → AllTold cell.0.host given → AllRead cell.0.host given → AllUps (λ n. ⊥) steps → AreRisen log world → let done = done_at place cell steps host world in AreRisen (log ++ done.0) done.1
asked_risen {E = E} journal before log world place cell steps host given is s at tells reads ups r = quiet_risen log world place cell steps host r.good ups (r.read, r.accepted)
    (call_have journal log world place cell steps host at (r.good journal) s.sure.ends.each (s.sure.ends.agrees.ends place cell at) told.new read r.have) where
      sound : IsSound cell.0.host
      sound = s.sure.ends.agrees.sound place cell at

      told : Tells cell.0.host steps host
      told = subst (λ (d : Result (List Step × HostState) E). AllTold cell.0.host d) is tells sound

      read : Reads cell.0.host steps host
      read = subst (λ (d : Result (List Step × HostState) E). AllRead cell.0.host d) is reads sound

-- ---- an end of input

sees_none : (b : Bool) (n : SockName) (e : End) (seen : Seen) → sees b (entries.Fed n e 0) seen ≡ seen
sees_none true n O seen = refl
sees_none true n T seen = refl
sees_none false n O seen = refl
sees_none false n T seen = refl

none_fed_good : (journal : List Line) (log : List Entry) (world : World) (n : SockName) (e : End) → Good journal log world → Good journal (log ++ entries.Fed n e 0 ∷ []) world
none_fed_good journal log world n e g = record {
  apart = g.apart;
  numbered = g.numbered;
  within = g.within;
  agrees = λ s. subst (λ (v : Seen). At (has_host journal s.to) v (find (is_socket_named s) world.sockets)) (sym (seen_more log s (entries.Fed n e 0) ∙ sees_none (is_of s (entries.Fed n e 0)) n e (seen_in log s))) (g.agrees s);
}

none_fed : (n s : SockName) (e a : End) → fed (entries.Fed n e 0 ∷ []) s a ≡ 0
none_fed n s e a = sum_by-cons (feeds s a) (entries.Fed n e 0) [] ∙ zero_last (feeds s a (entries.Fed n e 0)) ∙ either _ where
  either : (b : Bool) → ◌≡◌ {A = ℕ} (cond b 0 0) 0
  either true = refl
  either false = refl

pub none_fed_risen : (log : List Entry) (world : World) (n : SockName) (e : End) → AreRisen log world → AreRisen (log ++ entries.Fed n e 0 ∷ []) world
none_fed_risen log world n e r = record {
  good = λ journal. none_fed_good journal log world n e (r.good journal);
  have = have_more log (entries.Fed n e 0 ∷ []) (readers_of world.cells) world.sockets (λ s a. none_fed n s e a) r.have;
  read = so.0;
  accepted = so.1;
} where
  so : IsRisen (log ++ entries.Fed n e 0 ∷ [])
  so = quietly_grown log (entries.Fed n e 0 ∷ []) refl (r.read, r.accepted)

-- ---- an item

reads_mine : (readers : ℕ → ℕ → Option Reader) (first : Expected) (end : WorldEnd) (place n : ℕ) → is_end_of place n end ≡ true → reads_at readers first end.cell end.number ≡ readers place n
reads_mine readers first end place n of = by_end end.cell end.number of where
  by_end : (c m : Option ℕ) → (same_number c place && same_number m n) ≡ true → reads_at readers first c m ≡ readers place n
  by_end None m h = absurd cc
  by_end (Some p) None h = let none = and_parts (p == place) false h in absurd cc
  by_end (Some p) (Some k) h = let both = and_parts (p == place) (k == n) h in ap (λ (q : ℕ). readers q k) (number_is p place both.0) ∙ ap (readers place) (number_is k n both.1)

raised_at : (log : List Entry) (s : SockName) (e : End) (next : Expected) (since : List ℕ) → HasAll log s e next since → raises_by (reading next since).0 ≡ true → (bytes : List ℕ) × IsFed log s e bytes × (begins_whole e bytes ≡ true)
raised_at log s O expected.Answer since h r = (since, h, answer_raised since r)
raised_at log s T expected.Request since h r = (since, h, request_raised since r)
raised_at log s O expected.Frame since h r = absurd (no_frame_raises since r)
raised_at log s T expected.Frame since h r = absurd (no_frame_raises since r)
raised_at log s O expected.Request since h r = absurd h
raised_at log s T expected.Answer since h r = absurd h

opens_at : (log : List Entry) (s : SockName) (e : End) (next : Expected) (since : List ℕ) → HasAll log s e next since → (reading next since).0 ≡ Whole (items.Answer answers.Accepted) → e ≡ O
opens_at log s O next since h f = refl
opens_at log s T expected.Request since h f = absurd (no_answer since answers.Accepted f)
opens_at log s T expected.Frame since h f = absurd (no_frame_answers since answers.Accepted f)
opens_at log s T expected.Answer since h f = absurd h

not_over : (stage : Stage) (word : Word) → is_there (Some (standing stage word)) ≡ true → is_ended stage ≡ false
not_over Pending word h = refl
not_over Open word h = refl
not_over Ended word h = absurd cc

item_fit : (journal : List Line) (log : List Entry) (world : World) (place : ℕ) (cell : Cell × ℕ) → slice_get world.cells place ≡ Some cell → Good journal log world → AllHave log (readers_of world.cells) world.sockets → Fit (IsRaised cell.0.host) (IsAnswered cell.0.host) log (standing_at cell.0.host) place world.sockets
item_fit journal log world place cell at g have n a found there = (raised, answered) where
  socket : WorldSocket
  socket = (found_end place n world.sockets a found).socket

  is : find (is_socket_named a.0) world.sockets ≡ Some socket
  is = (found_end place n world.sockets a found).is

  has : (known : Socket) → find (is_socket n) cell.0.host.sockets ≡ Some known → HasAll log a.0 a.1 known.expected known.since
  has known f = subst (λ (s : SockName). HasAll log s a.1 known.expected known.since) (find_name a.0 world.sockets socket is)
      (have a.0 socket is a.1 known.expected known.since (reads_mine (readers_of world.cells) (first_at a.1) (end_of a.1 socket) place n (found_is place n world.sockets a socket g.apart found is) ∙ sym (readers_there world.cells place cell at place n)
      ∙ ap (λ b. cond b (reader_in (find (is_socket n) cell.0.host.sockets)) (readers_of world.cells place n)) (number_same place) ∙ ap reader_in f
      ∙ ap (λ b. cond {A = Option Reader} b None (Some (known.expected, known.since))) (not_over known.stage _ (subst (λ (o : Option Socket). is_there (option_map standing_of o) ≡ true) f there))))

  raised : IsRaised cell.0.host n → Risen log a
  raised i = raised_at log a.0 a.1 i.0.expected i.0.since (has i.0 i.1) i.2

  answered : IsAnswered cell.0.host n → a.1 ≡ O
  answered i = opens_at log a.0 a.1 i.0.expected i.0.since (has i.0 i.1) i.2

pub item_risen : (journal : List Line) (log : List Entry) (world : World) (place : ℕ) (cell : Cell × ℕ) (steps : List Step) (host : HostState) → slice_get world.cells place ≡ Some cell → host_next cell.0.host ≡ Ok (Some steps, host) → SoundEnds journal log world → IsNaming cell.0.host → Tells cell.0.host steps host → Reads cell.0.host steps host → AreRisen log world
    → let done = done_at place cell steps host world in AreRisen (log ++ done.0) done.1
item_risen journal log world place cell steps host at does s naming tells reads r = done_risen log world place cell steps host r.good
    (told_risen (IsRaised cell.0.host) (IsAnswered cell.0.host) journal log place (with_host cell host) steps (with_cell place (with_host cell host, cell.1) world) (standing_at cell.0.host) ((keeps_good journal).cell log world place (with_host cell host, cell.1) (r.good journal))
    (next_naming cell.0.host host steps naming does).tells.right (next_ups cell.0.host host steps naming does) (next_rises cell.0.host host steps naming does) (item_fit journal log world place cell at (r.good journal) r.have)) (r.read, r.accepted)
    (call_have journal log world place cell steps host at (r.good journal) s.sure.ends.each (s.sure.ends.agrees.ends place cell at) tells.new reads r.have)

-- ---- an end is joined

pub joined_risen : (journal : List Line) (log : List Entry) (world : World) (socket : WorldSocket) (place n : ℕ) (cell : Cell × ℕ) (steps : List Step) (host : HostState) → IsIn socket world → is_pending socket.o.stage ≡ true → IsHeldBy place n socket.o → IsCalled world place cell (sockets.Joined n) steps host → SoundEnds journal log world → AreRisen log world
    → let done = done_at place cell steps host (joined_in socket world) in AreRisen (log ++ entries.Joined socket.name ∷ done.0) done.1
joined_risen journal log world socket place n cell steps host is p held c s r = after_own log (entries.Joined socket.name) (done_at place cell steps host now).0 (done_at place cell steps host now).1
    (quiet_risen log_now now place cell steps host good (on_raises_none cell.0.host host (sockets.Joined n) steps c.does) (quietly_grown log (entries.Joined socket.name ∷ []) refl (r.read, r.accepted))
    (done_have journal log_now now place cell steps host (ap (λ (l : List (Cell × ℕ)). slice_get l place) same_cells ∙ c.at) (good journal) (subst (AllDials (λ m. ReadsFirst (reader_in (find (is_socket m) host.sockets)))) (sym j.now.steps_are) (tt, tt)) all)) where
      now : World
      now = joined_in socket world

      log_now : List Entry
      log_now = log ++ entries.Joined socket.name ∷ []

      good : (other : List Line) → Good other log_now now
      good other = (keeps_good other).joined log world socket is p (r.good other)

      same_cells : now.cells ≡ world.cells
      same_cells = cells_stay socket.name O opened world

      stage : stage_at cell.0.host n ≡ Some Pending
      stage = s.sure.ends.agrees.ends place cell c.at n ∙ its_stage journal log world socket O place n s.sure is held.cell held.number ∙ ap Some (pending_is socket.o.stage p)

      j : IsJoined cell.0.host n steps host
      j = joined_so cell.0.host n steps host (s.sure.ends.agrees.sound place cell c.at) stage c.does

      new : Socket
      new = record (j.socket) { stage = Open }

      -- the host reads on it what it did
      reader_now : (m : ℕ) → reader_in (find (is_socket m) host.sockets) ≡ reader_in (find (is_socket m) cell.0.host.sockets)
      reader_now m = ap reader_in (found_after cell.0.host new (Write j.socket.number j.bytes None ∷ []) steps host j.now m) ∙ by_number (j.socket.number == m) refl where
        by_number : (b : Bool) → (j.socket.number == m) ≡ b → reader_in (cond b (Some new) (find (is_socket m) cell.0.host.sockets)) ≡ reader_in (find (is_socket m) cell.0.host.sockets)
        by_number false e = refl
        by_number true e =
            let there : find (is_socket m) cell.0.host.sockets ≡ Some j.socket = subst (λ (k : ℕ). find (is_socket k) cell.0.host.sockets ≡ Some j.socket) (sym (number_found n cell.0.host.sockets j.socket j.found) ∙ number_is j.socket.number m e) j.found in
            sym (ap reader_in there ∙ ap (λ (x : Stage). cond (is_ended x) None (Some (j.socket.expected, j.socket.since))) (pending_is j.socket.stage j.stands))

      readers_now : (q m : ℕ) → given_readers place host now.cells q m ≡ readers_of world.cells q m
      readers_now q m = ap (λ (l : List (Cell × ℕ)). cond (place == q) (reader_in (find (is_socket m) host.sockets)) (readers_of l q m)) same_cells
          ∙ ap (λ (o : Option Reader). cond (place == q) o (readers_of world.cells q m)) (reader_now m) ∙ readers_there world.cells place cell c.at q m

      all : AllHave log_now (given_readers place host now.cells) now.sockets
      all = have_as log_now (readers_of world.cells) (given_readers place host now.cells) now.sockets readers_now
          (have_changed log_now (readers_of world.cells) socket.name O opened world (λ end. (refl, refl)) (have_more log (entries.Joined socket.name ∷ []) (readers_of world.cells) world.sockets (unfed (entries.Joined socket.name ∷ []) refl) r.have))
