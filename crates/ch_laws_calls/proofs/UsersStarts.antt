-- What is so before a call of a host is so as its steps begin to be told, as the host reads after it.
use Rattle.std.proofs.Common.{◌≡◌, ℕ, Bool, true, false, cond, ◌&&◌, inl, inr, List, [], ◌∷◌, drop, refl, sym, ap, ◌∙◌, subst}
use Rattle.std.specs.Option.{option_map}
use Rattle.std.specs.Prelude.{find, slice_get, Option, Some, None, ◌==◌}
use Rattle.ch_base.specs.declared.address.Address.{Address}
use Rattle.ch_reader.specs.Reading.{reading}
use Rattle.ch_reader.specs.declared.item.Expected.{Expected}
use Rattle.ch_reader.specs.declared.item.Expected.TheVariants as expected
use Rattle.ch_reader.specs.declared.item.Item.{Item}
use Rattle.ch_model.specs.declared.entry.Entry.{Entry}
use Rattle.ch_model.specs.declared.line.Line.{Line}
use Rattle.ch_model.specs.declared.name.End.{End}
use Rattle.ch_model.specs.declared.name.End.TheVariants.{O, T}
use Rattle.ch_model.specs.declared.name.SockName.{SockName}
use Rattle.ch_model.specs.declared.step.Step.{Step}
use Rattle.ch_model.specs.HostState.{Socket, HostState}
use Rattle.ch_model.specs.HostSteps.{is_socket}
use Rattle.ch_model.specs.Naming.{called}
use Rattle.ch_model.specs.Stages.{is_ended}
use Rattle.ch_model.specs.WorldSockets.{end_of, is_socket_named, same_number, is_end_of}
use Rattle.ch_model.specs.WorldState.{Cell, WorldEnd, WorldSocket, World}
use Rattle.ch_laws_log.specs.WorldEnds.{stage_found}
use Rattle.ch_laws_log.proofs.Stored.{number_is, number_same}
use Rattle.ch_laws_ends.proofs.Found.{EachFound, Stands}
use Rattle.ch_laws_ends.specs.Agree.{AgreesOnEnds}
use Rattle.ch_laws_reads.specs.Reads.{AreRead, GoesOn, IsKept, Reads, reads_of}
use Rattle.ch_laws_writes.specs.Dues.{due_at}
use Rattle.ch_laws_bytes.proofs.Event.{given_readers, given_dues}
use Rattle.ch_laws_bytes.proofs.Happen.{dues_there}
use Rattle.ch_laws_bytes.proofs.Lines.{own_of}
use Rattle.ch_laws_bytes.specs.Streams.{Reader, reader_in, reader_at, readers_of, dues_of, reads_at}
use Rattle.ch_laws_pairs.specs.Dials.{IsBetweenNames}
use Rattle.ch_laws_calls.specs.UsersCarried.{AllOf, record_at, records_of, IsSeated, IsBegun, Carried}
use Rattle.ch_laws_calls.specs.UsersRecords.{Users, IsUser, IsStill, Holds}
use Rattle.ch_laws_calls.specs.UsersRecords as records
use Rattle.ch_laws_calls.specs.Users.{IsTargets}
use Rattle.ch_laws_calls.proofs.UsersDone.{due_as, given_records}
use Rattle.ch_laws_calls.proofs.UsersSeated.{IsClear}
use Rattle.ch_laws_calls.proofs.UsersTold.{AreCarried}

-- ---- what was read before

-- once an item is read frames are
frames_next : (next : Expected) (since left : List ℕ) (items : List Item) → AreRead expected.Frame since items next left → next ≡ expected.Frame
frames_next next since left [] r = r.0
frames_next next since left (item ∷ more) r = frames_next next (drop (reading expected.Frame since).1 since) left more r.1

-- where no frame is read next, nothing was read
unread_still : (e next : Expected) (since left : List ℕ) (items : List Item) → AreRead e since items next left → (next ≡ expected.Frame → ⊥) → ◌≡◌ {A = Reader} (next, left) (e, since)
unread_still e next since left [] r never = ap (λ (x : Expected). (x, left)) r.0 ∙ ap (λ (l : List ℕ). (e, l)) r.1
unread_still e next since left (item ∷ more) r never = absurd (never (frames_next next (drop (reading e since).1 since) left more r.1))

reader_before : (count : ℕ) (one two : Socket) (k : Expected) (since : List ℕ) → GoesOn count one two → (k ≡ expected.Frame → ⊥) → reader_in (Some two) ≡ Some (k, since) → reader_in (Some one) ≡ Some (k, since)
reader_before count one two k since g never = by_tests (is_ended one.stage) refl (is_ended two.stage) refl where
  one_of : (x : Reader) → ◌≡◌ {A = Option Reader} (Some x) (Some (k, since)) → x ≡ (k, since)
  one_of x e = cc

  by_tests : (a : Bool) → is_ended one.stage ≡ a → (b : Bool) → is_ended two.stage ≡ b → cond {A = Option Reader} b None (Some (two.expected, two.since)) ≡ Some (k, since) → cond {A = Option Reader} a None (Some (one.expected, one.since)) ≡ Some (k, since)
  by_tests a e true h r = absurd cc
  by_tests true e false h r = let over : is_ended two.stage ≡ true = g.over e in absurd cc
  by_tests false e false h r =
      let read = g.read h in
      let now : (two.expected, two.since) ≡ (k, since) = one_of (two.expected, two.since) r in
      ap Some (sym (unread_still one.expected two.expected one.since two.since read.items read.front (λ f. never (sym (ap (λ (x : Reader). x.0) now) ∙ f))) ∙ now)

-- so it is of a host's records
pub reads_back : (before after : HostState) (told : List Step) (n : ℕ) (held : Socket) (k : Expected) (since : List ℕ) → Reads before told after → find (is_socket n) before.sockets ≡ Some held → (k ≡ expected.Frame → ⊥) → reader_in (find (is_socket n) after.sockets) ≡ Some (k, since)
    → reader_in (find (is_socket n) before.sockets) ≡ Some (k, since)
reads_back before after told n held k since r f never e = by_kept (find (is_socket n) after.sockets) (r.known n held f) e where
  by_kept : (o : Option Socket) → IsKept (reads_of n told) held o → reader_in o ≡ Some (k, since) → reader_in (find (is_socket n) before.sockets) ≡ Some (k, since)
  by_kept None g e = absurd g
  by_kept (Some two) g e = ap reader_in f ∙ reader_before (reads_of n told) held two k since g never e

-- ---- ends have records

-- the end of a place and number, where the host there has a record
pub is_at : (place n : ℕ) (end : WorldEnd) → end.cell ≡ Some place → end.number ≡ Some n → is_end_of place n end ≡ true
is_at place n end c m = ap (λ (o : Option ℕ). same_number o place && same_number end.number n) c ∙ ap (λ (o : Option ℕ). same_number (Some place) place && same_number o n) m ∙ ap (λ b. b && (n == n)) (number_same place) ∙ number_same n

-- each end of a socket that is of a place and number has its record at the host there
abbrev pub HaveRecords : ℕ → HostState → List WorldSocket → Type 0
HaveRecords place host sockets = (s : SockName) (socket : WorldSocket) (e : End) (n : ℕ) → find (is_socket_named s) sockets ≡ Some socket → is_end_of place n (end_of e socket) ≡ true → (held : Socket) × (find (is_socket n) host.sockets ≡ Some held)

pub have_records : (place : ℕ) (cell : Cell × ℕ) (world : World) → slice_get world.cells place ≡ Some cell → EachFound world.sockets → AgreesOnEnds world → HaveRecords place cell.0.host world.sockets
have_records place cell world at each agrees s socket e n f is = by_socket (find (is_socket n) cell.0.host.sockets) refl (agrees.ends place cell at n ∙ ap (λ (o : Option (SockName × End)). stage_found o world.sockets) (each s socket e place n f is) ∙ ap (Stands e) f) where
  by_socket : (o : Option Socket) → find (is_socket n) cell.0.host.sockets ≡ o → option_map (λ (w : Socket). w.stage) o ≡ Some (end_of e socket).stage → (held : Socket) × (find (is_socket n) cell.0.host.sockets ≡ Some held)
  by_socket None x e = absurd cc
  by_socket (Some held) x e = (held, x)

-- ---- as the steps begin

-- What is given of a call: its host's records keep their users, or get such as their sockets are called; and what is read of what was
-- there before was read then.
pub record Starts (journal : List Line) (world : World) (place : ℕ) (before after : HostState) (may : Users) (clear : ℕ → Type 0) : Type 0 where
  pub there : HaveRecords place before world.sockets
  pub holds : Holds may before after
  pub back : (n : ℕ) (held : Socket) (k : Expected) (since : List ℕ) → find (is_socket n) before.sockets ≡ Some held → (k ≡ expected.Frame → ⊥) → reader_in (find (is_socket n) after.sockets) ≡ Some (k, since) → reader_in (find (is_socket n) before.sockets) ≡ Some (k, since)
  pub named : (s : SockName) (socket : WorldSocket) (n : ℕ) (user : ℕ × Address) → find (is_socket_named s) world.sockets ≡ Some socket → socket.t.cell ≡ Some place → socket.t.number ≡ Some n → may n user → IsBetweenNames socket.name
      → (called world.names (own_of journal place user.0) ≡ socket.name.to) × (called world.names user.1 ≡ socket.name.from)
  pub covers : AllOf (IsClear place clear) world.sockets

-- the host's records lead on from those of the target's
targets_on : (journal : List Line) (world : World) (place : ℕ) (before after : HostState) (may : Users) (clear : ℕ → Type 0) (s : SockName) (socket : WorldSocket) (n : ℕ) (held now : Socket) → Starts journal world place before after may clear → find (is_socket_named s) world.sockets ≡ Some socket → socket.t.cell ≡ Some place → socket.t.number ≡ Some n
    → IsTargets (own_of journal place) world.names socket held → records.IsKept (may n) held now → IsTargets (own_of journal place) world.names socket now
targets_on journal world place before after may clear s socket n held now g f c m t k = record {
  peer_host = k.peer_host ∙ t.peer_host;
  user = λ end peer b u. by_user end peer b u k.user;
} where
  one : (x y : ℕ × Address) → ◌≡◌ {A = Option (ℕ × Address)} (Some x) (Some y) → x ≡ y
  one x y e = cc

  by_user : (end : ℕ) (peer : Address) → IsBetweenNames socket.name → now.user ≡ Some (end, peer) → IsUser (may n) held.user now.user → (called world.names (own_of journal place end) ≡ socket.name.to) × (called world.names peer ≡ socket.name.from)
  by_user end peer b u (inl same) = t.user end peer b (sym same ∙ u)
  by_user end peer b u (inr new) = let is = one new.0 (end, peer) (sym new.1 ∙ u) in
      subst (λ (x : ℕ × Address). (called world.names (own_of journal place x.0) ≡ socket.name.to) × (called world.names x.1 ≡ socket.name.from)) is (g.named s socket n new.0 f c m new.2 b)

pub starts : (journal : List Line) (log : List Entry) (world : World) (place : ℕ) (cell : Cell × ℕ) (after : HostState) (may : Users) (clear : ℕ → Type 0) → slice_get world.cells place ≡ Some cell → Carried journal log world → Starts journal world place cell.0.host after may clear
    → AreCarried journal world.names (given_records place after world.cells) (given_readers place after world.cells) (given_dues place (due_at cell.0.host) world.cells) place clear world.sockets
starts journal log world place cell after may clear at j g = record {
  put = λ s socket f. (seated s socket f, g.covers s socket f);
  begun = due_as journal world.names (given_readers place after world.cells) (dues_of world.cells) (given_dues place (due_at cell.0.host) world.cells) world.sockets (dues_there world.cells place cell at) begun;
} where
  own_record : (n : ℕ) → records_of world.cells place n ≡ find (is_socket n) cell.0.host.sockets
  own_record n = ap (λ (o : Option (Cell × ℕ)). record_at o n) at

  own_reader : (n : ℕ) → readers_of world.cells place n ≡ reader_in (find (is_socket n) cell.0.host.sockets)
  own_reader n = ap (λ (o : Option (Cell × ℕ)). reader_at o n) at

  seated : (s : SockName) (socket : WorldSocket) → find (is_socket_named s) world.sockets ≡ Some socket → IsSeated journal world.names (given_records place after world.cells) socket
  seated s socket f = record { opener = old.opener; at = old.at; from_host = old.from_host; taken = old.taken; uncut = old.uncut; target = λ p n held c m r. by_test p n held c m (place == p) refl r } where
    old : IsSeated journal world.names (records_of world.cells) socket
    old = j.seated s socket f

    by_record : (n : ℕ) (now : Socket) → socket.t.cell ≡ Some place → socket.t.number ≡ Some n → find (is_socket n) after.sockets ≡ Some now → (held : Socket) → find (is_socket n) cell.0.host.sockets ≡ Some held → IsTargets (own_of journal place) world.names socket now
    by_record n now c m r held h = targets_on journal world place cell.0.host after may clear s socket n held now g f c m (old.target place n held c m (own_record n ∙ h)) (subst (λ (o : Option Socket). IsStill (may n) held o) r (g.holds.same n held h))

    by_test : (p n : ℕ) (held : Socket) → socket.t.cell ≡ Some p → socket.t.number ≡ Some n → (b : Bool) → (place == p) ≡ b → cond b (find (is_socket n) after.sockets) (records_of world.cells p n) ≡ Some held → IsTargets (own_of journal p) world.names socket held
    by_test p n held c m false h r = old.target p n held c m r
    by_test p n held c m true h r =
        let mine : socket.t.cell ≡ Some place = c ∙ ap Some (sym (number_is place p h)) in
        let was = g.there s socket T n f (is_at place n socket.t mine m) in
        subst (λ (q : ℕ). IsTargets (own_of journal q) world.names socket held) (number_is place p h) (by_record n held mine m r was.0 was.1)

  begun : AllOf (IsBegun journal world.names (given_readers place after world.cells) (dues_of world.cells)) world.sockets
  begun s socket f = record {
    leads = b.leads;
    answer = λ clean over since r. b.answer clean over since (back expected.Answer O since (λ e. cc) r);
    request = λ p c over since r. b.request p c over since (back expected.Request T since (λ e. cc) r);
  } where
    b : IsBegun journal world.names (readers_of world.cells) (dues_of world.cells) socket
    b = j.begun s socket f

    by_test : (e : End) (k : Expected) (p n : ℕ) (since : List ℕ) → (end_of e socket).cell ≡ Some p → (end_of e socket).number ≡ Some n → (k ≡ expected.Frame → ⊥) → (x : Bool) → (place == p) ≡ x → cond x (reader_in (find (is_socket n) after.sockets)) (readers_of world.cells p n) ≡ Some (k, since) → readers_of world.cells p n ≡ Some (k, since)
    by_test e k p n since c m never false h r = r
    by_test e k p n since c m never true h r =
        let was = g.there s socket e n f (is_at place n (end_of e socket) (c ∙ ap Some (sym (number_is place p h))) m) in
        ap (λ (q : ℕ). readers_of world.cells q n) (sym (number_is place p h)) ∙ own_reader n ∙ g.back n was.0 k since was.1 never r

    back : (k : Expected) (e : End) (since : List ℕ) → (k ≡ expected.Frame → ⊥) → reads_at (given_readers place after world.cells) k (end_of e socket).cell (end_of e socket).number ≡ Some (k, since) → reads_at (readers_of world.cells) k (end_of e socket).cell (end_of e socket).number ≡ Some (k, since)
    back k e since never = by_end (end_of e socket).cell refl (end_of e socket).number refl where
      by_end : (c : Option ℕ) → (end_of e socket).cell ≡ c → (m : Option ℕ) → (end_of e socket).number ≡ m → reads_at (given_readers place after world.cells) k c m ≡ Some (k, since) → reads_at (readers_of world.cells) k c m ≡ Some (k, since)
      by_end None x m y r = r
      by_end (Some p) x None y r = r
      by_end (Some p) x (Some n) y r = by_test e k p n since x y never (place == p) refl r
