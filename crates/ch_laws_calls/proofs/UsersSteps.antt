-- All that a host tells keeps of whom ends are, what targets are asked, and what openers are answered.
use Rattle.std.proofs.Common.{◌≡◌, ℕ, Bool, true, false, cond, ◌&&◌, inl, List, [], ◌∷◌, ◌++◌, refl, sym, ap, ◌∙◌, subst}
use Rattle.std.proofs.lemmas.Bool.{and_parts}
use Rattle.std.specs.Prelude.{find, Option, Some, None, ◌==◌}
use Rattle.std.specs.List.{list_any}
use Rattle.std.specs.Str.{bytes_eq}
use Rattle.ch_base.specs.declared.address.Address.{Address}
use Rattle.ch_wire.specs.Spelling.{answer_spelling}
use Rattle.ch_wire.specs.declared.answer.Answer.TheVariants.{Mismatch}
use Rattle.ch_reader.specs.declared.item.Expected.TheVariants as expected
use Rattle.ch_model.specs.declared.entry.Entry.{Entry}
use Rattle.ch_model.specs.declared.entry.Entry.TheVariants as entries
use Rattle.ch_model.specs.declared.line.Line.{Line}
use Rattle.ch_model.specs.declared.name.End.{End}
use Rattle.ch_model.specs.declared.name.End.TheVariants.{O, T}
use Rattle.ch_model.specs.declared.name.SockName.{SockName}
use Rattle.ch_model.specs.declared.step.Step.{Step}
use Rattle.ch_model.specs.declared.step.Step.TheVariants as steps
use Rattle.ch_model.specs.HostState.{Socket}
use Rattle.ch_model.specs.HostSteps.{own_address}
use Rattle.ch_model.specs.Naming.{Names, called}
use Rattle.ch_model.specs.Same.{same_socket, same_end}
use Rattle.ch_model.specs.Stages.{Stage, Pending, Ended}
use Rattle.ch_model.specs.World.{world_new}
use Rattle.ch_model.specs.WorldSockets.{end_of, other, with_end, ended, item_arrives, end_of_nobody, is_socket_named, with_end_of, is_end_of, end_at, find_end, cell_of, target_end, new_socket}
use Rattle.ch_model.specs.WorldState.{Cell, WorldSocket, World}
use Rattle.ch_model.specs.WorldSteps.{later_places, item_is_read, reads_item, end_closes, stepped}
use Rattle.ch_laws_log.specs.HostEnds.{stage_after, AreNewTo, IsNewTo}
use Rattle.ch_laws_log.specs.WorldEnds.{stage_held}
use Rattle.ch_laws_log.proofs.Agreeing.{Good}
use Rattle.ch_laws_log.proofs.Stored.{number_is, number_same, next_is_new, Distinct}
use Rattle.ch_laws_log.proofs.WorldEnds.{found_is}
use Rattle.ch_laws_ends.proofs.Changes.{OnDial}
use Rattle.ch_laws_ends.proofs.Found.{none_found, EachFound}
use Rattle.ch_laws_ends.proofs.Known.{Sorted}
use Rattle.ch_laws_ends.proofs.Told.{each_new, no_number}
use Rattle.ch_laws_writes.specs.Dues.{Due, Asking, Answering, due_past, AllDue, WritesDue}
use Rattle.ch_laws_bytes.proofs.Lines.{own_of}
use Rattle.ch_laws_bytes.specs.Streams.{Reader, reads_at, writes_at, moved}
use Rattle.ch_laws_bytes.proofs.Sockets.{flip, writes_elsewhere, writes_same, other_end_there}
use Rattle.ch_laws_bytes.proofs.Stepped.{ReadsFirst, at_end_flow}
use Rattle.ch_laws_calls.specs.UsersCarried.{AllOf, hosts_of, AsksNext, AnswersNext, IsBegun}
use Rattle.ch_laws_calls.specs.UsersRecords.{Refuses}
use Rattle.ch_laws_calls.proofs.UsersBegun.{Moves, begun_as, written_by_opener, written_by_target, closed_opener, closed_target, places_passed}
use Rattle.ch_laws_calls.proofs.UsersSeated.{IsPut}
use Rattle.ch_laws_calls.proofs.UsersStored.{all_stored, all_changed, none_off, other_off}

-- ---- what is due after a step

only_there : (place p sock n : ℕ) (x y : Option Due) → ((p == place) && (n == sock)) ≡ false → cond (place == p) (cond (sock == n) x y) y ≡ y
only_there place p sock n x y h = by_tests (place == p) (sock == n) (ap (λ b. b && (sock == n)) (flip place p) ∙ ap (λ b. (p == place) && b) (flip sock n) ∙ h) where
  by_tests : (a b : Bool) → (a && b) ≡ false → cond a (cond b x y) y ≡ y
  by_tests true true h = absurd cc
  by_tests true false h = refl
  by_tests false b h = refl

here : (place sock : ℕ) (x y : Option Due) → cond (place == place) (cond (sock == sock) x y) y ≡ x
here place sock x y = ap (λ b. cond b (cond (sock == sock) x y) y) (number_same place) ∙ ap (λ b. cond b x y) (number_same sock)

either : (b : Bool) (x : Option Due) → cond b x x ≡ x
either true x = refl
either false x = refl

-- ---- a socket is dialed

-- where a socket is new at its opener's end, nothing was asked or answered
dialed_begun : (journal : List Line) (known : Names) (readers : ℕ → ℕ → Option Reader) (dues : ℕ → ℕ → Option Due) (place sock end : ℕ) (from_host : List ℕ) (own peer : Address) (world : World) → world.names ≡ known → own ≡ own_of journal place end → cell_of world peer ≡ cell_of (world_new journal) peer
    → ReadsFirst (readers place sock) → dues place sock ≡ Some (Asking end peer) → IsBegun journal known readers dues (new_socket world (called world.names own) (called world.names peer) from_host (end_of_nobody (Some place) (Some sock) Pending) peer)
dialed_begun journal known readers dues place sock end from_host own peer world names own_is home first asks = record {
  leads = record { asked = peer; to = ap (λ (k : Names). called k peer) (sym names); cell = its_cell (cell_of world peer) ∙ home };
  answer = λ clean over since r. inl (nothing (readers place sock) since first r, answers (cell_of world peer));
  request = λ p c over since r. inl (unsent (cell_of world peer) since r, subst (AsksNext (own_of journal p) known peer new.name) (sym asks) (ap (λ (k : Names). called k (own_of journal p end)) (sym names) ∙ ap (called world.names) (ap (λ (q : ℕ). own_of journal q end) (sym (one p c)) ∙ sym own_is), refl));
} where
  new : WorldSocket
  new = new_socket world (called world.names own) (called world.names peer) from_host (end_of_nobody (Some place) (Some sock) Pending) peer

  one : (p : ℕ) → ◌≡◌ {A = Option ℕ} (Some place) (Some p) → place ≡ p
  one p e = cc

  its_cell : (c : Option ℕ) → (target_end c).cell ≡ c
  its_cell None = refl
  its_cell (Some p) = refl

  answers : (c : Option ℕ) → AnswersNext (writes_at dues (target_end c).cell (target_end c).number)
  answers None = tt
  answers (Some p) = tt

  nothing : (reader : Option Reader) (since : List ℕ) → ReadsFirst reader → reader ≡ Some (expected.Answer, since) → since ++ [] ≡ []
  nothing None since f e = absurd cc
  nothing (Some reader) since f e = ap (λ (l : List ℕ). l ++ []) (sym (ap of e) ∙ f.1) where
    of : Option Reader → List ℕ
    of None = since
    of (Some r) = r.1

  unsent : (c : Option ℕ) (since : List ℕ) → reads_at readers expected.Request (target_end c).cell (target_end c).number ≡ Some (expected.Request, since) → since ++ (target_end c).unread ≡ []
  unsent None since e = absurd cc
  unsent (Some p) since e = ap (λ (l : List ℕ). l ++ []) (sym (ap of e)) where
    of : Option Reader → List ℕ
    of None = since
    of (Some r) = r.1

-- ---- each step

-- What all steps need: a socket that is dialed is new, and has nothing to read but an answer; each writes what is due then; and no target
-- of two names is first written a mismatch, where its answer is due.
pub record MayDo (own : ℕ → ℕ → Address) (readers : ℕ → ℕ → Option Reader) (dues : ℕ → ℕ → Option Due) (place : ℕ) (clear : ℕ → Type 0) (told : List Step) (sockets : List WorldSocket) : Type 0 where
  pub new : (n : ℕ) → AreNewTo n told (stage_held place n sockets)
  pub due : (n : ℕ) → AllDue (own place) n told (dues place n)
  pub first : (n : ℕ) → stage_held place n sockets ≡ None → ReadsFirst (readers place n)
  pub fine : (n : ℕ) → clear n → dues place n ≡ Some Answering → Refuses n told → ⊥

-- a world in which steps are told
pub record IsOrdered (journal : List Line) (log : List Entry) (place : ℕ) (cell : Cell) (known : Names) (world : World) : Type 0 where
  pub sorted : Sorted journal log world
  pub each : EachFound world.sockets
  pub names : world.names ≡ known
  pub own_is : (end : ℕ) → own_address cell.host end ≡ own_of journal place end
  pub taken : list_any (bytes_eq (own_of journal place 0).host) (hosts_of journal) ≡ true
  pub homes : (a : Address) → cell_of world a ≡ cell_of (world_new journal) a

-- the same is due everywhere
still_begun : (journal : List Line) (known : Names) (readers : ℕ → ℕ → Option Reader) (one two : ℕ → ℕ → Option Due) (sockets : List WorldSocket) → ((p n : ℕ) → two p n ≡ one p n) → AllOf (IsBegun journal known readers one) sockets → AllOf (IsBegun journal known readers two) sockets
still_begun journal known readers one two sockets same all s socket f = begun_as journal known readers one two socket (writes_same one two socket.o.cell socket.o.number same) (writes_same one two socket.t.cell socket.t.number same) (all s socket f)

-- the same is due at both ends of a socket that the number isn't of
off_begun : (journal : List Line) (known : Names) (readers : ℕ → ℕ → Option Reader) (one two : ℕ → ℕ → Option Due) (place sock : ℕ) (due : Option Due) (socket : WorldSocket) → Moves place sock one two due → is_end_of place sock socket.o ≡ false → is_end_of place sock socket.t ≡ false → IsBegun journal known readers one socket → IsBegun journal known readers two socket
off_begun journal known readers one two place sock due socket m o t b = begun_as journal known readers one two socket (writes_elsewhere place sock one two socket.o m.else o) (writes_elsewhere place sock one two socket.t m.else t) b

none_begun : (journal : List Line) (known : Names) (readers : ℕ → ℕ → Option Reader) (one two : ℕ → ℕ → Option Due) (place sock : ℕ) (due : Option Due) (sockets : List WorldSocket) → Moves place sock one two due → EachFound sockets → find_end place sock sockets ≡ None → AllOf (IsBegun journal known readers one) sockets → AllOf (IsBegun journal known readers two) sockets
none_begun journal known readers one two place sock due sockets m each none all s socket f = off_begun journal known readers one two place sock due socket m (none_off place sock sockets s socket O each none f) (none_off place sock sockets s socket T each none f) (all s socket f)

other_begun : (journal : List Line) (known : Names) (readers : ℕ → ℕ → Option Reader) (one two : ℕ → ℕ → Option Due) (place sock : ℕ) (due : Option Due) (sockets : List WorldSocket) (at : SockName × End) → Moves place sock one two due → EachFound sockets → find_end place sock sockets ≡ Some at → AllOf (IsBegun journal known readers one) sockets
    → (s : SockName) (socket : WorldSocket) → same_socket at.0 s ≡ false → find (is_socket_named s) sockets ≡ Some socket → IsBegun journal known readers two socket
other_begun journal known readers one two place sock due sockets at m each is all s socket apart f = off_begun journal known readers one two place sock due socket m (other_off place sock sockets at s socket O each is apart f) (other_off place sock sockets at s socket T each is apart f) (all s socket f)

-- an end is closed
closed_begun : (journal : List Line) (known : Names) (readers : ℕ → ℕ → Option Reader) (one two : ℕ → ℕ → Option Due) (place sock : ℕ) (at : SockName × End) (world : World) → Distinct world.sockets → EachFound world.sockets → find_end place sock world.sockets ≡ Some at → Moves place sock one two None
    → AllOf (IsBegun journal known readers one) world.sockets → AllOf (IsBegun journal known readers two) (with_end_of at.0 at.1 ended world).sockets
closed_begun journal known readers one two place sock at world apart each e m all = all_changed (IsBegun journal known readers two) at.0 at.1 ended world closed (other_begun journal known readers one two place sock None world.sockets at m each e all) where
  closed : (old : WorldSocket) → find (is_socket_named at.0) world.sockets ≡ Some old → IsBegun journal known readers two (with_end at.1 (ended (end_of at.1 old)) old)
  closed old is = by_which at.1 (found_is place sock world.sockets at old apart e is) (other_end_there place sock world.sockets at old O each e is) (other_end_there place sock world.sockets at old T each e is) where
    by_which : (w : End) → is_end_of place sock (end_of w old) ≡ true → (same_end w O ≡ false → is_end_of place sock old.o ≡ false) → (same_end w T ≡ false → is_end_of place sock old.t ≡ false) → IsBegun journal known readers two (with_end w (ended (end_of w old)) old)
    by_which O mine o t = closed_opener journal known readers one two place sock old m mine (t refl) (all at.0 old is)
    by_which T mine o t = closed_target journal known readers one two place sock old m mine (o refl) (all at.0 old is)

-- what one step needs
pub record MayStep (own : ℕ → ℕ → Address) (readers : ℕ → ℕ → Option Reader) (dues : ℕ → ℕ → Option Due) (place : ℕ) (clear : ℕ → Type 0) (step : Step) (sockets : List WorldSocket) : Type 0 where
  pub new : (n : ℕ) → IsNewTo n step (stage_held place n sockets)
  pub due : (n : ℕ) → WritesDue (own place) n step (dues place n)
  pub first : (n : ℕ) → stage_held place n sockets ≡ None → ReadsFirst (readers place n)
  pub fine : (n : ℕ) → clear n → dues place n ≡ Some Answering → Refuses n (step ∷ []) → ⊥

pub step_begun : (journal : List Line) (log : List Entry) (known : Names) (records : ℕ → ℕ → Option Socket) (readers : ℕ → ℕ → Option Reader) (dues : ℕ → ℕ → Option Due) (place : ℕ) (clear : ℕ → Type 0) (cell : Cell) (step : Step) (world : World) → IsOrdered journal log place cell known world
    → MayStep (own_of journal) readers dues place clear step world.sockets → AllOf (IsPut journal known records place clear) world.sockets → AllOf (IsBegun journal known readers dues) world.sockets → AllOf (IsBegun journal known readers (moved place step dues)) (stepped place cell step world).1.sockets
step_begun journal log known records readers dues place clear cell (steps.Dial sock end peer) world g may puts all = all_stored (IsBegun journal known readers two) new world.sockets
    (dialed_begun journal known readers two place sock end cell.host.host (own_address cell.host end) peer world g.names (g.own_is end) (g.homes peer) (may.first sock none) m.now)
    (λ s socket h f. none_begun journal known readers dues two place sock (Some (Asking end peer)) world.sockets m g.each free all s socket f)
  where
    two : ℕ → ℕ → Option Due
    two = moved place (steps.Dial sock end peer) dues

    new : WorldSocket
    new = new_socket world (called world.names (own_address cell.host end)) (called world.names peer) cell.host.host (end_of_nobody (Some place) (Some sock) Pending) peer

    none : stage_held place sock world.sockets ≡ None
    none = may.new sock (number_same sock)

    free : find_end place sock world.sockets ≡ None
    free = none_found place sock world.sockets none

    m : Moves place sock dues two (Some (Asking end peer))
    m = record { else = λ p n h. only_there place p sock n (Some (Asking end peer)) (dues p n) h; now = here place sock (Some (Asking end peer)) (dues place sock) }
step_begun journal log known records readers dues place clear cell (steps.Read sock) world g may puts all = at_end_flow (λ w. AllOf (IsBegun journal known readers two) w.sockets) place sock reads_item world (λ at e. by_socket at (find (is_socket_named at.0) world.sockets)) (λ e. still) where
  two : ℕ → ℕ → Option Due
  two = moved place (steps.Read sock) dues

  still : AllOf (IsBegun journal known readers two) world.sockets
  still = still_begun journal known readers dues two world.sockets (λ p n. either (place == p) (dues p n)) all

  by_socket : (at : SockName × End) (o : Option WorldSocket) → AllOf (IsBegun journal known readers two) (item_is_read at o world).sockets
  by_socket at None = still
  by_socket at (Some socket) = all_changed (IsBegun journal known readers two) at.0 at.1 (λ end. record end { places = later_places end.places }) world (λ old is. places_passed journal known readers two at.1 old (still at.0 old is)) (λ t socket h is. still t socket is)
step_begun journal log known records readers dues place clear cell (steps.Write sock bytes said) world g may puts all = at_end_flow (λ w. AllOf (IsBegun journal known readers two) w.sockets) place sock (λ at now. (entries.Wrote at.0 at.1 bytes ∷ [], with_end_of at.0 (other at.1) (item_arrives bytes said) now)) world
    (λ at e. all_changed (IsBegun journal known readers two) at.0 (other at.1) (item_arrives bytes said) world (λ old is. written at e old is) (other_begun journal known readers dues two place sock (due_past bytes (dues place sock)) world.sockets at m g.each e all))
    (λ e. none_begun journal known readers dues two place sock (due_past bytes (dues place sock)) world.sockets m g.each e all)
  where
    two : ℕ → ℕ → Option Due
    two = moved place (steps.Write sock bytes said) dues

    m : Moves place sock dues two (due_past bytes (dues place sock))
    m = record { else = λ p n h. only_there place p sock n (due_past bytes (dues p n)) (dues p n) h; now = here place sock (due_past bytes (dues place sock)) (dues place sock) }

    first_is : bytes ≡ answer_spelling Mismatch → Refuses sock (steps.Write sock bytes said ∷ [])
    first_is e = ap (λ b. cond b (Some bytes) None) (number_same sock) ∙ ap (λ (l : List ℕ). Some l) e

    written : (at : SockName × End) → find_end place sock world.sockets ≡ Some at → (old : WorldSocket) → find (is_socket_named at.0) world.sockets ≡ Some old → IsBegun journal known readers two (with_end (other at.1) (item_arrives bytes said (end_of (other at.1) old)) old)
    written at e old is = by_which at.1 (found_is place sock world.sockets at old g.sorted.0.apart e is) (other_end_there place sock world.sockets at old O g.each e is) (other_end_there place sock world.sockets at old T g.each e is) where
      by_which : (w : End) → is_end_of place sock (end_of w old) ≡ true → (same_end w O ≡ false → is_end_of place sock old.o ≡ false) → (same_end w T ≡ false → is_end_of place sock old.t ≡ false) → IsBegun journal known readers two (with_end (other w) (item_arrives bytes said (end_of (other w) old)) old)
      by_which O mine o t = written_by_opener journal known readers dues two place sock bytes said old m (may.due sock (number_same sock)) mine (t refl) (all at.0 old is)
      by_which T mine o t = written_by_target journal known readers dues two place sock bytes said old m (may.due sock (number_same sock)) (λ clean d w. may.fine sock ((puts at.0 old is).1 clean sock mine) d (first_is w)) mine (o refl) (all at.0 old is)
step_begun journal log known records readers dues place clear cell (steps.Up sock) world g may puts all = at_end_flow (λ w. AllOf (IsBegun journal known readers (moved place (steps.Up sock) dues)) w.sockets) place sock (λ at now. (entries.Up at.0 at.1 ∷ [], now)) world (λ at e. still) (λ e. still) where
  still : AllOf (IsBegun journal known readers (moved place (steps.Up sock) dues)) world.sockets
  still = still_begun journal known readers dues (moved place (steps.Up sock) dues) world.sockets (λ p n. either (place == p) (dues p n)) all
step_begun journal log known records readers dues place clear cell (steps.Down sock) world g may puts all = at_end_flow (λ w. AllOf (IsBegun journal known readers two) w.sockets) place sock (λ at now. (entries.Down at.0 at.1 ∷ [], end_closes at now)) world
    (λ at e. closed_begun journal known readers dues two place sock at world g.sorted.0.apart g.each e m all) (λ e. none_begun journal known readers dues two place sock None world.sockets m g.each e all)
  where
    two : ℕ → ℕ → Option Due
    two = moved place (steps.Down sock) dues

    m : Moves place sock dues two None
    m = record { else = λ p n h. only_there place p sock n None (dues p n) h; now = here place sock None (dues place sock) }
step_begun journal log known records readers dues place clear cell (steps.Left sock) world g may puts all = at_end_flow (λ w. AllOf (IsBegun journal known readers two) w.sockets) place sock (λ at now. (entries.Left at.0 at.1 ∷ [], end_closes at now)) world
    (λ at e. closed_begun journal known readers dues two place sock at world g.sorted.0.apart g.each e m all) (λ e. none_begun journal known readers dues two place sock None world.sockets m g.each e all)
  where
    two : ℕ → ℕ → Option Due
    two = moved place (steps.Left sock) dues

    m : Moves place sock dues two None
    m = record { else = λ p n h. only_there place p sock n None (dues p n) h; now = here place sock None (dues place sock) }
step_begun journal log known records readers dues place clear cell (steps.Broke end peer why) world g may puts all = still_begun journal known readers dues (moved place (steps.Broke end peer why) dues) world.sockets (λ p n. either (place == p) (dues p n)) all
step_begun journal log known records readers dues place clear cell (steps.Post end event) world g may puts all = still_begun journal known readers dues (moved place (steps.Post end event) dues) world.sockets (λ p n. either (place == p) (dues p n)) all

-- ---- all steps

-- the socket that is dialed is found by its opener's end, which is new
pub dial_each : (journal : List Line) (log : List Entry) (place : ℕ) (cell : Cell) (step : Step) (world : World) → Good journal log world → ((m : ℕ) → IsNewTo m step (stage_held place m world.sockets)) → EachFound world.sockets → OnDial (λ w. EachFound w.sockets) place cell step world
dial_each journal log place cell (steps.Dial sock end peer) world g fresh each = each_new new world.sockets (next_is_new world (called world.names (own_address cell.host end)) (called world.names peer) g.numbered) mine each where
  new : WorldSocket
  new = new_socket world (called world.names (own_address cell.host end)) (called world.names peer) cell.host.host (end_of_nobody (Some place) (Some sock) Pending) peer

  mine : (e : End) (p n : ℕ) → is_end_of p n (end_of e new) ≡ true → (find_end p n world.sockets ≡ None) × (end_at p n new ≡ Some e)
  mine O p n of = let both = and_parts (place == p) (sock == n) of in (
    subst (λ (k : ℕ). find_end k n world.sockets ≡ None) (number_is place p both.0) (subst (λ (k : ℕ). find_end place k world.sockets ≡ None) (number_is sock n both.1) (none_found place sock world.sockets (fresh sock (number_same sock)))),
    ap (λ b. cond b (Some O) (cond (is_end_of p n new.t) (Some T) None)) of,
  )
  mine T p n of = let none = no_number (cell_of world peer) p n in absurd cc
dial_each journal log place cell step world g fresh each = tt

-- what no end has after a step, none had before
pub none_before : (n : ℕ) (step : Step) (stage : Option Stage) → stage_after n step stage ≡ None → stage ≡ None
none_before n step None e = refl
none_before n (steps.Dial sock end peer) (Some stage) e = by_test (sock == n) e where
  by_test : (b : Bool) → ◌≡◌ {A = Option Stage} (cond b (Some Pending) (Some stage)) None → ◌≡◌ {A = Option Stage} (Some stage) None
  by_test true e = absurd cc
  by_test false e = e
none_before n (steps.Down sock) (Some stage) e = by_test (sock == n) e where
  by_test : (b : Bool) → ◌≡◌ {A = Option Stage} (cond b (Some Ended) (Some stage)) None → ◌≡◌ {A = Option Stage} (Some stage) None
  by_test true e = absurd cc
  by_test false e = e
none_before n (steps.Left sock) (Some stage) e = by_test (sock == n) e where
  by_test : (b : Bool) → ◌≡◌ {A = Option Stage} (cond b (Some Ended) (Some stage)) None → ◌≡◌ {A = Option Stage} (Some stage) None
  by_test true e = absurd cc
  by_test false e = e
none_before n (steps.Read sock) (Some stage) e = e
none_before n (steps.Write sock bytes said) (Some stage) e = e
none_before n (steps.Up sock) (Some stage) e = e
none_before n (steps.Broke end peer why) (Some stage) e = e
none_before n (steps.Post end event) (Some stage) e = e
