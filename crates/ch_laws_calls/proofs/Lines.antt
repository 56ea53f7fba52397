-- All that happens in a journal of many nodes keeps what each thing that happens keeps; and after each line nothing is left to read.
use Rattle.std.specs.Prelude.{◌≡◌, ℕ, Bool, true, false, cond, ◌&&◌, List, [], ◌∷◌, ◌++◌, find, nat_lt, Option, Some, None, Ok, Err}
use Rattle.std.specs.Option.{option_map}
use Rattle.std.proofs.Common.{refl, ap, sym, ◌∙◌, subst, append_assoc}
use Rattle.std.proofs.lemmas.Bool.{and_parts}
use Rattle.ch_static.specs.declared.command.Command.{Command}
use Rattle.ch_static.specs.declared.command.Command.TheVariants as commands
use Rattle.ch_model.specs.declared.entry.Entry.{Entry}
use Rattle.ch_model.specs.declared.entry.Entry.TheVariants as entries
use Rattle.ch_model.specs.declared.entry.Verdict.{Verdict}
use Rattle.ch_model.specs.declared.entry.Verdict.TheVariants as verdicts
use Rattle.ch_model.specs.declared.line.Line.{Line}
use Rattle.ch_model.specs.declared.line.What.{What}
use Rattle.ch_model.specs.declared.line.What.TheVariants as lines
use Rattle.ch_model.specs.declared.local.LocalEvent.{LocalEvent}
use Rattle.ch_model.specs.declared.local.LocalEvent.TheVariants as events
use Rattle.ch_model.specs.declared.name.SockName.{SockName}
use Rattle.ch_model.specs.Cell.{cell_step}
use Rattle.ch_model.specs.Host.{first_ready}
use Rattle.ch_model.specs.HostState.{Socket}
use Rattle.ch_model.specs.HostSteps.{is_socket}
use Rattle.ch_model.specs.Naming.{address_as, target_as}
use Rattle.ch_model.specs.Settle.{Happened}
use Rattle.ch_model.specs.Stages.{Stage}
use Rattle.ch_model.specs.World.{◌>>=◌, names_of, world_new, world_step, line_answered, log_from}
use Rattle.ch_model.specs.WorldHappenings.{Answered, cell_hears, joins, comes, feeds}
use Rattle.ch_model.specs.WorldLines.{node_hears, on_socket, can_join, can_come, can_feed, line_done}
use Rattle.ch_model.specs.WorldSockets.{is_socket_named, cell_of}
use Rattle.ch_model.specs.WorldState.{Cell, Named, WorldSocket, World}
use Rattle.ch_laws_log.specs.Declared.{is_declared}
use Rattle.ch_laws_log.specs.Lines.{AllLines}
use Rattle.ch_laws_log.proofs.Kept.{Led, LedOn}
use Rattle.ch_laws_log.proofs.Stored.{find_name, number_same}
use Rattle.ch_laws_ends.proofs.Lines.{fresh_sure, step_sure}
use Rattle.ch_laws_ends.proofs.Told.{Sure}
use Rattle.ch_laws_many.specs.ManyLines.{is_of_many}
use Rattle.ch_laws_many.proofs.Reached.{IsJournal}
use Rattle.ch_laws_calls.specs.Calls.{Claim, Anything, Both, IsIn, AllRead, KeepsCalls}
use Rattle.ch_laws_calls.proofs.Cells.{AllDo, make_does, command_does}
use Rattle.ch_laws_calls.proofs.Happen.{WithRead, nothing_told, node_led, joins_led, comes_led, feeds_led}
use Rattle.ch_laws_calls.proofs.Together.{while_given, always}

-- ---- one line

module _ (journal : List Line) (J : Claim) (k : KeepsCalls journal Anything Anything J) where
  node_line : (name : List ℕ) (event : ℕ → LocalEvent) (before log : List Entry) (world : World) → ((place end : ℕ) (cell : Cell) → AllDo J place cell (cell_step cell (event end))) → Sure journal before world → WithRead J log world → Led (WithRead J) log (node_hears name event world)
  node_line name event before log world does s j = by_cell (cell_of world (address_as world.names name)) where
    by_cell : (o : Option ℕ) → Led (WithRead J) log (elim o as (λ o. Answered) [
      | None ↦ Ok ((verdicts.Nothing, []), world)
      | Some place ↦ cell_hears place (event (address_as world.names name).id) world
    ])
    by_cell None = nothing_told (WithRead J) log world j
    by_cell (Some place) = node_led journal J k place (event (address_as world.names name).id) log world (does place (address_as world.names name).id) (λ p cell at. (s.ends.agrees.sound p cell at).apart) j

  command_line : (name : List ℕ) (by : ℕ) (command : Command) (before log : List Entry) (world : World) → Sure journal before world → WithRead J log world → Led (WithRead J) log (node_hears name (λ end. events.Command end by command) world)
  command_line name by command before log world s j = node_line name (λ end. events.Command end by command) before log world (λ place end cell. command_does journal J k place end by command cell) s j

  socket_line : (sock : SockName) (test : WorldSocket → Bool) (f : WorldSocket → World → Answered) (log : List Entry) (world : World) → WithRead J log world → ((socket : WorldSocket) → IsIn socket world → test socket ≡ true → Led (WithRead J) log (f socket world)) → Led (WithRead J) log (on_socket sock test f world)
  socket_line sock test f log world j each = by_socket (find (is_socket_named sock) world.sockets) refl where
    by_test : (s : WorldSocket) → IsIn s world → (b : Bool) → test s ≡ b → Led (WithRead J) log (cond b (f s world) (Ok ((verdicts.Nothing, []), world)))
    by_test s is true e = each s is e
    by_test s is false e = nothing_told (WithRead J) log world j

    by_socket : (o : Option WorldSocket) → find (is_socket_named sock) world.sockets ≡ o → Led (WithRead J) log (elim o as (λ o. Answered) [
      | None ↦ Ok ((verdicts.Nothing, []), world)
      | Some socket ↦ cond (test socket) (f socket world) (Ok ((verdicts.Nothing, []), world))
    ])
    by_socket None e = nothing_told (WithRead J) log world j
    by_socket (Some s) e = by_test s (subst (λ (n : SockName). find (is_socket_named n) world.sockets ≡ Some s) (sym (find_name sock world.sockets s e)) e) (test s) refl

  line_led : (known : List Named) (what : What) (before log : List Entry) (world : World) → is_of_many known what ≡ true → Sure journal before world → WithRead J log world → Led (WithRead J) log (line_done what world)
  line_led known (lines.Node name address unique) before log world of s j = nothing_told (WithRead J) log world j
  line_led known (lines.Proc node) before log world of s j = node_line node (λ end. events.Make end) before log world (λ place end cell. make_does journal J k place end cell) s j
  line_led known (lines.Send by to mark body) before log world of s j = command_line by.node by.counter (commands.Send (target_as world.names to) (record { mark = mark; body = body })) before log world s j
  line_led known (lines.Recv by mark) before log world of s j = command_line by.node by.counter (commands.Receive mark) before log world s j
  line_led known (lines.End by) before log world of s j = command_line by.node by.counter commands.End before log world s j
  line_led known (lines.Join sock) before log world of s j = socket_line sock can_join joins log world j (λ socket is can. joins_led journal J k before log world s j socket is can)
  line_led known (lines.Come sock) before log world of s j = socket_line sock can_come comes log world j (λ socket is can. comes_led journal J k before log world s j socket is can)
  line_led known (lines.Feed sock end count) before log world of s j = socket_line sock (can_feed end) (feeds end count) log world j (λ socket is can. feeds_led journal J k before log world s j socket end count is can some) where
    some : nat_lt 0 count ≡ true
    some = (and_parts (is_declared known sock.from && is_declared known sock.to) (nat_lt 0 count) of).1
  line_led known what before log world of s j = absurd cc

  -- a line's mark comes first
  marked_first : (number : ℕ) (log : List Entry) (done : Answered) → ((answer : Verdict) → Led (WithRead J) (log ++ entries.Line number answer ∷ []) done) → LedOn (WithRead J) log (line_answered number done)
  marked_first number log (Ok done) each = subst (λ (l : List Entry). WithRead J l done.1) (append_assoc log (entries.Line number done.0.0 ∷ []) done.0.1) (each done.0.0)
  marked_first number log (Err stop) each = tt

  event_led : (known : List Named) (number : ℕ) (what : What) (log : List Entry) (world : World) → is_of_many known what ≡ true → Sure journal log world → WithRead J log world → LedOn (WithRead J) log (line_answered number (line_done what world))
  event_led known number what log world of s j = marked_first number log (line_done what world) (λ answer. line_led known what log (log ++ entries.Line number answer ∷ []) world of s (k.marked log world number answer tt j.0 tt, j.1))

  pub step_led : (known : List Named) (number : ℕ) (what : What) (log : List Entry) (world : World) → is_of_many known what ≡ true → Sure journal log world → WithRead J log world → LedOn (WithRead J) log (world_step world (record { number = number; what = what }))
  step_led known number (lines.Node name address unique) log world of s j = nothing_told (WithRead J) log world j
  step_led known number (lines.Away name address unique) log world of s j = absurd cc
  step_led known number (lines.Label node label) log world of s j = absurd cc
  step_led known number (lines.Stranger name host) log world of s j = absurd cc
  step_led known number lines.Settle log world of s j = absurd cc
  step_led known number what log world of s j = event_led known number what log world of s j

-- ---- all lines

-- what the lines of a journal reach, beside the claim
abbrev pub Reaches : List Line → Claim → Claim
Reaches journal J = Both (WithRead J) (Sure journal)

pub both_led : (I K : Claim) (log : List Entry) (done : Happened) → LedOn I log done → LedOn K log done → LedOn (Both I K) log done
both_led I K log (Ok done) i h = (i, h)
both_led I K log (Err stop) i h = tt

lines_led : (journal : List Line) (J : Claim) → KeepsCalls journal Anything Anything J → (rest : List Line) (log : List Entry) (world : World) → AllLines (is_of_many (names_of journal)) rest → Reaches journal J log world → LedOn (Reaches journal J) log (log_from world rest)
lines_led journal J k [] log world of r = nothing_told (Reaches journal J) log world r
lines_led journal J k (line ∷ rest) log world of r = by_step (world_step world line)
    (both_led (WithRead J) (Sure journal) log (world_step world line) (step_led journal J k (names_of journal) line.number line.what log world of.0 r.1 r.0) (step_sure journal log world line.number line.what r.1))
    (λ l w h. lines_led journal J k rest l w of.1 h) where
      by_rest : (told : List Entry) (more : Happened) → LedOn (Reaches journal J) (log ++ told) more → LedOn (Reaches journal J) log (more >>= λ more. Ok (told ++ more.0, more.1))
      by_rest told (Ok more) l = subst (λ (all : List Entry). Reaches journal J all more.1) (append_assoc log told more.0) l
      by_rest told (Err stop) l = tt

      by_step : (one : Happened) → LedOn (Reaches journal J) log one → ((l : List Entry) (w : World) → Reaches journal J l w → LedOn (Reaches journal J) l (log_from w rest)) → LedOn (Reaches journal J) log (one >>= λ done. log_from done.1 rest >>= λ more. Ok (done.0 ++ more.0, more.1))
      by_step (Ok done) a more = by_rest done.0 (log_from done.1 rest) (more (log ++ done.0) done.1 a)
      by_step (Err stop) a more = tt

-- ---- the start

no_sockets : (all : List Socket) → ((n : ℕ) → option_map (λ (socket : Socket). socket.stage) (find (is_socket n) all) ≡ None) → first_ready all ≡ None
no_sockets [] none = refl
no_sockets (socket ∷ rest) none = absurd (first (none socket.number)) where
  first : option_map (λ (s : Socket). s.stage) (cond (is_socket socket.number socket) (Some socket) (find (is_socket socket.number) rest)) ≡ None → ⊥
  first e = let some : ◌≡◌ {A = Option Stage} (Some socket.stage) None = sym (ap (λ b. option_map (λ (s : Socket). s.stage) (cond b (Some socket) (find (is_socket socket.number) rest))) (number_same socket.number)) ∙ e in absurd cc

fresh_read : (journal : List Line) → Sure journal [] (world_new journal) → AllRead (world_new journal)
fresh_read journal s = λ place cell at. no_sockets cell.0.host.sockets (s.ends.agrees.ends place cell at)

pub fresh_reaches : (journal : List Line) (J : Claim) → J [] (world_new journal) → Reaches journal J [] (world_new journal)
fresh_reaches journal J j = ((j, fresh_read journal (fresh_sure journal)), fresh_sure journal)

-- ---- after some lines

pub of_front : (test : What → Bool) (front rest : List Line) → AllLines test (front ++ rest) → AllLines test front
of_front test [] rest all = tt
of_front test (line ∷ front) rest all = (all.0, of_front test front rest all.1)

-- What each thing that happens keeps holds after any first lines of a journal of many nodes, with all that these reach.
pub all_reach : (journal : List Line) → IsJournal journal → (J : Claim) → KeepsCalls journal Anything Anything J → J [] (world_new journal) → (front rest : List Line) → front ++ rest ≡ journal → (log : List Entry) (world : World) → log_from (world_new journal) front ≡ Ok (log, world) → Reaches journal J log world
all_reach journal is J k j front rest whole log world e = by_log (log_from (world_new journal) front) (lines_led journal J k front [] (world_new journal) (of_front (is_of_many (names_of journal)) front rest (subst (AllLines (is_of_many (names_of journal))) (sym whole) is.lines)) (fresh_reaches journal J j)) e where
  by_log : (done : Happened) → LedOn (Reaches journal J) [] done → done ≡ Ok (log, world) → Reaches journal J log world
  by_log done l e = subst (LedOn (Reaches journal J) []) e l

pub all_kept : (journal : List Line) → IsJournal journal → (J : Claim) → KeepsCalls journal Anything Anything J → J [] (world_new journal) → (front rest : List Line) → front ++ rest ≡ journal → (log : List Entry) (world : World) → log_from (world_new journal) front ≡ Ok (log, world) → J log world
all_kept journal is J k j front rest whole log world e = (all_reach journal is J k j front rest whole log world e).0.0

-- A claim that is kept where something is so of the log before and after, which was so of all that the log began with, holds where that is so in the end.
pub all_kept_given : (journal : List Line) → IsJournal journal → (P : List Entry → Type 0) → ((one two : List Entry) → P (one ++ two) → P one) → (J : Claim) → KeepsCalls journal (λ log world. P log) (λ log world. P log) J → J [] (world_new journal)
    → (front rest : List Line) → front ++ rest ≡ journal → (log : List Entry) (world : World) → log_from (world_new journal) front ≡ Ok (log, world) → P log → J log world
all_kept_given journal is P cut J k j front rest whole log world e = all_kept journal is (λ log world. P log → J log world) (while_given cut k) (λ p. j) front rest whole log world e

-- nothing is left to read
pub all_read : (journal : List Line) → IsJournal journal → (front rest : List Line) → front ++ rest ≡ journal → (log : List Entry) (world : World) → log_from (world_new journal) front ≡ Ok (log, world) → AllRead world
all_read journal is front rest whole log world e = (all_reach journal is Anything (always (λ log world. tt)) tt front rest whole log world e).0.1
