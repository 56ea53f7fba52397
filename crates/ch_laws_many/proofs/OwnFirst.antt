-- Each line of many nodes that is done has its own entry first.
use Rattle.std.proofs.Common.{◌≡◌, ℕ, Bool, true, false, cond, not, ◌&&◌, ◌||◌, List, [], ◌∷◌, ◌++◌, length, take, drop, Ok, Err, refl, sym, ap, ◌∙◌, subst, ◌==◌}
use Rattle.std.proofs.lemmas.Bool.{and_parts}
use Rattle.std.proofs.lemmas.List.{length-take}
use Rattle.std.specs.List.{list_any}
use Rattle.std.specs.Prelude.{find, min, nat_lt, Option, Some, None}
use Rattle.ch_model.specs.declared.entry.Entry.{Entry}
use Rattle.ch_model.specs.declared.entry.Entry.TheVariants as entries
use Rattle.ch_model.specs.declared.entry.Verdict.{Verdict}
use Rattle.ch_model.specs.declared.entry.Verdict.TheVariants as verdicts
use Rattle.ch_model.specs.declared.line.Line.{Line}
use Rattle.ch_model.specs.declared.line.What.{What}
use Rattle.ch_model.specs.declared.line.What.TheVariants as lines
use Rattle.ch_model.specs.declared.name.End.{End}
use Rattle.ch_model.specs.declared.name.End.TheVariants.{O, T}
use Rattle.ch_model.specs.declared.name.SockName.{SockName}
use Rattle.ch_model.specs.declared.name.TargetName.TheVariants as targets
use Rattle.ch_model.specs.AnswersEntries.{refuses}
use Rattle.ch_model.specs.AnswersOwn.{is_own, has_own}
use Rattle.ch_model.specs.HasAnswers.{is_followed_by_own, has_own_first}
use Rattle.ch_model.specs.Logs.{some_and, next_is}
use Rattle.ch_model.specs.Marks.{line_numbered}
use Rattle.ch_model.specs.Same.{same_socket, same_end}
use Rattle.ch_model.specs.Sockets.{unread}
use Rattle.ch_model.specs.World.{names_of}
use Rattle.ch_model.specs.WorldHappenings.{Answered, hands, feeds}
use Rattle.ch_model.specs.WorldLines.{can_feed, line_done}
use Rattle.ch_model.specs.WorldSockets.{end_of, is_socket_named, with_end_of}
use Rattle.ch_model.specs.WorldState.{WorldSocket, World}
use Rattle.ch_laws_log.specs.Agrees.{IsPlaced}
use Rattle.ch_laws_log.specs.Declared.{is_declared}
use Rattle.ch_laws_log.proofs.Agreeing.{Good}
use Rattle.ch_laws_log.proofs.Blocks.{OwnFirst, AnsweredOwn}
use Rattle.ch_laws_log.proofs.NodeEntries.{node_line_own}
use Rattle.ch_laws_log.proofs.OwnEntries.{own_entry, same_end_self}
use Rattle.ch_laws_log.proofs.Stored.{find_name, self_same, number_same}
use Rattle.ch_laws_log.proofs.Told.{opener_as_told, target_as_told}
use Rattle.ch_laws_many.specs.ManyLines.{is_of_many}
use Rattle.ch_laws_many.proofs.Reached.{IsJournal, Reached, placed, none_refused, OfMarks, MarkPasses, MarksPass}

-- the socket that is fed stands where its name leads
feeds_own : (journal : List Line) (log : List Entry) (world : World) (s : SockName) (e : End) (count : ℕ) → Good journal log world → ((socket : WorldSocket) → find (is_socket_named s) world.sockets ≡ Some socket → IsPlaced journal socket) → list_any (refuses s) log ≡ false
    → AnsweredOwn journal log (lines.Feed s e count) (line_done (lines.Feed s e count) world)
feeds_own journal log world s e count g led not_refused = by_socket (find (is_socket_named s) world.sockets) refl where
  left : (at : End) (socket : WorldSocket) → find (is_socket_named s) world.sockets ≡ Some socket → unread journal log s at ≡ (end_of at socket).unread
  left O socket found = (opener_as_told journal log world s socket g found not_refused).unread
  left T socket found = (target_as_told journal log world s socket g found (led socket found)).unread

  fed_so : (a b c : Bool) → a ≡ true → b ≡ true → c ≡ true → (a && b && c) ≡ true
  fed_so true true true h i j = refl
  fed_so true true false h i j = j
  fed_so true false c h i j = i
  fed_so false b c h i j = h

  many : (socket : WorldSocket) → find (is_socket_named s) world.sockets ≡ Some socket → length (take count (end_of e socket).unread) ≡ min count (length (unread journal log s e))
  many socket found = subst (λ (l : List ℕ). length (take count (end_of e socket).unread) ≡ min count (length l)) (sym (left e socket found)) (length-take count (end_of e socket).unread)

  is_fed : (socket : WorldSocket) → find (is_socket_named s) world.sockets ≡ Some socket → is_own journal log (lines.Feed s e count) (entries.Fed socket.name e (length (take count (end_of e socket).unread))) ≡ true
  is_fed socket found = fed_so (same_socket socket.name s) (same_end e e) (length (take count (end_of e socket).unread) == min count (length (unread journal log s e)))
      (ap (λ (n : SockName). same_socket n s) (find_name s world.sockets socket found) ∙ self_same s) (same_end_self e)
      (ap (λ n. n == min count (length (unread journal log s e))) (many socket found) ∙ number_same (min count (length (unread journal log s e))))

  by_test : (socket : WorldSocket) → find (is_socket_named s) world.sockets ≡ Some socket → (b : Bool) → AnsweredOwn journal log (lines.Feed s e count) (cond b (feeds e count socket world) (Ok ((verdicts.Nothing, []), world)))
  by_test socket found false = tt
  by_test socket found true = own_entry journal log (lines.Feed s e count) (entries.Fed socket.name e (length (take count (end_of e socket).unread)))
      (hands (take count (end_of e socket).unread) (end_of e socket) (with_end_of socket.name e (λ end. record end { unread = drop count end.unread }) world)) (is_fed socket found)

  by_socket : (o : Option WorldSocket) → find (is_socket_named s) world.sockets ≡ o → AnsweredOwn journal log (lines.Feed s e count) (elim o as (λ o. Answered) [
    | None ↦ Ok ((verdicts.Nothing, []), world)
    | Some socket ↦ cond (can_feed e socket) (feeds e count socket world) (Ok ((verdicts.Nothing, []), world))
  ])
  by_socket None found = tt
  by_socket (Some socket) found = by_test socket found (can_feed e socket)

-- what a line of sockets names is declared
pub target_declared : (journal : List Line) (s : SockName) (e : End) (count : ℕ) → is_of_many (names_of journal) (lines.Feed s e count) ≡ true → is_declared (names_of journal) s.to ≡ true
target_declared journal s e count of = (and_parts (is_declared (names_of journal) s.from) (is_declared (names_of journal) s.to) (and_parts (is_declared (names_of journal) s.from && is_declared (names_of journal) s.to) (nat_lt 0 count) of).0).1

-- what each line does begins with its own entry
pub line_begins : (journal : List Line) → IsJournal journal → (log : List Entry) (what : What) (world : World) → is_of_many (names_of journal) what ≡ true → Reached journal log world → AnsweredOwn journal log what (line_done what world)
line_begins journal j log (lines.Node name address unique) world of r = tt
line_begins journal j log (lines.Proc node) world of r = node_line_own journal j.apart log (lines.Proc node) world of (r.sure.ends.sorted.0, r.housed)
line_begins journal j log (lines.Send by (targets.Process to) mark body) world of r = node_line_own journal j.apart log (lines.Send by (targets.Process to) mark body) world of (r.sure.ends.sorted.0, r.housed)
line_begins journal j log (lines.Recv by mark) world of r = node_line_own journal j.apart log (lines.Recv by mark) world of (r.sure.ends.sorted.0, r.housed)
line_begins journal j log (lines.End by) world of r = node_line_own journal j.apart log (lines.End by) world of (r.sure.ends.sorted.0, r.housed)
line_begins journal j log (lines.Join sock) world of r = node_line_own journal j.apart log (lines.Join sock) world refl (r.sure.ends.sorted.0, r.housed)
line_begins journal j log (lines.Come sock) world of r = node_line_own journal j.apart log (lines.Come sock) world refl (r.sure.ends.sorted.0, r.housed)
line_begins journal j log (lines.Feed sock end count) world of r = feeds_own journal log world sock end count r.sure.ends.sorted.0 (placed journal j log world r sock (target_declared journal sock end count of)) (none_refused sock log r.calm)
line_begins journal j log what world of r = absurd cc

-- ---- marks

still_next : (a : Bool) (p : Entry → Bool) (more after : List Entry) → (a || next_is p more) ≡ true → (a || next_is p (more ++ after)) ≡ true
still_next true p more after h = refl
still_next false p [] after h = absurd cc
still_next false p (x ∷ more) after h = h

mark_begins : (journal : List Line) (log : List Entry) (number : ℕ) (what : What) (answer : Verdict) (more after : List Entry) → line_numbered journal number ≡ Some what → OwnFirst journal log what answer more → has_own_first journal log (entries.Line number answer) (more ++ after) ≡ true
mark_begins journal log number what verdicts.Ok more after found own = ap (some_and (is_followed_by_own journal log (more ++ after))) found ∙ still_next (not (has_own log what)) (is_own journal log what) more after own
mark_begins journal log number what verdicts.Unknown more after found own = refl
mark_begins journal log number what answer more after found own = refl

pub own_of_marks : (journal : List Line) → OfMarks (has_own_first journal)
own_of_marks journal log (entries.Line number answer) rest e = absurd cc
own_of_marks journal log x rest e = refl

pub own_marks : (journal : List Line) → IsJournal journal → MarksPass journal (has_own_first journal)
own_marks journal j log number what world of found r = by_done (line_done what world) (line_begins journal j log what world of r) where
  by_done : (done : Answered) → AnsweredOwn journal log what done → MarkPasses (has_own_first journal) log number done
  by_done (Ok done) own = λ after. mark_begins journal log number what done.0.0 done.0.1 after found own
  by_done (Err stop) own = tt
