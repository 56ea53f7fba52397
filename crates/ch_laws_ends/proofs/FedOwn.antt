-- A feeding that is done has the line's own entry first.
use Rattle.std.proofs.Common.{◌≡◌, ℕ, Bool, true, false, cond, ◌&&◌, List, [], length, take, drop, Ok, refl, sym, ap, ◌∙◌, subst, ◌==◌}
use Rattle.std.proofs.lemmas.List.{length-take}
use Rattle.std.specs.Prelude.{find, min, Option, Some, None}
use Rattle.ch_model.specs.declared.entry.Entry.{Entry}
use Rattle.ch_model.specs.declared.entry.Entry.TheVariants as entries
use Rattle.ch_model.specs.declared.entry.Verdict.TheVariants as verdicts
use Rattle.ch_model.specs.declared.line.Line.{Line}
use Rattle.ch_model.specs.declared.line.What.TheVariants as lines
use Rattle.ch_model.specs.declared.name.End.{End}
use Rattle.ch_model.specs.declared.name.End.TheVariants.{O, T}
use Rattle.ch_model.specs.declared.name.SockName.{SockName}
use Rattle.ch_model.specs.AnswersOwn.{is_own}
use Rattle.ch_model.specs.Logs.{next_is}
use Rattle.ch_model.specs.Same.{same_socket, same_end}
use Rattle.ch_model.specs.Sockets.{unread}
use Rattle.ch_model.specs.WorldHappenings.{Answered, hands, feeds}
use Rattle.ch_model.specs.WorldLines.{can_feed, line_done}
use Rattle.ch_model.specs.WorldSockets.{end_of, is_socket_named, with_end_of}
use Rattle.ch_model.specs.WorldState.{WorldSocket, World}
use Rattle.ch_laws_log.specs.Agrees.{AllPlaced}
use Rattle.ch_laws_log.proofs.Blocks.{AnsweredOwn}
use Rattle.ch_laws_log.proofs.OwnEntries.{own_entry, same_end_self}
use Rattle.ch_laws_log.proofs.Stored.{find_name, self_same, number_same}
use Rattle.ch_laws_log.proofs.Told.{target_as_told}
use Rattle.ch_laws_ends.proofs.Answered.{OpenerTold}
use Rattle.ch_laws_ends.proofs.Told.{Sure}

pub feeds_own : (journal : List Line) (log : List Entry) (world : World) (s : SockName) (e : End) (count : ℕ) → Sure journal log world → AllPlaced journal world → OpenerTold journal log world s → AnsweredOwn journal log (lines.Feed s e count) (line_done (lines.Feed s e count) world)
feeds_own journal log world s e count sure placed opener = by_socket (find (is_socket_named s) world.sockets) refl where
  left : (at : End) (socket : WorldSocket) → find (is_socket_named s) world.sockets ≡ Some socket → unread journal log s at ≡ (end_of at socket).unread
  left O socket found = (opener socket found).unread
  left T socket found = (target_as_told journal log world s socket sure.ends.sorted.0 found (placed s socket found)).unread

  fed_so : (a b c : Bool) → a ≡ true → b ≡ true → c ≡ true → (a && b && c) ≡ true
  fed_so true true true h i j = refl
  fed_so true true false h i j = j
  fed_so true false c h i j = i
  fed_so false b c h i j = h

  many : (socket : WorldSocket) → find (is_socket_named s) world.sockets ≡ Some socket → length (take count (end_of e socket).unread) ≡ min count (length (unread journal log s e))
  many socket found = subst (λ (l : List ℕ). length (take count (end_of e socket).unread) ≡ min count (length l)) (sym (left e socket found)) (length-take count (end_of e socket).unread)

  is_fed : (socket : WorldSocket) → find (is_socket_named s) world.sockets ≡ Some socket → is_own journal log (lines.Feed s e count) (entries.Fed socket.name e (length (take count (end_of e socket).unread))) ≡ true
  is_fed socket found = fed_so (same_socket socket.name s) (same_end e e) (length (take count (end_of e socket).unread) == min count (length (unread journal log s e)))
      (ap (λ (n : SockName). same_socket n s) (find_name s world.sockets socket found) ∙ self_same s) (same_end_self e)
      (ap (λ n. n == min count (length (unread journal log s e))) (many socket found) ∙ number_same (min count (length (unread journal log s e))))

  by_test : (socket : WorldSocket) → find (is_socket_named s) world.sockets ≡ Some socket → (b : Bool) → AnsweredOwn journal log (lines.Feed s e count) (cond b (feeds e count socket world) (Ok ((verdicts.Nothing, []), world)))
  by_test socket found false = tt
  by_test socket found true = own_entry journal log (lines.Feed s e count) (entries.Fed socket.name e (length (take count (end_of e socket).unread)))
      (hands (take count (end_of e socket).unread) (end_of e socket) (with_end_of socket.name e (λ end. record end { unread = drop count end.unread }) world)) (is_fed socket found)

  by_socket : (o : Option WorldSocket) → find (is_socket_named s) world.sockets ≡ o → AnsweredOwn journal log (lines.Feed s e count) (elim o as (λ o. Answered) [
    | None ↦ Ok ((verdicts.Nothing, []), world)
    | Some socket ↦ cond (can_feed e socket) (feeds e count socket world) (Ok ((verdicts.Nothing, []), world))
  ])
  by_socket None found = tt
  by_socket (Some socket) found = by_test socket found (can_feed e socket)

pub fed_first : (journal : List Line) (log : List Entry) (world : World) (s : SockName) (e : End) (count : ℕ) (told : List Entry) (after : World) → Sure journal log world → AllPlaced journal world → OpenerTold journal log world s → line_done (lines.Feed s e count) world ≡ Ok ((verdicts.Ok, told), after) → next_is (is_own journal log (lines.Feed s e count)) told ≡ true
fed_first journal log world s e count told after sure placed opener done = subst (λ (a : Answered). AnsweredOwn journal log (lines.Feed s e count) a) done (feeds_own journal log world s e count sure placed opener)
