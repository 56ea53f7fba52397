-- Joining, coming and feeding happen where the log shows that they can, at a socket that stands where its name leads.
use Rattle.std.proofs.Common.{◌≡◌, ℕ, Bool, true, false, cond, not, ◌&&◌, ◌||◌, List, [], length, Ok, Err, refl, sym, ap, ◌∙◌, subst}
use Rattle.std.specs.List.{list_any}
use Rattle.std.specs.Prelude.{find, is_some, nat_lt, Option, Some, None}
use Rattle.ch_model.specs.declared.entry.Entry.{Entry}
use Rattle.ch_model.specs.declared.entry.Verdict.{Verdict}
use Rattle.ch_model.specs.declared.entry.Verdict.TheVariants as verdicts
use Rattle.ch_model.specs.declared.line.Line.{Line}
use Rattle.ch_model.specs.declared.line.What.TheVariants as lines
use Rattle.ch_model.specs.declared.name.End.{End}
use Rattle.ch_model.specs.declared.name.End.TheVariants.{O, T}
use Rattle.ch_model.specs.declared.name.SockName.{SockName}
use Rattle.ch_model.specs.Answers.{ok_where, can_be_fed, answer_to}
use Rattle.ch_model.specs.AnswersEntries.{refuses}
use Rattle.ch_model.specs.Declarations.{has_host, is_stranger}
use Rattle.ch_model.specs.Logs.{some_and}
use Rattle.ch_model.specs.Same.{across}
use Rattle.ch_model.specs.Sockets.{is_opening, closes, unclosed_state, stands_at, unread, is_cut, has_ended_input}
use Rattle.ch_model.specs.Stages.{Stage, Pending, Open, Ended, is_pending, is_open, is_ended}
use Rattle.ch_model.specs.WorldHappenings.{Answered, comes}
use Rattle.ch_model.specs.WorldLines.{can_join, can_come, can_feed, line_done}
use Rattle.ch_model.specs.WorldSockets.{is_of_host, is_socket_named}
use Rattle.ch_model.specs.WorldState.{WorldEnd, WorldSocket, World}
use Rattle.ch_laws_log.specs.Agrees.{IsPlaced, IsAsTold, IsOwned}
use Rattle.ch_laws_log.proofs.Views.{Seen, seen_in}
use Rattle.ch_laws_log.proofs.Agreeing.{At, Good}
use Rattle.ch_laws_log.proofs.Happens.{has_cell}
use Rattle.ch_laws_log.proofs.Kept.{IsIn}
use Rattle.ch_laws_log.proofs.OwnEntries.{IsDone, comes_verdict}
use Rattle.ch_laws_log.proofs.Seen.{opened_is}
use Rattle.ch_laws_log.proofs.Stored.{find_name}
use Rattle.ch_laws_log.proofs.Told.{opener_as_told, target_as_told}

-- the socket of this name stands where its name leads
abbrev pub PlacedAt : List Line → World → SockName → Type 0
PlacedAt journal world s = (socket : WorldSocket) → find (is_socket_named s) world.sockets ≡ Some socket → IsPlaced journal socket

-- ---- sockets that weren't opened

never_opened : (journal : List Line) (log : List Entry) (world : World) (s : SockName) → Good journal log world → find (is_socket_named s) world.sockets ≡ None → list_any (is_opening s) log ≡ false
never_opened journal log world s g none = sym (opened_is log s) ∙ ap (λ (v : Seen). v.opened) (subst (λ (o : Option WorldSocket). At (has_host journal s.to) (seen_in log s) o) none (g.agrees s))

stands_nowhere : (journal : List Line) (log : List Entry) (world : World) (s : SockName) (e : End) (test : Stage → Bool) → Good journal log world → find (is_socket_named s) world.sockets ≡ None → stands_at journal log s e test ≡ false
stands_nowhere journal log world s e test g none = ap (λ b. some_and test (cond (not b) None (cond (list_any (closes s e) log) (Some Ended) (Some (unclosed_state journal log s e))))) (never_opened journal log world s g none)

-- what the socket's name says is what is found under it
at_name : (world : World) (s : SockName) (socket : WorldSocket) → find (is_socket_named s) world.sockets ≡ Some socket → IsIn socket world
at_name world s socket e = subst (λ (n : SockName). find (is_socket_named n) world.sockets ≡ Some socket) (sym (find_name s world.sockets socket e)) e

-- ---- joining

pub join_told : (journal : List Line) (log : List Entry) (world : World) (s : SockName) → Good journal log world → PlacedAt journal world s → list_any (refuses s) log ≡ false → answer_to journal log (lines.Join s) ≡ ok_where (some_and can_join (find (is_socket_named s) world.sockets))
join_told journal log world s g placed not_refused = by_socket (find (is_socket_named s) world.sockets) refl where
  by_socket : (o : Option WorldSocket) → find (is_socket_named s) world.sockets ≡ o → ok_where (stands_at journal log s O is_pending && has_host journal s.to) ≡ ok_where (some_and can_join o)
  by_socket None e = ap (λ b. ok_where (b && has_host journal s.to)) (stands_nowhere journal log world s O is_pending g e)
  by_socket (Some socket) e = ap (λ b. ok_where (b && has_host journal s.to)) ((opener_as_told journal log world s socket g e not_refused).stands is_pending)
      ∙ ap (λ b. ok_where (is_pending socket.o.stage && b)) (sym (placed socket e ∙ ap (λ (n : SockName). has_host journal n.to) (find_name s world.sockets socket e)))

-- ---- coming

pub come_told : (journal : List Line) (log : List Entry) (world : World) (s : SockName) → Good journal log world → PlacedAt journal world s → answer_to journal log (lines.Come s) ≡ ok_where (some_and can_come (find (is_socket_named s) world.sockets))
come_told journal log world s g placed = by_socket (find (is_socket_named s) world.sockets) refl where
  by_socket : (o : Option WorldSocket) → find (is_socket_named s) world.sockets ≡ o → ok_where (stands_at journal log s T is_pending) ≡ ok_where (some_and can_come o)
  by_socket None e = ap ok_where (stands_nowhere journal log world s T is_pending g e)
  by_socket (Some socket) e = ap ok_where ((target_as_told journal log world s socket g e (placed socket e)).stands is_pending)

-- the mark of a line that comes is the answer that the log shows
pub come_answered : (journal : List Line) (log : List Entry) (world : World) (s : SockName) (verdict : Verdict) (told : List Entry) (after : World) → Good journal log world → PlacedAt journal world s → line_done (lines.Come s) world ≡ Ok ((verdict, told), after) → verdict ≡ answer_to journal log (lines.Come s)
come_answered journal log world s verdict told after g placed is = by_socket (find (is_socket_named s) world.sockets) refl is ∙ sym (come_told journal log world s g placed) where
  verdict_in : Answered → Verdict
  verdict_in (Ok done) = done.0.0
  verdict_in (Err stop) = verdicts.Nothing

  nothing_so : (w : World) → ◌≡◌ {A = Answered} (Ok ((verdicts.Nothing, []), w)) (Ok ((verdict, told), after)) → verdict ≡ verdicts.Nothing
  nothing_so w e = sym (ap verdict_in e)

  done_so : (done : Answered) → IsDone done → done ≡ Ok ((verdict, told), after) → verdict ≡ verdicts.Ok
  done_so done d e = subst (λ (a : Answered). IsDone a) e d

  not_over : (stage : Stage) → is_pending stage ≡ true → is_ended stage ≡ false
  not_over Pending e = refl
  not_over Open e = absurd cc
  not_over Ended e = absurd cc

  by_place : (socket : WorldSocket) → IsIn socket world → (o : Option ℕ) → socket.t.cell ≡ o → is_some o ≡ true → comes socket world ≡ Ok ((verdict, told), after) → verdict ≡ verdicts.Ok
  by_place socket is None at there e = absurd cc
  by_place socket is (Some place) at there e = done_so (comes socket world) (comes_verdict journal log socket world place g is at) e

  by_test : (socket : WorldSocket) → find (is_socket_named s) world.sockets ≡ Some socket → (b : Bool) → can_come socket ≡ b → cond b (comes socket world) (Ok ((verdicts.Nothing, []), world)) ≡ Ok ((verdict, told), after) → verdict ≡ ok_where b
  by_test socket found true c e = let there = has_cell journal log world s socket g found (placed socket found) (not_over socket.t.stage c) in by_place socket (at_name world s socket found) socket.t.cell refl there e
  by_test socket found false c e = nothing_so world e

  by_socket : (o : Option WorldSocket) → find (is_socket_named s) world.sockets ≡ o → (elim o as (λ o. Answered) [
    | None ↦ Ok ((verdicts.Nothing, []), world)
    | Some socket ↦ cond (can_come socket) (comes socket world) (Ok ((verdicts.Nothing, []), world))
  ]) ≡ Ok ((verdict, told), after) → verdict ≡ ok_where (some_and can_come o)
  by_socket None found e = nothing_so world e
  by_socket (Some socket) found e = by_test socket found (can_come socket) refl e

-- ---- feeding

turned : (a b : Bool) → (a || b) ≡ (b || a)
turned true true = refl
turned true false = refl
turned false true = refl
turned false false = refl

open_there : (stage : Stage) (b : Bool) → (is_ended stage ≡ false → b ≡ true) → is_open stage ≡ (is_open stage && b)
open_there Pending b h = refl
open_there Open b h = sym (h refl)
open_there Ended b h = refl

swapped : (a b : Bool) → (a && b) ≡ (b && a)
swapped true true = refl
swapped true false = refl
swapped false true = refl
swapped false false = refl

pub feed_told : (journal : List Line) (log : List Entry) (world : World) (s : SockName) (e : End) (count : ℕ) → Good journal log world → PlacedAt journal world s → ((socket : WorldSocket) → find (is_socket_named s) world.sockets ≡ Some socket → IsOwned journal socket) → list_any (refuses s) log ≡ false
    → answer_to journal log (lines.Feed s e count) ≡ ok_where (some_and (can_feed e) (find (is_socket_named s) world.sockets))
feed_told journal log world s e count g placed owned not_refused = by_socket (find (is_socket_named s) world.sockets) refl where
  opener : (socket : WorldSocket) → find (is_socket_named s) world.sockets ≡ Some socket → IsAsTold journal log s O socket.o
  opener socket found = opener_as_told journal log world s socket g found not_refused

  target : (socket : WorldSocket) → find (is_socket_named s) world.sockets ≡ Some socket → IsAsTold journal log s T socket.t
  target socket found = target_as_told journal log world s socket g found (placed socket found)

  input : (at other : End) (end far : WorldEnd) → across at ≡ other → IsAsTold journal log s at end → IsAsTold journal log s other far → (nat_lt 0 (length (unread journal log s at)) || has_ended_input journal log s at) ≡ (nat_lt 0 (length end.unread) || (end.is_cut || is_ended far.stage))
  input at other end far is here there = ap (λ (l : List ℕ). nat_lt 0 (length l) || (stands_at journal log s (across at) is_ended || is_cut log s at)) here.unread
      ∙ ap (λ b. nat_lt 0 (length end.unread) || (b || is_cut log s at)) (ap (λ (x : End). stands_at journal log s x is_ended) is ∙ there.stands is_ended)
      ∙ ap (λ b. nat_lt 0 (length end.unread) || (is_ended far.stage || b)) here.cut
      ∙ ap (λ b. nat_lt 0 (length end.unread) || b) (turned (is_ended far.stage) end.is_cut)

  by_end : (at : End) (socket : WorldSocket) → find (is_socket_named s) world.sockets ≡ Some socket → can_be_fed journal log s at ≡ can_feed at socket
  by_end O socket found = ap (λ b. b && (nat_lt 0 (length (unread journal log s O)) || has_ended_input journal log s O))
      (ap (λ b. not (is_stranger journal s.from) && b) ((opener socket found).stands is_open)
      ∙ swapped (not (is_stranger journal s.from)) (is_open socket.o.stage)
      ∙ ap (λ b. is_open socket.o.stage && b) (sym (owned socket found ∙ ap (λ (n : SockName). not (is_stranger journal n.from)) (find_name s world.sockets socket found))))
      ∙ ap (λ b. (is_open socket.o.stage && is_of_host socket.o) && b) (input O T socket.o socket.t refl (opener socket found) (target socket found))
  by_end T socket found = ap (λ b. b && (nat_lt 0 (length (unread journal log s T)) || has_ended_input journal log s T))
      ((target socket found).stands is_open ∙ open_there socket.t.stage (is_of_host socket.t) (has_cell journal log world s socket g found (placed socket found)))
      ∙ ap (λ b. (is_open socket.t.stage && is_of_host socket.t) && b) (input T O socket.t socket.o refl (target socket found) (opener socket found))

  nowhere : (at : End) → find (is_socket_named s) world.sockets ≡ None → can_be_fed journal log s at ≡ false
  nowhere O found = ap (λ b. not (is_stranger journal s.from) && b && (nat_lt 0 (length (unread journal log s O)) || has_ended_input journal log s O)) (stands_nowhere journal log world s O is_open g found) ∙ never (not (is_stranger journal s.from)) where
    never : (b : Bool) → (b && false && (nat_lt 0 (length (unread journal log s O)) || has_ended_input journal log s O)) ≡ false
    never true = refl
    never false = refl
  nowhere T found = ap (λ b. b && (nat_lt 0 (length (unread journal log s T)) || has_ended_input journal log s T)) (stands_nowhere journal log world s T is_open g found)

  by_socket : (o : Option WorldSocket) → find (is_socket_named s) world.sockets ≡ o → ok_where (can_be_fed journal log s e) ≡ ok_where (some_and (can_feed e) o)
  by_socket None found = ap ok_where (nowhere e found)
  by_socket (Some socket) found = ap ok_where (by_end e socket found)
