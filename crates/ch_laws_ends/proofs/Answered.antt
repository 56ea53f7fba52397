-- The answers of the lines that happen to sockets are those that the log shows.
use Rattle.std.proofs.Common.{◌≡◌, ℕ, Bool, true, false, cond, not, ◌&&◌, ◌||◌, length, List, refl, sym, ap, ◌∙◌, subst}
use Rattle.std.specs.List.{list_any}
use Rattle.std.specs.Prelude.{find, is_some, nat_lt, Option, Some, None}
use Rattle.ch_model.specs.declared.entry.Entry.{Entry}
use Rattle.ch_model.specs.declared.line.Line.{Line}
use Rattle.ch_model.specs.declared.line.What.TheVariants as lines
use Rattle.ch_model.specs.declared.name.End.{End}
use Rattle.ch_model.specs.declared.name.End.TheVariants.{O, T}
use Rattle.ch_model.specs.declared.name.SockName.{SockName}
use Rattle.ch_model.specs.Answers.{ok_where, is_open_end, can_be_fed, may_poke, answer_to}
use Rattle.ch_model.specs.Declarations.{is_stranger}
use Rattle.ch_model.specs.Logs.{some_and}
use Rattle.ch_model.specs.Sockets.{closes, unclosed_state, stands_at, unread, is_cut, has_ended_input}
use Rattle.ch_model.specs.Same.{across}
use Rattle.ch_model.specs.Stages.{Stage, Pending, Open, Ended, is_pending, is_open, is_ended}
use Rattle.ch_model.specs.WorldLines.{can_join, can_refuse, can_feed, can_cut, is_at_work, is_strangers}
use Rattle.ch_model.specs.WorldSockets.{end_of, has_input, is_socket_named}
use Rattle.ch_model.specs.WorldState.{WorldEnd, WorldSocket, World}
use Rattle.ch_laws_log.specs.Agrees.{AllPlaced, IsAsTold, IsOwned}
use Rattle.ch_laws_log.proofs.Stored.{find_name}
use Rattle.ch_laws_log.proofs.Told.{target_as_told}
use Rattle.ch_laws_ends.proofs.Known.{OpenerIs, TargetIs}
use Rattle.ch_laws_ends.proofs.Told.{Sure}
use Rattle.ch_laws_log.proofs.Agreeing.{At, Good}
use Rattle.ch_laws_log.proofs.Seen.{opened_is}
use Rattle.ch_laws_log.proofs.Views.{Seen, seen_in}
use Rattle.ch_model.specs.Declarations.{has_host}
use Rattle.ch_model.specs.Sockets.{is_opening}

-- where a socket wasn't opened, no end of it stands
stands_nowhere : (journal : List Line) (log : List Entry) (world : World) (s : SockName) (e : End) (test : Stage → Bool) → Good journal log world → find (is_socket_named s) world.sockets ≡ None → stands_at journal log s e test ≡ false
stands_nowhere journal log world s e test g none = ap (λ b. some_and test (cond (not b) None (cond (list_any (closes s e) log) (Some Ended) (Some (unclosed_state journal log s e))))) never where
  never : list_any (is_opening s) log ≡ false
  never = sym (opened_is log s) ∙ ap (λ (v : Seen). v.opened) (subst (λ (o : Option WorldSocket). At (has_host journal s.to) (seen_in log s) o) none (g.agrees s))

-- the socket's opener's end is as the log tells, where it is there
abbrev pub OpenerTold : List Line → List Entry → World → SockName → Type 0
OpenerTold journal log world s = (socket : WorldSocket) → find (is_socket_named s) world.sockets ≡ Some socket → IsAsTold journal log s O socket.o

pub join_told : (journal : List Line) (log : List Entry) (world : World) (s : SockName) → Good journal log world → AllPlaced journal world → OpenerTold journal log world s → answer_to journal log (lines.Join s) ≡ ok_where (some_and can_join (find (is_socket_named s) world.sockets))
join_told journal log world s g placed opener = by_socket (find (is_socket_named s) world.sockets) refl where
  by_socket : (o : Option WorldSocket) → find (is_socket_named s) world.sockets ≡ o → ok_where (stands_at journal log s O is_pending && has_host journal s.to) ≡ ok_where (some_and can_join o)
  by_socket None e = ap (λ b. ok_where (b && has_host journal s.to)) (stands_nowhere journal log world s O is_pending g e)
  by_socket (Some socket) e = ap (λ b. ok_where (b && has_host journal s.to)) ((opener socket e).stands is_pending)
      ∙ ap (λ b. ok_where (is_pending socket.o.stage && b)) (sym (placed s socket e ∙ ap (λ (n : SockName). has_host journal n.to) (find_name s world.sockets socket e)))

pub refuse_told : (journal : List Line) (log : List Entry) (world : World) (s : SockName) → Good journal log world → OpenerTold journal log world s → answer_to journal log (lines.Refuse s) ≡ ok_where (some_and can_refuse (find (is_socket_named s) world.sockets))
refuse_told journal log world s g opener = by_socket (find (is_socket_named s) world.sockets) refl where
  by_socket : (o : Option WorldSocket) → find (is_socket_named s) world.sockets ≡ o → ok_where (stands_at journal log s O is_pending) ≡ ok_where (some_and can_refuse o)
  by_socket None e = ap ok_where (stands_nowhere journal log world s O is_pending g e)
  by_socket (Some socket) e = ap ok_where ((opener socket e).stands is_pending)

-- a target's end that is open is of a host
open_there : (stage : Stage) (cell number : Option ℕ) → TargetIs stage cell number → is_open stage ≡ (is_open stage && is_some cell)
open_there Pending cell number k = refl
open_there Open cell number k = sym k.0
open_there Ended cell number k = refl

swapped : (a b : Bool) → (a && b) ≡ (b && a)
swapped true true = refl
swapped true false = refl
swapped false true = refl
swapped false false = refl

never : (b : Bool) → (b && false) ≡ false
never true = refl
never false = refl

turned : (a b : Bool) → (a || b) ≡ (b || a)
turned true true = refl
turned true false = refl
turned false true = refl
turned false false = refl

-- an end is open in the log, and no stranger's, where it is at work in the world
open_told : (journal : List Line) (log : List Entry) (world : World) (s : SockName) (e : End) (socket : WorldSocket) → Sure journal log world → AllPlaced journal world → IsOwned journal socket → OpenerTold journal log world s → find (is_socket_named s) world.sockets ≡ Some socket → is_open_end journal log s e ≡ is_at_work e socket
open_told journal log world s O socket sure placed owned opener found = ap (λ b. not (is_stranger journal s.from) && b) ((opener socket found).stands is_open)
    ∙ swapped (not (is_stranger journal s.from)) (is_open socket.o.stage)
    ∙ ap (λ b. is_open socket.o.stage && b) (sym (owned ∙ ap (λ (n : SockName). not (is_stranger journal n.from)) (find_name s world.sockets socket found)))
open_told journal log world s T socket sure placed owned opener found = (target_as_told journal log world s socket sure.ends.sorted.0 found (placed s socket found)).stands is_open ∙ open_there socket.t.stage socket.t.cell socket.t.number (sure.ends.sorted.1 s socket found).t

open_nowhere : (journal : List Line) (log : List Entry) (world : World) (s : SockName) (e : End) → Good journal log world → find (is_socket_named s) world.sockets ≡ None → is_open_end journal log s e ≡ false
open_nowhere journal log world s O g none = ap (λ b. not (is_stranger journal s.from) && b) (stands_nowhere journal log world s O is_open g none) ∙ never (not (is_stranger journal s.from))
open_nowhere journal log world s T g none = stands_nowhere journal log world s T is_open g none

-- the opener's end of this socket is of a host exactly where its name is no stranger's
abbrev pub OwnedAt : List Line → World → SockName → Type 0
OwnedAt journal world s = (socket : WorldSocket) → find (is_socket_named s) world.sockets ≡ Some socket → IsOwned journal socket

pub lose_told : (journal : List Line) (log : List Entry) (world : World) (s : SockName) (e : End) → Sure journal log world → AllPlaced journal world → OwnedAt journal world s → OpenerTold journal log world s → answer_to journal log (lines.Lose s e) ≡ ok_where (some_and (is_at_work e) (find (is_socket_named s) world.sockets))
lose_told journal log world s e sure placed owned opener = by_socket (find (is_socket_named s) world.sockets) refl where
  by_socket : (o : Option WorldSocket) → find (is_socket_named s) world.sockets ≡ o → ok_where (is_open_end journal log s e) ≡ ok_where (some_and (is_at_work e) o)
  by_socket None found = ap ok_where (open_nowhere journal log world s e sure.ends.sorted.0 found)
  by_socket (Some socket) found = ap ok_where (open_told journal log world s e socket sure placed (owned socket found) opener found)

pub feed_told : (journal : List Line) (log : List Entry) (world : World) (s : SockName) (e : End) (count : ℕ) → Sure journal log world → AllPlaced journal world → OwnedAt journal world s → OpenerTold journal log world s → answer_to journal log (lines.Feed s e count) ≡ ok_where (some_and (can_feed e) (find (is_socket_named s) world.sockets))
feed_told journal log world s e count sure placed owned opener = by_socket (find (is_socket_named s) world.sockets) refl where
  input : (at far : End) (here there : WorldEnd) → across at ≡ far → IsAsTold journal log s at here → IsAsTold journal log s far there → (nat_lt 0 (length (unread journal log s at)) || has_ended_input journal log s at) ≡ (nat_lt 0 (length here.unread) || (here.is_cut || is_ended there.stage))
  input at far here there is told other = ap (λ (l : List ℕ). nat_lt 0 (length l) || (stands_at journal log s (across at) is_ended || is_cut log s at)) told.unread
      ∙ ap (λ b. nat_lt 0 (length here.unread) || (b || is_cut log s at)) (ap (λ (x : End). stands_at journal log s x is_ended) is ∙ other.stands is_ended)
      ∙ ap (λ b. nat_lt 0 (length here.unread) || (is_ended there.stage || b)) told.cut
      ∙ ap (λ b. nat_lt 0 (length here.unread) || b) (turned (is_ended there.stage) here.is_cut)

  target : (socket : WorldSocket) → find (is_socket_named s) world.sockets ≡ Some socket → IsAsTold journal log s T socket.t
  target socket found = target_as_told journal log world s socket sure.ends.sorted.0 found (placed s socket found)

  has_input_too : (at : End) (socket : WorldSocket) → find (is_socket_named s) world.sockets ≡ Some socket → (nat_lt 0 (length (unread journal log s at)) || has_ended_input journal log s at) ≡ has_input at socket
  has_input_too O socket found = input O T socket.o socket.t refl (opener socket found) (target socket found)
  has_input_too T socket found = input T O socket.t socket.o refl (target socket found) (opener socket found)

  by_socket : (o : Option WorldSocket) → find (is_socket_named s) world.sockets ≡ o → ok_where (can_be_fed journal log s e) ≡ ok_where (some_and (can_feed e) o)
  by_socket None found = ap (λ b. ok_where (b && (nat_lt 0 (length (unread journal log s e)) || has_ended_input journal log s e))) (open_nowhere journal log world s e sure.ends.sorted.0 found)
  by_socket (Some socket) found = ap (λ b. ok_where (b && (nat_lt 0 (length (unread journal log s e)) || has_ended_input journal log s e))) (open_told journal log world s e socket sure placed (owned socket found) opener found)
      ∙ ap (λ b. ok_where (is_at_work e socket && b)) (has_input_too e socket found)

pub cut_told : (journal : List Line) (log : List Entry) (world : World) (s : SockName) (e : End) → Sure journal log world → AllPlaced journal world → OwnedAt journal world s → OpenerTold journal log world s → answer_to journal log (lines.Cut s e) ≡ ok_where (some_and (can_cut e) (find (is_socket_named s) world.sockets))
cut_told journal log world s e sure placed owned opener = by_socket (find (is_socket_named s) world.sockets) refl where
  by_end : (at : End) (socket : WorldSocket) → find (is_socket_named s) world.sockets ≡ Some socket → is_cut log s at ≡ (end_of at socket).is_cut
  by_end O socket found = (opener socket found).cut
  by_end T socket found = (target_as_told journal log world s socket sure.ends.sorted.0 found (placed s socket found)).cut

  by_socket : (o : Option WorldSocket) → find (is_socket_named s) world.sockets ≡ o → ok_where (is_open_end journal log s e && not (is_cut log s e)) ≡ ok_where (some_and (can_cut e) o)
  by_socket None found = ap (λ b. ok_where (b && not (is_cut log s e))) (open_nowhere journal log world s e sure.ends.sorted.0 found)
  by_socket (Some socket) found = ap (λ b. ok_where (b && not (is_cut log s e))) (open_told journal log world s e socket sure placed (owned socket found) opener found)
      ∙ ap (λ b. ok_where (is_at_work e socket && not b)) (by_end e socket found)

-- a stranger's end is open until it has ended
strangers_open : (stage : Stage) (cell number : Option ℕ) → OpenerIs stage cell number → is_some cell ≡ false → is_open stage ≡ (not (is_some cell) && not (is_ended stage))
strangers_open Pending cell number k e = let some = k.0 in absurd cc
strangers_open Open cell number k e = sym (ap (λ b. not b && true) e)
strangers_open Ended cell number k e = sym (ap (λ b. not b && false) e)

pub poke_told : (journal : List Line) (log : List Entry) (world : World) (s : SockName) → Sure journal log world → is_stranger journal s.from ≡ true → OwnedAt journal world s → OpenerTold journal log world s → ok_where (may_poke journal log s) ≡ ok_where (some_and is_strangers (find (is_socket_named s) world.sockets))
poke_told journal log world s sure stranger owned opener = by_socket (find (is_socket_named s) world.sockets) refl where
  by_socket : (o : Option WorldSocket) → find (is_socket_named s) world.sockets ≡ o → ok_where (stands_at journal log s O is_open) ≡ ok_where (some_and is_strangers o)
  by_socket None found = ap ok_where (stands_nowhere journal log world s O is_open sure.ends.sorted.0 found)
  by_socket (Some socket) found = ap ok_where ((opener socket found).stands is_open ∙ strangers_open socket.o.stage socket.o.cell socket.o.number (sure.ends.sorted.1 s socket found).o
      (owned socket found ∙ ap (λ (n : SockName). not (is_stranger journal n.from)) (find_name s world.sockets socket found) ∙ ap not stranger))
