-- Each step of a cell, and all that it told, keeps the streams of all sockets.
use Rattle.std.proofs.Common.{◌≡◌, ℕ, Bool, true, false, cond, ◌&&◌, List, [], ◌∷◌, ◌++◌, refl, sym, ap, ◌∙◌, subst}
use Rattle.std.specs.Prelude.{find, Option, Some, None, ◌==◌}
use Rattle.ch_base.specs.declared.address.Address.{Address}
use Rattle.ch_reader.specs.declared.item.Expected.TheVariants as expected
use Rattle.ch_model.specs.declared.entry.Entry.{Entry}
use Rattle.ch_model.specs.declared.entry.Entry.TheVariants as entries
use Rattle.ch_model.specs.declared.line.Line.{Line}
use Rattle.ch_model.specs.declared.name.End.{End}
use Rattle.ch_model.specs.declared.name.End.TheVariants.{O, T}
use Rattle.ch_model.specs.declared.name.SockName.{SockName}
use Rattle.ch_model.specs.declared.step.Place.{Place}
use Rattle.ch_model.specs.declared.step.Step.{Step}
use Rattle.ch_model.specs.declared.step.Step.TheVariants as steps
use Rattle.ch_model.specs.HostSteps.{own_address}
use Rattle.ch_model.specs.Naming.{Names, called}
use Rattle.ch_model.specs.Same.{same_end}
use Rattle.ch_model.specs.Stages.{Pending}
use Rattle.ch_model.specs.WorldSockets.{end_of, other, with_end, ended, item_arrives, end_of_nobody, is_socket_named, store_in, with_end_of, same_number, is_end_of, find_end, cell_of, target_end, new_socket}
use Rattle.ch_model.specs.WorldState.{Cell, WorldEnd, WorldSocket, World}
use Rattle.ch_model.specs.WorldSteps.{on_end, later_places, item_is_read, reads_item, end_closes, stepped}
use Rattle.ch_laws_log.specs.HostEnds.{IsNewTo}
use Rattle.ch_laws_log.specs.WorldEnds.{stage_held}
use Rattle.ch_laws_log.proofs.Stored.{number_is, number_same, next_is_new, Distinct}
use Rattle.ch_laws_log.proofs.WorldEnds.{found_is}
use Rattle.ch_laws_ends.proofs.Found.{EachFound, none_found}
use Rattle.ch_laws_ends.proofs.Known.{Sorted}
use Rattle.ch_laws_writes.specs.Dues.{Due, Asking, Answering, Framing, due_past, IsDue, WritesDue}
use Rattle.ch_laws_bytes.specs.Streams.{Reader, Flows, is_over, ToOpener, ToTarget, FromOpener, reads_at, writes_at, BothFlow, AllFlow, moved}
use Rattle.ch_laws_bytes.proofs.Sockets.{flip, Elsewhere, writes_elsewhere, writes_there, all_as, none_there, other_there, other_end_there, stored_flow, end_flow}
use Rattle.ch_laws_bytes.proofs.Steps.{over_flows, past_asks, answered_with, answered_over, asked_with, asked_as, asked_still}

-- ---- what is due after a step

only_there : (place p sock n : ℕ) (x y : Option Due) → ((p == place) && (n == sock)) ≡ false → cond (place == p) (cond (sock == n) x y) y ≡ y
only_there place p sock n x y h = by_tests (place == p) (sock == n) (ap (λ b. b && (sock == n)) (flip place p) ∙ ap (λ b. (p == place) && b) (flip sock n) ∙ h) where
  by_tests : (a b : Bool) → (a && b) ≡ false → cond a (cond b x y) y ≡ y
  by_tests true true h = absurd cc
  by_tests true false h = refl
  by_tests false b h = refl

here : (place sock : ℕ) (x y : Option Due) → cond (place == place) (cond (sock == sock) x y) y ≡ x
here place sock x y = ap (λ b. cond b (cond (sock == sock) x y) y) (number_same place) ∙ ap (λ b. cond b x y) (number_same sock)

either : (b : Bool) (x : Option Due) → cond b x x ≡ x
either true x = refl
either false x = refl

-- ---- ends

cell_is : (place sock : ℕ) (end : WorldEnd) → is_end_of place sock end ≡ true → end.cell ≡ Some place
cell_is place sock end = by_cell end.cell (same_number end.number sock) where
  by_cell : (c : Option ℕ) (d : Bool) → (same_number c place && d) ≡ true → c ≡ Some place
  by_cell None d h = absurd cc
  by_cell (Some p) d h = by_test (p == place) refl h where
    by_test : (b : Bool) → (p == place) ≡ b → (b && d) ≡ true → ◌≡◌ {A = Option ℕ} (Some p) (Some place)
    by_test true e h = ap Some (number_is p place e)
    by_test false e h = absurd cc

-- what comes from an opener of a host
from_host : (own : ℕ → ℕ → Address) (known : Names) (name : SockName) (place : ℕ) (cell : Option ℕ) (reader : Option Reader) (over : Bool) (unread : List ℕ) (due : Option Due) → cell ≡ Some place → FromOpener own known name cell reader over unread due → ToTarget (own place) known name reader over unread due
from_host own known name place cell reader over unread due e f = subst (λ (c : Option ℕ). FromOpener own known name c reader over unread due) e f

as_host : (own : ℕ → ℕ → Address) (known : Names) (name : SockName) (place : ℕ) (cell : Option ℕ) (reader : Option Reader) (over : Bool) (unread : List ℕ) (due : Option Due) → cell ≡ Some place → ToTarget (own place) known name reader over unread due → FromOpener own known name cell reader over unread due
as_host own known name place cell reader over unread due e f = subst (λ (c : Option ℕ). FromOpener own known name c reader over unread due) (sym e) f

-- what changes from any opener
pub from_any : (own : ℕ → ℕ → Address) (known : Names) (name : SockName) (cell : Option ℕ) (one two : Option Reader) (before after : Bool) (unread now : List ℕ) (due next : Option Due) → ((p : ℕ) → ToTarget (own p) known name one before unread due → ToTarget (own p) known name two after now next) → FromOpener own known name cell one before unread due → FromOpener own known name cell two after now next
from_any own known name None one two before after unread now due next each f = tt
from_any own known name (Some p) one two before after unread now due next each f = each p f

-- nothing is due any more
pub none_due : (reader : Option Reader) (over : Bool) (unread : List ℕ) (due : Option Due) → Flows reader over unread due → Flows reader over unread None
none_due None over unread due f = tt
none_due (Some reader) true unread due f = tt
none_due (Some reader) false unread due f = record { items = f.items; whole = f.whole; each = f.each; next = tt }

-- ---- an item is written

-- what a cell's step changes of what is due
record Moves (place sock : ℕ) (one two : ℕ → ℕ → Option Due) (due : Option Due) : Type 0 where
  else : Elsewhere place sock one two
  now : two place sock ≡ due

-- an item is written by the opener's end
written_by_opener : (own : ℕ → ℕ → Address) (known : Names) (readers : ℕ → ℕ → Option Reader) (one two : ℕ → ℕ → Option Due) (place sock : ℕ) (bytes : List ℕ) (said : Option Place) (old : WorldSocket) → Moves place sock one two (due_past bytes (one place sock)) → IsDue (own place) (one place sock) bytes
    → is_end_of place sock old.o ≡ true → is_end_of place sock old.t ≡ false → BothFlow own known readers one old → BothFlow own known readers two (with_end T (item_arrives bytes said old.t) old)
written_by_opener own known readers one two place sock bytes said old m due mine not f = by_over (is_over old.t) refl where
  arrive : Bool → WorldEnd
  arrive b = cond b old.t (record old.t { unread = old.t.unread ++ bytes; places = old.t.places ++ said ∷ [] })

  was : writes_at one old.o.cell old.o.number ≡ one place sock
  was = writes_there place sock one old.o mine

  next : writes_at two old.o.cell old.o.number ≡ due_past bytes (writes_at one old.o.cell old.o.number)
  next = writes_there place sock two old.o mine ∙ m.now ∙ ap (due_past bytes) (sym was)

  same : writes_at two old.t.cell old.t.number ≡ writes_at one old.t.cell old.t.number
  same = writes_elsewhere place sock one two old.t m.else not

  its_cell : old.o.cell ≡ Some place
  its_cell = cell_is place sock old.o mine

  reader : Option Reader
  reader = reads_at readers expected.Request old.t.cell old.t.number

  target : ToTarget (own place) known old.name reader (is_over old.t) old.t.unread (writes_at one old.o.cell old.o.number)
  target = from_host own known old.name place old.o.cell reader (is_over old.t) old.t.unread (writes_at one old.o.cell old.o.number) its_cell f.target

  opener : ToOpener (reads_at readers expected.Answer old.o.cell old.o.number) (is_over old.o) old.o.unread (writes_at two old.t.cell old.t.number)
  opener = subst (λ (d : Option Due). ToOpener (reads_at readers expected.Answer old.o.cell old.o.number) (is_over old.o) old.o.unread d) (sym same) f.opener

  to_past : (unread : List ℕ) → ToTarget (own place) known old.name reader (is_over old.t) unread (due_past bytes (writes_at one old.o.cell old.o.number)) → FromOpener own known old.name old.o.cell reader (is_over old.t) unread (writes_at two old.o.cell old.o.number)
  to_past unread t = as_host own known old.name place old.o.cell reader (is_over old.t) unread (writes_at two old.o.cell old.o.number) its_cell (subst (λ (d : Option Due). ToTarget (own place) known old.name reader (is_over old.t) unread d) (sym next) t)

  by_over : (b : Bool) → is_over old.t ≡ b → BothFlow own known readers two (with_end T (arrive b) old)
  by_over true e = record {
    opener = opener;
    target = to_past old.t.unread (asked_as (own place) known old.name reader reader (is_over old.t) (is_over old.t) old.t.unread old.t.unread (writes_at one old.o.cell old.o.number) (due_past bytes (writes_at one old.o.cell old.o.number)) (past_asks bytes (writes_at one old.o.cell old.o.number))
        (λ x. subst (λ (b : Bool). Flows reader b old.t.unread (due_past bytes (writes_at one old.o.cell old.o.number))) (sym e) (over_flows reader old.t.unread (due_past bytes (writes_at one old.o.cell old.o.number)))) target);
  }
  by_over false e = record { opener = opener; target = to_past (old.t.unread ++ bytes) (asked_with (own place) known old.name reader (is_over old.t) old.t.unread bytes (writes_at one old.o.cell old.o.number) (subst (λ (d : Option Due). IsDue (own place) d bytes) (sym was) due) target) }

-- and by the target's
written_by_target : (own : ℕ → ℕ → Address) (known : Names) (readers : ℕ → ℕ → Option Reader) (one two : ℕ → ℕ → Option Due) (place sock : ℕ) (bytes : List ℕ) (said : Option Place) (old : WorldSocket) → Moves place sock one two (due_past bytes (one place sock)) → IsDue (own place) (one place sock) bytes
    → is_end_of place sock old.t ≡ true → is_end_of place sock old.o ≡ false → BothFlow own known readers one old → BothFlow own known readers two (with_end O (item_arrives bytes said old.o) old)
written_by_target own known readers one two place sock bytes said old m due mine not f = by_over (is_over old.o) refl where
  arrive : Bool → WorldEnd
  arrive b = cond b old.o (record old.o { unread = old.o.unread ++ bytes; places = old.o.places ++ said ∷ [] })

  was : writes_at one old.t.cell old.t.number ≡ one place sock
  was = writes_there place sock one old.t mine

  next : writes_at two old.t.cell old.t.number ≡ due_past bytes (writes_at one old.t.cell old.t.number)
  next = writes_there place sock two old.t mine ∙ m.now ∙ ap (due_past bytes) (sym was)

  same : writes_at two old.o.cell old.o.number ≡ writes_at one old.o.cell old.o.number
  same = writes_elsewhere place sock one two old.o m.else not

  reader : Option Reader
  reader = reads_at readers expected.Answer old.o.cell old.o.number

  target : FromOpener own known old.name old.o.cell (reads_at readers expected.Request old.t.cell old.t.number) (is_over old.t) old.t.unread (writes_at two old.o.cell old.o.number)
  target = subst (λ (d : Option Due). FromOpener own known old.name old.o.cell (reads_at readers expected.Request old.t.cell old.t.number) (is_over old.t) old.t.unread d) (sym same) f.target

  to_past : (unread : List ℕ) → ToOpener reader (is_over old.o) unread (due_past bytes (writes_at one old.t.cell old.t.number)) → ToOpener reader (is_over old.o) unread (writes_at two old.t.cell old.t.number)
  to_past unread t = subst (λ (d : Option Due). ToOpener reader (is_over old.o) unread d) (sym next) t

  by_over : (b : Bool) → is_over old.o ≡ b → BothFlow own known readers two (with_end O (arrive b) old)
  by_over true e = record { opener = to_past old.o.unread (subst (λ (b : Bool). ToOpener reader b old.o.unread (due_past bytes (writes_at one old.t.cell old.t.number))) (sym e) (answered_over reader old.o.unread (due_past bytes (writes_at one old.t.cell old.t.number)) (past_asks bytes (writes_at one old.t.cell old.t.number)))); target = target }
  by_over false e = record { opener = to_past (old.o.unread ++ bytes) (answered_with (own place) reader (is_over old.o) old.o.unread bytes (writes_at one old.t.cell old.t.number) (subst (λ (d : Option Due). IsDue (own place) d bytes) (sym was) due) f.opener); target = target }

-- ---- an end closes

closed_opener : (own : ℕ → ℕ → Address) (known : Names) (readers : ℕ → ℕ → Option Reader) (one two : ℕ → ℕ → Option Due) (place sock : ℕ) (old : WorldSocket) → Moves place sock one two None → is_end_of place sock old.o ≡ true → is_end_of place sock old.t ≡ false → BothFlow own known readers one old → BothFlow own known readers two (with_end O (ended old.o) old)
closed_opener own known readers one two place sock old m mine not f = record {
  opener = subst (λ (d : Option Due). ToOpener (reads_at readers expected.Answer old.o.cell old.o.number) true [] d) (sym same) (answered_over (reads_at readers expected.Answer old.o.cell old.o.number) [] (writes_at one old.t.cell old.t.number) f.opener.answers);
  target = subst (λ (d : Option Due). FromOpener own known old.name old.o.cell reader (is_over old.t) old.t.unread d) (sym next)
      (from_any own known old.name old.o.cell reader reader (is_over old.t) (is_over old.t) old.t.unread old.t.unread (writes_at one old.o.cell old.o.number) None
      (λ p. asked_as (own p) known old.name reader reader (is_over old.t) (is_over old.t) old.t.unread old.t.unread (writes_at one old.o.cell old.o.number) None tt (none_due reader (is_over old.t) old.t.unread (writes_at one old.o.cell old.o.number))) f.target);
} where
  reader : Option Reader
  reader = reads_at readers expected.Request old.t.cell old.t.number

  same : writes_at two old.t.cell old.t.number ≡ writes_at one old.t.cell old.t.number
  same = writes_elsewhere place sock one two old.t m.else not

  next : writes_at two old.o.cell old.o.number ≡ None
  next = writes_there place sock two old.o mine ∙ m.now

closed_target : (own : ℕ → ℕ → Address) (known : Names) (readers : ℕ → ℕ → Option Reader) (one two : ℕ → ℕ → Option Due) (place sock : ℕ) (old : WorldSocket) → Moves place sock one two None → is_end_of place sock old.t ≡ true → is_end_of place sock old.o ≡ false → BothFlow own known readers one old → BothFlow own known readers two (with_end T (ended old.t) old)
closed_target own known readers one two place sock old m mine not f = record {
  opener = subst (λ (d : Option Due). ToOpener (reads_at readers expected.Answer old.o.cell old.o.number) (is_over old.o) old.o.unread d) (sym next)
      (record { answers = tt; flows = none_due (reads_at readers expected.Answer old.o.cell old.o.number) (is_over old.o) old.o.unread (writes_at one old.t.cell old.t.number) f.opener.flows });
  target = subst (λ (d : Option Due). FromOpener own known old.name old.o.cell reader true [] d) (sym same)
      (from_any own known old.name old.o.cell reader reader (is_over old.t) true old.t.unread [] due due (λ p. asked_still (own p) known old.name reader reader (is_over old.t) true old.t.unread [] due (λ x. over_flows reader [] due)) f.target);
} where
  reader : Option Reader
  reader = reads_at readers expected.Request old.t.cell old.t.number

  due : Option Due
  due = writes_at one old.o.cell old.o.number

  same : writes_at two old.o.cell old.o.number ≡ due
  same = writes_elsewhere place sock one two old.o m.else not

  next : writes_at two old.t.cell old.t.number ≡ None
  next = writes_there place sock two old.t mine ∙ m.now

-- ---- a socket is dialed

-- what is read first at an end that is dialed, where it is read
abbrev pub ReadsFirst : Option Reader → Type 0
ReadsFirst None = Unit {0}
ReadsFirst (Some reader) = (reader.0 ≡ expected.Answer) × (reader.1 ≡ [])

-- an answer is due at a target that comes, and nothing where none will
abbrev AnswersNext : Option Due → Type 0
AnswersNext None = Unit {0}
AnswersNext (Some Answering) = Unit {0}
AnswersNext due = ⊥

no_answer_yet : (reader : Option Reader) (due : Option Due) → ReadsFirst reader → AnswersNext due → ToOpener reader false [] due
no_answer_yet None None r a = record { answers = tt; flows = tt }
no_answer_yet None (Some Answering) r a = record { answers = tt; flows = tt }
no_answer_yet (Some reader) None r a = record { answers = tt; flows = record { items = []; whole = ap (λ (l : List ℕ). l ++ []) r.1; each = tt; next = tt } }
no_answer_yet (Some reader) (Some Answering) r a = record { answers = tt; flows = record { items = []; whole = ap (λ (l : List ℕ). l ++ []) r.1; each = tt; next = r.0 } }
no_answer_yet reader (Some (Asking end peer)) r a = absurd a
no_answer_yet reader (Some Framing) r a = absurd a

nothing_sent : (readers : ℕ → ℕ → Option Reader) (c : Option ℕ) (end : ℕ) (peer : Address) → Flows (reads_at readers expected.Request (target_end c).cell (target_end c).number) (is_over (target_end c)) (target_end c).unread (Some (Asking end peer))
nothing_sent readers None end peer = tt
nothing_sent readers (Some p) end peer = record { items = []; whole = refl; each = tt; next = refl }

answers_next : (dues : ℕ → ℕ → Option Due) (c : Option ℕ) → AnswersNext (writes_at dues (target_end c).cell (target_end c).number)
answers_next dues None = tt
answers_next dues (Some p) = tt

dialed_flow : (own : ℕ → ℕ → Address) (readers : ℕ → ℕ → Option Reader) (one two : ℕ → ℕ → Option Due) (place sock end : ℕ) (from_host : List ℕ) (peer at : Address) (world : World) → Distinct world.sockets → EachFound world.sockets → find_end place sock world.sockets ≡ None
    → find (is_socket_named (new_socket world (called world.names at) (called world.names peer) from_host (end_of_nobody (Some place) (Some sock) Pending) peer).name) world.sockets ≡ None
    → Moves place sock one two (Some (Asking end peer)) → ReadsFirst (readers place sock) → at ≡ own place end → AllFlow own world.names readers one world.sockets
    → AllFlow own world.names readers two (store_in (new_socket world (called world.names at) (called world.names peer) from_host (end_of_nobody (Some place) (Some sock) Pending) peer) world.sockets)
dialed_flow own readers one two place sock end from_host peer at world apart each free none m first own_is all = stored_flow own world.names readers two new world.sockets
    (record { opener = no_answer_yet (readers place sock) (writes_at two new.t.cell new.t.number) first (answers_next two (cell_of world peer)); target = target })
    (λ s socket h f. none_there own world.names readers one two place sock world.sockets each m.else free all s socket f)
  where
    new : WorldSocket
    new = new_socket world (called world.names at) (called world.names peer) from_host (end_of_nobody (Some place) (Some sock) Pending) peer

    asks : (e : ℕ) (p : Address) → ◌≡◌ {A = Option Due} (Some (Asking end peer)) (Some (Asking e p)) → (e ≡ end) × (p ≡ peer)
    asks e p h = (ap end_in (sym h), ap peer_in (sym h)) where
      end_in : Option Due → ℕ
      end_in (Some (Asking e p)) = e
      end_in due = end

      peer_in : Option Due → Address
      peer_in (Some (Asking e p)) = p
      peer_in due = peer

    target : ToTarget (own place) world.names new.name (reads_at readers expected.Request new.t.cell new.t.number) (is_over new.t) new.t.unread (two place sock)
    target = record {
      asker = end;
      asked = peer;
      from = ap (called world.names) (sym own_is);
      to = refl;
      asks = λ e p h. asks e p (sym m.now ∙ h);
      flows = λ r. subst (λ (d : Option Due). Flows (reads_at readers expected.Request new.t.cell new.t.number) (is_over new.t) new.t.unread d) (sym m.now) (nothing_sent readers (cell_of world peer) end peer);
    }

-- ---- each step

-- what a step needs: it writes what is due, and a socket that it dials is new, and has nothing to read but an answer
pub record MaySay (own : ℕ → ℕ → Address) (readers : ℕ → ℕ → Option Reader) (dues : ℕ → ℕ → Option Due) (place : ℕ) (step : Step) (sockets : List WorldSocket) : Type 0 where
  pub new : (n : ℕ) → IsNewTo n step (stage_held place n sockets)
  pub due : (n : ℕ) → WritesDue (own place) n step (dues place n)
  pub first : (n : ℕ) → stage_held place n sockets ≡ None → ReadsFirst (readers place n)

pub at_end_flow : (P : World → Type 0) (place sock : ℕ) (f : SockName × End → World → List Entry × World) (world : World) → ((at : SockName × End) → find_end place sock world.sockets ≡ Some at → P (f at world).1) → (find_end place sock world.sockets ≡ None → P world) → P (on_end place sock f world).1
at_end_flow P place sock f world some none = by_end (find_end place sock world.sockets) refl where
  by_end : (o : Option (SockName × End)) → find_end place sock world.sockets ≡ o → P (elim o as (λ o. List Entry × World) [
    | None ↦ ([], world)
    | Some at ↦ f at world
  ]).1
  by_end None e = none e
  by_end (Some at) e = some at e

same_still : (own : ℕ → ℕ → Address) (known : Names) (readers : ℕ → ℕ → Option Reader) (dues : ℕ → ℕ → Option Due) (e : End) (old : WorldSocket) → BothFlow own known readers dues old → BothFlow own known readers dues (with_end e (record (end_of e old) { places = later_places (end_of e old).places }) old)
same_still own known readers dues O old f = record { opener = f.opener; target = f.target }
same_still own known readers dues T old f = record { opener = f.opener; target = f.target }

closed_flow : (own : ℕ → ℕ → Address) (readers : ℕ → ℕ → Option Reader) (one two : ℕ → ℕ → Option Due) (place sock : ℕ) (at : SockName × End) (world : World) → Distinct world.sockets → EachFound world.sockets → find_end place sock world.sockets ≡ Some at → Moves place sock one two None → AllFlow own world.names readers one world.sockets → AllFlow own world.names readers two (with_end_of at.0 at.1 ended world).sockets
closed_flow own readers one two place sock at world apart each e m all = end_flow own world.names readers two at.0 at.1 ended world closed (other_there own world.names readers one two place sock world.sockets at each m.else e all) where
  closed : (old : WorldSocket) → find (is_socket_named at.0) world.sockets ≡ Some old → BothFlow own world.names readers two (with_end at.1 (ended (end_of at.1 old)) old)
  closed old is = by_which at.1 (found_is place sock world.sockets at old apart e is) (other_end_there place sock world.sockets at old O each e is) (other_end_there place sock world.sockets at old T each e is) where
    by_which : (w : End) → is_end_of place sock (end_of w old) ≡ true → (same_end w O ≡ false → is_end_of place sock old.o ≡ false) → (same_end w T ≡ false → is_end_of place sock old.t ≡ false) → BothFlow own world.names readers two (with_end w (ended (end_of w old)) old)
    by_which O mine o t = closed_opener own world.names readers one two place sock old m mine (t refl) (all at.0 old is)
    by_which T mine o t = closed_target own world.names readers one two place sock old m mine (o refl) (all at.0 old is)

pub step_flow : (own : ℕ → ℕ → Address) (readers : ℕ → ℕ → Option Reader) (dues : ℕ → ℕ → Option Due) (journal : List Line) (log : List Entry) (place : ℕ) (cell : Cell) (step : Step) (world : World) → Sorted journal log world → EachFound world.sockets → ((end : ℕ) → own_address cell.host end ≡ own place end)
    → MaySay own readers dues place step world.sockets → AllFlow own world.names readers dues world.sockets → AllFlow own world.names readers (moved place step dues) (stepped place cell step world).1.sockets
step_flow own readers dues journal log place cell (steps.Dial sock end peer) world g each own_is may all = dialed_flow own readers dues (moved place (steps.Dial sock end peer) dues) place sock end cell.host.host peer (own_address cell.host end) world g.0.apart each free
    (next_is_new world (called world.names (own_address cell.host end)) (called world.names peer) g.0.numbered)
    (record { else = λ p n h. only_there place p sock n (Some (Asking end peer)) (dues p n) h; now = here place sock (Some (Asking end peer)) (dues place sock) }) (may.first sock none) (own_is end) all
  where
    none : stage_held place sock world.sockets ≡ None
    none = may.new sock (number_same sock)

    free : find_end place sock world.sockets ≡ None
    free = none_found place sock world.sockets none
step_flow own readers dues journal log place cell (steps.Read sock) world g each own_is may all = at_end_flow (λ w. AllFlow own world.names readers two w.sockets) place sock reads_item world (λ at e. by_socket at (find (is_socket_named at.0) world.sockets)) (λ e. still) where
  two : ℕ → ℕ → Option Due
  two = moved place (steps.Read sock) dues

  still : AllFlow own world.names readers two world.sockets
  still = all_as own world.names readers dues two world.sockets (λ p n. either (place == p) (dues p n)) all

  by_socket : (at : SockName × End) (o : Option WorldSocket) → AllFlow own world.names readers two (item_is_read at o world).sockets
  by_socket at None = still
  by_socket at (Some socket) = end_flow own world.names readers two at.0 at.1 (λ end. record end { places = later_places end.places }) world (λ old is. same_still own world.names readers two at.1 old (still at.0 old is)) (λ t socket h is. still t socket is)
step_flow own readers dues journal log place cell (steps.Write sock bytes said) world g each own_is may all = at_end_flow (λ w. AllFlow own world.names readers two w.sockets) place sock (λ at now. (entries.Wrote at.0 at.1 bytes ∷ [], with_end_of at.0 (other at.1) (item_arrives bytes said) now)) world
    (λ at e. end_flow own world.names readers two at.0 (other at.1) (item_arrives bytes said) world (λ old is. written at e old is) (other_there own world.names readers dues two place sock world.sockets at each m.else e all))
    (λ e. none_there own world.names readers dues two place sock world.sockets each m.else e all)
  where
    two : ℕ → ℕ → Option Due
    two = moved place (steps.Write sock bytes said) dues

    m : Moves place sock dues two (due_past bytes (dues place sock))
    m = record { else = λ p n h. only_there place p sock n (due_past bytes (dues p n)) (dues p n) h; now = here place sock (due_past bytes (dues place sock)) (dues place sock) }

    written : (at : SockName × End) → find_end place sock world.sockets ≡ Some at → (old : WorldSocket) → find (is_socket_named at.0) world.sockets ≡ Some old → BothFlow own world.names readers two (with_end (other at.1) (item_arrives bytes said (end_of (other at.1) old)) old)
    written at e old is = by_which at.1 (found_is place sock world.sockets at old g.0.apart e is) (other_end_there place sock world.sockets at old O each e is) (other_end_there place sock world.sockets at old T each e is) where
      by_which : (w : End) → is_end_of place sock (end_of w old) ≡ true → (same_end w O ≡ false → is_end_of place sock old.o ≡ false) → (same_end w T ≡ false → is_end_of place sock old.t ≡ false) → BothFlow own world.names readers two (with_end (other w) (item_arrives bytes said (end_of (other w) old)) old)
      by_which O mine o t = written_by_opener own world.names readers dues two place sock bytes said old m (may.due sock (number_same sock)) mine (t refl) (all at.0 old is)
      by_which T mine o t = written_by_target own world.names readers dues two place sock bytes said old m (may.due sock (number_same sock)) mine (o refl) (all at.0 old is)
step_flow own readers dues journal log place cell (steps.Up sock) world g each own_is may all = at_end_flow (λ w. AllFlow own world.names readers (moved place (steps.Up sock) dues) w.sockets) place sock (λ at now. (entries.Up at.0 at.1 ∷ [], now)) world (λ at e. still) (λ e. still) where
  still : AllFlow own world.names readers (moved place (steps.Up sock) dues) world.sockets
  still = all_as own world.names readers dues (moved place (steps.Up sock) dues) world.sockets (λ p n. either (place == p) (dues p n)) all
step_flow own readers dues journal log place cell (steps.Down sock) world g each own_is may all = at_end_flow (λ w. AllFlow own world.names readers (moved place (steps.Down sock) dues) w.sockets) place sock (λ at now. (entries.Down at.0 at.1 ∷ [], end_closes at now)) world
    (λ at e. closed_flow own readers dues (moved place (steps.Down sock) dues) place sock at world g.0.apart each e m all) (λ e. none_there own world.names readers dues (moved place (steps.Down sock) dues) place sock world.sockets each m.else e all)
  where
    m : Moves place sock dues (moved place (steps.Down sock) dues) None
    m = record { else = λ p n h. only_there place p sock n None (dues p n) h; now = here place sock None (dues place sock) }
step_flow own readers dues journal log place cell (steps.Left sock) world g each own_is may all = at_end_flow (λ w. AllFlow own world.names readers (moved place (steps.Left sock) dues) w.sockets) place sock (λ at now. (entries.Left at.0 at.1 ∷ [], end_closes at now)) world
    (λ at e. closed_flow own readers dues (moved place (steps.Left sock) dues) place sock at world g.0.apart each e m all) (λ e. none_there own world.names readers dues (moved place (steps.Left sock) dues) place sock world.sockets each m.else e all)
  where
    m : Moves place sock dues (moved place (steps.Left sock) dues) None
    m = record { else = λ p n h. only_there place p sock n None (dues p n) h; now = here place sock None (dues place sock) }
step_flow own readers dues journal log place cell (steps.Broke end peer why) world g each own_is may all = all_as own world.names readers dues (moved place (steps.Broke end peer why) dues) world.sockets (λ p n. either (place == p) (dues p n)) all
step_flow own readers dues journal log place cell (steps.Post end event) world g each own_is may all = all_as own world.names readers dues (moved place (steps.Post end event) dues) world.sockets (λ p n. either (place == p) (dues p n)) all
