-- An opener's end is cut where the log cuts it, and has nothing unread where it has ended: also where its dial was refused.
use Rattle.std.proofs.Common.{◌≡◌, ℕ, zero, suc, Bool, true, false, cond, not, Ok, ◌&&◌, ◌||◌, List, [], ◌∷◌, ◌++◌, length, take, drop, refl, sym, ap, ◌∙◌, subst}
use Rattle.std.proofs.lemmas.List.Folds.{list_any-append}
use Rattle.std.specs.List.{list_any}
use Rattle.std.specs.Prelude.{find, Option, Some, None}
use Rattle.ch_model.specs.declared.entry.Entry.{Entry}
use Rattle.ch_model.specs.declared.entry.Entry.TheVariants as entries
use Rattle.ch_model.specs.declared.line.Line.{Line}
use Rattle.ch_model.specs.declared.name.End.{End}
use Rattle.ch_model.specs.declared.name.End.TheVariants.{O, T}
use Rattle.ch_model.specs.declared.name.SockName.{SockName}
use Rattle.ch_model.specs.declared.note.Note.{Note}
use Rattle.ch_model.specs.declared.note.Note.TheVariants as notes
use Rattle.ch_model.specs.declared.step.Place.{Place}
use Rattle.ch_model.specs.declared.step.Step.{Step}
use Rattle.ch_model.specs.declared.step.Step.TheVariants as steps
use Rattle.ch_model.specs.AnswersEntries.{refuses}
use Rattle.ch_model.specs.HostSteps.{own_address}
use Rattle.ch_model.specs.Logs.{some_and}
use Rattle.ch_model.specs.Naming.{Names, called}
use Rattle.ch_model.specs.Same.{same_socket}
use Rattle.ch_model.specs.Sockets.{is_opening, opens_opener, ends_opener, closes, cuts, end_state, is_cut, written, fed, unclosed_state}
use Rattle.ch_model.specs.Stages.{Stage, Pending, Open, Ended, is_ended}
use Rattle.ch_model.specs.World.{world_new, log_from}
use Rattle.ch_model.specs.WorldSockets.{end_of, other, with_end, ended, cut, opened, arrives, item_arrives, end_of_nobody, is_socket_named, store_in, with_socket, with_end_of, find_end, new_socket}
use Rattle.ch_model.specs.WorldState.{Cell, WorldEnd, WorldSocket, World}
use Rattle.ch_model.specs.WorldSteps.{note_entry, on_end, reads_item, end_closes, stepped}
use Rattle.ch_laws_log.specs.Agrees.{IsAsTold}
use Rattle.ch_laws_log.proofs.Agreeing.{Good, AnyCount, keeps_good}
use Rattle.ch_laws_log.proofs.Kept.{IsIn, Keeps, stranger_socket}
use Rattle.ch_laws_log.proofs.Seen.{opened_is}
use Rattle.ch_laws_log.proofs.Stored.{same_is, self_same, find_stored, next_is_new}
use Rattle.ch_laws_log.proofs.Told.{fresh, any_allowed, holds_after, fits_after, opener_as_told}
use Rattle.ch_laws_ends.proofs.Changes.{IsEmptied, StepChanges, OnDial, step_as}
use Rattle.ch_laws_ends.proofs.Found.{new_name}
use Rattle.ch_laws_ends.proofs.Over.{none_stored, or_not}
use Rattle.ch_laws_ends.proofs.Told.{Sure}

-- the opener's end is cut as that says, and nothing is unread where it has ended
abbrev pub IsMirrored : Bool → WorldSocket → Type 0
IsMirrored gone socket = (gone ≡ socket.o.is_cut) × IsEmptied socket.o

-- each opener's end is cut where that says so, and what isn't there isn't cut
pub record Mirrored (gone : SockName → Bool) (sockets : List WorldSocket) : Type 0 where
  pub each : (s : SockName) (socket : WorldSocket) → find (is_socket_named s) sockets ≡ Some socket → IsMirrored (gone s) socket
  pub none : (s : SockName) → find (is_socket_named s) sockets ≡ None → gone s ≡ false

-- where the log cuts an opener's end
abbrev pub cut_in : List Entry → SockName → Bool
cut_in log s = is_cut log s O

same_cut : (before after : SockName → Bool) (sockets : List WorldSocket) → ((s : SockName) → after s ≡ before s) → Mirrored before sockets → Mirrored after sockets
same_cut before after sockets same m = record {
  each = λ s socket f. subst (λ (b : Bool). IsMirrored b socket) (sym (same s)) (m.each s socket f);
  none = λ s f. same s ∙ m.none s f;
}

stored_cut : (before after : SockName → Bool) (new : WorldSocket) (sockets : List WorldSocket) → IsMirrored (after new.name) new → ((s : SockName) → same_socket new.name s ≡ false → after s ≡ before s) → Mirrored before sockets → Mirrored after (store_in new sockets)
stored_cut before after new sockets own same m = record {
  each = λ s socket f. by_name s socket (same_socket new.name s) refl (sym (find_stored new sockets s) ∙ f);
  none = λ s f. let gone = none_stored new sockets s f in same s gone.0 ∙ m.none s gone.1;
} where
  by_name : (s : SockName) (socket : WorldSocket) (b : Bool) → same_socket new.name s ≡ b → cond b (Some new) (find (is_socket_named s) sockets) ≡ Some socket → IsMirrored (after s) socket
  by_name s socket true h f = let is : new ≡ socket = cc in subst (λ (w : WorldSocket). IsMirrored (after s) w) is (subst (λ (n : SockName). IsMirrored (after n) new) (same_is new.name s h) own)
  by_name s socket false h f = subst (λ (b : Bool). IsMirrored b socket) (sym (same s h)) (m.each s socket f)

end_cut : (before after : SockName → Bool) (s : SockName) (e : End) (f : WorldEnd → WorldEnd) (world : World) → ((old : WorldSocket) → find (is_socket_named s) world.sockets ≡ Some old → IsMirrored (before s) old → IsMirrored (after s) (with_end e (f (end_of e old)) old)) → ((n : SockName) → same_socket s n ≡ false → after n ≡ before n)
    → (find (is_socket_named s) world.sockets ≡ None → after s ≡ before s) → Mirrored before world.sockets → Mirrored after (with_end_of s e f world).sockets
end_cut before after s e f world own same absent m = by_socket (find (is_socket_named s) world.sockets) refl where
  all_same : find (is_socket_named s) world.sockets ≡ None → (n : SockName) (b : Bool) → same_socket s n ≡ b → after n ≡ before n
  all_same none n true h = subst (λ (k : SockName). after k ≡ before k) (same_is s n h) (absent none)
  all_same none n false h = same n h

  by_socket : (found : Option WorldSocket) → find (is_socket_named s) world.sockets ≡ found → Mirrored after (elim found as (λ o. World) [
    | None ↦ world
    | Some socket ↦ with_socket (with_end e (f (end_of e socket)) socket) world
  ]).sockets
  by_socket None is = same_cut before after world.sockets (λ n. all_same is n (same_socket s n) refl) m
  by_socket (Some old) is = stored_cut before after new world.sockets (subst (λ (n : SockName). IsMirrored (after n) new) (sym named) (own old is (m.each s old is)))
      (λ n h. same n (subst (λ (k : SockName). same_socket k n ≡ false) named h)) m where
        new : WorldSocket
        new = with_end e (f (end_of e old)) old

        named : new.name ≡ s
        named = new_name s e (f (end_of e old)) world.sockets old is

-- where the log cuts no opener's end, one end is changed
quiet_cut : (log : List Entry) (entry : Entry) (s : SockName) (e : End) (f : WorldEnd → WorldEnd) (world : World) → ((n : SockName) → cuts n O entry ≡ false) → ((old : WorldSocket) (b : Bool) → find (is_socket_named s) world.sockets ≡ Some old → IsMirrored b old → IsMirrored b (with_end e (f (end_of e old)) old)) → Mirrored (cut_in log) world.sockets → Mirrored (cut_in (log ++ entry ∷ [])) (with_end_of s e f world).sockets
quiet_cut log entry s e f world quiet own m = same_cut (cut_in log) (cut_in (log ++ entry ∷ [])) (with_end_of s e f world).sockets same (end_cut (cut_in log) (cut_in log) s e f world (λ old is. own old (cut_in log s) is) (λ n h. refl) (λ none. refl) m) where
  same : (n : SockName) → cut_in (log ++ entry ∷ []) n ≡ cut_in log n
  same n = list_any-append (cuts n O) log (entry ∷ []) ∙ ap (λ b. cut_in log n || (b || false)) (quiet n) ∙ or_not (cut_in log n)

-- the log tells what cuts no opener's end, and nothing is changed
noted_cut : (log told : List Entry) (sockets : List WorldSocket) → ((n : SockName) → list_any (cuts n O) told ≡ false) → Mirrored (cut_in log) sockets → Mirrored (cut_in (log ++ told)) sockets
noted_cut log told sockets quiet m = same_cut (cut_in log) (cut_in (log ++ told)) sockets (λ n. list_any-append (cuts n O) log told ∙ ap (λ b. cut_in log n || b) (quiet n) ∙ or_not (cut_in log n)) m

-- ---- steps

on_end_uncut : (s : SockName) (place sock : ℕ) (f : SockName × End → World → List Entry × World) (world : World) → ((at : SockName × End) → list_any (cuts s O) (f at world).0 ≡ false) → list_any (cuts s O) (on_end place sock f world).0 ≡ false
on_end_uncut s place sock f world each = by_end (find_end place sock world.sockets) where
  by_end : (o : Option (SockName × End)) → list_any (cuts s O) (elim o as (λ o. List Entry × World) [
    | None ↦ ([], world)
    | Some at ↦ f at world
  ]).0 ≡ false
  by_end None = refl
  by_end (Some at) = each at

note_uncut : (s : SockName) (known : Names) (last : Option Place) (note : Note) → list_any (cuts s O) (note_entry known last note ∷ []) ≡ false
note_uncut s known last (notes.Made process origin) = refl
note_uncut s known last note = refl

step_uncut : (s : SockName) (place : ℕ) (cell : Cell) (step : Step) (world : World) → list_any (cuts s O) (stepped place cell step world).0 ≡ false
step_uncut s place cell (steps.Dial sock end peer) world = refl
step_uncut s place cell (steps.Read sock) world = on_end_uncut s place sock reads_item world (λ at. refl)
step_uncut s place cell (steps.Write sock bytes said) world = on_end_uncut s place sock (λ at now. (entries.Wrote at.0 at.1 bytes ∷ [], with_end_of at.0 (other at.1) (item_arrives bytes said) now)) world (λ at. refl)
step_uncut s place cell (steps.Up sock) world = on_end_uncut s place sock (λ at now. (entries.Up at.0 at.1 ∷ [], now)) world (λ at. refl)
step_uncut s place cell (steps.Down sock) world = on_end_uncut s place sock (λ at now. (entries.Down at.0 at.1 ∷ [], end_closes at now)) world (λ at. refl)
step_uncut s place cell (steps.Left sock) world = on_end_uncut s place sock (λ at now. (entries.Left at.0 at.1 ∷ [], end_closes at now)) world (λ at. refl)
step_uncut s place cell (steps.Broke end peer why) world = refl
step_uncut s place cell (steps.Post end event) world = refl

change_cut : (gone : SockName → Bool) (s : SockName) (e : End) (f : WorldEnd → WorldEnd) (world : World) → StepChanges f → Mirrored gone world.sockets → Mirrored gone (with_end_of s e f world).sockets
change_cut gone s e f world c m = end_cut gone gone s e f world (λ old is k. by_end e old k) (λ n h. refl) (λ none. refl) m where
  by_end : (a : End) (old : WorldSocket) {b : Bool} → IsMirrored b old → IsMirrored b (with_end a (f (end_of a old)) old)
  by_end O old k = (k.0 ∙ sym (c.cut old.o), c.emptied old.o k.1)
  by_end T old k = k

-- a new socket's opener's end isn't cut, and hasn't ended
new_cut : (gone : SockName → Bool) (new : WorldSocket) (sockets : List WorldSocket) → find (is_socket_named new.name) sockets ≡ None → new.o.is_cut ≡ false → is_ended new.o.stage ≡ false → Mirrored gone sockets → Mirrored gone (store_in new sockets)
new_cut gone new sockets absent whole stands m = stored_cut gone gone new sockets (m.none new.name absent ∙ sym whole, λ e. absurd cc) (λ s h. refl) m

dial_cut : (journal : List Line) (gone : SockName → Bool) (log : List Entry) (place : ℕ) (cell : Cell) (step : Step) (world : World) → Good journal log world → Mirrored gone world.sockets → OnDial (λ w. Mirrored gone w.sockets) place cell step world
dial_cut journal gone log place cell (steps.Dial sock end peer) world g m = new_cut gone (new_socket world (called world.names (own_address cell.host end)) (called world.names peer) cell.host.host (end_of_nobody (Some place) (Some sock) Pending) peer) world.sockets
    (next_is_new world (called world.names (own_address cell.host end)) (called world.names peer) g.numbered) refl refl m
dial_cut journal gone log place cell step world g m = tt

-- ---- all of it

abbrev pub WithCuts : List Line → List Entry → World → Type 0
WithCuts journal log world = Good journal log world × Mirrored (cut_in log) world.sockets

opened_mirrored : (old : WorldSocket) (b : Bool) → IsMirrored b old → IsMirrored b (with_end O (opened old.o) old)
opened_mirrored old b k = (k.0, λ e. absurd cc)

dropped : (count : ℕ) (left : List ℕ) → left ≡ [] → drop count left ≡ []
dropped count left e = ap (drop count) e ∙ none count where
  none : (n : ℕ) → ◌≡◌ {A = List ℕ} (drop n []) []
  none zero = refl
  none (suc n) = refl

fed_mirrored : (which : End) (count : ℕ) (old : WorldSocket) (b : Bool) → IsMirrored b old → IsMirrored b (with_end which (record (end_of which old) { unread = drop count (end_of which old).unread }) old)
fed_mirrored O count old b k = (k.0, λ e. dropped count old.o.unread (k.1 e))
fed_mirrored T count old b k = k

was_cut_so : (log : List Entry) (world : World) (socket : WorldSocket) (which : End) → IsIn socket world → Mirrored (cut_in log) world.sockets → Mirrored (cut_in (log ++ entries.Cut socket.name which ∷ [])) (with_end_of socket.name which cut world).sockets
was_cut_so log world socket O is m = end_cut (cut_in log) (cut_in more) socket.name O cut world (λ old is k. (now_cut socket.name (self_same socket.name), λ e. refl)) (λ n h. now n ∙ ap (λ b. cut_in log n || (b && true || false)) h ∙ or_not (cut_in log n)) (λ none. absurd cc) m where
  more : List Entry
  more = log ++ entries.Cut socket.name O ∷ []

  now : (n : SockName) → cut_in more n ≡ (cut_in log n || (same_socket socket.name n && true || false))
  now n = list_any-append (cuts n O) log (entries.Cut socket.name O ∷ [])

  or_always : (b : Bool) → (b || true) ≡ true
  or_always true = refl
  or_always false = refl

  now_cut : (n : SockName) → same_socket socket.name n ≡ true → cut_in more n ≡ true
  now_cut n h = now n ∙ ap (λ b. cut_in log n || (b && true || false)) h ∙ or_always (cut_in log n)
was_cut_so log world socket T is m = quiet_cut log (entries.Cut socket.name T) socket.name T cut world (λ n. never (same_socket socket.name n)) (λ old b is k. k) m where
  never : (b : Bool) → (b && false) ≡ false
  never true = refl
  never false = refl

pub keeps_cuts : (journal : List Line) → Keeps (Unit {0}) AnyCount (WithCuts journal)
keeps_cuts journal = record {
  whole = λ left. tt;
  distinct = λ log world g. g.0.apart;
  cell = λ log world place cell g. ((keeps_good journal).cell log world place cell g.0, g.1);
  mark = λ log world number answer g. ((keeps_good journal).mark log world number answer g.0, noted_cut log (entries.Line number answer ∷ []) world.sockets (λ n. refl) g.1);
  settled = λ log world g. ((keeps_good journal).settled log world g.0, noted_cut log (entries.Settled ∷ []) world.sockets (λ n. refl) g.1);
  note = λ log world note g. ((keeps_good journal).note log world note g.0, noted_cut log (note_entry world.names world.last note ∷ []) world.sockets (λ n. note_uncut n world.names world.last note) g.1);
  step = λ log world place cell step g. (
    (keeps_good journal).step log world place cell step g.0,
    noted_cut log (stepped place cell step world).0 (stepped place cell step world).1.sockets (λ n. step_uncut n place cell step world)
        (step_as (λ w. Mirrored (cut_in log) w.sockets) (λ one two c s k. subst (λ (l : List WorldSocket). Mirrored (cut_in log) l) (sym s) k) place cell step world (dial_cut journal (cut_in log) log place cell step world g.0 g.1) (λ s e f c. change_cut (cut_in log) s e f world c g.1) g.1),
  );
  joined = λ log world socket is p g. ((keeps_good journal).joined log world socket is p g.0, quiet_cut log (entries.Joined socket.name) socket.name O opened world (λ n. refl) (λ old b f. opened_mirrored old b) g.1);
  refused = λ r log world socket is p g. ((keeps_good journal).refused r log world socket is p g.0, noted_cut log (entries.Refused socket.name ∷ []) world.sockets (λ n. refl) g.1);
  came = λ log world socket number is p g. ((keeps_good journal).came log world socket number is p g.0, quiet_cut log (entries.Came socket.name) socket.name T (λ end. record (opened end) { number = Some number }) world (λ n. refl) (λ old b f k. k) g.1);
  came_nowhere = λ log world socket place is at none g. ((keeps_good journal).came_nowhere log world socket place is at none g.0, noted_cut log (entries.Came socket.name ∷ []) world.sockets (λ n. refl) g.1);
  fed = λ log world socket which count is stands input w g. ((keeps_good journal).fed log world socket which count is stands input w g.0, quiet_cut log (entries.Fed socket.name which (length (take count (end_of which socket).unread))) socket.name which (λ end. record end { unread = drop count end.unread }) world (λ n. refl) (λ old b f. fed_mirrored which count old b) g.1);
  lost = λ log world socket which g. ((keeps_good journal).lost log world socket which g.0, noted_cut log (entries.Lost socket.name which ∷ []) world.sockets (λ n. refl) g.1);
  timed = λ log world node peer g. ((keeps_good journal).timed log world node peer g.0, noted_cut log (entries.Timed node peer ∷ []) world.sockets (λ n. refl) g.1);
  was_cut = λ log world socket which is g. ((keeps_good journal).was_cut log world socket which is g.0, was_cut_so log world socket which is g.1);
  knocked = λ log world stranger node g. ((keeps_good journal).knocked log world stranger node g.0, noted_cut log (entries.Knocked (stranger_socket stranger node world).name ∷ []) (with_socket (stranger_socket stranger node world) world).sockets (λ n. refl) (new_cut (cut_in log) (stranger_socket stranger node world) world.sockets (next_is_new world stranger node g.0.numbered) refl refl g.1));
  poked = λ log world socket bytes is g. ((keeps_good journal).poked log world socket bytes is g.0, quiet_cut log (entries.Poked socket.name bytes) socket.name T (arrives bytes) world (λ n. refl) (λ old b f k. k) g.1);
  quitted = λ log world socket is g. ((keeps_good journal).quitted log world socket is g.0, quiet_cut log (entries.Quitted socket.name) socket.name O ended world (λ n. refl) (λ old b f k. (k.0, λ e. refl)) g.1);
}

pub no_cuts : (journal : List Line) → WithCuts journal [] (world_new journal)
no_cuts journal = (fresh journal, record { each = λ s socket f. absurd cc; none = λ s f. refl })

pub cuts_after : (journal lines : List Line) (log : List Entry) (world : World) → log_from (world_new journal) lines ≡ Ok (log, world) → Mirrored (cut_in log) world.sockets
cuts_after journal lines log world is = (holds_after (WithCuts journal) (keeps_cuts journal) journal lines (any_allowed lines) (no_cuts journal) log world is).1

-- ---- an opener's end is as the log tells

-- a refused dial ends the opener's end in the log
refused_ends : (s : SockName) (log : List Entry) → list_any (refuses s) log ≡ true → list_any (ends_opener s) log ≡ true
refused_ends s [] e = absurd cc
refused_ends s (x ∷ log) e = by_entry (refuses s x) refl e (refused_ends s log) where
  its_own : (x : Entry) → refuses s x ≡ true → ends_opener s x ≡ true
  its_own (entries.Refused sock) h = h
  its_own (entries.Quitted sock) h = absurd cc
  its_own x h = absurd cc

  or_true : (a : Bool) → (a || true) ≡ true
  or_true true = refl
  or_true false = refl

  by_entry : (b : Bool) → refuses s x ≡ b → (b || list_any (refuses s) log) ≡ true → (list_any (refuses s) log ≡ true → list_any (ends_opener s) log ≡ true) → (ends_opener s x || list_any (ends_opener s) log) ≡ true
  by_entry true h e more = ap (λ b. b || list_any (ends_opener s) log) (its_own x h)
  by_entry false h e more = ap (λ b. ends_opener s x || b) (more e) ∙ or_true (ends_opener s x)

ended_is : (stage : Stage) → is_ended stage ≡ true → stage ≡ Ended
ended_is Ended e = refl
ended_is Pending e = absurd cc
ended_is Open e = absurd cc

-- an opener's end stands as the log tells
pub opener_stands : (journal : List Line) (log : List Entry) (world : World) (s : SockName) (socket : WorldSocket) → Sure journal log world → find (is_socket_named s) world.sockets ≡ Some socket → end_state journal log s O ≡ Some socket.o.stage
opener_stands journal log world s socket sure found = by_refused (list_any (refuses s) log) refl where
  was_opened : list_any (is_opening s) log ≡ true
  was_opened = sym (opened_is log s) ∙ (fits_after journal log world s socket sure.ends.sorted.0 found).is_opened

  either : (b : Bool) → cond b (Some Ended) (Some Ended) ≡ Some Ended
  either true = refl
  either false = refl

  by_refused : (b : Bool) → list_any (refuses s) log ≡ b → end_state journal log s O ≡ Some socket.o.stage
  by_refused false e = (opener_as_told journal log world s socket sure.ends.sorted.0 found e).stage
  by_refused true e = ap (λ b. cond (not b) None (cond (list_any (closes s O) log) (Some Ended) (Some (unclosed_state journal log s O)))) was_opened
      ∙ ap (λ b. cond (list_any (closes s O) log) (Some Ended) (Some (cond b Ended (cond (list_any (opens_opener s) log) Open Pending)))) (refused_ends s log e)
      ∙ either (list_any (closes s O) log) ∙ ap Some (sym (ended_is socket.o.stage (sure.over.have_ended s socket e found)))

pub opener_mirrored : (journal : List Line) (log : List Entry) (world : World) (s : SockName) (socket : WorldSocket) → Mirrored (cut_in log) world.sockets → Sure journal log world → find (is_socket_named s) world.sockets ≡ Some socket → IsAsTold journal log s O socket.o
opener_mirrored journal log world s socket cuts_so sure found = by_refused (list_any (refuses s) log) refl where
  stage : end_state journal log s O ≡ Some socket.o.stage
  stage = opener_stands journal log world s socket sure found

  by_refused : (b : Bool) → list_any (refuses s) log ≡ b → IsAsTold journal log s O socket.o
  by_refused false e = opener_as_told journal log world s socket sure.ends.sorted.0 found e
  by_refused true e = record {
    stage = stage;
    stands = λ test. ap (some_and test) stage;
    cut = mirrored.0;
    unread = ap (λ (o : Option Stage). cond (some_and is_ended o || is_cut log s O) [] (drop (fed log s O) (written log s O))) (stage ∙ ap Some (ended_is socket.o.stage has_ended)) ∙ sym (mirrored.1 has_ended);
  } where
    has_ended : is_ended socket.o.stage ≡ true
    has_ended = sure.over.have_ended s socket e found

    mirrored : IsMirrored (cut_in log s) socket
    mirrored = cuts_so.each s socket found

pub opener_told : (journal lines : List Line) (log : List Entry) (world : World) (s : SockName) (socket : WorldSocket) → log_from (world_new journal) lines ≡ Ok (log, world) → Sure journal log world → find (is_socket_named s) world.sockets ≡ Some socket → IsAsTold journal log s O socket.o
opener_told journal lines log world s socket is sure found = opener_mirrored journal log world s socket (cuts_after journal lines log world is) sure found
