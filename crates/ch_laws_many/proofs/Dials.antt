-- A dial has the number of those before it: the sockets of an opener and a target are the dials of the one to the other.
use Rattle.std.proofs.Common.{◌≡◌, ℕ, ◌+◌, Bool, true, false, cond, ◌&&◌, List, [], ◌∷◌, ◌++◌, length, take, drop, Ok, Err, refl, sym, ap, ◌∙◌, subst, arith}
use Rattle.std.proofs.lemmas.List.{append-nil}
use Rattle.std.specs.List.{fold}
use Rattle.std.specs.Prelude.{find, count_by, Option, Some, None, ◌==◌}
use Rattle.ch_model.specs.declared.entry.Entry.{Entry}
use Rattle.ch_model.specs.declared.entry.Entry.TheVariants as entries
use Rattle.ch_model.specs.declared.line.Line.{Line}
use Rattle.ch_model.specs.declared.name.End.{End}
use Rattle.ch_model.specs.declared.name.End.TheVariants.{O, T}
use Rattle.ch_model.specs.declared.name.SockName.{SockName}
use Rattle.ch_model.specs.declared.note.Note.{Note}
use Rattle.ch_model.specs.declared.note.Note.TheVariants as notes
use Rattle.ch_model.specs.declared.step.Place.{Place}
use Rattle.ch_model.specs.declared.step.Step.{Step}
use Rattle.ch_model.specs.declared.step.Step.TheVariants as steps
use Rattle.ch_model.specs.HostSteps.{own_address}
use Rattle.ch_model.specs.Links.{dials_to, dials_in_order}
use Rattle.ch_model.specs.Logs.{each_after}
use Rattle.ch_model.specs.Naming.{Names, called, same_ends}
use Rattle.ch_model.specs.Same.{same_socket}
use Rattle.ch_model.specs.Settle.{Happened}
use Rattle.ch_model.specs.Stages.{Pending}
use Rattle.ch_model.specs.World.{◌>>=◌, world_new, log_from, log_of}
use Rattle.ch_model.specs.WorldSockets.{end_of, other, ended, cut, opened, arrives, item_arrives, end_of_nobody, is_socket_named, store_in, with_end, with_socket, with_end_of, find_end, next_name, new_socket}
use Rattle.ch_model.specs.WorldState.{Cell, WorldEnd, WorldSocket, World}
use Rattle.ch_model.specs.WorldSteps.{note_entry, on_end, later_places, item_is_read, reads_item, end_closes, stepped}
use Rattle.ch_laws_log.proofs.Agreeing.{with_end_is, name_of_end, Good, AnyCount, keeps_good}
use Rattle.ch_laws_log.proofs.Blocks.{each_append}
use Rattle.ch_laws_log.proofs.Kept.{stranger_socket, Keeps, LedOn, all_led}
use Rattle.ch_laws_log.proofs.Stored.{number_same, same_is, find_name, of_ends, found_end, next_is_new}
use Rattle.ch_laws_log.proofs.Told.{fresh, any_allowed}
use Rattle.ch_laws_many.proofs.Led.{AreCalm, is_calm}
use Rattle.ch_laws_many.proofs.Reached.{IsJournal, all_calm}

-- ---- how many sockets of one to another there are

-- one that is stored in another's place is of the same ends
count_kept : (from to : List ℕ) (n : ℕ) (socket : WorldSocket) (sockets : List WorldSocket) (old : WorldSocket) → find (is_socket_named socket.name) sockets ≡ Some old → fold (λ n w. n + cond (of_ends from to w) 1 0) n (store_in socket sockets) ≡ fold (λ n w. n + cond (of_ends from to w) 1 0) n sockets
count_kept from to n socket [] old e = absurd cc
count_kept from to n socket (known ∷ rest) old e = by_test (same_socket known.name socket.name) refl (count_kept from to (n + cond (of_ends from to known) 1 0) socket rest old) e where
  by_test : (b : Bool) → same_socket known.name socket.name ≡ b
      → (find (is_socket_named socket.name) rest ≡ Some old → fold (λ n w. n + cond (of_ends from to w) 1 0) (n + cond (of_ends from to known) 1 0) (store_in socket rest) ≡ fold (λ n w. n + cond (of_ends from to w) 1 0) (n + cond (of_ends from to known) 1 0) rest)
      → cond b (Some known) (find (is_socket_named socket.name) rest) ≡ Some old
      → fold (λ n w. n + cond (of_ends from to w) 1 0) n (cond b (socket ∷ rest) (known ∷ store_in socket rest)) ≡ fold (λ n w. n + cond (of_ends from to w) 1 0) n (known ∷ rest)
  by_test true h more e = ap (λ (s : SockName). fold (λ n w. n + cond (of_ends from to w) 1 0) (n + cond (same_ends from to s) 1 0) rest) (sym (same_is known.name socket.name h))
  by_test false h more e = more e

-- one that is new comes last
count_new : (from to : List ℕ) (n : ℕ) (socket : WorldSocket) (sockets : List WorldSocket) → find (is_socket_named socket.name) sockets ≡ None → fold (λ n w. n + cond (of_ends from to w) 1 0) n (store_in socket sockets) ≡ fold (λ n w. n + cond (of_ends from to w) 1 0) n sockets + cond (of_ends from to socket) 1 0
count_new from to n socket [] e = refl
count_new from to n socket (known ∷ rest) e = by_test (same_socket known.name socket.name) refl (count_new from to (n + cond (of_ends from to known) 1 0) socket rest) e where
  by_test : (b : Bool) → same_socket known.name socket.name ≡ b
      → (find (is_socket_named socket.name) rest ≡ None → fold (λ n w. n + cond (of_ends from to w) 1 0) (n + cond (of_ends from to known) 1 0) (store_in socket rest) ≡ fold (λ n w. n + cond (of_ends from to w) 1 0) (n + cond (of_ends from to known) 1 0) rest + cond (of_ends from to socket) 1 0)
      → cond b (Some known) (find (is_socket_named socket.name) rest) ≡ None
      → fold (λ n w. n + cond (of_ends from to w) 1 0) n (cond b (socket ∷ rest) (known ∷ store_in socket rest)) ≡ fold (λ n w. n + cond (of_ends from to w) 1 0) n (known ∷ rest) + cond (of_ends from to socket) 1 0
  by_test true h more e = absurd cc
  by_test false h more e = more e

-- there are as many of each two
abbrev SameCount : World → World → Type 0
SameCount world after = (from to : List ℕ) → count_by (of_ends from to) after.sockets ≡ count_by (of_ends from to) world.sockets

same_count : (n : SockName) (e : End) (f : WorldEnd → WorldEnd) (world : World) (old : WorldSocket) → find (is_socket_named n) world.sockets ≡ Some old → SameCount world (with_end_of n e f world)
same_count n e f world old is = subst (λ (w : World). SameCount world w) (sym (with_end_is n e f world old is)) (λ from to. count_kept from to 0 new world.sockets old there) where
  new : WorldSocket
  new = with_end e (f (end_of e old)) old

  there : find (is_socket_named new.name) world.sockets ≡ Some old
  there = subst (λ (m : SockName). find (is_socket_named m) world.sockets ≡ Some old) (sym (name_of_end e (f (end_of e old)) old ∙ find_name n world.sockets old is)) is

-- ---- the dials of a log

fold_end : {A B : Type 0} (f : B → A → B) (a : B) (xs : List A) (y : A) → fold f a (xs ++ y ∷ []) ≡ f (fold f a xs) y
fold_end f a [] y = refl
fold_end f a (z ∷ ys) y = fold_end f (f a z) ys y

count_end : (from to : List ℕ) (log : List Entry) (x : Entry) → count_by (dials_to from to) (log ++ x ∷ []) ≡ count_by (dials_to from to) log + cond (dials_to from to x) 1 0
count_end from to log x = fold_end (λ n y. n + cond (dials_to from to y) 1 0) 0 log x

-- the entry is of a dial
abbrev is_dial : Entry → Bool
is_dial (entries.Dial sock) = true
is_dial entry = false

dials_none : (from to : List ℕ) (x : Entry) → is_dial x ≡ false → dials_to from to x ≡ false
dials_none from to (entries.Dial sock) e = absurd cc
dials_none from to x e = refl

in_order_still : (log : List Entry) (x : Entry) → is_dial x ≡ false → dials_in_order log x ≡ true
in_order_still log (entries.Dial sock) e = absurd cc
in_order_still log x e = refl

note_still : (known : Names) (last : Option Place) (note : Note) → is_dial (note_entry known last note) ≡ false
note_still known last (notes.Made process origin) = refl
note_still known last note = refl

calm_first : (log told : List Entry) → AreCalm (log ++ told) → AreCalm log
calm_first [] told c = tt
calm_first (x ∷ log) told c = (c.0, calm_first log told c.1)

calm_last : (log : List Entry) (x : Entry) → AreCalm (log ++ x ∷ []) → is_calm x ≡ true
calm_last [] x c = c.0
calm_last (y ∷ log) x c = calm_last log x c.1

-- ---- sockets and dials

-- The log agrees with the world; and where nobody knocked, each socket was dialed, in order.
record Counted (journal : List Line) (log : List Entry) (world : World) : Type 0 where
  pub good : Good journal log world
  pub counts : AreCalm log → (from to : List ℕ) → count_by (of_ends from to) world.sockets ≡ count_by (dials_to from to) log
  pub well : AreCalm log → each_after dials_in_order [] log ≡ true

alone : (log : List Entry) (x : Entry) → dials_in_order log x ≡ true → each_after dials_in_order log (x ∷ []) ≡ true
alone log x e = ap (λ b. b && true) e

-- nothing is told
none_more : (journal : List Line) (log : List Entry) (world after : World) → Good journal (log ++ []) after → SameCount world after → Counted journal log world → Counted journal (log ++ []) after
none_more journal log world after g same c = record {
  good = g;
  counts = λ calm from to. same from to ∙ c.counts (calm_first log [] calm) from to ∙ ap (λ (l : List Entry). count_by (dials_to from to) l) (sym (append-nil log));
  well = λ calm. subst (λ (l : List Entry). each_after dials_in_order [] l ≡ true) (sym (append-nil log)) (c.well (calm_first log [] calm));
}

-- no dial is told
one_more : (journal : List Line) (log : List Entry) (world after : World) (x : Entry) → is_dial x ≡ false → Good journal (log ++ x ∷ []) after → SameCount world after → Counted journal log world → Counted journal (log ++ x ∷ []) after
one_more journal log world after x e g same c = record {
  good = g;
  counts = λ calm from to. same from to ∙ c.counts (calm_first log (x ∷ []) calm) from to ∙ sym (count_end from to log x ∙ ap (λ b. count_by (dials_to from to) log + cond b 1 0) (dials_none from to x e) ∙ plus_none (count_by (dials_to from to) log));
  well = λ calm. each_append dials_in_order [] log (x ∷ []) (c.well (calm_first log (x ∷ []) calm)) (alone log x (in_order_still log x e));
} where
  plus_none : (n : ℕ) → n + 0 ≡ n
  plus_none n = omega arith

-- a socket is dialed
dialed : (journal : List Line) (log : List Entry) (world : World) (from to : List ℕ) (socket : WorldSocket) → socket.name ≡ next_name world from to → Good journal (log ++ entries.Dial (next_name world from to) ∷ []) (with_socket socket world) → Counted journal log world
    → Counted journal (log ++ entries.Dial (next_name world from to) ∷ []) (with_socket socket world)
dialed journal log world from to socket name g c = record {
  good = g;
  counts = λ calm a b. count_new a b 0 socket world.sockets is_new ∙ ap (λ n. n + cond (of_ends a b socket) 1 0) (c.counts (calm_first log (x ∷ []) calm) a b)
      ∙ ap (λ (n : SockName). count_by (dials_to a b) log + cond (same_ends a b n) 1 0) name ∙ sym (count_end a b log x);
  well = λ calm. each_append dials_in_order [] log (x ∷ []) (c.well (calm_first log (x ∷ []) calm)) (alone log x
      (ap (λ n. n == count_by (dials_to from to) log) (c.counts (calm_first log (x ∷ []) calm) from to) ∙ number_same (count_by (dials_to from to) log)));
} where
  x : Entry
  x = entries.Dial (next_name world from to)

  is_new : find (is_socket_named socket.name) world.sockets ≡ None
  is_new = subst (λ (n : SockName). find (is_socket_named n) world.sockets ≡ None) (sym name) (next_is_new world from to c.good.numbered)

knocked_not : (journal : List Line) (log : List Entry) (after : World) (s : SockName) → Good journal (log ++ entries.Knocked s ∷ []) after → Counted journal (log ++ entries.Knocked s ∷ []) after
knocked_not journal log after s g = record { good = g; counts = λ calm from to. absurd (none calm); well = λ calm. absurd (none calm) } where
  none : AreCalm (log ++ entries.Knocked s ∷ []) → ⊥
  none calm = let no : is_calm (entries.Knocked s) ≡ true = calm_last log (entries.Knocked s) calm in cc

-- ---- steps

good_end : (journal : List Line) (log : List Entry) (place sock : ℕ) (f : SockName × End → World → List Entry × World) (world : World) → Good journal (log ++ (on_end place sock f world).0) (on_end place sock f world).1
    → ((at : SockName × End) (old : WorldSocket) → find (is_socket_named at.0) world.sockets ≡ Some old → Good journal (log ++ (f at world).0) (f at world).1 → Counted journal (log ++ (f at world).0) (f at world).1)
    → Counted journal log world → Counted journal (log ++ (on_end place sock f world).0) (on_end place sock f world).1
good_end journal log place sock f world g each c = by_end (find_end place sock world.sockets) refl g where
  told : Option (SockName × End) → List Entry × World
  told o = elim o as (λ o. List Entry × World) [
    | None ↦ ([], world)
    | Some at ↦ f at world
  ]

  by_end : (o : Option (SockName × End)) → find_end place sock world.sockets ≡ o → Good journal (log ++ (told o).0) (told o).1 → Counted journal (log ++ (told o).0) (told o).1
  by_end None e g = none_more journal log world world g (λ from to. refl) c
  by_end (Some at) e g = let held = found_end place sock world.sockets at e in each at held.socket held.is g

read_same : (at : SockName × End) (world : World) (old : WorldSocket) → find (is_socket_named at.0) world.sockets ≡ Some old → SameCount world (reads_item at world).1
read_same at world old is = subst (λ (o : Option WorldSocket). SameCount world (item_is_read at o world)) (sym is) (same_count at.0 at.1 (λ end. record end { places = later_places end.places }) world old is)

step_counted : (journal : List Line) (log : List Entry) (world : World) (place : ℕ) (cell : Cell) (step : Step) → Good journal (log ++ (stepped place cell step world).0) (stepped place cell step world).1 → Counted journal log world → Counted journal (log ++ (stepped place cell step world).0) (stepped place cell step world).1
step_counted journal log world place cell (steps.Dial sock end peer) g c = dialed journal log world (called world.names (own_address cell.host end)) (called world.names peer)
    (new_socket world (called world.names (own_address cell.host end)) (called world.names peer) cell.host.host (end_of_nobody (Some place) (Some sock) Pending) peer) refl g c
step_counted journal log world place cell (steps.Read sock) g c = good_end journal log place sock reads_item world g (λ at old is g. none_more journal log world (reads_item at world).1 g (read_same at world old is) c) c
step_counted journal log world place cell (steps.Write sock bytes said) g c = good_end journal log place sock (λ at now. (entries.Wrote at.0 at.1 bytes ∷ [], with_end_of at.0 (other at.1) (item_arrives bytes said) now)) world g
    (λ at old is g. one_more journal log world (with_end_of at.0 (other at.1) (item_arrives bytes said) world) (entries.Wrote at.0 at.1 bytes) refl g (same_count at.0 (other at.1) (item_arrives bytes said) world old is) c) c
step_counted journal log world place cell (steps.Up sock) g c = good_end journal log place sock (λ at now. (entries.Up at.0 at.1 ∷ [], now)) world g (λ at old is g. one_more journal log world world (entries.Up at.0 at.1) refl g (λ from to. refl) c) c
step_counted journal log world place cell (steps.Down sock) g c = good_end journal log place sock (λ at now. (entries.Down at.0 at.1 ∷ [], end_closes at now)) world g
    (λ at old is g. one_more journal log world (end_closes at world) (entries.Down at.0 at.1) refl g (same_count at.0 at.1 ended world old is) c) c
step_counted journal log world place cell (steps.Left sock) g c = good_end journal log place sock (λ at now. (entries.Left at.0 at.1 ∷ [], end_closes at now)) world g
    (λ at old is g. one_more journal log world (end_closes at world) (entries.Left at.0 at.1) refl g (same_count at.0 at.1 ended world old is) c) c
step_counted journal log world place cell (steps.Broke end peer why) g c = one_more journal log world world (entries.Broke (called world.names (own_address cell.host end)) (called world.names peer) why) refl g (λ from to. refl) c
step_counted journal log world place cell (steps.Post end event) g c = none_more journal log world world g (λ from to. refl) c

-- ---- all of it

keeps_counted : (journal : List Line) → Keeps (Unit {0}) AnyCount (Counted journal)
keeps_counted journal = record {
  whole = λ left. tt;
  distinct = λ log world c. c.good.apart;
  cell = λ log world place cell c. record { good = k.cell log world place cell c.good; counts = c.counts; well = c.well };
  mark = λ log world number answer c. one_more journal log world world (entries.Line number answer) refl (k.mark log world number answer c.good) (λ from to. refl) c;
  settled = λ log world c. one_more journal log world world entries.Settled refl (k.settled log world c.good) (λ from to. refl) c;
  note = λ log world note c. one_more journal log world _ (note_entry world.names world.last note) (note_still world.names world.last note) (k.note log world note c.good) (λ from to. refl) c;
  step = λ log world place cell step c. step_counted journal log world place cell step (k.step log world place cell step c.good) c;
  joined = λ log world socket is p c. one_more journal log world _ (entries.Joined socket.name) refl (k.joined log world socket is p c.good) (same_count socket.name O opened world socket is) c;
  refused = λ r log world socket is p c. one_more journal log world world (entries.Refused socket.name) refl (k.refused tt log world socket is p c.good) (λ from to. refl) c;
  came = λ log world socket number is p c. one_more journal log world _ (entries.Came socket.name) refl (k.came log world socket number is p c.good) (same_count socket.name T (λ end. record (opened end) { number = Some number }) world socket is) c;
  came_nowhere = λ log world socket place is at none c. one_more journal log world world (entries.Came socket.name) refl (k.came_nowhere log world socket place is at none c.good) (λ from to. refl) c;
  fed = λ log world socket which count is stands input w c. one_more journal log world _ (entries.Fed socket.name which (length (take count (end_of which socket).unread))) refl (k.fed log world socket which count is stands input tt c.good) (same_count socket.name which (λ end. record end { unread = drop count end.unread }) world socket is) c;
  lost = λ log world socket which c. one_more journal log world world (entries.Lost socket.name which) refl (k.lost log world socket which c.good) (λ from to. refl) c;
  timed = λ log world node peer c. one_more journal log world world (entries.Timed node peer) refl (k.timed log world node peer c.good) (λ from to. refl) c;
  was_cut = λ log world socket which is c. one_more journal log world _ (entries.Cut socket.name which) refl (k.was_cut log world socket which is c.good) (same_count socket.name which cut world socket is) c;
  knocked = λ log world stranger node c. knocked_not journal log (with_socket (stranger_socket stranger node world) world) (stranger_socket stranger node world).name (k.knocked log world stranger node c.good);
  poked = λ log world socket bytes is c. one_more journal log world _ (entries.Poked socket.name bytes) refl (k.poked log world socket bytes is c.good) (same_count socket.name T (arrives bytes) world socket is) c;
  quitted = λ log world socket is c. one_more journal log world _ (entries.Quitted socket.name) refl (k.quitted log world socket is c.good) (same_count socket.name O ended world socket is) c;
} where
  k : Keeps (Unit {0}) AnyCount (Good journal)
  k = keeps_good journal

pub all_dialed : (journal : List Line) → IsJournal journal → (log : List Entry) → log_of journal ≡ Ok log → each_after dials_in_order [] log ≡ true
all_dialed journal j log is = by_log (log_from (world_new journal) journal) (all_led (Counted journal) (keeps_counted journal) journal [] (world_new journal) (any_allowed journal) (record { good = fresh journal; counts = λ calm from to. refl; well = λ calm. refl })) is where
  by_log : (done : Happened) → LedOn (Counted journal) [] done → (done >>= λ done. Ok done.0) ≡ Ok log → each_after dials_in_order [] log ≡ true
  by_log (Ok done) c e = let same : done.0 ≡ log = cc in subst (λ (l : List Entry). AreCalm l → each_after dials_in_order [] l ≡ true) same c.well (all_calm journal j log is)
  by_log (Err stop) c e = absurd cc
