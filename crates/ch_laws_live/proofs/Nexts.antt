-- Of a call that accepts where a link comes up the log tells so: after each target's end that comes up stands the accepting answer.
use Rattle.std.proofs.Common.{◌≡◌, ◌⊎◌, inl, inr, ℕ, Bool, true, false, not, List, [], ◌∷◌, ◌++◌, refl, sym, ap, ◌∙◌, subst, append_assoc}
use Rattle.std.proofs.lemmas.Bool.{and_parts}
use Rattle.std.proofs.lemmas.List.{append-nil}
use Rattle.std.specs.Prelude.{find, Option, Some, None}
use Rattle.std.specs.Str.{bytes_eq}
use Rattle.ch_wire.specs.Spelling.{answer_spelling}
use Rattle.ch_wire.specs.declared.answer.Answer.TheVariants.{Accepted}
use Rattle.ch_model.specs.declared.entry.Entry.{Entry}
use Rattle.ch_model.specs.declared.entry.Entry.TheVariants as entries
use Rattle.ch_model.specs.declared.name.End.{End}
use Rattle.ch_model.specs.declared.name.End.TheVariants.{O, T}
use Rattle.ch_model.specs.declared.name.SockName.{SockName}
use Rattle.ch_model.specs.declared.step.Step.{Step}
use Rattle.ch_model.specs.declared.step.Step.TheVariants as steps
use Rattle.ch_model.specs.AccountsBytes.{accepts, accepts_next}
use Rattle.ch_model.specs.CellSteps.{told_steps}
use Rattle.ch_model.specs.HostState.{HostState}
use Rattle.ch_model.specs.Logs.{each_between_after, next_is}
use Rattle.ch_model.specs.Same.{same_socket}
use Rattle.ch_model.specs.WorldHappenings.{with_cell}
use Rattle.ch_model.specs.WorldSockets.{other, ended, item_arrives, is_socket_named, with_end_of, find_end}
use Rattle.ch_model.specs.WorldState.{Cell, WorldSocket, World}
use Rattle.ch_model.specs.WorldSteps.{on_end, later_places, reads_item, item_is_read, end_closes, stepped, all_told}
use Rattle.ch_laws_log.proofs.Stored.{bytes_same, self_same}
use Rattle.ch_laws_writes.proofs.Found.{kept_ends}
use Rattle.ch_laws_writes.proofs.Walks.{ended_keeps, read_keeps, item_keeps}
use Rattle.ch_laws_calls.specs.Calls.{with_host, done_at}
use Rattle.ch_laws_live.specs.Accepts.{NextAccepts, AllAccept}
use Rattle.ch_laws_live.specs.Turns.{starts_last, is_turn, turnless}
use Rattle.ch_laws_live.proofs.Entries.{both, turns_told}
use Rattle.ch_laws_live.proofs.Logs.{not_true}

-- ---- tests of each entry and what stands after it

next_further : (test : Entry → Bool) (xs ys : List Entry) → next_is test xs ≡ true → next_is test (xs ++ ys) ≡ true
next_further test [] ys n = absurd cc
next_further test (x ∷ xs) ys n = n

further : (log : List Entry) (x : Entry) (xs ys : List Entry) → accepts_next log x xs ≡ true → accepts_next log x (xs ++ ys) ≡ true
further log (entries.Up sock T) xs ys n = next_further (accepts sock) xs ys n
further log x xs ys n = refl

pub between_append : (before xs ys : List Entry) → each_between_after accepts_next before xs ≡ true → each_between_after accepts_next (before ++ xs) ys ≡ true → each_between_after accepts_next before (xs ++ ys) ≡ true
between_append before [] ys a b = subst (λ (l : List Entry). each_between_after accepts_next l ys ≡ true) (append-nil before) b
between_append before (x ∷ xs) ys a b = let parts = and_parts (accepts_next before x xs) (each_between_after accepts_next (before ++ x ∷ []) xs) a in
    both (accepts_next before x (xs ++ ys)) (each_between_after accepts_next (before ++ x ∷ []) (xs ++ ys)) (further before x xs ys parts.0)
    (between_append (before ++ x ∷ []) xs ys parts.1 (subst (λ (l : List Entry). each_between_after accepts_next l ys ≡ true) (sym (append_assoc before (x ∷ []) xs)) b))

pub plain_next : (log : List Entry) (x : Entry) (rest : List Entry) → is_turn x ≡ false → accepts_next log x rest ≡ true
plain_next log (entries.Up sock end) rest n = absurd cc
plain_next log x rest n = refl

pub plain_between : (log rest : List Entry) → turnless rest ≡ true → each_between_after accepts_next log rest ≡ true
plain_between log [] n = refl
plain_between log (x ∷ rest) n = let parts = and_parts (not (is_turn x)) (turnless rest) n in both (accepts_next log x rest) (each_between_after accepts_next (log ++ x ∷ []) rest) (plain_next log x rest (not_true (is_turn x) parts.0)) (plain_between (log ++ x ∷ []) rest parts.1)

-- ---- a call

-- what the cell has under such a number is no target's end
abbrev pub NoTarget : (ℕ → Type 0) → ℕ → List WorldSocket → Type 0
NoTarget P place sockets = (n : ℕ) (at : SockName × End) → P n → find_end place n sockets ≡ Some at → at.1 ≡ T → ⊥

still_none : (P : ℕ → Type 0) (place : ℕ) (one two : List WorldSocket) → ((n : ℕ) → find_end place n two ≡ find_end place n one) → NoTarget P place one → NoTarget P place two
still_none P place one two same none n at p found = none n at p (sym (same n) ∙ found)

-- a step that tells no turn, or none of what starts, and leaves ends where they are
record IsPassed (place : ℕ) (world : World) (done : List Entry × World) : Type 0 where
  alone : (log more : List Entry) → each_between_after accepts_next (log ++ done.0) more ≡ true → each_between_after accepts_next log (done.0 ++ more) ≡ true
  same : (n : ℕ) → find_end place n done.1.sockets ≡ find_end place n world.sockets

nothing : (place : ℕ) (world two : World) → ((n : ℕ) → find_end place n two.sockets ≡ find_end place n world.sockets) → IsPassed place world ([], two)
nothing place world two same = record { alone = λ log more e. subst (λ (l : List Entry). each_between_after accepts_next l more ≡ true) (append-nil log) e; same = same }

passed : (place sock : ℕ) (f : SockName × End → World → List Entry × World) (world : World) → ((at : SockName × End) → IsPassed place world (f at world)) → IsPassed place world (on_end place sock f world)
passed place sock f world each = by_end (find_end place sock world.sockets) where
  by_end : (o : Option (SockName × End)) → IsPassed place world (elim o as (λ o. List Entry × World) [
    | None ↦ ([], world)
    | Some at ↦ f at world
  ])
  by_end None = nothing place world world (λ n. refl)
  by_end (Some at) = each at

read_passed : (place : ℕ) (at : SockName × End) (world : World) → IsPassed place world (reads_item at world)
read_passed place at world = nothing place world (reads_item at world).1 (λ n. by_socket n (find (is_socket_named at.0) world.sockets)) where
  by_socket : (n : ℕ) (o : Option WorldSocket) → find_end place n (item_is_read at o world).sockets ≡ find_end place n world.sockets
  by_socket n None = refl
  by_socket n (Some socket) = kept_ends at.0 at.1 (λ end. record end { places = later_places end.places }) world read_keeps place n

-- the link of a target's end came up, and the next step accepts
accepted_next : (place : ℕ) (cell : Cell) (sock : ℕ) (rest : List Step) (world : World) (s : SockName) → find_end place sock world.sockets ≡ Some (s, T) → NextAccepts sock rest → next_is (accepts s) (all_told place cell (told_steps rest) world).0 ≡ true
accepted_next place cell sock [] world s found n = absurd n
accepted_next place cell sock (steps.Write m bytes said ∷ rest) world s found n = by_end (find_end place m world.sockets) (ap (λ (k : ℕ). find_end place k world.sockets) n.0 ∙ found) where
  writes : Option (SockName × End) → List Entry × World
  writes o = elim o as (λ o. List Entry × World) [
    | None ↦ ([], world)
    | Some at ↦ (entries.Wrote at.0 at.1 bytes ∷ [], with_end_of at.0 (other at.1) (item_arrives bytes said) world)
  ]

  some_at : (a b : SockName × End) → ◌≡◌ {A = Option (SockName × End)} (Some a) (Some b) → a ≡ b
  some_at a b e = cc

  by_end : (o : Option (SockName × End)) → o ≡ Some (s, T) → next_is (accepts s) ((writes o).0 ++ (all_told place cell (told_steps rest) (writes o).1).0) ≡ true
  by_end None e = absurd cc
  by_end (Some at) e = subst (λ (x : SockName × End). accepts s (entries.Wrote x.0 x.1 bytes) ≡ true) (sym (some_at at (s, T) e)) (both (same_socket s s) (bytes_eq bytes (answer_spelling Accepted)) (self_same s) (ap (λ (l : List ℕ). bytes_eq l (answer_spelling Accepted)) n.1 ∙ bytes_same (answer_spelling Accepted)))
accepted_next place cell sock (step ∷ rest) world s found n = absurd n

all_next : (P : ℕ → Type 0) (log : List Entry) (place : ℕ) (cell : Cell) (told : List Step) (world : World) → starts_last told ≡ true → AllAccept P told → NoTarget P place world.sockets → each_between_after accepts_next log (all_told place cell (told_steps told) world).0 ≡ true
all_next P log place cell [] world n a none = refl
all_next P log place cell (steps.Dial sock end peer ∷ rest) world n a none = plain_between _ (all_told place cell (told_steps rest) (stepped place cell (steps.Dial sock end peer) world).1).0 (turns_told place cell rest (stepped place cell (steps.Dial sock end peer) world).1 n)
all_next P log place cell (steps.Up sock ∷ rest) world n a none = by_end (find_end place sock world.sockets) refl where
  later : (l : List Entry) → each_between_after accepts_next l (all_told place cell (told_steps rest) world).0 ≡ true
  later l = plain_between l (all_told place cell (told_steps rest) world).0 (turns_told place cell rest world n)

  ups : Option (SockName × End) → List Entry × World
  ups o = elim o as (λ o. List Entry × World) [
    | None ↦ ([], world)
    | Some at ↦ (entries.Up at.0 at.1 ∷ [], world)
  ]

  by_which : (s : SockName) (e : End) → find_end place sock world.sockets ≡ Some (s, e) → P sock ⊎ NextAccepts sock rest → accepts_next log (entries.Up s e) (all_told place cell (told_steps rest) world).0 ≡ true
  by_which s O found b = refl
  by_which s T found (inl p) = absurd (none sock (s, T) p found refl)
  by_which s T found (inr b) = accepted_next place cell sock rest world s found b

  by_end : (o : Option (SockName × End)) → find_end place sock world.sockets ≡ o → each_between_after accepts_next log ((ups o).0 ++ (all_told place cell (told_steps rest) (ups o).1).0) ≡ true
  by_end None e = later log
  by_end (Some at) e = both (accepts_next log (entries.Up at.0 at.1) (all_told place cell (told_steps rest) world).0) (each_between_after accepts_next (log ++ entries.Up at.0 at.1 ∷ []) (all_told place cell (told_steps rest) world).0) (by_which at.0 at.1 e a.0) (later (log ++ entries.Up at.0 at.1 ∷ []))
all_next P log place cell (steps.Read sock ∷ rest) world n a none = let done = stepped place cell (steps.Read sock) world in let p = passed place sock reads_item world (λ at. read_passed place at world) in
    p.alone log (all_told place cell (told_steps rest) done.1).0 (all_next P (log ++ done.0) place cell rest done.1 n a (still_none P place world.sockets done.1.sockets p.same none))
all_next P log place cell (steps.Write sock bytes said ∷ rest) world n a none = let done = stepped place cell (steps.Write sock bytes said) world in
    let p = passed place sock (λ at now. (entries.Wrote at.0 at.1 bytes ∷ [], with_end_of at.0 (other at.1) (item_arrives bytes said) now)) world (λ at. record { alone = λ log more e. e; same = kept_ends at.0 (other at.1) (item_arrives bytes said) world (item_keeps bytes said) place }) in
    p.alone log (all_told place cell (told_steps rest) done.1).0 (all_next P (log ++ done.0) place cell rest done.1 n a (still_none P place world.sockets done.1.sockets p.same none))
all_next P log place cell (steps.Down sock ∷ rest) world n a none = let done = stepped place cell (steps.Down sock) world in
    let p = passed place sock (λ at now. (entries.Down at.0 at.1 ∷ [], end_closes at now)) world (λ at. record { alone = λ log more e. e; same = kept_ends at.0 at.1 ended world ended_keeps place }) in
    p.alone log (all_told place cell (told_steps rest) done.1).0 (all_next P (log ++ done.0) place cell rest done.1 n a (still_none P place world.sockets done.1.sockets p.same none))
all_next P log place cell (steps.Left sock ∷ rest) world n a none = let done = stepped place cell (steps.Left sock) world in
    let p = passed place sock (λ at now. (entries.Left at.0 at.1 ∷ [], end_closes at now)) world (λ at. record { alone = λ log more e. e; same = kept_ends at.0 at.1 ended world ended_keeps place }) in
    p.alone log (all_told place cell (told_steps rest) done.1).0 (all_next P (log ++ done.0) place cell rest done.1 n a (still_none P place world.sockets done.1.sockets p.same none))
all_next P log place cell (steps.Broke end peer why ∷ rest) world n a none = all_next P _ place cell rest world n a none
all_next P log place cell (steps.Post end event ∷ rest) world n a none = all_next P log place cell rest world n a none

pub call_next : (P : ℕ → Type 0) (log : List Entry) (place : ℕ) (cell : Cell × ℕ) (told : List Step) (host : HostState) (world : World) → starts_last told ≡ true → AllAccept P told → NoTarget P place world.sockets → each_between_after accepts_next log (done_at place cell told host world).0 ≡ true
call_next P log place cell told host world n a none = all_next P log place (with_host cell host) told (with_cell place (with_host cell host, cell.1) world) n a none
