-- How many first messages of pairs a log has, and what is told adds.
use Rattle.std.proofs.Common.{◌≡◌, ℕ, suc, ◌+◌, Bool, true, false, cond, List, [], ◌∷◌, ◌++◌, length, Ok, Err, refl, sym, ap, ◌∙◌, subst, arith}
use Rattle.std.proofs.lemmas.List.Sums.{length-filter}
use Rattle.std.specs.List.{count_by, filter}
use Rattle.std.specs.Prelude.{Result, Option, Some, None}
use Rattle.ch_model.specs.declared.act.Act.{Act}
use Rattle.ch_model.specs.declared.act.Act.TheVariants as acts
use Rattle.ch_model.specs.declared.entry.Entry.{Entry}
use Rattle.ch_model.specs.declared.entry.Entry.TheVariants as entries
use Rattle.ch_model.specs.declared.local.LocalEntry.{LocalEntry}
use Rattle.ch_model.specs.declared.local.LocalEntry.TheVariants as local
use Rattle.ch_model.specs.declared.name.End.{End}
use Rattle.ch_model.specs.declared.name.SockName.{SockName}
use Rattle.ch_model.specs.declared.note.Note.{Note}
use Rattle.ch_model.specs.declared.note.Note.TheVariants as notes
use Rattle.ch_model.specs.declared.step.EndError.{EndError}
use Rattle.ch_model.specs.declared.step.EndError.TheVariants as errors
use Rattle.ch_model.specs.declared.step.Place.{Place}
use Rattle.ch_model.specs.declared.step.Step.{Step}
use Rattle.ch_model.specs.declared.step.Step.TheVariants as steps
use Rattle.ch_model.specs.AnswersCounts.{begins_between, connections}
use Rattle.ch_model.specs.CellSteps.{Followed, after_entries, ◌then◌, told_steps, asked, act_on, acts_on}
use Rattle.ch_model.specs.HostCalls.{host_connect, host_send, host_close}
use Rattle.ch_model.specs.HostState.{HostState}
use Rattle.ch_model.specs.Naming.{Names}
use Rattle.ch_model.specs.WorldSockets.{other, item_arrives, with_end_of, find_end}
use Rattle.ch_model.specs.WorldState.{Cell, World}
use Rattle.ch_model.specs.WorldSteps.{note_entry, on_end, reads_item, end_closes, stepped, local_told, all_told}
use Rattle.ch_laws_epochs.specs.Numbers.{notes_of, notes_in}
use Rattle.ch_laws_epochs.proofs.Calm.{is_silent, AreSilent}
use Rattle.ch_laws_epochs.proofs.Told.{told_names}
use Rattle.ch_laws_plain_logs.specs.Plain.{IsPlain}
use Rattle.ch_laws_plain_logs.proofs.Absent.{since_breaks}
use Rattle.ch_laws_messages.proofs.SendsHostActs.{and_one}

-- as many as so many, and those first messages from x to y
abbrev pub begun_from : List ℕ → List ℕ → ℕ → List Entry → ℕ
begun_from x y n [] = n
begun_from x y n (entry ∷ log) = begun_from x y (and_one (begins_between x y entry) n) log

pub begun_append : (x y : List ℕ) (n : ℕ) (log more : List Entry) → begun_from x y n (log ++ more) ≡ begun_from x y (begun_from x y n log) more
begun_append x y n [] more = refl
begun_append x y n (entry ∷ log) more = begun_append x y (and_one (begins_between x y entry) n) log more

begun_kept : (x y : List ℕ) (n : ℕ) (log : List Entry) → begun_from x y n log ≡ n + length (filter (begins_between x y) log)
begun_kept x y n [] = let e : n ≡ n + 0 = omega arith in e
begun_kept x y n (entry ∷ log) = begun_kept x y (and_one (begins_between x y entry) n) log ∙ by_test (begins_between x y entry) where
  by_test : (b : Bool) → and_one b n + length (filter (begins_between x y) log) ≡ n + length (cond b (entry ∷ filter (begins_between x y) log) (filter (begins_between x y) log))
  by_test true = let e : suc n + length (filter (begins_between x y) log) ≡ n + suc (length (filter (begins_between x y) log)) = omega arith in e
  by_test false = refl

-- in a plain log these are the connections
pub connections_so : (x y : List ℕ) (log : List Entry) → IsPlain log → connections log x y ≡ begun_from x y 0 log
connections_so x y log plain = ap (count_by (begins_between x y)) (since_breaks log x y plain) ∙ sym (length-filter (begins_between x y) log)
    ∙ (let e : length (filter (begins_between x y) log) ≡ 0 + length (filter (begins_between x y) log) = omega arith in e) ∙ sym (begun_kept x y 0 log)

pub connections_more : (x y : List ℕ) (log more : List Entry) → IsPlain log → IsPlain (log ++ more) → connections (log ++ more) x y ≡ begun_from x y (connections log x y) more
connections_more x y log more plain now = connections_so x y (log ++ more) now ∙ begun_append x y 0 log more ∙ ap (λ (n : ℕ). begun_from x y n more) (sym (connections_so x y log plain))

-- ---- what is told

-- the note tells a first message from x to y
abbrev pub note_begins : Names → List ℕ → List ℕ → Note → Bool
note_begins known x y note = begins_between x y (note_entry known None note)

abbrev pub notes_from : Names → List ℕ → List ℕ → ℕ → List Note → ℕ
notes_from known x y n [] = n
notes_from known x y n (note ∷ rest) = notes_from known x y (and_one (note_begins known x y note) n) rest

last_none : (known : Names) (last : Option Place) (x y : List ℕ) (note : Note) → begins_between x y (note_entry known last note) ≡ note_begins known x y note
last_none known last x y (notes.Made process origin) = refl
last_none known last x y (notes.Said by to epoch index message) = refl
last_none known last x y note = refl

step_begins : (place : ℕ) (cell : Cell) (step : Step) (world : World) (x y : List ℕ) (n : ℕ) → begun_from x y n (stepped place cell step world).0 ≡ n
step_begins place cell step world x y n = by_step step where
  on_one : (sock : ℕ) (f : SockName × End → World → List Entry × World) → ((at : SockName × End) → begun_from x y n (f at world).0 ≡ n) → begun_from x y n (on_end place sock f world).0 ≡ n
  on_one sock f each = by_end (find_end place sock world.sockets) where
    by_end : (o : Option (SockName × End)) → begun_from x y n (elim o as (λ o. List Entry × World) [
      | None ↦ ([], world)
      | Some at ↦ f at world
    ]).0 ≡ n
    by_end None = refl
    by_end (Some at) = each at

  by_step : (step : Step) → begun_from x y n (stepped place cell step world).0 ≡ n
  by_step (steps.Dial sock end peer) = refl
  by_step (steps.Read sock) = on_one sock reads_item (λ at. refl)
  by_step (steps.Write sock bytes said) = on_one sock (λ at now. (entries.Wrote at.0 at.1 bytes ∷ [], with_end_of at.0 (other at.1) (item_arrives bytes said) now)) (λ at. refl)
  by_step (steps.Up sock) = on_one sock (λ at now. (entries.Up at.0 at.1 ∷ [], now)) (λ at. refl)
  by_step (steps.Down sock) = on_one sock (λ at now. (entries.Down at.0 at.1 ∷ [], end_closes at now)) (λ at. refl)
  by_step (steps.Left sock) = on_one sock (λ at now. (entries.Left at.0 at.1 ∷ [], end_closes at now)) (λ at. refl)
  by_step (steps.Broke end peer why) = refl
  by_step (steps.Post end event) = refl

pub told_begun : (place : ℕ) (cell : Cell) (told : List LocalEntry) (world : World) (x y : List ℕ) (n : ℕ) → begun_from x y n (all_told place cell told world).0 ≡ notes_from world.names x y n (notes_in told)
told_begun place cell [] world x y n = refl
told_begun place cell (local.Step step ∷ rest) world x y n =
    begun_append x y n (stepped place cell step world).0 (all_told place cell rest (stepped place cell step world).1).0
    ∙ ap (λ (m : ℕ). begun_from x y m (all_told place cell rest (stepped place cell step world).1).0) (step_begins place cell step world x y n)
    ∙ told_begun place cell rest (stepped place cell step world).1 x y n ∙ ap (λ (known : Names). notes_from known x y n (notes_in rest)) (told_names place cell (local.Step step ∷ []) world)
told_begun place cell (local.Note note ∷ rest) world x y n =
    told_begun place cell rest (local_told place cell (local.Note note) world).1 x y (and_one (begins_between x y (note_entry world.names world.last note)) n)
    ∙ ap (λ (b : Bool). notes_from world.names x y (and_one b n) (notes_in rest)) (last_none world.names world.last x y note)

-- ---- silence

-- no note of these tells a message
abbrev pub AllSilent : List Note → Type 0
AllSilent [] = Unit {0}
AllSilent (note ∷ rest) = (is_silent note ≡ true) × AllSilent rest

silent_begins : (known : Names) (x y : List ℕ) (note : Note) → is_silent note ≡ true → note_begins known x y note ≡ false
silent_begins known x y (notes.Said by to epoch index message) s = absurd cc
silent_begins known x y note s = refl

pub silent_from : (known : Names) (x y : List ℕ) (n : ℕ) (all : List Note) → AllSilent all → notes_from known x y n all ≡ n
silent_from known x y n [] s = refl
silent_from known x y n (note ∷ rest) s = ap (λ (b : Bool). notes_from known x y (and_one b n) rest) (silent_begins known x y note s.0) ∙ silent_from known x y n rest s.1

pub silent_both : (xs ys : List Note) → AllSilent xs → AllSilent ys → AllSilent (xs ++ ys)
silent_both [] ys a b = b
silent_both (note ∷ xs) ys a b = (a.0, silent_both xs ys a.1 b)

notes_append : (xs ys : List LocalEntry) → notes_in (xs ++ ys) ≡ notes_in xs ++ notes_in ys
notes_append [] ys = refl
notes_append (local.Note note ∷ xs) ys = ap (λ l. note ∷ l) (notes_append xs ys)
notes_append (local.Step step ∷ xs) ys = notes_append xs ys

steps_none : (done : List Step) → notes_in (told_steps done) ≡ []
steps_none [] = refl
steps_none (step ∷ rest) = steps_none rest

-- what acts tell
abbrev NotesAre : List Note → Followed → Type 0
NotesAre all (Ok done) = notes_in done.0 ≡ all
NotesAre all (Err stop) = Unit {0}

asked_notes : (cell : Cell) (r : Result (List Step × HostState) EndError) → NotesAre [] (asked cell r)
asked_notes cell (Ok done) = steps_none done.0
asked_notes cell (Err errors.Worn) = tt
asked_notes cell (Err errors.OutOfMemory) = tt
asked_notes cell (Err e) = refl

one_notes : (end : ℕ) (act : Act) (cell : Cell) → NotesAre (notes_of (act ∷ [])) (act_on end act cell)
one_notes end (acts.Note note) cell = refl
one_notes end (acts.Open conn peer) cell = asked_notes cell (host_connect cell.host end peer conn)
one_notes end (acts.Put conn payload weight) cell = asked_notes cell (host_send cell.host end conn payload weight)
one_notes end (acts.Close conn) cell = asked_notes cell (host_close cell.host end conn)

all_notes : (end : ℕ) (done : List Act) (cell : Cell) → NotesAre (notes_of done) (acts_on end done cell)
all_notes end [] cell = refl
all_notes end (act ∷ rest) cell = by_one (act_on end act cell) (one_notes end act cell) (λ next. all_notes end rest next) where
  joined : (act : Act) → notes_of (act ∷ []) ++ notes_of rest ≡ notes_of (act ∷ rest)
  joined (acts.Note note) = refl
  joined (acts.Open conn peer) = refl
  joined (acts.Put conn payload weight) = refl
  joined (acts.Close conn) = refl

  by_more : (told : List LocalEntry) → notes_in told ≡ notes_of (act ∷ []) → (more : Followed) → NotesAre (notes_of rest) more → NotesAre (notes_of (act ∷ rest)) (after_entries told more)
  by_more told e (Ok more) f = notes_append told more.0 ∙ ap (λ (l : List Note). l ++ notes_in more.0) e ∙ ap (λ (l : List Note). notes_of (act ∷ []) ++ l) f ∙ joined act
  by_more told e (Err stop) f = tt

  by_one : (one : Followed) → NotesAre (notes_of (act ∷ [])) one → ((next : Cell) → NotesAre (notes_of rest) (acts_on end rest next)) → NotesAre (notes_of (act ∷ rest)) (one then acts_on end rest)
  by_one (Ok done) e k = by_more done.0 e (acts_on end rest done.1) (k done.1)
  by_one (Err stop) e k = tt

pub acts_tell : (end : ℕ) (done : List Act) (cell after : Cell) (told : List LocalEntry) → acts_on end done cell ≡ Ok (told, after) → notes_in told ≡ notes_of done
acts_tell end done cell after told e = subst (NotesAre (notes_of done)) e (all_notes end done cell)

pub acts_silent : (done : List Act) → AreSilent done → AllSilent (notes_of done)
acts_silent [] s = tt
acts_silent (acts.Note note ∷ rest) s = (s.0, acts_silent rest s.1)
acts_silent (acts.Open conn peer ∷ rest) s = acts_silent rest s
acts_silent (acts.Put conn payload weight ∷ rest) s = acts_silent rest s
acts_silent (acts.Close conn ∷ rest) s = acts_silent rest s
