-- What is told of a turn: of steps that post nothing, of one event that is posted, and how many messages of a pair are got in what is told.
use Rattle.std.proofs.Common.{◌≡◌, ◌⊎◌, inl, inr, ℕ, ◌+◌, Bool, true, false, cond, ◌&&◌, ◌||◌, List, [], ◌∷◌, ◌++◌, Ok, Err, refl, sym, ap, ◌∙◌, subst, arith}
use Rattle.std.specs.Prelude.{find, Option, Some, None, Result, ◌==◌}
use Rattle.std.specs.List.{list_all}
use Rattle.std.proofs.lemmas.Bool.{and_parts}
use Rattle.std.proofs.lemmas.List.Sums.{sum_by-append}
use Rattle.ch_base.specs.declared.event.Event.{Event}
use Rattle.ch_base.specs.declared.memory.Stop.{Stop}
use Rattle.ch_model.specs.declared.act.Act.{Act}
use Rattle.ch_model.specs.declared.entry.Entry.{Entry}
use Rattle.ch_model.specs.declared.entry.Entry.TheVariants as entries
use Rattle.ch_model.specs.declared.local.LocalEntry.{LocalEntry}
use Rattle.ch_model.specs.declared.local.LocalEntry.TheVariants as local
use Rattle.ch_model.specs.declared.name.End.{End}
use Rattle.ch_model.specs.declared.name.ProcName.{ProcName}
use Rattle.ch_model.specs.declared.name.SockName.{SockName}
use Rattle.ch_model.specs.declared.name.TargetName.TheVariants as names
use Rattle.ch_model.specs.declared.note.Note.{Note}
use Rattle.ch_model.specs.declared.note.Note.TheVariants as notes
use Rattle.ch_model.specs.declared.step.Step.{Step}
use Rattle.ch_model.specs.declared.step.Step.TheVariants as steps
use Rattle.ch_model.specs.CellSteps.{Followed, after_entries, ◌then◌, is_at, with_node, acts_on, node_followed, posted, step_on, steps_on, told_steps}
use Rattle.ch_model.specs.Delivery.{gets_in}
use Rattle.ch_model.specs.Naming.{Names, process_called, target_called}
use Rattle.ch_model.specs.Node.{node_event}
use Rattle.ch_model.specs.NodeState.{NodeState}
use Rattle.ch_model.specs.Same.{same_process, same_target}
use Rattle.ch_model.specs.WorldSockets.{find_end, with_end_of, other, item_arrives}
use Rattle.ch_model.specs.WorldState.{Cell, World}
use Rattle.ch_model.specs.WorldSteps.{or_first, noted, reads_item, end_closes, stepped, local_told, all_told}
use Rattle.ch_laws_bytes.proofs.Told.{told_names}
use Rattle.ch_laws_plain_logs.specs.Plain.{is_plain}
use Rattle.ch_laws_plain.specs.ReadsReading.{posts_in}
use Rattle.ch_laws_peers.specs.Reads.{gets_of}
use Rattle.ch_laws_messages.proofs.GotHosts.{is_broke, has_broke}

-- ---- steps

-- what follows one thing that is told
record Behind (one : List LocalEntry) (r : Followed) (told : List LocalEntry) (after : Cell) : Type 0 where
  rest : List LocalEntry
  followed : r ≡ Ok (rest, after)
  spelled : told ≡ one ++ rest

behind : (one : List LocalEntry) (r : Followed) (told : List LocalEntry) (after : Cell) → after_entries one r ≡ Ok (told, after) → Behind one r told after
behind one (Err stop) told after e = absurd cc
behind one (Ok more) told after e =
    let same : (one ++ more.0, more.1) ≡ (told, after) = cc in
    record { rest = more.0; followed = ap (λ (c : Cell). Ok (more.0, c)) (ap (λ (x : List LocalEntry × Cell). x.1) same); spelled = sym (ap (λ (x : List LocalEntry × Cell). x.0) same) }

-- steps of which none posts are told, and that is all
pub calm_told : (done : List Step) (cell : Cell) (told : List LocalEntry) (after : Cell) → posts_in done ≡ [] → steps_on done cell ≡ Ok (told, after) → (after ≡ cell) × (told ≡ told_steps done)
calm_told [] cell told after p e = let same : ([], cell) ≡ (told, after) = cc in (sym (ap (λ (x : List LocalEntry × Cell). x.1) same), sym (ap (λ (x : List LocalEntry × Cell). x.0) same))
calm_told (steps.Post end event ∷ rest) cell told after p e = absurd cc
calm_told (steps.Dial sock end peer ∷ rest) cell told after p e = let b = behind (local.Step (steps.Dial sock end peer) ∷ []) (steps_on rest cell) told after e in let more = calm_told rest cell b.rest after p b.followed in (more.0, b.spelled ∙ ap (λ (l : List LocalEntry). local.Step (steps.Dial sock end peer) ∷ l) more.1)
calm_told (steps.Read sock ∷ rest) cell told after p e = let b = behind (local.Step (steps.Read sock) ∷ []) (steps_on rest cell) told after e in let more = calm_told rest cell b.rest after p b.followed in (more.0, b.spelled ∙ ap (λ (l : List LocalEntry). local.Step (steps.Read sock) ∷ l) more.1)
calm_told (steps.Write sock bytes said ∷ rest) cell told after p e = let b = behind (local.Step (steps.Write sock bytes said) ∷ []) (steps_on rest cell) told after e in let more = calm_told rest cell b.rest after p b.followed in (more.0, b.spelled ∙ ap (λ (l : List LocalEntry). local.Step (steps.Write sock bytes said) ∷ l) more.1)
calm_told (steps.Up sock ∷ rest) cell told after p e = let b = behind (local.Step (steps.Up sock) ∷ []) (steps_on rest cell) told after e in let more = calm_told rest cell b.rest after p b.followed in (more.0, b.spelled ∙ ap (λ (l : List LocalEntry). local.Step (steps.Up sock) ∷ l) more.1)
calm_told (steps.Down sock ∷ rest) cell told after p e = let b = behind (local.Step (steps.Down sock) ∷ []) (steps_on rest cell) told after e in let more = calm_told rest cell b.rest after p b.followed in (more.0, b.spelled ∙ ap (λ (l : List LocalEntry). local.Step (steps.Down sock) ∷ l) more.1)
calm_told (steps.Left sock ∷ rest) cell told after p e = let b = behind (local.Step (steps.Left sock) ∷ []) (steps_on rest cell) told after e in let more = calm_told rest cell b.rest after p b.followed in (more.0, b.spelled ∙ ap (λ (l : List LocalEntry). local.Step (steps.Left sock) ∷ l) more.1)
calm_told (steps.Broke end peer why ∷ rest) cell told after p e = let b = behind (local.Step (steps.Broke end peer why) ∷ []) (steps_on rest cell) told after e in let more = calm_told rest cell b.rest after p b.followed in (more.0, b.spelled ∙ ap (λ (l : List LocalEntry). local.Step (steps.Broke end peer why) ∷ l) more.1)

pub nothing_more : {A : Type 0} (xs : List A) → xs ++ [] ≡ xs
nothing_more {A = A} [] = refl
nothing_more {A = A} (x ∷ xs) = ap (λ (l : List A). x ∷ l) (nothing_more xs)

-- of one that reads and one that posts the first is told, and then what the node makes of the event
pub brought_told : (sock end : ℕ) (event : Event) (cell : Cell) (told : List LocalEntry) (after : Cell) → steps_on (steps.Read sock ∷ steps.Post end event ∷ []) cell ≡ Ok (told, after) → (heard : List LocalEntry) × (told ≡ local.Step (steps.Read sock) ∷ heard) × (posted end event cell ≡ Ok (heard, after))
brought_told sock end event cell told after e = by_posted b.rest b.spelled (posted end event cell) refl b.followed where
  b : Behind (local.Step (steps.Read sock) ∷ []) (steps_on (steps.Post end event ∷ []) cell) told after
  b = behind (local.Step (steps.Read sock) ∷ []) (steps_on (steps.Post end event ∷ []) cell) told after e

  by_posted : (rest : List LocalEntry) → told ≡ local.Step (steps.Read sock) ∷ rest → (r : Followed) → posted end event cell ≡ r → (r then steps_on []) ≡ Ok (rest, after) → (heard : List LocalEntry) × (told ≡ local.Step (steps.Read sock) ∷ heard) × (posted end event cell ≡ Ok (heard, after))
  by_posted rest s (Err stop) is f = absurd cc
  by_posted rest s (Ok first) is f =
      let same : (first.0 ++ [], first.1) ≡ (rest, after) = cc in
      let one : first.0 ≡ rest = sym (nothing_more first.0) ∙ ap (λ (x : List LocalEntry × Cell). x.0) same in
      (rest, s, is ∙ ap (λ (l : List LocalEntry). Ok (l, first.1)) one ∙ ap (λ (c : Cell). Ok (rest, c)) (ap (λ (x : List LocalEntry × Cell). x.1) same))

-- the node of the endpoint makes something of it
pub record HeardBy (end : ℕ) (event : Event) (cell : Cell) (heard : List LocalEntry) (after : Cell) : Type 0 where
  pub there : ℕ × NodeState
  pub found : find (is_at end) cell.nodes ≡ Some there
  pub acts : List Act
  pub next : NodeState
  pub does : node_event there.1 event ≡ Ok (acts, next)
  pub followed : acts_on end acts (with_node end next cell) ≡ Ok (heard, after)

pub heard_by : (end : ℕ) (event : Event) (cell : Cell) (heard : List LocalEntry) (after : Cell) → posted end event cell ≡ Ok (heard, after) → ((find (is_at end) cell.nodes ≡ None) × (heard ≡ []) × (after ≡ cell)) ⊎ HeardBy end event cell heard after
heard_by end event cell heard after e = by_found (find (is_at end) cell.nodes) refl e where
  by_event : (there : ℕ × NodeState) → find (is_at end) cell.nodes ≡ Some there → (r : Result (List Act × NodeState) Stop) → node_event there.1 event ≡ r → node_followed end cell r ≡ Ok (heard, after) → HeardBy end event cell heard after
  by_event there f (Err stop) d e = absurd cc
  by_event there f (Ok done) d e = record { there = there; found = f; acts = done.0; next = done.1; does = d; followed = e }

  by_found : (o : Option (ℕ × NodeState)) → find (is_at end) cell.nodes ≡ o → (elim o as (λ o. Followed) [
    | None ↦ Ok ([], cell)
    | Some node ↦ node_followed end cell (node_event node.1 event)
  ]) ≡ Ok (heard, after) → ((find (is_at end) cell.nodes ≡ None) × (heard ≡ []) × (after ≡ cell)) ⊎ HeardBy end event cell heard after
  by_found None f e = let same : ([], cell) ≡ (heard, after) = cc in inl (f, sym (ap (λ (x : List LocalEntry × Cell). x.0) same), sym (ap (λ (x : List LocalEntry × Cell). x.1) same))
  by_found (Some there) f e = inr (by_event there f (node_event there.1 event) refl e)

-- ---- a link that breaks is told

abbrev pub told_broke : List LocalEntry → Bool
told_broke [] = false
told_broke (local.Step step ∷ rest) = is_broke step || told_broke rest
told_broke (local.Note note ∷ rest) = told_broke rest

later_broke : (one two : List LocalEntry) → told_broke two ≡ true → told_broke (one ++ two) ≡ true
later_broke [] two e = e
later_broke (local.Note note ∷ one) two e = later_broke one two e
later_broke (local.Step step ∷ one) two e = by_test (is_broke step) (later_broke one two e) where
  by_test : (b : Bool) → told_broke (one ++ two) ≡ true → (b || told_broke (one ++ two)) ≡ true
  by_test true more = refl
  by_test false more = more

broke_told : (done : List Step) (cell : Cell) (told : List LocalEntry) (after : Cell) → has_broke done ≡ true → steps_on done cell ≡ Ok (told, after) → told_broke told ≡ true
broke_told [] cell told after b e = absurd cc
broke_told (step ∷ rest) cell told after b e = by_first (step_on step cell) refl e (broke_told rest) where
  by_told : (first : List LocalEntry) (next : Cell) → step_on step cell ≡ Ok (first, next) → (is_broke step ≡ true → told_broke first ≡ true)
  by_told first next is h = by_step step h is where
    by_step : (s : Step) → is_broke s ≡ true → step_on s cell ≡ Ok (first, next) → told_broke first ≡ true
    by_step (steps.Broke end peer why) h is = let same : (local.Step (steps.Broke end peer why) ∷ [], cell) ≡ (first, next) = cc in ap (λ (x : List LocalEntry × Cell). told_broke x.0) (sym same)
    by_step (steps.Post end event) h is = absurd cc
    by_step (steps.Dial sock end peer) h is = absurd cc
    by_step (steps.Read sock) h is = absurd cc
    by_step (steps.Write sock bytes said) h is = absurd cc
    by_step (steps.Up sock) h is = absurd cc
    by_step (steps.Down sock) h is = absurd cc
    by_step (steps.Left sock) h is = absurd cc

  first_broke : (one two : List LocalEntry) → told_broke one ≡ true → told_broke (one ++ two) ≡ true
  first_broke [] two e = absurd cc
  first_broke (local.Note note ∷ one) two e = first_broke one two e
  first_broke (local.Step s ∷ one) two e = by_test (is_broke s) e (first_broke one two) where
    by_test : (b : Bool) → (b || told_broke one) ≡ true → (told_broke one ≡ true → told_broke (one ++ two) ≡ true) → (b || told_broke (one ++ two)) ≡ true
    by_test true e more = refl
    by_test false e more = more e

  by_first : (r : Followed) → step_on step cell ≡ r → (r then steps_on rest) ≡ Ok (told, after) → ((c : Cell) (t : List LocalEntry) (x : Cell) → has_broke rest ≡ true → steps_on rest c ≡ Ok (t, x) → told_broke t ≡ true) → told_broke told ≡ true
  by_first (Err stop) is e more = absurd cc
  by_first (Ok first) is e more = by_rest (behind first.0 (steps_on rest first.1) told after e) (is_broke step) refl b where
    by_rest : Behind first.0 (steps_on rest first.1) told after → (t : Bool) → is_broke step ≡ t → (t || has_broke rest) ≡ true → told_broke told ≡ true
    by_rest w true h b = subst (λ (l : List LocalEntry). told_broke l ≡ true) (sym w.spelled) (first_broke first.0 w.rest (by_told first.0 first.1 is h))
    by_rest w false h b = subst (λ (l : List LocalEntry). told_broke l ≡ true) (sym w.spelled) (later_broke first.0 w.rest (more first.1 w.rest after b w.followed))

all_both : (one two : List Entry) → list_all is_plain (one ++ two) ≡ true → (list_all is_plain one ≡ true) × (list_all is_plain two ≡ true)
all_both [] two e = (refl, e)
all_both (x ∷ one) two e =
    let parts = and_parts (is_plain x) (list_all is_plain (one ++ two)) e in
    let more = all_both one two parts.1 in
    (ap (λ b. b && list_all is_plain one) parts.0 ∙ more.0, more.1)

broke_unplain : (place : ℕ) (cell : Cell) (told : List LocalEntry) (world : World) → told_broke told ≡ true → list_all is_plain (all_told place cell told world).0 ≡ true → ⊥
broke_unplain place cell [] world b e = absurd cc
broke_unplain place cell (local.Note note ∷ rest) world b e = broke_unplain place cell rest (noted note world).1 b (all_both (noted note world).0 (all_told place cell rest (noted note world).1).0 e).1
broke_unplain place cell (local.Step step ∷ rest) world b e = by_test (is_broke step) refl b (all_both one.0 (all_told place cell rest one.1).0 e).0 (all_both one.0 (all_told place cell rest one.1).0 e).1 (broke_unplain place cell rest one.1) where
  one : List Entry × World
  one = stepped place cell step world

  by_step : (s : Step) → is_broke s ≡ true → list_all is_plain (stepped place cell s world).0 ≡ true → ⊥
  by_step (steps.Broke end peer why) h e = absurd cc
  by_step (steps.Post end event) h e = absurd cc
  by_step (steps.Dial sock end peer) h e = absurd cc
  by_step (steps.Read sock) h e = absurd cc
  by_step (steps.Write sock bytes said) h e = absurd cc
  by_step (steps.Up sock) h e = absurd cc
  by_step (steps.Down sock) h e = absurd cc
  by_step (steps.Left sock) h e = absurd cc

  by_test : (t : Bool) → is_broke step ≡ t → (t || told_broke rest) ≡ true → list_all is_plain one.0 ≡ true → list_all is_plain (all_told place cell rest one.1).0 ≡ true → (told_broke rest ≡ true → list_all is_plain (all_told place cell rest one.1).0 ≡ true → ⊥) → ⊥
  by_test true h b e f more = by_step step h e
  by_test false h b e f more = more b f

-- in a log of plain entries none does
pub none_broke : {A : Type 0} (place : ℕ) (done : List Step) (cell : Cell) (told : List LocalEntry) (after at : Cell) (log : List Entry) (world : World) → has_broke done ≡ true → steps_on done cell ≡ Ok (told, after) → list_all is_plain (log ++ (all_told place at told world).0) ≡ true → A
none_broke place done cell told after at log world b e p = absurd (broke_unplain place at told world (broke_told done cell told after b e) (all_both log (all_told place at told world).0 p).1)

-- ---- what is got

-- the note gets a message of this pair
abbrev pub is_got : Names → ProcName → ProcName → LocalEntry → Bool
is_got known p q (local.Note (notes.Got from to receiver)) = same_process (process_called known from) p && same_target (target_called known to) (names.Process q)
is_got known p q entry = false

abbrev pub NoneGot : Names → ProcName → ProcName → List LocalEntry → Type 0
NoneGot known p q [] = Unit {0}
NoneGot known p q (entry ∷ rest) = (is_got known p q entry ≡ false) × NoneGot known p q rest

pub got_both : (p q : ProcName) (one two : List Entry) → gets_of p q (one ++ two) ≡ gets_of p q one + gets_of p q two
got_both p q one two = sum_by-append (λ (x : Entry). cond (gets_in p (names.Process q) 0 x) 1 0) one two

pub no_more : (n m : ℕ) → m ≡ 0 → n + m ≡ n
no_more n m e = omega arith

pub step_none : (p q : ProcName) (place : ℕ) (cell : Cell) (step : Step) (world : World) → gets_of p q (stepped place cell step world).0 ≡ 0
step_none p q place cell (steps.Dial sock end peer) world = refl
step_none p q place cell (steps.Post end event) world = refl
step_none p q place cell (steps.Broke end peer why) world = refl
step_none p q place cell (steps.Read sock) world = by_end (find_end place sock world.sockets) where
  by_end : (o : Option (SockName × End)) → gets_of p q (elim o as (λ o. List Entry × World) [
    | None ↦ ([], world)
    | Some at ↦ reads_item at world
  ]).0 ≡ 0
  by_end None = refl
  by_end (Some at) = refl
step_none p q place cell (steps.Write sock bytes said) world = by_end (find_end place sock world.sockets) where
  by_end : (o : Option (SockName × End)) → gets_of p q (elim o as (λ o. List Entry × World) [
    | None ↦ ([], world)
    | Some at ↦ (entries.Wrote at.0 at.1 bytes ∷ [], with_end_of at.0 (other at.1) (item_arrives bytes said) world)
  ]).0 ≡ 0
  by_end None = refl
  by_end (Some at) = refl
step_none p q place cell (steps.Up sock) world = by_end (find_end place sock world.sockets) where
  by_end : (o : Option (SockName × End)) → gets_of p q (elim o as (λ o. List Entry × World) [
    | None ↦ ([], world)
    | Some at ↦ (entries.Up at.0 at.1 ∷ [], world)
  ]).0 ≡ 0
  by_end None = refl
  by_end (Some at) = refl
step_none p q place cell (steps.Down sock) world = by_end (find_end place sock world.sockets) where
  by_end : (o : Option (SockName × End)) → gets_of p q (elim o as (λ o. List Entry × World) [
    | None ↦ ([], world)
    | Some at ↦ (entries.Down at.0 at.1 ∷ [], end_closes at world)
  ]).0 ≡ 0
  by_end None = refl
  by_end (Some at) = refl
step_none p q place cell (steps.Left sock) world = by_end (find_end place sock world.sockets) where
  by_end : (o : Option (SockName × End)) → gets_of p q (elim o as (λ o. List Entry × World) [
    | None ↦ ([], world)
    | Some at ↦ (entries.Left at.0 at.1 ∷ [], end_closes at world)
  ]).0 ≡ 0
  by_end None = refl
  by_end (Some at) = refl

pub none_told : (p q : ProcName) (place : ℕ) (cell : Cell) (told : List LocalEntry) (world : World) → NoneGot world.names p q told → gets_of p q (all_told place cell told world).0 ≡ 0
none_told p q place cell [] world n = refl
none_told p q place cell (one ∷ rest) world n = got_both p q (local_told place cell one world).0 (all_told place cell rest (local_told place cell one world).1).0
    ∙ no_more (gets_of p q (local_told place cell one world).0) (gets_of p q (all_told place cell rest (local_told place cell one world).1).0) (none_told p q place cell rest (local_told place cell one world).1 (subst (λ (known : Names). NoneGot known p q rest) (sym (told_names place cell (one ∷ []) world)) n.1)) ∙ by_entry one n.0 where
      by_first : (b c : Bool) → b ≡ false → (0 + cond (b && c) 1 0) ≡ 0
      by_first false c e = refl
      by_first true c e = absurd cc

      by_entry : (x : LocalEntry) → is_got world.names p q x ≡ false → gets_of p q (local_told place cell x world).0 ≡ 0
      by_entry (local.Step step) h = step_none p q place cell step world
      by_entry (local.Note (notes.Got from to receiver)) h = by_first (same_process (process_called world.names from) p && same_target (target_called world.names to) (names.Process q)) ((or_first world.last).epoch == 0) h
      by_entry (local.Note note) h = refl

pub steps_got : (known : Names) (p q : ProcName) (done : List Step) → NoneGot known p q (told_steps done)
steps_got known p q [] = tt
steps_got known p q (step ∷ rest) = (refl, steps_got known p q rest)

-- ---- entries that get nothing

abbrev pub is_receipt : Entry → Bool
is_receipt (entries.Got by to epoch index receiver) = true
is_receipt entry = false

abbrev pub NoGots : List Entry → Type 0
NoGots [] = Unit {0}
NoGots (entry ∷ rest) = (is_receipt entry ≡ false) × NoGots rest

pub no_gots_both : (one two : List Entry) → NoGots one → NoGots two → NoGots (one ++ two)
no_gots_both [] two n m = m
no_gots_both (x ∷ one) two n m = (n.0, no_gots_both one two n.1 m)

pub step_tells : (place : ℕ) (cell : Cell) (step : Step) (world : World) → NoGots (stepped place cell step world).0
step_tells place cell (steps.Dial sock end peer) world = (refl, tt)
step_tells place cell (steps.Post end event) world = tt
step_tells place cell (steps.Broke end peer why) world = (refl, tt)
step_tells place cell (steps.Read sock) world = by_end (find_end place sock world.sockets) where
  by_end : (o : Option (SockName × End)) → NoGots (elim o as (λ o. List Entry × World) [
    | None ↦ ([], world)
    | Some at ↦ reads_item at world
  ]).0
  by_end None = tt
  by_end (Some at) = tt
step_tells place cell (steps.Write sock bytes said) world = by_end (find_end place sock world.sockets) where
  by_end : (o : Option (SockName × End)) → NoGots (elim o as (λ o. List Entry × World) [
    | None ↦ ([], world)
    | Some at ↦ (entries.Wrote at.0 at.1 bytes ∷ [], with_end_of at.0 (other at.1) (item_arrives bytes said) world)
  ]).0
  by_end None = tt
  by_end (Some at) = (refl, tt)
step_tells place cell (steps.Up sock) world = by_end (find_end place sock world.sockets) where
  by_end : (o : Option (SockName × End)) → NoGots (elim o as (λ o. List Entry × World) [
    | None ↦ ([], world)
    | Some at ↦ (entries.Up at.0 at.1 ∷ [], world)
  ]).0
  by_end None = tt
  by_end (Some at) = (refl, tt)
step_tells place cell (steps.Down sock) world = by_end (find_end place sock world.sockets) where
  by_end : (o : Option (SockName × End)) → NoGots (elim o as (λ o. List Entry × World) [
    | None ↦ ([], world)
    | Some at ↦ (entries.Down at.0 at.1 ∷ [], end_closes at world)
  ]).0
  by_end None = tt
  by_end (Some at) = (refl, tt)
step_tells place cell (steps.Left sock) world = by_end (find_end place sock world.sockets) where
  by_end : (o : Option (SockName × End)) → NoGots (elim o as (λ o. List Entry × World) [
    | None ↦ ([], world)
    | Some at ↦ (entries.Left at.0 at.1 ∷ [], end_closes at world)
  ]).0
  by_end None = tt
  by_end (Some at) = (refl, tt)

-- the notes among them get nothing
abbrev pub NotesGetNone : List LocalEntry → Type 0
NotesGetNone [] = Unit {0}
NotesGetNone (local.Note (notes.Got from to receiver) ∷ rest) = ⊥
NotesGetNone (entry ∷ rest) = NotesGetNone rest

pub none_tell : (place : ℕ) (cell : Cell) (told : List LocalEntry) (world : World) → NotesGetNone told → NoGots (all_told place cell told world).0
none_tell place cell [] world n = tt
none_tell place cell (local.Step step ∷ rest) world n = no_gots_both (stepped place cell step world).0 (all_told place cell rest (stepped place cell step world).1).0 (step_tells place cell step world) (none_tell place cell rest (stepped place cell step world).1 n)
none_tell place cell (local.Note note ∷ rest) world n = by_note note n (λ w m. none_tell place cell rest w m) where
  by_note : (m : Note) → NotesGetNone (local.Note m ∷ rest) → ((w : World) → NotesGetNone rest → NoGots (all_told place cell rest w).0) → NoGots (all_told place cell (local.Note m ∷ rest) world).0
  by_note (notes.Got from to receiver) n more = absurd n
  by_note (notes.Made process origin) n more = (refl, more (noted (notes.Made process origin) world).1 n)
  by_note (notes.Said by to epoch index message) n more = (refl, more (noted (notes.Said by to epoch index message) world).1 n)
  by_note (notes.Again by to epoch) n more = (refl, more (noted (notes.Again by to epoch) world).1 n)
  by_note (notes.Took by port message) n more = (refl, more (noted (notes.Took by port message) world).1 n)
  by_note (notes.Port port) n more = (refl, more (noted (notes.Port port) world).1 n)
  by_note (notes.Over process reason) n more = (refl, more (noted (notes.Over process reason) world).1 n)
  by_note (notes.Doom process text) n more = (refl, more (noted (notes.Doom process text) world).1 n)
  by_note (notes.Watch watch by target kind) n more = (refl, more (noted (notes.Watch watch by target kind) world).1 n)
  by_note (notes.Unwatch watch) n more = (refl, more (noted (notes.Unwatch watch) world).1 n)
  by_note (notes.Absent watch) n more = (refl, more (noted (notes.Absent watch) world).1 n)
  by_note (notes.Told watch reason) n more = (refl, more (noted (notes.Told watch reason) world).1 n)
  by_note (notes.Asked question by at) n more = (refl, more (noted (notes.Asked question by at) world).1 n)
  by_note (notes.Spawned question process) n more = (refl, more (noted (notes.Spawned question process) world).1 n)
  by_note (notes.IsAt question found) n more = (refl, more (noted (notes.IsAt question found) world).1 n)
  by_note (notes.Named node name process) n more = (refl, more (noted (notes.Named node name process) world).1 n)
  by_note (notes.Shut node) n more = (refl, more (noted (notes.Shut node) world).1 n)

pub steps_none : (done : List Step) → NotesGetNone (told_steps done)
steps_none [] = tt
steps_none (step ∷ rest) = steps_none rest

pub steps_tell : (place : ℕ) (cell : Cell) (done : List Step) (world : World) → NoGots (all_told place cell (told_steps done) world).0
steps_tell place cell done world = none_tell place cell (told_steps done) world (steps_none done)
