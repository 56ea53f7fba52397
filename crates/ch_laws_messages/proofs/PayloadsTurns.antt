-- The openings that are written are of pairs that have said something: nothing is said behind a writing in a turn.
use Rattle.std.proofs.Common.{◌≡◌, ◌⊎◌, inl, inr, ℕ, ◌+◌, true, List, [], ◌∷◌, ◌++◌, refl, sym, ap, ◌∙◌, subst}
use Rattle.std.proofs.lemmas.List.{append-nil}
use Rattle.std.proofs.lemmas.List.Elements.{filter_map-append}
use Rattle.std.specs.List.{cons_option}
use Rattle.std.specs.Prelude.{filter_map, Option, Some, None}
use Rattle.ch_wire.specs.declared.frame.Frame.{Frame}
use Rattle.ch_wire.specs.declared.frame.Frame.TheVariants as frames
use Rattle.ch_model.specs.declared.entry.Entry.{Entry}
use Rattle.ch_model.specs.declared.entry.Entry.TheVariants as entries
use Rattle.ch_model.specs.declared.line.Line.{Line}
use Rattle.ch_model.specs.AccountsFrames.{Saying}
use Rattle.ch_model.specs.AccountsItems.{first_payload}
use Rattle.ch_model.specs.CellSteps.{told_steps}
use Rattle.ch_model.specs.Naming.{Names}
use Rattle.ch_model.specs.World.{world_new}
use Rattle.ch_model.specs.WorldHappenings.{with_cell}
use Rattle.ch_model.specs.WorldState.{World}
use Rattle.ch_race.specs.Pair.{other}
use Rattle.ch_laws_calls.specs.Calls.{Both, with_host, joined_in, come_in, fed_in}
use Rattle.ch_laws_many.specs.ManyLines.{is_of_many}
use Rattle.ch_laws_calls.specs.Turns.{KeepsTurns}
use Rattle.ch_laws_plain_logs.specs.Plain.{said_by}
use Rattle.ch_laws_peers.specs.Words.{sayings, opens_one}
use Rattle.ch_laws_peers.specs.Says.{written_by, AllSay}
use Rattle.ch_laws_peers.specs.Standing.{Standing}
use Rattle.ch_laws_messages.proofs.SaidAsks.{asks_plainly}
use Rattle.ch_laws_messages.proofs.SaidItemTurn.{told_unsaid}
use Rattle.ch_laws_messages.specs.CarriedCounts.{carried_in}
use Rattle.ch_laws_messages.specs.CarriedInTime.{datas_to}
use Rattle.ch_laws_messages.specs.PayloadsOpens.{OpensInTime, AllOpenInTime}
use Rattle.ch_laws_messages.proofs.PayloadsWords.{IsTrueAt}
use Rattle.ch_laws_messages.proofs.PayloadsTalks.{Talks, next_true}
use Rattle.ch_laws_messages.proofs.PayloadsPayloads.{talks_of}
use Rattle.ch_laws_messages.proofs.PayloadsTold.{OnlyFirst, first_told, unsaid_may, steps_unsaid, followed_unsaid, acted_first, make_first, command_first}
use Rattle.ch_laws_messages.proofs.PayloadsOwners.{back_none}

-- ---- where an entry stands

split_at : (log told front rest : List Entry) (entry : Entry) → front ++ entry ∷ rest ≡ log ++ told → ((r : List Entry) × (front ++ entry ∷ r ≡ log)) ⊎ ((f : List Entry) × (front ≡ log ++ f) × (f ++ entry ∷ rest ≡ told))
split_at [] told front rest entry at = inr (front, refl, at)
split_at (l ∷ log) told [] rest entry at = let same : entry ≡ l = cc in inl (log, ap (λ (e : Entry). e ∷ log) same)
split_at (l ∷ log) told (g ∷ front) rest entry at = with_rest same (split_at log told front rest entry behind) where
  same : g ≡ l
  same = cc

  behind : front ++ entry ∷ rest ≡ log ++ told
  behind = cc

  with_rest : g ≡ l → ((r : List Entry) × (front ++ entry ∷ r ≡ log)) ⊎ ((f : List Entry) × (front ≡ log ++ f) × (f ++ entry ∷ rest ≡ told)) → ((r : List Entry) × (g ∷ (front ++ entry ∷ r) ≡ l ∷ log)) ⊎ ((f : List Entry) × (g ∷ front ≡ l ∷ (log ++ f)) × (f ++ entry ∷ rest ≡ told))
  with_rest e (inl r) = inl (r.0, ap (λ (x : Entry). x ∷ (front ++ entry ∷ r.0)) e ∙ ap (λ (xs : List Entry). l ∷ xs) r.1)
  with_rest e (inr f) = inr (f.0, ap (λ (x : Entry). x ∷ front) e ∙ ap (λ (xs : List Entry). l ∷ xs) f.1, f.2)

-- what writes says nothing
wrote_unsaid : (x y : List ℕ) (front : List Entry) (entry : Entry) (frame : Frame) → written_by x y front entry ≡ Some frame → said_by x y entry ≡ None
wrote_unsaid x y front (entries.Said by to epoch index mark body) frame e = absurd cc
wrote_unsaid x y front entry frame e = refl

none_behind : (x y : List ℕ) (f rest : List Entry) (entry : Entry) → OnlyFirst (f ++ entry ∷ rest) → said_by x y entry ≡ None → filter_map (said_by x y) (entry ∷ rest) ≡ []
none_behind x y [] rest entry only none = ap (λ (o : Option Saying). cons_option o (filter_map (said_by x y) rest)) none ∙ only x y
none_behind x y (g ∷ f) rest entry only none = back_none (filter_map (said_by x y) f) (filter_map (said_by x y) (entry ∷ rest)) (sym (filter_map-append (said_by x y) f (entry ∷ rest)) ∙ only x y)

-- ---- one turn

opens_on : (journal : List Line) (x y : List ℕ) (log told : List Entry) → OpensInTime journal x y log → OnlyFirst told → Talks journal x y (log ++ told) → OpensInTime journal x y (log ++ told)
opens_on journal x y log told old only t = λ front rest entry id payload at wrote first. by_place front rest entry id payload at wrote first (split_at log told front rest entry at) where
  opened : (front : List Entry) (id n : ℕ) (payload : List ℕ) (o : Option (List ℕ)) → o ≡ None → IsTrueAt journal (sayings x y (log ++ told)) n id payload o → opens_one journal (sayings x y (log ++ told)) payload ≡ true
  opened front id n payload None e word = word.1.0
  opened front id n payload (Some opening) e word = absurd cc

  all_said : (front rest : List Entry) (entry : Entry) → front ++ entry ∷ rest ≡ log ++ told → filter_map (said_by x y) (entry ∷ rest) ≡ [] → sayings x y (log ++ told) ≡ sayings x y front
  all_said front rest entry at none = ap (sayings x y) (sym at) ∙ filter_map-append (said_by x y) front (entry ∷ rest) ∙ ap (λ (l : List Saying). sayings x y front ++ l) none ∙ append-nil (sayings x y front)

  by_place : (front rest : List Entry) (entry : Entry) (id : ℕ) (payload : List ℕ) → front ++ entry ∷ rest ≡ log ++ told → written_by x y front entry ≡ Some (frames.Data id payload) → first_payload id (datas_to x y front) ≡ None
      → ((r : List Entry) × (front ++ entry ∷ r ≡ log)) ⊎ ((f : List Entry) × (front ≡ log ++ f) × (f ++ entry ∷ rest ≡ told)) → opens_one journal (sayings x y front) payload ≡ true
  by_place front rest entry id payload at wrote first (inl r) = old front r.0 entry id payload r.1 wrote first
  by_place front rest entry id payload at wrote first (inr f) = subst (λ (said : List Saying). opens_one journal said payload ≡ true)
      (all_said front rest entry at (none_behind x y f.0 rest entry (subst OnlyFirst (sym f.2) only) (wrote_unsaid x y front entry (frames.Data id payload) wrote)))
      (opened front id (carried_in [] (datas_to x y front)) payload (first_payload id (datas_to x y front)) first (next_true journal x y (log ++ told) t front rest entry id payload at wrote))

pub openings_on : (journal : List Line) (log told : List Entry) (world after : World) → AllOpenInTime journal log world → OnlyFirst told → Both (Standing journal) (AllSay journal) (log ++ told) after → AllOpenInTime journal (log ++ told) after
openings_on journal log told world after old only q = λ party pair x. opens_on journal (party x).name (party (other x)).name log told (old party pair x) only (talks_of journal (log ++ told) after party x q.0.kinds (q.1 party pair x))

-- ---- all turns

pub openings_fresh : (journal : List Line) → AllOpenInTime journal [] (world_new journal)
openings_fresh journal = λ party pair x front rest entry id payload at wrote first. none front rest entry at where
  none : {A : Type 0} (front rest : List Entry) (entry : Entry) → front ++ entry ∷ rest ≡ [] → A
  none [] rest entry at = absurd cc
  none (g ∷ front) rest entry at = absurd cc

pub openings_kept : (journal : List Line) → KeepsTurns journal (Both (Standing journal) (AllSay journal)) (Both (Standing journal) (AllSay journal)) (AllOpenInTime journal)
openings_kept journal = record {
  marked = λ log world number what answer line of p j q. openings_on journal log (entries.Line number answer ∷ []) world world j (λ x y. refl) q;
  made = λ log world place cell end number node acts next told after at found does all p j q. openings_on journal log _ world _ j (first_told place after told (with_cell place (after, cell.1) world) (acted_first end acts _ told after (make_first node next acts does) all)) q;
  asked = λ log world what by command place cell number node acts next told after asks at found does all p j q. openings_on journal log _ world _ j
      (first_told place after told (with_cell place (after, cell.1) world) (acted_first _ acts _ told after (command_first world node next by.counter command _ acts
      (asks_plainly world.names what by command (subst (λ (known : Names). is_of_many known what ≡ true) (sym p.0.all.sound.ends.set.names) asks.of) asks.asks).sends does) all)) q;
  joined = λ log world socket place n cell steps host is may held called read p j q. openings_on journal log _ world _ j (λ x y. told_unsaid x y place (with_host cell host) (told_steps steps) (with_cell place (with_host cell host, cell.1) (joined_in socket world)) (steps_unsaid steps)) q;
  came = λ log world socket place cell steps host is may of called read p j q. openings_on journal log _ world _ j (λ x y. told_unsaid x y place (with_host (cell.0, cell.1 + 1) host) (told_steps steps) (with_cell place (with_host (cell.0, cell.1 + 1) host, cell.1 + 1) (come_in place cell socket world)) (steps_unsaid steps)) q;
  fed = λ log world socket which count b bytes place n cell steps host is may taken held called read p j q. openings_on journal log _ world _ j (λ x y. told_unsaid x y place (with_host cell host) (told_steps steps) (with_cell place (with_host cell host, cell.1) (fed_in which count socket world)) (steps_unsaid steps)) q;
  ended = λ log world socket which place n cell steps host told after is may none held called all read p j q. openings_on journal log _ world _ j (λ x y. told_unsaid x y place after told (with_cell place (after, cell.1) world) (followed_unsaid steps (with_host cell host) told after all)) q;
  item = λ log world place cell steps host told after at next all p j q. openings_on journal log _ world _ j (first_told place after told (with_cell place (after, cell.1) world) (unsaid_may told (followed_unsaid steps (with_host cell host) told after all))) q;
}
