-- All that a node has written for another carries the first of its sayings, in order, and each end's items carry them one after another.
use Rattle.std.proofs.Common.{◌≡◌, ◌⊎◌, inl, inr, ℕ, Bool, true, false, cond, ◌==◌, List, [], ◌∷◌, ◌++◌, length, take, refl, sym, ap, ◌∙◌, subst}
use Rattle.std.proofs.lemmas.Bool.{eqb-true}
use Rattle.std.proofs.lemmas.List.{append-nil, map-append}
use Rattle.std.proofs.lemmas.List.Elements.{filter_map-append}
use Rattle.std.proofs.lemmas.List.Folds.{find-append}
use Rattle.std.specs.Option.{option_map, option_or}
use Rattle.std.specs.Prelude.{find, Option, Some, None}
use Rattle.ch_model.specs.declared.entry.Entry.{Entry}
use Rattle.ch_model.specs.declared.line.Line.{Line}
use Rattle.ch_model.specs.declared.name.End.{End}
use Rattle.ch_model.specs.declared.name.SockName.{SockName}
use Rattle.ch_model.specs.AccountsFrames.{Saying}
use Rattle.ch_model.specs.AccountsItems.{frames_of, first_payload, opens_nodes}
use Rattle.ch_model.specs.WorldState.{World}
use Rattle.ch_race.specs.Pair.{Side, other}
use Rattle.ch_laws_calls.specs.Scenes.{IsPairOf, scene_of}
use Rattle.ch_laws_plain_logs.proofs.Pairs.{of_pair}
use Rattle.ch_laws_plain_logs.proofs.Simply.{said_between_plainly}
use Rattle.ch_laws_race.specs.Scene.{Party, link_of}
use Rattle.ch_laws_peers.specs.Words.{Word, word_of, words_in, datas_in, carried_after, waiting_as, sayings, opens_one, TrueWord, TrueWords}
use Rattle.ch_laws_peers.specs.Says.{frames_towards, towards, all_towards, IsUpOn, Says, AllSay}
use Rattle.ch_laws_peers.specs.Standing.{Standing}
use Rattle.ch_laws_messages.specs.CarriedCounts.{carried_in}
use Rattle.ch_laws_messages.specs.CarriedInTime.{datas_to, AllInTime}
use Rattle.ch_laws_messages.specs.CarriedWritten.{AllWritten}
use Rattle.ch_laws_messages.proofs.CarriedCounting.{Data, placing_datas}
use Rattle.ch_laws_messages.proofs.CarriedSure.{Sure, first_front}
use Rattle.ch_laws_messages.proofs.CarriedCarries.{written_first}
use Rattle.ch_laws_messages.proofs.CarriedArrives.{all_arrive}

-- ---- what is first under an id

first_later : (id : ℕ) (before : List Data) (d : Data) → first_payload id before ≡ None → (d.0 == id) ≡ false → first_payload id (before ++ d ∷ []) ≡ None
first_later id before d none off = ap (option_map (λ (d : Data). d.1)) (find-append (λ (d : Data). d.0 == id) before (d ∷ [])) ∙ by_found (find (λ (d : Data). d.0 == id) before) none where
  by_found : (o : Option Data) → option_map (λ (d : Data). d.1) o ≡ None → option_map (λ (d : Data). d.1) (option_or o (cond (d.0 == id) (Some d) None)) ≡ None
  by_found None e = ap (λ (b : Bool). option_map (λ (d : Data). d.1) (cond b (Some d) None)) off
  by_found (Some d) e = absurd cc

-- true words that are first under their ids are openings
first_opens : (journal : List Line) (said : List Saying) (before : List Data) (n : ℕ) (words : List Word) (end id : ℕ) (one : List ℕ) → TrueWords journal said before n words end → first_payload id before ≡ None → first_payload id (datas_in words) ≡ Some one → opens_one journal said one ≡ true
first_opens journal said before n [] end id one t none e = absurd cc
first_opens journal said before n (word ∷ rest) end id one t none e = by_test (word.0.0 == id) refl e (first_opens journal said (before ++ word.0 ∷ []) (carried_after (first_payload word.0.0 before) n) rest end id one t.1) where
  opens : (o : Option (List ℕ)) → o ≡ None → TrueWord journal said n word o → opens_one journal said word.0.1 ≡ true
  opens None h w = w.0
  opens (Some opening) h w = absurd cc

  same : (a b : ℕ) → (a == b) ≡ true → a ≡ b
  same a b e = eqb-true a b e

  by_test : (b : Bool) → (word.0.0 == id) ≡ b → option_map (λ (d : Data). d.1) (cond b (Some word.0) (find (λ (d : Data). d.0 == id) (datas_in rest))) ≡ Some one
      → (first_payload id (before ++ word.0 ∷ []) ≡ None → first_payload id (datas_in rest) ≡ Some one → opens_one journal said one ≡ true) → opens_one journal said one ≡ true
  by_test true h e more = let is : word.0.1 ≡ one = cc in subst (λ (p : List ℕ). opens_one journal said p ≡ true) is (opens (first_payload word.0.0 before) (ap (λ (k : ℕ). first_payload k before) (same word.0.0 id h) ∙ none) t.0)
  by_test false h e more = more (first_later id before word.0 none h) e

-- ---- what a node has written, and what waits

-- the payloads that are written stand before those that wait
pub datas_before : (party : Side → Party) (world : World) (x : Side) (log : List Entry) → datas_in (words_in (all_towards party world x log)) ≡ datas_to (party x).name (party (other x)).name log ++ datas_in (words_in (waiting_as (link_of (scene_of party world) x).waits))
datas_before party world x log = ap datas_in (filter_map-append word_of (towards (party x).name (party (other x)).name log) (waiting_as (link_of (scene_of party world) x).waits))
    ∙ map-append (λ (w : Word). w.0) (words_in (towards (party x).name (party (other x)).name log)) (words_in (waiting_as (link_of (scene_of party world) x).waits))
    ∙ ap (λ (l : List Data). l ++ datas_in (words_in (waiting_as (link_of (scene_of party world) x).waits))) (placing_datas (sayings (party x).name (party (other x)).name log) [] 0 (frames_towards (party x).name (party (other x)).name log))

sure : (journal : List Line) (log : List Entry) (world : World) (party : Side → Party) (x : Side) → IsPairOf journal party → Standing journal log world → Says journal log world party x → AllInTime journal log world → Sure journal (party x).name (party (other x)).name (sayings (party x).name (party (other x)).name log) log
sure journal log world party x pair st s in_time = record {
  plain = st.kinds;
  one = λ t e is. by_one t e (s.one t e is);
  openings = opens_none;
  in_time = in_time party pair x;
  more = [];
  said_is = append-nil (sayings (party x).name (party (other x)).name log);
} where
  by_one : (t : SockName) (e : End) → (frames_of log t e ≡ []) ⊎ (IsUpOn party world x t e × (frames_of log t e ≡ frames_towards (party x).name (party (other x)).name log)) → (frames_of log t e ≡ []) ⊎ (frames_of log t e ≡ frames_towards (party x).name (party (other x)).name log)
  by_one t e (inl none) = inl none
  by_one t e (inr all) = inr all.1

  opens_none : (id : ℕ) (opening : List ℕ) → first_payload id (datas_to (party x).name (party (other x)).name log) ≡ Some opening → (u v : List ℕ) → opens_nodes journal u v opening ≡ false
  opens_none id opening first u v = of_pair journal log u v (party x).name (party (other x)).name opening (ap (λ (said : List Saying). opens_one journal said opening) (said_between_plainly log (party x).name (party (other x)).name st.kinds)
      ∙ first_opens journal (sayings (party x).name (party (other x)).name log) [] 0 (words_in (all_towards party world x log)) (length (sayings (party x).name (party (other x)).name log)) id opening s.words refl
      (ap (first_payload id) (datas_before party world x log) ∙ first_front id (datas_to (party x).name (party (other x)).name log) (datas_in (words_in (waiting_as (link_of (scene_of party world) x).waits))) opening first))

pub all_written : (journal : List Line) (log : List Entry) (world : World) → Standing journal log world → AllSay journal log world → AllInTime journal log world → AllWritten journal log world
all_written journal log world st say in_time party pair x = record {
  said = said_between_plainly log (party x).name (party (other x)).name st.kinds;
  wrote = written_first journal (party x).name (party (other x)).name said log k ∙ ap (λ (l : List Data). take (carried_in [] l) said) (sym (placing_datas said [] 0 (frames_towards (party x).name (party (other x)).name log)));
  arriving = λ s e is. all_arrive journal (party x).name (party (other x)).name said log s e k is;
} where
  said : List Saying
  said = sayings (party x).name (party (other x)).name log

  k : Sure journal (party x).name (party (other x)).name said log
  k = sure journal log world party x pair st (say party pair x) in_time
