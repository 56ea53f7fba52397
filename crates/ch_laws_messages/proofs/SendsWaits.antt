-- How many counted payloads wait for a link that isn't up: one for each message that was said.
use Rattle.std.proofs.Common.{◌≡◌, ℕ, suc, ◌+◌, Bool, true, false, cond, List, [], ◌∷◌, ◌++◌, length, refl, sym, ap, ◌∙◌, arith}
use Rattle.std.specs.List.{filter}
use Rattle.std.specs.Prelude.{is_some, Option, Some, None}
use Rattle.ch_wire.specs.declared.frame.Frame.{Frame}
use Rattle.ch_wire.specs.declared.frame.Frame.TheVariants as frames
use Rattle.ch_model.specs.declared.entry.Entry.{Entry}
use Rattle.ch_model.specs.declared.line.Line.{Line}
use Rattle.ch_model.specs.declared.step.Place.{Place}
use Rattle.ch_model.specs.declared.step.Weight.{Weight}
use Rattle.ch_model.specs.declared.step.Weight.TheVariants.{Counted, Free}
use Rattle.ch_model.specs.AccountsFrames.{Saying}
use Rattle.ch_model.specs.AccountsItems.{first_payload}
use Rattle.ch_model.specs.HostWrites.{said_of, is_counted, is_up, counted_in}
use Rattle.ch_model.specs.WorldState.{World}
use Rattle.ch_race.specs.Pair.{Side, other}
use Rattle.ch_laws_race.specs.Scene.{Party, link_of}
use Rattle.ch_laws_calls.specs.Scenes.{scene_of}
use Rattle.ch_laws_peers.specs.Words.{Placed, Word, words_in, waiting_as, sayings, placing, carried_after, TrueWord, TrueWords}
use Rattle.ch_laws_peers.specs.Says.{IsPlaced, ArePlaced, frames_towards, all_towards, Says}
use Rattle.ch_laws_messages.specs.SendsSends.{IsWeighed, AreWeighed}
use Rattle.ch_laws_messages.proofs.SendsHostActs.{and_one}

-- how many words have a place, besides so many
abbrev placed_from : ℕ → List Word → ℕ
placed_from n [] = n
placed_from n (word ∷ rest) = placed_from (and_one (is_some word.1) n) rest

true_words : (journal : List Line) (said : List Saying) (before : List (ℕ × List ℕ)) (n : ℕ) (words : List Word) (end : ℕ) → TrueWords journal said before n words end → placed_from n words ≡ end
true_words journal said before n [] end t = t
true_words journal said before n (word ∷ rest) end t = by_first (first_payload word.0.0 before) t.0 t.1 (λ m. true_words journal said (before ++ word.0 ∷ []) m rest end) where
  by_first : (o : Option (List ℕ)) → TrueWord journal said n word o → TrueWords journal said (before ++ word.0 ∷ []) (carried_after o n) rest end → ((m : ℕ) → TrueWords journal said (before ++ word.0 ∷ []) m rest end → placed_from m rest ≡ end) → placed_from (and_one (is_some word.1) n) rest ≡ end
  by_first None one more all = ap (λ (o : Option Place). placed_from (and_one (is_some o) n) rest) one.1 ∙ all n more
  by_first (Some opening) one more all = ap (λ (o : Option Place). placed_from (and_one (is_some o) n) rest) one.2.place ∙ all (suc n) more

counted_as : (weight : Weight) → IsWeighed weight → is_counted weight ≡ is_some (said_of weight)
counted_as Free w = refl
counted_as (Counted place) w = sym w

abbrev counted : List (Frame × Weight) → ℕ
counted waits = length (filter (λ (item : Frame × Weight). is_counted item.1) waits)

-- the same of what waits
waits_counted : (n : ℕ) (waits : List (Frame × Weight)) → AreWeighed waits → ArePlaced (waiting_as waits) → placed_from n (words_in (waiting_as waits)) ≡ n + counted waits
waits_counted n [] w p = let e : n ≡ n + 0 = omega arith in e
waits_counted n ((frame, weight) ∷ rest) w p = by_frame frame p.0 (λ m. waits_counted m rest w.1 p.1) where
  filtered : (b : Bool) → is_counted weight ≡ b → counted ((frame, weight) ∷ rest) ≡ and_one b (counted rest)
  filtered true is = ap (λ (b : Bool). length (cond b ((frame, weight) ∷ filter (λ (item : Frame × Weight). is_counted item.1) rest) (filter (λ (item : Frame × Weight). is_counted item.1) rest))) is
  filtered false is = ap (λ (b : Bool). length (cond b ((frame, weight) ∷ filter (λ (item : Frame × Weight). is_counted item.1) rest) (filter (λ (item : Frame × Weight). is_counted item.1) rest))) is

  summed : (b : Bool) → and_one b n + counted rest ≡ n + and_one b (counted rest)
  summed true = let e : suc n + counted rest ≡ n + suc (counted rest) = omega arith in e
  summed false = refl

  none : said_of weight ≡ None → n + counted rest ≡ n + counted ((frame, weight) ∷ rest)
  none is = ap (λ (m : ℕ). n + m) (sym (filtered false (counted_as weight w.0 ∙ ap is_some is)))

  by_frame : (f : Frame) → IsPlaced (f, said_of weight) → ((m : ℕ) → placed_from m (words_in (waiting_as rest)) ≡ m + counted rest) → placed_from n (words_in ((f, said_of weight) ∷ waiting_as rest)) ≡ n + counted ((frame, weight) ∷ rest)
  by_frame (frames.Data id payload) is more = more (and_one (is_some (said_of weight)) n) ∙ summed (is_some (said_of weight)) ∙ ap (λ (m : ℕ). n + m) (sym (filtered (is_some (said_of weight)) (counted_as weight w.0)))
  by_frame (frames.Created id) is more = more n ∙ none is
  by_frame (frames.Closed id) is more = more n ∙ none is
  by_frame frames.EndClosed is more = more n ∙ none is
  by_frame frames.Probe is more = more n ∙ none is
  by_frame frames.ProbeAck is more = more n ∙ none is

-- as many counted payloads wait for a link that isn't up as messages were said
pub waits_as_said : (journal : List Line) (log : List Entry) (world : World) (party : Side → Party) (x : Side) → Says journal log world party x → AreWeighed (link_of (scene_of party world) x).waits → is_up (link_of (scene_of party world) x).state ≡ false
    → counted_in (link_of (scene_of party world) x) ≡ length (sayings (party x).name (party (other x)).name log)
waits_as_said journal log world party x says weighed down =
    (let e : counted waits ≡ 0 + counted waits = omega arith in e) ∙ sym (waits_counted 0 waits weighed says.placed)
    ∙ ap (λ (l : List Placed). placed_from 0 (words_in (l ++ waiting_as waits))) (sym nothing)
    ∙ true_words journal said [] 0 (words_in (all_towards party world x log)) (length said) says.words
  where
    waits : List (Frame × Weight)
    waits = (link_of (scene_of party world) x).waits

    said : List Saying
    said = sayings (party x).name (party (other x)).name log

    nothing : placing (sayings (party x).name (party (other x)).name log) [] 0 (frames_towards (party x).name (party (other x)).name log) ≡ []
    nothing = ap (placing (sayings (party x).name (party (other x)).name log) [] 0) (says.down down)
