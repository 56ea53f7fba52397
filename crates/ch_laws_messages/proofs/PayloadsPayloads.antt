-- Each payload that is written is true: it opens the connection of a pair, or carries what was said next; and none is of a connection from node to node.
use Rattle.std.proofs.Common.{◌≡◌, ◌⊎◌, inl, inr, ℕ, zero, suc, ◌<◌, ◌≤◌, Bool, true, false, not, ◌&&◌, ◌||◌, ◌==◌, List, [], ◌∷◌, ◌++◌, length, refl, sym, ap, ◌∙◌, subst, append_assoc, arith}
use Rattle.std.proofs.lemmas.Bool.{and_parts}
use Rattle.std.proofs.lemmas.List.Elements.{filter_map-append}
use Rattle.std.proofs.lemmas.List.Folds.{list_all-append}
use Rattle.std.proofs.lemmas.Slice.Eq.{bytes_eq-Decides}
use Rattle.std.specs.List.{list_all}
use Rattle.std.specs.Prelude.{filter_map, slice_get, Option, Some, None, is_some, if◌then◌else◌}
use Rattle.std.specs.Str.{bytes_eq}
use Rattle.ch_wire.specs.declared.frame.Frame.{Frame}
use Rattle.ch_wire.specs.declared.frame.Frame.TheVariants as frames
use Rattle.ch_model.specs.declared.entry.Entry.{Entry}
use Rattle.ch_model.specs.declared.entry.Entry.TheVariants as entries
use Rattle.ch_model.specs.declared.line.Line.{Line}
use Rattle.ch_model.specs.declared.name.End.{End}
use Rattle.ch_model.specs.declared.name.SockName.{SockName}
use Rattle.ch_model.specs.Accounts.{IsBroughtAbout}
use Rattle.ch_model.specs.AccountsFrames.{Saying, data_written, datas, is_user_data, next_carried, pair_opening, payload_of}
use Rattle.ch_model.specs.AccountsItems.{frame_of, frames_of, data_of, first_payload, opens_nodes}
use Rattle.ch_model.specs.AccountsMessages.{opens_a_pair, is_true_opening, same_bytes, carries_it, is_true_data, writes_true_data}
use Rattle.ch_model.specs.Logs.{each, each_after, some_and, none_or}
use Rattle.ch_model.specs.Same.{owner, across, is_end_of, same_socket, same_end}
use Rattle.ch_model.specs.Sockets.{writings}
use Rattle.ch_model.specs.WorldState.{World}
use Rattle.ch_race.specs.Pair.{Side, other}
use Rattle.ch_laws_log.proofs.Stored.{self_same}
use Rattle.ch_laws_race.specs.Scene.{Party, link_of}
use Rattle.ch_laws_calls.specs.Scenes.{scene_of}
use Rattle.ch_laws_calls.specs.ScenesPairs.{IsPairFor}
use Rattle.ch_laws_plain_logs.specs.Plain.{is_plain, IsPlain, opens_no_nodes, writes_no_nodes, WritesNoNodes, said_by}
use Rattle.ch_laws_plain_logs.proofs.Lawful.{all_of_nodes}
use Rattle.ch_laws_plain_logs.proofs.Simply.{said_between_plainly, carried_next}
use Rattle.ch_laws_peers.specs.Words.{Word, words_in, waiting_as, carried_after, sayings, opens_one, TrueWords}
use Rattle.ch_laws_peers.specs.Says.{written_by, frames_towards, towards, IsUpOn, Says, AllSay}
use Rattle.ch_laws_peers.specs.Standing.{IsOfNodes, Standing}
use Rattle.ch_laws_messages.proofs.SaidLogs.{OthersNone, same_place, same_self}
use Rattle.ch_laws_messages.proofs.SaidWords.{words_append}
use Rattle.ch_laws_messages.specs.CarriedCounts.{carried_in}
use Rattle.ch_laws_messages.specs.CarriedInTime.{datas_to, IsInTime, AllInTime}
use Rattle.ch_laws_messages.specs.PayloadsOpens.{OpensInTime, AllOpenInTime}
use Rattle.ch_laws_messages.proofs.PayloadsFrames.{OneWrites, same_frames}
use Rattle.ch_laws_messages.proofs.PayloadsWords.{IsTrueAt, carried_last}
use Rattle.ch_laws_messages.proofs.PayloadsTalks.{Talks, next_true, pair_no_nodes, counted, datas_more, wrote_is}
use Rattle.ch_laws_messages.proofs.PayloadsOwners.{pair_at}

-- ---- what two nodes have to say

one_writes : (journal : List Line) (log : List Entry) (world : World) (party : Side → Party) (x : Side) → Says journal log world party x → OneWrites (party x).name (party (other x)).name log
one_writes journal log world party x says s e is = by_one (says.one s e is) where
  a : List ℕ
  a = (party x).name

  b : List ℕ
  b = (party (other x)).name

  others : IsUpOn party world x s e → (t : SockName) (f : End) → (same_socket t s && same_end f e) ≡ false → (frames_of log t f ≡ []) ⊎ (IsUpOn party world x t f × (frames_of log t f ≡ frames_towards a b log)) → frames_of log t f ≡ []
  others u t f off (inl none) = none
  others u t f off (inr v) =
      let same = same_place party world x s e t f u v.0 in
      let yes : (same_socket t s && same_end f e) ≡ true = ap (λ (at : SockName × End). same_socket at.0 s && same_end at.1 e) same ∙ ap (λ (b : Bool). b && same_end e e) (self_same s) ∙ same_self e in
      let no : true ≡ false = sym yes ∙ off in absurd cc

  by_one : (frames_of log s e ≡ []) ⊎ (IsUpOn party world x s e × (frames_of log s e ≡ frames_towards a b log)) → (frames_of log s e ≡ []) ⊎ OthersNone a b (Some (s, e)) log
  by_one (inl none) = inl none
  by_one (inr u) = inr (λ t f is off. others u.0 t f off (says.one t f is))

pub talks_of : (journal : List Line) (log : List Entry) (world : World) (party : Side → Party) (x : Side) → IsPlain log → Says journal log world party x → Talks journal (party x).name (party (other x)).name log
talks_of journal log world party x plain says = record {
  plain = plain;
  more = words_in (waiting_as (link_of (scene_of party world) x).waits);
  end = length said;
  words = subst (λ (words : List Word). TrueWords journal said [] 0 words (length said)) (words_append (towards (party x).name (party (other x)).name log) (waiting_as (link_of (scene_of party world) x).waits)) says.words;
  one = one_writes journal log world party x says;
} where
  said : List Saying
  said = sayings (party x).name (party (other x)).name log

-- of two nodes by their names
for_names : (journal : List Line) (x y : List ℕ) (J : List ℕ → List ℕ → Type 0) → (p : IsPairFor journal x y) → J (p.party p.side).name (p.party (other p.side)).name → J x y
for_names journal x y J p j = subst (λ (a : List ℕ). J a y) p.first (subst (J (p.party p.side).name) p.second j)

talks_for : (journal : List Line) (log : List Entry) (world : World) → Standing journal log world → AllSay journal log world → (x y : List ℕ) → IsPairFor journal x y → Talks journal x y log
talks_for journal log world st say x y p = for_names journal x y (λ a b. Talks journal a b log) p (talks_of journal log world p.party p.side st.kinds (say p.party p.pair p.side))

-- ---- each entry

each_from : (test : List Entry → Entry → Bool) (log : List Entry) → ((front rest : List Entry) (entry : Entry) → front ++ entry ∷ rest ≡ log → test front entry ≡ true) → (before rest : List Entry) → before ++ rest ≡ log → each_after test before rest ≡ true
each_from test log all before [] at = refl
each_from test log all before (entry ∷ rest) at = ap (λ (b : Bool). b && each_after test (before ++ entry ∷ []) rest) (all before rest entry at) ∙ each_from test log all (before ++ entry ∷ []) rest (append_assoc before (entry ∷ []) rest ∙ at)

pub each_entry : (test : List Entry → Entry → Bool) (log : List Entry) → ((front rest : List Entry) (entry : Entry) → front ++ entry ∷ rest ≡ log → test front entry ≡ true) → each test log ≡ true
each_entry test log all = each_from test log all [] log refl

-- a test of the payloads that are written, of each of a pair of nodes
abbrev PayloadsPass : List Line → List Entry → (List Entry → SockName → End → ℕ × List ℕ → Bool) → Type 0
PayloadsPass journal log test = (front rest : List Entry) (s : SockName) (e : End) (bytes : List ℕ) (id : ℕ) (payload : List ℕ) → front ++ entries.Wrote s e bytes ∷ rest ≡ log → (length (writings front s e) == 0) ≡ false → frame_of bytes ≡ Some (frames.Data id payload)
    → IsPairFor journal (owner s e) (owner s (across e)) → test front s e (id, payload) ≡ true

payload_passes : (journal : List Line) → IsOfNodes journal → (log : List Entry) (world : World) → Standing journal log world → (test : List Entry → SockName → End → ℕ × List ℕ → Bool) → PayloadsPass journal log test
    → (front rest : List Entry) (s : SockName) (e : End) (bytes : List ℕ) → front ++ entries.Wrote s e bytes ∷ rest ≡ log → (length (writings front s e) == 0 || none_or (test front s e) (data_written front s e bytes)) ≡ true
payload_passes journal j log world st test all front rest s e bytes at = by_first (length (writings front s e) == 0) refl where
  by_frame : (length (writings front s e) == 0) ≡ false → (o : Option Frame) → frame_of bytes ≡ o → none_or (test front s e) (elim o as (λ o. Option (ℕ × List ℕ)) [ None ↦ None | Some frame ↦ data_of frame ]) ≡ true
  by_frame first None is = refl
  by_frame first (Some (frames.Data id payload)) is = all front rest s e bytes id payload at first is (pair_at journal j log world st front rest s e bytes (frames.Data id payload) at is)
  by_frame first (Some frame) is = refl

  by_first : (b : Bool) → (length (writings front s e) == 0) ≡ b → (b || none_or (test front s e) (data_written front s e bytes)) ≡ true
  by_first true first = refl
  by_first false first = by_frame first (frame_of bytes) refl

-- ---- one payload

self_end : (s : SockName) (e : End) → is_end_of (owner s e) (owner s (across e)) s e ≡ true
self_end s e = ap (λ (b : Bool). b && bytes_eq (owner s (across e)) (owner s (across e))) ((bytes_eq-Decides (owner s e) (owner s e)).1 refl) ∙ (bytes_eq-Decides (owner s (across e)) (owner s (across e))).1 refl

plain_front : (front rest log : List Entry) → front ++ rest ≡ log → IsPlain log → IsPlain front
plain_front front rest log at plain = (and_parts (list_all is_plain front) (list_all is_plain rest) (sym (list_all-append is_plain front rest) ∙ ap (list_all is_plain) at ∙ plain)).0

or_second : (a b : Bool) → b ≡ true → (a || b) ≡ true
or_second true b e = refl
or_second false b e = e

got_before : {A : Type 0} (xs ys : List A) (n : ℕ) → n < length xs → slice_get (xs ++ ys) n ≡ slice_get xs n
got_before [] ys n less = absurd (omega arith)
got_before (x ∷ xs) ys zero less = refl
got_before (x ∷ xs) ys (suc n) less = got_before xs ys n (omega arith)

-- what is carried behind as many as were carried before is known by then
one_carries : (journal : List Line) (datas : List (ℕ × List ℕ)) (id : ℕ) (payload opening : List ℕ) (s : Saying) → first_payload id datas ≡ Some opening → payload ≡ payload_of s → pair_opening journal s.by s.to ≡ Some opening → carries_it journal datas (id, payload) s ≡ true
one_carries journal datas id payload opening s first is opens = ap (λ (b : Bool). b && same_bytes (first_payload id datas) (pair_opening journal s.by s.to)) ((bytes_eq-Decides payload (payload_of s)).1 is)
    ∙ ap (λ (o : Option (List ℕ)). same_bytes o (pair_opening journal s.by s.to)) first ∙ ap (same_bytes (Some opening)) opens ∙ (bytes_eq-Decides opening opening).1 refl

payload_true : (journal : List Line) (log front rest : List Entry) (s : SockName) (e : End) (bytes : List ℕ) (id : ℕ) (payload : List ℕ) → Talks journal (owner s e) (owner s (across e)) log → IsInTime (owner s e) (owner s (across e)) log → OpensInTime journal (owner s e) (owner s (across e)) log
    → front ++ entries.Wrote s e bytes ∷ rest ≡ log → (length (writings front s e) == 0) ≡ false → frame_of bytes ≡ Some (frames.Data id payload) → is_true_data journal front s e (id, payload) ≡ true
payload_true journal log front rest s e bytes id payload t in_time opens at first framed = by_first (first_payload id (datas_to x y front)) refl (next_true journal x y log t front rest entry id payload at wrote) where
  x : List ℕ
  x = owner s e

  y : List ℕ
  y = owner s (across e)

  entry : Entry
  entry = entries.Wrote s e bytes

  n : ℕ
  n = carried_in [] (datas_to x y front)

  same : datas front s e ≡ datas_to x y front
  same = ap (filter_map data_of) (same_frames x y log t.one front rest s e bytes (frames.Data id payload) at (self_end s e) first framed)

  wrote : written_by x y front entry ≡ Some (frames.Data id payload)
  wrote = wrote_is x y front s e bytes true false (self_end s e) first ∙ framed

  plain : IsPlain front
  plain = plain_front front (entry ∷ rest) log at t.plain

  later : Bool
  later = not (is_user_data journal front s e (id, payload)) || some_and (carries_it journal (datas front s e) (id, payload)) (next_carried journal front x y)

  more : sayings x y front ++ filter_map (said_by x y) (entry ∷ rest) ≡ sayings x y log
  more = sym (filter_map-append (said_by x y) front (entry ∷ rest)) ∙ ap (sayings x y) at

  below : (opening : List ℕ) → first_payload id (datas_to x y front) ≡ Some opening → suc n ≤ length (sayings x y front)
  below opening is = subst (λ (k : ℕ). k ≤ length (sayings x y front)) (ap (carried_in []) (datas_more x y front entry id payload wrote) ∙ carried_last (datas_to x y front) (id, payload) ∙ ap (λ (o : Option (List ℕ)). carried_after o n) is) (in_time front rest s e bytes at (self_end s e))

  less : (a b : ℕ) → suc a ≤ b → a < b
  less a b h = omega arith

  next_is : (opening : List ℕ) (saying : Saying) → first_payload id (datas_to x y front) ≡ Some opening → slice_get (sayings x y log) n ≡ Some saying → next_carried journal front x y ≡ Some saying
  next_is opening saying is got = carried_next journal front x y plain ∙ ap (slice_get (sayings x y front)) (counted journal x y log t front (entry ∷ rest) at)
      ∙ sym (got_before (sayings x y front) (filter_map (said_by x y) (entry ∷ rest)) n (less n (length (sayings x y front)) (below opening is))) ∙ ap (λ (l : List Saying). slice_get l n) more ∙ got

  by_first : (o : Option (List ℕ)) → first_payload id (datas_to x y front) ≡ o → IsTrueAt journal (sayings x y log) n id payload o → is_true_data journal front s e (id, payload) ≡ true
  by_first None is word = ap (λ (b : Bool). if b then later else is_true_opening journal front s e payload) (ap is_some (ap (first_payload id) same ∙ is))
      ∙ or_second (opens_nodes journal x y payload) (opens_a_pair journal front x y payload) (ap (λ (said : List Saying). opens_one journal said payload) (said_between_plainly front x y plain) ∙ opens front rest entry id payload at wrote is)
  by_first (Some opening) is word = ap (λ (b : Bool). if b then later else is_true_opening journal front s e payload) (ap is_some (ap (first_payload id) same ∙ is))
      ∙ or_second (not (is_user_data journal front s e (id, payload))) (some_and (carries_it journal (datas front s e) (id, payload)) (next_carried journal front x y))
      (ap (some_and (carries_it journal (datas front s e) (id, payload))) (next_is opening word.1.0 is word.1.1) ∙ one_carries journal (datas front s e) id payload opening word.1.0 (ap (first_payload id) same ∙ is) word.1.2.payload word.1.2.pair)

payload_no_nodes : (journal : List Line) (log front rest : List Entry) (s : SockName) (e : End) (bytes : List ℕ) (id : ℕ) (payload : List ℕ) → Talks journal (owner s e) (owner s (across e)) log
    → front ++ entries.Wrote s e bytes ∷ rest ≡ log → (length (writings front s e) == 0) ≡ false → frame_of bytes ≡ Some (frames.Data id payload) → opens_no_nodes journal front s e (id, payload) ≡ true
payload_no_nodes journal log front rest s e bytes id payload t at first framed = by_first (first_payload id (datas_to x y front)) refl (next_true journal x y log t front rest (entries.Wrote s e bytes) id payload at (wrote_is x y front s e bytes true false (self_end s e) first ∙ framed)) where
  x : List ℕ
  x = owner s e

  y : List ℕ
  y = owner s (across e)

  same : datas front s e ≡ datas_to x y front
  same = ap (filter_map data_of) (same_frames x y log t.one front rest s e bytes (frames.Data id payload) at (self_end s e) first framed)

  by_first : (o : Option (List ℕ)) → first_payload id (datas_to x y front) ≡ o → IsTrueAt journal (sayings x y log) (carried_in [] (datas_to x y front)) id payload o → opens_no_nodes journal front s e (id, payload) ≡ true
  by_first None is word = or_second (is_some (first_payload id (datas front s e))) (not (opens_nodes journal x y payload)) (ap not (pair_no_nodes journal x y log t x y payload word.1.0))
  by_first (Some opening) is word = ap (λ (b : Bool). b || not (opens_nodes journal x y payload)) (ap is_some (ap (first_payload id) same ∙ is))

-- ---- all

pub true_payloads : (journal : List Line) → IsOfNodes journal → (log : List Entry) (world : World) → Standing journal log world → AllSay journal log world → AllInTime journal log world → AllOpenInTime journal log world → each (writes_true_data journal) log ≡ true
true_payloads journal j log world st say in_time opens = each_entry (writes_true_data journal) log one where
  passes : PayloadsPass journal log (is_true_data journal)
  passes front rest s e bytes id payload at first framed p = payload_true journal log front rest s e bytes id payload (talks_for journal log world st say (owner s e) (owner s (across e)) p)
      (for_names journal (owner s e) (owner s (across e)) (λ a b. IsInTime a b log) p (in_time p.party p.pair p.side)) (for_names journal (owner s e) (owner s (across e)) (λ a b. OpensInTime journal a b log) p (opens p.party p.pair p.side)) at first framed

  one : (front rest : List Entry) (entry : Entry) → front ++ entry ∷ rest ≡ log → writes_true_data journal front entry ≡ true
  one front rest (entries.Wrote s e bytes) at = payload_passes journal j log world st (is_true_data journal) passes front rest s e bytes at
  one front rest entry at = refl

pub no_nodes_written : (journal : List Line) → IsOfNodes journal → (log : List Entry) (world : World) → Standing journal log world → AllSay journal log world → WritesNoNodes journal log
no_nodes_written journal j log world st say = each_entry (writes_no_nodes journal) log one where
  passes : PayloadsPass journal log (opens_no_nodes journal)
  passes front rest s e bytes id payload at first framed p = payload_no_nodes journal log front rest s e bytes id payload (talks_for journal log world st say (owner s e) (owner s (across e)) p) at first framed

  one : (front rest : List Entry) (entry : Entry) → front ++ entry ∷ rest ≡ log → writes_no_nodes journal front entry ≡ true
  one front rest (entries.Wrote s e bytes) at = payload_passes journal j log world st (opens_no_nodes journal) passes front rest s e bytes at
  one front rest entry at = refl

pub brought_about : (journal : List Line) → IsOfNodes journal → (log : List Entry) (world : World) → Standing journal log world → AllSay journal log world → IsBroughtAbout journal log
brought_about journal j log world st say = all_of_nodes journal log st.kinds (no_nodes_written journal j log world st say)
