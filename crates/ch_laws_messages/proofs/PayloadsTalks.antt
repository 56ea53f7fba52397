-- What a log tells of what one node has written for another: the payloads at each moment, and how many of them carry what was said.
use Rattle.std.proofs.Common.{◌≡◌, ℕ, suc, ◌+◌, Bool, true, false, not, ◌&&◌, ◌==◌, List, [], ◌∷◌, ◌++◌, length, refl, sym, ap, ◌∙◌, subst, append_assoc, arith}
use Rattle.std.proofs.Math.Dec.{eqb-suc-zero}
use Rattle.std.proofs.lemmas.List.{append-nil, length-append}
use Rattle.std.proofs.lemmas.List.Elements.{filter_map-append}
use Rattle.std.specs.List.{cons_option}
use Rattle.std.specs.Prelude.{drop, filter_map, Option, Some, None, if◌then◌else◌}
use Rattle.ch_wire.specs.declared.frame.Frame.{Frame}
use Rattle.ch_wire.specs.declared.frame.Frame.TheVariants as frames
use Rattle.ch_model.specs.declared.entry.Entry.{Entry}
use Rattle.ch_model.specs.declared.entry.Entry.TheVariants as entries
use Rattle.ch_model.specs.declared.line.Line.{Line}
use Rattle.ch_model.specs.declared.name.End.{End}
use Rattle.ch_model.specs.declared.name.SockName.{SockName}
use Rattle.ch_model.specs.AccountsFrames.{data_written, datas, is_user_data, user_data}
use Rattle.ch_model.specs.AccountsItems.{frame_of, data_of, first_payload, opens_nodes}
use Rattle.ch_model.specs.Logs.{collected, kept_with, never, some_and}
use Rattle.ch_model.specs.Same.{owner, across, is_end_of}
use Rattle.ch_model.specs.Sockets.{writings}
use Rattle.ch_laws_plain_logs.specs.Plain.{IsPlain}
use Rattle.ch_laws_plain_logs.proofs.Pairs.{of_pair}
use Rattle.ch_laws_plain_logs.proofs.Simply.{said_between_plainly}
use Rattle.ch_laws_peers.specs.Words.{Word, words_in, datas_in, carried_after, placing, sayings, opens_one, TrueWords}
use Rattle.ch_laws_peers.specs.Says.{written_by, frames_towards, towards}
use Rattle.ch_laws_messages.proofs.SaidLogs.{towards_more, collected_more}
use Rattle.ch_laws_messages.proofs.SaidWords.{first_opens, first_more, datas_append}
use Rattle.ch_laws_messages.specs.CarriedCounts.{carried_in}
use Rattle.ch_laws_messages.specs.CarriedInTime.{datas_to}
use Rattle.ch_laws_messages.proofs.PayloadsFrames.{datas_grow, towards_at, OneWrites, same_frames}
use Rattle.ch_laws_messages.proofs.PayloadsWords.{IsTrueAt, true_at, carried_last, datas_placed}
use Rattle.ch_laws_messages.proofs.CarriedLogs.{by_last}

abbrev Data : Type 0
Data = ℕ × List ℕ

-- The log is plain, what x has written towards y carries what it has said, with more that waits, and one end of x writes it.
pub record Talks (journal : List Line) (x y : List ℕ) (log : List Entry) : Type 0 where
  pub plain : IsPlain log
  pub more : List Word
  pub end : ℕ
  pub words : TrueWords journal (sayings x y log) [] 0 (words_in (towards x y log) ++ more) end
  pub one : OneWrites x y log

-- ---- the payload that is written

pub next_true : (journal : List Line) (x y : List ℕ) (log : List Entry) → Talks journal x y log → (front rest : List Entry) (entry : Entry) (id : ℕ) (payload : List ℕ) → front ++ entry ∷ rest ≡ log → written_by x y front entry ≡ Some (frames.Data id payload)
    → IsTrueAt journal (sayings x y log) (carried_in [] (datas_to x y front)) id payload (first_payload id (datas_to x y front))
next_true journal x y log t front rest entry id payload at wrote = with_frames (towards_at x y front rest entry (frames.Data id payload) wrote) where
  with_frames : (more : List Frame) × (frames_towards x y (front ++ entry ∷ rest) ≡ frames_towards x y front ++ frames.Data id payload ∷ more) → IsTrueAt journal (sayings x y log) (carried_in [] (datas_to x y front)) id payload (first_payload id (datas_to x y front))
  with_frames m = true_at journal (sayings x y log) (frames_towards x y front) id payload m.0 t.more t.end
      (subst (λ (fs : List Frame). TrueWords journal (sayings x y log) [] 0 (words_in (placing (sayings x y log) [] 0 fs) ++ t.more) t.end) (sym (ap (frames_towards x y) at) ∙ m.1) t.words)

-- ---- openings

-- what opens a pair that has said something opens no connection from node to node
pub pair_no_nodes : (journal : List Line) (x y : List ℕ) (log : List Entry) → Talks journal x y log → (u v payload : List ℕ) → opens_one journal (sayings x y log) payload ≡ true → opens_nodes journal u v payload ≡ false
pair_no_nodes journal x y log t u v payload opens = of_pair journal log u v x y payload (ap (λ said. opens_one journal said payload) (said_between_plainly log x y t.plain) ∙ opens)

-- so does no payload that is the first under its id
pub first_no_nodes : (journal : List Line) (x y : List ℕ) (log : List Entry) → Talks journal x y log → (front rest : List Entry) (id : ℕ) (one u v : List ℕ) → front ++ rest ≡ log → first_payload id (datas_to x y front) ≡ Some one → opens_nodes journal u v one ≡ false
first_no_nodes journal x y log t front rest id one u v at first = pair_no_nodes journal x y log t u v one (first_opens journal (sayings x y log) [] 0 (words_in (towards x y log) ++ t.more) t.end id one t.words refl (with_datas (datas_grow x y front rest))) where
  all : datas_in (words_in (towards x y log) ++ t.more) ≡ datas_to x y log ++ datas_in t.more
  all = datas_append (words_in (towards x y log)) t.more ∙ ap (λ (l : List Data). l ++ datas_in t.more) (datas_placed (sayings x y log) [] 0 (frames_towards x y log))

  with_datas : (more : List Data) × (datas_to x y (front ++ rest) ≡ datas_to x y front ++ more) → first_payload id (datas_in (words_in (towards x y log) ++ t.more)) ≡ Some one
  with_datas m = ap (first_payload id) all ∙ first_more id (datas_to x y log) (datas_in t.more) one (ap (first_payload id) (ap (datas_to x y) (sym at) ∙ m.1) ∙ first_more id (datas_to x y front) m.0 one first)

-- ---- users' payloads

-- a payload is a user's exactly if it isn't the first under its id
pub user_is : (journal : List Line) (x y : List ℕ) (log : List Entry) → Talks journal x y log → (front rest : List Entry) (sock : SockName) (end : End) (d : Data) → front ++ rest ≡ log → datas front sock end ≡ datas_to x y front → (o : Option (List ℕ)) → first_payload d.0 (datas_to x y front) ≡ o
    → is_user_data journal front sock end d ≡ (elim o as (λ o. Bool) [ None ↦ false | Some one ↦ true ])
user_is journal x y log t front rest sock end d at same None first = ap (some_and (λ opening. not (opens_nodes journal (owner sock end) (owner sock (across end)) opening))) (ap (first_payload d.0) same ∙ first)
user_is journal x y log t front rest sock end d at same (Some one) first = ap (some_and (λ opening. not (opens_nodes journal (owner sock end) (owner sock (across end)) opening))) (ap (first_payload d.0) same ∙ first)
    ∙ ap not (first_no_nodes journal x y log t front rest d.0 one (owner sock end) (owner sock (across end)) at first)

kept_length : {B : Type 0} (kept : List B) (o : Option B) (one : Option (List ℕ)) → (elim o as (λ o. Bool) [ None ↦ false | Some b ↦ true ]) ≡ (elim one as (λ o. Bool) [ None ↦ false | Some b ↦ true ]) → length (kept_with o kept) ≡ carried_after one (length kept)
kept_length kept None None e = refl
kept_length kept None (Some one) e = absurd cc
kept_length kept (Some b) None e = absurd cc
kept_length kept (Some b) (Some one) e = length-append kept (b ∷ []) ∙ one_more (length kept) where
  one_more : (n : ℕ) → n + 1 ≡ suc n
  one_more n = omega arith

-- ---- one entry more

-- as many users' payloads were written as are carried
abbrev pub IsCounted : List Line → List ℕ → List ℕ → List Entry → Type 0
IsCounted journal x y front = length (collected never (user_data journal x y) front) ≡ carried_in [] (datas_to x y front)

abbrev there : {A : Type 0} → Option A → Bool
there None = false
there (Some a) = true

-- the payload of a frame, if there is one
abbrev data_at : Option Frame → Option Data
data_at None = None
data_at (Some frame) = data_of frame

no_data : (journal : List Line) (x y : List ℕ) (front : List Entry) (entry : Entry) (w : Option Frame) → user_data journal x y front entry ≡ None → written_by x y front entry ≡ w → data_at w ≡ None → IsCounted journal x y front → IsCounted journal x y (front ++ entry ∷ [])
no_data journal x y front entry w u is none c = ap length (collected_more (user_data journal x y) [] front [] entry ∙ ap (λ (o : Option Data). kept_with o (collected never (user_data journal x y) front)) u) ∙ c ∙ ap (carried_in []) (sym datas_same) where
  by_frame : (w : Option Frame) → data_at w ≡ None → filter_map data_of (kept_with w (frames_towards x y front)) ≡ datas_to x y front
  by_frame None e = refl
  by_frame (Some frame) e = filter_map-append data_of (frames_towards x y front) (frame ∷ []) ∙ ap (λ (o : Option Data). datas_to x y front ++ cons_option o []) e ∙ append-nil (datas_to x y front)

  datas_same : datas_to x y (front ++ entry ∷ []) ≡ datas_to x y front
  datas_same = ap (filter_map data_of) (towards_more x y front entry ∙ ap (λ (o : Option Frame). kept_with o (frames_towards x y front)) is) ∙ by_frame w none

-- a payload that is written stands behind those before it
pub datas_more : (x y : List ℕ) (front : List Entry) (entry : Entry) (id : ℕ) (payload : List ℕ) → written_by x y front entry ≡ Some (frames.Data id payload) → datas_to x y (front ++ entry ∷ []) ≡ datas_to x y front ++ (id, payload) ∷ []
datas_more x y front entry id payload is = ap (filter_map data_of) (towards_more x y front entry ∙ ap (λ (o : Option Frame). kept_with o (frames_towards x y front)) is) ∙ filter_map-append data_of (frames_towards x y front) (frames.Data id payload ∷ [])

some_data : (journal : List Line) (x y : List ℕ) (front : List Entry) (entry : Entry) (id : ℕ) (payload : List ℕ) → written_by x y front entry ≡ Some (frames.Data id payload) → there (user_data journal x y front entry) ≡ there (first_payload id (datas_to x y front)) → IsCounted journal x y front
    → IsCounted journal x y (front ++ entry ∷ [])
some_data journal x y front entry id payload is same c = ap length (collected_more (user_data journal x y) [] front [] entry) ∙ kept_length (collected never (user_data journal x y) front) (user_data journal x y front entry) (first_payload id (datas_to x y front)) same
    ∙ ap (carried_after (first_payload id (datas_to x y front))) c ∙ sym (carried_last (datas_to x y front) (id, payload)) ∙ ap (carried_in []) (sym (datas_more x y front entry id payload is))

-- ---- an entry that writes

pub wrote_is : (x y : List ℕ) (front : List Entry) (s : SockName) (e : End) (bytes : List ℕ) (a b : Bool) → is_end_of x y s e ≡ a → (length (writings front s e) == 0) ≡ b → written_by x y front (entries.Wrote s e bytes) ≡ (elim (a && not b) as (λ c. Option Frame) [ true ↦ frame_of bytes | false ↦ None ])
wrote_is x y front s e bytes a b is first = ap (λ (c : Bool). (elim (c && not (length (writings front s e) == 0)) as (λ c. Option Frame) [ true ↦ frame_of bytes | false ↦ None ])) is ∙ ap (λ (c : Bool). (elim (a && not c) as (λ c. Option Frame) [ true ↦ frame_of bytes | false ↦ None ])) first

-- the users' payload, of what was written
abbrev user_of : List Line → List Entry → SockName → End → Option Data → Option Data
user_of journal front s e None = None
user_of journal front s e (Some d) = if is_user_data journal front s e d then Some d else None

user_at : (journal : List Line) (x y : List ℕ) (front : List Entry) (s : SockName) (e : End) (bytes : List ℕ) (o : Option Frame) → is_end_of x y s e ≡ true → frame_of bytes ≡ o → user_data journal x y front (entries.Wrote s e bytes) ≡ user_of journal front s e (data_at o)
user_at journal x y front s e bytes o is framed = ap (λ (b : Bool). if b then (elim (data_written front s e bytes) as (λ o. Option Data) [ None ↦ None | Some d ↦ if is_user_data journal front s e d then Some d else None ]) else None) is ∙ by_frame (frame_of bytes) ∙ ap (λ (f : Option Frame). user_of journal front s e (data_at f)) framed where
  by_data : (d : Option Data) → (elim d as (λ o. Option Data) [ None ↦ None | Some d ↦ if is_user_data journal front s e d then Some d else None ]) ≡ user_of journal front s e d
  by_data None = refl
  by_data (Some d) = refl

  by_frame : (f : Option Frame) → (elim (elim f as (λ f. Option Data) [ None ↦ None | Some frame ↦ data_of frame ]) as (λ o. Option Data) [ None ↦ None | Some d ↦ if is_user_data journal front s e d then Some d else None ]) ≡ user_of journal front s e (data_at f)
  by_frame None = refl
  by_frame (Some frame) = by_data (data_of frame)

user_off : (journal : List Line) (x y : List ℕ) (front : List Entry) (s : SockName) (e : End) (bytes : List ℕ) → is_end_of x y s e ≡ false → user_data journal x y front (entries.Wrote s e bytes) ≡ None
user_off journal x y front s e bytes is = ap (λ (b : Bool). if b then (elim (data_written front s e bytes) as (λ o. Option Data) [ None ↦ None | Some d ↦ if is_user_data journal front s e d then Some d else None ]) else None) is

-- what an end writes first is no user's payload
none_first : (pieces : List (List ℕ)) → (length pieces == 0) ≡ true → pieces ≡ []
none_first [] e = refl
none_first (piece ∷ pieces) e = absurd (no_zero (length pieces) e) where
  no_zero : (n : ℕ) → (suc n == 0) ≡ true → ⊥
  no_zero n e = let no : false ≡ true = sym (eqb-suc-zero n) ∙ e in absurd cc

user_first : (journal : List Line) (front : List Entry) (s : SockName) (e : End) (o : Option Data) → (length (writings front s e) == 0) ≡ true → user_of journal front s e o ≡ None
user_first journal front s e None first = refl
user_first journal front s e (Some d) first = ap (λ (b : Bool). if b then Some d else None) (ap (λ (pieces : List (List ℕ)). some_and (λ opening. not (opens_nodes journal (owner s e) (owner s (across e)) opening)) (first_payload d.0 (filter_map data_of (filter_map frame_of (drop 1 pieces))))) (none_first (writings front s e) first))

if_there : (b : Bool) (d : Data) → there (if b then Some d else None) ≡ b
if_there true d = refl
if_there false d = refl

there_is : (o : Option (List ℕ)) → (elim o as (λ o. Bool) [ None ↦ false | Some one ↦ true ]) ≡ there o
there_is None = refl
there_is (Some one) = refl

one_written : (journal : List Line) (x y : List ℕ) (log : List Entry) → Talks journal x y log → (front rest : List Entry) (entry : Entry) → front ++ entry ∷ rest ≡ log → IsCounted journal x y front → IsCounted journal x y (front ++ entry ∷ [])
one_written journal x y log t front rest (entries.Wrote s e bytes) at c = by_end (is_end_of x y s e) refl where
  entry : Entry
  entry = entries.Wrote s e bytes

  by_frame : is_end_of x y s e ≡ true → (length (writings front s e) == 0) ≡ false → (o : Option Frame) → frame_of bytes ≡ o → IsCounted journal x y (front ++ entry ∷ [])
  by_frame is first None framed = no_data journal x y front entry None (user_at journal x y front s e bytes None is framed) (wrote_is x y front s e bytes true false is first ∙ framed) refl c
  by_frame is first (Some (frames.Data id payload)) framed = some_data journal x y front entry id payload (wrote_is x y front s e bytes true false is first ∙ framed)
      (ap there (user_at journal x y front s e bytes (Some (frames.Data id payload)) is framed) ∙ if_there (is_user_data journal front s e (id, payload)) (id, payload)
      ∙ user_is journal x y log t front (entry ∷ rest) s e (id, payload) at (ap (filter_map data_of) (same_frames x y log t.one front rest s e bytes (frames.Data id payload) at is first framed)) (first_payload id (datas_to x y front)) refl ∙ there_is (first_payload id (datas_to x y front))) c
  by_frame is first (Some frame) framed = no_data journal x y front entry (Some frame) (user_at journal x y front s e bytes (Some frame) is framed) (wrote_is x y front s e bytes true false is first ∙ framed) refl c

  by_first : is_end_of x y s e ≡ true → (b : Bool) → (length (writings front s e) == 0) ≡ b → IsCounted journal x y (front ++ entry ∷ [])
  by_first is true first = no_data journal x y front entry None (user_at journal x y front s e bytes (frame_of bytes) is refl ∙ user_first journal front s e (data_at (frame_of bytes)) first) (wrote_is x y front s e bytes true true is first) refl c
  by_first is false first = by_frame is first (frame_of bytes) refl

  by_end : (b : Bool) → is_end_of x y s e ≡ b → IsCounted journal x y (front ++ entry ∷ [])
  by_end true is = by_first is (length (writings front s e) == 0) refl
  by_end false is = no_data journal x y front entry None (user_off journal x y front s e bytes is) (wrote_is x y front s e bytes false (length (writings front s e) == 0) is refl) refl c
one_written journal x y log t front rest entry at c = no_data journal x y front entry None refl refl refl c

-- at each moment
pub counted : (journal : List Line) (x y : List ℕ) (log : List Entry) → Talks journal x y log → (front rest : List Entry) → front ++ rest ≡ log → IsCounted journal x y front
counted journal x y log t = by_last (λ front. (rest : List Entry) → front ++ rest ≡ log → IsCounted journal x y front) (λ rest at. refl) (λ front entry before rest at. let here = sym (append_assoc front (entry ∷ []) rest) ∙ at in one_written journal x y log t front rest entry here (before (entry ∷ rest) here))
