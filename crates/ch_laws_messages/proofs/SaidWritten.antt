-- What a turn writes that puts frames on one socket: at the end of that socket they stand behind what was written, and at others nothing does.
use Rattle.std.proofs.Common.{◌≡◌, ℕ, Bool, true, false, cond, List, [], ◌∷◌, ◌++◌, length, map, refl, sym, ap, ◌∙◌, subst}
use Rattle.std.proofs.lemmas.List.{append-nil}
use Rattle.std.proofs.lemmas.List.Elements.{filter_map-append}
use Rattle.std.specs.List.{cons_option}
use Rattle.std.specs.Prelude.{drop, filter_map, Option, Some, None, ◌==◌}
use Rattle.ch_wire.specs.Spelling.{IsFrame, frame_spelling}
use Rattle.ch_wire.specs.declared.frame.Frame.{Frame}
use Rattle.ch_reader.specs.Reading.{reading}
use Rattle.ch_reader.specs.declared.item.Expected.TheVariants as expected
use Rattle.ch_reader.specs.declared.item.Front.{Front}
use Rattle.ch_reader.specs.declared.item.Item.{Item}
use Rattle.ch_reader.specs.declared.item.Item.TheVariants as items
use Rattle.ch_reader.proofs.Complete.{reads_item}
use Rattle.ch_model.specs.declared.entry.Entry.{Entry}
use Rattle.ch_model.specs.declared.name.End.{End}
use Rattle.ch_model.specs.declared.name.SockName.{SockName}
use Rattle.ch_model.specs.AccountsItems.{item_of_front, frame_of, frames_of}
use Rattle.ch_model.specs.Sockets.{writing, writings}
use Rattle.ch_laws_calls.specs.FitsTurns.{NoDials}
use Rattle.ch_laws_ids.specs.Runs.{pieces_at}
use Rattle.ch_laws_plain.specs.Talks.{MaySpell}
use Rattle.ch_laws_writes.proofs.Worlds.{number_same}
use Rattle.ch_laws_peers.specs.Words.{Placed}
use Rattle.ch_laws_messages.specs.SaidGoes.{bare}
use Rattle.ch_laws_messages.specs.SaidPuts.{write_step, spelled}

-- ---- frames are read back

abbrev pub frame_in : Option Item → Option Frame
frame_in None = None
frame_in (Some (items.Frame frame)) = Some frame
frame_in (Some item) = None

pub of_item : (bytes : List ℕ) (o : Option Item) → item_of_front (reading expected.Frame bytes) (length bytes) ≡ o → frame_of bytes ≡ frame_in o
of_item bytes o e = subst (λ (x : Option Item). (elim x as (λ x. Option Frame) [
  | None ↦ None
  | Some item ↦ elim item as (λ i. Option Frame) [ items.Frame frame ↦ Some frame | _ ↦ None ]
]) ≡ frame_in o) (sym e) (same o) where
  same : (o : Option Item) → (elim o as (λ x. Option Frame) [
    | None ↦ None
    | Some item ↦ elim item as (λ i. Option Frame) [ items.Frame frame ↦ Some frame | _ ↦ None ]
  ]) ≡ frame_in o
  same None = refl
  same (Some (items.Frame frame)) = refl
  same (Some (items.Request request)) = refl
  same (Some (items.Answer answer)) = refl

pub frame_read : (frame : Frame) → IsFrame frame → frame_of (frame_spelling frame) ≡ Some frame
frame_read frame is = of_item (frame_spelling frame) (Some (items.Frame frame))
    (ap (λ (f : Front × ℕ). item_of_front f (length (frame_spelling frame))) (ap (reading expected.Frame) (sym (append-nil (frame_spelling frame))) ∙ reads_item expected.Frame (items.Frame frame) [] is)
    ∙ ap (λ b. cond b (Some (items.Frame frame)) None) (number_same (length (frame_spelling frame))))

pub frames_read : (new : List Placed) → MaySpell (bare new) → filter_map frame_of (spelled new) ≡ bare new
frames_read [] m = refl
frames_read (one ∷ rest) m = ap (λ (o : Option Frame). cons_option o (filter_map frame_of (spelled rest))) (frame_read one.0 m.0) ∙ ap (λ (l : List Frame). one.0 ∷ l) (frames_read rest m.1)

-- ---- steps

pub writes_at : (sock n : ℕ) (new : List Placed) → pieces_at n (map (write_step sock) new) ≡ cond (sock == n) (spelled new) []
writes_at sock n [] = by_test (sock == n) where
  by_test : (b : Bool) → ◌≡◌ {A = List (List ℕ)} [] (cond b [] [])
  by_test true = refl
  by_test false = refl
writes_at sock n (one ∷ rest) = by_test (sock == n) refl (writes_at sock n rest) where
  by_test : (b : Bool) → (sock == n) ≡ b → pieces_at n (map (write_step sock) rest) ≡ cond (sock == n) (spelled rest) [] → cond b (frame_spelling one.0 ∷ pieces_at n (map (write_step sock) rest)) (pieces_at n (map (write_step sock) rest)) ≡ cond b (spelled (one ∷ rest)) []
  by_test true h more = ap (λ (l : List (List ℕ)). frame_spelling one.0 ∷ l) (more ∙ ap (λ b. cond b (spelled rest) []) h)
  by_test false h more = more ∙ ap (λ b. cond b (spelled rest) []) h

pub write_none : (sock : ℕ) (new : List Placed) → NoDials (map (write_step sock) new)
write_none sock [] = tt
write_none sock (one ∷ rest) = write_none sock rest

-- ---- what a turn writes at each end

pub wrote_both : (log told : List Entry) (s : SockName) (e : End) → writings (log ++ told) s e ≡ writings log s e ++ writings told s e
wrote_both log told s e = filter_map-append (writing s e) log told

-- frames behind what an end that has begun wrote
pub frames_behind : (log told : List Entry) (s : SockName) (e : End) (first : List ℕ) (rest : List (List ℕ)) (new : List Placed) → writings log s e ≡ first ∷ rest → writings told s e ≡ spelled new → MaySpell (bare new) → frames_of (log ++ told) s e ≡ frames_of log s e ++ bare new
frames_behind log told s e first rest new begun is may =
    ap (λ (l : List (List ℕ)). filter_map frame_of (drop 1 l)) (wrote_both log told s e ∙ ap (λ (l : List (List ℕ)). l ++ writings told s e) begun)
    ∙ filter_map-append frame_of rest (writings told s e) ∙ ap (λ (l : List (List ℕ)). filter_map frame_of rest ++ filter_map frame_of l) is ∙ ap (λ (l : List Frame). filter_map frame_of rest ++ l) (frames_read new may)
    ∙ ap (λ (l : List (List ℕ)). filter_map frame_of (drop 1 l) ++ bare new) (sym begun)

pub frames_still : (log told : List Entry) (s : SockName) (e : End) → writings told s e ≡ [] → frames_of (log ++ told) s e ≡ frames_of log s e
frames_still log told s e none = ap (λ (l : List (List ℕ)). filter_map frame_of (drop 1 l)) (wrote_both log told s e ∙ ap (λ (l : List (List ℕ)). writings log s e ++ l) none ∙ append-nil (writings log s e))
