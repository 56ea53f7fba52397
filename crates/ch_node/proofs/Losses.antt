-- The pairs that a failed link leaves, one after another.
use Rattle.std.proofs.Common.{◌≡◌, ℕ, ◌+◌, ◌<◌, List, [], ◌∷◌, ◌++◌, length, take, drop, get_or, Result, Ok, Err, refl, sym, ap, ◌∙◌, arith}
use Rattle.std.specs.Prelude.{set}
use Rattle.std.proofs.lemmas.List.{append_assoc, at_drop_more, drop-set-lt, take-set, get_or-set_same, take_more, length-set}
use Rattle.ch_base.specs.declared.address.Address.{Address}
use Rattle.ch_base.specs.declared.memory.Stop.{Stop}
use Rattle.ch_model.specs.NodeState.{Pair}
use Rattle.ch_model.specs.NodeActs.{◌>>=◌}
use Rattle.ch_model.specs.NodePairs.{lost_pair, lost_pairs}
use Rattle.ch_node.specs.declared.halt.Halt.{Halt}
use Rattle.ch_node.specs.declared.halt.Halt.TheVariants as halts
use Rattle.ch_node.specs.Calls.{Halts}

-- these pairs in front of what becomes of others
abbrev pub in_front : List Pair → Result (List Pair) Stop → Result (List Pair) Stop
in_front front (Ok rest) = Ok (front ++ rest)
in_front front (Err e) = Err e

-- before the first
pub none_in_front : (q : Result (List Pair) Stop) → q ≡ in_front [] q
none_in_front (Ok pairs) = refl
none_in_front (Err e) = refl

past : (front : List Pair) (lost : Pair) (q : Result (List Pair) Stop) → in_front front (q >>= (λ others. Ok (lost ∷ others))) ≡ in_front (front ++ lost ∷ []) q
past front lost (Ok others) = ap Ok (sym (append_assoc front (lost ∷ []) others))
past front lost (Err e) = refl

-- the pair at that place is the first that is left
first : (peer : Address) (pairs : List Pair) (i : ℕ) (whole : Result (List Pair) Stop) (d : Pair) → i < length pairs → whole ≡ in_front (take i pairs) (lost_pairs peer (drop i pairs)) → whole ≡ in_front (take i pairs) (lost_pairs peer (get_or pairs i d ∷ drop (i + 1) pairs))
first peer pairs i whole d within h = h ∙ at_drop_more (λ l. in_front (take i pairs) (lost_pairs peer l)) pairs i d within

-- one pair more is lost
pub next : (peer : Address) (pairs : List Pair) (i : ℕ) (whole : Result (List Pair) Stop) (d lost : Pair) → i < length pairs → whole ≡ in_front (take i pairs) (lost_pairs peer (drop i pairs)) → lost_pair peer (get_or pairs i d) ≡ Ok lost → whole ≡ in_front (take (i + 1) (set pairs i lost)) (lost_pairs peer (drop (i + 1) (set pairs i lost)))
next peer pairs i whole d lost within h at =
    let same : length (set pairs i lost) ≡ length pairs = length-set pairs i lost in
    let long : i < length (set pairs i lost) = omega (arith, same, within) in
    let front : take (i + 1) (set pairs i lost) ≡ take i pairs ++ lost ∷ [] = take_more (set pairs i lost) i lost long ∙ (λ j. take-set pairs i lost j ++ get_or-set_same pairs i lost lost within j ∷ []) in
    let rest : drop (i + 1) (set pairs i lost) ≡ drop (i + 1) pairs = drop-set-lt (i + 1) pairs i lost (omega arith) in
    first peer pairs i whole d within h
    ∙ ap (λ r. in_front (take i pairs) (r >>= (λ lost. lost_pairs peer (drop (i + 1) pairs) >>= (λ others. Ok (lost ∷ others))))) at
    ∙ past (take i pairs) lost (lost_pairs peer (drop (i + 1) pairs))
    ∙ (λ j. in_front (sym front j) (lost_pairs peer (sym rest j)))

-- a stop at a pair is one of all
pub halted : (peer : Address) (pairs : List Pair) (i : ℕ) (whole : Result (List Pair) Stop) (d : Pair) (e : Halt) → i < length pairs → whole ≡ in_front (take i pairs) (lost_pairs peer (drop i pairs)) → Halts e (lost_pair peer (get_or pairs i d)) → Halts e whole
halted peer pairs i whole d halts.OutOfMemory within h at = tt
halted peer pairs i whole d halts.Worn within h at = first peer pairs i whole d within h ∙ ap (λ r. in_front (take i pairs) (r >>= (λ lost. lost_pairs peer (drop (i + 1) pairs) >>= (λ others. Ok (lost ∷ others))))) at
