-- A word, and what a word counts, can be read from the front.
use Rattle.std.proofs.Common.{◌≡◌, ℕ, ◌<◌, ◌^◌, List, ◌++◌, length, take, drop, refl, ap, ◌∙◌, append_assoc}
use Rattle.std.proofs.lemmas.List.{take_at, drop_at}
use Rattle.std.proofs.lemmas.Nat.{from_be_bytes-to_be_bytes_4}
use Rattle.ch_wire.specs.Words.{word, word_value, counted}

-- the front of a word and a rest
pub word_front : (n : ℕ) (rest : List ℕ) → n < 2 ^ 32 → word_value (take 4 (word n ++ rest)) ≡ n
word_front n rest lt = ap word_value (take_at (word n) rest 4 refl) ∙ from_be_bytes-to_be_bytes_4 n lt

-- what follows the word
pub word_rest : (n : ℕ) (rest : List ℕ) → drop 4 (word n ++ rest) ≡ rest
word_rest n rest = drop_at (word n) rest 4 refl

-- counted bytes with a rest, regrouped
pub counted_regrouped : (first : ℕ) (bytes rest : List ℕ) → counted first bytes ++ rest ≡ word first ++ (word (length bytes) ++ (bytes ++ rest))
counted_regrouped first bytes rest =
    append_assoc (word first) (word (length bytes) ++ bytes) rest ∙ ap (λ (x : List ℕ). word first ++ x) (append_assoc (word (length bytes)) bytes rest)
