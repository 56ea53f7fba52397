-- What stands on the wire is made of words, and of bytes behind a word that counts them.
use Rattle.std.specs.Prelude.{ℕ, List, ◌++◌, length}
use Rattle.std.specs.Int.{w32, to_be_bytes, from_be_bytes}

-- a word: a number as four bytes, the most significant first
abbrev pub word : ℕ → List ℕ
word n = to_be_bytes w32 n

-- the number that four bytes spell
abbrev pub word_value : List ℕ → ℕ
word_value bytes = from_be_bytes w32 bytes

-- a word, a word with the number of bytes that follow, and these bytes
abbrev pub counted : ℕ → List ℕ → List ℕ
counted first bytes = word first ++ (word (length bytes) ++ bytes)
