-- What running a journal shows: the line that is refused and why, if one is, and the text of the log.
use Rattle.std.specs.Prelude.{◌≡◌, ℕ, Bool, ◌&&◌, ◌==◌, if◌then◌else◌, List, [], ◌∷◌, ◌++◌, map, Option, Some, None, Result, Ok, Err}
use Rattle.std.specs.List.{flat_map}
use Rattle.ch_base.specs.declared.memory.Stop.{Stop}
use Rattle.ch_model.specs.declared.entry.Entry.{Entry}
use Rattle.ch_model.specs.declared.refusal.LineFault.{LineFault}
use Rattle.ch_model.specs.Lines.{whole}
use Rattle.ch_model.specs.Journal.{journal_of, first_fault}
use Rattle.ch_model.specs.World.{log_of}
use Rattle.ch_model.specs.Spelling.{log_text}

abbrev pub printed : Result (List Entry) Stop → Option (List ℕ)
printed (Ok log) = Some (log_text log)
printed (Err stop) = None

-- the refusal and the log's text of a journal's text
abbrev pub shown : List ℕ → Option (ℕ × LineFault) × Option (List ℕ)
shown journal = (first_fault whole journal, printed (log_of (journal_of whole journal)))

-- where and why each journal is refused
abbrev pub faults : List (List ℕ) → List (Option (ℕ × LineFault))
faults journals = map (first_fault whole) journals

-- a space, a bar, a space
abbrev pub is_bar : ℕ → ℕ → ℕ → Bool
is_bar a b c = a == 32 && (b == 124 && c == 32)

-- In a row several lines stand as one text, with ` | ` where one ends. This is the text with a newline there and at its end.
abbrev pub as_lines : List ℕ → List ℕ
as_lines [] = 10 ∷ []
as_lines (a ∷ b ∷ c ∷ rest) = if is_bar a b c then 10 ∷ as_lines rest else a ∷ as_lines (b ∷ c ∷ rest)
as_lines (a ∷ rest) = a ∷ as_lines rest

-- the text of a row
abbrev pub text_of : List (List ℕ) → List ℕ
text_of row = flat_map as_lines row

-- the journal is read to its end, and this is its log
abbrev pub LogIs : List (List ℕ) → List (List ℕ) → Type 0
LogIs journal log = shown (text_of journal) ≡ (None, Some (text_of log))
