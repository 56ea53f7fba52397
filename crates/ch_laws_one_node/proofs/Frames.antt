-- A message of a line that is read fits in one frame, as the line has a limit, where what a line says is no longer
-- than the line.
use Rattle.std.specs.Prelude.{◌≡◌, ℕ, suc, ◌+◌, ◌-◌, ◌%◌, ◌≤◌, Bool, true, false, not, cond, List, [], ◌∷◌, length, Option, Some, None, Result, Ok, Err, nat_lt, ◌==◌, if◌then◌else◌, codes}
use Rattle.std.specs.Str.{bytes_eq}
use Rattle.std.proofs.Common.{refl, sym, subst, arith}
use Rattle.std.proofs.lemmas.List.{length-append}
use Rattle.std.proofs.lemmas.Bool.{ltb-false, or_parts}
use Rattle.hex.specs.declared.error.FromHexError.{FromHexError}
use Rattle.hex.specs.declared.error.FromHexError.TheVariants.{OddLength}
use Rattle.hex.specs.Hex as hexes
use Rattle.hex.specs.Hex.{pair_value, decode_pairs, decode_of}
use Rattle.ch_base.specs.Addresses.{after_front}
use Rattle.ch_ident.specs.Names.{is_name}
use Rattle.ch_model.specs.declared.refusal.BadKind.{BadKind}
use Rattle.ch_model.specs.declared.refusal.BadKind.TheVariants.{Form}
use Rattle.ch_model.specs.declared.refusal.LineFault.TheVariants.{TooLong}
use Rattle.ch_model.specs.declared.line.What.{What}
use Rattle.ch_model.specs.declared.line.What.TheVariants.{Send}
use Rattle.ch_model.specs.Fields.{need, at_byte, up_to_space, decoded, is_dash, field_of, last_of, node_name_of, word_of, sent_mark_of, begins_with_dollar, bytes_of}
use Rattle.ch_model.specs.FieldsOfNames.{process_of, numbered}
use Rattle.ch_model.specs.LinesTold.{Told, untold, declared_in}
use Rattle.ch_model.specs.LinesDeclared.{place_line, node_line}
use Rattle.ch_model.specs.LinesOfProcesses.{process_alone, process_and_word, proc_line, recv_line, end_line}
use Rattle.ch_model.specs.Lines.{Built, line_of_word, line_said, said_and_told, read_line, header}
use Rattle.ch_model.specs.LinesBuilt.{is_bare, only_node_line, send_process_line, one_node}
use Rattle.ch_model.specs.Journal.{Scan, stopped, is_too_long, size_of, scan_from, scan_lines, longest_journal, longest_line}
use Rattle.ch_model.specs.NodeRoom.{longest}
use Rattle.ch_laws_one_node.specs.OneNode.{FitsFrame, FitFrames}
use Rattle.ch_laws_one_node.proofs.Scans.{after_read, scan_is}
use Rattle.ch_laws_one_node.proofs.Reading.{Gives, then_gives, with_gives, if_gives}

-- ---- a line's fields are no longer than the line

-- how much is left of a line
abbrev pub left : Option (List ℕ) → ℕ
left None = 0
left (Some text) = length text

abbrev Within : ℕ → Option (List ℕ × List ℕ) → Type 0
Within most None = Unit {0}
Within most (Some parts) = length parts.0 + length parts.1 ≤ most

at_byte_within : (c : ℕ) (text : List ℕ) → Within (length text) (at_byte c text)
at_byte_within c [] = tt
at_byte_within c (b ∷ bs) = by_test (b == c) (at_byte c bs) (at_byte_within c bs) where
  longer : (x : Option (List ℕ × List ℕ)) → Within (length bs) x → Within (length (b ∷ bs)) (after_front b x)
  longer None h = tt
  longer (Some parts) h = more (length parts.0) (length parts.1) (length bs) h where
    more : (n k l : ℕ) → n + k ≤ l → suc n + k ≤ suc l
    more n k l h = omega arith

  by_test : (t : Bool) (x : Option (List ℕ × List ℕ)) → Within (length bs) x → Within (length (b ∷ bs)) (cond t (Some ([], bs)) (after_front b x))
  by_test true x h = rest (length bs) where
    rest : (n : ℕ) → 0 + n ≤ suc n
    rest n = omega arith
  by_test false x h = longer x h

abbrev pub FieldWithin : ℕ → List ℕ × Option (List ℕ) → Type 0
FieldWithin most field = length field.0 + left field.1 ≤ most

pub field_within : (rest : Option (List ℕ)) → Gives (FieldWithin (left rest)) (field_of rest)
unfolding field_of
field_within None = record { given = tt }
field_within (Some text) = record { given = by_parts (at_byte 32 text) (at_byte_within 32 text) } where
  by_parts : (x : Option (List ℕ × List ℕ)) → Within (length text) x → FieldWithin (length text) (up_to_space text x)
  by_parts None h = all (length text) where
    all : (n : ℕ) → n + 0 ≤ n
    all n = omega arith
  by_parts (Some parts) h = h

word_within : (field : List ℕ) → Gives (λ word. length word ≤ length field) (word_of field)
unfolding word_of
word_within field = by_test (is_name field) where
  by_test : (b : Bool) → Gives (λ word. length word ≤ length field) (need Form b field)
  by_test true = record { given = same (length field) } where
    same : (n : ℕ) → n ≤ n
    same n = omega arith
  by_test false = record { given = tt }

mark_within : (field : List ℕ) → Gives (λ word. length word ≤ length field) (sent_mark_of field)
unfolding sent_mark_of
mark_within field = with_gives (λ word. length word ≤ length field) _ (word_of field) _ (word_within field) λ word h. by_test word h (not (begins_with_dollar word)) where
  by_test : (word : List ℕ) → length word ≤ length field → (b : Bool) → Gives (λ w. length w ≤ length field) (need Form b word)
  by_test word h true = record { given = h }
  by_test word h false = record { given = tt }

abbrev BytesWithin : ℕ → Result (List ℕ) FromHexError → Type 0
BytesWithin most (Ok bytes) = length bytes ≤ most
BytesWithin most (Err e) = Unit {0}

pairs_within : (i : ℕ) (text : List ℕ) → BytesWithin (length text) (decode_pairs i text)
unfolding decode_pairs
pairs_within i [] = omega arith
pairs_within i (digit ∷ []) = tt
pairs_within i (high ∷ low ∷ rest) = by_pair (pair_value high low i) (decode_pairs (i + 2) rest) (pairs_within (i + 2) rest) where
  more : (n k : ℕ) → n ≤ k → suc n ≤ suc (suc k)
  more n k h = omega arith

  by_pair : (byte : Result ℕ FromHexError) (bytes : Result (List ℕ) FromHexError) → BytesWithin (length rest) bytes → BytesWithin (length (high ∷ low ∷ rest)) (hexes.◌>>=◌ byte (λ b. hexes.◌>>=◌ bytes (λ bs. Ok (b ∷ bs))))
  by_pair (Err e) bytes h = tt
  by_pair (Ok b) (Err e) h = tt
  by_pair (Ok b) (Ok bs) h = more (length bs) (length rest) h

bytes_within : (field : List ℕ) → Gives (λ bytes. length bytes ≤ length field) (bytes_of field)
unfolding bytes_of
bytes_within field = if_gives _ (is_dash field) _ _ (record { given = none (length field) }) (if_gives _ (nat_lt 0 (length field)) (decoded (decode_of field)) (Err Form) (by_read (decode_of field) (by_odd (length field % 2 == 1))) (record { given = tt })) where
  none : (n : ℕ) → 0 ≤ n
  none n = omega arith

  by_odd : (b : Bool) → BytesWithin (length field) (if b then Err OddLength else decode_pairs 0 field)
  by_odd true = tt
  by_odd false = pairs_within 0 field

  by_read : (r : Result (List ℕ) FromHexError) → BytesWithin (length field) r → Gives (λ bytes. length bytes ≤ length field) (decoded r)
  by_read (Ok bytes) h = record { given = h }
  by_read (Err e) h = record { given = tt }

-- ---- what each line says

-- a message that is sent is no longer than what says it
abbrev pub SaidWithin : ℕ → What → Type 0
SaidWithin most (Send by to mark body) = length mark + length body ≤ most
SaidWithin most what = Unit {0}

sum_within : (all by a to b mark c body d word bytes : ℕ) → by + a ≤ all → to + b ≤ a → mark + c ≤ b → body + d ≤ c → word ≤ mark → bytes ≤ body → word + bytes ≤ all
sum_within all by a to b mark c body d word bytes h1 h2 h3 h4 h5 h6 = omega arith

pub send_within : (told : Told) (rest : Option (List ℕ)) → Gives (SaidWithin (left rest)) (send_process_line told rest)
unfolding send_process_line
send_within told rest =
    with_gives _ _ (field_of rest) _ (field_within rest) λ by h1.
    with_gives _ _ (field_of by.1) _ (field_within by.1) λ to h2.
    with_gives _ _ (field_of to.1) _ (field_within to.1) λ mark h3.
    with_gives _ _ (field_of mark.1) _ (field_within mark.1) λ body h4.
    then_gives _ (last_of body.1) _ λ last.
    then_gives _ (process_of by.0) _ λ sender.
    then_gives _ (process_of to.0) _ λ receiver.
    with_gives _ _ (sent_mark_of mark.0) _ (mark_within mark.0) λ word h5.
    with_gives _ _ (bytes_of body.0) _ (bytes_within body.0) λ bytes h6.
    then_gives _ (numbered sender) _ λ from.
    then_gives _ (numbered receiver) _ λ goal.
    then_gives _ (declared_in told from.node) _ λ one.
    then_gives _ (declared_in told goal.node) _ λ other. record { given = sum_within (left rest) (length by.0) (left by.1) (length to.0) (left to.1) (length mark.0) (left mark.1) (length body.0) (left body.1) (length word) (length bytes) h1 h2 h3 h4 h5 h6 }

node_within : (most : ℕ) (told : Told) (rest : Option (List ℕ)) → Gives (SaidWithin most) (only_node_line told rest)
unfolding only_node_line node_line
node_within most told rest =
    then_gives _ (need Form (is_bare told.declarations) true) _ λ first.
    then_gives _ (place_line told rest) _ λ place. record { given = tt }

pub proc_within : (most : ℕ) (told : Told) (rest : Option (List ℕ)) → Gives (SaidWithin most) (proc_line told rest)
unfolding proc_line
proc_within most told rest =
    then_gives _ (field_of rest) _ λ name.
    then_gives _ (last_of name.1) _ λ last.
    then_gives _ (node_name_of name.0) _ λ named.
    then_gives _ (declared_in told named) _ λ own. record { given = tt }

pub recv_within : (most : ℕ) (told : Told) (rest : Option (List ℕ)) → Gives (SaidWithin most) (recv_line told rest)
unfolding recv_line
recv_within most told rest = then_gives _ (process_and_word told rest) _ λ taker. record { given = tt }

pub end_within : (most : ℕ) (told : Told) (rest : Option (List ℕ)) → Gives (SaidWithin most) (end_line told rest)
unfolding end_line
end_within most told rest = then_gives _ (process_alone told rest) _ λ process. record { given = tt }

word_within_line : (told : Told) (word : List ℕ) (rest : Option (List ℕ)) → Gives (SaidWithin (left rest)) (line_of_word one_node.words told word rest)
unfolding line_of_word
word_within_line told word rest =
    if_gives _ (bytes_eq word (codes "send")) _ _ (send_within told rest) (
    if_gives _ (bytes_eq word (codes "recv")) _ _ (recv_within (left rest) told rest) (
    if_gives _ (bytes_eq word (codes "end")) _ _ (end_within (left rest) told rest) (
    if_gives _ (bytes_eq word (codes "proc")) _ _ (proc_within (left rest) told rest) (
    if_gives _ (bytes_eq word (codes "node")) _ (Err Form) (node_within (left rest) told rest) (record { given = tt })))))

pub longer : (most more : ℕ) (what : What) → most ≤ more → SaidWithin most what → SaidWithin more what
longer most more (Send by to mark body) h s = above (length mark + length body) most more s h where
  above : (n k l : ℕ) → n ≤ k → k ≤ l → n ≤ l
  above n k l h g = omega arith
longer most more what h s = tt

pub gives_more : {A : Type 0} (P Q : A → Type 0) → ((a : A) → P a → Q a) → (r : Result A BadKind) → Gives P r → Gives Q r
gives_more P Q f (Ok a) g = record { given = f a g.given }
gives_more P Q f (Err kind) g = record { given = tt }

line_within : (told : Told) (text : List ℕ) → Gives (SaidWithin (length text)) (line_said one_node told text)
unfolding line_said
line_within told text = with_gives _ _ (field_of (Some text)) _ (field_within (Some text)) λ word h.
    gives_more (SaidWithin (left word.1)) (SaidWithin (length text)) (λ what s. longer (left word.1) (length text) what (second (length word.0) (left word.1) (length text) h) s) (line_of_word one_node.words told word.0 word.1) (word_within_line told word.0 word.1) where
      second : (n k l : ℕ) → n + k ≤ l → k ≤ l
      second n k l h = omega arith

-- ---- all lines

under_limits : (n k : ℕ) → n ≤ k → k ≤ longest_line → suc n ≤ longest
under_limits n k h g = omega arith

pub framed : (most : ℕ) (what : What) → most ≤ longest_line → SaidWithin most what → FitsFrame what
framed most (Send by to mark body) h s = subst (λ n. suc n ≤ longest) (sym (length-append mark body)) (under_limits (length mark + length body) most s h)
framed most what h s = tt

-- what a line says fits
abbrev pub FitsOr : Option What × Told → Type 0
FitsOr (None, after) = Unit {0}
FitsOr (Some what, after) = FitsFrame what

reads_framed : (told : Told) (text : List ℕ) → length text ≤ longest_line → Gives FitsOr (read_line one_node told text)
reads_framed told text short = by_header told.header where
  by_said : (r : Result What BadKind) → Gives (SaidWithin (length text)) r → Gives FitsOr (said_and_told told r)
  by_said (Ok what) s = record { given = framed (length text) what short s.given }
  by_said (Err kind) s = record { given = tt }

  by_header : (b : Bool) → Gives FitsOr (if b then said_and_told told (line_said one_node told text) else (if bytes_eq text header then Ok (None, record told { header = true }) else Err Form))
  by_header true = by_said (line_said one_node told text) (line_within told text)
  by_header false = if_gives _ (bytes_eq text header) _ (Err Form) (record { given = tt }) (record { given = tt })

pub lines_framed : (built : Built) → ((told : Told) (text : List ℕ) → length text ≤ longest_line → Gives FitsOr (read_line built told text)) → (told : Told) (number room : ℕ) (raw : List (List ℕ × Bool)) → FitFrames (scan_from built told number room raw).lines
lines_framed built reads told number room [] = tt
lines_framed built reads told number room (line ∷ raw) = subst (λ s. FitFrames s.lines) (sym (scan_is built told number room line raw)) (by_long (is_too_long room line) refl (read_line built told line.0) (reads told line.0) (λ after. lines_framed built reads after (number + 1) (room - size_of line) raw)) where
  after : Told → Scan
  after told = scan_from built told (number + 1) (room - size_of line) raw

  by_long : (b : Bool) → is_too_long room line ≡ b → (r : Result (Option What × Told) BadKind) → (length line.0 ≤ longest_line → Gives FitsOr r) → ((t : Told) → FitFrames (after t).lines) → FitFrames (if b then stopped number TooLong else after_read built number (room - size_of line) raw r).lines
  by_long true long r g rest = tt
  by_long false fits (Err kind) g rest = tt
  by_long false fits (Ok (None, t)) g rest = rest t
  by_long false fits (Ok (Some what, t)) g rest = ((g (ltb-false longest_line (length line.0) (or_parts (nat_lt longest_line (length line.0)) (nat_lt room (size_of line)) fits).0)).given, rest t)

pub all_framed : (raw : List (List ℕ × Bool)) → FitFrames (scan_lines one_node raw).lines
all_framed [] = tt
all_framed (line ∷ raw) = lines_framed one_node reads_framed untold 1 longest_journal (line ∷ raw)
