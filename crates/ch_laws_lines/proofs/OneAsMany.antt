-- What the grammar of one node reads, that of many reads as the same.
use Rattle.std.specs.Prelude.{◌≡◌, ℕ, ◌+◌, ◌-◌, Bool, true, false, List, [], ◌∷◌, Option, Some, None, Result, Ok, Err, if◌then◌else◌, codes}
use Rattle.std.specs.Str.{bytes_eq}
use Rattle.std.proofs.Common.{refl, sym, ap, ◌∙◌, subst}
use Rattle.std.proofs.lemmas.Slice.Eq.{bytes_eq-Decides}
use Rattle.ch_model.specs.declared.refusal.BadKind.{BadKind}
use Rattle.ch_model.specs.declared.refusal.BadKind.TheVariants.{Form}
use Rattle.ch_model.specs.declared.refusal.LineFault.TheVariants.{TooLong}
use Rattle.ch_model.specs.declared.line.What.{What}
use Rattle.ch_model.specs.Fields.{◌>>=◌, need, field_of}
use Rattle.ch_model.specs.LinesTold.{Told, untold}
use Rattle.ch_model.specs.LinesDeclared.{node_line}
use Rattle.ch_model.specs.LinesOfProcesses.{proc_line, recv_line, end_line}
use Rattle.ch_model.specs.LinesOfSockets.{join_line, come_line, feed_line}
use Rattle.ch_model.specs.Lines.{LineWord, reads, line_of_word, line_said, said_and_told, read_line, header}
use Rattle.ch_model.specs.LinesBuilt.{is_bare, only_node_line, send_process_line, one_node, many_nodes}
use Rattle.ch_model.specs.Journal.{Scan, stopped, line_before, is_too_long, size_of, scan_from, scan_lines, longest_journal}
use Rattle.ch_laws_one_node.proofs.Scans.{after_read, scan_is}

-- a value that the first gives, the second gives too
record Kept {A : Type 0} (x y : Result A BadKind) : Type 0 where
  kept : (a : A) → x ≡ Ok a → y ≡ Ok a

same : {A : Type 0} (x : Result A BadKind) → Kept x x
same x = record { kept = λ a e. e }

refused : {A : Type 0} (kind : BadKind) (y : Result A BadKind) → Kept (Err kind) y
refused kind y = record { kept = λ a e. absurd cc }

if_kept : {A : Type 0} (b : Bool) (x1 x2 y1 y2 : Result A BadKind) → Kept x1 y1 → Kept x2 y2 → Kept (if b then x1 else x2) (if b then y1 else y2)
if_kept true x1 x2 y1 y2 first second = first
if_kept false x1 x2 y1 y2 first second = second

node_kept : (told : Told) (rest : Option (List ℕ)) → Kept (only_node_line told rest) (node_line told rest)
unfolding only_node_line
node_kept told rest = by_test (is_bare told.declarations) where
  by_test : (b : Bool) → Kept (need Form b true >>= λ first. node_line told rest) (node_line told rest)
  by_test true = same (node_line told rest)
  by_test false = refused Form (node_line told rest)

-- the last words of one node
abbrev last_words : List LineWord
last_words = reads (codes "proc") proc_line ∷ reads (codes "node") only_node_line ∷ []

-- a word of many nodes that is none of these
other_word : (told : Told) (word own : List ℕ) (rest : Option (List ℕ)) (many others : Result What BadKind) → line_of_word last_words told own rest ≡ Err Form → (b : Bool) → bytes_eq word own ≡ b → Kept (line_of_word last_words told word rest) others → Kept (line_of_word last_words told word rest) (if b then many else others)
other_word told word own rest many others none false h more = more
other_word told word own rest many others none true h more =
    let is : word ≡ own = (bytes_eq-Decides word own).0 h in
    subst (λ (r : Result What BadKind). Kept r many) (sym (ap (λ (w : List ℕ). line_of_word last_words told w rest) is ∙ none)) (refused Form many)

feed_is_none : (told : Told) (rest : Option (List ℕ)) → line_of_word last_words told (codes "feed") rest ≡ Err Form
unfolding line_of_word
feed_is_none told rest = refl

join_is_none : (told : Told) (rest : Option (List ℕ)) → line_of_word last_words told (codes "join") rest ≡ Err Form
unfolding line_of_word
join_is_none told rest = refl

come_is_none : (told : Told) (rest : Option (List ℕ)) → line_of_word last_words told (codes "come") rest ≡ Err Form
unfolding line_of_word
come_is_none told rest = refl

word_kept : (told : Told) (word : List ℕ) (rest : Option (List ℕ)) → Kept (line_of_word one_node.words told word rest) (line_of_word many_nodes.words told word rest)
unfolding line_of_word
word_kept told word rest =
    if_kept (bytes_eq word (codes "send")) _ _ _ _ (same (send_process_line told rest)) (
    if_kept (bytes_eq word (codes "recv")) _ _ _ _ (same (recv_line told rest)) (
    if_kept (bytes_eq word (codes "end")) _ _ _ _ (same (end_line told rest)) (
    other_word told word (codes "feed") rest (feed_line told rest) _ (feed_is_none told rest) (bytes_eq word (codes "feed")) refl (
    other_word told word (codes "join") rest (join_line told rest) _ (join_is_none told rest) (bytes_eq word (codes "join")) refl (
    other_word told word (codes "come") rest (come_line told rest) _ (come_is_none told rest) (bytes_eq word (codes "come")) refl (
    if_kept (bytes_eq word (codes "proc")) _ _ _ _ (same (proc_line told rest)) (
    if_kept (bytes_eq word (codes "node")) _ (Err Form) _ (Err Form) (node_kept told rest) (same (Err Form)))))))))

then_kept : {A : Type 0} (x : Result A BadKind) (f g : A → Result What BadKind) → ((a : A) → Kept (f a) (g a)) → Kept (x >>= f) (x >>= g)
then_kept (Ok a) f g each = each a
then_kept (Err kind) f g each = same (Err kind)

said_kept : (told : Told) (text : List ℕ) → Kept (line_said one_node told text) (line_said many_nodes told text)
unfolding line_said
said_kept told text = then_kept (field_of (Some text)) _ _ λ word. word_kept told word.0 word.1

line_kept : (told : Told) (text : List ℕ) → Kept (read_line one_node told text) (read_line many_nodes told text)
line_kept told text = by_header told.header where
  by_said : (r s : Result What BadKind) → Kept r s → Kept (said_and_told told r) (said_and_told told s)
  by_said (Err kind) s k = refused kind (said_and_told told s)
  by_said (Ok what) s k = subst (λ (x : Result What BadKind). Kept (said_and_told told (Ok what)) (said_and_told told x)) (sym (k.kept what refl)) (same (said_and_told told (Ok what)))

  other : Result (Option What × Told) BadKind
  other = if bytes_eq text header then Ok (None, record told { header = true }) else Err Form

  by_header : (b : Bool) → Kept (if b then said_and_told told (line_said one_node told text) else other) (if b then said_and_told told (line_said many_nodes told text) else other)
  by_header true = by_said (line_said one_node told text) (line_said many_nodes told text) (said_kept told text)
  by_header false = same other

-- ---- all lines

fault_after : (number : ℕ) (what : Option What) (scan : Scan) → (line_before number what scan).fault ≡ scan.fault
fault_after number None scan = refl
fault_after number (Some what) scan = refl

scans_same : (told : Told) (number room : ℕ) (raw : List (List ℕ × Bool)) → (scan_from one_node told number room raw).fault ≡ None → scan_from many_nodes told number room raw ≡ scan_from one_node told number room raw
scans_same told number room [] none = refl
scans_same told number room (line ∷ raw) none =
    scan_is many_nodes told number room line raw
    ∙ by_long (is_too_long room line) (read_line one_node told line.0) (read_line many_nodes told line.0) (line_kept told line.0) (λ after. scans_same after (number + 1) (room - size_of line) raw) (ap (λ s. s.fault) (sym (scan_is one_node told number room line raw)) ∙ none)
    ∙ sym (scan_is one_node told number room line raw) where
      one : Told → Scan
      one t = scan_from one_node t (number + 1) (room - size_of line) raw

      by_long : (b : Bool) (r s : Result (Option What × Told) BadKind) → Kept r s → ((t : Told) → (one t).fault ≡ None → scan_from many_nodes t (number + 1) (room - size_of line) raw ≡ one t) → (if b then stopped number TooLong else after_read one_node number (room - size_of line) raw r).fault ≡ None → (if b then stopped number TooLong else after_read many_nodes number (room - size_of line) raw s) ≡ (if b then stopped number TooLong else after_read one_node number (room - size_of line) raw r)
      by_long true r s k rest h = refl
      by_long false (Err kind) s k rest h = cc
      by_long false (Ok read) s k rest h = ap (after_read many_nodes number (room - size_of line) raw) (k.kept read refl) ∙ ap (line_before number read.0) (rest read.1 (sym (fault_after number read.0 (one read.1)) ∙ h))

pub all_same : (raw : List (List ℕ × Bool)) → (scan_lines one_node raw).fault ≡ None → scan_lines many_nodes raw ≡ scan_lines one_node raw
all_same [] none = refl
all_same (line ∷ raw) none = scans_same untold 1 longest_journal (line ∷ raw) none
