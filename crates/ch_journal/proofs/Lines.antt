-- The canonical text of a line that was accepted is read as that line again.
use Rattle.std.proofs.Common.{◌≡◌, ℕ, Bool, true, false, cond, not, List, [], ◌∷◌, ◌++◌, codes, Option, Some, None, Result, Ok, Err, refl, ap, ◌∙◌, subst, lit<}
use Rattle.std.specs.Str.{bytes_eq}
use Rattle.std.specs.List.{flat_map}
use Rattle.std.specs.Fmt.{decimal}
use Rattle.std.proofs.lemmas.List.{append-nil}
use Rattle.hex.specs.Hex.{IsBytes}
use Rattle.ch_base.specs.AddressValues.{AddressValue}
use Rattle.ch_base.specs.Addresses.{address_text}
use Rattle.ch_ident.specs.Names.{is_name}
use Rattle.ch_model.specs.declared.refusal.BadKind.{BadKind}
use Rattle.ch_model.specs.declared.refusal.BadKind.TheVariants.{Form}
use Rattle.ch_model.specs.declared.name.ProcName.{ProcName}
use Rattle.ch_model.specs.declared.name.TargetName.TheVariants.{Process}
use Rattle.ch_model.specs.declared.line.What.{What}
use Rattle.ch_model.specs.declared.line.What.TheVariants.{Node, Proc, Send, Recv, End}
use Rattle.ch_model.specs.Fields.{need, begins_with_dollar, is_node_name_of, node_name_of, sent_mark_of, bytes_of, field_of, last_of}
use Rattle.ch_model.specs.FieldsOfNames.{process_of, numbered}
use Rattle.ch_model.specs.LinesTold.{Told, declared_in, told_after}
use Rattle.ch_model.specs.LinesDeclared.{place_line, node_line}
use Rattle.ch_model.specs.LinesOfProcesses.{process_alone, process_and_word, proc_line, recv_line, end_line}
use Rattle.ch_model.specs.LinesBuilt.{is_bare, only_node_line, send_process_line, one_node}
use Rattle.ch_model.specs.Lines.{line_of_word, line_said, header, said_and_told, read_line}
use Rattle.ch_model.specs.SpellingFields.{field, process_text, bytes_text}
use Rattle.ch_model.specs.Spelling.{what_text}
use Rattle.ch_journal.proofs.Parts.{field_again, field_alone, choice, needed, bind_ok, accepts, accepted_is}
use Rattle.ch_journal.proofs.Classes.{is_declared, IsProcess, name_lacks, name_found, name_again, process_found, process_lacks, process_again, numbered_again, declared_again, word_lacks, sent_found, sent_again, bytes_found, bytes_lacks, bytes_again}
use Rattle.ch_journal.proofs.Shapes.{IsPlace, place_found, place_again, alone_found, alone_again, worded_found, worded_again}

-- a line with its canonical text, without the newline, which is read as that line
pub record Reads (told : Told) (what : What) : Type 0 where
  pub canonical : List ℕ
  pub is : what_text what ≡ canonical ++ 10 ∷ []
  pub again : line_said one_node told canonical ≡ Ok what

abbrev refuse : Result What BadKind
refuse = Err Form

-- ---- node

node_again : (told : Told) (name : List ℕ) (address : AddressValue) (unique : ℕ) → is_bare told.declarations ≡ true → IsPlace told name address unique → only_node_line told (Some (name ++ 32 ∷ (address_text address ++ 32 ∷ decimal unique))) ≡ Ok (Node name address unique)
unfolding only_node_line node_line
node_again told name address unique b h = rw (b, place_again told name address unique h) refl

node_reads : (told : Told) (name : List ℕ) (address : AddressValue) (unique : ℕ) → is_bare told.declarations ≡ true → IsPlace told name address unique → Reads told (Node name address unique)
unfolding line_said line_of_word field_of
node_reads told name address unique b h =
    record {
      canonical = codes "node" ++ flat_map field (name ∷ address_text address ∷ decimal unique ∷ []);
      is = refl;
      again = rw (append-nil (decimal unique)) (node_again told name address unique b h);
    }

node_found : (told : Told) (rest : Option (List ℕ)) (what : What) → is_bare told.declarations ≡ true → node_line told rest ≡ Ok what → Reads told what
unfolding node_line
node_found told rest what b e =
    let p = bind_ok (place_line told rest) _ what e in
    let is : Node p.0.0 p.0.1 p.0.2 ≡ what = accepted_is _ what p.2 in
    subst (Reads told) is (node_reads told p.0.0 p.0.1 p.0.2 b (place_found told rest p.0 p.1))

only_node_found : (told : Told) (rest : Option (List ℕ)) (what : What) → only_node_line told rest ≡ Ok what → Reads told what
unfolding only_node_line
only_node_found told rest what e =
    let first = bind_ok (need Form (is_bare told.declarations) true) _ what e in
    node_found told rest what (needed Form (is_bare told.declarations) true first.0 first.1).0 first.2

-- ---- proc

proc_again : (told : Told) (node : List ℕ) → is_node_name_of node ≡ true → is_declared told node ≡ true → proc_line told (Some node) ≡ Ok (Proc node)
unfolding proc_line last_of
proc_again told node h g = rw (field_alone node (name_lacks 32 node (lit< tt) h), name_again node h, declared_again told node g) refl

proc_reads : (told : Told) (node : List ℕ) → (is_node_name_of node ≡ true) × (is_declared told node ≡ true) → Reads told (Proc node)
unfolding line_said line_of_word field_of
proc_reads told node h = record { canonical = codes "proc" ++ flat_map field (node ∷ []); is = refl; again = rw (append-nil node) (proc_again told node h.0 h.1) }

proc_facts : (told : Told) (text named node : List ℕ) → node_name_of text ≡ Ok named → declared_in told named ≡ Ok node → (is_node_name_of node ≡ true) × (is_declared told node ≡ true)
unfolding declared_in
proc_facts told text named node e f =
    let is = needed _ (is_declared told named) named node f in
    subst (λ (t : List ℕ). (is_node_name_of t ≡ true) × (is_declared told t ≡ true)) is.1 (name_found text named e, is.0)

proc_found : (told : Told) (rest : Option (List ℕ)) (what : What) → proc_line told rest ≡ Ok what → Reads told what
unfolding proc_line
proc_found told rest what e =
    let name = bind_ok (field_of rest) _ what e in
    let last = bind_ok (last_of name.0.1) _ what name.2 in
    let named = bind_ok (node_name_of name.0.0) _ what last.2 in
    let node = bind_ok (declared_in told named.0) _ what named.2 in
    let is : Proc node.0 ≡ what = accepted_is _ what node.2 in
    subst (Reads told) is (proc_reads told node.0 (proc_facts told name.0.0 named.0 node.0 named.1 node.1))

-- ---- send

-- what is sent, by whom and to whom
record IsSending (told : Told) (by to : ProcName) (mark body : List ℕ) : Type 0 where
  from : IsProcess told by
  goal : IsProcess told to
  word : is_name mark ≡ true
  free : not (begins_with_dollar mark) ≡ true
  bytes : IsBytes body

send_again : (told : Told) (by to : ProcName) (mark body : List ℕ) → IsSending told by to mark body → send_process_line told (Some (process_text by ++ 32 ∷ (process_text to ++ 32 ∷ (mark ++ 32 ∷ bytes_text body)))) ≡ Ok (Send by (Process to) mark body)
unfolding send_process_line last_of
send_again told by to mark body h =
    rw (
      field_again (process_text by) (process_text to ++ 32 ∷ (mark ++ 32 ∷ bytes_text body)) (process_lacks told by h.from),
      field_again (process_text to) (mark ++ 32 ∷ bytes_text body) (process_lacks told to h.goal),
      field_again mark (bytes_text body) (word_lacks mark h.word),
      field_alone (bytes_text body) (bytes_lacks body h.bytes),
      process_again told by h.from,
      process_again told to h.goal,
      sent_again mark h.word h.free,
      bytes_again body h.bytes,
      numbered_again told by h.from,
      numbered_again told to h.goal,
      declared_again told by.node h.from.known,
      declared_again told to.node h.goal.known,
    ) refl

send_reads : (told : Told) (by to : ProcName) (mark body : List ℕ) → IsSending told by to mark body → Reads told (Send by (Process to) mark body)
unfolding line_said line_of_word field_of
send_reads told by to mark body h =
    record {
      canonical = codes "send" ++ flat_map field (process_text by ∷ process_text to ∷ mark ∷ bytes_text body ∷ []);
      is = refl;
      again = rw (append-nil (bytes_text body)) (send_again told by to mark body h);
    }

send_found : (told : Told) (rest : Option (List ℕ)) (what : What) → send_process_line told rest ≡ Ok what → Reads told what
unfolding send_process_line
send_found told rest what e =
    let by = bind_ok (field_of rest) _ what e in
    let to = bind_ok (field_of by.0.1) _ what by.2 in
    let mark = bind_ok (field_of to.0.1) _ what to.2 in
    let body = bind_ok (field_of mark.0.1) _ what mark.2 in
    let last = bind_ok (last_of body.0.1) _ what body.2 in
    let sender = bind_ok (process_of by.0.0) _ what last.2 in
    let receiver = bind_ok (process_of to.0.0) _ what sender.2 in
    let word = bind_ok (sent_mark_of mark.0.0) _ what receiver.2 in
    let bytes = bind_ok (bytes_of body.0.0) _ what word.2 in
    let from = bind_ok (numbered sender.0) _ what bytes.2 in
    let goal = bind_ok (numbered receiver.0) _ what from.2 in
    let one = bind_ok (declared_in told from.0.node) _ what goal.2 in
    let other = bind_ok (declared_in told goal.0.node) _ what one.2 in
    let is : Send from.0 (Process goal.0) word.0 bytes.0 ≡ what = accepted_is _ what other.2 in
    let marked = sent_found mark.0.0 word.0 word.1 in
    subst (Reads told) is (send_reads told from.0 goal.0 word.0 bytes.0 (
    record {
      from = process_found told by.0.0 sender.0 from.0 one.0 sender.1 from.1 one.1;
      goal = process_found told to.0.0 receiver.0 goal.0 other.0 receiver.1 goal.1 other.1;
      word = marked.0;
      free = marked.1;
      bytes = bytes_found body.0.0 bytes.0 bytes.1;
    }))

-- ---- recv and end

recv_again : (told : Told) (by : ProcName) (mark : List ℕ) → IsProcess told by × (is_name mark ≡ true) → recv_line told (Some (process_text by ++ 32 ∷ mark)) ≡ Ok (Recv by mark)
unfolding recv_line
recv_again told by mark h = rw (worded_again told by mark h.0 h.1) refl

recv_reads : (told : Told) (by : ProcName) (mark : List ℕ) → IsProcess told by × (is_name mark ≡ true) → Reads told (Recv by mark)
unfolding line_said line_of_word field_of
recv_reads told by mark h = record { canonical = codes "recv" ++ flat_map field (process_text by ∷ mark ∷ []); is = refl; again = rw (append-nil mark) (recv_again told by mark h) }

recv_found : (told : Told) (rest : Option (List ℕ)) (what : What) → recv_line told rest ≡ Ok what → Reads told what
unfolding recv_line
recv_found told rest what e =
    let p = bind_ok (process_and_word told rest) _ what e in
    let is : Recv p.0.0 p.0.1 ≡ what = accepted_is _ what p.2 in
    subst (Reads told) is (recv_reads told p.0.0 p.0.1 (worded_found told rest p.0 p.1))

end_again : (told : Told) (by : ProcName) → IsProcess told by → end_line told (Some (process_text by)) ≡ Ok (End by)
unfolding end_line
end_again told by h = rw (alone_again told by h) refl

end_reads : (told : Told) (by : ProcName) → IsProcess told by → Reads told (End by)
unfolding line_said line_of_word field_of
end_reads told by h = record { canonical = codes "end" ++ flat_map field (process_text by ∷ []); is = refl; again = rw (append-nil (process_text by)) (end_again told by h) }

end_found : (told : Told) (rest : Option (List ℕ)) (what : What) → end_line told rest ≡ Ok what → Reads told what
unfolding end_line
end_found told rest what e =
    let p = bind_ok (process_alone told rest) _ what e in
    let is : End p.0 ≡ what = accepted_is _ what p.2 in
    subst (Reads told) is (end_reads told p.0 (alone_found told rest p.0 p.1))

-- ---- any of them

refused : (told : Told) (what : What) → refuse ≡ Ok what → Reads told what
refused told what e = absurd cc

word_found : (told : Told) (word : List ℕ) (rest : Option (List ℕ)) (what : What) → line_of_word one_node.words told word rest ≡ Ok what → Reads told what
unfolding line_of_word
word_found told word rest what =
    choice (Reads told what) (bytes_eq word (codes "send")) (send_process_line told rest) _ what (send_found told rest what)
    (choice (Reads told what) (bytes_eq word (codes "recv")) (recv_line told rest) _ what (recv_found told rest what)
    (choice (Reads told what) (bytes_eq word (codes "end")) (end_line told rest) _ what (end_found told rest what)
    (choice (Reads told what) (bytes_eq word (codes "proc")) (proc_line told rest) _ what (proc_found told rest what)
    (choice (Reads told what) (bytes_eq word (codes "node")) (only_node_line told rest) refuse what (only_node_found told rest what) (refused told what)))))

pub said_found : (told : Told) (text : List ℕ) (what : What) → line_said one_node told text ≡ Ok what → Reads told what
unfolding line_said
said_found told text what e =
    let word = bind_ok (field_of (Some text)) _ what e in
    word_found told word.0.0 word.0.1 what word.2

-- ---- the law

abbrev nowhat : Option What
nowhat = None

abbrev pair : Option What → Told → Option What × Told
pair what told = (what, told)

abbrev read_as_line : Option What → Told → Result (Option What × Told) BadKind
read_as_line what told = Ok (what, told)

abbrev refuse_line : Result (Option What × Told) BadKind
refuse_line = Err Form

abbrev after_header : Told → List ℕ → Result (Option What × Told) BadKind
after_header told text = said_and_told told (line_said one_node told text)

abbrev before_header : Told → List ℕ → Result (Option What × Told) BadKind
before_header told text = cond (bytes_eq text header) (read_as_line None (record told { header = true })) refuse_line

nothing : (t : Told) (what : What) (after : Told) → read_as_line None t ≡ read_as_line (Some what) after → ⊥
nothing t what after g =
    let both : pair None t ≡ pair (Some what) after = cc in
    let none : nowhat ≡ Some what = ap (λ (p : Option What × Told). p.0) both in
    cc

-- the canonical text of a line that was accepted is read as that line
pub read_back : (told : Told) (text : List ℕ) (what : What) (after : Told) → read_line one_node told text ≡ Ok (Some what, after) → (canonical : List ℕ) × (what_text what ≡ canonical ++ 10 ∷ []) × (read_line one_node told canonical ≡ Ok (Some what, after))
read_back told text what after e = by_header told.header e
  where
    kept : (w : What) → line_said one_node told text ≡ Ok w → told_after told w ≡ after → w ≡ what → (r : Reads told what) × (told_after told what ≡ after)
    kept w h g is = (said_found told text what (h ∙ ap accepts is), subst (λ (x : What). told_after told x ≡ after) is g)

    by_said : (r : Result What BadKind) → line_said one_node told text ≡ r → said_and_told told r ≡ Ok (Some what, after) → (r : Reads told what) × (told_after told what ≡ after)
    by_said (Err k) h g = absurd cc
    by_said (Ok w) h g =
        let both : pair (Some w) (told_after told w) ≡ pair (Some what) after = cc in
        let some : Some w ≡ Some what = ap (λ (p : Option What × Told). p.0) both in
        let is : w ≡ what = cc in
        let left : told_after told w ≡ after = ap (λ (p : Option What × Told). p.1) both in
        kept w h left is

    by_first : (t : Bool) → cond t (read_as_line None (record told { header = true })) refuse_line ≡ read_as_line (Some what) after → ⊥
    by_first true g = nothing (record told { header = true }) what after g
    by_first false g = cc

    after_it : (r : Reads told what) → told_after told what ≡ after → said_and_told told (line_said one_node told r.canonical) ≡ Ok (Some what, after)
    after_it r g = rw (r.again, g) refl

    by_header : (t : Bool) → cond t (after_header told text) (before_header told text) ≡ read_as_line (Some what) after → (canonical : List ℕ) × (what_text what ≡ canonical ++ 10 ∷ []) × (cond t (after_header told canonical) (before_header told canonical) ≡ read_as_line (Some what) after)
    by_header true g = let k = by_said (line_said one_node told text) refl g in (k.0.canonical, k.0.is, after_it k.0 k.1)
    by_header false g = absurd (by_first (bytes_eq text header) g)
