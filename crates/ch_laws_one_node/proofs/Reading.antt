-- What is read fits what was told before: one declaration, and then events of its node.
use Rattle.std.specs.Prelude.{◌≡◌, ℕ, ◌+◌, ◌-◌, Bool, true, false, ◌||◌, List, [], ◌∷◌, ◌++◌, Option, Some, None, Result, Ok, Err, if◌then◌else◌, codes}
use Rattle.std.proofs.Common.{refl, sym, ◌∙◌, subst}
use Rattle.std.specs.Str.{bytes_eq}
use Rattle.std.specs.List.{list_any}
use Rattle.std.proofs.lemmas.Slice.Eq.{bytes_eq-Decides}
use Rattle.ch_model.specs.declared.refusal.BadKind.{BadKind}
use Rattle.ch_model.specs.declared.refusal.BadKind.TheVariants.{Form, Undeclared}
use Rattle.ch_model.specs.declared.refusal.LineFault.TheVariants.{TooLong}
use Rattle.ch_model.specs.declared.name.TargetName.TheVariants.{Process}
use Rattle.ch_model.specs.declared.line.Line.{Line}
use Rattle.ch_model.specs.declared.line.What.{What}
use Rattle.ch_model.specs.declared.line.What.TheVariants.{Node, Proc, Send, Recv, End}
use Rattle.ch_model.specs.Fields.{◌>>=◌, need, field_of, last_of, node_name_of, word_of, sent_mark_of, bytes_of}
use Rattle.ch_model.specs.FieldsOfNames.{process_of, numbered}
use Rattle.ch_model.specs.LinesTold.{Told, untold, declares_node, declared_in, told_after}
use Rattle.ch_model.specs.LinesDeclared.{place_line, node_line}
use Rattle.ch_model.specs.LinesOfProcesses.{process_alone, process_and_word, proc_line, recv_line, end_line}
use Rattle.ch_model.specs.Lines.{line_of_word, line_said, said_and_told, read_line, header}
use Rattle.ch_model.specs.LinesBuilt.{is_bare, only_node_line, send_process_line, one_node}
use Rattle.ch_model.specs.Journal.{Scan, stopped, is_too_long, size_of, scan_from, scan_lines, longest_journal}
use Rattle.ch_laws_one_node.specs.OneNode.{AreOfNode, IsOfOneNode}
use Rattle.ch_laws_one_node.proofs.Scans.{after_read, scan_is}

abbrev pub OfValue : {A : Type 0} → (A → Type 0) → Result A BadKind → Type 0
OfValue P (Ok x) = P x
OfValue P (Err kind) = Unit {0}

-- what holds of the value, where there is one
pub record Gives {A : Type 0} (P : A → Type 0) (r : Result A BadKind) : Type 0 where
  pub given : OfValue P r

pub then_gives : {A B : Type 0} (P : B → Type 0) (x : Result A BadKind) (f : A → Result B BadKind) → ((a : A) → Gives P (f a)) → Gives P (x >>= f)
then_gives P (Ok a) f g = g a
then_gives P (Err kind) f g = record { given = tt }

pub with_gives : {A B : Type 0} (Q : A → Type 0) (P : B → Type 0) (x : Result A BadKind) (f : A → Result B BadKind) → Gives Q x → ((a : A) → Q a → Gives P (f a)) → Gives P (x >>= f)
with_gives Q P (Ok a) f q g = g a q.given
with_gives Q P (Err kind) f q g = record { given = tt }

pub if_gives : {A : Type 0} (P : A → Type 0) (b : Bool) (x y : Result A BadKind) → Gives P x → Gives P y → Gives P (if b then x else y)
if_gives P true x y p q = p
if_gives P false x y p q = q

-- these declarations are none, or of this node alone
abbrev pub AreOf : Option (List ℕ) → List What → Type 0
AreOf None [] = Unit {0}
AreOf (Some current) (Node name address unique ∷ []) = name ≡ current
AreOf current others = ⊥

-- the name is the one that was declared
abbrev pub Declared : Option (List ℕ) → List ℕ → Type 0
Declared None name = ⊥
Declared (Some known) name = name ≡ known

-- the line may stand where this node was declared, or none yet
abbrev pub Fits : Option (List ℕ) → What → Type 0
Fits current (Node name address unique) = current ≡ None
Fits current (Proc name) = Declared current name
Fits current (Send by (Process to) mark body) = Declared current by.node × Declared current to.node
Fits current (Recv by mark) = Declared current by.node
Fits current (End by) = Declared current by.node
Fits current what = ⊥

or_none : (b : Bool) → (b || false) ≡ b
or_none true = refl
or_none false = refl

declared_means : (current : Option (List ℕ)) (declarations : List What) → AreOf current declarations → (name : List ℕ) → list_any (declares_node name) declarations ≡ true → Declared current name
declared_means None [] of name h = cc
declared_means (Some known) (Node own address unique ∷ []) of name h = (bytes_eq-Decides name own).0 (sym (or_none (bytes_eq name own)) ∙ h) ∙ of
declared_means current others of name h = absurd of

declared_gives : (told : Told) (current : Option (List ℕ)) → AreOf current told.declarations → (name : List ℕ) → Gives (λ n. Declared current n × Declared current name) (declared_in told name)
unfolding declared_in
declared_gives told current of name = by_test (list_any (declares_node name) told.declarations) refl where
  by_test : (b : Bool) → list_any (declares_node name) told.declarations ≡ b → Gives (λ n. Declared current n × Declared current name) (need Undeclared b name)
  by_test true h = record { given = (declared_means current told.declarations of name h, declared_means current told.declarations of name h) }
  by_test false h = record { given = tt }

bare_gives : (current : Option (List ℕ)) (declarations : List What) → AreOf current declarations → Gives (λ (b : Bool). current ≡ None) (need Form (is_bare declarations) true)
bare_gives None [] of = record { given = refl }
bare_gives current (what ∷ whats) of = record { given = tt }
bare_gives (Some known) [] of = absurd of

node_fits : (told : Told) (current : Option (List ℕ)) → AreOf current told.declarations → (rest : Option (List ℕ)) → Gives (Fits current) (only_node_line told rest)
unfolding only_node_line node_line
node_fits told current of rest =
    with_gives (λ b. current ≡ None) _ (need Form (is_bare told.declarations) true) _ (bare_gives current told.declarations of) λ first none.
    then_gives _ (place_line told rest) _ λ place. record { given = none }

proc_fits : (told : Told) (current : Option (List ℕ)) → AreOf current told.declarations → (rest : Option (List ℕ)) → Gives (Fits current) (proc_line told rest)
unfolding proc_line
proc_fits told current of rest =
    then_gives _ (field_of rest) _ λ name.
    then_gives _ (last_of name.1) _ λ last.
    then_gives _ (node_name_of name.0) _ λ named.
    with_gives _ _ (declared_in told named) _ (declared_gives told current of named) λ own is. record { given = is.0 }

send_fits : (told : Told) (current : Option (List ℕ)) → AreOf current told.declarations → (rest : Option (List ℕ)) → Gives (Fits current) (send_process_line told rest)
unfolding send_process_line
send_fits told current of rest =
    then_gives _ (field_of rest) _ λ by.
    then_gives _ (field_of by.1) _ λ to.
    then_gives _ (field_of to.1) _ λ mark.
    then_gives _ (field_of mark.1) _ λ body.
    then_gives _ (last_of body.1) _ λ last.
    then_gives _ (process_of by.0) _ λ sender.
    then_gives _ (process_of to.0) _ λ receiver.
    then_gives _ (sent_mark_of mark.0) _ λ word.
    then_gives _ (bytes_of body.0) _ λ bytes.
    then_gives _ (numbered sender) _ λ from.
    then_gives _ (numbered receiver) _ λ goal.
    with_gives _ _ (declared_in told from.node) _ (declared_gives told current of from.node) λ one first.
    with_gives _ _ (declared_in told goal.node) _ (declared_gives told current of goal.node) λ other second. record { given = (first.1, second.1) }

taker_gives : (told : Told) (current : Option (List ℕ)) → AreOf current told.declarations → (rest : Option (List ℕ)) → Gives (λ taker. Declared current taker.0.node) (process_and_word told rest)
unfolding process_and_word
taker_gives told current of rest =
    then_gives _ (field_of rest) _ λ by.
    then_gives _ (field_of by.1) _ λ mark.
    then_gives _ (last_of mark.1) _ λ last.
    then_gives _ (process_of by.0) _ λ actor.
    then_gives _ (word_of mark.0) _ λ word.
    then_gives _ (numbered actor) _ λ process.
    with_gives _ _ (declared_in told process.node) _ (declared_gives told current of process.node) λ own is. record { given = is.1 }

recv_fits : (told : Told) (current : Option (List ℕ)) → AreOf current told.declarations → (rest : Option (List ℕ)) → Gives (Fits current) (recv_line told rest)
unfolding recv_line
recv_fits told current of rest = with_gives _ _ (process_and_word told rest) _ (taker_gives told current of rest) λ taker is. record { given = is }

ender_gives : (told : Told) (current : Option (List ℕ)) → AreOf current told.declarations → (rest : Option (List ℕ)) → Gives (λ process. Declared current process.node) (process_alone told rest)
unfolding process_alone
ender_gives told current of rest =
    then_gives _ (field_of rest) _ λ by.
    then_gives _ (last_of by.1) _ λ last.
    then_gives _ (process_of by.0) _ λ actor.
    then_gives _ (numbered actor) _ λ process.
    with_gives _ _ (declared_in told process.node) _ (declared_gives told current of process.node) λ own is. record { given = is.1 }

end_fits : (told : Told) (current : Option (List ℕ)) → AreOf current told.declarations → (rest : Option (List ℕ)) → Gives (Fits current) (end_line told rest)
unfolding end_line
end_fits told current of rest = with_gives _ _ (process_alone told rest) _ (ender_gives told current of rest) λ process is. record { given = is }

word_fits : (told : Told) (current : Option (List ℕ)) → AreOf current told.declarations → (word : List ℕ) (rest : Option (List ℕ)) → Gives (Fits current) (line_of_word one_node.words told word rest)
unfolding line_of_word
word_fits told current of word rest =
    if_gives _ (bytes_eq word (codes "send")) _ _ (send_fits told current of rest) (
    if_gives _ (bytes_eq word (codes "recv")) _ _ (recv_fits told current of rest) (
    if_gives _ (bytes_eq word (codes "end")) _ _ (end_fits told current of rest) (
    if_gives _ (bytes_eq word (codes "proc")) _ _ (proc_fits told current of rest) (
    if_gives _ (bytes_eq word (codes "node")) _ (Err Form) (node_fits told current of rest) (record { given = tt })))))

line_fits : (told : Told) (current : Option (List ℕ)) → AreOf current told.declarations → (text : List ℕ) → Gives (Fits current) (line_said one_node told text)
unfolding line_said
line_fits told current of text = then_gives _ (field_of (Some text)) _ λ word. word_fits told current of word.0 word.1

-- what reading a line gives: it may stand there, and what is told after it
abbrev pub Reads : Told → Option (List ℕ) → Option What × Told → Type 0
Reads told current (None, after) = after.declarations ≡ told.declarations
Reads told current (Some what, after) = Fits current what × (after ≡ told_after told what)

reads : (told : Told) (current : Option (List ℕ)) → AreOf current told.declarations → (text : List ℕ) → Gives (Reads told current) (read_line one_node told text)
reads told current of text = by_header told.header where
  by_said : (r : Result What BadKind) → Gives (Fits current) r → Gives (Reads told current) (said_and_told told r)
  by_said (Ok what) fits = record { given = (fits.given, refl) }
  by_said (Err kind) fits = record { given = tt }

  by_header : (b : Bool) → Gives (Reads told current) (if b then said_and_told told (line_said one_node told text) else (if bytes_eq text header then Ok (None, record told { header = true }) else Err Form))
  by_header true = by_said (line_said one_node told text) (line_fits told current of text)
  by_header false = if_gives _ (bytes_eq text header) _ (Err Form) (record { given = refl }) (record { given = tt })

-- the lines may stand where this node was declared, or none yet
abbrev pub AreFrom : Option (List ℕ) → List Line → Type 0
AreFrom None lines = IsOfOneNode lines
AreFrom (Some current) lines = AreOfNode current lines

-- the rest of the lines, whatever is told before them
abbrev Rest : Told → List Line → Type 0
Rest after lines = (current : Option (List ℕ)) → AreOf current after.declarations → AreFrom current lines

none_are : (declarations : List What) → AreOf None declarations → declarations ≡ []
none_are [] of = refl
none_are (what ∷ whats) of = absurd of

one_more : (told : Told) (current : Option (List ℕ)) → AreOf current told.declarations → (number : ℕ) (what : What) (lines : List Line) → Fits current what → Rest (told_after told what) lines → AreFrom current (record { number = number; what = what } ∷ lines)
one_more told None of number (Node name address unique) lines fits rest = rest (Some name) (subst (λ d. AreOf (Some name) (d ++ Node name address unique ∷ [])) (sym (none_are told.declarations of)) refl)
one_more told (Some current) of number (Node name address unique) lines fits rest = absurd (cc)
one_more told None of number (Proc name) lines fits rest = absurd fits
one_more told (Some current) of number (Proc name) lines fits rest = (fits, rest (Some current) of)
one_more told None of number (Send by (Process to) mark body) lines fits rest = absurd fits.0
one_more told (Some current) of number (Send by (Process to) mark body) lines fits rest = (fits, rest (Some current) of)
one_more told None of number (Recv by mark) lines fits rest = absurd fits
one_more told (Some current) of number (Recv by mark) lines fits rest = (fits, rest (Some current) of)
one_more told None of number (End by) lines fits rest = absurd fits
one_more told (Some current) of number (End by) lines fits rest = (fits, rest (Some current) of)
one_more told current of number what lines fits rest = absurd fits

none_from : (current : Option (List ℕ)) → AreFrom current []
none_from None = tt
none_from (Some current) = tt

pub lines_fit : (told : Told) (current : Option (List ℕ)) → AreOf current told.declarations → (number room : ℕ) (raw : List (List ℕ × Bool)) → AreFrom current (scan_from one_node told number room raw).lines
lines_fit told current of number room [] = none_from current
lines_fit told current of number room (line ∷ raw) = subst (λ s. AreFrom current s.lines) (sym (scan_is one_node told number room line raw)) (by_long (is_too_long room line) (read_line one_node told line.0) (reads told current of line.0) (λ after. λ n d. lines_fit after n d (number + 1) (room - size_of line) raw)) where
  after : Told → Scan
  after told = scan_from one_node told (number + 1) (room - size_of line) raw

  by_long : (b : Bool) (r : Result (Option What × Told) BadKind) → Gives (Reads told current) r → ((t : Told) → Rest t (after t).lines) → AreFrom current (if b then stopped number TooLong else after_read one_node number (room - size_of line) raw r).lines
  by_long true r g rest = none_from current
  by_long false (Err kind) g rest = none_from current
  by_long false (Ok (None, t)) g rest = rest t current (subst (λ d. AreOf current d) (sym g.given) of)
  by_long false (Ok (Some what, t)) g rest = one_more told current of number what (after t).lines g.given.0 (subst (λ (x : Told). Rest x (after t).lines) g.given.1 (rest t))

pub of_one_node : (raw : List (List ℕ × Bool)) → IsOfOneNode (scan_lines one_node raw).lines
of_one_node [] = tt
of_one_node (line ∷ raw) = lines_fit untold None tt 1 longest_journal (line ∷ raw)
