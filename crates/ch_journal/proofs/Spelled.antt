-- What a field that was read shows of its text: it is the canonical text of what was read, but for bytes, whose digits
-- may be in either case.
use Rattle.std.proofs.Common.{◌≡◌, ℕ, Bool, true, false, not, ◌&&◌, cond, List, [], ◌∷◌, ◌++◌, codes, Option, Some, None, Result, Ok, Err, nat_le, ◌==◌, refl, sym, ap, subst, ◌∙◌, append_assoc, arith, lit<}
use Rattle.std.specs.Str.{bytes_eq}
use Rattle.std.specs.Fmt.{decimal}
use Rattle.std.specs.List.{flat_map}
use Rattle.std.proofs.lemmas.Bool.Decides.{nat_tests}
use Rattle.std.proofs.lemmas.List.{append-nil}
use Rattle.std.proofs.lemmas.Slice.Eq.{bytes_eq-Decides}
use Rattle.ch_base.specs.AddressValues.{AddressValue}
use Rattle.ch_base.specs.Numbers.{number_of}
use Rattle.ch_base.specs.Addresses.{after_front, address_text, read_address, at_least}
use Rattle.ch_base.proofs.Numbers.{number_found}
use Rattle.ch_base.proofs.Addresses.{read_found}
use Rattle.ch_model.specs.declared.refusal.BadKind.{BadKind}
use Rattle.ch_model.specs.declared.refusal.BadKind.TheVariants.{Form, Number}
use Rattle.ch_model.specs.declared.name.End.{End}
use Rattle.ch_model.specs.declared.name.End.TheVariants.{O, T}
use Rattle.ch_model.specs.declared.name.ProcName.{ProcName}
use Rattle.ch_model.specs.declared.name.RefName.{RefName}
use Rattle.ch_model.specs.declared.name.SockName.{SockName}
use Rattle.ch_model.specs.declared.name.TargetName.{TargetName}
use Rattle.ch_model.specs.declared.name.TargetName.TheVariants.{Process, Port, Named}
use Rattle.ch_model.specs.Fields.{need, or_else, at_byte, up_to_space, field_of, last_of, is_node_name_of, node_name_of, digits_of, word_of, sent_mark_of, read_as, address_of, host_of, end_of, is_line_text, text_of, number_in, count_in}
use Rattle.ch_model.specs.FieldsOfNames.{process_of, destination_parts, destination_of, named_of, reference_of, socket_of, numbered, numbered_target, numbered_destination, numbered_reference, numbered_socket}
use Rattle.ch_model.specs.SpellingFields.{field, process_text, target_text, reference_text, socket_text, end_text}
use Rattle.ch_journal.proofs.Parts.{lacks, field_again, field_alone, needed, bind_ok, accepts, accepted_is}

-- what follows a field, with its space
abbrev pub tail : Option (List ℕ) → List ℕ
tail None = []
tail (Some rest) = 32 ∷ rest

-- ---- cutting

-- what stands before such a byte has none, and with it and the rest it is the text
record Cut (c : ℕ) (text : List ℕ) (p : List ℕ × List ℕ) : Type 0 where
  is : text ≡ p.0 ++ c ∷ p.1
  free : lacks c p.0 ≡ true

same_byte : (b c : ℕ) → (b == c) ≡ true → b ≡ c
same_byte b c h = grind (arith, nat_tests)

cut_first : (c b : ℕ) (bs : List ℕ) (p : List ℕ × List ℕ) → (b == c) ≡ true → Some ([], bs) ≡ Some p → Cut c (b ∷ bs) p
cut_first c b bs p h e =
    let is : ([], bs) ≡ p = cc in
    subst (Cut c (b ∷ bs)) is (record { is = ap (λ x. x ∷ bs) (same_byte b c h); free = refl })

cut_later : (c b : ℕ) (bs : List ℕ) (p : List ℕ × List ℕ) (o : Option (List ℕ × List ℕ)) → (b == c) ≡ false → ((q : List ℕ × List ℕ) → o ≡ Some q → Cut c bs q) → after_front b o ≡ Some p → Cut c (b ∷ bs) p
cut_later c b bs p None h rest e = absurd cc
cut_later c b bs p (Some q) h rest e =
    let is : (b ∷ q.0, q.1) ≡ p = cc in
    let cut = rest q refl in
    subst (Cut c (b ∷ bs)) is (record { is = ap (λ l. b ∷ l) cut.is; free = rw (h, cut.free) refl })

cut_at : (c : ℕ) (text : List ℕ) (p : List ℕ × List ℕ) → at_byte c text ≡ Some p → Cut c text p
cut_at c [] p e = absurd cc
cut_at c (b ∷ bs) p e = by (b == c) refl (cut_at c bs) e
  where
    by : (t : Bool) → (b == c) ≡ t → ((q : List ℕ × List ℕ) → at_byte c bs ≡ Some q → Cut c bs q) → cond t (Some ([], bs)) (after_front b (at_byte c bs)) ≡ Some p → Cut c (b ∷ bs) p
    by true h rest f = cut_first c b bs p h f
    by false h rest f = cut_later c b bs p (at_byte c bs) h rest f

none_at : (c : ℕ) (text : List ℕ) → at_byte c text ≡ None → lacks c text ≡ true
none_at c [] e = refl
none_at c (b ∷ bs) e = by (b == c) refl (none_at c bs) e
  where
    front : (o : Option (List ℕ × List ℕ)) → after_front b o ≡ None → o ≡ None
    front None f = refl
    front (Some q) f = absurd cc

    by : (t : Bool) → (b == c) ≡ t → (at_byte c bs ≡ None → lacks c bs ≡ true) → cond t (Some ([], bs)) (after_front b (at_byte c bs)) ≡ None → (not (b == c) && lacks c bs) ≡ true
    by true h rest f = absurd cc
    by false h rest f = rw (h, rest (front (at_byte c bs) f)) refl

found : {A : Type 0} (k : BadKind) (o : Option A) (x : A) → or_else k o ≡ Ok x → o ≡ Some x
found k None x e = absurd cc
found k (Some y) x e = cc

parts_of : (c : ℕ) (text : List ℕ) (p : List ℕ × List ℕ) → or_else Form (at_byte c text) ≡ Ok p → text ≡ p.0 ++ c ∷ p.1
parts_of c text p e = (cut_at c text p (found Form (at_byte c text) p e)).is

-- ---- fields of a line

-- a field lacks spaces, and with what follows it is the text
pub record IsField (rest : Option (List ℕ)) (p : List ℕ × Option (List ℕ)) : Type 0 where
  pub is : rest ≡ Some (p.0 ++ tail p.1)
  pub free : lacks 32 p.0 ≡ true

pub field_found : (rest : Option (List ℕ)) (p : List ℕ × Option (List ℕ)) → field_of rest ≡ Ok p → IsField rest p
unfolding field_of
field_found None p e = absurd cc
field_found (Some text) p e = by (at_byte 32 text) refl e
  where
    by : (o : Option (List ℕ × List ℕ)) → at_byte 32 text ≡ o → accepts (up_to_space text o) ≡ accepts p → IsField (Some text) p
    by None f g =
        let is : (text, None) ≡ p = accepted_is _ p g in
        subst (IsField (Some text)) is (record { is = ap Some (sym (append-nil text)); free = none_at 32 text f })
    by (Some q) f g =
        let is : (q.0, Some q.1) ≡ p = accepted_is _ p g in
        let cut = cut_at 32 text q f in
        subst (IsField (Some text)) is (record { is = ap Some cut.is; free = cut.free })

-- a field before anything is read as it
pub field_before : (front : List ℕ) (rest : Option (List ℕ)) → lacks 32 front ≡ true → field_of (Some (front ++ tail rest)) ≡ Ok (front, rest)
field_before front None h = ap (λ l. field_of (Some l)) (append-nil front) ∙ field_alone front h
field_before front (Some rest) h = field_again front rest h

-- a field with what it spells, before the fields that follow
pub then_field : (rest : Option (List ℕ)) (others : List (List ℕ)) {p : List ℕ × Option (List ℕ)} {text : List ℕ} → field_of rest ≡ Ok p → p.0 ≡ text → tail p.1 ≡ flat_map field others → tail rest ≡ flat_map field (text ∷ others)
then_field rest others {p} {text} e is more = ap tail (field_found rest p e).is ∙ ap (λ l. 32 ∷ (p.0 ++ l)) more ∙ ap (λ l. 32 ∷ (l ++ flat_map field others)) is

pub no_field : (rest : Option (List ℕ)) {b : Bool} → last_of rest ≡ Ok b → tail rest ≡ []
unfolding last_of
no_field None e = refl
no_field (Some text) e = absurd cc

pub last_text : (rest : Option (List ℕ)) {text : List ℕ} → text_of rest ≡ Ok text → tail rest ≡ flat_map field (text ∷ [])
unfolding text_of
last_text None e = absurd cc
last_text (Some rest) {text} e = ap (λ l. 32 ∷ l) ((needed Form (is_line_text rest) rest text e).1 ∙ sym (append-nil text))

-- ---- plain fields

pub name_is : {text name : List ℕ} → node_name_of text ≡ Ok name → text ≡ name
unfolding node_name_of
name_is {text} {name} e = (needed Form (is_node_name_of text) text name e).1

pub needed_is : {A : Type 0} (k : BadKind) (t : Bool) {x y : A} → need k t x ≡ Ok y → x ≡ y
needed_is k t {x} {y} e = (needed k t x y e).1

pub word_is : {text word : List ℕ} → word_of text ≡ Ok word → text ≡ word
unfolding word_of
word_is e = needed_is _ _ e

pub mark_is : {text word : List ℕ} → sent_mark_of text ≡ Ok word → text ≡ word
unfolding sent_mark_of
mark_is {text} {word} e = let a = bind_ok (word_of text) _ word e in word_is a.1 ∙ needed_is _ _ a.2

pub host_is : {text host : List ℕ} → host_of text ≡ Ok host → text ≡ host
unfolding host_of
host_is e = needed_is _ _ e

pub address_is : {text : List ℕ} {address : AddressValue} → address_of text ≡ Ok address → text ≡ address_text address
unfolding address_of
address_is {text} {address} e = by (read_address text) refl e
  where
    by : (r : Result AddressValue _) → read_address text ≡ r → read_as r ≡ Ok address → text ≡ address_text address
    by (Ok a) f g = let is : a ≡ address = cc in (read_found text a f).1 ∙ ap address_text is
    by (Err k) f g = absurd cc

pub end_is : {text : List ℕ} {end : End} → end_of text ≡ Ok end → text ≡ end_text end
unfolding end_of
end_is {text} {end} e = by (bytes_eq text (codes "o")) refl (bytes_eq text (codes "t")) refl e
  where
    by : (s : Bool) → bytes_eq text (codes "o") ≡ s → (t : Bool) → bytes_eq text (codes "t") ≡ t → cond s (Ok O) (cond t (Ok T) (Err Form)) ≡ Ok end → text ≡ end_text end
    by true h t i g = let is : O ≡ end = cc in (bytes_eq-Decides text (codes "o")).0 h ∙ ap end_text is
    by false h true i g = let is : T ≡ end = cc in (bytes_eq-Decides text (codes "t")).0 i ∙ ap end_text is
    by false h false i g = absurd cc

digits_is : {text digits : List ℕ} → digits_of text ≡ Ok digits → text ≡ digits
unfolding digits_of
digits_is e = needed_is _ _ e

in_range : {digits : List ℕ} {n : ℕ} → number_in digits ≡ Ok n → digits ≡ decimal n
unfolding number_in
in_range {digits} {n} e = sym (number_found 4294967295 n digits (lit< tt) (found Number (number_of 4294967295 digits) n e)).0

pub number_is : {text digits : List ℕ} {n : ℕ} → digits_of text ≡ Ok digits → number_in digits ≡ Ok n → text ≡ decimal n
number_is e f = digits_is e ∙ in_range f

pub count_is : {text digits : List ℕ} {n : ℕ} → digits_of text ≡ Ok digits → count_in digits ≡ Ok n → text ≡ decimal n
unfolding count_in
count_is {text} {digits} {n} e f = digits_is e ∙ by (number_of 4294967295 digits) refl (found Number (at_least 1 (number_of 4294967295 digits)) n f)
  where
    one : (t : Bool) (m : ℕ) → cond t (Some m) None ≡ Some n → m ≡ n
    one true m g = cc
    one false m g = absurd cc

    by : (o : Option ℕ) → number_of 4294967295 digits ≡ o → at_least 1 o ≡ Some n → digits ≡ decimal n
    by None g h = absurd cc
    by (Some m) g h = sym (number_found 4294967295 m digits (lit< tt) g).0 ∙ ap decimal (one (nat_le 1 m) m h)

-- ---- fields that name

-- a process is cut at its dot
record IsCut (text : List ℕ) (q : List ℕ × List ℕ) : Type 0 where
  is : text ≡ q.0 ++ 46 ∷ q.1

process_cut : {text : List ℕ} {q : List ℕ × List ℕ} → process_of text ≡ Ok q → IsCut text q
unfolding process_of
process_cut {text} {q} e =
    let a = bind_ok (or_else Form (at_byte 46 text)) _ q e in
    let b = bind_ok (node_name_of a.0.0) _ q a.2 in
    let c = bind_ok (digits_of a.0.1) _ q b.2 in
    let is : (b.0, c.0) ≡ q = cc in
    subst (IsCut text) is (record { is = parts_of 46 text a.0 a.1 ∙ ap (λ l. l ++ 46 ∷ a.0.1) (name_is b.1) ∙ ap (λ l. b.0 ++ 46 ∷ l) (digits_is c.1) })

numbered_is : (q : List ℕ × List ℕ) {p : ProcName} → numbered q ≡ Ok p → q.0 ++ 46 ∷ q.1 ≡ process_text p
unfolding numbered
numbered_is q {p} e =
    let a = bind_ok (number_in q.1) _ p e in
    let made : ProcName = record { node = q.0; counter = a.0 } in
    let is : made ≡ p = cc in
    ap (λ l. q.0 ++ 46 ∷ l) (in_range a.1) ∙ ap process_text is

pub process_is : {text : List ℕ} {q : List ℕ × List ℕ} {p : ProcName} → process_of text ≡ Ok q → numbered q ≡ Ok p → text ≡ process_text p
process_is e f = (process_cut e).is ∙ numbered_is _ f

pub named_is : {text : List ℕ} {target : TargetName} → named_of text ≡ Ok target → text ≡ target_text target
unfolding named_of
named_is {text} {target} e =
    let a = bind_ok (or_else Form (at_byte 58 text)) _ target e in
    let b = bind_ok (node_name_of a.0.0) _ target a.2 in
    let c = bind_ok (word_of a.0.1) _ target b.2 in
    let made : TargetName = Named b.0 c.0 in
    let is : made ≡ target = accepted_is made target c.2 in
    parts_of 58 text a.0 a.1 ∙ ap (λ l. l ++ 58 ∷ a.0.1) (name_is b.1) ∙ ap (λ l. b.0 ++ 58 ∷ l) (word_is c.1) ∙ ap target_text is

pub reference_is : {text : List ℕ} {q : List ℕ × List ℕ} {r : RefName} → reference_of text ≡ Ok q → numbered_reference q ≡ Ok r → text ≡ reference_text r
unfolding reference_of numbered_reference
reference_is {text} {q} {r} e f =
    let a = bind_ok (or_else Form (at_byte 33 text)) _ q e in
    let b = bind_ok (node_name_of a.0.0) _ q a.2 in
    let c = bind_ok (digits_of a.0.1) _ q b.2 in
    let cut : (b.0, c.0) ≡ q = cc in
    let n = bind_ok (number_in q.1) _ r f in
    let made : RefName = record { node = q.0; number = n.0 } in
    let is : made ≡ r = cc in
    parts_of 33 text a.0 a.1 ∙ ap (λ l. l ++ 33 ∷ a.0.1) (name_is b.1) ∙ ap (λ l. b.0 ++ 33 ∷ l) (digits_is c.1)
    ∙ ap (λ (t : List ℕ × List ℕ). t.0 ++ 33 ∷ t.1) cut ∙ ap (λ l. q.0 ++ 33 ∷ l) (in_range n.1) ∙ ap reference_text is

pub socket_is : {text : List ℕ} {q : List ℕ × List ℕ × List ℕ} {s : SockName} → socket_of text ≡ Ok q → numbered_socket q ≡ Ok s → text ≡ socket_text s
unfolding socket_of numbered_socket
socket_is {text} {q} {s} e f =
    let a = bind_ok (or_else Form (at_byte 62 text)) _ q e in
    let b = bind_ok (node_name_of a.0.0) _ q a.2 in
    let c = bind_ok (process_of a.0.1) _ q b.2 in
    let d = bind_ok (need Form (not (bytes_eq b.0 c.0.0)) c.0.0) _ q c.2 in
    let cut : (b.0, d.0, c.0.1) ≡ q = cc in
    let n = bind_ok (number_in q.2) _ s f in
    let made : SockName = record { from = q.0; to = q.1; number = n.0 } in
    let is : made ≡ s = cc in
    parts_of 62 text a.0 a.1 ∙ ap (λ l. l ++ 62 ∷ a.0.1) (name_is b.1) ∙ ap (λ l. b.0 ++ 62 ∷ l) ((process_cut c.1).is ∙ ap (λ l. l ++ 46 ∷ c.0.1) (needed_is _ _ d.1))
    ∙ ap (λ (t : List ℕ × List ℕ × List ℕ). t.0 ++ 62 ∷ (t.1 ++ 46 ∷ t.2)) cut ∙ ap (λ l. q.0 ++ 62 ∷ (q.1 ++ 46 ∷ l)) (in_range n.1) ∙ sym (append_assoc q.0 (62 ∷ q.1) (46 ∷ decimal n.0)) ∙ ap socket_text is

-- ---- destinations

-- the text of a process or a port by its digits
abbrev cut_text : List ℕ × List ℕ → Option (List ℕ) → List ℕ
cut_text q None = q.0 ++ 46 ∷ q.1
cut_text q (Some port) = (q.0 ++ 46 ∷ q.1) ++ 47 ∷ port

destination_cut : {text : List ℕ} {d : (List ℕ × List ℕ) × Option (List ℕ)} → destination_of text ≡ Ok d → text ≡ cut_text d.0 d.1
unfolding destination_of destination_parts
destination_cut {text} {d} e = by (at_byte 47 text) refl e
  where
    by : (o : Option (List ℕ × List ℕ)) → at_byte 47 text ≡ o → destination_parts text o ≡ Ok d → text ≡ cut_text d.0 d.1
    by None f g =
        let a = bind_ok (process_of text) _ d g in
        let is : (a.0, None) ≡ d = accepted_is _ d a.2 in
        (process_cut a.1).is ∙ ap (λ (t : (List ℕ × List ℕ) × Option (List ℕ)). cut_text t.0 t.1) is
    by (Some p) f g =
        let a = bind_ok (process_of p.0) _ d g in
        let b = bind_ok (digits_of p.1) _ d a.2 in
        let is : (a.0, Some b.0) ≡ d = accepted_is _ d b.2 in
        (cut_at 47 text p f).is ∙ ap (λ l. l ++ 47 ∷ p.1) (process_cut a.1).is ∙ ap (λ l. (a.0.0 ++ 46 ∷ a.0.1) ++ 47 ∷ l) (digits_is b.1)
        ∙ ap (λ (t : (List ℕ × List ℕ) × Option (List ℕ)). cut_text t.0 t.1) is

target_is : (q : List ℕ × List ℕ) (port : Option (List ℕ)) {p : ProcName} {target : TargetName} → numbered q ≡ Ok p → numbered_target p port ≡ Ok target → cut_text q port ≡ target_text target
unfolding numbered_target
target_is q None {p} {target} e f =
    let is : Process p ≡ target = accepted_is _ target f in
    numbered_is q e ∙ ap target_text is
target_is q (Some digits) {p} {target} e f =
    let a = bind_ok (number_in digits) _ target f in
    let is : Port p a.0 ≡ target = accepted_is _ target a.2 in
    ap (λ l. l ++ 47 ∷ digits) (numbered_is q e) ∙ ap (λ l. process_text p ++ 47 ∷ l) (in_range a.1) ∙ ap target_text is

pub destination_is : {text : List ℕ} {d : (List ℕ × List ℕ) × Option (List ℕ)} {target : TargetName} → destination_of text ≡ Ok d → numbered_destination d ≡ Ok target → text ≡ target_text target
unfolding numbered_destination
destination_is {text} {d} {target} e f =
    let a = bind_ok (numbered d.0) _ target f in
    destination_cut e ∙ target_is _ _ a.1 a.2
