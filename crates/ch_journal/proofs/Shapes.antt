-- What is known of the parts that several lines share, and that their canonical texts are read as them again.
use Rattle.std.proofs.Common.{◌≡◌, ℕ, ◌≤◌, Bool, true, not, List, ◌∷◌, ◌++◌, Option, Some, Ok, refl, subst, lit<}
use Rattle.std.specs.List.{list_any}
use Rattle.std.specs.Fmt.{decimal}
use Rattle.ch_base.specs.AddressValues.{AddressValue}
use Rattle.ch_base.specs.Addresses.{IsAddress, address_text}
use Rattle.ch_ident.specs.Names.{is_name}
use Rattle.ch_model.specs.declared.refusal.BadKind.TheVariants.{Late, Repeated}
use Rattle.ch_model.specs.declared.name.ProcName.{ProcName}
use Rattle.ch_model.specs.Fields.{is_node_name_of, node_name_of, digits_of, word_of, address_of, number_in, field_of, last_of}
use Rattle.ch_model.specs.FieldsOfNames.{process_of, numbered}
use Rattle.ch_model.specs.LinesTold.{Told, declares_name, takes_address, early_in, declared_in, new_name, new_address}
use Rattle.ch_model.specs.LinesDeclared.{place_line}
use Rattle.ch_model.specs.LinesOfProcesses.{process_alone, process_and_word}
use Rattle.ch_model.specs.SpellingFields.{process_text}
use Rattle.ch_journal.proofs.Parts.{field_again, field_alone, needed, bind_ok, accepted_is}
use Rattle.ch_journal.proofs.Classes.{IsProcess, name_lacks, name_found, name_again, decimal_lacks, digits_again, number_in_found, number_in_again, process_found, process_lacks, process_again, numbered_again, declared_again, word_lacks, word_found, word_again, address_found, address_again, address_lacks}

-- ---- places that are declared

-- a name, an address and a unique number that may be declared now
pub record IsPlace (told : Told) (name : List ℕ) (address : AddressValue) (unique : ℕ) : Type 0 where
  pub named : is_node_name_of name ≡ true
  pub place : IsAddress address
  pub small : unique ≤ 4294967295
  pub early : not told.started ≡ true
  pub new : not (list_any (declares_name name) told.declarations) ≡ true
  pub free : not (list_any (takes_address address) told.declarations) ≡ true

early_found : (told : Told) (b : Bool) → early_in told ≡ Ok b → not told.started ≡ true
unfolding early_in
early_found told b e = (needed Late (not told.started) true b e).0

own_found : (told : Told) (text named own : List ℕ) → node_name_of text ≡ Ok named → new_name told named ≡ Ok own → (is_node_name_of own ≡ true) × (not (list_any (declares_name own) told.declarations) ≡ true)
unfolding new_name
own_found told text named own e f =
    let is = needed Repeated (not (list_any (declares_name named) told.declarations)) named own f in
    subst (λ (t : List ℕ). (is_node_name_of t ≡ true) × (not (list_any (declares_name t) told.declarations) ≡ true)) is.1 (name_found text named e, is.0)

at_found : (told : Told) (text : List ℕ) (place at : AddressValue) → address_of text ≡ Ok place → new_address told place ≡ Ok at → IsAddress at × (not (list_any (takes_address at) told.declarations) ≡ true)
unfolding new_address
at_found told text place at e f =
    let is = needed Repeated (not (list_any (takes_address place) told.declarations)) place at f in
    subst (λ (t : AddressValue). IsAddress t × (not (list_any (takes_address t) told.declarations) ≡ true)) is.1 (address_found text place e, is.0)

pub place_found : (told : Told) (rest : Option (List ℕ)) (p : List ℕ × AddressValue × ℕ) → place_line told rest ≡ Ok p → IsPlace told p.0 p.1 p.2
unfolding place_line
place_found told rest p e =
    let name = bind_ok (field_of rest) _ p e in
    let address = bind_ok (field_of name.0.1) _ p name.2 in
    let unique = bind_ok (field_of address.0.1) _ p address.2 in
    let last = bind_ok (last_of unique.0.1) _ p unique.2 in
    let named = bind_ok (node_name_of name.0.0) _ p last.2 in
    let place = bind_ok (address_of address.0.0) _ p named.2 in
    let digits = bind_ok (digits_of unique.0.0) _ p place.2 in
    let number = bind_ok (number_in digits.0) _ p digits.2 in
    let early = bind_ok (early_in told) _ p number.2 in
    let own = bind_ok (new_name told named.0) _ p early.2 in
    let at = bind_ok (new_address told place.0) _ p own.2 in
    let is : (own.0, at.0, number.0) ≡ p = accepted_is _ p at.2 in
    let o = own_found told name.0.0 named.0 own.0 named.1 own.1 in
    let a = at_found told address.0.0 place.0 at.0 place.1 at.1 in
    subst (λ (t : List ℕ × AddressValue × ℕ). IsPlace told t.0 t.1 t.2) is (
    record { named = o.0; place = a.0; small = number_in_found digits.0 number.0 number.1; early = early_found told early.0 early.1; new = o.1; free = a.1 })

pub place_again : (told : Told) (name : List ℕ) (address : AddressValue) (unique : ℕ) → IsPlace told name address unique → place_line told (Some (name ++ 32 ∷ (address_text address ++ 32 ∷ decimal unique))) ≡ Ok (name, address, unique)
unfolding place_line last_of early_in new_name new_address
place_again told name address unique h =
    rw (
      field_again name (address_text address ++ 32 ∷ decimal unique) (name_lacks 32 name (lit< tt) h.named),
      field_again (address_text address) (decimal unique) (address_lacks address h.place),
      field_alone (decimal unique) (decimal_lacks unique h.small),
      name_again name h.named,
      address_again address h.place,
      digits_again unique h.small,
      number_in_again unique h.small,
      h.early,
      h.new,
      h.free,
    ) refl

-- ---- acting processes

pub alone_found : (told : Told) (rest : Option (List ℕ)) (p : ProcName) → process_alone told rest ≡ Ok p → IsProcess told p
unfolding process_alone
alone_found told rest p e =
    let by = bind_ok (field_of rest) _ p e in
    let last = bind_ok (last_of by.0.1) _ p by.2 in
    let actor = bind_ok (process_of by.0.0) _ p last.2 in
    let process = bind_ok (numbered actor.0) _ p actor.2 in
    let node = bind_ok (declared_in told process.0.node) _ p process.2 in
    let is : process.0 ≡ p = accepted_is _ p node.2 in
    subst (IsProcess told) is (process_found told by.0.0 actor.0 process.0 node.0 actor.1 process.1 node.1)

pub alone_again : (told : Told) (by : ProcName) → IsProcess told by → process_alone told (Some (process_text by)) ≡ Ok by
unfolding process_alone last_of
alone_again told by h =
    rw (field_alone (process_text by) (process_lacks told by h), process_again told by h, numbered_again told by h, declared_again told by.node h.known) refl

pub worded_found : (told : Told) (rest : Option (List ℕ)) (p : ProcName × List ℕ) → process_and_word told rest ≡ Ok p → IsProcess told p.0 × (is_name p.1 ≡ true)
unfolding process_and_word
worded_found told rest p e =
    let by = bind_ok (field_of rest) _ p e in
    let mark = bind_ok (field_of by.0.1) _ p by.2 in
    let last = bind_ok (last_of mark.0.1) _ p mark.2 in
    let actor = bind_ok (process_of by.0.0) _ p last.2 in
    let word = bind_ok (word_of mark.0.0) _ p actor.2 in
    let process = bind_ok (numbered actor.0) _ p word.2 in
    let node = bind_ok (declared_in told process.0.node) _ p process.2 in
    let is : (process.0, word.0) ≡ p = accepted_is _ p node.2 in
    subst (λ (t : ProcName × List ℕ). IsProcess told t.0 × (is_name t.1 ≡ true)) is (process_found told by.0.0 actor.0 process.0 node.0 actor.1 process.1 node.1, word_found mark.0.0 word.0 word.1)

pub worded_again : (told : Told) (by : ProcName) (mark : List ℕ) → IsProcess told by → is_name mark ≡ true → process_and_word told (Some (process_text by ++ 32 ∷ mark)) ≡ Ok (by, mark)
unfolding process_and_word last_of
worded_again told by mark h g =
    rw (
      field_again (process_text by) mark (process_lacks told by h),
      field_alone mark (word_lacks mark g),
      process_again told by h,
      word_again mark g,
      numbered_again told by h,
      declared_again told by.node h.known,
    ) refl
