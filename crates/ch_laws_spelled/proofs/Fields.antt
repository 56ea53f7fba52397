-- What the fields of lines give: marks that are names, and numbers of four bytes.
use Rattle.std.specs.Prelude.{◌≡◌, ℕ, ◌<◌, ◌≤◌, ◌^◌, Bool, true, false, not, List, Option, Some, None, Result, Ok, Err}
use Rattle.std.proofs.Common.{refl, arith, lit<}
use Rattle.ch_base.specs.AddressValues.{AddressValue}
use Rattle.ch_base.specs.Addresses.{IsAddress, read_address}
use Rattle.ch_base.specs.Numbers.{number_of}
use Rattle.ch_base.specs.declared.address.AddressError.{AddressError}
use Rattle.ch_base.proofs.Addresses.{read_found}
use Rattle.ch_base.proofs.Numbers.{number_found}
use Rattle.ch_ident.specs.Names.{is_name}
use Rattle.ch_model.specs.declared.refusal.BadKind.TheVariants.{Form, Number}
use Rattle.ch_model.specs.declared.name.ProcName.{ProcName}
use Rattle.ch_model.specs.Fields.{need, or_else, begins_with_dollar, read_as, address_of, word_of, sent_mark_of, number_in}
use Rattle.ch_model.specs.FieldsOfNames.{numbered}
use Rattle.ch_laws_one_node.proofs.Reading.{Gives, with_gives}

-- an address that is read may be spelled
pub address_gives : (field : List ℕ) → Gives IsAddress (address_of field)
unfolding address_of
address_gives field = by_read (read_address field) refl where
  by_read : (r : Result AddressValue AddressError) → read_address field ≡ r → Gives IsAddress (read_as r)
  by_read (Ok a) e = record { given = (read_found field a e).0 }
  by_read (Err error) e = record { given = tt }

-- a number that is read is of four bytes
pub number_gives : (digits : List ℕ) → Gives (λ n. n < 2 ^ 32) (number_in digits)
unfolding number_in
number_gives digits = by_number (number_of 4294967295 digits) refl where
  small : (n : ℕ) → n ≤ 4294967295 → n < 2 ^ 32
  small n h = omega arith

  by_number : (o : Option ℕ) → number_of 4294967295 digits ≡ o → Gives (λ n. n < 2 ^ 32) (or_else Number o)
  by_number None e = record { given = tt }
  by_number (Some n) e = record { given = small n (number_found 4294967295 n digits (lit< tt) e).1 }

-- so is the number of a process
pub numbered_gives : (process : List ℕ × List ℕ) → Gives (λ (p : ProcName). p.counter < 2 ^ 32) (numbered process)
unfolding numbered
numbered_gives process = with_gives _ _ (number_in process.1) _ (number_gives process.1) λ number small. record { given = small }

word_gives : (field : List ℕ) → Gives (λ word. is_name word ≡ true) (word_of field)
unfolding word_of
word_gives field = by_test (is_name field) refl where
  by_test : (b : Bool) → is_name field ≡ b → Gives (λ word. is_name word ≡ true) (need Form b field)
  by_test true h = record { given = h }
  by_test false h = record { given = tt }

-- a mark that is read is a name
pub mark_gives : (field : List ℕ) → Gives (λ mark. is_name mark ≡ true) (sent_mark_of field)
unfolding sent_mark_of
mark_gives field = with_gives _ _ (word_of field) _ (word_gives field) λ word is. by_test word is (not (begins_with_dollar word)) where
  by_test : (word : List ℕ) → is_name word ≡ true → (b : Bool) → Gives (λ mark. is_name mark ≡ true) (need Form b word)
  by_test word is true = record { given = is }
  by_test word is false = record { given = tt }
