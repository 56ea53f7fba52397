use Rattle.std.proofs.Common.{◌≡◌, ◌≤◌, drop, IsTrue}
use Rattle.std.specs.List.{list_all}
use Rattle.std.specs.Str.Parse.{digits_value_after, digits_value}
use Rattle.ch_base.specs.Numbers.{is_digit_of}
use Rattle.ch_base.proofs.number.value_up_to.Given as goal

-- the value so far, and the digits that are left
abbrev pub invariant-loop-b : goal.invariant-loop-b
invariant-loop-b l = record {
  small : l.value ≤ l.most;
  digits : IsTrue (list_all is_digit_of (drop l.b-index l.bytes));
  whole : digits_value_after 10 l.value (drop l.b-index l.bytes) ≡ digits_value 10 l.bytes;
}
