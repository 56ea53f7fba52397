-- No stranger knocks.
use Rattle.std.specs.Prelude.{◌≡◌, Bool, true, false, List}
use Rattle.std.specs.List.{list_all}
use Rattle.ch_model.specs.declared.entry.Entry.{Entry}
use Rattle.ch_model.specs.declared.entry.Entry.TheVariants as entries

-- the entry tells of no knock
abbrev pub is_unknocked : Entry → Bool
is_unknocked (entries.Knocked sock) = false
is_unknocked entry = true

-- none so far does
abbrev pub Unknocked : List Entry → Type 0
Unknocked log = list_all is_unknocked log ≡ true
