-- What a process may do at each stage of its life.
use Rattle.std.specs.Prelude.{Bool, true, false}
use Rattle.ch_mail.specs.declared.life.Life.{Life}
use Rattle.ch_mail.specs.declared.life.Life.TheVariants.{Live, Doomed, Over}

-- a live process acts
abbrev pub is_live : Life → Bool
is_live Live = true
is_live (Doomed text) = false
is_live (Over reason) = false

-- a process that is over gets nothing more
abbrev pub is_over : Life → Bool
is_over Live = false
is_over (Doomed text) = false
is_over (Over reason) = true
