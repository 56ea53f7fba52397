-- Which acts of the link table dial, and which inputs want that.
use Rattle.std.specs.Prelude.{Bool, true, false}
use Rattle.ch_link.specs.declared.LinkAct.{LinkAct}
use Rattle.ch_link.specs.declared.LinkAct.TheVariants.{Dial}
use Rattle.ch_link.specs.declared.LinkIn.{LinkIn}
use Rattle.ch_link.specs.declared.LinkIn.TheVariants.{Want}

-- the act dials a socket
abbrev pub dials : LinkAct → Bool
dials Dial = true
dials act = false

-- the input wants a socket
abbrev pub is_want_in : LinkIn → Bool
is_want_in (Want sock) = true
is_want_in input = false
