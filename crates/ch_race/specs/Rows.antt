-- Short runs that are computed, with the real table and with wrong ones.
use Rattle.std.specs.Prelude.{true, false, List, [], ◌∷◌}
use Rattle.ch_link.specs.Table.{step_of}
use Rattle.ch_link.specs.declared.LinkState.TheVariants.{Dialing, Up}
use Rattle.ch_link.specs.declared.LinkIn.TheVariants as inputs
use Rattle.ch_link.specs.declared.LinkAct.TheVariants.{Accept, Cross, LeaveAndAccept}
use Rattle.ch_race.specs.Pair.{Lesser, Greater}
use Rattle.ch_race.specs.Moves.{Move, Want, Join, Come, Read_o, Read_t, End_t, Refuse, Table}

-- both dial, the lesser node on socket 0, the greater on socket 1, and both requests come. The lesser node reads first,
-- and leaves its own dial; the greater is up, reads the stale request, crosses it and probes
abbrev pub lesser_reads_first : List Move
lesser_reads_first = Want Lesser 0 ∷ Want Greater 1 ∷ Join 0 ∷ Join 1 ∷ Come 0 ∷ Come 1 ∷ Read_t 1 ∷ Read_o 1 ∷ Read_t 0 ∷ Read_t 1 ∷ Read_o 1 ∷ []

-- or the greater node reads first, and crosses; the lesser awaits it
abbrev pub greater_crosses : List Move
greater_crosses = Want Lesser 0 ∷ Want Greater 1 ∷ Join 0 ∷ Join 1 ∷ Come 0 ∷ Come 1 ∷ Read_t 0 ∷ Read_o 0 ∷ []

-- and then takes its request
abbrev pub greater_reads_first : List Move
greater_reads_first = Want Lesser 0 ∷ Want Greater 1 ∷ Join 0 ∷ Join 1 ∷ Come 0 ∷ Come 1 ∷ Read_t 0 ∷ Read_o 0 ∷ Read_t 1 ∷ Read_o 1 ∷ []

-- or both read the other's request at once, before either answer is read
abbrev pub both_read : List Move
both_read = Want Lesser 0 ∷ Want Greater 1 ∷ Join 0 ∷ Join 1 ∷ Come 0 ∷ Come 1 ∷ Read_t 0 ∷ Read_t 1 ∷ []

-- and then the answers
abbrev pub both_answered : List Move
both_answered = Want Lesser 0 ∷ Want Greater 1 ∷ Join 0 ∷ Join 1 ∷ Come 0 ∷ Come 1 ∷ Read_t 0 ∷ Read_t 1 ∷ Read_o 0 ∷ Read_o 1 ∷ []

-- the greater node reads a stale request while it is up
abbrev pub stale_read : List Move
stale_read = Want Lesser 0 ∷ Want Greater 1 ∷ Join 0 ∷ Join 1 ∷ Come 0 ∷ Come 1 ∷ Read_t 1 ∷ Read_o 1 ∷ Read_t 0 ∷ []

-- the lesser node reads the greater's request while it dials
abbrev pub lesser_asked : List Move
lesser_asked = Want Lesser 0 ∷ Want Greater 1 ∷ Join 0 ∷ Join 1 ∷ Come 1 ∷ Read_t 1 ∷ []

-- the lesser node is crossed and awaits the greater, whose own dial fails then: no socket is left
abbrev pub awaits_in_vain : List Move
awaits_in_vain = Want Lesser 0 ∷ Want Greater 1 ∷ Join 0 ∷ Come 0 ∷ Read_t 0 ∷ Read_o 0 ∷ Refuse 1 ∷ Come 1 ∷ End_t 1 ∷ []

-- wrong: each of two nodes whose requests cross takes the other's
abbrev pub both_accept : Table
both_accept (Dialing d) (inputs.Asked s) greater = (Up s false, LeaveAndAccept d)
both_accept state input greater = step_of state input greater

-- wrong: each crosses the other's
abbrev pub both_cross : Table
both_cross (Dialing d) (inputs.Asked s) greater = (Dialing d, Cross)
both_cross state input greater = step_of state input greater

-- wrong: a link that is asked while it is up counts as probed, but no probe is written
abbrev pub never_probes : Table
never_probes (Up u false) (inputs.Asked s) greater = (Up u true, Cross)
never_probes state input greater = step_of state input greater

-- wrong: a node takes the other's request and doesn't leave its own
abbrev pub never_leaves : Table
never_leaves (Dialing d) (inputs.Asked s) false = (Up s false, Accept)
never_leaves state input greater = step_of state input greater
