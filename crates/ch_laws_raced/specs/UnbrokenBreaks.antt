-- What a log tells, and a host, where no link breaks and no end that was up is closed.
use Rattle.std.specs.Prelude.{◌≡◌, Bool, true, false, List}
use Rattle.std.specs.List.{list_all}
use Rattle.ch_base.specs.declared.event.Event.TheVariants as events
use Rattle.ch_model.specs.declared.entry.Entry.{Entry}
use Rattle.ch_model.specs.declared.entry.Entry.TheVariants as entries
use Rattle.ch_model.specs.declared.step.Step.{Step}
use Rattle.ch_model.specs.declared.step.Step.TheVariants as steps

-- ---- a log

-- the entry tells neither of a link that has failed nor of an end that was up and is closed
abbrev pub is_no_break : Entry → Bool
is_no_break (entries.Broke node peer why) = false
is_no_break (entries.Down sock end) = false
is_no_break entry = true

-- no entry of the log tells of either
abbrev pub NoBreaks : List Entry → Type 0
NoBreaks log = list_all is_no_break log ≡ true

-- ---- a host

-- the same of a step of a host; and it tells no node that its connections with a peer are lost
abbrev pub is_calm : Step → Bool
is_calm (steps.Broke end peer why) = false
is_calm (steps.Down sock) = false
is_calm (steps.Post end (events.ConnectionLost peer why)) = false
is_calm step = true

-- and of all steps of a call
abbrev pub calm : List Step → Bool
calm told = list_all is_calm told
