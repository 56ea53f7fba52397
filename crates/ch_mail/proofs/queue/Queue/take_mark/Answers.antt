use Rattle.std.proofs.Common.{ℕ, List, Bool, position, ap, sym, ◌∙◌}
use Rattle.std.specs.Str.{bytes_eq}
use Rattle.ch_ident.specs.declared.message.Message.{Message}
use Rattle.ch_mail.specs.Queue.{first_of_mark}
use Rattle.ch_mail.proofs.Taking.{removed_there, none_there}
use Rattle.ch_mail.proofs.queue.Queue.take_mark.Goals as goal

-- whether a message has that mark
abbrev has : List ℕ → Message → Bool
has mark message = bytes_eq message.mark mark

pub returns-in-None-clause-taken : goal.returns-in-None-clause-taken
unfolding first_of_mark
returns-in-None-clause-taken c = none_there (has c.args.mark.now) c.args.self.now (sym c.place.ensures.place ∙ c.in-None.is)

pub returns-in-Some-clause-taken : goal.returns-in-Some-clause-taken
unfolding first_of_mark
returns-in-Some-clause-taken c =
    let messages = c.self.inside.messages in
    let first = ap (position (has c.args.mark.now)) c.self.view_is ∙ sym c.place.ensures.place ∙ c.in-Some.is in
    rw (← c.self.view_is) (removed_there (has c.args.mark.now) messages.items c.remove.new.self.items c.in-Some.place messages.len c.remove.result first messages.ok.0 c.remove.ensures.variant c.remove.ensures.value c.remove.ensures.items)
