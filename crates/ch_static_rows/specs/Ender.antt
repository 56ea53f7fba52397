-- An actor that ends at its first turn, or once it is woken.
use Rattle.std.specs.Prelude.{◌≡◌, ◌≢◌, Bool, true, false, refl}
use Rattle.ch_static.specs.declared.command.Command.TheVariants as commands
use Rattle.ch_static.specs.declared.actor.Reply.{Reply}
use Rattle.ch_static.specs.declared.actor.Reply.TheVariants as replies
use Rattle.ch_static.specs.declared.actor.Turn.{Turn}
use Rattle.ch_static.specs.declared.actor.Turn.TheVariants as turns
use Rattle.ch_static_rows.specs.declared.ender.Ender.{Ender}

-- at rest until it is woken, or not at all
abbrev pub ends_at : Bool → Reply → Turn
ends_at true replies.Woken = turns.Do commands.End
ends_at true last = turns.Rest
ends_at false last = turns.Do commands.End

unfoldable pub ender_answer : Ender → Reply → Turn
ender_answer actor last = ends_at actor.rests last

unfoldable pub ender_after : Ender → Reply → Ender
ender_after actor last = actor

pub ender_rests : (actor : Ender) (last : Reply) → ender_answer actor last ≡ turns.Rest → ender_after actor last ≡ actor
unfolding ender_after
ender_rests actor last e = refl

pub ender_wakes : (actor : Ender) → ender_answer actor replies.Woken ≢ turns.Rest
unfolding ender_answer
ender_wakes actor e = woken actor.rests e
  where
    woken : (rests : Bool) → ends_at rests replies.Woken ≢ turns.Rest
    woken true e = cc
    woken false e = cc
