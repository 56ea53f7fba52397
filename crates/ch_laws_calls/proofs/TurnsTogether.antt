-- Claims that turns keep, put together.
use Rattle.std.specs.Prelude.{List, ◌++◌}
use Rattle.ch_model.specs.declared.entry.Entry.{Entry}
use Rattle.ch_model.specs.declared.line.Line.{Line}
use Rattle.ch_model.specs.WorldState.{World}
use Rattle.ch_laws_calls.specs.Calls.{Claim, Anything, Both}
use Rattle.ch_laws_calls.proofs.Together.{Combines}
use Rattle.ch_laws_calls.specs.Turns.{KeepsTurns}

-- what is kept of two claims gives what is kept of a third, turn by turn
pub combined : {journal : List Line} {P Q J A B M C D N : Claim} → Combines P Q J A B M C D N → KeepsTurns journal A B M → KeepsTurns journal C D N → KeepsTurns journal P Q J
combined gives one two = record {
  marked = λ log world number what answer found of p j q. gives log _ world _ p j q (one.marked log world number what answer found of) (two.marked log world number what answer found of);
  made = λ log world place cell end number node acts next told after at there does all p j q. gives log _ world _ p j q (one.made log world place cell end number node acts next told after at there does all) (two.made log world place cell end number node acts next told after at there does all);
  asked = λ log world what by command place cell number node acts next told after line at there does all p j q. gives log _ world _ p j q (one.asked log world what by command place cell number node acts next told after line at there does all) (two.asked log world what by command place cell number node acts next told after line at there does all);
  joined = λ log world socket place n cell steps host is can held called read p j q. gives log _ world _ p j q (one.joined log world socket place n cell steps host is can held called read) (two.joined log world socket place n cell steps host is can held called read);
  came = λ log world socket place cell steps host is can at called read p j q. gives log _ world _ p j q (one.came log world socket place cell steps host is can at called read) (two.came log world socket place cell steps host is can at called read);
  fed = λ log world socket which count b bytes place n cell steps host is can taken held called read p j q. gives log _ world _ p j q (one.fed log world socket which count b bytes place n cell steps host is can taken held called read) (two.fed log world socket which count b bytes place n cell steps host is can taken held called read);
  ended = λ log world socket which place n cell steps host told after is can none held called all read p j q. gives log _ world _ p j q (one.ended log world socket which place n cell steps host told after is can none held called all read) (two.ended log world socket which place n cell steps host told after is can none held called all read);
  item = λ log world place cell steps host told after at does all p j q. gives log _ world _ p j q (one.item log world place cell steps host told after at does all) (two.item log world place cell steps host told after at does all);
}

-- more is given before, and after
pub weaker : {journal : List Line} {P Q A B J : Claim} → ((log : List Entry) (world : World) → A log world → P log world) → ((log : List Entry) (world : World) → B log world → Q log world) → KeepsTurns journal P Q J → KeepsTurns journal A B J
weaker before after k = combined (λ l m w v a j b f g. f (before l w a) j (after m v b)) k k

-- a claim that says the same where something is given, before and after
pub alike : {journal : List Line} {P Q J K : Claim} → ((log : List Entry) (world : World) → P log world → K log world → J log world) → ((log : List Entry) (world : World) → Q log world → J log world → K log world) → KeepsTurns journal P Q J → KeepsTurns journal P Q K
alike back on k = combined (λ l m w v p j q f g. on m v q (f p (back l w p j) q)) k k

-- each of two is kept by itself
pub beside : {journal : List Line} {P Q J K : Claim} → KeepsTurns journal P Q J → KeepsTurns journal P Q K → KeepsTurns journal P Q (Both J K)
beside one two = combined (λ l m w v p j q f g. (f p j.0 q, g p j.1 q)) one two

-- what is kept whatever else is so is given, before and after, to what is kept with it
pub given_first : {journal : List Line} {S J : Claim} → KeepsTurns journal Anything Anything S → KeepsTurns journal S S J → KeepsTurns journal Anything Anything (Both S J)
given_first one two = combined (λ l m w v p j q f g. let s = f tt j.0 tt in (s, g j.0 j.1 s)) one two

-- so it is where more is given
pub given_with : {journal : List Line} {P Q S J : Claim} → KeepsTurns journal P Q S → KeepsTurns journal (Both S P) (Both S Q) J → KeepsTurns journal P Q (Both S J)
given_with one two = combined (λ l m w v p j q f g. let s = f p j.0 q in (s, g (j.0, p) j.1 (s, q))) one two

-- each of two is kept where the other holds before
pub given_each : {journal : List Line} {P Q J K : Claim} → KeepsTurns journal (Both P K) Q J → KeepsTurns journal (Both P J) Q K → KeepsTurns journal P Q (Both J K)
given_each one two = combined (λ l m w v p j q f g. (f (p, j.1) j.0 q, g (p, j.0) j.1 q)) one two

-- What is so of a log, and was so of all that it began with, may be given: then it is kept that the claim holds where that is so.
pub while_given : {journal : List Line} {P : List Entry → Type 0} {J : Claim} → ((one two : List Entry) → P (one ++ two) → P one) → KeepsTurns journal (λ log world. P log) (λ log world. P log) J → KeepsTurns journal Anything Anything (λ log world. P log → J log world)
while_given cut k = record {
  marked = λ log world number what answer found of p j q now. k.marked log world number what answer found of (cut log _ now) (j (cut log _ now)) now;
  made = λ log world place cell end number node acts next told after at there does all p j q now. k.made log world place cell end number node acts next told after at there does all (cut log _ now) (j (cut log _ now)) now;
  asked = λ log world what by command place cell number node acts next told after line at there does all p j q now. k.asked log world what by command place cell number node acts next told after line at there does all (cut log _ now) (j (cut log _ now)) now;
  joined = λ log world socket place n cell steps host is can held called read p j q now. k.joined log world socket place n cell steps host is can held called read (cut log _ now) (j (cut log _ now)) now;
  came = λ log world socket place cell steps host is can at called read p j q now. k.came log world socket place cell steps host is can at called read (cut log _ now) (j (cut log _ now)) now;
  fed = λ log world socket which count b bytes place n cell steps host is can taken held called read p j q now. k.fed log world socket which count b bytes place n cell steps host is can taken held called read (cut log _ now) (j (cut log _ now)) now;
  ended = λ log world socket which place n cell steps host told after is can none held called all read p j q now. k.ended log world socket which place n cell steps host told after is can none held called all read (cut log _ now) (j (cut log _ now)) now;
  item = λ log world place cell steps host told after at does all p j q now. k.item log world place cell steps host told after at does all (cut log _ now) (j (cut log _ now)) now;
}

-- what always holds is kept
pub always : {journal : List Line} {P Q J : Claim} → ((log : List Entry) (world : World) → J log world) → KeepsTurns journal P Q J
always holds = record {
  marked = λ log world number what answer found of p j q. holds _ _;
  made = λ log world place cell end number node acts next told after at there does all p j q. holds _ _;
  asked = λ log world what by command place cell number node acts next told after line at there does all p j q. holds _ _;
  joined = λ log world socket place n cell steps host is can held called read p j q. holds _ _;
  came = λ log world socket place cell steps host is can at called read p j q. holds _ _;
  fed = λ log world socket which count b bytes place n cell steps host is can taken held called read p j q. holds _ _;
  ended = λ log world socket which place n cell steps host told after is can none held called all read p j q. holds _ _;
  item = λ log world place cell steps host told after at does all p j q. holds _ _;
}
