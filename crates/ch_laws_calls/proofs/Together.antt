-- Claims that are kept, put together.
use Rattle.std.specs.Prelude.{◌≡◌, Bool, true, false, ◌&&◌, List, [], ◌∷◌, ◌++◌}
use Rattle.std.specs.List.{list_all}
use Rattle.std.proofs.Common.{refl}
use Rattle.std.proofs.lemmas.Bool.{and_parts}
use Rattle.ch_model.specs.declared.entry.Entry.{Entry}
use Rattle.ch_model.specs.declared.line.Line.{Line}
use Rattle.ch_model.specs.WorldState.{World}
use Rattle.ch_laws_calls.specs.Calls.{Claim, Anything, Both, KeepsCalls}

-- from what a thing that happens does to two claims, what it does to a third
abbrev pub Combines : Claim → Claim → Claim → Claim → Claim → Claim → Claim → Claim → Claim → Type 0
Combines P Q J A B M C D N = (before after : List Entry) (was now : World) → P before was → J before was → Q after now
    → (A before was → M before was → B after now → M after now) → (C before was → N before was → D after now → N after now) → J after now

-- what is kept of two claims gives what is kept of a third, thing by thing
pub combined : {journal : List Line} {P Q J A B M C D N : Claim} → Combines P Q J A B M C D N → KeepsCalls journal A B M → KeepsCalls journal C D N → KeepsCalls journal P Q J
combined gives one two = record {
  marked = λ log world number answer p j q. gives log _ world _ p j q (one.marked log world number answer) (two.marked log world number answer);
  noted = λ log world note p j q. gives log _ world _ p j q (one.noted log world note) (two.noted log world note);
  seated = λ log world place cell nodes at same p j q. gives log _ world _ p j q (one.seated log world place cell nodes at same) (two.seated log world place cell nodes at same);
  connected = λ log world place cell end peer conn steps host at does p j q. gives log _ world _ p j q (one.connected log world place cell end peer conn steps host at does) (two.connected log world place cell end peer conn steps host at does);
  sent = λ log world place cell end conn payload weight steps host at does p j q. gives log _ world _ p j q (one.sent log world place cell end conn payload weight steps host at does) (two.sent log world place cell end conn payload weight steps host at does);
  closed = λ log world place cell end conn steps host at does p j q. gives log _ world _ p j q (one.closed log world place cell end conn steps host at does) (two.closed log world place cell end conn steps host at does);
  joined = λ log world socket place n cell steps host is can held called read p j q. gives log _ world _ p j q (one.joined log world socket place n cell steps host is can held called read) (two.joined log world socket place n cell steps host is can held called read);
  came = λ log world socket place cell steps host is can at called read p j q. gives log _ world _ p j q (one.came log world socket place cell steps host is can at called read) (two.came log world socket place cell steps host is can at called read);
  fed = λ log world socket which count b bytes place n cell steps host is can taken held called read p j q. gives log _ world _ p j q (one.fed log world socket which count b bytes place n cell steps host is can taken held called read) (two.fed log world socket which count b bytes place n cell steps host is can taken held called read);
  ended = λ log world socket which place n cell steps host is can none held called read p j q. gives log _ world _ p j q (one.ended log world socket which place n cell steps host is can none held called read) (two.ended log world socket which place n cell steps host is can none held called read);
  item = λ log world place cell steps host at does p j q. gives log _ world _ p j q (one.item log world place cell steps host at does) (two.item log world place cell steps host at does);
}

-- more is given before, and after
pub weaker : {journal : List Line} {P Q A B J : Claim} → ((log : List Entry) (world : World) → A log world → P log world) → ((log : List Entry) (world : World) → B log world → Q log world) → KeepsCalls journal P Q J → KeepsCalls journal A B J
weaker before after k = combined (λ l m w v a j b f g. f (before l w a) j (after m v b)) k k

-- a claim that says the same
pub alike : {journal : List Line} {P Q J K : Claim} → ((log : List Entry) (world : World) → K log world → J log world) → ((log : List Entry) (world : World) → J log world → K log world) → KeepsCalls journal P Q J → KeepsCalls journal P Q K
alike back on k = combined (λ l m w v p j q f g. on m v (f p (back l w j) q)) k k

-- each of two is kept by itself
pub beside : {journal : List Line} {P Q J K : Claim} → KeepsCalls journal P Q J → KeepsCalls journal P Q K → KeepsCalls journal P Q (Both J K)
beside one two = combined (λ l m w v p j q f g. (f p j.0 q, g p j.1 q)) one two

-- what is kept whatever else is so is given, before and after, to what is kept with it
pub given_first : {journal : List Line} {S J : Claim} → KeepsCalls journal Anything Anything S → KeepsCalls journal S S J → KeepsCalls journal Anything Anything (Both S J)
given_first one two = combined (λ l m w v p j q f g. let s = f tt j.0 tt in (s, g j.0 j.1 s)) one two

-- so it is where more is given
pub given_with : {journal : List Line} {P Q S J : Claim} → KeepsCalls journal P Q S → KeepsCalls journal (Both S P) (Both S Q) J → KeepsCalls journal P Q (Both S J)
given_with one two = combined (λ l m w v p j q f g. let s = f p j.0 q in (s, g (j.0, p) j.1 (s, q))) one two

-- each of two is kept where the other holds before
pub given_each : {journal : List Line} {P Q J K : Claim} → KeepsCalls journal (Both P K) Q J → KeepsCalls journal (Both P J) Q K → KeepsCalls journal P Q (Both J K)
given_each one two = combined (λ l m w v p j q f g. (f (p, j.1) j.0 q, g (p, j.0) j.1 q)) one two

-- What is so of a log, and was so of all that it began with, may be given: then it is kept that the claim holds where that is so.
pub while_given : {journal : List Line} {P : List Entry → Type 0} {J : Claim} → ((one two : List Entry) → P (one ++ two) → P one) → KeepsCalls journal (λ log world. P log) (λ log world. P log) J → KeepsCalls journal Anything Anything (λ log world. P log → J log world)
while_given cut k = record {
  marked = λ log world number answer p j q now. k.marked log world number answer (cut log _ now) (j (cut log _ now)) now;
  noted = λ log world note p j q now. k.noted log world note (cut log _ now) (j (cut log _ now)) now;
  seated = λ log world place cell nodes at same p j q now. k.seated log world place cell nodes at same now (j now) now;
  connected = λ log world place cell end peer conn steps host at does p j q now. k.connected log world place cell end peer conn steps host at does (cut log _ now) (j (cut log _ now)) now;
  sent = λ log world place cell end conn payload weight steps host at does p j q now. k.sent log world place cell end conn payload weight steps host at does (cut log _ now) (j (cut log _ now)) now;
  closed = λ log world place cell end conn steps host at does p j q now. k.closed log world place cell end conn steps host at does (cut log _ now) (j (cut log _ now)) now;
  joined = λ log world socket place n cell steps host is can held called read p j q now. k.joined log world socket place n cell steps host is can held called read (cut log _ now) (j (cut log _ now)) now;
  came = λ log world socket place cell steps host is can at called read p j q now. k.came log world socket place cell steps host is can at called read (cut log _ now) (j (cut log _ now)) now;
  fed = λ log world socket which count b bytes place n cell steps host is can taken held called read p j q now. k.fed log world socket which count b bytes place n cell steps host is can taken held called read (cut log _ now) (j (cut log _ now)) now;
  ended = λ log world socket which place n cell steps host is can none held called read p j q now. k.ended log world socket which place n cell steps host is can none held called read (cut log _ now) (j (cut log _ now)) now;
  item = λ log world place cell steps host at does p j q now. k.item log world place cell steps host at does (cut log _ now) (j (cut log _ now)) now;
}

-- a test of each entry was passed by all that a log began with
pub passed_before : (test : Entry → Bool) (one two : List Entry) → list_all test (one ++ two) ≡ true → list_all test one ≡ true
passed_before test [] two e = refl
passed_before test (x ∷ one) two e = let parts = and_parts (test x) (list_all test (one ++ two)) e in both (test x) (list_all test one) parts.0 (passed_before test one two parts.1) where
  both : (a b : Bool) → a ≡ true → b ≡ true → (a && b) ≡ true
  both true b g h = h
  both false b g h = absurd cc

-- what always holds is kept
pub always : {journal : List Line} {P Q J : Claim} → ((log : List Entry) (world : World) → J log world) → KeepsCalls journal P Q J
always holds = record {
  marked = λ log world number answer p j q. holds _ _;
  noted = λ log world note p j q. holds _ _;
  seated = λ log world place cell nodes at same p j q. holds _ _;
  connected = λ log world place cell end peer conn steps host at does p j q. holds _ _;
  sent = λ log world place cell end conn payload weight steps host at does p j q. holds _ _;
  closed = λ log world place cell end conn steps host at does p j q. holds _ _;
  joined = λ log world socket place n cell steps host is can held called read p j q. holds _ _;
  came = λ log world socket place cell steps host is can at called read p j q. holds _ _;
  fed = λ log world socket which count b bytes place n cell steps host is can taken held called read p j q. holds _ _;
  ended = λ log world socket which place n cell steps host is can none held called read p j q. holds _ _;
  item = λ log world place cell steps host at does p j q. holds _ _;
}
