-- All that is so of receipts, put together: each is lawful after the log before it.
use Rattle.std.proofs.Common.{◌≡◌, Bool, true, false, not, ◌&&◌, ◌||◌, List, [], ◌∷◌, ◌++◌, refl, ap, ◌∙◌}
use Rattle.std.specs.Prelude.{count_by, ◌==◌}
use Rattle.std.specs.Str.{bytes_eq}
use Rattle.std.proofs.lemmas.Bool.{and_parts}
use Rattle.ch_model.specs.declared.entry.Entry.{Entry}
use Rattle.ch_model.specs.declared.entry.Entry.TheVariants as entries
use Rattle.ch_model.specs.declared.line.Line.{Line}
use Rattle.ch_model.specs.Delivery.{gets_in, gets_the_next, HasLawfulReceipts}
use Rattle.ch_model.specs.Logs.{each, each_after}
use Rattle.ch_model.specs.Same.{node_of}
use Rattle.ch_model.specs.WorldState.{World}
use Rattle.ch_laws_lives.specs.Logs.{AreAllowed}
use Rattle.ch_laws_plain_logs.specs.Plain.{IsPlain}
use Rattle.ch_laws_messages.specs.GotReceipts.{AreGotWell, gets_the_next_between}
use Rattle.ch_laws_messages.specs.GotReceived.{gets_the_next_within, AllReceived}
use Rattle.ch_laws_messages.specs.GotSaidWell.{SaidWell}
use Rattle.ch_laws_messages.proofs.GotGots.{said_before, got_next, none_earlier, got_by_receiver, got_at_once}

-- between two nodes and within one
both_ways : (b c : Bool) → (b || c) ≡ true → (not b || c) ≡ true → c ≡ true
both_ways true c e f = f
both_ways false c e f = e

next_one : (log : List Entry) (x : Entry) → gets_the_next_between log x ≡ true → gets_the_next_within log x ≡ true → gets_the_next log x ≡ true
next_one log (entries.Got by to epoch index receiver) e f = both_ways (bytes_eq by.node (node_of to)) (count_by (gets_in by to epoch) log == index) e f
next_one log x e f = refl

next_all : (before log : List Entry) → each_after gets_the_next_between before log ≡ true → each_after gets_the_next_within before log ≡ true → each_after gets_the_next before log ≡ true
next_all before [] e f = refl
next_all before (x ∷ log) e f =
    let one = and_parts (gets_the_next_between before x) (each_after gets_the_next_between (before ++ x ∷ []) log) e in
    let two = and_parts (gets_the_next_within before x) (each_after gets_the_next_within (before ++ x ∷ []) log) f in
    ap (λ (b : Bool). b && each_after gets_the_next (before ++ x ∷ []) log) (next_one before x one.0 two.0) ∙ next_all (before ++ x ∷ []) log one.1 two.1

pub got_next_all : (log : List Entry) (world : World) → IsPlain log → AreGotWell [] log → AllReceived log world → each gets_the_next log ≡ true
got_next_all log world p w r = next_all [] log (got_next log p w) r.within

pub lawful_receipts : (journal : List Line) (log : List Entry) (world : World) → IsPlain log → SaidWell journal log → AreAllowed [] log → AreGotWell [] log → AllReceived log world → HasLawfulReceipts log
lawful_receipts journal log world p well a w r = record {
  said_first = said_before log p w;
  in_order_and_once = got_next_all log world p w r;
  epochs_in_order = none_earlier journal log p well w;
  living_receiver = got_by_receiver log p a w;
  over_a_link = r.over;
  at_once = got_at_once log p w;
}
