-- What is got of another node comes over the link of the two.
use Rattle.std.proofs.Common.{◌≡◌, ℕ, Bool, true, false, ◌&&◌, ◌||◌, List, [], ◌∷◌, ◌++◌, Ok, refl, ap, ◌∙◌}
use Rattle.std.specs.Prelude.{slice_get, Some}
use Rattle.std.specs.Str.{bytes_eq}
use Rattle.ch_model.specs.declared.entry.Entry.{Entry}
use Rattle.ch_model.specs.declared.entry.Entry.TheVariants as entries
use Rattle.ch_model.specs.declared.line.Line.{Line}
use Rattle.ch_model.specs.declared.local.LocalEntry.{LocalEntry}
use Rattle.ch_model.specs.declared.name.ProcName.{ProcName}
use Rattle.ch_model.specs.declared.name.TargetName.TheVariants as names
use Rattle.ch_model.specs.declared.step.Step.{Step}
use Rattle.ch_model.specs.CellSteps.{steps_on}
use Rattle.ch_model.specs.Delivery.{hears_from, gets_over_link}
use Rattle.ch_model.specs.HostState.{HostState}
use Rattle.ch_model.specs.Logs.{each_after}
use Rattle.ch_model.specs.Naming.{process_called}
use Rattle.ch_model.specs.WorldState.{Cell, World}
use Rattle.ch_model.specs.WorldSteps.{or_first}
use Rattle.ch_race.specs.Pair.{other}
use Rattle.ch_laws_calls.specs.Calls.{with_host}
use Rattle.ch_laws_calls.specs.Turns.{told_on}
use Rattle.ch_laws_raced.specs.UnbrokenGiven.{Given}
use Rattle.ch_laws_raced.proofs.OnceOver.{over_link_next}
use Rattle.ch_laws_peers.specs.Reads.{AllGet}
use Rattle.ch_laws_peers.specs.Standing.{IsOfNodes, Standing}
use Rattle.ch_laws_messages.specs.WayReadingGoes.{Known, OneRead}
use Rattle.ch_laws_messages.specs.GotSaidWell.{SaidWell}
use Rattle.ch_laws_messages.proofs.GotTold.{is_receipt, NoGots}
use Rattle.ch_laws_messages.proofs.GotTurn.{ItemGot}

-- entries that get nothing
pub none_over : (log more : List Entry) → NoGots more → each_after gets_over_link log more ≡ true
none_over log [] n = refl
none_over log (x ∷ more) n = ap (λ (b : Bool). b && each_after gets_over_link (log ++ x ∷ []) more) (one x n.0) ∙ none_over (log ++ x ∷ []) more n.1 where
  one : (x : Entry) → is_receipt x ≡ false → gets_over_link log x ≡ true
  one (entries.Got by to epoch index receiver) e = absurd cc
  one x e = refl

given_of : (journal : List Line) (log : List Entry) (world : World) → Standing journal log world → Given journal log world
given_of journal log world s = record { sound = s.all.sound; shown = s.each_pair.shown; raced = s.raced; fit = s.each_pair.fit; peers = s.peers; unknocked = s.all.unknocked }

pub second_true : (a b : Bool) → b ≡ true → (a || b) ≡ true
second_true true b e = refl
second_true false b e = e

pub item_over : (journal : List Line) (nodes : IsOfNodes journal) (log : List Entry) (world : World) (k : Known journal log world) (well : SaidWell journal log) (g : AllGet journal log world) (place : ℕ) (cell : Cell × ℕ) (done : List Step) (host : HostState) (told : List LocalEntry) (after : Cell) (at : slice_get world.cells place ≡ Some cell) (ran : steps_on done (with_host cell host) ≡ Ok (told, after))
    (reading : OneRead journal place cell log world (log ++ (told_on place cell after told world).0) (told_on place cell after told world).1) → ItemGot journal nodes log world k well g place cell done host told after at ran reading → each_after gets_over_link log (told_on place cell after told world).0 ≡ true
item_over journal nodes log world k well g place cell done host told after at ran reading i = ap (each_after gets_over_link log) i.told_is ∙ ap (λ (b : Bool). b && true) over where
  p : ProcName
  p = process_called world.names i.from

  q : ProcName
  q = process_called world.names i.to

  hears : hears_from log q.node p.node ≡ true
  hears = ap (λ (y : List ℕ). hears_from log y p.node) i.so.pair.to_node ∙ ap (hears_from log (i.party (other i.x)).name) i.so.pair.from_node
      ∙ over_link_next journal log world (given_of journal log world k.0) i.party i.pair i.x cell i.known.number i.probed i.known i.frame i.stands i.up i.ready refl i.front

  over : gets_over_link log (entries.Got (process_called world.names i.from) (names.Process (process_called world.names i.to)) (or_first i.word).epoch (or_first i.word).index (Some (process_called world.names i.to))) ≡ true
  over = second_true (bytes_eq p.node q.node) (hears_from log q.node p.node) hears
