-- What is so of the log and the world of each journal of many nodes, turn by turn: what is said, under way and got.
use Rattle.std.proofs.Common.{List, []}
use Rattle.ch_model.specs.declared.entry.Entry.{Entry}
use Rattle.ch_model.specs.declared.line.Line.{Line}
use Rattle.ch_model.specs.World.{world_new}
use Rattle.ch_model.specs.WorldState.{World}
use Rattle.ch_laws_calls.specs.Calls.{Claim, Both}
use Rattle.ch_laws_ids.specs.Runs.{AllRun}
use Rattle.ch_laws_calls.specs.Turns.{KeepsTurns}
use Rattle.ch_laws_calls.proofs.TurnsTogether.{weaker, given_with}
use Rattle.ch_laws_peers.specs.Standing.{IsOfNodes, Standing}
use Rattle.ch_laws_peers.specs.Says.{AllSay}
use Rattle.ch_laws_peers.specs.Reads.{AllCome, AllGet}
use Rattle.ch_laws_messages.specs.SaidGiven.{SaidGiven}
use Rattle.ch_laws_messages.proofs.SaidFresh.{fresh_say}
use Rattle.ch_laws_messages.proofs.SaidHearing.{only_item, only_ended}
use Rattle.ch_laws_messages.proofs.SaidKept.{said_kept}
use Rattle.ch_laws_messages.specs.WayHears.{HearsAlone}
use Rattle.ch_laws_messages.specs.WayReadingGoes.{ReadingGoes}
use Rattle.ch_laws_messages.proofs.WayKept.{come_kept, fresh_come}
use Rattle.ch_laws_messages.proofs.WayReading.{reading_goes}
use Rattle.ch_laws_messages.proofs.AsksAsked.{asks_truly}
use Rattle.ch_laws_messages.specs.GotReadingGoes.{KnownWell, KnownGot}
use Rattle.ch_laws_messages.proofs.GotFresh.{fresh_get}
use Rattle.ch_laws_messages.proofs.GotKept.{get_kept}
use Rattle.ch_laws_messages.proofs.AnswersSpellings.{said_well, says_well}
use Rattle.ch_laws_messages.specs.PromisedSpelt.{IsSpelt}
use Rattle.ch_laws_messages.proofs.PromisedRunning.{runs_kept, fresh_run}

abbrev pub Spelt : List Line → Claim
Spelt journal log world = IsSpelt journal log

-- hosts and nodes stand, and all that was said is carried
abbrev pub Saying : List Line → Claim
Saying journal = Both (Both (Standing journal) AllRun) (AllSay journal)

-- and what isn't read is under way
abbrev pub Coming : List Line → Claim
Coming journal = Both (Saying journal) (AllCome journal)

-- and what was read was got
abbrev pub Getting : List Line → Claim
Getting journal = Both (Coming journal) (AllGet journal)

pub to_known_well : (journal : List Line) (log : List Entry) (world : World) → Both (Coming journal) (Spelt journal) log world → KnownWell journal log world
to_known_well journal log world b = ((b.0.0.0.0, (b.0.0.1, b.0.1)), said_well journal log b.1.well b.1.numbered)

pub to_known_got : (journal : List Line) (log : List Entry) (world : World) → Both (Getting journal) (Spelt journal) log world → KnownGot journal log world
to_known_got journal log world b = (to_known_well journal log world (b.0.0, b.1), b.0.1)

module _ (journal : List Line) (n : IsOfNodes journal) where
  hears : HearsAlone journal
  hears = record { item = only_item journal n; ended = only_ended journal n }

  to_said : (log : List Entry) (world : World) → Both (Both (Standing journal) AllRun) (Spelt journal) log world → SaidGiven journal log world
  to_said log world b = record { standing = b.0.0; runs = b.0.1; well = says_well journal log b.1.well }

  pub saying_kept : KeepsTurns journal (Spelt journal) (Spelt journal) (Saying journal)
  saying_kept = given_with (weaker (λ log world p. tt) (λ log world p. tt) (runs_kept journal n)) (weaker to_said to_said (said_kept journal n))

  to_stood : (log : List Entry) (world : World) → Both (Saying journal) (Spelt journal) log world → Both (Standing journal) (AllSay journal) log world
  to_stood log world b = (b.0.0.0, b.0.1)

  pub coming_kept : KeepsTurns journal (Spelt journal) (Spelt journal) (Coming journal)
  coming_kept = given_with saying_kept (weaker to_stood to_stood (come_kept journal n hears (asks_truly journal n)))

  pub reading : ReadingGoes journal
  reading = reading_goes journal n hears (asks_truly journal n)

  pub getting_kept : KeepsTurns journal (Spelt journal) (Spelt journal) (Getting journal)
  getting_kept = given_with coming_kept (weaker (to_known_well journal) (to_known_well journal) (get_kept journal n reading))

pub fresh_getting : (journal : List Line) → IsOfNodes journal → Getting journal [] (world_new journal)
fresh_getting journal n = (((fresh_run journal n, fresh_say journal n), fresh_come journal n), fresh_get journal)
