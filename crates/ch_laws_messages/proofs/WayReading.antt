-- How reading goes on in each turn.
use Rattle.std.proofs.Common.{◌≡◌, ◌⊎◌, ℕ, List, [], ◌++◌, refl, ap, ◌∙◌, subst}
use Rattle.std.specs.Prelude.{slice_get, Some, Ok}
use Rattle.ch_model.specs.declared.entry.Entry.{Entry}
use Rattle.ch_model.specs.declared.line.Line.{Line}
use Rattle.ch_model.specs.declared.local.LocalEntry.{LocalEntry}
use Rattle.ch_model.specs.declared.step.Step.{Step}
use Rattle.ch_model.specs.CellSteps.{steps_on}
use Rattle.ch_model.specs.Host.{host_next}
use Rattle.ch_model.specs.HostState.{HostState}
use Rattle.ch_model.specs.WorldState.{Cell, World}
use Rattle.ch_race.specs.Pair.{Side}
use Rattle.ch_laws_calls.specs.Calls.{Both, with_host}
use Rattle.ch_laws_calls.specs.Scenes.{IsPairOf}
use Rattle.ch_laws_race.specs.Chains.{unposted}
use Rattle.ch_laws_race.specs.Scene.{Party}
use Rattle.ch_laws_reads.specs.Reads.{reads_of}
use Rattle.ch_laws_calls.specs.Turns.{told_on}
use Rattle.ch_laws_peers.specs.Says.{AllSay}
use Rattle.ch_laws_peers.specs.Reads.{ReadsOne, ReadsNone}
use Rattle.ch_laws_peers.specs.Standing.{IsOfNodes, Standing}
use Rattle.ch_laws_messages.specs.WayAsked.{AsksTruly}
use Rattle.ch_laws_messages.specs.WayGoes.{Turns}
use Rattle.ch_laws_messages.specs.WayHears.{HearsAlone}
use Rattle.ch_laws_messages.specs.WayReadingGoes.{Known, NoneRead, OneRead, ReadingGoes}
use Rattle.ch_laws_messages.proofs.WayBlind.{next_reads, ended_blind, joined_blind}
use Rattle.ch_laws_messages.proofs.WayCounts.{MayCount, grown, unread_counts}
use Rattle.ch_laws_messages.proofs.WayItems.{unposted_reads}
use Rattle.ch_laws_messages.proofs.WayKept.{marked_goes, made_goes, asked_goes, joined_goes, came_goes, fed_goes, ended_goes, item_goes}
use Rattle.ch_laws_messages.proofs.WayReadOn.{item_counts}

given : (journal : List Line) (log : List Entry) (world : World) → Known journal log world → Both (Standing journal) (AllSay journal) log world
given journal log world k = (k.0, k.1.0)

may_count : (journal : List Line) → IsOfNodes journal → (log more : List Entry) (world after : World) → (t : Turns journal log world (log ++ more) after) → Known journal log world → Known journal (log ++ more) after → (party : Side → Party) → IsPairOf journal party → (x : Side) → MayCount journal log world more after t.place t.told t.new party x
may_count journal j log more world after t p q party pair x = record { nodes = j; pair = pair; before = p.0; later = q.0; says = p.1.0 party pair x; says_later = q.1.0 party pair x; comes = p.1.1 party pair x; all = t.all; truly = t.truly party pair x }

-- a turn that reads nothing
none_read : (journal : List Line) → IsOfNodes journal → (log more : List Entry) (world after : World) → (t : Turns journal log world (log ++ more) after) → ((n : ℕ) → reads_of n t.told ≡ 0) → Known journal log world → Known journal (log ++ more) after → NoneRead journal log world (log ++ more) after
none_read journal j log more world after t none p q party pair x = (grown journal log more world party x (p.1.0 party pair x), unread_counts journal log world more after t.place t.told t.new party x (may_count journal j log more world after t p q party pair x) none)

none_of : (told steps : List Step) → told ≡ steps → ((n : ℕ) → reads_of n steps ≡ 0) → (n : ℕ) → reads_of n told ≡ 0
none_of told steps is none n = ap (reads_of n) is ∙ none n

item_reads : (journal : List Line) → IsOfNodes journal → HearsAlone journal → (log : List Entry) (world : World) (place : ℕ) (cell : Cell × ℕ) (steps : List Step) (host : HostState) (told : List LocalEntry) (after : Cell) → slice_get world.cells place ≡ Some cell → host_next cell.0.host ≡ Ok (Some steps, host) → steps_on steps (with_host cell host) ≡ Ok (told, after)
    → Known journal log world → let done = told_on place cell after told world in Known journal (log ++ done.0) done.1 → OneRead journal place cell log world (log ++ done.0) done.1
item_reads journal j hears log world place cell told_steps host told after at does all p q party pair x = (grown journal log done world party x (p.1.0 party pair x), by_turn (item_goes journal j hears log world place cell told_steps host told after at does all (given journal log world p) (given journal (log ++ done) final q))) where
  done : List Entry
  done = (told_on place cell after told world).0

  final : World
  final = (told_on place cell after told world).1

  by_turn : (t : Turns journal log world (log ++ done) final) × (t.place ≡ place) × (t.told ≡ unposted told_steps) → ReadsOne log world party x place cell (log ++ done) final ⊎ ReadsNone log world party x place cell (log ++ done) final
  by_turn t = item_counts journal log world done final place told_steps t.0.new party x
      (subst (λ (k : ℕ). MayCount journal log world done final k (unposted told_steps) t.0.new party x) t.1 (subst (λ (l : List Step). MayCount journal log world done final t.0.place l t.0.new party x) t.2 (may_count journal j log done world final t.0 p q party pair x)))
      cell at (next_reads cell.0.host host told_steps (p.0.all.sound.ends.flowing.orderly place cell at).sound does)

pub reading_goes : (journal : List Line) → IsOfNodes journal → HearsAlone journal → AsksTruly journal → ReadingGoes journal
reading_goes journal j hears asks = record {
  marked = λ log world number what answer found of p q. let t = marked_goes journal log world number answer (given journal log world p) in none_read journal j log _ world _ t.0 (none_of t.0.told [] t.1 (λ n. refl)) p q;
  made = λ log world place cell end number node acts next told after at there does all p q. let t = made_goes journal j log world place cell end number node acts next told after at there does all (given journal log world p) in none_read journal j log _ world _ t.0 (none_of t.0.told [] t.1 (λ n. refl)) p q;
  asked = λ log world what by command place cell number node acts next told after line at there does all p q.
      let a = asks.asked log world what by command place cell number node acts next told after line at there does all (given journal log world p) (given journal _ _ q) in
      let t = asked_goes journal j log world place cell told after at (given journal log world p) a in none_read journal j log _ world _ t.0 (none_of t.0.told _ t.1 a.unread) p q;
  joined = λ log world socket place n cell steps host is can held called read p q. let t = joined_goes journal j log world socket place n cell steps host is can called (given journal log world p) in none_read journal j log _ world _ t.0 (none_of t.0.told steps t.1 (joined_blind cell.0.host host n steps called.does)) p q;
  came = λ log world socket place cell steps host is can at called read p q. let t = came_goes journal log world socket place cell steps host is can at called (given journal log world p) in none_read journal j log _ world _ t.0 (none_of t.0.told [] t.1 (λ n. refl)) p q;
  fed = λ log world socket which count b bytes place n cell steps host is can taken held called read p q. let t = fed_goes journal log world socket which count b bytes place n cell steps host is can taken held called (given journal log world p) in none_read journal j log _ world _ t.0 (none_of t.0.told [] t.1 (λ n. refl)) p q;
  ended = λ log world socket which place n cell steps host told after is can none held called all read p q. let t = ended_goes journal j hears log world socket.name which place n cell steps host told after called all (given journal log world p) (given journal _ _ q) in
      none_read journal j log _ world _ t.0 (none_of t.0.told (unposted steps) t.1 (λ k. unposted_reads k steps ∙ ended_blind cell.0.host host n steps called.does k)) p q;
  item = λ log world place cell steps host told after at does all p q. item_reads journal j hears log world place cell steps host told after at does all p q;
}
