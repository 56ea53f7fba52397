-- A message that a process gets from another node, as its host reads an item, is the one that is carried next.
use Rattle.std.proofs.Common.{◌≡◌, ◌⊎◌, inl, inr, ℕ, List, [], ◌∷◌, ◌++◌, Option, Ok, sym, ◌∙◌, subst}
use Rattle.std.specs.Prelude.{slice_get, Some}
use Rattle.ch_model.specs.declared.entry.Entry.{Entry}
use Rattle.ch_model.specs.declared.entry.Entry.TheVariants as entries
use Rattle.ch_model.specs.declared.line.Line.{Line}
use Rattle.ch_model.specs.declared.local.LocalEntry.{LocalEntry}
use Rattle.ch_model.specs.declared.name.ProcName.{ProcName}
use Rattle.ch_model.specs.declared.name.TargetName.{TargetName}
use Rattle.ch_model.specs.declared.name.TargetName.TheVariants as names
use Rattle.ch_model.specs.declared.step.Step.{Step}
use Rattle.ch_model.specs.CellSteps.{steps_on}
use Rattle.ch_model.specs.Host.{host_next}
use Rattle.ch_model.specs.HostState.{HostState}
use Rattle.ch_model.specs.Naming.{process_called}
use Rattle.ch_model.specs.WorldState.{Cell, World}
use Rattle.ch_laws_calls.specs.Calls.{with_host}
use Rattle.ch_laws_calls.specs.Turns.{told_on}
use Rattle.ch_laws_peers.specs.Standing.{IsOfNodes}
use Rattle.ch_laws_messages.specs.WayReadingGoes.{OneRead, ReadingGoes}
use Rattle.ch_laws_messages.specs.GotReadingGoes.{KnownGot}
use Rattle.ch_laws_messages.proofs.GotTold.{NoGots}
use Rattle.ch_laws_messages.proofs.EnteredNext.{ItemNext, item_next, gets_next}
use Rattle.ch_laws_messages.specs.ArrivedGets.{GetsCarried, GetsNexts}

-- one entry stands alone
alone : (before behind : List Entry) (entry one : Entry) → before ++ entry ∷ behind ≡ one ∷ [] → entry ≡ one
alone [] behind entry one e = cc
alone (x ∷ []) behind entry one e = absurd cc
alone (x ∷ y ∷ rest) behind entry one e = absurd cc

-- where no entry is a receipt, this one isn't
none_got : (before behind : List Entry) (by : ProcName) (to : TargetName) (epoch index : ℕ) (receiver : Option ProcName) → NoGots (before ++ entries.Got by to epoch index receiver ∷ behind) → ⊥
none_got [] behind by to epoch index receiver n = cc
none_got (x ∷ before) behind by to epoch index receiver n = none_got before behind by to epoch index receiver n.1

module _ (journal : List Line) (nodes : IsOfNodes journal) (log : List Entry) (world : World) (known : KnownGot journal log world) (place : ℕ) (cell : Cell × ℕ) (done : List Step) (host : HostState) (told : List LocalEntry) (after : Cell) (at : slice_get world.cells place ≡ Some cell) (ran : steps_on done (with_host cell host) ≡ Ok (told, after))
    (reading : OneRead journal place cell log world (log ++ (told_on place cell after told world).0) (told_on place cell after told world).1) (then_known : KnownGot journal (log ++ (told_on place cell after told world).0) (told_on place cell after told world).1) (read : host_next cell.0.host ≡ Ok (Some done, host)) where
  abbrev Next : Type 0
  Next = ItemNext journal nodes log world known place cell done host told after at ran reading then_known

  abbrev its : (i : Next) → Entry
  its i = entries.Got (process_called world.names i.from) (names.Process (process_called world.names i.to)) i.epoch i.index (Some (process_called world.names i.to))

  its_carried : (i : Next) (by : ProcName) (to : TargetName) (epoch index : ℕ) (receiver : Option ProcName) → entries.Got by to epoch index receiver ≡ its i → GetsCarried journal log world cell by to epoch index
  its_carried i by to epoch index receiver same =
      let by_is : process_called world.names i.from ≡ by = cc in
      let to_is : names.Process (process_called world.names i.to) ≡ to = cc in
      let epoch_is : i.epoch ≡ epoch = cc in
      let index_is : i.index ≡ index = cc in
      subst (λ (p : ProcName). GetsCarried journal log world cell p to epoch index) by_is
      (subst (λ (t : TargetName). GetsCarried journal log world cell (process_called world.names i.from) t epoch index) to_is
      (subst (λ (e : ℕ). GetsCarried journal log world cell (process_called world.names i.from) (names.Process (process_called world.names i.to)) e index) epoch_is
      (subst (λ (n : ℕ). GetsCarried journal log world cell (process_called world.names i.from) (names.Process (process_called world.names i.to)) i.epoch n) index_is
      (record { party = i.party; pair = i.pair; x = i.x; from = i.of.from_node; goes = i.of.to_node; next = (gets_next i.so).gets }))))

  gets_carried : (before behind : List Entry) (by : ProcName) (to : TargetName) (epoch index : ℕ) (receiver : Option ProcName) → before ++ entries.Got by to epoch index receiver ∷ behind ≡ (told_on place cell after told world).0 → GetsCarried journal log world cell by to epoch index
  gets_carried before behind by to epoch index receiver split = by_told (item_next journal nodes log world known place cell done host told after at ran reading then_known read) where
    by_told : NoGots (told_on place cell after told world).0 ⊎ Next → GetsCarried journal log world cell by to epoch index
    by_told (inl n) = absurd (none_got before behind by to epoch index receiver (subst NoGots (sym split) n))
    by_told (inr i) = its_carried i by to epoch index receiver (alone before behind (entries.Got by to epoch index receiver) (its i) (split ∙ i.told_is))

pub gets_nexts : (journal : List Line) → IsOfNodes journal → ReadingGoes journal → GetsNexts journal (KnownGot journal) (KnownGot journal)
gets_nexts journal nodes reading = record {
  item = λ log world place cell steps host told after at e ran p q before behind by to epoch index receiver split apart. gets_carried journal nodes log world p place cell steps host told after at ran (reading.item log world place cell steps host told after at e ran p.0.0 q.0.0) q e before behind by to epoch index receiver split;
}
