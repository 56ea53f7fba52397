use Rattle.std.proofs.Common.{◌≡◌, ◌==◌, ◌++◌, map, filter}
use Rattle.ch_watch.proofs.name_table.NameTable.names_of.Given as goal

abbrev pub invariant-loop-named : goal.invariant-loop-named
invariant-loop-named l = l.items.items ++ map (λ named. named.name) (filter (λ named. named.process == l.process) l.named-iterator) ≡ map (λ named. named.name) (filter (λ named. named.process == l.process) l.self)
