-- What the acts of a node, one after another, make of its host: what it tells, reads and writes.
use Rattle.std.proofs.Common.{◌≡◌, ℕ, List, [], ◌∷◌, ◌++◌, Ok, Err, refl, sym, subst}
use Rattle.std.specs.Prelude.{Result}
use Rattle.ch_base.specs.declared.address.Address.{Address}
use Rattle.ch_model.specs.declared.act.Act.{Act}
use Rattle.ch_model.specs.declared.act.Act.TheVariants as acts
use Rattle.ch_model.specs.declared.local.LocalEntry.{LocalEntry}
use Rattle.ch_model.specs.declared.step.EndError.{EndError}
use Rattle.ch_model.specs.declared.step.EndError.TheVariants as errors
use Rattle.ch_model.specs.declared.step.Step.{Step}
use Rattle.ch_model.specs.CellSteps.{Followed, after_entries, ◌then◌, asked, act_on, acts_on}
use Rattle.ch_model.specs.HostCalls.{host_connect, host_send, host_close}
use Rattle.ch_model.specs.HostState.{HostState}
use Rattle.ch_model.specs.WorldState.{Cell}
use Rattle.ch_laws_links.proofs.Cells.{steps_told}
use Rattle.ch_laws_log.specs.HostEnds.{AllTold, steps_in}
use Rattle.ch_laws_log.proofs.HostTold as tells
use Rattle.ch_laws_log.proofs.HostItemsTold as told_of
use Rattle.ch_laws_plain.proofs.AsksActs.{steps_append}
use Rattle.ch_laws_reads.specs.Reads.{AllRead}
use Rattle.ch_laws_reads.proofs.HostReads as reads
use Rattle.ch_laws_reads.proofs.HostItemsRead as read_of
use Rattle.ch_laws_writes.specs.Dues.{due_at}
use Rattle.ch_laws_writes.specs.Orderly.{IsOrderly, AllWrite}
use Rattle.ch_laws_writes.proofs.Calls as writes
use Rattle.ch_laws_writes.proofs.Dues.{nothing_said, and_then}
use Rattle.ch_laws_messages.specs.AsksDoes.{Does}

-- ---- one thing and then another

pub rests : (own : ℕ → Address) (host : HostState) → IsOrderly own host → Does own host [] host
rests own host o = record { orderly = o; tells = tells.at_rest host o.sound; reads = reads.at_rest host o.sound; writes = nothing_said own (due_at host) (due_at host) (λ n. refl) }

onward : (own : ℕ → Address) (one two three : HostState) (xs ys : List Step) → Does own one xs two → Does own two ys three → Does own one (xs ++ ys) three
onward own one two three xs ys a b = record {
  orderly = b.orderly;
  tells = tells.onward one two three xs ys a.tells b.tells;
  reads = reads.onward one two three xs ys a.reads b.reads;
  writes = and_then own (due_at one) (due_at two) (due_at three) xs ys a.writes b.writes;
}

-- what followed does so
abbrev FollowsSo : (ℕ → Address) → HostState → Followed → Type 0
FollowsSo own host (Ok done) = Does own host (steps_in done.0) done.1.host
FollowsSo own host (Err stop) = Unit {0}

chained : (own : ℕ → Address) (host : HostState) (done : Followed) (f : Cell → Followed) → FollowsSo own host done → ((next : Cell) → IsOrderly own next.host → FollowsSo own next.host (f next)) → FollowsSo own host (done then f)
chained own host (Ok done) f a g = from (f done.1) (g done.1 a.orderly) where
  from : (more : Followed) → FollowsSo own done.1.host more → FollowsSo own host (after_entries done.0 more)
  from (Ok more) b = subst (λ (l : List Step). Does own host l more.1.host) (sym (steps_append done.0 more.0)) (onward own host done.1.host more.1.host (steps_in done.0) (steps_in more.0) a b)
  from (Err stop) b = tt
chained own host (Err stop) f a g = tt

-- ---- a node's acts

asked_does : (own : ℕ → Address) (cell : Cell) (done : Result (List Step × HostState) EndError) → IsOrderly own cell.host → AllTold cell.host done → AllRead cell.host done → AllWrite own (due_at cell.host) done → FollowsSo own cell.host (asked cell done)
asked_does own cell (Ok done) o t r w = subst (λ (l : List Step). Does own cell.host l done.1) (sym (steps_told done.0)) (record { orderly = w.orderly; tells = t o.sound; reads = r o.sound; writes = w.writes })
asked_does own cell (Err errors.Worn) o t r w = tt
asked_does own cell (Err errors.OutOfMemory) o t r w = tt
asked_does own cell (Err errors.NoEndPoint) o t r w = rests own cell.host o
asked_does own cell (Err errors.NoConnection) o t r w = rests own cell.host o
asked_does own cell (Err errors.QueueFull) o t r w = rests own cell.host o
asked_does own cell (Err errors.PayloadLong) o t r w = rests own cell.host o
asked_does own cell (Err errors.Spent) o t r w = rests own cell.host o

act_does : (own : ℕ → Address) (end : ℕ) (act : Act) (cell : Cell) → IsOrderly own cell.host → FollowsSo own cell.host (act_on end act cell)
act_does own end (acts.Note note) cell o = rests own cell.host o
act_does own end (acts.Open conn peer) cell o = asked_does own cell (host_connect cell.host end peer conn) o (told_of.connected cell.host end peer conn) (read_of.connected cell.host end peer conn) (writes.connected own cell.host end peer conn o)
act_does own end (acts.Put conn payload weight) cell o = asked_does own cell (host_send cell.host end conn payload weight) o (told_of.sent cell.host end conn payload weight) (read_of.sent cell.host end conn payload weight) (writes.sent own cell.host end conn payload weight o)
act_does own end (acts.Close conn) cell o = asked_does own cell (host_close cell.host end conn) o (told_of.closed_conn cell.host end conn) (read_of.closed_conn cell.host end conn) (writes.closed_conn own cell.host end conn o)

all_do : (own : ℕ → Address) (end : ℕ) (done : List Act) (cell : Cell) → IsOrderly own cell.host → FollowsSo own cell.host (acts_on end done cell)
all_do own end [] cell o = rests own cell.host o
all_do own end (act ∷ rest) cell o = chained own cell.host (act_on end act cell) (acts_on end rest) (act_does own end act cell o) (all_do own end rest)

-- what the acts of a turn do
pub acts_do : (own : ℕ → Address) (end : ℕ) (done : List Act) (cell : Cell) (told : List LocalEntry) (after : Cell) → IsOrderly own cell.host → acts_on end done cell ≡ Ok (told, after) → Does own cell.host (steps_in told) after.host
acts_do own end done cell told after o e = subst (FollowsSo own cell.host) e (all_do own end done cell o)
