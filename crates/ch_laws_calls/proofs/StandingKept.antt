-- Links and ends name each other, the log tells how ends stand, and openers' users are called as their sockets, whatever happens.
use Rattle.std.proofs.Common.{◌≡◌, ℕ, List, [], ◌∷◌, ◌++◌, refl, sym, subst}
use Rattle.std.proofs.lemmas.Bool.{and_parts}
use Rattle.std.proofs.lemmas.List.{append-nil}
use Rattle.std.specs.Prelude.{slice_get, is_some, Some}
use Rattle.ch_model.specs.declared.entry.Entry.{Entry}
use Rattle.ch_model.specs.declared.entry.Entry.TheVariants as entries
use Rattle.ch_model.specs.declared.line.Line.{Line}
use Rattle.ch_model.specs.declared.note.Note.{Note}
use Rattle.ch_model.specs.declared.step.Step.{Step}
use Rattle.ch_model.specs.HostState.{HostState}
use Rattle.ch_model.specs.NodeState.{NodeState}
use Rattle.ch_model.specs.Stages.{is_pending}
use Rattle.ch_model.specs.World.{world_new}
use Rattle.ch_model.specs.WorldHappenings.{with_cell}
use Rattle.ch_model.specs.WorldState.{Cell, World}
use Rattle.ch_model.specs.WorldSteps.{note_entry, place_after}
use Rattle.ch_laws_links.specs.Standing.{standing_at}
use Rattle.ch_laws_links.proofs.Journals.{now_of, told_after}
use Rattle.ch_laws_links.proofs.Logs.{note_quiet}
use Rattle.ch_laws_links.proofs.Risen.{IsQuiet, quietly}
use Rattle.ch_laws_links.proofs.Worlds.{named_after}
use Rattle.ch_laws_many.proofs.Reached.{IsJournal}
use Rattle.ch_laws_pairs.proofs.Lines.{asked_after}
use Rattle.ch_laws_calls.specs.Calls.{KeepsCalls, done_at}
use Rattle.ch_laws_calls.specs.Sound.{SoundEnds, SoundLinks}
use Rattle.ch_laws_calls.proofs.StandingMakes.{Makes, makes_from, makes_nothing, connect_makes, send_makes, close_makes, next_makes}
use Rattle.ch_laws_calls.proofs.StandingTold.{ready, told_links, stands_there, own_call_links}
use Rattle.ch_laws_calls.proofs.StandingOpened.{joined_links, came_links}
use Rattle.ch_laws_calls.proofs.StandingFed.{fed_links, ended_links}

-- an entry that tells nothing of how an end stands
quiet_links : (journal : List Line) (log : List Entry) (world : World) (x : Entry) → IsQuiet x → SoundLinks journal log world → SoundLinks journal (log ++ x ∷ []) world
quiet_links journal log world x q l = record { naming = l.naming; tells = quietly (now_of world.cells) log world.sockets x q l.tells; asked = l.asked }

noted_links : (journal : List Line) (log : List Entry) (world : World) (note : Note) → SoundLinks journal log world → SoundLinks journal (log ++ note_entry world.names world.last note ∷ []) (record world { last = place_after world.last note })
noted_links journal log world note l = record {
  naming = l.naming;
  tells = quietly (now_of world.cells) log world.sockets (note_entry world.names world.last note) (note_quiet world.names world.last note) l.tells;
  asked = record { homes = l.asked.homes; named = l.asked.named };
}

seated_links : (journal : List Line) (log : List Entry) (world : World) (place : ℕ) (cell : Cell × ℕ) (nodes : List (ℕ × NodeState)) → slice_get world.cells place ≡ Some cell → SoundEnds journal log world → SoundLinks journal log world
    → SoundLinks journal log (with_cell place (record (cell.0) { nodes = nodes }, cell.1) world)
seated_links journal log world place cell nodes at e l = subst (λ (all : List Entry). SoundLinks journal all (with_cell place (record (cell.0) { nodes = nodes }, cell.1) world)) (append-nil log)
    (told_links journal log world place cell (record (cell.0) { nodes = nodes }) [] (now_of world.cells) (ready journal log world e l) at
    (makes_from cell (standing_at cell.0.host) (now_of world.cells place) [] cell.0.host (λ n. sym (stands_there world.cells place cell at n)) (makes_nothing cell (l.naming place cell at) (l.asked.homes place cell at).asking)) (λ p n h. refl))

-- a call that opens no end
own_links : (journal : List Line) (log : List Entry) (world : World) (place : ℕ) (cell : Cell × ℕ) (steps : List Step) (host : HostState) → slice_get world.cells place ≡ Some cell → SoundEnds journal log world → SoundLinks journal log world
    → Makes cell (standing_at cell.0.host) steps host → let done = done_at place cell steps host world in SoundLinks journal (log ++ done.0) done.1
own_links journal log world place cell steps host at e l m = own_call_links journal log world place cell steps host (ready journal log world e l) at m

pub calls_kept : (journal : List Line) → KeepsCalls journal (SoundEnds journal) (SoundEnds journal) (SoundLinks journal)
calls_kept journal = record {
  marked = λ log world number answer e l f. quiet_links journal log world (entries.Line number answer) tt l;
  noted = λ log world note e l f. noted_links journal log world note l;
  seated = λ log world place cell nodes at seats e l f. seated_links journal log world place cell nodes at e l;
  connected = λ log world place cell end peer conn steps host at done e l f. own_links journal log world place cell steps host at e l (connect_makes cell end peer conn steps host (l.naming place cell at) (l.asked.homes place cell at).asking done);
  sent = λ log world place cell end conn payload weight steps host at done e l f. own_links journal log world place cell steps host at e l (send_makes cell end conn payload weight steps host (l.naming place cell at) (l.asked.homes place cell at).asking done);
  closed = λ log world place cell end conn steps host at done e l f. own_links journal log world place cell steps host at e l (close_makes cell end conn steps host (l.naming place cell at) (l.asked.homes place cell at).asking done);
  joined = λ log world socket place n cell steps host is can held called read e l f. joined_links journal log world socket place n cell steps host is (and_parts (is_pending socket.o.stage) (is_some socket.t.cell) can).0 called (ready journal log world e l);
  came = λ log world socket place cell steps host is can to called read e l f. came_links journal log world socket place cell steps host is can to called (ready journal log world e l);
  fed = λ log world socket which count b bytes place n cell steps host is can unread held called read e l f. fed_links journal log world socket which count b bytes place n cell steps host is can unread called (ready journal log world e l);
  ended = λ log world socket which place n cell steps host is can none held called read e l f. ended_links journal log world socket which place n cell steps host is can called (ready journal log world e l);
  item = λ log world place cell steps host at done e l f. own_links journal log world place cell steps host at e l (next_makes cell steps host (l.naming place cell at) (l.asked.homes place cell at).asking done);
}

-- so it is in a journal of many nodes
pub links_kept : (journal : List Line) → IsJournal journal → KeepsCalls journal (SoundEnds journal) (SoundEnds journal) (SoundLinks journal)
links_kept journal many = calls_kept journal

-- where nothing has happened
pub fresh_links : (journal : List Line) → SoundLinks journal [] (world_new journal)
fresh_links journal = record {
  naming = (named_after journal [] [] (world_new journal) refl).1;
  tells = (told_after journal [] [] (world_new journal) refl).tells;
  asked = asked_after journal [] [] (world_new journal) refl;
}
