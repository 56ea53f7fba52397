-- Each turn of a journal of many nodes keeps it that all that is said is carried.
use Rattle.std.proofs.Common.{◌≡◌, ◌⊎◌, inl, inr, ℕ, cond, true, List, [], ◌∷◌, Ok, refl, ap, ◌∙◌}
use Rattle.std.specs.Prelude.{◌==◌, slice_get, Some}
use Rattle.ch_base.specs.declared.event.Event.{Event}
use Rattle.ch_base.specs.declared.event.Event.TheVariants as events
use Rattle.ch_model.specs.declared.entry.Entry.{Entry}
use Rattle.ch_model.specs.declared.line.Line.{Line}
use Rattle.ch_model.specs.declared.local.LocalEntry.{LocalEntry}
use Rattle.ch_model.specs.declared.name.End.{End}
use Rattle.ch_model.specs.declared.step.SocketEvent.TheVariants as sockets
use Rattle.ch_model.specs.declared.step.Step.{Step}
use Rattle.ch_model.specs.declared.step.Step.TheVariants as steps
use Rattle.ch_model.specs.CellSteps.{steps_on}
use Rattle.ch_model.specs.Host.{host_next}
use Rattle.ch_model.specs.HostState.{HostState}
use Rattle.ch_model.specs.WorldLines.{can_feed}
use Rattle.ch_model.specs.WorldSockets.{end_of}
use Rattle.ch_model.specs.WorldState.{Cell, WorldSocket, World}
use Rattle.ch_laws_bytes.proofs.Lines.{own_of}
use Rattle.ch_laws_calls.specs.Calls.{with_host, IsCalled, IsHeldBy, IsIn, AllRead}
use Rattle.ch_laws_ids.specs.Runs.{pieces_at}
use Rattle.ch_laws_plain.specs.HearsTurns.{unposted, ReadTurn}
use Rattle.ch_laws_plain.specs.Plain.{CellIsPlain}
use Rattle.ch_laws_plain.specs.ReadsReading.{posts_in, Brings}
use Rattle.ch_laws_plain.proofs.ReadsTurns as reads
use Rattle.ch_laws_raced.specs.UnbrokenBreaks.{calm}
use Rattle.ch_laws_raced.specs.UnbrokenGiven as unbroken
use Rattle.ch_laws_raced.proofs.UnbrokenItems.{calm_next}
use Rattle.ch_laws_raced.proofs.UnbrokenOvers.{calm_over}
use Rattle.ch_laws_calls.specs.Turns.{KeepsTurns}
use Rattle.ch_laws_peers.specs.Says.{AllSay}
use Rattle.ch_laws_peers.specs.Standing.{IsOfNodes, Standing}
use Rattle.ch_laws_messages.specs.SaidGiven.{SaidGiven}
use Rattle.ch_laws_messages.specs.SaidHeeds.{AreCalm, Follows}
use Rattle.ch_laws_messages.proofs.SaidAsked.{asked_say}
use Rattle.ch_laws_messages.proofs.SaidEnded.{ended_say}
use Rattle.ch_laws_messages.proofs.SaidFed.{came_say, fed_say}
use Rattle.ch_laws_messages.proofs.SaidFollow.{PostsNone, PostsOne, nodes_hear}
use Rattle.ch_laws_messages.proofs.SaidHearing.{item_told}
use Rattle.ch_laws_messages.proofs.SaidItemTurn.{item_say}
use Rattle.ch_laws_messages.proofs.SaidJoined.{joined_say}
use Rattle.ch_laws_messages.proofs.SaidMakes.{made_say}
use Rattle.ch_laws_messages.proofs.SaidStill.{marked_say}
use Rattle.ch_laws_messages.proofs.SaidUnsaid.{turn_unsaid}

-- ---- no link fails

-- steps that break nothing tell of no link that failed
calm_so : (done : List Step) → calm done ≡ true → AreCalm done
calm_so [] c = tt
calm_so (steps.Broke end peer why ∷ rest) c = absurd cc
calm_so (steps.Down sock ∷ rest) c = absurd cc
calm_so (steps.Post end (events.ConnectionLost peer why) ∷ rest) c = absurd cc
calm_so (steps.Post end (events.ConnectionOpened conn peer) ∷ rest) c = calm_so rest c
calm_so (steps.Post end (events.ConnectionClosed conn) ∷ rest) c = calm_so rest c
calm_so (steps.Post end (events.Received conn payload) ∷ rest) c = calm_so rest c
calm_so (steps.Post end events.EndPointClosed ∷ rest) c = calm_so rest c
calm_so (steps.Dial sock end peer ∷ rest) c = calm_so rest c
calm_so (steps.Read sock ∷ rest) c = calm_so rest c
calm_so (steps.Write sock bytes said ∷ rest) c = calm_so rest c
calm_so (steps.Up sock ∷ rest) c = calm_so rest c
calm_so (steps.Left sock ∷ rest) c = calm_so rest c

as_unbroken : (journal : List Line) (log : List Entry) (world : World) → Standing journal log world → unbroken.Given journal log world
as_unbroken journal log world st = record { sound = st.each_pair.sound; shown = st.each_pair.shown; raced = st.raced; fit = st.each_pair.fit; peers = st.peers; unknocked = st.all.unknocked }

pub item_calm : (journal : List Line) → IsOfNodes journal → (log : List Entry) (world : World) (place : ℕ) (cell : Cell × ℕ) (done : List Step) (host : HostState) → slice_get world.cells place ≡ Some cell → host_next cell.0.host ≡ Ok (Some done, host) → Standing journal log world → AreCalm done
item_calm journal nodes log world place cell done host at does st = calm_so done (calm_next journal nodes.is nodes.addresses log world (as_unbroken journal log world st) place cell done host at does)

pub end_calm : (journal : List Line) → IsOfNodes journal → (log : List Entry) (world : World) (socket : WorldSocket) (which : End) (place n : ℕ) (cell : Cell × ℕ) (done : List Step) (host : HostState) → IsIn socket world → can_feed which socket ≡ true → (end_of which socket).unread ≡ [] → IsHeldBy place n (end_of which socket)
    → IsCalled world place cell (sockets.Ended n) done host → AllRead world → Standing journal log world → AreCalm done
end_calm journal nodes log world socket which place n cell done host is can none held called read st =
    calm_so done (calm_over journal nodes.is nodes.addresses log world (as_unbroken journal log world st) socket which place n cell done host is can none held called read)

-- ---- what follows

-- the same is written without what is posted
pieces_so : (n : ℕ) (done : List Step) → pieces_at n (unposted done) ≡ pieces_at n done
pieces_so n [] = refl
pieces_so n (steps.Post end event ∷ rest) = pieces_so n rest
pieces_so n (steps.Write sock bytes said ∷ rest) = ap (λ (l : List (List ℕ)). cond (sock == n) (bytes ∷ l) l) (pieces_so n rest)
pieces_so n (steps.Dial sock end peer ∷ rest) = pieces_so n rest
pieces_so n (steps.Read sock ∷ rest) = pieces_so n rest
pieces_so n (steps.Up sock ∷ rest) = pieces_so n rest
pieces_so n (steps.Down sock ∷ rest) = pieces_so n rest
pieces_so n (steps.Left sock ∷ rest) = pieces_so n rest
pieces_so n (steps.Broke end peer why ∷ rest) = pieces_so n rest

-- one event is posted at most
none_posted : (done : List Step) → posts_in done ≡ [] → PostsNone done
none_posted [] p = tt
none_posted (steps.Post end event ∷ rest) p = absurd cc
none_posted (steps.Dial sock end peer ∷ rest) p = none_posted rest p
none_posted (steps.Read sock ∷ rest) p = none_posted rest p
none_posted (steps.Write sock bytes said ∷ rest) p = none_posted rest p
none_posted (steps.Up sock ∷ rest) p = none_posted rest p
none_posted (steps.Down sock ∷ rest) p = none_posted rest p
none_posted (steps.Left sock ∷ rest) p = none_posted rest p
none_posted (steps.Broke end peer why ∷ rest) p = none_posted rest p

one_posted : (one : ℕ × Event) (done : List Step) → (posts_in done ≡ []) ⊎ (posts_in done ≡ one ∷ []) → PostsOne done
one_posted one [] p = tt
one_posted one (steps.Post end event ∷ rest) (inl none) = absurd cc
one_posted one (steps.Post end event ∷ rest) (inr p) = none_posted rest cc
one_posted one (steps.Dial sock end peer ∷ rest) p = one_posted one rest p
one_posted one (steps.Read sock ∷ rest) p = one_posted one rest p
one_posted one (steps.Write sock bytes said ∷ rest) p = one_posted one rest p
one_posted one (steps.Up sock ∷ rest) p = one_posted one rest p
one_posted one (steps.Down sock ∷ rest) p = one_posted one rest p
one_posted one (steps.Left sock ∷ rest) p = one_posted one rest p
one_posted one (steps.Broke end peer why ∷ rest) p = one_posted one rest p

posts_so : (host after : HostState) (done : List Step) → Brings host done after → PostsOne done
posts_so host after done (inl b) = one_posted (0, events.EndPointClosed) done (inl b.posted)
posts_so host after done (inr (inl b)) = one_posted _ done (inr b.posted)
posts_so host after done (inr (inr (inl b))) = one_posted _ done (inr b.posted)
posts_so host after done (inr (inr (inr (inl b)))) = one_posted _ done (inr b.posted)
posts_so host after done (inr (inr (inr (inr b)))) = one_posted _ done (inr b.posted)

-- what follows where a plain cell's host reads
follows : (journal : List Line) (place : ℕ) (cell : Cell × ℕ) (done : List Step) (host : HostState) (told : List LocalEntry) (after : Cell) → steps_on done (with_host cell host) ≡ Ok (told, after) → CellIsPlain cell.0 → AreCalm done → Brings cell.0.host done host → ReadTurn (own_of journal place) cell.0 done host told after
    → Follows cell.0 done host told after
follows journal place cell done host told after all plain calm brings t = record {
  same_host = t.same_host;
  pieces = λ n. ap (pieces_at n) t.same_steps ∙ pieces_so n done;
  alone = t.dials;
  unsaid = turn_unsaid done (with_host cell host) told after all;
  nodes = nodes_hear cell done host told after all calm (posts_so cell.0.host host done brings) plain;
}

pub item_follows : (journal : List Line) → IsOfNodes journal → (log : List Entry) (world : World) (place : ℕ) (cell : Cell × ℕ) (done : List Step) (host : HostState) (told : List LocalEntry) (after : Cell) → slice_get world.cells place ≡ Some cell → host_next cell.0.host ≡ Ok (Some done, host)
    → steps_on done (with_host cell host) ≡ Ok (told, after) → Standing journal log world → Follows cell.0 done host told after
item_follows journal nodes log world place cell done host told after at does all st =
    let p = st.plain.cells place cell at in
    let read = reads.next_reads (own_of journal place) cell.0.host host done (st.all.sound.links.naming place cell at).naming (st.all.sound.ends.flowing.orderly place cell at) p.host does in
    follows journal place cell done host told after all p (item_calm journal nodes log world place cell done host at does st) read.1 (item_told journal nodes log world place cell done host told after at does all st)

-- ---- each turn

pub said_kept : (journal : List Line) → IsOfNodes journal → KeepsTurns journal (SaidGiven journal) (SaidGiven journal) (AllSay journal)
said_kept journal nodes = record {
  marked = λ log world number what answer line of p j q. marked_say journal log world number answer p.standing j;
  made = λ log world place cell end number node done next told after at there does all p j q. made_say journal log world place cell end number node done next told after at there does all p.standing j;
  asked = λ log world what by command place cell number node done next told after line at there does all p j q. asked_say journal nodes log world what by command place cell number node done next told after line at there does all p.standing p.runs j q.well;
  joined = λ log world socket place n cell done host is can held called read p j q. joined_say journal log world socket place n cell done host is called p.standing p.runs j;
  came = λ log world socket place cell done host is can at called read p j q. came_say journal log world socket place cell done host is can at called p.standing j;
  fed = λ log world socket which count b bytes place n cell done host is can some held called read p j q. fed_say journal log world socket which count b bytes place n cell done host is called p.standing j;
  ended = λ log world socket which place n cell done host told after is can none held called all read p j q. ended_say journal log world socket which place n cell done host told after called all (end_calm journal nodes log world socket which place n cell done host is can none held called read p.standing) p.standing j;
  item = λ log world place cell done host told after at does all p j q. item_say journal log world place cell done host told after at does (item_calm journal nodes log world place cell done host at does p.standing) (item_follows journal nodes log world place cell done host told after at does all p.standing) p.standing p.runs q.standing j;
}
