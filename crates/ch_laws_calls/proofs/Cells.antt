-- What a cell makes of an event, call by call of its host: each keeps the claim, and when all is done nothing is left to read.
use Rattle.std.specs.Prelude.{◌≡◌, ℕ, zero, suc, Bool, true, false, cond, List, [], ◌∷◌, ◌++◌, find, slice_get, Option, Some, None, Result, Ok, Err}
use Rattle.std.proofs.Common.{refl, ap, sym, ◌∙◌, subst, append_assoc}
use Rattle.std.proofs.lemmas.List.{append-nil}
use Rattle.ch_base.specs.declared.address.Address.{Address}
use Rattle.ch_base.specs.declared.event.Event.{Event}
use Rattle.ch_base.specs.declared.memory.Stop.{Stop}
use Rattle.ch_static.specs.declared.command.Command.{Command}
use Rattle.ch_model.specs.declared.act.Act.{Act}
use Rattle.ch_model.specs.declared.act.Act.TheVariants as acts
use Rattle.ch_model.specs.declared.command.CommandError.{CommandError}
use Rattle.ch_model.specs.declared.command.CommandError.TheVariants as refusals
use Rattle.ch_model.specs.declared.entry.Entry.{Entry}
use Rattle.ch_model.specs.declared.entry.Verdict.{Verdict}
use Rattle.ch_model.specs.declared.entry.Verdict.TheVariants as verdicts
use Rattle.ch_model.specs.declared.line.Line.{Line}
use Rattle.ch_model.specs.declared.local.LocalEntry.{LocalEntry}
use Rattle.ch_model.specs.declared.local.LocalEntry.TheVariants as local
use Rattle.ch_model.specs.declared.local.LocalEvent.TheVariants as events
use Rattle.ch_model.specs.declared.note.Note.{Note}
use Rattle.ch_model.specs.declared.step.EndError.{EndError}
use Rattle.ch_model.specs.declared.step.EndError.TheVariants as errors
use Rattle.ch_model.specs.declared.step.Step.{Step}
use Rattle.ch_model.specs.declared.step.Step.TheVariants as steps
use Rattle.ch_model.specs.declared.step.Weight.{Weight}
use Rattle.ch_model.specs.Cell.{Celled, answered, refused, refusal, node_did, at_node, room_for, commanded, cell_step}
use Rattle.ch_model.specs.CellSteps.{Followed, after_entries, ◌then◌, is_at, store_node, with_node, told_steps, asked, act_on, acts_on, node_followed, posted, steps_on, kept_bytes, items_on, all_items}
use Rattle.ch_model.specs.Host.{front_of, first_ready, handles, some_steps, host_next}
use Rattle.ch_model.specs.HostCalls.{host_connect, host_send, host_close}
use Rattle.ch_model.specs.HostState.{Socket, HostState}
use Rattle.ch_model.specs.HostSteps.{Stepped}
use Rattle.ch_model.specs.Node.{node_make, node_command, node_event, target_node}
use Rattle.ch_model.specs.NodeState.{NodeState}
use Rattle.ch_model.specs.WorldHappenings.{with_cell}
use Rattle.ch_model.specs.WorldState.{Cell, World}
use Rattle.ch_model.specs.WorldSteps.{note_entry, place_after}
use Rattle.ch_laws_items.specs.Kept.{Apart}
use Rattle.ch_laws_items.specs.Stays.{Who, who_is, seats_of, HostStays}
use Rattle.ch_laws_items.proofs.Calls as calls
use Rattle.ch_laws_items.proofs.Cells.{all_rests}
use Rattle.ch_laws_items.proofs.Events.{asking_stays}
use Rattle.ch_laws_items.proofs.Hosts as hosts
use Rattle.ch_laws_items.proofs.Next.{next_fine}
use Rattle.ch_laws_items.proofs.Nodes as nodes
use Rattle.ch_laws_items.proofs.Sockets.{number_is}
use Rattle.ch_laws_log.proofs.Posts.{PostsLast, next_last}
use Rattle.ch_laws_race.specs.Chains.{unposted}
use Rattle.ch_laws_calls.specs.Calls.{Claim, Anything, KeepsCalls}
use Rattle.ch_laws_calls.proofs.Runs.{told_at, HoldsAfter, Runs, as_it_is, more_told, posts_untold, runs_both, runs_none}

-- ---- what follows steps of a host

-- after a host's steps, of which those that post an event are no entries, what was posted brings the rest
pub record Tells (J : Claim) (place : ℕ) (done : List Step) (mid : Cell) (told : List LocalEntry) (after : Cell) : Type 0 where
  pub rest : List LocalEntry
  pub is : told ≡ told_steps (unposted done) ++ rest
  pub runs : Runs J place mid rest after

-- where the claim holds once the steps are told, it holds once all is
pub tells_hold : (J : Claim) (place count : ℕ) (before : Cell × ℕ) (done : List Step) (mid after : Cell) (told : List LocalEntry) (log : List Entry) (world : World) → slice_get world.cells place ≡ Some before → Tells J place done mid told after
    → HoldsAfter J log (told_at place count mid (told_steps done) world) → HoldsAfter J log (told_at place count after told world)
tells_hold J place count before done mid after told log world at t held = subst (λ (l : List LocalEntry). HoldsAfter J log (told_at place count after l world)) (sym t.is)
    (more_told J place count before mid after (told_steps (unposted done)) t.rest log world at t.runs (subst (HoldsAfter J log) (posts_untold place mid done (with_cell place (mid, count) world)) held))

-- ---- nothing is left to read

none_ready : (host : HostState) → host_next host ≡ Ok (None, host) → first_ready host.sockets ≡ None
unfolding host_next
none_ready host e = by_first (first_ready host.sockets) e where
  some_in : Result (Option (List Step) × HostState) Stop → Option (List Step)
  some_in (Ok next) = next.0
  some_in (Err stop) = None

  by_done : (one : Stepped) (o : Option Socket) → some_steps one ≡ Ok (None, host) → o ≡ None
  by_done (Ok one) o e = let never : Some one.0 ≡ None = ap some_in e in absurd cc
  by_done (Err stop) o e = absurd cc

  by_first : (o : Option Socket) → (elim o as (λ o. Result (Option (List Step) × HostState) Stop) [
    | None ↦ Ok (None, host)
    | Some socket ↦ some_steps (handles socket (front_of socket) host)
  ]) ≡ Ok (None, host) → o ≡ None
  by_first None e = refl
  by_first (Some socket) e = by_done (handles socket (front_of socket) host) (Some socket) e

none_left : (cell after : Cell) (told : List LocalEntry) → Apart cell.host.sockets → all_items cell ≡ Ok (told, after) → first_ready after.host.sockets ≡ None
none_left cell after told apart e = none_ready after.host (all_rests cell after told apart e)

-- ---- seats

same_seat : (end number : ℕ) (who known : Who) (rest : List (ℕ × Who)) → end ≡ number → who ≡ known → ((end, who) ∷ rest) ≡ ((number, known) ∷ rest)
same_seat end number who known rest e f = cc

-- a node that is who it was is kept in its seat
seats_same : (end : ℕ) (node : NodeState) (there : ℕ × NodeState) (all : List (ℕ × NodeState)) → who_is node ≡ who_is there.1 → find (is_at end) all ≡ Some there → seats_of (store_node end node all) ≡ seats_of all
seats_same end node there [] same found = refl
seats_same end node there (known ∷ rest) same found = by_test (is_at end known) refl found (seats_same end node there rest same) where
  by_test : (b : Bool) → is_at end known ≡ b → cond b (Some known) (find (is_at end) rest) ≡ Some there → (find (is_at end) rest ≡ Some there → seats_of (store_node end node rest) ≡ seats_of rest) → seats_of (cond b ((end, node) ∷ rest) (known ∷ store_node end node rest)) ≡ (known.0, who_is known.1) ∷ seats_of rest
  by_test true is found more =
      let this : known ≡ there = cc in
      same_seat end known.0 (who_is node) (who_is known.1) (seats_of rest) (sym (number_is known.0 end is)) (same ∙ ap (λ (s : ℕ × NodeState). who_is s.1) (sym this))
  by_test false is found more = ap (λ (all : List (ℕ × Who)). (known.0, who_is known.1) ∷ all) (more found)

-- ---- what a cell does

-- what was told keeps the claim, and leaves nothing to read
pub record Does (J : Claim) (place : ℕ) (before : Cell) (told : List LocalEntry) (after : Cell) : Type 0 where
  pub runs : Runs J place before told after
  pub read : Apart before.host.sockets → first_ready before.host.sockets ≡ None → first_ready after.host.sockets ≡ None

-- so does what followed steps of its host
pub record Follows (J : Claim) (place : ℕ) (done : List Step) (mid : Cell) (told : List LocalEntry) (after : Cell) : Type 0 where
  pub tells : Tells J place done mid told after
  pub read : Apart mid.host.sockets → first_ready after.host.sockets ≡ None

abbrev pub AllDo : Claim → ℕ → Cell → Celled → Type 0
AllDo J place before (Ok done) = Does J place before done.0.1 done.1
AllDo J place before (Err stop) = Unit {0}

abbrev pub AllFollow : Claim → ℕ → List Step → Cell → Celled → Type 0
AllFollow J place done mid (Ok all) = Follows J place done mid all.0.1 all.1
AllFollow J place done mid (Err stop) = Unit {0}

abbrev pub AllRun : Claim → ℕ → Cell → Followed → Type 0
AllRun J place before (Ok done) = Runs J place before done.0 done.1
AllRun J place before (Err stop) = Unit {0}

abbrev pub AllTell : Claim → ℕ → List Step → Cell → Followed → Type 0
AllTell J place done mid (Ok all) = Tells J place done mid all.0 all.1
AllTell J place done mid (Err stop) = Unit {0}

module _ (journal : List Line) (J : Claim) (k : KeepsCalls journal Anything Anything J) (place : ℕ) where
  later : (before mid : Cell) (told : List LocalEntry) (done : Followed) → Runs J place before told mid → AllRun J place mid done → AllRun J place before (after_entries told done)
  later before mid told (Ok done) r a = runs_both J place before mid done.1 told done.0 r a
  later before mid told (Err stop) r a = tt

  chained : (cell : Cell) (done : Followed) (f : Cell → Followed) → AllRun J place cell done → ((next : Cell) → AllRun J place next (f next)) → AllRun J place cell (done then f)
  chained cell (Ok done) f a each = later cell done.1 done.0 (f done.1) a (each done.1)
  chained cell (Err stop) f a each = tt

  -- ---- calls

  called : (cell : Cell) (done : List Step) (host : HostState) → HostStays cell.host host → (Apart cell.host.sockets → Apart host.sockets)
      → ((log : List Entry) (world : World) (count : ℕ) → slice_get world.cells place ≡ Some (cell, count) → J log world → HoldsAfter J log (told_at place count (record cell { host = host }) (told_steps done) world)) → Runs J place cell (told_steps done) (record cell { host = host })
  called cell done host stays apart keeps = record { text = stays.host; port = stays.port; apart = apart; keeps = keeps }

  connects : (cell : Cell) (end : ℕ) (peer : Address) (conn : ℕ) (done : List Step) (host : HostState) → host_connect cell.host end peer conn ≡ Ok (done, host) → Runs J place cell (told_steps done) (record cell { host = host })
  connects cell end peer conn done host e = called cell done host (hosts.host_after cell.host host done (host_connect cell.host end peer conn) (hosts.connected cell.host end peer conn) e)
      (λ apart. asking_stays cell.host host done (host_connect cell.host end peer conn) (calls.connected cell.host end peer conn) apart e)
      (λ log world count at j. k.connected log world place (cell, count) end peer conn done host at e tt j tt)

  sends : (cell : Cell) (end conn : ℕ) (payload : List ℕ) (weight : Weight) (done : List Step) (host : HostState) → host_send cell.host end conn payload weight ≡ Ok (done, host) → Runs J place cell (told_steps done) (record cell { host = host })
  sends cell end conn payload weight done host e = called cell done host (hosts.host_after cell.host host done (host_send cell.host end conn payload weight) (hosts.sent cell.host end conn payload weight) e)
      (λ apart. asking_stays cell.host host done (host_send cell.host end conn payload weight) (calls.sent cell.host end conn payload weight) apart e)
      (λ log world count at j. k.sent log world place (cell, count) end conn payload weight done host at e tt j tt)

  closes : (cell : Cell) (end conn : ℕ) (done : List Step) (host : HostState) → host_close cell.host end conn ≡ Ok (done, host) → Runs J place cell (told_steps done) (record cell { host = host })
  closes cell end conn done host e = called cell done host (hosts.host_after cell.host host done (host_close cell.host end conn) (hosts.closed cell.host end conn) e)
      (λ apart. asking_stays cell.host host done (host_close cell.host end conn) (calls.closed cell.host end conn) apart e)
      (λ log world count at j. k.closed log world place (cell, count) end conn done host at e tt j tt)

  -- an item is read
  pub reads : (cell : Cell) (done : List Step) (host : HostState) → host_next cell.host ≡ Ok (Some done, host) → Runs J place cell (told_steps done) (record cell { host = host })
  reads cell done host e = called cell done host (hosts.host_after cell.host host (Some done) (host_next cell.host) (hosts.next_item cell.host) e)
      (λ apart. (next_fine cell.host host done apart e).apart apart)
      (λ log world count at j. k.item log world place (cell, count) done host at e tt j tt)

  notes : (cell : Cell) (note : Note) → Runs J place cell (local.Note note ∷ []) cell
  notes cell note = record {
    text = refl;
    port = refl;
    apart = λ h. h;
    keeps = λ log world count at j. subst (λ (w : World). J (log ++ note_entry w.names w.last note ∷ []) (record w { last = place_after w.last note })) (sym (as_it_is place (cell, count) world at)) (k.noted log world note tt j tt);
  }

  seats : (cell : Cell) (all : List (ℕ × NodeState)) → seats_of all ≡ seats_of cell.nodes → Runs J place cell [] (record cell { nodes = all })
  seats cell all same = record {
    text = refl;
    port = refl;
    apart = λ h. h;
    keeps = λ log world count at j. subst (λ (l : List Entry). J l (with_cell place (record cell { nodes = all }, count) world)) (sym (append-nil log)) (k.seated log world place (cell, count) all at same tt j tt);
  }

  -- ---- acts of a node

  asks : (cell : Cell) (done : Result (List Step × HostState) EndError) → ((told : List Step) (host : HostState) → done ≡ Ok (told, host) → Runs J place cell (told_steps told) (record cell { host = host })) → AllRun J place cell (asked cell done)
  asks cell (Ok done) each = each done.0 done.1 refl
  asks cell (Err errors.Worn) each = tt
  asks cell (Err errors.OutOfMemory) each = tt
  asks cell (Err errors.NoEndPoint) each = runs_none J place cell
  asks cell (Err errors.NoConnection) each = runs_none J place cell
  asks cell (Err errors.QueueFull) each = runs_none J place cell
  asks cell (Err errors.PayloadLong) each = runs_none J place cell
  asks cell (Err errors.Spent) each = runs_none J place cell

  act_run : (end : ℕ) (act : Act) (cell : Cell) → AllRun J place cell (act_on end act cell)
  act_run end (acts.Note note) cell = notes cell note
  act_run end (acts.Open conn peer) cell = asks cell (host_connect cell.host end peer conn) (connects cell end peer conn)
  act_run end (acts.Put conn payload weight) cell = asks cell (host_send cell.host end conn payload weight) (sends cell end conn payload weight)
  act_run end (acts.Close conn) cell = asks cell (host_close cell.host end conn) (closes cell end conn)

  acts_run : (end : ℕ) (all : List Act) (cell : Cell) → AllRun J place cell (acts_on end all cell)
  acts_run end [] cell = runs_none J place cell
  acts_run end (act ∷ rest) cell = chained cell (act_on end act cell) (acts_on end rest) (act_run end act cell) (acts_run end rest)

  -- the node goes on, and its acts follow
  seated_first : (cell : Cell) (all : List (ℕ × NodeState)) (done : Followed) → seats_of all ≡ seats_of cell.nodes → AllRun J place (record cell { nodes = all }) done → AllRun J place cell done
  seated_first cell all (Ok done) same r = runs_both J place cell (record cell { nodes = all }) done.1 [] done.0 (seats cell all same) r
  seated_first cell all (Err stop) same r = tt

  pub node_runs : (end : ℕ) (cell : Cell) (there : ℕ × NodeState) (all : List Act) (node : NodeState) → find (is_at end) cell.nodes ≡ Some there → who_is node ≡ who_is there.1 → AllRun J place cell (acts_on end all (with_node end node cell))
  node_runs end cell there all node found same = seated_first cell (with_node end node cell).nodes (acts_on end all (with_node end node cell)) (seats_same end node there cell.nodes same found) (acts_run end all (with_node end node cell))

  followed_run : (end : ℕ) (cell : Cell) (there : ℕ × NodeState) (done : Result (List Act × NodeState) Stop) → find (is_at end) cell.nodes ≡ Some there → nodes.Stays there.1 done → AllRun J place cell (node_followed end cell done)
  followed_run end cell there (Ok done) found same = node_runs end cell there done.0 done.1 found same
  followed_run end cell there (Err stop) found same = tt

  posted_run : (end : ℕ) (event : Event) (cell : Cell) → AllRun J place cell (posted end event cell)
  posted_run end event cell = by_node (find (is_at end) cell.nodes) refl where
    by_node : (o : Option (ℕ × NodeState)) → find (is_at end) cell.nodes ≡ o → AllRun J place cell (elim o as (λ o. Followed) [
      | None ↦ Ok ([], cell)
      | Some node ↦ node_followed end cell (node_event node.1 event)
    ])
    by_node None found = runs_none J place cell
    by_node (Some node) found = followed_run end cell node (node_event node.1 event) found (nodes.on_event node.1 event)

  -- ---- steps of the host

  posted_last : (end : ℕ) (event : Event) (mid : Cell) (done : Followed) → AllRun J place mid done → AllTell J place (steps.Post end event ∷ []) mid done
  posted_last end event mid (Ok done) r = record { rest = done.0; is = refl; runs = r }
  posted_last end event mid (Err stop) r = tt

  step_first : (step : Step) (rest : List Step) (mid : Cell) (done : Followed) → unposted (step ∷ rest) ≡ step ∷ unposted rest → AllTell J place rest mid done → AllTell J place (step ∷ rest) mid (after_entries (local.Step step ∷ []) done)
  step_first step rest mid (Ok done) u t = record { rest = t.rest; is = ap (λ (l : List LocalEntry). local.Step step ∷ l) t.is ∙ sym (ap (λ (l : List Step). told_steps l ++ t.rest) u); runs = t.runs }
  step_first step rest mid (Err stop) u t = tt

  pub steps_tell : (done : List Step) (mid : Cell) → PostsLast done → AllTell J place done mid (steps_on done mid)
  steps_tell [] mid last = record { rest = []; is = refl; runs = runs_none J place mid }
  steps_tell (steps.Post end event ∷ rest) mid last = subst (λ (l : List Step). AllTell J place (steps.Post end event ∷ l) mid (posted end event mid then steps_on l)) (sym last)
      (posted_last end event mid (posted end event mid then steps_on []) (chained mid (posted end event mid) (steps_on []) (posted_run end event mid) (runs_none J place)))
  steps_tell (steps.Dial sock end peer ∷ rest) mid last = step_first (steps.Dial sock end peer) rest mid (steps_on rest mid) refl (steps_tell rest mid last)
  steps_tell (steps.Read sock ∷ rest) mid last = step_first (steps.Read sock) rest mid (steps_on rest mid) refl (steps_tell rest mid last)
  steps_tell (steps.Write sock bytes said ∷ rest) mid last = step_first (steps.Write sock bytes said) rest mid (steps_on rest mid) refl (steps_tell rest mid last)
  steps_tell (steps.Up sock ∷ rest) mid last = step_first (steps.Up sock) rest mid (steps_on rest mid) refl (steps_tell rest mid last)
  steps_tell (steps.Down sock ∷ rest) mid last = step_first (steps.Down sock) rest mid (steps_on rest mid) refl (steps_tell rest mid last)
  steps_tell (steps.Left sock ∷ rest) mid last = step_first (steps.Left sock) rest mid (steps_on rest mid) refl (steps_tell rest mid last)
  steps_tell (steps.Broke end peer why ∷ rest) mid last = step_first (steps.Broke end peer why) rest mid (steps_on rest mid) refl (steps_tell rest mid last)

  pub steps_run : (before mid : Cell) (done : List Step) → Runs J place before (told_steps done) mid → PostsLast done → AllRun J place before (steps_on done mid)
  steps_run before mid done r last = by_all (steps_on done mid) (steps_tell done mid last) where
    by_all : (all : Followed) → AllTell J place done mid all → AllRun J place before all
    by_all (Ok all) t = record {
      text = t.runs.text ∙ r.text;
      port = t.runs.port ∙ r.port;
      apart = λ h. t.runs.apart (r.apart h);
      keeps = λ log world count at j. tells_hold J place count (before, count) done mid all.1 all.0 log world at t (r.keeps log world count at j);
    }
    by_all (Err stop) t = tt

  -- ---- items

  items_run : (fuel : ℕ) (cell : Cell) → AllRun J place cell (items_on fuel cell)
  items_run zero cell = runs_none J place cell
  items_run (suc fuel) cell = by_next (host_next cell.host) refl (items_run fuel) where
    by_some : (o : Option (List Step)) (host : HostState) → host_next cell.host ≡ Ok (o, host) → ((c : Cell) → AllRun J place c (items_on fuel c)) → AllRun J place cell (elim o as (λ o. Followed) [
      | None ↦ Ok ([], cell)
      | Some done ↦ (steps_on done (record cell { host = host }) then items_on fuel)
    ])
    by_some None host e more = runs_none J place cell
    by_some (Some done) host e more = chained cell (steps_on done (record cell { host = host })) (items_on fuel) (steps_run cell (record cell { host = host }) done (reads cell done host e) (next_last cell.host host done e)) more

    by_next : (next : Result (Option (List Step) × HostState) Stop) → host_next cell.host ≡ next → ((c : Cell) → AllRun J place c (items_on fuel c)) → AllRun J place cell (elim next as (λ o. Followed) [
      | Err stop ↦ Err stop
      | Ok next ↦ elim next.0 [
        | None ↦ Ok ([], cell)
        | Some done ↦ (steps_on done (record cell { host = next.1 }) then items_on fuel)
      ]
    ])
    by_next (Err stop) e more = tt
    by_next (Ok next) e more = by_some next.0 next.1 e more

  -- all items are read last
  items_last : (verdict : Verdict) (cell : Cell) (done : Followed) → AllRun J place cell done → AllDo J place cell (answered verdict (done then all_items))
  items_last verdict cell (Ok done) r = by_more (all_items done.1) refl (items_run (kept_bytes done.1.host) done.1) where
    by_more : (more : Followed) → all_items done.1 ≡ more → AllRun J place done.1 more → AllDo J place cell (answered verdict (after_entries done.0 more))
    by_more (Ok more) e a = record { runs = runs_both J place cell done.1 more.1 done.0 more.0 r a; read = λ apart ready. none_left done.1 more.1 more.0 (r.apart apart) e }
    by_more (Err stop) e a = tt
  items_last verdict cell (Err stop) r = tt

  pub host_follows : (verdict : Verdict) (done : List Step) (mid : Cell) → PostsLast done → AllFollow J place done mid (answered verdict (steps_on done mid then all_items))
  host_follows verdict done mid last = by_steps (steps_on done mid) (steps_tell done mid last) where
    by_more : (one more : List LocalEntry × Cell) → all_items one.1 ≡ Ok more → Tells J place done mid one.0 one.1 → Runs J place one.1 more.0 more.1 → Follows J place done mid (one.0 ++ more.0) more.1
    by_more one more e t r = record {
      tells = record {
        rest = t.rest ++ more.0;
        is = ap (λ (l : List LocalEntry). l ++ more.0) t.is ∙ append_assoc (told_steps (unposted done)) t.rest more.0;
        runs = runs_both J place mid one.1 more.1 t.rest more.0 t.runs r;
      };
      read = λ apart. none_left one.1 more.1 more.0 (t.runs.apart apart) e;
    }

    by_items : (one : List LocalEntry × Cell) (more : Followed) → all_items one.1 ≡ more → Tells J place done mid one.0 one.1 → AllRun J place one.1 more → AllFollow J place done mid (answered verdict (after_entries one.0 more))
    by_items one (Ok more) e t r = by_more one more e t r
    by_items one (Err stop) e t r = tt

    by_steps : (all : Followed) → AllTell J place done mid all → AllFollow J place done mid (answered verdict (all then all_items))
    by_steps (Ok one) t = by_items one (all_items one.1) refl t (items_run (kept_bytes one.1.host) one.1)
    by_steps (Err stop) t = tt

  -- ---- nodes

  at_rest : (verdict : Verdict) (cell : Cell) → AllDo J place cell (refused verdict cell)
  at_rest verdict cell = record { runs = runs_none J place cell; read = λ apart ready. ready }

  refuses : (e : CommandError) (cell : Cell) → AllDo J place cell (refusal e cell)
  refuses refusals.Unknown cell = at_rest verdicts.Unknown cell
  refuses refusals.Dead cell = at_rest verdicts.Dead cell
  refuses refusals.Long cell = at_rest verdicts.Long cell
  refuses refusals.Full cell = at_rest verdicts.Full cell
  refuses refusals.Spent cell = at_rest verdicts.Spent cell
  refuses refusals.Taken cell = at_rest verdicts.Taken cell
  refuses refusals.NoName cell = at_rest verdicts.NoName cell
  refuses refusals.NoRef cell = at_rest verdicts.NoRef cell
  refuses refusals.Empty cell = at_rest verdicts.Empty cell
  refuses refusals.Hale cell = at_rest verdicts.Hale cell
  refuses refusals.OutOfMemory cell = tt
  refuses refusals.Worn cell = tt

  node_does : (end : ℕ) (cell : Cell) (there : ℕ × NodeState) (done : Result (List Act × NodeState) CommandError) → find (is_at end) cell.nodes ≡ Some there → nodes.Stays there.1 done → AllDo J place cell (node_did end cell done)
  node_does end cell there (Ok done) found same = items_last verdicts.Ok cell (acts_on end done.0 (with_node end done.1 cell)) (node_runs end cell there done.0 done.1 found same)
  node_does end cell there (Err e) found same = refuses e cell

  there_does : (end : ℕ) (cell : Cell) (f : NodeState → Celled) → ((node : ℕ × NodeState) → find (is_at end) cell.nodes ≡ Some node → AllDo J place cell (f node.1)) → AllDo J place cell (at_node end cell f)
  there_does end cell f each = by_node (find (is_at end) cell.nodes) refl where
    by_node : (o : Option (ℕ × NodeState)) → find (is_at end) cell.nodes ≡ o → AllDo J place cell (elim o as (λ o. Celled) [
      | None ↦ refused verdicts.Nothing cell
      | Some node ↦ f node.1
    ])
    by_node None found = at_rest verdicts.Nothing cell
    by_node (Some node) found = each node found

  pub make_does : (end : ℕ) (cell : Cell) → AllDo J place cell (cell_step cell (events.Make end))
  make_does end cell = there_does end cell (λ node. node_did end cell (node_make node)) (λ there found. node_does end cell there (node_make there.1) found (nodes.on_make there.1))

  pub command_does : (end by : ℕ) (command : Command) (cell : Cell) → AllDo J place cell (cell_step cell (events.Command end by command))
  command_does end by command cell = there_does end cell (commanded end by command cell)
      (λ there found. node_does end cell there (node_command there.1 by command (room_for cell.host end there.1.own (target_node there.1 by command))) found (nodes.on_command there.1 by command (room_for cell.host end there.1.own (target_node there.1 by command))))
