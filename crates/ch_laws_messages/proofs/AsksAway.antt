-- The turn in which a process sends to a process of another node: the frames that are written have the places of what they carry.
use Rattle.std.proofs.Common.{◌≡◌, ◌⊎◌, inl, inr, ℕ, Bool, true, false, cond, ◌&&◌, List, [], ◌∷◌, ◌++◌, length, map, refl, sym, ap, ◌∙◌, subst}
use Rattle.std.proofs.lemmas.List.{append-nil}
use Rattle.std.proofs.lemmas.List.Elements.{filter_map-append}
use Rattle.std.proofs.lemmas.Slice.Eq.{bytes_eq-Decides}
use Rattle.std.specs.List.{cons_option}
use Rattle.std.specs.Prelude.{filter_map, find, slice_get, Option, Some, None, ◌==◌}
use Rattle.std.specs.Str.{bytes_eq}
use Rattle.ch_base.specs.declared.address.Address.{Address}
use Rattle.ch_ident.specs.declared.identifier.ProcessId.{ProcessId}
use Rattle.ch_ident.specs.declared.message.Message.{Message}
use Rattle.ch_link.specs.declared.LinkState.TheVariants as states
use Rattle.ch_model.specs.declared.entry.Entry.{Entry}
use Rattle.ch_model.specs.declared.line.Line.{Line}
use Rattle.ch_model.specs.declared.local.LocalEntry.{LocalEntry}
use Rattle.ch_model.specs.declared.name.End.{End}
use Rattle.ch_model.specs.declared.name.ProcName.{ProcName}
use Rattle.ch_model.specs.declared.name.SockName.{SockName}
use Rattle.ch_model.specs.declared.step.Step.{Step}
use Rattle.ch_model.specs.declared.step.Step.TheVariants as steps
use Rattle.ch_model.specs.AccountsFrames.{Saying}
use Rattle.ch_model.specs.HostState.{Link, HostState}
use Rattle.ch_model.specs.HostSteps.{own_address, link_with}
use Rattle.ch_model.specs.HostWrites.{is_up}
use Rattle.ch_model.specs.Naming.{called, process_called}
use Rattle.ch_model.specs.NodeIds.{process_id}
use Rattle.ch_model.specs.NodeState.{NodeState}
use Rattle.ch_model.specs.Same.{is_end_of}
use Rattle.ch_model.specs.Sockets.{writings}
use Rattle.ch_model.specs.WorldHappenings.{with_cell}
use Rattle.ch_model.specs.WorldSockets.{end_of, is_socket_named, find_end}
use Rattle.ch_model.specs.WorldState.{Cell, WorldSocket, World}
use Rattle.ch_model.specs.WorldSteps.{all_told}
use Rattle.ch_race.specs.Pair.{Side, other}
use Rattle.ch_laws_bytes.proofs.Lines.{own_of}
use Rattle.ch_laws_calls.specs.Scenes.{IsPairOf, SceneFacts, scene_of}
use Rattle.ch_laws_ends.proofs.Changes.{told_cells}
use Rattle.ch_laws_ends.proofs.Places.{got_same}
use Rattle.ch_laws_calls.specs.FitsTurns.{NoDials, IsKind}
use Rattle.ch_laws_ids.specs.Runs.{pieces_at, pieces_for}
use Rattle.ch_laws_log.specs.HostEnds.{steps_in}
use Rattle.ch_laws_places.specs.Said.{said_at}
use Rattle.ch_laws_plain_logs.specs.Plain.{said_by}
use Rattle.ch_laws_race.specs.Scene.{Party, link_of}
use Rattle.ch_laws_reads.specs.Reads.{reads_of}
use Rattle.ch_laws_calls.proofs.ScenesGiven.{host_is}
use Rattle.ch_laws_calls.proofs.ScenesHeld.{is_held}
use Rattle.ch_laws_calls.specs.Turns.{told_on}
use Rattle.ch_laws_writes.specs.Dues.{Due, Framing, due_at}
use Rattle.ch_laws_writes.proofs.Worlds.{number_is, number_same}
use Rattle.ch_laws_peers.specs.Words.{Placed, words_in, waiting_as, sayings, placing, TrueWords}
use Rattle.ch_laws_peers.specs.Says.{frames_towards, IsUpOn, Says, AllSay}
use Rattle.ch_laws_peers.specs.Reads.{PlacedItem, items_in, placed_in, AreTruly}
use Rattle.ch_laws_peers.specs.Standing.{IsOfNodes, Standing}
use Rattle.ch_laws_messages.specs.WayAsked.{AskedTruly}
use Rattle.ch_laws_messages.specs.WayGoes.{Adds, written_frames, pieced}
use Rattle.ch_laws_messages.proofs.WayItems.{new_cases, up_key}
use Rattle.ch_laws_messages.proofs.WayPairs.{IsOf, is_of}
use Rattle.ch_laws_messages.specs.SaidPuts.{write_step, spelled}
use Rattle.ch_laws_messages.specs.SaidSends.{saying_of}
use Rattle.ch_laws_messages.proofs.SaidLogs.{at_up, each_one}
use Rattle.ch_laws_messages.proofs.SaidSends.{steps_unsaid}
use Rattle.ch_laws_messages.proofs.SaidStill.{up_waits}
use Rattle.ch_laws_messages.proofs.SaidTold.{Turns, turns}
use Rattle.ch_laws_messages.proofs.SaidUtters.{puts_dial}
use Rattle.ch_laws_messages.proofs.SaidWritten.{writes_at, write_none, wrote_both}
use Rattle.ch_laws_messages.specs.AsksDoes.{Does}
use Rattle.ch_laws_messages.specs.AsksMessages.{CarriesAll}
use Rattle.ch_laws_messages.proofs.AsksBare.{puts_written}
use Rattle.ch_laws_messages.proofs.AsksPlaces.{behind_true}
use Rattle.ch_laws_messages.proofs.AsksSent.{SaysAway}
use Rattle.ch_laws_messages.proofs.AsksTurn.{pieces_of, said_there, frames_are, new_told, told_does, still_true, dial_turn, bare_turn}

-- ---- what is carried on one socket

-- where a node is up on this end, all that it has said to the other is carried there
words_on : (journal : List Line) (log : List Entry) (world : World) (party : Side → Party) (x : Side) (s : SockName) (e : End) → IsPairOf journal party → Standing journal log world → Says journal log world party x → is_end_of (party x).name (party (other x)).name s e ≡ true → IsUpOn party world x s e
    → CarriesAll journal (sayings (party x).name (party (other x)).name log) (writings log s e)
words_on journal log world party x s e pair st says of u = subst (λ (l : List Placed). TrueWords journal said [] 0 (words_in l) (length said)) all_there says.words where
  said : List Saying
  said = sayings (party x).name (party (other x)).name log

  all_there : placing said [] 0 (frames_towards (party x).name (party (other x)).name log) ++ waiting_as (link_of (scene_of party world) x).waits ≡ written_frames said (writings log s e)
  all_there = ap (λ w. placing said [] 0 (frames_towards (party x).name (party (other x)).name log) ++ waiting_as w) (up_waits journal log world party x pair st (ap is_up u.up)) ∙ append-nil (placing said [] 0 (frames_towards (party x).name (party (other x)).name log))
      ∙ ap (placing said [] 0) (at_up party x log world (each_one party x log world (record { one = says.one; down = says.down })) s e of u)

-- ---- the turn

module _ (journal : List Line) (j : IsOfNodes journal) (log : List Entry) (world : World) (place : ℕ) (cell : Cell × ℕ) (end : ℕ) (node : NodeState) (by : ℕ) (to : ProcessId) (said : Message) (told : List LocalEntry) (after : Cell) (at : slice_get world.cells place ≡ Some cell) (own : node.own ≡ own_address cell.0.host end)
    (w : SaysAway world cell.0 end node by to said told after) (d : Does (own_of journal place) cell.0.host (steps_in told) after.host) (st : Standing journal log world) (say : AllSay journal log world) (st_now : Standing journal (log ++ (told_on place cell after told world).0) (told_on place cell after told world).1)
    (say_now : AllSay journal (log ++ (told_on place cell after told world).0) (told_on place cell after told world).1) where
  abbrev done : List Entry × World
  done = told_on place cell after told world

  abbrev host : HostState
  host = cell.0.host

  abbrev p : ProcName
  p = process_called world.names (process_id node by)

  abbrev q : ProcName
  q = process_called world.names to

  abbrev one : Saying
  one = saying_of world node by to w.epoch w.index said

  -- what two nodes say by it
  said_now : (x y : List ℕ) → sayings x y (log ++ done.0) ≡ sayings x y log ++ cons_option (cond (bytes_eq p.node x && bytes_eq q.node y) (Some one) None) []
  said_now x y = filter_map-append (said_by x y) log done.0 ∙ ap (λ (l : List Saying). sayings x y log ++ l) (ap (λ (l : List LocalEntry). filter_map (said_by x y) (all_told place after l (with_cell place (after, cell.1) world)).0) w.told_is
      ∙ ap (λ (l : List Saying). cons_option (cond (bytes_eq p.node x && bytes_eq q.node y) (Some one) None) l) (steps_unsaid x y place after w.steps (record (with_cell place (after, cell.1) world) { last = Some (record { epoch = w.epoch; index = w.index }) })))

  t_told : Turns place told done.0 world done.1
  t_told = turns journal log world place cell told after st.all.sound.ends.sure at (puts_dial host end to.node w.new (steps_in told) after.host w.puts)

  -- the link with the other node is up on this socket, and the frames are written there
  module _ (n : ℕ) (probed : Bool) (up : (link_with host end to.node).state ≡ states.Up n probed) (told_is : steps_in told ≡ map (write_step n) w.new) (alone : NoDials (steps_in told)) where
    new : ℕ → List PlacedItem
    new = new_told (own_of journal place) host (steps_in told) after.host d alone

    adds : (k : ℕ) → Adds (own_of journal place) (due_at host k) (said_at k (steps_in told)) (new k)
    unfolding new
    adds k = (told_does (own_of journal place) host (steps_in told) after.host d alone).adds k

    -- the items that are written there are the frames
    items_are : placed_in (new n) ≡ w.new
    items_are = frames_are (new n) w.new (subst (λ (due : Option Due). IsKind (own_of journal place) due (items_in (new n))) due (adds n).kind) w.spelled (sym written ∙ (adds n).is) where
      due : due_at host n ≡ Some Framing
      due = ((st.all.sound.ends.flowing.orderly place cell at).links end to.node).up n probed up

      written : said_at n (steps_in told) ≡ pieces_of w.new
      written = ap (said_at n) told_is ∙ said_there n n w.new ∙ ap (λ (b : Bool). cond b (pieces_of w.new) []) (number_same n)

    -- elsewhere there are none
    items_none : (k : ℕ) → (n == k) ≡ false → placed_in (new k) ≡ []
    items_none k off = none_in (new k) (sym (adds k).is ∙ ap (said_at k) told_is ∙ said_there n k w.new ∙ ap (λ (b : Bool). cond b (pieces_of w.new) []) off) where
      none_in : (l : List PlacedItem) → pieced l ≡ [] → placed_in l ≡ []
      none_in [] e = refl
      none_in (x ∷ l) e = absurd cc

    module _ (party : Side → Party) (pair : IsPairOf journal party) (x : Side) (s : SockName) (e : End) (of : is_end_of (party x).name (party (other x)).name s e ≡ true) (before : WorldSocket) (found : find (is_socket_named s) world.sockets ≡ Some before) (c : (end_of e before).cell ≡ Some place) (m : (end_of e before).number ≡ Some n) where
      facts : SceneFacts party world
      facts = st.each_pair.shown party pair

      o : IsOf party world x before e
      o = is_of party world x s before e facts found of

      here : place ≡ (party x).place
      here = some_is (sym c ∙ o.cell) where
        some_is : {a b : ℕ} → ◌≡◌ {A = Option ℕ} (Some a) (Some b) → a ≡ b
        some_is h = cc

      at_x : slice_get world.cells (party x).place ≡ Some cell
      at_x = ap (slice_get world.cells) (sym here) ∙ at

      at_now : slice_get done.1.cells (party x).place ≡ Some (after, cell.1)
      at_now = ap (slice_get done.1.cells) (sym here) ∙ ap (λ (l : List (Cell × ℕ)). slice_get l place) (told_cells place after told (with_cell place (after, cell.1) world)) ∙ got_same world.cells place cell (after, cell.1) at

      key : (end ≡ (party x).address.id) × (to.node ≡ (party (other x)).address)
      key = up_key journal log world party x s before e cell n end to.node probed st pair found of m at_x up

      as_key : (h : HostState) → link_with h (party x).address.id (party (other x)).address ≡ link_with h end to.node
      as_key h = ap (λ (k : ℕ). link_with h k (party (other x)).address) (sym key.0) ∙ ap (link_with h end) (sym key.1)

      link_was : link_of (scene_of party world) x ≡ link_with host end to.node
      link_was = ap (λ (h : HostState). link_with h (party x).address.id (party (other x)).address) (host_is world (party x).place cell at_x) ∙ as_key host

      link_now : link_of (scene_of party done.1) x ≡ link_with after.host end to.node
      link_now = ap (λ (h : HostState). link_with h (party x).address.id (party (other x)).address) (host_is done.1 (party x).place (after, cell.1) at_now) ∙ as_key after.host

      found_at : find_end (party x).place n world.sockets ≡ Some (s, e)
      found_at = st.all.sound.ends.sure.ends.each s before e (party x).place n found (is_held (party x).place n (end_of e before) o.cell m)

      up_was : IsUpOn party world x s e
      up_was = record { number = n; probed = probed; up = ap (λ (l : Link). l.state) link_was ∙ up; found = found_at }

      up_now : IsUpOn party done.1 x s e
      up_now = record { number = n; probed = probed; up = ap (λ (l : Link). l.state) link_now ∙ (w.puts.up n probed up).0; found = t_told.found (party x).place n (s, e) found_at }

      -- what was said by it
      own_is : node.own ≡ (party x).address
      own_is = own ∙ ap (own_address host) key.0 ∙ ap (λ (h : HostState). own_address h (party x).address.id) (sym (host_is world (party x).place cell at_x)) ∙ (facts.acts x cell at_x).own

      said_one : sayings (party x).name (party (other x)).name (log ++ done.0) ≡ sayings (party x).name (party (other x)).name log ++ one ∷ []
      said_one = said_now (party x).name (party (other x)).name ∙ ap (λ (b : Bool). sayings (party x).name (party (other x)).name log ++ cons_option (cond b (Some one) None) []) (ap (λ (b : Bool). b && bytes_eq q.node (party (other x)).name) ((bytes_eq-Decides p.node (party x).name).1 (ap (called world.names) own_is ∙ facts.called_as x))
          ∙ (bytes_eq-Decides q.node (party (other x)).name).1 (ap (called world.names) key.1 ∙ facts.called_as (other x)))

      wrote : writings (log ++ done.0) s e ≡ writings log s e ++ spelled w.new
      wrote = wrote_both log done.0 s e ∙ ap (λ (l : List (List ℕ)). writings log s e ++ l) (t_told.wrote s before e found ∙ ap (λ (k : Option ℕ). pieces_for place (steps_in told) k (end_of e before).number) c ∙ ap (pieces_for place (steps_in told) (Some place)) m
          ∙ ap (λ (b : Bool). cond b (pieces_at n (steps_in told)) []) (number_same place) ∙ ap (pieces_at n) told_is ∙ writes_at n n w.new ∙ ap (λ (b : Bool). cond b (spelled w.new) []) (number_same n))

      true_there : AreTruly (sayings (party x).name (party (other x)).name (log ++ done.0)) (written_frames (sayings (party x).name (party (other x)).name log) (writings log s e) ++ placed_in (new n))
      true_there = subst (λ (l : List Saying). AreTruly l (written_frames (sayings (party x).name (party (other x)).name log) (writings log s e) ++ placed_in (new n))) (sym said_one)
          (subst (λ (l : List Placed). AreTruly (sayings (party x).name (party (other x)).name log ++ one ∷ []) (written_frames (sayings (party x).name (party (other x)).name log) (writings log s e) ++ l)) (sym items_are)
          (behind_true journal (sayings (party x).name (party (other x)).name log) one (writings log s e) w.new w.id w.opening w.goes w.spelled (words_on journal log world party x s e pair st (say party pair x) of up_was)
          (subst (λ (l : List Saying). CarriesAll journal l (writings log s e ++ spelled w.new)) said_one
          (subst (CarriesAll journal (sayings (party x).name (party (other x)).name (log ++ done.0))) wrote
          (words_on journal (log ++ done.0) done.1 party x s e pair st_now (say_now party pair x) of up_now)))))

    up_turn : AskedTruly journal log world place host (steps_in told) after.host (log ++ done.0) done.1
    unfolding new
    up_turn = record {
      new = new;
      does = told_does (own_of journal place) host (steps_in told) after.host d alone;
      dials = inl alone;
      unread = λ k. ap (reads_of k) told_is ∙ writes_unread n k w.new;
      truly = λ party pair x s e socket of found t. new_cases place new (end_of e t.before).cell (end_of e t.before).number (λ l. AreTruly (sayings (party x).name (party (other x)).name (log ++ done.0)) (written_frames (sayings (party x).name (party (other x)).name log) (writings log s e) ++ placed_in l))
          (still_true journal j log world place cell after.host done.0 done.1 at st say party pair x s e of) (λ k c m. by_number party pair x s e of t.before t.found k c m (n == k) refl);
    } where
      writes_unread : (sock k : ℕ) (all : List Placed) → reads_of k (map (write_step sock) all) ≡ 0
      writes_unread sock k [] = refl
      writes_unread sock k (x ∷ all) = writes_unread sock k all

      by_number : (party : Side → Party) (pair : IsPairOf journal party) (x : Side) (s : SockName) (e : End) → is_end_of (party x).name (party (other x)).name s e ≡ true → (before : WorldSocket) → find (is_socket_named s) world.sockets ≡ Some before → (k : ℕ) → (end_of e before).cell ≡ Some place → (end_of e before).number ≡ Some k
          → (b : Bool) → (n == k) ≡ b → AreTruly (sayings (party x).name (party (other x)).name (log ++ done.0)) (written_frames (sayings (party x).name (party (other x)).name log) (writings log s e) ++ placed_in (new k))
      by_number party pair x s e of before found k c m true h = subst (λ (i : ℕ). AreTruly (sayings (party x).name (party (other x)).name (log ++ done.0)) (written_frames (sayings (party x).name (party (other x)).name log) (writings log s e) ++ placed_in (new i))) (number_is n k h)
          (true_there party pair x s e of before found c (m ∙ sym (ap (λ (i : ℕ). Some i) (number_is n k h))))
      by_number party pair x s e of before found k c m false h = subst (λ (l : List Placed). AreTruly (sayings (party x).name (party (other x)).name (log ++ done.0)) (written_frames (sayings (party x).name (party (other x)).name log) (writings log s e) ++ l)) (sym (items_none k h))
          (still_true journal j log world place cell after.host done.0 done.1 at st say party pair x s e of)

  pub away_turn : AskedTruly journal log world place host (steps_in told) after.host (log ++ done.0) done.1
  away_turn = by_written (puts_written host end to.node w.new (steps_in told) after.host w.puts) where
    Truly : List Step → Type 0
    Truly l = AskedTruly journal log world place host l after.host (log ++ done.0) done.1

    by_written : ((sock : ℕ) × (probed : Bool) × ((link_with host end to.node).state ≡ states.Up sock probed) × (steps_in told ≡ map (write_step sock) w.new)) ⊎ ((steps_in told ≡ []) ⊎ ((sock : ℕ) × (e : ℕ) × (a : Address) × (steps_in told ≡ steps.Dial sock e a ∷ []))) → Truly (steps_in told)
    by_written (inl k) = up_turn k.0 k.1 k.2 k.3 (subst NoDials (sym k.3) (write_none k.0 w.new))
    by_written (inr (inl none)) = subst Truly (sym none) (bare_turn journal j log world place cell after.host done.0 done.1 at st say [] (subst (λ (l : List Step). Does (own_of journal place) host l after.host) none d) tt tt)
    by_written (inr (inr k)) = subst Truly (sym k.3) (dial_turn journal j log world place cell after.host done.0 done.1 at st say k.0 k.1 k.2 (subst (λ (l : List Step). Does (own_of journal place) host l after.host) k.3 d))
