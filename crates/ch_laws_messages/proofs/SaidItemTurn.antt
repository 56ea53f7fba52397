-- A turn in which a host reads an item, and no link fails: what was said is carried still, also where a link comes up.
use Rattle.std.proofs.Common.{◌≡◌, ◌⊎◌, inl, inr, ℕ, Bool, true, false, cond, List, [], ◌∷◌, ◌++◌, Ok, refl, sym, ap, ◌∙◌, subst}
use Rattle.std.proofs.lemmas.List.{append-nil}
use Rattle.std.proofs.lemmas.List.Elements.{filter_map-append}
use Rattle.std.specs.List.{cons_option}
use Rattle.std.specs.Prelude.{drop, filter_map, find, slice_get, slice_set, Option, Some, None, ◌==◌}
use Rattle.ch_base.specs.declared.address.Address.{Address}
use Rattle.ch_ident.specs.declared.identifier.ProcessId.{ProcessId}
use Rattle.ch_light.specs.Ids.{id_of}
use Rattle.ch_light.specs.declared.Connection.{Connection}
use Rattle.ch_static.specs.declared.target.Target.TheVariants as targets
use Rattle.ch_link.specs.declared.LinkState.{LinkState}
use Rattle.ch_link.specs.declared.LinkState.TheVariants as states
use Rattle.ch_wire.specs.declared.frame.Frame.{Frame}
use Rattle.ch_model.specs.declared.entry.Entry.{Entry}
use Rattle.ch_model.specs.declared.line.Line.{Line}
use Rattle.ch_model.specs.declared.local.LocalEntry.{LocalEntry}
use Rattle.ch_model.specs.declared.local.LocalEntry.TheVariants as local
use Rattle.ch_model.specs.declared.name.End.{End}
use Rattle.ch_model.specs.declared.name.SockName.{SockName}
use Rattle.ch_model.specs.declared.note.Note.{Note}
use Rattle.ch_model.specs.declared.note.Note.TheVariants as notes
use Rattle.ch_model.specs.declared.step.Place.{Place}
use Rattle.ch_model.specs.declared.step.Step.{Step}
use Rattle.ch_model.specs.AccountsFrames.{Saying}
use Rattle.ch_model.specs.AccountsItems.{frame_of, frames_of}
use Rattle.ch_model.specs.CellSteps.{is_at}
use Rattle.ch_model.specs.Host.{host_next}
use Rattle.ch_model.specs.HostState.{Link, HostState}
use Rattle.ch_model.specs.HostSteps.{link_with}
use Rattle.ch_model.specs.HostWrites.{is_up}
use Rattle.ch_model.specs.Naming.{Names}
use Rattle.ch_model.specs.NodePairs.{is_pair, pair_of}
use Rattle.ch_model.specs.NodeState.{NodeState, Pair}
use Rattle.ch_model.specs.Same.{is_end_of}
use Rattle.ch_model.specs.Sockets.{writings}
use Rattle.ch_model.specs.WorldHappenings.{with_cell}
use Rattle.ch_model.specs.WorldSockets as ends
use Rattle.ch_model.specs.WorldSockets.{end_of, is_socket_named, find_end}
use Rattle.ch_model.specs.WorldState.{Cell, WorldSocket, World}
use Rattle.ch_model.specs.WorldSteps.{note_entry, noted, stepped, all_told}
use Rattle.ch_race.specs.Pair.{Side, other}
use Rattle.ch_laws_bytes.proofs.Event.{set_at}
use Rattle.ch_laws_bytes.proofs.Lines.{own_of}
use Rattle.ch_laws_bytes.proofs.Told.{told_names}
use Rattle.ch_laws_calls.specs.Scenes.{IsPairOf, scene_of, SceneFacts}
use Rattle.ch_laws_ends.proofs.Changes.{told_cells}
use Rattle.ch_laws_ends.proofs.Found.{EachFound}
use Rattle.ch_laws_calls.specs.FitsTurns.{NoDials}
use Rattle.ch_laws_ids.specs.Runs.{pieces_at, pieces_for, Runs, RunsThere, RunsFor, AllRun}
use Rattle.ch_laws_links.specs.Naming.{IsNaming}
use Rattle.ch_laws_log.proofs.Stored.{found_end}
use Rattle.ch_laws_log.proofs.WorldEnds.{found_is}
use Rattle.ch_laws_log.specs.HostEnds.{steps_in}
use Rattle.ch_laws_plain.specs.Talks.{IsUpThere}
use Rattle.ch_laws_plain_logs.specs.Plain.{said_by}
use Rattle.ch_laws_race.specs.Scene.{Party, host_in, hosts_of, link_of}
use Rattle.ch_laws_calls.specs.Turns.{told_on}
use Rattle.ch_laws_writes.specs.Dues.{Answering, Framing, due_at}
use Rattle.ch_laws_writes.specs.Orderly.{IsOrderly}
use Rattle.ch_laws_writes.proofs.Worlds.{number_is, number_same}
use Rattle.ch_laws_peers.specs.Words.{Placed, waiting_as}
use Rattle.ch_laws_peers.specs.Says.{node_in, node_of, IsUpOn, Says, AllSay}
use Rattle.ch_laws_peers.specs.Standing.{Standing}
use Rattle.ch_laws_messages.specs.SaidGoes.{bare, Flows, frames_to, waits_for, said_to, given_to, mark_of, IsOne, Streams, NodeStays}
use Rattle.ch_laws_messages.specs.SaidHeeds.{AreCalm, IsFirst, Rises, IsAnswer, FromDown, Heeds, IsUnsaid, AreUnsaid, NodeHears, NodesHear, Follows}
use Rattle.ch_laws_messages.specs.SaidPuts.{spelled}
use Rattle.ch_laws_messages.proofs.SaidItemReads.{next_heeds}
use Rattle.ch_laws_messages.proofs.SaidMakes.{seen_in}
use Rattle.ch_laws_messages.proofs.SaidLogs.{at_up, up_alone, each_one}
use Rattle.ch_laws_messages.proofs.SaidQuiet.{stays}
use Rattle.ch_laws_messages.proofs.SaidSends.{step_unsaid}
use Rattle.ch_laws_messages.proofs.SaidSides.{up_end}
use Rattle.ch_laws_messages.proofs.SaidStill.{up_waits, node_same, node_at}
use Rattle.ch_laws_messages.proofs.SaidTold.{Turns, turns, told_found}
use Rattle.ch_laws_messages.proofs.SaidTurned.{numbers_are, begun_some, of_number}
use Rattle.ch_laws_messages.proofs.SaidWhose.{UpHere, whose}
use Rattle.ch_laws_messages.proofs.SaidWritten.{frames_read, wrote_both, frames_behind, frames_still}

-- ---- nothing is said

note_unsaid : (x y : List ℕ) (known : Names) (last : Option Place) (note : Note) → IsUnsaid (local.Note note) → said_by x y (note_entry known last note) ≡ None
note_unsaid x y known last (notes.Said by to epoch index message) u = absurd u
note_unsaid x y known last (notes.Made process origin) u = refl
note_unsaid x y known last note u = refl

pub told_unsaid : (x y : List ℕ) (place : ℕ) (cell : Cell) (told : List LocalEntry) (world : World) → AreUnsaid told → filter_map (said_by x y) (all_told place cell told world).0 ≡ []
told_unsaid x y place cell [] world u = refl
told_unsaid x y place cell (local.Note note ∷ rest) world u = ap (λ (o : Option Saying). cons_option o (filter_map (said_by x y) (all_told place cell rest (noted note world).1).0)) (note_unsaid x y world.names world.last note u.0) ∙ told_unsaid x y place cell rest (noted note world).1 u.1
told_unsaid x y place cell (local.Step step ∷ rest) world u = filter_map-append (said_by x y) (stepped place cell step world).0 (all_told place cell rest (stepped place cell step world).1).0
    ∙ ap (λ (l : List Saying). l ++ filter_map (said_by x y) (all_told place cell rest (stepped place cell step world).1).0) (step_unsaid x y place cell step world) ∙ told_unsaid x y place cell rest (stepped place cell step world).1 u.1

-- ---- the turn

module _ (journal : List Line) (log : List Entry) (world : World) (place : ℕ) (cell : Cell × ℕ) (told : List LocalEntry) (after : Cell) (new : ℕ → Address → List Placed) (st : Standing journal log world) (later : Standing journal (log ++ (told_on place cell after told world).0) (told_on place cell after told world).1) (run : AllRun log world) (at : slice_get world.cells place ≡ Some cell)
    (h : Heeds cell.0.host (steps_in told) after.host new) where
  abbrev pub done : List Entry × World
  done = told_on place cell after told world

  t : Turns place told done.0 world done.1
  t = turns journal log world place cell told after st.all.sound.ends.sure at (inl h.alone)

  each : EachFound world.sockets
  each = st.all.sound.ends.sure.ends.each

  -- the ends are where they were
  found_same : (p n : ℕ) → find_end p n done.1.sockets ≡ find_end p n world.sockets
  found_same p n = told_found place after told (with_cell place (after, cell.1) world) h.alone p n

  cells : done.1.cells ≡ slice_set world.cells place (after, cell.1)
  cells = told_cells place after told (with_cell place (after, cell.1) world)

  at_after : slice_get done.1.cells place ≡ Some (after, cell.1)
  at_after = ap (λ (l : List (Cell × ℕ)). slice_get l place) cells ∙ set_at world.cells place cell (after, cell.1) place at ∙ ap (λ (b : Bool). cond b (Some (after, cell.1)) (slice_get world.cells place)) (number_same place)

  naming : IsNaming cell.0.host
  naming = (st.all.sound.links.naming place cell at).naming

  naming_after : IsNaming after.host
  naming_after = (later.all.sound.links.naming place (after, cell.1) at_after).naming

  orderly : IsOrderly (own_of journal place) cell.0.host
  orderly = st.all.sound.ends.flowing.orderly place cell at

  -- what an end of this cell wrote leads to what is due there
  runs : (n : ℕ) (s : SockName) (socket : WorldSocket) (e : End) → find (is_socket_named s) world.sockets ≡ Some socket → (end_of e socket).cell ≡ Some place → (end_of e socket).number ≡ Some n → Runs cell.0.host n e (writings log s e)
  runs n s socket e found c m =
      let there : RunsThere (slice_get world.cells place) n e (writings log s e) = subst (λ (m : Option ℕ). RunsFor world.cells (Some place) m e (writings log s e)) m (subst (λ (c : Option ℕ). RunsFor world.cells c (end_of e socket).number e (writings log s e)) c (run.ends s socket e found)) in
      subst (λ (o : Option (Cell × ℕ)). RunsThere o n e (writings log s e)) at there

  -- and what it writes in the turn
  wrote_here : (n : ℕ) (s : SockName) (socket : WorldSocket) (e : End) → find (is_socket_named s) world.sockets ≡ Some socket → (end_of e socket).cell ≡ Some place → (end_of e socket).number ≡ Some n → writings done.0 s e ≡ pieces_at n (steps_in told)
  wrote_here n s socket e found c m = t.wrote s socket e found ∙ ap (λ (c : Option ℕ). pieces_for place (steps_in told) c (end_of e socket).number) c ∙ ap (pieces_for place (steps_in told) (Some place)) m ∙ ap (λ (b : Bool). cond b (pieces_at n (steps_in told)) []) (number_same place)

  -- an answer alone is no frame
  answer_alone : (n : ℕ) (s : SockName) (socket : WorldSocket) (e : End) → find (is_socket_named s) world.sockets ≡ Some socket → (end_of e socket).cell ≡ Some place → (end_of e socket).number ≡ Some n → IsAnswer (due_at cell.0.host n) (pieces_at n (steps_in told)) → frames_of (log ++ done.0) s e ≡ frames_of log s e
  answer_alone n s socket e found c m a =
      let none : writings log s e ≡ [] = ((runs n s socket e found c m).due Answering a.0).1 in
      ap (λ (l : List (List ℕ)). filter_map frame_of (drop 1 l)) (wrote_both log done.0 s e ∙ ap (λ (l : List (List ℕ)). l ++ writings done.0 s e) none ∙ wrote_here n s socket e found c m ∙ a.1.1) ∙ ap (λ (l : List (List ℕ)). filter_map frame_of (drop 1 l)) (sym none)

  module _ (party : Side → Party) (pair : IsPairOf journal party) (x : Side) (says : Says journal log world party x) where
    facts : SceneFacts party world
    facts = st.each_pair.shown party pair

    facts_after : SceneFacts party done.1
    facts_after = later.each_pair.shown party pair

    abbrev pub end : ℕ
    end = (party x).address.id

    abbrev pub peer : Address
    peer = (party (other x)).address

    before : (s : SockName) (e : End) → is_end_of (party x).name (party (other x)).name s e ≡ true → (frames_of log s e ≡ []) ⊎ IsUpOn party world x s e
    before = each_one party x log world (record { one = says.one; down = says.down })

    abbrev UpAfter : SockName → End → Type 0
    UpAfter s e = UpHere party x done.1 place after.host s e

    -- each end of the node stays as it was, or is the one that it is up on after the turn
    goes : (s : SockName) (e : End) → is_end_of (party x).name (party (other x)).name s e ≡ true → (frames_of (log ++ done.0) s e ≡ frames_of log s e) ⊎ UpAfter s e
    goes s e theirs = by_socket (find (is_socket_named s) world.sockets) refl where
      up_there : (socket : WorldSocket) → find (is_socket_named s) world.sockets ≡ Some socket → (n : ℕ) → (end_of e socket).cell ≡ Some place → (end_of e socket).number ≡ Some n → IsUpThere after.host n → UpAfter s e
      up_there socket is n c m ut =
          let found : find_end place n world.sockets ≡ Some (s, e) = each s socket e place n is (of_number place n (end_of e socket).cell (end_of e socket).number c m) in
          let found_now : find_end place n done.1.sockets ≡ Some (s, e) = found_same place n ∙ found in
          let held = found_end place n done.1.sockets (s, e) found_now in
          whose done.1 place (after, cell.1) at_after naming_after later.all.sound.ends.sure.ends.each party x facts_after s held.socket e n theirs held.is (is_of n held.socket held.is found_now) ut
        where
          is_of : (n : ℕ) (w : WorldSocket) → find (is_socket_named s) done.1.sockets ≡ Some w → find_end place n done.1.sockets ≡ Some (s, e) → ends.is_end_of place n (end_of e w) ≡ true
          is_of n w is found = found_is place n done.1.sockets (s, e) w later.all.sound.ends.sure.ends.sorted.0.apart found is

      by_pieces : (socket : WorldSocket) → find (is_socket_named s) world.sockets ≡ Some socket → (c m : Option ℕ) → (end_of e socket).cell ≡ c → (end_of e socket).number ≡ m → (frames_of (log ++ done.0) s e ≡ frames_of log s e) ⊎ UpAfter s e
      by_pieces socket is None m f g = inl (frames_still log done.0 s e (t.wrote s socket e is ∙ ap (λ (c : Option ℕ). pieces_for place (steps_in told) c (end_of e socket).number) f))
      by_pieces socket is (Some p) None f g = inl (frames_still log done.0 s e (t.wrote s socket e is ∙ ap (λ (c : Option ℕ). pieces_for place (steps_in told) c (end_of e socket).number) f ∙ ap (pieces_for place (steps_in told) (Some p)) g))
      by_pieces socket is (Some p) (Some n) f g = by_test (p == place) refl (h.where_up n) where
        wrote : writings done.0 s e ≡ cond (p == place) (pieces_at n (steps_in told)) []
        wrote = t.wrote s socket e is ∙ ap (λ (c : Option ℕ). pieces_for place (steps_in told) c (end_of e socket).number) f ∙ ap (pieces_for place (steps_in told) (Some p)) g

        by_test : (b : Bool) → (p == place) ≡ b → (pieces_at n (steps_in told) ≡ []) ⊎ (IsUpThere after.host n ⊎ IsAnswer (due_at cell.0.host n) (pieces_at n (steps_in told))) → (frames_of (log ++ done.0) s e ≡ frames_of log s e) ⊎ UpAfter s e
        by_test false k o = inl (frames_still log done.0 s e (wrote ∙ ap (λ (b : Bool). cond b (pieces_at n (steps_in told)) []) k))
        by_test true k (inl none) = inl (frames_still log done.0 s e (wrote ∙ ap (λ (b : Bool). cond b (pieces_at n (steps_in told)) []) k ∙ none))
        by_test true k (inr (inl ut)) = inr (up_there socket is n (f ∙ ap (λ (q : ℕ). Some q) (number_is p place k)) g ut)
        by_test true k (inr (inr a)) = inl (answer_alone n s socket e is (f ∙ ap (λ (q : ℕ). Some q) (number_is p place k)) g a)

      by_socket : (o : Option WorldSocket) → find (is_socket_named s) world.sockets ≡ o → (frames_of (log ++ done.0) s e ≡ frames_of log s e) ⊎ UpAfter s e
      by_socket None is = inl (frames_still log done.0 s e (t.silent s e is))
      by_socket (Some socket) is = by_pieces socket is (end_of e socket).cell (end_of e socket).number refl refl

    naming_of : (z : Side) → IsNaming (hosts_of world (party z).place)
    naming_of z = let there = facts.there z in subst (λ (o : Option (Cell × ℕ)). IsNaming (host_in o)) (sym there.1) (st.all.sound.links.naming (party z).place there.0 there.1).naming

    naming_then : (z : Side) → IsNaming (hosts_of done.1 (party z).place)
    naming_then z = let there = facts_after.there z in subst (λ (o : Option (Cell × ℕ)). IsNaming (host_in o)) (sym there.1) (later.all.sound.links.naming (party z).place there.0 there.1).naming

    -- ---- a node of another cell

    module _ (away : (place == (party x).place) ≡ false) where
      pub link_away : link_of (scene_of party done.1) x ≡ link_of (scene_of party world) x
      link_away = ap (λ (o : Option (Cell × ℕ)). link_with (host_in o) end peer) (ap (λ (l : List (Cell × ℕ)). slice_get l (party x).place) cells ∙ set_at world.cells place cell (after, cell.1) (party x).place at ∙ ap (λ (b : Bool). cond b (Some (after, cell.1)) (slice_get world.cells (party x).place)) away)

      elsewhere : (s : SockName) (e : End) → is_end_of (party x).name (party (other x)).name s e ≡ true → frames_of (log ++ done.0) s e ≡ frames_of log s e
      elsewhere s e theirs = by_goes (goes s e theirs) where
        by_goes : (frames_of (log ++ done.0) s e ≡ frames_of log s e) ⊎ UpAfter s e → frames_of (log ++ done.0) s e ≡ frames_of log s e
        by_goes (inl same) = same
        by_goes (inr k) = let no : true ≡ false = sym (ap (λ (p : ℕ). place == p) (sym k.here) ∙ number_same place) ∙ away in absurd cc

      up_still : (s : SockName) (e : End) → IsUpOn party world x s e → IsUpOn party done.1 x s e
      up_still s e v = record { number = v.number; probed = v.probed; up = ap (λ (l : Link). l.state) link_away ∙ v.up; found = t.found (party x).place v.number (s, e) v.found }

      now : (s : SockName) (e : End) → is_end_of (party x).name (party (other x)).name s e ≡ true → (frames_of (log ++ done.0) s e ≡ []) ⊎ IsUpOn party done.1 x s e
      now s e theirs = by_before (before s e theirs) where
        by_before : (frames_of log s e ≡ []) ⊎ IsUpOn party world x s e → (frames_of (log ++ done.0) s e ≡ []) ⊎ IsUpOn party done.1 x s e
        by_before (inl none) = inl (elsewhere s e theirs ∙ none)
        by_before (inr v) = inr (up_still s e v)

      one_now : IsOne party x (log ++ done.0) done.1
      one_now = up_alone party x (log ++ done.0) done.1 now

      pub streams_away : Streams party x log world (log ++ done.0) done.1 []
      streams_away = record { placed = tt; flows = by_state (link_of (scene_of party world) x).state refl; is_one = one_now } where
        waits_same : waits_for party done.1 x ≡ waits_for party world x
        waits_same = ap (λ (l : Link). l.waits) link_away

        down : is_up (link_of (scene_of party world) x).state ≡ false → Flows (frames_to party x log) (waits_for party world x) (frames_to party x (log ++ done.0)) (waits_for party done.1 x) []
        down off = inr (inl (says.down off, one_now.down (ap (λ (l : Link). is_up l.state) link_away ∙ off), ap waiting_as waits_same ∙ sym (append-nil (waiting_as (waits_for party world x)))))

        up : (n : ℕ) (probed : Bool) → (link_of (scene_of party world) x).state ≡ states.Up n probed → Flows (frames_to party x log) (waits_for party world x) (frames_to party x (log ++ done.0)) (waits_for party done.1 x) []
        up n probed e =
            let one = up_end party world x n probed facts each (naming_of x) e in
            let v : IsUpOn party world x one.s one.e = record { number = n; probed = probed; up = e; found = one.found } in
            let none = up_waits journal log world party x pair st (ap is_up e) in
            inl (none, waits_same ∙ none, at_up party x (log ++ done.0) done.1 now one.s one.e one.theirs (up_still one.s one.e v) ∙ elsewhere one.s one.e one.theirs ∙ sym (at_up party x log world before one.s one.e one.theirs v) ∙ sym (append-nil (frames_to party x log)))

        by_state : (state : LinkState) → (link_of (scene_of party world) x).state ≡ state → Flows (frames_to party x log) (waits_for party world x) (frames_to party x (log ++ done.0)) (waits_for party done.1 x) []
        by_state (states.Up n probed) e = up n probed e
        by_state (states.Dialing sock) e = down (ap is_up e)
        by_state states.AwaitOther e = down (ap is_up e)
        by_state states.Idle e = down (ap is_up e)

    -- ---- a node of the cell

    module _ (here : place ≡ (party x).place) where
      link_was : link_of (scene_of party world) x ≡ link_with cell.0.host end peer
      link_was = ap (λ (p : ℕ). link_with (host_in (slice_get world.cells p)) end peer) (sym here) ∙ ap (λ (o : Option (Cell × ℕ)). link_with (host_in o) end peer) at

      pub link_here : link_of (scene_of party done.1) x ≡ link_with after.host end peer
      link_here = ap (λ (p : ℕ). link_with (host_in (slice_get done.1.cells p)) end peer) (sym here) ∙ ap (λ (o : Option (Cell × ℕ)). link_with (host_in o) end peer) at_after

      is_up_on : (n : ℕ) (probed : Bool) → (link_with after.host end peer).state ≡ states.Up n probed → (s : SockName) (e : End) → find_end place n done.1.sockets ≡ Some (s, e) → IsUpOn party done.1 x s e
      is_up_on n probed up s e found = record { number = n; probed = probed; up = ap (λ (l : Link). l.state) link_here ∙ up; found = ap (λ (p : ℕ). find_end p n done.1.sockets) (sym here) ∙ found }

      still_up : (n : ℕ) (probed : Bool) → (link_with cell.0.host end peer).state ≡ states.Up n probed → (s : SockName) (e : End) → find_end place n world.sockets ≡ Some (s, e) → IsUpOn party done.1 x s e
      still_up n probed is s e found = let k = (h.up end peer n probed is).0 in is_up_on n k.0 k.1 s e (found_same place n ∙ found)

      now_here : (s : SockName) (e : End) → is_end_of (party x).name (party (other x)).name s e ≡ true → (frames_of (log ++ done.0) s e ≡ []) ⊎ IsUpOn party done.1 x s e
      now_here s e theirs = by_both (goes s e theirs) (before s e theirs) where
        by_both : (frames_of (log ++ done.0) s e ≡ frames_of log s e) ⊎ UpAfter s e → (frames_of log s e ≡ []) ⊎ IsUpOn party world x s e → (frames_of (log ++ done.0) s e ≡ []) ⊎ IsUpOn party done.1 x s e
        by_both (inr k) o = inr (is_up_on k.n k.probed k.up s e k.found)
        by_both (inl same) (inl none) = inl (same ∙ none)
        by_both (inl same) (inr v) = inr (still_up v.number v.probed (sym (ap (λ (l : Link). l.state) link_was) ∙ v.up) s e (ap (λ (p : ℕ). find_end p v.number world.sockets) here ∙ v.found))

      one_here : IsOne party x (log ++ done.0) done.1
      one_here = up_alone party x (log ++ done.0) done.1 now_here

      waits_were : waits_for party world x ≡ (link_with cell.0.host end peer).waits
      waits_were = ap (λ (l : Link). l.waits) link_was

      waits_now : waits_for party done.1 x ≡ (link_with after.host end peer).waits
      waits_now = ap (λ (l : Link). l.waits) link_here

      abbrev Flow : List Placed → Type 0
      Flow put = Flows (frames_to party x log) (waits_for party world x) (frames_to party x (log ++ done.0)) (waits_for party done.1 x) put

      -- the link comes up
      risen_flow : is_up (link_with cell.0.host end peer).state ≡ false → Rises (due_at cell.0.host) (link_with cell.0.host end peer) (link_with after.host end peer) (steps_in told) → Flow []
      risen_flow off r =
          let up_now : (link_of (scene_of party done.1) x).state ≡ states.Up r.sock r.probed = ap (λ (l : Link). l.state) link_here ∙ r.up in
          let one = up_end party done.1 x r.sock r.probed facts_after later.all.sound.ends.sure.ends.each (naming_then x) up_now in
          let found_now : find_end place r.sock done.1.sockets ≡ Some (one.s, one.e) = ap (λ (p : ℕ). find_end p r.sock done.1.sockets) here ∙ one.found in
          let found : find_end place r.sock world.sockets ≡ Some (one.s, one.e) = sym (found_same place r.sock) ∙ found_now in
          let held = found_end place r.sock world.sockets (one.s, one.e) found in
          let of : ends.is_end_of place r.sock (end_of one.e held.socket) ≡ true = found_is place r.sock world.sockets (one.s, one.e) held.socket st.all.sound.ends.sure.ends.sorted.0.apart found held.is in
          let both = numbers_are place r.sock (end_of one.e held.socket).cell (end_of one.e held.socket).number of in
          let none : frames_of log one.s one.e ≡ [] = by_before one.s one.e (before one.s one.e one.theirs) in
          let first = first_of one.s one.e (writings log one.s one.e) refl none r.first r.fits (runs r.sock one.s held.socket one.e held.is both.0 both.1) (wrote_here r.sock one.s held.socket one.e held.is both.0 both.1 ∙ r.wrote) in
          inr (inr (
            says.down (ap (λ (l : Link). is_up l.state) link_was ∙ off),
            waits_now ∙ r.waits,
            at_up party x (log ++ done.0) done.1 now_here one.s one.e one.theirs (is_up_on r.sock r.probed r.up one.s one.e found_now) ∙ first ∙ ap (λ (l : List Placed). bare l) (ap waiting_as (sym waits_were) ∙ sym (append-nil (waiting_as (waits_for party world x)))),
          ))
        where
          waits : List Placed
          waits = waiting_as (link_with cell.0.host end peer).waits

          by_before : (s : SockName) (e : End) → (frames_of log s e ≡ []) ⊎ IsUpOn party world x s e → frames_of log s e ≡ []
          by_before s e (inl none) = none
          by_before s e (inr v) = let no : true ≡ false = sym (ap is_up v.up) ∙ ap (λ (l : Link). is_up l.state) link_was ∙ off in absurd cc

          -- the frames there are those that waited
          first_of : (s : SockName) (e : End) (pieces : List (List ℕ)) → writings log s e ≡ pieces → frames_of log s e ≡ [] → (first : List (List ℕ)) → IsFirst (due_at cell.0.host r.sock) first → Runs cell.0.host r.sock e (writings log s e) → writings done.0 s e ≡ first ++ spelled waits → frames_of (log ++ done.0) s e ≡ bare waits
          first_of s e pieces is none first (inl k) ran wrote =
              let some = begun_some e (writings log s e) (ran.due Framing k.0) in
              frames_behind log done.0 s e some.0 some.1 waits some.2 (wrote ∙ ap (λ (l : List (List ℕ)). l ++ spelled waits) k.1) r.may ∙ ap (λ (l : List Frame). l ++ bare waits) none
          first_of s e pieces is none first (inr k) ran wrote =
              let empty : writings log s e ≡ [] = (ran.due Answering k.0).1 in
              ap (λ (l : List (List ℕ)). filter_map frame_of (drop 1 l)) (wrote_both log done.0 s e ∙ ap (λ (l : List (List ℕ)). l ++ writings done.0 s e) empty ∙ wrote ∙ ap (λ (l : List (List ℕ)). l ++ spelled waits) k.1.1) ∙ frames_read waits r.may

      pub streams_here : Streams party x log world (log ++ done.0) done.1 (new end peer)
      streams_here = record { placed = h.placed end peer; flows = by_state (link_with cell.0.host end peer).state refl; is_one = one_here } where
        by_down : is_up (link_with cell.0.host end peer).state ≡ false → FromDown (due_at cell.0.host) (link_with cell.0.host end peer) (link_with after.host end peer) (steps_in told) (new end peer) → Flow (new end peer)
        by_down off (inl k) = inr (inl (
          says.down (ap (λ (l : Link). is_up l.state) link_was ∙ off),
          one_here.down (ap (λ (l : Link). is_up l.state) link_here ∙ k.0),
          ap waiting_as waits_now ∙ k.1 ∙ ap (λ (w : List Placed). w ++ new end peer) (sym (ap waiting_as waits_were)),
        ))
        by_down off (inr r) = subst Flow (sym r.0) (risen_flow off r.1)

        down : is_up (link_with cell.0.host end peer).state ≡ false → Flow (new end peer)
        down off = by_down off (h.down end peer off)

        up : (n : ℕ) (probed : Bool) → (link_with cell.0.host end peer).state ≡ states.Up n probed → Flow (new end peer)
        up n probed e =
            let was_up : (link_of (scene_of party world) x).state ≡ states.Up n probed = ap (λ (l : Link). l.state) link_was ∙ e in
            let one = up_end party world x n probed facts each (naming_of x) was_up in
            let found : find_end place n world.sockets ≡ Some (one.s, one.e) = ap (λ (p : ℕ). find_end p n world.sockets) here ∙ one.found in
            let of : ends.is_end_of place n (end_of one.e one.socket) ≡ true = ap (λ (p : ℕ). ends.is_end_of p n (end_of one.e one.socket)) here ∙ one.end in
            let v : IsUpOn party world x one.s one.e = record { number = n; probed = probed; up = was_up; found = one.found } in
            let both = numbers_are place n (end_of one.e one.socket).cell (end_of one.e one.socket).number of in
            let some = begun_some one.e (writings log one.s one.e) ((runs n one.s one.socket one.e one.is both.0 both.1).due Framing ((orderly.links end peer).up n probed e)) in
            let wrote : writings done.0 one.s one.e ≡ spelled (new end peer) = wrote_here n one.s one.socket one.e one.is both.0 both.1 ∙ (h.up end peer n probed e).2 in
            let none = up_waits journal log world party x pair st (ap is_up was_up) in
            inl (
              none,
              waits_now ∙ (h.up end peer n probed e).1 ∙ sym waits_were ∙ none,
              at_up party x (log ++ done.0) done.1 now_here one.s one.e one.theirs (still_up n probed e one.s one.e found) ∙ frames_behind log done.0 one.s one.e some.0 some.1 (new end peer) some.2 wrote (h.may end peer) ∙ ap (λ (l : List Frame). l ++ bare (new end peer)) (sym (at_up party x log world before one.s one.e one.theirs v)),
            )

        by_state : (state : LinkState) → (link_with cell.0.host end peer).state ≡ state → Flow (new end peer)
        by_state (states.Up n probed) e = up n probed e
        by_state (states.Dialing sock) e = down (ap is_up e)
        by_state states.AwaitOther e = down (ap is_up e)
        by_state states.Idle e = down (ap is_up e)

-- ---- what nodes make of it

-- the node after it has the pairs that it had, and none of its processes is gone
pub heard_stays : (journal : List Line) (log : List Entry) (party : Side → Party) (x : Side) (world after : World) (was now : NodeState) → Says journal log world party x → node_of party world x ≡ Some was → NodeHears was now → ((conn id : ℕ) → given_to party world x conn ≡ Some id → given_to party after x conn ≡ Some id) → NodeStays party x world after now
heard_stays journal log party x world after was now s there k kept = record {
  was = was;
  there = there;
  own = k.own;
  made = k.made;
  declared = λ pair to found is at. s.declared was pair to there (subst (λ (l : List Pair). find (is_pair pair.by pair.to) l ≡ Some pair) k.pairs found) is at;
  opened = λ by to conn at marked. (marks by to ∙ marked, λ id given. kept conn id given);
  unopened = λ by to at marked living. inl (marks by to ∙ marked, k.living by living);
  unbroken = λ by to at marked. marks by to ∙ marked;
} where
  marks : (by : ℕ) (to : ProcessId) → mark_of was by to ≡ mark_of now by to
  marks by to = ap (λ (l : List Pair). (pair_of l by (targets.Process to)).mark) (sym k.pairs)

-- the node that a cell has at an endpoint
in_cell : (cell : Cell × ℕ) (end : ℕ) (now : NodeState) → node_in (Some cell) end ≡ Some now → (number : ℕ) × (find (is_at end) cell.0.nodes ≡ Some (number, now))
in_cell cell end now e = by_found (find (is_at end) cell.0.nodes) e where
  by_found : (o : Option (ℕ × NodeState)) → (elim o as (λ o. Option NodeState) [
    | None ↦ None
    | Some there ↦ Some there.1
  ]) ≡ Some now → (number : ℕ) × (o ≡ Some (number, now))
  by_found None e = absurd cc
  by_found (Some there) e = let is : there.1 ≡ now = cc in (there.0, ap (λ (n : NodeState). Some (there.0, n)) is)

-- what a host writes as it reads is told as it is
heeds_told : (host : HostState) (steps : List Step) (next : HostState) (told : List Step) (after : HostState) (new : ℕ → Address → List Placed) → after ≡ next → ((n : ℕ) → pieces_at n told ≡ pieces_at n steps) → (NoDials steps → NoDials told) → Heeds host steps next new → Heeds host told after new
heeds_told host steps next told after new same pieces alone h = subst (λ (x : HostState). Heeds host told x new) (sym same) (record {
  given = h.given;
  placed = h.placed;
  silent = h.silent;
  may = h.may;
  up = λ e p sock probed is. let k = h.up e p sock probed is in (k.0, k.1, pieces sock ∙ k.2);
  down = λ e p off. by_down e p (h.down e p off);
  where_up = λ n. by_where n (h.where_up n);
  alone = alone h.alone;
}) where
  by_down : (e : ℕ) (p : Address) → FromDown (due_at host) (link_with host e p) (link_with next e p) steps (new e p) → FromDown (due_at host) (link_with host e p) (link_with next e p) told (new e p)
  by_down e p (inl k) = inl k
  by_down e p (inr r) = inr (r.0, record { sock = r.1.sock; probed = r.1.probed; up = r.1.up; waits = r.1.waits; first = r.1.first; fits = r.1.fits; wrote = pieces r.1.sock ∙ r.1.wrote; may = r.1.may })

  by_where : (n : ℕ) → (pieces_at n steps ≡ []) ⊎ (IsUpThere next n ⊎ IsAnswer (due_at host n) (pieces_at n steps)) → (pieces_at n told ≡ []) ⊎ (IsUpThere next n ⊎ IsAnswer (due_at host n) (pieces_at n told))
  by_where n (inl none) = inl (pieces n ∙ none)
  by_where n (inr (inl up)) = inr (inl up)
  by_where n (inr (inr a)) = inr (inr (a.0, (a.1.0, pieces n ∙ a.1.1)))

-- ---- the turn of field item

-- where its host heeds so, and its nodes only hear
pub heeds_say : (journal : List Line) (log : List Entry) (world : World) (place : ℕ) (cell : Cell × ℕ) (told : List LocalEntry) (after : Cell) (new : ℕ → Address → List Placed) → Standing journal log world → Standing journal (log ++ (told_on place cell after told world).0) (told_on place cell after told world).1 → AllRun log world → slice_get world.cells place ≡ Some cell
    → Heeds cell.0.host (steps_in told) after.host new → AreUnsaid told → NodesHear cell.0 after → AllSay journal log world → AllSay journal (log ++ (told_on place cell after told world).0) (told_on place cell after told world).1
heeds_say journal log world place cell told after new st later run at h unsaid nodes say party pair x = by_place (place == (party x).place) refl where
  all : List Entry × World
  all = told_on place cell after told world

  s : Says journal log world party x
  s = say party pair x

  named : all.1.names ≡ world.names
  named = told_names place after told (with_cell place (after, cell.1) world)

  said : said_to party x (log ++ all.0) ≡ said_to party x log
  said = filter_map-append (said_by (party x).name (party (other x)).name) log all.0 ∙ ap (λ (l : List Saying). said_to party x log ++ l) (told_unsaid (party x).name (party (other x)).name place after told (with_cell place (after, cell.1) world) unsaid) ∙ append-nil (said_to party x log)

  at_nodes : (now : NodeState) → node_of party all.1 x ≡ Some now → ((place ≡ (party x).place) × (node_in (Some (after, cell.1)) (party x).address.id ≡ Some now)) ⊎ (node_in (slice_get world.cells (party x).place) (party x).address.id ≡ Some now)
  at_nodes now there = node_at world all.1 place cell (after, cell.1) (party x).place (party x).address.id now at (told_cells place after told (with_cell place (after, cell.1) world)) there

  stayed : ((conn id : ℕ) → given_to party world x conn ≡ Some id → given_to party all.1 x conn ≡ Some id) → (now : NodeState) → ((place ≡ (party x).place) × (node_in (Some (after, cell.1)) (party x).address.id ≡ Some now)) ⊎ (node_in (slice_get world.cells (party x).place) (party x).address.id ≡ Some now) → NodeStays party x world all.1 now
  stayed kept now (inr there) = node_same journal log party x world all.1 now s there kept
  stayed kept now (inl k) =
      let there = in_cell (after, cell.1) (party x).address.id now k.1 in
      let was = nodes (party x).address.id (there.0, now) there.1 in
      heard_stays journal log party x world all.1 was.1 now s (seen_in party x world place (party x).address.id was.0 cell was.1 at k.0 refl was.2) was.3 kept

  by_place : (b : Bool) → (place == (party x).place) ≡ b → Says journal (log ++ all.0) all.1 party x
  by_place true k = let here = number_is place (party x).place k in stays journal log world party x (log ++ all.0) all.1 s (record {
    named = named;
    said = said;
    new = new (party x).address.id (party (other x)).address;
    silent = h.silent (party x).address.id (party (other x)).address;
    streams = streams_here journal log world place cell told after new st later run at h party pair x s here;
    nodes = λ now there. stayed (λ conn id given. ap (λ (l : Link). id_of l.given conn) (link_here journal log world place cell told after new st later run at h party pair x s here) ∙ ap (λ (l : List Connection). id_of l conn) (h.given (party x).address.id (party (other x)).address) ∙ sym (ap (λ (l : Link). id_of l.given conn) (link_was journal log world place cell told after new st later run at h party pair x s here)) ∙ given) now (at_nodes now there);
  })
  by_place false k = stays journal log world party x (log ++ all.0) all.1 s (record {
    named = named;
    said = said;
    new = [];
    silent = refl;
    streams = streams_away journal log world place cell told after new st later run at h party pair x s k;
    nodes = λ now there. stayed (λ conn id given. ap (λ (l : Link). id_of l.given conn) (link_away journal log world place cell told after new st later run at h party pair x s k) ∙ given) now (at_nodes now there);
  })

-- an item is read, and no link fails
pub item_say : (journal : List Line) (log : List Entry) (world : World) (place : ℕ) (cell : Cell × ℕ) (steps : List Step) (host : HostState) (told : List LocalEntry) (after : Cell) → slice_get world.cells place ≡ Some cell → host_next cell.0.host ≡ Ok (Some steps, host) → AreCalm steps → Follows cell.0 steps host told after → Standing journal log world → AllRun log world
    → let all = told_on place cell after told world in Standing journal (log ++ all.0) all.1 → AllSay journal log world → AllSay journal (log ++ all.0) all.1
item_say journal log world place cell steps host told after at does calm f st run later say =
    let at_after = after_at journal log world place cell told after at in
    let naming = subst IsNaming f.same_host (later.all.sound.links.naming place (after, cell.1) at_after).naming in
    let h = next_heeds (own_of journal place) cell.0.host host steps (st.all.sound.links.naming place cell at).naming naming (st.all.sound.ends.flowing.orderly place cell at) (st.plain.cells place cell at).host calm does in
    heeds_say journal log world place cell told after h.0 st later run at (heeds_told cell.0.host steps host (steps_in told) after.host h.0 f.same_host f.pieces f.alone h.1) f.unsaid f.nodes say
  where
    after_at : (journal : List Line) (log : List Entry) (world : World) (place : ℕ) (cell : Cell × ℕ) (told : List LocalEntry) (after : Cell) → slice_get world.cells place ≡ Some cell → slice_get (told_on place cell after told world).1.cells place ≡ Some (after, cell.1)
    after_at journal log world place cell told after at = ap (λ (l : List (Cell × ℕ)). slice_get l place) (told_cells place after told (with_cell place (after, cell.1) world)) ∙ set_at world.cells place cell (after, cell.1) place at ∙ ap (λ (b : Bool). cond b (Some (after, cell.1)) (slice_get world.cells place)) (number_same place)
