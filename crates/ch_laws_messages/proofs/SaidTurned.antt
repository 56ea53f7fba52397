-- A turn in which a host puts things on its links: how the streams of each two nodes go on.
use Rattle.std.proofs.Common.{◌≡◌, ◌⊎◌, inl, inr, ℕ, Bool, true, false, cond, ◌&&◌, List, [], ◌∷◌, ◌++◌, refl, sym, ap, ◌∙◌, subst}
use Rattle.std.proofs.lemmas.Bool.{and_parts}
use Rattle.std.proofs.lemmas.List.{append-nil}
use Rattle.std.specs.Prelude.{find, slice_get, slice_set, Option, Some, None, ◌==◌}
use Rattle.ch_base.specs.declared.address.Address.{Address}
use Rattle.ch_link.specs.declared.LinkState.{LinkState}
use Rattle.ch_link.specs.declared.LinkState.TheVariants as states
use Rattle.ch_model.specs.declared.entry.Entry.{Entry}
use Rattle.ch_model.specs.declared.line.Line.{Line}
use Rattle.ch_model.specs.declared.local.LocalEntry.{LocalEntry}
use Rattle.ch_model.specs.declared.name.End.{End}
use Rattle.ch_model.specs.declared.name.SockName.{SockName}
use Rattle.ch_model.specs.AccountsItems.{frames_of}
use Rattle.ch_model.specs.HostState.{Link, HostState}
use Rattle.ch_model.specs.HostSteps.{link_with}
use Rattle.ch_model.specs.HostWrites.{is_up}
use Rattle.ch_model.specs.Same.{is_end_of}
use Rattle.ch_model.specs.Sockets.{writings}
use Rattle.ch_model.specs.WorldHappenings.{with_cell}
use Rattle.ch_model.specs.WorldSockets as ends
use Rattle.ch_model.specs.WorldSockets.{end_of, is_socket_named, find_end}
use Rattle.ch_model.specs.WorldState.{Cell, WorldSocket, World}
use Rattle.ch_race.specs.Pair.{Side, Lesser, Greater, other}
use Rattle.ch_wire.specs.declared.frame.Frame.{Frame}
use Rattle.ch_laws_bytes.proofs.Event.{set_at}
use Rattle.ch_laws_bytes.proofs.Lines.{own_of}
use Rattle.ch_laws_calls.specs.Scenes.{IsPairOf, scene_of, IsOthersLink, SceneFacts}
use Rattle.ch_laws_ends.proofs.Changes.{told_cells}
use Rattle.ch_laws_ends.proofs.Found.{EachFound}
use Rattle.ch_laws_ids.specs.Runs.{pieces_at, pieces_for, RunsThere, RunsFor, AllRun}
use Rattle.ch_laws_links.specs.Naming.{IsNaming}
use Rattle.ch_laws_links.proofs.Says.{risen}
use Rattle.ch_laws_log.proofs.Stored.{find_name}
use Rattle.ch_laws_log.specs.HostEnds.{steps_in}
use Rattle.ch_laws_plain.specs.Talks.{IsUpThere}
use Rattle.ch_laws_race.specs.Scene.{Party, host_in, hosts_of, link_of}
use Rattle.ch_laws_calls.specs.Turns.{told_on}
use Rattle.ch_laws_writes.specs.Dues.{Framing}
use Rattle.ch_laws_writes.specs.Orderly.{IsOrderly}
use Rattle.ch_laws_writes.proofs.Ordered.{is_key, at_key}
use Rattle.ch_laws_writes.proofs.Worlds.{number_is, number_same}
use Rattle.ch_laws_writes.proofs.Written.{Begun}
use Rattle.ch_laws_peers.specs.Words.{Placed, waiting_as}
use Rattle.ch_laws_peers.specs.Says.{ArePlaced, IsUpOn, Says}
use Rattle.ch_laws_peers.specs.Standing.{Standing}
use Rattle.ch_laws_messages.specs.SaidGoes.{bare, Flows, frames_to, waits_for, IsOne, Streams}
use Rattle.ch_laws_messages.specs.SaidPuts.{spelled, Utters, DialsOne}
use Rattle.ch_laws_messages.proofs.SaidLogs.{at_up, up_alone, each_one}
use Rattle.ch_laws_messages.proofs.SaidSides.{up_end, others_end, not_both}
use Rattle.ch_laws_messages.proofs.SaidStill.{up_waits}
use Rattle.ch_laws_messages.proofs.SaidTold.{Turns, turns}
use Rattle.ch_laws_messages.proofs.SaidWritten.{frames_behind, frames_still}

-- an end that has begun has written something
pub begun_some : (which : End) (pieces : List (List ℕ)) → Begun which pieces → (first : List ℕ) × (rest : List (List ℕ)) × (pieces ≡ first ∷ rest)
begun_some which [] b = absurd b
begun_some which (first ∷ rest) b = (first, rest, refl)

-- an end of this cell and number
pub numbers_are : (place n : ℕ) (c m : Option ℕ) → (ends.same_number c place && ends.same_number m n) ≡ true → (c ≡ Some place) × (m ≡ Some n)
numbers_are place n None m h = absurd cc
numbers_are place n (Some p) None h = absurd (no (p == place) h) where
  no : (b : Bool) → (b && false) ≡ true → ⊥
  no true h = absurd cc
  no false h = absurd cc
numbers_are place n (Some p) (Some k) h = let both = and_parts (p == place) (k == n) h in (ap (λ (q : ℕ). Some q) (number_is p place both.0), ap (λ (q : ℕ). Some q) (number_is k n both.1))

pub of_number : (place n : ℕ) (c m : Option ℕ) → c ≡ Some place → m ≡ Some n → (ends.same_number c place && ends.same_number m n) ≡ true
of_number place n c m e f = ap (λ (x : Option ℕ). ends.same_number x place && ends.same_number m n) e ∙ ap (λ (x : Option ℕ). (place == place) && ends.same_number x n) f ∙ ap (λ (b : Bool). b && (n == n)) (number_same place) ∙ number_same n

pub twice_is : (x : Side) → other (other x) ≡ x
twice_is Lesser = refl
twice_is Greater = refl

-- what is so of a side and of the other is so of each
pub either_side : (P : Side → Type 0) (x z : Side) → P x → P (other x) → P z
either_side P Lesser Lesser p q = p
either_side P Lesser Greater p q = q
either_side P Greater Lesser p q = q
either_side P Greater Greater p q = p

module _ (journal : List Line) (early log : List Entry) (world : World) (place : ℕ) (cell : Cell × ℕ) (told : List LocalEntry) (after : Cell) (new : ℕ → Address → List Placed) (st : Standing journal early world) (run : AllRun log world) (at : slice_get world.cells place ≡ Some cell)
    (u : Utters cell.0.host (steps_in told) after.host new) (d : DialsOne (steps_in told)) where
  abbrev pub done : List Entry × World
  done = told_on place cell after told world

  t : Turns place told done.0 world done.1
  t = turns journal early world place cell told after st.all.sound.ends.sure at d

  each : EachFound world.sockets
  each = st.all.sound.ends.sure.ends.each

  cells : done.1.cells ≡ slice_set world.cells place (after, cell.1)
  cells = told_cells place after told (with_cell place (after, cell.1) world)

  naming : IsNaming cell.0.host
  naming = (st.all.sound.links.naming place cell at).naming

  orderly : IsOrderly (own_of journal place) cell.0.host
  orderly = st.all.sound.ends.flowing.orderly place cell at

  -- the socket of a link that is up there is framed, and so its end has begun
  begun : (n end : ℕ) (peer : Address) (probed : Bool) → (link_with cell.0.host end peer).state ≡ states.Up n probed → (s : SockName) (socket : WorldSocket) (e : End) → find (is_socket_named s) world.sockets ≡ Some socket → ends.is_end_of place n (end_of e socket) ≡ true → Begun e (writings log s e)
  begun n end peer probed up s socket e found of =
      let both = numbers_are place n (end_of e socket).cell (end_of e socket).number of in
      let there : RunsThere (slice_get world.cells place) n e (writings log s e) = subst (λ (m : Option ℕ). RunsFor world.cells (Some place) m e (writings log s e)) both.1 (subst (λ (c : Option ℕ). RunsFor world.cells c (end_of e socket).number e (writings log s e)) both.0 (run.ends s socket e found)) in
      (subst (λ (o : Option (Cell × ℕ)). RunsThere o n e (writings log s e)) at there).due Framing ((orderly.links end peer).up n probed up)

  module _ (party : Side → Party) (pair : IsPairOf journal party) (x : Side) (says : Says journal log world party x) where
    facts : SceneFacts party world
    facts = st.each_pair.shown party pair

    abbrev pub end : ℕ
    end = (party x).address.id

    abbrev pub peer : Address
    peer = (party (other x)).address

    before : (s : SockName) (e : End) → is_end_of (party x).name (party (other x)).name s e ≡ true → (frames_of log s e ≡ []) ⊎ IsUpOn party world x s e
    before = each_one party x log world (record { one = says.one; down = says.down })

    -- the node is of the cell, and its link is up on this end
    record UpHere (s : SockName) (e : End) : Type 0 where
      here : place ≡ (party x).place
      n : ℕ
      probed : Bool
      up : (link_with cell.0.host end peer).state ≡ states.Up n probed
      found : find_end place n world.sockets ≡ Some (s, e)

    host_at : (z : Side) → place ≡ (party z).place → hosts_of world (party z).place ≡ cell.0.host
    host_at z here = ap (λ (p : ℕ). host_in (slice_get world.cells p)) (sym here) ∙ ap host_in at

    one_found : {a b : SockName × End} → ◌≡◌ {A = Option (SockName × End)} (Some a) (Some b) → a ≡ b
    one_found e = cc

    -- whose link that is
    whose : (s : SockName) (socket : WorldSocket) (e : End) (n : ℕ) → is_end_of (party x).name (party (other x)).name s e ≡ true → find (is_socket_named s) world.sockets ≡ Some socket → ends.is_end_of place n (end_of e socket) ≡ true → IsUpThere cell.0.host n → UpHere s e
    whose s socket e n theirs is of ut = by_own ((place == (party x).place) && is_key ut.end ut.peer end peer) refl where
      found : find_end place n world.sockets ≡ Some (s, e)
      found = each s socket e place n is of

      -- it is of the other
      of_other : place ≡ (party (other x)).place → is_key ut.end ut.peer (party (other x)).address.id (party (other (other x))).address ≡ true → ⊥
      of_other here key =
          let up : (link_with (hosts_of world (party (other x)).place) (party (other x)).address.id (party (other (other x))).address).state ≡ states.Up n ut.probed = ap (λ (h : HostState). (link_with h (party (other x)).address.id (party (other (other x))).address).state) (host_at (other x) here) ∙ sym (at_key (λ m q. (link_with cell.0.host ut.end ut.peer).state ≡ (link_with cell.0.host m q).state) ut.end ut.peer (party (other x)).address.id (party (other (other x))).address key refl) ∙ ut.up in
          let one = up_end party world (other x) n ut.probed facts each (subst IsNaming (sym (host_at (other x) here)) naming) up in
          let same : (one.s, one.e) ≡ (s, e) = one_found (sym one.found ∙ ap (λ (p : ℕ). find_end p n world.sockets) (sym here) ∙ found) in
          not_both party x s e facts.names_differ theirs (subst (λ (a : SockName × End). is_end_of (party (other x)).name (party x).name a.0 a.1 ≡ true) same (subst (λ (z : Side). is_end_of (party (other x)).name (party z).name one.s one.e ≡ true) (twice_is x) one.theirs))

      -- it is of neither
      of_none : ((place == (party x).place) && is_key ut.end ut.peer end peer) ≡ false → ((place == (party (other x)).place) && is_key ut.end ut.peer (party (other x)).address.id (party (other (other x))).address) ≡ false → ⊥
      of_none off away = let known = risen cell.0.host ut.end ut.peer n ut.probed naming ut.up in
          others_end party world place n cell known.0 ut.end ut.peer x s e socket facts at known.1 known.2.user (by_side x off away) is (find_name s world.sockets socket is) of theirs where
            not_key : (z : Side) → ((place == (party z).place) && is_key ut.end ut.peer (party z).address.id (party (other z)).address) ≡ false → (party z).place ≡ place → is_key ut.end ut.peer (party z).address.id (party (other z)).address ≡ false
            not_key z off here = sym (ap (λ (b : Bool). b && is_key ut.end ut.peer (party z).address.id (party (other z)).address) (ap (λ (p : ℕ). place == p) here ∙ number_same place)) ∙ off

            by_side : (x : Side) → ((place == (party x).place) && is_key ut.end ut.peer (party x).address.id (party (other x)).address) ≡ false → ((place == (party (other x)).place) && is_key ut.end ut.peer (party (other x)).address.id (party (other (other x))).address) ≡ false → IsOthersLink party place ut.end ut.peer
            by_side x off away z here = not_key z (either_side (λ z. ((place == (party z).place) && is_key ut.end ut.peer (party z).address.id (party (other z)).address) ≡ false) x z off away) here

      by_other : ((place == (party x).place) && is_key ut.end ut.peer end peer) ≡ false → (b : Bool) → ((place == (party (other x)).place) && is_key ut.end ut.peer (party (other x)).address.id (party (other (other x))).address) ≡ b → UpHere s e
      by_other off true h = let both = and_parts (place == (party (other x)).place) (is_key ut.end ut.peer (party (other x)).address.id (party (other (other x))).address) h in absurd (of_other (number_is place (party (other x)).place both.0) both.1)
      by_other off false h = absurd (of_none off h)

      by_own : (b : Bool) → ((place == (party x).place) && is_key ut.end ut.peer end peer) ≡ b → UpHere s e
      by_own true h = let both = and_parts (place == (party x).place) (is_key ut.end ut.peer end peer) h in record {
        here = number_is place (party x).place both.0;
        n = n;
        probed = ut.probed;
        up = sym (at_key (λ m q. (link_with cell.0.host ut.end ut.peer).state ≡ (link_with cell.0.host m q).state) ut.end ut.peer end peer both.1 refl) ∙ ut.up;
        found = found;
      }
      by_own false h = by_other h ((place == (party (other x)).place) && is_key ut.end ut.peer (party (other x)).address.id (party (other (other x))).address) refl

    -- each end of the node stays as it was, or is the one that it is up on
    goes : (s : SockName) (e : End) → is_end_of (party x).name (party (other x)).name s e ≡ true → (frames_of (log ++ done.0) s e ≡ frames_of log s e) ⊎ UpHere s e
    goes s e theirs = by_socket (find (is_socket_named s) world.sockets) refl where
      by_pieces : (socket : WorldSocket) → find (is_socket_named s) world.sockets ≡ Some socket → (c m : Option ℕ) → (end_of e socket).cell ≡ c → (end_of e socket).number ≡ m → (writings done.0 s e ≡ []) ⊎ UpHere s e
      by_pieces socket is None m f g = inl (t.wrote s socket e is ∙ ap (λ (c : Option ℕ). pieces_for place (steps_in told) c (end_of e socket).number) f)
      by_pieces socket is (Some p) None f g = inl (t.wrote s socket e is ∙ ap (λ (c : Option ℕ). pieces_for place (steps_in told) c (end_of e socket).number) f ∙ ap (pieces_for place (steps_in told) (Some p)) g)
      by_pieces socket is (Some p) (Some n) f g = by_test (p == place) refl (u.where_up n) where
        wrote : writings done.0 s e ≡ cond (p == place) (pieces_at n (steps_in told)) []
        wrote = t.wrote s socket e is ∙ ap (λ (c : Option ℕ). pieces_for place (steps_in told) c (end_of e socket).number) f ∙ ap (pieces_for place (steps_in told) (Some p)) g

        by_test : (b : Bool) → (p == place) ≡ b → (pieces_at n (steps_in told) ≡ []) ⊎ IsUpThere cell.0.host n → (writings done.0 s e ≡ []) ⊎ UpHere s e
        by_test false h o = inl (wrote ∙ ap (λ (b : Bool). cond b (pieces_at n (steps_in told)) []) h)
        by_test true h (inl none) = inl (wrote ∙ ap (λ (b : Bool). cond b (pieces_at n (steps_in told)) []) h ∙ none)
        by_test true h (inr ut) = inr (whose s socket e n theirs is (of_number place n (end_of e socket).cell (end_of e socket).number (f ∙ ap (λ (q : ℕ). Some q) (number_is p place h)) g) ut)

      as_frames : (writings done.0 s e ≡ []) ⊎ UpHere s e → (frames_of (log ++ done.0) s e ≡ frames_of log s e) ⊎ UpHere s e
      as_frames (inl none) = inl (frames_still log done.0 s e none)
      as_frames (inr h) = inr h

      by_socket : (o : Option WorldSocket) → find (is_socket_named s) world.sockets ≡ o → (frames_of (log ++ done.0) s e ≡ frames_of log s e) ⊎ UpHere s e
      by_socket None is = inl (frames_still log done.0 s e (t.silent s e is))
      by_socket (Some socket) is = as_frames (by_pieces socket is (end_of e socket).cell (end_of e socket).number refl refl)

    naming_of : (z : Side) → IsNaming (hosts_of world (party z).place)
    naming_of z = let there = facts.there z in subst (λ (o : Option (Cell × ℕ)). IsNaming (host_in o)) (sym there.1) (st.all.sound.links.naming (party z).place there.0 there.1).naming

    -- ---- a node of another cell

    module _ (away : (place == (party x).place) ≡ false) where
      pub link_away : link_of (scene_of party done.1) x ≡ link_of (scene_of party world) x
      link_away = ap (λ (o : Option (Cell × ℕ)). link_with (host_in o) end peer) (ap (λ (l : List (Cell × ℕ)). slice_get l (party x).place) cells ∙ set_at world.cells place cell (after, cell.1) (party x).place at ∙ ap (λ (b : Bool). cond b (Some (after, cell.1)) (slice_get world.cells (party x).place)) away)

      elsewhere : (s : SockName) (e : End) → is_end_of (party x).name (party (other x)).name s e ≡ true → frames_of (log ++ done.0) s e ≡ frames_of log s e
      elsewhere s e theirs = by_goes (goes s e theirs) where
        by_goes : (frames_of (log ++ done.0) s e ≡ frames_of log s e) ⊎ UpHere s e → frames_of (log ++ done.0) s e ≡ frames_of log s e
        by_goes (inl same) = same
        by_goes (inr h) = let no : true ≡ false = sym (ap (λ (p : ℕ). place == p) (sym h.here) ∙ number_same place) ∙ away in absurd cc

      up_still : (s : SockName) (e : End) → IsUpOn party world x s e → IsUpOn party done.1 x s e
      up_still s e v = record { number = v.number; probed = v.probed; up = ap (λ (l : Link). l.state) link_away ∙ v.up; found = t.found (party x).place v.number (s, e) v.found }

      now : (s : SockName) (e : End) → is_end_of (party x).name (party (other x)).name s e ≡ true → (frames_of (log ++ done.0) s e ≡ []) ⊎ IsUpOn party done.1 x s e
      now s e theirs = by_before (before s e theirs) where
        by_before : (frames_of log s e ≡ []) ⊎ IsUpOn party world x s e → (frames_of (log ++ done.0) s e ≡ []) ⊎ IsUpOn party done.1 x s e
        by_before (inl none) = inl (elsewhere s e theirs ∙ none)
        by_before (inr v) = inr (up_still s e v)

      one_now : IsOne party x (log ++ done.0) done.1
      one_now = up_alone party x (log ++ done.0) done.1 now

      pub streams_away : Streams party x log world (log ++ done.0) done.1 []
      streams_away = record { placed = tt; flows = by_state (link_of (scene_of party world) x).state refl; is_one = one_now } where
        waits_same : waits_for party done.1 x ≡ waits_for party world x
        waits_same = ap (λ (l : Link). l.waits) link_away

        down : is_up (link_of (scene_of party world) x).state ≡ false → Flows (frames_to party x log) (waits_for party world x) (frames_to party x (log ++ done.0)) (waits_for party done.1 x) []
        down off = inr (inl (says.down off, one_now.down (ap (λ (l : Link). is_up l.state) link_away ∙ off), ap waiting_as waits_same ∙ sym (append-nil (waiting_as (waits_for party world x)))))

        up : (n : ℕ) (probed : Bool) → (link_of (scene_of party world) x).state ≡ states.Up n probed → Flows (frames_to party x log) (waits_for party world x) (frames_to party x (log ++ done.0)) (waits_for party done.1 x) []
        up n probed e =
            let one = up_end party world x n probed facts each (naming_of x) e in
            let v : IsUpOn party world x one.s one.e = record { number = n; probed = probed; up = e; found = one.found } in
            let none = up_waits journal early world party x pair st (ap is_up e) in
            inl (none, waits_same ∙ none, at_up party x (log ++ done.0) done.1 now one.s one.e one.theirs (up_still one.s one.e v) ∙ elsewhere one.s one.e one.theirs ∙ sym (at_up party x log world before one.s one.e one.theirs v) ∙ sym (append-nil (frames_to party x log)))

        by_state : (state : LinkState) → (link_of (scene_of party world) x).state ≡ state → Flows (frames_to party x log) (waits_for party world x) (frames_to party x (log ++ done.0)) (waits_for party done.1 x) []
        by_state (states.Up n probed) e = up n probed e
        by_state (states.Dialing sock) e = down (ap is_up e)
        by_state states.AwaitOther e = down (ap is_up e)
        by_state states.Idle e = down (ap is_up e)

    -- ---- a node of the cell

    module _ (here : place ≡ (party x).place) where
      link_was : link_of (scene_of party world) x ≡ link_with cell.0.host end peer
      link_was = ap (λ (h : HostState). link_with h end peer) (host_at x here)

      pub link_here : link_of (scene_of party done.1) x ≡ link_with after.host end peer
      link_here = ap (λ (o : Option (Cell × ℕ)). link_with (host_in o) end peer) (ap (λ (l : List (Cell × ℕ)). slice_get l (party x).place) cells ∙ set_at world.cells place cell (after, cell.1) (party x).place at ∙ ap (λ (b : Bool). cond b (Some (after, cell.1)) (slice_get world.cells (party x).place)) (ap (λ (p : ℕ). place == p) (sym here) ∙ number_same place))

      still_up : (n : ℕ) (probed : Bool) → (link_with cell.0.host end peer).state ≡ states.Up n probed → (s : SockName) (e : End) → find_end place n world.sockets ≡ Some (s, e) → IsUpOn party done.1 x s e
      still_up n probed e s f found = let after_up = (u.up end peer n probed e).0 in record { number = n; probed = after_up.0; up = ap (λ (l : Link). l.state) link_here ∙ after_up.1; found = t.found (party x).place n (s, f) (ap (λ (p : ℕ). find_end p n world.sockets) (sym here) ∙ found) }

      now_here : (s : SockName) (e : End) → is_end_of (party x).name (party (other x)).name s e ≡ true → (frames_of (log ++ done.0) s e ≡ []) ⊎ IsUpOn party done.1 x s e
      now_here s e theirs = by_both (goes s e theirs) (before s e theirs) where
        by_both : (frames_of (log ++ done.0) s e ≡ frames_of log s e) ⊎ UpHere s e → (frames_of log s e ≡ []) ⊎ IsUpOn party world x s e → (frames_of (log ++ done.0) s e ≡ []) ⊎ IsUpOn party done.1 x s e
        by_both (inr h) o = inr (still_up h.n h.probed h.up s e h.found)
        by_both (inl same) (inl none) = inl (same ∙ none)
        by_both (inl same) (inr v) = inr (still_up v.number v.probed (sym (ap (λ (l : Link). l.state) link_was) ∙ v.up) s e (ap (λ (p : ℕ). find_end p v.number world.sockets) here ∙ v.found))

      one_here : IsOne party x (log ++ done.0) done.1
      one_here = up_alone party x (log ++ done.0) done.1 now_here

      pub streams_here : ArePlaced (new end peer) → Streams party x log world (log ++ done.0) done.1 (new end peer)
      streams_here placed = record { placed = placed; flows = by_state (link_with cell.0.host end peer).state refl; is_one = one_here } where
        waits_were : waits_for party world x ≡ (link_with cell.0.host end peer).waits
        waits_were = ap (λ (l : Link). l.waits) link_was

        waits_now : waits_for party done.1 x ≡ (link_with after.host end peer).waits
        waits_now = ap (λ (l : Link). l.waits) link_here

        down : is_up (link_with cell.0.host end peer).state ≡ false → Flows (frames_to party x log) (waits_for party world x) (frames_to party x (log ++ done.0)) (waits_for party done.1 x) (new end peer)
        down off = let after_down = u.down end peer off in inr (inl (
          says.down (ap (λ (l : Link). is_up l.state) link_was ∙ off),
          one_here.down (ap (λ (l : Link). is_up l.state) link_here ∙ after_down.0),
          ap waiting_as waits_now ∙ after_down.1 ∙ ap (λ (w : List Placed). w ++ new end peer) (sym (ap waiting_as waits_were)),
        ))

        up : (n : ℕ) (probed : Bool) → (link_with cell.0.host end peer).state ≡ states.Up n probed → Flows (frames_to party x log) (waits_for party world x) (frames_to party x (log ++ done.0)) (waits_for party done.1 x) (new end peer)
        up n probed e =
            let was_up : (link_of (scene_of party world) x).state ≡ states.Up n probed = ap (λ (l : Link). l.state) link_was ∙ e in
            let one = up_end party world x n probed facts each (naming_of x) was_up in
            let found : find_end place n world.sockets ≡ Some (one.s, one.e) = ap (λ (p : ℕ). find_end p n world.sockets) here ∙ one.found in
            let of : ends.is_end_of place n (end_of one.e one.socket) ≡ true = ap (λ (p : ℕ). ends.is_end_of p n (end_of one.e one.socket)) here ∙ one.end in
            let v : IsUpOn party world x one.s one.e = record { number = n; probed = probed; up = was_up; found = one.found } in
            let some = begun_some one.e (writings log one.s one.e) (begun n end peer probed e one.s one.socket one.e one.is of) in
            let both = numbers_are place n (end_of one.e one.socket).cell (end_of one.e one.socket).number of in
            let wrote : writings done.0 one.s one.e ≡ spelled (new end peer) = t.wrote one.s one.socket one.e one.is ∙ ap (λ (c : Option ℕ). pieces_for place (steps_in told) c (end_of one.e one.socket).number) both.0 ∙ ap (pieces_for place (steps_in told) (Some place)) both.1
            ∙ ap (λ (b : Bool). cond b (pieces_at n (steps_in told)) []) (number_same place) ∙ (u.up end peer n probed e).2 in
            let none = up_waits journal early world party x pair st (ap is_up was_up) in
            inl (
              none,
              waits_now ∙ (u.up end peer n probed e).1 ∙ sym waits_were ∙ none,
              at_up party x (log ++ done.0) done.1 now_here one.s one.e one.theirs (still_up n probed e one.s one.e found) ∙ frames_behind log done.0 one.s one.e some.0 some.1 (new end peer) some.2 wrote (u.may end peer) ∙ ap (λ (l : List Frame). l ++ bare (new end peer)) (sym (at_up party x log world before one.s one.e one.theirs v)),
            )

        by_state : (state : LinkState) → (link_with cell.0.host end peer).state ≡ state → Flows (frames_to party x log) (waits_for party world x) (frames_to party x (log ++ done.0)) (waits_for party done.1 x) (new end peer)
        by_state (states.Up n probed) e = up n probed e
        by_state (states.Dialing sock) e = down (ap is_up e)
        by_state states.AwaitOther e = down (ap is_up e)
        by_state states.Idle e = down (ap is_up e)
