-- Where a host reads a frame on the socket that a link of two nodes is up on, the other node came up there.
use Rattle.std.proofs.Common.{◌≡◌, ℕ, Bool, true, false, cond, ◌&&◌, ◌||◌, List, ◌∷◌, ◌++◌, refl, sym, ap, ◌∙◌, subst}
use Rattle.std.proofs.lemmas.Slice.Eq.{bytes_eq-Decides}
use Rattle.std.specs.Option.{option_map}
use Rattle.std.specs.Prelude.{find, is_some, slice_get, Option, Some, None}
use Rattle.std.specs.Str.{bytes_eq}
use Rattle.ch_wire.specs.declared.frame.Frame.{Frame}
use Rattle.ch_reader.specs.declared.item.Expected.{Expected}
use Rattle.ch_reader.specs.declared.item.Expected.TheVariants as expected
use Rattle.ch_reader.specs.declared.item.Front.TheVariants.{Whole}
use Rattle.ch_reader.specs.declared.item.Item.TheVariants as items
use Rattle.ch_link.specs.declared.LinkState.TheVariants.{Up}
use Rattle.ch_model.specs.declared.entry.Entry.{Entry}
use Rattle.ch_model.specs.declared.entry.Entry.TheVariants as entries
use Rattle.ch_model.specs.declared.line.Line.{Line}
use Rattle.ch_model.specs.declared.name.End.{End}
use Rattle.ch_model.specs.declared.name.End.TheVariants.{O, T}
use Rattle.ch_model.specs.declared.name.ProcName.{ProcName}
use Rattle.ch_model.specs.declared.name.SockName.{SockName}
use Rattle.ch_model.specs.declared.name.TargetName.{TargetName}
use Rattle.ch_model.specs.Delivery.{hears_from, gets_over_link}
use Rattle.ch_model.specs.Host.{front_of, is_ready_front, is_ready, first_ready}
use Rattle.ch_model.specs.HostState.{Socket}
use Rattle.ch_model.specs.HostSteps.{is_socket}
use Rattle.ch_model.specs.Links.{has_risen, is_closed}
use Rattle.ch_model.specs.Same.{owner, across, is_between, node_of}
use Rattle.ch_model.specs.Stages.{Stage, Open, is_open}
use Rattle.ch_model.specs.WorldSockets.{end_of}
use Rattle.ch_model.specs.WorldState.{Cell, WorldSocket, World}
use Rattle.ch_race.specs.Pair.{Side, Lesser, Greater, other, Sock, Pair, dead}
use Rattle.ch_race.proofs.Runs.{invariant_reached}
use Rattle.ch_laws_items.proofs.Next.{served}
use Rattle.ch_laws_log.proofs.HostTold.{number_found}
use Rattle.ch_laws_ends.proofs.Apart.{found_there}
use Rattle.ch_laws_ends.proofs.Happen.{its_stage}
use Rattle.ch_laws_ends.proofs.Places.{some_is}
use Rattle.ch_laws_links.specs.Naming.{stage_says, IsNaming, IsUpFor}
use Rattle.ch_laws_links.specs.Risings.{IsToldAs}
use Rattle.ch_laws_links.specs.Standing.{Standing, IsRisen, standing, standing_of}
use Rattle.ch_laws_links.proofs.Journals.{now_at, now_of}
use Rattle.ch_laws_links.proofs.Says as says
use Rattle.ch_laws_race.specs.Scene.{Party, Scene, host_in, hosts_of, host_of, link_of}
use Rattle.ch_laws_race.specs.Sound.{Acts, HasEnd, first_of, opener_by}
use Rattle.ch_laws_race.specs.Reading.{Reads}
use Rattle.ch_laws_race.specs.View.{kind, reader_of, record_of, reader_at, opener_of, sock_of, sock_seen, view}
use Rattle.ch_laws_race.proofs.Read as read
use Rattle.ch_laws_race.proofs.Readings.{IsUp, unread, other_twice}
use Rattle.ch_laws_calls.specs.Calls.{IsIn}
use Rattle.ch_laws_calls.specs.Scenes.{IsPairOf, scene_of, SceneFacts}
use Rattle.ch_laws_calls.proofs.ScenesHeld.{is_held}
use Rattle.ch_laws_calls.proofs.ScenesPlaces.{second_or}
use Rattle.ch_laws_raced.proofs.RaceItemsFronts.{IsFirst}
use Rattle.ch_laws_raced.proofs.RaceItemsReading as reading
use Rattle.ch_laws_live.proofs.Logs.{clash}
use Rattle.ch_laws_raced.specs.UnbrokenBreaks.{NoBreaks}
use Rattle.ch_laws_raced.specs.UnbrokenGiven.{Given}
use Rattle.ch_laws_raced.proofs.OnceAcross.{across_up, opener_stands, target_stands}
use Rattle.ch_laws_raced.proofs.OnceHears.{hears_on_socket, hears_still}

-- ---- an end that is up came up by the log

module _ (journal : List Line) (log : List Entry) (world : World) (g : Given journal log world) where
  -- the end came up, and isn't closed
  abbrev IsUpIn : SockName → End → Type 0
  IsUpIn s e = (has_risen log s e ≡ true) × (is_closed log s e ≡ false)

  never_first : (e : End) → first_of e ≡ expected.Frame → ⊥
  never_first O h = absurd cc
  never_first T h = absurd cc

  end_risen : (socket : WorldSocket) → IsIn socket world → (e : End) → (end_of e socket).stage ≡ Open → (reader_at (hosts_of world) (first_of e) (end_of e socket)).0 ≡ expected.Frame → IsUpIn socket.name e
  end_risen socket is e stands expects = by_cell (end_of e socket).cell refl (end_of e socket).number refl expects where
    by_record : (p m : ℕ) (cell : Cell × ℕ) → (end_of e socket).cell ≡ Some p → (end_of e socket).number ≡ Some m → slice_get world.cells p ≡ Some cell → (o : Option Socket) → find (is_socket m) cell.0.host.sockets ≡ o → (reader_of (first_of e) o).0 ≡ expected.Frame → IsUpIn socket.name e
    by_record p m cell c n at None found h = absurd (never_first e h)
    by_record p m cell c n at (Some known) found h = subst (λ (o : Option Standing). IsToldAs o (has_risen log socket.name e) (is_closed log socket.name e)) now_is
        (g.sound.links.tells.held p m (socket.name, e) (g.sound.ends.sure.ends.each socket.name socket e p m is (is_held p m (end_of e socket) c n))) where
          its : option_map (λ (w : Socket). w.stage) (find (is_socket m) cell.0.host.sockets) ≡ Some (end_of e socket).stage
          its = g.sound.ends.sure.ends.agrees.ends p cell at m ∙ its_stage journal log world socket e p m g.sound.ends.sure is c n

          stage : known.stage ≡ Open
          stage = some_is known.stage (end_of e socket).stage (sym (ap (option_map (λ (w : Socket). w.stage)) found) ∙ its) ∙ stands

          now_is : now_of world.cells p m ≡ Some IsRisen
          now_is = ap (λ (o : Option (Cell × ℕ)). now_at o m) at ∙ ap (option_map standing_of) found ∙ ap (λ (st : Stage). Some (standing st (stage_says st known.expected))) stage ∙ ap (λ (x : Expected). Some (standing Open (stage_says Open x))) h

    by_there : (p m : ℕ) → (end_of e socket).cell ≡ Some p → (end_of e socket).number ≡ Some m → (o : Option (Cell × ℕ)) → slice_get world.cells p ≡ o → (reader_of (first_of e) (find (is_socket m) (host_in o).sockets)).0 ≡ expected.Frame → IsUpIn socket.name e
    by_there p m c n None at h = absurd (never_first e h)
    by_there p m c n (Some cell) at h = by_record p m cell c n at (find (is_socket m) cell.0.host.sockets) refl h

    by_cell : (c : Option ℕ) → (end_of e socket).cell ≡ c → (n : Option ℕ) → (end_of e socket).number ≡ n → (reader_of (first_of e) (record_of (hosts_of world) c n)).0 ≡ expected.Frame → IsUpIn socket.name e
    by_cell None c n m h = absurd (never_first e h)
    by_cell (Some p) c None m h = absurd (never_first e h)
    by_cell (Some p) c (Some n) m h = by_there p n c m (slice_get world.cells p) refl h

  -- ---- a socket of two nodes

  module _ (party : Side → Party) (pair_is : IsPairOf journal party) where
    abbrev S : Scene
    S = scene_of party world

    abbrev V : Pair
    V = view (scene_of party world)

    facts : SceneFacts party world
    facts = g.shown party pair_is

    -- both ends are of the two nodes, by who opened the socket
    named : (y : Side) (e : End) (socket : WorldSocket) → is_between (party Lesser).name (party Greater).name socket.name ≡ true → opener_of party socket ≡ opener_by e y → (owner socket.name e ≡ (party y).name) × (owner socket.name (across e) ≡ (party (other y)).name) × (bytes_eq socket.name.from socket.name.to ≡ false)
    named y e socket between opener = by_from (bytes_eq socket.name.from (party Lesser).name) refl where
      Name : SockName
      Name = socket.name

      differ : (a b : List ℕ) → bytes_eq a b ≡ false → bytes_eq b a ≡ false
      differ a b h = by_test (bytes_eq b a) refl where
        by_test : (t : Bool) → bytes_eq b a ≡ t → t ≡ false
        by_test false k = refl
        by_test true k = absurd (clash (bytes_eq a b) ((bytes_eq-Decides a b).1 (sym ((bytes_eq-Decides b a).0 k))) h)

      by_side : (z : Side) → Name.from ≡ (party z).name → Name.to ≡ (party (other z)).name → opener_of party socket ≡ z → (f : End) → opener_by f y ≡ z → (owner Name f ≡ (party y).name) × (owner Name (across f) ≡ (party (other y)).name)
      by_side z from to is O h = (from ∙ ap (λ (w : Side). (party w).name) (sym h), to ∙ ap (λ (w : Side). (party (other w)).name) (sym h))
      by_side z from to is T h = (to ∙ ap (λ (w : Side). (party (other w)).name) (sym h) ∙ ap (λ (w : Side). (party w).name) (other_twice y), from ∙ ap (λ (w : Side). (party w).name) (sym h))

      apart : (z : Side) → Name.from ≡ (party z).name → Name.to ≡ (party (other z)).name → bytes_eq Name.from Name.to ≡ false
      apart Lesser from to = ap (λ (a : List ℕ). bytes_eq a Name.to) from ∙ ap (bytes_eq (party Lesser).name) to ∙ differ (party Greater).name (party Lesser).name facts.names_differ
      apart Greater from to = ap (λ (a : List ℕ). bytes_eq a Name.to) from ∙ ap (bytes_eq (party Greater).name) to ∙ facts.names_differ

      all_of : (z : Side) → Name.from ≡ (party z).name → Name.to ≡ (party (other z)).name → opener_of party socket ≡ z → (owner Name e ≡ (party y).name) × (owner Name (across e) ≡ (party (other y)).name) × (bytes_eq Name.from Name.to ≡ false)
      all_of z from to is = let two = by_side z from to is e (sym opener ∙ is) in (two.0, two.1, apart z from to)

      -- the second of two that can't be the first
      by_from : (b : Bool) → bytes_eq Name.from (party Lesser).name ≡ b → (owner Name e ≡ (party y).name) × (owner Name (across e) ≡ (party (other y)).name) × (bytes_eq Name.from Name.to ≡ false)
      by_from true h = all_of Lesser from to (ap (λ b. cond b Lesser Greater) h) where
        from : Name.from ≡ (party Lesser).name
        from = (bytes_eq-Decides Name.from (party Lesser).name).0 h

        not_greater : bytes_eq Name.from (party Greater).name ≡ false
        not_greater = ap (λ (a : List ℕ). bytes_eq a (party Greater).name) from ∙ differ (party Greater).name (party Lesser).name facts.names_differ

        to_is : (a b c d : Bool) → (a && b || c && d) ≡ true → c ≡ false → b ≡ true
        to_is true true c d e n = refl
        to_is true false false d e n = absurd cc
        to_is true false true d e n = absurd cc
        to_is false b false d e n = absurd cc
        to_is false b true d e n = absurd cc

        to : Name.to ≡ (party Greater).name
        to = (bytes_eq-Decides Name.to (party Greater).name).0 (to_is (bytes_eq Name.from (party Lesser).name) (bytes_eq Name.to (party Greater).name) (bytes_eq Name.from (party Greater).name) (bytes_eq Name.to (party Lesser).name) between not_greater)
      by_from false h = all_of Greater ((bytes_eq-Decides Name.from (party Greater).name).0 parts.0) ((bytes_eq-Decides Name.to (party Lesser).name).0 parts.1) (ap (λ b. cond b Lesser Greater) h) where
        second : (a b c d : Bool) → (a && b || c && d) ≡ true → a ≡ false → (c ≡ true) × (d ≡ true)
        second true b c d e n = absurd cc
        second false b true true e n = (refl, refl)
        second false b true false e n = absurd cc
        second false b false d e n = absurd cc

        parts : (bytes_eq Name.from (party Greater).name ≡ true) × (bytes_eq Name.to (party Lesser).name ≡ true)
        parts = second (bytes_eq Name.from (party Lesser).name) (bytes_eq Name.to (party Greater).name) (bytes_eq Name.from (party Greater).name) (bytes_eq Name.to (party Lesser).name) between h

    -- an end that the machine sees as up came up
    seen_risen : (i : ℕ) (socket : WorldSocket) → IsIn socket world → (e : End) → V.sock i ≡ sock_of party (hosts_of world) socket → IsUp e (V.sock i) → IsUpIn socket.name e
    seen_risen i socket is O seen up = let stands = opener_stands socket.o.stage (reader_at (hosts_of world) expected.Answer socket.o).0 (sym (ap (λ (k : Sock). k.o) seen) ∙ up) in end_risen socket is O stands.0 stands.1
    seen_risen i socket is T seen up = let stands = target_stands (is_some socket.t.cell) socket.t.stage (reader_at (hosts_of world) expected.Request socket.t).0 (sym (ap (λ (k : Sock). k.t) seen) ∙ up) in end_risen socket is T stands.0 stands.1

    -- an end that is ready, and expects a frame
    module _ (y : Side) (cell : Cell × ℕ) (at : slice_get world.cells (party y).place ≡ Some cell) (e : End) (i : ℕ) (socket : WorldSocket) (known : Socket) (has : HasEnd (scene_of party world) y e i known.number socket)
        (found : find (is_socket known.number) (host_of (scene_of party world) y).sockets ≡ Some known) (ready : is_ready known ≡ true) (expects : known.expected ≡ expected.Frame)
      where
        abbrev first : IsFirst known (end_of e socket).unread
        first = reading.first party world facts y cell e i socket known at has found ready

        reads_it : Reads S y e i socket known first.item
        reads_it = reading.reads party world facts y cell e i socket known at has found ready

        its_acts : Acts S y cell
        its_acts = facts.acts y cell at

        sock_is : V.sock i ≡ read.Seen S y cell e i socket known first.item its_acts reads_it
        sock_is = read.sock_at S y cell e i socket known first.item its_acts reads_it

        up_here : IsUp e (V.sock i)
        up_here = subst (IsUp e) (sym sock_is) (read.is_up S y cell e i socket known first.item its_acts reads_it expects)

        unread_here : unread e (V.sock i) ≡ kind first.item ∷ read.Rest S y cell e i socket known first.item its_acts reads_it
        unread_here = ap (unread e) sock_is ∙ read.first_is S y cell e i socket known first.item its_acts reads_it

        up_across : IsUp (across e) (V.sock i)
        up_across = across_up V (invariant_reached V (g.raced party pair_is)) refl e i (kind first.item) (read.Rest S y cell e i socket known first.item its_acts reads_it) up_here unread_here

        seen_as : V.sock i ≡ sock_of party (hosts_of world) socket
        seen_as = ap (sock_seen party (hosts_of world)) has.at ∙ ap (λ b. cond b (sock_of party (hosts_of world) socket) dead) has.between

        is_in : IsIn socket world
        is_in = found_there world.sockets i socket g.sound.ends.sure.ends.sorted.0.apart has.at

        hears_across : hears_from log (party y).name (party (other y)).name ≡ true
        hears_across =
            let names = named y e socket has.between has.opener in
            let own = seen_risen i socket is_in e seen_as up_here in
            hears_on_socket log socket.name e (party y).name (party (other y)).name names.0 names.1 names.2 own.0 own.1 (seen_risen i socket is_in (across e) seen_as up_across).0

    -- the link of this node with the other is up on the socket of a frame
    pub over_link : (y : Side) (n : ℕ) (probed : Bool) (known : Socket) (frame : Frame) → (link_of (scene_of party world) y).state ≡ Up n probed → find (is_socket n) (host_of (scene_of party world) y).sockets ≡ Some known → (front_of known).0 ≡ Whole (items.Frame frame)
        → hears_from log (party y).name (party (other y)).name ≡ true
    over_link y n probed known frame up found front = hears_across y there.0 there.1 end.2 end.0 end.1 known
        (subst (λ (m : ℕ). HasEnd (scene_of party world) y end.2 end.0 m end.1) (sym number) end.3) (ap (λ (m : ℕ). find (is_socket m) (host_of (scene_of party world) y).sockets) number ∙ found)
        (ap (λ (st : Stage). is_open st && is_ready_front (front_of known).0) stands.stands ∙ ap (λ f. is_ready_front f) front) stands.expects where
          there : (cell : Cell × ℕ) × (slice_get world.cells (party y).place ≡ Some cell)
          there = facts.there y

          naming : IsNaming (host_of (scene_of party world) y)
          naming = subst (λ (o : Option (Cell × ℕ)). IsNaming (host_in o)) (sym there.1) (g.sound.links.naming (party y).place there.0 there.1).naming

          one : (socket : Socket) × (find (is_socket n) (host_of (scene_of party world) y).sockets ≡ Some socket) × IsUpFor (party y).address.id (party (other y)).address socket
          one = says.risen (host_of (scene_of party world) y) (party y).address.id (party (other y)).address n probed naming up

          stands : IsUpFor (party y).address.id (party (other y)).address known
          stands = subst (IsUpFor (party y).address.id (party (other y)).address) (some_is one.0 known (sym one.1 ∙ found)) one.2

          number : known.number ≡ n
          number = number_found n (host_of (scene_of party world) y).sockets known found

          end : (i : ℕ) × (socket : WorldSocket) × (e : End) × HasEnd (scene_of party world) y e i n socket
          end = facts.between y n known found stands.user

    -- as the other node's host is to read it next, of what x has written
    pub over_link_next : (x : Side) (cell : Cell × ℕ) (n : ℕ) (probed : Bool) (known : Socket) (frame : Frame) → slice_get world.cells (party (other x)).place ≡ Some cell → (link_of (scene_of party world) (other x)).state ≡ Up n probed → first_ready cell.0.host.sockets ≡ Some known → known.number ≡ n → (front_of known).0 ≡ Whole (items.Frame frame)
        → hears_from log (party (other x)).name (party x).name ≡ true
    over_link_next x cell n probed known frame at up next number front = ap (λ (z : Side). hears_from log (party (other x)).name (party z).name) (sym (other_twice x)) ∙ over_link (other x) n probed known frame up found front where
      found : find (is_socket n) (host_of (scene_of party world) (other x)).sockets ≡ Some known
      found = ap (λ (o : Option (Cell × ℕ)). find (is_socket n) (host_in o).sockets) at ∙ ap (λ (m : ℕ). find (is_socket m) cell.0.host.sockets) (sym number)
          ∙ (served cell.0.host.sockets known (g.sound.links.naming (party (other x)).place cell at).naming.sockets next).found

    -- so what is got of x, while nothing breaks, is got over their link
    pub got_over_link : (x : Side) (cell : Cell × ℕ) (n : ℕ) (probed : Bool) (known : Socket) (frame : Frame) → slice_get world.cells (party (other x)).place ≡ Some cell → (link_of (scene_of party world) (other x)).state ≡ Up n probed → first_ready cell.0.host.sockets ≡ Some known → known.number ≡ n → (front_of known).0 ≡ Whole (items.Frame frame)
        → (more : List Entry) → NoBreaks more → (by : ProcName) (to : TargetName) (epoch index : ℕ) (receiver : Option ProcName) → by.node ≡ (party x).name → node_of to ≡ (party (other x)).name → gets_over_link (log ++ more) (entries.Got by to epoch index receiver) ≡ true
    got_over_link x cell n probed known frame at up next number front more unbroken by to epoch index receiver from there =
        second_or (bytes_eq by.node (node_of to)) (hears_from (log ++ more) (node_of to) by.node)
        (ap (λ (y : List ℕ). hears_from (log ++ more) y by.node) there ∙ ap (hears_from (log ++ more) (party (other x)).name) from
        ∙ hears_still log more (party (other x)).name (party x).name unbroken (over_link_next x cell n probed known frame at up next number front))
