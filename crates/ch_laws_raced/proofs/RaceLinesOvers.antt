-- The end of input that is handed to an end, as a move of two nodes.
use Rattle.std.specs.Prelude.{◌≡◌, ◌⊎◌, ◌==◌, ℕ, zero, suc, nat_eq, nat_lt, Bool, true, false, cond, ◌&&◌, ◌||◌, List, [], ◌∷◌, ◌++◌, length, drop, find, slice_get, Option, Some, None}
use Rattle.std.proofs.Common.{inl, inr, refl, ap, sym, ◌∙◌, subst}
use Rattle.std.proofs.lemmas.Bool.{and_parts, eqb-true}
use Rattle.std.proofs.lemmas.List.{append-nil}
use Rattle.ch_base.specs.declared.address.Address.{Address}
use Rattle.ch_watch.specs.Same.{same_node}
use Rattle.ch_link.specs.Sockets.{names}
use Rattle.ch_link.specs.declared.LinkState.{LinkState}
use Rattle.ch_link.specs.declared.LinkState.TheVariants.{Idle, Dialing, AwaitOther, Up}
use Rattle.ch_reader.specs.declared.item.Expected.{Expected}
use Rattle.ch_reader.specs.declared.item.Expected.TheVariants as expected
use Rattle.ch_reader.specs.declared.item.Front.{Front}
use Rattle.ch_reader.specs.declared.item.Front.TheVariants.{Unfinished, Whole, Refused}
use Rattle.ch_reader.specs.declared.item.Item.{Item}
use Rattle.ch_reader.specs.Reading.{reading}
use Rattle.ch_model.specs.declared.entry.Entry.{Entry}
use Rattle.ch_model.specs.declared.line.Line.{Line}
use Rattle.ch_model.specs.declared.name.End.{End}
use Rattle.ch_model.specs.declared.name.End.TheVariants.{O, T}
use Rattle.ch_model.specs.declared.step.SocketEvent.TheVariants as sockets
use Rattle.ch_model.specs.declared.step.Step.{Step}
use Rattle.ch_model.specs.Host.{front_of, is_ready_front, is_ready, lower, first_ready, host_on}
use Rattle.ch_model.specs.HostItems.{gone_from}
use Rattle.ch_model.specs.HostState.{Link, Socket, HostState}
use Rattle.ch_model.specs.HostSteps.{Stepped, still, is_socket, is_link, link_with}
use Rattle.ch_model.specs.HostWrites.{leaves}
use Rattle.ch_model.specs.Same.{is_between}
use Rattle.ch_model.specs.Stages.{Stage, Pending, Open, Ended, is_open, is_ended}
use Rattle.ch_model.specs.WorldLines.{can_feed, is_at_work}
use Rattle.ch_model.specs.WorldSockets as ends
use Rattle.ch_model.specs.WorldSockets.{end_of, is_of_host, has_input, is_end_of, same_number, is_socket_named}
use Rattle.ch_model.specs.WorldState.{Cell, WorldEnd, WorldSocket, World}
use Rattle.ch_race.specs.Pair.{Side, Lesser, Greater, other}
use Rattle.ch_laws_bytes.proofs.Lines.{own_of}
use Rattle.ch_laws_writes.specs.Orderly.{IsOrderly, user_of}
use Rattle.ch_laws_race.specs.Ends.{InputEnds, end_at, input_ends}
use Rattle.ch_laws_race.specs.Others.{IsOthers, KeepsPair, IsFree}
use Rattle.ch_laws_race.specs.Reading.{IsSeen, IsUser}
use Rattle.ch_laws_race.specs.Scene.{Party, Scene, host_in, host_of, link_of}
use Rattle.ch_laws_race.specs.Sound.{HasEnd, opener_by}
use Rattle.ch_laws_race.specs.View.{opener_of, kind, items_in, whole_items, place_of, with_places}
use Rattle.ch_laws_race.proofs.Keys.{node_is, link_named}
use Rattle.ch_laws_race.proofs.OtherReads.{Stays, leaves_stays, gone_stays, socket_numbered}
use Rattle.ch_laws_race.proofs.Over.{ends_up, ends_dialing, ends_unnamed}
use Rattle.ch_laws_race.proofs.Sockets as found
use Rattle.ch_laws_race.proofs.Sockets.{by_test, given, same_place}
use Rattle.ch_laws_race.proofs.Views.{self_number}
use Rattle.ch_laws_calls.specs.Calls.{IsIn, IsHeldBy, IsCalled, AllRead, done_at}
use Rattle.ch_laws_calls.specs.Scenes.{SceneFacts, IsOfSide, IsOthersLink, IsMoved, scene_of}
use Rattle.ch_laws_calls.specs.Sound.{Sound}
use Rattle.ch_laws_raced.proofs.RaceLinesBeside.{beside_self, stays_moved, keeps_own}
use Rattle.ch_laws_raced.proofs.RaceLinesEnds.{place_found, held_is, moved_here, own_end, free_end}
use Rattle.ch_laws_raced.proofs.RaceLinesFeeds.{open_is}

clash : {A : Type 0} → true ≡ false → A
clash h = absurd (no h) where
  no : true ≡ false → ⊥
  no h = cc

-- ---- nothing is whole

-- where nothing is ready, a record isn't
unready : (p : Socket → Bool) (all : List Socket) (known : Socket) → first_ready all ≡ None → find p all ≡ Some known → is_ready known ≡ false
unready p [] known none h = absurd cc
unready p (first ∷ rest) known none h = by_ready (is_ready first) refl none (p first) h (unready p rest known) where
  by_own : (b : Bool) → is_ready first ≡ false → first_ready rest ≡ None → cond b (Some first) (find p rest) ≡ Some known → (first_ready rest ≡ None → find p rest ≡ Some known → is_ready known ≡ false) → is_ready known ≡ false
  by_own true off none h more = ap is_ready (sym (given first known h)) ∙ off
  by_own false off none h more = more none h

  by_ready : (r : Bool) → is_ready first ≡ r → cond r (Some (lower first (first_ready rest))) (first_ready rest) ≡ None → (b : Bool) → cond b (Some first) (find p rest) ≡ Some known → (first_ready rest ≡ None → find p rest ≡ Some known → is_ready known ≡ false) → is_ready known ≡ false
  by_ready true is none b h more = absurd cc
  by_ready false is none b h more = by_own b is none h more

-- what stands at a front that isn't ready is nothing
none_at : {A : Type 0} (front : Front) (f : Item → List A) → is_ready_front front ≡ false → (elim front as (λ f. List A) [
  | Whole item ↦ f item
  | _ ↦ []
]) ≡ []
none_at Unfinished f off = refl
none_at (Whole item) f off = absurd cc
none_at (Refused error) f off = absurd cc

-- bytes at whose front nothing is ready have no whole item
nothing_whole : (e : Expected) (bytes : List ℕ) → is_ready_front (reading e bytes).0 ≡ false → whole_items e bytes ≡ []
nothing_whole e bytes off = by_length (length bytes) where
  by_length : (n : ℕ) → items_in n e bytes ≡ []
  by_length zero = refl
  by_length (suc more) = none_at (reading e bytes).0 (λ (item : Item). kind item ∷ items_in more expected.Frame (drop (reading e bytes).1 bytes)) off

-- ---- at a socket of others

ended_is : (stage : Stage) → is_ended stage ≡ true → stage ≡ Ended
ended_is Pending h = absurd cc
ended_is Open h = absurd cc
ended_is Ended h = refl

-- A host whose end is over leaves it; or its link fails, which is none of the two.
over_stays : (scene : Scene) (place n : ℕ) (host : HostState) → KeepsPair scene place host → IsFree scene place n
    → ((known : Socket) (end : ℕ) (peer : Address) → find (is_socket n) host.sockets ≡ Some known → known.user ≡ Some (end, peer) → ((z : Side) → (scene.party z).place ≡ place → is_link (scene.party z).address.id (scene.party (other z)).address (link_with host end peer) ≡ false) × ((m : ℕ) → names (link_with host end peer).state m ≡ true → IsFree scene place m))
    → Stays scene place (host_on host (sockets.Ended n))
unfolding host_on
over_stays scene place n host keeps free away = by_socket (find (is_socket n) host.sockets) refl where
  gone : Socket → Option (ℕ × Address) → Stepped
  gone known o = elim o as (λ o. Stepped) [
    | None ↦ leaves known.number host
    | Some user ↦ gone_from known.number (link_with host user.0 user.1) host
  ]

  by_user : (known : Socket) → find (is_socket n) host.sockets ≡ Some known → IsFree scene place known.number → (o : Option (ℕ × Address)) → known.user ≡ o → Stays scene place (gone known o)
  by_user known is mine None user = leaves_stays scene place known.number host mine keeps
  by_user known is mine (Some user) used = let off = away known user.0 user.1 is used in gone_stays scene place (link_with host user.0 user.1) host off.0 keeps known mine off.1

  by_stage : (known : Socket) → find (is_socket n) host.sockets ≡ Some known → (b : Bool) → Stays scene place (cond b (gone known known.user) (still host))
  by_stage known is true = by_user known is (subst (λ (m : ℕ). IsFree scene place m) (sym (socket_numbered n known host.sockets is)) free) known.user refl
  by_stage known is false = (tt, keeps)

  by_socket : (o : Option Socket) → find (is_socket n) host.sockets ≡ o → Stays scene place (elim o as (λ o. Stepped) [
    | None ↦ still host
    | Some socket ↦ cond (is_open socket.stage) (gone socket socket.user) (still host)
  ])
  by_socket None is = (tt, keeps)
  by_socket (Some known) is = by_stage known is (is_open known.stage)

module _ (journal : List Line) (log : List Entry) (world : World) (sound : Sound journal log world) (party : Side → Party) (facts : SceneFacts party world) (socket : WorldSocket) (e : End) (place n : ℕ) (cell : Cell × ℕ) (steps : List Step) (host : HostState)
    (is : IsIn socket world) (can : can_feed e socket ≡ true) (none : (end_of e socket).unread ≡ []) (held : IsHeldBy place n (end_of e socket)) (called : IsCalled world place cell (sockets.Ended n) steps host) (read : AllRead world) where
  there : (i : ℕ) × (slice_get world.sockets i ≡ Some socket)
  there = place_found (is_socket_named socket.name) world.sockets socket is

  tests : (is_at_work e socket ≡ true) × (has_input e socket ≡ true)
  tests = and_parts (is_at_work e socket) (has_input e socket) can

  standing : (end_of e socket).stage ≡ Open
  standing = open_is (end_of e socket).stage (and_parts (is_open (end_of e socket).stage) (is_of_host (end_of e socket)) tests.0).0

  orderly : IsOrderly (own_of journal place) cell.0.host
  orderly = sound.ends.flowing.orderly place cell called.at

  -- the socket that a link names has that link as its user
  named_user : (end : ℕ) (peer : Address) (m : ℕ) → names (link_with cell.0.host end peer).state m ≡ true → (known : Socket) × (find (is_socket m) cell.0.host.sockets ≡ Some known) × (known.user ≡ Some (end, peer))
  named_user end peer m named = by_socket (find (is_socket m) cell.0.host.sockets) refl ((orderly.links end peer).named m named) where
    by_socket : (o : Option Socket) → find (is_socket m) cell.0.host.sockets ≡ o → user_of o ≡ Some (end, peer) → (known : Socket) × (find (is_socket m) cell.0.host.sockets ≡ Some known) × (known.user ≡ Some (end, peer))
    by_socket None q user = absurd cc
    by_socket (Some known) q user = (known, q, user)

  -- ---- of others

  overs_others : IsOthers party socket.name → IsMoved party world (done_at place cell steps host world).1
  overs_others off = stays_moved party world world facts (beside_self party world) place cell called.at (host_on cell.0.host (sockets.Ended n)) (steps, host)
      (over_stays (scene_of party world) place n cell.0.host (keeps_own party world place cell called.at) free away) called.does where
        free : IsFree (scene_of party world) place n
        free = free_end party world facts there.0 socket there.1 e place n (held_is place n (end_of e socket) held) off

        others : (known : Socket) (end : ℕ) (peer : Address) → find (is_socket n) cell.0.host.sockets ≡ Some known → known.user ≡ Some (end, peer) → IsOthersLink party place end peer
        others known end peer found used z at = by_test ((end == (party z).address.id) && same_node peer (party (other z)).address)
            (λ h. let parts = and_parts (end == (party z).address.id) (same_node peer (party (other z)).address) h in
            let its : known.user ≡ Some ((party z).address.id, (party (other z)).address) = used ∙ ap (λ (k : ℕ). Some (k, peer)) (eqb-true end (party z).address.id parts.0) ∙ ap (λ (a : Address). Some ((party z).address.id, a)) (node_is peer (party (other z)).address parts.1) in
            let mine = facts.between z n known (subst (λ (h : HostState). find (is_socket n) h.sockets ≡ Some known) (sym (ap host_in (subst (λ (p : ℕ). slice_get world.cells p ≡ Some cell) (sym at) called.at))) found) its in
            clash (sym (subst (λ (p : ℕ). is_end_of p n (end_of mine.2 mine.1) ≡ true) at mine.3.end) ∙ free mine.0 mine.1 mine.3.at mine.3.between mine.2))
            (λ h. h)

        away : (known : Socket) (end : ℕ) (peer : Address) → find (is_socket n) cell.0.host.sockets ≡ Some known → known.user ≡ Some (end, peer) → ((z : Side) → (party z).place ≡ place → is_link (party z).address.id (party (other z)).address (link_with cell.0.host end peer) ≡ false) × ((m : ℕ) → names (link_with cell.0.host end peer).state m ≡ true → IsFree (scene_of party world) place m)
        away known end peer found used = let key = link_named cell.0.host end peer in (
          (λ z at. ap (λ (k : ℕ). (k == (party z).address.id) && same_node (link_with cell.0.host end peer).peer (party (other z)).address) key.0 ∙ ap (λ (a : Address). (end == (party z).address.id) && same_node a (party (other z)).address) key.1 ∙ others known end peer found used z at),
          (λ m named. let other_one = named_user end peer m named in facts.others place m cell other_one.0 end peer called.at other_one.1 other_one.2 (others known end peer found used)),
        )

  -- ---- between the two

  module _ (between : is_between (party Lesser).name (party Greater).name socket.name ≡ true) where
    side : IsOfSide party e socket
    side = facts.sides there.0 socket there.1 between e

    abbrev X : Side
    X = side.side

    abbrev The : Scene
    The = scene_of party world

    here : place ≡ (party X).place
    here = one (sym held.cell ∙ side.cell) where
      one : Some place ≡ Some (party X).place → place ≡ (party X).place
      one h = cc

    at_side : slice_get world.cells (party X).place ≡ Some cell
    at_side = subst (λ (p : ℕ). slice_get world.cells p ≡ Some cell) here called.at

    its_host : host_of The X ≡ cell.0.host
    its_host = ap host_in at_side

    has : HasEnd The X e there.0 n socket
    has = own_end party world facts there.0 socket there.1 e side n between held.number

    kept : (known : Socket) × (find (is_socket n) (host_of The X).sockets ≡ Some known)
    kept = facts.kept X e there.0 n socket has

    abbrev Known : Socket
    Known = kept.0

    number : Known.number ≡ n
    number = socket_numbered n Known (host_of The X).sockets kept.1

    at_cell : find (is_socket n) cell.0.host.sockets ≡ Some Known
    at_cell = subst (λ (h : HostState). find (is_socket n) h.sockets ≡ Some Known) its_host kept.1

    has_known : HasEnd The X e there.0 Known.number socket
    has_known = subst (λ (m : ℕ). HasEnd The X e there.0 m socket) (sym number) has

    stands : Known.stage ≡ Open
    stands = facts.stands X e there.0 n socket Known has kept.1 ∙ standing

    unfinished : is_ready_front (front_of Known).0 ≡ false
    unfinished = sym (ap (λ (s : Stage). is_open s && is_ready_front (front_of Known).0) stands) ∙ unready (is_socket n) cell.0.host.sockets Known (read place cell called.at) at_cell

    the_input : InputEnds The X cell e there.0 socket Known
    the_input = record {
      acts = facts.acts X cell at_side;
      has = has_known;
      standing = standing;
      stands = stands;
      kept = subst (λ (m : ℕ). find (is_socket m) (host_of The X).sockets ≡ Some Known) (sym number) kept.1;
      empty = ap (λ (bytes : List ℕ). whole_items Known.expected (Known.since ++ bytes)) none ∙ ap (whole_items Known.expected) (append-nil Known.since) ∙ nothing_whole Known.expected Known.since unfinished;
      over = over (end_of e socket).is_cut refl (ap (λ (bytes : List ℕ). nat_lt 0 (length bytes) || ((end_of e socket).is_cut || is_ended (end_of (ends.other e) socket).stage)) (sym none) ∙ tests.1);
    } where
      over : (b : Bool) → (end_of e socket).is_cut ≡ b → (b || is_ended (end_of (ends.other e) socket).stage) ≡ true → ((end_of e socket).is_cut ≡ true) ⊎ ((end_of (ends.other e) socket).stage ≡ Ended)
      over true is h = inl is
      over false is h = inr (ended_is (end_of (ends.other e) socket).stage h)

    -- what the link of the two names has it as its user
    link_is : link_of The X ≡ link_with cell.0.host (party X).address.id (party (other X)).address
    link_is = ap (λ (h : HostState). link_with h (party X).address.id (party (other X)).address) its_host

    names_mine : (m : ℕ) → names (link_of The X).state m ≡ true → (known : Socket) × (find (is_socket m) cell.0.host.sockets ≡ Some known) × (known.user ≡ Some ((party X).address.id, (party (other X)).address))
    names_mine m named = named_user (party X).address.id (party (other X)).address m (ap (λ (l : Link). names l.state m) (sym link_is) ∙ named)

    user_named : names (link_of The X).state n ≡ true → IsUser The X Known
    user_named named = let mine = names_mine n named in ap (λ (k : Socket). k.user) (given Known mine.0 (sym at_cell ∙ mine.1)) ∙ mine.2

    -- no other socket that it names is at this place
    no_other : (m : ℕ) → names (link_of The X).state m ≡ true → place_of (party X).place world.sockets m ≡ there.0 → m ≡ n
    no_other m named same =
        let mine = names_mine m named in
        let its = facts.between X m mine.0 (subst (λ (h : HostState). find (is_socket m) h.sockets ≡ Some mine.0) (sym its_host) mine.1) mine.2 in
        let place_is : its.0 ≡ there.0 = sym (found.place_found world.sockets its.0 its.1 its.2 (party X).place m facts.apart its.3.at its.3.end) ∙ same in
        let socket_is : its.1 ≡ socket = given its.1 socket (sym its.3.at ∙ ap (slice_get world.sockets) place_is ∙ there.1) in
        let end_is : its.2 ≡ e = one_end its.2 e (sym its.3.opener ∙ ap (opener_of party) socket_is ∙ has.opener) in
        numbers m n (end_of e socket) (subst (λ (f : End). is_end_of (party X).place m (end_of f socket) ≡ true) end_is (subst (λ (w : WorldSocket). is_end_of (party X).place m (end_of its.2 w) ≡ true) socket_is its.3.end)) has.end where
          differ : (x : Side) → x ≡ other x → ⊥
          differ Lesser h = cc
          differ Greater h = cc

          one_end : (f g : End) → opener_by f X ≡ opener_by g X → f ≡ g
          one_end O O h = refl
          one_end T T h = refl
          one_end O T h = absurd (differ X h)
          one_end T O h = absurd (differ X (sym h))

          numbers : (a b : ℕ) (end : WorldEnd) → is_end_of (party X).place a end ≡ true → is_end_of (party X).place b end ≡ true → a ≡ b
          numbers a b end h k = by_number end.number (and_parts (same_number end.cell (party X).place) (same_number end.number a) h).1 (and_parts (same_number end.cell (party X).place) (same_number end.number b) k).1 where
            by_number : (o : Option ℕ) → same_number o a ≡ true → same_number o b ≡ true → a ≡ b
            by_number None h k = absurd cc
            by_number (Some c) h k = sym (eqb-true c a h) ∙ eqb-true c b k

    abbrev Hears : Type 0
    Hears = IsSeen The X cell (input_ends The X Known) (end_at e there.0 ∷ [])

    -- the link doesn't name it
    unnamed : (state : LinkState) → (link_of The X).state ≡ state → ((m : ℕ) → names state m ≡ true → m ≡ n → ⊥) → Hears
    unnamed state is_state off = ends_unnamed The X cell e there.0 socket Known the_input (facts.users X e there.0 n socket Known has kept.1)
        (ap (λ (s : LinkState). names s Known.number) is_state ∙ by_test (names state Known.number) (λ h. absurd (off Known.number h number)) (λ h. h))
        (ap (λ (s : LinkState). names (with_places (place_of (party X).place world.sockets) s) there.0) is_state ∙ unseen state is_state off) where
          unseen : (s : LinkState) → (link_of The X).state ≡ s → ((m : ℕ) → names s m ≡ true → m ≡ n → ⊥) → names (with_places (place_of (party X).place world.sockets) s) there.0 ≡ false
          unseen Idle is off = refl
          unseen AwaitOther is off = refl
          unseen (Dialing d) is off = by_test (nat_eq there.0 (place_of (party X).place world.sockets d))
              (λ h. absurd (off d (self_number d) (no_other d (ap (λ (s : LinkState). names s d) is ∙ self_number d) (same_place (place_of (party X).place world.sockets d) there.0 h)))) (λ h. h)
          unseen (Up u probed) is off = by_test (nat_eq there.0 (place_of (party X).place world.sockets u))
              (λ h. absurd (off u (self_number u) (no_other u (ap (λ (s : LinkState). names s u) is ∙ self_number u) (same_place (place_of (party X).place world.sockets u) there.0 h)))) (λ h. h)

    hears : (state : LinkState) → (link_of The X).state ≡ state → Hears
    hears Idle is_state = unnamed Idle is_state (λ m named same. no_name named) where
      no_name : false ≡ true → ⊥
      no_name h = cc
    hears AwaitOther is_state = unnamed AwaitOther is_state (λ m named same. no_name named) where
      no_name : false ≡ true → ⊥
      no_name h = cc
    hears (Dialing d) is_state = by_test (nat_eq n d)
        (λ h. ends_dialing The X cell e there.0 socket Known the_input (user_named (ap (λ (s : LinkState). names s n) is_state ∙ h)) (is_state ∙ ap (λ (k : ℕ). Dialing k) (same_place d n h ∙ sym number)))
        (λ h. unnamed (Dialing d) is_state (λ m named same. clash (sym (subst (λ (k : ℕ). nat_eq k d ≡ true) same named) ∙ h)))
    hears (Up u probed) is_state = by_test (nat_eq n u)
        (λ h. ends_up The X cell e there.0 socket Known the_input probed (user_named (ap (λ (s : LinkState). names s n) is_state ∙ h)) (is_state ∙ ap (λ (k : ℕ). Up k probed) (same_place u n h ∙ sym number)))
        (λ h. unnamed (Up u probed) is_state (λ m named same. clash (sym (subst (λ (k : ℕ). nat_eq k u ≡ true) same named) ∙ h)))

    overs_own : IsMoved party world (done_at place cell steps host world).1
    overs_own = subst (λ (p : ℕ). IsMoved party world (done_at p cell steps host world).1) (sym here)
        (moved_here party world X cell (input_ends The X Known) (end_at e there.0 ∷ []) (steps, host) (hears (link_of The X).state refl)
        (ap (λ (h : HostState). host_on h (sockets.Ended Known.number)) its_host ∙ ap (λ (m : ℕ). host_on cell.0.host (sockets.Ended m)) number ∙ called.does))

  -- the end of input
  pub overs_moved : IsMoved party world (done_at place cell steps host world).1
  overs_moved = by_test (is_between (party Lesser).name (party Greater).name socket.name) overs_own overs_others
