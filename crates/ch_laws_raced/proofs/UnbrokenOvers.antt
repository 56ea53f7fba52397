-- An end that is handed the end of its input is for no link: so nothing breaks.
use Rattle.std.specs.Prelude.{◌≡◌, ◌⊎◌, ℕ, zero, suc, nat_lt, Bool, true, false, cond, ◌&&◌, ◌||◌, List, [], ◌∷◌, ◌++◌, length, drop, find, slice_get, Some, None}
use Rattle.std.proofs.Common.{inl, inr, refl, ap, sym, ◌∙◌, subst}
use Rattle.std.proofs.lemmas.Bool.{and_parts}
use Rattle.std.proofs.lemmas.List.{append-nil}
use Rattle.ch_link.specs.Sockets.{names}
use Rattle.ch_link.specs.declared.LinkState.{LinkState}
use Rattle.ch_link.specs.declared.LinkState.TheVariants.{Dialing, Up}
use Rattle.ch_reader.specs.declared.item.Expected.{Expected}
use Rattle.ch_reader.specs.declared.item.Expected.TheVariants as expected
use Rattle.ch_reader.specs.declared.item.Front.{Front}
use Rattle.ch_reader.specs.declared.item.Front.TheVariants.{Unfinished, Whole, Refused}
use Rattle.ch_reader.specs.declared.item.Item.{Item}
use Rattle.ch_reader.specs.Reading.{reading}
use Rattle.ch_model.specs.declared.entry.Entry.{Entry}
use Rattle.ch_model.specs.declared.line.Line.{Line}
use Rattle.ch_model.specs.declared.name.End.{End}
use Rattle.ch_model.specs.declared.name.End.TheVariants.{O, T}
use Rattle.ch_model.specs.declared.step.SocketEvent.TheVariants as sockets
use Rattle.ch_model.specs.declared.step.Step.{Step}
use Rattle.ch_model.specs.Host.{front_of, is_ready_front, is_ready, lower, first_ready}
use Rattle.ch_model.specs.HostState.{Socket, HostState}
use Rattle.ch_model.specs.HostSteps.{is_socket}
use Rattle.ch_model.specs.Stages.{Stage, Pending, Open, Ended, is_open, is_ended}
use Rattle.ch_model.specs.World.{names_of}
use Rattle.ch_model.specs.WorldLines.{can_feed, is_at_work}
use Rattle.ch_model.specs.WorldSockets as ends
use Rattle.ch_model.specs.WorldSockets.{end_of, is_of_host, has_input}
use Rattle.ch_model.specs.WorldState.{Cell, WorldSocket, World}
use Rattle.ch_race.specs.Invariant.{Invariant}
use Rattle.ch_race.specs.Moves.{Allowed}
use Rattle.ch_race.specs.Pair.{Side, other, Sock, Pair}
use Rattle.ch_race.specs.Quiet.{Breaks}
use Rattle.ch_race.proofs.QuietMoves.{no_break}
use Rattle.ch_race.proofs.Runs.{invariant_reached}
use Rattle.ch_laws_many.proofs.Reached.{IsJournal}
use Rattle.ch_laws_bytes.specs.Streams.{AreAddresses}
use Rattle.ch_laws_links.specs.Naming.{IsNaming, IsDialedBy, IsUpFor}
use Rattle.ch_laws_links.proofs.Says as says
use Rattle.ch_laws_race.specs.Ends.{InputEnds, end_at}
use Rattle.ch_laws_race.specs.Reading.{IsUser}
use Rattle.ch_laws_race.specs.Scene.{Scene, host_in, host_of, link_of}
use Rattle.ch_laws_race.specs.Sound.{Acts, HasEnd, opener_by}
use Rattle.ch_laws_race.specs.View.{kind, items_in, whole_items, place_of, with_places, view}
use Rattle.ch_laws_race.proofs.One.{place_is, sock_is}
use Rattle.ch_laws_race.proofs.OtherReads.{socket_numbered}
use Rattle.ch_laws_race.proofs.Over.{ends_up, ends_dialing}
use Rattle.ch_laws_race.proofs.Readings.{other_twice}
use Rattle.ch_laws_race.proofs.Sockets.{given}
use Rattle.ch_laws_race.proofs.Views.{self_number}
use Rattle.ch_laws_calls.specs.Calls.{IsIn, IsHeldBy, IsCalled, AllRead}
use Rattle.ch_laws_calls.specs.Scenes.{scene_of, SceneFacts}
use Rattle.ch_laws_raced.proofs.RaceLinesEnds.{held_is}
use Rattle.ch_laws_raced.proofs.RaceLinesFeeds.{open_is}
use Rattle.ch_laws_raced.specs.UnbrokenBreaks.{calm}
use Rattle.ch_laws_raced.specs.UnbrokenGiven.{Given}
use Rattle.ch_laws_raced.proofs.UnbrokenFound.{IsTheirs, theirs}
use Rattle.ch_laws_raced.proofs.UnbrokenSteps.{calm_ended}

-- ---- nothing is whole

-- where nothing is ready, a record isn't
unready : (p : Socket → Bool) (all : List Socket) (known : Socket) → first_ready all ≡ None → find p all ≡ Some known → is_ready known ≡ false
unready p [] known none h = absurd cc
unready p (first ∷ rest) known none h = by_ready (is_ready first) refl none (p first) h (unready p rest known) where
  by_own : (b : Bool) → is_ready first ≡ false → first_ready rest ≡ None → cond b (Some first) (find p rest) ≡ Some known → (first_ready rest ≡ None → find p rest ≡ Some known → is_ready known ≡ false) → is_ready known ≡ false
  by_own true off none h more = ap is_ready (sym (given first known h)) ∙ off
  by_own false off none h more = more none h

  by_ready : (r : Bool) → is_ready first ≡ r → cond r (Some (lower first (first_ready rest))) (first_ready rest) ≡ None → (b : Bool) → cond b (Some first) (find p rest) ≡ Some known → (first_ready rest ≡ None → find p rest ≡ Some known → is_ready known ≡ false) → is_ready known ≡ false
  by_ready true is none b h more = absurd cc
  by_ready false is none b h more = by_own b is none h more

-- what stands at a front that isn't ready is nothing
none_at : {A : Type 0} (front : Front) (f : Item → List A) → is_ready_front front ≡ false → (elim front as (λ f. List A) [
  | Whole item ↦ f item
  | _ ↦ []
]) ≡ []
none_at Unfinished f off = refl
none_at (Whole item) f off = absurd cc
none_at (Refused error) f off = absurd cc

-- bytes at whose front nothing is ready have no whole item
nothing_whole : (e : Expected) (bytes : List ℕ) → is_ready_front (reading e bytes).0 ≡ false → whole_items e bytes ≡ []
nothing_whole e bytes off = by_length (length bytes) where
  by_length : (n : ℕ) → items_in n e bytes ≡ []
  by_length zero = refl
  by_length (suc more) = none_at (reading e bytes).0 (λ (item : Item). kind item ∷ items_in more expected.Frame (drop (reading e bytes).1 bytes)) off

ended_is : (stage : Stage) → is_ended stage ≡ true → stage ≡ Ended
ended_is Pending h = absurd cc
ended_is Open h = absurd cc
ended_is Ended h = refl

-- ---- what would break a link

-- the input of an end ends that the link of its node names
over_breaks : (e : End) (x : Side) (i : ℕ) (v : Pair) → (v.sock i).opener ≡ opener_by e x → names (v.link x) i ≡ true → Breaks (end_at e i) v
over_breaks O x i v opener named = ap (λ (y : Side). names (v.link y) i) opener ∙ named
over_breaks T x i v opener named = ap (λ (y : Side). names (v.link (other y)) i) opener ∙ ap (λ (y : Side). names (v.link y) i) (other_twice x) ∙ named

-- ---- an end that is for a link

module _ (journal : List Line) (j : IsJournal journal) (addresses : AreAddresses (names_of journal)) (log : List Entry) (world : World) (g : Given journal log world) (socket : WorldSocket) (e : End) (place n : ℕ) (cell : Cell × ℕ) (steps : List Step) (host : HostState)
    (is : IsIn socket world) (can : can_feed e socket ≡ true) (none : (end_of e socket).unread ≡ []) (held : IsHeldBy place n (end_of e socket)) (called : IsCalled world place cell (sockets.Ended n) steps host) (read : AllRead world) where
  two : IsTheirs journal world place n e socket
  two = theirs journal j addresses log world g place n e socket is (held_is place n (end_of e socket) held)

  abbrev S : Scene
  S = scene_of two.party world

  abbrev X : Side
  X = two.side

  facts : SceneFacts two.party world
  facts = g.shown two.party two.pair

  so : Invariant (view S)
  so = invariant_reached (view S) (g.raced two.party two.pair)

  there : slice_get world.cells (two.party X).place ≡ Some cell
  there = ap (slice_get world.cells) two.here ∙ called.at

  own_is : host_of S X ≡ cell.0.host
  own_is = ap host_in there

  naming : IsNaming (host_of S X)
  naming = subst IsNaming (sym own_is) (g.sound.links.naming place cell called.at).naming

  acts : Acts S X cell
  acts = facts.acts X cell there

  tests : (is_at_work e socket ≡ true) × (has_input e socket ≡ true)
  tests = and_parts (is_at_work e socket) (has_input e socket) can

  standing : (end_of e socket).stage ≡ Open
  standing = open_is (end_of e socket).stage (and_parts (is_open (end_of e socket).stage) (is_of_host (end_of e socket)) tests.0).0

  module _ (known : Socket) (found : find (is_socket n) cell.0.host.sockets ≡ Some known) (stands : is_open known.stage ≡ true) where
    number : known.number ≡ n
    number = socket_numbered n known cell.0.host.sockets found

    found_there : find (is_socket n) (host_of S X).sockets ≡ Some known
    found_there = ap (λ (h : HostState). find (is_socket n) h.sockets) own_is ∙ found

    found_known : find (is_socket known.number) (host_of S X).sockets ≡ Some known
    found_known = ap (λ (m : ℕ). find (is_socket m) (host_of S X).sockets) number ∙ found_there

    has_known : HasEnd S X e two.i known.number socket
    has_known = subst (λ (m : ℕ). HasEnd S X e two.i m socket) (sym number) two.has

    its_stage : known.stage ≡ Open
    its_stage = open_is known.stage stands

    unfinished : is_ready_front (front_of known).0 ≡ false
    unfinished = sym (ap (λ (s : Stage). is_open s && is_ready_front (front_of known).0) its_stage) ∙ unready (is_socket n) cell.0.host.sockets known (read place cell called.at) found

    the_input : InputEnds S X cell e two.i socket known
    the_input = record {
      acts = acts;
      has = has_known;
      standing = standing;
      stands = its_stage;
      kept = found_known;
      empty = ap (λ (bytes : List ℕ). whole_items known.expected (known.since ++ bytes)) none ∙ ap (whole_items known.expected) (append-nil known.since) ∙ nothing_whole known.expected known.since unfinished;
      over = over (end_of e socket).is_cut refl (ap (λ (bytes : List ℕ). nat_lt 0 (length bytes) || ((end_of e socket).is_cut || is_ended (end_of (ends.other e) socket).stage)) (sym none) ∙ tests.1);
    } where
      over : (b : Bool) → (end_of e socket).is_cut ≡ b → (b || is_ended (end_of (ends.other e) socket).stage) ≡ true → ((end_of e socket).is_cut ≡ true) ⊎ ((end_of (ends.other e) socket).stage ≡ Ended)
      over true c h = inl c
      over false c h = inr (ended_is (end_of (ends.other e) socket).stage h)

    -- it may happen in the pair that its input ends, and so the link doesn't name it
    unnamed : Allowed (end_at e two.i) (view S) → names ((view S).link X) two.i ≡ true → ⊥
    unnamed may named = no_break (view S) so (end_at e two.i) refl may
        (over_breaks e X two.i (view S) (ap (λ (z : Sock). z.opener) (sock_is S X cell e two.i known.number socket acts has_known) ∙ has_known.opener) named)

    link_seen : (state : LinkState) → (link_of S X).state ≡ state → (view S).link X ≡ with_places (place_of (two.party X).place world.sockets) state
    link_seen state e = ap (with_places (place_of (two.party X).place world.sockets)) e

    place_here : place_of (two.party X).place world.sockets known.number ≡ two.i
    place_here = place_is S X cell e two.i known.number socket acts has_known

    by_state : IsUser S X known
        → (((link_of S X).state ≡ Dialing known.number) × IsDialedBy (two.party X).address.id (two.party (other X)).address known) ⊎ ((probed : Bool) × ((link_of S X).state ≡ Up known.number probed) × IsUpFor (two.party X).address.id (two.party (other X)).address known) → ⊥
    by_state user (inl dials) = unnamed (ends_dialing S X cell e two.i socket known the_input user dials.0).allowed.0
        (ap (λ (k : LinkState). names k two.i) (link_seen (Dialing known.number) dials.0 ∙ ap (λ (i : ℕ). Dialing i) place_here) ∙ self_number two.i)
    by_state user (inr up) = unnamed (ends_up S X cell e two.i socket known the_input up.0 user up.1).allowed.0
        (ap (λ (k : LinkState). names k two.i) (link_seen (Up known.number up.0) up.1 ∙ ap (λ (i : ℕ). Up i up.0) place_here) ∙ self_number two.i)

    used : IsUser S X known → ⊥
    used user = by_state user (says.used (host_of S X) (two.party X).address.id (two.party (other X)).address known.number known naming found_known user (ap is_ended its_stage))

    for_none : known.user ≡ None
    for_none = by_user (facts.users X e two.i n socket known two.has found_there) where
      by_user : (known.user ≡ None) ⊎ IsUser S X known → known.user ≡ None
      by_user (inl unused) = unused
      by_user (inr user) = absurd (used user)

  pub calm_over : calm steps ≡ true
  calm_over = calm_ended cell.0.host host n steps for_none called.does
