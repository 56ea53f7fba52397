-- Each item that a host reads is seen of each two nodes as moves that may happen.
use Rattle.std.specs.Prelude.{◌≡◌, ◌⊎◌, ℕ, Bool, true, false, List, ◌++◌, find, slice_get, is_some, Some, None, Ok}
use Rattle.std.proofs.Common.{inl, inr, ap, sym, ◌∙◌, subst}
use Rattle.std.proofs.lemmas.Bool.{and_parts}
use Rattle.ch_link.specs.declared.LinkState.TheVariants.{Dialing, Up}
use Rattle.ch_model.specs.declared.entry.Entry.{Entry}
use Rattle.ch_model.specs.declared.line.Line.{Line}
use Rattle.ch_model.specs.declared.name.End.{End}
use Rattle.ch_model.specs.declared.name.End.TheVariants.{O, T}
use Rattle.ch_model.specs.declared.step.Step.{Step}
use Rattle.ch_model.specs.Host.{front_of, is_ready_front, is_ready, handles, host_next}
use Rattle.ch_model.specs.HostState.{Socket, HostState}
use Rattle.ch_model.specs.HostSteps.{is_socket, link_with}
use Rattle.ch_model.specs.Same.{is_between}
use Rattle.ch_model.specs.Stages.{is_open, is_ended}
use Rattle.ch_model.specs.WorldSockets.{end_of, is_end_of}
use Rattle.ch_model.specs.WorldState.{Cell, WorldSocket, World}
use Rattle.ch_race.specs.Pair.{Side, Lesser, Greater, other}
use Rattle.ch_race.proofs.Runs.{reached_more}
use Rattle.ch_race.specs.Invariant.{IsReached}
use Rattle.ch_laws_ends.proofs.Places.{some_is}
use Rattle.ch_laws_links.specs.Naming.{IsNaming, IsUnasked, IsDialedBy, IsUpFor}
use Rattle.ch_laws_links.proofs.Says as says
use Rattle.ch_laws_race.specs.Others.{IsFree}
use Rattle.ch_laws_race.specs.Reading.{IsUser, reads_front}
use Rattle.ch_laws_race.specs.Scene.{Party, host_in, host_of}
use Rattle.ch_laws_race.specs.Sound.{HasEnd}
use Rattle.ch_laws_race.specs.View.{view}
use Rattle.ch_laws_race.proofs.Sockets.{by_test, name_found}
use Rattle.ch_laws_calls.specs.Calls.{done_at}
use Rattle.ch_laws_calls.specs.Fits.{FramesFit, AllFit}
use Rattle.ch_laws_calls.specs.Scenes.{IsOfSide, scene_of, SceneFacts, IsMoved, Shown, Raced}
use Rattle.ch_laws_calls.specs.Sound.{Sound}
use Rattle.ch_laws_raced.proofs.RaceItemsAnswers.{answer_shown}
use Rattle.ch_laws_raced.proofs.RaceItemsFound.{IsOfWorld, worlds_end, end_keys, target_is, opener_is}
use Rattle.ch_laws_raced.proofs.RaceItemsFrames.{frame_shown}
use Rattle.ch_laws_raced.proofs.RaceItemsNext.{IsServed, is_served}
use Rattle.ch_laws_raced.proofs.RaceItemsOthers.{elsewhere}
use Rattle.ch_laws_raced.proofs.RaceItemsReading.{open_is}
use Rattle.ch_laws_raced.proofs.RaceItemsRequests.{request_shown}
use Rattle.ch_laws_raced.proofs.RaceItemsSeen.{IsShown, moved, unmoved}

module _ (journal : List Line) (log : List Entry) (party : Side → Party) (world : World) (sound : Sound journal log world) (facts : SceneFacts party world) (fits : FramesFit party world) where
  -- ---- between the two

  module _ (x : Side) (cell : Cell × ℕ) (i : ℕ) (socket : WorldSocket) (known : Socket) (at : slice_get world.cells (party x).place ≡ Some cell) (found : find (is_socket known.number) (host_of (scene_of party world) x).sockets ≡ Some known)
      (ready : is_ready known ≡ true) (told : List Step) (after : HostState) (does : reads_front (scene_of party world) x known ≡ Ok (told, after)) where
    own_is : cell.0.host ≡ host_of (scene_of party world) x
    own_is = sym (ap host_in at)

    naming : IsNaming (host_of (scene_of party world) x)
    naming = subst IsNaming own_is (sound.links.naming (party x).place cell at).naming

    in_cell : find (is_socket known.number) cell.0.host.sockets ≡ Some known
    in_cell = ap (λ (h : HostState). find (is_socket known.number) h.sockets) own_is ∙ found

    unended : is_ended known.stage ≡ false
    unended = ap is_ended (open_is known.stage (and_parts (is_open known.stage) (is_ready_front (front_of known).0) ready).0)

    abbrev Is : End → Type 0
    Is e = HasEnd (scene_of party world) x e i known.number socket

    by_used : (e : End) → HasEnd (scene_of party world) x e i known.number socket → IsUser (scene_of party world) x known → IsShown (scene_of party world) x cell known
    by_used e has user = by_state (says.used (host_of (scene_of party world) x) (party x).address.id (party (other x)).address known.number known naming found user unended) where
      by_state : (((link_with (host_of (scene_of party world) x) (party x).address.id (party (other x)).address).state ≡ Dialing known.number) × IsDialedBy (party x).address.id (party (other x)).address known)
          ⊎ ((probed : Bool) × ((link_with (host_of (scene_of party world) x) (party x).address.id (party (other x)).address).state ≡ Up known.number probed) × IsUpFor (party x).address.id (party (other x)).address known) → IsShown (scene_of party world) x cell known
      by_state (inl dials) =
          let opener : e ≡ O = opener_is journal world sound.links.asked (party x).place known.number cell known socket at in_cell (name_found world.sockets i socket facts.apart has.at) e ((party x).address.id, (party (other x)).address) has.end dials.1.opener user in
          answer_shown party world facts fits x cell i socket known at (subst Is opener has) found ready dials.1.expects user dials.0
      by_state (inr up) = frame_shown party world facts fits x cell e i socket known at has found ready up.2.expects user up.0 up.1 told after does

    by_user : (e : End) → HasEnd (scene_of party world) x e i known.number socket → (known.user ≡ None) ⊎ IsUser (scene_of party world) x known → IsShown (scene_of party world) x cell known
    by_user e has (inl unused) =
        let unasked : IsUnasked known = says.unused (host_of (scene_of party world) x) known.number known naming found unused unended in
        let target : e ≡ T = target_is journal world sound.links.asked (party x).place known.number cell known socket at in_cell (name_found world.sockets i socket facts.apart has.at) e has.end unasked.target in
        request_shown journal log party world sound facts fits x cell i socket known at (subst Is target has) found ready unasked.expects unused
    by_user e has (inr user) = by_used e has user

    between : (e : End) → HasEnd (scene_of party world) x e i known.number socket → IsMoved party world (done_at (party x).place cell told after world).1
    between e has = moved party world x cell (reads_front (scene_of party world) x known) told after (by_user e has (facts.users x e i known.number socket known has found)) does

  -- ---- any item

  module _ (place : ℕ) (cell : Cell × ℕ) (told : List Step) (after : HostState) (at : slice_get world.cells place ≡ Some cell) (next : IsServed cell.0.host told after) where
    its : IsOfWorld place next.known.number world next.known.stage
    its = worlds_end journal log world place next.known.number cell next.known sound.ends.sure.ends at next.found

    stands : is_ended next.known.stage ≡ false
    stands = ap is_ended (open_is next.known.stage (and_parts (is_open next.known.stage) (is_ready_front (front_of next.known).0) next.ready).0)

    -- on a socket of others
    on_others : is_between (party Lesser).name (party Greater).name its.socket.name ≡ false → IsMoved party world (done_at place cell told after world).1
    on_others off = unmoved party world place cell told after (elsewhere journal log party world sound facts place cell at next.known told after next.found free stands next.does) where
      free : IsFree (scene_of party world) place next.known.number
      free j u there own e = by_test (is_end_of place next.known.number (end_of e u)) (λ h. absurd (clash h)) (λ h. h) where
        clash : is_end_of place next.known.number (end_of e u) ≡ true → ⊥
        clash h =
            let same = facts.apart.numbered its.i j its.socket u its.e e place next.known.number its.at there its.end h in
            let one : its.socket ≡ u = some_is its.socket u (sym its.at ∙ ap (slice_get world.sockets) same.0 ∙ there) in
            let no = sym own ∙ ap (λ (w : WorldSocket). is_between (party Lesser).name (party Greater).name w.name) (sym one) ∙ off in absurd cc

    -- on a socket between the two
    on_theirs : is_between (party Lesser).name (party Greater).name its.socket.name ≡ true → IsMoved party world (done_at place cell told after world).1
    on_theirs own = subst (λ (p : ℕ). IsMoved party world (done_at p cell told after world).1) here
        (between side.side cell its.i its.socket next.known there (ap (λ (h : HostState). find (is_socket next.known.number) h.sockets) (ap host_in there) ∙ next.found) next.ready told after
        (ap (λ (h : HostState). handles next.known (front_of next.known) h) (ap host_in there) ∙ next.does) its.e has) where
          side : IsOfSide party its.e its.socket
          side = facts.sides its.i its.socket its.at own its.e

          here : (party side.side).place ≡ place
          here = some_is (party side.side).place place (sym side.cell ∙ (end_keys place next.known.number (end_of its.e its.socket) its.end).0)

          there : slice_get world.cells (party side.side).place ≡ Some cell
          there = ap (slice_get world.cells) here ∙ at

          has : HasEnd (scene_of party world) side.side its.e its.i next.known.number its.socket
          has = record {
            at = its.at;
            end = ap (λ (p : ℕ). is_end_of p next.known.number (end_of its.e its.socket)) here ∙ its.end;
            between = own;
            opener = side.opener;
            target = ap is_some (facts.sides its.i its.socket its.at own T).cell;
          }

    any_item : IsMoved party world (done_at place cell told after world).1
    any_item = by_test (is_between (party Lesser).name (party Greater).name its.socket.name) on_theirs on_others

pub reads_item : (journal : List Line) (log : List Entry) (world : World) → Sound journal log world → (party : Side → Party) → SceneFacts party world → FramesFit party world → (place : ℕ) (cell : Cell × ℕ) (told : List Step) (after : HostState)
    → slice_get world.cells place ≡ Some cell → host_next cell.0.host ≡ Ok (Some told, after) → IsMoved party world (done_at place cell told after world).1
reads_item journal log world sound party facts fits place cell told after at next = any_item journal log party world sound facts fits place cell told after at
    (is_served cell.0.host after told (sound.links.naming place cell at).naming.sockets next)

-- moves that may happen lead from a pair that is reached to one
pub reached_after : (party : Side → Party) (before after : World) → IsMoved party before after → IsReached (view (scene_of party before)) → IsReached (view (scene_of party after))
reached_after party before after m reached = subst IsReached (sym m.seen) (reached_more m.moves (view (scene_of party before)) reached m.allowed)

-- so each two nodes stay reached: what is asked of all things that happen, of an item
pub keeps_raced : (journal : List Line) (log : List Entry) (world : World) (place : ℕ) (cell : Cell × ℕ) (told : List Step) (after : HostState) → slice_get world.cells place ≡ Some cell → host_next cell.0.host ≡ Ok (Some told, after)
    → Sound journal log world → Shown journal log world → AllFit journal log world → Raced journal log world → Raced journal (log ++ (done_at place cell told after world).0) (done_at place cell told after world).1
keeps_raced journal log world place cell told after at next sound shown fit raced party pair = reached_after party world (done_at place cell told after world).1
    (reads_item journal log world sound party (shown party pair) (fit party pair) place cell told after at next) (raced party pair)
