-- Where what is unread fits at each end, it fits so between each two nodes.
use Rattle.std.proofs.Common.{◌≡◌, ◌⊎◌, inl, inr, ℕ, Bool, true, false, cond, ◌&&◌, ◌||◌, List, [], ◌∷◌, ◌++◌, map, refl, sym, ap, ◌∙◌, subst}
use Rattle.std.proofs.lemmas.Bool.{and_parts}
use Rattle.std.proofs.lemmas.Slice.Eq.{bytes_eq-Decides}
use Rattle.std.specs.Prelude.{find, slice_get, is_some, Option, Some, None}
use Rattle.std.specs.Str.{bytes_eq}
use Rattle.ch_wire.specs.declared.frame.Frame.{Frame}
use Rattle.ch_reader.specs.Items.{spellings, MayFollow}
use Rattle.ch_reader.specs.declared.item.Expected.{Expected}
use Rattle.ch_reader.specs.declared.item.Expected.TheVariants as expected
use Rattle.ch_reader.specs.declared.item.Item.TheVariants as items
use Rattle.ch_link.specs.declared.LinkState.TheVariants.{Dialing, Up}
use Rattle.ch_model.specs.declared.entry.Entry.{Entry}
use Rattle.ch_model.specs.declared.line.Line.{Line}
use Rattle.ch_model.specs.declared.name.End.{End}
use Rattle.ch_model.specs.declared.name.End.TheVariants.{O}
use Rattle.ch_model.specs.declared.name.SockName.{SockName}
use Rattle.ch_model.specs.HostState.{Socket, HostState}
use Rattle.ch_model.specs.HostSteps.{link_with, is_socket}
use Rattle.ch_model.specs.Same.{is_between}
use Rattle.ch_model.specs.Stages.{Stage, Open, is_ended}
use Rattle.ch_model.specs.World.{names_of}
use Rattle.ch_model.specs.WorldSockets.{end_of, other, is_socket_named, same_number}
use Rattle.ch_model.specs.WorldState.{Cell, WorldSocket, World}
use Rattle.ch_race.specs.Pair as pair
use Rattle.ch_race.specs.Pair.{Side, Lesser, Greater}
use Rattle.ch_laws_bytes.specs.Streams.{Reader, reader_in, reader_at, readers_of, reads_at, first_at, is_over, reader_of, AreAddresses}
use Rattle.ch_laws_bytes.proofs.Asked.{may_be_asked}
use Rattle.ch_laws_bytes.proofs.Lines.{own_of}
use Rattle.ch_laws_calls.specs.Fits.{AllFit}
use Rattle.ch_laws_calls.specs.Scenes.{scene_of, SceneFacts, Shown}
use Rattle.ch_laws_calls.specs.Sound.{Sound}
use Rattle.ch_laws_calls.specs.Tables.{Table, table_of, frames_on}
use Rattle.ch_laws_calls.specs.Users.{AllUsed}
use Rattle.ch_laws_links.specs.Naming.{IsNaming, IsDialedBy, IsUpFor}
use Rattle.ch_laws_links.proofs.Says.{used, unused}
use Rattle.ch_laws_log.proofs.Stored.{number_is}
use Rattle.ch_laws_race.specs.Reading.{IsUser}
use Rattle.ch_laws_race.specs.Scene.{host_in, host_of, link_of}
use Rattle.ch_laws_race.specs.Sound.{HasEnd}
use Rattle.ch_laws_race.proofs.Sockets.{name_found}
use Rattle.ch_laws_calls.specs.FitsFit.{ids_of, created_at, LinkHolds, start_for, start_there, start_of, final_of, frames_in, Leads, FitsIn, FitAt, MayAskWell, Fit}
use Rattle.ch_laws_calls.proofs.FitsUps.{up_is}

frames_of_frames : (all : List Frame) → frames_in (map (λ (frame : Frame). items.Frame frame) all) ≡ all
frames_of_frames [] = refl
frames_of_frames (frame ∷ all) = ap (λ (l : List Frame). frame ∷ l) (frames_of_frames all)

leads_some : (final after : Option Table) → Leads final after → is_some after ≡ true
leads_some None after l = l
leads_some (Some final) after l = ap is_some l

-- ---- names

bytes_is : (a b : List ℕ) → bytes_eq a b ≡ true → a ≡ b
bytes_is a b h = (bytes_eq-Decides a b).0 h

-- neither end of a socket between two that have names is nameless
between_named : (x y : List ℕ) (name : SockName) → (x ≡ [] → ⊥) → (y ≡ [] → ⊥) → is_between x y name ≡ true → (name.from ≡ [] → ⊥) × (name.to ≡ [] → ⊥)
between_named x y name nx ny h = by_test (bytes_eq name.from x && bytes_eq name.to y) refl h where
  by_test : (b : Bool) → (bytes_eq name.from x && bytes_eq name.to y) ≡ b → (b || (bytes_eq name.from y && bytes_eq name.to x)) ≡ true → (name.from ≡ [] → ⊥) × (name.to ≡ [] → ⊥)
  by_test true e h = let parts = and_parts (bytes_eq name.from x) (bytes_eq name.to y) e in (λ none. nx (sym (bytes_is name.from x parts.0) ∙ none), λ none. ny (sym (bytes_is name.to y parts.1) ∙ none))
  by_test false e h = let parts = and_parts (bytes_eq name.from y) (bytes_eq name.to x) h in (λ none. ny (sym (bytes_is name.from y parts.0) ∙ none), λ none. nx (sym (bytes_is name.to x parts.1) ∙ none))

-- ---- ends

number_at : (o : Option ℕ) (n : ℕ) → same_number o n ≡ true → o ≡ Some n
number_at None n h = absurd cc
number_at (Some m) n h = ap Some (number_is m n h)

-- ---- each two nodes

pub fit_gives : (journal : List Line) → AreAddresses (names_of journal) → (log : List Entry) (world : World) → Sound journal log world → AllUsed journal log world → Shown journal log world → Fit journal log world → AllFit journal log world
fit_gives journal addresses log world sound all_used shown fit party is_pair = record { are_data = λ x. (link_holds x).payloads; fit = λ x e i socket known all has found stage exp whole follow. each x e i socket known all has found stage exp whole follow } where
  facts : SceneFacts party world
  facts = shown party is_pair

  cell_of : Side → Cell × ℕ
  cell_of x = (facts.there x).0

  at : (x : Side) → slice_get world.cells (party x).place ≡ Some (cell_of x)
  at x = (facts.there x).1

  host_is : (x : Side) → host_of (scene_of party world) x ≡ (cell_of x).0.host
  host_is x = ap host_in (at x)

  link_holds : (x : Side) → LinkHolds (link_of (scene_of party world) x)
  link_holds x = subst (λ (h : HostState). LinkHolds (link_with h (party x).address.id (party (pair.other x)).address)) (sym (host_is x)) (fit.hosts (party x).place (cell_of x) (at x) (party x).address.id (party (pair.other x)).address)

  may_ask : (i : ℕ) (socket : WorldSocket) → slice_get world.sockets i ≡ Some socket → is_between (party Lesser).name (party Greater).name socket.name ≡ true → MayAskWell journal world socket
  may_ask i socket there between =
      let side = facts.sides i socket there between O in
      let named = between_named (party Lesser).name (party Greater).name socket.name (facts.names_are Lesser) (facts.names_are Greater) between in
      record { place = (party side.side).place; cell = side.cell; may = may_be_asked (own_of journal (party side.side).place) world.names socket.name (subst AreAddresses (sym sound.ends.set.names) addresses) named.0 named.1 }

  each : (x : Side) (e : End) (i : ℕ) (socket : WorldSocket) (known : Socket) (all : List Frame) → HasEnd (scene_of party world) x e i known.number socket → find (is_socket known.number) (host_of (scene_of party world) x).sockets ≡ Some known → known.stage ≡ Open → known.expected ≡ expected.Frame
      → known.since ++ (end_of e socket).unread ≡ spellings (map (λ (frame : Frame). items.Frame frame) all) → MayFollow expected.Frame (map (λ (frame : Frame). items.Frame frame) all) → is_some (frames_on all (table_of (link_of (scene_of party world) x).created)) ≡ true
  each x e i socket known all has found stage exp whole follow =
      subst (λ (l : List Frame). is_some (frames_on l (table_of (link_of (scene_of party world) x).created)) ≡ true) (frames_of_frames all)
      (subst (λ (t : Table). is_some (frames_on (frames_in (map (λ (frame : Frame). items.Frame frame) all)) t) ≡ true) start_is
      (leads_some (final_of world socket (other e)) (frames_on (frames_in (map (λ (frame : Frame). items.Frame frame) all)) (start_of world socket e)) (fits (map (λ (frame : Frame). items.Frame frame) all) whole follow)))
    where
      named : find (is_socket_named socket.name) world.sockets ≡ Some socket
      named = name_found world.sockets i socket facts.apart has.at

      parts : (same_number (end_of e socket).cell (party x).place ≡ true) × (same_number (end_of e socket).number known.number ≡ true)
      parts = and_parts (same_number (end_of e socket).cell (party x).place) (same_number (end_of e socket).number known.number) has.end

      its_cell : (end_of e socket).cell ≡ Some (party x).place
      its_cell = number_at (end_of e socket).cell (party x).place parts.0

      its_number : (end_of e socket).number ≡ Some known.number
      its_number = number_at (end_of e socket).number known.number parts.1

      kept : find (is_socket known.number) (cell_of x).0.host.sockets ≡ Some known
      kept = subst (λ (h : HostState). find (is_socket known.number) h.sockets ≡ Some known) (host_is x) found

      reader_is : reader_of world socket e ≡ Some (expected.Frame, known.since)
      reader_is = ap (λ (c : Option ℕ). reads_at (readers_of world.cells) (first_at e) c (end_of e socket).number) its_cell ∙ ap (reads_at (readers_of world.cells) (first_at e) (Some (party x).place)) its_number
          ∙ ap (λ (o : Option (Cell × ℕ)). reader_at o known.number) (at x) ∙ ap reader_in kept ∙ ap (λ (s : Stage). cond (is_ended s) None (Some (known.expected, known.since))) stage ∙ ap (λ (k : Expected). Some (k, known.since)) exp

      over_is : is_over (end_of e socket) ≡ false
      over_is = ap (λ (s : Stage). is_ended s || (end_of e socket).is_cut) (sym (facts.stands x e i known.number socket known has found) ∙ stage) ∙ (all_used socket.name socket named).uncut e

      fits : FitsIn (expected.Frame, known.since) (end_of e socket).unread (start_of world socket e) (final_of world socket (other e))
      fits = subst (λ (b : Bool). FitAt (Some (expected.Frame, known.since)) b (end_of e socket).unread (start_of world socket e) (final_of world socket (other e))) over_is
          (subst (λ (r : Option Reader). FitAt r (is_over (end_of e socket)) (end_of e socket).unread (start_of world socket e) (final_of world socket (other e))) reader_is (fit.ends socket.name socket e named (may_ask i socket has.at has.between)))

      naming : IsNaming (cell_of x).0.host
      naming = (sound.links.naming (party x).place (cell_of x) (at x)).naming

      live : is_ended known.stage ≡ false
      live = ap is_ended stage

      user : (known.user ≡ None) ⊎ IsUser (scene_of party world) x known → known.user ≡ Some ((party x).address.id, (party (pair.other x)).address)
      user (inl none) = let no : expected.Request ≡ expected.Frame = sym (unused (cell_of x).0.host known.number known naming kept none live).expects ∙ exp in absurd cc
      user (inr u) = u

      up : (((link_with (cell_of x).0.host (party x).address.id (party (pair.other x)).address).state ≡ Dialing known.number) × IsDialedBy (party x).address.id (party (pair.other x)).address known)
          ⊎ ((probed : Bool) × ((link_with (cell_of x).0.host (party x).address.id (party (pair.other x)).address).state ≡ Up known.number probed) × IsUpFor (party x).address.id (party (pair.other x)).address known)
          → created_at (cell_of x).0.host known.number ≡ table_of (link_with (cell_of x).0.host (party x).address.id (party (pair.other x)).address).created
      up (inl d) = let no : expected.Answer ≡ expected.Frame = sym d.1.expects ∙ exp in absurd cc
      up (inr u) = ap (ids_of (λ link. link.created)) (up_is (cell_of x).0.host (party x).address.id (party (pair.other x)).address known.number u.0 naming u.1)

      start_is : start_of world socket e ≡ table_of (link_of (scene_of party world) x).created
      start_is = ap (λ (c : Option ℕ). start_for world.cells c (end_of e socket).number) its_cell ∙ ap (start_for world.cells (Some (party x).place)) its_number ∙ ap (λ (o : Option (Cell × ℕ)). start_there o known.number) (at x)
          ∙ up (used (cell_of x).0.host (party x).address.id (party (pair.other x)).address known.number known naming kept (user (facts.users x e i known.number socket known has found)) live)
          ∙ ap (λ (h : HostState). table_of (link_with h (party x).address.id (party (pair.other x)).address).created) (sym (host_is x))
