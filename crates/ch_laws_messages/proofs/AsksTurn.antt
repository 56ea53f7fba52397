-- A turn in which a command is asked: the items that its host writes, where it dials nothing, or just one socket; and a turn without payloads.
use Rattle.std.proofs.Common.{◌≡◌, inl, inr, ℕ, Bool, true, false, cond, List, [], ◌∷◌, ◌++◌, map, refl, sym, ap, ◌∙◌}
use Rattle.std.specs.Option.{option_map}
use Rattle.std.specs.Prelude.{find, slice_get, Option, Some, None, ◌==◌}
use Rattle.ch_base.specs.declared.address.Address.{Address}
use Rattle.ch_wire.specs.Spelling.{frame_spelling}
use Rattle.ch_reader.specs.Items.{MayFollow}
use Rattle.ch_reader.specs.declared.item.Expected.TheVariants as expected
use Rattle.ch_reader.specs.declared.item.Item.TheVariants as items
use Rattle.ch_model.specs.declared.entry.Entry.{Entry}
use Rattle.ch_model.specs.declared.line.Line.{Line}
use Rattle.ch_model.specs.declared.name.End.{End}
use Rattle.ch_model.specs.declared.name.SockName.{SockName}
use Rattle.ch_model.specs.declared.step.Place.{Place}
use Rattle.ch_model.specs.declared.step.Step.{Step}
use Rattle.ch_model.specs.declared.step.Step.TheVariants as steps
use Rattle.ch_model.specs.HostState.{Socket, HostState}
use Rattle.ch_model.specs.HostSteps.{is_socket}
use Rattle.ch_model.specs.Same.{is_end_of}
use Rattle.ch_model.specs.Sockets.{writings}
use Rattle.ch_model.specs.WorldSockets.{end_of, is_socket_named}
use Rattle.ch_model.specs.WorldState.{Cell, WorldSocket, World}
use Rattle.ch_race.specs.Pair.{Side, other}
use Rattle.ch_laws_bytes.proofs.Lines.{own_of}
use Rattle.ch_laws_calls.specs.Scenes.{IsPairOf}
use Rattle.ch_laws_calls.specs.FitsFit.{MayAskWell}
use Rattle.ch_laws_calls.specs.FitsTurns.{NoDials}
use Rattle.ch_laws_calls.proofs.FitsStores.{none_kind}
use Rattle.ch_laws_log.proofs.HostTold.{number_same}
use Rattle.ch_laws_places.specs.Said.{Piece, said_at}
use Rattle.ch_laws_plain.specs.Talks.{MaySpell}
use Rattle.ch_laws_race.specs.Scene.{Party}
use Rattle.ch_laws_writes.specs.Dues.{due_at}
use Rattle.ch_laws_peers.specs.Words.{Placed, sayings}
use Rattle.ch_laws_peers.specs.Reads.{PlacedItem, items_in, placed_in, AreTruly}
use Rattle.ch_laws_peers.specs.Says.{AllSay}
use Rattle.ch_laws_peers.specs.Standing.{IsOfNodes, Standing}
use Rattle.ch_laws_messages.specs.WayAsked.{AskedTruly}
use Rattle.ch_laws_messages.specs.WayGoes.{pieced, written_frames, HostDoes}
use Rattle.ch_laws_messages.proofs.WayAsks.{peers_may_ask}
use Rattle.ch_laws_messages.proofs.WayDues.{due_adds, one_frame, bare_new}
use Rattle.ch_laws_messages.proofs.WayItems.{new_cases, may_ask}
use Rattle.ch_laws_messages.proofs.WayPairs.{wrote_true, truly_bare}
use Rattle.ch_laws_messages.specs.SaidGoes.{bare}
use Rattle.ch_laws_messages.specs.SaidPuts.{write_step}
use Rattle.ch_laws_messages.specs.AsksDoes.{Does, AreBareSteps}
use Rattle.ch_laws_messages.proofs.AsksBare.{bare_at, bare_unread}

-- ---- frames that are written

-- frames as they are written, each with its place
abbrev pub pieces_of : List Placed → List Piece
pieces_of all = map (λ (one : Placed). (frame_spelling one.0, one.1)) all

pub said_there : (sock n : ℕ) (all : List Placed) → said_at n (map (write_step sock) all) ≡ cond (sock == n) (pieces_of all) []
said_there sock n [] = by_test (sock == n) where
  by_test : (b : Bool) → ◌≡◌ {A = List Piece} [] (cond b [] [])
  by_test true = refl
  by_test false = refl
said_there sock n (one ∷ all) = by_test (sock == n) (said_there sock n all) where
  by_test : (b : Bool) → said_at n (map (write_step sock) all) ≡ cond b (pieces_of all) [] → cond b ((frame_spelling one.0, one.1) ∷ said_at n (map (write_step sock) all)) (said_at n (map (write_step sock) all)) ≡ cond b (pieces_of (one ∷ all)) []
  by_test true e = ap (λ (l : List Piece). (frame_spelling one.0, one.1) ∷ l) e
  by_test false e = e

-- items that are written as these frames are these frames
pub frames_are : (new : List PlacedItem) (all : List Placed) → MayFollow expected.Frame (items_in new) → MaySpell (bare all) → pieces_of all ≡ pieced new → placed_in new ≡ all
frames_are [] [] m f e = refl
frames_are [] (one ∷ all) m f e = absurd cc
frames_are (one ∷ rest) [] m f e = absurd cc
frames_are ((items.Frame frame, place) ∷ rest) (one ∷ all) m f e =
    let first : ◌≡◌ {A = Piece} (frame_spelling one.0, one.1) (frame_spelling frame, place) = cc in
    let bytes : frame_spelling one.0 ≡ frame_spelling frame = ap (λ (p : Piece). p.0) first in
    let place_is : one.1 ≡ place = ap (λ (p : Piece). p.1) first in
    let more : pieces_of all ≡ pieced rest = cc in
    ap (λ (p : Option Place). (frame, p) ∷ placed_in rest) (sym place_is) ∙ ap (λ (l : List Placed). (frame, one.1) ∷ l) (frames_are rest all m.1 f.1 more) ∙ sym (ap (λ g. (g, one.1) ∷ all) (one_frame one.0 frame f.0 m.0 bytes))
frames_are ((items.Request request, place) ∷ rest) (one ∷ all) m f e = absurd m.0
frames_are ((items.Answer answer, place) ∷ rest) (one ∷ all) m f e = absurd m.0

-- ---- what a host does

module _ (own : ℕ → Address) (host : HostState) (told : List Step) (after : HostState) (d : Does own host told after) (alone : NoDials told) where
  -- the items that it writes under a number
  pub new_told : ℕ → List PlacedItem
  new_told n = (due_adds own n told (due_at host n) alone (d.writes.due n)).0

  pub told_does : HostDoes own host told after new_told
  unfolding new_told
  told_does = record { reads = d.reads; adds = λ n. (due_adds own n told (due_at host n) alone (d.writes.due n)).1 }

-- the socket that is dialed wasn't there
dial_free : (own : ℕ → Address) (host : HostState) (sock end : ℕ) (peer : Address) (after : HostState) → Does own host (steps.Dial sock end peer ∷ []) after → find (is_socket sock) host.sockets ≡ None
dial_free own host sock end peer after d = by_found (find (is_socket sock) host.sockets) ((d.tells.new sock).0 (number_same sock)) where
  by_found : (o : Option Socket) → option_map (λ (socket : Socket). socket.stage) o ≡ None → o ≡ None
  by_found None e = refl
  by_found (Some socket) e = absurd cc

-- ---- a turn

-- what may be asked on the sockets of the world
pub may_of : (journal : List Line) → IsOfNodes journal → (log : List Entry) (world : World) → Standing journal log world → (s : SockName) (socket : WorldSocket) → find (is_socket_named s) world.sockets ≡ Some socket → MayAskWell journal world socket
may_of journal j log world st = peers_may_ask journal j.is j.addresses log world st.all.sound st.all.unknocked st.peers

module _ (journal : List Line) (j : IsOfNodes journal) (log : List Entry) (world : World) (place : ℕ) (cell : Cell × ℕ) (after : HostState) (more : List Entry) (final : World) (at : slice_get world.cells place ≡ Some cell) (st : Standing journal log world) (say : AllSay journal log world) where
  -- what is written at an end of x, with this
  abbrev True : (party : Side → Party) (x : Side) (s : SockName) (e : End) → List PlacedItem → Type 0
  True party x s e new = AreTruly (sayings (party x).name (party (other x)).name (log ++ more)) (written_frames (sayings (party x).name (party (other x)).name log) (writings log s e) ++ placed_in new)

  pub still_true : (party : Side → Party) → IsPairOf journal party → (x : Side) (s : SockName) (e : End) → is_end_of (party x).name (party (other x)).name s e ≡ true → True party x s e []
  still_true party pair x s e of = truly_bare journal log more party x s e [] (wrote_true journal log world party x s e (say party pair x) of) tt

  -- one socket is dialed, and nothing is written
  pub dial_turn : (sock end : ℕ) (peer : Address) → Does (own_of journal place) cell.0.host (steps.Dial sock end peer ∷ []) after → AskedTruly journal log world place cell.0.host (steps.Dial sock end peer ∷ []) after (log ++ more) final
  dial_turn sock end peer d = record {
    new = λ n. [];
    does = record { reads = d.reads; adds = λ n. record { is = refl; kind = none_kind (own_of journal place) (due_at cell.0.host n) } };
    dials = inr (sock, end, peer, refl, dial_free (own_of journal place) cell.0.host sock end peer after d);
    unread = λ n. refl;
    truly = λ party pair x s e socket of found t. new_cases place (λ n. []) (end_of e t.before).cell (end_of e t.before).number (True party x s e) (still_true party pair x s e of) (λ n c m. still_true party pair x s e of);
  }

  -- frames without payloads are written
  pub bare_turn : (told : List Step) → Does (own_of journal place) cell.0.host told after → NoDials told → AreBareSteps told → AskedTruly journal log world place cell.0.host told after (log ++ more) final
  bare_turn told d alone b = record {
    new = new_told (own_of journal place) cell.0.host told after d alone;
    does = told_does (own_of journal place) cell.0.host told after d alone;
    dials = inl alone;
    unread = λ n. bare_unread n told b;
    truly = λ party pair x s e socket of found t. new_cases place (new_told (own_of journal place) cell.0.host told after d alone) (end_of e t.before).cell (end_of e t.before).number (True party x s e) (still_true party pair x s e of)
        (λ n c m. bare_true party pair x s e of t.before t.found n c m);
  } where
    bare_true : (party : Side → Party) → IsPairOf journal party → (x : Side) (s : SockName) (e : End) → is_end_of (party x).name (party (other x)).name s e ≡ true → (before : WorldSocket) → find (is_socket_named s) world.sockets ≡ Some before → (n : ℕ) → (end_of e before).cell ≡ Some place → (end_of e before).number ≡ Some n
        → True party x s e (new_told (own_of journal place) cell.0.host told after d alone n)
    bare_true party pair x s e of before found n c m = truly_bare journal log more party x s e (placed_in (new_told (own_of journal place) cell.0.host told after d alone n)) (wrote_true journal log world party x s e (say party pair x) of)
        (bare_new (own_of journal place) (due_at cell.0.host n) (said_at n told) (new_told (own_of journal place) cell.0.host told after d alone n) ((told_does (own_of journal place) cell.0.host told after d alone).adds n)
        (may_ask journal log world place n cell s before e st (may_of journal j log world st s before found) at found c m) (bare_at n told b))
