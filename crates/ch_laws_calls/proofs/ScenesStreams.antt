-- What is unread at the ends of a socket, and what may be written towards them.
use Rattle.std.proofs.Common.{◌≡◌, ℕ, Bool, true, false, cond, List, [], ◌++◌, refl, sym, ap, ◌∙◌, subst}
use Rattle.std.proofs.lemmas.Bool.{or_parts}
use Rattle.std.specs.Prelude.{◌||◌, find, is_some, slice_get, Option, Some, None}
use Rattle.ch_base.specs.declared.address.Address.{Address}
use Rattle.ch_wire.specs.Spelling.{IsRequest, IsFrame}
use Rattle.ch_wire.specs.declared.answer.Answer.{Answer}
use Rattle.ch_wire.specs.declared.frame.Frame.{Frame}
use Rattle.ch_reader.specs.Items.{spellings, MayFollow, MayStand, expected_after}
use Rattle.ch_reader.specs.declared.item.Expected.{Expected}
use Rattle.ch_reader.specs.declared.item.Expected.TheVariants as expected
use Rattle.ch_reader.specs.declared.item.Item.{Item}
use Rattle.ch_reader.specs.declared.item.Item.TheVariants as items
use Rattle.ch_model.specs.declared.entry.Entry.{Entry}
use Rattle.ch_model.specs.declared.line.Line.{Line}
use Rattle.ch_model.specs.declared.name.End.{End}
use Rattle.ch_model.specs.declared.name.End.TheVariants.{O, T}
use Rattle.ch_model.specs.HostState.{Socket, HostState}
use Rattle.ch_model.specs.HostSteps.{is_socket}
use Rattle.ch_model.specs.Same.{is_between}
use Rattle.ch_model.specs.Stages.{is_ended}
use Rattle.ch_model.specs.WorldSockets as ends
use Rattle.ch_model.specs.WorldSockets.{end_of}
use Rattle.ch_model.specs.WorldState.{Cell, WorldSocket, World}
use Rattle.ch_race.specs.Pair.{Side, Lesser, Greater, other}
use Rattle.ch_laws_log.proofs.Kept.{IsIn}
use Rattle.ch_laws_writes.specs.Dues.{Due, Asking, Answering, Framing, due_at}
use Rattle.ch_laws_bytes.specs.Streams as streams
use Rattle.ch_laws_bytes.specs.Streams.{reader_in, readers_of, due_in, dues_of, reads_at, writes_at, Fits, Spelled, Flows, is_over, FromOpener, AreAddresses, first_at, reader_of, due_of_end}
use Rattle.ch_laws_bytes.proofs.Asked.{may_be_asked}
use Rattle.ch_laws_bytes.proofs.Lines.{own_of}
use Rattle.ch_laws_pairs.specs.Dials.{IsBetweenNames}
use Rattle.ch_laws_race.specs.Scene.{Party, hosts_of, host_of}
use Rattle.ch_laws_race.specs.View as seen
use Rattle.ch_laws_race.specs.Sound.{HasEnd, TakesItem, first_of}
use Rattle.ch_laws_race.proofs.Sockets.{given}
use Rattle.ch_laws_calls.specs.Scenes.{IsOfSide, scene_of}
use Rattle.ch_laws_calls.proofs.ScenesGiven.{IsGiven, names_are, called_in, hosted, host_is}
use Rattle.ch_laws_calls.proofs.ScenesHeld.{held_by, is_held}
use Rattle.ch_laws_calls.proofs.ScenesDialed.{IsOpenedBy, opened_by, named_both, of_side, is_in, kept_as}

-- ---- what flows

addresses_in : (journal : List Line) (log : List Entry) (world : World) (party : Side → Party) → IsGiven journal log world party → AreAddresses world.names
addresses_in journal log world party g = subst AreAddresses (sym g.sound.ends.set.names) g.addresses

-- towards both ends of a socket between two names there are whole items
pub flows : (journal : List Line) (log : List Entry) (world : World) (party : Side → Party) → IsGiven journal log world party → (socket : WorldSocket) → IsIn socket world → (socket.name.from ≡ [] → ⊥) → (socket.name.to ≡ [] → ⊥) → (e : End)
    → Flows (reader_of world socket e) (is_over (end_of e socket)) (end_of e socket).unread (due_of_end world socket (ends.other e))
flows journal log world party g socket is from to O = (g.sound.ends.flowing.flow socket.name socket is).opener.flows
flows journal log world party g socket is from to T = by_cell socket.o.cell (g.sound.ends.set.led socket.name socket is).o (g.sound.ends.flowing.flow socket.name socket is).target where
  by_cell : (c : Option ℕ) → is_some c ≡ true → FromOpener (own_of journal) world.names socket.name c (reader_of world socket T) (is_over socket.t) socket.t.unread (due_of_end world socket O) → Flows (reader_of world socket T) (is_over socket.t) socket.t.unread (due_of_end world socket O)
  by_cell None some f = absurd cc
  by_cell (Some place) some f = f.flows (may_be_asked (own_of journal place) world.names socket.name (addresses_in journal log world party g) from to f.asker f.asked f.from f.to)

pub flows_so : (o : Option streams.Reader) (over : Bool) (unread : List ℕ) (due : Option Due) (reader : streams.Reader) → o ≡ Some reader → over ≡ false → Flows o over unread due → Spelled reader unread due
flows_so o over unread due reader r h f = subst (λ (b : Bool). Flows (Some reader) b unread due) h (subst (λ (x : Option streams.Reader). Flows x over unread due) r f)

-- ---- who reads

-- a host reads as its record of an end says, which hasn't ended
pub reader_by : (world : World) (place n : ℕ) (cell : Cell × ℕ) (known : Socket) (first : Expected) → slice_get world.cells place ≡ Some cell → find (is_socket n) cell.0.host.sockets ≡ Some known → is_ended known.stage ≡ false
    → reads_at (readers_of world.cells) first (Some place) (Some n) ≡ Some (known.expected, known.since)
reader_by world place n cell known first at kept stands = ap (λ (o : Option (Cell × ℕ)). streams.reader_at o n) at ∙ ap reader_in kept ∙ ap (λ (b : Bool). cond {A = Option streams.Reader} b None (Some (known.expected, known.since))) stands

pub reader_at_end : (world : World) (socket : WorldSocket) (e : End) (place n : ℕ) (cell : Cell × ℕ) (known : Socket) → (end_of e socket).cell ≡ Some place → (end_of e socket).number ≡ Some n → slice_get world.cells place ≡ Some cell → find (is_socket n) cell.0.host.sockets ≡ Some known → is_ended known.stage ≡ false
    → reader_of world socket e ≡ Some (known.expected, known.since)
reader_at_end world socket e place n cell known c m at kept stands =
    ap (λ (o : Option ℕ). reads_at (readers_of world.cells) (first_at e) o (end_of e socket).number) c ∙ ap (λ (o : Option ℕ). reads_at (readers_of world.cells) (first_at e) (Some place) o) m ∙ reader_by world place n cell known (first_at e) at kept stands

-- the record of an end of x
pub host_has : (world : World) (party : Side → Party) (x : Side) (n : ℕ) (known : Socket) (cell : Cell × ℕ) → slice_get world.cells (party x).place ≡ Some cell → find (is_socket n) (host_of (scene_of party world) x).sockets ≡ Some known → find (is_socket n) cell.0.host.sockets ≡ Some known
host_has world party x n known cell at kept = ap (λ (h : HostState). find (is_socket n) h.sockets) (sym (host_is world (party x).place cell at)) ∙ kept

pub stands_as : (journal : List Line) (log : List Entry) (world : World) (party : Side → Party) → IsGiven journal log world party → (x : Side) (e : End) (i n : ℕ) (socket : WorldSocket) (known : Socket) → HasEnd (scene_of party world) x e i n socket → (cell : Cell × ℕ) → slice_get world.cells (party x).place ≡ Some cell
    → find (is_socket n) cell.0.host.sockets ≡ Some known → known.stage ≡ (end_of e socket).stage
stands_as journal log world party g x e i n socket known has cell at kept =
    let record_of = kept_as journal log world party g x e i n socket has cell at in
    ap (λ (s : Socket). s.stage) (given known record_of.known (sym kept ∙ record_of.is)) ∙ record_of.stands

pub reader_known : (journal : List Line) (log : List Entry) (world : World) (party : Side → Party) → IsGiven journal log world party → (x : Side) (e : End) (i n : ℕ) (socket : WorldSocket) (known : Socket) → HasEnd (scene_of party world) x e i n socket → find (is_socket n) (host_of (scene_of party world) x).sockets ≡ Some known
    → is_ended (end_of e socket).stage ≡ false → reader_of world socket e ≡ Some (known.expected, known.since)
reader_known journal log world party g x e i n socket known has kept stands =
    let at = hosted journal log world party g x in
    let held = held_by (party x).place n (end_of e socket) has.end in
    let there = host_has world party x n known at.0 at.1 kept in
    reader_at_end world socket e (party x).place n at.0 known held.0 held.1 at.1 there (ap is_ended (stands_as journal log world party g x e i n socket known has at.0 at.1 there) ∙ stands)

-- an end that stands isn't over, as none is cut
pub not_over : (journal : List Line) (log : List Entry) (world : World) (party : Side → Party) → IsGiven journal log world party → (socket : WorldSocket) → IsIn socket world → (e : End) → is_ended (end_of e socket).stage ≡ false → is_over (end_of e socket) ≡ false
not_over journal log world party g socket is e stands = ap (λ (b : Bool). b || (end_of e socket).is_cut) stands ∙ (g.used socket.name socket is).uncut e

pub spelled_at : (journal : List Line) (log : List Entry) (world : World) (party : Side → Party) → IsGiven journal log world party → (x : Side) (e : End) (i n : ℕ) (socket : WorldSocket) (known : Socket) → HasEnd (scene_of party world) x e i n socket → find (is_socket n) (host_of (scene_of party world) x).sockets ≡ Some known
    → is_ended (end_of e socket).stage ≡ false → (all : List Item) × (known.since ++ (end_of e socket).unread ≡ spellings all) × MayFollow known.expected all
spelled_at journal log world party g x e i n socket known has kept stands =
    let is = is_in journal log world party g i socket has.at in
    let by = opened_by journal log world party g socket has.between in
    let named = named_both journal log world party g socket by.0 by.1 in
    let s : Spelled (known.expected, known.since) (end_of e socket).unread (due_of_end world socket (ends.other e)) = flows_so (reader_of world socket e) (is_over (end_of e socket)) (end_of e socket).unread (due_of_end world socket (ends.other e)) (known.expected, known.since)
    (reader_known journal log world party g x e i n socket known has kept stands) (not_over journal log world party g socket is e stands) (flows journal log world party g socket is named.0 named.1 e) in
    (s.items, s.whole, s.each)

-- ---- an end is read as it is seen

first_same : (e : End) → first_at e ≡ first_of e
first_same O = refl
first_same T = refl

reader_seen : (journal : List Line) (log : List Entry) (world : World) (party : Side → Party) → IsGiven journal log world party → (i : ℕ) (socket : WorldSocket) → slice_get world.sockets i ≡ Some socket → is_between (party Lesser).name (party Greater).name socket.name ≡ true
    → (e : End) → is_ended (end_of e socket).stage ≡ false → reader_of world socket e ≡ Some (seen.reader_at (hosts_of world) (first_of e) (end_of e socket))
reader_seen journal log world party g i socket there between e stands = subst OfCell (sym side.cell) (by_number (end_of e socket).number refl) where
  OfCell : Option ℕ → Type 0
  OfCell cell = reads_at (readers_of world.cells) (first_at e) cell (end_of e socket).number ≡ Some (seen.reader_of (first_of e) (seen.record_of (hosts_of world) cell (end_of e socket).number))

  is : IsIn socket world
  is = is_in journal log world party g i socket there

  side : IsOfSide party e socket
  side = of_side journal log world party g socket is between e

  OfNumber : Option ℕ → Type 0
  OfNumber number = reads_at (readers_of world.cells) (first_at e) (Some (party side.side).place) number ≡ Some (seen.reader_of (first_of e) (seen.record_of (hosts_of world) (Some (party side.side).place) number))

  by_record : (n : ℕ) (cell : Cell × ℕ) (known : Socket) → slice_get world.cells (party side.side).place ≡ Some cell → find (is_socket n) cell.0.host.sockets ≡ Some known → is_ended known.stage ≡ false → OfNumber (Some n)
  by_record n cell known at kept upright = reader_by world (party side.side).place n cell known (first_at e) at kept upright
      ∙ sym (ap (λ (h : HostState). Some (seen.reader_of (first_of e) (find (is_socket n) h.sockets))) (host_is world (party side.side).place cell at) ∙ ap (λ (o : Option Socket). Some (seen.reader_of (first_of e) o)) kept)

  by_number : (m : Option ℕ) → (end_of e socket).number ≡ m → OfNumber m
  by_number None m = ap (λ (f : Expected). Some (f, [])) (first_same e)
  by_number (Some n) m =
      let at = hosted journal log world party g side.side in
      let target = ap is_some (of_side journal log world party g socket is between T).cell in
      let has : HasEnd (scene_of party world) side.side e i n socket = record { at = there; end = is_held (party side.side).place n (end_of e socket) side.cell m; between = between; opener = side.opener; target = target } in
      let kept = kept_as journal log world party g side.side e i n socket has at.0 at.1 in
      by_record n at.0 kept.known at.1 kept.is (ap is_ended kept.stands ∙ stands)

-- ---- what is due may be written

twice : (e : End) → ends.other (ends.other e) ≡ e
twice O = refl
twice T = refl

due_there : (world : World) (party : Side → Party) (x : Side) (e : End) (i n : ℕ) (socket : WorldSocket) → HasEnd (scene_of party world) x e i n socket → (cell : Cell × ℕ) → slice_get world.cells (party x).place ≡ Some cell → due_of_end world socket e ≡ due_at (host_of (scene_of party world) x) n
due_there world party x e i n socket has cell at = let held = held_by (party x).place n (end_of e socket) has.end in
    ap (λ (o : Option ℕ). writes_at (dues_of world.cells) o (end_of e socket).number) held.0 ∙ ap (λ (o : Option ℕ). writes_at (dues_of world.cells) (Some (party x).place) o) held.1
    ∙ ap (λ (o : Option (Cell × ℕ)). due_in o n) at ∙ ap (λ (h : HostState). due_at h n) (sym (host_is world (party x).place cell at))

pub takes : (journal : List Line) (log : List Entry) (world : World) (party : Side → Party) → IsGiven journal log world party → (x : Side) (e : End) (i n : ℕ) (socket : WorldSocket) → HasEnd (scene_of party world) x e i n socket → (due : Due) → due_at (host_of (scene_of party world) x) n ≡ Some due
    → (item : Item) → ((k : Expected) → Fits k (Some due) → MayStand k item) → TakesItem (hosts_of world) (first_of (ends.other e)) (end_of (ends.other e) socket) item
takes journal log world party g x e i n socket has due is_due item may over = record { items = s.items; whole = s.whole; each = s.each; next = may (expected_after reader.0 s.items) (subst (Fits (expected_after reader.0 s.items)) due_is s.next) } where
  f : End
  f = ends.other e

  is : IsIn socket world
  is = is_in journal log world party g i socket has.at

  by : (z : Side) × IsOpenedBy party socket z
  by = opened_by journal log world party g socket has.between

  named : IsBetweenNames socket.name
  named = named_both journal log world party g socket by.0 by.1

  reader : streams.Reader
  reader = seen.reader_at (hosts_of world) (first_of f) (end_of f socket)

  due_is : due_of_end world socket (ends.other f) ≡ Some due
  due_is = let at = hosted journal log world party g x in ap (due_of_end world socket) (twice e) ∙ due_there world party x e i n socket has at.0 at.1 ∙ is_due

  s : Spelled reader (end_of f socket).unread (due_of_end world socket (ends.other f))
  s = flows_so (reader_of world socket f) (is_over (end_of f socket)) (end_of f socket).unread (due_of_end world socket (ends.other f)) reader
      (reader_seen journal log world party g i socket has.at has.between f (or_parts (is_ended (end_of f socket).stage) (end_of f socket).is_cut over).0) over (flows journal log world party g socket is named.0 named.1 f)

-- a request from one of the two to the other may be read
pub may_be_read : (journal : List Line) (log : List Entry) (world : World) (party : Side → Party) → IsGiven journal log world party → (x : Side) → IsRequest (record { target = (party (other x)).address.id; from = (party x).address })
may_be_read journal log world party g x = may_be_asked (λ end. (party x).address) world.names (record { from = (party x).name; to = (party (other x)).name; number = 0 }) (addresses_in journal log world party g)
    (names_are journal party g.many g.pair x) (names_are journal party g.many g.pair (other x)) 0 (party (other x)).address (called_in journal log world party g x) (called_in journal log world party g (other x))

pub asking_fits : (end : ℕ) (peer : Address) (item : Item) → MayStand expected.Request item → (k : Expected) → Fits k (Some (Asking end peer)) → MayStand k item
asking_fits end peer item may k is = subst (λ (e : Expected). MayStand e item) (sym is) may

pub answering_fits : (answer : Answer) (k : Expected) → Fits k (Some Answering) → MayStand k (items.Answer answer)
answering_fits answer k is = subst (λ (e : Expected). MayStand e (items.Answer answer)) (sym is) tt

pub framing_fits : (frame : Frame) → IsFrame frame → (k : Expected) → Fits k (Some Framing) → MayStand k (items.Frame frame)
framing_fits frame may k is = subst (λ (e : Expected). MayStand e (items.Frame frame)) (sym is) may
