-- A request that is read at another's socket asks no link of the two.
use Rattle.std.proofs.Common.{◌≡◌, ℕ, Bool, true, false, ◌&&◌, List, [], ◌∷◌, ◌++◌, drop, inl, inr, refl, sym, ap, ◌∙◌, subst}
use Rattle.std.proofs.lemmas.Bool.{and_parts}
use Rattle.std.specs.Prelude.{◌==◌, find, is_some, slice_get, Option, Some, None}
use Rattle.ch_base.specs.declared.address.Address.{Address}
use Rattle.ch_wire.specs.Spelling.{IsRequest, request_spelling}
use Rattle.ch_wire.specs.declared.request.Request.{Request}
use Rattle.ch_reader.specs.Items.{spellings, MayStand, MayFollow}
use Rattle.ch_reader.specs.declared.item.Expected.{Expected}
use Rattle.ch_reader.specs.declared.item.Expected.TheVariants as expected
use Rattle.ch_reader.specs.declared.item.Front.TheVariants.{Whole}
use Rattle.ch_reader.specs.declared.item.Item.{Item}
use Rattle.ch_reader.specs.declared.item.Item.TheVariants as items
use Rattle.ch_watch.specs.Same.{same_node}
use Rattle.ch_model.specs.declared.entry.Entry.{Entry}
use Rattle.ch_model.specs.declared.line.Line.{Line}
use Rattle.ch_model.specs.declared.name.End.{End}
use Rattle.ch_model.specs.declared.name.End.TheVariants.{O, T}
use Rattle.ch_model.specs.Host.{front_of}
use Rattle.ch_model.specs.HostState.{Socket}
use Rattle.ch_model.specs.HostSteps.{is_socket}
use Rattle.ch_model.specs.Naming.{Names, called}
use Rattle.ch_model.specs.Same.{is_between}
use Rattle.ch_model.specs.Stages.{is_ended}
use Rattle.ch_model.specs.World.{names_of, world_new}
use Rattle.ch_model.specs.WorldSockets as ends
use Rattle.ch_model.specs.WorldSockets.{end_of, is_end_of, is_host_of, cell_of}
use Rattle.ch_model.specs.WorldState.{Cell, Named, WorldSocket, World}
use Rattle.ch_race.specs.Pair.{Side, Lesser, Greater, other}
use Rattle.ch_laws_log.specs.Declared.{is_declared}
use Rattle.ch_laws_log.proofs.Keys.{node_is}
use Rattle.ch_laws_log.proofs.Kept.{IsIn}
use Rattle.ch_laws_log.proofs.Stored.{number_is}
use Rattle.ch_laws_ends.proofs.Happen.{its_stage}
use Rattle.ch_laws_reads.specs.Reads.{AreReadOf}
use Rattle.ch_laws_reads.proofs.Stays.{read_of_spelled}
use Rattle.ch_laws_bytes.specs.Streams.{Spelled, AreAddresses, is_over, reader_of, due_of_end}
use Rattle.ch_laws_bytes.proofs.Asked.{may_be_asked}
use Rattle.ch_laws_bytes.proofs.Lines.{own_of}
use Rattle.ch_laws_race.specs.Scene.{Party}
use Rattle.ch_laws_race.specs.Others.{IsFree}
use Rattle.ch_laws_race.proofs.Sockets.{given}
use Rattle.ch_laws_calls.specs.Scenes.{IsOthersLink, scene_of}
use Rattle.ch_laws_calls.specs.Users.{BeginsRequest, IsAskedAs}
use Rattle.ch_laws_calls.proofs.ScenesGiven.{IsGiven, called_in}
use Rattle.ch_laws_calls.proofs.ScenesHeld.{held_by, IsKept, kept_there, found_at}
use Rattle.ch_laws_calls.proofs.ScenesNames.{called_is_at}
use Rattle.ch_laws_calls.proofs.ScenesPlaces.{Stands, stands_at, host_parts}
use Rattle.ch_laws_calls.proofs.ScenesPeers.{ArePeers, are_peers, between_names}
use Rattle.ch_laws_calls.proofs.ScenesDialed.{opened_as, IsDialed, dialed, is_in}
use Rattle.ch_laws_calls.proofs.ScenesStreams.{flows, flows_so, reader_at_end, not_over}
use Rattle.ch_laws_calls.proofs.ScenesFacts.{held_there}
use Rattle.ch_laws_calls.proofs.ScenesRequests.{one_request, some_request}

-- ---- addresses that are called by one declared name

found_by : (o : Option Named) → is_some o ≡ true → (d : Named) × (o ≡ Some d)
found_by None e = absurd cc
found_by (Some d) e = (d, refl)

-- two addresses that a declared name calls are one
same_address : (journal : List Line) (log : List Entry) (world : World) (party : Side → Party) → IsGiven journal log world party → (name : List ℕ) (a b : Address) → is_declared (names_of journal) name ≡ true → (name ≡ [] → ⊥) → called world.names a ≡ name → called world.names b ≡ name → a ≡ b
same_address journal log world party g name a b declared some e f =
    let d = found_by _ declared in
    called_is_at (names_of journal) a name d.0 g.names some d.1 (subst (λ (known : Names). called known a ≡ name) g.sound.ends.set.names e)
    ∙ sym (called_is_at (names_of journal) b name d.0 g.names some d.1 (subst (λ (known : Names). called known b ≡ name) g.sound.ends.set.names f))

-- an address that is at a host of one of the two, with its number, is that one's
its_address : (journal : List Line) (log : List Entry) (world : World) (party : Side → Party) → IsGiven journal log world party → (z : Side) (a : Address) → cell_of (world_new journal) a ≡ Some (party z).place → a.id ≡ (party z).address.id → a ≡ (party z).address
its_address journal log world party g z a at id = by_cells there its where
  there : Stands (is_host_of a) (world_new journal).cells (party z).place
  there = stands_at (is_host_of a) (world_new journal).cells (party z).place at

  its : Stands (is_host_of (party z).address) (world_new journal).cells (party z).place
  its = stands_at (is_host_of (party z).address) (world_new journal).cells (party z).place (g.pair.placed z)

  by_parts : a.host ≡ (party z).address.host → a.port ≡ (party z).address.port → a ≡ (party z).address
  by_parts h p = ap (λ (x : List ℕ). record { host = x; port = a.port; id = a.id }) h ∙ ap (λ (n : ℕ). record { host = (party z).address.host; port = n; id = a.id }) p ∙ ap (λ (n : ℕ). record { host = (party z).address.host; port = (party z).address.port; id = n }) id

  by_cells : Stands (is_host_of a) (world_new journal).cells (party z).place → Stands (is_host_of (party z).address) (world_new journal).cells (party z).place → a ≡ (party z).address
  by_cells s t =
      let same : s.0 ≡ t.0 = given s.0 t.0 (sym s.1 ∙ t.1) in
      let one = host_parts a s.0 s.2 in
      let two = host_parts (party z).address t.0 t.2 in
      by_parts (sym one.0 ∙ ap (λ (c : Cell × ℕ). c.0.host.host) same ∙ two.0) (sym one.1 ∙ ap (λ (c : Cell × ℕ). c.0.host.port) same ∙ two.1)

-- ---- what is read first at any end

-- a reader that has a request reads requests
asks : (e : Expected) (r : Request) → MayStand e (items.Request r) → e ≡ expected.Request
asks expected.Request r may = refl
asks expected.Answer r may = absurd may
asks expected.Frame r may = absurd may

-- an end that has a request to read: it reads requests, and begins with this one
record IsReading (known : Socket) (unread : List ℕ) (r : Request) : Type 0 where
  expects : known.expected ≡ expected.Request
  may : IsRequest r
  more : List ℕ
  begins : known.since ++ unread ≡ request_spelling r ++ more

is_reading : (known : Socket) (unread : List ℕ) (r : Request) (all : List Item) → known.since ++ unread ≡ spellings all → MayFollow known.expected all → (front_of known).0 ≡ Whole (items.Request r) → IsReading known unread r
is_reading known unread r all whole each front = by_split (read_of_spelled known.expected expected.Frame known.since (drop (front_of known).1 known.since) unread all (items.Request r ∷ []) whole each (front, (refl, refl))) where
  by_split : AreReadOf all (items.Request r ∷ []) expected.Frame (drop (front_of known).1 known.since) unread → IsReading known unread r
  by_split of =
      let follow : MayFollow known.expected (items.Request r ∷ of.rest) = subst (MayFollow known.expected) of.split each in
      let is = asks known.expected r follow.0 in
      record { expects = is; may = subst (λ (e : Expected). MayStand e (items.Request r)) is follow.0; more = spellings of.rest; begins = whole ∙ ap spellings of.split }

-- ---- a request of others

-- the opener's end reads no request
opener_reads : (journal : List Line) (log : List Entry) (world : World) (party : Side → Party) → IsGiven journal log world party → (place n i : ℕ) (socket : WorldSocket) (cell : Cell × ℕ) (known : Socket) → slice_get world.cells place ≡ Some cell → find (is_socket n) cell.0.host.sockets ≡ Some known
    → slice_get world.sockets i ≡ Some socket → is_end_of place n socket.o ≡ true → known.expected ≡ expected.Request → ⊥
opener_reads journal log world party g place n i socket cell known at kept there of expects = none_or (d.used.end, d.used.peer) known.user (sym (ap (λ (s : Socket). s.user) one) ∙ d.used.user) ((g.sound.ends.flowing.orderly place cell at).sockets n known kept).unasked where
  d : IsDialed journal world socket
  d = dialed journal log world party g socket (is_in journal log world party g i socket there)

  held : (socket.o.cell ≡ Some place) × (socket.o.number ≡ Some n)
  held = held_by place n socket.o of

  same_cell : d.cell ≡ cell
  same_cell = given d.cell cell (sym d.at ∙ ap (λ (p : ℕ). slice_get world.cells p) (given d.place place (sym d.cell_is ∙ held.0)) ∙ at)

  one : d.held ≡ known
  one = given d.held known (sym d.kept ∙ ap (λ (m : ℕ). find (is_socket m) d.cell.0.host.sockets) (given d.n n (sym d.number_is ∙ held.1)) ∙ ap (λ (c : Cell × ℕ). find (is_socket n) c.0.host.sockets) same_cell ∙ kept)

  none_or : (u : ℕ × Address) (o : Option (ℕ × Address)) → o ≡ Some u → (known.expected ≡ expected.Request → o ≡ None) → ⊥
  none_or u o e f = let no = f expects in absurd cc

target_asks : (journal : List Line) (log : List Entry) (world : World) (party : Side → Party) → IsGiven journal log world party → (place n i : ℕ) (socket : WorldSocket) (cell : Cell × ℕ) (known : Socket) (r : Request) → slice_get world.cells place ≡ Some cell → find (is_socket n) cell.0.host.sockets ≡ Some known
    → IsFree (scene_of party world) place n → is_ended known.stage ≡ false → slice_get world.sockets i ≡ Some socket → is_end_of place n socket.t ≡ true → known.stage ≡ socket.t.stage → IsReading known socket.t.unread r → IsOthersLink party place r.target r.from
target_asks journal log world party g place n i socket cell known r at kept free stands there of stage reads z here = by_test ((r.target == (party z).address.id) && same_node r.from (party (other z)).address) refl where
  is : IsIn socket world
  is = is_in journal log world party g i socket there

  held : (socket.t.cell ≡ Some place) × (socket.t.number ≡ Some n)
  held = held_by place n socket.t of

  d : IsDialed journal world socket
  d = dialed journal log world party g socket is

  peers : ArePeers (names_of journal) socket.name
  peers = are_peers journal log world party g socket is

  named : (socket.name.from ≡ [] → ⊥) × (socket.name.to ≡ [] → ⊥)
  named = between_names journal log world party g socket is

  reader : reader_of world socket T ≡ Some (expected.Request, known.since)
  reader = reader_at_end world socket T place n cell known held.0 held.1 at kept stands ∙ ap (λ (e : Expected). Some (e, known.since)) reads.expects

  asked : IsAskedAs (own_of journal d.place) world.names socket.name (known.since ++ socket.t.unread)
  asked = (g.used socket.name socket is).request d.place known.since d.cell_is (not_over journal log world party g socket is T (ap is_ended (sym stage) ∙ stands)) reader

  clash : (b : BeginsRequest (own_of journal d.place) world.names socket.name (known.since ++ socket.t.unread)) → r.target ≡ (party z).address.id → r.from ≡ (party (other z)).address → ⊥
  clash b target from = never no where
    never : true ≡ false → ⊥
    never e = cc

    it : r ≡ record { target = b.asked.id; from = own_of journal d.place b.asker }
    it = one_request r (record { target = b.asked.id; from = own_of journal d.place b.asker }) reads.more b.more reads.may
        (may_be_asked (own_of journal d.place) world.names socket.name (subst AreAddresses (sym g.sound.ends.set.names) g.addresses) named.0 named.1 b.asker b.asked b.from b.to)
        (sym reads.begins ∙ b.begins)

    leads : b.asked ≡ (g.used socket.name socket is).leads.asked
    leads = same_address journal log world party g socket.name.to b.asked (g.used socket.name socket is).leads.asked peers.to named.1 b.to (g.used socket.name socket is).leads.to

    there_too : cell_of (world_new journal) b.asked ≡ Some (party z).place
    there_too = ap (cell_of (world_new journal)) leads ∙ sym (g.used socket.name socket is).leads.cell ∙ held.0 ∙ ap Some (sym here)

    own : b.asked ≡ (party z).address
    own = its_address journal log world party g z b.asked there_too (sym (ap (λ (s : Request). s.target) it) ∙ target)

    to_z : socket.name.to ≡ (party z).name
    to_z = sym b.to ∙ ap (called world.names) own ∙ called_in journal log world party g z

    from_other : socket.name.from ≡ (party (other z)).name
    from_other = sym b.from ∙ ap (called world.names) (sym (ap (λ (s : Request). s.from) it) ∙ from) ∙ called_in journal log world party g (other z)

    twice : (x : Side) → other (other x) ≡ x
    twice Lesser = refl
    twice Greater = refl

    between : is_between (party Lesser).name (party Greater).name socket.name ≡ true
    between = (opened_as journal log world party g socket (other z) from_other (to_z ∙ ap (λ (x : Side). (party x).name) (sym (twice z)))).0

    no : true ≡ false
    no = sym of ∙ free i socket there between T

  by_asked : IsAskedAs (own_of journal d.place) world.names socket.name (known.since ++ socket.t.unread) → r.target ≡ (party z).address.id → r.from ≡ (party (other z)).address → ⊥
  by_asked (inl empty) target from = some_request r reads.more reads.may (sym reads.begins ∙ empty)
  by_asked (inr b) target from = clash b target from

  by_test : (b : Bool) → ((r.target == (party z).address.id) && same_node r.from (party (other z)).address) ≡ b → b ≡ false
  by_test false h = refl
  by_test true h = let parts = and_parts (r.target == (party z).address.id) (same_node r.from (party (other z)).address) h in
      absurd (by_asked asked (number_is r.target (party z).address.id parts.0) (node_is r.from (party (other z)).address parts.1))

pub asks_others : (journal : List Line) (log : List Entry) (world : World) (party : Side → Party) → IsGiven journal log world party → (place n : ℕ) (cell : Cell × ℕ) (known : Socket) (r : Request) → slice_get world.cells place ≡ Some cell → find (is_socket n) cell.0.host.sockets ≡ Some known
    → IsFree (scene_of party world) place n → is_ended known.stage ≡ false → (front_of known).0 ≡ Whole (items.Request r) → IsOthersLink party place r.target r.from
asks_others journal log world party g place n cell known r at kept free stands front =
    let held = held_there journal log world party g place n cell known at kept in
    let found = found_at place n world.sockets held.0 held.1 in
    by_end held.0.1 found.i found.socket found.there found.of where
      stage_of : (e : End) (i : ℕ) (socket : WorldSocket) → slice_get world.sockets i ≡ Some socket → is_end_of place n (end_of e socket) ≡ true → known.stage ≡ (end_of e socket).stage
      stage_of e i socket there of =
          let both = held_by place n (end_of e socket) of in
          let record_of : IsKept (find (is_socket n) cell.0.host.sockets) (end_of e socket).stage = kept_there (find (is_socket n) cell.0.host.sockets) (end_of e socket).stage
          (g.sound.ends.sure.ends.agrees.ends place cell at n ∙ its_stage journal log world socket e place n g.sound.ends.sure (is_in journal log world party g i socket there) both.0 both.1) in
          ap (λ (s : Socket). s.stage) (given known record_of.known (sym kept ∙ record_of.is)) ∙ record_of.stands

      reads : (e : End) (i : ℕ) (socket : WorldSocket) → slice_get world.sockets i ≡ Some socket → is_end_of place n (end_of e socket) ≡ true → IsReading known (end_of e socket).unread r
      reads e i socket there of =
          let is = is_in journal log world party g i socket there in
          let both = held_by place n (end_of e socket) of in
          let named = between_names journal log world party g socket is in
          let s : Spelled (known.expected, known.since) (end_of e socket).unread (due_of_end world socket (ends.other e)) = flows_so (reader_of world socket e) (is_over (end_of e socket)) (end_of e socket).unread (due_of_end world socket (ends.other e)) (known.expected, known.since)
          (reader_at_end world socket e place n cell known both.0 both.1 at kept stands) (not_over journal log world party g socket is e (ap is_ended (sym (stage_of e i socket there of)) ∙ stands)) (flows journal log world party g socket is named.0 named.1 e) in
          is_reading known (end_of e socket).unread r s.items s.whole s.each front

      by_end : (e : End) (i : ℕ) (socket : WorldSocket) → slice_get world.sockets i ≡ Some socket → is_end_of place n (end_of e socket) ≡ true → IsOthersLink party place r.target r.from
      by_end O i socket there of = absurd (opener_reads journal log world party g place n i socket cell known at kept there of (reads O i socket there of).expects)
      by_end T i socket there of = target_asks journal log world party g place n i socket cell known r at kept free stands there of (stage_of T i socket there of) (reads T i socket there of)
