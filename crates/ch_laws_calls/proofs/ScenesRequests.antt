-- What the ends of two nodes read first: the request of the other node, which is no mismatch; and no answer that its host text is false.
use Rattle.std.proofs.Common.{◌≡◌, ℕ, Bool, true, false, not, ◌||◌, List, [], ◌∷◌, ◌++◌, map, inl, inr, refl, sym, ap, ◌∙◌, subst}
use Rattle.std.proofs.lemmas.Slice.Eq.{bytes_eq-Decides}
use Rattle.std.specs.List.{list_any}
use Rattle.std.specs.Prelude.{find, is_some, slice_get, Option, Some}
use Rattle.std.specs.Str.{bytes_eq}
use Rattle.ch_base.specs.declared.address.Address.{Address}
use Rattle.ch_wire.specs.Spelling.{IsRequest, request_spelling}
use Rattle.ch_wire.specs.declared.answer.Answer.TheVariants.{Mismatch}
use Rattle.ch_wire.specs.declared.request.Request.{Request}
use Rattle.ch_reader.specs.Items.{spellings, MayFollow}
use Rattle.ch_reader.specs.Reading.{reading}
use Rattle.ch_reader.specs.declared.item.Expected.{Expected}
use Rattle.ch_reader.specs.declared.item.Expected.TheVariants as expected
use Rattle.ch_reader.specs.declared.item.Front.{Front}
use Rattle.ch_reader.specs.declared.item.Front.TheVariants.{Unfinished, Whole}
use Rattle.ch_reader.specs.declared.item.Item.{Item}
use Rattle.ch_reader.specs.declared.item.Item.TheVariants as items
use Rattle.ch_reader.proofs.Bodies.{at}
use Rattle.ch_reader.proofs.Complete.{reads_item}
use Rattle.ch_watch.specs.Same.{same_node}
use Rattle.ch_model.specs.declared.entry.Entry.{Entry}
use Rattle.ch_model.specs.declared.line.Line.{Line}
use Rattle.ch_model.specs.declared.name.End.TheVariants.{O, T}
use Rattle.ch_model.specs.HostItems.{is_mismatch}
use Rattle.ch_model.specs.HostState.{Socket, HostState}
use Rattle.ch_model.specs.HostSteps.{is_socket, own_address}
use Rattle.ch_model.specs.Naming.{Names}
use Rattle.ch_model.specs.Stages.{is_ended}
use Rattle.ch_model.specs.World.{names_of, nodes_of, first_of_hosts, world_new}
use Rattle.ch_model.specs.WorldState.{Cell, Named, WorldSocket, World}
use Rattle.ch_race.specs.Pair.{Side, other}
use Rattle.ch_laws_world.specs.Grows.{Home}
use Rattle.ch_laws_log.specs.Declared.{is_declared}
use Rattle.ch_laws_log.proofs.Kept.{IsIn}
use Rattle.ch_laws_log.proofs.Keys.{node_is}
use Rattle.ch_laws_log.proofs.Stored.{bytes_same}
use Rattle.ch_laws_many.proofs.Addresses.{nodes_are}
use Rattle.ch_laws_many.proofs.Reached.{named}
use Rattle.ch_laws_bytes.specs.Streams.{reader_of}
use Rattle.ch_laws_bytes.proofs.Lines.{own_of}
use Rattle.ch_laws_race.specs.Scene.{Party, host_of}
use Rattle.ch_laws_race.specs.Sound.{HasEnd}
use Rattle.ch_laws_race.specs.Requests.{request_to}
use Rattle.ch_laws_race.proofs.Readings.{other_twice}
use Rattle.ch_laws_calls.specs.Scenes.{scene_of}
use Rattle.ch_laws_calls.specs.Users.{BeginsRequest, IsAskedAs}
use Rattle.ch_laws_calls.proofs.ScenesGiven.{IsGiven, addresses_differ, names_differ, is_called_in, hosted, own_there, own_by, host_is}
use Rattle.ch_laws_calls.proofs.ScenesHeld.{held_by}
use Rattle.ch_laws_calls.proofs.ScenesNames.{text_among}
use Rattle.ch_laws_calls.proofs.ScenesPlaces.{made_at, IsMadeAt, IsHomedAs, homed_as}
use Rattle.ch_laws_calls.proofs.ScenesOpened.{keeps_at}
use Rattle.ch_laws_calls.proofs.ScenesDialed.{IsOpenedBy, opened_by, IsDialed, dialed, is_in}
use Rattle.ch_laws_calls.proofs.ScenesStreams.{host_has, reader_known, not_over, may_be_read}

-- ---- one request at the front of bytes

whole_is : (r s : Request) → Whole (items.Request r) ≡ Whole (items.Request s) → r ≡ s
whole_is r s e = let same : items.Request r ≡ items.Request s = cc in cc

pub one_request : (r s : Request) (xs ys : List ℕ) → IsRequest r → IsRequest s → request_spelling r ++ xs ≡ request_spelling s ++ ys → r ≡ s
one_request r s xs ys may must e = whole_is r s (ap (λ (p : Front × ℕ). p.0) (sym (reads_item expected.Request (items.Request r) xs may) ∙ ap (reading expected.Request) e ∙ reads_item expected.Request (items.Request s) ys must))

pub some_request : (r : Request) (xs : List ℕ) → IsRequest r → request_spelling r ++ xs ≡ [] → ⊥
some_request r xs may e =
    let clash : Whole (items.Request r) ≡ Unfinished = ap (λ (p : Front × ℕ). p.0) (sym (reads_item expected.Request (items.Request r) xs may) ∙ ap (reading expected.Request) e) in
    absurd cc

-- ---- the texts that a host takes

-- each host takes the texts of all nodes
pub circle_is : (journal : List Line) (log : List Entry) (world : World) (party : Side → Party) → IsGiven journal log world party → (place : ℕ) (cell : Cell × ℕ) → slice_get world.cells place ≡ Some cell → cell.0.host.circle ≡ map (λ (n : Named). n.address.host) (names_of journal)
circle_is journal log world party g place cell at = sym (ap (λ (h : Home). h.2) homed.home) ∙ ap (λ (c : Cell × ℕ). c.0.host.circle) (sym made.made) ∙ keeps_at (λ (h : HostState). h.circle) (λ h ends. refl) journal made.address ∙ ap (map (λ (n : Named). n.address.host)) (nodes_are (names_of journal) (named journal g.many)) where
  homed : IsHomedAs (world_new journal).cells place cell
  homed = homed_as world.cells (world_new journal).cells place cell g.sound.ends.homes at

  made : IsMadeAt journal (first_of_hosts [] (nodes_of journal)) place homed.other
  made = made_at journal (first_of_hosts [] (nodes_of journal)) place homed.other homed.at

pub takes_text : (journal : List Line) (log : List Entry) (world : World) (party : Side → Party) → IsGiven journal log world party → (x : Side) (place : ℕ) (cell : Cell × ℕ) → slice_get world.cells place ≡ Some cell → list_any (bytes_eq (party x).address.host) cell.0.host.circle ≡ true
takes_text journal log world party g x place cell at =
    ap (list_any (bytes_eq (party x).address.host)) (circle_is journal log world party g place cell at)
    ∙ subst (λ (a : Address). list_any (bytes_eq a.host) (map (λ (n : Named). n.address.host) (names_of journal)) ≡ true) (g.pair.named x).3 (text_among (names_of journal) (party x).name (g.pair.named x).0 (g.pair.named x).1)

-- ---- the request

-- what is asked at the target of a socket that the other opened
its_request : (journal : List Line) (log : List Entry) (world : World) (party : Side → Party) → IsGiven journal log world party → (x : Side) (socket : WorldSocket) → IsIn socket world → IsOpenedBy party socket (other x) → (place : ℕ) (bytes : List ℕ) (b : BeginsRequest (own_of journal place) world.names socket.name bytes)
    → ◌≡◌ {A = Request} (record { target = b.asked.id; from = own_of journal place b.asker }) (request_to (scene_of party world) x)
its_request journal log world party g x socket is by place bytes b =
    ap (λ (a : Address). record { target = a.id; from = own_of journal place b.asker }) (is_called_in journal log world party g x b.asked (b.to ∙ by.to ∙ ap (λ (z : Side). (party z).name) (other_twice x)))
    ∙ ap (λ (a : Address). record { target = (party x).address.id; from = a }) (is_called_in journal log world party g (other x) (own_of journal place b.asker) (b.from ∙ by.from))

opened_by_other : (journal : List Line) (log : List Entry) (world : World) (party : Side → Party) → IsGiven journal log world party → (x : Side) (i n : ℕ) (socket : WorldSocket) → HasEnd (scene_of party world) x T i n socket → IsOpenedBy party socket (other x)
opened_by_other journal log world party g x i n socket has = let by = opened_by journal log world party g socket has.between in subst (IsOpenedBy party socket) (sym by.1.opener ∙ has.opener) by.1

pub request_is : (journal : List Line) (log : List Entry) (world : World) (party : Side → Party) → IsGiven journal log world party → (x : Side) (i : ℕ) (socket : WorldSocket) (known : Socket) (r : Request) (more : List Item) → HasEnd (scene_of party world) x T i known.number socket
    → find (is_socket known.number) (host_of (scene_of party world) x).sockets ≡ Some known → is_ended socket.t.stage ≡ false → known.expected ≡ expected.Request → known.since ++ socket.t.unread ≡ spellings (items.Request r ∷ more) → MayFollow expected.Request (items.Request r ∷ more)
    → r ≡ request_to (scene_of party world) x
request_is journal log world party g x i socket known r more has kept stands expects whole each = by_asked asked where
  is : IsIn socket world
  is = is_in journal log world party g i socket has.at

  d : IsDialed journal world socket
  d = dialed journal log world party g socket is

  by : IsOpenedBy party socket (other x)
  by = opened_by_other journal log world party g x i known.number socket has

  reads : reader_of world socket T ≡ Some (expected.Request, known.since)
  reads = reader_known journal log world party g x T i known.number socket known has kept stands ∙ ap (λ (e : Expected). Some (e, known.since)) expects

  asked : IsAskedAs (own_of journal d.place) world.names socket.name (known.since ++ socket.t.unread)
  asked = (g.used socket.name socket is).request d.place known.since d.cell_is (not_over journal log world party g socket is T stands) reads

  by_asked : IsAskedAs (own_of journal d.place) world.names socket.name (known.since ++ socket.t.unread) → r ≡ request_to (scene_of party world) x
  by_asked (inl empty) = absurd (some_request r (spellings more) each.0 (sym whole ∙ empty))
  by_asked (inr b) =
      let it = its_request journal log world party g x socket is by d.place (known.since ++ socket.t.unread) b in
      let may : IsRequest (request_to (scene_of party world) x) = subst (λ (z : Side). IsRequest (record { target = (party z).address.id; from = (party (other x)).address })) (other_twice x) (may_be_read journal log world party g (other x)) in
      one_request r (request_to (scene_of party world) x) (spellings more) b.more each.0 may (sym whole ∙ b.begins ∙ ap (λ (s : Request). request_spelling s ++ b.more) it)

-- ---- it is no mismatch

no_node : (a b : Address) → (a ≡ b → ⊥) → same_node a b ≡ false
no_node a b differ = by_test (same_node a b) refl where
  by_test : (t : Bool) → same_node a b ≡ t → t ≡ false
  by_test true h = absurd (differ (node_is a b h))
  by_test false h = refl

matches : (host : HostState) (o : Option (List ℕ)) (text : List ℕ) (target : ℕ) (peer : Address) → o ≡ Some text → bytes_eq peer.host text ≡ true → list_any (bytes_eq peer.host) host.circle ≡ true → same_node peer (own_address host target) ≡ false → is_mismatch host o target peer ≡ false
matches host o text target peer is same taken differs =
    ap (λ (p : Option (List ℕ)). is_mismatch host p target peer) is
    ∙ ap (λ (b : Bool). not b || (not (list_any (bytes_eq peer.host) host.circle) || same_node peer (own_address host target))) same
    ∙ ap (λ (b : Bool). not b || same_node peer (own_address host target)) taken ∙ differs

pub no_mismatch_of : (journal : List Line) (log : List Entry) (world : World) (party : Side → Party) → IsGiven journal log world party → (x : Side) (i : ℕ) (socket : WorldSocket) (known : Socket) → HasEnd (scene_of party world) x T i known.number socket → find (is_socket known.number) (host_of (scene_of party world) x).sockets ≡ Some known
    → is_mismatch (host_of (scene_of party world) x) known.peer_host (party x).address.id (party (other x)).address ≡ false
no_mismatch_of journal log world party g x i socket known has kept =
    let at = hosted journal log world party g x in
    ap (λ (h : HostState). is_mismatch h known.peer_host (party x).address.id (party (other x)).address) (host_is world (party x).place at.0 at.1)
    ∙ matches at.0.0.host known.peer_host socket.from_host (party x).address.id (party (other x)).address peer_host (ap (λ (t : List ℕ). bytes_eq t socket.from_host) text ∙ bytes_same socket.from_host) (takes_text journal log world party g (other x) (party x).place at.0 at.1)
    (no_node (party (other x)).address (own_address at.0.0.host (party x).address.id) (λ e. addresses_differ journal party g.pair x (sym (own_there journal log world party g x at.0 at.1) ∙ sym e))) where
      is : IsIn socket world
      is = is_in journal log world party g i socket has.at

      d : IsDialed journal world socket
      d = dialed journal log world party g socket is

      by : IsOpenedBy party socket (other x)
      by = opened_by_other journal log world party g x i known.number socket has

      peer_host : known.peer_host ≡ Some socket.from_host
      peer_host =
          let at = hosted journal log world party g x in
          let held = held_by (party x).place known.number socket.t has.end in
          ((g.used socket.name socket is).target (party x).place known.number at.0 known held.0 held.1 at.1 (host_has world party x known.number known at.0 at.1 kept)).peer_host

      own : own_of journal d.place d.used.end ≡ (party (other x)).address
      own = is_called_in journal log world party g (other x) (own_of journal d.place d.used.end) (d.used.from ∙ by.from)

      text : (party (other x)).address.host ≡ socket.from_host
      text = sym (ap (λ (a : Address). a.host) (own_by journal log world party g d.place d.used.end d.cell d.at ∙ own)) ∙ sym ((g.used socket.name socket is).from_host d.place d.cell d.cell_is d.at)

-- ---- an answer

declared : (journal : List Line) (log : List Entry) (world : World) (party : Side → Party) → IsGiven journal log world party → (x : Side) (name : List ℕ) → name ≡ (party x).name → is_declared world.names name ≡ true
declared journal log world party g x name e = subst (λ (known : Names). is_declared known name ≡ true) (sym g.sound.ends.set.names) (subst (λ (n : List ℕ). is_declared (names_of journal) n ≡ true) (sym e) (ap is_some (g.pair.named x).1))

pub never_mismatch : (journal : List Line) (log : List Entry) (world : World) (party : Side → Party) → IsGiven journal log world party → (x : Side) (i : ℕ) (socket : WorldSocket) (known : Socket) (more : List Item) → HasEnd (scene_of party world) x O i known.number socket
    → find (is_socket known.number) (host_of (scene_of party world) x).sockets ≡ Some known → is_ended socket.o.stage ≡ false → known.expected ≡ expected.Answer → known.since ++ socket.o.unread ≡ spellings (items.Answer Mismatch ∷ more) → ⊥
never_mismatch journal log world party g x i socket known more has kept stands expects whole =
    let is = is_in journal log world party g i socket has.at in
    let by = opened_by journal log world party g socket has.between in
    (g.used socket.name socket is).answer known.since (spellings more) (declared journal log world party g by.0 socket.name.from by.1.from) (declared journal log world party g (other by.0) socket.name.to by.1.to) apart
    (not_over journal log world party g socket is O stands) (reader_known journal log world party g x O i known.number socket known has kept stands ∙ ap (λ (e : Expected). Some (e, known.since)) expects) whole where
      by : (z : Side) × IsOpenedBy party socket z
      by = opened_by journal log world party g socket has.between

      apart : bytes_eq socket.name.from socket.name.to ≡ false
      apart = by_test (bytes_eq socket.name.from socket.name.to) refl where
        by_test : (b : Bool) → bytes_eq socket.name.from socket.name.to ≡ b → b ≡ false
        by_test true h = absurd (names_differ journal log world party g by.0 (sym by.1.from ∙ (bytes_eq-Decides socket.name.from socket.name.to).0 h ∙ by.1.to))
        by_test false h = refl
