-- What the scene of two nodes says of the sockets between them, by what the log tells of their ends.
use Rattle.std.proofs.Common.{◌≡◌, ◌⊎◌, inl, inr, ℕ, suc, Bool, true, false, cond, not, ◌&&◌, ◌||◌, List, [], ◌∷◌, refl, sym, ap, ◌∙◌, subst}
use Rattle.std.proofs.lemmas.Bool.{and_parts}
use Rattle.std.proofs.lemmas.Slice.Eq.{bytes_eq-Decides}
use Rattle.std.specs.List.{list_any, list_all}
use Rattle.std.specs.Option.{option_map}
use Rattle.std.specs.Prelude.{find, is_some, nat_eq, slice_get, Option, Some, None}
use Rattle.std.specs.Str.{bytes_eq}
use Rattle.ch_base.specs.declared.address.Address.{Address}
use Rattle.ch_link.specs.Sockets.{names}
use Rattle.ch_link.specs.declared.LinkState.{LinkState}
use Rattle.ch_link.specs.declared.LinkState.TheVariants.{Idle, Dialing, AwaitOther, Up}
use Rattle.ch_reader.specs.declared.item.Expected.{Expected}
use Rattle.ch_reader.specs.declared.item.Expected.TheVariants as expected
use Rattle.ch_model.specs.declared.entry.Entry.{Entry}
use Rattle.ch_model.specs.declared.entry.Entry.TheVariants as entries
use Rattle.ch_model.specs.declared.line.Line.{Line}
use Rattle.ch_model.specs.declared.name.End.{End}
use Rattle.ch_model.specs.declared.name.End.TheVariants.{O, T}
use Rattle.ch_model.specs.declared.name.SockName.{SockName}
use Rattle.ch_model.specs.AnswersEntries.{refuses}
use Rattle.ch_model.specs.Declarations.{has_host}
use Rattle.ch_model.specs.HostState.{Socket}
use Rattle.ch_model.specs.HostSteps.{is_socket}
use Rattle.ch_model.specs.Links.{has_risen, is_closed}
use Rattle.ch_model.specs.Same.{is_between}
use Rattle.ch_model.specs.Sockets.{is_opening, opens_opener, opens_target, ends_opener}
use Rattle.ch_model.specs.Stages.{Stage, Pending, Open, Ended, is_ended}
use Rattle.ch_model.specs.World.{names_of}
use Rattle.ch_model.specs.WorldSockets.{end_of, is_end_of, is_socket_named}
use Rattle.ch_model.specs.WorldState.{Cell, WorldSocket, World}
use Rattle.ch_race.specs.Invariant.{Invariant}
use Rattle.ch_race.specs.Naming as naming
use Rattle.ch_race.specs.Naming.{Role, Not, Asks, role, role_o, role_t, NamedAt}
use Rattle.ch_race.specs.Pair.{Side, Lesser, Greater, other, OEnd, OPending, OAsking, OUp, OEnded, TEnd, TPending, TOpen, TUp, TEnded, Sock, Pair, dead}
use Rattle.ch_race.specs.Words.{Phase}
use Rattle.ch_race.proofs.Runs.{invariant_reached}
use Rattle.ch_laws_log.specs.Declared.{is_declared}
use Rattle.ch_laws_log.proofs.Agreeing.{Good}
use Rattle.ch_laws_log.proofs.Seen.{opened_is}
use Rattle.ch_laws_log.proofs.Stored.{find_name}
use Rattle.ch_laws_log.proofs.Told.{fits_after, opener_as_told, target_as_told}
use Rattle.ch_laws_ends.proofs.Known.{TargetIs}
use Rattle.ch_laws_links.specs.Naming.{stage_says, Fits, IsFit, IsNaming, IsDialedBy, IsUpFor}
use Rattle.ch_laws_links.specs.Risings.{IsToldAs}
use Rattle.ch_laws_links.specs.Standing.{Standing, IsPending, IsOpen, IsRisen, IsOver, standing, standing_of}
use Rattle.ch_laws_links.proofs.Journals.{now_at, now_of}
use Rattle.ch_laws_links.proofs.Keys.{number_self}
use Rattle.ch_laws_links.proofs.Says.{used}
use Rattle.ch_laws_many.proofs.Addresses.{declared_hosted}
use Rattle.ch_laws_many.proofs.Reached.{IsJournal}
use Rattle.ch_laws_race.specs.Reading.{IsUser}
use Rattle.ch_laws_race.specs.Scene.{Party, host_in, hosts_of, host_of, link_of}
use Rattle.ch_laws_race.specs.Sound.{HasEnd, first_of, opener_by}
use Rattle.ch_laws_race.specs.View.{Reader, reader_of, record_of, reader_at, opener_end, target_end, opener_of, sock_of, sock_seen, with_places, place_of, view}
use Rattle.ch_laws_race.proofs.Readings.{other_twice}
use Rattle.ch_laws_race.proofs.Sockets.{same_place, place_found}
use Rattle.ch_laws_calls.specs.Scenes.{IsPairOf, scene_of, IsOfSide, SceneFacts}
use Rattle.ch_laws_calls.proofs.ScenesHeld.{is_held}
use Rattle.ch_laws_live.specs.Lives.{Given, is_unended}
use Rattle.ch_laws_live.proofs.Logs.{clash}
use Rattle.ch_laws_live.proofs.Tests.{IsUp}

-- a socket that is found by its name has a place
place_in : (sockets : List WorldSocket) (s : SockName) (w : WorldSocket) → find (is_socket_named s) sockets ≡ Some w → (i : ℕ) × (slice_get sockets i ≡ Some w)
place_in [] s w e = absurd cc
place_in (known ∷ rest) s w e = by_test (is_socket_named s known) e (place_in rest s w) where
  by_test : (b : Bool) → cond b (Some known) (find (is_socket_named s) rest) ≡ Some w → (find (is_socket_named s) rest ≡ Some w → (i : ℕ) × (slice_get rest i ≡ Some w)) → (i : ℕ) × (slice_get (known ∷ rest) i ≡ Some w)
  by_test true e more = (0, e)
  by_test false e more = let one = more e in (suc one.0, one.1)

-- ---- links and roles

names_role : (k : LinkState) (i : ℕ) → (role k i ≡ Not → ⊥) → names k i ≡ true
names_role Idle i n = absurd (n refl)
names_role AwaitOther i n = absurd (n refl)
names_role (Dialing d) i n = by_test (nat_eq i d) n where
  by_test : (b : Bool) → (cond b Asks Not ≡ Not → ⊥) → b ≡ true
  by_test true n = refl
  by_test false n = absurd (n refl)
names_role (Up u probed) i n = by_test (nat_eq i u) n where
  by_test : (b : Bool) → (cond b naming.IsUp Not ≡ Not → ⊥) → b ≡ true
  by_test true n = refl
  by_test false n = absurd (n refl)

pub names_one : (k : LinkState) (i j : ℕ) → names k i ≡ true → names k j ≡ true → i ≡ j
names_one Idle i j a b = absurd cc
names_one AwaitOther i j a b = absurd cc
names_one (Dialing d) i j a b = sym (same_place d i a) ∙ same_place d j b
names_one (Up u probed) i j a b = sym (same_place u i a) ∙ same_place u j b

role_ended : (o : OEnd) → role_o o ≡ Not → o ≡ OEnded
role_ended OPending e = absurd cc
role_ended OAsking e = absurd cc
role_ended OUp e = absurd cc
role_ended OEnded e = refl

-- ---- ends

told_risen : (st : Standing) (r c : Bool) → r ≡ true → c ≡ false → IsToldAs (Some st) r c → st ≡ IsRisen
told_risen IsPending r c e f t = absurd (clash r e t.0)
told_risen IsOpen r c e f t = absurd (clash r e t.0)
told_risen IsRisen r c e f t = refl
told_risen IsOver r c e f t = absurd (clash c t f)

risen_is : (stage : Stage) (x : Expected) → standing stage (stage_says stage x) ≡ IsRisen → (stage ≡ Open) × (x ≡ expected.Frame)
risen_is Pending x e = absurd cc
risen_is Ended x e = absurd cc
risen_is Open expected.Request e = absurd cc
risen_is Open expected.Answer e = absurd cc
risen_is Open expected.Frame e = (refl, refl)

ended_o : (stage : Stage) (x : Expected) → opener_end stage x ≡ OEnded → is_ended stage ≡ true
ended_o Pending x e = absurd cc
ended_o Ended x e = refl
ended_o Open expected.Request e = absurd cc
ended_o Open expected.Answer e = absurd cc
ended_o Open expected.Frame e = absurd cc

none_of_all : (p test : Entry → Bool) → ((x : Entry) → test x ≡ true → p x ≡ false) → (log : List Entry) → list_all test log ≡ true → list_any p log ≡ false
none_of_all p test only [] n = refl
none_of_all p test only (x ∷ log) n = let parts = and_parts (test x) (list_all test log) n in neither (p x) (list_any p log) (only x parts.0) (none_of_all p test only log parts.1) where
  neither : (a b : Bool) → a ≡ false → b ≡ false → (a || b) ≡ false
  neither true b e g = absurd cc
  neither false b e g = g

-- the node of an end, of a socket that this one opened
abbrev pub side_of : End → Side → Side
side_of O z = z
side_of T z = other z

pub side_twice : (e : End) (z : Side) → side_of e (side_of e z) ≡ z
side_twice O z = refl
side_twice T z = other_twice z

-- a socket of the world between the two, that this one opened
pub record IsAt (party : Side → Party) (world : World) (z : Side) (s : SockName) : Type 0 where
  pub i : ℕ
  pub socket : WorldSocket
  pub at : slice_get world.sockets i ≡ Some socket
  pub is : find (is_socket_named s) world.sockets ≡ Some socket
  pub between : is_between (party Lesser).name (party Greater).name socket.name ≡ true
  pub opener : opener_of party socket ≡ z

-- what the host of an end has of it
record IsKept (party : Side → Party) (log : List Entry) (world : World) (e : End) (s : SockName) (socket : WorldSocket) : Type 0 where
  known : Socket
  reader : reader_at (hosts_of world) (first_of e) (end_of e socket) ≡ (known.expected, known.since)
  stage : known.stage ≡ (end_of e socket).stage
  told : IsToldAs (Some (standing_of known)) (has_risen log s e) (is_closed log s e)

module _ (journal : List Line) (j : IsJournal journal) (log : List Entry) (world : World) (g : Given journal log world) (unended : list_all is_unended log ≡ true) where
  good : Good journal log world
  good = g.sound.ends.sure.ends.sorted.0

  pub opened_in : (s : SockName) (socket : WorldSocket) → find (is_socket_named s) world.sockets ≡ Some socket → list_any (is_opening s) log ≡ true
  opened_in s socket is = sym (opened_is log s) ∙ (fits_after journal log world s socket good is).is_opened

  -- an opener's end that isn't closed stands
  pub unclosed_stands : (s : SockName) (socket : WorldSocket) → find (is_socket_named s) world.sockets ≡ Some socket → is_closed log s O ≡ false → is_ended socket.o.stage ≡ false
  unclosed_stands s socket is unclosed = by_state (list_any (is_opening s) log) (is_closed log s O) (list_any (ends_opener s) log) (list_any (opens_opener s) log) socket.o.stage unclosed (none_of_all (ends_opener s) is_unended ends_none log unended)
      (opener_as_told journal log world s socket good is (none_of_all (refuses s) is_unended refuses_none log unended)).stage where
        ends_none : (x : Entry) → is_unended x ≡ true → ends_opener s x ≡ false
        ends_none (entries.Refused sock) u = absurd cc
        ends_none (entries.Quitted sock) u = absurd cc
        ends_none x u = refl

        refuses_none : (x : Entry) → is_unended x ≡ true → refuses s x ≡ false
        refuses_none (entries.Refused sock) u = absurd cc
        refuses_none x u = refl

        given_stage : (a b : Stage) → ◌≡◌ {A = Option Stage} (Some a) (Some b) → a ≡ b
        given_stage a b e = cc

        by_state : (opening closed ends opens : Bool) (stage : Stage) → closed ≡ false → ends ≡ false → cond (not opening) None (cond closed (Some Ended) (Some (cond ends Ended (cond opens Open Pending)))) ≡ Some stage → is_ended stage ≡ false
        by_state false closed ends opens stage c n e = absurd cc
        by_state true true ends opens stage c n e = absurd cc
        by_state true false true opens stage c n e = absurd cc
        by_state true false false true stage c n e = ap is_ended (sym (given_stage Open stage e))
        by_state true false false false stage c n e = ap is_ended (sym (given_stage Pending stage e))

  -- a target's end of a declared node that has ended is closed
  ended_closed : (s : SockName) (socket : WorldSocket) → find (is_socket_named s) world.sockets ≡ Some socket → is_declared (names_of journal) s.to ≡ true → is_some socket.t.cell ≡ true → is_ended socket.t.stage ≡ true → is_closed log s T ≡ true
  ended_closed s socket is declared there over = by_state (list_any (is_opening s) log) (is_closed log s T) (has_host journal s.to) (list_any (opens_target s) log) socket.t.stage refl hosted over
      (target_as_told journal log world s socket good is (there ∙ sym (ap (λ (n : SockName). has_host journal n.to) (find_name s world.sockets socket is) ∙ hosted))).stage where
        hosted : has_host journal s.to ≡ true
        hosted = declared_hosted (names_of journal) journal s.to j.lines declared

        given_stage : (a b : Stage) → ◌≡◌ {A = Option Stage} (Some a) (Some b) → a ≡ b
        given_stage a b e = cc

        by_state : (opening closed host came : Bool) (stage : Stage) → is_closed log s T ≡ closed → host ≡ true → is_ended stage ≡ true → cond (not opening) None (cond closed (Some Ended) (Some (cond (not host) Ended (cond came Open Pending)))) ≡ Some stage → is_closed log s T ≡ true
        by_state opening true host came stage c h over e = c
        by_state false false host came stage c h over e = absurd cc
        by_state true false false came stage c h over e = absurd cc
        by_state true false true true stage c h over e = absurd (clash (is_ended stage) over (ap is_ended (sym (given_stage Open stage e))))
        by_state true false true false stage c h over e = absurd (clash (is_ended stage) over (ap is_ended (sym (given_stage Pending stage e))))

  module _ (party : Side → Party) (pair : IsPairOf journal party) where
    shown : SceneFacts party world
    shown = g.shown party pair

    abbrev pub v : Pair
    v = view (scene_of party world)

    pub so : Invariant v
    so = invariant_reached v (g.raced party pair)

    named_so : (z : Side) (name : SockName) → name.from ≡ (party z).name → name.to ≡ (party (other z)).name
        → (is_between (party Lesser).name (party Greater).name name ≡ true) × (cond (bytes_eq name.from (party Lesser).name) Lesser Greater ≡ z)
    named_so Lesser name from to = (
      ap (λ (b : Bool). b && bytes_eq name.to (party Greater).name || bytes_eq name.from (party Greater).name && bytes_eq name.to (party Lesser).name) ((bytes_eq-Decides name.from (party Lesser).name).1 from)
          ∙ ap (λ (b : Bool). b || bytes_eq name.from (party Greater).name && bytes_eq name.to (party Lesser).name) ((bytes_eq-Decides name.to (party Greater).name).1 to),
      ap (λ (c : Bool). cond c Lesser Greater) ((bytes_eq-Decides name.from (party Lesser).name).1 from),
    )
    named_so Greater name from to = let not_lesser : bytes_eq name.from (party Lesser).name ≡ false = ap (λ (x : List ℕ). bytes_eq x (party Lesser).name) from ∙ shown.names_differ in (
      ap (λ (b : Bool). b && bytes_eq name.to (party Greater).name || bytes_eq name.from (party Greater).name && bytes_eq name.to (party Lesser).name) not_lesser
          ∙ ap (λ (b : Bool). b && bytes_eq name.to (party Lesser).name) ((bytes_eq-Decides name.from (party Greater).name).1 from)
          ∙ (bytes_eq-Decides name.to (party Lesser).name).1 to,
      ap (λ (c : Bool). cond c Lesser Greater) not_lesser,
    )

    pub at_names : (z : Side) (s : SockName) (socket : WorldSocket) → find (is_socket_named s) world.sockets ≡ Some socket → s.from ≡ (party z).name → s.to ≡ (party (other z)).name → IsAt party world z s
    at_names z s socket is from to =
        let name : socket.name ≡ s = find_name s world.sockets socket is in
        let place = place_in world.sockets s socket is in
        let both = named_so z socket.name (ap (λ (n : SockName). n.from) name ∙ from) (ap (λ (n : SockName). n.to) name ∙ to) in
        record { i = place.0; socket = socket; at = place.1; is = is; between = both.0; opener = both.1 }

    module _ (z : Side) (s : SockName) (a : IsAt party world z s) where
      seen_sock : v.sock a.i ≡ sock_of party (hosts_of world) a.socket
      seen_sock = ap (sock_seen party (hosts_of world)) a.at ∙ ap (λ b. cond b (sock_of party (hosts_of world) a.socket) dead) a.between

      pub opener_is : (v.sock a.i).opener ≡ z
      opener_is = ap (λ (k : Sock). k.opener) seen_sock ∙ a.opener

      pub cell_is : (e : End) → (end_of e a.socket).cell ≡ Some (party (side_of e z)).place
      cell_is O = let of : IsOfSide party O a.socket = shown.sides a.i a.socket a.at a.between O in of.cell ∙ ap (λ (x : Side). Some (party x).place) (sym of.opener ∙ a.opener)
      cell_is T = let of : IsOfSide party T a.socket = shown.sides a.i a.socket a.at a.between T in of.cell ∙ ap (λ (x : Side). Some (party x).place) (sym (other_twice of.side) ∙ ap other (sym of.opener ∙ a.opener))

      by_opener : (e : End) → opener_of party a.socket ≡ opener_by e (side_of e z)
      by_opener O = a.opener
      by_opener T = a.opener ∙ sym (other_twice z)

      kept_end : (e : End) (n : ℕ) → (end_of e a.socket).number ≡ Some n → IsKept party log world e s a.socket
      kept_end e n number = record {
        known = held.0;
        reader = ap (λ (c : Option ℕ). reader_of (first_of e) (record_of (hosts_of world) c (end_of e a.socket).number)) (cell_is e)
            ∙ ap (λ (m : Option ℕ). reader_of (first_of e) (record_of (hosts_of world) (Some (party (side_of e z)).place) m)) number ∙ ap (reader_of (first_of e)) held.1;
        stage = shown.stands (side_of e z) e a.i n a.socket held.0 has held.1;
        told = subst (λ (o : Option Standing). IsToldAs o (has_risen log s e) (is_closed log s e)) now_is
            (g.sound.links.tells.held (party (side_of e z)).place n (s, e) (g.sound.ends.sure.ends.each s a.socket e (party (side_of e z)).place n a.is (is_held (party (side_of e z)).place n (end_of e a.socket) (cell_is e) number)));
      } where
        has : HasEnd (scene_of party world) (side_of e z) e a.i n a.socket
        has = record { at = a.at; end = is_held (party (side_of e z)).place n (end_of e a.socket) (cell_is e) number; between = a.between; opener = by_opener e; target = ap is_some (cell_is T) }

        held : (known : Socket) × (find (is_socket n) (host_of (scene_of party world) (side_of e z)).sockets ≡ Some known)
        held = shown.kept (side_of e z) e a.i n a.socket has

        there : (cell : Cell × ℕ) × (slice_get world.cells (party (side_of e z)).place ≡ Some cell)
        there = shown.there (side_of e z)

        now_is : now_of world.cells (party (side_of e z)).place n ≡ Some (standing_of held.0)
        now_is = ap (λ (o : Option (Cell × ℕ)). now_at o n) there.1 ∙ ap (option_map standing_of) (sym (ap (λ (o : Option (Cell × ℕ)). find (is_socket n) (host_in o).sockets) there.1) ∙ held.1)

      up_kept : (e : End) → IsUp log s e → IsKept party log world e s a.socket
      up_kept e up = by_number (end_of e a.socket).number refl where
        by_number : (o : Option ℕ) → (end_of e a.socket).number ≡ o → IsKept party log world e s a.socket
        by_number None n = absurd (clash (has_risen log s e) up.risen (g.sound.links.tells.unheld s e a.socket a.is n).0)
        by_number (Some n) m = kept_end e n m

      up_stands : (e : End) (up : IsUp log s e) → is_closed log s e ≡ false → (k : IsKept party log world e s a.socket) → (k.known.stage ≡ Open) × (k.known.expected ≡ expected.Frame)
      up_stands e up unclosed k = risen_is k.known.stage k.known.expected (told_risen (standing_of k.known) (has_risen log s e) (is_closed log s e) up.risen unclosed k.told)

      pub up_o : IsUp log s O → is_closed log s O ≡ false → (v.sock a.i).o ≡ OUp
      up_o up unclosed = let k = up_kept O up in let stands = up_stands O up unclosed k in
          ap (λ (w : Sock). w.o) seen_sock ∙ ap (λ (r : Reader). opener_end a.socket.o.stage r.0) k.reader ∙ ap (λ (st : Stage). opener_end st k.known.expected) (sym k.stage ∙ stands.0) ∙ ap (opener_end Open) stands.1

      pub up_t : IsUp log s T → is_closed log s T ≡ false → (v.sock a.i).t ≡ TUp
      up_t up unclosed = let k = up_kept T up in let stands = up_stands T up unclosed k in
          ap (λ (w : Sock). w.t) seen_sock ∙ ap (λ (c : Option ℕ). target_end (is_some c) a.socket.t.stage (reader_at (hosts_of world) expected.Request a.socket.t).0) (cell_is T)
          ∙ ap (λ (r : Reader). target_end true a.socket.t.stage r.0) k.reader ∙ ap (λ (st : Stage). target_end true st k.known.expected) (sym k.stage ∙ stands.0) ∙ ap (target_end true Open) stands.1

      named_here : NamedAt v a.i
      named_here = so.named a.i

      pub names_up : (e : End) → IsUp log s e → is_closed log s e ≡ false → names (v.link (side_of e z)) a.i ≡ true
      names_up O up unclosed = names_role (v.link z) a.i (λ no. never (sym (ap role_o (up_o up unclosed)) ∙ named_here.own ∙ ap (λ (x : Side). role (v.link x) a.i) opener_is ∙ no)) where
        never : naming.IsUp ≡ Not → ⊥
        never e = absurd cc
      names_up T up unclosed = names_role (v.link (other z)) a.i (λ no. never (sym (ap role_t (up_t up unclosed)) ∙ named_here.peer ∙ ap (λ (x : Side). role (v.link (other x)) a.i) opener_is ∙ no)) where
        never : naming.IsUp ≡ Not → ⊥
        never e = absurd cc

      pub opener_stands : is_closed log s O ≡ false → (v.sock a.i).o ≡ OEnded → ⊥
      opener_stands unclosed e = clash (is_ended a.socket.o.stage) (ended_o a.socket.o.stage (reader_at (hosts_of world) expected.Answer a.socket.o).0 (sym (ap (λ (w : Sock). w.o) seen_sock) ∙ e)) (unclosed_stands s a.socket a.is unclosed)

      pub names_dial : is_closed log s O ≡ false → names (v.link z) a.i ≡ true
      names_dial unclosed = names_role (v.link z) a.i (λ no. opener_stands unclosed (role_ended (v.sock a.i).o (named_here.own ∙ ap (λ (x : Side). role (v.link x) a.i) opener_is ∙ no)))

      -- an opener that is up has a target that came up, or is closed
      pub target_behind : is_declared (names_of journal) s.to ≡ true → IsUp log s O → is_closed log s O ≡ false → (is_closed log s T ≡ false → has_risen log s T ≡ true)
      target_behind declared up unclosed stays = by_stage a.socket.t.stage refl (subst (λ (o : OEnd). Phase o (v.sock a.i).t) (up_o up unclosed) (so.words a.i).phase) where
        seen_t : (v.sock a.i).t ≡ target_end true a.socket.t.stage (reader_at (hosts_of world) expected.Request a.socket.t).0
        seen_t = ap (λ (w : Sock). w.t) seen_sock ∙ ap (λ (c : Option ℕ). target_end (is_some c) a.socket.t.stage (reader_at (hosts_of world) expected.Request a.socket.t).0) (cell_is T)

        waits : TargetIs a.socket.t.stage a.socket.t.cell a.socket.t.number
        waits = (g.sound.ends.sure.ends.sorted.1 s a.socket a.is).t

        by_told : (st : Standing) (r c : Bool) → st ≡ IsRisen → IsToldAs (Some st) r c → r ≡ true
        by_told IsRisen r c e t = t.0
        by_told IsPending r c e t = absurd cc
        by_told IsOpen r c e t = absurd cc
        by_told IsOver r c e t = absurd cc

        by_expected : (n : ℕ) (k : IsKept party log world T s a.socket) → a.socket.t.stage ≡ Open → (x : Expected) → k.known.expected ≡ x → Phase OUp (target_end true Open x) → has_risen log s T ≡ true
        by_expected n k o expected.Frame e ph = by_told (standing_of k.known) (has_risen log s T) (is_closed log s T) (ap (λ (st : Stage). standing st (stage_says st k.known.expected)) (k.stage ∙ o) ∙ ap (λ (x : Expected). standing Open (stage_says Open x)) e) k.told
        by_expected n k o expected.Request e ph = absurd ph
        by_expected n k o expected.Answer e ph = absurd ph

        by_number : (o : Option ℕ) → a.socket.t.number ≡ o → is_some o ≡ true → a.socket.t.stage ≡ Open → Phase OUp (v.sock a.i).t → has_risen log s T ≡ true
        by_number None n some o ph = absurd cc
        by_number (Some n) m some o ph = let k = kept_end T n m in
            by_expected n k o k.known.expected refl (subst (Phase OUp) (seen_t ∙ ap (λ (r : Reader). target_end true a.socket.t.stage r.0) k.reader ∙ ap (λ (st : Stage). target_end true st k.known.expected) o) ph)

        by_stage : (stage : Stage) → a.socket.t.stage ≡ stage → Phase OUp (v.sock a.i).t → has_risen log s T ≡ true
        by_stage Pending e ph = absurd (subst (Phase OUp) (seen_t ∙ ap (λ (st : Stage). target_end true st (reader_at (hosts_of world) expected.Request a.socket.t).0) e) ph)
        by_stage Open e ph = by_number a.socket.t.number refl (subst (λ (st : Stage). TargetIs st a.socket.t.cell a.socket.t.number) e waits).1 e ph
        by_stage Ended e ph = absurd (clash (is_closed log s T) (ended_closed s a.socket a.is declared (ap is_some (cell_is T)) (ap is_ended e)) stays)

      -- the host of a target's end expects no answer there
      pub target_expects : (n : ℕ) → a.socket.t.number ≡ Some n → (known : Socket) → find (is_socket n) (host_of (scene_of party world) (other z)).sockets ≡ Some known → known.stage ≡ Open → known.expected ≡ expected.Answer → ⊥
      target_expects n number known found stands expects = by_user known.user refl (naming_there.fit n known found) (shown.users (other z) T a.i n a.socket known has found) where
        has : HasEnd (scene_of party world) (other z) T a.i n a.socket
        has = record { at = a.at; end = end_there; between = a.between; opener = by_opener T; target = ap is_some (cell_is T) } where
          end_there : is_end_of (party (other z)).place n a.socket.t ≡ true
          end_there = is_held (party (other z)).place n a.socket.t (cell_is T) number

        there : (cell : Cell × ℕ) × (slice_get world.cells (party (other z)).place ≡ Some cell)
        there = shown.there (other z)

        naming_there : IsNaming (hosts_of world (party (other z)).place)
        naming_there = subst (λ (o : Option (Cell × ℕ)). IsNaming (host_in o)) (sym there.1) (g.sound.links.naming (party (other z)).place there.0 there.1).naming

        no_user : (host : Option (List ℕ)) (stage : Stage) (x : Expected) → stage ≡ Open → x ≡ expected.Answer → Fits host stage None x → ⊥
        no_user None Open expected.Answer o e f = f
        no_user (Some h) Open expected.Answer o e f = f
        no_user host Pending x o e f = absurd cc
        no_user host Ended x o e f = absurd cc
        no_user host Open expected.Request o e f = absurd cc
        no_user host Open expected.Frame o e f = absurd cc

        never_asks : (t : TEnd) → role_t t ≡ Asks → ⊥
        never_asks TPending e = absurd cc
        never_asks TOpen e = absurd cc
        never_asks TUp e = absurd cc
        never_asks TEnded e = absurd cc

        never_both : expected.Frame ≡ expected.Answer → ⊥
        never_both e = absurd cc

        dials_here : (link_of (scene_of party world) (other z)).state ≡ Dialing n → ⊥
        dials_here dials = never_asks (v.sock a.i).t (named_here.peer ∙ ap (λ (x : Side). role (v.link (other x)) a.i) opener_is ∙ ap (λ (k : LinkState). role (with_places (place_of (party (other z)).place world.sockets) k) a.i) dials
            ∙ ap (λ (i : ℕ). cond (nat_eq a.i i) Asks Not) (place_found world.sockets a.i a.socket T (party (other z)).place n shown.apart a.at has.end) ∙ ap (λ b. cond b Asks Not) (number_self a.i))

        by_used : (((link_of (scene_of party world) (other z)).state ≡ Dialing n) × IsDialedBy (party (other z)).address.id (party (other (other z))).address known) ⊎ ((probed : Bool) × ((link_of (scene_of party world) (other z)).state ≡ Up n probed) × IsUpFor (party (other z)).address.id (party (other (other z))).address known) → ⊥
        by_used (inl d) = dials_here d.0
        by_used (inr u) = never_both (sym u.2.expects ∙ expects)

        by_user : (o : Option (ℕ × Address)) → known.user ≡ o → IsFit known → (known.user ≡ None) ⊎ IsUser (scene_of party world) (other z) known → ⊥
        by_user o u fit (inl none) = no_user known.peer_host known.stage known.expected stands expects (subst (λ (w : Option (ℕ × Address)). Fits known.peer_host known.stage w known.expected) none fit)
        by_user o u fit (inr is) = by_used (used (hosts_of world (party (other z)).place) (party (other z)).address.id (party (other (other z))).address n known naming_there found is (ap is_ended stands))
