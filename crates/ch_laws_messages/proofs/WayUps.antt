-- Where both of two nodes are up, they are up on one socket; and which end of a socket a node is up on.
use Rattle.std.proofs.Common.{◌≡◌, ◌≢◌, ◌⊎◌, inl, inr, ℕ, Bool, true, false, cond, ◌&&◌, ◌||◌, List, [], refl, sym, ap, ◌∙◌, subst}
use Rattle.std.proofs.lemmas.Slice.Eq.{bytes_eq-Decides}
use Rattle.std.specs.Prelude.{find, slice_get, nat_eq, Option, Some, None}
use Rattle.std.specs.Str.{bytes_eq}
use Rattle.ch_reader.specs.declared.item.Expected.{Expected}
use Rattle.ch_reader.specs.declared.item.Expected.TheVariants as expected
use Rattle.ch_link.specs.Sockets.{names}
use Rattle.ch_link.specs.declared.LinkState.{LinkState}
use Rattle.ch_link.specs.declared.LinkState.TheVariants as states
use Rattle.ch_model.specs.declared.entry.Entry.{Entry}
use Rattle.ch_model.specs.declared.line.Line.{Line}
use Rattle.ch_model.specs.declared.name.End.{End}
use Rattle.ch_model.specs.declared.name.End.TheVariants.{O, T}
use Rattle.ch_model.specs.declared.name.SockName.{SockName}
use Rattle.ch_model.specs.HostState.{Socket, HostState}
use Rattle.ch_model.specs.HostSteps.{link_with, is_socket}
use Rattle.ch_model.specs.HostWrites.{is_up}
use Rattle.ch_model.specs.Same.{across, is_end_of}
use Rattle.ch_model.specs.Stages.{Stage, Pending, Open, Ended, is_ended}
use Rattle.ch_model.specs.WorldSockets.{end_of, is_socket_named, find_end}
use Rattle.ch_model.specs.WorldState.{Cell, WorldEnd, WorldSocket, World}
use Rattle.ch_race.specs.Invariant.{Invariant}
use Rattle.ch_race.specs.Naming as naming
use Rattle.ch_race.specs.Naming.{role, role_o, role_t, IsLive}
use Rattle.ch_race.specs.Pair.{Side, Item, Lesser, Greater, other, OEnd, OPending, OAsking, OUp, OEnded, TEnd, TPending, TOpen, TUp, TEnded, Pair, Sock, dead}
use Rattle.ch_race.specs.Quiet as quiet
use Rattle.ch_race.specs.Words.{Phase}
use Rattle.ch_race.proofs.Names.{bundle}
use Rattle.ch_race.proofs.Runs.{invariant_reached}
use Rattle.ch_laws_bytes.specs.Streams.{Reader, reader_in, reader_at, reads_at, readers_of, reader_of, first_at, is_over}
use Rattle.ch_laws_calls.specs.Scenes.{IsPairOf, SceneFacts, scene_of}
use Rattle.ch_laws_links.specs.Naming.{IsNaming, IsDialedBy, IsUpFor}
use Rattle.ch_laws_links.proofs.Says.{risen, used, unused}
use Rattle.ch_laws_log.proofs.Stored.{number_same}
use Rattle.ch_laws_race.specs.Reading.{IsUser}
use Rattle.ch_laws_race.specs.Scene.{Party, hosts_of, host_of, link_of}
use Rattle.ch_laws_race.specs.Sound.{HasEnd, opener_by}
use Rattle.ch_laws_race.specs.View.{opener_end, target_end, opener_of, sock_of, sock_seen, with_places, place_of, view}
use Rattle.ch_laws_race.proofs.Readings.{other_twice}
use Rattle.ch_laws_race.proofs.Sockets.{name_found, end_found, place_found}
use Rattle.ch_laws_calls.proofs.ScenesGiven.{host_is}
use Rattle.ch_laws_peers.specs.Says.{IsUpOn}
use Rattle.ch_laws_calls.proofs.UsersKept.{users_used}
use Rattle.ch_laws_peers.specs.Standing.{IsOfNodes, Standing}
use Rattle.ch_laws_messages.proofs.WayPairs.{IsOf, is_of, has_end, same}
use Rattle.ch_laws_messages.proofs.SaidPuts.{one_of}

clash : {A : Type 0} → true ≡ false → A
clash e = absurd cc

-- ---- an end on which x is up

pub record UpAt (party : Side → Party) (world : World) (x : Side) (s : SockName) (e : End) (n : ℕ) : Type 0 where
  pub i : ℕ
  pub socket : WorldSocket
  pub has : HasEnd (scene_of party world) x e i n socket
  pub name : socket.name ≡ s
  pub found : find (is_socket_named s) world.sockets ≡ Some socket

-- the cell of a node of the two
abbrev pub CellOf : (Side → Party) → World → Side → Type 0
CellOf party world x = (cell : Cell × ℕ) × (slice_get world.cells (party x).place ≡ Some cell)

pub cell_of : (journal : List Line) (log : List Entry) (world : World) (party : Side → Party) (x : Side) → Standing journal log world → IsPairOf journal party → CellOf party world x
cell_of journal log world party x st pair = (st.each_pair.shown party pair).there x

-- the end of its link
pub record UpEnd (party : Side → Party) (world : World) (x : Side) (n : ℕ) : Type 0 where
  pub s : SockName
  pub e : End
  pub at : UpAt party world x s e n
  pub end : find_end (party x).place n world.sockets ≡ Some (s, e)

pub up_end : (journal : List Line) (log : List Entry) (world : World) (party : Side → Party) (x : Side) (n : ℕ) (probed : Bool) → Standing journal log world → IsPairOf journal party → (link_of (scene_of party world) x).state ≡ states.Up n probed → UpEnd party world x n
up_end journal log world party x n probed st pair up = record { s = b.1.name; e = b.2; at = record { i = b.0; socket = b.1; has = b.3; name = refl; found = name_found world.sockets b.0 b.1 facts.apart b.3.at }; end = end_found world.sockets b.0 b.1 b.2 (party x).place n facts.apart b.3.at b.3.end } where
  facts : SceneFacts party world
  facts = st.each_pair.shown party pair

  cell : CellOf party world x
  cell = cell_of journal log world party x st pair

  host : host_of (scene_of party world) x ≡ cell.0.0.host
  host = host_is world (party x).place cell.0 cell.1

  known : (known : Socket) × (find (is_socket n) cell.0.0.host.sockets ≡ Some known) × IsUpFor (party x).address.id (party (other x)).address known
  known = risen cell.0.0.host (party x).address.id (party (other x)).address n probed (st.all.sound.links.naming (party x).place cell.0 cell.1).naming (ap (λ (h : HostState). (link_with h (party x).address.id (party (other x)).address).state) (sym host) ∙ up)

  b : (i : ℕ) × (socket : WorldSocket) × (e : End) × HasEnd (scene_of party world) x e i n socket
  b = facts.between x n known.0 (ap (λ (h : HostState). find (is_socket n) h.sockets) host ∙ known.1) known.2.user

pub up_at : (journal : List Line) (log : List Entry) (world : World) (party : Side → Party) (x : Side) (s : SockName) (e : End) → Standing journal log world → IsPairOf journal party → (u : IsUpOn party world x s e) → UpAt party world x s e u.number
up_at journal log world party x s e st pair u = subst (λ (a : SockName × End). UpAt party world x a.0 a.1 u.number) (one_of (it.s, it.e) (s, e) (sym it.end ∙ u.found)) it.at where
  it : UpEnd party world x u.number
  it = up_end journal log world party x u.number u.probed st pair u.up

-- x is up on one end alone
pub up_once : (party : Side → Party) (world : World) (x : Side) (s t : SockName) (e f : End) → IsUpOn party world x s e → IsUpOn party world x t f → (s ≡ t) × (e ≡ f)
up_once party world x s t e f u v = (ap (λ (a : SockName × End). a.0) both, ap (λ (a : SockName × End). a.1) both) where
  number_in : LinkState → ℕ
  number_in (states.Up n probed) = n
  number_in state = 0

  number : u.number ≡ v.number
  number = ap number_in (sym u.up ∙ v.up)

  both : ◌≡◌ {A = SockName × End} (s, e) (t, f)
  both = one_of (s, e) (t, f) (sym u.found ∙ ap (λ (n : ℕ). find_end (party x).place n world.sockets) number ∙ v.found)

-- ---- names

is : (a b : List ℕ) → a ≡ b → bytes_eq a b ≡ true
is a b h = (bytes_eq-Decides a b).1 h

-- an end of x of a socket of the two is called so
pub named_end : (party : Side → Party) (world : World) (x : Side) (e : End) (i n : ℕ) (socket : WorldSocket) → bytes_eq (party Greater).name (party Lesser).name ≡ false → HasEnd (scene_of party world) x e i n socket → is_end_of (party x).name (party (other x)).name socket.name e ≡ true
named_end party world x e i n socket differ has = by_tests (bytes_eq socket.name.from (party Lesser).name) refl (bytes_eq socket.name.to (party Greater).name) refl (bytes_eq socket.name.from (party Greater).name) refl (bytes_eq socket.name.to (party Lesser).name) refl has.between where
  both : (a b : Bool) → a ≡ true → b ≡ true → (a && b) ≡ true
  both true b h g = g
  both false b h g = absurd cc

  Named : Side → End → Type 0
  Named x e = is_end_of (party x).name (party (other x)).name socket.name e ≡ true

  -- the lesser opened it
  of_lesser : bytes_eq socket.name.from (party Lesser).name ≡ true → bytes_eq socket.name.to (party Greater).name ≡ true → (x : Side) (e : End) → opener_by e x ≡ Lesser → Named x e
  of_lesser f t Lesser O h = both _ _ f t
  of_lesser f t Greater T h = both _ _ t f
  of_lesser f t Lesser T h = absurd cc
  of_lesser f t Greater O h = absurd cc

  of_greater : bytes_eq socket.name.from (party Greater).name ≡ true → bytes_eq socket.name.to (party Lesser).name ≡ true → (x : Side) (e : End) → opener_by e x ≡ Greater → Named x e
  of_greater f t Greater O h = both _ _ f t
  of_greater f t Lesser T h = both _ _ t f
  of_greater f t Greater T h = absurd cc
  of_greater f t Lesser O h = absurd cc

  opener : (b : Bool) → bytes_eq socket.name.from (party Lesser).name ≡ b → opener_by e x ≡ cond b Lesser Greater
  opener b h = sym has.opener ∙ ap (λ c. cond c Lesser Greater) h

  by_tests : (a : Bool) → bytes_eq socket.name.from (party Lesser).name ≡ a → (b : Bool) → bytes_eq socket.name.to (party Greater).name ≡ b → (c : Bool) → bytes_eq socket.name.from (party Greater).name ≡ c → (d : Bool) → bytes_eq socket.name.to (party Lesser).name ≡ d → (a && b || c && d) ≡ true → Named x e
  by_tests true p true q c r d w h = of_lesser p q x e (opener true p)
  by_tests true p false q true r d w h = clash (sym (is (party Greater).name (party Lesser).name (sym (same socket.name.from (party Greater).name r) ∙ same socket.name.from (party Lesser).name p)) ∙ differ)
  by_tests true p false q false r d w h = absurd cc
  by_tests false p b q true r true w h = of_greater r w x e (opener false p)
  by_tests false p b q true r false w h = absurd cc
  by_tests false p b q false r d w h = absurd cc

-- ---- an end that expects frames

never_first : (e : End) → first_at e ≡ expected.Frame → ⊥
never_first O h = absurd cc
never_first T h = absurd cc

-- at it the node of the two is up
pub frame_up : (journal : List Line) (log : List Entry) (world : World) (party : Side → Party) (x : Side) (s : SockName) (socket : WorldSocket) (e : End) (reader : Reader) → Standing journal log world → IsPairOf journal party → find (is_socket_named s) world.sockets ≡ Some socket → is_end_of (party x).name (party (other x)).name s e ≡ true
    → reader_of world socket e ≡ Some reader → reader.0 ≡ expected.Frame → is_up (link_of (scene_of party world) x).state ≡ true
frame_up journal log world party x s socket e reader st pair found of r h = by_number (end_of e socket).number refl (sym (ap (λ (c : Option ℕ). reads_at (readers_of world.cells) (first_at e) c (end_of e socket).number) o.cell) ∙ r) where
  facts : SceneFacts party world
  facts = st.each_pair.shown party pair

  o : IsOf party world x socket e
  o = is_of party world x s socket e facts found of

  cell : CellOf party world x
  cell = cell_of journal log world party x st pair

  host : host_of (scene_of party world) x ≡ cell.0.0.host
  host = host_is world (party x).place cell.0 cell.1

  by_record : (m : ℕ) → (end_of e socket).number ≡ Some m → (k : Option Socket) → find (is_socket m) cell.0.0.host.sockets ≡ k → reader_in k ≡ Some reader → is_up (link_of (scene_of party world) x).state ≡ true
  by_record m number None kept q = absurd cc
  by_record m number (Some known) kept q = by_test (is_ended known.stage) refl q where
    s_is : IsNaming cell.0.0.host
    s_is = (st.all.sound.links.naming (party x).place cell.0 cell.1).naming

    by_used : known.expected ≡ expected.Frame → (((link_with cell.0.0.host (party x).address.id (party (other x)).address).state ≡ states.Dialing m) × IsDialedBy (party x).address.id (party (other x)).address known) ⊎ ((probed : Bool) × ((link_with cell.0.0.host (party x).address.id (party (other x)).address).state ≡ states.Up m probed) × IsUpFor (party x).address.id (party (other x)).address known) → is_up (link_of (scene_of party world) x).state ≡ true
    by_used frames (inl d) = let no : expected.Frame ≡ expected.Answer = sym frames ∙ d.1.expects in absurd cc
    by_used frames (inr u) = ap is_up (ap (λ (g : HostState). (link_with g (party x).address.id (party (other x)).address).state) host ∙ u.1)

    by_user : is_ended known.stage ≡ false → known.expected ≡ expected.Frame → (known.user ≡ None) ⊎ IsUser (scene_of party world) x known → is_up (link_of (scene_of party world) x).state ≡ true
    by_user live frames (inl none) = let no : expected.Frame ≡ expected.Request = sym frames ∙ (unused cell.0.0.host m known s_is kept none live).expects in absurd cc
    by_user live frames (inr user) = by_used frames (used cell.0.0.host (party x).address.id (party (other x)).address m known s_is kept user live)

    by_test : (b : Bool) → is_ended known.stage ≡ b → cond b None (Some (known.expected, known.since)) ≡ Some reader → is_up (link_of (scene_of party world) x).state ≡ true
    by_test true live q = absurd cc
    by_test false live q = let is_reader : (known.expected, known.since) ≡ reader = one_of (known.expected, known.since) reader q in
        by_user live (ap (λ (k : Reader). k.0) is_reader ∙ h) (facts.users x e o.i m socket known (has_end party world x socket e m o number) (ap (λ (g : HostState). find (is_socket m) g.sockets) host ∙ kept))

  by_number : (m : Option ℕ) → (end_of e socket).number ≡ m → reads_at (readers_of world.cells) (first_at e) (Some (party x).place) (end_of e socket).number ≡ Some reader → is_up (link_of (scene_of party world) x).state ≡ true
  by_number None number q = let is_reader : (first_at e, []) ≡ reader = one_of (first_at e, []) reader (sym (ap (reads_at (readers_of world.cells) (first_at e) (Some (party x).place)) number) ∙ q) in absurd (never_first e (ap (λ (k : Reader). k.0) is_reader ∙ h))
  by_number (Some m) number q = by_record m number (find (is_socket m) cell.0.0.host.sockets) refl (sym (ap (λ (k : Option (Cell × ℕ)). reader_at k m) cell.1) ∙ sym (ap (reads_at (readers_of world.cells) (first_at e) (Some (party x).place)) number) ∙ q)

-- ---- one socket

role_up : (i : ℕ) (probed : Bool) → role (states.Up i probed) i ≡ naming.IsUp
role_up i probed = ap (λ b. cond b naming.IsUp naming.Not) (self i) where
  self : (n : ℕ) → nat_eq n n ≡ true
  self n = number_same n

up_o : (o : OEnd) → role_o o ≡ naming.IsUp → o ≡ OUp
up_o OPending e = absurd cc
up_o OAsking e = absurd cc
up_o OUp e = refl
up_o OEnded e = absurd cc

up_t : (t : TEnd) → role_t t ≡ naming.IsUp → t ≡ TUp
up_t TPending e = absurd cc
up_t TOpen e = absurd cc
up_t TUp e = refl
up_t TEnded e = absurd cc

target_up : (D U : Type 0) (x : Side) (w : List Item) (o : OEnd) (t : TEnd) → o ≡ OUp → Phase o t → quiet.Fits D U x w o t → t ≡ TUp
target_up D U x w OUp TUp up phase fits = refl
target_up D U x w OUp TPending up phase fits = absurd phase
target_up D U x w OUp TOpen up phase fits = absurd phase
target_up D U x w OUp TEnded up phase fits = absurd fits
target_up D U x w OPending t up phase fits = absurd cc
target_up D U x w OAsking t up phase fits = absurd cc
target_up D U x w OEnded t up phase fits = absurd cc

opener_stands : (D U : Type 0) (x : Side) (w : List Item) (o : OEnd) (t : TEnd) → t ≡ TUp → quiet.Fits D U x w o t → o ≢ OEnded
opener_stands D U x w OEnded TUp up fits e = absurd fits
opener_stands D U x w OEnded TPending up fits e = absurd cc
opener_stands D U x w OEnded TOpen up fits e = absurd cc
opener_stands D U x w OEnded TEnded up fits e = absurd cc
opener_stands D U x w OPending t up fits e = absurd cc
opener_stands D U x w OAsking t up fits e = absurd cc
opener_stands D U x w OUp t up fits e = absurd cc

not_ended : (o : OEnd) → o ≡ OUp → o ≢ OEnded
not_ended OUp u e = absurd cc
not_ended OPending u e = absurd cc
not_ended OAsking u e = absurd cc
not_ended OEnded u e = absurd cc

-- the socket on which x is up is live
live_there : (v : Pair) (i : ℕ) (x : Side) (e : End) (probed : Bool) → Invariant v → v.quiet ≡ true → (v.sock i).opener ≡ opener_by e x → v.link x ≡ states.Up i probed → IsLive (v.sock i)
live_there v i x O probed so q opener up = (target_up _ _ _ _ (v.sock i).o (v.sock i).t o_is (so.words i).phase ((so.quieted q).socks i).fits, not_ended (v.sock i).o o_is) where
  o_is : (v.sock i).o ≡ OUp
  o_is = up_o (v.sock i).o ((so.named i).own ∙ ap (λ (z : Side). role (v.link z) i) opener ∙ ap (λ (k : LinkState). role k i) up ∙ role_up i probed)
live_there v i x T probed so q opener up = (t_is, opener_stands _ _ _ _ (v.sock i).o (v.sock i).t t_is ((so.quieted q).socks i).fits) where
  t_is : (v.sock i).t ≡ TUp
  t_is = up_t (v.sock i).t ((so.named i).peer ∙ ap (λ (z : Side). role (v.link (other z)) i) opener ∙ ap (λ (z : Side). role (v.link z) i) (other_twice x) ∙ ap (λ (k : LinkState). role k i) up ∙ role_up i probed)

across_is : (e f : End) (x : Side) → opener_by f (other x) ≡ opener_by e x → f ≡ across e
across_is O T x h = refl
across_is T O x h = refl
across_is O O Lesser h = absurd cc
across_is O O Greater h = absurd cc
across_is T T Lesser h = absurd cc
across_is T T Greater h = absurd cc

-- where the other is up too, it is up on the end across
pub both_up : (journal : List Line) (log : List Entry) (world : World) (party : Side → Party) (x : Side) (s : SockName) (e : End) (m : ℕ) (probed : Bool) → Standing journal log world → IsPairOf journal party → (u : IsUpOn party world x s e) → (link_of (scene_of party world) (other x)).state ≡ states.Up m probed → find_end (party (other x)).place m world.sockets ≡ Some (s, across e)
both_up journal log world party x s e m probed st pair u up = b.end ∙ ap (λ (n : SockName). Some (n, b.e)) (sym b.at.name ∙ ap (λ (w : WorldSocket). w.name) same_socket ∙ a.name) ∙ ap (λ (f : End). Some (s, f)) (across_is e b.e x (sym b.at.has.opener ∙ ap (opener_of party) same_socket ∙ a.has.opener)) where
  facts : SceneFacts party world
  facts = st.each_pair.shown party pair

  v : Pair
  v = view (scene_of party world)

  so : Invariant v
  so = invariant_reached v (st.raced party pair)

  a : UpAt party world x s e u.number
  a = up_at journal log world party x s e st pair u

  b : UpEnd party world (other x) m
  b = up_end journal log world party (other x) m probed st pair up

  link_x : v.link x ≡ states.Up a.i u.probed
  link_x = ap (with_places (place_of (party x).place world.sockets)) u.up ∙ ap (λ (k : ℕ). states.Up k u.probed) (place_found world.sockets a.i a.socket e (party x).place u.number facts.apart a.has.at a.has.end)

  link_y : v.link (other x) ≡ states.Up b.at.i probed
  link_y = ap (with_places (place_of (party (other x)).place world.sockets)) up ∙ ap (λ (k : ℕ). states.Up k probed) (place_found world.sockets b.at.i b.at.socket b.e (party (other x)).place m facts.apart b.at.has.at b.at.has.end)

  opener : (v.sock a.i).opener ≡ opener_by e x
  opener = ap (λ (k : Sock). k.opener) (ap (sock_seen party (hosts_of world)) a.has.at ∙ ap (λ c. cond c (sock_of party (hosts_of world) a.socket) dead) a.has.between) ∙ a.has.opener

  same_place : b.at.i ≡ a.i
  same_place = bundle v so.named a.i (live_there v a.i x e u.probed so refl opener link_x) (other x) b.at.i (ap (λ (k : LinkState). names k b.at.i) link_y ∙ number_same b.at.i)

  same_socket : b.at.socket ≡ a.socket
  same_socket = one_of b.at.socket a.socket (sym b.at.has.at ∙ ap (slice_get world.sockets) same_place ∙ a.has.at)

-- ---- ends that stand

open_t : (there : Bool) (stage : Stage) (x : Expected) → target_end there stage x ≡ TUp → is_ended stage ≡ false
open_t false stage x h = absurd cc
open_t true Pending x h = refl
open_t true Ended x h = absurd cc
open_t true Open x h = refl

open_o : (stage : Stage) (x : Expected) → opener_end stage x ≢ OEnded → is_ended stage ≡ false
open_o Pending x h = refl
open_o Open x h = refl
open_o Ended x h = absurd (h refl)

not_over : (end : WorldEnd) → is_ended end.stage ≡ false → end.is_cut ≡ false → is_over end ≡ false
not_over end live whole = ap (λ b. b || end.is_cut) live ∙ whole

-- the end across one on which x is up isn't over
pub across_lives : (journal : List Line) → IsOfNodes journal → (log : List Entry) (world : World) (party : Side → Party) (x : Side) (s : SockName) (e : End) (socket : WorldSocket) → Standing journal log world → IsPairOf journal party → IsUpOn party world x s e → find (is_socket_named s) world.sockets ≡ Some socket → is_over (end_of (across e) socket) ≡ false
across_lives journal j log world party x s e socket st pair u found = not_over (end_of (across e) socket) (by_end e (live_there v a.i x e u.probed so refl opener link_x)) ((users_used journal log world j.is st.all.users s socket found).uncut (across e)) where
  facts : SceneFacts party world
  facts = st.each_pair.shown party pair

  v : Pair
  v = view (scene_of party world)

  so : Invariant v
  so = invariant_reached v (st.raced party pair)

  a : UpAt party world x s e u.number
  a = up_at journal log world party x s e st pair u

  same : a.socket ≡ socket
  same = one_of a.socket socket (sym a.found ∙ found)

  link_x : v.link x ≡ states.Up a.i u.probed
  link_x = ap (with_places (place_of (party x).place world.sockets)) u.up ∙ ap (λ (k : ℕ). states.Up k u.probed) (place_found world.sockets a.i a.socket e (party x).place u.number facts.apart a.has.at a.has.end)

  seen : v.sock a.i ≡ sock_of party (hosts_of world) a.socket
  seen = ap (sock_seen party (hosts_of world)) a.has.at ∙ ap (λ c. cond c (sock_of party (hosts_of world) a.socket) dead) a.has.between

  opener : (v.sock a.i).opener ≡ opener_by e x
  opener = ap (λ (k : Sock). k.opener) seen ∙ a.has.opener

  by_end : (e : End) → IsLive (v.sock a.i) → is_ended (end_of (across e) socket).stage ≡ false
  by_end O live = subst (λ (w : WorldSocket). is_ended w.t.stage ≡ false) same (open_t _ a.socket.t.stage _ (sym (ap (λ (k : Sock). k.t) seen) ∙ live.0))
  by_end T live = subst (λ (w : WorldSocket). is_ended w.o.stage ≡ false) same (open_o a.socket.o.stage _ (λ h. live.1 (ap (λ (k : Sock). k.o) seen ∙ h)))

-- nor is that end itself
pub own_lives : (journal : List Line) → IsOfNodes journal → (log : List Entry) (world : World) (party : Side → Party) (x : Side) (s : SockName) (e : End) (n : ℕ) (probed : Bool) → Standing journal log world → IsPairOf journal party → (link_of (scene_of party world) x).state ≡ states.Up n probed → (a : UpAt party world x s e n) → is_over (end_of e a.socket) ≡ false
own_lives journal j log world party x s e n probed st pair up a = not_over (end_of e a.socket) (ap is_ended (sym (facts.stands x e a.i n a.socket known.0 a.has kept)) ∙ ap is_ended known.2.stands) ((users_used journal log world j.is st.all.users s a.socket a.found).uncut e) where
  facts : SceneFacts party world
  facts = st.each_pair.shown party pair

  cell : CellOf party world x
  cell = cell_of journal log world party x st pair

  host : host_of (scene_of party world) x ≡ cell.0.0.host
  host = host_is world (party x).place cell.0 cell.1

  known : (known : Socket) × (find (is_socket n) cell.0.0.host.sockets ≡ Some known) × IsUpFor (party x).address.id (party (other x)).address known
  known = risen cell.0.0.host (party x).address.id (party (other x)).address n probed (st.all.sound.links.naming (party x).place cell.0 cell.1).naming (ap (λ (h : HostState). (link_with h (party x).address.id (party (other x)).address).state) (sym host) ∙ up)

  kept : find (is_socket n) (host_of (scene_of party world) x).sockets ≡ Some known.0
  kept = ap (λ (h : HostState). find (is_socket n) h.sockets) host ∙ known.1

-- something reads at an end of x that isn't over
pub end_reads : (journal : List Line) (log : List Entry) (world : World) (party : Side → Party) (x : Side) (s : SockName) (socket : WorldSocket) (e : End) → Standing journal log world → IsPairOf journal party → find (is_socket_named s) world.sockets ≡ Some socket → is_end_of (party x).name (party (other x)).name s e ≡ true → is_over (end_of e socket) ≡ false → (reader : Reader) × (reader_of world socket e ≡ Some reader)
end_reads journal log world party x s socket e st pair found of live = by_number (end_of e socket).number refl where
  facts : SceneFacts party world
  facts = st.each_pair.shown party pair

  o : IsOf party world x socket e
  o = is_of party world x s socket e facts found of

  cell : CellOf party world x
  cell = cell_of journal log world party x st pair

  host : host_of (scene_of party world) x ≡ cell.0.0.host
  host = host_is world (party x).place cell.0 cell.1

  at : (m : Option ℕ) → (end_of e socket).number ≡ m → reader_of world socket e ≡ reads_at (readers_of world.cells) (first_at e) (Some (party x).place) m
  at m number = ap (λ (c : Option ℕ). reads_at (readers_of world.cells) (first_at e) c (end_of e socket).number) o.cell ∙ ap (reads_at (readers_of world.cells) (first_at e) (Some (party x).place)) number

  first_false : (a b : Bool) → (a || b) ≡ false → a ≡ false
  first_false true b h = absurd cc
  first_false false b h = refl

  by_number : (m : Option ℕ) → (end_of e socket).number ≡ m → (reader : Reader) × (reader_of world socket e ≡ Some reader)
  by_number None number = ((first_at e, []), at None number)
  by_number (Some m) number = ((known.0.expected, known.0.since), at (Some m) number ∙ ap (λ (k : Option (Cell × ℕ)). reader_at k m) cell.1 ∙ ap reader_in there ∙ ap (λ b. cond {A = Option Reader} b None (Some (known.0.expected, known.0.since))) stands) where
    has : HasEnd (scene_of party world) x e o.i m socket
    has = has_end party world x socket e m o number

    known : (known : Socket) × (find (is_socket m) (host_of (scene_of party world) x).sockets ≡ Some known)
    known = facts.kept x e o.i m socket has

    there : find (is_socket m) cell.0.0.host.sockets ≡ Some known.0
    there = ap (λ (h : HostState). find (is_socket m) h.sockets) (sym host) ∙ known.1

    stands : is_ended known.0.stage ≡ false
    stands = ap is_ended (facts.stands x e o.i m socket known.0 has known.1) ∙ first_false (is_ended (end_of e socket).stage) (end_of e socket).is_cut live
