-- What happens to a socket that was found, told by what was read of it.
use Rattle.std.proofs.Common.{◌≡◌, ℕ, Bool, true, false, ◌&&◌, ◌==◌, cond, List, [], ◌∷◌, length, take, refl, sym, ap, ◌∙◌, subst, arith}
use Rattle.std.proofs.lemmas.Slice.Eq.{bytes_eq-Decides}
use Rattle.std.proofs.lemmas.Bool.Decides.{nat_tests}
use Rattle.std.specs.Prelude.{Option, Some, None, find, Result, Ok, Err}
use Rattle.std.specs.Str.{bytes_eq}
use Rattle.ch_base.specs.declared.memory.Stop.{Stop}
use Rattle.ch_model.specs.declared.entry.Entry.TheVariants as entries
use Rattle.ch_model.specs.declared.name.End.{End}
use Rattle.ch_model.specs.declared.name.End.TheVariants.{O, T}
use Rattle.ch_model.specs.declared.name.SockName.{SockName}
use Rattle.ch_model.specs.declared.step.SocketEvent.TheVariants as events
use Rattle.ch_model.specs.Same.{same_socket}
use Rattle.ch_model.specs.Stages.{Open}
use Rattle.ch_model.specs.WorldState.{WorldEnd, WorldSocket, World}
use Rattle.ch_model.specs.WorldSockets.{end_of, end_of_nobody, is_socket_named, with_end_of, cut, arrives, ended}
use Rattle.ch_model.specs.WorldHappenings.{Answered, nothing, tells, after_entry, end_hears, joins, comes, refuses, loses, hands, feeds}
use Rattle.ch_model.specs.WorldLines.{on_socket, can_join, can_come, can_refuse, can_feed, can_cut, is_at_work, is_strangers, cuts, pokes, quits}
use Rattle.ch_sockets.specs.Among.{passed, taken_of, taken_among}
use Rattle.ch_world.specs.declared.held.Held.{Held}
use Rattle.ch_world.specs.declared.held.Coming.{Coming}
use Rattle.ch_world.specs.Held.{read_where, held_of, end_in, socket_in, coming_of, socket_coming}

-- none is there that stands so, and nothing happens
pub on_none : {A : Type 0} (test : WorldSocket → Bool) (f : WorldSocket → A) (name : SockName) (g : WorldSocket → World → Answered) (world : World) → read_where test f (find (is_socket_named name) world.sockets) ≡ None → on_socket name test g world ≡ nothing world
on_none {A = A} test f name g world e = by_found (find (is_socket_named name) world.sockets) e
  where
    by_test : (socket : WorldSocket) (b : Bool) → cond {A = Option A} b (Some (f socket)) None ≡ None → cond {A = Answered} b (g socket world) (nothing world) ≡ nothing world
    by_test socket true e = absurd cc
    by_test socket false e = refl

    by_found : (o : Option WorldSocket) → read_where test f o ≡ None → (elim o as (λ o. Answered) [
      | None ↦ nothing world
      | Some socket ↦ cond {A = Answered} (test socket) (g socket world) (nothing world)
    ]) ≡ nothing world
    by_found None e = refl
    by_found (Some socket) e = by_test socket (test socket) e

-- one is there: what happens is told by what was read of it
pub on_some : {A : Type 0} (test : WorldSocket → Bool) (f : WorldSocket → A) (name : SockName) (g : WorldSocket → World → Answered) (h : A → Answered) (world : World) (x : A) → ((socket : WorldSocket) → find (is_socket_named name) world.sockets ≡ Some socket → g socket world ≡ h (f socket)) → read_where test f (find (is_socket_named name) world.sockets) ≡ Some x → on_socket name test g world ≡ h x
on_some {A = A} test f name g h world x same e = by_found (find (is_socket_named name) world.sockets) refl e
  where
    by_test : (socket : WorldSocket) (b : Bool) → g socket world ≡ h (f socket) → cond {A = Option A} b (Some (f socket)) None ≡ Some x → cond {A = Answered} b (g socket world) (nothing world) ≡ h x
    by_test socket true s e = let is : f socket ≡ x = cc in s ∙ ap h is
    by_test socket false s e = absurd cc

    by_found : (o : Option WorldSocket) → find (is_socket_named name) world.sockets ≡ o → read_where test f o ≡ Some x → (elim o as (λ o. Answered) [
      | None ↦ nothing world
      | Some socket ↦ cond {A = Answered} (test socket) (g socket world) (nothing world)
    ]) ≡ h x
    by_found None found e = absurd cc
    by_found (Some socket) found e = by_test socket (test socket) (same socket found) e

-- ---- names

-- two tests that both pass
pub both : (a b : Bool) → (a && b) ≡ true → (a ≡ true) × (b ≡ true)
both true b e = (refl, e)
both false b e = absurd cc

pub number_is : (a b : ℕ) → (a == b) ≡ true → a ≡ b
number_is a b e = grind (arith, nat_tests)

pub text_is : (a b : List ℕ) → bytes_eq a b ≡ true → a ≡ b
text_is a b e = grind (arith, bytes_eq-Decides)

pub named_alike : (a b : SockName) → same_socket a b ≡ true → a ≡ b
named_alike a b e = λ i. record { from = text_is a.from b.from ends.0 i; to = text_is a.to b.to ends.1 i; number = number_is a.number b.number parts.1 i }
  where
    parts : ((bytes_eq a.from b.from && bytes_eq a.to b.to) ≡ true) × ((a.number == b.number) ≡ true)
    parts = both (bytes_eq a.from b.from && bytes_eq a.to b.to) (a.number == b.number) e

    ends : (bytes_eq a.from b.from ≡ true) × (bytes_eq a.to b.to ≡ true)
    ends = both (bytes_eq a.from b.from) (bytes_eq a.to b.to) parts.0

-- ---- what happens to a socket as a line asks

-- the socket that was found has the name
pub found_named : (name : SockName) (sockets : List WorldSocket) (socket : WorldSocket) → find (is_socket_named name) sockets ≡ Some socket → socket.name ≡ name
found_named name [] socket e = absurd cc
found_named name (known ∷ rest) socket e = by_test (is_socket_named name known) refl (found_named name rest socket) e
  where
    by_test : (b : Bool) → is_socket_named name known ≡ b → (find (is_socket_named name) rest ≡ Some socket → socket.name ≡ name) → cond b (Some known) (find (is_socket_named name) rest) ≡ Some socket → socket.name ≡ name
    by_test true is ih e = let same : known ≡ socket = cc in ap (λ (s : WorldSocket). s.name) (sym same) ∙ named_alike known.name name is
    by_test false is ih e = ih e

pub joins_found : (name : SockName) (world : World) (held : Held) → read_where can_join (held_of O) (find (is_socket_named name) world.sockets) ≡ Some held → on_socket name can_join joins world ≡ joins (socket_in held) world
joins_found name world held e = on_some can_join (held_of O) name joins (λ held. joins (socket_in held) world) world held (λ socket found. refl) e

pub comes_found : (name : SockName) (world : World) (coming : Coming) → read_where can_come coming_of (find (is_socket_named name) world.sockets) ≡ Some coming → on_socket name can_come comes world ≡ comes (socket_coming coming) world
comes_found name world coming e = on_some can_come coming_of name comes (λ coming. comes (socket_coming coming) world) world coming (λ socket found. refl) e

pub refuses_found : (name : SockName) (world : World) (held : Held) → read_where can_refuse (held_of O) (find (is_socket_named name) world.sockets) ≡ Some held → on_socket name can_refuse refuses world ≡ refuses (socket_in held) world
refuses_found name world held e = on_some can_refuse (held_of O) name refuses (λ held. refuses (socket_in held) world) world held (λ socket found. refl) e

pub loses_found : (name : SockName) (which : End) (world : World) (held : Held) → read_where (is_at_work which) (held_of which) (find (is_socket_named name) world.sockets) ≡ Some held → on_socket name (is_at_work which) (loses which) world ≡ after_entry (entries.Lost held.sock which) (end_hears (end_in held) (λ sock. events.Lost sock) world)
loses_found name which world held e = on_some (is_at_work which) (held_of which) name (loses which) (λ held. after_entry (entries.Lost held.sock which) (end_hears (end_in held) (λ sock. events.Lost sock) world)) world held (λ socket found. refl) e

pub cuts_found : (name : SockName) (which : End) (world : World) (held : Held) → read_where (can_cut which) (held_of which) (find (is_socket_named name) world.sockets) ≡ Some held → on_socket name (can_cut which) (cuts which) world ≡ tells (entries.Cut held.sock which) (with_end_of held.sock which cut world)
cuts_found name which world held e = on_some (can_cut which) (held_of which) name (cuts which) (λ held. tells (entries.Cut held.sock which) (with_end_of held.sock which cut world)) world held (λ socket found. refl) e

pub pokes_found : (name : SockName) (bytes : List ℕ) (world : World) (held : Held) → read_where is_strangers (held_of O) (find (is_socket_named name) world.sockets) ≡ Some held → on_socket name is_strangers (pokes bytes) world ≡ tells (entries.Poked held.sock bytes) (with_end_of held.sock T (arrives bytes) world)
pokes_found name bytes world held e = on_some is_strangers (held_of O) name (pokes bytes) (λ held. tells (entries.Poked held.sock bytes) (with_end_of held.sock T (arrives bytes) world)) world held (λ socket found. refl) e

pub quits_found : (name : SockName) (world : World) (held : Held) → read_where is_strangers (held_of O) (find (is_socket_named name) world.sockets) ≡ Some held → on_socket name is_strangers quits world ≡ tells (entries.Quitted held.sock) (with_end_of held.sock O ended world)
quits_found name world held e = on_some is_strangers (held_of O) name quits (λ held. tells (entries.Quitted held.sock) (with_end_of held.sock O ended world)) world held (λ socket found. refl) e

hands_alike : (bytes : List ℕ) (end : WorldEnd) (world : World) → hands bytes end world ≡ hands bytes (end_of_nobody end.cell end.number Open) world
hands_alike [] end world = refl
hands_alike (b ∷ bytes) end world = refl

-- bytes that were taken are handed
abbrev pub fed_of : End → List ℕ → Held → World → Answered
fed_of which bytes held world = after_entry (entries.Fed held.sock which (length bytes)) (hands bytes (end_in held) world)

pub feeds_found : (name : SockName) (which : End) (count : ℕ) (world : World) (held : Held) → read_where (can_feed which) (held_of which) (find (is_socket_named name) world.sockets) ≡ Some held → on_socket name (can_feed which) (feeds which count) world ≡ fed_of which (taken_among name which count world.sockets) held (with_end_of name which (passed count) world)
feeds_found name which count world held e = on_some (can_feed which) (held_of which) name (feeds which count) (λ held. fed_of which (taken_among name which count world.sockets) held (with_end_of name which (passed count) world)) world held same e
  where
    same : (socket : WorldSocket) → find (is_socket_named name) world.sockets ≡ Some socket → feeds which count socket world ≡ fed_of which (taken_among name which count world.sockets) (held_of which socket) (with_end_of name which (passed count) world)
    same socket found =
        ap (after_entry (entries.Fed socket.name which (length (take count (end_of which socket).unread)))) (hands_alike (take count (end_of which socket).unread) (end_of which socket) (with_end_of socket.name which (passed count) world))
        ∙ ap (λ (n : SockName). fed_of which (take count (end_of which socket).unread) (held_of which socket) (with_end_of n which (passed count) world)) (found_named name world.sockets socket found)
        ∙ ap (λ (o : Option WorldSocket). fed_of which (taken_of which count o) (held_of which socket) (with_end_of name which (passed count) world)) (sym found)
