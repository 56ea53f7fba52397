-- Whose an end of a socket is: the end that a node's link is up on is its end towards the other, and no other node's.
use Rattle.std.proofs.Common.{◌≡◌, ℕ, zero, suc, Bool, true, false, cond, ◌&&◌, ◌||◌, List, [], ◌∷◌, refl, sym, ap, ◌∙◌, subst}
use Rattle.std.proofs.lemmas.Bool.{and_parts}
use Rattle.std.proofs.lemmas.Slice.Eq.{bytes_eq-Decides}
use Rattle.std.specs.Prelude.{find, slice_get, Some}
use Rattle.std.specs.Str.{bytes_eq}
use Rattle.ch_base.specs.declared.address.Address.{Address}
use Rattle.ch_link.specs.declared.LinkState.TheVariants.{Up}
use Rattle.ch_model.specs.declared.name.End.{End}
use Rattle.ch_model.specs.declared.name.End.TheVariants.{O, T}
use Rattle.ch_model.specs.declared.name.SockName.{SockName}
use Rattle.ch_model.specs.HostState.{Socket}
use Rattle.ch_model.specs.HostSteps.{is_socket, link_with}
use Rattle.ch_model.specs.Same.{owner, across, is_end_of, is_between}
use Rattle.ch_model.specs.WorldSockets as ends
use Rattle.ch_model.specs.WorldSockets.{end_of, is_socket_named, find_end}
use Rattle.ch_model.specs.WorldState.{Cell, WorldSocket, World}
use Rattle.ch_race.specs.Pair.{Side, Lesser, Greater, other}
use Rattle.ch_laws_calls.specs.Scenes.{IsOthersLink, SceneFacts}
use Rattle.ch_laws_ends.proofs.Found.{EachFound}
use Rattle.ch_laws_links.specs.Naming.{IsNaming}
use Rattle.ch_laws_links.proofs.Says.{risen}
use Rattle.ch_laws_race.specs.Scene.{Party, hosts_of}
use Rattle.ch_laws_race.specs.Sound.{opener_by}
use Rattle.ch_laws_race.specs.View.{opener_of}
use Rattle.ch_laws_race.proofs.Sockets.{name_found}

differ_not : {A : Type 0} (party : Side → Party) → bytes_eq (party Greater).name (party Lesser).name ≡ false → (party Greater).name ≡ (party Lesser).name → A
differ_not party differ same = let no : true ≡ false = sym ((bytes_eq-Decides (party Greater).name (party Lesser).name).1 same) ∙ differ in absurd cc

-- the names of a socket of the two, by its opener
opener_names : (party : Side → Party) (socket : WorldSocket) (z : Side) → bytes_eq (party Greater).name (party Lesser).name ≡ false → is_between (party Lesser).name (party Greater).name socket.name ≡ true → opener_of party socket ≡ z → (socket.name.from ≡ (party z).name) × (socket.name.to ≡ (party (other z)).name)
opener_names party socket z differ between is = by_from (bytes_eq socket.name.from (party Lesser).name) refl between is where
  by_to : socket.name.from ≡ (party Lesser).name → (b : Bool) → bytes_eq socket.name.to (party Greater).name ≡ b → (b || bytes_eq socket.name.from (party Greater).name && bytes_eq socket.name.to (party Lesser).name) ≡ true → socket.name.to ≡ (party Greater).name
  by_to from true h e = (bytes_eq-Decides socket.name.to (party Greater).name).0 h
  by_to from false h e = differ_not party differ (sym ((bytes_eq-Decides socket.name.from (party Greater).name).0 (and_parts (bytes_eq socket.name.from (party Greater).name) (bytes_eq socket.name.to (party Lesser).name) e).0) ∙ from)

  by_from : (b : Bool) → bytes_eq socket.name.from (party Lesser).name ≡ b → (b && bytes_eq socket.name.to (party Greater).name || bytes_eq socket.name.from (party Greater).name && bytes_eq socket.name.to (party Lesser).name) ≡ true → cond b Lesser Greater ≡ z
      → (socket.name.from ≡ (party z).name) × (socket.name.to ≡ (party (other z)).name)
  by_from true h e is = let from = (bytes_eq-Decides socket.name.from (party Lesser).name).0 h in
      subst (λ (z : Side). (socket.name.from ≡ (party z).name) × (socket.name.to ≡ (party (other z)).name)) is (from, by_to from (bytes_eq socket.name.to (party Greater).name) refl e)
  by_from false h e is = let both = and_parts (bytes_eq socket.name.from (party Greater).name) (bytes_eq socket.name.to (party Lesser).name) e in
      subst (λ (z : Side). (socket.name.from ≡ (party z).name) × (socket.name.to ≡ (party (other z)).name)) is ((bytes_eq-Decides socket.name.from (party Greater).name).0 both.0, (bytes_eq-Decides socket.name.to (party Lesser).name).0 both.1)

both_names : (a b x y : List ℕ) → a ≡ x → b ≡ y → (bytes_eq a x && bytes_eq b y) ≡ true
both_names a b x y e f = ap (λ (c : Bool). c && bytes_eq b y) ((bytes_eq-Decides a x).1 e) ∙ (bytes_eq-Decides b y).1 f

other_twice : (x : Side) → other (other x) ≡ x
other_twice Lesser = refl
other_twice Greater = refl

-- the end that a side has of it is that node's towards the other
pub end_of_side : (party : Side → Party) (x : Side) (e : End) (socket : WorldSocket) → bytes_eq (party Greater).name (party Lesser).name ≡ false → is_between (party Lesser).name (party Greater).name socket.name ≡ true → opener_of party socket ≡ opener_by e x → is_end_of (party x).name (party (other x)).name socket.name e ≡ true
end_of_side party x O socket differ between is = let names = opener_names party socket x differ between is in both_names socket.name.from socket.name.to (party x).name (party (other x)).name names.0 names.1
end_of_side party x T socket differ between is = let names = opener_names party socket (other x) differ between is in both_names socket.name.to socket.name.from (party x).name (party (other x)).name (names.1 ∙ ap (λ (z : Side). (party z).name) (other_twice x)) names.0

-- an end isn't of both
pub not_both : (party : Side → Party) (x : Side) (s : SockName) (e : End) → bytes_eq (party Greater).name (party Lesser).name ≡ false → is_end_of (party x).name (party (other x)).name s e ≡ true → is_end_of (party (other x)).name (party x).name s e ≡ true → ⊥
not_both party x s e differ one two = by_side x (sym (named (party (other x)).name (party x).name two) ∙ named (party x).name (party (other x)).name one) where
  named : (a b : List ℕ) → is_end_of a b s e ≡ true → owner s e ≡ a
  named a b h = (bytes_eq-Decides (owner s e) a).0 (and_parts (bytes_eq (owner s e) a) (bytes_eq (owner s (across e)) b) h).0

  by_side : (x : Side) → (party (other x)).name ≡ (party x).name → ⊥
  by_side Lesser e = differ_not party differ e
  by_side Greater e = differ_not party differ (sym e)

-- an end of one towards the other is of a socket between them
between_of : (party : Side → Party) (x : Side) (s : SockName) (e : End) → is_end_of (party x).name (party (other x)).name s e ≡ true → is_between (party Lesser).name (party Greater).name s ≡ true
between_of party x s e h = by_both x e (and_parts (bytes_eq (owner s e) (party x).name) (bytes_eq (owner s (across e)) (party (other x)).name) h) where
  first : (a b c : Bool) → a ≡ true → b ≡ true → (a && b || c) ≡ true
  first true true c e f = refl
  first true false c e f = absurd cc
  first false b c e f = absurd cc

  last : (c a b : Bool) → a ≡ true → b ≡ true → (c || a && b) ≡ true
  last true a b e f = refl
  last false true true e f = refl
  last false true false e f = absurd cc
  last false false b e f = absurd cc

  by_both : (x : Side) (e : End) → (bytes_eq (owner s e) (party x).name ≡ true) × (bytes_eq (owner s (across e)) (party (other x)).name ≡ true) → is_between (party Lesser).name (party Greater).name s ≡ true
  by_both Lesser O k = first (bytes_eq s.from (party Lesser).name) (bytes_eq s.to (party Greater).name) (bytes_eq s.from (party Greater).name && bytes_eq s.to (party Lesser).name) k.0 k.1
  by_both Lesser T k = last (bytes_eq s.from (party Lesser).name && bytes_eq s.to (party Greater).name) (bytes_eq s.from (party Greater).name) (bytes_eq s.to (party Lesser).name) k.1 k.0
  by_both Greater O k = last (bytes_eq s.from (party Lesser).name && bytes_eq s.to (party Greater).name) (bytes_eq s.from (party Greater).name) (bytes_eq s.to (party Lesser).name) k.0 k.1
  by_both Greater T k = first (bytes_eq s.from (party Lesser).name) (bytes_eq s.to (party Greater).name) (bytes_eq s.from (party Greater).name && bytes_eq s.to (party Lesser).name) k.1 k.0

-- ---- the end that a link is up on

pub record UpEnd (party : Side → Party) (world : World) (x : Side) (n : ℕ) : Type 0 where
  pub s : SockName
  pub e : End
  pub socket : WorldSocket
  pub found : find_end (party x).place n world.sockets ≡ Some (s, e)
  pub is : find (is_socket_named s) world.sockets ≡ Some socket
  pub end : ends.is_end_of (party x).place n (end_of e socket) ≡ true
  pub theirs : is_end_of (party x).name (party (other x)).name s e ≡ true

pub up_end : (party : Side → Party) (world : World) (x : Side) (n : ℕ) (probed : Bool) → SceneFacts party world → EachFound world.sockets → IsNaming (hosts_of world (party x).place) → (link_with (hosts_of world (party x).place) (party x).address.id (party (other x)).address).state ≡ Up n probed → UpEnd party world x n
up_end party world x n probed facts each naming up =
    let known = risen (hosts_of world (party x).place) (party x).address.id (party (other x)).address n probed naming up in
    let at = facts.between x n known.0 known.1 known.2.user in
    let socket = at.1 in
    let is = name_found world.sockets at.0 socket facts.apart at.3.at in
    record {
      s = socket.name;
      e = at.2;
      socket = socket;
      found = each socket.name socket at.2 (party x).place n is at.3.end;
      is = is;
      end = at.3.end;
      theirs = end_of_side party x at.2 socket facts.names_differ at.3.between at.3.opener;
    }

-- ---- an end that another link is up on

at_index : {A : Type 0} (p : A → Bool) (xs : List A) (y : A) → find p xs ≡ Some y → (j : ℕ) × (slice_get xs j ≡ Some y)
at_index p [] y e = absurd cc
at_index p (x ∷ xs) y e = by_test (p x) e (at_index p xs y) where
  by_test : (b : Bool) → cond b (Some x) (find p xs) ≡ Some y → (find p xs ≡ Some y → (j : ℕ) × (slice_get xs j ≡ Some y)) → (j : ℕ) × (slice_get (x ∷ xs) j ≡ Some y)
  by_test true e more = (zero, e)
  by_test false e more = let later = more e in (suc later.0, later.1)

-- an end that is of a link that isn't of the two is none of theirs
pub others_end : (party : Side → Party) (world : World) (place n : ℕ) (cell : Cell × ℕ) (known : Socket) (end : ℕ) (peer : Address) (x : Side) (s : SockName) (e : End) (socket : WorldSocket) → SceneFacts party world → slice_get world.cells place ≡ Some cell → find (is_socket n) cell.0.host.sockets ≡ Some known → known.user ≡ Some (end, peer) → IsOthersLink party place end peer
    → find (is_socket_named s) world.sockets ≡ Some socket → socket.name ≡ s → ends.is_end_of place n (end_of e socket) ≡ true → is_end_of (party x).name (party (other x)).name s e ≡ true → ⊥
others_end party world place n cell known end peer x s e socket facts at found user away is named of theirs =
    let j = at_index (is_socket_named s) world.sockets socket is in
    clash (sym of ∙ facts.others place n cell known end peer at found user away j.0 socket j.1 (subst (λ (m : SockName). is_between (party Lesser).name (party Greater).name m ≡ true) (sym named) (between_of party x s e theirs)) e)
  where
    clash : true ≡ false → ⊥
    clash e = absurd cc
