-- What a host finds by its key: a link, a socket.
use Rattle.std.specs.Prelude.{◌≡◌, ℕ, Bool, true, false, cond, ◌&&◌, ◌==◌, List, [], ◌∷◌, find, Option, Some, None}
use Rattle.std.specs.Str.{bytes_eq}
use Rattle.std.proofs.Common.{refl, ap, sym, ◌∙◌}
use Rattle.std.proofs.lemmas.Bool.{eqb-true, eq-eqb, and_parts}
use Rattle.std.proofs.lemmas.Slice.Eq.{bytes_eq-Decides}
use Rattle.ch_base.specs.AddressValues.{AddressValue}
use Rattle.ch_watch.specs.Same.{same_node}
use Rattle.ch_model.specs.HostState.{Link, Socket, HostState}
use Rattle.ch_model.specs.HostSteps.{is_link, link_or_new, link_with, store_link, with_link, is_socket, store_socket}

pub equal_bytes : (xs : List ℕ) → bytes_eq xs xs ≡ true
equal_bytes xs = (bytes_eq-Decides xs xs).1 refl

pub equal_numbers : (i : ℕ) → (i == i) ≡ true
equal_numbers i = eq-eqb i i refl

pub wrong : {A : Type 0} → true ≡ false → A
wrong h = absurd (clash h) where
  clash : true ≡ false → ⊥
  clash h = cc

node_self : (a : AddressValue) → same_node a a ≡ true
unfolding same_node
node_self a = ap (λ b. b && ((a.port == a.port) && (a.id == a.id))) (equal_bytes a.host) ∙ ap (λ b. b && (a.id == a.id)) (equal_numbers a.port) ∙ equal_numbers a.id

-- ---- links

link_test : (link : Link) → is_link link.end link.peer link ≡ true
link_test link = ap (λ b. b && same_node link.peer link.peer) (equal_numbers link.end) ∙ node_self link.peer

link_stored : (link : Link) (links : List Link) → find (is_link link.end link.peer) (store_link link links) ≡ Some link
link_stored link [] = ap (λ b. cond b (Some link) None) (link_test link)
link_stored link (known ∷ rest) = by_test (is_link link.end link.peer known) refl (link_stored link rest) where
  by_test : (x : Bool) → is_link link.end link.peer known ≡ x → find (is_link link.end link.peer) (store_link link rest) ≡ Some link → find (is_link link.end link.peer) (cond x (link ∷ rest) (known ∷ store_link link rest)) ≡ Some link
  by_test true h later = ap (λ b. cond b (Some link) (find (is_link link.end link.peer) rest)) (link_test link)
  by_test false h later = ap (λ b. cond b (Some known) (find (is_link link.end link.peer) (store_link link rest))) h ∙ later

-- a link that is kept is found
pub link_kept : (link : Link) (host : HostState) → link_with (with_link link host) link.end link.peer ≡ link
link_kept link host = ap (link_or_new link.end link.peer) (link_stored link host.links)

other_link_found : (link : Link) (end : ℕ) (peer : AddressValue) → (link.end == end) ≡ false → (links : List Link) → find (is_link end peer) (store_link link links) ≡ find (is_link end peer) links
other_link_found link end peer off [] = ap (λ b. cond (b && same_node link.peer peer) (Some link) None) off
other_link_found link end peer off (known ∷ rest) = by_test (is_link link.end link.peer known) refl (other_link_found link end peer off rest) where
  no_key : is_link link.end link.peer known ≡ true → is_link end peer known ≡ false
  no_key h = ap (λ (z : ℕ). (z == end) && same_node known.peer peer) (eqb-true known.end link.end (and_parts (known.end == link.end) (same_node known.peer link.peer) h).0)
      ∙ ap (λ b. b && same_node known.peer peer) off

  by_test : (x : Bool) → is_link link.end link.peer known ≡ x → find (is_link end peer) (store_link link rest) ≡ find (is_link end peer) rest
      → find (is_link end peer) (cond x (link ∷ rest) (known ∷ store_link link rest)) ≡ find (is_link end peer) (known ∷ rest)
  by_test true h later = ap (λ b. cond (b && same_node link.peer peer) (Some link) (find (is_link end peer) rest)) off ∙ sym (ap (λ b. cond b (Some known) (find (is_link end peer) rest)) (no_key h))
  by_test false h later = ap (λ (z : Option Link). cond (is_link end peer known) (Some known) z) later

-- a link of another endpoint is found as before
pub other_link : (link : Link) (host : HostState) (end : ℕ) (peer : AddressValue) → (link.end == end) ≡ false → link_with (with_link link host) end peer ≡ link_with host end peer
other_link link host end peer off = ap (link_or_new end peer) (other_link_found link end peer off host.links)

pub node_is : (a b : AddressValue) → same_node a b ≡ true → a ≡ b
unfolding same_node
node_is a b h =
    let parts = and_parts (bytes_eq a.host b.host) ((a.port == b.port) && (a.id == b.id)) h in
    let rest = and_parts (a.port == b.port) (a.id == b.id) parts.1 in
    ap (λ (z : List ℕ). record a { host = z }) ((bytes_eq-Decides a.host b.host).0 parts.0)
    ∙ ap (λ (z : ℕ). record a { host = b.host; port = z }) (eqb-true a.port b.port rest.0)
    ∙ ap (λ (z : ℕ). record b { id = z }) (eqb-true a.id b.id rest.1)

other_key_found : (link : Link) (end : ℕ) (peer : AddressValue) → is_link end peer link ≡ false → (links : List Link) → find (is_link end peer) (store_link link links) ≡ find (is_link end peer) links
other_key_found link end peer off [] = ap (λ b. cond b (Some link) None) off
other_key_found link end peer off (known ∷ rest) = by_test (is_link link.end link.peer known) refl (other_key_found link end peer off rest) where
  no_key : is_link link.end link.peer known ≡ true → is_link end peer known ≡ false
  no_key h = let parts = and_parts (known.end == link.end) (same_node known.peer link.peer) h in
      ap (λ (z : ℕ). (z == end) && same_node known.peer peer) (eqb-true known.end link.end parts.0) ∙ ap (λ (z : AddressValue). (link.end == end) && same_node z peer) (node_is known.peer link.peer parts.1) ∙ off

  by_test : (x : Bool) → is_link link.end link.peer known ≡ x → find (is_link end peer) (store_link link rest) ≡ find (is_link end peer) rest
      → find (is_link end peer) (cond x (link ∷ rest) (known ∷ store_link link rest)) ≡ find (is_link end peer) (known ∷ rest)
  by_test true h later = ap (λ b. cond b (Some link) (find (is_link end peer) rest)) off ∙ sym (ap (λ b. cond b (Some known) (find (is_link end peer) rest)) (no_key h))
  by_test false h later = ap (λ (z : Option Link). cond (is_link end peer known) (Some known) z) later

-- a link of another key is found as before
pub other_key : (link : Link) (host : HostState) (end : ℕ) (peer : AddressValue) → is_link end peer link ≡ false → link_with (with_link link host) end peer ≡ link_with host end peer
other_key link host end peer off = ap (link_or_new end peer) (other_key_found link end peer off host.links)

-- what is found has the key
pub link_named : (host : HostState) (end : ℕ) (peer : AddressValue) → ((link_with host end peer).end ≡ end) × ((link_with host end peer).peer ≡ peer)
link_named host end peer = named host.links where
  named : (links : List Link) → ((link_or_new end peer (find (is_link end peer) links)).end ≡ end) × ((link_or_new end peer (find (is_link end peer) links)).peer ≡ peer)
  named [] = (refl, refl)
  named (known ∷ rest) = by_test (is_link end peer known) refl (named rest) where
    by_test : (x : Bool) → is_link end peer known ≡ x → ((link_or_new end peer (find (is_link end peer) rest)).end ≡ end) × ((link_or_new end peer (find (is_link end peer) rest)).peer ≡ peer)
        → ((link_or_new end peer (cond x (Some known) (find (is_link end peer) rest))).end ≡ end) × ((link_or_new end peer (cond x (Some known) (find (is_link end peer) rest))).peer ≡ peer)
    by_test true h later = let parts = and_parts (known.end == end) (same_node known.peer peer) h in (eqb-true known.end end parts.0, node_is known.peer peer parts.1)
    by_test false h later = later

-- ---- sockets

socket_stored : (socket : Socket) (sockets : List Socket) → find (is_socket socket.number) (store_socket socket sockets) ≡ Some socket
socket_stored socket [] = ap (λ b. cond b (Some socket) None) (equal_numbers socket.number)
socket_stored socket (known ∷ rest) = by_test (is_socket socket.number known) refl (socket_stored socket rest) where
  by_test : (x : Bool) → is_socket socket.number known ≡ x → find (is_socket socket.number) (store_socket socket rest) ≡ Some socket
      → find (is_socket socket.number) (cond x (socket ∷ rest) (known ∷ store_socket socket rest)) ≡ Some socket
  by_test true h later = ap (λ b. cond b (Some socket) (find (is_socket socket.number) rest)) (equal_numbers socket.number)
  by_test false h later = ap (λ b. cond b (Some known) (find (is_socket socket.number) (store_socket socket rest))) h ∙ later

-- a socket that is kept is found
pub socket_kept : (socket : Socket) (sockets : List Socket) → find (is_socket socket.number) (store_socket socket sockets) ≡ Some socket
socket_kept socket sockets = socket_stored socket sockets

-- every other is found as before
pub other_socket : (socket : Socket) (number : ℕ) → (socket.number == number) ≡ false → (sockets : List Socket) → find (is_socket number) (store_socket socket sockets) ≡ find (is_socket number) sockets
other_socket socket number off [] = ap (λ b. cond b (Some socket) None) off
other_socket socket number off (known ∷ rest) = by_test (is_socket socket.number known) refl (other_socket socket number off rest) where
  no_key : is_socket socket.number known ≡ true → is_socket number known ≡ false
  no_key h = ap (λ (z : ℕ). z == number) (eqb-true known.number socket.number h) ∙ off

  by_test : (x : Bool) → is_socket socket.number known ≡ x → find (is_socket number) (store_socket socket rest) ≡ find (is_socket number) rest
      → find (is_socket number) (cond x (socket ∷ rest) (known ∷ store_socket socket rest)) ≡ find (is_socket number) (known ∷ rest)
  by_test true h later = ap (λ b. cond b (Some socket) (find (is_socket number) rest)) off ∙ sym (ap (λ b. cond b (Some known) (find (is_socket number) rest)) (no_key h))
  by_test false h later = ap (λ (z : Option Socket). cond (is_socket number known) (Some known) z) later
