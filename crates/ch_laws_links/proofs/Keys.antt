-- What a host finds by its keys after a link or a socket is kept.
use Rattle.std.proofs.Common.{◌≡◌, ℕ, Bool, true, false, cond, ◌&&◌, List, [], ◌∷◌, refl, sym, ap, ◌∙◌, subst}
use Rattle.std.proofs.lemmas.Bool.{eqb-true, eq-eqb, and_parts}
use Rattle.std.specs.Option.{option_map}
use Rattle.std.specs.Prelude.{◌==◌, find, Option, Some, None}
use Rattle.ch_base.specs.declared.address.Address.{Address}
use Rattle.ch_link.specs.declared.LinkState.{LinkState}
use Rattle.ch_watch.specs.Same.{same_node}
use Rattle.ch_model.specs.HostState.{Link, Socket, HostState}
use Rattle.ch_model.specs.HostSteps.{is_link, link_or_new, link_with, store_link, with_link, is_socket}
use Rattle.ch_model.specs.HostWrites.{ended_in, end_socket}
use Rattle.ch_model.specs.Stages.{Ended}
use Rattle.ch_laws_log.proofs.HostTold.{find_stored, number_found}
use Rattle.ch_laws_log.proofs.Homes.{node_self}
use Rattle.ch_laws_log.proofs.Keys.{node_is}

pub number_self : (a : ℕ) → (a == a) ≡ true
number_self a = eq-eqb a a refl

-- ---- links

pub key_self : (link : Link) → is_link link.end link.peer link ≡ true
key_self link = ap (λ b. b && same_node link.peer link.peer) (number_self link.end) ∙ node_self link.peer

pub key_of : (end : ℕ) (peer : Address) (link : Link) → is_link end peer link ≡ true → (link.end ≡ end) × (link.peer ≡ peer)
key_of end peer link h = let parts = and_parts (link.end == end) (same_node link.peer peer) h in (eqb-true link.end end parts.0, node_is link.peer peer parts.1)

-- a link of another's key is found under the same keys
same_keys : (one two : Link) → is_link one.end one.peer two ≡ true → (end : ℕ) (peer : Address) → is_link end peer two ≡ is_link end peer one
same_keys one two h end peer = let k = key_of one.end one.peer two h in ap (λ (z : ℕ). (z == end) && same_node two.peer peer) k.0 ∙ ap (λ (z : Address). (one.end == end) && same_node z peer) k.1

pub find_link_stored : (link : Link) (links : List Link) (end : ℕ) (peer : Address) → find (is_link end peer) (store_link link links) ≡ cond (is_link end peer link) (Some link) (find (is_link end peer) links)
find_link_stored link [] end peer = refl
find_link_stored link (known ∷ rest) end peer = by_tests (is_link link.end link.peer known) refl (is_link end peer link) refl (is_link end peer known) refl (find_link_stored link rest end peer) where
  clash : (b c : Bool) → b ≡ c → b ≡ true → c ≡ false → ⊥
  clash b c e t f = absurd cc

  by_tests : (a : Bool) → is_link link.end link.peer known ≡ a → (b : Bool) → is_link end peer link ≡ b → (c : Bool) → is_link end peer known ≡ c
      → find (is_link end peer) (store_link link rest) ≡ cond b (Some link) (find (is_link end peer) rest)
      → find (is_link end peer) (cond a (link ∷ rest) (known ∷ store_link link rest)) ≡ cond b (Some link) (cond c (Some known) (find (is_link end peer) rest))
  by_tests true h b g true k ih = let same = same_keys link known h end peer in ap (λ x. cond x (Some link) (find (is_link end peer) rest)) (sym same ∙ k) ∙ ap (λ x. cond x (Some link) (Some known)) (sym k ∙ same ∙ g)
  by_tests true h true g false k ih = absurd (clash (is_link end peer link) (is_link end peer known) (sym (same_keys link known h end peer)) g k)
  by_tests true h false g false k ih = ap (λ x. cond x (Some link) (find (is_link end peer) rest)) g
  by_tests false h true g true k ih = let one = key_of end peer link g in absurd (clash (is_link link.end link.peer known) (is_link link.end link.peer known) refl (ap (λ (z : ℕ). (known.end == z) && same_node known.peer link.peer) one.0 ∙ ap (λ (z : Address). (known.end == end) && same_node known.peer z) one.1 ∙ k) h)
  by_tests false h true g false k ih = ap (λ b. cond b (Some known) (find (is_link end peer) (store_link link rest))) k ∙ ih
  by_tests false h false g true k ih = ap (λ b. cond b (Some known) (find (is_link end peer) (store_link link rest))) k
  by_tests false h false g false k ih = ap (λ b. cond b (Some known) (find (is_link end peer) (store_link link rest))) k ∙ ih

-- the state of the link of an endpoint with a peer
abbrev pub state_at : HostState → ℕ → Address → LinkState
state_at host end peer = (link_with host end peer).state

-- a link that is kept has the state of its endpoint and peer
pub relinked : (link : Link) (host : HostState) (end : ℕ) (peer : Address) → state_at (with_link link host) end peer ≡ cond (is_link end peer link) link.state (state_at host end peer)
relinked link host end peer = ap (λ o. (link_or_new end peer o).state) (find_link_stored link host.links end peer) ∙ by_test (is_link end peer link) where
  by_test : (b : Bool) → (link_or_new end peer (cond b (Some link) (find (is_link end peer) host.links))).state ≡ cond b link.state (state_at host end peer)
  by_test true = refl
  by_test false = refl

-- the link that is found is of the endpoint and the peer
pub link_named : (host : HostState) (end : ℕ) (peer : Address) → ((link_with host end peer).end ≡ end) × ((link_with host end peer).peer ≡ peer)
link_named host end peer = named host.links where
  named : (links : List Link) → ((link_or_new end peer (find (is_link end peer) links)).end ≡ end) × ((link_or_new end peer (find (is_link end peer) links)).peer ≡ peer)
  named [] = (refl, refl)
  named (known ∷ rest) = by_test (is_link end peer known) refl (named rest) where
    by_test : (x : Bool) → is_link end peer known ≡ x → ((link_or_new end peer (find (is_link end peer) rest)).end ≡ end) × ((link_or_new end peer (find (is_link end peer) rest)).peer ≡ peer)
        → ((link_or_new end peer (cond x (Some known) (find (is_link end peer) rest))).end ≡ end) × ((link_or_new end peer (cond x (Some known) (find (is_link end peer) rest))).peer ≡ peer)
    by_test true h later = key_of end peer known h
    by_test false h later = later

-- ---- sockets

-- the record of a socket that has ended
abbrev pub ended : Socket → Socket
ended socket = record socket { stage = Ended; since = [] }

abbrev pub over : Bool → Option Socket → Option Socket
over true o = option_map ended o
over false o = o

pub ended_found : (sock : ℕ) (host : HostState) (n : ℕ) → find (is_socket n) (end_socket sock host).sockets ≡ over (sock == n) (find (is_socket n) host.sockets)
ended_found sock host n = by_socket (find (is_socket sock) host.sockets) refl where
  none : (b : Bool) → (sock == n) ≡ b → find (is_socket sock) host.sockets ≡ None → find (is_socket n) host.sockets ≡ over b (find (is_socket n) host.sockets)
  none true h e = let no : find (is_socket n) host.sockets ≡ None = subst (λ (m : ℕ). find (is_socket m) host.sockets ≡ None) (eqb-true sock n h) e in no ∙ sym (ap (option_map ended) no)
  none false h e = refl

  there : (socket : Socket) (b : Bool) → (sock == n) ≡ b → find (is_socket sock) host.sockets ≡ Some socket → cond b (Some (ended socket)) (find (is_socket n) host.sockets) ≡ over b (find (is_socket n) host.sockets)
  there socket true h e = sym (ap (option_map ended) (subst (λ (m : ℕ). find (is_socket m) host.sockets ≡ Some socket) (eqb-true sock n h) e))
  there socket false h e = refl

  by_socket : (o : Option Socket) → find (is_socket sock) host.sockets ≡ o → find (is_socket n) (ended_in o host).sockets ≡ over (sock == n) (find (is_socket n) host.sockets)
  by_socket None e = none (sock == n) refl e
  by_socket (Some socket) e = find_stored (ended socket) host.sockets n ∙ ap (λ (m : ℕ). cond (m == n) (Some (ended socket)) (find (is_socket n) host.sockets)) (number_found sock host.sockets socket e) ∙ there socket (sock == n) refl e

pub ended_rest : (sock : ℕ) (host : HostState) → ((end_socket sock host).links ≡ host.links) × ((end_socket sock host).dials ≡ host.dials)
ended_rest sock host = by_socket (find (is_socket sock) host.sockets) where
  by_socket : (o : Option Socket) → ((ended_in o host).links ≡ host.links) × ((ended_in o host).dials ≡ host.dials)
  by_socket None = (refl, refl)
  by_socket (Some socket) = (refl, refl)

pub states_as : (one two : HostState) → one.links ≡ two.links → (end : ℕ) (peer : Address) → state_at one end peer ≡ state_at two end peer
states_as one two e end peer = ap (λ (links : List Link). (link_or_new end peer (find (is_link end peer) links)).state) e
