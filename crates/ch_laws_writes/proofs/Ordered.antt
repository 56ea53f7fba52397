-- Links and sockets that fit, but for links that are left out, and what keeps them so.
use Rattle.std.proofs.Common.{◌≡◌, ℕ, Bool, true, false, cond, ◌&&◌, List, [], ◌∷◌, refl, sym, ap, ◌∙◌, subst}
use Rattle.std.proofs.lemmas.Bool.{and_parts}
use Rattle.std.specs.Prelude.{find, Option, Some, None, ◌==◌}
use Rattle.ch_base.specs.declared.address.Address.{Address}
use Rattle.ch_link.specs.Sockets.{names}
use Rattle.ch_link.specs.declared.LinkState.{LinkState}
use Rattle.ch_link.specs.declared.LinkState.TheVariants as states
use Rattle.ch_reader.specs.declared.item.Expected.TheVariants as expected
use Rattle.ch_watch.specs.Same.{same_node}
use Rattle.ch_model.specs.HostState.{Link, Socket, HostState}
use Rattle.ch_model.specs.HostSteps.{is_link, link_or_new, store_link, is_socket, store_socket}
use Rattle.ch_model.specs.HostWrites.{ended_in, end_socket}
use Rattle.ch_model.specs.Stages.{is_pending, is_ended}
use Rattle.ch_laws_items.proofs.Sockets.{number_is}
use Rattle.ch_laws_log.proofs.Homes.{node_self}
use Rattle.ch_laws_log.proofs.HostTold.{number_same, number_found, find_stored}
use Rattle.ch_laws_log.proofs.Keys.{node_is}
use Rattle.ch_laws_writes.specs.Dues.{Due, Framing, due_of}
use Rattle.ch_laws_writes.specs.Orderly.{LinksApart, link_at, user_of, LinkFits, IsOrderly}
use Rattle.ch_laws_writes.proofs.Dues.{over}

-- ---- links by endpoint and peer

-- the one key is the other
abbrev pub is_key : ℕ → Address → ℕ → Address → Bool
is_key e p end peer = (e == end) && same_node p peer

pub key_self : (e : ℕ) (p : Address) → is_key e p e p ≡ true
key_self e p = ap (λ b. b && same_node p p) (number_same e) ∙ node_self p

pub end_is : (e : ℕ) (p : Address) (end : ℕ) (peer : Address) → is_key e p end peer ≡ true → e ≡ end
end_is e p end peer h = number_is e end (and_parts (e == end) (same_node p peer) h).0

pub peer_is : (e : ℕ) (p : Address) (end : ℕ) (peer : Address) → is_key e p end peer ≡ true → p ≡ peer
peer_is e p end peer h = node_is p peer (and_parts (e == end) (same_node p peer) h).1

-- what is so at a key is so at the same key
pub at_key : (P : ℕ → Address → Type 0) (e : ℕ) (p : Address) (end : ℕ) (peer : Address) → is_key e p end peer ≡ true → P e p → P end peer
at_key P e p end peer h x = subst (λ (n : ℕ). P n peer) (end_is e p end peer h) (subst (λ (a : Address). P e a) (peer_is e p end peer h) x)

link_stored : (link : Link) (links : List Link) (end : ℕ) (peer : Address) → find (is_link end peer) (store_link link links) ≡ cond (is_link end peer link) (Some link) (find (is_link end peer) links)
link_stored link [] end peer = refl
link_stored link (known ∷ rest) end peer = by_tests (is_link link.end link.peer known) refl (is_link end peer link) refl (is_link end peer known) refl (link_stored link rest end peer) where
  by_tests : (a : Bool) → is_link link.end link.peer known ≡ a → (b : Bool) → is_link end peer link ≡ b → (c : Bool) → is_link end peer known ≡ c
      → find (is_link end peer) (store_link link rest) ≡ cond b (Some link) (find (is_link end peer) rest)
      → find (is_link end peer) (cond a (link ∷ rest) (known ∷ store_link link rest)) ≡ cond b (Some link) (cond c (Some known) (find (is_link end peer) rest))
  by_tests true h true g c k ih = ap (λ b. cond b (Some link) (find (is_link end peer) rest)) g
  by_tests true h false g true k ih = let no : is_key link.end link.peer end peer ≡ true = at_key (λ n a. is_key n a end peer ≡ true) known.end known.peer link.end link.peer h k in absurd cc
  by_tests true h false g false k ih = ap (λ b. cond b (Some link) (find (is_link end peer) rest)) g
  by_tests false h true g true k ih = let no : is_key known.end known.peer link.end link.peer ≡ true = turned (known.end) known.peer k g in absurd cc where
    turned : (e : ℕ) (p : Address) → is_key e p end peer ≡ true → is_key link.end link.peer end peer ≡ true → is_key e p link.end link.peer ≡ true
    turned e p one two = let ends : e ≡ link.end = end_is e p end peer one ∙ sym (end_is link.end link.peer end peer two) in let peers : p ≡ link.peer = peer_is e p end peer one ∙ sym (peer_is link.end link.peer end peer two) in
        subst (λ (n : ℕ). is_key n p link.end link.peer ≡ true) (sym ends) (subst (λ (a : Address). is_key link.end a link.end link.peer ≡ true) (sym peers) (key_self link.end link.peer))
  by_tests false h true g false k ih = ap (λ b. cond b (Some known) (find (is_link end peer) (store_link link rest))) k ∙ ih
  by_tests false h false g true k ih = ap (λ b. cond b (Some known) (find (is_link end peer) (store_link link rest))) k
  by_tests false h false g false k ih = ap (λ b. cond b (Some known) (find (is_link end peer) (store_link link rest))) k ∙ ih

-- a link that is kept is found under its key, and every other as before
pub at_stored : (link : Link) (links : List Link) → link_at (store_link link links) link.end link.peer ≡ link
at_stored link links = ap (link_or_new link.end link.peer) (link_stored link links link.end link.peer ∙ ap (λ b. cond b (Some link) (find (is_link link.end link.peer) links)) (key_self link.end link.peer))

pub at_other : (link : Link) (links : List Link) (end : ℕ) (peer : Address) → is_key link.end link.peer end peer ≡ false → link_at (store_link link links) end peer ≡ link_at links end peer
at_other link links end peer off = ap (link_or_new end peer) (link_stored link links end peer ∙ ap (λ b. cond b (Some link) (find (is_link end peer) links)) off)

no_link_comes : (end : ℕ) (peer : Address) (link : Link) (links : List Link) → is_key link.end link.peer end peer ≡ false → find (is_link end peer) links ≡ None → find (is_link end peer) (store_link link links) ≡ None
no_link_comes end peer link links off none = link_stored link links end peer ∙ ap (λ b. cond b (Some link) (find (is_link end peer) links)) off ∙ none

turned_key : (e : ℕ) (p : Address) (end : ℕ) (peer : Address) → is_key e p end peer ≡ false → is_key end peer e p ≡ false
turned_key e p end peer off = by_test (is_key end peer e p) refl where
  by_test : (b : Bool) → is_key end peer e p ≡ b → b ≡ false
  by_test true h = let no : is_key e p end peer ≡ true = at_key (λ n a. is_key n a end peer ≡ true) end peer e p h (key_self end peer) in absurd cc
  by_test false h = refl

pub stored_apart : (link : Link) (links : List Link) → LinksApart links → LinksApart (store_link link links)
stored_apart link [] a = (refl, tt)
stored_apart link (known ∷ rest) a = by_test (is_link link.end link.peer known) refl (stored_apart link rest a.1) where
  by_test : (b : Bool) → is_link link.end link.peer known ≡ b → LinksApart (store_link link rest) → LinksApart (cond b (link ∷ rest) (known ∷ store_link link rest))
  by_test true e s = (at_key (λ n x. find (is_link n x) rest ≡ None) known.end known.peer link.end link.peer e a.0, a.1)
  by_test false e s = (no_link_comes known.end known.peer link rest (turned_key known.end known.peer link.end link.peer e) a.0, s)

-- what is found has the key
pub named_end : (links : List Link) (end : ℕ) (peer : Address) → (link_at links end peer).end ≡ end
named_end [] end peer = refl
named_end (known ∷ rest) end peer = by_test (is_link end peer known) refl (named_end rest end peer) where
  by_test : (b : Bool) → is_link end peer known ≡ b → (link_at rest end peer).end ≡ end → (link_or_new end peer (cond b (Some known) (find (is_link end peer) rest))).end ≡ end
  by_test true h more = end_is known.end known.peer end peer h
  by_test false h more = more

pub named_peer : (links : List Link) (end : ℕ) (peer : Address) → (link_at links end peer).peer ≡ peer
named_peer [] end peer = refl
named_peer (known ∷ rest) end peer = by_test (is_link end peer known) refl (named_peer rest end peer) where
  by_test : (b : Bool) → is_link end peer known ≡ b → (link_at rest end peer).peer ≡ peer → (link_or_new end peer (cond b (Some known) (find (is_link end peer) rest))).peer ≡ peer
  by_test true h more = peer_is known.end known.peer end peer h
  by_test false h more = more

-- a link that some test finds is the one under its key
pub found_own : (test : Link → Bool) (links : List Link) (link : Link) → LinksApart links → find test links ≡ Some link → find (is_link link.end link.peer) links ≡ Some link
found_own test [] link a e = absurd cc
found_own test (known ∷ rest) link a e = by_test (test known) e (found_own test rest link a.1) where
  by_key : (b : Bool) → is_link link.end link.peer known ≡ b → find (is_link link.end link.peer) rest ≡ Some link → cond b (Some known) (find (is_link link.end link.peer) rest) ≡ Some link
  by_key true h f = let none : find (is_link link.end link.peer) rest ≡ None = at_key (λ n x. find (is_link n x) rest ≡ None) known.end known.peer link.end link.peer h a.0 in absurd cc
  by_key false h f = f

  by_test : (b : Bool) → cond b (Some known) (find test rest) ≡ Some link → (find test rest ≡ Some link → find (is_link link.end link.peer) rest ≡ Some link) → cond (is_link link.end link.peer known) (Some known) (find (is_link link.end link.peer) rest) ≡ Some link
  by_test true e more = let is : known ≡ link = cc in subst (λ (l : Link). cond (is_link l.end l.peer known) (Some known) (find (is_link l.end l.peer) rest) ≡ Some l) is (ap (λ b. cond b (Some known) (find (is_link known.end known.peer) rest)) (key_self known.end known.peer))
  by_test false e more = by_key (is_link link.end link.peer known) refl (more e)

-- ---- all fit but the links that are left out

-- which links are left out
abbrev pub Left : Type 0
Left = ℕ → Address → Bool

-- as a socket fits, but for links that are left out
pub record SocketFitsBut (out : Left) (links : List Link) (socket : Socket) : Type 0 where
  pub asks : is_pending socket.stage ≡ true → socket.expected ≡ expected.Answer
  pub unasked : socket.expected ≡ expected.Request → socket.user ≡ None
  pub awaits : is_ended socket.stage ≡ false → socket.expected ≡ expected.Answer → (end : ℕ) (peer : Address) → out end peer ≡ false → socket.user ≡ Some (end, peer) → (link_at links end peer).state ≡ states.Dialing socket.number

pub record FitBut (out : Left) (links : List Link) (sockets : List Socket) : Type 0 where
  pub apart : LinksApart links
  pub each_link : (end : ℕ) (peer : Address) → out end peer ≡ false → LinkFits sockets end peer (link_at links end peer)
  pub each_socket : (n : ℕ) (socket : Socket) → find (is_socket n) sockets ≡ Some socket → SocketFitsBut out links socket

-- none is left out
abbrev pub nobody : Left
nobody end peer = false

abbrev pub Fit : List Link → List Socket → Type 0
Fit links sockets = FitBut nobody links sockets

pub fit_of : (own : ℕ → Address) (host : HostState) → IsOrderly own host → Fit host.links host.sockets
fit_of own host o = record {
  apart = o.apart;
  each_link = λ end peer kept. o.links end peer;
  each_socket = λ n socket found. record { asks = (o.sockets n socket found).asks; unasked = (o.sockets n socket found).unasked; awaits = λ s a end peer kept u. (o.sockets n socket found).awaits s a end peer u };
}

-- one more is left out
pub left_out : (out : Left) (links : List Link) (sockets : List Socket) → Fit links sockets → FitBut out links sockets
left_out out links sockets f = record {
  apart = f.apart;
  each_link = λ end peer kept. f.each_link end peer refl;
  each_socket = λ n socket found. record { asks = (f.each_socket n socket found).asks; unasked = (f.each_socket n socket found).unasked; awaits = λ s a end peer kept u. (f.each_socket n socket found).awaits s a end peer refl u };
}

-- a socket is kept in place of another, which the links that name it go on to use
pub replaced : (out : Left) (links : List Link) (sockets : List Socket) (new old : Socket) → FitBut out links sockets → find (is_socket new.number) sockets ≡ Some old
    → ((end : ℕ) (peer : Address) → out end peer ≡ false → names (link_at links end peer).state new.number ≡ true → old.user ≡ Some (end, peer) → (new.user ≡ Some (end, peer)) × (due_of (Some old) ≡ Some Framing → due_of (Some new) ≡ Some Framing))
    → SocketFitsBut out links new → FitBut out links (store_socket new sockets)
replaced out links sockets new old f found goes fits = record {
  apart = f.apart;
  each_link = λ end peer kept. record {
    named = λ n e. ap user_of (find_stored new sockets n) ∙ by_user end peer kept n e (new.number == n) refl;
    up = λ sock probed e. ap due_of (find_stored new sockets sock) ∙ by_due end peer kept sock probed e (new.number == sock) refl;
    spelled = (f.each_link end peer kept).spelled;
    given = (f.each_link end peer kept).given;
  };
  each_socket = λ n socket e. by_fits n socket (new.number == n) (sym (find_stored new sockets n) ∙ e);
} where
  was : (end : ℕ) (peer : Address) → out end peer ≡ false → names (link_at links end peer).state new.number ≡ true → old.user ≡ Some (end, peer)
  was end peer kept e = sym (ap user_of found) ∙ (f.each_link end peer kept).named new.number e

  named_up : (end : ℕ) (peer : Address) (sock : ℕ) (probed : Bool) → (link_at links end peer).state ≡ states.Up sock probed → names (link_at links end peer).state sock ≡ true
  named_up end peer sock probed e = ap (λ (s : LinkState). names s sock) e ∙ number_same sock

  by_user : (end : ℕ) (peer : Address) → out end peer ≡ false → (n : ℕ) → names (link_at links end peer).state n ≡ true → (b : Bool) → (new.number == n) ≡ b → user_of (cond b (Some new) (find (is_socket n) sockets)) ≡ Some (end, peer)
  by_user end peer kept n e true h = let here : names (link_at links end peer).state new.number ≡ true = subst (λ (m : ℕ). names (link_at links end peer).state m ≡ true) (sym (number_is new.number n h)) e in (goes end peer kept here (was end peer kept here)).0
  by_user end peer kept n e false h = (f.each_link end peer kept).named n e

  by_due : (end : ℕ) (peer : Address) → out end peer ≡ false → (n : ℕ) (probed : Bool) → (link_at links end peer).state ≡ states.Up n probed → (b : Bool) → (new.number == n) ≡ b → due_of (cond b (Some new) (find (is_socket n) sockets)) ≡ Some Framing
  by_due end peer kept n probed e true h =
      let same : new.number ≡ n = number_is new.number n h in
      let here : names (link_at links end peer).state new.number ≡ true = subst (λ (m : ℕ). names (link_at links end peer).state m ≡ true) (sym same) (named_up end peer n probed e) in
      (goes end peer kept here (was end peer kept here)).1 (sym (ap due_of found) ∙ subst (λ (m : ℕ). due_of (find (is_socket m) sockets) ≡ Some Framing) (sym same) ((f.each_link end peer kept).up n probed e))
  by_due end peer kept n probed e false h = (f.each_link end peer kept).up n probed e

  by_fits : (n : ℕ) (socket : Socket) (b : Bool) → cond b (Some new) (find (is_socket n) sockets) ≡ Some socket → SocketFitsBut out links socket
  by_fits n socket true e = let is : new ≡ socket = cc in subst (λ (s : Socket). SocketFitsBut out links s) is fits
  by_fits n socket false e = f.each_socket n socket e

-- a socket is kept under a number that none has
pub added : (out : Left) (links : List Link) (sockets : List Socket) (new : Socket) → FitBut out links sockets → find (is_socket new.number) sockets ≡ None → SocketFitsBut out links new → FitBut out links (store_socket new sockets)
added out links sockets new f none fits = record {
  apart = f.apart;
  each_link = λ end peer kept. record {
    named = λ n e. ap user_of (find_stored new sockets n) ∙ by_user end peer kept n e (new.number == n) refl;
    up = λ sock probed e. ap due_of (find_stored new sockets sock) ∙ by_due end peer kept sock probed e (new.number == sock) refl;
    spelled = (f.each_link end peer kept).spelled;
    given = (f.each_link end peer kept).given;
  };
  each_socket = λ n socket e. by_fits n socket (new.number == n) (sym (find_stored new sockets n) ∙ e);
} where
  by_user : (end : ℕ) (peer : Address) → out end peer ≡ false → (n : ℕ) → names (link_at links end peer).state n ≡ true → (b : Bool) → (new.number == n) ≡ b → user_of (cond b (Some new) (find (is_socket n) sockets)) ≡ Some (end, peer)
  by_user end peer kept n e true h =
      let at : user_of (find (is_socket n) sockets) ≡ Some (end, peer) = (f.each_link end peer kept).named n e in
      let off : find (is_socket n) sockets ≡ None = subst (λ (m : ℕ). find (is_socket m) sockets ≡ None) (number_is new.number n h) none in
      let no : ◌≡◌ {A = Option (ℕ × Address)} None (Some (end, peer)) = sym (ap user_of off) ∙ at in absurd cc
  by_user end peer kept n e false h = (f.each_link end peer kept).named n e

  by_due : (end : ℕ) (peer : Address) → out end peer ≡ false → (n : ℕ) (probed : Bool) → (link_at links end peer).state ≡ states.Up n probed → (b : Bool) → (new.number == n) ≡ b → due_of (cond b (Some new) (find (is_socket n) sockets)) ≡ Some Framing
  by_due end peer kept n probed e true h =
      let at : due_of (find (is_socket n) sockets) ≡ Some Framing = (f.each_link end peer kept).up n probed e in
      let off : find (is_socket n) sockets ≡ None = subst (λ (m : ℕ). find (is_socket m) sockets ≡ None) (number_is new.number n h) none in
      let no : ◌≡◌ {A = Option Due} None (Some Framing) = sym (ap due_of off) ∙ at in absurd cc
  by_due end peer kept n probed e false h = (f.each_link end peer kept).up n probed e

  by_fits : (n : ℕ) (socket : Socket) (b : Bool) → cond b (Some new) (find (is_socket n) sockets) ≡ Some socket → SocketFitsBut out links socket
  by_fits n socket true e = let is : new ≡ socket = cc in subst (λ (s : Socket). SocketFitsBut out links s) is fits
  by_fits n socket false e = f.each_socket n socket e

-- the end of a socket is over that no link names, but for those that are left out
pub ended_fit : (out : Left) (host : HostState) (sock : ℕ) → FitBut out host.links host.sockets → ((end : ℕ) (peer : Address) → out end peer ≡ false → names (link_at host.links end peer).state sock ≡ true → ⊥) → FitBut out (end_socket sock host).links (end_socket sock host).sockets
ended_fit out host sock f unnamed = by_socket (find (is_socket sock) host.sockets) refl where
  by_socket : (o : Option Socket) → find (is_socket sock) host.sockets ≡ o → FitBut out (ended_in o host).links (ended_in o host).sockets
  by_socket None e = f
  by_socket (Some socket) e =
      let same : socket.number ≡ sock = number_found sock host.sockets socket e in
      replaced out host.links host.sockets (over socket) socket f (subst (λ (n : ℕ). find (is_socket n) host.sockets ≡ Some socket) (sym same) e)
      (λ end peer kept named u. absurd (unnamed end peer kept (subst (λ (n : ℕ). names (link_at host.links end peer).state n ≡ true) same named)))
      (record { asks = λ p. absurd cc; unasked = (f.each_socket sock socket e).unasked; awaits = λ s a end peer kept u. absurd cc })

-- a link is kept that is left out
pub relinked : (link : Link) (links : List Link) (sockets : List Socket) → FitBut (is_key link.end link.peer) links sockets → FitBut (is_key link.end link.peer) (store_link link links) sockets
relinked link links sockets f = record {
  apart = stored_apart link links f.apart;
  each_link = λ end peer kept. subst (λ (l : Link). LinkFits sockets end peer l) (sym (at_other link links end peer kept)) (f.each_link end peer kept);
  each_socket = λ n socket found. record {
    asks = (f.each_socket n socket found).asks;
    unasked = (f.each_socket n socket found).unasked;
    awaits = λ s a end peer kept u. ap (λ (l : Link). l.state) (at_other link links end peer kept) ∙ (f.each_socket n socket found).awaits s a end peer kept u;
  };
}

-- each socket that awaits an answer for this link is being dialed by it
abbrev pub Awaited : Link → List Socket → Type 0
Awaited link sockets = (n : ℕ) (socket : Socket) → find (is_socket n) sockets ≡ Some socket → is_ended socket.stage ≡ false → socket.expected ≡ expected.Answer → socket.user ≡ Some (link.end, link.peer) → link.state ≡ states.Dialing socket.number

-- the link that was left out is kept, and fits
pub linked : (link : Link) (links : List Link) (sockets : List Socket) → FitBut (is_key link.end link.peer) links sockets → LinkFits sockets link.end link.peer link → Awaited link sockets → Fit (store_link link links) sockets
linked link links sockets f fits awaits = record {
  apart = stored_apart link links f.apart;
  each_link = λ end peer kept. by_link end peer (is_key link.end link.peer end peer) refl;
  each_socket = λ n socket found. record {
    asks = (f.each_socket n socket found).asks;
    unasked = (f.each_socket n socket found).unasked;
    awaits = λ s a end peer kept u. by_awaited n socket found s a end peer u (is_key link.end link.peer end peer) refl;
  };
} where
  by_link : (end : ℕ) (peer : Address) (b : Bool) → is_key link.end link.peer end peer ≡ b → LinkFits sockets end peer (link_at (store_link link links) end peer)
  by_link end peer true h = at_key (λ n a. LinkFits sockets n a (link_at (store_link link links) n a)) link.end link.peer end peer h (subst (λ (l : Link). LinkFits sockets link.end link.peer l) (sym (at_stored link links)) fits)
  by_link end peer false h = subst (λ (l : Link). LinkFits sockets end peer l) (sym (at_other link links end peer h)) (f.each_link end peer h)

  by_awaited : (n : ℕ) (socket : Socket) → find (is_socket n) sockets ≡ Some socket → is_ended socket.stage ≡ false → socket.expected ≡ expected.Answer → (end : ℕ) (peer : Address) → socket.user ≡ Some (end, peer) → (b : Bool) → is_key link.end link.peer end peer ≡ b → (link_at (store_link link links) end peer).state ≡ states.Dialing socket.number
  by_awaited n socket found s a end peer u true h = at_key (λ m x. socket.user ≡ Some (m, x) → (link_at (store_link link links) m x).state ≡ states.Dialing socket.number) link.end link.peer end peer h
      (λ own. ap (λ (l : Link). l.state) (at_stored link links) ∙ awaits n socket found s a own) u
  by_awaited n socket found s a end peer u false h = ap (λ (l : Link). l.state) (at_other link links end peer h) ∙ (f.each_socket n socket found).awaits s a end peer h u
