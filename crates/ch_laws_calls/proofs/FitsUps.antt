-- Which link of a host is up on a socket.
use Rattle.std.proofs.Common.{◌≡◌, ◌⊎◌, inl, inr, ℕ, Bool, true, false, cond, List, [], ◌∷◌, refl, sym, ap, ◌∙◌, subst}
use Rattle.std.proofs.lemmas.Bool.{eqb-true}
use Rattle.std.specs.Prelude.{find, Option, Some, None}
use Rattle.ch_base.specs.declared.address.Address.{Address}
use Rattle.ch_reader.specs.declared.item.Expected.TheVariants as expected
use Rattle.ch_link.specs.declared.LinkState.{LinkState}
use Rattle.ch_link.specs.declared.LinkState.TheVariants.{Idle, Dialing, AwaitOther, Up}
use Rattle.ch_model.specs.HostState.{Link, Socket, HostState}
use Rattle.ch_model.specs.HostSteps.{is_link, link_or_new, link_with, is_socket}
use Rattle.ch_model.specs.Stages.{is_ended}
use Rattle.ch_laws_links.specs.Naming.{IsNaming, IsDialedBy, IsUpFor}
use Rattle.ch_laws_links.proofs.Keys.{number_self, link_named}
use Rattle.ch_laws_links.proofs.Links.{found_link}
use Rattle.ch_laws_links.proofs.Says.{risen, used, unused}
use Rattle.ch_laws_writes.proofs.Ordered.{is_key, key_self}
use Rattle.ch_laws_calls.specs.FitsFit.{is_up_at, up_on}

-- ---- lists

found_passes : (test : Link → Bool) (links : List Link) (link : Link) → find test links ≡ Some link → test link ≡ true
found_passes test [] link e = absurd cc
found_passes test (known ∷ rest) link e = by_test (test known) refl e (found_passes test rest link) where
  by_test : (b : Bool) → test known ≡ b → cond b (Some known) (find test rest) ≡ Some link → (find test rest ≡ Some link → test link ≡ true) → test link ≡ true
  by_test true h e more = let is : known ≡ link = cc in subst (λ (l : Link). test l ≡ true) is h
  by_test false h e more = more e

some_passes : (first test : Link → Bool) (links : List Link) (link : Link) → find first links ≡ Some link → test link ≡ true → find test links ≡ None → ⊥
some_passes first test [] link f t none = absurd cc
some_passes first test (known ∷ rest) link f t none = by_tests (first known) f (test known) refl none (some_passes first test rest link) where
  by_tests : (a : Bool) → cond a (Some known) (find first rest) ≡ Some link → (b : Bool) → test known ≡ b → cond b (Some known) (find test rest) ≡ None → (find first rest ≡ Some link → test link ≡ true → find test rest ≡ None → ⊥) → ⊥
  by_tests a f true h none more = absurd cc
  by_tests true f false h none more = let is : known ≡ link = cc in let no : test known ≡ true = subst (λ (l : Link). test l ≡ true) (sym is) t in absurd cc
  by_tests false f false h none more = more f t none

-- ---- states

pub up_so : (n : ℕ) (state : LinkState) → is_up_at n state ≡ true → (probed : Bool) × (state ≡ Up n probed)
up_so n Idle e = absurd cc
up_so n (Dialing sock) e = absurd cc
up_so n AwaitOther e = absurd cc
up_so n (Up sock probed) e = (probed, ap (λ (m : ℕ). Up m probed) (eqb-true sock n e))

pub up_says : (n : ℕ) (state : LinkState) (probed : Bool) → state ≡ Up n probed → is_up_at n state ≡ true
up_says n state probed e = ap (is_up_at n) e ∙ number_self n

-- a link that is up is there
link_there : (host : HostState) (end : ℕ) (peer : Address) (n : ℕ) (probed : Bool) → (link_with host end peer).state ≡ Up n probed → find (is_link end peer) host.links ≡ Some (link_with host end peer)
link_there host end peer n probed e = by_found (find (is_link end peer) host.links) e where
  by_found : (o : Option Link) → (link_or_new end peer o).state ≡ Up n probed → o ≡ Some (link_or_new end peer o)
  by_found None e = absurd cc
  by_found (Some link) e = refl

one_user : (one two : ℕ × Address) → ◌≡◌ {A = Option (ℕ × Address)} (Some one) (Some two) → one ≡ two
one_user one two e = cc

one_socket : (one two : Socket) → ◌≡◌ {A = Option Socket} (Some one) (Some two) → one ≡ two
one_socket one two e = cc

-- ---- hosts

-- the link that is up is the one that is found up
pub up_is : (host : HostState) (end : ℕ) (peer : Address) (n : ℕ) (probed : Bool) → IsNaming host → (link_with host end peer).state ≡ Up n probed → up_on n host.links ≡ Some (link_with host end peer)
up_is host end peer n probed s e = by_found (up_on n host.links) refl where
  by_found : (o : Option Link) → up_on n host.links ≡ o → o ≡ Some (link_with host end peer)
  by_found None none = absurd (some_passes (is_link end peer) (λ (link : Link). is_up_at n link.state) host.links (link_with host end peer) (link_there host end peer n probed e) (up_says n (link_with host end peer).state probed e) none)
  by_found (Some link) f =
      let up = up_so n link.state (found_passes (λ (link : Link). is_up_at n link.state) host.links link f) in
      let so : link_with host link.end link.peer ≡ link = ap (link_or_new link.end link.peer) (found_link (λ (link : Link). is_up_at n link.state) host.links link s.links f) in
      let one = risen host end peer n probed s e in
      let two = risen host link.end link.peer n up.0 s (ap (λ (l : Link). l.state) so ∙ up.1) in
      let same : one.0 ≡ two.0 = one_socket one.0 two.0 (sym one.1 ∙ two.1) in
      let user : (end, peer) ≡ (link.end, link.peer) = one_user (end, peer) (link.end, link.peer) (sym one.2.user ∙ ap (λ (w : Socket). w.user) same ∙ two.2.user) in
      ap Some (sym so ∙ sym (ap (λ (u : ℕ × Address). link_with host u.0 u.1) user))

-- none is found where none is up
pub none_up : (host : HostState) (n : ℕ) → IsNaming host → ((end : ℕ) (peer : Address) (probed : Bool) → (link_with host end peer).state ≡ Up n probed → ⊥) → up_on n host.links ≡ None
none_up host n s never = by_found (up_on n host.links) refl where
  by_found : (o : Option Link) → up_on n host.links ≡ o → o ≡ None
  by_found None none = refl
  by_found (Some link) f =
      let up = up_so n link.state (found_passes (λ (link : Link). is_up_at n link.state) host.links link f) in
      let so : link_with host link.end link.peer ≡ link = ap (link_or_new link.end link.peer) (found_link (λ (link : Link). is_up_at n link.state) host.links link s.links f) in
      absurd (never link.end link.peer up.0 (ap (λ (l : Link). l.state) so ∙ up.1))

-- one link alone is up on a socket
pub one_up : (host : HostState) (end : ℕ) (peer : Address) (e : ℕ) (p : Address) (n : ℕ) (one two : Bool) → IsNaming host → (link_with host end peer).state ≡ Up n one → (link_with host e p).state ≡ Up n two → is_key end peer e p ≡ true
one_up host end peer e p n one two s f g =
    let same : link_with host end peer ≡ link_with host e p = one_link (link_with host end peer) (link_with host e p) (sym (up_is host end peer n one s f) ∙ up_is host e p n two s g) in
    let ends : end ≡ e = sym (link_named host end peer).0 ∙ ap (λ (l : Link). l.end) same ∙ (link_named host e p).0 in
    let peers : peer ≡ p = sym (link_named host end peer).1 ∙ ap (λ (l : Link). l.peer) same ∙ (link_named host e p).1 in
    subst (λ (m : ℕ). is_key end peer m p ≡ true) ends (subst (λ (a : Address). is_key end peer end a ≡ true) peers (key_self end peer))
  where
    one_link : (x y : Link) → ◌≡◌ {A = Option Link} (Some x) (Some y) → x ≡ y
    one_link x y e = cc

-- an end that hasn't ended: a link is up on it
pub record IsUpOn (host : HostState) (n : ℕ) (known : Socket) : Type 0 where
  pub end : ℕ
  pub peer : Address
  pub probed : Bool
  pub state : (link_with host end peer).state ≡ Up n probed
  pub expects : known.expected ≡ expected.Frame

-- or none is
pub record IsUnrisen (host : HostState) (n : ℕ) (known : Socket) : Type 0 where
  pub none : up_on n host.links ≡ None
  pub expects : known.expected ≡ expected.Frame → ⊥

unrisen : (host : HostState) (n : ℕ) (known : Socket) → IsNaming host → find (is_socket n) host.sockets ≡ Some known → (known.expected ≡ expected.Frame → ⊥) → IsUnrisen host n known
unrisen host n known s found off = record {
  none = none_up host n s (λ end peer probed e. let one = risen host end peer n probed s e in off (ap (λ (w : Socket). w.expected) (one_socket known one.0 (sym found ∙ one.1)) ∙ one.2.expects));
  expects = off;
}

pub stands : (host : HostState) (n : ℕ) (known : Socket) → IsNaming host → find (is_socket n) host.sockets ≡ Some known → is_ended known.stage ≡ false → IsUpOn host n known ⊎ IsUnrisen host n known
stands host n known s found live = by_user known.user refl where
  by_used : (end : ℕ) (peer : Address) → (((link_with host end peer).state ≡ Dialing n) × IsDialedBy end peer known) ⊎ ((probed : Bool) × ((link_with host end peer).state ≡ Up n probed) × IsUpFor end peer known) → IsUpOn host n known ⊎ IsUnrisen host n known
  by_used end peer (inl d) = inr (unrisen host n known s found (λ e. let no : expected.Answer ≡ expected.Frame = sym d.1.expects ∙ e in absurd cc))
  by_used end peer (inr u) = inl (record { end = end; peer = peer; probed = u.0; state = u.1; expects = u.2.expects })

  by_user : (o : Option (ℕ × Address)) → known.user ≡ o → IsUpOn host n known ⊎ IsUnrisen host n known
  by_user None e = inr (unrisen host n known s found (λ f. let no : expected.Request ≡ expected.Frame = sym (unused host n known s found e live).expects ∙ f in absurd cc))
  by_user (Some user) e = by_used user.0 user.1 (used host user.0 user.1 n known s found e live)
