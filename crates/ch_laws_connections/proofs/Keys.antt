-- The links of a host by endpoint and peer: what one that is stored changes of what is given.
use Rattle.std.proofs.Common.{◌≡◌, ℕ, Bool, true, false, cond, ◌&&◌, List, [], ◌∷◌, refl, sym, ap, ◌∙◌, subst}
use Rattle.std.proofs.lemmas.Bool.{and_parts}
use Rattle.std.specs.Prelude.{find, Option, Some, None, ◌==◌}
use Rattle.ch_base.specs.declared.address.Address.{Address}
use Rattle.ch_watch.specs.Same.{same_node}
use Rattle.ch_model.specs.HostState.{Link, HostState}
use Rattle.ch_model.specs.HostSteps.{is_link, link_or_new, link_with, store_link, with_link}
use Rattle.ch_laws_log.proofs.Stored.{number_is, number_same}
use Rattle.ch_laws_log.proofs.Homes.{node_self}
use Rattle.ch_laws_log.proofs.Keys.{node_is}
use Rattle.ch_laws_connections.specs.Tables.{given_at, LinksApart, has_space, roomy_at}

pub link_self : (link : Link) → is_link link.end link.peer link ≡ true
link_self link = ap (λ b. b && same_node link.peer link.peer) (number_same link.end) ∙ node_self link.peer

pub link_key : (end : ℕ) (peer : Address) (link : Link) → is_link end peer link ≡ true → (link.end ≡ end) × (link.peer ≡ peer)
link_key end peer link h = let parts = and_parts (link.end == end) (same_node link.peer peer) h in (number_is link.end end parts.0, node_is link.peer peer parts.1)

-- a link of another use is none that is looked for
apart_key : (end : ℕ) (peer : Address) (one two : Link) → is_link end peer one ≡ true → is_link one.end one.peer two ≡ is_link end peer two
apart_key end peer one two h = let key = link_key end peer one h in ap (λ (e : ℕ). is_link e one.peer two) key.0 ∙ ap (λ (p : Address). is_link end p two) key.1

-- what is found after a link is stored
pub find_stored : (link : Link) (links : List Link) (end : ℕ) (peer : Address) → find (is_link end peer) (store_link link links) ≡ cond (is_link end peer link) (Some link) (find (is_link end peer) links)
find_stored link [] end peer = refl
find_stored link (known ∷ rest) end peer = by_tests (is_link link.end link.peer known) refl (is_link end peer link) refl (is_link end peer known) refl (find_stored link rest end peer) where
  Found : Bool → Type 0
  Found a = find (is_link end peer) (store_link link rest) ≡ cond a (Some link) (find (is_link end peer) rest)

  turned : is_link link.end link.peer known ≡ true → is_link end peer known ≡ is_link end peer link
  turned h = let key = link_key link.end link.peer known h in ap (λ (e : ℕ). (e == end) && same_node known.peer peer) key.0 ∙ ap (λ (p : Address). (link.end == end) && same_node p peer) key.1

  by_tests : (k : Bool) → is_link link.end link.peer known ≡ k → (a : Bool) → is_link end peer link ≡ a → (b : Bool) → is_link end peer known ≡ b → Found a
      → find (is_link end peer) (cond k (link ∷ rest) (known ∷ store_link link rest)) ≡ cond a (Some link) (cond b (Some known) (find (is_link end peer) rest))
  by_tests true h true e b f more = ap (λ x. cond x (Some link) (find (is_link end peer) rest)) e
  by_tests true h false e true f more = let never : true ≡ false = sym f ∙ turned h ∙ e in absurd cc
  by_tests true h false e false f more = ap (λ x. cond x (Some link) (find (is_link end peer) rest)) e
  by_tests false h true e true f more = let never : false ≡ true = sym h ∙ apart_key end peer link known e ∙ f in absurd cc
  by_tests false h true e false f more = ap (λ x. cond x (Some known) (find (is_link end peer) (store_link link rest))) f ∙ more
  by_tests false h false e true f more = ap (λ x. cond x (Some known) (find (is_link end peer) (store_link link rest))) f
  by_tests false h false e false f more = ap (λ x. cond x (Some known) (find (is_link end peer) (store_link link rest))) f ∙ more

-- what is given after a link is stored
pub given_stored : (link : Link) (host : HostState) (end : ℕ) (peer : Address) → given_at (with_link link host) end peer ≡ cond (is_link end peer link) link.given (given_at host end peer)
given_stored link host end peer = ap (λ (o : Option Link). (link_or_new end peer o).given) (find_stored link host.links end peer) ∙ by_test (is_link end peer link) where
  by_test : (b : Bool) → (link_or_new end peer (cond b (Some link) (find (is_link end peer) host.links))).given ≡ cond b link.given (given_at host end peer)
  by_test true = refl
  by_test false = refl

-- what has room after a link is stored
pub rooms_stored : (link : Link) (host : HostState) (end : ℕ) (peer : Address) → roomy_at (with_link link host) end peer ≡ cond (is_link end peer link) (has_space link) (roomy_at host end peer)
rooms_stored link host end peer = ap (λ (o : Option Link). has_space (link_or_new end peer o)) (find_stored link host.links end peer) ∙ by_test (is_link end peer link) where
  by_test : (b : Bool) → has_space (link_or_new end peer (cond b (Some link) (find (is_link end peer) host.links))) ≡ cond b (has_space link) (roomy_at host end peer)
  by_test true = refl
  by_test false = refl

none_comes : (link : Link) (links : List Link) (end : ℕ) (peer : Address) → is_link end peer link ≡ false → find (is_link end peer) links ≡ None → find (is_link end peer) (store_link link links) ≡ None
none_comes link links end peer other none = find_stored link links end peer ∙ ap (λ b. cond b (Some link) (find (is_link end peer) links)) other ∙ none

-- links of different uses still are
pub stored_apart : (link : Link) (links : List Link) → LinksApart links → LinksApart (store_link link links)
stored_apart link [] a = (refl, tt)
stored_apart link (known ∷ rest) a = by_test (is_link link.end link.peer known) refl (stored_apart link rest a.1) where
  other_way : (b : Bool) → is_link known.end known.peer link ≡ b → is_link link.end link.peer known ≡ false → b ≡ false
  other_way true e h = let key = link_key known.end known.peer link e in
      let never : is_link link.end link.peer known ≡ true = ap (λ (x : ℕ). is_link x link.peer known) key.0 ∙ ap (λ (p : Address). is_link known.end p known) key.1 ∙ link_self known in absurd cc
  other_way false e h = refl

  by_test : (b : Bool) → is_link link.end link.peer known ≡ b → LinksApart (store_link link rest) → LinksApart (cond b (link ∷ rest) (known ∷ store_link link rest))
  by_test true e s = let key = link_key link.end link.peer known e in
      (subst (λ (x : ℕ). find (is_link x link.peer) rest ≡ None) key.0 (subst (λ (p : Address). find (is_link known.end p) rest ≡ None) key.1 a.0), a.1)
  by_test false e s = (none_comes link rest known.end known.peer (other_way (is_link known.end known.peer link) refl e) a.0, s)

-- what is found by its use is of that use
pub with_key : (host : HostState) (end : ℕ) (peer : Address) → ((link_with host end peer).end ≡ end) × ((link_with host end peer).peer ≡ peer)
with_key host end peer = named host.links where
  named : (links : List Link) → ((link_or_new end peer (find (is_link end peer) links)).end ≡ end) × ((link_or_new end peer (find (is_link end peer) links)).peer ≡ peer)
  named [] = (refl, refl)
  named (known ∷ rest) = by_test (is_link end peer known) refl (named rest) where
    by_test : (x : Bool) → is_link end peer known ≡ x → ((link_or_new end peer (find (is_link end peer) rest)).end ≡ end) × ((link_or_new end peer (find (is_link end peer) rest)).peer ≡ peer)
        → ((link_or_new end peer (cond x (Some known) (find (is_link end peer) rest))).end ≡ end) × ((link_or_new end peer (cond x (Some known) (find (is_link end peer) rest))).peer ≡ peer)
    by_test true h later = link_key end peer known h
    by_test false h later = later

-- a link that is among the links is found by its use
pub found_self : (p : Link → Bool) (links : List Link) (link : Link) → LinksApart links → find p links ≡ Some link → find (is_link link.end link.peer) links ≡ Some link
found_self p [] link a e = absurd cc
found_self p (known ∷ rest) link a e = by_test (p known) e (found_self p rest link a.1) where
  by_test : (b : Bool) → cond b (Some known) (find p rest) ≡ Some link → (find p rest ≡ Some link → find (is_link link.end link.peer) rest ≡ Some link) → find (is_link link.end link.peer) (known ∷ rest) ≡ Some link
  by_test true e ih = let same : known ≡ link = cc in subst (λ (l : Link). find (is_link l.end l.peer) (known ∷ rest) ≡ Some l) same (ap (λ b. cond b (Some known) (find (is_link known.end known.peer) rest)) (link_self known))
  by_test false e ih = by_key (is_link link.end link.peer known) refl (ih e) where
    by_key : (b : Bool) → is_link link.end link.peer known ≡ b → find (is_link link.end link.peer) rest ≡ Some link → cond b (Some known) (find (is_link link.end link.peer) rest) ≡ Some link
    by_key false h f = f
    by_key true h f = let key = link_key link.end link.peer known h in
        let none : find (is_link link.end link.peer) rest ≡ None = subst (λ (x : ℕ). find (is_link x link.peer) rest ≡ None) key.0 (subst (λ (q : Address). find (is_link known.end q) rest ≡ None) key.1 a.0) in
        let never : None ≡ Some link = sym none ∙ f in absurd cc
