-- Links by endpoint and peer: what is found under a key, and what is stored under it.
use Rattle.std.proofs.Common.{◌≡◌, ℕ, suc, ◌+◌, ◌<◌, Bool, true, false, not, cond, ◌&&◌, ◌==◌, nat_lt, List, [], ◌∷◌, ◌++◌, length, get_or, find, Option, Some, None, subst, refl, ap, sym, ◌∙◌, arith}
use Rattle.std.specs.List.{position_or_len, position}
use Rattle.std.specs.Prelude.{set, slice_set}
use Rattle.std.proofs.lemmas.List.{set_at, get_or_at}
use Rattle.std.proofs.lemmas.Grind.{common_steps}
use Rattle.ch_endpoint.specs.Places.{IsPlaceOf, Apart}
use Rattle.std.specs.Str.{bytes_eq}
use Rattle.std.proofs.lemmas.Bool.{ltb-true, ltb-false}
use Rattle.std.proofs.lemmas.Bool.Decides.{nat_tests}
use Rattle.std.proofs.lemmas.Slice.Eq.{bytes_eq-Decides}
use Rattle.ch_base.specs.declared.address.Address.{Address}
use Rattle.ch_watch.specs.Same.{same_node}
use Rattle.ch_model.specs.HostState.{Link, Socket}
use Rattle.ch_model.specs.HostCalls.{carries}
use Rattle.ch_model.specs.HostSteps.{is_link, link_or_new, new_link, store_link, is_socket, store_socket}

-- ---- a list by a test

-- what is written at the first place that passes
abbrev pub replaced : {X : Type 0} → (X → Bool) → X → List X → List X
replaced p y [] = y ∷ []
replaced p y (x ∷ xs) = cond (p x) (y ∷ xs) (x ∷ replaced p y xs)

at_front : {X : Type 0} (b : Bool) (x y : X) (xs ys : List X) (n : ℕ) → cond (not b) (1 + n) 0 < suc (length xs) → (n < length xs → set xs n y ≡ ys) → set (x ∷ xs) (cond (not b) (1 + n) 0) y ≡ cond b (y ∷ xs) (x ∷ ys)
at_front true x y xs ys n within ih = refl
at_front false x y xs ys n within ih =
    let e : 1 + n ≡ suc n = omega arith in
    let h : set xs n y ≡ ys = ih (omega arith) in
    rw (e, h) refl

replaced_at : {X : Type 0} (p : X → Bool) (y : X) (xs : List X) → position_or_len p xs < length xs → set xs (position_or_len p xs) y ≡ replaced p y xs
replaced_at p y [] within = absurd (omega arith)
replaced_at p y (x ∷ xs) within = at_front (p x) x y xs (replaced p y xs) (position_or_len p xs) within (replaced_at p y xs)

-- a write at the first place
pub replaced_there : {X : Type 0} (p : X → Bool) (y : X) (xs : List X) (i : ℕ) → position p xs ≡ Some i → set xs i y ≡ replaced p y xs
replaced_there p y xs i e = placed (nat_lt (position_or_len p xs) (length xs)) refl e
  where
    placed : (b : Bool) → nat_lt (position_or_len p xs) (length xs) ≡ b → cond b (Some (position_or_len p xs)) None ≡ Some i → set xs i y ≡ replaced p y xs
    placed true lt e = let same : position_or_len p xs ≡ i = cc in rw (← same) (replaced_at p y xs (ltb-true _ _ lt))
    placed false lt e = absurd cc

found_front : {X : Type 0} (b : Bool) (x d : X) (xs : List X) (n : ℕ) (rest : Option X) → cond (not b) (1 + n) 0 < suc (length xs) → (n < length xs → rest ≡ Some (get_or xs n d)) → cond b (Some x) rest ≡ Some (get_or (x ∷ xs) (cond (not b) (1 + n) 0) d)
found_front true x d xs n rest within ih = refl
found_front false x d xs n rest within ih =
    let e : 1 + n ≡ suc n = omega arith in
    let h : rest ≡ Some (get_or xs n d) = ih (omega arith) in
    rw (e, h) refl

found_at : {X : Type 0} (p : X → Bool) (d : X) (xs : List X) → position_or_len p xs < length xs → find p xs ≡ Some (get_or xs (position_or_len p xs) d)
found_at p d [] within = absurd (omega arith)
found_at p d (x ∷ xs) within = found_front (p x) x d xs (position_or_len p xs) (find p xs) within (found_at p d xs)

-- what stands at the first place is what is found
pub found_there : {X : Type 0} (p : X → Bool) (d : X) (xs : List X) (i : ℕ) → position p xs ≡ Some i → find p xs ≡ Some (get_or xs i d)
found_there p d xs i e = placed (nat_lt (position_or_len p xs) (length xs)) refl e
  where
    placed : (b : Bool) → nat_lt (position_or_len p xs) (length xs) ≡ b → cond b (Some (position_or_len p xs)) None ≡ Some i → find p xs ≡ Some (get_or xs i d)
    placed true lt e = let same : position_or_len p xs ≡ i = cc in rw (← same) (found_at p d xs (ltb-true _ _ lt))
    placed false lt e = absurd cc

none_front : {X : Type 0} (b : Bool) (x : X) (xs : List X) (n : ℕ) (rest : Option X) → (cond (not b) (1 + n) 0 < suc (length xs) → ⊥) → ((n < length xs → ⊥) → rest ≡ None) → cond b (Some x) rest ≡ None
none_front true x xs n rest past ih = absurd (past (omega arith))
none_front false x xs n rest past ih = rw (ih (λ h. past (omega arith))) refl

none_at : {X : Type 0} (p : X → Bool) (xs : List X) → (position_or_len p xs < length xs → ⊥) → find p xs ≡ None
none_at p [] past = refl
none_at p (x ∷ xs) past = none_front (p x) x xs (position_or_len p xs) (find p xs) past (none_at p xs)

-- nothing is found where there is no place
pub none_there : {X : Type 0} (p : X → Bool) (xs : List X) → position p xs ≡ None → find p xs ≡ None
none_there p xs e = past (nat_lt (position_or_len p xs) (length xs)) refl e
  where
    past : (b : Bool) → nat_lt (position_or_len p xs) (length xs) ≡ b → cond b (Some (position_or_len p xs)) None ≡ None → find p xs ≡ None
    past true lt e = absurd cc
    past false lt e = none_at p xs (λ h. absurd (omega (arith, h, ltb-false _ _ lt)))

-- where nothing is found, it is written last
pub replaced_last : {X : Type 0} (p : X → Bool) (y : X) (xs : List X) → find p xs ≡ None → replaced p y xs ≡ xs ++ y ∷ []
replaced_last p y [] e = refl
replaced_last p y (x ∷ xs) e = by_test (p x) (replaced_last p y xs) e
  where
    by_test : (b : Bool) → (find p xs ≡ None → replaced p y xs ≡ xs ++ y ∷ []) → cond b (Some x) (find p xs) ≡ None → cond b (y ∷ xs) (x ∷ replaced p y xs) ≡ x ∷ (xs ++ y ∷ [])
    by_test true ih e = absurd cc
    by_test false ih e = ap (λ zs. x ∷ zs) (ih e)

-- what was written under a key is found under it
pub found_replaced : {X : Type 0} (p : X → Bool) (y : X) → p y ≡ true → (xs : List X) → find p (replaced p y xs) ≡ Some y
found_replaced p y own [] = ap (λ b. cond b (Some y) None) own
found_replaced p y own (x ∷ xs) = by_test (p x) (found_replaced p y own xs) refl
  where
    by_test : (b : Bool) → find p (replaced p y xs) ≡ Some y → p x ≡ b → find p (cond b (y ∷ xs) (x ∷ replaced p y xs)) ≡ Some y
    by_test true ih e = ap (λ b. cond b (Some y) (find p xs)) own
    by_test false ih e = ap (λ b. cond b (Some x) (find p (replaced p y xs))) e ∙ ih

-- of two writes under one key the later stands
pub replaced_twice : {X : Type 0} (p : X → Bool) (y z : X) → p z ≡ true → (xs : List X) → replaced p y (replaced p z xs) ≡ replaced p y xs
replaced_twice p y z own [] = ap (λ b. cond b (y ∷ []) (z ∷ y ∷ [])) own
replaced_twice p y z own (x ∷ xs) = by_test (p x) (replaced_twice p y z own xs) refl
  where
    by_test : (b : Bool) → replaced p y (replaced p z xs) ≡ replaced p y xs → p x ≡ b → replaced p y (cond b (z ∷ xs) (x ∷ replaced p z xs)) ≡ cond b (y ∷ xs) (x ∷ replaced p y xs)
    by_test true ih e = ap (λ b. cond b (y ∷ xs) (z ∷ replaced p y xs)) own
    by_test false ih e = ap (λ b. cond b (y ∷ replaced p z xs) (x ∷ replaced p y (replaced p z xs))) e ∙ ap (λ zs. x ∷ zs) ih

-- ---- links

both : (a b : Bool) → (a && b) ≡ true → (a ≡ true) × (b ≡ true)
both true true e = (refl, refl)
both true false e = absurd cc
both false b e = absurd cc

pub number_is : (a b : ℕ) → (a == b) ≡ true → a ≡ b
number_is a b e = grind (arith, nat_tests)

pub number_same : (a : ℕ) → (a == a) ≡ true
number_same a = grind (arith, nat_tests)

-- one address is one
pub same_is : (a b : Address) → same_node a b ≡ true → a ≡ b
unfolding same_node
same_is a b e =
    let h = both _ _ e in
    let k = both _ _ h.1 in
    let host : a.host ≡ b.host = (bytes_eq-Decides a.host b.host).0 h.0 in
    let port : a.port ≡ b.port = number_is _ _ k.0 in
    let id : a.id ≡ b.id = number_is _ _ k.1 in
    (λ i. record { host = host i; port = port i; id = id i })

pub same_self : (a : Address) → same_node a a ≡ true
unfolding same_node
same_self a =
    let host : bytes_eq a.host a.host ≡ true = (bytes_eq-Decides a.host a.host).1 refl in
    rw (host, number_same a.port, number_same a.id) refl

-- a link passes under its own key
pub own_key : (link : Link) → is_link link.end link.peer link ≡ true
own_key link = rw (number_same link.end, same_self link.peer) refl

-- a link that passes has that key
pub keyed : (end : ℕ) (peer : Address) (link : Link) → is_link end peer link ≡ true → (link.end ≡ end) × (link.peer ≡ peer)
keyed end peer link e =
    let h = both _ _ e in
    (number_is _ _ h.0, same_is _ _ h.1)

-- what is found passes
pub found_passes : {X : Type 0} (p : X → Bool) (x : X) (xs : List X) → find p xs ≡ Some x → p x ≡ true
found_passes p x [] e = absurd cc
found_passes p x (y ∷ ys) e = by_test (p y) (found_passes p x ys) refl e
  where
    by_test : (b : Bool) → (find p ys ≡ Some x → p x ≡ true) → p y ≡ b → cond b (Some y) (find p ys) ≡ Some x → p x ≡ true
    by_test true ih h e = let same : y ≡ x = cc in ap p (sym same) ∙ h
    by_test false ih h e = ih e

-- the link of an endpoint with a peer has that key
pub key_with : (end : ℕ) (peer : Address) (links : List Link) → ((link_or_new end peer (find (is_link end peer) links)).end ≡ end) × ((link_or_new end peer (find (is_link end peer) links)).peer ≡ peer)
key_with end peer links = by_case (find (is_link end peer) links) refl
  where
    by_case : (o : Option Link) → find (is_link end peer) links ≡ o → ((link_or_new end peer o).end ≡ end) × ((link_or_new end peer o).peer ≡ peer)
    by_case None e = (refl, refl)
    by_case (Some link) e = keyed end peer link (found_passes (is_link end peer) link links e)

-- to store a link is to write it under its key
pub stored : (link : Link) (links : List Link) → store_link link links ≡ replaced (is_link link.end link.peer) link links
stored link [] = refl
stored link (known ∷ rest) = ap (λ zs. cond (is_link link.end link.peer known) (link ∷ rest) (known ∷ zs)) (stored link rest)

pub stored_under : (end : ℕ) (peer : Address) (link : Link) → link.end ≡ end → link.peer ≡ peer → (links : List Link) → store_link link links ≡ replaced (is_link end peer) link links
stored_under end peer link e p links = stored link links ∙ (λ i. replaced (is_link (e i) (p i)) link links)

-- ---- links of keys apart

-- what isn't found isn't found after a write of what doesn't pass
pub find_other : {X : Type 0} (p q : X → Bool) (y : X) → q y ≡ false → (xs : List X) → find q xs ≡ None → find q (replaced p y xs) ≡ None
find_other p q y other [] e = ap (λ b. cond b (Some y) None) other
find_other p q y other (x ∷ xs) e = by_tests (p x) (q x) refl (find_other p q y other xs) e
  where
    by_tests : (a b : Bool) → q x ≡ b → (find q xs ≡ None → find q (replaced p y xs) ≡ None) → cond b (Some x) (find q xs) ≡ None → find q (cond a (y ∷ xs) (x ∷ replaced p y xs)) ≡ None
    by_tests a true h ih e = absurd cc
    by_tests true false h ih e = ap (λ b. cond b (Some y) (find q xs)) other ∙ e
    by_tests false false h ih e = ap (λ b. cond b (Some x) (find q (replaced p y xs))) h ∙ ih e

-- a link of another key doesn't pass
not_of : (end : ℕ) (peer : Address) (x y : Link) → y.end ≡ end → y.peer ≡ peer → is_link end peer x ≡ false → is_link x.end x.peer y ≡ false
not_of end peer x y k p other = by_test (is_link x.end x.peer y) refl
  where
    by_test : (b : Bool) → is_link x.end x.peer y ≡ b → b ≡ false
    by_test false e = refl
    by_test true e =
        let key = keyed x.end x.peer y e in
        let passes : is_link end peer x ≡ true = (λ i. is_link ((sym k ∙ key.0) i) ((sym p ∙ key.1) i) x) ∙ own_key x in
        absurd (let no : true ≡ false = sym passes ∙ other in cc)

apart_replaced : (end : ℕ) (peer : Address) (y : Link) → y.end ≡ end → y.peer ≡ peer → (xs : List Link) → Apart xs → Apart (replaced (is_link end peer) y xs)
apart_replaced end peer y k p [] a = (refl, tt)
apart_replaced end peer y k p (x ∷ xs) a = by_test (is_link end peer x) refl (apart_replaced end peer y k p xs a.1)
  where
    by_test : (b : Bool) → is_link end peer x ≡ b → Apart (replaced (is_link end peer) y xs) → Apart (cond b (y ∷ xs) (x ∷ replaced (is_link end peer) y xs))
    by_test true e rest =
        let key = keyed end peer x e in
        ((λ i. find (is_link ((k ∙ sym key.0) i) ((p ∙ sym key.1) i)) xs) ∙ a.0, a.1)
    by_test false e rest = (find_other (is_link end peer) (is_link x.end x.peer) y (not_of end peer x y k p e) xs a.0, rest)

-- ---- the place of a link

-- a link that is there stands at its place
pub there : (end : ℕ) (peer : Address) (links : List Link) (place : ℕ) → Apart links → position (is_link end peer) links ≡ Some place → place < length links → IsPlaceOf end peer links links place
there end peer links place apart e within = record {
  within = within;
  value = λ d. sym (ap (link_or_new end peer) (found_there (is_link end peer) d links place e));
  stores = λ link k p. replaced_there (is_link end peer) link links place e ∙ sym (stored_under end peer link k p links);
  keeps = λ link k p. subst Apart (sym (replaced_there (is_link end peer) link links place e)) (apart_replaced end peer link k p links apart);
}

-- a link that was added last stands at the last place
pub added : (end : ℕ) (peer : Address) (links : List Link) → Apart links → position (is_link end peer) links ≡ None → IsPlaceOf end peer links (links ++ new_link end peer ∷ []) (length links)
added end peer links apart e =
    let none = none_there (is_link end peer) links e in
    record {
      within = grind (arith, common_steps);
      value = λ d. get_or_at links (new_link end peer) [] d (length links) refl ∙ sym (ap (link_or_new end peer) none);
      stores = λ link k p. set_at links (new_link end peer) [] link (length links) refl ∙ sym (replaced_last (is_link end peer) link links none) ∙ sym (stored_under end peer link k p links);
      keeps = λ link k p. subst Apart (sym (set_at links (new_link end peer) [] link (length links) refl ∙ sym (replaced_last (is_link end peer) link links none))) (apart_replaced end peer link k p links apart);
    }

-- what is changed at the place, and not under another key, is stored
pub changed : (f : Link → Link) → ((l : Link) → ((f l).end ≡ l.end) × ((f l).peer ≡ l.peer)) → (end : ℕ) (peer : Address) (old new rows : List Link) (place : ℕ) → IsPlaceOf end peer old new place → rows ≡ new → (before after : Link) → before ≡ get_or rows place before → after ≡ f before → slice_set rows place after ≡ store_link (f (link_or_new end peer (find (is_link end peer) old))) old
changed f keeps end peer old new rows place at same before after is done =
    let link : Link = link_or_new end peer (find (is_link end peer) old) in
    let key = key_with end peer old in
    let was : before ≡ link = is ∙ ap (λ r. get_or r place before) same ∙ at.value before in
    let now : after ≡ f link = done ∙ ap f was in
    (λ i. slice_set (same i) place (now i)) ∙ at.stores (f link) ((keeps link).0 ∙ key.0) ((keeps link).1 ∙ key.1)

pub added_to : (end : ℕ) (peer : Address) (links rows after : List Link) (place : ℕ) (own : Link) → Apart links → rows ≡ links → position (is_link end peer) links ≡ None → own ≡ new_link end peer → after ≡ rows ++ own ∷ [] → place ≡ length rows → IsPlaceOf end peer links after place
added_to end peer links rows after place own apart same none is push count =
    let grown : after ≡ links ++ new_link end peer ∷ [] = push ∙ (λ i. same i ++ is i ∷ []) in
    let last : place ≡ length links = count ∙ ap length same in
    let at : IsPlaceOf end peer links (links ++ new_link end peer ∷ []) (length links) = added end peer links apart none in
    rw (grown, last) at

-- ---- links that were stored

-- of two that are stored under one key the later stands
pub restored : (link other : Link) → other.end ≡ link.end → other.peer ≡ link.peer → (links : List Link) → store_link link (store_link other links) ≡ store_link link links
restored link other k p links =
    let first : store_link other links ≡ replaced (is_link link.end link.peer) other links = stored_under link.end link.peer other k p links in
    let passes : is_link link.end link.peer other ≡ true = (λ i. is_link (sym k i) (sym p i) other) ∙ own_key other in
    ap (store_link link) first ∙ stored link (replaced (is_link link.end link.peer) other links) ∙ replaced_twice (is_link link.end link.peer) link other passes links ∙ sym (stored link links)

-- what was stored under a key is found under it
pub found_stored : (end : ℕ) (peer : Address) (link : Link) → link.end ≡ end → link.peer ≡ peer → (links : List Link) → find (is_link end peer) (store_link link links) ≡ Some link
found_stored end peer link k p links =
    let passes : is_link end peer link ≡ true = (λ i. is_link (sym k i) (sym p i) link) ∙ own_key link in
    ap (find (is_link end peer)) (stored_under end peer link k p links) ∙ found_replaced (is_link end peer) link passes links

-- what is found is stored as it is
pub replaced_same : {X : Type 0} (p : X → Bool) (x : X) (xs : List X) → find p xs ≡ Some x → replaced p x xs ≡ xs
replaced_same p x [] e = absurd cc
replaced_same p x (y ∷ ys) e = by_test (p y) (replaced_same p x ys) e
  where
    by_test : (b : Bool) → (find p ys ≡ Some x → replaced p x ys ≡ ys) → cond b (Some y) (find p ys) ≡ Some x → cond b (x ∷ ys) (y ∷ replaced p x ys) ≡ y ∷ ys
    by_test true ih e = let same : y ≡ x = cc in ap (λ z. z ∷ ys) (sym same)
    by_test false ih e = ap (λ zs. y ∷ zs) (ih e)

pub stored_same : (end : ℕ) (peer : Address) (link : Link) (links : List Link) → find (is_link end peer) links ≡ Some link → store_link link links ≡ links
stored_same end peer link links e =
    let key = keyed end peer link (found_passes (is_link end peer) link links e) in
    stored_under end peer link key.0 key.1 links ∙ replaced_same (is_link end peer) link links e

-- ---- sockets

pub socket_stored : (socket : Socket) (sockets : List Socket) → store_socket socket sockets ≡ replaced (is_socket socket.number) socket sockets
socket_stored socket [] = refl
socket_stored socket (known ∷ rest) = ap (λ zs. cond (is_socket socket.number known) (socket ∷ rest) (known ∷ zs)) (socket_stored socket rest)

-- a socket that is written at its place is stored
pub socket_there : (socket : Socket) (sockets : List Socket) (place : ℕ) → position (is_socket socket.number) sockets ≡ Some place → slice_set sockets place socket ≡ store_socket socket sockets
socket_there socket sockets place e = replaced_there (is_socket socket.number) socket sockets place e ∙ sym (socket_stored socket sockets)

-- a socket that is new is stored last
pub socket_added : (socket : Socket) (sockets : List Socket) → position (is_socket socket.number) sockets ≡ None → sockets ++ socket ∷ [] ≡ store_socket socket sockets
socket_added socket sockets e = sym (replaced_last (is_socket socket.number) socket sockets (none_there (is_socket socket.number) sockets e)) ∙ sym (socket_stored socket sockets)

-- the same, of a list that was looked into
pub socket_kept : (socket : Socket) (number : ℕ) (sockets rows : List Socket) (place : ℕ) → number ≡ socket.number → rows ≡ sockets → position (is_socket number) sockets ≡ Some place → slice_set rows place socket ≡ store_socket socket sockets
socket_kept socket number sockets rows place n same e = ap (λ r. slice_set r place socket) same ∙ socket_there socket sockets place (ap (λ k. position (is_socket k) sockets) (sym n) ∙ e)

pub socket_new : (socket : Socket) (number : ℕ) (sockets rows after : List Socket) → number ≡ socket.number → rows ≡ sockets → position (is_socket number) sockets ≡ None → after ≡ rows ++ socket ∷ [] → after ≡ store_socket socket sockets
socket_new socket number sockets rows after n same e push = push ∙ ap (λ r. r ++ socket ∷ []) same ∙ socket_added socket sockets (ap (λ k. position (is_socket k) sockets) (sym n) ∙ e)

-- what stands at the place of a link is that link
pub stands : (end : ℕ) (peer : Address) (old new rows : List Link) (place : ℕ) → IsPlaceOf end peer old new place → rows ≡ new → (before : Link) → before ≡ get_or rows place before → before ≡ link_or_new end peer (find (is_link end peer) old)
stands end peer old new rows place at same before is = is ∙ ap (λ r. get_or r place before) same ∙ at.value before

-- an end that is changed at its place is stored
pub end_changed : (f : Socket → Socket) → ((s : Socket) → (f s).number ≡ s.number) → (number : ℕ) (sockets rows : List Socket) (place : ℕ) → rows ≡ sockets → position (is_socket number) sockets ≡ Some place → (before after : Socket) → before ≡ get_or rows place before → after ≡ f before → (found : find (is_socket number) sockets ≡ Some before) × (slice_set rows place after ≡ store_socket (f before) sockets)
end_changed f keeps number sockets rows place same e before after is done =
    let there : before ≡ get_or sockets place before = is ∙ ap (λ r. get_or r place before) same in
    let found : find (is_socket number) sockets ≡ Some before = found_there (is_socket number) before sockets place e ∙ ap Some (sym there) in
    let own : before.number ≡ number = number_is _ _ (found_passes (is_socket number) before sockets found) in
    let key : number ≡ (f before).number = sym ((keeps before) ∙ own) in
    (found, ap (slice_set rows place) done ∙ socket_kept (f before) number sockets rows place key same e)

-- what is added to links of keys apart is apart from them
pub added_apart : (end : ℕ) (peer : Address) (links rows after : List Link) (own : Link) → Apart links → rows ≡ links → position (is_link end peer) links ≡ None → own ≡ new_link end peer → after ≡ rows ++ own ∷ [] → Apart after
added_apart end peer links rows after own apart same none is push =
    let last : after ≡ replaced (is_link end peer) (new_link end peer) links = push ∙ (λ i. same i ++ is i ∷ []) ∙ sym (replaced_last (is_link end peer) (new_link end peer) links (none_there (is_link end peer) links none)) in
    subst Apart (sym last) (apart_replaced end peer (new_link end peer) refl refl links apart)

pub changed_apart : (f : Link → Link) → ((l : Link) → ((f l).end ≡ l.end) × ((f l).peer ≡ l.peer)) → (end : ℕ) (peer : Address) (old new rows : List Link) (place : ℕ) → IsPlaceOf end peer old new place → rows ≡ new → (before after : Link) → before ≡ get_or rows place before → after ≡ f before → Apart (slice_set rows place after)
changed_apart f keeps end peer old new rows place at same before after is done =
    let link : Link = link_or_new end peer (find (is_link end peer) old) in
    let key = key_with end peer old in
    let was : before ≡ link = is ∙ ap (λ r. get_or r place before) same ∙ at.value before in
    let now : after ≡ f link = done ∙ ap f was in
    subst Apart (λ i. slice_set (sym same i) place (sym now i)) (at.keeps (f link) ((keeps link).0 ∙ key.0) ((keeps link).1 ∙ key.1))

-- ---- the link that has a connection open

is_carrier : (end conn : ℕ) (link : Link) → carries end conn link ≡ true → link.end ≡ end
is_carrier end conn link e = number_is _ _ (both _ _ e).0

-- the first link that has a connection open is the link of its key
pub carrier_is : (end conn : ℕ) (link : Link) (links : List Link) → Apart links → find (carries end conn) links ≡ Some link → find (is_link end link.peer) links ≡ Some link
carrier_is end conn link [] a e = absurd cc
carrier_is end conn link (x ∷ xs) a e = by_tests (carries end conn x) (is_link end link.peer x) refl refl (carrier_is end conn link xs a.1) e
  where
    by_tests : (b h : Bool) → carries end conn x ≡ b → is_link end link.peer x ≡ h → (find (carries end conn) xs ≡ Some link → find (is_link end link.peer) xs ≡ Some link) → cond b (Some x) (find (carries end conn) xs) ≡ Some link → cond h (Some x) (find (is_link end link.peer) xs) ≡ Some link
    by_tests true true c k ih e = e
    by_tests true false c k ih e =
        let same : x ≡ link = cc in
        let own : x.end ≡ end = is_carrier end conn x c in
        let passes : is_link end link.peer x ≡ true = (λ i. is_link (sym own i) (sym same i).peer x) ∙ own_key x in
        absurd (let no : true ≡ false = sym passes ∙ k in cc)
    by_tests false false c k ih e = ih e
    by_tests false true c k ih e =
        let key = keyed end link.peer x k in
        let gone : find (is_link end link.peer) xs ≡ None = (λ i. find (is_link (sym key.0 i) (sym key.1 i)) xs) ∙ a.0 in
        absurd (let no : None ≡ Some link = sym gone ∙ ih e in cc)

-- so it is the link of the endpoint with its peer
pub carrier_with : (end conn : ℕ) (link : Link) (links : List Link) → Apart links → find (carries end conn) links ≡ Some link → link_or_new end link.peer (find (is_link end link.peer) links) ≡ link
carrier_with end conn link links a e = ap (link_or_new end link.peer) (carrier_is end conn link links a e)
