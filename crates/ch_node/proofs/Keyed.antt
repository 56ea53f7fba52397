-- Keys of pairs: where a pair stands is where its key stands, and what keeps each pair's key its own.
use Rattle.std.proofs.Common.{◌≡◌, ℕ, zero, suc, ◌+◌, ◌<◌, Bool, true, false, cond, not, ◌&&◌, ◌||◌, ◌==◌, List, [], ◌∷◌, ◌++◌, map, length, get_or, Some, None, refl, sym, ap, subst, ◌∙◌, arith}
use Rattle.std.specs.Prelude.{nat_lt, set}
use Rattle.std.proofs.lemmas.Bool.{ltb-true, ltb-false}
use Rattle.indexmap.specs.IndexSet.{insert_key}
use Rattle.std.specs.List.{position, position_or_len, list_any}
use Rattle.std.specs.Str.{bytes_eq}
use Rattle.std.proofs.lemmas.Bool.Decides.{nat_tests}
use Rattle.std.proofs.lemmas.Slice.Eq.{bytes_eq-Decides}
use Rattle.ch_base.specs.declared.address.Address.{Address}
use Rattle.ch_ident.specs.declared.identifier.ProcessId.{ProcessId}
use Rattle.ch_ident.specs.declared.identifier.SendPortId.{SendPortId}
use Rattle.ch_static.specs.declared.target.Target.{Target}
use Rattle.ch_static.specs.declared.target.Target.TheVariants as targets
use Rattle.ch_watch.specs.Same.{same_node}
use Rattle.ch_model.specs.NodeState.{Pair, Mark}
use Rattle.ch_model.specs.NodePairs.{is_pair, same_target, same_process, same_port, closed_by, closed_mark}
use Rattle.ch_node.specs.declared.key.Key.{Key}
use Rattle.ch_node.specs.declared.key.Spot.{Spot}
use Rattle.ch_node.specs.declared.key.What.{What}
use Rattle.ch_node.specs.declared.key.What.TheVariants as whats
use Rattle.ch_node.specs.Keys.{node_of, target_at, IsKeyOf, Keyed, SameKeys}
use Rattle.ch_node.specs.contracts.key.KeyPartialEq.TheImpl as key_impl
use Rattle.ch_node.specs.contracts.key.WhatPartialEq.TheImpl as what_impl

-- two nodes are one
abbrev same_spot : Spot → Spot → Bool
same_spot a b = bytes_eq a.host.items b.host.items && ((a.port == b.port) && (a.id == b.id))

-- what they are at their nodes is one
abbrev same_what : What → What → Bool
same_what (whats.Process u c) (whats.Process v d) = (u == v) && (c == d)
same_what (whats.Port u c p) (whats.Port v d q) = (u == v) && ((c == d) && (p == q))
same_what (whats.Named a) (whats.Named b) = bytes_eq a.items b.items
same_what a b = false

-- two keys are one, as their table compares them
abbrev pub same_key : Key → Key → Bool
same_key = (key_impl.ghosts).eq

what_is : (w v : What) → (what_impl.ghosts).eq w v ≡ same_what w v
what_is (whats.Process u c) (whats.Process v d) = refl
what_is (whats.Process u c) (whats.Port v d q) = refl
what_is (whats.Process u c) (whats.Named b) = refl
what_is (whats.Port u c p) (whats.Process v d) = refl
what_is (whats.Port u c p) (whats.Port v d q) = refl
what_is (whats.Port u c p) (whats.Named b) = refl
what_is (whats.Named a) (whats.Process v d) = refl
what_is (whats.Named a) (whats.Port v d q) = refl
what_is (whats.Named a) (whats.Named b) = refl

key_is : (a b : Key) → same_key a b ≡ ((a.by == b.by) && (same_spot a.at b.at && same_what a.what b.what))
key_is a b = (λ i. (a.by == b.by) && (same_spot a.at b.at && what_is a.what b.what i))

turned : (a b : ℕ) → (a == b) ≡ (b == a)
turned a b = both (a == b) (b == a) refl refl
  where
    both : (x y : Bool) → (a == b) ≡ x → (b == a) ≡ y → x ≡ y
    both true true p q = refl
    both true false p q = grind (arith, nat_tests)
    both false true p q = grind (arith, nat_tests)
    both false false p q = refl

bytes_turned : (xs ys : List ℕ) → bytes_eq xs ys ≡ bytes_eq ys xs
bytes_turned xs ys = both (bytes_eq xs ys) (bytes_eq ys xs) refl refl
  where
    both : (a b : Bool) → bytes_eq xs ys ≡ a → bytes_eq ys xs ≡ b → a ≡ b
    both true true p q = refl
    both true false p q = absurd (let h : bytes_eq ys xs ≡ true = (bytes_eq-Decides ys xs).1 (sym ((bytes_eq-Decides xs ys).0 p)) in cc)
    both false true p q = absurd (let h : bytes_eq xs ys ≡ true = (bytes_eq-Decides xs ys).1 (sym ((bytes_eq-Decides ys xs).0 q)) in cc)
    both false false p q = refl

regrouped : (a b c : Bool) → (a && (b && c)) ≡ ((a && b) && c)
regrouped true b c = refl
regrouped false b c = refl

never : (a : Bool) → (a && false) ≡ false
never true = refl
never false = refl

-- nodes are compared as addresses
spot_is : (s t : Spot) → same_spot s t ≡ same_node (node_of t) (node_of s)
unfolding same_node
spot_is s t = (λ i. bytes_turned s.host.items t.host.items i && (turned s.port t.port i && turned s.id t.id i))

-- keys are compared as targets
whole_is : (s t : Spot) (w v : What) → (same_spot s t && same_what w v) ≡ same_target (target_at v (node_of t)) (target_at w (node_of s))
unfolding same_target same_process same_port
whole_is s t (whats.Process u c) (whats.Process v d) = (λ i. spot_is s t i && (turned u v i && turned c d i))
whole_is s t (whats.Port u c p) (whats.Port v d q) =
    (λ i. spot_is s t i && (turned u v i && (turned c d i && turned p q i)))
    ∙ ap (λ b. same_node (node_of t) (node_of s) && b) (regrouped (v == u) (d == c) (q == p))
    ∙ regrouped (same_node (node_of t) (node_of s)) ((v == u) && (d == c)) (q == p)
whole_is s t (whats.Named a) (whats.Named b) = (λ i. spot_is s t i && bytes_turned a.items b.items i)
whole_is s t (whats.Process u c) (whats.Port v d q) = never (same_spot s t)
whole_is s t (whats.Process u c) (whats.Named b) = never (same_spot s t)
whole_is s t (whats.Port u c p) (whats.Process v d) = never (same_spot s t)
whole_is s t (whats.Port u c p) (whats.Named b) = never (same_spot s t)
whole_is s t (whats.Named a) (whats.Process v d) = never (same_spot s t)
whole_is s t (whats.Named a) (whats.Port v d q) = never (same_spot s t)

-- a key is the same as that of a pair where the pair is of its process and target
pub same_is : (key : Key) (by : ℕ) (to : Target) → IsKeyOf key by to → (other : Key) (pair : Pair) → IsKeyOf other pair.by pair.to → same_key key other ≡ is_pair by to pair
unfolding is_pair
same_is key by to h other pair k =
    key_is key other
    ∙ (λ i. turned key.by other.by i && whole_is key.at other.at key.what other.what i)
    ∙ (λ i. (k.0 i == h.0 i) && same_target (k.1 i) (h.1 i))

pub long : (keys : List Key) (pairs : List Pair) → Keyed keys pairs → length keys ≡ length pairs
long [] [] own = refl
long [] (pair ∷ pairs) own = absurd own
long (k ∷ keys) [] own = absurd own
long (k ∷ keys) (pair ∷ pairs) own = (λ i. suc (long keys pairs own.1 i))

-- a pair stands where its key stands
pub places : (key : Key) (by : ℕ) (to : Target) → IsKeyOf key by to → (keys : List Key) (pairs : List Pair) → Keyed keys pairs → position (same_key key) keys ≡ position (is_pair by to) pairs
places key by to h keys pairs own = (λ i. cond (nat_lt (at keys pairs own i) (long keys pairs own i)) (Some (at keys pairs own i)) None)
  where
    at : (keys : List Key) (pairs : List Pair) → Keyed keys pairs → position_or_len (same_key key) keys ≡ position_or_len (is_pair by to) pairs
    at [] [] own = refl
    at [] (pair ∷ pairs) own = absurd own
    at (k ∷ keys) [] own = absurd own
    at (k ∷ keys) (pair ∷ pairs) own = (λ i. cond (not (same_is key by to h k pair own.0 i)) (1 + at keys pairs own.1 i) 0)

-- what is added at both ends
pub added_key : (key : Key) (pair : Pair) → IsKeyOf key pair.by pair.to → (keys : List Key) (pairs : List Pair) → Keyed keys pairs → Keyed (keys ++ key ∷ []) (pairs ++ pair ∷ [])
added_key key pair h [] [] own = (h, tt)
added_key key pair h [] (p ∷ pairs) own = absurd own
added_key key pair h (k ∷ keys) [] own = absurd own
added_key key pair h (k ∷ keys) (p ∷ pairs) own = (own.0, added_key key pair h keys pairs own.1)

-- ---- what keeps each pair's key its own

-- pairs of the same processes and targets have the same keys
pub keyed_same : (keys : List Key) (pairs others : List Pair) → Keyed keys pairs → SameKeys pairs others → Keyed keys others
keyed_same [] [] [] own h = tt
keyed_same [] [] (b ∷ others) own h = absurd h
keyed_same [] (a ∷ pairs) others own h = absurd own
keyed_same (key ∷ keys) [] others own h = absurd own
keyed_same (key ∷ keys) (a ∷ pairs) [] own h = absurd h
keyed_same (key ∷ keys) (a ∷ pairs) (b ∷ others) own h = ((own.0.0 ∙ sym h.0, own.0.1 ∙ sym h.1), keyed_same keys pairs others own.1 h.2)

pub same_all : (pairs : List Pair) → SameKeys pairs pairs
same_all [] = tt
same_all (pair ∷ pairs) = (refl, refl, same_all pairs)

-- a pair that is written over another of its process and target
pub same_set : (pairs others : List Pair) (i : ℕ) (d new : Pair) → SameKeys pairs others → i < length others → new.by ≡ (get_or others i d).by → new.to ≡ (get_or others i d).to → SameKeys pairs (set others i new)
same_set [] [] i d new h within by to = absurd (omega (arith, within))
same_set [] (b ∷ others) i d new h within by to = absurd h
same_set (a ∷ pairs) [] i d new h within by to = absurd h
same_set (a ∷ pairs) (b ∷ others) zero d new h within by to = (by ∙ h.0, to ∙ h.1, h.2)
same_set (a ∷ pairs) (b ∷ others) (suc i) d new h within by to = (h.0, h.1, same_set pairs others i d new h.2 (omega (arith, within)) by to)

closed_key : (by : ℕ) (b : Bool) (pair : Pair) (mark : Mark) → ((cond b (record pair { mark = mark }) pair).by ≡ pair.by) × ((cond b (record pair { mark = mark }) pair).to ≡ pair.to)
closed_key by true pair mark = (refl, refl)
closed_key by false pair mark = (refl, refl)

-- pairs whose connections are closed
pub same_closed : (by : ℕ) (pairs : List Pair) → SameKeys pairs (map (closed_by by) pairs)
same_closed by [] = tt
same_closed by (pair ∷ pairs) =
    let key = closed_key by (pair.by == by) pair (closed_mark pair.mark) in
    (key.0, key.1, same_closed by pairs)

-- ---- a pair that passes has that process and target

both : (a b : Bool) → (a && b) ≡ true → (a ≡ true) × (b ≡ true)
both true true e = (refl, e)
both true false e = absurd cc
both false b e = absurd cc

number_is : (a b : ℕ) → (a == b) ≡ true → a ≡ b
number_is a b e = grind (arith, nat_tests)

node_is : (a b : Address) → same_node a b ≡ true → a ≡ b
unfolding same_node
node_is a b e =
    let h = both _ _ e in
    let k = both _ _ h.1 in
    let host : a.host ≡ b.host = (bytes_eq-Decides a.host b.host).0 h.0 in
    let port : a.port ≡ b.port = number_is _ _ k.0 in
    let id : a.id ≡ b.id = number_is _ _ k.1 in
    (λ i. record { host = host i; port = port i; id = id i })

process_is : (a b : ProcessId) → same_process a b ≡ true → a ≡ b
unfolding same_process
process_is a b e =
    let h = both _ _ e in
    let k = both _ _ h.1 in
    let node : a.node ≡ b.node = node_is _ _ h.0 in
    let unique : a.unique ≡ b.unique = number_is _ _ k.0 in
    let counter : a.counter ≡ b.counter = number_is _ _ k.1 in
    (λ i. record { node = node i; unique = unique i; counter = counter i })

port_is : (a b : SendPortId) → same_port a b ≡ true → a ≡ b
unfolding same_port
port_is a b e =
    let h = both _ _ e in
    let process : a.process ≡ b.process = process_is _ _ h.0 in
    let port : a.port ≡ b.port = number_is _ _ h.1 in
    (λ i. record { process = process i; port = port i })

one_target : (a b : Target) → same_target a b ≡ true → a ≡ b
unfolding same_target
one_target (targets.Process a) (targets.Process b) e = ap targets.Process (process_is a b e)
one_target (targets.Port a) (targets.Port b) e = ap targets.Port (port_is a b e)
one_target (targets.Named at name) (targets.Named other word) e =
    let h = both _ _ e in
    let node : at ≡ other = node_is _ _ h.0 in
    let bytes : name ≡ word = (bytes_eq-Decides name word).0 h.1 in
    (λ i. targets.Named (node i) (bytes i))
one_target (targets.Process a) (targets.Port b) e = absurd cc
one_target (targets.Process a) (targets.Named other word) e = absurd cc
one_target (targets.Port a) (targets.Process b) e = absurd cc
one_target (targets.Port a) (targets.Named other word) e = absurd cc
one_target (targets.Named at name) (targets.Process b) e = absurd cc
one_target (targets.Named at name) (targets.Port b) e = absurd cc

pub pair_is : (by : ℕ) (to : Target) (pair : Pair) → is_pair by to pair ≡ true → (pair.by ≡ by) × (pair.to ≡ to)
unfolding is_pair
pair_is by to pair e =
    let h = both _ _ e in
    (number_is _ _ h.0, one_target _ _ h.1)

-- what stands at a place passes
pub passes_there : {X : Type 0} (p : X → Bool) (d : X) (xs : List X) (i : ℕ) → position p xs ≡ Some i → (i < length xs) × (p (get_or xs i d) ≡ true)
passes_there {X} p d xs i e = placed (nat_lt (position_or_len p xs) (length xs)) refl e
  where
    front : (b : Bool) (x : X) (xs : List X) (n : ℕ) → p x ≡ b → cond (not b) (1 + n) 0 < suc (length xs) → (n < length xs → p (get_or xs n d) ≡ true) → p (get_or (x ∷ xs) (cond (not b) (1 + n) 0) d) ≡ true
    front true x xs n h within ih = h
    front false x xs n h within ih =
        let one : 1 + n ≡ suc n = omega arith in
        let rest : p (get_or xs n d) ≡ true = ih (omega (arith, within)) in
        rw one rest

    at : (xs : List X) → position_or_len p xs < length xs → p (get_or xs (position_or_len p xs) d) ≡ true
    at [] within = absurd (omega (arith, within))
    at (x ∷ xs) within = front (p x) x xs (position_or_len p xs) refl within (at xs)

    placed : (b : Bool) → nat_lt (position_or_len p xs) (length xs) ≡ b → cond b (Some (position_or_len p xs)) None ≡ Some i → (i < length xs) × (p (get_or xs i d) ≡ true)
    placed true lt e =
        let same : position_or_len p xs ≡ i = cc in
        let within = ltb-true _ _ lt in
        rw (← same) (within, at xs within)
    placed false lt e = absurd cc

-- a pair that is written in its place
pub same_put : (pair : Pair) (pairs : List Pair) (place : ℕ) → Some place ≡ position (is_pair pair.by pair.to) pairs → SameKeys pairs (set pairs place pair)
same_put pair pairs place e =
    let there = passes_there (is_pair pair.by pair.to) pair pairs place (sym e) in
    let key = pair_is pair.by pair.to (get_or pairs place pair) there.1 in
    same_set pairs pairs place pair pair (same_all pairs) there.0 (sym key.0) (sym key.1)

-- ---- what a change of the table keeps

none_passes : {X : Type 0} (p : X → Bool) (xs : List X) → position p xs ≡ None → list_any p xs ≡ false
none_passes {X} p xs e = past (nat_lt (position_or_len p xs) (length xs)) refl e
  where
    front : (b : Bool) (xs : List X) (n : ℕ) (rest : Bool) → (cond (not b) (1 + n) 0 < suc (length xs) → ⊥) → ((n < length xs → ⊥) → rest ≡ false) → (b || rest) ≡ false
    front true xs n rest past ih = absurd (past (omega arith))
    front false xs n rest past ih = ih (λ h. past (omega (arith, h)))

    at : (xs : List X) → (position_or_len p xs < length xs → ⊥) → list_any p xs ≡ false
    at [] past = refl
    at (x ∷ xs) past = front (p x) xs (position_or_len p xs) (list_any p xs) past (at xs)

    past : (b : Bool) → nat_lt (position_or_len p xs) (length xs) ≡ b → cond b (Some (position_or_len p xs)) None ≡ None → list_any p xs ≡ false
    past true lt e = absurd cc
    past false lt e = at xs (λ h. absurd (omega (arith, h, ltb-false _ _ lt)))

-- a new pair is added with its key
pub keyed_added : (key : Key) (pair : Pair) (keys after : List Key) (rows pairs now : List Pair) → Keyed keys rows → rows ≡ pairs → IsKeyOf key pair.by pair.to → None ≡ position (is_pair pair.by pair.to) pairs → after ≡ insert_key same_key keys key → now ≡ rows ++ pair ∷ [] → Keyed after now
keyed_added key pair keys after rows pairs now own same is fresh grown push =
    let none : position (same_key key) keys ≡ None = places key pair.by pair.to is keys rows own ∙ ap (position (is_pair pair.by pair.to)) same ∙ sym fresh in
    let last : after ≡ keys ++ key ∷ [] = grown ∙ ap (λ b. cond b keys (keys ++ key ∷ [])) (none_passes (same_key key) keys none) in
    rw (last, push) (added_key key pair is keys rows own)

-- a pair is written in its place
pub keyed_put : (pair : Pair) (keys : List Key) (rows pairs : List Pair) (place : ℕ) → Keyed keys rows → rows ≡ pairs → Some place ≡ position (is_pair pair.by pair.to) pairs → Keyed keys (set rows place pair)
keyed_put pair keys rows pairs place own same e = keyed_same keys rows (set rows place pair) own (same_put pair rows place (e ∙ ap (position (is_pair pair.by pair.to)) (sym same)))

-- the connections of a process are closed
pub keyed_closed : (by : ℕ) (keys : List Key) (rows now : List Pair) → Keyed keys rows → now ≡ map (closed_by by) rows → Keyed keys now
keyed_closed by keys rows now own is = subst (Keyed keys) (sym is) (keyed_same keys rows (map (closed_by by) rows) own (same_closed by rows))
