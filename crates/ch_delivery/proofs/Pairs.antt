-- Each pair is heard in order: what is so, and that what the sending processes do keeps it.
use Rattle.std.proofs.Common.{◌≡◌, ◌<◌, ◌≤◌, ℕ, suc, nat_eq, Bool, true, false, cond, not, ◌&&◌, List, [], ◌∷◌, ◌++◌, refl, ap, sym, ◌∙◌, subst, arith}
use Rattle.std.proofs.lemmas.Bool.Decides.{nat_tests}
use lib.Dec.{leb}
use Rattle.ch_delivery.specs.Passage.{Mark, Unopened, Opened, Broken, Ended, Item, Created, Message, Closed, Entry, Said, Again, Passage, start}
use Rattle.ch_delivery.specs.Moves.{put, noted, marked, onto, written, write, say, reconnect, finish}
use Rattle.ch_delivery.specs.Log.{gots}
use Rattle.ch_delivery.proofs.Ear.{Ear, Idle, In, Bad, Before, Le, hear, heard, heard_append, le_self, le_trans, tail, cap, tail_cap}
use Rattle.ch_delivery.proofs.Known.{Known, known_ext, same_table}
use Rattle.ch_delivery.proofs.Links.{same_number, self_number, put_here, put_there, Links, retold, waited, flowed}

-- where the reader of pair c would be after what is unread on socket i: on the socket that it reads it goes on from r, and
-- on others it begins at their floor
abbrev pub ends : ℕ → (ℕ → List Item) → ℕ → Ear → (ℕ → ℕ) → ℕ → Ear
ends c flight at r floor i = heard c (flight i) (cond (nat_eq i at) r (Idle (floor i)))

-- the sockets of a passage are in order for pair c
abbrev pub LinksOf : ℕ → Passage → Ear → (ℕ → ℕ) → ℕ → Type 0
LinksOf c p r floor base = Links c p.waits p.up p.on p.at (p.cut p.on) (ends c p.flight p.at r floor) floor base (tail (p.mark c) (p.epoch c) (p.index c)) (cap (p.mark c) (p.epoch c))

-- pair c was heard so far as the log and the table say, and the sockets are in order
pub record Ordered (c : ℕ) (p : Passage) : Type 0 where
  pub ear : Ear
  pub floor : ℕ → ℕ
  pub base : ℕ
  pub known : Known ear (λ e. gots c e p.log) (p.bound c)
  pub links : LinksOf c p ear floor base

-- nothing is written on a socket before the sending node comes up on it
abbrev pub Ahead : Passage → Type 0
Ahead p = (i : ℕ) → p.on < i → p.flight i ≡ []

pub start_pair : (named : ℕ → Bool) (c : ℕ) → Ordered c (start named)
start_pair named c = record {
  ear = Idle 0;
  floor = λ i. 0;
  base = 0;
  known = λ e l. (refl, refl);
  links = record {
    below = λ i a. at_start (nat_eq i 0);
    chain = λ i j a b n. at_start (nat_eq i 0);
    flow = λ h a x. absurd (clash h);
    rest = λ h. le_self (Idle 0);
    room = λ h i a. at_start (nat_eq i 0);
  };
} where
  at_start : (b : Bool) → Before (cond b (Idle 0) (Idle 0)) 0
  at_start true = le_self (Idle 0)
  at_start false = le_self (Idle 0)

  clash : false ≡ true → ⊥
  clash h = cc

-- pair d is marked anew, and its items are written
module _ (c d : ℕ) (items : List Item) (skip : nat_eq d c ≡ false → (s : Ear) → heard c items s ≡ s) (m : Mark) (e k : ℕ) where
  other_way : nat_eq c d ≡ false → nat_eq d c ≡ false
  other_way h = grind (arith, nat_tests)

  tail_moves : (p : Passage) → Le (heard d items (tail (p.mark d) (p.epoch d) (p.index d))) (tail m e k)
      → Le (heard c items (tail (p.mark c) (p.epoch c) (p.index c))) (tail (put d m p.mark c) (put d e p.epoch c) (put d k p.index c))
  tail_moves p le = by_cond (nat_eq c d) refl where
    by_cond : (x : Bool) → nat_eq c d ≡ x → Le (heard c items (tail (p.mark c) (p.epoch c) (p.index c))) (tail (cond x m (p.mark c)) (cond x e (p.epoch c)) (cond x k (p.index c)))
    by_cond true h = subst (λ (z : ℕ). Le (heard z items (tail (p.mark z) (p.epoch z) (p.index z))) (tail m e k)) (same_number d c h) le
    by_cond false h = subst (λ (z : Ear). Le z (tail (p.mark c) (p.epoch c) (p.index c))) (sym (skip (other_way h) (tail (p.mark c) (p.epoch c) (p.index c)))) (le_self (tail (p.mark c) (p.epoch c) (p.index c)))

  cap_moves : (p : Passage) → cap (p.mark d) (p.epoch d) ≤ cap m e → cap (p.mark c) (p.epoch c) ≤ cap (put d m p.mark c) (put d e p.epoch c)
  cap_moves p le = by_cond (nat_eq c d) refl where
    by_cond : (x : Bool) → nat_eq c d ≡ x → cap (p.mark c) (p.epoch c) ≤ cap (cond x m (p.mark c)) (cond x e (p.epoch c))
    by_cond true h = subst (λ (z : ℕ). cap (p.mark z) (p.epoch z) ≤ cap m e) (same_number d c h) le
    by_cond false h = omega arith

  pub written_keeps : (p : Passage) → Le (heard d items (tail (p.mark d) (p.epoch d) (p.index d))) (tail m e k) → cap (p.mark d) (p.epoch d) ≤ cap m e
      → (b : Bool) → p.up ≡ b → Ordered c p → Ordered c (written b items (marked d m e k p))
  written_keeps p le more false up s = record {
    ear = s.ear;
    floor = s.floor;
    base = s.base;
    known = s.known;
    links = waited c p.on p.at s.floor s.base (tail (p.mark c) (p.epoch c) (p.index c)) (tail (put d m p.mark c) (put d e p.epoch c) (put d k p.index c))
        (cap (p.mark c) (p.epoch c)) (cap (put d m p.mark c) (put d e p.epoch c)) (cap_moves p more) (tail_cap (put d m p.mark c) (put d e p.epoch c) (put d k p.index c))
        items (tail_moves p le) p.waits p.up (p.cut p.on) (ends c p.flight p.at s.ear s.floor) up s.links;
  }
  written_keeps p le more true up s = record {
    ear = s.ear;
    floor = s.floor;
    base = s.base;
    known = s.known;
    links = flowed c p.on p.at s.floor s.base (tail (p.mark c) (p.epoch c) (p.index c)) (tail (put d m p.mark c) (put d e p.epoch c) (put d k p.index c))
        (cap (p.mark c) (p.epoch c)) (cap (put d m p.mark c) (put d e p.epoch c)) (cap_moves p more) (tail_cap (put d m p.mark c) (put d e p.epoch c) (put d k p.index c))
        items (tail_moves p le) p.waits p.up (p.cut p.on) (ends c p.flight p.at s.ear s.floor)
        (ends c (put p.on (onto (p.cut p.on) (p.flight p.on) items) p.flight) p.at s.ear s.floor) up
        (λ x. at_on (p.flight p.on) (λ z. ap (λ (b : Bool). onto b (p.flight p.on) items) x))
        (λ x. at_on (p.flight p.on ++ items) (λ z. ap (λ (b : Bool). onto b (p.flight p.on) items) x) ∙ heard_append_at x)
        (λ i h. ap (λ (w : List Item). heard c w (cond (nat_eq i p.at) s.ear (Idle (s.floor i)))) (put_there p.on i (onto (p.cut p.on) (p.flight p.on) items) p.flight h))
        s.links;
  } where
    from : Ear
    from = cond (nat_eq p.on p.at) s.ear (Idle (s.floor p.on))

    at_on : (w : List Item) → (ℕ → onto (p.cut p.on) (p.flight p.on) items ≡ w)
        → heard c (put p.on (onto (p.cut p.on) (p.flight p.on) items) p.flight p.on) (cond (nat_eq p.on p.at) s.ear (Idle (s.floor p.on))) ≡ heard c w (cond (nat_eq p.on p.at) s.ear (Idle (s.floor p.on)))
    at_on w h = ap (λ (v : List Item). heard c v (cond (nat_eq p.on p.at) s.ear (Idle (s.floor p.on)))) (put_here p.on (onto (p.cut p.on) (p.flight p.on) items) p.flight ∙ h 0)

    heard_append_at : p.cut p.on ≡ false → heard c (p.flight p.on ++ items) (cond (nat_eq p.on p.at) s.ear (Idle (s.floor p.on))) ≡ heard c items (ends c p.flight p.at s.ear s.floor p.on)
    heard_append_at x = heard_append c (p.flight p.on) items (cond (nat_eq p.on p.at) s.ear (Idle (s.floor p.on)))

  pub marked_keeps : (p : Passage) → items ≡ [] → Le (tail (p.mark d) (p.epoch d) (p.index d)) (tail m e k) → cap (p.mark d) (p.epoch d) ≤ cap m e → Ordered c p → Ordered c (marked d m e k p)
  marked_keeps p none le more s = record {
    ear = s.ear;
    floor = s.floor;
    base = s.base;
    known = s.known;
    links = retold c p.on p.at s.floor s.base (tail (p.mark c) (p.epoch c) (p.index c)) (tail (put d m p.mark c) (put d e p.epoch c) (put d k p.index c))
        (cap (p.mark c) (p.epoch c)) (cap (put d m p.mark c) (put d e p.epoch c)) (cap_moves p more) (tail_cap (put d m p.mark c) (put d e p.epoch c) (put d k p.index c))
        p.waits p.up (p.cut p.on) (ends c p.flight p.at s.ear s.floor)
        (subst (λ (w : List Item). Le (heard c w (tail (p.mark c) (p.epoch c) (p.index c))) (tail (put d m p.mark c) (put d e p.epoch c) (put d k p.index c))) none
        (tail_moves p (subst (λ (w : List Item). Le (heard d w (tail (p.mark d) (p.epoch d) (p.index d))) (tail m e k)) (sym none) le)))
        s.links;
  }

pub noted_keeps : (c : ℕ) (x : Entry) (p : Passage) → ((e : ℕ) → gots c e (x ∷ p.log) ≡ gots c e p.log) → Ordered c p → Ordered c (noted x p)
noted_keeps c x p h s = record {
  ear = s.ear;
  floor = s.floor;
  base = s.base;
  known = known_ext s.ear (λ e. gots c e p.log) (λ e. gots c e (x ∷ p.log)) (p.bound c) (p.bound c) h (same_table (p.bound c) (p.bound c) (λ e. refl)) s.known;
  links = s.links;
}

skip_of : (c d : ℕ) (r s : Ear) → nat_eq d c ≡ false → cond (nat_eq d c) r s ≡ s
skip_of c d r s h = ap (λ (b : Bool). cond b r s) h

self_leb : (e : ℕ) → leb e e ≡ true
self_leb e = grind (arith, nat_tests)

self_both : (e k : ℕ) → (nat_eq e e && nat_eq k k) ≡ true
self_both e k = grind (arith, nat_tests)

created_self : (d e : ℕ) → hear d (Created d e) (Idle e) ≡ In e 0
created_self d e = ap (λ (x : Bool). cond x (cond (leb e e) (In e 0) Bad) (Idle e)) (self_number d) ∙ ap (λ (x : Bool). cond x (In e 0) Bad) (self_leb e)

message_self : (d e k : ℕ) → hear d (Message d e k) (In e k) ≡ In e (suc k)
message_self d e k = ap (λ (x : Bool). cond x (cond (nat_eq e e && nat_eq k k) (In e (suc k)) Bad) (In e k)) (self_number d) ∙ ap (λ (x : Bool). cond x (In e (suc k)) Bad) (self_both e k)

closed_self : (d e k : ℕ) → hear d (Closed d e) (In e k) ≡ Idle (suc e)
closed_self d e k = ap (λ (x : Bool). cond x (cond (nat_eq e e) (Idle (suc e)) Bad) (In e k)) (self_number d) ∙ ap (λ (x : Bool). cond x (Idle (suc e)) Bad) (self_number e)

le_of : (r s : Ear) → r ≡ s → Le r s
le_of r s h = subst (Le r) h (le_self r)

cap_next : (m : Mark) (e : ℕ) → cap m e ≤ suc e
cap_next Unopened e = omega arith
cap_next Opened e = omega arith
cap_next Broken e = omega arith
cap_next Ended e = omega arith

tail_next : (m : Mark) (e k : ℕ) → (m ≡ Opened → ⊥) → Le (tail m e k) (Idle (suc e))
tail_next Unopened e k h = omega arith
tail_next Opened e k h = absurd (h refl)
tail_next Broken e k h = omega arith
tail_next Ended e k h = omega arith

pub say_pair : (c d : ℕ) (p : Passage) (m : Mark) → p.mark d ≡ m → (m ≡ Unopened → p.index d ≡ 0) → Ordered c p → Ordered c (say m d p)
say_pair c d p Unopened is zero_index s =
    written_keeps c d (Created d (p.epoch d) ∷ Message d (p.epoch d) (p.index d) ∷ [])
    (λ h r. ap (hear c (Message d (p.epoch d) (p.index d))) (skip_of c d _ r h) ∙ skip_of c d _ r h) Opened (p.epoch d) (suc (p.index d)) (noted (Said d (p.epoch d) (p.index d)) p)
    (le_of _ _ (ap (λ (z : Mark). heard d (Created d (p.epoch d) ∷ Message d (p.epoch d) (p.index d) ∷ []) (tail z (p.epoch d) (p.index d))) is
    ∙ ap (hear d (Message d (p.epoch d) (p.index d))) (created_self d (p.epoch d) ∙ ap (In (p.epoch d)) (sym (zero_index refl))) ∙ message_self d (p.epoch d) (p.index d)))
    (cap_next (p.mark d) (p.epoch d)) p.up refl (noted_keeps c (Said d (p.epoch d) (p.index d)) p (λ e. refl) s)
say_pair c d p Opened is zero_index s =
    written_keeps c d (Message d (p.epoch d) (p.index d) ∷ [])
    (λ h r. skip_of c d _ r h) Opened (p.epoch d) (suc (p.index d)) (noted (Said d (p.epoch d) (p.index d)) p)
    (le_of _ _ (ap (λ (z : Mark). hear d (Message d (p.epoch d) (p.index d)) (tail z (p.epoch d) (p.index d))) is ∙ message_self d (p.epoch d) (p.index d)))
    (cap_next (p.mark d) (p.epoch d)) p.up refl (noted_keeps c (Said d (p.epoch d) (p.index d)) p (λ e. refl) s)
say_pair c d p Broken is zero_index s =
    noted_keeps c (Said d (p.epoch d) (p.index d)) _ (λ e. refl)
    (marked_keeps c d [] (λ h r. refl) Broken (p.epoch d) (suc (p.index d)) p refl
    (le_of _ _ (ap (λ (z : Mark). tail z (p.epoch d) (p.index d)) is))
    (cap_next (p.mark d) (p.epoch d)) s)
say_pair c d p Ended is zero_index s = s

-- a pair with no open connection is marked anew
unopened_pair : (c d : ℕ) (p : Passage) (m : Mark) (e k : ℕ) → (p.mark d ≡ Opened → ⊥) → Le (Idle (suc (p.epoch d))) (tail m e k) → suc (p.epoch d) ≤ cap m e → Ordered c p → Ordered c (marked d m e k p)
unopened_pair c d p m e k is le more s = marked_keeps c d [] (λ h r. refl) m e k p refl
    (le_trans (tail (p.mark d) (p.epoch d) (p.index d)) (Idle (suc (p.epoch d))) (tail m e k) (tail_next (p.mark d) (p.epoch d) (p.index d) is) le)
    (trans_le (cap (p.mark d) (p.epoch d)) (suc (p.epoch d)) (cap m e) (cap_next (p.mark d) (p.epoch d)) more) s where
      trans_le : (a b c : ℕ) → a ≤ b → b ≤ c → a ≤ c
      trans_le a b c g h = omega arith

-- an open connection is closed, and the pair marked anew
closed_pair : (c d : ℕ) (p : Passage) (m : Mark) (e k : ℕ) → p.mark d ≡ Opened → Le (Idle (suc (p.epoch d))) (tail m e k) → suc (p.epoch d) ≤ cap m e → Ordered c p
    → Ordered c (write (Closed d (p.epoch d) ∷ []) (marked d m e k p))
closed_pair c d p m e k is le more s = written_keeps c d (Closed d (p.epoch d) ∷ []) (λ h r. skip_of c d _ r h) m e k p
    (subst (λ (z : Ear). Le z (tail m e k)) (sym (ap (λ (z : Mark). hear d (Closed d (p.epoch d)) (tail z (p.epoch d) (p.index d))) is ∙ closed_self d (p.epoch d) (p.index d))) le)
    (trans_le (cap (p.mark d) (p.epoch d)) (suc (p.epoch d)) (cap m e) (cap_next (p.mark d) (p.epoch d)) more) p.up refl s where
      trans_le : (a b c : ℕ) → a ≤ b → b ≤ c → a ≤ c
      trans_le a b c g h = omega arith

self_le : (n : ℕ) → n ≤ n
self_le n = omega arith

other_mark : (m n : Mark) (p : Mark) → p ≡ m → (m ≡ n → ⊥) → p ≡ n → ⊥
other_mark m n p is not h = not (sym is ∙ h)

pub reconnect_pair : (c d : ℕ) (p : Passage) (m : Mark) → p.mark d ≡ m → Ordered c p → Ordered c (reconnect m d p)
reconnect_pair c d p Opened is s = closed_pair c d (noted (Again d (suc (p.epoch d))) p) Unopened (suc (p.epoch d)) 0 is (le_self (Idle (suc (p.epoch d)))) (self_le (suc (p.epoch d)))
    (noted_keeps c (Again d (suc (p.epoch d))) p (λ e. refl) s)
reconnect_pair c d p Unopened is s = noted_keeps c (Again d (suc (p.epoch d))) _ (λ e. refl)
    (unopened_pair c d p Unopened (suc (p.epoch d)) 0 (other_mark Unopened Opened (p.mark d) is not) (le_self (Idle (suc (p.epoch d)))) (self_le (suc (p.epoch d))) s) where
      not : Unopened ≡ Opened → ⊥
      not h = cc
reconnect_pair c d p Broken is s = noted_keeps c (Again d (suc (p.epoch d))) _ (λ e. refl)
    (unopened_pair c d p Unopened (suc (p.epoch d)) 0 (other_mark Broken Opened (p.mark d) is not) (le_self (Idle (suc (p.epoch d)))) (self_le (suc (p.epoch d))) s) where
      not : Broken ≡ Opened → ⊥
      not h = cc
reconnect_pair c d p Ended is s = s

pub finish_pair : (c d : ℕ) (p : Passage) (m : Mark) → p.mark d ≡ m → Ordered c p → Ordered c (finish m d p)
finish_pair c d p Opened is s = closed_pair c d p Ended (p.epoch d) (p.index d) is (le_self (Idle (suc (p.epoch d)))) (self_le (suc (p.epoch d))) s
finish_pair c d p Unopened is s = unopened_pair c d p Ended (p.epoch d) (p.index d) (other_mark Unopened Opened (p.mark d) is not) (le_self (Idle (suc (p.epoch d)))) (self_le (suc (p.epoch d))) s where
  not : Unopened ≡ Opened → ⊥
  not h = cc
finish_pair c d p Broken is s = unopened_pair c d p Ended (p.epoch d) (p.index d) (other_mark Broken Opened (p.mark d) is not) (le_self (Idle (suc (p.epoch d)))) (self_le (suc (p.epoch d))) s where
  not : Broken ≡ Opened → ⊥
  not h = cc
finish_pair c d p Ended is s = unopened_pair c d p Ended (p.epoch d) (p.index d) (other_mark Ended Opened (p.mark d) is not) (le_self (Idle (suc (p.epoch d)))) (self_le (suc (p.epoch d))) s where
  not : Ended ≡ Opened → ⊥
  not h = cc
