-- What the naming, the words and quiet tell of single sockets.
use Rattle.std.proofs.Common.{◌≡◌, ◌⊎◌, ℕ, nat_eq, Bool, false, cond, List, [], refl, ap, sym, ◌∙◌, subst, arith}
use Rattle.std.proofs.lemmas.Bool.Decides.{nat_tests}
use Rattle.ch_link.specs.declared.LinkState.{LinkState}
use Rattle.ch_link.specs.declared.LinkState.TheVariants.{Idle, Dialing, AwaitOther, Up}
use Rattle.ch_race.specs.Pair.{Side, Lesser, Greater, other, OEnd, OPending, OAsking, OUp, OEnded, TEnd, TPending, TOpen, TUp, TEnded, Item, Sock, Pair, put, point}
use Rattle.ch_race.specs.Moves.{IsStill, IsOpen_o, IsOpen_t}
use Rattle.ch_race.specs.Naming.{Not, Asks, IsUp, role, role_o, role_t, Naming}
use Rattle.ch_race.specs.Words.{Words, Worded, In_o, In_t, UnlessCut, Phase}
use Rattle.ch_race.specs.Quiet.{IsAsked, OpenDial, UpByGreater, Fits, QuietSock, Dialed, Joined, Quiet}
use Rattle.ch_race.proofs.Frame.{by_test, same_number, self_number, put_here, put_there}
use Rattle.ch_race.proofs.Names.{IsSideOf, Own, Peer, side_of}

dial_at : (d i : ℕ) → cond (nat_eq i d) Asks Not ≡ Asks → i ≡ d
dial_at d i h = grind (arith, nat_tests)

up_at : (d i : ℕ) → cond (nat_eq i d) IsUp Not ≡ IsUp → i ≡ d
up_at d i h = grind (arith, nat_tests)

dial_not_up : (d i : ℕ) → cond (nat_eq i d) Asks Not ≡ IsUp → ⊥
dial_not_up d i h = grind (arith, nat_tests)

up_not_dial : (u i : ℕ) → cond (nat_eq i u) IsUp Not ≡ Asks → ⊥
up_not_dial u i h = grind (arith, nat_tests)

-- the link that an end tells
pub asking_link : (k : LinkState) (i : ℕ) → Asks ≡ role k i → k ≡ Dialing i
asking_link Idle i h = cc
asking_link AwaitOther i h = cc
asking_link (Dialing d) i h = ap Dialing (sym (dial_at d i (sym h)))
asking_link (Up u b) i h = absurd (up_not_dial u i (sym h))

pub up_link : (k : LinkState) (i : ℕ) → IsUp ≡ role k i → (b : Bool) × (k ≡ Up i b)
up_link Idle i h = absurd (cc)
up_link AwaitOther i h = absurd (cc)
up_link (Dialing d) i h = absurd (dial_not_up d i (sym h))
up_link (Up u b) i h = (b, ap (λ (n : ℕ). Up n b) (sym (up_at u i (sym h))))

pub role_dialing : (i : ℕ) → role (Dialing i) i ≡ Asks
role_dialing i = ap (λ (b : Bool). cond b Asks Not) (self_number i)

pub role_up : (i : ℕ) (b : Bool) → role (Up i b) i ≡ IsUp
role_up i b = ap (λ (c : Bool). cond c IsUp Not) (self_number i)

-- the ends that a link tells
asks_end : (o : OEnd) → role_o o ≡ Asks → (o ≡ OPending) ⊎ (o ≡ OAsking)
asks_end o h = grind arith

no_asks_t : (t : TEnd) → role_t t ≡ Asks → ⊥
no_asks_t TPending h = cc
no_asks_t TOpen h = cc
no_asks_t TUp h = cc
no_asks_t TEnded h = cc

-- a node that dials has the opener's end
pub dialer : (p : Pair) (x : Side) (i : ℕ) → Naming p → p.link x ≡ Dialing i → (x ≡ (p.sock i).opener) × (role_o (p.sock i).o ≡ Asks)
dialer p x i n e = by_side (side_of (p.sock i).opener x) where
  by_side : IsSideOf (p.sock i).opener x → (x ≡ (p.sock i).opener) × (role_o (p.sock i).o ≡ Asks)
  by_side (Own f) = (f, (n i).own ∙ ap (λ (z : Side). role (p.link z) i) (sym f) ∙ ap (λ (l : LinkState). role l i) e ∙ role_dialing i)
  by_side (Peer f) = absurd (no_asks_t _ ((n i).peer ∙ ap (λ (z : Side). role (p.link z) i) (sym f) ∙ ap (λ (l : LinkState). role l i) e ∙ role_dialing i))

-- what quiet keeps of the other sockets
pub fits_map : (D U E V : Type 0) (x : Side) (w : List Item) (o : OEnd) (t : TEnd) → (OAsking ≡ o → TEnded ≡ t → x ≡ Lesser → D → E) → (U → V) → Fits D U x w o t → Fits E V x w o t
fits_map D U E V x w OAsking TEnded f g (a, b, c) = (a, b, f refl refl a c)
fits_map D U E V x w OEnded TPending f g (a, b) = (a, g b)
fits_map D U E V x w OEnded TOpen f g (a, b) = (a, g b)
fits_map D U E V x w o t f g h = h

module _ (p q : Pair) (i : ℕ) where
  pub quiet_frame : Quiet p → ((x : Side) → q.shut x ≡ p.shut x) → ((j : ℕ) → nat_eq j i ≡ false → q.sock j ≡ p.sock j)
      → ((j : ℕ) → nat_eq j i ≡ false → OAsking ≡ (p.sock j).o → TEnded ≡ (p.sock j).t → (p.sock j).opener ≡ Lesser → Dialed p → Dialed q) → (Joined p → Joined q)
      → QuietSock (Dialed q) (Joined q) (q.sock i) → ((x : Side) → q.link x ≡ AwaitOther → (x ≡ Lesser) × Dialed q) → Quiet q
  quiet_frame h shut socks dialed joined here awaits = record {
    running = λ x. shut x ∙ h.running x;
    socks = λ j. by_test {P = QuietSock (Dialed q) (Joined q) (q.sock j)} (nat_eq j i)
        (λ e. subst (λ (m : ℕ). QuietSock (Dialed q) (Joined q) (q.sock m)) (same_number i j e) here)
        (λ e. subst (QuietSock (Dialed q) (Joined q)) (sym (socks j e)) (record {
          whole_o = (h.socks j).whole_o;
          whole_t = (h.socks j).whole_t;
          fits = fits_map (Dialed p) (Joined p) (Dialed q) (Joined q) (p.sock j).opener (p.sock j).in_o (p.sock j).o (p.sock j).t (dialed j e) joined (h.socks j).fits;
        }));
    awaits = awaits;
  }

-- a put that keeps what is asked, and the opener
pub dial_put : (k : LinkState) (p : Pair) (i : ℕ) (s : Sock) → (k ≡ Dialing i → IsAsked (p.sock i).t → IsAsked s.t) → OpenDial k p.sock → OpenDial k (put i s p).sock
dial_put Idle p i s f h = h
dial_put AwaitOther p i s f h = h
dial_put (Up u b) p i s f h = h
dial_put (Dialing g) p i s f h = by_test {P = IsAsked ((put i s p).sock g).t} (nat_eq g i)
    (λ e. subst (λ (m : ℕ). IsAsked ((put i s p).sock m).t) (same_number i g e) (subst (λ (z : Sock). IsAsked z.t) (sym (put_here i s p))
    (f (ap Dialing (sym (same_number i g e))) (subst (λ (m : ℕ). IsAsked (p.sock m).t) (sym (same_number i g e)) h))))
    (λ e. subst (λ (z : Sock). IsAsked z.t) (sym (put_there i g s p e)) h)

pub joined_put : (k : LinkState) (p : Pair) (i : ℕ) (s : Sock) → ((b : Bool) → k ≡ Up i b → (p.sock i).opener ≡ Greater → s.opener ≡ Greater) → UpByGreater k p.sock → UpByGreater k (put i s p).sock
joined_put Idle p i s f h = h
joined_put AwaitOther p i s f h = h
joined_put (Dialing d) p i s f h = h
joined_put (Up u b) p i s f h = by_test {P = ((put i s p).sock u).opener ≡ Greater} (nat_eq u i)
    (λ e. subst (λ (m : ℕ). ((put i s p).sock m).opener ≡ Greater) (same_number i u e) (subst (λ (z : Sock). z.opener ≡ Greater) (sym (put_here i s p))
    (f b (ap (λ (n : ℕ). Up n b) (sym (same_number i u e))) (subst (λ (m : ℕ). (p.sock m).opener ≡ Greater) (sym (same_number i u e)) h))))
    (λ e. subst (λ (z : Sock). z.opener ≡ Greater) (sym (put_there i u s p e)) h)

pub dial_point : (x : Side) (k : LinkState) (p : Pair) (f : ℕ → Sock) → (x ≡ Greater → OpenDial (p.link Greater) f → OpenDial k f) → OpenDial (p.link Greater) f → OpenDial ((point x k p).link Greater) f
dial_point Lesser k p f g h = h
dial_point Greater k p f g h = g refl h

pub joined_point : (x : Side) (k : LinkState) (p : Pair) (f : ℕ → Sock) → (x ≡ Lesser → UpByGreater (p.link Lesser) f → UpByGreater k f) → UpByGreater (p.link Lesser) f → UpByGreater ((point x k p).link Lesser) f
joined_point Lesser k p f g h = g refl h
joined_point Greater k p f g h = h

pub await_point : (x z : Side) (k : LinkState) (p : Pair) → (k ≡ AwaitOther → ⊥) → (point x k p).link z ≡ AwaitOther → p.link z ≡ AwaitOther
await_point Lesser Lesser k p f h = absurd (f h)
await_point Lesser Greater k p f h = h
await_point Greater Lesser k p f h = h
await_point Greater Greater k p f h = absurd (f h)

-- a still pair
module _ (p : Pair) (n : Naming p) (ws : Worded p) (still : (i : ℕ) → IsStill (p.sock i)) where
  still_asking : (s : Sock) (a b : Bool) → Words a b s → IsStill s → role_o s.o ≡ Asks → ⊥
  still_asking s a b w st h = by_end s.o s.t s.cut_o s.cut_t s.in_o s.in_t a b w.phase w.word_o w.word_t h st.joined st.came st.read_o st.read_t where
    by_end : (o : OEnd) (t : TEnd) (co ct : Bool) (wo wt : List Item) (a b : Bool) → Phase o t → UnlessCut co wo (In_o o t b wo) → UnlessCut ct wt (In_t o t a wt) → role_o o ≡ Asks → (o ≡ OPending → ⊥) → (t ≡ TPending → ⊥)
        → (IsOpen_o o → (wo ≡ []) × (co ≡ false) × (t ≡ TEnded → ⊥)) → (IsOpen_t t → (wt ≡ []) × (ct ≡ false) × (o ≡ OEnded → ⊥)) → ⊥
    by_end o t co ct wo wt a b ph ho ht r j c ro rt = grind arith

  -- no link dials
  pub still_no_dial : (x : Side) (i : ℕ) → p.link x ≡ Dialing i → ⊥
  still_no_dial x i e = still_asking (p.sock i) _ _ (ws i) (still i) (dialer p x i n e).1

-- words and flags alone
pub fits_words : (D U E V : Type 0) (x : Side) (w v : List Item) (o : OEnd) (t : TEnd) → (OAsking ≡ o → TEnded ≡ t → v ≡ w) → (D → E) → (U → V) → Fits D U x w o t → Fits E V x v o t
fits_words D U E V x w v OAsking TEnded f g k (a, b, c) = (a, f refl refl ∙ b, g c)
fits_words D U E V x w v OEnded TPending f g k (a, b) = (a, k b)
fits_words D U E V x w v OEnded TOpen f g k (a, b) = (a, k b)
fits_words D U E V x w v o t f g k h = h

pub quiet_put : (p : Pair) (i : ℕ) (s : Sock) → Quiet p → s.opener ≡ (p.sock i).opener → (p.link Greater ≡ Dialing i → IsAsked (p.sock i).t → IsAsked s.t)
    → ((Dialed p → Dialed (put i s p)) → (Joined p → Joined (put i s p)) → QuietSock (Dialed (put i s p)) (Joined (put i s p)) s) → Quiet (put i s p)
quiet_put p i s h opener stays here = quiet_frame p (put i s p) i h (λ x. refl) (λ j e. put_there i j s p e) (λ j e a b c. dialed) joined (subst (QuietSock (Dialed (put i s p)) (Joined (put i s p))) (sym (put_here i s p)) (here dialed joined))
    (λ x e. ((h.awaits x e).0, dialed (h.awaits x e).1)) where
      dialed : Dialed p → Dialed (put i s p)
      dialed = dial_put (p.link Greater) p i s stays

      joined : Joined p → Joined (put i s p)
      joined = joined_put (p.link Lesser) p i s (λ b e g. opener ∙ g)

pub quiet_words : (p : Pair) (i : ℕ) (v w : List Item) → Quiet p → (OAsking ≡ (p.sock i).o → TEnded ≡ (p.sock i).t → v ≡ (p.sock i).in_o) → Quiet (put i (record (p.sock i) { in_o = v; in_t = w }) p)
quiet_words p i v w h same_word = quiet_put p i (record (p.sock i) { in_o = v; in_t = w }) h refl (λ e a. a)
    (λ d j. record { whole_o = (h.socks i).whole_o; whole_t = (h.socks i).whole_t; fits = fits_words _ _ _ _ (p.sock i).opener (p.sock i).in_o v (p.sock i).o (p.sock i).t same_word d j (h.socks i).fits })

pub quiet_link : (p : Pair) (x : Side) (k : LinkState) → Quiet p → (Dialed p → Dialed (point x k p)) → (Joined p → Joined (point x k p)) → (k ≡ AwaitOther → ⊥) → Quiet (point x k p)
quiet_link p x k h d j f = record {
  running = h.running;
  socks = λ i. record { whole_o = (h.socks i).whole_o; whole_t = (h.socks i).whole_t; fits = fits_words _ _ _ _ (p.sock i).opener (p.sock i).in_o (p.sock i).in_o (p.sock i).o (p.sock i).t (λ a b. refl) d j (h.socks i).fits };
  awaits = λ z e. ((h.awaits z (await_point x z k p f e)).0, d (h.awaits z (await_point x z k p f e)).1);
}

no_dial_up : (k l : LinkState) (f : ℕ → Sock) (u : ℕ) (b : Bool) → k ≡ Up u b → OpenDial k f → OpenDial l f
no_dial_up k l f u b e h = absurd (subst (λ (m : LinkState). OpenDial m f) e h)

still_joined : (k : LinkState) (f : ℕ → Sock) (u : ℕ) (b c : Bool) → k ≡ Up u b → UpByGreater k f → UpByGreater (Up u c) f
still_joined k f u b c e h = subst (λ (m : LinkState). UpByGreater m f) e h

-- the probed flag of an up link
pub quiet_flag : (p : Pair) (x : Side) (u : ℕ) (b c : Bool) → Quiet p → p.link x ≡ Up u b → Quiet (point x (Up u c) p)
quiet_flag p x u b c h e = quiet_link p x (Up u c) h
    (dial_point x (Up u c) p p.sock (λ g. no_dial_up (p.link Greater) (Up u c) p.sock u b (ap p.link (sym g) ∙ e)))
    (joined_point x (Up u c) p p.sock (λ g. still_joined (p.link Lesser) p.sock u b c (ap p.link (sym g) ∙ e))) (λ g. cc)

-- what a stale request tells
pub joined_tells : (k : LinkState) (f : ℕ → Sock) → UpByGreater k f → (u : ℕ) × (b : Bool) × (k ≡ Up u b) × ((f u).opener ≡ Greater)
joined_tells Idle f h = absurd h
joined_tells AwaitOther f h = absurd h
joined_tells (Dialing d) f h = absurd h
joined_tells (Up u b) f h = (u, b, refl, h)

pub dialed_tells : (k : LinkState) (f : ℕ → Sock) → OpenDial k f → (g : ℕ) × (k ≡ Dialing g) × IsAsked (f g).t
dialed_tells Idle f h = absurd h
dialed_tells AwaitOther f h = absurd h
dialed_tells (Dialing d) f h = (d, refl, h)
dialed_tells (Up u b) f h = absurd h

pub up_not_left : (D U : Type 0) (x : Side) (w : List Item) (o : OEnd) (t : TEnd) → TUp ≡ t → Fits D U x w o t → role_o o ≡ Not → ⊥
up_not_left D U x w OPending t e h g = cc
up_not_left D U x w OAsking t e h g = cc
up_not_left D U x w OUp t e h g = cc
up_not_left D U x w OEnded TUp e h g = h
up_not_left D U x w OEnded TPending e h g = cc
up_not_left D U x w OEnded TOpen e h g = cc
up_not_left D U x w OEnded TEnded e h g = cc

role_up_t : (t : TEnd) → role_t t ≡ IsUp → TUp ≡ t
role_up_t TPending h = cc
role_up_t TOpen h = cc
role_up_t TUp h = refl
role_up_t TEnded h = cc

-- where Lesser is up on a socket of Greater, Greater names it
pub joined_named : (p : Pair) (u : ℕ) (b : Bool) → Naming p → Quiet p → p.link Lesser ≡ Up u b → (p.sock u).opener ≡ Greater → role (p.link Greater) u ≡ Not → ⊥
joined_named p u b n h e g f = up_not_left _ _ (p.sock u).opener (p.sock u).in_o (p.sock u).o (p.sock u).t up (h.socks u).fits
    ((n u).own ∙ ap (λ (z : Side). role (p.link z) u) g ∙ f) where
      up : TUp ≡ (p.sock u).t
      up = role_up_t _ ((n u).peer ∙ ap (λ (z : Side). role (p.link (other z)) u) g ∙ ap (λ (l : LinkState). role l u) e ∙ role_up u b)

pub stale_tells : (D U : Type 0) (x : Side) (w : List Item) (o : OEnd) (t : TEnd) → o ≡ OEnded → TOpen ≡ t → Fits D U x w o t → (x ≡ Lesser) × U
stale_tells D U x w OEnded TOpen a b h = h
stale_tells D U x w OPending t a b h = absurd (cc)
stale_tells D U x w OAsking t a b h = absurd (cc)
stale_tells D U x w OUp t a b h = absurd (cc)
stale_tells D U x w OEnded TPending a b h = absurd (cc)
stale_tells D U x w OEnded TUp a b h = absurd (cc)
stale_tells D U x w OEnded TEnded a b h = absurd (cc)

-- so neither link names nothing
pub stale_named : (p : Pair) (i : ℕ) → Naming p → Quiet p → (p.sock i).o ≡ OEnded → TOpen ≡ (p.sock i).t
    → ((p.sock i).opener ≡ Lesser) × ((u : ℕ) × (b : Bool) × (p.link Lesser ≡ Up u b) × ((p.sock u).opener ≡ Greater) × (role (p.link Greater) u ≡ Not → ⊥))
stale_named p i n h a b =
    let st : ((p.sock i).opener ≡ Lesser) × Joined p = stale_tells _ _ (p.sock i).opener (p.sock i).in_o (p.sock i).o (p.sock i).t a b (h.socks i).fits in
    let tells = joined_tells (p.link Lesser) p.sock st.1 in
    (st.0, (tells.0, tells.1, tells.2, tells.3, joined_named p tells.0 tells.1 n h tells.2 tells.3))
