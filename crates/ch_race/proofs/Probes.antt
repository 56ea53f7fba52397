-- What each change of a socket does to the account of its probes.
use Rattle.std.proofs.Common.{◌≡◌, ◌⊎◌, ℕ, ◌+◌, ◌≤◌, Bool, true, false, cond, ◌||◌, List, [], ◌∷◌, ◌++◌, refl, ap, sym, subst, arith}
use Rattle.ch_link.specs.declared.LinkState.{LinkState}
use Rattle.ch_race.specs.Pair.{Side, OEnd, OPending, OAsking, OUp, OEnded, TEnd, TPending, TOpen, TUp, TEnded, Item, Request, Accepted, Crossed, Invalid, EndClosed, Probe, Ack, Data, Sock, dead, to_o, to_t, end_o, end_t, fresh, written, o_ended, t_ended}
use Rattle.ch_race.specs.Words.{Frames, Words, In_o, In_t, UnlessCut, Phase}
use Rattle.ch_race.proofs.Words.{raised_phase, asker, empty, open_word}
use Rattle.ch_race.specs.Probes.{is_probe, is_ack, bit, count, flag, Account, Probed}

pub count_append : (f : Item → Bool) (w : List Item) (item : Item) → count f (w ++ item ∷ []) ≡ count f w + bit (f item)
count_append f [] item = omega arith
count_append f (x ∷ w) item = let e = count_append f w item in omega arith

pub wrote : (f : Item → Bool) (ended cut : Bool) (item : Item) (w : List Item) → count f (written ended cut item w) ≡ count f w + cond (ended || cut) 0 (bit (f item))
wrote f true cut item w = omega arith
wrote f false true item w = omega arith
wrote f false false item w = count_append f w item

less : (b : Bool) (n m : ℕ) (l k : Bool) → m ≤ n → k ≡ true → Account b n l → Account b m k
less b n m l k le e h = grind arith

-- nothing of what counts here is written
unmoved : (b : Bool) (n m : ℕ) (l : Bool) → m ≡ n → Account b n l → Account b m l
unmoved b n m l e h = grind arith

or_second : (a b c : Bool) → b ≡ true → (a || b || c) ≡ true
or_second a b c h = grind arith

or_third : (a b c : Bool) → c ≡ true → (a || b || c) ≡ true
or_third a b c h = grind arith

pub end_o_probed : (kx k ky : LinkState) (s : Sock) → Probed kx ky s → Probed k ky (end_o s)
end_o_probed kx k ky s h = record { own = λ e. absurd (cc); peer = λ e. less _ _ _ _ _ (omega arith) refl (h.peer e) }

pub end_t_probed : (kx ky k : LinkState) (s : Sock) → Probed kx ky s → Probed kx k (end_t s)
end_t_probed kx ky k s h = record { own = λ e. less _ _ _ _ _ (omega arith) refl (h.own e); peer = λ e. absurd (cc) }

pub cut_o_probed : (kx ky : LinkState) (s : Sock) → Probed kx ky s → Probed kx ky (record s { cut_o = true; in_o = [] })
cut_o_probed kx ky s h = record { own = λ e. less _ _ _ _ _ (omega arith) (or_second (t_ended s.t) true s.cut_t refl) (h.own e); peer = λ e. less _ _ _ _ _ (omega arith) (or_second (o_ended s.o) true s.cut_t refl) (h.peer e) }

pub cut_t_probed : (kx ky : LinkState) (s : Sock) → Probed kx ky s → Probed kx ky (record s { cut_t = true; in_t = [] })
cut_t_probed kx ky s h = record { own = λ e. less _ _ _ _ _ (omega arith) (or_third (t_ended s.t) s.cut_o true refl) (h.own e); peer = λ e. less _ _ _ _ _ (omega arith) (or_third (o_ended s.o) s.cut_o true refl) (h.peer e) }

-- an item that is neither a Probe nor an Ack is written
pub to_t_probed : (kx ky : LinkState) (s : Sock) (item : Item) → is_probe item ≡ false → is_ack item ≡ false → Probed kx ky s → Probed kx ky (to_t item s)
to_t_probed kx ky s item no_probe no_ack h = record {
  own = λ e. unmoved _ _ _ _ (wrote_none is_probe no_probe (count is_ack s.in_o)) (h.own e);
  peer = λ e. unmoved _ _ _ _ (wrote_none_right is_ack no_ack (count is_probe s.in_o)) (h.peer e);
} where
  wrote_none : (f : Item → Bool) → f item ≡ false → (n : ℕ) → count f (written (t_ended s.t) s.cut_t item s.in_t) + n ≡ count f s.in_t + n
  wrote_none f none n = let e = wrote f (t_ended s.t) s.cut_t item s.in_t in grind arith

  wrote_none_right : (f : Item → Bool) → f item ≡ false → (n : ℕ) → n + count f (written (t_ended s.t) s.cut_t item s.in_t) ≡ n + count f s.in_t
  wrote_none_right f none n = let e = wrote f (t_ended s.t) s.cut_t item s.in_t in grind arith

pub to_o_probed : (kx ky : LinkState) (s : Sock) (item : Item) → is_probe item ≡ false → is_ack item ≡ false → Probed kx ky s → Probed kx ky (to_o item s)
to_o_probed kx ky s item no_probe no_ack h = record {
  own = λ e. unmoved _ _ _ _ (wrote_none_right is_ack no_ack (count is_probe s.in_t)) (h.own e);
  peer = λ e. unmoved _ _ _ _ (wrote_none is_probe no_probe (count is_ack s.in_t)) (h.peer e);
} where
  wrote_none : (f : Item → Bool) → f item ≡ false → (n : ℕ) → count f (written (o_ended s.o) s.cut_o item s.in_o) + n ≡ count f s.in_o + n
  wrote_none f none n = let e = wrote f (o_ended s.o) s.cut_o item s.in_o in grind arith

  wrote_none_right : (f : Item → Bool) → f item ≡ false → (n : ℕ) → n + count f (written (o_ended s.o) s.cut_o item s.in_o) ≡ n + count f s.in_o
  wrote_none_right f none n = let e = wrote f (o_ended s.o) s.cut_o item s.in_o in grind arith

-- a Probe is written by the opener, or by the target
probe_more : (b c ended cut other_cut : Bool) (w : List Item) (n : ℕ) → b ≡ false → c ≡ true → Account b (count is_probe w + n) (ended || other_cut || cut) → Account c (count is_probe (written ended cut Probe w) + n) (ended || other_cut || cut)
probe_more b c ended cut other_cut w n f g h = let e = wrote is_probe ended cut Probe w in grind arith

probe_more_o : (b c ended cut other_cut : Bool) (w : List Item) (n : ℕ) → b ≡ false → c ≡ true → Account b (count is_probe w + n) (ended || cut || other_cut) → Account c (count is_probe (written ended cut Probe w) + n) (ended || cut || other_cut)
probe_more_o b c ended cut other_cut w n f g h = let e = wrote is_probe ended cut Probe w in grind arith

no_ack_more : (ended cut : Bool) (w : List Item) (n : ℕ) → n + count is_ack (written ended cut Probe w) ≡ n + count is_ack w
no_ack_more ended cut w n = let e = wrote is_ack ended cut Probe w in grind arith

pub probe_t_probed : (kx ky k : LinkState) (s : Sock) → flag kx ≡ false → flag k ≡ true → Probed kx ky s → Probed k ky (to_t Probe s)
probe_t_probed kx ky k s f g h = record {
  own = λ e. probe_more (flag kx) (flag k) (t_ended s.t) s.cut_t s.cut_o s.in_t (count is_ack s.in_o) f g (h.own e);
  peer = λ e. unmoved _ _ _ _ (no_ack_more (t_ended s.t) s.cut_t s.in_t (count is_probe s.in_o)) (h.peer e);
}

pub probe_o_probed : (kx ky k : LinkState) (s : Sock) → flag ky ≡ false → flag k ≡ true → Probed kx ky s → Probed kx k (to_o Probe s)
probe_o_probed kx ky k s f g h = record {
  own = λ e. unmoved _ _ _ _ (no_ack_more (o_ended s.o) s.cut_o s.in_o (count is_probe s.in_t)) (h.own e);
  peer = λ e. probe_more_o (flag ky) (flag k) (o_ended s.o) s.cut_o s.cut_t s.in_o (count is_ack s.in_t) f g (h.peer e);
}

-- an item is read that is neither a Probe nor an Ack
pub read_t_probed : (kx ky : LinkState) (s : Sock) (item : Item) (w : List Item) → is_probe item ≡ false → is_ack item ≡ false → item ∷ w ≡ s.in_t → Probed kx ky s → Probed kx ky (record s { in_t = w })
read_t_probed kx ky s item w no_probe no_ack first h =
    let a : count is_probe s.in_t ≡ bit (is_probe item) + count is_probe w = ap (count is_probe) (sym first) in
    let b : count is_ack s.in_t ≡ bit (is_ack item) + count is_ack w = ap (count is_ack) (sym first) in
    record { own = λ e. unmoved _ _ _ _ (same_left (count is_probe w) _ _ _ a no_probe) (h.own e); peer = λ e. unmoved _ _ _ _ (same_right (count is_ack w) _ _ _ b no_ack) (h.peer e) } where
      same_left : (w v n : ℕ) (c : Bool) → v ≡ bit c + w → c ≡ false → w + n ≡ v + n
      same_left w v n c e f = grind arith

      same_right : (w v n : ℕ) (c : Bool) → v ≡ bit c + w → c ≡ false → n + w ≡ n + v
      same_right w v n c e f = grind arith

pub read_o_probed : (kx ky : LinkState) (s : Sock) (item : Item) (w : List Item) → is_probe item ≡ false → is_ack item ≡ false → item ∷ w ≡ s.in_o → Probed kx ky s → Probed kx ky (record s { in_o = w })
read_o_probed kx ky s item w no_probe no_ack first h =
    let a : count is_probe s.in_o ≡ bit (is_probe item) + count is_probe w = ap (count is_probe) (sym first) in
    let b : count is_ack s.in_o ≡ bit (is_ack item) + count is_ack w = ap (count is_ack) (sym first) in
    record { own = λ e. unmoved _ _ _ _ (same_right (count is_ack w) _ _ _ b no_ack) (h.own e); peer = λ e. unmoved _ _ _ _ (same_left (count is_probe w) _ _ _ a no_probe) (h.peer e) } where
      same_left : (w v n : ℕ) (c : Bool) → v ≡ bit c + w → c ≡ false → w + n ≡ v + n
      same_left w v n c e f = grind arith

      same_right : (w v n : ℕ) (c : Bool) → v ≡ bit c + w → c ≡ false → n + w ≡ n + v
      same_right w v n c e f = grind arith

-- an Ack is read
acked : (b c : Bool) (n w v : ℕ) (l : Bool) → v ≡ 1 + w → c ≡ false → Account b (n + v) l → Account c (n + w) l
acked b c n w v l e f h = grind arith

plain_left : (w v n : ℕ) → v ≡ 0 + w → w + n ≡ v + n
plain_left w v n e = omega arith

plain_right : (w v n : ℕ) → v ≡ 0 + w → n + w ≡ n + v
plain_right w v n e = omega arith

pub ack_t_probed : (kx ky k : LinkState) (s : Sock) (w : List Item) → flag k ≡ false → Ack ∷ w ≡ s.in_t → Probed kx ky s → Probed kx k (record s { in_t = w })
ack_t_probed kx ky k s w f first h = record {
  own = λ e. unmoved _ _ _ _ (plain_left (count is_probe w) _ _ (ap (count is_probe) (sym first))) (h.own e);
  peer = λ e. acked (flag ky) (flag k) (count is_probe s.in_o) (count is_ack w) (count is_ack s.in_t) _ (ap (count is_ack) (sym first)) f (h.peer e);
}

pub ack_o_probed : (kx ky k : LinkState) (s : Sock) (w : List Item) → flag k ≡ false → Ack ∷ w ≡ s.in_o → Probed kx ky s → Probed k ky (record s { in_o = w })
ack_o_probed kx ky k s w f first h = record {
  own = λ e. acked (flag kx) (flag k) (count is_probe s.in_t) (count is_ack w) (count is_ack s.in_o) _ (ap (count is_ack) (sym first)) f (h.own e);
  peer = λ e. unmoved _ _ _ _ (plain_left (count is_probe w) _ _ (ap (count is_probe) (sym first))) (h.peer e);
}

-- a Probe is read, and answered
up_stays_o : (o : OEnd) → o ≡ OUp → o_ended o ≡ false
up_stays_o o h = grind arith

up_stays_t : (t : TEnd) → t ≡ TUp → t_ended t ≡ false
up_stays_t t h = grind arith

-- an Ack in the place of the Probe
turned : (b ended cut : Bool) (w v n m k : ℕ) (l : Bool) → ended ≡ false → v ≡ 1 + w → m ≡ n + cond (ended || cut) 0 1 → (cut ≡ true → l ≡ true) → Account b (v + n) l → Account b (w + m) l
turned b ended cut w v n m k l up e f g h = grind arith

pub turned_t_probed : (kx ky : LinkState) (s : Sock) (w : List Item) → Probe ∷ w ≡ s.in_t → Probed kx ky s → Probed kx ky (to_o Ack (record s { in_t = w }))
turned_t_probed kx ky s w first h = record {
  own = λ e. turned _ (o_ended s.o) s.cut_o (count is_probe w) (count is_probe s.in_t) (count is_ack s.in_o) _ 0 _ (up_stays_o s.o e) (ap (count is_probe) (sym first)) (wrote is_ack (o_ended s.o) s.cut_o Ack s.in_o)
      (or_second (t_ended s.t) s.cut_o s.cut_t) (h.own e);
  peer = λ e. unmoved _ _ _ _ (same_sum _ _ _ _ (o_ended s.o || s.cut_o) (wrote is_probe (o_ended s.o) s.cut_o Ack s.in_o) (ap (count is_ack) (sym first))) (h.peer e);
} where
  same_sum : (a b c d : ℕ) (l : Bool) → a ≡ b + cond l 0 0 → d ≡ 0 + c → a + c ≡ b + d
  same_sum a b c d l e f = grind arith

pub turned_o_probed : (kx ky : LinkState) (s : Sock) (w : List Item) → Probe ∷ w ≡ s.in_o → Probed kx ky s → Probed kx ky (to_t Ack (record s { in_o = w }))
turned_o_probed kx ky s w first h = record {
  own = λ e. unmoved _ _ _ _ (same_sum _ _ _ _ (t_ended s.t || s.cut_t) (wrote is_probe (t_ended s.t) s.cut_t Ack s.in_t) (ap (count is_ack) (sym first))) (h.own e);
  peer = λ e. turned _ (t_ended s.t) s.cut_t (count is_probe w) (count is_probe s.in_o) (count is_ack s.in_t) _ 0 _ (up_stays_t s.t e) (ap (count is_probe) (sym first)) (wrote is_ack (t_ended s.t) s.cut_t Ack s.in_t)
      (or_third (o_ended s.o) s.cut_o s.cut_t) (h.peer e);
} where
  same_sum : (a b c d : ℕ) (l : Bool) → a ≡ b + cond l 0 0 → d ≡ 0 + c → a + c ≡ b + d
  same_sum a b c d l e f = grind arith

-- the opener comes up
frames_no_ack : (d : Bool) (w : List Item) → Frames false d w → count is_ack w ≡ 0
frames_no_ack d [] h = refl
frames_no_ack d (Data ∷ w) h = let e = frames_no_ack d w h in omega arith
frames_no_ack d (Probe ∷ w) h = let e = frames_no_ack d w h in omega arith
frames_no_ack d (Ack ∷ w) (is, h) = absurd (cc)
frames_no_ack d (EndClosed ∷ w) (is, h) = ap (λ (v : List Item). 0 + count is_ack v) h
frames_no_ack d (Request ∷ w) h = absurd h
frames_no_ack d (Accepted ∷ w) h = absurd h
frames_no_ack d (Crossed ∷ w) h = absurd h
frames_no_ack d (Invalid ∷ w) h = absurd h

raised_no_ack : (t : TEnd) (down cut : Bool) (w : List Item) → UnlessCut cut (Accepted ∷ w) (In_o OAsking t down (Accepted ∷ w)) → count is_ack w ≡ 0
raised_no_ack t down cut w h = grind (arith, frames_no_ack)

raised_no_probe : (t : TEnd) (down cut : Bool) (w : List Item) → (t ≡ TUp) ⊎ (t ≡ TEnded) → UnlessCut cut w (In_t OAsking t down w) → count is_probe w ≡ 0
raised_no_probe t down cut w is h = grind arith

nothing : (b : Bool) (n m : ℕ) (l : Bool) → n ≡ 0 → m ≡ 0 → b ≡ false → Account b (n + m) l
nothing b n m l e f g = grind arith

raised_peer : (b : Bool) (a v w c : ℕ) (l k : Bool) → v ≡ 0 + w → l ≡ k → Account b (v + c) l → Account b (w + c) k
raised_peer b a v w c l k e f h = grind arith

module _ (a b : Bool) (kx k ky : LinkState) (s : Sock) (w : List Item) (f : flag k ≡ false) (is : OAsking ≡ s.o) (first : Accepted ∷ w ≡ s.in_o) (ws : Words a b s) where
  raised_read : UnlessCut s.cut_o (Accepted ∷ w) (In_o OAsking s.t b (Accepted ∷ w))
  raised_read = subst (λ (o : OEnd). UnlessCut s.cut_o (Accepted ∷ w) (In_o o s.t b (Accepted ∷ w))) (sym is) (subst (λ (v : List Item). UnlessCut s.cut_o v (In_o s.o s.t b v)) (sym first) ws.word_o)

  raised_other : UnlessCut s.cut_t s.in_t (In_t OAsking s.t a s.in_t)
  raised_other = subst (λ (o : OEnd). UnlessCut s.cut_t s.in_t (In_t o s.t a s.in_t)) (sym is) ws.word_t

  pub raised_probed : Probed kx ky s → Probed k ky (record s { o = OUp; in_o = w })
  raised_probed h = record {
    own = λ e. nothing (flag k) (count is_probe s.in_t) (count is_ack w) _ (raised_no_probe s.t a s.cut_t s.in_t (raised_phase s.t b s.cut_o w raised_read) raised_other) (raised_no_ack s.t b s.cut_o w raised_read) f;
    peer = λ e. raised_peer (flag ky) 0 (count is_probe s.in_o) (count is_probe w) (count is_ack s.in_t) (o_ended s.o || s.cut_o || s.cut_t) (s.cut_o || s.cut_t) (ap (count is_probe) (sym first))
        (ap (λ (o : OEnd). o_ended o || s.cut_o || s.cut_t) (sym is)) (h.peer e);
  }

no_up : (o : OEnd) → (o ≡ OAsking) ⊎ (o ≡ OEnded) → o ≡ OUp → ⊥
no_up o h e = grind arith

unread : (o : OEnd) (down cut : Bool) (w : List Item) → UnlessCut cut w (In_o o TOpen down w) → (o ≡ OAsking) ⊎ (o ≡ OEnded) → w ≡ []
unread o down cut w h is = grind arith

module _ (a b : Bool) (kx ky k : LinkState) (s : Sock) (w : List Item) (ws : Words a b s) (open_t : TOpen ≡ s.t) (first : Request ∷ w ≡ s.in_t) where
  pub accept_probed : flag k ≡ false → Probed kx k (record (to_o Accepted (record s { in_t = w })) { t = TUp })
  accept_probed f = record {
    own = λ e. absurd (no_up s.o (asker a b s w ws open_t first) e);
    peer = λ e. nothing (flag k) (count is_probe (written (o_ended s.o) s.cut_o Accepted s.in_o)) (count is_ack w) _
        (none _ _ (o_ended s.o || s.cut_o) (wrote is_probe (o_ended s.o) s.cut_o Accepted s.in_o) (ap (count is_probe) (unread s.o b s.cut_o s.in_o (open_word a b s w ws open_t first) (asker a b s w ws open_t first))))
        (ap (count is_ack) (empty a b s w ws open_t first)) f;
  } where
    none : (n m : ℕ) (l : Bool) → n ≡ m + cond l 0 0 → m ≡ 0 → n ≡ 0
    none n m l e g = grind arith

  pub decline_probed : (item : Item) → Probed kx ky (end_t (to_o item (record s { in_t = w })))
  decline_probed item = record { own = λ e. absurd (no_up s.o (asker a b s w ws open_t first) e); peer = λ e. absurd (cc) }

no_up_pending : (t : TEnd) → Phase OPending t → t ≡ TUp → ⊥
no_up_pending t h e = grind arith

no_up_came : (o : OEnd) → Phase o TPending → o ≡ OUp → ⊥
no_up_came o h e = grind arith

pub join_probed : (a b : Bool) (kx ky : LinkState) (s : Sock) → OPending ≡ s.o → Words a b s → Probed kx ky (to_t Request (record s { o = OAsking }))
join_probed a b kx ky s is ws = record { own = λ e. absurd (cc); peer = λ e. absurd (no_up_pending s.t (subst (λ (o : OEnd). Phase o s.t) (sym is) ws.phase) e) }

pub come_probed : (a b : Bool) (kx ky : LinkState) (s : Sock) → TPending ≡ s.t → Words a b s → Probed kx ky (record s { t = TOpen })
come_probed a b kx ky s is ws = record { own = λ e. absurd (no_up_came s.o (subst (λ (t : TEnd). Phase s.o t) (sym is) ws.phase) e); peer = λ e. absurd (cc) }

pub fresh_probed : (kx ky : LinkState) (x : Side) → Probed kx ky (fresh x)
fresh_probed kx ky x = record { own = λ e. absurd (cc); peer = λ e. absurd (cc) }

pub dead_probed : (kx ky : LinkState) → Probed kx ky dead
dead_probed kx ky = record { own = λ e. absurd (cc); peer = λ e. absurd (cc) }
