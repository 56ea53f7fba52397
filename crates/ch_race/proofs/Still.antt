-- Where nothing is to be done.
use Rattle.std.proofs.Common.{◌≡◌, ℕ, ◌+◌, Bool, true, false, not, ◌||◌, List, [], refl, ap, sym, ◌∙◌, subst, arith}
use Rattle.ch_link.specs.declared.LinkState.{LinkState}
use Rattle.ch_link.specs.declared.LinkState.TheVariants.{Idle, Dialing, AwaitOther, Up}
use Rattle.ch_race.specs.Pair.{Side, Lesser, Greater, other, OEnd, OPending, OAsking, OUp, OEnded, TEnd, TPending, TOpen, TUp, TEnded, Item, Sock, Pair, o_ended, t_ended}
use Rattle.ch_race.specs.Moves.{IsStill, IsTimed, IsOpen_o, IsOpen_t}
use Rattle.ch_race.specs.Naming.{role_o, role_t, Naming}
use Rattle.ch_race.specs.Words.{Words, Worded, In_o, UnlessCut, Phase}
use Rattle.ch_race.specs.Probes.{is_probe, is_ack, count, flag, Account, Probed, Probing}
use Rattle.ch_race.specs.Quiet.{Fits, Whole_o, Whole_t, QuietSock, Dialed, Quiet}
use Rattle.ch_race.specs.Rest.{Quiescent}
use Rattle.ch_race.proofs.WordMoves.{IsUpOf, Opener_up, Target_up, up_of}
use Rattle.ch_race.proofs.Facts.{asking_link, up_link, still_no_dial, dialed_tells}

-- both ends are up, and nothing stands between
record Between (s : Sock) : Type 0 where
  up_o : OUp ≡ s.o
  up_t : TUp ≡ s.t
  bare_o : s.in_o ≡ []
  bare_t : s.in_t ≡ []
  whole_o : s.cut_o ≡ false
  whole_t : s.cut_t ≡ false

abbrev Reads_o : OEnd → TEnd → Bool → List Item → Type 0
Reads_o o t cut w = IsOpen_o o → (w ≡ []) × (cut ≡ false) × (t ≡ TEnded → ⊥)

abbrev Reads_t : OEnd → TEnd → Bool → List Item → Type 0
Reads_t o t cut w = IsOpen_t t → (w ≡ []) × (cut ≡ false) × (o ≡ OEnded → ⊥)

up_t_of : (o : OEnd) (t : TEnd) (co : Bool) (wo : List Item) → OUp ≡ o → Phase o t → Reads_o o t co wo → TUp ≡ t
up_t_of o t co wo e ph r = grind arith

up_o_of : (o : OEnd) (t : TEnd) (b co ct : Bool) (wo wt : List Item) → TUp ≡ t → (o ≡ OPending → ⊥) → Phase o t → UnlessCut co wo (In_o o t b wo) → Reads_o o t co wo → Reads_t o t ct wt → OUp ≡ o
up_o_of OUp t b co ct wo wt e j ph h r q = refl
up_o_of OPending t b co ct wo wt e j ph h r q = absurd (j refl)
up_o_of OAsking t b co ct wo wt e j ph h r q = absurd (asking co b wo t e (r tt).0 (r tt).1 h) where
  asking : (co b : Bool) (wo : List Item) (t : TEnd) → TUp ≡ t → wo ≡ [] → co ≡ false → UnlessCut co wo (In_o OAsking t b wo) → ⊥
  asking co b wo t e f g h = grind arith
up_o_of OEnded t b co ct wo wt e j ph h r q = absurd ((q (subst IsOpen_t e tt)).2 refl)

between_by : (s : Sock) → IsStill s → OUp ≡ s.o → TUp ≡ s.t → Between s
between_by s st a b = record {
  up_o = a;
  up_t = b;
  bare_o = (st.read_o (subst IsOpen_o a tt)).0;
  bare_t = (st.read_t (subst IsOpen_t b tt)).0;
  whole_o = (st.read_o (subst IsOpen_o a tt)).1;
  whole_t = (st.read_t (subst IsOpen_t b tt)).1;
}

between : (a b : Bool) (s : Sock) (x : Side) → Words a b s → IsStill s → IsUpOf s x → Between s
between a b s x w st (Opener_up e up) = between_by s st up (up_t_of s.o s.t s.cut_o s.in_o up w.phase st.read_o)
between a b s x w st (Target_up e up) = between_by s st (up_o_of s.o s.t b s.cut_o s.cut_t s.in_o s.in_t up st.joined w.phase w.word_o st.read_o st.read_t) up

nothing_left : (k : Bool) (n m : ℕ) (l : Bool) → n ≡ 0 → m ≡ 0 → l ≡ false → Account k (n + m) l → k ≡ false
nothing_left k n m l a b c h = grind arith

loose_o : (s : Sock) → Between s → (t_ended s.t || s.cut_o || s.cut_t) ≡ false
loose_o s b = plain s.t s.cut_o s.cut_t b.up_t b.whole_o b.whole_t where
  plain : (t : TEnd) (a b : Bool) → TUp ≡ t → a ≡ false → b ≡ false → (t_ended t || a || b) ≡ false
  plain t a b e f g = grind arith

loose_t : (s : Sock) → Between s → (o_ended s.o || s.cut_o || s.cut_t) ≡ false
loose_t s b = plain s.o s.cut_o s.cut_t b.up_o b.whole_o b.whole_t where
  plain : (o : OEnd) (a b : Bool) → OUp ≡ o → a ≡ false → b ≡ false → (o_ended o || a || b) ≡ false
  plain o a b e f g = grind arith

no_flag_o : (kx ky : LinkState) (s : Sock) → Between s → Probed kx ky s → flag kx ≡ false
no_flag_o kx ky s b h = nothing_left (flag kx) (count is_probe s.in_t) (count is_ack s.in_o) _ (ap (count is_probe) b.bare_t) (ap (count is_ack) b.bare_o) (loose_o s b) (h.own (sym b.up_o))

no_flag_t : (kx ky : LinkState) (s : Sock) → Between s → Probed kx ky s → flag ky ≡ false
no_flag_t kx ky s b h = nothing_left (flag ky) (count is_probe s.in_o) (count is_ack s.in_t) _ (ap (count is_probe) b.bare_o) (ap (count is_ack) b.bare_t) (loose_t s b) (h.peer (sym b.up_t))

flag_off : (k : LinkState) (i : ℕ) (b : Bool) → k ≡ Up i b → flag k ≡ false → k ≡ Up i false
flag_off k i b e f = e ∙ ap (λ (c : Bool). Up i c) (sym (ap flag e) ∙ f)

module _ (p : Pair) (n : Naming p) (ws : Worded p) (pr : Probing p) (still : (i : ℕ) → IsStill (p.sock i)) where
  between_at : (x : Side) (i : ℕ) (b : Bool) → p.link x ≡ Up i b → Between (p.sock i)
  between_at x i b e = between _ _ (p.sock i) x (ws i) (still i) (up_of p x i b n e)

  -- both links of a socket with both ends up
  link_o : (i : ℕ) → Between (p.sock i) → p.link (p.sock i).opener ≡ Up i false
  link_o i b = let u = up_link (p.link (p.sock i).opener) i (ap role_o b.up_o ∙ (n i).own) in flag_off _ i u.0 u.1 (no_flag_o _ _ (p.sock i) b (pr i))

  link_t : (i : ℕ) → Between (p.sock i) → p.link (other (p.sock i).opener) ≡ Up i false
  link_t i b = let u = up_link (p.link (other (p.sock i).opener)) i (ap role_t b.up_t ∙ (n i).peer) in flag_off _ i u.0 u.1 (no_flag_t _ _ (p.sock i) b (pr i))

  link_any : (i : ℕ) → Between (p.sock i) → (x : Side) → p.link x ≡ Up i false
  link_any i b x = by_side (p.sock i).opener x (link_o i b) (link_t i b) where
    by_side : (y x : Side) → p.link y ≡ Up i false → p.link (other y) ≡ Up i false → p.link x ≡ Up i false
    by_side Lesser Lesser f g = f
    by_side Lesser Greater f g = g
    by_side Greater Lesser f g = g
    by_side Greater Greater f g = f

  pub quiescent : Quiescent p
  quiescent = record {
    no_dial = still_no_dial p n ws still;
    no_probe = λ x i e. clash (ap flag (sym e) ∙ ap flag (link_any i (between_at x i true e) x));
    both = λ x i b e. link_any i (between_at x i b e) (other x);
  } where
    clash : true ≡ false → ⊥
    clash e = cc

  -- what is settled is quiet
  settled_fits : (D U : Type 0) (x : Side) (w : List Item) (o : OEnd) (t : TEnd) → (o ≡ OPending → ⊥) → (o ≡ OAsking → ⊥) → (t ≡ TPending → ⊥) → (OUp ≡ o → TEnded ≡ t → ⊥) → (OEnded ≡ o → IsOpen_t t → ⊥) → Fits D U x w o t
  settled_fits D U x w OPending t a b c d e = absurd (a refl)
  settled_fits D U x w OAsking t a b c d e = absurd (b refl)
  settled_fits D U x w OUp TPending a b c d e = tt
  settled_fits D U x w OUp TOpen a b c d e = tt
  settled_fits D U x w OUp TUp a b c d e = tt
  settled_fits D U x w OUp TEnded a b c d e = d refl refl
  settled_fits D U x w OEnded TPending a b c d e = absurd (c refl)
  settled_fits D U x w OEnded TOpen a b c d e = absurd (e refl tt)
  settled_fits D U x w OEnded TUp a b c d e = e refl tt
  settled_fits D U x w OEnded TEnded a b c d e = tt

  settled_whole_o : (o : OEnd) (t : TEnd) (cut : Bool) (w : List Item) → (o ≡ OPending → ⊥) → Reads_o o t cut w → Whole_o o cut
  settled_whole_o OPending t cut w a r = absurd (a refl)
  settled_whole_o OAsking t cut w a r = (r tt).1
  settled_whole_o OUp t cut w a r = (r tt).1
  settled_whole_o OEnded t cut w a r = tt

  settled_whole_t : (o : OEnd) (t : TEnd) (cut : Bool) (w : List Item) → (t ≡ TPending → ⊥) → Reads_t o t cut w → Whole_t t cut
  settled_whole_t o TPending cut w a r = absurd (a refl)
  settled_whole_t o TOpen cut w a r = (r tt).1
  settled_whole_t o TUp cut w a r = (r tt).1
  settled_whole_t o TEnded cut w a r = tt

  no_asking : (i : ℕ) → (p.sock i).o ≡ OAsking → ⊥
  no_asking i e = still_no_dial p n ws still (p.sock i).opener i (asking_link _ i (ap role_o (sym e) ∙ (n i).own))

  settled_sock : (D U : Type 0) (i : ℕ) → QuietSock D U (p.sock i)
  settled_sock D U i = record {
    whole_o = settled_whole_o (p.sock i).o (p.sock i).t (p.sock i).cut_o (p.sock i).in_o (still i).joined (still i).read_o;
    whole_t = settled_whole_t (p.sock i).o (p.sock i).t (p.sock i).cut_t (p.sock i).in_t (still i).came (still i).read_t;
    fits = settled_fits D U (p.sock i).opener (p.sock i).in_o (p.sock i).o (p.sock i).t (still i).joined (no_asking i) (still i).came
        (λ a b. ((still i).read_o (subst IsOpen_o a tt)).2 (sym b)) (λ a b. ((still i).read_t b).2 (sym a));
  }

  both_running : (a b : Bool) → not (a || b) ≡ true → (a ≡ false) × (b ≡ false)
  both_running a b h = grind arith

  pub settled_quiet : (IsTimed (p.link Lesser) → ⊥) → (IsTimed (p.link Greater) → ⊥) → not (p.shut Lesser || p.shut Greater) ≡ true → Quiet (record p { quiet = not (p.shut Lesser || p.shut Greater) })
  settled_quiet l g h = record {
    running = runs_at;
    socks = λ i. settled_sock _ _ i;
    awaits = waits;
  } where
    runs_at : (x : Side) → p.shut x ≡ false
    runs_at Lesser = (both_running _ _ h).0
    runs_at Greater = (both_running _ _ h).1

    waits : (x : Side) → p.link x ≡ AwaitOther → (x ≡ Lesser) × Dialed p
    waits Lesser e = absurd (l (subst IsTimed (sym e) refl))
    waits Greater e = absurd (g (subst IsTimed (sym e) refl))

  -- no timer in a quiet pair
  pub no_timer : (x : Side) → Quiet p → IsTimed (p.link x) → ⊥
  no_timer x h timed = by_link (p.link x) refl timed where
    by_link : (k : LinkState) → p.link x ≡ k → IsTimed k → ⊥
    by_link Idle e t = absurd (never t) where
      never : false ≡ true → ⊥
      never f = cc
    by_link (Dialing i) e t = quiescent.no_dial x i e
    by_link AwaitOther e t = let d = dialed_tells (p.link Greater) p.sock (h.awaits x e).1 in quiescent.no_dial Greater d.0 d.1
    by_link (Up i b) e t = quiescent.no_probe x i (e ∙ ap (λ (c : Bool). Up i c) t)
