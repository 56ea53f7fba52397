-- Each move keeps what is quiet, and breaks nothing.
use Rattle.std.proofs.Common.{◌≡◌, ◌⊎◌, inl, inr, ℕ, nat_eq, Bool, true, false, cond, not, ◌||◌, List, [], ◌∷◌, refl, ap, sym, ◌∙◌, subst, arith}
use Rattle.std.proofs.lemmas.Bool.Decides.{nat_tests}
use Rattle.ch_link.specs.declared.LinkState.{LinkState}
use Rattle.ch_link.specs.declared.LinkState.TheVariants.{Idle, Dialing, AwaitOther, Up}
use Rattle.ch_race.specs.Pair.{Side, Lesser, Greater, other, same, OEnd, OPending, OAsking, OUp, OEnded, TEnd, TPending, TOpen, TUp, TEnded, Item, Request, Accepted, Crossed, Invalid, EndClosed, Probe, Ack, Data, Sock, Pair, start, put, point, to_o, to_t, end_o, end_t, end_of, says, fresh, written, o_ended, t_ended}
use Rattle.ch_link.specs.Sockets.{names}
use Rattle.ch_race.specs.Moves.{Move, shutting, Want, Join, Come, Read_o, Read_t, End_o, End_t, Refuse, Lose_o, Lose_t, Cut_o, Cut_t, Late, Timer, Shut, Say, Settled, Allowed, say, troubled, IsOpen_o, IsOpen_t}
use Rattle.ch_race.proofs.Opened.{let_go, fail, gone_o, gone_t, accept, decline, probe, answer, request, read_t, read_o, shut_down, opened}
use Rattle.ch_race.specs.Naming.{Not, Asks, IsUp, role, role_o, role_t, Naming}
use Rattle.ch_race.specs.Words.{Worded, In_o, In_t, UnlessCut, Phase}
use Rattle.ch_race.specs.Probes.{Probing}
use Rattle.ch_race.specs.Quiet.{IsAsked, OpenDial, UpByGreater, Fits, Whole_o, Whole_t, QuietSock, Dialed, Joined, Quiet, Quieted, Breaks_o, Breaks_t}
use Rattle.ch_race.proofs.Frame.{by_test, same_number, put_here, put_there}
use Rattle.ch_race.proofs.Names.{decline_keeps, keeps, start_named, named_not, dead_unnamed}
use Rattle.ch_race.proofs.WordMoves.{IsUpOf, Opener_up, Target_up, up_of, says_own, says_peer, words_kept, start_worded}
use Rattle.ch_race.proofs.ProbeMoves.{probes_kept, start_probing}
use Rattle.ch_race.proofs.Still.{quiescent, settled_quiet, no_timer}
use Rattle.ch_race.specs.Invariant.{Invariant}
use Rattle.ch_race.specs.Quiet.{NoBreak, Licensed}
use Rattle.ch_race.specs.Rest.{WhenStill}
use Rattle.ch_race.proofs.Words.{asker, open_word}
use Rattle.ch_race.proofs.Facts.{asking_link, up_link, role_dialing, role_up, dialer, fits_map, quiet_frame, dial_put, joined_put, dial_point, joined_point, await_point, quiet_put, quiet_words, quiet_flag, joined_tells, dialed_tells, stale_named, up_not_left}

-- a node dials
want_quiet : (p : Pair) (x : Side) (i : ℕ) → Naming p → Quiet p → p.link x ≡ Idle → (p.sock i).o ≡ OEnded → (p.sock i).t ≡ TEnded → Quiet (point x (Dialing i) (put i (fresh x) p))
want_quiet p x i n h idle o t = quiet_frame p (point x (Dialing i) (put i (fresh x) p)) i h (λ z. refl) (λ j e. put_there i j (fresh x) p e) (λ j e a b c. dialed) joined
    (subst (QuietSock (Dialed (point x (Dialing i) (put i (fresh x) p))) (Joined (point x (Dialing i) (put i (fresh x) p)))) (sym (put_here i (fresh x) p)) (record { whole_o = refl; whole_t = refl; fits = tt }))
    (λ z e. let old : p.link z ≡ AwaitOther = await_point x z (Dialing i) p (λ g. cc) e in ((h.awaits z old).0, dialed (h.awaits z old).1)) where
      f : ℕ → Sock
      f = (put i (fresh x) p).sock

      dialed : Dialed p → Dialed (point x (Dialing i) (put i (fresh x) p))
      dialed d = dial_point x (Dialing i) p (put i (fresh x) p).sock (λ g od. absurd (subst (λ (k : LinkState). OpenDial k (put i (fresh x) p).sock) (ap p.link (sym g) ∙ idle) od)) (dial_put (p.link Greater) p i (fresh x) (λ e a. tt) d)

      up_there : (b : Bool) → p.link Lesser ≡ Up i b → Not ≡ IsUp
      up_there b e = dead_unnamed p i Lesser n o t ∙ ap (λ (l : LinkState). role l i) e ∙ role_up i b

      joined : Joined p → Joined (point x (Dialing i) (put i (fresh x) p))
      joined j = joined_point x (Dialing i) p (put i (fresh x) p).sock (λ g od. absurd (subst (λ (k : LinkState). UpByGreater k (put i (fresh x) p).sock) (ap p.link (sym g) ∙ idle) od))
          (joined_put (p.link Lesser) p i (fresh x) (λ b e g. absurd (clash (up_there b e))) j) where
            clash : Not ≡ IsUp → ⊥
            clash e = cc

-- the opener joins
join_fits : (D U E V : Type 0) (x : Side) (w : List Item) (t : TEnd) → Fits D U x w OPending t → Fits E V x w OAsking t
join_fits D U E V x w TPending h = tt
join_fits D U E V x w TOpen h = tt
join_fits D U E V x w TUp h = tt
join_fits D U E V x w TEnded h = absurd h

join_quiet : (p : Pair) (i : ℕ) → Quiet p → OPending ≡ (p.sock i).o → Quiet (put i (to_t Request (record (p.sock i) { o = OAsking })) p)
join_quiet p i h is = quiet_put p i (to_t Request (record (p.sock i) { o = OAsking })) h refl (λ e a. a) (λ d j. record {
  whole_o = subst (λ (o : OEnd). Whole_o o (p.sock i).cut_o) (sym is) (h.socks i).whole_o;
  whole_t = (h.socks i).whole_t;
  fits = join_fits (Dialed p) (Joined p) (Dialed (put i (to_t Request (record (p.sock i) { o = OAsking })) p)) (Joined (put i (to_t Request (record (p.sock i) { o = OAsking })) p)) (p.sock i).opener (p.sock i).in_o (p.sock i).t (subst (λ (o : OEnd). Fits (Dialed p) (Joined p) (p.sock i).opener (p.sock i).in_o o (p.sock i).t) (sym is) (h.socks i).fits);
})

come_fits : (D U E V : Type 0) (x : Side) (w : List Item) (o : OEnd) → (U → V) → Fits D U x w o TPending → Fits E V x w o TOpen
come_fits D U E V x w OPending f h = tt
come_fits D U E V x w OAsking f h = tt
come_fits D U E V x w OUp f h = tt
come_fits D U E V x w OEnded f (a, b) = (a, f b)

come_quiet : (p : Pair) (i : ℕ) → Quiet p → TPending ≡ (p.sock i).t → Quiet (put i (record (p.sock i) { t = TOpen }) p)
come_quiet p i h is = quiet_put p i (record (p.sock i) { t = TOpen }) h refl (λ e a. tt) (λ d j. record {
  whole_o = (h.socks i).whole_o;
  whole_t = subst (λ (t : TEnd). Whole_t t (p.sock i).cut_t) (sym is) (h.socks i).whole_t;
  fits = come_fits (Dialed p) (Joined p) (Dialed (put i (record (p.sock i) { t = TOpen }) p)) (Joined (put i (record (p.sock i) { t = TOpen }) p)) (p.sock i).opener (p.sock i).in_o (p.sock i).o j (subst (λ (t : TEnd). Fits (Dialed p) (Joined p) (p.sock i).opener (p.sock i).in_o (p.sock i).o t) (sym is) (h.socks i).fits);
})

-- the opener's end ends where the target's has
left_fits : (D U : Type 0) (x : Side) (w : List Item) (t : TEnd) → TEnded ≡ t → Fits D U x w OEnded t
left_fits D U x w TEnded e = tt
left_fits D U x w TPending e = absurd (cc)
left_fits D U x w TOpen e = absurd (cc)
left_fits D U x w TUp e = absurd (cc)

-- the opener reads an answer or a frame
raised_fits : (D U : Type 0) (x : Side) (w : List Item) (t : TEnd) → TUp ≡ t → Fits D U x w OUp t
raised_fits D U x w TUp e = tt
raised_fits D U x w TEnded e = absurd (cc)
raised_fits D U x w TPending e = tt
raised_fits D U x w TOpen e = tt

module _ (p : Pair) (i : ℕ) (n : Naming p) (ws : Worded p) (h : Quiet p) where
  asked_link : OAsking ≡ (p.sock i).o → p.link (p.sock i).opener ≡ Dialing i
  asked_link is = asking_link _ i (ap role_o is ∙ (n i).own)

  -- an accepted socket is no open dial
  accepted_up : (w : List Item) → OAsking ≡ (p.sock i).o → Accepted ∷ w ≡ (p.sock i).in_o → TUp ≡ (p.sock i).t
  accepted_up w is first = up_of_accepted (p.sock i).o (p.sock i).t _ (p.sock i).cut_o (p.sock i).in_o w (Dialed p) (Joined p) (p.sock i).opener is first (ws i).word_o (h.socks i).fits where
    up_of_accepted : (o : OEnd) (t : TEnd) (b cut : Bool) (v w : List Item) (D U : Type 0) (x : Side) → OAsking ≡ o → Accepted ∷ w ≡ v → UnlessCut cut v (In_o o t b v) → Fits D U x v o t → TUp ≡ t
    up_of_accepted OAsking TUp b cut v w D U x is e a f = refl
    up_of_accepted OAsking TEnded b cut v w D U x is e a (f, g, k) = absurd (cc)
    up_of_accepted OAsking TPending b true v w D U x is e a f = absurd (cc)
    up_of_accepted OAsking TPending b false v w D U x is e a f = absurd (cc)
    up_of_accepted OAsking TOpen b true v w D U x is e a f = absurd (cc)
    up_of_accepted OAsking TOpen b false v w D U x is e a f = absurd (cc)
    up_of_accepted OPending t b cut v w D U x is e a f = absurd (cc)
    up_of_accepted OUp t b cut v w D U x is e a f = absurd (cc)
    up_of_accepted OEnded t b cut v w D U x is e a f = absurd (cc)

  pub raised_quiet : (w : List Item) → OAsking ≡ (p.sock i).o → Accepted ∷ w ≡ (p.sock i).in_o → Quiet (point (p.sock i).opener (Up i false) (put i (record (p.sock i) { o = OUp; in_o = w }) p))
  raised_quiet w is first = quiet_frame p q i h (λ z. refl) (λ j e. put_there i j s p e) (λ j e a b c. dialed) joined
      (subst (QuietSock (Dialed q) (Joined q)) (sym (put_here i s p)) (record {
        whole_o = subst (λ (o : OEnd). Whole_o o (p.sock i).cut_o) (sym is) (h.socks i).whole_o;
        whole_t = (h.socks i).whole_t;
        fits = raised_fits (Dialed q) (Joined q) (p.sock i).opener w (p.sock i).t up;
      }))
      (λ z e. let old : p.link z ≡ AwaitOther = await_point (p.sock i).opener z (Up i false) p (λ g. cc) e in ((h.awaits z old).0, dialed (h.awaits z old).1)) where
        s : Sock
        s = record (p.sock i) { o = OUp; in_o = w }

        q : Pair
        q = point (p.sock i).opener (Up i false) (put i (record (p.sock i) { o = OUp; in_o = w }) p)

        up : TUp ≡ (p.sock i).t
        up = accepted_up w is first

        dialed : Dialed p → Dialed (point (p.sock i).opener (Up i false) (put i (record (p.sock i) { o = OUp; in_o = w }) p))
        dialed d = dial_point (p.sock i).opener (Up i false) p (put i (record (p.sock i) { o = OUp; in_o = w }) p).sock
            (λ g od. absurd (subst IsAsked (sym up) (subst (λ (k : LinkState). OpenDial k p.sock) (ap p.link (sym g) ∙ asked_link is) d)))
            (dial_put (p.link Greater) p i (record (p.sock i) { o = OUp; in_o = w }) (λ e a. a) d)

        joined : Joined p → Joined (point (p.sock i).opener (Up i false) (put i (record (p.sock i) { o = OUp; in_o = w }) p))
        joined j = joined_point (p.sock i).opener (Up i false) p (put i (record (p.sock i) { o = OUp; in_o = w }) p).sock
            (λ g od. absurd (subst (λ (k : LinkState). UpByGreater k p.sock) (ap p.link (sym g) ∙ asked_link is) j))
            (joined_put (p.link Lesser) p i (record (p.sock i) { o = OUp; in_o = w }) (λ b e g. g) j)

  -- the opener is crossed
  crossed_tells : (w : List Item) → OAsking ≡ (p.sock i).o → Crossed ∷ w ≡ (p.sock i).in_o → (TEnded ≡ (p.sock i).t) × ((p.sock i).opener ≡ Lesser) × Dialed p
  crossed_tells w is first = ended (p.sock i).o (p.sock i).t _ (p.sock i).cut_o (p.sock i).in_o w (Dialed p) (Joined p) (p.sock i).opener is first (ws i).word_o (h.socks i).fits where
    ended : (o : OEnd) (t : TEnd) (b cut : Bool) (v w : List Item) (D U : Type 0) (x : Side) → OAsking ≡ o → Crossed ∷ w ≡ v → UnlessCut cut v (In_o o t b v) → Fits D U x v o t → (TEnded ≡ t) × (x ≡ Lesser) × D
    ended OAsking TEnded b cut v w D U x is e a (f, g, k) = (refl, f, k)
    ended OAsking TUp b true v w D U x is e a f = absurd (cc)
    ended OAsking TUp b false v w D U x is e a f = absurd (begins v w e a) where
      begins : (v w : List Item) → Crossed ∷ w ≡ v → In_o OAsking TUp b v → ⊥
      begins v w e a = grind arith
    ended OAsking TPending b true v w D U x is e a f = absurd (cc)
    ended OAsking TPending b false v w D U x is e a f = absurd (cc)
    ended OAsking TOpen b true v w D U x is e a f = absurd (cc)
    ended OAsking TOpen b false v w D U x is e a f = absurd (cc)
    ended OPending t b cut v w D U x is e a f = absurd (cc)
    ended OUp t b cut v w D U x is e a f = absurd (cc)
    ended OEnded t b cut v w D U x is e a f = absurd (cc)

  crossed_quiet : (w : List Item) → OAsking ≡ (p.sock i).o → Crossed ∷ w ≡ (p.sock i).in_o → Quiet (point (p.sock i).opener AwaitOther (put i (end_o (p.sock i)) p))
  crossed_quiet w is first = quiet_frame p q i h (λ z. refl) (λ j e. put_there i j (end_o (p.sock i)) p e) (λ j e a b c d. dialed) joined
      (subst (QuietSock (Dialed q) (Joined q)) (sym (put_here i (end_o (p.sock i)) p)) (record { whole_o = tt; whole_t = (h.socks i).whole_t; fits = left_fits (Dialed q) (Joined q) (p.sock i).opener [] (p.sock i).t tells.0 }))
      (λ z e. (waits z (subst (λ (x : Side). (point x AwaitOther p).link z ≡ AwaitOther) tells.1 e), dialed)) where
        q : Pair
        q = point (p.sock i).opener AwaitOther (put i (end_o (p.sock i)) p)

        tells : (TEnded ≡ (p.sock i).t) × ((p.sock i).opener ≡ Lesser) × Dialed p
        tells = crossed_tells w is first

        dialed : Dialed (point (p.sock i).opener AwaitOther (put i (end_o (p.sock i)) p))
        dialed = dial_point (p.sock i).opener AwaitOther p (put i (end_o (p.sock i)) p).sock (λ g od. absurd (l_not_g (sym tells.1 ∙ g))) (dial_put (p.link Greater) p i (end_o (p.sock i)) (λ e a. a) tells.2) where
          l_not_g : Lesser ≡ Greater → ⊥
          l_not_g e = cc

        joined : Joined p → Joined (point (p.sock i).opener AwaitOther (put i (end_o (p.sock i)) p))
        joined j = absurd (subst (λ (k : LinkState). UpByGreater k p.sock) (ap p.link (sym tells.1) ∙ asked_link is) j)

        waits : (z : Side) → (point Lesser AwaitOther p).link z ≡ AwaitOther → z ≡ Lesser
        waits Lesser e = refl
        waits Greater e = (h.awaits Greater e).0

  -- no break
  pub no_break_o : Breaks_o (p.sock i).o (p.sock i).in_o → ⊥
  no_break_o b = clash (p.sock i).o (p.sock i).t (p.shut (other (p.sock i).opener)) (p.sock i).cut_o (p.sock i).in_o b (h.running (other (p.sock i).opener)) (ws i).word_o (ws i).phase where
    clash : (o : OEnd) (t : TEnd) (b cut : Bool) (v : List Item) → Breaks_o o v → b ≡ false → UnlessCut cut v (In_o o t b v) → Phase o t → ⊥
    clash o t b cut v f e a ph = grind arith

  pub no_break_t : Breaks_t (p.sock i).t (p.sock i).in_t → ⊥
  no_break_t b = clash (p.sock i).o (p.sock i).t (p.shut (p.sock i).opener) (p.sock i).cut_t (p.sock i).in_t b (h.running (p.sock i).opener) (ws i).word_t (ws i).phase where
    clash : (o : OEnd) (t : TEnd) (b cut : Bool) (v : List Item) → Breaks_t t v → b ≡ false → UnlessCut cut v (In_t o t b v) → Phase o t → ⊥
    clash o t b cut v f e a ph = grind arith

-- requests
up_fits : (D U : Type 0) (x : Side) (w : List Item) (o : OEnd) → o ≡ OAsking → Fits D U x w o TUp
up_fits D U x w OAsking e = tt
up_fits D U x w OPending e = tt
up_fits D U x w OUp e = tt
up_fits D U x w OEnded e = absurd (cc)

whole_open_o : (o : OEnd) (cut : Bool) → o ≡ OAsking → Whole_o o cut → cut ≡ false
whole_open_o o cut e h = grind arith

asker_role : (o : OEnd) → o ≡ OAsking → Asks ≡ role_o o
asker_role o e = ap role_o (sym e)

-- a request of Lesser that Greater crosses
crossed_fits : (D U : Type 0) (x : Side) (w : List Item) (o : OEnd) → (o ≡ OAsking) ⊎ (o ≡ OEnded) → (o ≡ OAsking → (x ≡ Lesser) × (w ≡ Crossed ∷ []) × D) → Fits D U x w o TEnded
crossed_fits D U x w OAsking is f = f refl
crossed_fits D U x w OEnded is f = tt
crossed_fits D U x w OPending is f = absurd (clash is) where
  clash : (OPending ≡ OAsking) ⊎ (OPending ≡ OEnded) → ⊥
  clash e = grind arith
crossed_fits D U x w OUp is f = absurd (clash is) where
  clash : (OUp ≡ OAsking) ⊎ (OUp ≡ OEnded) → ⊥
  clash e = grind arith

crossed_word : (o : OEnd) (b cut : Bool) (w : List Item) → o ≡ OAsking → cut ≡ false → UnlessCut cut w (In_o o TOpen b w) → written (o_ended o) cut Crossed w ≡ Crossed ∷ []
crossed_word o b cut w e f h = grind arith

peer_of_l : (y : Side) → y ≡ Lesser → other y ≡ Greater
peer_of_l y e = ap other e

sides_meet : (x : Side) → Lesser ≡ other x → x ≡ Greater
sides_meet Lesser e = absurd (cc)
sides_meet Greater e = refl

sides_meet_l : (x : Side) → Greater ≡ other x → x ≡ Lesser
sides_meet_l Greater e = absurd (cc)
sides_meet_l Lesser e = refl

asks_not : Asks ≡ Not → ⊥
asks_not e = cc

not_up : Not ≡ IsUp → ⊥
not_up e = cc

l_is_g : {A : Type 0} → Lesser ≡ Greater → A
l_is_g e = absurd (clash e) where
  clash : Lesser ≡ Greater → ⊥
  clash f = cc

g_is_l : {A : Type 0} → Greater ≡ Lesser → A
g_is_l e = l_is_g (sym e)

up_waits : {A : Type 0} (u : ℕ) (b : Bool) → Up u b ≡ AwaitOther → A
up_waits u b e = absurd (clash e) where
  clash : Up u b ≡ AwaitOther → ⊥
  clash f = cc

stale_fits : (D U : Type 0) (x : Side) (w : List Item) (t : TEnd) → x ≡ Lesser → U → (TUp ≡ t → ⊥) → Fits D U x w OEnded t
stale_fits D U x w TPending e u f = (e, u)
stale_fits D U x w TOpen e u f = (e, u)
stale_fits D U x w TUp e u f = absurd (f refl)
stale_fits D U x w TEnded e u f = tt

asked_fits : (D U : Type 0) (x : Side) (w : List Item) (o : OEnd) (t : TEnd) → role_o o ≡ Asks → x ≡ Greater → (TUp ≡ t → ⊥) → Fits D U x w o t → IsAsked t
asked_fits D U x w o TPending r e f h = tt
asked_fits D U x w o TOpen r e f h = tt
asked_fits D U x w o TUp r e f h = absurd (f refl)
asked_fits D U x w OPending TEnded r e f h = absurd h
asked_fits D U x w OAsking TEnded r e f (a, b, c) = l_is_g (sym a ∙ e)
asked_fits D U x w OUp TEnded r e f h = absurd (cc)
asked_fits D U x w OEnded TEnded r e f h = absurd (cc)

num_clash : (j d : ℕ) → nat_eq j d ≡ false → j ≡ d → ⊥
num_clash j d e f = grind (arith, nat_tests)

dial_not_up : (k : LinkState) (d i : ℕ) → k ≡ Dialing d → IsUp ≡ role k i → ⊥
dial_not_up k d i e f = clash d i (ap (λ (l : LinkState). role l i) (sym e) ∙ sym f) where
  clash : (d i : ℕ) → cond (nat_eq i d) Asks Not ≡ IsUp → ⊥
  clash d i h = grind (arith, nat_tests)

dial_named_at : (k : LinkState) (d i : ℕ) → k ≡ Dialing d → (role k i ≡ Not → ⊥) → i ≡ d
dial_named_at k d i e f = clash d i (λ g. f (ap (λ (l : LinkState). role l i) e ∙ g)) where
  clash : (d i : ℕ) → (cond (nat_eq i d) Asks Not ≡ Not → ⊥) → i ≡ d
  clash d i h = grind (arith, nat_tests)

same_dial : (k : LinkState) (d j : ℕ) → k ≡ Dialing d → k ≡ Dialing j → j ≡ d
same_dial k d j e f = clash d j (sym e ∙ f) where
  clash : (d j : ℕ) → Dialing d ≡ Dialing j → j ≡ d
  clash d j h = cc

other_other : (x : Side) → other (other x) ≡ x
other_other Lesser = refl
other_other Greater = refl

up_up : (D U : Type 0) (x : Side) (w : List Item) (o : OEnd) (t : TEnd) → OUp ≡ o → Phase o t → Fits D U x w o t → TUp ≡ t
up_up D U x w OUp TUp e ph f = refl
up_up D U x w OUp TEnded e ph f = absurd f
up_up D U x w OUp TPending e ph f = absurd ph
up_up D U x w OUp TOpen e ph f = absurd ph
up_up D U x w OPending t e ph f = absurd (cc)
up_up D U x w OAsking t e ph f = absurd (cc)
up_up D U x w OEnded t e ph f = absurd (cc)

open_up : TOpen ≡ TUp → ⊥
open_up e = cc

asking_ended : OEnded ≡ OAsking → ⊥
asking_ended e = cc

-- a node that is up writes
quiet_said : (p : Pair) (x : Side) (i : ℕ) (item : Item) → IsUpOf (p.sock i) x → Quiet p → Quiet (put i (says x item (p.sock i)) p)
quiet_said p x i item (Opener_up e up) h = subst (λ (z : Side). Quiet (put i (says z item (p.sock i)) p)) (sym e) (subst (λ (z : Sock). Quiet (put i z p)) (says_own (p.sock i) item)
    (quiet_words p i (p.sock i).in_o (written (t_ended (p.sock i).t) (p.sock i).cut_t item (p.sock i).in_t) h (λ a b. refl)))
quiet_said p x i item (Target_up e up) h = subst (λ (z : Side). Quiet (put i (says z item (p.sock i)) p)) (sym e) (subst (λ (z : Sock). Quiet (put i z p)) (says_peer (p.sock i) item)
    (quiet_words p i (written (o_ended (p.sock i).o) (p.sock i).cut_o item (p.sock i).in_o) (p.sock i).in_t h (λ a b. absurd (clash (up ∙ sym b))))) where
      clash : TUp ≡ TEnded → ⊥
      clash f = cc

module _ (i : ℕ) (w : List Item) (p : Pair) (n : Naming p) (ws : Worded p) (h : Quiet p) (is_open : TOpen ≡ (p.sock i).t) (first : Request ∷ w ≡ (p.sock i).in_t) where
  abbrev at : Sock
  at = record (p.sock i) { in_t = w }

  asks : ((p.sock i).o ≡ OAsking) ⊎ ((p.sock i).o ≡ OEnded)
  asks = asker _ _ (p.sock i) w (ws i) is_open first

  abbrev taken : Sock
  taken = record (to_o Accepted (record (p.sock i) { in_t = w })) { t = TUp }

  asking_of : (p.sock i).o ≡ OAsking → p.link (p.sock i).opener ≡ Dialing i
  asking_of e = asking_link _ i (asker_role _ e ∙ (n i).own)

  taken_sock : (q : Pair) → (p.sock i).o ≡ OAsking → QuietSock (Dialed q) (Joined q) (record (to_o Accepted at) { t = TUp })
  taken_sock q e = record {
    whole_o = (h.socks i).whole_o;
    whole_t = subst (λ (t : TEnd). Whole_t t (p.sock i).cut_t) (sym is_open) (h.socks i).whole_t;
    fits = up_fits (Dialed q) (Joined q) (p.sock i).opener (written (o_ended (p.sock i).o) (p.sock i).cut_o Accepted (p.sock i).in_o) (p.sock i).o e;
  }

  -- a free node is asked by a dial that stands
  not_stale : (y : Side) → ((j : ℕ) → role (p.link y) j ≡ Not) → (p.sock i).o ≡ OEnded → ⊥
  not_stale Lesser free e = let st = stale_named p i n h e is_open in not_up (sym (free st.1.0) ∙ ap (λ (l : LinkState). role l st.1.0) st.1.2 ∙ role_up st.1.0 st.1.1)
  not_stale Greater free e = let st = stale_named p i n h e is_open in st.1.4 (free st.1.0)

  asking : (y : Side) → ((j : ℕ) → role (p.link y) j ≡ Not) → (p.sock i).o ≡ OAsking
  asking y free = by_case asks where
    by_case : ((p.sock i).o ≡ OAsking) ⊎ ((p.sock i).o ≡ OEnded) → (p.sock i).o ≡ OAsking
    by_case a = elim a as (λ s. (p.sock i).o ≡ OAsking) [ inl e ↦ e | inr e ↦ absurd (not_stale y free e) ]

  accept_free : (y : Side) → y ≡ other (p.sock i).opener → ((j : ℕ) → role (p.link y) j ≡ Not) → Quiet (accept y i at p)
  accept_free Lesser is free = quiet_frame p (accept Lesser i at p) i h (λ z. refl) (λ j e. put_there i j taken p e)
      (λ j e a b c d. absurd (asks_not (ap role_o a ∙ (n j).own ∙ ap (λ (z : Side). role (p.link z) j) c ∙ free j)))
      (λ jo. let t = joined_tells (p.link Lesser) p.sock jo in absurd (not_up (sym (free t.0) ∙ ap (λ (l : LinkState). role l t.0) t.2 ∙ role_up t.0 t.1)))
      (subst (QuietSock (Dialed (accept Lesser i at p)) (Joined (accept Lesser i at p))) (sym (put_here i taken p)) (taken_sock (accept Lesser i at p) (asking Lesser free)))
      waits where
        waits : (z : Side) → (accept Lesser i at p).link z ≡ AwaitOther → (z ≡ Lesser) × Dialed (accept Lesser i at p)
        waits Lesser e = up_waits i false e
        waits Greater e = g_is_l (h.awaits Greater e).0
  accept_free Greater is free = quiet_frame p (accept Greater i at p) i h (λ z. refl) (λ j e. put_there i j taken p e)
      (λ j e a b c d. nobody d) (λ jo. joined_put (p.link Lesser) p i taken (λ b e g. g) jo)
      (subst (QuietSock (Dialed (accept Greater i at p)) (Joined (accept Greater i at p))) (sym (put_here i taken p)) (taken_sock (accept Greater i at p) (asking Greater free)))
      waits where
        nobody : {A : Type 0} → Dialed p → A
        nobody d = let t = dialed_tells (p.link Greater) p.sock d in absurd (asks_not (sym (role_dialing t.0) ∙ ap (λ (l : LinkState). role l t.0) (sym t.1) ∙ free t.0))

        waits : (z : Side) → (accept Greater i at p).link z ≡ AwaitOther → (z ≡ Lesser) × Dialed (accept Greater i at p)
        waits Lesser e = nobody (h.awaits Lesser e).1
        waits Greater e = up_waits i false e

  -- Lesser leaves its own dial
  module _ (d : ℕ) (is : Lesser ≡ other (p.sock i).opener) (e : p.link Lesser ≡ Dialing d) where
    abbrev left : Pair
    left = let_go Lesser (Dialing d) p

    abbrev gone : Pair
    gone = accept Lesser i at left

    from_g : (p.sock i).opener ≡ Greater
    from_g = sides_meet _ is

    asks_l : (p.sock i).o ≡ OAsking
    asks_l = by_case asks where
      by_case : ((p.sock i).o ≡ OAsking) ⊎ ((p.sock i).o ≡ OEnded) → (p.sock i).o ≡ OAsking
      by_case a = elim a as (λ s. (p.sock i).o ≡ OAsking) [ inl f ↦ f | inr f ↦ l_is_g (sym (stale_named p i n h f is_open).0 ∙ from_g) ]

    g_dials : p.link Greater ≡ Dialing i
    g_dials = ap p.link (sym from_g) ∙ asking_of asks_l

    now_joined : Joined gone
    now_joined = ap (λ (s : Sock). s.opener) (put_here i taken left) ∙ from_g

    own_dial : (Lesser ≡ (p.sock d).opener) × (role_o (p.sock d).o ≡ Asks)
    own_dial = dialer p Lesser d n e

    pub not_taken : TUp ≡ (p.sock d).t → ⊥
    not_taken up = dial_not_up (p.link Greater) i d g_dials (ap role_t up ∙ (n d).peer ∙ ap (λ (z : Side). role (p.link (other z)) d) (sym own_dial.0))

    left_sock : QuietSock (Dialed gone) (Joined gone) (end_of Lesser (p.sock d))
    left_sock = subst (QuietSock (Dialed gone) (Joined gone)) (ap (λ (x : Side). cond (same Lesser x) (end_o (p.sock d)) (end_t (p.sock d))) own_dial.0)
        (record { whole_o = tt; whole_t = (h.socks d).whole_t; fits = stale_fits (Dialed gone) (Joined gone) (p.sock d).opener [] (p.sock d).t (sym own_dial.0) now_joined not_taken })

    third : (j : ℕ) → nat_eq j d ≡ false → QuietSock (Dialed gone) (Joined gone) (p.sock j)
    third j f = record {
      whole_o = (h.socks j).whole_o;
      whole_t = (h.socks j).whole_t;
      fits = fits_map (Dialed p) (Joined p) (Dialed gone) (Joined gone) (p.sock j).opener (p.sock j).in_o (p.sock j).o (p.sock j).t
          (λ a b c dl. absurd (num_clash j d f (same_dial (p.link Lesser) d j e (ap p.link (sym c) ∙ asking_link _ j (ap role_o a ∙ (n j).own))))) (λ jo. now_joined) (h.socks j).fits;
    }

    leave_quiet : Quiet gone
    leave_quiet = record {
      running = h.running;
      socks = λ j. by_test {P = QuietSock (Dialed gone) (Joined gone) (gone.sock j)} (nat_eq j i)
          (λ f. subst (λ (m : ℕ). QuietSock (Dialed gone) (Joined gone) (gone.sock m)) (same_number i j f) (subst (QuietSock (Dialed gone) (Joined gone)) (sym (put_here i taken left)) (taken_sock gone asks_l)))
          (λ f. subst (QuietSock (Dialed gone) (Joined gone)) (sym (put_there i j taken left f))
          (by_test {P = QuietSock (Dialed gone) (Joined gone) (left.sock j)} (nat_eq j d)
          (λ g. subst (λ (m : ℕ). QuietSock (Dialed gone) (Joined gone) (left.sock m)) (same_number d j g) (subst (QuietSock (Dialed gone) (Joined gone)) (sym (put_here d (end_of Lesser (p.sock d)) p)) left_sock))
          (λ g. subst (QuietSock (Dialed gone) (Joined gone)) (sym (put_there d j (end_of Lesser (p.sock d)) p g)) (third j g))));
      awaits = waits;
    } where
      waits : (z : Side) → gone.link z ≡ AwaitOther → (z ≡ Lesser) × Dialed gone
      waits Lesser f = up_waits i false f
      waits Greater f = g_is_l (h.awaits Greater f).0

  -- Greater dials, and crosses
  abbrev declined : Sock
  declined = end_t (to_o Crossed (record (p.sock i) { in_t = w }))

  cross_quiet : (d : ℕ) → Greater ≡ other (p.sock i).opener → p.link Greater ≡ Dialing d → Quiet (decline Crossed i at p)
  cross_quiet d is e = quiet_put p i declined h refl (λ f a. l_is_g (sym from_l ∙ sym (dialer p Greater i n f).0)) (λ dq jq. record {
    whole_o = (h.socks i).whole_o;
    whole_t = tt;
    fits = crossed_fits (Dialed (put i declined p)) (Joined (put i declined p)) (p.sock i).opener (written (o_ended (p.sock i).o) (p.sock i).cut_o Crossed (p.sock i).in_o) (p.sock i).o asks
        (λ a. (from_l, crossed_word (p.sock i).o _ (p.sock i).cut_o (p.sock i).in_o a (whole_open_o (p.sock i).o (p.sock i).cut_o a (h.socks i).whole_o) (open_word _ _ (p.sock i) w (ws i) is_open first), dq (dialed a)));
  }) where
    from_l : (p.sock i).opener ≡ Lesser
    from_l = sides_meet_l _ is

    dialed : (p.sock i).o ≡ OAsking → Dialed p
    dialed a = subst (λ (k : LinkState). OpenDial k p.sock) (sym e) (asked_fits _ _ (p.sock d).opener (p.sock d).in_o (p.sock d).o (p.sock d).t (dialer p Greater d n e).1 (sym (dialer p Greater d n e).0)
        (λ up. dial_not_up (p.link Lesser) i d (ap p.link (sym from_l) ∙ asking_of a) (ap role_t up ∙ (n d).peer ∙ ap (λ (z : Side). role (p.link (other z)) d) (sym (dialer p Greater d n e).0))) (h.socks d).fits)

  -- a fresh dial meets no node that is up
  fresh_meets : (u : ℕ) (b : Bool) → p.link (other (p.sock i).opener) ≡ Up u b → (p.sock i).o ≡ OAsking → ⊥
  fresh_meets u b e a = by_end (up_of p (other (p.sock i).opener) u b n e) where
    x_dials : p.link (p.sock i).opener ≡ Dialing i
    x_dials = asking_of a

    by_end : IsUpOf (p.sock u) (other (p.sock i).opener) → ⊥
    by_end (Opener_up f up) = dial_not_up (p.link (p.sock i).opener) i u x_dials
        (ap role_t (up_up _ _ (p.sock u).opener (p.sock u).in_o (p.sock u).o (p.sock u).t up (ws u).phase (h.socks u).fits) ∙ (n u).peer ∙ ap (λ (z : Side). role (p.link z) u) (ap other (sym f) ∙ other_other _))
    by_end (Target_up f up) = open_up (is_open ∙ ap (λ (m : ℕ). (p.sock m).t) (sym (dial_named_at (p.link (p.sock i).opener) i u x_dials named)) ∙ sym up) where
      back : (p.sock i).opener ≡ (p.sock u).opener
      back = sym (other_other _) ∙ ap other f ∙ other_other _

      named : role (p.link (p.sock i).opener) u ≡ Not → ⊥
      named g = up_not_left _ _ (p.sock u).opener (p.sock u).in_o (p.sock u).o (p.sock u).t up (h.socks u).fits ((n u).own ∙ ap (λ (z : Side). role (p.link z) u) (sym back) ∙ g)

  module _ (u : ℕ) (b : Bool) (e : p.link (other (p.sock i).opener) ≡ Up u b) where
    stale : (p.sock i).o ≡ OEnded
    stale = by_case asks where
      by_case : ((p.sock i).o ≡ OAsking) ⊎ ((p.sock i).o ≡ OEnded) → (p.sock i).o ≡ OEnded
      by_case a = elim a as (λ s. (p.sock i).o ≡ OEnded) [ inl f ↦ absurd (fresh_meets u b e f) | inr f ↦ f ]

    stale_crossed : Quiet (decline Crossed i at p)
    stale_crossed = quiet_put p i declined h refl (λ f a. absurd (asks_not (sym (dialer p Greater i n f).1 ∙ ap role_o stale))) (λ dq jq. record {
      whole_o = (h.socks i).whole_o;
      whole_t = tt;
      fits = crossed_fits (Dialed (put i declined p)) (Joined (put i declined p)) (p.sock i).opener (written (o_ended (p.sock i).o) (p.sock i).cut_o Crossed (p.sock i).in_o) (p.sock i).o asks
          (λ a. absurd (asking_ended (sym stale ∙ a)));
    })

  probe_quiet : (y : Side) (u : ℕ) (b : Bool) → y ≡ other (p.sock i).opener → p.link y ≡ Up u b → Quiet (probe y u b (decline Crossed i at p))
  probe_quiet y u true is e = stale_crossed u true (ap p.link (sym is) ∙ e)
  probe_quiet y u false is e =
      let q : Pair = decline Crossed i at p in
      let nq : Naming q = decline_keeps i at p refl refl is_open n Crossed in
      quiet_flag (put u (says y Probe (q.sock u)) q) y u false true (quiet_said q y u Probe (up_of q y u false nq e) (stale_crossed u false (ap p.link (sym is) ∙ e))) e

  answer_quiet : (y : Side) (k : LinkState) → y ≡ other (p.sock i).opener → p.link y ≡ k → Quiet (answer y k i at p)
  answer_quiet y Idle is e = accept_free y is (λ j. ap (λ (l : LinkState). role l j) e)
  answer_quiet y AwaitOther is e = accept_free y is (λ j. ap (λ (l : LinkState). role l j) e)
  answer_quiet Lesser (Dialing d) is e = leave_quiet d is e
  answer_quiet Greater (Dialing d) is e = cross_quiet d is e
  answer_quiet y (Up u b) is e = probe_quiet y u b is e

  request_quiet : Quiet (request (p.shut (other (p.sock i).opener)) (other (p.sock i).opener) i at p)
  request_quiet = subst (λ (b : Bool). Quiet (request b (other (p.sock i).opener) i at p)) (sym (h.running (other (p.sock i).opener))) (answer_quiet (other (p.sock i).opener) _ refl refl)

-- moves at one socket
read_t_quiet : (e : TEnd) (w : List Item) (p : Pair) (i : ℕ) → Naming p → Worded p → Quiet p → e ≡ (p.sock i).t → w ≡ (p.sock i).in_t → Quiet (read_t e w i (p.sock i) p)
read_t_quiet TOpen (Request ∷ w) p i n ws h a g = request_quiet i w p n ws h a g
read_t_quiet TUp (Data ∷ w) p i n ws h a g = quiet_words p i (p.sock i).in_o w h (λ b c. refl)
read_t_quiet TUp (Probe ∷ w) p i n ws h a g = quiet_words p i (written (o_ended (p.sock i).o) (p.sock i).cut_o Ack (p.sock i).in_o) w h (λ b c. absurd (clash (a ∙ sym c))) where
  clash : TUp ≡ TEnded → ⊥
  clash f = cc
read_t_quiet TUp (Ack ∷ w) p i n ws h a g =
    let u = up_link (p.link (other (p.sock i).opener)) i (ap role_t a ∙ (n i).peer) in
    quiet_flag (put i (record (p.sock i) { in_t = w }) p) (other (p.sock i).opener) i u.0 false (quiet_words p i (p.sock i).in_o w h (λ b c. refl)) u.1
read_t_quiet TUp (EndClosed ∷ w) p i n ws h a g = absurd (no_break_t p i n ws h (subst (λ (t : TEnd). Breaks_t t (p.sock i).in_t) a (subst (Breaks_t TUp) g tt)))
read_t_quiet e w p i n ws h a g = h

read_o_quiet : (e : OEnd) (w : List Item) (p : Pair) (i : ℕ) → Naming p → Worded p → Quiet p → e ≡ (p.sock i).o → w ≡ (p.sock i).in_o → Quiet (read_o e w i (p.sock i) p)
read_o_quiet OAsking (Accepted ∷ w) p i n ws h a g = raised_quiet p i n ws h w a g
read_o_quiet OAsking (Crossed ∷ w) p i n ws h a g = crossed_quiet p i n ws h w a g
read_o_quiet OAsking (Invalid ∷ w) p i n ws h a g = absurd (no_break_o p i n ws h (subst (λ (o : OEnd). Breaks_o o (p.sock i).in_o) a (subst (Breaks_o OAsking) g tt)))
read_o_quiet OUp (Data ∷ w) p i n ws h a g = quiet_words p i w (p.sock i).in_t h (λ b c. absurd (clash (a ∙ sym b))) where
  clash : OUp ≡ OAsking → ⊥
  clash f = cc
read_o_quiet OUp (Probe ∷ w) p i n ws h a g = quiet_words p i w (written (t_ended (p.sock i).t) (p.sock i).cut_t Ack (p.sock i).in_t) h (λ b c. absurd (clash (a ∙ sym b))) where
  clash : OUp ≡ OAsking → ⊥
  clash f = cc
read_o_quiet OUp (Ack ∷ w) p i n ws h a g =
    let u = up_link (p.link (p.sock i).opener) i (ap role_o a ∙ (n i).own) in
    quiet_flag (put i (record (p.sock i) { in_o = w }) p) (p.sock i).opener i u.0 false (quiet_words p i w (p.sock i).in_t h (λ b c. absurd (clash (a ∙ sym b)))) u.1 where
      clash : OUp ≡ OAsking → ⊥
      clash f = cc
read_o_quiet OUp (EndClosed ∷ w) p i n ws h a g = absurd (no_break_o p i n ws h (subst (λ (o : OEnd). Breaks_o o (p.sock i).in_o) a (subst (Breaks_o OUp) g tt)))
read_o_quiet e w p i n ws h a g = h

-- the input of an opener never ends
no_end_o : (D U : Type 0) (x : Side) (o : OEnd) (t : TEnd) (cut : Bool) (w : List Item) → IsOpen_o o → w ≡ [] → (cut ≡ true) ⊎ (t ≡ TEnded) → Whole_o o cut → Fits D U x w o t → ⊥
no_end_o D U x OAsking t cut w op e (inl c) wh f = cc
no_end_o D U x OUp t cut w op e (inl c) wh f = cc
no_end_o D U x OAsking TEnded cut w op e (inr c) wh (a, b, d) = cc
no_end_o D U x OUp TEnded cut w op e (inr c) wh f = f
no_end_o D U x OUp TUp cut w op e (inr c) wh f = cc
no_end_o D U x OUp TOpen cut w op e (inr c) wh f = cc
no_end_o D U x OUp TPending cut w op e (inr c) wh f = cc
no_end_o D U x OAsking TUp cut w op e (inr c) wh f = cc
no_end_o D U x OAsking TOpen cut w op e (inr c) wh f = cc
no_end_o D U x OAsking TPending cut w op e (inr c) wh f = cc
no_end_o D U x OPending t cut w op e c wh f = op
no_end_o D U x OEnded t cut w op e c wh f = op

-- of a target only that of a stale request
end_t_stale : (D U : Type 0) (x : Side) (o : OEnd) (t : TEnd) (cut : Bool) (w : List Item) → IsOpen_t t → (cut ≡ true) ⊎ (o ≡ OEnded) → Whole_t t cut → Fits D U x w o t → (TOpen ≡ t) × (o ≡ OEnded)
end_t_stale D U x o TOpen cut w op (inr c) wh f = (refl, c)
end_t_stale D U x o TOpen cut w op (inl c) wh f = absurd (cc)
end_t_stale D U x o TUp cut w op (inl c) wh f = absurd (cc)
end_t_stale D U x OEnded TUp cut w op (inr c) wh f = absurd f
end_t_stale D U x OPending TUp cut w op (inr c) wh f = absurd (cc)
end_t_stale D U x OAsking TUp cut w op (inr c) wh f = absurd (cc)
end_t_stale D U x OUp TUp cut w op (inr c) wh f = absurd (cc)
end_t_stale D U x o TPending cut w op c wh f = absurd op
end_t_stale D U x o TEnded cut w op c wh f = absurd op

module _ (p : Pair) (i : ℕ) (n : Naming p) (h : Quiet p) where
  pub end_o_never : Allowed (End_o i) p → ⊥
  end_o_never a = no_end_o _ _ (p.sock i).opener (p.sock i).o (p.sock i).t (p.sock i).cut_o (p.sock i).in_o a.0 a.1 a.2 (h.socks i).whole_o (h.socks i).fits

  ends : Allowed (End_t i) p → (TOpen ≡ (p.sock i).t) × ((p.sock i).o ≡ OEnded)
  ends a = end_t_stale _ _ (p.sock i).opener (p.sock i).o (p.sock i).t (p.sock i).cut_t (p.sock i).in_o a.0 a.2 (h.socks i).whole_t (h.socks i).fits

  pub end_t_unnamed : Allowed (End_t i) p → names (p.link (other (p.sock i).opener)) i ≡ true → ⊥
  end_t_unnamed a e = named_not (p.link (other (p.sock i).opener)) i e (sym (ap role_t (ends a).0 ∙ (n i).peer))

  dead_fits : (D U : Type 0) (x : Side) (w : List Item) (o : OEnd) → OEnded ≡ o → Fits D U x w o TEnded
  dead_fits D U x w OEnded e = tt
  dead_fits D U x w OPending e = absurd (cc)
  dead_fits D U x w OAsking e = absurd (cc)
  dead_fits D U x w OUp e = absurd (cc)

  pub end_t_quiet : Allowed (End_t i) p → Quiet (gone_t i p)
  end_t_quiet a = by_name (names (p.link (other (p.sock i).opener)) i) refl where
    by_name : (b : Bool) → names (p.link (other (p.sock i).opener)) i ≡ b → Quiet (cond b (fail (other (p.sock i).opener) p) (put i (end_t (p.sock i)) p))
    by_name true e = absurd (end_t_unnamed a e)
    by_name false e = quiet_put p i (end_t (p.sock i)) h refl (λ f g. absurd (asks_not (sym (dialer p Greater i n f).1 ∙ ap role_o (ends a).1))) (λ d j. record {
      whole_o = (h.socks i).whole_o;
      whole_t = tt;
      fits = dead_fits (Dialed (put i (end_t (p.sock i)) p)) (Joined (put i (end_t (p.sock i)) p)) (p.sock i).opener (p.sock i).in_o (p.sock i).o (sym (ends a).1);
    })

say_quiet : (p : Pair) (x : Side) (k : LinkState) → Naming p → Quiet p → p.link x ≡ k → Quiet (say x k p)
say_quiet p x Idle n h e = h
say_quiet p x AwaitOther n h e = h
say_quiet p x (Dialing i) n h e = h
say_quiet p x (Up i b) n h e = quiet_said p x i Data (up_of p x i b n e) h

-- a troubled pair isn't quiet
pub never : {A : Type 0} → false ≡ true → A
never e = absurd (clash e) where
  clash : false ≡ true → ⊥
  clash f = cc

pub let_go_flag : (x : Side) (k : LinkState) (p : Pair) → (let_go x k p).quiet ≡ p.quiet
let_go_flag x Idle p = refl
let_go_flag x AwaitOther p = refl
let_go_flag x (Dialing i) p = refl
let_go_flag x (Up i b) p = refl

pub gone_o_flag : (i : ℕ) (p : Pair) → (gone_o i p).quiet ≡ p.quiet
gone_o_flag i p = by_name (names (p.link (p.sock i).opener) i) where
  by_name : (b : Bool) → (cond b (fail (p.sock i).opener p) (put i (end_o (p.sock i)) p)).quiet ≡ p.quiet
  by_name true = let_go_flag (p.sock i).opener _ p
  by_name false = refl

pub gone_t_flag : (i : ℕ) (p : Pair) → (gone_t i p).quiet ≡ p.quiet
gone_t_flag i p = by_name (names (p.link (other (p.sock i).opener)) i) where
  by_name : (b : Bool) → (cond b (fail (other (p.sock i).opener) p) (put i (end_t (p.sock i)) p)).quiet ≡ p.quiet
  by_name true = let_go_flag (other (p.sock i).opener) _ p
  by_name false = refl

pub shut_flag : (x : Side) (k : LinkState) (p : Pair) → (shut_down x k p).quiet ≡ p.quiet
shut_flag x Idle p = refl
shut_flag x AwaitOther p = refl
shut_flag x (Dialing i) p = refl
shut_flag x (Up i b) p = refl

-- a move that leaves the flag
probe_flag : (y : Side) (u : ℕ) (b : Bool) (p : Pair) → (probe y u b p).quiet ≡ p.quiet
probe_flag y u true p = refl
probe_flag y u false p = refl

answer_flag : (y : Side) (k : LinkState) (i : ℕ) (s : Sock) (p : Pair) → (answer y k i s p).quiet ≡ p.quiet
answer_flag y Idle i s p = refl
answer_flag y AwaitOther i s p = refl
answer_flag Lesser (Dialing d) i s p = refl
answer_flag Greater (Dialing d) i s p = refl
answer_flag y (Up u b) i s p = probe_flag y u b (decline Crossed i s p)

request_flag : (b : Bool) (y : Side) (i : ℕ) (s : Sock) (p : Pair) → (request b y i s p).quiet ≡ p.quiet
request_flag true y i s p = refl
request_flag false y i s p = answer_flag y (p.link y) i s p

read_t_flag : (e : TEnd) (w : List Item) (i : ℕ) (s : Sock) (p : Pair) → (read_t e w i s p).quiet ≡ p.quiet
read_t_flag TOpen (Request ∷ w) i s p = request_flag _ _ i (record s { in_t = w }) p
read_t_flag TUp (Data ∷ w) i s p = refl
read_t_flag TUp (Probe ∷ w) i s p = refl
read_t_flag TUp (Ack ∷ w) i s p = refl
read_t_flag TUp (EndClosed ∷ w) i s p = let_go_flag (other s.opener) _ p
read_t_flag e w i s p = refl

read_o_flag : (e : OEnd) (w : List Item) (i : ℕ) (s : Sock) (p : Pair) → (read_o e w i s p).quiet ≡ p.quiet
read_o_flag OAsking (Accepted ∷ w) i s p = refl
read_o_flag OAsking (Crossed ∷ w) i s p = refl
read_o_flag OAsking (Invalid ∷ w) i s p = let_go_flag s.opener _ p
read_o_flag OUp (Data ∷ w) i s p = refl
read_o_flag OUp (Probe ∷ w) i s p = refl
read_o_flag OUp (Ack ∷ w) i s p = refl
read_o_flag OUp (EndClosed ∷ w) i s p = let_go_flag s.opener _ p
read_o_flag e w i s p = refl

say_flag : (x : Side) (k : LinkState) (p : Pair) → (say x k p).quiet ≡ p.quiet
say_flag x Idle p = refl
say_flag x AwaitOther p = refl
say_flag x (Dialing i) p = refl
say_flag x (Up i b) p = refl

pub quiet_kept : (m : Move) (p : Pair) → Allowed m p → Naming p → Worded p → Probing p → Quieted p → Quieted (opened m p)
quiet_kept (Want x i) p is n ws pr h on = want_quiet p x i n (h on) is.0 is.2 is.3
quiet_kept (Join i) p is n ws pr h on = join_quiet p i (h on) (sym is)
quiet_kept (Come i) p is n ws pr h on = come_quiet p i (h on) (sym is)
quiet_kept (Read_o i) p is n ws pr h on = read_o_quiet (p.sock i).o (p.sock i).in_o p i n ws (h (sym (read_o_flag (p.sock i).o (p.sock i).in_o i (p.sock i) p) ∙ on)) refl refl
quiet_kept (Read_t i) p is n ws pr h on = read_t_quiet (p.sock i).t (p.sock i).in_t p i n ws (h (sym (read_t_flag (p.sock i).t (p.sock i).in_t i (p.sock i) p) ∙ on)) refl refl
quiet_kept (End_o i) p is n ws pr h on = absurd (end_o_never p i n (h (sym (gone_o_flag i p) ∙ on)) is)
quiet_kept (End_t i) p is n ws pr h on = end_t_quiet p i n (h (sym (gone_t_flag i p) ∙ on)) is
quiet_kept (Refuse i) p is n ws pr h on = never (sym (gone_o_flag i (troubled p)) ∙ on)
quiet_kept (Lose_o i) p is n ws pr h on = never (sym (gone_o_flag i (troubled p)) ∙ on)
quiet_kept (Lose_t i) p is n ws pr h on = never (sym (gone_t_flag i (troubled p)) ∙ on)
quiet_kept (Cut_o i) p is n ws pr h on = never on
quiet_kept (Cut_t i) p is n ws pr h on = never on
quiet_kept (Late x) p is n ws pr h on = never (sym (let_go_flag x (p.link x) (troubled p)) ∙ on)
quiet_kept (Timer x) p is n ws pr h on = absurd (no_timer p n ws pr is.1 x (h (sym (let_go_flag x (p.link x) p) ∙ on)) is.0)
quiet_kept (Shut x) p is n ws pr h on = never (sym (shut_flag x (p.link x) (shutting x p)) ∙ on)
quiet_kept (Say x) p is n ws pr h on = say_quiet p x (p.link x) n (h (sym (say_flag x (p.link x) p) ∙ on)) refl
quiet_kept Settled p is n ws pr h on = settled_quiet p n ws pr is.still is.lesser is.greater on

pub no_break : (p : Pair) → Invariant p → NoBreak p
no_break p v (Read_o i) on is b = no_break_o p i v.named v.words (v.quieted on) b
no_break p v (Read_t i) on is b = no_break_t p i v.named v.words (v.quieted on) b
no_break p v (End_o i) on is b = end_o_never p i v.named (v.quieted on) is
no_break p v (End_t i) on is b = end_t_unnamed p i v.named (v.quieted on) is b
no_break p v (Timer x) on is b = no_timer p v.named v.words v.probes is.1 x (v.quieted on) is.0
no_break p v (Want x i) on is b = b
no_break p v (Join i) on is b = b
no_break p v (Come i) on is b = b
no_break p v (Refuse i) on is b = b
no_break p v (Lose_o i) on is b = b
no_break p v (Lose_t i) on is b = b
no_break p v (Cut_o i) on is b = b
no_break p v (Cut_t i) on is b = b
no_break p v (Late x) on is b = b
no_break p v (Shut x) on is b = b
no_break p v (Say x) on is b = b
no_break p v Settled on is b = b

pub invariant_kept : (m : Move) (p : Pair) → Allowed m p → Invariant p → Invariant (opened m p)
invariant_kept m p is v = record {
  named = keeps m p is v.named;
  words = words_kept m p is v.named v.words;
  probes = probes_kept m p is v.named v.words v.probes;
  quieted = quiet_kept m p is v.named v.words v.probes v.quieted;
}

both_running : (a b : Bool) → not (a || b) ≡ true → (a ≡ false) × (b ≡ false)
both_running a b h = grind arith

running : (away : Side → Bool) → not (away Lesser || away Greater) ≡ true → (x : Side) → away x ≡ false
running away h Lesser = (both_running _ _ h).0
running away h Greater = (both_running _ _ h).1

pub invariant_start : (away : Side → Bool) → Invariant (start away)
invariant_start away = record {
  named = start_named away;
  words = start_worded away;
  probes = start_probing away;
  quieted = λ on. record { running = running away on; socks = λ i. record { whole_o = tt; whole_t = tt; fits = tt }; awaits = λ x e. absurd (clash e) };
} where
  clash : Idle ≡ AwaitOther → ⊥
  clash e = cc

pub when_still : (p : Pair) → Invariant p → WhenStill p
when_still p v still = quiescent p v.named v.words v.probes still

licence_o : (o : OEnd) (t : TEnd) (b cut : Bool) (v : List Item) → Breaks_o o v → UnlessCut cut v (In_o o t b v) → Phase o t → b ≡ true
licence_o o t b cut v f a ph = grind arith

licence_t : (o : OEnd) (t : TEnd) (b cut : Bool) (v : List Item) → Breaks_t t v → UnlessCut cut v (In_t o t b v) → Phase o t → b ≡ true
licence_t o t b cut v f a ph = grind arith

pub licensed : (p : Pair) → Worded p → Licensed p
licensed p ws i = (
  λ b. licence_o (p.sock i).o (p.sock i).t _ (p.sock i).cut_o (p.sock i).in_o b (ws i).word_o (ws i).phase,
  λ b. licence_t (p.sock i).o (p.sock i).t _ (p.sock i).cut_t (p.sock i).in_t b (ws i).word_t (ws i).phase,
)
