-- In a quiet pair no link fails.
use Rattle.std.proofs.Common.{◌≡◌, ℕ, Bool, true, false, cond, List, ◌∷◌, refl, sym, ◌∙◌, subst}
use Rattle.ch_link.specs.Sockets.{names}
use Rattle.ch_link.specs.declared.LinkState.{LinkState}
use Rattle.ch_link.specs.declared.LinkState.TheVariants.{Idle, Dialing, AwaitOther, Up}
use Rattle.ch_race.specs.Pair.{Side, Lesser, Greater, other, OEnd, OAsking, OUp, TEnd, TOpen, TUp, Item, Request, Accepted, Crossed, Invalid, EndClosed, Probe, Ack, Data, Sock, Pair, put, point, end_t}
use Rattle.ch_race.specs.Moves.{Move, Want, Join, Come, Read_o, Read_t, End_o, End_t, Refuse, Lose_o, Lose_t, Cut_o, Cut_t, Late, Timer, Shut, Say, Settled, after, Allowed, say, troubled, shutting}
use Rattle.ch_race.specs.Quiet.{Quiet, Breaks_o, Breaks_t, NoFailure}
use Rattle.ch_race.specs.Invariant.{Invariant}
use Rattle.ch_race.proofs.Opened.{opened, fail, gone_t, answer, request, read_t, read_o}
use Rattle.ch_race.proofs.QuietMoves.{no_break_o, no_break_t, end_o_never, end_t_unnamed, never, gone_o_flag, gone_t_flag, let_go_flag, shut_flag}
use Rattle.ch_race.proofs.Still.{no_timer}
use Rattle.ch_race.proofs.Opens.{opens}

-- a link that becomes no idle one
pointed : (x : Side) (k : LinkState) (p q : Pair) → ((z : Side) → q.link z ≡ p.link z) → (k ≡ Idle → ⊥) → NoFailure p (point x k q)
pointed Lesser k p q same f Lesser e = absurd (f e)
pointed Lesser k p q same f Greater e = sym (same Greater) ∙ e
pointed Greater k p q same f Lesser e = sym (same Lesser) ∙ e
pointed Greater k p q same f Greater e = absurd (f e)

up_not_idle : (u : ℕ) (b : Bool) → Up u b ≡ Idle → ⊥
up_not_idle u b e = cc

dial_not_idle : (d : ℕ) → Dialing d ≡ Idle → ⊥
dial_not_idle d e = cc

await_not_idle : AwaitOther ≡ Idle → ⊥
await_not_idle e = cc

answer_holds : (p : Pair) (y : Side) (k : LinkState) (i : ℕ) (s : Sock) → NoFailure p (answer y k i s p)
answer_holds p y Idle i s z e = pointed y (Up i false) p p (λ x. refl) (up_not_idle i false) z e
answer_holds p y AwaitOther i s z e = pointed y (Up i false) p p (λ x. refl) (up_not_idle i false) z e
answer_holds p Lesser (Dialing d) i s Lesser e = absurd (up_not_idle i false e)
answer_holds p Lesser (Dialing d) i s Greater e = e
answer_holds p Greater (Dialing d) i s z e = e
answer_holds p y (Up u true) i s z e = e
answer_holds p y (Up u false) i s z e = pointed y (Up u true) p p (λ x. refl) (up_not_idle u true) z e

request_holds : (p : Pair) (down : Bool) (y : Side) (i : ℕ) (s : Sock) → NoFailure p (request down y i s p)
request_holds p true y i s z e = e
request_holds p false y i s z e = answer_holds p y (p.link y) i s z e

module _ (p : Pair) (i : ℕ) (v : Invariant p) (h : Quiet p) where
  read_t_holds : (e : TEnd) (w : List Item) → e ≡ (p.sock i).t → w ≡ (p.sock i).in_t → NoFailure p (read_t e w i (p.sock i) p)
  read_t_holds TOpen (Request ∷ w) a g = request_holds p (p.shut (other (p.sock i).opener)) (other (p.sock i).opener) i (record (p.sock i) { in_t = w })
  read_t_holds TUp (Data ∷ w) a g = λ z e. e
  read_t_holds TUp (Probe ∷ w) a g = λ z e. e
  read_t_holds TUp (Ack ∷ w) a g = pointed (other (p.sock i).opener) (Up i false) p p (λ z. refl) (up_not_idle i false)
  read_t_holds TUp (EndClosed ∷ w) a g = absurd (no_break_t p i v.named v.words h (subst (λ (t : TEnd). Breaks_t t (p.sock i).in_t) a (subst (Breaks_t TUp) g tt)))
  read_t_holds e w a g = λ z f. f

  read_o_holds : (e : OEnd) (w : List Item) → e ≡ (p.sock i).o → w ≡ (p.sock i).in_o → NoFailure p (read_o e w i (p.sock i) p)
  read_o_holds OAsking (Accepted ∷ w) a g = pointed (p.sock i).opener (Up i false) p p (λ z. refl) (up_not_idle i false)
  read_o_holds OAsking (Crossed ∷ w) a g = pointed (p.sock i).opener AwaitOther p p (λ z. refl) await_not_idle
  read_o_holds OAsking (Invalid ∷ w) a g = absurd (no_break_o p i v.named v.words h (subst (λ (o : OEnd). Breaks_o o (p.sock i).in_o) a (subst (Breaks_o OAsking) g tt)))
  read_o_holds OUp (Data ∷ w) a g = λ z e. e
  read_o_holds OUp (Probe ∷ w) a g = λ z e. e
  read_o_holds OUp (Ack ∷ w) a g = pointed (p.sock i).opener (Up i false) p p (λ z. refl) (up_not_idle i false)
  read_o_holds OUp (EndClosed ∷ w) a g = absurd (no_break_o p i v.named v.words h (subst (λ (o : OEnd). Breaks_o o (p.sock i).in_o) a (subst (Breaks_o OUp) g tt)))
  read_o_holds e w a g = λ z f. f

  gone_t_holds : Allowed (End_t i) p → NoFailure p (gone_t i p)
  gone_t_holds is = by_name (names (p.link (other (p.sock i).opener)) i) refl where
    by_name : (b : Bool) → names (p.link (other (p.sock i).opener)) i ≡ b → NoFailure p (cond b (fail (other (p.sock i).opener) p) (put i (end_t (p.sock i)) p))
    by_name true e = absurd (end_t_unnamed p i v.named h is e)
    by_name false e = λ z f. f

say_holds : (p : Pair) (x : Side) (k : LinkState) → NoFailure p (say x k p)
say_holds p x Idle z e = e
say_holds p x AwaitOther z e = e
say_holds p x (Dialing d) z e = e
say_holds p x (Up u b) z e = e

holds : (m : Move) (p : Pair) → Allowed m p → Invariant p → Quiet p → (opened m p).quiet ≡ true → NoFailure p (opened m p)
holds (Want x i) p is v h on = pointed x (Dialing i) p p (λ z. refl) (dial_not_idle i)
holds (Join i) p is v h on = λ z e. e
holds (Come i) p is v h on = λ z e. e
holds (Read_o i) p is v h on = read_o_holds p i v h (p.sock i).o (p.sock i).in_o refl refl
holds (Read_t i) p is v h on = read_t_holds p i v h (p.sock i).t (p.sock i).in_t refl refl
holds (End_o i) p is v h on = absurd (end_o_never p i v.named h is)
holds (End_t i) p is v h on = gone_t_holds p i v h is
holds (Refuse i) p is v h on = never (sym (gone_o_flag i (troubled p)) ∙ on)
holds (Lose_o i) p is v h on = never (sym (gone_o_flag i (troubled p)) ∙ on)
holds (Lose_t i) p is v h on = never (sym (gone_t_flag i (troubled p)) ∙ on)
holds (Cut_o i) p is v h on = never on
holds (Cut_t i) p is v h on = never on
holds (Late x) p is v h on = never (sym (let_go_flag x (p.link x) (troubled p)) ∙ on)
holds (Timer x) p is v h on = absurd (no_timer p v.named v.words v.probes is.1 x h is.0)
holds (Shut x) p is v h on = never (sym (shut_flag x (p.link x) (shutting x p)) ∙ on)
holds (Say x) p is v h on = say_holds p x (p.link x)
holds Settled p is v h on = λ z e. e

pub no_failure : (m : Move) (p : Pair) → Allowed m p → Invariant p → p.quiet ≡ true → (after m p).quiet ≡ true → NoFailure p (after m p)
no_failure m p is v now on =
    let e : after m p ≡ opened m p = opens m p is v.named in
    subst (NoFailure p) (sym e) (holds m p is v (v.quieted now) (subst (λ (q : Pair). q.quiet ≡ true) e on))
