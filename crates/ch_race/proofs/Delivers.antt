-- While a pair stays quiet, each payload that is written stays unread until it is read.
use Rattle.std.proofs.Common.{◌≡◌, ◌<◌, ℕ, zero, suc, ◌+◌, nat_eq, Bool, true, false, cond, ◌||◌, List, [], ◌∷◌, refl, ap, sym, ◌∙◌, subst, arith}
use Rattle.std.proofs.lemmas.Bool.Decides.{nat_tests}
use Rattle.ch_link.specs.Sockets.{names}
use Rattle.ch_link.specs.declared.LinkState.{LinkState}
use Rattle.ch_link.specs.declared.LinkState.TheVariants.{Idle, Dialing, AwaitOther, Up}
use Rattle.ch_race.specs.Pair.{Side, Lesser, Greater, other, same, OEnd, OPending, OAsking, OUp, OEnded, TEnd, TPending, TOpen, TUp, TEnded, Item, Request, Accepted, Crossed, Invalid, EndClosed, Probe, Ack, Data, Sock, Pair, put, to_o, to_t, end_o, end_t, end_of, says, fresh, written, o_ended, t_ended}
use Rattle.ch_race.specs.Moves.{Move, Want, Join, Come, Read_o, Read_t, End_o, End_t, Refuse, Lose_o, Lose_t, Cut_o, Cut_t, Late, Timer, Shut, Say, Settled, after, Allowed, run, AllAllowed, say, troubled, shutting, AllStill, IsOpen_o, IsOpen_t}
use Rattle.ch_race.specs.Naming.{Asks, role_o, Naming}
use Rattle.ch_race.specs.Words.{Words, Worded, In_o, In_t, UnlessCut}
use Rattle.ch_race.specs.Probes.{bit, count}
use Rattle.ch_race.specs.Quiet.{Fits, Whole_o, Whole_t, Quiet, Dialed, Joined, Breaks_o, Breaks_t}
use Rattle.ch_race.specs.Measure.{sum_of}
use Rattle.ch_race.specs.Settle.{Bounded, Beyond, IsWithin, AllWithin}
use Rattle.ch_race.specs.Payloads.{is_data, payloads, unread, says_one, said, reads_one_o, reads_one_t, got, all_said, all_got, StaysQuiet}
use Rattle.ch_race.specs.Invariant.{Invariant}
use Rattle.ch_race.proofs.Opened.{opened, fail, gone_t, decline, answer, request, read_t, read_o}
use Rattle.ch_race.proofs.Frame.{self_number, put_there}
use Rattle.ch_race.proofs.Words.{empty}
use Rattle.ch_race.proofs.WordMoves.{IsUpOf, Opener_up, Target_up, up_of, says_own, says_peer}
use Rattle.ch_race.proofs.Probes.{count_append, wrote}
use Rattle.ch_race.proofs.Facts.{dialer}
use Rattle.ch_race.proofs.QuietMoves.{not_taken, no_break_o, no_break_t, end_o_never, end_t_unnamed, never, gone_o_flag, gone_t_flag, let_go_flag, shut_flag}
use Rattle.ch_race.proofs.Still.{no_timer}
use Rattle.ch_race.proofs.Measures.{sum_put}
use Rattle.ch_race.proofs.Opens.{opens, apart}
use Rattle.ch_race.proofs.Runs.{invariant_after, invariant_run}
use Rattle.ch_race.proofs.Within.{bounded, beyond_after}

-- a put that changes the payloads of the socket
put_more : (n i : ℕ) (s : Sock) (p : Pair) (a b : ℕ) → i < n → payloads s + a ≡ payloads (p.sock i) + b → unread n (put i s p) + a ≡ unread n p + b
put_more n i s p a b h e = let f = sum_put payloads n i s p h in omega arith

put_same : (n i : ℕ) (s : Sock) (p : Pair) → i < n → payloads s ≡ payloads (p.sock i) → unread n (put i s p) ≡ unread n p
put_same n i s p h e = let f = sum_put payloads n i s p h in omega arith

-- an item that is no payload is written
silent : (ended cut : Bool) (item : Item) (w : List Item) → is_data item ≡ false → count is_data (written ended cut item w) ≡ count is_data w
silent true cut item w h = refl
silent false true item w h = refl
silent false false item w h = let e = count_append is_data w item in let z : bit (is_data item) ≡ 0 = ap bit h in omega arith

to_o_same : (s : Sock) (item : Item) → is_data item ≡ false → payloads (to_o item s) ≡ payloads s
to_o_same s item h = let e = silent (o_ended s.o) s.cut_o item s.in_o h in omega arith

to_t_same : (s : Sock) (item : Item) → is_data item ≡ false → payloads (to_t item s) ≡ payloads s
to_t_same s item h = let e = silent (t_ended s.t) s.cut_t item s.in_t h in omega arith

says_same : (x : Side) (s : Sock) (item : Item) → is_data item ≡ false → payloads (says x item s) ≡ payloads s
says_same x s item h = by_side (same x s.opener) where
  by_side : (b : Bool) → payloads (cond b (to_t item s) (to_o item s)) ≡ payloads s
  by_side true = to_t_same s item h
  by_side false = to_o_same s item h

-- an item that is no payload is read
pop_o : (s : Sock) (item : Item) (w : List Item) → is_data item ≡ false → item ∷ w ≡ s.in_o → payloads (record s { in_o = w }) ≡ payloads s
pop_o s item w h g = let e : count is_data s.in_o ≡ bit (is_data item) + count is_data w = ap (count is_data) (sym g) in let z : bit (is_data item) ≡ 0 = ap bit h in omega arith

pop_t : (s : Sock) (item : Item) (w : List Item) → is_data item ≡ false → item ∷ w ≡ s.in_t → payloads (record s { in_t = w }) ≡ payloads s
pop_t s item w h g = let e : count is_data s.in_t ≡ bit (is_data item) + count is_data w = ap (count is_data) (sym g) in let z : bit (is_data item) ≡ 0 = ap bit h in omega arith

-- a payload is read
take_o : (s : Sock) (w : List Item) → Data ∷ w ≡ s.in_o → payloads (record s { in_o = w }) + 1 ≡ payloads s + 0
take_o s w g = let e : count is_data s.in_o ≡ 1 + count is_data w = ap (count is_data) (sym g) in omega arith

take_t : (s : Sock) (w : List Item) → Data ∷ w ≡ s.in_t → payloads (record s { in_t = w }) + 1 ≡ payloads s + 0
take_t s w g = let e : count is_data s.in_t ≡ 1 + count is_data w = ap (count is_data) (sym g) in omega arith

-- an end ends where no payload is unread
end_o_same : (s : Sock) → count is_data s.in_o ≡ 0 → payloads (end_o s) ≡ payloads s
end_o_same s h = omega arith

end_t_same : (s : Sock) → count is_data s.in_t ≡ 0 → payloads (end_t s) ≡ payloads s
end_t_same s h = omega arith

-- nothing is unread at an end that has ended, nor one that waits
bare : (w : List Item) → w ≡ [] → count is_data w ≡ 0
bare w e = ap (count is_data) e

dead_bare_o : (o : OEnd) (t : TEnd) (b cut : Bool) (w : List Item) → o ≡ OEnded → UnlessCut cut w (In_o o t b w) → w ≡ []
dead_bare_o o t b cut w e h = grind arith

dead_bare_t : (o : OEnd) (t : TEnd) (b cut : Bool) (w : List Item) → t ≡ TEnded → UnlessCut cut w (In_t o t b w) → w ≡ []
dead_bare_t o t b cut w e h = grind arith

dead_none : (a b : Bool) (s : Sock) → Words a b s → s.o ≡ OEnded → s.t ≡ TEnded → payloads s ≡ 0
dead_none a b s ws o t =
    let e : count is_data s.in_o ≡ 0 = bare _ (dead_bare_o s.o s.t b s.cut_o s.in_o o ws.word_o) in
    let f : count is_data s.in_t ≡ 0 = bare _ (dead_bare_t s.o s.t a s.cut_t s.in_t t ws.word_t) in
    omega arith

crossed_last : (t : TEnd) (b cut : Bool) (w : List Item) → UnlessCut cut (Crossed ∷ w) (In_o OAsking t b (Crossed ∷ w)) → w ≡ []
crossed_last t b cut w h = grind arith

-- a dial that its target hasn't accepted has no payload unread
dial_bare : (D U : Type 0) (x : Side) (o : OEnd) (t : TEnd) (b cut : Bool) (w : List Item) → role_o o ≡ Asks → (TUp ≡ t → ⊥) → UnlessCut cut w (In_o o t b w) → Fits D U x w o t → count is_data w ≡ 0
dial_bare D U x OPending t b true w r f h g = bare w h
dial_bare D U x OPending t b false w r f h g = bare w h
dial_bare D U x OAsking t b true w r f h g = bare w h
dial_bare D U x OAsking TPending b false w r f h g = bare w h
dial_bare D U x OAsking TOpen b false w r f h g = bare w h
dial_bare D U x OAsking TUp b false w r f h g = absurd (f refl)
dial_bare D U x OAsking TEnded b false w r f h g = ap (count is_data) g.1
dial_bare D U x OUp t b cut w r f h g = absurd (cc)
dial_bare D U x OEnded t b cut w r f h g = absurd (cc)

-- what a node that is up writes in a quiet pair comes to stand unread
heard_t : (D U : Type 0) (x : Side) (o : OEnd) (t : TEnd) (cut : Bool) (w : List Item) → OUp ≡ o → Whole_t t cut → Fits D U x w o t → (t_ended t || cut) ≡ false
heard_t D U x OUp TPending cut w e h f = h
heard_t D U x OUp TOpen cut w e h f = h
heard_t D U x OUp TUp cut w e h f = h
heard_t D U x OUp TEnded cut w e h f = absurd f
heard_t D U x OPending t cut w e h f = absurd (cc)
heard_t D U x OAsking t cut w e h f = absurd (cc)
heard_t D U x OEnded t cut w e h f = absurd (cc)

heard_o : (D U : Type 0) (x : Side) (o : OEnd) (t : TEnd) (cut : Bool) (w : List Item) → TUp ≡ t → Whole_o o cut → Fits D U x w o t → (o_ended o || cut) ≡ false
heard_o D U x OPending TUp cut w e h f = h
heard_o D U x OAsking TUp cut w e h f = h
heard_o D U x OUp TUp cut w e h f = h
heard_o D U x OEnded TUp cut w e h f = absurd f
heard_o D U x o TPending cut w e h f = absurd (cc)
heard_o D U x o TOpen cut w e h f = absurd (cc)
heard_o D U x o TEnded cut w e h f = absurd (cc)

one_more : (ended cut : Bool) (w : List Item) → (ended || cut) ≡ false → count is_data (written ended cut Data w) ≡ count is_data w + 1
one_more ended cut w h = let e = wrote is_data ended cut Data w in grind arith

says_more : (p : Pair) (x : Side) (i : ℕ) → Quiet p → IsUpOf (p.sock i) x → payloads (says x Data (p.sock i)) ≡ payloads (p.sock i) + 1
says_more p x i h (Opener_up e up) =
    let s : Sock = p.sock i in
    let more : count is_data (written (t_ended s.t) s.cut_t Data s.in_t) ≡ count is_data s.in_t + 1 =
    one_more (t_ended s.t) s.cut_t s.in_t (heard_t (Dialed p) (Joined p) s.opener s.o s.t s.cut_t s.in_o up (h.socks i).whole_t (h.socks i).fits) in
    let own : payloads (to_t Data s) ≡ payloads s + 1 = omega arith in
    subst (λ (z : Side). payloads (says z Data s) ≡ payloads s + 1) (sym e) (subst (λ (z : Sock). payloads z ≡ payloads s + 1) (says_own s Data) own)
says_more p x i h (Target_up e up) =
    let s : Sock = p.sock i in
    let more : count is_data (written (o_ended s.o) s.cut_o Data s.in_o) ≡ count is_data s.in_o + 1 =
    one_more (o_ended s.o) s.cut_o s.in_o (heard_o (Dialed p) (Joined p) s.opener s.o s.t s.cut_o s.in_o up (h.socks i).whole_o (h.socks i).fits) in
    let peer : payloads (to_o Data s) ≡ payloads s + 1 = omega arith in
    subst (λ (z : Side). payloads (says z Data s) ≡ payloads s + 1) (sym e) (subst (λ (z : Sock). payloads z ≡ payloads s + 1) (says_peer s Data) peer)

module _ (n : ℕ) (p : Pair) (nm : Naming p) (ws : Worded p) (h : Quiet p) (m : Bounded n p) where
  module _ (i : ℕ) (hi : i < n) where
    module _ (w : List Item) (is_open : TOpen ≡ (p.sock i).t) (first : Request ∷ w ≡ (p.sock i).in_t) where
      abbrev at : Sock
      at = record (p.sock i) { in_t = w }

      abbrev taken : Sock
      taken = record (to_o Accepted at) { t = TUp }

      at_same : payloads at ≡ payloads (p.sock i)
      at_same = pop_t (p.sock i) Request w refl first

      taken_same : payloads taken ≡ payloads (p.sock i)
      taken_same = to_o_same at Accepted refl ∙ at_same

      crossed_same : unread n (decline Crossed i at p) ≡ unread n p
      crossed_same = put_same n i (end_t (to_o Crossed at)) p hi
          (end_t_same (to_o Crossed at) (bare w (empty _ _ (p.sock i) w (ws i) is_open first)) ∙ to_o_same at Crossed refl ∙ at_same)

      answer_same : (y : Side) (k : LinkState) → y ≡ other (p.sock i).opener → p.link y ≡ k → unread n (answer y k i at p) ≡ unread n p
      answer_same y Idle is e = put_same n i taken p hi taken_same
      answer_same y AwaitOther is e = put_same n i taken p hi taken_same
      answer_same Lesser (Dialing d) is e =
          let s : Sock = p.sock d in
          let own : (Lesser ≡ s.opener) × (role_o s.o ≡ Asks) = dialer p Lesser d nm e in
          let none : count is_data s.in_o ≡ 0 = dial_bare (Dialed p) (Joined p) s.opener s.o s.t _ s.cut_o s.in_o own.1 (not_taken i w p nm ws h is_open first d is e) (ws d).word_o (h.socks d).fits in
          let left : payloads (end_of Lesser s) ≡ payloads s = ap payloads (ends s own.0) ∙ end_o_same s none in
          let q : Pair = put d (end_of Lesser s) p in
          let leaves : unread n q ≡ unread n p = put_same n d (end_of Lesser s) p (m Lesser d (ap (λ (l : LinkState). names l d) e ∙ self_number d)) left in
          let there : q.sock i ≡ p.sock i = put_there d i (end_of Lesser s) p (turn d i (apart p i Lesser nm is d e)) in
          let takes : unread n (put i taken q) ≡ unread n q = put_same n i taken q hi (taken_same ∙ ap payloads (sym there)) in
          takes ∙ leaves where
            ends : (s : Sock) → Lesser ≡ s.opener → end_of Lesser s ≡ end_o s
            ends s f = ap (λ (x : Side). cond (same Lesser x) (end_o s) (end_t s)) (sym f)

            turn : (d i : ℕ) → nat_eq d i ≡ false → nat_eq i d ≡ false
            turn d i f = grind (arith, nat_tests)
      answer_same Greater (Dialing d) is e = crossed_same
      answer_same y (Up u true) is e = crossed_same
      answer_same y (Up u false) is e =
          let q : Pair = decline Crossed i at p in
          put_same n u (says y Probe (q.sock u)) q (m y u (ap (λ (l : LinkState). names l u) e ∙ self_number u)) (says_same y (q.sock u) Probe refl) ∙ crossed_same

      request_same : (down : Bool) → down ≡ false → unread n (request down (other (p.sock i).opener) i at p) ≡ unread n p
      request_same true e = never (sym e)
      request_same false e = answer_same (other (p.sock i).opener) (p.link (other (p.sock i).opener)) refl refl

    plain : (q : Pair) → unread n q ≡ unread n p → 0 + unread n p ≡ 0 + unread n q
    plain q e = omega arith

    read_t_same : (e : TEnd) (w : List Item) → e ≡ (p.sock i).t → w ≡ (p.sock i).in_t → 0 + unread n p ≡ reads_one_t e w + unread n (read_t e w i (p.sock i) p)
    read_t_same TOpen (Request ∷ w) a g = plain (read_t TOpen (Request ∷ w) i (p.sock i) p) (request_same w a g (p.shut (other (p.sock i).opener)) (h.running (other (p.sock i).opener)))
    read_t_same TUp (Data ∷ w) a g = let e = put_more n i (record (p.sock i) { in_t = w }) p 1 0 hi (take_t (p.sock i) w g) in omega arith
    read_t_same TUp (Probe ∷ w) a g = plain (read_t TUp (Probe ∷ w) i (p.sock i) p) (put_same n i (to_o Ack (record (p.sock i) { in_t = w })) p hi (to_o_same (record (p.sock i) { in_t = w }) Ack refl ∙ pop_t (p.sock i) Probe w refl g))
    read_t_same TUp (Ack ∷ w) a g = plain (read_t TUp (Ack ∷ w) i (p.sock i) p) (put_same n i (record (p.sock i) { in_t = w }) p hi (pop_t (p.sock i) Ack w refl g))
    read_t_same TUp (EndClosed ∷ w) a g = absurd (no_break_t p i nm ws h (subst (λ (t : TEnd). Breaks_t t (p.sock i).in_t) a (subst (Breaks_t TUp) g tt)))
    read_t_same e w a g = refl

    read_o_same : (e : OEnd) (w : List Item) → e ≡ (p.sock i).o → w ≡ (p.sock i).in_o → 0 + unread n p ≡ reads_one_o e w + unread n (read_o e w i (p.sock i) p)
    read_o_same OAsking (Accepted ∷ w) a g = plain (read_o OAsking (Accepted ∷ w) i (p.sock i) p) (put_same n i (record (p.sock i) { o = OUp; in_o = w }) p hi (pop_o (p.sock i) Accepted w refl g))
    read_o_same OAsking (Crossed ∷ w) a g = plain (read_o OAsking (Crossed ∷ w) i (p.sock i) p) (put_same n i (end_o (p.sock i)) p hi (end_o_same (p.sock i) none)) where
      word : UnlessCut (p.sock i).cut_o (Crossed ∷ w) (In_o OAsking (p.sock i).t (p.shut (other (p.sock i).opener)) (Crossed ∷ w))
      word = subst (λ (o : OEnd). UnlessCut (p.sock i).cut_o (Crossed ∷ w) (In_o o (p.sock i).t (p.shut (other (p.sock i).opener)) (Crossed ∷ w))) (sym a)
          (subst (λ (v : List Item). UnlessCut (p.sock i).cut_o v (In_o (p.sock i).o (p.sock i).t (p.shut (other (p.sock i).opener)) v)) (sym g) (ws i).word_o)

      none : count is_data (p.sock i).in_o ≡ 0
      none = ap (count is_data) (sym g) ∙ ap (λ (v : List Item). 0 + count is_data v) (crossed_last (p.sock i).t _ (p.sock i).cut_o w word)
    read_o_same OAsking (Invalid ∷ w) a g = absurd (no_break_o p i nm ws h (subst (λ (o : OEnd). Breaks_o o (p.sock i).in_o) a (subst (Breaks_o OAsking) g tt)))
    read_o_same OUp (Data ∷ w) a g = let e = put_more n i (record (p.sock i) { in_o = w }) p 1 0 hi (take_o (p.sock i) w g) in omega arith
    read_o_same OUp (Probe ∷ w) a g = plain (read_o OUp (Probe ∷ w) i (p.sock i) p) (put_same n i (to_t Ack (record (p.sock i) { in_o = w })) p hi (to_t_same (record (p.sock i) { in_o = w }) Ack refl ∙ pop_o (p.sock i) Probe w refl g))
    read_o_same OUp (Ack ∷ w) a g = plain (read_o OUp (Ack ∷ w) i (p.sock i) p) (put_same n i (record (p.sock i) { in_o = w }) p hi (pop_o (p.sock i) Ack w refl g))
    read_o_same OUp (EndClosed ∷ w) a g = absurd (no_break_o p i nm ws h (subst (λ (o : OEnd). Breaks_o o (p.sock i).in_o) a (subst (Breaks_o OUp) g tt)))
    read_o_same e w a g = refl

say_same : (n : ℕ) (p : Pair) (x : Side) (k : LinkState) → Naming p → Quiet p → Bounded n p → p.link x ≡ k → says_one k + unread n p ≡ 0 + unread n (say x k p)
say_same n p x Idle nm h m e = refl
say_same n p x AwaitOther nm h m e = refl
say_same n p x (Dialing d) nm h m e = refl
say_same n p x (Up u b) nm h m e =
    let more : payloads (says x Data (p.sock u)) ≡ payloads (p.sock u) + 1 = says_more p x u h (up_of p x u b nm e) in
    let f = put_more n u (says x Data (p.sock u)) p 0 1 (m x u (ap (λ (l : LinkState). names l u) e ∙ self_number u)) (omega arith) in
    omega arith

gone_t_same : (n : ℕ) (p : Pair) (i : ℕ) → i < n → Naming p → Quiet p → Allowed (End_t i) p → 0 + unread n p ≡ 0 + unread n (gone_t i p)
gone_t_same n p i hi nm h is = by_name (names (p.link (other (p.sock i).opener)) i) refl where
  by_name : (b : Bool) → names (p.link (other (p.sock i).opener)) i ≡ b → 0 + unread n p ≡ 0 + unread n (cond b (fail (other (p.sock i).opener) p) (put i (end_t (p.sock i)) p))
  by_name true e = absurd (end_t_unnamed p i nm h is e)
  by_name false e = let f = put_same n i (end_t (p.sock i)) p hi (end_t_same (p.sock i) (bare (p.sock i).in_t is.1)) in omega arith

same_sum : (a b : ℕ) → a ≡ b → 0 + b ≡ 0 + a
same_sum a b e = omega arith

delivers : (n : ℕ) (m : Move) (p : Pair) → Allowed m p → IsWithin n m → Invariant p → Quiet p → Beyond n p → (opened m p).quiet ≡ true → said m p + unread n p ≡ got m p + unread n (opened m p)
delivers n (Want x i) p is hi v h b on = same_sum _ _ (put_same n i (fresh x) p hi (sym (dead_none _ _ (p.sock i) (v.words i) is.2 is.3)))
delivers n (Join i) p is hi v h b on = same_sum _ _ (put_same n i (to_t Request (record (p.sock i) { o = OAsking })) p hi (to_t_same (record (p.sock i) { o = OAsking }) Request refl))
delivers n (Come i) p is hi v h b on = same_sum _ _ (put_same n i (record (p.sock i) { t = TOpen }) p hi refl)
delivers n (Read_o i) p is hi v h b on = read_o_same n p v.named v.words h (bounded n p v.named b) i hi (p.sock i).o (p.sock i).in_o refl refl
delivers n (Read_t i) p is hi v h b on = read_t_same n p v.named v.words h (bounded n p v.named b) i hi (p.sock i).t (p.sock i).in_t refl refl
delivers n (End_o i) p is hi v h b on = absurd (end_o_never p i v.named h is)
delivers n (End_t i) p is hi v h b on = gone_t_same n p i hi v.named h is
delivers n (Refuse i) p is hi v h b on = never (sym (gone_o_flag i (troubled p)) ∙ on)
delivers n (Lose_o i) p is hi v h b on = never (sym (gone_o_flag i (troubled p)) ∙ on)
delivers n (Lose_t i) p is hi v h b on = never (sym (gone_t_flag i (troubled p)) ∙ on)
delivers n (Cut_o i) p is hi v h b on = never on
delivers n (Cut_t i) p is hi v h b on = never on
delivers n (Late x) p is hi v h b on = never (sym (let_go_flag x (p.link x) (troubled p)) ∙ on)
delivers n (Timer x) p is hi v h b on = absurd (no_timer p v.named v.words v.probes is.1 x h is.0)
delivers n (Shut x) p is hi v h b on = never (sym (shut_flag x (p.link x) (shutting x p)) ∙ on)
delivers n (Say x) p is hi v h b on = say_same n p x (p.link x) v.named h (bounded n p v.named b) refl
delivers n Settled p is hi v h b on = refl

-- the same of the move itself
delivers_after : (n : ℕ) (m : Move) (p : Pair) → Allowed m p → IsWithin n m → Invariant p → Quiet p → Beyond n p → (after m p).quiet ≡ true → said m p + unread n p ≡ got m p + unread n (after m p)
delivers_after n m p is hi v h b on =
    let e : after m p ≡ opened m p = opens m p is v.named in
    subst (λ (q : Pair). said m p + unread n p ≡ got m p + unread n q) (sym e) (delivers n m p is hi v h b (subst (λ (q : Pair). q.quiet ≡ true) e on))

quiet_now : (ms : List Move) (p : Pair) → StaysQuiet ms p → p.quiet ≡ true
quiet_now [] p on = on
quiet_now (m ∷ ms) p on = on.0

-- over moves that keep the pair quiet
pub all_delivered : (n : ℕ) (ms : List Move) (p : Pair) → Invariant p → Beyond n p → AllAllowed ms p → AllWithin n ms → StaysQuiet ms p → all_said ms p + unread n p ≡ all_got ms p + unread n (run ms p)
all_delivered n [] p v b are hs on = refl
all_delivered n (m ∷ ms) p v b (is, are) (h, hs) (on, rest) =
    let q : Pair = after m p in
    let now : said m p + unread n p ≡ got m p + unread n q = delivers_after n m p is h v (v.quieted on) b (quiet_now ms q rest) in
    let then : all_said ms q + unread n q ≡ all_got ms q + unread n (run ms q) = all_delivered n ms q (invariant_after m p is v) (beyond_after n m p is h v.named b) are hs rest in
    omega arith

-- where all is still nothing is unread
still_bare_o : (o : OEnd) (t : TEnd) (b cut : Bool) (w : List Item) → (o ≡ OPending → ⊥) → (IsOpen_o o → (w ≡ []) × (cut ≡ false) × (t ≡ TEnded → ⊥)) → UnlessCut cut w (In_o o t b w) → w ≡ []
still_bare_o OPending t b cut w j f h = absurd (j refl)
still_bare_o OAsking t b cut w j f h = (f tt).0
still_bare_o OUp t b cut w j f h = (f tt).0
still_bare_o OEnded t b cut w j f h = dead_bare_o OEnded t b cut w refl h

still_bare_t : (o : OEnd) (t : TEnd) (b cut : Bool) (w : List Item) → (t ≡ TPending → ⊥) → (IsOpen_t t → (w ≡ []) × (cut ≡ false) × (o ≡ OEnded → ⊥)) → UnlessCut cut w (In_t o t b w) → w ≡ []
still_bare_t o TPending b cut w j f h = absurd (j refl)
still_bare_t o TOpen b cut w j f h = (f tt).0
still_bare_t o TUp b cut w j f h = (f tt).0
still_bare_t o TEnded b cut w j f h = dead_bare_t o TEnded b cut w refl h

pub none_unread : (p : Pair) → Worded p → AllStill p → (i : ℕ) → payloads (p.sock i) ≡ 0
none_unread p ws still i =
    let s : Sock = p.sock i in
    let e : count is_data s.in_o ≡ 0 = bare _ (still_bare_o s.o s.t _ s.cut_o s.in_o (still i).joined (still i).read_o (ws i).word_o) in
    let f : count is_data s.in_t ≡ 0 = bare _ (still_bare_t s.o s.t _ s.cut_t s.in_t (still i).came (still i).read_t (ws i).word_t) in
    omega arith

none_in : (n : ℕ) (f : ℕ → Sock) → ((i : ℕ) → payloads (f i) ≡ 0) → sum_of payloads n f ≡ 0
none_in zero f h = refl
none_in (suc n) f h = let e = none_in n f h in let g = h n in omega arith

pub none_left : (n : ℕ) (p : Pair) → Worded p → AllStill p → unread n p ≡ 0
none_left n p ws still = none_in n p.sock (none_unread p ws still)

pub all_read : (n : ℕ) (ms : List Move) (p : Pair) → Invariant p → Beyond n p → AllAllowed ms p → AllWithin n ms → StaysQuiet ms p → AllStill (run ms p) → all_said ms p + unread n p ≡ all_got ms p
all_read n ms p v b are hs on still =
    let kept : all_said ms p + unread n p ≡ all_got ms p + unread n (run ms p) = all_delivered n ms p v b are hs on in
    let none : unread n (run ms p) ≡ 0 = none_left n (run ms p) (invariant_run ms p are v).words still in
    omega arith
