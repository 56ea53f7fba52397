-- Each visit lowers what is to be done.
use Rattle.std.proofs.Common.{◌≡◌, ◌<◌, ◌≤◌, ℕ, zero, suc, ◌+◌, nat_eq, Bool, true, false, cond, List, [], ◌∷◌, ◌++◌, refl, ap, sym, ◌∙◌, subst, arith}
use Rattle.std.proofs.lemmas.Bool.Decides.{nat_tests}
use Rattle.ch_link.specs.declared.LinkState.{LinkState}
use Rattle.ch_link.specs.declared.LinkState.TheVariants.{Idle, Dialing, AwaitOther, Up}
use Rattle.ch_race.specs.Pair.{Side, Lesser, Greater, other, same, OEnd, OAsking, OUp, TEnd, TOpen, TUp, Item, Request, Accepted, Crossed, Invalid, EndClosed, Probe, Ack, Data, Sock, Pair, put, to_o, to_t, end_o, end_t, end_of, says, written, o_ended, t_ended}
use Rattle.ch_link.specs.Sockets.{names}
use Rattle.ch_race.specs.Moves.{Move, Want, Join, Come, Read_o, Read_t, End_o, End_t, Refuse, Lose_o, Lose_t, Cut_o, Cut_t, Late, Timer, Shut, Say, Settled, Allowed, IsOpen_o, IsOpen_t}
use Rattle.ch_race.proofs.Opened.{gone_o, gone_t, let_go, fail, accept, decline, probe, answer, request, read_t, read_o, opened}
use Rattle.ch_race.specs.Naming.{Role, Not, Asks, IsUp, role, role_o, role_t, Naming}
use Rattle.ch_race.specs.Measure.{weigh, load, weigh_o, weigh_t, weight, sum_of, total, Reads_o, Reads_t}
use Rattle.ch_race.specs.Settle.{Visits}
use Rattle.ch_race.specs.Words.{Worded, In_o, In_t, UnlessCut, Phase}
use Rattle.ch_race.proofs.Frame.{by_test, same_number, self_number, put_here, put_there}
use Rattle.ch_race.proofs.Names.{same_self, same_peer}
use Rattle.ch_race.proofs.Facts.{dialer}
use Rattle.ch_race.proofs.WordMoves.{IsUpOf, Opener_up, Target_up, up_of}

apart : (i n : ℕ) → n < i → nat_eq n i ≡ false
apart i n h = grind (arith, nat_tests)

below : (i n : ℕ) → nat_eq n i ≡ false → i < suc n → i < n
below i n e h = grind (arith, nat_tests)

pub sum_past : (f : Sock → ℕ) (n i : ℕ) (s : Sock) (p : Pair) → n ≤ i → sum_of f n (put i s p).sock ≡ sum_of f n p.sock
sum_past f zero i s p h = refl
sum_past f (suc n) i s p h = let a : sum_of f n (put i s p).sock ≡ sum_of f n p.sock = sum_past f n i s p (omega arith) in
    let b : f ((put i s p).sock n) ≡ f (p.sock n) = ap f (put_there i n s p (apart i n (omega arith))) in omega arith

-- what a put of one socket does to a sum
pub sum_put : (f : Sock → ℕ) (n i : ℕ) (s : Sock) (p : Pair) → i < n → sum_of f n (put i s p).sock + f (p.sock i) ≡ sum_of f n p.sock + f s
sum_put f zero i s p h = absurd (omega arith)
sum_put f (suc n) i s p h = by_test {P = sum_of f (suc n) (put i s p).sock + f (p.sock i) ≡ sum_of f (suc n) p.sock + f s} (nat_eq n i)
    (λ e. let m : i ≡ n = same_number i n e in
    let a : sum_of f n (put i s p).sock ≡ sum_of f n p.sock = sum_past f n i s p (omega arith) in
    let b : f ((put i s p).sock n) ≡ f s = ap (λ (k : ℕ). f ((put i s p).sock k)) (sym m) ∙ ap f (put_here i s p) in
    let c : f (p.sock i) ≡ f (p.sock n) = ap (λ (k : ℕ). f (p.sock k)) m in omega arith)
    (λ e. let a : sum_of f n (put i s p).sock + f (p.sock i) ≡ sum_of f n p.sock + f s = sum_put f n i s p (below i n e h) in
    let b : f ((put i s p).sock n) ≡ f (p.sock n) = ap f (put_there i n s p e) in omega arith)

pub total_put : (n i : ℕ) (s : Sock) (p : Pair) → i < n → total n (put i s p).sock + weight (p.sock i) ≡ total n p.sock + weight s
total_put n i s p h = sum_put weight n i s p h

lower : (n i : ℕ) (s : Sock) (p : Pair) → i < n → weight s < weight (p.sock i) → total n (put i s p).sock < total n p.sock
lower n i s p h w = let a = total_put n i s p h in omega arith

-- what a socket's change weighs
load_append : (w : List Item) (item : Item) → load (w ++ item ∷ []) ≡ load w + weigh item
load_append [] item = omega arith
load_append (x ∷ w) item = let e = load_append w item in omega arith

load_written : (e c : Bool) (item : Item) (w : List Item) → load (written e c item w) ≤ load w + weigh item
load_written true c item w = omega arith
load_written false true item w = omega arith
load_written false false item w = let e = load_append w item in omega arith

end_o_less : (o : OEnd) (a b c : ℕ) → o_ended o ≡ false → 0 + a + (0 + c) < weigh_o o + a + (b + c)
end_o_less o a b c h = grind arith

end_t_less : (t : TEnd) (a b c : ℕ) → t_ended t ≡ false → a + 0 + (b + 0) < a + weigh_t t + (b + c)
end_t_less t a b c h = grind arith

asks_stays : (o : OEnd) → role_o o ≡ Asks → o_ended o ≡ false
asks_stays o h = grind arith

up_stays_o : (o : OEnd) → OUp ≡ o → o_ended o ≡ false
up_stays_o o h = grind arith

up_stays_t : (t : TEnd) → TUp ≡ t → t_ended t ≡ false
up_stays_t t h = grind arith

end_of_own : (s : Sock) → o_ended s.o ≡ false → weight (end_of s.opener s) < weight s
end_of_own s h = rw same_self (end_o_less s.o (weigh_t s.t) (load s.in_o) (load s.in_t) h)

end_of_peer : (s : Sock) → t_ended s.t ≡ false → weight (end_of (other s.opener) s) < weight s
end_of_peer s h = rw same_peer (end_t_less s.t (weigh_o s.o) (load s.in_o) (load s.in_t) h)

abbrev Named : LinkState → Type 0
Named Idle = ⊥
Named AwaitOther = ⊥
Named (Dialing d) = Unit {0}
Named (Up u b) = Unit {0}

module _ (n : ℕ) (p : Pair) (nm : Naming p) (bound : (x : Side) (j : ℕ) → names (p.link x) j ≡ true → j < n) where
  up_less : (x : Side) (u : ℕ) → IsUpOf (p.sock u) x → weight (end_of x (p.sock u)) < weight (p.sock u)
  up_less x u (Opener_up e up) = subst (λ (z : Side). weight (end_of z (p.sock u)) < weight (p.sock u)) (sym e) (end_of_own (p.sock u) (up_stays_o _ up))
  up_less x u (Target_up e up) = subst (λ (z : Side). weight (end_of z (p.sock u)) < weight (p.sock u)) (sym e) (end_of_peer (p.sock u) (up_stays_t _ up))

  -- a link that lets go of a socket lowers it
  pub let_go_lower : (x : Side) (k : LinkState) → p.link x ≡ k → Named k → total n (let_go x k p).sock < total n p.sock
  let_go_lower x Idle e k = absurd k
  let_go_lower x AwaitOther e k = absurd k
  let_go_lower x (Dialing d) e k = lower n d (end_of x (p.sock d)) p (bound x d (ap (λ (l : LinkState). names l d) e ∙ self_number d))
      (subst (λ (z : Side). weight (end_of z (p.sock d)) < weight (p.sock d)) (sym (dialer p x d nm e).0) (end_of_own (p.sock d) (asks_stays _ (dialer p x d nm e).1)))
  let_go_lower x (Up u b) e k = lower n u (end_of x (p.sock u)) p (bound x u (ap (λ (l : LinkState). names l u) e ∙ self_number u)) (up_less x u (up_of p x u b nm e))

  pub fail_lower : (x : Side) → Named (p.link x) → total n (fail x p).sock < total n p.sock
  fail_lower x k = let_go_lower x (p.link x) refl k

  -- requests
  module _ (i : ℕ) (w : List Item) (hi : i < n) (is_open : TOpen ≡ (p.sock i).t) (first : Request ∷ w ≡ (p.sock i).in_t) where
    abbrev at : Sock
    at = record (p.sock i) { in_t = w }

    abbrev taken : Sock
    taken = record (to_o Accepted (record (p.sock i) { in_t = w })) { t = TUp }

    taken_less : weight taken < weight (p.sock i)
    taken_less =
        let a : weigh_t (p.sock i).t ≡ 1 = ap weigh_t (sym is_open) in
        let b : load (p.sock i).in_t ≡ 4 + load w = ap load (sym first) in
        let c : load (written (o_ended (p.sock i).o) (p.sock i).cut_o Accepted (p.sock i).in_o) ≤ load (p.sock i).in_o + 1 = load_written (o_ended (p.sock i).o) (p.sock i).cut_o Accepted (p.sock i).in_o in
        omega arith

    accept_lower : (y : Side) → total n (accept y i at p).sock < total n p.sock
    accept_lower y = lower n i taken p hi taken_less

    decline_lower : (item : Item) → weigh item ≡ 1 → total n (decline item i at p).sock + 4 ≤ total n p.sock
    decline_lower item one =
        let a : weigh_t (p.sock i).t ≡ 1 = ap weigh_t (sym is_open) in
        let b : load (p.sock i).in_t ≡ 4 + load w = ap load (sym first) in
        let c : load (written (o_ended (p.sock i).o) (p.sock i).cut_o item (p.sock i).in_o) ≤ load (p.sock i).in_o + weigh item = load_written (o_ended (p.sock i).o) (p.sock i).cut_o item (p.sock i).in_o in
        let d = total_put n i (end_t (to_o item at)) p hi in
        omega arith

    leave_lower : (d : ℕ) → p.link Lesser ≡ Dialing d → (p.sock i).opener ≡ Greater → total n (accept Lesser i at (let_go Lesser (Dialing d) p)).sock < total n p.sock
    leave_lower d e from = by_test {P = total n (accept Lesser i at (let_go Lesser (Dialing d) p)).sock < total n p.sock} (nat_eq i d)
        (λ f. absurd (clash ((dialer p Lesser d nm e).0 ∙ ap (λ (m : ℕ). (p.sock m).opener) (same_number d i f) ∙ from)))
        (λ f. let a = let_go_lower Lesser (Dialing d) e tt in
        let b = total_put n i taken (let_go Lesser (Dialing d) p) hi in
        let c : weight ((let_go Lesser (Dialing d) p).sock i) ≡ weight (p.sock i) = ap weight (put_there d i (end_of Lesser (p.sock d)) p f) in
        let g = taken_less in omega arith) where
          clash : Lesser ≡ Greater → ⊥
          clash h = cc

    says_weight : (y : Side) (s : Sock) → weight (says y Probe s) ≤ weight s + 2
    says_weight y s = by_side (same y s.opener) where
      by_side : (b : Bool) → weight (cond b (to_t Probe s) (to_o Probe s)) ≤ weight s + 2
      by_side true = let a = load_written (t_ended s.t) s.cut_t Probe s.in_t in omega arith
      by_side false = let a = load_written (o_ended s.o) s.cut_o Probe s.in_o in omega arith

    probe_lower : (y : Side) (u : ℕ) (b : Bool) → p.link y ≡ Up u b → total n (probe y u b (decline Crossed i at p)).sock < total n p.sock
    probe_lower y u true e = let a = decline_lower Crossed refl in omega arith
    probe_lower y u false e =
        let q : Pair = decline Crossed i at p in
        let a = decline_lower Crossed refl in
        let b = total_put n u (says y Probe (q.sock u)) q (bound y u (ap (λ (l : LinkState). names l u) e ∙ self_number u)) in
        let c = says_weight y (q.sock u) in
        omega arith

    answer_lower : (y : Side) (k : LinkState) → y ≡ other (p.sock i).opener → p.link y ≡ k → total n (answer y k i at p).sock < total n p.sock
    answer_lower y Idle is e = accept_lower y
    answer_lower y AwaitOther is e = accept_lower y
    answer_lower Lesser (Dialing d) is e = leave_lower d e (from_g _ is) where
      from_g : (x : Side) → Lesser ≡ other x → x ≡ Greater
      from_g Lesser h = absurd (cc)
      from_g Greater h = refl
    answer_lower Greater (Dialing d) is e = let a = decline_lower Crossed refl in omega arith
    answer_lower y (Up u b) is e = probe_lower y u b e

    request_lower : (down : Bool) → total n (request down (other (p.sock i).opener) i at p).sock < total n p.sock
    request_lower true = let a = decline_lower Invalid refl in omega arith
    request_lower false = answer_lower (other (p.sock i).opener) _ refl refl

  role_named : (k : LinkState) (i : ℕ) → (role k i ≡ Not → ⊥) → Named k
  role_named Idle i f = absurd (f refl)
  role_named AwaitOther i f = absurd (f refl)
  role_named (Dialing d) i f = tt
  role_named (Up u b) i f = tt

  named_own : (i : ℕ) (r : Role) → role_o (p.sock i).o ≡ r → (r ≡ Not → ⊥) → Named (p.link (p.sock i).opener)
  named_own i r e f = role_named _ i (λ g. f (sym e ∙ (nm i).own ∙ g))

  named_peer : (i : ℕ) → TUp ≡ (p.sock i).t → Named (p.link (other (p.sock i).opener))
  named_peer i e = role_named _ i (λ g. clash (ap role_t e ∙ (nm i).peer ∙ g)) where
    clash : IsUp ≡ Not → ⊥
    clash h = cc

  read_t_lower : (e : TEnd) (w : List Item) (i : ℕ) → i < n → e ≡ (p.sock i).t → w ≡ (p.sock i).in_t → Reads_t e w → total n (read_t e w i (p.sock i) p).sock < total n p.sock
  read_t_lower TOpen (Request ∷ w) i hi h g r = request_lower i w hi h g (p.shut (other (p.sock i).opener))
  read_t_lower TUp (Data ∷ w) i hi h g r = let a : load (p.sock i).in_t ≡ 1 + load w = ap load (sym g) in lower n i (record (p.sock i) { in_t = w }) p hi (omega arith)
  read_t_lower TUp (Probe ∷ w) i hi h g r = let a : load (p.sock i).in_t ≡ 2 + load w = ap load (sym g) in
      let c = load_written (o_ended (p.sock i).o) (p.sock i).cut_o Ack (p.sock i).in_o in lower n i (to_o Ack (record (p.sock i) { in_t = w })) p hi (omega arith)
  read_t_lower TUp (Ack ∷ w) i hi h g r = let a : load (p.sock i).in_t ≡ 1 + load w = ap load (sym g) in lower n i (record (p.sock i) { in_t = w }) p hi (omega arith)
  read_t_lower TUp (EndClosed ∷ w) i hi h g r = fail_lower (other (p.sock i).opener) (named_peer i h)
  read_t_lower e w i hi h g r = absurd r

  -- a dial that was crossed pays for the timer of the link that awaits
  pub crossed_lower : (w : List Item) (i : ℕ) → i < n → OAsking ≡ (p.sock i).o → Crossed ∷ w ≡ (p.sock i).in_o → total n (put i (end_o (p.sock i)) p).sock + 2 ≤ total n p.sock
  crossed_lower w i hi h g =
      let a : load (p.sock i).in_o ≡ 1 + load w = ap load (sym g) in
      let b : weigh_o (p.sock i).o ≡ 1 = ap weigh_o (sym h) in
      let c = total_put n i (end_o (p.sock i)) p hi in
      omega arith

  read_o_lower : (e : OEnd) (w : List Item) (i : ℕ) → i < n → e ≡ (p.sock i).o → w ≡ (p.sock i).in_o → Reads_o e w → total n (read_o e w i (p.sock i) p).sock < total n p.sock
  read_o_lower OAsking (Accepted ∷ w) i hi h g r = let a : load (p.sock i).in_o ≡ 1 + load w = ap load (sym g) in
      let b : weigh_o (p.sock i).o ≡ 1 = ap weigh_o (sym h) in lower n i (record (p.sock i) { o = OUp; in_o = w }) p hi (omega arith)
  read_o_lower OAsking (Crossed ∷ w) i hi h g r = let a = crossed_lower w i hi h g in omega arith
  read_o_lower OAsking (Invalid ∷ w) i hi h g r = fail_lower (p.sock i).opener (named_own i Asks (ap role_o (sym h)) (λ f. clash f)) where
    clash : Asks ≡ Not → ⊥
    clash f = cc
  read_o_lower OUp (Data ∷ w) i hi h g r = let a : load (p.sock i).in_o ≡ 1 + load w = ap load (sym g) in lower n i (record (p.sock i) { in_o = w }) p hi (omega arith)
  read_o_lower OUp (Probe ∷ w) i hi h g r = let a : load (p.sock i).in_o ≡ 2 + load w = ap load (sym g) in
      let c = load_written (t_ended (p.sock i).t) (p.sock i).cut_t Ack (p.sock i).in_t in lower n i (to_t Ack (record (p.sock i) { in_o = w })) p hi (omega arith)
  read_o_lower OUp (Ack ∷ w) i hi h g r = let a : load (p.sock i).in_o ≡ 1 + load w = ap load (sym g) in lower n i (record (p.sock i) { in_o = w }) p hi (omega arith)
  read_o_lower OUp (EndClosed ∷ w) i hi h g r = fail_lower (p.sock i).opener (named_own i IsUp (ap role_o (sym h)) (λ f. clash f)) where
    clash : IsUp ≡ Not → ⊥
    clash f = cc
  read_o_lower e w i hi h g r = absurd r

  pub reads_lower : (i : ℕ) → i < n → Reads_t (p.sock i).t (p.sock i).in_t → total n (read_t (p.sock i).t (p.sock i).in_t i (p.sock i) p).sock < total n p.sock
  reads_lower i hi r = read_t_lower (p.sock i).t (p.sock i).in_t i hi refl refl r

  pub reads_o_lower : (i : ℕ) → i < n → Reads_o (p.sock i).o (p.sock i).in_o → total n (read_o (p.sock i).o (p.sock i).in_o i (p.sock i) p).sock < total n p.sock
  reads_o_lower i hi r = read_o_lower (p.sock i).o (p.sock i).in_o i hi refl refl r

  names_named : (k : LinkState) (i : ℕ) → names k i ≡ true → Named k
  names_named Idle i e = absurd (cc)
  names_named AwaitOther i e = absurd (cc)
  names_named (Dialing d) i e = tt
  names_named (Up u b) i e = tt

  open_stays_o : (o : OEnd) → IsOpen_o o → o_ended o ≡ false
  open_stays_o o h = grind arith

  open_stays_t : (t : TEnd) → IsOpen_t t → t_ended t ≡ false
  open_stays_t t h = grind arith

  gone_o_lower : (i : ℕ) → i < n → IsOpen_o (p.sock i).o → total n (gone_o i p).sock < total n p.sock
  gone_o_lower i hi is = by_name (names (p.link (p.sock i).opener) i) refl where
    by_name : (b : Bool) → names (p.link (p.sock i).opener) i ≡ b → total n (cond b (fail (p.sock i).opener p) (put i (end_o (p.sock i)) p)).sock < total n p.sock
    by_name true e = fail_lower (p.sock i).opener (names_named _ i e)
    by_name false e = lower n i (end_o (p.sock i)) p hi (end_o_less (p.sock i).o (weigh_t (p.sock i).t) (load (p.sock i).in_o) (load (p.sock i).in_t) (open_stays_o _ is))

  gone_t_lower : (i : ℕ) → i < n → IsOpen_t (p.sock i).t → total n (gone_t i p).sock < total n p.sock
  gone_t_lower i hi is = by_name (names (p.link (other (p.sock i).opener)) i) refl where
    by_name : (b : Bool) → names (p.link (other (p.sock i).opener)) i ≡ b → total n (cond b (fail (other (p.sock i).opener) p) (put i (end_t (p.sock i)) p)).sock < total n p.sock
    by_name true e = fail_lower (other (p.sock i).opener) (names_named _ i e)
    by_name false e = lower n i (end_t (p.sock i)) p hi (end_t_less (p.sock i).t (weigh_o (p.sock i).o) (load (p.sock i).in_o) (load (p.sock i).in_t) (open_stays_t _ is))

  pub visit_lowers : (m : Move) → Allowed m p → Visits n m p → total n (opened m p).sock < total n p.sock
  visit_lowers (Join i) is hi =
      let a : weigh_o (p.sock i).o ≡ 6 = ap weigh_o is in
      let c = load_written (t_ended (p.sock i).t) (p.sock i).cut_t Request (p.sock i).in_t in
      lower n i (to_t Request (record (p.sock i) { o = OAsking })) p hi (omega arith)
  visit_lowers (Come i) is hi = let a : weigh_t (p.sock i).t ≡ 2 = ap weigh_t is in lower n i (record (p.sock i) { t = TOpen }) p hi (omega arith)
  visit_lowers (Read_o i) is v = reads_o_lower i v.0 v.1
  visit_lowers (Read_t i) is v = reads_lower i v.0 v.1
  visit_lowers (End_o i) is hi = gone_o_lower i hi is.0
  visit_lowers (End_t i) is hi = gone_t_lower i hi is.0
  visit_lowers (Want x i) is v = absurd v
  visit_lowers (Refuse i) is v = absurd v
  visit_lowers (Lose_o i) is v = absurd v
  visit_lowers (Lose_t i) is v = absurd v
  visit_lowers (Cut_o i) is v = absurd v
  visit_lowers (Cut_t i) is v = absurd v
  visit_lowers (Late x) is v = absurd v
  visit_lowers (Timer x) is v = absurd v
  visit_lowers (Shut x) is v = absurd v
  visit_lowers (Say x) is v = absurd v
  visit_lowers Settled is v = absurd v

-- an unread item is one that is expected
expected_t : (o : OEnd) (t : TEnd) (b cut : Bool) (w : List Item) → UnlessCut cut w (In_t o t b w) → Phase o t → IsOpen_t t → (w ≡ [] → ⊥) → Reads_t t w
expected_t o t b cut w h ph op e = grind arith

expected_o : (o : OEnd) (t : TEnd) (b cut : Bool) (w : List Item) → UnlessCut cut w (In_o o t b w) → Phase o t → IsOpen_o o → (w ≡ [] → ⊥) → Reads_o o w
expected_o o t b cut w h ph op e = grind arith

pub unread_expected_t : (p : Pair) (i : ℕ) → Worded p → IsOpen_t (p.sock i).t → ((p.sock i).in_t ≡ [] → ⊥) → Reads_t (p.sock i).t (p.sock i).in_t
unread_expected_t p i ws op e = expected_t (p.sock i).o (p.sock i).t _ (p.sock i).cut_t (p.sock i).in_t (ws i).word_t (ws i).phase op e

pub unread_expected_o : (p : Pair) (i : ℕ) → Worded p → IsOpen_o (p.sock i).o → ((p.sock i).in_o ≡ [] → ⊥) → Reads_o (p.sock i).o (p.sock i).in_o
unread_expected_o p i ws op e = expected_o (p.sock i).o (p.sock i).t _ (p.sock i).cut_o (p.sock i).in_o (ws i).word_o (ws i).phase op e
