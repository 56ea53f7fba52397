-- Each move keeps the words.
use Rattle.std.proofs.Common.{◌≡◌, ℕ, nat_eq, Bool, true, false, cond, List, [], ◌∷◌, refl, ap, sym, ◌∙◌, subst}
use Rattle.ch_link.specs.declared.LinkState.{LinkState}
use Rattle.ch_link.specs.declared.LinkState.TheVariants.{Idle, Dialing, AwaitOther, Up}
use Rattle.ch_race.specs.Pair.{Side, Lesser, Greater, other, same, OEnd, OPending, OAsking, OUp, OEnded, TEnd, TPending, TOpen, TUp, TEnded, Item, Request, Accepted, Crossed, Invalid, EndClosed, Probe, Ack, Data, Sock, Pair, start, put, to_o, to_t, end_o, end_t, end_of, says, fresh}
use Rattle.ch_link.specs.Sockets.{names}
use Rattle.ch_race.specs.Moves.{Move, shutting, Want, Join, Come, Read_o, Read_t, End_o, End_t, Refuse, Lose_o, Lose_t, Cut_o, Cut_t, Late, Timer, Shut, Say, Settled, Allowed, say, troubled}
use Rattle.ch_race.proofs.Opened.{let_go, fail, gone_o, gone_t, accept, decline, probe, answer, request, read_t, read_o, shut_down, opened}
use Rattle.ch_race.specs.Naming.{Not, IsUp, role, role_o, role_t, Naming}
use Rattle.ch_race.specs.Words.{Frames, Answers, Words, Worded}
use Rattle.ch_race.proofs.Frame.{by_test, same_number, self_number, put_here, put_there}
use Rattle.ch_race.proofs.Names.{IsSideOf, Own, Peer, side_of, same_self, same_peer, decline_keeps}
use Rattle.ch_race.proofs.Words.{end_o_words, end_t_words, to_t_words, to_o_words, accept_words, decline_words, join_words, come_words, cut_o_words, cut_t_words, shut_o_words, shut_t_words, closed_t_words, closed_o_words, next_t_words, next_o_words, ack_o_words, ack_t_words, raised_words, fresh_words, dead_words}

abbrev WordsOf : Pair → Sock → Type 0
WordsOf p s = Words (p.shut s.opener) (p.shut (other s.opener)) s

-- all but one socket
abbrev WordedBut : ℕ → Pair → Type 0
WordedBut i p = (j : ℕ) → nat_eq j i ≡ false → WordsOf p (p.sock j)

put_but : (p : Pair) (i : ℕ) (s : Sock) → WordedBut i p → WordsOf p s → Worded (put i s p)
put_but p i s w here j = by_test {P = WordsOf p ((put i s p).sock j)} (nat_eq j i)
    (λ h. subst (λ (k : ℕ). WordsOf p ((put i s p).sock k)) (same_number i j h) (subst (WordsOf p) (sym (put_here i s p)) here))
    (λ h. subst (WordsOf p) (sym (put_there i j s p h)) (w j h))

put_worded : (p : Pair) (i : ℕ) (s : Sock) → Worded p → WordsOf p s → Worded (put i s p)
put_worded p i s w here = put_but p i s (λ j h. w j) here

end_of_words : (p : Pair) (x : Side) (s : Sock) → WordsOf p s → WordsOf p (end_of x s)
end_of_words p x s w = by_side (same x s.opener) where
  by_side : (b : Bool) → WordsOf p (cond b (end_o s) (end_t s))
  by_side true = end_o_words _ _ s w
  by_side false = end_t_words _ _ s w

let_go_worded : (p : Pair) (x : Side) (k : LinkState) → Worded p → Worded (let_go x k p)
let_go_worded p x Idle w = w
let_go_worded p x AwaitOther w = w
let_go_worded p x (Dialing i) w = put_worded p i (end_of x (p.sock i)) w (end_of_words p x (p.sock i) (w i))
let_go_worded p x (Up i b) w = put_worded p i (end_of x (p.sock i)) w (end_of_words p x (p.sock i) (w i))

fail_worded : (p : Pair) (x : Side) → Worded p → Worded (fail x p)
fail_worded p x w = let_go_worded p x (p.link x) w

gone_o_worded : (p : Pair) (i : ℕ) → Worded p → Worded (gone_o i p)
gone_o_worded p i w = by_name (names (p.link (p.sock i).opener) i) where
  by_name : (b : Bool) → Worded (cond b (fail (p.sock i).opener p) (put i (end_o (p.sock i)) p))
  by_name true = fail_worded p (p.sock i).opener w
  by_name false = put_worded p i (end_o (p.sock i)) w (end_o_words _ _ (p.sock i) (w i))

gone_t_worded : (p : Pair) (i : ℕ) → Worded p → Worded (gone_t i p)
gone_t_worded p i w = by_name (names (p.link (other (p.sock i).opener)) i) where
  by_name : (b : Bool) → Worded (cond b (fail (other (p.sock i).opener) p) (put i (end_t (p.sock i)) p))
  by_name true = fail_worded p (other (p.sock i).opener) w
  by_name false = put_worded p i (end_t (p.sock i)) w (end_t_words _ _ (p.sock i) (w i))

-- the end of a node that is up
role_up_o : (o : OEnd) → role_o o ≡ IsUp → OUp ≡ o
role_up_o OPending h = cc
role_up_o OAsking h = cc
role_up_o OUp h = refl
role_up_o OEnded h = cc

role_up_t : (t : TEnd) → role_t t ≡ IsUp → TUp ≡ t
role_up_t TPending h = cc
role_up_t TOpen h = cc
role_up_t TUp h = refl
role_up_t TEnded h = cc

role_self : (i : ℕ) (b : Bool) → role (Up i b) i ≡ IsUp
role_self i b = ap (λ (c : Bool). cond c IsUp Not) (self_number i)

pub data IsUpOf (s : Sock) (x : Side) : Type 0 where
  Opener_up : x ≡ s.opener → OUp ≡ s.o → IsUpOf s x
  Target_up : x ≡ other s.opener → TUp ≡ s.t → IsUpOf s x

pub up_of : (p : Pair) (x : Side) (i : ℕ) (b : Bool) → Naming p → p.link x ≡ Up i b → IsUpOf (p.sock i) x
up_of p x i b n e = by_side (side_of (p.sock i).opener x) where
  by_side : IsSideOf (p.sock i).opener x → IsUpOf (p.sock i) x
  by_side (Own f) = Opener_up f (role_up_o _ ((n i).own ∙ ap (λ (z : Side). role (p.link z) i) (sym f) ∙ ap (λ (l : LinkState). role l i) e ∙ role_self i b))
  by_side (Peer f) = Target_up f (role_up_t _ ((n i).peer ∙ ap (λ (z : Side). role (p.link z) i) (sym f) ∙ ap (λ (l : LinkState). role l i) e ∙ role_self i b))

pub says_own : (s : Sock) (item : Item) → to_t item s ≡ says s.opener item s
says_own s item = ap (λ (b : Bool). cond b (to_t item s) (to_o item s)) (sym (same_self s.opener))

pub says_peer : (s : Sock) (item : Item) → to_o item s ≡ says (other s.opener) item s
says_peer s item = ap (λ (b : Bool). cond b (to_t item s) (to_o item s)) (sym (same_peer s.opener))

says_words : (p : Pair) (x : Side) (s : Sock) (item : Item) → Frames false false (item ∷ []) → Frames true false (item ∷ []) → IsUpOf s x → WordsOf p s → WordsOf p (says x item s)
says_words p x s item f g (Opener_up e up) w = subst (λ (z : Side). WordsOf p (says z item s)) (sym e) (subst (WordsOf p) (says_own s item) (to_t_words _ _ s item (sym up) g w))
says_words p x s item f g (Target_up e up) w = subst (λ (z : Side). WordsOf p (says z item s)) (sym e) (subst (WordsOf p) (says_peer s item) (to_o_words _ _ s item (sym up) f w))

said_worded : (p : Pair) (x : Side) (i : ℕ) (b : Bool) (item : Item) → Frames false false (item ∷ []) → Frames true false (item ∷ []) → Naming p → p.link x ≡ Up i b → Worded p → Worded (put i (says x item (p.sock i)) p)
said_worded p x i b item f g n e w = put_worded p i (says x item (p.sock i)) w (says_words p x (p.sock i) item f g (up_of p x i b n e) (w i))

-- requests
module _ (i : ℕ) (w : List Item) (p : Pair) (n : Naming p) (ws : Worded p) (is_open : TOpen ≡ (p.sock i).t) (first : Request ∷ w ≡ (p.sock i).in_t) where
  abbrev at : Sock
  at = record (p.sock i) { in_t = w }

  decline_worded : (item : Item) → Answers (p.shut (other (p.sock i).opener)) (item ∷ []) → Worded (decline item i at p)
  decline_worded item f = put_worded p i (end_t (to_o item at)) ws (decline_words _ _ (p.sock i) w (ws i) is_open first item f)

  accept_worded : (q : Pair) (y : Side) → Worded q → WordsOf q (record (to_o Accepted at) { t = TUp }) → Worded (accept y i at q)
  accept_worded q y wq here = put_worded q i (record (to_o Accepted at) { t = TUp }) wq here

  accepted_words : WordsOf p (record (to_o Accepted at) { t = TUp })
  accepted_words = accept_words _ _ (p.sock i) w (ws i) is_open first

  probe_worded : (y : Side) (u : ℕ) (b : Bool) → p.link y ≡ Up u b → Worded (probe y u b (decline Crossed i at p))
  probe_worded y u true e = decline_worded Crossed refl
  probe_worded y u false e = said_worded (decline Crossed i at p) y u false Probe tt tt (decline_keeps i at p refl refl is_open n Crossed) e (decline_worded Crossed refl)

  answer_worded : (y : Side) (k : LinkState) → p.link y ≡ k → Worded (answer y k i at p)
  answer_worded y Idle e = accept_worded p y ws accepted_words
  answer_worded y AwaitOther e = accept_worded p y ws accepted_words
  answer_worded Lesser (Dialing d) e = accept_worded (let_go Lesser (Dialing d) p) Lesser (let_go_worded p Lesser (Dialing d) ws) accepted_words
  answer_worded Greater (Dialing d) e = decline_worded Crossed refl
  answer_worded y (Up u b) e = probe_worded y u b e

  request_worded : (down : Bool) → p.shut (other (p.sock i).opener) ≡ down → Worded (request down (other (p.sock i).opener) i at p)
  request_worded true e = decline_worded Invalid (e, refl)
  request_worded false e = answer_worded (other (p.sock i).opener) _ refl

read_t_worded : (e : TEnd) (w : List Item) (p : Pair) (i : ℕ) → Naming p → Worded p → e ≡ (p.sock i).t → w ≡ (p.sock i).in_t → Worded (read_t e w i (p.sock i) p)
read_t_worded TOpen (Request ∷ w) p i n ws h g = request_worded i w p n ws h g (p.shut (other (p.sock i).opener)) refl
read_t_worded TUp (Data ∷ w) p i n ws h g = put_worded p i (record (p.sock i) { in_t = w }) ws (next_t_words _ _ (p.sock i) Data w (ws i) h g)
read_t_worded TUp (Probe ∷ w) p i n ws h g = put_worded p i (to_o Ack (record (p.sock i) { in_t = w })) ws (ack_o_words _ _ (p.sock i) w h g (ws i))
read_t_worded TUp (Ack ∷ w) p i n ws h g = put_worded p i (record (p.sock i) { in_t = w }) ws (next_t_words _ _ (p.sock i) Ack w (ws i) h g)
read_t_worded TUp (EndClosed ∷ w) p i n ws h g = fail_worded p (other (p.sock i).opener) ws
read_t_worded e w p i n ws h g = ws

read_o_worded : (e : OEnd) (w : List Item) (p : Pair) (i : ℕ) → Worded p → e ≡ (p.sock i).o → w ≡ (p.sock i).in_o → Worded (read_o e w i (p.sock i) p)
read_o_worded OAsking (Accepted ∷ w) p i ws h g = put_worded p i (record (p.sock i) { o = OUp; in_o = w }) ws (raised_words _ _ (p.sock i) w h g (ws i))
read_o_worded OAsking (Crossed ∷ w) p i ws h g = put_worded p i (end_o (p.sock i)) ws (end_o_words _ _ (p.sock i) (ws i))
read_o_worded OAsking (Invalid ∷ w) p i ws h g = fail_worded p (p.sock i).opener ws
read_o_worded OUp (Data ∷ w) p i ws h g = put_worded p i (record (p.sock i) { in_o = w }) ws (next_o_words _ _ (p.sock i) Data w (ws i) h g)
read_o_worded OUp (Probe ∷ w) p i ws h g = put_worded p i (to_t Ack (record (p.sock i) { in_o = w })) ws (ack_t_words _ _ (p.sock i) w h g (ws i))
read_o_worded OUp (Ack ∷ w) p i ws h g = put_worded p i (record (p.sock i) { in_o = w }) ws (next_o_words _ _ (p.sock i) Ack w (ws i) h g)
read_o_worded OUp (EndClosed ∷ w) p i ws h g = fail_worded p (p.sock i).opener ws
read_o_worded e w p i ws h g = ws

-- a node shuts down
shutting_words : (p : Pair) (x y : Side) (s : Sock) → Words (p.shut y) (p.shut (other y)) s → Words ((shutting x p).shut y) ((shutting x p).shut (other y)) s
shutting_words p Lesser Lesser s w = shut_o_words _ _ s w
shutting_words p Lesser Greater s w = shut_t_words _ _ s w
shutting_words p Greater Lesser s w = shut_t_words _ _ s w
shutting_words p Greater Greater s w = shut_o_words _ _ s w

closing_words : (q : Pair) (x : Side) (s : Sock) → q.shut x ≡ true → IsUpOf s x → WordsOf q s → WordsOf q (end_of x (says x EndClosed s))
closing_words q x s down (Opener_up e up) w = subst (λ (z : Side). WordsOf q (end_of z (says z EndClosed s))) (sym e)
    (subst (λ (z : Sock). WordsOf q (end_of s.opener z)) (says_own s EndClosed) (rw same_self (closed_o_words _ _ s (ap q.shut (sym e) ∙ down) up w)))
closing_words q x s down (Target_up e up) w = subst (λ (z : Side). WordsOf q (end_of z (says z EndClosed s))) (sym e)
    (subst (λ (z : Sock). WordsOf q (end_of (other s.opener) z)) (says_peer s EndClosed) (rw same_peer (closed_t_words _ _ s (ap q.shut (sym e) ∙ down) up w)))

shut_worded : (q : Pair) (x : Side) (k : LinkState) → Naming q → Worded q → q.shut x ≡ true → q.link x ≡ k → Worded (shut_down x k q)
shut_worded q x Idle n w down e = w
shut_worded q x AwaitOther n w down e = w
shut_worded q x (Dialing i) n w down e = let_go_worded q x (Dialing i) w
shut_worded q x (Up i b) n w down e =
    let s : Sock = says x EndClosed (q.sock i) in
    subst (λ (z : Sock). Worded (put i (end_of x z) (put i s q))) (sym (put_here i s q))
    (put_but (put i s q) i (end_of x s) (λ j h. subst (WordsOf q) (sym (put_there i j s q h)) (w j)) (closing_words q x (q.sock i) down (up_of q x i b n e) (w i)))

say_worded : (p : Pair) (x : Side) (k : LinkState) → Naming p → Worded p → p.link x ≡ k → Worded (say x k p)
say_worded p x Idle n w e = w
say_worded p x AwaitOther n w e = w
say_worded p x (Dialing i) n w e = w
say_worded p x (Up i b) n w e = said_worded p x i b Data tt tt n e w

is_shut : (p : Pair) (x : Side) → (shutting x p).shut x ≡ true
is_shut p x = ap (λ (b : Bool). cond b true (p.shut x)) (same_self x)

pub words_kept : (m : Move) (p : Pair) → Allowed m p → Naming p → Worded p → Worded (opened m p)
words_kept (Want x i) p is n w = put_worded p i (fresh x) w (fresh_words _ _ x)
words_kept (Join i) p is n w = put_worded p i (to_t Request (record (p.sock i) { o = OAsking })) w (join_words _ _ (p.sock i) (sym is) (w i))
words_kept (Come i) p is n w = put_worded p i (record (p.sock i) { t = TOpen }) w (come_words _ _ (p.sock i) (sym is) (w i))
words_kept (Read_o i) p is n w = read_o_worded (p.sock i).o (p.sock i).in_o p i w refl refl
words_kept (Read_t i) p is n w = read_t_worded (p.sock i).t (p.sock i).in_t p i n w refl refl
words_kept (End_o i) p is n w = gone_o_worded p i w
words_kept (End_t i) p is n w = gone_t_worded p i w
words_kept (Refuse i) p is n w = gone_o_worded (troubled p) i w
words_kept (Lose_o i) p is n w = gone_o_worded (troubled p) i w
words_kept (Lose_t i) p is n w = gone_t_worded (troubled p) i w
words_kept (Cut_o i) p is n w = put_worded p i (record (p.sock i) { cut_o = true; in_o = [] }) w (cut_o_words _ _ (p.sock i) is (w i))
words_kept (Cut_t i) p is n w = put_worded p i (record (p.sock i) { cut_t = true; in_t = [] }) w (cut_t_words _ _ (p.sock i) is (w i))
words_kept (Late x) p is n w = fail_worded (troubled p) x w
words_kept (Timer x) p is n w = fail_worded p x w
words_kept (Shut x) p is n w = shut_worded (shutting x p) x (p.link x) n (λ i. shutting_words p x (p.sock i).opener (p.sock i) (w i)) (is_shut p x) refl
words_kept (Say x) p is n w = say_worded p x (p.link x) n w refl
words_kept Settled p is n w = w

pub start_worded : (away : Side → Bool) → Worded (start away)
start_worded away i = dead_words _ _
