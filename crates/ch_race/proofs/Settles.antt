-- Settling ends: a pair that isn't still has a visit, each move of settling lowers the weight, and then the timers lead to rest.
use Rattle.std.proofs.Common.{◌≡◌, ◌⊎◌, inl, inr, ◌<◌, ◌≤◌, ℕ, zero, suc, ◌+◌, nat_eq, nat_lt, Bool, true, false, List, [], ◌∷◌, ◌++◌, length, refl, ap, sym, ◌∙◌, subst, arith}
use Rattle.std.proofs.lemmas.Bool.Decides.{nat_tests}
use Rattle.ch_link.specs.declared.LinkState.{LinkState}
use Rattle.ch_link.specs.declared.LinkState.TheVariants.{Idle, Dialing, AwaitOther, Up}
use Rattle.ch_link.specs.Table.{step_of}
use Rattle.ch_link.specs.declared.LinkIn.TheVariants as inputs
use Rattle.ch_race.specs.Pair.{Side, Lesser, Greater, is_greater, OEnd, OPending, OAsking, OUp, OEnded, TEnd, TPending, TOpen, TUp, TEnded, Item, Sock, Pair, point}
use Rattle.ch_race.specs.Moves.{Move, obeys, Join, Come, Read_o, Read_t, End_o, End_t, Timer, after, Allowed, run, AllAllowed, IsTimed, IsOpen_o, IsOpen_t, IsStill, AllStill, AtRest}
use Rattle.ch_race.specs.Rest.{Quiescent}
use Rattle.ch_race.specs.Measure.{weigh_link, waiting, whole}
use Rattle.ch_race.specs.Settle.{Beyond, IsWithin, AllWithin, Visits, AllVisits, Settles, AllSettle, timer_of, timers, SettlesBy}
use Rattle.ch_race.specs.Invariant.{Invariant}
use Rattle.ch_race.proofs.Frame.{by_test}
use Rattle.ch_race.proofs.Opens.{opens, late_row}
use Rattle.ch_race.proofs.QuietMoves.{when_still}
use Rattle.ch_race.proofs.Measures.{unread_expected_o, unread_expected_t}
use Rattle.ch_race.proofs.Waits.{waits_less, visit_lowers_whole}
use Rattle.ch_race.proofs.Runs.{invariant_after, invariant_run, run_append, allowed_append}
use Rattle.ch_race.proofs.Within.{bounded, beyond_after, beyond_run, visit_within}

fires : (x : Side) (p : Pair) → p.link x ≡ AwaitOther → after (Timer x) p ≡ point x Idle p
fires x p e = ap (λ (k : LinkState). obeys x k 0 (step_of k inputs.Late (is_greater x)) p) e ∙ late_row x AwaitOther p refl

not_true : false ≡ true → ⊥
not_true e = cc

awaits : (k : LinkState) → IsTimed k → ((d : ℕ) → k ≡ Dialing d → ⊥) → ((u : ℕ) → k ≡ Up u true → ⊥) → k ≡ AwaitOther
awaits Idle h dials up = absurd (not_true h)
awaits AwaitOther h dials up = refl
awaits (Dialing d) h dials up = absurd (dials d refl)
awaits (Up u true) h dials up = absurd (up u refl)
awaits (Up u false) h dials up = absurd (not_true h)

visit_lowers : (n : ℕ) (m : Move) (p : Pair) → Invariant p → Beyond n p → Allowed m p → Visits n m p → whole n (after m p) < whole n p
visit_lowers n m p v b is visit = subst (λ (q : Pair). whole n q < whole n p) (sym (opens m p is v.named)) (visit_lowers_whole n p v.named (bounded n p v.named b) m is visit)

-- where all is still only a node that awaits has a timer
timer_lowers : (n : ℕ) (x : Side) (p : Pair) → Invariant p → IsTimed (p.link x) → AllStill p → whole n (after (Timer x) p) < whole n p
timer_lowers n x p v timed still =
    let quiet : Quiescent p = when_still p v still in
    let e : p.link x ≡ AwaitOther = awaits (p.link x) timed (quiet.no_dial x) (quiet.no_probe x) in
    let less : waiting (point x Idle p) < waiting p = waits_less x p e in
    let here : whole n (point x Idle p) < whole n p = omega arith in
    subst (λ (q : Pair). whole n q < whole n p) (sym (fires x p e)) here

pub lowers : (n : ℕ) (m : Move) (p : Pair) → Invariant p → Beyond n p → Allowed m p → Settles n m p → whole n (after m p) < whole n p
lowers n (Timer x) p v b is s = timer_lowers n x p v is.0 is.1
lowers n m p v b is s = visit_lowers n m p v b is s

settle_within : (n : ℕ) (m : Move) (p : Pair) → Settles n m p → IsWithin n m
settle_within n (Timer x) p s = tt
settle_within n m p s = visit_within n m p s

-- moves of settling in any order: no more than the weight
pub any_order : (n : ℕ) (ms : List Move) (p : Pair) → Invariant p → Beyond n p → AllAllowed ms p → AllSettle n ms p → length ms + whole n (run ms p) ≤ whole n p
any_order n [] p v b are settle = omega arith
any_order n (m ∷ ms) p v b (is, are) (s, settle) =
    let less : whole n (after m p) < whole n p = lowers n m p v b is s in
    let rest : length ms + whole n (run ms (after m p)) ≤ whole n (after m p) =
    any_order n ms (after m p) (invariant_after m p is v) (beyond_after n m p is (settle_within n m p s) v.named b) are settle in
    omega arith

-- a visit is a move of settling
visit_settles : (n : ℕ) (m : Move) (p : Pair) → Visits n m p → Settles n m p
visit_settles n (Timer x) p visit = absurd visit
visit_settles n m p visit = visit

visits_settle : (n : ℕ) (ms : List Move) (p : Pair) → AllVisits n ms p → AllSettle n ms p
visits_settle n [] p visits = tt
visits_settle n (m ∷ ms) p (visit, visits) = (visit_settles n m p visit, visits_settle n ms (after m p) visits)

visits_within : (n : ℕ) (ms : List Move) (p : Pair) → AllVisits n ms p → AllWithin n ms
visits_within n [] p visits = tt
visits_within n (m ∷ ms) p (visit, visits) = (visit_within n m p visit, visits_within n ms (after m p) visits)

visits_append : (n : ℕ) (ms ns : List Move) (p : Pair) → AllVisits n ms p → AllVisits n ns (run ms p) → AllVisits n (ms ++ ns) p
visits_append n [] ns p visits more = more
visits_append n (m ∷ ms) ns p (visit, visits) more = (visit, visits_append n ms ns (after m p) visits more)

-- what an end has to do
data Task (is_open : Type 0) (w : List Item) (cut : Bool) (gone : Type 0) : Type 0 where
  Rests : (is_open → (w ≡ []) × (cut ≡ false) × (gone → ⊥)) → Task is_open w cut gone
  Reads : is_open → (w ≡ [] → ⊥) → Task is_open w cut gone
  Ends : is_open → w ≡ [] → (cut ≡ true) ⊎ gone → Task is_open w cut gone

data Stands (gone : Type 0) : Type 0 where
  Gone : gone → Stands gone
  Stays : (gone → ⊥) → Stands gone

stands_o : (o : OEnd) → Stands (o ≡ OEnded)
stands_o OPending = Stays (λ e. cc)
stands_o OAsking = Stays (λ e. cc)
stands_o OUp = Stays (λ e. cc)
stands_o OEnded = Gone refl

stands_t : (t : TEnd) → Stands (t ≡ TEnded)
stands_t TPending = Stays (λ e. cc)
stands_t TOpen = Stays (λ e. cc)
stands_t TUp = Stays (λ e. cc)
stands_t TEnded = Gone refl

not_empty : (item : Item) (w : List Item) → item ∷ w ≡ [] → ⊥
not_empty item w e = cc

open_task : (is_open : Type 0) (w : List Item) (cut : Bool) (gone : Type 0) → is_open → Stands gone → Task is_open w cut gone
open_task is_open (item ∷ w) cut gone h s = Reads h (not_empty item w)
open_task is_open [] true gone h s = Ends h refl (inl refl)
open_task is_open [] false gone h (Gone g) = Ends h refl (inr g)
open_task is_open [] false gone h (Stays f) = Rests (λ k. (refl, refl, f))

task_o : (o : OEnd) (t : TEnd) (w : List Item) (cut : Bool) → Task (IsOpen_o o) w cut (t ≡ TEnded)
task_o OPending t w cut = Rests (λ h. absurd h)
task_o OAsking t w cut = open_task (Unit {0}) w cut (t ≡ TEnded) tt (stands_t t)
task_o OUp t w cut = open_task (Unit {0}) w cut (t ≡ TEnded) tt (stands_t t)
task_o OEnded t w cut = Rests (λ h. absurd h)

task_t : (o : OEnd) (t : TEnd) (w : List Item) (cut : Bool) → Task (IsOpen_t t) w cut (o ≡ OEnded)
task_t o TPending w cut = Rests (λ h. absurd h)
task_t o TOpen w cut = open_task (Unit {0}) w cut (o ≡ OEnded) tt (stands_o o)
task_t o TUp w cut = open_task (Unit {0}) w cut (o ≡ OEnded) tt (stands_o o)
task_t o TEnded w cut = Rests (λ h. absurd h)

joins : (o : OEnd) → (o ≡ OPending) ⊎ (o ≡ OPending → ⊥)
joins OPending = inl refl
joins OAsking = inr (λ e. cc)
joins OUp = inr (λ e. cc)
joins OEnded = inr (λ e. cc)

comes : (t : TEnd) → (t ≡ TPending) ⊎ (t ≡ TPending → ⊥)
comes TPending = inl refl
comes TOpen = inr (λ e. cc)
comes TUp = inr (λ e. cc)
comes TEnded = inr (λ e. cc)

abbrev pub Visit : ℕ → Pair → Type 0
Visit n p = (m : Move) × Allowed m p × Visits n m p

module _ (n : ℕ) (p : Pair) (v : Invariant p) where
  look_t : (i : ℕ) → i < n → ((p.sock i).o ≡ OPending → ⊥) → ((p.sock i).t ≡ TPending → ⊥)
      → (IsOpen_o (p.sock i).o → ((p.sock i).in_o ≡ []) × ((p.sock i).cut_o ≡ false) × ((p.sock i).t ≡ TEnded → ⊥))
      → Task (IsOpen_t (p.sock i).t) (p.sock i).in_t (p.sock i).cut_t ((p.sock i).o ≡ OEnded) → IsStill (p.sock i) ⊎ Visit n p
  look_t i h j c ro (Rests f) = inl (record { joined = j; came = c; read_o = ro; read_t = f })
  look_t i h j c ro (Reads op f) = inr (Read_t i, tt, (h, unread_expected_t p i v.words op f))
  look_t i h j c ro (Ends op e f) = inr (End_t i, (op, e, f), h)

  look_o : (i : ℕ) → i < n → ((p.sock i).o ≡ OPending → ⊥) → ((p.sock i).t ≡ TPending → ⊥)
      → Task (IsOpen_o (p.sock i).o) (p.sock i).in_o (p.sock i).cut_o ((p.sock i).t ≡ TEnded) → IsStill (p.sock i) ⊎ Visit n p
  look_o i h j c (Rests f) = look_t i h j c f (task_t (p.sock i).o (p.sock i).t (p.sock i).in_t (p.sock i).cut_t)
  look_o i h j c (Reads op f) = inr (Read_o i, tt, (h, unread_expected_o p i v.words op f))
  look_o i h j c (Ends op e f) = inr (End_o i, (op, e, f), h)

  look_come : (i : ℕ) → i < n → ((p.sock i).o ≡ OPending → ⊥) → ((p.sock i).t ≡ TPending) ⊎ ((p.sock i).t ≡ TPending → ⊥) → IsStill (p.sock i) ⊎ Visit n p
  look_come i h j (inl e) = inr (Come i, e, h)
  look_come i h j (inr f) = look_o i h j f (task_o (p.sock i).o (p.sock i).t (p.sock i).in_o (p.sock i).cut_o)

  look_join : (i : ℕ) → i < n → ((p.sock i).o ≡ OPending) ⊎ ((p.sock i).o ≡ OPending → ⊥) → IsStill (p.sock i) ⊎ Visit n p
  look_join i h (inl e) = inr (Join i, e, h)
  look_join i h (inr f) = look_come i h f (comes (p.sock i).t)

  abbrev StillBelow : ℕ → Type 0
  StillBelow k = (i : ℕ) → i < k → IsStill (p.sock i)

  one_more : (k : ℕ) → StillBelow k → IsStill (p.sock k) → StillBelow (suc k)
  one_more k f s i h = by_test (nat_eq i k) (λ e. let same : i ≡ k = equal i k e in subst (λ (j : ℕ). IsStill (p.sock j)) (sym same) s) (λ e. f i (less i k h e)) where
    equal : (i k : ℕ) → nat_eq i k ≡ true → i ≡ k
    equal i k e = grind (arith, nat_tests)

    less : (i k : ℕ) → i < suc k → nat_eq i k ≡ false → i < k
    less i k h e = grind (arith, nat_tests)

  one_by : (k : ℕ) → StillBelow k ⊎ Visit n p → IsStill (p.sock k) ⊎ Visit n p → StillBelow (suc k) ⊎ Visit n p
  one_by k (inr m) s = inr m
  one_by k (inl f) (inl s) = inl (one_more k f s)
  one_by k (inl f) (inr m) = inr m

  look : (k : ℕ) → k ≤ n → StillBelow k ⊎ Visit n p
  look zero h = inl (λ i g. absurd (omega arith))
  look (suc k) h = one_by k (look k (omega arith)) (look_join k (omega arith) (joins (p.sock k).o))

  dead_still : (s : Sock) → s.o ≡ OEnded → s.t ≡ TEnded → IsStill s
  dead_still s o t = record {
    joined = λ e. pending (sym o ∙ e);
    came = λ e. waits (sym t ∙ e);
    read_o = λ h. absurd (subst IsOpen_o o h);
    read_t = λ h. absurd (subst IsOpen_t t h);
  } where
    pending : OEnded ≡ OPending → ⊥
    pending e = cc

    waits : TEnded ≡ TPending → ⊥
    waits e = cc

  all_still : Beyond n p → StillBelow n → AllStill p
  all_still b f i = by_test (nat_lt i n) (λ e. f i (below i n e)) (λ e. let ends : ((p.sock i).o ≡ OEnded) × ((p.sock i).t ≡ TEnded) = b i (past i n e) in dead_still (p.sock i) ends.0 ends.1) where
    below : (i n : ℕ) → nat_lt i n ≡ true → i < n
    below i n e = grind (arith, nat_tests)

    past : (i n : ℕ) → nat_lt i n ≡ false → n ≤ i
    past i n e = grind (arith, nat_tests)

  found : Beyond n p → StillBelow n ⊎ Visit n p → AllStill p ⊎ Visit n p
  found b (inl f) = inl (all_still b f)
  found b (inr m) = inr m

  -- where not all is still, something is to be done
  pub goes_on : Beyond n p → AllStill p ⊎ Visit n p
  goes_on b = found b (look n (omega arith))

-- visits that lead to where all is still
abbrev pub Quiets : ℕ → Pair → Type 0
Quiets n p = (ms : List Move) × AllAllowed ms p × AllVisits n ms p × AllStill (run ms p)

visits_by : (fuel n : ℕ) (p : Pair) → Invariant p → Beyond n p → whole n p ≤ fuel → AllStill p ⊎ Visit n p → Quiets n p
visits_by fuel n p v b h (inl still) = ([], tt, tt, still)
visits_by zero n p v b h (inr (m, is, visit)) = let less : whole n (after m p) < whole n p = visit_lowers n m p v b is visit in absurd (omega arith)
visits_by (suc fuel) n p v b h (inr (m, is, visit)) =
    let q : Pair = after m p in
    let vq : Invariant q = invariant_after m p is v in
    let bq : Beyond n q = beyond_after n m p is (visit_within n m p visit) v.named b in
    let less : whole n q < whole n p = visit_lowers n m p v b is visit in
    let rest : Quiets n q = visits_by fuel n q vq bq (omega arith) (goes_on n q vq bq) in
    (m ∷ rest.0, (is, rest.1), (visit, rest.2), rest.3)

to_still : (n : ℕ) (p : Pair) → Invariant p → Beyond n p → Quiets n p
to_still n p v b = visits_by (whole n p) n p v b (omega arith) (goes_on n p v b)

-- the round of timers
abbrev Rounds : List Move → Pair → Type 0
Rounds ms p = AllAllowed ms p × AtRest (run ms p)

one : (x : Side) (p : Pair) (ms : List Move) → p.link x ≡ AwaitOther → AllStill p → Rounds ms (point x Idle p) → Rounds (Timer x ∷ ms) p
one x p ms e still r =
    let next : Rounds ms (after (Timer x) p) = subst (Rounds ms) (sym (fires x p e)) r in
    (((subst IsTimed (sym e) refl, still), next.0), next.1)

done : (p : Pair) → AllStill p → (IsTimed (p.link Lesser) → ⊥) → (IsTimed (p.link Greater) → ⊥) → Rounds [] p
done p still l g = (tt, record { still = still; lesser = l; greater = g })

idle_off : (k : LinkState) → k ≡ Idle → IsTimed k → ⊥
idle_off k e h = not_true (subst IsTimed e h)

up_off : (k : LinkState) (u : ℕ) → k ≡ Up u false → IsTimed k → ⊥
up_off k u e h = not_true (subst IsTimed e h)

last : (q : Pair) (b : LinkState) → q.link Greater ≡ b → AllStill q → ((u : ℕ) → q.link Greater ≡ Up u true → ⊥) → ((d : ℕ) → q.link Greater ≡ Dialing d → ⊥) → (IsTimed (q.link Lesser) → ⊥) → Rounds (timer_of Greater b) q
last q Idle e still up dials l = done q still l (idle_off _ e)
last q (Up u false) e still up dials l = done q still l (up_off _ u e)
last q (Up u true) e still up dials l = absurd (up u e)
last q (Dialing d) e still up dials l = absurd (dials d e)
last q AwaitOther e still up dials l = one Greater q [] e still (done (point Greater Idle q) still l not_true)

first : (p : Pair) (a b : LinkState) → p.link Lesser ≡ a → p.link Greater ≡ b → AllStill p → Quiescent p → Rounds (timer_of Lesser a ++ timer_of Greater b) p
first p Idle b e f still quiet = last p b f still (quiet.no_probe Greater) (quiet.no_dial Greater) (idle_off _ e)
first p (Up u false) b e f still quiet = last p b f still (quiet.no_probe Greater) (quiet.no_dial Greater) (up_off _ u e)
first p (Up u true) b e f still quiet = absurd (quiet.no_probe Lesser u e)
first p (Dialing d) b e f still quiet = absurd (quiet.no_dial Lesser d e)
first p AwaitOther b e f still quiet = one Lesser p (timer_of Greater b) e still (last (point Lesser Idle p) b f still (quiet.no_probe Greater) (quiet.no_dial Greater) not_true)

pub rests : (p : Pair) → Invariant p → AllStill p → AllAllowed (timers p) p × AtRest (run (timers p) p)
rests p v still = first p (p.link Lesser) (p.link Greater) refl refl still (when_still p v still)

timers_of : (x : Side) (k : LinkState) → length (timer_of x k) ≤ weigh_link k
timers_of x Idle = omega arith
timers_of x AwaitOther = omega arith
timers_of x (Dialing d) = omega arith
timers_of x (Up u b) = omega arith

lengths : (ms ns : List Move) → length (ms ++ ns) ≡ length ms + length ns
lengths [] ns = omega arith
lengths (m ∷ ms) ns = let e : length (ms ++ ns) ≡ length ms + length ns = lengths ms ns in omega arith

-- one timer for each link that awaits
timers_most : (p : Pair) → length (timers p) ≤ waiting p
timers_most p =
    let a : length (timer_of Lesser (p.link Lesser)) ≤ weigh_link (p.link Lesser) = timers_of Lesser (p.link Lesser) in
    let b : length (timer_of Greater (p.link Greater)) ≤ weigh_link (p.link Greater) = timers_of Greater (p.link Greater) in
    let e = lengths (timer_of Lesser (p.link Lesser)) (timer_of Greater (p.link Greater)) in
    omega arith

-- visits that leave all still are completed by the timers
pub completed : (n : ℕ) (p : Pair) → Invariant p → Beyond n p → (ms : List Move) → AllAllowed ms p → AllVisits n ms p → AllStill (run ms p) → SettlesBy n ms p
completed n p v b ms are visits still =
    let q : Pair = run ms p in
    let round : AllAllowed (timers q) q × AtRest (run (timers q) q) = rests q (invariant_run ms p are v) still in
    let at_most : length ms + whole n q ≤ whole n p = any_order n ms p v b are (visits_settle n ms p visits) in
    let last : length (timers q) ≤ waiting q = timers_most q in
    let all : length (ms ++ timers q) ≡ length ms + length (timers q) = lengths ms (timers q) in
    record {
      visited = visits;
      allowed = allowed_append ms (timers q) p are round.0;
      at_most = omega arith;
      rest = subst AtRest (sym (run_append ms (timers q) p)) round.1;
    }

-- whatever visits were done, more complete them
pub settles : (n : ℕ) (p : Pair) → Invariant p → Beyond n p → (ms : List Move) → AllAllowed ms p → AllVisits n ms p → (more : List Move) × SettlesBy n (ms ++ more) p
settles n p v b ms are visits =
    let q : Pair = run ms p in
    let found : Quiets n q = to_still n q (invariant_run ms p are v) (beyond_run n ms p are (visits_within n ms p visits) v b) in (
      found.0,
      completed n p v b (ms ++ found.0) (allowed_append ms found.0 p are found.1) (visits_append n ms found.0 p visits found.2)
          (subst AllStill (sym (run_append ms found.0 p)) found.3),
    )
