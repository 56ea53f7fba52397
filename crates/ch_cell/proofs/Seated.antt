-- The node at an endpoint, by its place.
use Rattle.std.proofs.Common.{◌≡◌, ◌<◌, ℕ, suc, ◌+◌, Bool, true, false, not, cond, List, [], ◌∷◌, length, Ok, Err, refl, sym, ap, ◌∙◌, subst, nat_lt, ◌==◌, arith}
use Rattle.std.proofs.lemmas.Bool.{ltb-true, ltb-false}
use Rattle.std.proofs.lemmas.Bool.Decides.{nat_tests}
use Rattle.std.proofs.lemmas.List.Folds.{find_at}
use Rattle.std.specs.Prelude.{find, position, set, slice_get, slice_set, Result, Option, Some, None}
use Rattle.std.specs.List.{position_or_len}
use Rattle.ch_model.specs.declared.act.Act.{Act}
use Rattle.ch_model.specs.declared.command.CommandError.{CommandError}
use Rattle.ch_model.specs.NodeState.{NodeState}
use Rattle.ch_model.specs.CellSteps.{is_at, store_node}
use Rattle.std.specs.Prelude.{MatchResult, IfErr}
use Rattle.std.proofs.Common.{get_or}
use Rattle.std.proofs.lemmas.Option.{slice_get-get_or}
use Rattle.std.proofs.lemmas.List.{set-get_or}
use Rattle.ch_model.specs.declared.command.CommandError.TheVariants as errors
use Rattle.ch_node.specs.Kept.{Kept as NodeKept}
use Rattle.ch_node.specs.Calls.{Fails, Leaves}
use Rattle.ch_static.specs.declared.command.Command.{Command}
use Rattle.ch_cell.specs.Seats.{stored, seat_asked, stored_at, asked_of, asked_at, Answers, acts_in, seated, node_at, directed_from, directed_of}

number_is : (a b : ℕ) → (a == b) ≡ true → a ≡ b
number_is a b e = grind (arith, nat_tests)

at_front : {X : Type 0} (b : Bool) (x y : X) (xs ys : List X) (n : ℕ) → cond (not b) (1 + n) 0 < suc (length xs) → (n < length xs → set xs n y ≡ ys) → set (x ∷ xs) (cond (not b) (1 + n) 0) y ≡ cond b (y ∷ xs) (x ∷ ys)
at_front true x y xs ys n within ih = refl
at_front false x y xs ys n within ih =
    let e : 1 + n ≡ suc n = omega arith in
    let h : set xs n y ≡ ys = ih (omega arith) in
    rw (e, h) refl

stored_first : (end : ℕ) (node : NodeState) (nodes : List (ℕ × NodeState)) → position_or_len (is_at end) nodes < length nodes → set nodes (position_or_len (is_at end) nodes) (end, node) ≡ store_node end node nodes
stored_first end node [] within = absurd (omega arith)
stored_first end node (known ∷ rest) within = at_front (is_at end known) known (end, node) rest (store_node end node rest) (position_or_len (is_at end) rest) within (stored_first end node rest)

pub record Placed (end : ℕ) (nodes : List (ℕ × NodeState)) (place : ℕ) : Type 0 where
  pub first : position_or_len (is_at end) nodes ≡ place
  pub within : place < length nodes

pub placed : (end : ℕ) (nodes : List (ℕ × NodeState)) (place : ℕ) → position (is_at end) nodes ≡ Some place → Placed end nodes place
placed end nodes place e = by_test (nat_lt (position_or_len (is_at end) nodes) (length nodes)) refl e
  where
    by_test : (b : Bool) → nat_lt (position_or_len (is_at end) nodes) (length nodes) ≡ b → cond b (Some (position_or_len (is_at end) nodes)) None ≡ Some place → Placed end nodes place
    by_test true lt e = let same : position_or_len (is_at end) nodes ≡ place = cc in record { first = same; within = subst (λ (n : ℕ). n < length nodes) same (ltb-true _ _ lt) }
    by_test false lt e = absurd cc

found_passes : (end : ℕ) (nodes : List (ℕ × NodeState)) (node : ℕ × NodeState) → find (is_at end) nodes ≡ Some node → node.0 ≡ end
found_passes end [] node e = absurd cc
found_passes end (known ∷ rest) node e = by_test (is_at end known) refl (found_passes end rest node) e
  where
    by_test : (b : Bool) → is_at end known ≡ b → (find (is_at end) rest ≡ Some node → node.0 ≡ end) → cond b (Some known) (find (is_at end) rest) ≡ Some node → node.0 ≡ end
    by_test true is ih e = let same : known ≡ node = cc in ap (λ (n : ℕ × NodeState). n.0) (sym same) ∙ number_is _ _ is
    by_test false is ih e = ih e

-- the node at an endpoint is asked at its place
pub asked_there : (f : NodeState → Result (List Act × NodeState) CommandError) (end : ℕ) (nodes : List (ℕ × NodeState)) (place : ℕ) → position (is_at end) nodes ≡ Some place → asked_at f nodes place ≡ seat_asked end f nodes
asked_there f end nodes place e = by_found (find (is_at end) nodes) refl
  where
    p : Placed end nodes place
    p = placed end nodes place e

    found : find (is_at end) nodes ≡ slice_get nodes place
    found = find_at (is_at end) nodes ∙ ap (slice_get nodes) p.first

    by_done : (node : ℕ × NodeState) → node.0 ≡ end → (done : Result (List Act × NodeState) CommandError) → stored_at nodes place node.0 done ≡ stored end nodes done
    by_done node own (Ok done) =
        let here : set nodes place (end, done.1) ≡ store_node end done.1 nodes = subst (λ (n : ℕ). set nodes n (end, done.1) ≡ store_node end done.1 nodes) p.first (stored_first end done.1 nodes (subst (λ (n : ℕ). n < length nodes) (sym p.first) p.within)) in
        let moved : set nodes place (node.0, done.1) ≡ store_node end done.1 nodes = ap (λ (n : ℕ). set nodes place (n, done.1)) own ∙ here in
        ap (λ (ns : List (ℕ × NodeState)). Ok (done.0, ns)) moved
    by_done node own (Err e) = refl

    by_found : (o : Option (ℕ × NodeState)) → find (is_at end) nodes ≡ o → asked_at f nodes place ≡ (elim o as (λ o. Option (Result (List Act × List (ℕ × NodeState)) CommandError)) [
      | None ↦ None
      | Some node ↦ Some (stored end nodes (f node.1))
    ])
    by_found None h = ap (asked_of f nodes place) (sym found ∙ h)
    by_found (Some node) h = ap (asked_of f nodes place) (sym found ∙ h) ∙ ap Some (by_done node (found_passes end nodes node h) (f node.1))

none_front : (b : Bool) (known : ℕ × NodeState) (rest : List (ℕ × NodeState)) (n : ℕ) (o : Option (ℕ × NodeState)) → (cond (not b) (1 + n) 0 < suc (length rest) → ⊥) → ((n < length rest → ⊥) → o ≡ None) → cond b (Some known) o ≡ None
none_front true known rest n o past ih = absurd (past (omega arith))
none_front false known rest n o past ih = rw (ih (λ h. past (omega arith))) refl

none_at : (end : ℕ) (nodes : List (ℕ × NodeState)) → (position_or_len (is_at end) nodes < length nodes → ⊥) → find (is_at end) nodes ≡ None
none_at end [] past = refl
none_at end (known ∷ rest) past = none_front (is_at end known) known rest (position_or_len (is_at end) rest) (find (is_at end) rest) past (none_at end rest)

-- where no node is at an endpoint, none is asked
pub asked_nowhere : (f : NodeState → Result (List Act × NodeState) CommandError) (end : ℕ) (nodes : List (ℕ × NodeState)) → position (is_at end) nodes ≡ None → seat_asked end f nodes ≡ None
asked_nowhere f end nodes e = past (nat_lt (position_or_len (is_at end) nodes) (length nodes)) refl e
  where
    past : (b : Bool) → nat_lt (position_or_len (is_at end) nodes) (length nodes) ≡ b → cond b (Some (position_or_len (is_at end) nodes)) None ≡ None → seat_asked end f nodes ≡ None
    past true lt e = absurd cc
    past false lt e = ap (λ (o : Option (ℕ × NodeState)). elim o as (λ o. Option (Result (List Act × List (ℕ × NodeState)) CommandError)) [
      | None ↦ None
      | Some node ↦ Some (stored end nodes (f node.1))
    ]) (none_at end nodes (λ h. absurd (omega (arith, h, ltb-false _ _ lt))))

-- ---- what was answered

-- what the node at an endpoint answered is what it is asked
pub told : {X : Type 0} (view : X → List Act) (f : NodeState → Result (List Act × NodeState) CommandError) (end : ℕ) (rows nodes : List (ℕ × NodeState)) (place : ℕ) (d seen : ℕ × NodeState) (mark : ℕ) (old new : NodeKept) (result : Result X CommandError)
    → rows ≡ nodes → position (is_at end) nodes ≡ Some place → seen ≡ get_or rows place d → (mark, old.state) ≡ seen
    → MatchResult result (λ acts. f old.state ≡ Ok (view acts, new.state)) (λ e. Fails e (f old.state)) → IfErr result (λ e. Leaves old new e)
    → Answers (seat_asked end f nodes) (Some (acts_in view result)) nodes (slice_set rows place (mark, new.state))
told {X = X} view f end rows nodes place d seen mark old new result same at is seat does err =
    subst (λ (o : Option (Result (List Act × List (ℕ × NodeState)) CommandError)). Answers o (Some (acts_in view result)) nodes (slice_set rows place (mark, new.state))) (sym here ∙ asked_there f end nodes place at)
    (subst (λ (ns : List (ℕ × NodeState)). Answers (Some (stored_at nodes place mark (f old.state))) (Some (acts_in view result)) nodes (slice_set ns place (mark, new.state))) (sym same) (by_result result does err))
  where
    p : Placed end nodes place
    p = placed end nodes place at

    node : (mark, old.state) ≡ get_or nodes place d
    node = seat ∙ is ∙ ap (λ (ns : List (ℕ × NodeState)). get_or ns place d) same

    here : asked_at f nodes place ≡ Some (stored_at nodes place mark (f old.state))
    here = ap (asked_of f nodes place) (slice_get-get_or nodes place d p.within ∙ ap Some (sym node))

    kept : new ≡ old → set nodes place (mark, new.state) ≡ nodes
    kept e = ap (λ (k : NodeKept). set nodes place (mark, k.state)) e ∙ ap (set nodes place) node ∙ set-get_or nodes place d

    stores : (given : Result (List Act × NodeState) CommandError) → f old.state ≡ given → stored_at nodes place mark (f old.state) ≡ stored_at nodes place mark given
    stores given e = ap (stored_at nodes place mark) e

    by_result : (result : Result X CommandError) → MatchResult result (λ acts. f old.state ≡ Ok (view acts, new.state)) (λ e. Fails e (f old.state)) → IfErr result (λ e. Leaves old new e) → Answers (Some (stored_at nodes place mark (f old.state))) (Some (acts_in view result)) nodes (set nodes place (mark, new.state))
    by_result (Ok acts) does err = stores (Ok (view acts, new.state)) does
    by_result (Err errors.OutOfMemory) does err = tt
    by_result (Err errors.Worn) does err = stores (Err errors.Worn) does
    by_result (Err errors.Unknown) does err = (stores (Err errors.Unknown) does, kept err)
    by_result (Err errors.Dead) does err = (stores (Err errors.Dead) does, kept err)
    by_result (Err errors.Long) does err = (stores (Err errors.Long) does, kept err)
    by_result (Err errors.Full) does err = (stores (Err errors.Full) does, kept err)
    by_result (Err errors.Spent) does err = (stores (Err errors.Spent) does, kept err)
    by_result (Err errors.Taken) does err = (stores (Err errors.Taken) does, kept err)
    by_result (Err errors.NoName) does err = (stores (Err errors.NoName) does, kept err)
    by_result (Err errors.NoRef) does err = (stores (Err errors.NoRef) does, kept err)
    by_result (Err errors.Empty) does err = (stores (Err errors.Empty) does, kept err)
    by_result (Err errors.Hale) does err = (stores (Err errors.Hale) does, kept err)

-- none is there, and none answers
pub told_nowhere : (f : NodeState → Result (List Act × NodeState) CommandError) (end : ℕ) (nodes : List (ℕ × NodeState)) → position (is_at end) nodes ≡ None → Answers (seat_asked end f nodes) None nodes nodes
told_nowhere f end nodes e = subst (λ (o : Option (Result (List Act × List (ℕ × NodeState)) CommandError)). Answers o None nodes nodes) (sym (asked_nowhere f end nodes e)) refl

-- ---- where a command is directed

-- the node at an endpoint stands at its place
there : {A : Type 0} (f : Option (ℕ × NodeState) → A) (end : ℕ) (rows nodes : List (ℕ × NodeState)) (place : ℕ) (d seen : ℕ × NodeState) → rows ≡ nodes → position (is_at end) nodes ≡ Some place → seen ≡ get_or rows place d → f (Some seen) ≡ f (find (is_at end) nodes)
there f end rows nodes place d seen same at is = ap f (ap Some is ∙ ap (λ (ns : List (ℕ × NodeState)). Some (get_or ns place d)) same ∙ sym (slice_get-get_or nodes place d p.within) ∙ ap (slice_get nodes) (sym p.first) ∙ sym (find_at (is_at end) nodes))
  where
    p : Placed end nodes place
    p = placed end nodes place at

pub directed_there : (by : ℕ) (command : Command) (end : ℕ) (rows nodes : List (ℕ × NodeState)) (place : ℕ) (d seen : ℕ × NodeState) → rows ≡ nodes → position (is_at end) nodes ≡ Some place → seen ≡ get_or rows place d → Some (directed_from by command seen.1) ≡ directed_of by command (find (is_at end) nodes)
directed_there by command = there (directed_of by command)

-- the node there is the one at its place
pub node_there : (end : ℕ) (rows nodes : List (ℕ × NodeState)) (place : ℕ) (d seen : ℕ × NodeState) → rows ≡ nodes → position (is_at end) nodes ≡ Some place → seen ≡ get_or rows place d → Some seen.1 ≡ node_at end nodes
node_there = there seated

-- no node is there
pub nowhere : (end : ℕ) (nodes : List (ℕ × NodeState)) → position (is_at end) nodes ≡ None → find (is_at end) nodes ≡ None
nowhere end nodes e = past (nat_lt (position_or_len (is_at end) nodes) (length nodes)) refl e
  where
    past : (b : Bool) → nat_lt (position_or_len (is_at end) nodes) (length nodes) ≡ b → cond b (Some (position_or_len (is_at end) nodes)) None ≡ None → find (is_at end) nodes ≡ None
    past true lt e = absurd cc
    past false lt e = none_at end nodes (λ h. absurd (omega (arith, h, ltb-false _ _ lt)))
