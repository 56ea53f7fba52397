-- One thing after another of what a node does: what holds of each act list and node that is given.
use Rattle.std.proofs.Common.{◌≡◌, List, ◌++◌, Ok, Err, subst}
use Rattle.std.specs.Prelude.{Result}
use Rattle.ch_model.specs.declared.act.Act.{Act}
use Rattle.ch_model.specs.NodeState.{NodeState}
use Rattle.ch_model.specs.NodeActs.{◌>>=◌, Done, after, stopping}

-- what holds of acts and of the node after them
abbrev pub Claim : Type 1
Claim = List Act → NodeState → Type 0

-- it holds of what was done, where anything was
abbrev pub Holds : {E : Type 0} → Claim → Result (List Act × NodeState) E → Type 0
Holds P (Ok done) = P done.0 done.1
Holds P (Err e) = Unit {0}

pub bound : {A E : Type 0} (P : Claim) (given : Result A E) (f : A → Result (List Act × NodeState) E) → ((x : A) → Holds P (f x)) → Holds P (given >>= f)
bound P (Ok x) f k = k x
bound P (Err e) f k = tt

pub stopped : (P : Claim) (done : Done) → Holds P done → Holds P (stopping done)
stopped P (Ok done) k = k
stopped P (Err stop) k = tt

-- what is done after some acts
pub later : (P Q : Claim) (told : List Act) (more : Done) → ((done : List Act) (node : NodeState) → Q done node → P (told ++ done) node) → Holds Q more → Holds P (after told more)
later P Q told (Ok done) f k = f done.0 done.1 k
later P Q told (Err stop) f k = tt

-- where one holds the other does too
pub so_too : {E : Type 0} (P Q : Claim) (given : Result (List Act × NodeState) E) → ((done : List Act) (node : NodeState) → P done node → Q done node) → Holds P given → Holds Q given
so_too P Q (Ok done) f k = f done.0 done.1 k
so_too P Q (Err e) f k = tt

pub given_so : {E : Type 0} (P : Claim) (given : Result (List Act × NodeState) E) (done : List Act) (after : NodeState) → Holds P given → given ≡ Ok (done, after) → P done after
given_so P (Ok one) done after k e = let same : one ≡ (done, after) = cc in subst (λ (p : List Act × NodeState). P p.0 p.1) same k
given_so P (Err d) done after k e = absurd cc
