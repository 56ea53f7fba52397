-- The sockets' numbers at a site differ as long as its host hasn't failed.
use Rattle.std.proofs.Common.{◌≡◌, ℕ, Bool, true, false, List, Ok, Err, refl, sym, ap, subst}
use Rattle.std.specs.Prelude.{Result, Option, Some, None, option_map, MatchResult, IfErr, IsErrOf, OnErr}
use Rattle.ch_base.specs.declared.memory.Stop.{Stop}
use Rattle.ch_base.specs.declared.memory.Stop.TheVariants as stops
use Rattle.ch_model.specs.declared.step.EndError.{EndError}
use Rattle.ch_model.specs.declared.step.EndError.TheVariants as errors
use Rattle.ch_model.specs.declared.step.SocketEvent.{SocketEvent}
use Rattle.ch_model.specs.declared.step.Step.{Step}
use Rattle.ch_model.specs.HostState.{HostState}
use Rattle.ch_model.specs.Host.{host_on, host_next}
use Rattle.ch_endpoint.specs.Kept.{Kept}
use Rattle.ch_endpoint.specs.Calls.{Fails, Stops, Leaves}
use Rattle.ch_laws_items.specs.Kept.{Apart, AllKeepNoMore}
use Rattle.ch_laws_items.proofs.Events.{asking_stays, stays_apart}
use Rattle.ch_laws_items.proofs.Next.{next_fine}
use Rattle.ch_laws_items.proofs.Cells.{host_stays, none_left, one_first, fewer_kept}
use Rattle.ch_model.specs.NodeState.{NodeState}
use Rattle.ch_model.specs.WorldState.{Cell}
use Rattle.ch_model.specs.CellSteps.{all_items}
use Rattle.ch_cell.specs.Items.{NextItem}
use Rattle.ch_cell.specs.Stops.{Stops as CellStops}
use Rattle.ch_cell.proofs.Follows.{stop_first}

-- the sockets' numbers differ, unless the host has failed
abbrev pub Sound : Kept → Type 0
Sound host = host.failed ≡ false → Apart host.state.sockets

-- a host that answers hasn't failed
pub isnt : {X E : Type 0} {x : X} {e : E} (b : Bool) → (b ≡ true → IsErrOf {T = X} {E = E} (Ok x) e) → b ≡ false
isnt {X = X} {E = E} {x = x} {e = e} true spent = let never : IsErrOf {T = X} {E = E} (Ok x) e = spent refl in absurd cc
isnt false spent = refl

-- nor has one that stops because a count can't grow
pub isnt_worn : {X : Type 0} (b : Bool) → (b ≡ true → IsErrOf {T = X} {E = Stop} (Err stops.Worn) stops.OutOfMemory) → b ≡ false
isnt_worn {X = X} true spent = let never : IsErrOf {T = X} {E = Stop} (Err stops.Worn) stops.OutOfMemory = spent refl in absurd cc
isnt_worn false spent = refl

-- a failed host may be anything
failed : (new : Kept) → new.failed ≡ true → Sound new
failed new e = λ h. absurd cc

as_before : (old new : Kept) → Sound old → new ≡ old → Sound new
as_before old new a e = subst Sound (sym e) a

-- what an endpoint asks keeps it so
pub asked_sound : {X : Type 0} (view : X → List Step) (old new : Kept) (result : Result X EndError) (given : Result (List Step × HostState) EndError)
    → AllKeepNoMore old.state given → Sound old
    → MatchResult result (λ steps. given ≡ Ok (view steps, new.state)) (λ e. Fails e given) → IfErr result (λ e. Leaves old new e) → (old.failed ≡ true → IsErrOf result errors.OutOfMemory)
    → Sound new
asked_sound view old new (Ok steps) given k a does err spent = λ h. asking_stays old.state new.state (view steps) given k (a (isnt old.failed spent)) does
asked_sound view old new (Err errors.OutOfMemory) given k a does err spent = failed new err
asked_sound view old new (Err errors.Worn) given k a does err spent = as_before old new a err
asked_sound view old new (Err errors.NoEndPoint) given k a does err spent = as_before old new a err
asked_sound view old new (Err errors.NoConnection) given k a does err spent = as_before old new a err
asked_sound view old new (Err errors.QueueFull) given k a does err spent = as_before old new a err
asked_sound view old new (Err errors.PayloadLong) given k a does err spent = as_before old new a err
asked_sound view old new (Err errors.Spent) given k a does err spent = as_before old new a err

-- so does what happens to a socket or a timer
pub on_sound : {X : Type 0} (view : X → List Step) (event : SocketEvent) (old new : Kept) (result : Result X Stop)
    → Sound old → MatchResult result (λ steps. host_on old.state event ≡ Ok (view steps, new.state)) (λ e. Stops e (host_on old.state event)) → OnErr result (new.failed ≡ true) → (old.failed ≡ true → IsErrOf result stops.OutOfMemory)
    → Sound new
on_sound view event old new (Ok steps) a does err spent = λ h. stays_apart old.state new.state event (view steps) (a (isnt old.failed spent)) does
on_sound view event old new (Err e) a does err spent = failed new err

-- and so does each item
pub next_sound : {X : Type 0} (view : X → List Step) (old new : Kept) (result : Result (Option X) Stop)
    → Sound old → MatchResult result (λ next. host_next old.state ≡ Ok (option_map view next, new.state)) (λ e. Stops e (host_next old.state)) → OnErr result (new.failed ≡ true) → (old.failed ≡ true → IsErrOf result stops.OutOfMemory)
    → Sound new
next_sound view old new (Ok None) a does err spent = λ h. subst (λ (host : HostState). Apart host.sockets) (sym (host_stays old.state new.state does)) (a (isnt old.failed spent))
next_sound view old new (Ok (Some steps)) a does err spent = λ h. let apart = a (isnt old.failed spent) in (next_fine old.state new.state (view steps) apart does).apart apart
next_sound view old new (Err e) a does err spent = failed new err

-- the next item of a site is the one that its host handles
next_here : {X : Type 0} (view : X → List Step) (nodes : List (ℕ × NodeState)) (old new : Kept) (result : Result (Option X) Stop)
    → Sound old → MatchResult result (λ next. host_next old.state ≡ Ok (option_map view next, new.state)) (λ e. Stops e (host_next old.state)) → (old.failed ≡ true → IsErrOf result stops.OutOfMemory)
    → MatchResult result (λ next. NextItem (record { host = old.state; nodes = nodes }) (option_map view next) (record { host = new.state; nodes = nodes })) (λ e. CellStops e (all_items (record { host = old.state; nodes = nodes })))
next_here view nodes old new (Ok None) a does spent = (none_left (record { host = old.state; nodes = nodes }) new.state (a (isnt old.failed spent)) does, ap (λ (host : HostState). record { host = host; nodes = nodes }) (host_stays old.state new.state does))
next_here view nodes old new (Ok (Some steps)) a does spent = let apart = a (isnt old.failed spent) in (one_first (record { host = old.state; nodes = nodes }) new.state (view steps) apart does, fewer_kept old.state new.state (view steps) apart does)
next_here view nodes old new (Err stops.OutOfMemory) a does spent = tt
next_here {X = X} view nodes old new (Err stops.Worn) a does spent = stop_first (record { host = old.state; nodes = nodes }) stops.Worn (a (isnt_worn {X = Option X} old.failed spent)) does

pub next_of : {X : Type 0} (view : X → List Step) (nodes : List (ℕ × NodeState)) (cell : Cell) (old new : Kept) (result : Result (Option X) Stop)
    → record { host = old.state; nodes = nodes } ≡ cell → Sound old → MatchResult result (λ next. host_next old.state ≡ Ok (option_map view next, new.state)) (λ e. Stops e (host_next old.state)) → (old.failed ≡ true → IsErrOf result stops.OutOfMemory)
    → MatchResult result (λ next. NextItem cell (option_map view next) (record { host = new.state; nodes = nodes })) (λ e. CellStops e (all_items cell))
next_of view nodes cell old new result seen a does spent = subst (λ (cell : Cell). MatchResult result (λ next. NextItem cell (option_map view next) (record { host = new.state; nodes = nodes })) (λ e. CellStops e (all_items cell))) seen (next_here view nodes old new result a does spent)
