-- A host holds nothing of an end that is pending, whatever it does.
use Rattle.std.proofs.Common.{◌≡◌, ℕ, Bool, true, false, cond, List, [], ◌∷◌, refl, sym, ap, ◌∙◌, subst}
use Rattle.std.specs.Option.{option_map}
use Rattle.std.specs.Prelude.{find, slice_get, slice_set, Option, Some, None, ◌==◌}
use Rattle.ch_reader.specs.declared.item.Expected.{Expected}
use Rattle.ch_reader.specs.declared.item.Item.{Item}
use Rattle.ch_model.specs.declared.step.Step.{Step}
use Rattle.ch_model.specs.declared.step.Step.TheVariants as steps
use Rattle.ch_model.specs.HostState.{Socket, HostState}
use Rattle.ch_model.specs.HostSteps.{is_socket}
use Rattle.ch_model.specs.Stages.{Stage, Pending, Open, Ended, is_pending, is_ended}
use Rattle.ch_model.specs.WorldState.{Cell}
use Rattle.ch_laws_ends.proofs.Known.{pending_is}
use Rattle.ch_laws_ends.proofs.Places.{some_is, set_split}
use Rattle.ch_laws_log.specs.HostEnds.{stage_at, stage_after, stage_after_all, IsNewTo, AreNewTo, Tells}
use Rattle.ch_laws_reads.specs.Reads.{AreRead, HasRead, GoesOn, IsKept, IsFresh, Reads, reads_of}
use Rattle.ch_laws_calls.proofs.SoundHears.{Becomes, found_after}
use Rattle.ch_laws_messages.specs.ArrivedFed.{HoldsNone}
use Rattle.ch_laws_messages.proofs.ArrivedFronts.{none_whole}

-- so it is of one host
abbrev pub HostHoldsNone : HostState → Type 0
HostHoldsNone host = (n : ℕ) (known : Socket) → find (is_socket n) host.sockets ≡ Some known → is_pending known.stage ≡ true → known.since ≡ []

-- ---- stages

-- a step leaves no end pending that wasn't
step_pending : (n : ℕ) (step : Step) (stage : Stage) → IsNewTo n step (Some stage) → (next : Stage) → stage_after n step (Some stage) ≡ Some next → next ≡ Pending → stage ≡ Pending
step_pending n (steps.Dial sock end peer) stage new next is p = by_test (sock == n) refl is where
  by_test : (b : Bool) → (sock == n) ≡ b → ◌≡◌ {A = Option Stage} (cond b (Some Pending) (Some stage)) (Some next) → stage ≡ Pending
  by_test true h is = let none : ◌≡◌ {A = Option Stage} (Some stage) None = new h in absurd cc
  by_test false h is = some_is stage next is ∙ p
step_pending n (steps.Down sock) stage new next is p = by_test (sock == n) is where
  by_test : (b : Bool) → ◌≡◌ {A = Option Stage} (cond b (Some Ended) (Some stage)) (Some next) → stage ≡ Pending
  by_test true is = let no : Ended ≡ Pending = some_is Ended next is ∙ p in absurd cc
  by_test false is = some_is stage next is ∙ p
step_pending n (steps.Left sock) stage new next is p = by_test (sock == n) is where
  by_test : (b : Bool) → ◌≡◌ {A = Option Stage} (cond b (Some Ended) (Some stage)) (Some next) → stage ≡ Pending
  by_test true is = let no : Ended ≡ Pending = some_is Ended next is ∙ p in absurd cc
  by_test false is = some_is stage next is ∙ p
step_pending n (steps.Read sock) stage new next is p = some_is stage next is ∙ p
step_pending n (steps.Write sock bytes said) stage new next is p = some_is stage next is ∙ p
step_pending n (steps.Up sock) stage new next is p = some_is stage next is ∙ p
step_pending n (steps.Broke end peer why) stage new next is p = some_is stage next is ∙ p
step_pending n (steps.Post end event) stage new next is p = some_is stage next is ∙ p

-- an end that is there is there after a step
step_there : (n : ℕ) (step : Step) (stage : Stage) → (next : Stage) × (stage_after n step (Some stage) ≡ Some next)
step_there n (steps.Dial sock end peer) stage = by_test (sock == n) where
  by_test : (b : Bool) → (next : Stage) × (◌≡◌ {A = Option Stage} (cond b (Some Pending) (Some stage)) (Some next))
  by_test true = (Pending, refl)
  by_test false = (stage, refl)
step_there n (steps.Down sock) stage = by_test (sock == n) where
  by_test : (b : Bool) → (next : Stage) × (◌≡◌ {A = Option Stage} (cond b (Some Ended) (Some stage)) (Some next))
  by_test true = (Ended, refl)
  by_test false = (stage, refl)
step_there n (steps.Left sock) stage = by_test (sock == n) where
  by_test : (b : Bool) → (next : Stage) × (◌≡◌ {A = Option Stage} (cond b (Some Ended) (Some stage)) (Some next))
  by_test true = (Ended, refl)
  by_test false = (stage, refl)
step_there n (steps.Read sock) stage = (stage, refl)
step_there n (steps.Write sock bytes said) stage = (stage, refl)
step_there n (steps.Up sock) stage = (stage, refl)
step_there n (steps.Broke end peer why) stage = (stage, refl)
step_there n (steps.Post end event) stage = (stage, refl)

-- nor do steps
steps_pending : (n : ℕ) (told : List Step) (stage : Stage) → AreNewTo n told (Some stage) → stage_after_all n told (Some stage) ≡ Some Pending → stage ≡ Pending
steps_pending n [] stage new is = some_is stage Pending is
steps_pending n (step ∷ rest) stage new is = let next = step_there n step stage in
    step_pending n step stage new.0 next.0 next.1 (steps_pending n rest next.0 (subst (AreNewTo n rest) next.1 new.1) (ap (stage_after_all n rest) (sym next.1) ∙ is))

-- ---- a host

none_read : (e next : Expected) (left : List ℕ) (items : List Item) → AreRead e [] items next left → left ≡ []
none_read e next left [] r = r.1
none_read e next left (item ∷ items) r = absurd (none_whole e item r.0)

not_ended : (stage : Stage) → is_pending stage ≡ true → is_ended stage ≡ false
not_ended Pending h = refl
not_ended Open h = absurd cc
not_ended Ended h = absurd cc

-- what it does leaves it so
pub holds_on : (before after : HostState) (told : List Step) → Tells before told after → Reads before told after → HostHoldsNone before → HostHoldsNone after
holds_on before after told tells reads none n known found p = by_before (find (is_socket n) before.sockets) refl where
  stands : stage_at after n ≡ Some Pending
  stands = ap (option_map (λ (socket : Socket). socket.stage)) found ∙ ap Some (pending_is known.stage p)

  by_before : (o : Option Socket) → find (is_socket n) before.sockets ≡ o → known.since ≡ []
  by_before None was = (subst IsFresh found (reads.fresh n was) (not_ended known.stage p)).1
  by_before (Some old) was = none_read old.expected known.expected known.since read.items (subst (λ (l : List ℕ). AreRead old.expected l read.items known.expected known.since) (none n old was (ap is_pending pending)) read.front) where
    goes : GoesOn (reads_of n told) old known
    goes = subst (IsKept (reads_of n told) old) found (reads.known n old was)

    read : HasRead (reads_of n told) old known
    read = goes.read (not_ended known.stage p)

    at : stage_at before n ≡ Some old.stage
    at = ap (option_map (λ (socket : Socket). socket.stage)) was

    pending : old.stage ≡ Pending
    pending = steps_pending n told old.stage (subst (AreNewTo n told) at (tells.new n)) (ap (stage_after_all n told) (sym at) ∙ sym (tells.stages n) ∙ stands)

-- so does a record that isn't pending
pub holds_with : (host : HostState) (new : Socket) (told steps : List Step) (after : HostState) → Becomes host new told steps after → is_pending new.stage ≡ false → HostHoldsNone host → HostHoldsNone after
holds_with host new told steps after b off none n known found p = by_test (new.number == n) (sym (found_after host new told steps after b n) ∙ found) where
  by_test : (b : Bool) → cond b (Some new) (find (is_socket n) host.sockets) ≡ Some known → known.since ≡ []
  by_test true f = let is : new ≡ known = some_is new known f in let no : true ≡ false = sym p ∙ ap (λ (w : Socket). is_pending w.stage) (sym is) ∙ off in absurd cc
  by_test false f = none n known f p

-- ---- all hosts

pub holds_set : (cells : List (Cell × ℕ)) (place : ℕ) (cell now : Cell × ℕ) → slice_get cells place ≡ Some cell → HostHoldsNone now.0.host → HoldsNone cells → HoldsNone (slice_set cells place now)
holds_set cells place cell now at own all p c n known at_p found = set_split cells place cell now at (λ (p : ℕ) (c : Cell × ℕ). HostHoldsNone c.0.host) own (λ q d off there m k. all q d m k there) p c at_p n known found
