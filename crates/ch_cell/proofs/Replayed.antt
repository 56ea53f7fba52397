-- One more event of a history that is replayed.
use Rattle.std.proofs.Common.{◌≡◌, Bool, true, false, List, [], ◌∷◌, ◌++◌, Ok, Err, refl, sym, ap, subst}
use Rattle.ch_model.specs.declared.local.Happened.{Happened}
use Rattle.ch_model.specs.WorldState.{Cell}
use Rattle.ch_model.specs.Cell.{cell_step}
use Rattle.std.specs.Prelude.{Result, MatchResult, IsErrOf, OnErr}
use Rattle.std.specs.Result.{is_err}
use Rattle.ch_base.specs.declared.memory.Stop.{Stop}
use Rattle.ch_base.specs.declared.memory.Stop.TheVariants as stops
use Rattle.ch_model.specs.declared.local.LocalEvent.{LocalEvent}
use Rattle.ch_model.specs.declared.local.LocalEntries.{LocalEntries}
use Rattle.ch_cell.specs.Stops.{Stops}
use Rattle.ch_cell.specs.Kept.{Kept}
use Rattle.ch_cell.specs.Replay.{Makes, Replays, IsReplayed, Answers, Told}

-- a cell that answers hadn't stopped
isnt : {X E : Type 0} {x : X} {e : E} (b : Bool) → (b ≡ true → IsErrOf {T = X} {E = E} (Ok x) e) → b ≡ false
isnt {X = X} {E = E} {x = x} {e = e} true spent = let never : IsErrOf {T = X} {E = E} (Ok x) e = spent refl in absurd cc
isnt false spent = refl

never : (over : Bool) → over ≡ true → over ≡ false → ⊥
never over e h = cc

-- what is replayed to one state, and then one more event, is replayed to the next
one_more : (opening before after : Cell) (history : List Happened) (one : Happened) → Replays opening history before → Makes before one.event one.made after → Replays opening (history ++ one ∷ []) after
one_more opening before after [] one r s = (after, subst (λ (c : Cell). Makes c one.event one.made after) r s, refl)
one_more opening before after (known ∷ rest) one r s = (r.0, r.1, one_more r.0 before after rest one r.2 s)

-- where nothing has happened
opened : (opening : Cell) → IsReplayed false opening opening []
unfolding IsReplayed
opened opening = (opening, refl, λ h. refl)

pub new_opened : (opening state : Cell) (history : List Happened) → opening ≡ state → history ≡ [] → IsReplayed false opening state history
new_opened opening state history e f = subst (λ (h : List Happened). IsReplayed false opening state h) (sym f) (subst (λ (o : Cell). IsReplayed false o state []) (sym e) (opened state))

-- what is answered is made
made_so : (before after : Cell) (event : LocalEvent) (made : LocalEntries) → Answers before event (Ok made) after → Makes before event made after
unfolding Answers Makes
made_so before after event made does = does

told_ok : (history next : List Happened) (event : LocalEvent) (made : LocalEntries) → Told history event (Ok made) next → next ≡ history ++ record { event = event; made = made } ∷ []
unfolding Told
told_ok history next event made told = told

told_err : (history next : List Happened) (event : LocalEvent) (stop : Stop) → Told history event (Err stop) next → next ≡ history
unfolding Told
told_err history next event stop told = told

-- after a call the history still leads to the state, unless the call has stopped
pub stepped : (opening before after : Cell) (history next : List Happened) (failed over : Bool) (event : LocalEvent) (result : Result LocalEntries Stop)
    → IsReplayed failed opening before history → Answers before event result after → Told history event result next
    → over ≡ is_err result → (failed ≡ true → IsErrOf result stops.OutOfMemory) → IsReplayed over opening after next
unfolding IsReplayed
stepped opening before after history next failed over event (Ok made) replayed does told flag spent =
    let hale : failed ≡ false = isnt failed spent in
    let replays : Replays opening history before = subst (Replays opening history) (sym (replayed.2 hale)) replayed.1 in
    (after, subst (λ (h : List Happened). Replays opening h after) (sym (told_ok history next event made told)) (one_more opening before after history (record { event = event; made = made }) replays (made_so before after event made does)), λ h. refl)
stepped opening before after history next failed over event (Err stop) replayed does told flag spent =
    (replayed.0, subst (λ (h : List Happened). Replays opening h replayed.0) (sym (told_err history next event stop told)) replayed.1, λ h. absurd (never over flag h))

-- ---- what a call of the parts says of the whole

pub does_whole : (seen old : Kept) (event : LocalEvent) (after : Cell) (result : Result LocalEntries Stop) → seen ≡ old → Answers seen.state event result after
    → MatchResult result (λ made. cell_step old.state event ≡ Ok ((made.verdict, made.entries), after)) (λ e. Stops e (cell_step old.state event))
unfolding Answers
does_whole seen old event after result e does = subst (λ (k : Kept). Answers k.state event result after) e does

pub told_whole : (seen old : Kept) (event : LocalEvent) (next : List Happened) (result : Result LocalEntries Stop) → seen ≡ old → Told seen.history event result next
    → MatchResult result (λ made. next ≡ old.history ++ record { event = event; made = made } ∷ []) (λ _. next ≡ old.history)
unfolding Told
told_whole seen old event next result e told = subst (λ (k : Kept). Told k.history event result next) e told

pub opening_whole : (seen old : Kept) → seen ≡ old → seen.opening ≡ old.opening
opening_whole seen old e = ap (λ (k : Kept). k.opening) e

pub err_whole : (over : Bool) (result : Result LocalEntries Stop) → over ≡ is_err result → OnErr result (over ≡ true)
err_whole over (Ok made) flag = tt
err_whole over (Err stop) flag = flag

pub spent_whole : (seen old : Kept) (result : Result LocalEntries Stop) → seen ≡ old → (seen.failed ≡ true → IsErrOf result stops.OutOfMemory) → old.failed ≡ true → IsErrOf result stops.OutOfMemory
spent_whole seen old result e spent = subst (λ (k : Kept). k.failed ≡ true → IsErrOf result stops.OutOfMemory) e spent

stops_so : (before after : Cell) (event : LocalEvent) → Answers before event (Err stops.OutOfMemory) after
unfolding Answers
stops_so before after event = tt

tells_so : (history : List Happened) (event : LocalEvent) → Told history event (Err stops.OutOfMemory) history
unfolding Told
tells_so history event = refl

-- a refusal for want of memory, which changes nothing
pub refused_answers : (before after : Cell) (event : LocalEvent) (result : Result LocalEntries Stop) → result ≡ Err stops.OutOfMemory → Answers before event result after
refused_answers before after event result e = subst (λ (r : Result LocalEntries Stop). Answers before event r after) (sym e) (stops_so before after event)

pub refused_tells : (history : List Happened) (event : LocalEvent) (result : Result LocalEntries Stop) → result ≡ Err stops.OutOfMemory → Told history event result history
refused_tells history event result e = subst (λ (r : Result LocalEntries Stop). Told history event r history) (sym e) (tells_so history event)
