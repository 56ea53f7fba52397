-- Endpoints at their places, and how many connections have arrived at them.
use Rattle.std.proofs.Common.{◌≡◌, ℕ, ◌+◌, ◌*◌, ◌<◌, Bool, true, false, cond, nat_lt, get_or, Option, Some, None, refl, ap, sym, ◌∙◌}
use Rattle.std.specs.Prelude.{set, find}
use Rattle.std.specs.List.{position}
use Rattle.std.proofs.lemmas.Bool.{ltb-true}
use Rattle.ch_model.specs.HostState.{Endpoint, HostState}
use Rattle.ch_model.specs.HostSteps.{is_endpoint, store_endpoint, with_endpoint}
use Rattle.ch_model.specs.HostItems.{most_arrived, arrived_at, with_arrival}
use Rattle.ch_endpoint.specs.Arrivals.{next_number}
use Rattle.ch_endpoint.proofs.Tables.{replaced_there, found_there, none_there, found_passes, number_is}
use Rattle.ch_endpoint.proofs.Shutting.{endpoint_stored}

-- an endpoint that stands at its place is found
pub found_end : (end : ℕ) (inside now : HostState) (place : ℕ) (before : Endpoint) → inside ≡ now → position (is_endpoint end) now.ends ≡ Some place → before ≡ get_or inside.ends place before → find (is_endpoint end) now.ends ≡ Some before
found_end end inside now place before same e is =
    let at : position (is_endpoint end) inside.ends ≡ Some place = ap (λ (h : HostState). position (is_endpoint end) h.ends) same ∙ e in
    ap (λ (h : HostState). find (is_endpoint end) h.ends) (sym same) ∙ found_there (is_endpoint end) before inside.ends place at ∙ ap Some (sym is)

-- an endpoint that is changed at its place is kept
pub end_kept : (f : Endpoint → Endpoint) → ((x : Endpoint) → (f x).number ≡ x.number) → (end : ℕ) (inside now : HostState) (place : ℕ) (before after : Endpoint) → inside ≡ now → position (is_endpoint end) now.ends ≡ Some place → before ≡ get_or inside.ends place before → after ≡ f before → record inside { ends = set inside.ends place after } ≡ with_endpoint (f before) now
end_kept f keeps end inside now place before after same e is done =
    let at : position (is_endpoint end) inside.ends ≡ Some place = ap (λ (h : HostState). position (is_endpoint end) h.ends) same ∙ e in
    let found : find (is_endpoint end) inside.ends ≡ Some before = found_there (is_endpoint end) before inside.ends place at ∙ ap Some (sym is) in
    let own : (f before).number ≡ end = keeps before ∙ number_is _ _ (found_passes (is_endpoint end) before inside.ends found) in
    let found_own : find (is_endpoint (f before).number) inside.ends ≡ Some before = ap (λ n. find (is_endpoint n) inside.ends) own ∙ found in
    let at_own : position (is_endpoint (f before).number) inside.ends ≡ Some place = ap (λ n. position (is_endpoint n) inside.ends) own ∙ at in
    let rows : set inside.ends place after ≡ store_endpoint (f before) inside.ends = ap (set inside.ends place) done ∙ replaced_there (is_endpoint (f before).number) (f before) inside.ends place at_own ∙ sym (endpoint_stored (f before) before inside.ends found_own) in
    (λ i. record inside { ends = rows i }) ∙ ap (with_endpoint (f before)) same

-- ---- arrivals

pub arrived_none : (end : ℕ) (host : HostState) → position (is_endpoint end) host.ends ≡ None → arrived_at host end ≡ 0
arrived_none end host e = ap (λ (o : Option Endpoint). elim o [ None ↦ 0 | Some endpoint ↦ endpoint.arrived ]) (none_there (is_endpoint end) host.ends e)

pub arrived_some : (end : ℕ) (inside now : HostState) (place : ℕ) (before : Endpoint) → inside ≡ now → position (is_endpoint end) now.ends ≡ Some place → before ≡ get_or inside.ends place before → arrived_at now end ≡ before.arrived
arrived_some end inside now place before same e is = ap (λ (o : Option Endpoint). elim o [ None ↦ 0 | Some endpoint ↦ endpoint.arrived ]) (found_end end inside now place before same e is)

pub arrival_absent : (end : ℕ) (host : HostState) → position (is_endpoint end) host.ends ≡ None → host ≡ with_arrival end host
arrival_absent end host e = sym (ap (λ (o : Option Endpoint). elim o [ None ↦ host | Some endpoint ↦ with_endpoint (record endpoint { arrived = endpoint.arrived + 1 }) host ]) (none_there (is_endpoint end) host.ends e))

pub end_counted : (end : ℕ) (inside now : HostState) (place : ℕ) (before after : Endpoint) → inside ≡ now → position (is_endpoint end) now.ends ≡ Some place → before ≡ get_or inside.ends place before → after ≡ record before { arrived = before.arrived + 1 } → record inside { ends = set inside.ends place after } ≡ with_arrival end now
end_counted end inside now place before after same e is done =
    end_kept (λ (x : Endpoint). record x { arrived = x.arrived + 1 }) (λ x. refl) end inside now place before after same e is done
    ∙ sym (ap (λ (o : Option Endpoint). elim o [ None ↦ now | Some endpoint ↦ with_endpoint (record endpoint { arrived = endpoint.arrived + 1 }) now ]) (found_end end inside now place before same e is))

-- where a number is left, the count can grow
pub room_left : (n number : ℕ) → next_number n ≡ Some number → n < most_arrived
room_left n number left = by_test (nat_lt n most_arrived) refl left
  where
    by_test : (b : Bool) → nat_lt n most_arrived ≡ b → cond b (Some (2 * n + 1)) None ≡ Some number → n < most_arrived
    by_test true lt e = ltb-true _ _ lt
    by_test false lt e = absurd cc
