-- The links of an endpoint that are shut one after another.
use Rattle.std.proofs.Common.{◌≡◌, ℕ, suc, ◌+◌, ◌<◌, Bool, true, false, cond, ◌==◌, List, [], ◌∷◌, ◌++◌, map, filter, length, drop, get_or, Some, None, Ok, Err, refl, ap, sym, ◌∙◌, append_assoc, add-one, drop-cons}
use Rattle.ch_base.specs.declared.address.Address.{Address}
use Rattle.ch_link.specs.declared.LinkIn.TheVariants.{Shut}
use Rattle.ch_model.specs.declared.step.Step.{Step}
use Rattle.ch_model.specs.HostState.{Endpoint, Link, HostState}
use Rattle.ch_model.specs.HostSteps.{Stepped, still, after_steps, ◌then◌, link_with, is_endpoint, is_open_endpoint, store_endpoint}
use Rattle.ch_model.specs.HostLinks.{hears}
use Rattle.std.specs.Prelude.{set, find}
use Rattle.std.specs.List.{position, list_any}
use Rattle.ch_base.specs.declared.event.Event.TheVariants as events
use Rattle.ch_model.specs.declared.step.Step.TheVariants as steps
use Rattle.ch_model.specs.declared.step.EndError.TheVariants.{NoEndPoint}
use Rattle.ch_model.specs.HostItems.{posts}
use Rattle.ch_model.specs.HostCalls.{shuts_links, closes_endpoint, host_close_endpoint}
use Rattle.ch_endpoint.proofs.Tables.{replaced, replaced_there, found_there, none_there, found_passes, number_is}
use Rattle.ch_endpoint.specs.Shuts.{peers_of, shuts_peers, closes_all}

-- no steps before those that follow
pub none_before : (done : Stepped) → after_steps [] done ≡ done
none_before (Ok done) = refl
none_before (Err stop) = refl

-- steps, and then more, before those that follow
pub more_before : (one two : List Step) (done : Stepped) → after_steps one (after_steps two done) ≡ after_steps (one ++ two) done
more_before one two (Ok done) = ap (λ (ss : List Step). Ok (ss, done.1)) (sym (append_assoc one two done.0))
more_before one two (Err stop) = refl

-- the links of an endpoint are shut by their peers
pub shuts_are : (end : ℕ) (links : List Link) (host : HostState) → shuts_links end links host ≡ shuts_peers end (peers_of end links) host
shuts_are end [] host = refl
shuts_are end (link ∷ rest) host = by_test (link.end == end) (shuts_are end rest)
  where
    by_test : (b : Bool) → ((h : HostState) → shuts_links end rest h ≡ shuts_peers end (peers_of end rest) h) → (cond b (hears Shut (link_with host end link.peer) host) (still host) then shuts_links end rest) ≡ shuts_peers end (map (λ link. link.peer) (cond b (link ∷ filter (λ link. link.end == end) rest) (filter (λ link. link.end == end) rest))) host
    by_test true ih = shut (hears Shut (link_with host end link.peer) host)
      where
        shut : (done : Stepped) → (done then shuts_links end rest) ≡ (done then shuts_peers end (peers_of end rest))
        shut (Ok done) = ap (after_steps done.0) (ih done.1)
        shut (Err stop) = refl
    by_test false ih = none_before (shuts_links end rest host) ∙ ih host

-- one more link is shut
pub one_more : (end : ℕ) (peers : List Address) (i : ℕ) (peer : Address) (host after : HostState) (steps more : List Step) (whole : Stepped) → i < length peers → peer ≡ get_or peers i peer → hears Shut (link_with host end peer) host ≡ Ok (more, after) → after_steps steps (shuts_peers end (drop i peers) host) ≡ whole → after_steps (steps ++ more) (shuts_peers end (drop (i + 1) peers) after) ≡ whole
one_more end peers i peer host after steps more whole within is shut h =
    let cut : drop i peers ≡ peer ∷ drop (i + 1) peers = rw add-one (drop-cons peers i peer within ∙ ap (λ p. p ∷ drop (suc i) peers) (sym is)) in
    let here : shuts_peers end (drop i peers) host ≡ after_steps more (shuts_peers end (drop (i + 1) peers) after) =
    ap (λ ps. shuts_peers end ps host) cut ∙ ap (λ (done : Stepped). done then shuts_peers end (drop (i + 1) peers)) shut in
    sym (more_before steps more (shuts_peers end (drop (i + 1) peers) after)) ∙ ap (after_steps steps) (sym here) ∙ h

-- ---- an endpoint that is closed

pub closes_done : (end : ℕ) (host shut after : HostState) (first : List Step) → shuts_links end host.links host ≡ Ok (first, shut) → after ≡ closes_endpoint (find (is_endpoint end) shut.ends) shut → closes_all end host ≡ Ok (first ++ steps.Post end events.EndPointClosed ∷ [], after)
closes_done end host shut after first done now =
    ap (λ (s : Stepped). s then (λ h. posts end events.EndPointClosed (closes_endpoint (find (is_endpoint end) h.ends) h))) done ∙ (λ i. Ok (first ++ steps.Post end events.EndPointClosed ∷ [], sym now i))

pub close_closed : (host : HostState) (end : ℕ) → list_any (is_open_endpoint end) host.ends ≡ false → host_close_endpoint host end ≡ Err NoEndPoint
unfolding host_close_endpoint
close_closed host end o = rw o refl

pub close_all : (host : HostState) (end : ℕ) (done : List Step × HostState) → list_any (is_open_endpoint end) host.ends ≡ true → closes_all end host ≡ Ok done → host_close_endpoint host end ≡ Ok done
unfolding host_close_endpoint
close_all host end done o d = rw (o, d) refl

-- an endpoint that is found is stored under its number
pub endpoint_stored : (endpoint found : Endpoint) (ends : List Endpoint) → find (is_endpoint endpoint.number) ends ≡ Some found → store_endpoint endpoint ends ≡ replaced (is_endpoint endpoint.number) endpoint ends
endpoint_stored endpoint found [] e = absurd cc
endpoint_stored endpoint found (known ∷ rest) e = by_test (is_endpoint endpoint.number known) (endpoint_stored endpoint found rest) e
  where
    by_test : (b : Bool) → (find (is_endpoint endpoint.number) rest ≡ Some found → store_endpoint endpoint rest ≡ replaced (is_endpoint endpoint.number) endpoint rest) → cond b (Some known) (find (is_endpoint endpoint.number) rest) ≡ Some found → cond b (endpoint ∷ rest) (known ∷ store_endpoint endpoint rest) ≡ cond b (endpoint ∷ rest) (known ∷ replaced (is_endpoint endpoint.number) endpoint rest)
    by_test true ih e = refl
    by_test false ih e = ap (λ zs. known ∷ zs) (ih e)

-- an endpoint that is closed at its place
pub end_closed : (end : ℕ) (inside now : HostState) (place : ℕ) (before after : Endpoint) → inside ≡ now → position (is_endpoint end) now.ends ≡ Some place → before ≡ get_or inside.ends place before → after ≡ record before { is_open = false } → record inside { ends = set inside.ends place after } ≡ closes_endpoint (find (is_endpoint end) now.ends) now
end_closed end inside now place before after same e is done =
    let at : position (is_endpoint end) inside.ends ≡ Some place = ap (λ (h : HostState). position (is_endpoint end) h.ends) same ∙ e in
    let found : find (is_endpoint end) inside.ends ≡ Some before = found_there (is_endpoint end) before inside.ends place at ∙ ap Some (sym is) in
    let own : before.number ≡ end = number_is _ _ (found_passes (is_endpoint end) before inside.ends found) in
    let closed : Endpoint = record before { is_open = false } in
    let found_own : find (is_endpoint closed.number) inside.ends ≡ Some before = ap (λ n. find (is_endpoint n) inside.ends) own ∙ found in
    let at_own : position (is_endpoint closed.number) inside.ends ≡ Some place = ap (λ n. position (is_endpoint n) inside.ends) own ∙ at in
    let rows : set inside.ends place after ≡ store_endpoint closed inside.ends = ap (set inside.ends place) done ∙ replaced_there (is_endpoint closed.number) closed inside.ends place at_own ∙ sym (endpoint_stored closed before inside.ends found_own) in
    (λ i. record inside { ends = rows i }) ∙ sym (ap (λ o. closes_endpoint o inside) found) ∙ ap (λ (h : HostState). closes_endpoint (find (is_endpoint end) h.ends) h) same

pub end_absent : (end : ℕ) (host : HostState) → position (is_endpoint end) host.ends ≡ None → host ≡ closes_endpoint (find (is_endpoint end) host.ends) host
end_absent end host e = sym (ap (λ o. closes_endpoint o host) (none_there (is_endpoint end) host.ends e))
