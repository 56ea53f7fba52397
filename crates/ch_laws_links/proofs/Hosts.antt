-- Each call keeps a host naming, and tells how its ends stand.
use Rattle.std.proofs.Common.{◌≡◌, ℕ, ◌+◌, ◌*◌, Bool, true, false, cond, List, [], ◌∷◌, ◌++◌, Ok, Err, refl, ap, ◌∙◌, subst}
use Rattle.std.specs.List.{list_any}
use Rattle.std.specs.Prelude.{find, Result, Some, None}
use Rattle.ch_base.specs.declared.address.Address.{Address}
use Rattle.ch_base.specs.declared.memory.Stop.{Stop}
use Rattle.ch_model.specs.declared.step.EndError.{EndError}
use Rattle.ch_model.specs.declared.step.SocketEvent.{SocketEvent}
use Rattle.ch_model.specs.declared.step.Step.{Step}
use Rattle.ch_model.specs.declared.step.Weight.{Weight}
use Rattle.ch_model.specs.Host.{host_on, host_next}
use Rattle.ch_model.specs.HostCalls.{host_new, host_open, host_connect, host_send, host_close, host_close_endpoint}
use Rattle.ch_model.specs.HostState.{HostState}
use Rattle.ch_model.specs.HostSteps.{Stepped, is_endpoint, is_socket}
use Rattle.ch_laws_items.specs.Kept.{Apart, AllKeepNoMore}
use Rattle.ch_laws_items.proofs.Events.{stays_apart}
use Rattle.ch_laws_items.proofs.Next.{next_fine}
use Rattle.ch_laws_items.proofs.Calls as kept
use Rattle.ch_laws_links.specs.Naming.{LinksApart, IsNaming}
use Rattle.ch_laws_links.specs.Standing.{standing_at, standing_after_all, standing_heard, ComesFree, TellsEnds}
use Rattle.ch_laws_links.proofs.Hears.{IsNamed}
use Rattle.ch_laws_links.proofs.Goes.{Rises, AllGoes, right_as}
use Rattle.ch_laws_links.proofs.Requests.{next_goes}
use Rattle.ch_laws_links.proofs.Links.{AllApart, next_apart, event_apart, connected_apart, sent_apart, closed_apart, endpoint_apart}
use Rattle.ch_laws_links.proofs.Calls.{Opened, opened_by, event_goes, connected, sent, closed_conn, endpoint_closed}

pub named_of : (host : HostState) → IsNaming host → IsNamed host
named_of host s = record { free = s.free; fit = s.fit; same = s.same }

pub naming_of : (host : HostState) → LinksApart host.links → Apart host.sockets → IsNamed host → IsNaming host
naming_of host l a s = record { links = l; sockets = a; free = s.free; fit = s.fit; same = s.same }

-- a call keeps a host naming, and tells so from how ends stood
pub record Goes (before : HostState) (told : List Step) (after : HostState) : Type 0 where
  pub naming : IsNaming after
  pub tells : TellsEnds (standing_at before) told after
  pub odd : (k : ℕ) → find (is_socket (2 * k + 1)) before.sockets ≡ None → find (is_socket (2 * k + 1)) after.sockets ≡ None

abbrev pub AllNaming : {E : Type 0} → HostState → Result (List Step × HostState) E → Type 0
AllNaming before (Ok done) = IsNaming before → Goes before done.0 done.1
AllNaming before (Err e) = Unit {0}

pub tells_of : (before : HostState) (told : List Step) (after : HostState) → Rises before told after → TellsEnds (standing_at before) told after
tells_of before told after r = record { right = r.right; stands = r.stands }

asked : (host : HostState) (done : Result (List Step × HostState) EndError) → AllKeepNoMore host done → AllApart host done → (IsNaming host → AllGoes host done) → AllNaming host done
asked host (Ok done) k l g = λ s. let more = g s (named_of host s) in record { naming = naming_of done.1 (l s.links) (k.apart s.sockets) more.0; tells = tells_of host done.0 done.1 more.1; odd = more.1.odd }
asked host (Err e) k l g = tt

pub connect_naming : (host : HostState) (end : ℕ) (peer : Address) (conn : ℕ) → AllNaming host (host_connect host end peer conn)
connect_naming host end peer conn = asked host (host_connect host end peer conn) (kept.connected host end peer conn) (connected_apart host end peer conn) (λ s. connected host end peer conn)

pub send_naming : (host : HostState) (end conn : ℕ) (payload : List ℕ) (weight : Weight) → AllNaming host (host_send host end conn payload weight)
send_naming host end conn payload weight = asked host (host_send host end conn payload weight) (kept.sent host end conn payload weight) (sent_apart host end conn payload weight) (λ s. sent host end conn payload weight s.links)

pub close_naming : (host : HostState) (end conn : ℕ) → AllNaming host (host_close host end conn)
close_naming host end conn = asked host (host_close host end conn) (kept.closed host end conn) (closed_apart host end conn) (λ s. closed_conn host end conn s.links)

pub close_endpoint_naming : (host : HostState) (end : ℕ) → AllNaming host (host_close_endpoint host end)
close_endpoint_naming host end = asked host (host_close_endpoint host end) (kept.endpoint_closed host end) (endpoint_apart host end) (λ s. endpoint_closed host end)

-- what a call was, it was so
pub done_so : {E : Type 0} (host after : HostState) (told : List Step) (done : Result (List Step × HostState) E) → AllNaming host done → IsNaming host → done ≡ Ok (told, after) → Goes host told after
done_so {E} host after told done f s e = as_done (subst (λ (d : Result (List Step × HostState) E). AllNaming host d) e f) s where
  as_done : AllNaming {E = E} host (Ok (told, after)) → IsNaming host → Goes host told after
  as_done f s = f s

links_after : {S E : Type 0} (host after : HostState) (told : S) (done : Result (S × HostState) E) → AllApart host done → done ≡ Ok (told, after) → LinksApart host.links → LinksApart after.links
links_after {S} {E} host after told done f e = as_done (subst (λ (d : Result (S × HostState) E). AllApart host d) e f) where
  as_done : AllApart {S = S} {E = E} host (Ok (told, after)) → LinksApart host.links → LinksApart after.links
  as_done f = f

pub next_naming : (host after : HostState) (told : List Step) → IsNaming host → host_next host ≡ Ok (Some told, after) → Goes host told after
next_naming host after told s e = let more = next_goes host after told s.sockets (named_of host s) e in record {
  naming = naming_of after (links_after host after (Some told) (host_next host) (next_apart host) e s.links) ((next_fine host after told s.sockets e).apart s.sockets) more.0;
  tells = tells_of host told after more.1;
  odd = more.1.odd;
}

-- an event keeps a host naming, and tells so from how ends stand once its own is open
pub record GoesOn (event : SocketEvent) (before : HostState) (told : List Step) (after : HostState) : Type 0 where
  pub naming : IsNaming after
  pub tells : TellsEnds (λ n. standing_heard event n (standing_at before n)) told after
  pub odd : (k : ℕ) → find (is_socket (2 * k + 1)) (opened_by event before).sockets ≡ None → find (is_socket (2 * k + 1)) after.sockets ≡ None

pub event_naming : (host after : HostState) (event : SocketEvent) (told : List Step) → ComesFree host event → IsNaming host → host_on host event ≡ Ok (told, after) → GoesOn event host told after
event_naming host after event told f s e = by_done (subst (λ (d : Stepped). AllGoes (opened_by event host) d) e one.goes) where
  one : Opened event host (host_on host event)
  one = event_goes host event f (named_of host s)

  by_done : AllGoes {E = Stop} (opened_by event host) (Ok (told, after)) → GoesOn event host told after
  by_done g = let more = g one.named in record {
    naming = naming_of after (links_after host after told (host_on host event) (event_apart host event) e s.links) (stays_apart host after event told s.sockets e) more.0;
    tells = record {
      right = right_as (standing_at (opened_by event host)) (λ n. standing_heard event n (standing_at host n)) one.stands told more.1.right;
      stands = λ n. more.1.stands n ∙ ap (standing_after_all told n) (one.stands n);
    };
    odd = more.1.odd;
  }

-- ---- new hosts

pub fresh_naming : (host : List ℕ) (port : ℕ) (circle : List (List ℕ)) → IsNaming (host_new host port circle)
fresh_naming host port circle = record { links = tt; sockets = tt; free = λ k l. refl; fit = λ n socket e. absurd cc; same = λ end peer n. refl }

pub open_naming : (host : HostState) (end : ℕ) → IsNaming host → IsNaming (host_open host end).1
unfolding host_open
open_naming host end s = by_test (list_any (is_endpoint end) host.ends) where
  by_test : (b : Bool) → IsNaming (cond {A = Bool × HostState} b (false, host) (true, record host { ends = host.ends ++ record { number = end; is_open = true; arrived = 0 } ∷ [] })).1
  by_test true = s
  by_test false = record { links = s.links; sockets = s.sockets; free = s.free; fit = s.fit; same = s.same }
