-- Which record's front a host handles next.
use Rattle.std.specs.Prelude.{◌≡◌, true, List, find, Option, Some, None, Result, Ok, Err}
use Rattle.std.proofs.Common.{refl, ap, ◌∙◌}
use Rattle.ch_base.specs.declared.memory.Stop.{Stop}
use Rattle.ch_model.specs.declared.step.Step.{Step}
use Rattle.ch_model.specs.Host.{front_of, is_ready, first_ready, handles, some_steps, host_next}
use Rattle.ch_model.specs.HostState.{Socket, HostState}
use Rattle.ch_model.specs.HostSteps.{Stepped, is_socket}
use Rattle.ch_laws_items.specs.Kept.{Apart}
use Rattle.ch_laws_items.proofs.Next.{served}
use Rattle.ch_laws_ends.proofs.Places.{some_is}

-- A record of the host's is ready, and these steps are what is done with its front.
pub record IsServed (host : HostState) (told : List Step) (after : HostState) : Type 0 where
  pub known : Socket
  pub found : find (is_socket known.number) host.sockets ≡ Some known
  pub ready : is_ready known ≡ true
  pub does : handles known (front_of known) host ≡ Ok (told, after)

pub is_served : (host after : HostState) (told : List Step) → Apart host.sockets → host_next host ≡ Ok (Some told, after) → IsServed host told after
unfolding host_next
is_served host after told apart e = by_first (first_ready host.sockets) refl e where
  Done : Type 0
  Done = Result (Option (List Step) × HostState) Stop

  some_in : Done → Option (List Step)
  some_in (Ok next) = next.0
  some_in (Err stop) = None

  host_in : Done → HostState
  host_in (Ok next) = next.1
  host_in (Err stop) = host

  by_done : (one : Stepped) → some_steps one ≡ Ok (Some told, after) → one ≡ Ok (told, after)
  by_done (Ok one) e = ap (λ (s : List Step). Ok (s, one.1)) (some_is one.0 told (ap some_in e)) ∙ ap (λ (h : HostState). Ok (told, h)) (ap host_in e)
  by_done (Err stop) e = absurd cc

  by_first : (o : Option Socket) → first_ready host.sockets ≡ o → (elim o as (λ o. Result (Option (List Step) × HostState) Stop) [
    | None ↦ Ok (None, host)
    | Some socket ↦ some_steps (handles socket (front_of socket) host)
  ]) ≡ Ok (Some told, after) → IsServed host told after
  by_first None f e = let never : None ≡ Some told = ap some_in e in absurd cc
  by_first (Some socket) f e = let it = served host.sockets socket apart f in record { known = socket; found = it.found; ready = it.ready; does = by_done (handles socket (front_of socket) host) e }
