-- What a host does leaves its endpoints open as they were.
use Rattle.std.specs.Prelude.{◌≡◌, ℕ, List, [], ◌∷◌, ◌++◌, Some, Result, Ok, Err, find}
use Rattle.std.proofs.Common.{refl, ap, sym, ◌∙◌}
use Rattle.ch_base.specs.declared.address.Address.{Address}
use Rattle.ch_light.specs.Ids.{id_of, give_of, close_of}
use Rattle.ch_link.specs.declared.LinkState.{LinkState}
use Rattle.ch_link.specs.declared.LinkState.TheVariants.{Idle, Dialing, AwaitOther, Up}
use Rattle.ch_wire.specs.declared.frame.Frame.{Frame}
use Rattle.ch_wire.specs.declared.frame.Frame.TheVariants as frames
use Rattle.ch_model.specs.declared.step.EndError.{EndError}
use Rattle.ch_model.specs.declared.step.SocketEvent.{SocketEvent}
use Rattle.ch_model.specs.declared.step.Step.{Step}
use Rattle.ch_model.specs.declared.step.Weight.{Weight}
use Rattle.ch_model.specs.declared.step.Weight.TheVariants.{Free}
use Rattle.ch_model.specs.Host.{host_on, host_next}
use Rattle.ch_model.specs.HostCalls.{◌>>=◌, stepped, open_endpoint, of_ids, found_or, carries, short_enough, has_room, wants, puts_and_wants, host_connect, host_send, host_close}
use Rattle.ch_model.specs.HostLinks.{next_dial}
use Rattle.ch_model.specs.HostState.{Link, HostState}
use Rattle.ch_model.specs.HostSteps.{Stepped, ◌then◌, after_steps, link_with, with_link}
use Rattle.ch_model.specs.HostWrites.{frame_step, puts}
use Rattle.ch_laws_connections.specs.Tables.{is_standing}
use Rattle.ch_laws_connections.proofs.HostItems.{of_found, next_goes, event_goes}
use Rattle.ch_laws_connections.proofs.HostLinks.{AllQuiet, AllGo, wanted}

-- each endpoint is open as it was
abbrev pub Stand : HostState → HostState → Type 0
Stand before after = (end : ℕ) → is_standing after end ≡ is_standing before end

abbrev AllStand : {E : Type 0} → HostState → Result (List Step × HostState) E → Type 0
AllStand host (Ok done) = Stand host done.1
AllStand host (Err e) = Unit {0}

-- ---- one thing and then another

chained : (host : HostState) (done : Stepped) (f : HostState → Stepped) → AllStand host done → ((next : HostState) → AllStand next (f next)) → AllStand host (done then f)
chained host (Ok done) f a g = from (f done.1) (g done.1) where
  from : (more : Stepped) → AllStand done.1 more → AllStand host (after_steps done.0 more)
  from (Ok more) b = λ end. b end ∙ a end
  from (Err stop) b = tt
chained host (Err stop) f a g = tt

bound : {A : Type 0} (host : HostState) (given : Result A EndError) (f : A → Result (List Step × HostState) EndError) → ((x : A) → AllStand host (f x)) → AllStand host (given >>= f)
bound host (Ok x) f k = k x
bound host (Err e) f k = tt

as_done : (host : HostState) (done : Stepped) → AllStand host done → AllStand host (stepped done)
as_done host (Ok done) a = a
as_done host (Err stop) a = tt

-- ---- what a link is asked

put : (item : Frame × Weight) (link : Link) (host : HostState) → AllStand host (puts item link host)
put item link host = by_state link.state where
  by_state : (state : LinkState) → AllStand host (elim state as (λ x. Stepped) [
    | Up sock probed ↦ Ok (frame_step sock item ∷ [], with_link link host)
    | _ ↦ Ok ([], with_link (record link { waits = link.waits ++ item ∷ [] }) host)
  ])
  by_state (Up sock probed) = λ end. refl
  by_state (Dialing sock) = λ end. refl
  by_state AwaitOther = λ end. refl
  by_state Idle = λ end. refl

want : (end : ℕ) (peer : Address) (host : HostState) → AllStand host (wants end peer host)
want end peer host = by_done (wants end peer host) (wanted (next_dial host) (link_with host end peer) host (of_found host end peer)) where
  by_done : (done : Stepped) → AllQuiet host done → AllStand host done
  by_done (Ok done) q = q.0.ends
  by_done (Err stop) q = tt

put_and_wanted : (item : Frame × Weight) (link : Link) (host : HostState) → AllStand host (puts_and_wants item link host)
put_and_wanted item link host = chained host (puts item link host) (wants link.end link.peer) (put item link host) (want link.end link.peer)

-- ---- the calls

all_connected : (host : HostState) (end : ℕ) (peer : Address) (conn : ℕ) → AllStand host (host_connect host end peer conn)
unfolding host_connect
all_connected host end peer conn = bound host (open_endpoint host end) _ (λ standing. bound host (of_ids (give_of (link_with host end peer).given conn)) _ (λ given. as_done host _ (put_and_wanted (frames.Created given.0, Free) (record (link_with host end peer) { given = given.1 }) host)))

all_sent : (host : HostState) (end conn : ℕ) (payload : List ℕ) (weight : Weight) → AllStand host (host_send host end conn payload weight)
unfolding host_send
all_sent host end conn payload weight = bound host (found_or (find (carries end conn) host.links)) _ (λ link. bound host (short_enough payload) _ (λ short. bound host (has_room link weight) _ (λ roomy. bound host (found_or (id_of link.given conn)) _ (λ id. as_done host _ (put_and_wanted (frames.Data id short, weight) link host)))))

all_closed : (host : HostState) (end conn : ℕ) → AllStand host (host_close host end conn)
unfolding host_close
all_closed host end conn = bound host (found_or (find (carries end conn) host.links)) _ (λ link. bound host (of_ids (close_of link.given conn)) _ (λ closed. as_done host _ (put (frames.Closed closed.0, Free) (record link { given = closed.1 }) host)))

-- what was done
given_done : {E : Type 0} (host after : HostState) (told : List Step) (done : Result (List Step × HostState) E) → AllStand host done → done ≡ Ok (told, after) → Stand host after
given_done host after told (Ok done) a e = let is : done ≡ (told, after) = cc in λ end. ap (λ (d : List Step × HostState). is_standing d.1 end) (sym is) ∙ a end
given_done host after told (Err stop) a e = absurd cc

pub connected : (host after : HostState) (end : ℕ) (peer : Address) (conn : ℕ) (told : List Step) → host_connect host end peer conn ≡ Ok (told, after) → Stand host after
connected host after end peer conn told e = given_done host after told (host_connect host end peer conn) (all_connected host end peer conn) e

pub sent : (host after : HostState) (end conn : ℕ) (payload : List ℕ) (weight : Weight) (told : List Step) → host_send host end conn payload weight ≡ Ok (told, after) → Stand host after
sent host after end conn payload weight told e = given_done host after told (host_send host end conn payload weight) (all_sent host end conn payload weight) e

pub closed : (host after : HostState) (end conn : ℕ) (told : List Step) → host_close host end conn ≡ Ok (told, after) → Stand host after
closed host after end conn told e = given_done host after told (host_close host end conn) (all_closed host end conn) e

pub heard : (host after : HostState) (event : SocketEvent) (told : List Step) → host_on host event ≡ Ok (told, after) → Stand host after
heard host after event told e = given_done host after told (host_on host event) (by_done (host_on host event) (event_goes host event)) e where
  by_done : (done : Stepped) → AllGo host done → AllStand host done
  by_done (Ok done) g = g.ends
  by_done (Err stop) g = tt

pub read : (host after : HostState) (told : List Step) → host_next host ≡ Ok (Some told, after) → Stand host after
read host after told e = (next_goes host after told e).ends
