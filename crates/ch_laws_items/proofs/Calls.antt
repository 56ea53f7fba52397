-- What an endpoint asks of its host leaves no more unread.
use Rattle.std.proofs.Common.{◌≡◌, ℕ, Bool, true, false, cond, List, [], ◌∷◌, Ok, Err, refl, ◌==◌}
use Rattle.std.specs.Prelude.{find, Result, Option, Some, None}
use Rattle.ch_base.specs.declared.address.Address.{Address}
use Rattle.ch_base.specs.declared.event.Event.TheVariants as events
use Rattle.ch_wire.specs.declared.frame.Frame.{Frame}
use Rattle.ch_wire.specs.declared.frame.Frame.TheVariants as frames
use Rattle.ch_link.specs.declared.LinkIn.TheVariants as inputs
use Rattle.ch_light.specs.Ids.{id_of, give_of, close_of}
use Rattle.ch_model.specs.declared.step.EndError.{EndError}
use Rattle.ch_model.specs.declared.step.Step.{Step}
use Rattle.ch_model.specs.declared.step.Weight.{Weight}
use Rattle.ch_model.specs.declared.step.Weight.TheVariants.{Free}
use Rattle.ch_model.specs.HostState.{Endpoint, Link, HostState}
use Rattle.ch_model.specs.HostSteps.{Stepped, still, ◌then◌, is_endpoint, link_with}
use Rattle.ch_model.specs.HostWrites.{puts}
use Rattle.ch_model.specs.HostLinks.{next_dial, hears}
use Rattle.ch_model.specs.HostItems.{posts}
use Rattle.ch_model.specs.HostCalls.{◌>>=◌, stepped, of_ids, open_endpoint, wants, puts_and_wants, host_connect, carries, found_or, short_enough, has_room, host_send, host_close, shuts_links, closes_endpoint, host_close_endpoint}
use Rattle.ch_laws_items.specs.Kept.{AllKeepNoMore, Fine}
use Rattle.ch_laws_items.proofs.Sockets.{same}
use Rattle.ch_laws_items.proofs.Links.{chained, at_rest, heard, put}

-- after something that may be refused
bound : {A : Type 0} (host : HostState) (given : Result A EndError) (f : A → Result (List Step × HostState) EndError) → ((x : A) → AllKeepNoMore host (f x)) → AllKeepNoMore host (given >>= f)
bound host (Ok x) f k = k x
bound host (Err e) f k = tt

told : (host : HostState) (done : Stepped) → Fine host done → AllKeepNoMore host (stepped done)
told host (Ok done) f = f
told host (Err stop) f = tt

put_and_wanted : (item : Frame × Weight) (link : Link) (host : HostState) → Fine host (puts_and_wants item link host)
put_and_wanted item link host = chained host (puts item link host) (wants link.end link.peer) (put item link host) (λ next. heard (inputs.Want (next_dial next)) (link_with next link.end link.peer) next)

pub connected : (host : HostState) (end : ℕ) (peer : Address) (conn : ℕ) → AllKeepNoMore host (host_connect host end peer conn)
unfolding host_connect
connected host end peer conn = bound host (open_endpoint host end) _ (λ standing. bound host (of_ids (give_of (link_with host end peer).given conn)) _ (λ given. told host _ (put_and_wanted (frames.Created given.0, Free) (record (link_with host end peer) { given = given.1 }) host)))

pub sent : (host : HostState) (end conn : ℕ) (payload : List ℕ) (weight : Weight) → AllKeepNoMore host (host_send host end conn payload weight)
unfolding host_send
sent host end conn payload weight =
    bound host (found_or (find (carries end conn) host.links)) _ (λ link. bound host (short_enough payload) _ (λ short. bound host (has_room link weight) _ (λ roomy. bound host (found_or (id_of link.given conn)) _ (λ id. told host _ (put_and_wanted (frames.Data id short, weight) link host)))))

pub closed : (host : HostState) (end conn : ℕ) → AllKeepNoMore host (host_close host end conn)
unfolding host_close
closed host end conn =
    bound host (found_or (find (carries end conn) host.links)) _ (λ link. bound host (of_ids (close_of link.given conn)) _ (λ closed. told host _ (put (frames.Closed closed.0, Free) (record link { given = closed.1 }) host)))

shut_links : (end : ℕ) (links : List Link) (host : HostState) → Fine host (shuts_links end links host)
shut_links end [] host = at_rest host
shut_links end (link ∷ rest) host = by_test (link.end == end) (shut_links end rest)
  where
    by_test : (b : Bool) → ((next : HostState) → Fine next (shuts_links end rest next)) → Fine host (cond b (hears inputs.Shut (link_with host end link.peer) host) (still host) then shuts_links end rest)
    by_test true k = chained host (hears inputs.Shut (link_with host end link.peer) host) (shuts_links end rest) (heard inputs.Shut (link_with host end link.peer) host) k
    by_test false k = chained host (still host) (shuts_links end rest) (at_rest host) k

closed_end : (o : Option Endpoint) (host : HostState) → (closes_endpoint o host).sockets ≡ host.sockets
closed_end None host = refl
closed_end (Some endpoint) host = refl

pub endpoint_closed : (host : HostState) (end : ℕ) → AllKeepNoMore host (host_close_endpoint host end)
unfolding host_close_endpoint
endpoint_closed host end =
    bound host (open_endpoint host end) _ (λ standing. told host _ (chained host (shuts_links end host.links host) (λ shut. posts end events.EndPointClosed (closes_endpoint (find (is_endpoint end) shut.ends) shut)) (shut_links end host.links host) (λ next. same next _ (closed_end (find (is_endpoint end) next.ends) next))))
