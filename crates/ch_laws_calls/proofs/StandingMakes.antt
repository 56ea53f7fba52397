-- A call of a cell's host leaves links and ends naming each other, and its steps tell how the ends stand and who asks on them.
use Rattle.std.proofs.Common.{◌≡◌, ◌≤◌, ℕ, ◌+◌, ◌*◌, List, [], Ok, refl, ap, ◌∙◌, subst}
use Rattle.std.specs.Prelude.{find, Result, Option, Some, None}
use Rattle.ch_base.specs.declared.address.Address.{Address}
use Rattle.ch_model.specs.declared.local.LocalEvent.TheVariants as locals
use Rattle.ch_model.specs.declared.step.SocketEvent.{SocketEvent}
use Rattle.ch_model.specs.declared.step.Step.{Step}
use Rattle.ch_model.specs.declared.step.Weight.{Weight}
use Rattle.ch_model.specs.Host.{host_on, host_next}
use Rattle.ch_model.specs.HostCalls.{host_connect, host_send, host_close}
use Rattle.ch_model.specs.HostState.{HostState}
use Rattle.ch_model.specs.HostSteps.{is_socket}
use Rattle.ch_model.specs.WorldState.{Cell}
use Rattle.ch_laws_links.specs.Cells.{IsNamingCell}
use Rattle.ch_laws_links.specs.Naming.{IsNaming}
use Rattle.ch_laws_links.specs.Standing.{Standing, standing_at, standing_after_all, standing_heard, TellsEnds}
use Rattle.ch_laws_links.proofs.Goes.{right_as}
use Rattle.ch_laws_links.proofs.Hosts.{Goes, event_naming, next_naming, connect_naming, send_naming, close_naming, done_so}
use Rattle.ch_laws_links.proofs.Worlds.{MayHear}
use Rattle.ch_laws_pairs.specs.Askers.{IsAsking, Asks, AllAsk, ComesOdd}
use Rattle.ch_laws_pairs.proofs.Asking as asking
use Rattle.ch_laws_pairs.proofs.AskingEvents.{event_asks}
use Rattle.ch_laws_pairs.proofs.AskingItems.{next_asks, connected, sent, closed_conn}

-- From where the ends of the cell's host stand so, it makes these steps: after them its links and ends name each other, the numbers
-- of the next sockets that the cell accepts are free, and the steps tell how the ends stand and who asks on them.
pub record Makes (cell : Cell × ℕ) (now : ℕ → Option Standing) (steps : List Step) (after : HostState) : Type 0 where
  pub naming : IsNaming after
  pub free : (k : ℕ) → cell.1 ≤ k → find (is_socket (2 * k + 1)) after.sockets ≡ None
  pub tells : TellsEnds now steps after
  pub asks : Asks cell.0.host steps after

-- the same where the ends stand so by other words
pub makes_from : (cell : Cell × ℕ) (one two : ℕ → Option Standing) (steps : List Step) (after : HostState) → ((n : ℕ) → one n ≡ two n) → Makes cell one steps after → Makes cell two steps after
makes_from cell one two steps after same m = record {
  naming = m.naming;
  free = m.free;
  tells = record { right = right_as one two same steps m.tells.right; stands = λ n. m.tells.stands n ∙ ap (standing_after_all steps n) (same n) };
  asks = m.asks;
}

-- nothing is made
pub makes_nothing : (cell : Cell × ℕ) → IsNamingCell cell → IsAsking cell.0.host → Makes cell (standing_at cell.0.host) [] cell.0.host
makes_nothing cell s a = record { naming = s.naming; free = s.free; tells = record { right = tt; stands = λ n. refl }; asks = asking.at_rest cell.0.host a }

-- ---- what an endpoint asks, and an item that is read

asks_so : {E : Type 0} (before after : HostState) (steps : List Step) (done : Result (List Step × HostState) E) → AllAsk before done → IsAsking before → done ≡ Ok (steps, after) → Asks before steps after
asks_so {E} before after steps done f s e = as_done (subst (λ (d : Result (List Step × HostState) E). AllAsk before d) e f) s where
  as_done : AllAsk {E = E} before (Ok (steps, after)) → IsAsking before → Asks before steps after
  as_done f s = f s

called : (cell : Cell × ℕ) (steps : List Step) (after : HostState) → IsNamingCell cell → Goes cell.0.host steps after → Asks cell.0.host steps after → Makes cell (standing_at cell.0.host) steps after
called cell steps after s g a = record { naming = g.naming; free = λ k l. g.odd k (s.free k l); tells = g.tells; asks = a }

pub connect_makes : (cell : Cell × ℕ) (end : ℕ) (peer : Address) (conn : ℕ) (steps : List Step) (after : HostState) → IsNamingCell cell → IsAsking cell.0.host → host_connect cell.0.host end peer conn ≡ Ok (steps, after) → Makes cell (standing_at cell.0.host) steps after
connect_makes cell end peer conn steps after s a e = called cell steps after s (done_so cell.0.host after steps (host_connect cell.0.host end peer conn) (connect_naming cell.0.host end peer conn) s.naming e)
    (asks_so cell.0.host after steps (host_connect cell.0.host end peer conn) (connected cell.0.host end peer conn) a e)

pub send_makes : (cell : Cell × ℕ) (end conn : ℕ) (payload : List ℕ) (weight : Weight) (steps : List Step) (after : HostState) → IsNamingCell cell → IsAsking cell.0.host → host_send cell.0.host end conn payload weight ≡ Ok (steps, after) → Makes cell (standing_at cell.0.host) steps after
send_makes cell end conn payload weight steps after s a e = called cell steps after s (done_so cell.0.host after steps (host_send cell.0.host end conn payload weight) (send_naming cell.0.host end conn payload weight) s.naming e)
    (asks_so cell.0.host after steps (host_send cell.0.host end conn payload weight) (sent cell.0.host end conn payload weight) a e)

pub close_makes : (cell : Cell × ℕ) (end conn : ℕ) (steps : List Step) (after : HostState) → IsNamingCell cell → IsAsking cell.0.host → host_close cell.0.host end conn ≡ Ok (steps, after) → Makes cell (standing_at cell.0.host) steps after
close_makes cell end conn steps after s a e = called cell steps after s (done_so cell.0.host after steps (host_close cell.0.host end conn) (close_naming cell.0.host end conn) s.naming e)
    (asks_so cell.0.host after steps (host_close cell.0.host end conn) (closed_conn cell.0.host end conn) a e)

pub next_makes : (cell : Cell × ℕ) (steps : List Step) (after : HostState) → IsNamingCell cell → IsAsking cell.0.host → host_next cell.0.host ≡ Ok (Some steps, after) → Makes cell (standing_at cell.0.host) steps after
next_makes cell steps after s a e = called cell steps after s (next_naming cell.0.host after steps s.naming e) (next_asks cell.0.host after steps a e)

-- ---- an event

-- an end that an event joins, or that comes, is open before the steps
pub event_makes : (cell : Cell × ℕ) (event : SocketEvent) (steps : List Step) (after : HostState) → MayHear cell (locals.Socket event) → ComesOdd event → IsNaming cell.0.host → IsAsking cell.0.host → host_on cell.0.host event ≡ Ok (steps, after)
    → Makes cell (λ n. standing_heard event n (standing_at cell.0.host n)) steps after
event_makes cell event steps after may odd s a e = let g = event_naming cell.0.host after event steps may.comes s e in record {
  naming = g.naming;
  free = λ k l. g.odd k (may.free k l);
  tells = g.tells;
  asks = asks_so cell.0.host after steps (host_on cell.0.host event) (event_asks cell.0.host event odd) a e;
}
