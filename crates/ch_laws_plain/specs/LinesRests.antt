-- A host that goes on as it was at each of its sockets: what is read there, and for which link, is the same.
use Rattle.std.specs.Prelude.{◌≡◌, ℕ, List, find, Some, Result, Ok, Err}
use Rattle.ch_base.specs.declared.address.Address.{Address}
use Rattle.ch_model.specs.declared.step.Step.{Step}
use Rattle.ch_model.specs.HostState.{Socket, HostState}
use Rattle.ch_model.specs.HostSteps.{is_socket}
use Rattle.ch_laws_bytes.specs.Streams.{reader_in}
use Rattle.ch_laws_writes.specs.Dues.{due_at}
use Rattle.ch_laws_calls.specs.FitsTurns.{bytes_at}
use Rattle.ch_laws_plain.specs.Turns.{WriterPlain}

-- its record of a socket says of it what it said: for which link it is, and what is read there next
pub record SocketRests (after : HostState) (n : ℕ) (known : Socket) : Type 0 where
  pub now : Socket
  pub found : find (is_socket n) after.sockets ≡ Some now
  pub user : now.user ≡ known.user
  pub reads : reader_in (Some now) ≡ reader_in (Some known)

-- So it is of each of its sockets; no link is another; and what is written is plain.
pub record Rests (own : ℕ → Address) (host : HostState) (told : List Step) (after : HostState) : Type 0 where
  pub links : after.links ≡ host.links
  pub sockets : (n : ℕ) (known : Socket) → find (is_socket n) host.sockets ≡ Some known → SocketRests after n known
  pub writes : (n : ℕ) → WriterPlain own (due_at host n) (bytes_at n told)

-- whatever was done
abbrev pub AllRest : {E : Type 0} → (ℕ → Address) → HostState → Result (List Step × HostState) E → Type 0
AllRest own host (Ok done) = Rests own host done.0 done.1
AllRest own host (Err e) = Unit {0}
