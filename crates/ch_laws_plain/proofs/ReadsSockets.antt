-- The ends of a host that haven't ended after it has done something: each was so before.
use Rattle.std.proofs.Common.{◌≡◌, ℕ, Bool, true, false, List, sym, ap, ◌∙◌}
use Rattle.std.specs.Option.{option_map}
use Rattle.std.specs.Prelude.{find, Option, Some, None, ◌==◌}
use Rattle.ch_model.specs.HostState.{Socket, HostState}
use Rattle.ch_model.specs.HostSteps.{is_socket}
use Rattle.ch_model.specs.HostWrites.{end_socket}
use Rattle.ch_model.specs.Stages.{is_ended}
use Rattle.ch_laws_links.proofs.Keys.{ended, over, ended_found, number_self}
use Rattle.ch_laws_plain.proofs.Talks.{clash}

pub some_is : (one two : Socket) → ◌≡◌ {A = Option Socket} (Some one) (Some two) → one ≡ two
some_is one two e = cc

-- each end that hasn't ended was so before
abbrev pub WereSo : HostState → HostState → Type 0
WereSo host after = (n : ℕ) (now : Socket) → find (is_socket n) after.sockets ≡ Some now → is_ended now.stage ≡ false → find (is_socket n) host.sockets ≡ Some now

-- where no socket is touched
pub same_so : (host after : HostState) → after.sockets ≡ host.sockets → WereSo host after
same_so host after same n now found stands = ap (λ (l : List Socket). find (is_socket n) l) (sym same) ∙ found

-- where one is ended
pub ended_so : (sock : ℕ) (host : HostState) → WereSo host (end_socket sock host)
ended_so sock host n now found stands = by_test (sock == n) (sym (ended_found sock host n) ∙ found) where
  by_found : (o : Option Socket) → option_map ended o ≡ Some now → o ≡ Some now
  by_found None e = absurd cc
  by_found (Some socket) e = clash (ap (λ (w : Socket). is_ended w.stage) (some_is (ended socket) now e) ∙ stands)

  by_test : (b : Bool) → over b (find (is_socket n) host.sockets) ≡ Some now → find (is_socket n) host.sockets ≡ Some now
  by_test true e = by_found (find (is_socket n) host.sockets) e
  by_test false e = e

-- and that one has ended then
pub ended_over : (sock : ℕ) (host : HostState) (now : Socket) → find (is_socket sock) (end_socket sock host).sockets ≡ Some now → is_ended now.stage ≡ true
ended_over sock host now found = by_found (find (is_socket sock) host.sockets) (sym (ap (λ b. over b (find (is_socket sock) host.sockets)) (number_self sock)) ∙ sym (ended_found sock host sock) ∙ found) where
  by_found : (o : Option Socket) → option_map ended o ≡ Some now → is_ended now.stage ≡ true
  by_found None e = absurd cc
  by_found (Some socket) e = sym (ap (λ (w : Socket). is_ended w.stage) (some_is (ended socket) now e))
