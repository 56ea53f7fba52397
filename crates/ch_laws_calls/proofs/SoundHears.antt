-- What a host makes of an end that joins or comes, and of bytes: one record of it is new, or another.
use Rattle.std.proofs.Common.{◌≡◌, ℕ, Bool, true, false, cond, List, [], ◌∷◌, ◌++◌, Ok, refl, sym, ap, ◌∙◌}
use Rattle.std.specs.Option.{option_map}
use Rattle.std.specs.Prelude.{find, is_some, Option, Some, None, ◌==◌}
use Rattle.ch_base.specs.declared.address.Address.{Address}
use Rattle.ch_wire.specs.Spelling.{request_spelling}
use Rattle.ch_model.specs.declared.step.SocketEvent.TheVariants as sockets
use Rattle.ch_model.specs.declared.step.Step.{Step}
use Rattle.ch_model.specs.declared.step.Step.TheVariants.{Write}
use Rattle.ch_model.specs.Host.{on_socket, joins, keeps, accepted, host_on}
use Rattle.ch_model.specs.HostState.{Socket, HostState}
use Rattle.ch_model.specs.HostSteps.{Stepped, still, is_socket, own_address, with_socket}
use Rattle.ch_model.specs.HostWrites.{writes}
use Rattle.ch_model.specs.Stages.{Stage, Pending, Open, is_pending, is_open}
use Rattle.ch_laws_log.specs.HostEnds.{stage_at, IsSound}
use Rattle.ch_laws_log.proofs.HostTold.{find_stored}
use Rattle.ch_laws_ends.proofs.Opened.{OpensTo}

done_is : (one two : List Step × HostState) → ◌≡◌ {A = Stepped} (Ok one) (Ok two) → one ≡ two
done_is one two e = cc

-- ---- an end that stands

-- The host has a record of the end, which stands as the test asks, and so something is done to it.
pub record StandsSo (test : Stage → Bool) (sock : ℕ) (f : Socket → HostState → Stepped) (host : HostState) : Type 0 where
  pub socket : Socket
  pub found : find (is_socket sock) host.sockets ≡ Some socket
  pub stands : test socket.stage ≡ true
  pub does : on_socket test sock f host ≡ f socket host

stands_so : (test : Stage → Bool) (sock : ℕ) (f : Socket → HostState → Stepped) (host : HostState) (stage : Stage) → stage_at host sock ≡ Some stage → test stage ≡ true → StandsSo test sock f host
stands_so test sock f host stage e h = by_socket (find (is_socket sock) host.sockets) refl e where
  one : (a b : Stage) → ◌≡◌ {A = Option Stage} (Some a) (Some b) → a ≡ b
  one a b e = cc

  by_socket : (o : Option Socket) → find (is_socket sock) host.sockets ≡ o → option_map (λ (w : Socket). w.stage) o ≡ Some stage → StandsSo test sock f host
  by_socket None found e = absurd cc
  by_socket (Some socket) found e = record {
    socket = socket;
    found = found;
    stands = so;
    does = ap (λ (o : Option Socket). elim o as (λ o. Stepped) [
      | None ↦ still host
      | Some socket ↦ cond (test socket.stage) (f socket host) (still host)
    ]) found ∙ ap (λ b. cond b (f socket host) (still host)) so;
  } where
    so : test socket.stage ≡ true
    so = ap test (one socket.stage stage e) ∙ h

-- ---- what is done

-- one record of the host is another, or new, and the steps are these
pub record Becomes (host : HostState) (new : Socket) (told steps : List Step) (after : HostState) : Type 0 where
  pub steps_are : steps ≡ told
  pub host_is : after ≡ with_socket new host

becomes : (host : HostState) (new : Socket) (told steps : List Step) (after : HostState) → ◌≡◌ {A = Stepped} (Ok (told, with_socket new host)) (Ok (steps, after)) → Becomes host new told steps after
becomes host new told steps after e = let same = done_is (told, with_socket new host) (steps, after) e in record { steps_are = sym (ap (λ (d : List Step × HostState). d.0) same); host_is = sym (ap (λ (d : List Step × HostState). d.1) same) }

-- what is found under a number then
pub found_after : (host : HostState) (new : Socket) (told steps : List Step) (after : HostState) → Becomes host new told steps after → (n : ℕ) → find (is_socket n) after.sockets ≡ cond (new.number == n) (Some new) (find (is_socket n) host.sockets)
found_after host new told steps after b n = ap (λ (h : HostState). find (is_socket n) h.sockets) b.host_is ∙ find_stored new host.sockets n

-- a new record of an open end
pub opens_to : (host : HostState) (new : Socket) (told steps : List Step) (after : HostState) (sock : ℕ) → Becomes host new told steps after → new.number ≡ sock → new.stage ≡ Open → IsSound after → OpensTo host after sock
opens_to host new told steps after sock b number stands sound = record {
  sound = sound;
  stages = λ n. ap (option_map (λ (w : Socket). w.stage)) (found_after host new told steps after b n) ∙ by_stage n (new.number == n) ∙ ap (λ (k : ℕ). cond (k == n) (Some Open) (stage_at host n)) number;
} where
  by_stage : (n : ℕ) (b : Bool) → option_map (λ (w : Socket). w.stage) (cond b (Some new) (find (is_socket n) host.sockets)) ≡ cond b (Some Open) (stage_at host n)
  by_stage n true = ap Some stands
  by_stage n false = refl

-- ---- an end is joined

-- it opens, and its request is written
pub record IsJoined (host : HostState) (sock : ℕ) (steps : List Step) (after : HostState) : Type 0 where
  pub socket : Socket
  pub found : find (is_socket sock) host.sockets ≡ Some socket
  pub stands : is_pending socket.stage ≡ true
  pub bytes : List ℕ
  pub now : Becomes host (record socket { stage = Open }) (Write socket.number bytes None ∷ []) steps after

pub joined_so : (host : HostState) (sock : ℕ) (steps : List Step) (after : HostState) → IsSound host → stage_at host sock ≡ Some Pending → host_on host (sockets.Joined sock) ≡ Ok (steps, after) → IsJoined host sock steps after
unfolding host_on
joined_so host sock steps after s pending is = by_user so.socket.user refl (s.used sock so.socket so.found so.stands) (sym so.does ∙ is) where
  so : StandsSo is_pending sock joins host
  so = stands_so is_pending sock joins host Pending pending refl

  request : ℕ × Address → List ℕ
  request user = request_spelling (record { target = user.1.id; from = own_address host user.0 })

  by_user : (user : Option (ℕ × Address)) → so.socket.user ≡ user → is_some user ≡ true → (elim user as (λ o. Stepped) [
    | None ↦ still host
    | Some user ↦ writes so.socket.number (request user) (with_socket (record (so.socket) { stage = Open }) host)
  ]) ≡ Ok (steps, after) → IsJoined host sock steps after
  by_user None u some e = absurd cc
  by_user (Some user) u some e = record {
    socket = so.socket;
    found = so.found;
    stands = so.stands;
    bytes = request user;
    now = becomes host (record (so.socket) { stage = Open }) (Write so.socket.number (request user) None ∷ []) steps after e;
  }

-- ---- an end comes

pub came_so : (host : HostState) (sock : ℕ) (peer_host : List ℕ) (steps : List Step) (after : HostState) → host_on host (sockets.Came sock peer_host) ≡ Ok (steps, after) → Becomes host (accepted sock peer_host) [] steps after
unfolding host_on
came_so host sock peer_host steps after is = becomes host (accepted sock peer_host) [] steps after is

-- ---- bytes are fed

-- they are kept behind those that were
pub record IsFed (host : HostState) (sock : ℕ) (bytes : List ℕ) (steps : List Step) (after : HostState) : Type 0 where
  pub socket : Socket
  pub found : find (is_socket sock) host.sockets ≡ Some socket
  pub stands : is_open socket.stage ≡ true
  pub now : Becomes host (record socket { since = socket.since ++ bytes }) [] steps after

pub fed_so : (host : HostState) (sock : ℕ) (bytes : List ℕ) (steps : List Step) (after : HostState) (stage : Stage) → stage_at host sock ≡ Some stage → is_open stage ≡ true → host_on host (sockets.Fed sock bytes) ≡ Ok (steps, after) → IsFed host sock bytes steps after
unfolding host_on
fed_so host sock bytes steps after stage held stands is = record {
  socket = so.socket;
  found = so.found;
  stands = so.stands;
  now = becomes host (record (so.socket) { since = so.socket.since ++ bytes }) [] steps after (sym so.does ∙ is);
} where
  so : StandsSo is_open sock (keeps bytes) host
  so = stands_so is_open sock (keeps bytes) host stage held stands
