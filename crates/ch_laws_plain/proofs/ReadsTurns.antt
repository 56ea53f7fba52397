-- An item that a host reads, and the end of a socket's input: each brings one of these, and each end is still there.
use Rattle.std.proofs.Common.{◌≡◌, ℕ, Bool, true, false, cond, List, [], Ok, Err, refl, sym, ap, subst}
use Rattle.std.proofs.lemmas.Bool.{and_parts}
use Rattle.std.specs.Prelude.{find, Option, Some, None, Result}
use Rattle.ch_base.specs.declared.address.Address.{Address}
use Rattle.ch_base.specs.declared.memory.Stop.{Stop}
use Rattle.ch_model.specs.declared.step.SocketEvent.TheVariants as sockets
use Rattle.ch_model.specs.declared.step.Step.{Step}
use Rattle.ch_model.specs.Host.{front_of, is_ready_front, first_ready, handles, some_steps, host_on, host_next}
use Rattle.ch_model.specs.HostItems.{is_gone}
use Rattle.ch_model.specs.HostState.{Link, Socket, HostState}
use Rattle.ch_model.specs.HostSteps.{Stepped, still, link_with, is_socket}
use Rattle.ch_model.specs.Stages.{is_open}
use Rattle.ch_laws_items.proofs.Next.{served}
use Rattle.ch_laws_links.specs.Naming.{IsNaming}
use Rattle.ch_laws_reads.specs.Reads.{reads_of, IsKept, Reads, AllRead}
use Rattle.ch_laws_reads.proofs.HostEventsRead.{event_read}
use Rattle.ch_laws_reads.proofs.HostItemsRead.{next_told}
use Rattle.ch_laws_writes.specs.Dues.{due_at}
use Rattle.ch_laws_writes.specs.Orderly.{IsOrderly}
use Rattle.ch_laws_writes.proofs.Ordered.{is_key, at_key}
use Rattle.ch_laws_calls.specs.FitsTurns.{bytes_at}
use Rattle.ch_laws_calls.proofs.FitsStores.{none_kind}
use Rattle.ch_laws_plain.specs.Talks.{LinkIsPlain, HostIsPlain}
use Rattle.ch_laws_plain.specs.Turns.{WriterPlain}
use Rattle.ch_laws_plain.specs.ReadsReading.{HasStill, Brings, Reading}
use Rattle.ch_laws_plain.proofs.ReadsBrought.{AllLet, all_gone}
use Rattle.ch_laws_plain.proofs.ReadsItems.{AllBring, handled, ended_brings}

-- what is done of an item, where one is handled
pub next_done : (P : List Step → HostState → Type 0) (host after : HostState) (told : List Step) → ((socket : Socket) (steps : List Step) (one : HostState) → first_ready host.sockets ≡ Some socket → handles socket (front_of socket) host ≡ Ok (steps, one) → P steps one) → host_next host ≡ Ok (Some told, after) → P told after
unfolding host_next
next_done P host after told each e = by_first (first_ready host.sockets) refl e where
  some_in : Result (Option (List Step) × HostState) Stop → Option (List Step)
  some_in (Ok next) = next.0
  some_in (Err stop) = None

  steps_in : Result (Option (List Step) × HostState) Stop → List Step
  steps_in (Ok next) = elim next.0 [
    | None ↦ []
    | Some steps ↦ steps
  ]
  steps_in (Err stop) = []

  host_in : Result (Option (List Step) × HostState) Stop → HostState
  host_in (Ok next) = next.1
  host_in (Err stop) = host

  by_done : (socket : Socket) → first_ready host.sockets ≡ Some socket → (done : Stepped) → handles socket (front_of socket) host ≡ done → some_steps done ≡ Ok (Some told, after) → P told after
  by_done socket f (Ok (steps, one)) is e =
      let same_host : one ≡ after = ap host_in e in
      let same_steps : steps ≡ told = ap steps_in e in
      subst (λ (h : HostState). P told h) same_host (subst (λ (l : List Step). P l one) same_steps (each socket steps one f is))
  by_done socket f (Err stop) is e = absurd cc

  by_first : (x : Option Socket) → first_ready host.sockets ≡ x → (elim x as (λ x. Result (Option (List Step) × HostState) Stop) [
    | None ↦ Ok (None, host)
    | Some socket ↦ some_steps (handles socket (front_of socket) host)
  ]) ≡ Ok (Some told, after) → P told after
  by_first None f e = let never : None ≡ Some told = ap some_in e in absurd cc
  by_first (Some socket) f e = by_done socket f (handles socket (front_of socket) host) refl e

-- each end that is read on is there still
still_there : (host after : HostState) (told : List Step) → Reads host told after → HasStill host after
still_there host after told r n known found = by_socket (find (is_socket n) after.sockets) refl (r.known n known found) where
  by_socket : (o : Option Socket) → find (is_socket n) after.sockets ≡ o → IsKept (reads_of n told) known o → (now : Socket) × (find (is_socket n) after.sockets ≡ Some now)
  by_socket None e k = absurd k
  by_socket (Some now) e k = (now, e)

-- an item that a host reads
pub next_reads : (own : ℕ → Address) (host after : HostState) (told : List Step) → IsNaming host → IsOrderly own host → HostIsPlain host → host_next host ≡ Ok (Some told, after) → Reading host told after
next_reads own host after told s o p e = (still_there host after told (next_told host after told o.sound e), next_done (Brings host) host after told each e) where
  each : (socket : Socket) (steps : List Step) (one : HostState) → first_ready host.sockets ≡ Some socket → handles socket (front_of socket) host ≡ Ok (steps, one) → Brings host steps one
  each socket steps one f is =
      let at = served host.sockets socket o.sound.apart f in
      let both = and_parts (is_open socket.stage) (is_ready_front (front_of socket).0) at.ready in
      subst (AllBring host) is (handled own host socket s o p at.found both.0 both.1)

-- the input of a socket ends
pub ended_reads : (own : ℕ → Address) (host after : HostState) (sock : ℕ) (told : List Step) → IsNaming host → IsOrderly own host → host_on host (sockets.Ended sock) ≡ Ok (told, after) → Reading host told after
ended_reads own host after sock told s o e = (still_there host after told (subst (AllRead host) e (event_read host (sockets.Ended sock)) o.sound), subst (AllBring host) e (ended_brings host sock s))

-- ---- what is written, and what waits, where the input of a socket ends

-- nothing is written, and each link that was plain is
abbrev AllQuiet : HostState → Stepped → Type 0
AllQuiet host (Ok done) = (HostIsPlain host → HostIsPlain done.1) × ((n : ℕ) → bytes_at n done.0 ≡ [])
AllQuiet host (Err stop) = Unit {0}

let_quiet : (host : HostState) (sock : ℕ) (link : Link) (done : Stepped) → link_with host link.end link.peer ≡ link → AllLet host sock link done → AllQuiet host done
let_quiet host sock link (Err stop) is l = tt
let_quiet host sock link (Ok done) is l = (plain, l.silent) where
  plain : HostIsPlain host → HostIsPlain done.1
  plain p e q = by_test (is_key link.end link.peer e q) refl where
    by_test : (b : Bool) → is_key link.end link.peer e q ≡ b → LinkIsPlain (link_with done.1 e q)
    by_test true h = at_key (λ m x. LinkIsPlain (link_with done.1 m x)) link.end link.peer e q h (l.plain (subst LinkIsPlain is (p link.end link.peer)))
    by_test false h = subst LinkIsPlain (sym (l.others e q h)) (p e q)

ended_quiet : (host : HostState) (sock : ℕ) → AllQuiet host (host_on host (sockets.Ended sock))
unfolding host_on
ended_quiet host sock = by_socket (find (is_socket sock) host.sockets) where
  rests : AllQuiet host (still host)
  rests = (λ p. p, λ n. refl)

  by_test : (socket : Socket) (b : Bool) → AllQuiet host (cond b (is_gone socket host) (still host))
  by_test socket true = all_gone host host socket (AllQuiet host) refl (λ link done is l. let_quiet host socket.number link done is l)
  by_test socket false = rests

  by_socket : (x : Option Socket) → AllQuiet host (elim x as (λ x. Stepped) [
    | None ↦ still host
    | Some socket ↦ cond (is_open socket.stage) (is_gone socket host) (still host)
  ])
  by_socket None = rests
  by_socket (Some socket) = by_test socket (is_open socket.stage)

pub ended_plain : (host after : HostState) (sock : ℕ) (told : List Step) → HostIsPlain host → host_on host (sockets.Ended sock) ≡ Ok (told, after) → HostIsPlain after
ended_plain host after sock told p e = let quiet : AllQuiet host (Ok (told, after)) = subst (AllQuiet host) e (ended_quiet host sock) in quiet.0 p

pub ended_silent : (host after : HostState) (sock : ℕ) (told : List Step) → host_on host (sockets.Ended sock) ≡ Ok (told, after) → (n : ℕ) → bytes_at n told ≡ []
ended_silent host after sock told e = let quiet : AllQuiet host (Ok (told, after)) = subst (AllQuiet host) e (ended_quiet host sock) in quiet.1

pub ended_writes : (own : ℕ → Address) (host after : HostState) (sock : ℕ) (told : List Step) → host_on host (sockets.Ended sock) ≡ Ok (told, after) → (n : ℕ) → WriterPlain own (due_at host n) (bytes_at n told)
ended_writes own host after sock told e n = record { said = []; spelled = ended_silent host after sock told e n; kind = none_kind own (due_at host n); stream = refl }
