-- One item that is handled, of the first socket that has one.
use Rattle.std.proofs.Common.{◌≡◌, ℕ, true, List, [], ◌∷◌, find, Option, Some, None, Result, Ok, refl, ap, sym, subst, ◌∙◌}
use Rattle.ch_base.specs.declared.memory.Stop.{Stop}
use Rattle.ch_base.specs.declared.memory.Stop.TheVariants.{OutOfMemory, Worn}
use Rattle.ch_reader.specs.declared.item.Front.{Front}
use Rattle.ch_reader.specs.declared.item.Front.TheVariants.{Unfinished, Whole, Refused}
use Rattle.ch_model.specs.declared.step.Step.{Step}
use Rattle.ch_model.specs.declared.step.Step.TheVariants as steps
use Rattle.ch_model.specs.HostState.{Socket, HostState}
use Rattle.ch_model.specs.HostSteps.{is_socket, store_socket, Stepped, after_steps}
use Rattle.ch_model.specs.HostItems.{is_gone, reads}
use Rattle.ch_model.specs.Host.{first_ready, front_of, handles, some_steps, host_next}
use Rattle.ch_endpoint.specs.Calls.{Stops}
use Rattle.ch_endpoint.specs.ReadySets.{ready_in}
use Rattle.ch_endpoint.specs.Taking.{front_at, passed, taken_one, taken_among, handled}
use Rattle.ch_endpoint.proofs.Tables.{replaced_same, socket_stored}
use Rattle.ch_endpoint.proofs.Ended.{number_of}
use Rattle.ch_endpoint.proofs.SocketTables.{found_stored}

-- ---- steps that follow the one that tells of an item

pub read_first : (sock : ℕ) (more all : List Step) (done : Stepped) (after : HostState) → done ≡ Ok (more, after) → all ≡ steps.Read sock ∷ more → after_steps (steps.Read sock ∷ []) done ≡ Ok (all, after)
read_first sock more all done after d a = ap (after_steps (steps.Read sock ∷ [])) d ∙ (λ i. Ok (sym a i, after))

pub read_stops : (sock : ℕ) (done : Stepped) (e : Stop) → Stops e done → Stops e (after_steps (steps.Read sock ∷ []) done)
read_stops sock done OutOfMemory s = tt
read_stops sock done Worn s = ap (after_steps (steps.Read sock ∷ [])) s

-- ---- what was taken from the front

-- a socket that is found is stored as it is
socket_same : (sock : ℕ) (socket : Socket) (xs : List Socket) → find (is_socket sock) xs ≡ Some socket → store_socket socket xs ≡ xs
socket_same sock socket xs found =
    let own : find (is_socket socket.number) xs ≡ Some socket = ap (λ n. find (is_socket n) xs) (number_of sock socket xs found) ∙ found in
    socket_stored socket xs ∙ replaced_same (is_socket socket.number) socket xs own

passed_number : (front : Front) (n : ℕ) (socket : Socket) → (passed front n socket).number ≡ socket.number
passed_number Unfinished n socket = refl
passed_number (Whole item) n socket = refl
passed_number (Refused error) n socket = refl

-- once what stands at the front is taken, the rest is to do on the socket as it is then
pub taken_found : (sock : ℕ) (socket : Socket) (host between : HostState) → find (is_socket sock) host.sockets ≡ Some socket → between ≡ record host { sockets = taken_among sock host.sockets } → find (is_socket sock) between.sockets ≡ Some (passed (front_of socket).0 (front_of socket).1 socket)
taken_found sock socket host between found b =
    let now : Socket = passed (front_of socket).0 (front_of socket).1 socket in
    let stored : between.sockets ≡ store_socket now host.sockets = ap (λ (h : HostState). h.sockets) b ∙ ap (λ o. taken_one o host.sockets) found in
    let number : now.number ≡ sock = passed_number (front_of socket).0 (front_of socket).1 socket ∙ number_of sock socket host.sockets found in
    ap (find (is_socket sock)) stored ∙ ap (λ n. find (is_socket n) (store_socket now host.sockets)) (sym number) ∙ found_stored now host.sockets

pub handles_is : (sock : ℕ) (socket : Socket) (front : Front) (host between : HostState) → find (is_socket sock) host.sockets ≡ Some socket → between ≡ record host { sockets = taken_among sock host.sockets } → front ≡ (front_at (find (is_socket sock) host.sockets)).0 → handles socket (front_of socket) host ≡ handled front (passed (front_of socket).0 (front_of socket).1 socket) between
handles_is sock socket front host between found b is =
    let at : front ≡ (front_of socket).0 = is ∙ ap (λ o. (front_at o).0) found in
    let stored : between ≡ record host { sockets = store_socket (passed (front_of socket).0 (front_of socket).1 socket) host.sockets } = b ∙ (λ i. record host { sockets = taken_one (found i) host.sockets }) in
    by_front (front_of socket).0 (front_of socket).1 stored ∙ ap (λ (f : Front). handled f (passed (front_of socket).0 (front_of socket).1 socket) between) (sym at)
  where
    as_it_is : host ≡ record host { sockets = store_socket socket host.sockets }
    as_it_is = λ i. record host { sockets = sym (socket_same sock socket host.sockets found) i }

    by_front : (f : Front) (n : ℕ) → between ≡ record host { sockets = store_socket (passed f n socket) host.sockets } → handles socket (f, n) host ≡ handled f (passed f n socket) between
    by_front Unfinished n s = ap (λ (h : HostState). Ok ([], h)) (as_it_is ∙ sym s)
    by_front (Refused error) n s = ap (is_gone socket) (as_it_is ∙ sym s)
    by_front (Whole item) n s = ap (λ (h : HostState). after_steps (steps.Read socket.number ∷ []) (reads (passed (Whole item) n socket) item h)) (sym s)

-- what was taken, as the socket's number tells
pub whole_handled : (sock : ℕ) (socket : Socket) (host : HostState) → find (is_socket sock) host.sockets ≡ Some socket → (done : Stepped) → after_steps (steps.Read socket.number ∷ []) done ≡ after_steps (steps.Read sock ∷ []) done
whole_handled sock socket host found done = ap (λ n. after_steps (steps.Read n ∷ []) done) (number_of sock socket host.sockets found)

-- the host with its sockets so
pub with_taken : (sock : ℕ) (inside now : HostState) (sockets : List Socket) → inside ≡ now → sockets ≡ taken_among sock inside.sockets → record inside { sockets = sockets } ≡ record now { sockets = taken_among sock now.sockets }
with_taken sock inside now sockets same e = (λ i. record inside { sockets = e i }) ∙ (λ i. record (same i) { sockets = taken_among sock (same i).sockets })

-- ---- the first socket that has something to handle

pub next_none : (host : HostState) → first_ready host.sockets ≡ None → host_next host ≡ Ok (None, host)
unfolding host_next
next_none host e = ap (λ (o : Option Socket). elim o [ None ↦ Ok (None, host) | Some socket ↦ some_steps (handles socket (front_of socket) host) ]) e

pub next_some : (sock : ℕ) (host : HostState) (P : Result (Option (List Step) × HostState) Stop → Type 0) → first_ready host.sockets ≡ find (is_socket sock) host.sockets → ready_in (find (is_socket sock) host.sockets) ≡ true → ((socket : Socket) → find (is_socket sock) host.sockets ≡ Some socket → P (some_steps (handles socket (front_of socket) host))) → P (host_next host)
unfolding host_next
next_some sock host P e r p = by_case (find (is_socket sock) host.sockets) refl r
  where
    by_case : (o : Option Socket) → find (is_socket sock) host.sockets ≡ o → ready_in o ≡ true → P (host_next host)
    by_case None f r = absurd cc
    by_case (Some socket) f r = subst P (sym (ap (λ (o : Option Socket). elim o [ None ↦ Ok (None, host) | Some socket ↦ some_steps (handles socket (front_of socket) host) ]) (e ∙ f))) (p socket f)

pub some_stops : (done : Stepped) (e : Stop) → Stops e done → Stops e (some_steps done)
some_stops done OutOfMemory s = tt
some_stops done Worn s = ap some_steps s
