-- What follows where a socket is gone.
use Rattle.std.proofs.Common.{◌≡◌, ℕ, Bool, true, false, cond, List, [], ◌∷◌, find, Option, Some, None, Ok, refl, ap, sym, ◌∙◌}
use Rattle.ch_base.specs.declared.address.Address.{Address}
use Rattle.ch_model.specs.declared.step.Step.{Step}
use Rattle.ch_model.specs.Stages.{Stage}
use Rattle.ch_model.specs.HostState.{Socket, HostState}
use Rattle.ch_model.specs.HostSteps.{is_socket, link_with, Stepped}
use Rattle.ch_model.specs.HostWrites.{leaves}
use Rattle.ch_model.specs.HostItems.{gone_from, is_gone}
use Rattle.ch_model.specs.Host.{on_socket, joins, keeps}
use Rattle.ch_endpoint.specs.Asks.{asks}
use Rattle.ch_endpoint.specs.Ends.{opened_one, opened_among, fed_one, fed_among}
use Rattle.ch_model.specs.Stages.{Open}
use Rattle.ch_wire.specs.Spelling.{request_spelling}
use Rattle.ch_model.specs.declared.step.Step.TheVariants as steps
use Rattle.ch_model.specs.HostSteps.{own_address, store_socket}
use Rattle.ch_endpoint.specs.Users.{user_of, stands}
use Rattle.ch_endpoint.proofs.Tables.{found_passes, number_is}

-- a socket that is found has that number
pub number_of : (sock : ℕ) (socket : Socket) (sockets : List Socket) → find (is_socket sock) sockets ≡ Some socket → socket.number ≡ sock
number_of sock socket sockets e = number_is _ _ (found_passes (is_socket sock) socket sockets e)

by_user : (user : Option (ℕ × Address)) (socket : Socket) (host : HostState) → is_gone (record socket { user = user }) host ≡ elim user [ None ↦ leaves socket.number host | Some u ↦ gone_from socket.number (link_with host u.0 u.1) host ]
by_user None socket host = refl
by_user (Some u) socket host = refl

-- no link used it
pub gone_unused : (sock : ℕ) (socket : Socket) (host : HostState) (done : List Step × HostState) → find (is_socket sock) host.sockets ≡ Some socket → user_of (find (is_socket sock) host.sockets) ≡ None → leaves sock host ≡ Ok done → is_gone socket host ≡ Ok done
gone_unused sock socket host done e u d =
    let none : socket.user ≡ None = ap user_of (sym e) ∙ u in
    (λ i. is_gone (record socket { user = none i }) host) ∙ ap (λ n. leaves n host) (number_of sock socket host.sockets e) ∙ d

-- a link used it
pub gone_used : (sock end : ℕ) (peer : Address) (socket : Socket) (host : HostState) (done : List Step × HostState) → find (is_socket sock) host.sockets ≡ Some socket → user_of (find (is_socket sock) host.sockets) ≡ Some (end, peer) → gone_from sock (link_with host end peer) host ≡ Ok done → is_gone socket host ≡ Ok done
gone_used sock end peer socket host done e u d =
    let some : socket.user ≡ Some (end, peer) = ap user_of (sym e) ∙ u in
    (λ i. is_gone (record socket { user = some i }) host) ∙ ap (λ n. gone_from n (link_with host end peer) host) (number_of sock socket host.sockets e) ∙ d

-- nothing is done where the end doesn't stand so
pub on_still : (test : Stage → Bool) (sock : ℕ) (f : Socket → HostState → Stepped) (host : HostState) → stands test (find (is_socket sock) host.sockets) ≡ false → on_socket test sock f host ≡ Ok ([], host)
on_still test sock f host e = by_case (find (is_socket sock) host.sockets) e
  where
    by_case : (o : Option Socket) → stands test o ≡ false → Path Stepped (elim o [ None ↦ Ok ([], host) | Some socket ↦ cond (test socket.stage) (f socket host) (Ok ([], host)) ]) (Ok ([], host))
    by_case None e = refl
    by_case (Some socket) e = ap (λ b. cond b (f socket host) (Ok ([], host))) e

-- what is done where the end stands so
pub on_does : (test : Stage → Bool) (sock : ℕ) (f : Socket → HostState → Stepped) (host : HostState) (done : List Step × HostState) → stands test (find (is_socket sock) host.sockets) ≡ true → ((socket : Socket) → find (is_socket sock) host.sockets ≡ Some socket → f socket host ≡ Ok done) → on_socket test sock f host ≡ Ok done
on_does test sock f host done e d = by_case (find (is_socket sock) host.sockets) e d
  where
    by_case : (o : Option Socket) → stands test o ≡ true → ((socket : Socket) → o ≡ Some socket → f socket host ≡ Ok done) → Path Stepped (elim o [ None ↦ Ok ([], host) | Some socket ↦ cond (test socket.stage) (f socket host) (Ok ([], host)) ]) (Ok done)
    by_case None e d = absurd cc
    by_case (Some socket) e d = ap (λ b. cond b (f socket host) (Ok ([], host))) e ∙ d socket refl

pub on_gone : (test : Stage → Bool) (sock : ℕ) (host : HostState) (done : List Step × HostState) → stands test (find (is_socket sock) host.sockets) ≡ true → ((socket : Socket) → find (is_socket sock) host.sockets ≡ Some socket → is_gone socket host ≡ Ok done) → on_socket test sock is_gone host ≡ Ok done
on_gone test sock host done e d = on_does test sock is_gone host done e d

-- a socket that no link dialed asks nothing
pub joins_unused : (sock : ℕ) (socket : Socket) (host : HostState) → find (is_socket sock) host.sockets ≡ Some socket → user_of (find (is_socket sock) host.sockets) ≡ None → joins socket host ≡ Ok ([], host)
joins_unused sock socket host e u =
    let none : socket.user ≡ None = ap user_of (sym e) ∙ u in
    (λ i. joins (record socket { user = none i }) host)

-- a socket that a link dialed asks for it
pub joins_used : (sock end : ℕ) (peer : Address) (socket : Socket) (host : HostState) (done : List Step × HostState) → find (is_socket sock) host.sockets ≡ Some socket → user_of (find (is_socket sock) host.sockets) ≡ Some (end, peer) → asks sock end peer host ≡ Ok done → joins socket host ≡ Ok done
joins_used sock end peer socket host done e u d =
    let some : socket.user ≡ Some (end, peer) = ap user_of (sym e) ∙ u in
    let number : socket.number ≡ sock = number_of sock socket host.sockets e in
    let sockets : store_socket (record socket { stage = Open }) host.sockets ≡ opened_among sock host.sockets = sym (ap (λ o. opened_one o host.sockets) e) in
    let user_back : Some (end, peer) ≡ socket.user = sym some in
    (λ i. joins (record socket { user = some i }) host)
    ∙ (λ i. Ok (steps.Write (number i) (request_spelling (record { target = peer.id; from = own_address host end })) None ∷ [], record host { sockets = store_socket (record socket { stage = Open; user = user_back i }) host.sockets }))
    ∙ (λ i. Ok (steps.Write sock (request_spelling (record { target = peer.id; from = own_address host end })) None ∷ [], record host { sockets = sockets i }))
    ∙ d

pub on_joined : (test : Stage → Bool) (sock : ℕ) (host : HostState) (done : List Step × HostState) → stands test (find (is_socket sock) host.sockets) ≡ true → ((socket : Socket) → find (is_socket sock) host.sockets ≡ Some socket → joins socket host ≡ Ok done) → on_socket test sock joins host ≡ Ok done
on_joined test sock host done e d = on_does test sock joins host done e d

-- bytes that were kept
pub on_fed : (test : Stage → Bool) (sock : ℕ) (bytes : List ℕ) (host : HostState) → stands test (find (is_socket sock) host.sockets) ≡ true → on_socket test sock (keeps bytes) host ≡ Ok ([], record host { sockets = fed_among bytes sock host.sockets })
on_fed test sock bytes host e = on_does test sock (keeps bytes) host ([], record host { sockets = fed_among bytes sock host.sockets }) e (λ socket f. (λ i. Ok ([], record host { sockets = sym (ap (λ o. fed_one bytes o host.sockets) f) i })))
