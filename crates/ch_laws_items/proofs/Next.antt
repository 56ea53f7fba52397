-- Each item that is handled leaves fewer bytes unread.
use Rattle.std.proofs.Common.{◌≡◌, ◌≤◌, ◌<◌, ℕ, ◌+◌, Bool, true, false, cond, ◌&&◌, List, [], ◌∷◌, length, drop, Ok, Err, refl, sym, ap, ◌∙◌, subst, ◌==◌, arith}
use Rattle.std.proofs.lemmas.Bool.Decides.{nat_tests}
use Rattle.std.proofs.lemmas.List.{length-drop}
use Rattle.std.specs.Prelude.{◌-◌, find, Result, Option, Some, None, nat_lt, min}
use Rattle.ch_base.specs.declared.address.Address.{Address}
use Rattle.ch_base.specs.declared.memory.Stop.{Stop}
use Rattle.ch_reader.specs.declared.item.Expected.{Expected}
use Rattle.ch_reader.specs.declared.item.Expected.TheVariants as expected
use Rattle.ch_reader.specs.declared.item.Front.{Front}
use Rattle.ch_reader.specs.declared.item.Front.TheVariants.{Unfinished, Whole, Refused}
use Rattle.ch_reader.specs.Reading.{header_size, reading, frame_header_size}
use Rattle.ch_wire.specs.Spelling.{head_numbered}
use Rattle.ch_reader.specs.Streams.{first_word}
use Rattle.ch_wire.specs.declared.frame.Head.{Head}
use Rattle.ch_wire.specs.declared.frame.Head.TheVariants as heads
use Rattle.ch_link.specs.Sockets.{names}
use Rattle.ch_link.specs.declared.LinkIn.TheVariants as inputs
use Rattle.ch_link.specs.declared.LinkState.{LinkState}
use Rattle.ch_link.specs.declared.LinkState.TheVariants as states
use Rattle.ch_model.specs.Stages.{Ended, is_open}
use Rattle.ch_model.specs.declared.step.Step.{Step}
use Rattle.ch_model.specs.HostState.{Link, Socket, HostState}
use Rattle.ch_link.specs.Table.{step_of}
use Rattle.ch_model.specs.declared.step.Step.TheVariants as steps
use Rattle.ch_model.specs.Greater.{is_greater}
use Rattle.ch_model.specs.HostSteps.{Stepped, after_steps, own_address, is_socket, store_socket, with_socket, with_link, link_with}
use Rattle.ch_model.specs.HostWrites.{ended_in, end_socket, leaves}
use Rattle.ch_model.specs.HostLinks.{does_act, hears}
use Rattle.ch_model.specs.HostItems.{gone_from, is_gone, reads}
use Rattle.ch_model.specs.Host.{front_of, is_ready_front, is_ready, lower, first_ready, handles, some_steps, host_next}
use Rattle.ch_laws_items.specs.Kept.{kept_of, kept_at, Apart, KeepsNoMore, Fine}
use Rattle.ch_laws_items.proofs.Sockets.{number_is, stored, stores}
use Rattle.ch_laws_items.proofs.Links.{later, at_rest}
use Rattle.ch_laws_items.proofs.Items.{socket_gone, read}

-- ---- the socket that is served

same_number : (n : ℕ) → (n == n) ≡ true
same_number n = grind (arith, nat_tests)

-- what is unread under a number is that of the socket that is found there
pub kept_found : (number : ℕ) (socket : Socket) (sockets : List Socket) → find (is_socket number) sockets ≡ Some socket → kept_at number sockets ≡ length socket.since
kept_found number socket [] e = absurd cc
kept_found number socket (known ∷ rest) e = by_test (is_socket number known) (kept_found number socket rest) e
  where
    by_test : (b : Bool) → (find (is_socket number) rest ≡ Some socket → kept_at number rest ≡ length socket.since) → cond b (Some known) (find (is_socket number) rest) ≡ Some socket → cond b (length known.since) (kept_at number rest) ≡ length socket.since
    by_test true ih e = let same : known ≡ socket = cc in ap (λ (s : Socket). length s.since) same
    by_test false ih e = ih e

-- a socket behind others is found under its number
behind : (known socket : Socket) (rest : List Socket) → find (is_socket known.number) rest ≡ None → find (is_socket socket.number) rest ≡ Some socket → find (is_socket socket.number) (known ∷ rest) ≡ Some socket
behind known socket rest none e = by_test (is_socket socket.number known) refl
  where
    by_test : (b : Bool) → is_socket socket.number known ≡ b → cond b (Some known) (find (is_socket socket.number) rest) ≡ Some socket
    by_test true is =
        let one : find (is_socket known.number) rest ≡ Some socket = subst (λ (n : ℕ). find (is_socket n) rest ≡ Some socket) (sym (number_is known.number socket.number is)) e in
        absurd cc
    by_test false is = e

-- a socket in front is found under its number
in_front : (socket : Socket) (rest : List Socket) → find (is_socket socket.number) (socket ∷ rest) ≡ Some socket
in_front socket rest = rw own refl
  where
    own : is_socket socket.number socket ≡ true
    own = grind (arith, nat_tests)

pub record Served (sockets : List Socket) (socket : Socket) : Type 0 where
  pub found : find (is_socket socket.number) sockets ≡ Some socket
  pub ready : is_ready socket ≡ true

further : (known socket : Socket) (rest : List Socket) → find (is_socket known.number) rest ≡ None → Served rest socket → Served (known ∷ rest) socket
further known socket rest none s = record { found = behind known socket rest none s.found; ready = s.ready }

-- the socket that is served is one of them, and has something to handle
pub served : (sockets : List Socket) (socket : Socket) → Apart sockets → first_ready sockets ≡ Some socket → Served sockets socket
served [] socket a e = absurd cc
served (known ∷ rest) socket a e = by_test (is_ready known) refl (first_ready rest) (λ s f. served rest s a.1 f) refl e
  where
    by_test : (b : Bool) → is_ready known ≡ b → (o : Option Socket) → ((s : Socket) → first_ready rest ≡ Some s → Served rest s) → first_ready rest ≡ o → cond b (Some (lower known o)) o ≡ Some socket → Served (known ∷ rest) socket
    by_test true ready None ih o e = let same : known ≡ socket = cc in subst (Served (known ∷ rest)) same (record { found = in_front known rest; ready = ready })
    by_test true ready (Some other) ih o e = by_number (nat_lt other.number known.number) e
      where
        by_number : (b : Bool) → Some (cond b other known) ≡ Some socket → Served (known ∷ rest) socket
        by_number true e = let same : other ≡ socket = cc in subst (Served (known ∷ rest)) same (further known other rest a.0 (ih other o))
        by_number false e = let same : known ≡ socket = cc in subst (Served (known ∷ rest)) same (record { found = in_front known rest; ready = ready })
    by_test false ready None ih o e = absurd cc
    by_test false ready (Some other) ih o e = let same : other ≡ socket = cc in subst (Served (known ∷ rest)) same (further known other rest a.0 (ih other o))

-- ---- what stands at the front takes bytes

at_least_four : (e : Expected) (bytes : List ℕ) → 4 ≤ header_size e bytes
at_least_four expected.Request bytes = omega arith
at_least_four expected.Answer bytes = omega arith
at_least_four expected.Frame bytes = by_test (nat_lt (length bytes) 4)
  where
    sizes : (head : Head) → 4 ≤ frame_header_size head
    sizes heads.Created = omega arith
    sizes heads.Closed = omega arith
    sizes (heads.Data id) = omega arith
    sizes heads.EndClosed = omega arith
    sizes heads.Probe = omega arith
    sizes heads.ProbeAck = omega arith
    sizes heads.Unknown = omega arith

    by_test : (b : Bool) → 4 ≤ cond b 4 (frame_header_size (head_numbered (first_word bytes)))
    by_test true = omega arith
    by_test false = sizes (head_numbered (first_word bytes))

by_size : (size len more : ℕ) → nat_lt len size ≡ false → 4 ≤ size → (0 < len) × (0 < min size len + more)
by_size size len more is four = (grind (arith, nat_tests), grind (arith, nat_tests))

pub takes_some : (e : Expected) (bytes : List ℕ) → is_ready_front (reading e bytes).0 ≡ true → (0 < length bytes) × (0 < (reading e bytes).1)
takes_some e bytes ready = by_test (nat_lt (length bytes) (header_size e bytes)) refl
  where
    by_test : (b : Bool) → nat_lt (length bytes) (header_size e bytes) ≡ b → (0 < length bytes) × (0 < (reading e bytes).1)
    by_test true is =
        let unfinished : (reading e bytes).0 ≡ Unfinished = rw is refl in
        let never : is_ready_front Unfinished ≡ true = ap is_ready_front (sym unfinished) ∙ ready in
        absurd cc
    by_test false is = by_size (header_size e bytes) (length bytes) _ is (at_least_four e bytes)

-- ---- less is unread

-- fewer bytes are unread than before
abbrev Less : HostState → Stepped → Type 0
Less before (Ok done) = kept_of done.1.sockets < kept_of before.sockets
Less before (Err stop) = Unit {0}

taken : (t a k s : ℕ) → t + a ≡ k + s → s < a → t < k
taken t a k s e l = omega arith

-- a socket that is ended keeps nothing of what it had
ended_less : (socket : Socket) (host : HostState) → find (is_socket socket.number) host.sockets ≡ Some socket → 0 < length socket.since → kept_of (end_socket socket.number host).sockets < kept_of host.sockets
ended_less socket host found some =
    let ended : end_socket socket.number host ≡ with_socket (record socket { stage = Ended; since = [] }) host = ap (λ o. ended_in o host) found in
    let kept : kept_at socket.number host.sockets ≡ length socket.since = kept_found socket.number socket host.sockets found in
    let less : kept_of (store_socket (record socket { stage = Ended; since = [] }) host.sockets) < kept_of host.sockets = taken _ _ _ _ (stored (record socket { stage = Ended; since = [] }) host.sockets) (subst (λ (n : ℕ). 0 < n) (sym kept) some) in
    subst (λ (h : HostState). kept_of h.sockets < kept_of host.sockets) (sym ended) less

-- the link that names the socket lets it go
link_gone : (socket : Socket) (link : Link) (host : HostState) → find (is_socket socket.number) host.sockets ≡ Some socket → 0 < length socket.since → names link.state socket.number ≡ true → Less host (hears inputs.Gone link host)
unfolding step_of
link_gone socket link host found some named = by_state link.state named
  where
    by_state : (state : LinkState) → names state socket.number ≡ true → Less host (does_act (step_of state inputs.Gone (is_greater (own_address host link.end) link.peer)).1 state inputs.Gone (record link { state = (step_of state inputs.Gone (is_greater (own_address host link.end) link.peer)).0 }) (with_link (record link { state = (step_of state inputs.Gone (is_greater (own_address host link.end) link.peer)).0 }) host))
    by_state (states.Dialing d) e = let same : socket.number ≡ d = number_is _ _ e in subst (λ (n : ℕ). kept_of (end_socket n (with_link (record link { state = states.Idle }) host)).sockets < kept_of host.sockets) same (ended_less socket (with_link (record link { state = states.Idle }) host) found some)
    by_state (states.Up u probed) e = let same : socket.number ≡ u = number_is _ _ e in subst (λ (n : ℕ). kept_of (end_socket n (with_link (record link { state = states.Idle }) host)).sockets < kept_of host.sockets) same (ended_less socket (with_link (record link { state = states.Idle }) host) found some)
    by_state states.Idle e = absurd cc
    by_state states.AwaitOther e = absurd cc

gone_less : (socket : Socket) (host : HostState) → find (is_socket socket.number) host.sockets ≡ Some socket → 0 < length socket.since → Less host (is_gone socket host)
gone_less socket host found some = by_user socket.user
  where
    by_link : (link : Link) (b : Bool) → names link.state socket.number ≡ b → Less host (cond b (hears inputs.Gone link host) (leaves socket.number host))
    by_link link true e = link_gone socket link host found some e
    by_link link false e = ended_less socket host found some

    by_user : (user : Option (ℕ × Address)) → Less host (elim user [
      | None ↦ leaves socket.number host
      | Some user ↦ gone_from socket.number (link_with host user.0 user.1) host
    ])
    by_user None = ended_less socket host found some
    by_user (Some user) = by_link (link_with host user.0 user.1) (names (link_with host user.0 user.1).state socket.number) refl

-- what is unread under the number of a socket that was stored
kept_stored : (socket : Socket) (sockets : List Socket) → kept_at socket.number (store_socket socket sockets) ≡ length socket.since
kept_stored socket [] = own (is_socket socket.number socket) (same_number socket.number)
  where
    own : (b : Bool) → b ≡ true → cond b (length socket.since) 0 ≡ length socket.since
    own true e = refl
    own false e = absurd cc
kept_stored socket (known ∷ rest) = by_test (is_socket socket.number known) refl (kept_stored socket rest)
  where
    own : (b : Bool) → b ≡ true → cond b (length socket.since) (kept_at socket.number rest) ≡ length socket.since
    own true e = refl
    own false e = absurd cc

    by_test : (b : Bool) → is_socket socket.number known ≡ b → kept_at socket.number (store_socket socket rest) ≡ length socket.since → kept_at socket.number (cond b (socket ∷ rest) (known ∷ store_socket socket rest)) ≡ length socket.since
    by_test true is ih = own (is_socket socket.number socket) (same_number socket.number)
    by_test false is ih = rw is ih

still_less : (steps : List Step) (before one : HostState) (done : Stepped) → kept_of one.sockets < kept_of before.sockets → Fine one done → Less before (after_steps steps done)
still_less steps before one (Ok done) l f = least _ _ _ f.kept l
  where
    least : (m n k : ℕ) → m ≤ n → n < k → m < k
    least m n k a b = omega arith
still_less steps before one (Err stop) l f = tt

dropped : (bytes : List ℕ) (n : ℕ) → 0 < n → 0 < length bytes → length (drop n bytes) < length bytes
dropped bytes n p q = let e = length-drop n bytes in omega arith

-- what stands at the front of the socket that is served is handled
handled : (socket : Socket) (host : HostState) → Served host.sockets socket → Less host (handles socket (front_of socket) host)
handled socket host s = by_front (front_of socket).0 (front_of socket).1 ready some.0 some.1
  where
    both : (a b : Bool) → (a && b) ≡ true → b ≡ true
    both true b e = e
    both false b e = absurd cc

    ready : is_ready_front (front_of socket).0 ≡ true
    ready = both (is_open socket.stage) (is_ready_front (front_of socket).0) s.ready

    some : (0 < length socket.since) × (0 < (front_of socket).1)
    some = takes_some socket.expected socket.since ready

    by_front : (front : Front) (count : ℕ) → is_ready_front front ≡ true → 0 < length socket.since → 0 < count → Less host (handles socket (front, count) host)
    by_front Unfinished count r p q = absurd cc
    by_front (Refused error) count r p q = gone_less socket host s.found p
    by_front (Whole item) count r p q =
        let now : Socket = record socket { since = drop count socket.since; expected = expected.Frame } in
        let kept : kept_at socket.number host.sockets ≡ length socket.since = kept_found socket.number socket host.sockets s.found in
        let less : kept_of (store_socket now host.sockets) < kept_of host.sockets = taken _ _ _ _ (stored now host.sockets) (subst (λ (n : ℕ). length (drop count socket.since) < n) (sym kept) (dropped socket.since count q p)) in
        still_less (steps.Read now.number ∷ []) host (with_socket now host) (reads now item (with_socket now host)) less (read now item (with_socket now host) (no_more _ _ (kept_stored now host.sockets)))
      where
        no_more : (m n : ℕ) → m ≡ n → n ≤ m
        no_more m n e = omega arith

-- one item is handled
pub used_up : (host after : HostState) (done : List Step) → Apart host.sockets → host_next host ≡ Ok (Some done, after) → kept_of after.sockets < kept_of host.sockets
unfolding host_next
used_up host after done a e = by_first (first_ready host.sockets) refl e
  where
    some_in : Result (Option (List Step) × HostState) Stop → Option (List Step)
    some_in (Ok next) = next.0
    some_in (Err stop) = None

    host_in : Result (Option (List Step) × HostState) Stop → HostState
    host_in (Ok next) = next.1
    host_in (Err stop) = host

    by_done : (one : Stepped) → Less host one → some_steps one ≡ Ok (Some done, after) → kept_of after.sockets < kept_of host.sockets
    by_done (Ok one) l e = let same : one.1 ≡ after = ap host_in e in subst (λ (h : HostState). kept_of h.sockets < kept_of host.sockets) same l
    by_done (Err stop) l e = absurd cc

    by_first : (o : Option Socket) → first_ready host.sockets ≡ o → (elim o as (λ o. Result (Option (List Step) × HostState) Stop) [
      | None ↦ Ok (None, host)
      | Some socket ↦ some_steps (handles socket (front_of socket) host)
    ]) ≡ Ok (Some done, after) → kept_of after.sockets < kept_of host.sockets
    by_first None f e = let never : None ≡ Some done = ap some_in e in absurd cc
    by_first (Some socket) f e = by_done (handles socket (front_of socket) host) (handled socket host (served host.sockets socket a f)) e

-- no more is unread, and the sockets' numbers still differ
handled_fine : (socket : Socket) (host : HostState) → Served host.sockets socket → Fine host (handles socket (front_of socket) host)
handled_fine socket host s = by_front (front_of socket).0 (front_of socket).1
  where
    by_front : (front : Front) (count : ℕ) → Fine host (handles socket (front, count) host)
    by_front Unfinished count = at_rest host
    by_front (Refused error) count = socket_gone socket host
    by_front (Whole item) count =
        let now : Socket = record socket { since = drop count socket.since; expected = expected.Frame } in
        let kept : kept_at socket.number host.sockets ≡ length socket.since = kept_found socket.number socket host.sockets s.found in
        later (steps.Read now.number ∷ []) host (with_socket now host) (reads now item (with_socket now host)) (stores now host (within _ _ _ (length-drop count socket.since) kept)) (read now item (with_socket now host) (no_more _ _ (kept_stored now host.sockets)))
      where
        no_more : (m n : ℕ) → m ≡ n → n ≤ m
        no_more m n e = omega arith

        within : (m n k : ℕ) → m ≡ n - count → k ≡ n → m ≤ k
        within m n k e f = omega arith

pub next_fine : (host after : HostState) (done : List Step) → Apart host.sockets → host_next host ≡ Ok (Some done, after) → KeepsNoMore host after
unfolding host_next
next_fine host after done a e = by_first (first_ready host.sockets) refl e
  where
    some_in : Result (Option (List Step) × HostState) Stop → Option (List Step)
    some_in (Ok next) = next.0
    some_in (Err stop) = None

    host_in : Result (Option (List Step) × HostState) Stop → HostState
    host_in (Ok next) = next.1
    host_in (Err stop) = host

    by_done : (one : Stepped) → Fine host one → some_steps one ≡ Ok (Some done, after) → KeepsNoMore host after
    by_done (Ok one) f e = let same : one.1 ≡ after = ap host_in e in subst (KeepsNoMore host) same f
    by_done (Err stop) f e = absurd cc

    by_first : (o : Option Socket) → first_ready host.sockets ≡ o → (elim o as (λ o. Result (Option (List Step) × HostState) Stop) [
      | None ↦ Ok (None, host)
      | Some socket ↦ some_steps (handles socket (front_of socket) host)
    ]) ≡ Ok (Some done, after) → KeepsNoMore host after
    by_first None f e = let never : None ≡ Some done = ap some_in e in absurd cc
    by_first (Some socket) f e = by_done (handles socket (front_of socket) host) (handled_fine socket host (served host.sockets socket a f)) e

-- where nothing is unread nothing is handled
kept_within : (number : ℕ) (sockets : List Socket) → kept_at number sockets ≤ kept_of sockets
kept_within number [] = omega arith
kept_within number (socket ∷ rest) = by_test (is_socket number socket) (kept_within number rest)
  where
    by_test : (b : Bool) → kept_at number rest ≤ kept_of rest → cond b (length socket.since) (kept_at number rest) ≤ length socket.since + kept_of rest
    by_test true h = omega arith
    by_test false h = omega (arith, h)

pub nothing_left : (host : HostState) → Apart host.sockets → kept_of host.sockets ≤ 0 → host_next host ≡ Ok (None, host)
unfolding host_next
nothing_left host a none = by_first (first_ready host.sockets) refl
  where
    by_first : (o : Option Socket) → first_ready host.sockets ≡ o → (elim o as (λ o. Result (Option (List Step) × HostState) Stop) [
      | None ↦ Ok (None, host)
      | Some socket ↦ some_steps (handles socket (front_of socket) host)
    ]) ≡ Ok (None, host)
    by_first None f = refl
    by_first (Some socket) f = absurd (never (served host.sockets socket a f))
      where
        both : (a b : Bool) → (a && b) ≡ true → b ≡ true
        both true b e = e
        both false b e = absurd cc

        never : Served host.sockets socket → ⊥
        never s =
            let some : 0 < length socket.since = (takes_some socket.expected socket.since (both (is_open socket.stage) (is_ready_front (front_of socket).0) s.ready)).0 in
            let kept : kept_at socket.number host.sockets ≡ length socket.since = kept_found socket.number socket host.sockets s.found in
            let within = kept_within socket.number host.sockets in
            omega arith
