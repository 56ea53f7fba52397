-- What follows where an item was read.
use Rattle.std.proofs.Common.{◌≡◌, ℕ, List, [], ◌∷◌, find, Option, Some, None, Result, Ok, Err, MatchResult, IfOk, ap, sym, subst, ◌∙◌}
use Rattle.ch_base.specs.declared.address.Address.{Address}
use Rattle.ch_base.specs.declared.memory.Stop.{Stop}
use Rattle.ch_base.specs.declared.memory.Stop.TheVariants.{OutOfMemory}
use Rattle.ch_wire.specs.declared.answer.Answer.{Answer}
use Rattle.ch_reader.specs.declared.item.Item.{Item}
use Rattle.ch_link.specs.declared.LinkIn.TheVariants.{Asked}
use Rattle.ch_model.specs.declared.step.Step.{Step}
use Rattle.ch_model.specs.HostState.{Socket, HostState}
use Rattle.ch_model.specs.HostSteps.{is_socket, link_with, with_socket, Stepped}
use Rattle.ch_model.specs.HostLinks.{hears}
use Rattle.ch_model.specs.HostWrites.{answers_and_leaves}
use Rattle.ch_model.specs.HostItems.{refusal_of, reads_request, asks_link, reads_on, reads_other}
use Rattle.ch_endpoint.specs.Calls.{Stops}
use Rattle.ch_endpoint.specs.Taking.{used_one, used_among}
use Rattle.ch_endpoint.specs.Users.{user_of}
use Rattle.ch_endpoint.proofs.Ended.{number_of}

-- on a socket that no link uses nothing follows
pub other_unused : (sock : ℕ) (socket : Socket) (item : Item) (host : HostState) → find (is_socket sock) host.sockets ≡ Some socket → user_of (find (is_socket sock) host.sockets) ≡ None → reads_other socket item host ≡ Ok ([], host)
other_unused sock socket item host e u =
    let none : socket.user ≡ None = ap user_of (sym e) ∙ u in
    (λ i. reads_other (record socket { user = none i }) item host)

-- on a socket of a link the item is read for that
pub other_used : (sock end : ℕ) (peer : Address) (socket : Socket) (item : Item) (host : HostState) → find (is_socket sock) host.sockets ≡ Some socket → user_of (find (is_socket sock) host.sockets) ≡ Some (end, peer) → reads_other socket item host ≡ reads_on socket (link_with host end peer) item host
other_used sock end peer socket item host e u =
    let some : socket.user ≡ Some (end, peer) = ap user_of (sym e) ∙ u in
    ap (λ (o : Option (ℕ × Address)). elim o [ None ↦ Ok ([], host) | Some user ↦ reads_on socket (link_with host user.0 user.1) item host ]) some

-- ---- want of memory

-- what was done is told of what is the same; want of memory may come
pub told_same : {A : Type 0} (r : Result A Stop) (P : A → Stepped) (x y : Stepped) → x ≡ y → MatchResult r (λ a. y ≡ P a) (λ e. e ≡ OutOfMemory) → MatchResult r (λ a. x ≡ P a) (λ e. e ≡ OutOfMemory)
told_same (Ok a) P x y e m = e ∙ m
told_same (Err s) P x y e m = m

pub told_or_stops : {A : Type 0} (r : Result A Stop) (P : A → Stepped) (x y : Stepped) → x ≡ y → MatchResult r (λ a. y ≡ P a) (λ e. e ≡ OutOfMemory) → MatchResult r (λ a. x ≡ P a) (λ e. Stops e x)
told_or_stops (Ok a) P x y e m = e ∙ m
told_or_stops (Err s) P x y e m = subst (λ s. Stops s x) (sym m) tt

-- what was done, or why not, is told of what is the same
pub told_both : {A : Type 0} (r : Result A Stop) (P : A → Stepped) (x y : Stepped) → x ≡ y → MatchResult r (λ a. y ≡ P a) (λ e. Stops e y) → MatchResult r (λ a. x ≡ P a) (λ e. Stops e x)
told_both r P x y e m = subst (λ (z : Stepped). MatchResult r (λ a. z ≡ P a) (λ e. Stops e z)) (sym e) m

pub told_if : {A E : Type 0} (r : Result A E) (P : A → Stepped) (x y : Stepped) → x ≡ y → IfOk r (λ a. y ≡ P a) → IfOk r (λ a. x ≡ P a)
told_if (Ok a) P x y e m = e ∙ m
told_if (Err s) P x y e m = m

-- one step was done
pub one_told : {A E : Type 0} (r : Result A E) (items : A → List Step) (x : Stepped) (step : Step) (after : HostState) → x ≡ Ok (step ∷ [], after) → IfOk r (λ a. items a ≡ step ∷ []) → IfOk r (λ a. x ≡ Ok (items a, after))
one_told (Ok a) items x step after e m = e ∙ (λ i. Ok (sym m i, after))
one_told (Err s) items x step after e m = m

-- ---- a request

-- a request that is answered at once
pub request_refused : (sock target : ℕ) (peer : Address) (answer : Answer) (socket : Socket) (host : HostState) → find (is_socket sock) host.sockets ≡ Some socket → refusal_of host socket target peer ≡ Some answer → reads_request socket (record { target = target; from = peer }) host ≡ answers_and_leaves sock answer host
request_refused sock target peer answer socket host found refused =
    ap (λ (o : Option Answer). elim o [ Some answer ↦ answers_and_leaves socket.number answer host | None ↦ asks_link socket target peer host ]) refused
    ∙ ap (λ n. answers_and_leaves n answer host) (number_of sock socket host.sockets found)

-- a socket that stands for a link from now on
pub with_user : (end : ℕ) (peer user : Address) (sock : ℕ) (inside now : HostState) (sockets : List Socket) → inside ≡ now → user ≡ peer → sockets ≡ used_among end user sock inside.sockets → record inside { sockets = sockets } ≡ record now { sockets = used_among end peer sock now.sockets }
with_user end peer user sock inside now sockets same u e = (λ i. record inside { sockets = e i }) ∙ (λ i. record (same i) { sockets = used_among end (u i) sock (same i).sockets })

-- the link table decides on a socket that stands for the link
pub asks_is : (sock end : ℕ) (peer : Address) (socket : Socket) (host between : HostState) → find (is_socket sock) host.sockets ≡ Some socket → between ≡ record host { sockets = used_among end peer sock host.sockets } → asks_link socket end peer host ≡ hears (Asked sock) (link_with between end peer) between
asks_is sock end peer socket host between found b =
    let number : socket.number ≡ sock = number_of sock socket host.sockets found in
    let stored : with_socket (record socket { user = Some (end, peer) }) host ≡ between = (λ i. record host { sockets = sym (ap (λ o. used_one end peer o host.sockets) found) i }) ∙ sym b in
    (λ i. hears (Asked (number i)) (link_with (stored i) end peer) (stored i))
