-- What a link does at once where it is up, and what it does where it is idle.
use Rattle.std.proofs.Common.{◌≡◌, ℕ, ◌+◌, ◌*◌, ◌<◌, Bool, true, false, ◌&&◌, nat_lt, nat_le, length, List, [], ◌∷◌, ◌++◌, find, Option, Some, None, Ok, Err, refl, ap, sym, ◌∙◌, arith}
use Rattle.std.proofs.lemmas.Bool.Decides.{nat_tests}
use Rattle.ch_base.specs.declared.address.Address.{Address}
use Rattle.ch_base.specs.declared.event.Why.{Why}
use Rattle.ch_base.specs.declared.event.Event.TheVariants as events
use Rattle.ch_base.specs.declared.memory.Stop.TheVariants.{Worn}
use Rattle.std.specs.List.{list_any}
use Rattle.ch_wire.specs.declared.frame.Frame.{Frame}
use Rattle.ch_wire.specs.declared.frame.Frame.TheVariants as frames
use Rattle.ch_light.specs.Ids.{give_of}
use Rattle.ch_model.specs.declared.step.Weight.TheVariants.{Free}
use Rattle.ch_model.specs.declared.step.EndError.TheVariants as errors
use Rattle.ch_model.specs.declared.step.EndError.TheVariants.{NoEndPoint, Spent}
use Rattle.ch_endpoint.specs.Opens.{opened_of}
use Rattle.ch_link.specs.Table.{step_of}
use Rattle.ch_link.specs.declared.LinkState.{LinkState}
use Rattle.ch_link.specs.declared.LinkState.TheVariants.{Idle, Dialing, AwaitOther, Up}
use Rattle.ch_link.specs.declared.LinkIn.TheVariants.{Want}
use Rattle.ch_model.specs.declared.step.Step.{Step}
use Rattle.ch_model.specs.declared.step.Step.TheVariants as steps
use Rattle.ch_model.specs.declared.step.Weight.{Weight}
use Rattle.ch_model.specs.HostState.{Link, Socket, HostState}
use Rattle.ch_model.specs.HostSteps.{is_link, link_or_new, link_with, store_link, store_socket, with_link, with_socket, is_open_endpoint, Stepped, after_steps, ◌then◌}
use Rattle.ch_model.specs.HostWrites.{frame_step, is_up, puts}
use Rattle.ch_model.specs.HostLinks.{most_dials, next_dial, dialed, hears, fails_with}
use Rattle.ch_model.specs.HostCalls.{wants, puts_and_wants, host_connect, stepped}
use Rattle.ch_endpoint.specs.Places.{is_idle}
use Rattle.ch_endpoint.specs.Waits.{waiting, giving}
use Rattle.ch_endpoint.proofs.Tables.{key_with, stored_same, restored, found_stored}

-- a link that isn't idle was used before
used_of : (end : ℕ) (peer : Address) (o : Option Link) → is_idle (link_or_new end peer o).state ≡ false → o ≡ Some (link_or_new end peer o)
used_of end peer None e = absurd cc
used_of end peer (Some link) e = refl

-- a link that isn't idle is stored as it is
pub kept_as_it_is : (end : ℕ) (peer : Address) (host : HostState) → is_idle (link_with host end peer).state ≡ false → with_link (link_with host end peer) host ≡ host
kept_as_it_is end peer host busy =
    let same : store_link (link_with host end peer) host.links ≡ host.links = stored_same end peer (link_with host end peer) host.links (used_of end peer (find (is_link end peer) host.links) busy) in
    (λ i. record host { links = same i })

-- a link that isn't idle wants nothing
hears_busy : (n : ℕ) (state : LinkState) (link : Link) (host : HostState) → is_idle state ≡ false → hears (Want n) (record link { state = state }) host ≡ Ok ([], with_link (record link { state = state }) host)
unfolding step_of
hears_busy n Idle link host e = absurd cc
hears_busy n (Dialing sock) link host e = refl
hears_busy n AwaitOther link host e = refl
hears_busy n (Up sock probed) link host e = refl

pub wants_still : (end : ℕ) (peer : Address) (host : HostState) → is_idle (link_with host end peer).state ≡ false → wants end peer host ≡ Ok ([], host)
wants_still end peer host busy =
    hears_busy (next_dial host) (link_with host end peer).state (link_with host end peer) host busy ∙ ap (λ (h : HostState). Ok ([], h)) (kept_as_it_is end peer host busy)

-- a link that is idle dials
hears_idle : (n : ℕ) (link : Link) (host : HostState) → nat_lt host.dials most_dials ≡ true → hears (Want n) (record link { state = Idle }) host ≡ Ok (steps.Dial n link.end link.peer ∷ [], with_socket (dialed n link.end link.peer) (record (with_link (record link { state = Dialing n }) host) { dials = host.dials + 1 }))
unfolding step_of
hears_idle n link host room = rw room refl

pub wants_dial : (end : ℕ) (peer : Address) (host now : HostState) (links : List Link) (sockets : List Socket) → host ≡ now → (link_with now end peer).state ≡ Idle → now.dials < most_dials → links ≡ store_link (record (link_with host end peer) { state = Dialing (2 * host.dials) }) host.links → sockets ≡ store_socket (dialed (2 * host.dials) end peer) host.sockets → wants end peer now ≡ Ok (steps.Dial (2 * host.dials) end peer ∷ [], record host { links = links; sockets = sockets; dials = host.dials + 1 })
wants_dial end peer host now links sockets same idle room l s =
    let link : Link = link_with host end peer in
    let n : ℕ = 2 * host.dials in
    let key = key_with end peer host.links in
    let rests : link.state ≡ Idle = ap (λ h. (link_with h end peer).state) same ∙ idle in
    let more : host.dials < most_dials = rw (ap (λ (h : HostState). h.dials) same) room in
    let may : nat_lt host.dials most_dials ≡ true = grind (arith, nat_tests) in
    let sockets_are : store_socket (dialed n link.end link.peer) host.sockets ≡ sockets = (λ i. store_socket (dialed n (key.0 i) (key.1 i)) host.sockets) ∙ sym s in
    let links_are : store_link (record link { state = Dialing n }) host.links ≡ links = sym l in
    ap (wants end peer) (sym same)
    ∙ ap (λ (l : Link). hears (Want n) l host) (λ i. record link { state = rests i })
    ∙ hears_idle n link host may
    ∙ (λ i. Ok (steps.Dial n (key.0 i) (key.1 i) ∷ [], record host { links = links_are i; sockets = sockets_are i; dials = host.dials + 1 }))

-- an item is written at once where the link is up
puts_up_of : (item : Frame × Weight) (sock : ℕ) (probed : Bool) (link : Link) (host : HostState) → puts item (record link { state = Up sock probed }) host ≡ Ok (frame_step sock item ∷ [], with_link (record link { state = Up sock probed }) host)
puts_up_of item sock probed link host = refl

pub puts_up : (item : Frame × Weight) (end : ℕ) (peer : Address) (sock : ℕ) (probed : Bool) (host : HostState) → (link_with host end peer).state ≡ Up sock probed → puts item (link_with host end peer) host ≡ Ok (frame_step sock item ∷ [], host)
puts_up item end peer sock probed host up =
    let link : Link = link_with host end peer in
    let busy : is_idle link.state ≡ false = ap is_idle up in
    ap (λ (l : Link). puts item l host) (λ i. record link { state = up i })
    ∙ puts_up_of item sock probed link host
    ∙ ap (λ (l : Link). Ok (frame_step sock item ∷ [], with_link l host)) (λ i. record link { state = sym up i })
    ∙ ap (λ (h : HostState). Ok (frame_step sock item ∷ [], h)) (kept_as_it_is end peer host busy)

-- ---- a link that was stored

-- the link that was stored is the link of its key
pub with_stored : (end : ℕ) (peer : Address) (link : Link) (host : HostState) → link.end ≡ end → link.peer ≡ peer → link_with (with_link link host) end peer ≡ link
with_stored end peer link host k p = ap (link_or_new end peer) (found_stored end peer link k p host.links)

-- what is put on a link that was stored is put on the link
puts_stored : (item : Frame × Weight) (state : LinkState) (link : Link) (host : HostState) → puts item (record link { state = state }) (with_link (record link { state = state }) host) ≡ puts item (record link { state = state }) host
puts_stored item Idle link host = ap (λ (ls : List Link). Ok ([], record host { links = ls })) (restored (waiting item (record link { state = Idle })) (record link { state = Idle }) refl refl host.links)
puts_stored item (Dialing sock) link host = ap (λ (ls : List Link). Ok ([], record host { links = ls })) (restored (waiting item (record link { state = Dialing sock })) (record link { state = Dialing sock }) refl refl host.links)
puts_stored item AwaitOther link host = ap (λ (ls : List Link). Ok ([], record host { links = ls })) (restored (waiting item (record link { state = AwaitOther })) (record link { state = AwaitOther }) refl refl host.links)
puts_stored item (Up sock probed) link host = ap (λ (ls : List Link). Ok (frame_step sock item ∷ [], record host { links = ls })) (restored (record link { state = Up sock probed }) (record link { state = Up sock probed }) refl refl host.links)

pub puts_and_wants_stored : (item : Frame × Weight) (end : ℕ) (peer : Address) (link : Link) (host after : HostState) → link.end ≡ end → link.peer ≡ peer → after ≡ with_link link host → puts_and_wants item (link_with after end peer) after ≡ puts_and_wants item link host
puts_and_wants_stored item end peer link host after k p now =
    ap (λ h. puts_and_wants item (link_with h end peer) h) now
    ∙ ap (λ l. puts_and_wants item l (with_link link host)) (with_stored end peer link host k p)
    ∙ ap (λ (done : Stepped). done then wants link.end link.peer) (puts_stored item link.state link host)

-- an item waits where the link isn't up
puts_wait_of : (item : Frame × Weight) (state : LinkState) (link : Link) (host : HostState) → is_up state ≡ false → puts item (record link { state = state }) host ≡ Ok ([], with_link (waiting item (record link { state = state })) host)
puts_wait_of item Idle link host e = refl
puts_wait_of item (Dialing sock) link host e = refl
puts_wait_of item AwaitOther link host e = refl
puts_wait_of item (Up sock probed) link host e = absurd cc

pub puts_wait : (item : Frame × Weight) (link : Link) (host : HostState) → is_up link.state ≡ false → puts item link host ≡ Ok ([], with_link (waiting item link) host)
puts_wait item link host e = puts_wait_of item link.state link host e

-- a link that is idle dials no more than the count allows
hears_worn : (n : ℕ) (link : Link) (host : HostState) → nat_lt host.dials most_dials ≡ false → hears (Want n) (record link { state = Idle }) host ≡ Err Worn
unfolding step_of
hears_worn n link host room = rw room refl

pub wants_worn : (end : ℕ) (peer : Address) (host : HostState) → (link_with host end peer).state ≡ Idle → nat_lt host.dials most_dials ≡ false → wants end peer host ≡ Err Worn
wants_worn end peer host idle worn =
    let link : Link = link_with host end peer in
    ap (λ (l : Link). hears (Want (2 * host.dials)) l host) (λ i. record link { state = idle i }) ∙ hears_worn (2 * host.dials) link host worn

-- what a link would do that dials too often
pub puts_and_wants_worn : (item : Frame × Weight) (link : Link) (host : HostState) → link.state ≡ Idle → nat_lt host.dials most_dials ≡ false → puts_and_wants item link host ≡ Err Worn
puts_and_wants_worn item link host idle worn =
    let waits : puts item link host ≡ Ok ([], with_link (waiting item link) host) = puts_wait item link host (ap is_up idle) in
    let now : HostState = with_link (waiting item link) host in
    let there : link_with now link.end link.peer ≡ waiting item link = with_stored link.end link.peer (waiting item link) host refl refl in
    let stops : wants link.end link.peer now ≡ Err Worn = wants_worn link.end link.peer now (ap (λ (l : Link). l.state) there ∙ idle) worn in
    ap (λ (done : Stepped). done then wants link.end link.peer) waits ∙ ap (after_steps []) stops

-- ---- a link that has failed

-- what is told when a link has failed
pub fails_at : (end : ℕ) (peer : Address) (why : Why) (host : HostState) → fails_with (link_with host end peer) why host ≡ Ok (steps.Broke end peer why ∷ steps.Post end (events.ConnectionLost peer why) ∷ [], host)
fails_at end peer why host = let key = key_with end peer host.links in (λ i. Ok (steps.Broke (key.0 i) (key.1 i) why ∷ steps.Post (key.0 i) (events.ConnectionLost (key.1 i) why) ∷ [], host))

-- ---- what a link keeps as an item is put

-- a link that has got an id, or on which an item waits, stands as before
pub waiting_stands : (end : ℕ) (peer : Address) (item : Frame × Weight) (host after : HostState) → after ≡ with_link (waiting item (link_with host end peer)) host → (link_with after end peer).state ≡ (link_with host end peer).state
waiting_stands end peer item host after e =
    let key = key_with end peer host.links in
    ap (λ h. (link_with h end peer).state) e ∙ ap (λ (l : Link). l.state) (with_stored end peer (waiting item (link_with host end peer)) host key.0 key.1)

pub giving_stands : (end : ℕ) (peer : Address) (conn : ℕ) (host after : HostState) → after ≡ with_link (giving conn (link_with host end peer)) host → link_with after end peer ≡ giving conn (link_with host end peer)
giving_stands end peer conn host after e =
    let key = key_with end peer host.links in
    ap (λ h. link_with h end peer) e ∙ with_stored end peer (giving conn (link_with host end peer)) host key.0 key.1

-- an item is put, and then the link wants a socket
pub puts_then_wants : (item : Frame × Weight) (end : ℕ) (peer : Address) (host between after : HostState) (first more : List Step) → puts item (link_with host end peer) host ≡ Ok (first, between) → wants end peer between ≡ Ok (more, after) → puts_and_wants item (link_with host end peer) host ≡ Ok (first ++ more, after)
puts_then_wants item end peer host between after first more put want =
    let link : Link = link_with host end peer in
    let key = key_with end peer host.links in
    let wanted : wants link.end link.peer between ≡ Ok (more, after) = (λ i. wants (key.0 i) (key.1 i) between) ∙ want in
    ap (λ (done : Stepped). done then wants link.end link.peer) put ∙ ap (after_steps first) wanted

-- ---- a connection that is opened

pub opens_done : (end : ℕ) (peer : Address) (conn id : ℕ) (host after : HostState) (done : List Step × HostState) → after ≡ with_link (giving conn (link_with host end peer)) host → id ≡ 1024 + length (link_with host end peer).given → puts_and_wants (frames.Created id, Free) (link_with after end peer) after ≡ Ok done → opened_of (link_with host end peer) conn host ≡ Ok done
opens_done end peer conn id host after done now is put =
    let link : Link = link_with host end peer in
    let key = key_with end peer host.links in
    sym (puts_and_wants_stored (frames.Created (1024 + length link.given), Free) end peer (giving conn link) host after key.0 key.1 now)
    ∙ ap (λ (k : ℕ). puts_and_wants (frames.Created k, Free) (link_with after end peer) after) (sym is) ∙ put

pub worn_kept : (end : ℕ) (peer : Address) (conn : ℕ) (host after : HostState) → after ≡ with_link (giving conn (link_with host end peer)) host → (is_idle (link_with host end peer).state && nat_le most_dials host.dials) ≡ false → (is_idle (link_with after end peer).state && nat_le most_dials after.dials) ≡ false
worn_kept end peer conn host after now may =
    let stands : (link_with after end peer).state ≡ (link_with host end peer).state = ap (λ (l : Link). l.state) (giving_stands end peer conn host after now) in
    (λ i. is_idle (stands i) && nat_le most_dials (now i).dials) ∙ may

pub connect_closed : (host : HostState) (end : ℕ) (peer : Address) (conn : ℕ) → list_any (is_open_endpoint end) host.ends ≡ false → host_connect host end peer conn ≡ Err NoEndPoint
unfolding host_connect
connect_closed host end peer conn o = rw o refl

pub connect_spent : (host : HostState) (end : ℕ) (peer : Address) (conn : ℕ) → list_any (is_open_endpoint end) host.ends ≡ true → nat_le 65536 (length (link_with host end peer).given) ≡ true → host_connect host end peer conn ≡ Err Spent
unfolding host_connect give_of
connect_spent host end peer conn o g = rw (o, g) refl

pub connect_does : (host : HostState) (end : ℕ) (peer : Address) (conn : ℕ) → list_any (is_open_endpoint end) host.ends ≡ true → nat_le 65536 (length (link_with host end peer).given) ≡ false → host_connect host end peer conn ≡ stepped (opened_of (link_with host end peer) conn host)
unfolding host_connect give_of
connect_does host end peer conn o g = rw (o, g) refl

pub connect_opens : (host : HostState) (end : ℕ) (peer : Address) (conn : ℕ) (done : List Step × HostState) → list_any (is_open_endpoint end) host.ends ≡ true → nat_le 65536 (length (link_with host end peer).given) ≡ false → opened_of (link_with host end peer) conn host ≡ Ok done → host_connect host end peer conn ≡ Ok done
connect_opens host end peer conn done o g d = connect_does host end peer conn o g ∙ ap stepped d

pub idle_is : (state : LinkState) → is_idle state ≡ true → state ≡ Idle
idle_is Idle e = refl
idle_is (Dialing sock) e = absurd cc
idle_is AwaitOther e = absurd cc
idle_is (Up sock probed) e = absurd cc

pub both_hold : (a b : Bool) → (a && b) ≡ true → (a ≡ true) × (b ≡ true)
both_hold true true e = (refl, refl)
both_hold true false e = absurd cc
both_hold false b e = absurd cc

pub at_most : (a b : ℕ) → nat_le b a ≡ true → nat_lt a b ≡ false
at_most a b e = grind (arith, nat_tests)

pub connect_worn : (host : HostState) (end : ℕ) (peer : Address) (conn : ℕ) → list_any (is_open_endpoint end) host.ends ≡ true → nat_le 65536 (length (link_with host end peer).given) ≡ false → (is_idle (link_with host end peer).state && nat_le most_dials host.dials) ≡ true → host_connect host end peer conn ≡ Err errors.Worn
connect_worn host end peer conn o g w =
    let link : Link = link_with host end peer in
    let h = both_hold _ _ w in
    let worn : opened_of link conn host ≡ Err Worn = puts_and_wants_worn (frames.Created (1024 + length link.given), Free) (giving conn link) host (idle_is link.state h.0) (at_most host.dials most_dials h.1) in
    connect_does host end peer conn o g ∙ ap stepped worn

-- what is put on a link that was stored
pub puts_kept : (item : Frame × Weight) (end : ℕ) (peer : Address) (link : Link) (host after : HostState) → link.end ≡ end → link.peer ≡ peer → after ≡ with_link link host → puts item (link_with after end peer) after ≡ puts item link host
puts_kept item end peer link host after k p now =
    ap (λ h. puts item (link_with h end peer) h) now
    ∙ ap (λ l. puts item l (with_link link host)) (with_stored end peer link host k p)
    ∙ puts_stored item link.state link host
