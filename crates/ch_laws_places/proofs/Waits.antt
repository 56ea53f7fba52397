-- What a link makes of what it hears: of what waits, a frame of data alone has a place, and is written with it.
use Rattle.std.proofs.Common.{◌≡◌, ℕ, Bool, true, false, cond, List, [], ◌∷◌, ◌++◌, map, Ok, Err, refl, sym, subst}
use Rattle.std.specs.Prelude.{find, Option, Some, None}
use Rattle.ch_base.specs.declared.address.Address.{Address}
use Rattle.ch_wire.specs.Spelling.{IsFrame, frame_spelling}
use Rattle.ch_wire.specs.declared.frame.Frame.{Frame}
use Rattle.ch_wire.specs.declared.frame.Frame.TheVariants as frames
use Rattle.ch_reader.specs.declared.item.Item.TheVariants as items
use Rattle.ch_link.specs.Table.{step_of}
use Rattle.ch_link.specs.declared.LinkAnswer.TheVariants as links
use Rattle.ch_link.specs.declared.LinkIn.{LinkIn}
use Rattle.ch_link.specs.declared.LinkIn.TheVariants as inputs
use Rattle.ch_link.specs.declared.LinkState.{LinkState}
use Rattle.ch_link.specs.declared.LinkState.TheVariants as states
use Rattle.ch_model.specs.declared.step.Place.{Place}
use Rattle.ch_model.specs.declared.step.Step.{Step}
use Rattle.ch_model.specs.declared.step.Weight.{Weight}
use Rattle.ch_model.specs.Greater.{is_greater}
use Rattle.ch_model.specs.HostLinks.{does_act, hears}
use Rattle.ch_model.specs.HostState.{Link, HostState}
use Rattle.ch_model.specs.HostSteps.{Stepped, is_link, link_or_new, link_with, own_address, store_link, with_link}
use Rattle.ch_model.specs.HostWrites.{said_of, frame_step, forgotten, end_socket}
use Rattle.ch_laws_bytes.specs.Streams.{AsksNothing}
use Rattle.ch_laws_links.proofs.Keys.{ended_rest}
use Rattle.ch_laws_writes.specs.Dues.{Due}
use Rattle.ch_laws_writes.specs.Orderly.{AreFrames, link_at}
use Rattle.ch_laws_calls.specs.FitsTurns.{NoDials}
use Rattle.ch_laws_calls.proofs.FitsStores.{waits_alone, no_dials}
use Rattle.ch_laws_places.specs.Places.{StandsBy, WaitsPlaced, LinksPlaced, HostPlaced}
use Rattle.ch_laws_places.specs.Said.{IsSaid, AllSaid, AllSay}

-- ---- links that are kept

pub link_stored : (link : Link) (links : List Link) → WaitsPlaced link.waits → LinksPlaced links → LinksPlaced (store_link link links)
link_stored link [] w l = (w, tt)
link_stored link (known ∷ rest) w l = by_test (is_link link.end link.peer known) (link_stored link rest w l.1) where
  by_test : (b : Bool) → LinksPlaced (store_link link rest) → LinksPlaced (cond b (link ∷ rest) (known ∷ store_link link rest))
  by_test true s = (w, l.1)
  by_test false s = (l.0, s)

link_among : (links : List Link) (end : ℕ) (peer : Address) → LinksPlaced links → WaitsPlaced (link_at links end peer).waits
link_among [] end peer l = tt
link_among (known ∷ rest) end peer l = by_test (is_link end peer known) (link_among rest end peer l.1) where
  by_test : (b : Bool) → WaitsPlaced (link_at rest end peer).waits → WaitsPlaced (link_or_new end peer (cond b (Some known) (find (is_link end peer) rest))).waits
  by_test true r = l.0
  by_test false r = r

-- of what waits for any link of the host, a frame of data alone has a place
pub waits_placed : (host : HostState) (end : ℕ) (peer : Address) → HostPlaced host → WaitsPlaced (link_with host end peer).waits
waits_placed host end peer p = link_among host.links end peer p

-- of what a test finds, too
pub found_placed : (test : Link → Bool) (links : List Link) (link : Link) → LinksPlaced links → find test links ≡ Some link → WaitsPlaced link.waits
found_placed test [] link l e = absurd cc
found_placed test (known ∷ rest) link l e = by_test (test known) (found_placed test rest link l.1) e where
  by_test : (b : Bool) → (find test rest ≡ Some link → WaitsPlaced link.waits) → cond b (Some known) (find test rest) ≡ Some link → WaitsPlaced link.waits
  by_test true r e = let is : known ≡ link = cc in subst (λ (l : Link). WaitsPlaced l.waits) is l.0
  by_test false r e = r e

-- what waits behind the rest
pub waits_last : (waits : List (Frame × Weight)) (wait : Frame × Weight) → WaitsPlaced waits → StandsBy (items.Frame wait.0) (said_of wait.1) → WaitsPlaced (waits ++ wait ∷ [])
waits_last [] wait w s = (s, tt)
waits_last (one ∷ rest) wait w s = (w.0, waits_last rest wait w.1 s)

pub over_placed : (sock : ℕ) (host : HostState) → HostPlaced host → HostPlaced (end_socket sock host)
over_placed sock host p = subst LinksPlaced (sym (ended_rest sock host).0) p

-- ---- what is written

pub frame_said : (due : Option Due) (frame : Frame) (said : Option Place) → AsksNothing due → IsFrame frame → StandsBy (items.Frame frame) said → IsSaid due (frame_spelling frame) said
frame_said due frame None a f s = tt
frame_said due (frames.Data id payload) (Some place) a f s = (a, record { id = id; payload = payload; framed = f; spelled = refl })
frame_said due (frames.Created id) (Some place) a f s = absurd s
frame_said due (frames.Closed id) (Some place) a f s = absurd s
frame_said due frames.EndClosed (Some place) a f s = absurd s
frame_said due frames.Probe (Some place) a f s = absurd s
frame_said due frames.ProbeAck (Some place) a f s = absurd s

-- what waited is written
waits_said : (due : ℕ → Option Due) (sock : ℕ) (waits : List (Frame × Weight)) → AsksNothing (due sock) → AreFrames waits → WaitsPlaced waits → AllSaid due (map (frame_step sock) waits)
waits_said due sock [] a f w = tt
waits_said due sock (wait ∷ rest) a f w = (frame_said (due sock) wait.0 (said_of wait.1) a f.0 w.0, waits_said due sock rest a f.1 w.1)

-- ---- a link hears

-- what waits for a link may be spelled, and a frame of data alone has a place there
pub record IsWell (link : Link) : Type 0 where
  pub framed : AreFrames link.waits
  pub placed : WaitsPlaced link.waits

-- an input on whose socket no request is due, or that writes nothing that waited
abbrev pub MayHear : (ℕ → Option Due) → LinkIn → Link → Type 0
MayHear due (inputs.Want sock) link = ⊥
MayHear due (inputs.Asked sock) link = AsksNothing (due sock)
MayHear due (inputs.Answered answer) link = (sock : ℕ) → link.state ≡ states.Dialing sock → AsksNothing (due sock)
MayHear due inputs.Late link = ⊥
MayHear due inputs.Shut link = ⊥
MayHear due input link = Unit {0}

-- what is done where nothing is dialed
pub record Undialed (due : ℕ → Option Due) (told : List Step) (after : HostState) : Type 0 where
  pub placed : HostPlaced after
  pub said : AllSaid due told
  pub alone : NoDials told

abbrev pub AllUndialed : (ℕ → Option Due) → Stepped → Type 0
AllUndialed due (Ok done) = Undialed due done.0 done.1
AllUndialed due (Err stop) = Unit {0}

pub all_say : (due : ℕ → Option Due) (done : Stepped) → AllUndialed due done → AllSay due done
all_say due (Ok done) u = record { placed = u.placed; said = u.said; alone = no_dials done.0 u.alone }
all_say due (Err stop) u = tt

-- the link is kept in this state
kept : (host : HostState) (link : Link) (state : LinkState) → IsWell link → HostPlaced host → HostPlaced (with_link (record link { state = state }) host)
kept host link state w p = link_stored (record link { state = state }) host.links w.placed p

-- the link has failed, which ended its socket
fails : (due : ℕ → Option Due) (host : HostState) (link : Link) (told : List Step) (sock : ℕ) → IsWell link → HostPlaced host → AllSaid due told → NoDials told
    → Undialed due told (with_link (forgotten link states.Idle) (end_socket sock (with_link (record link { state = states.Idle }) host)))
fails due host link told sock w p s n = record { placed = link_stored (forgotten link states.Idle) (end_socket sock (with_link (record link { state = states.Idle }) host)).links tt (over_placed sock (with_link (record link { state = states.Idle }) host) (kept host link states.Idle w p)); said = s; alone = n }

heard_in : (due : ℕ → Option Due) (host : HostState) (link : Link) (state : LinkState) (input : LinkIn) (greater : Bool) → link.state ≡ state → IsWell link → HostPlaced host → MayHear due input link
    → AllUndialed due (does_act (step_of state input greater).1 state input (record link { state = (step_of state input greater).0 }) (with_link (record link { state = (step_of state input greater).0 }) host))
unfolding step_of
heard_in due host link state (inputs.Want n) greater is w p m = absurd m
heard_in due host link state inputs.Late greater is w p m = absurd m
heard_in due host link state inputs.Shut greater is w p m = absurd m
heard_in due host link states.Idle (inputs.Asked s) greater is w p m = record { placed = link_stored (record link { state = states.Up s false; waits = [] }) (store_link (record link { state = states.Up s false }) host.links) tt (kept host link (states.Up s false) w p); said = (tt, waits_said due s link.waits m w.framed w.placed); alone = waits_alone s link.waits }
heard_in due host link states.AwaitOther (inputs.Asked s) greater is w p m = record { placed = link_stored (record link { state = states.Up s false; waits = [] }) (store_link (record link { state = states.Up s false }) host.links) tt (kept host link (states.Up s false) w p); said = (tt, waits_said due s link.waits m w.framed w.placed); alone = waits_alone s link.waits }
heard_in due host link (states.Dialing d) (inputs.Asked s) true is w p m = record { placed = over_placed s (with_link (record link { state = states.Dialing d }) host) (kept host link (states.Dialing d) w p); said = (tt, tt); alone = tt }
heard_in due host link (states.Dialing d) (inputs.Asked s) false is w p m = record {
  placed = link_stored (record link { state = states.Up s false; waits = [] }) (end_socket d (with_link (record link { state = states.Up s false }) host)).links tt (over_placed d (with_link (record link { state = states.Up s false }) host) (kept host link (states.Up s false) w p));
  said = (tt, waits_said due s link.waits m w.framed w.placed);
  alone = waits_alone s link.waits;
}
heard_in due host link (states.Up u false) (inputs.Asked s) greater is w p m = record { placed = over_placed s (with_link (record link { state = states.Up u true }) host) (kept host link (states.Up u true) w p); said = (tt, (tt, tt)); alone = tt }
heard_in due host link (states.Up u true) (inputs.Asked s) greater is w p m = record { placed = over_placed s (with_link (record link { state = states.Up u true }) host) (kept host link (states.Up u true) w p); said = (tt, tt); alone = tt }
heard_in due host link (states.Dialing d) (inputs.Answered links.Accepted) greater is w p m = record { placed = link_stored (record link { state = states.Up d false; waits = [] }) (store_link (record link { state = states.Up d false }) host.links) tt (kept host link (states.Up d false) w p); said = waits_said due d link.waits (m d is) w.framed w.placed; alone = waits_alone d link.waits }
heard_in due host link (states.Dialing d) (inputs.Answered links.Crossed) greater is w p m = record { placed = over_placed d (with_link (record link { state = states.AwaitOther }) host) (kept host link states.AwaitOther w p); said = tt; alone = tt }
heard_in due host link (states.Dialing d) (inputs.Answered links.Invalid) greater is w p m = fails due host link _ d w p tt tt
heard_in due host link (states.Dialing d) (inputs.Answered links.Mismatch) greater is w p m = fails due host link _ d w p tt tt
heard_in due host link (states.Dialing d) inputs.Gone greater is w p m = fails due host link _ d w p tt tt
heard_in due host link (states.Up u probed) inputs.Gone greater is w p m = fails due host link _ u w p tt tt
heard_in due host link (states.Up u probed) inputs.EndClosed greater is w p m = fails due host link _ u w p tt tt
heard_in due host link (states.Up u probed) inputs.Probe greater is w p m = record { placed = kept host link (states.Up u probed) w p; said = (tt, tt); alone = tt }
heard_in due host link (states.Up u probed) inputs.Ack greater is w p m = record { placed = kept host link (states.Up u false) w p; said = tt; alone = tt }
heard_in due host link state input greater is w p m = record { placed = kept host link state w p; said = tt; alone = tt }

-- whatever it hears, but that it wants a socket
pub heard : (due : ℕ → Option Due) (input : LinkIn) (link : Link) (host : HostState) → IsWell link → HostPlaced host → MayHear due input link → AllUndialed due (hears input link host)
heard due input link host w p m = heard_in due host link link.state input (is_greater (own_address host link.end) link.peer) refl w p m
