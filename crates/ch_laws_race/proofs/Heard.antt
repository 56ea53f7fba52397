-- What a link makes of an item, at its host and in the pair.
use Rattle.std.specs.Prelude.{◌≡◌, ℕ, nat_eq, Bool, true, false, List, [], ◌∷◌, map, None, Ok}
use Rattle.std.proofs.Common.{refl, ap, ◌∙◌}
use Rattle.ch_wire.specs.Spelling.{answer_spelling, frame_spelling}
use Rattle.ch_wire.specs.declared.answer.Answer.TheVariants as replies
use Rattle.ch_wire.specs.declared.frame.Frame.TheVariants as frames
use Rattle.ch_link.specs.Table.{step_of}
use Rattle.ch_link.specs.declared.LinkState.{LinkState}
use Rattle.ch_link.specs.declared.LinkState.TheVariants.{Idle, Dialing, AwaitOther, Up}
use Rattle.ch_link.specs.declared.LinkAnswer.TheVariants as answers
use Rattle.ch_base.specs.declared.event.Event.TheVariants as events
use Rattle.ch_base.specs.declared.event.Why.TheVariants.{NodeDown}
use Rattle.ch_model.specs.declared.step.Step.{Step}
use Rattle.ch_model.specs.HostWrites.{frame_step, end_socket, forgotten}
use Rattle.ch_link.specs.declared.LinkIn.TheVariants as inputs
use Rattle.ch_model.specs.declared.step.Step.TheVariants as steps
use Rattle.ch_model.specs.HostState.{Link, HostState}
use Rattle.ch_model.specs.HostSteps.{Stepped, own_address, with_link}
use Rattle.ch_model.specs.Greater as addresses
use Rattle.ch_model.specs.HostLinks.{does_act}
use Rattle.ch_link.specs.declared.LinkIn.{LinkIn}
use Rattle.ch_model.specs.HostLinks as links
use Rattle.ch_race.specs.Pair as pair
use Rattle.ch_race.specs.Pair.{Side, is_greater, Sock, Pair, put, point, says}
use Rattle.ch_race.specs.Moves.{obeys, hears, asked}
use Rattle.ch_laws_race.proofs.Pairs.{put_here, put_there, put_put, put_over}

-- ---- the host

pub acknowledges : (link : Link) (sock : ℕ) (probed : Bool) (now : HostState) → link.state ≡ Up sock probed
    → links.hears inputs.Probe link now ≡ Ok (steps.Write sock (frame_spelling frames.ProbeAck) None ∷ [], with_link (record link { state = Up sock probed }) now)
unfolding step_of
acknowledges link sock probed now up = ap (λ (k : LinkState). links.hears inputs.Probe (record link { state = k }) now) up ∙ told link where
  told : (l : Link) → links.hears inputs.Probe (record l { state = Up sock probed }) now ≡ Ok (steps.Write sock (frame_spelling frames.ProbeAck) None ∷ [], with_link (record l { state = Up sock probed }) now)
  told l = refl

pub settles : (link : Link) (sock : ℕ) (probed : Bool) (now : HostState) → link.state ≡ Up sock probed → links.hears inputs.Ack link now ≡ Ok ([], with_link (record link { state = Up sock false }) now)
unfolding step_of
settles link sock probed now up = ap (λ (k : LinkState). links.hears inputs.Ack (record link { state = k }) now) up ∙ told link where
  told : (l : Link) → links.hears inputs.Ack (record l { state = Up sock probed }) now ≡ Ok ([], with_link (record l { state = Up sock false }) now)
  told l = refl

-- a link that dials comes up, and what waits is written
pub raises : (link : Link) (sock : ℕ) (now : HostState) → link.state ≡ Dialing sock → links.hears (inputs.Answered answers.Accepted) link now
    ≡ Ok (steps.Up sock ∷ map (frame_step sock) link.waits, with_link (record link { state = Up sock false; waits = [] }) (with_link (record link { state = Up sock false }) now))
unfolding step_of
raises link sock now dials = ap (λ (k : LinkState). links.hears (inputs.Answered answers.Accepted) (record link { state = k }) now) dials ∙ told link where
  told : (l : Link) → links.hears (inputs.Answered answers.Accepted) (record l { state = Dialing sock }) now
      ≡ Ok (steps.Up sock ∷ map (frame_step sock) l.waits, with_link (record l { state = Up sock false; waits = [] }) (with_link (record l { state = Up sock false }) now))
  told l = refl

-- one that was crossed leaves its dial
pub leaves_dial : (link : Link) (sock : ℕ) (now : HostState) → link.state ≡ Dialing sock → links.hears (inputs.Answered answers.Crossed) link now
    ≡ Ok (steps.Left sock ∷ [], end_socket sock (with_link (record link { state = AwaitOther }) now))
unfolding step_of
leaves_dial link sock now dials = ap (λ (k : LinkState). links.hears (inputs.Answered answers.Crossed) (record link { state = k }) now) dials ∙ told link where
  told : (l : Link) → links.hears (inputs.Answered answers.Crossed) (record l { state = Dialing sock }) now ≡ Ok (steps.Left sock ∷ [], end_socket sock (with_link (record l { state = AwaitOther }) now))
  told l = refl

-- a link that failed, and is told so
abbrev pub told_failed : Link → List Step
told_failed link = steps.Broke link.end link.peer NodeDown ∷ steps.Post link.end (events.ConnectionLost link.peer NodeDown) ∷ []

pub fails_dial : (link : Link) (sock : ℕ) (now : HostState) → link.state ≡ Dialing sock → links.hears (inputs.Answered answers.Invalid) link now
    ≡ Ok (steps.Left sock ∷ told_failed link, with_link (forgotten link Idle) (end_socket sock (with_link (record link { state = Idle }) now)))
unfolding step_of
fails_dial link sock now dials = ap (λ (k : LinkState). links.hears (inputs.Answered answers.Invalid) (record link { state = k }) now) dials ∙ told link where
  told : (l : Link) → links.hears (inputs.Answered answers.Invalid) (record l { state = Dialing sock }) now
      ≡ Ok (steps.Left sock ∷ told_failed l, with_link (forgotten l Idle) (end_socket sock (with_link (record l { state = Idle }) now)))
  told l = refl

pub fails_up : (link : Link) (sock : ℕ) (probed : Bool) (now : HostState) → link.state ≡ Up sock probed → links.hears inputs.EndClosed link now
    ≡ Ok (steps.Down sock ∷ told_failed link, with_link (forgotten link Idle) (end_socket sock (with_link (record link { state = Idle }) now)))
unfolding step_of
fails_up link sock probed now up = ap (λ (k : LinkState). links.hears inputs.EndClosed (record link { state = k }) now) up ∙ told link where
  told : (l : Link) → links.hears inputs.EndClosed (record l { state = Up sock probed }) now
      ≡ Ok (steps.Down sock ∷ told_failed l, with_link (forgotten l Idle) (end_socket sock (with_link (record l { state = Idle }) now)))
  told l = refl

-- ---- a request

-- what a link does, by the order of the addresses
abbrev by_order : LinkIn → Link → HostState → Bool → Stepped
by_order input link now greater =
    let told = step_of link.state input greater in
    does_act told.1 link.state input (record link { state = told.0 }) (with_link (record link { state = told.0 }) now)

-- one that dials nothing and isn't up accepts
pub accepts_idle : (link : Link) (sock : ℕ) (now : HostState) → link.state ≡ Idle → links.hears (inputs.Asked sock) link now
    ≡ Ok (steps.Up sock ∷ steps.Write sock (answer_spelling replies.Accepted) None ∷ map (frame_step sock) link.waits, with_link (record link { state = Up sock false; waits = [] }) (with_link (record link { state = Up sock false }) now))
unfolding step_of
accepts_idle link sock now is = ap (λ (k : LinkState). links.hears (inputs.Asked sock) (record link { state = k }) now) is ∙ told link where
  told : (l : Link) → links.hears (inputs.Asked sock) (record l { state = Idle }) now
      ≡ Ok (steps.Up sock ∷ steps.Write sock (answer_spelling replies.Accepted) None ∷ map (frame_step sock) l.waits, with_link (record l { state = Up sock false; waits = [] }) (with_link (record l { state = Up sock false }) now))
  told l = refl

pub accepts_awaiting : (link : Link) (sock : ℕ) (now : HostState) → link.state ≡ AwaitOther → links.hears (inputs.Asked sock) link now
    ≡ Ok (steps.Up sock ∷ steps.Write sock (answer_spelling replies.Accepted) None ∷ map (frame_step sock) link.waits, with_link (record link { state = Up sock false; waits = [] }) (with_link (record link { state = Up sock false }) now))
unfolding step_of
accepts_awaiting link sock now is = ap (λ (k : LinkState). links.hears (inputs.Asked sock) (record link { state = k }) now) is ∙ told link where
  told : (l : Link) → links.hears (inputs.Asked sock) (record l { state = AwaitOther }) now
      ≡ Ok (steps.Up sock ∷ steps.Write sock (answer_spelling replies.Accepted) None ∷ map (frame_step sock) l.waits, with_link (record l { state = Up sock false; waits = [] }) (with_link (record l { state = Up sock false }) now))
  told l = refl

-- one that dials, of the greater address, crosses
pub crosses_dialing : (link : Link) (own sock : ℕ) (now : HostState) → link.state ≡ Dialing own → addresses.is_greater (own_address now link.end) link.peer ≡ true → links.hears (inputs.Asked sock) link now
    ≡ Ok (steps.Write sock (answer_spelling replies.Crossed) None ∷ steps.Left sock ∷ [], end_socket sock (with_link (record link { state = Dialing own }) now))
unfolding step_of
crosses_dialing link own sock now is order = ap (λ (k : LinkState). links.hears (inputs.Asked sock) (record link { state = k }) now) is
    ∙ ap (by_order (inputs.Asked sock) (record link { state = Dialing own }) now) order ∙ told link where
      told : (l : Link) → by_order (inputs.Asked sock) (record l { state = Dialing own }) now true ≡ Ok (steps.Write sock (answer_spelling replies.Crossed) None ∷ steps.Left sock ∷ [], end_socket sock (with_link (record l { state = Dialing own }) now))
      told l = refl

-- one that dials, of the lesser address, leaves its dial and accepts
pub takes_dialing : (link : Link) (own sock : ℕ) (now : HostState) → link.state ≡ Dialing own → addresses.is_greater (own_address now link.end) link.peer ≡ false → links.hears (inputs.Asked sock) link now
    ≡ Ok (
      steps.Left own ∷ steps.Up sock ∷ steps.Write sock (answer_spelling replies.Accepted) None ∷ map (frame_step sock) link.waits,
      with_link (record link { state = Up sock false; waits = [] }) (end_socket own (with_link (record link { state = Up sock false }) now)),
    )
unfolding step_of
takes_dialing link own sock now is order = ap (λ (k : LinkState). links.hears (inputs.Asked sock) (record link { state = k }) now) is
    ∙ ap (by_order (inputs.Asked sock) (record link { state = Dialing own }) now) order ∙ told link where
      told : (l : Link) → by_order (inputs.Asked sock) (record l { state = Dialing own }) now false
          ≡ Ok (
            steps.Left own ∷ steps.Up sock ∷ steps.Write sock (answer_spelling replies.Accepted) None ∷ map (frame_step sock) l.waits,
            with_link (record l { state = Up sock false; waits = [] }) (end_socket own (with_link (record l { state = Up sock false }) now)),
          )
      told l = refl

-- one that is up and probed crosses
pub crosses_probed : (link : Link) (up sock : ℕ) (now : HostState) → link.state ≡ Up up true → links.hears (inputs.Asked sock) link now
    ≡ Ok (steps.Write sock (answer_spelling replies.Crossed) None ∷ steps.Left sock ∷ [], end_socket sock (with_link (record link { state = Up up true }) now))
unfolding step_of
crosses_probed link up sock now is = ap (λ (k : LinkState). links.hears (inputs.Asked sock) (record link { state = k }) now) is ∙ told link where
  told : (l : Link) → links.hears (inputs.Asked sock) (record l { state = Up up true }) now ≡ Ok (steps.Write sock (answer_spelling replies.Crossed) None ∷ steps.Left sock ∷ [], end_socket sock (with_link (record l { state = Up up true }) now))
  told l = refl

-- one that is up and not probed crosses and probes
pub crosses_up : (link : Link) (up sock : ℕ) (now : HostState) → link.state ≡ Up up false → links.hears (inputs.Asked sock) link now
    ≡ Ok (steps.Write sock (answer_spelling replies.Crossed) None ∷ steps.Left sock ∷ steps.Write up (frame_spelling frames.Probe) None ∷ [], end_socket sock (with_link (record link { state = Up up true }) now))
unfolding step_of
crosses_up link up sock now is = ap (λ (k : LinkState). links.hears (inputs.Asked sock) (record link { state = k }) now) is ∙ told link where
  told : (l : Link) → links.hears (inputs.Asked sock) (record l { state = Up up false }) now
      ≡ Ok (steps.Write sock (answer_spelling replies.Crossed) None ∷ steps.Left sock ∷ steps.Write up (frame_spelling frames.Probe) None ∷ [], end_socket sock (with_link (record l { state = Up up true }) now))
  told l = refl

-- ---- the pair

pub acknowledged : (v : Pair) (x : Side) (i : ℕ) (probed : Bool) (s : Sock) → v.link x ≡ Up i probed → hears step_of x i inputs.Probe (put i s v) ≡ point x (Up i probed) (put i (says x pair.Ack s) v)
unfolding step_of
acknowledged v x i probed s up = ap (λ (k : LinkState). obeys x k i (step_of k inputs.Probe (is_greater x)) (put i s v)) up
    ∙ ap (λ (z : Sock). point x (Up i probed) (put i (says x pair.Ack z) (put i s v))) (put_here i s v)
    ∙ ap (point x (Up i probed)) (put_put i (says x pair.Ack s) s v)

pub settled : (v : Pair) (x : Side) (i : ℕ) (probed : Bool) (s : Sock) → v.link x ≡ Up i probed → hears step_of x i inputs.Ack (put i s v) ≡ point x (Up i false) (put i s v)
unfolding step_of
settled v x i probed s up = ap (λ (k : LinkState). obeys x k i (step_of k inputs.Ack (is_greater x)) (put i s v)) up

pub raised : (v : Pair) (x : Side) (i : ℕ) (s : Sock) → v.link x ≡ Dialing i → hears step_of x i (inputs.Answered answers.Accepted) (put i s v) ≡ point x (Up i false) (put i (record s { o = pair.OUp }) v)
unfolding step_of
raised v x i s dials = ap (λ (k : LinkState). obeys x k i (step_of k (inputs.Answered answers.Accepted) (is_greater x)) (put i s v)) dials
    ∙ ap (λ (z : Sock). point x (Up i false) (put i (record z { o = pair.OUp }) (put i s v))) (put_here i s v)
    ∙ ap (point x (Up i false)) (put_put i (record s { o = pair.OUp }) s v)

pub crossed : (v : Pair) (x : Side) (i : ℕ) (s : Sock) → v.link x ≡ Dialing i → hears step_of x i (inputs.Answered answers.Crossed) (put i s v) ≡ point x AwaitOther (put i (pair.end_of x s) v)
unfolding step_of
crossed v x i s dials = ap (λ (k : LinkState). obeys x k i (step_of k (inputs.Answered answers.Crossed) (is_greater x)) (put i s v)) dials
    ∙ ap (λ (z : Sock). point x AwaitOther (put i (pair.end_of x z) (put i s v))) (put_here i s v)
    ∙ ap (point x AwaitOther) (put_put i (pair.end_of x s) s v)

pub failed : (v : Pair) (x : Side) (i : ℕ) (s : Sock) → v.link x ≡ Dialing i → hears step_of x i (inputs.Answered answers.Invalid) (put i s v) ≡ point x Idle (put i (pair.end_of x s) v)
unfolding step_of
failed v x i s dials = ap (λ (k : LinkState). obeys x k i (step_of k (inputs.Answered answers.Invalid) (is_greater x)) (put i s v)) dials
    ∙ ap (λ (z : Sock). point x Idle (put i (pair.end_of x z) (put i s v))) (put_here i s v)
    ∙ ap (point x Idle) (put_put i (pair.end_of x s) s v)

pub closed : (v : Pair) (x : Side) (i : ℕ) (probed : Bool) (s : Sock) → v.link x ≡ Up i probed → hears step_of x i inputs.EndClosed (put i s v) ≡ point x Idle (put i (pair.end_of x s) v)
unfolding step_of
closed v x i probed s up = ap (λ (k : LinkState). obeys x k i (step_of k inputs.EndClosed (is_greater x)) (put i s v)) up
    ∙ ap (λ (z : Sock). point x Idle (put i (pair.end_of x z) (put i s v))) (put_here i s v)
    ∙ ap (point x Idle) (put_put i (pair.end_of x s) s v)

-- a target that comes up
abbrev pub taken_up : Sock → Sock
taken_up s = record (pair.to_o pair.Accepted s) { t = pair.TUp }

pub accepted_idle : (v : Pair) (x : Side) (i : ℕ) (s : Sock) → v.link x ≡ Idle → hears step_of x i (inputs.Asked i) (put i s v) ≡ point x (Up i false) (put i (taken_up s) v)
unfolding step_of
accepted_idle v x i s is = ap (λ (k : LinkState). obeys x k i (step_of k (inputs.Asked i) (is_greater x)) (put i s v)) is
    ∙ ap (λ (z : Sock). point x (Up i false) (put i (taken_up z) (put i s v))) (put_here i s v) ∙ ap (point x (Up i false)) (put_put i (taken_up s) s v)

pub accepted_awaiting : (v : Pair) (x : Side) (i : ℕ) (s : Sock) → v.link x ≡ AwaitOther → hears step_of x i (inputs.Asked i) (put i s v) ≡ point x (Up i false) (put i (taken_up s) v)
unfolding step_of
accepted_awaiting v x i s is = ap (λ (k : LinkState). obeys x k i (step_of k (inputs.Asked i) (is_greater x)) (put i s v)) is
    ∙ ap (λ (z : Sock). point x (Up i false) (put i (taken_up z) (put i s v))) (put_here i s v) ∙ ap (point x (Up i false)) (put_put i (taken_up s) s v)

-- a request that is declined
abbrev pub turned_down : pair.Item → Sock → Sock
turned_down item s = pair.end_t (pair.to_o item s)

pub crossed_dialing : (v : Pair) (x : Side) (i own : ℕ) (s : Sock) → v.link x ≡ Dialing own → is_greater x ≡ true → hears step_of x i (inputs.Asked i) (put i s v) ≡ point x (Dialing own) (put i (turned_down pair.Crossed s) v)
unfolding step_of
crossed_dialing v x i own s is order = ap (λ (k : LinkState). obeys x k i (step_of k (inputs.Asked i) (is_greater x)) (put i s v)) is
    ∙ ap (λ b. obeys x (Dialing own) i (step_of (Dialing own) (inputs.Asked i) b) (put i s v)) order
    ∙ ap (λ (z : Sock). point x (Dialing own) (put i (turned_down pair.Crossed z) (put i s v))) (put_here i s v) ∙ ap (point x (Dialing own)) (put_put i (turned_down pair.Crossed s) s v)

pub left_and_accepted : (v : Pair) (x : Side) (i own : ℕ) (s : Sock) → v.link x ≡ Dialing own → is_greater x ≡ false → nat_eq own i ≡ false
    → hears step_of x i (inputs.Asked i) (put i s v) ≡ point x (Up i false) (put i (taken_up s) (put own (pair.end_of x (v.sock own)) v))
unfolding step_of
left_and_accepted v x i own s is order off = ap (λ (k : LinkState). obeys x k i (step_of k (inputs.Asked i) (is_greater x)) (put i s v)) is
    ∙ ap (λ b. obeys x (Dialing own) i (step_of (Dialing own) (inputs.Asked i) b) (put i s v)) order
    ∙ ap (λ (z : Sock). point x (Up i false) (put i (taken_up z) (put own (pair.end_of x ((put i s v).sock own)) (put i s v)))) (put_here i s v)
    ∙ ap (λ (z : Sock). point x (Up i false) (put i (taken_up s) (put own (pair.end_of x z) (put i s v)))) (put_there i own s v off)
    ∙ ap (point x (Up i false)) (put_over i own (taken_up s) (pair.end_of x (v.sock own)) s v)

-- one that is up crosses, and probes there
pub crossed_and_probed : (v : Pair) (x : Side) (i up : ℕ) (s : Sock) → v.link x ≡ Up up false → nat_eq up i ≡ false
    → hears step_of x i (inputs.Asked i) (put i s v) ≡ point x (Up up true) (put up (says x pair.Probe (v.sock up)) (put i (turned_down pair.Crossed s) v))
unfolding step_of
crossed_and_probed v x i up s is off = ap (λ (k : LinkState). obeys x k i (step_of k (inputs.Asked i) (is_greater x)) (put i s v)) is
    ∙ ap (λ (z : Sock). crossing (put i (turned_down pair.Crossed z) (put i s v))) (put_here i s v)
    ∙ ap crossing (put_put i (turned_down pair.Crossed s) s v)
    ∙ ap (λ (z : Sock). point x (Up up true) (put up (says x pair.Probe z) (put i (turned_down pair.Crossed s) v))) (put_there i up (turned_down pair.Crossed s) v off) where
      crossing : Pair → Pair
      crossing q = point x (Up up true) (put up (says x pair.Probe (q.sock up)) q)

pub crossed_probed : (v : Pair) (x : Side) (i up : ℕ) (s : Sock) → v.link x ≡ Up up true → hears step_of x i (inputs.Asked i) (put i s v) ≡ point x (Up up true) (put i (turned_down pair.Crossed s) v)
unfolding step_of
crossed_probed v x i up s is = ap (λ (k : LinkState). obeys x k i (step_of k (inputs.Asked i) (is_greater x)) (put i s v)) is
    ∙ ap (λ (z : Sock). point x (Up up true) (put i (turned_down pair.Crossed z) (put i s v))) (put_here i s v) ∙ ap (point x (Up up true)) (put_put i (turned_down pair.Crossed s) s v)

pub refused_shut : (v : Pair) (x : Side) (i : ℕ) (s : Sock) → asked step_of true x i (put i s v) ≡ put i (turned_down pair.Invalid s) v
refused_shut v x i s = ap (λ (z : Sock). put i (turned_down pair.Invalid z) (put i s v)) (put_here i s v) ∙ put_put i (turned_down pair.Invalid s) s v
