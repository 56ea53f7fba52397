-- A message that is read for nobody is told so, or dropped, as the passage's move says.
use Rattle.std.specs.Prelude.{◌≡◌, ℕ, Bool, true, false, not, List, [], ◌∷◌, nat_lt, slice_get, slice_set, Option, Some, None, Result, Ok, Err, if◌then◌else◌}
use Rattle.std.specs.Option.{option_map, option_map_or}
use Rattle.std.proofs.Common.{refl, ap, sym, ◌∙◌}
use Rattle.ch_base.specs.declared.event.Event.TheVariants as events
use Rattle.ch_ident.specs.declared.error.IdentError.{IdentError}
use Rattle.ch_ident.specs.declared.identifier.ProcessId.{ProcessId}
use Rattle.ch_ident.specs.declared.message.Message.{Message}
use Rattle.ch_ident.specs.Reading.{user_of}
use Rattle.ch_mail.specs.declared.error.MailError.{MailError}
use Rattle.ch_mail.specs.declared.error.MailError.TheVariants.{NotLive, Worn}
use Rattle.ch_mail.specs.Lives.{is_over}
use Rattle.ch_mail.specs.Process.{Process}
use Rattle.ch_mail.specs.Mail as mail
use Rattle.ch_mail.specs.Mail.{there_or, last_u64, waiting_in, appended, given_to, life_of, put_of}
use Rattle.ch_static.specs.declared.target.Target.{Target}
use Rattle.ch_static.specs.declared.target.Target.TheVariants as targets
use Rattle.ch_model.specs.declared.act.Act.TheVariants as acts
use Rattle.ch_model.specs.declared.note.Note.TheVariants as notes
use Rattle.ch_model.specs.NodeState as nodes
use Rattle.ch_model.specs.NodeState.{NodeState, Arrived}
use Rattle.ch_model.specs.NodeIds.{is_own, life_here, is_living, is_port_here}
use Rattle.ch_model.specs.NodeSends.{got_put, get, get_standing, deliver}
use Rattle.ch_model.specs.NodeArrivals.{to_name, to_target, received_as, received_on, received}
use Rattle.ch_model.specs.Node.{node_event}
use Rattle.ch_delivery.specs.Passage.{Item, Binding, Void, Bound, Got, Passage, is_some}
use Rattle.ch_delivery.specs.Moves as moves
use Rattle.ch_delivery.specs.Moves.{Read, put, noted, after}
use Rattle.ch_laws_delivery.specs.Scene.{Name, Scene, link_of}
use Rattle.ch_laws_delivery.specs.Receiving.{standing_for, binding_of, of_arrived, of_created, at_place}
use Rattle.ch_laws_delivery.specs.View.{view}
use Rattle.ch_laws_delivery.specs.Drops.{Arriving, ArrivesFirst, ReadsForNobody, IsMissed, LeadsNowhere, IsDropped}
use Rattle.ch_laws_delivery.proofs.Gets.{tells_data}

-- what the passage has of the message that is read
module _ (names : List Name) (scene : Scene) (rest : List Item) (r : Arriving) (a : ArrivesFirst scene rest r) where
  abbrev pub Rest : Passage
  Rest = record (view names scene) { flight = put scene.way.at rest scene.way.flight }

  pub binding_is : (view names scene).bound r.pair r.epoch ≡ binding_of scene.to.node r.arrived.bound
  binding_is = ap (at_place scene.to.node (link_of scene.to).created) a.used ∙ ap (of_created scene.to.node) a.created ∙ ap (of_arrived scene.to.node) a.arrival

  pub moved : after Read (view names scene) ≡ moves.got (binding_of scene.to.node r.arrived.bound) r.pair r.epoch r.index Rest
  moved = ap (λ (w : List Item). moves.read w (view names scene)) a.first ∙ ap (λ (b : Binding). moves.got b r.pair r.epoch r.index Rest) binding_is

-- ---- a name that nobody has

module _ (names : List Name) (scene : Scene) (rest : List Item) (by : ℕ) (name : List ℕ) (from : ProcessId) (said : Message) (r : Arriving) (a : ArrivesFirst scene rest r) (h : ReadsForNobody names scene by name from said r) where
  abbrev N : NodeState
  N = scene.to.node

  nobody : (view names scene).stands r.pair ≡ None
  nobody = ap (standing_for N) h.known ∙ ap (option_map (λ (z : ProcessId). z.counter)) h.nobody

  misses : node_event N (events.Received r.conn r.payload) ≡ Ok (acts.Note (notes.Got from (targets.Named N.own name) None) ∷ [], N)
  unfolding node_event received deliver
  misses = ap (received_on N r.payload) a.arrival ∙ ap (received_as N r.arrived r.payload) h.bound ∙ ap (to_name N from) h.read ∙ ap (get_standing N from (targets.Named N.own name) said) h.nobody

  pub is_missed : IsMissed names scene rest name from r
  is_missed = record {
    host_tells = λ socket. tells_data socket (link_of scene.to) r.place r.conn r.payload scene.to.host a.created;
    node_misses = misses;
    seen = ap (λ (o : Option ℕ). noted (Got r.pair r.epoch r.index o) (Rest names scene rest r a)) (sym nobody)
        ∙ sym (moved names scene rest r a ∙ ap (λ (b : nodes.Bound). moves.got (binding_of N b) r.pair r.epoch r.index (Rest names scene rest r a)) h.bound);
  }

-- ---- a connection that leads nowhere

-- a process that is over gets nothing
gets_nothing : (process : Process) (port : Option ℕ) (said : Message) → not (is_over process.life) ≡ false → given_to process port said ≡ Err NotLive
unfolding given_to
gets_nothing process port said h = by_life (is_over process.life) h where
  by_life : (b : Bool) → not b ≡ false → (if b then Err NotLive else mail.◌>>=◌ (appended process port said) (λ given. if nat_lt (waiting_in process) last_u64 then Ok given else Err Worn)) ≡ Err NotLive
  by_life true q = refl
  by_life false q = absurd (clash q) where
    clash : true ≡ false → ⊥
    clash e = cc

over_gets_nothing : (n : NodeState) (p : ProcessId) (port : Option ℕ) (said : Message) → is_own n p ≡ true → is_living n p ≡ false → put_of n.mail p.counter port said ≡ Err NotLive
unfolding is_living life_here life_of put_of
over_gets_nothing n p port said own over = by_there (slice_get n.mail p.counter) refl where
  lives : option_map_or (λ life. not (is_over life)) (option_map (λ (z : Process). z.life) (slice_get n.mail p.counter)) false ≡ false
  lives = sym (ap (λ b. option_map_or (λ life. not (is_over life)) (if b then option_map (λ (z : Process). z.life) (slice_get n.mail p.counter) else None) false) own) ∙ over

  by_there : (o : Option Process) → slice_get n.mail p.counter ≡ o → mail.◌>>=◌ (there_or NotLive (slice_get n.mail p.counter)) (λ process. mail.◌>>=◌ (given_to process port said) (λ given. Ok (slice_set n.mail p.counter given))) ≡ Err NotLive
  by_there None is = ap (λ (o : Option Process). mail.◌>>=◌ (there_or NotLive o) (λ process. mail.◌>>=◌ (given_to process port said) (λ given. Ok (slice_set n.mail p.counter given)))) is
  by_there (Some process) is = ap (λ (o : Option Process). mail.◌>>=◌ (there_or NotLive o) (λ z. mail.◌>>=◌ (given_to z port said) (λ given. Ok (slice_set n.mail p.counter given)))) is
      ∙ ap (λ (r : Result Process MailError). mail.◌>>=◌ {A = Process} {B = List Process} r (λ given. Ok (slice_set n.mail p.counter given)))
      (gets_nothing process port said (sym (ap (λ (o : Option Process). option_map_or (λ life. not (is_over life)) (option_map (λ (z : Process). z.life) o) false) is) ∙ lives))

dropped_by : (n : NodeState) (from : ProcessId) (to : Target) (p : ProcessId) (port : Option ℕ) (said : Message) → is_own n p ≡ true → is_living n p ≡ false → get n from to p port said ≡ Ok ([], n)
unfolding get
dropped_by n from to p port said own over = ap (got_put n from to p) (over_gets_nothing n p port said own over)

drops_at : (n : NodeState) (arrived : Arrived) (payload : List ℕ) (bound : nodes.Bound) → LeadsNowhere n bound → received_as n arrived payload bound ≡ Ok ([], n)
unfolding deliver
drops_at n arrived payload nodes.Void h = refl
drops_at n arrived payload nodes.Unread h = absurd h
drops_at n arrived payload nodes.FromNode h = absurd h
drops_at n arrived payload (nodes.ToNames from) h = absurd h
drops_at n arrived payload (nodes.ToTarget from (targets.Named at name)) h = absurd h
drops_at n arrived payload (nodes.ToTarget from (targets.Process p)) h = by_read (user_of payload) where
  by_read : (read : Result Message IdentError) → to_target n from (targets.Process p) read ≡ Ok ([], n)
  by_read (Ok said) = dropped_by n from (targets.Process p) p None said h.0 h.1
  by_read (Err e) = refl
drops_at n arrived payload (nodes.ToTarget from (targets.Port q)) h = by_read (user_of payload) where
  by_read : (read : Result Message IdentError) → to_target n from (targets.Port q) read ≡ Ok ([], n)
  by_read (Ok said) = dropped_by n from (targets.Port q) q.process (Some q.port) said h.0 h.1
  by_read (Err e) = refl

nowhere : (n : NodeState) (bound : nodes.Bound) → LeadsNowhere n bound → binding_of n bound ≡ Void
nowhere n nodes.Void h = refl
nowhere n nodes.Unread h = absurd h
nowhere n nodes.FromNode h = absurd h
nowhere n (nodes.ToNames from) h = absurd h
nowhere n (nodes.ToTarget from (targets.Named at name)) h = absurd h
nowhere n (nodes.ToTarget from (targets.Process p)) h = ap (λ b. if is_some (if b then Some p.counter else None) then Bound else Void) h.1
nowhere n (nodes.ToTarget from (targets.Port q)) h = ap (λ b. if is_some (if is_port_here n q then (if b then Some q.process.counter else None) else None) then Bound else Void) h.1 ∙ by_here (is_port_here n q) where
  by_here : (b : Bool) → (if is_some (if b then None else None) then Bound else Void) ≡ Void
  by_here true = refl
  by_here false = refl

pub is_dropped : (names : List Name) (scene : Scene) (rest : List Item) (r : Arriving) → ArrivesFirst scene rest r → LeadsNowhere scene.to.node r.arrived.bound → IsDropped names scene rest r
unfolding node_event received
is_dropped names scene rest r a h = record {
  host_tells = λ socket. tells_data socket (link_of scene.to) r.place r.conn r.payload scene.to.host a.created;
  node_drops = ap (received_on scene.to.node r.payload) a.arrival ∙ drops_at scene.to.node r.arrived r.payload r.arrived.bound h;
  seen = sym (moved names scene rest r a ∙ ap (λ (b : Binding). moves.got b r.pair r.epoch r.index (Rest names scene rest r a)) (nowhere scene.to.node r.arrived.bound h));
}
