-- A message that is read is got by who stands for its target, or by nobody, as the passage's move says.
use Rattle.std.specs.Prelude.{◌≡◌, ℕ, ◌+◌, ◌-◌, Bool, true, false, not, ◌&&◌, ◌==◌, List, [], ◌∷◌, find, nat_lt, slice_get, Option, Some, None, Ok, Err, if◌then◌else◌}
use Rattle.std.specs.Option.{option_map, option_map_or}
use Rattle.std.proofs.Common.{refl, ap, sym, ◌∙◌, arith}
use Rattle.std.proofs.lemmas.Bool.Decides.{nat_tests}
use Rattle.ch_base.specs.AddressValues.{AddressValue}
use Rattle.ch_base.specs.declared.event.Event.TheVariants as events
use Rattle.ch_ident.specs.declared.identifier.ProcessId.{ProcessId}
use Rattle.ch_ident.specs.declared.message.Message.{Message}
use Rattle.ch_light.specs.declared.TheConstants.{FIRST_ID}
use Rattle.ch_light.specs.declared.Connection.{Connection}
use Rattle.ch_light.specs.declared.error.LightError.TheVariants.{NotOpen}
use Rattle.ch_light.specs.Ids.{opened, open_number, conn_of}
use Rattle.ch_mail.specs.declared.life.Life.{Life}
use Rattle.ch_mail.specs.Lives.{is_over}
use Rattle.ch_mail.specs.Process.{Process}
use Rattle.ch_mail.specs.Mail.{put_of}
use Rattle.ch_static.specs.declared.target.Target.{Target}
use Rattle.ch_static.specs.declared.target.Target.TheVariants as targets
use Rattle.ch_wire.specs.declared.frame.Frame.TheVariants as frames
use Rattle.ch_model.specs.declared.act.Act.TheVariants as acts
use Rattle.ch_model.specs.declared.note.Note.TheVariants as notes
use Rattle.ch_model.specs.declared.step.Step.TheVariants as steps
use Rattle.ch_model.specs.HostState.{Link, Socket, HostState}
use Rattle.ch_model.specs.HostItems.{reads_frame, receives}
use Rattle.ch_model.specs.NodeState as nodes
use Rattle.ch_model.specs.NodeState.{NodeState, Arrived}
use Rattle.ch_model.specs.NodeIds.{is_own, life_here, is_living, has_port, is_port_here, target_at}
use Rattle.ch_model.specs.NodeAsks.{standing}
use Rattle.ch_model.specs.NodeSends.{got_put, get, get_standing, deliver}
use Rattle.ch_model.specs.NodeArrivals.{to_name, to_target, received_as, received_on, received}
use Rattle.ch_model.specs.Node.{node_event}
use Rattle.ch_delivery.specs.Passage.{Item, Binding, Void, Bound, Unknown, Got, Passage, is_some}
use Rattle.ch_delivery.specs.Moves as moves
use Rattle.ch_delivery.specs.Moves.{Read, put, noted, after}
use Rattle.ch_laws_delivery.specs.Scene.{Name, Scene, link_of}
use Rattle.ch_laws_delivery.specs.Receiving.{if_living, stands_for, standing_for, binding_of, of_arrived, of_created, place_for, at_place}
use Rattle.ch_laws_delivery.specs.View.{view}
use Rattle.ch_laws_delivery.specs.Receipts.{stands_at, port_of, bound_as, Carries, Reading, ReadsFirst, node_after, got_in, IsGot}
use Rattle.ch_laws_delivery.proofs.Places.{some_is, nothing_is}
use Rattle.ch_laws_delivery.proofs.Mails.{Unmoved, put_unmoved}
use Rattle.ch_laws_delivery.proofs.Alike.{sending_alike}

-- ---- who stands for a target, and what is known, is as before

module _ (n : NodeState) (mail : List Process) (same : Unmoved n.mail mail) where
  abbrev Now : NodeState
  Now = record n { mail = mail }

  lives_same : (p : ProcessId) → is_living Now p ≡ is_living n p
  unfolding is_living life_here is_own
  lives_same p = ap (λ (o : Option Life). option_map_or (λ life. not (is_over life)) (if is_own n p then o else None) false) (same.life p.counter)

  living_same : (p : ProcessId) → if_living Now p ≡ if_living n p
  living_same p = ap (λ b. if b then Some p.counter else None) (lives_same p)

  stands_same : (to : Target) → stands_for Now to ≡ stands_for n to
  unfolding is_port_here is_own standing
  stands_same (targets.Process p) = living_same p
  stands_same (targets.Port q) = ap (λ b. if is_own n q.process && b then if_living Now q.process else None) (same.ports q.process.counter q.port)
      ∙ ap (λ (o : Option ℕ). if is_own n q.process && has_port n.mail q.process.counter q.port then o else None) (living_same q.process)
  stands_same (targets.Named at name) = refl

  standing_same : (o : Option Name) → standing_for Now o ≡ standing_for n o
  standing_same None = refl
  standing_same (Some name) = stands_same name.to

  binding_same : (b : nodes.Bound) → binding_of Now b ≡ binding_of n b
  binding_same nodes.Unread = refl
  binding_same nodes.Void = refl
  binding_same nodes.FromNode = refl
  binding_same (nodes.ToNames from) = refl
  binding_same (nodes.ToTarget from to) = ap (λ (o : Option ℕ). if is_some o then Bound else Void) (stands_same to)

  arrived_same : (o : Option Arrived) → of_arrived Now o ≡ of_arrived n o
  arrived_same None = refl
  arrived_same (Some arrived) = binding_same arrived.bound

  created_same : (o : Option Connection) → of_created Now o ≡ of_created n o
  created_same None = refl
  created_same (Some c) = ap (λ (b : Binding). if c.is_open then b else Unknown) (arrived_same (find (λ arrived. arrived.conn == c.number) n.arrived))

  place_same : (created : List Connection) (o : Option ℕ) → at_place Now created o ≡ at_place n created o
  place_same created None = refl
  place_same created (Some place) = created_same (slice_get created place)

-- ---- the payload

not_below : (a b : ℕ) → nat_lt (a + b) a ≡ false
not_below a b = grind (arith, nat_tests)

less_first : (a b : ℕ) → (a + b) - a ≡ b
less_first a b = omega arith

-- the host tells the node that it came on an open connection
pub tells_data : (socket : Socket) (link : Link) (place conn : ℕ) (payload : List ℕ) (host : HostState) → slice_get link.created place ≡ Some (opened conn)
    → reads_frame socket link (frames.Data (FIRST_ID + place) payload) host ≡ Ok (steps.Post link.end (events.Received conn payload) ∷ [], host)
unfolding conn_of
tells_data socket link place conn payload host there =
    ap (λ b. receives socket link payload (if b then Err NotOpen else open_number (slice_get link.created ((FIRST_ID + place) - FIRST_ID))) host) (not_below FIRST_ID place)
    ∙ ap (λ (i : ℕ). receives socket link payload (open_number (slice_get link.created i)) host) (less_first FIRST_ID place)
    ∙ ap (λ (o : Option Connection). receives socket link payload (open_number o) host) there

-- ---- somebody stands for its target

stands_is : (n : NodeState) (to : Target) → stands_for n to ≡ option_map (λ p. p.counter) (stands_at n to)
stands_is n (targets.Named at name) = refl
stands_is n (targets.Process p) = by_living (is_living n p) where
  by_living : (b : Bool) → (if b then Some p.counter else None) ≡ option_map (λ (z : ProcessId). z.counter) (if b then Some p else None)
  by_living true = refl
  by_living false = refl
stands_is n (targets.Port q) = by_both (is_port_here n q) (is_living n q.process) where
  by_both : (b c : Bool) → (if b then (if c then Some q.process.counter else None) else None) ≡ option_map (λ (z : ProcessId). z.counter) (if b then (if c then Some q.process else None) else None)
  by_both true true = refl
  by_both true false = refl
  by_both false true = refl
  by_both false false = refl

-- the process of a target that isn't a name is who stands for it
process_is : (b : Bool) (p receiver : ProcessId) → (if b then Some p else None) ≡ Some receiver → p ≡ receiver
process_is true p receiver h = some_is p receiver h
process_is false p receiver h = nothing_is receiver h

owner_is : (b c : Bool) (p receiver : ProcessId) → (if b then (if c then Some p else None) else None) ≡ Some receiver → p ≡ receiver
owner_is true c p receiver h = process_is c p receiver h
owner_is false c p receiver h = nothing_is receiver h

got_by : (n : NodeState) (from : ProcessId) (to : Target) (p receiver : ProcessId) (port : Option ℕ) (said : Message) (mail : List Process) → p ≡ receiver → put_of n.mail receiver.counter port said ≡ Ok mail
    → get n from to p port said ≡ Ok (acts.Note (notes.Got from to (Some receiver)) ∷ [], record n { mail = mail })
unfolding get
got_by n from to p receiver port said mail same fits = ap (λ (z : ProcessId). got_put n from to z (put_of n.mail z.counter port said)) same ∙ ap (got_put n from to receiver) fits

gets_at : (n : NodeState) (arrived : Arrived) (payload : List ℕ) (from : ProcessId) (to : Target) (said : Message) (receiver : ProcessId) (mail : List Process) → target_at to ≡ n.own → stands_at n to ≡ Some receiver
    → Carries to payload said → put_of n.mail receiver.counter (port_of to) said ≡ Ok mail → received_as n arrived payload (bound_as from to) ≡ Ok (acts.Note (notes.Got from to (Some receiver)) ∷ [], record n { mail = mail })
unfolding deliver
gets_at n arrived payload from (targets.Process p) said receiver mail here stands read fits =
    ap (to_target n from (targets.Process p)) read ∙ got_by n from (targets.Process p) p receiver None said mail (process_is (is_living n p) p receiver stands) fits
gets_at n arrived payload from (targets.Port q) said receiver mail here stands read fits =
    ap (to_target n from (targets.Port q)) read ∙ got_by n from (targets.Port q) q.process receiver (Some q.port) said mail (owner_is (is_port_here n q) (is_living n q.process) q.process receiver stands) fits
gets_at n arrived payload from (targets.Named at name) said receiver mail here stands read fits =
    ap (to_name n from) read ∙ ap (get_standing n from (targets.Named n.own name) said) stands
    ∙ ap (λ (z : AddressValue). get n from (targets.Named z name) receiver None said) (sym here)
    ∙ got_by n from (targets.Named at name) receiver receiver None said mail refl fits

bound_there : (n : NodeState) (from : ProcessId) (to : Target) (receiver : ProcessId) → stands_at n to ≡ Some receiver → binding_of n (bound_as from to) ≡ Bound
bound_there n from (targets.Named at name) receiver stands = refl
bound_there n from (targets.Process p) receiver stands = ap (λ (o : Option ℕ). if is_some o then Bound else Void) (stands_is n (targets.Process p) ∙ ap (option_map (λ z. z.counter)) stands)
bound_there n from (targets.Port q) receiver stands = ap (λ (o : Option ℕ). if is_some o then Bound else Void) (stands_is n (targets.Port q) ∙ ap (option_map (λ z. z.counter)) stands)

module _ (names : List Name) (scene : Scene) (name : Name) (rest : List Item) (r : Reading) (h : ReadsFirst names scene name rest r) where
  abbrev N : NodeState
  N = scene.to.node

  abbrev V : Passage
  V = view names scene

  abbrev Table : List Connection
  Table = (link_of scene.to).created

  gets : node_event N (events.Received r.conn r.payload) ≡ Ok (acts.Note (notes.Got r.from r.to (Some r.receiver)) ∷ [], node_after N r)
  unfolding node_event received
  gets = ap (received_on N r.payload) h.arrival
      ∙ ap (received_as N r.arrived r.payload) h.bound
      ∙ gets_at N r.arrived r.payload r.from r.to r.said r.receiver r.mail h.here h.stands h.read h.fits

  bound_is : V.bound r.pair r.epoch ≡ Bound
  bound_is = ap (at_place N Table) h.used ∙ ap (of_created N) h.created ∙ ap (of_arrived N) h.arrival ∙ ap (binding_of N) h.bound ∙ bound_there N r.from r.to r.receiver h.stands

  receiver_is : V.stands r.pair ≡ Some r.receiver.counter
  receiver_is = ap (standing_for N) h.known ∙ ap (stands_for N) h.target ∙ stands_is N r.to ∙ ap (option_map (λ z. z.counter)) h.stands

  abbrev Rest : Passage
  Rest = record V { flight = put scene.way.at rest scene.way.flight }

  -- the passage's move, by what is read and what it is bound to
  moved : after Read V ≡ noted (Got r.pair r.epoch r.index (V.stands r.pair)) Rest
  moved = ap (λ (w : List Item). moves.read w V) h.first ∙ ap (λ (b : Binding). moves.got b r.pair r.epoch r.index Rest) bound_is

  same : Unmoved N.mail r.mail
  same = put_unmoved N.mail r.receiver.counter (port_of r.to) r.said r.mail h.fits

  seen_now : view names (got_in scene rest r) ≡ after Read V
  seen_now = sending_alike (view names (got_in scene rest r)) (noted (Got r.pair r.epoch r.index (V.stands r.pair)) Rest) refl (λ d. refl) (λ d. refl) (λ d. refl) refl refl refl refl refl refl
      (λ d e. place_same N r.mail same Table (place_for d e scene.created)) (λ d. standing_same N r.mail same (slice_get names d))
      (ap (λ (o : Option ℕ). Got r.pair r.epoch r.index o ∷ scene.log) (sym receiver_is))
      ∙ sym moved

  pub is_got : IsGot names scene rest r
  is_got = record { host_tells = λ socket. tells_data socket (link_of scene.to) r.place r.conn r.payload scene.to.host h.created; node_gets = gets; seen = seen_now }
