-- The answers to a request, read by its opener, as moves.
use Rattle.std.specs.Prelude.{◌≡◌, ℕ, false, List, [], ◌∷◌, map, slice_set, Option, Some, None, Ok}
use Rattle.std.proofs.Common.{refl, ap, sym, ◌∙◌}
use Rattle.ch_base.specs.declared.address.Address.{Address}
use Rattle.ch_wire.specs.declared.answer.Answer.{Answer}
use Rattle.ch_wire.specs.declared.answer.Answer.TheVariants as answers
use Rattle.ch_reader.specs.declared.item.Expected.{Expected}
use Rattle.ch_reader.specs.declared.item.Expected.TheVariants as expected
use Rattle.ch_reader.specs.declared.item.Item.TheVariants as items
use Rattle.ch_reader.specs.Items.{MayStand}
use Rattle.ch_link.specs.declared.LinkState.{LinkState}
use Rattle.ch_link.specs.declared.LinkState.TheVariants.{Idle, Dialing, AwaitOther, Up}
use Rattle.ch_link.specs.declared.LinkIn.TheVariants as inputs
use Rattle.ch_model.specs.declared.name.End.TheVariants.{O, T}
use Rattle.ch_model.specs.declared.step.Step.TheVariants as steps
use Rattle.ch_model.specs.Stages.{Stage, Open}
use Rattle.ch_model.specs.CellSteps.{told_steps}
use Rattle.ch_model.specs.HostState.{Link, Socket, HostState}
use Rattle.ch_model.specs.HostSteps as host
use Rattle.ch_model.specs.HostSteps.{still, link_with, with_link, with_socket}
use Rattle.ch_model.specs.HostWrites.{frame_step, forgotten}
use Rattle.ch_model.specs.HostLinks as links
use Rattle.ch_model.specs.HostItems.{heard_answer, reads_on}
use Rattle.ch_model.specs.WorldState.{Cell, WorldSocket, World}
use Rattle.ch_model.specs.WorldSteps.{all_told}
use Rattle.ch_race.specs.Pair as pair
use Rattle.ch_race.specs.Pair.{Side, other, same, OEnd, OAsking, Sock, Pair, put, point}
use Rattle.ch_race.specs.Moves.{Read_o, run, after}
use Rattle.ch_laws_race.specs.Scene.{Scene, hosts_of, host_of, link_of}
use Rattle.ch_laws_race.specs.View.{kind, Reader, reader_at, opener_end, sock_of, view}
use Rattle.ch_laws_race.specs.Sound.{Acts, TakesFrames, first_of}
use Rattle.ch_laws_race.specs.Reading.{Reads, IsUser, IsSeen, reads_front}
use Rattle.ch_laws_race.specs.Answers.{AreData, each_said, reads_and_says}
use Rattle.ch_laws_race.proofs.Keys.{link_named}
use Rattle.ch_laws_race.proofs.Views.{kept_link}
use Rattle.ch_laws_race.proofs.Pairs.{put_here, put_put, point_own}
use Rattle.ch_laws_race.proofs.Steps.{up_there}
use Rattle.ch_laws_race.proofs.Socks.{sock_by, end_of_own}
use Rattle.ch_laws_race.proofs.Many.{write_all, says_all, all_wrote, all_alike, writes_all, said_all, may_say}
use Rattle.ch_laws_race.proofs.Readings.{taken, takes_front, reads_answer_accepted, reads_answer_crossed, reads_answer_invalid}
use Rattle.ch_laws_race.proofs.Heard.{raises, leaves_dial, fails_dial, told_failed, raised, crossed, failed}
use Rattle.ch_laws_race.proofs.Read as read

answer_expected : (e : Expected) (a : Answer) → MayStand e (items.Answer a) → e ≡ expected.Answer
answer_expected expected.Answer a fits = refl
answer_expected expected.Request a fits = absurd fits
answer_expected expected.Frame a fits = absurd fits

module _ (scene : Scene) (x : Side) (cell : Cell × ℕ) (i : ℕ) (s : WorldSocket) (known : Socket) (answer : Answer) (acts : Acts scene x cell) (reads : Reads scene x O i s known (items.Answer answer))
    (user : IsUser scene x known) (dials : (link_of scene x).state ≡ Dialing known.number) where
  abbrev V : Pair
  V = view scene

  abbrev Own : HostState
  Own = host_of scene x

  abbrev Seen : Sock
  Seen = sock_of scene.party (hosts_of scene.world) s

  abbrev Rest : List pair.Item
  Rest = map kind reads.rest

  abbrev Between : HostState
  Between = with_socket (taken known reads.more) Own

  abbrev L : Link
  L = link_of scene x

  abbrev In : LinkState → Link
  In state = record L { state = state }

  asks : Seen.o ≡ OAsking
  asks = ap (λ (r : Reader). opener_end s.o.stage r.0) (read.mine_is scene x cell O i s known (items.Answer answer) acts reads)
      ∙ ap (λ (z : Stage). opener_end z known.expected) reads.standing
      ∙ ap (opener_end Open) (answer_expected known.expected answer reads.stream.each.0)

  -- the answer is taken, and the link hears it
  takes_answer : reads_front scene x known ≡ host.after_steps (steps.Read known.number ∷ []) (links.hears (inputs.Answered (heard_answer answer)) L Between)
  takes_answer = takes_front known (items.Answer answer) reads.more Own reads.front reads.stream.each.0
      ∙ ap (λ (o : Option (ℕ × Address)). host.after_steps (steps.Read known.number ∷ []) (elim o [
        | None ↦ still Between
        | Some user ↦ reads_on (taken known reads.more) (link_with Between user.0 user.1) (items.Answer answer) Between
      ])) user

  dials_here : V.link x ≡ Dialing i
  dials_here = ap (read.Places scene x cell O i s known (items.Answer answer) acts reads) dials ∙ ap (λ (z : ℕ). Dialing z) (read.number_here scene x cell O i s known (items.Answer answer) acts reads)

  first : Seen.in_o ≡ kind (items.Answer answer) ∷ Rest
  first = read.first_is scene x cell O i s known (items.Answer answer) acts reads

  -- the host whose end is ended, with the link in a state
  abbrev Ended_in : LinkState → HostState
  Ended_in state = with_socket (read.Gone scene x cell O i s known (items.Answer answer) acts reads) (with_link (In state) Between)

  -- ---- crossed

  pub crossed_read : answer ≡ answers.Crossed → IsSeen scene x cell (reads_front scene x known) (Read_o i ∷ [])
  crossed_read is = record {
    steps = steps.Read known.number ∷ steps.Left known.number ∷ [];
    host = Ended_in AwaitOther;
    does = takes_answer ∙ ap (λ (a : Answer). host.after_steps (steps.Read known.number ∷ []) (links.hears (inputs.Answered (heard_answer a)) L Between)) is
        ∙ ap (host.after_steps (steps.Read known.number ∷ [])) (leaves_dial L known.number Between dials)
        ∙ ap (λ (z : HostState). Ok (steps.Read known.number ∷ steps.Left known.number ∷ [], z)) (read.ended_with scene x cell O i s known (items.Answer answer) acts reads AwaitOther);
    allowed = (tt, tt);
    seen = read.read_and_over scene x cell O i s known (items.Answer answer) acts reads (steps.Left known.number ∷ []) (Ended_in AwaitOther) AwaitOther
        (read.kept_ended scene x cell O i s known (items.Answer answer) acts reads AwaitOther) (read.found_gone scene x cell O i s known (items.Answer answer) acts reads (with_link (In AwaitOther) Between))
        (read.leaves_it scene x cell O i s known (items.Answer answer) acts reads (Ended_in AwaitOther))
        ∙ sym (reads_answer_crossed V i Seen x Rest (read.sock_at scene x cell O i s known (items.Answer answer) acts reads) reads.has.opener asks (first ∙ ap (λ (a : Answer). kind (items.Answer a) ∷ Rest) is)
        ∙ crossed V x i (record Seen { in_o = Rest }) dials_here
        ∙ ap (λ (z : Sock). point x AwaitOther (put i z V)) (end_of_own O x (record Seen { in_o = Rest }) reads.has.opener));
  }

  -- ---- invalid

  pub invalid_read : answer ≡ answers.Invalid → IsSeen scene x cell (reads_front scene x known) (Read_o i ∷ [])
  invalid_read is = record {
    steps = steps.Read known.number ∷ steps.Left known.number ∷ told_failed L;
    host = read.Failed scene x cell O i s known (items.Answer answer) acts reads;
    does = takes_answer ∙ ap (λ (a : Answer). host.after_steps (steps.Read known.number ∷ []) (links.hears (inputs.Answered (heard_answer a)) L Between)) is
        ∙ ap (host.after_steps (steps.Read known.number ∷ [])) (fails_dial L known.number Between dials)
        ∙ ap (λ (z : HostState). Ok (steps.Read known.number ∷ steps.Left known.number ∷ told_failed L, with_link (forgotten L Idle) z)) (read.ended_with scene x cell O i s known (items.Answer answer) acts reads Idle);
    allowed = (tt, tt);
    seen = read.read_and_over scene x cell O i s known (items.Answer answer) acts reads (steps.Left known.number ∷ told_failed L) (read.Failed scene x cell O i s known (items.Answer answer) acts reads) Idle
        (read.kept_failed scene x cell O i s known (items.Answer answer) acts reads) (read.found_gone scene x cell O i s known (items.Answer answer) acts reads (with_link (In Idle) Between))
        (read.leaves_it scene x cell O i s known (items.Answer answer) acts reads (read.Failed scene x cell O i s known (items.Answer answer) acts reads))
        ∙ sym (reads_answer_invalid V i Seen x Rest (read.sock_at scene x cell O i s known (items.Answer answer) acts reads) reads.has.opener asks (first ∙ ap (λ (a : Answer). kind (items.Answer a) ∷ Rest) is)
        ∙ failed V x i (record Seen { in_o = Rest }) dials_here
        ∙ ap (λ (z : Sock). point x Idle (put i z V)) (end_of_own O x (record Seen { in_o = Rest }) reads.has.opener));
  }

  -- ---- accepted

  abbrev Raised : HostState
  Raised = with_link (record L { state = Up known.number false; waits = [] }) (with_link (In (Up known.number false)) Between)

  abbrev After_waits : WorldSocket
  After_waits = write_all O L.waits (read.Read scene x cell O i s known (items.Answer answer) acts reads)

  abbrev Their : Reader
  Their = reader_at (hosts_of scene.world) expected.Request s.t

  -- the socket as it is seen then
  abbrev Wrote_as : Sock
  Wrote_as = sock_by scene.party O (expected.Frame, reads.more) Their After_waits

  abbrev Base : World
  Base = read.Then scene x cell O i s known (items.Answer answer) acts reads Raised

  pub accepted_read : answer ≡ answers.Accepted → AreData L.waits → TakesFrames (hosts_of scene.world) (first_of T) s.t L.waits → IsSeen scene x cell (reads_front scene x known) (reads_and_says x i L.waits)
  accepted_read is are way = record {
    steps = steps.Read known.number ∷ steps.Up known.number ∷ map (frame_step known.number) L.waits;
    host = Raised;
    does = takes_answer ∙ ap (λ (a : Answer). host.after_steps (steps.Read known.number ∷ []) (links.hears (inputs.Answered (heard_answer a)) L Between)) is
        ∙ ap (host.after_steps (steps.Read known.number ∷ [])) (raises L known.number Between dials);
    allowed = (tt, may_say x L.waits (after (Read_o i) V));
    seen = read.read_and_then scene x cell O i s known (items.Answer answer) acts reads (steps.Up known.number ∷ map (frame_step known.number) L.waits) Raised (Up known.number false) After_waits (taken known reads.more)
        (all_alike O L.waits s (read.Read scene x cell O i s known (items.Answer answer) acts reads) (read.read_alike scene x cell O i s known (items.Answer answer) acts reads))
        (kept_link known.number (scene.party x).address.id (scene.party (other x)).address (record L { state = Up known.number false; waits = [] }) Own (with_link (In (Up known.number false)) Between) (Up known.number false)
        (link_named Own (scene.party x).address.id (scene.party (other x)).address).0 (link_named Own (scene.party x).address.id (scene.party (other x)).address).1
        (read.kept_with scene x cell O i s known (items.Answer answer) acts reads (In (Up known.number false)) refl refl))
        (read.found_now scene x cell O i s known (items.Answer answer) acts reads)
        told
        ∙ ap (λ (k : LinkState). point x k (put i (Wrote_as) V)) (read.up_here scene x cell O i s known (items.Answer answer) acts reads false)
        ∙ ap (λ (z : Sock). point x (Up i false) (put i z V)) socket_now
        ∙ sym moved;
  } where
    told : (all_told (scene.party x).place (record (cell.0) { host = Raised }) (told_steps (steps.Up known.number ∷ map (frame_step known.number) L.waits)) (record Base { sockets = slice_set scene.world.sockets i (read.Read scene x cell O i s known (items.Answer answer) acts reads) })).1
        ≡ record Base { sockets = slice_set scene.world.sockets i After_waits }
    told = ap (λ (w : World). (all_told (scene.party x).place (record (cell.0) { host = Raised }) (told_steps (map (frame_step known.number) L.waits)) w).1)
        (up_there Base i s (read.Read scene x cell O i s known (items.Answer answer) acts reads) O (scene.party x).place known.number (record (cell.0) { host = Raised }) acts.apart reads.has.at
        (read.read_alike scene x cell O i s known (items.Answer answer) acts reads) reads.has.end)
        ∙ writes_all Base i s O (scene.party x).place known.number (record (cell.0) { host = Raised }) acts.apart reads.has.at reads.has.end L.waits
        (read.Read scene x cell O i s known (items.Answer answer) acts reads) (read.read_alike scene x cell O i s known (items.Answer answer) acts reads)

    socket_now : Wrote_as ≡ says_all x L.waits (record Seen { o = pair.OUp; in_o = Rest })
    socket_now = all_wrote scene.party O x (expected.Frame, reads.more) Their L.waits (read.Read scene x cell O i s known (items.Answer answer) acts reads) are reads.has.opener reads.has.target way
        ∙ ap (says_all x L.waits) (read.read_is scene x cell O i s known (items.Answer answer) acts reads)

    came_up : after (Read_o i) V ≡ point x (Up i false) (put i (record Seen { o = pair.OUp; in_o = Rest }) V)
    came_up = reads_answer_accepted V i Seen x Rest (read.sock_at scene x cell O i s known (items.Answer answer) acts reads) reads.has.opener asks (first ∙ ap (λ (a : Answer). kind (items.Answer a) ∷ Rest) is)
        ∙ raised V x i (record Seen { in_o = Rest }) dials_here

    moved : run (reads_and_says x i L.waits) V ≡ point x (Up i false) (put i (says_all x L.waits (record Seen { o = pair.OUp; in_o = Rest })) V)
    moved = ap (run (each_said x L.waits)) came_up
        ∙ said_all x i false L.waits (point x (Up i false) (put i (record Seen { o = pair.OUp; in_o = Rest }) V)) (point_own x (Up i false) (put i (record Seen { o = pair.OUp; in_o = Rest }) V))
        ∙ ap (λ (z : Sock). put i (says_all x L.waits z) (point x (Up i false) (put i (record Seen { o = pair.OUp; in_o = Rest }) V))) (put_here i (record Seen { o = pair.OUp; in_o = Rest }) V)
        ∙ ap (point x (Up i false)) (put_put i (says_all x L.waits (record Seen { o = pair.OUp; in_o = Rest })) (record Seen { o = pair.OUp; in_o = Rest }) V)
