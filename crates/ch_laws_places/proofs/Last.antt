-- The place that the world takes as an item is read stands by that item.
use Rattle.std.proofs.Common.{◌≡◌, ℕ, Bool, true, false, cond, ◌&&◌, List, [], ◌∷◌, drop, Ok, Err, refl, sym, ap, ◌∙◌, subst}
use Rattle.std.proofs.lemmas.Bool.{and_parts}
use Rattle.std.specs.Prelude.{find, Option, Some, None, Result, ◌==◌}
use Rattle.ch_base.specs.declared.address.Address.{Address}
use Rattle.ch_base.specs.declared.memory.Stop.{Stop}
use Rattle.ch_link.specs.Sockets.{names}
use Rattle.ch_link.specs.Table.{step_of}
use Rattle.ch_link.specs.declared.LinkIn.TheVariants as inputs
use Rattle.ch_link.specs.declared.LinkState.{LinkState}
use Rattle.ch_link.specs.declared.LinkState.TheVariants as states
use Rattle.ch_reader.specs.Reading.{reading}
use Rattle.ch_reader.specs.declared.item.Expected.TheVariants as expected
use Rattle.ch_reader.specs.declared.item.Front.{Front}
use Rattle.ch_reader.specs.declared.item.Front.TheVariants.{Unfinished, Whole, Refused}
use Rattle.ch_reader.specs.declared.item.Item.{Item}
use Rattle.ch_model.specs.declared.entry.Entry.{Entry}
use Rattle.ch_model.specs.declared.line.Line.{Line}
use Rattle.ch_model.specs.declared.name.End.{End}
use Rattle.ch_model.specs.declared.name.SockName.{SockName}
use Rattle.ch_model.specs.declared.step.Place.{Place}
use Rattle.ch_model.specs.declared.step.Step.{Step}
use Rattle.ch_model.specs.declared.step.Step.TheVariants as steps
use Rattle.ch_model.specs.Greater.{is_greater}
use Rattle.ch_model.specs.Host.{front_of, is_ready_front, first_ready, takes, handles, some_steps, host_next}
use Rattle.ch_model.specs.HostItems.{gone_from, is_gone, reads}
use Rattle.ch_model.specs.HostLinks.{does_act, hears}
use Rattle.ch_model.specs.HostState.{Link, Socket, HostState}
use Rattle.ch_model.specs.HostSteps.{Stepped, still, after_steps, own_address, link_with, with_link, with_socket, is_socket}
use Rattle.ch_model.specs.HostWrites.{leaves}
use Rattle.ch_model.specs.Stages.{Stage, Pending, Open, Ended, is_open, is_ended}
use Rattle.ch_model.specs.WorldSockets.{end_of, is_socket_named, same_number, is_end_of, find_end}
use Rattle.ch_model.specs.WorldState.{Cell, WorldEnd, WorldSocket, World}
use Rattle.ch_model.specs.WorldSteps.{first_place, item_is_read, reads_item, stepped}
use Rattle.ch_laws_bytes.specs.Streams.{Reader, reader_in, reader_at, readers_of, reads_at, first_at, is_over, reader_of}
use Rattle.ch_laws_calls.specs.Calls.{IsHeldBy}
use Rattle.ch_laws_calls.specs.Sound.{Sound}
use Rattle.ch_laws_items.proofs.Next.{served}
use Rattle.ch_laws_log.specs.HostEnds.{IsSound}
use Rattle.ch_laws_log.proofs.Stored.{number_same}
use Rattle.ch_laws_reads.specs.Reads.{AreReadOf}
use Rattle.ch_laws_reads.proofs.Stays.{read_of_spelled}
use Rattle.ch_laws_places.specs.Places.{AllStand, Carried, CarriedAt, Placed, TakesPlace, StandsNext, IsNext}

-- where an item stands whole at the front, its place is the first
first_stands : (reader : Reader) (unread : List ℕ) (places : List (Option Place)) (item : Item) → Carried reader unread places → (reading reader.0 reader.1).0 ≡ Whole item → TakesPlace item places (first_place places)
first_stands reader unread places item c front = by_places places (subst (λ (l : List Item). AllStand l places) of.split c.stand) where
  of : AreReadOf c.all (item ∷ []) expected.Frame (drop (reading reader.0 reader.1).1 reader.1) unread
  of = read_of_spelled reader.0 expected.Frame reader.1 (drop (reading reader.0 reader.1).1 reader.1) unread c.all (item ∷ []) c.whole c.each (front, (refl, refl))

  by_places : (l : List (Option Place)) → AllStand (item ∷ of.rest) l → TakesPlace item l (first_place l)
  by_places [] s = absurd s
  by_places (place ∷ l) s = record { rest = l; first = refl; stands = s.0 }

-- the reader of such an end
reader_next : (journal : List Line) (world : World) (place n : ℕ) (socket : WorldSocket) (e : End) (item : Item) → (x : IsNext journal world place n socket e item) → reader_of world socket e ≡ Some (x.next.known.expected, x.next.known.since)
reader_next journal world place n socket e item x = ap (λ (c : Option ℕ). reads_at (readers_of world.cells) (first_at e) c (end_of e socket).number) x.held.cell ∙ ap (reads_at (readers_of world.cells) (first_at e) (Some place)) x.held.number ∙ ap (λ (o : Option (Cell × ℕ)). reader_at o n) x.at ∙ ap reader_in x.next.found
    ∙ ap (λ b. cond {A = Option Reader} b None (Some (x.next.known.expected, x.next.known.since))) x.next.live

of_end : (place n : ℕ) (end : WorldEnd) → IsHeldBy place n end → is_end_of place n end ≡ true
of_end place n end h = ap (λ (c : Option ℕ). same_number c place && same_number end.number n) h.cell ∙ ap (λ (m : Option ℕ). same_number (Some place) place && same_number m n) h.number ∙ ap (λ b. b && (n == n)) (number_same place) ∙ number_same n

pub takes_place : (journal : List Line) (log : List Entry) (world now : World) (place n : ℕ) (cell : Cell) (socket : WorldSocket) (e : End) (item : Item) → Sound journal log world → Placed journal log world → IsNext journal world place n socket e item → now.sockets ≡ world.sockets
    → TakesPlace item (end_of e socket).places (stepped place cell (steps.Read n) now).1.last
takes_place journal log world now place n cell socket e item p j x same = subst (TakesPlace item (end_of e socket).places) (sym last) (first_stands (x.next.known.expected, x.next.known.since) (end_of e socket).unread (end_of e socket).places item carried x.next.front) where
  carried : Carried (x.next.known.expected, x.next.known.since) (end_of e socket).unread (end_of e socket).places
  carried = subst (λ (b : Bool). CarriedAt (Some (x.next.known.expected, x.next.known.since)) b (end_of e socket).unread (end_of e socket).places) x.goes
      (subst (λ (r : Option Reader). CarriedAt r (is_over (end_of e socket)) (end_of e socket).unread (end_of e socket).places) (reader_next journal world place n socket e item x) (j.ends socket.name socket e x.is x.may))

  found_end : find_end place n now.sockets ≡ Some (socket.name, e)
  found_end = ap (find_end place n) same ∙ p.ends.sure.ends.each socket.name socket e place n x.is (of_end place n (end_of e socket) x.held)

  found : find (is_socket_named socket.name) now.sockets ≡ Some socket
  found = ap (find (is_socket_named socket.name)) same ∙ x.is

  last : (stepped place cell (steps.Read n) now).1.last ≡ first_place (end_of e socket).places
  last = ap (λ (o : Option (SockName × End)). (elim o as (λ o. List Entry × World) [
    | None ↦ ([], now)
    | Some at ↦ reads_item at now
  ]).1.last) found_end ∙ ap (λ (o : Option WorldSocket). (item_is_read (socket.name, e) o now).last) found

-- ---- a turn

-- the number of the socket of which an item is read first
abbrev begins : List Step → Option ℕ
begins (steps.Read sock ∷ rest) = Some sock
begins told = None

abbrev begun : Stepped → Option ℕ
begun (Ok done) = begins done.0
begun (Err stop) = None

gone_in : (host : HostState) (link : Link) (state : LinkState) (greater : Bool) → begun (does_act (step_of state inputs.Gone greater).1 state inputs.Gone (record link { state = (step_of state inputs.Gone greater).0 }) (with_link (record link { state = (step_of state inputs.Gone greater).0 }) host)) ≡ None
unfolding step_of
gone_in host link states.Idle greater = refl
gone_in host link states.AwaitOther greater = refl
gone_in host link (states.Dialing sock) greater = refl
gone_in host link (states.Up sock probed) greater = refl

-- of a socket that is gone nothing is read
gone_begins : (socket : Socket) (host : HostState) → begun (is_gone socket host) ≡ None
gone_begins socket host = by_user socket.user where
  by_names : (link : Link) (b : Bool) → begun (cond b (hears inputs.Gone link host) (leaves socket.number host)) ≡ None
  by_names link true = gone_in host link link.state (is_greater (own_address host link.end) link.peer)
  by_names link false = refl

  by_user : (o : Option (ℕ × Address)) → begun (elim o as (λ x. Stepped) [
    | None ↦ leaves socket.number host
    | Some user ↦ gone_from socket.number (link_with host user.0 user.1) host
  ]) ≡ None
  by_user None = refl
  by_user (Some user) = by_names (link_with host user.0 user.1) (names (link_with host user.0 user.1).state socket.number)

not_over : (stage : Stage) → is_open stage ≡ true → is_ended stage ≡ false
not_over Open e = refl
not_over Pending e = absurd cc
not_over Ended e = absurd cc

-- the item of which a host's turn tells that it is read
pub turn_reads : (host after : HostState) (n : ℕ) (rest : List Step) → IsSound host → host_next host ≡ Ok (Some (steps.Read n ∷ rest), after) → (item : Item) × StandsNext host n item
unfolding host_next
turn_reads host after n rest s e = by_first (first_ready host.sockets) refl e where
  steps_in : Result (Option (List Step) × HostState) Stop → Option ℕ
  steps_in (Ok next) = elim next.0 [
    | None ↦ None
    | Some steps ↦ begins steps
  ]
  steps_in (Err stop) = None

  some_begun : (done : Stepped) → steps_in (some_steps done) ≡ begun done
  some_begun (Ok done) = refl
  some_begun (Err stop) = refl

  read_begun : (sock : ℕ) (done : Stepped) → begun (after_steps (steps.Read sock ∷ []) done) ≡ Some n → sock ≡ n
  read_begun sock (Ok done) h = cc
  read_begun sock (Err stop) h = absurd cc

  by_front : (socket : Socket) → find (is_socket socket.number) host.sockets ≡ Some socket → is_open socket.stage ≡ true → (x : Front) → (front_of socket).0 ≡ x → begun (elim x as (λ x. Stepped) [
    | Unfinished ↦ still host
    | Refused error ↦ is_gone socket host
    | Whole item ↦ takes (record socket { since = drop (front_of socket).1 socket.since; expected = expected.Frame }) item host
  ]) ≡ Some n → (item : Item) × StandsNext host n item
  by_front socket found stands Unfinished f h = absurd cc
  by_front socket found stands (Refused error) f h = let no : ◌≡◌ {A = Option ℕ} None (Some n) = sym (gone_begins socket host) ∙ h in absurd cc
  by_front socket found stands (Whole item) f h =
      let taken : Socket = record socket { since = drop (front_of socket).1 socket.since; expected = expected.Frame } in
      let number : socket.number ≡ n = read_begun socket.number (reads taken item (with_socket taken host)) h in
      (item, record { known = socket; found = subst (λ (m : ℕ). find (is_socket m) host.sockets ≡ Some socket) number found; live = not_over socket.stage stands; front = f })

  by_first : (x : Option Socket) → first_ready host.sockets ≡ x → (elim x as (λ x. Result (Option (List Step) × HostState) Stop) [
    | None ↦ Ok (None, host)
    | Some socket ↦ some_steps (handles socket (front_of socket) host)
  ]) ≡ Ok (Some (steps.Read n ∷ rest), after) → (item : Item) × StandsNext host n item
  by_first None f e = let never : ◌≡◌ {A = Option ℕ} None (Some n) = ap steps_in e in absurd cc
  by_first (Some socket) f e =
      let at = served host.sockets socket s.apart f in
      by_front socket at.found (and_parts (is_open socket.stage) (is_ready_front (front_of socket).0) at.ready).0 (front_of socket).0 refl (sym (some_begun (handles socket (front_of socket) host)) ∙ ap steps_in e)
