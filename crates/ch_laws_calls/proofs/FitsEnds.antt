-- What is unread at an end still fits when items are read there and others are written.
use Rattle.std.proofs.Common.{◌≡◌, ℕ, Bool, true, false, cond, List, [], ◌++◌, refl, sym, ap, ◌∙◌, subst, append_assoc}
use Rattle.std.proofs.lemmas.Grind.{flat_map-append}
use Rattle.std.specs.Prelude.{find, slice_get, slice_set, Option, Some, None, is_some, ◌==◌}
use Rattle.ch_base.specs.declared.address.Address.{Address}
use Rattle.ch_wire.specs.Spelling.{IsRequest}
use Rattle.ch_wire.specs.declared.frame.Frame.{Frame}
use Rattle.ch_reader.specs.Items.{item_spelling, spellings, MayFollow, expected_after}
use Rattle.ch_reader.specs.declared.item.Expected.{Expected}
use Rattle.ch_reader.specs.declared.item.Item.{Item}
use Rattle.ch_model.specs.declared.line.Line.{Line}
use Rattle.ch_model.specs.declared.name.End.{End}
use Rattle.ch_model.specs.declared.name.End.TheVariants.{O, T}
use Rattle.ch_model.specs.declared.name.SockName.{SockName}
use Rattle.ch_model.specs.declared.step.Step.{Step}
use Rattle.ch_model.specs.HostState.{Socket, HostState}
use Rattle.ch_model.specs.HostSteps.{is_socket}
use Rattle.ch_model.specs.WorldSockets.{end_of, other, is_socket_named}
use Rattle.ch_model.specs.WorldState.{Cell, WorldSocket, World}
use Rattle.ch_laws_bytes.specs.Streams.{Reader, reader_in, reader_at, readers_of, due_in, dues_of, reads_at, writes_at, Fits, Spelled, Flows, AsksNothing, ToTarget, FromOpener, is_over, reader_of, due_of_end, MayAsk}
use Rattle.ch_laws_bytes.proofs.Event.{Flowing, set_at}
use Rattle.ch_laws_bytes.proofs.Lines.{own_of}
use Rattle.ch_laws_bytes.proofs.Reading.{flows_after}
use Rattle.ch_laws_bytes.proofs.Sockets.{flip}
use Rattle.ch_laws_calls.specs.Tables.{Table, frames_on}
use Rattle.ch_laws_log.proofs.Stored.{number_is}
use Rattle.ch_laws_reads.specs.Reads.{AreReadOf}
use Rattle.ch_laws_reads.proofs.Stays.{read_of_spelled}
use Rattle.ch_laws_writes.specs.Dues.{Due, Asking, Answering, Framing, due_at}
use Rattle.ch_laws_calls.specs.FitsFit.{created_at, final_at, final_there, start_there, final_for, start_for, frames_in, Leads, FitsIn, FitAt, MayAskWell}
use Rattle.ch_laws_calls.specs.FitsTurns.{bytes_at, IsKind, ReaderGoes, LeadsOn, WriterGoes, Carries}
use Rattle.ch_laws_calls.proofs.FitsFrames.{frames_after, frames_append, in_append, follow, spelled_once}
use Rattle.ch_laws_calls.proofs.FitsSockets.{bytes_for}
use Rattle.ch_laws_calls.proofs.FitsStores.{none_kind}

-- ---- one end

kind_follows : (own : ℕ → Address) (due : Option Due) (e : Expected) (said : List Item) → IsKind own due said → MayAsk own due → Fits e due → MayFollow e said
kind_follows own None e said k m f = subst (λ (l : List Item). MayFollow e l) (sym k) tt
kind_follows own (Some (Asking end peer)) e said k m f = subst (λ (x : Expected). MayFollow x said) (sym f) (k (m end peer refl))
kind_follows own (Some Answering) e said k m f = subst (λ (x : Expected). MayFollow x said) (sym f) k
kind_follows own (Some Framing) e said k m f = subst (λ (x : Expected). MayFollow x said) (sym f) k

leads_on : (final after now : Option Table) (frames : List Frame) → Leads final now → LeadsOn final frames after → Leads after (frames_after frames now)
leads_on (Some final) (Some after) now frames l on = ap (frames_after frames) l ∙ on
leads_on (Some final) None now frames l on = ap (λ (o : Option Table). is_some (frames_after frames o)) l ∙ on
leads_on None (Some after) now frames l on = absurd on
leads_on None None None frames l on = absurd cc
leads_on None None (Some table) frames l on = ap (λ (f : List Frame). is_some (frames_on f table)) on

goes_fit : (own : ℕ → Address) (due : Option Due) (reader now : Reader) (unread bytes : List ℕ) (start next : Table) (final after : Option Table) → Spelled reader unread due → MayAsk own due → FitsIn reader unread start final → ReaderGoes (Some reader) start (Some now) next → WriterGoes own due final bytes after → FitsIn now (unread ++ bytes) next after
goes_fit own due reader now unread bytes start next final after s may fits r w all whole each = subst (λ (l : List Item). Leads after (frames_on (frames_in l) next)) (sym same) (subst (Leads after) (sym frames) (leads_on final after (frames_on (frames_in left.items) next) (frames_in w.said) led w.leads)) where
  of : AreReadOf s.items r.0 now.0 now.1 unread
  of = read_of_spelled reader.0 now.0 reader.1 now.1 unread s.items r.0 s.whole s.each r.1

  left : Spelled now unread due
  left = flows_after (Some reader) (Some now) false unread due (r.0, r.1) s

  rest_is : of.rest ≡ left.items
  rest_is = spelled_once now.0 of.rest left.items of.each left.each (sym of.whole ∙ left.whole)

  mine_follow : MayFollow now.0 (left.items ++ w.said)
  mine_follow = follow now.0 left.items w.said left.each (kind_follows own due (expected_after now.0 left.items) w.said w.kind may left.next)

  mine_whole : now.1 ++ (unread ++ bytes) ≡ spellings (left.items ++ w.said)
  mine_whole = sym (append_assoc now.1 unread bytes) ∙ ap (λ (l : List ℕ). l ++ bytes) left.whole ∙ ap (λ (l : List ℕ). spellings left.items ++ l) w.spelled ∙ sym (flat_map-append item_spelling left.items w.said)

  same : all ≡ left.items ++ w.said
  same = spelled_once now.0 all (left.items ++ w.said) each mine_follow (sym whole ∙ mine_whole)

  frames : frames_on (frames_in (left.items ++ w.said)) next ≡ frames_after (frames_in w.said) (frames_on (frames_in left.items) next)
  frames = ap (λ (l : List Frame). frames_on l next) (in_append left.items w.said) ∙ frames_append (frames_in left.items) (frames_in w.said) next

  led : Leads final (frames_on (frames_in left.items) next)
  led = subst (Leads final) (ap (λ (l : List Item). frames_on (frames_in l) start) (of.split ∙ ap (λ (l : List Item). r.0 ++ l) rest_is) ∙ ap (λ (l : List Frame). frames_on l start) (in_append r.0 left.items) ∙ frames_append (frames_in r.0) (frames_in left.items) start ∙ ap (frames_after (frames_in left.items)) r.2) (fits s.items s.whole s.each)

-- whoever reads there, and whether it is over
pub goes_at : (own : ℕ → Address) (due : Option Due) (reader now : Option Reader) (over ends : Bool) (unread bytes left : List ℕ) (start next : Table) (final after : Option Table) → (ends ≡ false → over ≡ false) → (ends ≡ false → left ≡ unread ++ bytes) → Flows reader over unread due → MayAsk own due → FitAt reader over unread start final
    → ReaderGoes reader start now next → WriterGoes own due final bytes after → FitAt now ends left next after
goes_at own due reader None over ends unread bytes left start next final after lives is f m fit r w = tt
goes_at own due reader (Some now) over true unread bytes left start next final after lives is f m fit r w = tt
goes_at own due None (Some now) over false unread bytes left start next final after lives is f m fit r w = absurd r
goes_at own due (Some reader) (Some now) true false unread bytes left start next final after lives is f m fit r w = let no : true ≡ false = lives refl in absurd cc
goes_at own due (Some reader) (Some now) false false unread bytes left start next final after lives is f m fit r w = subst (λ (l : List ℕ). FitsIn now l next after) (sym (is refl)) (goes_fit own due reader now unread bytes start next final after f m fit r w)

-- ---- how it flows there

-- the addresses of the host of an end
abbrev pub own_by : List Line → Option ℕ → ℕ → Address
own_by journal None = own_of journal 0
own_by journal (Some place) = own_of journal place

pub record FlowsThere (journal : List Line) (world : World) (socket : WorldSocket) (e : End) : Type 0 where
  pub flows : Flows (reader_of world socket e) (is_over (end_of e socket)) (end_of e socket).unread (due_of_end world socket (other e))
  pub may : MayAsk (own_by journal (end_of (other e) socket).cell) (due_of_end world socket (other e))

pub flows_there : (journal : List Line) (world : World) (s : SockName) (socket : WorldSocket) (e : End) → Flowing (own_of journal) world → find (is_socket_named s) world.sockets ≡ Some socket → MayAskWell journal world socket → FlowsThere journal world socket e
flows_there journal world s socket O f found may = record { flows = (f.flow s socket found).opener.flows; may = λ end peer e. nothing (due_of_end world socket T) (f.flow s socket found).opener.answers end peer e } where
  nothing : (due : Option Due) → AsksNothing due → (end : ℕ) (peer : Address) → due ≡ Some (Asking end peer) → IsRequest (record { target = peer.id; from = own_by journal socket.t.cell end })
  nothing due a end peer e = let no : AsksNothing (Some (Asking end peer)) = subst AsksNothing e a in absurd no
flows_there journal world s socket T f found may = record {
  flows = to.flows (may.may to.asker to.asked to.from to.to);
  may = λ end peer e. subst (λ (c : Option ℕ). IsRequest (record { target = peer.id; from = own_by journal c end })) (sym may.cell)
      (let asks = to.asks end peer e in subst (λ (a : Address). IsRequest (record { target = a.id; from = own_of journal may.place end })) (sym asks.1) (subst (λ (n : ℕ). IsRequest (record { target = to.asked.id; from = own_of journal may.place n })) (sym asks.0) (may.may to.asker to.asked to.from to.to)));
} where
  to : ToTarget (own_of journal may.place) world.names socket.name (reader_of world socket T) (is_over socket.t) socket.t.unread (due_of_end world socket O)
  to = subst (λ (c : Option ℕ). FromOpener (own_of journal) world.names socket.name c (reader_of world socket T) (is_over socket.t) socket.t.unread (due_of_end world socket O)) may.cell (f.flow s socket found).target

-- ---- readers and writers

reader_rests : (reader : Option Reader) (start : Table) → ReaderGoes reader start reader start
reader_rests None start = tt
reader_rests (Some reader) start = ([], (refl, refl), refl)

writer_rests : (own : ℕ → Address) (due : Option Due) (final : Option Table) → WriterGoes own due final [] final
writer_rests own due final = record { said = []; spelled = refl; kind = none_kind own due; leads = led final } where
  led : (final : Option Table) → LeadsOn final [] final
  led None = refl
  led (Some final) = refl

-- an end of the host has a record there
abbrev pub IsKept : ℕ → HostState → Option ℕ → Option ℕ → Type 0
IsKept place host cell number = (n : ℕ) → cell ≡ Some place → number ≡ Some n → (known : Socket) × (find (is_socket n) host.sockets ≡ Some known)

pub reader_goes : (own : ℕ → Address) (cells : List (Cell × ℕ)) (place : ℕ) (cell now : Cell × ℕ) (told : List Step) (first : Expected) (c m : Option ℕ) → slice_get cells place ≡ Some cell → Carries own cell.0.host told now.0.host → IsKept place cell.0.host c m
    → ReaderGoes (reads_at (readers_of cells) first c m) (start_for cells c m) (reads_at (readers_of (slice_set cells place now)) first c m) (start_for (slice_set cells place now) c m)
reader_goes own cells place cell now told first None m at k kept = tt
reader_goes own cells place cell now told first (Some p) None at k kept = ([], (refl, refl), refl)
reader_goes own cells place cell now told first (Some p) (Some n) at k kept = subst Goes (sym (set_at cells place cell now p at)) (by_test (place == p) refl) where
  Goes : Option (Cell × ℕ) → Type 0
  Goes o = ReaderGoes (reader_at (slice_get cells p) n) (start_there (slice_get cells p) n) (reader_at o n) (start_there o n)

  by_test : (b : Bool) → (place == p) ≡ b → Goes (cond b (Some now) (slice_get cells p))
  by_test true h =
      let here : place ≡ p = number_is place p h in
      let known = kept n (ap Some (sym here)) refl in
      let was : slice_get cells p ≡ Some cell = ap (slice_get cells) (sym here) ∙ at in
      subst (λ (o : Option (Cell × ℕ)). ReaderGoes (reader_at o n) (start_there o n) (reader_in (find (is_socket n) now.0.host.sockets)) (created_at now.0.host n)) (sym was)
      (subst (λ (o : Option Socket). ReaderGoes (reader_in o) (created_at cell.0.host n) (reader_in (find (is_socket n) now.0.host.sockets)) (created_at now.0.host n)) (sym known.1) (k.reads n known.0 known.1))
  by_test false h = reader_rests (reader_at (slice_get cells p) n) (start_there (slice_get cells p) n)

pub writer_goes : (journal : List Line) (cells : List (Cell × ℕ)) (place : ℕ) (cell now : Cell × ℕ) (told : List Step) (c m : Option ℕ) → slice_get cells place ≡ Some cell → Carries (own_of journal place) cell.0.host told now.0.host → IsKept place cell.0.host c m
    → WriterGoes (own_by journal c) (writes_at (dues_of cells) c m) (final_for cells c m) (bytes_for place told c m) (final_for (slice_set cells place now) c m)
writer_goes journal cells place cell now told None m at k kept = writer_rests (own_by journal None) None None
writer_goes journal cells place cell now told (Some p) None at k kept = writer_rests (own_of journal p) (Some Answering) (Some [])
writer_goes journal cells place cell now told (Some p) (Some n) at k kept = subst (λ (o : Option (Cell × ℕ)). WriterGoes (own_of journal p) (due_in (slice_get cells p) n) (final_there (slice_get cells p) n) (cond (p == place) (bytes_at n told) []) (final_there o n)) (sym (set_at cells place cell now p at))
    (subst (λ (b : Bool). WriterGoes (own_of journal p) (due_in (slice_get cells p) n) (final_there (slice_get cells p) n) (cond b (bytes_at n told) []) (final_there (cond (place == p) (Some now) (slice_get cells p)) n)) (flip place p) (by_test (place == p) refl))
  where
    by_test : (b : Bool) → (place == p) ≡ b → WriterGoes (own_of journal p) (due_in (slice_get cells p) n) (final_there (slice_get cells p) n) (cond b (bytes_at n told) []) (final_there (cond b (Some now) (slice_get cells p)) n)
    by_test true h =
        let here : place ≡ p = number_is place p h in
        let known = kept n (ap Some (sym here)) refl in
        let was : slice_get cells p ≡ Some cell = ap (slice_get cells) (sym here) ∙ at in
        subst (λ (o : Option (Cell × ℕ)). WriterGoes (own_of journal p) (due_in o n) (final_there o n) (bytes_at n told) (final_at now.0.host n)) (sym was)
        (subst (λ (q : ℕ). WriterGoes (own_of journal q) (due_at cell.0.host n) (final_at cell.0.host n) (bytes_at n told) (final_at now.0.host n)) here (k.writes n known.0 known.1))
    by_test false h = writer_rests (own_of journal p) (due_in (slice_get cells p) n) (final_there (slice_get cells p) n)
