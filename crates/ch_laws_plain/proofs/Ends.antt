-- What is unread at an end is still a plain stream when items are read there and others are written.
use Rattle.std.proofs.Common.{◌≡◌, ℕ, Bool, true, false, cond, List, [], ◌++◌, refl, sym, ap, ◌∙◌, subst, append_assoc}
use Rattle.std.proofs.lemmas.Grind.{flat_map-append}
use Rattle.std.specs.Prelude.{find, slice_get, slice_set, Option, Some, None, ◌==◌}
use Rattle.ch_base.specs.declared.address.Address.{Address}
use Rattle.ch_wire.specs.declared.frame.Frame.{Frame}
use Rattle.ch_reader.specs.Items.{item_spelling, spellings, MayFollow, expected_after}
use Rattle.ch_reader.specs.declared.item.Expected.{Expected}
use Rattle.ch_reader.specs.declared.item.Item.{Item}
use Rattle.ch_model.specs.declared.entry.Entry.{Entry}
use Rattle.ch_model.specs.declared.line.Line.{Line}
use Rattle.ch_model.specs.declared.name.End.{End}
use Rattle.ch_model.specs.declared.name.End.TheVariants.{O}
use Rattle.ch_model.specs.declared.name.SockName.{SockName}
use Rattle.ch_model.specs.declared.step.Step.{Step}
use Rattle.ch_model.specs.HostState.{Socket}
use Rattle.ch_model.specs.HostSteps.{is_socket}
use Rattle.ch_model.specs.WorldSockets.{end_of, other}
use Rattle.ch_model.specs.WorldState.{Cell, WorldSocket, World}
use Rattle.ch_laws_bytes.specs.Streams.{Reader, reader_in, reader_at, readers_of, due_in, dues_of, reads_at, writes_at, first_at, Fits, Spelled, Flows, is_over, reader_of, due_of_end, MayAsk}
use Rattle.ch_laws_bytes.proofs.Event.{Flowing, set_at}
use Rattle.ch_laws_bytes.proofs.Lines.{own_of}
use Rattle.ch_laws_bytes.proofs.Reading.{flows_after}
use Rattle.ch_laws_bytes.proofs.Sockets.{flip}
use Rattle.ch_laws_ends.proofs.Told.{Sure}
use Rattle.ch_laws_log.proofs.Stored.{number_is}
use Rattle.ch_laws_reads.specs.Reads.{AreReadOf}
use Rattle.ch_laws_reads.proofs.Stays.{read_of_spelled}
use Rattle.ch_laws_writes.specs.Dues.{Due, Asking, Answering, Framing, due_at}
use Rattle.ch_laws_calls.specs.FitsFit.{frames_in, MayAskWell}
use Rattle.ch_laws_calls.specs.FitsTurns.{bytes_at, IsKind}
use Rattle.ch_laws_calls.proofs.FitsEnds.{own_by, FlowsThere, flows_there, IsKept}
use Rattle.ch_laws_calls.proofs.FitsFrames.{in_append, follow, spelled_once}
use Rattle.ch_laws_calls.proofs.FitsSockets.{bytes_for, bytes_of, WasThere}
use Rattle.ch_laws_calls.proofs.FitsStores.{none_kind}
use Rattle.ch_laws_calls.proofs.FitsTold.{end_kept, asked_before}
use Rattle.ch_laws_plain.specs.Streams.{PlainOn}
use Rattle.ch_laws_plain.specs.Plain.{pending_at, pending_there, pending_of, PlainIn, PlainAt, EndIsPlain, WorldIsPlain}
use Rattle.ch_laws_plain.specs.Turns.{ReaderPlain, WriterPlain, CellCarries}
use Rattle.ch_laws_plain.proofs.Streams.{plain_append}

-- ---- one end

kind_follows : (own : ℕ → Address) (due : Option Due) (e : Expected) (said : List Item) → IsKind own due said → MayAsk own due → Fits e due → MayFollow e said
kind_follows own None e said k m f = subst (λ (l : List Item). MayFollow e l) (sym k) tt
kind_follows own (Some (Asking end peer)) e said k m f = subst (λ (x : Expected). MayFollow x said) (sym f) (k (m end peer refl))
kind_follows own (Some Answering) e said k m f = subst (λ (x : Expected). MayFollow x said) (sym f) k
kind_follows own (Some Framing) e said k m f = subst (λ (x : Expected). MayFollow x said) (sym f) k

plain_in : (own : ℕ → Address) (due : Option Due) (reader now : Reader) (unread bytes : List ℕ) (pending next : Option ℕ) → Spelled reader unread due → MayAsk own due → PlainIn reader unread pending → ReaderPlain (Some reader) pending (Some now) next → WriterPlain own due bytes → PlainIn now (unread ++ bytes) next
plain_in own due reader now unread bytes pending next s may plain r w all whole each = subst (λ (l : List Item). PlainOn next (frames_in l) None) (sym same) (subst (λ (l : List Frame). PlainOn next l None) (sym (in_append left.items w.said)) (plain_append (frames_in left.items) (frames_in w.said) next None None led w.stream)) where
  of : AreReadOf s.items r.0 now.0 now.1 unread
  of = read_of_spelled reader.0 now.0 reader.1 now.1 unread s.items r.0 s.whole s.each r.1

  left : Spelled now unread due
  left = flows_after (Some reader) (Some now) false unread due (r.0, r.1) s

  rest_is : of.rest ≡ left.items
  rest_is = spelled_once now.0 of.rest left.items of.each left.each (sym of.whole ∙ left.whole)

  mine_follow : MayFollow now.0 (left.items ++ w.said)
  mine_follow = follow now.0 left.items w.said left.each (kind_follows own due (expected_after now.0 left.items) w.said w.kind may left.next)

  mine_whole : now.1 ++ (unread ++ bytes) ≡ spellings (left.items ++ w.said)
  mine_whole = sym (append_assoc now.1 unread bytes) ∙ ap (λ (l : List ℕ). l ++ bytes) left.whole ∙ ap (λ (l : List ℕ). spellings left.items ++ l) w.spelled ∙ sym (flat_map-append item_spelling left.items w.said)

  same : all ≡ left.items ++ w.said
  same = spelled_once now.0 all (left.items ++ w.said) each mine_follow (sym whole ∙ mine_whole)

  led : PlainOn next (frames_in left.items) None
  led = r.2 (frames_in left.items) (subst (λ (l : List Frame). PlainOn pending l None) (ap frames_in (of.split ∙ ap (λ (l : List Item). r.0 ++ l) rest_is) ∙ in_append r.0 left.items) (plain s.items s.whole s.each))

-- whoever reads there, and whether it is over
pub plain_at : (own : ℕ → Address) (due : Option Due) (reader now : Option Reader) (over ends : Bool) (unread bytes left : List ℕ) (pending next : Option ℕ) → (ends ≡ false → over ≡ false) → (ends ≡ false → left ≡ unread ++ bytes) → Flows reader over unread due → MayAsk own due → PlainAt reader over unread pending
    → ReaderPlain reader pending now next → WriterPlain own due bytes → PlainAt now ends left next
plain_at own due reader None over ends unread bytes left pending next lives is f m p r w = tt
plain_at own due reader (Some now) over true unread bytes left pending next lives is f m p r w = tt
plain_at own due None (Some now) over false unread bytes left pending next lives is f m p r w = absurd r
plain_at own due (Some reader) (Some now) true false unread bytes left pending next lives is f m p r w = let no : true ≡ false = lives refl in absurd cc
plain_at own due (Some reader) (Some now) false false unread bytes left pending next lives is f m p r w = subst (λ (l : List ℕ). PlainIn now l next) (sym (is refl)) (plain_in own due reader now unread bytes pending next f m p r w)

-- ---- readers and writers of a world

reader_rests : (reader : Option Reader) (pending : Option ℕ) → ReaderPlain reader pending reader pending
reader_rests None pending = tt
reader_rests (Some reader) pending = ([], (refl, refl), λ more p. p)

writer_rests : (own : ℕ → Address) (due : Option Due) → WriterPlain own due []
writer_rests own due = record { said = []; spelled = refl; kind = none_kind own due; stream = refl }

reader_plain : (own : ℕ → Address) (cells : List (Cell × ℕ)) (place : ℕ) (cell now : Cell × ℕ) (told : List Step) (first : Expected) (c m : Option ℕ) → slice_get cells place ≡ Some cell → CellCarries own cell.0 told now.0 → IsKept place cell.0.host c m
    → ReaderPlain (reads_at (readers_of cells) first c m) (pending_of cells c m) (reads_at (readers_of (slice_set cells place now)) first c m) (pending_of (slice_set cells place now) c m)
reader_plain own cells place cell now told first None m at k kept = tt
reader_plain own cells place cell now told first (Some p) None at k kept = ([], (refl, refl), λ more q. q)
reader_plain own cells place cell now told first (Some p) (Some n) at k kept = subst Goes (sym (set_at cells place cell now p at)) (by_test (place == p) refl) where
  Goes : Option (Cell × ℕ) → Type 0
  Goes o = ReaderPlain (reader_at (slice_get cells p) n) (pending_there (slice_get cells p) n) (reader_at o n) (pending_there o n)

  by_test : (b : Bool) → (place == p) ≡ b → Goes (cond b (Some now) (slice_get cells p))
  by_test true h =
      let here : place ≡ p = number_is place p h in
      let known = kept n (ap Some (sym here)) refl in
      let was : slice_get cells p ≡ Some cell = ap (slice_get cells) (sym here) ∙ at in
      subst (λ (o : Option (Cell × ℕ)). ReaderPlain (reader_at o n) (pending_there o n) (reader_in (find (is_socket n) now.0.host.sockets)) (pending_at now.0 n)) (sym was)
      (subst (λ (o : Option Socket). ReaderPlain (reader_in o) (pending_at cell.0 n) (reader_in (find (is_socket n) now.0.host.sockets)) (pending_at now.0 n)) (sym known.1) (k.reads n known.0 known.1))
  by_test false h = reader_rests (reader_at (slice_get cells p) n) (pending_there (slice_get cells p) n)

writer_plain : (journal : List Line) (cells : List (Cell × ℕ)) (place : ℕ) (cell now : Cell × ℕ) (told : List Step) (c m : Option ℕ) → slice_get cells place ≡ Some cell → CellCarries (own_of journal place) cell.0 told now.0 → IsKept place cell.0.host c m
    → WriterPlain (own_by journal c) (writes_at (dues_of cells) c m) (bytes_for place told c m)
writer_plain journal cells place cell now told None m at k kept = writer_rests (own_by journal None) None
writer_plain journal cells place cell now told (Some p) None at k kept = writer_rests (own_of journal p) (Some Answering)
writer_plain journal cells place cell now told (Some p) (Some n) at k kept = subst (λ (b : Bool). WriterPlain (own_of journal p) (due_in (slice_get cells p) n) (cond b (bytes_at n told) [])) (flip place p) (by_test (place == p) refl) where
  by_test : (b : Bool) → (place == p) ≡ b → WriterPlain (own_of journal p) (due_in (slice_get cells p) n) (cond b (bytes_at n told) [])
  by_test true h =
      let here : place ≡ p = number_is place p h in
      let known = kept n (ap Some (sym here)) refl in
      let was : slice_get cells p ≡ Some cell = ap (slice_get cells) (sym here) ∙ at in
      subst (λ (o : Option (Cell × ℕ)). WriterPlain (own_of journal p) (due_in o n) (bytes_at n told)) (sym was) (subst (λ (q : ℕ). WriterPlain (own_of journal q) (due_at cell.0.host n) (bytes_at n told)) here (k.writes n known.0 known.1))
  by_test false h = writer_rests (own_of journal p) (due_in (slice_get cells p) n)

-- ---- a socket that was there

-- What is unread at an end that was there is a plain stream still, where its cell has carried that on.
pub there_plain : (journal : List Line) (log : List Entry) (world after : World) (place : ℕ) (cell now : Cell × ℕ) (told : List Step) → Sure journal log world → Flowing (own_of journal) world → WorldIsPlain journal world → slice_get world.cells place ≡ Some cell → after.cells ≡ slice_set world.cells place now → after.names ≡ world.names
    → CellCarries (own_of journal place) cell.0 told now.0 → (s : SockName) (socket : WorldSocket) (e : End) → WasThere place told world s socket → MayAskWell journal after socket → EndIsPlain after socket e
there_plain journal log world after place cell now told sure flowing plain at cells names carries s socket e was may =
    plain_at (own_by journal (end_of (other e) was.before).cell) (due_of_end world was.before (other e)) (reader_of world was.before e) (reader_of after socket e) (is_over (end_of e was.before)) (is_over (end_of e socket)) (end_of e was.before).unread (bytes_of place told (end_of (other e) was.before)) (end_of e socket).unread
    (pending_of world.cells (end_of e was.before).cell (end_of e was.before).number) (pending_of after.cells (end_of e socket).cell (end_of e socket).number) (was.goes.ends e).lives (was.goes.ends e).unread flows.flows flows.may (plain.ends s was.before e was.found may_before) reader
    (writer_plain journal world.cells place cell now told (end_of (other e) was.before).cell (end_of (other e) was.before).number at carries (kept (other e)))
  where
    may_before : MayAskWell journal world was.before
    may_before = asked_before journal world after was.before socket names was.goes.name (was.goes.ends O).cell may

    flows : FlowsThere journal world was.before e
    flows = flows_there journal world s was.before e flowing was.found may_before

    kept : (x : End) → IsKept place cell.0.host (end_of x was.before).cell (end_of x was.before).number
    kept x = end_kept journal log world s was.before x place cell sure was.found at

    Read : List (Cell × ℕ) → Option ℕ → Option ℕ → Type 0
    Read cs c m = ReaderPlain (reader_of world was.before e) (pending_of world.cells (end_of e was.before).cell (end_of e was.before).number) (reads_at (readers_of cs) (first_at e) c m) (pending_of cs c m)

    reader : Read after.cells (end_of e socket).cell (end_of e socket).number
    reader = subst (λ (cs : List (Cell × ℕ)). Read cs (end_of e socket).cell (end_of e socket).number) (sym cells) (subst (λ (c : Option ℕ). Read (slice_set world.cells place now) c (end_of e socket).number) (sym (was.goes.ends e).cell) (subst (λ (m : Option ℕ). Read (slice_set world.cells place now) (end_of e was.before).cell m) (sym (was.goes.ends e).number)
        (reader_plain (own_of journal place) world.cells place cell now told (first_at e) (end_of e was.before).cell (end_of e was.before).number at carries (kept e))))
