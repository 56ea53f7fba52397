-- What a process gets from another node, as a host reads an item, is the message that was said there.
use Rattle.std.proofs.Common.{◌≡◌, ◌⊎◌, inl, inr, ℕ, true, false, List, [], ◌∷◌, ◌++◌, Ok, sym, ap, ◌∙◌, subst}
use Rattle.std.specs.Prelude.{slice_get, Option, Some, Result}
use Rattle.ch_base.specs.declared.event.Event.{Event}
use Rattle.ch_base.specs.declared.event.Event.TheVariants as events
use Rattle.ch_ident.specs.declared.error.IdentError.{IdentError}
use Rattle.ch_ident.specs.declared.identifier.ProcessId.{ProcessId}
use Rattle.ch_ident.specs.declared.message.Message.{Message}
use Rattle.ch_ident.specs.Reading.{user_of}
use Rattle.ch_reader.specs.declared.item.Front.TheVariants.{Whole}
use Rattle.ch_reader.specs.declared.item.Item.TheVariants as items
use Rattle.ch_wire.specs.declared.frame.Frame.{Frame}
use Rattle.ch_wire.specs.declared.frame.Frame.TheVariants as frames
use Rattle.ch_model.specs.declared.entry.Entry.{Entry}
use Rattle.ch_model.specs.declared.entry.Entry.TheVariants as entries
use Rattle.ch_model.specs.declared.line.Line.{Line}
use Rattle.ch_model.specs.declared.local.LocalEntry.{LocalEntry}
use Rattle.ch_model.specs.declared.name.ProcName.{ProcName}
use Rattle.ch_model.specs.declared.name.TargetName.{TargetName}
use Rattle.ch_model.specs.declared.name.TargetName.TheVariants as names
use Rattle.ch_model.specs.declared.step.Step.{Step}
use Rattle.ch_model.specs.AccountsFrames.{payload_to}
use Rattle.ch_model.specs.CellSteps.{steps_on}
use Rattle.ch_model.specs.Host.{host_next, front_of, first_ready}
use Rattle.ch_model.specs.HostState.{Socket, HostState}
use Rattle.ch_model.specs.Mailboxes.{message_of}
use Rattle.ch_model.specs.Naming.{process_called}
use Rattle.ch_model.specs.WorldHappenings.{with_cell}
use Rattle.ch_model.specs.WorldState.{Cell, World}
use Rattle.ch_race.specs.Pair.{other}
use Rattle.ch_laws_bytes.proofs.Lines.{own_of}
use Rattle.ch_laws_calls.specs.Calls.{with_host}
use Rattle.ch_laws_plain.specs.ReadsReading.{posts_in}
use Rattle.ch_laws_calls.specs.Turns.{told_on}
use Rattle.ch_laws_peers.specs.Standing.{IsOfNodes}
use Rattle.ch_laws_peers.specs.Reads.{read_of}
use Rattle.ch_laws_messages.specs.WayReadingGoes.{OneRead, ReadingGoes}
use Rattle.ch_laws_messages.specs.GotReadingGoes.{KnownGot}
use Rattle.ch_laws_messages.proofs.GotHosts.{DoesAs, Brought, NextDoes, next_does}
use Rattle.ch_laws_messages.proofs.GotLists.{some_is}
use Rattle.ch_laws_messages.proofs.GotNodes.{user_again}
use Rattle.ch_laws_messages.proofs.GotTold.{is_receipt, NoGots, none_broke}
use Rattle.ch_laws_messages.specs.CarriedCounts.{carried_in}
use Rattle.ch_laws_messages.specs.MailSaid.{IsGotSo, GotsAreSaid}
use Rattle.ch_laws_messages.proofs.MailSayings.{saying_found}
use Rattle.ch_laws_messages.proofs.EnteredNext.{ItemNext, item_next}

-- ---- lists

-- one that is in a list of one is that
the_one : (before behind : List Entry) (x y : Entry) → before ++ x ∷ behind ≡ y ∷ [] → x ≡ y
the_one [] behind x y e = cc
the_one (z ∷ []) behind x y e = absurd cc
the_one (z ∷ w ∷ before) behind x y e = absurd cc

receipt_there : (before behind : List Entry) (x : Entry) → NoGots (before ++ x ∷ behind) → is_receipt x ≡ false
receipt_there [] behind x n = n.0
receipt_there (z ∷ before) behind x n = receipt_there before behind x n.1

-- what a receipt tells
pub record Same (p q r s : ProcName) (epoch index e k : ℕ) : Type 0 where
  pub from : p ≡ r
  pub to : q ≡ s
  pub epochs : epoch ≡ e
  pub indexes : index ≡ k

same_got : (p q r s : ProcName) (epoch index e k : ℕ) → entries.Got p (names.Process q) epoch index (Some q) ≡ entries.Got r (names.Process s) e k (Some s) → Same p q r s epoch index e k
same_got p q r s epoch index e k h = record { from = cc; to = cc; epochs = cc; indexes = cc }

-- ---- what was posted

same_payload : (end : ℕ) (conn : ℕ) (payload : List ℕ) (at : ℕ) (event : Event) (second : ℕ) (there : List ℕ) → ◌≡◌ {A = List (ℕ × Event)} ((end, events.Received conn payload) ∷ []) ((at, event) ∷ []) → event ≡ events.Received second there → payload ≡ there
same_payload end conn payload at event second there e f =
    let one : ◌≡◌ {A = Option (ℕ × Event)} (Some (end, events.Received conn payload)) (Some (at, event)) = ap (λ (l : List (ℕ × Event)). slice_get l 0) e in
    let two : ◌≡◌ {A = Event} (events.Received conn payload) (events.Received second there) = ap (λ (x : ℕ × Event). x.1) (some_is (end, events.Received conn payload) (at, event) one) ∙ f in
    cc

frame_is : (x y : Frame) → Whole (items.Frame x) ≡ Whole (items.Frame y) → x ≡ y
frame_is x y e = cc

ok_same : (m n : Message) → ◌≡◌ {A = Result Message IdentError} (Ok m) (Ok n) → m ≡ n
ok_same m n e = cc

-- ---- the turn

module _ (journal : List Line) (nodes : IsOfNodes journal) (log : List Entry) (world : World) (known : KnownGot journal log world) (place : ℕ) (cell : Cell × ℕ) (done : List Step) (host : HostState) (told : List LocalEntry) (after : Cell) (at : slice_get world.cells place ≡ Some cell) (ran : steps_on done (with_host cell host) ≡ Ok (told, after))
    (reading : OneRead journal place cell log world (log ++ (told_on place cell after told world).0) (told_on place cell after told world).1) (then_known : KnownGot journal (log ++ (told_on place cell after told world).0) (told_on place cell after told world).1) (read : host_next cell.0.host ≡ Ok (Some done, host)) where
  abbrev final : List Entry × World
  final = told_on place cell after told world

  abbrev Gets : Type 0
  Gets = ItemNext journal nodes log world known place cell done host told after at ran reading then_known

  module _ (from to : ProcessId) (message : Message) (epoch index : ℕ) (so : IsGotSo world cell done final.0 from to message epoch index) (i : Gets) where
    abbrev entry : Entry
    entry = entries.Got (process_called world.names from) (names.Process (process_called world.names to)) epoch index (Some (process_called world.names to))

    same : Same (process_called world.names from) (process_called world.names to) (process_called world.names i.from) (process_called world.names i.to) epoch index i.epoch i.index
    same = same_got (process_called world.names from) (process_called world.names to) (process_called world.names i.from) (process_called world.names i.to) epoch index i.epoch i.index
        (the_one so.before so.behind entry (entries.Got (process_called world.names i.from) (names.Process (process_called world.names i.to)) i.epoch i.index (Some (process_called world.names i.to))) (sym so.so_told ∙ i.told_is))

    -- the payload that was posted is that of the frame
    payload_is : so.payload ≡ i.so.payload
    payload_is = by_done (next_does (own_of journal place) cell.0.host host done (known.0.0.0.all.sound.links.naming place cell at).naming (known.0.0.0.all.sound.ends.flowing.orderly place cell at) (known.0.0.0.plain.cells place cell at).host read) where
      by_calm : posts_in done ≡ [] → so.payload ≡ i.so.payload
      by_calm none = let clash : ◌≡◌ {A = List (ℕ × Event)} ((so.end, events.Received so.conn so.payload) ∷ []) [] = sym so.posted ∙ none in absurd cc

      by_brought : (socket : Socket) → first_ready cell.0.host.sockets ≡ Some socket → Brought cell.0.host socket done host → so.payload ≡ i.so.payload
      by_brought socket ready b = by_does (subst (λ (f : Frame). DoesAs cell.0.host host b.end b.peer f b.event) frame b.does) where
        its_socket : socket ≡ i.so.reads_next.known
        its_socket = some_is socket i.so.reads_next.known (sym ready ∙ i.so.reads_next.ready)

        frame : b.frame ≡ frames.Data i.so.id i.so.payload
        frame = frame_is b.frame (frames.Data i.so.id i.so.payload) (sym b.front ∙ ap (λ (s : Socket). (front_of s).0) its_socket ∙ i.so.reads_next.front)

        by_does : DoesAs cell.0.host host b.end b.peer (frames.Data i.so.id i.so.payload) b.event → so.payload ≡ i.so.payload
        by_does d = same_payload so.end so.conn so.payload b.end b.event d.0 i.so.payload (sym so.posted ∙ ap posts_in b.told_is) d.3

      by_done : NextDoes cell.0.host done host → so.payload ≡ i.so.payload
      by_done (inl c) = by_calm c.0.posted
      by_done (inr (inl b)) = by_brought b.0 b.1 b.2
      by_done (inr (inr broke)) = none_broke place done (with_host cell host) told after after log (with_cell place (after, cell.1) world) broke ran then_known.0.0.0.kinds

    -- it is read as what was said
    abbrev said : Message
    said = record { mark = i.so.s.mark; body = i.so.s.body }

    message_is : said ≡ message
    message_is = ok_same said message (sym (user_again said i.so.marked) ∙ ap (λ (t : TargetName). user_of (payload_to t i.so.s.mark i.so.s.body)) (sym i.so.to_is) ∙ ap user_of (sym i.so.carries.payload) ∙ ap user_of (sym payload_is) ∙ so.read)

    found : message_of log i.so.s.by (names.Process (process_called world.names i.to)) i.so.s.epoch i.so.s.index ≡ Some said
    found = saying_found (i.party i.x).name (i.party (other i.x)).name log (carried_in [] (read_of i.party world i.x log)) i.so.s (process_called world.names i.to) i.so.at i.so.to_is known.0.1.numbered.indexes

    its_message : message_of log (process_called world.names from) (names.Process (process_called world.names to)) epoch index ≡ Some message
    its_message =
        ap (λ (r : ProcName). message_of log r (names.Process (process_called world.names to)) epoch index) (same.from ∙ sym i.so.by_is) ∙ ap (λ (r : ProcName). message_of log i.so.s.by (names.Process r) epoch index) same.to
        ∙ ap (λ (k : ℕ). message_of log i.so.s.by (names.Process (process_called world.names i.to)) k index) (same.epochs ∙ sym i.so.epoch_is) ∙ ap (λ (k : ℕ). message_of log i.so.s.by (names.Process (process_called world.names i.to)) i.so.s.epoch k) (same.indexes ∙ sym i.so.index_is)
        ∙ found ∙ ap (λ (m : Message). Some m) message_is

  pub item_said : (from to : ProcessId) (message : Message) (epoch index : ℕ) → IsGotSo world cell done final.0 from to message epoch index → message_of log (process_called world.names from) (names.Process (process_called world.names to)) epoch index ≡ Some message
  item_said from to message epoch index so = by_told (item_next journal nodes log world known place cell done host told after at ran reading then_known read) where
    by_told : NoGots final.0 ⊎ Gets → message_of log (process_called world.names from) (names.Process (process_called world.names to)) epoch index ≡ Some message
    by_told (inl n) = let none : true ≡ false = receipt_there so.before so.behind (entries.Got (process_called world.names from) (names.Process (process_called world.names to)) epoch index (Some (process_called world.names to))) (subst NoGots so.so_told n) in absurd cc
    by_told (inr i) = its_message from to message epoch index so i

pub gots_said : (journal : List Line) → IsOfNodes journal → ReadingGoes journal → GotsAreSaid (KnownGot journal) (KnownGot journal)
gots_said journal nodes reading = record {
  item = λ log world place cell steps host told after at e ran p q. record { said = item_said journal nodes log world p place cell steps host told after at ran (reading.item log world place cell steps host told after at e ran p.0.0 q.0.0) q e };
}
