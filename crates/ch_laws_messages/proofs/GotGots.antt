-- All that is got is got as it should be: kept in each turn, and what follows of it for the laws of receipts.
use Rattle.std.proofs.Common.{◌≡◌, ◌⊎◌, inl, inr, ℕ, Bool, true, false, not, ◌&&◌, ◌||◌, List, [], ◌∷◌, ◌++◌, length, map, Ok, Err, refl, sym, ap, ◌∙◌, subst}
use Rattle.std.specs.Prelude.{slice_get, count_by, Some, None, Result, ◌==◌}
use Rattle.std.specs.List.{list_any, list_all}
use Rattle.std.specs.Str.{bytes_eq}
use Rattle.std.proofs.lemmas.Bool.{and_parts}
use Rattle.std.proofs.lemmas.List.Sums.{fold-append}
use Rattle.std.proofs.lemmas.Slice.Eq.{bytes_eq-Decides}
use Rattle.ch_base.specs.declared.event.Room.{Room}
use Rattle.ch_ident.specs.declared.identifier.ProcessId.{ProcessId}
use Rattle.ch_ident.specs.declared.message.Message.{Message}
use Rattle.ch_ident.specs.declared.reason.Reason.TheVariants.{Normal}
use Rattle.ch_static.specs.declared.command.Command.{Command}
use Rattle.ch_static.specs.declared.command.Command.TheVariants as commands
use Rattle.ch_static.specs.declared.target.Target.TheVariants as targets
use Rattle.ch_model.specs.declared.act.Act.{Act}
use Rattle.ch_model.specs.declared.act.Act.TheVariants as acts
use Rattle.ch_model.specs.declared.entry.Entry.{Entry}
use Rattle.ch_model.specs.declared.entry.Entry.TheVariants as entries
use Rattle.ch_model.specs.declared.line.Line.{Line}
use Rattle.ch_model.specs.declared.local.LocalEntry.{LocalEntry}
use Rattle.ch_model.specs.declared.local.LocalEntry.TheVariants as local
use Rattle.ch_model.specs.declared.name.ProcName.{ProcName}
use Rattle.ch_model.specs.declared.name.TargetName.TheVariants as names
use Rattle.ch_model.specs.declared.note.Note.{Note}
use Rattle.ch_model.specs.declared.note.Note.TheVariants as notes
use Rattle.ch_model.specs.declared.step.EndError.{EndError}
use Rattle.ch_model.specs.declared.step.EndError.TheVariants as errors
use Rattle.ch_model.specs.declared.step.Step.{Step}
use Rattle.ch_model.specs.CellSteps.{Followed, after_entries, ◌then◌, asked, act_on, acts_on}
use Rattle.ch_model.specs.Delivery.{gets_in, may_receive, gets_the_said, gets_no_earlier, gets_by_receiver, gets_at_once}
use Rattle.ch_model.specs.Epochs.{says_in, says_it}
use Rattle.ch_model.specs.HostCalls.{host_connect, host_send, host_close}
use Rattle.ch_model.specs.HostState.{HostState}
use Rattle.ch_model.specs.Logs.{each, each_after, or_else, some_and, last_is}
use Rattle.ch_model.specs.Naming.{called, process_called}
use Rattle.ch_model.specs.Node.{node_command}
use Rattle.ch_model.specs.NodeIds.{process_id, is_here}
use Rattle.ch_model.specs.NodePairs.{conns_by}
use Rattle.ch_model.specs.NodeState.{NodeState, Mark, Unopened, Opened, Broken}
use Rattle.ch_model.specs.WorldState.{Cell, World}
use Rattle.ch_model.specs.WorldSteps.{all_told}
use Rattle.ch_model.specs.Same.{same_process}
use Rattle.ch_laws_lives.specs.Logs.{IsNow, IsAllowed, AreAllowed}
use Rattle.ch_laws_lives.proofs.LogLives.{is_simple, AreSimple, once_one}
use Rattle.ch_laws_lives.proofs.ToldLives.{allowed_both}
use Rattle.ch_laws_log.proofs.Keys.{node_is}
use Rattle.ch_laws_log.proofs.Stored.{number_same}
use Rattle.ch_laws_plain_logs.specs.Plain.{is_plain, IsPlain}
use Rattle.ch_laws_plain_logs.proofs.Absent.{all_unbroken}
use Rattle.ch_laws_plain_logs.proofs.InOrder.{epochs_in_order}
use Rattle.ch_laws_plain_nodes.specs.Does.{said_note, sent_acts, pair_between, got_acts}
use Rattle.ch_laws_plain_nodes.specs.Plain.{IsPlain as IsPlainNode, IsPlainCommand}
use Rattle.ch_laws_plain_nodes.proofs.Commands as plain
use Rattle.ch_laws_messages.specs.GotReceipts.{GotWell, AreGotWell, gets_the_next_between}
use Rattle.ch_laws_messages.specs.GotSaidWell.{SaidWell}
use Rattle.ch_laws_messages.proofs.GotHearing.{same_itself}
use Rattle.ch_laws_messages.proofs.GotNodes.{ok_is}
use Rattle.ch_laws_messages.proofs.GotLists.{clash}
use Rattle.ch_laws_messages.proofs.GotTold.{NoGots, NotesGetNone, none_tell, steps_none}
use Rattle.ch_laws_messages.proofs.GotTurn.{first_said}
use Rattle.ch_laws_messages.proofs.GotReceipts.{no_receipts, said_found, says_this}

-- ---- acts that get nothing

abbrev pub ActsGetNone : List Act → Type 0
ActsGetNone [] = Unit {0}
ActsGetNone (acts.Note (notes.Got from to receiver) ∷ rest) = ⊥
ActsGetNone (act ∷ rest) = ActsGetNone rest

told_both : (one two : List LocalEntry) → NotesGetNone one → NotesGetNone two → NotesGetNone (one ++ two)
told_both [] two h i = i
told_both (local.Step step ∷ one) two h i = told_both one two h i
told_both (local.Note note ∷ one) two h i = by_note note h (λ m. told_both one two m i) where
  by_note : (note : Note) → NotesGetNone (local.Note note ∷ one) → (NotesGetNone one → NotesGetNone (one ++ two)) → NotesGetNone (local.Note note ∷ one ++ two)
  by_note (notes.Got from to receiver) h more = absurd h
  by_note (notes.Made process origin) h more = more h
  by_note (notes.Said by to epoch index message) h more = more h
  by_note (notes.Again by to epoch) h more = more h
  by_note (notes.Took by port message) h more = more h
  by_note (notes.Port port) h more = more h
  by_note (notes.Over process reason) h more = more h
  by_note (notes.Doom process text) h more = more h
  by_note (notes.Watch watch by target kind) h more = more h
  by_note (notes.Unwatch watch) h more = more h
  by_note (notes.Absent watch) h more = more h
  by_note (notes.Told watch reason) h more = more h
  by_note (notes.Asked question by at) h more = more h
  by_note (notes.Spawned question process) h more = more h
  by_note (notes.IsAt question found) h more = more h
  by_note (notes.Named node name process) h more = more h
  by_note (notes.Shut node) h more = more h

abbrev AllNone : Followed → Type 0
AllNone (Ok done) = NotesGetNone done.0
AllNone (Err stop) = Unit {0}

asked_none : (cell : Cell) (r : Result (List Step × HostState) EndError) → AllNone (asked cell r)
asked_none cell (Ok done) = steps_none done.0
asked_none cell (Err errors.Worn) = tt
asked_none cell (Err errors.OutOfMemory) = tt
asked_none cell (Err errors.NoEndPoint) = tt
asked_none cell (Err errors.NoConnection) = tt
asked_none cell (Err errors.QueueFull) = tt
asked_none cell (Err errors.PayloadLong) = tt
asked_none cell (Err errors.Spent) = tt

then_none : (end : ℕ) (rest : List Act) (r : Followed) → AllNone r → ((cell : Cell) → AllNone (acts_on end rest cell)) → AllNone (r then acts_on end rest)
then_none end rest (Err stop) h more = tt
then_none end rest (Ok one) h more = by_rest (acts_on end rest one.1) (more one.1) where
  by_rest : (r : Followed) → AllNone r → AllNone (after_entries one.0 r)
  by_rest (Ok two) i = told_both one.0 two.0 h i
  by_rest (Err stop) i = tt

acts_none : (end : ℕ) (done : List Act) (cell : Cell) → ActsGetNone done → AllNone (acts_on end done cell)
acts_none end [] cell h = tt
acts_none end (acts.Open conn peer ∷ rest) cell h = then_none end rest (act_on end (acts.Open conn peer) cell) (asked_none cell (host_connect cell.host end peer conn)) (λ c. acts_none end rest c h)
acts_none end (acts.Put conn payload weight ∷ rest) cell h = then_none end rest (act_on end (acts.Put conn payload weight) cell) (asked_none cell (host_send cell.host end conn payload weight)) (λ c. acts_none end rest c h)
acts_none end (acts.Close conn ∷ rest) cell h = then_none end rest (act_on end (acts.Close conn) cell) (asked_none cell (host_close cell.host end conn)) (λ c. acts_none end rest c h)
acts_none end (acts.Note note ∷ rest) cell h = by_note note h (λ m c. acts_none end rest c m) where
  by_note : (note : Note) → ActsGetNone (acts.Note note ∷ rest) → (ActsGetNone rest → (c : Cell) → AllNone (acts_on end rest c)) → AllNone (acts_on end (acts.Note note ∷ rest) cell)
  by_note (notes.Got from to receiver) h more = absurd h
  by_note (notes.Made process origin) h more = then_none end rest (act_on end (acts.Note (notes.Made process origin)) cell) tt (more h)
  by_note (notes.Said by to epoch index message) h more = then_none end rest (act_on end (acts.Note (notes.Said by to epoch index message)) cell) tt (more h)
  by_note (notes.Again by to epoch) h more = then_none end rest (act_on end (acts.Note (notes.Again by to epoch)) cell) tt (more h)
  by_note (notes.Took by port message) h more = then_none end rest (act_on end (acts.Note (notes.Took by port message)) cell) tt (more h)
  by_note (notes.Port port) h more = then_none end rest (act_on end (acts.Note (notes.Port port)) cell) tt (more h)
  by_note (notes.Over process reason) h more = then_none end rest (act_on end (acts.Note (notes.Over process reason)) cell) tt (more h)
  by_note (notes.Doom process text) h more = then_none end rest (act_on end (acts.Note (notes.Doom process text)) cell) tt (more h)
  by_note (notes.Watch watch by target kind) h more = then_none end rest (act_on end (acts.Note (notes.Watch watch by target kind)) cell) tt (more h)
  by_note (notes.Unwatch watch) h more = then_none end rest (act_on end (acts.Note (notes.Unwatch watch)) cell) tt (more h)
  by_note (notes.Absent watch) h more = then_none end rest (act_on end (acts.Note (notes.Absent watch)) cell) tt (more h)
  by_note (notes.Told watch reason) h more = then_none end rest (act_on end (acts.Note (notes.Told watch reason)) cell) tt (more h)
  by_note (notes.Asked question by at) h more = then_none end rest (act_on end (acts.Note (notes.Asked question by at)) cell) tt (more h)
  by_note (notes.Spawned question process) h more = then_none end rest (act_on end (acts.Note (notes.Spawned question process)) cell) tt (more h)
  by_note (notes.IsAt question found) h more = then_none end rest (act_on end (acts.Note (notes.IsAt question found)) cell) tt (more h)
  by_note (notes.Named node name process) h more = then_none end rest (act_on end (acts.Note (notes.Named node name process)) cell) tt (more h)
  by_note (notes.Shut node) h more = then_none end rest (act_on end (acts.Note (notes.Shut node)) cell) tt (more h)

pub acts_silent : (place end : ℕ) (done : List Act) (cell : Cell) (told : List LocalEntry) (after at : Cell) (world : World) → ActsGetNone done → acts_on end done cell ≡ Ok (told, after) → NoGots (all_told place at told world).0
acts_silent place end done cell told after at world n e = none_tell place at told world (subst AllNone e (acts_none end done cell n))

pub acts_tell : (log : List Entry) (place end : ℕ) (done : List Act) (cell : Cell) (told : List LocalEntry) (after at : Cell) (world : World) → ActsGetNone done → acts_on end done cell ≡ Ok (told, after) → AreGotWell log (all_told place at told world).0
acts_tell log place end done cell told after at world n e = no_receipts log (all_told place at told world).0 (acts_silent place end done cell told after at world n e)

-- ---- what a command gets

pub sent_none : (node : NodeState) (by : ℕ) (to : ProcessId) (said : Message) (mark : Mark) → ActsGetNone (sent_acts node by to said mark)
sent_none node by to said Unopened = tt
sent_none node by to said (Opened conn) = tt
sent_none node by to said Broken = tt

pub closes_none : (conns : List ℕ) → ActsGetNone (map (λ conn. acts.Close conn) conns)
closes_none [] = tt
closes_none (conn ∷ rest) = closes_none rest

-- a message is said to a process of the same node, and got there
pub record SaidHome (node : NodeState) (done : List Act) : Type 0 where
  pub by : ℕ
  pub to : ProcessId
  pub here : node.own ≡ to.node
  pub epoch : ℕ
  pub index : ℕ
  pub said : Message
  pub is : done ≡ acts.Note (notes.Said (process_id node by) (targets.Process to) epoch index said) ∷ acts.Note (notes.Got (process_id node by) (targets.Process to) (Some to)) ∷ []

pub command_gets : (node next : NodeState) (by : ℕ) (command : Command) (room : Room) (done : List Act) → IsPlainNode node → IsPlainCommand command → node_command node by command room ≡ Ok (done, next) → ActsGetNone done ⊎ SaidHome node done
command_gets node next by (commands.Send (targets.Process to) said) room done p i e = by_here (is_here node to.node) refl where
  by_got : (b : Bool) → is_here node to.node ≡ true → done ≡ said_note node by to said ∷ got_acts b (process_id node by) to → ActsGetNone done ⊎ SaidHome node done
  by_got true h d = inr (record { by = by; to = to; here = sym (node_is to.node node.own h); epoch = (pair_between node by to).epoch; index = (pair_between node by to).index; said = said; is = d })
  by_got false h d = inl (subst ActsGetNone (sym d) tt)

  by_here : (b : Bool) → is_here node to.node ≡ b → ActsGetNone done ⊎ SaidHome node done
  by_here true h = let s = plain.does_home node next by to said room done h e in by_got s.is_got h s.did
  by_here false h = let s = plain.does_away node next by to said room done h e in inl (subst ActsGetNone (sym s.did) (sent_none node by to said (pair_between node by to).mark))
command_gets node next by (commands.Receive mark) room done p i e = inl (subst ActsGetNone (sym (plain.does_take node next by mark room done p e).did) tt)
command_gets node next by commands.End room done p i e = inl (subst ActsGetNone (sym (plain.does_end node next by room done p e).0.did) (closes_none (conns_by node.pairs by)))
command_gets node next by command room done p i e = absurd i

pub at_end : (log : List Entry) (x : Entry) (more : List Entry) → slice_get (log ++ x ∷ more) (length log) ≡ Some x
at_end [] x more = refl
at_end (y ∷ log) x more = at_end log x more

last_now : (test : Entry → Bool) (log : List Entry) (x : Entry) → test x ≡ true → last_is test (log ++ x ∷ []) ≡ true
last_now test log x h = ap (some_and test) (fold-append (λ found entry. or_else (Some entry) found) None log (x ∷ [])) ∙ h

-- within a node it was said directly before
pub home_well : (journal : List Line) (log : List Entry) (place end : ℕ) (node : NodeState) (done : List Act) (cell : Cell) (told : List LocalEntry) (after at : Cell) (world : World) → SaidHome node done → acts_on end done cell ≡ Ok (told, after) → IsPlain (log ++ (all_told place at told world).0) → SaidWell journal (log ++ (all_told place at told world).0) → AreGotWell log (all_told place at told world).0
home_well journal log place end node done cell told after at world h e kinds well = subst (λ (t : List LocalEntry). AreGotWell log (all_told place at t world).0) (sym is_told) (
  tt,
  (
    record {
      receives = refl;
      first = first;
      said = said_found p (names.Process q) h.epoch h.index (log ++ entry ∷ []) (length log) entry (at_end log entry []) it.0 it.1;
      at_once = ap (λ (b : Bool). not b || last_is (says_it p (names.Process q) h.epoch h.index) (log ++ entry ∷ [])) here ∙ last_now (says_it p (names.Process q) h.epoch h.index) log entry it.0;
      next = λ differ. clash (sym here ∙ differ);
    },
    tt,
  ),
) where
  p : ProcName
  p = process_called world.names (process_id node h.by)

  q : ProcName
  q = process_called world.names h.to

  entry : Entry
  entry = entries.Said (process_called world.names (process_id node h.by)) (names.Process (process_called world.names h.to)) h.epoch h.index h.said.mark h.said.body

  it : (says_it (process_called world.names (process_id node h.by)) (names.Process (process_called world.names h.to)) h.epoch h.index (entries.Said (process_called world.names (process_id node h.by)) (names.Process (process_called world.names h.to)) h.epoch h.index h.said.mark h.said.body) ≡ true)
      × (says_in (process_called world.names (process_id node h.by)) (names.Process (process_called world.names h.to)) h.epoch (entries.Said (process_called world.names (process_id node h.by)) (names.Process (process_called world.names h.to)) h.epoch h.index h.said.mark h.said.body) ≡ true)
  it = says_this (process_called world.names (process_id node h.by)) (process_called world.names h.to) h.epoch h.index h.said.mark h.said.body

  is_told : told ≡ local.Note (notes.Said (process_id node h.by) (targets.Process h.to) h.epoch h.index h.said) ∷ local.Note (notes.Got (process_id node h.by) (targets.Process h.to) (Some h.to)) ∷ []
  is_told = sym (ap (λ (x : List LocalEntry × Cell). x.0) (ok_is (local.Note (notes.Said (process_id node h.by) (targets.Process h.to) h.epoch h.index h.said) ∷ local.Note (notes.Got (process_id node h.by) (targets.Process h.to) (Some h.to)) ∷ [], cell) (told, after) (ap (λ (l : List Act). acts_on end l cell) (sym h.is) ∙ e)))

  here : bytes_eq (process_called world.names (process_id node h.by)).node (process_called world.names h.to).node ≡ true
  here = (bytes_eq-Decides (called world.names node.own) (called world.names h.to.node)).1 (ap (called world.names) h.here)

  entry_at : slice_get (log ++ (all_told place at told world).0) (length log) ≡ Some (entries.Said (process_called world.names (process_id node h.by)) (names.Process (process_called world.names h.to)) h.epoch h.index h.said.mark h.said.body)
  entry_at = ap (λ (t : List LocalEntry). slice_get (log ++ (all_told place at t world).0) (length log)) is_told ∙ at_end log (entries.Said (process_called world.names (process_id node h.by)) (names.Process (process_called world.names h.to)) h.epoch h.index h.said.mark h.said.body) (entries.Got (process_called world.names (process_id node h.by)) (names.Process (process_called world.names h.to)) h.epoch h.index (Some (process_called world.names h.to)) ∷ [])

  first : h.epoch ≡ 0
  first = first_said journal (log ++ (all_told place at told world).0) kinds well (length log) (process_called world.names (process_id node h.by)) (process_called world.names h.to) h.epoch h.index h.said.mark h.said.body entry_at

-- ---- what follows for a log

both_plain : (one two : List Entry) → list_all is_plain (one ++ two) ≡ true → list_all is_plain one ≡ true
both_plain [] two e = refl
both_plain (x ∷ one) two e = let parts = and_parts (is_plain x) (list_all is_plain (one ++ two)) e in ap (λ (b : Bool). b && list_all is_plain one) parts.0 ∙ both_plain one two parts.1

-- a test that is passed by what is got well
all_pass : (test : List Entry → Entry → Bool) → ((log : List Entry) (x : Entry) → IsPlain log → GotWell log x → test log x ≡ true) → (before log : List Entry) → IsPlain (before ++ log) → AreGotWell before log → each_after test before log ≡ true
all_pass test one before [] p w = refl
all_pass test one before (x ∷ log) p w = ap (λ (b : Bool). b && each_after test (before ++ x ∷ []) log) (one before x (both_plain before (x ∷ log) p) w.0) ∙ all_pass test one (before ++ x ∷ []) log (subst IsPlain (sym (assoc before)) p) w.1 where
  assoc : (xs : List Entry) → (xs ++ x ∷ []) ++ log ≡ xs ++ x ∷ log
  assoc [] = refl
  assoc (y ∷ xs) = ap (λ (l : List Entry). y ∷ l) (assoc xs)

pub said_before : (log : List Entry) → IsPlain log → AreGotWell [] log → each gets_the_said log ≡ true
said_before log p w = all_pass gets_the_said one [] log p w where
  one : (log : List Entry) (x : Entry) → IsPlain log → GotWell log x → gets_the_said log x ≡ true
  one log (entries.Got by (names.Process q) epoch index (Some receiver)) p w = ap (list_any (says_it by (names.Process q) epoch index)) (all_unbroken log by (names.Process q) epoch p) ∙ w.said
  one log (entries.Got by (names.Process q) epoch index None) p w = absurd w
  one log (entries.Got by (names.Port process port) epoch index receiver) p w = absurd w
  one log (entries.Got by (names.Named node name) epoch index receiver) p w = absurd w
  one log x p w = refl

pub got_at_once : (log : List Entry) → IsPlain log → AreGotWell [] log → each gets_at_once log ≡ true
got_at_once log p w = all_pass gets_at_once one [] log p w where
  one : (log : List Entry) (x : Entry) → IsPlain log → GotWell log x → gets_at_once log x ≡ true
  one log (entries.Got by (names.Process q) epoch index (Some receiver)) p w = w.at_once
  one log (entries.Got by (names.Process q) epoch index None) p w = absurd w
  one log (entries.Got by (names.Port process port) epoch index receiver) p w = absurd w
  one log (entries.Got by (names.Named node name) epoch index receiver) p w = absurd w
  one log x p w = refl

pub got_next : (log : List Entry) → IsPlain log → AreGotWell [] log → each gets_the_next_between log ≡ true
got_next log p w = all_pass gets_the_next_between one [] log p w where
  by_test : (by q : ProcName) (epoch index n : ℕ) (b : Bool) → bytes_eq by.node q.node ≡ b → (bytes_eq by.node q.node ≡ false → n ≡ index) → (b || (n == index)) ≡ true
  by_test by q epoch index n true h e = refl
  by_test by q epoch index n false h e = ap (λ (m : ℕ). m == index) (e h) ∙ number_same index

  one : (log : List Entry) (x : Entry) → IsPlain log → GotWell log x → gets_the_next_between log x ≡ true
  one log (entries.Got by (names.Process q) epoch index (Some receiver)) p w = by_test by q epoch index (count_by (gets_in by (names.Process q) epoch) log) (bytes_eq by.node q.node) refl w.next
  one log (entries.Got by (names.Process q) epoch index None) p w = absurd w
  one log (entries.Got by (names.Port process port) epoch index receiver) p w = absurd w
  one log (entries.Got by (names.Named node name) epoch index receiver) p w = absurd w
  one log x p w = refl

pub none_earlier : (journal : List Line) (log : List Entry) → IsPlain log → SaidWell journal log → AreGotWell [] log → each gets_no_earlier log ≡ true
none_earlier journal log p well w = epochs_in_order log p well.numbered.epochs (said_before log p w)

-- ---- who receives

simple_plain : (log : List Entry) → list_all is_plain log ≡ true → AreSimple log
simple_plain [] p = tt
simple_plain (x ∷ log) p = let parts = and_parts (is_plain x) (list_all is_plain log) p in (one x parts.0, simple_plain log parts.1) where
  one : (x : Entry) → is_plain x ≡ true → is_simple x ≡ true
  one (entries.Shut node) e = absurd cc
  one (entries.Watch watch by target kind) e = absurd cc
  one x e = refl

received_by : (before log : List Entry) → IsPlain (before ++ log) → AreAllowed [] before → AreAllowed before log → AreGotWell before log → each_after gets_by_receiver before log ≡ true
received_by before [] p a b w = refl
received_by before (x ∷ log) p a b w = ap (λ (c : Bool). c && each_after gets_by_receiver (before ++ x ∷ []) log) (one x b.0 w.0) ∙ received_by (before ++ x ∷ []) log (subst IsPlain (sym (assoc before)) p) (allowed_both [] before (x ∷ []) a (b.0, tt)) b.1 w.1 where
  assoc : (xs : List Entry) → (xs ++ x ∷ []) ++ log ≡ xs ++ x ∷ log
  assoc [] = refl
  assoc (y ∷ xs) = ap (λ (l : List Entry). y ∷ l) (assoc xs)

  living : (q r : ProcName) → r ≡ q → IsNow before r → may_receive before q ≡ true
  living q r is now = once_one before (entries.Over q Normal) a (simple_plain before (both_plain before (x ∷ log) p)) (subst (IsNow before) is now)

  one : (y : Entry) → IsAllowed before y → GotWell before y → gets_by_receiver before y ≡ true
  one (entries.Got by (names.Process q) epoch index (Some receiver)) now w = ap (λ (c : Bool). c && may_receive before q) (ap (λ (r : ProcName). same_process r q) w.receives ∙ same_itself q) ∙ living q receiver w.receives now
  one (entries.Got by (names.Process q) epoch index None) now w = absurd w
  one (entries.Got by (names.Port process port) epoch index receiver) now w = absurd w
  one (entries.Got by (names.Named node name) epoch index receiver) now w = absurd w
  one y now w = refl

-- where the log permits it
pub got_by_receiver : (log : List Entry) → IsPlain log → AreAllowed [] log → AreGotWell [] log → each gets_by_receiver log ≡ true
got_by_receiver log p a w = received_by [] log p tt a w
