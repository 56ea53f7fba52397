-- Each event line of one node does in the whole model's world what it does in the model of one node.
use Rattle.std.specs.Prelude.{◌≡◌, ℕ, ◌+◌, Bool, true, false, not, ◌&&◌, cond, List, [], ◌∷◌, ◌++◌, length, Option, Some, None, nat_lt, nat_le, ◌==◌, slice_get, slice_set}
use Rattle.std.specs.Str.{bytes_eq}
use Rattle.std.proofs.Common.{refl, ap, sym, ◌∙◌, subst}
use Rattle.std.proofs.lemmas.Bool.{le-leb}
use Rattle.ch_base.specs.AddressValues.{AddressValue}
use Rattle.ch_base.specs.declared.event.Room.{Room}
use Rattle.ch_ident.specs.declared.message.Message.{Message}
use Rattle.ch_ident.specs.declared.reason.Reason.TheVariants.{Normal}
use Rattle.ch_ident.specs.Spelling as spelling
use Rattle.ch_mail.specs.declared.life.Life.{Life}
use Rattle.ch_mail.specs.declared.life.Life.TheVariants as lives
use Rattle.ch_mail.specs.Process.{Process}
use Rattle.ch_mail.specs.Lives.{is_live, is_over}
use Rattle.ch_mail.specs.Queue.{first_that}
use Rattle.ch_mail.specs.Mail.{waiting_in, last_u32, last_u64}
use Rattle.ch_static.specs.declared.command.Command.{Command}
use Rattle.ch_static.specs.declared.command.Command.TheVariants as commands
use Rattle.ch_static.specs.declared.target.Target.TheVariants as targets
use Rattle.ch_model.specs.declared.name.ProcName.{ProcName}
use Rattle.ch_model.specs.declared.name.TargetName.TheVariants as names
use Rattle.ch_model.specs.declared.line.What.{What}
use Rattle.ch_model.specs.declared.line.What.TheVariants.{Proc, Send, Recv, End}
use Rattle.ch_model.specs.declared.entry.Verdict.TheVariants as verdicts
use Rattle.ch_model.specs.declared.note.Note.TheVariants as notes
use Rattle.ch_model.specs.declared.local.LocalEvent.{LocalEvent}
use Rattle.ch_model.specs.declared.local.LocalEvent.TheVariants as events
use Rattle.ch_model.specs.declared.step.Place.{Place}
use Rattle.ch_model.specs.NodeState.{NodeState as WholeNode}
use Rattle.ch_model.specs.NodeActs.{stopping}
use Rattle.ch_model.specs.NodeRoom.{longest}
use Rattle.ch_model.specs.NodeCommands.{send_of as whole_send_of, receive_of as whole_receive_of, finish_of as whole_finish_of}
use Rattle.ch_model.specs.Node.{node_make as whole_node_make, node_command, target_node}
use Rattle.ch_model.specs.Cell.{Celled, refused, at_node, node_did, room_for, commanded}
use Rattle.ch_model.specs.WorldState.{Named}
use Rattle.ch_model.specs.Naming.{or_nobody, process_as}
use Rattle.ch_model.specs.WorldSockets.{cell_of}
use Rattle.ch_model.specs.WorldHappenings.{Answered, nothing, cell_told, cell_hears}
use Rattle.ch_model.specs.WorldLines.{node_hears}
use Rattle.ch_model.specs.World.{line_answered, event_step}
use Rattle.ch_one_node.specs.declared.note.Note.TheVariants.{Made, Said, Got, Took, Over}
use Rattle.ch_one_node.specs.States.{World}
use Rattle.ch_one_node.specs.Node.{process_id, next_index, with_said, send_of, receive_of, finish_of, node_make}
use Rattle.ch_one_node.specs.World.{answered, event_of}
use Rattle.ch_laws_one_node.specs.OneNode.{IsOfNode, FitsFrame}
use Rattle.ch_laws_one_node.proofs.Appending.{at, equal_bytes, equal_numbers}
use Rattle.ch_laws_one_node.proofs.Shows.{new_process}
use Rattle.ch_laws_one_node.proofs.Calls.{given, to_process, to_target, by_live, by_sender, send_is, of_found, taking, receive_is, finishing, ending, finish_is, making, make_is}
use Rattle.ch_laws_one_node.proofs.Embedded.{id_in, node_in, cell_in, names_in, world_in}
use Rattle.ch_laws_one_node.proofs.EmbeddedCalls.{whole_by_live, whole_found, whole_taking, whole_receive_is, whole_finishing, whole_ending, whole_finish_is, whole_making, whole_make_is, whole_said, whole_target, whole_by_sender, whole_send_is}
use Rattle.ch_laws_one_node.proofs.EmbeddedNotes.{StepsAs, Same, told_of, performed, told_made, told_over, told_took, told_said, told_got, place_at}

-- ---- what the two nodes make of each command

same_make : (w : World) (args : List (List ℕ)) (last : Option Place) (number : ℕ) → Same w args last number (node_make w.node) (whole_node_make (node_in w.node args))
same_make w args last number = subst (λ d. Same w args last number d (whole_node_make (node_in w.node args))) (sym (make_is w.node)) (subst (λ d. Same w args last number (making w.node (nat_lt (length w.node.mail) last_u32)) d) (sym (whole_make_is w.node args)) (by_room (nat_lt (length w.node.mail) last_u32))) where
  longer : List Process
  longer = w.node.mail ++ new_process ∷ []

  by_room : (room : Bool) → Same w args last number (making w.node room) (whole_making w.node args room)
  by_room true = performed w args (args ++ [] ∷ []) last last number longer w.node.pairs (Made (process_id w.node (length w.node.mail)) ∷ []) (notes.Made (id_in w.node.own w.node.unique (length w.node.mail)) None ∷ [])
      (told_made (record w { node = record w.node { mail = longer } }) (args ++ [] ∷ []) last (length w.node.mail))
  by_room false = refl

lives_apart : (life : Life) → is_live life ≡ true → is_over life ≡ false
lives_apart lives.Live h = refl
lives_apart (lives.Doomed text) h = refl
lives_apart (lives.Over reason) h = absurd (cc)

same_end : (w : World) (args : List (List ℕ)) (last : Option Place) (number i : ℕ) → Same w args last number (finish_of w.node i) (whole_finish_of (node_in w.node args) i Normal)
same_end w args last number i = subst (λ d. Same w args last number d (whole_finish_of (node_in w.node args) i Normal)) (sym (finish_is w.node i)) (subst (λ d. Same w args last number (ending w.node i (slice_get w.node.mail i)) d) (sym (whole_finish_is w.node args i)) (by_held (slice_get w.node.mail i))) where
  by_over : (p : Process) → is_live p.life ≡ true → (over : Bool) → is_over p.life ≡ over → Same w args last number (finishing w.node i p over) (whole_finishing w.node args i p over)
  by_over p live true o = let apart : is_over p.life ≡ false = lives_apart p.life live in absurd (cc)
  by_over p live false o = performed w args args last last number ended w.node.pairs (Over (process_id w.node i) Normal ∷ []) (notes.Over (id_in w.node.own w.node.unique i) Normal ∷ [])
      (told_over (record w { node = record w.node { mail = ended } }) args last i Normal) where
        ended : List Process
        ended = slice_set w.node.mail i (record p { life = lives.Over Normal })

  by_life : (p : Process) (live : Bool) → is_live p.life ≡ live → Same w args last number (by_live live (finishing w.node i p (is_over p.life))) (whole_by_live live (whole_finishing w.node args i p (is_over p.life)))
  by_life p false h = record { name = refl; args = args; last = last; is = refl }
  by_life p true h = by_over p h (is_over p.life) refl

  by_held : (held : Option Process) → Same w args last number (ending w.node i held) (whole_ending w.node args i held)
  by_held None = record { name = refl; args = args; last = last; is = refl }
  by_held (Some p) = by_life p (is_live p.life) refl

same_receive : (w : World) (args : List (List ℕ)) (last : Option Place) (number i : ℕ) (mark : List ℕ) → Same w args last number (receive_of w.node i mark) (whole_receive_of (node_in w.node args) i mark)
same_receive w args last number i mark = subst (λ d. Same w args last number d (whole_receive_of (node_in w.node args) i mark)) (sym (receive_is w.node i mark)) (subst (λ d. Same w args last number (taking w.node i mark (slice_get w.node.mail i)) d) (sym (whole_receive_is w.node args i mark)) (by_held (slice_get w.node.mail i))) where
  by_found : (p : Process) (found : Option (Message × List Message)) → Same w args last number (of_found w.node i p found) (whole_found w.node args i p found)
  by_found p None = record { name = refl; args = args; last = last; is = refl }
  by_found p (Some found) = performed w args args last last number rest w.node.pairs (Took (process_id w.node i) found.0 ∷ []) (notes.Took (id_in w.node.own w.node.unique i) None found.0 ∷ [])
      (told_took (record w { node = record w.node { mail = rest } }) args last i found.0) where
        rest : List Process
        rest = slice_set w.node.mail i (record p { mailbox = found.1 })

  by_life : (p : Process) (live : Bool) (found : Option (Message × List Message)) → Same w args last number (by_live live (of_found w.node i p found)) (whole_by_live live (whole_found w.node args i p found))
  by_life p false found = record { name = refl; args = args; last = last; is = refl }
  by_life p true found = by_found p found

  by_held : (held : Option Process) → Same w args last number (taking w.node i mark held) (whole_taking w.node args i mark held)
  by_held None = record { name = refl; args = args; last = last; is = refl }
  by_held (Some p) = by_life p (is_live p.life) (first_that (λ message. bytes_eq message.mark mark) p.mailbox)

same_send : (w : World) (args : List (List ℕ)) (last : Option Place) (number i j : ℕ) (m : Message) (room : Room) → nat_le (length (spelling.user m)) longest ≡ true → Same w args last number (send_of w.node i (process_id w.node j) m) (whole_send_of (node_in w.node args) i (targets.Process (id_in w.node.own w.node.unique j)) m room)
same_send w args last number i j m room short = subst (λ d. Same w args last number d (whole_send_of (node_in w.node args) i (targets.Process (id_in w.node.own w.node.unique j)) m room)) (sym (send_is w.node i j m))
    (subst (λ d. Same w args last number (by_sender (slice_get w.node.mail i) (to_target w.node i j m (slice_get w.node.mail j))) d) (sym (whole_send_is w.node args i j m room short)) (by_held (slice_get w.node.mail i))) where
      next : ℕ
      next = next_index w.node.pairs (i, j)

      pairs : List ((ℕ × ℕ) × ℕ)
      pairs = with_said w.node.pairs (i, j) (next + 1)

      by_test : (q : Process) (grows over fits : Bool) → Same w args last number (to_process w.node i j m q grows over fits) (stopping (whole_said w.node args i j m grows (given w.node.mail j m q over fits)))
      by_test q false over fits = refl
      by_test q true true fits = performed w args args last (place_at next) number w.node.mail pairs (Said (process_id w.node i) (process_id w.node j) 0 next m ∷ []) (notes.Said (id_in w.node.own w.node.unique i) (targets.Process (id_in w.node.own w.node.unique j)) 0 next m ∷ [])
          (told_said (record w { node = record w.node { pairs = pairs } }) args last i j next m)
      by_test q true false true = performed w args args last (place_at next) number longer pairs (Said (process_id w.node i) (process_id w.node j) 0 next m ∷ Got (process_id w.node i) (process_id w.node j) (process_id w.node j) ∷ []) (notes.Said (id_in w.node.own w.node.unique i) (targets.Process (id_in w.node.own w.node.unique j)) 0 next m ∷ notes.Got (id_in w.node.own w.node.unique i) (targets.Process (id_in w.node.own w.node.unique j)) (Some (id_in w.node.own w.node.unique j)) ∷ [])
          (told_got (record w { node = record w.node { mail = longer; pairs = pairs } }) args last i j next m) where
            longer : List Process
            longer = slice_set w.node.mail j (record q { mailbox = q.mailbox ++ m ∷ [] })
      by_test q true false false = refl

      by_target : (target : Option Process) → Same w args last number (to_target w.node i j m target) (whole_target w.node args i j m target)
      by_target None = record { name = refl; args = args; last = last; is = refl }
      by_target (Some q) = by_test q (nat_lt next last_u64) (is_over q.life) (nat_lt (waiting_in q) last_u64)

      by_life : (live : Bool) → Same w args last number (by_live live (to_target w.node i j m (slice_get w.node.mail j))) (whole_by_live live (whole_target w.node args i j m (slice_get w.node.mail j)))
      by_life false = record { name = refl; args = args; last = last; is = refl }
      by_life true = by_target (slice_get w.node.mail j)

      by_held : (sender : Option Process) → Same w args last number (by_sender sender (to_target w.node i j m (slice_get w.node.mail j))) (whole_by_sender sender (whole_target w.node args i j m (slice_get w.node.mail j)))
      by_held None = record { name = refl; args = args; last = last; is = refl }
      by_held (Some p) = by_life (is_live p.life)

-- ---- which node hears a line

abbrev the_named : World → Named
the_named w = record { name = w.name; address = w.node.own; unique = w.node.unique; is_node = true }

cell_is : (w : World) (args : List (List ℕ)) (last : Option Place) → cell_of (world_in w args last) w.node.own ≡ Some 0
cell_is w args last = ap (λ b. placed (b && (w.node.own.port == w.node.own.port))) (equal_bytes w.node.own.host) ∙ ap placed (equal_numbers w.node.own.port) where
  placed : Bool → Option ℕ
  placed b = cond (nat_lt (cond (not b) (1 + 0) 0) 1) (Some (cond (not b) (1 + 0) 0)) None

node_is : (w : World) (args : List (List ℕ)) (f : WholeNode → Celled) → at_node w.node.own.id (cell_in w.node args) f ≡ f (node_in w.node args)
node_is w args f = ap (λ b. found (cond b (Some (w.node.own.id, node_in w.node args)) None)) (equal_numbers w.node.own.id) where
  found : Option (ℕ × WholeNode) → Celled
  found o = elim o [
    | None ↦ refused verdicts.Nothing (cell_in w.node args)
    | Some node ↦ f node.1
  ]

hears : (w : World) (args : List (List ℕ)) (last : Option Place) (event : ℕ → LocalEvent) → node_hears w.name event (world_in w args last) ≡ cell_hears 0 (event w.node.own.id) (world_in w args last)
hears w args last event = ap (λ b. heard (or_nobody (cond b (Some (the_named w)) None)).address) (equal_bytes w.name) ∙ ap (λ o. by_cell o w.node.own) (cell_is w args last) where
  by_cell : Option ℕ → AddressValue → Answered
  by_cell o own = elim o [
    | None ↦ nothing (world_in w args last)
    | Some place ↦ cell_hears place (event own.id) (world_in w args last)
  ]

  heard : AddressValue → Answered
  heard own = by_cell (cell_of (world_in w args last) own) own

process_named : (w : World) (j : ℕ) → process_as (names_in w) (at w.name j) ≡ id_in w.node.own w.node.unique j
process_named w j = ap (λ b. id_in (or_nobody (cond b (Some (the_named w)) None)).address (or_nobody (cond b (Some (the_named w)) None)).unique j) (equal_bytes w.name)

-- a command of a process is heard by its node
commands_node : (w : World) (args : List (List ℕ)) (last : Option Place) (number i : ℕ) (command : Command) → line_answered number (node_hears w.name (λ end. events.Command end i command) (world_in w args last)) ≡ told_of w args last number (node_command (node_in w.node args) i command (room_for (cell_in w.node args).host w.node.own.id w.node.own (target_node (node_in w.node args) i command)))
commands_node w args last number i command = ap (λ r. line_answered number r) (hears w args last (λ end. events.Command end i command))
    ∙ ap (λ c. line_answered number (cell_told 0 (cell_in w.node args, 0) (world_in w args last) c)) (node_is w args (commanded w.node.own.id i command (cell_in w.node args)))

makes_node : (w : World) (args : List (List ℕ)) (last : Option Place) (number : ℕ) → line_answered number (node_hears w.name (λ end. events.Make end) (world_in w args last)) ≡ told_of w args last number (whole_node_make (node_in w.node args))
makes_node w args last number = ap (λ r. line_answered number r) (hears w args last (λ end. events.Make end))
    ∙ ap (λ c. line_answered number (cell_told 0 (cell_in w.node args, 0) (world_in w args last) c)) (node_is w args (λ node. node_did w.node.own.id (cell_in w.node args) (whole_node_make node)))

-- ---- the lines

named : (p : ProcName) (node : List ℕ) → p.node ≡ node → at node p.counter ≡ p
named p node h = ap (λ n. at n p.counter) (sym h)

proc_steps : (w : World) (args : List (List ℕ)) (last : Option Place) (number : ℕ) → StepsAs w (event_of w number (Proc w.name)) (event_step number (Proc w.name) (world_in w args last))
proc_steps w args last number = subst (λ r. StepsAs w (event_of w number (Proc w.name)) r) (sym (makes_node w args last number)) (same_make w args last number)

recv_steps : (w : World) (args : List (List ℕ)) (last : Option Place) (number i : ℕ) (mark : List ℕ) → StepsAs w (event_of w number (Recv (at w.name i) mark)) (event_step number (Recv (at w.name i) mark) (world_in w args last))
unfolding node_command
recv_steps w args last number i mark = subst (λ r. StepsAs w (event_of w number (Recv (at w.name i) mark)) r) (sym (commands_node w args last number i (commands.Receive mark))) (same_receive w args last number i mark)

end_steps : (w : World) (args : List (List ℕ)) (last : Option Place) (number i : ℕ) → StepsAs w (event_of w number (End (at w.name i))) (event_step number (End (at w.name i)) (world_in w args last))
unfolding node_command
end_steps w args last number i = subst (λ r. StepsAs w (event_of w number (End (at w.name i))) r) (sym (commands_node w args last number i commands.End)) (same_end w args last number i)

send_steps : (w : World) (args : List (List ℕ)) (last : Option Place) (number i j : ℕ) (m : Message) → nat_le (length (spelling.user m)) longest ≡ true → StepsAs w (event_of w number (Send (at w.name i) (names.Process (at w.name j)) m.mark m.body)) (event_step number (Send (at w.name i) (names.Process (at w.name j)) m.mark m.body) (world_in w args last))
unfolding node_command
send_steps w args last number i j m short = subst (λ r. StepsAs w (answered w number (send_of w.node i (process_id w.node j) m)) r)
    (sym (ap (λ p. line_answered number (node_hears w.name (λ end. events.Command end i (commands.Send (targets.Process p) m)) (world_in w args last))) (process_named w j) ∙ commands_node w args last number i (commands.Send (targets.Process (id_in w.node.own w.node.unique j)) m)))
    (same_send w args last number i j m (room_for (cell_in w.node args).host w.node.own.id w.node.own (target_node (node_in w.node args) i (commands.Send (targets.Process (id_in w.node.own w.node.unique j)) m))) short)

pub line_steps : (w : World) (args : List (List ℕ)) (last : Option Place) (number : ℕ) (what : What) → IsOfNode w.name what → FitsFrame what → StepsAs w (event_of w number what) (event_step number what (world_in w args last))
line_steps w args last number (Proc name) of fits = subst (λ n. StepsAs w (event_of w number (Proc n)) (event_step number (Proc n) (world_in w args last))) (sym of) (proc_steps w args last number)
line_steps w args last number (Send by (names.Process to) mark body) of fits =
    subst (λ p. StepsAs w (event_of w number (Send p (names.Process to) mark body)) (event_step number (Send p (names.Process to) mark body) (world_in w args last))) (named by w.name of.0)
    (subst (λ p. StepsAs w (event_of w number (Send (at w.name by.counter) (names.Process p) mark body)) (event_step number (Send (at w.name by.counter) (names.Process p) mark body) (world_in w args last))) (named to w.name of.1)
    (send_steps w args last number by.counter to.counter (record { mark = mark; body = body }) (le-leb (length (spelling.user (record { mark = mark; body = body }))) longest fits)))
line_steps w args last number (Recv by mark) of fits = subst (λ p. StepsAs w (event_of w number (Recv p mark)) (event_step number (Recv p mark) (world_in w args last))) (named by w.name of) (recv_steps w args last number by.counter mark)
line_steps w args last number (End by) of fits = subst (λ p. StepsAs w (event_of w number (End p)) (event_step number (End p) (world_in w args last))) (named by w.name of) (end_steps w args last number by.counter)
line_steps w args last number what of fits = absurd of
