-- That a name of a node is registered or taken away changes no pair, and ends nobody.
use Rattle.std.specs.Prelude.{◌≡◌, ℕ, List, [], ◌∷◌, Some, None, Ok}
use Rattle.std.proofs.Common.{refl, subst}
use Rattle.ch_base.specs.declared.event.Room.{Room}
use Rattle.ch_static.specs.declared.command.Command.TheVariants as commands
use Rattle.ch_watch.specs.Lists.{Lists}
use Rattle.ch_watch.specs.Watches.{register_of, unregister_of}
use Rattle.ch_model.specs.declared.act.Act.{Act}
use Rattle.ch_model.specs.declared.act.Act.TheVariants as acts
use Rattle.ch_model.specs.declared.note.Note.TheVariants as notes
use Rattle.ch_model.specs.NodeState.{NodeState}
use Rattle.ch_model.specs.NodeActs as node
use Rattle.ch_model.specs.NodeActs.{Answered, watching}
use Rattle.ch_model.specs.NodeIds.{process_id}
use Rattle.ch_model.specs.NodeRoom.{acting}
use Rattle.ch_model.specs.NodeRequests.{register_by, unregister_by}
use Rattle.ch_model.specs.Node.{node_command}
use Rattle.ch_laws_delivery.specs.QuietLines.{AreNotes}
use Rattle.ch_laws_delivery.proofs.Results.{given, went_node}
use Rattle.ch_laws_delivery.proofs.OwnMail.{Still}

with_watches : (n : NodeState) (lists : Lists) → Still n (record n { watches = lists })
with_watches n lists = (record { pairs = refl; shut = refl; over = λ by. refl }, record { own = refl; unique = refl; arrived = refl; over = λ by over. over })

pub registers_still : (n : NodeState) (by : ℕ) (name : List ℕ) (room : Room) (did : List Act) (now : NodeState) → node_command n by (commands.Register name) room ≡ Ok (did, now) → Still n now × AreNotes did
unfolding node_command register_by
registers_still n by name room did now h =
    let last : Lists → Answered = λ lists. Ok (acts.Note (notes.Named n.own name (Some (process_id n by))) ∷ [], record n { watches = lists }) in
    let one = went_node (acting n by) (λ live. node.◌>>=◌ (watching (register_of n.watches name by)) last) (did, now) h in
    let two = went_node (watching (register_of n.watches name by)) last (did, now) one.next in
    subst (λ (z : List Act × NodeState). Still n z.1 × AreNotes z.0) (given (acts.Note (notes.Named n.own name (Some (process_id n by))) ∷ [], record n { watches = two.value }) (did, now) two.next)
    (with_watches n two.value, tt)

pub unregisters_still : (n : NodeState) (by : ℕ) (name : List ℕ) (room : Room) (did : List Act) (now : NodeState) → node_command n by (commands.Unregister name) room ≡ Ok (did, now) → Still n now × AreNotes did
unfolding node_command unregister_by
unregisters_still n by name room did now h =
    let last : ℕ × Lists → Answered = λ taken. Ok (acts.Note (notes.Named n.own name None) ∷ [], record n { watches = taken.1 }) in
    let one = went_node (acting n by) (λ live. node.◌>>=◌ (watching (unregister_of n.watches name)) last) (did, now) h in
    let two = went_node (watching (unregister_of n.watches name)) last (did, now) one.next in
    subst (λ (z : List Act × NodeState). Still n z.1 × AreNotes z.0) (given (acts.Note (notes.Named n.own name None) ∷ [], record n { watches = two.value.1 }) (did, now) two.next)
    (with_watches n two.value.1, tt)
