-- What a plain node does by a plain command.
use Rattle.std.proofs.Common.{◌≡◌, ℕ, Bool, true, false, List, [], ◌∷◌, Ok, refl}
use Rattle.ch_base.specs.declared.address.Address.{Address}
use Rattle.ch_base.specs.declared.event.Room.{Room}
use Rattle.ch_ident.specs.declared.identifier.ProcessId.{ProcessId}
use Rattle.ch_ident.specs.declared.message.Message.{Message}
use Rattle.ch_ident.specs.declared.reason.Reason.TheVariants.{Normal}
use Rattle.ch_static.specs.declared.command.Command.{Command}
use Rattle.ch_static.specs.declared.command.Command.TheVariants as commands
use Rattle.ch_static.specs.declared.target.Target.TheVariants as targets
use Rattle.ch_model.specs.declared.act.Act.{Act}
use Rattle.ch_model.specs.declared.act.Act.TheVariants as acts
use Rattle.ch_model.specs.NodeState.{NodeState}
use Rattle.ch_model.specs.NodeIds.{is_here}
use Rattle.ch_model.specs.NodeCommands.{send_of, receive_of, finish_of}
use Rattle.ch_model.specs.Node.{node_command}
use Rattle.ch_laws_plain_nodes.specs.Plain.{IsPlain, IsPlainCommand}
use Rattle.ch_laws_plain_nodes.specs.Acts.{AreNotes, OpensNone, OpensTo}
use Rattle.ch_laws_plain_nodes.specs.Does.{Does, SendsAway, SendsHome, Takes, pair_between}
use Rattle.ch_laws_plain_nodes.proofs.Steps.{given_so}
use Rattle.ch_laws_plain_nodes.proofs.Sends.{sends_away, sends_home, away_does, away_opens, home_does, home_notes, away_others, home_others}
use Rattle.ch_laws_plain_nodes.proofs.Calls.{told_does, takes, finishes, EndsSo, ends_does}

-- ---- each command

pub does_away : (node after : NodeState) (by : ℕ) (to : ProcessId) (said : Message) (room : Room) (done : List Act) → is_here node to.node ≡ false → node_command node by (commands.Send (targets.Process to) said) room ≡ Ok (done, after) → SendsAway node by to said done after
unfolding node_command
does_away node after by to said room done h e = given_so (SendsAway node by to said) (send_of node by (targets.Process to) said room) done after (sends_away node by to said room h) e

pub does_home : (node after : NodeState) (by : ℕ) (to : ProcessId) (said : Message) (room : Room) (done : List Act) → is_here node to.node ≡ true → node_command node by (commands.Send (targets.Process to) said) room ≡ Ok (done, after) → SendsHome node by to said done after
unfolding node_command
does_home node after by to said room done h e = given_so (SendsHome node by to said) (send_of node by (targets.Process to) said room) done after (sends_home node by to said room h) e

pub does_take : (node after : NodeState) (by : ℕ) (mark : List ℕ) (room : Room) (done : List Act) → IsPlain node → node_command node by (commands.Receive mark) room ≡ Ok (done, after) → Takes node by done after
unfolding node_command
does_take node after by mark room done p e = given_so (Takes node by) (receive_of node by mark) done after (takes node by mark p) e

pub does_end : (node after : NodeState) (by : ℕ) (room : Room) (done : List Act) (p : IsPlain node) → node_command node by commands.End room ≡ Ok (done, after) → EndsSo node by p done after
unfolding node_command
does_end node after by room done p e = given_so (EndsSo node by p) (finish_of node by Normal) done after (finishes node by p) e

-- ---- what they have in common

-- what opens nothing opens nothing to another node either
none_to : (own peer : Address) (done : List Act) → AreNotes done → OpensTo own peer done
none_to own peer [] a = tt
none_to own peer (acts.Note note ∷ rest) a = none_to own peer rest a.1
none_to own peer (acts.Open conn at ∷ rest) a = absurd a
none_to own peer (acts.Put conn payload weight ∷ rest) a = absurd a
none_to own peer (acts.Close conn ∷ rest) a = absurd a

notes_open_none : (done : List Act) → AreNotes done → OpensNone done
notes_open_none [] a = tt
notes_open_none (acts.Note note ∷ rest) a = notes_open_none rest a.1
notes_open_none (acts.Open conn at ∷ rest) a = absurd a
notes_open_none (acts.Put conn payload weight ∷ rest) a = absurd a
notes_open_none (acts.Close conn ∷ rest) a = absurd a

pub takes_open_none : (node : NodeState) (by : ℕ) (done : List Act) (after : NodeState) → Takes node by done after → OpensNone done
takes_open_none node by done after t = notes_open_none done t.tells.did

send_opens : (node after : NodeState) (by : ℕ) (to : ProcessId) (said : Message) (room : Room) (done : List Act) (here : Bool) → is_here node to.node ≡ here → node_command node by (commands.Send (targets.Process to) said) room ≡ Ok (done, after) → OpensTo node.own to.node done
send_opens node after by to said room done true h e = none_to node.own to.node done (home_notes node by to said done after (does_home node after by to said room done h e))
send_opens node after by to said room done false h e = away_opens node by to said h done after (does_away node after by to said room done h e)

pub does_open : (node after : NodeState) (by : ℕ) (to : ProcessId) (said : Message) (room : Room) (done : List Act) → node_command node by (commands.Send (targets.Process to) said) room ≡ Ok (done, after) → OpensTo node.own to.node done
does_open node after by to said room done e = send_opens node after by to said room done (is_here node to.node) refl e

send_others : (node after : NodeState) (by other : ℕ) (to target : ProcessId) (said : Message) (room : Room) (done : List Act) (here : Bool) → is_here node to.node ≡ here → ((other ≡ by) × (target ≡ to) → ⊥) → node_command node by (commands.Send (targets.Process to) said) room ≡ Ok (done, after) → pair_between after other target ≡ pair_between node other target
send_others node after by other to target said room done true h apart e = home_others node by to said other target apart done after (does_home node after by to said room done h e)
send_others node after by other to target said room done false h apart e = away_others node by to said other target apart done after (does_away node after by to said room done h e)

pub others_stay : (node after : NodeState) (by other : ℕ) (to target : ProcessId) (said : Message) (room : Room) (done : List Act) → ((other ≡ by) × (target ≡ to) → ⊥) → node_command node by (commands.Send (targets.Process to) said) room ≡ Ok (done, after) → pair_between after other target ≡ pair_between node other target
others_stay node after by other to target said room done apart e = send_others node after by other to target said room done (is_here node to.node) refl apart e

send_does : (node after : NodeState) (by : ℕ) (to : ProcessId) (said : Message) (room : Room) (done : List Act) (here : Bool) → is_here node to.node ≡ here → IsPlain node → node_command node by (commands.Send (targets.Process to) said) room ≡ Ok (done, after) → Does node done after
send_does node after by to said room done true h p e = home_does node by to said p done after (does_home node after by to said room done h e)
send_does node after by to said room done false h p e = away_does node by to said p done after (does_away node after by to said room done h e)

pub on_command : (node after : NodeState) (by : ℕ) (command : Command) (room : Room) (done : List Act) → IsPlain node → IsPlainCommand command → node_command node by command room ≡ Ok (done, after) → Does node done after
on_command node after by (commands.Send (targets.Process to) said) room done p i e = send_does node after by to said room done (is_here node to.node) refl p e
on_command node after by (commands.Send (targets.Port to) said) room done p i e = absurd i
on_command node after by (commands.Send (targets.Named at name) said) room done p i e = absurd i
on_command node after by (commands.Receive mark) room done p i e = told_does node done after (does_take node after by mark room done p e).tells
on_command node after by commands.End room done p i e = let s = does_end node after by room done p e in ends_does node by done after s.0 s.1 s.2
on_command node after by (commands.Again to) room done p i e = absurd i
on_command node after by commands.OpenPort room done p i e = absurd i
on_command node after by (commands.Take port) room done p i e = absurd i
on_command node after by (commands.Fail text) room done p i e = absurd i
on_command node after by commands.Fall room done p i e = absurd i
on_command node after by (commands.Monitor target) room done p i e = absurd i
on_command node after by (commands.Link target) room done p i e = absurd i
on_command node after by (commands.Unwatch watch) room done p i e = absurd i
on_command node after by (commands.Exit target text) room done p i e = absurd i
on_command node after by (commands.Kill target text) room done p i e = absurd i
on_command node after by (commands.Spawn at closure) room done p i e = absurd i
on_command node after by (commands.Register name) room done p i e = absurd i
on_command node after by (commands.Unregister name) room done p i e = absurd i
on_command node after by (commands.WhereIs at name) room done p i e = absurd i
