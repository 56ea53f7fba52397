-- How a process of a node begins, and how it is doomed; and the node's own messages into mailboxes.
use Rattle.std.specs.Prelude.{ℕ, List, [], ◌∷◌, ◌++◌, Option, None, Result, Ok, codes, if◌then◌else◌}
use Rattle.ch_base.specs.declared.memory.Stop.{Stop}
use Rattle.ch_base.specs.declared.event.Why.{Why}
use Rattle.ch_base.specs.declared.event.Why.TheVariants as whys
use Rattle.ch_ident.specs.declared.reason.Reason.{Reason}
use Rattle.ch_ident.specs.declared.reason.Reason.TheVariants as reasons
use Rattle.ch_mail.specs.Process.{Process}
use Rattle.ch_mail.specs.Mail.{make_of, doom_of, put_of}
use Rattle.ch_model.specs.declared.note.Note.TheVariants as notes
use Rattle.ch_model.specs.declared.note.Origin.{Origin}
use Rattle.ch_model.specs.declared.act.Act.TheVariants as acts
use Rattle.ch_model.specs.NodeState.{NodeState}
use Rattle.ch_model.specs.NodeActs.{◌>>=◌, Done, doing, noting, or_unchanged}
use Rattle.ch_model.specs.NodeIds.{process_id}

-- the node with one process more, and with what that was given at its start
abbrev pub with_process : NodeState → List Process → List ℕ → NodeState
with_process node mail args = record node { mail = mail; args = node.args ++ args ∷ [] }

-- a process is made, by a spawn or by none
unfoldable pub make : NodeState → Option Origin → List ℕ → Done
make node origin args = do
  made ← make_of node.mail
  noting (notes.Made (process_id node made.0) origin) (with_process node made.1 args)

-- a process is doomed where it is live; else nothing changes
unfoldable pub doom : NodeState → ℕ → List ℕ → Done
doom node number text = doing (if (doom_of node.mail number text).0 then acts.Note (notes.Doom (process_id node number) text) ∷ [] else []) (record node { mail = (doom_of node.mail number text).1 })

-- a message of the node's own is put into the mailbox of a process that isn't over
unfoldable pub mail_to : NodeState → ℕ → List ℕ → List ℕ → Result NodeState Stop
mail_to node number mark body = do
  mail ← or_unchanged node.mail (put_of node.mail number None (record { mark = mark; body = body }))
  Ok (record node { mail = mail })

-- the reason of a watch whose target is beyond a failed link
abbrev pub reason_of : Why → Reason
reason_of whys.Disconnect = reasons.Disconnect
reason_of whys.NodeDown = reasons.NodeDown

-- a reason in one word
abbrev pub reason_word : Reason → List ℕ
reason_word reasons.Normal = codes "normal"
reason_word (reasons.Exception text) = codes "exception"
reason_word reasons.Disconnect = codes "disconnect"
reason_word reasons.NodeDown = codes "nodedown"
reason_word reasons.UnknownId = codes "unknownid"

-- the text that dooms a process whose link is told
abbrev pub link_text : Reason → List ℕ
link_text reason = codes "link " ++ reason_word reason

-- the text that dooms a process that is asked to exit
abbrev pub exit_text : List ℕ → List ℕ
exit_text text = codes "exit " ++ text

-- the text that dooms a process that is killed
abbrev pub kill_text : List ℕ → List ℕ
kill_text text = codes "kill " ++ text
