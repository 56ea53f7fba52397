-- What a node answers to a process that sends to another node.
use Rattle.std.proofs.Common.{◌≡◌, ℕ, Bool, true, false, cond, not, ◌==◌, ◌&&◌, ◌||◌, length, List, [], ◌∷◌, Ok, Err, refl, sym, ap, ◌∙◌, subst}
use Rattle.std.proofs.lemmas.Bool.{and_parts, leb-true, leb-false, lt-ltb, le-ltb}
use Rattle.std.specs.Prelude.{find, is_some, slice_get, unwrap_or, nat_le, nat_lt, Result, Some}
use Rattle.std.specs.Str.{bytes_eq}
use Rattle.ch_base.specs.declared.address.Address.{Address}
use Rattle.ch_base.specs.declared.event.Room.{Room}
use Rattle.ch_base.specs.declared.memory.Stop.TheVariants as stops
use Rattle.ch_ident.specs.declared.identifier.ProcessId.{ProcessId}
use Rattle.ch_ident.specs.declared.message.Message.{Message}
use Rattle.ch_ident.specs.Spelling as spelling
use Rattle.ch_static.specs.declared.command.Command.TheVariants as commands
use Rattle.ch_static.specs.declared.target.Target.{Target}
use Rattle.ch_static.specs.declared.target.Target.TheVariants as targets
use Rattle.ch_watch.specs.Same.{same_node}
use Rattle.ch_model.specs.declared.command.CommandError.{CommandError}
use Rattle.ch_model.specs.declared.command.CommandError.TheVariants as errors
use Rattle.ch_model.specs.declared.entry.Entry.{Entry}
use Rattle.ch_model.specs.declared.entry.Verdict.{Verdict}
use Rattle.ch_model.specs.declared.entry.Verdict.TheVariants as verdicts
use Rattle.ch_model.specs.declared.line.Line.{Line}
use Rattle.ch_model.specs.declared.line.What.TheVariants as lines
use Rattle.ch_model.specs.declared.name.ProcName.{ProcName}
use Rattle.ch_model.specs.declared.name.TargetName.TheVariants as names
use Rattle.ch_model.specs.Answers.{answer_to_live}
use Rattle.ch_model.specs.AnswersCounts.{waiting, connections, begins_epoch}
use Rattle.ch_model.specs.Cell.{answered, node_did}
use Rattle.ch_model.specs.CellSteps.{Followed, ◌then◌, with_node, acts_on, all_items}
use Rattle.ch_model.specs.Delivery.{is_there}
use Rattle.ch_model.specs.Epochs as epochs
use Rattle.ch_model.specs.HostCalls.{most_waiting}
use Rattle.ch_model.specs.Node.{node_command}
use Rattle.ch_model.specs.NodeActs.{◌>>=◌, Done, stopping}
use Rattle.ch_model.specs.NodeCommands.{send_of}
use Rattle.ch_model.specs.NodeIds.{is_here, life_here, target_at}
use Rattle.ch_model.specs.NodePairs.{is_pair, new_pair, pair_of, same_target, same_process}
use Rattle.ch_model.specs.NodeRoom.{known, is_known, fitting, longest, not_full, not_spent, opened_besides, most_opened, is_unopened, is_broken, room_to_send}
use Rattle.ch_model.specs.NodeSends.{say}
use Rattle.ch_model.specs.NodeState.{NodeState, Pair}
use Rattle.ch_model.specs.WorldState.{Cell}
use Rattle.ch_laws_log.proofs.Keys.{node_is}
use Rattle.ch_laws_acting.specs.Rolls.{rests_of}
use Rattle.ch_laws_acting.proofs.LogRests.{answer_or}
use Rattle.ch_laws_acting.proofs.Ends.{CelledSo, acts_so}

-- the answer to a live process that sends to another node, by whether the message fits in a frame, there is room for it, and no id is left
abbrev pub sent_away : Bool → Bool → Bool → Verdict
sent_away short roomy spent = cond short (cond roomy (cond spent verdicts.Spent verdicts.Ok) verdicts.Full) verdicts.Long

abbrev pub is_short : Message → Bool
is_short said = nat_le (length (spelling.user said)) longest

pub pair_to : (pairs : List Pair) (by : ℕ) (to : ProcessId) → target_at (pair_of pairs by (targets.Process to)).to ≡ to.node
unfolding pair_of is_pair same_target same_process
pair_to [] by to = refl
pair_to (known ∷ rest) by to = by_test ((known.by == by) && same_target known.to (targets.Process to)) refl (pair_to rest by to) where
  at_to : (t : Target) → same_target t (targets.Process to) ≡ true → target_at t ≡ to.node
  at_to (targets.Process p) h = node_is p.node to.node (and_parts (same_node p.node to.node) ((p.unique == to.unique) && (p.counter == to.counter)) h).0
  at_to (targets.Port p) h = absurd cc
  at_to (targets.Named at name) h = absurd cc

  by_test : (x : Bool) → ((known.by == by) && same_target known.to (targets.Process to)) ≡ x → target_at (unwrap_or (find (is_pair by (targets.Process to)) rest) (new_pair by (targets.Process to))).to ≡ to.node
      → target_at (unwrap_or (cond x (Some known) (find (is_pair by (targets.Process to)) rest)) (new_pair by (targets.Process to))).to ≡ to.node
  by_test true h more = at_to known.to (and_parts (known.by == by) (same_target known.to (targets.Process to)) h).1
  by_test false h more = more

abbrev allowed : Bool → CommandError → Result (Unit {0}) CommandError
allowed b e = cond b (Ok tt) (Err e)

abbrev refusing : CommandError → Result (Unit {0}) CommandError
refusing e = Err e

abbrev fine : Result (Unit {0}) CommandError
fine = Ok tt

-- the pair on which a process sends
abbrev pub pair_for : NodeState → ℕ → ProcessId → Pair
pair_for node by to = pair_of node.pairs by (targets.Process to)

-- What is so of a node whose process sends to another node: no pair waits to be reconnected; and whether there is room, and an id is left.
pub record SendsAs (node : NodeState) (by : ℕ) (to : ProcessId) (room : Room) (roomy spent : Bool) : Type 0 where
  pub away : is_here node to.node ≡ false
  pub unbroken : is_broken (pair_for node by to).mark ≡ false
  pub roomy_so : (room.up || not (nat_le most_waiting room.waits)) ≡ roomy
  pub spent_so : (is_unopened (pair_for node by to).mark && nat_le most_opened (opened_besides node to.node room)) ≡ spent

room_away : (node : NodeState) (by : ℕ) (to : ProcessId) (room : Room) (roomy spent : Bool) → SendsAs node by to room roomy spent → room_to_send node (pair_for node by to) room ≡ (allowed roomy errors.Full >>= (λ waits. allowed (not spent) errors.Spent))
unfolding room_to_send not_full not_spent
room_away node by to room roomy spent s =
    by_tests (is_here node (target_at (pair_for node by to).to)) (is_broken (pair_for node by to).mark) (room.up || not (nat_le most_waiting room.waits)) (is_unopened (pair_for node by to).mark && nat_le most_opened (opened_besides node (target_at (pair_for node by to).to) room))
    (ap (is_here node) (pair_to node.pairs by to) ∙ s.away) s.unbroken s.roomy_so (ap (λ (at : Address). is_unopened (pair_for node by to).mark && nat_le most_opened (opened_besides node at room)) (pair_to node.pairs by to) ∙ s.spent_so)
  where
    by_last : (r q : Bool) → r ≡ roomy → q ≡ spent → (allowed r errors.Full >>= (λ waits. cond q (Err errors.Spent) fine)) ≡ (allowed roomy errors.Full >>= (λ waits. allowed (not spent) errors.Spent))
    by_last true true f g = subst (λ (b : Bool). refusing errors.Spent ≡ (allowed b errors.Full >>= (λ waits. allowed (not spent) errors.Spent))) f (subst (λ (b : Bool). refusing errors.Spent ≡ allowed (not b) errors.Spent) g refl)
    by_last true false f g = subst (λ (b : Bool). fine ≡ (allowed b errors.Full >>= (λ waits. allowed (not spent) errors.Spent))) f (subst (λ (b : Bool). fine ≡ allowed (not b) errors.Spent) g refl)
    by_last false q f g = subst (λ (b : Bool). refusing errors.Full ≡ (allowed b errors.Full >>= (λ waits. allowed (not spent) errors.Spent))) f refl

    by_tests : (h b r q : Bool) → h ≡ false → b ≡ false → r ≡ roomy → q ≡ spent → cond (h || b) fine (allowed (h || r) errors.Full >>= (λ waits. cond q (Err errors.Spent) fine)) ≡ (allowed roomy errors.Full >>= (λ waits. allowed (not spent) errors.Spent))
    by_tests false false r q e k f g = by_last r q f g
    by_tests true b r q e k f g = absurd cc
    by_tests false true r q e k f g = absurd cc

known_away : (node : NodeState) (to : ProcessId) → is_here node to.node ≡ false → known node (targets.Process to) ≡ allowed true errors.Unknown
unfolding known is_known
known_away node to away = ap (λ (b : Bool). cond (not b || is_some (life_here node to)) (Ok tt) (Err errors.Unknown)) away

-- what is answered where the process lives; and else
pub away_answer : (end : ℕ) (cell : Cell) (node : NodeState) (by : ℕ) (to : ProcessId) (said : Message) (room : Room) (roomy spent : Bool) → SendsAs node by to room roomy spent
    → CelledSo (λ verdict. verdict ≡ answer_or (sent_away (is_short said) roomy spent) (slice_get (rests_of node.mail) by)) (node_did end cell (node_command node by (commands.Send (targets.Process to) said) room))
unfolding node_command send_of fitting
away_answer end cell node by to said room roomy spent s = acts_so (λ o verdict. verdict ≡ answer_or (sent_away (is_short said) roomy spent) o) end cell node by _ refl refl
    (λ live. by_parts (known node (targets.Process to)) (room_to_send node (pair_for node by to) room) (known_away node to s.away) (room_away node by to room roomy spent s)) where
      followed : (done : Followed) → CelledSo (λ verdict. verdict ≡ verdicts.Ok) (answered verdicts.Ok done)
      followed (Ok done) = refl
      followed (Err stop) = tt

      by_said : (done : Done) → CelledSo (λ verdict. verdict ≡ verdicts.Ok) (node_did end cell (stopping done))
      by_said (Ok done) = followed (acts_on end done.0 (with_node end done.1 cell) then all_items)
      by_said (Err stops.OutOfMemory) = tt
      by_said (Err stops.Worn) = tt

      by_tests : (short roomy spent : Bool) → CelledSo (λ verdict. verdict ≡ sent_away short roomy spent) (node_did end cell (allowed true errors.Unknown >>= (λ t. allowed short errors.Long >>= (λ s. (allowed roomy errors.Full >>= (λ waits. allowed (not spent) errors.Spent)) >>= (λ roomy. stopping (say node (pair_for node by to) said))))))
      by_tests false roomy spent = refl
      by_tests true false spent = refl
      by_tests true true true = refl
      by_tests true true false = by_said (say node (pair_for node by to) said)

      by_parts : (k r : Result (Unit {0}) CommandError) → k ≡ allowed true errors.Unknown → r ≡ (allowed roomy errors.Full >>= (λ waits. allowed (not spent) errors.Spent)) → CelledSo (λ verdict. verdict ≡ sent_away (is_short said) roomy spent) (node_did end cell (k >>= (λ t. allowed (is_short said) errors.Long >>= (λ s. r >>= (λ roomy. stopping (say node (pair_for node by to) said))))))
      by_parts k r e f = subst (λ (x : Result (Unit {0}) CommandError). CelledSo (λ verdict. verdict ≡ sent_away (is_short said) roomy spent) (node_did end cell (x >>= (λ t. allowed (is_short said) errors.Long >>= (λ s. r >>= (λ roomy. stopping (say node (pair_for node by to) said))))))) (sym e)
          (subst (λ (x : Result (Unit {0}) CommandError). CelledSo (λ verdict. verdict ≡ sent_away (is_short said) roomy spent) (node_did end cell (allowed true errors.Unknown >>= (λ t. allowed (is_short said) errors.Long >>= (λ s. x >>= (λ roomy. stopping (say node (pair_for node by to) said))))))) (sym f) (by_tests (is_short said) roomy spent))

-- ---- the answer that the log shows

long_so : (n : ℕ) → nat_lt 65536 n ≡ not (nat_le n 65536)
long_so n = by_test (nat_le n 65536) refl where
  by_test : (b : Bool) → nat_le n 65536 ≡ b → nat_lt 65536 n ≡ not b
  by_test true e = le-ltb 65536 n (leb-true n 65536 e)
  by_test false e = lt-ltb 65536 n (leb-false n 65536 e)

-- a payload more finds room by the log, and would open a connection too many
abbrev pub has_room : List Line → List Entry → List ℕ → List ℕ → Bool
has_room journal log x y = not (nat_le 4096 (waiting journal log x y))

abbrev pub is_spent : List Entry → ProcName → ProcName → Message → Bool
is_spent log by to said = begins_epoch log (lines.Send by (names.Process to) said.mark said.body) && nat_le 65535 (connections log by.node to.node)

pub live_answer : (journal : List Line) (log : List Entry) (by to : ProcName) (said : Message) → bytes_eq by.node to.node ≡ false → epochs.is_broken log by (names.Process to) ≡ false → bytes_eq by.node by.node ≡ true → bytes_eq to.node to.node ≡ true
    → answer_to_live journal log by (lines.Send by (names.Process to) said.mark said.body) ≡ sent_away (is_short said) (has_room journal log by.node to.node) (is_spent log by to said)
live_answer journal log by to said away unbroken x_self y_self = by_tests (bytes_eq by.node to.node) away (is_there log (names.Process to)) (nat_lt 65536 (length (spelling.user said))) (nat_le (length (spelling.user said)) 65536) (long_so (length (spelling.user said)))
    (epochs.is_broken log by (names.Process to)) unbroken (bytes_eq by.node by.node) x_self (bytes_eq to.node to.node) y_self (begins_epoch log (lines.Send by (names.Process to) said.mark said.body)) where
      full : Bool
      full = nat_le 4096 (waiting journal log by.node to.node)

      spent : Bool
      spent = nat_le 65535 (connections log by.node to.node)

      by_counts : (f g s : Bool) → cond f verdicts.Full (cond (g && s) verdicts.Spent verdicts.Ok) ≡ cond (not f) (cond (g && s) verdicts.Spent verdicts.Ok) verdicts.Full
      by_counts true g s = refl
      by_counts false g s = refl

      by_short : (l s g f p : Bool) → l ≡ not s → cond l verdicts.Long (cond f verdicts.Full (cond (g && p) verdicts.Spent verdicts.Ok)) ≡ sent_away s (not f) (g && p)
      by_short false true g f p e = by_counts f g p
      by_short true false g f p e = refl
      by_short true true g f p e = absurd cc
      by_short false false g f p e = absurd cc

      by_tests : (h : Bool) → h ≡ false → (made l s : Bool) → l ≡ not s → (broken : Bool) → broken ≡ false → (a : Bool) → a ≡ true → (b : Bool) → b ≡ true → (g : Bool)
          → cond (h && not made) verdicts.Unknown (cond l verdicts.Long (cond broken verdicts.Ok (cond ((((a && b) && not h) && not broken) && nat_le 4096 (waiting journal log by.node to.node)) verdicts.Full (cond (g && (not h && nat_le 65535 (connections log by.node to.node))) verdicts.Spent verdicts.Ok))))
          ≡ sent_away s (not (nat_le 4096 (waiting journal log by.node to.node))) (g && nat_le 65535 (connections log by.node to.node))
      by_tests false e made l s f false k true m true n g = by_short l s g (nat_le 4096 (waiting journal log by.node to.node)) (nat_le 65535 (connections log by.node to.node)) f
      by_tests true e made l s f broken k a m b n g = absurd cc
      by_tests false e made l s f true k a m b n g = absurd cc
      by_tests false e made l s f false k false m b n g = absurd cc
      by_tests false e made l s f false k true m false n g = absurd cc
