-- A line by which a process sends to one of its own node is answered as the log before it shows.
use Rattle.std.proofs.Common.{◌≡◌, ℕ, Bool, true, false, cond, not, ◌==◌, ◌&&◌, ◌||◌, length, List, [], ◌∷◌, Ok, Err, refl, sym, ap, ◌∙◌, subst}
use Rattle.std.proofs.lemmas.Bool.{and_parts, leb-true, leb-false, lt-ltb, le-ltb}
use Rattle.std.proofs.lemmas.Option.{slice_get-map}
use Rattle.std.proofs.lemmas.Slice.Eq.{bytes_eq-Decides}
use Rattle.std.specs.Option.{option_map}
use Rattle.std.specs.Prelude.{find, is_some, slice_get, unwrap_or, nat_le, nat_lt, Result, Option, Some, None}
use Rattle.std.specs.Str.{bytes_eq}
use Rattle.ch_base.specs.declared.address.Address.{Address}
use Rattle.ch_base.specs.declared.event.Room.{Room}
use Rattle.ch_base.specs.declared.memory.Stop.TheVariants as stops
use Rattle.ch_ident.specs.declared.identifier.ProcessId.{ProcessId}
use Rattle.ch_ident.specs.declared.message.Message.{Message}
use Rattle.ch_ident.specs.Spelling as spelling
use Rattle.ch_mail.specs.Lives.{is_live}
use Rattle.ch_mail.specs.Mail.{life_of}
use Rattle.ch_mail.specs.Process.{Process}
use Rattle.ch_static.specs.declared.command.Command.TheVariants as commands
use Rattle.ch_static.specs.declared.target.Target.{Target}
use Rattle.ch_static.specs.declared.target.Target.TheVariants as targets
use Rattle.ch_watch.specs.Same.{same_node}
use Rattle.ch_model.specs.declared.command.CommandError.{CommandError}
use Rattle.ch_model.specs.declared.command.CommandError.TheVariants as errors
use Rattle.ch_model.specs.declared.entry.Entry.{Entry}
use Rattle.ch_model.specs.declared.entry.Verdict.{Verdict}
use Rattle.ch_model.specs.declared.entry.Verdict.TheVariants as verdicts
use Rattle.ch_model.specs.declared.line.Line.{Line}
use Rattle.ch_model.specs.declared.line.What.TheVariants as lines
use Rattle.ch_model.specs.declared.name.ProcName.{ProcName}
use Rattle.ch_model.specs.declared.name.TargetName.TheVariants as names
use Rattle.ch_model.specs.Answers.{answer_to_live}
use Rattle.ch_model.specs.AnswersCounts.{says_to_broken, waiting, connections, begins_epoch}
use Rattle.ch_model.specs.Cell.{answered, node_did}
use Rattle.ch_model.specs.CellSteps.{Followed, ◌then◌, with_node, acts_on, all_items}
use Rattle.ch_model.specs.Life.{is_made, is_over, is_doomed, is_live as is_live_by}
use Rattle.ch_model.specs.Naming.{Names, is_named, or_nobody, named_as, address_as, process_as, target_as}
use Rattle.ch_model.specs.Node.{node_command}
use Rattle.ch_model.specs.NodeActs.{◌>>=◌, Done, stopping}
use Rattle.ch_model.specs.NodeCommands.{send_of}
use Rattle.ch_model.specs.NodeIds.{is_here, life_here, is_own, target_at}
use Rattle.ch_model.specs.NodePairs.{is_pair, new_pair, pair_of, same_target, same_process}
use Rattle.ch_model.specs.NodeRoom.{known, is_known, fitting, longest, not_full, not_spent, is_broken, room_to_send}
use Rattle.ch_model.specs.NodeSends.{say}
use Rattle.ch_model.specs.NodeState.{NodeState, Pair}
use Rattle.ch_model.specs.World.{names_of}
use Rattle.ch_model.specs.WorldHappenings.{Answered}
use Rattle.ch_model.specs.WorldLines.{line_done}
use Rattle.ch_model.specs.WorldState.{Named, World}
use Rattle.ch_laws_log.specs.Declared.{is_declared}
use Rattle.ch_laws_log.proofs.Homes.{node_self}
use Rattle.ch_laws_log.proofs.Keys.{node_is}
use Rattle.ch_laws_log.proofs.Stored.{number_same}
use Rattle.ch_laws_many.proofs.Answering.{AnsweredAs}
use Rattle.ch_laws_many.proofs.Reached.{IsJournal}
use Rattle.ch_laws_acting.specs.Rolls.{rests_of}
use Rattle.ch_laws_acting.proofs.ToldRests.{rests_told}
use Rattle.ch_laws_acting.proofs.LogRests.{answer_or, or_answer, there_so}
use Rattle.ch_laws_acting.proofs.Ends.{Ready, IsOf, CelledSo, AnswersSo, acts_so, AnsweredSo, asked_so, send_refused}
use Rattle.ch_laws_acting.proofs.Uniques.{IsOnce, AllFirst, all_first, found_first}

-- ---- the pair, the receiver and the room

pair_to : (pairs : List Pair) (by : ℕ) (to : ProcessId) → target_at (pair_of pairs by (targets.Process to)).to ≡ to.node
unfolding pair_of is_pair same_target same_process
pair_to [] by to = refl
pair_to (known ∷ rest) by to = by_test ((known.by == by) && same_target known.to (targets.Process to)) refl (pair_to rest by to) where
  at_to : (t : Target) → same_target t (targets.Process to) ≡ true → target_at t ≡ to.node
  at_to (targets.Process p) h = node_is p.node to.node (and_parts (same_node p.node to.node) ((p.unique == to.unique) && (p.counter == to.counter)) h).0
  at_to (targets.Port p) h = absurd cc
  at_to (targets.Named at name) h = absurd cc

  by_test : (x : Bool) → ((known.by == by) && same_target known.to (targets.Process to)) ≡ x → target_at (unwrap_or (find (is_pair by (targets.Process to)) rest) (new_pair by (targets.Process to))).to ≡ to.node
      → target_at (unwrap_or (cond x (Some known) (find (is_pair by (targets.Process to)) rest)) (new_pair by (targets.Process to))).to ≡ to.node
  by_test true h more = at_to known.to (and_parts (known.by == by) (same_target known.to (targets.Process to)) h).1
  by_test false h more = more

abbrev allowed : Bool → CommandError → Result (Unit {0}) CommandError
allowed b e = cond b (Ok tt) (Err e)

known_here : (node : NodeState) (to : ProcessId) → is_here node to.node ≡ true → to.unique ≡ node.unique → known node (targets.Process to) ≡ allowed (is_some (slice_get (rests_of node.mail) to.counter)) errors.Unknown
unfolding known is_known life_here is_own life_of
known_here node to h u = by_test (is_here node to.node) (to.unique == node.unique) h (ap (λ (n : ℕ). n == node.unique) u ∙ number_same node.unique) where
  some_so : (o : Option Process) → is_some (option_map (λ (p : Process). p.life) o) ≡ is_some (option_map (λ (p : Process). not (is_live p.life)) o)
  some_so None = refl
  some_so (Some process) = refl

  by_test : (a b : Bool) → a ≡ true → b ≡ true → allowed (not a || is_some (cond (a && b) (option_map (λ (p : Process). p.life) (slice_get node.mail to.counter)) None)) errors.Unknown ≡ allowed (is_some (slice_get (rests_of node.mail) to.counter)) errors.Unknown
  by_test true true e f = ap (λ (x : Bool). allowed x errors.Unknown) (some_so (slice_get node.mail to.counter) ∙ ap is_some (sym (slice_get-map (λ (p : Process). not (is_live p.life)) node.mail to.counter)))
  by_test true false e f = absurd cc
  by_test false b e f = absurd cc

room_here : (node : NodeState) (pair : Pair) (room : Room) → is_here node (target_at pair.to) ≡ true → room_to_send node pair room ≡ Ok tt
unfolding room_to_send
room_here node pair room h = by_test (is_here node (target_at pair.to)) h where
  by_test : (b : Bool) → b ≡ true → cond (b || is_broken pair.mark) (Ok tt) (not_full node (target_at pair.to) room >>= (λ waits. not_spent node pair room)) ≡ Ok tt
  by_test true e = refl
  by_test false e = absurd cc

-- the answer to a live process that sends to one of its own node, by whether that was made, and whether the message fits
abbrev sent_as : Bool → Bool → Verdict
sent_as there short = cond there (cond short verdicts.Ok verdicts.Long) verdicts.Unknown

abbrev is_short : Message → Bool
is_short said = nat_le (length (spelling.user said)) longest

sends_here : (is : NodeState → Type 0) (by : ℕ) (to : ProcessId) (there : Bool) (said : Message) → ((node : NodeState) → is node → (is_here node to.node ≡ true) × (to.unique ≡ node.unique) × (is_some (slice_get (rests_of node.mail) to.counter) ≡ there)) → AnswersSo is (λ o verdict. verdict ≡ answer_or (sent_as there (is_short said)) o) by (commands.Send (targets.Process to) said)
unfolding node_command send_of fitting
sends_here is by to there said facts end cell node room of = acts_so (λ o verdict. verdict ≡ answer_or (sent_as there (is_short said)) o) end cell node by _ refl refl (λ live. by_parts (known node (targets.Process to)) (room_to_send node (pair_of node.pairs by (targets.Process to)) room)
    (known_here node to (facts node of).0 (facts node of).1 ∙ ap (λ (b : Bool). allowed b errors.Unknown) (facts node of).2)
    (room_here node (pair_of node.pairs by (targets.Process to)) room (ap (is_here node) (pair_to node.pairs by to) ∙ (facts node of).0))) where
      followed : (done : Followed) → CelledSo (λ verdict. verdict ≡ verdicts.Ok) (answered verdicts.Ok done)
      followed (Ok done) = refl
      followed (Err stop) = tt

      by_said : (done : Done) → CelledSo (λ verdict. verdict ≡ verdicts.Ok) (node_did end cell (stopping done))
      by_said (Ok done) = followed (acts_on end done.0 (with_node end done.1 cell) then all_items)
      by_said (Err stops.OutOfMemory) = tt
      by_said (Err stops.Worn) = tt

      by_tests : (there short : Bool) → CelledSo (λ verdict. verdict ≡ sent_as there short) (node_did end cell (allowed there errors.Unknown >>= (λ t. allowed short errors.Long >>= (λ s. allowed true errors.Full >>= (λ roomy. stopping (say node (pair_of node.pairs by (targets.Process to)) said))))))
      by_tests false short = refl
      by_tests true false = refl
      by_tests true true = by_said (say node (pair_of node.pairs by (targets.Process to)) said)

      by_parts : (k r : Result (Unit {0}) CommandError) → k ≡ allowed there errors.Unknown → r ≡ Ok tt → CelledSo (λ verdict. verdict ≡ sent_as there (is_short said)) (node_did end cell (k >>= (λ t. allowed (is_short said) errors.Long >>= (λ s. r >>= (λ roomy. stopping (say node (pair_of node.pairs by (targets.Process to)) said))))))
      by_parts k r e f = subst (λ (x : Result (Unit {0}) CommandError). CelledSo (λ verdict. verdict ≡ sent_as there (is_short said)) (node_did end cell (x >>= (λ t. allowed (is_short said) errors.Long >>= (λ s. r >>= (λ roomy. stopping (say node (pair_of node.pairs by (targets.Process to)) said))))))) (sym e)
          (subst (λ (x : Result (Unit {0}) CommandError). CelledSo (λ verdict. verdict ≡ sent_as there (is_short said)) (node_did end cell (allowed there errors.Unknown >>= (λ t. allowed (is_short said) errors.Long >>= (λ s. x >>= (λ roomy. stopping (say node (pair_of node.pairs by (targets.Process to)) said))))))) (sym f) (by_tests there (is_short said)))

-- ---- the answer that the log shows

long_so : (n : ℕ) → nat_lt 65536 n ≡ not (nat_le n 65536)
long_so n = by_test (nat_le n 65536) refl where
  by_test : (b : Bool) → nat_le n 65536 ≡ b → nat_lt 65536 n ≡ not b
  by_test true e = le-ltb 65536 n (leb-true n 65536 e)
  by_test false e = lt-ltb 65536 n (leb-false n 65536 e)

live_answer : (journal : List Line) (log : List Entry) (by to : ProcName) (mark body : List ℕ) → bytes_eq by.node to.node ≡ true → answer_to_live journal log by (lines.Send by (names.Process to) mark body) ≡ sent_as (is_made log to) (is_short (record { mark = mark; body = body }))
live_answer journal log by to mark body here = by_tests (bytes_eq by.node to.node) here (is_made log to) (nat_lt 65536 (length (spelling.user (record { mark = mark; body = body })))) (nat_le (length (spelling.user (record { mark = mark; body = body }))) 65536) (long_so (length (spelling.user (record { mark = mark; body = body }))))
    (says_to_broken log (lines.Send by (names.Process to) mark body)) (bytes_eq by.node by.node) (bytes_eq to.node to.node) (begins_epoch log (lines.Send by (names.Process to) mark body)) where
      full : Bool
      full = nat_le 4096 (waiting journal log by.node to.node)

      spent : Bool
      spent = nat_le 65535 (connections log by.node to.node)

      on_broken : (broken x g : Bool) → cond broken verdicts.Ok (cond (((x && false) && not broken) && full) verdicts.Full (cond (g && (false && spent)) verdicts.Spent verdicts.Ok)) ≡ verdicts.Ok
      on_broken true x g = refl
      on_broken false true true = refl
      on_broken false true false = refl
      on_broken false false true = refl
      on_broken false false false = refl

      by_tests : (h : Bool) → h ≡ true → (made l s : Bool) → l ≡ not s → (broken a b g : Bool)
          → cond (h && not made) verdicts.Unknown (cond l verdicts.Long (cond broken verdicts.Ok (cond ((((a && b) && not h) && not broken) && full) verdicts.Full (cond (g && (not h && spent)) verdicts.Spent verdicts.Ok)))) ≡ sent_as made s
      by_tests true e false l s f broken a b g = refl
      by_tests true e true l true f broken a b g = ap (λ (x : Bool). cond x verdicts.Long (cond broken verdicts.Ok (cond ((((a && b) && false) && not broken) && full) verdicts.Full (cond (g && (false && spent)) verdicts.Spent verdicts.Ok)))) f ∙ on_broken broken (a && b) g
      by_tests true e true l false f broken a b g = ap (λ (x : Bool). cond x verdicts.Long (cond broken verdicts.Ok (cond ((((a && b) && false) && not broken) && full) verdicts.Full (cond (g && (false && spent)) verdicts.Spent verdicts.Ok)))) f
      by_tests false e made l s f broken a b g = absurd cc

-- the unique number of the name's node
unique_is : (known : Names) (name : List ℕ) (own : Address) (unique : ℕ) → AllFirst known known → is_declared known name ≡ true → own ≡ address_as known name → IsOnce known own unique → (named_as known name).unique ≡ unique
unique_is known name own unique all declared at once = by_found (find (is_named name) known) refl declared at where
  by_found : (o : Option Named) → find (is_named name) known ≡ o → is_some o ≡ true → own ≡ (or_nobody o).address → (or_nobody o).unique ≡ unique
  by_found None e some at = absurd cc
  by_found (Some d) e some at =
      let first : find (λ (n : Named). same_node n.address own) known ≡ Some d = subst (λ (a : Address). find (λ (n : Named). same_node n.address a) known ≡ Some d) (sym at) (found_first known (is_named name) known d all e) in
      let both : Some d ≡ Some once.0 = sym first ∙ once.1 in
      let is : d ≡ once.0 = cc in ap (λ (m : Named). m.unique) is ∙ once.2

sent_here : (journal : List Line) → IsJournal journal → (log : List Entry) (world : World) (by to : ProcName) (mark body : List ℕ) → is_declared (names_of journal) by.node ≡ true → bytes_eq by.node to.node ≡ true → Ready journal log world
    → AnsweredAs journal log (lines.Send by (names.Process to) mark body) (line_done (lines.Send by (names.Process to) mark body) world)
sent_here journal j log world by to mark body declared here r = by_done (line_done (lines.Send by (names.Process to) mark body) world) (asked_so journal j log world by (commands.Send (target_as world.names (names.Process to)) said) (λ o verdict. verdict ≡ answer_or (sent_as (is_made log to) (is_short said)) o) declared r
    (sends_here (IsOf journal log by.node) by.counter (process_as world.names to) (is_made log to) said (λ node of. (
      ap (λ (a : Address). same_node a node.own) (ap (λ (ns : Names). address_as ns to.node) r.set.names ∙ ap (address_as (names_of journal)) (sym same) ∙ sym of.own) ∙ node_self node.own,
      ap (λ (ns : Names). (named_as ns to.node).unique) r.set.names ∙ ap (λ (n : List ℕ). (named_as (names_of journal) n).unique) (sym same) ∙ unique_is (names_of journal) by.node node.own node.unique (all_first (names_of journal) j.apart) declared of.own of.once,
      ap (λ (l : List Bool). is_some (slice_get l to.counter)) of.rests ∙ ap (λ (n : List ℕ). is_some (slice_get (rests_told n log) to.counter)) same ∙ there_so log to r.lives.allowed r.unshut,
    )))) where
      said : Message
      said = record { mark = mark; body = body }

      same : by.node ≡ to.node
      same = (bytes_eq-Decides by.node to.node).0 here

      by_done : (done : Answered) → AnsweredSo (λ verdict. verdict ≡ answer_or (sent_as (is_made log to) (is_short said)) (slice_get (rests_told by.node log) by.counter)) done → AnsweredAs journal log (lines.Send by (names.Process to) mark body) done
      by_done (Ok done) e = e ∙ sym (or_answer log by (sent_as (is_made log to) (is_short said)) r.lives.allowed r.unshut) ∙ ap (λ (v : Verdict). cond (not (is_made log by)) verdicts.Unknown (cond (is_over log by || is_doomed log by && true) verdicts.Dead v)) (sym (live_answer journal log by to mark body here))
      by_done (Err stop) e = tt

pub send_answered : (journal : List Line) → IsJournal journal → (log : List Entry) (world : World) (by to : ProcName) (mark body : List ℕ) → is_declared (names_of journal) by.node ≡ true → Ready journal log world → (not (is_live_by log by) || bytes_eq by.node to.node) ≡ true
    → AnsweredAs journal log (lines.Send by (names.Process to) mark body) (line_done (lines.Send by (names.Process to) mark body) world)
send_answered journal j log world by to mark body declared r such = by_tests (not (is_live_by log by)) (bytes_eq by.node to.node) refl refl such where
  by_tests : (dead here : Bool) → not (is_live_by log by) ≡ dead → bytes_eq by.node to.node ≡ here → (dead || here) ≡ true → AnsweredAs journal log (lines.Send by (names.Process to) mark body) (line_done (lines.Send by (names.Process to) mark body) world)
  by_tests true here d h such = send_refused journal j log world by to mark body declared d r
  by_tests false true d h such = sent_here journal j log world by to mark body declared h r
  by_tests false false d h such = absurd cc
