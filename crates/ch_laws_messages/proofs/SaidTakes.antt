-- A process takes a message from its mailbox: nothing is said.
use Rattle.std.proofs.Common.{◌≡◌, ◌⊎◌, inl, inr, ◌≤◌, ℕ, Bool, true, false, cond, List, [], ◌∷◌, ◌++◌, length, Ok, Err, refl, sym, ap, ◌∙◌, subst, arith}
use Rattle.std.specs.Option.{option_map}
use Rattle.std.specs.Prelude.{find, slice_get, slice_set, Option, Some, None, Result, ◌==◌}
use Rattle.ch_ident.specs.declared.identifier.ProcessId.{ProcessId}
use Rattle.ch_ident.specs.declared.message.Message.{Message}
use Rattle.ch_base.specs.declared.event.Room.{Room}
use Rattle.ch_mail.specs.declared.error.MailError.{MailError}
use Rattle.ch_mail.specs.declared.error.MailError.TheVariants.{NotLive, Empty}
use Rattle.ch_mail.specs.declared.life.Life.{Life}
use Rattle.ch_mail.specs.Lives.{is_live}
use Rattle.ch_mail.specs.Mail.{◌>>=◌, there_or, taken_from, take_of, life_of}
use Rattle.ch_mail.specs.Queue.{first_of_mark}
use Rattle.ch_mail.specs.Process.{Process}
use Rattle.ch_static.specs.declared.command.Command.TheVariants as commands
use Rattle.ch_static.specs.declared.target.Target.TheVariants as targets
use Rattle.ch_model.specs.declared.act.Act.{Act}
use Rattle.ch_model.specs.declared.act.Act.TheVariants as acts
use Rattle.ch_model.specs.declared.command.CommandError.{CommandError}
use Rattle.ch_model.specs.declared.entry.Entry.{Entry}
use Rattle.ch_model.specs.declared.line.Line.{Line}
use Rattle.ch_model.specs.declared.local.LocalEntry.{LocalEntry}
use Rattle.ch_model.specs.declared.local.LocalEntry.TheVariants as local
use Rattle.ch_model.specs.declared.note.Note.TheVariants as notes
use Rattle.ch_model.specs.CellSteps.{is_at, with_node, acts_on}
use Rattle.ch_model.specs.Node.{node_command}
use Rattle.ch_model.specs.NodeActs as node_acts
use Rattle.ch_model.specs.NodeActs.{mailed}
use Rattle.ch_model.specs.NodeCommands.{receive_of}
use Rattle.ch_model.specs.NodeIds.{process_id, is_own}
use Rattle.ch_model.specs.NodePairs.{is_pair, pair_of}
use Rattle.ch_model.specs.NodeRoom.{acting}
use Rattle.ch_model.specs.NodeState.{NodeState, Pair}
use Rattle.ch_model.specs.WorldState.{Cell, World}
use Rattle.ch_race.specs.Pair.{Side}
use Rattle.ch_laws_bytes.proofs.Event.{set_at}
use Rattle.ch_laws_calls.specs.Scenes.{IsPairOf}
use Rattle.ch_laws_plain_nodes.specs.Does.{Takes}
use Rattle.ch_laws_plain_nodes.specs.Plain.{IsPlain}
use Rattle.ch_laws_plain_nodes.proofs.Commands.{does_take}
use Rattle.ch_laws_race.specs.Scene.{Party}
use Rattle.ch_laws_writes.proofs.Worlds.{number_is}
use Rattle.ch_laws_calls.specs.Turns.{told_on}
use Rattle.ch_laws_peers.specs.Says.{node_in, node_of, Says, AllSay}
use Rattle.ch_laws_peers.specs.Standing.{Standing}
use Rattle.ch_laws_messages.specs.SaidGoes.{given_to, mark_of, NodeStays}
use Rattle.ch_laws_messages.proofs.SaidMakes.{one_note, stored_in, seen_in}
use Rattle.ch_laws_messages.proofs.SaidStill.{AreQuiet, node_same, quiet_turn}
use Rattle.ch_laws_messages.proofs.SaidHears.{lives_by, living_is, own_so, set_length}

-- ---- lives

pair_is : {A : Type 0} {x y : A} → ◌≡◌ {A = Result A MailError} (Ok x) (Ok y) → x ≡ y
pair_is e = cc

-- taking leaves the process's life
taken_life : (process : Process) (mark : List ℕ) (taken : Message × Process) → taken_from process mark ≡ Ok taken → taken.1.life ≡ process.life
unfolding taken_from
taken_life process mark taken e = by_live (is_live process.life) e where
  by_first : (o : Option (Message × List Message)) → (there_or Empty o >>= (λ (x : Message × List Message). Ok (x.0, record process { mailbox = x.1 }))) ≡ Ok taken → taken.1.life ≡ process.life
  by_first None e = absurd cc
  by_first (Some x) e = let is : ◌≡◌ {A = Message × Process} (x.0, record process { mailbox = x.1 }) taken = pair_is e in sym (ap (λ (t : Message × Process). t.1.life) is)

  by_live : (b : Bool) → cond b (there_or Empty (first_of_mark mark process.mailbox) >>= (λ (x : Message × List Message). Ok (x.0, record process { mailbox = x.1 }))) (Err NotLive) ≡ Ok taken → taken.1.life ≡ process.life
  by_live true e = by_first (first_of_mark mark process.mailbox) e
  by_live false e = absurd cc

-- so it is of all
pub take_lives : (mail : List Process) (number : ℕ) (mark : List ℕ) (r : Message × List Process) → take_of mail number mark ≡ Ok r → (length r.1 ≡ length mail) × ((k : ℕ) → life_of r.1 k ≡ life_of mail k)
unfolding take_of life_of
take_lives mail number mark r e = by_process (slice_get mail number) refl e where
  by_taken : (process : Process) → slice_get mail number ≡ Some process → (t : Result (Message × Process) MailError) → taken_from process mark ≡ t → (t >>= (λ (taken : Message × Process). Ok (taken.0, slice_set mail number taken.1))) ≡ Ok r → (length r.1 ≡ length mail) × ((k : ℕ) → option_map (λ (p : Process). p.life) (slice_get r.1 k) ≡ option_map (λ (p : Process). p.life) (slice_get mail k))
  by_taken process at (Err x) h e = absurd cc
  by_taken process at (Ok taken) h e = subst (λ (l : List Process). (length l ≡ length mail) × ((k : ℕ) → option_map (λ (p : Process). p.life) (slice_get l k) ≡ option_map (λ (p : Process). p.life) (slice_get mail k))) (ap (λ (t : Message × List Process). t.1) same)
      (set_length mail number taken.1, λ k. ap (option_map (λ (p : Process). p.life)) (set_at mail number process taken.1 k at) ∙ by_test k (number == k) refl)
    where
      same : ◌≡◌ {A = Message × List Process} (taken.0, slice_set mail number taken.1) r
      same = pair_is e

      by_test : (k : ℕ) (b : Bool) → (number == k) ≡ b → option_map (λ (p : Process). p.life) (cond b (Some taken.1) (slice_get mail k)) ≡ option_map (λ (p : Process). p.life) (slice_get mail k)
      by_test k true g = ap (λ (l : Life). Some l) (taken_life process mark taken h) ∙ sym (ap (option_map (λ (p : Process). p.life)) (ap (slice_get mail) (sym (number_is number k g)) ∙ at))
      by_test k false g = refl

  by_process : (o : Option Process) → slice_get mail number ≡ o → (there_or NotLive o >>= (λ (process : Process). taken_from process mark >>= (λ (taken : Message × Process). Ok (taken.0, slice_set mail number taken.1)))) ≡ Ok r → (length r.1 ≡ length mail) × ((k : ℕ) → option_map (λ (p : Process). p.life) (slice_get r.1 k) ≡ option_map (λ (p : Process). p.life) (slice_get mail k))
  by_process None h e = absurd cc
  by_process (Some process) h e = by_taken process h (taken_from process mark) refl e

-- a node after it
record Lives (before after : NodeState) : Type 0 where
  long : length after.mail ≡ length before.mail
  lives : (k : ℕ) → life_of after.mail k ≡ life_of before.mail k

takes_lives : (node next : NodeState) (by : ℕ) (mark : List ℕ) (room : Room) (done : List Act) → node_command node by (commands.Receive mark) room ≡ Ok (done, next) → Lives node next
unfolding node_command receive_of
takes_lives node next by mark room done e = by_acting (acting node by) e where
  by_taken : (t : Result (Message × List Process) MailError) → take_of node.mail by mark ≡ t → node_acts.◌>>=◌ {B = List Act × NodeState} (mailed t) (λ (taken : Message × List Process). Ok (acts.Note (notes.Took (process_id node by) None taken.0) ∷ [], record node { mail = taken.1 })) ≡ Ok (done, next) → Lives node next
  by_taken (Err x) h e = absurd cc
  by_taken (Ok taken) h e =
      let same : ◌≡◌ {A = List Act × NodeState} (acts.Note (notes.Took (process_id node by) None taken.0) ∷ [], record node { mail = taken.1 }) (done, next) = cc in
      let k = take_lives node.mail by mark taken h in
      subst (λ (n : NodeState). Lives node n) (ap (λ (x : List Act × NodeState). x.1) same) (record { long = k.0; lives = k.1 })

  by_acting : (a : Result (Unit {0}) CommandError) → node_acts.◌>>=◌ {B = List Act × NodeState} a (λ (live : Unit {0}). node_acts.◌>>=◌ {B = List Act × NodeState} (mailed (take_of node.mail by mark)) (λ (taken : Message × List Process). Ok (acts.Note (notes.Took (process_id node by) None taken.0) ∷ [], record node { mail = taken.1 }))) ≡ Ok (done, next) → Lives node next
  by_acting (Err x) e = absurd cc
  by_acting (Ok live) e = by_taken (take_of node.mail by mark) refl e

-- ---- the turn

taken_stays : (journal : List Line) (log : List Entry) (party : Side → Party) (x : Side) (world after : World) (node next : NodeState) → Says journal log world party x → node_of party world x ≡ Some node → next ≡ record node { mail = next.mail; args = next.args } → Lives node next
    → ((conn id : ℕ) → given_to party world x conn ≡ Some id → given_to party after x conn ≡ Some id) → NodeStays party x world after next
taken_stays journal log party x world after node next s there same l kept = record {
  was = node;
  there = there;
  own = own;
  made = less (length node.mail) (length next.mail) l.long;
  declared = λ pair to found is at. s.declared node pair to there (subst (λ (l : List Pair). find (is_pair pair.by pair.to) l ≡ Some pair) pairs found) is at;
  opened = λ by to conn at marked. (marks by to ∙ marked, λ id given. kept conn id given);
  unopened = λ by to at marked living. inl (marks by to ∙ marked, living_is node by ∙ ap (λ (o : Option Life). lives_by (is_own node (process_id node by)) o) (sym (l.lives by)) ∙ ap (λ (b : Bool). lives_by b (life_of next.mail by)) (sym (own_so next node by own (ap (λ (n : NodeState). n.unique) same))) ∙ sym (living_is next by) ∙ living);
  unbroken = λ by to at marked. marks by to ∙ marked;
} where
  less : (a b : ℕ) → b ≡ a → a ≤ b
  less a b e = omega arith

  own : next.own ≡ node.own
  own = ap (λ (n : NodeState). n.own) same

  pairs : next.pairs ≡ node.pairs
  pairs = ap (λ (n : NodeState). n.pairs) same

  marks : (by : ℕ) (to : ProcessId) → mark_of node by to ≡ mark_of next by to
  marks by to = ap (λ (l : List Pair). (pair_of l by (targets.Process to)).mark) (sym pairs)

-- the turn of field asked, where a process takes
pub taken_say : (journal : List Line) (log : List Entry) (world : World) (place : ℕ) (cell : Cell × ℕ) (end number : ℕ) (node : NodeState) (by : ℕ) (mark : List ℕ) (room : Room) (done : List Act) (next : NodeState) (told : List LocalEntry) (after : Cell) → slice_get world.cells place ≡ Some cell → find (is_at end) cell.0.nodes ≡ Some (number, node)
    → node_command node by (commands.Receive mark) room ≡ Ok (done, next) → acts_on end done (with_node end next cell.0) ≡ Ok (told, after) → Standing journal log world → AllSay journal log world → let all = told_on place cell after told world in AllSay journal (log ++ all.0) all.1
taken_say journal log world place cell end number node by mark room done next told after at found does all st say = quiet_turn journal log world place cell told after at (subst AreQuiet (sym is.0) (tt, tt)) (ap (λ (c : Cell). c.host) is.1) st say
    (λ party x now pair here there kept. by_stored party x now pair here kept (stored_in end (party x).address.id cell.1 next now cell.0 (subst (λ (c : Cell). node_in (Some (c, cell.1)) (party x).address.id ≡ Some now) is.1 there)))
  where
    plain : IsPlain node
    plain = ((st.plain.cells place cell at).nodes end (number, node) found).plain

    t : Takes node by done next
    t = does_take node next by mark room done plain does

    is : (told ≡ local.Note (notes.Took (process_id node by) None t.said) ∷ []) × (after ≡ with_node end next cell.0)
    is = one_note end (notes.Took (process_id node by) None t.said) (with_node end next cell.0) told after (subst (λ (l : List Act). acts_on end l (with_node end next cell.0) ≡ Ok (told, after)) t.did all)

    by_stored : (party : Side → Party) (x : Side) (now : NodeState) → IsPairOf journal party → place ≡ (party x).place → ((conn id : ℕ) → given_to party world x conn ≡ Some id → given_to party (told_on place cell after told world).1 x conn ≡ Some id) → ((end ≡ (party x).address.id) × (now ≡ next)) ⊎ (node_in (Some cell) (party x).address.id ≡ Some now) → NodeStays party x world (told_on place cell after told world).1 now
    by_stored party x now pair here kept (inl own) = subst (NodeStays party x world (told_on place cell after told world).1) (sym own.1) (taken_stays journal log party x world (told_on place cell after told world).1 node next (say party pair x) (seen_in party x world place end number cell node at here own.0 found) t.tells.same (takes_lives node next by mark room done does) kept)
    by_stored party x now pair here kept (inr there) = node_same journal log party x world (told_on place cell after told world).1 now (say party pair x) (ap (λ (p : ℕ). node_in (slice_get world.cells p) (party x).address.id) (sym here) ∙ ap (λ (o : Option (Cell × ℕ)). node_in o (party x).address.id) at ∙ there) kept
