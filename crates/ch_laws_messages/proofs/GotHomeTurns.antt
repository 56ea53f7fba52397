-- In each turn of a node as much is got within it as is said there, as long as the receiver isn't over; and what is got is the next.
use Rattle.std.proofs.Common.{◌≡◌, inl, inr, ℕ, ◌+◌, Bool, true, false, not, ◌&&◌, ◌||◌, List, [], ◌∷◌, ◌++◌, length, map, Ok, refl, sym, ap, ◌∙◌, subst, arith}
use Rattle.std.specs.Prelude.{count_by, find, slice_get, Some, None, ◌==◌}
use Rattle.std.specs.Str.{bytes_eq}
use Rattle.std.proofs.lemmas.Slice.Eq.{bytes_eq-Decides}
use Rattle.ch_base.specs.declared.address.Address.{Address}
use Rattle.ch_base.specs.declared.event.Room.{Room}
use Rattle.ch_ident.specs.declared.identifier.ProcessId.{ProcessId}
use Rattle.ch_ident.specs.declared.message.Message.{Message}
use Rattle.ch_mail.specs.Mail.{put_of}
use Rattle.ch_static.specs.declared.command.Command.{Command}
use Rattle.ch_static.specs.declared.command.Command.TheVariants as commands
use Rattle.ch_static.specs.declared.target.Target.TheVariants as targets
use Rattle.ch_watch.specs.Same.{same_node}
use Rattle.ch_model.specs.declared.act.Act.{Act}
use Rattle.ch_model.specs.declared.act.Act.TheVariants as acts
use Rattle.ch_model.specs.declared.entry.Entry.{Entry}
use Rattle.ch_model.specs.declared.entry.Entry.TheVariants as entries
use Rattle.ch_model.specs.declared.line.Line.{Line}
use Rattle.ch_model.specs.declared.local.LocalEntry.{LocalEntry}
use Rattle.ch_model.specs.declared.local.LocalEntry.TheVariants as local
use Rattle.ch_model.specs.declared.name.ProcName.{ProcName}
use Rattle.ch_model.specs.declared.name.TargetName.TheVariants as names
use Rattle.ch_model.specs.declared.note.Note.TheVariants as notes
use Rattle.ch_model.specs.CellSteps.{is_at, with_node, acts_on}
use Rattle.ch_model.specs.Delivery.{gets_in, hears_from, gets_over_link}
use Rattle.ch_model.specs.Epochs.{has_next_index, index_of}
use Rattle.ch_model.specs.Logs.{each_after}
use Rattle.ch_model.specs.Naming.{Names, called, address_as, process_as, process_called}
use Rattle.ch_model.specs.Node.{node_make, node_command}
use Rattle.ch_model.specs.NodeIds.{process_id, is_here}
use Rattle.ch_model.specs.NodePairs.{conns_by}
use Rattle.ch_model.specs.NodeState.{NodeState, Mark, Unopened, Opened, Broken}
use Rattle.ch_model.specs.World.{names_of}
use Rattle.ch_model.specs.WorldHappenings.{with_cell}
use Rattle.ch_model.specs.WorldState.{Cell, World}
use Rattle.ch_laws_bytes.proofs.Told.{told_names}
use Rattle.ch_laws_ends.proofs.Changes.{told_cells}
use Rattle.ch_laws_items.proofs.Nodes as stays
use Rattle.ch_laws_log.specs.Declared.{is_declared}
use Rattle.ch_laws_log.proofs.Blocks.{each_append}
use Rattle.ch_laws_log.proofs.Homes.{called_so, node_self}
use Rattle.ch_laws_log.proofs.Keys.{node_is}
use Rattle.ch_laws_log.proofs.Stored.{number_is, number_same}
use Rattle.ch_laws_plain.specs.AsksAsks.{SendsToDeclared, AsksPlainly}
use Rattle.ch_laws_plain.proofs.AsksCommands.{plain_command}
use Rattle.ch_laws_plain_logs.specs.Plain.{IsPlain}
use Rattle.ch_laws_plain_nodes.specs.Does.{pair_between, said_note, sent_acts}
use Rattle.ch_laws_plain_nodes.specs.Plain.{IsPlain as IsPlainNode, IsPlainCommand}
use Rattle.ch_laws_plain_nodes.proofs.Commands as plain
use Rattle.ch_laws_calls.specs.Turns.{told_on}
use Rattle.ch_laws_messages.specs.MailMail.{is_gone, waiting_for}
use Rattle.ch_laws_messages.proofs.MailCalls.{test_at}
use Rattle.ch_laws_messages.proofs.MailMails.{Changes, AllPut, put_changes, TakesFirst, AllTaken, take_changes}
use Rattle.ch_laws_messages.proofs.MailNodes as mail
use Rattle.ch_laws_peers.specs.Reads.{gets_of}
use Rattle.ch_laws_peers.specs.Standing.{IsOfNodes}
use Rattle.ch_laws_messages.specs.WayReadingGoes.{Known}
use Rattle.ch_laws_messages.specs.GotReceived.{says_of, AllGotHome, gets_the_next_within, AllReceived}
use Rattle.ch_laws_messages.specs.GotSaidWell.{SaidWell}
use Rattle.ch_laws_messages.proofs.GotApart.{ActsApart, acts_apart, acts_nodes, told_even}
use Rattle.ch_laws_messages.proofs.GotGots.{ActsGetNone, acts_silent, at_end, closes_none, sent_none}
use Rattle.ch_laws_messages.proofs.GotHomeSends as home
use Rattle.ch_laws_messages.proofs.GotLists.{clash}
use Rattle.ch_laws_messages.proofs.GotNodes.{ok_is}
use Rattle.ch_laws_messages.proofs.GotOver.{none_over, second_true}
use Rattle.ch_laws_messages.proofs.GotTold.{is_receipt, NoGots, got_both}
use Rattle.ch_laws_messages.proofs.GotTurn.{first_said}
use Rattle.ch_laws_messages.proofs.GotWithin.{NoneBack, none_back_same, none_back_keeps, none_back_changes, Came, node_came, AllEven, all_even, home_on, one_even, lost_even}

-- entries that get nothing
pub none_within : (log more : List Entry) → NoGots more → each_after gets_the_next_within log more ≡ true
none_within log [] n = refl
none_within log (x ∷ more) n = ap (λ (b : Bool). b && each_after gets_the_next_within (log ++ x ∷ []) more) (one x n.0) ∙ none_within (log ++ x ∷ []) more n.1 where
  one : (x : Entry) → is_receipt x ≡ false → gets_the_next_within log x ≡ true
  one (entries.Got by to epoch index receiver) e = absurd cc
  one x e = refl

first_true : (a b : Bool) → a ≡ true → (a || b) ≡ true
first_true true b e = refl
first_true false b e = absurd cc

sent_apart : (known : Names) (node : NodeState) (by : ℕ) (to : ProcessId) (said : Message) (mark : Mark) → ActsApart known (sent_acts node by to said mark)
sent_apart known node by to said Unopened = tt
sent_apart known node by to said (Opened conn) = tt
sent_apart known node by to said Broken = tt

closes_apart : (known : Names) (conns : List ℕ) → ActsApart known (map (λ conn. acts.Close conn) conns)
closes_apart known [] = tt
closes_apart known (conn ∷ rest) = closes_apart known rest

module _ (journal : List Line) (nodes : IsOfNodes journal) (log : List Entry) (world : World) (k : Known journal log world) (r : AllReceived log world) where
  known_is : world.names ≡ names_of journal
  known_is = k.0.all.sound.ends.set.names

  pub received_on : (more : List Entry) (after : World) → AllGotHome (log ++ more) after → each_after gets_the_next_within log more ≡ true → each_after gets_over_link log more ≡ true → AllReceived (log ++ more) after
  received_on more after h w o = record { home = h; within = each_append gets_the_next_within [] log more r.within w; over = each_append gets_over_link [] log more r.over o }

  -- nothing is got
  pub silent_on : (more : List Entry) (after : World) → after.names ≡ world.names → Came world after → AllEven world more after → NoGots more → AllReceived (log ++ more) after
  silent_on more after same came even none = received_on more after (home_on log more world after same came even r.home) (none_within log more none) (none_over log more none)

  module _ (place end number : ℕ) (cell : Cell × ℕ) (node : NodeState) (at : slice_get world.cells place ≡ Some cell) (found : find (is_at end) cell.0.nodes ≡ Some (number, node)) (done : List Act) (next : NodeState) (told : List LocalEntry) (after : Cell) (ran : acts_on end done (with_node end next cell.0) ≡ Ok (told, after)) where
    abbrev kept : World
    kept = with_cell place (after, cell.1) world

    abbrev final : List Entry × World
    final = told_on place cell after told world

    names_now : final.1.names ≡ world.names
    names_now = told_names place after told kept

    came : next.own ≡ node.own → NoneBack node.mail next.mail → Came world final.1
    came own back = node_came world final.1 place end cell (after, cell.1) (number, node) next at (told_cells place after told kept) found (acts_nodes end done (with_node end next cell.0) told after ran) own back

    quiet_turn : next.own ≡ node.own → NoneBack node.mail next.mail → AllEven world final.0 final.1 → ActsGetNone done → AllReceived (log ++ final.0) final.1
    quiet_turn own back even none = silent_on final.0 final.1 names_now (came own back) even (acts_silent place end done (with_node end next cell.0) told after after kept none ran)

    -- nothing is said or got here
    apart_turn : next.own ≡ node.own → NoneBack node.mail next.mail → ActsApart world.names done → ActsGetNone done → AllReceived (log ++ final.0) final.1
    apart_turn own back apart none = quiet_turn own back (all_even world final.0 final.1 (told_even place after told kept (acts_apart world.names end done (with_node end next cell.0) told after apart ran))) none

    -- a process is made
    pub made_turn : node_make node ≡ Ok (done, next) → done ≡ acts.Note (notes.Made (process_id node (length node.mail)) None) ∷ [] → AllReceived (log ++ final.0) final.1
    made_turn e did = apart_turn (stays.node_after node next done (node_make node) (stays.on_make node) e).own (none_back_keeps node.mail next.mail (mail.does_make node next done e).mail) (subst (ActsApart world.names) (sym did) (tt, tt)) (subst ActsGetNone (sym did) tt)

    module _ (by : ProcName) (command : Command) (room : Room) (e : node_command node by.counter command room ≡ Ok (done, next)) where
      own_stays : next.own ≡ node.own
      own_stays = (stays.node_after node next done (node_command node by.counter command room) (stays.on_command node by.counter command room) e).own

      -- a message goes to another node
      away_turn : (to : ProcessId) (said : Message) → command ≡ commands.Send (targets.Process to) said → is_here node to.node ≡ false → (called world.names node.own ≡ called world.names to.node → ⊥) → AllReceived (log ++ final.0) final.1
      away_turn to said is away differ = apart_turn own_stays (none_back_keeps node.mail next.mail (mail.does_away node next by.counter to said room done away does).mail)
          (subst (ActsApart world.names) (sym (plain.does_away node next by.counter to said room done away does).did) (differ, sent_apart world.names node by.counter to said (pair_between node by.counter to).mark))
          (subst ActsGetNone (sym (plain.does_away node next by.counter to said room done away does).did) (sent_none node by.counter to said (pair_between node by.counter to).mark)) where
            does : node_command node by.counter (commands.Send (targets.Process to) said) room ≡ Ok (done, next)
            does = ap (λ (c : Command). node_command node by.counter c room) (sym is) ∙ e

      -- a message is taken
      take_turn : (mark : List ℕ) → IsPlainNode node → command ≡ commands.Receive mark → AllReceived (log ++ final.0) final.1
      take_turn mark p is = apart_turn own_stays (none_back_changes node.mail next.mail by.counter first.1.there first.1.others) (subst (ActsApart world.names) (sym did.1) (tt, tt)) (subst ActsGetNone (sym did.1) tt) where
        did : mail.TakesFrom node by.counter mark done next
        did = mail.does_take node next by.counter mark room done (ap (λ (c : Command). node_command node by.counter c room) (sym is) ∙ e)

        first : TakesFirst node.mail by.counter mark did.0 next.mail
        first = let all : AllTaken node.mail by.counter mark (Ok (did.0, next.mail)) = subst (AllTaken node.mail by.counter mark) did.2 (take_changes node.mail by.counter mark) in all

      -- a process is over
      end_turn : IsPlainNode node → command ≡ commands.End → AllReceived (log ++ final.0) final.1
      end_turn p is = apart_turn own_stays (none_back_keeps node.mail next.mail (mail.does_end node by.counter p next room done does).mail)
          (subst (ActsApart world.names) (sym (plain.does_end node next by.counter room done p does).0.did) (tt, closes_apart world.names (conns_by node.pairs by.counter)))
          (subst ActsGetNone (sym (plain.does_end node next by.counter room done p does).0.did) (closes_none (conns_by node.pairs by.counter))) where
            does : node_command node by.counter commands.End room ≡ Ok (done, next)
            does = ap (λ (c : Command). node_command node by.counter c room) (sym is) ∙ e

      -- a message goes to a process of the node
      module _ (to : ProcessId) (said : Message) (here : is_here node to.node ≡ true) (kinds : IsPlain (log ++ final.0)) (well : SaidWell journal (log ++ final.0)) where
        p : ProcName
        p = process_called world.names (process_id node by.counter)

        q : ProcName
        q = process_called world.names to

        q_is : process_called world.names to ≡ process_called world.names (process_id node to.counter)
        q_is = ap (λ (a : Address). record { node = called world.names a; counter = to.counter }) (node_is to.node node.own here)

        epoch : ℕ
        epoch = (pair_between node by.counter to).epoch

        index : ℕ
        index = (pair_between node by.counter to).index

        says : Entry
        says = entries.Said (process_called world.names (process_id node by.counter)) (names.Process (process_called world.names to)) (pair_between node by.counter to).epoch (pair_between node by.counter to).index said.mark said.body

        gets : Entry
        gets = entries.Got (process_called world.names (process_id node by.counter)) (names.Process (process_called world.names to)) (pair_between node by.counter to).epoch (pair_between node by.counter to).index (Some (process_called world.names to))

        told_so : (spelled : List LocalEntry) → acts_on end done (with_node end next cell.0) ≡ Ok (spelled, with_node end next cell.0) → told ≡ spelled
        told_so spelled is = sym (ap (λ (x : List LocalEntry × Cell). x.0) (ok_is (spelled, with_node end next cell.0) (told, after) (sym is ∙ ran)))

        -- who receives is over
        lost_turn : (done ≡ said_note node by.counter to said ∷ []) × (next.mail ≡ node.mail) × (is_gone (slice_get node.mail to.counter) ≡ true) → AllReceived (log ++ final.0) final.1
        unfolding says
        lost_turn n = quiet_turn own_stays (none_back_same node.mail next.mail n.1) even (subst ActsGetNone (sym n.0) tt) where
          spelled : final.0 ≡ says ∷ []
          spelled = ap (λ (l : List LocalEntry). (told_on place cell after l world).0) (told_so (local.Note (notes.Said (process_id node by.counter) (targets.Process to) (pair_between node by.counter to).epoch (pair_between node by.counter to).index said) ∷ []) (ap (λ (l : List Act). acts_on end l (with_node end next cell.0)) n.0))

          even : AllEven world final.0 final.1
          even = subst (λ (l : List Entry). AllEven world l final.1) (ap (λ (w : ProcName). entries.Said (process_called world.names (process_id node by.counter)) (names.Process w) (pair_between node by.counter to).epoch (pair_between node by.counter to).index said.mark said.body ∷ []) (sym q_is) ∙ sym spelled)
              (lost_even journal nodes.is nodes.apart world known_is k.0.all.sound.ends.homes final.1 place end cell (after, cell.1) (number, node) next by.counter to.counter (pair_between node by.counter to).epoch (pair_between node by.counter to).index said.mark said.body at (told_cells place after told kept) found (acts_nodes end done (with_node end next cell.0) told after ran)
              (ap (λ (l : List _). is_gone (slice_get l to.counter)) n.1 ∙ n.2))

        -- it is got at once
        got_turn : (done ≡ said_note node by.counter to said ∷ acts.Note (notes.Got (process_id node by.counter) (targets.Process to) (Some to)) ∷ []) × (put_of node.mail to.counter None said ≡ Ok next.mail) → AllReceived (log ++ final.0) final.1
        unfolding says gets p q epoch index
        got_turn g = received_on final.0 final.1 (home_on log final.0 world final.1 names_now (came own_stays (none_back_changes node.mail next.mail to.counter changed.there changed.others)) even r.home)
            (ap (each_after gets_the_next_within log) spelled ∙ ap (λ (b : Bool). b && true) within) (ap (each_after gets_over_link log) spelled ∙ ap (λ (b : Bool). b && true) over) where
              spelled : final.0 ≡ says ∷ gets ∷ []
              spelled = ap (λ (l : List LocalEntry). (told_on place cell after l world).0) (told_so (local.Note (notes.Said (process_id node by.counter) (targets.Process to) (pair_between node by.counter to).epoch (pair_between node by.counter to).index said) ∷ local.Note (notes.Got (process_id node by.counter) (targets.Process to) (Some to)) ∷ []) (ap (λ (l : List Act). acts_on end l (with_node end next cell.0)) g.0))

              changed : Changes node.mail next.mail to.counter (waiting_for (slice_get node.mail to.counter) ++ said ∷ [])
              changed = let all : AllPut node.mail to.counter said (Ok next.mail) = subst (AllPut node.mail to.counter said) g.1 (put_changes node.mail to.counter said) in all

              even : AllEven world final.0 final.1
              even = subst (λ (l : List Entry). AllEven world l final.1) (sym spelled) (all_even world (says ∷ gets ∷ []) final.1 (λ a b same. one_even a b (process_called world.names (process_id node by.counter)) (process_called world.names to) (pair_between node by.counter to).epoch (pair_between node by.counter to).index said.mark said.body (Some (process_called world.names to))))

              first : epoch ≡ 0
              first = first_said journal (log ++ final.0) kinds well (length log) p q epoch index said.mark said.body (ap (λ (l : List Entry). slice_get (log ++ l) (length log)) spelled ∙ at_end log says (gets ∷ []))

              numbered : index ≡ index_of log p (names.Process q) epoch
              numbered = number_is index (index_of log p (names.Process q) epoch) (test_at has_next_index [] log says (gets ∷ []) (subst (λ (l : List Entry). each_after has_next_index [] (log ++ l) ≡ true) spelled well.numbered.indexes))

              no_more : (n m : ℕ) → m ≡ 0 → n + m ≡ n
              no_more n m e = omega arith

              so_far : gets_of p q log ≡ says_of p q log
              so_far = subst (λ (w : ProcName). gets_of p w log ≡ says_of p w log) (sym q_is) (r.home place cell end (number, node) by.counter to.counter at found changed.there)

              counted : count_by (gets_in p (names.Process q) epoch) (log ++ says ∷ []) ≡ index
              counted = ap (λ (e : ℕ). count_by (gets_in p (names.Process q) e) (log ++ says ∷ [])) first ∙ got_both p q log (says ∷ []) ∙ no_more (gets_of p q log) (gets_of p q (says ∷ [])) refl ∙ so_far ∙ ap (λ (e : ℕ). index_of log p (names.Process q) e) (sym first) ∙ sym numbered

              within : gets_the_next_within (log ++ says ∷ []) gets ≡ true
              within = second_true (not (bytes_eq p.node q.node)) (count_by (gets_in p (names.Process q) epoch) (log ++ says ∷ []) == index) (ap (λ (n : ℕ). n == index) counted ∙ number_same index)

              over : gets_over_link (log ++ says ∷ []) gets ≡ true
              over = first_true (bytes_eq p.node q.node) (hears_from (log ++ says ∷ []) q.node p.node) ((bytes_eq-Decides (called world.names node.own) (called world.names to.node)).1 (ap (called world.names) (sym (node_is to.node node.own here))))

        home_turn : home.HomeMail node by.counter to said done next → AllReceived (log ++ final.0) final.1
        home_turn (inl n) = lost_turn n
        home_turn (inr g) = got_turn g

      -- what a process asks of a plain node
      pub asked_turn : IsPlainNode node → AsksPlainly world.names by command → node.own ≡ address_as world.names by.node → IsPlain (log ++ final.0) → SaidWell journal (log ++ final.0) → AllReceived (log ++ final.0) final.1
      asked_turn its_plain asks own kinds well = by_command command refl asks.sends (plain_command world.names command asks.sends) where
        named : (name : List ℕ) → is_declared world.names name ≡ true → called world.names (address_as world.names name) ≡ name
        named name d = subst (λ (known : Names). called known (address_as known name) ≡ name) (sym known_is) (called_so (names_of journal) name nodes.is.apart (subst (λ (known : Names). is_declared known name ≡ true) known_is d))

        differ : (to : ProcessId) (name : ProcName) → is_declared world.names name.node ≡ true → to ≡ process_as world.names name → is_here node to.node ≡ false → called world.names node.own ≡ called world.names to.node → ⊥
        differ to name d is away same = clash (sym (node_self node.own) ∙ ap (λ (a : Address). same_node a node.own) (sym one) ∙ away) where
          both : by.node ≡ name.node
          both = sym (named by.node asks.declared) ∙ ap (called world.names) (sym own) ∙ same ∙ ap (λ (t : ProcessId). called world.names t.node) is ∙ named name.node d

          one : to.node ≡ node.own
          one = ap (λ (t : ProcessId). t.node) is ∙ ap (address_as world.names) (sym both) ∙ sym own

        by_here : (to : ProcessId) (said : Message) → command ≡ commands.Send (targets.Process to) said → (name : ProcName) → is_declared world.names name.node ≡ true → to ≡ process_as world.names name → (b : Bool) → is_here node to.node ≡ b → AllReceived (log ++ final.0) final.1
        by_here to said is name d to_is true h = home_turn to said h kinds well (home.does_home node by.counter to said next room done h (ap (λ (c : Command). node_command node by.counter c room) (sym is) ∙ e))
        by_here to said is name d to_is false h = away_turn to said is h (differ to name d to_is h)

        by_command : (c : Command) → command ≡ c → SendsToDeclared world.names c → IsPlainCommand c → AllReceived (log ++ final.0) final.1
        by_command (commands.Send (targets.Process to) said) is s i = by_here to said is s.0 s.1 (target_same to (process_as world.names s.0) s.2) (is_here node to.node) refl where
          target_same : (a b : ProcessId) → targets.Process a ≡ targets.Process b → a ≡ b
          target_same a b e = cc
        by_command (commands.Receive mark) is s i = take_turn mark its_plain is
        by_command commands.End is s i = end_turn its_plain is
        by_command c is s i = absurd i
