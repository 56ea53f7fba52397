-- Where nothing is said to the other node, and no payload goes, all that was said is carried still.
use Rattle.std.proofs.Common.{◌≡◌, ◌⊎◌, inl, inr, ◌≤◌, ℕ, true, false, List, [], ◌++◌, length, sym, ap, ◌∙◌, subst, arith}
use Rattle.std.proofs.lemmas.List.{append-nil}
use Rattle.std.specs.Prelude.{Some}
use Rattle.ch_base.specs.declared.address.Address.{Address}
use Rattle.ch_ident.specs.declared.identifier.ProcessId.{ProcessId}
use Rattle.ch_model.specs.declared.entry.Entry.{Entry}
use Rattle.ch_model.specs.declared.line.Line.{Line}
use Rattle.ch_model.specs.declared.name.ProcName.{ProcName}
use Rattle.ch_model.specs.declared.name.TargetName.TheVariants as names
use Rattle.ch_model.specs.AccountsFrames.{Saying, pair_opening}
use Rattle.ch_model.specs.AccountsItems.{first_payload}
use Rattle.ch_model.specs.Naming.{Names, called, process_as, process_called}
use Rattle.ch_model.specs.NodeIds.{process_id, is_living}
use Rattle.ch_model.specs.NodeState.{NodeState, Unopened}
use Rattle.ch_model.specs.WorldState.{World}
use Rattle.ch_race.specs.Pair.{Side, other}
use Rattle.ch_laws_race.specs.Scene.{Party}
use Rattle.ch_laws_peers.specs.Words.{Placed, Word, words_in, datas_in, TrueWords}
use Rattle.ch_laws_peers.specs.Says.{all_towards, HasOpened, has_said, Says}
use Rattle.ch_laws_messages.specs.SaidGoes.{said_to, frames_to, waits_for, given_to, mark_of, NodeStays, Stays}
use Rattle.ch_laws_messages.proofs.SaidWords.{words_append}
use Rattle.ch_laws_messages.proofs.SaidGrows.{grown, waits_placed}

-- what a node's process is called
abbrev pub called_as : Names → Address → ℕ → ProcName
called_as known own by = record { node = called known own; counter = by }

pub stays : (journal : List Line) (log : List Entry) (world : World) (party : Side → Party) (x : Side) (after_log : List Entry) (after : World) → Says journal log world party x → Stays party x log world after_log after → Says journal after_log after party x
stays journal log world party x after_log after s k = record {
  placed = waits_placed (frames_to party x log) (waits_for party world x) (frames_to party x after_log) (waits_for party after x) k.new s.placed k.streams.placed k.streams.flows;
  words = subst (λ (w : List Word). TrueWords journal said_now [] 0 w (length said_now)) (sym same_words) said_true;
  one = k.streams.is_one.one;
  down = k.streams.is_one.down;
  declared = λ node pair to there found is at. let n = k.nodes node there in subst (λ (known : Names). to ≡ process_as known (process_called known to)) (sym k.named) (n.declared pair to found is at);
  opened = λ node by to conn there at marked. let n = k.nodes node there in let o = n.opened by to conn at marked in has node by to conn n (s.opened n.was by to conn n.there at o.0) o.1;
  unopened = λ node by to there at declared marked living. let n = k.nodes node there in
      not_said node by to n (by_life node by to n at (subst (λ (known : Names). to ≡ process_as known (process_called known to)) k.named declared) (n.unopened by to at marked living));
  unbroken = λ node by to there at marked. let n = k.nodes node there in s.unbroken n.was by to n.there at (n.unbroken by to at marked);
  unmade = λ node by q there le. let n = k.nodes node there in none_said node by q n (s.unmade n.was by q n.there (less (length n.was.mail) (length node.mail) by n.made le));
  alone = λ i j opening a b. s.alone i j opening (sym (first_same i) ∙ a) (sym (first_same j) ∙ b);
} where
  less : (a b c : ℕ) → a ≤ b → b ≤ c → a ≤ c
  less a b c e f = omega arith

  said_now : List Saying
  said_now = said_to party x after_log

  all : List Placed
  all = all_towards party world x log

  all_now : List Placed
  all_now = all_towards party after x after_log

  said_true : TrueWords journal said_now [] 0 (words_in all) (length said_now)
  said_true = subst (λ (said : List Saying). TrueWords journal said [] 0 (words_in all) (length said)) (sym k.said) s.words

  words_kept : words_in (all ++ k.new) ≡ words_in all
  words_kept = words_append all k.new ∙ ap (λ (w : List Word). words_in all ++ w) k.silent ∙ append-nil (words_in all)

  same_words : words_in all_now ≡ words_in all
  same_words = ap words_in (grown journal (said_to party x log) said_now (frames_to party x log) (waits_for party world x) (frames_to party x after_log) (waits_for party after x) k.new (length said_now) s.placed k.streams.placed
      (subst (λ (w : List Word). TrueWords journal said_now [] 0 w (length said_now)) (sym words_kept) said_true) k.streams.flows) ∙ words_kept

  first_same : (id : ℕ) → first_payload id (datas_in (words_in all_now)) ≡ first_payload id (datas_in (words_in all))
  first_same id = ap (λ (w : List Word). first_payload id (datas_in w)) same_words

  -- its process is called as before
  name_same : (node : NodeState) (by : ℕ) → (n : NodeStays party x world after node) → process_called after.names (process_id node by) ≡ process_called world.names (process_id n.was by)
  name_same node by n = ap (λ (known : Names). called_as known node.own by) k.named ∙ ap (λ (own : Address). called_as world.names own by) n.own

  has : (node : NodeState) (by : ℕ) (to : ProcessId) (conn : ℕ) → (n : NodeStays party x world after node) → HasOpened journal party log world x n.was by to conn → ((id : ℕ) → given_to party world x conn ≡ Some id → given_to party after x conn ≡ Some id) → HasOpened journal party after_log after x node by to conn
  has node by to conn n o kept = record {
    id = o.id;
    given = kept o.id o.given;
    opening = o.opening;
    opens = ap (λ (p : ProcName). pair_opening journal p (names.Process (process_called after.names to))) (name_same node by n) ∙ ap (λ (known : Names). pair_opening journal (process_called world.names (process_id n.was by)) (names.Process (process_called known to))) k.named ∙ o.opens;
    opened = first_same o.id ∙ o.opened;
  }

  by_life : (node : NodeState) (by : ℕ) (to : ProcessId) → (n : NodeStays party x world after node) → to.node ≡ (party (other x)).address → to ≡ process_as world.names (process_called world.names to) → ((mark_of n.was by to ≡ Unopened) × (is_living n.was (process_id n.was by) ≡ true)) ⊎ (length n.was.mail ≤ by)
      → has_said (process_called world.names (process_id n.was by)) (process_called world.names to) (said_to party x log) ≡ false
  by_life node by to n at declared (inl k) = s.unopened n.was by to n.there at declared k.0 k.1
  by_life node by to n at declared (inr le) = s.unmade n.was by (process_called world.names to) n.there le

  none_said : (node : NodeState) (by : ℕ) (q : ProcName) → (n : NodeStays party x world after node) → has_said (process_called world.names (process_id n.was by)) q (said_to party x log) ≡ false → has_said (process_called after.names (process_id node by)) q said_now ≡ false
  none_said node by q n e = ap (λ (p : ProcName). has_said p q said_now) (name_same node by n) ∙ ap (has_said (process_called world.names (process_id n.was by)) q) k.said ∙ e

  not_said : (node : NodeState) (by : ℕ) (to : ProcessId) → (n : NodeStays party x world after node) → has_said (process_called world.names (process_id n.was by)) (process_called world.names to) (said_to party x log) ≡ false → has_said (process_called after.names (process_id node by)) (process_called after.names to) said_now ≡ false
  not_said node by to n e = ap (λ (known : Names). has_said (process_called after.names (process_id node by)) (process_called known to) said_now) k.named ∙ none_said node by (process_called world.names to) n e
