-- What a step of the code does is what the model's does, where some of what it uses is known by another name.
use Rattle.std.proofs.Common.{◌≡◌, ℕ, List, filter, not, Result, Ok, MatchResult, subst, sym, ap, ◌∙◌}
use Rattle.ch_base.specs.declared.address.Address.{Address}
use Rattle.ch_base.specs.declared.event.Why.{Why}
use Rattle.ch_ident.specs.declared.reason.Reason.{Reason}
use Rattle.ch_mail.specs.Process.{Process}
use Rattle.ch_mail.specs.Mail.{end_of}
use Rattle.ch_watch.specs.declared.ending.Ending.{Ending}
use Rattle.ch_watch.specs.declared.waiting.Waiting.{Waiting}
use Rattle.ch_watch.specs.Lists.{Lists}
use Rattle.ch_watch.specs.Same.{same_node}
use Rattle.ch_watch.specs.Watches.{lost_of, ended_of}
use Rattle.ch_model.specs.declared.act.Act.{Act}
use Rattle.ch_model.specs.declared.command.CommandError.{CommandError}
use Rattle.ch_model.specs.NodeState.{NodeState, Pair, Arrived}
use Rattle.ch_model.specs.NodeActs.{◌>>=◌, Done, after, each_in_turn, or_unchanged}
use Rattle.ch_model.specs.NodePairs.{lost_pairs, closed_pairs}
use Rattle.ch_model.specs.NodeArrivals.{lost_told, peer_lost}
use Rattle.ch_model.specs.NodeEnds.{farewell, over}
use Rattle.ch_model.specs.NodeWatches.{tell_end}
use Rattle.ch_node.specs.declared.halt.Halt.{Halt}
use Rattle.ch_node.specs.declared.halt.Halt.TheVariants as halts
use Rattle.ch_node.specs.Calls.{Halts, Fails}

-- a call gives what is one with what it was shown to give
pub same_given : {X : Type 0} (r : Result X CommandError) (f : X → List Act × NodeState) (given other : Result (List Act × NodeState) CommandError) → given ≡ other → MatchResult r (λ x. given ≡ Ok (f x)) (λ e. Fails e given) → MatchResult r (λ x. other ≡ Ok (f x)) (λ e. Fails e other)
same_given r f given other is h = subst (λ g. MatchResult r (λ x. g ≡ Ok (f x)) (λ e. Fails e g)) is h

-- a step does what is one with what it was shown to do
pub same_done : {X : Type 0} (r : Result X Halt) (f : X → List Act × NodeState) (given other : Done) → given ≡ other → MatchResult r (λ x. given ≡ Ok (f x)) (λ e. Halts e given) → MatchResult r (λ x. other ≡ Ok (f x)) (λ e. Halts e other)
same_done r f given other is h = subst (λ g. MatchResult r (λ x. g ≡ Ok (f x)) (λ e. Halts e g)) is h

-- what is told after a failed link
pub lost_is : (node : NodeState) (peer : Address) (why : Why) (pairs : List Pair) (lost : List Waiting) (lists : Lists) (to_nodes : List (Address × ℕ)) (arrived : List Arrived) → lost_pairs peer node.pairs ≡ Ok pairs → (lost, lists) ≡ lost_of node.watches peer → to_nodes ≡ filter (λ known. not (same_node known.0 peer)) node.to_nodes → arrived ≡ filter (λ arrived. not (same_node arrived.peer peer)) node.arrived → each_in_turn (lost_told why) lost (record node { watches = lists; pairs = pairs; to_nodes = to_nodes; arrived = arrived }) ≡ peer_lost node peer why
unfolding peer_lost
lost_is node peer why pairs lost lists to_nodes arrived p w t a =
    (λ i. each_in_turn (lost_told why) (w i).0 (record node { watches = (w i).1; pairs = pairs; to_nodes = t i; arrived = a i }))
    ∙ ap (λ r. r >>= (λ pairs. each_in_turn (lost_told why) (lost_of node.watches peer).0 (record node { watches = (lost_of node.watches peer).1; pairs = pairs; to_nodes = filter (λ known. not (same_node known.0 peer)) node.to_nodes; arrived = filter (λ arrived. not (same_node arrived.peer peer)) node.arrived }))) (sym p)

-- what is told after the end of a process
pub over_from : (node found : NodeState) (number : ℕ) (reason : Reason) (mail : List Process) (ending : Ending) (lists : Lists) → or_unchanged node.mail (end_of node.mail number reason) ≡ Ok mail → found ≡ record node { mail = mail } → (ending, lists) ≡ ended_of found.watches number → after (farewell (record found { watches = lists }) number reason ending.names) (each_in_turn (λ watch m. tell_end m watch reason) ending.watches (record found { watches = lists; pairs = closed_pairs found.pairs number })) ≡ over node number reason
unfolding over farewell
over_from node found number reason mail ending lists m v w =
    (λ i. after (farewell found number reason (w i).0.names) (each_in_turn (λ watch m. tell_end m watch reason) (w i).0.watches (record found { watches = (w i).1; pairs = closed_pairs found.pairs number })))
    ∙ (λ i. after (farewell (v i) number reason (ended_of (v i).watches number).0.names) (each_in_turn (λ watch m. tell_end m watch reason) (ended_of (v i).watches number).0.watches (record (v i) { watches = (ended_of (v i).watches number).1; pairs = closed_pairs (v i).pairs number })))
    ∙ ap (λ r. r >>= (λ mail. after (farewell node number reason (ended_of node.watches number).0.names) (each_in_turn (λ watch m. tell_end m watch reason) (ended_of node.watches number).0.watches (record node { mail = mail; watches = (ended_of node.watches number).1; pairs = closed_pairs node.pairs number })))) (sym m)

-- a stop behind these acts
pub over_stops : (e : Halt) (front : List Act) (step whole : Done) → after front step ≡ whole → Halts e step → Halts e whole
over_stops halts.OutOfMemory front step whole is h = tt
over_stops halts.Worn front step whole is h = sym is ∙ ap (after front) h
