-- What a plain node makes of the events of its endpoint.
use Rattle.std.proofs.Common.{◌≡◌, ℕ, Bool, true, false, cond, ◌&&◌, List, [], ◌∷◌, Ok, Err, refl, sym, ap, ◌∙◌, subst, ◌==◌}
use Rattle.std.specs.Prelude.{find, filter, not, Result, Option, Some, None}
use Rattle.ch_base.specs.declared.address.Address.{Address}
use Rattle.ch_base.specs.declared.event.Event.TheVariants as events
use Rattle.ch_base.specs.declared.event.Why.{Why}
use Rattle.ch_base.specs.declared.memory.Stop.{Stop}
use Rattle.ch_ident.specs.declared.error.IdentError.{IdentError}
use Rattle.ch_ident.specs.declared.identifier.ProcessId.{ProcessId}
use Rattle.ch_ident.specs.declared.identifier.Identifier.TheVariants as ends
use Rattle.ch_ident.specs.declared.message.Message.{Message}
use Rattle.ch_ident.specs.declared.node_message.NodeMessage.{NodeMessage}
use Rattle.ch_ident.specs.declared.node_message.NodeMessage.TheVariants as messages
use Rattle.ch_ident.specs.Fits.{IsProcess}
use Rattle.ch_ident.specs.Reading.{message_of, user_of}
use Rattle.ch_ident.specs.Spelling.{message}
use Rattle.ch_static.specs.declared.target.Target.TheVariants as targets
use Rattle.ch_watch.specs.declared.waiting.Waiting.{Waiting}
use Rattle.ch_watch.specs.declared.watched.Watched.{Watched}
use Rattle.ch_watch.specs.Lists.{Lists}
use Rattle.ch_watch.specs.Open.{awaits}
use Rattle.ch_watch.specs.Same.{node_of, same_node}
use Rattle.ch_watch.specs.Watches.{lost_of}
use Rattle.ch_model.specs.declared.act.Act.{Act}
use Rattle.ch_model.specs.NodeState.{NodeState, Pair, Bound, Unread, Void, FromNode, ToNames, ToTarget, Arrived}
use Rattle.ch_model.specs.NodeActs.{◌>>=◌, each_in_turn}
use Rattle.ch_model.specs.NodeIds.{is_here, is_living}
use Rattle.ch_model.specs.NodePairs.{lost_pairs}
use Rattle.ch_model.specs.NodeSends.{deliver}
use Rattle.ch_model.specs.NodeArrivals.{bound_between, bound_by, bind, to_target, received_as, received_on, received, arrives, departs, lost_told, peer_lost}
use Rattle.ch_model.specs.Node.{node_event}
use Rattle.ch_laws_plain_nodes.specs.Plain.{AllToProcesses, IsBound, IsPlainlyBound, AllPlainlyBound, IsPlain, IsPlainOpening, IsRead}
use Rattle.ch_laws_plain_nodes.specs.Acts.{AreNotes}
use Rattle.ch_laws_plain_nodes.specs.Does.{Tells, Hears, got_acts}
use Rattle.ch_laws_plain_nodes.proofs.Openings.{IsOpeningRead, opening_read, opening_again}
use Rattle.ch_laws_plain_nodes.proofs.Lists.{mail_plain, LostPlain, lost_plain, rebound_plain, one_more_plain, fewer_plain, found_conn}
use Rattle.ch_laws_plain_nodes.proofs.Sends.{IsGot, delivered}
use Rattle.ch_laws_plain_nodes.proofs.Steps.{Claim, Holds, so_too}

-- ---- what an opening message binds

module _ (node : NodeState) where
  -- bound by what was read of an opening message between processes
  bound_so : (peer : Address) (read : Result NodeMessage IdentError) → IsOpeningRead read → IsBound (bound_by node peer read)
  unfolding bound_between
  bound_so peer (Err e) i = tt
  bound_so peer (Ok (messages.Opening (ends.Process from) (ends.Process to))) i = by_place (same_node (node_of (ends.Process from)) peer && is_here node (node_of (ends.Process to)))
    where
      by_life : (b : Bool) → IsBound (cond b (ToTarget from (targets.Process to)) Void)
      by_life true = tt
      by_life false = tt

      by_place : (b : Bool) → IsBound (cond b (cond (is_living node to) (ToTarget from (targets.Process to)) Void) Void)
      by_place true = by_life (is_living node to)
      by_place false = tt
  bound_so peer (Ok (messages.Opening (ends.Process from) (ends.Node to))) i = absurd i
  bound_so peer (Ok (messages.Opening (ends.Process from) (ends.Port to))) i = absurd i
  bound_so peer (Ok (messages.Opening (ends.Node from) to)) i = absurd i
  bound_so peer (Ok (messages.Opening (ends.Port from) to)) i = absurd i
  bound_so peer (Ok (messages.Monitor watch target)) i = absurd i
  bound_so peer (Ok (messages.Unmonitor watch)) i = absurd i
  bound_so peer (Ok (messages.Link watch target)) i = absurd i
  bound_so peer (Ok (messages.Unlink watch)) i = absurd i
  bound_so peer (Ok (messages.Spawn question label args)) i = absurd i
  bound_so peer (Ok (messages.DidSpawn question process)) i = absurd i
  bound_so peer (Ok (messages.Died watch reason)) i = absurd i
  bound_so peer (Ok (messages.WhereIs question name)) i = absurd i
  bound_so peer (Ok (messages.IsAt question at)) i = absurd i
  bound_so peer (Ok (messages.NamedSend name mark body)) i = absurd i
  bound_so peer (Ok (messages.Exit target text)) i = absurd i
  bound_so peer (Ok (messages.Kill target text)) i = absurd i

  plainly : (b : Bound) → IsBound b → IsPlainlyBound b
  plainly Unread i = tt
  plainly Void i = i
  plainly FromNode i = i
  plainly (ToNames from) i = i
  plainly (ToTarget from to) i = i

  -- what is bound by the first payload on a connection
  pub bound_read : (peer : Address) (payload : List ℕ) → IsPlainOpening payload → IsBound (bound_by node peer (message_of payload))
  bound_read peer payload o = subst (λ (bytes : List ℕ). IsBound (bound_by node peer (message_of bytes))) (sym o.spelled) (bound_so peer (message_of (message (messages.Opening (ends.Process o.from) (ends.Process o.to)))) (opening_read o.from o.to))

-- ---- events

module _ (node : NodeState) (p : IsPlain node) where
  -- the node with other connections that have arrived
  with_arrived : (arrived : List Arrived) → AllPlainlyBound arrived → IsPlain (record node { arrived = arrived })
  with_arrived arrived a = record { unshut = p.unshut; alone = p.alone; waiting = p.waiting; watched = p.watched; names = p.names; pairs = p.pairs; arrived = a }

  as_it_was : Tells node [] node
  as_it_was = record { did = tt; node = p; same = refl }

  -- ---- connections come and go

  pub hears_opened : (conn : ℕ) (peer : Address) → Holds (Hears (arrives node conn peer)) (node_event node (events.ConnectionOpened conn peer))
  unfolding node_event arrives
  hears_opened conn peer = record { did = refl; node = with_arrived _ (one_more_plain node.arrived (record { conn = conn; peer = peer; bound = Unread }) tt p.arrived); same = refl }

  pub hears_closed : (conn : ℕ) → Holds (Hears (departs node conn)) (node_event node (events.ConnectionClosed conn))
  unfolding node_event departs
  hears_closed conn = record { did = refl; node = with_arrived _ (fewer_plain (λ arrived. not (arrived.conn == conn)) node.arrived p.arrived); same = refl }

  pub hears_shut : Holds (Hears node) (node_event node events.EndPointClosed)
  unfolding node_event
  hears_shut = record { did = refl; node = p; same = refl }

  -- ---- an opening message

  reads_as : (one : Arrived) (payload : List ℕ) (was : Bound) → was ≡ Unread → IsPlainOpening payload → Holds (Hears (bind node one.conn (bound_by node one.peer (message_of payload)))) (received_as node one payload was)
  unfolding bind
  reads_as one payload Unread e o = let b = bound_by node one.peer (message_of payload) in record { did = refl; node = with_arrived _ (rebound_plain one.conn b node.arrived (plainly node b (bound_read node one.peer payload o)) p.arrived); same = refl }
  reads_as one payload Void e o = absurd cc
  reads_as one payload FromNode e o = absurd cc
  reads_as one payload (ToNames from) e o = absurd cc
  reads_as one payload (ToTarget from to) e o = absurd cc

  pub reads_opening : (conn : ℕ) (payload : List ℕ) (one : Arrived) → find (λ known. known.conn == conn) node.arrived ≡ Some one → one.bound ≡ Unread → IsPlainOpening payload
      → Holds (Hears (bind node conn (bound_by node one.peer (message_of payload)))) (node_event node (events.Received conn payload))
  unfolding node_event received
  reads_opening conn payload one e u o =
      subst (λ (known : Option Arrived). Holds (Hears (bind node conn (bound_by node one.peer (message_of payload)))) (received_on node payload known)) (sym e)
      (subst (λ (c : ℕ). Holds (Hears (bind node c (bound_by node one.peer (message_of payload)))) (received_as node one payload one.bound)) (found_conn conn node.arrived one e) (reads_as one payload one.bound u o))

  -- ---- a payload on a connection whose opening message was read

  gets : (from : ProcessId) (to : ProcessId) (said : Message) → Holds (Tells node) (deliver node from (targets.Process to) said)
  gets from to said = so_too (IsGot node from to) (Tells node) (deliver node from (targets.Process to) said) tells (delivered node from to said)
    where
      by_got : (b : Bool) → AreNotes (got_acts b from to)
      by_got true = (tt, tt)
      by_got false = tt

      tells : (done : List Act) (after : NodeState) → IsGot node from to done after → Tells node done after
      tells done after g = record {
        did = subst AreNotes (sym g.1) (by_got g.0);
        node = subst IsPlain (sym g.2) (mail_plain node after.mail node.args p);
        same = g.2 ∙ ap (λ (args : List (List ℕ)). record node { mail = after.mail; args = args }) (sym (ap (λ (n : NodeState). n.args) g.2));
      }

  reads_user : (from to : ProcessId) (read : Result Message IdentError) → Holds (Tells node) (to_target node from (targets.Process to) read)
  reads_user from to (Ok said) = gets from to said
  reads_user from to (Err e) = as_it_was

  reads_more : (one : Arrived) (payload : List ℕ) (b : Bound) → IsBound b → Holds (Tells node) (received_as node one payload b)
  reads_more one payload Unread i = absurd i
  reads_more one payload Void i = as_it_was
  reads_more one payload FromNode i = absurd i
  reads_more one payload (ToNames from) i = absurd i
  reads_more one payload (ToTarget from (targets.Process to)) i = reads_user from to (user_of payload)
  reads_more one payload (ToTarget from (targets.Port to)) i = absurd i
  reads_more one payload (ToTarget from (targets.Named at name)) i = absurd i

  on_found : (payload : List ℕ) (known : Option Arrived) → IsRead known → Holds (Tells node) (received_on node payload known)
  on_found payload None i = as_it_was
  on_found payload (Some one) i = reads_more one payload one.bound i

  pub hears_payload : (conn : ℕ) (payload : List ℕ) → IsRead (find (λ known. known.conn == conn) node.arrived) → Holds (Tells node) (node_event node (events.Received conn payload))
  unfolding node_event received
  hears_payload conn payload i = on_found payload (find (λ known. known.conn == conn) node.arrived) i

  -- ---- a link fails

  module _ (peer : Address) (why : Why) where
    -- the connections that are left
    abbrev left : List Arrived
    left = filter (λ arrived. not (same_node arrived.peer peer)) node.arrived

    -- nothing is told; the pairs to the peer are broken
    abbrev pub Loses : Claim
    Loses done after = Hears (record node { watches = after.watches; pairs = after.pairs; arrived = left }) done after × (lost_pairs peer node.pairs ≡ Ok after.pairs)

    abbrev bereft : List Pair → Lists → List (Address × ℕ) → NodeState
    bereft pairs lists others = record node { watches = lists; pairs = pairs; to_nodes = others; arrived = left }

    none_told : (waiting : List Waiting) (lists : Lists) (others : List (Address × ℕ)) (pairs : List Pair) → waiting ≡ [] → lists.waiting ≡ [] → lists.watched ≡ [] → lists.names ≡ [] → others ≡ [] → AllToProcesses pairs → lost_pairs peer node.pairs ≡ Ok pairs
        → Holds Loses (each_in_turn (lost_told why) waiting (bereft pairs lists others))
    none_told [] lists others pairs e w d n o a l = (record { did = refl; node = record { unshut = p.unshut; alone = o; waiting = w; watched = d; names = n; pairs = a; arrived = fewer_plain (λ arrived. not (same_node arrived.peer peer)) node.arrived p.arrived }; same = ap (λ (known : List (Address × ℕ)). bereft pairs lists known) (o ∙ sym p.alone) }, l)
    none_told (one ∷ rest) lists others pairs e w d n o a l = absurd cc

    by_pairs : (given : Result (List Pair) Stop) → lost_pairs peer node.pairs ≡ given → LostPlain given
        → Holds Loses (given >>= λ pairs. each_in_turn (lost_told why) (lost_of node.watches peer).0 (bereft pairs (lost_of node.watches peer).1 (filter (λ known. not (same_node known.0 peer)) node.to_nodes)))
    unfolding lost_of
    by_pairs (Ok pairs) e a = none_told _ _ _ pairs
        (ap (λ (l : List Waiting). filter (awaits peer) l) p.waiting)
        (ap (λ (l : List Waiting). filter (λ waiting. not (awaits peer waiting)) l) p.waiting)
        (ap (λ (l : List Watched). filter (λ watched. not (same_node watched.watch.node peer)) l) p.watched)
        p.names
        (ap (λ (l : List (Address × ℕ)). filter (λ known. not (same_node known.0 peer)) l) p.alone)
        a e
    by_pairs (Err stop) e a = tt

    pub loses : Holds Loses (node_event node (events.ConnectionLost peer why))
    unfolding node_event peer_lost
    loses = by_pairs (lost_pairs peer node.pairs) refl (lost_plain peer node.pairs p.pairs)

-- ---- what a connection is bound to

-- a connection of a process of the peer to a process of the node, where both are in their rule
pub bound_again : (node : NodeState) (peer : Address) (from to : ProcessId) → IsProcess from → IsProcess to → same_node from.node peer ≡ true → is_here node to.node ≡ true
    → bound_by node peer (message_of (message (messages.Opening (ends.Process from) (ends.Process to)))) ≡ cond (is_living node to) (ToTarget from (targets.Process to)) Void
unfolding bound_between node_of
bound_again node peer from to f t s h =
    ap (bound_by node peer) (opening_again from to f t)
    ∙ ap (λ b. cond (b && is_here node to.node) (cond (is_living node to) (ToTarget from (targets.Process to)) Void) Void) s
    ∙ ap (λ b. cond b (cond (is_living node to) (ToTarget from (targets.Process to)) Void) Void) h
