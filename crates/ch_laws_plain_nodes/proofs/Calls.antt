-- A plain node makes a process, and a process of it takes a message or ends.
use Rattle.std.proofs.Common.{◌≡◌, ℕ, Bool, true, false, cond, List, [], ◌∷◌, ◌++◌, map, length, Ok, Err, refl, sym, ap, subst}
use Rattle.std.specs.Prelude.{filter, not, ◌==◌, None, nat_lt}
use Rattle.std.proofs.lemmas.List.{append-nil}
use Rattle.ch_base.specs.declared.address.Address.{Address}
use Rattle.ch_base.specs.declared.memory.Stop.TheVariants as stops
use Rattle.ch_ident.specs.declared.identifier.Ref.{Ref}
use Rattle.ch_ident.specs.declared.reason.Reason.TheVariants.{Normal}
use Rattle.ch_mail.specs.Process.{Process}
use Rattle.ch_mail.specs.Mail.{make_of, take_of, end_of, newborn, last_u32}
use Rattle.ch_watch.specs.declared.named.Named.{Named}
use Rattle.ch_watch.specs.declared.waiting.Waiting.{Waiting}
use Rattle.ch_watch.specs.declared.watched.Watched.{Watched}
use Rattle.ch_watch.specs.Lists.{Lists}
use Rattle.ch_watch.specs.Watches.{nothing, ended_of, ending_of}
use Rattle.ch_model.specs.declared.act.Act.{Act}
use Rattle.ch_model.specs.declared.act.Act.TheVariants as acts
use Rattle.ch_model.specs.declared.command.CommandError.TheVariants as errors
use Rattle.ch_model.specs.declared.note.Note.TheVariants as notes
use Rattle.ch_model.specs.NodeState.{NodeState}
use Rattle.ch_model.specs.NodeActs.{◌>>=◌, ◌and_then◌, doing, noting, each_in_turn, stopping, mailed, or_unchanged}
use Rattle.ch_model.specs.NodeIds.{process_id}
use Rattle.ch_model.specs.NodePairs.{conns_by, closed_pairs}
use Rattle.ch_model.specs.NodeLives.{make, with_process}
use Rattle.ch_model.specs.NodeWatches.{tell_end}
use Rattle.ch_model.specs.NodeEnds.{over, bereft, farewell}
use Rattle.ch_model.specs.NodeRoom.{acting}
use Rattle.ch_model.specs.NodeCommands.{receive_of, finish_of}
use Rattle.ch_model.specs.Node.{node_new, node_make}
use Rattle.ch_laws_plain_nodes.specs.Plain.{IsPlain}
use Rattle.ch_laws_plain_nodes.specs.Acts.{ArePlain, AreNotes, OpensNone}
use Rattle.ch_laws_plain_nodes.specs.Does.{Does, Tells, Ends, Makes, Takes}
use Rattle.ch_laws_plain_nodes.proofs.Lists.{mail_plain, closed_plain}
use Rattle.ch_laws_plain_nodes.proofs.Steps.{Claim, Holds, bound, stopped}

-- ---- the node begins

pub new_plain : (own : Address) (unique : ℕ) (labels : List (List ℕ)) → IsPlain (node_new own unique labels)
unfolding node_new nothing
new_plain own unique labels = record { unshut = refl; alone = refl; waiting = refl; watched = refl; names = refl; pairs = tt; arrived = tt }

-- what tells things alone is plain
notes_plain : (own : Address) (done : List Act) → AreNotes done → ArePlain own done
notes_plain own [] a = tt
notes_plain own (acts.Note note ∷ rest) a = (a.0, notes_plain own rest a.1)
notes_plain own (acts.Open conn peer ∷ rest) a = absurd a
notes_plain own (acts.Put conn payload weight ∷ rest) a = absurd a
notes_plain own (acts.Close conn ∷ rest) a = absurd a

pub told_does : (before : NodeState) (done : List Act) (after : NodeState) → Tells before done after → Does before done after
told_does before done after t = record { did = notes_plain before.own done t.did; node = t.node; arrived = ap (λ (n : NodeState). n.arrived) t.same }

-- ---- a process is made

made : (node : NodeState) → IsPlain node → Holds (Makes node) (make node None [])
unfolding make make_of
made node p = by_test (nat_lt (length node.mail) last_u32)
  where
    one_more : ℕ × List Process
    one_more = (length node.mail, node.mail ++ newborn ∷ [])

    by_test : (b : Bool) → Holds (Makes node) (cond b (Ok one_more) (Err stops.Worn) >>= (λ made. noting (notes.Made (process_id node made.0) None) (with_process node made.1 [])))
    by_test true = record { did = refl; tells = record { did = (tt, tt); node = mail_plain node (node.mail ++ newborn ∷ []) (node.args ++ [] ∷ []) p; same = refl } }
    by_test false = tt

pub makes : (node : NodeState) → IsPlain node → Holds (Makes node) (node_make node)
unfolding node_make
makes node p = by_test node.is_shut
  where
    by_test : (b : Bool) → Holds (Makes node) (cond b (Err errors.Dead) (stopping (make node None [])))
    by_test true = tt
    by_test false = stopped (Makes node) (make node None []) (made node p)

-- ---- a message is taken

pub takes : (node : NodeState) (by : ℕ) (mark : List ℕ) → IsPlain node → Holds (Takes node by) (receive_of node by mark)
unfolding receive_of
takes node by mark p = bound (Takes node by) (acting node by) _ (λ live. bound (Takes node by) (mailed (take_of node.mail by mark)) _ (λ taken.
    record { said = taken.0; did = refl; tells = record { did = (tt, tt); node = mail_plain node taken.1 node.args p; same = refl } }))

-- ---- a process is over

module _ (node : NodeState) (by : ℕ) (p : IsPlain node) where
  abbrev closes : List Act
  closes = map (λ conn. acts.Close conn) (conns_by node.pairs by)

  -- what ends it is told to nobody, and what else is so after it
  abbrev pub EndsSo : Claim
  EndsSo done after = Ends node by done after × IsPlain after × (after.arrived ≡ node.arrived)

  -- nobody is told, and no name falls
  over_so : (names : List (List ℕ)) (watches : List Ref) (lists : Lists) (mail : List Process) → names ≡ [] → watches ≡ [] → lists.waiting ≡ [] → lists.watched ≡ [] → lists.names ≡ []
      → Holds EndsSo (doing (farewell node by Normal names) (bereft node mail lists by) and_then (λ n. each_in_turn (λ watch m. tell_end m watch Normal) watches n))
  unfolding farewell closed_pairs
  over_so [] [] lists mail e f w d n = (record { did = append-nil (acts.Note (notes.Over (process_id node by) Normal) ∷ closes); same = refl }, record { unshut = p.unshut; alone = p.alone; waiting = w; watched = d; names = n; pairs = closed_plain by node.pairs p.pairs; arrived = p.arrived }, refl)
  over_so (name ∷ names) watches lists mail e f w d n = absurd cc
  over_so [] (watch ∷ watches) lists mail e f w d n = absurd cc

  is_over : Holds EndsSo (over node by Normal)
  unfolding over ended_of ending_of
  is_over = bound EndsSo (or_unchanged node.mail (end_of node.mail by Normal)) _ (λ mail. over_so _ _ _ mail
      (ap (λ (l : List Named). map (λ named. named.name) (filter (λ named. named.process == by) l)) p.names)
      (ap (λ (l : List Watched). map (λ watched. watched.watch) (filter (λ watched. watched.process == by) l)) p.watched)
      (ap (λ (l : List Waiting). filter (λ waiting. not (waiting.owner == by)) l) p.waiting)
      (ap (λ (l : List Watched). filter (λ watched. not (watched.process == by)) l) p.watched)
      (ap (λ (l : List Named). filter (λ named. not (named.process == by)) l) p.names))

  pub finishes : Holds EndsSo (finish_of node by Normal)
  unfolding finish_of
  finishes = bound EndsSo (acting node by) _ (λ live. stopped EndsSo (over node by Normal) is_over)

closes_plain : (own : Address) (conns : List ℕ) → ArePlain own (map (λ conn. acts.Close conn) conns) × OpensNone (map (λ conn. acts.Close conn) conns)
closes_plain own [] = (tt, tt)
closes_plain own (conn ∷ rest) = closes_plain own rest

pub ends_does : (node : NodeState) (by : ℕ) (done : List Act) (after : NodeState) → Ends node by done after → IsPlain after → after.arrived ≡ node.arrived → Does node done after
ends_does node by done after s p e = record { did = subst (ArePlain node.own) (sym s.did) (tt, (closes_plain node.own (conns_by node.pairs by)).0); node = p; arrived = e }

pub ends_open_none : (node : NodeState) (by : ℕ) (done : List Act) (after : NodeState) → Ends node by done after → OpensNone done
ends_open_none node by done after s = subst OpensNone (sym s.did) (closes_plain node.own (conns_by node.pairs by)).1
