-- All claims together, turn by turn: and so all stand after any lines, whatever is dialed.
use Rattle.std.proofs.Common.{◌≡◌, ◌++◌, true, List, [], Ok, refl}
use Rattle.std.specs.List.{list_all}
use Rattle.ch_model.specs.declared.entry.Entry.{Entry}
use Rattle.ch_model.specs.declared.line.Line.{Line}
use Rattle.ch_model.specs.World.{names_of, world_new, log_from}
use Rattle.ch_model.specs.WorldState.{World}
use Rattle.ch_laws_calls.specs.Calls.{Claim, Anything, Both, KeepsCalls}
use Rattle.ch_laws_calls.specs.Peers.{is_of_peers, Peers}
use Rattle.ch_laws_calls.specs.Scenes.{Raced}
use Rattle.ch_laws_calls.proofs.Together as calls
use Rattle.ch_laws_live.specs.Lives.{IsLively}
use Rattle.ch_laws_plain_logs.specs.Plain.{IsPlain}
use Rattle.ch_laws_plain.proofs.MeetsMeets.{meets_kept, fresh_meets}
use Rattle.ch_laws_raced.specs.Given.{All}
use Rattle.ch_laws_raced.proofs.Together.{all_is_kept, fresh_all, lively_kept_too, given_then}
use Rattle.ch_laws_calls.specs.Turns.{KeepsTurns}
use Rattle.ch_laws_calls.proofs.TurnsLines.{all_turns}
use Rattle.ch_laws_calls.proofs.TurnsOfCalls.{by_calls}
use Rattle.ch_laws_calls.proofs.TurnsTogether.{combined, alike, weaker, beside, given_first}
use Rattle.ch_laws_raced.specs.UnbrokenBreaks.{NoBreaks}
use Rattle.ch_laws_raced.specs.UnbrokenGiven as unbroken
use Rattle.ch_laws_raced.specs.OnceOnce.{DialsOnce}
use Rattle.ch_laws_raced.proofs.OnceKept.{none_dialed}
use Rattle.ch_laws_raced.proofs.OnceTogether.{once_kept_too}
use Rattle.ch_laws_raced.proofs.UnbrokenKept.{unbroken_kept, nothing_broken}
use Rattle.ch_laws_calls.proofs.ScenesStart.{raced_at_start}
use Rattle.ch_laws_live.proofs.Kept.{nothing_lives}
use Rattle.ch_laws_plain.proofs.Start.{fresh_plain}
use Rattle.ch_laws_peers.proofs.Plainly.{plainly_kept}
use Rattle.ch_laws_peers.specs.Standing.{IsOfNodes, Standing}
use Rattle.ch_laws_peers.proofs.Dialed.{Agreed, Known, dialed_kept}

-- ---- what is so while all dials are of peers

-- each two nodes are a pair of the race, at most one socket of each is live, and nothing breaks
abbrev pub Racing : List Line → Claim
Racing journal = Both (Both (Both (All journal) (Raced journal)) (λ log world. IsLively log)) (λ log world. NoBreaks log)

abbrev OfPeers : List Line → List Entry → Type 0
OfPeers journal log = list_all (is_of_peers (names_of journal)) log ≡ true

abbrev pub While : List Line → Claim
While journal log world = OfPeers journal log → Both (Racing journal) (DialsOnce journal) log world

module _ (journal : List Line) (n : IsOfNodes journal) where
  to_unbroken : (log : List Entry) (world : World) → Both (Both (Both (All journal) (Raced journal)) (λ log world. IsLively log)) (Peers journal) log world → unbroken.Given journal log world
  to_unbroken log world b = let g = given_then journal n.is n.apart n.addresses log world b.0.0.0 b.1 in
      record { sound = b.0.0.0.sound; shown = g.shown; raced = b.0.0.1; fit = g.fit; peers = b.1; unknocked = b.0.0.0.unknocked }

  racing_calls : KeepsCalls journal (Peers journal) (Peers journal) (Racing journal)
  racing_calls = calls.given_with (lively_kept_too journal n.is n.apart n.addresses) (calls.weaker to_unbroken (λ log world b. tt) (unbroken_kept journal n.is n.addresses))

  -- and who dials a peer does so once
  dialing_calls : KeepsCalls journal (Peers journal) (Peers journal) (Both (Racing journal) (DialsOnce journal))
  dialing_calls = calls.alike (λ log world b. (b.0, ((b.0.0.0, b.0.1), b.1))) (λ log world b. (b.0, b.1.1)) (calls.beside racing_calls (once_kept_too journal n.is n.apart n.addresses))

  while_calls : KeepsCalls journal Anything Anything (While journal)
  while_calls = calls.while_given (calls.passed_before (is_of_peers (names_of journal))) dialing_calls

  -- ---- turn by turn

  agreed_kept : KeepsTurns journal Anything Anything (Agreed journal)
  agreed_kept = beside (by_calls journal (All journal) (all_is_kept journal n.is n.addresses)) (meets_kept journal)

  own_given : {P Q J : Claim} → KeepsTurns journal (Both P J) Q J → KeepsTurns journal P Q J
  own_given k = combined (λ l m w v p j q f g. f (p, j) j q) k k

  known_kept : KeepsTurns journal Anything Anything (Known journal)
  known_kept = given_first agreed_kept (own_given (dialed_kept journal n.is n.addresses))

  calm : (log : List Entry) (world : World) → Both (Known journal) (While journal) log world → NoBreaks log
  calm log world b = (b.1 b.0.1.0).0.1

  all_kept : KeepsTurns journal Anything Anything (Both (Both (Known journal) (While journal)) (λ log world. IsPlain log))
  all_kept = given_first (beside known_kept (by_calls journal (While journal) while_calls)) (weaker (λ log world b. b.0) calm (plainly_kept journal n.is n.addresses))

  as_standing : (log : List Entry) (world : World) → Both (Both (Known journal) (While journal)) (λ log world. IsPlain log) log world → Standing journal log world
  as_standing log world b = record {
    all = b.0.0.0.0;
    each_pair = given_then journal n.is n.apart n.addresses log world b.0.0.0.0 b.0.0.1.0;
    raced = (b.0.1 b.0.0.1.0).0.0.0.1;
    lively = (b.0.1 b.0.0.1.0).0.0.1;
    unbroken = (b.0.1 b.0.0.1.0).0.1;
    once = (b.0.1 b.0.0.1.0).1;
    peers = b.0.0.1.0;
    meets = b.0.0.0.1;
    plain = b.0.0.1.1;
    kinds = b.1;
  }

  of_standing : (log : List Entry) (world : World) → Standing journal log world → Both (Both (Known journal) (While journal)) (λ log world. IsPlain log) log world
  of_standing log world s = ((((s.all, s.meets), (s.peers, s.plain)), λ p. ((((s.all, s.raced), s.lively), s.unbroken), s.once)), s.kinds)

  pub standing_kept : KeepsTurns journal Anything Anything (Standing journal)
  standing_kept = alike (λ log world p s. of_standing log world s) (λ log world p b. as_standing log world b) all_kept

  -- ---- where nothing has happened, and after any lines

  pub fresh_standing : Standing journal [] (world_new journal)
  fresh_standing = as_standing [] (world_new journal) ((((fresh_all journal n.is, fresh_meets journal), (refl, fresh_plain journal)), λ p. ((((fresh_all journal n.is, raced_at_start journal n.is), nothing_lives), nothing_broken), none_dialed journal)), refl)

  pub all_stand : (front rest : List Line) → front ++ rest ≡ journal → (log : List Entry) (world : World) → log_from (world_new journal) front ≡ Ok (log, world) → Standing journal log world
  all_stand front rest whole log world is = all_turns journal n.is (Standing journal) standing_kept fresh_standing front rest whole log world is
