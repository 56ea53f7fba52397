-- What is told where connections are closed: frames without payloads, and nothing is read.
use Rattle.std.proofs.Common.{◌≡◌, ◌⊎◌, inl, inr, ℕ, Bool, true, false, cond, List, [], ◌∷◌, ◌++◌, map, Ok, Err, refl, sym, ap, subst}
use Rattle.std.specs.Prelude.{Result, None, ◌==◌}
use Rattle.ch_base.specs.declared.address.Address.{Address}
use Rattle.ch_wire.specs.declared.frame.Frame.TheVariants as frames
use Rattle.ch_link.specs.declared.LinkState.{LinkState}
use Rattle.ch_link.specs.declared.LinkState.TheVariants as states
use Rattle.ch_model.specs.declared.act.Act.{Act}
use Rattle.ch_model.specs.declared.act.Act.TheVariants as acts
use Rattle.ch_model.specs.declared.local.LocalEntry.{LocalEntry}
use Rattle.ch_model.specs.declared.step.EndError.{EndError}
use Rattle.ch_model.specs.declared.step.EndError.TheVariants as errors
use Rattle.ch_model.specs.declared.step.Step.{Step}
use Rattle.ch_model.specs.declared.step.Step.TheVariants as steps
use Rattle.ch_model.specs.CellSteps.{Followed, after_entries, ◌then◌, asked, act_on, acts_on}
use Rattle.ch_model.specs.HostCalls.{host_close}
use Rattle.ch_model.specs.HostState.{HostState}
use Rattle.ch_model.specs.HostSteps.{link_with}
use Rattle.ch_model.specs.HostWrites.{is_up}
use Rattle.ch_model.specs.WorldState.{Cell}
use Rattle.ch_laws_calls.specs.FitsTurns.{NoDials}
use Rattle.ch_laws_links.proofs.Cells.{steps_told}
use Rattle.ch_laws_log.specs.HostEnds.{steps_in}
use Rattle.ch_laws_plain.specs.Talks.{Closes}
use Rattle.ch_laws_plain.proofs.Adds as adds
use Rattle.ch_laws_plain.proofs.AsksActs.{steps_append, AreQuiet, acts_quiet, closes_quiet, quiet_once}
use Rattle.ch_laws_places.specs.Said.{said_at}
use Rattle.ch_laws_reads.specs.Reads.{reads_of}
use Rattle.ch_laws_writes.specs.Dues.{due_at}
use Rattle.ch_laws_writes.specs.Orderly.{IsOrderly, AllWrite}
use Rattle.ch_laws_writes.proofs.Calls as writes
use Rattle.ch_laws_peers.specs.Words.{Placed}
use Rattle.ch_laws_messages.specs.WayNatures.{AreBarePieces}
use Rattle.ch_laws_messages.specs.SaidPuts.{write_step, Puts, AllPut}
use Rattle.ch_laws_messages.proofs.SaidPuts.{close_puts}
use Rattle.ch_laws_messages.specs.AsksDoes.{AreBareSteps}

-- ---- what bare steps tell

pub bare_at : (n : ℕ) (told : List Step) → AreBareSteps told → AreBarePieces (said_at n told)
bare_at n [] b = tt
bare_at n (steps.Write sock bytes place ∷ rest) b = by_test (sock == n) (bare_at n rest b.1) where
  by_test : (t : Bool) → AreBarePieces (said_at n rest) → AreBarePieces (cond t ((bytes, place) ∷ said_at n rest) (said_at n rest))
  by_test true more = (b.0, more)
  by_test false more = more
bare_at n (steps.Read sock ∷ rest) b = absurd b.0
bare_at n (steps.Dial sock end peer ∷ rest) b = bare_at n rest b.1
bare_at n (steps.Up sock ∷ rest) b = bare_at n rest b.1
bare_at n (steps.Down sock ∷ rest) b = bare_at n rest b.1
bare_at n (steps.Left sock ∷ rest) b = bare_at n rest b.1
bare_at n (steps.Broke end peer why ∷ rest) b = bare_at n rest b.1
bare_at n (steps.Post end event ∷ rest) b = bare_at n rest b.1

pub bare_unread : (n : ℕ) (told : List Step) → AreBareSteps told → reads_of n told ≡ 0
bare_unread n [] b = refl
bare_unread n (steps.Read sock ∷ rest) b = absurd b.0
bare_unread n (steps.Write sock bytes place ∷ rest) b = bare_unread n rest b.1
bare_unread n (steps.Dial sock end peer ∷ rest) b = bare_unread n rest b.1
bare_unread n (steps.Up sock ∷ rest) b = bare_unread n rest b.1
bare_unread n (steps.Down sock ∷ rest) b = bare_unread n rest b.1
bare_unread n (steps.Left sock ∷ rest) b = bare_unread n rest b.1
bare_unread n (steps.Broke end peer why ∷ rest) b = bare_unread n rest b.1
bare_unread n (steps.Post end event ∷ rest) b = bare_unread n rest b.1

bare_both : (xs ys : List Step) → AreBareSteps xs → AreBareSteps ys → AreBareSteps (xs ++ ys)
bare_both [] ys a b = b
bare_both (x ∷ xs) ys a b = (a.0, bare_both xs ys a.1 b)

-- ---- what is told where something is put on a link

-- it is written, where the link is up; else nothing is told, or a dial
abbrev pub Written : HostState → ℕ → Address → List Placed → List Step → Type 0
Written host end peer new told = ((sock : ℕ) × (probed : Bool) × ((link_with host end peer).state ≡ states.Up sock probed) × (told ≡ map (write_step sock) new)) ⊎ ((told ≡ []) ⊎ ((sock : ℕ) × (e : ℕ) × (p : Address) × (told ≡ steps.Dial sock e p ∷ [])))

pub puts_written : (host : HostState) (end : ℕ) (peer : Address) (new : List Placed) (told : List Step) (after : HostState) → Puts host end peer new told after → Written host end peer new told
puts_written host end peer new told after p = by_state (link_with host end peer).state refl where
  down : is_up (link_with host end peer).state ≡ false → Written host end peer new told
  down off = by_dial (p.down off).2 where
    by_dial : ((told ≡ []) × ((link_with after end peer).state ≡ (link_with host end peer).state)) ⊎ (((link_with host end peer).state ≡ states.Idle) × ((sock : ℕ) × (e : ℕ) × (q : Address) × (told ≡ steps.Dial sock e q ∷ []) × ((link_with after end peer).state ≡ states.Dialing sock))) → Written host end peer new told
    by_dial (inl none) = inr (inl none.0)
    by_dial (inr d) = inr (inr (d.1.0, d.1.1, d.1.2, d.1.3))

  by_state : (state : LinkState) → (link_with host end peer).state ≡ state → Written host end peer new told
  by_state (states.Up sock probed) e = inl (sock, probed, e, (p.up sock probed e).2)
  by_state (states.Dialing sock) e = down (ap is_up e)
  by_state states.AwaitOther e = down (ap is_up e)
  by_state states.Idle e = down (ap is_up e)

-- ---- a connection is closed

abbrev AllBare : Result (List Step × HostState) EndError → Type 0
AllBare (Ok done) = AreBareSteps done.0
AllBare (Err e) = Unit {0}

module _ (host : HostState) (end conn : ℕ) where
  close_bare : (r : Result (List Step × HostState) EndError) → Closes host end conn r → host_close host end conn ≡ r → AllBare r
  close_bare (Err e) c is = tt
  close_bare (Ok done) c is = by_written (puts_written host c.0.end c.0.peer ((frames.Closed c.2.0, None) ∷ []) done.0 done.1 put) where
    put : Puts host c.0.end c.0.peer ((frames.Closed c.2.0, None) ∷ []) done.0 done.1
    put = subst (λ (r : Result (List Step × HostState) EndError). AllPut host c.0.end c.0.peer ((frames.Closed c.2.0, None) ∷ []) r) is (close_puts host end conn c.0 c.2 c.1.found c.1.own_link c.3)

    by_written : Written host c.0.end c.0.peer ((frames.Closed c.2.0, None) ∷ []) done.0 → AreBareSteps done.0
    by_written (inl w) = subst AreBareSteps (sym w.3) ((refl, inr (frames.Closed c.2.0, c.4.spelled.0, tt, refl)), tt)
    by_written (inr (inl none)) = subst AreBareSteps (sym none) tt
    by_written (inr (inr d)) = subst AreBareSteps (sym d.3) (tt, tt)

-- ---- one after another

abbrev FollowsBare : (ℕ → Address) → Followed → Type 0
FollowsBare own (Ok done) = AreBareSteps (steps_in done.0) × IsOrderly own done.1.host
FollowsBare own (Err stop) = Unit {0}

asked_bare : (own : ℕ → Address) (cell : Cell) (r : Result (List Step × HostState) EndError) → IsOrderly own cell.host → AllBare r → AllWrite own (due_at cell.host) r → FollowsBare own (asked cell r)
asked_bare own cell (Ok done) o b w = (subst AreBareSteps (sym (steps_told done.0)) b, w.orderly)
asked_bare own cell (Err errors.Worn) o b w = tt
asked_bare own cell (Err errors.OutOfMemory) o b w = tt
asked_bare own cell (Err errors.NoEndPoint) o b w = (tt, o)
asked_bare own cell (Err errors.NoConnection) o b w = (tt, o)
asked_bare own cell (Err errors.QueueFull) o b w = (tt, o)
asked_bare own cell (Err errors.PayloadLong) o b w = (tt, o)
asked_bare own cell (Err errors.Spent) o b w = (tt, o)

more_bare : (own : ℕ → Address) (first : List LocalEntry × Cell) (more : Followed) → AreBareSteps (steps_in first.0) → FollowsBare own more → FollowsBare own (after_entries first.0 more)
more_bare own first (Ok more) a b = (subst AreBareSteps (sym (steps_append first.0 more.0)) (bare_both (steps_in first.0) (steps_in more.0) a b.0), b.1)
more_bare own first (Err stop) a b = tt

then_bare : (own : ℕ → Address) (end : ℕ) (rest : List Act) (one : Followed) → FollowsBare own one → ((next : Cell) → AreQuiet rest → IsOrderly own next.host → FollowsBare own (acts_on end rest next)) → AreQuiet rest → FollowsBare own (one then acts_on end rest)
then_bare own end rest (Ok first) b go q = more_bare own first (acts_on end rest first.1) b.0 (go first.1 q b.1)
then_bare own end rest (Err stop) b go q = tt

-- things are told, and connections are closed
quiet_bare : (own : ℕ → Address) (end : ℕ) (done : List Act) (cell : Cell) → AreQuiet done → IsOrderly own cell.host → FollowsBare own (acts_on end done cell)
quiet_bare own end [] cell q o = (tt, o)
quiet_bare own end (acts.Note note ∷ rest) cell q o = then_bare own end rest (act_on end (acts.Note note) cell) (tt, o) (quiet_bare own end rest) q
quiet_bare own end (acts.Close conn ∷ rest) cell q o = then_bare own end rest (asked cell (host_close cell.host end conn)) one (quiet_bare own end rest) q where
  one : FollowsBare own (asked cell (host_close cell.host end conn))
  one = asked_bare own cell (host_close cell.host end conn) o (close_bare cell.host end conn (host_close cell.host end conn) (adds.closed own cell.host end conn o) refl) (writes.closed_conn own cell.host end conn o)
quiet_bare own end (acts.Open conn peer ∷ rest) cell q o = absurd q
quiet_bare own end (acts.Put conn payload weight ∷ rest) cell q o = absurd q

-- what is told of such acts
pub told_bare : (own : ℕ → Address) (end : ℕ) (done : List Act) (cell : Cell) (told : List LocalEntry) (after : Cell) → AreQuiet done → IsOrderly own cell.host → acts_on end done cell ≡ Ok (told, after) → AreBareSteps (steps_in told)
told_bare own end done cell told after q o e = (subst (FollowsBare own) e (quiet_bare own end done cell q o)).0

-- connections are closed, one after another
pub closed_bare : (own : ℕ → Address) (end : ℕ) (conns : List ℕ) (cell : Cell) (told : List LocalEntry) (after : Cell) → IsOrderly own cell.host → acts_on end (map (λ conn. acts.Close conn) conns) cell ≡ Ok (told, after) → NoDials (steps_in told) × AreBareSteps (steps_in told)
closed_bare own end conns cell told after o e = (quiet_once told after (acts_on end (map (λ conn. acts.Close conn) conns) cell) (acts_quiet end (map (λ conn. acts.Close conn) conns) cell (closes_quiet conns)) e, told_bare own end (map (λ conn. acts.Close conn) conns) cell told after (closes_quiet conns) o e)
