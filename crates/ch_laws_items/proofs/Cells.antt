-- Items that are handled one after another at a cell, until none is left.
use Rattle.std.proofs.Common.{◌≡◌, ◌≤◌, ◌<◌, ℕ, zero, suc, ◌+◌, List, [], ◌∷◌, length, Ok, Err, refl, sym, ap, ◌∙◌, subst, arith}
use Rattle.std.proofs.lemmas.List.Sums.{sum_by-cons}
use Rattle.std.specs.Prelude.{find, sum_by, Result, Option, Some, None}
use Rattle.ch_base.specs.declared.event.Event.{Event}
use Rattle.ch_base.specs.declared.memory.Stop.{Stop}
use Rattle.ch_model.specs.declared.act.Act.{Act}
use Rattle.ch_model.specs.declared.act.Act.TheVariants as acts
use Rattle.ch_model.specs.declared.local.LocalEntry.{LocalEntry}
use Rattle.ch_model.specs.declared.step.EndError.{EndError}
use Rattle.ch_model.specs.declared.step.EndError.TheVariants as errors
use Rattle.ch_model.specs.declared.step.Step.{Step}
use Rattle.ch_model.specs.declared.step.Step.TheVariants as steps
use Rattle.ch_model.specs.HostState.{Socket, HostState}
use Rattle.ch_model.specs.HostSteps.{Stepped}
use Rattle.ch_model.specs.Host.{front_of, first_ready, handles, some_steps, host_next}
use Rattle.ch_model.specs.HostCalls.{host_connect, host_send, host_close}
use Rattle.ch_model.specs.NodeState.{NodeState}
use Rattle.ch_model.specs.Node.{node_event}
use Rattle.ch_model.specs.WorldState.{Cell}
use Rattle.ch_model.specs.CellSteps.{Followed, after_entries, ◌then◌, is_at, with_node, asked, act_on, acts_on, node_followed, posted, step_on, steps_on, kept_bytes, items_on, all_items}
use Rattle.ch_laws_items.specs.Kept.{kept_of, Apart, KeepsNoMore, AllKeepNoMore}
use Rattle.ch_laws_items.proofs.Sockets.{onward, same}
use Rattle.ch_laws_items.proofs.Calls.{connected, sent, closed}
use Rattle.ch_laws_items.proofs.Next.{used_up, next_fine, nothing_left}

-- ---- what follows at a cell leaves no more unread

abbrev pub Follows : Cell → Followed → Type 0
Follows before (Ok done) = KeepsNoMore before.host done.1.host
Follows before (Err stop) = Unit {0}

later : (entries : List LocalEntry) (one two : Cell) (done : Followed) → KeepsNoMore one.host two.host → Follows two done → Follows one (after_entries entries done)
later entries one two (Ok done) a b = onward one.host two.host done.1.host a b
later entries one two (Err stop) a b = tt

chained : (cell : Cell) (done : Followed) (f : Cell → Followed) → Follows cell done → ((next : Cell) → Follows next (f next)) → Follows cell (done then f)
chained cell (Ok done) f a g = later done.0 cell done.1 (f done.1) a (g done.1)
chained cell (Err stop) f a g = tt

at_rest : (cell : Cell) → KeepsNoMore cell.host cell.host
at_rest cell = same cell.host cell.host refl

asked_of : (cell : Cell) (done : Result (List Step × HostState) EndError) → AllKeepNoMore cell.host done → Follows cell (asked cell done)
asked_of cell (Ok done) k = k
asked_of cell (Err errors.Worn) k = tt
asked_of cell (Err errors.OutOfMemory) k = tt
asked_of cell (Err errors.NoEndPoint) k = at_rest cell
asked_of cell (Err errors.NoConnection) k = at_rest cell
asked_of cell (Err errors.QueueFull) k = at_rest cell
asked_of cell (Err errors.PayloadLong) k = at_rest cell
asked_of cell (Err errors.Spent) k = at_rest cell

act_of : (end : ℕ) (act : Act) (cell : Cell) → Follows cell (act_on end act cell)
act_of end (acts.Note note) cell = at_rest cell
act_of end (acts.Open conn peer) cell = asked_of cell (host_connect cell.host end peer conn) (connected cell.host end peer conn)
act_of end (acts.Put conn payload weight) cell = asked_of cell (host_send cell.host end conn payload weight) (sent cell.host end conn payload weight)
act_of end (acts.Close conn) cell = asked_of cell (host_close cell.host end conn) (closed cell.host end conn)

acts_of : (end : ℕ) (done : List Act) (cell : Cell) → Follows cell (acts_on end done cell)
acts_of end [] cell = at_rest cell
acts_of end (act ∷ rest) cell = chained cell (act_on end act cell) (acts_on end rest) (act_of end act cell) (acts_of end rest)

followed_of : (end : ℕ) (cell : Cell) (done : Result (List Act × NodeState) Stop) → Follows cell (node_followed end cell done)
followed_of end cell (Ok done) = from (acts_on end done.0 (with_node end done.1 cell)) (acts_of end done.0 (with_node end done.1 cell))
  where
    from : (more : Followed) → Follows (with_node end done.1 cell) more → Follows cell more
    from (Ok more) k = k
    from (Err stop) k = tt
followed_of end cell (Err stop) = tt

posted_of : (end : ℕ) (event : Event) (cell : Cell) → Follows cell (posted end event cell)
posted_of end event cell = by_node (find (is_at end) cell.nodes)
  where
    by_node : (o : Option (ℕ × NodeState)) → Follows cell (elim o [
      | None ↦ Ok ([], cell)
      | Some node ↦ node_followed end cell (node_event node.1 event)
    ])
    by_node None = at_rest cell
    by_node (Some node) = followed_of end cell (node_event node.1 event)

step_of : (step : Step) (cell : Cell) → Follows cell (step_on step cell)
step_of (steps.Post end event) cell = posted_of end event cell
step_of (steps.Dial sock end peer) cell = at_rest cell
step_of (steps.Read sock) cell = at_rest cell
step_of (steps.Write sock bytes said) cell = at_rest cell
step_of (steps.Up sock) cell = at_rest cell
step_of (steps.Down sock) cell = at_rest cell
step_of (steps.Left sock) cell = at_rest cell
step_of (steps.Broke end peer why) cell = at_rest cell

pub steps_of : (done : List Step) (cell : Cell) → Follows cell (steps_on done cell)
steps_of [] cell = at_rest cell
steps_of (step ∷ rest) cell = chained cell (step_on step cell) (steps_on rest) (step_of step cell) (steps_of rest)

-- ---- as many items as there are bytes

pub kept_is : (sockets : List Socket) → sum_by (λ socket. length socket.since) sockets ≡ kept_of sockets
kept_is [] = refl
kept_is (socket ∷ rest) = sum_by-cons (λ socket. length socket.since) socket rest ∙ ap (λ n. length socket.since + n) (kept_is rest)

-- one item, and what follows
abbrev one_more : (Cell → Followed) → Cell → Result (Option (List Step) × HostState) Stop → Followed
one_more more cell (Err stop) = Err stop
one_more more cell (Ok next) = elim next.0 [
  | None ↦ Ok ([], cell)
  | Some done ↦ (steps_on done (record cell { host = next.1 }) then more)
]

least : (a k n : ℕ) → k < n → n ≤ suc a → k ≤ a
least a k n h l = omega arith

below : (a k n : ℕ) → k ≤ n → n ≤ a → k ≤ a
below a k n h l = omega arith

-- with as many items as bytes or more, what is handled is the same
pub enough : (a b : ℕ) (cell : Cell) → Apart cell.host.sockets → kept_of cell.host.sockets ≤ a → kept_of cell.host.sockets ≤ b → items_on a cell ≡ items_on b cell
enough zero zero cell apart l m = refl
enough zero (suc b) cell apart l m = ap (one_more (items_on b) cell) (sym (nothing_left cell.host apart l))
enough (suc a) zero cell apart l m = sym (ap (one_more (items_on a) cell) (sym (nothing_left cell.host apart m)))
enough (suc a) (suc b) cell apart l m = by_next (host_next cell.host) refl (enough a b)
  where
    by_steps : (next : Cell) (done : Followed) → Follows next done → Apart next.host.sockets → kept_of next.host.sockets ≤ a → kept_of next.host.sockets ≤ b → ((c : Cell) → Apart c.host.sockets → kept_of c.host.sockets ≤ a → kept_of c.host.sockets ≤ b → items_on a c ≡ items_on b c) → (done then items_on a) ≡ (done then items_on b)
    by_steps next (Ok done) f apart p q ih = ap (after_entries done.0) (ih done.1 (f.apart apart) (below a _ _ f.kept p) (below b _ _ f.kept q))
    by_steps next (Err stop) f apart p q ih = refl

    by_some : (o : Option (List Step)) (after : HostState) → host_next cell.host ≡ Ok (o, after) → ((c : Cell) → Apart c.host.sockets → kept_of c.host.sockets ≤ a → kept_of c.host.sockets ≤ b → items_on a c ≡ items_on b c) → one_more (items_on a) cell (Ok (o, after)) ≡ one_more (items_on b) cell (Ok (o, after))
    by_some None after e ih = refl
    by_some (Some done) after e ih =
        let used = used_up cell.host after done apart e in
        let fine = next_fine cell.host after done apart e in
        by_steps (record cell { host = after }) (steps_on done (record cell { host = after })) (steps_of done (record cell { host = after })) (fine.apart apart) (least a _ _ used l) (least b _ _ used m) ih

    by_next : (next : Result (Option (List Step) × HostState) Stop) → host_next cell.host ≡ next → ((c : Cell) → Apart c.host.sockets → kept_of c.host.sockets ≤ a → kept_of c.host.sockets ≤ b → items_on a c ≡ items_on b c) → one_more (items_on a) cell next ≡ one_more (items_on b) cell next
    by_next (Err stop) e ih = refl
    by_next (Ok next) e ih = by_some next.0 next.1 e ih

-- ---- one after another, until none is left

-- where there is none the host is as it was
pub none_same : (host after : HostState) → host_next host ≡ Ok (None, after) → host_next host ≡ Ok (None, host)
unfolding host_next
none_same host after e = by_first (first_ready host.sockets) e
  where
    by_done : (one : Stepped) → some_steps one ≡ Ok (None, after) → some_steps one ≡ Ok (None, host)
    by_done (Ok one) e = let never : Some one.0 ≡ None = ap some_in e in absurd cc
      where
        some_in : Result (Option (List Step) × HostState) Stop → Option (List Step)
        some_in (Ok next) = next.0
        some_in (Err stop) = None
    by_done (Err stop) e = absurd cc

    by_first : (o : Option Socket) → (elim o as (λ o. Result (Option (List Step) × HostState) Stop) [
      | None ↦ Ok (None, host)
      | Some socket ↦ some_steps (handles socket (front_of socket) host)
    ]) ≡ Ok (None, after) → (elim o as (λ o. Result (Option (List Step) × HostState) Stop) [
      | None ↦ Ok (None, host)
      | Some socket ↦ some_steps (handles socket (front_of socket) host)
    ]) ≡ Ok (None, host)
    by_first None e = refl
    by_first (Some socket) e = by_done (handles socket (front_of socket) host) e

pub none_left : (cell : Cell) (after : HostState) → Apart cell.host.sockets → host_next cell.host ≡ Ok (None, after) → all_items cell ≡ Ok ([], cell)
none_left cell after apart e = enough _ (suc (kept_bytes cell.host)) cell apart (within _ _ (kept_is cell.host.sockets)) (more _ _ (kept_is cell.host.sockets)) ∙ ap (one_more (items_on (kept_bytes cell.host)) cell) e
  where
    within : (m n : ℕ) → m ≡ n → n ≤ m
    within m n e = omega arith

    more : (m n : ℕ) → m ≡ n → n ≤ suc m
    more m n e = omega arith

pub one_first : (cell : Cell) (after : HostState) (done : List Step) → Apart cell.host.sockets → host_next cell.host ≡ Ok (Some done, after) → all_items cell ≡ (steps_on done (record cell { host = after }) then all_items)
one_first cell after done apart e =
    enough _ (suc (kept_bytes cell.host)) cell apart (within _ _ (kept_is cell.host.sockets)) (more _ _ (kept_is cell.host.sockets)) ∙ ap (one_more (items_on (kept_bytes cell.host)) cell) e
    ∙ by_steps (steps_on done (record cell { host = after })) (steps_of done (record cell { host = after }))
  where
    within : (m n : ℕ) → m ≡ n → n ≤ m
    within m n e = omega arith

    more : (m n : ℕ) → m ≡ n → n ≤ suc m
    more m n e = omega arith

    used : kept_of after.sockets < kept_of cell.host.sockets
    used = used_up cell.host after done apart e

    fine : KeepsNoMore cell.host after
    fine = next_fine cell.host after done apart e

    fewer : (k a c m : ℕ) → k ≤ a → a < c → m ≡ c → k ≤ m
    fewer k a c m f u e = omega arith

    by_steps : (followed : Followed) → Follows (record cell { host = after }) followed → (followed then items_on (kept_bytes cell.host)) ≡ (followed then all_items)
    by_steps (Ok followed) f = ap (after_entries followed.0) (enough (kept_bytes cell.host) (kept_bytes followed.1.host) followed.1 (f.apart (fine.apart apart)) (fewer _ _ _ _ f.kept used (kept_is cell.host.sockets)) (within _ _ (kept_is followed.1.host.sockets)))
    by_steps (Err stop) f = refl

-- nothing whole is left
pub rests : (fuel : ℕ) (cell after : Cell) (entries : List LocalEntry) → Apart cell.host.sockets → kept_of cell.host.sockets ≤ fuel → items_on fuel cell ≡ Ok (entries, after) → host_next after.host ≡ Ok (None, after.host)
rests zero cell after entries apart l e = let same : cell ≡ after = ap cell_in e in subst (λ (c : Cell). host_next c.host ≡ Ok (None, c.host)) same (nothing_left cell.host apart l)
  where
    cell_in : Followed → Cell
    cell_in (Ok done) = done.1
    cell_in (Err stop) = cell
rests (suc fuel) cell after entries apart l e = by_next (host_next cell.host) refl e (rests fuel)
  where
    cell_in : Followed → Cell
    cell_in (Ok done) = done.1
    cell_in (Err stop) = cell

    Rests : Type 0
    Rests = (c after : Cell) (entries : List LocalEntry) → Apart c.host.sockets → kept_of c.host.sockets ≤ fuel → items_on fuel c ≡ Ok (entries, after) → host_next after.host ≡ Ok (None, after.host)

    by_more : (told : List LocalEntry) (c : Cell) (done : Followed) → items_on fuel c ≡ done → after_entries told done ≡ Ok (entries, after) → Apart c.host.sockets → kept_of c.host.sockets ≤ fuel → Rests → host_next after.host ≡ Ok (None, after.host)
    by_more told c (Ok done) is e apart l ih = let same : done.1 ≡ after = ap cell_in e in subst (λ (c : Cell). host_next c.host ≡ Ok (None, c.host)) same (ih c done.1 done.0 apart l is)
    by_more told c (Err stop) is e apart l ih = absurd cc

    by_steps : (next : Cell) (done : Followed) → Follows next done → Apart next.host.sockets → kept_of next.host.sockets ≤ fuel → (done then items_on fuel) ≡ Ok (entries, after) → Rests → host_next after.host ≡ Ok (None, after.host)
    by_steps next (Ok done) f apart p e ih = by_more done.0 done.1 (items_on fuel done.1) refl e (f.apart apart) (below fuel _ _ f.kept p) ih
    by_steps next (Err stop) f apart p e ih = absurd cc

    by_some : (o : Option (List Step)) (next : HostState) → host_next cell.host ≡ Ok (o, next) → one_more (items_on fuel) cell (Ok (o, next)) ≡ Ok (entries, after) → Rests → host_next after.host ≡ Ok (None, after.host)
    by_some None next h e ih = let same : cell ≡ after = ap cell_in e in subst (λ (c : Cell). host_next c.host ≡ Ok (None, c.host)) same (none_same cell.host next h)
    by_some (Some done) next h e ih =
        let used = used_up cell.host next done apart h in
        let fine = next_fine cell.host next done apart h in
        by_steps (record cell { host = next }) (steps_on done (record cell { host = next })) (steps_of done (record cell { host = next })) (fine.apart apart) (least fuel _ _ used l) e ih

    by_next : (next : Result (Option (List Step) × HostState) Stop) → host_next cell.host ≡ next → one_more (items_on fuel) cell next ≡ Ok (entries, after) → Rests → host_next after.host ≡ Ok (None, after.host)
    by_next (Err stop) h e ih = absurd cc
    by_next (Ok next) h e ih = by_some next.0 next.1 h e ih

pub all_rests : (cell after : Cell) (entries : List LocalEntry) → Apart cell.host.sockets → all_items cell ≡ Ok (entries, after) → host_next after.host ≡ Ok (None, after.host)
all_rests cell after entries apart e = rests (kept_bytes cell.host) cell after entries apart (within _ _ (kept_is cell.host.sockets)) e
  where
    within : (m n : ℕ) → m ≡ n → n ≤ m
    within m n e = omega arith

-- ---- the same in the model's own words

pub fewer_kept : (host after : HostState) (done : List Step) → Apart host.sockets → host_next host ≡ Ok (Some done, after) → kept_bytes after < kept_bytes host
fewer_kept host after done apart e = counted _ _ _ _ (kept_is after.sockets) (kept_is host.sockets) (used_up host after done apart e)
  where
    counted : (a b k n : ℕ) → a ≡ k → b ≡ n → k < n → a < b
    counted a b k n p q l = omega arith

pub host_stays : (host after : HostState) → host_next host ≡ Ok (None, after) → after ≡ host
host_stays host after e = ap host_in (sym e ∙ none_same host after e)
  where
    host_in : Result (Option (List Step) × HostState) Stop → HostState
    host_in (Ok next) = next.1
    host_in (Err stop) = host
