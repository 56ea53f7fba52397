-- A turn in which a host reads something keeps what stands in mailboxes.
use Rattle.std.proofs.Common.{◌≡◌, ◌⊎◌, inl, inr, ℕ, Bool, true, false, cond, List, [], ◌∷◌, ◌++◌, Ok, Err, refl, sym, ap, ◌∙◌, subst, ◌==◌}
use Rattle.std.specs.Prelude.{find, slice_get, Option, Some, None}
use Rattle.ch_base.specs.declared.address.Address.{Address}
use Rattle.ch_base.specs.declared.event.Event.{Event}
use Rattle.ch_base.specs.declared.event.Event.TheVariants as events
use Rattle.ch_base.specs.declared.event.Why.{Why}
use Rattle.ch_model.specs.declared.act.Act.{Act}
use Rattle.ch_model.specs.declared.entry.Entry.{Entry}
use Rattle.ch_model.specs.declared.entry.Entry.TheVariants as entries
use Rattle.ch_model.specs.declared.line.Line.{Line}
use Rattle.ch_model.specs.declared.local.LocalEntry.{LocalEntry}
use Rattle.ch_model.specs.declared.local.LocalEntry.TheVariants as local
use Rattle.ch_model.specs.declared.name.TargetName.TheVariants as names
use Rattle.ch_model.specs.declared.note.Note.TheVariants as notes
use Rattle.ch_model.specs.declared.step.SocketEvent.TheVariants as sockets
use Rattle.ch_model.specs.declared.step.Step.{Step}
use Rattle.ch_static.specs.declared.target.Target.TheVariants as targets
use Rattle.ch_model.specs.CellSteps.{Followed, with_node, acts_on, steps_on}
use Rattle.ch_model.specs.Host.{host_on}
use Rattle.ch_model.specs.HostItems.{is_gone}
use Rattle.ch_model.specs.HostState.{Link, Socket, HostState}
use Rattle.ch_model.specs.HostSteps.{Stepped, still, is_socket}
use Rattle.ch_model.specs.Naming.{called, process_called}
use Rattle.ch_model.specs.Node.{node_event}
use Rattle.ch_model.specs.NodeState.{ToTarget, Arrived}
use Rattle.ch_model.specs.Stages.{is_open}
use Rattle.ch_model.specs.World.{names_of, world_new}
use Rattle.ch_model.specs.WorldHappenings.{with_cell}
use Rattle.ch_model.specs.WorldState.{Cell, World}
use Rattle.ch_model.specs.WorldSteps.{or_first}
use Rattle.ch_laws_bytes.proofs.Told.{told_names}
use Rattle.ch_laws_calls.specs.Calls.{with_host}
use Rattle.ch_laws_ends.proofs.Changes.{told_cells}
use Rattle.ch_laws_items.proofs.Nodes as stays
use Rattle.ch_laws_lives.specs.Rolls.{LeadsTo, AllLeadTo, IsReached}
use Rattle.ch_laws_lives.proofs.NodesTold as lives
use Rattle.ch_laws_log.proofs.Keys.{node_is}
use Rattle.ch_laws_many.specs.ManyLines.{AreNamedApart}
use Rattle.ch_laws_many.proofs.Reached.{IsJournal}
use Rattle.ch_laws_plain.specs.Plain.{CellIsPlain}
use Rattle.ch_laws_plain.specs.ReadsReading.{posts_in, Brings}
use Rattle.ch_laws_plain.proofs.ReadsBrought.{AllLet, all_gone}
use Rattle.ch_laws_plain.proofs.ReadsLinks.{Keeps, Fails}
use Rattle.ch_laws_calls.specs.Turns.{told_on}
use Rattle.ch_laws_world.specs.Grows.{homes_of}
use Rattle.ch_laws_messages.specs.MailMail.{AllMail, GoesOn, waiting_for}
use Rattle.ch_laws_messages.specs.MailSaid.{GotIsSaid}
use Rattle.ch_laws_messages.proofs.MailCalls.{reached_at, goes_on}
use Rattle.ch_laws_messages.proofs.MailLogs.{AreSilent, said_still, silent_tests}
use Rattle.ch_laws_messages.proofs.MailMails.{Changes, AllPut, put_changes, keeps_same}
use Rattle.ch_laws_messages.proofs.MailNodes.{AreQuiet, Gets, EventMail, does_hear}
use Rattle.ch_laws_messages.proofs.MailTold.{AllQuiet, all_silent, quiet_both, acts_quiet, unheard, Among, among, Heard, heard, NoneHears, NodeHears, who_hears}
use Rattle.ch_laws_messages.proofs.MailWorlds.{set_like, like_mail}

-- ---- what a host posts

-- nothing, or one event
abbrev pub PostsOnce : List Step → Type 0
PostsOnce told = (posts_in told ≡ []) ⊎ ((end : ℕ) × (event : Event) × (posts_in told ≡ (end, event) ∷ []))

pub brings_once : (host after : HostState) (told : List Step) → Brings host told after → PostsOnce told
brings_once host after told (inl n) = inl n.posted
brings_once host after told (inr (inl o)) = inr (_, _, o.posted)
brings_once host after told (inr (inr (inl c))) = inr (_, _, c.posted)
brings_once host after told (inr (inr (inr (inl r)))) = inr (_, _, r.posted)
brings_once host after told (inr (inr (inr (inr l)))) = inr (_, _, l.posted)

-- nothing, or that a link has failed
abbrev pub PostsLost : List Step → Type 0
PostsLost told = (posts_in told ≡ []) ⊎ ((end : ℕ) × (peer : Address) × (why : Why) × (posts_in told ≡ (end, events.ConnectionLost peer why) ∷ []))

abbrev AllLost : Stepped → Type 0
AllLost (Ok done) = PostsLost done.0
AllLost (Err stop) = Unit {0}

let_lost : (host : HostState) (sock : ℕ) (link : Link) (done : Stepped) → AllLet host sock link done → AllLost done
let_lost host sock link (Err stop) l = tt
let_lost host sock link (Ok done) l = by_heard l.heard where
  by_heard : Keeps host link done.0 done.1 ⊎ Fails host link done.0 done.1 → PostsLost done.0
  by_heard (inl k) = inl k.posted
  by_heard (inr f) = inr (link.end, link.peer, f.why, f.posted)

all_lost : (host : HostState) (sock : ℕ) → AllLost (host_on host (sockets.Ended sock))
unfolding host_on
all_lost host sock = by_socket (find (is_socket sock) host.sockets) where
  by_test : (socket : Socket) (b : Bool) → AllLost (cond b (is_gone socket host) (still host))
  by_test socket true = all_gone host host socket AllLost refl (λ link done is l. let_lost host socket.number link done l)
  by_test socket false = inl refl

  by_socket : (x : Option Socket) → AllLost (elim x as (λ x. Stepped) [
    | None ↦ still host
    | Some socket ↦ cond (is_open socket.stage) (is_gone socket host) (still host)
  ])
  by_socket None = inl refl
  by_socket (Some socket) = by_test socket (is_open socket.stage)

pub ended_lost : (host after : HostState) (sock : ℕ) (told : List Step) → host_on host (sockets.Ended sock) ≡ Ok (told, after) → PostsLost told
ended_lost host after sock told e = let all : AllLost (Ok (told, after)) = subst AllLost e (all_lost host sock) in all

pub lost_once : (told : List Step) → PostsLost told → PostsOnce told
lost_once told (inl none) = inl none
lost_once told (inr lost) = inr (lost.0, events.ConnectionLost lost.1 lost.2, lost.3)

-- where a link failed, no message was got
pub lost_said : (log : List Entry) (world : World) (cell : Cell × ℕ) (steps : List Step) (told : List Entry) → PostsLost steps → GotIsSaid log world cell steps told
lost_said log world cell steps told p = record { said = λ from to message epoch index g. absurd (never p g.end g.conn g.payload g.posted) } where
  event_in : List (ℕ × Event) → Event
  event_in [] = events.EndPointClosed
  event_in (post ∷ posts) = post.1

  never : PostsLost steps → (end conn : ℕ) (payload : List ℕ) → posts_in steps ≡ (end, events.Received conn payload) ∷ [] → ⊥
  never (inl none) end conn payload e = let clash : ◌≡◌ {A = List (ℕ × Event)} [] ((end, events.Received conn payload) ∷ []) = sym none ∙ e in absurd cc
  never (inr lost) end conn payload e =
      let clash : ◌≡◌ {A = List (ℕ × Event)} ((lost.0, events.ConnectionLost lost.1 lost.2) ∷ []) ((end, events.Received conn payload) ∷ []) = sym lost.3 ∙ e in
      let same : events.ConnectionLost lost.1 lost.2 ≡ events.Received conn payload = ap event_in clash in absurd cc

-- ---- where a connection leads

found_leads : (own : Address) (conn : ℕ) (arrived : List Arrived) (one : Arrived) → AllLeadTo own arrived → find (λ known. known.conn == conn) arrived ≡ Some one → LeadsTo own one.bound
found_leads own conn [] one a e = absurd cc
found_leads own conn (x ∷ xs) one a e = by_test (x.conn == conn) e (found_leads own conn xs one a.1) where
  by_test : (b : Bool) → cond b (Some x) (find (λ (known : Arrived). known.conn == conn) xs) ≡ Some one → (find (λ (known : Arrived). known.conn == conn) xs ≡ Some one → LeadsTo own one.bound) → LeadsTo own one.bound
  by_test true e more = let same : x ≡ one = cc in subst (λ (y : Arrived). LeadsTo own y.bound) same a.0
  by_test false e more = more e

-- ---- a turn

module _ (journal : List Line) (j : IsJournal journal) (named : AreNamedApart (names_of journal)) (world : World) (known_so : world.names ≡ names_of journal) (homes : homes_of world.cells ≡ homes_of (world_new journal).cells) (place : ℕ) (cell : Cell × ℕ) (at : slice_get world.cells place ≡ Some cell) (log : List Entry) (a : AllMail journal log world)
    (steps : List Step) (host : HostState) (told : List LocalEntry) (after : Cell) where
  -- no mailbox was touched
  quiet_goes : AllQuiet told → after.nodes ≡ cell.0.nodes → let done = told_on place cell after told world in GoesOn journal log done.0 done.1
  quiet_goes q nodes = (
    like_mail journal log (told_on place cell after told world).0 world (told_on place cell after told world).1 (told_names place after told (with_cell place (after, cell.1) world))
        (set_like world (told_on place cell after told world).1 place cell (after, cell.1) at nodes (told_cells place after told (with_cell place (after, cell.1) world))) silent a,
    silent_tests journal log (told_on place cell after told world).0 silent,
  ) where
    silent : AreSilent (told_on place cell after told world).0
    silent = all_silent place after told (with_cell place (after, cell.1) world) q

  module _ (end : ℕ) (event : Event) (posted : posts_in steps ≡ (end, event) ∷ []) (h : Heard end event (with_host cell host) told after) (plain : CellIsPlain cell.0) (so : GotIsSaid log world cell steps (told_on place cell after told world).0) where
    -- all is quiet where the node's own is
    around : AllQuiet h.heard → AllQuiet told
    around q = subst AllQuiet (sym h.split) (quiet_both h.one (h.heard ++ h.two) h.quiet_one (quiet_both h.heard h.two q h.quiet_two))

    nobody_goes : NoneHears (with_host cell host) h.heard after → let done = told_on place cell after told world in GoesOn journal log done.0 done.1
    nobody_goes n = quiet_goes (around (subst AllQuiet (sym n.none) tt)) (ap (λ (c : Cell). c.nodes) n.same)

    module _ (n : NodeHears end event (with_host cell host) h.heard after) where
      own_stays : n.next.own ≡ n.there.1.own
      own_stays = (stays.node_after n.there.1 n.next n.acts (node_event n.there.1 event) (stays.on_event n.there.1 event) n.does).own

      is_reached : IsReached n.there.1
      is_reached = reached_at end cell.0.nodes n.there (a.reached place cell at) n.found

      still_reached : IsReached n.next
      still_reached = (lives.node_lives n.there.1 n.next n.acts (node_event n.there.1 event) (lives.on_event n.there.1 event) is_reached n.does).reached

      -- it told nothing of mailboxes
      rests_on : AreQuiet n.acts → n.next.mail ≡ n.there.1.mail → let done = told_on place cell after told world in GoesOn journal log done.0 done.1
      rests_on q same =
          let acts = acts_quiet end n.acts (with_node end n.next (with_host cell host)) h.heard after q n.all in
          goes_on journal j named world known_so homes place cell at log a end n.there n.found n.next told after acts.1 own_stays still_reached
          (inl (record { silent = all_silent place after told (with_cell place (after, cell.1) world) (around acts.0); mail = keeps_same n.there.1.mail n.next.mail same }))

      -- a process got a message
      got_on : Gets n.there.1 event n.acts n.next → let done = told_on place cell after told world in GoesOn journal log done.0 done.1
      got_on g = goes_on journal j named world known_so homes place cell at log a end n.there n.found n.next told after (ap (λ (c : Cell). c.nodes) all.1) own_stays still_reached (inr (inl (record {
        number = g.to.counter;
        before = m.before;
        behind = m.behind;
        from = process_called world.names g.from;
        to = process_called world.names g.to;
        epoch = (or_first m.last).epoch;
        index = (or_first m.last).index;
        message = g.said;
        split = tells ∙ ap (λ (own : Address). m.before ++ entries.Got (process_called world.names g.from) (names.Process (process_called world.names g.to)) (or_first m.last).epoch (or_first m.last).index (Some (record { node = called world.names own; counter = g.to.counter })) ∷ m.behind) own;
        still_before = m.still_before;
        still_behind = m.still_behind;
        said = said_still log m.before (process_called world.names g.from) (names.Process (process_called world.names g.to)) (or_first m.last).epoch (or_first m.last).index g.said
            (so.said g.from g.to g.said (or_first m.last).epoch (or_first m.last).index (record {
              end = end;
              conn = g.conn;
              payload = g.payload;
              posted = posted ∙ ap (λ (x : Event). (end, x) ∷ []) g.is;
              there = n.there;
              found = n.found;
              arrived = g.arrived;
              came = g.came;
              bound = g.bound_so;
              read = g.read;
              lives = changed.there;
              before = m.before;
              behind = m.behind;
              so_told = tells;
            }));
        changes = changed;
      }))) where
        all : (h.heard ≡ local.Note (notes.Got g.from (targets.Process g.to) (Some g.to)) ∷ []) × (after ≡ with_node end n.next (with_host cell host))
        all = told_so (subst (λ (d : List Act). acts_on end d (with_node end n.next (with_host cell host)) ≡ Ok (h.heard, after)) g.did n.all) where
          told_in : Followed → List LocalEntry
          told_in (Ok x) = x.0
          told_in (Err stop) = []

          cell_in : Followed → Cell
          cell_in (Ok x) = x.1
          cell_in (Err stop) = cell.0

          told_so : ◌≡◌ {A = Followed} (Ok (local.Note (notes.Got g.from (targets.Process g.to) (Some g.to)) ∷ [], with_node end n.next (with_host cell host))) (Ok (h.heard, after))
              → (h.heard ≡ local.Note (notes.Got g.from (targets.Process g.to) (Some g.to)) ∷ []) × (after ≡ with_node end n.next (with_host cell host))
          told_so same = (sym (ap told_in same), sym (ap cell_in same))

        m : Among world.names (notes.Got g.from (targets.Process g.to) (Some g.to)) (told_on place cell after told world).0
        m = subst (λ (l : List LocalEntry). Among world.names (notes.Got g.from (targets.Process g.to) (Some g.to)) (told_on place cell after l world).0) (ap (λ (l : List LocalEntry). h.one ++ (l ++ h.two)) (sym all.0) ∙ sym h.split)
            (among place after h.one h.two (notes.Got g.from (targets.Process g.to) (Some g.to)) (with_cell place (after, cell.1) world) h.quiet_one h.quiet_two)

        tells : (told_on place cell after told world).0 ≡ m.before ++ entries.Got (process_called world.names g.from) (names.Process (process_called world.names g.to)) (or_first m.last).epoch (or_first m.last).index (Some (process_called world.names g.to)) ∷ m.behind
        tells = m.split

        leads : LeadsTo n.there.1.own (ToTarget g.from (targets.Process g.to))
        leads = subst (LeadsTo n.there.1.own) g.bound_so (found_leads n.there.1.own g.conn n.there.1.arrived g.arrived is_reached g.came)

        own : g.to.node ≡ n.there.1.own
        own = node_is g.to.node n.there.1.own leads

        changed : Changes n.there.1.mail n.next.mail g.to.counter (waiting_for (slice_get n.there.1.mail g.to.counter) ++ g.said ∷ [])
        changed = let all : AllPut n.there.1.mail g.to.counter g.said (Ok n.next.mail) = subst (AllPut n.there.1.mail g.to.counter g.said) g.put (put_changes n.there.1.mail g.to.counter g.said) in all

      node_goes : EventMail n.there.1 event n.acts n.next → let done = told_on place cell after told world in GoesOn journal log done.0 done.1
      node_goes (inl none) = rests_on (subst AreQuiet (sym none.0) tt) none.1
      node_goes (inr g) = got_on g

    heard_goes : let done = told_on place cell after told world in GoesOn journal log done.0 done.1
    heard_goes = who_hears end event (with_host cell host) h.heard after (GoesOn journal log (told_on place cell after told world).0 (told_on place cell after told world).1) h.followed nobody_goes
        (λ n. node_goes n (does_hear n.there.1 (plain.nodes end n.there n.found).plain event n.next n.acts n.does))

  pub read_goes : CellIsPlain cell.0 → PostsOnce steps → steps_on steps (with_host cell host) ≡ Ok (told, after) → GotIsSaid log world cell steps (told_on place cell after told world).0 → let done = told_on place cell after told world in GoesOn journal log done.0 done.1
  read_goes plain (inl none) all so = let u = unheard steps (with_host cell host) told after none all in quiet_goes u.1 (ap (λ (c : Cell). c.nodes) u.0)
  read_goes plain (inr (end, event, one)) all so = heard_goes end event one (heard end event steps (with_host cell host) told after one all) plain so
