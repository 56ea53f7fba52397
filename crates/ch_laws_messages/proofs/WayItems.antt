-- A turn in which a host reads an item, or is told that the input of a socket has ended: what it writes, and that it is true.
use Rattle.std.proofs.Common.{◌≡◌, ◌⊎◌, inl, inr, ℕ, suc, Bool, true, false, cond, List, [], ◌∷◌, ◌++◌, Ok, refl, sym, ap, ◌∙◌, subst}
use Rattle.std.specs.Prelude.{find, length, slice_get, Option, Some, None, ◌==◌}
use Rattle.ch_base.specs.declared.address.Address.{Address}
use Rattle.ch_wire.specs.Spelling.{answer_spelling}
use Rattle.ch_wire.specs.declared.answer.Answer.TheVariants as answers
use Rattle.ch_link.specs.declared.LinkState.TheVariants.{Up}
use Rattle.ch_model.specs.declared.entry.Entry.{Entry}
use Rattle.ch_model.specs.declared.line.Line.{Line}
use Rattle.ch_model.specs.declared.name.End.{End}
use Rattle.ch_model.specs.declared.name.End.TheVariants.{O, T}
use Rattle.ch_model.specs.declared.name.SockName.{SockName}
use Rattle.ch_model.specs.declared.step.SocketEvent.TheVariants as sockets
use Rattle.ch_model.specs.declared.step.Step.{Step}
use Rattle.ch_model.specs.declared.step.Step.TheVariants as steps
use Rattle.ch_model.specs.AccountsFrames.{Saying}
use Rattle.ch_model.specs.AccountsItems.{frames_of}
use Rattle.ch_model.specs.Host.{host_on, host_next}
use Rattle.ch_model.specs.HostState.{Link, Socket, HostState}
use Rattle.ch_model.specs.HostSteps.{link_with, is_socket}
use Rattle.ch_model.specs.HostWrites.{is_up}
use Rattle.ch_model.specs.Same.{is_end_of}
use Rattle.ch_model.specs.Sockets.{writings}
use Rattle.ch_model.specs.WorldSockets.{end_of, is_socket_named}
use Rattle.ch_model.specs.WorldState.{Cell, WorldSocket, World}
use Rattle.ch_race.specs.Pair.{Side, other}
use Rattle.ch_laws_bytes.specs.Streams.{due_in, dues_of, writes_at, MayAsk}
use Rattle.ch_laws_bytes.proofs.Lines.{own_of}
use Rattle.ch_laws_calls.specs.Scenes.{IsPairOf, SceneFacts, scene_of}
use Rattle.ch_laws_links.specs.Naming.{IsNaming, IsUpFor}
use Rattle.ch_laws_links.proofs.Says.{risen}
use Rattle.ch_laws_log.proofs.Stored.{number_is}
use Rattle.ch_laws_race.specs.Chains.{unposted}
use Rattle.ch_laws_race.specs.Reading.{IsUser}
use Rattle.ch_laws_race.specs.Scene.{Party, host_of, link_of}
use Rattle.ch_laws_race.specs.Sound.{HasEnd}
use Rattle.ch_laws_reads.specs.Reads.{IsKept, Reads, AllRead, reads_of}
use Rattle.ch_laws_reads.proofs.HostEventsRead.{event_read}
use Rattle.ch_laws_reads.proofs.HostItemsRead.{next_told}
use Rattle.ch_laws_writes.specs.Dues.{Due, Answering, Framing, due_after, due_at, AllDue}
use Rattle.ch_laws_writes.specs.Orderly.{AreFrames, IsOrderly, AllWrite, link_at}
use Rattle.ch_laws_writes.proofs.Events.{event_writes}
use Rattle.ch_laws_writes.proofs.Items.{next_writes}
use Rattle.ch_laws_calls.specs.FitsFit.{MayAskWell}
use Rattle.ch_laws_calls.specs.FitsTurns.{NoDials, IsKind}
use Rattle.ch_laws_calls.proofs.FitsEnds.{own_by, flows_there}
use Rattle.ch_laws_places.specs.Said.{Piece, said_at}
use Rattle.ch_laws_plain.proofs.ReadsAlone.{next_dials_none, ended_dials_none}
use Rattle.ch_laws_calls.proofs.ScenesGiven.{host_is}
use Rattle.ch_laws_peers.specs.Words.{Placed, words_in, waiting_as, placing, sayings, TrueWords}
use Rattle.ch_laws_peers.specs.Says.{frames_towards, IsUpOn, Says}
use Rattle.ch_laws_peers.specs.Reads.{PlacedItem, items_in, placed_in, AreTruly}
use Rattle.ch_laws_peers.specs.Standing.{Standing}
use Rattle.ch_laws_messages.specs.WayGoes.{pieced, Adds, written_frames, HostDoes, new_for, GoTruly}
use Rattle.ch_laws_messages.specs.WayNatures.{AreBarePieces, flushed, Rises, Nature, Natures}
use Rattle.ch_laws_messages.proofs.WayDues.{due_adds, bare_new, flushed_frames, flushed_behind}
use Rattle.ch_laws_messages.proofs.WayLists.{truly_placed}
use Rattle.ch_laws_messages.proofs.WayNatures.{next_natures, ended_natures}
use Rattle.ch_laws_messages.proofs.WayPairs.{IsOf, is_of, has_end, wrote_true, said_more, truly_bare}

-- ---- steps without those that post

pub unposted_said : (n : ℕ) (told : List Step) → said_at n (unposted told) ≡ said_at n told
unposted_said n [] = refl
unposted_said n (steps.Write sock bytes said ∷ rest) = by_test (sock == n) (unposted_said n rest) where
  by_test : (b : Bool) → said_at n (unposted rest) ≡ said_at n rest → cond b ((bytes, said) ∷ said_at n (unposted rest)) (said_at n (unposted rest)) ≡ cond b ((bytes, said) ∷ said_at n rest) (said_at n rest)
  by_test true e = ap (λ (l : List Piece). (bytes, said) ∷ l) e
  by_test false e = e
unposted_said n (steps.Dial sock end peer ∷ rest) = unposted_said n rest
unposted_said n (steps.Read sock ∷ rest) = unposted_said n rest
unposted_said n (steps.Up sock ∷ rest) = unposted_said n rest
unposted_said n (steps.Down sock ∷ rest) = unposted_said n rest
unposted_said n (steps.Left sock ∷ rest) = unposted_said n rest
unposted_said n (steps.Broke end peer why ∷ rest) = unposted_said n rest
unposted_said n (steps.Post end event ∷ rest) = unposted_said n rest

pub unposted_reads : (n : ℕ) (told : List Step) → reads_of n (unposted told) ≡ reads_of n told
unposted_reads n [] = refl
unposted_reads n (steps.Read sock ∷ rest) = ap (λ (k : ℕ). cond (sock == n) (suc k) k) (unposted_reads n rest)
unposted_reads n (steps.Write sock bytes said ∷ rest) = unposted_reads n rest
unposted_reads n (steps.Dial sock end peer ∷ rest) = unposted_reads n rest
unposted_reads n (steps.Up sock ∷ rest) = unposted_reads n rest
unposted_reads n (steps.Down sock ∷ rest) = unposted_reads n rest
unposted_reads n (steps.Left sock ∷ rest) = unposted_reads n rest
unposted_reads n (steps.Broke end peer why ∷ rest) = unposted_reads n rest
unposted_reads n (steps.Post end event ∷ rest) = unposted_reads n rest

unposted_alone : (told : List Step) → NoDials told → NoDials (unposted told)
unposted_alone [] d = tt
unposted_alone (steps.Dial sock end peer ∷ rest) d = absurd d
unposted_alone (steps.Post end event ∷ rest) d = unposted_alone rest d
unposted_alone (steps.Read sock ∷ rest) d = unposted_alone rest d
unposted_alone (steps.Write sock bytes said ∷ rest) d = unposted_alone rest d
unposted_alone (steps.Up sock ∷ rest) d = unposted_alone rest d
unposted_alone (steps.Down sock ∷ rest) d = unposted_alone rest d
unposted_alone (steps.Left sock ∷ rest) d = unposted_alone rest d
unposted_alone (steps.Broke end peer why ∷ rest) d = unposted_alone rest d

unposted_due : (own : ℕ → Address) (n : ℕ) (told : List Step) (due : Option Due) → AllDue own n told due → AllDue own n (unposted told) due
unposted_due own n [] due a = tt
unposted_due own n (steps.Post end event ∷ rest) due a = unposted_due own n rest due a.1
unposted_due own n (steps.Dial sock end peer ∷ rest) due a = (a.0, unposted_due own n rest (due_after n (steps.Dial sock end peer) due) a.1)
unposted_due own n (steps.Read sock ∷ rest) due a = (a.0, unposted_due own n rest due a.1)
unposted_due own n (steps.Write sock bytes said ∷ rest) due a = (a.0, unposted_due own n rest (due_after n (steps.Write sock bytes said) due) a.1)
unposted_due own n (steps.Up sock ∷ rest) due a = (a.0, unposted_due own n rest due a.1)
unposted_due own n (steps.Down sock ∷ rest) due a = (a.0, unposted_due own n rest (due_after n (steps.Down sock) due) a.1)
unposted_due own n (steps.Left sock ∷ rest) due a = (a.0, unposted_due own n rest (due_after n (steps.Left sock) due) a.1)
unposted_due own n (steps.Broke end peer why ∷ rest) due a = (a.0, unposted_due own n rest due a.1)

-- ---- what a host does

-- what a call does where it dials nothing, without what it posts
pub record Reading (own : ℕ → Address) (host : HostState) (told : List Step) (after : HostState) : Type 0 where
  pub alone : NoDials told
  pub reads : Reads host told after
  pub due : (n : ℕ) → AllDue own n told (due_at host n)
  pub natures : Natures (due_at host) host.links told after.links

pub next_reading : (own : ℕ → Address) (host after : HostState) (told : List Step) → IsNaming host → IsOrderly own host → host_next host ≡ Ok (Some told, after) → Reading own host told after
next_reading own host after told s o e = record { alone = next_dials_none host after told e; reads = next_told host after told o.sound e; due = (next_writes own host after told o e).writes.due; natures = next_natures host after told s o.sound e }

pub ended_reading : (own : ℕ → Address) (host after : HostState) (sock : ℕ) (told : List Step) → IsOrderly own host → host_on host (sockets.Ended sock) ≡ Ok (told, after) → Reading own host told after
ended_reading own host after sock told o e = record {
  alone = ended_dials_none host after sock told e;
  reads = subst (AllRead host) e (event_read host (sockets.Ended sock)) o.sound;
  due = (subst (AllWrite own (due_at host)) e (event_writes own host (sockets.Ended sock) o tt)).writes.due;
  natures = ended_natures host after sock told e;
}

-- the items that it writes
pub new_in : (own : ℕ → Address) (host : HostState) (told : List Step) (after : HostState) → Reading own host told after → ℕ → List PlacedItem
new_in own host told after r n = (due_adds own n (unposted told) (due_at host n) (unposted_alone told r.alone) (unposted_due own n told (due_at host n) (r.due n))).0

pub alone_in : (own : ℕ → Address) (host : HostState) (told : List Step) (after : HostState) → Reading own host told after → NoDials (unposted told)
alone_in own host told after r = unposted_alone told r.alone

pub reading_does : (own : ℕ → Address) (host : HostState) (told : List Step) (after : HostState) (r : Reading own host told after) → HostDoes own host (unposted told) after (new_in own host told after r)
unfolding new_in
reading_does own host told after r = record {
  reads = record { sound = r.reads.sound; known = λ n socket found. subst (λ (k : ℕ). kept n socket k) (sym (unposted_reads n told)) (r.reads.known n socket found); fresh = r.reads.fresh };
  adds = λ n. (due_adds own n (unposted told) (due_at host n) (unposted_alone told r.alone) (unposted_due own n told (due_at host n) (r.due n))).1;
} where
  kept : ℕ → Socket → ℕ → Type 0
  kept n socket k = IsKept k socket (find (is_socket n) after.sockets)

-- ---- that it is true

-- what is new at an end of some cell and number
pub new_cases : (place : ℕ) (new : ℕ → List PlacedItem) (c m : Option ℕ) (P : List PlacedItem → Type 0) → P [] → ((n : ℕ) → c ≡ Some place → m ≡ Some n → P (new n)) → P (new_for place new c m)
new_cases place new None m P none some = none
new_cases place new (Some p) None P none some = none
new_cases place new (Some p) (Some n) P none some = by_test (p == place) refl where
  by_test : (b : Bool) → (p == place) ≡ b → P (cond b (new n) [])
  by_test true h = some n (ap Some (number_is p place h)) refl
  by_test false h = none

-- what the host of an end may ask
pub may_ask : (journal : List Line) (log : List Entry) (world : World) (place n : ℕ) (cell : Cell × ℕ) (s : SockName) (socket : WorldSocket) (e : End) → Standing journal log world → MayAskWell journal world socket → slice_get world.cells place ≡ Some cell → find (is_socket_named s) world.sockets ≡ Some socket → (end_of e socket).cell ≡ Some place → (end_of e socket).number ≡ Some n
    → MayAsk (own_of journal place) (due_at cell.0.host n)
may_ask journal log world place n cell s socket e st may at found c m = by_end e c m where
  as_due : (c m : Option ℕ) → c ≡ Some place → m ≡ Some n → MayAsk (own_by journal c) (writes_at (dues_of world.cells) c m) → MayAsk (own_of journal place) (due_at cell.0.host n)
  as_due c m h g a = subst (λ (o : Option (Cell × ℕ)). MayAsk (own_of journal place) (due_in o n)) at (subst (λ (k : Option ℕ). MayAsk (own_of journal place) (writes_at (dues_of world.cells) (Some place) k)) g (subst (λ (k : Option ℕ). MayAsk (own_by journal k) (writes_at (dues_of world.cells) k m)) h a))

  by_end : (e : End) → (end_of e socket).cell ≡ Some place → (end_of e socket).number ≡ Some n → MayAsk (own_of journal place) (due_at cell.0.host n)
  by_end O c m = as_due socket.o.cell socket.o.number c m (flows_there journal world s socket T st.all.sound.ends.flowing found may).may
  by_end T c m = as_due socket.t.cell socket.t.number c m (flows_there journal world s socket O st.all.sound.ends.flowing found may).may

-- what is so of such a turn
pub record ReadTurn (journal : List Line) (log : List Entry) (world : World) (place : ℕ) (cell : Cell × ℕ) (told : List Step) (host : HostState) (more : List Entry) (after : World) (party : Side → Party) (x : Side) : Type 0 where
  pub at : slice_get world.cells place ≡ Some cell
  pub reading : Reading (own_of journal place) cell.0.host told host
  pub now : Cell × ℕ
  pub now_at : slice_get after.cells place ≡ Some now
  pub host_now : now.0.host ≡ host
  pub before : Standing journal log world
  pub later : Standing journal (log ++ more) after
  pub may : (s : SockName) (socket : WorldSocket) → find (is_socket_named s) world.sockets ≡ Some socket → MayAskWell journal world socket
  pub pair : IsPairOf journal party
  pub says : Says journal log world party x

one : {A : Type 0} (x y : A) → ◌≡◌ {A = Option A} (Some x) (Some y) → x ≡ y
one x y e = cc

-- the link that is up on an end of x is its link with the other node
pub up_key : (journal : List Line) (log : List Entry) (world : World) (party : Side → Party) (x : Side) (s : SockName) (socket : WorldSocket) (e : End) (cell : Cell × ℕ) (n end : ℕ) (peer : Address) (probed : Bool) → Standing journal log world → IsPairOf journal party → find (is_socket_named s) world.sockets ≡ Some socket → is_end_of (party x).name (party (other x)).name s e ≡ true
    → (end_of e socket).number ≡ Some n → slice_get world.cells (party x).place ≡ Some cell → (link_with cell.0.host end peer).state ≡ Up n probed → (end ≡ (party x).address.id) × (peer ≡ (party (other x)).address)
up_key journal log world party x s socket e cell n end peer probed st pair found of number at up = by_user (facts.users x e o.i n socket known.0 has kept) where
  facts : SceneFacts party world
  facts = st.each_pair.shown party pair

  o : IsOf party world x socket e
  o = is_of party world x s socket e facts found of

  has : HasEnd (scene_of party world) x e o.i n socket
  has = has_end party world x socket e n o number

  known : (known : Socket) × (find (is_socket n) cell.0.host.sockets ≡ Some known) × IsUpFor end peer known
  known = risen cell.0.host end peer n probed (st.all.sound.links.naming (party x).place cell at).naming up

  kept : find (is_socket n) (host_of (scene_of party world) x).sockets ≡ Some known.0
  kept = ap (λ (h : HostState). find (is_socket n) h.sockets) (host_is world (party x).place cell at) ∙ known.1

  by_user : (known.0.user ≡ None) ⊎ IsUser (scene_of party world) x known.0 → (end ≡ (party x).address.id) × (peer ≡ (party (other x)).address)
  by_user (inl none) = let no : ◌≡◌ {A = Option (ℕ × Address)} None (Some (end, peer)) = sym none ∙ known.2.user in absurd cc
  by_user (inr is) = let both : (end, peer) ≡ ((party x).address.id, (party (other x)).address) = one (end, peer) ((party x).address.id, (party (other x)).address) (sym known.2.user ∙ is) in (ap (λ (u : ℕ × Address). u.0) both, ap (λ (u : ℕ × Address). u.1) both)

pub read_truly : (journal : List Line) (log : List Entry) (world : World) (place : ℕ) (cell : Cell × ℕ) (told : List Step) (host : HostState) (more : List Entry) (after : World) (party : Side → Party) (x : Side) → (t : ReadTurn journal log world place cell told host more after party x) → GoTruly place (unposted told) (new_in (own_of journal place) cell.0.host told host t.reading) log world (log ++ more) after party x
read_truly journal log world place cell told host more after party x t s e socket of found turn = new_cases place new (end_of e turn.before).cell (end_of e turn.before).number True (truly_bare journal log more party x s e [] (wrote_true journal log world party x s e t.says of) tt) at_number where
  new : ℕ → List PlacedItem
  new = new_in (own_of journal place) cell.0.host told host t.reading

  said : List Saying
  said = sayings (party x).name (party (other x)).name log

  True : List PlacedItem → Type 0
  True items = AreTruly (sayings (party x).name (party (other x)).name (log ++ more)) (written_frames said (writings log s e) ++ placed_in items)

  facts : SceneFacts party world
  facts = t.before.each_pair.shown party t.pair

  o : IsOf party world x turn.before e
  o = is_of party world x s turn.before e facts turn.found of

  -- nothing was written before the link is up
  none_written : is_up (link_of (scene_of party world) x).state ≡ false → written_frames said (writings log s e) ≡ []
  none_written down = ap (placing said [] 0) (by_one (t.says.one s e of)) where
    by_one : (frames_of log s e ≡ []) ⊎ (IsUpOn party world x s e × (frames_of log s e ≡ frames_towards (party x).name (party (other x)).name log)) → frames_of log s e ≡ []
    by_one (inl none) = none
    by_one (inr u) = let no : true ≡ false = sym (ap is_up u.0.up) ∙ down in absurd cc

  -- all that waited is true
  waited : is_up (link_of (scene_of party world) x).state ≡ false → AreTruly (sayings (party x).name (party (other x)).name (log ++ more)) (waiting_as (link_of (scene_of party world) x).waits)
  waited down = subst (λ (l : List Saying). AreTruly l (waiting_as (link_of (scene_of party world) x).waits)) (sym (said_more (party x).name (party (other x)).name log more))
      (truly_placed journal said (sayings (party x).name (party (other x)).name more) [] 0 _ (waiting_as (link_of (scene_of party world) x).waits)
      (subst (λ (l : List Placed). TrueWords journal said [] 0 (words_in (l ++ waiting_as (link_of (scene_of party world) x).waits)) (length said)) (ap (placing said [] 0) (t.says.down down)) t.says.words) t.says.placed)

  at_number : (n : ℕ) → (end_of e turn.before).cell ≡ Some place → (end_of e turn.before).number ≡ Some n → True (new n)
  at_number n c m = by_nature (t.reading.natures n) where
    here : place ≡ (party x).place
    here = one place (party x).place (sym c ∙ o.cell)

    adds : Adds (own_of journal place) (due_at cell.0.host n) (said_at n (unposted told)) (new n)
    adds = (reading_does (own_of journal place) cell.0.host told host t.reading).adds n

    rises : Rises (due_at cell.0.host) cell.0.host.links host.links n (said_at n told) → True (new n)
    rises r = subst (λ (l : List Placed). AreTruly (sayings (party x).name (party (other x)).name (log ++ more)) (l ++ placed_in (new n))) (sym (none_written down))
        (subst (λ (l : List Placed). AreTruly (sayings (party x).name (party (other x)).name (log ++ more)) l) (sym flushed_is) (waited down))
      where
        now_up : (link_with t.now.0.host r.end r.peer).state ≡ Up n false
        now_up = ap (λ (h : HostState). (link_with h r.end r.peer).state) t.host_now ∙ r.up

        key : (r.end ≡ (party x).address.id) × (r.peer ≡ (party (other x)).address)
        key = up_key journal (log ++ more) after party x s socket e t.now n r.end r.peer false t.later t.pair found of (turn.number n m) (subst (λ (p : ℕ). slice_get after.cells p ≡ Some t.now) here t.now_at) now_up

        link : link_at cell.0.host.links r.end r.peer ≡ link_of (scene_of party world) x
        link = ap (λ (end : ℕ). link_at cell.0.host.links end r.peer) key.0 ∙ ap (link_at cell.0.host.links (party x).address.id) key.1
            ∙ ap (λ (h : HostState). link_with h (party x).address.id (party (other x)).address) (sym (host_is world (party x).place cell (subst (λ (p : ℕ). slice_get world.cells p ≡ Some cell) here t.at)))

        down : is_up (link_of (scene_of party world) x).state ≡ false
        down = ap (λ (l : Link). is_up l.state) (sym link) ∙ r.down

        framed : AreFrames (link_at cell.0.host.links r.end r.peer).waits
        framed = ((t.before.all.sound.ends.flowing.orderly place cell t.at).links r.end r.peer).spelled

        flushed_is : placed_in (new n) ≡ waiting_as (link_of (scene_of party world) x).waits
        flushed_is = by_kind r.is ∙ ap (λ (l : Link). waiting_as l.waits) link where
          pieces : said_at n told ≡ pieced (new n)
          pieces = sym (unposted_said n told) ∙ adds.is

          by_kind : ((due_at cell.0.host n ≡ Some Framing) × (said_at n told ≡ flushed (link_at cell.0.host.links r.end r.peer).waits)) ⊎ ((due_at cell.0.host n ≡ Some Answering) × (said_at n told ≡ (answer_spelling answers.Accepted, None) ∷ flushed (link_at cell.0.host.links r.end r.peer).waits)) → placed_in (new n) ≡ waiting_as (link_at cell.0.host.links r.end r.peer).waits
          by_kind (inl d) = flushed_frames (new n) (link_at cell.0.host.links r.end r.peer).waits (subst (λ (due : Option Due). IsKind (own_of journal place) due (items_in (new n))) d.0 adds.kind) framed (sym d.1 ∙ pieces)
          by_kind (inr d) = flushed_behind (new n) (link_at cell.0.host.links r.end r.peer).waits (answer_spelling answers.Accepted, None) (subst (λ (due : Option Due). IsKind (own_of journal place) due (items_in (new n))) d.0 adds.kind) framed (sym d.1 ∙ pieces)

    by_nature : Nature (due_at cell.0.host) cell.0.host.links host.links n (said_at n told) → True (new n)
    by_nature (inl bare) = truly_bare journal log more party x s e (placed_in (new n)) (wrote_true journal log world party x s e t.says of)
        (bare_new (own_of journal place) (due_at cell.0.host n) (said_at n (unposted told)) (new n) adds (may_ask journal log world place n cell s turn.before e t.before (t.may s turn.before turn.found) t.at turn.found c m) (subst AreBarePieces (sym (unposted_said n told)) bare))
    by_nature (inr r) = rises r
