-- All that was got is among the sayings that are carried by what is read, after each turn; and what enters in an item turn is carried next.
use Rattle.std.proofs.Common.{◌≡◌, ◌⊎◌, inl, inr, ◌≤◌, ◌<◌, ℕ, suc, ◌+◌, true, false, List, [], ◌∷◌, ◌++◌, length, Ok, refl, sym, ap, ◌∙◌, subst, arith}
use Rattle.std.specs.Prelude.{find, slice_get, Some}
use Rattle.ch_static.specs.declared.command.Command.{Command}
use Rattle.ch_wire.specs.declared.frame.Frame.TheVariants as frames
use Rattle.ch_model.specs.declared.act.Act.{Act}
use Rattle.ch_model.specs.declared.entry.Entry.{Entry}
use Rattle.ch_model.specs.declared.entry.Entry.TheVariants as entries
use Rattle.ch_model.specs.declared.line.Line.{Line}
use Rattle.ch_model.specs.declared.line.What.{What}
use Rattle.ch_model.specs.declared.local.LocalEntry.{LocalEntry}
use Rattle.ch_model.specs.declared.name.End.{End}
use Rattle.ch_model.specs.declared.name.ProcName.{ProcName}
use Rattle.ch_model.specs.declared.name.TargetName.TheVariants as names
use Rattle.ch_model.specs.declared.step.SocketEvent.TheVariants as sockets
use Rattle.ch_model.specs.declared.step.Step.{Step}
use Rattle.ch_model.specs.Cell.{room_for}
use Rattle.ch_model.specs.AccountsFrames.{Saying, is_saying}
use Rattle.ch_model.specs.CellSteps.{is_at, with_node, acts_on, steps_on}
use Rattle.ch_model.specs.Host.{host_next}
use Rattle.ch_model.specs.HostState.{HostState}
use Rattle.ch_model.specs.Naming.{process_called}
use Rattle.ch_model.specs.Node.{node_make, node_command, target_node}
use Rattle.ch_model.specs.NodeState.{NodeState}
use Rattle.ch_model.specs.World.{names_of}
use Rattle.ch_model.specs.WorldHappenings.{with_cell}
use Rattle.ch_model.specs.WorldState.{Cell, WorldSocket, World}
use Rattle.ch_model.specs.WorldSteps.{all_told}
use Rattle.ch_race.specs.Pair.{Side, other}
use Rattle.ch_laws_bytes.proofs.Lines.{own_of}
use Rattle.ch_laws_race.specs.Scene.{Party}
use Rattle.ch_laws_calls.specs.Calls.{with_host, done_at, IsCalled, joined_in, come_in, fed_in}
use Rattle.ch_laws_calls.specs.Scenes.{IsPairOf}
use Rattle.ch_laws_plain_logs.specs.Plain.{IsPlain}
use Rattle.ch_laws_plain_nodes.specs.Does.{Makes}
use Rattle.ch_laws_plain_nodes.specs.Plain.{IsPlain as IsPlainNode}
use Rattle.ch_laws_plain_nodes.proofs.Calls.{makes}
use Rattle.ch_laws_plain_nodes.proofs.Steps.{given_so}
use Rattle.ch_laws_calls.specs.Turns.{told_on, IsAsked, end_in, KeepsTurns}
use Rattle.ch_laws_peers.specs.Words.{sayings}
use Rattle.ch_laws_peers.specs.Reads.{ReadsOne, ReadsNone, read_of}
use Rattle.ch_laws_peers.specs.Standing.{IsOfNodes}
use Rattle.ch_laws_messages.specs.WayReadingGoes.{Known, Grown, NoneRead, OneRead, ReadingGoes}
use Rattle.ch_laws_messages.specs.GotReadingGoes.{KnownGot}
use Rattle.ch_laws_messages.proofs.GotAsked.{plain_asked}
use Rattle.ch_laws_messages.proofs.GotGots.{ActsGetNone, acts_tell, SaidHome, command_gets}
use Rattle.ch_laws_messages.proofs.GotHosts.{has_broke, Calm, ended_does}
use Rattle.ch_laws_messages.proofs.GotTold.{is_receipt, NoGots, steps_tell, calm_told, none_broke}
use Rattle.ch_laws_messages.proofs.GotWorlds.{names_apart, read_same, read_more}
use Rattle.ch_laws_messages.specs.CarriedCounts.{carried_in}
use Rattle.ch_laws_messages.specs.CarriedNexts.{GotBelow, AllBelow, GotsBelow}
use Rattle.ch_laws_messages.specs.EnteredEnters.{EntersSo, AllEnter, ReadsEnter}
use Rattle.ch_laws_messages.proofs.EnteredBelow.{said_still, goes_on, AllApart, apart_below, no_gots_apart, well_apart, home_apart}
use Rattle.ch_laws_messages.proofs.EnteredCarried.{carried_more, carried_one}
use Rattle.ch_laws_messages.proofs.EnteredNext.{NextSo, is_next, gets_next, ItemNext, item_next}
use Rattle.ch_laws_messages.proofs.EnteredParties.{two_same}

-- ---- where nothing is read

-- nothing of these entries is got between two nodes of the journal
abbrev pub NoneBetween : List Line → List Entry → Type 0
NoneBetween journal more = (party : Side → Party) → IsPairOf journal party → (x : Side) → AllApart (party x).name (party (other x)).name more

pub none_below : (journal : List Line) (log more : List Entry) (world after : World) → KnownGot journal log world → GotsBelow journal log world → NoneRead journal log world (log ++ more) after → NoneBetween journal more → GotsBelow journal (log ++ more) after
none_below journal log more world after k g reading apart = λ party pair x. goes_on (party x).name (party (other x)).name (carried_in [] (read_of party world x log)) (carried_in [] (read_of party after x (log ++ more))) log more
    (as_many (carried_in [] (read_of party world x log)) (carried_in [] (read_of party after x (log ++ more))) (ap (carried_in []) (read_same party x log (log ++ more) world after (k.0.0.1.1 party pair x) (reading party pair x).0 (reading party pair x).1))) (g party pair x)
    (apart_below (party x).name (party (other x)).name (sayings (party x).name (party (other x)).name (log ++ more)) (carried_in [] (read_of party after x (log ++ more))) more (apart party pair x)) where
      as_many : (n m : ℕ) → m ≡ n → n ≤ m
      as_many n m e = omega arith

between_no_gots : (journal : List Line) (entry : Entry) (more : List Entry) → is_receipt entry ≡ false → NoGots more → NoneBetween journal (entry ∷ more)
between_no_gots journal entry more e n party pair x = no_gots_apart (party x).name (party (other x)).name (entry ∷ more) (e, n)

differ : (journal : List Line) (log : List Entry) (world : World) → Known journal log world → (party : Side → Party) → IsPairOf journal party → (x : Side) → (party x).name ≡ (party (other x)).name → ⊥
differ journal log world k party pair x = names_apart party world (k.0.each_pair.shown party pair) x

made_between : (journal : List Line) (log : List Entry) (world : World) (place : ℕ) (cell : Cell × ℕ) (end number : ℕ) (node : NodeState) (done : List Act) (next : NodeState) (told : List LocalEntry) (after : Cell) → slice_get world.cells place ≡ Some cell → find (is_at end) cell.0.nodes ≡ Some (number, node) → node_make node ≡ Ok (done, next) → acts_on end done (with_node end next cell.0) ≡ Ok (told, after) → Known journal log world
    → NoneBetween journal (told_on place cell after told world).0
made_between journal log world place cell end number node done next told after at found e ran k party pair x = well_apart (party x).name (party (other x)).name (differ journal log world k party pair x) [] (told_on place cell after told world).0 (λ before. acts_tell (before ++ []) place end done (with_node end next cell.0) told after after (with_cell place (after, cell.1) world) (subst ActsGetNone (sym made.did) tt) ran) where
  made : Makes node done next
  made = given_so (Makes node) (node_make node) done next (makes node ((k.0.plain.cells place cell at).nodes end (number, node) found).plain) e

asked_between : (journal : List Line) (log : List Entry) (world : World) (what : What) (by : ProcName) (command : Command) (place : ℕ) (cell : Cell × ℕ) (number : ℕ) (node : NodeState) (done : List Act) (next : NodeState) (told : List LocalEntry) (after : Cell) → IsAsked journal world what by command place → slice_get world.cells place ≡ Some cell → find (is_at (end_in world by)) cell.0.nodes ≡ Some (number, node)
    → node_command node by.counter command (room_for cell.0.host (end_in world by) node.own (target_node node by.counter command)) ≡ Ok (done, next) → acts_on (end_in world by) done (with_node (end_in world by) next cell.0) ≡ Ok (told, after) → Known journal log world
    → NoneBetween journal (told_on place cell after told world).0
asked_between journal log world what by command place cell number node done next told after asks at found e ran k party pair x = by_gets (command_gets node next by.counter command (room_for cell.0.host (end_in world by) node.own (target_node node by.counter command)) done its_plain (plain_asked (names_of journal) world.names what by command asks.of asks.asks) e) where
  its_plain : IsPlainNode node
  its_plain = ((k.0.plain.cells place cell at).nodes (end_in world by) (number, node) found).plain

  by_gets : ActsGetNone done ⊎ SaidHome node done → AllApart (party x).name (party (other x)).name (told_on place cell after told world).0
  by_gets (inl n) = well_apart (party x).name (party (other x)).name (differ journal log world k party pair x) [] (told_on place cell after told world).0 (λ before. acts_tell (before ++ []) place (end_in world by) done (with_node (end_in world by) next cell.0) told after after (with_cell place (after, cell.1) world) n ran)
  by_gets (inr h) = home_apart (party x).name (party (other x)).name (differ journal log world k party pair x) place (end_in world by) node done (with_node (end_in world by) next cell.0) told after after (with_cell place (after, cell.1) world) h ran

ended_none : (journal : List Line) (log : List Entry) (world : World) (socket : WorldSocket) (which : End) (place n : ℕ) (cell : Cell × ℕ) (steps : List Step) (host : HostState) (told : List LocalEntry) (after : Cell) → IsCalled world place cell (sockets.Ended n) steps host → steps_on steps (with_host cell host) ≡ Ok (told, after) → Known journal log world
    → IsPlain (log ++ entries.Fed socket.name which 0 ∷ (told_on place cell after told world).0) → NoGots (told_on place cell after told world).0
ended_none journal log world socket which place n cell steps host told after is ran k kinds = by_calm (ended_does (own_of journal place) cell.0.host host n steps (k.0.all.sound.links.naming place cell is.at).naming (k.0.all.sound.ends.flowing.orderly place cell is.at) is.does) where
  assoc : (xs ys : List Entry) (z : Entry) → xs ++ z ∷ ys ≡ (xs ++ z ∷ []) ++ ys
  assoc [] ys z = refl
  assoc (w ∷ xs) ys z = ap (λ (l : List Entry). w ∷ l) (assoc xs ys z)

  by_calm : Calm cell.0.host steps host ⊎ (has_broke steps ≡ true) → NoGots (told_on place cell after told world).0
  by_calm (inr broke) = none_broke place steps (with_host cell host) told after after (log ++ entries.Fed socket.name which 0 ∷ []) (with_cell place (after, cell.1) world) broke ran (subst IsPlain (assoc log (told_on place cell after told world).0 (entries.Fed socket.name which 0)) kinds)
  by_calm (inl c) = subst (λ (t : List LocalEntry). NoGots (all_told place after t (with_cell place (after, cell.1) world)).0) (sym (calm_told steps (with_host cell host) told after c.posted ran).1) (steps_tell place after steps (with_cell place (after, cell.1) world))

-- ---- where a host reads an item

module _ (journal : List Line) (nodes : IsOfNodes journal) (log : List Entry) (world : World) (known : KnownGot journal log world) (place : ℕ) (cell : Cell × ℕ) (done : List Step) (host : HostState) (told : List LocalEntry) (after : Cell) (at : slice_get world.cells place ≡ Some cell) (ran : steps_on done (with_host cell host) ≡ Ok (told, after))
    (reading : OneRead journal place cell log world (log ++ (told_on place cell after told world).0) (told_on place cell after told world).1) (then_known : KnownGot journal (log ++ (told_on place cell after told world).0) (told_on place cell after told world).1) (read : host_next cell.0.host ≡ Ok (Some done, host)) where
  abbrev final : List Entry × World
  final = told_on place cell after told world

  abbrev Gets : Type 0
  Gets = ItemNext journal nodes log world known place cell done host told after at ran reading then_known

  -- however the two nodes are given
  its_so : (i : Gets) (party : Side → Party) → IsPairOf journal party → (x : Side) → (process_called world.names i.from).node ≡ (party x).name → (process_called world.names i.to).node ≡ (party (other x)).name
      → NextSo journal log world cell (log ++ final.0) final.1 (process_called world.names i.from) (process_called world.names i.to) i.epoch i.index party x
  its_so i party pair x from to = two_same journal i.party party i.pair pair i.x x (sym i.of.from_node ∙ from) (sym i.of.to_node ∙ to) (λ (p : Side → Party) (y : Side). NextSo journal log world cell (log ++ final.0) final.1 (process_called world.names i.from) (process_called world.names i.to) i.epoch i.index p y) i.so

  no_gots_enter : (more : List Entry) → NoGots more → AllEnter journal log world cell more
  no_gots_enter [] n = tt
  no_gots_enter (entry ∷ rest) n = (one entry n.0, no_gots_enter rest n.1) where
    one : (e : Entry) → is_receipt e ≡ false → EntersSo journal log world cell e
    one (entries.Got by to epoch index receiver) f = absurd cc
    one e f = tt

  -- what is told as got enters so
  pub item_enters : AllEnter journal log world cell final.0
  item_enters = by_told (item_next journal nodes log world known place cell done host told after at ran reading then_known read) where
    by_told : NoGots final.0 ⊎ Gets → AllEnter journal log world cell final.0
    by_told (inl n) = no_gots_enter final.0 n
    by_told (inr i) = subst (AllEnter journal log world cell) (sym i.told_is) ((record { party = i.party; pair = i.pair; x = i.x; from = i.of.from_node; goes = i.of.to_node; next = gets_next i.so }, λ party pair x from to. gets_next (its_so i party pair x from to)), tt)

  -- no fewer sayings are carried by what is read
  grows : (party : Side → Party) → IsPairOf journal party → (x : Side) → carried_in [] (read_of party world x log) ≤ carried_in [] (read_of party final.1 x (log ++ final.0))
  grows party pair x = by_one (reading party pair x).0 (reading party pair x).1 where
    as_many : (n m : ℕ) → m ≡ n → n ≤ m
    as_many n m e = omega arith

    by_one : Grown party x log (log ++ final.0) → ReadsOne log world party x place cell (log ++ final.0) final.1 ⊎ ReadsNone log world party x place cell (log ++ final.0) final.1 → carried_in [] (read_of party world x log) ≤ carried_in [] (read_of party final.1 x (log ++ final.0))
    by_one grown (inr n) = as_many (carried_in [] (read_of party world x log)) (carried_in [] (read_of party final.1 x (log ++ final.0))) (ap (carried_in []) (read_same party x log (log ++ final.0) world final.1 (known.0.0.1.1 party pair x) grown n.0))
    by_one grown (inl r) = subst (λ (l : List (ℕ × List ℕ)). carried_in [] (read_of party world x log) ≤ carried_in [] l) (sym (read_more party x log (log ++ final.0) world final.1 r.frame r.word grown r.reads_next.next r.more)) (carried_more [] (read_of party world x log) _)

  -- what is got is among those that are carried then
  its_below : (i : Gets) (party : Side → Party) → IsPairOf journal party → (x : Side)
      → GotBelow (party x).name (party (other x)).name (sayings (party x).name (party (other x)).name (log ++ final.0)) (carried_in [] (read_of party final.1 x (log ++ final.0))) (entries.Got (process_called world.names i.from) (names.Process (process_called world.names i.to)) i.epoch i.index (Some (process_called world.names i.to)))
  its_below i party pair x from to = by_so (its_so i party pair x from to) where
    by_so : NextSo journal log world cell (log ++ final.0) final.1 (process_called world.names i.from) (process_called world.names i.to) i.epoch i.index party x
        → (k : ℕ) × (k < carried_in [] (read_of party final.1 x (log ++ final.0))) × ((s : Saying) × (slice_get (sayings (party x).name (party (other x)).name (log ++ final.0)) k ≡ Some s) × (is_saying (process_called world.names i.from) (names.Process (process_called world.names i.to)) i.epoch i.index s ≡ true))
    by_so so = (carried_in [] (read_of party world x log), one_more (carried_in [] (read_of party world x log)) (carried_in [] (read_of party final.1 x (log ++ final.0))) carries, (so.s, said_still (party x).name (party (other x)).name log final.0 (carried_in [] (read_of party world x log)) so.s so.at, is_next so)) where
      one_more : (n m : ℕ) → m ≡ suc n → n < m
      one_more n m e = omega arith

      carries : carried_in [] (read_of party final.1 x (log ++ final.0)) ≡ suc (carried_in [] (read_of party world x log))
      carries = ap (carried_in []) (read_more party x log (log ++ final.0) world final.1 (frames.Data so.id so.payload) so.word (reading party pair x).0 so.reads_next.next so.more) ∙ carried_one (read_of party world x log) (so.id, so.payload) so.opening so.opened

  pub item_below : GotsBelow journal log world → GotsBelow journal (log ++ final.0) final.1
  item_below g = λ party pair x. goes_on (party x).name (party (other x)).name (carried_in [] (read_of party world x log)) (carried_in [] (read_of party final.1 x (log ++ final.0))) log final.0 (grows party pair x) (g party pair x) (by_told party pair x (item_next journal nodes log world known place cell done host told after at ran reading then_known read)) where
    by_told : (party : Side → Party) → IsPairOf journal party → (x : Side) → NoGots final.0 ⊎ Gets → AllBelow (party x).name (party (other x)).name (sayings (party x).name (party (other x)).name (log ++ final.0)) (carried_in [] (read_of party final.1 x (log ++ final.0))) final.0
    by_told party pair x (inl n) = apart_below (party x).name (party (other x)).name (sayings (party x).name (party (other x)).name (log ++ final.0)) (carried_in [] (read_of party final.1 x (log ++ final.0))) final.0 (no_gots_apart (party x).name (party (other x)).name final.0 n)
    by_told party pair x (inr i) = subst (AllBelow (party x).name (party (other x)).name (sayings (party x).name (party (other x)).name (log ++ final.0)) (carried_in [] (read_of party final.1 x (log ++ final.0)))) (sym i.told_is) (its_below i party pair x, tt)

-- ---- all turns

pub reads_enter : (journal : List Line) → IsOfNodes journal → ReadingGoes journal → ReadsEnter journal (KnownGot journal) (KnownGot journal)
reads_enter journal nodes reading = record {
  item = λ log world place cell steps host told after at e ran p q. item_enters journal nodes log world p place cell steps host told after at ran (reading.item log world place cell steps host told after at e ran p.0.0 q.0.0) q e;
}

pub below_kept : (journal : List Line) → IsOfNodes journal → ReadingGoes journal → KeepsTurns journal (KnownGot journal) (KnownGot journal) (GotsBelow journal)
below_kept journal nodes reading = record {
  marked = λ log world number what answer line many p g q. none_below journal log (entries.Line number answer ∷ []) world world p g (reading.marked log world number what answer line many p.0.0 q.0.0) (λ party pair x. (tt, tt));
  made = λ log world place cell end number node done next told after at found e ran p g q. none_below journal log (told_on place cell after told world).0 world (told_on place cell after told world).1 p g (reading.made log world place cell end number node done next told after at found e ran p.0.0 q.0.0) (made_between journal log world place cell end number node done next told after at found e ran p.0.0);
  asked = λ log world what by command place cell number node done next told after asks at found e ran p g q. none_below journal log (told_on place cell after told world).0 world (told_on place cell after told world).1 p g (reading.asked log world what by command place cell number node done next told after asks at found e ran p.0.0 q.0.0) (asked_between journal log world what by command place cell number node done next told after asks at found e ran p.0.0);
  joined = λ log world socket place n cell steps host is may held call all p g q. none_below journal log (entries.Joined socket.name ∷ (done_at place cell steps host (joined_in socket world)).0) world (done_at place cell steps host (joined_in socket world)).1 p g (reading.joined log world socket place n cell steps host is may held call all p.0.0 q.0.0) (between_no_gots journal (entries.Joined socket.name) (done_at place cell steps host (joined_in socket world)).0 refl (steps_tell place (with_host cell host) steps _));
  came = λ log world socket place cell steps host is may held call all p g q. none_below journal log (entries.Came socket.name ∷ (done_at place (cell.0, cell.1 + 1) steps host (come_in place cell socket world)).0) world (done_at place (cell.0, cell.1 + 1) steps host (come_in place cell socket world)).1 p g (reading.came log world socket place cell steps host is may held call all p.0.0 q.0.0) (between_no_gots journal (entries.Came socket.name) (done_at place (cell.0, cell.1 + 1) steps host (come_in place cell socket world)).0 refl (steps_tell place (with_host cell host) steps _));
  fed = λ log world socket which count b bytes place n cell steps host is may taken held call all p g q. none_below journal log (entries.Fed socket.name which (length (b ∷ bytes)) ∷ (done_at place cell steps host (fed_in which count socket world)).0) world (done_at place cell steps host (fed_in which count socket world)).1 p g (reading.fed log world socket which count b bytes place n cell steps host is may taken held call all p.0.0 q.0.0) (between_no_gots journal (entries.Fed socket.name which (length (b ∷ bytes))) (done_at place cell steps host (fed_in which count socket world)).0 refl (steps_tell place (with_host cell host) steps _));
  ended = λ log world socket which place n cell steps host told after is may none held call ran all p g q. none_below journal log (entries.Fed socket.name which 0 ∷ (told_on place cell after told world).0) world (told_on place cell after told world).1 p g (reading.ended log world socket which place n cell steps host told after is may none held call ran all p.0.0 q.0.0) (between_no_gots journal (entries.Fed socket.name which 0) (told_on place cell after told world).0 refl (ended_none journal log world socket which place n cell steps host told after call ran p.0.0 q.0.0.0.kinds));
  item = λ log world place cell steps host told after at e ran p g q. item_below journal nodes log world p place cell steps host told after at ran (reading.item log world place cell steps host told after at e ran p.0.0 q.0.0) q e g;
}
