-- Two nodes in a world whose cell at one place is another: what was got, where nothing of it is read, and what is read, where something is.
use Rattle.std.proofs.Common.{◌≡◌, ◌⊎◌, inl, inr, ◌≤◌, ℕ, zero, suc, Bool, true, false, List, [], ◌∷◌, ◌++◌, length, take, refl, sym, ap, ◌∙◌, subst, arith}
use Rattle.std.specs.Prelude.{find, slice_get, slice_set, Option, Some, None, ◌==◌}
use Rattle.std.proofs.lemmas.List.{map-append}
use Rattle.std.proofs.lemmas.List.Elements.{filter_map-append}
use Rattle.std.proofs.lemmas.Slice.Eq.{bytes_eq-Decides}
use Rattle.ch_base.specs.declared.address.Address.{Address}
use Rattle.ch_wire.specs.declared.frame.Frame.{Frame}
use Rattle.ch_wire.specs.declared.frame.Frame.TheVariants as frames
use Rattle.ch_light.specs.declared.Connection.{Connection}
use Rattle.ch_light.specs.Ids.{id_of}
use Rattle.ch_model.specs.declared.entry.Entry.{Entry}
use Rattle.ch_model.specs.declared.line.Line.{Line}
use Rattle.ch_model.specs.declared.step.Place.{Place}
use Rattle.ch_model.specs.AccountsItems.{data_of, first_payload}
use Rattle.ch_model.specs.CellSteps.{is_at, store_node}
use Rattle.ch_model.specs.HostSteps.{link_with}
use Rattle.ch_model.specs.Naming.{Names}
use Rattle.ch_model.specs.NodeState.{NodeState}
use Rattle.ch_model.specs.WorldState.{Cell, World}
use Rattle.ch_race.specs.Pair.{Side, Lesser, Greater, other}
use Rattle.ch_laws_connections.proofs.Cells.{stored_there, stored_other}
use Rattle.ch_laws_ends.proofs.Places.{got_same, got_other}
use Rattle.ch_laws_log.proofs.Stored.{number_is, number_same}
use Rattle.ch_laws_race.specs.Scene.{Party, host_in, link_of}
use Rattle.ch_laws_calls.specs.Scenes.{SceneFacts, scene_of}
use Rattle.ch_laws_peers.specs.Words.{Placed, word_of, words_in, datas_in, waiting_as}
use Rattle.ch_laws_peers.specs.Says.{towards, all_towards, node_in, node_of, Says}
use Rattle.ch_laws_peers.specs.Reads.{reads, Comes, AllLeadHere, read_of, Gets}
use Rattle.ch_laws_messages.specs.WayReadingGoes.{Grown}
use Rattle.ch_laws_messages.proofs.GotLists.{clash, some_is, first_stays, take_next, take_more, split_at, within}
use Rattle.ch_laws_messages.proofs.GotMoves.{GetsAt, at_party, of_party, Stays, gets_stay}
use Rattle.ch_laws_messages.proofs.GotBounds.{AreAlone, SameGot}
use Rattle.ch_laws_messages.proofs.GotTold.{nothing_more}

-- ---- names

pub names_apart : (party : Side → Party) (world : World) → SceneFacts party world → (x : Side) → (party x).name ≡ (party (other x)).name → ⊥
names_apart party world s Lesser e = clash (sym ((bytes_eq-Decides (party Greater).name (party Lesser).name).1 (sym e)) ∙ s.names_differ)
names_apart party world s Greater e = clash (sym ((bytes_eq-Decides (party Greater).name (party Lesser).name).1 e) ∙ s.names_differ)

-- ---- what is read

-- nothing more is read
pub read_same : (party : Side → Party) (x : Side) (log after_log : List Entry) (world after : World) → Comes log world party x → Grown party x log after_log → reads party after x after_log ≡ reads party world x log → read_of party after x after_log ≡ read_of party world x log
read_same party x log after_log world after comes grown same = ap (λ (l : List Placed). datas_in (words_in l))
    (ap (λ (n : ℕ). take n (towards (party x).name (party (other x)).name after_log)) same ∙ ap (take (reads party world x log)) grown.is ∙ take_more (reads party world x log) (towards (party x).name (party (other x)).name log) grown.more comes.within)

-- a frame is read, and the payload in it, if it has one
pub data_in : Frame → List (ℕ × List ℕ)
data_in frame = datas_in (words_in ((frame, None) ∷ []))

datas_both : (xs ys : List Placed) → datas_in (words_in (xs ++ ys)) ≡ datas_in (words_in xs) ++ datas_in (words_in ys)
datas_both xs ys = ap datas_in (filter_map-append word_of xs ys) ∙ map-append (λ (w : (ℕ × List ℕ) × Option Place). w.0) (words_in xs) (words_in ys)

pub read_more : (party : Side → Party) (x : Side) (log after_log : List Entry) (world after : World) (frame : Frame) (place : Option Place) → Grown party x log after_log → slice_get (towards (party x).name (party (other x)).name log) (reads party world x log) ≡ Some (frame, place) → reads party after x after_log ≡ suc (reads party world x log)
    → read_of party after x after_log ≡ read_of party world x log ++ datas_in (words_in ((frame, place) ∷ []))
read_more party x log after_log world after frame place grown next one = ap (λ (l : List Placed). datas_in (words_in l))
    (ap (λ (n : ℕ). take n (towards (party x).name (party (other x)).name after_log)) one ∙ ap (take (suc (reads party world x log))) grown.is
    ∙ take_more (suc (reads party world x log)) (towards (party x).name (party (other x)).name log) grown.more (within (reads party world x log) (towards (party x).name (party (other x)).name log) (frame, place) next)
    ∙ take_next (reads party world x log) (towards (party x).name (party (other x)).name log) (frame, place) next)
    ∙ datas_both (take (reads party world x log) (towards (party x).name (party (other x)).name log)) ((frame, place) ∷ [])

no_data : (frame : Frame) (place : Option Place) → data_of frame ≡ None → datas_in (words_in ((frame, place) ∷ [])) ≡ []
no_data (frames.Data id payload) place e = absurd cc
no_data (frames.Created id) place e = refl
no_data (frames.Closed id) place e = refl
no_data frames.EndClosed place e = refl
no_data frames.Probe place e = refl
no_data frames.ProbeAck place e = refl

pub read_no_data : (party : Side → Party) (x : Side) (log after_log : List Entry) (world after : World) (frame : Frame) (place : Option Place) → Grown party x log after_log → slice_get (towards (party x).name (party (other x)).name log) (reads party world x log) ≡ Some (frame, place) → reads party after x after_log ≡ suc (reads party world x log)
    → data_of frame ≡ None → read_of party after x after_log ≡ read_of party world x log
read_no_data party x log after_log world after frame place grown next one none = read_more party x log after_log world after frame place grown next one ∙ ap (λ (l : List (ℕ × List ℕ)). read_of party world x log ++ l) (no_data frame place none) ∙ nothing_more (read_of party world x log)

words_both : (xs ys : List Placed) → words_in (xs ++ ys) ≡ words_in xs ++ words_in ys
words_both xs ys = filter_map-append word_of xs ys

-- what follows what is read, and the next payload
pub record Follows (party : Side → Party) (world : World) (x : Side) (log : List Entry) (id : ℕ) (payload : List ℕ) (place : Option Place) : Type 0 where
  pub before : List ((ℕ × List ℕ) × Option Place)
  pub rest : List ((ℕ × List ℕ) × Option Place)
  pub words : words_in (all_towards party world x log) ≡ before ++ ((id, payload), place) ∷ rest
  pub read : datas_in before ≡ read_of party world x log

pub follows : (party : Side → Party) (world : World) (x : Side) (log : List Entry) (id : ℕ) (payload : List ℕ) (place : Option Place) → slice_get (towards (party x).name (party (other x)).name log) (reads party world x log) ≡ Some (frames.Data id payload, place) → Follows party world x log id payload place
follows party world x log id payload place next = record {
  before = words_in (take (reads party world x log) all);
  rest = words_in (cut.0 ++ waits);
  words = parted ∙ words_both (take (reads party world x log) all) ((frames.Data id payload, place) ∷ (cut.0 ++ waits));
  read = refl;
} where
  all : List Placed
  all = towards (party x).name (party (other x)).name log

  waits : List Placed
  waits = waiting_as (link_of (scene_of party world) x).waits

  cut : (rest : List Placed) × (towards (party x).name (party (other x)).name log ≡ take (reads party world x log) (towards (party x).name (party (other x)).name log) ++ (frames.Data id payload, place) ∷ rest)
  cut = split_at (reads party world x log) (towards (party x).name (party (other x)).name log) (frames.Data id payload, place) next

  assoc : (xs ys zs : List Placed) → (xs ++ ys) ++ zs ≡ xs ++ (ys ++ zs)
  assoc [] ys zs = refl
  assoc (x ∷ xs) ys zs = ap (λ (l : List Placed). x ∷ l) (assoc xs ys zs)

  parted : words_in (all_towards party world x log) ≡ words_in (take (reads party world x log) (towards (party x).name (party (other x)).name log) ++ ((frames.Data id payload, place) ∷ (cut.0 ++ waits)))
  parted = ap words_in (ap (λ (l : List Placed). l ++ waits) cut.1 ∙ assoc (take (reads party world x log) all) ((frames.Data id payload, place) ∷ cut.0) waits)

-- no two of the ids were opened by one message, of what is read with the next
pub alone_next : (journal : List Line) (party : Side → Party) (world : World) (x : Side) (log : List Entry) (id : ℕ) (payload : List ℕ) (place : Option Place) → Says journal log world party x → Follows party world x log id payload place → AreAlone (read_of party world x log ++ (id, payload) ∷ [])
alone_next journal party world x log id payload place says f i j opening e g = says.alone i j opening (longer i e) (longer j g) where
  assoc : (xs ys : List (ℕ × List ℕ)) (d : ℕ × List ℕ) → xs ++ d ∷ ys ≡ (xs ++ d ∷ []) ++ ys
  assoc [] ys d = refl
  assoc (y ∷ xs) ys d = ap (λ (l : List (ℕ × List ℕ)). y ∷ l) (assoc xs ys d)

  all : datas_in (words_in (all_towards party world x log)) ≡ (read_of party world x log ++ (id, payload) ∷ []) ++ datas_in f.rest
  all = ap datas_in f.words ∙ map-append (λ (w : (ℕ × List ℕ) × Option Place). w.0) f.before (((id, payload), place) ∷ f.rest) ∙ ap (λ (l : List (ℕ × List ℕ)). l ++ (id, payload) ∷ datas_in f.rest) f.read ∙ assoc (read_of party world x log) (datas_in f.rest) (id, payload)

  longer : (k : ℕ) → first_payload k (read_of party world x log ++ (id, payload) ∷ []) ≡ Some opening → first_payload k (datas_in (words_in (all_towards party world x log))) ≡ Some opening
  longer k h = ap (first_payload k) all ∙ first_stays k (read_of party world x log ++ (id, payload) ∷ []) (datas_in f.rest) opening h

-- so of what is read
pub alone_read : (journal : List Line) (log : List Entry) (world : World) (party : Side → Party) (x : Side) → Says journal log world party x → AreAlone (read_of party world x log)
alone_read journal log world party x says i j opening e g = says.alone i j opening (longer i e) (longer j g) where
  all : List Placed
  all = towards (party x).name (party (other x)).name log

  rest : (n : ℕ) (xs : List Placed) → (more : List Placed) × (xs ≡ take n xs ++ more)
  rest zero xs = (xs, refl)
  rest (suc n) [] = ([], refl)
  rest (suc n) (y ∷ xs) = let r = rest n xs in (r.0, ap (λ (l : List Placed). y ∷ l) r.1)

  cut : (more : List Placed) × (towards (party x).name (party (other x)).name log ≡ take (reads party world x log) (towards (party x).name (party (other x)).name log) ++ more)
  cut = rest (reads party world x log) (towards (party x).name (party (other x)).name log)

  assoc : (xs ys zs : List Placed) → (xs ++ ys) ++ zs ≡ xs ++ (ys ++ zs)
  assoc [] ys zs = refl
  assoc (y ∷ xs) ys zs = ap (λ (l : List Placed). y ∷ l) (assoc xs ys zs)

  waits : List Placed
  waits = waiting_as (link_of (scene_of party world) x).waits

  parted : datas_in (words_in (all_towards party world x log)) ≡ read_of party world x log ++ datas_in (words_in (cut.0 ++ waits))
  parted = ap (λ (l : List Placed). datas_in (words_in l)) (ap (λ (l : List Placed). l ++ waits) cut.1 ∙ assoc (take (reads party world x log) all) cut.0 waits) ∙ datas_both (take (reads party world x log) all) (cut.0 ++ waits)

  longer : (k : ℕ) → first_payload k (read_of party world x log) ≡ Some opening → first_payload k (datas_in (words_in (all_towards party world x log))) ≡ Some opening
  longer k h = ap (first_payload k) parted ∙ first_stays k (read_of party world x log) (datas_in (words_in (cut.0 ++ waits))) opening h

-- ---- nothing changes of what was got

pub still : (journal : List Line) (log after_log : List Entry) (world after : World) (party : Side → Party) (x : Side) → Gets journal log world party x → after.names ≡ world.names → (link_of (scene_of party after) (other x)).created ≡ (link_of (scene_of party world) (other x)).created → read_of party after x after_log ≡ read_of party world x log
    → ((next : NodeState) → node_of party after (other x) ≡ Some next → (node : NodeState) × (node_of party world (other x) ≡ Some node) × Stays (party x).address node next) → ((next : NodeState) → node_of party after (other x) ≡ Some next → AllLeadHere next.own next.arrived) → SameGot (party x) (party (other x)) log after_log → Gets journal after_log after party x
still journal log after_log world after party x g names created read nodes leads got = of_party journal after_log after party x
    (subst (λ (known : Names). GetsAt journal known (party x) (party (other x)) (node_of party after (other x)) now (read_of party after x after_log) after_log) (sym names)
    (subst (λ (r : List (ℕ × List ℕ)). GetsAt journal world.names (party x) (party (other x)) (node_of party after (other x)) now r after_log) (sym read)
    (gets_stay journal world.names (party x) (party (other x)) (node_of party world (other x)) (node_of party after (other x)) was now (read_of party world x log) log after_log (at_party journal log world party x g) nodes
    (λ next arrived id at found peer given. ap (λ (l : List Connection). id_of l arrived.conn) (sym created) ∙ given) (long was now (ap length created)) got leads))) where
      was : List Connection
      was = (link_of (scene_of party world) (other x)).created

      now : List Connection
      now = (link_of (scene_of party after) (other x)).created

      long : (one two : List Connection) → length two ≡ length one → length one ≤ length two
      long one two e = omega arith

pub stays_same : (peer : Address) (node : NodeState) → Stays peer node node
stays_same peer node = record { lives = record { own = refl; unique = refl; mail = omega arith; back = λ to less e. e }; arrived = λ a found from. found }

pub still_same : (journal : List Line) (log after_log : List Entry) (world after : World) (party : Side → Party) (x : Side) → Gets journal log world party x → after.names ≡ world.names → (link_of (scene_of party after) (other x)).created ≡ (link_of (scene_of party world) (other x)).created → read_of party after x after_log ≡ read_of party world x log
    → node_of party after (other x) ≡ node_of party world (other x) → SameGot (party x) (party (other x)) log after_log → Gets journal after_log after party x
still_same journal log after_log world after party x g names created read node got = still journal log after_log world after party x g names created read (λ next at. (next, sym node ∙ at, stays_same (party x).address next)) (λ next at. g.leads.reached next (sym node ∙ at)) got

-- ---- a cell

-- the node of a place and an endpoint is at a cell that is set, or as it was
pub at_place : (before after : List (Cell × ℕ)) (place q : ℕ) (cell now : Cell × ℕ) → slice_get before place ≡ Some cell → after ≡ slice_set before place now → ((q ≡ place) × (slice_get after q ≡ Some now) × (slice_get before q ≡ Some cell)) ⊎ ((q ≡ place → ⊥) × (slice_get after q ≡ slice_get before q))
at_place before after place q cell now at set = by_test (q == place) refl where
  by_test : (b : Bool) → (q == place) ≡ b → ((q ≡ place) × (slice_get after q ≡ Some now) × (slice_get before q ≡ Some cell)) ⊎ ((q ≡ place → ⊥) × (slice_get after q ≡ slice_get before q))
  by_test true h = let same = number_is q place h in inl (same, ap (λ (l : List (Cell × ℕ)). slice_get l q) set ∙ ap (slice_get (slice_set before place now)) same ∙ got_same before place cell now at, ap (slice_get before) same ∙ at)
  by_test false h = let differ : q ≡ place → ⊥ = λ same. clash (sym (ap (λ (n : ℕ). n == place) same ∙ number_same place) ∙ h) in inr (differ, ap (λ (l : List (Cell × ℕ)). slice_get l q) set ∙ got_other before place q now (λ same. differ (sym same)))

pub node_at : (party : Side → Party) (world : World) (y : Side) (o : Option (Cell × ℕ)) → slice_get world.cells (party y).place ≡ o → node_of party world y ≡ node_in o (party y).address.id
node_at party world y o e = ap (λ (c : Option (Cell × ℕ)). node_in c (party y).address.id) e

pub created_in : Option (Cell × ℕ) → ℕ → Address → List Connection
created_in o end peer = (link_with (host_in o) end peer).created

pub created_at : (party : Side → Party) (world : World) (x : Side) (o : Option (Cell × ℕ)) → slice_get world.cells (party (other x)).place ≡ o → (link_of (scene_of party world) (other x)).created ≡ (link_with (host_in o) (party (other x)).address.id (party (other (other x))).address).created
created_at party world x o e = ap (λ (c : Option (Cell × ℕ)). (link_with (host_in c) (party (other x)).address.id (party (other (other x))).address).created) e

-- where the cell has the same connections of the link and the same node, all is as it was
pub cell_still : (journal : List Line) (log after_log : List Entry) (world after : World) (party : Side → Party) (x : Side) (place : ℕ) (cell now : Cell × ℕ) → Gets journal log world party x → slice_get world.cells place ≡ Some cell → after.cells ≡ slice_set world.cells place now → after.names ≡ world.names
    → ((party (other x)).place ≡ place → ((link_with now.0.host (party (other x)).address.id (party (other (other x))).address).created ≡ (link_with cell.0.host (party (other x)).address.id (party (other (other x))).address).created) × (node_in (Some now) (party (other x)).address.id ≡ node_in (Some cell) (party (other x)).address.id))
    → read_of party after x after_log ≡ read_of party world x log → SameGot (party x) (party (other x)) log after_log → Gets journal after_log after party x
cell_still journal log after_log world after party x place cell now g at set names here read got = by_place (at_place world.cells after.cells place (party (other x)).place cell now at set) where
  by_place : (((party (other x)).place ≡ place) × (slice_get after.cells (party (other x)).place ≡ Some now) × (slice_get world.cells (party (other x)).place ≡ Some cell)) ⊎ (((party (other x)).place ≡ place → ⊥) × (slice_get after.cells (party (other x)).place ≡ slice_get world.cells (party (other x)).place)) → Gets journal after_log after party x
  by_place (inl p) = still_same journal log after_log world after party x g names
      (created_at party after x (Some now) p.1 ∙ (here p.0).0 ∙ sym (created_at party world x (Some cell) p.2)) read (node_at party after (other x) (Some now) p.1 ∙ (here p.0).1 ∙ sym (node_at party world (other x) (Some cell) p.2)) got
  by_place (inr p) = still_same journal log after_log world after party x g names (created_at party after x (slice_get world.cells (party (other x)).place) p.1) read (node_at party after (other x) (slice_get world.cells (party (other x)).place) p.1) got

-- where one node is stored in place of another that has what arrived there, and who lived lives or is over
pub node_turn : (journal : List Line) (log after_log : List Entry) (world after : World) (party : Side → Party) (x : Side) (place end k : ℕ) (cell now : Cell × ℕ) (node next : NodeState) → Gets journal log world party x → slice_get world.cells place ≡ Some cell → after.cells ≡ slice_set world.cells place now → after.names ≡ world.names
    → ((party (other x)).place ≡ place → (link_with now.0.host (party (other x)).address.id (party (other (other x))).address).created ≡ (link_with cell.0.host (party (other x)).address.id (party (other (other x))).address).created) → find (is_at end) cell.0.nodes ≡ Some (k, node) → now.0.nodes ≡ store_node end next cell.0.nodes
    → ((party (other x)).place ≡ place → end ≡ (party (other x)).address.id → AllLeadHere node.own node.arrived → Stays (party x).address node next × AllLeadHere next.own next.arrived)
    → read_of party after x after_log ≡ read_of party world x log → SameGot (party x) (party (other x)) log after_log → Gets journal after_log after party x
node_turn journal log after_log world after party x place end k cell now node next g at set names created found stored lives read got = by_place (at_place world.cells after.cells place (party (other x)).place cell now at set) where
  id : ℕ
  id = (party (other x)).address.id

  in_cell : (all : List (ℕ × NodeState)) (n : NodeState) → (elim (find (is_at (party (other x)).address.id) all) as (λ o. Option NodeState) [
    | None ↦ None
    | Some there ↦ Some there.1
  ]) ≡ Some n → (j : ℕ) × (find (is_at (party (other x)).address.id) all ≡ Some (j, n))
  in_cell all n e = by_found (find (is_at (party (other x)).address.id) all) refl e where
    by_found : (o : Option (ℕ × NodeState)) → find (is_at (party (other x)).address.id) all ≡ o → (elim o as (λ o. Option NodeState) [
      | None ↦ None
      | Some there ↦ Some there.1
    ]) ≡ Some n → (j : ℕ) × (find (is_at (party (other x)).address.id) all ≡ Some (j, n))
    by_found None f e = absurd cc
    by_found (Some there) f e = (there.0, f ∙ ap (λ (m : NodeState). Some (there.0, m)) (some_is there.1 n e))

  at_end : (party (other x)).place ≡ place → slice_get after.cells (party (other x)).place ≡ Some now → slice_get world.cells (party (other x)).place ≡ Some cell → (new : NodeState) → node_of party after (other x) ≡ Some new → (old : NodeState) × (node_of party world (other x) ≡ Some old) × Stays (party x).address old new × AllLeadHere new.own new.arrived
  at_end same there before new is = by_end (end == (party (other x)).address.id) refl where
    its : (j : ℕ) × (find (is_at (party (other x)).address.id) now.0.nodes ≡ Some (j, new))
    its = in_cell now.0.nodes new (sym (node_at party after (other x) (Some now) there) ∙ is)

    its_stored : find (is_at (party (other x)).address.id) (store_node end next cell.0.nodes) ≡ Some (its.0, new)
    its_stored = ap (find (is_at (party (other x)).address.id)) (sym stored) ∙ its.1

    by_end : (b : Bool) → (end == (party (other x)).address.id) ≡ b → (old : NodeState) × (node_of party world (other x) ≡ Some old) × Stays (party x).address old new × AllLeadHere new.own new.arrived
    by_end true h = (node, old_is, subst (λ (n : NodeState). Stays (party x).address node n) (sym one) both.0, subst (λ (n : NodeState). AllLeadHere n.own n.arrived) (sym one) both.1) where
      one : new ≡ next
      one = stored_there end next (party (other x)).address.id (its.0, new) cell.0.nodes its_stored h

      old_is : node_of party world (other x) ≡ Some node
      old_is = node_at party world (other x) (Some cell) before ∙ ap (λ (n : ℕ). node_in (Some cell) n) (sym (number_is end (party (other x)).address.id h)) ∙ ap (λ (o : Option (ℕ × NodeState)). elim o as (λ o. Option NodeState) [
        | None ↦ None
        | Some there ↦ Some there.1
      ]) found

      both : Stays (party x).address node next × AllLeadHere next.own next.arrived
      both = lives same (number_is end (party (other x)).address.id h) (g.leads.reached node old_is)
    by_end false h = (new, old_is, stays_same (party x).address new, g.leads.reached new old_is) where
      old_is : node_of party world (other x) ≡ Some new
      old_is = node_at party world (other x) (Some cell) before ∙ ap (λ (o : Option (ℕ × NodeState)). elim o as (λ o. Option NodeState) [
        | None ↦ None
        | Some there ↦ Some there.1
      ]) (stored_other end next (party (other x)).address.id (its.0, new) cell.0.nodes its_stored h)

  by_place : (((party (other x)).place ≡ place) × (slice_get after.cells (party (other x)).place ≡ Some now) × (slice_get world.cells (party (other x)).place ≡ Some cell)) ⊎ (((party (other x)).place ≡ place → ⊥) × (slice_get after.cells (party (other x)).place ≡ slice_get world.cells (party (other x)).place)) → Gets journal after_log after party x
  by_place (inl p) = still journal log after_log world after party x g names
      (created_at party after x (Some now) p.1 ∙ created p.0 ∙ sym (created_at party world x (Some cell) p.2)) read (λ new is. let it = at_end p.0 p.1 p.2 new is in (it.0, it.1, it.2)) (λ new is. (at_end p.0 p.1 p.2 new is).3) got
  by_place (inr p) = still_same journal log after_log world after party x g names (created_at party after x (slice_get world.cells (party (other x)).place) p.1) read (node_at party after (other x) (slice_get world.cells (party (other x)).place) p.1) got
