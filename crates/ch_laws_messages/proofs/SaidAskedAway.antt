-- What a node does that sends to a process of another node is what a message needs to be carried.
use Rattle.std.proofs.Common.{◌≡◌, ◌⊎◌, inl, inr, ◌≤◌, ◌<◌, ℕ, suc, ◌+◌, ◌*◌, Bool, true, false, cond, ◌&&◌, List, [], ◌∷◌, ◌++◌, length, Ok, refl, sym, ap, ◌∙◌, subst, arith}
use Rattle.std.proofs.lemmas.Bool.{and_parts}
use Rattle.std.specs.Option.{option_map}
use Rattle.std.specs.Prelude.{find, not, is_some, Some, None, ◌==◌}
use Rattle.ch_base.specs.declared.address.Address.{Address}
use Rattle.ch_ident.specs.declared.identifier.Identifier.TheVariants as identifiers
use Rattle.ch_ident.specs.declared.identifier.ProcessId.{ProcessId}
use Rattle.ch_ident.specs.declared.message.Message.{Message}
use Rattle.ch_ident.specs.declared.node_message.NodeMessage.TheVariants.{Opening}
use Rattle.ch_ident.specs.Spelling.{message, user}
use Rattle.ch_light.specs.declared.TheConstants.{FIRST_ID}
use Rattle.ch_light.specs.declared.Connection.{Connection}
use Rattle.ch_light.specs.Ids.{is_open_as, id_of, opened}
use Rattle.ch_static.specs.declared.target.Target.{Target}
use Rattle.ch_static.specs.declared.target.Target.TheVariants as targets
use Rattle.ch_watch.specs.Same.{same_node}
use Rattle.ch_wire.specs.declared.TheConstants.{MOST_PAYLOAD_BYTES}
use Rattle.ch_model.specs.declared.act.Act.{Act}
use Rattle.ch_model.specs.declared.line.Line.{Line}
use Rattle.ch_model.specs.declared.local.LocalEntry.{LocalEntry}
use Rattle.ch_model.specs.declared.name.TargetName.TheVariants as names
use Rattle.ch_model.specs.declared.note.Note.TheVariants as notes
use Rattle.ch_model.specs.AccountsFrames.{pair_opening}
use Rattle.ch_model.specs.CellSteps.{with_node, acts_on}
use Rattle.ch_model.specs.HostSteps.{own_address, link_with}
use Rattle.ch_model.specs.Naming.{process_called}
use Rattle.ch_model.specs.NodeIds.{process_id, is_living}
use Rattle.ch_model.specs.NodePairs.{same_process, same_target, is_pair, with_pair}
use Rattle.ch_model.specs.NodeSends.{weight_of}
use Rattle.ch_model.specs.NodeState.{NodeState, Pair, Mark, Unopened, Opened, Broken}
use Rattle.ch_model.specs.WorldState.{Cell, World}
use Rattle.ch_laws_connections.specs.Fits.{FitsAs}
use Rattle.ch_laws_connections.specs.Senders.{sender_of}
use Rattle.ch_laws_connections.specs.Tables.{given_so, LinksApart}
use Rattle.ch_laws_connections.specs.Taken.{ActsTaken}
use Rattle.ch_laws_connections.proofs.GivenIn.{place, some_open, opened_length, is_placed, with_id}
use Rattle.ch_laws_log.proofs.Keys.{node_is}
use Rattle.ch_laws_plain_nodes.specs.Does.{SendsAway, pair_between, said_note, sent_acts, sent_mark, said_pair}
use Rattle.ch_laws_writes.specs.Orderly.{IsOrderly}
use Rattle.ch_laws_writes.proofs.Worlds.{number_is}
use Rattle.ch_laws_messages.specs.SaidGoes.{mark_of, IsDeclared, AreWell, sent_next, sent_first}
use Rattle.ch_laws_messages.specs.SaidSends.{saying_of, Went}
use Rattle.ch_laws_messages.proofs.SaidActs.{NextOn, next_acts, FirstActs, first_acts}

-- ---- pairs

pub one_process : (a b : ProcessId) → same_process a b ≡ true → a ≡ b
unfolding same_process
one_process a b h =
    let first = and_parts (same_node a.node b.node) ((a.unique == b.unique) && (a.counter == b.counter)) h in
    let rest = and_parts (a.unique == b.unique) (a.counter == b.counter) first.1 in
    ap (λ (z : Address). record a { node = z }) (node_is a.node b.node first.0) ∙ ap (λ (z : ℕ). record a { node = b.node; unique = z }) (number_is a.unique b.unique rest.0) ∙ ap (λ (z : ℕ). record b { counter = z }) (number_is a.counter b.counter rest.1)

one_target : (t : Target) (to : ProcessId) → same_target t (targets.Process to) ≡ true → t ≡ targets.Process to
unfolding same_target
one_target (targets.Process a) to h = ap (λ (p : ProcessId). targets.Process p) (one_process a to h)
one_target (targets.Port port) to h = absurd cc
one_target (targets.Named at name) to h = absurd cc

same_key : (by : ℕ) (to : ProcessId) (known : Pair) → is_pair by (targets.Process to) known ≡ true → (known.by ≡ by) × (known.to ≡ targets.Process to)
unfolding is_pair
same_key by to known h = let both = and_parts (known.by == by) (same_target known.to (targets.Process to)) h in (number_is known.by by both.0, one_target known.to to both.1)

is_key_of : ℕ → Target → ℕ → Target → Bool
is_key_of by to b t = (b == by) && same_target t to

keyed : (by : ℕ) (to : Target) (pair : Pair) → is_pair by to pair ≡ is_key_of by to pair.by pair.to
unfolding is_pair is_key_of
keyed by to pair = refl

-- a pair that is found where one was stored has its target, or was found before
pub stored_pair : (by : ℕ) (to : ProcessId) (pair : Pair) (pairs : List Pair) (k : Pair) → pair.by ≡ by → pair.to ≡ targets.Process to → find (is_pair k.by k.to) (with_pair pair pairs) ≡ Some k → (k.to ≡ targets.Process to) ⊎ (find (is_pair k.by k.to) pairs ≡ Some k)
stored_pair by to pair [] k e f h = by_test (is_pair k.by k.to pair) h where
  by_test : (b : Bool) → cond b (Some pair) None ≡ Some k → (k.to ≡ targets.Process to) ⊎ (find (is_pair k.by k.to) [] ≡ Some k)
  by_test true h = let same : pair ≡ k = cc in inl (sym (ap (λ (p : Pair). p.to) same) ∙ f)
  by_test false h = absurd cc
stored_pair by to pair (known ∷ rest) k e f h = by_known (is_pair pair.by pair.to known) refl h (stored_pair by to pair rest k e f) where
  same : is_pair pair.by pair.to known ≡ true → is_pair k.by k.to known ≡ is_pair k.by k.to pair
  same g = let key = same_key pair.by to known (subst (λ (t : Target). is_pair pair.by t known ≡ true) f g) in
      keyed k.by k.to known ∙ ap (λ (b : ℕ). is_key_of k.by k.to b known.to) key.0 ∙ ap (λ (t : Target). is_key_of k.by k.to pair.by t) (key.1 ∙ sym f) ∙ sym (keyed k.by k.to pair)

  by_first : is_pair pair.by pair.to known ≡ true → (b : Bool) → is_pair k.by k.to pair ≡ b → cond b (Some pair) (find (is_pair k.by k.to) rest) ≡ Some k → (k.to ≡ targets.Process to) ⊎ (find (is_pair k.by k.to) (known ∷ rest) ≡ Some k)
  by_first g true t h = let is : pair ≡ k = cc in inl (sym (ap (λ (p : Pair). p.to) is) ∙ f)
  by_first g false t h = inr (ap (λ (b : Bool). cond b (Some known) (find (is_pair k.by k.to) rest)) (same g ∙ t) ∙ h)

  by_other : (b : Bool) → is_pair k.by k.to known ≡ b → cond b (Some known) (find (is_pair k.by k.to) (with_pair pair rest)) ≡ Some k → (find (is_pair k.by k.to) (with_pair pair rest) ≡ Some k → (k.to ≡ targets.Process to) ⊎ (find (is_pair k.by k.to) rest ≡ Some k)) → (k.to ≡ targets.Process to) ⊎ (find (is_pair k.by k.to) (known ∷ rest) ≡ Some k)
  by_other true t h more = inr (ap (λ (b : Bool). cond b (Some known) (find (is_pair k.by k.to) rest)) t ∙ h)
  by_other false t h more = later (more h) where
    later : (k.to ≡ targets.Process to) ⊎ (find (is_pair k.by k.to) rest ≡ Some k) → (k.to ≡ targets.Process to) ⊎ (find (is_pair k.by k.to) (known ∷ rest) ≡ Some k)
    later (inl x) = inl x
    later (inr x) = inr (ap (λ (b : Bool). cond b (Some known) (find (is_pair k.by k.to) rest)) t ∙ x)

  by_known : (b : Bool) → is_pair pair.by pair.to known ≡ b → find (is_pair k.by k.to) (cond b (pair ∷ rest) (known ∷ with_pair pair rest)) ≡ Some k → (find (is_pair k.by k.to) (with_pair pair rest) ≡ Some k → (k.to ≡ targets.Process to) ⊎ (find (is_pair k.by k.to) rest ≡ Some k)) → (k.to ≡ targets.Process to) ⊎ (find (is_pair k.by k.to) (known ∷ rest) ≡ Some k)
  by_known true g h more = by_first g (is_pair k.by k.to pair) refl h
  by_known false g h more = by_other (is_pair k.by k.to known) refl h more

-- ---- ids that stay

place_kept : (table : List Connection) (y : Connection) (c : ℕ) → place table c < length table → place (table ++ y ∷ []) c ≡ place table c
place_kept [] y c l = absurd (none (place [] c) l) where
  none : (n : ℕ) → n < 0 → ⊥
  none n l = omega arith
place_kept (z ∷ rest) y c l = by_test (is_open_as c z) l (place_kept rest y c) where
  less : (a b : ℕ) → 1 + a < suc b → a < b
  less a b l = omega arith

  by_test : (b : Bool) → cond (not b) (1 + place rest c) 0 < suc (length rest) → (place rest c < length rest → place (rest ++ y ∷ []) c ≡ place rest c) → cond (not b) (1 + place (rest ++ y ∷ []) c) 0 ≡ cond (not b) (1 + place rest c) 0
  by_test true l more = refl
  by_test false l more = ap (λ (n : ℕ). 1 + n) (more (less (place rest c) (length rest) l))

-- an id stays as one more is given
id_kept : (table : List Connection) (y : Connection) (c n : ℕ) → id_of table c ≡ Some n → id_of (table ++ y ∷ []) c ≡ Some n
unfolding id_of
id_kept table y c n e =
    let l = with_id table c (ap is_some e) in
    let kept = place_kept table y c l in
    ap (option_map (λ place. FIRST_ID + place)) (is_placed (table ++ y ∷ []) c (below (place (table ++ y ∷ []) c) (place table c) (length table) (length (table ++ y ∷ [])) kept l (opened_length table y)) ∙ ap (λ (k : ℕ). Some k) kept ∙ sym (is_placed table c l)) ∙ e
  where
    below : (a b m k : ℕ) → a ≡ b → b < m → k ≡ 1 + m → a < k
    below a b m k e l f = omega arith

-- ---- what is known of the sender

-- Who sends to whom, by their names and ids; that the sender acts, and that both payloads are short enough.
pub record MaySend (journal : List Line) (world : World) (cell : Cell) (end : ℕ) (node : NodeState) (by : ℕ) (to : ProcessId) (said : Message) : Type 0 where
  pub own : node.own ≡ own_address cell.host end
  pub made : by < length node.mail
  pub lives : is_living node (process_id node by) ≡ true
  pub declared : IsDeclared world to
  pub well : AreWell journal (process_called world.names (process_id node by)) (process_called world.names to)
  pub opens : pair_opening journal (process_called world.names (process_id node by)) (names.Process (process_called world.names to)) ≡ Some (message (Opening (identifiers.Process (process_id node by)) (identifiers.Process to)))
  pub short_opening : length (message (Opening (identifiers.Process (process_id node by)) (identifiers.Process to))) ≤ MOST_PAYLOAD_BYTES
  pub short : length (user said) ≤ MOST_PAYLOAD_BYTES
  pub given : (conn : ℕ) → mark_of node by to ≡ Opened conn → (id : ℕ) × (id_of (link_with cell.host end to.node).given conn ≡ Some id)
  pub unbroken : mark_of node by to ≡ Broken → ⊥

-- ---- what is done is what a message needs

module _ (journal : List Line) (world : World) (own : ℕ → Address) (cell : Cell) (end : ℕ) (node next : NodeState) (by : ℕ) (to : ProcessId) (said : Message) (done : List Act) (told : List LocalEntry) (after : Cell) (may : MaySend journal world cell end node by to said) (sends : SendsAway node by to said done next)
    (others : (b : ℕ) (t : ProcessId) → ((b ≡ by) × (t ≡ to) → ⊥) → mark_of next b t ≡ mark_of node b t) (marked : mark_of next by to ≡ sent_mark (2 * node.opened) (mark_of node by to)) (orderly : IsOrderly own cell.host) (apart : LinksApart cell.host.links)
    (one_link : (conn : ℕ) (p q : Address) → 1 ≤ given_so cell.host end conn p → 1 ≤ given_so cell.host end conn q → p ≡ q) (fits : FitsAs false cell.host end done (sender_of next)) (taken : ActsTaken end done (with_node end next cell)) (all : acts_on end done (with_node end next cell) ≡ Ok (told, after)) where
  abbrev epoch : ℕ
  epoch = (pair_between node by to).epoch

  abbrev index : ℕ
  index = (pair_between node by to).index

  abbrev opening : List ℕ
  opening = message (Opening (identifiers.Process (process_id node by)) (identifiers.Process to))

  same : next ≡ record node { pairs = next.pairs; opened = next.opened }
  same = sends.same ∙ ap (λ (n : NodeState). record node { pairs = n.pairs; opened = n.opened }) (sym sends.same)

  pairs_are : (k : Pair) → find (is_pair k.by k.to) next.pairs ≡ Some k → (k.to ≡ targets.Process to) ⊎ (find (is_pair k.by k.to) node.pairs ≡ Some k)
  pairs_are k found = stored_pair by to (said_pair node by to (sent_mark (2 * node.opened) (pair_between node by to).mark)) node.pairs k refl refl (subst (λ (n : NodeState). find (is_pair k.by k.to) n.pairs ≡ Some k) sends.same found)

  -- the first message of the pair
  first : (mark_of node by to ≡ Unopened) → Went journal world cell end node next by to epoch index said told after
  first unopened = record {
    own = may.own;
    made = may.made;
    lives = may.lives;
    declared = may.declared;
    well = may.well;
    opening = opening;
    opens = may.opens;
    same = same;
    pairs = pairs_are;
    others = others;
    conn = 2 * node.opened;
    marked = marked ∙ ap (sent_mark (2 * node.opened)) unopened;
    steps = f.steps;
    told_is = f.told_is;
    nodes = f.nodes;
    new = sent_first f.first.id opening (saying_of world node by to epoch index said) (record { epoch = epoch; index = index });
    id = f.first.id;
    puts = f.first.puts;
    spelled = f.first.spelled;
    given = f.first.has;
    kept = λ c n given. ap (λ (t : List Connection). id_of t c) f.first.given ∙ id_kept (link_with cell.host end to.node).given (opened (2 * node.opened)) c n given;
    goes = inr (refl, unopened, f.first.next);
  } where
    did : done ≡ said_note node by to said ∷ sent_acts node by to said Unopened
    did = sends.did ∙ ap (λ (m : Mark). said_note node by to said ∷ sent_acts node by to said m) unopened

    f : FirstActs own (with_node end next cell) end (2 * node.opened) to.node opening (user said) (weight_of epoch index) (notes.Said (process_id node by) (targets.Process to) epoch index said) told after
    f = first_acts own (with_node end next cell) end (2 * node.opened) to.node opening (user said) (weight_of epoch index) (notes.Said (process_id node by) (targets.Process to) epoch index said) (sender_of next) told after orderly apart
        (subst (λ (l : List Act). FitsAs false cell.host end l (sender_of next)) did fits) may.short_opening may.short (subst (λ (l : List Act). ActsTaken end l (with_node end next cell)) did taken) (subst (λ (l : List Act). acts_on end l (with_node end next cell) ≡ Ok (told, after)) did all)

  -- a later one
  later : (conn : ℕ) → mark_of node by to ≡ Opened conn → Went journal world cell end node next by to epoch index said told after
  later conn is_open = record {
    own = may.own;
    made = may.made;
    lives = may.lives;
    declared = may.declared;
    well = may.well;
    opening = opening;
    opens = may.opens;
    same = same;
    pairs = pairs_are;
    others = others;
    conn = conn;
    marked = marked ∙ ap (sent_mark (2 * node.opened)) is_open;
    steps = f.steps;
    told_is = f.told_is;
    nodes = f.nodes;
    new = sent_next f.put.id (saying_of world node by to epoch index said) (record { epoch = epoch; index = index });
    id = f.put.id;
    puts = f.put.puts;
    spelled = f.put.spelled;
    given = ap (λ (t : List Connection). id_of t conn) f.put.given ∙ f.put.has;
    kept = λ c n given. ap (λ (t : List Connection). id_of t c) f.put.given ∙ given;
    goes = inl (refl, is_open, f.put.has);
  } where
    did : done ≡ said_note node by to said ∷ sent_acts node by to said (Opened conn)
    did = sends.did ∙ ap (λ (m : Mark). said_note node by to said ∷ sent_acts node by to said m) is_open

    there : 1 ≤ given_so cell.host end conn to.node
    there = let g = may.given conn is_open in some_open (link_with cell.host end to.node).given conn (with_id (link_with cell.host end to.node).given conn (ap is_some g.1))

    f : NextOn own (with_node end next cell) end conn to.node (user said) (weight_of epoch index) (notes.Said (process_id node by) (targets.Process to) epoch index said) told after
    f = next_acts own (with_node end next cell) end conn to.node (user said) (weight_of epoch index) (notes.Said (process_id node by) (targets.Process to) epoch index said) told after orderly (record { apart = apart; there = there; one_link = one_link conn }) may.short
        (subst (λ (l : List Act). ActsTaken end l (with_node end next cell)) did taken) (subst (λ (l : List Act). acts_on end l (with_node end next cell) ≡ Ok (told, after)) did all)

  pub away_went : Went journal world cell end node next by to epoch index said told after
  away_went = by_mark (mark_of node by to) refl where
    by_mark : (m : Mark) → mark_of node by to ≡ m → Went journal world cell end node next by to epoch index said told after
    by_mark Unopened e = first e
    by_mark (Opened conn) e = later conn e
    by_mark Broken e = absurd (may.unbroken e)
