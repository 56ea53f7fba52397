-- The log of a journal that grows by a line.
use Rattle.std.proofs.Common.{◌≡◌, ℕ, Bool, true, false, not, cond, ◌&&◌, List, [], ◌∷◌, ◌++◌, refl, sym, ap, ◌∙◌, subst, append_assoc}
use Rattle.std.proofs.lemmas.List.{append-nil}
use Rattle.std.specs.Prelude.{Result, Ok, Err, map, filter, length, None}
use Rattle.std.specs.List.{flat_map, list_all}
use Rattle.ch_base.specs.declared.address.Address.{Address}
use Rattle.ch_base.specs.declared.memory.Stop.{Stop}
use Rattle.ch_model.specs.declared.entry.Entry.{Entry}
use Rattle.ch_model.specs.declared.line.Line.{Line}
use Rattle.ch_model.specs.declared.line.What.{What}
use Rattle.ch_model.specs.declared.line.What.TheVariants as lines
use Rattle.ch_model.specs.WorldState.{Cell, Named, World}
use Rattle.ch_model.specs.Cell.{cell_new}
use Rattle.ch_model.specs.Settle.{Happened}
use Rattle.ch_model.specs.World.{name_in, stranger_in, label_in, is_declaration, names_of, labels_of, same_host, first_of_hosts, world_new, event_step, world_step, log_from, log_of, ◌>>=◌}
use Rattle.ch_base.specs.declared.memory.Stop.TheVariants as stops
use Rattle.ch_cell.specs.Stops.{Stops}
use Rattle.ch_world.specs.Lines.{is_settle}
use Rattle.ch_world.specs.Histories.{Told, all_declare, is_event, with_line, told_step}

-- ---- one more line

-- entries before those of what follows
abbrev with_told : List Entry → List Entry × World → Happened
with_told before more = Ok (before ++ more.0, more.1)

-- what is told after a line, with its entries
abbrev with_rest : List Line → List Entry × World → Happened
with_rest rest done = log_from done.1 rest >>= with_told done.0

first_line : (line : Line) (world state next : World) (log entries : List Entry) → ◌≡◌ {A = List Entry × World} ([], world) (log, state) → world_step state line ≡ Ok (entries, next) → log_from world (line ∷ []) ≡ Ok (log ++ entries, next)
first_line line world state next log entries e s =
    let here : world_step world line ≡ Ok (entries, next) = ap (λ (p : List Entry × World). world_step p.1 line) e ∙ s in
    ap (λ (r : Happened). r >>= with_rest []) here ∙ ap (λ (es : List Entry). Ok (es, next)) (append-nil entries) ∙ ap (λ (p : List Entry × World). Ok (p.0 ++ entries, next)) e

later_line : (rest : List Line) (line : Line) (state next : World) (log entries : List Entry) (r : Happened)
    → ((world before : World) (told : List Entry) → log_from world rest ≡ Ok (told, before) → world_step before line ≡ Ok (entries, next) → log_from world (rest ++ line ∷ []) ≡ Ok (told ++ entries, next))
    → (r >>= with_rest rest) ≡ Ok (log, state) → world_step state line ≡ Ok (entries, next) → (r >>= with_rest (rest ++ line ∷ [])) ≡ Ok (log ++ entries, next)
later_line rest line state next log entries (Err stop) ih e s = absurd cc
later_line rest line state next log entries (Ok done) ih e s = by_rest (log_from done.1 rest) refl e
  where
    by_rest : (more : Happened) → log_from done.1 rest ≡ more → (more >>= with_told done.0) ≡ Ok (log, state) → with_rest (rest ++ line ∷ []) done ≡ Ok (log ++ entries, next)
    by_rest (Err stop) h e = absurd cc
    by_rest (Ok more) h e =
        let p : ◌≡◌ {A = List Entry × World} (done.0 ++ more.0, more.1) (log, state) = cc in
        let here : world_step more.1 line ≡ Ok (entries, next) = ap (λ (p : List Entry × World). world_step p.1 line) p ∙ s in
        let told : log_from done.1 (rest ++ line ∷ []) ≡ Ok (more.0 ++ entries, next) = ih done.1 more.1 more.0 h here in
        ap (λ (r : Happened). r >>= with_told done.0) told
        ∙ ap (λ (es : List Entry). Ok (es, next)) (sym (append_assoc done.0 more.0 entries))
        ∙ ap (λ (p : List Entry × World). Ok (p.0 ++ entries, next)) p

-- the entries of a line come behind those before it
pub one_more : (lines : List Line) (line : Line) (world state next : World) (log entries : List Entry) → log_from world lines ≡ Ok (log, state) → world_step state line ≡ Ok (entries, next) → log_from world (lines ++ line ∷ []) ≡ Ok (log ++ entries, next)
one_more [] line world state next log entries e s = first_line line world state next log entries (cc) s
one_more (first ∷ rest) line world state next log entries e s = later_line rest line state next log entries (world_step world first) (λ world before told. one_more rest line world before next told entries) e s

-- ---- an event declares nothing

no_name : (what : What) → is_declaration what ≡ false → name_in what ≡ []
no_name (lines.Node name address unique) e = absurd cc
no_name (lines.Away name address unique) e = absurd cc
no_name what e = refl

no_stranger : (what : What) → is_declaration what ≡ false → stranger_in what ≡ []
no_stranger (lines.Stranger name host) e = absurd cc
no_stranger what e = refl

no_label : (name : List ℕ) (what : What) → is_declaration what ≡ false → label_in name what ≡ []
no_label name (lines.Label node label) e = absurd cc
no_label name what e = refl

nothing_more : {B : Type 0} (f : Line → List B) (lines : List Line) (line : Line) → f line ≡ [] → flat_map f (lines ++ line ∷ []) ≡ flat_map f lines
nothing_more f [] line e = ap (λ xs. xs ++ []) e
nothing_more f (first ∷ rest) line e = ap (λ xs. f first ++ xs) (nothing_more f rest line e)

-- the world of these names, strangers and labels
abbrev world_with : List Named → List (List ℕ × List ℕ) → (List ℕ → List (List ℕ)) → World
world_with names strangers labels = record {
  names = names;
  strangers = strangers;
  cells = map (λ address. (
    cell_new address.host address.port (map (λ named. named.address.host) (filter (λ named. named.is_node) names))
        (map (λ named. (named.address.id, named.unique, labels named.name)) (filter (λ named. same_host named.address address) (filter (λ named. named.is_node) names))),
    0,
  )) (first_of_hosts [] (filter (λ named. named.is_node) names));
  sockets = [];
  last = None;
}

-- so the world that a journal begins with stays
pub begins_so : (lines : List Line) (line : Line) → is_declaration line.what ≡ false → world_new (lines ++ line ∷ []) ≡ world_new lines
begins_so lines line e = λ i. world_with (names i) (strangers i) (λ name. labels name i)
  where
    names : names_of (lines ++ line ∷ []) ≡ names_of lines
    names = nothing_more (λ line. name_in line.what) lines line (no_name line.what e)

    strangers : flat_map (λ (line : Line). stranger_in line.what) (lines ++ line ∷ []) ≡ flat_map (λ (line : Line). stranger_in line.what) lines
    strangers = nothing_more (λ line. stranger_in line.what) lines line (no_stranger line.what e)

    labels : (name : List ℕ) → labels_of (lines ++ line ∷ []) name ≡ labels_of lines name
    labels name = nothing_more (λ line. label_in name line.what) lines line (no_label name line.what e)

-- the log of a journal with one more event line
pub grown : (lines : List Line) (line : Line) (state next : World) (log entries : List Entry) → is_declaration line.what ≡ false → log_from (world_new lines) lines ≡ Ok (log, state) → world_step state line ≡ Ok (entries, next) → log_from (world_new (lines ++ line ∷ [])) (lines ++ line ∷ []) ≡ Ok (log ++ entries, next)
grown lines line state next log entries d e s = ap (λ (world : World). log_from world (lines ++ line ∷ [])) (begins_so lines line d) ∙ one_more lines line (world_new lines) state next log entries e s

-- ---- declarations

declared_first : (line : Line) (rest : List Line) (world : World) (b : Bool) (done : Happened) → (list_all (λ (line : Line). is_declaration line.what) rest ≡ true → log_from world rest ≡ Ok ([], world)) → (b && list_all (λ (line : Line). is_declaration line.what) rest) ≡ true → (cond {A = Happened} b (Ok ([], world)) done >>= with_rest rest) ≡ Ok ([], world)
declared_first line rest world true done ih e = ap (λ (r : Happened). r >>= with_told []) (ih e)
declared_first line rest world false done ih e = absurd cc

-- declarations do nothing
pub only_declared : (lines : List Line) (world : World) → all_declare lines ≡ true → log_from world lines ≡ Ok ([], world)
only_declared [] world e = refl
only_declared (line ∷ rest) world e = declared_first line rest world (is_declaration line.what) (event_step line.number line.what world) (only_declared rest world) e

-- the log of a journal, from the world that it makes on
pub log_is : (lines : List Line) (log : List Entry) (state : World) → log_from (world_new lines) lines ≡ Ok (log, state) → log_of lines ≡ Ok log
log_is lines log state e = ap (λ (r : Happened). r >>= (λ (done : List Entry × World). Ok done.0)) e

-- ---- a world's histories

-- an event declares nothing
pub declares_nothing : (what : What) → is_event what ≡ true → is_declaration what ≡ false
declares_nothing what e = by_test (is_declaration what) (is_settle what) e
  where
    by_test : (a b : Bool) → (not a && not b) ≡ true → a ≡ false
    by_test true b e = absurd cc
    by_test false b e = refl

-- and doesn't settle
pub settles_nothing : (what : What) → is_event what ≡ true → is_settle what ≡ false
settles_nothing what e = by_test (is_declaration what) (is_settle what) e
  where
    by_test : (a b : Bool) → (not a && not b) ≡ true → b ≡ false
    by_test true b e = absurd cc
    by_test false true e = absurd cc
    by_test false false e = refl

-- a line that is stopped at stops the history
pub stops_so : (line : Line) (told : Told) (stop : Stop) → Stops stop (world_step told.state line) → Stops stop (told_step line told)
stops_so line told stops.OutOfMemory s = tt
stops_so line told stops.Worn s = ap (with_line line told) s

-- one more event line, and its entries behind the others: the log stays that of the journal
pub stays_so : (lines more : List Line) (line : Line) (log all entries : List Entry) (state next : World) → is_event line.what ≡ true → log_from (world_new lines) lines ≡ Ok (log, state) → world_step state line ≡ Ok (entries, next) → more ≡ lines ++ line ∷ [] → all ≡ log ++ entries → log_from (world_new more) more ≡ Ok (all, next)
stays_so lines more line log all entries state next v e s m a =
    ap (λ (ls : List Line). log_from (world_new ls) ls) m ∙ grown lines line state next log entries (declares_nothing line.what v) e s ∙ ap (λ (es : List Entry). Ok (es, next)) (sym a)

-- and that is what is told of the line
pub told_so : (lines more : List Line) (line : Line) (log all entries : List Entry) (state next : World) (told : Told) (before now : Bool) (count : ℕ) → record { journal = lines; log = log; state = state; failed = before } ≡ told → before ≡ now → world_step state line ≡ Ok (entries, next) → more ≡ lines ++ line ∷ [] → all ≡ log ++ entries → count ≡ length entries → told_step line told ≡ Ok (count, record { journal = more; log = all; state = next; failed = now })
told_so lines more line log all entries state next told before now count t f s m a n =
    ap (told_step line) (sym t) ∙ ap (with_line line (record { journal = lines; log = log; state = state; failed = before })) s
    ∙ (λ i. Ok (sym n i, record { journal = sym m i; log = sym a i; state = next; failed = f i }))

-- what declarations begin
pub begun : (lines declared : List Line) (log : List Entry) (state : World) → lines ≡ declared → log ≡ [] → state ≡ world_new declared → all_declare declared ≡ true → log_from (world_new lines) lines ≡ Ok (log, state)
begun lines declared log state l g s d = ap (λ (ls : List Line). log_from (world_new ls) ls) l ∙ only_declared declared (world_new declared) d ∙ (λ i. Ok (sym g i, sym s i))
