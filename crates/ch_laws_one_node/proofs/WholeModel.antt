-- The whole model gives the log of a journal of one node that the model of one node gives.
use Rattle.std.specs.Prelude.{◌≡◌, ℕ, true, false, ◌&&◌, ◌==◌, cond, List, [], ◌∷◌, ◌++◌, map, filter, Option, Some, None, Result, Ok, Err, if◌then◌else◌}
use Rattle.std.specs.List.{flat_map}
use Rattle.std.proofs.Common.{refl, ap, sym, ◌∙◌, subst}
use Rattle.ch_base.specs.AddressValues.{AddressValue}
use Rattle.ch_base.specs.declared.memory.Stop.{Stop}
use Rattle.ch_watch.specs.Watches.{nothing}
use Rattle.ch_model.specs.declared.name.TargetName.TheVariants as names
use Rattle.ch_model.specs.declared.entry.Entry.{Entry}
use Rattle.ch_model.specs.declared.line.Line.{Line}
use Rattle.ch_model.specs.declared.line.What.{What}
use Rattle.ch_model.specs.declared.line.What.TheVariants.{Node, Proc, Send, Recv, End}
use Rattle.ch_model.specs.declared.step.Place.{Place}
use Rattle.ch_model.specs.HostCalls.{host_open}
use Rattle.ch_model.specs.Node.{node_new}
use Rattle.ch_model.specs.Cell.{cell_new}
use Rattle.ch_model.specs.WorldState.{Named, World as WholeWorld}
use Rattle.ch_model.specs.Settle.{Happened}
use Rattle.ch_model.specs.World as whole
use Rattle.ch_model.specs.World.{name_in, stranger_in, label_in, is_declaration, names_of, labels_of, event_step, world_step, world_new}
use Rattle.ch_one_node.specs.States.{World}
use Rattle.ch_one_node.specs.Node.{new_node}
use Rattle.ch_one_node.specs.World as small
use Rattle.ch_one_node.specs.World.{event_of, some_world}
use Rattle.ch_laws_one_node.specs.OneNode.{IsOfNode, AreOfNode, IsOfOneNode, FitFrames}
use Rattle.ch_laws_one_node.proofs.Appending.{equal_bytes, equal_numbers}
use Rattle.ch_laws_one_node.proofs.Embedded.{world_in}
use Rattle.ch_laws_one_node.proofs.EmbeddedNotes.{StepsAs}
use Rattle.ch_laws_one_node.proofs.EmbeddedLines.{line_steps}

-- ---- lines after the declaration

abbrev entries_in : Happened → Result (List Entry) Stop
entries_in happened = whole.◌>>=◌ happened (λ done. Ok done.0)

event_is : (node : List ℕ) (what : What) → IsOfNode node what → is_declaration what ≡ false
event_is node (Proc name) of = refl
event_is node (Send by (names.Process to) mark body) of = refl
event_is node (Recv by mark) of = refl
event_is node (End by) of = refl
event_is node what of = absurd of

-- the entries of a line before those of the rest
abbrev whole_before : List Entry → Happened → Happened
whole_before entries more = whole.◌>>=◌ more (λ rest. Ok (entries ++ rest.0, rest.1))

abbrev small_before : List Entry → Result (List Entry) Stop → Result (List Entry) Stop
small_before entries more = small.◌>>=◌ more (λ rest. Ok (entries ++ rest))

by_rest : (entries : List Entry) (more : Happened) → entries_in (whole_before entries more) ≡ small_before entries (entries_in more)
by_rest entries (Ok done) = refl
by_rest entries (Err stop) = refl

abbrev GoesOn : List Line → Type 0
GoesOn journal = (w : World) (args : List (List ℕ)) (last : Option Place) → AreOfNode w.name journal → FitFrames journal → entries_in (whole.log_from (world_in w args last) journal) ≡ small.log_from (Some w) journal

one_line : (line : Line) (rest : List Line) → GoesOn rest → GoesOn (line ∷ rest)
one_line line rest more w args last of fits = ap (λ b. entries_in (after_whole (if b then Ok ([], world_in w args last) else event_step line.number line.what (world_in w args last)))) (event_is w.name line.what of.0)
    ∙ by_step (event_of w line.number line.what) (event_step line.number line.what (world_in w args last)) (line_steps w args last line.number line.what of.0 fits.0) where
      after_whole : Happened → Happened
      after_whole happened = whole.◌>>=◌ happened (λ done. whole_before done.0 (whole.log_from done.1 rest))

      after_small : Result (List Entry × World) Stop → Result (List Entry) Stop
      after_small done = small.◌>>=◌ (small.◌>>=◌ done (λ d. Ok (some_world d))) (λ d. small_before d.0 (small.log_from d.1 rest))

      by_step : (done : Result (List Entry × World) Stop) (happened : Happened) → StepsAs w done happened → entries_in (after_whole happened) ≡ after_small done
      by_step (Err stop) happened is = ap (λ h. entries_in (after_whole h)) is
      by_step (Ok done) happened moves = ap (λ h. entries_in (after_whole h)) moves.is
          ∙ by_rest done.0 (whole.log_from (world_in done.1 moves.args moves.last) rest)
          ∙ ap (small_before done.0) (more done.1 moves.args moves.last (subst (λ n. AreOfNode n rest) (sym moves.name) of.1) fits.1)

goes_on : (journal : List Line) → GoesOn journal
goes_on [] w args last of fits = refl
goes_on (line ∷ rest) w args last of fits = one_line line rest (goes_on rest) w args last of fits

-- ---- the world that the declaration makes

no_name : (node : List ℕ) (what : What) → IsOfNode node what → name_in what ≡ []
no_name node (Proc name) of = refl
no_name node (Send by (names.Process to) mark body) of = refl
no_name node (Recv by mark) of = refl
no_name node (End by) of = refl
no_name node what of = absurd of

no_stranger : (node : List ℕ) (what : What) → IsOfNode node what → stranger_in what ≡ []
no_stranger node (Proc name) of = refl
no_stranger node (Send by (names.Process to) mark body) of = refl
no_stranger node (Recv by mark) of = refl
no_stranger node (End by) of = refl
no_stranger node what of = absurd of

no_label : (node name : List ℕ) (what : What) → IsOfNode node what → label_in name what ≡ []
no_label node name (Proc own) of = refl
no_label node name (Send by (names.Process to) mark body) of = refl
no_label node name (Recv by mark) of = refl
no_label node name (End by) of = refl
no_label node name what of = absurd of

none_of : {A : Type 0} (node : List ℕ) (look : What → List A) → ((what : What) → IsOfNode node what → look what ≡ []) → (journal : List Line) → AreOfNode node journal → flat_map (λ (line : Line). look line.what) journal ≡ []
none_of node look none [] of = refl
none_of node look none (line ∷ rest) of = ap (λ l. l ++ flat_map (λ (line : Line). look line.what) rest) (none line.what of.0) ∙ none_of node look none rest of.1

abbrev declared_world : List ℕ → AddressValue → ℕ → World
declared_world name address unique = record { name = name; node = new_node address unique }

world_is : (name : List ℕ) (address : AddressValue) (unique number : ℕ) (rest : List Line) → AreOfNode name rest → world_new (record { number = number; what = Node name address unique } ∷ rest) ≡ world_in (declared_world name address unique) [] None
unfolding node_new host_open nothing
world_is name address unique number rest of =
    ap (λ l. made (named ∷ l) (flat_map (λ (line : Line). stranger_in line.what) rest)) (none_of name name_in (no_name name) rest of)
    ∙ ap (λ l. made (named ∷ []) l) (none_of name stranger_in (no_stranger name) rest of)
    ∙ ap (λ b. with_cell (cond (b && (address.port == address.port)) (named ∷ []) [])) (equal_bytes address.host)
    ∙ ap (λ b. with_cell (cond b (named ∷ []) [])) (equal_numbers address.port)
    ∙ ap (λ l. with_nodes ((address.id, unique, l) ∷ [])) (none_of name (label_in name) (no_label name name) rest of) where
      journal : List Line
      journal = record { number = number; what = Node name address unique } ∷ rest

      named : Named
      named = record { name = name; address = address; unique = unique; is_node = true }

      nodes_in : List Named → List Named
      nodes_in known = filter (λ (n : Named). n.is_node) known

      made : List Named → List (List ℕ × List ℕ) → WholeWorld
      made known strangers = record {
        names = known;
        strangers = strangers;
        cells = map (λ (at : AddressValue). (cell_new at.host at.port (map (λ (n : Named). n.address.host) (nodes_in known)) (map (λ (n : Named). (n.address.id, n.unique, labels_of journal n.name)) (filter (λ (n : Named). whole.same_host n.address at) (nodes_in known))), 0)) (whole.first_of_hosts [] (nodes_in known));
        sockets = [];
        last = None;
      }

      with_nodes : List (ℕ × ℕ × List (List ℕ)) → WholeWorld
      with_nodes nodes = record { names = named ∷ []; strangers = []; cells = (cell_new address.host address.port (address.host ∷ []) nodes, 0) ∷ []; sockets = []; last = None }

      with_cell : List Named → WholeWorld
      with_cell here = with_nodes (map (λ (n : Named). (n.address.id, n.unique, labels_of journal n.name)) here)

-- ---- a journal

by_first : (number : ℕ) (what : What) (rest : List Line) → IsOfOneNode (record { number = number; what = what } ∷ rest) → FitFrames (record { number = number; what = what } ∷ rest) → whole.log_of (record { number = number; what = what } ∷ rest) ≡ small.log_of (record { number = number; what = what } ∷ rest)
by_first number (Node name address unique) rest of fits =
    ap (λ w. entries_in (whole_before [] (whole.log_from w rest))) (world_is name address unique number rest of)
    ∙ by_rest [] (whole.log_from (world_in (declared_world name address unique) [] None) rest)
    ∙ ap (small_before []) (goes_on rest (declared_world name address unique) [] None of fits.1)
by_first number what rest of fits = absurd of

pub same_log : (journal : List Line) → IsOfOneNode journal → FitFrames journal → whole.log_of journal ≡ small.log_of journal
same_log [] of fits = refl
same_log (line ∷ rest) of fits = by_first line.number line.what rest of fits
