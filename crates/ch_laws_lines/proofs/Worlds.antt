-- The world of a journal is that of its declarations.
use Rattle.std.specs.Prelude.{◌≡◌, ℕ, false, List, [], ◌∷◌, ◌++◌, map, filter, None}
use Rattle.std.specs.List.{flat_map, AllByRecursion}
use Rattle.std.proofs.Common.{refl, ap, ◌∙◌}
use Rattle.std.proofs.lemmas.List.{append-nil}
use Rattle.std.proofs.lemmas.Grind.{flat_map-append}
use Rattle.ch_base.specs.declared.address.Address.{Address}
use Rattle.ch_model.specs.declared.line.Line.{Line}
use Rattle.ch_model.specs.declared.line.What.{What}
use Rattle.ch_model.specs.declared.line.What.TheVariants as lines
use Rattle.ch_model.specs.Cell.{cell_new}
use Rattle.ch_model.specs.WorldState.{Cell, Named, World}
use Rattle.ch_model.specs.World.{is_declaration, name_in, stranger_in, label_in, names_of, labels_of, same_host, first_of_hosts, world_new}
use Rattle.ch_laws_lines.specs.InOrder.{Happens}

-- a part of declarations that no event line has
no_parts : {A : Type 0} (part : What → List A) → ((what : What) → is_declaration what ≡ false → part what ≡ []) → (events : List Line) → AllByRecursion Happens events → flat_map (λ (line : Line). part line.what) events ≡ []
no_parts part none [] happen = refl
no_parts part none (line ∷ events) happen = ap (λ parts. parts ++ flat_map (λ (line : Line). part line.what) events) (none line.what happen.0) ∙ no_parts part none events happen.1

same_parts : {A : Type 0} (part : What → List A) → ((what : What) → is_declaration what ≡ false → part what ≡ []) → (declared events : List Line) → AllByRecursion Happens events → flat_map (λ (line : Line). part line.what) (declared ++ events) ≡ flat_map (λ (line : Line). part line.what) declared
same_parts part none declared events happen =
    flat_map-append (λ (line : Line). part line.what) declared events
    ∙ ap (λ parts. flat_map (λ (line : Line). part line.what) declared ++ parts) (no_parts part none events happen)
    ∙ append-nil (flat_map (λ (line : Line). part line.what) declared)

names_nothing : (what : What) → is_declaration what ≡ false → name_in what ≡ []
names_nothing (lines.Node name address unique) h = cc
names_nothing (lines.Away name address unique) h = cc
names_nothing what h = refl

no_stranger : (what : What) → is_declaration what ≡ false → stranger_in what ≡ []
no_stranger (lines.Stranger name host) h = cc
no_stranger what h = refl

no_label : (name : List ℕ) (what : What) → is_declaration what ≡ false → label_in name what ≡ []
no_label name (lines.Label node label) h = cc
no_label name what h = refl

-- ---- a world by its names, strangers and labels

abbrev nodes_in : List Named → List Named
nodes_in names = filter (λ named. named.is_node) names

abbrev opening : (List ℕ → List (List ℕ)) → Named → ℕ × ℕ × List (List ℕ)
opening labels named = (named.address.id, named.unique, labels named.name)

abbrev cell_by : List Named → (List ℕ → List (List ℕ)) → Address → Cell
cell_by names labels address =
    cell_new address.host address.port (map (λ named. named.address.host) (nodes_in names))
    (map (λ named. (named.address.id, named.unique, labels named.name)) (filter (λ named. same_host named.address address) (nodes_in names)))

abbrev world_by : List Named → List (List ℕ × List ℕ) → (List ℕ → List (List ℕ)) → World
world_by names strangers labels = record {
  names = names;
  strangers = strangers;
  cells = map (λ address. (cell_by names labels address, 0)) (first_of_hosts [] (nodes_in names));
  sockets = [];
  last = None;
}

same_map : {A B : Type 0} (f g : A → B) → ((x : A) → f x ≡ g x) → (xs : List A) → map f xs ≡ map g xs
same_map f g same [] = refl
same_map f g same (x ∷ xs) = ap (λ y. y ∷ map f xs) (same x) ∙ ap (λ ys. g x ∷ ys) (same_map f g same xs)

same_cell : (names : List Named) (f g : List ℕ → List (List ℕ)) → ((name : List ℕ) → f name ≡ g name) → (address : Address) → cell_by names f address ≡ cell_by names g address
same_cell names f g same address =
    ap (cell_new address.host address.port (map (λ named. named.address.host) (nodes_in names)))
    (same_map (λ named. (named.address.id, named.unique, f named.name)) (λ named. (named.address.id, named.unique, g named.name)) (λ named. ap (λ labels. (named.address.id, named.unique, labels)) (same named.name)) (filter (λ named. same_host named.address address) (nodes_in names)))

same_world : (names : List Named) (strangers : List (List ℕ × List ℕ)) (f g : List ℕ → List (List ℕ)) → ((name : List ℕ) → f name ≡ g name) → world_by names strangers f ≡ world_by names strangers g
same_world names strangers f g same =
    ap (λ (cells : List (Cell × ℕ)). let w : World = record { names = names; strangers = strangers; cells = cells; sockets = []; last = None } in w)
    (same_map (λ address. (cell_by names f address, 0)) (λ address. (cell_by names g address, 0)) (λ address. ap (λ (cell : Cell). (cell, 0)) (same_cell names f g same address)) (first_of_hosts [] (nodes_in names)))

pub of_declarations : (declared events : List Line) → AllByRecursion Happens events → world_new (declared ++ events) ≡ world_new declared
of_declarations declared events happen =
    ap (λ names. world_by names (flat_map (λ (line : Line). stranger_in line.what) (declared ++ events)) (labels_of (declared ++ events))) (same_parts name_in names_nothing declared events happen)
    ∙ ap (λ strangers. world_by (names_of declared) strangers (labels_of (declared ++ events))) (same_parts stranger_in no_stranger declared events happen)
    ∙ same_world (names_of declared) (flat_map (λ (line : Line). stranger_in line.what) declared) (labels_of (declared ++ events)) (labels_of declared) (λ name. same_parts (label_in name) (no_label name) declared events happen)
