-- Tables by key of what was declared: each answers as a walk over the declarations would.
use Rattle.std.specs.Prelude.{◌≡◌, ℕ, Bool, true, false, ◌&&◌, List, [], ◌∷◌, ◌++◌, if◌then◌else◌}
use Rattle.std.specs.List.{list_any}
use Rattle.std.specs.Str.{bytes_eq}
use Rattle.ch_base.specs.AddressValues.{AddressValue}
use Rattle.ch_watch.specs.Same.{same_node}
use Rattle.ch_model.specs.declared.line.What.{What}
use Rattle.ch_model.specs.declared.line.What.TheVariants as lines
use Rattle.ch_model.specs.LinesTold.{is_declaration, declares_node, declares_away, declares_stranger, declares_label, takes_host}

-- this address, of a node or of none
abbrev pub declares_address : AddressValue → What → Bool
declares_address address (lines.Node name own unique) = same_node address own
declares_address address (lines.Away name own unique) = same_node address own
declares_address address what = false

-- this host, of a stranger
abbrev pub declares_guest : List ℕ → What → Bool
declares_guest host (lines.Stranger name own) = bytes_eq host own
declares_guest host what = false

-- the declarations once a line was read
abbrev pub declared_after : List What → What → List What
declared_after whats what = if is_declaration what then whats ++ what ∷ [] else whats

-- a key is found in the table where some declaration has it
abbrev pub Finds : {K Q : Type 0} → (Q → K → Bool) → (Q → What → Bool) → List K → List What → Type 0
Finds {K} {Q} is declares keys whats = (q : Q) → list_any (is q) keys ≡ list_any (declares q) whats

-- The tables of these declarations: of names, of hosts, of addresses and of labels. A key spells a name or a host, is
-- the key of an address, or of a node's label.
pub record AreTables {K L M : Type 0} (spelled : K → List ℕ) (place : L → AddressValue) (parts : M → List ℕ × List ℕ) (node_keys away_keys stranger_keys host_keys guest_keys : List K) (address_keys : List L) (label_keys : List M) (whats : List What) : Type 0 where
  pub nodes : Finds (λ (name : List ℕ) k. bytes_eq name (spelled k)) declares_node node_keys whats
  pub aways : Finds (λ (name : List ℕ) k. bytes_eq name (spelled k)) declares_away away_keys whats
  pub strangers : Finds (λ (name : List ℕ) k. bytes_eq name (spelled k)) declares_stranger stranger_keys whats
  pub hosts : Finds (λ (host : List ℕ) k. bytes_eq host (spelled k)) takes_host host_keys whats
  pub guests : Finds (λ (host : List ℕ) k. bytes_eq host (spelled k)) declares_guest guest_keys whats
  pub addresses : Finds (λ (address : AddressValue) k. same_node address (place k)) declares_address address_keys whats
  pub labels : Finds (λ (q : List ℕ × List ℕ) k. bytes_eq q.0 (parts k).0 && bytes_eq q.1 (parts k).1) (λ q. declares_label q.0 q.1) label_keys whats
