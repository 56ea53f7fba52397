-- What the lines so far have told, and what a line may ask of it: that it isn't late, that a name is declared as its
-- place asks, and that what it declares is new.
use Rattle.std.specs.Prelude.{ℕ, Bool, true, false, not, ◌&&◌, ◌||◌, List, [], ◌∷◌, ◌++◌, Result, if◌then◌else◌}
use Rattle.std.specs.Str.{bytes_eq}
use Rattle.std.specs.List.{list_any}
use Rattle.ch_base.specs.AddressValues.{AddressValue}
use Rattle.ch_watch.specs.Same.{same_node}
use Rattle.ch_model.specs.declared.refusal.BadKind.{BadKind}
use Rattle.ch_model.specs.declared.refusal.BadKind.TheVariants.{Late, Undeclared, Repeated}
use Rattle.ch_model.specs.declared.line.What.{What}
use Rattle.ch_model.specs.declared.line.What.TheVariants as lines
use Rattle.ch_model.specs.Fields.{need}

-- what the lines so far have told: the header, the declarations in their order, and whether an event line came
pub record Told : Type 0 where
  pub header : Bool
  pub declarations : List What
  pub started : Bool

-- before the first line
abbrev pub untold : Told
untold = record { header = false; declarations = []; started = false }

-- a declaration, which is no event
abbrev pub is_declaration : What → Bool
is_declaration (lines.Node name address unique) = true
is_declaration (lines.Away name address unique) = true
is_declaration (lines.Label node label) = true
is_declaration (lines.Stranger name host) = true
is_declaration what = false

-- what is told once a line was read
abbrev pub told_after : Told → What → Told
told_after told what =
    if is_declaration what then record told { declarations = told.declarations ++ what ∷ [] }
    else record told { started = true }

-- ---- what one declaration declares

-- this name, of a node
abbrev pub declares_node : List ℕ → What → Bool
declares_node name (lines.Node own address unique) = bytes_eq name own
declares_node name what = false

-- this name, of an address that is no node of the journal
abbrev pub declares_away : List ℕ → What → Bool
declares_away name (lines.Away own address unique) = bytes_eq name own
declares_away name what = false

-- this name, of a stranger
abbrev pub declares_stranger : List ℕ → What → Bool
declares_stranger name (lines.Stranger own host) = bytes_eq name own
declares_stranger name what = false

-- this name, of whatever it is
abbrev pub declares_name : List ℕ → What → Bool
declares_name name what = declares_node name what || declares_away name what || declares_stranger name what

-- this label of this node
abbrev pub declares_label : List ℕ → List ℕ → What → Bool
declares_label node label (lines.Label own word) = bytes_eq node own && bytes_eq label word
declares_label node label what = false

-- this address, or its host as a stranger's
abbrev pub takes_address : AddressValue → What → Bool
takes_address address (lines.Node name own unique) = same_node address own
takes_address address (lines.Away name own unique) = same_node address own
takes_address address (lines.Stranger name host) = bytes_eq address.host host
takes_address address what = false

-- an address with this host
abbrev pub takes_host : List ℕ → What → Bool
takes_host host (lines.Node name own unique) = bytes_eq host own.host
takes_host host (lines.Away name own unique) = bytes_eq host own.host
takes_host host what = false

-- ---- what a line asks

-- a declaration comes before the first event line
unfoldable pub early_in : Told → Result Bool BadKind
early_in told = need Late (not told.started) true

-- a name that a `node` line declared
unfoldable pub declared_in : Told → List ℕ → Result (List ℕ) BadKind
declared_in told name = need Undeclared (list_any (declares_node name) told.declarations) name

-- a name of a node or of an away address
unfoldable pub peer_in : Told → List ℕ → Result (List ℕ) BadKind
peer_in told name = need Undeclared (list_any (λ what. declares_node name what || declares_away name what) told.declarations) name

-- a name of a stranger
unfoldable pub stranger_in : Told → List ℕ → Result (List ℕ) BadKind
stranger_in told name = need Undeclared (list_any (declares_stranger name) told.declarations) name

-- a name of whoever opens a socket: a node or a stranger
unfoldable pub opener_in : Told → List ℕ → Result (List ℕ) BadKind
opener_in told name = need Undeclared (list_any (λ what. declares_node name what || declares_stranger name what) told.declarations) name

-- a name that wasn't declared
unfoldable pub new_name : Told → List ℕ → Result (List ℕ) BadKind
new_name told name = need Repeated (not (list_any (declares_name name) told.declarations)) name

-- an address that wasn't declared, and whose host is no stranger's
unfoldable pub new_address : Told → AddressValue → Result AddressValue BadKind
new_address told address = need Repeated (not (list_any (takes_address address) told.declarations)) address

-- a stranger's host that is no address's
unfoldable pub new_host : Told → List ℕ → Result (List ℕ) BadKind
new_host told host = need Repeated (not (list_any (takes_host host) told.declarations)) host

-- a label that the node doesn't have
unfoldable pub new_label : Told → List ℕ → List ℕ → Result (List ℕ) BadKind
new_label told node label = need Repeated (not (list_any (declares_label node label) told.declarations)) label
