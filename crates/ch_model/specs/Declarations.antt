-- What a journal declares: nodes, names of other addresses, labels and strangers.
use Rattle.std.specs.Prelude.{ℕ, Bool, true, false, ◌&&◌, List, Option, Some, None, ◌==◌, if◌then◌else◌, filter_map}
use Rattle.std.specs.Option.{option_map}
use Rattle.std.specs.List.{list_any}
use Rattle.std.specs.Str.{bytes_eq}
use Rattle.ch_base.specs.declared.address.Address.{Address}
use Rattle.ch_ident.specs.declared.identifier.ProcessId.{ProcessId}
use Rattle.ch_ident.specs.declared.identifier.Ref.{Ref}
use Rattle.ch_model.specs.declared.name.ProcName.{ProcName}
use Rattle.ch_model.specs.declared.name.RefName.{RefName}
use Rattle.ch_model.specs.declared.line.Line.{Line}
use Rattle.ch_model.specs.declared.line.What.{What}
use Rattle.ch_model.specs.declared.line.What.TheVariants as lines
use Rattle.ch_model.specs.Logs.{first_of, some_and}

-- what a name is declared as: an address and a unique number, of a node or of none
pub record Peer : Type 0 where
  pub address : Address
  pub unique : ℕ
  pub is_node : Bool

-- what the line declares this name as
abbrev pub declared_by : List ℕ → What → Option Peer
declared_by x (lines.Node name address unique) = if bytes_eq name x then Some (record { address = address; unique = unique; is_node = true }) else None
declared_by x (lines.Away name address unique) = if bytes_eq name x then Some (record { address = address; unique = unique; is_node = false }) else None
declared_by x what = None

-- what the journal declares this name as
abbrev pub peer : List Line → List ℕ → Option Peer
peer journal x = first_of (λ (line : Line). declared_by x line.what) journal

-- the name is a node's
abbrev pub is_node : List Line → List ℕ → Bool
is_node journal x = some_and (λ (p : Peer). p.is_node) (peer journal x)

-- the address of a name
abbrev pub address_of : List Line → List ℕ → Option Address
address_of journal x = option_map (λ (p : Peer). p.address) (peer journal x)

-- a node's name
abbrev pub node_declared : What → Option (List ℕ)
node_declared (lines.Node name address unique) = Some name
node_declared what = None

-- a name of a node or of another address
abbrev pub name_declared : What → Option (List ℕ)
name_declared (lines.Node name address unique) = Some name
name_declared (lines.Away name address unique) = Some name
name_declared what = None

-- the nodes, in order of declaration
abbrev pub nodes : List Line → List (List ℕ)
nodes journal = filter_map (λ (line : Line). node_declared line.what) journal

-- the nodes and the other names, in order of declaration
abbrev pub names : List Line → List (List ℕ)
names journal = filter_map (λ (line : Line). name_declared line.what) journal

-- the line declares a node at this host and port
abbrev pub is_hosted_by : Address → What → Bool
is_hosted_by at (lines.Node name address unique) = bytes_eq address.host at.host && address.port == at.port
is_hosted_by at what = false

-- some node stands at the host and port of this name's address
abbrev pub has_host : List Line → List ℕ → Bool
has_host journal x = some_and (λ at. list_any (λ (line : Line). is_hosted_by at line.what) journal) (address_of journal x)

-- the line declares this stranger
abbrev pub declares_stranger : List ℕ → What → Bool
declares_stranger x (lines.Stranger name host) = bytes_eq name x
declares_stranger x what = false

-- the name is a stranger's
abbrev pub is_stranger : List Line → List ℕ → Bool
is_stranger journal x = list_any (λ (line : Line). declares_stranger x line.what) journal

-- the line gives the node this label
abbrev pub gives_label : List ℕ → List ℕ → What → Bool
gives_label x word (lines.Label node label) = bytes_eq node x && bytes_eq label word
gives_label x word what = false

-- the node has this label
abbrev pub has_label : List Line → List ℕ → List ℕ → Bool
has_label journal x word = list_any (λ (line : Line). gives_label x word line.what) journal

-- the process id that a process's name stands for
abbrev pub process_id : List Line → ProcName → Option ProcessId
process_id journal p = option_map (λ (at : Peer). record { node = at.address; unique = at.unique; counter = p.counter }) (peer journal p.node)

-- the reference that its name stands for
abbrev pub reference_id : List Line → RefName → Option Ref
reference_id journal m = option_map (λ (at : Address). record { node = at; number = m.number }) (address_of journal m.node)
