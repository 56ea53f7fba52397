-- When two names in a log are one, and which node, which end and which pair of nodes a name is of.
use Rattle.std.specs.Prelude.{ℕ, Bool, true, false, ◌&&◌, ◌||◌, List, Option, Some, None, ◌==◌, if◌then◌else◌}
use Rattle.std.specs.Str.{bytes_eq}
use Rattle.ch_model.specs.declared.name.ProcName.{ProcName}
use Rattle.ch_model.specs.declared.name.RefName.{RefName}
use Rattle.ch_model.specs.declared.name.SockName.{SockName}
use Rattle.ch_model.specs.declared.name.TargetName.{TargetName}
use Rattle.ch_model.specs.declared.name.TargetName.TheVariants as targets
use Rattle.ch_model.specs.declared.name.End.{End}
use Rattle.ch_model.specs.declared.name.End.TheVariants.{O, T}

-- two processes are one
abbrev pub same_process : ProcName → ProcName → Bool
same_process p q = bytes_eq p.node q.node && p.counter == q.counter

-- two references are one
abbrev pub same_reference : RefName → RefName → Bool
same_reference m n = bytes_eq m.node n.node && m.number == n.number

-- two sockets are one
abbrev pub same_socket : SockName → SockName → Bool
same_socket s t = bytes_eq s.from t.from && bytes_eq s.to t.to && s.number == t.number

-- two ends of a socket are one
abbrev pub same_end : End → End → Bool
same_end O O = true
same_end T T = true
same_end e f = false

-- the end across
abbrev pub across : End → End
across O = T
across T = O

-- two targets are one
abbrev pub same_target : TargetName → TargetName → Bool
same_target (targets.Process p) (targets.Process q) = same_process p q
same_target (targets.Port p m) (targets.Port q n) = same_process p q && m == n
same_target (targets.Named x v) (targets.Named y w) = bytes_eq x y && bytes_eq v w
same_target t u = false

-- both are this process, or both are nobody
abbrev pub same_finding : Option ProcName → Option ProcName → Bool
same_finding None None = true
same_finding (Some p) (Some q) = same_process p q
same_finding p q = false

-- the node at which a target is
abbrev pub node_of : TargetName → List ℕ
node_of (targets.Process process) = process.node
node_of (targets.Port process port) = process.node
node_of (targets.Named node name) = node

-- the process that a target is, or whose port it is; a name is none
abbrev pub process_of : TargetName → Option ProcName
process_of (targets.Process process) = Some process
process_of (targets.Port process port) = Some process
process_of (targets.Named node name) = None

-- a socket is of the pair of these nodes, whichever dialed
abbrev pub is_between : List ℕ → List ℕ → SockName → Bool
is_between x y sock = bytes_eq sock.from x && bytes_eq sock.to y || bytes_eq sock.from y && bytes_eq sock.to x

-- two sockets are of one pair of nodes
abbrev pub same_pair : SockName → SockName → Bool
same_pair s t = is_between s.from s.to t

-- a node's end of a socket between it and another
abbrev pub end_of : List ℕ → SockName → End
end_of x sock = if bytes_eq sock.from x then O else T

-- the node of an end
abbrev pub owner : SockName → End → List ℕ
owner sock O = sock.from
owner sock T = sock.to

-- this is x's end of a socket with y
abbrev pub is_end_of : List ℕ → List ℕ → SockName → End → Bool
is_end_of x y sock end = bytes_eq (owner sock end) x && bytes_eq (owner sock (across end)) y
