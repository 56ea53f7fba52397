-- The names of a socket, where neither is empty.
use Rattle.std.specs.Prelude.{◌≡◌, []}
use Rattle.ch_model.specs.declared.name.SockName.{SockName}

-- the socket's opener and its target have a name
abbrev pub IsBetweenNames : SockName → Type 0
IsBetweenNames name = (name.from ≡ [] → ⊥) × (name.to ≡ [] → ⊥)
