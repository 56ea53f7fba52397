-- A request between declared names may be read.
use Rattle.std.proofs.Common.{◌≡◌, ℕ, Bool, true, false, cond, List, [], ◌∷◌, refl, sym, subst}
use Rattle.std.specs.Prelude.{find, Some}
use Rattle.ch_base.specs.Addresses.{IsAddress}
use Rattle.ch_base.specs.declared.address.Address.{Address}
use Rattle.ch_watch.specs.Same.{same_node}
use Rattle.ch_model.specs.declared.name.SockName.{SockName}
use Rattle.ch_model.specs.Naming.{Names, or_nobody, called}
use Rattle.ch_model.specs.WorldState.{Named}
use Rattle.ch_laws_log.proofs.Keys.{node_is}
use Rattle.ch_laws_bytes.specs.Streams.{MayBeAsked, AreAddresses}

-- what has a name is declared
called_is : (known : Names) (address : Address) (name : List ℕ) → AreAddresses known → called known address ≡ name → (name ≡ [] → ⊥) → IsAddress address
called_is [] address name all e some = absurd (some (sym e))
called_is (named ∷ rest) address name all e some = by_test (same_node named.address address) refl (called_is rest address name all.1) e where
  by_test : (b : Bool) → same_node named.address address ≡ b → (called rest address ≡ name → (name ≡ [] → ⊥) → IsAddress address) → (or_nobody (cond b (Some named) (find (λ (n : Named). same_node n.address address) rest))).name ≡ name → IsAddress address
  by_test true h more e = subst IsAddress (node_is named.address address h) all.0
  by_test false h more e = more e some

pub may_be_asked : (own : ℕ → Address) (known : Names) (name : SockName) → AreAddresses known → (name.from ≡ [] → ⊥) → (name.to ≡ [] → ⊥) → MayBeAsked own known name
may_be_asked own known name all from to end peer f t = record { target = (called_is known peer name.to all t to).id; address = called_is known (own end) name.from all f from }
