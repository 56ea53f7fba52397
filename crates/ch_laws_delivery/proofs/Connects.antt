-- What a host does that opens a connection: its link gives the next id.
use Rattle.std.specs.Prelude.{◌≡◌, ℕ, ◌+◌, Bool, true, false, ◌&&◌, ◌==◌, List, [], ◌∷◌, ◌++◌, length, is_some, nat_le, Some, Result, Ok, Err, if◌then◌else◌}
use Rattle.std.proofs.Common.{refl, ap, ◌∙◌}
use Rattle.std.proofs.lemmas.Bool.{eq-eqb}
use Rattle.ch_base.specs.AddressValues.{AddressValue}
use Rattle.ch_light.specs.declared.TheConstants.{FIRST_ID, MOST_IDS}
use Rattle.ch_light.specs.declared.Connection.{Connection}
use Rattle.ch_light.specs.declared.error.LightError.{LightError}
use Rattle.ch_light.specs.declared.error.LightError.TheVariants.{Spent}
use Rattle.ch_light.specs.Ids.{id_of, opened, give_of}
use Rattle.ch_wire.specs.declared.frame.Frame.TheVariants as frames
use Rattle.ch_model.specs.declared.step.EndError.{EndError}
use Rattle.ch_model.specs.declared.step.Step.{Step}
use Rattle.ch_model.specs.declared.step.Weight.TheVariants.{Free}
use Rattle.ch_model.specs.HostState.{Link, HostState}
use Rattle.ch_model.specs.HostSteps.{link_with}
use Rattle.ch_model.specs.HostCalls.{◌>>=◌, of_ids, stepped, puts_and_wants, open_endpoint, carries, host_connect}
use Rattle.ch_laws_delivery.specs.FirstSends.{next_id}

-- a table with room gives its next id
unspent_gives : (table : List Connection) (conn : ℕ) → nat_le MOST_IDS (length table) ≡ false → give_of table conn ≡ Ok (FIRST_ID + length table, table ++ opened conn ∷ [])
unfolding give_of
unspent_gives table conn unspent = by_spent (nat_le MOST_IDS (length table)) unspent where
  by_spent : (b : Bool) → b ≡ false → ◌≡◌ {A = Result (ℕ × List Connection) LightError} (if b then Err Spent else Ok (FIRST_ID + length table, table ++ opened conn ∷ [])) (Ok (FIRST_ID + length table, table ++ opened conn ∷ []))
  by_spent false q = refl
  by_spent true q = absurd (clash q) where
    clash : true ≡ false → ⊥
    clash e = cc

-- the link with the connection
abbrev pub with_given : Link → ℕ → Link
with_given link conn = record link { given = link.given ++ opened conn ∷ [] }

-- the connection is put on the link with its peer
pub connects_on : (host : HostState) (end : ℕ) (peer target : AddressValue) (conn : ℕ) → target ≡ peer → open_endpoint host end ≡ Ok end → nat_le MOST_IDS (length (link_with host end peer).given) ≡ false
    → host_connect host end target conn ≡ stepped (puts_and_wants (frames.Created (next_id (link_with host end peer)), Free) (with_given (link_with host end peer) conn) host)
unfolding host_connect
connects_on host end peer target conn at endpoint unspent = ap (λ (z : AddressValue). host_connect host end z conn) at
    ∙ ap (λ (r : Result ℕ EndError). r >>= (λ standing. of_ids (give_of (link_with host end peer).given conn) >>= (λ given. stepped (puts_and_wants (frames.Created given.0, Free) (record (link_with host end peer) { given = given.1 }) host)))) endpoint
    ∙ ap (λ (r : Result (ℕ × List Connection) LightError). ◌>>=◌ {A = ℕ × List Connection} {B = List Step × HostState} (of_ids r) (λ given. stepped (puts_and_wants (frames.Created given.0, Free) (record (link_with host end peer) { given = given.1 }) host)))
    (unspent_gives (link_with host end peer).given conn unspent)

-- a link of the endpoint that has given the connection an id carries it
pub carries_own : (end conn id : ℕ) (link : Link) → link.end ≡ end → id_of link.given conn ≡ Some id → carries end conn link ≡ true
carries_own end conn id link e g = ap (λ (z : ℕ). (z == end) && is_some (id_of link.given conn)) e ∙ ap (λ b. b && is_some (id_of link.given conn)) (eq-eqb end end refl) ∙ ap is_some g
