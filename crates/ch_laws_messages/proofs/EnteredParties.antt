-- Two nodes of a journal are given by their names: where they are, at which address, and which is the greater.
use Rattle.std.proofs.Common.{◌≡◌, ℕ, List, refl, sym, ap, ◌∙◌, subst}
use Rattle.std.specs.Prelude.{find}
use mathlib.Core.Path.{fun_ext}
use Rattle.ch_base.specs.declared.address.Address.{Address}
use Rattle.ch_model.specs.declared.line.Line.{Line}
use Rattle.ch_model.specs.Greater as greater
use Rattle.ch_model.specs.Naming.{is_named}
use Rattle.ch_model.specs.World.{names_of, world_new}
use Rattle.ch_model.specs.WorldSockets.{cell_of}
use Rattle.ch_model.specs.WorldState.{Named}
use Rattle.ch_race.specs.Pair.{Side, Lesser, Greater, other, is_greater}
use Rattle.ch_laws_race.specs.Scene.{Party}
use Rattle.ch_laws_calls.specs.Scenes.{IsPairOf}
use Rattle.ch_laws_messages.proofs.GotLists.{clash, some_is}

-- two of one name are one
pub one_party : (journal : List Line) (p r : Side → Party) → IsPairOf journal p → IsPairOf journal r → (x y : Side) → (p x).name ≡ (r y).name → p x ≡ r y
one_party journal p r a b x y name =
    ap (λ (n : List ℕ). record { name = n; place = (p x).place; address = (p x).address }) name
    ∙ ap (λ (k : ℕ). record { name = (r y).name; place = k; address = (p x).address }) place
    ∙ ap (λ (c : Address). record { name = (r y).name; place = (r y).place; address = c }) address where
      declared : (a.named x).0 ≡ (b.named y).0
      declared = some_is (a.named x).0 (b.named y).0 (sym (a.named x).1 ∙ ap (λ (n : List ℕ). find (is_named n) (names_of journal)) name ∙ (b.named y).1)

      address : (p x).address ≡ (r y).address
      address = sym (a.named x).3 ∙ ap (λ (d : Named). d.address) declared ∙ (b.named y).3

      place : (p x).place ≡ (r y).place
      place = some_is (p x).place (r y).place (sym (a.placed x) ∙ ap (cell_of (world_new journal)) address ∙ b.placed y)

-- two that are the same are of the same side
side_is : (x y : Side) → is_greater x ≡ is_greater y → x ≡ y
side_is Lesser Lesser e = refl
side_is Greater Greater e = refl
side_is Lesser Greater e = clash (sym e)
side_is Greater Lesser e = clash e

pub one_side : (journal : List Line) (p r : Side → Party) → IsPairOf journal p → IsPairOf journal r → (x y : Side) → p x ≡ r y → p (other x) ≡ r (other y) → x ≡ y
one_side journal p r a b x y one two = side_is x y (sym (a.order x) ∙ ap (λ (q : Party). greater.is_greater q.address (p (other x)).address) one ∙ ap (λ (q : Party). greater.is_greater (r y).address q.address) two ∙ b.order y)

-- what is so of two nodes is so however they are given
pub two_same : (journal : List Line) (p r : Side → Party) → IsPairOf journal p → IsPairOf journal r → (x y : Side) → (p x).name ≡ (r y).name → (p (other x)).name ≡ (r (other y)).name → (P : (Side → Party) → Side → Type 0) → P p x → P r y
two_same journal p r a b x y here there P holds = subst (λ (q : Side → Party). P q y) (fun_ext (each y (subst (λ (z : Side). p z ≡ r y) side one) (subst (λ (z : Side). p (other z) ≡ r (other y)) side two))) (subst (P p) side holds) where
  one : p x ≡ r y
  one = one_party journal p r a b x y here

  two : p (other x) ≡ r (other y)
  two = one_party journal p r a b (other x) (other y) there

  side : x ≡ y
  side = one_side journal p r a b x y one two

  each : (z : Side) → p z ≡ r z → p (other z) ≡ r (other z) → (u : Side) → p u ≡ r u
  each Lesser e f Lesser = e
  each Lesser e f Greater = f
  each Greater e f Greater = e
  each Greater e f Lesser = f
