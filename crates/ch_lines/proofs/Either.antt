-- A walk that asks for either of two things, as two walks.
use Rattle.std.proofs.Common.{◌≡◌, ℕ, Bool, true, false, ◌||◌, List, [], ◌∷◌, refl, sym, ap, ◌∙◌}
use Rattle.std.specs.List.{list_any}
use Rattle.std.specs.Str.{bytes_eq}
use Rattle.ch_base.specs.AddressValues.{AddressValue}
use Rattle.ch_watch.specs.Same.{same_node}
use Rattle.ch_model.specs.declared.line.What.{What}
use Rattle.ch_model.specs.declared.line.What.TheVariants as lines
use Rattle.ch_model.specs.LinesTold.{declares_node, declares_away, declares_stranger, declares_name, takes_address}
use Rattle.ch_lines.specs.Tables.{declares_address, declares_guest}

four : (a b c d : Bool) → ((a || b) || (c || d)) ≡ ((a || c) || (b || d))
four true b c d = refl
four false true true d = refl
four false true false d = refl
four false false true d = refl
four false false false d = refl

-- either of two tests
any_either : {A : Type 0} (p q : A → Bool) (xs : List A) → list_any (λ x. p x || q x) xs ≡ (list_any p xs || list_any q xs)
any_either p q [] = refl
any_either p q (x ∷ xs) = ap (λ b. (p x || q x) || b) (any_either p q xs) ∙ four (p x) (q x) (list_any p xs) (list_any q xs)

-- a peer is a node or another address
pub any_peer : (name : List ℕ) (whats : List What) → list_any (λ what. declares_node name what || declares_away name what) whats ≡ (list_any (declares_node name) whats || list_any (declares_away name) whats)
any_peer name whats = any_either (declares_node name) (declares_away name) whats

-- an opener is a node or a stranger
pub any_opener : (name : List ℕ) (whats : List What) → list_any (λ what. declares_node name what || declares_stranger name what) whats ≡ (list_any (declares_node name) whats || list_any (declares_stranger name) whats)
any_opener name whats = any_either (declares_node name) (declares_stranger name) whats

-- a name is a peer's or a stranger's
pub any_name : (name : List ℕ) (whats : List What) → list_any (declares_name name) whats ≡ (list_any (λ what. declares_node name what || declares_away name what) whats || list_any (declares_stranger name) whats)
any_name name whats = any_either (λ what. declares_node name what || declares_away name what) (declares_stranger name) whats

or_false : (b : Bool) → b ≡ (b || false)
or_false true = refl
or_false false = refl

takes : (address : AddressValue) (what : What) → takes_address address what ≡ (declares_address address what || declares_guest address.host what)
takes address (lines.Node name own unique) = or_false (same_node address own)
takes address (lines.Away name own unique) = or_false (same_node address own)
takes address (lines.Stranger name host) = refl
takes address what = refl

-- an address is taken where a name has it, or a stranger its host
pub any_takes : (address : AddressValue) (whats : List What) → list_any (takes_address address) whats ≡ (list_any (declares_address address) whats || list_any (declares_guest address.host) whats)
any_takes address [] = refl
any_takes address (what ∷ whats) =
    ap (λ b. b || list_any (takes_address address) whats) (takes address what)
    ∙ ap (λ b. (declares_address address what || declares_guest address.host what) || b) (any_takes address whats)
    ∙ four (declares_address address what) (declares_guest address.host what) (list_any (declares_address address) whats) (list_any (declares_guest address.host) whats)

-- what was answered where the first of two tests holds
pub by_first : {asked first either : Bool} (second : Bool) → asked ≡ true → asked ≡ first → either ≡ (first || second) → asked ≡ either
by_first {asked} {first} {either} second holds is all = holds ∙ ap (λ b. b || second) (sym holds ∙ is) ∙ sym all

-- and where it doesn't
pub by_second : {asked other first either : Bool} (second : Bool) → asked ≡ false → asked ≡ first → other ≡ second → either ≡ (first || second) → other ≡ either
by_second {asked} {other} {first} {either} second fails is more all = more ∙ ap (λ b. b || second) (sym fails ∙ is) ∙ sym all
