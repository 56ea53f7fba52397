-- The hosts that are made of declared nodes.
use Rattle.std.proofs.Common.{◌≡◌, ℕ, Bool, true, false, ◌&&◌, ◌||◌, ◌==◌, cond, List, [], ◌∷◌, ◌++◌, map, filter, refl, sym, ap, ◌∙◌, subst, append_assoc, arith}
use Rattle.std.proofs.lemmas.List.{reverse-append, map-append, append-nil}
use Rattle.std.proofs.lemmas.List.Elements.{filter-append}
use Rattle.std.specs.Prelude.{fold, reverse, Option, None}
use Rattle.std.specs.Str.{bytes_eq}
use Rattle.std.specs.List.{flat_map, list_any}
use Rattle.ch_base.specs.declared.address.Address.{Address}
use Rattle.ch_model.specs.declared.line.Line.{Line}
use Rattle.ch_model.specs.declared.step.Place.{Place}
use Rattle.ch_model.specs.WorldState.{Cell, Named, WorldSocket, World}
use Rattle.ch_model.specs.World.{stranger_in, names_of, nodes_of, same_host, first_of_hosts, world_new}
use Rattle.ch_cell.specs.declared.site.Opening.{Opening}
use Rattle.ch_cell.specs.New.{AreOf, named}
use Rattle.ch_world.specs.Declaring.{first_added, opening_of, openings_at, cells_among}
use Rattle.ch_world.proofs.Found.{both, number_is, text_is}

-- ---- one address of each host

or_last : (a b c : Bool) → (a || (b || c)) ≡ (b || (a || c))
or_last true true c = refl
or_last true false c = refl
or_last false b c = refl

any_last : {A : Type 0} (test : A → Bool) (xs : List A) (x : A) → list_any test (xs ++ x ∷ []) ≡ (test x || list_any test xs)
any_last test [] x = refl
any_last test (y ∷ xs) x = ap (λ b. test y || b) (any_last test xs x) ∙ or_last (test y) (test x) (list_any test xs)

-- in whichever order they are known
any_reversed : {A : Type 0} (test : A → Bool) (xs : List A) → list_any test (reverse xs) ≡ list_any test xs
any_reversed test [] = refl
any_reversed test (x ∷ xs) = ap (list_any test) (reverse-append (x ∷ []) xs) ∙ any_last test (reverse xs) x ∙ ap (λ b. test x || b) (any_reversed test xs)

-- a node at a host that is known adds none
pub known_host : (found : List Address) (node : Named) (rest : List Named) → list_any (same_host node.address) found ≡ true → found ++ first_of_hosts (reverse found) (node ∷ rest) ≡ found ++ first_of_hosts (reverse found) rest
known_host found node rest e = ap (λ (b : Bool). found ++ cond b (first_of_hosts (reverse found) rest) (node.address ∷ first_of_hosts (node.address ∷ reverse found) rest)) (any_reversed (same_host node.address) found ∙ e)

-- the first at a host adds its address
pub new_host : (found : List Address) (node : Named) (rest : List Named) → list_any (same_host node.address) found ≡ false → found ++ first_of_hosts (reverse found) (node ∷ rest) ≡ (found ++ node.address ∷ []) ++ first_of_hosts (reverse (found ++ node.address ∷ [])) rest
new_host found node rest e =
    ap (λ (b : Bool). found ++ cond b (first_of_hosts (reverse found) rest) (node.address ∷ first_of_hosts (node.address ∷ reverse found) rest)) (any_reversed (same_host node.address) found ∙ e)
    ∙ sym (append_assoc found (node.address ∷ []) (first_of_hosts (node.address ∷ reverse found) rest))
    ∙ ap (λ (known : List Address). (found ++ node.address ∷ []) ++ first_of_hosts known rest) (sym (reverse-append found (node.address ∷ [])))

-- a node after those that were gone over
first_next : (found : List Address) (node : Named) (rest : List Named) (b : Bool) → list_any (same_host node.address) found ≡ b
    → ((found : List Address) → fold (λ found node. first_added found node.address) found rest ≡ found ++ first_of_hosts (reverse found) rest)
    → fold (λ found node. first_added found node.address) (cond b found (found ++ node.address ∷ [])) rest ≡ found ++ first_of_hosts (reverse found) (node ∷ rest)
first_next found node rest true e ih = ih found ∙ sym (known_host found node rest e)
first_next found node rest false e ih = ih (found ++ node.address ∷ []) ∙ sym (new_host found node rest e)

found_first : (nodes : List Named) (found : List Address) → fold (λ found node. first_added found node.address) found nodes ≡ found ++ first_of_hosts (reverse found) nodes
found_first [] found = sym (append-nil found)
found_first (node ∷ rest) found = first_next found node rest (list_any (same_host node.address) found) refl (found_first rest)

-- one address after another, and those of the model
pub firsts_are : (nodes : List Named) → fold (λ found node. first_added found node.address) [] nodes ≡ first_of_hosts [] nodes
firsts_are nodes = found_first nodes []

-- ---- the nodes of a host

-- one more node of this host and port
pub one_more_of : (host : List ℕ) (port : ℕ) (openings : List Opening) (opening : Opening) → AreOf host port openings → opening.own.host ≡ host → opening.own.port ≡ port → AreOf host port (openings ++ opening ∷ [])
one_more_of host port [] opening a h p = (h, p, tt)
one_more_of host port (first ∷ rest) opening a h p = (a.0, a.1, one_more_of host port rest opening a.2 h p)

pub host_alike : (a b : Address) → same_host a b ≡ true → a.host ≡ b.host
host_alike a b e = text_is a.host b.host (both (bytes_eq a.host b.host) (a.port == b.port) e).0

pub port_alike : (a b : Address) → same_host a b ≡ true → a.port ≡ b.port
port_alike a b e = number_is a.port b.port (both (bytes_eq a.host b.host) (a.port == b.port) e).1

-- what is told of some nodes and then of more
pub openings_more : (lines : List Line) (nodes more : List Named) (address : Address) → openings_at lines (nodes ++ more) address ≡ openings_at lines nodes address ++ openings_at lines more address
openings_more lines nodes more address =
    ap (map (opening_of lines)) (filter-append (λ (node : Named). same_host node.address address) nodes more)
    ∙ map-append (opening_of lines) (filter (λ (node : Named). same_host node.address address) nodes) (filter (λ (node : Named). same_host node.address address) more)

-- a node is told where it is at the host and port
pub one_opening : (lines : List Line) (node : Named) (address : Address) (b : Bool) → same_host node.address address ≡ b → openings_at lines (node ∷ []) address ≡ cond b (opening_of lines node ∷ []) []
one_opening lines node address true e = ap (λ (b : Bool). map (opening_of lines) (cond b (node ∷ []) [])) e
one_opening lines node address false e = ap (λ (b : Bool). map (opening_of lines) (cond b (node ∷ []) [])) e

-- ---- all of it

-- the parts are those of the model's world
pub made : (lines : List Line) (names : List Named) (strangers : List (List ℕ × List ℕ)) (circle : List (List ℕ)) (nodes : List Named) (addresses : List Address) (cells : List (Cell × ℕ)) (sockets : List WorldSocket) (last : Option Place)
    → names ≡ names_of lines → strangers ≡ flat_map (λ line. stranger_in line.what) lines → circle ≡ map (λ n. n.address.host) (filter (λ n. n.is_node) names) → nodes ≡ nodes_of lines → addresses ≡ first_of_hosts [] nodes → cells ≡ cells_among lines circle nodes addresses → sockets ≡ [] → last ≡ None
    → record { names = names; strangers = strangers; cells = cells; sockets = sockets; last = last } ≡ world_new lines
made lines names strangers circle nodes addresses cells sockets last n s c o a h k l = λ i. record { names = n i; strangers = s i; cells = made_cells i; sockets = k i; last = l i }
  where
    made_circle : circle ≡ map (λ n. n.address.host) (nodes_of lines)
    made_circle = c ∙ ap (λ (ns : List Named). map (λ n. n.address.host) (filter (λ n. n.is_node) ns)) n

    made_addresses : addresses ≡ first_of_hosts [] (nodes_of lines)
    made_addresses = a ∙ ap (first_of_hosts []) o

    made_cells : cells ≡ cells_among lines (map (λ n. n.address.host) (nodes_of lines)) (nodes_of lines) (first_of_hosts [] (nodes_of lines))
    made_cells = h ∙ (λ i. cells_among lines (made_circle i) (o i) (made_addresses i))
