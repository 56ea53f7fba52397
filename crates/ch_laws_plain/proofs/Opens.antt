-- A connection that is opened, and what is sent on it first: both go on the link of the endpoint with the peer, under one id.
use Rattle.std.proofs.Common.{◌≡◌, ◌≤◌, ◌<◌, ℕ, suc, ◌+◌, Bool, true, false, cond, not, List, [], ◌∷◌, ◌++◌, length, Ok, Err, sym, ap, ◌∙◌, subst, arith}
use Rattle.std.specs.Prelude.{option_map, nat_le, Option, Some, None}
use Rattle.ch_base.specs.declared.address.Address.{Address}
use Rattle.ch_wire.specs.declared.frame.Frame.TheVariants as frames
use Rattle.ch_light.specs.declared.TheConstants.{FIRST_ID, MOST_IDS}
use Rattle.ch_light.specs.declared.Connection.{Connection}
use Rattle.ch_light.specs.declared.error.LightError.TheVariants.{Spent}
use Rattle.ch_light.specs.Ids.{opened, is_open_as, id_of, give_of}
use Rattle.ch_model.specs.declared.step.EndError.{EndError}
use Rattle.ch_model.specs.declared.step.Step.{Step}
use Rattle.ch_model.specs.HostCalls.{of_ids}
use Rattle.ch_model.specs.HostState.{Link, HostState}
use Rattle.ch_model.specs.HostSteps.{link_with}
use Rattle.ch_laws_links.proofs.Keys.{number_self}
use Rattle.ch_laws_connections.specs.Tables.{given_at, given_so, open_in, LinksApart}
use Rattle.ch_laws_connections.specs.Senders.{once}
use Rattle.ch_laws_connections.proofs.GivenIn.{place, some_open, opened_once, opened_length, is_placed}
use Rattle.ch_laws_connections.proofs.HostCalls.{IsCarried, carried}
use Rattle.ch_laws_plain.specs.Talks.{Adds, Connects, Sends}
use Rattle.ch_laws_plain.proofs.Talks.{adds_then}

-- ---- tables

-- a connection that no other was given before gets the last place
place_last : (table : List Connection) (conn : ℕ) → open_in table conn ≡ 0 → place (table ++ opened conn ∷ []) conn ≡ length table
place_last [] conn none = ap (λ b. cond (not b) (1 + 0) 0) (number_self conn)
place_last (c ∷ rest) conn none = by_test (is_open_as conn c) none (place_last rest conn) where
  never : (n : ℕ) → 1 + n ≡ 0 → ⊥
  never n e = omega arith

  less : (n : ℕ) → 0 + n ≡ 0 → n ≡ 0
  less n e = omega arith

  last : (n m : ℕ) → n ≡ m → 1 + n ≡ suc m
  last n m e = omega arith

  by_test : (b : Bool) → cond b 1 0 + open_in rest conn ≡ 0 → (open_in rest conn ≡ 0 → place (rest ++ opened conn ∷ []) conn ≡ length rest) → cond (not b) (1 + place (rest ++ opened conn ∷ []) conn) 0 ≡ length (c ∷ rest)
  by_test true e more = absurd (never (open_in rest conn) e)
  by_test false e more = last (place (rest ++ opened conn ∷ []) conn) (length rest) (more (less (open_in rest conn) e))

last_below : (table : List Connection) (conn : ℕ) → open_in table conn ≡ 0 → place (table ++ opened conn ∷ []) conn < length (table ++ opened conn ∷ [])
last_below table conn none = below (place (table ++ opened conn ∷ []) conn) (length table) (length (table ++ opened conn ∷ [])) (place_last table conn none) (opened_length table (opened conn)) where
  below : (p n m : ℕ) → p ≡ n → m ≡ 1 + n → p < m
  below p n m e f = omega arith

pub last_id : (table : List Connection) (conn : ℕ) → open_in table conn ≡ 0 → id_of (table ++ opened conn ∷ []) conn ≡ Some (FIRST_ID + length table)
unfolding id_of
last_id table conn none = ap (option_map (λ place. FIRST_ID + place)) (is_placed (table ++ opened conn ∷ []) conn (last_below table conn none) ∙ ap (λ (n : ℕ). Some n) (place_last table conn none))

-- the id that is given, and the table after it
pub given_is : (table : List Connection) (conn : ℕ) (given : ℕ × List Connection) → of_ids (give_of table conn) ≡ Ok given → given ≡ (FIRST_ID + length table, table ++ opened conn ∷ [])
unfolding give_of
given_is table conn given e = by_test (nat_le MOST_IDS (length table)) e where
  by_test : (b : Bool) → of_ids (cond b (Err Spent) (Ok (FIRST_ID + length table, table ++ opened conn ∷ []))) ≡ Ok given → given ≡ (FIRST_ID + length table, table ++ opened conn ∷ [])
  by_test true e = absurd cc
  by_test false e = let is : (FIRST_ID + length table, table ++ opened conn ∷ []) ≡ given = cc in sym is

-- ---- a payload on a connection that is open with a peer

-- what is asked of a host: a connection is open with one peer alone
pub record IsAlone (host : HostState) (end conn : ℕ) (peer : Address) : Type 0 where
  pub apart : LinksApart host.links
  pub there : 1 ≤ given_so host end conn peer
  pub one_link : (p q : Address) → 1 ≤ given_so host end conn p → 1 ≤ given_so host end conn q → p ≡ q

-- the payload goes on the link with that peer
pub record PutThere (host : HostState) (end conn : ℕ) (peer : Address) (payload : List ℕ) (told : List Step) (after : HostState) : Type 0 where
  pub id : ℕ
  pub has : id_of (link_with host end peer).given conn ≡ Some id
  pub adds : Adds host end peer (link_with host end peer).given (frames.Data id payload ∷ []) told after

pub put_there : (host : HostState) (end conn : ℕ) (peer : Address) (payload : List ℕ) (told : List Step) (after : HostState) → IsAlone host end conn peer → Sends {E = EndError} host end conn payload (Ok (told, after)) → PutThere host end conn peer payload told after
put_there host end conn peer payload told after a s = record {
  id = s.2;
  has = ap (λ (l : Link). id_of l.given conn) is_there ∙ s.3;
  adds = subst (λ (l : Link). Adds host end peer l.given (frames.Data s.2 payload ∷ []) told after) (sym is_there)
      (subst (λ (n : ℕ). Adds host n peer link.given (frames.Data s.2 payload ∷ []) told after) c.end_is (subst (λ (q : Address). Adds host link.end q link.given (frames.Data s.2 payload ∷ []) told after) same_peer s.4));
} where
  link : Link
  link = s.0

  c : IsCarried host end conn link
  c = carried host end conn link a.apart s.1.found

  given_there : 1 ≤ given_so host end conn link.peer
  given_there = subst (λ (t : List Connection). 1 ≤ open_in t conn) (ap (λ (l : Link). l.given) (sym c.is_there) ∙ ap (λ (e : ℕ). given_at host e link.peer) c.end_is) (some_open link.given conn c.placed)

  same_peer : link.peer ≡ peer
  same_peer = a.one_link link.peer peer given_there a.there

  is_there : link_with host end peer ≡ link
  is_there = ap (link_with host end) (sym same_peer) ∙ ap (λ (n : ℕ). link_with host n link.peer) (sym c.end_is) ∙ c.is_there

-- ---- a connection that is opened

-- it is open then
pub opened_there : (host mid : HostState) (end conn : ℕ) (peer : Address) (told : List Step) → Connects {E = EndError} host end peer conn (Ok (told, mid)) → 1 ≤ given_so mid end conn peer
opened_there host mid end conn peer told c = subst (λ (t : List Connection). 1 ≤ open_in t conn) (sym (c.2.given ∙ ap (λ (g : ℕ × List Connection). g.1) (given_is table conn c.0 c.1))) (first (opened_once table conn conn ∙ ap (λ b. once b + open_in table conn) (number_self conn))) where
  table : List Connection
  table = (link_with host end peer).given

  first : open_in (table ++ opened conn ∷ []) conn ≡ 1 + open_in table conn → 1 ≤ open_in (table ++ opened conn ∷ []) conn
  first e = omega arith

-- and its first payload goes under the id that is created for it
pub record OpenedFirst (host : HostState) (end : ℕ) (peer : Address) (payload : List ℕ) (told : List Step) (after : HostState) : Type 0 where
  pub id : ℕ
  pub given : List Connection
  pub adds : Adds host end peer given (frames.Created id ∷ frames.Data id payload ∷ []) told after

pub opened_first : (host mid after : HostState) (end conn : ℕ) (peer : Address) (payload : List ℕ) (told more : List Step) → LinksApart mid.links → given_so mid end conn peer ≤ 1 → ((p q : Address) → 1 ≤ given_so mid end conn p → 1 ≤ given_so mid end conn q → p ≡ q)
    → Connects {E = EndError} host end peer conn (Ok (told, mid)) → Sends {E = EndError} mid end conn payload (Ok (more, after)) → OpenedFirst host end peer payload (told ++ more) after
opened_first host mid after end conn peer payload told more apart once_there one_link c s = record {
  id = c.0.0;
  given = (link_with mid end peer).given;
  adds = adds_then host mid after end peer c.0.1 (link_with mid end peer).given (frames.Created c.0.0 ∷ []) (frames.Data c.0.0 payload ∷ []) told more c.2 (subst (λ (n : ℕ). Adds mid end peer (link_with mid end peer).given (frames.Data n payload ∷ []) more after) same_id p.adds);
} where
  table : List Connection
  table = (link_with host end peer).given

  is : c.0 ≡ (FIRST_ID + length table, table ++ opened conn ∷ [])
  is = given_is table conn c.0 c.1

  table_now : (link_with mid end peer).given ≡ table ++ opened conn ∷ []
  table_now = c.2.given ∙ ap (λ (g : ℕ × List Connection). g.1) is

  p : PutThere mid end conn peer payload more after
  p = put_there mid end conn peer payload more after (record { apart = apart; there = opened_there host mid end conn peer told c; one_link = one_link }) s

  none : open_in (table ++ opened conn ∷ []) conn ≡ 1 + open_in table conn → open_in (table ++ opened conn ∷ []) conn ≤ 1 → open_in table conn ≡ 0
  none e l = omega arith

  unopened : open_in table conn ≡ 0
  unopened = none (opened_once table conn conn ∙ ap (λ b. once b + open_in table conn) (number_self conn)) (subst (λ (t : List Connection). open_in t conn ≤ 1) table_now once_there)

  number_of : Option ℕ → ℕ
  number_of None = 0
  number_of (Some n) = n

  same_id : p.id ≡ c.0.0
  same_id = ap number_of (sym p.has ∙ ap (λ (t : List Connection). id_of t conn) table_now ∙ last_id table conn unopened) ∙ ap (λ (g : ℕ × List Connection). g.0) (sym is)
