-- Where nothing has happened, each node has what its host gives: nothing.
use Rattle.std.proofs.Common.{◌≡◌, ◌≤◌, ℕ, ◌+◌, Bool, true, false, cond, ◌&&◌, ◌||◌, List, [], ◌∷◌, ◌++◌, map, length, refl, sym, ap, ◌∙◌, subst, arith}
use Rattle.std.proofs.lemmas.List.Folds.{list_any-append}
use Rattle.std.specs.List.{list_any}
use Rattle.std.specs.Prelude.{find, ◌==◌, Some}
use Rattle.ch_base.specs.declared.address.Address.{Address}
use Rattle.ch_light.specs.declared.TheConstants.{MOST_IDS}
use Rattle.ch_model.specs.declared.line.Line.{Line}
use Rattle.ch_model.specs.Cell.{opened_for, cell_new}
use Rattle.ch_model.specs.CellSteps.{is_at}
use Rattle.ch_model.specs.HostCalls.{host_new, host_open}
use Rattle.ch_model.specs.HostState.{Endpoint, Link, HostState}
use Rattle.ch_model.specs.HostSteps.{is_endpoint, is_open_endpoint}
use Rattle.ch_model.specs.NodeState.{NodeState}
use Rattle.ch_model.specs.Node.{node_new}
use Rattle.ch_model.specs.World.{cell_at, first_of_hosts, nodes_of, world_new}
use Rattle.ch_laws_items.specs.Stays.{numbers_of}
use Rattle.ch_laws_log.proofs.Stored.{number_is, number_same}
use Rattle.ch_laws_connections.specs.Tables.{given_at, is_standing}
use Rattle.ch_laws_connections.specs.Senders.{Sender, sender_of}
use Rattle.ch_laws_connections.specs.Fits.{Fits, CellHolds, AllDiffer, AllCells}

-- ---- endpoints that are opened

-- each endpoint is open
abbrev AllOpen : List Endpoint → Type 0
AllOpen [] = Unit {0}
AllOpen (x ∷ rest) = (x.is_open ≡ true) × AllOpen rest

record Ready (host : HostState) : Type 0 where
  links : host.links ≡ []
  all_open : AllOpen host.ends
  differ : AllDiffer (numbers_of host.ends)

abbrev new_end : ℕ → Endpoint
new_end end = record { number = end; is_open = true; arrived = 0 }

all_open_more : (ends : List Endpoint) (end : ℕ) → AllOpen ends → AllOpen (ends ++ new_end end ∷ [])
all_open_more [] end a = (refl, tt)
all_open_more (x ∷ rest) end a = (a.0, all_open_more rest end a.1)

other_still : (n end : ℕ) (ends : List Endpoint) → list_any (λ m. m == n) (numbers_of ends) ≡ false → (end == n) ≡ false → list_any (λ m. m == n) (numbers_of (ends ++ new_end end ∷ [])) ≡ false
other_still n end [] e h = ap (λ b. b || false) h
other_still n end (x ∷ rest) e h = by_test (x.number == n) e (other_still n end rest) where
  by_test : (b : Bool) → (b || list_any (λ m. m == n) (numbers_of rest)) ≡ false → (list_any (λ m. m == n) (numbers_of rest) ≡ false → (end == n) ≡ false → list_any (λ m. m == n) (numbers_of (rest ++ new_end end ∷ [])) ≡ false) → (b || list_any (λ m. m == n) (numbers_of (rest ++ new_end end ∷ []))) ≡ false
  by_test true e more = absurd cc
  by_test false e more = more e h

differ_more : (ends : List Endpoint) (end : ℕ) → list_any (is_endpoint end) ends ≡ false → AllDiffer (numbers_of ends) → AllDiffer (numbers_of (ends ++ new_end end ∷ []))
differ_more [] end e d = (refl, tt)
differ_more (x ∷ rest) end e d = by_test (x.number == end) refl e (differ_more rest end) where
  other : (b : Bool) → (end == x.number) ≡ b → (x.number == end) ≡ false → b ≡ false
  other true h g = let never : true ≡ false = sym (number_same end) ∙ ap (λ (n : ℕ). n == end) (number_is end x.number h) ∙ g in absurd cc
  other false h g = refl

  by_test : (b : Bool) → (x.number == end) ≡ b → (b || list_any (is_endpoint end) rest) ≡ false → (list_any (is_endpoint end) rest ≡ false → AllDiffer (numbers_of rest) → AllDiffer (numbers_of (rest ++ new_end end ∷ []))) → AllDiffer (numbers_of (x ∷ rest ++ new_end end ∷ []))
  by_test true h e more = absurd cc
  by_test false h e more = (other_still x.number end rest d.0 (other (end == x.number) refl h), more e d.1)

opened_ready : (host : HostState) (end : ℕ) → Ready host → Ready (host_open host end).1
unfolding host_open
opened_ready host end r = by_test (list_any (is_endpoint end) host.ends) refl where
  by_test : (b : Bool) → list_any (is_endpoint end) host.ends ≡ b → Ready (cond {A = Bool × HostState} b (false, host) (true, record host { ends = host.ends ++ new_end end ∷ [] })).1
  by_test true e = r
  by_test false e = record { links = r.links; all_open = all_open_more host.ends end r.all_open; differ = differ_more host.ends end e r.differ }

-- an endpoint that has been opened is open
found_open : (ends : List Endpoint) (end : ℕ) → AllOpen ends → list_any (is_endpoint end) ends ≡ true → list_any (is_open_endpoint end) ends ≡ true
found_open [] end a e = e
found_open (x ∷ rest) end a e = by_test (x.number == end) x.is_open a.0 e (found_open rest end a.1) where
  by_test : (b o : Bool) → o ≡ true → (b || list_any (is_endpoint end) rest) ≡ true → (list_any (is_endpoint end) rest ≡ true → list_any (is_open_endpoint end) rest ≡ true) → ((b && o) || list_any (is_open_endpoint end) rest) ≡ true
  by_test true o h e more = ap (λ x. x || list_any (is_open_endpoint end) rest) h
  by_test false o h e more = more e

now_open : (host : HostState) (end : ℕ) → Ready host → is_standing (host_open host end).1 end ≡ true
unfolding host_open
now_open host end r = by_test (list_any (is_endpoint end) host.ends) refl where
  or_true : (b : Bool) → (b || true) ≡ true
  or_true true = refl
  or_true false = refl

  by_test : (b : Bool) → list_any (is_endpoint end) host.ends ≡ b → is_standing (cond {A = Bool × HostState} b (false, host) (true, record host { ends = host.ends ++ new_end end ∷ [] })).1 end ≡ true
  by_test true e = found_open host.ends end r.all_open e
  by_test false e = list_any-append (is_open_endpoint end) host.ends (new_end end ∷ []) ∙ ap (λ b. list_any (is_open_endpoint end) host.ends || ((b && true) || false)) (number_same end) ∙ or_true (list_any (is_open_endpoint end) host.ends)

stays_open : (host : HostState) (end n : ℕ) → is_standing host n ≡ true → is_standing (host_open host end).1 n ≡ true
unfolding host_open
stays_open host end n s = by_test (list_any (is_endpoint end) host.ends) where
  by_test : (b : Bool) → is_standing (cond {A = Bool × HostState} b (false, host) (true, record host { ends = host.ends ++ new_end end ∷ [] })).1 n ≡ true
  by_test true = s
  by_test false = list_any-append (is_open_endpoint n) host.ends (new_end end ∷ []) ∙ ap (λ b. b || list_any (is_open_endpoint n) (new_end end ∷ [])) s

all_ready : (nodes : List (ℕ × NodeState)) (host : HostState) → Ready host → Ready (opened_for nodes host)
all_ready [] host r = r
all_ready (node ∷ rest) host r = all_ready rest (host_open host node.0).1 (opened_ready host node.0 r)

stay_open : (nodes : List (ℕ × NodeState)) (host : HostState) (n : ℕ) → is_standing host n ≡ true → is_standing (opened_for nodes host) n ≡ true
stay_open [] host n s = s
stay_open (node ∷ rest) host n s = stay_open rest (host_open host node.0).1 n (stays_open host node.0 n s)

all_stand : (nodes : List (ℕ × NodeState)) (host : HostState) (end : ℕ) (there : ℕ × NodeState) → Ready host → find (is_at end) nodes ≡ Some there → is_standing (opened_for nodes host) end ≡ true
all_stand [] host end there r e = absurd cc
all_stand (node ∷ rest) host end there r e = by_test (node.0 == end) refl e (all_stand rest (host_open host node.0).1 end there (opened_ready host node.0 r)) where
  by_test : (b : Bool) → (node.0 == end) ≡ b → cond b (Some node) (find (is_at end) rest) ≡ Some there → (find (is_at end) rest ≡ Some there → is_standing (opened_for rest (host_open host node.0).1) end ≡ true) → is_standing (opened_for rest (host_open host node.0).1) end ≡ true
  by_test true h e more = stay_open rest (host_open host node.0).1 end (subst (λ (n : ℕ). is_standing (host_open host node.0).1 n ≡ true) (number_is node.0 end h) (now_open host node.0 r))
  by_test false h e more = more e

-- ---- new nodes

-- a sender that has opened nothing
abbrev new_sender : Sender
new_sender = record { is_shut = false; pairs = []; to_nodes = []; opened = 0 }

made_new : (host : List ℕ) (port : ℕ) (nodes : List (ℕ × ℕ × List (List ℕ))) (end : ℕ) (there : ℕ × NodeState) → find (is_at end) (map (λ (node : ℕ × ℕ × List (List ℕ)). (node.0, node_new (record { host = host; port = port; id = node.0 }) node.1 node.2)) nodes) ≡ Some there → sender_of there.1 ≡ new_sender
unfolding node_new
made_new host port [] end there e = absurd cc
made_new host port (node ∷ rest) end there e = by_test (node.0 == end) e (made_new host port rest end there) where
  made : ℕ × NodeState
  made = (node.0, node_new (record { host = host; port = port; id = node.0 }) node.1 node.2)

  others : List (ℕ × NodeState)
  others = map (λ (node : ℕ × ℕ × List (List ℕ)). (node.0, node_new (record { host = host; port = port; id = node.0 }) node.1 node.2)) rest

  by_test : (b : Bool) → cond b (Some made) (find (is_at end) others) ≡ Some there → (find (is_at end) others ≡ Some there → sender_of there.1 ≡ new_sender) → sender_of there.1 ≡ new_sender
  by_test true e more = let this : made ≡ there = cc in sym (ap (λ (n : ℕ × NodeState). sender_of n.1) this)
  by_test false e more = more e

new_agrees : (host : HostState) (end : ℕ) → host.links ≡ [] → is_standing host end ≡ true → Fits host end [] new_sender
new_agrees host end none standing = (
  record { alone = λ conn. few; drawn = λ conn l. absurd (never l) },
  (
    0,
    record {
      standing = standing;
      given = λ conn p. ap (λ (l : List Link). given_in l conn p) none;
      alone = λ conn p. subst (λ (l : List Link). given_in l conn p ≤ 1) (sym none) few;
      one_link = λ conn p r x y. absurd (never (subst (λ (l : List Link). 1 ≤ given_in l conn p) none x));
      drawn = λ conn p x. absurd (never (subst (λ (l : List Link). 1 ≤ given_in l conn p) none x));
      opens = refl;
      used = tt;
      room = λ p. subst (λ (l : List Link). length (given_at (record host { links = l }) end p) + (0 + 1) ≤ MOST_IDS) (sym none) one;
    },
  ),
) where
  given_in : List Link → ℕ → Address → ℕ
  given_in l conn p = Rattle.ch_laws_connections.specs.Tables.given_so (record host { links = l }) end conn p

  few : 0 + 0 ≤ 1
  few = omega arith

  never : 1 ≤ 0 + 0 → ⊥
  never l = omega arith

  one : 0 + (0 + 1) ≤ MOST_IDS
  one = omega arith

pub new_cell : (host : List ℕ) (port : ℕ) (circle : List (List ℕ)) (nodes : List (ℕ × ℕ × List (List ℕ))) → CellHolds (cell_new host port circle nodes)
new_cell host port circle nodes = (ready.differ, record { links = subst Rattle.ch_laws_connections.specs.Tables.LinksApart (sym ready.links) tt; nodes = λ end there e. subst (λ (s : Sender). Fits (opened_for made (host_new host port circle)) end [] s) (sym (made_new host port nodes end there e)) (new_agrees (opened_for made (host_new host port circle)) end ready.links (all_stand made (host_new host port circle) end there start e)) }) where
  made : List (ℕ × NodeState)
  made = map (λ (node : ℕ × ℕ × List (List ℕ)). (node.0, node_new (record { host = host; port = port; id = node.0 }) node.1 node.2)) nodes

  start : Ready (host_new host port circle)
  start = record { links = refl; all_open = tt; differ = tt }

  ready : Ready (opened_for made (host_new host port circle))
  ready = all_ready made (host_new host port circle) start

pub new_cells : (journal : List Line) → AllCells CellHolds (world_new journal).cells
new_cells journal = of_all (first_of_hosts [] (nodes_of journal)) where
  of_all : (addresses : List Address) → AllCells CellHolds (map (λ (address : Address). (cell_at journal address, 0)) addresses)
  of_all [] = tt
  of_all (address ∷ rest) = (new_cell address.host address.port _ _, of_all rest)
