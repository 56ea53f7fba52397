-- Of the sockets of an opener to a target one at most is dialed, or up at its opener.
use Rattle.std.proofs.Common.{◌≡◌, ℕ, Bool, true, false, cond, ◌&&◌, List, [], ◌∷◌, Ok, inl, inr, refl, sym, ap, ◌∙◌, subst}
use Rattle.std.specs.Option.{option_map}
use Rattle.std.specs.Prelude.{◌⊎◌, ◌==◌, find, is_some, slice_get, Option, Some, None}
use Rattle.std.specs.Str.{bytes_eq}
use Rattle.ch_base.specs.declared.address.Address.{Address}
use Rattle.ch_link.specs.declared.LinkState.{LinkState}
use Rattle.ch_link.specs.declared.LinkState.TheVariants.{Dialing, Up}
use Rattle.ch_watch.specs.Same.{same_node}
use Rattle.ch_model.specs.declared.entry.Entry.{Entry}
use Rattle.ch_model.specs.declared.line.Line.{Line}
use Rattle.ch_model.specs.declared.name.End.{End}
use Rattle.ch_model.specs.declared.name.End.TheVariants.{O}
use Rattle.ch_model.specs.declared.name.SockName.{SockName}
use Rattle.ch_model.specs.HostState.{Socket, HostState}
use Rattle.ch_model.specs.HostSteps.{is_socket, link_with, own_address}
use Rattle.ch_model.specs.Links.{has_risen, is_closed}
use Rattle.ch_model.specs.Naming.{Names, is_named, or_nobody, called}
use Rattle.ch_model.specs.Stages.{Stage, Pending, Open, Ended, is_ended}
use Rattle.ch_model.specs.World.{names_of, world_new, log_from}
use Rattle.ch_model.specs.WorldSockets.{is_socket_named, same_number, find_end}
use Rattle.ch_model.specs.WorldState.{Cell, Named, WorldSocket, World}
use Rattle.ch_laws_log.proofs.Keys.{node_is}
use Rattle.ch_laws_log.proofs.Stored.{bytes_same, number_same}
use Rattle.ch_laws_ends.proofs.Lines.{sure_after}
use Rattle.ch_laws_links.specs.Naming.{IsDialedBy, IsUpFor}
use Rattle.ch_laws_links.specs.Risings.{IsToldAs}
use Rattle.ch_laws_links.specs.Standing.{standing_of, standing_at}
use Rattle.ch_laws_links.proofs.Journals.{stands_in}
use Rattle.ch_laws_links.proofs.Says.{used}
use Rattle.ch_laws_links.proofs.Worlds.{naming_in}
use Rattle.ch_laws_many.specs.ManyLines.{AreNamedApart}
use Rattle.ch_laws_pairs.specs.Dials.{IsBetweenNames}
use Rattle.ch_laws_pairs.specs.Users.{asker_in, askers_of, AsksAs, OpenerAsks}
use Rattle.ch_laws_pairs.proofs.Hosts.{names_are, one_place}
use Rattle.ch_laws_pairs.proofs.Lines.{own_of, asked_after}
use Rattle.ch_laws_pairs.proofs.LinkedOpeners.{opener_found}

-- ---- names

-- an address that has a name is declared under it
called_found : (known : Names) (a : Address) (name : List ℕ) → called known a ≡ name → (name ≡ [] → ⊥) → is_some (find (is_named name) known) ≡ true
called_found [] a name e some = absurd (some (sym e))
called_found (named ∷ rest) a name e some = by_test (same_node named.address a) e (bytes_eq named.name name) refl (called_found rest a name) where
  More : Type 0
  More = called rest a ≡ name → (name ≡ [] → ⊥) → is_some (find (is_named name) rest) ≡ true

  by_test : (b : Bool) → (or_nobody (cond b (Some named) (find (λ (n : Named). same_node n.address a) rest))).name ≡ name → (c : Bool) → bytes_eq named.name name ≡ c → More → is_some (cond c (Some named) (find (is_named name) rest)) ≡ true
  by_test b e true h more = refl
  by_test true e false h more = let yes : bytes_eq named.name name ≡ true = subst (λ (l : List ℕ). bytes_eq named.name l ≡ true) e (bytes_same named.name) in absurd cc
  by_test false e false h more = more e some

-- names that are apart are of one address each
called_apart : (known : Names) (a b : Address) → AreNamedApart known → called known a ≡ called known b → (called known a ≡ [] → ⊥) → a ≡ b
called_apart [] a b apart e some = absurd (some refl)
called_apart (named ∷ rest) a b apart e some = by_tests (same_node named.address a) refl (same_node named.address b) refl e some (called_apart rest a b apart.1) where
  name_by : Bool → Address → List ℕ
  name_by t x = (or_nobody (cond t (Some named) (find (λ (n : Named). same_node n.address x) rest))).name

  taken : {A : Type 0} (x : Address) → called rest x ≡ named.name → (named.name ≡ [] → ⊥) → A
  taken x h some = let yes = called_found rest x named.name h some in let no : is_some (find (is_named named.name) rest) ≡ false = ap is_some apart.0 in absurd cc

  by_tests : (s : Bool) → same_node named.address a ≡ s → (t : Bool) → same_node named.address b ≡ t → name_by s a ≡ name_by t b → (name_by s a ≡ [] → ⊥) → (called rest a ≡ called rest b → (called rest a ≡ [] → ⊥) → a ≡ b) → a ≡ b
  by_tests true h true g e some more = sym (node_is named.address a h) ∙ node_is named.address b g
  by_tests true h false g e some more = taken b (sym e) some
  by_tests false h true g e some more = taken a e (λ none. some (e ∙ none))
  by_tests false h false g e some more = more e some

-- ---- links

-- a link is of one socket
one_number : (state : LinkState) (n m : ℕ) → (state ≡ Dialing n) ⊎ ((probed : Bool) × (state ≡ Up n probed)) → (state ≡ Dialing m) ⊎ ((probed : Bool) × (state ≡ Up m probed)) → n ≡ m
one_number state n m a b = sym (of n a) ∙ of m b where
  number_in : LinkState → ℕ
  number_in (Dialing k) = k
  number_in (Up k probed) = k
  number_in other = 0

  of : (k : ℕ) → (state ≡ Dialing k) ⊎ ((probed : Bool) × (state ≡ Up k probed)) → number_in state ≡ k
  of k (inl e) = ap number_in e
  of k (inr e) = ap number_in e.1

named_by : (host : HostState) (end : ℕ) (peer : Address) (n : ℕ) (held : Socket) → (((link_with host end peer).state ≡ Dialing n) × IsDialedBy end peer held) ⊎ ((probed : Bool) × ((link_with host end peer).state ≡ Up n probed) × IsUpFor end peer held)
    → ((link_with host end peer).state ≡ Dialing n) ⊎ ((probed : Bool) × ((link_with host end peer).state ≡ Up n probed))
named_by host end peer n held (inl d) = inl d.0
named_by host end peer n held (inr u) = inr (u.0, u.1)

-- an end that the log doesn't close hasn't ended
not_ended : (host : HostState) (n : ℕ) (held : Socket) (risen closed : Bool) → find (is_socket n) host.sockets ≡ Some held → IsToldAs (standing_at host n) risen closed → closed ≡ false → is_ended held.stage ≡ false
not_ended host n held risen closed found told unclosed = by_stage held.stage refl where
  as_held : IsToldAs (Some (standing_of held)) risen closed
  as_held = subst (λ (o : Option Socket). IsToldAs (option_map standing_of o) risen closed) found told

  by_stage : (stage : Stage) → held.stage ≡ stage → is_ended stage ≡ false
  by_stage Pending e = refl
  by_stage Open e = refl
  by_stage Ended e = let over : IsToldAs (Some (standing_of (record held { stage = Ended }))) risen closed = subst (λ (stage : Stage). IsToldAs (Some (standing_of (record held { stage = stage }))) risen closed) e as_held in absurd cc

one_stands : (journal lines : List Line) (log : List Entry) (world : World) (place n m : ℕ) (cell : Cell × ℕ) (s t : SockName) → log_from (world_new journal) lines ≡ Ok (log, world) → slice_get world.cells place ≡ Some cell → AreNamedApart world.names → IsBetweenNames s → t.from ≡ s.from → t.to ≡ s.to
    → find_end place n world.sockets ≡ Some (s, O) → find_end place m world.sockets ≡ Some (t, O) → is_closed log s O ≡ false → is_closed log t O ≡ false → s ≡ t
one_stands journal lines log world place n m cell s t is at apart some from to f g open_s open_t =
    let one = opener_found journal lines log world place n cell s is at f in
    let two = opener_found journal lines log world place m cell t is at g in
    let u = one.2 in
    let v = two.2 in
    let own = own_address cell.0.host in
    let ends : own v.end ≡ own u.end = called_apart world.names (own v.end) (own u.end) apart (v.from ∙ from ∙ sym u.from) (λ none. some.0 (sym (v.from ∙ from) ∙ none)) in
    let peers : v.peer ≡ u.peer = called_apart world.names v.peer u.peer apart (v.to ∙ to ∙ sym u.to) (λ none. some.1 (sym (v.to ∙ to) ∙ none)) in
    let user : two.0.user ≡ Some (u.end, u.peer) = v.user ∙ ap (λ (k : ℕ). Some (k, v.peer)) (ap (λ (a : Address). a.id) ends) ∙ ap (λ (a : Address). Some (u.end, a)) peers in
    let naming = (naming_in journal lines log world place cell is at).naming in
    let first = named_by cell.0.host u.end u.peer n one.0 (used cell.0.host u.end u.peer n one.0 naming one.1 u.user (not_ended cell.0.host n one.0 (has_risen log s O) (is_closed log s O) one.1 (stands_in journal lines log world place cell n (s, O) is at f) open_s)) in
    let other = named_by cell.0.host u.end u.peer m two.0 (used cell.0.host u.end u.peer m two.0 naming two.1 user (not_ended cell.0.host m two.0 (has_risen log t O) (is_closed log t O) two.1 (stands_in journal lines log world place cell m (t, O) is at g) open_t)) in
    let same : n ≡ m = one_number (link_with cell.0.host u.end u.peer).state n m first other in
    ap name_in (sym f ∙ ap (λ (k : ℕ). find_end place k world.sockets) same ∙ g)
  where
    name_in : Option (SockName × End) → SockName
    name_in None = s
    name_in (Some a) = a.0

-- ---- of any two hosts

-- the opener's end of a host has a cell, a number, and is found under it
record IsPlaced (s : SockName) (socket : WorldSocket) (world : World) : Type 0 where
  place : ℕ
  number : ℕ
  cell : Cell × ℕ
  at : slice_get world.cells place ≡ Some cell
  found : find_end place number world.sockets ≡ Some (s, O)

placed : (journal lines : List Line) (log : List Entry) (world : World) (s : SockName) (socket : WorldSocket) → log_from (world_new journal) lines ≡ Ok (log, world) → find (is_socket_named s) world.sockets ≡ Some socket → is_some socket.o.cell ≡ true → IsPlaced s socket world
placed journal lines log world s socket is found hosted = by_end socket.o.cell refl socket.o.number refl hosted ((asked_after journal lines log world is).named s socket found).0 where
  same : (a b : ℕ) → ((a == a) && (b == b)) ≡ true
  same a b = ap (λ t. t && (b == b)) (number_same a) ∙ number_same b

  by_cell : (p n : ℕ) → socket.o.cell ≡ Some p → socket.o.number ≡ Some n → (o : Option (Cell × ℕ)) → slice_get world.cells p ≡ o → AsksAs (own_of journal p) world.names socket.name (asker_in o n) → IsPlaced s socket world
  by_cell p n c m None e a = absurd a
  by_cell p n c m (Some cell) e a = record {
    place = p;
    number = n;
    cell = cell;
    at = e;
    found = (sure_after journal lines log world is).ends.each s socket O p n found
        (ap (λ (k : Option ℕ). same_number k p && same_number socket.o.number n) c ∙ ap (λ (k : Option ℕ). same_number (Some p) p && same_number k n) m ∙ same p n);
  }

  by_end : (c : Option ℕ) → socket.o.cell ≡ c → (m : Option ℕ) → socket.o.number ≡ m → is_some c ≡ true → OpenerAsks (own_of journal) world.names (askers_of world.cells) socket.name c m → IsPlaced s socket world
  by_end None c m e h a = absurd cc
  by_end (Some p) c None e h a = absurd a
  by_end (Some p) c (Some n) e h a = by_cell p n c e (slice_get world.cells p) refl a

pub one_dial : (journal lines : List Line) (log : List Entry) (world : World) (s t : SockName) (a b : WorldSocket) → log_from (world_new journal) lines ≡ Ok (log, world) → AreNamedApart (names_of journal) → IsBetweenNames s → t.from ≡ s.from → t.to ≡ s.to
    → find (is_socket_named s) world.sockets ≡ Some a → find (is_socket_named t) world.sockets ≡ Some b → is_some a.o.cell ≡ true → is_some b.o.cell ≡ true → is_closed log s O ≡ false → is_closed log t O ≡ false → s ≡ t
one_dial journal lines log world s t a b is names some from to found other hosted hosting open_s open_t =
    let p = placed journal lines log world s a is found hosted in
    let q = placed journal lines log world t b is other hosting in
    let u = (opener_found journal lines log world p.place p.number p.cell s is p.at p.found).2 in
    let v = (opener_found journal lines log world q.place q.number q.cell t is q.at q.found).2 in
    let apart : AreNamedApart world.names = subst AreNamedApart (sym (names_are journal lines log world is)) names in
    let ends : own_address q.cell.0.host v.end ≡ own_address p.cell.0.host u.end = called_apart world.names (own_address q.cell.0.host v.end) (own_address p.cell.0.host u.end) apart (v.from ∙ from ∙ sym u.from) (λ none. some.0 (sym (v.from ∙ from) ∙ none)) in
    let same : q.place ≡ p.place = one_place journal lines log world q.place p.place q.cell p.cell is q.at p.at (ap (λ (x : Address). x.host) ends) (ap (λ (x : Address). x.port) ends) in
    one_stands journal lines log world p.place p.number q.number p.cell s t is p.at apart some from to p.found (subst (λ (k : ℕ). find_end k q.number world.sockets ≡ Some (t, O)) same q.found) open_s open_t
