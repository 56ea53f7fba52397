-- The acts of a node that are done one after another: node and host agree after each of them.
use Rattle.std.proofs.Common.{◌≡◌, ◌≤◌, ◌<◌, ℕ, zero, suc, ◌+◌, ◌*◌, Bool, true, false, cond, ◌&&◌, List, [], ◌∷◌, ◌++◌, length, Ok, Err, refl, sym, ap, ◌∙◌, subst, arith}
use Rattle.std.specs.Prelude.{◌==◌, slice_set, Result}
use Rattle.ch_base.specs.declared.address.Address.{Address}
use Rattle.ch_light.specs.declared.TheConstants.{MOST_IDS}
use Rattle.ch_light.specs.declared.Connection.{Connection}
use Rattle.ch_light.specs.Ids.{opened, closed}
use Rattle.ch_watch.specs.Same.{same_node}
use Rattle.ch_model.specs.CellSteps.{Followed, after_entries, ◌then◌, asked, act_on, acts_on}
use Rattle.ch_model.specs.declared.act.Act.{Act}
use Rattle.ch_model.specs.declared.act.Act.TheVariants as acts
use Rattle.ch_model.specs.declared.local.LocalEntry.{LocalEntry}
use Rattle.ch_model.specs.declared.note.Note.{Note}
use Rattle.ch_model.specs.declared.step.EndError.{EndError}
use Rattle.ch_model.specs.declared.step.EndError.TheVariants as errors
use Rattle.ch_model.specs.declared.step.Step.{Step}
use Rattle.ch_model.specs.declared.step.Weight.{Weight}
use Rattle.ch_model.specs.HostCalls.{host_connect, host_send, host_close}
use Rattle.ch_model.specs.HostState.{Link, HostState}
use Rattle.ch_model.specs.WorldState.{Cell}
use Rattle.ch_laws_log.proofs.Stored.{number_is, number_same}
use Rattle.ch_laws_log.proofs.Homes.{node_self}
use Rattle.ch_laws_log.proofs.Keys.{node_is}
use Rattle.ch_laws_connections.specs.Tables.{given_at, given_so, open_in, LinksApart, is_standing, roomy_at}
use Rattle.ch_laws_connections.specs.Senders.{Sender, once, IsOfFirst, open_after, opens_to, kept_free}
use Rattle.ch_laws_connections.specs.Fits.{Agrees, IsDark, FitsAs}
use Rattle.ch_laws_connections.proofs.Keys.{with_key}
use Rattle.ch_laws_connections.proofs.HostLinks.{Quiet, SameRooms}
use Rattle.ch_laws_connections.proofs.Used.{alike_used}
use Rattle.ch_model.specs.HostWrites.{is_counted}
use Rattle.ch_laws_connections.proofs.GivenIn.{place, some_open, closed_once, closed_length, opened_once, opened_length}
use Rattle.ch_laws_connections.proofs.HostCalls.{Sets, SetsFree, IsTaken, with_opened, connected, not_connected, QuietOrRefused, sent, with_closed, Closes, ClosesAll, closed_conn}

-- nothing changes at other endpoints, and links stay apart
pub record Moves (end : ℕ) (before after : HostState) : Type 0 where
  pub others : (e : ℕ) (peer : Address) → (end == e) ≡ false → given_at after e peer ≡ given_at before e peer
  pub apart : LinksApart before.links → LinksApart after.links
  pub ends : (e : ℕ) → is_standing after e ≡ is_standing before e

pub unmoved : (end : ℕ) (host : HostState) → Moves end host host
unmoved end host = record { others = λ e p h. refl; apart = λ a. a; ends = λ e. refl }

pub moved_on : (end : ℕ) (one two three : HostState) → Moves end one two → Moves end two three → Moves end one three
moved_on end one two three a b = record { others = λ e p h. b.others e p h ∙ a.others e p h; apart = λ l. b.apart (a.apart l); ends = λ e. b.ends e ∙ a.ends e }

quiet_moves : (end : ℕ) (before after : HostState) → Quiet before after → Moves end before after
quiet_moves end before after q = record { others = λ e p h. q.given e p; apart = q.apart; ends = q.ends }

set_moves : (end : ℕ) (link : Link) (before after : HostState) → link.end ≡ end → Sets link before after → Moves end before after
set_moves end link before after is s = record { others = λ e p h. s.given e p ∙ ap (λ b. cond b link.given (given_at before e p)) (ap (λ (n : ℕ). (n == e) && same_node link.peer p) is ∙ ap (λ b. b && same_node link.peer p) h); apart = s.apart; ends = s.ends }

-- what is given at the endpoint itself
set_there : (end : ℕ) (peer other : Address) (link : Link) (before after : HostState) → link.end ≡ end → link.peer ≡ peer → Sets link before after → given_at after end other ≡ cond (same_node peer other) link.given (given_at before end other)
set_there end peer other link before after is it s = s.given end other ∙ ap (λ b. cond b link.given (given_at before end other)) (ap (λ (n : ℕ). (n == end) && same_node link.peer other) is ∙ ap (λ b. b && same_node link.peer other) (number_same end) ∙ ap (λ (p : Address). same_node p other) it)

-- ---- arithmetic

fits_one : (l o k m : ℕ) → l + ((1 + o) + k) ≤ m → suc l ≤ m
fits_one l o k m h = omega arith

room_less : (l a o k m : ℕ) → l + ((a + o) + k) ≤ m → (a + l) + (o + k) ≤ m
room_less l a o k m h = omega arith

one_at_most : (n : ℕ) → n ≡ 0 → 1 + n ≤ 1
one_at_most n e = omega arith

none_at_most : (n : ℕ) → n ≤ 1 → 0 + n ≤ 1
none_at_most n l = omega arith

not_first : (n k c : ℕ) → c ≡ 2 * n → c ≡ 2 * k → k < n → ⊥
not_first n k c e f l = omega arith

nothing : (n : ℕ) → (1 ≤ n → ⊥) → n ≡ 0
nothing zero f = refl
nothing (suc n) f = absurd (f (one n)) where
  one : (n : ℕ) → 1 ≤ suc n
  one n = omega arith

more_first : (n conn : ℕ) → IsOfFirst n conn → IsOfFirst (n + 1) conn
more_first n conn i = (i.0, less i.0 i.1, i.2) where
  less : (k : ℕ) → k < n → k < n + 1
  less k l = omega arith

quiet_rest : (host : HostState) → Quiet host host
quiet_rest host = record { given = λ e p. refl; apart = λ a. a; ends = λ e. refl }

-- ---- one act, at an endpoint that is open

module _ (end n : ℕ) (rest : List Act) (s : Sender) where
  put_agrees : (c : ℕ) (payload : List ℕ) (weight : Weight) (before after : HostState) → Quiet before after → ((p : Address) → cond (is_counted weight) false (roomy_at before end p) ≡ true → roomy_at after end p ≡ true) → Agrees before end n (acts.Put c payload weight ∷ rest) s → Agrees after end n rest s
  put_agrees c payload weight before after q rooms a = record {
    standing = q.ends end ∙ a.standing;
    given = λ conn p. ap (open_after rest conn p) (so conn p) ∙ a.given conn p;
    alone = λ conn p. subst (λ (k : ℕ). k ≤ 1) (sym (so conn p)) (a.alone conn p);
    one_link = λ conn p r x y. a.one_link conn p r (subst (λ (k : ℕ). 1 ≤ k) (so conn p) x) (subst (λ (k : ℕ). 1 ≤ k) (so conn r) y);
    drawn = λ conn p x. a.drawn conn p (subst (λ (k : ℕ). 1 ≤ k) (so conn p) x);
    opens = a.opens;
    used = alike_used rest (given_so before end) (given_so after end) (λ p. cond (is_counted weight) false (roomy_at before end p)) (roomy_at after end) (λ conn p. sym (so conn p)) rooms a.used.1;
    room = λ p. subst (λ (l : List Connection). length l + (opens_to rest p + kept_free s p) ≤ MOST_IDS) (sym (q.given end p)) (a.room p);
  } where
    so : (conn : ℕ) (p : Address) → given_so after end conn p ≡ given_so before end conn p
    so conn p = ap (λ (l : List Connection). open_in l conn) (q.given end p)

  -- a connection is opened
  module _ (c : ℕ) (peer : Address) (before after : HostState) (a : Agrees before end n (acts.Open c peer ∷ rest) s) where
    pub open_room : suc (length (given_at before end peer)) ≤ MOST_IDS
    open_room = fits_one (length (given_at before end peer)) (opens_to rest peer) (kept_free s peer) MOST_IDS (subst (λ b. length (given_at before end peer) + ((once b + opens_to rest peer) + kept_free s peer) ≤ MOST_IDS) (node_self peer) (a.room peer))

    fresh : (p : Address) → given_so before end c p ≡ 0
    fresh p = nothing (given_so before end c p) (λ x. let i = a.drawn c p x in not_first n i.0 c a.opens.0 i.2 i.1)

    module _ (sets : Sets (with_opened before end peer c) before after) (rooms : SameRooms before after) where
      table : (p : Address) → given_at after end p ≡ cond (same_node peer p) (given_at before end p ++ opened c ∷ []) (given_at before end p)
      table p = let key = with_key before end peer in set_there end peer p (with_opened before end peer c) before after key.0 key.1 sets ∙ by_test (same_node peer p) refl where
        by_test : (b : Bool) → same_node peer p ≡ b → cond b (given_at before end peer ++ opened c ∷ []) (given_at before end p) ≡ cond b (given_at before end p ++ opened c ∷ []) (given_at before end p)
        by_test true h = ap (λ (q : Address). given_at before end q ++ opened c ∷ []) (node_is peer p h)
        by_test false h = refl

      so : (conn : ℕ) (p : Address) → given_so after end conn p ≡ once ((c == conn) && same_node peer p) + given_so before end conn p
      so conn p = ap (λ (l : List Connection). open_in l conn) (table p) ∙ by_test (same_node peer p) (c == conn) (opened_once (given_at before end p) c conn) where
        none : (k : ℕ) → k ≡ 0 + k
        none k = omega arith

        by_test : (b d : Bool) → open_in (given_at before end p ++ opened c ∷ []) conn ≡ once d + given_so before end conn p → open_in (cond b (given_at before end p ++ opened c ∷ []) (given_at before end p)) conn ≡ once (d && b) + given_so before end conn p
        by_test true true e = e
        by_test true false e = e
        by_test false true e = none (given_so before end conn p)
        by_test false false e = none (given_so before end conn p)

      size : (p : Address) → length (given_at after end p) ≡ once (same_node peer p) + length (given_at before end p)
      size p = ap (λ (l : List Connection). length l) (table p) ∙ by_test (same_node peer p) where
        none : (k : ℕ) → k ≡ 0 + k
        none k = omega arith

        by_test : (b : Bool) → length (cond b (given_at before end p ++ opened c ∷ []) (given_at before end p)) ≡ once b + length (given_at before end p)
        by_test true = opened_length (given_at before end p) (opened c)
        by_test false = none (length (given_at before end p))

      alone_by : (conn : ℕ) (p : Address) (d b : Bool) → (c == conn) ≡ d → once (d && b) + given_so before end conn p ≤ 1
      alone_by conn p true true h = one_at_most (given_so before end conn p) (ap (λ (k : ℕ). given_so before end k p) (sym (number_is c conn h)) ∙ fresh p)
      alone_by conn p true false h = none_at_most (given_so before end conn p) (a.alone conn p)
      alone_by conn p false b h = none_at_most (given_so before end conn p) (a.alone conn p)

      at_peer : (conn : ℕ) (p : Address) (d b : Bool) → (c == conn) ≡ d → same_node peer p ≡ b → d ≡ true → 1 ≤ once (d && b) + given_so before end conn p → peer ≡ p
      at_peer conn p true true h g is x = node_is peer p g
      at_peer conn p true false h g is x = absurd (never (given_so before end conn p) (ap (λ (k : ℕ). given_so before end k p) (sym (number_is c conn h)) ∙ fresh p) x) where
        never : (k : ℕ) → k ≡ 0 → 1 ≤ 0 + k → ⊥
        never k e l = omega arith
      at_peer conn p false b h g is x = absurd cc

      before_so : (conn : ℕ) (p : Address) (b : Bool) → 1 ≤ once (false && b) + given_so before end conn p → 1 ≤ given_so before end conn p
      before_so conn p b x = less (given_so before end conn p) x where
        less : (k : ℕ) → 1 ≤ 0 + k → 1 ≤ k
        less k l = omega arith

      one_by : (conn : ℕ) (p r : Address) (d : Bool) → (c == conn) ≡ d → 1 ≤ once (d && same_node peer p) + given_so before end conn p → 1 ≤ once (d && same_node peer r) + given_so before end conn r → p ≡ r
      one_by conn p r true h x y = sym (at_peer conn p true (same_node peer p) h refl refl x) ∙ at_peer conn r true (same_node peer r) h refl refl y
      one_by conn p r false h x y = a.one_link conn p r (before_so conn p (same_node peer p) x) (before_so conn r (same_node peer r) y)

      drawn_by : (conn : ℕ) (p : Address) (d : Bool) → (c == conn) ≡ d → 1 ≤ once (d && same_node peer p) + given_so before end conn p → IsOfFirst (n + 1) conn
      drawn_by conn p true h x = (n, one n, sym (number_is c conn h) ∙ a.opens.0) where
        one : (k : ℕ) → k < k + 1
        one k = omega arith
      drawn_by conn p false h x = more_first n conn (a.drawn conn p (before_so conn p (same_node peer p) x))

      opened_agrees : Agrees after end (n + 1) rest s
      opened_agrees = record {
        standing = sets.ends end ∙ a.standing;
        given = λ conn p. ap (open_after rest conn p) (so conn p) ∙ a.given conn p;
        alone = λ conn p. subst (λ (k : ℕ). k ≤ 1) (sym (so conn p)) (alone_by conn p (c == conn) (same_node peer p) refl);
        one_link = λ conn p r x y. one_by conn p r (c == conn) refl (subst (λ (k : ℕ). 1 ≤ k) (so conn p) x) (subst (λ (k : ℕ). 1 ≤ k) (so conn r) y);
        drawn = λ conn p x. drawn_by conn p (c == conn) refl (subst (λ (k : ℕ). 1 ≤ k) (so conn p) x);
        opens = a.opens.1;
        used = alike_used rest _ (given_so after end) (roomy_at before end) (roomy_at after end) (λ conn p. sym (so conn p)) (λ p x. rooms end p ∙ x) a.used;
        room = λ p. subst (λ (l : ℕ). l + (opens_to rest p + kept_free s p) ≤ MOST_IDS) (sym (size p)) (room_less (length (given_at before end p)) (once (same_node peer p)) (opens_to rest p) (kept_free s p) MOST_IDS (a.room p));
      }

  -- a connection is closed
  module _ (c : ℕ) (before after : HostState) (a : Agrees before end n (acts.Close c ∷ rest) s) where
    closed_agrees : SameRooms before after → is_standing after end ≡ is_standing before end → ((conn : ℕ) (p : Address) → given_so after end conn p ≡ cond (c == conn) 0 (given_so before end conn p)) → ((p : Address) → length (given_at after end p) ≡ length (given_at before end p)) → Agrees after end n rest s
    closed_agrees rooms ends so size = record {
      standing = ends ∙ a.standing;
      given = λ conn p. ap (open_after rest conn p) (so conn p) ∙ a.given conn p;
      alone = λ conn p. subst (λ (k : ℕ). k ≤ 1) (sym (so conn p)) (alone_by conn p (c == conn));
      one_link = λ conn p r x y. a.one_link conn p r (was (c == conn) (given_so before end conn p) (subst (λ (k : ℕ). 1 ≤ k) (so conn p) x)) (was (c == conn) (given_so before end conn r) (subst (λ (k : ℕ). 1 ≤ k) (so conn r) y));
      drawn = λ conn p x. a.drawn conn p (was (c == conn) (given_so before end conn p) (subst (λ (k : ℕ). 1 ≤ k) (so conn p) x));
      opens = a.opens;
      used = alike_used rest _ (given_so after end) (roomy_at before end) (roomy_at after end) (λ conn p. sym (so conn p)) (λ p x. rooms end p ∙ x) a.used.1;
      room = λ p. subst (λ (l : ℕ). l + (opens_to rest p + kept_free s p) ≤ MOST_IDS) (sym (size p)) (a.room p);
    } where
      few : 0 ≤ 1
      few = omega arith

      alone_by : (conn : ℕ) (p : Address) (d : Bool) → cond d 0 (given_so before end conn p) ≤ 1
      alone_by conn p true = few
      alone_by conn p false = a.alone conn p

      was : (d : Bool) (k : ℕ) → 1 ≤ cond d 0 k → 1 ≤ k
      was true k x = absurd (never x) where
        never : 1 ≤ 0 → ⊥
        never l = omega arith
      was false k x = x

    module _ (done : Closes before end c after) where
      kept_table : (p : Address) → given_at after end p ≡ cond (same_node done.link.peer p) (slice_set done.link.given (place done.link.given c) (closed c)) (given_at before end p)
      kept_table p = set_there end done.link.peer p (with_closed done.link c) before after done.carried.end_is refl done.sets

      is_its : (p : Address) → same_node done.link.peer p ≡ true → done.link.given ≡ given_at before end p
      is_its p h = ap (λ (l : Link). l.given) (sym done.carried.is_there) ∙ ap (λ (e : ℕ). given_at before e done.link.peer) done.carried.end_is ∙ ap (given_at before end) (node_is done.link.peer p h)

      there : 1 ≤ given_so before end c done.link.peer
      there = subst (λ (l : List Connection). 1 ≤ open_in l c) (is_its done.link.peer (node_self done.link.peer)) (some_open done.link.given c done.carried.placed)

      kept_so : (conn : ℕ) (p : Address) → given_so after end conn p ≡ cond (c == conn) 0 (given_so before end conn p)
      kept_so conn p = ap (λ (l : List Connection). open_in l conn) (kept_table p) ∙ by_tests (same_node done.link.peer p) refl (c == conn) refl (closed_once done.link.given c conn done.carried.placed) where
        none : (new old : ℕ) → new + 1 ≡ old → old ≤ 1 → new ≡ 0
        none new old e l = omega arith

        as_was : (new old : ℕ) → new + 0 ≡ old → new ≡ old
        as_was new old e = omega arith

        by_tests : (b : Bool) → same_node done.link.peer p ≡ b → (d : Bool) → (c == conn) ≡ d → open_in (slice_set done.link.given (place done.link.given c) (closed c)) conn + once d ≡ open_in done.link.given conn
            → open_in (cond b (slice_set done.link.given (place done.link.given c) (closed c)) (given_at before end p)) conn ≡ cond d 0 (given_so before end conn p)
        by_tests true h true g e = none (open_in (slice_set done.link.given (place done.link.given c) (closed c)) conn) (open_in done.link.given conn) e (subst (λ (l : List Connection). open_in l conn ≤ 1) (sym (is_its p h)) (a.alone conn p))
        by_tests true h false g e = as_was (open_in (slice_set done.link.given (place done.link.given c) (closed c)) conn) (open_in done.link.given conn) e ∙ ap (λ (l : List Connection). open_in l conn) (is_its p h)
        by_tests false h true g e = nothing (given_so before end conn p) (λ x. clash (sym h ∙ ap (same_node done.link.peer) (sym (a.one_link conn done.link.peer p (subst (λ (k : ℕ). 1 ≤ given_so before end k done.link.peer) (number_is c conn g) there) x)) ∙ node_self done.link.peer)) where
          clash : false ≡ true → ⊥
          clash e = cc
        by_tests false h false g e = refl

      kept_size : (p : Address) → length (given_at after end p) ≡ length (given_at before end p)
      kept_size p = ap (λ (l : List Connection). length l) (kept_table p) ∙ by_test (same_node done.link.peer p) refl where
        by_test : (b : Bool) → same_node done.link.peer p ≡ b → length (cond b (slice_set done.link.given (place done.link.given c) (closed c)) (given_at before end p)) ≡ length (given_at before end p)
        by_test true h = closed_length done.link.given (place done.link.given c) (closed c) ∙ ap (λ (l : List Connection). length l) (is_its p h)
        by_test false h = refl

      close_done : Agrees after end n rest s
      close_done = closed_agrees done.rooms (done.sets.ends end) kept_so kept_size

    not_there : after ≡ before → ((p : Address) → given_so before end c p ≡ 0) → Agrees after end n rest s
    not_there same none = closed_agrees (λ e p. ap (λ (h : HostState). roomy_at h e p) same) (ap (λ (h : HostState). is_standing h end) same) (λ conn p. ap (λ (h : HostState). given_so h end conn p) same ∙ by_test conn p (c == conn) refl) (λ p. ap (λ (h : HostState). length (given_at h end p)) same) where
      by_test : (conn : ℕ) (p : Address) (d : Bool) → (c == conn) ≡ d → given_so before end conn p ≡ cond d 0 (given_so before end conn p)
      by_test conn p true h = ap (λ (k : ℕ). given_so before end k p) (sym (number_is c conn h)) ∙ none p
      by_test conn p false h = refl

-- ---- one act of the node at an endpoint

-- what followed at the cell: its nodes are the same, nothing changed at other endpoints, and the node has what the host gives
abbrev pub After : ℕ → Cell → Bool → List Act → Sender → Followed → Type 0
After end before b rest s (Ok done) = (done.1.nodes ≡ before.nodes) × Moves end before.host done.1.host × FitsAs b done.1.host end rest s
After end before b rest s (Err stop) = Unit {0}

stands_still : (end : ℕ) (cell : Cell) (b : Bool) (rest : List Act) (s : Sender) → FitsAs b cell.host end rest s → (cell.nodes ≡ cell.nodes) × Moves end cell.host cell.host × FitsAs b cell.host end rest s
stands_still end cell b rest s f = (refl, unmoved end cell.host, f)

dark_quiet : (end : ℕ) (before after : HostState) → Quiet before after → IsDark before end → IsDark after end
dark_quiet end before after q d = record { closed = q.ends end ∙ d.closed; given = λ p. q.given end p ∙ d.given p }

-- a payload that is refused leaves the node as it was
unsent : (b : Bool) (end c : ℕ) (payload : List ℕ) (weight : Weight) (rest : List Act) (s : Sender) (host : HostState) → FitsAs b host end (acts.Put c payload weight ∷ rest) s → FitsAs b host end rest s
unsent true end c payload weight rest s host f = f
unsent false end c payload weight rest s host f = (f.0, put_agrees end f.0 rest s c payload weight host host (quiet_rest host) (λ p. by_weight (is_counted weight) (roomy_at host end p)) f.1) where
  by_weight : (b r : Bool) → cond b false r ≡ true → r ≡ true
  by_weight true r x = absurd cc
  by_weight false r x = x

put_fits : (b : Bool) (end c : ℕ) (payload : List ℕ) (weight : Weight) (rest : List Act) (s : Sender) (cell : Cell) (done : Result (List Step × HostState) EndError) → QuietOrRefused weight cell.host done → FitsAs b cell.host end (acts.Put c payload weight ∷ rest) s → After end cell b rest s (asked cell done)
put_fits false end c payload weight rest s cell (Ok done) q f = (refl, quiet_moves end cell.host done.1 q.0, (f.0, put_agrees end f.0 rest s c payload weight cell.host done.1 q.0 (λ p. by_weight (is_counted weight) refl p) f.1)) where
  by_weight : (b : Bool) → is_counted weight ≡ b → (p : Address) → cond b false (roomy_at cell.host end p) ≡ true → roomy_at done.1 end p ≡ true
  by_weight true w p x = absurd cc
  by_weight false w p x = q.1 w end p ∙ x
put_fits true end c payload weight rest s cell (Ok done) q f = (refl, quiet_moves end cell.host done.1 q.0, dark_quiet end cell.host done.1 q.0 f)
put_fits b end c payload weight rest s cell (Err errors.Worn) q f = tt
put_fits b end c payload weight rest s cell (Err errors.OutOfMemory) q f = tt
put_fits b end c payload weight rest s cell (Err errors.NoEndPoint) q f = stands_still end cell b rest s (unsent b end c payload weight rest s cell.host f)
put_fits b end c payload weight rest s cell (Err errors.NoConnection) q f = stands_still end cell b rest s (unsent b end c payload weight rest s cell.host f)
put_fits b end c payload weight rest s cell (Err errors.QueueFull) q f = stands_still end cell b rest s (unsent b end c payload weight rest s cell.host f)
put_fits b end c payload weight rest s cell (Err errors.PayloadLong) q f = stands_still end cell b rest s (unsent b end c payload weight rest s cell.host f)
put_fits b end c payload weight rest s cell (Err errors.Spent) q f = stands_still end cell b rest s (unsent b end c payload weight rest s cell.host f)

open_fits : (end n c : ℕ) (peer : Address) (rest : List Act) (s : Sender) (cell : Cell) (done : Result (List Step × HostState) EndError) → IsTaken (SetsFree (with_opened cell.host end peer c) cell.host) done → Agrees cell.host end n (acts.Open c peer ∷ rest) s → After end cell false rest s (asked cell done)
open_fits end n c peer rest s cell (Ok done) t a = (refl, set_moves end (with_opened cell.host end peer c) cell.host done.1 (with_key cell.host end peer).0 t.0, (n + 1, opened_agrees end n rest s c peer cell.host done.1 a t.0 t.1))
open_fits end n c peer rest s cell (Err errors.Worn) t a = tt
open_fits end n c peer rest s cell (Err errors.OutOfMemory) t a = tt
open_fits end n c peer rest s cell (Err errors.NoEndPoint) t a = absurd t
open_fits end n c peer rest s cell (Err errors.NoConnection) t a = absurd t
open_fits end n c peer rest s cell (Err errors.QueueFull) t a = absurd t
open_fits end n c peer rest s cell (Err errors.PayloadLong) t a = absurd t
open_fits end n c peer rest s cell (Err errors.Spent) t a = absurd t

close_moves : (end c : ℕ) (before after : HostState) → Closes before end c after → Moves end before after
close_moves end c before after k = set_moves end (with_closed k.link c) before after k.carried.end_is k.sets

-- nothing is closed where nothing is given
never_closed : (end c : ℕ) (before after : HostState) → Closes before end c after → IsDark before end → ⊥
never_closed end c before after k d = none (subst (λ (l : List Connection). place l c < length l) (ap (λ (l : Link). l.given) (sym k.carried.is_there) ∙ ap (λ (e : ℕ). given_at before e k.link.peer) k.carried.end_is ∙ d.given k.link.peer) k.carried.placed) where
  none : place [] c < 0 → ⊥
  none l = omega arith

close_fits : (b : Bool) (end c : ℕ) (rest : List Act) (s : Sender) (cell : Cell) (done : Result (List Step × HostState) EndError) → ClosesAll cell.host end c done → FitsAs b cell.host end (acts.Close c ∷ rest) s → After end cell b rest s (asked cell done)
close_fits false end c rest s cell (Ok done) k f = (refl, close_moves end c cell.host done.1 k, (f.0, close_done end f.0 rest s c cell.host done.1 f.1 k))
close_fits true end c rest s cell (Ok done) k f = absurd (never_closed end c cell.host done.1 k f)
close_fits false end c rest s cell (Err errors.NoConnection) k f = stands_still end cell false rest s (f.0, not_there end f.0 rest s c cell.host cell.host f.1 refl k)
close_fits true end c rest s cell (Err errors.NoConnection) k f = stands_still end cell true rest s f
close_fits b end c rest s cell (Err errors.Worn) k f = tt
close_fits b end c rest s cell (Err errors.OutOfMemory) k f = tt
close_fits b end c rest s cell (Err errors.NoEndPoint) k f = absurd k
close_fits b end c rest s cell (Err errors.QueueFull) k f = absurd k
close_fits b end c rest s cell (Err errors.PayloadLong) k f = absurd k
close_fits b end c rest s cell (Err errors.Spent) k f = absurd k

note_fits : (b : Bool) (end : ℕ) (note : Note) (rest : List Act) (s : Sender) (host : HostState) → FitsAs b host end (acts.Note note ∷ rest) s → FitsAs b host end rest s
note_fits true end note rest s host f = f
note_fits false end note rest s host f = (f.0, record { standing = f.1.standing; given = f.1.given; alone = f.1.alone; one_link = f.1.one_link; drawn = f.1.drawn; opens = f.1.opens; used = f.1.used; room = f.1.room })

pub act_fits : (b : Bool) (end : ℕ) (act : Act) (rest : List Act) (s : Sender) (cell : Cell) → LinksApart cell.host.links → FitsAs b cell.host end (act ∷ rest) s → After end cell b rest s (act_on end act cell)
act_fits b end (acts.Note note) rest s cell a f = stands_still end cell b rest s (note_fits b end note rest s cell.host f)
act_fits b end (acts.Put conn payload weight) rest s cell a f = put_fits b end conn payload weight rest s cell (host_send cell.host end conn payload weight) (sent cell.host end conn payload weight a) f
act_fits b end (acts.Close conn) rest s cell a f = close_fits b end conn rest s cell (host_close cell.host end conn) (closed_conn cell.host end conn a) f
act_fits false end (acts.Open conn peer) rest s cell a f = open_fits end f.0 conn peer rest s cell (host_connect cell.host end peer conn) (connected cell.host end peer conn f.1.standing (open_room end f.0 rest s conn peer cell.host cell.host f.1)) f.1
act_fits true end (acts.Open conn peer) rest s cell a f = subst (λ (r : Result (List Step × HostState) EndError). After end cell true rest s (asked cell r)) (sym (not_connected cell.host end peer conn f.closed)) (stands_still end cell true rest s f)

pub acts_fit : (b : Bool) (end : ℕ) (done : List Act) (s : Sender) (cell : Cell) → LinksApart cell.host.links → FitsAs b cell.host end done s → After end cell b [] s (acts_on end done cell)
acts_fit b end [] s cell a f = stands_still end cell b [] s f
acts_fit b end (act ∷ rest) s cell a f = by_first (act_on end act cell) (act_fits b end act rest s cell a f) (acts_fit b end rest s) where
  by_more : (first : List LocalEntry × Cell) → (first.1.nodes ≡ cell.nodes) → Moves end cell.host first.1.host → (more : Followed) → After end first.1 b [] s more → After end cell b [] s (after_entries first.0 more)
  by_more first e m (Ok more) f = (f.0 ∙ e, moved_on end cell.host first.1.host more.1.host m f.1, f.2)
  by_more first e m (Err stop) f = tt

  by_first : (first : Followed) → After end cell b rest s first → ((next : Cell) → LinksApart next.host.links → FitsAs b next.host end rest s → After end next b [] s (acts_on end rest next)) → After end cell b [] s (first then acts_on end rest)
  by_first (Ok first) f more = by_more first f.0 f.1 (acts_on end rest first.1) (more first.1 (f.1.apart a) f.2)
  by_first (Err stop) f more = tt
