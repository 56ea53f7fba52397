-- The ends of a process's connections: one after another, no payload goes, and what is still open keeps its id.
use Rattle.std.proofs.Common.{◌≡◌, ◌≤◌, ◌<◌, ℕ, suc, ◌+◌, Bool, true, false, cond, ◌&&◌, List, [], ◌∷◌, ◌++◌, length, Ok, Err, refl, sym, ap, ◌∙◌, subst, arith}
use Rattle.std.proofs.lemmas.Bool.{and_parts}
use Rattle.std.specs.Option.{option_map}
use Rattle.std.specs.Prelude.{Result, find, is_some, map, not, slice_set, Option, Some, None, ◌==◌}
use Rattle.ch_base.specs.declared.address.Address.{Address}
use Rattle.ch_light.specs.declared.TheConstants.{FIRST_ID}
use Rattle.ch_light.specs.declared.Connection.{Connection}
use Rattle.ch_light.specs.Ids.{is_open_as, id_of, closed, close_at, close_of}
use Rattle.ch_link.specs.declared.LinkState.{LinkState}
use Rattle.ch_link.specs.declared.LinkState.TheVariants as states
use Rattle.ch_wire.specs.declared.frame.Frame.{Frame}
use Rattle.ch_wire.specs.declared.frame.Frame.TheVariants as frames
use Rattle.ch_model.specs.declared.act.Act.{Act}
use Rattle.ch_model.specs.declared.act.Act.TheVariants as acts
use Rattle.ch_model.specs.declared.local.LocalEntry.{LocalEntry}
use Rattle.ch_model.specs.declared.step.EndError.{EndError}
use Rattle.ch_model.specs.declared.step.Step.{Step}
use Rattle.ch_model.specs.declared.step.Step.TheVariants as steps
use Rattle.ch_model.specs.declared.step.Weight.{Weight}
use Rattle.ch_model.specs.declared.step.Weight.TheVariants.{Free}
use Rattle.ch_model.specs.CellSteps.{told_steps, acts_on}
use Rattle.ch_model.specs.HostCalls.{◌>>=◌, found_or, of_ids, stepped, carries, host_close}
use Rattle.ch_model.specs.HostState.{Link, HostState}
use Rattle.ch_model.specs.HostSteps.{Stepped, link_with, with_link}
use Rattle.ch_model.specs.HostWrites.{frame_step, puts}
use Rattle.ch_model.specs.WorldState.{Cell}
use Rattle.ch_laws_connections.specs.Fits.{FitsAs}
use Rattle.ch_laws_connections.specs.Senders.{Sender, once}
use Rattle.ch_laws_connections.specs.Tables.{given_at, given_so, open_in, LinksApart}
use Rattle.ch_laws_connections.specs.Taken.{ActsTaken}
use Rattle.ch_laws_connections.proofs.Acts.{Moves, act_fits}
use Rattle.ch_laws_connections.proofs.GivenIn.{place, is_placed, with_id, closed_once, closed_length}
use Rattle.ch_laws_connections.proofs.HostCalls.{IsCarried, carried}
use Rattle.ch_laws_calls.specs.FitsTurns.{NoDials}
use Rattle.ch_laws_links.specs.Naming.{IsNaming}
use Rattle.ch_laws_links.proofs.Hosts as naming
use Rattle.ch_laws_log.specs.HostEnds.{steps_in}
use Rattle.ch_laws_plain.specs.Talks.{Closes}
use Rattle.ch_laws_plain.proofs.Adds as adds
use Rattle.ch_laws_writes.specs.Dues.{due_at}
use Rattle.ch_laws_writes.specs.Orderly.{IsOrderly, AllWrite}
use Rattle.ch_laws_writes.proofs.Calls as writes
use Rattle.ch_laws_writes.proofs.Ordered.{is_key, at_key}
use Rattle.ch_laws_writes.proofs.Worlds.{number_is}
use Rattle.ch_laws_peers.specs.Words.{Placed, Word, words_in}
use Rattle.ch_laws_peers.specs.Says.{ArePlaced}
use Rattle.ch_laws_messages.specs.SaidPuts.{Puts, AllPut, Utters, only_on}
use Rattle.ch_laws_messages.proofs.SaidActs.{Done, pair_is, Next, asked_next, taken_after, fits_after, told_append}
use Rattle.ch_laws_messages.proofs.SaidPuts.{close_puts}
use Rattle.ch_laws_messages.proofs.SaidUtters.{utters_none, puts_utters, utters_then}
use Rattle.ch_laws_messages.proofs.SaidWords.{words_append}

-- ---- tables

-- what is open after it was open before, and keeps its id
pub record Left (table after : List Connection) (conn : ℕ) : Type 0 where
  pub was : 1 ≤ open_in table conn
  pub kept : (n : ℕ) → id_of table conn ≡ Some n → id_of after conn ≡ Some n

place_left : (table : List Connection) (c conn : ℕ) → (c == conn) ≡ false → place table c < length table → place (slice_set table (place table c) (closed c)) conn ≡ place table conn
place_left [] c conn apart l = absurd (none (place [] c) l) where
  none : (n : ℕ) → n < 0 → ⊥
  none n l = omega arith
place_left (x ∷ rest) c conn apart l = by_test (is_open_as c x) refl l (place_left rest c conn apart) where
  less : (a b : ℕ) → 1 + a < suc b → a < b
  less a b l = omega arith

  one_suc : (n : ℕ) → 1 + n ≡ suc n
  one_suc n = omega arith

  -- the one that is closed has the number c
  others : is_open_as c x ≡ true → is_open_as conn x ≡ false
  others h = let both = and_parts x.is_open (x.number == c) h in by_open x.is_open where
    by_open : (b : Bool) → (b && (x.number == conn)) ≡ false
    by_open true = ap (λ (n : ℕ). n == conn) (number_is x.number c (and_parts x.is_open (x.number == c) h).1) ∙ apart
    by_open false = refl

  by_conn : (b : Bool) → place (slice_set rest (place rest c) (closed c)) conn ≡ place rest conn → cond (not b) (1 + place (slice_set rest (place rest c) (closed c)) conn) 0 ≡ cond (not b) (1 + place rest conn) 0
  by_conn true e = refl
  by_conn false e = ap (λ (n : ℕ). 1 + n) e

  by_test : (b : Bool) → is_open_as c x ≡ b → cond (not b) (1 + place rest c) 0 < suc (length rest) → (place rest c < length rest → place (slice_set rest (place rest c) (closed c)) conn ≡ place rest conn) → place (slice_set (x ∷ rest) (cond (not b) (1 + place rest c) 0) (closed c)) conn ≡ place (x ∷ rest) conn
  by_test true h l more = sym (ap (λ (t : Bool). cond (not t) (1 + place rest conn) 0) (others h))
  by_test false h l more = ap (λ (n : ℕ). place (slice_set (x ∷ rest) n (closed c)) conn) (one_suc (place rest c)) ∙ by_conn (is_open_as conn x) (more (less (place rest c) (length rest) l))

left_one : (table : List Connection) (c conn : ℕ) → place table c < length table → open_in table c ≤ 1 → 1 ≤ open_in (slice_set table (place table c) (closed c)) conn → Left table (slice_set table (place table c) (closed c)) conn
unfolding id_of
left_one table c conn l alone there = record { was = enough (open_in (slice_set table (place table c) (closed c)) conn) (once (c == conn)) (open_in table conn) (closed_once table c conn l) there; kept = keeps } where
  enough : (a b n : ℕ) → a + b ≡ n → 1 ≤ a → 1 ≤ n
  enough a b n e h = omega arith

  clash : (a n : ℕ) → a + 1 ≡ n → 1 ≤ a → n ≤ 1 → ⊥
  clash a n e h k = omega arith

  apart : (b : Bool) → (c == conn) ≡ b → b ≡ false
  apart false h = refl
  apart true h = absurd (clash (open_in (slice_set table (place table c) (closed c)) conn) (open_in table conn) (ap (λ (b : Bool). open_in (slice_set table (place table c) (closed c)) conn + once b) (sym h) ∙ closed_once table c conn l) there (subst (λ (k : ℕ). open_in table k ≤ 1) (number_is c conn h) alone))

  keeps : (n : ℕ) → id_of table conn ≡ Some n → id_of (slice_set table (place table c) (closed c)) conn ≡ Some n
  keeps n e =
      let m = with_id table conn (ap is_some e) in
      let same = place_left table c conn (apart (c == conn) refl) l in
      ap (option_map (λ place. FIRST_ID + place)) (is_placed (slice_set table (place table c) (closed c)) conn (less (place (slice_set table (place table c) (closed c)) conn) (place table conn) (length (slice_set table (place table c) (closed c))) (length table) same (closed_length table (place table c) (closed c)) m) ∙ ap (λ (k : ℕ). Some k) same ∙ sym (is_placed table conn m)) ∙ e
    where
      less : (a b m n : ℕ) → a ≡ b → m ≡ n → b < n → a < m
      less a b m n e f l = omega arith

-- the table after a connection is closed
closed_table : (table : List Connection) (c : ℕ) (given : ℕ × List Connection) → place table c < length table → of_ids (close_of table c) ≡ Ok given → given.1 ≡ slice_set table (place table c) (closed c)
unfolding close_of
closed_table table c given l e = let is : ◌≡◌ {A = Result (ℕ × List Connection) EndError} (Ok (FIRST_ID + place table c, slice_set table (place table c) (closed c))) (Ok given) = sym (ap (λ (o : Option ℕ). of_ids (close_at table c o)) (is_placed table c l)) ∙ e in sym (ap (λ (g : ℕ × List Connection). g.1) (one_of is)) where
  one_of : {x y : ℕ × List Connection} → ◌≡◌ {A = Result (ℕ × List Connection) EndError} (Ok x) (Ok y) → x ≡ y
  one_of e = cc

-- ---- one connection is closed

abbrev NoneDialed : Result (List Step × HostState) EndError → Type 0
NoneDialed (Ok done) = NoDials done.0
NoneDialed (Err e) = Unit {0}

close_quiet : (host : HostState) (end conn : ℕ) → NoneDialed (host_close host end conn)
unfolding host_close
close_quiet host end conn = by_found (find (carries end conn) host.links) where
  by_state : (item : Frame × Weight) (link : Link) (state : LinkState) → NoneDialed (stepped (elim state as (λ x. Stepped) [
    | states.Up sock probed ↦ Ok (frame_step sock item ∷ [], with_link link host)
    | _ ↦ Ok ([], with_link (record link { waits = link.waits ++ item ∷ [] }) host)
  ]))
  by_state item link (states.Up sock probed) = tt
  by_state item link (states.Dialing sock) = tt
  by_state item link states.AwaitOther = tt
  by_state item link states.Idle = tt

  by_ids : (link : Link) (r : Result (ℕ × List Connection) EndError) → NoneDialed (r >>= (λ closed. stepped (puts (frames.Closed closed.0, Free) (record link { given = closed.1 }) host)))
  by_ids link (Ok given) = by_state (frames.Closed given.0, Free) (record link { given = given.1 }) link.state
  by_ids link (Err e) = tt

  by_found : (o : Option Link) → NoneDialed (found_or o >>= (λ link. of_ids (close_of link.given conn) >>= (λ closed. stepped (puts (frames.Closed closed.0, Free) (record link { given = closed.1 }) host))))
  by_found None = tt
  by_found (Some link) = by_ids link (of_ids (close_of link.given conn))

-- what a host does that closes connections
pub record Closing (own : ℕ → Address) (host : HostState) (told : List Step) (after : HostState) : Type 0 where
  pub new : ℕ → Address → List Placed
  pub utters : Utters host told after new
  pub silent : (e : ℕ) (p : Address) → words_in (new e p) ≡ []
  pub placed : (e : ℕ) (p : Address) → ArePlaced (new e p)
  pub quiet : NoDials told
  pub left : (e : ℕ) (p : Address) (conn : ℕ) → 1 ≤ given_so after e conn p → Left (given_at host e p) (given_at after e p) conn

closes_none : (own : ℕ → Address) (host : HostState) → Closing own host [] host
closes_none own host = record { new = λ e p. []; utters = utters_none host [] host (λ e p. refl) (λ n. refl); silent = λ e p. refl; placed = λ e p. tt; quiet = tt; left = λ e p conn there. record { was = there; kept = λ n e. e } }

module _ (own : ℕ → Address) (host : HostState) (end conn : ℕ) (told : List Step) (after : HostState) (o : IsOrderly own host) (named : IsNaming host) (apart : LinksApart host.links) (alone : (p : Address) → given_so host end conn p ≤ 1) (is : host_close host end conn ≡ Ok (told, after)) where
  c : Closes {E = EndError} host end conn (Ok (told, after))
  c = subst (λ (r : Result (List Step × HostState) EndError). Closes host end conn r) is (adds.closed own host end conn o)

  abbrev link : Link
  link = c.0

  on : IsCarried host end conn link
  on = carried host end conn link apart c.1.found

  put : Puts host link.end link.peer ((frames.Closed c.2.0, None) ∷ []) told after
  put = subst (λ (r : Result (List Step × HostState) EndError). AllPut host link.end link.peer ((frames.Closed c.2.0, None) ∷ []) r) is (close_puts host end conn link c.2 c.1.found c.1.own_link c.3)

  table_is : given_at after link.end link.peer ≡ slice_set link.given (place link.given conn) (closed conn)
  table_is = c.4.given ∙ closed_table link.given conn c.2 on.placed c.3

  own_alone : open_in link.given conn ≤ 1
  own_alone = subst (λ (l : Link). open_in l.given conn ≤ 1) (ap (λ (n : ℕ). link_with host n link.peer) (sym on.end_is) ∙ on.is_there) (alone link.peer)

  left_there : (k : ℕ) → 1 ≤ given_so after link.end k link.peer → Left (given_at host link.end link.peer) (given_at after link.end link.peer) k
  left_there k there = subst (λ (t : List Connection). Left t (given_at after link.end link.peer) k) (ap (λ (l : Link). l.given) (sym on.is_there)) (subst (λ (t : List Connection). Left link.given t k) (sym table_is) (left_one link.given conn k on.placed own_alone (subst (λ (t : List Connection). 1 ≤ open_in t k) table_is there)))

  left_at : (e : ℕ) (p : Address) (k : ℕ) → 1 ≤ given_so after e k p → Left (given_at host e p) (given_at after e p) k
  left_at e p k = by_key (is_key link.end link.peer e p) refl where
    by_key : (b : Bool) → is_key link.end link.peer e p ≡ b → 1 ≤ given_so after e k p → Left (given_at host e p) (given_at after e p) k
    by_key true h there = at_key (λ (n : ℕ) (a : Address). 1 ≤ given_so after n k a → Left (given_at host n a) (given_at after n a) k) link.end link.peer e p h (left_there k) there
    by_key false h there = let same = put.others e p h in record { was = subst (λ (l : Link). 1 ≤ open_in l.given k) same there; kept = λ n i. ap (λ (l : Link). id_of l.given k) same ∙ i }

  closes_one : Closing own host told after
  closes_one = record {
    new = only_on link.end link.peer ((frames.Closed c.2.0, None) ∷ []);
    utters = puts_utters host link.end link.peer ((frames.Closed c.2.0, None) ∷ []) told after named c.4.spelled put;
    silent = λ e p. silent_by (is_key link.end link.peer e p);
    placed = λ e p. placed_by (is_key link.end link.peer e p);
    quiet = subst NoneDialed is (close_quiet host end conn);
    left = left_at;
  } where
    silent_by : (b : Bool) → words_in (cond b ((frames.Closed c.2.0, None) ∷ []) []) ≡ []
    silent_by true = refl
    silent_by false = refl

    placed_by : (b : Bool) → ArePlaced (cond b ((frames.Closed c.2.0, None) ∷ []) [])
    placed_by true = (refl, tt)
    placed_by false = tt

  orderly_after : IsOrderly own after
  orderly_after = (subst (AllWrite own (due_at host)) is (writes.closed_conn own host end conn o)).orderly

  named_after : IsNaming after
  named_after = (subst (λ (r : Result (List Step × HostState) EndError). naming.AllNaming host r) is (naming.close_naming host end conn) named).naming

-- ---- one after another

none_both : (xs ys : List Step) → NoDials xs → NoDials ys → NoDials (xs ++ ys)
none_both [] ys a b = b
none_both (steps.Dial sock end peer ∷ xs) ys a b = absurd a
none_both (step ∷ xs) ys a b = none_both xs ys a b

placed_both : (xs ys : List Placed) → ArePlaced xs → ArePlaced ys → ArePlaced (xs ++ ys)
placed_both [] ys a b = b
placed_both (x ∷ xs) ys a b = (a.0, placed_both xs ys a.1 b)

closes_then : (own : ℕ → Address) (host mid after : HostState) (told more : List Step) → Closing own host told mid → Closing own mid more after → Closing own host (told ++ more) after
closes_then own host mid after told more a b = record {
  new = λ e p. a.new e p ++ b.new e p;
  utters = utters_then host mid after told more a.new b.new a.utters b.utters;
  silent = λ e p. words_append (a.new e p) (b.new e p) ∙ ap (λ (l : List Word). l ++ words_in (b.new e p)) (a.silent e p) ∙ b.silent e p;
  placed = λ e p. placed_both (a.new e p) (b.new e p) (a.placed e p) (b.placed e p);
  quiet = none_both told more a.quiet b.quiet;
  left = λ e p conn there. let two = b.left e p conn there in let one = a.left e p conn two.was in record { was = one.was; kept = λ n i. two.kept n (one.kept n i) };
}

pub record ClosesAll (own : ℕ → Address) (c : Cell) (told : List LocalEntry) (after : Cell) : Type 0 where
  pub closing : Closing own c.host (steps_in told) after.host
  pub steps : List Step
  pub told_is : told ≡ told_steps steps
  pub nodes : after.nodes ≡ c.nodes

-- so it is of these, whatever the cell is
abbrev ClosesSo : (ℕ → Address) → ℕ → List ℕ → Sender → Type 0
ClosesSo own end conns s = (c : Cell) (told : List LocalEntry) (after : Cell) → IsOrderly own c.host → IsNaming c.host → LinksApart c.host.links → FitsAs false c.host end (map (λ conn. acts.Close conn) conns) s → ActsTaken end (map (λ conn. acts.Close conn) conns) c
    → acts_on end (map (λ conn. acts.Close conn) conns) c ≡ Ok (told, after) → ClosesAll own c told after

closes_more : (own : ℕ → Address) (end conn : ℕ) (conns : List ℕ) (s : Sender) → ClosesSo own end conns s → ClosesSo own end (conn ∷ conns) s
closes_more own end conn conns s go c told after o named apart fits taken e = record {
  closing = subst (λ (l : List Step). Closing own c.host l after.host) (sym one.steps) (closes_then own c.host one.done.1 after.host one.done.0 (steps_in one.more) (closes_one own c.host end conn one.done.0 one.done.1 o named apart (λ p. fits.1.alone conn p) one.is) more.closing);
  steps = one.done.0 ++ more.steps;
  told_is = one.told_is ∙ ap (λ (l : List LocalEntry). told_steps one.done.0 ++ l) more.told_is ∙ sym (told_append one.done.0 more.steps);
  nodes = more.nodes;
} where
  rest : List Act
  rest = map (λ conn. acts.Close conn) conns

  one : Next (host_close c.host end conn) end rest c told after
  one = asked_next (host_close c.host end conn) end rest c told after taken.0 e

  fit : Moves end c.host one.done.1 × FitsAs false one.done.1 end rest s
  fit = fits_after (host_close c.host end conn) end c rest s one.done one.is (act_fits false end (acts.Close conn) rest s c apart fits)

  more : ClosesAll own (record c { host = one.done.1 }) one.more after
  more = go (record c { host = one.done.1 }) one.more after (orderly_after own c.host end conn one.done.0 one.done.1 o named apart (λ p. fits.1.alone conn p) one.is) (named_after own c.host end conn one.done.0 one.done.1 o named apart (λ p. fits.1.alone conn p) one.is)
      (fit.0.apart apart) fit.1 (taken_after (host_close c.host end conn) c one.done (λ next. ActsTaken end rest next) one.is taken.1) one.left

pub closes_all : (own : ℕ → Address) (end : ℕ) (conns : List ℕ) (s : Sender) (c : Cell) (told : List LocalEntry) (after : Cell) → IsOrderly own c.host → IsNaming c.host → LinksApart c.host.links → FitsAs false c.host end (map (λ conn. acts.Close conn) conns) s → ActsTaken end (map (λ conn. acts.Close conn) conns) c
    → acts_on end (map (λ conn. acts.Close conn) conns) c ≡ Ok (told, after) → ClosesAll own c told after
closes_all own end [] s c told after o named apart fits taken e = let last : ◌≡◌ {A = Done} ([], c) (told, after) = pair_is e in
    subst (λ (d : Done). ClosesAll own c d.0 d.1) last (record { closing = closes_none own c.host; steps = []; told_is = refl; nodes = refl })
closes_all own end (conn ∷ conns) s c told after o named apart fits taken e = closes_more own end conn conns s (closes_all own end conns s) c told after o named apart fits taken e
