-- An endpoint that is closed has nothing given, and all others are as before.
use Rattle.std.proofs.Common.{◌≡◌, ℕ, Bool, true, false, cond, ◌&&◌, ◌||◌, List, [], ◌∷◌, Ok, Err, refl, sym, ap, ◌∙◌, subst}
use Rattle.std.specs.List.{list_any}
use Rattle.std.specs.Prelude.{find, ◌==◌, Option, Some, None, Result}
use Rattle.ch_base.specs.declared.address.Address.{Address}
use Rattle.ch_base.specs.declared.event.Event.TheVariants as events
use Rattle.ch_base.specs.declared.memory.Stop.{Stop}
use Rattle.ch_light.specs.declared.Connection.{Connection}
use Rattle.ch_link.specs.Table.{step_of}
use Rattle.ch_link.specs.declared.LinkAct.{LinkAct}
use Rattle.ch_link.specs.declared.LinkAct.TheVariants as acts
use Rattle.ch_link.specs.declared.LinkIn.TheVariants as inputs
use Rattle.ch_link.specs.declared.LinkState.{LinkState}
use Rattle.ch_link.specs.declared.LinkState.TheVariants as states
use Rattle.ch_watch.specs.Same.{same_node}
use Rattle.ch_model.specs.declared.step.EndError.{EndError}
use Rattle.ch_model.specs.declared.step.EndError.TheVariants as errors
use Rattle.ch_model.specs.declared.step.Step.{Step}
use Rattle.ch_model.specs.Greater.{is_greater}
use Rattle.ch_model.specs.HostCalls.{◌>>=◌, stepped, end_stop, shuts_links, closes_endpoint, host_close_endpoint}
use Rattle.ch_model.specs.HostItems.{posts}
use Rattle.ch_model.specs.HostLinks.{says_closed, does_act, hears}
use Rattle.ch_model.specs.HostState.{Endpoint, Link, HostState}
use Rattle.ch_model.specs.HostSteps.{Stepped, still, after_steps, ◌then◌, is_endpoint, is_open_endpoint, store_endpoint, own_address, is_link, link_or_new, link_with, with_link}
use Rattle.ch_model.specs.HostWrites.{leaves_off, forgotten, ended_in}
use Rattle.ch_laws_items.specs.Stays.{numbers_of}
use Rattle.ch_laws_log.proofs.Stored.{number_is, number_same}
use Rattle.ch_laws_connections.specs.Tables.{given_at, LinksApart, is_standing}
use Rattle.ch_laws_connections.specs.Fits.{AllDiffer}
use Rattle.ch_laws_connections.proofs.Keys.{given_stored, stored_apart, with_key}
use Rattle.ch_laws_connections.proofs.HostLinks.{Quiet, LosesNone, AllQuiet, none_both, closed_said, left_off}
use Rattle.ch_laws_connections.proofs.HostLinks as quiet

-- nothing is given any more on the links that are of one use with these, of the endpoint; and the endpoints are the same
pub record Empties (end : ℕ) (links : List Link) (before after : HostState) : Type 0 where
  pub given : (peer : Address) → given_at after end peer ≡ cond (list_any (is_link end peer) links) [] (given_at before end peer)
  pub others : (e : ℕ) (peer : Address) → (end == e) ≡ false → given_at after e peer ≡ given_at before e peer
  pub apart : LinksApart before.links → LinksApart after.links
  pub ends : after.ends ≡ before.ends

abbrev pub AllEmpty : ℕ → List Link → HostState → Stepped → Type 0
AllEmpty end links host (Ok done) = Empties end links host done.1 × LosesNone done.0
AllEmpty end links host (Err stop) = Unit {0}

-- quiet, and the endpoints are the same
abbrev AllSame : HostState → Stepped → Type 0
AllSame host (Ok done) = Quiet host done.1 × LosesNone done.0 × (done.1.ends ≡ host.ends)
AllSame host (Err stop) = Unit {0}

ended_ends : (o : Option Rattle.ch_model.specs.HostState.Socket) (host : HostState) → (ended_in o host).ends ≡ host.ends
ended_ends None host = refl
ended_ends (Some socket) host = refl

said_same : (state : LinkState) (host : HostState) → AllSame host (says_closed state host)
said_same (states.Up sock probed) host = (quiet.at_rest host, (λ e p. refl), refl)
said_same (states.Dialing sock) host = (quiet.at_rest host, (λ e p. refl), refl)
said_same states.Idle host = (quiet.at_rest host, (λ e p. refl), refl)
said_same states.AwaitOther host = (quiet.at_rest host, (λ e p. refl), refl)

left_same : (state : LinkState) (host : HostState) → AllSame host (leaves_off state host)
left_same (states.Up sock probed) host = (quiet.ends sock host, (λ e p. refl), ended_ends _ host)
left_same (states.Dialing sock) host = (quiet.ends sock host, (λ e p. refl), ended_ends _ host)
left_same states.Idle host = (quiet.at_rest host, (λ e p. refl), refl)
left_same states.AwaitOther host = (quiet.at_rest host, (λ e p. refl), refl)

chained : (host : HostState) (done : Stepped) (f : HostState → Stepped) → AllSame host done → ((next : HostState) → AllSame next (f next)) → AllSame host (done then f)
chained host (Ok done) f a g = from (f done.1) (g done.1) where
  from : (more : Stepped) → AllSame done.1 more → AllSame host (after_steps done.0 more)
  from (Ok more) b = (quiet.onward host done.1 more.1 a.0 b.0, none_both done.0 more.0 a.1 b.1, b.2 ∙ a.2)
  from (Err stop) b = tt
chained host (Err stop) f a g = tt

-- a link of the endpoint is emptied
emptied : (end : ℕ) (link known : Link) (state : LinkState) (before host : HostState) → link.end ≡ end → link.peer ≡ known.peer → (known.end == end) ≡ true → Quiet before host → host.ends ≡ before.ends → Empties end (known ∷ []) before (with_link (forgotten link state) host)
emptied end link known state before host is it at q same = record {
  given = λ p. given_stored (forgotten link state) host end p ∙ ap (cond (is_link end p link) []) (q.given end p) ∙ ap (λ b. cond b [] (given_at before end p)) (alike p);
  others = λ e p h. given_stored (forgotten link state) host e p ∙ ap (λ b. cond b [] (given_at host e p)) (ap (λ (n : ℕ). (n == e) && same_node link.peer p) is ∙ ap (λ b. b && same_node link.peer p) h) ∙ q.given e p;
  apart = λ a. stored_apart (forgotten link state) host.links (q.apart a);
  ends = same;
} where
  or_false : (x : Bool) → x ≡ (x || false)
  or_false true = refl
  or_false false = refl

  alike : (p : Address) → is_link end p link ≡ (is_link end p known || false)
  alike p = ap (λ (n : ℕ). (n == end) && same_node link.peer p) is ∙ ap (λ b. b && same_node link.peer p) (number_same end) ∙ ap (λ (a : Address). same_node a p) it ∙ sym (ap (λ b. b && same_node known.peer p) at) ∙ or_false (is_link end p known)

closes_so : (state : LinkState) (greater : Bool) → (step_of state inputs.Shut greater).1 ≡ acts.Close
unfolding step_of
closes_so states.Idle greater = refl
closes_so state greater = refl

shut_one : (end : ℕ) (known : Link) (host : HostState) → (known.end == end) ≡ true → AllEmpty end (known ∷ []) host (hears inputs.Shut (link_with host end known.peer) host)
shut_one end known host at = by_told (step_of link.state inputs.Shut (is_greater (own_address host link.end) link.peer)) (closes_so link.state (is_greater (own_address host link.end) link.peer)) where
  link : Link
  link = link_with host end known.peer

  key : (link.end ≡ end) × (link.peer ≡ known.peer)
  key = with_key host end known.peer

  kept : (state : LinkState) → Quiet host (with_link (record link { state = state }) host)
  kept state = quiet.stored_quiet (record link { state = state }) host (Rattle.ch_laws_connections.proofs.HostItems.of_found host end known.peer)

  forgets : (state : LinkState) (done : Stepped) → AllSame (with_link (record link { state = state }) host) done → AllEmpty end (known ∷ []) host (done then (λ left. still (with_link (forgotten (record link { state = state }) state) left)))
  forgets state (Ok done) s = (emptied end (record link { state = state }) known state host done.1 key.0 key.1 at (quiet.onward host (with_link (record link { state = state }) host) done.1 (kept state) s.0) s.2, none_both done.0 [] s.1 (λ e p. refl))
  forgets state (Err stop) s = tt

  by_told : (told : LinkState × LinkAct) → told.1 ≡ acts.Close → AllEmpty end (known ∷ []) host (does_act told.1 link.state inputs.Shut (record link { state = told.0 }) (with_link (record link { state = told.0 }) host))
  by_told told e = subst (λ (a : LinkAct). AllEmpty end (known ∷ []) host (does_act a link.state inputs.Shut (record link { state = told.0 }) (with_link (record link { state = told.0 }) host))) (sym e)
      (forgets told.0 (says_closed link.state (with_link (record link { state = told.0 }) host) then leaves_off link.state)
      (chained (with_link (record link { state = told.0 }) host) (says_closed link.state (with_link (record link { state = told.0 }) host)) (leaves_off link.state) (said_same link.state (with_link (record link { state = told.0 }) host)) (left_same link.state)))

-- all links of the endpoint
pub shut_all : (end : ℕ) (links : List Link) (host : HostState) → AllEmpty end links host (shuts_links end links host)
shut_all end [] host = (record { given = λ p. refl; others = λ e p h. refl; apart = λ a. a; ends = refl }, λ e p. refl)
shut_all end (link ∷ rest) host = by_test (link.end == end) refl (shut_all end rest) where
  both : (first : List Step × HostState) → Empties end (link ∷ []) host first.1 → LosesNone first.0 → (more : Stepped) → AllEmpty end rest first.1 more → AllEmpty end (link ∷ rest) host (after_steps first.0 more)
  both first a n (Ok more) b = (
    record {
      given = λ p. b.0.given p ∙ ap (cond (list_any (is_link end p) rest) []) (a.given p) ∙ sum (is_link end p link) (list_any (is_link end p) rest) (given_at host end p);
      others = λ e p h. b.0.others e p h ∙ a.others e p h;
      apart = λ l. b.0.apart (a.apart l);
      ends = b.0.ends ∙ a.ends;
    },
    none_both first.0 more.0 n b.1,
  ) where
    sum : (x y : Bool) (l : List Connection) → cond y [] (cond (x || false) [] l) ≡ cond (x || y) [] l
    sum true true l = refl
    sum true false l = refl
    sum false true l = refl
    sum false false l = refl
  both first a n (Err stop) b = tt

  by_first : (first : Stepped) → AllEmpty end (link ∷ []) host first → ((next : HostState) → AllEmpty end rest next (shuts_links end rest next)) → AllEmpty end (link ∷ rest) host (first then shuts_links end rest)
  by_first (Ok first) a more = both first a.0 a.1 (shuts_links end rest first.1) (more first.1)
  by_first (Err stop) a more = tt

  other_end : (link.end == end) ≡ false → Empties end (link ∷ []) host host
  other_end h = record { given = λ p. sym (ap (λ b. cond ((b && same_node link.peer p) || false) [] (given_at host end p)) h); others = λ e p h. refl; apart = λ a. a; ends = refl }

  by_test : (b : Bool) → (link.end == end) ≡ b → ((next : HostState) → AllEmpty end rest next (shuts_links end rest next)) → AllEmpty end (link ∷ rest) host (cond b (hears inputs.Shut (link_with host end link.peer) host) (still host) then shuts_links end rest)
  by_test true h more = by_first (hears inputs.Shut (link_with host end link.peer) host) (shut_one end link host h) more
  by_test false h more = by_first (still host) (other_end h, λ e p. refl) more

-- ---- the endpoint is closed

-- an endpoint that is stored as closed isn't open, where no two have one number
closed_one : (next : Endpoint) (ends : List Endpoint) → AllDiffer (numbers_of ends) → next.is_open ≡ false → list_any (is_endpoint next.number) ends ≡ true → list_any (is_open_endpoint next.number) (store_endpoint next ends) ≡ false
closed_one next [] d c there = absurd cc
closed_one next (known ∷ rest) d c there = by_test (is_endpoint next.number known) refl there (closed_one next rest d.1 c) where
  none_open : (n : ℕ) (l : List Endpoint) → list_any (λ m. m == n) (numbers_of l) ≡ false → list_any (is_open_endpoint n) l ≡ false
  none_open n [] e = refl
  none_open n (x ∷ l) e = by_number (x.number == n) e (none_open n l) where
    by_number : (b : Bool) → (b || list_any (λ m. m == n) (numbers_of l)) ≡ false → (list_any (λ m. m == n) (numbers_of l) ≡ false → list_any (is_open_endpoint n) l ≡ false) → ((b && x.is_open) || list_any (is_open_endpoint n) l) ≡ false
    by_number true e more = absurd cc
    by_number false e more = more e

  shut_self : is_open_endpoint next.number next ≡ false
  shut_self = ap (λ b. (next.number == next.number) && b) c ∙ and_false (next.number == next.number) where
    and_false : (b : Bool) → (b && false) ≡ false
    and_false true = refl
    and_false false = refl

  by_test : (b : Bool) → is_endpoint next.number known ≡ b → (b || list_any (is_endpoint next.number) rest) ≡ true → (list_any (is_endpoint next.number) rest ≡ true → list_any (is_open_endpoint next.number) (store_endpoint next rest) ≡ false)
      → list_any (is_open_endpoint next.number) (cond b (next ∷ rest) (known ∷ store_endpoint next rest)) ≡ false
  by_test true h there more = ap (λ x. x || list_any (is_open_endpoint next.number) rest) shut_self ∙ none_open next.number rest (subst (λ (n : ℕ). list_any (λ m. m == n) (numbers_of rest) ≡ false) (number_is known.number next.number h) d.0)
  by_test false h there more = ap (λ x. (x && known.is_open) || list_any (is_open_endpoint next.number) (store_endpoint next rest)) h ∙ more there

-- another is open as before
other_one : (next : Endpoint) (e : ℕ) (ends : List Endpoint) → (next.number == e) ≡ false → list_any (is_open_endpoint e) (store_endpoint next ends) ≡ list_any (is_open_endpoint e) ends
other_one next e [] h = refl
other_one next e (known ∷ rest) h = by_test (is_endpoint next.number known) refl (other_one next e rest h) where
  by_test : (b : Bool) → is_endpoint next.number known ≡ b → list_any (is_open_endpoint e) (store_endpoint next rest) ≡ list_any (is_open_endpoint e) rest → list_any (is_open_endpoint e) (cond b (next ∷ rest) (known ∷ store_endpoint next rest)) ≡ (is_open_endpoint e known || list_any (is_open_endpoint e) rest)
  by_test true g more = ap (λ x. (x && next.is_open) || list_any (is_open_endpoint e) rest) h ∙ sym (ap (λ x. (x && known.is_open) || list_any (is_open_endpoint e) rest) (ap (λ (n : ℕ). n == e) (number_is known.number next.number g) ∙ h))
  by_test false g more = ap (λ x. is_open_endpoint e known || x) more

-- what an endpoint that is closed leaves
pub record Darkens (end : ℕ) (before after : HostState) : Type 0 where
  pub closed : is_standing after end ≡ false
  pub given : (peer : Address) → given_at after end peer ≡ []
  pub others : (e : ℕ) (peer : Address) → (end == e) ≡ false → given_at after e peer ≡ given_at before e peer
  pub ends : (e : ℕ) → (end == e) ≡ false → is_standing after e ≡ is_standing before e
  pub apart : LinksApart before.links → LinksApart after.links

closes_end : (end : ℕ) (before host : HostState) → Empties end before.links before host → AllDiffer (numbers_of before.ends) → is_standing before end ≡ true → Darkens end before (closes_endpoint (find (is_endpoint end) host.ends) host)
closes_end end before host m d standing = by_found (find (is_endpoint end) host.ends) refl where
  nothing_given : (peer : Address) → given_at host end peer ≡ []
  nothing_given peer = m.given peer ∙ by_links before.links where
    by_links : (links : List Link) → cond (list_any (is_link end peer) links) [] (link_or_new end peer (find (is_link end peer) links)).given ≡ []
    by_links [] = refl
    by_links (x ∷ l) = by_test (is_link end peer x) (by_links l) where
      by_test : (b : Bool) → cond (list_any (is_link end peer) l) [] (link_or_new end peer (find (is_link end peer) l)).given ≡ [] → cond (b || list_any (is_link end peer) l) [] (link_or_new end peer (cond b (Some x) (find (is_link end peer) l))).given ≡ []
      by_test true e = refl
      by_test false e = e

  there : (l : List Endpoint) → list_any (is_open_endpoint end) l ≡ true → list_any (is_endpoint end) l ≡ true
  there [] e = e
  there (x ∷ l) e = by_test (x.number == end) x.is_open e (there l) where
    by_test : (a b : Bool) → ((a && b) || list_any (is_open_endpoint end) l) ≡ true → (list_any (is_open_endpoint end) l ≡ true → list_any (is_endpoint end) l ≡ true) → (a || list_any (is_endpoint end) l) ≡ true
    by_test true b e more = refl
    by_test false b e more = more e

  has_end : list_any (is_endpoint end) host.ends ≡ true
  has_end = ap (list_any (is_endpoint end)) m.ends ∙ there before.ends standing

  none_found : (l : List Endpoint) → find (is_endpoint end) l ≡ None → list_any (is_endpoint end) l ≡ false
  none_found [] e = refl
  none_found (x ∷ l) e = by_test (is_endpoint end x) e (none_found l) where
    by_test : (b : Bool) → cond b (Some x) (find (is_endpoint end) l) ≡ None → (find (is_endpoint end) l ≡ None → list_any (is_endpoint end) l ≡ false) → (b || list_any (is_endpoint end) l) ≡ false
    by_test true e more = absurd cc
    by_test false e more = more e

  number_found : (l : List Endpoint) (known : Endpoint) → find (is_endpoint end) l ≡ Some known → known.number ≡ end
  number_found [] known e = absurd cc
  number_found (x ∷ l) known e = by_test (is_endpoint end x) refl e (number_found l known) where
    by_test : (t : Bool) → is_endpoint end x ≡ t → cond t (Some x) (find (is_endpoint end) l) ≡ Some known → (find (is_endpoint end) l ≡ Some known → known.number ≡ end) → known.number ≡ end
    by_test true h e more = let this : x ≡ known = cc in ap (λ (y : Endpoint). y.number) (sym this) ∙ number_is x.number end h
    by_test false h e more = more e

  by_found : (o : Option Endpoint) → find (is_endpoint end) host.ends ≡ o → Darkens end before (closes_endpoint o host)
  by_found None e = let never : false ≡ true = sym (none_found host.ends e) ∙ has_end in absurd cc
  by_found (Some endpoint) e =
      let is = number_found host.ends endpoint e in
      let shut : Endpoint = record endpoint { is_open = false } in
      record {
        closed = ap (λ (n : ℕ). list_any (is_open_endpoint n) (store_endpoint shut host.ends)) (sym is) ∙ closed_one shut host.ends (subst (λ (l : List Endpoint). AllDiffer (numbers_of l)) (sym m.ends) d) refl (ap (λ (n : ℕ). list_any (is_endpoint n) host.ends) is ∙ has_end);
        given = nothing_given;
        others = m.others;
        ends = λ n h. other_one shut n host.ends (ap (λ (k : ℕ). k == n) is ∙ h) ∙ ap (list_any (is_open_endpoint n)) m.ends;
        apart = m.apart;
      }

-- the endpoint is closed, and the node told at last; or a count was worn
abbrev pub AllDark : ℕ → HostState → Result (List Step × HostState) EndError → Type 0
AllDark end host (Ok done) = Darkens end host done.1 × LosesNone done.0
AllDark end host (Err errors.Worn) = Unit {0}
AllDark end host (Err errors.OutOfMemory) = Unit {0}
AllDark end host (Err e) = ⊥

pub closes_all : (host : HostState) (end : ℕ) → AllDiffer (numbers_of host.ends) → is_standing host end ≡ true → AllDark end host (host_close_endpoint host end)
unfolding host_close_endpoint
closes_all host end d standing = by_open (is_standing host end) standing where
  told : HostState → Stepped
  told shut = posts end events.EndPointClosed (closes_endpoint (find (is_endpoint end) shut.ends) shut)

  worn : (stop : Stop) → AllDark end host (Err (end_stop stop))
  worn Rattle.ch_base.specs.declared.memory.Stop.TheVariants.OutOfMemory = tt
  worn Rattle.ch_base.specs.declared.memory.Stop.TheVariants.Worn = tt

  by_done : (done : Stepped) → AllEmpty end host.links host done → AllDark end host (stepped (done then told))
  by_done (Ok done) m = (closes_end end host done.1 m.0 d standing, none_both done.0 _ m.1 (λ e p. refl))
  by_done (Err stop) m = worn stop

  by_open : (b : Bool) → b ≡ true → AllDark end host (cond b (Ok end) (Err errors.NoEndPoint) >>= (λ standing. stepped (shuts_links end host.links host then told)))
  by_open true e = by_done (shuts_links end host.links host) (shut_all end host.links host)
  by_open false e = absurd cc
