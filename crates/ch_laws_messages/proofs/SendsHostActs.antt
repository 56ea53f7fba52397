-- What an endpoint's calls make of its host: what waits is weighed as it was put, and each connection that is opened gets an id more.
use Rattle.std.proofs.Common.{◌≡◌, ◌≤◌, ℕ, suc, ◌+◌, ◌==◌, Bool, true, false, cond, ◌&&◌, List, [], ◌∷◌, ◌++◌, length, Ok, Err, refl, sym, ap, ◌∙◌, subst, arith}
use Rattle.std.proofs.lemmas.Bool.Decides.{nat_tests}
use Rattle.std.specs.Prelude.{find, nat_le, slice_set, Result, Option, Some, None}
use Rattle.ch_base.specs.declared.address.Address.{Address}
use Rattle.ch_wire.specs.declared.frame.Frame.{Frame}
use Rattle.ch_wire.specs.declared.frame.Frame.TheVariants as frames
use Rattle.ch_light.specs.Ids.{opened, closed, id_of, give_of, close_of}
use Rattle.ch_light.specs.declared.Connection.{Connection}
use Rattle.ch_light.specs.declared.error.LightError.{LightError}
use Rattle.ch_light.specs.declared.error.LightError.TheVariants as lights
use Rattle.ch_light.specs.declared.TheConstants.{FIRST_ID, MOST_IDS}
use Rattle.ch_link.specs.declared.LinkIn.TheVariants as inputs
use Rattle.ch_link.specs.declared.LinkState.{LinkState}
use Rattle.ch_link.specs.declared.LinkState.TheVariants as states
use Rattle.ch_watch.specs.Same.{same_node}
use Rattle.ch_model.specs.declared.step.EndError.{EndError}
use Rattle.ch_model.specs.declared.step.EndError.TheVariants as errors
use Rattle.ch_model.specs.declared.step.Step.{Step}
use Rattle.ch_model.specs.declared.step.Weight.{Weight}
use Rattle.ch_model.specs.declared.step.Weight.TheVariants.{Free}
use Rattle.ch_model.specs.HostCalls.{◌>>=◌, stepped, of_ids, open_endpoint, puts_and_wants, wants, host_connect, carries, found_or, short_enough, has_room, host_send, host_close}
use Rattle.ch_model.specs.HostLinks.{next_dial}
use Rattle.ch_model.specs.HostState.{Link, HostState}
use Rattle.ch_model.specs.HostSteps.{Stepped, after_steps, ◌then◌, is_link, link_with, with_link}
use Rattle.ch_model.specs.HostWrites.{frame_step, puts}
use Rattle.ch_laws_connections.specs.Tables.{given_at, LinksApart, is_standing}
use Rattle.ch_laws_connections.proofs.GivenIn.{place, closed_length}
use Rattle.ch_laws_connections.proofs.HostCalls.{Sets, IsTaken, SetsFree, with_opened, connected, QuietOrRefused, sent, with_closed, Closes, ClosesAll, closed_conn}
use Rattle.ch_laws_connections.proofs.Keys.{with_key, link_key}
use Rattle.ch_laws_messages.specs.SendsSends.{IsWeighed, AreWeighed, LinksWeighed}
use Rattle.ch_laws_messages.proofs.SendsHosts.{link_stored, waits_weighed, found_weighed, AllWell, heard}

-- ---- what is put

weighed_last : (waits : List (Frame × Weight)) (wait : Frame × Weight) → AreWeighed waits → IsWeighed wait.1 → AreWeighed (waits ++ wait ∷ [])
weighed_last [] wait w one = (one, tt)
weighed_last (known ∷ rest) wait w one = (w.0, weighed_last rest wait w.1 one)

abbrev StepsWeighed : Stepped → Type 0
StepsWeighed (Ok done) = LinksWeighed done.1.links
StepsWeighed (Err stop) = Unit {0}

puts_weighed : (item : Frame × Weight) (link : Link) (host : HostState) → IsWeighed item.1 → AreWeighed link.waits → LinksWeighed host.links → StepsWeighed (puts item link host)
puts_weighed item link host one w l = by_state link.state where
  by_state : (state : LinkState) → StepsWeighed (elim state as (λ x. Stepped) [
    | states.Up sock probed ↦ Ok (frame_step sock item ∷ [], with_link link host)
    | _ ↦ Ok ([], with_link (record link { waits = link.waits ++ item ∷ [] }) host)
  ])
  by_state (states.Up sock probed) = link_stored link host.links w l
  by_state (states.Dialing sock) = link_stored (record link { waits = link.waits ++ item ∷ [] }) host.links (weighed_last link.waits item w one) l
  by_state states.Idle = link_stored (record link { waits = link.waits ++ item ∷ [] }) host.links (weighed_last link.waits item w one) l
  by_state states.AwaitOther = link_stored (record link { waits = link.waits ++ item ∷ [] }) host.links (weighed_last link.waits item w one) l

of_well : (done : Stepped) → AllWell done → StepsWeighed done
of_well (Ok done) w = w.0
of_well (Err stop) w = tt

wanted_weighed : (item : Frame × Weight) (link : Link) (host : HostState) → IsWeighed item.1 → AreWeighed link.waits → LinksWeighed host.links → StepsWeighed (puts_and_wants item link host)
wanted_weighed item link host one w l = by_put (puts item link host) (puts_weighed item link host one w l) where
  by_want : (told : List Step) (more : Stepped) → StepsWeighed more → StepsWeighed (after_steps told more)
  by_want told (Ok more) m = m
  by_want told (Err stop) m = tt

  by_put : (one : Stepped) → StepsWeighed one → StepsWeighed (one then wants link.end link.peer)
  by_put (Ok done) p = by_want done.0 (wants link.end link.peer done.1) (of_well (wants link.end link.peer done.1) (heard (inputs.Want (next_dial done.1)) (link_with done.1 link.end link.peer) done.1 (waits_weighed done.1 link.end link.peer p) p))
  by_put (Err stop) p = tt

-- ---- what is asked

abbrev EndWeighed : Result (List Step × HostState) EndError → Type 0
EndWeighed (Ok done) = LinksWeighed done.1.links
EndWeighed (Err e) = Unit {0}

bound : {A : Type 0} (given : Result A EndError) (f : A → Result (List Step × HostState) EndError) → ((x : A) → EndWeighed (f x)) → EndWeighed (given >>= f)
bound (Ok x) f k = k x
bound (Err e) f k = tt

stepped_weighed : (done : Stepped) → StepsWeighed done → EndWeighed (stepped done)
stepped_weighed (Ok done) w = w
stepped_weighed (Err stop) w = tt

connect_so : (host : HostState) (end : ℕ) (peer : Address) (conn : ℕ) → LinksWeighed host.links → EndWeighed (host_connect host end peer conn)
unfolding host_connect
connect_so host end peer conn l = bound (open_endpoint host end) _ (λ standing. bound (of_ids (give_of (link_with host end peer).given conn)) _ (λ given.
    stepped_weighed (puts_and_wants (frames.Created given.0, Free) (record (link_with host end peer) { given = given.1 }) host) (wanted_weighed (frames.Created given.0, Free) (record (link_with host end peer) { given = given.1 }) host tt (waits_weighed host end peer l) l)))

send_so : (host : HostState) (end conn : ℕ) (payload : List ℕ) (weight : Weight) → IsWeighed weight → LinksWeighed host.links → EndWeighed (host_send host end conn payload weight)
unfolding host_send
send_so host end conn payload weight w l = by_found (find (carries end conn) host.links) refl where
  by_found : (o : Option Link) → find (carries end conn) host.links ≡ o → EndWeighed (found_or o >>= (λ link. short_enough payload >>= (λ short. has_room link weight >>= (λ roomy. found_or (id_of link.given conn) >>= (λ id. stepped (puts_and_wants (frames.Data id short, weight) link host))))))
  by_found None e = tt
  by_found (Some link) e = bound (short_enough payload) _ (λ short. bound (has_room link weight) _ (λ roomy. bound (found_or (id_of link.given conn)) _ (λ id.
      stepped_weighed (puts_and_wants (frames.Data id short, weight) link host) (wanted_weighed (frames.Data id short, weight) link host w (found_weighed (carries end conn) host.links link l e) l))))

close_so : (host : HostState) (end conn : ℕ) → LinksWeighed host.links → EndWeighed (host_close host end conn)
unfolding host_close
close_so host end conn l = by_found (find (carries end conn) host.links) refl where
  by_found : (o : Option Link) → find (carries end conn) host.links ≡ o → EndWeighed (found_or o >>= (λ link. of_ids (close_of link.given conn) >>= (λ closed. stepped (puts (frames.Closed closed.0, Free) (record link { given = closed.1 }) host))))
  by_found None e = tt
  by_found (Some link) e = bound (of_ids (close_of link.given conn)) _ (λ done. stepped_weighed (puts (frames.Closed done.0, Free) (record link { given = done.1 }) host) (puts_weighed (frames.Closed done.0, Free) (record link { given = done.1 }) host tt (found_weighed (carries end conn) host.links link l e) l))

pub connect_weighed : (host after : HostState) (end : ℕ) (peer : Address) (conn : ℕ) (told : List Step) → host_connect host end peer conn ≡ Ok (told, after) → LinksWeighed host.links → LinksWeighed after.links
connect_weighed host after end peer conn told e l = subst EndWeighed e (connect_so host end peer conn l)

pub send_weighed : (host after : HostState) (end conn : ℕ) (payload : List ℕ) (weight : Weight) (told : List Step) → IsWeighed weight → host_send host end conn payload weight ≡ Ok (told, after) → LinksWeighed host.links → LinksWeighed after.links
send_weighed host after end conn payload weight told w e l = subst EndWeighed e (send_so host end conn payload weight w l)

pub close_weighed : (host after : HostState) (end conn : ℕ) (told : List Step) → host_close host end conn ≡ Ok (told, after) → LinksWeighed host.links → LinksWeighed after.links
close_weighed host after end conn told e l = subst EndWeighed e (close_so host end conn l)

-- ---- what is given

abbrev pub and_one : Bool → ℕ → ℕ
and_one true n = suc n
and_one false n = n

-- the endpoint and the peer of a link
abbrev pub is_for : ℕ → Address → ℕ → Address → Bool
is_for end peer e p = (end == e) && same_node peer p

-- as many ids are given as before, on each link
abbrev pub SameGiven : HostState → HostState → Type 0
SameGiven before after = (e : ℕ) (p : Address) → length (given_at after e p) ≡ length (given_at before e p)

-- and one more on this link
abbrev pub OneGiven : ℕ → Address → HostState → HostState → Type 0
OneGiven end peer before after = (e : ℕ) (p : Address) → length (given_at after e p) ≡ and_one (is_for end peer e p) (length (given_at before e p))

last_length : {A : Type 0} (xs : List A) (x : A) → length (xs ++ x ∷ []) ≡ suc (length xs)
last_length [] x = refl
last_length (y ∷ xs) x = ap suc (last_length xs x)

-- the ids after a connection more, unless all are spent
abbrev gave : List Connection → ℕ → Bool → Result (ℕ × List Connection) LightError
gave table conn b = cond b (Err lights.Spent) (Ok (FIRST_ID + length table, table ++ opened conn ∷ []))

connect_sets : (host after : HostState) (end : ℕ) (peer : Address) (conn : ℕ) (told : List Step) → host_connect host end peer conn ≡ Ok (told, after) → Sets (with_opened host end peer conn) host after
unfolding host_connect give_of
connect_sets host after end peer conn told e = by_tests (is_standing host end) refl (nat_le MOST_IDS (length (given_at host end peer))) refl e where
  room : (n : ℕ) → nat_le MOST_IDS n ≡ false → suc n ≤ MOST_IDS
  room n h = grind (arith, nat_tests)

  by_tests : (a : Bool) → is_standing host end ≡ a → (b : Bool) → nat_le MOST_IDS (length (given_at host end peer)) ≡ b → (cond a (Ok end) (Err errors.NoEndPoint) >>= (λ standing. of_ids (gave (given_at host end peer) conn b)
      >>= (λ given. stepped (puts_and_wants (frames.Created given.0, Free) (record (link_with host end peer) { given = given.1 }) host)))) ≡ Ok (told, after) → Sets (with_opened host end peer conn) host after
  by_tests true s false f g = (subst (IsTaken (SetsFree (with_opened host end peer conn) host)) e (connected host end peer conn s (room (length (given_at host end peer)) f))).0
  by_tests true s true f g = absurd cc
  by_tests false s b f g = absurd cc

pub connect_gives : (host after : HostState) (end : ℕ) (peer : Address) (conn : ℕ) (told : List Step) → host_connect host end peer conn ≡ Ok (told, after) → LinksApart host.links → OneGiven end peer host after × LinksApart after.links
connect_gives host after end peer conn told e a = let s = connect_sets host after end peer conn told e in (lengths s, s.apart a) where
  link : Link
  link = with_opened host end peer conn

  lengths : Sets (with_opened host end peer conn) host after → OneGiven end peer host after
  lengths s e p = ap length (s.given e p) ∙ by_test (is_link e p (with_opened host end peer conn)) refl ∙ ap (λ (b : Bool). and_one b (length (given_at host e p))) key where
    key : is_link e p (with_opened host end peer conn) ≡ is_for end peer e p
    key = let k = with_key host end peer in ap (λ (n : ℕ). (n == e) && same_node (link_with host end peer).peer p) k.0 ∙ ap (λ (q : Address). (end == e) && same_node q p) k.1

    by_test : (b : Bool) → is_link e p (with_opened host end peer conn) ≡ b → length (cond b (given_at host end peer ++ opened conn ∷ []) (given_at host e p)) ≡ and_one b (length (given_at host e p))
    by_test false h = refl
    by_test true h = let at = link_key e p (with_opened host end peer conn) h in let k = with_key host end peer in
        last_length (given_at host end peer) (opened conn) ∙ ap (λ (n : ℕ). suc (length (given_at host n peer))) (sym k.0 ∙ at.0) ∙ ap (λ (q : Address). suc (length (given_at host e q))) (sym k.1 ∙ at.1)

pub send_gives : (host after : HostState) (end conn : ℕ) (payload : List ℕ) (weight : Weight) (told : List Step) → host_send host end conn payload weight ≡ Ok (told, after) → LinksApart host.links → SameGiven host after × LinksApart after.links
send_gives host after end conn payload weight told e a = let q = (subst (QuietOrRefused weight host) e (sent host end conn payload weight a)).0 in ((λ e p. ap length (q.given e p)), q.apart a)

pub close_gives : (host after : HostState) (end conn : ℕ) (told : List Step) → host_close host end conn ≡ Ok (told, after) → LinksApart host.links → SameGiven host after × LinksApart after.links
close_gives host after end conn told e a = by_closed (subst (ClosesAll host end conn) e (closed_conn host end conn a)) where
  by_closed : Closes host end conn after → SameGiven host after × LinksApart after.links
  by_closed c = ((λ e p. ap length (c.sets.given e p) ∙ by_test e p (is_link e p (with_closed c.link conn)) refl), c.sets.apart a) where
    by_test : (e : ℕ) (p : Address) (b : Bool) → is_link e p (with_closed c.link conn) ≡ b → length (cond b (slice_set c.link.given (place c.link.given conn) (closed conn)) (given_at host e p)) ≡ length (given_at host e p)
    by_test e p false h = refl
    by_test e p true h = let at = link_key e p (with_closed c.link conn) h in
        closed_length c.link.given (place c.link.given conn) (closed conn) ∙ ap (λ (l : Link). length l.given) (sym c.carried.is_there) ∙ ap (λ (n : ℕ). length (given_at host n c.link.peer)) at.0 ∙ ap (λ (q : Address). length (given_at host e q)) at.1
