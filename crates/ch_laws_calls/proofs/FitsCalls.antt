-- A connection that is opened or closed, and a payload that is sent: what that changes of its link's ids.
use Rattle.std.proofs.Common.{◌≡◌, ◌≤◌, ℕ, ◌+◌, Bool, true, false, cond, List, [], ◌∷◌, ◌++◌, length, Ok, Err, refl, sym, ap, ◌∙◌, subst, arith}
use Rattle.std.proofs.lemmas.Bool.Decides.{nat_tests}
use Rattle.std.proofs.lemmas.List.{map-append}
use Rattle.std.specs.Prelude.{find, Option, Some, None, Result, nat_lt, ◌==◌}
use Rattle.ch_base.specs.declared.address.Address.{Address}
use Rattle.ch_base.specs.declared.memory.Stop.TheVariants as stops
use Rattle.ch_wire.specs.Spelling.{IsFrame}
use Rattle.ch_wire.specs.declared.TheConstants.{MOST_PAYLOAD_BYTES}
use Rattle.ch_wire.specs.declared.frame.Frame.{Frame}
use Rattle.ch_wire.specs.declared.frame.Frame.TheVariants as frames
use Rattle.ch_reader.specs.declared.item.Item.TheVariants as items
use Rattle.ch_link.specs.Table.{step_of}
use Rattle.ch_link.specs.declared.LinkIn.TheVariants.{Want}
use Rattle.ch_link.specs.declared.LinkState.{LinkState}
use Rattle.ch_link.specs.declared.LinkState.TheVariants as states
use Rattle.ch_light.specs.declared.Connection.{Connection}
use Rattle.ch_light.specs.Ids.{id_of, give_of, close_of}
use Rattle.ch_model.specs.declared.step.EndError.{EndError}
use Rattle.ch_model.specs.declared.step.EndError.TheVariants as ends
use Rattle.ch_model.specs.declared.step.Step.{Step}
use Rattle.ch_model.specs.declared.step.Step.TheVariants as steps
use Rattle.ch_model.specs.declared.step.Weight.{Weight}
use Rattle.ch_model.specs.declared.step.Weight.TheVariants.{Free}
use Rattle.ch_model.specs.Greater.{is_greater}
use Rattle.ch_model.specs.HostCalls.{◌>>=◌, stepped, of_ids, open_endpoint, wants, puts_and_wants, carries, found_or, short_enough, has_room, host_connect, host_send, host_close}
use Rattle.ch_model.specs.HostLinks.{most_dials, next_dial, dialed, does_act, hears}
use Rattle.ch_model.specs.HostState.{Link, HostState}
use Rattle.ch_model.specs.HostSteps.{Stepped, after_steps, ◌then◌, own_address, link_or_new, link_with, with_link, with_socket}
use Rattle.ch_model.specs.HostWrites.{is_up, frame_step, puts}
use Rattle.ch_race.specs.Pair as pair
use Rattle.ch_laws_calls.specs.Tables.{table_of, frame_on, frames_on}
use Rattle.ch_laws_items.proofs.Sockets.{number_is}
use Rattle.ch_laws_links.proofs.Keys.{link_named}
use Rattle.ch_laws_race.specs.Answers.{AreData}
use Rattle.ch_laws_race.specs.View.{frame_kind}
use Rattle.ch_laws_reads.specs.Reads.{reads_of}
use Rattle.ch_laws_writes.specs.Dues.{Due, due_at}
use Rattle.ch_laws_writes.specs.Orderly.{LinkFits, IsOrderly}
use Rattle.ch_laws_writes.proofs.Calls.{gives, closes_one, has_id}
use Rattle.ch_laws_writes.proofs.Ordered.{at_stored, found_own}
use Rattle.ch_laws_calls.specs.FitsFit.{is_up_at, LinkHolds, HostHolds, frames_in}
use Rattle.ch_laws_calls.specs.FitsTurns.{bytes_at, DialsAlone, IsKind, Gives, Creates, Turn}
use Rattle.ch_laws_calls.proofs.FitsFrames.{frame_last, one_frame}
use Rattle.ch_laws_calls.proofs.FitsIds.{given_fits, closing_fits, sending_fits}
use Rattle.ch_laws_calls.proofs.FitsStores.{Stores, stored, stored_again, none_kind, only_at, only_kind, only_spelled, frames_of, data_last, IsDown, down_gives, down_creates, turned, AllTurn}

-- a link of a host, which holds and fits
pub record IsOwn (host : HostState) (link : Link) : Type 0 where
  pub is : link_with host link.end link.peer ≡ link
  pub holds : LinkHolds link
  pub fits : LinkFits host.sockets link.end link.peer link

pub own_link : (own : ℕ → Address) (host : HostState) (link : Link) → IsOrderly own host → HostHolds host → link_with host link.end link.peer ≡ link → IsOwn host link
own_link own host link o holds is = record { is = is; holds = subst LinkHolds is (holds link.end link.peer); fits = subst (λ (l : Link). LinkFits host.sockets link.end link.peer l) is (o.links link.end link.peer) }

-- the link of an endpoint with a peer
pub link_with_own : (own : ℕ → Address) (host : HostState) (end : ℕ) (peer : Address) → IsOrderly own host → HostHolds host → IsOwn host (link_with host end peer)
link_with_own own host end peer o holds = own_link own host (link_with host end peer) o holds (ap (λ (n : ℕ). link_with host n (link_with host end peer).peer) (link_named host end peer).0 ∙ ap (link_with host end) (link_named host end peer).1)

pub clash : {A : Type 0} → true ≡ false → A
clash e = absurd cc

-- ---- payloads

is_short : (payload short : List ℕ) → short_enough payload ≡ Ok short → length short ≤ MOST_PAYLOAD_BYTES
is_short payload short e = by_test (nat_lt MOST_PAYLOAD_BYTES (length payload)) refl e where
  fits : (n : ℕ) → nat_lt MOST_PAYLOAD_BYTES n ≡ false → n ≤ MOST_PAYLOAD_BYTES
  fits n h = grind (arith, nat_tests)

  by_test : (b : Bool) → nat_lt MOST_PAYLOAD_BYTES (length payload) ≡ b → cond b (Err ends.PayloadLong) (Ok payload) ≡ Ok short → length short ≤ MOST_PAYLOAD_BYTES
  by_test true h e = absurd cc
  by_test false h e = let is : payload ≡ short = cc in subst (λ (l : List ℕ). length l ≤ MOST_PAYLOAD_BYTES) is (fits (length payload) h)

-- ---- an item is put

-- it is written where the link is up
pub put_up : (own : ℕ → Address) (host after : HostState) (link two : Link) (given : List Connection) (item : Frame × Weight) (sock : ℕ) (one next : Bool) → IsOwn host link → link.state ≡ states.Up sock one → IsFrame item.0 → frame_on item.0 (table_of link.given) ≡ Some (table_of given)
    → Stores host.links after.links link.end link.peer two → two.state ≡ states.Up sock next → two.given ≡ given → two.created ≡ link.created → two.waits ≡ link.waits → Turn own host link.end link.peer (frame_step sock item ∷ []) after
put_up own host after link two given item sock one next l up framed fits s state same_given same_created same_waits =
    turned own host after link.end link.peer (frame_step sock item ∷ []) link two l.is s holds (only_at sock (items.Frame item.0 ∷ [])) (λ n. only_spelled sock n (items.Frame item.0 ∷ []))
    (only_kind own (due_at host) sock (items.Frame item.0 ∷ []) (λ n h. number_is sock n h) (subst (λ (d : Option Due). IsKind own d (items.Frame item.0 ∷ [])) (sym (l.fits.up sock one up)) (framed, tt)))
    (λ n. gives_at n (sock == n) refl) (λ n. refl) creates_at tt
  where
    was : (n : ℕ) → is_up_at n link.state ≡ (sock == n)
    was n = ap (is_up_at n) up

    now : (n : ℕ) → is_up_at n two.state ≡ (sock == n)
    now n = ap (is_up_at n) state

    holds : LinkHolds two
    holds = record {
      payloads = subst AreData (sym same_waits) l.holds.payloads;
      up = λ h. same_waits ∙ l.holds.up (ap is_up up);
      gives = λ h. clash (sym (ap is_up state) ∙ h);
      created = λ h. clash (sym (ap is_up state) ∙ h);
    }

    gives_at : (n : ℕ) (b : Bool) → (sock == n) ≡ b → Gives n link two (frames_in (cond b (items.Frame item.0 ∷ []) []))
    gives_at n true h = record {
      up = λ k. ap (λ b. frames_on (item.0 ∷ []) (cond b (table_of link.given) [])) (was n ∙ h) ∙ one_frame item.0 (table_of link.given) (table_of given) fits ∙ ap (λ (g : List Connection). Some (table_of g)) (sym same_given);
      not = λ k. clash (sym h ∙ sym (now n) ∙ k);
    }
    gives_at n false h = record { up = λ k. clash (sym k ∙ now n ∙ h); not = λ k. refl }

    creates_at : (n : ℕ) → Creates n link two []
    creates_at n = record { up = λ k. ap (λ b. Some (cond b (table_of link.created) [])) (was n ∙ sym (now n) ∙ k) ∙ ap (λ (g : List Connection). Some (table_of g)) (sym same_created); not = λ k. refl }

-- else it waits
pub put_down : (own : ℕ → Address) (host after : HostState) (link two : Link) (given : List Connection) (item : Frame × Weight) (told : List Step) → IsOwn host link → is_up link.state ≡ false → frame_kind item.0 ≡ pair.Data → frame_on item.0 (table_of link.given) ≡ Some (table_of given)
    → Stores host.links after.links link.end link.peer two → is_up two.state ≡ false → two.given ≡ given → two.created ≡ link.created → two.waits ≡ link.waits ++ item ∷ [] → ((n : ℕ) → bytes_at n told ≡ []) → ((n : ℕ) → reads_of n told ≡ 0) → DialsAlone told → Turn own host link.end link.peer told after
put_down own host after link two given item told l off of_data fits s state same_given same_created waits bytes reads alone =
    turned own host after link.end link.peer told link two l.is s holds (λ n. []) bytes (λ n. none_kind own (due_at host n)) (λ n. down_gives n link two down) reads (λ n. down_creates n link two down) alone
  where
    down : IsDown two
    down n = by_state two.state state where
      by_state : (x : LinkState) → is_up x ≡ false → is_up_at n x ≡ false
      by_state (states.Up sock probed) h = clash h
      by_state (states.Dialing sock) h = refl
      by_state states.Idle h = refl
      by_state states.AwaitOther h = refl

    holds : LinkHolds two
    holds = record {
      payloads = subst AreData (sym waits) (data_last link.waits item l.holds.payloads of_data);
      up = λ h. clash (sym h ∙ state);
      gives = λ h. ap (λ (w : List (Frame × Weight)). frames_on (frames_of w) []) waits ∙ ap (λ (f : List Frame). frames_on f []) (map-append (λ (wait : Frame × Weight). wait.0) link.waits (item ∷ []))
          ∙ frame_last (frames_of link.waits) item.0 [] (table_of link.given) (table_of given) (l.holds.gives off) fits ∙ ap (λ (g : List Connection). Some (table_of g)) (sym same_given);
      created = λ h. same_created ∙ l.holds.created off;
    }

-- ---- the link wants a socket

-- what a link in this state makes of that
abbrev wanted : Link → HostState → LinkState → Stepped
wanted link host state = does_act (step_of state (Want (next_dial host)) (is_greater (own_address host link.end) link.peer)).1 state (Want (next_dial host)) (record link { state = (step_of state (Want (next_dial host)) (is_greater (own_address host link.end) link.peer)).0 })
    (with_link (record link { state = (step_of state (Want (next_dial host)) (is_greater (own_address host link.end) link.peer)).0 }) host)

put_and_wanted : (own : ℕ → Address) (host : HostState) (link : Link) (given : List Connection) (item : Frame × Weight) → IsOwn host link → IsFrame item.0 → frame_kind item.0 ≡ pair.Data → frame_on item.0 (table_of link.given) ≡ Some (table_of given)
    → AllTurn own host link.end link.peer (puts_and_wants item (record link { given = given }) host)
unfolding step_of
put_and_wanted own host link given item l framed of_data fits = by_state link.state refl where
  put : Link
  put = record link { given = given }

  waiting : Link
  waiting = record link { given = given; waits = link.waits ++ item ∷ [] }

  -- the state is the link's own
  as_stored : (xs : List Step) (one : Link) (state : LinkState) → one.state ≡ state → AllTurn own host link.end link.peer (after_steps xs (wanted one (with_link one host) state)) → AllTurn own host link.end link.peer (after_steps xs (hears (Want (next_dial (with_link one host))) (link_with (with_link one host) one.end one.peer) (with_link one host)))
  as_stored xs one state is t = subst (λ (x : Link). AllTurn own host link.end link.peer (after_steps xs (hears (Want (next_dial (with_link one host))) x (with_link one host)))) (sym (at_stored one host.links)) (subst (λ (x : LinkState). AllTurn own host link.end link.peer (after_steps xs (wanted one (with_link one host) x))) (sym is) t)

  still : (state : LinkState) → link.state ≡ state → is_up state ≡ false → Turn own host link.end link.peer [] (with_link (record waiting { state = state }) (with_link waiting host))
  still state is off = put_down own host (with_link (record waiting { state = state }) (with_link waiting host)) link (record waiting { state = state }) given item [] l (ap is_up is ∙ off) of_data fits (stored_again host.links waiting (record waiting { state = state }) refl refl) off refl refl refl (λ n. refl) (λ n. refl) tt

  dials : (b : Bool) → link.state ≡ states.Idle → AllTurn own host link.end link.peer (after_steps [] (cond b (Ok (steps.Dial (next_dial (with_link waiting host)) link.end link.peer ∷ [], with_socket (dialed (next_dial (with_link waiting host)) link.end link.peer) (record (with_link (record waiting { state = states.Dialing (next_dial (with_link waiting host)) }) (with_link waiting host)) { dials = host.dials + 1 }))) (Err stops.Worn)))
  dials true is = put_down own host _ link (record waiting { state = states.Dialing (next_dial (with_link waiting host)) }) given item (steps.Dial (next_dial (with_link waiting host)) link.end link.peer ∷ []) l (ap is_up is) of_data fits (stored_again host.links waiting (record waiting { state = states.Dialing (next_dial (with_link waiting host)) }) refl refl) refl refl refl refl (λ n. refl) (λ n. refl) refl
  dials false is = tt

  by_state : (state : LinkState) → link.state ≡ state → AllTurn own host link.end link.peer ((elim state as (λ x. Stepped) [
    | states.Up sock probed ↦ Ok (frame_step sock item ∷ [], with_link put host)
    | _ ↦ Ok ([], with_link waiting host)
  ]) then wants link.end link.peer)
  by_state (states.Up sock probed) is = as_stored (frame_step sock item ∷ []) put (states.Up sock probed) is
      (put_up own host (with_link (record put { state = states.Up sock probed }) (with_link put host)) link (record put { state = states.Up sock probed }) given item sock probed probed l is framed fits (stored_again host.links put (record put { state = states.Up sock probed }) refl refl) refl refl refl refl)
  by_state (states.Dialing sock) is = as_stored [] waiting (states.Dialing sock) is (still (states.Dialing sock) is refl)
  by_state states.AwaitOther is = as_stored [] waiting states.AwaitOther is (still states.AwaitOther is refl)
  by_state states.Idle is = as_stored [] waiting states.Idle is (dials (nat_lt host.dials most_dials) is)

-- ---- the calls

-- of some link
abbrev pub AllTurned : {E : Type 0} → (ℕ → Address) → HostState → Result (List Step × HostState) E → Type 0
AllTurned own host (Ok done) = (end : ℕ) × (peer : Address) × Turn own host end peer done.0 done.1
AllTurned own host (Err e) = Unit {0}

bound : {A : Type 0} (own : ℕ → Address) (host : HostState) (given : Result A EndError) (f : A → Result (List Step × HostState) EndError) → ((x : A) → given ≡ Ok x → AllTurned own host (f x)) → AllTurned own host (given >>= f)
bound own host (Ok x) f each = each x refl
bound own host (Err e) f each = tt

pub of_link : {E : Type 0} (own : ℕ → Address) (host : HostState) (end : ℕ) (peer : Address) (done : Result (List Step × HostState) E) → AllTurn own host end peer done → AllTurned own host done
of_link own host end peer (Ok done) t = (end, peer, t)
of_link own host end peer (Err e) t = tt

as_asked : (own : ℕ → Address) (host : HostState) (done : Stepped) → AllTurned own host done → AllTurned own host (stepped done)
as_asked own host (Ok done) t = t
as_asked own host (Err stop) t = tt

-- the link that some test finds
found_link : (own : ℕ → Address) (host : HostState) (test : Link → Bool) (link : Link) → IsOrderly own host → HostHolds host → found_or (find test host.links) ≡ Ok link → IsOwn host link
found_link own host test link o holds e = own_link own host link o holds (ap (link_or_new link.end link.peer) (found_own test host.links link o.apart (by_found (find test host.links) e))) where
  by_found : (x : Option Link) → found_or x ≡ Ok link → x ≡ Some link
  by_found (Some x) e = let is : x ≡ link = cc in ap Some is
  by_found None e = absurd cc

pub connected : (own : ℕ → Address) (host : HostState) (end : ℕ) (peer : Address) (conn : ℕ) → IsOrderly own host → HostHolds host → AllTurned own host (host_connect host end peer conn)
unfolding host_connect
connected own host end peer conn o holds = bound own host (open_endpoint host end) _ (λ standing e. bound own host (of_ids (give_of (link_with host end peer).given conn)) _ (λ given g. as_asked own host _
    (of_link own host (link_with host end peer).end (link_with host end peer).peer _ (put_and_wanted own host (link_with host end peer) given.1 (frames.Created given.0, Free) (link_with_own own host end peer o holds) (gives (link_with host end peer).given conn given g).range refl (given_fits (link_with host end peer).given conn given g)))))

pub sent : (own : ℕ → Address) (host : HostState) (end conn : ℕ) (payload : List ℕ) (weight : Weight) → IsOrderly own host → HostHolds host → AllTurned own host (host_send host end conn payload weight)
unfolding host_send
sent own host end conn payload weight o holds = bound own host (found_or (find (carries end conn) host.links)) _ (λ link l. bound own host (short_enough payload) _ (λ short m. bound own host (has_room link weight) _ (λ roomy r. bound own host (found_or (id_of link.given conn)) _ (λ id i. as_asked own host _
    (of_link own host link.end link.peer _ (put_and_wanted own host link link.given (frames.Data id short, weight) (found_link own host (carries end conn) link o holds l) (has_id link.given conn id (found_link own host (carries end conn) link o holds l).fits.given i, is_short payload short m) refl (sending_fits link.given conn id short i)))))))

put_alone : (own : ℕ → Address) (host : HostState) (link : Link) (given : List Connection) (item : Frame × Weight) → IsOwn host link → IsFrame item.0 → frame_kind item.0 ≡ pair.Data → frame_on item.0 (table_of link.given) ≡ Some (table_of given) → AllTurn own host link.end link.peer (puts item (record link { given = given }) host)
put_alone own host link given item l framed of_data fits = by_state link.state refl where
  put : Link
  put = record link { given = given }

  waiting : Link
  waiting = record link { given = given; waits = link.waits ++ item ∷ [] }

  still : is_up link.state ≡ false → Turn own host link.end link.peer [] (with_link waiting host)
  still off = put_down own host (with_link waiting host) link waiting given item [] l off of_data fits (stored host.links waiting) off refl refl refl (λ n. refl) (λ n. refl) tt

  by_state : (state : LinkState) → link.state ≡ state → AllTurn own host link.end link.peer (elim state as (λ x. Stepped) [
    | states.Up sock probed ↦ Ok (frame_step sock item ∷ [], with_link put host)
    | _ ↦ Ok ([], with_link waiting host)
  ])
  by_state (states.Up sock probed) is = put_up own host (with_link put host) link put given item sock probed probed l is framed fits (stored host.links put) is refl refl refl
  by_state (states.Dialing sock) is = still (ap is_up is)
  by_state states.AwaitOther is = still (ap is_up is)
  by_state states.Idle is = still (ap is_up is)

pub closed : (own : ℕ → Address) (host : HostState) (end conn : ℕ) → IsOrderly own host → HostHolds host → AllTurned own host (host_close host end conn)
unfolding host_close
closed own host end conn o holds = bound own host (found_or (find (carries end conn) host.links)) _ (λ link l. bound own host (of_ids (close_of link.given conn)) _ (λ given g. as_asked own host _
    (of_link own host link.end link.peer _ (put_alone own host link given.1 (frames.Closed given.0, Free) (found_link own host (carries end conn) link o holds l) (closes_one link.given conn given (found_link own host (carries end conn) link o holds l).fits.given g).range refl (closing_fits link.given conn given g)))))
