-- What an endpoint puts on its link is written where the link is up, and else waits: connections that are opened and closed, and payloads.
use Rattle.std.proofs.Common.{◌≡◌, inl, inr, ◌≤◌, ℕ, ◌+◌, Bool, true, false, cond, List, [], ◌∷◌, ◌++◌, length, Ok, Err, refl, sym, ap, ◌∙◌, subst, arith}
use Rattle.std.proofs.lemmas.Bool.Decides.{nat_tests}
use Rattle.std.proofs.lemmas.List.{map-append}
use Rattle.std.specs.Prelude.{find, Option, Some, None, Result, nat_lt, ◌==◌}
use Rattle.ch_base.specs.declared.address.Address.{Address}
use Rattle.ch_base.specs.declared.memory.Stop.TheVariants as stops
use Rattle.ch_wire.specs.Spelling.{IsFrame}
use Rattle.ch_wire.specs.declared.TheConstants.{MOST_PAYLOAD_BYTES}
use Rattle.ch_wire.specs.declared.frame.Frame.{Frame}
use Rattle.ch_wire.specs.declared.frame.Frame.TheVariants as frames
use Rattle.ch_link.specs.Table.{step_of}
use Rattle.ch_link.specs.declared.LinkIn.TheVariants.{Want}
use Rattle.ch_link.specs.declared.LinkState.{LinkState}
use Rattle.ch_link.specs.declared.LinkState.TheVariants as states
use Rattle.ch_light.specs.declared.TheConstants.{MOST_IDS}
use Rattle.ch_light.specs.declared.Connection.{Connection}
use Rattle.ch_light.specs.Ids.{id_of, give_of, close_of}
use Rattle.ch_model.specs.declared.step.EndError.{EndError}
use Rattle.ch_model.specs.declared.step.EndError.TheVariants as ends
use Rattle.ch_model.specs.declared.step.Step.{Step}
use Rattle.ch_model.specs.declared.step.Step.TheVariants as steps
use Rattle.ch_model.specs.declared.step.Weight.{Weight}
use Rattle.ch_model.specs.declared.step.Weight.TheVariants.{Free}
use Rattle.ch_model.specs.Greater.{is_greater}
use Rattle.ch_model.specs.HostCalls.{◌>>=◌, stepped, of_ids, open_endpoint, wants, puts_and_wants, carries, found_or, short_enough, has_room, host_connect, host_send, host_close}
use Rattle.ch_model.specs.HostLinks.{most_dials, next_dial, dialed, does_act, hears}
use Rattle.ch_model.specs.HostState.{Link, Socket, HostState}
use Rattle.ch_model.specs.HostSteps.{Stepped, after_steps, ◌then◌, own_address, link_or_new, link_with, with_link, with_socket, is_socket}
use Rattle.ch_model.specs.HostWrites.{is_up, frame_step, puts}
use Rattle.ch_laws_items.proofs.Sockets.{number_is}
use Rattle.ch_laws_links.proofs.Keys.{link_named}
use Rattle.ch_laws_log.proofs.HostTold.{find_stored}
use Rattle.ch_laws_writes.specs.Orderly.{LinkFits, IsOrderly}
use Rattle.ch_laws_writes.proofs.Calls.{gives, closes_one, has_id}
use Rattle.ch_laws_writes.proofs.Ordered.{at_stored, found_own}
use Rattle.ch_laws_calls.specs.FitsTurns.{bytes_at}
use Rattle.ch_laws_calls.proofs.FitsStores.{Stores, stored, stored_again}
use Rattle.ch_laws_plain.specs.Talks.{frames_of, KeepsSockets, Adds, Connects, Carried, Sends, Closes}

-- whatever was done
abbrev AllAdd : {E : Type 0} → HostState → ℕ → Address → List Connection → List Frame → Result (List Step × HostState) E → Type 0
AllAdd host end peer given frames (Ok done) = Adds host end peer given frames done.0 done.1
AllAdd host end peer given frames (Err e) = Unit {0}

-- ---- one frame

-- it is written where the link is up
put_up : (host after : HostState) (link two : Link) (item : Frame × Weight) (sock : ℕ) (probed : Bool) → link_with host link.end link.peer ≡ link → IsFrame item.0 → link.state ≡ states.Up sock probed → Stores host.links after.links link.end link.peer two → two.state ≡ states.Up sock probed → two.created ≡ link.created → two.waits ≡ link.waits → KeepsSockets host after
    → Adds host link.end link.peer two.given (item.0 ∷ []) (frame_step sock item ∷ []) after
put_up host after link two item sock probed is framed up s now created waits kept = record {
  others = s.others;
  given = ap (λ (l : Link). l.given) s.now;
  created = ap (λ (l : Link). l.created) s.now ∙ created ∙ sym (ap (λ (l : Link). l.created) is);
  sockets = kept;
  spelled = (framed, tt);
  added = inl (sock, probed, record { was = ap (λ (l : Link). l.state) is ∙ up; now = ap (λ (l : Link). l.state) s.now ∙ now; waits = ap (λ (l : Link). l.waits) s.now ∙ waits ∙ sym (ap (λ (l : Link). l.waits) is); bytes = λ n. refl });
}

-- else it waits
put_down : (host after : HostState) (link two : Link) (item : Frame × Weight) (told : List Step) → link_with host link.end link.peer ≡ link → IsFrame item.0 → is_up link.state ≡ false → Stores host.links after.links link.end link.peer two → is_up two.state ≡ false → two.created ≡ link.created → two.waits ≡ link.waits ++ item ∷ [] → ((n : ℕ) → bytes_at n told ≡ []) → KeepsSockets host after
    → Adds host link.end link.peer two.given (item.0 ∷ []) told after
put_down host after link two item told is framed off s now created waits bytes kept = record {
  others = s.others;
  given = ap (λ (l : Link). l.given) s.now;
  created = ap (λ (l : Link). l.created) s.now ∙ created ∙ sym (ap (λ (l : Link). l.created) is);
  sockets = kept;
  spelled = (framed, tt);
  added = inr (record {
    was = ap (λ (l : Link). is_up l.state) is ∙ off;
    now = ap (λ (l : Link). is_up l.state) s.now ∙ now;
    waits = ap (λ (l : Link). frames_of l.waits) s.now ∙ ap frames_of waits ∙ map-append (λ (wait : Frame × Weight). wait.0) link.waits (item ∷ []) ∙ ap (λ (l : Link). frames_of l.waits ++ item.0 ∷ []) (sym is);
    bytes = bytes;
  });
}

-- ---- the link wants a socket

-- what a link in this state makes of that
abbrev wanted : Link → HostState → LinkState → Stepped
wanted link host state = does_act (step_of state (Want (next_dial host)) (is_greater (own_address host link.end) link.peer)).1 state (Want (next_dial host)) (record link { state = (step_of state (Want (next_dial host)) (is_greater (own_address host link.end) link.peer)).0 })
    (with_link (record link { state = (step_of state (Want (next_dial host)) (is_greater (own_address host link.end) link.peer)).0 }) host)

put_and_wanted : (host : HostState) (link : Link) (given : List Connection) (item : Frame × Weight) → find (is_socket (next_dial host)) host.sockets ≡ None → link_with host link.end link.peer ≡ link → IsFrame item.0 → AllAdd host link.end link.peer given (item.0 ∷ []) (puts_and_wants item (record link { given = given }) host)
unfolding step_of
put_and_wanted host link given item free is_own framed = by_state link.state refl where
  put : Link
  put = record link { given = given }

  waiting : Link
  waiting = record link { given = given; waits = link.waits ++ item ∷ [] }

  -- the state is the link's own
  as_stored : (xs : List Step) (one : Link) (state : LinkState) → one.state ≡ state → AllAdd host link.end link.peer given (item.0 ∷ []) (after_steps xs (wanted one (with_link one host) state)) → AllAdd host link.end link.peer given (item.0 ∷ []) (after_steps xs (hears (Want (next_dial (with_link one host))) (link_with (with_link one host) one.end one.peer) (with_link one host)))
  as_stored xs one state is t = subst (λ (x : Link). AllAdd host link.end link.peer given (item.0 ∷ []) (after_steps xs (hears (Want (next_dial (with_link one host))) x (with_link one host)))) (sym (at_stored one host.links)) (subst (λ (x : LinkState). AllAdd host link.end link.peer given (item.0 ∷ []) (after_steps xs (wanted one (with_link one host) x))) (sym is) t)

  still : (state : LinkState) → link.state ≡ state → is_up state ≡ false → Adds host link.end link.peer given (item.0 ∷ []) [] (with_link (record waiting { state = state }) (with_link waiting host))
  still state is off = put_down host (with_link (record waiting { state = state }) (with_link waiting host)) link (record waiting { state = state }) item [] is_own framed (ap is_up is ∙ off) (stored_again host.links waiting (record waiting { state = state }) refl refl) off refl refl (λ n. refl) (λ n known f. f)

  new_apart : (n : ℕ) (known : Socket) → find (is_socket n) host.sockets ≡ Some known → (b : Bool) → (next_dial host == n) ≡ b → cond b (Some (dialed (next_dial host) link.end link.peer)) (find (is_socket n) host.sockets) ≡ Some known
  new_apart n known f true h = let no : None ≡ Some known = sym (subst (λ (m : ℕ). find (is_socket m) host.sockets ≡ None) (number_is (next_dial host) n h) free) ∙ f in absurd cc
  new_apart n known f false h = f

  dials : (b : Bool) → link.state ≡ states.Idle → AllAdd host link.end link.peer given (item.0 ∷ []) (after_steps [] (cond b (Ok (steps.Dial (next_dial (with_link waiting host)) link.end link.peer ∷ [], with_socket (dialed (next_dial (with_link waiting host)) link.end link.peer) (record (with_link (record waiting { state = states.Dialing (next_dial (with_link waiting host)) }) (with_link waiting host)) { dials = host.dials + 1 }))) (Err stops.Worn)))
  dials true is = put_down host _ link (record waiting { state = states.Dialing (next_dial (with_link waiting host)) }) item (steps.Dial (next_dial (with_link waiting host)) link.end link.peer ∷ []) is_own framed (ap is_up is) (stored_again host.links waiting (record waiting { state = states.Dialing (next_dial (with_link waiting host)) }) refl refl) refl refl refl (λ n. refl) (λ n known f. find_stored (dialed (next_dial host) link.end link.peer) host.sockets n ∙ new_apart n known f (next_dial host == n) refl)
  dials false is = tt

  by_state : (state : LinkState) → link.state ≡ state → AllAdd host link.end link.peer given (item.0 ∷ []) ((elim state as (λ x. Stepped) [
    | states.Up sock probed ↦ Ok (frame_step sock item ∷ [], with_link put host)
    | _ ↦ Ok ([], with_link waiting host)
  ]) then wants link.end link.peer)
  by_state (states.Up sock probed) is = as_stored (frame_step sock item ∷ []) put (states.Up sock probed) is
      (put_up host (with_link (record put { state = states.Up sock probed }) (with_link put host)) link (record put { state = states.Up sock probed }) item sock probed is_own framed is (stored_again host.links put (record put { state = states.Up sock probed }) refl refl) refl refl refl (λ n known f. f))
  by_state (states.Dialing sock) is = as_stored [] waiting (states.Dialing sock) is (still (states.Dialing sock) is refl)
  by_state states.AwaitOther is = as_stored [] waiting states.AwaitOther is (still states.AwaitOther is refl)
  by_state states.Idle is = as_stored [] waiting states.Idle is (dials (nat_lt host.dials most_dials) is)

put_alone : (host : HostState) (link : Link) (given : List Connection) (item : Frame × Weight) → link_with host link.end link.peer ≡ link → IsFrame item.0 → AllAdd host link.end link.peer given (item.0 ∷ []) (puts item (record link { given = given }) host)
put_alone host link given item is_own framed = by_state link.state refl where
  put : Link
  put = record link { given = given }

  waiting : Link
  waiting = record link { given = given; waits = link.waits ++ item ∷ [] }

  still : is_up link.state ≡ false → Adds host link.end link.peer given (item.0 ∷ []) [] (with_link waiting host)
  still off = put_down host (with_link waiting host) link waiting item [] is_own framed off (stored host.links waiting) off refl refl (λ n. refl) (λ n known f. f)

  by_state : (state : LinkState) → link.state ≡ state → AllAdd host link.end link.peer given (item.0 ∷ []) (elim state as (λ x. Stepped) [
    | states.Up sock probed ↦ Ok (frame_step sock item ∷ [], with_link put host)
    | _ ↦ Ok ([], with_link waiting host)
  ])
  by_state (states.Up sock probed) is = put_up host (with_link put host) link put item sock probed is_own framed is (stored host.links put) is refl refl (λ n known f. f)
  by_state (states.Dialing sock) is = still (ap is_up is)
  by_state states.AwaitOther is = still (ap is_up is)
  by_state states.Idle is = still (ap is_up is)

-- ---- the calls

-- what is so of the steps of a host is so of them as an answer
asked_all : (P : Result (List Step × HostState) EndError → Type 0) (done : Stepped) → ((d : List Step × HostState) → done ≡ Ok d → P (Ok d)) → ((e : EndError) → P (Err e)) → P (stepped done)
asked_all P (Ok done) f g = f done refl
asked_all P (Err stops.OutOfMemory) f g = g ends.OutOfMemory
asked_all P (Err stops.Worn) f g = g ends.Worn

-- and so is what hangs on a step that may be refused
bound : {A : Type 0} (P : Result (List Step × HostState) EndError → Type 0) (given : Result A EndError) (f : A → Result (List Step × HostState) EndError) → ((e : EndError) → P (Err e)) → ((x : A) → given ≡ Ok x → P (f x)) → P (given >>= f)
bound P (Ok x) f g each = each x refl
bound P (Err e) f g each = g e

added : {E : Type 0} (host : HostState) (end : ℕ) (peer : Address) (given : List Connection) (frames : List Frame) (r : Result (List Step × HostState) E) (d : List Step × HostState) → r ≡ Ok d → AllAdd host end peer given frames r → Adds host end peer given frames d.0 d.1
added host end peer given frames (Ok one) d e a = let is : one ≡ d = cc in subst (λ (x : List Step × HostState). Adds host end peer given frames x.0 x.1) is a
added host end peer given frames (Err x) d e a = absurd cc

-- the number of the next dial is free
dial_free : (own : ℕ → Address) (host : HostState) → IsOrderly own host → find (is_socket (next_dial host)) host.sockets ≡ None
dial_free own host o = o.sound.free host.dials (omega arith)

pub connected : (own : ℕ → Address) (host : HostState) (end : ℕ) (peer : Address) (conn : ℕ) → IsOrderly own host → Connects host end peer conn (host_connect host end peer conn)
unfolding host_connect
connected own host end peer conn o = bound P (open_endpoint host end) _ (λ e. tt) (λ standing e. bound P (of_ids (give_of link.given conn)) _ (λ e. tt) (λ given g. asked_all P (puts_and_wants (frames.Created given.0, Free) (record link { given = given.1 }) host)
    (λ d is. (
      given,
      g,
      subst (λ (n : ℕ). Adds host n peer given.1 (frames.Created given.0 ∷ []) d.0 d.1) named.0 (subst (λ (a : Address). Adds host link.end a given.1 (frames.Created given.0 ∷ []) d.0 d.1) named.1
          (added host link.end link.peer given.1 (frames.Created given.0 ∷ []) _ d is (put_and_wanted host link given.1 (frames.Created given.0, Free) (dial_free own host o) own_link (gives link.given conn given g).range))),
    )) (λ e. tt))) where
      P : Result (List Step × HostState) EndError → Type 0
      P r = Connects host end peer conn r

      link : Link
      link = link_with host end peer

      named : (link.end ≡ end) × (link.peer ≡ peer)
      named = link_named host end peer

      own_link : link_with host link.end link.peer ≡ link
      own_link = ap (λ (n : ℕ). link_with host n link.peer) named.0 ∙ ap (link_with host end) named.1

found_some : {A : Type 0} (x : Option A) (a : A) → found_or x ≡ Ok a → x ≡ Some a
found_some (Some x) a e = let is : x ≡ a = cc in ap Some is
found_some None a e = absurd cc

carried : (own : ℕ → Address) (host : HostState) (end conn : ℕ) (link : Link) → IsOrderly own host → found_or (find (carries end conn) host.links) ≡ Ok link → Carried host end conn link
carried own host end conn link o e = let found = found_some (find (carries end conn) host.links) link e in record { found = found; own_link = ap (link_or_new link.end link.peer) (found_own (carries end conn) host.links link o.apart found) }

-- a payload that is short enough goes as it is
short_same : (payload short : List ℕ) → short_enough payload ≡ Ok short → (short ≡ payload) × (length short ≤ MOST_PAYLOAD_BYTES)
short_same payload short e = by_test (nat_lt MOST_PAYLOAD_BYTES (length payload)) refl e where
  fits : (n : ℕ) → nat_lt MOST_PAYLOAD_BYTES n ≡ false → n ≤ MOST_PAYLOAD_BYTES
  fits n h = grind (arith, nat_tests)

  by_test : (b : Bool) → nat_lt MOST_PAYLOAD_BYTES (length payload) ≡ b → cond b (Err ends.PayloadLong) (Ok payload) ≡ Ok short → (short ≡ payload) × (length short ≤ MOST_PAYLOAD_BYTES)
  by_test true h e = absurd cc
  by_test false h e = let is : payload ≡ short = cc in (sym is, subst (λ (l : List ℕ). length l ≤ MOST_PAYLOAD_BYTES) is (fits (length payload) h))

pub sent : (own : ℕ → Address) (host : HostState) (end conn : ℕ) (payload : List ℕ) (weight : Weight) → IsOrderly own host → Sends host end conn payload (host_send host end conn payload weight)
unfolding host_send
sent own host end conn payload weight o = bound P (found_or (find (carries end conn) host.links)) _ (λ e. tt) (λ link l. bound P (short_enough payload) _ (λ e. tt) (λ short m. bound P (has_room link weight) _ (λ e. tt) (λ roomy r. bound P (found_or (id_of link.given conn)) _ (λ e. tt) (λ id i.
    asked_all P (puts_and_wants (frames.Data id short, weight) link host) (λ d is. (
      link,
      carried own host end conn link o l,
      id,
      found_some (id_of link.given conn) id i,
      subst (λ (x : List ℕ). Adds host link.end link.peer link.given (frames.Data id x ∷ []) d.0 d.1) (short_same payload short m).0
          (added host link.end link.peer link.given (frames.Data id short ∷ []) _ d is (put_and_wanted host link link.given (frames.Data id short, weight) (dial_free own host o) (carried own host end conn link o l).own_link (has_id link.given conn id (fits link l) i, (short_same payload short m).1))),
    )) (λ e. tt))))) where
      P : Result (List Step × HostState) EndError → Type 0
      P r = Sends host end conn payload r

      fits : (link : Link) → found_or (find (carries end conn) host.links) ≡ Ok link → length link.given ≤ MOST_IDS
      fits link l = (subst (λ (x : Link). LinkFits host.sockets link.end link.peer x) (carried own host end conn link o l).own_link (o.links link.end link.peer)).given

pub closed : (own : ℕ → Address) (host : HostState) (end conn : ℕ) → IsOrderly own host → Closes host end conn (host_close host end conn)
unfolding host_close
closed own host end conn o = bound P (found_or (find (carries end conn) host.links)) _ (λ e. tt) (λ link l. bound P (of_ids (close_of link.given conn)) _ (λ e. tt) (λ given g.
    asked_all P (puts (frames.Closed given.0, Free) (record link { given = given.1 }) host) (λ d is. (
      link,
      carried own host end conn link o l,
      given,
      g,
      added host link.end link.peer given.1 (frames.Closed given.0 ∷ []) _ d is (put_alone host link given.1 (frames.Closed given.0, Free) (carried own host end conn link o l).own_link (closes_one link.given conn given (fits link l) g).range),
    )) (λ e. tt))) where
      P : Result (List Step × HostState) EndError → Type 0
      P r = Closes host end conn r

      fits : (link : Link) → found_or (find (carries end conn) host.links) ≡ Ok link → length link.given ≤ MOST_IDS
      fits link l = (subst (λ (x : Link). LinkFits host.sockets link.end link.peer x) (carried own host end conn link o l).own_link (o.links link.end link.peer)).given
