-- What an endpoint puts on its link is written step by step where the link is up, and else waits.
use Rattle.std.proofs.Common.{◌≡◌, inl, inr, ℕ, ◌+◌, Bool, true, false, cond, List, [], ◌∷◌, ◌++◌, length, map, Ok, Err, refl, sym, ap, ◌∙◌, subst, append_assoc}
use Rattle.std.proofs.lemmas.List.{append-nil, map-append}
use Rattle.std.specs.Prelude.{find, Option, Some, None, Result, nat_lt}
use Rattle.ch_base.specs.declared.address.Address.{Address}
use Rattle.ch_base.specs.declared.memory.Stop.TheVariants as stops
use Rattle.ch_wire.specs.Spelling.{frame_spelling}
use Rattle.ch_wire.specs.declared.TheConstants.{MOST_PAYLOAD_BYTES}
use Rattle.ch_wire.specs.declared.frame.Frame.{Frame}
use Rattle.ch_wire.specs.declared.frame.Frame.TheVariants as frames
use Rattle.ch_link.specs.Table.{step_of}
use Rattle.ch_link.specs.declared.LinkIn.TheVariants.{Want}
use Rattle.ch_link.specs.declared.LinkState.{LinkState}
use Rattle.ch_link.specs.declared.LinkState.TheVariants as states
use Rattle.ch_light.specs.declared.Connection.{Connection}
use Rattle.ch_light.specs.Ids.{id_of, give_of, close_of}
use Rattle.ch_model.specs.declared.step.EndError.{EndError}
use Rattle.ch_model.specs.declared.step.EndError.TheVariants as ends
use Rattle.ch_model.specs.declared.step.Step.{Step}
use Rattle.ch_model.specs.declared.step.Step.TheVariants as steps
use Rattle.ch_model.specs.declared.step.Weight.{Weight}
use Rattle.ch_model.specs.declared.step.Weight.TheVariants.{Free}
use Rattle.ch_model.specs.Greater.{is_greater}
use Rattle.ch_model.specs.HostCalls.{◌>>=◌, stepped, of_ids, open_endpoint, wants, puts_and_wants, carries, found_or, short_enough, has_room, host_connect, host_send, host_close}
use Rattle.ch_model.specs.HostLinks.{most_dials, next_dial, dialed, does_act, hears}
use Rattle.ch_model.specs.HostState.{Link, HostState}
use Rattle.ch_model.specs.HostSteps.{Stepped, after_steps, ◌then◌, own_address, link_with, with_link, with_socket}
use Rattle.ch_model.specs.HostWrites.{is_up, said_of, frame_step, puts}
use Rattle.ch_laws_links.proofs.Keys.{link_named}
use Rattle.ch_laws_writes.proofs.Ordered.{at_stored}
use Rattle.ch_laws_calls.proofs.FitsStores.{Stores, stored, stored_again}
use Rattle.ch_laws_peers.specs.Words.{Placed, waiting_as}
use Rattle.ch_laws_messages.specs.SaidPuts.{write_step, DialsFrom, Puts, AllPut}

-- ---- one frame

up_not : {A : Type 0} (state : LinkState) (sock : ℕ) (probed : Bool) → state ≡ states.Up sock probed → is_up state ≡ false → A
up_not state sock probed e off = let no : true ≡ false = sym (ap is_up e) ∙ off in absurd cc

-- it is written where the link is up
put_up : (host after : HostState) (link two : Link) (item : Frame × Weight) (sock : ℕ) (probed : Bool) → link_with host link.end link.peer ≡ link → link.state ≡ states.Up sock probed → Stores host.links after.links link.end link.peer two → two.state ≡ states.Up sock probed → two.waits ≡ link.waits
    → Puts host link.end link.peer ((item.0, said_of item.1) ∷ []) (frame_step sock item ∷ []) after
put_up host after link two item sock probed is up s now waits = record {
  up = λ m p e. let same : states.Up sock probed ≡ states.Up m p = sym up ∙ sym (ap (λ (l : Link). l.state) is) ∙ e in
      (ap (λ (l : Link). l.state) s.now ∙ now ∙ same, ap (λ (l : Link). l.waits) s.now ∙ waits ∙ sym (ap (λ (l : Link). l.waits) is), ap (λ (k : ℕ). steps.Write k (frame_spelling item.0) (said_of item.1) ∷ []) (number same));
  down = λ off. up_not link.state sock probed up (sym (ap (λ (l : Link). is_up l.state) is) ∙ off);
  others = s.others;
} where
  number : {a b : ℕ} {p q : Bool} → states.Up a p ≡ states.Up b q → a ≡ b
  number e = cc

-- else it waits
put_down : (host after : HostState) (link two : Link) (item : Frame × Weight) (told : List Step) → link_with host link.end link.peer ≡ link → is_up link.state ≡ false → Stores host.links after.links link.end link.peer two → is_up two.state ≡ false → two.waits ≡ link.waits ++ item ∷ [] → DialsFrom link two told
    → Puts host link.end link.peer ((item.0, said_of item.1) ∷ []) told after
put_down host after link two item told is off s now waits dials = record {
  up = λ m p e. up_not (link_with host link.end link.peer).state m p e (ap (λ (l : Link). is_up l.state) is ∙ off);
  down = λ h. (
    ap (λ (l : Link). is_up l.state) s.now ∙ now,
    ap (λ (l : Link). waiting_as l.waits) s.now ∙ ap waiting_as waits ∙ map-append (λ (wait : Frame × Weight). (wait.0, said_of wait.1)) link.waits (item ∷ []) ∙ ap (λ (l : Link). waiting_as l.waits ++ (item.0, said_of item.1) ∷ []) (sym is),
    subst (λ (l : Link). DialsFrom l (link_with after link.end link.peer) told) (sym is) (subst (λ (l : Link). DialsFrom link l told) (sym s.now) dials),
  );
  others = s.others;
}

-- ---- the link wants a socket

-- what a link in this state makes of that
abbrev wanted : Link → HostState → LinkState → Stepped
wanted link host state = does_act (step_of state (Want (next_dial host)) (is_greater (own_address host link.end) link.peer)).1 state (Want (next_dial host)) (record link { state = (step_of state (Want (next_dial host)) (is_greater (own_address host link.end) link.peer)).0 })
    (with_link (record link { state = (step_of state (Want (next_dial host)) (is_greater (own_address host link.end) link.peer)).0 }) host)

put_and_wanted : (host : HostState) (link : Link) (given : List Connection) (item : Frame × Weight) → link_with host link.end link.peer ≡ link → AllPut host link.end link.peer ((item.0, said_of item.1) ∷ []) (puts_and_wants item (record link { given = given }) host)
unfolding step_of
put_and_wanted host link given item is_own = by_state link.state refl where
  put : Link
  put = record link { given = given }

  waiting : Link
  waiting = record link { given = given; waits = link.waits ++ item ∷ [] }

  -- the state is the link's own
  as_stored : (xs : List Step) (one : Link) (state : LinkState) → one.state ≡ state → AllPut host link.end link.peer ((item.0, said_of item.1) ∷ []) (after_steps xs (wanted one (with_link one host) state)) → AllPut host link.end link.peer ((item.0, said_of item.1) ∷ []) (after_steps xs (hears (Want (next_dial (with_link one host))) (link_with (with_link one host) one.end one.peer) (with_link one host)))
  as_stored xs one state is t = subst (λ (x : Link). AllPut host link.end link.peer ((item.0, said_of item.1) ∷ []) (after_steps xs (hears (Want (next_dial (with_link one host))) x (with_link one host)))) (sym (at_stored one host.links)) (subst (λ (x : LinkState). AllPut host link.end link.peer ((item.0, said_of item.1) ∷ []) (after_steps xs (wanted one (with_link one host) x))) (sym is) t)

  still : (state : LinkState) → link.state ≡ state → is_up state ≡ false → Puts host link.end link.peer ((item.0, said_of item.1) ∷ []) [] (with_link (record waiting { state = state }) (with_link waiting host))
  still state is off = put_down host (with_link (record waiting { state = state }) (with_link waiting host)) link (record waiting { state = state }) item [] is_own (ap is_up is ∙ off) (stored_again host.links waiting (record waiting { state = state }) refl refl) off refl (inl (refl, sym is))

  dials : (b : Bool) → link.state ≡ states.Idle → AllPut host link.end link.peer ((item.0, said_of item.1) ∷ []) (after_steps [] (cond b (Ok (steps.Dial (next_dial (with_link waiting host)) link.end link.peer ∷ [], with_socket (dialed (next_dial (with_link waiting host)) link.end link.peer) (record (with_link (record waiting { state = states.Dialing (next_dial (with_link waiting host)) }) (with_link waiting host)) { dials = host.dials + 1 }))) (Err stops.Worn)))
  dials true is = put_down host _ link (record waiting { state = states.Dialing (next_dial (with_link waiting host)) }) item (steps.Dial (next_dial (with_link waiting host)) link.end link.peer ∷ []) is_own (ap is_up is) (stored_again host.links waiting (record waiting { state = states.Dialing (next_dial (with_link waiting host)) }) refl refl) refl refl
      (inr (is, (next_dial (with_link waiting host), link.end, link.peer, refl, refl)))
  dials false is = tt

  by_state : (state : LinkState) → link.state ≡ state → AllPut host link.end link.peer ((item.0, said_of item.1) ∷ []) ((elim state as (λ x. Stepped) [
    | states.Up sock probed ↦ Ok (frame_step sock item ∷ [], with_link put host)
    | _ ↦ Ok ([], with_link waiting host)
  ]) then wants link.end link.peer)
  by_state (states.Up sock probed) is = as_stored (frame_step sock item ∷ []) put (states.Up sock probed) is
      (put_up host (with_link (record put { state = states.Up sock probed }) (with_link put host)) link (record put { state = states.Up sock probed }) item sock probed is_own is (stored_again host.links put (record put { state = states.Up sock probed }) refl refl) refl refl)
  by_state (states.Dialing sock) is = as_stored [] waiting (states.Dialing sock) is (still (states.Dialing sock) is refl)
  by_state states.AwaitOther is = as_stored [] waiting states.AwaitOther is (still states.AwaitOther is refl)
  by_state states.Idle is = as_stored [] waiting states.Idle is (dials (nat_lt host.dials most_dials) is)

put_alone : (host : HostState) (link : Link) (given : List Connection) (item : Frame × Weight) → link_with host link.end link.peer ≡ link → AllPut host link.end link.peer ((item.0, said_of item.1) ∷ []) (puts item (record link { given = given }) host)
put_alone host link given item is_own = by_state link.state refl where
  put : Link
  put = record link { given = given }

  waiting : Link
  waiting = record link { given = given; waits = link.waits ++ item ∷ [] }

  still : is_up link.state ≡ false → Puts host link.end link.peer ((item.0, said_of item.1) ∷ []) [] (with_link waiting host)
  still off = put_down host (with_link waiting host) link waiting item [] is_own off (stored host.links waiting) off refl (inl (refl, refl))

  by_state : (state : LinkState) → link.state ≡ state → AllPut host link.end link.peer ((item.0, said_of item.1) ∷ []) (elim state as (λ x. Stepped) [
    | states.Up sock probed ↦ Ok (frame_step sock item ∷ [], with_link put host)
    | _ ↦ Ok ([], with_link waiting host)
  ])
  by_state (states.Up sock probed) is = put_up host (with_link put host) link put item sock probed is_own is (stored host.links put) is refl
  by_state (states.Dialing sock) is = still (ap is_up is)
  by_state states.AwaitOther is = still (ap is_up is)
  by_state states.Idle is = still (ap is_up is)

-- ---- the calls

-- what is so of the steps of a host is so of them as an answer
asked_all : (P : Result (List Step × HostState) EndError → Type 0) (done : Stepped) → ((d : List Step × HostState) → done ≡ Ok d → P (Ok d)) → ((e : EndError) → P (Err e)) → P (stepped done)
asked_all P (Ok done) f g = f done refl
asked_all P (Err stops.OutOfMemory) f g = g ends.OutOfMemory
asked_all P (Err stops.Worn) f g = g ends.Worn

-- and so is what hangs on a step that may be refused
bound : {A : Type 0} (P : Result (List Step × HostState) EndError → Type 0) (given : Result A EndError) (f : A → Result (List Step × HostState) EndError) → ((e : EndError) → P (Err e)) → ((x : A) → given ≡ Ok x → P (f x)) → P (given >>= f)
bound P (Ok x) f g each = each x refl
bound P (Err e) f g each = g e

put_done : {E : Type 0} (host : HostState) (end : ℕ) (peer : Address) (new : List Placed) (r : Result (List Step × HostState) E) (d : List Step × HostState) → r ≡ Ok d → AllPut host end peer new r → Puts host end peer new d.0 d.1
put_done host end peer new (Ok one) d e a = let is : one ≡ d = cc in subst (λ (x : List Step × HostState). Puts host end peer new x.0 x.1) is a
put_done host end peer new (Err x) d e a = absurd cc

found_some : {A : Type 0} (x : Option A) (a : A) → found_or x ≡ Ok a → x ≡ Some a
found_some (Some x) a e = let is : x ≡ a = cc in ap Some is
found_some None a e = absurd cc

pub one_of : {A : Type 0} (x y : A) → ◌≡◌ {A = Option A} (Some x) (Some y) → x ≡ y
one_of x y e = cc

one_given : {A : Type 0} (x y : A) → ◌≡◌ {A = Result A EndError} (Ok x) (Ok y) → x ≡ y
one_given x y e = cc

short_same : (payload short : List ℕ) → short_enough payload ≡ Ok short → payload ≡ short
short_same payload short e = by_test (nat_lt MOST_PAYLOAD_BYTES (length payload)) e where
  by_test : (b : Bool) → cond b (Err ends.PayloadLong) (Ok payload) ≡ Ok short → payload ≡ short
  by_test true e = absurd cc
  by_test false e = cc

-- a connection is opened
pub connect_puts : (host : HostState) (end : ℕ) (peer : Address) (conn : ℕ) (given : ℕ × List Connection) → of_ids (give_of (link_with host end peer).given conn) ≡ Ok given → AllPut host end peer ((frames.Created given.0, None) ∷ []) (host_connect host end peer conn)
unfolding host_connect
connect_puts host end peer conn given is = bound P (open_endpoint host end) _ (λ e. tt) (λ standing e. bound P (of_ids (give_of link.given conn)) _ (λ e. tt) (λ one g. asked_all P (puts_and_wants (frames.Created one.0, Free) (record link { given = one.1 }) host)
    (λ d done. as_named d (subst (λ (n : ℕ). Puts host link.end link.peer ((frames.Created n, None) ∷ []) d.0 d.1) (ap (λ (x : ℕ × List Connection). x.0) (one_given one given (sym g ∙ is))) (put_done host link.end link.peer ((frames.Created one.0, None) ∷ []) _ d done (put_and_wanted host link one.1 (frames.Created one.0, Free) own_link)))) (λ e. tt))) where
      P : Result (List Step × HostState) EndError → Type 0
      P r = AllPut host end peer ((frames.Created given.0, None) ∷ []) r

      link : Link
      link = link_with host end peer

      named : (link.end ≡ end) × (link.peer ≡ peer)
      named = link_named host end peer

      own_link : link_with host link.end link.peer ≡ link
      own_link = ap (λ (n : ℕ). link_with host n link.peer) named.0 ∙ ap (link_with host end) named.1

      as_named : (d : List Step × HostState) → Puts host link.end link.peer ((frames.Created given.0, None) ∷ []) d.0 d.1 → Puts host end peer ((frames.Created given.0, None) ∷ []) d.0 d.1
      as_named d p = subst (λ (n : ℕ). Puts host n peer ((frames.Created given.0, None) ∷ []) d.0 d.1) named.0 (subst (λ (a : Address). Puts host link.end a ((frames.Created given.0, None) ∷ []) d.0 d.1) named.1 p)

-- a payload is sent on the link that carries its connection
pub send_puts : (host : HostState) (end conn : ℕ) (payload : List ℕ) (weight : Weight) (link : Link) (id : ℕ) → find (carries end conn) host.links ≡ Some link → link_with host link.end link.peer ≡ link → id_of link.given conn ≡ Some id → AllPut host link.end link.peer ((frames.Data id payload, said_of weight) ∷ []) (host_send host end conn payload weight)
unfolding host_send
send_puts host end conn payload weight link id found own has = bound P (found_or (find (carries end conn) host.links)) _ (λ e. tt) (λ one l. bound P (short_enough payload) _ (λ e. tt) (λ short m. bound P (has_room one weight) _ (λ e. tt) (λ roomy r. bound P (found_or (id_of one.given conn)) _ (λ e. tt) (λ n i.
    asked_all P (puts_and_wants (frames.Data n short, weight) one host) (λ d done. goes d n short (same one l) (num one n (same one l) i) m
    (subst (λ (k : Link). Puts host k.end k.peer ((frames.Data n short, said_of weight) ∷ []) d.0 d.1) (sym (same one l)) (put_done host link.end link.peer ((frames.Data n short, said_of weight) ∷ []) _ d (ap (λ (k : Link). puts_and_wants (frames.Data n short, weight) k host) (sym (same one l)) ∙ done) (put_and_wanted host link link.given (frames.Data n short, weight) own)))) (λ e. tt))))) where
      P : Result (List Step × HostState) EndError → Type 0
      P r = AllPut host link.end link.peer ((frames.Data id payload, said_of weight) ∷ []) r

      same : (one : Link) → found_or (find (carries end conn) host.links) ≡ Ok one → one ≡ link
      same one l = one_of one link (sym (found_some (find (carries end conn) host.links) one l) ∙ found)

      num : (one : Link) (n : ℕ) → one ≡ link → found_or (id_of one.given conn) ≡ Ok n → n ≡ id
      num one n s i = one_of n id (sym (found_some (id_of one.given conn) n i) ∙ ap (λ (k : Link). id_of k.given conn) s ∙ has)

      goes : (d : List Step × HostState) (n : ℕ) (short : List ℕ) → {one : Link} → one ≡ link → n ≡ id → short_enough payload ≡ Ok short → Puts host one.end one.peer ((frames.Data n short, said_of weight) ∷ []) d.0 d.1 → Puts host link.end link.peer ((frames.Data id payload, said_of weight) ∷ []) d.0 d.1
      goes d n short s k m p = subst (λ (q : List ℕ). Puts host link.end link.peer ((frames.Data id q, said_of weight) ∷ []) d.0 d.1) (sym (short_same payload short m)) (subst (λ (j : ℕ). Puts host link.end link.peer ((frames.Data j short, said_of weight) ∷ []) d.0 d.1) k (subst (λ (l : Link). Puts host l.end l.peer ((frames.Data n short, said_of weight) ∷ []) d.0 d.1) s p))

-- a connection is closed
pub close_puts : (host : HostState) (end conn : ℕ) (link : Link) (given : ℕ × List Connection) → find (carries end conn) host.links ≡ Some link → link_with host link.end link.peer ≡ link → of_ids (close_of link.given conn) ≡ Ok given → AllPut host link.end link.peer ((frames.Closed given.0, None) ∷ []) (host_close host end conn)
unfolding host_close
close_puts host end conn link given found own is = bound P (found_or (find (carries end conn) host.links)) _ (λ e. tt) (λ one l. bound P (of_ids (close_of one.given conn)) _ (λ e. tt) (λ done g.
    asked_all P (puts (frames.Closed done.0, Free) (record one { given = done.1 }) host) (λ d e. put_done host link.end link.peer ((frames.Closed given.0, None) ∷ []) _ d (goes one done (same one l) g ∙ e) (put_alone host link given.1 (frames.Closed given.0, Free) own)) (λ e. tt))) where
      P : Result (List Step × HostState) EndError → Type 0
      P r = AllPut host link.end link.peer ((frames.Closed given.0, None) ∷ []) r

      same : (one : Link) → found_or (find (carries end conn) host.links) ≡ Ok one → one ≡ link
      same one l = one_of one link (sym (found_some (find (carries end conn) host.links) one l) ∙ found)

      goes : (one : Link) (done : ℕ × List Connection) → one ≡ link → of_ids (close_of one.given conn) ≡ Ok done → puts (frames.Closed given.0, Free) (record link { given = given.1 }) host ≡ puts (frames.Closed done.0, Free) (record one { given = done.1 }) host
      goes one done s g = ap (λ (x : ℕ × List Connection). puts (frames.Closed x.0, Free) (record link { given = x.1 }) host) (sym (one_given done given (sym g ∙ ap (λ (k : Link). of_ids (close_of k.given conn)) s ∙ is))) ∙ ap (λ (k : Link). puts (frames.Closed done.0, Free) (record k { given = done.1 }) host) (sym s)

-- ---- one thing and then another

pub puts_then : (host mid after : HostState) (end : ℕ) (peer : Address) (xs ys : List Placed) (told more : List Step) → Puts host end peer xs told mid → Puts mid end peer ys more after → Puts host end peer (xs ++ ys) (told ++ more) after
puts_then host mid after end peer xs ys told more a b = record {
  up = λ sock probed e. let one = a.up sock probed e in let two = b.up sock probed one.0 in (two.0, two.1 ∙ one.1, ap (λ (l : List Step). l ++ more) one.2 ∙ ap (λ (l : List Step). map (write_step sock) xs ++ l) two.2 ∙ sym (map-append (write_step sock) xs ys));
  down = λ off. let one = a.down off in let two = b.down one.0 in (two.0, two.1 ∙ ap (λ (l : List Placed). l ++ ys) one.1 ∙ append_assoc (waiting_as (link_with host end peer).waits) xs ys, both one.2 two.2);
  others = λ e p h. b.others e p h ∙ a.others e p h;
} where
  both : DialsFrom (link_with host end peer) (link_with mid end peer) told → DialsFrom (link_with mid end peer) (link_with after end peer) more → DialsFrom (link_with host end peer) (link_with after end peer) (told ++ more)
  both (inl e) (inl f) = inl (ap (λ (l : List Step). l ++ more) e.0 ∙ f.0, f.1 ∙ e.1)
  both (inl e) (inr f) = inr (sym e.1 ∙ f.0, (f.1.0, f.1.1, f.1.2, ap (λ (l : List Step). l ++ more) e.0 ∙ f.1.3, f.1.4))
  both (inr e) (inl f) = inr (e.0, (e.1.0, e.1.1, e.1.2, ap (λ (l : List Step). l ++ more) e.1.3 ∙ ap (λ (l : List Step). steps.Dial e.1.0 e.1.1 e.1.2 ∷ l) f.0, f.1 ∙ e.1.4))
  both (inr e) (inr f) = let no : states.Dialing e.1.0 ≡ states.Idle = sym e.1.4 ∙ f.0 in absurd cc

pub puts_none : (host : HostState) (end : ℕ) (peer : Address) → Puts host end peer [] [] host
puts_none host end peer = record {
  up = λ sock probed e. (e, refl, refl);
  down = λ off. (off, sym (append-nil (waiting_as (link_with host end peer).waits)), inl (refl, refl));
  others = λ e p h. refl;
}
