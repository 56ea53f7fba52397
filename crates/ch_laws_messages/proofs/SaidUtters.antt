-- What a host does to its links in a turn, put together.
use Rattle.std.proofs.Common.{◌≡◌, ◌⊎◌, inl, inr, ℕ, Bool, true, false, cond, List, [], ◌∷◌, ◌++◌, refl, sym, ap, ◌∙◌, subst, append_assoc}
use Rattle.std.proofs.lemmas.List.{append-nil, map-append}
use Rattle.std.specs.Prelude.{Option, Some, ◌==◌}
use Rattle.ch_base.specs.declared.address.Address.{Address}
use Rattle.ch_link.specs.declared.LinkState.{LinkState}
use Rattle.ch_link.specs.declared.LinkState.TheVariants as states
use Rattle.ch_wire.specs.Spelling.{frame_spelling}
use Rattle.ch_model.specs.declared.step.Step.{Step}
use Rattle.ch_model.specs.declared.step.Step.TheVariants as steps
use Rattle.ch_model.specs.HostState.{Link, Socket, HostState}
use Rattle.ch_model.specs.HostSteps.{link_with}
use Rattle.ch_model.specs.HostWrites.{is_up}
use Rattle.ch_laws_calls.specs.FitsTurns.{NoDials}
use Rattle.ch_laws_ids.specs.Runs.{pieces_at}
use Rattle.ch_laws_links.specs.Naming.{IsNaming}
use Rattle.ch_laws_links.proofs.Says.{risen}
use Rattle.ch_laws_plain.specs.Talks.{MaySpell, IsUpThere}
use Rattle.ch_laws_plain.proofs.Talks.{spell_append}
use Rattle.ch_laws_writes.proofs.Ordered.{is_key, key_self, at_key}
use Rattle.ch_laws_writes.proofs.Worlds.{number_is, number_same}
use Rattle.ch_laws_peers.specs.Words.{Placed, waiting_as}
use Rattle.ch_laws_messages.specs.SaidGoes.{bare}
use Rattle.ch_laws_messages.specs.SaidPuts.{spelled, DialsFrom, Puts, Utters, DialsOne, only_on}
use Rattle.ch_laws_messages.proofs.SaidWritten.{writes_at, write_none}

-- links stay as they are, and nothing is written
pub utters_none : (host : HostState) (told : List Step) (after : HostState) → ((e : ℕ) (p : Address) → link_with after e p ≡ link_with host e p) → ((n : ℕ) → pieces_at n told ≡ []) → Utters host told after (λ e p. [])
utters_none host told after same none = record {
  up = λ e p sock probed up. ((probed, ap (λ (l : Link). l.state) (same e p) ∙ up), ap (λ (l : Link). l.waits) (same e p), none sock);
  down = λ e p off. (ap (λ (l : Link). is_up l.state) (same e p) ∙ off, ap (λ (l : Link). waiting_as l.waits) (same e p) ∙ sym (append-nil (waiting_as (link_with host e p).waits)));
  where_up = λ n. inl (none n);
  may = λ e p. tt;
}

-- two links aren't up on one socket
pub one_key : (host : HostState) (end : ℕ) (peer : Address) (e : ℕ) (p : Address) (n : ℕ) (a b : Bool) → IsNaming host → (link_with host end peer).state ≡ states.Up n a → (link_with host e p).state ≡ states.Up n b → is_key end peer e p ≡ true
one_key host end peer e p n a b naming one two =
    let first = risen host end peer n a naming one in
    let second = risen host e p n b naming two in
    let same : first.0 ≡ second.0 = some_is (sym first.1 ∙ second.1) in
    let users : (end, peer) ≡ (e, p) = user_is (sym first.2.user ∙ ap (λ (s : Socket). s.user) same ∙ second.2.user) in
    subst (λ (k : ℕ × Address). is_key end peer k.0 k.1 ≡ true) users (key_self end peer)
  where
    some_is : {A : Type 0} {x y : A} → ◌≡◌ {A = Option A} (Some x) (Some y) → x ≡ y
    some_is e = cc

    user_is : {x y : ℕ × Address} → ◌≡◌ {A = Option (ℕ × Address)} (Some x) (Some y) → x ≡ y
    user_is e = cc

-- one link alone
pub puts_utters : (host : HostState) (end : ℕ) (peer : Address) (new : List Placed) (told : List Step) (after : HostState) → IsNaming host → MaySpell (bare new) → Puts host end peer new told after → Utters host told after (only_on end peer new)
puts_utters host end peer new told after naming may p = record {
  up = λ e q sock probed up. up_by e q sock probed up (is_key end peer e q) refl;
  down = λ e q off. down_by e q off (is_key end peer e q) refl;
  where_up = λ n. written_by n (link_with host end peer).state refl;
  may = λ e q. may_by (is_key end peer e q);
} where
  may_by : (b : Bool) → MaySpell (bare (cond b new []))
  may_by true = may
  may_by false = tt

  none_dialed : DialsFrom (link_with host end peer) (link_with after end peer) told → (n : ℕ) → pieces_at n told ≡ []
  none_dialed (inl e) n = ap (pieces_at n) e.0
  none_dialed (inr e) n = ap (pieces_at n) e.1.3

  -- what is written on a socket, by the state of the link
  pieces_by : (n : ℕ) (state : LinkState) → (link_with host end peer).state ≡ state → (pieces_at n told ≡ []) ⊎ ((probed : Bool) × ((link_with host end peer).state ≡ states.Up n probed) × (pieces_at n told ≡ spelled new))
  pieces_by n (states.Up sock probed) is = by_test (sock == n) refl where
    wrote : pieces_at n told ≡ cond (sock == n) (spelled new) []
    wrote = ap (pieces_at n) (p.up sock probed is).2 ∙ writes_at sock n new

    by_test : (b : Bool) → (sock == n) ≡ b → (pieces_at n told ≡ []) ⊎ ((probed : Bool) × ((link_with host end peer).state ≡ states.Up n probed) × (pieces_at n told ≡ spelled new))
    by_test true h = inr (probed, is ∙ ap (λ (m : ℕ). states.Up m probed) (number_is sock n h), wrote ∙ ap (λ (b : Bool). cond b (spelled new) []) h)
    by_test false h = inl (wrote ∙ ap (λ (b : Bool). cond b (spelled new) []) h)
  pieces_by n (states.Dialing sock) is = inl (none_dialed (p.down (ap is_up is)).2 n)
  pieces_by n states.AwaitOther is = inl (none_dialed (p.down (ap is_up is)).2 n)
  pieces_by n states.Idle is = inl (none_dialed (p.down (ap is_up is)).2 n)

  written_by : (n : ℕ) (state : LinkState) → (link_with host end peer).state ≡ state → (pieces_at n told ≡ []) ⊎ IsUpThere host n
  written_by n state is = either (pieces_by n state is) where
    either : (pieces_at n told ≡ []) ⊎ ((probed : Bool) × ((link_with host end peer).state ≡ states.Up n probed) × (pieces_at n told ≡ spelled new)) → (pieces_at n told ≡ []) ⊎ IsUpThere host n
    either (inl none) = inl none
    either (inr k) = inr (record { end = end; peer = peer; probed = k.0; up = k.1 })

  Ups : ℕ → Address → ℕ → Bool → List Placed → Type 0
  Ups e q sock probed l = ((now : Bool) × ((link_with after e q).state ≡ states.Up sock now)) × ((link_with after e q).waits ≡ (link_with host e q).waits) × (pieces_at sock told ≡ spelled l)

  own_up : (sock : ℕ) (probed : Bool) → (link_with host end peer).state ≡ states.Up sock probed → Ups end peer sock probed new
  own_up sock probed is = let k = p.up sock probed is in ((probed, k.0), k.1, ap (pieces_at sock) k.2 ∙ writes_at sock sock new ∙ ap (λ (b : Bool). cond b (spelled new) []) (number_same sock))

  other_none : (e : ℕ) (q : Address) (sock : ℕ) (probed : Bool) → (link_with host e q).state ≡ states.Up sock probed → is_key end peer e q ≡ false → pieces_at sock told ≡ []
  other_none e q sock probed is h = either (pieces_by sock (link_with host end peer).state refl) where
    either : (pieces_at sock told ≡ []) ⊎ ((now : Bool) × ((link_with host end peer).state ≡ states.Up sock now) × (pieces_at sock told ≡ spelled new)) → pieces_at sock told ≡ []
    either (inl none) = none
    either (inr k) = let no : true ≡ false = sym (one_key host end peer e q sock k.0 probed naming k.1 is) ∙ h in absurd cc

  up_by : (e : ℕ) (q : Address) (sock : ℕ) (probed : Bool) → (link_with host e q).state ≡ states.Up sock probed → (b : Bool) → is_key end peer e q ≡ b → Ups e q sock probed (cond b new [])
  up_by e q sock probed is true h = at_key (λ m a. (link_with host m a).state ≡ states.Up sock probed → Ups m a sock probed new) end peer e q h (own_up sock probed) is
  up_by e q sock probed is false h = ((probed, ap (λ (l : Link). l.state) (p.others e q h) ∙ is), ap (λ (l : Link). l.waits) (p.others e q h), other_none e q sock probed is h)

  Downs : ℕ → Address → List Placed → Type 0
  Downs e q l = (is_up (link_with after e q).state ≡ false) × (waiting_as (link_with after e q).waits ≡ waiting_as (link_with host e q).waits ++ l)

  own_down : is_up (link_with host end peer).state ≡ false → Downs end peer new
  own_down off = let k = p.down off in (k.0, k.1)

  down_by : (e : ℕ) (q : Address) → is_up (link_with host e q).state ≡ false → (b : Bool) → is_key end peer e q ≡ b → Downs e q (cond b new [])
  down_by e q off true h = at_key (λ m a. is_up (link_with host m a).state ≡ false → Downs m a new) end peer e q h own_down off
  down_by e q off false h = (ap (λ (l : Link). is_up l.state) (p.others e q h) ∙ off, ap (λ (l : Link). waiting_as l.waits) (p.others e q h) ∙ sym (append-nil (waiting_as (link_with host e q).waits)))

-- and what it dials
pub puts_dial : (host : HostState) (end : ℕ) (peer : Address) (new : List Placed) (told : List Step) (after : HostState) → Puts host end peer new told after → DialsOne told
puts_dial host end peer new told after p = by_state (link_with host end peer).state refl where
  dialed : DialsFrom (link_with host end peer) (link_with after end peer) told → DialsOne told
  dialed (inl e) = inl (subst NoDials (sym e.0) tt)
  dialed (inr e) = inr (e.1.0, e.1.1, e.1.2, e.1.3)

  by_state : (state : LinkState) → (link_with host end peer).state ≡ state → DialsOne told
  by_state (states.Up sock probed) is = inl (subst NoDials (sym (p.up sock probed is).2) (write_none sock new))
  by_state (states.Dialing sock) is = dialed (p.down (ap is_up is)).2
  by_state states.AwaitOther is = dialed (p.down (ap is_up is)).2
  by_state states.Idle is = dialed (p.down (ap is_up is)).2

-- ---- one thing and then another

pub pieces_append : (n : ℕ) (xs ys : List Step) → pieces_at n (xs ++ ys) ≡ pieces_at n xs ++ pieces_at n ys
pieces_append n [] ys = refl
pieces_append n (steps.Write sock bytes said ∷ rest) ys = by_test (sock == n) (pieces_append n rest ys) where
  by_test : (b : Bool) → pieces_at n (rest ++ ys) ≡ pieces_at n rest ++ pieces_at n ys → cond b (bytes ∷ pieces_at n (rest ++ ys)) (pieces_at n (rest ++ ys)) ≡ cond b (bytes ∷ pieces_at n rest) (pieces_at n rest) ++ pieces_at n ys
  by_test true e = ap (λ (l : List (List ℕ)). bytes ∷ l) e
  by_test false e = e
pieces_append n (step ∷ rest) ys = pieces_append n rest ys

pub utters_then : (host mid after : HostState) (told more : List Step) (one two : ℕ → Address → List Placed) → Utters host told mid one → Utters mid more after two → Utters host (told ++ more) after (λ e p. one e p ++ two e p)
utters_then host mid after told more one two a b = record {
  up = λ e p sock probed is. let first = a.up e p sock probed is in let second = b.up e p sock first.0.0 first.0.1 in
      (second.0, second.1 ∙ first.1, pieces_append sock told more ∙ ap (λ (l : List (List ℕ)). l ++ pieces_at sock more) first.2 ∙ ap (λ (l : List (List ℕ)). spelled (one e p) ++ l) second.2 ∙ sym (map-append (λ (x : Placed). frame_spelling x.0) (one e p) (two e p)));
  down = λ e p off. let first = a.down e p off in let second = b.down e p first.0 in (second.0, second.1 ∙ ap (λ (l : List Placed). l ++ two e p) first.1 ∙ append_assoc (waiting_as (link_with host e p).waits) (one e p) (two e p));
  where_up = λ n. either n (a.where_up n) (b.where_up n);
  may = λ e p. subst MaySpell (sym (map-append (λ (x : Placed). x.0) (one e p) (two e p))) (spell_append (bare (one e p)) (bare (two e p)) (a.may e p) (b.may e p));
} where
  number_of : {m n : ℕ} {p q : Bool} → states.Up m p ≡ states.Up n q → m ≡ n
  number_of e = cc

  back : (n : ℕ) → IsUpThere mid n → IsUpThere host n
  back n v = by_state (link_with host v.end v.peer).state refl where
    off : (state : LinkState) → (link_with host v.end v.peer).state ≡ state → is_up state ≡ false → IsUpThere host n
    off state is h = let no : true ≡ false = sym (ap is_up v.up) ∙ (a.down v.end v.peer (ap is_up is ∙ h)).0 in absurd cc

    by_state : (state : LinkState) → (link_with host v.end v.peer).state ≡ state → IsUpThere host n
    by_state (states.Up sock probed) is = let k = (a.up v.end v.peer sock probed is).0 in record { end = v.end; peer = v.peer; probed = probed; up = is ∙ ap (λ (m : ℕ). states.Up m probed) (number_of (sym k.1 ∙ v.up)) }
    by_state (states.Dialing sock) is = off (states.Dialing sock) is refl
    by_state states.AwaitOther is = off states.AwaitOther is refl
    by_state states.Idle is = off states.Idle is refl

  either : (n : ℕ) → (pieces_at n told ≡ []) ⊎ IsUpThere host n → (pieces_at n more ≡ []) ⊎ IsUpThere mid n → (pieces_at n (told ++ more) ≡ []) ⊎ IsUpThere host n
  either n (inr v) o = inr v
  either n (inl e) (inr v) = inr (back n v)
  either n (inl e) (inl f) = inl (pieces_append n told more ∙ ap (λ (l : List (List ℕ)). l ++ pieces_at n more) e ∙ f)
