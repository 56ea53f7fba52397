-- All that an endpoint asks of its host, one call after another: what is written then is plain.
use Rattle.std.proofs.Common.{◌≡◌, ◌⊎◌, inl, inr, ℕ, Bool, true, false, cond, List, [], ◌++◌, refl, sym, ap, ◌∙◌, subst}
use Rattle.std.proofs.lemmas.List.{map-append}
use Rattle.std.specs.Prelude.{None, ◌==◌}
use Rattle.ch_base.specs.declared.address.Address.{Address}
use Rattle.ch_wire.specs.declared.frame.Frame.{Frame}
use Rattle.ch_reader.specs.Items.{spellings}
use Rattle.ch_reader.specs.declared.item.Item.TheVariants as items
use Rattle.ch_light.specs.declared.Connection.{Connection}
use Rattle.ch_link.specs.declared.LinkState.TheVariants as states
use Rattle.ch_model.specs.declared.step.Step.{Step}
use Rattle.ch_model.specs.HostState.{Link, HostState}
use Rattle.ch_model.specs.HostSteps.{link_with}
use Rattle.ch_model.specs.HostWrites.{is_up}
use Rattle.ch_laws_items.proofs.Sockets.{number_is}
use Rattle.ch_laws_writes.proofs.Ordered.{is_key, at_key}
use Rattle.ch_laws_calls.specs.FitsTurns.{bytes_at}
use Rattle.ch_laws_plain.specs.Streams.{IsPlainStream}
use Rattle.ch_laws_plain.specs.Talks.{frames_of, items_of, LinkIsPlain, HostIsPlain, MaySpell, IsAdded, Adds, IsUpThere, Speaks}
use Rattle.ch_laws_plain.proofs.Streams.{plain_append}
use Rattle.ch_laws_plain.proofs.Talks.{clash, bytes_append, spelled_append, spell_append, up_not}

-- nothing is asked
pub speaks_nothing : (host : HostState) → HostIsPlain host → Speaks host [] host
speaks_nothing host p = record { plain = p; sockets = λ n known f. f; created = λ e q. refl; said = λ n. []; spelled = λ n. refl; may = λ n. tt; streams = λ n. refl; where_up = λ n. inl refl; up_still = λ n u. u }

-- one thing and then another
pub speaks_then : (host mid after : HostState) (told more : List Step) → Speaks host told mid → Speaks mid more after → Speaks host (told ++ more) after
speaks_then host mid after told more a b = record {
  plain = b.plain;
  sockets = λ n known f. b.sockets n known (a.sockets n known f);
  created = λ e q. b.created e q ∙ a.created e q;
  said = λ n. a.said n ++ b.said n;
  spelled = λ n. bytes_append n told more ∙ ap (λ (l : List ℕ). l ++ bytes_at n more) (a.spelled n) ∙ ap (λ (l : List ℕ). spellings (items_of (a.said n)) ++ l) (b.spelled n) ∙ sym (spelled_append (items_of (a.said n)) (items_of (b.said n)))
      ∙ ap spellings (sym (map-append (λ (frame : Frame). items.Frame frame) (a.said n) (b.said n)));
  may = λ n. spell_append (a.said n) (b.said n) (a.may n) (b.may n);
  streams = λ n. plain_append (a.said n) (b.said n) None None None (a.streams n) (b.streams n);
  where_up = λ n. either n (a.where_up n) (b.where_up n);
  up_still = λ n u. a.up_still n (b.up_still n u);
} where
  either : (n : ℕ) → (a.said n ≡ []) ⊎ IsUpThere host n → (b.said n ≡ []) ⊎ IsUpThere mid n → (a.said n ++ b.said n ≡ []) ⊎ IsUpThere host n
  either n (inr u) o = inr u
  either n (inl e) (inl f) = inl (ap (λ (l : List Frame). l ++ b.said n) e ∙ f)
  either n (inl e) (inr u) = inr (a.up_still n u)

-- frames that are put on a link
pub adds_speak : (host after : HostState) (end : ℕ) (peer : Address) (given : List Connection) (xs : List Frame) (told : List Step) → HostIsPlain host → IsPlainStream xs → Adds host end peer given xs told after → Speaks host told after
adds_speak host after end peer given xs told p stream a = by_added a.added where
  one : Link
  one = link_with host end peer

  two : Link
  two = link_with after end peer

  by_key : LinkIsPlain two → HostIsPlain after
  by_key now e q = by_test (is_key end peer e q) refl where
    by_test : (b : Bool) → is_key end peer e q ≡ b → LinkIsPlain (link_with after e q)
    by_test true h = at_key (λ m x. LinkIsPlain (link_with after m x)) end peer e q h now
    by_test false h = subst LinkIsPlain (sym (a.others e q h)) (p e q)

  created : (e : ℕ) (q : Address) → (link_with after e q).created ≡ (link_with host e q).created
  created e q = by_test (is_key end peer e q) refl where
    by_test : (b : Bool) → is_key end peer e q ≡ b → (link_with after e q).created ≡ (link_with host e q).created
    by_test true h = at_key (λ m x. (link_with after m x).created ≡ (link_with host m x).created) end peer e q h a.created
    by_test false h = ap (λ (l : Link). l.created) (a.others e q h)

  -- a link that is up is another, or was up there
  still : ((n : ℕ) (probed : Bool) → two.state ≡ states.Up n probed → IsUpThere host n) → (n : ℕ) → IsUpThere after n → IsUpThere host n
  still own n u = by_test (is_key end peer u.end u.peer) refl where
    by_test : (b : Bool) → is_key end peer u.end u.peer ≡ b → IsUpThere host n
    by_test true h = own n u.probed (at_key (λ m x. (link_with after end peer).state ≡ (link_with after m x).state) end peer u.end u.peer h refl ∙ u.up)
    by_test false h = record { end = u.end; peer = u.peer; probed = u.probed; up = ap (λ (l : Link). l.state) (sym (a.others u.end u.peer h)) ∙ u.up }

  by_added : IsAdded one two xs told → Speaks host told after
  by_added (inl w) = record {
    plain = by_key (record { up = λ h. w.2.waits ∙ (p end peer).up (ap is_up w.2.was); waits = λ h. up_not two.state w.0 w.1 w.2.now h; created = λ h. up_not two.state w.0 w.1 w.2.now h });
    sockets = a.sockets;
    created = created;
    said = λ n. cond (w.0 == n) xs [];
    spelled = λ n. w.2.bytes n ∙ spelled_at (w.0 == n);
    may = λ n. may_at (w.0 == n);
    streams = λ n. stream_at (w.0 == n);
    where_up = λ n. up_at n (w.0 == n) refl;
    up_still = still (λ n probed e. record { end = end; peer = peer; probed = probed; up = w.2.was ∙ sym w.2.now ∙ e });
  } where
    spelled_at : (b : Bool) → cond b (spellings (items_of xs)) [] ≡ spellings (items_of (cond b xs []))
    spelled_at true = refl
    spelled_at false = refl

    may_at : (b : Bool) → MaySpell (cond b xs [])
    may_at true = a.spelled
    may_at false = tt

    stream_at : (b : Bool) → IsPlainStream (cond b xs [])
    stream_at true = stream
    stream_at false = refl

    up_at : (n : ℕ) (b : Bool) → (w.0 == n) ≡ b → (cond b xs [] ≡ []) ⊎ IsUpThere host n
    up_at n true h = inr (record { end = end; peer = peer; probed = w.1; up = w.2.was ∙ ap (λ (m : ℕ). states.Up m w.1) (number_is w.0 n h) })
    up_at n false h = inl refl
  by_added (inr w) = record {
    plain = by_key (record { up = λ h. clash (sym h ∙ w.now); waits = λ h. subst IsPlainStream (sym w.waits) (plain_append (frames_of one.waits) xs None None None ((p end peer).waits w.was) stream); created = λ h. a.created ∙ (p end peer).created w.was });
    sockets = a.sockets;
    created = created;
    said = λ n. [];
    spelled = w.bytes;
    may = λ n. tt;
    streams = λ n. refl;
    where_up = λ n. inl refl;
    up_still = still (λ n probed e. up_not two.state n probed e w.now);
  }
