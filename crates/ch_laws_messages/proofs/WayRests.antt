-- Turns in which nothing is read or written: what was written towards each end is as it was.
use Rattle.std.proofs.Common.{◌≡◌, inl, ℕ, Bool, true, false, cond, List, [], ◌∷◌, ◌++◌, refl, sym, ap, ◌∙◌, subst}
use Rattle.std.proofs.lemmas.List.{append-nil}
use Rattle.std.proofs.lemmas.List.Elements.{filter_map-append}
use Rattle.std.specs.Prelude.{find, Option, Some, None, ◌==◌}
use Rattle.ch_model.specs.declared.entry.Entry.{Entry}
use Rattle.ch_model.specs.declared.line.Line.{Line}
use Rattle.ch_model.specs.declared.name.End.{End}
use Rattle.ch_model.specs.declared.name.SockName.{SockName}
use Rattle.ch_model.specs.declared.step.Place.{Place}
use Rattle.ch_model.specs.AccountsFrames.{Saying}
use Rattle.ch_model.specs.Same.{across}
use Rattle.ch_model.specs.Sockets.{writings}
use Rattle.ch_model.specs.WorldSockets.{end_of, is_socket_named}
use Rattle.ch_model.specs.WorldState.{WorldSocket, World}
use Rattle.ch_race.specs.Pair.{Side, other}
use Rattle.ch_laws_bytes.specs.Streams.{Reader, reader_of, first_at, is_over}
use Rattle.ch_laws_race.specs.Scene.{Party}
use Rattle.ch_laws_places.proofs.Sockets.{reads_for}
use Rattle.ch_laws_peers.specs.Words.{sayings}
use Rattle.ch_laws_peers.specs.Says.{Says}
use Rattle.ch_laws_peers.specs.Reads.{PlacedItem, placed_in, AreTruly, IsWay}
use Rattle.ch_laws_messages.specs.WayGoes.{written_frames, IsGoing, new_for, EndTurn, AllTurn, GoTruly}
use Rattle.ch_laws_messages.proofs.WayItems.{new_cases}
use Rattle.ch_laws_messages.proofs.WayPairs.{wrote_true, truly_bare}
use Rattle.ch_laws_messages.proofs.WayWays.{way_frames}

-- the same items are read, of the same bytes
abbrev pub SameText : Option Reader → List ℕ → Option Reader → List ℕ → Type 0
SameText before unread None left = Unit {0}
SameText None unread (Some now) left = ⊥
SameText (Some reader) unread (Some now) left = (now.0 ≡ reader.0) × (now.1 ++ left ≡ reader.1 ++ unread)

pub text_same : (reader : Option Reader) (unread : List ℕ) → SameText reader unread reader unread
text_same None unread = tt
text_same (Some reader) unread = (refl, refl)

-- nothing is new, nowhere
abbrev pub none_new : ℕ → List PlacedItem
none_new n = []

rests_on : (reader now : Option Reader) (e : End) (unread left : List ℕ) (before after : List (Option Place)) (wrote : List (List ℕ)) (said next : List Saying) (w : IsWay reader (first_at e) unread before wrote said) → SameText reader unread now left → after ≡ before → AreTruly next (written_frames said wrote ++ [])
    → IsGoing reader now (first_at e) unread left before after wrote [] said next 0 w []
rests_on reader None e unread left before after wrote said next w t p truly = tt
rests_on None (Some now) e unread left before after wrote said next w t p truly = absurd t
rests_on (Some reader) (Some now) e unread left before after wrote said next w t p truly = record {
  then_way = record {
    gone = w.gone;
    all = w.all;
    is = append-nil wrote ∙ w.is;
    may = w.may;
    at = t.0 ∙ w.at;
    bytes = t.1 ∙ w.bytes;
    stand = p ∙ w.stand;
    truly = subst (AreTruly next) (append-nil (written_frames said wrote) ∙ way_frames reader e unread before wrote said w) truly;
  };
  taken = [];
  many = refl;
  gone = sym (append-nil w.gone);
  others = w.all;
  split = refl;
}

none_read : (c m : Option ℕ) → reads_for 0 [] c m ≡ 0
none_read None m = refl
none_read (Some p) None = refl
none_read (Some p) (Some n) = by_test (p == 0) where
  by_test : (b : Bool) → ◌≡◌ {A = ℕ} (cond b 0 0) 0
  by_test true = refl
  by_test false = refl

none_for : (c m : Option ℕ) → new_for 0 none_new c m ≡ []
none_for c m = new_cases 0 none_new c m (λ (l : List PlacedItem). l ≡ []) refl (λ n h g. refl)

-- the socket was there, and what is read at its ends is the same
pub record Rests (world after : World) (s : SockName) (socket : WorldSocket) : Type 0 where
  pub before : WorldSocket
  pub found : find (is_socket_named s) world.sockets ≡ Some before
  pub texts : (e : End) → SameText (reader_of world before e) (end_of e before).unread (reader_of after socket e) (end_of e socket).unread
  pub places : (e : End) → (end_of e socket).places ≡ (end_of e before).places
  pub lives : (e : End) → is_over (end_of e socket) ≡ false → is_over (end_of e before) ≡ false
  pub number : (e : End) (n : ℕ) → (end_of e before).number ≡ Some n → (end_of e socket).number ≡ Some n

pub rest_turn : (log : List Entry) (world : World) (after_log : List Entry) (after : World) (s : SockName) (socket : WorldSocket) (e : End) → Rests world after s socket → writings after_log s e ≡ writings log s e → EndTurn 0 [] none_new log world after_log after s socket e
rest_turn log world after_log after s socket e r wrote = record {
  before = r.before;
  found = r.found;
  lives = r.lives (across e);
  number = r.number e;
  more = [];
  wrote = wrote ∙ sym (append-nil (writings log s e));
  goes = λ said next live w truly. going said next w truly;
} where
  reader : Option Reader
  reader = reader_of world r.before (across e)

  now : Option Reader
  now = reader_of after socket (across e)

  Going : (said next : List Saying) → IsWay reader (first_at (across e)) (end_of (across e) r.before).unread (end_of (across e) r.before).places (writings log s e) said → ℕ → List PlacedItem → Type 0
  Going said next w count new = IsGoing reader now (first_at (across e)) (end_of (across e) r.before).unread (end_of (across e) socket).unread (end_of (across e) r.before).places (end_of (across e) socket).places (writings log s e) [] said next count w new

  new : List PlacedItem
  new = new_for 0 none_new (end_of e r.before).cell (end_of e r.before).number

  none : new ≡ []
  none = none_for (end_of e r.before).cell (end_of e r.before).number

  going : (said next : List Saying) (w : IsWay reader (first_at (across e)) (end_of (across e) r.before).unread (end_of (across e) r.before).places (writings log s e) said) → AreTruly next (written_frames said (writings log s e) ++ placed_in new) → Going said next w (reads_for 0 [] (end_of (across e) r.before).cell (end_of (across e) r.before).number) new
  going said next w truly = subst (λ (k : ℕ). Going said next w k new) (sym (none_read (end_of (across e) r.before).cell (end_of (across e) r.before).number)) (subst (Going said next w 0) (sym none)
      (rests_on reader now (across e) (end_of (across e) r.before).unread (end_of (across e) socket).unread (end_of (across e) r.before).places (end_of (across e) socket).places (writings log s e) said next w (r.texts (across e)) (r.places (across e))
      (subst (λ (l : List PlacedItem). AreTruly next (written_frames said (writings log s e) ++ placed_in l)) none truly)))

-- all rest
pub rest_turns : (log : List Entry) (world : World) (after_log : List Entry) (after : World) → ((s : SockName) (socket : WorldSocket) → find (is_socket_named s) after.sockets ≡ Some socket → Rests world after s socket) → ((s : SockName) → find (is_socket_named s) after.sockets ≡ None → find (is_socket_named s) world.sockets ≡ None)
    → ((s : SockName) (e : End) → writings after_log s e ≡ writings log s e) → AllTurn 0 [] none_new log world after_log after
rest_turns log world after_log after rests none wrote = record { ends = λ s socket e found. inl (rest_turn log world after_log after s socket e (rests s socket found) (wrote s e)); unopened = λ s e gone. (none s gone, wrote s e) }

-- and what was written is as true as it was
pub rest_truly : (journal : List Line) (log : List Entry) (world : World) (more : List Entry) (after : World) (party : Side → Party) (x : Side) → Says journal log world party x → GoTruly 0 [] none_new log world (log ++ more) after party x
rest_truly journal log world more after party x says s e socket of found t = subst (λ (l : List PlacedItem). AreTruly (sayings (party x).name (party (other x)).name (log ++ more)) (written_frames (sayings (party x).name (party (other x)).name log) (writings log s e) ++ placed_in l)) (sym (none_for (end_of e t.before).cell (end_of e t.before).number))
    (truly_bare journal log more party x s e [] (wrote_true journal log world party x s e says of) tt)

-- ---- the log alone

pub wrote_none : (log : List Entry) (entry : Entry) (s : SockName) (e : End) → writings (entry ∷ []) s e ≡ [] → writings (log ++ entry ∷ []) s e ≡ writings log s e
wrote_none log entry s e none = filter_map-append _ log (entry ∷ []) ∙ ap (λ (l : List (List ℕ)). writings log s e ++ l) none ∙ append-nil (writings log s e)

pub told_turns : (log : List Entry) (world : World) (entry : Entry) → ((s : SockName) (e : End) → writings (entry ∷ []) s e ≡ []) → AllTurn 0 [] none_new log world (log ++ entry ∷ []) world
told_turns log world entry none = rest_turns log world (log ++ entry ∷ []) world (λ s socket found. record { before = socket; found = found; texts = λ e. text_same (reader_of world socket e) (end_of e socket).unread; places = λ e. refl; lives = λ e h. h; number = λ e n h. h }) (λ s gone. gone) (λ s e. wrote_none log entry s e (none s e))
