-- A node writes nothing for itself: no socket leads from it to itself.
use Rattle.std.proofs.Common.{◌≡◌, ℕ, Bool, true, false, cond, not, ◌&&◌, ◌||◌, List, [], ◌∷◌, ◌++◌, refl, sym, ap, ◌∙◌, subst, append_assoc}
use Rattle.std.proofs.lemmas.Bool.{and_parts}
use Rattle.std.proofs.lemmas.Grind.{flat_map-append}
use Rattle.std.proofs.lemmas.Slice.Eq.{bytes_eq-Decides}
use Rattle.std.specs.List.{list_any, list_all}
use Rattle.std.specs.Prelude.{find, Option, Some, None}
use Rattle.std.specs.Str.{bytes_eq}
use Rattle.ch_model.specs.declared.entry.Entry.{Entry}
use Rattle.ch_model.specs.declared.entry.Entry.TheVariants as entries
use Rattle.ch_model.specs.declared.line.Line.{Line}
use Rattle.ch_model.specs.declared.name.End.{End}
use Rattle.ch_model.specs.declared.name.End.TheVariants.{O, T}
use Rattle.ch_model.specs.declared.name.SockName.{SockName}
use Rattle.ch_model.specs.AccountsFrames.{Saying, data_written, is_user_data, next_carried, carried, written_sayings}
use Rattle.ch_model.specs.Declarations.{has_host}
use Rattle.ch_model.specs.Logs.{kept_with, collected_after, never}
use Rattle.ch_model.specs.Same.{same_socket, same_end, owner, across, is_end_of}
use Rattle.ch_model.specs.Sockets.{is_opening, puts, written}
use Rattle.ch_model.specs.World.{names_of}
use Rattle.ch_model.specs.WorldSockets.{is_socket_named}
use Rattle.ch_model.specs.WorldState.{Named, WorldSocket, World}
use Rattle.ch_laws_log.specs.Declared.{is_declared}
use Rattle.ch_laws_log.proofs.Agreeing.{At, Good}
use Rattle.ch_laws_log.proofs.Seen.{written_is, opened_is}
use Rattle.ch_laws_log.proofs.Stored.{same_is, self_same}
use Rattle.ch_laws_log.proofs.Told.{fits_after}
use Rattle.ch_laws_log.proofs.Views.{Seen, unseen, seen_in, end_seen}
use Rattle.ch_laws_calls.specs.Peers.{is_of_peers}
use Rattle.ch_laws_plain_logs.specs.Plain.{is_plain}
use Rattle.ch_laws_peers.specs.Standing.{Standing}
use Rattle.ch_laws_messages.proofs.ArrivedFills.{twice}

-- ---- what is dialed

-- a socket that was opened is between two names
opened_apart : (known : List Named) (s : SockName) (log : List Entry) → list_all (is_of_peers known) log ≡ true → list_all is_plain log ≡ true → list_any (is_opening s) log ≡ true → bytes_eq s.from s.to ≡ false
opened_apart known s [] peers plain h = absurd cc
opened_apart known s (entry ∷ log) peers plain h = by_entry entry parts.0 kinds.0 h (opened_apart known s log parts.1 kinds.1) where
  parts : (is_of_peers known entry ≡ true) × (list_all (is_of_peers known) log ≡ true)
  parts = and_parts (is_of_peers known entry) (list_all (is_of_peers known) log) peers

  kinds : (is_plain entry ≡ true) × (list_all is_plain log ≡ true)
  kinds = and_parts (is_plain entry) (list_all is_plain log) plain

  off : (b : Bool) → not b ≡ true → b ≡ false
  off true h = absurd cc
  off false h = refl

  by_dial : (sock : SockName) (b : Bool) → same_socket sock s ≡ b → is_of_peers known (entries.Dial sock) ≡ true → (b || list_any (is_opening s) log) ≡ true → (list_any (is_opening s) log ≡ true → bytes_eq s.from s.to ≡ false) → bytes_eq s.from s.to ≡ false
  by_dial sock true same p h more = subst (λ (n : SockName). bytes_eq n.from n.to ≡ false) (same_is sock s same) (off (bytes_eq sock.from sock.to) (and_parts (is_declared known sock.to) (not (bytes_eq sock.from sock.to)) (and_parts (is_declared known sock.from) (is_declared known sock.to && not (bytes_eq sock.from sock.to)) p).1).1)
  by_dial sock false same p h more = more h

  by_entry : (x : Entry) → is_of_peers known x ≡ true → is_plain x ≡ true → (is_opening s x || list_any (is_opening s) log) ≡ true → (list_any (is_opening s) log ≡ true → bytes_eq s.from s.to ≡ false) → bytes_eq s.from s.to ≡ false
  by_entry (entries.Dial sock) p k h more = by_dial sock (same_socket sock s) refl p h more
  by_entry (entries.Knocked sock) p k h more = absurd cc
  by_entry x p k h more = more h

-- ---- what is written there

pub no_front : {A : Type 0} (xs ys : List A) → xs ++ ys ≡ [] → xs ≡ []
no_front [] ys e = refl
no_front (x ∷ xs) ys e = absurd cc

no_back : {A : Type 0} (xs ys : List A) → xs ++ ys ≡ [] → ys ≡ []
no_back [] ys e = e
no_back (x ∷ xs) ys e = absurd cc

pub same_itself : (e : End) → same_end e e ≡ true
same_itself O = refl
same_itself T = refl

pub unseen_none : (e : End) → (end_seen e unseen).written ≡ []
unseen_none O = refl
unseen_none T = refl

-- an end of a socket that isn't there has written no bytes
none_wrote : (before rest : List Entry) (s : SockName) (e : End) (bytes : List ℕ) → written (before ++ entries.Wrote s e bytes ∷ rest) s (across e) ≡ [] → bytes ≡ []
none_wrote before rest s e bytes none = sym here ∙ no_front (puts s (across e) x) (written rest s (across e)) (no_back (written before s (across e)) (written (x ∷ rest) s (across e)) (sym (flat_map-append (puts s (across e)) before (x ∷ rest)) ∙ none)) where
  x : Entry
  x = entries.Wrote s e bytes

  here : puts s (across e) x ≡ bytes
  here = ap (λ b. cond (b && same_end e (across (across e))) bytes []) (self_same s) ∙ ap (λ (k : End). cond (same_end e k) bytes []) (twice e) ∙ ap (λ b. cond b bytes []) (same_itself e)

same_names : (s : SockName) (e : End) → owner s e ≡ owner s (across e) → s.from ≡ s.to
same_names s O h = h
same_names s T h = sym h

clash : {A : Type 0} → true ≡ false → A
clash h = absurd cc

module _ (journal : List Line) (log : List Entry) (world : World) (st : Standing journal log world) (x : List ℕ) where
  good : Good journal log world
  good = st.all.sound.ends.sure.ends.sorted.0

  -- none is between a node and itself
  not_there : (s : SockName) → s.from ≡ s.to → (socket : WorldSocket) → find (is_socket_named s) world.sockets ≡ Some socket → ⊥
  not_there s same socket found = clash (sym ((bytes_eq-Decides s.from s.to).1 same) ∙ opened_apart (names_of journal) s log st.peers st.kinds (sym (opened_is log s) ∙ (fits_after journal log world s socket good found).is_opened))

  none_written : (s : SockName) (e : End) → s.from ≡ s.to → written log s e ≡ []
  none_written s e same = by_socket (find (is_socket_named s) world.sockets) refl where
    by_socket : (o : Option WorldSocket) → find (is_socket_named s) world.sockets ≡ o → written log s e ≡ []
    by_socket None none = sym (written_is log s e) ∙ ap (λ (v : Seen). (end_seen e v).written) never_seen ∙ unseen_none e where
      never_seen : seen_in log s ≡ unseen
      never_seen = subst (λ (o : Option WorldSocket). At (has_host journal s.to) (seen_in log s) o) none (good.agrees s)
    by_socket (Some socket) found = absurd (not_there s same socket found)

  -- an entry of the log carries nothing from a node to itself
  carries_none : (before rest : List Entry) (entry : Entry) → before ++ entry ∷ rest ≡ log → carried journal x x before entry ≡ None
  carries_none before rest entry is = by_entry entry refl where
    by_found : (o : Option (ℕ × List ℕ)) → o ≡ None → (elim o as (λ o. Option Saying) [
      | None ↦ None
      | Some d ↦ next_carried journal before x x
    ]) ≡ None
    by_found None e = refl
    by_found (Some d) e = absurd cc

    none_data : (s : SockName) (e : End) (bytes : List ℕ) → bytes ≡ [] → (elim (data_written before s e bytes) as (λ o. Option (ℕ × List ℕ)) [ None ↦ None | Some d ↦ cond (is_user_data journal before s e d) (Some d) None ]) ≡ None
    none_data s e bytes none = ap (λ (l : List ℕ). elim (data_written before s e l) as (λ o. Option (ℕ × List ℕ)) [ None ↦ None | Some d ↦ cond (is_user_data journal before s e d) (Some d) None ]) none

    by_entry : (y : Entry) → entry ≡ y → carried journal x x before y ≡ None
    by_entry (entries.Wrote s e bytes) same = by_end (is_end_of x x s e) refl where
      user : Bool → Option (ℕ × List ℕ)
      user b = cond b (elim (data_written before s e bytes) as (λ o. Option (ℕ × List ℕ)) [ None ↦ None | Some d ↦ cond (is_user_data journal before s e d) (Some d) None ]) None

      by_end : (b : Bool) → is_end_of x x s e ≡ b → carried journal x x before (entries.Wrote s e bytes) ≡ None
      by_end false h = by_found (user (is_end_of x x s e)) (ap user h)
      by_end true h =
          let parts = and_parts (bytes_eq (owner s e) x) (bytes_eq (owner s (across e)) x) h in
          let names : s.from ≡ s.to = same_names s e ((bytes_eq-Decides (owner s e) x).0 parts.0 ∙ sym ((bytes_eq-Decides (owner s (across e)) x).0 parts.1)) in
          let none : bytes ≡ [] = none_wrote before rest s e bytes (ap (λ (l : List Entry). written l s (across e)) (ap (λ (y : Entry). before ++ y ∷ rest) (sym same) ∙ is) ∙ none_written s (across e) names) in
          by_found (user (is_end_of x x s e)) (ap user h ∙ none_data s e bytes none)
    by_entry y same = refl

  carried_none : (before rest : List Entry) → before ++ rest ≡ log → collected_after never (carried journal x x) before [] rest ≡ []
  carried_none before [] is = refl
  carried_none before (entry ∷ rest) is = ap (λ (o : Option Saying). collected_after never (carried journal x x) (before ++ entry ∷ []) (kept_with o []) rest) (carries_none before rest entry is) ∙ carried_none (before ++ entry ∷ []) rest (append_assoc before (entry ∷ []) rest ∙ is)

  -- nothing that a node says to itself is written
  pub none_within : written_sayings journal log x x ≡ []
  none_within = carried_none [] log refl
