-- Where an entry writes a frame, its socket was opened, and so it is between two nodes of the journal.
use Rattle.std.proofs.Common.{◌≡◌, ℕ, Bool, true, false, cond, ◌&&◌, List, [], ◌∷◌, ◌++◌, refl, sym, ap, ◌∙◌, append_assoc}
use Rattle.std.proofs.lemmas.Grind.{flat_map-append}
use Rattle.std.proofs.lemmas.List.{append-nil}
use Rattle.std.proofs.lemmas.Slice.Eq.{bytes_eq-Decides}
use Rattle.std.specs.List.{flat_map, list_any}
use Rattle.std.specs.Prelude.{find, fold, Option, Some, None}
use Rattle.std.specs.Str.{bytes_eq}
use Rattle.ch_wire.specs.declared.frame.Frame.{Frame}
use Rattle.ch_model.specs.declared.entry.Entry.{Entry}
use Rattle.ch_model.specs.declared.entry.Entry.TheVariants as entries
use Rattle.ch_model.specs.declared.line.Line.{Line}
use Rattle.ch_model.specs.declared.name.End.{End}
use Rattle.ch_model.specs.declared.name.End.TheVariants.{O, T}
use Rattle.ch_model.specs.declared.name.SockName.{SockName}
use Rattle.ch_model.specs.AccountsItems.{frame_of}
use Rattle.ch_model.specs.Declarations.{has_host}
use Rattle.ch_model.specs.Same.{owner, across, same_end}
use Rattle.ch_model.specs.Sockets.{is_opening, puts, written}
use Rattle.ch_model.specs.World.{names_of}
use Rattle.ch_model.specs.WorldSockets.{is_socket_named}
use Rattle.ch_model.specs.WorldState.{WorldSocket, World}
use Rattle.ch_laws_log.proofs.Agreeing.{At}
use Rattle.ch_laws_log.proofs.Seen.{grown_is, opened_is}
use Rattle.ch_laws_log.proofs.Stored.{self_same}
use Rattle.ch_laws_log.proofs.Views.{Seen, unseen, grown, sees_entry, seen_in, end_seen}
use Rattle.ch_laws_calls.specs.ScenesPairs.{IsPairFor}
use Rattle.ch_laws_calls.proofs.ScenesPeers.{ArePeers, opened_by_peers}
use Rattle.ch_laws_calls.proofs.ScenesSides.{pairs_of}
use Rattle.ch_laws_peers.specs.Standing.{IsOfNodes, Standing}
use Rattle.ch_laws_messages.proofs.ArrivedWithin.{unseen_none}

-- ---- what was written at a socket that nothing was seen of

written_from : (p : Entry → List ℕ) (get : Seen → List ℕ) (s : SockName) → ((x : Entry) (v : Seen) → get (sees_entry s v x) ≡ grown (get v) (p x)) → (log : List Entry) (v : Seen) → get (fold (sees_entry s) v log) ≡ get v ++ flat_map p log
written_from p get s h [] v = sym (append-nil (get v))
written_from p get s h (x ∷ xs) v = written_from p get s h xs (sees_entry s v x) ∙ ap (λ l. l ++ flat_map p xs) (h x v ∙ grown_is (get v) (p x)) ∙ append_assoc (get v) (p x) (flat_map p xs)

written_is : (log : List Entry) (s : SockName) (e : End) → (end_seen e (seen_in log s)).written ≡ written log s e
written_is log s O = written_from (puts s O) (λ v. v.o.written) s one log unseen where
  one : (x : Entry) (v : Seen) → (sees_entry s v x).o.written ≡ grown v.o.written (puts s O x)
  one (entries.Wrote sock end bytes) v = refl
  one x v = refl
written_is log s T = written_from (puts s T) (λ v. v.t.written) s one log unseen where
  one : (x : Entry) (v : Seen) → (sees_entry s v x).t.written ≡ grown v.t.written (puts s T x)
  one (entries.Wrote sock end bytes) v = refl
  one x v = refl

pub front_none : {A : Type 0} (xs ys : List A) → xs ++ ys ≡ [] → xs ≡ []
front_none [] ys e = refl
front_none (x ∷ xs) ys e = absurd cc

pub back_none : {A : Type 0} (xs ys : List A) → xs ++ ys ≡ [] → ys ≡ []
back_none [] ys e = e
back_none (x ∷ xs) ys e = absurd cc

across_twice : (e : End) → same_end e (across (across e)) ≡ true
across_twice O = refl
across_twice T = refl

none_unseen : (log front rest : List Entry) (s : SockName) (e : End) (bytes : List ℕ) → front ++ entries.Wrote s e bytes ∷ rest ≡ log → seen_in log s ≡ unseen → bytes ≡ []
none_unseen log front rest s e bytes at same = sym puts_it ∙ front_none (puts s (across e) (entries.Wrote s e bytes)) (flat_map (puts s (across e)) rest) (back_none (flat_map (puts s (across e)) front) (flat_map (puts s (across e)) (entries.Wrote s e bytes ∷ rest))
    (sym (flat_map-append (puts s (across e)) front (entries.Wrote s e bytes ∷ rest)) ∙ ap (flat_map (puts s (across e))) at ∙ none)) where
      none : written log s (across e) ≡ []
      none = sym (written_is log s (across e)) ∙ ap (λ (v : Seen). (end_seen (across e) v).written) same ∙ unseen_none (across e)

      puts_it : puts s (across e) (entries.Wrote s e bytes) ≡ bytes
      puts_it = ap (λ (b : Bool). cond b bytes []) (ap (λ (b : Bool). b && same_end e (across (across e))) (self_same s) ∙ across_twice e)

-- ---- whose it is

no_frame : (bytes : List ℕ) (frame : Frame) → bytes ≡ [] → frame_of bytes ≡ Some frame → ⊥
no_frame bytes frame none is = let no : ◌≡◌ {A = Option Frame} None (Some frame) = sym (ap frame_of none) ∙ is in absurd cc

opened : (journal : List Line) (log : List Entry) (world : World) → Standing journal log world → (front rest : List Entry) (s : SockName) (e : End) (bytes : List ℕ) (frame : Frame) → front ++ entries.Wrote s e bytes ∷ rest ≡ log → frame_of bytes ≡ Some frame → list_any (is_opening s) log ≡ true
opened journal log world st front rest s e bytes frame at is = by_socket (find (is_socket_named s) world.sockets) (st.all.sound.ends.sure.ends.sorted.0.agrees s) where
  by_socket : (o : Option WorldSocket) → At (has_host journal s.to) (seen_in log s) o → list_any (is_opening s) log ≡ true
  by_socket None same = absurd (no_frame bytes frame (none_unseen log front rest s e bytes at same) is)
  by_socket (Some socket) fits = sym (opened_is log s) ∙ fits.is_opened

turned : (a b : List ℕ) → bytes_eq a b ≡ false → bytes_eq b a ≡ false
turned a b apart = by_test (bytes_eq b a) refl where
  by_test : (c : Bool) → bytes_eq b a ≡ c → c ≡ false
  by_test false e = refl
  by_test true e = let no : true ≡ false = sym ((bytes_eq-Decides a b).1 (sym ((bytes_eq-Decides b a).0 e))) ∙ apart in absurd cc

pub pair_at : (journal : List Line) → IsOfNodes journal → (log : List Entry) (world : World) → Standing journal log world → (front rest : List Entry) (s : SockName) (e : End) (bytes : List ℕ) (frame : Frame) → front ++ entries.Wrote s e bytes ∷ rest ≡ log → frame_of bytes ≡ Some frame
    → IsPairFor journal (owner s e) (owner s (across e))
pair_at journal j log world st front rest s e bytes frame at is = by_end e (opened_by_peers (names_of journal) s log st.peers st.all.unknocked (opened journal log world st front rest s e bytes frame at is)) where
  by_end : (e : End) → ArePeers (names_of journal) s → IsPairFor journal (owner s e) (owner s (across e))
  by_end O p = pairs_of journal j.is j.addresses s.from s.to p.from p.to p.apart
  by_end T p = pairs_of journal j.is j.addresses s.to s.from p.to p.from (turned s.from s.to p.apart)
