-- Each socket of the world was dialed by a node of the journal to another.
use Rattle.std.proofs.Common.{◌≡◌, ℕ, Bool, true, false, not, ◌&&◌, ◌||◌, List, [], ◌∷◌, refl, sym, ◌∙◌, subst}
use Rattle.std.proofs.lemmas.Bool.{and_parts}
use Rattle.std.specs.List.{list_all, list_any}
use Rattle.std.specs.Prelude.{find, is_some, Option, Some, None}
use Rattle.std.specs.Str.{bytes_eq}
use Rattle.ch_model.specs.declared.entry.Entry.{Entry}
use Rattle.ch_model.specs.declared.entry.Entry.TheVariants as entries
use Rattle.ch_model.specs.declared.line.Line.{Line}
use Rattle.ch_model.specs.declared.name.SockName.{SockName}
use Rattle.ch_model.specs.Declarations.{has_host}
use Rattle.ch_model.specs.Naming.{is_named}
use Rattle.ch_model.specs.Same.{same_socket}
use Rattle.ch_model.specs.Sockets.{is_opening}
use Rattle.ch_model.specs.World.{names_of}
use Rattle.ch_model.specs.WorldState.{Named, WorldSocket, World}
use Rattle.ch_race.specs.Pair.{Side}
use Rattle.ch_laws_log.specs.Declared.{is_declared}
use Rattle.ch_laws_log.proofs.Agreeing.{At}
use Rattle.ch_laws_log.proofs.Kept.{IsIn}
use Rattle.ch_laws_log.proofs.Seen.{opened_is}
use Rattle.ch_laws_log.proofs.Stored.{same_is}
use Rattle.ch_laws_log.proofs.Views.{seen_in}
use Rattle.ch_laws_many.proofs.Addresses.{AllNamed}
use Rattle.ch_laws_many.proofs.Reached.{named}
use Rattle.ch_laws_pairs.specs.Dials.{IsBetweenNames}
use Rattle.ch_laws_race.specs.Scene.{Party}
use Rattle.ch_laws_calls.specs.Peers.{is_of_peers}
use Rattle.ch_laws_calls.specs.ScenesKnocks.{is_unknocked, Unknocked}
use Rattle.ch_laws_calls.proofs.ScenesGiven.{IsGiven}
use Rattle.ch_laws_calls.proofs.ScenesNames.{name_found, some_name}

-- a socket of these names is between two declared ones
pub record ArePeers (known : List Named) (s : SockName) : Type 0 where
  pub from : is_declared known s.from ≡ true
  pub to : is_declared known s.to ≡ true
  pub apart : bytes_eq s.from s.to ≡ false

not_true : (b : Bool) → not b ≡ true → b ≡ false
not_true false e = refl
not_true true e = absurd cc

pub opened_by_peers : (known : List Named) (s : SockName) (log : List Entry) → list_all (is_of_peers known) log ≡ true → Unknocked log → list_any (is_opening s) log ≡ true → ArePeers known s
opened_by_peers known s [] all quiet any = absurd cc
opened_by_peers known s (x ∷ rest) all quiet any =
    let peers = and_parts (is_of_peers known x) (list_all (is_of_peers known) rest) all in
    let unknocked = and_parts (is_unknocked x) (list_all is_unknocked rest) quiet in
    by_entry x peers.0 unknocked.0 any (opened_by_peers known s rest peers.1 unknocked.1) where
      by_name : (sock : SockName) → (is_declared known sock.from && (is_declared known sock.to && not (bytes_eq sock.from sock.to))) ≡ true → (b : Bool) → same_socket sock s ≡ b → (b || list_any (is_opening s) rest) ≡ true → (list_any (is_opening s) rest ≡ true → ArePeers known s) → ArePeers known s
      by_name sock p true is any more =
          let one = and_parts (is_declared known sock.from) (is_declared known sock.to && not (bytes_eq sock.from sock.to)) p in
          let two = and_parts (is_declared known sock.to) (not (bytes_eq sock.from sock.to)) one.1 in
          subst (ArePeers known) (same_is sock s is) (record { from = one.0; to = two.0; apart = not_true (bytes_eq sock.from sock.to) two.1 })
      by_name sock p false is any more = more any

      by_entry : (y : Entry) → is_of_peers known y ≡ true → is_unknocked y ≡ true → (is_opening s y || list_any (is_opening s) rest) ≡ true → (list_any (is_opening s) rest ≡ true → ArePeers known s) → ArePeers known s
      by_entry (entries.Dial sock) p q any more = by_name sock p (same_socket sock s) refl any more
      by_entry (entries.Knocked sock) p q any more = absurd cc
      by_entry y p q any more = more any

pub are_peers : (journal : List Line) (log : List Entry) (world : World) (party : Side → Party) → IsGiven journal log world party → (socket : WorldSocket) → IsIn socket world → ArePeers (names_of journal) socket.name
are_peers journal log world party g socket is = opened_by_peers (names_of journal) socket.name log g.peers g.unknocked (sym (opened_is log socket.name) ∙ fits.is_opened) where
  fits : At (has_host journal socket.name.to) (seen_in log socket.name) (Some socket)
  fits = subst (At (has_host journal socket.name.to) (seen_in log socket.name)) is (g.sound.ends.sure.ends.sorted.0.agrees socket.name)

not_empty : (known : List Named) (name : List ℕ) → AllNamed known → is_declared known name ≡ true → name ≡ [] → ⊥
not_empty known name all declared empty = by_found (find (is_named name) known) refl declared where
  by_found : (o : Option Named) → find (is_named name) known ≡ o → is_some o ≡ true → ⊥
  by_found None e some = absurd cc
  by_found (Some d) e some = some_name known name d all e (name_found known name d e ∙ empty)

pub between_names : (journal : List Line) (log : List Entry) (world : World) (party : Side → Party) → IsGiven journal log world party → (socket : WorldSocket) → IsIn socket world → IsBetweenNames socket.name
between_names journal log world party g socket is = let p = are_peers journal log world party g socket is in (not_empty (names_of journal) socket.name.from (named journal g.many) p.from, not_empty (names_of journal) socket.name.to (named journal g.many) p.to)
