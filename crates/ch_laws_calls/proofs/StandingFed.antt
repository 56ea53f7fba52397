-- An end that is handed bytes, or the end of its input, before its host is called.
use Rattle.std.proofs.Common.{◌≡◌, ℕ, Bool, true, false, cond, List, [], ◌∷◌, ◌++◌, length, take, drop, refl, sym, ap, ◌∙◌, subst}
use Rattle.std.proofs.lemmas.Bool.{and_parts}
use Rattle.std.specs.Prelude.{find, slice_get, Some}
use Rattle.ch_model.specs.declared.entry.Entry.{Entry}
use Rattle.ch_model.specs.declared.entry.Entry.TheVariants as entries
use Rattle.ch_model.specs.declared.line.Line.{Line}
use Rattle.ch_model.specs.declared.local.LocalEvent.TheVariants as locals
use Rattle.ch_model.specs.declared.name.End.{End}
use Rattle.ch_model.specs.declared.name.End.TheVariants.{O, T}
use Rattle.ch_model.specs.declared.step.SocketEvent.TheVariants as sockets
use Rattle.ch_model.specs.declared.step.Step.{Step}
use Rattle.ch_model.specs.HostState.{HostState}
use Rattle.ch_model.specs.Same.{same_socket}
use Rattle.ch_model.specs.Stages.{is_open}
use Rattle.ch_model.specs.WorldLines.{is_at_work, can_feed}
use Rattle.ch_model.specs.WorldSockets.{end_of, with_end, is_of_host, has_input, is_socket_named, store_in, with_socket}
use Rattle.ch_model.specs.WorldState.{Cell, WorldEnd, WorldSocket, World}
use Rattle.ch_laws_log.proofs.Agreeing.{keeps_good, with_end_is}
use Rattle.ch_laws_bytes.proofs.Lines.{own_of}
use Rattle.ch_laws_links.proofs.Journals.{now_of, fed_tells}
use Rattle.ch_laws_links.proofs.Worlds.{AllNaming, end_cells, own_may}
use Rattle.ch_laws_pairs.proofs.Heard.{changed_asked}
use Rattle.ch_laws_pairs.proofs.Named.{any_kept}
use Rattle.ch_laws_calls.specs.Calls.{IsIn, IsCalled, done_at, fed_in}
use Rattle.ch_laws_calls.specs.Sound.{SoundLinks}
use Rattle.ch_laws_calls.proofs.StandingMakes.{event_makes}
use Rattle.ch_laws_calls.proofs.StandingTold.{Ready, own_call_links, after_entry}

-- an end that can be fed is open, and has input
feeds_open : (which : End) (socket : WorldSocket) → can_feed which socket ≡ true → (is_open (end_of which socket).stage ≡ true) × (has_input which socket ≡ true)
feeds_open which socket can = let parts = and_parts (is_at_work which socket) (has_input which socket) can in ((and_parts (is_open (end_of which socket).stage) (is_of_host (end_of which socket)) parts.0).0, parts.1)

-- so many of its bytes are read
abbrev pub reads : ℕ → WorldEnd → WorldEnd
reads count end = record end { unread = drop count end.unread }

fed_cells : (which : End) (count : ℕ) (socket : WorldSocket) (world : World) → (fed_in which count socket world).cells ≡ world.cells
fed_cells which count socket world = end_cells socket.name which (reads count) world

fed_ready : (journal : List Line) (log : List Entry) (world : World) (socket : WorldSocket) (which : End) (count : ℕ) → IsIn socket world → can_feed which socket ≡ true → Ready journal (now_of world.cells) log world
    → let after = fed_in which count socket world in Ready journal (now_of after.cells) (log ++ entries.Fed socket.name which (length (take count (end_of which socket).unread)) ∷ []) after
fed_ready journal log world socket which count is can r = let at_work = feeds_open which socket can in record {
  good = (keeps_good journal).fed log world socket which count is at_work.0 at_work.1 tt r.good;
  naming = subst AllNaming (sym (fed_cells which count socket world)) r.naming;
  agrees = fed_tells log world socket which count is at_work.0 r.agrees;
  asked = changed_asked (own_of journal) socket.name which (reads count) world (any_kept which (reads count) (λ end. (refl, refl))) r.asked;
}

pub fed_links : (journal : List Line) (log : List Entry) (world : World) (socket : WorldSocket) (which : End) (count b : ℕ) (bytes : List ℕ) (place n : ℕ) (cell : Cell × ℕ) (steps : List Step) (host : HostState) → IsIn socket world → can_feed which socket ≡ true
    → take count (end_of which socket).unread ≡ b ∷ bytes → IsCalled world place cell (sockets.Fed n (b ∷ bytes)) steps host → Ready journal (now_of world.cells) log world
    → let done = done_at place cell steps host (fed_in which count socket world) in SoundLinks journal (log ++ entries.Fed socket.name which (length (b ∷ bytes)) ∷ done.0) done.1
fed_links journal log world socket which count b bytes place n cell steps host is can read called r = subst (λ (l : List ℕ). SoundLinks journal (log ++ entries.Fed socket.name which (length l) ∷ done.0) done.1) read
    (after_entry journal log (entries.Fed socket.name which (length (take count (end_of which socket).unread))) done.0 done.1
    (own_call_links journal (log ++ entries.Fed socket.name which (length (take count (end_of which socket).unread)) ∷ []) (fed_in which count socket world) place cell steps host (fed_ready journal log world socket which count is can r)
    (ap (λ (all : List (Cell × ℕ)). slice_get all place) (fed_cells which count socket world) ∙ called.at)
    (event_makes cell (sockets.Fed n (b ∷ bytes)) steps host (own_may cell (locals.Socket (sockets.Fed n (b ∷ bytes))) refl (r.naming place cell called.at)) tt (r.naming place cell called.at).naming (r.asked.homes place cell called.at).asking called.does))) where
      done : List Entry × World
      done = done_at place cell steps host (fed_in which count socket world)

-- ---- the end of its input

-- a socket that is kept in its own place leaves all as they are
stored_same : (socket : WorldSocket) (all : List WorldSocket) → find (is_socket_named socket.name) all ≡ Some socket → store_in socket all ≡ all
stored_same socket [] e = absurd cc
stored_same socket (known ∷ rest) e = by_test (same_socket known.name socket.name) e (stored_same socket rest) where
  by_test : (b : Bool) → cond b (Some known) (find (is_socket_named socket.name) rest) ≡ Some socket → (find (is_socket_named socket.name) rest ≡ Some socket → store_in socket rest ≡ rest) → cond b (socket ∷ rest) (known ∷ store_in socket rest) ≡ known ∷ rest
  by_test true e more = let is : known ≡ socket = cc in ap (λ (w : WorldSocket). w ∷ rest) (sym is)
  by_test false e more = ap (λ (l : List WorldSocket). known ∷ l) (more e)

-- no bytes are read
fed_none : (which : End) (socket : WorldSocket) (world : World) → IsIn socket world → fed_in which 0 socket world ≡ world
fed_none which socket world is = with_end_is socket.name which (reads 0) world socket is ∙ ap (λ (w : WorldSocket). with_socket w world) (by_end which) ∙ ap (λ (l : List WorldSocket). record world { sockets = l }) (stored_same socket world.sockets is) where
  by_end : (which : End) → with_end which (reads 0 (end_of which socket)) socket ≡ socket
  by_end O = refl
  by_end T = refl

pub ended_links : (journal : List Line) (log : List Entry) (world : World) (socket : WorldSocket) (which : End) (place n : ℕ) (cell : Cell × ℕ) (steps : List Step) (host : HostState) → IsIn socket world → can_feed which socket ≡ true
    → IsCalled world place cell (sockets.Ended n) steps host → Ready journal (now_of world.cells) log world
    → let done = done_at place cell steps host world in SoundLinks journal (log ++ entries.Fed socket.name which 0 ∷ done.0) done.1
ended_links journal log world socket which place n cell steps host is can called r = after_entry journal log (entries.Fed socket.name which 0) done.0 done.1
    (own_call_links journal (log ++ entries.Fed socket.name which 0 ∷ []) world place cell steps host
    (subst (λ (w : World). Ready journal (now_of w.cells) (log ++ entries.Fed socket.name which 0 ∷ []) w) (fed_none which socket world is) (fed_ready journal log world socket which 0 is can r)) called.at
    (event_makes cell (sockets.Ended n) steps host (own_may cell (locals.Socket (sockets.Ended n)) refl (r.naming place cell called.at)) tt (r.naming place cell called.at).naming (r.asked.homes place cell called.at).asking called.does)) where
      done : List Entry × World
      done = done_at place cell steps host world
