-- A host reads an item: what was got of each node at each other is as it should be then.
use Rattle.std.proofs.Common.{◌≡◌, ℕ, ◌+◌, Bool, true, false, cond, ◌&&◌, List, [], ◌∷◌, ◌++◌, length, refl, sym, ap, ◌∙◌, subst}
use Rattle.std.specs.Prelude.{find, slice_get, Option, Some, None, ◌==◌}
use Rattle.ch_ident.specs.declared.identifier.ProcessId.{ProcessId}
use Rattle.ch_ident.specs.Names.{is_name}
use Rattle.ch_static.specs.declared.target.Target.TheVariants as targets
use Rattle.ch_wire.specs.declared.frame.Frame.{Frame}
use Rattle.ch_wire.specs.declared.frame.Frame.TheVariants as frames
use Rattle.ch_model.specs.declared.entry.Entry.{Entry}
use Rattle.ch_model.specs.declared.line.Line.{Line}
use Rattle.ch_model.specs.declared.name.End.{End}
use Rattle.ch_model.specs.declared.name.ProcName.{ProcName}
use Rattle.ch_model.specs.declared.name.SockName.{SockName}
use Rattle.ch_model.specs.declared.name.TargetName.{TargetName}
use Rattle.ch_model.specs.declared.name.TargetName.TheVariants as names
use Rattle.ch_model.specs.declared.note.Note.TheVariants as notes
use Rattle.ch_model.specs.declared.step.Place.{Place}
use Rattle.ch_model.specs.AccountsFrames.{Saying, payload_to}
use Rattle.ch_model.specs.AccountsItems.{first_payload}
use Rattle.ch_model.specs.Naming.{Names, process_called}
use Rattle.ch_model.specs.Same.{same_process, same_target}
use Rattle.ch_model.specs.WorldSockets.{is_socket_named, find_end}
use Rattle.ch_model.specs.WorldState.{Cell, WorldSocket, World}
use Rattle.ch_model.specs.WorldSteps.{or_first, note_entry, item_is_read, reads_item}
use Rattle.ch_race.specs.Pair.{Side, other}
use Rattle.ch_laws_log.proofs.Stored.{number_same}
use Rattle.ch_laws_race.specs.Scene.{Party}
use Rattle.ch_laws_calls.specs.Scenes.{IsPairOf, SceneFacts}
use Rattle.ch_laws_peers.specs.Words.{sayings, Carries, TrueWord, TrueWords}
use Rattle.ch_laws_peers.specs.Says.{towards, Says}
use Rattle.ch_laws_peers.specs.Reads.{reads, item_read, gets_of, read_of}
use Rattle.ch_laws_messages.specs.GotSaidWell.{SaidWell}
use Rattle.ch_laws_messages.proofs.GotLists.{some_is}
use Rattle.ch_laws_messages.proofs.GotBounds.{AreAlone}
use Rattle.ch_laws_messages.proofs.GotHearing.{ReadsOpening, ReadsMessage, ReadsWord}
use Rattle.ch_laws_messages.proofs.GotWords.{true_next, IsSaying, saying_is, opened_by_one, SaidPair, said_pair}
use Rattle.ch_laws_messages.proofs.GotWorlds.{Follows, follows, alone_next}

-- ---- the next message

-- the payload that is read next is the message of this saying, on a connection that was opened for its pair
pub record SaysNext (journal : List Line) (log : List Entry) (world : World) (party : Side → Party) (x : Side) (id : ℕ) (payload : List ℕ) (place : Option Place) : Type 0 where
  pub opening : List ℕ
  pub opened : first_payload id (read_of party world x log) ≡ Some opening
  pub n : ℕ
  pub said : Saying
  pub at : slice_get (sayings (party x).name (party (other x)).name log) n ≡ Some said
  pub carries : Carries journal opening ((id, payload), place) said
  pub saying : IsSaying (party x).name (party (other x)).name log said
  pub pair : SaidPair journal world.names (party x).name (party (other x)).name said.by said.to
  pub marked : is_name said.mark ≡ true

-- so it is of a payload; another frame is no message
abbrev pub SaysOf : List Line → List Entry → World → (Side → Party) → Side → Frame → Option Place → Type 0
SaysOf journal log world party x (frames.Data id payload) place = SaysNext journal log world party x id payload place
SaysOf journal log world party x frame place = ⊥

-- what is read next is an opening or a message
pub record WordNext (journal : List Line) (log : List Entry) (world : World) (party : Side → Party) (x : Side) (id : ℕ) (payload : List ℕ) (place : Option Place) : Type 0 where
  pub word : ReadsWord journal world.names (party x) (party (other x)) payload (first_payload id (read_of party world x log))
  pub says : (opening : List ℕ) → first_payload id (read_of party world x log) ≡ Some opening → SaysNext journal log world party x id payload place
  pub alone : AreAlone (read_of party world x log ++ (id, payload) ∷ [])

pub word_next : (journal : List Line) (log : List Entry) (world : World) (party : Side → Party) → IsPairOf journal party → SceneFacts party world → SaidWell journal log → (x : Side) → Says journal log world party x → (id : ℕ) (payload : List ℕ) (place : Option Place) → slice_get (towards (party x).name (party (other x)).name log) (reads party world x log) ≡ Some (frames.Data id payload, place) → WordNext journal log world party x id payload place
word_next journal log world party pair scene well x says id payload place next = record { word = by_first (first_payload id (read_of party world x log)) refl it.1; says = λ opening e. saying_next opening e (subst (TrueWord journal said it.0 ((id, payload), place)) e it.1); alone = alone_next journal party world x log id payload place says f } where
  said : List Saying
  said = sayings (party x).name (party (other x)).name log

  f : Follows party world x log id payload place
  f = follows party world x log id payload place next

  it : (m : ℕ) × TrueWord journal (sayings (party x).name (party (other x)).name log) m ((id, payload), place) (first_payload id (read_of party world x log))
  it = let w = true_next journal (sayings (party x).name (party (other x)).name log) [] 0 f.before ((id, payload), place) f.rest (length (sayings (party x).name (party (other x)).name log)) (subst (λ (l : List ((ℕ × List ℕ) × Option Place)). TrueWords journal (sayings (party x).name (party (other x)).name log) [] 0 l (length (sayings (party x).name (party (other x)).name log))) f.words says.words) in
      (w.0, subst (λ (l : List (ℕ × List ℕ)). TrueWord journal (sayings (party x).name (party (other x)).name log) w.0 ((id, payload), place) (first_payload id l)) f.read w.1)

  pair_of : (s : Saying) → IsSaying (party x).name (party (other x)).name log s → SaidPair journal world.names (party x).name (party (other x)).name s.by s.to
  pair_of s is = said_pair journal world.names party pair scene.called_as x log well s is

  saying_next : (opening : List ℕ) → first_payload id (read_of party world x log) ≡ Some opening → TrueWord journal (sayings (party x).name (party (other x)).name log) it.0 ((id, payload), place) (Some opening) → SaysNext journal log world party x id payload place
  saying_next opening e w =
      let s = saying_is (party x).name (party (other x)).name log it.0 w.0 w.1 in
      record { opening = opening; opened = e; n = it.0; said = w.0; at = w.1; carries = w.2; saying = s; pair = pair_of w.0 s; marked = (well.each s.i w.0.by w.0.to w.0.epoch w.0.index w.0.mark w.0.body s.at).marked }

  opening_next : TrueWord journal (sayings (party x).name (party (other x)).name log) it.0 ((id, payload), place) None → ReadsOpening journal world.names (party x) (party (other x)) payload
  opening_next w =
      let one = opened_by_one journal (sayings (party x).name (party (other x)).name log) payload w.0 in
      let s = saying_is (party x).name (party (other x)).name log one.0 one.1 one.2 in
      let p = pair_of one.1 s in
      record { from = p.from; to = p.receiver; pair = p.pair; is = some_is payload _ (sym one.3 ∙ p.opens) }

  message_next : (opening : List ℕ) → first_payload id (read_of party world x log) ≡ Some opening → TrueWord journal (sayings (party x).name (party (other x)).name log) it.0 ((id, payload), place) (Some opening) → ReadsMessage payload
  message_next opening e w =
      let s = saying_next opening e w in
      record { said = record { mark = s.said.mark; body = s.said.body }; is = s.carries.payload ∙ ap (λ (t : TargetName). payload_to t s.said.mark s.said.body) s.pair.to_is; marked = s.marked }

  by_first : (o : Option (List ℕ)) → first_payload id (read_of party world x log) ≡ o → TrueWord journal (sayings (party x).name (party (other x)).name log) it.0 ((id, payload), place) (first_payload id (read_of party world x log)) → ReadsWord journal world.names (party x) (party (other x)) payload o
  by_first None e w = opening_next (subst (TrueWord journal said it.0 ((id, payload), place)) e w)
  by_first (Some opening) e w = message_next opening e (subst (TrueWord journal said it.0 ((id, payload), place)) e w)

-- ---- the place that was last read

pub read_last : (place sock : ℕ) (world : World) (cells : List (Cell × ℕ)) → (item_read place sock (record world { cells = cells })).last ≡ (item_read place sock world).last
read_last place sock world cells = by_end (find_end place sock world.sockets) where
  by_socket : (at : SockName × End) (o : Option WorldSocket) → (item_is_read at o (record world { cells = cells })).last ≡ (item_is_read at o world).last
  by_socket at None = refl
  by_socket at (Some socket) = refl

  by_end : (o : Option (SockName × End)) → (elim o as (λ o. List Entry × World) [
    | None ↦ ([], record world { cells = cells })
    | Some at ↦ reads_item at (record world { cells = cells })
  ]).1.last ≡ (elim o as (λ o. List Entry × World) [
    | None ↦ ([], world)
    | Some at ↦ reads_item at world
  ]).1.last
  by_end None = refl
  by_end (Some at) = by_socket at (find (is_socket_named at.0) world.sockets)

-- one message that is got, of the first epoch
pub got_entry : (p q : ProcName) (known : Names) (last : Option Place) (from to : ProcessId) → (or_first last).epoch ≡ 0 → gets_of p q (note_entry known last (notes.Got from (targets.Process to) (Some to)) ∷ []) ≡ cond (same_process (process_called known from) p && same_target (names.Process (process_called known to)) (names.Process q)) 1 0
got_entry p q known last from to e = by_tests (same_process (process_called known from) p) (same_process (process_called known to) q) ((or_first last).epoch == 0) (ap (λ (n : ℕ). n == 0) e ∙ number_same 0) where
  by_tests : (a b c : Bool) → c ≡ true → (0 + cond (a && b && c) 1 0) ≡ cond (a && b) 1 0
  by_tests true true c e = ap (λ (t : Bool). 0 + cond t 1 0) e
  by_tests true false c e = refl
  by_tests false b c e = refl
