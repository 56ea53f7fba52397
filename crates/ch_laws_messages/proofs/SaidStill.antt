-- A turn in which a node does nothing but tell things: nothing is written, and no link is another.
use Rattle.std.proofs.Common.{◌≡◌, ◌⊎◌, inl, inr, ◌≤◌, ℕ, Bool, true, false, cond, List, [], ◌∷◌, ◌++◌, length, refl, sym, ap, ◌∙◌, subst, append_assoc, arith}
use Rattle.std.proofs.lemmas.List.{append-nil}
use Rattle.std.proofs.lemmas.List.Elements.{filter_map-append}
use Rattle.std.specs.List.{cons_option}
use Rattle.std.specs.Prelude.{filter_map, slice_get, slice_set, Option, Some, None, ◌==◌}
use Rattle.ch_light.specs.Ids.{id_of}
use Rattle.ch_model.specs.declared.entry.Entry.{Entry}
use Rattle.ch_model.specs.declared.entry.Entry.TheVariants as entries
use Rattle.ch_model.specs.declared.entry.Verdict.{Verdict}
use Rattle.ch_model.specs.declared.line.Line.{Line}
use Rattle.ch_model.specs.declared.local.LocalEntry.{LocalEntry}
use Rattle.ch_model.specs.declared.local.LocalEntry.TheVariants as local
use Rattle.ch_model.specs.declared.name.End.{End}
use Rattle.ch_model.specs.declared.name.SockName.{SockName}
use Rattle.ch_model.specs.declared.note.Note.{Note}
use Rattle.ch_model.specs.declared.note.Note.TheVariants as notes
use Rattle.ch_model.specs.declared.step.Place.{Place}
use Rattle.ch_model.specs.AccountsFrames.{Saying}
use Rattle.ch_model.specs.AccountsItems.{frames_of}
use Rattle.ch_model.specs.HostState.{Link, HostState}
use Rattle.ch_model.specs.HostSteps.{link_with}
use Rattle.ch_model.specs.HostWrites.{is_up}
use Rattle.ch_model.specs.Naming.{Names}
use Rattle.ch_model.specs.NodeState.{NodeState}
use Rattle.ch_model.specs.WorldHappenings.{with_cell}
use Rattle.ch_model.specs.WorldSockets.{find_end}
use Rattle.ch_model.specs.WorldState.{Cell, World}
use Rattle.ch_model.specs.WorldSteps.{note_entry, noted, all_told}
use Rattle.ch_race.specs.Pair.{Side, other}
use Rattle.ch_laws_bytes.proofs.Event.{set_at}
use Rattle.ch_laws_calls.specs.Scenes.{IsPairOf, scene_of}
use Rattle.ch_laws_plain_logs.specs.Plain.{said_by}
use Rattle.ch_laws_race.specs.Scene.{Party, host_in, link_of}
use Rattle.ch_laws_calls.specs.Turns.{told_on}
use Rattle.ch_laws_writes.proofs.Worlds.{number_is}
use Rattle.ch_laws_peers.specs.Words.{sayings, waiting_as}
use Rattle.ch_laws_peers.specs.Says.{frames_towards, node_in, node_of, IsUpOn, Says, AllSay}
use Rattle.ch_laws_peers.specs.Standing.{Standing}
use Rattle.ch_laws_messages.specs.SaidGoes.{frames_to, waits_for, given_to, Flows, IsOne, Streams, NodeStays}
use Rattle.ch_laws_messages.proofs.SaidLogs.{IsSilent, silent_towards, silent_frames}
use Rattle.ch_laws_messages.proofs.SaidQuiet.{stays}

-- ---- entries that write nothing and say nothing

pub record IsStill (entry : Entry) : Type 0 where
  pub silent : IsSilent entry
  pub unsaid : (x y : List ℕ) → said_by x y entry ≡ None

abbrev pub AllStill : List Entry → Type 0
AllStill [] = Unit {0}
AllStill (entry ∷ rest) = IsStill entry × AllStill rest

pub still_said : (x y : List ℕ) (log told : List Entry) → AllStill told → sayings x y (log ++ told) ≡ sayings x y log
still_said x y log told still = filter_map-append (said_by x y) log told ∙ ap (λ (l : List Saying). sayings x y log ++ l) (none told still) ∙ append-nil (sayings x y log) where
  none : (told : List Entry) → AllStill told → filter_map (said_by x y) told ≡ []
  none [] still = refl
  none (entry ∷ rest) still = ap (λ (o : Option Saying). cons_option o (filter_map (said_by x y) rest)) (still.0.unsaid x y) ∙ none rest still.1

pub still_towards : (x y : List ℕ) (log told : List Entry) → AllStill told → frames_towards x y (log ++ told) ≡ frames_towards x y log
still_towards x y log [] still = ap (frames_towards x y) (append-nil log)
still_towards x y log (entry ∷ rest) still = ap (frames_towards x y) (sym (append_assoc log (entry ∷ []) rest)) ∙ still_towards x y (log ++ entry ∷ []) rest still.1 ∙ silent_towards x y log entry still.0.silent

pub still_frames : (log told : List Entry) (s : SockName) (e : End) → AllStill told → frames_of (log ++ told) s e ≡ frames_of log s e
still_frames log [] s e still = ap (λ (l : List Entry). frames_of l s e) (append-nil log)
still_frames log (entry ∷ rest) s e still = ap (λ (l : List Entry). frames_of l s e) (sym (append_assoc log (entry ∷ []) rest)) ∙ still_frames (log ++ entry ∷ []) rest s e still.1 ∙ silent_frames log entry s e still.0.silent

-- ---- streams that stay

-- while a link is up, nothing waits for it
pub up_waits : (journal : List Line) (log : List Entry) (world : World) (party : Side → Party) (x : Side) → IsPairOf journal party → Standing journal log world → is_up (link_of (scene_of party world) x).state ≡ true → waits_for party world x ≡ []
up_waits journal log world party x pair st up = let there = (st.each_pair.shown party pair).there x in
    (subst (λ (o : Option (Cell × ℕ)). is_up (link_with (host_in o) (party x).address.id (party (other x)).address).state ≡ true → (link_with (host_in o) (party x).address.id (party (other x)).address).waits ≡ []) (sym there.1)
    ((st.plain.cells (party x).place there.0 there.1).host (party x).address.id (party (other x)).address).up) up

-- the link is as it was, and so are frames and sockets
pub still_streams : (party : Side → Party) (x : Side) (log : List Entry) (world : World) (after_log : List Entry) (after : World) → IsOne party x log world → (is_up (link_of (scene_of party world) x).state ≡ true → waits_for party world x ≡ []) → link_of (scene_of party after) x ≡ link_of (scene_of party world) x
    → frames_to party x after_log ≡ frames_to party x log → ((s : SockName) (e : End) → frames_of after_log s e ≡ frames_of log s e) → ((n : ℕ) (at : SockName × End) → find_end (party x).place n world.sockets ≡ Some at → find_end (party x).place n after.sockets ≡ Some at) → Streams party x log world after_log after []
still_streams party x log world after_log after one up same towards frames found = record {
  placed = tt;
  flows = by_up (is_up (link_of (scene_of party world) x).state) refl;
  is_one = record {
    one = λ s e is. by_end s e (one.one s e is);
    down = λ off. towards ∙ one.down (ap (λ (l : Link). is_up l.state) (sym same) ∙ off);
  };
} where
  waits_same : waits_for party after x ≡ waits_for party world x
  waits_same = ap (λ (l : Link). l.waits) same

  by_up : (b : Bool) → is_up (link_of (scene_of party world) x).state ≡ b → Flows (frames_to party x log) (waits_for party world x) (frames_to party x after_log) (waits_for party after x) []
  by_up true h = inl (up h, waits_same ∙ up h, towards ∙ sym (append-nil (frames_to party x log)))
  by_up false h = inr (inl (one.down h, towards ∙ one.down h, ap waiting_as waits_same ∙ sym (append-nil (waiting_as (waits_for party world x)))))

  up_still : (s : SockName) (e : End) → IsUpOn party world x s e → IsUpOn party after x s e
  up_still s e u = record { number = u.number; probed = u.probed; up = ap (λ (l : Link). l.state) same ∙ u.up; found = found u.number (s, e) u.found }

  by_end : (s : SockName) (e : End) → (frames_of log s e ≡ []) ⊎ (IsUpOn party world x s e × (frames_of log s e ≡ frames_to party x log)) → (frames_of after_log s e ≡ []) ⊎ (IsUpOn party after x s e × (frames_of after_log s e ≡ frames_to party x after_log))
  by_end s e (inl none) = inl (frames s e ∙ none)
  by_end s e (inr u) = inr (up_still s e u.0, frames s e ∙ u.1 ∙ sym towards)

-- ---- nodes that stay

self : (n : ℕ) → n ≤ n
self n = omega arith

-- the node is the same
pub node_same : (journal : List Line) (log : List Entry) (party : Side → Party) (x : Side) (world after : World) (now : NodeState) → Says journal log world party x → node_of party world x ≡ Some now → ((conn id : ℕ) → given_to party world x conn ≡ Some id → given_to party after x conn ≡ Some id) → NodeStays party x world after now
node_same journal log party x world after now s there kept = record {
  was = now;
  there = there;
  own = refl;
  made = self (length now.mail);
  declared = λ pair to found is at. s.declared now pair to there found is at;
  opened = λ by to conn at marked. (marked, λ id given. kept conn id given);
  unopened = λ by to at marked living. inl (marked, living);
  unbroken = λ by to at marked. marked;
}

-- ---- a line's answer is told

pub marked_say : (journal : List Line) (log : List Entry) (world : World) (number : ℕ) (answer : Verdict) → Standing journal log world → AllSay journal log world → AllSay journal (log ++ entries.Line number answer ∷ []) world
marked_say journal log world number answer st say party pair x = stays journal log world party x (log ++ entries.Line number answer ∷ []) world s (record {
  named = refl;
  said = still_said (party x).name (party (other x)).name log told still;
  new = [];
  silent = refl;
  streams = still_streams party x log world (log ++ told) world (record { one = s.one; down = s.down }) (up_waits journal log world party x pair st) refl (still_towards (party x).name (party (other x)).name log told still) (λ t e. still_frames log told t e still) (λ n at found. found);
  nodes = λ now there. node_same journal log party x world world now s there (λ conn id given. given);
}) where
  s : Says journal log world party x
  s = say party pair x

  told : List Entry
  told = entries.Line number answer ∷ []

  still : AllStill told
  still = (record { silent = λ t e. refl; unsaid = λ a b. refl }, tt)

-- ---- notes alone

-- it is a note, and not that something was said
abbrev pub IsQuietNote : LocalEntry → Type 0
IsQuietNote (local.Step step) = ⊥
IsQuietNote (local.Note (notes.Said by to epoch index message)) = ⊥
IsQuietNote (local.Note note) = Unit {0}

abbrev pub AreQuiet : List LocalEntry → Type 0
AreQuiet [] = Unit {0}
AreQuiet (one ∷ rest) = IsQuietNote one × AreQuiet rest

note_still : (known : Names) (last : Option Place) (note : Note) → IsQuietNote (local.Note note) → IsStill (note_entry known last note)
note_still known last (notes.Said by to epoch index message) q = absurd q
note_still known last (notes.Made process origin) q = record { silent = λ s e. refl; unsaid = λ x y. refl }
note_still known last note q = record { silent = λ s e. refl; unsaid = λ x y. refl }

-- what such notes leave
pub record Leaves (told : List Entry) (world after : World) : Type 0 where
  pub still : AllStill told
  pub names : after.names ≡ world.names
  pub cells : after.cells ≡ world.cells
  pub sockets : after.sockets ≡ world.sockets

pub quiet_leaves : (place : ℕ) (cell : Cell) (told : List LocalEntry) (world : World) → AreQuiet told → Leaves (all_told place cell told world).0 world (all_told place cell told world).1
quiet_leaves place cell [] world q = record { still = tt; names = refl; cells = refl; sockets = refl }
quiet_leaves place cell (local.Step step ∷ rest) world q = absurd q.0
quiet_leaves place cell (local.Note note ∷ rest) world q = let more = quiet_leaves place cell rest (noted note world).1 q.1 in record { still = (note_still world.names world.last note q.0, more.still); names = more.names; cells = more.cells; sockets = more.sockets }

-- ---- a turn of notes

host_kept : (cells : List (Cell × ℕ)) (place : ℕ) (cell now : Cell × ℕ) (p : ℕ) → slice_get cells place ≡ Some cell → now.0.host ≡ cell.0.host → host_in (slice_get (slice_set cells place now) p) ≡ host_in (slice_get cells p)
host_kept cells place cell now p at same = ap host_in (set_at cells place cell now p at) ∙ by_test (place == p) refl where
  by_test : (b : Bool) → (place == p) ≡ b → host_in (cond b (Some now) (slice_get cells p)) ≡ host_in (slice_get cells p)
  by_test true h = same ∙ ap host_in (sym at ∙ ap (slice_get cells) (number_is place p h))
  by_test false h = refl

-- a node of a cell whose nodes are others: of another cell, or of this one
pub node_at : (world after : World) (place : ℕ) (cell now : Cell × ℕ) (p end : ℕ) (node : NodeState) → slice_get world.cells place ≡ Some cell → after.cells ≡ slice_set world.cells place now → node_in (slice_get after.cells p) end ≡ Some node
    → ((place ≡ p) × (node_in (Some now) end ≡ Some node)) ⊎ (node_in (slice_get world.cells p) end ≡ Some node)
node_at world after place cell now p end node at cells there = by_test (place == p) refl (ap (λ (o : Option (Cell × ℕ)). node_in o end) (sym (ap (λ (l : List (Cell × ℕ)). slice_get l p) cells ∙ set_at world.cells place cell now p at)) ∙ there) where
  by_test : (b : Bool) → (place == p) ≡ b → node_in (cond b (Some now) (slice_get world.cells p)) end ≡ Some node → ((place ≡ p) × (node_in (Some now) end ≡ Some node)) ⊎ (node_in (slice_get world.cells p) end ≡ Some node)
  by_test true h e = inl (number_is place p h, e)
  by_test false h e = inr e

pub quiet_turn : (journal : List Line) (log : List Entry) (world : World) (place : ℕ) (cell : Cell × ℕ) (told : List LocalEntry) (after : Cell) → slice_get world.cells place ≡ Some cell → AreQuiet told → after.host ≡ cell.0.host → Standing journal log world → AllSay journal log world
    → ((party : Side → Party) (x : Side) (now : NodeState) → IsPairOf journal party → place ≡ (party x).place → node_in (Some (after, cell.1)) (party x).address.id ≡ Some now → ((conn id : ℕ) → given_to party world x conn ≡ Some id → given_to party (told_on place cell after told world).1 x conn ≡ Some id) → NodeStays party x world (told_on place cell after told world).1 now)
    → let done = told_on place cell after told world in AllSay journal (log ++ done.0) done.1
quiet_turn journal log world place cell told after at quiet host st say each party pair x = stays journal log world party x (log ++ done.0) done.1 s (record {
  named = leaves.names;
  said = still_said (party x).name (party (other x)).name log done.0 leaves.still;
  new = [];
  silent = refl;
  streams = still_streams party x log world (log ++ done.0) done.1 (record { one = s.one; down = s.down }) (up_waits journal log world party x pair st) link_same (still_towards (party x).name (party (other x)).name log done.0 leaves.still) (λ t e. still_frames log done.0 t e leaves.still)
      (λ n end found. ap (find_end (party x).place n) leaves.sockets ∙ found);
  nodes = λ now there. by_place now (node_at world done.1 place cell (after, cell.1) (party x).place (party x).address.id now at leaves.cells there);
}) where
  s : Says journal log world party x
  s = say party pair x

  done : List Entry × World
  done = told_on place cell after told world

  leaves : Leaves done.0 (with_cell place (after, cell.1) world) done.1
  leaves = quiet_leaves place after told (with_cell place (after, cell.1) world) quiet

  link_same : link_of (scene_of party done.1) x ≡ link_of (scene_of party world) x
  link_same = ap (λ (h : HostState). link_with h (party x).address.id (party (other x)).address) (ap (λ (l : List (Cell × ℕ)). host_in (slice_get l (party x).place)) leaves.cells ∙ host_kept world.cells place cell (after, cell.1) (party x).place at host)

  kept : (conn id : ℕ) → given_to party world x conn ≡ Some id → given_to party done.1 x conn ≡ Some id
  kept conn id given = ap (λ (l : Link). id_of l.given conn) link_same ∙ given

  by_place : (now : NodeState) → ((place ≡ (party x).place) × (node_in (Some (after, cell.1)) (party x).address.id ≡ Some now)) ⊎ (node_in (slice_get world.cells (party x).place) (party x).address.id ≡ Some now) → NodeStays party x world done.1 now
  by_place now (inl here) = each party x now pair here.0 here.1 kept
  by_place now (inr there) = node_same journal log party x world done.1 now s there kept
