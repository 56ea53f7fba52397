-- What is told of steps: each dial in it is between two nodes of the journal, where each step that dials is.
use Rattle.std.proofs.Common.{◌≡◌, ℕ, Bool, true, false, not, ◌&&◌, List, [], ◌∷◌, ◌++◌, refl, sym, ap, ◌∙◌, subst}
use Rattle.std.proofs.lemmas.List.Folds.{list_all-append}
use Rattle.std.specs.List.{list_all}
use Rattle.std.specs.Prelude.{Option, Some, None}
use Rattle.std.specs.Str.{bytes_eq}
use Rattle.ch_base.specs.declared.address.Address.{Address}
use Rattle.ch_model.specs.declared.entry.Entry.{Entry}
use Rattle.ch_model.specs.declared.entry.Entry.TheVariants as entries
use Rattle.ch_model.specs.declared.local.LocalEntry.{LocalEntry}
use Rattle.ch_model.specs.declared.local.LocalEntry.TheVariants as local
use Rattle.ch_model.specs.declared.name.End.{End}
use Rattle.ch_model.specs.declared.name.SockName.{SockName}
use Rattle.ch_model.specs.declared.note.Note.{Note}
use Rattle.ch_model.specs.declared.note.Note.TheVariants as notes
use Rattle.ch_model.specs.declared.step.Place.{Place}
use Rattle.ch_model.specs.declared.step.Step.{Step}
use Rattle.ch_model.specs.declared.step.Step.TheVariants as steps
use Rattle.ch_model.specs.HostSteps.{own_address}
use Rattle.ch_model.specs.Naming.{Names, called}
use Rattle.ch_model.specs.WorldSockets.{other, item_arrives, with_end_of, find_end}
use Rattle.ch_model.specs.WorldState.{Cell, World}
use Rattle.ch_model.specs.WorldSteps.{note_entry, on_end, reads_item, end_closes, stepped, local_told, all_told}
use Rattle.ch_laws_log.specs.Declared.{is_declared}
use Rattle.ch_laws_log.specs.HostEnds.{steps_in}
use Rattle.ch_laws_bytes.proofs.Told.{told_names}
use Rattle.ch_laws_calls.specs.Peers.{is_of_peers}
use Rattle.ch_laws_calls.specs.FitsTurns.{NoDials}

-- these two addresses are of two nodes of the journal
abbrev pub are_peers : Names → Address → Address → Bool
are_peers known own peer = is_declared known (called known own) && (is_declared known (called known peer) && not (bytes_eq (called known own) (called known peer)))

-- so are the two of each step that dials
abbrev pub DialPeers : Names → Cell → List Step → Type 0
DialPeers known cell [] = Unit {0}
DialPeers known cell (steps.Dial sock end peer ∷ rest) = (are_peers known (own_address cell.host end) peer ≡ true) × DialPeers known cell rest
DialPeers known cell (step ∷ rest) = DialPeers known cell rest

pub none_peers : (known : Names) (cell : Cell) (told : List Step) → NoDials told → DialPeers known cell told
none_peers known cell [] n = tt
none_peers known cell (steps.Dial sock end peer ∷ rest) n = absurd n
none_peers known cell (steps.Read sock ∷ rest) n = none_peers known cell rest n
none_peers known cell (steps.Write sock bytes said ∷ rest) n = none_peers known cell rest n
none_peers known cell (steps.Up sock ∷ rest) n = none_peers known cell rest n
none_peers known cell (steps.Down sock ∷ rest) n = none_peers known cell rest n
none_peers known cell (steps.Left sock ∷ rest) n = none_peers known cell rest n
none_peers known cell (steps.Broke end peer why ∷ rest) n = none_peers known cell rest n
none_peers known cell (steps.Post end event ∷ rest) n = none_peers known cell rest n

-- each dial in it is between two nodes
abbrev pub AreOfPeers : Names → List Entry → Type 0
AreOfPeers known log = list_all (is_of_peers known) log ≡ true

both_true : (a b : Bool) → a ≡ true → b ≡ true → (a && b) ≡ true
both_true true b e f = f
both_true false b e f = absurd cc

pub both_peers : (known : Names) (one two : List Entry) → AreOfPeers known one → AreOfPeers known two → AreOfPeers known (one ++ two)
both_peers known one two a b = list_all-append (is_of_peers known) one two ∙ both_true (list_all (is_of_peers known) one) (list_all (is_of_peers known) two) a b

note_peers : (known names : Names) (last : Option Place) (note : Note) → is_of_peers known (note_entry names last note) ≡ true
note_peers known names last (notes.Made process origin) = refl
note_peers known names last note = refl

on_end_peers : (known : Names) (place sock : ℕ) (f : SockName × End → World → List Entry × World) (world : World) → ((at : SockName × End) → AreOfPeers known (f at world).0) → AreOfPeers known (on_end place sock f world).0
on_end_peers known place sock f world each = by_end (find_end place sock world.sockets) where
  by_end : (o : Option (SockName × End)) → AreOfPeers known (elim o as (λ o. List Entry × World) [
    | None ↦ ([], world)
    | Some at ↦ f at world
  ]).0
  by_end None = refl
  by_end (Some at) = each at

alone_true : (b : Bool) → b ≡ true → (b && true) ≡ true
alone_true b e = ap (λ x. x && true) e

step_peers : (known : Names) (place : ℕ) (cell : Cell) (step : Step) (world : World) → world.names ≡ known → DialPeers known cell (step ∷ []) → AreOfPeers known (stepped place cell step world).0
step_peers known place cell (steps.Dial sock end peer) world is d = alone_true (is_declared known (called world.names (own_address cell.host end)) && (is_declared known (called world.names peer) && not (bytes_eq (called world.names (own_address cell.host end)) (called world.names peer)))) (subst (λ (k : Names). (is_declared known (called k (own_address cell.host end)) && (is_declared known (called k peer) && not (bytes_eq (called k (own_address cell.host end)) (called k peer)))) ≡ true) (sym is) d.0)
step_peers known place cell (steps.Read sock) world is d = on_end_peers known place sock reads_item world (λ at. refl)
step_peers known place cell (steps.Write sock bytes said) world is d = on_end_peers known place sock (λ at now. (entries.Wrote at.0 at.1 bytes ∷ [], with_end_of at.0 (other at.1) (item_arrives bytes said) now)) world (λ at. refl)
step_peers known place cell (steps.Up sock) world is d = on_end_peers known place sock (λ at now. (entries.Up at.0 at.1 ∷ [], now)) world (λ at. refl)
step_peers known place cell (steps.Down sock) world is d = on_end_peers known place sock (λ at now. (entries.Down at.0 at.1 ∷ [], end_closes at now)) world (λ at. refl)
step_peers known place cell (steps.Left sock) world is d = on_end_peers known place sock (λ at now. (entries.Left at.0 at.1 ∷ [], end_closes at now)) world (λ at. refl)
step_peers known place cell (steps.Broke end peer why) world is d = refl
step_peers known place cell (steps.Post end event) world is d = refl

split_first : (known : Names) (cell : Cell) (step : Step) (rest : List Step) → DialPeers known cell (step ∷ rest) → DialPeers known cell (step ∷ []) × DialPeers known cell rest
split_first known cell (steps.Dial sock end peer) rest d = ((d.0, tt), d.1)
split_first known cell (steps.Read sock) rest d = (tt, d)
split_first known cell (steps.Write sock bytes said) rest d = (tt, d)
split_first known cell (steps.Up sock) rest d = (tt, d)
split_first known cell (steps.Down sock) rest d = (tt, d)
split_first known cell (steps.Left sock) rest d = (tt, d)
split_first known cell (steps.Broke end peer why) rest d = (tt, d)
split_first known cell (steps.Post end event) rest d = (tt, d)

-- all that is told
pub told_peers : (known : Names) (place : ℕ) (cell : Cell) (told : List LocalEntry) (world : World) → world.names ≡ known → DialPeers known cell (steps_in told) → AreOfPeers known (all_told place cell told world).0
told_peers known place cell [] world is d = refl
told_peers known place cell (local.Note note ∷ rest) world is d = both_peers known (note_entry world.names world.last note ∷ []) (all_told place cell rest (local_told place cell (local.Note note) world).1).0
    (alone_true (is_of_peers known (note_entry world.names world.last note)) (note_peers known world.names world.last note)) (told_peers known place cell rest (local_told place cell (local.Note note) world).1 is d)
told_peers known place cell (local.Step step ∷ rest) world is d = let parts = split_first known cell step (steps_in rest) d in
    both_peers known (stepped place cell step world).0 (all_told place cell rest (stepped place cell step world).1).0 (step_peers known place cell step world is parts.0)
    (told_peers known place cell rest (stepped place cell step world).1 (told_names place cell (local.Step step ∷ []) world ∙ is) parts.1)
