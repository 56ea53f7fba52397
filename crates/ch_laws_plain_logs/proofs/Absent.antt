-- What a plain log hasn't: breaks, reconnects, watches, dooms, names and shut nodes.
use Rattle.std.proofs.Common.{◌≡◌, ℕ, Bool, true, false, not, ◌&&◌, ◌||◌, List, [], ◌∷◌, refl, ap, ◌∙◌}
use Rattle.std.proofs.lemmas.Bool.{and_parts}
use Rattle.std.proofs.Math.Bool.{and-false, or-false}
use Rattle.std.specs.List.{list_all, list_any}
use Rattle.std.specs.Prelude.{None}
use Rattle.std.specs.Str.{bytes_eq}
use Rattle.ch_model.specs.declared.entry.Entry.{Entry}
use Rattle.ch_model.specs.declared.entry.Entry.TheVariants as entries
use Rattle.ch_model.specs.declared.name.ProcName.{ProcName}
use Rattle.ch_model.specs.declared.name.RefName.{RefName}
use Rattle.ch_model.specs.declared.name.SockName.{SockName}
use Rattle.ch_model.specs.declared.name.TargetName.{TargetName}
use Rattle.ch_model.specs.declared.name.TargetName.TheVariants as targets
use Rattle.ch_model.specs.declared.name.End.{End}
use Rattle.ch_model.specs.Epochs.{reconnects, breaks, breaks_pair, is_named, says_in, epoch_of, has_broken, unbroken, is_broken}
use Rattle.ch_model.specs.Life.{ends, shuts, dooms, is_made, is_shut, is_over, is_doomed, is_live}
use Rattle.ch_model.specs.LifeRules.{watches_as}
use Rattle.ch_model.specs.Links.{goes_down, is_still_up, dials_to, has_dialed}
use Rattle.ch_model.specs.Logs.{since, from_first, first_of}
use Rattle.ch_model.specs.Names.{names_as, flat, stands, names_of}
use Rattle.ch_model.specs.Same.{node_of, end_of}
use Rattle.ch_model.specs.Watches.{opened_as, watch_of}
use Rattle.ch_laws_plain_logs.specs.Plain.{is_plain, IsPlain}
use Rattle.ch_laws_plain_logs.proofs.None.{NonePasses, NoneGives, none_any, none_counted, none_first, none_last, since_all, until_all, all_from_first}

-- ---- breaks

pub no_breaks : (x y : List ℕ) → NonePasses (breaks x y)
no_breaks x y (entries.Broke node peer why) e = absurd cc
no_breaks x y entry e = refl

pub no_pair_breaks : (p : ProcName) (d : TargetName) → NonePasses (breaks_pair p d)
no_pair_breaks p d entry e = ap (λ b. not (bytes_eq p.node (node_of d)) && b) (no_breaks p.node (node_of d) entry e) ∙ and-false (not (bytes_eq p.node (node_of d)))

-- no link breaks
pub none_breaks : (log : List Entry) (x y : List ℕ) → IsPlain log → list_any (breaks x y) log ≡ false
none_breaks log x y plain = none_any (breaks x y) (no_breaks x y) log plain

-- all of the log stands since the last break
pub since_breaks : (log : List Entry) (x y : List ℕ) → IsPlain log → since (breaks x y) log ≡ log
since_breaks log x y plain = since_all (breaks x y) (no_breaks x y) log plain

-- no epoch has broken
pub none_broken : (log : List Entry) (p : ProcName) (d : TargetName) (e : ℕ) → IsPlain log → has_broken log p d e ≡ false
none_broken log p d e plain = none_any (breaks_pair p d) (no_pair_breaks p d) (from_first (says_in p d e) log) (all_from_first is_plain (says_in p d e) log plain)

-- no pair waits to be reconnected
pub no_pair_broken : (log : List Entry) (p : ProcName) (d : TargetName) → IsPlain log → is_broken log p d ≡ false
no_pair_broken log p d plain = ap (λ b. not (is_named d) && b) (none_broken log p d (epoch_of log p d) plain) ∙ and-false (not (is_named d))

-- an epoch stands unbroken from its first message on
pub all_unbroken : (log : List Entry) (p : ProcName) (d : TargetName) (e : ℕ) → IsPlain log → unbroken log p d e ≡ from_first (says_in p d e) log
all_unbroken log p d e plain = until_all (breaks_pair p d) (no_pair_breaks p d) (from_first (says_in p d e) log) (all_from_first is_plain (says_in p d e) log plain)

-- a node has dialed a peer since their last break, if ever
pub ever_dialed : (log : List Entry) (x y : List ℕ) → IsPlain log → has_dialed log x y ≡ list_any (dials_to x y) log
ever_dialed log x y plain = ap (list_any (dials_to x y)) (since_breaks log x y plain)

-- ---- reconnects

pub no_reconnects : (p : ProcName) (d : TargetName) → NonePasses (reconnects p d)
no_reconnects p d (entries.Again by to epoch) e = absurd cc
no_reconnects p d entry e = refl

-- each pair of processes is in its first epoch
pub first_epoch : (log : List Entry) (p q : ProcName) → IsPlain log → epoch_of log p (targets.Process q) ≡ 0
first_epoch log p q plain = none_counted (reconnects p (targets.Process q)) (no_reconnects p (targets.Process q)) log plain

-- ---- links that go down

pub no_downs : (s : SockName) (end : End) → NonePasses (goes_down s end)
no_downs s end (entries.Down sock other) e = absurd cc
no_downs s end entry e = refl

-- each socket on which a node came up is still up
pub still_up : (log : List Entry) (x : List ℕ) (sock : SockName) → IsPlain log → is_still_up log x sock ≡ true
still_up log x sock plain = ap not (none_any (goes_down sock (end_of x sock)) (no_downs sock (end_of x sock)) log plain)

-- ---- nodes that are shut

pub no_shuts : (x : List ℕ) → NonePasses (shuts x)
no_shuts x (entries.Shut node) e = absurd cc
no_shuts x entry e = refl

-- no node is shut
pub none_shut : (log : List Entry) (x : List ℕ) → IsPlain log → is_shut log x ≡ false
none_shut log x plain = none_any (shuts x) (no_shuts x) log plain

-- a process is over, if it has ended
pub over_by_end : (log : List Entry) (p : ProcName) → IsPlain log → is_over log p ≡ list_any (ends p) log
over_by_end log p plain = ap (λ b. list_any (ends p) log || b) (none_shut log p.node plain) ∙ or-false (list_any (ends p) log)

-- ---- dooms

pub no_dooms : (p : ProcName) → NonePasses (dooms p)
no_dooms p (entries.Doom process text) e = absurd cc
no_dooms p entry e = refl

-- no process is doomed
pub none_doomed : (log : List Entry) (p : ProcName) → IsPlain log → is_doomed log p ≡ false
none_doomed log p plain = none_any (dooms p) (no_dooms p) log plain

-- a process lives, if it was made and has not ended
pub lives_until_end : (log : List Entry) (p : ProcName) → IsPlain log → is_live log p ≡ (is_made log p && not (list_any (ends p) log))
lives_until_end log p plain =
    ap (λ b. is_made log p && not b && not (is_doomed log p)) (over_by_end log p plain)
    ∙ ap (λ b. is_made log p && not (list_any (ends p) log) && not b) (none_doomed log p plain)
    ∙ and_true (is_made log p && not (list_any (ends p) log))
  where
    and_true : (b : Bool) → (b && true) ≡ b
    and_true true = refl
    and_true false = refl

-- ---- watches

pub no_openings : (m : RefName) → NoneGives (opened_as m)
no_openings m (entries.Watch watch by target kind) e = absurd cc
no_openings m entry e = refl

-- no watch was opened
pub none_watched : (log : List Entry) (m : RefName) → IsPlain log → watch_of log m ≡ None
none_watched log m plain = none_first (opened_as m) (no_openings m) log plain

pub no_owners : (m : RefName) → NoneGives (watches_as m)
no_owners m (entries.Watch watch by target kind) e = absurd cc
no_owners m entry e = refl

-- so none has an owner
pub none_owned : (log : List Entry) (m : RefName) → IsPlain log → first_of (watches_as m) log ≡ None
none_owned log m plain = none_first (watches_as m) (no_owners m) log plain

-- ---- names

pub no_namings : (x w : List ℕ) → NoneGives (names_as x w)
no_namings x w (entries.Named node name process) e = absurd cc
no_namings x w entry e = refl

-- no name stands
pub none_stands : (log : List Entry) (x w : List ℕ) → IsPlain log → stands log x w ≡ None
none_stands log x w plain = ap flat (none_last (names_as x w) (no_namings x w) log plain)

-- no process has a name
pub none_named : (log : List Entry) (p : ProcName) → IsPlain log → names_of p log ≡ []
none_named [] p plain = refl
none_named (x ∷ log) p plain = let parts = and_parts (is_plain x) (list_all is_plain log) plain in one x parts.0 ∙ none_named log p parts.1 where
  one : (x : Entry) → is_plain x ≡ true → names_of p (x ∷ log) ≡ names_of p log
  one (entries.Named node name process) e = absurd cc
  one x e = refl
