-- Who lives at a node: as its roll says, and who lived before as long as it is told of no end.
use Rattle.std.proofs.Common.{◌≡◌, ◌≤◌, ◌<◌, ℕ, zero, suc, Bool, true, false, cond, not, List, [], ◌∷◌, ◌++◌, map, length, refl, sym, ap, ◌∙◌, subst, arith}
use Rattle.std.specs.Prelude.{slice_get, Option, Some, None}
use Rattle.std.specs.Option.{option_map, option_map_or}
use Rattle.ch_base.specs.declared.address.Address.{Address}
use Rattle.ch_ident.specs.declared.identifier.ProcessId.{ProcessId}
use Rattle.ch_mail.specs.declared.life.Life.{Life}
use Rattle.ch_mail.specs.Lives.{is_over}
use Rattle.ch_mail.specs.Mail.{life_of}
use Rattle.ch_mail.specs.Process.{Process}
use Rattle.ch_model.specs.declared.act.Act.{Act}
use Rattle.ch_model.specs.declared.note.Note.{Note}
use Rattle.ch_model.specs.declared.note.Note.TheVariants as notes
use Rattle.ch_model.specs.NodeIds.{is_own, life_here, is_living}
use Rattle.ch_model.specs.NodeState.{NodeState, Bound, Unread, Void, FromNode, ToNames, ToTarget, Arrived}
use Rattle.ch_laws_lives.specs.Rolls.{Roll, ends_of, roll_of, over_at, roll_after, roll_after_all, notes_in, LeadsTo, AllLeadTo, LivesOn}
use Rattle.ch_laws_peers.specs.Reads.{LeadsHere, AllLeadHere}
use Rattle.ch_laws_messages.proofs.GotTables.{got_within}
use Rattle.ch_laws_messages.proofs.GotMoves.{Lives, own_so}

-- ---- a process that lives

ends_at : (mail : List Process) (n : ℕ) (process : Process) → slice_get mail n ≡ Some process → slice_get (ends_of mail) n ≡ Some (is_over process.life)
ends_at [] n process e = absurd cc
ends_at (p ∷ mail) zero process e = let is : p ≡ process = cc in ap (λ (q : Process). Some (is_over q.life)) is
ends_at (p ∷ mail) (suc n) process e = ends_at mail n process e

ends_long : (mail : List Process) → length (ends_of mail) ≡ length mail
ends_long [] = refl
ends_long (p ∷ mail) = ap suc (ends_long mail)

-- it is the node's, and its roll says that it isn't over
pub living_roll : (node : NodeState) (to : ProcessId) → is_living node to ≡ true → (is_own node to ≡ true) × (slice_get (ends_of node.mail) to.counter ≡ Some false)
unfolding is_living life_here life_of
living_roll node to e = by_own (is_own node to) refl e where
  not_over : (b : Bool) → not b ≡ true → b ≡ false
  not_over false h = refl
  not_over true h = absurd cc

  by_found : (o : Option Process) → slice_get node.mail to.counter ≡ o → option_map_or (λ (life : Life). not (is_over life)) (option_map (λ (process : Process). process.life) o) false ≡ true → slice_get (ends_of node.mail) to.counter ≡ Some false
  by_found None f h = absurd cc
  by_found (Some process) f h = ends_at node.mail to.counter process f ∙ ap (λ (b : Bool). Some b) (not_over (is_over process.life) h)

  by_own : (b : Bool) → is_own node to ≡ b → option_map_or (λ (life : Life). not (is_over life)) (cond b (option_map (λ (process : Process). process.life) (slice_get node.mail to.counter)) None) false ≡ true → (is_own node to ≡ true) × (slice_get (ends_of node.mail) to.counter ≡ Some false)
  by_own true o h = (o, by_found (slice_get node.mail to.counter) refl h)
  by_own false o h = absurd cc

pub roll_living : (node : NodeState) (to : ProcessId) → is_own node to ≡ true → slice_get (ends_of node.mail) to.counter ≡ Some false → is_living node to ≡ true
unfolding is_living life_here life_of
roll_living node to own at = ap (λ b. option_map_or (λ (life : Life). not (is_over life)) (cond b (option_map (λ (process : Process). process.life) (slice_get node.mail to.counter)) None) false) own ∙ by_found (slice_get node.mail to.counter) refl where
  past : (mail : List Process) (n : ℕ) → slice_get mail n ≡ None → slice_get (ends_of mail) n ≡ None
  past [] n e = refl
  past (p ∷ mail) zero e = absurd cc
  past (p ∷ mail) (suc n) e = past mail n e

  by_found : (o : Option Process) → slice_get node.mail to.counter ≡ o → option_map_or (λ (life : Life). not (is_over life)) (option_map (λ (process : Process). process.life) o) false ≡ true
  by_found None f = let never : None ≡ Some false = sym (past node.mail to.counter f) ∙ at in absurd cc
  by_found (Some process) f = let is : is_over process.life ≡ false = let both : Some (is_over process.life) ≡ Some false = sym (ends_at node.mail to.counter process f) ∙ at in cc in ap not is

pub living_there : (node : NodeState) (to : ProcessId) → is_living node to ≡ true → (is_own node to ≡ true) × (to.counter < length node.mail)
living_there node to e = let it = living_roll node to e in (it.0, subst (λ (n : ℕ). to.counter < n) (ends_long node.mail) (got_within (ends_of node.mail) to.counter false it.1))

-- ---- a roll that moves

pub over_long : (n : ℕ) (all : List Bool) → length (over_at n all) ≡ length all
over_long n [] = refl
over_long zero (e ∷ all) = refl
over_long (suc n) (e ∷ all) = ap suc (over_long n all)

over_back : (n k : ℕ) (all : List Bool) → slice_get (over_at n all) k ≡ Some false → slice_get all k ≡ Some false
over_back n k [] e = e
over_back zero zero (x ∷ all) e = absurd cc
over_back zero (suc k) (x ∷ all) e = e
over_back (suc n) zero (x ∷ all) e = e
over_back (suc n) (suc k) (x ∷ all) e = over_back n k all e

more_back : (k : ℕ) (all : List Bool) → k < length all → slice_get (all ++ false ∷ []) k ≡ Some false → slice_get all k ≡ Some false
more_back k [] less e = absurd (omega arith)
more_back zero (x ∷ all) less e = e
more_back (suc k) (x ∷ all) less e = more_back k all (omega arith) e

more_long : (all : List Bool) → length all ≤ length (all ++ false ∷ [])
more_long [] = omega arith
more_long (x ∷ all) = let h = more_long all in omega arith

all_long : (all : List Bool) → length (map (λ (end : Bool). true) all) ≡ length all
all_long [] = refl
all_long (x ∷ all) = ap suc (all_long all)

all_back : (k : ℕ) (all : List Bool) → slice_get (map (λ (end : Bool). true) all) k ≡ Some false → slice_get all k ≡ Some false
all_back k [] e = e
all_back zero (x ∷ all) e = absurd cc
all_back (suc k) (x ∷ all) e = all_back k all e

-- who isn't over after a note wasn't over before, where it was made before
record Back (before after : Roll) : Type 0 where
  long : length before.ends ≤ length after.ends
  back : (k : ℕ) → k < length before.ends → slice_get after.ends k ≡ Some false → slice_get before.ends k ≡ Some false

same_back : (roll : Roll) → Back roll roll
same_back roll = record { long = omega arith; back = λ k less e. e }

note_back : (note : Note) (roll : Roll) → Back roll (roll_after note roll)
note_back (notes.Made process origin) roll = record { long = more_long roll.ends; back = λ k less e. more_back k roll.ends less e }
note_back (notes.Over process reason) roll = record { long = let same = over_long process.counter roll.ends in omega arith; back = λ k less e. over_back process.counter k roll.ends e }
note_back (notes.Shut node) roll = record { long = let same = all_long roll.ends in omega arith; back = λ k less e. all_back k roll.ends e }
note_back note roll = same_back roll

then_back : (one two three : Roll) → Back one two → Back two three → Back one three
then_back one two three a b = record { long = let h = a.long in let i = b.long in omega arith; back = λ k less e. a.back k less (b.back k (let h = a.long in omega arith) e) }

all_notes_back : (told : List Note) (roll : Roll) → Back roll (roll_after_all told roll)
all_notes_back [] roll = same_back roll
all_notes_back (note ∷ rest) roll = then_back roll (roll_after note roll) (roll_after_all rest (roll_after note roll)) (note_back note roll) (all_notes_back rest (roll_after note roll))

own_after : (told : List Note) (roll : Roll) → ((roll_after_all told roll).own ≡ roll.own) × ((roll_after_all told roll).unique ≡ roll.unique)
own_after [] roll = (refl, refl)
own_after (note ∷ rest) roll = let more = own_after rest (roll_after note roll) in let one = by_note note in (more.0 ∙ one.0, more.1 ∙ one.1) where
  by_note : (note : Note) → ((roll_after note roll).own ≡ roll.own) × ((roll_after note roll).unique ≡ roll.unique)
  by_note (notes.Made process origin) = (refl, refl)
  by_note (notes.Over process reason) = (refl, refl)
  by_note (notes.Shut node) = (refl, refl)
  by_note note = (refl, refl)

-- so it is of a node whose roll tells what it did
pub lives_of : (node next : NodeState) (done : List Act) → LivesOn node done next → Lives node next
lives_of node next done l = record { own = own; unique = unique; mail = mail; back = back } where
  after : Back (roll_of node) (roll_of next)
  after = subst (Back (roll_of node)) (sym l.tells.moved) (all_notes_back (notes_in done) (roll_of node))

  own : next.own ≡ node.own
  own = ap (λ (r : Roll). r.own) l.tells.moved ∙ (own_after (notes_in done) (roll_of node)).0

  unique : next.unique ≡ node.unique
  unique = ap (λ (r : Roll). r.unique) l.tells.moved ∙ (own_after (notes_in done) (roll_of node)).1

  mail : length node.mail ≤ length next.mail
  mail = let h = after.long in let a = ends_long node.mail in let b = ends_long next.mail in omega arith

  back : (to : ProcessId) → to.counter < length node.mail → is_living next to ≡ true → is_living node to ≡ true
  back to less e =
      let it = living_roll next to e in
      roll_living node to (sym (own_so node next to own unique) ∙ it.0) (after.back to.counter (let a = ends_long node.mail in omega arith) it.1)

-- ---- what leads to a node

leads_as : (own : Address) (bound : Bound) → LeadsHere own bound → LeadsTo own bound
leads_as own Unread l = tt
leads_as own Void l = tt
leads_as own FromNode l = tt
leads_as own (ToNames from) l = tt
leads_as own (ToTarget from to) l = l

leads_back : (own : Address) (bound : Bound) → LeadsTo own bound → LeadsHere own bound
leads_back own Unread l = tt
leads_back own Void l = tt
leads_back own FromNode l = tt
leads_back own (ToNames from) l = tt
leads_back own (ToTarget from to) l = l

pub all_lead_to : (own : Address) (all : List Arrived) → AllLeadHere own all → AllLeadTo own all
all_lead_to own [] l = tt
all_lead_to own (x ∷ all) l = (leads_as own x.bound l.0, all_lead_to own all l.1)

pub all_lead_here : (own : Address) (all : List Arrived) → AllLeadTo own all → AllLeadHere own all
all_lead_here own [] l = tt
all_lead_here own (x ∷ all) l = (leads_back own x.bound l.0, all_lead_here own all l.1)
