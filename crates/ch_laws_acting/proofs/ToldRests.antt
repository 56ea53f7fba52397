-- What a cell tells, in the journal's names, tells which processes of its nodes act no more.
use Rattle.std.proofs.Common.{◌≡◌, ℕ, ◌==◌, Bool, true, false, cond, List, [], ◌∷◌, ◌++◌, map, refl, sym, ap, ◌∙◌, subst, append_assoc}
use Rattle.std.proofs.lemmas.Slice.Eq.{bytes_eq-Decides}
use Rattle.std.specs.Prelude.{find, Option, Some, None}
use Rattle.std.specs.Str.{bytes_eq}
use Rattle.ch_base.specs.declared.address.Address.{Address}
use Rattle.ch_ident.specs.declared.identifier.ProcessId.{ProcessId}
use Rattle.ch_model.specs.declared.entry.Entry.{Entry}
use Rattle.ch_model.specs.declared.entry.Entry.TheVariants as entries
use Rattle.ch_model.specs.declared.local.LocalEntry.{LocalEntry}
use Rattle.ch_model.specs.declared.local.LocalEntry.TheVariants as local
use Rattle.ch_model.specs.declared.name.End.{End}
use Rattle.ch_model.specs.declared.name.SockName.{SockName}
use Rattle.ch_model.specs.declared.note.Note.{Note}
use Rattle.ch_model.specs.declared.note.Note.TheVariants as notes
use Rattle.ch_model.specs.declared.step.Place.{Place}
use Rattle.ch_model.specs.declared.step.Step.{Step}
use Rattle.ch_model.specs.declared.step.Step.TheVariants as steps
use Rattle.ch_model.specs.Naming.{Names, called}
use Rattle.ch_model.specs.WorldSockets.{with_end_of, find_end, is_socket_named, item_arrives, other, ended}
use Rattle.ch_model.specs.WorldState.{Cell, WorldSocket, World}
use Rattle.ch_model.specs.WorldSteps.{note_entry, place_after, on_end, reads_item, item_is_read, end_closes, later_places, stepped, all_told}
use Rattle.ch_laws_log.proofs.Stored.{number_is, number_same, bytes_same}
use Rattle.ch_laws_lives.specs.Rolls.{Permits, over_at}
use Rattle.ch_laws_lives.proofs.ToldLives.{is_lifeless, AreLifeless, SameWorld, end_same}
use Rattle.ch_laws_acting.specs.Rolls.{Roll, roll_after}
use Rattle.ch_laws_acting.specs.Cells.{roll_at, store_roll, AllToldBy}

-- ---- what a log tells of a node

-- of each process of a node, by number, whether it acts no more, after one entry more
abbrev pub rests_moved : List ℕ → Entry → List Bool → List Bool
rests_moved name (entries.Made process spawn label) rests = cond (bytes_eq process.node name) (rests ++ false ∷ []) rests
rests_moved name (entries.Doom process text) rests = cond (bytes_eq process.node name) (over_at process.counter rests) rests
rests_moved name (entries.Over process reason) rests = cond (bytes_eq process.node name) (over_at process.counter rests) rests
rests_moved name (entries.Shut node) rests = cond (bytes_eq node name) (map (λ rest. true) rests) rests
rests_moved name entry rests = rests

-- after all entries, in order
abbrev pub rests_after : List ℕ → List Entry → List Bool → List Bool
rests_after name [] rests = rests
rests_after name (entry ∷ rest) rests = rests_after name rest (rests_moved name entry rests)

-- of each process of a node that the log made, by number, whether it is doomed or over by the log
abbrev pub rests_told : List ℕ → List Entry → List Bool
rests_told name log = rests_after name log []

pub after_both : (name : List ℕ) (xs ys : List Entry) (known : List Bool) → rests_after name (xs ++ ys) known ≡ rests_after name ys (rests_after name xs known)
after_both name [] ys known = refl
after_both name (x ∷ xs) ys known = after_both name xs ys (rests_moved name x known)

-- ---- entries that are of no process's life

lifeless_moves : (name : List ℕ) (x : Entry) (known : List Bool) → is_lifeless x ≡ true → rests_moved name x known ≡ known
lifeless_moves name (entries.Made process spawn label) known e = absurd cc
lifeless_moves name (entries.Doom process text) known e = absurd cc
lifeless_moves name (entries.Over process reason) known e = absurd cc
lifeless_moves name (entries.Shut node) known e = absurd cc
lifeless_moves name x known e = refl

lifeless_after : (name : List ℕ) (told : List Entry) (known : List Bool) → AreLifeless told → rests_after name told known ≡ known
lifeless_after name [] known l = refl
lifeless_after name (x ∷ told) known l = ap (rests_after name told) (lifeless_moves name x known l.0) ∙ lifeless_after name told known l.1

pub lifeless_told : (name : List ℕ) (log told : List Entry) → AreLifeless told → rests_told name (log ++ told) ≡ rests_told name log
lifeless_told name log told l = after_both name log told [] ∙ lifeless_after name told (rests_told name log) l

-- ---- the entry of a note

-- the roll is moved as the entry moves what is told of its node
note_moves : (known : Names) (last : Option Place) (note : Note) (roll : Roll) → Permits roll.lives note → (roll_after note roll).rests ≡ rests_moved (called known roll.lives.own) (note_entry known last note) roll.rests
note_moves known last (notes.Made process origin) roll p = ap (λ (b : Bool). cond b (roll.rests ++ false ∷ []) roll.rests) (sym (ap (λ (q : ProcessId). bytes_eq (called known q.node) (called known roll.lives.own)) p ∙ bytes_same (called known roll.lives.own)))
note_moves known last (notes.Doom process text) roll p = ap (λ (b : Bool). cond b (over_at process.counter roll.rests) roll.rests) (sym (ap (λ (q : ProcessId). bytes_eq (called known q.node) (called known roll.lives.own)) p.own ∙ bytes_same (called known roll.lives.own)))
note_moves known last (notes.Over process reason) roll p = ap (λ (b : Bool). cond b (over_at process.counter roll.rests) roll.rests) (sym (ap (λ (q : ProcessId). bytes_eq (called known q.node) (called known roll.lives.own)) p.own ∙ bytes_same (called known roll.lives.own)))
note_moves known last (notes.Shut node) roll p = ap (λ (b : Bool). cond b (map (λ rest. true) roll.rests) roll.rests) (sym (ap (λ (a : Address). bytes_eq (called known a) (called known roll.lives.own)) p ∙ bytes_same (called known roll.lives.own)))
note_moves known last note roll p = refl

-- of other nodes it tells nothing
note_spares : (known : Names) (last : Option Place) (note : Note) (roll : Roll) (name : List ℕ) (rests : List Bool) → Permits roll.lives note → bytes_eq (called known roll.lives.own) name ≡ false → rests_moved name (note_entry known last note) rests ≡ rests
note_spares known last (notes.Made process origin) roll name rests p o = ap (λ (b : Bool). cond b (rests ++ false ∷ []) rests) (ap (λ (q : ProcessId). bytes_eq (called known q.node) name) p ∙ o)
note_spares known last (notes.Doom process text) roll name rests p o = ap (λ (b : Bool). cond b (over_at process.counter rests) rests) (ap (λ (q : ProcessId). bytes_eq (called known q.node) name) p.own ∙ o)
note_spares known last (notes.Over process reason) roll name rests p o = ap (λ (b : Bool). cond b (over_at process.counter rests) rests) (ap (λ (q : ProcessId). bytes_eq (called known q.node) name) p.own ∙ o)
note_spares known last (notes.Shut node) roll name rests p o = ap (λ (b : Bool). cond b (map (λ rest. true) rests) rests) (ap (λ (a : Address). bytes_eq (called known a) name) p ∙ o)
note_spares known last note roll name rests p o = refl

own_same : (note : Note) (roll : Roll) → (roll_after note roll).lives.own ≡ roll.lives.own
own_same (notes.Made process origin) roll = refl
own_same (notes.Over process reason) roll = refl
own_same (notes.Shut node) roll = refl
own_same note roll = refl

seat_same : (note : Note) (roll : Roll) → ◌≡◌ {A = Address × ℕ} ((roll_after note roll).lives.own, (roll_after note roll).lives.unique) (roll.lives.own, roll.lives.unique)
seat_same (notes.Made process origin) roll = refl
seat_same (notes.Over process reason) roll = refl
seat_same (notes.Shut node) roll = refl
seat_same note roll = refl

-- ---- rolls and the log

abbrev pub Rolls : Type 0
Rolls = List (ℕ × Roll)

-- each roll is as the log tells of its node
abbrev pub Agrees : Names → List Entry → Rolls → Type 0
Agrees known log rolls = (end : ℕ) (roll : Roll) → roll_at end rolls ≡ Some roll → roll.rests ≡ rests_told (called known roll.lives.own) log

-- two nodes of one name are at one endpoint
abbrev pub AreOfNames : Names → Rolls → Type 0
AreOfNames known rolls = (e f : ℕ) (roll next : Roll) → roll_at e rolls ≡ Some roll → roll_at f rolls ≡ Some next → called known roll.lives.own ≡ called known next.lives.own → e ≡ f

-- no node has that name
abbrev pub IsNone : Names → Rolls → List ℕ → Type 0
IsNone known rolls name = (end : ℕ) (roll : Roll) → roll_at end rolls ≡ Some roll → bytes_eq (called known roll.lives.own) name ≡ false

-- where a node is, and its unique number
abbrev pub seat : Roll → Address × ℕ
seat roll = (roll.lives.own, roll.lives.unique)

-- the node at each endpoint is at the same address, with the same unique number
abbrev pub AreOwned : Rolls → Rolls → Type 0
AreOwned before after = (end : ℕ) (roll : Roll) → roll_at end after ≡ Some roll → (old : Roll) × (roll_at end before ≡ Some old) × (seat old ≡ seat roll)

-- what was told moves the rolls as it tells; of other nodes it tells nothing
pub record Goes (known : Names) (before after : Rolls) (log told : List Entry) : Type 0 where
  pub agrees : Agrees known (log ++ told) after
  pub others : (name : List ℕ) → IsNone known before name → rests_told name (log ++ told) ≡ rests_told name log
  pub owned : AreOwned before after

names_kept : (known : Names) (before after : Rolls) → AreOwned before after → AreOfNames known before → AreOfNames known after
names_kept known before after o a e f roll next r n same = let old = o e roll r in let other = o f next n in
    a e f old.0 other.0 old.1 other.1 (ap (λ (x : Address × ℕ). called known x.0) old.2 ∙ same ∙ ap (λ (x : Address × ℕ). called known x.0) (sym other.2))

goes_on : (known : Names) (a b c : Rolls) (log one two : List Entry) → Goes known a b log one → Goes known b c (log ++ one) two → Goes known a c log (one ++ two)
goes_on known a b c log one two g h = record {
  agrees = subst (λ (l : List Entry). Agrees known l c) (append_assoc log one two) h.agrees;
  others = λ name n. ap (rests_told name) (sym (append_assoc log one two)) ∙ h.others name (λ end roll r. let old = g.owned end roll r in ap (λ (x : Address × ℕ). bytes_eq (called known x.0) name) (sym old.2) ∙ n end old.0 old.1) ∙ g.others name n;
  owned = λ end roll r. let one = h.owned end roll r in let two = g.owned end one.0 one.1 in (two.0, two.1, two.2 ∙ one.2);
}

goes_lifeless : (known : Names) (rolls : Rolls) (log told : List Entry) → AreLifeless told → Agrees known log rolls → Goes known rolls rolls log told
goes_lifeless known rolls log told l a = record {
  agrees = λ end roll r. a end roll r ∙ sym (lifeless_told (called known roll.lives.own) log told l);
  others = λ name n. lifeless_told name log told l;
  owned = λ end roll r. (roll, r, refl);
}

-- what stands at an endpoint after one is stored
stored_is : (P : Roll → Type 0) (end : ℕ) (new : Roll) (rolls : Rolls) (at : ℕ) (roll : Roll) → roll_at at (store_roll end new rolls) ≡ Some roll → (at ≡ end → P new) → ((at == end) ≡ false → roll_at at rolls ≡ Some roll → P roll) → P roll
stored_is P end new [] at roll r f g = absurd cc
stored_is P end new (x ∷ xs) at roll r f g = by_test (x.0 == end) refl (at == end) refl r (stored_is P end new xs at roll) where
  here : (b : Bool) → (at == end) ≡ b → (x.0 == end) ≡ true → cond (end == at) (Some new) (roll_at at xs) ≡ Some roll → P roll
  here true h t r = let same : (end == at) ≡ true = ap (λ (n : ℕ). end == n) (number_is at end h) ∙ number_same end in
      let found : cond true (Some new) (roll_at at xs) ≡ Some roll = ap (λ (b : Bool). cond b (Some new) (roll_at at xs)) (sym same) ∙ r in let is : new ≡ roll = cc in subst P is (f (number_is at end h))
  here false h t r = by_other (end == at) refl r where
    by_other : (b : Bool) → (end == at) ≡ b → cond b (Some new) (roll_at at xs) ≡ Some roll → P roll
    by_other true k r = let is : new ≡ roll = cc in subst P is (f (sym (number_is end at k)))
    by_other false k r = g h (ap (λ (b : Bool). cond b (Some x.1) (roll_at at xs)) (ap (λ (n : ℕ). n == at) (number_is x.0 end t) ∙ k) ∙ r)

  Later : Type 0
  Later = roll_at at (store_roll end new xs) ≡ Some roll → (at ≡ end → P new) → ((at == end) ≡ false → roll_at at xs ≡ Some roll → P roll) → P roll

  there : (b : Bool) → (x.0 == at) ≡ b → (x.0 == end) ≡ false → cond b (Some x.1) (roll_at at (store_roll end new xs)) ≡ Some roll → Later → P roll
  there true h t r later = g (ap (λ (n : ℕ). n == end) (sym (number_is x.0 at h)) ∙ t) (ap (λ (b : Bool). cond b (Some x.1) (roll_at at xs)) h ∙ r)
  there false h t r later = later r f (λ d k. g d (ap (λ (b : Bool). cond b (Some x.1) (roll_at at xs)) h ∙ k))

  by_test : (b : Bool) → (x.0 == end) ≡ b → (c : Bool) → (at == end) ≡ c → roll_at at (cond b ((end, new) ∷ xs) (x ∷ store_roll end new xs)) ≡ Some roll → Later → P roll
  by_test true t c h r later = here c h t r
  by_test false t c h r later = there (x.0 == at) refl t r later

goes_note : (known : Names) (last : Option Place) (note : Note) (rolls : Rolls) (end : ℕ) (roll : Roll) (log : List Entry) → roll_at end rolls ≡ Some roll → Permits roll.lives note → Agrees known log rolls → AreOfNames known rolls
    → Goes known rolls (store_roll end (roll_after note roll) rolls) log (note_entry known last note ∷ [])
goes_note known last note rolls end roll log r p a apart = record {
  agrees = λ at one found. stored_is (λ (q : Roll). q.rests ≡ rests_told (called known q.lives.own) (log ++ note_entry known last note ∷ [])) end (roll_after note roll) rolls at one found
      (λ is. note_moves known last note roll p ∙ ap (rests_moved (called known roll.lives.own) (note_entry known last note)) (a end roll r) ∙ sym (told_one (called known roll.lives.own)) ∙ ap (λ (x : Address). rests_told (called known x) (log ++ note_entry known last note ∷ [])) (sym (own_same note roll)))
      (λ d old. a at one old ∙ sym (note_spares known last note roll (called known one.lives.own) (rests_told (called known one.lives.own) log) p (differs at one d old (bytes_eq (called known roll.lives.own) (called known one.lives.own)) refl)) ∙ sym (told_one (called known one.lives.own)));
  others = λ name n. told_one name ∙ note_spares known last note roll name (rests_told name log) p (n end roll r);
  owned = λ at one found. stored_is (λ (q : Roll). (old : Roll) × (roll_at at rolls ≡ Some old) × (seat old ≡ seat q)) end (roll_after note roll) rolls at one found
      (λ is. (roll, ap (λ (n : ℕ). roll_at n rolls) is ∙ r, sym (seat_same note roll)))
      (λ d old. (one, old, refl));
} where
  told_one : (name : List ℕ) → rests_told name (log ++ note_entry known last note ∷ []) ≡ rests_moved name (note_entry known last note) (rests_told name log)
  told_one name = after_both name log (note_entry known last note ∷ []) []

  differs : (at : ℕ) (one : Roll) → (at == end) ≡ false → roll_at at rolls ≡ Some one → (b : Bool) → bytes_eq (called known roll.lives.own) (called known one.lives.own) ≡ b → b ≡ false
  differs at one d found true h = let same : (at == end) ≡ true = ap (λ (n : ℕ). n == end) (sym (apart end at roll one r found ((bytes_eq-Decides (called known roll.lives.own) (called known one.lives.own)).0 h))) ∙ number_same end in sym same ∙ d
  differs at one d found false h = refl

-- ---- what a step tells

abbrev Plain : World → List Entry × World → Type 0
Plain before done = AreLifeless done.0 × SameWorld done.1 before

on_end_plain : (place sock : ℕ) (f : SockName × End → World → List Entry × World) (world : World) → ((at : SockName × End) → Plain world (f at world)) → Plain world (on_end place sock f world)
on_end_plain place sock f world k = by_find (find_end place sock world.sockets) where
  by_find : (o : Option (SockName × End)) → Plain world (elim o as (λ o. List Entry × World) [
    | None ↦ ([], world)
    | Some at ↦ f at world
  ])
  by_find None = (tt, (refl, refl))
  by_find (Some at) = k at

stepped_plain : (place : ℕ) (cell : Cell) (step : Step) (world : World) → Plain world (stepped place cell step world)
stepped_plain place cell (steps.Dial sock end peer) world = ((refl, tt), (refl, refl))
stepped_plain place cell (steps.Read sock) world = on_end_plain place sock reads_item world (λ at. (tt, reads at (find (is_socket_named at.0) world.sockets))) where
  reads : (at : SockName × End) (o : Option WorldSocket) → SameWorld (item_is_read at o world) world
  reads at None = (refl, refl)
  reads at (Some socket) = end_same at.0 at.1 (λ end. record end { places = later_places end.places }) world
stepped_plain place cell (steps.Write sock bytes said) world = on_end_plain place sock (λ at now. (entries.Wrote at.0 at.1 bytes ∷ [], with_end_of at.0 (other at.1) (item_arrives bytes said) now)) world (λ at. ((refl, tt), end_same at.0 (other at.1) (item_arrives bytes said) world))
stepped_plain place cell (steps.Up sock) world = on_end_plain place sock (λ at now. (entries.Up at.0 at.1 ∷ [], now)) world (λ at. ((refl, tt), (refl, refl)))
stepped_plain place cell (steps.Down sock) world = on_end_plain place sock (λ at now. (entries.Down at.0 at.1 ∷ [], end_closes at now)) world (λ at. ((refl, tt), end_same at.0 at.1 ended world))
stepped_plain place cell (steps.Left sock) world = on_end_plain place sock (λ at now. (entries.Left at.0 at.1 ∷ [], end_closes at now)) world (λ at. ((refl, tt), end_same at.0 at.1 ended world))
stepped_plain place cell (steps.Broke end peer why) world = ((refl, tt), (refl, refl))
stepped_plain place cell (steps.Post end event) world = (tt, (refl, refl))

-- ---- all that followed at a cell

pub all_go : (known : Names) (place : ℕ) (cell : Cell) (told : List LocalEntry) (world : World) (log : List Entry) (before after : Rolls) → world.names ≡ known → AllToldBy before told after → Agrees known log before → AreOfNames known before
    → Goes known before after log (all_told place cell told world).0 × SameWorld (all_told place cell told world).1 world
all_go known place cell [] world log before after w t a apart = (subst (λ (r : Rolls). Goes known before r log []) (sym t) (goes_lifeless known before log [] tt a), (refl, refl))
all_go known place cell (local.Step step ∷ rest) world log before after w t a apart =
    let one = stepped_plain place cell step world in
    let first = goes_lifeless known before log (stepped place cell step world).0 one.0 a in
    let more = all_go known place cell rest (stepped place cell step world).1 (log ++ (stepped place cell step world).0) before after (one.1.0 ∙ w) t first.agrees apart in
    (goes_on known before before after log (stepped place cell step world).0 (all_told place cell rest (stepped place cell step world).1).0 first more.0, (more.1.0 ∙ one.1.0, more.1.1 ∙ one.1.1))
all_go known place cell (local.Note note ∷ rest) world log before after w t a apart =
    let next : Rolls = store_roll t.0 (roll_after note t.1) before in
    let first : Goes known before next log (note_entry world.names world.last note ∷ []) = subst (λ (k : Names). Goes known before next log (note_entry k world.last note ∷ [])) (sym w) (goes_note known world.last note before t.0 t.1 log t.2 t.3 a apart) in
    let noted : World = record world { last = place_after world.last note } in
    let more = all_go known place cell rest noted (log ++ note_entry world.names world.last note ∷ []) next after w t.4 first.agrees (names_kept known before next first.owned apart) in
    (goes_on known before next after log (note_entry world.names world.last note ∷ []) (all_told place cell rest noted).0 first more.0, (more.1.0, more.1.1))
