-- What is told of steps, of which one posts an event at most.
use Rattle.std.proofs.Common.{◌≡◌, ℕ, cond, List, [], ◌∷◌, ◌++◌, Ok, Err, refl, sym, ap, ◌∙◌, subst, ◌==◌}
use Rattle.ch_base.specs.declared.event.Event.{Event}
use Rattle.ch_model.specs.declared.act.Act.{Act}
use Rattle.ch_model.specs.declared.act.Act.TheVariants as acts
use Rattle.ch_model.specs.declared.local.LocalEntry.{LocalEntry}
use Rattle.ch_model.specs.declared.local.LocalEntry.TheVariants as local
use Rattle.ch_model.specs.declared.step.Step.{Step}
use Rattle.ch_model.specs.declared.step.Step.TheVariants as steps
use Rattle.ch_model.specs.CellSteps.{Followed, after_entries, ◌then◌, acts_on, posted, steps_on}
use Rattle.ch_model.specs.WorldState.{Cell}
use Rattle.ch_laws_calls.specs.FitsTurns.{bytes_at, NoDials}
use Rattle.ch_laws_log.specs.HostEnds.{steps_in}
use Rattle.ch_laws_plain_nodes.specs.Acts.{AreNotes}
use Rattle.ch_laws_plain.specs.ReadsReading.{posts_in}
use Rattle.ch_laws_plain.specs.HearsTurns.{unposted, AllPlainNotes}

-- ---- what is told first

record Behind (entry : LocalEntry) (more : Followed) (told : List LocalEntry) (after : Cell) : Type 0 where
  rest : List LocalEntry
  followed : more ≡ Ok (rest, after)
  spelled : told ≡ entry ∷ rest

behind : (entry : LocalEntry) (more : Followed) (told : List LocalEntry) (after : Cell) → after_entries (entry ∷ []) more ≡ Ok (told, after) → Behind entry more told after
behind entry (Err stop) told after e = absurd cc
behind entry (Ok more) told after e = let same : (entry ∷ more.0, more.1) ≡ (told, after) = cc in record {
  rest = more.0;
  followed = ap (λ (c : Cell). Ok (more.0, c)) (ap (λ (x : List LocalEntry × Cell). x.1) same);
  spelled = ap (λ (x : List LocalEntry × Cell). x.0) (sym same);
}

-- ---- acts that are notes

-- all that is told is plain, and no step
pub record OnlyNotes (cell : Cell) (told : List LocalEntry) (after : Cell) : Type 0 where
  pub same : after ≡ cell
  pub none : steps_in told ≡ []
  pub notes : AllPlainNotes told

pub only_notes : (end : ℕ) (done : List Act) (cell : Cell) (told : List LocalEntry) (after : Cell) → AreNotes done → acts_on end done cell ≡ Ok (told, after) → OnlyNotes cell told after
only_notes end [] cell told after n e = let same : ([], cell) ≡ (told, after) = cc in
    subst (λ (x : List LocalEntry × Cell). OnlyNotes cell x.0 x.1) same (record { same = refl; none = refl; notes = tt })
only_notes end (acts.Note note ∷ rest) cell told after n e =
    let b = behind (local.Note note) (acts_on end rest cell) told after e in
    let more = only_notes end rest cell b.rest after n.1 b.followed in
    subst (λ (l : List LocalEntry). OnlyNotes cell l after) (sym b.spelled) (record { same = more.same; none = more.none; notes = (n.0, more.notes) })
only_notes end (acts.Open conn peer ∷ rest) cell told after n e = absurd n
only_notes end (acts.Put conn payload weight ∷ rest) cell told after n e = absurd n
only_notes end (acts.Close conn ∷ rest) cell told after n e = absurd n

-- ---- steps of which none posts

pub record Told (done : List Step) (told : List LocalEntry) : Type 0 where
  pub steps : steps_in told ≡ unposted done
  pub notes : AllPlainNotes told

told_first : (step : Step) (done : List Step) (rest told : List LocalEntry) → unposted (step ∷ done) ≡ step ∷ unposted done → told ≡ local.Step step ∷ rest → Told done rest → Told (step ∷ done) told
told_first step done rest told is so t = record { steps = ap steps_in so ∙ ap (λ (l : List Step). step ∷ l) t.steps ∙ sym is; notes = subst AllPlainNotes (sym so) t.notes }

pub unheard : (done : List Step) (cell : Cell) (told : List LocalEntry) (after : Cell) → posts_in done ≡ [] → steps_on done cell ≡ Ok (told, after) → (after ≡ cell) × Told done told
unheard [] cell told after p e = let same : ([], cell) ≡ (told, after) = cc in
    subst (λ (x : List LocalEntry × Cell). (x.1 ≡ cell) × Told [] x.0) same (refl, record { steps = refl; notes = tt })
unheard (steps.Post end event ∷ rest) cell told after p e = absurd cc
unheard (steps.Dial sock end peer ∷ rest) cell told after p e =
    let b = behind (local.Step (steps.Dial sock end peer)) (steps_on rest cell) told after e in
    let more = unheard rest cell b.rest after p b.followed in (more.0, told_first (steps.Dial sock end peer) rest b.rest told refl b.spelled more.1)
unheard (steps.Read sock ∷ rest) cell told after p e =
    let b = behind (local.Step (steps.Read sock)) (steps_on rest cell) told after e in
    let more = unheard rest cell b.rest after p b.followed in (more.0, told_first (steps.Read sock) rest b.rest told refl b.spelled more.1)
unheard (steps.Write sock bytes said ∷ rest) cell told after p e =
    let b = behind (local.Step (steps.Write sock bytes said)) (steps_on rest cell) told after e in
    let more = unheard rest cell b.rest after p b.followed in (more.0, told_first (steps.Write sock bytes said) rest b.rest told refl b.spelled more.1)
unheard (steps.Up sock ∷ rest) cell told after p e =
    let b = behind (local.Step (steps.Up sock)) (steps_on rest cell) told after e in
    let more = unheard rest cell b.rest after p b.followed in (more.0, told_first (steps.Up sock) rest b.rest told refl b.spelled more.1)
unheard (steps.Down sock ∷ rest) cell told after p e =
    let b = behind (local.Step (steps.Down sock)) (steps_on rest cell) told after e in
    let more = unheard rest cell b.rest after p b.followed in (more.0, told_first (steps.Down sock) rest b.rest told refl b.spelled more.1)
unheard (steps.Left sock ∷ rest) cell told after p e =
    let b = behind (local.Step (steps.Left sock)) (steps_on rest cell) told after e in
    let more = unheard rest cell b.rest after p b.followed in (more.0, told_first (steps.Left sock) rest b.rest told refl b.spelled more.1)
unheard (steps.Broke end peer why ∷ rest) cell told after p e =
    let b = behind (local.Step (steps.Broke end peer why)) (steps_on rest cell) told after e in
    let more = unheard rest cell b.rest after p b.followed in (more.0, told_first (steps.Broke end peer why) rest b.rest told refl b.spelled more.1)

-- ---- steps of which one does

-- what its node made of it, and that all is told so where that told plain notes alone
pub record Heard (end : ℕ) (event : Event) (done : List Step) (cell : Cell) (told : List LocalEntry) (after : Cell) : Type 0 where
  pub heard : List LocalEntry
  pub followed : posted end event cell ≡ Ok (heard, after)
  pub so_told : steps_in heard ≡ [] → AllPlainNotes heard → Told done told

heard_first : (end : ℕ) (event : Event) (step : Step) (done : List Step) (cell : Cell) (rest told : List LocalEntry) (after : Cell) → unposted (step ∷ done) ≡ step ∷ unposted done → told ≡ local.Step step ∷ rest → Heard end event done cell rest after → Heard end event (step ∷ done) cell told after
heard_first end event step done cell rest told after is so h = record { heard = h.heard; followed = h.followed; so_told = λ s n. told_first step done rest told is so (h.so_told s n) }

told_behind : (done : List Step) (heard rest : List LocalEntry) → steps_in heard ≡ [] → AllPlainNotes heard → Told done rest → Told done (heard ++ rest)
told_behind done [] rest s n t = t
told_behind done (local.Note note ∷ heard) rest s n t = let more = told_behind done heard rest s n.1 t in record { steps = more.steps; notes = (n.0, more.notes) }
told_behind done (local.Step step ∷ heard) rest s n t = absurd cc

last_heard : (end : ℕ) (event : Event) (rest : List Step) (cell : Cell) (told : List LocalEntry) (after : Cell) (r : Followed) → posted end event cell ≡ r → posts_in rest ≡ [] → (r then steps_on rest) ≡ Ok (told, after) → Heard end event (steps.Post end event ∷ rest) cell told after
last_heard end event rest cell told after (Err stop) is p e = absurd cc
last_heard end event rest cell told after (Ok first) is p e = by_rest (steps_on rest first.1) refl e where
  by_rest : (more : Followed) → steps_on rest first.1 ≡ more → after_entries first.0 more ≡ Ok (told, after) → Heard end event (steps.Post end event ∷ rest) cell told after
  by_rest (Err stop) m e = absurd cc
  by_rest (Ok more) m e =
      let same : (first.0 ++ more.0, more.1) ≡ (told, after) = cc in
      let u = unheard rest first.1 more.0 more.1 p m in
      let so : first.0 ++ more.0 ≡ told = ap (λ (x : List LocalEntry × Cell). x.0) same in
      let at : first.1 ≡ after = sym u.0 ∙ ap (λ (x : List LocalEntry × Cell). x.1) same in
      record {
        heard = first.0;
        followed = is ∙ ap (λ (c : Cell). Ok (first.0, c)) at;
        so_told = λ s n. subst (Told (steps.Post end event ∷ rest)) so (as_posted (told_behind rest first.0 more.0 s n u.1));
      }
    where
      as_posted : {l : List LocalEntry} → Told rest l → Told (steps.Post end event ∷ rest) l
      as_posted t = record { steps = t.steps; notes = t.notes }

pub heard : (end : ℕ) (event : Event) (done : List Step) (cell : Cell) (told : List LocalEntry) (after : Cell) → posts_in done ≡ (end, event) ∷ [] → steps_on done cell ≡ Ok (told, after) → Heard end event done cell told after
heard end event [] cell told after p e = absurd cc
heard end event (steps.Post at said ∷ rest) cell told after p e =
    let none : posts_in rest ≡ [] = cc in
    let first : ◌≡◌ {A = ℕ × Event} (at, said) (end, event) = cc in
    subst (λ (x : ℕ × Event). Heard x.0 x.1 (steps.Post at said ∷ rest) cell told after) first (last_heard at said rest cell told after (posted at said cell) refl none e)
heard end event (steps.Dial sock at peer ∷ rest) cell told after p e =
    let b = behind (local.Step (steps.Dial sock at peer)) (steps_on rest cell) told after e in
    heard_first end event (steps.Dial sock at peer) rest cell b.rest told after refl b.spelled (heard end event rest cell b.rest after p b.followed)
heard end event (steps.Read sock ∷ rest) cell told after p e =
    let b = behind (local.Step (steps.Read sock)) (steps_on rest cell) told after e in
    heard_first end event (steps.Read sock) rest cell b.rest told after refl b.spelled (heard end event rest cell b.rest after p b.followed)
heard end event (steps.Write sock bytes said ∷ rest) cell told after p e =
    let b = behind (local.Step (steps.Write sock bytes said)) (steps_on rest cell) told after e in
    heard_first end event (steps.Write sock bytes said) rest cell b.rest told after refl b.spelled (heard end event rest cell b.rest after p b.followed)
heard end event (steps.Up sock ∷ rest) cell told after p e =
    let b = behind (local.Step (steps.Up sock)) (steps_on rest cell) told after e in
    heard_first end event (steps.Up sock) rest cell b.rest told after refl b.spelled (heard end event rest cell b.rest after p b.followed)
heard end event (steps.Down sock ∷ rest) cell told after p e =
    let b = behind (local.Step (steps.Down sock)) (steps_on rest cell) told after e in
    heard_first end event (steps.Down sock) rest cell b.rest told after refl b.spelled (heard end event rest cell b.rest after p b.followed)
heard end event (steps.Left sock ∷ rest) cell told after p e =
    let b = behind (local.Step (steps.Left sock)) (steps_on rest cell) told after e in
    heard_first end event (steps.Left sock) rest cell b.rest told after refl b.spelled (heard end event rest cell b.rest after p b.followed)
heard end event (steps.Broke at peer why ∷ rest) cell told after p e =
    let b = behind (local.Step (steps.Broke at peer why)) (steps_on rest cell) told after e in
    heard_first end event (steps.Broke at peer why) rest cell b.rest told after refl b.spelled (heard end event rest cell b.rest after p b.followed)

-- ---- what is written and dialed of that

pub written : (done : List Step) (n : ℕ) → bytes_at n (unposted done) ≡ bytes_at n done
written [] n = refl
written (steps.Post end event ∷ rest) n = written rest n
written (steps.Write sock bytes said ∷ rest) n = ap (λ (l : List ℕ). cond (sock == n) (bytes ++ l) l) (written rest n)
written (steps.Dial sock at peer ∷ rest) n = written rest n
written (steps.Read sock ∷ rest) n = written rest n
written (steps.Up sock ∷ rest) n = written rest n
written (steps.Down sock ∷ rest) n = written rest n
written (steps.Left sock ∷ rest) n = written rest n
written (steps.Broke at peer why ∷ rest) n = written rest n

pub undialed : (done : List Step) → NoDials done → NoDials (unposted done)
undialed [] d = tt
undialed (steps.Dial sock at peer ∷ rest) d = absurd d
undialed (steps.Post end event ∷ rest) d = undialed rest d
undialed (steps.Read sock ∷ rest) d = undialed rest d
undialed (steps.Write sock bytes said ∷ rest) d = undialed rest d
undialed (steps.Up sock ∷ rest) d = undialed rest d
undialed (steps.Down sock ∷ rest) d = undialed rest d
undialed (steps.Left sock ∷ rest) d = undialed rest d
undialed (steps.Broke at peer why ∷ rest) d = undialed rest d
