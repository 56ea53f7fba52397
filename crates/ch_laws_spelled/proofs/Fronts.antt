-- The first lines of a journal of many nodes: they are such a journal too, with its names, or they only declare, and tell nothing.
use Rattle.std.specs.Prelude.{◌≡◌, ℕ, ◌+◌, Bool, List, [], ◌∷◌, ◌++◌, Ok, Err, if◌then◌else◌}
use Rattle.std.specs.List.{AllByRecursion}
use Rattle.std.proofs.Common.{refl, sym, ap, ◌∙◌, subst, inl, inr, ◌⊎◌}
use Rattle.ch_model.specs.declared.entry.Entry.{Entry}
use Rattle.ch_model.specs.declared.entry.Entry.TheVariants as entries
use Rattle.ch_model.specs.declared.line.Line.{Line}
use Rattle.ch_model.specs.declared.line.What.{What}
use Rattle.ch_model.specs.Settle.{Happened}
use Rattle.ch_model.specs.World.{◌>>=◌, names_of, world_new, event_step, log_from, log_of}
use Rattle.ch_model.specs.WorldState.{Named, World}
use Rattle.ch_laws_lines.specs.InOrder.{Declares, Happens, IsInOrder}
use Rattle.ch_laws_lines.proofs.Worlds.{of_declarations}
use Rattle.ch_laws_log.specs.Declared.{AreApart}
use Rattle.ch_laws_log.specs.Lines.{AllLines, AreNumbered}
use Rattle.ch_laws_many.specs.ManyLines.{is_of_many}
use Rattle.ch_laws_many.proofs.Reached.{IsJournal}
use Rattle.ch_laws_spelled.specs.Spelled.{IsSentWell, IsWell, SaysWell}
use Rattle.ch_laws_spelled.proofs.ReadLines.{AllHave}
use Rattle.ch_laws_spelled.proofs.LinesWell.{journal_well}
use Rattle.ch_laws_spelled.proofs.LogWell.{log_well}

-- ---- first lines

pub first_such : {A : Type 0} (P : A → Type 0) (front rest : List A) → AllByRecursion P (front ++ rest) → AllByRecursion P front
first_such P [] rest all = tt
first_such P (x ∷ front) rest all = (all.0, first_such P front rest all.1)

first_lines : (test : What → Bool) (front rest : List Line) → AllLines test (front ++ rest) → AllLines test front
first_lines test [] rest all = tt
first_lines test (line ∷ front) rest all = (all.0, first_lines test front rest all.1)

first_numbered : (front rest : List Line) (least : ℕ) → AreNumbered least (front ++ rest) → AreNumbered least front
first_numbered [] rest least all = tt
first_numbered (line ∷ front) rest least all = (all.0, first_numbered front rest (line.number + 1) all.1)

-- all that is declared, and then events
record GoesFurther (declared front : List Line) : Type 0 where
  more : List Line
  lines_are : front ≡ declared ++ more
  happen : AllByRecursion Happens more

-- first lines only declare, or all declarations are among them
cut_at : (declared events front rest : List Line) → front ++ rest ≡ declared ++ events → AllByRecursion Declares declared → AllByRecursion Happens events → AllByRecursion Declares front ⊎ GoesFurther declared front
cut_at [] events front rest e d h = inr (record { more = front; lines_are = refl; happen = first_such Happens front rest (subst (AllByRecursion Happens) (sym e) h) })
cut_at (x ∷ declared) events [] rest e d h = inl tt
cut_at (x ∷ declared) events (y ∷ front) rest e d h =
    let same : y ≡ x = cc in
    let others : front ++ rest ≡ declared ++ events = cc in
    by_rest same (cut_at declared events front rest others d.1 h) where
      by_rest : y ≡ x → AllByRecursion Declares front ⊎ GoesFurther declared front → AllByRecursion Declares (y ∷ front) ⊎ GoesFurther (x ∷ declared) (y ∷ front)
      by_rest same (inl all) = inl (subst Declares (sym same) d.0, all)
      by_rest same (inr goes) = inr (record { more = goes.more; lines_are = ap (λ (l : Line). l ∷ front) same ∙ ap (λ (ls : List Line). x ∷ ls) goes.lines_are; happen = goes.happen })

-- declarations tell nothing
tells_nothing : (front : List Line) → AllByRecursion Declares front → (world : World) → log_from world front ≡ Ok ([], world)
tells_nothing [] d world = refl
tells_nothing (line ∷ front) d world =
    ap (λ (one : Happened). one >>= λ done. log_from done.1 front >>= λ more. Ok (done.0 ++ more.0, more.1)) (ap (λ (b : Bool). if b then Ok ([], world) else event_step line.number line.what world) d.0)
    ∙ ap (λ (rest : Happened). rest >>= λ more. Ok (more.0, more.1)) (tells_nothing front d.1 world)

abbrev told_in : Happened → List Entry
told_in (Ok done) = done.0
told_in (Err stop) = []

-- these lines are a journal of many nodes, with the names of that one and with this log
pub record IsFront (journal front : List Line) (told : List Entry) : Type 0 where
  pub is_journal : IsJournal front
  pub names : names_of front ≡ names_of journal
  pub log : log_of front ≡ Ok told

pub of_front : (journal : List Line) → IsInOrder journal → IsJournal journal → (front rest : List Line) → front ++ rest ≡ journal → (log : List Entry) (world : World) → log_from (world_new journal) front ≡ Ok (log, world) → (log ≡ []) ⊎ IsFront journal front log
of_front journal o j front rest cut log world is = by_cut (cut_at o.declared o.events front rest (cut ∙ o.lines_are) o.declare o.happen) where
  by_cut : AllByRecursion Declares front ⊎ GoesFurther o.declared front → (log ≡ []) ⊎ IsFront journal front log
  by_cut (inl all) = inl (ap told_in (sym is ∙ tells_nothing front all (world_new journal)))
  by_cut (inr goes) = inr (record {
    is_journal = record {
      numbered = first_numbered front rest 1 (subst (AreNumbered 1) (sym cut) j.numbered);
      apart = subst AreApart (sym names) j.apart;
      lines = first_lines (is_of_many (names_of front)) front rest (subst (λ (known : List Named). AllLines (is_of_many known) (front ++ rest)) (sym names) (subst (AllLines (is_of_many (names_of journal))) (sym cut) j.lines));
    };
    names = names;
    log = ap (λ (w : World). log_from w front >>= λ done. Ok done.0) same_world ∙ ap (λ (done : Happened). done >>= λ done. Ok done.0) is;
  }) where
    same_world : world_new front ≡ world_new journal
    same_world = ap (λ (ls : List Line). world_new ls) goes.lines_are ∙ of_declarations o.declared goes.more goes.happen ∙ sym (ap (λ (ls : List Line). world_new ls) o.lines_are ∙ of_declarations o.declared o.events o.happen)

    names : names_of front ≡ names_of journal
    names = ap (λ (w : World). w.names) same_world

-- ---- what first lines say

-- what is well by the names of one journal is so by the same names of another
same_well : (one two : List Line) → names_of one ≡ names_of two → (log : List Entry) → SaysWell one log → SaysWell two log
same_well one two e [] well = tt
same_well one two e (entry ∷ log) well = (by_entry entry well.0, same_well one two e log well.1) where
  by_entry : (entry : Entry) → IsWell one entry → IsWell two entry
  by_entry (entries.Said by to epoch index mark body) w = subst (λ (known : List Named). IsSentWell known by to mark) e w
  by_entry entry w = tt

pub front_well : (journal : List Line) → IsInOrder journal → IsJournal journal → AllHave journal → (front rest : List Line) → front ++ rest ≡ journal → (log : List Entry) (world : World) → log_from (world_new journal) front ≡ Ok (log, world) → SaysWell journal log
front_well journal o j have front rest cut log world is = by_front (of_front journal o j front rest cut log world is) where
  by_front : (log ≡ []) ⊎ IsFront journal front log → SaysWell journal log
  by_front (inl none) = subst (SaysWell journal) (sym none) tt
  by_front (inr f) = same_well front journal f.names log (log_well front f.is_journal (journal_well front f.is_journal (first_such _ front rest (subst AllHave (sym cut) have))) log f.log)
