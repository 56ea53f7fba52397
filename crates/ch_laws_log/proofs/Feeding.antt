-- What is fed to an end was unread, and the end of input is fed where nothing is; and no dial is refused where no line refuses.
use Rattle.std.proofs.Common.{◌≡◌, ◌≤◌, ℕ, zero, suc, Bool, true, false, not, ◌||◌, ◌&&◌, List, [], ◌∷◌, ◌++◌, length, take, Ok, refl, sym, ap, ◌∙◌, arith, le-leb}
use Rattle.std.proofs.lemmas.Bool.{and_parts, or_parts}
use Rattle.std.proofs.lemmas.List.Folds.{list_any-append}
use Rattle.std.specs.List.{list_any}
use Rattle.std.specs.Prelude.{nat_le, nat_lt, ◌==◌}
use Rattle.ch_model.specs.declared.entry.Entry.{Entry}
use Rattle.ch_model.specs.declared.entry.Entry.TheVariants as entries
use Rattle.ch_model.specs.declared.line.Line.{Line}
use Rattle.ch_model.specs.declared.line.What.{What}
use Rattle.ch_model.specs.declared.line.What.TheVariants as lines
use Rattle.ch_model.specs.declared.name.End.{End}
use Rattle.ch_model.specs.declared.name.End.TheVariants.{O, T}
use Rattle.ch_model.specs.declared.name.SockName.{SockName}
use Rattle.ch_model.specs.AccountsBytes.{feeds_the_unread, feeds_the_end}
use Rattle.ch_model.specs.AnswersEntries.{refuses}
use Rattle.ch_model.specs.Logs.{each_after}
use Rattle.ch_model.specs.Same.{across}
use Rattle.ch_model.specs.Sockets.{unread, stands_at, is_cut, has_ended_input}
use Rattle.ch_model.specs.Stages.{is_ended}
use Rattle.ch_model.specs.World.{world_new, log_from}
use Rattle.ch_model.specs.WorldSockets.{end_of, other}
use Rattle.ch_model.specs.WorldState.{WorldEnd, WorldSocket, World}
use Rattle.ch_laws_log.specs.Agrees.{AllPlaced, IsAsTold, is_refusal}
use Rattle.ch_laws_log.specs.Lines.{AllLines, feeds_some, is_without_refusal}
use Rattle.ch_laws_log.proofs.Agreeing.{Good, AnyCount}
use Rattle.ch_laws_log.proofs.Kept.{IsIn, Allowed, AllAllowed}
use Rattle.ch_laws_log.proofs.Stored.{number_is}
use Rattle.ch_laws_log.proofs.Tested.{Tested, PassesPlain, PassesFed, HeldBefore, keeps_tested}
use Rattle.ch_laws_log.proofs.Told.{fresh, any_allowed, holds_after, opener_as_told, target_as_told}

-- ---- a feeding

taken_within : (count : ℕ) (left : List ℕ) → length (take count left) ≤ length left
taken_within zero left = none (length left) where
  none : (n : ℕ) → 0 ≤ n
  none n = omega arith
taken_within (suc count) [] = omega arith
taken_within (suc count) (b ∷ left) = more (length (take count left)) (length left) (taken_within count left) where
  more : (n m : ℕ) → n ≤ m → suc n ≤ suc m
  more n m h = omega arith

-- no refusal at all is none of this socket
none_of_it : (s : SockName) (log : List Entry) → list_any is_refusal log ≡ false → list_any (refuses s) log ≡ false
none_of_it s [] e = refl
none_of_it s (x ∷ log) e = let parts = or_parts (is_refusal x) (list_any is_refusal log) e in ap (λ b. b || list_any (refuses s) log) (not_of_it x parts.0) ∙ none_of_it s log parts.1 where
  not_of_it : (x : Entry) → is_refusal x ≡ false → refuses s x ≡ false
  not_of_it (entries.Refused sock) e = absurd cc
  not_of_it x e = refl

unread_is : (journal : List Line) (log : List Entry) (world : World) (socket : WorldSocket) (which : End) → Good journal log world → IsIn socket world → AllPlaced journal world → list_any is_refusal log ≡ false → unread journal log socket.name which ≡ (end_of which socket).unread
unread_is journal log world socket O g is placed none = (opener_as_told journal log world socket.name socket g is (none_of_it socket.name log none)).unread
unread_is journal log world socket T g is placed none = (target_as_told journal log world socket.name socket g is (placed socket.name socket is)).unread

-- the sockets are placed, and no dial was refused
abbrev Sure : List Line → List Entry → World → Type 0
Sure journal log world = AllPlaced journal world × (list_any is_refusal log ≡ false)

none_before : (log told : List Entry) → list_any is_refusal (log ++ told) ≡ false → list_any is_refusal log ≡ false
none_before log told e = (or_parts (list_any is_refusal log) (list_any is_refusal told) (sym (list_any-append is_refusal log told) ∙ e)).0

sure_before : (journal : List Line) → HeldBefore journal (Sure journal)
sure_before journal log told world after back sure = (back sure.0, none_before log told sure.1)

-- ---- no more than is unread

unread_plain : (journal : List Line) → PassesPlain (feeds_the_unread journal)
unread_plain journal log (entries.Fed sock end count) e = absurd cc
unread_plain journal log x e = refl

unread_fed : (journal : List Line) → PassesFed journal (Sure journal) (feeds_the_unread journal) AnyCount
unread_fed journal log world socket which count g is input w sure = ap (λ (l : List ℕ). nat_le (length (take count (end_of which socket).unread)) (length l)) (unread_is journal log world socket which g is sure.0 sure.1)
    ∙ le-leb (length (take count (end_of which socket).unread)) (length (end_of which socket).unread) (taken_within count (end_of which socket).unread)

pub fed_unread : (journal lines : List Line) (log : List Entry) (world : World) → log_from (world_new journal) lines ≡ Ok (log, world) → AllPlaced journal world → list_any is_refusal log ≡ false → each_after (feeds_the_unread journal) [] log ≡ true
fed_unread journal lines log world is placed none = (holds_after (Tested journal (Sure journal) (feeds_the_unread journal))
    (keeps_tested journal (Sure journal) (feeds_the_unread journal) (Unit {0}) AnyCount (λ left. tt) (sure_before journal) (unread_plain journal) (unread_fed journal) (λ r l s. refl))
    journal lines (any_allowed lines) (record { good = fresh journal; well = λ p. refl }) log world is).well (placed, none)

-- ---- the end of input, where nothing is unread

-- where nothing is fed, nothing is unread
abbrev pub TakesAll : ℕ → List ℕ → Type 0
TakesAll count left = length (take count left) ≡ 0 → left ≡ []

takes_whole : (left : List ℕ) → TakesAll (length left) left
takes_whole [] e = refl
takes_whole (b ∷ left) e = absurd (never (length (take (length left) left)) e) where
  never : (n : ℕ) → suc n ≡ 0 → ⊥
  never n h = omega arith

takes_some : (count : ℕ) (left : List ℕ) → TakesAll (suc count) left
takes_some count [] e = refl
takes_some count (b ∷ left) e = absurd (never (length (take count left)) e) where
  never : (n : ℕ) → suc n ≡ 0 → ⊥
  never n h = omega arith

end_plain : (journal : List Line) → PassesPlain (feeds_the_end journal)
end_plain journal log (entries.Fed sock end count) e = absurd cc
end_plain journal log x e = refl

-- the end of input, as the log tells
ends_input : (journal : List Line) (log : List Entry) (s : SockName) (e far : End) (end other_end : WorldEnd) → across e ≡ far → IsAsTold journal log s e end → IsAsTold journal log s far other_end → (end.is_cut || is_ended other_end.stage) ≡ true → has_ended_input journal log s e ≡ true
ends_input journal log s e far end other_end is here there input =
    ap (λ b. b || is_cut log s e) (ap (λ (x : End). stands_at journal log s x is_ended) is ∙ there.stands is_ended) ∙ ap (λ b. is_ended other_end.stage || b) here.cut ∙ turned (is_ended other_end.stage) end.is_cut ∙ input where
      turned : (a b : Bool) → (a || b) ≡ (b || a)
      turned true true = refl
      turned true false = refl
      turned false true = refl
      turned false false = refl

has_ended : (journal : List Line) (log : List Entry) (world : World) (socket : WorldSocket) (which : End) → Good journal log world → IsIn socket world → Sure journal log world → ((end_of which socket).is_cut || is_ended (end_of (other which) socket).stage) ≡ true → has_ended_input journal log socket.name which ≡ true
has_ended journal log world socket O g is sure input = ends_input journal log socket.name O T socket.o socket.t refl (opener_as_told journal log world socket.name socket g is (none_of_it socket.name log sure.1)) (target_as_told journal log world socket.name socket g is (sure.0 socket.name socket is)) input
has_ended journal log world socket T g is sure input = ends_input journal log socket.name T O socket.t socket.o refl (target_as_told journal log world socket.name socket g is (sure.0 socket.name socket is)) (opener_as_told journal log world socket.name socket g is (none_of_it socket.name log sure.1)) input

end_fed : (journal : List Line) → PassesFed journal (Sure journal) (feeds_the_end journal) TakesAll
end_fed journal log world socket which count g is input w sure = by_count (length (take count (end_of which socket).unread) == 0) refl where
  left_in : ◌≡◌ {A = List ℕ} (end_of which socket).unread [] → (nat_lt 0 (length (end_of which socket).unread) || ((end_of which socket).is_cut || is_ended (end_of (other which) socket).stage)) ≡ true → ((end_of which socket).is_cut || is_ended (end_of (other which) socket).stage) ≡ true
  left_in e h = sym (ap (λ (l : List ℕ). nat_lt 0 (length l) || ((end_of which socket).is_cut || is_ended (end_of (other which) socket).stage)) e) ∙ h

  by_count : (b : Bool) → (length (take count (end_of which socket).unread) == 0) ≡ b → (not b || length (unread journal log socket.name which) == 0 && has_ended_input journal log socket.name which) ≡ true
  by_count false e = refl
  by_count true e =
      let none = w (number_is (length (take count (end_of which socket).unread)) 0 e) in
      ap (λ (l : List ℕ). length l == 0 && has_ended_input journal log socket.name which) (unread_is journal log world socket which g is sure.0 sure.1 ∙ none) ∙ has_ended journal log world socket which g is sure (left_in none input)

feeding_line : (what : What) → feeds_some what ≡ true → Allowed (Unit {0}) TakesAll what
feeding_line (lines.Feed sock end zero) e = absurd cc
feeding_line (lines.Feed sock end (suc count)) e = takes_some count
feeding_line what e = tt

feeding_lines : (journal : List Line) → AllLines feeds_some journal → AllAllowed (Unit {0}) TakesAll journal
feeding_lines [] all = tt
feeding_lines (line ∷ rest) all = (feeding_line line.what all.0, feeding_lines rest all.1)

pub fed_end : (journal lines : List Line) (log : List Entry) (world : World) → AllLines feeds_some lines → log_from (world_new journal) lines ≡ Ok (log, world) → AllPlaced journal world → list_any is_refusal log ≡ false → each_after (feeds_the_end journal) [] log ≡ true
fed_end journal lines log world some is placed none = (holds_after (Tested journal (Sure journal) (feeds_the_end journal))
    (keeps_tested journal (Sure journal) (feeds_the_end journal) (Unit {0}) TakesAll takes_whole (sure_before journal) (end_plain journal) (end_fed journal) (λ r l s. refl))
    journal lines (feeding_lines lines some) (record { good = fresh journal; well = λ p. refl }) log world is).well (placed, none)

-- ---- no refusal, where no line refuses

abbrev Always : List Entry → World → Type 0
Always log world = Unit {0}

refuses_not : List Entry → Entry → Bool
refuses_not log x = not (is_refusal x)

none_plain : PassesPlain refuses_not
unfolding refuses_not
none_plain log (entries.Refused sock) e = absurd cc
none_plain log x e = refl

none_fed : (journal : List Line) → PassesFed journal Always refuses_not AnyCount
unfolding refuses_not
none_fed journal log world socket which count g is input w p = refl

refusing_line : (what : What) → is_without_refusal what ≡ true → Allowed ⊥ AnyCount what
refusing_line (lines.Refuse sock) e = absurd cc
refusing_line lines.Settle e = absurd cc
refusing_line (lines.Feed sock end count) e = λ left. tt
refusing_line what e = tt

refusing_lines : (journal : List Line) → AllLines is_without_refusal journal → AllAllowed ⊥ AnyCount journal
refusing_lines [] all = tt
refusing_lines (line ∷ rest) all = (refusing_line line.what all.0, refusing_lines rest all.1)

none_in : (log before : List Entry) → each_after refuses_not before log ≡ true → list_any is_refusal log ≡ false
unfolding refuses_not
none_in [] before e = refl
none_in (x ∷ log) before e = let parts = and_parts (not (is_refusal x)) (each_after refuses_not (before ++ x ∷ []) log) e in
    ap (λ b. b || list_any is_refusal log) (turned_off (is_refusal x) parts.0) ∙ none_in log (before ++ x ∷ []) parts.1 where
      turned_off : (b : Bool) → not b ≡ true → b ≡ false
      turned_off false e = refl
      turned_off true e = absurd cc

pub none_refused : (journal lines : List Line) (log : List Entry) (world : World) → AllLines is_without_refusal lines → log_from (world_new journal) lines ≡ Ok (log, world) → list_any is_refusal log ≡ false
none_refused journal lines log world of is = none_in log [] ((holds_after (Tested journal Always refuses_not)
    (keeps_tested journal Always refuses_not ⊥ AnyCount (λ left. tt) (λ l t w a b p. tt) none_plain (none_fed journal) (λ r. absurd r))
    journal lines (refusing_lines lines of) (record { good = fresh journal; well = λ p. refl }) log world is).well tt)
