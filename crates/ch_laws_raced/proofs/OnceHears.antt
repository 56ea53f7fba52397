-- What a log says of a node that is up on a socket with another, of two ends that came up.
use Rattle.std.proofs.Common.{◌≡◌, ◌⊎◌, inl, inr, ℕ, Bool, true, false, cond, not, ◌&&◌, ◌||◌, List, [], ◌∷◌, ◌++◌, refl, sym, ap, ◌∙◌, subst}
use Rattle.std.proofs.lemmas.Bool.{and_parts}
use Rattle.std.proofs.lemmas.List.Folds.{list_any-append}
use Rattle.std.proofs.lemmas.Slice.Eq.{bytes_eq-Decides}
use Rattle.std.specs.List.{list_any, list_all, cons_option}
use Rattle.std.specs.Prelude.{filter, filter_map, Option, Some, None}
use Rattle.std.specs.Str.{bytes_eq}
use Rattle.ch_model.specs.declared.entry.Entry.{Entry}
use Rattle.ch_model.specs.declared.entry.Entry.TheVariants as entries
use Rattle.ch_model.specs.declared.name.End.{End}
use Rattle.ch_model.specs.declared.name.SockName.{SockName}
use Rattle.ch_model.specs.Delivery.{hears_from}
use Rattle.ch_model.specs.Links.{rises, goes_down, has_risen, is_closed, risen_with, is_still_up}
use Rattle.ch_model.specs.Same.{owner, across, is_end_of, end_of}
use Rattle.ch_laws_links.proofs.Found.{one_is}
use Rattle.ch_laws_calls.proofs.ScenesPlaces.{first_or, second_or}
use Rattle.ch_laws_live.proofs.Logs.{or_either, any_more, unclosed_stays, end_is}
use Rattle.ch_laws_raced.specs.UnbrokenBreaks.{is_no_break, NoBreaks}

-- ---- a socket that is found

-- a socket on which x came up with y is one of those that are found, where it passes
any_in : (x y : List ℕ) (p q : SockName → Bool) (part : List Entry) (s : SockName) (e : End) → has_risen part s e ≡ true → is_end_of x y s e ≡ true → p s ≡ true → q s ≡ true → list_any q (filter p (filter_map (risen_with x y) part)) ≡ true
any_in x y p q [] s e r of g h = absurd cc
any_in x y p q (z ∷ rest) s e r of g h = by_either (any_in x y p q rest s e) (or_either (rises s e z) (has_risen rest s e) r) where
  Rest : List SockName
  Rest = filter_map (risen_with x y) rest

  -- the others are found as before
  later : (o : Option SockName) → list_any q (filter p Rest) ≡ true → list_any q (filter p (cons_option o Rest)) ≡ true
  later None more = more
  later (Some t) more = by_test (p t) where
    by_test : (b : Bool) → list_any q (cond b (t ∷ filter p Rest) (filter p Rest)) ≡ true
    by_test true = second_or (q t) (list_any q (filter p Rest)) more
    by_test false = more

  here : list_any q (filter p (cons_option (cond (is_end_of x y s e) (Some s) None) Rest)) ≡ true
  here = ap (λ b. list_any q (filter p (cons_option (cond b (Some s) None) Rest))) of ∙ ap (λ b. list_any q (cond b (s ∷ filter p Rest) (filter p Rest))) g ∙ first_or (q s) (list_any q (filter p Rest)) h

  by_entry : (z : Entry) → rises s e z ≡ true → list_any q (filter p (cons_option (risen_with x y z) Rest)) ≡ true
  by_entry (entries.Up sock end) r = subst (λ (at : SockName × End). list_any q (filter p (cons_option (cond (is_end_of x y at.0 at.1) (Some at.0) None) Rest)) ≡ true) (sym (one_is (sock, end) (s, e) r)) here
  by_entry z r = absurd cc

  by_either : (has_risen rest s e ≡ true → is_end_of x y s e ≡ true → p s ≡ true → q s ≡ true → list_any q (filter p Rest) ≡ true) → (rises s e z ≡ true) ⊎ (has_risen rest s e ≡ true) → list_any q (filter p (cons_option (risen_with x y z) Rest)) ≡ true
  by_either more (inl one) = by_entry z one
  by_either more (inr one) = later (risen_with x y z) (more one of g h)

both : (a b : Bool) → a ≡ true → b ≡ true → (a && b) ≡ true
both true b g h = h
both false b g h = absurd cc

across_is : (s : SockName) (e : End) (x : List ℕ) → owner s (across e) ≡ x → bytes_eq s.from s.to ≡ false → end_of x s ≡ across e
across_is s e x own apart = end_is s (across e) x own apart

-- A node whose end came up, and isn't closed, hears from the node of the end across, where that came up.
pub hears_on_socket : (log : List Entry) (s : SockName) (e : End) (y x : List ℕ) → owner s e ≡ y → owner s (across e) ≡ x → bytes_eq s.from s.to ≡ false → has_risen log s e ≡ true → is_closed log s e ≡ false → has_risen log s (across e) ≡ true → hears_from log y x ≡ true
hears_on_socket log s e y x own its apart risen unclosed across_risen = any_in y x (is_still_up log y) (λ sock. has_risen log sock (end_of x sock)) log s e risen of still up where
  of : is_end_of y x s e ≡ true
  of = both (bytes_eq (owner s e) y) (bytes_eq (owner s (across e)) x) ((bytes_eq-Decides (owner s e) y).1 own) ((bytes_eq-Decides (owner s (across e)) x).1 its)

  still : is_still_up log y s ≡ true
  still = ap (λ (f : End). not (list_any (goes_down s f) log)) (end_is s e y own apart) ∙ ap not (unclosed_stays s e log unclosed)

  up : has_risen log s (end_of x s) ≡ true
  up = ap (has_risen log s) (across_is s e x its apart) ∙ across_risen

-- ---- a log that goes on without a break

no_down : (s : SockName) (e : End) (entry : Entry) → is_no_break entry ≡ true → goes_down s e entry ≡ false
no_down s e (entries.Down sock end) n = absurd cc
no_down s e entry n = refl

none_down : (s : SockName) (e : End) (log : List Entry) → NoBreaks log → list_any (goes_down s e) log ≡ false
none_down s e [] n = refl
none_down s e (entry ∷ log) n = let parts = and_parts (is_no_break entry) (list_all is_no_break log) n in ap (λ b. b || list_any (goes_down s e) log) (no_down s e entry parts.0) ∙ none_down s e log parts.1

-- what is found in a front that passes is found in all, where what passes does
more_found : (x y : List ℕ) (p q : SockName → Bool) (r t : SockName → Bool) (front back : List Entry) → ((s : SockName) → p s ≡ true → q s ≡ true) → ((s : SockName) → r s ≡ true → t s ≡ true)
    → list_any r (filter p (filter_map (risen_with x y) front)) ≡ true → list_any t (filter q (filter_map (risen_with x y) (front ++ back))) ≡ true
more_found x y p q r t [] back keeps passes h = absurd cc
more_found x y p q r t (z ∷ front) back keeps passes h = by_entry (risen_with x y z) h (more_found x y p q r t front back keeps passes) where
  Front : List SockName
  Front = filter_map (risen_with x y) front

  All : List SockName
  All = filter_map (risen_with x y) (front ++ back)

  skip : (s : SockName) (b : Bool) → list_any t (filter q All) ≡ true → list_any t (cond b (s ∷ filter q All) (filter q All)) ≡ true
  skip s true more = second_or (t s) (list_any t (filter q All)) more
  skip s false more = more

  taken : (s : SockName) → q s ≡ true → (r s ≡ true) ⊎ (list_any r (filter p Front) ≡ true) → (list_any r (filter p Front) ≡ true → list_any t (filter q All) ≡ true) → list_any t (cond (q s) (s ∷ filter q All) (filter q All)) ≡ true
  taken s k (inl one) more = ap (λ b. list_any t (cond b (s ∷ filter q All) (filter q All))) k ∙ first_or (t s) (list_any t (filter q All)) (passes s one)
  taken s k (inr one) more = skip s (q s) (more one)

  by_test : (s : SockName) (b : Bool) → p s ≡ b → list_any r (cond b (s ∷ filter p Front) (filter p Front)) ≡ true → (list_any r (filter p Front) ≡ true → list_any t (filter q All) ≡ true) → list_any t (filter q (s ∷ All)) ≡ true
  by_test s true k h more = taken s (keeps s k) (or_either (r s) (list_any r (filter p Front)) h) more
  by_test s false k h more = skip s (q s) (more h)

  by_entry : (o : Option SockName) → list_any r (filter p (cons_option o Front)) ≡ true → (list_any r (filter p Front) ≡ true → list_any t (filter q All) ≡ true) → list_any t (filter q (cons_option o All)) ≡ true
  by_entry None h more = more h
  by_entry (Some s) h more = by_test s (p s) refl h more

-- a node hears from another as long as nothing breaks
pub hears_still : (log more : List Entry) (y x : List ℕ) → NoBreaks more → hears_from log y x ≡ true → hears_from (log ++ more) y x ≡ true
hears_still log more y x unbroken h = more_found y x (is_still_up log y) (is_still_up (log ++ more) y) (λ sock. has_risen log sock (end_of x sock)) (λ sock. has_risen (log ++ more) sock (end_of x sock)) log more stays (λ s. any_more (rises s (end_of x s)) log more) h where
  stays : (s : SockName) → is_still_up log y s ≡ true → is_still_up (log ++ more) y s ≡ true
  stays s up = ap not (list_any-append (goes_down s (end_of y s)) log more ∙ ap (λ b. list_any (goes_down s (end_of y s)) log || b) (none_down s (end_of y s) more unbroken)) ∙ by_test (list_any (goes_down s (end_of y s)) log) up where
    by_test : (b : Bool) → not b ≡ true → not (b || false) ≡ true
    by_test false h = refl
    by_test true h = absurd cc
