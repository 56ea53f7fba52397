-- Each call keeps that one socket of a pair is live, that nodes come up and dial where they are down, and that none is accepted
-- over a link that is up.
use Rattle.std.proofs.Common.{◌≡◌, ◌⊎◌, inl, inr, ℕ, Bool, true, false, not, ◌&&◌, ◌||◌, List, [], ◌∷◌, ◌++◌, refl, sym, ap, ◌∙◌, subst}
use Rattle.std.proofs.lemmas.Bool.{and_parts}
use Rattle.std.proofs.lemmas.List.{append-nil}
use Rattle.std.proofs.lemmas.List.Folds.{list_any-append, list_all-append}
use Rattle.std.proofs.lemmas.Slice.Eq.{bytes_eq-Decides}
use Rattle.std.specs.List.{list_any, list_all}
use Rattle.std.specs.Str.{bytes_eq}
use Rattle.ch_model.specs.declared.entry.Entry.{Entry}
use Rattle.ch_model.specs.declared.entry.Entry.TheVariants as entries
use Rattle.ch_model.specs.declared.name.End.{End}
use Rattle.ch_model.specs.declared.name.End.TheVariants.{O, T}
use Rattle.ch_model.specs.declared.name.SockName.{SockName}
use Rattle.ch_model.specs.Links.{rises, goes_down, leaves, has_risen, is_closed, is_still_up, up_sockets, rises_alone, dials_while_down}
use Rattle.ch_model.specs.LiveSockets.{has_one_live, are_down, accepts_while_down}
use Rattle.ch_model.specs.AccountsBytes.{accepts_next}
use Rattle.ch_model.specs.Logs.{each_after, each_between_after}
use Rattle.ch_model.specs.Same.{same_socket, owner, across, is_end_of, end_of}
use Rattle.ch_model.specs.Sockets.{is_opening, closes}
use Rattle.ch_laws_log.proofs.Blocks.{each_append}
use Rattle.ch_laws_log.proofs.Stored.{self_same}
use Rattle.ch_laws_links.proofs.Found.{one_is, one_self}
use Rattle.ch_laws_links.proofs.Risen.{may_tell}
use Rattle.ch_laws_calls.proofs.ScenesPlaces.{first_or, second_or}
use Rattle.ch_laws_live.specs.Lives.{is_unended, dials_new, IsLively}
use Rattle.ch_laws_live.specs.Turns.{is_start, is_turn, start_last}
use Rattle.ch_laws_live.proofs.Entries.{both}
use Rattle.ch_laws_live.proofs.Logs.{IsMay, not_true, clash, or_either, any_split, any_more, none_among, each_front, each_at, always_append, rises_start, down_turn, closes_turn, down_no_start, closes_no_start, closed_how, unclosed_stays, rises_new, down_rose, end_is, one_end}
use Rattle.ch_laws_live.proofs.Nexts.{between_append}
use Rattle.ch_laws_live.proofs.Tests.{IsUp, IsLiveIn, IsOfBoth, Facts, all_in, none_up, always_one, IsLast, each_started}

or_false : (b : Bool) → (b || false) ≡ b
or_false true = refl
or_false false = refl

-- what neither the last that starts nor what follows says
same_any : (p : Entry → Bool) (front : List Entry) (x : Entry) (back : List Entry) → p x ≡ false → list_any p back ≡ false → list_any p (front ++ x ∷ back) ≡ list_any p front
same_any p front x back h b = any_split p front x back ∙ ap (λ c. list_any p front || (c || list_any p back)) h ∙ ap (λ c. list_any p front || c) b ∙ or_false (list_any p front)

module _ (all log mid : List Entry) (x : Entry) (back : List Entry) (l : IsLast all log mid x back) (facts : Facts all) where
  abbrev Front : List Entry
  Front = log ++ mid

  risen_on : (t : SockName) (f : End) → has_risen Front t f ≡ true → has_risen all t f ≡ true
  risen_on t f r = ap (λ (a : List Entry). has_risen a t f) l.is ∙ any_more (rises t f) Front (x ∷ back) r

  closed_on : (t : SockName) (f : End) → is_closed all t f ≡ is_closed Front t f
  closed_on t f = ap (λ (a : List Entry). is_closed a t f) l.is ∙ same_any (closes t f) Front x back (closes_no_start t f x l.start) (none_among (closes t f) is_turn (closes_turn t f) back l.last)

  down_on : (t : SockName) (f : End) → list_any (goes_down t f) all ≡ list_any (goes_down t f) Front
  down_on t f = ap (list_any (goes_down t f)) l.is ∙ same_any (goes_down t f) Front x back (down_no_start t f x l.start) (none_among (goes_down t f) is_turn (down_turn t f) back l.last)

  up_of : (t : SockName) (f : End) (y : List ℕ) → owner t f ≡ y → has_risen Front t f ≡ true → is_still_up Front y t ≡ true → IsUp all t f
  up_of t f y own r still = record {
    risen = risen_on t f r;
    still = down_on t f ∙ subst (λ (e : End). list_any (goes_down t e) Front ≡ false) (end_is t f y own (facts.apart t f (risen_on t f r))) (not_true (list_any (goes_down t (end_of y t)) Front) still);
  }

  may_here : may_tell Front x ≡ true
  may_here = each_at may_tell [] Front x back (subst IsMay l.is facts.may)

  owners : (t : SockName) (f : End) (y z : List ℕ) → is_end_of y z t f ≡ true → (owner t f ≡ y) × (owner t (across f) ≡ z)
  owners t f y z of = let parts = and_parts (bytes_eq (owner t f) y) (bytes_eq (owner t (across f)) z) of in ((bytes_eq-Decides (owner t f) y).0 parts.0, (bytes_eq-Decides (owner t (across f)) z).0 parts.1)

  -- where the last that starts is that an end comes up
  module _ (s : SockName) (e : End) (is : x ≡ entries.Up s e) where
    rises_here : rises s e x ≡ true
    rises_here = ap (rises s e) is ∙ one_self (s, e)

    new_here : (has_risen Front s e ≡ false) × (is_closed Front s e ≡ false)
    new_here = rises_new Front x s e may_here rises_here

    risen_here : has_risen all s e ≡ true
    risen_here = ap (λ (a : List Entry). has_risen a s e) l.is ∙ any_split (rises s e) Front x back ∙ second_or (has_risen Front s e) (rises s e x || has_risen back s e) (first_or (rises s e x) (has_risen back s e) rises_here)

    up_here : IsUp all s e
    up_here = record { risen = risen_here; still = down_on s e ∙ unclosed_stays s e Front new_here.1 }

    none_here : (t : SockName) (f : End) → has_risen Front t f ≡ true → is_end_of (owner s e) (owner s (across e)) t f ≡ true → is_still_up Front (owner s e) t ≡ true → false ≡ true
    none_here t f r of still =
        let own = owners t f (owner s e) (owner s (across e)) of in
        let same : s ≡ t = facts.alone s t e f (sym own.0) (sym own.1) up_here (up_of t f (owner s e) own.0 r still) in
        let which : e ≡ f = one_end s e f (sym own.0 ∙ ap (λ (n : SockName). owner n f) (sym same)) (facts.apart s e risen_here) in
        absurd (clash (has_risen Front s e) (subst (λ (g : End). has_risen Front s g ≡ true) (sym which) (subst (λ (n : SockName). has_risen Front n f ≡ true) (sym same) r)) new_here.0)

    alone_here : rises_alone Front (entries.Up s e) ≡ true
    alone_here = ap not (none_up (up_sockets Front (owner s e) (owner s (across e))) (all_in (owner s e) (owner s (across e)) (is_still_up Front (owner s e)) (λ t. false) Front none_here))

  -- where it is that an opener's end comes up
  behind_here : (s : SockName) → x ≡ entries.Up s O → (has_risen all s T || is_closed all s T) ≡ true
  behind_here s is = by_either (facts.behind s (up_here s O is)) where
    by_either : (has_risen all s T ≡ true) ⊎ (is_closed all s T ≡ true) → (has_risen all s T || is_closed all s T) ≡ true
    by_either (inl r) = first_or (has_risen all s T) (is_closed all s T) r
    by_either (inr c) = second_or (has_risen all s T) (is_closed all s T) c

  -- where it is that a target's end comes up
  bundle_here : (s : SockName) → x ≡ entries.Up s T → has_risen Front s O ≡ false → accepts_while_down Front (entries.Up s T) ≡ true
  bundle_here s is unrisen = by_closed (is_closed all s O) refl where
    are_same : IsLiveIn all s → (y z : List ℕ) → ((t : SockName) (f : End) → (owner t f ≡ y) × (owner t (across f) ≡ z) → IsOfBoth s t f) → list_all (same_socket s) (up_sockets Front y z) ≡ true
    are_same live y z both_of = all_in y z (is_still_up Front y) (same_socket s) Front (λ t f r of still. let own = owners t f y z of in
        subst (λ (n : SockName). same_socket s n ≡ true) (facts.beside s t f live (up_of t f y own.0 r still) (both_of t f own)) (self_same s))

    by_how : (list_any (goes_down s O) Front ≡ true) ⊎ (list_any (leaves s O) Front ≡ true) → (list_any (leaves s O) Front || are_down Front s) ≡ true
    by_how (inl d) = absurd (clash (has_risen Front s O) (down_rose Front (each_front may_tell [] Front (x ∷ back) (subst IsMay l.is facts.may)) s O d) unrisen)
    by_how (inr left) = first_or (list_any (leaves s O) Front) (are_down Front s) left

    by_closed : (b : Bool) → is_closed all s O ≡ b → (list_any (leaves s O) Front || are_down Front s) ≡ true
    by_closed true c = by_how (closed_how s O Front (sym (closed_on s O) ∙ c))
    by_closed false c =
        let live : IsLiveIn all s = record { risen = risen_here s T is; opener = c; target = closed_on s T ∙ (new_here s T is).1 } in
        second_or (list_any (leaves s O) Front) (are_down Front s) (both (list_all (same_socket s) (up_sockets Front s.from s.to)) (list_all (same_socket s) (up_sockets Front s.to s.from))
        (are_same live s.from s.to (λ t f own. inl own)) (are_same live s.to s.from (λ t f own. inr own)))

  -- where it is a dial
  down_here : (s : SockName) → x ≡ entries.Dial s → dials_new Front x ≡ true → dials_while_down Front (entries.Dial s) ≡ true
  down_here s is new = ap not (none_up (up_sockets Front s.from s.to) (all_in s.from s.to (is_still_up Front s.from) (λ t. false) Front none_so)) where
    parts : (is_closed Front s O ≡ false) × (has_risen Front s O ≡ false) × (has_risen Front s T ≡ false)
    parts = let all_new : (not (is_closed Front s O) && (not (has_risen Front s O) && not (has_risen Front s T))) ≡ true = ap (dials_new Front) (sym is) ∙ new in
        let one = and_parts (not (is_closed Front s O)) (not (has_risen Front s O) && not (has_risen Front s T)) all_new in
        let two = and_parts (not (has_risen Front s O)) (not (has_risen Front s T)) one.1 in
        (not_true (is_closed Front s O) one.0, not_true (has_risen Front s O) two.0, not_true (has_risen Front s T) two.1)

    opened : list_any (is_opening s) all ≡ true
    opened = ap (list_any (is_opening s)) l.is ∙ any_split (is_opening s) Front x back ∙ second_or (list_any (is_opening s) Front) (is_opening s x || list_any (is_opening s) back) (first_or (is_opening s x) (list_any (is_opening s) back) (ap (is_opening s) is ∙ self_same s))

    by_end : (f : End) → has_risen Front s f ≡ true → ⊥
    by_end O r = clash (has_risen Front s O) r parts.1
    by_end T r = clash (has_risen Front s T) r parts.2

    none_so : (t : SockName) (f : End) → has_risen Front t f ≡ true → is_end_of s.from s.to t f ≡ true → is_still_up Front s.from t ≡ true → false ≡ true
    none_so t f r of still =
        let own = owners t f s.from s.to of in
        let same : s ≡ t = facts.dials s t f opened (closed_on s O ∙ parts.0) own.0 own.1 (up_of t f s.from own.0 r still) in
        absurd (by_end f (subst (λ (n : SockName). has_risen Front n f ≡ true) (sym same) r))

-- ---- what is kept of a log

-- an end that came up in a call did so by an entry that passes
found_up : (test : Entry → Bool) (before more : List Entry) → each_after (λ l x. test x) before more ≡ true → (s : SockName) (e : End) → has_risen more s e ≡ true → test (entries.Up s e) ≡ true
found_up test before [] w s e r = absurd cc
found_up test before (x ∷ more) w s e r = let parts = and_parts (test x) (each_after (λ l x. test x) (before ++ x ∷ []) more) w in by_rise (or_either (rises s e x) (has_risen more s e) r) parts.0 (found_up test (before ++ x ∷ []) more parts.1 s e) where
  by_entry : (x : Entry) → rises s e x ≡ true → test x ≡ true → test (entries.Up s e) ≡ true
  by_entry (entries.Up sock end) r t = subst (λ (at : SockName × End). test (entries.Up at.0 at.1) ≡ true) (one_is (sock, end) (s, e) r) t
  by_entry x r t = absurd cc

  by_rise : (rises s e x ≡ true) ⊎ (has_risen more s e ≡ true) → test x ≡ true → (has_risen more s e ≡ true → test (entries.Up s e) ≡ true) → test (entries.Up s e) ≡ true
  by_rise (inl r) t more = by_entry x r t
  by_rise (inr r) t more = more r

module _ (log more : List Entry) (last : start_last more ≡ true) (before : Facts log) (after : Facts (log ++ more)) (lively : IsLively log) (news : each_after dials_new log more ≡ true) (nexts : each_between_after accepts_next log more ≡ true) where
  abbrev All : List Entry
  All = log ++ more

  -- a test that is passed by the last that starts is passed by each
  each_call : (test : List Entry → Entry → Bool) → ((l : List Entry) (x : Entry) → is_start x ≡ false → test l x ≡ true) → ((mid : List Entry) (x : Entry) (back : List Entry) → IsLast All log mid x back → test (log ++ mid) x ≡ true) → each_after test log more ≡ true
  each_call test others at = subst (λ (l : List Entry). each_after test l more ≡ true) (append-nil log) (each_started test others All log [] more (ap (λ (l : List Entry). l ++ more) (sym (append-nil log))) refl last at)

  all_new : each_after dials_new [] All ≡ true
  all_new = each_append dials_new [] log more lively.new news

  alone_call : each_after rises_alone log more ≡ true
  alone_call = each_call rises_alone others at where
    others : (l : List Entry) (x : Entry) → is_start x ≡ false → rises_alone l x ≡ true
    others l (entries.Up sock end) n = absurd cc
    others l x n = refl

    by_entry : (mid : List Entry) (x y : Entry) (back : List Entry) → IsLast All log mid x back → x ≡ y → rises_alone (log ++ mid) y ≡ true
    by_entry mid x (entries.Up sock end) back l is = alone_here All log mid x back l after sock end is
    by_entry mid x y back l is = refl

    at : (mid : List Entry) (x : Entry) (back : List Entry) → IsLast All log mid x back → rises_alone (log ++ mid) x ≡ true
    at mid x back l = by_entry mid x x back l refl

  down_call : each_after dials_while_down log more ≡ true
  down_call = each_call dials_while_down others at where
    others : (l : List Entry) (x : Entry) → is_start x ≡ false → dials_while_down l x ≡ true
    others l (entries.Dial sock) n = absurd cc
    others l x n = refl

    by_entry : (mid : List Entry) (x y : Entry) (back : List Entry) → IsLast All log mid x back → x ≡ y → dials_while_down (log ++ mid) y ≡ true
    by_entry mid x (entries.Dial sock) back l is = down_here All log mid x back l after sock is (each_at dials_new [] (log ++ mid) x back (subst (λ (a : List Entry). each_after dials_new [] a ≡ true) l.is all_new))
    by_entry mid x y back l is = refl

    at : (mid : List Entry) (x : Entry) (back : List Entry) → IsLast All log mid x back → dials_while_down (log ++ mid) x ≡ true
    at mid x back l = by_entry mid x x back l refl

  -- before the last that starts no opener came up in the call
  unrisen_before : (mid : List Entry) (x : Entry) (back : List Entry) (s : SockName) → IsLast All log mid x back → x ≡ entries.Up s T → has_risen (log ++ mid) s O ≡ false
  unrisen_before mid x back s l is = by_test (has_risen log s O) refl where
    mid_none : has_risen mid s O ≡ false
    mid_none = none_among (rises s O) is_start (rises_start s O) mid l.first

    new : (has_risen (log ++ mid) s T ≡ false) × (is_closed (log ++ mid) s T ≡ false)
    new = new_here All log mid x back l after s T is

    neither : (has_risen log s T || is_closed log s T) ≡ true → ⊥
    neither h = by_either (or_either (has_risen log s T) (is_closed log s T) h) where
      by_either : (has_risen log s T ≡ true) ⊎ (is_closed log s T ≡ true) → ⊥
      by_either (inl r) = clash (has_risen (log ++ mid) s T) (any_more (rises s T) log mid r) new.0
      by_either (inr c) = clash (is_closed (log ++ mid) s T) (any_more (closes s T) log mid c) new.1

    by_test : (b : Bool) → has_risen log s O ≡ b → has_risen (log ++ mid) s O ≡ false
    by_test true r = absurd (neither (lively.follows s r))
    by_test false r = list_any-append (rises s O) log mid ∙ ap (λ b. b || has_risen mid s O) r ∙ mid_none

  bundle_call : each_after accepts_while_down log more ≡ true
  bundle_call = each_call accepts_while_down others at where
    others : (l : List Entry) (x : Entry) → is_start x ≡ false → accepts_while_down l x ≡ true
    others l (entries.Up sock end) n = absurd cc
    others l x n = refl

    by_entry : (mid : List Entry) (x y : Entry) (back : List Entry) → IsLast All log mid x back → x ≡ y → accepts_while_down (log ++ mid) y ≡ true
    by_entry mid x (entries.Up sock T) back l is = bundle_here All log mid x back l after sock is (unrisen_before mid x back sock l is)
    by_entry mid x y back l is = refl

    at : (mid : List Entry) (x : Entry) (back : List Entry) → IsLast All log mid x back → accepts_while_down (log ++ mid) x ≡ true
    at mid x back l = by_entry mid x x back l refl

  abbrev follows_in : Entry → Bool
  follows_in (entries.Up sock O) = has_risen All sock T || is_closed All sock T
  follows_in entry = true

  follows_call : each_after (λ l x. follows_in x) log more ≡ true
  follows_call = each_call (λ l x. follows_in x) (λ l x n. others x n) at where
    others : (x : Entry) → is_start x ≡ false → follows_in x ≡ true
    others (entries.Up sock end) n = absurd cc
    others x n = refl

    by_entry : (mid : List Entry) (x y : Entry) (back : List Entry) → IsLast All log mid x back → x ≡ y → follows_in y ≡ true
    by_entry mid x (entries.Up sock O) back l is = behind_here All log mid x back l after sock is
    by_entry mid x y back l is = refl

    at : (mid : List Entry) (x : Entry) (back : List Entry) → IsLast All log mid x back → follows_in x ≡ true
    at mid x back l = by_entry mid x x back l refl

  follows_still : (s : SockName) → has_risen All s O ≡ true → (has_risen All s T || is_closed All s T) ≡ true
  follows_still s r = by_rise (or_either (has_risen log s O) (has_risen more s O) (sym (list_any-append (rises s O) log more) ∙ r)) where
    by_old : (has_risen log s T ≡ true) ⊎ (is_closed log s T ≡ true) → (has_risen All s T || is_closed All s T) ≡ true
    by_old (inl r) = first_or (has_risen All s T) (is_closed All s T) (any_more (rises s T) log more r)
    by_old (inr c) = second_or (has_risen All s T) (is_closed All s T) (any_more (closes s T) log more c)

    by_rise : (has_risen log s O ≡ true) ⊎ (has_risen more s O ≡ true) → (has_risen All s T || is_closed All s T) ≡ true
    by_rise (inl r) = by_old (or_either (has_risen log s T) (is_closed log s T) (lively.follows s r))
    by_rise (inr r) = found_up follows_in log more follows_call s O r

  pub lively_more : list_all is_unended more ≡ true → IsLively (log ++ more)
  lively_more unended = record {
    unended = list_all-append is_unended log more ∙ both (list_all is_unended log) (list_all is_unended more) lively.unended unended;
    new = all_new;
    follows = follows_still;
    accepts = between_append [] log more lively.accepts nexts;
    has = record {
      one = always_append has_one_live [] log more lively.has.one (always_one log more last before.one after.one after.may);
      bundle = each_append accepts_while_down [] log more lively.has.bundle bundle_call;
      alone = each_append rises_alone [] log more lively.has.alone alone_call;
      down = each_append dials_while_down [] log more lively.has.down down_call;
    };
  }
