-- The canonical text of any line that was accepted is read as that line again, where every line is read.
use Rattle.std.proofs.Common.{◌≡◌, ℕ, Bool, true, false, cond, List, [], ◌∷◌, ◌++◌, Option, Some, None, Result, Ok, Err, if◌then◌else◌, refl, sym, ap, subst, ◌∙◌}
use Rattle.std.specs.Str.{bytes_eq}
use Rattle.std.specs.List.{flat_map}
use Rattle.std.proofs.lemmas.Slice.Eq.{bytes_eq-Decides}
use Rattle.ch_model.specs.declared.refusal.BadKind.{BadKind}
use Rattle.ch_model.specs.declared.refusal.BadKind.TheVariants.{Form}
use Rattle.ch_model.specs.declared.line.What.{What}
use Rattle.ch_model.specs.Fields.{field_of}
use Rattle.ch_model.specs.LinesTold.{Told, told_after}
use Rattle.ch_model.specs.Lines.{LineWord, line_of_word, line_said, says_nothing, header, said_and_told, read_line, whole}
use Rattle.ch_model.specs.SpellingFields.{field, line_text_of}
use Rattle.ch_model.specs.Spelling.{what_text}
use Rattle.ch_journal.proofs.Parts.{bind_ok, accepts}
use Rattle.ch_journal.proofs.Spelled.{tail, field_found, field_before}
use Rattle.ch_journal.proofs.Respelled.{AllRespell, node_respells, away_respells, label_respells, stranger_respells, proc_respells, send_respells, nsend_respells, again_respells, recv_respells, port_respells, take_respells, end_respells, fail_respells, fall_respells, register_respells, unregister_respells, monitor_respells, link_respells, unwatch_respells, exit_respells, kill_respells, spawn_respells, whereis_respells, shut_respells, join_respells, come_respells, refuse_respells, feed_respells, cut_respells, lose_respells, late_respells, knock_respells, poke_respells, quit_respells, settle_respells}

-- ---- any word of a list

abbrev refuse : Result What BadKind
refuse = Err Form

-- the lines of each word are respelled
abbrev AllWords : Told → List LineWord → Type 0
AllWords told [] = Unit {0}
AllWords told (own ∷ others) = AllRespell own.word (own.read told) × AllWords told others

-- what follows a word, read by it as this line, and the line's text
record Found (told : Told) (words : List LineWord) (word : List ℕ) (what : What) : Type 0 where
  rest : Option (List ℕ)
  fields : List (List ℕ)
  again : line_of_word words told word rest ≡ Ok what
  is : what_text what ≡ line_text_of word fields
  spelled : tail rest ≡ flat_map field fields

word_found : (told : Told) (words : List LineWord) → AllWords told words → (word : List ℕ) (rest : Option (List ℕ)) (what : What) → line_of_word words told word rest ≡ Ok what → Found told words word what
unfolding line_of_word
word_found told [] all word rest what e = let f : refuse ≡ Ok what = e in absurd cc
word_found told (own ∷ others) all word rest what e = by (bytes_eq word own.word) refl e (word_found told others all.1 word rest what)
  where
    by : (t : Bool) → bytes_eq word own.word ≡ t → (if t then own.read told rest else line_of_word others told word rest) ≡ Ok what → (line_of_word others told word rest ≡ Ok what → Found told others word what) → Found told (own ∷ others) word what
    by true h f later =
        let r = all.0 rest what f in
        let same : word ≡ own.word = (bytes_eq-Decides word own.word).0 h in
        record { rest = r.rest; fields = r.fields; again = rw h r.again; is = r.is ∙ ap (λ w. line_text_of w r.fields) (sym same); spelled = r.spelled }
    by false h f later =
        let r = later f in
        record { rest = r.rest; fields = r.fields; again = rw h r.again; is = r.is; spelled = r.spelled }

every_word : (told : Told) → AllWords told whole.words
every_word told = (node_respells told, (away_respells told, (label_respells told, (stranger_respells told, (proc_respells told, (send_respells told, (nsend_respells told, (again_respells told, (recv_respells told, (port_respells told, (take_respells told, (end_respells told, (fail_respells told, (fall_respells told, (register_respells told, (unregister_respells told, (monitor_respells told, (link_respells told, (unwatch_respells told, (exit_respells told, (kill_respells told, (spawn_respells told, (whereis_respells told, (shut_respells told, (join_respells told, (come_respells told, (refuse_respells told, (feed_respells told, (cut_respells told, (lose_respells told, (late_respells told, (knock_respells told, (poke_respells told, (quit_respells told, (settle_respells told, tt)))))))))))))))))))))))))))))))))))

-- ---- a line after the header

-- a text that is read as the line, and is passed over only where that was
record Reads (told : Told) (text : List ℕ) (what : What) : Type 0 where
  canonical : List ℕ
  is : what_text what ≡ canonical ++ 10 ∷ []
  again : line_said whole told canonical ≡ Ok what
  says : says_nothing text ≡ false → says_nothing canonical ≡ false

same_start : (told : Told) (word : List ℕ) (rest : Option (List ℕ)) (what : What) (a b : List ℕ) → line_of_word whole.words told word rest ≡ Ok what → says_nothing (word ++ a) ≡ false → says_nothing (word ++ b) ≡ false
unfolding line_of_word
same_start told [] rest what a b e h = let f : refuse ≡ Ok what = e in absurd cc
same_start told (c ∷ cs) rest what a b e h = h

some_is : (x y : List ℕ) → Some x ≡ Some y → x ≡ y
some_is x y e = cc

said_found : (told : Told) (text : List ℕ) (what : What) → line_said whole told text ≡ Ok what → Reads told text what
unfolding line_said
said_found told text what e =
    let word = bind_ok (field_of (Some text)) _ what e in
    let cut = field_found (Some text) word.0 word.1 in
    let r = word_found told whole.words (every_word told) word.0.0 word.0.1 what word.2 in
    let text_is = some_is text (word.0.0 ++ tail word.0.1) cut.is in
    record {
      canonical = word.0.0 ++ tail r.rest;
      is = r.is ∙ ap (λ l. (word.0.0 ++ l) ++ 10 ∷ []) (sym r.spelled);
      again = rw (field_before word.0.0 r.rest cut.free) r.again;
      says = λ h. same_start told word.0.0 word.0.1 what (tail word.0.1) (tail r.rest) word.2 (ap says_nothing (sym text_is) ∙ h);
    }

-- ---- the law

abbrev nowhat : Option What
nowhat = None

abbrev pair : Option What → Told → Option What × Told
pair what told = (what, told)

abbrev read_as_line : Option What → Told → Result (Option What × Told) BadKind
read_as_line what told = Ok (what, told)

abbrev refuse_line : Result (Option What × Told) BadKind
refuse_line = Err Form

abbrev saying : Told → List ℕ → Result (Option What × Told) BadKind
saying told text = said_and_told told (line_said whole told text)

abbrev after_header : Told → List ℕ → Result (Option What × Told) BadKind
after_header told text = cond (says_nothing text) (read_as_line None told) (saying told text)

abbrev before_header : Told → List ℕ → Result (Option What × Told) BadKind
before_header told text = cond (bytes_eq text header) (read_as_line None (record told { header = true })) refuse_line

nothing : (t : Told) (what : What) (after : Told) → read_as_line None t ≡ read_as_line (Some what) after → ⊥
nothing t what after g =
    let both : pair None t ≡ pair (Some what) after = cc in
    let none : nowhat ≡ Some what = ap (λ (p : Option What × Told). p.0) both in
    cc

-- the canonical text of a line that was accepted is read as that line
pub whole_read_back : (told : Told) (text : List ℕ) (what : What) (after : Told) → read_line whole told text ≡ Ok (Some what, after) → (canonical : List ℕ) × (what_text what ≡ canonical ++ 10 ∷ []) × (read_line whole told canonical ≡ Ok (Some what, after))
whole_read_back told text what after e = by_header told.header e
  where
    kept : (w : What) → line_said whole told text ≡ Ok w → told_after told w ≡ after → w ≡ what → (r : Reads told text what) × (told_after told what ≡ after)
    kept w h g is = (said_found told text what (h ∙ ap accepts is), subst (λ (x : What). told_after told x ≡ after) is g)

    by_said : (r : Result What BadKind) → line_said whole told text ≡ r → said_and_told told r ≡ Ok (Some what, after) → (r : Reads told text what) × (told_after told what ≡ after)
    by_said (Err k) h g = absurd cc
    by_said (Ok w) h g =
        let both : pair (Some w) (told_after told w) ≡ pair (Some what) after = cc in
        let some : Some w ≡ Some what = ap (λ (p : Option What × Told). p.0) both in
        let is : w ≡ what = cc in
        let left : told_after told w ≡ after = ap (λ (p : Option What × Told). p.1) both in
        kept w h left is

    by_first : (t : Bool) → cond t (read_as_line None (record told { header = true })) refuse_line ≡ read_as_line (Some what) after → ⊥
    by_first true g = nothing (record told { header = true }) what after g
    by_first false g = cc

    after_it : (r : Reads told text what) → told_after told what ≡ after → says_nothing text ≡ false → after_header told r.canonical ≡ Ok (Some what, after)
    after_it r g h = rw (r.says h, r.again, g) refl

    by_nothing : (t : Bool) → says_nothing text ≡ t → cond t (read_as_line None told) (saying told text) ≡ read_as_line (Some what) after → (canonical : List ℕ) × (what_text what ≡ canonical ++ 10 ∷ []) × (after_header told canonical ≡ read_as_line (Some what) after)
    by_nothing true h g = absurd (nothing told what after g)
    by_nothing false h g = let k = by_said (line_said whole told text) refl g in (k.0.canonical, k.0.is, after_it k.0 k.1 h)

    by_header : (t : Bool) → cond t (after_header told text) (before_header told text) ≡ read_as_line (Some what) after → (canonical : List ℕ) × (what_text what ≡ canonical ++ 10 ∷ []) × (cond t (after_header told canonical) (before_header told canonical) ≡ read_as_line (Some what) after)
    by_header true g = by_nothing (says_nothing text) refl g
    by_header false g = absurd (by_first (bytes_eq text header) g)
