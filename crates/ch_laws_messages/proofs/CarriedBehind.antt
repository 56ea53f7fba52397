-- Where nothing is said behind what is written, all that is written in the end was said before.
use Rattle.std.proofs.Common.{◌≡◌, ◌⊎◌, inl, inr, ◌≤◌, ℕ, List, [], ◌∷◌, ◌++◌, length, refl, sym, ap, ◌∙◌, subst, append_assoc, arith}
use Rattle.std.proofs.lemmas.List.{append-nil}
use Rattle.std.proofs.lemmas.List.Elements.{filter_map-append}
use Rattle.std.specs.List.{cons_option}
use Rattle.std.specs.Prelude.{filter_map, Option, None}
use Rattle.ch_model.specs.declared.entry.Entry.{Entry}
use Rattle.ch_model.specs.declared.entry.Entry.TheVariants as entries
use Rattle.ch_model.specs.declared.line.Line.{Line}
use Rattle.ch_model.specs.declared.name.End.{End}
use Rattle.ch_model.specs.declared.name.SockName.{SockName}
use Rattle.ch_model.specs.AccountsFrames.{Saying}
use Rattle.ch_model.specs.WorldState.{World}
use Rattle.ch_race.specs.Pair.{Side, other}
use Rattle.ch_laws_calls.specs.Scenes.{scene_of}
use Rattle.ch_laws_plain_logs.specs.Plain.{said_by}
use Rattle.ch_laws_race.specs.Scene.{Party, link_of}
use Rattle.ch_laws_peers.specs.Words.{words_in, datas_in, waiting_as, sayings}
use Rattle.ch_laws_peers.specs.Says.{all_towards, Says, AllSay}
use Rattle.ch_laws_messages.specs.CarriedCounts.{carried_in}
use Rattle.ch_laws_messages.specs.CarriedInTime.{datas_to, IsInTime, AllInTime}
use Rattle.ch_laws_messages.proofs.CarriedLogs.{kept_behind, data_by, datas_more}
use Rattle.ch_laws_messages.proofs.CarriedCounting.{Data, carried_more, true_count}
use Rattle.ch_laws_messages.proofs.CarriedWritten.{datas_before}

-- ---- what is told

-- the entry says nothing
abbrev pub IsUnsaid : Entry → Type 0
IsUnsaid entry = (x y : List ℕ) → said_by x y entry ≡ None

abbrev pub NoneSaid : List Entry → Type 0
NoneSaid [] = Unit {0}
NoneSaid (entry ∷ rest) = IsUnsaid entry × NoneSaid rest

-- nothing is said behind what is written
abbrev pub SaidFirst : List Entry → Type 0
SaidFirst [] = Unit {0}
SaidFirst (entries.Wrote s e bytes ∷ rest) = NoneSaid rest
SaidFirst (entry ∷ rest) = SaidFirst rest

pub none_both : (xs ys : List Entry) → NoneSaid xs → NoneSaid ys → NoneSaid (xs ++ ys)
none_both [] ys a b = b
none_both (entry ∷ xs) ys a b = (a.0, none_both xs ys a.1 b)

none_rest : (xs ys : List Entry) → NoneSaid (xs ++ ys) → NoneSaid ys
none_rest [] ys a = a
none_rest (entry ∷ xs) ys a = none_rest xs ys a.1

pub none_first : (told : List Entry) → NoneSaid told → SaidFirst told
none_first [] a = tt
none_first (entries.Wrote s e bytes ∷ rest) a = a.1
none_first (entry ∷ rest) a = none_first rest a.1

-- of such entries nothing is said behind one that writes
behind : (front rest : List Entry) (s : SockName) (e : End) (bytes : List ℕ) → SaidFirst (front ++ entries.Wrote s e bytes ∷ rest) → NoneSaid rest
behind [] rest s e bytes a = a
behind (entries.Wrote t f more ∷ front) rest s e bytes a = (none_rest front (entries.Wrote s e bytes ∷ rest) a).1
behind (entry ∷ front) rest s e bytes a = behind front rest s e bytes a

none_said : (x y : List ℕ) (told : List Entry) → NoneSaid told → filter_map (said_by x y) told ≡ []
none_said x y [] a = refl
none_said x y (entry ∷ rest) a = ap (λ (o : Option Saying). cons_option o (filter_map (said_by x y) rest)) (a.0 x y) ∙ none_said x y rest a.1

-- ---- a log and what is told behind it

-- an entry of both stands in the first or in the second
record InFirst (xs front : List Entry) (entry : Entry) : Type 0 where
  rest : List Entry
  is : front ++ entry ∷ rest ≡ xs

record InSecond (xs ys front rest : List Entry) (entry : Entry) : Type 0 where
  more : List Entry
  front_is : xs ++ more ≡ front
  is : more ++ entry ∷ rest ≡ ys

heads : {A : Type 0} (x y : A) (xs ys : List A) → x ∷ xs ≡ y ∷ ys → (x ≡ y) × (xs ≡ ys)
heads x y xs ys e = (cc, cc)

stands_in : (xs ys front rest : List Entry) (entry : Entry) → front ++ entry ∷ rest ≡ xs ++ ys → InFirst xs front entry ⊎ InSecond xs ys front rest entry
stands_in [] ys front rest entry e = inr (record { more = front; front_is = refl; is = e })
stands_in (x ∷ xs) ys [] rest entry e = let both = heads entry x rest (xs ++ ys) e in inl (record { rest = xs; is = ap (λ (a : Entry). a ∷ xs) both.0 })
stands_in (x ∷ xs) ys (f ∷ front) rest entry e = let both = heads f x (front ++ entry ∷ rest) (xs ++ ys) e in behind_head both.0 (stands_in xs ys front rest entry both.1) where
  behind_head : f ≡ x → InFirst xs front entry ⊎ InSecond xs ys front rest entry → InFirst (x ∷ xs) (f ∷ front) entry ⊎ InSecond (x ∷ xs) ys (f ∷ front) rest entry
  behind_head same (inl one) = inl (record { rest = one.rest; is = ap (λ (a : Entry). a ∷ (front ++ entry ∷ one.rest)) same ∙ ap (λ (l : List Entry). x ∷ l) one.is })
  behind_head same (inr two) = inr (record { more = two.more; front_is = ap (λ (a : Entry). a ∷ (xs ++ two.more)) (sym same) ∙ ap (λ (l : List Entry). f ∷ l) two.front_is; is = two.is })

-- payloads only come
record Grows (x y : List ℕ) (log rest : List Entry) : Type 0 where
  more : List Data
  is : datas_to x y (log ++ rest) ≡ datas_to x y log ++ more

grows : (x y : List ℕ) (log rest : List Entry) → Grows x y log rest
grows x y log [] = record { more = []; is = ap (datas_to x y) (append-nil log) ∙ sym (append-nil (datas_to x y log)) }
grows x y log (entry ∷ rest) = by_rest (grows x y (log ++ entry ∷ []) rest) where
  by_rest : Grows x y (log ++ entry ∷ []) rest → Grows x y log (entry ∷ rest)
  by_rest g = record {
    more = cons_option (data_by x y log entry) [] ++ g.more;
    is = ap (datas_to x y) (sym (append_assoc log (entry ∷ []) rest)) ∙ g.is ∙ ap (λ (l : List Data). l ++ g.more) (datas_more x y log entry ∙ kept_behind (data_by x y log entry) (datas_to x y log))
        ∙ append_assoc (datas_to x y log) (cons_option (data_by x y log entry) []) g.more;
  }

carried_grows : (x y : List ℕ) (log rest : List Entry) → carried_in [] (datas_to x y log) ≤ carried_in [] (datas_to x y (log ++ rest))
carried_grows x y log rest = let g = grows x y log rest in subst (λ (l : List Data). carried_in [] (datas_to x y log) ≤ carried_in [] l) (sym g.is) (carried_more (datas_to x y log) g.more)

-- what is written is in time still
in_time_on : (x y : List ℕ) (log told : List Entry) → IsInTime x y log → SaidFirst told → carried_in [] (datas_to x y (log ++ told)) ≤ length (sayings x y (log ++ told)) → IsInTime x y (log ++ told)
in_time_on x y log told before first bound front rest s e bytes is of = by_place (stands_in log told front rest wrote is) where
  wrote : Entry
  wrote = entries.Wrote s e bytes

  late : NoneSaid rest → carried_in [] (datas_to x y (front ++ wrote ∷ [])) ≤ length (sayings x y front)
  late none =
      let grown = carried_grows x y (front ++ wrote ∷ []) rest in
      let whole : carried_in [] (datas_to x y ((front ++ wrote ∷ []) ++ rest)) ≡ carried_in [] (datas_to x y (log ++ told)) = ap (λ (l : List Entry). carried_in [] (datas_to x y l)) (append_assoc front (wrote ∷ []) rest ∙ is) in
      let said : length (sayings x y (log ++ told)) ≡ length (sayings x y front) = ap (λ (l : List Entry). length (sayings x y l)) (sym is) ∙ ap length (filter_map-append (said_by x y) front (wrote ∷ rest) ∙ ap (λ (l : List Saying). sayings x y front ++ l) (none_said x y rest none) ∙ append-nil (sayings x y front)) in
      let b = bound in omega arith

  by_place : InFirst log front wrote ⊎ InSecond log told front rest wrote → carried_in [] (datas_to x y (front ++ wrote ∷ [])) ≤ length (sayings x y front)
  by_place (inl one) = before front one.rest s e bytes one.is of
  by_place (inr two) = late (behind two.more rest s e bytes (subst SaidFirst (sym two.is) first))

-- as many are carried by what is written as were said, at most
bounded : (journal : List Line) (log : List Entry) (world : World) (party : Side → Party) (x : Side) → Says journal log world party x → carried_in [] (datas_to (party x).name (party (other x)).name log) ≤ length (sayings (party x).name (party (other x)).name log)
bounded journal log world party x s =
    let waiting : List Data = datas_in (words_in (waiting_as (link_of (scene_of party world) x).waits)) in
    let all = ap (carried_in []) (sym (datas_before party world x log)) in
    let counted = true_count journal (sayings (party x).name (party (other x)).name log) [] 0 (words_in (all_towards party world x log)) (length (sayings (party x).name (party (other x)).name log)) s.words in
    let more = carried_more (datas_to (party x).name (party (other x)).name log) waiting in omega arith

-- so it is of each two nodes
pub all_in_time : (journal : List Line) (log told : List Entry) (world after : World) → AllInTime journal log world → SaidFirst told → AllSay journal (log ++ told) after → AllInTime journal (log ++ told) after
all_in_time journal log told world after before first say party pair x = in_time_on (party x).name (party (other x)).name log told (before party pair x) first (bounded journal (log ++ told) after party x (say party pair x))
