-- The acts of a message to another node, one after another, and the ends of connections: what their host makes of them.
use Rattle.std.proofs.Common.{◌≡◌, ◌≤◌, ℕ, ◌+◌, true, false, List, [], ◌∷◌, ◌++◌, length, Ok, Err, refl, sym, ap, ◌∙◌, subst, arith}
use Rattle.std.proofs.lemmas.Bool.Decides.{nat_tests}
use Rattle.std.proofs.lemmas.List.{append-nil}
use Rattle.std.specs.Prelude.{Result, nat_lt}
use Rattle.ch_base.specs.declared.address.Address.{Address}
use Rattle.ch_light.specs.Ids.{opened}
use Rattle.ch_light.specs.declared.Connection.{Connection}
use Rattle.ch_wire.specs.declared.TheConstants.{MOST_PAYLOAD_BYTES}
use Rattle.ch_model.specs.declared.act.Act.{Act}
use Rattle.ch_model.specs.declared.act.Act.TheVariants as acts
use Rattle.ch_model.specs.declared.local.LocalEntry.{LocalEntry}
use Rattle.ch_model.specs.declared.local.LocalEntry.TheVariants as local
use Rattle.ch_model.specs.declared.note.Note.{Note}
use Rattle.ch_model.specs.declared.step.EndError.{EndError}
use Rattle.ch_model.specs.declared.step.EndError.TheVariants as errors
use Rattle.ch_model.specs.declared.step.Step.{Step}
use Rattle.ch_model.specs.declared.step.Weight.{Weight}
use Rattle.ch_model.specs.declared.step.Weight.TheVariants.{Free}
use Rattle.ch_model.specs.CellSteps.{Followed, after_entries, ◌then◌, told_steps, asked, acts_on}
use Rattle.ch_model.specs.HostCalls.{host_connect, host_send}
use Rattle.ch_model.specs.HostState.{HostState}
use Rattle.ch_model.specs.HostSteps.{link_with}
use Rattle.ch_model.specs.WorldState.{Cell}
use Rattle.ch_laws_connections.specs.Fits.{FitsAs}
use Rattle.ch_laws_connections.specs.Senders.{Sender, once}
use Rattle.ch_laws_connections.specs.Tables.{given_so, open_in, LinksApart}
use Rattle.ch_laws_connections.specs.Taken.{IsDone, IsDoneButLong, AfterThat, ActsTaken}
use Rattle.ch_laws_connections.proofs.Acts.{Moves, After, act_fits}
use Rattle.ch_laws_connections.proofs.GivenIn.{opened_once}
use Rattle.ch_laws_links.proofs.Cells.{steps_told}
use Rattle.ch_laws_log.specs.HostEnds.{steps_in}
use Rattle.ch_laws_plain.proofs.Opens.{IsAlone}
use Rattle.ch_laws_writes.specs.Orderly.{IsOrderly}
use Rattle.ch_laws_writes.proofs.Worlds.{number_same}
use Rattle.ch_laws_messages.proofs.SaidAway.{PutOn, put_on, Opens, opens_on, FirstOn, first_on}

-- ---- what was done

steps_append : (xs ys : List LocalEntry) → steps_in (xs ++ ys) ≡ steps_in xs ++ steps_in ys
steps_append [] ys = refl
steps_append (local.Step step ∷ xs) ys = ap (λ (l : List Step). step ∷ l) (steps_append xs ys)
steps_append (local.Note note ∷ xs) ys = steps_append xs ys

abbrev pub Done : Type 0
Done = List LocalEntry × Cell

pub pair_is : {x y : Done} → ◌≡◌ {A = Followed} (Ok x) (Ok y) → x ≡ y
pair_is e = cc

-- a note is told first
pub record Noted (note : Note) (rest : Followed) (told : List LocalEntry) (after : Cell) : Type 0 where
  pub more : List LocalEntry
  pub left : rest ≡ Ok (more, after)
  pub told_is : told ≡ local.Note note ∷ more

pub noted : (note : Note) (rest : Followed) (told : List LocalEntry) (after : Cell) → after_entries (local.Note note ∷ []) rest ≡ Ok (told, after) → Noted note rest told after
noted note (Ok b) told after e = let same : ◌≡◌ {A = Done} (local.Note note ∷ b.0, b.1) (told, after) = pair_is e in
    record { more = b.0; left = ap (λ (c : Cell). Ok (b.0, c)) (ap (λ (d : Done). d.1) same); told_is = sym (ap (λ (d : Done). d.0) same) }
noted note (Err stop) told after e = absurd cc

-- the host is asked something, and that isn't refused
pub record Next (r : Result (List Step × HostState) EndError) (end : ℕ) (rest : List Act) (c : Cell) (told : List LocalEntry) (after : Cell) : Type 0 where
  pub done : List Step × HostState
  pub is : r ≡ Ok done
  pub more : List LocalEntry
  pub left : acts_on end rest (record c { host = done.1 }) ≡ Ok (more, after)
  pub told_is : told ≡ told_steps done.0 ++ more
  pub steps : steps_in told ≡ done.0 ++ steps_in more

pub asked_next : (r : Result (List Step × HostState) EndError) (end : ℕ) (rest : List Act) (c : Cell) (told : List LocalEntry) (after : Cell) → IsDone r → (asked c r then acts_on end rest) ≡ Ok (told, after) → Next r end rest c told after
asked_next (Ok done) end rest c told after d e = by_rest (acts_on end rest (record c { host = done.1 })) refl e where
  by_rest : (f : Followed) → acts_on end rest (record c { host = done.1 }) ≡ f → after_entries (told_steps done.0) f ≡ Ok (told, after) → Next (Ok done) end rest c told after
  by_rest (Ok b) h e = let same : ◌≡◌ {A = Done} (told_steps done.0 ++ b.0, b.1) (told, after) = pair_is e in record {
    done = done;
    is = refl;
    more = b.0;
    left = h ∙ ap (λ (c : Cell). Ok (b.0, c)) (ap (λ (d : Done). d.1) same);
    told_is = sym (ap (λ (d : Done). d.0) same);
    steps = ap steps_in (sym (ap (λ (d : Done). d.0) same)) ∙ steps_append (told_steps done.0) b.0 ∙ ap (λ (l : List Step). l ++ steps_in b.0) (steps_told done.0);
  }
  by_rest (Err stop) h e = absurd cc
asked_next (Err errors.Worn) end rest c told after d e = absurd cc
asked_next (Err errors.OutOfMemory) end rest c told after d e = absurd cc
asked_next (Err errors.NoEndPoint) end rest c told after d e = absurd d
asked_next (Err errors.NoConnection) end rest c told after d e = absurd d
asked_next (Err errors.QueueFull) end rest c told after d e = absurd d
asked_next (Err errors.PayloadLong) end rest c told after d e = absurd d
asked_next (Err errors.Spent) end rest c told after d e = absurd d

-- a payload that is short isn't refused
short_done : (payload : List ℕ) (r : Result (List Step × HostState) EndError) → length payload ≤ MOST_PAYLOAD_BYTES → IsDoneButLong payload r → IsDone r
short_done payload (Ok done) l d = tt
short_done payload (Err errors.Worn) l d = tt
short_done payload (Err errors.OutOfMemory) l d = tt
short_done payload (Err errors.PayloadLong) l d = no (length payload) l d where
  no : (n : ℕ) → n ≤ MOST_PAYLOAD_BYTES → nat_lt MOST_PAYLOAD_BYTES n ≡ true → ⊥
  no n l h = grind (arith, nat_tests)
short_done payload (Err errors.NoEndPoint) l d = absurd d
short_done payload (Err errors.NoConnection) l d = absurd d
short_done payload (Err errors.QueueFull) l d = absurd d
short_done payload (Err errors.Spent) l d = absurd d

-- what is so after that
pub taken_after : (r : Result (List Step × HostState) EndError) (c : Cell) (done : List Step × HostState) (P : Cell → Type 0) → r ≡ Ok done → AfterThat (asked c r) P → P (record c { host = done.1 })
taken_after r c done P is a = subst (λ (r : Result (List Step × HostState) EndError). AfterThat (asked c r) P) is a

pub fits_after : (r : Result (List Step × HostState) EndError) (end : ℕ) (c : Cell) (rest : List Act) (s : Sender) (done : List Step × HostState) → r ≡ Ok done → After end c false rest s (asked c r) → Moves end c.host done.1 × FitsAs false done.1 end rest s
fits_after r end c rest s done is a = let k = subst (λ (r : Result (List Step × HostState) EndError). After end c false rest s (asked c r)) is a in (k.1, k.2)

-- ---- a message goes on a connection that is open

pub record NextOn (own : ℕ → Address) (c : Cell) (end conn : ℕ) (peer : Address) (payload : List ℕ) (weight : Weight) (note : Note) (told : List LocalEntry) (after : Cell) : Type 0 where
  pub put : PutOn own c.host end conn peer payload weight (steps_in told) after.host
  pub steps : List Step
  pub told_is : told ≡ local.Note note ∷ told_steps steps
  pub nodes : after.nodes ≡ c.nodes

pub next_acts : (own : ℕ → Address) (c : Cell) (end conn : ℕ) (peer : Address) (payload : List ℕ) (weight : Weight) (note : Note) (told : List LocalEntry) (after : Cell) → IsOrderly own c.host → IsAlone c.host end conn peer → length payload ≤ MOST_PAYLOAD_BYTES → ActsTaken end (acts.Note note ∷ acts.Put conn payload weight ∷ []) c
    → acts_on end (acts.Note note ∷ acts.Put conn payload weight ∷ []) c ≡ Ok (told, after) → NextOn own c end conn peer payload weight note told after
next_acts own c end conn peer payload weight note told after o a short taken e = record {
  put = subst (λ (l : List Step). PutOn own c.host end conn peer payload weight l after.host) (sym steps_are) (subst (λ (h : HostState). PutOn own c.host end conn peer payload weight one.done.0 h) (ap (λ (d : Done). d.1.host) last) (put_on own c.host end conn peer payload weight one.done.0 one.done.1 o a one.is));
  steps = one.done.0;
  told_is = first.told_is ∙ ap (λ (l : List LocalEntry). local.Note note ∷ l) (one.told_is ∙ ap (λ (l : List LocalEntry). told_steps one.done.0 ++ l) (sym (ap (λ (d : Done). d.0) last)) ∙ append-nil (told_steps one.done.0));
  nodes = sym (ap (λ (d : Done). d.1.nodes) last);
} where
  first : Noted note (acts_on end (acts.Put conn payload weight ∷ []) c) told after
  first = noted note (acts_on end (acts.Put conn payload weight ∷ []) c) told after e

  one : Next (host_send c.host end conn payload weight) end [] c first.more after
  one = asked_next (host_send c.host end conn payload weight) end [] c first.more after (short_done payload (host_send c.host end conn payload weight) short taken.1.0) first.left

  last : ◌≡◌ {A = Done} ([], record c { host = one.done.1 }) (one.more, after)
  last = pair_is one.left

  steps_are : steps_in told ≡ one.done.0
  steps_are = ap steps_in first.told_is ∙ one.steps ∙ ap (λ (l : List LocalEntry). one.done.0 ++ steps_in l) (sym (ap (λ (d : Done). d.0) last)) ∙ append-nil one.done.0

-- ---- a message goes first

pub record FirstActs (own : ℕ → Address) (c : Cell) (end conn : ℕ) (peer : Address) (opening payload : List ℕ) (weight : Weight) (note : Note) (told : List LocalEntry) (after : Cell) : Type 0 where
  pub first : FirstOn own c.host end conn peer opening payload weight (steps_in told) after.host
  pub steps : List Step
  pub told_is : told ≡ local.Note note ∷ told_steps steps
  pub nodes : after.nodes ≡ c.nodes

pub told_append : (xs ys : List Step) → told_steps (xs ++ ys) ≡ told_steps xs ++ told_steps ys
told_append [] ys = refl
told_append (x ∷ xs) ys = ap (λ (l : List LocalEntry). local.Step x ∷ l) (told_append xs ys)

pub first_acts : (own : ℕ → Address) (c : Cell) (end conn : ℕ) (peer : Address) (opening payload : List ℕ) (weight : Weight) (note : Note) (s : Sender) (told : List LocalEntry) (after : Cell) → IsOrderly own c.host → LinksApart c.host.links → FitsAs false c.host end (acts.Note note ∷ acts.Open conn peer ∷ acts.Put conn opening Free ∷ acts.Put conn payload weight ∷ []) s
    → length opening ≤ MOST_PAYLOAD_BYTES → length payload ≤ MOST_PAYLOAD_BYTES → ActsTaken end (acts.Note note ∷ acts.Open conn peer ∷ acts.Put conn opening Free ∷ acts.Put conn payload weight ∷ []) c → acts_on end (acts.Note note ∷ acts.Open conn peer ∷ acts.Put conn opening Free ∷ acts.Put conn payload weight ∷ []) c ≡ Ok (told, after)
    → FirstActs own c end conn peer opening payload weight note told after
first_acts own c end conn peer opening payload weight note s told after o apart f short_opening short taken e = record {
  first = subst (λ (l : List Step). FirstOn own c.host end conn peer opening payload weight l after.host) (sym steps_are) (subst (λ (h : HostState). FirstOn own c.host end conn peer opening payload weight (one.done.0 ++ (two.done.0 ++ three.done.0)) h) (ap (λ (d : Done). d.1.host) last)
      (first_on own c.host one.done.1 two.done.1 three.done.1 end conn peer opening payload weight one.done.0 two.done.0 three.done.0 o alone_one alone_two (fit_one.1.1.alone conn peer) one.is two.is three.is));
  steps = one.done.0 ++ (two.done.0 ++ three.done.0);
  told_is = start.told_is ∙ ap (λ (l : List LocalEntry). local.Note note ∷ l) (one.told_is ∙ ap (λ (l : List LocalEntry). told_steps one.done.0 ++ l) (two.told_is ∙ ap (λ (l : List LocalEntry). told_steps two.done.0 ++ l) (three.told_is ∙ ap (λ (l : List LocalEntry). told_steps three.done.0 ++ l) (sym (ap (λ (d : Done). d.0) last)) ∙ append-nil (told_steps three.done.0)) ∙ sym (told_append two.done.0 three.done.0)) ∙ sym (told_append one.done.0 (two.done.0 ++ three.done.0)));
  nodes = sym (ap (λ (d : Done). d.1.nodes) last);
} where
  start : Noted note (acts_on end (acts.Open conn peer ∷ acts.Put conn opening Free ∷ acts.Put conn payload weight ∷ []) c) told after
  start = noted note (acts_on end (acts.Open conn peer ∷ acts.Put conn opening Free ∷ acts.Put conn payload weight ∷ []) c) told after e

  one : Next (host_connect c.host end peer conn) end (acts.Put conn opening Free ∷ acts.Put conn payload weight ∷ []) c start.more after
  one = asked_next (host_connect c.host end peer conn) end (acts.Put conn opening Free ∷ acts.Put conn payload weight ∷ []) c start.more after taken.1.0 start.left

  taken1 : ActsTaken end (acts.Put conn opening Free ∷ acts.Put conn payload weight ∷ []) (record c { host = one.done.1 })
  taken1 = taken_after (host_connect c.host end peer conn) c one.done (λ next. ActsTaken end (acts.Put conn opening Free ∷ acts.Put conn payload weight ∷ []) next) one.is taken.1.1

  two : Next (host_send one.done.1 end conn opening Free) end (acts.Put conn payload weight ∷ []) (record c { host = one.done.1 }) one.more after
  two = asked_next (host_send one.done.1 end conn opening Free) end (acts.Put conn payload weight ∷ []) (record c { host = one.done.1 }) one.more after (short_done opening (host_send one.done.1 end conn opening Free) short_opening taken1.0) one.left

  taken2 : ActsTaken end (acts.Put conn payload weight ∷ []) (record c { host = two.done.1 })
  taken2 = taken_after (host_send one.done.1 end conn opening Free) (record c { host = one.done.1 }) two.done (λ next. ActsTaken end (acts.Put conn payload weight ∷ []) next) two.is taken1.1

  three : Next (host_send two.done.1 end conn payload weight) end [] (record c { host = two.done.1 }) two.more after
  three = asked_next (host_send two.done.1 end conn payload weight) end [] (record c { host = two.done.1 }) two.more after (short_done payload (host_send two.done.1 end conn payload weight) short taken2.0) two.left

  last : ◌≡◌ {A = Done} ([], record c { host = three.done.1 }) (three.more, after)
  last = pair_is three.left

  steps_are : steps_in told ≡ one.done.0 ++ (two.done.0 ++ three.done.0)
  steps_are = ap steps_in start.told_is ∙ one.steps ∙ ap (λ (l : List Step). one.done.0 ++ l) (two.steps ∙ ap (λ (l : List Step). two.done.0 ++ l) (three.steps ∙ ap (λ (l : List LocalEntry). three.done.0 ++ steps_in l) (sym (ap (λ (d : Done). d.0) last)) ∙ append-nil three.done.0))

  fit_note : FitsAs false c.host end (acts.Open conn peer ∷ acts.Put conn opening Free ∷ acts.Put conn payload weight ∷ []) s
  fit_note = (act_fits false end (acts.Note note) (acts.Open conn peer ∷ acts.Put conn opening Free ∷ acts.Put conn payload weight ∷ []) s c apart f).2

  fit_one : Moves end c.host one.done.1 × FitsAs false one.done.1 end (acts.Put conn opening Free ∷ acts.Put conn payload weight ∷ []) s
  fit_one = fits_after (host_connect c.host end peer conn) end c (acts.Put conn opening Free ∷ acts.Put conn payload weight ∷ []) s one.done one.is (act_fits false end (acts.Open conn peer) (acts.Put conn opening Free ∷ acts.Put conn payload weight ∷ []) s c apart fit_note)

  apart1 : LinksApart one.done.1.links
  apart1 = fit_one.0.apart apart

  fit_two : Moves end one.done.1 two.done.1 × FitsAs false two.done.1 end (acts.Put conn payload weight ∷ []) s
  fit_two = fits_after (host_send one.done.1 end conn opening Free) end (record c { host = one.done.1 }) (acts.Put conn payload weight ∷ []) s two.done two.is (act_fits false end (acts.Put conn opening Free) (acts.Put conn payload weight ∷ []) s (record c { host = one.done.1 }) apart1 fit_one.1)

  opens : Opens own c.host end conn peer one.done.0 one.done.1
  opens = opens_on own c.host end conn peer one.done.0 one.done.1 o one.is

  some : (n : ℕ) (k : ℕ) → n ≡ 1 + k → 1 ≤ n
  some n k e = omega arith

  there_one : 1 ≤ given_so one.done.1 end conn peer
  there_one = subst (λ (t : List Connection). 1 ≤ open_in t conn) (sym opens.given) (some (open_in ((link_with c.host end peer).given ++ opened conn ∷ []) conn) (open_in (link_with c.host end peer).given conn) (opened_once (link_with c.host end peer).given conn conn ∙ ap (λ b. once b + open_in (link_with c.host end peer).given conn) (number_same conn)))

  alone_one : IsAlone one.done.1 end conn peer
  alone_one = record { apart = apart1; there = there_one; one_link = λ p q. fit_one.1.1.one_link conn p q }

  put : PutOn own one.done.1 end conn peer opening Free two.done.0 two.done.1
  put = put_on own one.done.1 end conn peer opening Free two.done.0 two.done.1 opens.orderly alone_one two.is

  alone_two : IsAlone two.done.1 end conn peer
  alone_two = record { apart = fit_two.0.apart apart1; there = subst (λ (t : List Connection). 1 ≤ open_in t conn) (sym put.given) there_one; one_link = λ p q. fit_two.1.1.one_link conn p q }
