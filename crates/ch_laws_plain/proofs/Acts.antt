-- All acts of a plain node, one after another: what its host writes for them, and what waits there, is plain.
use Rattle.std.proofs.Common.{◌≡◌, ◌≤◌, ℕ, true, false, List, [], ◌∷◌, ◌++◌, length, Ok, Err, refl, sym, ap, ◌∙◌, subst, arith}
use Rattle.std.proofs.lemmas.Bool.Decides.{nat_tests}
use Rattle.std.proofs.lemmas.List.{append_assoc}
use Rattle.std.specs.Prelude.{nat_lt, Result}
use Rattle.ch_base.specs.declared.address.Address.{Address}
use Rattle.ch_wire.specs.declared.TheConstants.{MOST_PAYLOAD_BYTES}
use Rattle.ch_wire.specs.declared.frame.Frame.TheVariants as frames
use Rattle.ch_model.specs.declared.act.Act.{Act}
use Rattle.ch_model.specs.declared.act.Act.TheVariants as acts
use Rattle.ch_model.specs.declared.local.LocalEntry.{LocalEntry}
use Rattle.ch_model.specs.declared.local.LocalEntry.TheVariants as local
use Rattle.ch_model.specs.declared.step.EndError.{EndError}
use Rattle.ch_model.specs.declared.step.EndError.TheVariants as errors
use Rattle.ch_model.specs.declared.step.Step.{Step}
use Rattle.ch_model.specs.declared.step.Weight.{Weight}
use Rattle.ch_model.specs.CellSteps.{Followed, after_entries, ◌then◌, told_steps, asked, act_on, acts_on}
use Rattle.ch_model.specs.HostCalls.{host_connect, host_send, host_close}
use Rattle.ch_model.specs.HostState.{HostState}
use Rattle.ch_model.specs.WorldState.{Cell}
use Rattle.ch_laws_log.specs.HostEnds.{steps_in}
use Rattle.ch_laws_links.proofs.Cells.{steps_told}
use Rattle.ch_laws_writes.specs.Dues.{due_at}
use Rattle.ch_laws_writes.specs.Orderly.{IsOrderly, AllWrite}
use Rattle.ch_laws_writes.proofs.Calls as writes
use Rattle.ch_laws_connections.specs.Tables.{LinksApart}
use Rattle.ch_laws_connections.specs.Senders.{Sender}
use Rattle.ch_laws_connections.specs.Fits.{FitsAs}
use Rattle.ch_laws_connections.proofs.Acts.{After, open_room, act_fits}
use Rattle.ch_laws_connections.proofs.HostCalls.{SetsFree, IsTaken, with_opened, SentButLong, takes_payload}
use Rattle.ch_laws_connections.proofs.HostCalls as calls
use Rattle.ch_laws_plain_nodes.specs.Plain.{IsPlainOpening}
use Rattle.ch_laws_plain_nodes.specs.Acts.{ArePlain}
use Rattle.ch_laws_plain.specs.Acts.{AreShort, AllSpeak}
use Rattle.ch_laws_plain.specs.Talks.{HostIsPlain, Connects, Sends, Closes, Speaks}
use Rattle.ch_laws_plain.proofs.Streams.{opened_plain, data_plain, closing_plain}
use Rattle.ch_laws_plain.proofs.Adds.{connected, sent, closed}
use Rattle.ch_laws_plain.proofs.Opens.{OpenedFirst, opened_first}
use Rattle.ch_laws_plain.proofs.Speaks.{speaks_nothing, speaks_then, adds_speak}

-- ---- what was asked

steps_append : (xs ys : List LocalEntry) → steps_in (xs ++ ys) ≡ steps_in xs ++ steps_in ys
steps_append [] ys = refl
steps_append (local.Step step ∷ xs) ys = ap (λ (l : List Step). step ∷ l) (steps_append xs ys)
steps_append (local.Note note ∷ xs) ys = steps_append xs ys

-- steps that are told are those of the host
as_told : (host after : HostState) (done : List Step) → Speaks host done after → Speaks host (steps_in (told_steps done)) after
as_told host after done s = subst (λ (l : List Step). Speaks host l after) (sym (steps_told done)) s

put_speaks : (own : ℕ → Address) (end conn : ℕ) (payload : List ℕ) (cell : Cell) (r : Result (List Step × HostState) EndError) → IsOrderly own cell.host → HostIsPlain cell.host → Sends cell.host end conn payload r → AllWrite own (due_at cell.host) r → AllSpeak own cell (asked cell r)
put_speaks own end conn payload cell (Ok done) o p s w = (as_told cell.host done.1 done.0 (adds_speak cell.host done.1 s.0.end s.0.peer s.0.given (frames.Data s.2 payload ∷ []) done.0 p (data_plain s.2 payload) s.4), w.orderly)
put_speaks own end conn payload cell (Err errors.Worn) o p s w = tt
put_speaks own end conn payload cell (Err errors.OutOfMemory) o p s w = tt
put_speaks own end conn payload cell (Err errors.NoEndPoint) o p s w = (speaks_nothing cell.host p, o)
put_speaks own end conn payload cell (Err errors.NoConnection) o p s w = (speaks_nothing cell.host p, o)
put_speaks own end conn payload cell (Err errors.QueueFull) o p s w = (speaks_nothing cell.host p, o)
put_speaks own end conn payload cell (Err errors.PayloadLong) o p s w = (speaks_nothing cell.host p, o)
put_speaks own end conn payload cell (Err errors.Spent) o p s w = (speaks_nothing cell.host p, o)

close_speaks : (own : ℕ → Address) (end conn : ℕ) (cell : Cell) (r : Result (List Step × HostState) EndError) → IsOrderly own cell.host → HostIsPlain cell.host → Closes cell.host end conn r → AllWrite own (due_at cell.host) r → AllSpeak own cell (asked cell r)
close_speaks own end conn cell (Ok done) o p s w = (as_told cell.host done.1 done.0 (adds_speak cell.host done.1 s.0.end s.0.peer s.2.1 (frames.Closed s.2.0 ∷ []) done.0 p (closing_plain s.2.0) s.4), w.orderly)
close_speaks own end conn cell (Err errors.Worn) o p s w = tt
close_speaks own end conn cell (Err errors.OutOfMemory) o p s w = tt
close_speaks own end conn cell (Err errors.NoEndPoint) o p s w = (speaks_nothing cell.host p, o)
close_speaks own end conn cell (Err errors.NoConnection) o p s w = (speaks_nothing cell.host p, o)
close_speaks own end conn cell (Err errors.QueueFull) o p s w = (speaks_nothing cell.host p, o)
close_speaks own end conn cell (Err errors.PayloadLong) o p s w = (speaks_nothing cell.host p, o)
close_speaks own end conn cell (Err errors.Spent) o p s w = (speaks_nothing cell.host p, o)

-- ---- one thing and then another

more_speak : (own : ℕ → Address) (cell : Cell) (first : List LocalEntry × Cell) (more : Followed) → Speaks cell.host (steps_in first.0) first.1.host → AllSpeak own first.1 more → AllSpeak own cell (after_entries first.0 more)
more_speak own cell first (Ok more) a b = (subst (λ (l : List Step). Speaks cell.host l more.1.host) (sym (steps_append first.0 more.0)) (speaks_then cell.host first.1.host more.1.host (steps_in first.0) (steps_in more.0) a b.0), b.1)
more_speak own cell first (Err stop) a b = tt

-- ---- a connection is opened, and told what it is for

-- what is asked of the cell, and what the rest of the acts makes of it then
abbrev Rest : (ℕ → Address) → ℕ → List Act → Sender → Type 0
Rest own end rest s = (next : Cell) → LinksApart next.host.links → FitsAs false next.host end rest s → IsOrderly own next.host → HostIsPlain next.host → AllSpeak own next (acts_on end rest next)

not_long : {A : Type 0} (n : ℕ) → n ≤ MOST_PAYLOAD_BYTES → nat_lt MOST_PAYLOAD_BYTES n ≡ true → A
not_long n l h = absurd (no l h) where
  no : n ≤ MOST_PAYLOAD_BYTES → nat_lt MOST_PAYLOAD_BYTES n ≡ true → ⊥
  no l h = grind (arith, nat_tests)

-- the second of the two
second_speaks : (own : ℕ → Address) (end conn : ℕ) (peer : Address) (payload : List ℕ) (weight : Weight) (rest : List Act) (s : Sender) (cell mid : Cell) (told : List LocalEntry) (steps : List Step) (r : Result (List Step × HostState) EndError) → steps_in told ≡ steps → IsPlainOpening payload → length payload ≤ MOST_PAYLOAD_BYTES
    → HostIsPlain cell.host → LinksApart mid.host.links → FitsAs false mid.host end (acts.Put conn payload weight ∷ rest) s → Connects {E = EndError} cell.host end peer conn (Ok (steps, mid.host)) → Sends mid.host end conn payload r → AllWrite own (due_at mid.host) r → SentButLong payload r → After end mid false rest s (asked mid r) → Rest own end rest s
    → AllSpeak own cell (after_entries told (asked mid r then acts_on end rest))
second_speaks own end conn peer payload weight rest s cell mid told steps (Ok done) is opening short p l f c send w long a more = from (acts_on end rest (record mid { host = done.1 })) (more (record mid { host = done.1 }) (a.1.apart l) a.2 w.orderly two.plain) where
  first : OpenedFirst cell.host end peer payload (steps ++ done.0) done.1
  first = opened_first cell.host mid.host done.1 end conn peer payload steps done.0 l (f.1.alone conn peer) (λ q k. f.1.one_link conn q k) c send

  two : Speaks cell.host (steps ++ done.0) done.1
  two = adds_speak cell.host done.1 end peer first.given (frames.Created first.id ∷ frames.Data first.id payload ∷ []) (steps ++ done.0) p (opened_plain first.id payload opening) first.adds

  both : Speaks cell.host (steps_in (told ++ told_steps done.0)) done.1
  both = subst (λ (l : List Step). Speaks cell.host l done.1) (sym (steps_append told (told_steps done.0) ∙ ap (λ (l : List Step). l ++ steps_in (told_steps done.0)) is ∙ ap (λ (l : List Step). steps ++ l) (steps_told done.0))) two

  from : (next : Followed) → AllSpeak own (record mid { host = done.1 }) next → AllSpeak own cell (after_entries told (after_entries (told_steps done.0) next))
  from (Ok next) b = (subst (λ (l : List Step). Speaks cell.host l next.1.host) (steps_of next.0) (speaks_then cell.host done.1 next.1.host (steps_in (told ++ told_steps done.0)) (steps_in next.0) both b.0), b.1) where
    steps_of : (xs : List LocalEntry) → steps_in (told ++ told_steps done.0) ++ steps_in xs ≡ steps_in (told ++ (told_steps done.0 ++ xs))
    steps_of xs = sym (steps_append (told ++ told_steps done.0) xs) ∙ ap steps_in (append_assoc told (told_steps done.0) xs)
  from (Err stop) b = tt
second_speaks own end conn peer payload weight rest s cell mid told steps (Err errors.Worn) is opening short p l f c send w long a more = tt
second_speaks own end conn peer payload weight rest s cell mid told steps (Err errors.OutOfMemory) is opening short p l f c send w long a more = tt
second_speaks own end conn peer payload weight rest s cell mid told steps (Err errors.PayloadLong) is opening short p l f c send w long a more = not_long (length payload) short long
second_speaks own end conn peer payload weight rest s cell mid told steps (Err errors.NoEndPoint) is opening short p l f c send w long a more = absurd long
second_speaks own end conn peer payload weight rest s cell mid told steps (Err errors.NoConnection) is opening short p l f c send w long a more = absurd long
second_speaks own end conn peer payload weight rest s cell mid told steps (Err errors.QueueFull) is opening short p l f c send w long a more = absurd long
second_speaks own end conn peer payload weight rest s cell mid told steps (Err errors.Spent) is opening short p l f c send w long a more = absurd long

-- the first of them
first_speaks : (own : ℕ → Address) (end conn : ℕ) (peer : Address) (payload : List ℕ) (weight : Weight) (rest : List Act) (s : Sender) (cell : Cell) (r : Result (List Step × HostState) EndError) → IsPlainOpening payload → length payload ≤ MOST_PAYLOAD_BYTES
    → HostIsPlain cell.host → LinksApart cell.host.links → Connects cell.host end peer conn r → AllWrite own (due_at cell.host) r → IsTaken (SetsFree (with_opened cell.host end peer conn) cell.host) r → After end cell false (acts.Put conn payload weight ∷ rest) s (asked cell r) → Rest own end rest s
    → AllSpeak own cell (asked cell r then acts_on end (acts.Put conn payload weight ∷ rest))
first_speaks own end conn peer payload weight rest s cell (Ok done) opening short p l c w t a more = second_speaks own end conn peer payload weight rest s cell mid (told_steps done.0) done.0 (host_send done.1 end conn payload weight) (steps_told done.0) opening short p apart a.2 c (sent own done.1 end conn payload weight w.orderly) (writes.sent own done.1 end conn payload weight w.orderly)
    (takes_payload done.1 end conn payload weight apart a.2.1.used.0.0 a.2.1.used.0.1 (λ other x. a.2.1.one_link conn a.2.1.used.0.0 other a.2.1.used.0.1 x) a.2.1.used.0.2) (act_fits false end (acts.Put conn payload weight) rest s mid apart a.2) more
  where
    mid : Cell
    mid = record cell { host = done.1 }

    apart : LinksApart done.1.links
    apart = a.1.apart l
first_speaks own end conn peer payload weight rest s cell (Err errors.Worn) opening short p l c w t a more = tt
first_speaks own end conn peer payload weight rest s cell (Err errors.OutOfMemory) opening short p l c w t a more = tt
first_speaks own end conn peer payload weight rest s cell (Err errors.NoEndPoint) opening short p l c w t a more = absurd t
first_speaks own end conn peer payload weight rest s cell (Err errors.NoConnection) opening short p l c w t a more = absurd t
first_speaks own end conn peer payload weight rest s cell (Err errors.QueueFull) opening short p l c w t a more = absurd t
first_speaks own end conn peer payload weight rest s cell (Err errors.PayloadLong) opening short p l c w t a more = absurd t
first_speaks own end conn peer payload weight rest s cell (Err errors.Spent) opening short p l c w t a more = absurd t

-- ---- all acts

-- one act and the rest, where what is done of the one speaks plainly
one_speaks : (own : ℕ → Address) (end : ℕ) (rest : List Act) (s : Sender) (cell : Cell) (one : Followed) → LinksApart cell.host.links → AllSpeak own cell one → After end cell false rest s one → Rest own end rest s → AllSpeak own cell (one then acts_on end rest)
one_speaks own end rest s cell (Ok one) l a f more = more_speak own cell one (acts_on end rest one.1) a.0 (more one.1 (f.1.apart l) f.2 a.1 a.0.plain)
one_speaks own end rest s cell (Err stop) l a f more = tt

pub acts_speak : (own : ℕ → Address) (at : Address) (end : ℕ) (done : List Act) (s : Sender) (cell : Cell) → ArePlain at done → AreShort done → LinksApart cell.host.links → FitsAs false cell.host end done s → IsOrderly own cell.host → HostIsPlain cell.host → AllSpeak own cell (acts_on end done cell)
acts_speak own at end [] s cell plain short l f o p = (speaks_nothing cell.host p, o)
acts_speak own at end (acts.Note note ∷ rest) s cell plain short l f o p = one_speaks own end rest s cell (act_on end (acts.Note note) cell) l (speaks_nothing cell.host p, o) (act_fits false end (acts.Note note) rest s cell l f) (λ next l f o p. acts_speak own at end rest s next plain.1 short l f o p)
acts_speak own at end (acts.Put conn payload weight ∷ rest) s cell plain short l f o p = one_speaks own end rest s cell (act_on end (acts.Put conn payload weight) cell) l
    (put_speaks own end conn payload cell (host_send cell.host end conn payload weight) o p (sent own cell.host end conn payload weight o) (writes.sent own cell.host end conn payload weight o)) (act_fits false end (acts.Put conn payload weight) rest s cell l f) (λ next l f o p. acts_speak own at end rest s next plain.1 short l f o p)
acts_speak own at end (acts.Close conn ∷ rest) s cell plain short l f o p = one_speaks own end rest s cell (act_on end (acts.Close conn) cell) l
    (close_speaks own end conn cell (host_close cell.host end conn) o p (closed own cell.host end conn o) (writes.closed_conn own cell.host end conn o)) (act_fits false end (acts.Close conn) rest s cell l f) (λ next l f o p. acts_speak own at end rest s next plain short l f o p)
acts_speak own at end (acts.Open conn peer ∷ acts.Put on payload weight ∷ rest) s cell plain short l f o p = on_same conn plain.0.same f (λ next l f o p. acts_speak own at end rest s next plain.1 short.1 l f o p) where
  opening : IsPlainOpening payload
  opening = record { from = plain.0.from; to = plain.0.to; spelled = plain.0.spelled }

  by_open : FitsAs false cell.host end (acts.Open on peer ∷ acts.Put on payload weight ∷ rest) s → Rest own end rest s → AllSpeak own cell (acts_on end (acts.Open on peer ∷ acts.Put on payload weight ∷ rest) cell)
  by_open f more = first_speaks own end on peer payload weight rest s cell (host_connect cell.host end peer on) opening short.0 p l (connected own cell.host end peer on o) (writes.connected own cell.host end peer on o)
      (calls.connected cell.host end peer on f.1.standing (open_room end f.0 (acts.Put on payload weight ∷ rest) s on peer cell.host cell.host f.1)) (act_fits false end (acts.Open on peer) (acts.Put on payload weight ∷ rest) s cell l f) more

  on_same : (c : ℕ) → on ≡ c → FitsAs false cell.host end (acts.Open c peer ∷ acts.Put on payload weight ∷ rest) s → Rest own end rest s → AllSpeak own cell (acts_on end (acts.Open c peer ∷ acts.Put on payload weight ∷ rest) cell)
  on_same c e f more = subst (λ (k : ℕ). AllSpeak own cell (acts_on end (acts.Open k peer ∷ acts.Put on payload weight ∷ rest) cell)) e (by_open (subst (λ (k : ℕ). FitsAs false cell.host end (acts.Open k peer ∷ acts.Put on payload weight ∷ rest) s) (sym e) f) more)
acts_speak own at end (acts.Open conn peer ∷ []) s cell plain short l f o p = absurd plain
acts_speak own at end (acts.Open conn peer ∷ acts.Note note ∷ rest) s cell plain short l f o p = absurd plain
acts_speak own at end (acts.Open conn peer ∷ acts.Open on other ∷ rest) s cell plain short l f o p = absurd plain
acts_speak own at end (acts.Open conn peer ∷ acts.Close on ∷ rest) s cell plain short l f o p = absurd plain
