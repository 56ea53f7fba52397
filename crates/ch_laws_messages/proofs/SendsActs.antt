-- What a node's acts make of its cell: what waits is weighed as it was put, and each connection that is opened gets an id more; and what
-- nodes make of what their host posts says no message.
use Rattle.std.proofs.Common.{◌≡◌, ℕ, List, [], ◌∷◌, ◌++◌, length, Ok, Err, refl, sym, ap, ◌∙◌, subst}
use Rattle.std.specs.Prelude.{find, Result, Option, Some, None}
use Rattle.ch_base.specs.declared.address.Address.{Address}
use Rattle.ch_base.specs.declared.event.Event.{Event}
use Rattle.ch_base.specs.declared.memory.Stop.{Stop}
use Rattle.ch_model.specs.declared.act.Act.{Act}
use Rattle.ch_model.specs.declared.act.Act.TheVariants as acts
use Rattle.ch_model.specs.declared.local.LocalEntry.{LocalEntry}
use Rattle.ch_model.specs.declared.local.LocalEntry.TheVariants as local
use Rattle.ch_model.specs.declared.step.EndError.{EndError}
use Rattle.ch_model.specs.declared.step.EndError.TheVariants as errors
use Rattle.ch_model.specs.declared.step.Step.{Step}
use Rattle.ch_model.specs.declared.step.Step.TheVariants as steps
use Rattle.ch_model.specs.declared.step.Weight.{Weight}
use Rattle.ch_model.specs.CellSteps.{Followed, after_entries, ◌then◌, is_at, with_node, told_steps, asked, act_on, acts_on, node_followed, posted, step_on, steps_on}
use Rattle.ch_model.specs.HostCalls.{host_connect, host_send, host_close}
use Rattle.ch_model.specs.HostState.{HostState}
use Rattle.ch_model.specs.Node.{node_event}
use Rattle.ch_model.specs.NodeState.{NodeState}
use Rattle.ch_model.specs.WorldState.{Cell}
use Rattle.ch_laws_connections.specs.Tables.{given_at, LinksApart}
use Rattle.ch_laws_connections.specs.Taken.{IsDone, ActTaken, AfterThat, ActsTaken}
use Rattle.ch_laws_epochs.specs.Numbers.{notes_in}
use Rattle.ch_laws_epochs.proofs.Calm.{Calm, on_event}
use Rattle.ch_laws_messages.specs.SendsSends.{IsWeighed, LinksWeighed}
use Rattle.ch_laws_messages.proofs.SendsHostActs.{connect_weighed, send_weighed, close_weighed, and_one, is_for, connect_gives, send_gives, close_gives}
use Rattle.ch_laws_messages.proofs.SendsBegun.{AllSilent, silent_both, acts_tell, acts_silent}

-- ---- acts

-- each payload is weighed as a message that was said, or isn't counted
abbrev pub ArePuts : List Act → Type 0
ArePuts [] = Unit {0}
ArePuts (acts.Put conn payload weight ∷ rest) = IsWeighed weight × ArePuts rest
ArePuts (act ∷ rest) = ArePuts rest

-- so many, and those connections that the acts open on a link
abbrev pub opened_by : ℕ → List Act → ℕ → Address → ℕ → ℕ
opened_by end [] e p n = n
opened_by end (acts.Open conn peer ∷ rest) e p n = opened_by end rest e p (and_one (is_for end peer e p) n)
opened_by end (act ∷ rest) e p n = opened_by end rest e p n

-- what waits is weighed then, and that many ids are given
pub record Given (end : ℕ) (done : List Act) (cell after : Cell) : Type 0 where
  pub apart : LinksApart after.host.links
  pub weighed : LinksWeighed after.host.links
  pub level : (e : ℕ) (p : Address) → length (given_at after.host e p) ≡ opened_by end done e p (length (given_at cell.host e p))

abbrev AllGiven : ℕ → List Act → Cell → Followed → Type 0
AllGiven end done cell (Ok told) = Given end done cell told.1
AllGiven end done cell (Err stop) = Unit {0}

abbrev IsPut : Act → Type 0
IsPut (acts.Put conn payload weight) = IsWeighed weight
IsPut act = Unit {0}

opens_so : (end : ℕ) (cell : Cell) (conn : ℕ) (peer : Address) (r : Result (List Step × HostState) EndError) → host_connect cell.host end peer conn ≡ r → IsDone r → LinksApart cell.host.links → LinksWeighed cell.host.links → AllGiven end (acts.Open conn peer ∷ []) cell (asked cell r)
opens_so end cell conn peer (Ok done) e d a l = let g = connect_gives cell.host done.1 end peer conn done.0 e a in record { apart = g.1; weighed = connect_weighed cell.host done.1 end peer conn done.0 e l; level = g.0 }
opens_so end cell conn peer (Err errors.Worn) e d a l = tt
opens_so end cell conn peer (Err errors.OutOfMemory) e d a l = tt
opens_so end cell conn peer (Err error) e d a l = absurd d

puts_so : (end : ℕ) (cell : Cell) (conn : ℕ) (payload : List ℕ) (weight : Weight) (r : Result (List Step × HostState) EndError) → host_send cell.host end conn payload weight ≡ r → IsWeighed weight → LinksApart cell.host.links → LinksWeighed cell.host.links → AllGiven end (acts.Put conn payload weight ∷ []) cell (asked cell r)
puts_so end cell conn payload weight (Ok done) e w a l = let g = send_gives cell.host done.1 end conn payload weight done.0 e a in record { apart = g.1; weighed = send_weighed cell.host done.1 end conn payload weight done.0 w e l; level = g.0 }
puts_so end cell conn payload weight (Err errors.Worn) e w a l = tt
puts_so end cell conn payload weight (Err errors.OutOfMemory) e w a l = tt
puts_so end cell conn payload weight (Err error) e w a l = record { apart = a; weighed = l; level = λ e p. refl }

closes_so : (end : ℕ) (cell : Cell) (conn : ℕ) (r : Result (List Step × HostState) EndError) → host_close cell.host end conn ≡ r → LinksApart cell.host.links → LinksWeighed cell.host.links → AllGiven end (acts.Close conn ∷ []) cell (asked cell r)
closes_so end cell conn (Ok done) e a l = let g = close_gives cell.host done.1 end conn done.0 e a in record { apart = g.1; weighed = close_weighed cell.host done.1 end conn done.0 e l; level = g.0 }
closes_so end cell conn (Err errors.Worn) e a l = tt
closes_so end cell conn (Err errors.OutOfMemory) e a l = tt
closes_so end cell conn (Err error) e a l = record { apart = a; weighed = l; level = λ e p. refl }

one_gives : (end : ℕ) (act : Act) (cell : Cell) → IsPut act → ActTaken end cell.host act → LinksApart cell.host.links → LinksWeighed cell.host.links → AllGiven end (act ∷ []) cell (act_on end act cell)
one_gives end (acts.Note note) cell w t a l = record { apart = a; weighed = l; level = λ e p. refl }
one_gives end (acts.Open conn peer) cell w t a l = opens_so end cell conn peer (host_connect cell.host end peer conn) refl t a l
one_gives end (acts.Put conn payload weight) cell w t a l = puts_so end cell conn payload weight (host_send cell.host end conn payload weight) refl w a l
one_gives end (acts.Close conn) cell w t a l = closes_so end cell conn (host_close cell.host end conn) refl a l

put_parts : (act : Act) (rest : List Act) → ArePuts (act ∷ rest) → IsPut act × ArePuts rest
put_parts (acts.Put conn payload weight) rest p = p
put_parts (acts.Note note) rest p = (tt, p)
put_parts (acts.Open conn peer) rest p = (tt, p)
put_parts (acts.Close conn) rest p = (tt, p)

all_give : (end : ℕ) (done : List Act) (cell : Cell) → ArePuts done → ActsTaken end done cell → LinksApart cell.host.links → LinksWeighed cell.host.links → AllGiven end done cell (acts_on end done cell)
all_give end [] cell w t a l = record { apart = a; weighed = l; level = λ e p. refl }
all_give end (act ∷ rest) cell w t a l = let parts = put_parts act rest w in
    by_one (act_on end act cell) (one_gives end act cell parts.0 t.0 a l) t.1 (λ next taken apart weighed. all_give end rest next parts.1 taken apart weighed)
  where
    joined : (act : Act) (e : ℕ) (p : Address) (n : ℕ) → opened_by end rest e p (opened_by end (act ∷ []) e p n) ≡ opened_by end (act ∷ rest) e p n
    joined (acts.Note note) e p n = refl
    joined (acts.Open conn peer) e p n = refl
    joined (acts.Put conn payload weight) e p n = refl
    joined (acts.Close conn) e p n = refl

    by_more : (told : List LocalEntry) (next : Cell) → Given end (act ∷ []) cell next → (more : Followed) → AllGiven end rest next more → AllGiven end (act ∷ rest) cell (after_entries told more)
    by_more told next g (Ok more) h = record { apart = h.apart; weighed = h.weighed; level = λ e p. h.level e p ∙ ap (opened_by end rest e p) (g.level e p) ∙ joined act e p (length (given_at cell.host e p)) }
    by_more told next g (Err stop) h = tt

    by_one : (one : Followed) → AllGiven end (act ∷ []) cell one → AfterThat one (λ next. ActsTaken end rest next) → ((next : Cell) → ActsTaken end rest next → LinksApart next.host.links → LinksWeighed next.host.links → AllGiven end rest next (acts_on end rest next)) → AllGiven end (act ∷ rest) cell (one then acts_on end rest)
    by_one (Ok one) g t k = by_more one.0 one.1 g (acts_on end rest one.1) (k one.1 t g.apart g.weighed)
    by_one (Err stop) g t k = tt

pub acts_give : (end : ℕ) (done : List Act) (cell after : Cell) (told : List LocalEntry) → acts_on end done cell ≡ Ok (told, after) → ArePuts done → ActsTaken end done cell → LinksApart cell.host.links → LinksWeighed cell.host.links → Given end done cell after
acts_give end done cell after told e w t a l = subst (AllGiven end done cell) e (all_give end done cell w t a l)

-- ---- what a host posts

abbrev SilentThen : Followed → Type 0
SilentThen (Ok done) = AllSilent (notes_in done.0)
SilentThen (Err stop) = Unit {0}

silent_then : (one : Followed) (f : Cell → Followed) → SilentThen one → ((next : Cell) → SilentThen (f next)) → SilentThen (one then f)
silent_then (Ok one) f s k = by_more (f one.1) (k one.1) where
  notes_append : (xs ys : List LocalEntry) → notes_in (xs ++ ys) ≡ notes_in xs ++ notes_in ys
  notes_append [] ys = refl
  notes_append (local.Note note ∷ xs) ys = ap (λ l. note ∷ l) (notes_append xs ys)
  notes_append (local.Step step ∷ xs) ys = notes_append xs ys

  by_more : (more : Followed) → SilentThen more → SilentThen (after_entries one.0 more)
  by_more (Ok more) m = subst AllSilent (sym (notes_append one.0 more.0)) (silent_both (notes_in one.0) (notes_in more.0) s m)
  by_more (Err stop) m = tt
silent_then (Err stop) f s k = tt

heard_silent : (end : ℕ) (cell : Cell) (before : NodeState) (r : Result (List Act × NodeState) Stop) → Calm before r → SilentThen (node_followed end cell r)
heard_silent end cell before (Ok done) c = by_told (acts_on end done.0 (with_node end done.1 cell)) refl where
  by_told : (r : Followed) → acts_on end done.0 (with_node end done.1 cell) ≡ r → SilentThen r
  by_told (Ok told) e = subst AllSilent (sym (acts_tell end done.0 (with_node end done.1 cell) told.1 told.0 e)) (acts_silent done.0 c.0)
  by_told (Err stop) e = tt
heard_silent end cell before (Err stop) c = tt

posted_silent : (end : ℕ) (event : Event) (cell : Cell) → SilentThen (posted end event cell)
posted_silent end event cell = by_node (find (is_at end) cell.nodes) where
  by_node : (o : Option (ℕ × NodeState)) → SilentThen (elim o as (λ o. Followed) [
    | None ↦ Ok ([], cell)
    | Some node ↦ node_followed end cell (node_event node.1 event)
  ])
  by_node None = tt
  by_node (Some node) = heard_silent end cell node.1 (node_event node.1 event) (on_event node.1 event)

step_silent : (step : Step) (cell : Cell) → SilentThen (step_on step cell)
step_silent (steps.Post end event) cell = posted_silent end event cell
step_silent (steps.Dial sock end peer) cell = tt
step_silent (steps.Read sock) cell = tt
step_silent (steps.Write sock bytes said) cell = tt
step_silent (steps.Up sock) cell = tt
step_silent (steps.Down sock) cell = tt
step_silent (steps.Left sock) cell = tt
step_silent (steps.Broke end peer why) cell = tt

all_silent : (done : List Step) (cell : Cell) → SilentThen (steps_on done cell)
all_silent [] cell = tt
all_silent (step ∷ rest) cell = silent_then (step_on step cell) (steps_on rest) (step_silent step cell) (λ next. all_silent rest next)

pub posts_silent : (done : List Step) (cell after : Cell) (told : List LocalEntry) → steps_on done cell ≡ Ok (told, after) → AllSilent (notes_in told)
posts_silent done cell after told e = subst SilentThen e (all_silent done cell)

pub steps_silent : (done : List Step) → AllSilent (notes_in (told_steps done))
steps_silent [] = tt
steps_silent (step ∷ rest) = steps_silent rest
