-- What a host does for a message to another node: its payload is put on the link with that node, behind its connection's opening where that is new.
use Rattle.std.proofs.Common.{◌≡◌, ◌≤◌, ℕ, ◌+◌, List, [], ◌∷◌, ◌++◌, length, Ok, refl, sym, ap, ◌∙◌, subst, arith}
use Rattle.std.specs.Prelude.{Option, Some, None, Result}
use Rattle.ch_base.specs.declared.address.Address.{Address}
use Rattle.ch_light.specs.declared.TheConstants.{FIRST_ID}
use Rattle.ch_light.specs.declared.Connection.{Connection}
use Rattle.ch_light.specs.Ids.{id_of, opened}
use Rattle.ch_wire.specs.declared.frame.Frame.TheVariants as frames
use Rattle.ch_model.specs.declared.step.EndError.{EndError}
use Rattle.ch_model.specs.declared.step.Step.{Step}
use Rattle.ch_model.specs.declared.step.Weight.{Weight}
use Rattle.ch_model.specs.declared.step.Weight.TheVariants.{Free}
use Rattle.ch_model.specs.HostCalls.{host_connect, host_send}
use Rattle.ch_model.specs.HostState.{Link, HostState}
use Rattle.ch_model.specs.HostSteps.{link_with}
use Rattle.ch_model.specs.HostWrites.{said_of}
use Rattle.ch_laws_connections.specs.Senders.{once}
use Rattle.ch_laws_connections.specs.Tables.{given_at, given_so, open_in}
use Rattle.ch_laws_connections.proofs.GivenIn.{some_open, opened_once}
use Rattle.ch_laws_connections.proofs.HostCalls.{IsCarried, carried}
use Rattle.ch_laws_plain.specs.Talks.{MaySpell, Connects, Sends}
use Rattle.ch_laws_plain.proofs.Adds.{connected, sent}
use Rattle.ch_laws_plain.proofs.Opens.{IsAlone, PutThere, put_there, last_id, given_is}
use Rattle.ch_laws_writes.specs.Dues.{due_at}
use Rattle.ch_laws_writes.specs.Orderly.{IsOrderly, AllWrite}
use Rattle.ch_laws_writes.proofs.Calls as writes
use Rattle.ch_laws_writes.proofs.Worlds.{number_same}
use Rattle.ch_laws_messages.specs.SaidPuts.{Puts, AllPut}
use Rattle.ch_laws_messages.proofs.SaidPuts.{connect_puts, send_puts, puts_then}

pub some_is : {A : Type 0} {x y : A} → ◌≡◌ {A = Option A} (Some x) (Some y) → x ≡ y
some_is e = cc

-- ---- a payload on a connection that is open with one peer

pub record PutOn (own : ℕ → Address) (host : HostState) (end conn : ℕ) (peer : Address) (payload : List ℕ) (weight : Weight) (told : List Step) (after : HostState) : Type 0 where
  pub id : ℕ
  pub has : id_of (link_with host end peer).given conn ≡ Some id
  pub given : (link_with after end peer).given ≡ (link_with host end peer).given
  pub spelled : MaySpell (frames.Data id payload ∷ [])
  pub puts : Puts host end peer ((frames.Data id payload, said_of weight) ∷ []) told after
  pub orderly : IsOrderly own after

pub put_on : (own : ℕ → Address) (host : HostState) (end conn : ℕ) (peer : Address) (payload : List ℕ) (weight : Weight) (told : List Step) (after : HostState) → IsOrderly own host → IsAlone host end conn peer → host_send host end conn payload weight ≡ Ok (told, after) → PutOn own host end conn peer payload weight told after
put_on own host end conn peer payload weight told after o a e = record {
  id = p.id;
  has = p.has;
  given = p.adds.given;
  spelled = p.adds.spelled;
  puts = subst (λ (n : ℕ). Puts host end peer ((frames.Data n payload, said_of weight) ∷ []) told after) same_id
      (subst (λ (n : ℕ). Puts host n peer ((frames.Data s.2 payload, said_of weight) ∷ []) told after) c.end_is (subst (λ (q : Address). Puts host link.end q ((frames.Data s.2 payload, said_of weight) ∷ []) told after) same_peer puts));
  orderly = (subst (AllWrite own (due_at host)) e (writes.sent own host end conn payload weight o)).orderly;
} where
  s : Sends {E = EndError} host end conn payload (Ok (told, after))
  s = subst (λ (r : Result (List Step × HostState) EndError). Sends host end conn payload r) e (sent own host end conn payload weight o)

  p : PutThere host end conn peer payload told after
  p = put_there host end conn peer payload told after a s

  link : Link
  link = s.0

  c : IsCarried host end conn link
  c = carried host end conn link a.apart s.1.found

  given_there : 1 ≤ given_so host end conn link.peer
  given_there = subst (λ (t : List Connection). 1 ≤ open_in t conn) (ap (λ (l : Link). l.given) (sym c.is_there) ∙ ap (λ (n : ℕ). given_at host n link.peer) c.end_is) (some_open link.given conn c.placed)

  same_peer : link.peer ≡ peer
  same_peer = a.one_link link.peer peer given_there a.there

  is_there : link_with host end peer ≡ link
  is_there = ap (link_with host end) (sym same_peer) ∙ ap (λ (n : ℕ). link_with host n link.peer) (sym c.end_is) ∙ c.is_there

  same_id : s.2 ≡ p.id
  same_id = some_is (sym s.3 ∙ ap (λ (l : Link). id_of l.given conn) (sym is_there) ∙ p.has)

  puts : Puts host link.end link.peer ((frames.Data s.2 payload, said_of weight) ∷ []) told after
  puts = subst (λ (r : Result (List Step × HostState) EndError). AllPut host link.end link.peer ((frames.Data s.2 payload, said_of weight) ∷ []) r) e (send_puts host end conn payload weight link s.2 s.1.found s.1.own_link s.3)

-- ---- a connection that is opened

pub record Opens (own : ℕ → Address) (host : HostState) (end conn : ℕ) (peer : Address) (told : List Step) (after : HostState) : Type 0 where
  pub given : (link_with after end peer).given ≡ (link_with host end peer).given ++ opened conn ∷ []
  pub spelled : MaySpell (frames.Created (FIRST_ID + length (link_with host end peer).given) ∷ [])
  pub puts : Puts host end peer ((frames.Created (FIRST_ID + length (link_with host end peer).given), None) ∷ []) told after
  pub orderly : IsOrderly own after

pub opens_on : (own : ℕ → Address) (host : HostState) (end conn : ℕ) (peer : Address) (told : List Step) (after : HostState) → IsOrderly own host → host_connect host end peer conn ≡ Ok (told, after) → Opens own host end conn peer told after
opens_on own host end conn peer told after o e = record {
  given = c.2.given ∙ ap (λ (g : ℕ × List Connection). g.1) is;
  spelled = subst (λ (n : ℕ). MaySpell (frames.Created n ∷ [])) (ap (λ (g : ℕ × List Connection). g.0) is) c.2.spelled;
  puts = subst (λ (n : ℕ). Puts host end peer ((frames.Created n, None) ∷ []) told after) (ap (λ (g : ℕ × List Connection). g.0) is) (subst (λ (r : Result (List Step × HostState) EndError). AllPut host end peer ((frames.Created c.0.0, None) ∷ []) r) e (connect_puts host end peer conn c.0 c.1));
  orderly = (subst (AllWrite own (due_at host)) e (writes.connected own host end peer conn o)).orderly;
} where
  c : Connects {E = EndError} host end peer conn (Ok (told, after))
  c = subst (λ (r : Result (List Step × HostState) EndError). Connects host end peer conn r) e (connected own host end peer conn o)

  is : c.0 ≡ (FIRST_ID + length (link_with host end peer).given, (link_with host end peer).given ++ opened conn ∷ [])
  is = given_is (link_with host end peer).given conn c.0 c.1

-- ---- the first message of a pair: a connection is opened, its opening goes first, and then the message

pub record FirstOn (own : ℕ → Address) (host : HostState) (end conn : ℕ) (peer : Address) (opening payload : List ℕ) (weight : Weight) (told : List Step) (after : HostState) : Type 0 where
  pub id : ℕ
  pub next : id ≡ FIRST_ID + length (link_with host end peer).given
  pub given : (link_with after end peer).given ≡ (link_with host end peer).given ++ opened conn ∷ []
  pub has : id_of (link_with after end peer).given conn ≡ Some id
  pub spelled : MaySpell (frames.Created id ∷ frames.Data id opening ∷ frames.Data id payload ∷ [])
  pub puts : Puts host end peer ((frames.Created id, None) ∷ (frames.Data id opening, None) ∷ (frames.Data id payload, said_of weight) ∷ []) told after

pub first_on : (own : ℕ → Address) (host one two after : HostState) (end conn : ℕ) (peer : Address) (opening payload : List ℕ) (weight : Weight) (s1 s2 s3 : List Step) → IsOrderly own host → IsAlone one end conn peer → IsAlone two end conn peer → given_so one end conn peer ≤ 1
    → host_connect host end peer conn ≡ Ok (s1, one) → host_send one end conn opening Free ≡ Ok (s2, two) → host_send two end conn payload weight ≡ Ok (s3, after) → FirstOn own host end conn peer opening payload weight (s1 ++ (s2 ++ s3)) after
first_on own host one two after end conn peer opening payload weight s1 s2 s3 o a b once_there e1 e2 e3 = record {
  id = id;
  next = refl;
  given = m.given ∙ p.given ∙ q.given;
  has = ap (λ (t : List Connection). id_of t conn) (m.given ∙ p.given ∙ q.given) ∙ last;
  spelled = (q.spelled.0, ((subst (λ (n : ℕ). MaySpell (frames.Data n opening ∷ [])) p_id p.spelled).0, ((subst (λ (n : ℕ). MaySpell (frames.Data n payload ∷ [])) m_id m.spelled).0, tt)));
  puts = puts_then host one after end peer ((frames.Created id, None) ∷ []) ((frames.Data id opening, None) ∷ (frames.Data id payload, said_of weight) ∷ []) s1 (s2 ++ s3) q.puts
      (puts_then one two after end peer ((frames.Data id opening, None) ∷ []) ((frames.Data id payload, said_of weight) ∷ []) s2 s3 (subst (λ (n : ℕ). Puts one end peer ((frames.Data n opening, None) ∷ []) s2 two) p_id p.puts) (subst (λ (n : ℕ). Puts two end peer ((frames.Data n payload, said_of weight) ∷ []) s3 after) m_id m.puts));
} where
  table : List Connection
  table = (link_with host end peer).given

  id : ℕ
  id = FIRST_ID + length table

  q : Opens own host end conn peer s1 one
  q = opens_on own host end conn peer s1 one o e1

  p : PutOn own one end conn peer opening Free s2 two
  p = put_on own one end conn peer opening Free s2 two q.orderly a e2

  m : PutOn own two end conn peer payload weight s3 after
  m = put_on own two end conn peer payload weight s3 after p.orderly b e3

  none : open_in (table ++ opened conn ∷ []) conn ≡ 1 + open_in table conn → open_in (table ++ opened conn ∷ []) conn ≤ 1 → open_in table conn ≡ 0
  none e l = omega arith

  unopened : open_in table conn ≡ 0
  unopened = none (opened_once table conn conn ∙ ap (λ b. once b + open_in table conn) (number_same conn)) (subst (λ (t : List Connection). open_in t conn ≤ 1) q.given once_there)

  last : id_of (table ++ opened conn ∷ []) conn ≡ Some id
  last = last_id table conn unopened

  p_id : p.id ≡ id
  p_id = some_is (sym p.has ∙ ap (λ (t : List Connection). id_of t conn) q.given ∙ last)

  m_id : m.id ≡ id
  m_id = some_is (sym m.has ∙ ap (λ (t : List Connection). id_of t conn) (p.given ∙ q.given) ∙ last)
