-- An item that is read: what the host takes, and what the pair's move is.
use Rattle.std.specs.Prelude.{◌≡◌, ℕ, List, [], ◌∷◌, ◌++◌, length, drop, map}
use Rattle.std.proofs.Common.{refl, ap, sym, ◌∙◌, append_assoc}
use Rattle.ch_reader.specs.declared.item.Expected.{Expected}
use Rattle.ch_reader.specs.declared.item.Expected.TheVariants as expected
use Rattle.ch_reader.specs.declared.item.Front.{Front}
use Rattle.ch_reader.specs.declared.item.Item.{Item}
use Rattle.ch_reader.specs.Items.{item_spelling, spellings, MayStand, expected_after}
use Rattle.ch_reader.specs.Streams.{IsUnfinished, IsStreamFrom}
use Rattle.ch_reader.specs.Reading.{reading}
use Rattle.ch_reader.proofs.Complete.{reads_item}
use Rattle.ch_link.specs.Table.{step_of}
use Rattle.ch_link.specs.declared.LinkIn.TheVariants as inputs
use Rattle.ch_link.specs.declared.LinkAnswer.TheVariants as answers
use Rattle.ch_model.specs.declared.name.End.{End}
use Rattle.ch_model.specs.declared.name.End.TheVariants.{O, T}
use Rattle.ch_model.specs.HostState.{Socket, HostState}
use Rattle.ch_model.specs.Host.{front_of, takes, handles}
use Rattle.ch_race.specs.Pair as pair
use Rattle.ch_race.specs.Pair.{Side, Lesser, Greater, other, OEnd, OAsking, OUp, TEnd, TOpen, TUp, Sock, Pair, put, point}
use Rattle.ch_race.specs.Moves.{Read_o, Read_t, asked, read_o, read_t, hears, after}
use Rattle.ch_laws_race.specs.View.{kind, whole_items}
use Rattle.ch_laws_race.specs.Sound.{opener_by}
use Rattle.ch_laws_race.specs.Reading.{read_at}
use Rattle.ch_laws_race.proofs.Items.{stream_items}

drop_all : {X : Type 0} (xs ys : List X) → drop (length xs) (xs ++ ys) ≡ ys
drop_all [] ys = refl
drop_all (x ∷ xs) ys = drop_all xs ys

-- the record of a socket, after an item, with these bytes behind it
abbrev pub taken : Socket → List ℕ → Socket
taken known more = record known { since = more; expected = expected.Frame }

-- an item that is spelled at the front is taken
pub takes_front : (known : Socket) (item : Item) (more : List ℕ) (host : HostState) → known.since ≡ item_spelling item ++ more → MayStand known.expected item → handles known (front_of known) host ≡ takes (taken known more) item host
takes_front known item more host front fits =
    ap (λ (z : List ℕ). handles known (reading known.expected z) host) front
    ∙ ap (λ (f : Front × ℕ). handles known f host) (reads_item known.expected item more fits)
    ∙ ap (λ (z : List ℕ). takes (record known { since = drop (length (item_spelling item)) z; expected = expected.Frame }) item host) front
    ∙ ap (λ (z : List ℕ). takes (record known { since = z; expected = expected.Frame }) item host) (drop_all (item_spelling item) more)

-- what is left behind the first item of a stream
pub left_behind : (e : Expected) (since unread more : List ℕ) (item : Item) (rest : List Item) (part : List ℕ) → since ≡ item_spelling item ++ more → IsStreamFrom e (since ++ unread) (item ∷ rest) part
    → whole_items expected.Frame (more ++ unread) ≡ map kind rest
left_behind e since unread more item rest part front s = stream_items expected.Frame (more ++ unread) rest part (record {
  whole = same_end (item_spelling item) (more ++ unread) (spellings rest ++ part)
      (sym (append_assoc (item_spelling item) more unread) ∙ ap (λ (z : List ℕ). z ++ unread) (sym front) ∙ s.whole ∙ append_assoc (item_spelling item) (spellings rest) part);
  each = s.each.1;
  unfinished = later rest s.unfinished;
}) where
  same_end : (xs ys zs : List ℕ) → xs ++ ys ≡ xs ++ zs → ys ≡ zs
  same_end xs ys zs h = sym (drop_all xs ys) ∙ ap (drop (length xs)) h ∙ drop_all xs zs

  later : (js : List Item) → IsUnfinished expected.Frame part → IsUnfinished (expected_after expected.Frame js) part
  later [] u = u
  later (j ∷ js) u = u

-- ---- the pair

-- the end is up
abbrev pub IsUp : End → Sock → Type 0
IsUp O s = s.o ≡ OUp
IsUp T s = s.t ≡ TUp

-- what is unread at the end
abbrev pub unread : End → Sock → List pair.Item
unread O s = s.in_o
unread T s = s.in_t

-- the socket with that unread at the end
abbrev pub leaving : End → List pair.Item → Sock → Sock
leaving O w s = record s { in_o = w }
leaving T w s = record s { in_t = w }

pub other_twice : (x : Side) → other (other x) ≡ x
other_twice Lesser = refl
other_twice Greater = refl

module _ (v : Pair) (i : ℕ) (s : Sock) (x : Side) (w : List pair.Item) (at : v.sock i ≡ s) where
  pub reads_probe : (e : End) → s.opener ≡ opener_by e x → IsUp e s → unread e s ≡ pair.Probe ∷ w → after (read_at e i) v ≡ hears step_of x i inputs.Probe (put i (leaving e w s) v)
  reads_probe O opener up first = ap (λ (z : Sock). read_o step_of z.o z.in_o i z v) at ∙ ap (λ (o : OEnd). read_o step_of o s.in_o i s v) up
      ∙ ap (λ (l : List pair.Item). read_o step_of OUp l i s v) first ∙ ap (λ (y : Side). hears step_of y i inputs.Probe (put i (record s { in_o = w }) v)) opener
  reads_probe T opener up first = ap (λ (z : Sock). read_t step_of z.t z.in_t i z v) at ∙ ap (λ (t : TEnd). read_t step_of t s.in_t i s v) up
      ∙ ap (λ (l : List pair.Item). read_t step_of TUp l i s v) first ∙ ap (λ (y : Side). hears step_of y i inputs.Probe (put i (record s { in_t = w }) v)) (ap other opener ∙ other_twice x)

  pub reads_ack : (e : End) → s.opener ≡ opener_by e x → IsUp e s → unread e s ≡ pair.Ack ∷ w → after (read_at e i) v ≡ hears step_of x i inputs.Ack (put i (leaving e w s) v)
  reads_ack O opener up first = ap (λ (z : Sock). read_o step_of z.o z.in_o i z v) at ∙ ap (λ (o : OEnd). read_o step_of o s.in_o i s v) up
      ∙ ap (λ (l : List pair.Item). read_o step_of OUp l i s v) first ∙ ap (λ (y : Side). hears step_of y i inputs.Ack (put i (record s { in_o = w }) v)) opener
  reads_ack T opener up first = ap (λ (z : Sock). read_t step_of z.t z.in_t i z v) at ∙ ap (λ (t : TEnd). read_t step_of t s.in_t i s v) up
      ∙ ap (λ (l : List pair.Item). read_t step_of TUp l i s v) first ∙ ap (λ (y : Side). hears step_of y i inputs.Ack (put i (record s { in_t = w }) v)) (ap other opener ∙ other_twice x)

  pub reads_closed : (e : End) → s.opener ≡ opener_by e x → IsUp e s → unread e s ≡ pair.EndClosed ∷ w → after (read_at e i) v ≡ hears step_of x i inputs.EndClosed (put i (leaving e w s) v)
  reads_closed O opener up first = ap (λ (z : Sock). read_o step_of z.o z.in_o i z v) at ∙ ap (λ (o : OEnd). read_o step_of o s.in_o i s v) up
      ∙ ap (λ (l : List pair.Item). read_o step_of OUp l i s v) first ∙ ap (λ (y : Side). hears step_of y i inputs.EndClosed (put i (record s { in_o = w }) v)) opener
  reads_closed T opener up first = ap (λ (z : Sock). read_t step_of z.t z.in_t i z v) at ∙ ap (λ (t : TEnd). read_t step_of t s.in_t i s v) up
      ∙ ap (λ (l : List pair.Item). read_t step_of TUp l i s v) first ∙ ap (λ (y : Side). hears step_of y i inputs.EndClosed (put i (record s { in_t = w }) v)) (ap other opener ∙ other_twice x)

  pub reads_data : (e : End) → IsUp e s → unread e s ≡ pair.Data ∷ w → after (read_at e i) v ≡ put i (leaving e w s) v
  reads_data O up first = ap (λ (z : Sock). read_o step_of z.o z.in_o i z v) at ∙ ap (λ (o : OEnd). read_o step_of o s.in_o i s v) up ∙ ap (λ (l : List pair.Item). read_o step_of OUp l i s v) first
  reads_data T up first = ap (λ (z : Sock). read_t step_of z.t z.in_t i z v) at ∙ ap (λ (t : TEnd). read_t step_of t s.in_t i s v) up ∙ ap (λ (l : List pair.Item). read_t step_of TUp l i s v) first

  pub reads_answer_accepted : s.opener ≡ x → s.o ≡ OAsking → s.in_o ≡ pair.Accepted ∷ w → after (Read_o i) v ≡ hears step_of x i (inputs.Answered answers.Accepted) (put i (record s { in_o = w }) v)
  reads_answer_accepted opener asks first = ap (λ (z : Sock). read_o step_of z.o z.in_o i z v) at ∙ ap (λ (o : OEnd). read_o step_of o s.in_o i s v) asks
      ∙ ap (λ (l : List pair.Item). read_o step_of OAsking l i s v) first ∙ ap (λ (y : Side). hears step_of y i (inputs.Answered answers.Accepted) (put i (record s { in_o = w }) v)) opener

  pub reads_answer_crossed : s.opener ≡ x → s.o ≡ OAsking → s.in_o ≡ pair.Crossed ∷ w → after (Read_o i) v ≡ hears step_of x i (inputs.Answered answers.Crossed) (put i (record s { in_o = w }) v)
  reads_answer_crossed opener asks first = ap (λ (z : Sock). read_o step_of z.o z.in_o i z v) at ∙ ap (λ (o : OEnd). read_o step_of o s.in_o i s v) asks
      ∙ ap (λ (l : List pair.Item). read_o step_of OAsking l i s v) first ∙ ap (λ (y : Side). hears step_of y i (inputs.Answered answers.Crossed) (put i (record s { in_o = w }) v)) opener

  pub reads_answer_invalid : s.opener ≡ x → s.o ≡ OAsking → s.in_o ≡ pair.Invalid ∷ w → after (Read_o i) v ≡ hears step_of x i (inputs.Answered answers.Invalid) (put i (record s { in_o = w }) v)
  reads_answer_invalid opener asks first = ap (λ (z : Sock). read_o step_of z.o z.in_o i z v) at ∙ ap (λ (o : OEnd). read_o step_of o s.in_o i s v) asks
      ∙ ap (λ (l : List pair.Item). read_o step_of OAsking l i s v) first ∙ ap (λ (y : Side). hears step_of y i (inputs.Answered answers.Invalid) (put i (record s { in_o = w }) v)) opener

  pub reads_request : s.opener ≡ other x → s.t ≡ TOpen → s.in_t ≡ pair.Request ∷ w → after (Read_t i) v ≡ asked step_of (v.shut x) x i (put i (record s { in_t = w }) v)
  reads_request opener asks first = ap (λ (z : Sock). read_t step_of z.t z.in_t i z v) at ∙ ap (λ (t : TEnd). read_t step_of t s.in_t i s v) asks
      ∙ ap (λ (l : List pair.Item). read_t step_of TOpen l i s v) first ∙ ap (λ (y : Side). asked step_of (v.shut y) y i (put i (record s { in_t = w }) v)) (ap other opener ∙ other_twice x)
