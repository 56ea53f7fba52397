-- A cell's steps, one by one, keep the streams of all sockets.
use Rattle.std.proofs.Common.{◌≡◌, ℕ, Bool, true, false, cond, List, [], ◌∷◌, ◌++◌, refl, sym, ap, ◌∙◌, subst, append_assoc}
use Rattle.std.proofs.lemmas.Grind.{flat_map-append}
use Rattle.std.specs.Prelude.{Option, Some, None}
use Rattle.std.specs.Str.{bytes_eq}
use Rattle.ch_base.specs.declared.address.Address.{Address}
use Rattle.ch_wire.specs.Spelling.{IsRequest, answer_spelling}
use Rattle.ch_wire.specs.declared.answer.Answer.TheVariants.{Accepted}
use Rattle.ch_reader.specs.Items.{item_spelling, spellings, expected_after, MayStand, MayFollow}
use Rattle.ch_reader.specs.declared.item.Expected.{Expected}
use Rattle.ch_reader.specs.declared.item.Expected.TheVariants as expected
use Rattle.ch_reader.specs.declared.item.Item.{Item}
use Rattle.ch_reader.specs.declared.item.Item.TheVariants as items
use Rattle.ch_model.specs.declared.name.SockName.{SockName}
use Rattle.ch_model.specs.Naming.{Names}
use Rattle.ch_laws_writes.specs.Dues.{Due, Asking, Answering, Framing, due_past, IsDue}
use Rattle.ch_laws_bytes.specs.Streams.{Reader, MayAsk, Fits, Spelled, Flows, AsksNothing, ToOpener, ToTarget}

-- ---- one item is written

follows_with : (e : Expected) (items : List Item) (item : Item) → MayFollow e items → MayStand (expected_after e items) item → MayFollow e (items ++ item ∷ [])
follows_with e [] item f s = (s, tt)
follows_with e (one ∷ more) item f s = (f.0, follows_with expected.Frame more item f.1 (subst (λ (k : Expected). MayStand k item) (sym (all_frames more)) s)) where
  all_frames : (l : List Item) → expected_after expected.Frame l ≡ expected.Frame
  all_frames [] = refl
  all_frames (i ∷ l) = refl

after_one : (e : Expected) (items : List Item) (item : Item) → expected_after e (items ++ item ∷ []) ≡ expected.Frame
after_one e [] item = refl
after_one e (one ∷ more) item = refl

-- bytes that are due are an item that may stand there
record IsItem (e : Expected) (bytes : List ℕ) : Type 0 where
  item : Item
  stands : MayStand e item
  spells : bytes ≡ item_spelling item

item_due : (own : ℕ → Address) (due : Option Due) (e : Expected) (bytes : List ℕ) → IsDue own due bytes → MayAsk own due → Fits e due → IsItem e bytes
item_due own None e bytes d m f = absurd d
item_due own (Some (Asking end peer)) e bytes d m f = record { item = items.Request (record { target = peer.id; from = own end }); stands = subst (λ (k : Expected). MayStand k (items.Request (record { target = peer.id; from = own end }))) (sym f) (m end peer refl); spells = d }
item_due own (Some Answering) e bytes d m f = record { item = items.Answer d.0; stands = subst (λ (k : Expected). MayStand k (items.Answer d.0)) (sym f) tt; spells = d.1 }
item_due own (Some Framing) e bytes d m f = record { item = items.Frame d.0; stands = subst (λ (k : Expected). MayStand k (items.Frame d.0)) (sym f) d.1; spells = d.2 }

frame_past : (own : ℕ → Address) (due : Option Due) (bytes : List ℕ) → IsDue own due bytes → Fits expected.Frame (due_past bytes due)
frame_past own None bytes d = tt
frame_past own (Some (Asking end peer)) bytes d = refl
frame_past own (Some Answering) bytes d = by_test (bytes_eq bytes (answer_spelling Accepted)) where
  by_test : (b : Bool) → Fits expected.Frame (cond b (Some Framing) None)
  by_test true = refl
  by_test false = tt
frame_past own (Some Framing) bytes d = refl

-- what is written is an item, which comes last
pub record IsLast (reader : Reader) (unread bytes : List ℕ) (due : Option Due) (items : List Item) : Type 0 where
  pub item : Item
  pub spells : bytes ≡ item_spelling item
  pub now : Spelled reader (unread ++ bytes) (due_past bytes due)
  pub last : now.items ≡ items ++ item ∷ []

pub comes_last : (own : ℕ → Address) (reader : Reader) (unread bytes : List ℕ) (due : Option Due) (s : Spelled reader unread due) → IsDue own due bytes → MayAsk own due → IsLast reader unread bytes due s.items
comes_last own reader unread bytes due s d m =
    let new = item_due own due (expected_after reader.0 s.items) bytes d m s.next in
    record {
      item = new.item;
      spells = new.spells;
      now = record {
        items = s.items ++ new.item ∷ [];
        whole = sym (append_assoc reader.1 unread bytes) ∙ ap (λ (l : List ℕ). l ++ bytes) s.whole ∙ ap (λ (l : List ℕ). spellings s.items ++ l) (new.spells ∙ sym (nil_last (item_spelling new.item))) ∙ sym (flat_map-append item_spelling s.items (new.item ∷ []));
        each = follows_with reader.0 s.items new.item s.each new.stands;
        next = subst (λ (k : Expected). Fits k (due_past bytes due)) (sym (after_one reader.0 s.items new.item)) (frame_past own due bytes d);
      };
      last = refl;
    }
  where
    nil_last : (l : List ℕ) → l ++ [] ≡ l
    nil_last [] = refl
    nil_last (x ∷ l) = ap (λ (m : List ℕ). x ∷ m) (nil_last l)

flows_with : (own : ℕ → Address) (reader : Option Reader) (over : Bool) (unread bytes : List ℕ) (due : Option Due) → IsDue own due bytes → MayAsk own due → Flows reader over unread due → Flows reader over (unread ++ bytes) (due_past bytes due)
flows_with own None over unread bytes due d m f = tt
flows_with own (Some reader) true unread bytes due d m f = tt
flows_with own (Some reader) false unread bytes due d m f = (comes_last own reader unread bytes due f d m).now

-- where an end is over, nothing is said of what it reads
pub over_flows : (reader : Option Reader) (unread : List ℕ) (due : Option Due) → Flows reader true unread due
over_flows None unread due = tt
over_flows (Some reader) unread due = tt

-- nothing but frames is due after an item
pub past_asks : (bytes : List ℕ) (due : Option Due) → AsksNothing (due_past bytes due)
past_asks bytes None = tt
past_asks bytes (Some (Asking end peer)) = tt
past_asks bytes (Some Answering) = by_test (bytes_eq bytes (answer_spelling Accepted)) where
  by_test : (b : Bool) → AsksNothing (cond b (Some Framing) None)
  by_test true = tt
  by_test false = tt
past_asks bytes (Some Framing) = tt

none_asked : {A : Type 0} (due : Option Due) (end : ℕ) (peer : Address) → AsksNothing due → due ≡ Some (Asking end peer) → A
none_asked due end peer a e = let no : AsksNothing (Some (Asking end peer)) = subst AsksNothing e a in absurd no

-- towards the opener
pub answered_with : (own : ℕ → Address) (reader : Option Reader) (over : Bool) (unread bytes : List ℕ) (due : Option Due) → IsDue own due bytes → ToOpener reader over unread due → ToOpener reader over (unread ++ bytes) (due_past bytes due)
answered_with own reader over unread bytes due d t = record { answers = past_asks bytes due; flows = flows_with own reader over unread bytes due d (λ end peer e. none_asked due end peer t.answers e) t.flows }

-- it is over there
pub answered_over : (reader : Option Reader) (unread : List ℕ) (due : Option Due) → AsksNothing due → ToOpener reader true unread due
answered_over reader unread due a = record { answers = a; flows = over_flows reader unread due }

-- towards the target
pub asked_with : (own : ℕ → Address) (known : Names) (name : SockName) (reader : Option Reader) (over : Bool) (unread bytes : List ℕ) (due : Option Due) → IsDue own due bytes → ToTarget own known name reader over unread due → ToTarget own known name reader over (unread ++ bytes) (due_past bytes due)
asked_with own known name reader over unread bytes due d t = record {
  asker = t.asker;
  asked = t.asked;
  from = t.from;
  to = t.to;
  asks = λ end peer e. none_asked (due_past bytes due) end peer (past_asks bytes due) e;
  flows = λ r. flows_with own reader over unread bytes due d (λ end peer e. subst (λ (a : Address). IsRequest (record { target = a.id; from = own end })) (sym (t.asks end peer e).1) (subst (λ (k : ℕ). IsRequest (record { target = t.asked.id; from = own k })) (sym (t.asks end peer e).0) r)) (t.flows r);
}

-- what is due changes where nothing is asked from then on
pub asked_as : (own : ℕ → Address) (known : Names) (name : SockName) (one two : Option Reader) (before after : Bool) (unread now : List ℕ) (due next : Option Due) → AsksNothing next → (Flows one before unread due → Flows two after now next) → ToTarget own known name one before unread due → ToTarget own known name two after now next
asked_as own known name one two before after unread now due next a f t = record {
  asker = t.asker;
  asked = t.asked;
  from = t.from;
  to = t.to;
  asks = λ end peer e. none_asked next end peer a e;
  flows = λ r. f (t.flows r);
}

-- what is unread or read changes
pub asked_still : (own : ℕ → Address) (known : Names) (name : SockName) (one two : Option Reader) (before after : Bool) (unread now : List ℕ) (due : Option Due) → (Flows one before unread due → Flows two after now due) → ToTarget own known name one before unread due → ToTarget own known name two after now due
asked_still own known name one two before after unread now due f t = record {
  asker = t.asker;
  asked = t.asked;
  from = t.from;
  to = t.to;
  asks = t.asks;
  flows = λ r. f (t.flows r);
}
