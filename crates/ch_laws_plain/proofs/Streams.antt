-- Plain streams, one behind another.
use Rattle.std.proofs.Common.{◌≡◌, ℕ, List, [], ◌∷◌, ◌++◌, refl, sym, ◌∙◌, subst}
use Rattle.std.specs.Prelude.{Option, Some, None}
use Rattle.ch_wire.specs.declared.frame.Frame.{Frame}
use Rattle.ch_wire.specs.declared.frame.Frame.TheVariants as frames
use Rattle.ch_laws_plain_nodes.specs.Plain.{IsPlainOpening}
use Rattle.ch_laws_plain.specs.Streams.{PlainStep, PlainOn, IsPlainStream}

-- one stream behind another
pub plain_append : (xs ys : List Frame) (before mid after : Option ℕ) → PlainOn before xs mid → PlainOn mid ys after → PlainOn before (xs ++ ys) after
plain_append [] ys before mid after p q = subst (λ (o : Option ℕ). PlainOn o ys after) (sym p) q
plain_append (x ∷ xs) ys before mid after p q = (p.0, p.1, plain_append xs ys p.0 mid after p.2 q)

pub plain_behind : (xs ys : List Frame) → IsPlainStream xs → IsPlainStream ys → IsPlainStream (xs ++ ys)
plain_behind xs ys p q = plain_append xs ys None None None p q

-- where the first ends the other begins
pub plain_split : (xs ys : List Frame) (before after : Option ℕ) → PlainOn before (xs ++ ys) after → (mid : Option ℕ) × PlainOn before xs mid × PlainOn mid ys after
plain_split [] ys before after p = (before, refl, p)
plain_split (x ∷ xs) ys before after p = let more = plain_split xs ys p.0 after p.2 in (more.0, (p.0, p.1, more.1), more.2)

-- a frame leads to one id at most
pub step_once : (before : Option ℕ) (frame : Frame) (one two : Option ℕ) → PlainStep before frame one → PlainStep before frame two → one ≡ two
step_once None (frames.Created id) one two p q = p ∙ sym q
step_once None (frames.Closed id) one two p q = p ∙ sym q
step_once None (frames.Data id payload) one two p q = p ∙ sym q
step_once None frames.EndClosed one two p q = p ∙ sym q
step_once None frames.Probe one two p q = p ∙ sym q
step_once None frames.ProbeAck one two p q = p ∙ sym q
step_once (Some id) (frames.Data on payload) one two p q = p.2 ∙ sym q.2
step_once (Some id) (frames.Created on) one two p q = absurd p
step_once (Some id) (frames.Closed on) one two p q = absurd p
step_once (Some id) frames.EndClosed one two p q = absurd p
step_once (Some id) frames.Probe one two p q = absurd p
step_once (Some id) frames.ProbeAck one two p q = absurd p

-- and so do frames
pub plain_once : (xs : List Frame) (before one two : Option ℕ) → PlainOn before xs one → PlainOn before xs two → one ≡ two
plain_once [] before one two p q = sym p ∙ q
plain_once (x ∷ xs) before one two p q = plain_once xs p.0 one two p.2 (subst (λ (o : Option ℕ). PlainOn o xs two) (step_once before x q.0 p.0 q.1 p.1) q.2)

-- a connection is created and opened, and a message goes on it
pub opening_plain : (id on : ℕ) (first payload : List ℕ) → IsPlainOpening first → IsPlainStream (frames.Created id ∷ frames.Data id first ∷ frames.Data on payload ∷ [])
opening_plain id on first payload o = (Some id, refl, (None, (refl, o, refl), (None, refl, refl)))

pub opened_plain : (id : ℕ) (first : List ℕ) → IsPlainOpening first → IsPlainStream (frames.Created id ∷ frames.Data id first ∷ [])
opened_plain id first o = (Some id, refl, (None, (refl, o, refl), refl))

-- any other frame alone is a plain stream
pub data_plain : (id : ℕ) (payload : List ℕ) → IsPlainStream (frames.Data id payload ∷ [])
data_plain id payload = (None, refl, refl)

pub closing_plain : (id : ℕ) → IsPlainStream (frames.Closed id ∷ [])
closing_plain id = (None, refl, refl)

pub probe_plain : IsPlainStream (frames.Probe ∷ [])
probe_plain = (None, refl, refl)

pub ack_plain : IsPlainStream (frames.ProbeAck ∷ [])
ack_plain = (None, refl, refl)
