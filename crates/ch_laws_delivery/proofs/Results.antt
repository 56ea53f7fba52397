-- What went before a result that is a value.
use Rattle.std.specs.Prelude.{◌≡◌, Bool, true, false, Option, Some, None, Result, Ok, Err, if◌then◌else◌}
use Rattle.std.proofs.Common.{refl, ap}
use Rattle.ch_mail.specs.declared.error.MailError.{MailError}
use Rattle.ch_mail.specs.Mail as mails
use Rattle.ch_mail.specs.Mail.{there_or}
use Rattle.ch_model.specs.NodeActs as node
use Rattle.ch_model.specs.NodeActs.{mailed}
use Rattle.ch_model.specs.Refusals.{of_mail_error}

-- what went before a value, and what it led to
pub record Went {A B E : Type 0} (r : Result A E) (f : A → Result B E) (b : B) : Type 0 where
  pub value : A
  pub is : r ≡ Ok value
  pub next : f value ≡ Ok b

pub refused : {A E X : Type 0} (e : E) (b : A) → ◌≡◌ {A = Result A E} (Err e) (Ok b) → X
refused {A = A} {E = E} e b h = absurd (clash h) where
  clash : ◌≡◌ {A = Result A E} (Err e) (Ok b) → ⊥
  clash h = cc

pub given : {A E : Type 0} (x y : A) → ◌≡◌ {A = Result A E} (Ok x) (Ok y) → x ≡ y
given {A = A} {E = E} x y h = ap {A = Result A E} {B = A} (λ r. elim r [ Ok z ↦ z | Err e ↦ x ]) h

pub went_node : {A B E : Type 0} (r : Result A E) (f : A → Result B E) (b : B) → node.◌>>=◌ r f ≡ Ok b → Went r f b
went_node (Ok x) f b h = record { value = x; is = refl; next = h }
went_node (Err e) f b h = refused e b h

pub went_mail : {A B : Type 0} (r : Result A MailError) (f : A → Result B MailError) (b : B) → mails.◌>>=◌ r f ≡ Ok b → Went r f b
went_mail (Ok x) f b h = record { value = x; is = refl; next = h }
went_mail (Err e) f b h = refused e b h

pub was_mailed : {A : Type 0} (r : Result A MailError) (x : A) → mailed r ≡ Ok x → r ≡ Ok x
was_mailed (Ok y) x h = ap (λ (z : _). Ok z) (given y x h)
was_mailed (Err e) x h = refused (of_mail_error e) x h

pub there_is : {A : Type 0} (e : MailError) (o : Option A) (x : A) → there_or e o ≡ Ok x → o ≡ Some x
there_is e (Some y) x h = ap (λ (z : _). Some z) (given y x h)
there_is e None x h = refused e x h

pub if_is : {A : Type 0} (b : Bool) (r : Result A MailError) (e : MailError) (x : A) → (if b then r else Err e) ≡ Ok x → r ≡ Ok x
if_is true r e x h = h
if_is false r e x h = refused e x h
