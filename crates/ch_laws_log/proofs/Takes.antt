-- What is taken of a mark has that mark.
use Rattle.std.proofs.Common.{◌≡◌, ℕ, Bool, true, false, cond, List, [], ◌∷◌, Ok, Err, refl}
use Rattle.std.specs.Prelude.{Result, Option, Some, None, slice_get, slice_set}
use Rattle.std.specs.Str.{bytes_eq}
use Rattle.ch_ident.specs.declared.message.Message.{Message}
use Rattle.ch_mail.specs.declared.error.MailError.{MailError}
use Rattle.ch_mail.specs.declared.error.MailError.TheVariants as mails
use Rattle.ch_mail.specs.Lives.{is_live}
use Rattle.ch_mail.specs.Process.{Process}
use Rattle.ch_mail.specs.Queue.{after_passing, first_that, first_of_mark}
use Rattle.ch_mail.specs.Mail.{◌>>=◌, there_or, taken_from, take_of}

-- the message that was taken has the mark
abbrev pub TakenMarked : {A E : Type 0} → List ℕ → Result (Message × A) E → Type 0
TakenMarked mark (Ok taken) = bytes_eq taken.0.mark mark ≡ true
TakenMarked mark (Err e) = Unit {0}

abbrev FirstMarked : List ℕ → Option (Message × List Message) → Type 0
FirstMarked mark None = Unit {0}
FirstMarked mark (Some taken) = bytes_eq taken.0.mark mark ≡ true

passed : (mark : List ℕ) (m : Message) (o : Option (Message × List Message)) → FirstMarked mark o → FirstMarked mark (after_passing m o)
passed mark m None f = tt
passed mark m (Some taken) f = f

first_marked : (mark : List ℕ) (messages : List Message) → FirstMarked mark (first_that (λ (m : Message). bytes_eq m.mark mark) messages)
first_marked mark [] = tt
first_marked mark (m ∷ rest) = by_test (bytes_eq m.mark mark) refl (first_marked mark rest) where
  by_test : (b : Bool) → bytes_eq m.mark mark ≡ b → FirstMarked mark (first_that (λ (n : Message). bytes_eq n.mark mark) rest) → FirstMarked mark (cond b (Some (m, rest)) (after_passing m (first_that (λ (n : Message). bytes_eq n.mark mark) rest)))
  by_test true e more = e
  by_test false e more = passed mark m (first_that (λ (n : Message). bytes_eq n.mark mark) rest) more

from_process : (process : Process) (mark : List ℕ) → TakenMarked mark (taken_from process mark)
unfolding taken_from first_of_mark
from_process process mark = by_test (is_live process.life) where
  by_first : (o : Option (Message × List Message)) → FirstMarked mark o → TakenMarked mark (there_or mails.Empty o >>= (λ taken. Ok (taken.0, record process { mailbox = taken.1 })))
  by_first None f = tt
  by_first (Some taken) f = f

  by_test : (b : Bool) → TakenMarked mark (cond b (there_or mails.Empty (first_that (λ (n : Message). bytes_eq n.mark mark) process.mailbox) >>= (λ taken. Ok (taken.0, record process { mailbox = taken.1 }))) (Err mails.NotLive))
  by_test true = by_first (first_that (λ (n : Message). bytes_eq n.mark mark) process.mailbox) (first_marked mark process.mailbox)
  by_test false = tt

pub taken_marked : (mail : List Process) (number : ℕ) (mark : List ℕ) → TakenMarked mark (take_of mail number mark)
unfolding take_of
taken_marked mail number mark = by_process (slice_get mail number) where
  by_taken : (given : Result (Message × Process) MailError) → TakenMarked mark given → TakenMarked mark (given >>= (λ taken. Ok (taken.0, slice_set mail number taken.1)))
  by_taken (Ok taken) t = t
  by_taken (Err e) t = tt

  by_process : (o : Option Process) → TakenMarked mark (there_or mails.NotLive o >>= (λ process. taken_from process mark >>= (λ taken. Ok (taken.0, slice_set mail number taken.1))))
  by_process None = tt
  by_process (Some process) = by_taken (taken_from process mark) (from_process process mark)
