-- What each call of a mail makes of what waits in its mailboxes.
use Rattle.std.proofs.Common.{◌≡◌, ◌≤◌, ℕ, Bool, true, false, cond, List, [], ◌∷◌, ◌++◌, length, Ok, Err, refl, sym, ap, ◌∙◌, subst, arith, ◌==◌}
use Rattle.std.proofs.lemmas.Option.{slice_get_past}
use Rattle.std.specs.Prelude.{nat_lt, slice_get, slice_set, Result, Option, Some, None}
use Rattle.std.specs.Str.{bytes_eq}
use Rattle.ch_ident.specs.declared.message.Message.{Message}
use Rattle.ch_ident.specs.declared.reason.Reason.{Reason}
use Rattle.ch_mail.specs.declared.error.MailError.{MailError}
use Rattle.ch_mail.specs.declared.error.MailError.TheVariants as mails
use Rattle.ch_mail.specs.declared.life.Life.TheVariants as lives
use Rattle.ch_mail.specs.Lives.{is_live, is_over}
use Rattle.ch_mail.specs.Mail.{◌>>=◌, there_or, newborn, waiting_in, appended, given_to, taken_from, ended, end_of, put_of, take_of, last_u64}
use Rattle.ch_mail.specs.Process.{Process}
use Rattle.ch_mail.specs.Queue.{first_that, first_of_mark}
use Rattle.ch_laws_ends.proofs.Places.{got_same, got_other}
use Rattle.ch_laws_lives.proofs.Mails.{live_not_over}
use Rattle.ch_laws_log.proofs.Stored.{number_is, number_same}
use Rattle.ch_laws_one_node.proofs.Appending.{IsTaken, HasTaken, has_taken, place_more}
use Rattle.ch_laws_messages.specs.MailMail.{waiting_for, is_gone}

-- the process of this number, which isn't over, has these messages after the call, and all others stand
pub record Changes (mail after : List Process) (n : ℕ) (messages : List Message) : Type 0 where
  pub there : is_gone (slice_get mail n) ≡ false
  pub now : waiting_for (slice_get after n) ≡ messages
  pub others : (k : ℕ) → (n == k) ≡ false → slice_get after k ≡ slice_get mail k

-- who isn't over after the call wasn't before, and the same waits for it
abbrev pub Keeps : List Process → List Process → Type 0
Keeps mail after = (k : ℕ) → is_gone (slice_get after k) ≡ false → (is_gone (slice_get mail k) ≡ false) × (waiting_for (slice_get after k) ≡ waiting_for (slice_get mail k))

pub keeps_same : (mail after : List Process) → after ≡ mail → Keeps mail after
keeps_same mail after e k alive = (ap (λ (l : List Process). is_gone (slice_get l k)) (sym e) ∙ alive, ap (λ (l : List Process). waiting_for (slice_get l k)) e)

set_changes : (mail : List Process) (n : ℕ) (old new : Process) → slice_get mail n ≡ Some old → is_over old.life ≡ false → Changes mail (slice_set mail n new) n new.mailbox
set_changes mail n old new at alive = record {
  there = ap is_gone at ∙ alive;
  now = ap waiting_for (got_same mail n old new at);
  others = λ k d. got_other mail n k new (apart k d);
} where
  apart : (k : ℕ) → (n == k) ≡ false → n ≡ k → ⊥
  apart k d is = let same : (n == k) ≡ true = subst (λ (m : ℕ). (n == m) ≡ true) is (number_same n) in let clash : true ≡ false = sym same ∙ d in absurd cc

-- ---- a message is put

abbrev pub AllPut : List Process → ℕ → Message → Result (List Process) MailError → Type 0
AllPut mail n said (Ok after) = Changes mail after n (waiting_for (slice_get mail n) ++ said ∷ [])
AllPut mail n said (Err e) = Unit {0}

pub put_changes : (mail : List Process) (n : ℕ) (said : Message) → AllPut mail n said (put_of mail n None said)
unfolding put_of given_to appended
put_changes mail n said = by_get (slice_get mail n) refl where
  by_room : (old : Process) (room : Bool) → slice_get mail n ≡ Some old → is_over old.life ≡ false → AllPut mail n said (cond room (Ok (record old { mailbox = old.mailbox ++ said ∷ [] })) (Err mails.Worn) >>= (λ given. Ok (slice_set mail n given)))
  by_room old false e o = tt
  by_room old true e o = subst (λ (x : Option Process). Changes mail (slice_set mail n (record old { mailbox = old.mailbox ++ said ∷ [] })) n (waiting_for x ++ said ∷ [])) (sym e) (set_changes mail n old (record old { mailbox = old.mailbox ++ said ∷ [] }) e o)

  by_over : (old : Process) (b : Bool) → slice_get mail n ≡ Some old → is_over old.life ≡ b
      → AllPut mail n said (cond b (Err mails.NotLive) (appended old None said >>= (λ given. cond (nat_lt (waiting_in old) last_u64) (Ok given) (Err mails.Worn))) >>= (λ given. Ok (slice_set mail n given)))
  by_over old true e o = tt
  by_over old false e o = by_room old (nat_lt (waiting_in old) last_u64) e o

  by_get : (o : Option Process) → slice_get mail n ≡ o → AllPut mail n said (there_or mails.NotLive o >>= (λ process. given_to process None said >>= (λ given. Ok (slice_set mail n given))))
  by_get None e = tt
  by_get (Some old) e = by_over old (is_over old.life) e refl

-- ---- a message is taken

-- the first of the mark is taken, and the rest is left
abbrev pub TakesFirst : List Process → ℕ → List ℕ → Message → List Process → Type 0
TakesFirst mail n mark said after = (rest : List Message) × Changes mail after n rest × IsTaken mark (waiting_for (slice_get mail n)) said rest

abbrev pub AllTaken : List Process → ℕ → List ℕ → Result (Message × List Process) MailError → Type 0
AllTaken mail n mark (Ok taken) = TakesFirst mail n mark taken.0 taken.1
AllTaken mail n mark (Err e) = Unit {0}

-- what is left of a process from whose mailbox a message was taken, and the mail with it in its place
abbrev took : Process → Message × List Message → Result (Message × Process) MailError
took old taken = Ok (taken.0, record old { mailbox = taken.1 })

abbrev set_at : List Process → ℕ → Message × Process → Result (Message × List Process) MailError
set_at mail n taken = Ok (taken.0, slice_set mail n taken.1)

pub take_changes : (mail : List Process) (n : ℕ) (mark : List ℕ) → AllTaken mail n mark (take_of mail n mark)
unfolding take_of taken_from first_of_mark
take_changes mail n mark = by_get (slice_get mail n) refl where
  by_first : (old : Process) (o : Option (Message × List Message)) → slice_get mail n ≡ Some old → is_over old.life ≡ false → HasTaken mark old.mailbox o
      → AllTaken mail n mark (there_or mails.Empty o >>= took old >>= set_at mail n)
  by_first old None e l h = tt
  by_first old (Some taken) e l h = (taken.1, set_changes mail n old (record old { mailbox = taken.1 }) e l, subst (λ (x : Option Process). IsTaken mark (waiting_for x) taken.0 taken.1) (sym e) h)

  by_live : (old : Process) (b : Bool) → slice_get mail n ≡ Some old → is_live old.life ≡ b
      → AllTaken mail n mark (cond b (there_or mails.Empty (first_of_mark mark old.mailbox) >>= took old) (Err mails.NotLive) >>= set_at mail n)
  by_live old true e l = by_first old (first_that (λ message. bytes_eq message.mark mark) old.mailbox) e (live_not_over old.life l) (has_taken mark old.mailbox)
  by_live old false e l = tt

  by_get : (o : Option Process) → slice_get mail n ≡ o → AllTaken mail n mark (there_or mails.NotLive o >>= (λ process. taken_from process mark >>= set_at mail n))
  by_get None e = tt
  by_get (Some old) e = by_live old (is_live old.life) e refl

-- ---- a process is over

abbrev pub AllKept : List Process → Result (List Process) MailError → Type 0
AllKept mail (Ok after) = Keeps mail after
AllKept mail (Err e) = Unit {0}

pub end_keeps : (mail : List Process) (n : ℕ) (reason : Reason) → AllKept mail (end_of mail n reason)
unfolding end_of ended
end_keeps mail n reason = by_get (slice_get mail n) refl where
  by_place : (old : Process) → slice_get mail n ≡ Some old → Keeps mail (slice_set mail n (record old { life = lives.Over reason }))
  by_place old e k alive = by_same (n == k) refl where
    new : Process
    new = record old { life = lives.Over reason }

    by_same : (b : Bool) → (n == k) ≡ b → (is_gone (slice_get mail k) ≡ false) × (waiting_for (slice_get (slice_set mail n (record old { life = lives.Over reason })) k) ≡ waiting_for (slice_get mail k))
    by_same true h =
        let there : slice_get (slice_set mail n new) k ≡ Some new = subst (λ (m : ℕ). slice_get (slice_set mail n new) m ≡ Some new) (number_is n k h) (got_same mail n old new e) in
        let clash : true ≡ false = sym (ap is_gone there) ∙ alive in absurd cc
    by_same false h = let same : slice_get (slice_set mail n new) k ≡ slice_get mail k = got_other mail n k new apart in (ap is_gone (sym same) ∙ alive, ap waiting_for same) where
      apart : n ≡ k → ⊥
      apart is = let same : (n == k) ≡ true = subst (λ (m : ℕ). (n == m) ≡ true) is (number_same n) in let clash : true ≡ false = sym same ∙ h in absurd cc

  by_over : (old : Process) (b : Bool) → slice_get mail n ≡ Some old → AllKept mail (cond b (Err mails.NotLive) (Ok (record old { life = lives.Over reason })) >>= (λ over. Ok (slice_set mail n over)))
  by_over old true e = tt
  by_over old false e = by_place old e

  by_get : (o : Option Process) → slice_get mail n ≡ o → AllKept mail (there_or mails.NotLive o >>= (λ process. ended process reason >>= (λ over. Ok (slice_set mail n over))))
  by_get None e = tt
  by_get (Some old) e = by_over old (is_over old.life) e

-- ---- a process is made

pub make_keeps : (mail : List Process) → Keeps mail (mail ++ newborn ∷ [])
unfolding newborn
make_keeps mail k alive = by_last (k == length mail) refl where
  as_far : (i j : ℕ) → i ≡ j → j ≤ i
  as_far i j e = omega arith

  by_last : (b : Bool) → (k == length mail) ≡ b → (is_gone (slice_get mail k) ≡ false) × (waiting_for (slice_get (mail ++ newborn ∷ []) k) ≡ waiting_for (slice_get mail k))
  by_last true h =
      let none : slice_get mail k ≡ None = slice_get_past mail k (as_far k (length mail) (number_is k (length mail) h)) in
      (ap is_gone none, ap waiting_for (place_more mail newborn k ∙ ap (λ b. cond b (Some newborn) (slice_get mail k)) h) ∙ sym (ap waiting_for none))
  by_last false h =
      let same : slice_get (mail ++ newborn ∷ []) k ≡ slice_get mail k = place_more mail newborn k ∙ ap (λ b. cond b (Some newborn) (slice_get mail k)) h in
      (ap is_gone (sym same) ∙ alive, ap waiting_for same)
