-- Which processes of a mail act no more, after each call of the mail.
use Rattle.std.proofs.Common.{◌≡◌, ℕ, zero, suc, Bool, true, false, cond, not, List, [], ◌∷◌, ◌++◌, map, length, Ok, Err, refl, sym, ap, ◌∙◌}
use Rattle.std.specs.Prelude.{Result, Option, Some, None, nat_lt, slice_get, slice_set}
use Rattle.ch_base.specs.declared.memory.Stop.{Stop}
use Rattle.ch_base.specs.declared.memory.Stop.TheVariants as stops
use Rattle.ch_ident.specs.declared.message.Message.{Message}
use Rattle.ch_ident.specs.declared.reason.Reason.{Reason}
use Rattle.ch_ident.specs.declared.reason.Reason.TheVariants as reasons
use Rattle.ch_mail.specs.declared.error.MailError.{MailError}
use Rattle.ch_mail.specs.declared.error.MailError.TheVariants as mails
use Rattle.ch_mail.specs.declared.life.Life.{Life}
use Rattle.ch_mail.specs.declared.life.Life.TheVariants as lives
use Rattle.ch_mail.specs.Lives.{is_live, is_over}
use Rattle.ch_mail.specs.Process.{Process}
use Rattle.ch_mail.specs.Queue.{first_of, first_of_mark}
use Rattle.ch_mail.specs.Mail.{◌>>=◌, there_or, newborn, waiting_in, appended, given_to, taken_from, taken_from_port, opened_by, ended, downed, doomed, doom_at, doom_of, make_of, end_of, put_of, take_of, take_port_of, open_port_of, last_u64, last_u32}
use Rattle.ch_laws_lives.specs.Rolls.{over_at}
use Rattle.ch_laws_acting.specs.Rolls.{rests_of}

-- ---- one process in its place

-- who acts stays one who acts, and who doesn't one who doesn't
set_same : (all : List Process) (n : ℕ) (old new : Process) → slice_get all n ≡ Some old → is_live new.life ≡ is_live old.life → rests_of (slice_set all n new) ≡ rests_of all
set_same [] n old new e o = refl
set_same (x ∷ xs) zero old new e o = let is : x ≡ old = cc in ap (λ (b : Bool). not b ∷ rests_of xs) (o ∙ ap (λ (p : Process). is_live p.life) (sym is))
set_same (x ∷ xs) (suc n) old new e o = ap (λ (l : List Bool). not (is_live x.life) ∷ l) (set_same xs n old new e o)

set_rest : (all : List Process) (n : ℕ) (new : Process) → is_live new.life ≡ false → rests_of (slice_set all n new) ≡ over_at n (rests_of all)
set_rest [] n new o = refl
set_rest (x ∷ xs) zero new o = ap (λ (b : Bool). not b ∷ rests_of xs) o
set_rest (x ∷ xs) (suc n) new o = ap (λ (l : List Bool). not (is_live x.life) ∷ l) (set_rest xs n new o)

-- who doesn't act already, or isn't there, changes nothing by ending
rests_already : (all : List Process) (n : ℕ) (old : Process) → slice_get all n ≡ Some old → is_live old.life ≡ false → rests_of all ≡ over_at n (rests_of all)
rests_already [] n old e o = refl
rests_already (x ∷ xs) zero old e o = let is : x ≡ old = cc in ap (λ (b : Bool). not b ∷ rests_of xs) (ap (λ (p : Process). is_live p.life) is ∙ o)
rests_already (x ∷ xs) (suc n) old e o = ap (λ (l : List Bool). not (is_live x.life) ∷ l) (rests_already xs n old e o)

not_there : (all : List Process) (n : ℕ) → slice_get all n ≡ None → rests_of all ≡ over_at n (rests_of all)
not_there [] n e = refl
not_there (x ∷ xs) zero e = absurd cc
not_there (x ∷ xs) (suc n) e = ap (λ (l : List Bool). not (is_live x.life) ∷ l) (not_there xs n e)

over_not_live : (life : Life) → is_over life ≡ true → is_live life ≡ false
over_not_live lives.Live e = absurd cc
over_not_live (lives.Doomed text) e = refl
over_not_live (lives.Over reason) e = refl

-- ---- what leaves them as they were

-- the same processes act
abbrev pub Still : List Process → List Process → Type 0
Still before after = rests_of after ≡ rests_of before

still : (all : List Process) (n : ℕ) (old new : Process) → slice_get all n ≡ Some old → new.life ≡ old.life → Still all (slice_set all n new)
still all n old new e l = set_same all n old new e (ap is_live l)

abbrev pub Keeps : List Process → Result (List Process) MailError → Type 0
Keeps before (Ok after) = Still before after
Keeps before (Err e) = Unit {0}

abbrev pub KeepsBeside : {A : Type 0} → List Process → Result (A × List Process) MailError → Type 0
KeepsBeside before (Ok after) = Still before after.1
KeepsBeside before (Err e) = Unit {0}

-- the mail with a process in its place, beside what else was given
abbrev set_at : {A : Type 0} → List Process → ℕ → A × Process → Result (A × List Process) MailError
set_at all n given = Ok (given.0, slice_set all n given.1)

-- what is left of a process from whose mailbox, or port, a message was taken, or that has one port more
abbrev took : Process → Message × List Message → Result (Message × Process) MailError
took old taken = Ok (taken.0, record old { mailbox = taken.1 })

abbrev took_from : Process → ℕ → Message × List Message → Result (Message × Process) MailError
took_from old port taken = Ok (taken.0, record old { ports = slice_set old.ports port taken.1 })

abbrev with_port : Process → Result (ℕ × Process) MailError
with_port old = Ok (length old.ports, record old { ports = old.ports ++ [] ∷ [] })

abbrev doomed_where : Process → List ℕ → Bool → Bool × Process
doomed_where old text b = cond b (true, record old { life = lives.Doomed text }) (false, old)

pub put_keeps : (all : List Process) (n : ℕ) (port : Option ℕ) (said : Message) → Keeps all (put_of all n port said)
unfolding put_of given_to appended
put_keeps all n port said = by_get (slice_get all n) refl where
  by_room : (old given : Process) (room : Bool) → slice_get all n ≡ Some old → given.life ≡ old.life → Keeps all (cond room (Ok given) (Err mails.Worn) >>= (λ given. Ok (slice_set all n given)))
  by_room old given true e l = still all n old given e l
  by_room old given false e l = tt

  by_port : (old : Process) (i : ℕ) (messages : Option (List Message)) → slice_get all n ≡ Some old
      → Keeps all (there_or mails.NotLive messages >>= (λ messages. Ok (record old { ports = slice_set old.ports i (messages ++ said ∷ []) })) >>= (λ given. cond (nat_lt (waiting_in old) last_u64) (Ok given) (Err mails.Worn)) >>= (λ given. Ok (slice_set all n given)))
  by_port old i None e = tt
  by_port old i (Some messages) e = by_room old (record old { ports = slice_set old.ports i (messages ++ said ∷ []) }) (nat_lt (waiting_in old) last_u64) e refl

  by_place : (old : Process) (port : Option ℕ) → slice_get all n ≡ Some old
      → Keeps all (appended old port said >>= (λ given. cond (nat_lt (waiting_in old) last_u64) (Ok given) (Err mails.Worn)) >>= (λ given. Ok (slice_set all n given)))
  by_place old None e = by_room old (record old { mailbox = old.mailbox ++ said ∷ [] }) (nat_lt (waiting_in old) last_u64) e refl
  by_place old (Some i) e = by_port old i (slice_get old.ports i) e

  by_over : (old : Process) (b : Bool) → slice_get all n ≡ Some old → is_over old.life ≡ b
      → Keeps all (cond b (Err mails.NotLive) (appended old port said >>= (λ given. cond (nat_lt (waiting_in old) last_u64) (Ok given) (Err mails.Worn))) >>= (λ given. Ok (slice_set all n given)))
  by_over old true e o = tt
  by_over old false e o = by_place old port e

  by_get : (o : Option Process) → slice_get all n ≡ o → Keeps all (there_or mails.NotLive o >>= (λ process. given_to process port said >>= (λ given. Ok (slice_set all n given))))
  by_get None e = tt
  by_get (Some old) e = by_over old (is_over old.life) e refl

pub take_keeps : (all : List Process) (n : ℕ) (mark : List ℕ) → KeepsBeside all (take_of all n mark)
unfolding take_of taken_from
take_keeps all n mark = by_get (slice_get all n) refl where
  by_first : (old : Process) (o : Option (Message × List Message)) → slice_get all n ≡ Some old
      → KeepsBeside all (there_or mails.Empty o >>= took old >>= set_at all n)
  by_first old None e = tt
  by_first old (Some taken) e = still all n old (record old { mailbox = taken.1 }) e refl

  by_live : (old : Process) (b : Bool) → slice_get all n ≡ Some old → is_live old.life ≡ b
      → KeepsBeside all (cond b (there_or mails.Empty (first_of_mark mark old.mailbox) >>= took old) (Err mails.NotLive) >>= set_at all n)
  by_live old true e l = by_first old (first_of_mark mark old.mailbox) e
  by_live old false e l = tt

  by_get : (o : Option Process) → slice_get all n ≡ o → KeepsBeside all (there_or mails.NotLive o >>= (λ process. taken_from process mark >>= set_at all n))
  by_get None e = tt
  by_get (Some old) e = by_live old (is_live old.life) e refl

pub take_port_keeps : (all : List Process) (n port : ℕ) → KeepsBeside all (take_port_of all n port)
unfolding take_port_of taken_from_port
take_port_keeps all n port = by_get (slice_get all n) refl where
  by_first : (old : Process) (o : Option (Message × List Message)) → slice_get all n ≡ Some old
      → KeepsBeside all (there_or mails.Empty o >>= took_from old port >>= set_at all n)
  by_first old None e = tt
  by_first old (Some taken) e = still all n old (record old { ports = slice_set old.ports port taken.1 }) e refl

  by_port : (old : Process) (o : Option (List Message)) → slice_get all n ≡ Some old
      → KeepsBeside all (there_or mails.Empty o >>= (λ messages. there_or mails.Empty (first_of messages) >>= took_from old port) >>= set_at all n)
  by_port old None e = tt
  by_port old (Some messages) e = by_first old (first_of messages) e

  by_live : (old : Process) (b : Bool) → slice_get all n ≡ Some old → is_live old.life ≡ b
      → KeepsBeside all (cond b (there_or mails.Empty (slice_get old.ports port) >>= (λ messages. there_or mails.Empty (first_of messages) >>= took_from old port)) (Err mails.NotLive) >>= set_at all n)
  by_live old true e l = by_port old (slice_get old.ports port) e
  by_live old false e l = tt

  by_get : (o : Option Process) → slice_get all n ≡ o → KeepsBeside all (there_or mails.NotLive o >>= (λ process. taken_from_port process port >>= set_at all n))
  by_get None e = tt
  by_get (Some old) e = by_live old (is_live old.life) e refl

pub open_keeps : (all : List Process) (n : ℕ) → KeepsBeside all (open_port_of all n)
unfolding open_port_of opened_by
open_keeps all n = by_get (slice_get all n) refl where
  by_room : (old : Process) (b : Bool) → slice_get all n ≡ Some old
      → KeepsBeside all (cond b (with_port old) (Err mails.Worn) >>= set_at all n)
  by_room old true e = still all n old (record old { ports = old.ports ++ [] ∷ [] }) e refl
  by_room old false e = tt

  by_live : (old : Process) (b : Bool) → slice_get all n ≡ Some old → is_live old.life ≡ b
      → KeepsBeside all (cond b (cond (nat_lt (length old.ports) last_u32) (with_port old) (Err mails.Worn)) (Err mails.NotLive) >>= set_at all n)
  by_live old true e l = by_room old (nat_lt (length old.ports) last_u32) e
  by_live old false e l = tt

  by_get : (o : Option Process) → slice_get all n ≡ o → KeepsBeside all (there_or mails.NotLive o >>= (λ process. opened_by process >>= set_at all n))
  by_get None e = tt
  by_get (Some old) e = by_live old (is_live old.life) e refl

-- ---- doom

-- who is doomed acts no more; else nothing changes
abbrev pub DoomRests : List Process → ℕ → Bool × List Process → Type 0
DoomRests before n done = rests_of done.1 ≡ cond done.0 (over_at n (rests_of before)) (rests_of before)

pub doom_rests : (all : List Process) (n : ℕ) (text : List ℕ) → DoomRests all n (doom_of all n text)
unfolding doom_of doomed
doom_rests all n text = by_get (slice_get all n) refl where
  by_live : (old : Process) (b : Bool) → slice_get all n ≡ Some old → DoomRests all n ((doomed_where old text b).0, slice_set all n (doomed_where old text b).1)
  by_live old true e = set_rest all n (record old { life = lives.Doomed text }) refl
  by_live old false e = set_same all n old old e refl

  by_get : (o : Option Process) → slice_get all n ≡ o → DoomRests all n (doom_at all n text o)
  by_get None e = refl
  by_get (Some old) e = by_live old (is_live old.life) e

-- ---- making and ends

made_rests : (all : List Process) → rests_of (all ++ newborn ∷ []) ≡ rests_of all ++ false ∷ []
unfolding newborn
made_rests [] = refl
made_rests (x ∷ xs) = ap (λ (l : List Bool). not (is_live x.life) ∷ l) (made_rests xs)

-- one process more
abbrev pub MakesOne : List Process → Result (ℕ × List Process) Stop → Type 0
MakesOne before (Ok made) = rests_of made.1 ≡ rests_of before ++ false ∷ []
MakesOne before (Err stop) = Unit {0}

pub makes_one : (all : List Process) → MakesOne all (make_of all)
unfolding make_of
makes_one all = by_room (nat_lt (length all) last_u32) where
  by_room : (b : Bool) → MakesOne all (cond b (Ok (length all, all ++ newborn ∷ [])) (Err stops.Worn))
  by_room true = made_rests all
  by_room false = tt

-- who ends acts no more, also where it was over or isn't there
abbrev pub EndsOne : List Process → ℕ → Result (List Process) MailError → Type 0
EndsOne before n (Ok after) = rests_of after ≡ over_at n (rests_of before)
EndsOne before n (Err e) = rests_of before ≡ over_at n (rests_of before)

pub ends_one : (all : List Process) (n : ℕ) (reason : Reason) → EndsOne all n (end_of all n reason)
unfolding end_of ended
ends_one all n reason = by_get (slice_get all n) refl where
  by_over : (old : Process) (b : Bool) → slice_get all n ≡ Some old → is_over old.life ≡ b → EndsOne all n (cond b (Err mails.NotLive) (Ok (record old { life = lives.Over reason })) >>= (λ over. Ok (slice_set all n over)))
  by_over old true e o = rests_already all n old e (over_not_live old.life o)
  by_over old false e o = set_rest all n (record old { life = lives.Over reason }) refl

  by_get : (o : Option Process) → slice_get all n ≡ o → EndsOne all n (there_or mails.NotLive o >>= (λ process. ended process reason >>= (λ over. Ok (slice_set all n over))))
  by_get None e = not_there all n e
  by_get (Some old) e = by_over old (is_over old.life) e refl

pub all_down : (all : List Process) → rests_of (map downed all) ≡ map (λ rest. true) (rests_of all)
all_down [] = refl
all_down (x ∷ xs) = by_over (is_over x.life) refl (all_down xs) where
  by_over : (b : Bool) → is_over x.life ≡ b → rests_of (map downed xs) ≡ map (λ rest. true) (rests_of xs) → not (is_live (cond b x (record x { life = lives.Over reasons.NodeDown })).life) ∷ rests_of (map downed xs) ≡ true ∷ map (λ rest. true) (rests_of xs)
  by_over true e more = ap (λ (b : Bool). not b ∷ rests_of (map downed xs)) (over_not_live x.life e) ∙ ap (λ (l : List Bool). true ∷ l) more
  by_over false e more = ap (λ (l : List Bool). true ∷ l) more
