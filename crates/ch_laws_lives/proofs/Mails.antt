-- Which processes of a mail are over, after each call of the mail.
use Rattle.std.proofs.Common.{◌≡◌, ℕ, zero, suc, Bool, true, false, cond, List, [], ◌∷◌, ◌++◌, map, length, Ok, Err, refl, sym, ap, ◌∙◌}
use Rattle.std.proofs.lemmas.List.{length-map}
use Rattle.std.proofs.lemmas.Option.{slice_get-map}
use Rattle.std.specs.Option.{option_map}
use Rattle.std.specs.Prelude.{Result, Option, Some, None, nat_lt, slice_get, slice_set}
use Rattle.ch_base.specs.declared.memory.Stop.{Stop}
use Rattle.ch_base.specs.declared.memory.Stop.TheVariants as stops
use Rattle.ch_ident.specs.declared.message.Message.{Message}
use Rattle.ch_ident.specs.declared.reason.Reason.{Reason}
use Rattle.ch_ident.specs.declared.reason.Reason.TheVariants as reasons
use Rattle.ch_mail.specs.declared.error.MailError.{MailError}
use Rattle.ch_mail.specs.declared.error.MailError.TheVariants as mails
use Rattle.ch_mail.specs.declared.life.Life.{Life}
use Rattle.ch_mail.specs.declared.life.Life.TheVariants as lives
use Rattle.ch_mail.specs.Lives.{is_live, is_over}
use Rattle.ch_mail.specs.Process.{Process}
use Rattle.ch_mail.specs.Queue.{first_of, first_of_mark}
use Rattle.ch_mail.specs.Mail.{◌>>=◌, there_or, newborn, waiting_in, appended, given_to, taken_from, taken_from_port, opened_by, ended, downed, doomed, doom_at, doom_of, make_of, end_of, put_of, take_of, take_port_of, open_port_of, last_u64, last_u32}
use Rattle.ch_laws_lives.specs.Rolls.{ends_of, over_at}

-- ---- one process in its place

pub there : (all : List Process) (n : ℕ) (process : Process) → slice_get all n ≡ Some process → is_over process.life ≡ false → slice_get (ends_of all) n ≡ Some false
there all n process e o = slice_get-map (λ (p : Process). is_over p.life) all n ∙ ap (option_map (λ (p : Process). is_over p.life)) e ∙ ap Some o

pub set_same : (all : List Process) (n : ℕ) (old new : Process) → slice_get all n ≡ Some old → is_over new.life ≡ is_over old.life → ends_of (slice_set all n new) ≡ ends_of all
set_same [] n old new e o = refl
set_same (x ∷ xs) zero old new e o = let is : x ≡ old = cc in ap (λ (b : Bool). b ∷ ends_of xs) (o ∙ ap (λ (p : Process). is_over p.life) (sym is))
set_same (x ∷ xs) (suc n) old new e o = ap (λ (l : List Bool). is_over x.life ∷ l) (set_same xs n old new e o)

pub set_over : (all : List Process) (n : ℕ) (new : Process) → is_over new.life ≡ true → ends_of (slice_set all n new) ≡ over_at n (ends_of all)
set_over [] n new o = refl
set_over (x ∷ xs) zero new o = ap (λ (b : Bool). b ∷ ends_of xs) o
set_over (x ∷ xs) (suc n) new o = ap (λ (l : List Bool). is_over x.life ∷ l) (set_over xs n new o)

pub live_not_over : (life : Life) → is_live life ≡ true → is_over life ≡ false
live_not_over lives.Live e = refl
live_not_over (lives.Doomed text) e = refl
live_not_over (lives.Over reason) e = absurd cc

-- ---- what leaves them as they were

-- the process of the number is there and isn't over, and all are over or not as before
abbrev pub Still : List Process → ℕ → List Process → Type 0
Still before n after = (ends_of after ≡ ends_of before) × (slice_get (ends_of before) n ≡ Some false)

still : (all : List Process) (n : ℕ) (old new : Process) → slice_get all n ≡ Some old → new.life ≡ old.life → is_over old.life ≡ false → Still all n (slice_set all n new)
still all n old new e l o = (set_same all n old new e (ap is_over l), there all n old e o)

abbrev pub Keeps : List Process → ℕ → Result (List Process) MailError → Type 0
Keeps before n (Ok after) = Still before n after
Keeps before n (Err e) = Unit {0}

abbrev pub KeepsBeside : {A : Type 0} → List Process → ℕ → Result (A × List Process) MailError → Type 0
KeepsBeside before n (Ok after) = Still before n after.1
KeepsBeside before n (Err e) = Unit {0}

-- the mail with a process in its place, beside what else was given
abbrev set_at : {A : Type 0} → List Process → ℕ → A × Process → Result (A × List Process) MailError
set_at all n given = Ok (given.0, slice_set all n given.1)

-- what is left of a process from whose mailbox, or port, a message was taken, or that has one port more
abbrev took : Process → Message × List Message → Result (Message × Process) MailError
took old taken = Ok (taken.0, record old { mailbox = taken.1 })

abbrev took_from : Process → ℕ → Message × List Message → Result (Message × Process) MailError
took_from old port taken = Ok (taken.0, record old { ports = slice_set old.ports port taken.1 })

abbrev with_port : Process → Result (ℕ × Process) MailError
with_port old = Ok (length old.ports, record old { ports = old.ports ++ [] ∷ [] })

abbrev doomed_where : Process → List ℕ → Bool → Bool × Process
doomed_where old text b = cond b (true, record old { life = lives.Doomed text }) (false, old)

pub put_keeps : (all : List Process) (n : ℕ) (port : Option ℕ) (said : Message) → Keeps all n (put_of all n port said)
unfolding put_of given_to appended
put_keeps all n port said = by_get (slice_get all n) refl where
  by_room : (old given : Process) (room : Bool) → slice_get all n ≡ Some old → given.life ≡ old.life → is_over old.life ≡ false → Keeps all n (cond room (Ok given) (Err mails.Worn) >>= (λ given. Ok (slice_set all n given)))
  by_room old given true e l o = still all n old given e l o
  by_room old given false e l o = tt

  by_port : (old : Process) (i : ℕ) (messages : Option (List Message)) → slice_get all n ≡ Some old → is_over old.life ≡ false
      → Keeps all n (there_or mails.NotLive messages >>= (λ messages. Ok (record old { ports = slice_set old.ports i (messages ++ said ∷ []) })) >>= (λ given. cond (nat_lt (waiting_in old) last_u64) (Ok given) (Err mails.Worn)) >>= (λ given. Ok (slice_set all n given)))
  by_port old i None e o = tt
  by_port old i (Some messages) e o = by_room old (record old { ports = slice_set old.ports i (messages ++ said ∷ []) }) (nat_lt (waiting_in old) last_u64) e refl o

  by_place : (old : Process) (port : Option ℕ) → slice_get all n ≡ Some old → is_over old.life ≡ false
      → Keeps all n (appended old port said >>= (λ given. cond (nat_lt (waiting_in old) last_u64) (Ok given) (Err mails.Worn)) >>= (λ given. Ok (slice_set all n given)))
  by_place old None e o = by_room old (record old { mailbox = old.mailbox ++ said ∷ [] }) (nat_lt (waiting_in old) last_u64) e refl o
  by_place old (Some i) e o = by_port old i (slice_get old.ports i) e o

  by_over : (old : Process) (b : Bool) → slice_get all n ≡ Some old → is_over old.life ≡ b
      → Keeps all n (cond b (Err mails.NotLive) (appended old port said >>= (λ given. cond (nat_lt (waiting_in old) last_u64) (Ok given) (Err mails.Worn))) >>= (λ given. Ok (slice_set all n given)))
  by_over old true e o = tt
  by_over old false e o = by_place old port e o

  by_get : (o : Option Process) → slice_get all n ≡ o → Keeps all n (there_or mails.NotLive o >>= (λ process. given_to process port said >>= (λ given. Ok (slice_set all n given))))
  by_get None e = tt
  by_get (Some old) e = by_over old (is_over old.life) e refl

pub take_keeps : (all : List Process) (n : ℕ) (mark : List ℕ) → KeepsBeside all n (take_of all n mark)
unfolding take_of taken_from
take_keeps all n mark = by_get (slice_get all n) refl where
  by_first : (old : Process) (o : Option (Message × List Message)) → slice_get all n ≡ Some old → is_over old.life ≡ false
      → KeepsBeside all n (there_or mails.Empty o >>= took old >>= set_at all n)
  by_first old None e l = tt
  by_first old (Some taken) e l = still all n old (record old { mailbox = taken.1 }) e refl l

  by_live : (old : Process) (b : Bool) → slice_get all n ≡ Some old → is_live old.life ≡ b
      → KeepsBeside all n (cond b (there_or mails.Empty (first_of_mark mark old.mailbox) >>= took old) (Err mails.NotLive) >>= set_at all n)
  by_live old true e l = by_first old (first_of_mark mark old.mailbox) e (live_not_over old.life l)
  by_live old false e l = tt

  by_get : (o : Option Process) → slice_get all n ≡ o → KeepsBeside all n (there_or mails.NotLive o >>= (λ process. taken_from process mark >>= set_at all n))
  by_get None e = tt
  by_get (Some old) e = by_live old (is_live old.life) e refl

pub take_port_keeps : (all : List Process) (n port : ℕ) → KeepsBeside all n (take_port_of all n port)
unfolding take_port_of taken_from_port
take_port_keeps all n port = by_get (slice_get all n) refl where
  by_first : (old : Process) (o : Option (Message × List Message)) → slice_get all n ≡ Some old → is_over old.life ≡ false
      → KeepsBeside all n (there_or mails.Empty o >>= took_from old port >>= set_at all n)
  by_first old None e l = tt
  by_first old (Some taken) e l = still all n old (record old { ports = slice_set old.ports port taken.1 }) e refl l

  by_port : (old : Process) (o : Option (List Message)) → slice_get all n ≡ Some old → is_over old.life ≡ false
      → KeepsBeside all n (there_or mails.Empty o >>= (λ messages. there_or mails.Empty (first_of messages) >>= took_from old port) >>= set_at all n)
  by_port old None e l = tt
  by_port old (Some messages) e l = by_first old (first_of messages) e l

  by_live : (old : Process) (b : Bool) → slice_get all n ≡ Some old → is_live old.life ≡ b
      → KeepsBeside all n (cond b (there_or mails.Empty (slice_get old.ports port) >>= (λ messages. there_or mails.Empty (first_of messages) >>= took_from old port)) (Err mails.NotLive) >>= set_at all n)
  by_live old true e l = by_port old (slice_get old.ports port) e (live_not_over old.life l)
  by_live old false e l = tt

  by_get : (o : Option Process) → slice_get all n ≡ o → KeepsBeside all n (there_or mails.NotLive o >>= (λ process. taken_from_port process port >>= set_at all n))
  by_get None e = tt
  by_get (Some old) e = by_live old (is_live old.life) e refl

pub open_keeps : (all : List Process) (n : ℕ) → KeepsBeside all n (open_port_of all n)
unfolding open_port_of opened_by
open_keeps all n = by_get (slice_get all n) refl where
  by_room : (old : Process) (b : Bool) → slice_get all n ≡ Some old → is_over old.life ≡ false
      → KeepsBeside all n (cond b (with_port old) (Err mails.Worn) >>= set_at all n)
  by_room old true e l = still all n old (record old { ports = old.ports ++ [] ∷ [] }) e refl l
  by_room old false e l = tt

  by_live : (old : Process) (b : Bool) → slice_get all n ≡ Some old → is_live old.life ≡ b
      → KeepsBeside all n (cond b (cond (nat_lt (length old.ports) last_u32) (with_port old) (Err mails.Worn)) (Err mails.NotLive) >>= set_at all n)
  by_live old true e l = by_room old (nat_lt (length old.ports) last_u32) e (live_not_over old.life l)
  by_live old false e l = tt

  by_get : (o : Option Process) → slice_get all n ≡ o → KeepsBeside all n (there_or mails.NotLive o >>= (λ process. opened_by process >>= set_at all n))
  by_get None e = tt
  by_get (Some old) e = by_live old (is_live old.life) e refl

-- ---- doom

-- who is doomed was there and not over, and all are over or not as before
abbrev pub DoomKeeps : List Process → ℕ → Bool × List Process → Type 0
DoomKeeps before n done = (ends_of done.1 ≡ ends_of before) × (done.0 ≡ true → slice_get (ends_of before) n ≡ Some false)

pub doom_keeps : (all : List Process) (n : ℕ) (text : List ℕ) → DoomKeeps all n (doom_of all n text)
unfolding doom_of doomed
doom_keeps all n text = by_get (slice_get all n) refl where
  by_live : (old : Process) (b : Bool) → slice_get all n ≡ Some old → is_live old.life ≡ b
      → DoomKeeps all n ((doomed_where old text b).0, slice_set all n (doomed_where old text b).1)
  by_live old true e l = (set_same all n old (record old { life = lives.Doomed text }) e (sym (live_not_over old.life l)), λ is. there all n old e (live_not_over old.life l))
  by_live old false e l = (set_same all n old old e refl, λ is. absurd cc)

  by_get : (o : Option Process) → slice_get all n ≡ o → DoomKeeps all n (doom_at all n text o)
  by_get None e = (refl, λ is. absurd cc)
  by_get (Some old) e = by_live old (is_live old.life) e refl

-- ---- making and ends

pub made_ends : (all : List Process) → ends_of (all ++ newborn ∷ []) ≡ ends_of all ++ false ∷ []
unfolding newborn
made_ends [] = refl
made_ends (x ∷ xs) = ap (λ (l : List Bool). is_over x.life ∷ l) (made_ends xs)

pub last_there : (ends : List Bool) → slice_get (ends ++ false ∷ []) (length ends) ≡ Some false
last_there [] = refl
last_there (x ∷ xs) = last_there xs

-- one process more, under the number of those before
abbrev pub MakesOne : List Process → Result (ℕ × List Process) Stop → Type 0
MakesOne before (Ok made) = (made.0 ≡ length (ends_of before)) × (ends_of made.1 ≡ ends_of before ++ false ∷ [])
MakesOne before (Err stop) = Unit {0}

pub makes_one : (all : List Process) → MakesOne all (make_of all)
unfolding make_of
makes_one all = by_room (nat_lt (length all) last_u32) where
  by_room : (b : Bool) → MakesOne all (cond b (Ok (length all, all ++ newborn ∷ [])) (Err stops.Worn))
  by_room true = (sym (length-map all (λ (p : Process). is_over p.life)), made_ends all)
  by_room false = tt

abbrev pub EndsOne : List Process → ℕ → Result (List Process) MailError → Type 0
EndsOne before n (Ok after) = ends_of after ≡ over_at n (ends_of before)
EndsOne before n (Err e) = ⊥

pub ends_one : (all : List Process) (n : ℕ) (reason : Reason) → slice_get (ends_of all) n ≡ Some false → EndsOne all n (end_of all n reason)
unfolding end_of ended
ends_one all n reason t = by_get (slice_get all n) (sym (slice_get-map (λ (p : Process). is_over p.life) all n) ∙ t) where
  by_over : (old : Process) (b : Bool) → Some b ≡ Some false → EndsOne all n (cond b (Err mails.NotLive) (Ok (record old { life = lives.Over reason })) >>= (λ over. Ok (slice_set all n over)))
  by_over old true e = absurd cc
  by_over old false e = set_over all n (record old { life = lives.Over reason }) refl

  by_get : (o : Option Process) → option_map (λ (p : Process). is_over p.life) o ≡ Some false → EndsOne all n (there_or mails.NotLive o >>= (λ process. ended process reason >>= (λ over. Ok (slice_set all n over))))
  by_get None e = absurd cc
  by_get (Some old) e = by_over old (is_over old.life) e

pub all_down : (all : List Process) → ends_of (map downed all) ≡ map (λ end. true) (ends_of all)
all_down [] = refl
all_down (x ∷ xs) = by_over (is_over x.life) refl (all_down xs) where
  by_over : (b : Bool) → is_over x.life ≡ b → ends_of (map downed xs) ≡ map (λ end. true) (ends_of xs) → is_over (cond b x (record x { life = lives.Over reasons.NodeDown })).life ∷ ends_of (map downed xs) ≡ true ∷ map (λ end. true) (ends_of xs)
  by_over true e more = ap (λ (b : Bool). b ∷ ends_of (map downed xs)) e ∙ ap (λ (l : List Bool). true ∷ l) more
  by_over false e more = ap (λ (l : List Bool). true ∷ l) more
