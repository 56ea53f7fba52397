-- What concerns the mail of a process alone changes no pair, and ends nobody; and nor does it that a process is made.
use Rattle.std.specs.Prelude.{◌≡◌, ℕ, zero, suc, Bool, true, false, List, [], ◌∷◌, ◌++◌, length, nat_lt, slice_get, slice_set, Option, Some, None, Result, Ok, Err, if◌then◌else◌}
use Rattle.std.specs.Option.{option_map_or}
use Rattle.std.proofs.Common.{refl, ap, sym, ◌∙◌, subst}
use Rattle.ch_base.specs.declared.event.Room.{Room}
use Rattle.ch_base.specs.declared.memory.Stop.{Stop}
use Rattle.ch_base.specs.declared.memory.Stop.TheVariants as stops
use Rattle.ch_ident.specs.declared.message.Message.{Message}
use Rattle.ch_mail.specs.declared.error.MailError.{MailError}
use Rattle.ch_mail.specs.declared.error.MailError.TheVariants.{NotLive, Empty, Worn}
use Rattle.ch_mail.specs.declared.life.Life.{Life}
use Rattle.ch_mail.specs.Lives.{is_live, is_over}
use Rattle.ch_mail.specs.Process.{Process}
use Rattle.ch_mail.specs.Queue.{first_of_mark, first_of}
use Rattle.ch_mail.specs.Mail as mails
use Rattle.ch_mail.specs.Mail.{there_or, last_u32, newborn, made_at, life_of, taken_from, taken_from_port, opened_by, make_of, take_of, take_port_of, open_port_of}
use Rattle.ch_static.specs.declared.command.Command.TheVariants as commands
use Rattle.ch_model.specs.declared.act.Act.{Act}
use Rattle.ch_model.specs.declared.act.Act.TheVariants as acts
use Rattle.ch_model.specs.declared.note.Note.TheVariants as notes
use Rattle.ch_model.specs.declared.note.Origin.{Origin}
use Rattle.ch_model.specs.NodeState.{NodeState}
use Rattle.ch_model.specs.NodeActs as node
use Rattle.ch_model.specs.NodeActs.{Answered, mailed, noting, stopping}
use Rattle.ch_model.specs.NodeIds.{process_id}
use Rattle.ch_model.specs.NodeLives.{with_process, make}
use Rattle.ch_model.specs.NodeRoom.{acting}
use Rattle.ch_model.specs.NodeCommands.{receive_of, take_port, open_port}
use Rattle.ch_model.specs.Node.{node_make, node_command}
use Rattle.ch_model.specs.declared.command.CommandError.TheVariants.{Dead}
use Rattle.ch_model.specs.Refusals.{of_stop}
use Rattle.ch_laws_delivery.specs.Standings.{Ages}
use Rattle.ch_laws_delivery.specs.Quiets.{Keeps}
use Rattle.ch_laws_delivery.specs.QuietLines.{AreNotes}
use Rattle.ch_laws_delivery.proofs.Results.{refused, given, went_node, went_mail, was_mailed, there_is, if_is}
use Rattle.ch_laws_delivery.proofs.Mails.{read_same}

-- no pair changes, and who is over is the same
abbrev pub Still : NodeState → NodeState → Type 0
Still n now = Keeps n now × Ages n now

-- ---- lives

pub with_lives : (n : NodeState) (mail : List Process) → ((i : ℕ) → life_of mail i ≡ life_of n.mail i) → Still n (record n { mail = mail })
with_lives n mail same = (
  record { pairs = refl; shut = refl; over = λ by. ap (λ (o : Option Life). option_map_or is_over o false) (same by) },
  record { own = refl; unique = refl; arrived = refl; over = λ by over. ap (λ (o : Option Life). option_map_or is_over o false) (same by) ∙ over },
)

life_set : (mail : List Process) (n : ℕ) (process now : Process) → slice_get mail n ≡ Some process → now.life ≡ process.life → (i : ℕ) → life_of (slice_set mail n now) i ≡ life_of mail i
unfolding life_of
life_set mail n process now there same i = read_same mail n process now there (λ p. p.life) same i

-- ---- what a process takes from its mail

taken_life : (process : Process) (mark : List ℕ) (taken : Message × Process) → taken_from process mark ≡ Ok taken → taken.1.life ≡ process.life
unfolding taken_from
taken_life process mark taken h =
    let one = went_mail (there_or Empty (first_of_mark mark process.mailbox)) (λ (t : Message × List Message). Ok (t.0, record process { mailbox = t.1 })) taken
    (if_is (is_live process.life) (mails.◌>>=◌ (there_or Empty (first_of_mark mark process.mailbox)) (λ (t : Message × List Message). Ok (t.0, record process { mailbox = t.1 }))) NotLive taken h) in
    ap (λ (t : Message × Process). t.1.life) (sym (given (one.value.0, record process { mailbox = one.value.1 }) taken one.next))

take_lives : (mail : List Process) (number : ℕ) (mark : List ℕ) (taken : Message × List Process) → take_of mail number mark ≡ Ok taken → (i : ℕ) → life_of taken.1 i ≡ life_of mail i
unfolding take_of
take_lives mail number mark taken h i =
    let one = went_mail (made_at mail number) (λ (process : Process). mails.◌>>=◌ (taken_from process mark) (λ (t : Message × Process). Ok (t.0, slice_set mail number t.1))) taken h in
    let two = went_mail (taken_from one.value mark) (λ (t : Message × Process). Ok (t.0, slice_set mail number t.1)) taken one.next in
    ap (λ (t : Message × List Process). life_of t.1 i) (sym (given (two.value.0, slice_set mail number two.value.1) taken two.next))
    ∙ life_set mail number one.value two.value.1 (there_is NotLive (slice_get mail number) one.value one.is) (taken_life one.value mark two.value two.is) i

taken_port_life : (process : Process) (port : ℕ) (taken : Message × Process) → taken_from_port process port ≡ Ok taken → taken.1.life ≡ process.life
unfolding taken_from_port
taken_port_life process port taken h =
    let last : Message × List Message → Result (Message × Process) MailError = λ t. Ok (t.0, record process { ports = slice_set process.ports port t.1 }) in
    let one = went_mail (there_or Empty (slice_get process.ports port)) (λ (messages : List Message). mails.◌>>=◌ (there_or Empty (first_of messages)) last) taken
    (if_is (is_live process.life) (mails.◌>>=◌ (there_or Empty (slice_get process.ports port)) (λ (messages : List Message). mails.◌>>=◌ (there_or Empty (first_of messages)) last)) NotLive taken h) in
    let two = went_mail (there_or Empty (first_of one.value)) last taken one.next in
    ap (λ (t : Message × Process). t.1.life) (sym (given (two.value.0, record process { ports = slice_set process.ports port two.value.1 }) taken two.next))

take_port_lives : (mail : List Process) (number port : ℕ) (taken : Message × List Process) → take_port_of mail number port ≡ Ok taken → (i : ℕ) → life_of taken.1 i ≡ life_of mail i
unfolding take_port_of
take_port_lives mail number port taken h i =
    let one = went_mail (made_at mail number) (λ (process : Process). mails.◌>>=◌ (taken_from_port process port) (λ (t : Message × Process). Ok (t.0, slice_set mail number t.1))) taken h in
    let two = went_mail (taken_from_port one.value port) (λ (t : Message × Process). Ok (t.0, slice_set mail number t.1)) taken one.next in
    ap (λ (t : Message × List Process). life_of t.1 i) (sym (given (two.value.0, slice_set mail number two.value.1) taken two.next))
    ∙ life_set mail number one.value two.value.1 (there_is NotLive (slice_get mail number) one.value one.is) (taken_port_life one.value port two.value two.is) i

opened_life : (process : Process) (opened : ℕ × Process) → opened_by process ≡ Ok opened → opened.1.life ≡ process.life
unfolding opened_by
opened_life process opened h =
    let one = if_is (is_live process.life) (if nat_lt (length process.ports) last_u32 then Ok (length process.ports, record process { ports = process.ports ++ [] ∷ [] }) else Err Worn) NotLive opened h in
    let two = if_is (nat_lt (length process.ports) last_u32) (Ok (length process.ports, record process { ports = process.ports ++ [] ∷ [] })) Worn opened one in
    ap (λ (t : ℕ × Process). t.1.life) (sym (given (length process.ports, record process { ports = process.ports ++ [] ∷ [] }) opened two))

open_lives : (mail : List Process) (number : ℕ) (opened : ℕ × List Process) → open_port_of mail number ≡ Ok opened → (i : ℕ) → life_of opened.1 i ≡ life_of mail i
unfolding open_port_of
open_lives mail number opened h i =
    let one = went_mail (made_at mail number) (λ (process : Process). mails.◌>>=◌ (opened_by process) (λ (t : ℕ × Process). Ok (t.0, slice_set mail number t.1))) opened h in
    let two = went_mail (opened_by one.value) (λ (t : ℕ × Process). Ok (t.0, slice_set mail number t.1)) opened one.next in
    ap (λ (t : ℕ × List Process). life_of t.1 i) (sym (given (two.value.0, slice_set mail number two.value.1) opened two.next))
    ∙ life_set mail number one.value two.value.1 (there_is NotLive (slice_get mail number) one.value one.is) (opened_life one.value two.value two.is) i

-- ---- commands

pub receives_still : (n : NodeState) (by : ℕ) (mark : List ℕ) (room : Room) (did : List Act) (now : NodeState) → node_command n by (commands.Receive mark) room ≡ Ok (did, now) → Still n now × AreNotes did
unfolding node_command receive_of
receives_still n by mark room did now h =
    let last : Message × List Process → Answered = λ taken. Ok (acts.Note (notes.Took (process_id n by) None taken.0) ∷ [], record n { mail = taken.1 }) in
    let one = went_node (acting n by) (λ live. node.◌>>=◌ (mailed (take_of n.mail by mark)) last) (did, now) h in
    let two = went_node (mailed (take_of n.mail by mark)) last (did, now) one.next in
    subst (λ (z : List Act × NodeState). Still n z.1 × AreNotes z.0) (given (acts.Note (notes.Took (process_id n by) None two.value.0) ∷ [], record n { mail = two.value.1 }) (did, now) two.next)
    (with_lives n two.value.1 (take_lives n.mail by mark two.value (was_mailed (take_of n.mail by mark) two.value two.is)), tt)

pub takes_still : (n : NodeState) (by port : ℕ) (room : Room) (did : List Act) (now : NodeState) → node_command n by (commands.Take port) room ≡ Ok (did, now) → Still n now × AreNotes did
unfolding node_command take_port
takes_still n by port room did now h =
    let last : Message × List Process → Answered = λ taken. Ok (acts.Note (notes.Took (process_id n by) (Some port) taken.0) ∷ [], record n { mail = taken.1 }) in
    let one = went_node (acting n by) (λ live. node.◌>>=◌ (mailed (take_port_of n.mail by port)) last) (did, now) h in
    let two = went_node (mailed (take_port_of n.mail by port)) last (did, now) one.next in
    subst (λ (z : List Act × NodeState). Still n z.1 × AreNotes z.0) (given (acts.Note (notes.Took (process_id n by) (Some port) two.value.0) ∷ [], record n { mail = two.value.1 }) (did, now) two.next)
    (with_lives n two.value.1 (take_port_lives n.mail by port two.value (was_mailed (take_port_of n.mail by port) two.value two.is)), tt)

pub opens_still : (n : NodeState) (by : ℕ) (room : Room) (did : List Act) (now : NodeState) → node_command n by commands.OpenPort room ≡ Ok (did, now) → Still n now × AreNotes did
unfolding node_command open_port
opens_still n by room did now h =
    let last : ℕ × List Process → Answered = λ opened. Ok (acts.Note (notes.Port (record { process = process_id n by; port = opened.0 })) ∷ [], record n { mail = opened.1 }) in
    let one = went_node (acting n by) (λ live. node.◌>>=◌ (mailed (open_port_of n.mail by)) last) (did, now) h in
    let two = went_node (mailed (open_port_of n.mail by)) last (did, now) one.next in
    subst (λ (z : List Act × NodeState). Still n z.1 × AreNotes z.0) (given (acts.Note (notes.Port (record { process = process_id n by; port = two.value.0 })) ∷ [], record n { mail = two.value.1 }) (did, now) two.next)
    (with_lives n two.value.1 (open_lives n.mail by two.value (was_mailed (open_port_of n.mail by) two.value two.is)), tt)

-- ---- a process is made

push_ended : (mail : List Process) (i : ℕ) → option_map_or is_over (life_of (mail ++ newborn ∷ []) i) false ≡ option_map_or is_over (life_of mail i) false
unfolding life_of newborn
push_ended [] zero = refl
push_ended [] (suc i) = refl
push_ended (x ∷ xs) zero = refl
push_ended (x ∷ xs) (suc i) = push_ended xs i

pub makes_still : (n : NodeState) (origin : Option Origin) (args : List ℕ) (did : List Act) (now : NodeState) → make n origin args ≡ Ok (did, now) → Still n now × AreNotes did
unfolding make make_of
makes_still n origin args did now h =
    let last = λ (made : ℕ × List Process). noting (notes.Made (process_id n made.0) origin) (with_process n made.1 args) in
    let one = went_node (if nat_lt (length n.mail) last_u32 then Ok (length n.mail, n.mail ++ newborn ∷ []) else Err stops.Worn) last (did, now) h in
    subst (λ (z : List Act × NodeState). Still n z.1 × AreNotes z.0) (given (acts.Note (notes.Made (process_id n one.value.0) origin) ∷ [], with_process n one.value.1 args) (did, now) one.next)
    (by_mail one.value.1 (ap (λ (z : ℕ × List Process). z.1) (by_room (nat_lt (length n.mail) last_u32) one.value one.is)), tt) where
      by_room : (b : Bool) (made : ℕ × List Process) → (if b then Ok (length n.mail, n.mail ++ newborn ∷ []) else Err stops.Worn) ≡ Ok made → (length n.mail, n.mail ++ newborn ∷ []) ≡ made
      by_room true made q = given (length n.mail, n.mail ++ newborn ∷ []) made q
      by_room false made q = absurd (clash q) where
        clash : ◌≡◌ {A = Result (ℕ × List Process) Stop} (Err stops.Worn) (Ok made) → ⊥
        clash e = cc

      by_mail : (mail : List Process) → n.mail ++ newborn ∷ [] ≡ mail → Still n (with_process n mail args)
      by_mail mail is = subst (λ (z : List Process). Still n (with_process n z args)) is (
        record { pairs = refl; shut = refl; over = λ by. push_ended n.mail by },
        record { own = refl; unique = refl; arrived = refl; over = λ by over. push_ended n.mail by ∙ over },
      )

-- by a line
pub makes_own : (n : NodeState) (did : List Act) (now : NodeState) → node_make n ≡ Ok (did, now) → Still n now × AreNotes did
unfolding node_make
makes_own n did now h = by_shut n.is_shut h where
  was : (r : Result (List Act × NodeState) Stop) → stopping r ≡ Ok (did, now) → r ≡ Ok (did, now)
  was (Ok x) q = ap (λ (z : List Act × NodeState). Ok z) (given x (did, now) q)
  was (Err e) q = refused (of_stop e) (did, now) q

  by_shut : (b : Bool) → (if b then Err Dead else stopping (make n None [])) ≡ Ok (did, now) → Still n now × AreNotes did
  by_shut true q = refused Dead (did, now) q
  by_shut false q = makes_still n None [] did now (was (make n None []) q)
