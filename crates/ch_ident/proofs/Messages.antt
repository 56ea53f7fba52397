-- Messages from node to node and user messages: what is read is spelled so, and what is spelled so is read.
use Rattle.std.proofs.Common.{◌≡◌, ℕ, zero, suc, List, [], ◌∷◌, ◌++◌, length, Option, Result, Ok, Err, IfOk, ◌==◌, refl, sym, ap, subst, ◌∙◌}
use Rattle.std.proofs.lemmas.Bool.{eqb-true}
use Rattle.std.proofs.lemmas.List.{append-nil, nil_from_length}
use Rattle.ch_ident.specs.declared.error.IdentError.{IdentError}
use Rattle.ch_ident.specs.declared.error.IdentError.TheVariants.{Extra}
use Rattle.ch_ident.specs.declared.identifier.ProcessId.{ProcessId}
use Rattle.ch_ident.specs.declared.identifier.Ref.{Ref}
use Rattle.ch_ident.specs.declared.identifier.Identifier.{Identifier}
use Rattle.ch_ident.specs.declared.reason.Reason.{Reason}
use Rattle.ch_ident.specs.declared.message.Message.{Message}
use Rattle.ch_ident.specs.declared.node_message.NodeMessage.{NodeMessage}
use Rattle.ch_ident.specs.declared.node_message.NodeMessage.TheVariants as messages
use Rattle.ch_ident.specs.Fits.{FitsReason, IsProcess, IsReference, IsIdentifier, IsFound, IsMessage, IsUser}
use Rattle.ch_ident.specs.Outcome.{◌>>=◌, Gives}
use Rattle.ch_ident.specs.Spelling.{short, long, process, reference, identifier, reason, found, message, user}
use Rattle.ch_ident.specs.Reading.{name_at, text_at, long_at, process_at, reference_at, identifier_at, reason_at, found_at, opening_at, monitor_at, unmonitor_at, link_at, unlink_at, spawn_at, did_spawn_at, died_at, where_is_at, is_at_at, named_send_at, exit_at, kill_at, fields_at, message_at, whole, user_of}
use Rattle.ch_ident.proofs.Takes.{IsBytes, IsBytes-rest, bind_ok, passed, ok_is, Takes, Takes-after, Reads, takes1, takes2, takes3, again1, again2, again3}
use Rattle.ch_ident.proofs.Fields.{IsName, IsText, IsLong, name_reads, text_reads, long_reads}
use Rattle.ch_ident.proofs.Identifiers.{process_reads, reference_reads, identifier_reads, reason_reads, found_reads}

-- the fields of a message, whose spelling stands behind this tag
pub record ReadsFields (tag : ℕ) (read : List ℕ → Result (NodeMessage × List ℕ) IdentError) : Type 0 where
  pub takes : (bytes : List ℕ) (x : NodeMessage × List ℕ) → IsBytes bytes → read bytes ≡ Ok x → Takes (tag ∷ bytes) (message x.0) x.1 × IsMessage x.0

abbrev opening : Identifier → Identifier → NodeMessage
opening a b = messages.Opening a b

opening_takes : ReadsFields 0 opening_at
unfolding opening_at
opening_takes = record {
  takes = λ bytes x fits e.
      let t = takes2 identifier_at identifier IsIdentifier identifier_reads identifier_at identifier IsIdentifier identifier_reads opening bytes x fits e in
      subst (λ (m : NodeMessage). Takes (0 ∷ bytes) (message m) x.1 × IsMessage m) t.made (Takes-after 0 bytes (identifier t.first ++ identifier t.second) x.1 t.takes, (t.is, t.is2));
}

abbrev monitor : Ref → ProcessId → NodeMessage
monitor a b = messages.Monitor a b

monitor_takes : ReadsFields 1 monitor_at
unfolding monitor_at
monitor_takes = record {
  takes = λ bytes x fits e.
      let t = takes2 reference_at reference IsReference reference_reads process_at process IsProcess process_reads monitor bytes x fits e in
      subst (λ (m : NodeMessage). Takes (1 ∷ bytes) (message m) x.1 × IsMessage m) t.made (Takes-after 1 bytes (reference t.first ++ process t.second) x.1 t.takes, (t.is, t.is2));
}

abbrev unmonitor : Ref → NodeMessage
unmonitor a = messages.Unmonitor a

unmonitor_takes : ReadsFields 2 unmonitor_at
unfolding unmonitor_at
unmonitor_takes = record {
  takes = λ bytes x fits e.
      let t = takes1 reference_at reference IsReference reference_reads unmonitor bytes x fits e in
      subst (λ (m : NodeMessage). Takes (2 ∷ bytes) (message m) x.1 × IsMessage m) t.made (Takes-after 2 bytes (reference t.first) x.1 t.takes, t.is);
}

abbrev link : Ref → ProcessId → NodeMessage
link a b = messages.Link a b

link_takes : ReadsFields 3 link_at
unfolding link_at
link_takes = record {
  takes = λ bytes x fits e.
      let t = takes2 reference_at reference IsReference reference_reads process_at process IsProcess process_reads link bytes x fits e in
      subst (λ (m : NodeMessage). Takes (3 ∷ bytes) (message m) x.1 × IsMessage m) t.made (Takes-after 3 bytes (reference t.first ++ process t.second) x.1 t.takes, (t.is, t.is2));
}

abbrev unlink : Ref → NodeMessage
unlink a = messages.Unlink a

unlink_takes : ReadsFields 4 unlink_at
unfolding unlink_at
unlink_takes = record {
  takes = λ bytes x fits e.
      let t = takes1 reference_at reference IsReference reference_reads unlink bytes x fits e in
      subst (λ (m : NodeMessage). Takes (4 ∷ bytes) (message m) x.1 × IsMessage m) t.made (Takes-after 4 bytes (reference t.first) x.1 t.takes, t.is);
}

abbrev spawn : Ref → List ℕ → List ℕ → NodeMessage
spawn a b c = messages.Spawn a b c

spawn_takes : ReadsFields 5 spawn_at
unfolding spawn_at
spawn_takes = record {
  takes = λ bytes x fits e.
      let t = takes3 reference_at reference IsReference reference_reads name_at short IsName name_reads long_at long IsLong long_reads spawn bytes x fits e in
      subst (λ (m : NodeMessage). Takes (5 ∷ bytes) (message m) x.1 × IsMessage m) t.made (Takes-after 5 bytes (reference t.first ++ short t.second ++ long t.third) x.1 t.takes, (t.is, t.is2, t.is3));
}

abbrev did_spawn : Ref → ProcessId → NodeMessage
did_spawn a b = messages.DidSpawn a b

did_spawn_takes : ReadsFields 6 did_spawn_at
unfolding did_spawn_at
did_spawn_takes = record {
  takes = λ bytes x fits e.
      let t = takes2 reference_at reference IsReference reference_reads process_at process IsProcess process_reads did_spawn bytes x fits e in
      subst (λ (m : NodeMessage). Takes (6 ∷ bytes) (message m) x.1 × IsMessage m) t.made (Takes-after 6 bytes (reference t.first ++ process t.second) x.1 t.takes, (t.is, t.is2));
}

abbrev died : Ref → Reason → NodeMessage
died a b = messages.Died a b

died_takes : ReadsFields 7 died_at
unfolding died_at
died_takes = record {
  takes = λ bytes x fits e.
      let t = takes2 reference_at reference IsReference reference_reads reason_at reason FitsReason reason_reads died bytes x fits e in
      subst (λ (m : NodeMessage). Takes (7 ∷ bytes) (message m) x.1 × IsMessage m) t.made (Takes-after 7 bytes (reference t.first ++ reason t.second) x.1 t.takes, (t.is, t.is2));
}

abbrev where_is : Ref → List ℕ → NodeMessage
where_is a b = messages.WhereIs a b

where_is_takes : ReadsFields 8 where_is_at
unfolding where_is_at
where_is_takes = record {
  takes = λ bytes x fits e.
      let t = takes2 reference_at reference IsReference reference_reads name_at short IsName name_reads where_is bytes x fits e in
      subst (λ (m : NodeMessage). Takes (8 ∷ bytes) (message m) x.1 × IsMessage m) t.made (Takes-after 8 bytes (reference t.first ++ short t.second) x.1 t.takes, (t.is, t.is2));
}

abbrev is_at : Ref → Option ProcessId → NodeMessage
is_at a b = messages.IsAt a b

is_at_takes : ReadsFields 9 is_at_at
unfolding is_at_at
is_at_takes = record {
  takes = λ bytes x fits e.
      let t = takes2 reference_at reference IsReference reference_reads found_at found IsFound found_reads is_at bytes x fits e in
      subst (λ (m : NodeMessage). Takes (9 ∷ bytes) (message m) x.1 × IsMessage m) t.made (Takes-after 9 bytes (reference t.first ++ found t.second) x.1 t.takes, (t.is, t.is2));
}

abbrev named_send : List ℕ → List ℕ → List ℕ → NodeMessage
named_send a b c = messages.NamedSend a b c

named_send_takes : ReadsFields 10 named_send_at
unfolding named_send_at
named_send_takes = record {
  takes = λ bytes x fits e.
      let t = takes3 name_at short IsName name_reads name_at short IsName name_reads long_at long IsLong long_reads named_send bytes x fits e in
      subst (λ (m : NodeMessage). Takes (10 ∷ bytes) (message m) x.1 × IsMessage m) t.made (Takes-after 10 bytes (short t.first ++ short t.second ++ long t.third) x.1 t.takes, (t.is, t.is2, t.is3));
}

abbrev exit : ProcessId → List ℕ → NodeMessage
exit a b = messages.Exit a b

exit_takes : ReadsFields 11 exit_at
unfolding exit_at
exit_takes = record {
  takes = λ bytes x fits e.
      let t = takes2 process_at process IsProcess process_reads text_at short IsText text_reads exit bytes x fits e in
      subst (λ (m : NodeMessage). Takes (11 ∷ bytes) (message m) x.1 × IsMessage m) t.made (Takes-after 11 bytes (process t.first ++ short t.second) x.1 t.takes, (t.is, t.is2));
}

abbrev kill : ProcessId → List ℕ → NodeMessage
kill a b = messages.Kill a b

kill_takes : ReadsFields 12 kill_at
unfolding kill_at
kill_takes = record {
  takes = λ bytes x fits e.
      let t = takes2 process_at process IsProcess process_reads text_at short IsText text_reads kill bytes x fits e in
      subst (λ (m : NodeMessage). Takes (12 ∷ bytes) (message m) x.1 × IsMessage m) t.made (Takes-after 12 bytes (process t.first ++ short t.second) x.1 t.takes, (t.is, t.is2));
}

message_takes : (bytes : List ℕ) (x : NodeMessage × List ℕ) → IsBytes bytes → message_at bytes ≡ Ok x → Takes bytes (message x.0) x.1 × IsMessage x.0
unfolding message_at fields_at
message_takes [] x fits e = absurd cc
message_takes (zero ∷ bytes) x fits e = opening_takes.takes bytes x (IsBytes-rest 0 bytes fits) e
message_takes (suc zero ∷ bytes) x fits e = monitor_takes.takes bytes x (IsBytes-rest 1 bytes fits) e
message_takes (suc (suc zero) ∷ bytes) x fits e = unmonitor_takes.takes bytes x (IsBytes-rest 2 bytes fits) e
message_takes (suc (suc (suc zero)) ∷ bytes) x fits e = link_takes.takes bytes x (IsBytes-rest 3 bytes fits) e
message_takes (suc (suc (suc (suc zero))) ∷ bytes) x fits e = unlink_takes.takes bytes x (IsBytes-rest 4 bytes fits) e
message_takes (suc (suc (suc (suc (suc zero)))) ∷ bytes) x fits e = spawn_takes.takes bytes x (IsBytes-rest 5 bytes fits) e
message_takes (suc (suc (suc (suc (suc (suc zero))))) ∷ bytes) x fits e = did_spawn_takes.takes bytes x (IsBytes-rest 6 bytes fits) e
message_takes (suc (suc (suc (suc (suc (suc (suc zero)))))) ∷ bytes) x fits e = died_takes.takes bytes x (IsBytes-rest 7 bytes fits) e
message_takes (suc (suc (suc (suc (suc (suc (suc (suc zero))))))) ∷ bytes) x fits e = where_is_takes.takes bytes x (IsBytes-rest 8 bytes fits) e
message_takes (suc (suc (suc (suc (suc (suc (suc (suc (suc zero)))))))) ∷ bytes) x fits e = is_at_takes.takes bytes x (IsBytes-rest 9 bytes fits) e
message_takes (suc (suc (suc (suc (suc (suc (suc (suc (suc (suc zero))))))))) ∷ bytes) x fits e = named_send_takes.takes bytes x (IsBytes-rest 10 bytes fits) e
message_takes (suc (suc (suc (suc (suc (suc (suc (suc (suc (suc (suc zero)))))))))) ∷ bytes) x fits e = exit_takes.takes bytes x (IsBytes-rest 11 bytes fits) e
message_takes (suc (suc (suc (suc (suc (suc (suc (suc (suc (suc (suc (suc zero))))))))))) ∷ bytes) x fits e = kill_takes.takes bytes x (IsBytes-rest 12 bytes fits) e
message_takes (suc (suc (suc (suc (suc (suc (suc (suc (suc (suc (suc (suc (suc tag)))))))))))) ∷ bytes) x fits e = absurd cc

message_again : (m : NodeMessage) (rest : List ℕ) → IsMessage m → message_at (message m ++ rest) ≡ Ok (m, rest)
unfolding message_at fields_at opening_at monitor_at unmonitor_at link_at unlink_at spawn_at did_spawn_at died_at where_is_at is_at_at named_send_at exit_at kill_at
message_again (messages.Opening a b) rest is = again2 identifier_at identifier IsIdentifier identifier_reads identifier_at identifier IsIdentifier identifier_reads opening a b rest is.0 is.1
message_again (messages.Monitor a b) rest is = again2 reference_at reference IsReference reference_reads process_at process IsProcess process_reads monitor a b rest is.0 is.1
message_again (messages.Unmonitor a) rest is = again1 reference_at reference IsReference reference_reads unmonitor a rest is
message_again (messages.Link a b) rest is = again2 reference_at reference IsReference reference_reads process_at process IsProcess process_reads link a b rest is.0 is.1
message_again (messages.Unlink a) rest is = again1 reference_at reference IsReference reference_reads unlink a rest is
message_again (messages.Spawn a b c) rest is = again3 reference_at reference IsReference reference_reads name_at short IsName name_reads long_at long IsLong long_reads spawn a b c rest is.0 is.1 is.2
message_again (messages.DidSpawn a b) rest is = again2 reference_at reference IsReference reference_reads process_at process IsProcess process_reads did_spawn a b rest is.0 is.1
message_again (messages.Died a b) rest is = again2 reference_at reference IsReference reference_reads reason_at reason FitsReason reason_reads died a b rest is.0 is.1
message_again (messages.WhereIs a b) rest is = again2 reference_at reference IsReference reference_reads name_at short IsName name_reads where_is a b rest is.0 is.1
message_again (messages.IsAt a b) rest is = again2 reference_at reference IsReference reference_reads found_at found IsFound found_reads is_at a b rest is.0 is.1
message_again (messages.NamedSend a b c) rest is = again3 name_at short IsName name_reads name_at short IsName name_reads long_at long IsLong long_reads named_send a b c rest is.0 is.1 is.2
message_again (messages.Exit a b) rest is = again2 process_at process IsProcess process_reads text_at short IsText text_reads exit a b rest is.0 is.1
message_again (messages.Kill a b) rest is = again2 process_at process IsProcess process_reads text_at short IsText text_reads kill a b rest is.0 is.1

pub message_reads : Reads message_at message IsMessage
message_reads = record { takes = message_takes; again = message_again }

-- a value that takes all of the bytes is spelled by them
pub whole_takes : {A : Type 0} (read : List ℕ → Result (A × List ℕ) IdentError) (spell : A → List ℕ) (Is : A → Type 0) → Reads read spell Is → (bytes : List ℕ) (a : A) → IsBytes bytes → (read bytes >>= whole) ≡ Ok a → Is a × (bytes ≡ spell a)
unfolding whole
whole_takes {A = A} read spell Is reads bytes a fits e =
    let f = bind_ok (read bytes) whole a e in
    let g = passed (length f.0.1 == 0) Extra (Ok f.0.0) a f.2 in
    let t = reads.takes bytes f.0 fits f.1 in
    let nothing : f.0.1 ≡ [] = nil_from_length f.0.1 (eqb-true _ _ g.0) in
    let all : bytes ≡ spell f.0.0 = t.0.parts ∙ ap (λ (r : List ℕ). spell f.0.0 ++ r) nothing ∙ append-nil (spell f.0.0) in
    subst (λ (b : A). Is b × (bytes ≡ spell b)) (ok_is f.0.0 a g.1) (t.1, all)

-- the spelling of a value, all of it, is read as that value
pub whole_again : {A : Type 0} (read : List ℕ → Result (A × List ℕ) IdentError) (spell : A → List ℕ) (Is : A → Type 0) → Reads read spell Is → (a : A) → Is a → (read (spell a) >>= whole) ≡ Ok a
unfolding whole
whole_again read spell Is reads a is =
    let all : read (spell a) ≡ Ok (a, []) = ap read (sym (append-nil (spell a))) ∙ reads.again a [] is in
    rw all refl

-- what a reader of all the bytes answered is spelled by them
pub is_found : {A : Type 0} (read : List ℕ → Result (A × List ℕ) IdentError) (spell : A → List ℕ) (Is : A → Type 0) → Reads read spell Is → (bytes : List ℕ) (r : Result A IdentError) → IsBytes bytes → Gives r (read bytes >>= whole) → IfOk r (λ a. Is a × (bytes ≡ spell a))
is_found read spell Is reads bytes (Ok a) fits given = whole_takes read spell Is reads bytes a fits given
is_found read spell Is reads bytes (Err e) fits given = tt

-- what is spelled so is what a reader of all the bytes answered
pub is_only : {A : Type 0} (read : List ℕ → Result (A × List ℕ) IdentError) (spell : A → List ℕ) (Is : A → Type 0) → Reads read spell Is → (bytes : List ℕ) (r : Result A IdentError) → Gives r (read bytes >>= whole) → (a : A) → Is a → bytes ≡ spell a → Gives r (Ok a)
is_only {A = A} read spell Is reads bytes r given a is e = subst (λ (f : Result A IdentError). Gives r f) (ap (λ (b : List ℕ). read b >>= whole) e ∙ whole_again read spell Is reads a is) given

abbrev user_message : List ℕ × List ℕ → Message
user_message p = record { mark = p.0; body = p.1 }

-- a user's message that is read is spelled so
pub user_found : (bytes : List ℕ) (r : Result Message IdentError) → IsBytes bytes → Gives r (user_of bytes) → IfOk r (λ m. IsUser m × (bytes ≡ user m))
unfolding user_of
user_found bytes (Ok m) fits given =
    let p = bind_ok (name_at bytes) (λ mark. Ok (user_message mark)) m given in
    let t = name_reads.takes bytes p.0 fits p.1 in
    subst (λ (m : Message). IsUser m × (bytes ≡ user m)) (ok_is (user_message p.0) m p.2) (t.1, t.0.parts)
user_found bytes (Err e) fits given = tt

-- a user's message that is spelled so is read
pub user_only : (bytes : List ℕ) (r : Result Message IdentError) → Gives r (user_of bytes) → (m : Message) → IsUser m → bytes ≡ user m → Gives r (Ok m)
unfolding user_of
user_only bytes r given m is e =
    let all : user_of (user m) ≡ Ok m = rw (name_reads.again m.mark m.body is) refl in
    subst (λ (f : Result Message IdentError). Gives r f) (ap user_of e ∙ all) given
