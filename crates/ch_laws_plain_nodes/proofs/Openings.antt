-- The spelling of an opening message between two processes is read as one, or not at all.
use Rattle.std.proofs.Common.{◌≡◌, ℕ, Bool, true, false, cond, ◌&&◌, List, [], ◌++◌, length, Result, Ok, Err, ◌==◌, refl, sym, ap, subst, ◌∙◌, append_assoc, arith, nat_lt, nat_le}
use Rattle.std.proofs.lemmas.Bool.{le-ltb}
use Rattle.std.proofs.lemmas.List.{append-nil, length-append}
use Rattle.ch_base.specs.Addresses.{address_text}
use Rattle.ch_base.specs.declared.address.Address.{Address}
use Rattle.ch_ident.specs.declared.error.IdentError.{IdentError}
use Rattle.ch_ident.specs.declared.error.IdentError.TheVariants.{BadText, Extra}
use Rattle.ch_ident.specs.declared.identifier.ProcessId.{ProcessId}
use Rattle.ch_ident.specs.declared.identifier.Identifier.{Identifier}
use Rattle.ch_ident.specs.declared.identifier.Identifier.TheVariants as ends
use Rattle.ch_ident.specs.declared.node_message.NodeMessage.{NodeMessage}
use Rattle.ch_ident.specs.declared.node_message.NodeMessage.TheVariants as messages
use Rattle.ch_ident.specs.Fits.{IsProcess, IsMessage}
use Rattle.ch_ident.specs.Outcome.{◌>>=◌}
use Rattle.ch_ident.specs.Spelling.{number, address, process, identifier, message}
use Rattle.ch_ident.specs.Reading.{number_at, address_of, address_at, piece_at, process_at, identifier_at, opening_at, fields_at, message_at, whole, message_of}
use Rattle.ch_ident.proofs.Takes.{read1, read2, read3}
use Rattle.ch_ident.proofs.Fields.{piece_again}
use Rattle.ch_ident.proofs.Messages.{message_reads, whole_again}

-- what is read is such a value, and this is left of the bytes; or nothing is read
abbrev Leaves : {A : Type 0} → (A → Type 0) → List ℕ → Result (A × List ℕ) IdentError → Type 0
Leaves Is rest (Ok x) = Is x.0 × (x.1 ≡ rest)
Leaves Is rest (Err e) = Unit {0}

-- a reader takes this text from the front, whatever follows, or refuses
abbrev Skips : {A : Type 0} → (List ℕ → Result (A × List ℕ) IdentError) → List ℕ → (A → Type 0) → Type 0
Skips read text Is = (rest : List ℕ) → Leaves Is rest (read (text ++ rest))

abbrev Any : {A : Type 0} → A → Type 0
Any x = Unit {0}

-- ---- fields in a row

skips1 : {A C : Type 0} (read : List ℕ → Result (A × List ℕ) IdentError) (text : List ℕ) (Is : A → Type 0) (make : A → C) (Made : C → Type 0) → ((a : A) → Is a → Made (make a)) → Skips read text Is → Skips (read1 read make) text Made
skips1 {A = A} read text Is make Made f s rest = by_read (read (text ++ rest)) (s rest)
  where
    by_read : (r : Result (A × List ℕ) IdentError) → Leaves Is rest r → Leaves Made rest (r >>= λ a. Ok (make a.0, a.1))
    by_read (Ok x) l = (f x.0 l.0, l.1)
    by_read (Err e) l = tt

skips2 : {A B C : Type 0} (read : List ℕ → Result (A × List ℕ) IdentError) (text : List ℕ) (Is : A → Type 0) (next : List ℕ → Result (B × List ℕ) IdentError) (text2 : List ℕ) (Is2 : B → Type 0) (make : A → B → C) (Made : C → Type 0)
    → ((a : A) (b : B) → Is a → Is2 b → Made (make a b)) → Skips read text Is → Skips next text2 Is2 → Skips (read2 read next make) (text ++ text2) Made
skips2 {A = A} read text Is next text2 Is2 make Made f s t rest = subst (λ (bytes : List ℕ). Leaves Made rest (read2 read next make bytes)) (sym (append_assoc text text2 rest)) (by_read (read (text ++ (text2 ++ rest))) (s (text2 ++ rest)))
  where
    by_read : (r : Result (A × List ℕ) IdentError) → Leaves Is (text2 ++ rest) r → Leaves Made rest (r >>= λ a. read1 next (make a.0) a.1)
    by_read (Ok x) l = subst (λ (bytes : List ℕ). Leaves Made rest (read1 next (make x.0) bytes)) (sym l.1) (skips1 next text2 Is2 (make x.0) Made (λ b. f x.0 b l.0) t rest)
    by_read (Err e) l = tt

skips3 : {A B D C : Type 0} (read : List ℕ → Result (A × List ℕ) IdentError) (text : List ℕ) (next : List ℕ → Result (B × List ℕ) IdentError) (text2 : List ℕ) (last : List ℕ → Result (D × List ℕ) IdentError) (text3 : List ℕ) (make : A → B → D → C)
    → Skips read text Any → Skips next text2 Any → Skips last text3 Any → Skips (read3 read next last make) (text ++ text2 ++ text3) Any
skips3 {A = A} {C = C} read text next text2 last text3 make s t u rest = subst (λ (bytes : List ℕ). Leaves {A = C} Any rest (read3 read next last make bytes)) (sym apart) (by_read (read (text ++ ((text2 ++ text3) ++ rest))) (s ((text2 ++ text3) ++ rest)))
  where
    apart : (text ++ text2 ++ text3) ++ rest ≡ text ++ ((text2 ++ text3) ++ rest)
    apart = ap (λ (bytes : List ℕ). bytes ++ rest) (append_assoc text text2 text3) ∙ append_assoc text (text2 ++ text3) rest

    by_read : (r : Result (A × List ℕ) IdentError) → Leaves Any ((text2 ++ text3) ++ rest) r → Leaves {A = C} Any rest (r >>= λ a. read2 next last (make a.0) a.1)
    by_read (Ok x) l = subst (λ (bytes : List ℕ). Leaves {A = C} Any rest (read2 next last (make x.0) bytes)) (sym l.1) (skips2 next text2 Any last text3 Any (make x.0) Any (λ b d i j. tt) t u rest)
    by_read (Err e) l = tt

-- ---- the fields of an identifier

number_skips : (n : ℕ) → Skips number_at (number n) Any
number_skips n rest =
    let enough : nat_lt (length (number n ++ rest)) 4 ≡ false = le-ltb _ _ (omega (arith, length-append (number n) rest)) in
    rw enough (tt, refl)

address_skips : (a : Address) → Skips address_at (address a) Any
unfolding address_at
address_skips a rest = by_test (nat_le 1 (length (address_text a)) && nat_le (length (address_text a)) 80)
  where
    by_text : (r : Result Address IdentError) → Leaves {A = Address} Any rest (r >>= λ b. Ok (b, rest))
    by_text (Ok b) = (tt, refl)
    by_text (Err e) = tt

    by_test : (b : Bool) → Leaves {A = Address} Any rest (cond b (piece_at (length (address_text a)) (address_text a ++ rest) >>= λ text. address_of text.0 >>= λ b. Ok (b, text.1)) (Err BadText))
    by_test true = rw (piece_again (address_text a) rest) (by_text (address_of (address_text a)))
    by_test false = tt

process_made : Address → ℕ → ℕ → ProcessId
process_made node unique counter = record { node = node; unique = unique; counter = counter }

process_skips : (p : ProcessId) → Skips process_at (process p) Any
unfolding process_at process_made
process_skips p = skips3 address_at (address p.node) number_at (number p.unique) number_at (number p.counter) process_made (address_skips p.node) (number_skips p.unique) (number_skips p.counter)

-- it is an end that is a process
abbrev IsProcessEnd : Identifier → Type 0
IsProcessEnd (ends.Process p) = Unit {0}
IsProcessEnd end = ⊥

abbrev process_end : ProcessId → Identifier
process_end p = ends.Process p

end_skips : (p : ProcessId) → Skips identifier_at (identifier (ends.Process p)) IsProcessEnd
unfolding identifier_at
end_skips p = skips1 process_at (process p) Any process_end IsProcessEnd (λ a i. tt) (process_skips p)

-- ---- an opening message

-- the message opens a connection of a process to a process
abbrev pub IsOpening : NodeMessage → Type 0
IsOpening (messages.Opening (ends.Process from) (ends.Process to)) = Unit {0}
IsOpening m = ⊥

abbrev opening : Identifier → Identifier → NodeMessage
opening a b = messages.Opening a b

two_processes : (a b : Identifier) → IsProcessEnd a → IsProcessEnd b → IsOpening (opening a b)
two_processes (ends.Process p) (ends.Process q) i j = tt
two_processes (ends.Node a) b i j = absurd i
two_processes (ends.Port p) b i j = absurd i
two_processes (ends.Process p) (ends.Node a) i j = absurd j
two_processes (ends.Process p) (ends.Port q) i j = absurd j

opening_skips : (from to : ProcessId) → Skips message_at (message (messages.Opening (ends.Process from) (ends.Process to))) IsOpening
unfolding message_at fields_at opening_at
opening_skips from to = skips2 identifier_at (identifier (ends.Process from)) IsProcessEnd identifier_at (identifier (ends.Process to)) IsProcessEnd opening IsOpening two_processes (end_skips from) (end_skips to)

-- what is read is an opening message between processes, where it is read
abbrev pub IsOpeningRead : Result NodeMessage IdentError → Type 0
IsOpeningRead (Ok m) = IsOpening m
IsOpeningRead (Err e) = Unit {0}

pub opening_read : (from to : ProcessId) → IsOpeningRead (message_of (message (messages.Opening (ends.Process from) (ends.Process to))))
unfolding message_of whole
opening_read from to = by_read (message_at bytes) (subst (λ (b : List ℕ). Leaves IsOpening [] (message_at b)) (append-nil bytes) (opening_skips from to []))
  where
    bytes : List ℕ
    bytes = message (messages.Opening (ends.Process from) (ends.Process to))

    by_test : (b : Bool) (m : NodeMessage) → IsOpening m → IsOpeningRead (cond b (Ok m) (Err Extra))
    by_test true m i = i
    by_test false m i = tt

    by_read : (r : Result (NodeMessage × List ℕ) IdentError) → Leaves IsOpening [] r → IsOpeningRead (r >>= whole)
    by_read (Ok x) l = by_test (length x.1 == 0) x.0 l.0
    by_read (Err e) l = tt

-- it is read as what it is, where the processes are in their rule
pub opening_again : (from to : ProcessId) → IsProcess from → IsProcess to → message_of (message (messages.Opening (ends.Process from) (ends.Process to))) ≡ Ok (messages.Opening (ends.Process from) (ends.Process to))
unfolding message_of
opening_again from to f t = whole_again message_at message IsMessage message_reads (messages.Opening (ends.Process from) (ends.Process to)) (f, t)
