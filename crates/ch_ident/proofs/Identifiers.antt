-- Identifiers, reasons and found processes: what is read is spelled so, and what is spelled so is read.
use Rattle.std.proofs.Common.{◌≡◌, ℕ, zero, suc, List, [], ◌∷◌, ◌++◌, Option, Some, None, Ok, refl, sym, subst}
use Rattle.ch_base.specs.Addresses.{IsAddress}
use Rattle.ch_base.specs.declared.address.Address.{Address}
use Rattle.ch_ident.specs.declared.identifier.ProcessId.{ProcessId}
use Rattle.ch_ident.specs.declared.identifier.SendPortId.{SendPortId}
use Rattle.ch_ident.specs.declared.identifier.Ref.{Ref}
use Rattle.ch_ident.specs.declared.identifier.Identifier.{Identifier}
use Rattle.ch_ident.specs.declared.identifier.Identifier.TheVariants as ends
use Rattle.ch_ident.specs.declared.reason.Reason.{Reason}
use Rattle.ch_ident.specs.declared.reason.Reason.TheVariants as reasons
use Rattle.ch_ident.specs.Fits.{FitsReason, IsProcess, IsPort, IsReference, IsIdentifier, IsFound}
use Rattle.ch_ident.specs.Spelling.{number, short, address, process, port, reference, identifier, reason, found}
use Rattle.ch_ident.specs.Reading.{number_at, text_at, address_at, process_at, port_at, reference_at, identifier_at, reason_at, found_at}
use Rattle.ch_ident.proofs.Takes.{IsBytes, IsBytes-rest, ok_is, Takes, Takes-after, Reads, takes1, takes2, takes3, again1, again2, again3}
use Rattle.ch_ident.proofs.Fields.{IsWord, IsText, number_reads, text_reads, address_reads}

abbrev process_of : Address → ℕ → ℕ → ProcessId
process_of node unique counter = record { node = node; unique = unique; counter = counter }

pub process_reads : Reads process_at process IsProcess
unfolding process_at
process_reads = record { takes = takes; again = again }
  where
    takes : (bytes : List ℕ) (x : ProcessId × List ℕ) → IsBytes bytes → process_at bytes ≡ Ok x → Takes bytes (process x.0) x.1 × IsProcess x.0
    takes bytes x fits e =
        let t = takes3 address_at address IsAddress address_reads number_at number IsWord number_reads number_at number IsWord number_reads process_of bytes x fits e in
        subst (λ (p : ProcessId). Takes bytes (process p) x.1 × IsProcess p) t.made (t.takes, (t.is, t.is2, t.is3))

    again : (p : ProcessId) (rest : List ℕ) → IsProcess p → process_at (process p ++ rest) ≡ Ok (p, rest)
    again p rest is = again3 address_at address IsAddress address_reads number_at number IsWord number_reads number_at number IsWord number_reads process_of p.node p.unique p.counter rest is.0 is.1 is.2

abbrev port_of : ProcessId → ℕ → SendPortId
port_of process port = record { process = process; port = port }

pub port_reads : Reads port_at port IsPort
unfolding port_at
port_reads = record { takes = takes; again = again }
  where
    takes : (bytes : List ℕ) (x : SendPortId × List ℕ) → IsBytes bytes → port_at bytes ≡ Ok x → Takes bytes (port x.0) x.1 × IsPort x.0
    takes bytes x fits e =
        let t = takes2 process_at process IsProcess process_reads number_at number IsWord number_reads port_of bytes x fits e in
        subst (λ (p : SendPortId). Takes bytes (port p) x.1 × IsPort p) t.made (t.takes, (t.is, t.is2))

    again : (p : SendPortId) (rest : List ℕ) → IsPort p → port_at (port p ++ rest) ≡ Ok (p, rest)
    again p rest is = again2 process_at process IsProcess process_reads number_at number IsWord number_reads port_of p.process p.port rest is.0 is.1

abbrev reference_of : Address → ℕ → Ref
reference_of node number = record { node = node; number = number }

pub reference_reads : Reads reference_at reference IsReference
unfolding reference_at
reference_reads = record { takes = takes; again = again }
  where
    takes : (bytes : List ℕ) (x : Ref × List ℕ) → IsBytes bytes → reference_at bytes ≡ Ok x → Takes bytes (reference x.0) x.1 × IsReference x.0
    takes bytes x fits e =
        let t = takes2 address_at address IsAddress address_reads number_at number IsWord number_reads reference_of bytes x fits e in
        subst (λ (r : Ref). Takes bytes (reference r) x.1 × IsReference r) t.made (t.takes, (t.is, t.is2))

    again : (r : Ref) (rest : List ℕ) → IsReference r → reference_at (reference r ++ rest) ≡ Ok (r, rest)
    again r rest is = again2 address_at address IsAddress address_reads number_at number IsWord number_reads reference_of r.node r.number rest is.0 is.1

abbrev node_end : Address → Identifier
node_end a = ends.Node a

abbrev process_end : ProcessId → Identifier
process_end p = ends.Process p

abbrev port_end : SendPortId → Identifier
port_end p = ends.Port p

pub identifier_reads : Reads identifier_at identifier IsIdentifier
unfolding identifier_at
identifier_reads = record { takes = takes; again = again }
  where
    takes : (bytes : List ℕ) (x : Identifier × List ℕ) → IsBytes bytes → identifier_at bytes ≡ Ok x → Takes bytes (identifier x.0) x.1 × IsIdentifier x.0
    takes [] x fits e = absurd cc
    takes (zero ∷ bytes) x fits e =
        let t = takes1 address_at address IsAddress address_reads node_end bytes x (IsBytes-rest 0 bytes fits) e in
        subst (λ (i : Identifier). Takes (0 ∷ bytes) (identifier i) x.1 × IsIdentifier i) t.made (Takes-after 0 bytes (address t.first) x.1 t.takes, t.is)
    takes (suc zero ∷ bytes) x fits e =
        let t = takes1 process_at process IsProcess process_reads process_end bytes x (IsBytes-rest 1 bytes fits) e in
        subst (λ (i : Identifier). Takes (1 ∷ bytes) (identifier i) x.1 × IsIdentifier i) t.made (Takes-after 1 bytes (process t.first) x.1 t.takes, t.is)
    takes (suc (suc zero) ∷ bytes) x fits e =
        let t = takes1 port_at port IsPort port_reads port_end bytes x (IsBytes-rest 2 bytes fits) e in
        subst (λ (i : Identifier). Takes (2 ∷ bytes) (identifier i) x.1 × IsIdentifier i) t.made (Takes-after 2 bytes (port t.first) x.1 t.takes, t.is)
    takes (suc (suc (suc tag)) ∷ bytes) x fits e = absurd cc

    again : (i : Identifier) (rest : List ℕ) → IsIdentifier i → identifier_at (identifier i ++ rest) ≡ Ok (i, rest)
    again (ends.Node a) rest is = again1 address_at address IsAddress address_reads node_end a rest is
    again (ends.Process p) rest is = again1 process_at process IsProcess process_reads process_end p rest is
    again (ends.Port p) rest is = again1 port_at port IsPort port_reads port_end p rest is

abbrev exception : List ℕ → Reason
exception text = reasons.Exception text

-- a reason that is its tag alone
tag_alone : (tag : ℕ) (bytes : List ℕ) (why : Reason) (x : Reason × List ℕ) → reason why ≡ tag ∷ [] → FitsReason why → IsBytes bytes → (why, bytes) ≡ x → Takes (tag ∷ bytes) (reason x.0) x.1 × FitsReason x.0
tag_alone tag bytes why x spelled is fits e =
    let t : Takes (tag ∷ bytes) (reason why) bytes = subst (λ (s : List ℕ). Takes (tag ∷ bytes) s bytes) (sym spelled) (record { parts = refl; rest_fits = fits }) in
    subst (λ (y : Reason × List ℕ). Takes (tag ∷ bytes) (reason y.0) y.1 × FitsReason y.0) e (t, is)

pub reason_reads : Reads reason_at reason FitsReason
unfolding reason_at
reason_reads = record { takes = takes; again = again }
  where
    takes : (bytes : List ℕ) (x : Reason × List ℕ) → IsBytes bytes → reason_at bytes ≡ Ok x → Takes bytes (reason x.0) x.1 × FitsReason x.0
    takes [] x fits e = absurd cc
    takes (zero ∷ bytes) x fits e = tag_alone 0 bytes reasons.Normal x refl tt (IsBytes-rest 0 bytes fits) (ok_is (reasons.Normal, bytes) x e)
    takes (suc zero ∷ bytes) x fits e =
        let t = takes1 text_at short IsText text_reads exception bytes x (IsBytes-rest 1 bytes fits) e in
        subst (λ (r : Reason). Takes (1 ∷ bytes) (reason r) x.1 × FitsReason r) t.made (Takes-after 1 bytes (short t.first) x.1 t.takes, t.is)
    takes (suc (suc zero) ∷ bytes) x fits e = tag_alone 2 bytes reasons.Disconnect x refl tt (IsBytes-rest 2 bytes fits) (ok_is (reasons.Disconnect, bytes) x e)
    takes (suc (suc (suc zero)) ∷ bytes) x fits e = tag_alone 3 bytes reasons.NodeDown x refl tt (IsBytes-rest 3 bytes fits) (ok_is (reasons.NodeDown, bytes) x e)
    takes (suc (suc (suc (suc zero))) ∷ bytes) x fits e = tag_alone 4 bytes reasons.UnknownId x refl tt (IsBytes-rest 4 bytes fits) (ok_is (reasons.UnknownId, bytes) x e)
    takes (suc (suc (suc (suc (suc tag)))) ∷ bytes) x fits e = absurd cc

    again : (why : Reason) (rest : List ℕ) → FitsReason why → reason_at (reason why ++ rest) ≡ Ok (why, rest)
    again reasons.Normal rest is = refl
    again (reasons.Exception text) rest is = again1 text_at short IsText text_reads exception text rest is
    again reasons.Disconnect rest is = refl
    again reasons.NodeDown rest is = refl
    again reasons.UnknownId rest is = refl

abbrev some : ProcessId → Option ProcessId
some p = Some p

abbrev nobody : Option ProcessId
nobody = None

pub found_reads : Reads found_at found IsFound
unfolding found_at
found_reads = record { takes = takes; again = again }
  where
    takes : (bytes : List ℕ) (x : Option ProcessId × List ℕ) → IsBytes bytes → found_at bytes ≡ Ok x → Takes bytes (found x.0) x.1 × IsFound x.0
    takes [] x fits e = absurd cc
    takes (zero ∷ bytes) x fits e =
        subst (λ (y : Option ProcessId × List ℕ). Takes (0 ∷ bytes) (found y.0) y.1 × IsFound y.0) (ok_is (nobody, bytes) x e) (record { parts = refl; rest_fits = IsBytes-rest 0 bytes fits }, tt)
    takes (suc zero ∷ bytes) x fits e =
        let t = takes1 process_at process IsProcess process_reads some bytes x (IsBytes-rest 1 bytes fits) e in
        subst (λ (o : Option ProcessId). Takes (1 ∷ bytes) (found o) x.1 × IsFound o) t.made (Takes-after 1 bytes (process t.first) x.1 t.takes, t.is)
    takes (suc (suc tag) ∷ bytes) x fits e = absurd cc

    again : (o : Option ProcessId) (rest : List ℕ) → IsFound o → found_at (found o ++ rest) ≡ Ok (o, rest)
    again None rest is = refl
    again (Some p) rest is = again1 process_at process IsProcess process_reads some p rest is
