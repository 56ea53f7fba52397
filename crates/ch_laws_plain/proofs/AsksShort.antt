-- The opening of a connection between processes at addresses that may be spelled fits in a frame.
use Rattle.std.proofs.Common.{◌≡◌, ◌≤◌, ℕ, suc, ◌+◌, List, [], ◌∷◌, ◌++◌, length, sym, ◌∙◌, subst, arith}
use Rattle.std.proofs.lemmas.List.{length-append}
use Rattle.ch_base.specs.Addresses.{IsAddress, address_text}
use Rattle.ch_base.specs.declared.address.Address.{Address}
use Rattle.ch_ident.specs.declared.identifier.ProcessId.{ProcessId}
use Rattle.ch_ident.specs.declared.identifier.Identifier.TheVariants as ends
use Rattle.ch_ident.specs.declared.node_message.NodeMessage.TheVariants.{Opening}
use Rattle.ch_ident.specs.Spelling.{number, address, process, identifier, message}
use Rattle.ch_wire.specs.declared.TheConstants.{MOST_PAYLOAD_BYTES}
use Rattle.ch_model.specs.declared.act.Act.{Act}
use Rattle.ch_model.specs.declared.act.Act.TheVariants as acts
use Rattle.ch_laws_plain_nodes.specs.Acts.{IsFirst, ArePlain, OpensNone, OpensTo}
use Rattle.ch_laws_plain.specs.Acts.{AreShort}

pub process_short : (p : ProcessId) → IsAddress p.node → length (process p) ≤ 89
process_short p a = fits (length (address_text p.node)) (length (address p.node ++ number p.unique)) (length (process p)) a.short (length-append (address p.node) (number p.unique)) (length-append (address p.node ++ number p.unique) (number p.counter)) where
  fits : (t f l : ℕ) → t ≤ 80 → f ≡ suc t + 4 → l ≡ f + 4 → l ≤ 89
  fits t f l s e g = omega arith

pub opening_short : (from to : ProcessId) → IsAddress from.node → IsAddress to.node → length (message (Opening (ends.Process from) (ends.Process to))) ≤ MOST_PAYLOAD_BYTES
opening_short from to a b = fits (length (process from)) (length (process to)) (length (identifier (ends.Process from) ++ identifier (ends.Process to))) (process_short from a) (process_short to b) (length-append (identifier (ends.Process from)) (identifier (ends.Process to))) where
  fits : (x y l : ℕ) → x ≤ 89 → y ≤ 89 → l ≡ suc x + suc y → suc l ≤ MOST_PAYLOAD_BYTES
  fits x y l s t e = omega arith

-- what opens nothing has no opening that is long
none_short : (done : List Act) → OpensNone done → AreShort done
none_short [] n = tt
none_short (acts.Note note ∷ rest) n = none_short rest n
none_short (acts.Open conn peer ∷ rest) n = absurd n
none_short (acts.Put conn payload weight ∷ rest) n = none_short rest n
none_short (acts.Close conn ∷ rest) n = none_short rest n

pub opens_none_to : (own peer : Address) (done : List Act) → OpensNone done → OpensTo own peer done
opens_none_to own peer [] n = tt
opens_none_to own peer (acts.Note note ∷ rest) n = opens_none_to own peer rest n
opens_none_to own peer (acts.Open conn at ∷ rest) n = absurd n
opens_none_to own peer (acts.Put conn payload weight ∷ rest) n = opens_none_to own peer rest n
opens_none_to own peer (acts.Close conn ∷ rest) n = opens_none_to own peer rest n

-- a plain node's acts are short, where its own address and that of its peer may be spelled
pub acts_short : (own peer : Address) (done : List Act) → IsAddress own → IsAddress peer → ArePlain own done → OpensTo own peer done → AreShort done
acts_short own peer [] a b plain opens = tt
acts_short own peer (acts.Note note ∷ rest) a b plain opens = acts_short own peer rest a b plain.1 opens
acts_short own peer (acts.Open conn at ∷ acts.Put on payload weight ∷ rest) a b plain opens = (subst (λ (l : List ℕ). length l ≤ MOST_PAYLOAD_BYTES) (sym first.spelled) (opening_short first.from first.to (subst IsAddress (sym first.from_node) a) (subst IsAddress (sym (first.to_node ∙ opens.0)) b)), none_short rest opens.2) where
  first : IsFirst own conn at on payload weight
  first = plain.0
acts_short own peer (acts.Open conn at ∷ []) a b plain opens = absurd plain
acts_short own peer (acts.Open conn at ∷ acts.Note note ∷ rest) a b plain opens = absurd plain
acts_short own peer (acts.Open conn at ∷ acts.Open on other ∷ rest) a b plain opens = absurd plain
acts_short own peer (acts.Open conn at ∷ acts.Close on ∷ rest) a b plain opens = absurd plain
acts_short own peer (acts.Put conn payload weight ∷ rest) a b plain opens = acts_short own peer rest a b plain.1 opens
acts_short own peer (acts.Close conn ∷ rest) a b plain opens = acts_short own peer rest a b plain opens
