-- Each word's reader reads the canonical text of what it read as that again, where every line is read.
use Rattle.std.proofs.Common.{◌≡◌, ℕ, true, not, List, [], ◌∷◌, ◌++◌, codes, Option, Some, Result, Ok, refl, sym, ap, subst, ◌∙◌}
use Rattle.std.specs.Str.{bytes_eq}
use Rattle.std.specs.Fmt.{decimal}
use Rattle.std.specs.List.{flat_map}
use Rattle.std.proofs.lemmas.List.{append-nil}
use Rattle.ch_base.specs.AddressValues.{AddressValue}
use Rattle.ch_base.specs.Addresses.{address_text}
use Rattle.ch_model.specs.declared.refusal.BadKind.{BadKind}
use Rattle.ch_model.specs.declared.refusal.BadKind.TheVariants.{Form, Late}
use Rattle.ch_model.specs.declared.name.End.{End}
use Rattle.ch_model.specs.declared.name.ProcName.{ProcName}
use Rattle.ch_model.specs.declared.name.SockName.{SockName}
use Rattle.ch_model.specs.declared.name.TargetName.{TargetName}
use Rattle.ch_model.specs.declared.line.What.{What}
use Rattle.ch_model.specs.declared.line.What.TheVariants as lines
use Rattle.ch_model.specs.Fields.{need, field_of, last_of, node_name_of, digits_of, word_of, sent_mark_of, bytes_of, address_of, host_of, end_of, text_of, number_in, count_in}
use Rattle.ch_model.specs.FieldsOfNames.{process_of, destination_of, named_of, reference_of, socket_of, numbered, numbered_destination, numbered_reference, numbered_socket, target_node}
use Rattle.ch_model.specs.LinesTold.{Told, early_in, declared_in, peer_in, stranger_in, opener_in, new_name, new_address, new_host, new_label}
use Rattle.ch_model.specs.LinesDeclared.{place_line, node_line, away_line, label_line, stranger_line}
use Rattle.ch_model.specs.LinesOfProcesses.{process_alone, process_and_word, proc_line, send_line, nsend_line, again_line, recv_line, port_line, take_line, end_line, fail_line, fall_line, register_line, unregister_line}
use Rattle.ch_model.specs.LinesOfPeers.{process_and_peer, process_peer_and_text, monitor_line, link_line, unwatch_line, exit_line, kill_line, spawn_line, whereis_line}
use Rattle.ch_model.specs.LinesOfSockets.{socket_alone, socket_and_end, shut_line, join_line, come_line, refuse_line, feed_line, cut_line, lose_line, late_line, knock_line, poke_line, quit_line, settle_line}
use Rattle.ch_model.specs.SpellingFields.{field, line_text_of, process_text, target_text, reference_text, socket_text, end_text, bytes_text}
use Rattle.ch_model.specs.Spelling.{what_text}
use Rattle.ch_journal.proofs.Parts.{lacks, field_again, field_alone, bind_ok, accepts, accepted_is}
use Rattle.ch_journal.proofs.Classes.{bytes_found, bytes_lacks, bytes_again}
use Rattle.ch_journal.proofs.Spelled.{tail, field_found, field_before, then_field, no_field, last_text, name_is, needed_is, word_is, mark_is, host_is, address_is, end_is, number_is, count_is, process_is, named_is, reference_is, socket_is, destination_is}

-- fields that are read as this, whose text with this word before them is its canonical text
pub record Respells (word : List ℕ) (reader : Option (List ℕ) → Result What BadKind) (what : What) : Type 0 where
  pub rest : Option (List ℕ)
  pub fields : List (List ℕ)
  pub again : reader rest ≡ Ok what
  pub is : what_text what ≡ line_text_of word fields
  pub spelled : tail rest ≡ flat_map field fields

-- every line that is read so is respelled
abbrev pub AllRespell : List ℕ → (Option (List ℕ) → Result What BadKind) → Type 0
AllRespell word reader = (rest : Option (List ℕ)) (what : What) → reader rest ≡ Ok what → Respells word reader what

-- a line whose text was canonical
as_it_was : (word : List ℕ) (reader : Option (List ℕ) → Result What BadKind) (rest : Option (List ℕ)) (fields : List (List ℕ)) (made what : What) → reader rest ≡ Ok what → made ≡ what → what_text made ≡ line_text_of word fields → tail rest ≡ flat_map field fields → Respells word reader what
as_it_was word reader rest fields made what e m is spelled = record { rest = rest; fields = fields; again = e; is = ap what_text (sym m) ∙ is; spelled = spelled }

-- a field with what it spells, before a text that is spelled
spelled_before : (front : List ℕ) (rest : Option (List ℕ)) (others : List (List ℕ)) {text : List ℕ} → front ≡ text → tail rest ≡ flat_map field others → tail (Some (front ++ tail rest)) ≡ flat_map field (text ∷ others)
spelled_before front rest others {text} is more = ap (λ l. 32 ∷ (front ++ l)) more ∙ ap (λ l. 32 ∷ (l ++ flat_map field others)) is

-- ---- asked of what was told

declared_is : (told : Told) {x y : List ℕ} → declared_in told x ≡ Ok y → x ≡ y
unfolding declared_in
declared_is told e = needed_is _ _ e

peer_is : (told : Told) {x y : List ℕ} → peer_in told x ≡ Ok y → x ≡ y
unfolding peer_in
peer_is told e = needed_is _ _ e

stranger_is : (told : Told) {x y : List ℕ} → stranger_in told x ≡ Ok y → x ≡ y
unfolding stranger_in
stranger_is told e = needed_is _ _ e

new_name_is : (told : Told) {x y : List ℕ} → new_name told x ≡ Ok y → x ≡ y
unfolding new_name
new_name_is told e = needed_is _ _ e

new_address_is : (told : Told) {x y : AddressValue} → new_address told x ≡ Ok y → x ≡ y
unfolding new_address
new_address_is told e = needed_is _ _ e

new_host_is : (told : Told) {x y : List ℕ} → new_host told x ≡ Ok y → x ≡ y
unfolding new_host
new_host_is told e = needed_is _ _ e

new_label_is : (told : Told) (n : List ℕ) {x y : List ℕ} → new_label told n x ≡ Ok y → x ≡ y
unfolding new_label
new_label_is told n e = needed_is _ _ e

-- ---- shapes that several lines share

alone_spelled : (told : Told) (rest : Option (List ℕ)) (p : ProcName) → process_alone told rest ≡ Ok p → tail rest ≡ flat_map field (process_text p ∷ [])
unfolding process_alone
alone_spelled told rest p e =
    let by = bind_ok (field_of rest) _ p e in
    let last = bind_ok (last_of by.0.1) _ p by.2 in
    let actor = bind_ok (process_of by.0.0) _ p last.2 in
    let process = bind_ok (numbered actor.0) _ p actor.2 in
    let node = bind_ok (declared_in told process.0.node) _ p process.2 in
    let is : process.0 ≡ p = accepted_is _ p node.2 in
    then_field _ [] by.1 (process_is actor.1 process.1 ∙ ap process_text is) (no_field _ last.1)

worded_spelled : (told : Told) (rest : Option (List ℕ)) (p : ProcName × List ℕ) → process_and_word told rest ≡ Ok p → tail rest ≡ flat_map field (process_text p.0 ∷ p.1 ∷ [])
unfolding process_and_word
worded_spelled told rest p e =
    let by = bind_ok (field_of rest) _ p e in
    let mark = bind_ok (field_of by.0.1) _ p by.2 in
    let last = bind_ok (last_of mark.0.1) _ p mark.2 in
    let actor = bind_ok (process_of by.0.0) _ p last.2 in
    let word = bind_ok (word_of mark.0.0) _ p actor.2 in
    let process = bind_ok (numbered actor.0) _ p word.2 in
    let node = bind_ok (declared_in told process.0.node) _ p process.2 in
    let is : (process.0, word.0) ≡ p = accepted_is _ p node.2 in
    then_field _ (word.0 ∷ []) by.1 (process_is actor.1 process.1) (then_field _ [] mark.1 (word_is word.1) (no_field _ last.1))
    ∙ ap (λ (t : ProcName × List ℕ). flat_map field (process_text t.0 ∷ t.1 ∷ [])) is

peer_spelled : (told : Told) (rest : Option (List ℕ)) (p : ProcName × ProcName) → process_and_peer told rest ≡ Ok p → tail rest ≡ flat_map field (process_text p.0 ∷ process_text p.1 ∷ [])
unfolding process_and_peer
peer_spelled told rest p e =
    let by = bind_ok (field_of rest) _ p e in
    let on = bind_ok (field_of by.0.1) _ p by.2 in
    let last = bind_ok (last_of on.0.1) _ p on.2 in
    let actor = bind_ok (process_of by.0.0) _ p last.2 in
    let target = bind_ok (process_of on.0.0) _ p actor.2 in
    let process = bind_ok (numbered actor.0) _ p target.2 in
    let peer = bind_ok (numbered target.0) _ p process.2 in
    let one = bind_ok (declared_in told process.0.node) _ p peer.2 in
    let other = bind_ok (peer_in told peer.0.node) _ p one.2 in
    let is : (process.0, peer.0) ≡ p = accepted_is _ p other.2 in
    then_field _ (process_text peer.0 ∷ []) by.1 (process_is actor.1 process.1) (then_field _ [] on.1 (process_is target.1 peer.1) (no_field _ last.1))
    ∙ ap (λ (t : ProcName × ProcName). flat_map field (process_text t.0 ∷ process_text t.1 ∷ [])) is

doom_spelled : (told : Told) (rest : Option (List ℕ)) (p : ProcName × ProcName × List ℕ) → process_peer_and_text told rest ≡ Ok p → tail rest ≡ flat_map field (process_text p.0 ∷ process_text p.1 ∷ p.2 ∷ [])
unfolding process_peer_and_text
doom_spelled told rest p e =
    let by = bind_ok (field_of rest) _ p e in
    let on = bind_ok (field_of by.0.1) _ p by.2 in
    let actor = bind_ok (process_of by.0.0) _ p on.2 in
    let target = bind_ok (process_of on.0.0) _ p actor.2 in
    let text = bind_ok (text_of on.0.1) _ p target.2 in
    let process = bind_ok (numbered actor.0) _ p text.2 in
    let peer = bind_ok (numbered target.0) _ p process.2 in
    let one = bind_ok (declared_in told process.0.node) _ p peer.2 in
    let other = bind_ok (peer_in told peer.0.node) _ p one.2 in
    let is : (process.0, peer.0, text.0) ≡ p = accepted_is _ p other.2 in
    then_field _ (process_text peer.0 ∷ text.0 ∷ []) by.1 (process_is actor.1 process.1) (then_field _ (text.0 ∷ []) on.1 (process_is target.1 peer.1) (last_text _ text.1))
    ∙ ap (λ (t : ProcName × ProcName × List ℕ). flat_map field (process_text t.0 ∷ process_text t.1 ∷ t.2 ∷ [])) is

socket_spelled : (told : Told) (rest : Option (List ℕ)) (s : SockName) → socket_alone told rest ≡ Ok s → tail rest ≡ flat_map field (socket_text s ∷ [])
unfolding socket_alone
socket_spelled told rest s e =
    let sock = bind_ok (field_of rest) _ s e in
    let last = bind_ok (last_of sock.0.1) _ s sock.2 in
    let parts = bind_ok (socket_of sock.0.0) _ s last.2 in
    let socket = bind_ok (numbered_socket parts.0) _ s parts.2 in
    let from = bind_ok (opener_in told socket.0.from) _ s socket.2 in
    let to = bind_ok (peer_in told socket.0.to) _ s from.2 in
    let is : socket.0 ≡ s = accepted_is _ s to.2 in
    then_field _ [] sock.1 (socket_is parts.1 socket.1 ∙ ap socket_text is) (no_field _ last.1)

place_spelled : (told : Told) (rest : Option (List ℕ)) (p : SockName × End) → socket_and_end told rest ≡ Ok p → tail rest ≡ flat_map field (socket_text p.0 ∷ end_text p.1 ∷ [])
unfolding socket_and_end
place_spelled told rest p e =
    let sock = bind_ok (field_of rest) _ p e in
    let letter = bind_ok (field_of sock.0.1) _ p sock.2 in
    let last = bind_ok (last_of letter.0.1) _ p letter.2 in
    let parts = bind_ok (socket_of sock.0.0) _ p last.2 in
    let end = bind_ok (end_of letter.0.0) _ p parts.2 in
    let socket = bind_ok (numbered_socket parts.0) _ p end.2 in
    let from = bind_ok (opener_in told socket.0.from) _ p socket.2 in
    let to = bind_ok (peer_in told socket.0.to) _ p from.2 in
    let is : (socket.0, end.0) ≡ p = accepted_is _ p to.2 in
    then_field _ (end_text end.0 ∷ []) sock.1 (socket_is parts.1 socket.1) (then_field _ [] letter.1 (end_is end.1) (no_field _ last.1))
    ∙ ap (λ (t : SockName × End). flat_map field (socket_text t.0 ∷ end_text t.1 ∷ [])) is

declares_spelled : (told : Told) (rest : Option (List ℕ)) (p : List ℕ × AddressValue × ℕ) → place_line told rest ≡ Ok p → tail rest ≡ flat_map field (p.0 ∷ address_text p.1 ∷ decimal p.2 ∷ [])
unfolding place_line
declares_spelled told rest p e =
    let name = bind_ok (field_of rest) _ p e in
    let address = bind_ok (field_of name.0.1) _ p name.2 in
    let unique = bind_ok (field_of address.0.1) _ p address.2 in
    let last = bind_ok (last_of unique.0.1) _ p unique.2 in
    let named = bind_ok (node_name_of name.0.0) _ p last.2 in
    let place = bind_ok (address_of address.0.0) _ p named.2 in
    let digits = bind_ok (digits_of unique.0.0) _ p place.2 in
    let number = bind_ok (number_in digits.0) _ p digits.2 in
    let early = bind_ok (early_in told) _ p number.2 in
    let own = bind_ok (new_name told named.0) _ p early.2 in
    let at = bind_ok (new_address told place.0) _ p own.2 in
    let is : (own.0, at.0, number.0) ≡ p = accepted_is _ p at.2 in
    then_field _ (address_text at.0 ∷ decimal number.0 ∷ []) name.1 (name_is named.1 ∙ new_name_is _ own.1) (then_field _ (decimal number.0 ∷ []) address.1 (address_is place.1 ∙ ap address_text (new_address_is _ at.1)) (then_field _ [] unique.1 (number_is digits.1 number.1) (no_field _ last.1)))
    ∙ ap (λ (t : List ℕ × AddressValue × ℕ). flat_map field (t.0 ∷ address_text t.1 ∷ decimal t.2 ∷ [])) is

-- ---- each word

pub node_respells : (told : Told) → AllRespell (codes "node") (node_line told)
unfolding node_line
node_respells told rest what e =
    let p = bind_ok (place_line told rest) _ what e in
    let is : lines.Node p.0.0 p.0.1 p.0.2 ≡ what = accepted_is _ what p.2 in
    as_it_was (codes "node") (node_line told) rest (p.0.0 ∷ address_text p.0.1 ∷ decimal p.0.2 ∷ []) (lines.Node p.0.0 p.0.1 p.0.2) what e is refl (declares_spelled told rest p.0 p.1)

pub away_respells : (told : Told) → AllRespell (codes "away") (away_line told)
unfolding away_line
away_respells told rest what e =
    let p = bind_ok (place_line told rest) _ what e in
    let is : lines.Away p.0.0 p.0.1 p.0.2 ≡ what = accepted_is _ what p.2 in
    as_it_was (codes "away") (away_line told) rest (p.0.0 ∷ address_text p.0.1 ∷ decimal p.0.2 ∷ []) (lines.Away p.0.0 p.0.1 p.0.2) what e is refl (declares_spelled told rest p.0 p.1)

pub label_respells : (told : Told) → AllRespell (codes "label") (label_line told)
unfolding label_line
label_respells told rest what e =
    let name = bind_ok (field_of rest) _ what e in
    let label = bind_ok (field_of name.0.1) _ what name.2 in
    let last = bind_ok (last_of label.0.1) _ what label.2 in
    let named = bind_ok (node_name_of name.0.0) _ what last.2 in
    let word = bind_ok (word_of label.0.0) _ what named.2 in
    let early = bind_ok (early_in told) _ what word.2 in
    let node = bind_ok (declared_in told named.0) _ what early.2 in
    let fresh = bind_ok (new_label told node.0 word.0) _ what node.2 in
    let is : lines.Label node.0 fresh.0 ≡ what = accepted_is _ what fresh.2 in
    as_it_was (codes "label") (label_line told) rest (node.0 ∷ fresh.0 ∷ []) (lines.Label node.0 fresh.0) what e is refl (then_field _ (fresh.0 ∷ []) name.1 (name_is named.1 ∙ declared_is _ node.1) (then_field _ [] label.1 (word_is word.1 ∙ new_label_is _ _ fresh.1) (no_field _ last.1)))

pub stranger_respells : (told : Told) → AllRespell (codes "stranger") (stranger_line told)
unfolding stranger_line
stranger_respells told rest what e =
    let name = bind_ok (field_of rest) _ what e in
    let host = bind_ok (field_of name.0.1) _ what name.2 in
    let last = bind_ok (last_of host.0.1) _ what host.2 in
    let named = bind_ok (node_name_of name.0.0) _ what last.2 in
    let text = bind_ok (host_of host.0.0) _ what named.2 in
    let early = bind_ok (early_in told) _ what text.2 in
    let own = bind_ok (new_name told named.0) _ what early.2 in
    let place = bind_ok (new_host told text.0) _ what own.2 in
    let is : lines.Stranger own.0 place.0 ≡ what = accepted_is _ what place.2 in
    as_it_was (codes "stranger") (stranger_line told) rest (own.0 ∷ place.0 ∷ []) (lines.Stranger own.0 place.0) what e is refl (then_field _ (place.0 ∷ []) name.1 (name_is named.1 ∙ new_name_is _ own.1) (then_field _ [] host.1 (host_is text.1 ∙ new_host_is _ place.1) (no_field _ last.1)))

pub proc_respells : (told : Told) → AllRespell (codes "proc") (proc_line told)
unfolding proc_line
proc_respells told rest what e =
    let name = bind_ok (field_of rest) _ what e in
    let last = bind_ok (last_of name.0.1) _ what name.2 in
    let named = bind_ok (node_name_of name.0.0) _ what last.2 in
    let node = bind_ok (declared_in told named.0) _ what named.2 in
    let is : lines.Proc node.0 ≡ what = accepted_is _ what node.2 in
    as_it_was (codes "proc") (proc_line told) rest (node.0 ∷ []) (lines.Proc node.0) what e is refl (then_field _ [] name.1 (name_is named.1 ∙ declared_is _ node.1) (no_field _ last.1))

pub shut_respells : (told : Told) → AllRespell (codes "shut") (shut_line told)
unfolding shut_line
shut_respells told rest what e =
    let name = bind_ok (field_of rest) _ what e in
    let last = bind_ok (last_of name.0.1) _ what name.2 in
    let named = bind_ok (node_name_of name.0.0) _ what last.2 in
    let node = bind_ok (declared_in told named.0) _ what named.2 in
    let is : lines.Shut node.0 ≡ what = accepted_is _ what node.2 in
    as_it_was (codes "shut") (shut_line told) rest (node.0 ∷ []) (lines.Shut node.0) what e is refl (then_field _ [] name.1 (name_is named.1 ∙ declared_is _ node.1) (no_field _ last.1))

pub port_respells : (told : Told) → AllRespell (codes "port") (port_line told)
unfolding port_line
port_respells told rest what e =
    let p = bind_ok (process_alone told rest) _ what e in
    let is : lines.Port p.0 ≡ what = accepted_is _ what p.2 in
    as_it_was (codes "port") (port_line told) rest (process_text p.0 ∷ []) (lines.Port p.0) what e is refl (alone_spelled told rest p.0 p.1)

pub end_respells : (told : Told) → AllRespell (codes "end") (end_line told)
unfolding end_line
end_respells told rest what e =
    let p = bind_ok (process_alone told rest) _ what e in
    let is : lines.End p.0 ≡ what = accepted_is _ what p.2 in
    as_it_was (codes "end") (end_line told) rest (process_text p.0 ∷ []) (lines.End p.0) what e is refl (alone_spelled told rest p.0 p.1)

pub fall_respells : (told : Told) → AllRespell (codes "fall") (fall_line told)
unfolding fall_line
fall_respells told rest what e =
    let p = bind_ok (process_alone told rest) _ what e in
    let is : lines.Fall p.0 ≡ what = accepted_is _ what p.2 in
    as_it_was (codes "fall") (fall_line told) rest (process_text p.0 ∷ []) (lines.Fall p.0) what e is refl (alone_spelled told rest p.0 p.1)

pub recv_respells : (told : Told) → AllRespell (codes "recv") (recv_line told)
unfolding recv_line
recv_respells told rest what e =
    let p = bind_ok (process_and_word told rest) _ what e in
    let is : lines.Recv p.0.0 p.0.1 ≡ what = accepted_is _ what p.2 in
    as_it_was (codes "recv") (recv_line told) rest (process_text p.0.0 ∷ p.0.1 ∷ []) (lines.Recv p.0.0 p.0.1) what e is refl (worded_spelled told rest p.0 p.1)

pub register_respells : (told : Told) → AllRespell (codes "register") (register_line told)
unfolding register_line
register_respells told rest what e =
    let p = bind_ok (process_and_word told rest) _ what e in
    let is : lines.Register p.0.0 p.0.1 ≡ what = accepted_is _ what p.2 in
    as_it_was (codes "register") (register_line told) rest (process_text p.0.0 ∷ p.0.1 ∷ []) (lines.Register p.0.0 p.0.1) what e is refl (worded_spelled told rest p.0 p.1)

pub unregister_respells : (told : Told) → AllRespell (codes "unregister") (unregister_line told)
unfolding unregister_line
unregister_respells told rest what e =
    let p = bind_ok (process_and_word told rest) _ what e in
    let is : lines.Unregister p.0.0 p.0.1 ≡ what = accepted_is _ what p.2 in
    as_it_was (codes "unregister") (unregister_line told) rest (process_text p.0.0 ∷ p.0.1 ∷ []) (lines.Unregister p.0.0 p.0.1) what e is refl (worded_spelled told rest p.0 p.1)

pub monitor_respells : (told : Told) → AllRespell (codes "monitor") (monitor_line told)
unfolding monitor_line
monitor_respells told rest what e =
    let p = bind_ok (process_and_peer told rest) _ what e in
    let is : lines.Monitor p.0.0 p.0.1 ≡ what = accepted_is _ what p.2 in
    as_it_was (codes "monitor") (monitor_line told) rest (process_text p.0.0 ∷ process_text p.0.1 ∷ []) (lines.Monitor p.0.0 p.0.1) what e is refl (peer_spelled told rest p.0 p.1)

pub link_respells : (told : Told) → AllRespell (codes "link") (link_line told)
unfolding link_line
link_respells told rest what e =
    let p = bind_ok (process_and_peer told rest) _ what e in
    let is : lines.Link p.0.0 p.0.1 ≡ what = accepted_is _ what p.2 in
    as_it_was (codes "link") (link_line told) rest (process_text p.0.0 ∷ process_text p.0.1 ∷ []) (lines.Link p.0.0 p.0.1) what e is refl (peer_spelled told rest p.0 p.1)

pub exit_respells : (told : Told) → AllRespell (codes "exit") (exit_line told)
unfolding exit_line
exit_respells told rest what e =
    let p = bind_ok (process_peer_and_text told rest) _ what e in
    let is : lines.Exit p.0.0 p.0.1 p.0.2 ≡ what = accepted_is _ what p.2 in
    as_it_was (codes "exit") (exit_line told) rest (process_text p.0.0 ∷ process_text p.0.1 ∷ p.0.2 ∷ []) (lines.Exit p.0.0 p.0.1 p.0.2) what e is refl (doom_spelled told rest p.0 p.1)

pub kill_respells : (told : Told) → AllRespell (codes "kill") (kill_line told)
unfolding kill_line
kill_respells told rest what e =
    let p = bind_ok (process_peer_and_text told rest) _ what e in
    let is : lines.Kill p.0.0 p.0.1 p.0.2 ≡ what = accepted_is _ what p.2 in
    as_it_was (codes "kill") (kill_line told) rest (process_text p.0.0 ∷ process_text p.0.1 ∷ p.0.2 ∷ []) (lines.Kill p.0.0 p.0.1 p.0.2) what e is refl (doom_spelled told rest p.0 p.1)

pub join_respells : (told : Told) → AllRespell (codes "join") (join_line told)
unfolding join_line
join_respells told rest what e =
    let p = bind_ok (socket_alone told rest) _ what e in
    let is : lines.Join p.0 ≡ what = accepted_is _ what p.2 in
    as_it_was (codes "join") (join_line told) rest (socket_text p.0 ∷ []) (lines.Join p.0) what e is refl (socket_spelled told rest p.0 p.1)

pub come_respells : (told : Told) → AllRespell (codes "come") (come_line told)
unfolding come_line
come_respells told rest what e =
    let p = bind_ok (socket_alone told rest) _ what e in
    let is : lines.Come p.0 ≡ what = accepted_is _ what p.2 in
    as_it_was (codes "come") (come_line told) rest (socket_text p.0 ∷ []) (lines.Come p.0) what e is refl (socket_spelled told rest p.0 p.1)

pub refuse_respells : (told : Told) → AllRespell (codes "refuse") (refuse_line told)
unfolding refuse_line
refuse_respells told rest what e =
    let p = bind_ok (socket_alone told rest) _ what e in
    let is : lines.Refuse p.0 ≡ what = accepted_is _ what p.2 in
    as_it_was (codes "refuse") (refuse_line told) rest (socket_text p.0 ∷ []) (lines.Refuse p.0) what e is refl (socket_spelled told rest p.0 p.1)

pub cut_respells : (told : Told) → AllRespell (codes "cut") (cut_line told)
unfolding cut_line
cut_respells told rest what e =
    let p = bind_ok (socket_and_end told rest) _ what e in
    let is : lines.Cut p.0.0 p.0.1 ≡ what = accepted_is _ what p.2 in
    as_it_was (codes "cut") (cut_line told) rest (socket_text p.0.0 ∷ end_text p.0.1 ∷ []) (lines.Cut p.0.0 p.0.1) what e is refl (place_spelled told rest p.0 p.1)

pub lose_respells : (told : Told) → AllRespell (codes "lose") (lose_line told)
unfolding lose_line
lose_respells told rest what e =
    let p = bind_ok (socket_and_end told rest) _ what e in
    let is : lines.Lose p.0.0 p.0.1 ≡ what = accepted_is _ what p.2 in
    as_it_was (codes "lose") (lose_line told) rest (socket_text p.0.0 ∷ end_text p.0.1 ∷ []) (lines.Lose p.0.0 p.0.1) what e is refl (place_spelled told rest p.0 p.1)

pub again_respells : (told : Told) → AllRespell (codes "again") (again_line told)
unfolding again_line
again_respells told rest what e =
    let by = bind_ok (field_of rest) _ what e in
    let to = bind_ok (field_of by.0.1) _ what by.2 in
    let last = bind_ok (last_of to.0.1) _ what to.2 in
    let sender = bind_ok (process_of by.0.0) _ what last.2 in
    let receiver = bind_ok (destination_of to.0.0) _ what sender.2 in
    let from = bind_ok (numbered sender.0) _ what receiver.2 in
    let goal = bind_ok (numbered_destination receiver.0) _ what from.2 in
    let one = bind_ok (declared_in told from.0.node) _ what goal.2 in
    let other = bind_ok (peer_in told (target_node goal.0)) _ what one.2 in
    let is : lines.Again from.0 goal.0 ≡ what = accepted_is _ what other.2 in
    as_it_was (codes "again") (again_line told) rest (process_text from.0 ∷ target_text goal.0 ∷ []) (lines.Again from.0 goal.0) what e is refl (then_field _ (target_text goal.0 ∷ []) by.1 (process_is sender.1 from.1) (then_field _ [] to.1 (destination_is receiver.1 goal.1) (no_field _ last.1)))

pub take_respells : (told : Told) → AllRespell (codes "take") (take_line told)
unfolding take_line
take_respells told rest what e =
    let by = bind_ok (field_of rest) _ what e in
    let port = bind_ok (field_of by.0.1) _ what by.2 in
    let last = bind_ok (last_of port.0.1) _ what port.2 in
    let taker = bind_ok (process_of by.0.0) _ what last.2 in
    let digits = bind_ok (digits_of port.0.0) _ what taker.2 in
    let process = bind_ok (numbered taker.0) _ what digits.2 in
    let number = bind_ok (number_in digits.0) _ what process.2 in
    let node = bind_ok (declared_in told process.0.node) _ what number.2 in
    let is : lines.Take process.0 number.0 ≡ what = accepted_is _ what node.2 in
    as_it_was (codes "take") (take_line told) rest (process_text process.0 ∷ decimal number.0 ∷ []) (lines.Take process.0 number.0) what e is refl (then_field _ (decimal number.0 ∷ []) by.1 (process_is taker.1 process.1) (then_field _ [] port.1 (number_is digits.1 number.1) (no_field _ last.1)))

pub fail_respells : (told : Told) → AllRespell (codes "fail") (fail_line told)
unfolding fail_line
fail_respells told rest what e =
    let by = bind_ok (field_of rest) _ what e in
    let actor = bind_ok (process_of by.0.0) _ what by.2 in
    let text = bind_ok (text_of by.0.1) _ what actor.2 in
    let process = bind_ok (numbered actor.0) _ what text.2 in
    let node = bind_ok (declared_in told process.0.node) _ what process.2 in
    let is : lines.Fail process.0 text.0 ≡ what = accepted_is _ what node.2 in
    as_it_was (codes "fail") (fail_line told) rest (process_text process.0 ∷ text.0 ∷ []) (lines.Fail process.0 text.0) what e is refl (then_field _ (text.0 ∷ []) by.1 (process_is actor.1 process.1) (last_text _ text.1))

pub unwatch_respells : (told : Told) → AllRespell (codes "unwatch") (unwatch_line told)
unfolding unwatch_line
unwatch_respells told rest what e =
    let by = bind_ok (field_of rest) _ what e in
    let watch = bind_ok (field_of by.0.1) _ what by.2 in
    let last = bind_ok (last_of watch.0.1) _ what watch.2 in
    let actor = bind_ok (process_of by.0.0) _ what last.2 in
    let asked = bind_ok (reference_of watch.0.0) _ what actor.2 in
    let process = bind_ok (numbered actor.0) _ what asked.2 in
    let reference = bind_ok (numbered_reference asked.0) _ what process.2 in
    let one = bind_ok (declared_in told process.0.node) _ what reference.2 in
    let other = bind_ok (peer_in told reference.0.node) _ what one.2 in
    let is : lines.Unwatch process.0 reference.0 ≡ what = accepted_is _ what other.2 in
    as_it_was (codes "unwatch") (unwatch_line told) rest (process_text process.0 ∷ reference_text reference.0 ∷ []) (lines.Unwatch process.0 reference.0) what e is refl (then_field _ (reference_text reference.0 ∷ []) by.1 (process_is actor.1 process.1) (then_field _ [] watch.1 (reference_is asked.1 reference.1) (no_field _ last.1)))

pub whereis_respells : (told : Told) → AllRespell (codes "whereis") (whereis_line told)
unfolding whereis_line
whereis_respells told rest what e =
    let by = bind_ok (field_of rest) _ what e in
    let at = bind_ok (field_of by.0.1) _ what by.2 in
    let name = bind_ok (field_of at.0.1) _ what at.2 in
    let last = bind_ok (last_of name.0.1) _ what name.2 in
    let actor = bind_ok (process_of by.0.0) _ what last.2 in
    let named = bind_ok (node_name_of at.0.0) _ what actor.2 in
    let word = bind_ok (word_of name.0.0) _ what named.2 in
    let process = bind_ok (numbered actor.0) _ what word.2 in
    let one = bind_ok (declared_in told process.0.node) _ what process.2 in
    let node = bind_ok (peer_in told named.0) _ what one.2 in
    let is : lines.Whereis process.0 node.0 word.0 ≡ what = accepted_is _ what node.2 in
    as_it_was (codes "whereis") (whereis_line told) rest (process_text process.0 ∷ node.0 ∷ word.0 ∷ []) (lines.Whereis process.0 node.0 word.0) what e is refl (then_field _ (node.0 ∷ word.0 ∷ []) by.1 (process_is actor.1 process.1) (then_field _ (word.0 ∷ []) at.1 (name_is named.1 ∙ peer_is _ node.1) (then_field _ [] name.1 (word_is word.1) (no_field _ last.1))))

pub feed_respells : (told : Told) → AllRespell (codes "feed") (feed_line told)
unfolding feed_line
feed_respells told rest what e =
    let sock = bind_ok (field_of rest) _ what e in
    let letter = bind_ok (field_of sock.0.1) _ what sock.2 in
    let count = bind_ok (field_of letter.0.1) _ what letter.2 in
    let last = bind_ok (last_of count.0.1) _ what count.2 in
    let parts = bind_ok (socket_of sock.0.0) _ what last.2 in
    let end = bind_ok (end_of letter.0.0) _ what parts.2 in
    let digits = bind_ok (digits_of count.0.0) _ what end.2 in
    let socket = bind_ok (numbered_socket parts.0) _ what digits.2 in
    let number = bind_ok (count_in digits.0) _ what socket.2 in
    let from = bind_ok (opener_in told socket.0.from) _ what number.2 in
    let to = bind_ok (peer_in told socket.0.to) _ what from.2 in
    let is : lines.Feed socket.0 end.0 number.0 ≡ what = accepted_is _ what to.2 in
    as_it_was (codes "feed") (feed_line told) rest (socket_text socket.0 ∷ end_text end.0 ∷ decimal number.0 ∷ []) (lines.Feed socket.0 end.0 number.0) what e is refl (then_field _ (end_text end.0 ∷ decimal number.0 ∷ []) sock.1 (socket_is parts.1 socket.1) (then_field _ (decimal number.0 ∷ []) letter.1 (end_is end.1) (then_field _ [] count.1 (count_is digits.1 number.1) (no_field _ last.1))))

pub late_respells : (told : Told) → AllRespell (codes "late") (late_line told)
unfolding late_line
late_respells told rest what e =
    let name = bind_ok (field_of rest) _ what e in
    let other = bind_ok (field_of name.0.1) _ what name.2 in
    let last = bind_ok (last_of other.0.1) _ what other.2 in
    let first = bind_ok (node_name_of name.0.0) _ what last.2 in
    let second = bind_ok (node_name_of other.0.0) _ what first.2 in
    let apart = bind_ok (need Form (not (bytes_eq first.0 second.0)) second.0) _ what second.2 in
    let node = bind_ok (declared_in told first.0) _ what apart.2 in
    let peer = bind_ok (peer_in told apart.0) _ what node.2 in
    let is : lines.Late node.0 peer.0 ≡ what = accepted_is _ what peer.2 in
    as_it_was (codes "late") (late_line told) rest (node.0 ∷ peer.0 ∷ []) (lines.Late node.0 peer.0) what e is refl (then_field _ (peer.0 ∷ []) name.1 (name_is first.1 ∙ declared_is _ node.1) (then_field _ [] other.1 (name_is second.1 ∙ needed_is _ _ apart.1 ∙ peer_is _ peer.1) (no_field _ last.1)))

pub knock_respells : (told : Told) → AllRespell (codes "knock") (knock_line told)
unfolding knock_line
knock_respells told rest what e =
    let name = bind_ok (field_of rest) _ what e in
    let other = bind_ok (field_of name.0.1) _ what name.2 in
    let last = bind_ok (last_of other.0.1) _ what other.2 in
    let first = bind_ok (node_name_of name.0.0) _ what last.2 in
    let second = bind_ok (node_name_of other.0.0) _ what first.2 in
    let stranger = bind_ok (stranger_in told first.0) _ what second.2 in
    let node = bind_ok (declared_in told second.0) _ what stranger.2 in
    let is : lines.Knock stranger.0 node.0 ≡ what = accepted_is _ what node.2 in
    as_it_was (codes "knock") (knock_line told) rest (stranger.0 ∷ node.0 ∷ []) (lines.Knock stranger.0 node.0) what e is refl (then_field _ (node.0 ∷ []) name.1 (name_is first.1 ∙ stranger_is _ stranger.1) (then_field _ [] other.1 (name_is second.1 ∙ declared_is _ node.1) (no_field _ last.1)))

pub quit_respells : (told : Told) → AllRespell (codes "quit") (quit_line told)
unfolding quit_line
quit_respells told rest what e =
    let sock = bind_ok (field_of rest) _ what e in
    let last = bind_ok (last_of sock.0.1) _ what sock.2 in
    let parts = bind_ok (socket_of sock.0.0) _ what last.2 in
    let socket = bind_ok (numbered_socket parts.0) _ what parts.2 in
    let from = bind_ok (stranger_in told socket.0.from) _ what socket.2 in
    let to = bind_ok (peer_in told socket.0.to) _ what from.2 in
    let is : lines.Quit socket.0 ≡ what = accepted_is _ what to.2 in
    as_it_was (codes "quit") (quit_line told) rest (socket_text socket.0 ∷ []) (lines.Quit socket.0) what e is refl (then_field _ [] sock.1 (socket_is parts.1 socket.1) (no_field _ last.1))

pub settle_respells : (told : Told) → AllRespell (codes "settle") (settle_line told)
unfolding settle_line
settle_respells told rest what e =
    let last = bind_ok (last_of rest) _ what e in
    let is : lines.Settle ≡ what = accepted_is _ what last.2 in
    as_it_was (codes "settle") (settle_line told) rest [] lines.Settle what e is refl (no_field _ last.1)

-- ---- lines with bytes, whose digits are written in lower case

send_again : (told : Told) (by to mark body : List ℕ) (sender : List ℕ × List ℕ) (receiver : (List ℕ × List ℕ) × Option (List ℕ)) (word bytes : List ℕ) (from : ProcName) (goal : TargetName) (one other : List ℕ) → lacks 32 by ≡ true → lacks 32 to ≡ true → lacks 32 mark ≡ true → lacks 32 body ≡ true → process_of by ≡ Ok sender → destination_of to ≡ Ok receiver → sent_mark_of mark ≡ Ok word → bytes_of body ≡ Ok bytes → numbered sender ≡ Ok from → numbered_destination receiver ≡ Ok goal → declared_in told from.node ≡ Ok one → peer_in told (target_node goal) ≡ Ok other → send_line told (Some (by ++ 32 ∷ (to ++ 32 ∷ (mark ++ 32 ∷ body)))) ≡ Ok (lines.Send from goal word bytes)
unfolding send_line last_of
send_again told by to mark body sender receiver word bytes from goal one other h0 h1 h2 h3 e0 e1 e2 e3 e4 e5 e6 e7 = rw (
  field_again by (to ++ 32 ∷ (mark ++ 32 ∷ body)) h0,
  field_again to (mark ++ 32 ∷ body) h1,
  field_again mark body h2,
  field_alone body h3,
  e0,
  e1,
  e2,
  e3,
  e4,
  e5,
  e6,
  e7,
) refl

send_made : (told : Told) (rest : Option (List ℕ)) (by to mark body : List ℕ × Option (List ℕ)) (sender : List ℕ × List ℕ) (receiver : (List ℕ × List ℕ) × Option (List ℕ)) (word bytes : List ℕ) (from : ProcName) (goal : TargetName) (one other : List ℕ) → field_of rest ≡ Ok by → field_of by.1 ≡ Ok to → field_of to.1 ≡ Ok mark → field_of mark.1 ≡ Ok body → process_of by.0 ≡ Ok sender → destination_of to.0 ≡ Ok receiver → sent_mark_of mark.0 ≡ Ok word → bytes_of body.0 ≡ Ok bytes → numbered sender ≡ Ok from → numbered_destination receiver ≡ Ok goal → declared_in told from.node ≡ Ok one → peer_in told (target_node goal) ≡ Ok other → Respells (codes "send") (send_line told) (lines.Send from goal word bytes)
send_made told rest by to mark body sender receiver word bytes from goal one other f0 f1 f2 f3 e0 e1 e2 e3 e4 e5 e6 e7 =
    let kept = bytes_found body.0 bytes e3 in
    record { rest = Some (by.0 ++ 32 ∷ (to.0 ++ 32 ∷ (mark.0 ++ 32 ∷ (bytes_text bytes)))); fields = process_text from ∷ target_text goal ∷ word ∷ bytes_text bytes ∷ []; again = send_again told by.0 to.0 mark.0 (bytes_text bytes) sender receiver word bytes from goal one other (field_found rest by f0).free (field_found by.1 to f1).free (field_found to.1 mark f2).free (bytes_lacks bytes kept) e0 e1 e2 (bytes_again bytes kept) e4 e5 e6 e7; is = refl; spelled = spelled_before by.0 (Some (to.0 ++ 32 ∷ (mark.0 ++ 32 ∷ (bytes_text bytes)))) (target_text goal ∷ word ∷ bytes_text bytes ∷ []) (process_is e0 e4) (spelled_before to.0 (Some (mark.0 ++ 32 ∷ (bytes_text bytes))) (word ∷ bytes_text bytes ∷ []) (destination_is e1 e5) (spelled_before mark.0 (Some (bytes_text bytes)) (bytes_text bytes ∷ []) (mark_is e2) (ap (λ l. 32 ∷ l) (sym (append-nil (bytes_text bytes)))))) }

pub send_respells : (told : Told) → AllRespell (codes "send") (send_line told)
unfolding send_line
send_respells told rest what e =
    let by = bind_ok (field_of rest) _ what e in
    let to = bind_ok (field_of by.0.1) _ what by.2 in
    let mark = bind_ok (field_of to.0.1) _ what to.2 in
    let body = bind_ok (field_of mark.0.1) _ what mark.2 in
    let last = bind_ok (last_of body.0.1) _ what body.2 in
    let sender = bind_ok (process_of by.0.0) _ what last.2 in
    let receiver = bind_ok (destination_of to.0.0) _ what sender.2 in
    let word = bind_ok (sent_mark_of mark.0.0) _ what receiver.2 in
    let bytes = bind_ok (bytes_of body.0.0) _ what word.2 in
    let from = bind_ok (numbered sender.0) _ what bytes.2 in
    let goal = bind_ok (numbered_destination receiver.0) _ what from.2 in
    let one = bind_ok (declared_in told from.0.node) _ what goal.2 in
    let other = bind_ok (peer_in told (target_node goal.0)) _ what one.2 in
    let is : lines.Send from.0 goal.0 word.0 bytes.0 ≡ what = accepted_is _ what other.2 in
    subst (Respells (codes "send") (send_line told)) is (send_made told rest by.0 to.0 mark.0 body.0 sender.0 receiver.0 word.0 bytes.0 from.0 goal.0 one.0 other.0 by.1 to.1 mark.1 body.1 sender.1 receiver.1 word.1 bytes.1 from.1 goal.1 one.1 other.1)

nsend_again : (told : Told) (by to mark body : List ℕ) (sender : List ℕ × List ℕ) (goal : TargetName) (word bytes : List ℕ) (from : ProcName) (one other : List ℕ) → lacks 32 by ≡ true → lacks 32 to ≡ true → lacks 32 mark ≡ true → lacks 32 body ≡ true → process_of by ≡ Ok sender → named_of to ≡ Ok goal → sent_mark_of mark ≡ Ok word → bytes_of body ≡ Ok bytes → numbered sender ≡ Ok from → declared_in told from.node ≡ Ok one → peer_in told (target_node goal) ≡ Ok other → nsend_line told (Some (by ++ 32 ∷ (to ++ 32 ∷ (mark ++ 32 ∷ body)))) ≡ Ok (lines.Nsend from goal word bytes)
unfolding nsend_line last_of
nsend_again told by to mark body sender goal word bytes from one other h0 h1 h2 h3 e0 e1 e2 e3 e4 e5 e6 = rw (
  field_again by (to ++ 32 ∷ (mark ++ 32 ∷ body)) h0,
  field_again to (mark ++ 32 ∷ body) h1,
  field_again mark body h2,
  field_alone body h3,
  e0,
  e1,
  e2,
  e3,
  e4,
  e5,
  e6,
) refl

nsend_made : (told : Told) (rest : Option (List ℕ)) (by to mark body : List ℕ × Option (List ℕ)) (sender : List ℕ × List ℕ) (goal : TargetName) (word bytes : List ℕ) (from : ProcName) (one other : List ℕ) → field_of rest ≡ Ok by → field_of by.1 ≡ Ok to → field_of to.1 ≡ Ok mark → field_of mark.1 ≡ Ok body → process_of by.0 ≡ Ok sender → named_of to.0 ≡ Ok goal → sent_mark_of mark.0 ≡ Ok word → bytes_of body.0 ≡ Ok bytes → numbered sender ≡ Ok from → declared_in told from.node ≡ Ok one → peer_in told (target_node goal) ≡ Ok other → Respells (codes "nsend") (nsend_line told) (lines.Nsend from goal word bytes)
nsend_made told rest by to mark body sender goal word bytes from one other f0 f1 f2 f3 e0 e1 e2 e3 e4 e5 e6 =
    let kept = bytes_found body.0 bytes e3 in
    record { rest = Some (by.0 ++ 32 ∷ (to.0 ++ 32 ∷ (mark.0 ++ 32 ∷ (bytes_text bytes)))); fields = process_text from ∷ target_text goal ∷ word ∷ bytes_text bytes ∷ []; again = nsend_again told by.0 to.0 mark.0 (bytes_text bytes) sender goal word bytes from one other (field_found rest by f0).free (field_found by.1 to f1).free (field_found to.1 mark f2).free (bytes_lacks bytes kept) e0 e1 e2 (bytes_again bytes kept) e4 e5 e6; is = refl; spelled = spelled_before by.0 (Some (to.0 ++ 32 ∷ (mark.0 ++ 32 ∷ (bytes_text bytes)))) (target_text goal ∷ word ∷ bytes_text bytes ∷ []) (process_is e0 e4) (spelled_before to.0 (Some (mark.0 ++ 32 ∷ (bytes_text bytes))) (word ∷ bytes_text bytes ∷ []) (named_is e1) (spelled_before mark.0 (Some (bytes_text bytes)) (bytes_text bytes ∷ []) (mark_is e2) (ap (λ l. 32 ∷ l) (sym (append-nil (bytes_text bytes)))))) }

pub nsend_respells : (told : Told) → AllRespell (codes "nsend") (nsend_line told)
unfolding nsend_line
nsend_respells told rest what e =
    let by = bind_ok (field_of rest) _ what e in
    let to = bind_ok (field_of by.0.1) _ what by.2 in
    let mark = bind_ok (field_of to.0.1) _ what to.2 in
    let body = bind_ok (field_of mark.0.1) _ what mark.2 in
    let last = bind_ok (last_of body.0.1) _ what body.2 in
    let sender = bind_ok (process_of by.0.0) _ what last.2 in
    let goal = bind_ok (named_of to.0.0) _ what sender.2 in
    let word = bind_ok (sent_mark_of mark.0.0) _ what goal.2 in
    let bytes = bind_ok (bytes_of body.0.0) _ what word.2 in
    let from = bind_ok (numbered sender.0) _ what bytes.2 in
    let one = bind_ok (declared_in told from.0.node) _ what from.2 in
    let other = bind_ok (peer_in told (target_node goal.0)) _ what one.2 in
    let is : lines.Nsend from.0 goal.0 word.0 bytes.0 ≡ what = accepted_is _ what other.2 in
    subst (Respells (codes "nsend") (nsend_line told)) is (nsend_made told rest by.0 to.0 mark.0 body.0 sender.0 goal.0 word.0 bytes.0 from.0 one.0 other.0 by.1 to.1 mark.1 body.1 sender.1 goal.1 word.1 bytes.1 from.1 one.1 other.1)

spawn_again : (told : Told) (by at label args : List ℕ) (actor : List ℕ × List ℕ) (named word bytes : List ℕ) (process : ProcName) (one node : List ℕ) → lacks 32 by ≡ true → lacks 32 at ≡ true → lacks 32 label ≡ true → lacks 32 args ≡ true → process_of by ≡ Ok actor → node_name_of at ≡ Ok named → word_of label ≡ Ok word → bytes_of args ≡ Ok bytes → numbered actor ≡ Ok process → declared_in told process.node ≡ Ok one → peer_in told named ≡ Ok node → spawn_line told (Some (by ++ 32 ∷ (at ++ 32 ∷ (label ++ 32 ∷ args)))) ≡ Ok (lines.Spawn process node word bytes)
unfolding spawn_line last_of
spawn_again told by at label args actor named word bytes process one node h0 h1 h2 h3 e0 e1 e2 e3 e4 e5 e6 = rw (
  field_again by (at ++ 32 ∷ (label ++ 32 ∷ args)) h0,
  field_again at (label ++ 32 ∷ args) h1,
  field_again label args h2,
  field_alone args h3,
  e0,
  e1,
  e2,
  e3,
  e4,
  e5,
  e6,
) refl

spawn_made : (told : Told) (rest : Option (List ℕ)) (by at label args : List ℕ × Option (List ℕ)) (actor : List ℕ × List ℕ) (named word bytes : List ℕ) (process : ProcName) (one node : List ℕ) → field_of rest ≡ Ok by → field_of by.1 ≡ Ok at → field_of at.1 ≡ Ok label → field_of label.1 ≡ Ok args → process_of by.0 ≡ Ok actor → node_name_of at.0 ≡ Ok named → word_of label.0 ≡ Ok word → bytes_of args.0 ≡ Ok bytes → numbered actor ≡ Ok process → declared_in told process.node ≡ Ok one → peer_in told named ≡ Ok node → Respells (codes "spawn") (spawn_line told) (lines.Spawn process node word bytes)
spawn_made told rest by at label args actor named word bytes process one node f0 f1 f2 f3 e0 e1 e2 e3 e4 e5 e6 =
    let kept = bytes_found args.0 bytes e3 in
    record { rest = Some (by.0 ++ 32 ∷ (at.0 ++ 32 ∷ (label.0 ++ 32 ∷ (bytes_text bytes)))); fields = process_text process ∷ node ∷ word ∷ bytes_text bytes ∷ []; again = spawn_again told by.0 at.0 label.0 (bytes_text bytes) actor named word bytes process one node (field_found rest by f0).free (field_found by.1 at f1).free (field_found at.1 label f2).free (bytes_lacks bytes kept) e0 e1 e2 (bytes_again bytes kept) e4 e5 e6; is = refl; spelled = spelled_before by.0 (Some (at.0 ++ 32 ∷ (label.0 ++ 32 ∷ (bytes_text bytes)))) (node ∷ word ∷ bytes_text bytes ∷ []) (process_is e0 e4) (spelled_before at.0 (Some (label.0 ++ 32 ∷ (bytes_text bytes))) (word ∷ bytes_text bytes ∷ []) (name_is e1 ∙ peer_is _ e6) (spelled_before label.0 (Some (bytes_text bytes)) (bytes_text bytes ∷ []) (word_is e2) (ap (λ l. 32 ∷ l) (sym (append-nil (bytes_text bytes)))))) }

pub spawn_respells : (told : Told) → AllRespell (codes "spawn") (spawn_line told)
unfolding spawn_line
spawn_respells told rest what e =
    let by = bind_ok (field_of rest) _ what e in
    let at = bind_ok (field_of by.0.1) _ what by.2 in
    let label = bind_ok (field_of at.0.1) _ what at.2 in
    let args = bind_ok (field_of label.0.1) _ what label.2 in
    let last = bind_ok (last_of args.0.1) _ what args.2 in
    let actor = bind_ok (process_of by.0.0) _ what last.2 in
    let named = bind_ok (node_name_of at.0.0) _ what actor.2 in
    let word = bind_ok (word_of label.0.0) _ what named.2 in
    let bytes = bind_ok (bytes_of args.0.0) _ what word.2 in
    let process = bind_ok (numbered actor.0) _ what bytes.2 in
    let one = bind_ok (declared_in told process.0.node) _ what process.2 in
    let node = bind_ok (peer_in told named.0) _ what one.2 in
    let is : lines.Spawn process.0 node.0 word.0 bytes.0 ≡ what = accepted_is _ what node.2 in
    subst (Respells (codes "spawn") (spawn_line told)) is (spawn_made told rest by.0 at.0 label.0 args.0 actor.0 named.0 word.0 bytes.0 process.0 one.0 node.0 by.1 at.1 label.1 args.1 actor.1 named.1 word.1 bytes.1 process.1 one.1 node.1)

poke_again : (told : Told) (sock written : List ℕ) (parts : List ℕ × List ℕ × List ℕ) (bytes : List ℕ) (socket : SockName) (from to : List ℕ) → lacks 32 sock ≡ true → lacks 32 written ≡ true → socket_of sock ≡ Ok parts → bytes_of written ≡ Ok bytes → numbered_socket parts ≡ Ok socket → stranger_in told socket.from ≡ Ok from → peer_in told socket.to ≡ Ok to → poke_line told (Some (sock ++ 32 ∷ written)) ≡ Ok (lines.Poke socket bytes)
unfolding poke_line last_of
poke_again told sock written parts bytes socket from to h0 h1 e0 e1 e2 e3 e4 = rw (
  field_again sock written h0,
  field_alone written h1,
  e0,
  e1,
  e2,
  e3,
  e4,
) refl

poke_made : (told : Told) (rest : Option (List ℕ)) (sock written : List ℕ × Option (List ℕ)) (parts : List ℕ × List ℕ × List ℕ) (bytes : List ℕ) (socket : SockName) (from to : List ℕ) → field_of rest ≡ Ok sock → field_of sock.1 ≡ Ok written → socket_of sock.0 ≡ Ok parts → bytes_of written.0 ≡ Ok bytes → numbered_socket parts ≡ Ok socket → stranger_in told socket.from ≡ Ok from → peer_in told socket.to ≡ Ok to → Respells (codes "poke") (poke_line told) (lines.Poke socket bytes)
poke_made told rest sock written parts bytes socket from to f0 f1 e0 e1 e2 e3 e4 =
    let kept = bytes_found written.0 bytes e1 in
    record { rest = Some (sock.0 ++ 32 ∷ (bytes_text bytes)); fields = socket_text socket ∷ bytes_text bytes ∷ []; again = poke_again told sock.0 (bytes_text bytes) parts bytes socket from to (field_found rest sock f0).free (bytes_lacks bytes kept) e0 (bytes_again bytes kept) e2 e3 e4; is = refl; spelled = spelled_before sock.0 (Some (bytes_text bytes)) (bytes_text bytes ∷ []) (socket_is e0 e2) (ap (λ l. 32 ∷ l) (sym (append-nil (bytes_text bytes)))) }

pub poke_respells : (told : Told) → AllRespell (codes "poke") (poke_line told)
unfolding poke_line
poke_respells told rest what e =
    let sock = bind_ok (field_of rest) _ what e in
    let written = bind_ok (field_of sock.0.1) _ what sock.2 in
    let last = bind_ok (last_of written.0.1) _ what written.2 in
    let parts = bind_ok (socket_of sock.0.0) _ what last.2 in
    let bytes = bind_ok (bytes_of written.0.0) _ what parts.2 in
    let socket = bind_ok (numbered_socket parts.0) _ what bytes.2 in
    let from = bind_ok (stranger_in told socket.0.from) _ what socket.2 in
    let to = bind_ok (peer_in told socket.0.to) _ what from.2 in
    let is : lines.Poke socket.0 bytes.0 ≡ what = accepted_is _ what to.2 in
    subst (Respells (codes "poke") (poke_line told)) is (poke_made told rest sock.0 written.0 parts.0 bytes.0 socket.0 from.0 to.0 sock.1 written.1 parts.1 bytes.1 socket.1 from.1 to.1)
