-- The counters of the processes that a journal of many nodes names fit their words, as they were read.
use Rattle.std.specs.Prelude.{◌≡◌, ◌≤◌, ◌<◌, ◌^◌, ℕ, ◌+◌, ◌-◌, Bool, true, false, List, [], ◌∷◌, Option, Some, None, Result, Ok, Err, if◌then◌else◌, codes}
use Rattle.std.specs.Str.{bytes_eq}
use Rattle.std.proofs.Common.{refl, sym, subst, arith, lit<}
use Rattle.ch_base.specs.Numbers.{number_of}
use Rattle.ch_base.proofs.Numbers.{number_found}
use Rattle.ch_model.specs.declared.refusal.BadKind.{BadKind}
use Rattle.ch_model.specs.declared.refusal.BadKind.TheVariants.{Form, Number}
use Rattle.ch_model.specs.declared.refusal.LineFault.TheVariants.{TooLong}
use Rattle.ch_model.specs.declared.line.What.{What}
use Rattle.ch_model.specs.declared.name.ProcName.{ProcName}
use Rattle.ch_model.specs.Fields.{or_else, field_of, last_of, node_name_of, digits_of, end_of, sent_mark_of, bytes_of, number_in, count_in}
use Rattle.ch_model.specs.FieldsOfNames.{process_of, numbered, socket_of, numbered_socket}
use Rattle.ch_model.specs.Journal.{Scan, stopped, is_too_long, size_of, scan_from, scan_lines, longest_journal}
use Rattle.ch_model.specs.Lines.{line_of_word, line_said, said_and_told, read_line, header}
use Rattle.ch_model.specs.LinesBuilt.{send_process_line, many_nodes}
use Rattle.ch_model.specs.LinesDeclared.{place_line, node_line}
use Rattle.ch_model.specs.LinesOfProcesses.{process_alone, process_and_word, proc_line, recv_line, end_line}
use Rattle.ch_model.specs.LinesOfSockets.{socket_alone, join_line, come_line, feed_line}
use Rattle.ch_model.specs.LinesTold.{Told, untold, declared_in, peer_in, opener_in}
use Rattle.ch_laws_one_node.proofs.Reading.{Gives, then_gives, with_gives, if_gives}
use Rattle.ch_laws_one_node.proofs.Scans.{after_read, scan_is}
use Rattle.ch_laws_messages.specs.SendsSends.{IsSmall, AreSmall}

-- a number that was read is in its range
number_gives : (digits : List ℕ) → Gives (λ n. n < 2 ^ 32) (number_in digits)
unfolding number_in
number_gives digits = by_read (number_of 4294967295 digits) refl where
  by_read : (o : Option ℕ) → number_of 4294967295 digits ≡ o → Gives (λ n. n < 2 ^ 32) (or_else Number o)
  by_read None e = record { given = tt }
  by_read (Some n) e = let most : n ≤ 4294967295 = (number_found 4294967295 n digits (lit< tt) e).1 in let below : n < 4294967296 = omega (arith, most) in record { given = below }

process_gives : (process : List ℕ × List ℕ) → Gives (λ (p : ProcName). p.counter < 2 ^ 32) (numbered process)
unfolding numbered
process_gives process = with_gives _ _ (number_in process.1) _ (number_gives process.1) λ number is. record { given = is }

node_has : (told : Told) (rest : Option (List ℕ)) → Gives IsSmall (node_line told rest)
unfolding node_line
node_has told rest = then_gives _ (place_line told rest) _ λ place. record { given = tt }

proc_has : (told : Told) (rest : Option (List ℕ)) → Gives IsSmall (proc_line told rest)
unfolding proc_line
proc_has told rest =
    then_gives _ (field_of rest) _ λ name.
    then_gives _ (last_of name.1) _ λ last.
    then_gives _ (node_name_of name.0) _ λ named.
    then_gives _ (declared_in told named) _ λ own. record { given = tt }

recv_has : (told : Told) (rest : Option (List ℕ)) → Gives IsSmall (recv_line told rest)
unfolding recv_line
recv_has told rest = then_gives _ (process_and_word told rest) _ λ taker. record { given = tt }

end_has : (told : Told) (rest : Option (List ℕ)) → Gives IsSmall (end_line told rest)
unfolding end_line
end_has told rest = then_gives _ (process_alone told rest) _ λ process. record { given = tt }

send_has : (told : Told) (rest : Option (List ℕ)) → Gives IsSmall (send_process_line told rest)
unfolding send_process_line
send_has told rest =
    then_gives _ (field_of rest) _ λ by.
    then_gives _ (field_of by.1) _ λ to.
    then_gives _ (field_of to.1) _ λ mark.
    then_gives _ (field_of mark.1) _ λ body.
    then_gives _ (last_of body.1) _ λ last.
    then_gives _ (process_of by.0) _ λ sender.
    then_gives _ (process_of to.0) _ λ receiver.
    then_gives _ (sent_mark_of mark.0) _ λ word.
    then_gives _ (bytes_of body.0) _ λ bytes.
    with_gives _ _ (numbered sender) _ (process_gives sender) λ from first.
    with_gives _ _ (numbered receiver) _ (process_gives receiver) λ goal second.
    then_gives _ (declared_in told from.node) _ λ one.
    then_gives _ (declared_in told goal.node) _ λ other. record { given = (first, second) }

join_has : (told : Told) (rest : Option (List ℕ)) → Gives IsSmall (join_line told rest)
unfolding join_line
join_has told rest = then_gives _ (socket_alone told rest) _ λ socket. record { given = tt }

come_has : (told : Told) (rest : Option (List ℕ)) → Gives IsSmall (come_line told rest)
unfolding come_line
come_has told rest = then_gives _ (socket_alone told rest) _ λ socket. record { given = tt }

feed_has : (told : Told) (rest : Option (List ℕ)) → Gives IsSmall (feed_line told rest)
unfolding feed_line
feed_has told rest =
    then_gives _ (field_of rest) _ λ sock.
    then_gives _ (field_of sock.1) _ λ letter.
    then_gives _ (field_of letter.1) _ λ count.
    then_gives _ (last_of count.1) _ λ last.
    then_gives _ (socket_of sock.0) _ λ parts.
    then_gives _ (end_of letter.0) _ λ end.
    then_gives _ (digits_of count.0) _ λ digits.
    then_gives _ (numbered_socket parts) _ λ socket.
    then_gives _ (count_in digits) _ λ number.
    then_gives _ (opener_in told socket.from) _ λ from.
    then_gives _ (peer_in told socket.to) _ λ to. record { given = tt }

word_has : (told : Told) (word : List ℕ) (rest : Option (List ℕ)) → Gives IsSmall (line_of_word many_nodes.words told word rest)
unfolding line_of_word
word_has told word rest =
    if_gives _ (bytes_eq word (codes "send")) _ _ (send_has told rest) (
    if_gives _ (bytes_eq word (codes "recv")) _ _ (recv_has told rest) (
    if_gives _ (bytes_eq word (codes "end")) _ _ (end_has told rest) (
    if_gives _ (bytes_eq word (codes "feed")) _ _ (feed_has told rest) (
    if_gives _ (bytes_eq word (codes "join")) _ _ (join_has told rest) (
    if_gives _ (bytes_eq word (codes "come")) _ _ (come_has told rest) (
    if_gives _ (bytes_eq word (codes "proc")) _ _ (proc_has told rest) (
    if_gives _ (bytes_eq word (codes "node")) _ (Err Form) (node_has told rest) (record { given = tt }))))))))

line_has : (told : Told) (text : List ℕ) → Gives IsSmall (line_said many_nodes told text)
unfolding line_said
line_has told text = then_gives _ (field_of (Some text)) _ λ word. word_has told word.0 word.1

-- what reading a line gives
abbrev ReadsHave : Option What × Told → Type 0
ReadsHave (None, after) = Unit {0}
ReadsHave (Some what, after) = IsSmall what

reads_have : (told : Told) (text : List ℕ) → Gives ReadsHave (read_line many_nodes told text)
reads_have told text = by_header told.header where
  by_said : (r : Result What BadKind) → Gives IsSmall r → Gives ReadsHave (said_and_told told r)
  by_said (Ok what) has = record { given = has.given }
  by_said (Err kind) has = record { given = tt }

  by_header : (b : Bool) → Gives ReadsHave (if b then said_and_told told (line_said many_nodes told text) else (if bytes_eq text header then Ok (None, record told { header = true }) else Err Form))
  by_header true = by_said (line_said many_nodes told text) (line_has told text)
  by_header false = if_gives _ (bytes_eq text header) _ (Err Form) (record { given = tt }) (record { given = tt })

-- ---- the lines that are read

lines_have : (told : Told) (number room : ℕ) (raw : List (List ℕ × Bool)) → AreSmall (scan_from many_nodes told number room raw).lines
lines_have told number room [] = tt
lines_have told number room (line ∷ raw) =
    subst (λ s. AreSmall s.lines) (sym (scan_is many_nodes told number room line raw)) (by_long (is_too_long room line) (read_line many_nodes told line.0) (reads_have told line.0) (λ t. lines_have t (number + 1) (room - size_of line) raw)) where
      after : Told → Scan
      after t = scan_from many_nodes t (number + 1) (room - size_of line) raw

      by_long : (b : Bool) (r : Result (Option What × Told) BadKind) → Gives ReadsHave r → ((t : Told) → AreSmall (after t).lines) → AreSmall (if b then stopped number TooLong else after_read many_nodes number (room - size_of line) raw r).lines
      by_long true r has rest = tt
      by_long false (Err kind) has rest = tt
      by_long false (Ok (None, t)) has rest = rest t
      by_long false (Ok (Some what, t)) has rest = (has.given, rest t)

pub all_small : (raw : List (List ℕ × Bool)) → AreSmall (scan_lines many_nodes raw).lines
all_small [] = tt
all_small (line ∷ raw) = lines_have untold 1 longest_journal (line ∷ raw)
