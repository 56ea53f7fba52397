-- What each line of many nodes says: a declaration only before the first event line, a message no longer than the
-- line, and nothing by which all is settled.
use Rattle.std.specs.Prelude.{◌≡◌, ℕ, ◌+◌, ◌-◌, ◌≤◌, Bool, true, false, not, List, [], ◌∷◌, length, Option, Some, None, Result, Ok, Err, if◌then◌else◌, codes}
use Rattle.std.specs.List.{AllByRecursion}
use Rattle.std.specs.Str.{bytes_eq}
use Rattle.std.proofs.Common.{refl, sym, subst, arith}
use Rattle.ch_model.specs.declared.refusal.BadKind.{BadKind}
use Rattle.ch_model.specs.declared.refusal.BadKind.TheVariants.{Form, Late}
use Rattle.ch_model.specs.declared.refusal.LineFault.TheVariants.{TooLong}
use Rattle.ch_model.specs.declared.line.What.{What}
use Rattle.ch_model.specs.declared.line.What.TheVariants.{Node, Proc, Send, Recv, End, Join, Come, Feed}
use Rattle.ch_model.specs.Fields.{need, field_of, last_of, node_name_of, digits_of, address_of, end_of, sent_mark_of, bytes_of, number_in, count_in}
use Rattle.ch_model.specs.FieldsOfNames.{process_of, numbered, socket_of, numbered_socket}
use Rattle.ch_model.specs.LinesTold.{Told, untold, early_in, declared_in, peer_in, opener_in, new_name, new_address}
use Rattle.ch_model.specs.LinesDeclared.{place_line, node_line}
use Rattle.ch_model.specs.LinesOfProcesses.{process_alone, process_and_word, proc_line, recv_line, end_line}
use Rattle.ch_model.specs.LinesOfSockets.{socket_alone, join_line, come_line, feed_line}
use Rattle.ch_model.specs.Lines.{line_of_word, line_said, said_and_told, read_line, header}
use Rattle.ch_model.specs.LinesBuilt.{send_process_line, many_nodes}
use Rattle.ch_model.specs.Journal.{Scan, stopped, is_too_long, size_of, scan_from, scan_lines, longest_journal, longest_line}
use Rattle.ch_model.specs.World.{is_declaration}
use Rattle.ch_laws_one_node.specs.OneNode.{FitFrames}
use Rattle.ch_laws_one_node.proofs.Scans.{after_read, scan_is}
use Rattle.ch_laws_one_node.proofs.Reading.{Gives, then_gives, with_gives, if_gives}
use Rattle.ch_laws_one_node.proofs.Frames.{left, field_within, SaidWithin, send_within, longer, gives_more, framed, FitsOr, lines_framed}
use Rattle.ch_laws_lines.specs.InOrder.{DeclaresEarly, is_settling, SettlesNot, IsInOrder}
use Rattle.ch_laws_lines.proofs.Order.{all_in_order}

-- a line of many nodes, after what was told
abbrev pub IsOfMany : Told → What → Type 0
IsOfMany told (Node name address unique) = told.started ≡ false
IsOfMany told (Proc name) = Unit {0}
IsOfMany told (Send by to mark body) = Unit {0}
IsOfMany told (Recv by mark) = Unit {0}
IsOfMany told (End by) = Unit {0}
IsOfMany told (Join sock) = Unit {0}
IsOfMany told (Come sock) = Unit {0}
IsOfMany told (Feed sock end count) = Unit {0}
IsOfMany told what = ⊥

-- the same, with no message longer than so many bytes
abbrev Says : Told → ℕ → What → Type 0
Says told most what = IsOfMany told what × SaidWithin most what

early_gives : (told : Told) → Gives (λ (b : Bool). told.started ≡ false) (early_in told)
unfolding early_in
early_gives told = by_test told.started refl where
  by_test : (b : Bool) → told.started ≡ b → Gives (λ (x : Bool). told.started ≡ false) (need Late (not b) true)
  by_test true h = record { given = tt }
  by_test false h = record { given = h }

place_early : (told : Told) (rest : Option (List ℕ)) → Gives (λ place. told.started ≡ false) (place_line told rest)
unfolding place_line
place_early told rest =
    then_gives _ (field_of rest) _ λ name.
    then_gives _ (field_of name.1) _ λ address.
    then_gives _ (field_of address.1) _ λ unique.
    then_gives _ (last_of unique.1) _ λ last.
    then_gives _ (node_name_of name.0) _ λ named.
    then_gives _ (address_of address.0) _ λ at.
    then_gives _ (digits_of unique.0) _ λ digits.
    then_gives _ (number_in digits) _ λ number.
    with_gives _ _ (early_in told) _ (early_gives told) λ early is.
    then_gives _ (new_name told named) _ λ own.
    then_gives _ (new_address told at) _ λ place. record { given = is }

node_says : (told : Told) (most : ℕ) (rest : Option (List ℕ)) → Gives (Says told most) (node_line told rest)
unfolding node_line
node_says told most rest = with_gives _ _ (place_line told rest) _ (place_early told rest) λ place is. record { given = (is, tt) }

proc_says : (told : Told) (most : ℕ) (rest : Option (List ℕ)) → Gives (Says told most) (proc_line told rest)
unfolding proc_line
proc_says told most rest =
    then_gives _ (field_of rest) _ λ name.
    then_gives _ (last_of name.1) _ λ last.
    then_gives _ (node_name_of name.0) _ λ named.
    then_gives _ (declared_in told named) _ λ own. record { given = (tt, tt) }

recv_says : (told : Told) (most : ℕ) (rest : Option (List ℕ)) → Gives (Says told most) (recv_line told rest)
unfolding recv_line
recv_says told most rest = then_gives _ (process_and_word told rest) _ λ taker. record { given = (tt, tt) }

end_says : (told : Told) (most : ℕ) (rest : Option (List ℕ)) → Gives (Says told most) (end_line told rest)
unfolding end_line
end_says told most rest = then_gives _ (process_alone told rest) _ λ process. record { given = (tt, tt) }

join_says : (told : Told) (most : ℕ) (rest : Option (List ℕ)) → Gives (Says told most) (join_line told rest)
unfolding join_line
join_says told most rest = then_gives _ (socket_alone told rest) _ λ socket. record { given = (tt, tt) }

come_says : (told : Told) (most : ℕ) (rest : Option (List ℕ)) → Gives (Says told most) (come_line told rest)
unfolding come_line
come_says told most rest = then_gives _ (socket_alone told rest) _ λ socket. record { given = (tt, tt) }

feed_says : (told : Told) (most : ℕ) (rest : Option (List ℕ)) → Gives (Says told most) (feed_line told rest)
unfolding feed_line
feed_says told most rest =
    then_gives _ (field_of rest) _ λ sock.
    then_gives _ (field_of sock.1) _ λ letter.
    then_gives _ (field_of letter.1) _ λ count.
    then_gives _ (last_of count.1) _ λ last.
    then_gives _ (socket_of sock.0) _ λ parts.
    then_gives _ (end_of letter.0) _ λ end.
    then_gives _ (digits_of count.0) _ λ digits.
    then_gives _ (numbered_socket parts) _ λ socket.
    then_gives _ (count_in digits) _ λ number.
    then_gives _ (opener_in told socket.from) _ λ from.
    then_gives _ (peer_in told socket.to) _ λ to. record { given = (tt, tt) }

send_is : (told : Told) (rest : Option (List ℕ)) → Gives (IsOfMany told) (send_process_line told rest)
unfolding send_process_line
send_is told rest =
    then_gives _ (field_of rest) _ λ by.
    then_gives _ (field_of by.1) _ λ to.
    then_gives _ (field_of to.1) _ λ mark.
    then_gives _ (field_of mark.1) _ λ body.
    then_gives _ (last_of body.1) _ λ last.
    then_gives _ (process_of by.0) _ λ sender.
    then_gives _ (process_of to.0) _ λ receiver.
    then_gives _ (sent_mark_of mark.0) _ λ word.
    then_gives _ (bytes_of body.0) _ λ bytes.
    then_gives _ (numbered sender) _ λ from.
    then_gives _ (numbered receiver) _ λ goal.
    then_gives _ (declared_in told from.node) _ λ one.
    then_gives _ (declared_in told goal.node) _ λ other. record { given = tt }

-- the message of a line that sends is no longer than the line
send_says : (told : Told) (rest : Option (List ℕ)) → Gives (Says told (left rest)) (send_process_line told rest)
send_says told rest = both (send_process_line told rest) (send_is told rest) (send_within told rest) where
  both : (r : Result What BadKind) → Gives (IsOfMany told) r → Gives (SaidWithin (left rest)) r → Gives (Says told (left rest)) r
  both (Ok what) of within = record { given = (of.given, within.given) }
  both (Err kind) of within = record { given = tt }

word_says : (told : Told) (word : List ℕ) (rest : Option (List ℕ)) → Gives (Says told (left rest)) (line_of_word many_nodes.words told word rest)
unfolding line_of_word
word_says told word rest =
    if_gives _ (bytes_eq word (codes "send")) _ _ (send_says told rest) (
    if_gives _ (bytes_eq word (codes "recv")) _ _ (recv_says told (left rest) rest) (
    if_gives _ (bytes_eq word (codes "end")) _ _ (end_says told (left rest) rest) (
    if_gives _ (bytes_eq word (codes "feed")) _ _ (feed_says told (left rest) rest) (
    if_gives _ (bytes_eq word (codes "join")) _ _ (join_says told (left rest) rest) (
    if_gives _ (bytes_eq word (codes "come")) _ _ (come_says told (left rest) rest) (
    if_gives _ (bytes_eq word (codes "proc")) _ _ (proc_says told (left rest) rest) (
    if_gives _ (bytes_eq word (codes "node")) _ (Err Form) (node_says told (left rest) rest) (record { given = tt }))))))))

line_says : (told : Told) (text : List ℕ) → Gives (Says told (length text)) (line_said many_nodes told text)
unfolding line_said
line_says told text = with_gives _ _ (field_of (Some text)) _ (field_within (Some text)) λ word h.
    gives_more (Says told (left word.1)) (Says told (length text)) (λ what s. (s.0, longer (left word.1) (length text) what (second (length word.0) (left word.1) (length text) h) s.1)) (line_of_word many_nodes.words told word.0 word.1) (word_says told word.0 word.1) where
      second : (n k l : ℕ) → n + k ≤ l → k ≤ l
      second n k l h = omega arith

-- ---- a line that is read

-- what reading a line gives
abbrev pub ReadsMany : Told → ℕ → Option What × Told → Type 0
ReadsMany told most (None, after) = Unit {0}
ReadsMany told most (Some what, after) = Says told most what

pub reads_many : (told : Told) (text : List ℕ) → Gives (ReadsMany told (length text)) (read_line many_nodes told text)
reads_many told text = by_header told.header where
  by_said : (r : Result What BadKind) → Gives (Says told (length text)) r → Gives (ReadsMany told (length text)) (said_and_told told r)
  by_said (Ok what) says = record { given = says.given }
  by_said (Err kind) says = record { given = tt }

  by_header : (b : Bool) → Gives (ReadsMany told (length text)) (if b then said_and_told told (line_said many_nodes told text) else (if bytes_eq text header then Ok (None, record told { header = true }) else Err Form))
  by_header true = by_said (line_said many_nodes told text) (line_says told text)
  by_header false = if_gives _ (bytes_eq text header) _ (Err Form) (record { given = tt }) (record { given = tt })

early_of : (told : Told) (what : What) → IsOfMany told what → is_declaration what ≡ true → told.started ≡ false
early_of told (Node name address unique) of h = of
early_of told (Proc name) of h = cc
early_of told (Send by to mark body) of h = cc
early_of told (Recv by mark) of h = cc
early_of told (End by) of h = cc
early_of told (Join sock) of h = cc
early_of told (Come sock) of h = cc
early_of told (Feed sock end count) of h = cc
early_of told what of h = absurd of

settles_not_of : (told : Told) (what : What) → IsOfMany told what → is_settling what ≡ false
settles_not_of told (Node name address unique) of = refl
settles_not_of told (Proc name) of = refl
settles_not_of told (Send by to mark body) of = refl
settles_not_of told (Recv by mark) of = refl
settles_not_of told (End by) of = refl
settles_not_of told (Join sock) of = refl
settles_not_of told (Come sock) of = refl
settles_not_of told (Feed sock end count) of = refl
settles_not_of told what of = absurd of

-- the line that is read is of many nodes
pub of_many : (told after : Told) (text : List ℕ) (what : What) → read_line many_nodes told text ≡ Ok (Some what, after) → IsOfMany told what
of_many told after text what is = by_read (read_line many_nodes told text) is (reads_many told text) where
  by_read : (r : Result (Option What × Told) BadKind) → r ≡ Ok (Some what, after) → Gives (ReadsMany told (length text)) r → IsOfMany told what
  by_read r e g = (subst (λ (x : Result (Option What × Told) BadKind). Gives (ReadsMany told (length text)) x) e g).given.0

pub many_early : DeclaresEarly many_nodes
many_early told after text what is h = early_of told what (of_many told after text what is) h

pub many_settles_not : (told after : Told) (text : List ℕ) (what : What) → read_line many_nodes told text ≡ Ok (Some what, after) → is_settling what ≡ false
many_settles_not told after text what is = settles_not_of told what (of_many told after text what is)

-- ---- all lines

pub many_in_order : (raw : List (List ℕ × Bool)) → IsInOrder (scan_lines many_nodes raw).lines
many_in_order raw = all_in_order many_nodes many_early raw

lines_settle_not : (told : Told) (number room : ℕ) (raw : List (List ℕ × Bool)) → AllByRecursion SettlesNot (scan_from many_nodes told number room raw).lines
lines_settle_not told number room [] = tt
lines_settle_not told number room (line ∷ raw) =
    subst (λ s. AllByRecursion SettlesNot s.lines) (sym (scan_is many_nodes told number room line raw)) (by_long (is_too_long room line) (read_line many_nodes told line.0) refl (λ after. lines_settle_not after (number + 1) (room - size_of line) raw)) where
      after : Told → Scan
      after t = scan_from many_nodes t (number + 1) (room - size_of line) raw

      by_long : (b : Bool) (r : Result (Option What × Told) BadKind) → read_line many_nodes told line.0 ≡ r → ((t : Told) → AllByRecursion SettlesNot (after t).lines) → AllByRecursion SettlesNot (if b then stopped number TooLong else after_read many_nodes number (room - size_of line) raw r).lines
      by_long true r is rest = tt
      by_long false (Err kind) is rest = tt
      by_long false (Ok (None, t)) is rest = rest t
      by_long false (Ok (Some what, t)) is rest = (many_settles_not told t line.0 what is, rest t)

pub all_settle_not : (raw : List (List ℕ × Bool)) → AllByRecursion SettlesNot (scan_lines many_nodes raw).lines
all_settle_not [] = tt
all_settle_not (line ∷ raw) = lines_settle_not untold 1 longest_journal (line ∷ raw)

many_framed : (told : Told) (text : List ℕ) → length text ≤ longest_line → Gives FitsOr (read_line many_nodes told text)
many_framed told text short = gives_more (ReadsMany told (length text)) FitsOr fits (read_line many_nodes told text) (reads_many told text) where
  fits : (read : Option What × Told) → ReadsMany told (length text) read → FitsOr read
  fits (None, after) g = tt
  fits (Some what, after) g = framed (length text) what short g.1

pub all_many_framed : (raw : List (List ℕ × Bool)) → FitFrames (scan_lines many_nodes raw).lines
all_many_framed [] = tt
all_many_framed (line ∷ raw) = lines_framed many_nodes many_framed untold 1 longest_journal (line ∷ raw)
