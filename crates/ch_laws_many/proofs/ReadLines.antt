-- What each line of many nodes asks of those before it: that what it names is declared, and that what it declares is new.
use Rattle.std.specs.Prelude.{◌≡◌, ℕ, Bool, true, false, not, ◌||◌, List, Option, Some, None, Result, Ok, Err, nat_le, nat_lt, if◌then◌else◌, codes}
use Rattle.std.specs.List.{list_any}
use Rattle.std.specs.Str.{bytes_eq}
use Rattle.std.proofs.Common.{refl, ap, ◌∙◌}
use Rattle.ch_base.specs.Addresses.{at_least}
use Rattle.ch_base.specs.Numbers.{number_of}
use Rattle.ch_base.specs.declared.address.Address.{Address}
use Rattle.ch_model.specs.declared.refusal.BadKind.{BadKind}
use Rattle.ch_model.specs.declared.refusal.BadKind.TheVariants.{Form, Number, Undeclared, Repeated}
use Rattle.ch_model.specs.declared.line.What.{What}
use Rattle.ch_model.specs.declared.line.What.TheVariants as lines
use Rattle.ch_model.specs.declared.name.SockName.{SockName}
use Rattle.ch_model.specs.declared.name.TargetName.TheVariants as targets
use Rattle.ch_model.specs.Fields.{need, or_else, field_of, last_of, is_node_name_of, node_name_of, digits_of, address_of, end_of, word_of, sent_mark_of, bytes_of, number_in, count_in}
use Rattle.ch_model.specs.FieldsOfNames.{process_of, numbered, socket_of, numbered_socket}
use Rattle.ch_model.specs.LinesTold.{Told, declares_node, declares_away, declares_stranger, declares_name, takes_address, early_in, declared_in, peer_in, opener_in, new_name, new_address}
use Rattle.ch_model.specs.LinesDeclared.{place_line, node_line}
use Rattle.ch_model.specs.LinesOfProcesses.{process_alone, process_and_word, proc_line, recv_line, end_line}
use Rattle.ch_model.specs.LinesOfSockets.{socket_alone, join_line, come_line, feed_line}
use Rattle.ch_model.specs.Lines.{line_of_word, line_said, said_and_told, read_line, header}
use Rattle.ch_model.specs.LinesBuilt.{send_process_line, many_nodes}
use Rattle.ch_laws_one_node.proofs.Reading.{Gives, then_gives, with_gives, if_gives}

-- the name is of a node that was declared
abbrev pub IsIn : Told → List ℕ → Type 0
IsIn told name = list_any (declares_node name) told.declarations ≡ true

-- the socket's opener was declared, as a node or a stranger, and its target, as a node or an address away
abbrev pub MayBe : Told → SockName → Type 0
MayBe told sock = (list_any (λ what. declares_node sock.from what || declares_stranger sock.from what) told.declarations ≡ true) × (list_any (λ what. declares_node sock.to what || declares_away sock.to what) told.declarations ≡ true)

-- what a line that is read asks of those before it
abbrev pub Fits : Told → What → Type 0
Fits told (lines.Node name address unique) = (list_any (declares_name name) told.declarations ≡ false) × (list_any (takes_address address) told.declarations ≡ false) × (is_node_name_of name ≡ true)
Fits told (lines.Proc node) = IsIn told node
Fits told (lines.Send by (targets.Process to) mark body) = IsIn told by.node × IsIn told to.node
Fits told (lines.Recv by mark) = IsIn told by.node
Fits told (lines.End by) = IsIn told by.node
Fits told (lines.Join sock) = MayBe told sock
Fits told (lines.Come sock) = MayBe told sock
Fits told (lines.Feed sock end count) = MayBe told sock × (nat_lt 0 count ≡ true)
Fits told what = ⊥

declared_gives : (told : Told) (name : List ℕ) → Gives (IsIn told) (declared_in told name)
unfolding declared_in
declared_gives told name = by_test (list_any (declares_node name) told.declarations) refl where
  by_test : (b : Bool) → list_any (declares_node name) told.declarations ≡ b → Gives (IsIn told) (need Undeclared b name)
  by_test true h = record { given = h }
  by_test false h = record { given = tt }

-- the same, of what was asked for
asked_gives : (told : Told) (name : List ℕ) → Gives (λ (n : List ℕ). IsIn told name) (declared_in told name)
unfolding declared_in
asked_gives told name = by_test (list_any (declares_node name) told.declarations) refl where
  by_test : (b : Bool) → list_any (declares_node name) told.declarations ≡ b → Gives (λ (n : List ℕ). IsIn told name) (need Undeclared b name)
  by_test true h = record { given = h }
  by_test false h = record { given = tt }

new_gives : {A : Type 0} (b : Bool) (x : A) → Gives (λ (y : A). (b ≡ false) × (y ≡ x)) (need Repeated (not b) x)
new_gives true x = record { given = tt }
new_gives false x = record { given = (refl, refl) }

-- what is asked for
needed : (b : Bool) (name : List ℕ) → Gives (λ (n : List ℕ). b ≡ true) (need Undeclared b name)
needed true name = record { given = refl }
needed false name = record { given = tt }

opener_gives : (told : Told) (name : List ℕ) → Gives (λ (n : List ℕ). list_any (λ what. declares_node name what || declares_stranger name what) told.declarations ≡ true) (opener_in told name)
unfolding opener_in
opener_gives told name = needed (list_any (λ what. declares_node name what || declares_stranger name what) told.declarations) name

peer_gives : (told : Told) (name : List ℕ) → Gives (λ (n : List ℕ). list_any (λ what. declares_node name what || declares_away name what) told.declarations ≡ true) (peer_in told name)
unfolding peer_in
peer_gives told name = needed (list_any (λ what. declares_node name what || declares_away name what) told.declarations) name

-- a node's name is one
name_gives : (field : List ℕ) → Gives (λ (n : List ℕ). is_node_name_of n ≡ true) (node_name_of field)
unfolding node_name_of
name_gives field = by_test (is_node_name_of field) refl where
  by_test : (b : Bool) → is_node_name_of field ≡ b → Gives (λ (n : List ℕ). is_node_name_of n ≡ true) (need Form b field)
  by_test true h = record { given = h }
  by_test false h = record { given = tt }

place_fits : (told : Told) (rest : Option (List ℕ)) → Gives (λ place. (list_any (declares_name place.0) told.declarations ≡ false) × (list_any (takes_address place.1) told.declarations ≡ false) × (is_node_name_of place.0 ≡ true)) (place_line told rest)
unfolding place_line new_name new_address
place_fits told rest =
    then_gives _ (field_of rest) _ λ name.
    then_gives _ (field_of name.1) _ λ address.
    then_gives _ (field_of address.1) _ λ unique.
    then_gives _ (last_of unique.1) _ λ last.
    with_gives _ _ (node_name_of name.0) _ (name_gives name.0) λ named is_name.
    then_gives _ (address_of address.0) _ λ at.
    then_gives _ (digits_of unique.0) _ λ digits.
    then_gives _ (number_in digits) _ λ number.
    then_gives _ (early_in told) _ λ early.
    with_gives _ _ (need Repeated (not (list_any (declares_name named) told.declarations)) named) _ (new_gives (list_any (declares_name named) told.declarations) named) λ own first.
    with_gives _ _ (need Repeated (not (list_any (takes_address at) told.declarations)) at) _ (new_gives (list_any (takes_address at) told.declarations) at) λ place second.
    record { given = (ap (λ (n : List ℕ). list_any (declares_name n) told.declarations) first.1 ∙ first.0, ap (λ (a : Address). list_any (takes_address a) told.declarations) second.1 ∙ second.0, ap is_node_name_of first.1 ∙ is_name) }

node_fits : (told : Told) (rest : Option (List ℕ)) → Gives (Fits told) (node_line told rest)
unfolding node_line
node_fits told rest = with_gives _ _ (place_line told rest) _ (place_fits told rest) λ place is. record { given = is }

proc_fits : (told : Told) (rest : Option (List ℕ)) → Gives (Fits told) (proc_line told rest)
unfolding proc_line
proc_fits told rest =
    then_gives _ (field_of rest) _ λ name.
    then_gives _ (last_of name.1) _ λ last.
    then_gives _ (node_name_of name.0) _ λ named.
    with_gives _ _ (declared_in told named) _ (declared_gives told named) λ own is. record { given = is }

alone_gives : (told : Told) (rest : Option (List ℕ)) → Gives (λ process. IsIn told process.node) (process_alone told rest)
unfolding process_alone
alone_gives told rest =
    then_gives _ (field_of rest) _ λ by.
    then_gives _ (last_of by.1) _ λ last.
    then_gives _ (process_of by.0) _ λ actor.
    then_gives _ (numbered actor) _ λ process.
    with_gives _ _ (declared_in told process.node) _ (asked_gives told process.node) λ node is. record { given = is }

taker_gives : (told : Told) (rest : Option (List ℕ)) → Gives (λ taker. IsIn told taker.0.node) (process_and_word told rest)
unfolding process_and_word
taker_gives told rest =
    then_gives _ (field_of rest) _ λ by.
    then_gives _ (field_of by.1) _ λ mark.
    then_gives _ (last_of mark.1) _ λ last.
    then_gives _ (process_of by.0) _ λ actor.
    then_gives _ (word_of mark.0) _ λ word.
    then_gives _ (numbered actor) _ λ process.
    with_gives _ _ (declared_in told process.node) _ (asked_gives told process.node) λ node is. record { given = is }

recv_fits : (told : Told) (rest : Option (List ℕ)) → Gives (Fits told) (recv_line told rest)
unfolding recv_line
recv_fits told rest = with_gives _ _ (process_and_word told rest) _ (taker_gives told rest) λ taker is. record { given = is }

end_fits : (told : Told) (rest : Option (List ℕ)) → Gives (Fits told) (end_line told rest)
unfolding end_line
end_fits told rest = with_gives _ _ (process_alone told rest) _ (alone_gives told rest) λ process is. record { given = is }

send_fits : (told : Told) (rest : Option (List ℕ)) → Gives (Fits told) (send_process_line told rest)
unfolding send_process_line
send_fits told rest =
    then_gives _ (field_of rest) _ λ by.
    then_gives _ (field_of by.1) _ λ to.
    then_gives _ (field_of to.1) _ λ mark.
    then_gives _ (field_of mark.1) _ λ body.
    then_gives _ (last_of body.1) _ λ last.
    then_gives _ (process_of by.0) _ λ sender.
    then_gives _ (process_of to.0) _ λ receiver.
    then_gives _ (sent_mark_of mark.0) _ λ word.
    then_gives _ (bytes_of body.0) _ λ bytes.
    then_gives _ (numbered sender) _ λ from.
    then_gives _ (numbered receiver) _ λ goal.
    with_gives _ _ (declared_in told from.node) _ (asked_gives told from.node) λ one first.
    with_gives _ _ (declared_in told goal.node) _ (asked_gives told goal.node) λ other second. record { given = (first, second) }

socket_gives : (told : Told) (rest : Option (List ℕ)) → Gives (MayBe told) (socket_alone told rest)
unfolding socket_alone
socket_gives told rest =
    then_gives _ (field_of rest) _ λ sock.
    then_gives _ (last_of sock.1) _ λ last.
    then_gives _ (socket_of sock.0) _ λ parts.
    then_gives _ (numbered_socket parts) _ λ socket.
    with_gives _ _ (opener_in told socket.from) _ (opener_gives told socket.from) λ from first.
    with_gives _ _ (peer_in told socket.to) _ (peer_gives told socket.to) λ to second. record { given = (first, second) }

join_fits : (told : Told) (rest : Option (List ℕ)) → Gives (Fits told) (join_line told rest)
unfolding join_line
join_fits told rest = with_gives _ _ (socket_alone told rest) _ (socket_gives told rest) λ socket is. record { given = is }

come_fits : (told : Told) (rest : Option (List ℕ)) → Gives (Fits told) (come_line told rest)
unfolding come_line
come_fits told rest = with_gives _ _ (socket_alone told rest) _ (socket_gives told rest) λ socket is. record { given = is }

-- a count is at least 1
count_gives : (digits : List ℕ) → Gives (λ n. nat_lt 0 n ≡ true) (count_in digits)
unfolding count_in
count_gives digits = by_number (number_of 4294967295 digits) where
  by_number : (o : Option ℕ) → Gives (λ n. nat_lt 0 n ≡ true) (or_else Number (at_least 1 o))
  by_number None = record { given = tt }
  by_number (Some n) = by_test (nat_le 1 n) refl where
    by_test : (b : Bool) → nat_le 1 n ≡ b → Gives (λ n. nat_lt 0 n ≡ true) (or_else Number (if b then Some n else None))
    by_test true h = record { given = h }
    by_test false h = record { given = tt }

feed_fits : (told : Told) (rest : Option (List ℕ)) → Gives (Fits told) (feed_line told rest)
unfolding feed_line
feed_fits told rest =
    then_gives _ (field_of rest) _ λ sock.
    then_gives _ (field_of sock.1) _ λ letter.
    then_gives _ (field_of letter.1) _ λ count.
    then_gives _ (last_of count.1) _ λ last.
    then_gives _ (socket_of sock.0) _ λ parts.
    then_gives _ (end_of letter.0) _ λ end.
    then_gives _ (digits_of count.0) _ λ digits.
    then_gives _ (numbered_socket parts) _ λ socket.
    with_gives _ _ (count_in digits) _ (count_gives digits) λ number some.
    with_gives _ _ (opener_in told socket.from) _ (opener_gives told socket.from) λ from first.
    with_gives _ _ (peer_in told socket.to) _ (peer_gives told socket.to) λ to second. record { given = ((first, second), some) }

word_fits : (told : Told) (word : List ℕ) (rest : Option (List ℕ)) → Gives (Fits told) (line_of_word many_nodes.words told word rest)
unfolding line_of_word
word_fits told word rest =
    if_gives _ (bytes_eq word (codes "send")) _ _ (send_fits told rest) (
    if_gives _ (bytes_eq word (codes "recv")) _ _ (recv_fits told rest) (
    if_gives _ (bytes_eq word (codes "end")) _ _ (end_fits told rest) (
    if_gives _ (bytes_eq word (codes "feed")) _ _ (feed_fits told rest) (
    if_gives _ (bytes_eq word (codes "join")) _ _ (join_fits told rest) (
    if_gives _ (bytes_eq word (codes "come")) _ _ (come_fits told rest) (
    if_gives _ (bytes_eq word (codes "proc")) _ _ (proc_fits told rest) (
    if_gives _ (bytes_eq word (codes "node")) _ (Err Form) (node_fits told rest) (record { given = tt }))))))))

line_fits : (told : Told) (text : List ℕ) → Gives (Fits told) (line_said many_nodes told text)
unfolding line_said
line_fits told text = then_gives _ (field_of (Some text)) _ λ word. word_fits told word.0 word.1

-- what reading a line gives
abbrev pub ReadsFit : Told → Option What × Told → Type 0
ReadsFit told (None, after) = Unit {0}
ReadsFit told (Some what, after) = Fits told what

pub reads_fit : (told : Told) (text : List ℕ) → Gives (ReadsFit told) (read_line many_nodes told text)
reads_fit told text = by_header told.header where
  by_said : (r : Result What BadKind) → Gives (Fits told) r → Gives (ReadsFit told) (said_and_told told r)
  by_said (Ok what) fits = record { given = fits.given }
  by_said (Err kind) fits = record { given = tt }

  by_header : (b : Bool) → Gives (ReadsFit told) (if b then said_and_told told (line_said many_nodes told text) else (if bytes_eq text header then Ok (None, record told { header = true }) else Err Form))
  by_header true = by_said (line_said many_nodes told text) (line_fits told text)
  by_header false = if_gives _ (bytes_eq text header) _ (Err Form) (record { given = tt }) (record { given = tt })
