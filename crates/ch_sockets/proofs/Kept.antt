-- The tables of sockets once one is changed, or one comes.
use Rattle.std.proofs.Common.{◌≡◌, ℕ, suc, ◌+◌, ◌<◌, ◌≤◌, Bool, true, false, cond, not, ◌||◌, nat_lt, List, [], ◌∷◌, ◌++◌, length, take, get_or, Option, Some, None, IfSome, Result, Ok, Err, OnOk, OnErr, refl, ap, sym, subst, ◌∙◌, arith}
use Rattle.std.specs.List.{position_or_len, position, count_by}
use Rattle.std.specs.Prelude.{slice_set}
use Rattle.std.proofs.lemmas.List.{map-append, get_or_default}
use Rattle.std.proofs.Math.Seq.{take-append_seam}
use Rattle.ch_model.specs.declared.name.End.{End}
use Rattle.ch_model.specs.declared.name.End.TheVariants.{T}
use Rattle.ch_model.specs.declared.name.SockName.{SockName}
use Rattle.ch_model.specs.declared.step.Place.{Place}
use Rattle.ch_model.specs.Same.{same_socket}
use Rattle.ch_model.specs.Naming.{same_ends}
use Rattle.ch_model.specs.Stages.{is_ended}
use Rattle.ch_model.specs.WorldState.{WorldEnd, WorldSocket}
use Rattle.ch_model.specs.WorldSockets.{end_of, with_end, is_socket_named, arrives, item_arrives, target_end}
use Rattle.ch_sockets.specs.Among.{come_under}
use Rattle.ch_sockets.specs.Numbers.{names_of, Numbered}
use Rattle.ch_sockets.specs.Openers.{opener_end}
use Rattle.ch_sockets.specs.Ends.{is_under, AreTables, IsNoted, under, opener_key}
use Rattle.ch_sockets.specs.declared.opener.Opener.{Opener}
use Rattle.ch_sockets.proofs.Named.{name_kept, names_set}
use Rattle.ch_sockets.proofs.Fresh.{counted, numbered_next, next_fresh}
use Rattle.ch_sockets.proofs.EndTables.{no_place_none, Keeps, ends_set, ends_changed, ends_come, ends_opened, ends_told}

-- ---- what keeps an end's host and number

either_end : (b : Bool) (end other : WorldEnd) → other.cell ≡ end.cell → other.number ≡ end.number → ((cond b end other).cell ≡ end.cell) × ((cond b end other).number ≡ end.number)
either_end true end other c n = (refl, refl)
either_end false end other c n = (c, n)

pub arrives_keeps : (bytes : List ℕ) → Keeps (arrives bytes)
arrives_keeps bytes end = either_end (is_ended end.stage || end.is_cut) end (record end { unread = end.unread ++ bytes }) refl refl

pub item_arrives_keeps : (bytes : List ℕ) (said : Option Place) → Keeps (item_arrives bytes said)
item_arrives_keeps bytes said end = either_end (is_ended end.stage || end.is_cut) end (record end { unread = end.unread ++ bytes; places = end.places ++ said ∷ [] }) refl refl

-- ---- one is changed

pub changed_tables : (f : WorldEnd → WorldEnd) → Keeps f → (which : End) (names : List SockName) (es : List ((ℕ × ℕ) × ℕ)) (rows : List WorldSocket) (place : ℕ) (before after : WorldSocket) → before ≡ get_or rows place before → after ≡ with_end which (f (end_of which before)) before → AreTables names es rows → AreTables names es (slice_set rows place after)
changed_tables f keeps which names es rows place before after is done tables =
    let name : after.name ≡ before.name = ap (λ (s : WorldSocket). s.name) done ∙ name_kept which (f (end_of which before)) before in
    (tables.0 ∙ sym (names_set rows place before after is name), tables.1, ends_changed f keeps which es rows place before after is done tables.2)

same_tables : (names : List SockName) (es : List ((ℕ × ℕ) × ℕ)) (rows : List WorldSocket) (place : ℕ) (before after : WorldSocket) → before ≡ get_or rows place before → after ≡ before → AreTables names es rows → AreTables names es (slice_set rows place after)
same_tables names es rows place before after is same tables =
    (tables.0 ∙ sym (names_set rows place before after is (ap (λ (s : WorldSocket). s.name) same)), tables.1, ends_set es rows place before after is (λ cell number h. subst (λ (s : WorldSocket). is_under cell number s ≡ true) same h) tables.2)

pub either_tables : {A E : Type 0} (r : Result A E) (f : WorldEnd → WorldEnd) → Keeps f → (which : End) (names : List SockName) (es : List ((ℕ × ℕ) × ℕ)) (rows : List WorldSocket) (place : ℕ) (before after : WorldSocket) → before ≡ get_or rows place before → OnOk r (after ≡ with_end which (f (end_of which before)) before) → OnErr r (after ≡ before) → AreTables names es rows → AreTables names es (slice_set rows place after)
either_tables (Ok a) f keeps which names es rows place before after is ok err tables = changed_tables f keeps which names es rows place before after is ok tables
either_tables (Err e) f keeps which names es rows place before after is ok err tables = same_tables names es rows place before after is err tables

-- an end has come
pub come_tables : (n place : ℕ) (names : List SockName) (es now : List ((ℕ × ℕ) × ℕ)) (rows : List WorldSocket) (before after : WorldSocket) → IsNoted (under n before.t.cell) place es now → place < length rows → before ≡ get_or rows place before → after ≡ with_end T (come_under n (end_of T before)) before → AreTables names es rows → AreTables names now (slice_set rows place after)
come_tables n place names es now rows before after told within is done tables =
    let name : after.name ≡ before.name = ap (λ (s : WorldSocket). s.name) done in
    (tables.0 ∙ sym (names_set rows place before after is name), tables.1, ends_come n place es now rows before after told within is done tables.2)

-- ---- names and places

length_names : (sockets : List WorldSocket) → length (names_of sockets) ≡ length sockets
length_names [] = refl
length_names (x ∷ xs) = ap suc (length_names xs)

place_len : (name : SockName) (sockets : List WorldSocket) → position_or_len (λ known. same_socket known name) (names_of sockets) ≡ position_or_len (is_socket_named name) sockets
place_len name [] = refl
place_len name (x ∷ xs) = ap (λ n. cond (not (same_socket x.name name)) (1 + n) 0) (place_len name xs)

-- a name stands where its socket stands
pub name_place : (name : SockName) (names : List SockName) (rows old : List WorldSocket) → names ≡ names_of rows → rows ≡ old → (position (λ known. same_socket known name) names ≡ position (is_socket_named name) old) × (length names ≡ length old)
name_place name names rows old is same =
    let all : names ≡ names_of old = is ∙ ap names_of same in (
      ap (position (λ known. same_socket known name)) all ∙ (λ i. cond (nat_lt (place_len name old i) (length_names old i)) (Some (place_len name old i)) None),
      ap length all ∙ length_names old,
    )

-- ---- one comes

-- the next name stands behind the others
pub opened_tables : (opener : Opener) (target : Option ℕ) (place : ℕ) (names more : List SockName) (es now : List ((ℕ × ℕ) × ℕ)) (rows after : List WorldSocket) (socket : WorldSocket) → IsNoted (opener_key opener) place es now → place ≡ length rows → socket.name.number ≡ count_by (same_ends socket.name.from socket.name.to) names → socket.o ≡ opener_end opener → socket.t ≡ target_end target → more ≡ names ++ socket.name ∷ [] → after ≡ rows ++ socket ∷ [] → AreTables names es rows → AreTables more now after
opened_tables opener target place names more es now rows after socket told at next o t grown push tables =
    let all : more ≡ names_of after = grown ∙ ap (λ (ns : List SockName). ns ++ socket.name ∷ []) tables.0 ∙ sym (ap names_of push ∙ map-append (λ (s : WorldSocket). s.name) rows (socket ∷ [])) in
    let last : more ≡ names ++ record { from = socket.name.from; to = socket.name.to; number = count_by (same_ends socket.name.from socket.name.to) names } ∷ [] = grown ∙ (λ i. names ++ record { from = socket.name.from; to = socket.name.to; number = next i } ∷ []) in (
      all,
      subst Numbered (sym last) (numbered_next socket.name.from socket.name.to names tables.1),
      ends_opened opener target place es now rows after socket told at o t push tables.2,
    )

-- an end is noted, and no socket comes
pub noted_tables : (key : Option (ℕ × ℕ)) (place : ℕ) (names : List SockName) (es now : List ((ℕ × ℕ) × ℕ)) (rows : List WorldSocket) → IsNoted key place es now → place ≤ length rows → AreTables names es rows → AreTables names now rows
noted_tables key place names es now rows told within tables = (tables.0, tables.1, ends_told key place es now rows told within tables.2)

-- a socket that is taken back from the end
pub taken_back : (rows now after : List WorldSocket) (socket : WorldSocket) (place : ℕ) → place ≡ length rows → now ≡ rows ++ socket ∷ [] → after ≡ take place now → after ≡ rows
taken_back rows now after socket place at grown cut = cut ∙ (λ i. take (at i) (grown i)) ∙ take-append_seam rows (socket ∷ [])

-- how many there are of an opener and a target
pub name_count : (from to : List ℕ) (names : List SockName) (rows old : List WorldSocket) → names ≡ names_of rows → rows ≡ old → count_by (same_ends from to) names ≡ count_by (λ (socket : WorldSocket). same_ends from to socket.name) old
name_count from to names rows old is same = ap (count_by (same_ends from to)) (is ∙ ap names_of same) ∙ sym (counted from to old)

pub if_within : (o : Option ℕ) (m n : ℕ) → m ≡ n → IfSome o (λ i. i < m) → IfSome o (λ i. i < n)
if_within None m n e h = h
if_within (Some i) m n e h = subst (λ (k : ℕ). i < k) e h

-- ---- the next name

pub next_same : (name answer : SockName) (names : List SockName) → answer ≡ name → name.number ≡ count_by (same_ends name.from name.to) names → answer.number ≡ count_by (same_ends answer.from answer.to) names
next_same name answer names is next = subst (λ (n : SockName). n.number ≡ count_by (same_ends n.from n.to) names) (sym is) next

-- it stands nowhere yet
pub next_nowhere : (name : SockName) (names : List SockName) → Numbered names → name.number ≡ count_by (same_ends name.from name.to) names → position (λ known. same_socket known name) names ≡ None
next_nowhere name names numbered next = no_place_none (λ known. same_socket known name) names (next_fresh name names numbered next)

-- ---- two reads of one place

pub read_twice : (rows : List WorldSocket) (place : ℕ) (a b : WorldSocket) → place < length rows → a ≡ get_or rows place a → b ≡ get_or rows place b → a ≡ b
read_twice rows place a b lt e f = e ∙ get_or_default rows place a b lt ∙ sym f
