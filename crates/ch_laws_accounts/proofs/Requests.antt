-- An opener's request is from the address of its node.
use Rattle.std.proofs.Common.{◌≡◌, ℕ, zero, suc, ◌<◌, ◌^◌, ◌/◌, Bool, true, false, cond, ◌&&◌, ◌||◌, List, [], ◌∷◌, ◌++◌, length, take, Ok, refl, sym, ap, ◌∙◌, subst, arith}
use Rattle.std.proofs.lemmas.Bool.Decides.{nat_tests}
use Rattle.std.proofs.lemmas.List.{take_at}
use Rattle.std.proofs.lemmas.Nat.{be_bytes_4}
use Rattle.std.proofs.lemmas.Slice.Eq.{bytes_eq-Decides}
use Rattle.std.proofs.Math.Nat.{mod-lt}
use Rattle.std.specs.Int.{byte_at}
use Rattle.std.specs.Option.{option_map}
use Rattle.std.specs.Prelude.{find, is_some, nat_lt, Option, Some, None, ◌==◌}
use Rattle.std.specs.Str.{bytes_eq}
use Rattle.ch_base.specs.Addresses.{address_text}
use Rattle.ch_base.specs.declared.address.Address.{Address}
use Rattle.ch_reader.specs.Runs.{IsBytes}
use Rattle.ch_watch.specs.Same.{same_node}
use Rattle.ch_wire.specs.Spelling.{request_spelling}
use Rattle.ch_wire.specs.Words.{word, word_value, counted}
use Rattle.ch_wire.specs.declared.request.Request.{Request}
use Rattle.ch_model.specs.declared.entry.Entry.{Entry}
use Rattle.ch_model.specs.declared.entry.Entry.TheVariants as entries
use Rattle.ch_model.specs.declared.line.Line.{Line}
use Rattle.ch_model.specs.declared.line.What.{What}
use Rattle.ch_model.specs.declared.line.What.TheVariants as lines
use Rattle.ch_model.specs.declared.name.End.TheVariants.{O, T}
use Rattle.ch_model.specs.AccountsBytes.{is_request_from, requests_by_name}
use Rattle.ch_model.specs.Declarations.{Peer, peer, address_of}
use Rattle.ch_model.specs.Fields.{is_node_name_of}
use Rattle.ch_model.specs.Logs.{or_else, some_and, each, each_after}
use Rattle.ch_model.specs.Naming.{is_named, or_nobody, called}
use Rattle.ch_model.specs.Sockets.{writings}
use Rattle.ch_model.specs.World.{names_of, log_of}
use Rattle.ch_model.specs.WorldState.{Named}
use Rattle.ch_laws_log.specs.Declared.{is_declared}
use Rattle.ch_laws_log.proofs.Keys.{node_is}
use Rattle.ch_laws_log.proofs.Stored.{bytes_same}
use Rattle.ch_laws_ends.proofs.Places.{some_is}
use Rattle.ch_laws_many.specs.ManyLines.{AreNamedApart}
use Rattle.ch_laws_many.proofs.Addresses.{AllNamed}
use Rattle.ch_laws_many.proofs.Reached.{IsJournal, named}
use Rattle.ch_laws_writes.specs.Writings.{AsksByName, EachAsksByName}
use Rattle.ch_laws_writes.proofs.Asked.{log_asks_by_name}
use Rattle.ch_laws_accounts.specs.Openers.{is_of_declared}
use Rattle.ch_laws_accounts.proofs.Told.{AreOf}
use Rattle.ch_laws_accounts.proofs.Openers.{journal_ends}

-- ---- words

some_bytes : 0 < 256
some_bytes = omega arith

byte_below : (k n : ℕ) → byte_at k n < 256
byte_below zero n = mod-lt n some_bytes
byte_below (suc k) n = mod-lt (n / 256 ^ suc k) some_bytes

pub word_bytes : (n : ℕ) → IsBytes (word n)
word_bytes n zero = byte_below 3 n
word_bytes n (suc zero) = byte_below 2 n
word_bytes n (suc (suc zero)) = byte_below 1 n
word_bytes n (suc (suc (suc zero))) = byte_below 0 n
word_bytes n (suc (suc (suc (suc i)))) = some_bytes

-- the number that a word spells is spelled by it, also where the word's own is greater
pub word_again : (n : ℕ) (rest : List ℕ) → word (word_value (take 4 (word n ++ rest))) ≡ word n
word_again n rest = ap (λ (bytes : List ℕ). word (word_value bytes)) (take_at (word n) rest 4 refl) ∙ be_bytes_4 (word n) (word_value (word n)) refl (word_bytes n) refl

pub spelled_again : (r : Request) → counted (word_value (take 4 (request_spelling r))) (address_text r.from) ≡ request_spelling r
spelled_again r = ap (λ (bytes : List ℕ). bytes ++ (word (length (address_text r.from)) ++ address_text r.from)) (word_again r.target (word (length (address_text r.from)) ++ address_text r.from))

request_from : (r : Request) → is_request_from (request_spelling r) r.from ≡ true
request_from r = ap (bytes_eq (request_spelling r)) (spelled_again r) ∙ bytes_same (request_spelling r)

-- ---- names

-- the address of a name is that of the first that is named so
address_found : (journal : List Line) (name : List ℕ) → address_of journal name ≡ option_map (λ (n : Named). n.address) (find (is_named name) (names_of journal))
address_found [] name = refl
address_found (line ∷ rest) name = by_line line.what (address_found rest name) where
  More : Type 0
  More = address_of rest name ≡ option_map (λ (n : Named). n.address) (find (is_named name) (names_of rest))

  by_test : (own : List ℕ) (address : Address) (unique : ℕ) (node : Bool) → More → (b : Bool)
      → option_map (λ (p : Peer). p.address) (or_else (cond {A = Option Peer} b (Some (record { address = address; unique = unique; is_node = node })) None) (peer rest name)) ≡ option_map (λ (n : Named). n.address) (cond {A = Option Named} b (Some (record { name = own; address = address; unique = unique; is_node = node })) (find (is_named name) (names_of rest)))
  by_test own address unique node more true = refl
  by_test own address unique node more false = more

  by_line : (what : What) → More → address_of (record { number = line.number; what = what } ∷ rest) name ≡ option_map (λ (n : Named). n.address) (find (is_named name) (names_of (record { number = line.number; what = what } ∷ rest)))
  by_line (lines.Node own address unique) more = by_test own address unique true more (bytes_eq own name)
  by_line (lines.Away own address unique) more = by_test own address unique false more (bytes_eq own name)
  by_line what more = more

-- what is found first passes
found_such : (p : Named → Bool) (known : List Named) (d : Named) → find p known ≡ Some d → p d ≡ true
found_such p [] d e = absurd cc
found_such p (n ∷ rest) d e = by_test (p n) refl e (found_such p rest d) where
  by_test : (b : Bool) → p n ≡ b → cond b (Some n) (find p rest) ≡ Some d → (find p rest ≡ Some d → p d ≡ true) → p d ≡ true
  by_test true h e more = subst (λ (m : Named). p m ≡ true) (some_is n d e) h
  by_test false h e more = more e

-- one of names that are declared once is found by its name
apart_found : (known : List Named) → AreNamedApart known → (p : Named → Bool) (d : Named) → find p known ≡ Some d → find (is_named d.name) known ≡ Some d
apart_found [] a p d e = absurd cc
apart_found (n ∷ rest) a p d e = by_test (p n) e (apart_found rest a.1 p d) where
  by_name : (b : Bool) → bytes_eq n.name d.name ≡ b → find (is_named d.name) rest ≡ Some d → cond b (Some n) (find (is_named d.name) rest) ≡ Some d
  by_name true h f = let none : find (is_named d.name) rest ≡ None = subst (λ (x : List ℕ). find (is_named x) rest ≡ None) ((bytes_eq-Decides n.name d.name).0 h) a.0 in
      let no : ◌≡◌ {A = Option Named} None (Some d) = sym none ∙ f in absurd cc
  by_name false h f = f

  by_test : (b : Bool) → cond b (Some n) (find p rest) ≡ Some d → (find p rest ≡ Some d → find (is_named d.name) rest ≡ Some d) → cond (bytes_eq n.name d.name) (Some n) (find (is_named d.name) rest) ≡ Some d
  by_test true e more = subst (λ (m : Named). cond (bytes_eq n.name m.name) (Some n) (find (is_named m.name) rest) ≡ Some m) (some_is n d e) (ap (λ b. cond b (Some n) (find (is_named n.name) rest)) (bytes_same n.name))
  by_test false e more = by_name (bytes_eq n.name d.name) refl (more e)

-- nobody's name is declared
pub not_nobody : (known : List Named) → AllNamed known → is_declared known [] ≡ true → ⊥
not_nobody [] all e = cc
not_nobody (named ∷ rest) all e = by_name named.name refl all.0 (not_nobody rest all.2) e where
  by_name : (name : List ℕ) → named.name ≡ name → is_node_name_of named.name ≡ true → (is_declared rest [] ≡ true → ⊥) → is_some (cond (bytes_eq named.name []) (Some named) (find (is_named []) rest)) ≡ true → ⊥
  by_name [] is named_so more e = let no : is_node_name_of [] ≡ true = subst (λ (n : List ℕ). is_node_name_of n ≡ true) is named_so in absurd cc
  by_name (b ∷ bs) is named_so more e = more (sym (ap (λ (n : List ℕ). is_some (cond (bytes_eq n []) (Some named) (find (is_named []) rest))) is) ∙ e)

-- an address that is called by a declared name is the name's
called_address : (known : List Named) → AreNamedApart known → AllNamed known → (at : Address) (name : List ℕ) → called known at ≡ name → is_declared known name ≡ true → option_map (λ (n : Named). n.address) (find (is_named name) known) ≡ Some at
called_address known apart all at name is declared = by_found (find (λ (n : Named). same_node n.address at) known) refl is where
  by_found : (o : Option Named) → find (λ (n : Named). same_node n.address at) known ≡ o → (or_nobody o).name ≡ name → option_map (λ (n : Named). n.address) (find (is_named name) known) ≡ Some at
  by_found None f is = absurd (not_nobody known all (ap (is_declared known) is ∙ declared))
  by_found (Some d) f is = ap (λ (x : List ℕ). option_map (λ (n : Named). n.address) (find (is_named x) known)) (sym is)
      ∙ ap (option_map (λ (n : Named). n.address)) (apart_found known apart (λ (n : Named). same_node n.address at) d f) ∙ ap Some (node_is d.address at (found_such (λ (n : Named). same_node n.address at) known d f))

-- ---- a log

lt_suc : (n : ℕ) → nat_lt 0 (suc n) ≡ true
lt_suc n = grind (arith, nat_tests)

entry_by_name : (journal : List Line) → IsJournal journal → AreNamedApart (names_of journal) → (log : List Entry) (x : Entry) → AsksByName (names_of journal) log x → is_of_declared (names_of journal) x ≡ true → requests_by_name journal log x ≡ true
entry_by_name journal j apart log (entries.Wrote sock O bytes) asks of = by_length (length (writings log sock O)) asks where
  by_length : (n : ℕ) → ((n == 0) ≡ true → (request : Request) × (bytes ≡ request_spelling request) × (called (names_of journal) request.from ≡ sock.from)) → (nat_lt 0 n || some_and (is_request_from bytes) (address_of journal sock.from)) ≡ true
  by_length zero asks = let r = asks refl in
      ap (some_and (is_request_from bytes)) (address_found journal sock.from ∙ called_address (names_of journal) apart (named journal j) r.0.from sock.from r.2 of) ∙ ap (λ (b : List ℕ). is_request_from b r.0.from) r.1 ∙ request_from r.0
  by_length (suc n) asks = ap (λ b. b || some_and (is_request_from bytes) (address_of journal sock.from)) (lt_suc n)
entry_by_name journal j apart log (entries.Wrote sock T bytes) asks of = refl
entry_by_name journal j apart log x asks of = refl

each_by_name : (journal : List Line) → IsJournal journal → AreNamedApart (names_of journal) → (before rest : List Entry) → EachAsksByName (names_of journal) before rest → AreOf (names_of journal) rest → each_after (requests_by_name journal) before rest ≡ true
each_by_name journal j apart before [] asks of = refl
each_by_name journal j apart before (x ∷ rest) asks of = ap (λ b. b && each_after (requests_by_name journal) (before ++ x ∷ []) rest) (entry_by_name journal j apart before x asks.0 of.0) ∙ each_by_name journal j apart (before ++ x ∷ []) rest asks.1 of.1

pub all_by_name : (journal : List Line) → IsJournal journal → AreNamedApart (names_of journal) → (log : List Entry) → log_of journal ≡ Ok log → each (requests_by_name journal) log ≡ true
all_by_name journal j apart log is = let ends = journal_ends journal j log is in
    each_by_name journal j apart [] log (log_asks_by_name journal journal log ends.world ends.is) ends.here.of
