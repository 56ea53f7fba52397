-- What is read next, by what was said: the opening of a pair's connection, or the message of a saying, of two processes as they are called.
use Rattle.std.proofs.Common.{◌≡◌, ℕ, zero, suc, Bool, true, false, cond, ◌&&◌, ◌||◌, List, [], ◌∷◌, ◌++◌, refl, sym, ap, ◌∙◌, subst}
use Rattle.std.specs.Prelude.{filter_map, find, slice_get, option_map, Option, Some, None}
use Rattle.std.specs.List.{cons_option}
use Rattle.std.specs.Str.{bytes_eq}
use Rattle.std.proofs.lemmas.Bool.{and_parts}
use Rattle.std.proofs.lemmas.Slice.Eq.{bytes_eq-Decides}
use Rattle.ch_base.specs.declared.address.Address.{Address}
use Rattle.ch_ident.specs.declared.identifier.ProcessId.{ProcessId}
use Rattle.ch_ident.specs.declared.identifier.Identifier.TheVariants as ends
use Rattle.ch_ident.specs.declared.node_message.NodeMessage.TheVariants.{Opening}
use Rattle.ch_ident.specs.Spelling.{message}
use Rattle.ch_model.specs.declared.entry.Entry.{Entry}
use Rattle.ch_model.specs.declared.entry.Entry.TheVariants as entries
use Rattle.ch_model.specs.declared.line.Line.{Line}
use Rattle.ch_model.specs.declared.line.What.{What}
use Rattle.ch_model.specs.declared.line.What.TheVariants as lines
use Rattle.ch_model.specs.declared.name.ProcName.{ProcName}
use Rattle.ch_model.specs.declared.name.TargetName.{TargetName}
use Rattle.ch_model.specs.declared.name.TargetName.TheVariants as names
use Rattle.ch_model.specs.AccountsFrames.{Saying, pair_opening}
use Rattle.ch_model.specs.AccountsItems.{first_payload}
use Rattle.ch_model.specs.Declarations.{Peer, declared_by, peer, process_id}
use Rattle.ch_model.specs.Logs.{or_else, some_and}
use Rattle.ch_model.specs.Naming.{Names, is_named, called, process_called}
use Rattle.ch_model.specs.Same.{node_of}
use Rattle.ch_model.specs.World.{name_in, names_of}
use Rattle.ch_model.specs.WorldState.{Named}
use Rattle.ch_race.specs.Pair.{Side, other}
use Rattle.ch_laws_race.specs.Scene.{Party}
use Rattle.ch_laws_calls.specs.Scenes.{IsPairOf}
use Rattle.ch_laws_plain_logs.specs.Plain.{said_by}
use Rattle.ch_laws_peers.specs.Words.{Word, datas_in, carried_after, sayings, opens_one, TrueWord, TrueWords}
use Rattle.ch_laws_peers.specs.Reads.{IsOfPair}
use Rattle.ch_laws_messages.specs.GotSaidWell.{IsSaidWell, SaidWell}
use Rattle.ch_laws_messages.proofs.GotLists.{some_is}
use Rattle.ch_laws_messages.proofs.GotMoves.{pair_opens}
use Rattle.ch_laws_messages.proofs.EnteredCarried.{nothing_before, nothing_behind}

-- ---- true words, one of them

-- so many sayings were carried before it
pub true_next : (journal : List Line) (said : List Saying) (before : List (ℕ × List ℕ)) (n : ℕ) (ws : List Word) (w : Word) (rest : List Word) (end : ℕ) → TrueWords journal said before n (ws ++ w ∷ rest) end → (m : ℕ) × TrueWord journal said m w (first_payload w.0.0 (before ++ datas_in ws))
true_next journal said before n [] w rest end t = (n, subst (λ (l : List (ℕ × List ℕ)). TrueWord journal said n w (first_payload w.0.0 l)) (sym (nothing_behind before)) t.0)
true_next journal said before n (one ∷ ws) w rest end t =
    let more = true_next journal said (before ++ one.0 ∷ []) (carried_after (first_payload one.0.0 before) n) ws w rest end t.1 in
    (more.0, subst (λ (l : List (ℕ × List ℕ)). TrueWord journal said more.0 w (first_payload w.0.0 l)) (nothing_before before (datas_in ws) one.0) more.1)

-- ---- what was said

-- what is found in a list comes from one of it
pub record From {A B : Type 0} (f : A → Option B) (xs : List A) (y : B) : Type 0 where
  pub i : ℕ
  pub x : A
  pub at : slice_get xs i ≡ Some x
  pub is : f x ≡ Some y

pub comes_from : {A B : Type 0} (f : A → Option B) (xs : List A) (m : ℕ) (y : B) → slice_get (filter_map f xs) m ≡ Some y → From f xs y
comes_from f [] m y e = absurd cc
comes_from {A = A} {B = B} f (x ∷ xs) m y e = by_found (f x) refl m e (comes_from f xs) where
  later : From f xs y → From f (x ∷ xs) y
  later w = record { i = suc w.i; x = w.x; at = w.at; is = w.is }

  by_found : (o : Option B) → f x ≡ o → (m : ℕ) → slice_get (cons_option o (filter_map f xs)) m ≡ Some y → ((m : ℕ) (z : B) → slice_get (filter_map f xs) m ≡ Some z → From f xs z) → From f (x ∷ xs) y
  by_found None h m e more = later (more m y e)
  by_found (Some z) h zero e more = let is : z ≡ y = cc in record { i = 0; x = x; at = refl; is = h ∙ ap Some is }
  by_found (Some z) h (suc m) e more = later (more m y e)

-- a saying is an entry of the log, of the one node to the other
pub record IsSaying (x y : List ℕ) (log : List Entry) (s : Saying) : Type 0 where
  pub i : ℕ
  pub at : slice_get log i ≡ Some (entries.Said s.by s.to s.epoch s.index s.mark s.body)
  pub by_node : s.by.node ≡ x
  pub to_node : node_of s.to ≡ y

said_is : (x y : List ℕ) (log : List Entry) (i : ℕ) (entry : Entry) (s : Saying) → slice_get log i ≡ Some entry → said_by x y entry ≡ Some s → IsSaying x y log s
said_is x y log i (entries.Said by to epoch index mark body) s at e = by_test (bytes_eq by.node x && bytes_eq (node_of to) y) refl e where
  the : Saying
  the = record { by = by; to = to; epoch = epoch; index = index; mark = mark; body = body }

  by_test : (b : Bool) → (bytes_eq by.node x && bytes_eq (node_of to) y) ≡ b → cond b (Some the) None ≡ Some s → IsSaying x y log s
  by_test true h e =
      let parts = and_parts (bytes_eq by.node x) (bytes_eq (node_of to) y) h in
      subst (IsSaying x y log) (some_is the s e) (record { i = i; at = at; by_node = (bytes_eq-Decides by.node x).0 parts.0; to_node = (bytes_eq-Decides (node_of to) y).0 parts.1 })
  by_test false h e = absurd cc
said_is x y log i entry s at e = absurd cc

pub saying_is : (x y : List ℕ) (log : List Entry) (m : ℕ) (s : Saying) → slice_get (sayings x y log) m ≡ Some s → IsSaying x y log s
saying_is x y log m s e = let it = comes_from (said_by x y) log m s e in said_is x y log it.i it.x s it.at it.is

-- some saying's pair has this opening
pub opened_by_one : (journal : List Line) (said : List Saying) (payload : List ℕ) → opens_one journal said payload ≡ true → (i : ℕ) × (s : Saying) × (slice_get said i ≡ Some s) × (pair_opening journal s.by s.to ≡ Some payload)
opened_by_one journal [] payload e = absurd cc
opened_by_one journal (one ∷ said) payload e = by_test (some_and (bytes_eq payload) (pair_opening journal one.by one.to)) refl e (opened_by_one journal said payload) where
  by_opening : (o : Option (List ℕ)) → pair_opening journal one.by one.to ≡ o → some_and (bytes_eq payload) o ≡ true → pair_opening journal one.by one.to ≡ Some payload
  by_opening None f h = absurd cc
  by_opening (Some opening) f h = f ∙ ap Some (sym ((bytes_eq-Decides payload opening).0 h))

  by_test : (b : Bool) → some_and (bytes_eq payload) (pair_opening journal one.by one.to) ≡ b → (b || opens_one journal said payload) ≡ true → (opens_one journal said payload ≡ true → (i : ℕ) × (s : Saying) × (slice_get said i ≡ Some s) × (pair_opening journal s.by s.to ≡ Some payload))
      → (i : ℕ) × (s : Saying) × (slice_get (one ∷ said) i ≡ Some s) × (pair_opening journal s.by s.to ≡ Some payload)
  by_test true h e more = (0, one, refl, by_opening (pair_opening journal one.by one.to) refl h)
  by_test false h e more = let it = more e in (suc it.0, it.1, it.2, it.3)

-- ---- names and ids

-- a declared name is declared by its line, too
peer_named : (journal : List Line) (x : List ℕ) (d : Named) → find (is_named x) (names_of journal) ≡ Some d → (p : Peer) × (peer journal x ≡ Some p) × (p.address ≡ d.address)
peer_named [] x d e = absurd cc
peer_named (line ∷ rest) x d e = by_what line.what e (peer_named rest x d) where
  by_name : (one : Named) (b : Bool) → cond b (Some one) (find (is_named x) (names_of rest)) ≡ Some d → (found : Peer) → found.address ≡ one.address → (find (is_named x) (names_of rest) ≡ Some d → (p : Peer) × (peer rest x ≡ Some p) × (p.address ≡ d.address))
      → (p : Peer) × (or_else (cond b (Some found) None) (peer rest x) ≡ Some p) × (p.address ≡ d.address)
  by_name one true e found same more = (found, refl, same ∙ ap (λ (n : Named). n.address) (some_is one d e))
  by_name one false e found same more = more e

  by_what : (w : What) → find (is_named x) (name_in w ++ names_of rest) ≡ Some d → (find (is_named x) (names_of rest) ≡ Some d → (p : Peer) × (peer rest x ≡ Some p) × (p.address ≡ d.address)) → (p : Peer) × (or_else (declared_by x w) (peer rest x) ≡ Some p) × (p.address ≡ d.address)
  by_what (lines.Node name address unique) e more = by_name (record { name = name; address = address; unique = unique; is_node = true }) (bytes_eq name x) e (record { address = address; unique = unique; is_node = true }) refl more
  by_what (lines.Away name address unique) e more = by_name (record { name = name; address = address; unique = unique; is_node = false }) (bytes_eq name x) e (record { address = address; unique = unique; is_node = false }) refl more
  by_what w e more = more e

-- the id of a process of a party is at its address, and it is called as it was
pub party_id : (journal : List Line) (known : Names) (party : Side → Party) → IsPairOf journal party → (x : Side) → called known (party x).address ≡ (party x).name → (p : ProcName) (id : ProcessId) → process_id journal p ≡ Some id → p.node ≡ (party x).name → process_called known id ≡ p
party_id journal known party pair x called_so p id e at = by_peer (peer journal p.node) refl e where
  declared : (q : Peer) × (peer journal (party x).name ≡ Some q) × (q.address ≡ (pair.named x).0.address)
  declared = peer_named journal (party x).name (pair.named x).0 (pair.named x).1

  by_peer : (o : Option Peer) → peer journal p.node ≡ o → option_map (λ (at : Peer). record { node = at.address; unique = at.unique; counter = p.counter }) o ≡ Some id → process_called known id ≡ p
  by_peer None f e = absurd cc
  by_peer (Some q) f e =
      let is : record { node = q.address; unique = q.unique; counter = p.counter } ≡ id = some_is (record { node = q.address; unique = q.unique; counter = p.counter }) id e in
      let same : declared.0 ≡ q = some_is declared.0 q (sym declared.1 ∙ ap (peer journal) (sym at) ∙ f) in
      let address : q.address ≡ (party x).address = ap (λ (z : Peer). z.address) (sym same) ∙ declared.2 ∙ (pair.named x).3 in
      ap (process_called known) (sym is) ∙ ap (λ (a : Address). record { node = called known a; counter = p.counter }) address ∙ ap (λ (n : List ℕ). record { node = n; counter = p.counter }) (called_so ∙ sym at)

-- the two processes of a saying, by their ids
pub record SaidPair (journal : List Line) (known : Names) (a b : List ℕ) (by : ProcName) (to : TargetName) : Type 0 where
  pub from : ProcessId
  pub receiver : ProcessId
  pub pair : IsOfPair journal known a b from receiver
  pub by_is : by ≡ process_called known from
  pub to_is : to ≡ names.Process (process_called known receiver)
  pub opens : pair_opening journal by to ≡ Some (message (Opening (ends.Process from) (ends.Process receiver)))

pub said_pair : (journal : List Line) (known : Names) (party : Side → Party) → IsPairOf journal party → ((x : Side) → called known (party x).address ≡ (party x).name) → (x : Side) (log : List Entry) → SaidWell journal log → (s : Saying) → IsSaying (party x).name (party (other x)).name log s → SaidPair journal known (party x).name (party (other x)).name s.by s.to
said_pair journal known party pair called_so x log well s is = record {
  from = w.from.id;
  receiver = w.goes.id;
  pair = record {
    from_is = ap (process_id journal) by_same ∙ w.from.is;
    to_is = ap (process_id journal) to_same ∙ w.goes.is;
    from_node = ap (λ (p : ProcName). p.node) by_same ∙ is.by_node;
    to_node = ap (λ (p : ProcName). p.node) to_same ∙ at_other;
    from_fits = w.from.fits;
    to_fits = w.goes.fits;
  };
  by_is = sym by_same;
  to_is = w.is ∙ ap names.Process (sym to_same);
  opens = ap (pair_opening journal s.by) w.is ∙ pair_opens journal s.by w.receiver w.from.id w.goes.id w.from.is w.goes.is;
} where
  w : IsSaidWell journal s.by s.to s.mark
  w = well.each is.i s.by s.to s.epoch s.index s.mark s.body is.at

  at_other : w.receiver.node ≡ (party (other x)).name
  at_other = ap node_of (sym w.is) ∙ is.to_node

  by_same : process_called known w.from.id ≡ s.by
  by_same = party_id journal known party pair x (called_so x) s.by w.from.id w.from.is is.by_node

  to_same : process_called known w.goes.id ≡ w.receiver
  to_same = party_id journal known party pair (other x) (called_so (other x)) w.receiver w.goes.id w.goes.is at_other
