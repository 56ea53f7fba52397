-- What is told as got in an item turn is the message of the saying that is carried next, and the host read it in that turn.
use Rattle.std.proofs.Common.{◌≡◌, ◌⊎◌, inl, inr, ◌≤◌, ℕ, suc, ◌+◌, Bool, true, cond, ◌&&◌, List, [], ◌∷◌, ◌++◌, length, Ok, refl, sym, ap, ◌∙◌, subst, arith}
use Rattle.std.specs.Prelude.{slice_get, Option, Some, ◌==◌}
use Rattle.ch_ident.specs.declared.identifier.Identifier.TheVariants as ends
use Rattle.ch_ident.specs.declared.identifier.ProcessId.{ProcessId}
use Rattle.ch_ident.specs.declared.node_message.NodeMessage.TheVariants.{Opening}
use Rattle.ch_ident.specs.Names.{is_name}
use Rattle.ch_ident.specs.Spelling.{message}
use Rattle.ch_wire.specs.declared.frame.Frame.TheVariants as frames
use Rattle.ch_model.specs.declared.entry.Entry.{Entry}
use Rattle.ch_model.specs.declared.entry.Entry.TheVariants as entries
use Rattle.ch_model.specs.declared.line.Line.{Line}
use Rattle.ch_model.specs.declared.local.LocalEntry.{LocalEntry}
use Rattle.ch_model.specs.declared.name.ProcName.{ProcName}
use Rattle.ch_model.specs.declared.name.TargetName.{TargetName}
use Rattle.ch_model.specs.declared.name.TargetName.TheVariants as names
use Rattle.ch_model.specs.declared.step.Place.{Place}
use Rattle.ch_model.specs.declared.step.Step.{Step}
use Rattle.ch_model.specs.AccountsFrames.{Saying, is_saying}
use Rattle.ch_model.specs.AccountsItems.{first_payload}
use Rattle.ch_model.specs.CellSteps.{steps_on}
use Rattle.ch_model.specs.Host.{host_next}
use Rattle.ch_model.specs.HostState.{HostState}
use Rattle.ch_model.specs.Naming.{process_called}
use Rattle.ch_model.specs.Same.{same_process, same_target}
use Rattle.ch_model.specs.WorldState.{Cell, World}
use Rattle.ch_model.specs.WorldSteps.{or_first}
use Rattle.ch_race.specs.Pair.{Side, other}
use Rattle.ch_laws_race.specs.Scene.{Party}
use Rattle.ch_laws_calls.specs.Calls.{with_host}
use Rattle.ch_laws_calls.specs.Scenes.{IsPairOf}
use Rattle.ch_laws_calls.specs.Turns.{told_on}
use Rattle.ch_laws_peers.specs.Words.{Placed, Word, sayings, Carries, TrueWord, TrueWords}
use Rattle.ch_laws_peers.specs.Reads.{reads, ReadsNext, ReadsOne, ReadsNone, after_first, gets_of, read_of, IsOfPair}
use Rattle.ch_laws_peers.specs.Standing.{IsOfNodes}
use Rattle.ch_laws_messages.specs.WayReadingGoes.{Grown, OneRead}
use Rattle.ch_laws_messages.specs.GotReadingGoes.{KnownGot}
use Rattle.ch_laws_messages.proofs.GotHearing.{same_itself}
use Rattle.ch_laws_messages.proofs.GotIndex.{opening_is}
use Rattle.ch_laws_messages.proofs.GotItems.{got_entry}
use Rattle.ch_laws_messages.proofs.GotLists.{some_is}
use Rattle.ch_laws_messages.proofs.GotMoves.{of_pair_opens}
use Rattle.ch_laws_messages.proofs.GotReceipts.{got_well, says_this}
use Rattle.ch_laws_messages.proofs.GotTold.{NoGots, got_both}
use Rattle.ch_laws_messages.proofs.GotTurn.{ItemGot, item_tells}
use Rattle.ch_laws_messages.proofs.GotWords.{IsSaying, saying_is, SaidPair, said_pair}
use Rattle.ch_laws_messages.proofs.GotWorlds.{read_same, Follows, follows}
use Rattle.ch_laws_messages.specs.CarriedCounts.{carried_in}
use Rattle.ch_laws_messages.specs.EnteredEnters.{IsNext}
use Rattle.ch_laws_messages.proofs.EnteredCarried.{true_from}

-- The host has read the payload of the saying that is carried next, on a connection that was opened for its pair.
pub record NextSo (journal : List Line) (log : List Entry) (world : World) (cell : Cell × ℕ) (after_log : List Entry) (after : World) (p q : ProcName) (epoch index : ℕ) (party : Side → Party) (x : Side) : Type 0 where
  pub id : ℕ
  pub payload : List ℕ
  pub word : Option Place
  pub opening : List ℕ
  pub opened : first_payload id (read_of party world x log) ≡ Some opening
  pub s : Saying
  pub at : slice_get (sayings (party x).name (party (other x)).name log) (carried_in [] (read_of party world x log)) ≡ Some s
  pub carries : Carries journal opening ((id, payload), word) s
  pub marked : is_name s.mark ≡ true
  pub by_is : s.by ≡ p
  pub to_is : s.to ≡ names.Process q
  pub epoch_is : s.epoch ≡ epoch
  pub index_is : s.index ≡ index
  pub reads_next : ReadsNext log world party x cell (frames.Data id payload) word
  pub more : reads party after x after_log ≡ suc (reads party world x log)

-- the saying is that message
pub is_next : {journal : List Line} {log : List Entry} {world : World} {cell : Cell × ℕ} {after_log : List Entry} {after : World} {p q : ProcName} {epoch index : ℕ} {party : Side → Party} {x : Side} → (n : NextSo journal log world cell after_log after p q epoch index party x) → is_saying p (names.Process q) epoch index n.s ≡ true
is_next {p = p} {q = q} {epoch = epoch} {index = index} n =
    ap (λ (r : ProcName). same_process r p && same_target n.s.to (names.Process q) && n.s.epoch == epoch && n.s.index == index) n.by_is
    ∙ ap (λ (t : TargetName). same_process p p && same_target t (names.Process q) && n.s.epoch == epoch && n.s.index == index) n.to_is
    ∙ ap (λ (k : ℕ). same_process p p && same_target (names.Process q) (names.Process q) && k == epoch && n.s.index == index) n.epoch_is
    ∙ ap (λ (k : ℕ). same_process p p && same_target (names.Process q) (names.Process q) && epoch == epoch && k == index) n.index_is
    ∙ (says_this p q epoch index [] []).0

-- so it is what is got next
pub gets_next : {journal : List Line} {log : List Entry} {world : World} {cell : Cell × ℕ} {after_log : List Entry} {after : World} {p q : ProcName} {epoch index : ℕ} {party : Side → Party} {x : Side} → NextSo journal log world cell after_log after p q epoch index party x → IsNext journal log world party x cell p (names.Process q) epoch index
gets_next {log = log} {world = world} {cell = cell} {party = party} {x = x} n = record {
  gets = record { s = n.s; id = n.id; payload = n.payload; reads = subst (ReadsNext log world party x cell (frames.Data n.id n.payload)) n.carries.place n.reads_next; next = n.at; is = is_next n };
  opening = n.opening;
  opened = n.opened;
  carries = record { payload = n.carries.payload; pair = n.carries.pair; place = refl };
}

-- ---- the turn

module _ (journal : List Line) (nodes : IsOfNodes journal) (log : List Entry) (world : World) (known : KnownGot journal log world) (place : ℕ) (cell : Cell × ℕ) (done : List Step) (host : HostState) (told : List LocalEntry) (after : Cell) (at : slice_get world.cells place ≡ Some cell) (ran : steps_on done (with_host cell host) ≡ Ok (told, after))
    (reading : OneRead journal place cell log world (log ++ (told_on place cell after told world).0) (told_on place cell after told world).1) (then_known : KnownGot journal (log ++ (told_on place cell after told world).0) (told_on place cell after told world).1) where
  abbrev final : List Entry × World
  final = told_on place cell after told world

  -- a message is got, of a process of one node of the journal by one of another
  pub record ItemNext : Type 0 where
    pub from : ProcessId
    pub to : ProcessId
    pub epoch : ℕ
    pub index : ℕ
    pub party : Side → Party
    pub pair : IsPairOf journal party
    pub x : Side
    pub of : IsOfPair journal world.names (party x).name (party (other x)).name from to
    pub so : NextSo journal log world cell (log ++ final.0) final.1 (process_called world.names from) (process_called world.names to) epoch index party x
    pub told_is : final.0 ≡ entries.Got (process_called world.names from) (names.Process (process_called world.names to)) epoch index (Some (process_called world.names to)) ∷ []

  module _ (i : ItemGot journal nodes log world known.0.0 known.0.1 known.1 place cell done host told after at ran reading) where
    abbrev p : ProcName
    p = process_called world.names i.from

    abbrev q : ProcName
    q = process_called world.names i.to

    its_follows : Follows i.party world i.x log i.id i.payload i.word
    its_follows = follows i.party world i.x log i.id i.payload i.word i.next

    -- the saying
    word_at : TrueWord journal (sayings (i.party i.x).name (i.party (other i.x)).name log) (carried_in [] (read_of i.party world i.x log)) ((i.id, i.payload), i.word) (Some (message (Opening (ends.Process i.from) (ends.Process i.to))))
    word_at = subst (TrueWord journal (sayings (i.party i.x).name (i.party (other i.x)).name log) (carried_in [] (read_of i.party world i.x log)) ((i.id, i.payload), i.word)) i.so.opened
        (subst (λ (l : List (ℕ × List ℕ)). TrueWord journal (sayings (i.party i.x).name (i.party (other i.x)).name log) (carried_in [] l) ((i.id, i.payload), i.word) (first_payload i.id l)) its_follows.read
        (true_from journal (sayings (i.party i.x).name (i.party (other i.x)).name log) its_follows.before ((i.id, i.payload), i.word) its_follows.rest (length (sayings (i.party i.x).name (i.party (other i.x)).name log))
        (subst (λ (l : List Word). TrueWords journal (sayings (i.party i.x).name (i.party (other i.x)).name log) [] 0 l (length (sayings (i.party i.x).name (i.party (other i.x)).name log))) its_follows.words (known.0.0.1.0 i.party i.pair i.x).words)))

    saying : IsSaying (i.party i.x).name (i.party (other i.x)).name log word_at.0
    saying = saying_is (i.party i.x).name (i.party (other i.x)).name log (carried_in [] (read_of i.party world i.x log)) word_at.0 word_at.1

    sp : SaidPair journal world.names (i.party i.x).name (i.party (other i.x)).name word_at.0.by word_at.0.to
    sp = said_pair journal world.names i.party i.pair (known.0.0.0.each_pair.shown i.party i.pair).called_as i.x log known.0.1 word_at.0 saying

    same : (sp.from ≡ i.from) × (sp.receiver ≡ i.to)
    same = opening_is sp.from sp.receiver i.from i.to sp.pair.from_fits sp.pair.to_fits i.so.pair.from_fits i.so.pair.to_fits (some_is (message (Opening (ends.Process sp.from) (ends.Process sp.receiver))) (message (Opening (ends.Process i.from) (ends.Process i.to))) (sym sp.opens ∙ word_at.2.pair))

    first : (or_first i.word).epoch ≡ 0
    first = (got_well journal log world known.0.0 known.0.1 i.party i.pair i.x i.id i.payload i.word its_follows i.from i.to i.so.pair i.so.opened i.so.counted).first

    -- one more is got than before
    one_more : gets_of p q (log ++ final.0) ≡ gets_of p q log + 1
    one_more = ap (λ (l : List Entry). gets_of p q (log ++ l)) i.told_is ∙ got_both p q log (entries.Got p (names.Process q) (or_first i.word).epoch (or_first i.word).index (Some q) ∷ [])
        ∙ ap (λ (n : ℕ). gets_of p q log + n) (got_entry p q world.names i.word i.from i.to first ∙ ap (λ (b : Bool). cond (b && same_process q q) 1 0) (same_itself p) ∙ ap (λ (b : Bool). cond b 1 0) (same_itself q))

    too_many : {A : Type 0} (k l m n : ℕ) → k ≡ l + 1 → k ≤ m → l ≡ n → m ≡ n → A
    too_many k l m n e f g h = absurd (omega arith)

    -- the frame was read in this turn
    its_read : ReadsOne log world i.party i.x place cell (log ++ final.0) final.1
    its_read = by_one (reading i.party i.pair i.x).0 (reading i.party i.pair i.x).1 where
      by_one : Grown i.party i.x log (log ++ final.0) → ReadsOne log world i.party i.x place cell (log ++ final.0) final.1 ⊎ ReadsNone log world i.party i.x place cell (log ++ final.0) final.1 → ReadsOne log world i.party i.x place cell (log ++ final.0) final.1
      by_one grown (inl r) = r
      by_one grown (inr n) =
          let still : read_of i.party final.1 i.x (log ++ final.0) ≡ read_of i.party world i.x log = read_same i.party i.x log (log ++ final.0) world final.1 (known.0.0.1.1 i.party i.pair i.x) grown n.0 in
          too_many (gets_of p q (log ++ final.0)) (gets_of p q log) (after_first i.id (read_of i.party final.1 i.x (log ++ final.0))) (after_first i.id (read_of i.party world i.x log)) one_more
          ((then_known.1 i.party i.pair i.x).gets.most p q i.id (message (Opening (ends.Process i.from) (ends.Process i.to))) i.so.pair.from_node i.so.pair.to_node (of_pair_opens journal world.names (i.party i.x).name (i.party (other i.x)).name i.from i.to i.so.pair) (ap (first_payload i.id) still ∙ i.so.opened))
          i.so.counted (ap (after_first i.id) still)

    its_next : ReadsNext log world i.party i.x cell (frames.Data i.id i.payload) i.word
    its_next = subst (λ (l : Placed). ReadsNext log world i.party i.x cell l.0 l.1) (some_is (its_read.frame, its_read.word) (frames.Data i.id i.payload, i.word) (sym its_read.reads_next.next ∙ i.next)) its_read.reads_next

    pub next_of : ItemNext
    next_of = record {
      from = i.from;
      to = i.to;
      epoch = (or_first i.word).epoch;
      index = (or_first i.word).index;
      party = i.party;
      pair = i.pair;
      x = i.x;
      of = i.so.pair;
      so = record {
        id = i.id;
        payload = i.payload;
        word = i.word;
        opening = message (Opening (ends.Process i.from) (ends.Process i.to));
        opened = i.so.opened;
        s = word_at.0;
        at = word_at.1;
        carries = word_at.2;
        marked = (known.0.1.each saying.i word_at.0.by word_at.0.to word_at.0.epoch word_at.0.index word_at.0.mark word_at.0.body saying.at).marked;
        by_is = sp.by_is ∙ ap (process_called world.names) same.0;
        to_is = sp.to_is ∙ ap (λ (r : ProcessId). names.Process (process_called world.names r)) same.1;
        epoch_is = sym (ap (λ (o : Option Place). (or_first o).epoch) word_at.2.place);
        index_is = sym (ap (λ (o : Option Place). (or_first o).index) word_at.2.place);
        reads_next = its_next;
        more = its_read.more;
      };
      told_is = i.told_is;
    }

  -- as it reads an item a host tells of no message that is got, or of one that is carried next
  pub item_next : host_next cell.0.host ≡ Ok (Some done, host) → NoGots final.0 ⊎ ItemNext
  item_next e = by_told (item_tells journal nodes log world known.0.0 known.0.1 known.1 place cell done host told after at ran reading e then_known.0.0.0.kinds) where
    by_told : NoGots final.0 ⊎ ItemGot journal nodes log world known.0.0 known.0.1 known.1 place cell done host told after at ran reading → NoGots final.0 ⊎ ItemNext
    by_told (inl n) = inl n
    by_told (inr i) = inr (next_of i)
