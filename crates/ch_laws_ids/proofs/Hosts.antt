-- A call of a host leads on what its ends wrote: the pieces that it writes are the items that it says, whose frames are fit.
use Rattle.std.proofs.Common.{◌≡◌, ◌⊎◌, inl, inr, ℕ, Bool, true, false, cond, List, [], ◌∷◌, ◌++◌, length, map, refl, sym, ap, ◌∙◌, subst, append_assoc}
use Rattle.std.proofs.lemmas.List.{append-nil}
use Rattle.std.proofs.lemmas.List.Elements.{filter_map-append}
use Rattle.std.specs.List.{cons_option}
use Rattle.std.specs.Prelude.{drop, filter_map, find, Option, Some, None, is_some, ◌==◌}
use Rattle.std.specs.Str.{bytes_eq}
use Rattle.ch_base.specs.declared.address.Address.{Address}
use Rattle.ch_wire.specs.Spelling.{IsFrame, answer_spelling, frame_spelling}
use Rattle.ch_wire.specs.declared.answer.Answer.TheVariants.{Accepted}
use Rattle.ch_wire.specs.declared.frame.Frame.{Frame}
use Rattle.ch_reader.specs.Items.{item_spelling, spellings, MayFollow}
use Rattle.ch_reader.specs.Reading.{reading}
use Rattle.ch_reader.specs.declared.item.Expected.TheVariants as expected
use Rattle.ch_reader.specs.declared.item.Front.{Front}
use Rattle.ch_reader.specs.declared.item.Item.{Item}
use Rattle.ch_reader.specs.declared.item.Item.TheVariants as items
use Rattle.ch_reader.proofs.Complete.{reads_item}
use Rattle.ch_model.specs.declared.name.End.{End}
use Rattle.ch_model.specs.declared.step.Step.{Step}
use Rattle.ch_model.specs.declared.step.Step.TheVariants as steps
use Rattle.ch_model.specs.AccountsItems.{item_of_front, frame_of}
use Rattle.ch_model.specs.HostState.{Socket, HostState}
use Rattle.ch_model.specs.HostSteps.{is_socket}
use Rattle.ch_laws_calls.specs.Tables.{Table, frames_on}
use Rattle.ch_laws_calls.specs.FitsFit.{final_at, frames_in, Leads}
use Rattle.ch_laws_calls.specs.FitsTurns.{bytes_at, NoDials, LeadsOn, WriterGoes, Carries}
use Rattle.ch_laws_calls.proofs.FitsFrames.{frames_after, frames_append, spelled_once}
use Rattle.ch_laws_writes.specs.Dues.{Due, Asking, Answering, Framing, due_at, due_past, due_after, due_after_all, IsDue, AllDue, Writes}
use Rattle.ch_laws_writes.specs.Writings.{AreItems}
use Rattle.ch_laws_writes.proofs.Worlds.{number_is, number_same}
use Rattle.ch_laws_writes.proofs.Written.{FitsDue, next_fits}
use Rattle.ch_laws_ids.specs.Runs.{frames_from, pieces_at, Runs}

-- ---- pieces and bytes

abbrev pub all_bytes : List (List ℕ) → List ℕ
all_bytes [] = []
all_bytes (piece ∷ rest) = piece ++ all_bytes rest

bytes_are : (n : ℕ) (told : List Step) → bytes_at n told ≡ all_bytes (pieces_at n told)
bytes_are n [] = refl
bytes_are n (steps.Write sock bytes said ∷ rest) = by_test (sock == n) (bytes_are n rest) where
  by_test : (b : Bool) → bytes_at n rest ≡ all_bytes (pieces_at n rest) → cond b (bytes ++ bytes_at n rest) (bytes_at n rest) ≡ all_bytes (cond b (bytes ∷ pieces_at n rest) (pieces_at n rest))
  by_test true more = ap (λ (l : List ℕ). bytes ++ l) more
  by_test false more = more
bytes_are n (step ∷ rest) = bytes_are n rest

items_bytes : (said : List Item) → all_bytes (map item_spelling said) ≡ spellings said
items_bytes [] = refl
items_bytes (item ∷ rest) = ap (λ (l : List ℕ). item_spelling item ++ l) (items_bytes rest)

-- ---- frames

abbrev pub frame_in : Option Item → Option Frame
frame_in None = None
frame_in (Some (items.Frame frame)) = Some frame
frame_in (Some item) = None

of_item : (bytes : List ℕ) (o : Option Item) → item_of_front (reading expected.Frame bytes) (length bytes) ≡ o → frame_of bytes ≡ frame_in o
of_item bytes o e = subst (λ (x : Option Item). (elim x as (λ x. Option Frame) [
  | None ↦ None
  | Some item ↦ elim item as (λ i. Option Frame) [ items.Frame frame ↦ Some frame | _ ↦ None ]
]) ≡ frame_in o) (sym e) (same o) where
  same : (o : Option Item) → (elim o as (λ x. Option Frame) [
    | None ↦ None
    | Some item ↦ elim item as (λ i. Option Frame) [ items.Frame frame ↦ Some frame | _ ↦ None ]
  ]) ≡ frame_in o
  same None = refl
  same (Some (items.Frame frame)) = refl
  same (Some (items.Request request)) = refl
  same (Some (items.Answer answer)) = refl

-- a frame is read back from its spelling
frame_read : (frame : Frame) → IsFrame frame → frame_of (frame_spelling frame) ≡ Some frame
frame_read frame is = of_item (frame_spelling frame) (Some (items.Frame frame))
    (ap (λ (f : Front × ℕ). item_of_front f (length (frame_spelling frame))) (ap (reading expected.Frame) (sym (append-nil (frame_spelling frame))) ∙ reads_item expected.Frame (items.Frame frame) [] is)
    ∙ ap (λ b. cond b (Some (items.Frame frame)) None) (number_same (length (frame_spelling frame))))

frames_read : (said : List Item) → MayFollow expected.Frame said → filter_map frame_of (map item_spelling said) ≡ frames_in said
frames_read [] m = refl
frames_read (items.Frame frame ∷ rest) m = ap (λ (o : Option Frame). cons_option o (filter_map frame_of (map item_spelling rest))) (frame_read frame m.0) ∙ ap (λ (l : List Frame). frame ∷ l) (frames_read rest m.1)
frames_read (items.Request request ∷ rest) m = absurd m.0
frames_read (items.Answer answer ∷ rest) m = absurd m.0

first_frames : (said : List Item) → MayFollow expected.Answer said → frames_from (map item_spelling said) ≡ frames_in said
first_frames [] m = refl
first_frames (items.Answer answer ∷ rest) m = frames_read rest m.1
first_frames (items.Request request ∷ rest) m = absurd m.0
first_frames (items.Frame frame ∷ rest) m = absurd m.0

-- ---- what is due

-- the pieces are items that may be written where that is due; nothing is said of those after a request
abbrev pub PiecesOf : Option Due → List (List ℕ) → Type 0
PiecesOf None pieces = pieces ≡ []
PiecesOf (Some (Asking end peer)) pieces = Unit {0}
PiecesOf (Some Answering) pieces = AreItems expected.Answer pieces
PiecesOf (Some Framing) pieces = AreItems expected.Frame pieces

no_pieces : (due : Option Due) → PiecesOf due []
no_pieces None = refl
no_pieces (Some (Asking end peer)) = tt
no_pieces (Some Answering) = ([], refl, tt)
no_pieces (Some Framing) = ([], refl, tt)

first_piece : (item : Item) (said : List Item) (bytes : List ℕ) (pieces : List (List ℕ)) → bytes ≡ item_spelling item → pieces ≡ map item_spelling said → bytes ∷ pieces ≡ map item_spelling (item ∷ said)
first_piece item said bytes pieces one all = ap (λ (l : List ℕ). l ∷ pieces) one ∙ ap (λ (l : List (List ℕ)). item_spelling item ∷ l) all

one_due : (own : ℕ → Address) (due : Option Due) (bytes : List ℕ) (pieces : List (List ℕ)) → IsDue own due bytes → PiecesOf (due_past bytes due) pieces → PiecesOf due (bytes ∷ pieces)
one_due own None bytes pieces d p = absurd d
one_due own (Some (Asking end peer)) bytes pieces d p = tt
one_due own (Some Answering) bytes pieces d p = by_test (bytes_eq bytes (answer_spelling Accepted)) p where
  by_test : (b : Bool) → PiecesOf (cond b (Some Framing) None) pieces → AreItems expected.Answer (bytes ∷ pieces)
  by_test true p = (items.Answer d.0 ∷ p.0, first_piece (items.Answer d.0) p.0 bytes pieces d.1 p.1, (tt, p.2))
  by_test false p = (items.Answer d.0 ∷ [], first_piece (items.Answer d.0) [] bytes pieces d.1 p, (tt, tt))
one_due own (Some Framing) bytes pieces d p = (items.Frame d.0 ∷ p.0, first_piece (items.Frame d.0) p.0 bytes pieces d.2 p.1, (d.1, p.2))

over_due : (b : Bool) (due : Option Due) (pieces : List (List ℕ)) → PiecesOf (cond b None due) pieces → PiecesOf due pieces
over_due true due pieces p = subst (PiecesOf due) (sym p) (no_pieces due)
over_due false due pieces p = p

pieces_of : (own : ℕ → Address) (n : ℕ) (told : List Step) (due : Option Due) → NoDials told → AllDue own n told due → PiecesOf due (pieces_at n told)
pieces_of own n [] due nd a = no_pieces due
pieces_of own n (steps.Write sock bytes said ∷ rest) due nd a = by_test (sock == n) a.0 (pieces_of own n rest (due_after n (steps.Write sock bytes said) due) nd a.1) where
  by_test : (b : Bool) → (b ≡ true → IsDue own due bytes) → PiecesOf (cond b (due_past bytes due) due) (pieces_at n rest) → PiecesOf due (cond b (bytes ∷ pieces_at n rest) (pieces_at n rest))
  by_test true d p = one_due own due bytes (pieces_at n rest) (d refl) p
  by_test false d p = p
pieces_of own n (steps.Dial sock end peer ∷ rest) due nd a = absurd nd
pieces_of own n (steps.Down sock ∷ rest) due nd a = over_due (sock == n) due (pieces_at n rest) (pieces_of own n rest (due_after n (steps.Down sock) due) nd a.1)
pieces_of own n (steps.Left sock ∷ rest) due nd a = over_due (sock == n) due (pieces_at n rest) (pieces_of own n rest (due_after n (steps.Left sock) due) nd a.1)
pieces_of own n (steps.Read sock ∷ rest) due nd a = pieces_of own n rest due nd a.1
pieces_of own n (steps.Up sock ∷ rest) due nd a = pieces_of own n rest due nd a.1
pieces_of own n (steps.Broke end peer why ∷ rest) due nd a = pieces_of own n rest due nd a.1
pieces_of own n (steps.Post end event ∷ rest) due nd a = pieces_of own n rest due nd a.1

-- what is due fits what was written, where something is due
abbrev pub FitsSome : Option Due → End → List (List ℕ) → Type 0
FitsSome None which pieces = Unit {0}
FitsSome (Some due) which pieces = FitsDue due which pieces

past_fits : (due : Option Due) (which : End) (pieces : List (List ℕ)) (bytes : List ℕ) → FitsSome due which pieces → FitsSome (due_past bytes due) which (pieces ++ bytes ∷ [])
past_fits None which pieces bytes f = tt
past_fits (Some due) which pieces bytes f = by_next (due_past bytes (Some due)) refl where
  by_next : (o : Option Due) → due_past bytes (Some due) ≡ o → FitsSome o which (pieces ++ bytes ∷ [])
  by_next None e = tt
  by_next (Some next) e = next_fits due which pieces bytes next f e

over_fits : (b : Bool) (due : Option Due) (which : End) (pieces : List (List ℕ)) → FitsSome due which pieces → FitsSome (cond b None due) which pieces
over_fits true due which pieces f = tt
over_fits false due which pieces f = f

all_fit : (n : ℕ) (told : List Step) (due : Option Due) (which : End) (pieces : List (List ℕ)) → NoDials told → FitsSome due which pieces → FitsSome (due_after_all n told due) which (pieces ++ pieces_at n told)
all_fit n [] due which pieces nd f = subst (FitsSome due which) (sym (append-nil pieces)) f
all_fit n (steps.Write sock bytes said ∷ rest) due which pieces nd f = by_test (sock == n) (λ d l g. all_fit n rest d which l nd g) where
  by_test : (b : Bool) → ((d : Option Due) (l : List (List ℕ)) → FitsSome d which l → FitsSome (due_after_all n rest d) which (l ++ pieces_at n rest)) → FitsSome (due_after_all n rest (cond b (due_past bytes due) due)) which (pieces ++ cond b (bytes ∷ pieces_at n rest) (pieces_at n rest))
  by_test true more = subst (FitsSome (due_after_all n rest (due_past bytes due)) which) (append_assoc pieces (bytes ∷ []) (pieces_at n rest)) (more (due_past bytes due) (pieces ++ bytes ∷ []) (past_fits due which pieces bytes f))
  by_test false more = more due pieces f
all_fit n (steps.Dial sock end peer ∷ rest) due which pieces nd f = absurd nd
all_fit n (steps.Down sock ∷ rest) due which pieces nd f = all_fit n rest (due_after n (steps.Down sock) due) which pieces nd (over_fits (sock == n) due which pieces f)
all_fit n (steps.Left sock ∷ rest) due which pieces nd f = all_fit n rest (due_after n (steps.Left sock) due) which pieces nd (over_fits (sock == n) due which pieces f)
all_fit n (steps.Read sock ∷ rest) due which pieces nd f = all_fit n rest due which pieces nd f
all_fit n (steps.Up sock ∷ rest) due which pieces nd f = all_fit n rest due which pieces nd f
all_fit n (steps.Broke end peer why ∷ rest) due which pieces nd f = all_fit n rest due which pieces nd f
all_fit n (steps.Post end event ∷ rest) due which pieces nd f = all_fit n rest due which pieces nd f

-- ---- where frames lead

none_after : (o : Option Table) → frames_after [] o ≡ o
none_after None = refl
none_after (Some table) = refl

leads_on : (final after : Option Table) (frames : List Frame) (now : Option Table) → Leads final now → LeadsOn final frames after → Leads after (frames_after frames now)
leads_on (Some final) (Some after) frames now l o = ap (frames_after frames) l ∙ o
leads_on (Some final) None frames now l o = ap (λ (t : Option Table). is_some (frames_after frames t)) l ∙ o
leads_on None (Some after) frames now l o = absurd o
leads_on None None frames None l o = absurd cc
leads_on None None frames (Some now) l o = ap (λ (f : List Frame). is_some (frames_on f now)) o

-- the items that the pieces are were said
same_items : (pieces : List (List ℕ)) (bytes : List ℕ) (all said : List Item) → bytes ≡ all_bytes pieces → pieces ≡ map item_spelling all → bytes ≡ spellings said → spellings all ≡ spellings said
same_items pieces bytes all said are is spelled = sym (items_bytes all) ∙ ap all_bytes (sym is) ∙ sym are ∙ spelled

-- at an end that is pending: at most its request is written, and then no id is given on it
abbrev pub AsksOnly : Option Due → List (List ℕ) → Option Table → Type 0
AsksOnly (Some (Asking end peer)) pieces after = (drop 1 pieces ≡ []) × Leads after (Some [])
AsksOnly due pieces after = Unit {0}

all_lead : (own : ℕ → Address) (due : Option Due) (which : End) (before pieces : List (List ℕ)) (bytes : List ℕ) (final after : Option Table) → PiecesOf due pieces → bytes ≡ all_bytes pieces → FitsSome due which before → WriterGoes own due final bytes after → AsksOnly due pieces after
    → Leads final (frames_on (frames_from before) []) → Leads after (frames_on (frames_from (before ++ pieces)) [])
all_lead own None which before pieces bytes final after p are f w a l =
    subst (λ (all : List (List ℕ)). Leads after (frames_on (frames_from all) [])) (sym (append-nil before) ∙ ap (λ (l : List (List ℕ)). before ++ l) (sym p))
    (subst (Leads after) (none_after (frames_on (frames_from before) [])) (leads_on final after [] (frames_on (frames_from before) []) l (subst (λ (s : List Item). LeadsOn final (frames_in s) after) w.kind w.leads)))
all_lead own (Some (Asking end peer)) which before pieces bytes final after p are f w a l =
    subst (λ (all : List (List ℕ)). Leads after (frames_on (frames_from (all ++ pieces)) [])) (sym f.1) (subst (λ (all : List (List ℕ)). Leads after (frames_on (filter_map frame_of all) [])) (sym a.0) a.1)
all_lead own (Some Answering) which before pieces bytes final after p are f w a l =
    let same : p.0 ≡ w.said = spelled_once expected.Answer p.0 w.said p.2 w.kind (same_items pieces bytes p.0 w.said are p.1 w.spelled) in
    subst (λ (all : List (List ℕ)). Leads after (frames_on (frames_from (all ++ pieces)) [])) (sym f.1)
    (subst (λ (all : List Frame). Leads after (frames_on all [])) (sym (ap frames_from p.1 ∙ first_frames p.0 p.2 ∙ ap frames_in same))
    (leads_on final after (frames_in w.said) (Some []) (subst (λ (all : List (List ℕ)). Leads final (frames_on (frames_from all) [])) f.1 l) w.leads))
all_lead own (Some Framing) which [] pieces bytes final after p are f w a l = absurd f
all_lead own (Some Framing) which (first ∷ before) pieces bytes final after p are f w a l =
    let same : p.0 ≡ w.said = spelled_once expected.Frame p.0 w.said p.2 w.kind (same_items pieces bytes p.0 w.said are p.1 w.spelled) in
    let frames : filter_map frame_of pieces ≡ frames_in w.said = ap (filter_map frame_of) p.1 ∙ frames_read p.0 p.2 ∙ ap frames_in same in
    subst (Leads after) (sym (ap (λ (all : List Frame). frames_on all []) (filter_map-append frame_of before pieces ∙ ap (λ (all : List Frame). filter_map frame_of before ++ all) frames) ∙ frames_append (filter_map frame_of before) (frames_in w.said) []))
    (leads_on final after (frames_in w.said) (frames_on (filter_map frame_of before) []) l w.leads)

-- ---- a call of a host

-- steps dial nothing; or all they do is to dial a socket that the host didn't have
abbrev pub DialsNew : HostState → List Step → Type 0
DialsNew host told = NoDials told ⊎ ((sock : ℕ) × (end : ℕ) × (peer : Address) × (told ≡ steps.Dial sock end peer ∷ []) × (find (is_socket sock) host.sockets ≡ None))

-- what is so of a call of a host
pub record Does (own : ℕ → Address) (host : HostState) (told : List Step) (after : HostState) : Type 0 where
  pub carries : Carries own host told after
  pub writes : Writes own (due_at host) told (due_at after)
  pub dials : DialsNew host told
  pub asks : (n : ℕ) → AsksOnly (due_at host n) (pieces_at n told) (final_at after n)

some_fits : (host : HostState) (n : ℕ) (which : End) (pieces : List (List ℕ)) (o : Option Due) → due_at host n ≡ o → Runs host n which pieces → FitsSome o which pieces
some_fits host n which pieces None e r = tt
some_fits host n which pieces (Some due) e r = r.due due e

pub fits_some : (o : Option Due) (which : End) (pieces : List (List ℕ)) → FitsSome o which pieces → (due : Due) → o ≡ Some due → FitsDue due which pieces
fits_some None which pieces f due e = absurd cc
fits_some (Some known) which pieces f due e = let is : known ≡ due = cc in subst (λ (d : Due). FitsDue d which pieces) is f

pub runs_on : (own : ℕ → Address) (host : HostState) (told : List Step) (after : HostState) (n : ℕ) (known : Socket) (which : End) (pieces : List (List ℕ)) → Does own host told after → find (is_socket n) host.sockets ≡ Some known → Runs host n which pieces → Runs after n which (pieces ++ pieces_at n told)
runs_on own host told after n known which pieces d found r = record {
  due = λ due e. fits_some (due_at after n) which (pieces ++ pieces_at n told) fits due e;
  leads = all_lead own (due_at host n) which pieces (pieces_at n told) (bytes_at n told) (final_at host n) (final_at after n) (by_dials d.dials).0 (bytes_are n told) before (d.carries.writes n known found) (d.asks n) r.leads;
} where
  before : FitsSome (due_at host n) which pieces
  before = some_fits host n which pieces (due_at host n) refl r

  other : (sock : ℕ) → find (is_socket sock) host.sockets ≡ None → (sock == n) ≡ false
  other sock none = by_test (sock == n) refl where
    by_test : (b : Bool) → (sock == n) ≡ b → b ≡ false
    by_test false h = refl
    by_test true h = let there : find (is_socket sock) host.sockets ≡ Some known = subst (λ (m : ℕ). find (is_socket m) host.sockets ≡ Some known) (sym (number_is sock n h)) found in absurd cc

  by_dials : DialsNew host told → PiecesOf (due_at host n) (pieces_at n told) × FitsSome (due_after_all n told (due_at host n)) which (pieces ++ pieces_at n told)
  by_dials (inl nd) = (pieces_of own n told (due_at host n) nd (d.writes.due n), all_fit n told (due_at host n) which pieces nd before)
  by_dials (inr dial) = subst (λ (l : List Step). PiecesOf (due_at host n) (pieces_at n l) × FitsSome (due_after_all n l (due_at host n)) which (pieces ++ pieces_at n l)) (sym dial.3)
      (no_pieces (due_at host n), subst (λ (b : Bool). FitsSome (cond b (Some (Asking dial.1 dial.2)) (due_at host n)) which (pieces ++ [])) (sym (other dial.0 dial.4)) (subst (FitsSome (due_at host n) which) (sym (append-nil pieces)) before))

  fits : FitsSome (due_at after n) which (pieces ++ pieces_at n told)
  fits = subst (λ (o : Option Due). FitsSome o which (pieces ++ pieces_at n told)) (sym (d.writes.leads n)) (by_dials d.dials).1
