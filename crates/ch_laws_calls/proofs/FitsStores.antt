-- A host whose link is kept anew: what changes of that link's ids, and of what was read and written of them.
use Rattle.std.proofs.Common.{◌≡◌, ℕ, Bool, true, false, cond, List, [], ◌∷◌, ◌++◌, length, map, Ok, Err, refl, sym, ap, ◌∙◌, subst}
use Rattle.std.specs.Prelude.{find, Option, Some, None, Result, ◌==◌}
use Rattle.ch_base.specs.declared.address.Address.{Address}
use Rattle.ch_wire.specs.Spelling.{frame_spelling}
use Rattle.ch_wire.specs.declared.frame.Frame.{Frame}
use Rattle.ch_reader.specs.Items.{spellings, MayFollow}
use Rattle.ch_reader.specs.declared.item.Expected.{Expected}
use Rattle.ch_reader.specs.declared.item.Expected.TheVariants as expected
use Rattle.ch_reader.specs.declared.item.Item.{Item}
use Rattle.ch_reader.specs.declared.item.Item.TheVariants as items
use Rattle.ch_light.specs.declared.Connection.{Connection}
use Rattle.ch_model.specs.declared.step.Step.{Step}
use Rattle.ch_model.specs.declared.step.Step.TheVariants as steps
use Rattle.ch_model.specs.declared.step.Weight.{Weight}
use Rattle.ch_model.specs.HostState.{Link, Socket, HostState}
use Rattle.ch_model.specs.HostSteps.{link_with, store_link, is_socket}
use Rattle.ch_model.specs.HostWrites.{frame_step}
use Rattle.ch_race.specs.Pair as pair
use Rattle.ch_laws_calls.specs.Tables.{table_of}
use Rattle.ch_laws_race.specs.Answers.{AreData}
use Rattle.ch_laws_race.specs.View.{frame_kind}
use Rattle.ch_laws_reads.specs.Reads.{AreRead, reads_of}
use Rattle.ch_laws_writes.specs.Dues.{Due, Asking, Answering, Framing, due_at}
use Rattle.ch_laws_writes.specs.Orderly.{AreFrames, link_at}
use Rattle.ch_laws_writes.proofs.Ordered.{is_key, at_stored, at_other}
use Rattle.ch_laws_calls.specs.FitsFit.{is_up_at, LinkHolds, frames_in}
use Rattle.ch_laws_calls.specs.FitsTurns.{bytes_at, NoDials, DialsAlone, IsKind, Gives, Creates, Turn}

-- ---- links that are kept

-- of the links one is this now, under its endpoint and peer, and all others are as they were
pub record Stores (before after : List Link) (end : ℕ) (peer : Address) (link : Link) : Type 0 where
  pub now : link_at after end peer ≡ link
  pub others : (e : ℕ) (p : Address) → is_key end peer e p ≡ false → link_at after e p ≡ link_at before e p

pub stored : (links : List Link) (link : Link) → Stores links (store_link link links) link.end link.peer link
stored links link = record { now = at_stored link links; others = λ e p h. at_other link links e p h }

pub stored_again : (links : List Link) (one link : Link) → link.end ≡ one.end → link.peer ≡ one.peer → Stores links (store_link link (store_link one links)) one.end one.peer link
stored_again links one link e p = subst (λ (n : ℕ). Stores links (store_link link (store_link one links)) n one.peer link) e (subst (λ (a : Address). Stores links (store_link link (store_link one links)) link.end a link) p
    (record { now = at_stored link (store_link one links); others = λ n a h. at_other link (store_link one links) n a h ∙ at_other one links n a (subst (λ (m : ℕ). is_key m one.peer n a ≡ false) e (subst (λ (b : Address). is_key link.end b n a ≡ false) p h)) }))

-- ---- what is written

-- nothing may be written whatever is due
pub none_kind : (own : ℕ → Address) (due : Option Due) → IsKind own due []
none_kind own None = refl
none_kind own (Some (Asking end peer)) = λ r. tt
none_kind own (Some Answering) = tt
none_kind own (Some Framing) = tt

-- these items at one number, and nothing at others
abbrev pub only_at : ℕ → List Item → ℕ → List Item
only_at sock said n = cond (sock == n) said []

pub only_kind : (own : ℕ → Address) (due : ℕ → Option Due) (sock : ℕ) (said : List Item) → ((n : ℕ) → (sock == n) ≡ true → sock ≡ n) → IsKind own (due sock) said → (n : ℕ) → IsKind own (due n) (only_at sock said n)
only_kind own due sock said same k n = by_test (sock == n) refl where
  by_test : (b : Bool) → (sock == n) ≡ b → IsKind own (due n) (cond b said [])
  by_test true h = subst (λ (m : ℕ). IsKind own (due m) said) (same n h) k
  by_test false h = none_kind own (due n)

pub only_spelled : (sock n : ℕ) (said : List Item) → cond (sock == n) (spellings said) [] ≡ spellings (only_at sock said n)
only_spelled sock n said = by_test (sock == n) where
  by_test : (b : Bool) → cond b (spellings said) [] ≡ spellings (cond b said [])
  by_test true = refl
  by_test false = refl

-- the frames that wait
abbrev pub items_of : List (Frame × Weight) → List Item
items_of waits = map (λ (wait : Frame × Weight). items.Frame wait.0) waits

abbrev pub frames_of : List (Frame × Weight) → List Frame
frames_of waits = map (λ (wait : Frame × Weight). wait.0) waits

pub waits_in : (waits : List (Frame × Weight)) → frames_in (items_of waits) ≡ frames_of waits
waits_in [] = refl
waits_in (wait ∷ waits) = ap (λ (l : List Frame). wait.0 ∷ l) (waits_in waits)

pub waits_follow : (waits : List (Frame × Weight)) → AreFrames waits → MayFollow expected.Frame (items_of waits)
waits_follow [] a = tt
waits_follow (wait ∷ waits) a = (a.0, waits_follow waits a.1)

pub waits_bytes : (sock n : ℕ) (waits : List (Frame × Weight)) → bytes_at n (map (frame_step sock) waits) ≡ cond (sock == n) (spellings (items_of waits)) []
waits_bytes sock n [] = by_test (sock == n) where
  by_test : (b : Bool) → [] ≡ cond b (spellings []) []
  by_test true = refl
  by_test false = refl
waits_bytes sock n (wait ∷ waits) = by_test (sock == n) (waits_bytes sock n waits) where
  by_test : (b : Bool) → bytes_at n (map (frame_step sock) waits) ≡ cond b (spellings (items_of waits)) [] → cond b (frame_spelling wait.0 ++ bytes_at n (map (frame_step sock) waits)) (bytes_at n (map (frame_step sock) waits)) ≡ cond b (spellings (items_of (wait ∷ waits))) []
  by_test true e = ap (λ (l : List ℕ). frame_spelling wait.0 ++ l) e
  by_test false e = e

pub waits_read : (sock n : ℕ) (waits : List (Frame × Weight)) → reads_of n (map (frame_step sock) waits) ≡ 0
waits_read sock n [] = refl
waits_read sock n (wait ∷ waits) = waits_read sock n waits

pub waits_alone : (sock : ℕ) (waits : List (Frame × Weight)) → NoDials (map (frame_step sock) waits)
waits_alone sock [] = tt
waits_alone sock (wait ∷ waits) = waits_alone sock waits

pub no_dials : (told : List Step) → NoDials told → DialsAlone told
no_dials [] n = tt
no_dials (steps.Dial sock end peer ∷ rest) n = absurd n
no_dials (steps.Read sock ∷ rest) n = n
no_dials (steps.Write sock bytes said ∷ rest) n = n
no_dials (steps.Up sock ∷ rest) n = n
no_dials (steps.Down sock ∷ rest) n = n
no_dials (steps.Left sock ∷ rest) n = n
no_dials (steps.Broke end peer why ∷ rest) n = n
no_dials (steps.Post end event ∷ rest) n = n

pub data_last : (waits : List (Frame × Weight)) (wait : Frame × Weight) → AreData waits → frame_kind wait.0 ≡ pair.Data → AreData (waits ++ wait ∷ [])
data_last [] wait a d = (d, tt)
data_last (one ∷ waits) wait a d = (a.0, data_last waits wait a.1 d)

-- ---- ids

-- the link is up on no socket
abbrev pub IsDown : Link → Type 0
IsDown link = (n : ℕ) → is_up_at n link.state ≡ false

-- where it is up after, it was, with the same ids; and nothing is written
pub record Stays (one two : Link) : Type 0 where
  pub up : (n : ℕ) → is_up_at n two.state ≡ true → is_up_at n one.state ≡ true
  pub given : two.given ≡ one.given
  pub created : two.created ≡ one.created

pub still_gives : (n : ℕ) (one two : Link) → Stays one two → Gives n one two []
still_gives n one two s = record { up = λ h. ap (λ b. Some (cond b (table_of one.given) [])) (s.up n h) ∙ ap (λ (l : List Connection). Some (table_of l)) (sym s.given); not = λ h. refl }

pub still_creates : (n : ℕ) (one two : Link) → Stays one two → Creates n one two []
still_creates n one two s = record { up = λ h. ap (λ b. Some (cond b (table_of one.created) [])) (s.up n h) ∙ ap (λ (l : List Connection). Some (table_of l)) (sym s.created); not = λ h. refl }

-- it isn't up after
pub down_gives : (n : ℕ) (one two : Link) → IsDown two → Gives n one two []
down_gives n one two d = record { up = λ h. absurd (clash (sym h ∙ d n)); not = λ h. refl } where
  clash : true ≡ false → ⊥
  clash e = cc

pub down_creates : (n : ℕ) (one two : Link) → IsDown two → Creates n one two []
down_creates n one two d = record { up = λ h. absurd (clash (sym h ∙ d n)); not = λ h. refl } where
  clash : true ≡ false → ⊥
  clash e = cc

-- nothing was read
pub no_items : (items : List Item) → length items ≡ 0 → items ≡ []
no_items [] e = refl
no_items (item ∷ items) e = absurd cc

-- ---- a turn

-- where nothing is read
pub turned : (own : ℕ → Address) (host after : HostState) (end : ℕ) (peer : Address) (told : List Step) (one two : Link) → link_with host end peer ≡ one → Stores host.links after.links end peer two → LinkHolds two → (said : ℕ → List Item) → ((n : ℕ) → bytes_at n told ≡ spellings (said n))
    → ((n : ℕ) → IsKind own (due_at host n) (said n)) → ((n : ℕ) → Gives n one two (frames_in (said n))) → ((n : ℕ) → reads_of n told ≡ 0) → ((n : ℕ) → Creates n one two []) → DialsAlone told → Turn own host end peer told after
turned own host after end peer told one two was s holds said spelled kind gives reads creates alone = record {
  alone = alone;
  others = s.others;
  holds = subst LinkHolds (sym s.now) holds;
  said = said;
  spelled = spelled;
  kind = kind;
  gives = λ n. subst (λ (l : Link). Gives n (link_with host end peer) l (frames_in (said n))) (sym s.now) (subst (λ (l : Link). Gives n l two (frames_in (said n))) (sym was) (gives n));
  creates = λ n known read next left found many front. subst (λ (l : Link). Creates n (link_with host end peer) l (frames_in read)) (sym s.now) (subst (λ (l : Link). Creates n l two (frames_in read)) (sym was) (subst (λ (l : List Item). Creates n one two (frames_in l)) (sym (no_items read (many ∙ reads n))) (creates n)));
}

-- where one item is read on a socket first, whose bytes begin with it, and nothing more
pub record ReadsOne (host : HostState) (sock : ℕ) (item : Item) (told : List Step) (one two : Link) : Type 0 where
  pub count : (n : ℕ) → reads_of n told ≡ cond (sock == n) 1 0
  pub first : (known : Socket) (read : List Item) (next : Expected) (left : List ℕ) → find (is_socket sock) host.sockets ≡ Some known → length read ≡ 1 → AreRead known.expected known.since read next left → read ≡ item ∷ []
  pub here : Creates sock one two (frames_in (item ∷ []))
  pub there : (n : ℕ) → (sock == n) ≡ false → Creates n one two []

pub turned_reading : (own : ℕ → Address) (host after : HostState) (end : ℕ) (peer : Address) (told : List Step) (one two : Link) (sock : ℕ) (item : Item) → link_with host end peer ≡ one → Stores host.links after.links end peer two → LinkHolds two → (said : ℕ → List Item) → ((n : ℕ) → bytes_at n told ≡ spellings (said n))
    → ((n : ℕ) → IsKind own (due_at host n) (said n)) → ((n : ℕ) → Gives n one two (frames_in (said n))) → ((n : ℕ) → (sock == n) ≡ true → sock ≡ n) → ReadsOne host sock item told one two → DialsAlone told → Turn own host end peer told after
turned_reading own host after end peer told one two sock item was s holds said spelled kind gives same r alone = record {
  alone = alone;
  others = s.others;
  holds = subst LinkHolds (sym s.now) holds;
  said = said;
  spelled = spelled;
  kind = kind;
  gives = λ n. subst (λ (l : Link). Gives n (link_with host end peer) l (frames_in (said n))) (sym s.now) (subst (λ (l : Link). Gives n l two (frames_in (said n))) (sym was) (gives n));
  creates = λ n known read next left found many front. subst (λ (l : Link). Creates n (link_with host end peer) l (frames_in read)) (sym s.now) (subst (λ (l : Link). Creates n l two (frames_in read)) (sym was) (by_test n known read next left found many front (sock == n) refl));
} where
  by_test : (n : ℕ) (known : Socket) (read : List Item) (next : Expected) (left : List ℕ) → find (is_socket n) host.sockets ≡ Some known → length read ≡ reads_of n told → AreRead known.expected known.since read next left → (b : Bool) → (sock == n) ≡ b → Creates n one two (frames_in read)
  by_test n known read next left found many front true h =
      let number : sock ≡ n = same n h in
      let one_item : read ≡ item ∷ [] = r.first known read next left (subst (λ (m : ℕ). find (is_socket m) host.sockets ≡ Some known) (sym number) found) (many ∙ r.count n ∙ ap (λ b. cond b 1 0) h) front in
      subst (λ (l : List Item). Creates n one two (frames_in l)) (sym one_item) (subst (λ (m : ℕ). Creates m one two (frames_in (item ∷ []))) number r.here)
  by_test n known read next left found many front false h = subst (λ (l : List Item). Creates n one two (frames_in l)) (sym (no_items read (many ∙ r.count n ∙ ap (λ b. cond b 1 0) h))) (r.there n h)

-- whatever was done
abbrev pub AllTurn : {E : Type 0} → (ℕ → Address) → HostState → ℕ → Address → Result (List Step × HostState) E → Type 0
AllTurn own host end peer (Ok done) = Turn own host end peer done.0 done.1
AllTurn own host end peer (Err e) = Unit {0}
