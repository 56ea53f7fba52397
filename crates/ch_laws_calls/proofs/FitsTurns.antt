-- What a call changes of one link is what all ends of its host carry on.
use Rattle.std.proofs.Common.{◌≡◌, ◌⊎◌, inl, inr, ℕ, Bool, true, false, cond, List, [], ◌∷◌, drop, length, refl, sym, ap, ◌∙◌, subst}
use Rattle.std.specs.Prelude.{find, Option, Some, None, is_some}
use Rattle.ch_base.specs.declared.address.Address.{Address}
use Rattle.ch_wire.specs.declared.frame.Frame.{Frame}
use Rattle.ch_reader.specs.Reading.{reading}
use Rattle.ch_reader.specs.declared.item.Expected.{Expected}
use Rattle.ch_reader.specs.declared.item.Expected.TheVariants as expected
use Rattle.ch_reader.specs.declared.item.Item.{Item}
use Rattle.ch_light.specs.declared.Connection.{Connection}
use Rattle.ch_link.specs.declared.LinkState.TheVariants.{Up}
use Rattle.ch_model.specs.declared.step.Step.{Step}
use Rattle.ch_model.specs.HostState.{Link, Socket, HostState}
use Rattle.ch_model.specs.HostSteps.{link_with, is_socket}
use Rattle.ch_model.specs.Stages.{is_ended}
use Rattle.ch_laws_bytes.specs.Streams.{reader_in}
use Rattle.ch_laws_calls.specs.Tables.{table_of, frames_on}
use Rattle.ch_laws_links.specs.Naming.{IsNaming}
use Rattle.ch_laws_links.proofs.Says.{risen}
use Rattle.ch_laws_reads.specs.Reads.{AreRead, IsKept, Reads, reads_of}
use Rattle.ch_laws_writes.proofs.Ordered.{is_key, at_key}
use Rattle.ch_laws_calls.specs.FitsFit.{is_up_at, up_on, ids_of, given_at, created_at, LinkHolds, HostHolds, final_in, final_at, frames_in}
use Rattle.ch_laws_calls.specs.FitsTurns.{ids_up, Turn, ReaderGoes, LeadsOn, Carries}
use Rattle.ch_laws_calls.proofs.FitsUps.{up_so, up_says, up_is, one_up, IsUpOn, IsUnrisen, stands}

-- ---- what is read

-- frames alone are expected after an item
frame_next : (e next : Expected) (bytes left : List ℕ) (item : Item) (more : List Item) → AreRead e bytes (item ∷ more) next left → next ≡ expected.Frame
frame_next e next bytes left item [] r = r.1.0
frame_next e next bytes left item (one ∷ more) r = frame_next expected.Frame next (drop (reading e bytes).1 bytes) left one more r.1

-- where no frame is expected, nothing was read
pub record NoneRead (e : Expected) (items : List Item) (next : Expected) : Type 0 where
  pub none : items ≡ []
  pub same : next ≡ e

none_read : (e next : Expected) (bytes left : List ℕ) (items : List Item) → AreRead e bytes items next left → (next ≡ expected.Frame → ⊥) → NoneRead e items next
none_read e next bytes left [] r off = record { none = refl; same = r.0 }
none_read e next bytes left (item ∷ more) r off = absurd (off (frame_next e next bytes left item more r))

-- ---- tables

-- a link that is up there has the ids there
ids_there : (f : Link → List Connection) (host : HostState) (end : ℕ) (peer : Address) (n : ℕ) (probed : Bool) → IsNaming host → (link_with host end peer).state ≡ Up n probed → ids_of f (up_on n host.links) ≡ table_of (f (link_with host end peer))
ids_there f host end peer n probed s e = ap (ids_of f) (up_is host end peer n probed s e)

is_not : (b : Bool) → (b ≡ true → ⊥) → b ≡ false
is_not true never = absurd (never refl)
is_not false never = refl

no_clash : (b : Bool) → b ≡ true → b ≡ false → ⊥
no_clash b t f = absurd cc

-- ---- an end that hasn't ended

record Goes (own : ℕ → Address) (host : HostState) (told : List Step) (after : HostState) (n : ℕ) (read : List Item) (said : List Item) : Type 0 where
  created : frames_on (frames_in read) (created_at host n) ≡ Some (created_at after n)
  given : frames_on (frames_in said) (given_at host n) ≡ Some (given_at after n)

-- what is so of an end before and after
record Ends (host after : HostState) (n : ℕ) (known now : Socket) (read : List Item) : Type 0 where
  before : IsNaming host
  later : IsNaming after
  found : find (is_socket n) host.sockets ≡ Some known
  kept : find (is_socket n) after.sockets ≡ Some now
  lived : is_ended known.stage ≡ false
  live : is_ended now.stage ≡ false
  front : AreRead known.expected known.since read now.expected now.since

-- none is up there, and none was
rests : (own : ℕ → Address) (host : HostState) (end : ℕ) (peer : Address) (told : List Step) (after : HostState) (n : ℕ) (known now : Socket) (read : List Item) (t : Turn own host end peer told after) → Ends host after n known now read → IsUnrisen after n now → Goes own host told after n read (t.said n)
rests own host end peer told after n known now read t e u = by_before (stands host n known e.before e.found e.lived) where
  none : NoneRead known.expected read now.expected
  none = none_read known.expected now.expected known.since now.since read e.front u.expects

  -- the link isn't up there
  off : is_up_at n (link_with after end peer).state ≡ false
  off = is_not (is_up_at n (link_with after end peer).state) (λ h. let up = up_so n (link_with after end peer).state h in let some : ◌≡◌ {A = Option Link} None (Some (link_with after end peer)) = sym u.none ∙ up_is after end peer n up.0 e.later up.1 in absurd cc)

  no_frames : frames_in (t.said n) ≡ []
  no_frames = (t.gives n).not off

  by_before : IsUpOn host n known ⊎ IsUnrisen host n known → Goes own host told after n read (t.said n)
  by_before (inl b) = absurd (u.expects (none.same ∙ b.expects))
  by_before (inr b) = record {
    created = ap (λ (l : List Item). frames_on (frames_in l) (created_at host n)) none.none ∙ ap (λ (o : Option Link). Some (ids_of (λ (link : Link). link.created) o)) (b.none ∙ sym u.none);
    given = ap (λ (l : List Frame). frames_on l (given_at host n)) no_frames ∙ ap (λ (o : Option Link). Some (ids_of (λ (link : Link). link.given) o)) (b.none ∙ sym u.none);
  }

-- another's link is up there, as it was
is_others : (own : ℕ → Address) (host : HostState) (end : ℕ) (peer : Address) (told : List Step) (after : HostState) (n : ℕ) (known now : Socket) (read : List Item) (t : Turn own host end peer told after) → Ends host after n known now read → length read ≡ reads_of n told
    → (u : IsUpOn after n now) → is_key end peer u.end u.peer ≡ false → Goes own host told after n read (t.said n)
is_others own host end peer told after n known now read t e many u key = record {
  created = ap (λ (l : List Frame). frames_on l (created_at host n)) ((t.creates n known read now.expected now.since e.found many e.front).not off_before) ∙ ap Some (same_ids (λ (link : Link). link.created));
  given = ap (λ (l : List Frame). frames_on l (given_at host n)) ((t.gives n).not off) ∙ ap Some (same_ids (λ (link : Link). link.given));
} where
  same : link_with after u.end u.peer ≡ link_with host u.end u.peer
  same = t.others u.end u.peer key

  state : (link_with host u.end u.peer).state ≡ Up n u.probed
  state = ap (λ (link : Link). link.state) (sym same) ∙ u.state

  same_ids : (f : Link → List Connection) → ids_of f (up_on n host.links) ≡ ids_of f (up_on n after.links)
  same_ids f = ids_there f host u.end u.peer n u.probed e.before state ∙ ap (λ (link : Link). table_of (f link)) (sym same) ∙ sym (ids_there f after u.end u.peer n u.probed e.later u.state)

  off : is_up_at n (link_with after end peer).state ≡ false
  off = is_not (is_up_at n (link_with after end peer).state) (λ h. let up = up_so n (link_with after end peer).state h in no_clash (is_key end peer u.end u.peer) (one_up after end peer u.end u.peer n up.0 u.probed e.later up.1 u.state) key)

  off_before : is_up_at n (link_with host end peer).state ≡ false
  off_before = is_not (is_up_at n (link_with host end peer).state) (λ h. let up = up_so n (link_with host end peer).state h in no_clash (is_key end peer u.end u.peer) (one_up host end peer u.end u.peer n up.0 u.probed e.before up.1 state) key)

-- the link is up there
is_own : (own : ℕ → Address) (host : HostState) (end : ℕ) (peer : Address) (told : List Step) (after : HostState) (n : ℕ) (known now : Socket) (read : List Item) (t : Turn own host end peer told after) → Ends host after n known now read → length read ≡ reads_of n told
    → (probed : Bool) → (link_with after end peer).state ≡ Up n probed → Goes own host told after n read (t.said n)
is_own own host end peer told after n known now read t e many probed up = record {
  created = ap (frames_on (frames_in read)) (before (λ (link : Link). link.created)) ∙ (t.creates n known read now.expected now.since e.found many e.front).up says ∙ ap Some (sym (ids_there (λ (link : Link). link.created) after end peer n probed e.later up));
  given = ap (frames_on (frames_in (t.said n))) (before (λ (link : Link). link.given)) ∙ (t.gives n).up says ∙ ap Some (sym (ids_there (λ (link : Link). link.given) after end peer n probed e.later up));
} where
  says : is_up_at n (link_with after end peer).state ≡ true
  says = up_says n (link_with after end peer).state probed up

  -- where it wasn't up there, none was
  not_yet : is_up_at n (link_with host end peer).state ≡ false → IsUpOn host n known ⊎ IsUnrisen host n known → up_on n host.links ≡ None
  not_yet off (inr b) = b.none
  not_yet off (inl b) = absurd (by_key (is_key end peer b.end b.peer) refl) where
    by_key : (k : Bool) → is_key end peer b.end b.peer ≡ k → ⊥
    by_key true h = no_clash (is_up_at n (link_with host end peer).state) (at_key (λ m a. is_up_at n (link_with host end peer).state ≡ is_up_at n (link_with host m a).state) end peer b.end b.peer h refl ∙ up_says n (link_with host b.end b.peer).state b.probed b.state) off
    by_key false h = no_clash (is_key end peer b.end b.peer) (one_up after end peer b.end b.peer n probed b.probed e.later up (ap (λ (link : Link). link.state) (t.others b.end b.peer h) ∙ b.state)) h

  before : (f : Link → List Connection) → ids_of f (up_on n host.links) ≡ ids_up f n (link_with host end peer)
  before f = by_test (is_up_at n (link_with host end peer).state) refl where
    by_test : (b : Bool) → is_up_at n (link_with host end peer).state ≡ b → ids_of f (up_on n host.links) ≡ cond b (table_of (f (link_with host end peer))) []
    by_test true h = let was = up_so n (link_with host end peer).state h in ids_there f host end peer n was.0 e.before was.1
    by_test false h = ap (ids_of f) (not_yet h (stands host n known e.before e.found e.lived))

goes : (own : ℕ → Address) (host : HostState) (end : ℕ) (peer : Address) (told : List Step) (after : HostState) (n : ℕ) (known now : Socket) (read : List Item) (t : Turn own host end peer told after) → Ends host after n known now read → length read ≡ reads_of n told → Goes own host told after n read (t.said n)
goes own host end peer told after n known now read t e many = by_after (stands after n now e.later e.kept e.live) where
  by_key : (u : IsUpOn after n now) (k : Bool) → is_key end peer u.end u.peer ≡ k → Goes own host told after n read (t.said n)
  by_key u true h = is_own own host end peer told after n known now read t e many u.probed (at_key (λ m a. (link_with after end peer).state ≡ (link_with after m a).state) end peer u.end u.peer h refl ∙ u.state)
  by_key u false h = is_others own host end peer told after n known now read t e many u h

  by_after : IsUpOn after n now ⊎ IsUnrisen after n now → Goes own host told after n read (t.said n)
  by_after (inl u) = by_key u (is_key end peer u.end u.peer) refl
  by_after (inr u) = rests own host end peer told after n known now read t e u

-- ---- all ends

-- the link isn't up where an end has ended
ended_off : (after : HostState) (end : ℕ) (peer : Address) (n : ℕ) (now : Socket) → IsNaming after → find (is_socket n) after.sockets ≡ Some now → is_ended now.stage ≡ true → is_up_at n (link_with after end peer).state ≡ false
ended_off after end peer n now s found over = is_not (is_up_at n (link_with after end peer).state) (λ h.
    let up = up_so n (link_with after end peer).state h in
    let one = risen after end peer n up.0 s up.1 in
    let same : ◌≡◌ {A = Option Socket} (Some now) (Some one.0) = sym found ∙ one.1 in
    no_clash (is_ended now.stage) over (ap is_ended (ap (λ (w : Socket). w.stage) (one_is now one.0 same) ∙ one.2.stands)))
  where
    one_is : (x y : Socket) → ◌≡◌ {A = Option Socket} (Some x) (Some y) → x ≡ y
    one_is x y e = cc

pub carried : (own : ℕ → Address) (host : HostState) (end : ℕ) (peer : Address) (told : List Step) (after : HostState) → IsNaming host → IsNaming after → Reads host told after → HostHolds host → Turn own host end peer told after → Carries own host told after
carried own host end peer told after before later r holds t = record {
  holds = λ e p. by_key e p (is_key end peer e p) refl;
  reads = λ n known found. reads_at n known found (find (is_socket n) after.sockets) refl (r.known n known found);
  writes = λ n known found. record { said = t.said n; spelled = t.spelled n; kind = t.kind n; leads = leads_at n known found (find (is_socket n) after.sockets) refl (r.known n known found) };
} where
  by_key : (e : ℕ) (p : Address) (k : Bool) → is_key end peer e p ≡ k → LinkHolds (link_with after e p)
  by_key e p true h = at_key (λ m a. LinkHolds (link_with after m a)) end peer e p h t.holds
  by_key e p false h = subst LinkHolds (sym (t.others e p h)) (holds e p)

  reads_at : (n : ℕ) (known : Socket) → find (is_socket n) host.sockets ≡ Some known → (o : Option Socket) → find (is_socket n) after.sockets ≡ o → IsKept (reads_of n told) known o → ReaderGoes (reader_in (Some known)) (created_at host n) (reader_in o) (created_at after n)
  reads_at n known found None kept k = absurd k
  reads_at n known found (Some now) kept k = by_ended (is_ended known.stage) refl (is_ended now.stage) refl where
    by_ended : (a : Bool) → is_ended known.stage ≡ a → (b : Bool) → is_ended now.stage ≡ b → ReaderGoes (cond a None (Some (known.expected, known.since))) (created_at host n) (cond b None (Some (now.expected, now.since))) (created_at after n)
    by_ended a lived true live = tt
    by_ended true lived false live = let no : is_ended now.stage ≡ true = k.over lived in absurd cc
    by_ended false lived false live =
        let read = k.read live in
        (read.items, read.front, (goes own host end peer told after n known now read.items t (record { before = before; later = later; found = found; kept = kept; lived = lived; live = live; front = read.front }) read.many).created)

  leads_at : (n : ℕ) (known : Socket) → find (is_socket n) host.sockets ≡ Some known → (o : Option Socket) → find (is_socket n) after.sockets ≡ o → IsKept (reads_of n told) known o → LeadsOn (final_at host n) (frames_in (t.said n)) (final_in o (given_at after n))
  leads_at n known found None kept k = absurd k
  leads_at n known found (Some now) kept k = subst (λ (o : Option Socket). LeadsOn (final_in o (given_at host n)) (frames_in (t.said n)) (final_in (Some now) (given_at after n))) (sym found) (by_ended (is_ended known.stage) refl (is_ended now.stage) refl) where
    by_ended : (a : Bool) → is_ended known.stage ≡ a → (b : Bool) → is_ended now.stage ≡ b → LeadsOn (cond a None (Some (given_at host n))) (frames_in (t.said n)) (cond b None (Some (given_at after n)))
    by_ended true lived true live = (t.gives n).not (ended_off after end peer n now later kept live)
    by_ended false lived true live = ap (λ (l : List Frame). is_some (frames_on l (given_at host n))) ((t.gives n).not (ended_off after end peer n now later kept live))
    by_ended true lived false live = let no : is_ended now.stage ≡ true = k.over lived in absurd cc
    by_ended false lived false live =
        let read = k.read live in
        (goes own host end peer told after n known now read.items t (record { before = before; later = later; found = found; kept = kept; lived = lived; live = live; front = read.front }) read.many).given
