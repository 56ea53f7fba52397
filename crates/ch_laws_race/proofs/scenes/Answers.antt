use Rattle.std.specs.Prelude.{◌≡◌, ℕ, zero, suc, Bool, true, false, List, [], ◌∷◌, ◌++◌, find, nat_eq, slice_get, Some, Ok, Err}
use Rattle.std.specs.List.{list_any}
use Rattle.std.proofs.Common.{refl, ap, sym, ◌∙◌, subst, arith, inl, inr}
use Rattle.std.proofs.lemmas.List.{append-nil}
use Rattle.std.specs.Fmt.{digits}
use Rattle.ch_wire.specs.declared.frame.Frame.TheVariants as frames
use Rattle.ch_wire.specs.Spelling.{IsRequest, frame_spelling}
use Rattle.ch_reader.specs.declared.item.Expected.{Expected}
use Rattle.ch_reader.specs.declared.item.Expected.TheVariants as expected
use Rattle.ch_reader.specs.declared.item.Item.{Item}
use Rattle.ch_reader.specs.declared.item.Item.TheVariants as items
use Rattle.ch_reader.specs.Items.{item_spelling, MayStand}
use Rattle.ch_reader.specs.Streams.{IsStreamFrom}
use Rattle.ch_light.specs.Ids.{conn_of, closed_of, created_of, id_of, give_of, close_of}
use Rattle.ch_link.specs.Sockets.{names}
use Rattle.ch_link.specs.declared.LinkState.TheVariants.{Idle, Up}
use Rattle.ch_link.specs.declared.LinkState.{LinkState}
use Rattle.std.proofs.lemmas.Bool.{eqb-true}
use Rattle.ch_model.specs.Same.{is_between}
use Rattle.ch_laws_race.specs.Others.{IsElsewhere, KeepsPair, IsFree, IsAway}
use Rattle.ch_base.specs.declared.address.Address.{Address}
use Rattle.ch_wire.specs.declared.request.Request.{Request}
use Rattle.ch_reader.specs.declared.item.Front.{Front}
use Rattle.ch_reader.specs.declared.item.Front.TheVariants.{Whole}
use Rattle.ch_watch.specs.Same.{same_node}
use Rattle.ch_model.specs.declared.name.End.{End}
use Rattle.ch_model.specs.declared.name.End.TheVariants.{O, T}
use Rattle.ch_model.specs.Stages.{Open, Ended}
use Rattle.ch_model.specs.HostState.{Link, Socket, HostState}
use Rattle.ch_model.specs.Host.{host_on, host_next}
use Rattle.ch_model.specs.HostSteps.{Stepped, is_socket, is_link, link_with}
use Rattle.ch_model.specs.WorldState.{WorldSocket}
use Rattle.ch_model.specs.WorldSockets.{end_of, is_end_of, find_end}
use Rattle.ch_race.specs.Pair.{Side, Lesser, Greater, other}
use Rattle.ch_laws_race.specs.Scene.{Scene, nowhere, host_of, link_of}
use Rattle.ch_laws_race.specs.View.{has_end}
use Rattle.ch_laws_race.specs.Sound.{Acts, HasEnd}
use Rattle.ch_laws_race.specs.Reading.{Reads, IsSeen, reads_front}
use Rattle.ch_laws_race.specs.Rows.{all_apart, host_with, cell_with, scene_with, known_as, request_of, just_dialed, half_probe, half_fed, cell_of, left_with, dialed_by, the_party, at_first, link_to_third, known_third, dial_third, three_with, met_third, three_hosts, third}
use Rattle.ch_laws_race.specs.Happenings.{fed_record, fed_cell, fed_scene}
use Rattle.ch_laws_race.proofs.Read.{probe_read}
use Rattle.ch_link.specs.Table.{step_of}
use Rattle.ch_race.specs.Moves.{End_o, Read_o}
use Rattle.ch_laws_race.specs.Ends.{input_ends}
use Rattle.ch_laws_race.specs.Chains.{unposted}
use Rattle.ch_laws_race.proofs.Over.{ends_up}
use Rattle.ch_model.specs.declared.step.Step.{Step}
use Rattle.ch_laws_race.proofs.Sockets.{same_place, given, none}
use Rattle.ch_laws_race.proofs.Socks.{nothing_left}
use Rattle.ch_laws_race.proofs.Apart.{apart_by}
use Rattle.ch_laws_race.proofs.scenes.Goals as goal

one_zero : {A : Type 0} → ◌≡◌ {A = ℕ} 1 0 → A
one_zero h = absurd (clash h) where
  clash : ◌≡◌ {A = ℕ} 1 0 → ⊥
  clash h = omega arith

zero_one : {A : Type 0} → ◌≡◌ {A = ℕ} 0 1 → A
zero_one h = absurd (clash h) where
  clash : ◌≡◌ {A = ℕ} 0 1 → ⊥
  clash h = omega arith

wrong : {A : Type 0} → false ≡ true → A
wrong h = absurd (clash h) where
  clash : false ≡ true → ⊥
  clash h = cc

-- the lesser node acts, and the greater
lesser_acts : (is_open : Bool) (links : List Link) (sockets : List Socket) (other : HostState) (xs : List WorldSocket) → all_apart xs ≡ true
    → Acts (scene_with (host_with Lesser is_open links sockets) other xs) Lesser (cell_with (host_with Lesser is_open links sockets))
unfolding digits
lesser_acts is_open links sockets other xs apart = record { there = refl; own = refl; order = refl; differ = λ h. one_zero h; apart = apart_by xs apart }

greater_acts : (is_open : Bool) (links : List Link) (sockets : List Socket) (other : HostState) (xs : List WorldSocket) → all_apart xs ≡ true
    → Acts (scene_with other (host_with Greater is_open links sockets) xs) Greater (cell_with (host_with Greater is_open links sockets))
unfolding digits
greater_acts is_open links sockets other xs apart = record { there = refl; own = refl; order = refl; differ = λ h. zero_one h; apart = apart_by xs apart }

-- one item stands alone
alone : (e : Expected) (item : Item) → MayStand e item → IsStreamFrom e (item_spelling item ++ []) (item ∷ []) []
alone e item fits = record { whole = sym (append-nil (item_spelling item ++ [])); each = (fits, tt); unfinished = nothing_left expected.Frame }

reads_alone : (scene : Scene) (x : Side) (e : End) (i : ℕ) (s : WorldSocket) (known : Socket) (item : Item) → HasEnd scene x e i known.number s → (end_of e s).stage ≡ Open → find (is_socket known.number) (host_of scene x).sockets ≡ Some known
    → known.since ≡ item_spelling item → (end_of e s).unread ≡ [] → MayStand known.expected item → Reads scene x e i s known item
reads_alone scene x e i s known item has standing kept since unread fits = record {
  has = has;
  standing = standing;
  kept = kept;
  more = [];
  front = since ∙ sym (append-nil (item_spelling item));
  rest = [];
  part = [];
  stream = subst (λ (z : List ℕ). IsStreamFrom known.expected z (item ∷ []) []) (sym (ap (λ (a : List ℕ). a ++ (end_of e s).unread) since ∙ ap (λ (b : List ℕ). item_spelling item ++ b) unread)) (alone known.expected item fits);
}

is_request : (x : Side) → IsRequest (request_of x)
unfolding digits
is_request Lesser = record { target = omega arith; address = record { host = refl; port_low = omega arith; port_high = omega arith; id = omega arith; short = omega arith } }
is_request Greater = record { target = omega arith; address = record { host = refl; port_low = omega arith; port_high = omega arith; id = omega arith; short = omega arith } }

pub returns-clause-probe : goal.returns-clause-probe
unfolding same_node
returns-clause-probe z = record { acts = lesser_acts _ _ _ _ _ refl; reads = reads_alone _ _ _ _ _ _ _ (record { at = refl; end = refl; between = refl; opener = refl; target = refl }) refl refl refl refl tt; user = refl; up = refl; way = λ h. record { items = []; whole = refl; each = tt; next = tt } }

pub returns-clause-probe_on_one_host : goal.returns-clause-probe_on_one_host
unfolding same_node digits
returns-clause-probe_on_one_host z = record { acts = record { there = refl; own = refl; order = refl; differ = λ h. refl; apart = apart_by _ refl }; reads = reads_alone _ _ _ _ _ _ _ (record { at = refl; end = refl; between = refl; opener = refl; target = refl }) refl refl refl refl tt; user = refl; up = refl; way = λ h. record { items = []; whole = refl; each = tt; next = tt } }

pub returns-clause-acknowledgement : goal.returns-clause-acknowledgement
unfolding same_node
returns-clause-acknowledgement z = record { acts = lesser_acts _ _ _ _ _ refl; reads = reads_alone _ _ _ _ _ _ _ (record { at = refl; end = refl; between = refl; opener = refl; target = refl }) refl refl refl refl tt; user = refl; up = refl }

pub returns-clause-closing : goal.returns-clause-closing
unfolding same_node
returns-clause-closing z = record { acts = lesser_acts _ _ _ _ _ refl; reads = reads_alone _ _ _ _ _ _ _ (record { at = refl; end = refl; between = refl; opener = refl; target = refl }) refl refl refl refl tt; user = refl; up = refl }

pub returns-clause-payload : goal.returns-clause-payload
unfolding same_node conn_of
returns-clause-payload z = record { acts = lesser_acts _ _ _ _ _ refl; reads = reads_alone _ _ _ _ _ _ _ (record { at = refl; end = refl; between = refl; opener = refl; target = refl }) refl refl refl refl ((omega arith, omega arith), omega arith); user = refl; carried = refl }

pub returns-clause-close : goal.returns-clause-close
unfolding same_node closed_of conn_of
returns-clause-close z = record { acts = lesser_acts _ _ _ _ _ refl; reads = reads_alone _ _ _ _ _ _ _ (record { at = refl; end = refl; between = refl; opener = refl; target = refl }) refl refl refl refl (omega arith); user = refl; closes = refl }

pub returns-clause-opening : goal.returns-clause-opening
unfolding same_node created_of
returns-clause-opening z = record { acts = lesser_acts _ _ _ _ _ refl; reads = reads_alone _ _ _ _ _ _ _ (record { at = refl; end = refl; between = refl; opener = refl; target = refl }) refl refl refl refl (omega arith); user = refl; creates = refl; grows = refl }

pub returns-clause-acceptance : goal.returns-clause-acceptance
unfolding same_node
returns-clause-acceptance z = record { answer = record { acts = lesser_acts _ _ _ _ _ refl; reads = reads_alone _ _ _ _ _ _ _ (record { at = refl; end = refl; between = refl; opener = refl; target = refl }) refl refl refl refl tt; user = refl; dials = refl }; payloads = (refl, tt); way = λ h. record { items = []; whole = refl; each = tt; framed = refl; spelled = (omega arith, tt) } }

pub returns-clause-crossing : goal.returns-clause-crossing
unfolding same_node
returns-clause-crossing z = record { acts = lesser_acts _ _ _ _ _ refl; reads = reads_alone _ _ _ _ _ _ _ (record { at = refl; end = refl; between = refl; opener = refl; target = refl }) refl refl refl refl tt; user = refl; dials = refl }

pub returns-clause-refusal : goal.returns-clause-refusal
unfolding same_node
returns-clause-refusal z = record { acts = lesser_acts _ _ _ _ _ refl; reads = reads_alone _ _ _ _ _ _ _ (record { at = refl; end = refl; between = refl; opener = refl; target = refl }) refl refl refl refl tt; user = refl; dials = refl }

pub returns-clause-while_shut : goal.returns-clause-while_shut
unfolding same_node
returns-clause-while_shut z = record { request = record { acts = lesser_acts _ _ _ _ _ refl; reads = reads_alone _ _ _ _ _ _ _ (record { at = refl; end = refl; between = refl; opener = refl; target = refl }) refl refl refl refl (is_request Greater); matches = refl; way = λ h. record { items = []; whole = refl; each = tt; next = tt } }; shut = refl }

pub returns-clause-while_free : goal.returns-clause-while_free
unfolding same_node
returns-clause-while_free z = record { request = record { acts = lesser_acts _ _ _ _ _ refl; reads = reads_alone _ _ _ _ _ _ _ (record { at = refl; end = refl; between = refl; opener = refl; target = refl }) refl refl refl refl (is_request Greater); matches = refl; way = λ h. record { items = []; whole = refl; each = tt; next = tt } }; stands = refl; free = inl refl; payloads = (refl, tt); spelled = (omega arith, tt) }

pub returns-clause-while_greater_dials : goal.returns-clause-while_greater_dials
unfolding same_node
returns-clause-while_greater_dials z = record { request = record { acts = greater_acts _ _ _ _ _ refl; reads = reads_alone _ _ _ _ _ _ _ (record { at = refl; end = refl; between = refl; opener = refl; target = refl }) refl refl refl refl (is_request Lesser); matches = refl; way = λ h. record { items = []; whole = refl; each = tt; next = tt } }; stands = refl; dials = refl }

pub returns-clause-while_lesser_dials : goal.returns-clause-while_lesser_dials
unfolding same_node
returns-clause-while_lesser_dials z = record { request = record { acts = lesser_acts _ _ _ _ _ refl; reads = reads_alone _ _ _ _ _ _ _ (record { at = refl; end = refl; between = refl; opener = refl; target = refl }) refl refl refl refl (is_request Greater); matches = refl; way = λ h. record { items = []; whole = refl; each = tt; next = tt } }; stands = refl; dials = refl; dial = record { at = refl; end = refl; between = refl; opener = refl; target = refl }; own_kept = refl; payloads = (refl, tt); spelled = (omega arith, tt) }

pub returns-clause-while_up : goal.returns-clause-while_up
unfolding same_node
returns-clause-while_up z = record { request = record { acts = lesser_acts _ _ _ _ _ refl; reads = reads_alone _ _ _ _ _ _ _ (record { at = refl; end = refl; between = refl; opener = refl; target = refl }) refl refl refl refl (is_request Greater); matches = refl; way = λ h. record { items = []; whole = refl; each = tt; next = tt } }; stands = refl; is = refl; has = record { at = refl; end = refl; between = refl; opener = refl; target = refl }; apart = refl; up_kept = refl; probe = λ h. record { items = []; whole = refl; each = tt; next = tt } }

pub returns-clause-while_probed : goal.returns-clause-while_probed
unfolding same_node
returns-clause-while_probed z = record { request = record { acts = lesser_acts _ _ _ _ _ refl; reads = reads_alone _ _ _ _ _ _ _ (record { at = refl; end = refl; between = refl; opener = refl; target = refl }) refl refl refl refl (is_request Greater); matches = refl; way = λ h. record { items = []; whole = refl; each = tt; next = tt } }; stands = refl; is = refl }

pub returns-clause-end_while_up : goal.returns-clause-end_while_up
unfolding same_node
returns-clause-end_while_up z = record { input = record { acts = lesser_acts _ _ _ _ _ refl; has = record { at = refl; end = refl; between = refl; opener = refl; target = refl }; standing = refl; stands = refl; kept = refl; empty = refl; over = inr refl }; user = refl; up = refl }

pub returns-clause-end_while_dialing : goal.returns-clause-end_while_dialing
unfolding same_node
returns-clause-end_while_dialing z = record { input = record { acts = lesser_acts _ _ _ _ _ refl; has = record { at = refl; end = refl; between = refl; opener = refl; target = refl }; standing = refl; stands = refl; kept = refl; empty = refl; over = inr refl }; user = refl; dials = refl }

pub returns-clause-end_elsewhere : goal.returns-clause-end_elsewhere
unfolding same_node
returns-clause-end_elsewhere z = record { input = record { acts = lesser_acts _ _ _ _ _ refl; has = record { at = refl; end = refl; between = refl; opener = refl; target = refl }; standing = refl; stands = refl; kept = refl; empty = refl; over = inr refl }; user = inl refl; unnamed = refl; unseen = refl }

pub returns-clause-said : goal.returns-clause-said
unfolding same_node
returns-clause-said z = record { acts = lesser_acts _ _ _ _ _ refl; has = record { at = refl; end = refl; between = refl; opener = refl; target = refl }; kept = refl; renewed = record { end = refl; peer = refl; state = refl }; up = refl; payload = refl; way = λ h. record { items = []; whole = refl; each = tt; next = omega arith } }

pub returns-clause-connect : goal.returns-clause-connect
unfolding same_node give_of
returns-clause-connect z = record { opened = refl; gives = refl }

pub returns-clause-send : goal.returns-clause-send
unfolding same_node id_of
returns-clause-send z = record { found = refl; short = refl; room = refl; given = refl }

pub returns-clause-shuts : goal.returns-clause-shuts
unfolding same_node id_of close_of
returns-clause-shuts z = record { found = refl; closes = refl }

pub returns-clause-puts : goal.returns-clause-puts
unfolding same_node
returns-clause-puts z = record { acts = lesser_acts _ _ _ _ _ refl; renewed = record { end = refl; peer = refl; state = refl }; down = refl }

pub returns-clause-waits : goal.returns-clause-waits
unfolding same_node
returns-clause-waits z = record { acts = lesser_acts _ _ _ _ _ refl; renewed = record { end = refl; peer = refl; state = refl }; busy = inl (0, refl) }

pub returns-clause-dials : goal.returns-clause-dials
unfolding same_node
returns-clause-dials z = record { acts = lesser_acts _ _ _ _ _ refl; renewed = record { end = refl; peer = refl; state = refl }; idle = refl; stands = refl; room = refl; new_number = refl; called_own = refl; called_peer = refl; apart = refl; new_name = refl; other_known = λ m h. wrong h }

pub returns-clause-fed : goal.returns-clause-fed
unfolding same_node
returns-clause-fed z = record { acts = lesser_acts _ _ _ _ _ refl; has = record { at = refl; end = refl; between = refl; opener = refl; target = refl }; kept = refl; stands = refl }

pub returns-clause-joins : goal.returns-clause-joins
unfolding same_node
returns-clause-joins z = record { acts = lesser_acts _ _ _ _ _ refl; has = record { at = refl; end = refl; between = refl; opener = refl; target = refl }; waiting = refl; kept = refl; waits = refl; asks = refl; user = refl; way = λ h. record { items = []; whole = refl; each = tt; next = is_request Lesser } }

pub returns-clause-joins_all : goal.returns-clause-joins_all
unfolding host_on host_next digits
returns-clause-joins_all z = record { steps = _; host = _; does = refl; silent = tt; apart = (refl, tt); none = refl }

pub returns-clause-comes_all : goal.returns-clause-comes_all
unfolding host_on host_next digits
returns-clause-comes_all z = record { steps = _; host = _; does = refl; silent = tt; apart = (refl, tt); none = refl }

pub returns-clause-part : goal.returns-clause-part
unfolding same_node
returns-clause-part z = record { acts = lesser_acts _ _ _ _ _ refl; has = record { at = refl; end = refl; between = refl; opener = refl; target = refl }; kept = refl; stands = refl }

pub returns-clause-some : goal.returns-clause-some
unfolding same_node
returns-clause-some z = record { first = _; more = _; is = refl }

pub returns-clause-feeds_all : goal.returns-clause-feeds_all
unfolding host_on host_next digits
returns-clause-feeds_all z = record { steps = _; host = _; does = refl; silent = tt; apart = (refl, tt); none = refl }

pub returns-clause-alone : goal.returns-clause-alone
unfolding host_next digits
returns-clause-alone z = record { verdict = _; told = _; after = _; does = refl; host = refl; notes = tt }

-- the end of input of a link that is up
abbrev Left_up : Scene
Left_up = left_with (Up 0 false) expected.Frame

abbrev Up_there : Socket
Up_there = known_as Lesser 0 Open (Some expected.Frame) []

ended_up : IsSeen Left_up Lesser (cell_of Lesser Left_up) (input_ends Left_up Lesser Up_there) (End_o 0 ∷ [])
unfolding same_node
ended_up = ends_up Left_up Lesser (cell_of Lesser Left_up) O 0 (dialed_by Lesser Open Ended) Up_there
    (record { acts = lesser_acts _ _ _ _ _ refl; has = record { at = refl; end = refl; between = refl; opener = refl; target = refl }; standing = refl; stands = refl; kept = refl; empty = refl; over = inr refl }) false refl refl

-- what a call did, where it did something
abbrev Done : {A : Type 0} → A → (List Step × HostState → A) → Stepped → A
Done other f (Ok done) = f done
Done other f (Err stop) = other

pub returns-clause-calls : goal.returns-clause-calls
unfolding host_on host_next same_node step_of
returns-clause-calls z = record {
  there = refl;
  verdict = _;
  told = _;
  after = _;
  does = refl;
  are = (
    record { seen = ended_up; text = ap (Done [] (λ d. d.1.host)) (sym ended_up.does); port = ap (Done 0 (λ d. d.1.port)) (sym ended_up.does) },
    tt,
  );
  steps = ap (Done [] (λ d. unposted (d.0 ++ []))) ended_up.does;
  host = ap (Done nowhere (λ d. d.1)) ended_up.does;
}

-- the probe in the bytes that are fed
abbrev Empty : Socket
Empty = known_as Lesser 0 Open (Some expected.Frame) []

probe_fed : IsSeen (fed_scene half_fed Lesser (cell_of Lesser half_fed) O 4 half_probe Empty) Lesser (fed_cell half_fed Lesser (cell_of Lesser half_fed) O 4 half_probe Empty)
    (reads_front (fed_scene half_fed Lesser (cell_of Lesser half_fed) O 4 half_probe Empty) Lesser (fed_record O 4 half_probe Empty)) (Read_o 0 ∷ [])
unfolding same_node digits
probe_fed = probe_read (fed_scene half_fed Lesser (cell_of Lesser half_fed) O 4 half_probe Empty) Lesser (fed_cell half_fed Lesser (cell_of Lesser half_fed) O 4 half_probe Empty) O 0
    (record half_probe { o = record (half_probe.o) { unread = [] } }) (fed_record O 4 half_probe Empty) (items.Frame frames.Probe)
    (record { there = refl; own = refl; order = refl; differ = λ h. one_zero h; apart = apart_by _ refl })
    (reads_alone _ _ _ _ _ _ _ (record { at = refl; end = refl; between = refl; opener = refl; target = refl }) refl refl refl refl tt)
    false refl refl refl (λ h. record { items = []; whole = refl; each = tt; next = tt })

pub returns-clause-item : goal.returns-clause-item
unfolding host_next digits same_node step_of
returns-clause-item z = record { fed = record { acts = lesser_acts _ _ _ _ _ refl; has = record { at = refl; end = refl; between = refl; opener = refl; target = refl }; kept = refl; stands = refl }; some = record { first = _; more = _; is = refl }; apart = (refl, tt); ready = refl; reads = probe_fed; all = record { steps = _; host = _; does = refl; silent = tt; apart = (refl, tt); none = refl } }

known_of : (z : Side) (m : ℕ) → names (link_of just_dialed z).state m ≡ true → list_any (has_end (just_dialed.party z).place m) just_dialed.world.sockets ≡ true
unfolding same_node
known_of Lesser m h = subst (λ (n : ℕ). list_any (has_end 0 n) just_dialed.world.sockets ≡ true) (same_place 0 m h) refl
known_of Greater m h = wrong h

pub returns-clause-comes : goal.returns-clause-comes
unfolding same_node
returns-clause-comes z = record { acts = greater_acts _ _ _ _ _ refl; at = refl; between = refl; opener = refl; cell_is = refl; unnumbered = refl; waiting = refl; new_number = refl; known = known_of }

-- ---- a third node

abbrev Probe_from_third : Scene
Probe_from_third = three_with (frame_spelling frames.Probe)

three_known : (since : List ℕ) (z : Side) (m : ℕ) → names (link_of (three_with since) z).state m ≡ true → list_any (has_end ((three_with since).party z).place m) (three_with since).world.sockets ≡ true
unfolding same_node
three_known since Lesser m h = subst (λ (n : ℕ). list_any (has_end 0 n) (three_with since).world.sockets ≡ true) (same_place 0 m h) refl
three_known since Greater m h = subst (λ (n : ℕ). list_any (has_end 1 n) (three_with since).world.sockets ≡ true) (same_place 1 m h) refl

third_key : (state : LinkState) (z : Side) → (the_party z).place ≡ 0 → is_link (the_party z).address.id (the_party (other z)).address (link_to_third state) ≡ false
unfolding same_node
third_key state Lesser q = refl
third_key state Greater q = one_zero q

-- a link's state is one
up_is : (n m : ℕ) (a b : Bool) → Up n a ≡ Up m b → n ≡ m
up_is n m a b h = ap {A = LinkState} {B = ℕ} (λ k. elim k [ Up u p ↦ u | _ ↦ 0 ]) h

not_idle : {A : Type 0} (n : ℕ) (b : Bool) → Up n b ≡ Idle → A
not_idle n b h = absurd (clash h) where
  clash : Up n b ≡ Idle → ⊥
  clash q = cc

not_up : {A : Type 0} (n : ℕ) (b : Bool) → Idle ≡ Up n b → A
not_up n b h = absurd (clash h) where
  clash : Idle ≡ Up n b → ⊥
  clash q = cc

pub returns-clause-other_up : goal.returns-clause-other_up
returns-clause-other_up z = record {
  there = refl;
  known = three_known [];
  key = third_key (Up 2 false);
  up = λ n probed h. subst (λ (m : ℕ). IsElsewhere the_party (find_end 0 m (three_with []).world.sockets)) (up_is 2 n false probed h) refl;
  new_number = λ h. not_idle 2 false h;
  new_name = λ h. not_idle 2 false h;
}

first_known : (z : Side) (m : ℕ) → names (link_of at_first z).state m ≡ true → list_any (has_end (the_party z).place m) at_first.world.sockets ≡ true
unfolding same_node
first_known Lesser m h = h
first_known Greater m h = h

pub returns-clause-other_idle : goal.returns-clause-other_idle
unfolding same_node
returns-clause-other_idle z = record {
  there = refl;
  known = first_known;
  key = third_key Idle;
  up = λ n probed h. not_up n probed h;
  new_number = λ h. refl;
  new_name = λ h. (refl, refl);
}

-- what the probe's reading leaves
abbrev After_third : HostState
After_third = record (host_of Probe_from_third Lesser) { sockets = known_as Lesser 0 Open (Some expected.Frame) [] ∷ known_third [] ∷ [] }

third_records : (j : ℕ) (u : WorldSocket) → slice_get Probe_from_third.world.sockets j ≡ Some u → is_between (the_party Lesser).name (the_party Greater).name u.name ≡ true
    → (e : End) (m : ℕ) → is_end_of 0 m (end_of e u) ≡ true → find (is_socket m) After_third.sockets ≡ find (is_socket m) (host_of Probe_from_third Lesser).sockets
third_records zero u at own O m h = subst (λ (n : ℕ). find (is_socket n) After_third.sockets ≡ find (is_socket n) (host_of Probe_from_third Lesser).sockets)
    (eqb-true 0 m (ap (is_end_of 0 m) (ap (λ (z : WorldSocket). z.o) (given (dialed_by Lesser Open Open) u at)) ∙ h)) refl
third_records zero u at own T m h = wrong (ap (is_end_of 0 m) (ap (λ (z : WorldSocket). z.t) (given (dialed_by Lesser Open Open) u at)) ∙ h)
third_records (suc zero) u at own e m h = wrong (ap (λ (z : WorldSocket). is_between (the_party Lesser).name (the_party Greater).name z.name) (given dial_third u at) ∙ own)
third_records (suc (suc j)) u at own e m h = none u at

third_keeps : KeepsPair Probe_from_third 0 After_third
unfolding same_node
third_keeps = record { link = λ z q. refl; ends = λ z q. refl; records = third_records }

pub returns-clause-elsewhere : goal.returns-clause-elsewhere
unfolding host_next digits same_node step_of
returns-clause-elsewhere z = record { there = refl; known = three_known (frame_spelling frames.Probe); steps = _; host = After_third; does = refl; elsewhere = (refl, (refl, tt)); keeps = third_keeps }

hosts_known : (z : Side) (m : ℕ) → names (link_of three_hosts z).state m ≡ true → list_any (has_end (the_party z).place m) three_hosts.world.sockets ≡ true
unfolding same_node
hosts_known Lesser m h = subst (λ (n : ℕ). list_any (has_end 0 n) three_hosts.world.sockets ≡ true) (same_place 0 m h) refl
hosts_known Greater m h = subst (λ (n : ℕ). list_any (has_end 1 n) three_hosts.world.sockets ≡ true) (same_place 1 m h) refl

away_from : (z : Side) → nat_eq (the_party z).place 2 ≡ false
away_from Lesser = refl
away_from Greater = refl

third_free : (j : ℕ) (u : WorldSocket) → slice_get three_hosts.world.sockets j ≡ Some u → is_between (the_party Lesser).name (the_party Greater).name u.name ≡ true → (e : End) (m : ℕ) → is_end_of 2 m (end_of e u) ≡ false
third_free zero u at own O m = ap (λ (z : WorldSocket). is_end_of 2 m z.o) (sym (given (dialed_by Lesser Open Open) u at))
third_free zero u at own T m = ap (λ (z : WorldSocket). is_end_of 2 m z.t) (sym (given (dialed_by Lesser Open Open) u at))
third_free (suc zero) u at own e m = wrong (ap (λ (z : WorldSocket). is_between (the_party Lesser).name (the_party Greater).name z.name) (given met_third u at) ∙ own)
third_free (suc (suc j)) u at own e m = none u at

pub returns-clause-third : goal.returns-clause-third
unfolding host_on host_next same_node step_of
returns-clause-third z = record { there = refl; known = hosts_known; away = away_from; free = third_free; verdict = _; told = _; after = _; does = refl; dials = (tt, (tt, tt)) }

two_free : (j : ℕ) (u : WorldSocket) → slice_get Probe_from_third.world.sockets j ≡ Some u → is_between (the_party Lesser).name (the_party Greater).name u.name ≡ true → (e : End) → is_end_of 0 2 (end_of e u) ≡ false
two_free zero u at own O = ap (λ (z : WorldSocket). is_end_of 0 2 z.o) (sym (given (dialed_by Lesser Open Open) u at))
two_free zero u at own T = ap (λ (z : WorldSocket). is_end_of 0 2 z.t) (sym (given (dialed_by Lesser Open Open) u at))
two_free (suc zero) u at own e = wrong (ap (λ (z : WorldSocket). is_between (the_party Lesser).name (the_party Greater).name z.name) (given dial_third u at) ∙ own)
two_free (suc (suc j)) u at own e = none u at

no_request : {A : Type 0} (r : Request) → ◌≡◌ {A = Front} (Whole (items.Frame frames.Probe)) (Whole (items.Request r)) → A
no_request r h = absurd (clash h) where
  clash : ◌≡◌ {A = Front} (Whole (items.Frame frames.Probe)) (Whole (items.Request r)) → ⊥
  clash q = cc

third_away : IsAway Probe_from_third 0 (link_with (host_of Probe_from_third Lesser) 7 third)
unfolding same_node
third_away = record { key = third_key (Up 2 false); named = λ m h. subst (λ (n : ℕ). IsFree Probe_from_third 0 n) (same_place 2 m h) two_free }

pub returns-clause-item_elsewhere : goal.returns-clause-item_elsewhere
unfolding digits
returns-clause-item_elsewhere z = record {
  there = refl;
  known = three_known (frame_spelling frames.Probe);
  free = two_free;
  user = λ end peer h. subst (λ (u : ℕ × Address). IsAway Probe_from_third 0 (link_with (host_of Probe_from_third Lesser) u.0 u.1)) (given (7, third) (end, peer) h) third_away;
  request = λ r h. no_request r h;
}
