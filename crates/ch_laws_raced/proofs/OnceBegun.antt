-- After a call of a host that is calm, each link of two nodes by which the log tells a dial has begun; and each dial is the first.
use Rattle.std.proofs.Common.{◌≡◌, ◌⊎◌, inl, inr, ℕ, Bool, true, false, cond, not, ◌&&◌, ◌||◌, List, [], ◌∷◌, ◌++◌, refl, sym, ap, ◌∙◌, subst, append_assoc}
use Rattle.std.proofs.lemmas.Bool.{and_parts}
use Rattle.std.proofs.lemmas.List.{append-nil}
use Rattle.std.proofs.lemmas.List.Folds.{list_any-append, list_all-append}
use Rattle.std.specs.List.{list_all}
use Rattle.std.specs.Prelude.{nat_eq, slice_get, Some}
use Rattle.std.specs.Str.{bytes_eq}
use Rattle.ch_base.specs.declared.address.Address.{Address}
use Rattle.ch_model.specs.declared.entry.Entry.{Entry}
use Rattle.ch_model.specs.declared.entry.Entry.TheVariants as entries
use Rattle.ch_model.specs.declared.line.Line.{Line}
use Rattle.ch_model.specs.declared.name.SockName.{SockName}
use Rattle.ch_model.specs.declared.step.Step.{Step}
use Rattle.ch_model.specs.CellSteps.{told_steps}
use Rattle.ch_model.specs.HostState.{Link, HostState}
use Rattle.ch_model.specs.HostSteps.{own_address, link_with}
use Rattle.ch_model.specs.Links.{dials_to, dials_once}
use Rattle.ch_model.specs.Logs.{each_after}
use Rattle.ch_model.specs.Naming.{Names, called}
use Rattle.ch_model.specs.World.{names_of, world_new}
use Rattle.ch_model.specs.WorldHappenings.{with_cell}
use Rattle.ch_model.specs.WorldState.{Cell, World}
use Rattle.ch_race.specs.Pair.{Side, other}
use Rattle.ch_laws_world.specs.Grows.{Home, homes_of}
use Rattle.ch_laws_log.specs.Declared.{is_declared}
use Rattle.ch_laws_log.proofs.Blocks.{each_append}
use Rattle.ch_laws_ends.proofs.Places.{got_same, some_is}
use Rattle.ch_laws_many.proofs.Reached.{IsJournal}
use Rattle.ch_laws_bytes.specs.Streams.{AreAddresses}
use Rattle.ch_laws_race.specs.Scene.{Party, host_in, hosts_of, link_of}
use Rattle.ch_laws_race.proofs.Same.{all_cells}
use Rattle.ch_laws_race.proofs.Sockets.{same_place}
use Rattle.ch_laws_race.proofs.Views.{at_place, hosts_set, self_number}
use Rattle.ch_laws_calls.specs.Calls.{with_host, done_at}
use Rattle.ch_laws_calls.specs.Peers.{is_of_peers}
use Rattle.ch_laws_calls.specs.Scenes.{IsPairOf, SceneFacts, scene_of}
use Rattle.ch_laws_calls.specs.ScenesPairs.{IsPairFor}
use Rattle.ch_laws_calls.proofs.ScenesPlaces.{first_or, second_or, IsHomedAs, homed_as, is_there}
use Rattle.ch_laws_calls.proofs.ScenesSides.{pairs_of}
use Rattle.ch_laws_live.specs.Turns.{is_start, start_last}
use Rattle.ch_laws_live.proofs.Logs.{not_true, clash, or_either, or_none, any_split, none_among}
use Rattle.ch_laws_live.proofs.Tests.{IsLast, each_started}
use Rattle.ch_laws_raced.specs.UnbrokenBreaks.{NoBreaks}
use Rattle.ch_laws_raced.specs.UnbrokenGiven.{Given}
use Rattle.ch_laws_raced.specs.OnceBegun.{is_idle, has_dial_for, GoesOn}
use Rattle.ch_laws_raced.specs.OnceOnce.{has_dial, AllBegun, DialsOnce}
use Rattle.ch_laws_raced.proofs.OnceTold.{IsDialed, told_dials, dials_self, since_all, front_unbroken, after_front}

-- what all of a log passes its parts do
all_at : (p : Entry → Bool) (front : List Entry) (x : Entry) (back : List Entry) → list_all p (front ++ x ∷ back) ≡ true → p x ≡ true
all_at p front x back e = (and_parts (p x) (list_all p back) (and_parts (list_all p front) (p x && list_all p back) (sym (list_all-append p front (x ∷ back)) ∙ e)).1).0

-- what starts nothing dials nothing
starts_dial : (x y : List ℕ) (entry : Entry) → is_start entry ≡ false → dials_to x y entry ≡ false
starts_dial x y (entries.Dial sock) n = absurd cc
starts_dial x y entry n = refl

-- the log tells no other dial, and the hosts are the same
pub begun_same : (journal : List Line) (log more : List Entry) (world after : World) → ((x y : List ℕ) → has_dial more x y ≡ false) → hosts_of after ≡ hosts_of world → AllBegun journal log world → AllBegun journal (log ++ more) after
begun_same journal log more world after none hosts b party pair x d = ap (λ (h : ℕ → HostState). is_idle (link_with (h (party x).place) (party x).address.id (party (other x)).address).state) hosts ∙ b party pair x (by_either (or_either (has_dial log X Y) (has_dial more X Y) (sym (list_any-append (dials_to X Y) log more) ∙ d))) where
  X : List ℕ
  X = (party x).name

  Y : List ℕ
  Y = (party (other x)).name

  by_either : (has_dial log X Y ≡ true) ⊎ (has_dial more X Y ≡ true) → has_dial log X Y ≡ true
  by_either (inl h) = h
  by_either (inr h) = absurd (clash (has_dial more X Y) h (none X Y))

-- an entry that is no dial
pub once_plain : (log : List Entry) (x : Entry) → ((a b : List ℕ) → dials_to a b x ≡ false) → dials_once log x ≡ true
once_plain log (entries.Dial sock) none = absurd (clash (dials_to sock.from sock.to (entries.Dial sock)) (dials_self sock) (none sock.from sock.to))
once_plain log x none = refl

-- The host of a cell is called, whose world has changed only in its sockets, after entries that dial nothing.
module _ (journal : List Line) (j : IsJournal journal) (addresses : AreAddresses (names_of journal)) (log : List Entry) (world : World) (g : Given journal log world) (begun : AllBegun journal log world)
    (place : ℕ) (was : Cell × ℕ) (there : slice_get world.cells place ≡ Some was)
    (first : List Entry) (plain : (x y : List ℕ) → has_dial first x y ≡ false)
    (start : World) (count : ℕ) (at : slice_get start.cells place ≡ Some (was.0, count)) (named : start.names ≡ world.names) (hosts : hosts_of start ≡ hosts_of world)
    (told : List Step) (host : HostState) (goes : GoesOn was.0.host told host)
  where
    abbrev Done : List Entry × World
    Done = done_at place (was.0, count) told host start

    abbrev More : List Entry
    More = first ++ Done.0

    abbrev Kept : World
    Kept = with_cell place (with_host (was.0, count) host, count) start

    hosts_now : hosts_of Done.1 ≡ at_place place host (hosts_of world)
    hosts_now = ap (λ (cells : List (Cell × ℕ)). λ (p : ℕ). host_in (slice_get cells p)) (all_cells place (with_host (was.0, count) host) (told_steps told) Kept)
        ∙ hosts_set start place (was.0, count) (with_host (was.0, count) host) count at ∙ ap (at_place place host) hosts

    abbrev Now : Cell × ℕ
    Now = (with_host (was.0, count) host, count)

    now_there : slice_get Done.1.cells place ≡ Some Now
    now_there = ap (λ (cells : List (Cell × ℕ)). slice_get cells place) (all_cells place Now.0 (told_steps told) Kept) ∙ got_same start.cells place (was.0, count) Now at

    -- what the call dials between two nodes is dialed for the link of the one with the other
    record IsOfSide (party : Side → Party) (x : Side) : Type 0 where
      here : place ≡ (party x).place
      dials : has_dial_for (party x).address.id (party (other x)).address told ≡ true

    -- the link of a node of the cell stands as at the host before, and after
    link_before : (party : Side → Party) (x : Side) → (party x).place ≡ place → link_of (scene_of party world) x ≡ link_with was.0.host (party x).address.id (party (other x)).address
    link_before party x here = ap (λ (h : HostState). link_with h (party x).address.id (party (other x)).address) (ap (hosts_of world) here ∙ ap host_in there)

    link_after : (party : Side → Party) (x : Side) (b : Bool) → nat_eq (party x).place place ≡ b → link_of (scene_of party Done.1) x ≡ link_with (cond b host (hosts_of world (party x).place)) (party x).address.id (party (other x)).address
    link_after party x b h = ap (λ (hosts : ℕ → HostState). link_with (hosts (party x).place) (party x).address.id (party (other x)).address) hosts_now
        ∙ ap (λ c. link_with (cond c host (hosts_of world (party x).place)) (party x).address.id (party (other x)).address) h

    module _ (homes : homes_of Done.1.cells ≡ homes_of (world_new journal).cells) where
      -- an address of the host is one of its place
      place_by : (party : Side → Party) → IsPairOf journal party → (z : Side) (end : ℕ) → own_address host end ≡ (party z).address → place ≡ (party z).place
      place_by party pair z end own = some_is place (party z).place (sym (is_there journal place made.other (party z).address made.at
          (ap (λ (h : Home). h.0) made.home ∙ ap (λ (a : Address). a.host) own) (ap (λ (h : Home). h.1) made.home ∙ ap (λ (a : Address). a.port) own)) ∙ pair.placed z) where
            made : IsHomedAs (world_new journal).cells place Now
            made = homed_as Done.1.cells (world_new journal).cells place Now homes now_there

      of_side : (party : Side → Party) → IsPairOf journal party → (x : Side) → has_dial More (party x).name (party (other x)).name ≡ true → IsOfSide party x
      of_side party pair x d = by_either (or_either (has_dial first X Y) (has_dial Done.0 X Y) (sym (list_any-append (dials_to X Y) first Done.0) ∙ d)) where
        X : List ℕ
        X = (party x).name

        Y : List ℕ
        Y = (party (other x)).name

        facts : SceneFacts party world
        facts = g.shown party pair

        by_told : IsDialed start.names Now.0 X Y told → IsOfSide party x
        by_told t = record {
          here = place_by party pair x t.end own;
          dials = ap (λ (n : ℕ). has_dial_for n (party (other x)).address told) (sym (ap (λ (a : Address). a.id) own)) ∙ ap (λ (a : Address). has_dial_for t.end a told) (sym peer) ∙ t.dials;
        } where
          own : own_address host t.end ≡ (party x).address
          own = facts.is_called x (own_address host t.end) (ap (λ (known : Names). called known (own_address host t.end)) (sym named) ∙ t.own)

          peer : t.peer ≡ (party (other x)).address
          peer = facts.is_called (other x) t.peer (ap (λ (known : Names). called known t.peer) (sym named) ∙ t.its)

        by_either : (has_dial first X Y ≡ true) ⊎ (has_dial Done.0 X Y ≡ true) → IsOfSide party x
        by_either (inl h) = absurd (clash (has_dial first X Y) h (plain X Y))
        by_either (inr h) = by_told (told_dials place Now.0 told Kept X Y h)

      -- the link is idle before the call that dials for it, and isn't after
      dialed_before : (party : Side → Party) → IsPairOf journal party → (x : Side) → has_dial More (party x).name (party (other x)).name ≡ true → is_idle (link_of (scene_of party world) x).state ≡ true
      dialed_before party pair x d = let s = of_side party pair x d in ap (λ (l : Link). is_idle l.state) (link_before party x (sym s.here)) ∙ (goes.dials (party x).address.id (party (other x)).address s.dials).0

      dialed_after : (party : Side → Party) → IsPairOf journal party → (x : Side) → has_dial More (party x).name (party (other x)).name ≡ true → is_idle (link_of (scene_of party Done.1) x).state ≡ false
      dialed_after party pair x d = let s = of_side party pair x d in
          ap (λ (l : Link). is_idle l.state) (link_after party x true (ap (λ (p : ℕ). nat_eq p place) (sym s.here) ∙ self_number place)) ∙ (goes.dials (party x).address.id (party (other x)).address s.dials).1

      still_begun : (party : Side → Party) (x : Side) → is_idle (link_of (scene_of party world) x).state ≡ false → is_idle (link_of (scene_of party Done.1) x).state ≡ false
      still_begun party x b = by_place (nat_eq (party x).place place) refl where
        by_place : (c : Bool) → nat_eq (party x).place place ≡ c → is_idle (link_of (scene_of party Done.1) x).state ≡ false
        by_place true h = ap (λ (l : Link). is_idle l.state) (link_after party x true h) ∙ goes.kept (party x).address.id (party (other x)).address (ap (λ (l : Link). is_idle l.state) (sym (link_before party x (sym (same_place place (party x).place h)))) ∙ b)
        by_place false h = ap (λ (l : Link). is_idle l.state) (link_after party x false h) ∙ b

      begun_on : AllBegun journal (log ++ More) Done.1
      begun_on party pair x d = by_either (or_either (has_dial log X Y) (has_dial More X Y) (sym (list_any-append (dials_to X Y) log More) ∙ d)) where
        X : List ℕ
        X = (party x).name

        Y : List ℕ
        Y = (party (other x)).name

        by_either : (has_dial log X Y ≡ true) ⊎ (has_dial More X Y ≡ true) → is_idle (link_of (scene_of party Done.1) x).state ≡ false
        by_either (inl h) = still_begun party x (begun party pair x h)
        by_either (inr h) = dialed_after party pair x h

      -- between two nodes none of the log dials what the call dials
      first_dial : (s : SockName) → is_of_peers (names_of journal) (entries.Dial s) ≡ true → has_dial More s.from s.to ≡ true → has_dial log s.from s.to ≡ false
      first_dial s peers d = by_test (has_dial log s.from s.to) refl where
        one : (is_declared (names_of journal) s.from ≡ true) × ((is_declared (names_of journal) s.to && not (bytes_eq s.from s.to)) ≡ true)
        one = and_parts (is_declared (names_of journal) s.from) (is_declared (names_of journal) s.to && not (bytes_eq s.from s.to)) peers

        two : (is_declared (names_of journal) s.to ≡ true) × (not (bytes_eq s.from s.to) ≡ true)
        two = and_parts (is_declared (names_of journal) s.to) (not (bytes_eq s.from s.to)) one.1

        pair : IsPairFor journal s.from s.to
        pair = pairs_of journal j addresses s.from s.to one.0 two.0 (not_true (bytes_eq s.from s.to) two.1)

        as_sides : (l : List Entry) → has_dial l s.from s.to ≡ true → has_dial l (pair.party pair.side).name (pair.party (other pair.side)).name ≡ true
        as_sides l h = ap (λ (x : List ℕ). has_dial l x (pair.party (other pair.side)).name) pair.first ∙ ap (has_dial l s.from) pair.second ∙ h

        by_test : (b : Bool) → has_dial log s.from s.to ≡ b → b ≡ false
        by_test false h = refl
        by_test true h = absurd (clash (is_idle (link_of (scene_of pair.party world) pair.side).state) (dialed_before pair.party pair.pair pair.side (as_sides More d)) (begun pair.party pair.pair pair.side (as_sides log h)))

      once_on : start_last More ≡ true → list_all (is_of_peers (names_of journal)) (log ++ More) ≡ true → NoBreaks (log ++ More) → each_after dials_once log More ≡ true
      once_on last peers unbroken = subst (λ (l : List Entry). each_after dials_once l More ≡ true) (append-nil log) (each_started dials_once others (log ++ More) log [] More (ap (λ (l : List Entry). l ++ More) (sym (append-nil log))) refl last here) where
        others : (l : List Entry) (x : Entry) → is_start x ≡ false → dials_once l x ≡ true
        others l (entries.Dial sock) n = absurd cc
        others l x n = refl

        by_dial : (mid : List Entry) (s : SockName) (back : List Entry) → IsLast (log ++ More) log mid (entries.Dial s) back → dials_once (log ++ mid) (entries.Dial s) ≡ true
        by_dial mid s back l = ap (λ (z : List Entry). not (has_dial z s.from s.to)) (since_all s.from s.to (log ++ mid) quiet) ∙ ap not (list_any-append (dials_to s.from s.to) log mid ∙ or_none (has_dial log s.from s.to) (has_dial mid s.from s.to) old (none_among (dials_to s.from s.to) is_start (starts_dial s.from s.to) mid l.first)) where
          quiet : NoBreaks (log ++ mid)
          quiet = front_unbroken (log ++ mid) (entries.Dial s ∷ back) (subst NoBreaks l.is unbroken)

          is_more : More ≡ mid ++ entries.Dial s ∷ back
          is_more = after_front log More (mid ++ entries.Dial s ∷ back) (l.is ∙ append_assoc log mid (entries.Dial s ∷ back))

          dialed : has_dial More s.from s.to ≡ true
          dialed = ap (λ (z : List Entry). has_dial z s.from s.to) is_more ∙ any_split (dials_to s.from s.to) mid (entries.Dial s) back
              ∙ second_or (has_dial mid s.from s.to) (dials_to s.from s.to (entries.Dial s) || has_dial back s.from s.to) (first_or (dials_to s.from s.to (entries.Dial s)) (has_dial back s.from s.to) (dials_self s))

          of_peers : is_of_peers (names_of journal) (entries.Dial s) ≡ true
          of_peers = all_at (is_of_peers (names_of journal)) (log ++ mid) (entries.Dial s) back (subst (λ (z : List Entry). list_all (is_of_peers (names_of journal)) z ≡ true) l.is peers)

          old : has_dial log s.from s.to ≡ false
          old = first_dial s of_peers dialed

        by_entry : (mid : List Entry) (x y : Entry) (back : List Entry) → IsLast (log ++ More) log mid x back → x ≡ y → dials_once (log ++ mid) y ≡ true
        by_entry mid x (entries.Dial s) back l is = by_dial mid s back (subst (λ (z : Entry). IsLast (log ++ More) log mid z back) is l)
        by_entry mid x y back l is = refl

        here : (mid : List Entry) (x : Entry) (back : List Entry) → IsLast (log ++ More) log mid x back → dials_once (log ++ mid) x ≡ true
        here mid x back l = by_entry mid x x back l refl

      pub call_once : each_after dials_once [] log ≡ true → start_last More ≡ true → list_all (is_of_peers (names_of journal)) (log ++ More) ≡ true → NoBreaks (log ++ More) → DialsOnce journal (log ++ More) Done.1
      call_once once last peers unbroken = record { begun = begun_on; once = each_append dials_once [] log More once (once_on last peers unbroken) }
