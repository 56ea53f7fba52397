use Rattle.std.specs.Prelude.{◌≡◌, ℕ, zero, suc, Bool, true, false, ◌==◌, ◌||◌, nat_eq, List, [], ◌∷◌, slice_get, Option, Some, None, if◌then◌else◌}
use Rattle.std.specs.Fmt.{digits}
use Rattle.std.proofs.Common.{refl, ap, sym, ◌∙◌, subst, arith}
use Rattle.std.proofs.lemmas.Bool.{eqb-true}
use Rattle.std.proofs.lemmas.Bool.Decides.{nat_tests}
use Rattle.ch_link.specs.declared.LinkState.{LinkState}
use Rattle.ch_link.specs.declared.LinkState.TheVariants.{Idle, Dialing, Up}
use Rattle.ch_mail.specs.Mail.{life_of, make_of, newborn, ended, end_of}
use Rattle.ch_watch.specs.Watches.{ending_of, ended_of}
use Rattle.ch_model.specs.Node.{node_make, node_command, target_node}
use Rattle.ch_model.specs.NodeCommands.{finish_of}
use Rattle.ch_model.specs.NodeEnds.{farewell, over}
use Rattle.ch_model.specs.NodeLives.{make}
use Rattle.ch_light.specs.Ids.{id_of, close_of}
use Rattle.ch_model.specs.NodeActs.{growing}
use Rattle.ch_watch.specs.Same.{same_node}
use Rattle.ch_model.specs.HostCalls.{host_room}
use Rattle.ch_model.specs.NodeConnections.{conn_to, drawn}
use Rattle.ch_model.specs.NodePairs.{pair_of, is_pair, same_target, same_process, conns_by, closed_pairs}
use Rattle.ch_model.specs.NodeRoom.{acting, not_spent, opened_besides}
use Rattle.ch_delivery.specs.Passage.{Item}
use Rattle.ch_laws_delivery.specs.Sending.{is_over_at}
use Rattle.ch_laws_delivery.specs.Endings.{has, is_by}
use Rattle.ch_laws_delivery.specs.EndingRows.{over_here}
use Rattle.ch_laws_delivery.specs.Rows.{here, the_names, at_start, said_once}
use Rattle.ch_laws_delivery.specs.WorldRows.{cell_of_party, world_with, the_socket, end_of_cell, up_sockets, the_leg, up_legs, both_up, fresh_leg, fresh_legs, both_fresh}
use Rattle.ch_laws_delivery.specs.Worlds.{Leg, Carries, OnLeg, IsOn, IsReadAt}
use Rattle.ch_laws_delivery.proofs.sending_worlds.Goals as goal

none_flies : (i : ℕ) → at_start.way.flight i ≡ []
none_flies i = by_test (nat_eq i 1) where
  by_test : (b : Bool) → elim b as (λ x. List Item) [ true ↦ [] | false ↦ [] ] ≡ []
  by_test true = refl
  by_test false = refl

idle_up : {A : Type 0} (sock : ℕ) (probed : Bool) → Idle ≡ Up sock probed → A
idle_up sock probed h = absurd (clash sock probed h) where
  clash : (sock : ℕ) (probed : Bool) → Idle ≡ Up sock probed → ⊥
  clash sock probed h = cc

dialing_up : {A : Type 0} (sock : ℕ) (probed : Bool) → Dialing 0 ≡ Up sock probed → A
dialing_up sock probed h = absurd (clash sock probed h) where
  clash : (sock : ℕ) (probed : Bool) → Dialing 0 ≡ Up sock probed → ⊥
  clash sock probed h = cc

zero_one : ◌≡◌ {A = ℕ} 0 1 → ⊥
zero_one h = cc

pub returns-clause-new : goal.returns-clause-new
returns-clause-new z = λ opener target. refl

pub returns-clause-scene : goal.returns-clause-scene
unfolding same_node
returns-clause-scene z = record {
  sender = record { cell = cell_of_party at_start.from; came = 0; there = refl; at = record { host = refl; node = refl; settled = refl } };
  receiver = record { cell = cell_of_party at_start.to; came = 0; there = refl; at = record { host = refl; node = refl; settled = refl } };
  apart = zero_one;
  way = record { carries = λ i. none_flies i; on = λ sock probed h. idle_up sock probed h; at = λ sock probed h. idle_up sock probed h };
}

pub returns-clause-line : goal.returns-clause-line
returns-clause-line z = record { home = refl; end = refl; process = refl; target = refl }

pub returns-clause-first : goal.returns-clause-first
unfolding life_of pair_of is_pair same_target same_process same_node acting not_spent opened_besides conn_to host_room
returns-clause-first z = record { at = record { host = refl; node = refl; settled = refl }; acts = refl; at_peer = refl; unspent = refl }

pub returns-clause-later_scene : goal.returns-clause-later_scene
unfolding same_node
returns-clause-later_scene z = record {
  sender = record { cell = cell_of_party (said_once (Dialing 0)).from; came = 0; there = refl; at = record { host = refl; node = refl; settled = refl } };
  receiver = record { cell = cell_of_party at_start.to; came = 0; there = refl; at = record { host = refl; node = refl; settled = refl } };
  apart = zero_one;
  way = record { carries = λ i. none_flies i; on = λ sock probed h. dialing_up sock probed h; at = λ sock probed h. idle_up sock probed h };
}

pub returns-clause-later : goal.returns-clause-later
unfolding life_of pair_of is_pair same_target same_process same_node acting not_spent opened_besides conn_to host_room
returns-clause-later z = record { at = record { host = refl; node = refl; settled = refl }; acts = refl; at_peer = refl }

pub returns-clause-proc : goal.returns-clause-proc
unfolding node_make make make_of newborn
returns-clause-proc z = record { heard = refl; end = refl; does = refl; notes = tt }

same_number : (i j : ℕ) → nat_eq i j ≡ true → i ≡ j
same_number i j h = grind (arith, nat_tests)

on_up : (sock : ℕ) (probed : Bool) → Up 0 false ≡ Up sock probed → 0 ≡ sock
on_up sock probed h = ap (λ (s : LinkState). elim s [ Up z t ↦ z | _ ↦ 0 ]) h

at_up : (sock : ℕ) (probed : Bool) → Up 1 false ≡ Up sock probed → 1 ≡ sock
at_up sock probed h = ap (λ (s : LinkState). elim s [ Up z t ↦ z | _ ↦ 1 ]) h

one_leg : Carries (world_with both_up up_sockets) both_up.to.host the_leg [] false
one_leg = record {
  socket = record { name = the_socket; from_host = here.host; o = end_of_cell 0 0; t = end_of_cell 1 1 };
  found = refl;
  comes = record { over = refl; gone = λ q. refl; answer = false; written = []; given = tt; bytes = λ q. refl; places = λ q. refl; items = λ q. refl };
}

pub returns-clause-up_scene : goal.returns-clause-up_scene
unfolding same_node
returns-clause-up_scene z = record {
  sender = record { cell = cell_of_party both_up.from; came = 0; there = refl; at = record { host = refl; node = refl; settled = refl } };
  receiver = record { cell = cell_of_party both_up.to; came = 0; there = refl; at = record { host = refl; node = refl; settled = refl } };
  apart = zero_one;
  way = record {
    carries = λ i. by_test i (nat_eq i 1) refl;
    on = λ sock probed h. subst (λ (n : ℕ). IsOn (world_with both_up up_sockets) 0 n (up_legs 1) both_up.given) (on_up sock probed h) (refl, refl);
    at = λ sock probed h. subst (λ (n : ℕ). IsReadAt (world_with both_up up_sockets) 1 n (up_legs 1) both_up.created) (at_up sock probed h) (refl, record { later = []; first = refl });
  };
} where
  by_test : (i : ℕ) (b : Bool) → nat_eq i 1 ≡ b → OnLeg (world_with both_up up_sockets) both_up.to.host (up_legs i) (both_up.way.flight i) (both_up.way.cut i)
  by_test i true is = subst (λ (j : ℕ). OnLeg (world_with both_up up_sockets) both_up.to.host (up_legs j) (both_up.way.flight j) (both_up.way.cut j)) (sym (same_number i 1 is)) one_leg
  by_test i false is = subst (λ (b : Bool). OnLeg (world_with both_up up_sockets) both_up.to.host (elim b as (λ x. Option Leg) [ true ↦ Some the_leg | false ↦ None ]) (elim b as (λ x. List Item) [ true ↦ [] | false ↦ [] ]) (both_up.way.cut i)) (sym is) refl

pub returns-clause-apart : goal.returns-clause-apart
returns-clause-apart z = λ i j a b p q same. by_tests i j a b (nat_eq i 1) refl (nat_eq j 1) refl p q where
  none : {A : Type 0} (x : Leg) → ◌≡◌ {A = Option Leg} None (Some x) → A
  none x h = absurd (clash h) where
    clash : ◌≡◌ {A = Option Leg} None (Some x) → ⊥
    clash e = cc

  by_tests : (i j : ℕ) (a b : Leg) (x : Bool) → nat_eq i 1 ≡ x → (y : Bool) → nat_eq j 1 ≡ y → up_legs i ≡ Some a → up_legs j ≡ Some b → i ≡ j
  by_tests i j a b true is true at p q = same_number i 1 is ∙ sym (same_number j 1 at)
  by_tests i j a b false is y at p q = none a (sym (ap (λ (t : Bool). elim t as (λ x. Option Leg) [ true ↦ Some the_leg | false ↦ None ]) is) ∙ p)
  by_tests i j a b true is false at p q = none b (sym (ap (λ (t : Bool). elim t as (λ x. Option Leg) [ true ↦ Some the_leg | false ↦ None ]) at) ∙ q)

pub returns-clause-up : goal.returns-clause-up
unfolding life_of pair_of is_pair same_target same_process same_node acting not_spent opened_besides conn_to host_room
returns-clause-up z = record { at = record { host = refl; node = refl; settled = refl }; acts = refl; at_peer = refl }

pub returns-clause-up_says : goal.returns-clause-up_says
unfolding life_of pair_of is_pair same_target same_process growing id_of same_node
returns-clause-up_says z = record { known = refl; lives = refl; opened = refl; away = refl; grows = refl; carried = refl; up = refl; given = refl; used = refl; short = refl }

pub returns-clause-up_line : goal.returns-clause-up_line
returns-clause-up_line z = record { home = refl; end = refl; process = refl; target = refl }

pub returns-clause-later_line : goal.returns-clause-later_line
returns-clause-later_line z = record { home = refl; end = refl; process = refl; target = refl }

pub returns-clause-up_reconnects : goal.returns-clause-up_reconnects
unfolding life_of pair_of is_pair same_target same_process growing id_of same_node close_of
returns-clause-up_reconnects z = record { known = refl; lives = refl; opened = refl; grows = refl; carried = refl; up = refl; closes = refl; used = refl }

-- ---- its process ends

pub returns-clause-up_ends : goal.returns-clause-up_ends
unfolding node_command finish_of acting life_of over farewell end_of ended ended_of ending_of conns_by closed_pairs target_node
returns-clause-up_ends z = record { heard = refl; end = refl; does = refl; farewells = (refl, tt) }

pub returns-clause-up_ending : goal.returns-clause-up_ending
unfolding life_of pair_of is_pair same_target same_process growing id_of same_node close_of closed_pairs
returns-clause-up_ending z = record {
  ends = record { pairs = refl; shut = refl; over = λ by. over_as by };
  all = λ d. all_as d;
  distinct = (refl, tt);
  opens = ((refl, refl), tt);
  bare = tt;
  part = (record { carried = refl; closes = refl; used = refl }, tt);
} where
  later : (i : ℕ) → (suc i == 0) ≡ false
  later i = by_test (suc i == 0) refl where
    differ : (i : ℕ) → suc i ≡ 0 → ⊥
    differ i h = cc

    by_test : (b : Bool) → (suc i == 0) ≡ b → b ≡ false
    by_test false is = refl
    by_test true is = absurd (differ i (eqb-true (suc i) 0 is))

  apart : (i : ℕ) → nat_eq (suc i) 0 ≡ false
  apart i = grind (arith, nat_tests)

  over_as : (by : ℕ) → is_over_at over_here by ≡ (if by == 0 then true else is_over_at (both_up).from.node by)
  over_as zero = refl
  over_as (suc by) = sym (ap (λ b. if b then true else is_over_at (both_up).from.node (suc by)) (later by))

  all_as : (d : ℕ) → has (0 ∷ []) d ≡ is_by 0 (slice_get the_names d)
  all_as zero = refl
  all_as (suc d) = ap (λ b. b || false) (apart d)

-- ---- nothing was said yet

one_fresh : Carries (world_with both_fresh up_sockets) both_fresh.to.host fresh_leg [] false
one_fresh = record {
  socket = record { name = the_socket; from_host = here.host; o = end_of_cell 0 0; t = end_of_cell 1 1 };
  found = refl;
  comes = record { over = refl; gone = λ q. refl; answer = false; written = []; given = tt; bytes = λ q. refl; places = λ q. refl; items = λ q. refl };
}

pub returns-clause-fresh_scene : goal.returns-clause-fresh_scene
unfolding same_node
returns-clause-fresh_scene z = record {
  sender = record { cell = cell_of_party both_fresh.from; came = 0; there = refl; at = record { host = refl; node = refl; settled = refl } };
  receiver = record { cell = cell_of_party both_fresh.to; came = 0; there = refl; at = record { host = refl; node = refl; settled = refl } };
  apart = zero_one;
  way = record {
    carries = λ i. by_test i (nat_eq i 1) refl;
    on = λ sock probed h. subst (λ (n : ℕ). IsOn (world_with both_fresh up_sockets) 0 n (fresh_legs 1) both_fresh.given) (on_up sock probed h) (refl, refl);
    at = λ sock probed h. subst (λ (n : ℕ). IsReadAt (world_with both_fresh up_sockets) 1 n (fresh_legs 1) both_fresh.created) (at_up sock probed h) (refl, record { later = []; first = refl });
  };
} where
  by_test : (i : ℕ) (b : Bool) → nat_eq i 1 ≡ b → OnLeg (world_with both_fresh up_sockets) both_fresh.to.host (fresh_legs i) (both_fresh.way.flight i) (both_fresh.way.cut i)
  by_test i true is = subst (λ (j : ℕ). OnLeg (world_with both_fresh up_sockets) both_fresh.to.host (fresh_legs j) (both_fresh.way.flight j) (both_fresh.way.cut j)) (sym (same_number i 1 is)) one_fresh
  by_test i false is = subst (λ (b : Bool). OnLeg (world_with both_fresh up_sockets) both_fresh.to.host (elim b as (λ x. Option Leg) [ true ↦ Some fresh_leg | false ↦ None ]) (elim b as (λ x. List Item) [ true ↦ [] | false ↦ [] ]) (both_fresh.way.cut i)) (sym is) refl

pub returns-clause-fresh_apart : goal.returns-clause-fresh_apart
returns-clause-fresh_apart z = λ i j a b p q same. by_tests i j a b (nat_eq i 1) refl (nat_eq j 1) refl p q where
  none : {A : Type 0} (x : Leg) → ◌≡◌ {A = Option Leg} None (Some x) → A
  none x h = absurd (clash h) where
    clash : ◌≡◌ {A = Option Leg} None (Some x) → ⊥
    clash e = cc

  by_tests : (i j : ℕ) (a b : Leg) (x : Bool) → nat_eq i 1 ≡ x → (y : Bool) → nat_eq j 1 ≡ y → fresh_legs i ≡ Some a → fresh_legs j ≡ Some b → i ≡ j
  by_tests i j a b true is true at p q = same_number i 1 is ∙ sym (same_number j 1 at)
  by_tests i j a b false is y at p q = none a (sym (ap (λ (t : Bool). elim t as (λ x. Option Leg) [ true ↦ Some fresh_leg | false ↦ None ]) is) ∙ p)
  by_tests i j a b true is false at p q = none b (sym (ap (λ (t : Bool). elim t as (λ x. Option Leg) [ true ↦ Some fresh_leg | false ↦ None ]) at) ∙ q)

pub returns-clause-fresh : goal.returns-clause-fresh
unfolding life_of pair_of is_pair same_target same_process same_node acting not_spent opened_besides conn_to host_room
returns-clause-fresh z = record { at = record { host = refl; node = refl; settled = refl }; acts = refl; at_peer = refl; unspent = refl }

pub returns-clause-fresh_says : goal.returns-clause-fresh_says
unfolding life_of pair_of growing drawn id_of same_node digits
returns-clause-fresh_says z = record {
  known = refl;
  lives = refl;
  fresh = refl;
  away = refl;
  at_peer = refl;
  grows = refl;
  draws = refl;
  endpoint = refl;
  unspent = refl;
  uncarried = refl;
  given = refl;
  level = refl;
  up = refl;
  flushed = refl;
  short_opening = refl;
  short = refl;
}

pub returns-clause-fresh_line : goal.returns-clause-fresh_line
returns-clause-fresh_line z = record { home = refl; end = refl; process = refl; target = refl }
