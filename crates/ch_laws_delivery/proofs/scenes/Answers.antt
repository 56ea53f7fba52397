use Rattle.std.specs.Prelude.{◌≡◌, ℕ, zero, suc, true, false, [], ◌∷◌, slice_get, Option, Some, None}
use Rattle.std.proofs.Common.{refl, ap, sym, ◌∙◌}
use Rattle.std.specs.Fmt.{digits}
use Rattle.ch_base.specs.Addresses as addresses
use Rattle.ch_base.specs.Addresses.{read_address}
use Rattle.ch_ident.specs.Reading.{piece_at, tested_at, name_at, text_at, long_at, address_at, process_at, identifier_at, opening_at, fields_at, message_at, whole, identifier_of, message_of, user_of, name_of}
use Rattle.ch_light.specs.Ids.{close_of, id_of, opened}
use Rattle.ch_light.specs.declared.Connection.{Connection}
use Rattle.ch_mail.specs.Mail.{life_of, put_of, given_to, appended, waiting_in}
use Rattle.ch_watch.specs.Same.{same_node}
use Rattle.ch_watch.specs.Watches.{lost_of}
use Rattle.ch_model.specs.NodeActs.{growing}
use Rattle.ch_model.specs.NodeIds.{target_at, is_living, life_here, is_own}
use Rattle.ch_model.specs.NodePairs.{pair_of, is_pair, same_target, same_process, lost_pair}
use Rattle.ch_model.specs.NodeConnections.{drawn}
use Rattle.ch_laws_delivery.specs.Scene.{Name}
use Rattle.ch_link.specs.Table.{step_of}
use Rattle.ch_link.specs.declared.LinkState.TheVariants.{Up}
use Rattle.ch_laws_delivery.specs.Sending.{has_ended}
use Rattle.ch_laws_delivery.specs.Rows.{the_name, the_names, there, said_once}
use Rattle.ch_laws_delivery.proofs.scenes.Goals as goal

none : {X A : Type 0} (x : X) → ◌≡◌ {A = Option X} None (Some x) → A
none {X = X} x h = absurd (clash h) where
  clash : ◌≡◌ {A = Option X} None (Some x) → ⊥
  clash h = cc

pub returns-clause-apart : goal.returns-clause-apart
returns-clause-apart z = λ c d m n a b p q. one c d m n a b where
  one : (c d : ℕ) (m n : Name) → slice_get the_names c ≡ Some m → slice_get the_names d ≡ Some n → c ≡ d
  one zero zero m n a b = refl
  one (suc c) d m n a b = none m a
  one zero (suc d) m n a b = none n b

pub returns-clause-first : goal.returns-clause-first
unfolding life_of pair_of growing drawn id_of same_node digits
returns-clause-first z = record {
  known = refl;
  lives = refl;
  fresh = refl;
  away = refl;
  at_peer = refl;
  grows = refl;
  draws = refl;
  endpoint = refl;
  unspent = refl;
  uncarried = refl;
  given = refl;
  level = refl;
  old = tt;
  down = refl;
  short_opening = refl;
  short = refl;
  room = refl;
  dials = λ h. refl;
}

pub returns-clause-second : goal.returns-clause-second
unfolding life_of pair_of is_pair same_target same_process growing id_of same_node
returns-clause-second z = record {
  known = refl;
  lives = refl;
  opened = refl;
  away = refl;
  grows = refl;
  carried = refl;
  down = refl;
  given = refl;
  used = refl;
  short = refl;
  room = refl;
  dials = refl;
}

pub returns-clause-loss : goal.returns-clause-loss
unfolding life_of pair_of is_pair same_target same_process same_node lost_pair lost_of
returns-clause-loss z = record {
  at_peer = λ d name is. at d name is;
  closed = λ d name is over conn h. lives d name is over;
  pairs_lost = refl;
} where
  one : (d : ℕ) (name : Name) → slice_get the_names d ≡ Some name → the_name ≡ name
  one zero name is = ap (λ (o : Option Name). elim o [ Some x ↦ x | None ↦ the_name ]) is
  one (suc d) name is = none name is

  at : (d : ℕ) (name : Name) → slice_get the_names d ≡ Some name → same_node (target_at name.to) there ≡ true
  at d name is = ap (λ (x : Name). same_node (target_at x.to) there) (sym (one d name is))

  clash : false ≡ true → ⊥
  clash h = cc

  lives : (d : ℕ) (name : Name) → slice_get the_names d ≡ Some name → has_ended (said_once (Up 0 false)).from.node name.by ≡ true → ⊥
  lives d name is over = clash (ap (λ (x : Name). has_ended (said_once (Up 0 false)).from.node x.by) (one d name is) ∙ over)

pub returns-clause-opening : goal.returns-clause-opening
unfolding same_node digits addresses.host_at addresses.port_at read_address piece_at tested_at text_at long_at address_at process_at identifier_at opening_at fields_at message_at whole identifier_of message_of
returns-clause-opening z = record {
  first = refl;
  known = refl;
  target = refl;
  used = refl;
  created = refl;
  alone = λ i known is opens e. first_only i known is;
  arrival = refl;
  unread = refl;
  read = refl;
  of_peer = refl;
  to_here = refl;
} where
  first_only : (i : ℕ) (known : Connection) → slice_get (opened 1 ∷ []) i ≡ Some known → i ≡ 0
  first_only zero known is = refl
  first_only (suc i) known is = none known is

pub returns-clause-reading : goal.returns-clause-reading
unfolding is_living life_here is_own life_of same_node user_of name_at name_of piece_at tested_at text_at put_of given_to appended waiting_in
returns-clause-reading z = record {
  first = refl;
  known = refl;
  target = refl;
  here = refl;
  used = refl;
  created = refl;
  arrival = refl;
  bound = refl;
  stands = refl;
  read = refl;
  fits = refl;
}

pub returns-clause-fall : goal.returns-clause-fall
unfolding step_of same_node
returns-clause-fall z = record { up = refl; fails = refl }

pub returns-clause-shut : goal.returns-clause-shut
unfolding step_of same_node
returns-clause-shut z = record { up = refl; fails = refl }

pub returns-clause-reconnect : goal.returns-clause-reconnect
unfolding life_of pair_of is_pair same_target same_process growing id_of same_node close_of
returns-clause-reconnect z = record { known = refl; lives = refl; opened = refl; grows = refl; carried = refl; down = refl; closes = refl; used = refl }

pub returns-clause-first_up : goal.returns-clause-first_up
unfolding life_of pair_of growing drawn id_of same_node digits
returns-clause-first_up z = record {
  known = refl;
  lives = refl;
  fresh = refl;
  away = refl;
  at_peer = refl;
  grows = refl;
  draws = refl;
  endpoint = refl;
  unspent = refl;
  uncarried = refl;
  given = refl;
  level = refl;
  up = refl;
  flushed = refl;
  short_opening = refl;
  short = refl;
}

pub returns-clause-second_up : goal.returns-clause-second_up
unfolding life_of pair_of is_pair same_target same_process growing id_of same_node
returns-clause-second_up z = record { known = refl; lives = refl; opened = refl; away = refl; grows = refl; carried = refl; up = refl; given = refl; used = refl; short = refl }

pub returns-clause-reconnect_up : goal.returns-clause-reconnect_up
unfolding life_of pair_of is_pair same_target same_process growing id_of same_node close_of
returns-clause-reconnect_up z = record { known = refl; lives = refl; opened = refl; grows = refl; carried = refl; up = refl; closes = refl; used = refl }

pub returns-clause-accepted : goal.returns-clause-accepted
unfolding step_of same_node
returns-clause-accepted z = record { down = refl; up = refl }

pub returns-clause-asked : goal.returns-clause-asked
unfolding step_of same_node
returns-clause-asked z = record { down = refl; up = refl }

pub returns-clause-closing : goal.returns-clause-closing
unfolding same_node
returns-clause-closing z = record { first = refl; used = refl; created = refl; alone = λ i known is opens e. first_only i known is } where
  first_only : (i : ℕ) (known : Connection) → slice_get (opened 1 ∷ []) i ≡ Some known → i ≡ 0
  first_only zero known is = refl
  first_only (suc i) known is = none known is
