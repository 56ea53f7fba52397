use Rattle.std.specs.Prelude.{◌≡◌, ℕ, zero, suc, Bool, true, false, cond, ◌==◌, [], ◌∷◌, slice_get, find, Option, Some, None}
use Rattle.std.proofs.Common.{refl, ap, subst}
use Rattle.std.specs.Fmt.{digits}
use Rattle.ch_base.specs.Addresses as addresses
use Rattle.ch_base.specs.Addresses.{read_address}
use Rattle.ch_ident.specs.Reading.{piece_at, tested_at, name_at, text_at, long_at, address_at, process_at, port_at, identifier_at, opening_at, named_send_at, fields_at, message_at, whole, identifier_of, message_of, user_of, name_of}
use Rattle.ch_light.specs.Ids.{opened}
use Rattle.ch_light.specs.declared.Connection.{Connection}
use Rattle.ch_mail.specs.Mail.{life_of, put_of, given_to, appended, waiting_in}
use Rattle.ch_watch.specs.Same.{same_node}
use Rattle.ch_watch.specs.Names.{has_name}
use Rattle.ch_watch.specs.Watches.{find_of}
use Rattle.ch_model.specs.NodeState.{Arrived}
use Rattle.ch_model.specs.NodeIds.{is_living, life_here, is_own, is_port_here, has_port}
use Rattle.ch_model.specs.NodeAsks.{standing}
use Rattle.ch_laws_delivery.specs.Scene.{Use}
use Rattle.ch_laws_delivery.specs.Sending.{is_over_at}
use Rattle.ch_laws_delivery.specs.Receiving.{place_for}
use Rattle.ch_laws_delivery.specs.Standings.{LeadsTo}
use Rattle.ch_laws_delivery.specs.Rows.{the_names, the_name, the_use, arrived_as, bound_there, up_with}
use Rattle.ch_laws_delivery.specs.ReadingRows.{over_there}
use Rattle.ch_laws_delivery.proofs.Places.{place_is}
use Rattle.ch_laws_delivery.proofs.readings.Goals as goal

none : {X A : Type 0} (x : X) → ◌≡◌ {A = Option X} None (Some x) → A
none {X = X} x h = absurd (clash h) where
  clash : ◌≡◌ {A = Option X} None (Some x) → ⊥
  clash h = cc

first_only : (i : ℕ) (known : Connection) → slice_get (opened 1 ∷ []) i ≡ Some known → i ≡ 0
first_only zero known is = refl
first_only (suc i) known is = none known is

pub returns-clause-created : goal.returns-clause-created
unfolding same_node
returns-clause-created z = record { level = refl; unspent = refl; grows = refl; fresh = refl }

pub returns-clause-opening_port : goal.returns-clause-opening_port
unfolding is_living life_here is_own is_port_here has_port life_of same_node digits addresses.host_at addresses.port_at read_address piece_at tested_at text_at name_at long_at address_at process_at port_at identifier_at opening_at named_send_at fields_at message_at whole identifier_of message_of user_of name_of put_of given_to appended waiting_in standing find_of has_name
returns-clause-opening_port z = record { first = refl; known = refl; target = refl; used = refl; created = refl; alone = λ i known is opens e. first_only i known is; arrival = refl; unread = refl; read = refl; of_peer = refl; to_here = refl }

pub returns-clause-opening_name : goal.returns-clause-opening_name
unfolding is_living life_here is_own is_port_here has_port life_of same_node digits addresses.host_at addresses.port_at read_address piece_at tested_at text_at name_at long_at address_at process_at port_at identifier_at opening_at named_send_at fields_at message_at whole identifier_of message_of user_of name_of put_of given_to appended waiting_in standing find_of has_name
returns-clause-opening_name z = record { first = refl; known = refl; target = refl; used = refl; created = refl; alone = λ i known is opens e. first_only i known is; arrival = refl; unread = refl; read = refl; of_peer = refl; to_here = refl }

pub returns-clause-reading_port : goal.returns-clause-reading_port
unfolding is_living life_here is_own is_port_here has_port life_of same_node digits addresses.host_at addresses.port_at read_address piece_at tested_at text_at name_at long_at address_at process_at port_at identifier_at opening_at named_send_at fields_at message_at whole identifier_of message_of user_of name_of put_of given_to appended waiting_in standing find_of has_name
returns-clause-reading_port z = record { first = refl; known = refl; target = refl; here = refl; used = refl; created = refl; arrival = refl; bound = refl; stands = refl; read = refl; fits = refl }

pub returns-clause-reading_name : goal.returns-clause-reading_name
unfolding is_living life_here is_own is_port_here has_port life_of same_node digits addresses.host_at addresses.port_at read_address piece_at tested_at text_at name_at long_at address_at process_at port_at identifier_at opening_at named_send_at fields_at message_at whole identifier_of message_of user_of name_of put_of given_to appended waiting_in standing find_of has_name
returns-clause-reading_name z = record { first = refl; known = refl; target = refl; here = refl; used = refl; created = refl; arrival = refl; bound = refl; stands = refl; read = refl; fits = refl }

pub returns-clause-arriving : goal.returns-clause-arriving
unfolding same_node
returns-clause-arriving z = record { first = refl; used = refl; created = refl; arrival = refl }

pub returns-clause-nobody : goal.returns-clause-nobody
unfolding is_living life_here is_own is_port_here has_port life_of same_node digits addresses.host_at addresses.port_at read_address piece_at tested_at text_at name_at long_at address_at process_at port_at identifier_at opening_at named_send_at fields_at message_at whole identifier_of message_of user_of name_of put_of given_to appended waiting_in standing find_of has_name
returns-clause-nobody z = record { known = refl; bound = refl; read = refl; nobody = refl }

pub returns-clause-over : goal.returns-clause-over
unfolding is_living life_here is_own is_port_here has_port life_of same_node digits addresses.host_at addresses.port_at read_address piece_at tested_at text_at name_at long_at address_at process_at port_at identifier_at opening_at named_send_at fields_at message_at whole identifier_of message_of user_of name_of put_of given_to appended waiting_in standing find_of has_name
returns-clause-over z = (refl, refl)

pub returns-clause-leads : goal.returns-clause-leads
unfolding is_own life_of same_node
returns-clause-leads z = λ c e place known arrived used there opens is. at c e place known arrived used there is where
  some_is : {X : Type 0} (x y : X) → Some x ≡ Some y → x ≡ y
  some_is {X = X} x y h = ap {A = Option X} {B = X} (λ o. elim o [ Some z ↦ z | None ↦ x ]) h

  only_one : (x y : Arrived) (b : Bool) → cond b (Some x) None ≡ Some y → x ≡ y
  only_one x y true q = some_is x y q
  only_one x y false q = none y q

  at : (c e place : ℕ) (known : Connection) (arrived : Arrived) → place_for c e (Some the_use ∷ []) ≡ Some place → slice_get (opened 1 ∷ []) place ≡ Some known
      → find (λ arrived. arrived.conn == known.number) (arrived_as bound_there ∷ []) ≡ Some arrived → LeadsTo (up_with bound_there []).to.node (slice_get the_names c) arrived.bound
  at zero e place known arrived used there is = subst (λ (x : Arrived). LeadsTo (up_with bound_there []).to.node (Some the_name) x.bound) (only_one (arrived_as bound_there) arrived (1 == known.number) is) (refl, (refl, refl))
  at (suc c) e place known arrived used there is = no_place place (place_is (suc c) e (Some the_use ∷ []) place used) where
    differ : (c : ℕ) → 0 ≡ suc c → ⊥
    differ c h = cc

    no_place : {A : Type 0} (place : ℕ) → slice_get (Some the_use ∷ []) place ≡ Some (Some (record { pair = suc c; epoch = e })) → A
    no_place zero h = absurd (differ c (ap (λ (u : Use). u.pair) (some_is the_use (record { pair = suc c; epoch = e }) (some_is (Some the_use) (Some (record { pair = suc c; epoch = e })) h))))
    no_place (suc place) h = none (Some (record { pair = suc c; epoch = e })) h

pub returns-clause-ages : goal.returns-clause-ages
unfolding life_of
returns-clause-ages z = record { own = refl; unique = refl; arrived = refl; over = λ by over. still by over } where
  clash : {A : Type 0} → false ≡ true → A
  clash h = absurd (wrong h) where
    wrong : false ≡ true → ⊥
    wrong h = cc

  still : (by : ℕ) → is_over_at (up_with bound_there []).to.node by ≡ true → is_over_at (record ((up_with bound_there []).to.node) { mail = over_there.mail }) by ≡ true
  still zero over = refl
  still (suc by) over = clash over
