-- The scene, computed.
use Rattle.std.proofs.Common.{◌≡◌, List, [], ◌∷◌, Bool, true, false, cond, Ok, Err, length, refl, subst}
use Rattle.std.specs.Prelude.{find, Some}
use Rattle.ch_base.specs.Addresses.{host_at, port_at as port_at_of_addresses, read_address}
use Rattle.ch_model.specs.declared.line.Line.{Line}
use Rattle.ch_model.specs.declared.name.SockName.{SockName}
use Rattle.ch_model.specs.Same.{same_socket}
use Rattle.ch_model.specs.Settle.{Happened}
use Rattle.ch_model.specs.World.{world_new, log_from}
use Rattle.ch_model.specs.WorldSockets.{is_socket_named}
use Rattle.ch_model.specs.WorldState.{WorldSocket}
use Rattle.ch_laws_log.specs.Agrees.{IsPlaced, IsOwned}
use Rattle.std.specs.Fmt.{digits}
use Rattle.ch_ident.specs.Reading.{name_of, address_at, identifier_of, message_of, user_of}
use Rattle.ch_light.specs.Ids.{id_of, give_of, close_of, created_of, conn_of, closed_of}
use Rattle.ch_link.specs.Table.{step_of}
use Rattle.ch_mail.specs.Mail.{newborn, waiting_in, appended, given_to, make_of, life_of, doom_of, end_of as end_of_of_mail, put_of}
use Rattle.ch_mail.specs.Queue.{first_of}
use Rattle.ch_model.specs.Host.{host_on, host_next}
use Rattle.ch_model.specs.HostCalls.{host_open, host_connect, host_send, host_close, host_close_endpoint, host_room, host_timer_runs}
use Rattle.ch_model.specs.Node.{node_new, node_make, node_command, node_event, node_shut, node_watched, target_node, node_life, node_waiting, node_args}
use Rattle.ch_model.specs.NodeActs.{growing}
use Rattle.ch_model.specs.NodeArrivals.{bound_between, bind, received, arrives, departs, lost_told, peer_lost}
use Rattle.ch_model.specs.NodeAsks.{spawned, tell_spawned, question_arrives, doom_arrives}
use Rattle.ch_model.specs.NodeCommands.{send_of, again_of, receive_of, take_port, open_port, finish_of, fall_of}
use Rattle.ch_model.specs.NodeConnections.{drawn, opening, conn_to, tell_first, tell_node}
use Rattle.ch_model.specs.NodeEnds.{farewell, over}
use Rattle.ch_model.specs.NodeIds.{is_own, life_here, is_living, has_port, is_port_here}
use Rattle.ch_model.specs.NodeLives.{make, doom, mail_to}
use Rattle.ch_model.specs.NodeMessages.{handle, is_for_peer, ask}
use Rattle.ch_model.specs.NodePairs.{same_process, same_port, same_target, is_pair, pair_of, next_epoch, conns_by, closed_pairs, lost_pair}
use Rattle.ch_model.specs.NodeRequests.{watch, watch_by, unwatch_by, doom_by, question, spawn_by, whereis_by, register_by, unregister_by}
use Rattle.ch_model.specs.NodeRoom.{acting, falling, is_known, known, fitting, not_full, opened_besides, not_spent, room_to_send}
use Rattle.ch_model.specs.NodeSends.{get, deliver, send_first, carry, say, reconnect}
use Rattle.ch_model.specs.NodeWatches.{watch_under, is_awaited, closing, monitor_told, link_told, told, tell_end, absent, watch_arrives, watch_leaves}
use Rattle.ch_static.specs.Labels.{place_of, add_of}
use Rattle.ch_watch.specs.Names.{has_name}
use Rattle.ch_watch.specs.Open.{has_number, is_watch_of, awaits}
use Rattle.ch_watch.specs.Same.{node_of, same_node, same_ref}
use Rattle.ch_watch.specs.Watches.{nothing, watch_of, unwatch_of, told_of, waiting_of as waiting_of_of_watches, lost_of, arrive_of, forget_of}
use Rattle.ch_laws_ends.specs.Scenes.{refuses_and_knocks, IsMet}

-- what holds of each socket of a list holds of those that are found
abbrev AllAre : (WorldSocket → Type 0) → List WorldSocket → Type 0
AllAre P [] = Unit {0}
AllAre P (socket ∷ rest) = P socket × AllAre P rest

found_are : (P : WorldSocket → Type 0) (sockets : List WorldSocket) → AllAre P sockets → (s : SockName) (socket : WorldSocket) → find (is_socket_named s) sockets ≡ Some socket → P socket
found_are P [] all s socket f = absurd cc
found_are P (known ∷ rest) all s socket f = by_test (same_socket known.name s) f (found_are P rest all.1 s socket) where
  by_test : (b : Bool) → cond b (Some known) (find (is_socket_named s) rest) ≡ Some socket → (find (is_socket_named s) rest ≡ Some socket → P socket) → P socket
  by_test true f more = let is : known ≡ socket = cc in subst P is all.0
  by_test false f more = more f

-- the same, socket by socket
abbrev AreMet : List Line → Happened → Type 0
AreMet journal (Ok done) = AllAre (IsPlaced journal) done.1.sockets × AllAre (IsOwned journal) done.1.sockets × (length done.1.sockets ≡ 2)
AreMet journal (Err stop) = ⊥

met : (journal : List Line) (done : Happened) → AreMet journal done → IsMet journal done
met journal (Ok done) a = (λ s socket f. found_are (IsPlaced journal) done.1.sockets a.0 s socket f, λ s socket f. found_are (IsOwned journal) done.1.sockets a.1 s socket f, a.2)
met journal (Err stop) a = a

are_met : AreMet refuses_and_knocks (log_from (world_new refuses_and_knocks) refuses_and_knocks)
unfolding host_at port_at_of_addresses read_address digits name_of address_at identifier_of message_of user_of id_of give_of close_of created_of conn_of closed_of step_of newborn waiting_in appended given_to make_of life_of doom_of end_of_of_mail put_of first_of host_on host_next host_open host_connect host_send host_close host_close_endpoint host_room host_timer_runs node_new node_make node_command node_event node_shut node_watched target_node node_life node_waiting node_args growing bound_between bind received arrives departs lost_told peer_lost spawned tell_spawned question_arrives doom_arrives send_of again_of receive_of take_port open_port finish_of fall_of drawn opening conn_to tell_first tell_node farewell over is_own life_here is_living has_port is_port_here make doom mail_to handle is_for_peer ask same_process same_port same_target is_pair pair_of next_epoch conns_by closed_pairs lost_pair watch watch_by unwatch_by doom_by question spawn_by whereis_by register_by unregister_by acting falling is_known known fitting not_full opened_besides not_spent room_to_send get deliver send_first carry say reconnect watch_under is_awaited closing monitor_told link_told told tell_end absent watch_arrives watch_leaves place_of add_of has_name has_number is_watch_of awaits node_of same_node same_ref nothing watch_of unwatch_of told_of waiting_of_of_watches lost_of arrive_of forget_of
are_met = ((refl {a = true}, (refl {a = true}, tt)), (refl {a = true}, (refl {a = false}, tt)), refl {a = 2})

pub is_met : IsMet refuses_and_knocks (log_from (world_new refuses_and_knocks) refuses_and_knocks)
is_met = met refuses_and_knocks (log_from (world_new refuses_and_knocks) refuses_and_knocks) are_met
