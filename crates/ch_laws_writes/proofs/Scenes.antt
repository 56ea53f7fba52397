-- A journal that meets what the laws of a log ask. Computed.
use Rattle.std.proofs.Common.{◌≡◌, true, refl}
use Rattle.std.specs.Fmt.{digits}
use Rattle.ch_base.specs.Addresses.{host_at, port_at as port_at_of_addresses, read_address}
use Rattle.ch_ident.specs.Reading.{name_of, piece_at, tested_at, name_at, text_at, long_at, address_at, process_at, port_at as port_at_of_reading, reference_at, identifier_at, reason_at, found_at, opening_at, monitor_at, unmonitor_at, link_at, unlink_at, spawn_at, did_spawn_at, died_at, where_is_at, is_at_at, named_send_at, exit_at, kill_at, fields_at, message_at, whole, identifier_of, message_of, user_of}
use Rattle.ch_light.specs.Ids.{id_of, give_of, close_of, created_of, conn_of, closed_of}
use Rattle.ch_link.specs.Table.{step_of}
use Rattle.ch_mail.specs.Mail.{newborn, waiting_in, appended, given_to, taken_from, taken_from_port, opened_by, ended, doomed, make_of, life_of, doom_of, end_of as end_of_of_mail, put_of, take_of, take_port_of, open_port_of, waiting_of as waiting_of_of_mail}
use Rattle.ch_mail.specs.Queue.{first_of_mark, first_of}
use Rattle.ch_model.specs.Host.{host_on, host_next}
use Rattle.ch_model.specs.HostCalls.{host_open, host_connect, host_send, host_close, host_close_endpoint, host_room, host_timer_runs}
use Rattle.ch_model.specs.Node.{node_new, node_make, node_command, node_event, node_shut, node_watched, target_node, node_life, node_waiting, node_args}
use Rattle.ch_model.specs.NodeActs.{growing}
use Rattle.ch_model.specs.NodeArrivals.{bound_between, bind, received, arrives, departs, lost_told, peer_lost}
use Rattle.ch_model.specs.NodeAsks.{spawned, tell_spawned, fail_unlabelled, spawn_arrives, found, tell_found, standing, question_arrives, doom_arrives}
use Rattle.ch_model.specs.NodeCommands.{send_of, again_of, receive_of, take_port, open_port, finish_of, fall_of}
use Rattle.ch_model.specs.NodeConnections.{drawn, opening, conn_to, tell_first, tell_node}
use Rattle.ch_model.specs.NodeEnds.{farewell, over}
use Rattle.ch_model.specs.NodeIds.{is_own, life_here, is_living, has_port, is_port_here}
use Rattle.ch_model.specs.NodeLives.{make, doom, mail_to}
use Rattle.ch_model.specs.NodeMessages.{handle, is_for_peer, ask}
use Rattle.ch_model.specs.NodePairs.{same_process, same_port, same_target, is_pair, pair_of, next_epoch, conns_by, closed_pairs, lost_pair}
use Rattle.ch_model.specs.NodeRequests.{watch, watch_by, unwatch_by, doom_by, question, spawn_by, whereis_by, register_by, unregister_by}
use Rattle.ch_model.specs.NodeRoom.{acting, falling, is_known, known, fitting, not_full, opened_besides, not_spent, room_to_send}
use Rattle.ch_model.specs.NodeSends.{get, deliver, send_first, carry, say, reconnect}
use Rattle.ch_model.specs.NodeWatches.{watch_under, is_awaited, closing, monitor_told, link_told, told, tell_end, absent, watch_arrives, watch_leaves}
use Rattle.ch_static.specs.Labels.{place_of, add_of}
use Rattle.ch_watch.specs.Names.{has_name}
use Rattle.ch_watch.specs.Open.{has_number, is_watch_of, awaits}
use Rattle.ch_watch.specs.Same.{node_of, same_node, same_ref}
use Rattle.ch_watch.specs.Watches.{nothing, watch_of, unwatch_of, told_of, waiting_of as waiting_of_of_watches, lost_of, arrive_of, forget_of, ending_of, ended_of, register_of, unregister_of, find_of}
use Rattle.ch_laws_log.specs.Scenes.{sends_to_another}
use Rattle.ch_laws_writes.specs.Scenes.{meets_all}

pub scene_meets_all : meets_all sends_to_another ≡ true
unfolding digits host_at port_at_of_addresses read_address name_of piece_at tested_at name_at text_at long_at address_at process_at port_at_of_reading reference_at identifier_at reason_at found_at opening_at monitor_at unmonitor_at link_at unlink_at spawn_at did_spawn_at died_at where_is_at is_at_at named_send_at exit_at kill_at fields_at message_at whole identifier_of message_of user_of id_of give_of close_of created_of conn_of closed_of step_of newborn waiting_in appended given_to taken_from taken_from_port opened_by ended doomed make_of life_of doom_of end_of_of_mail put_of take_of take_port_of open_port_of waiting_of_of_mail first_of_mark first_of host_on host_next host_open host_connect host_send host_close host_close_endpoint host_room host_timer_runs node_new node_make node_command node_event node_shut node_watched target_node node_life node_waiting node_args growing bound_between bind received arrives departs lost_told peer_lost spawned tell_spawned fail_unlabelled spawn_arrives found tell_found standing question_arrives doom_arrives send_of again_of receive_of take_port open_port finish_of fall_of drawn opening conn_to tell_first tell_node farewell over is_own life_here is_living has_port is_port_here make doom mail_to handle is_for_peer ask same_process same_port same_target is_pair pair_of next_epoch conns_by closed_pairs lost_pair watch watch_by unwatch_by doom_by question spawn_by whereis_by register_by unregister_by acting falling is_known known fitting not_full opened_besides not_spent room_to_send get deliver send_first carry say reconnect watch_under is_awaited closing monitor_told link_told told tell_end absent watch_arrives watch_leaves place_of add_of has_name has_number is_watch_of awaits node_of same_node same_ref nothing watch_of unwatch_of told_of waiting_of_of_watches lost_of arrive_of forget_of ending_of ended_of register_of unregister_of find_of
scene_meets_all = refl
