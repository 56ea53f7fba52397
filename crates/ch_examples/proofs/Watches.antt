-- Worked journals of watches, ends, spawns and shut nodes. Computed.
use Rattle.std.proofs.Common.{refl}
use Rattle.std.specs.Fmt.{digits}
use Rattle.hex.specs.Hex.{encode_with, decode_pairs}
use Rattle.ch_base.specs.Addresses.{host_at, port_at as port_at_of_addresses, read_address}
use Rattle.ch_ident.specs.Reading.{name_of, piece_at, tested_at, name_at, text_at, long_at, address_at, process_at, port_at as port_at_of_reading, reference_at, identifier_at, reason_at, found_at, opening_at, monitor_at, unmonitor_at, link_at, unlink_at, spawn_at, did_spawn_at, died_at, where_is_at, is_at_at, named_send_at, exit_at, kill_at, fields_at, message_at, whole, identifier_of, message_of, user_of}
use Rattle.ch_light.specs.Ids.{id_of, give_of, close_of, created_of, conn_of, closed_of}
use Rattle.ch_link.specs.Table.{step_of}
use Rattle.ch_mail.specs.Mail.{newborn, waiting_in, appended, given_to, taken_from, taken_from_port, opened_by, ended, doomed, make_of, life_of, doom_of, end_of as end_of_of_mail, put_of, take_of, take_port_of, open_port_of, waiting_of as waiting_of_of_mail}
use Rattle.ch_mail.specs.Queue.{first_of_mark, first_of}
use Rattle.ch_model.specs.Fields.{field_of, last_of, node_name_of, digits_of, word_of, sent_mark_of, bytes_of, address_of, host_of, end_of as end_of_of_fields, text_of, number_in, count_in}
use Rattle.ch_model.specs.FieldsOfNames.{process_of, destination_parts, destination_of, named_of, reference_of, socket_of, numbered, numbered_target, numbered_destination, numbered_reference, numbered_socket}
use Rattle.ch_model.specs.Host.{host_on, host_next}
use Rattle.ch_model.specs.HostCalls.{host_open, host_connect, host_send, host_close, host_close_endpoint, host_room, host_timer_runs}
use Rattle.ch_model.specs.Lines.{line_of_word, line_said}
use Rattle.ch_model.specs.LinesBuilt.{only_node_line, send_process_line}
use Rattle.ch_model.specs.LinesDeclared.{place_line, node_line, away_line, label_line, stranger_line}
use Rattle.ch_model.specs.LinesOfPeers.{process_and_peer, process_peer_and_text, monitor_line, link_line, unwatch_line, exit_line, kill_line, spawn_line, whereis_line}
use Rattle.ch_model.specs.LinesOfProcesses.{process_alone, process_and_word, proc_line, send_line, nsend_line, again_line, recv_line, port_line, take_line, end_line, fail_line, fall_line, register_line, unregister_line}
use Rattle.ch_model.specs.LinesOfSockets.{socket_alone, socket_and_end, shut_line, join_line, come_line, refuse_line, feed_line, cut_line, lose_line, late_line, knock_line, poke_line, quit_line, settle_line}
use Rattle.ch_model.specs.LinesTold.{early_in, declared_in, peer_in, stranger_in, opener_in, new_name, new_address, new_host, new_label}
use Rattle.ch_model.specs.Node.{node_new, node_make, node_command, node_event, node_shut, node_watched, target_node, node_life, node_waiting, node_args}
use Rattle.ch_model.specs.NodeActs.{growing}
use Rattle.ch_model.specs.NodeArrivals.{bound_between, bind, received, arrives, departs, lost_told, peer_lost}
use Rattle.ch_model.specs.NodeAsks.{spawned, tell_spawned, fail_unlabelled, spawn_arrives, found, tell_found, standing, question_arrives, doom_arrives}
use Rattle.ch_model.specs.NodeCommands.{send_of, again_of, receive_of, take_port, open_port, finish_of, fall_of}
use Rattle.ch_model.specs.NodeConnections.{drawn, opening, conn_to, tell_first, tell_node}
use Rattle.ch_model.specs.NodeEnds.{farewell, over}
use Rattle.ch_model.specs.NodeIds.{is_own, life_here, is_living, has_port, is_port_here}
use Rattle.ch_model.specs.NodeLives.{make, doom, mail_to}
use Rattle.ch_model.specs.NodeMessages.{handle, is_for_peer, ask}
use Rattle.ch_model.specs.NodePairs.{same_process, same_port, same_target, is_pair, pair_of, next_epoch, conns_by, closed_pairs, lost_pair}
use Rattle.ch_model.specs.NodeRequests.{watch, watch_by, unwatch_by, doom_by, question, spawn_by, whereis_by, register_by, unregister_by}
use Rattle.ch_model.specs.NodeRoom.{acting, falling, is_known, known, fitting, not_full, opened_besides, not_spent, room_to_send}
use Rattle.ch_model.specs.NodeSends.{get, deliver, send_first, carry, say, reconnect}
use Rattle.ch_model.specs.NodeWatches.{watch_under, is_awaited, closing, monitor_told, link_told, told, tell_end, absent, watch_arrives, watch_leaves}
use Rattle.ch_static.specs.Labels.{place_of, add_of}
use Rattle.ch_watch.specs.Names.{has_name}
use Rattle.ch_watch.specs.Open.{has_number, is_watch_of, awaits}
use Rattle.ch_watch.specs.Same.{node_of, same_node, same_ref}
use Rattle.ch_watch.specs.Watches.{nothing, watch_of, unwatch_of, told_of, waiting_of as waiting_of_of_watches, lost_of, arrive_of, forget_of, ending_of, ended_of, register_of, unregister_of, find_of}
use Rattle.ch_examples.specs.Shown.{LogIs}
use Rattle.ch_examples.specs.Watches.{told_before_the_loss, told_before_the_loss_log, told_before_the_loss_opened, told_before_the_loss_opened_log, monitor_of_nobody, monitor_of_nobody_log, monitor_of_nobody_opened, monitor_of_nobody_opened_log, order_of_an_end, order_of_an_end_log, order_of_an_end_opened, order_of_an_end_opened_log, taken_back, taken_back_log, taken_back_opened, taken_back_opened_log, forgotten_at_the_break, forgotten_at_the_break_log, forgotten_at_the_break_opened, forgotten_at_the_break_opened_log, node_is_shut, node_is_shut_log, node_is_shut_opened, node_is_shut_opened_log, shut_by_first_use, shut_by_first_use_log, shut_by_first_use_opened, shut_by_first_use_opened_log, shut_before_reading, shut_before_reading_log, spawn_of_unknown_label, spawn_of_unknown_label_log, spawn_of_unknown_label_opened, spawn_of_unknown_label_opened_log, usual_run, usual_run_log, usual_run_opened, usual_run_opened_log}

-- each row and its log
record WatchesAre : Type 0 where
  -- a monitor is told the end of its target, and nothing at a later loss
  told_before_the_loss_is : LogIs told_before_the_loss told_before_the_loss_log
  -- the same, line by line
  told_before_the_loss_opened_is : LogIs told_before_the_loss_opened told_before_the_loss_opened_log
  -- a monitor of a process that was never made
  monitor_of_nobody_is : LogIs monitor_of_nobody monitor_of_nobody_log
  -- the same, line by line
  monitor_of_nobody_opened_is : LogIs monitor_of_nobody_opened monitor_of_nobody_opened_log
  -- names fall, connections close, and watchers are told, in this order
  order_of_an_end_is : LogIs order_of_an_end order_of_an_end_log
  -- the same, line by line
  order_of_an_end_opened_is : LogIs order_of_an_end_opened order_of_an_end_opened_log
  -- watches are taken back by their kind, and only the first doom counts
  taken_back_is : LogIs taken_back taken_back_log
  -- the same, line by line
  taken_back_opened_is : LogIs taken_back_opened taken_back_opened_log
  -- a node forgets a peer's watches at its own break
  forgotten_at_the_break_is : LogIs forgotten_at_the_break forgotten_at_the_break_log
  -- the same, line by line
  forgotten_at_the_break_opened_is : LogIs forgotten_at_the_break_opened forgotten_at_the_break_opened_log
  -- a message that was written before its node was shut is got, and then the watch is told
  node_is_shut_is : LogIs node_is_shut node_is_shut_log
  -- the same, line by line
  node_is_shut_opened_is : LogIs node_is_shut_opened node_is_shut_opened_log
  -- a shut closes links in order of first use
  shut_by_first_use_is : LogIs shut_by_first_use shut_by_first_use_log
  -- the same, line by line
  shut_by_first_use_opened_is : LogIs shut_by_first_use_opened shut_by_first_use_opened_log
  -- a node is shut before its answer is read
  shut_before_reading_is : LogIs shut_before_reading shut_before_reading_log
  -- a spawn whose label is not known makes a process that is over
  spawn_of_unknown_label_is : LogIs spawn_of_unknown_label spawn_of_unknown_label_log
  -- the same, line by line
  spawn_of_unknown_label_opened_is : LogIs spawn_of_unknown_label_opened spawn_of_unknown_label_opened_log
  -- two spawns, a link, a name, a loss and a new epoch
  usual_run_is : LogIs usual_run usual_run_log
  -- the same, line by line
  usual_run_opened_is : LogIs usual_run_opened usual_run_opened_log

watches_are : WatchesAre
unfolding digits encode_with decode_pairs host_at port_at_of_addresses read_address name_of piece_at tested_at name_at text_at long_at address_at process_at port_at_of_reading reference_at identifier_at reason_at found_at opening_at monitor_at unmonitor_at link_at unlink_at spawn_at did_spawn_at died_at where_is_at is_at_at named_send_at exit_at kill_at fields_at message_at whole identifier_of message_of user_of id_of give_of close_of created_of conn_of closed_of step_of newborn waiting_in appended given_to taken_from taken_from_port opened_by ended doomed make_of life_of doom_of end_of_of_mail put_of take_of take_port_of open_port_of waiting_of_of_mail first_of_mark first_of field_of last_of node_name_of digits_of word_of sent_mark_of bytes_of address_of host_of end_of_of_fields text_of number_in count_in process_of destination_parts destination_of named_of reference_of socket_of numbered numbered_target numbered_destination numbered_reference numbered_socket host_on host_next host_open host_connect host_send host_close host_close_endpoint host_room host_timer_runs line_of_word line_said only_node_line send_process_line place_line node_line away_line label_line stranger_line process_and_peer process_peer_and_text monitor_line link_line unwatch_line exit_line kill_line spawn_line whereis_line process_alone process_and_word proc_line send_line nsend_line again_line recv_line port_line take_line end_line fail_line fall_line register_line unregister_line socket_alone socket_and_end shut_line join_line come_line refuse_line feed_line cut_line lose_line late_line knock_line poke_line quit_line settle_line early_in declared_in peer_in stranger_in opener_in new_name new_address new_host new_label node_new node_make node_command node_event node_shut node_watched target_node node_life node_waiting node_args growing bound_between bind received arrives departs lost_told peer_lost spawned tell_spawned fail_unlabelled spawn_arrives found tell_found standing question_arrives doom_arrives send_of again_of receive_of take_port open_port finish_of fall_of drawn opening conn_to tell_first tell_node farewell over is_own life_here is_living has_port is_port_here make doom mail_to handle is_for_peer ask same_process same_port same_target is_pair pair_of next_epoch conns_by closed_pairs lost_pair watch watch_by unwatch_by doom_by question spawn_by whereis_by register_by unregister_by acting falling is_known known fitting not_full opened_besides not_spent room_to_send get deliver send_first carry say reconnect watch_under is_awaited closing monitor_told link_told told tell_end absent watch_arrives watch_leaves place_of add_of has_name has_number is_watch_of awaits node_of same_node same_ref nothing watch_of unwatch_of told_of waiting_of_of_watches lost_of arrive_of forget_of ending_of ended_of register_of unregister_of find_of
watches_are = record { told_before_the_loss_is = refl; told_before_the_loss_opened_is = refl; monitor_of_nobody_is = refl; monitor_of_nobody_opened_is = refl; order_of_an_end_is = refl; order_of_an_end_opened_is = refl; taken_back_is = refl; taken_back_opened_is = refl; forgotten_at_the_break_is = refl; forgotten_at_the_break_opened_is = refl; node_is_shut_is = refl; node_is_shut_opened_is = refl; shut_by_first_use_is = refl; shut_by_first_use_opened_is = refl; shut_before_reading_is = refl; spawn_of_unknown_label_is = refl; spawn_of_unknown_label_opened_is = refl; usual_run_is = refl; usual_run_opened_is = refl }
