-- The scene of a request that is read, computed: the target's end is for its own node with the opener's.
use Rattle.std.proofs.Common.{◌≡◌, [], ◌∷◌, refl}
use Rattle.std.specs.Prelude.{codes, Some}
use Rattle.ch_model.specs.World.{world_new, log_from}
use Rattle.ch_laws_bytes.specs.Scene.{address_a}
use Rattle.ch_laws_calls.specs.UsersScenes.{asked, targets_in}
use Rattle.std.specs.Fmt.{digits}
use Rattle.ch_base.specs.Addresses.{read_address, host_at, port_at}
use Rattle.ch_light.specs.Ids.{id_of, give_of, close_of, created_of, conn_of, closed_of}
use Rattle.ch_link.specs.Table.{step_of}
use Rattle.ch_mail.specs.Mail.{newborn, waiting_in, appended, given_to, taken_from, taken_from_port, opened_by, ended, doomed, make_of, life_of, doom_of, end_of as end_of_of_mail, put_of, take_of, take_port_of, open_port_of, waiting_of as waiting_of_of_mail}
use Rattle.ch_mail.specs.Queue.{first_of_mark, first_of}
use Rattle.ch_model.specs.Host.{host_on, host_next}
use Rattle.ch_model.specs.HostCalls.{host_open, host_connect, host_send, host_close, host_close_endpoint, host_room, host_timer_runs}
use Rattle.ch_model.specs.Node.{node_new, node_make, node_command, node_event, node_shut, node_watched, target_node, node_life, node_waiting, node_args}
use Rattle.ch_model.specs.NodeActs.{growing}
use Rattle.ch_model.specs.NodeCommands.{send_of, again_of, receive_of, take_port, open_port, finish_of, fall_of}
use Rattle.ch_model.specs.NodeConnections.{drawn, opening, conn_to, tell_first, tell_node}
use Rattle.ch_model.specs.NodeIds.{is_own, life_here, is_living, has_port, is_port_here}
use Rattle.ch_model.specs.NodeLives.{make, doom, mail_to}
use Rattle.ch_model.specs.NodePairs.{same_process, same_port, same_target, is_pair, pair_of, next_epoch, conns_by, closed_pairs, lost_pair}
use Rattle.ch_model.specs.NodeRoom.{acting, falling, is_known, known, fitting, not_full, opened_besides, not_spent, room_to_send}
use Rattle.ch_model.specs.NodeSends.{get, deliver, send_first, carry, say, reconnect}
use Rattle.ch_watch.specs.Same.{node_of, same_node, same_ref}

pub one_target : targets_in (log_from (world_new asked) asked) ≡ (Some (codes "h"), Some (0, address_a)) ∷ []
unfolding read_address host_at port_at digits id_of give_of close_of created_of conn_of closed_of step_of newborn waiting_in appended given_to taken_from taken_from_port opened_by ended doomed make_of life_of doom_of end_of_of_mail put_of take_of take_port_of open_port_of waiting_of_of_mail first_of_mark first_of host_on host_next host_open host_connect host_send host_close host_close_endpoint host_room host_timer_runs node_new node_make node_command node_event node_shut node_watched target_node node_life node_waiting node_args growing send_of again_of receive_of take_port open_port finish_of fall_of drawn opening conn_to tell_first tell_node is_own life_here is_living has_port is_port_here make doom mail_to same_process same_port same_target is_pair pair_of next_epoch conns_by closed_pairs lost_pair acting falling is_known known fitting not_full opened_besides not_spent room_to_send get deliver send_first carry say reconnect node_of same_node same_ref
one_target = refl
