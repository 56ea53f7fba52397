use Rattle.ch_model.specs.WorldSockets.{new_socket}
use Rattle.ch_laws_world.proofs.Names.{is_count}
use Rattle.ch_laws_world.proofs.Sockets.{came_last}
use Rattle.ch_laws_world.proofs.a_new_socket_comes_last.Goals as goal

pub returns : goal.returns
returns c = λ world from to from_host opener address k. came_last (new_socket world from to from_host opener address) world k (is_count from to world.sockets)
