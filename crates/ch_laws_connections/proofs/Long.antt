-- A text that is too long for a frame is refused.
use Rattle.std.proofs.Common.{◌≡◌, ℕ, Bool, true, false, cond, List, [], ◌∷◌, length, Ok, Err, refl}
use Rattle.std.specs.Prelude.{nat_lt, None}
use Rattle.ch_ident.specs.declared.identifier.Identifier.TheVariants.{Node}
use Rattle.ch_ident.specs.declared.node_message.NodeMessage.TheVariants.{Opening}
use Rattle.ch_ident.specs.Spelling.{message}
use Rattle.ch_light.specs.Ids.{id_of, give_of}
use Rattle.ch_link.specs.Table.{step_of}
use Rattle.ch_mail.specs.Mail.{newborn, make_of, life_of}
use Rattle.ch_watch.specs.Same.{same_node}
use Rattle.ch_wire.specs.declared.TheConstants.{MOST_PAYLOAD_BYTES}
use Rattle.ch_model.specs.declared.act.Act.TheVariants.{Open, Put}
use Rattle.ch_model.specs.declared.step.EndError.TheVariants.{PayloadLong}
use Rattle.ch_model.specs.declared.step.Weight.TheVariants.{Free, Counted}
use Rattle.ch_model.specs.HostCalls.{◌>>=◌, stepped, puts_and_wants, found_or, has_room, host_open, host_connect, host_send}
use Rattle.ch_model.specs.HostSteps.{link_with}
use Rattle.ch_model.specs.NodeConnections.{drawn, opening, conn_to, tell_first, tell_node}
use Rattle.ch_model.specs.NodeLives.{make}
use Rattle.ch_model.specs.NodeMessages.{ask}
use Rattle.ch_model.specs.NodeRequests.{doom_by}
use Rattle.ch_model.specs.NodeRoom.{acting, not_full}
use Rattle.ch_model.specs.Node.{node_new, node_make, node_command}
use Rattle.ch_laws_connections.specs.Scenes.{here, there, exit_acts, exit_told, connected}

pub acts_are : (text : List ℕ) → exit_acts text ≡ Open 0 there ∷ Put 0 (message (Opening (Node here) (Node there))) Free ∷ Put 0 (exit_told text) (Counted None) ∷ []
unfolding node_command doom_by acting not_full ask tell_node conn_to tell_first drawn opening node_make make make_of newborn node_new life_of same_node
acts_are text = refl

pub is_refused : (text : List ℕ) → nat_lt MOST_PAYLOAD_BYTES (length (exit_told text)) ≡ true → host_send connected 0 0 (exit_told text) (Counted None) ≡ Err PayloadLong
unfolding host_send host_connect host_open give_of id_of step_of same_node
is_refused text long = by_long (nat_lt MOST_PAYLOAD_BYTES (length (exit_told text))) long where
  by_long : (b : Bool) → b ≡ true → (cond b (Err PayloadLong) (Ok (exit_told text)) >>= (λ short. has_room (link_with connected 0 there) (Counted None) >>= (λ roomy. found_or (id_of (link_with connected 0 there).given 0) >>= (λ id. stepped (puts_and_wants (Rattle.ch_wire.specs.declared.frame.Frame.TheVariants.Data id short, Counted None) (link_with connected 0 there) connected))))) ≡ Err PayloadLong
  by_long true e = refl
  by_long false e = absurd cc
