-- What the calls of an endpoint ask of a link, and a frame that is put alone.
use Rattle.std.specs.Prelude.{ℕ, List, Option, Result}
use Rattle.std.proofs.Common.{refl, ap, ◌∙◌}
use Rattle.ch_wire.specs.declared.frame.Frame.TheVariants as frames
use Rattle.ch_light.specs.Ids.{id_of, give_of, close_of}
use Rattle.ch_light.specs.declared.Connection.{Connection}
use Rattle.ch_light.specs.declared.error.LightError.{LightError}
use Rattle.ch_model.specs.declared.step.EndError.{EndError}
use Rattle.ch_model.specs.declared.step.Weight.{Weight}
use Rattle.ch_model.specs.declared.step.Weight.TheVariants.{Free}
use Rattle.ch_model.specs.HostState.{Link}
use Rattle.ch_model.specs.HostWrites.{puts}
use Rattle.ch_model.specs.HostCalls.{◌>>=◌, stepped, of_ids, found_or, short_enough, has_room, puts_and_wants, host_connect, host_send, host_close}
use Rattle.ch_race.specs.Pair.{Side, other}
use Rattle.ch_laws_race.specs.Scene.{Scene, host_of, link_of}
use Rattle.ch_laws_race.specs.Asks.{asks_link}
use Rattle.ch_laws_race.specs.Calls.{puts_frame, IsOfLink, Connects, Sends, Closes}

pub connects : (scene : Scene) (x : Side) (conn : ℕ) (given : ℕ × List Connection) → Connects scene x conn given
    → IsOfLink scene x (host_connect (host_of scene x) (scene.party x).address.id (scene.party (other x)).address conn) (asks_link scene x (frames.Created given.0, Free) (record (link_of scene x) { given = given.1 })) (record (link_of scene x) { given = given.1 })
unfolding host_connect
connects scene x conn given h = record {
  same = ap (λ (r : Result ℕ EndError). r >>= (λ standing. of_ids (give_of (link_of scene x).given conn) >>= (λ g. stepped (puts_and_wants (frames.Created g.0, Free) (record (link_of scene x) { given = g.1 }) (host_of scene x))))) h.opened
      ∙ ap (λ (r : Result (ℕ × List Connection) LightError). of_ids r >>= (λ g. stepped (puts_and_wants (frames.Created g.0, Free) (record (link_of scene x) { given = g.1 }) (host_of scene x)))) h.gives;
  renewed = record { end = refl; peer = refl; state = refl };
}

pub sends : (scene : Scene) (x : Side) (conn : ℕ) (payload : List ℕ) (weight : Weight) (id : ℕ) → Sends scene x conn payload weight id
    → IsOfLink scene x (host_send (host_of scene x) (scene.party x).address.id conn payload weight) (asks_link scene x (frames.Data id payload, weight) (link_of scene x)) (link_of scene x)
unfolding host_send
sends scene x conn payload weight id h = record {
  same = ap (λ (o : Option Link). found_or o >>= (λ l. short_enough payload >>= (λ bytes. has_room l weight >>= (λ roomy. found_or (id_of l.given conn) >>= (λ i. stepped (puts_and_wants (frames.Data i bytes, weight) l (host_of scene x))))))) h.found
      ∙ ap (λ (r : Result (List ℕ) EndError). r >>= (λ bytes. has_room (link_of scene x) weight >>= (λ roomy. found_or (id_of (link_of scene x).given conn) >>= (λ i. stepped (puts_and_wants (frames.Data i bytes, weight) (link_of scene x) (host_of scene x)))))) h.short
      ∙ ap (λ (r : Result Link EndError). r >>= (λ roomy. found_or (id_of (link_of scene x).given conn) >>= (λ i. stepped (puts_and_wants (frames.Data i payload, weight) (link_of scene x) (host_of scene x))))) h.room
      ∙ ap (λ (o : Option ℕ). found_or o >>= (λ i. stepped (puts_and_wants (frames.Data i payload, weight) (link_of scene x) (host_of scene x)))) h.given;
  renewed = record { end = refl; peer = refl; state = refl };
}

pub closes : (scene : Scene) (x : Side) (conn : ℕ) (closed : ℕ × List Connection) → Closes scene x conn closed
    → IsOfLink scene x (host_close (host_of scene x) (scene.party x).address.id conn) (puts_frame scene x (frames.Closed closed.0, Free) (record (link_of scene x) { given = closed.1 })) (record (link_of scene x) { given = closed.1 })
unfolding host_close
closes scene x conn closed h = record {
  same = ap (λ (o : Option Link). found_or o >>= (λ l. of_ids (close_of l.given conn) >>= (λ c. stepped (puts (frames.Closed c.0, Free) (record l { given = c.1 }) (host_of scene x))))) h.found
      ∙ ap (λ (r : Result (ℕ × List Connection) LightError). of_ids r >>= (λ c. stepped (puts (frames.Closed c.0, Free) (record (link_of scene x) { given = c.1 }) (host_of scene x)))) h.closes;
  renewed = record { end = refl; peer = refl; state = refl };
}
