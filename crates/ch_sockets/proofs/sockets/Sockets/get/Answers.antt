use Rattle.std.proofs.Common.{sym, ap, get_or, Some, ◌∙◌}
use Rattle.ch_model.specs.WorldState.{WorldSocket}
use Rattle.ch_model.specs.WorldSockets.{is_socket_named}
use Rattle.ch_sockets.proofs.Places.{none_there, found_there}
use Rattle.ch_sockets.proofs.sockets.Sockets.get.Goals as goal

pub returns-in-None : goal.returns-in-None
returns-in-None c = sym (none_there (is_socket_named c.args.name.now) c.args.self.now (sym c.place.ensures.place ∙ c.in-None.is))

pub returns-in-Some : goal.returns-in-Some
returns-in-Some c =
    let d : WorldSocket = c.index.result.now in
    ap Some (c.index.ensures ∙ ap (λ rows. get_or rows c.in-Some.place d) c.self.view_is) ∙ sym (found_there (is_socket_named c.args.name.now) d c.args.self.now c.in-Some.place (sym c.place.ensures.place ∙ c.in-Some.is))
