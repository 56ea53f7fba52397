use Rattle.std.proofs.Common.{Ok}
use Rattle.ch_endpoint.proofs.ItemsRead.{told_if, with_user, asks_is}
use Rattle.ch_endpoint.proofs.state.State.asks_link.Goals as goal

pub returns : goal.returns
returns c = λ socket found. told_if c.hears.result (λ steps. Ok (steps.items, c.hears.new.self)) _ _ (asks_is c.args.sock c.args.target c.args.peer.now socket c.args.self.now _ found (with_user c.args.target c.args.peer.now c.in_ok-user.user c.args.sock _ _ _ c.self.view_is c.in_ok-user.ensures c.use_for.ensures)) c.hears.ensures
