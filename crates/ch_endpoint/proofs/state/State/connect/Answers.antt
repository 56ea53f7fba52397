use Rattle.std.proofs.Common.{rules, ◌≡◌, ◌&&◌, nat_le, length, true, false}
use Rattle.std.specs.List.{list_any}
use Rattle.ch_model.specs.HostSteps.{is_open_endpoint, link_with}
use Rattle.ch_model.specs.HostLinks.{most_dials}
use Rattle.ch_endpoint.specs.Places.{is_idle}
use Rattle.ch_endpoint.proofs.Sends.{connect_closed, connect_spent, connect_worn, connect_opens}
use Rattle.ch_endpoint.proofs.state.State.connect.Goals as goal

pub returns-then-not-is_open-clause-does : goal.returns-then-not-is_open-clause-does
returns-then-not-is_open-clause-does c =
    let closed : list_any (is_open_endpoint c.args.end) c.args.self.now.ends ≡ false = search rules in
    connect_closed c.args.self.now c.args.end c.args.peer.now c.args.conn closed

pub returns-then-is_spent-clause-does : goal.returns-then-is_spent-clause-does
returns-then-is_spent-clause-does c =
    let stands : list_any (is_open_endpoint c.args.end) c.args.self.now.ends ≡ true = search rules in
    let spent : nat_le 65536 (length (link_with c.args.self.now c.args.end c.args.peer.now).given) ≡ true = search rules in
    connect_spent c.args.self.now c.args.end c.args.peer.now c.args.conn stands spent

pub returns-then-is_worn-clause-does : goal.returns-then-is_worn-clause-does
returns-then-is_worn-clause-does c =
    let stands : list_any (is_open_endpoint c.args.end) c.args.self.now.ends ≡ true = search rules in
    let room : nat_le 65536 (length (link_with c.args.self.now c.args.end c.args.peer.now).given) ≡ false = search rules in
    let worn : (is_idle (link_with c.args.self.now c.args.end c.args.peer.now).state && nat_le most_dials c.args.self.now.dials) ≡ true = search rules in
    connect_worn c.args.self.now c.args.end c.args.peer.now c.args.conn stands room worn

pub returns-in-Ok-clause-does : goal.returns-in-Ok-clause-does
returns-in-Ok-clause-does c =
    let stands : list_any (is_open_endpoint c.args.end) c.args.self.now.ends ≡ true = search rules in
    let room : nat_le 65536 (length (link_with c.args.self.now c.args.end c.args.peer.now).given) ≡ false = search rules in
    connect_opens c.args.self.now c.args.end c.args.peer.now c.args.conn _ stands room c.in-Ok.ensures
