use Rattle.std.proofs.Common.{find, ap, ◌∙◌}
use Rattle.ch_names.specs.Tables.{address_of, is_at}
use Rattle.ch_names.proofs.Tables.{found_there, none_there, looked_up}
use Rattle.ch_names.proofs.names.Names.at.Goals as goal

pub returns-in-None : goal.returns-in-None
returns-in-None c =
    let place = looked_up c.args.spot.now c.self.inside.by_address.entries ∙ c.self.invariant.by_address (address_of c.args.spot.now) in
    none_there (is_at (address_of c.args.spot.now)) c.self.inside.rows.items _ c.in-None.ensures.value place ∙ ap (find (is_at (address_of c.args.spot.now))) c.self.view_is

pub returns-in-Some : goal.returns-in-Some
returns-in-Some c =
    let place = looked_up c.args.spot.now c.self.inside.by_address.entries ∙ c.self.invariant.by_address (address_of c.args.spot.now) in
    found_there (is_at (address_of c.args.spot.now)) c.self.inside.rows.items _ _ _ _ c.deref.ensures.value c.in-Some.ensures.value place c.get-in-Some.ensures.lookup ∙ ap (find (is_at (address_of c.args.spot.now))) c.self.view_is
