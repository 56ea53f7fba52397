use Rattle.ch_cell.proofs.Opened.{new_is, new_is_model}
use Rattle.ch_cell.proofs.site.Site.new.Goals as goal

pub returns-clause-made : goal.returns-clause-made
returns-clause-made c = new_is c.args.host.now c.args.port c.args.circle.now c.args.openings.items c.in_ok-new.field-0.state c.new-2.result c.opened.result c.in_ok-new.ensures.state c.new-2.ensures c.opened.ensures

pub returns-clause-model : goal.returns-clause-model
returns-clause-model c = new_is_model c.args.host.now c.args.port c.args.circle.now c.args.openings.items c.opened.result (new_is c.args.host.now c.args.port c.args.circle.now c.args.openings.items c.in_ok-new.field-0.state c.new-2.result c.opened.result c.in_ok-new.ensures.state c.new-2.ensures c.opened.ensures)
