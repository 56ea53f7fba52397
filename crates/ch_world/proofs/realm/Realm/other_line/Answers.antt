use Rattle.ch_world.proofs.EventLines.{knock_line}
use Rattle.ch_world.proofs.realm.Realm.other_line.Goals as goal

pub returns-in-Knock : goal.returns-in-Knock
returns-in-Knock c = knock_line c.args.what.now _ _ c.args.self.now c.knock.new.self c.knock.result c.in-Knock.is c.knock.ensures
