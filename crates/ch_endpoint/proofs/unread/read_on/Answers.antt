use Rattle.ch_endpoint.proofs.Longer.{read_more}
use Rattle.ch_endpoint.proofs.unread.read_on.Goals as goal

pub returns-clause-on : goal.returns-clause-on
returns-clause-on c = λ since has. read_more c.args.expected since c.args.piece.now c.in_ok-reader.reader c.feed.new.self c.handed_out-front.new.reader c.handed_out-front.result c.in_ok-count.count (c.in_ok-reader.ensures since has) c.in_ok-count.ensures.ok c.handed_out-front.ensures.front c.handed_out-front.ensures.reader
