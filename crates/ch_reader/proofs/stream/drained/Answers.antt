use Rattle.std.proofs.Common.{subst}
use Rattle.ch_reader.specs.Decoding.{IsReadyUnless}
use Rattle.ch_reader.proofs.Runs.{no_bytes}
use Rattle.ch_reader.proofs.Decoding.{ready_start, account_start, account_more, fits_more, decodes_refused, decodes_all}
use Rattle.ch_reader.proofs.stream.drained.Goals as goal

pub loop-piece-init : goal.loop-piece-init
loop-piece-init c = record {
  ready = ready_start c.args.role c.in_ok-reader.reader c.in_ok-reader.ensures.ok;
  fits = no_bytes;
  account = account_start c.args.role c.new-items.result.items c.in_ok-reader.reader c.new-items.ensures.items c.in_ok-reader.ensures.ok;
}

pub loop-piece-preserved : goal.loop-piece-preserved
loop-piece-preserved c =
    let at = c.loop-piece in
    record {
      ready = subst (λ r. IsReadyUnless r c.drain.new.reader) c.in-None.is c.in_ok-drain.ensures.ready;
      fits = fits_more c.args.pieces.now at.piece-index c.as_slice.result.now c.piece-item.result c.loop-piece-test.true c.as_slice.ensures c.piece-item.is at.invariant.fits c.drain.ensures.fits;
      account = account_more c.args.role c.args.pieces.now at.piece-index c.as_slice.result.now c.piece-item.result at.items.items c.drain.new.items.items at.reader c.drain.new.reader c.in_ok-drain.field-0 c.loop-piece-test.true c.as_slice.ensures c.piece-item.is c.in-None.is at.invariant.fits at.invariant.account c.in_ok-drain.ensures.accounts;
    }

pub returns-in-Some : goal.returns-in-Some
returns-in-Some c =
    let at = c.loop-piece in
    decodes_refused c.args.role c.args.pieces.now at.piece-index c.as_slice.result.now c.piece-item.result at.items.items c.drain.new.items.items at.reader c.drain.new.reader c.in_ok-drain.field-0 c.in-Some.error c.loop-piece-test.true c.as_slice.ensures c.piece-item.is c.in-Some.is at.invariant.fits at.invariant.account c.in_ok-drain.ensures.accounts

pub returns : goal.returns
returns c =
    let at = c.loop-piece in
    decodes_all c.args.role c.args.pieces.now at.piece-index at.items.items at.reader c.loop-piece-test.false at.invariant.ready at.invariant.account
