use Rattle.std.proofs.Common.{arith}
use Rattle.ch_ident.specs.Fits.{IsIdentifier}
use Rattle.ch_ident.specs.Reading.{identifier_at, identifier_of}
use Rattle.ch_ident.specs.Spelling.{identifier}
use Rattle.ch_ident.proofs.Identifiers.{identifier_reads}
use Rattle.ch_ident.proofs.Messages.{is_found, is_only}
use Rattle.ch_ident.proofs.identifier.take_identifier.Goals as goal

pub returns-clause-found : goal.returns-clause-found
unfolding identifier_of
returns-clause-found c = is_found identifier_at identifier IsIdentifier identifier_reads c.args.bytes.now c.read_all.result (λ i. omega (arith, c.type_inv.bytes i)) c.read_all.ensures

pub returns-clause-only : goal.returns-clause-only
unfolding identifier_of
returns-clause-only c = is_only identifier_at identifier IsIdentifier identifier_reads c.args.bytes.now c.read_all.result c.read_all.ensures
