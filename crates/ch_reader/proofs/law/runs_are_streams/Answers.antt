use Rattle.ch_reader.proofs.Runs.{runs_account, refuses_where, holds_little}
use Rattle.ch_reader.proofs.law.runs_are_streams.Goals as goal

pub returns-clause-accounted : goal.returns-clause-accounted
returns-clause-accounted c = runs_account

pub returns-clause-refused : goal.returns-clause-refused
returns-clause-refused c = refuses_where

pub returns-clause-little : goal.returns-clause-little
returns-clause-little c = holds_little
