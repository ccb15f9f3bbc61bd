-- The laws are lemmas.
use Rattle.pgn_extract.proofs.laws.OneReport.{one_report}
use Rattle.pgn_extract.proofs.SomeReport.{some_report}
use Rattle.pgn_extract.proofs.laws.one_report.Goals as goal

pub returns-clause-some : goal.returns-clause-some
returns-clause-some c = some_report

pub returns-clause-one : goal.returns-clause-one
returns-clause-one c = one_report
