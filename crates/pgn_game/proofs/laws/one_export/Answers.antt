-- The laws are lemmas.
use Rattle.pgn_game.proofs.OneExport.{one_export}
use Rattle.pgn_game.proofs.SomeExport.{some_export}
use Rattle.pgn_game.proofs.laws.one_export.Goals as goal

pub returns-clause-some : goal.returns-clause-some
returns-clause-some c = some_export

pub returns-clause-one : goal.returns-clause-one
returns-clause-one c = one_export
