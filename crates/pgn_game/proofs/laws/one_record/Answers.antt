use Rattle.pgn_game.proofs.PlyCodeFacts.{one_record_of_a_game}
use Rattle.pgn_game.proofs.SomeRecord.{a_record, one_spelling}
use Rattle.pgn_game.proofs.laws.one_record.Goals as goal

pub returns-clause-replayed : goal.returns-clause-replayed
returns-clause-replayed c = one_record_of_a_game

pub returns-clause-some : goal.returns-clause-some
returns-clause-some c = a_record

pub returns-clause-one : goal.returns-clause-one
returns-clause-one c = one_spelling
