use Rattle.pgn_game.proofs.LaterPlies.{later_plies_rest, later_replayed}
use Rattle.pgn_game.proofs.laws.later_games.Goals as goal

pub returns-clause-rest : goal.returns-clause-rest
returns-clause-rest c = later_plies_rest

pub returns-clause-replayed : goal.returns-clause-replayed
returns-clause-replayed c = later_replayed
