use Rattle.pgn_game.proofs.laws.TurnCounts.{turns_counted}
use Rattle.pgn_game.proofs.laws.a_turn_each.Goals as goal

pub returns : goal.returns
returns c = turns_counted
