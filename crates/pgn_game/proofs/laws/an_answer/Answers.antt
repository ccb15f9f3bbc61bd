-- The law is a lemma.
use Rattle.pgn_game.proofs.AnAnswer.{game_answer}
use Rattle.pgn_game.proofs.laws.an_answer.Goals as goal

pub returns : goal.returns
returns c = game_answer
