-- The law is a lemma.
use Rattle.pgn_criteria.proofs.WalkFacts.{step_shows_next_position}
use Rattle.pgn_criteria.proofs.laws.walks.Goals as goal

pub returns : goal.returns
returns c = step_shows_next_position
