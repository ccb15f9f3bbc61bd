use Rattle.pgn_game.proofs.ResidueFacts.{change_noticed}
use Rattle.pgn_game.proofs.SegmentFacts.{segment_again, segment_takes, damage_is_noticed}
use Rattle.pgn_game.proofs.laws.segments.Goals as goal

pub returns-clause-read : goal.returns-clause-read
returns-clause-read c = segment_again

pub returns-clause-written : goal.returns-clause-written
returns-clause-written c = segment_takes

pub returns-clause-noticed : goal.returns-clause-noticed
returns-clause-noticed c = damage_is_noticed

pub returns-clause-change : goal.returns-clause-change
returns-clause-change c = change_noticed
