-- The law is a lemma.
use Rattle.pgn_criteria.proofs.MeetSettled.{each_position_meets}
use Rattle.pgn_criteria.proofs.laws.met_or_not.Goals as goal

pub returns : goal.returns
returns c = each_position_meets
