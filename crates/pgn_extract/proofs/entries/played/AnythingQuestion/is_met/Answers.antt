use Rattle.pgn_extract.proofs.entries.PlayedFacts.{all_there}
use Rattle.pgn_extract.proofs.entries.played.AnythingQuestion.is_met.Goals as goal

pub returns : goal.returns
returns c = all_there c.args.arg2 c.args.arg3.now
