use Rattle.pgn_criteria.proofs.WalkFacts.{seen_itself}
use Rattle.pgn_extract.proofs.entries.PlayedFacts.{asks_there}
use Rattle.pgn_extract.proofs.entries.played.SearchQuestion.is_met.Goals as goal

pub returns : goal.returns
returns c =
    asks_there c.args.self.now c.is_met.result c.args.arg2 c.args.position.now
    (c.is_met.ensures c.args.position.now (seen_itself c.args.position.now))
