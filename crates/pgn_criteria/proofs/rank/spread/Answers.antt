use Rattle.std.proofs.Common.{arith}
use Rattle.pgn_criteria.proofs.rank.PlaceFacts.{spread_places}
use Rattle.pgn_criteria.proofs.rank.spread.Goals as goal

pub overflow_sub-result : goal.overflow_sub-result
overflow_sub-result c = (spread_places c.args.reached (omega arith) c.requires).0

pub returns-clause-from : goal.returns-clause-from
returns-clause-from c = (spread_places c.args.reached (omega arith) c.requires).1
