use Rattle.chess.proofs.RankOrderFacts.{empties}
use Rattle.chess.proofs.fen.write.empty_set.Goals as goal

pub returns : goal.returns
returns c = empties c.args.signs c.fits-signs.0
