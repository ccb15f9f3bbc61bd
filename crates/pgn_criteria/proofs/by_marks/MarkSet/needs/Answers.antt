use Rattle.pgn_criteria.proofs.ByMarkFacts.{masks_need, masks_stuck}
use Rattle.pgn_criteria.proofs.by_marks.MarkSet.needs.Goals as goal

pub returns : goal.returns
returns c = (masks_need c.args.self.flags, masks_stuck c.args.self.flags)
