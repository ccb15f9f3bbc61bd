use Rattle.pgn_criteria.proofs.StageFacts.{fits_both, fits_none}
use Rattle.pgn_criteria.proofs.meets.fits_at.Goals as goal

pub returns-then-is_met : goal.returns-then-is_met
returns-then-is_met c =
    fits_both c.args.replayed.now c.args.plies c.args.alternative.now c.position.result.now
    c.is_met.result c.is_of_ply.result c.position.ensures
    c.is_met.ensures c.if-is_met.true c.is_of_ply.ensures

pub returns-else-is_met : goal.returns-else-is_met
returns-else-is_met c =
    fits_none c.args.replayed.now c.args.plies c.args.alternative.now c.position.result.now
    c.is_met.result c.position.ensures c.is_met.ensures c.if-is_met.false
