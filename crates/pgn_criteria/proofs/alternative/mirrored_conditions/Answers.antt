use Rattle.pgn_criteria.proofs.alternative.mirrored_conditions.Goals as goal

pub returns : goal.returns
returns c = rw c.in_ok-new.ensures c.in_ok-mirrored.ensures
