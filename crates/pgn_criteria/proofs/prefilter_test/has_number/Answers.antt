use Rattle.pgn_criteria.proofs.prefilter_test.PrefilterTestFacts.{has_his_number}
use Rattle.pgn_criteria.proofs.prefilter_test.has_number.Goals as goal

pub returns : goal.returns
returns c =
    λ man his. has_his_number man c.args.own c.number_of.result c.args.number
    c.number_of.ensures.number his
