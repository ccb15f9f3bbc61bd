use Rattle.pgn_criteria.proofs.rank.PlaceFacts.{many}
use Rattle.pgn_criteria.proofs.rank.step.Goals as goal

pub returns-in-Run-clause-goes_on : goal.returns-in-Run-clause-goes_on
returns-in-Run-clause-goes_on c items = rw c.in-Run.is (c.run.ensures.goes_on items)

pub returns-in-Many-clause-goes_on : goal.returns-in-Many-clause-goes_on
returns-in-Many-clause-goes_on c items =
    rw c.in-Many.is (many c.args.squares.now c.args.reached c.spread.result items c.told-squares
    c.spread.ensures.from)
