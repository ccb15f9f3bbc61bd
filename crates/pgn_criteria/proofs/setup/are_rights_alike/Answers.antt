use Rattle.pgn_criteria.proofs.SetupFacts.{rights_compared}
use Rattle.pgn_criteria.proofs.setup.are_rights_alike.Goals as goal

pub returns : goal.returns
returns c =
    rw (← c.rights.ensures, ← c.rights-2.ensures)
    (rights_compared c.rights.result c.rights-2.result c.eq.result c.eq.ensures)
