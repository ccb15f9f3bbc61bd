use Rattle.pgn_criteria.proofs.CompareFacts.{stands_so}
use Rattle.pgn_criteria.proofs.compare.stands.Goals as goal

pub returns : goal.returns
returns c =
    stands_so c.args.relation c.args.given.now c.args.text.now c.allows.result c.requires.given
    c.requires.text c.allows.ensures
