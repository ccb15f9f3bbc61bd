use Rattle.pgn_criteria.proofs.SetupFacts.{kind_both, kind_none}
use Rattle.pgn_criteria.proofs.setup.is_kind_alike.Goals as goal

pub returns-then-stands_alike : goal.returns-then-stands_alike
returns-then-stands_alike c =
    kind_both c.args.one.now.men c.args.other.now.men c.args.kind c.stands_alike.result
    c.stands_alike-then-stands_alike.result c.stands_alike.ensures c.if-stands_alike.true
    c.stands_alike-then-stands_alike.ensures

pub returns-else-stands_alike : goal.returns-else-stands_alike
returns-else-stands_alike c =
    kind_none c.args.one.now.men c.args.other.now.men c.args.kind c.stands_alike.result
    c.stands_alike.ensures c.if-stands_alike.false
