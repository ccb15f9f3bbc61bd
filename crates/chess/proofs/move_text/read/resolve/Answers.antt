use Rattle.chess.specs.Public.San.{IsNamed}
use Rattle.chess.proofs.NamedFacts.{answer_only, answer_none, answer_several}
use Rattle.chess.proofs.move_text.read.resolve.Goals as goal

pub returns-clause-ok : goal.returns-clause-ok
returns-clause-ok g c =
    answer_only c.args.position.now c.args.text.now c.only_named.result c.only_named.ensures

pub returns-clause-none : goal.returns-clause-none
returns-clause-none g c =
    answer_none (IsNamed c.args.position.now c.args.text.now) c.only_named.result
    c.only_named.ensures

pub returns-clause-several : goal.returns-clause-several
returns-clause-several g c =
    answer_several (IsNamed c.args.position.now c.args.text.now) c.only_named.result
    c.only_named.ensures
