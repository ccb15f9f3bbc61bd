use Rattle.chess.proofs.NamedFacts.{said_answer}
use Rattle.chess.proofs.move_text.read.only_named.Goals as goal

pub returns-in-Some : goal.returns-in-Some
returns-in-Some g c =
    said_answer c.args.position.now c.args.text.now c.in-Some.said _ c.in-Some.ensures
    c.moved.ensures
