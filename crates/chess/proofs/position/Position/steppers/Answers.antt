use Rattle.chess.specs.Private.MoveWords.{IsStepper}
use Rattle.chess.proofs.StepperFacts.{one_holds}
use Rattle.chess.proofs.move_text.CandidateFacts.{none_hold}
use Rattle.chess.proofs.position.Position.steppers.Goals as goal

pub returns-in-Some : goal.returns-in-Some
returns-in-Some g c =
    one_holds (IsStepper c.args.self.now c.args.to) c.new-found.result c.insert.new.self
    c.in-Some.from c.new-found.ensures c.in-Some.ensures.0
    c.in-Some.ensures.1 c.in-Some.ensures.2 c.insert.ensures

pub returns-in_default : goal.returns-in_default
returns-in_default g c =
    none_hold (IsStepper c.args.self.now c.args.to) c.new-found.result c.new-found.ensures
    c.in_default.ensures
