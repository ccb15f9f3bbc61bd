use Rattle.chess.proofs.Common.{said_by, IsCandidate}
use Rattle.chess.proofs.PlaceFacts.{true_not_false}
use Rattle.chess.proofs.move_text.CandidateFacts.{candidate_steppers, pawn_goes, none_hold}
use Rattle.chess.proofs.move_text.read.candidates.candidate_steppers.Goals as goal

pub returns-then-not-promotes : goal.returns-then-not-promotes
returns-then-not-promotes g c =
    let P = c.args.position.now in
    let said = said_by c.args.said.now in
    none_hold (IsCandidate P said) c.new.result c.new.ensures
    (λ s on candidates.
    true_not_false c.promotes.result
    (c.promotes.ensures.1
    (rw c.side.ensures (pawn_goes P said s c.requires.pawn candidates).1))
    c.if-not-promotes.true)

pub returns : goal.returns
returns g c =
    let P = c.args.position.now in
    let said = said_by c.args.said.now in
    candidate_steppers P said c.steppers.result c.origins.result c.common.result c.requires.pawn
    c.invariant-2.ensures
    (rw (← c.side.ensures) (c.promotes.ensures.0 c.if-not-promotes.false))
    c.requires.steps c.steppers.ensures c.origins.ensures
    c.common.ensures
