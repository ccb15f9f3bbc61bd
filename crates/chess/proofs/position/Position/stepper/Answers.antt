use Rattle.chess.proofs.Common.{ap, subst, ◌∙◌, Some, opposite, IsEmpty, IsMover, CanStepOver}
use Rattle.chess.proofs.Common.{IsSquareAhead, Pawn}
use Rattle.chess.proofs.PlaceFacts.{true_not_false}
use Rattle.chess.proofs.StepperFacts.{rear_of, no_step_taken, no_step_edge, steps_once, only_once}
use Rattle.chess.proofs.StepperFacts.{no_second, only_two, steps_twice}
use Rattle.chess.proofs.position.Position.stepper.Goals as goal

pub returns-then-not-is_empty : goal.returns-then-not-is_empty
returns-then-not-is_empty g c s on step =
    no_step_taken c.args.self.now c.args.to s (λ empty.
    true_not_false c.is_empty.result (c.is_empty.ensures.1 empty) c.if-not-is_empty.true) step

pub returns-in_default : goal.returns-in_default
returns-in_default g c s on step =
    no_step_edge c.args.self.now c.opposite-back.result c.args.to (c.opposite-back.ensures
    ∙ ap opposite c.side.ensures) c.invariant.ensures c.in_default.ensures s on step

pub returns-then-has_pawn : goal.returns-then-has_pawn
returns-then-has_pawn g c =
    let P = c.args.self.now in
    let t = c.args.to in
    let one = c.in-Some.one in
    let side = c.opposite-back.ensures ∙ ap opposite c.side.ensures in
    let empty : IsEmpty P.men t = c.is_empty.ensures.0 c.if-not-is_empty.false in
    let rear =
    rear_of P.turn t one (subst (λ a. IsSquareAhead a t (Some one)) side c.in-Some.ensures) in
    let pawn : IsMover P Pawn one = c.has_pawn.ensures.0 c.if-has_pawn.true in (
      c.in-Some.ensures.0,
      steps_once P t one empty rear pawn,
      (λ s on step. only_once P t one s rear pawn step),
    )

pub returns-in_default-square_ahead : goal.returns-in_default-square_ahead
returns-in_default-square_ahead g c s on step =
    let P = c.args.self.now in
    let t = c.args.to in
    let one = c.in-Some.one in
    let side = c.opposite-back.ensures ∙ ap opposite c.side.ensures in
    let rear =
    rear_of P.turn t one (subst (λ a. IsSquareAhead a t (Some one)) side c.in-Some.ensures) in
    no_second P c.opposite-back.result t one s side rear (λ pawn.
    true_not_false c.has_pawn.result (c.has_pawn.ensures.1 pawn) c.if-has_pawn.false)
    c.in_default-square_ahead.ensures on step

pub returns-then-can_step_over : goal.returns-then-can_step_over
returns-then-can_step_over g c =
    let P = c.args.self.now in
    let t = c.args.to in
    let one = c.in-Some.one in
    let two = c.in-Some-square_ahead.two in
    let side = c.opposite-back.ensures ∙ ap opposite c.side.ensures in
    let empty : IsEmpty P.men t = c.is_empty.ensures.0 c.if-not-is_empty.false in
    let rear =
    rear_of P.turn t one (subst (λ a. IsSquareAhead a t (Some one)) side c.in-Some.ensures) in
    let second =
    rear_of P.turn one two
    (subst (λ a. IsSquareAhead a one (Some two)) side c.in-Some-square_ahead.ensures) in
    let can : CanStepOver P one two = c.can_step_over.ensures.0 c.if-can_step_over.true in (
      c.in-Some-square_ahead.ensures.0,
      steps_twice P t one two empty rear second can,
      (λ s on step. (only_two P t one two s rear second
          (λ pawn. true_not_false c.has_pawn.result (c.has_pawn.ensures.1 pawn) c.if-has_pawn.false)
          step).0),
    )

pub returns : goal.returns
returns g c s on step =
    let P = c.args.self.now in
    let t = c.args.to in
    let one = c.in-Some.one in
    let two = c.in-Some-square_ahead.two in
    let side = c.opposite-back.ensures ∙ ap opposite c.side.ensures in
    let rear =
    rear_of P.turn t one (subst (λ a. IsSquareAhead a t (Some one)) side c.in-Some.ensures) in
    let second =
    rear_of P.turn one two
    (subst (λ a. IsSquareAhead a one (Some two)) side c.in-Some-square_ahead.ensures) in
    let found =
    only_two P t one two s rear second (λ pawn.
    true_not_false c.has_pawn.result (c.has_pawn.ensures.1 pawn) c.if-has_pawn.false) step in
    true_not_false c.can_step_over.result (c.can_step_over.ensures.1 found.1)
    c.if-can_step_over.false
