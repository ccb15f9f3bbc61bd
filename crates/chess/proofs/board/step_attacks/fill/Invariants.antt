use Rattle.chess.proofs.Common.{Placement, IsEmpty, IsBitboardOf}
use Rattle.chess.proofs.board.FillFacts.{IsFilled}
use Rattle.chess.proofs.board.step_attacks.fill.Given as goal

abbrev pub invariant-loop-steps : goal.invariant-loop-steps
invariant-loop-steps l = (p : Placement) → IsBitboardOf (IsEmpty p) l.empty
    → IsFilled p l.way l.fn.square l._steps l.last l.seen
