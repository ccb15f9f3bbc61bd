use Rattle.chess.proofs.Common.{◌≤◌, cells_men, IsClearFor}
use Rattle.chess.proofs.board.mailbox.Mailbox.is_clear.Given as goal

abbrev pub invariant-loop-step : goal.invariant-loop-step
invariant-loop-step l =
    record { clear : IsClearFor (cells_men l.self.cells) l.way l.from l.step; low : 1 ≤ l.step }
