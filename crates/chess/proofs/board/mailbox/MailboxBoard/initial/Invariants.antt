use Rattle.chess.proofs.Common.{◌≡◌, square_at, cells_men, first_men, initial_man}
use Rattle.chess.proofs.board.mailbox.MailboxBoard.initial.Given as goal

abbrev pub invariant-loop-index : goal.invariant-loop-index
invariant-loop-index l = cells_men l.board.cells
    ≡ first_men (λ n. initial_man (square_at n)) l.index
