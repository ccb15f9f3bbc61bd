use Rattle.chess.proofs.Common.{ap, ◌∙◌, None, cells_men, cell_of, men_of-none, no_cell, replicate}
use Rattle.chess.proofs.board.mailbox.MailboxBoard.empty.Goals as goal

pub returns : goal.returns
returns c = ap cells_men c.no_cells.ensures.cells
    ∙ men_of-none (cell_of (replicate 64 None)) (no_cell 64) 64
