use Rattle.std.specs.Prelude.{get_or, slice_set, length}
use Rattle.chess.proofs.Common.{rules, arith, ap, ◌∙◌, ◌≡◌, None, index_of, cell_of, men_of-put}
use Rattle.chess.proofs.Common.{index_of-below, get_or-set_same, get_or-set_other}
use Rattle.chess.proofs.board.mailbox.MailboxBoard.put.Goals as goal

pub returns : goal.returns
returns c =
    let cells = c.args.self.now.cells in
    let at = c.index.ensures.place in
    let full : length cells ≡ 64 = search rules in
    let below = index_of-below c.args.square c.index.ensures.on_board in
    men_of-put (cell_of cells) (cell_of (slice_set cells c.index.result c.args.man)) c.args.square
    c.args.man
    c.index.ensures.on_board
    (ap (λ n. get_or (slice_set cells n c.args.man) (index_of c.args.square) None) at
    ∙ get_or-set_same cells (index_of c.args.square) c.args.man None (omega arith))
    (λ k less other. get_or-set_other cells c.index.result k c.args.man None (λ e. other (e ∙ at)))
