use Rattle.std.specs.Prelude.{get_or}
use Rattle.chess.proofs.Common.{sym, ap, ◌∙◌, None, cell_of, man_at-men_of}
use Rattle.chess.proofs.board.mailbox.Mailbox.man.Goals as goal

pub returns : goal.returns
returns c =
    ap (λ n. get_or c.args.self.now.cells n None) c.index-place.ensures.place
    ∙ sym (man_at-men_of (cell_of c.args.self.now.cells) c.args.square
    c.index-place.ensures.on_board)
