use Rattle.chess.proofs.FenFacts.{no_king, one_king}
use Rattle.chess.proofs.fen.read.validate.only_king.Goals as goal

pub returns-in_err-square : goal.returns-in_err-square
returns-in_err-square g c =
    rw c.from_residual.ensures
    (no_king (g.B.Board.men c.args.board.now) c.args.side c.squares_of-kings.result
    c.take_first.new.self c.take_first.result
    (g.met.B.Board.on_board c.args.board.now) c.squares_of-kings.ensures c.take_first.ensures
    c.in_err-square.was)

pub returns : goal.returns
returns g c =
    one_king (g.B.Board.men c.args.board.now) c.args.side c.squares_of-kings.result
    c.take_first.new.self c.take_first-2.new.self
    c.in_ok-square.square c.take_first-2.result c.is_some.result
    (g.met.B.Board.on_board c.args.board.now) c.squares_of-kings.ensures
    (rw c.in_ok-square.was at c.take_first.ensures)
    c.take_first-2.ensures c.is_some.ensures c.if-is_some.false
