use Rattle.std.proofs.Common.{arith, refl}
use Rattle.chess.proofs.RankFacts.{put_more, put_all}
use Rattle.chess.proofs.fen.read.ranks.put_row.Goals as goal

pub loop-index-preserved : goal.loop-index-preserved
loop-index-preserved g c =
    put_more (g.B.Board.men c.args.board.now) (g.B.Board.men c.loop-index.board)
    (g.B.Board.men c.put.new.self) c.args.squares.now c.args.rank c.loop-index.index
    c.at.result _ c.loop-index.invariant c.put.ensures c.at.ensures.square refl

pub returns-clause-row : goal.returns-clause-row
returns-clause-row g c =
    put_all (g.B.Board.men c.args.board.now) (g.B.Board.men c.loop-index.board) c.args.squares.now
    c.args.rank c.loop-index.index
    c.loop-index.invariant (omega arith) c.told-squares
