use Rattle.chess.proofs.Common.{arith, ap, not, ◌∙◌, ◌&&◌, Place, same_square, square_at, is_in}
use Rattle.chess.proofs.Common.{square_at-index_of}
use Rattle.chess.proofs.board.SetBits.{clear_bit}
use Rattle.chess.proofs.board.set.SquareSet.remove.Goals as goal

pub returns : goal.returns
returns c s =
    clear_bit c.self.inside.bitboard c.index.result s (omega (arith, c.index.ensures.below))
    ∙ ap (λ set. is_in set s && not (same_square s (square_at c.index.result))) c.self.view_is
    ∙ ap (λ n. is_in c.args.self.now s && not (same_square s (square_at n))) c.index.ensures.place
    ∙ ap (λ (t : Place). is_in c.args.self.now s
    && not (same_square s t)) (square_at-index_of c.args.square c.index.ensures.on_board)
