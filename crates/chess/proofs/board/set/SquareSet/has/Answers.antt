use Rattle.chess.proofs.Common.{sym, ap, ◌∙◌, nat_eq, is_in, has_bit, is_in-places_of, shr_and_one}
use Rattle.chess.proofs.board.set.SquareSet.has.Goals as goal

pub returns : goal.returns
returns c =
    ap (λ n. nat_eq n 1) (shr_and_one c.self.inside.bitboard c.index.result)
    ∙ ap (λ n. has_bit c.self.inside.bitboard n) c.index.ensures.place
    ∙ sym (is_in-places_of (has_bit c.self.inside.bitboard) c.args.square c.index.ensures.on_board)
    ∙ ap (λ set. is_in set c.args.square) c.self.view_is
