use Rattle.chess.proofs.Common.{◌∙◌, sym, ap, is_in, has_bit, is_in-places_of}
use Rattle.chess.proofs.board.set.SquareSet.bitboard.Goals as goal

pub returns : goal.returns
returns c s on = sym (is_in-places_of (has_bit c.self.inside.bitboard) s on)
    ∙ ap (λ set. is_in set s) c.self.view_is
