use Rattle.chess.proofs.Common.{◌∙◌, sym, has_bit, is_in-places_of, on_board-places_of}
use Rattle.chess.proofs.board.set.SquareSet.of_bitboard.Goals as goal

pub returns : goal.returns
returns c s =
    let bitboard = c.args.bitboard in (
      (λ e. let on = on_board-places_of (has_bit bitboard) s e in
          (on, sym (is_in-places_of (has_bit bitboard) s on) ∙ e)),
      (λ h. is_in-places_of (has_bit bitboard) s h.0 ∙ h.1),
    )
