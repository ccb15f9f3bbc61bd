-- Each side's bitboard is that of its pawns after the ply.
use Rattle.pgn_game.proofs.Common.{◌<◌, ◌+◌, ◌*◌, ◌/◌, arith, refl, White, Black, get_or}
use Rattle.pgn_game.proofs.openings.PawnSteps.{side_after, white_pawn, black_pawn}
use Rattle.pgn_game.proofs.openings.pawns.pawns_after.Goals as goal

pub returns-clause-moved : goal.returns-clause-moved
returns-clause-moved c men have =
    let below : c.args.b / 64 + 4 * (c.args.d / 64) < 16 = omega arith in
    record {
      white = side_after White men c.args.a c.args.b c.args.d (get_or c.args.pawns 0 0)
          c.bits_after.result c.touched_bits-touched.result c.square_bit-to.result _ below
          (white_pawn _ below) c.square_bit-to.ensures c.touched_bits-touched.ensures
          c.bits_after.ensures have.white;
      black = side_after Black men c.args.a c.args.b c.args.d (get_or c.args.pawns 1 0)
          c.bits_after-2.result c.touched_bits-touched.result c.square_bit-to.result _ below
          (black_pawn _ below) c.square_bit-to.ensures c.touched_bits-touched.ensures
          c.bits_after-2.ensures have.black;
    }

pub returns-clause-pair : goal.returns-clause-pair
returns-clause-pair c = record {
  size = refl;
  white_fit = c.bits_after.type_inv;
  black_fit = c.bits_after-2.type_inv;
}
