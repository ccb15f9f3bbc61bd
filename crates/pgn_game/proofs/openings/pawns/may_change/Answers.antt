-- No pawn comes and no king castles, and no square of the ply has a pawn.
use Rattle.pgn_game.proofs.Common.{◌≡◌, Bool, true, false, not, refl, get_or, eqb-true}
use Rattle.std.proofs.Common.{bit_and, bit_or}
use Rattle.pgn_game.proofs.openings.PawnSteps.{pawns_stay}
use Rattle.pgn_game.proofs.openings.pawns.may_change.Goals as goal

so : (b : Bool) → not b ≡ false → b ≡ true
so true e = refl
so false e = absurd (cc)

pub returns-else-number-ge11 : goal.returns-else-number-ge11
returns-else-number-ge11 c none men have =
    pawns_stay men c.args.a c.args.b c.args.d c.ply_bits.result c.args.pawns
    c.if-number-ge11.false.0 c.if-number-ge11.false.1 c.ply_bits.ensures
    (eqb-true (bit_and c.ply_bits.result
    (bit_or (get_or c.args.pawns 0 0) (get_or c.args.pawns 1 0))) 0 (so _ none)) have
