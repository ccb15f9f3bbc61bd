-- What is left of the old bits, and the new one where it comes.
use Rattle.pgn_game.proofs.Common.{◌≡◌, ◌&&◌}
use Rattle.chess.specs.Public.Sets.{has_bit}
use Rattle.pgn_game.proofs.openings.PawnSteps.{come_bit, none_bit, left_bits}
use Rattle.pgn_game.proofs.openings.pawns.bits_after.Goals.{then-comes, else-comes}
use Rattle.pgn_game.proofs.openings.pawns.bits_after.Goals as goal

pub returns : goal.returns
returns c i h =
    let own : has_bit c.if-comes.own i ≡ (c.args.comes && has_bit c.args.to i) =
    elim c.if-comes.branch [
      | then-comes w ↦ come_bit c.if-comes.own c.args.to i c.args.comes w.if-comes.true w.own-is
      | else-comes w ↦ none_bit c.if-comes.own c.args.to i c.args.comes w.if-comes.false w.own-is
    ] in
    left_bits c.if-comes.own c.args.old c.args.touched c.args.to i c.args.comes
    c.ranges.touched.fits h own
