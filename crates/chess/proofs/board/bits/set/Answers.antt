use Rattle.chess.proofs.Common.{index_of}
use Rattle.chess.proofs.BitFacts.{set_one}
use Rattle.chess.proofs.board.bits.set.Goals as goal

pub returns : goal.returns
returns c =
    let words = c.args.words.now in
    let at = index_of c.args.square in
    rw c.bitboard_of.ensures.bitboard (rw (← c.row.ensures.row) (set_one words c.row.result at
    c.told-words c.row.ensures.below))
