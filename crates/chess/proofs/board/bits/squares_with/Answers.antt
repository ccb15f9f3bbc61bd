use Rattle.chess.proofs.BitFacts.{bitboard_of_man}
use Rattle.chess.proofs.board.bits.squares_with.Goals as goal

pub returns : goal.returns
returns c =
    let words = c.args.words.now in
    rw c.row.ensures.row (bitboard_of_man words (record { side = c.args.side; kind = c.args.kind })
    c.requires)
