use Rattle.chess.proofs.Common.{index_of}
use Rattle.chess.proofs.board.SlideFacts.{slide_one}
use Rattle.chess.proofs.board.bits.slide.Goals as goal

pub returns : goal.returns
returns c =
    let words = c.args.words.now in
    let a = index_of c.args.from in
    let b = index_of c.args.to in
    let r = c.row.result in
    rw c.bitboard_of.ensures.bitboard (rw c.bitboard_of-2.ensures.bitboard (rw (← c.row.ensures.row)
    (slide_one words r a b c.told-words c.row.ensures.below)))
