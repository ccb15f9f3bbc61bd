use Rattle.chess.proofs.Common.{◌<◌, ◌^◌, w64, bit_or, bit_not}
use Rattle.chess.proofs.Common.{or_lt, on_board-men_of}
use Rattle.chess.proofs.Common.{words_men, man_in}
use Rattle.chess.proofs.board.LeftFacts.{moved_so, IsGone, gone_bitboard, rest_bitboard, left_then}
use Rattle.chess.proofs.board.LeftFacts.{men_then}
use Rattle.chess.proofs.board.bits.BitsBoard.attacked_after.Goals as goal

pub returns : goal.returns
returns c =
    let men = words_men c.args.self.now.words in
    let from = c.args.from in
    let capture_square = c.args.capture_square in
    let to = c.args.to in
    let gone = bit_or (bit_or c.bitboard_of.result c.bitboard_of-2.result) c.bitboard_of-3.result in
    let fits : gone < 2 ^ 64 =
    or_lt 64 (bit_or c.bitboard_of.result c.bitboard_of-2.result) c.bitboard_of-3.result
    (or_lt 64 c.bitboard_of.result c.bitboard_of-2.result c.bitboard_of.type_inv
    c.bitboard_of-2.type_inv)
    c.bitboard_of-3.type_inv in
    let left =
    rest_bitboard (IsGone from capture_square to) gone fits
    (gone_bitboard from capture_square to c.bitboard_of.result c.bitboard_of-2.result
    c.bitboard_of-3.result
    c.bitboard_of-2.ensures.on_board c.bitboard_of.ensures.on_board
    c.bitboard_of-3.ensures.on_board c.bitboard_of.ensures.bitboard c.bitboard_of-2.ensures.bitboard
    c.bitboard_of-3.ensures.bitboard) in
    let rest = bit_not w64 gone in
    let p = moved_so men c.args.man from capture_square to in
    rw (← c.opposite.ensures) (c.is_attacked.ensures p (rw c.opposite.ensures (left_then men
    c.args.man from capture_square to rest (on_board-men_of (man_in c.args.self.now.words))
    c.bitboard_of-3.ensures.on_board left)) (rw c.bitboard_of-4.ensures.bitboard (men_then men
    c.args.man from capture_square to rest c.occupied.result c.bitboard_of-3.ensures.on_board left
    c.occupied.ensures)))
