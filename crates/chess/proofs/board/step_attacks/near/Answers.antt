use Rattle.chess.proofs.Common.{ap, ◌∙◌, bit_or, bit_xor, upright_bitboard}
use Rattle.chess.proofs.board.LeaperFacts.{near_of}
use Rattle.chess.proofs.board.step_attacks.near.Goals as goal

pub returns : goal.returns
returns c =
    let here = c.bitboard_of-here.result in
    let row = ap (bit_or here) c.beside.ensures in
    near_of c.args.square here _ c.bitboard_of-here.ensures.on_board
    c.bitboard_of-here.ensures.bitboard
    (λ i. bit_xor (bit_or (row i) ((c.upright.ensures ∙ ap upright_bitboard row) i)) here)
