use Rattle.chess.proofs.Common.{◌≡◌, ◌∙◌, bit_or, North, South, East, West}
use Rattle.chess.specs.Private.Bitboards.{two_steps_bitboard, beside_bitboard, upright_bitboard}
use Rattle.chess.proofs.board.LeaperFacts.{jumps_of}
use Rattle.chess.proofs.board.step_attacks.jumps.Goals as goal

pub returns : goal.returns
returns c =
    let here = c.bitboard_of-here.result in
    let far : bit_or c.two_steps.result c.two_steps-2.result
    ≡ bit_or (two_steps_bitboard North here) (two_steps_bitboard South here) =
    λ i. bit_or (c.two_steps.ensures i) (c.two_steps-2.ensures i) in
    let wide : bit_or c.two_steps-3.result c.two_steps-4.result
    ≡ bit_or (two_steps_bitboard East here) (two_steps_bitboard West here) =
    λ i. bit_or (c.two_steps-3.ensures i) (c.two_steps-4.ensures i) in
    jumps_of c.args.square here _ c.bitboard_of-here.ensures.on_board
    c.bitboard_of-here.ensures.bitboard
    (λ i. bit_or ((c.beside.ensures ∙ (λ j. beside_bitboard (far j))) i)
    ((c.upright.ensures ∙ (λ j. upright_bitboard (wide j))) i))
