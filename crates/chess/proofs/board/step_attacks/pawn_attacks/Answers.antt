use Rattle.chess.proofs.Common.{ap, ◌∙◌, step_bitboard, beside_bitboard}
use Rattle.chess.proofs.board.LeaperFacts.{pawn_attacks_of}
use Rattle.chess.proofs.board.step_attacks.pawn_attacks.Goals as goal

pub returns : goal.returns
returns c =
    pawn_attacks_of c.args.side c.args.square c.bitboard_of.result _ c.bitboard_of.ensures.on_board
    c.bitboard_of.ensures.bitboard
    (c.beside.ensures
    ∙ ap beside_bitboard (c.step.ensures.bitboard
    ∙ ap (λ way. step_bitboard way c.bitboard_of.result) c.forward.ensures))
