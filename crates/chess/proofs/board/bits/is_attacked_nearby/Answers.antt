use Rattle.chess.proofs.Common.{bit_or, King, Knight, Pawn}
use Rattle.chess.proofs.board.FillFacts.{either_bitboard}
use Rattle.chess.proofs.board.LeftFacts.{IsSeer, attack_nearby}
use Rattle.chess.proofs.board.bits.is_attacked_nearby.Goals as goal

pub returns : goal.returns
returns c p h =
    let side = c.args.side in
    let t = c.args.square in
    let near = bit_or c.seers-knights.result c.seers-kings.result in
    attack_nearby p side t (bit_or near c.seers-pawns.result) c.of_bitboard.result c.has_some.result
    (either_bitboard _ (IsSeer p side Pawn t) near c.seers-pawns.result
    (either_bitboard (IsSeer p side Knight t) (IsSeer p side King t) c.seers-knights.result
    c.seers-kings.result (c.seers-knights.ensures p h) (c.seers-kings.ensures p h))
    (c.seers-pawns.ensures p h)) c.of_bitboard.ensures c.has_some.ensures
