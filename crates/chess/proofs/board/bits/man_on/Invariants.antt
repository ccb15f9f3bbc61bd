use Rattle.chess.proofs.Common.{◌≡◌, ◌<◌, ℕ, bit_and, bitboard_at}
use Rattle.chess.proofs.board.bits.man_on.Given as goal

abbrev pub invariant-loop-row : goal.invariant-loop-row
invariant-loop-row l = (k : ℕ) → k < l.row → bit_and (bitboard_at l.words k) l.bit ≡ 0
