use Rattle.std.proofs.Common.{arith}
use Rattle.chess.proofs.RankFacts.{step_byte, letter_byte}
use Rattle.chess.proofs.fen.read.ranks.squares_spelled.Goals as goal

pub returns-then-byte-le56 : goal.returns-then-byte-le56
returns-then-byte-le56 c = step_byte c.args.byte (omega arith) (omega arith)

pub returns : goal.returns
returns c = letter_byte c.args.byte c.in_ok-man_of.field-0 c.in_ok-man_of.ensures
