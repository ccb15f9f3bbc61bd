use Rattle.chess.specs.Shared.SetFacts.{empty_bitboard}
use Rattle.chess.proofs.board.set.SquareSet.new.Goals as goal

pub returns : goal.returns
returns c = empty_bitboard
