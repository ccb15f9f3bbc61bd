use Rattle.chess.proofs.Common.{ap, ◌∙◌, size_of}
use Rattle.chess.proofs.board.SizeFacts.{ones-size}
use Rattle.chess.proofs.board.set.SquareSet.count.Goals as goal

pub returns : goal.returns
returns c = ones-size c.self.inside.bitboard c.self.invariant ∙ ap size_of c.self.view_is
