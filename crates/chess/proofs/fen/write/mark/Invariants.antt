use Rattle.chess.specs.Public.Sets.{size_of}
use Rattle.chess.proofs.MarkFacts.{IsMarked}
use Rattle.chess.proofs.fen.write.mark.Given as goal

abbrev pub invariant-loop-square : goal.invariant-loop-square
invariant-loop-square l = IsMarked l.letter l.initial.letters l.fn.squares l.left l.letters

abbrev pub decreases-loop-square : goal.decreases-loop-square
decreases-loop-square l = size_of l.left
