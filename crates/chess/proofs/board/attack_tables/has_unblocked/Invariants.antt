use Rattle.chess.proofs.Common.{◌≡◌, true, index_of, size_of, has_bit, IsLeft}
use Rattle.chess.proofs.board.AttackerFacts.{IsOpenFrom}
use Rattle.chess.proofs.board.attack_tables.has_unblocked.Given as goal

abbrev pub invariant-loop-square : goal.invariant-loop-square
invariant-loop-square l =
    IsLeft (λ s. has_bit l.squares (index_of s)
    ≡ true) (IsOpenFrom l.target l.squares l.occupied) l.left

abbrev pub decreases-loop-square : goal.decreases-loop-square
decreases-loop-square l = size_of l.left
