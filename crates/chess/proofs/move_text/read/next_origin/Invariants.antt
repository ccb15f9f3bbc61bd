use Rattle.chess.proofs.Common.{◌≡◌, true, is_in, size_of, CanGoSaid, said_by, IsLeft}
use Rattle.chess.proofs.move_text.read.next_origin.Given as goal

abbrev pub invariant-loop-from : goal.invariant-loop-from
invariant-loop-from g l =
    IsLeft (λ s. is_in l.fn.squares s ≡ true) (λ s. (is_in l.fn.squares s ≡ true)
    × CanGoSaid l.position (said_by l.said) s) l.left

abbrev pub decreases-loop-from : goal.decreases-loop-from
decreases-loop-from g l = size_of l.left
