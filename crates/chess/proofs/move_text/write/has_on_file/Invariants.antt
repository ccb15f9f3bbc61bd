use Rattle.chess.proofs.Common.{◌≡◌, ◌≤◌, ◌<◌, false, ℕ, is_in}
use Rattle.chess.proofs.move_text.write.has_on_file.Given as goal

abbrev pub invariant-loop-rank : goal.invariant-loop-rank
invariant-loop-rank l = (n : ℕ) → 1 ≤ n → n < l.rank
    → is_in l.squares (record { file = l.square.file; rank = n }) ≡ false
