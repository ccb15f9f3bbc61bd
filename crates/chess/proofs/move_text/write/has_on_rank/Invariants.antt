use Rattle.chess.proofs.Common.{◌≡◌, ◌≤◌, ◌<◌, false, ℕ, is_in}
use Rattle.chess.proofs.move_text.write.has_on_rank.Given as goal

abbrev pub invariant-loop-file : goal.invariant-loop-file
invariant-loop-file l = (n : ℕ) → 1 ≤ n → n < l.file
    → is_in l.squares (record { file = n; rank = l.square.rank }) ≡ false
