use Rattle.chess.proofs.Common.{◌≡◌, ◌+◌, ◌-◌, ◌*◌, ◌≤◌, ◌++◌, length, Placement, joined}
use Rattle.chess.proofs.Common.{rank_texts, each_after, AreLetters}
use Rattle.chess.proofs.fen.write.push_ranks.Given as goal

abbrev pub invariant-loop-step : goal.invariant-loop-step
invariant-loop-step l = record {
  text : (p : Placement) → AreLetters p l.letters
      → l.out.bytes ++ each_after 47 (rank_texts p (8 - l.step))
      ≡ l.fn.out.bytes ++ joined 47 (rank_texts p 8);
  short : length l.out.bytes + 1 ≤ length l.fn.out.bytes + 9 * l.step;
  within : (1 ≤ l.step) × (l.step ≤ 8);
}
