use Rattle.pgn_extract.proofs.Common.{◌≡◌, ◌≤◌, ℕ, false, length}
use Rattle.std.specs.Prelude.{get_or}
use Rattle.pgn_extract.proofs.entries.played.end_met.Given as goal

abbrev pub invariant-loop-end : goal.invariant-loop-end
invariant-loop-end l = record {
  within : l.end ≤ length l.met.items;
  none : (k : ℕ) → l.end ≤ k → get_or l.met.items k false ≡ false;
}

abbrev pub decreases-loop-end : goal.decreases-loop-end
decreases-loop-end l = l.end
