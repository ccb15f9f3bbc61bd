use Rattle.pgn_criteria.proofs.Common.{◌≡◌, ◌↔◌, ◌⊎◌, ◌≤◌, ◌<◌, ℕ, get_or, false, IsTrue, IfSome}
use Rattle.pgn_criteria.proofs.Common.{FitsAt, FitsAbout, IsRun}
use Rattle.pgn_criteria.proofs.spans.add_plies.Given as goal

abbrev pub invariant-loop-ply : goal.invariant-loop-ply
invariant-loop-ply l = record {
  done : (k : ℕ) → k < l.ply → IsTrue (get_or l.met k false)
      ↔ (IsTrue (get_or l.initial.met k false) ⊎ FitsAbout l.replayed l.alternative k);
  left : (k : ℕ) → l.ply ≤ k → get_or l.met k false ≡ get_or l.initial.met k false;
  known : IfSome l.known (IsRun (FitsAt l.replayed l.alternative) l.ply);
}
