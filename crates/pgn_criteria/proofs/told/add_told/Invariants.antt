use Rattle.pgn_criteria.proofs.Common.{◌≡◌, ◌↔◌, ◌⊎◌, ◌<◌, ◌≤◌, ℕ, false, get_or, IsTrue}
use Rattle.pgn_criteria.specs.Private.Told.{IsTold}
use Rattle.pgn_criteria.proofs.told.add_told.Given as goal

abbrev pub invariant-loop-ply : goal.invariant-loop-ply
invariant-loop-ply l = record {
  left : (k : ℕ) → l.ply ≤ k → get_or l.met k false ≡ get_or l.initial.met k false;
  done : (k : ℕ) → k < l.ply → IsTrue (get_or l.met k false)
      ↔ (IsTrue (get_or l.initial.met k false) ⊎ IsTold l.told k);
}
