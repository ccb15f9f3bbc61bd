use Rattle.pgn_criteria.proofs.Common.{◌≡◌, ◌<◌, ◌⊎◌, true, Place, IsOnBoard, is_in, beside}
use Rattle.pgn_criteria.proofs.layout.squares_beside.Given as goal

abbrev pub invariant-loop-rank : goal.invariant-loop-rank
invariant-loop-rank l = record {
  right : (s : Place) → is_in l.turned s ≡ true → IsOnBoard s × (is_in l.squares (beside s) ≡ true);
  all : (s : Place) → IsOnBoard s → s.rank < l.rank → is_in l.squares (beside s) ≡ true
      → is_in l.turned s ≡ true;
}

abbrev pub invariant-loop-file : goal.invariant-loop-file
invariant-loop-file l = record {
  right : (s : Place) → is_in l.turned s ≡ true → IsOnBoard s × (is_in l.squares (beside s) ≡ true);
  all : (s : Place) → IsOnBoard s → (s.rank < l.rank) ⊎ ((s.rank ≡ l.rank) × (s.file < l.file))
      → is_in l.squares (beside s) ≡ true → is_in l.turned s ≡ true;
}
