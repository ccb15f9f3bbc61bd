use Rattle.pgn_criteria.proofs.Common.{◌≡◌, ◌<◌, ◌⊎◌, true, Place, IsOnBoard, is_in}
use Rattle.pgn_criteria.proofs.layout.Layout.free.Given as goal

abbrev pub invariant-loop-rank : goal.invariant-loop-rank
invariant-loop-rank l = record {
  right : (s : Place) → is_in l.free s ≡ true → is_in l.self.empty s ≡ true → ⊥;
  all : (s : Place) → IsOnBoard s → s.rank < l.rank → (is_in l.self.empty s ≡ true → ⊥)
      → is_in l.free s ≡ true;
}

abbrev pub invariant-loop-file : goal.invariant-loop-file
invariant-loop-file l = record {
  right : (s : Place) → is_in l.free s ≡ true → is_in l.self.empty s ≡ true → ⊥;
  all : (s : Place) → IsOnBoard s → (s.rank < l.rank) ⊎ ((s.rank ≡ l.rank) × (s.file < l.file))
      → (is_in l.self.empty s ≡ true → ⊥) → is_in l.free s ≡ true;
}
