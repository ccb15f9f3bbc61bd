use Rattle.pgn_criteria.proofs.Common.{◌↔◌, ◌++◌, ℕ, drop, map, State, SomeHold}
use Rattle.pgn_criteria.proofs.Common.{AllGood, EachAsksWithin, on_positions}
use Rattle.pgn_criteria.proofs.search.left_after.Given as goal

abbrev pub invariant-loop-alternative : goal.invariant-loop-alternative
invariant-loop-alternative g l = record {
  good : AllGood (drop l.alternative-index l.alternatives);
  still : (most : ℕ) × EachAsksWithin most (drop l.alternative-index l.alternatives);
  kept : (ply : ℕ) (P : State)
      → SomeHold (g.H.Headed.heading l.game) l.beginning ply P
      (map (λ a. on_positions a.now) l.left.items
      ++ drop l.alternative-index l.alternatives)
      ↔ SomeHold (g.H.Headed.heading l.game) l.beginning ply P l.alternatives;
}
