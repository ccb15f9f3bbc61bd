use Rattle.pgn_criteria.proofs.Common.{◌↔◌, ◌++◌, ℕ, drop, map, State, Replay, SomeHold, AllGood}
use Rattle.pgn_criteria.proofs.Common.{on_positions}
use Rattle.pgn_criteria.proofs.meets.Criteria.watch_heading.Given as goal

abbrev pub invariant-loop-alternative : goal.invariant-loop-alternative
invariant-loop-alternative g l = record {
  good : AllGood (drop l.alternative-index l.alternative-items);
  kept : (replay : Replay) (ply : ℕ) (P : State) → SomeHold (g.H.Headed.heading l.game) replay ply P
      (map (λ a. on_positions a.now) l.left.items
      ++ drop l.alternative-index l.alternative-items)
      ↔ SomeHold (g.H.Headed.heading l.game) replay ply P l.self;
}
