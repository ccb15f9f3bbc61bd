use Rattle.pgn_criteria.proofs.Common.{◌≡◌, ◌↔◌, ◌++◌, ℕ, length, drop, map, State, Replay}
use Rattle.pgn_criteria.proofs.Common.{SomeHold, AllGood, on_plies}
use Rattle.pgn_criteria.proofs.meets.Criteria.watch_turns_of.Given as goal

abbrev pub invariant-loop-alternative : goal.invariant-loop-alternative
invariant-loop-alternative g l = record {
  good : AllGood (drop l.alternative-index l.alternative-items);
  kept : (replay : Replay) → length replay.played ≡ l.plies → (ply : ℕ) (P : State)
      → SomeHold (g.H.Headed.heading l.game) replay ply P
      (map (λ a. on_plies a.now) l.left.items
      ++ drop l.alternative-index l.alternative-items)
      ↔ SomeHold (g.H.Headed.heading l.game) replay ply P l.self;
}
