use Rattle.pgn_criteria.proofs.Common.{◌≡◌, ◌↔◌, ◌++◌, ℕ, length, drop, map, State, Replay}
use Rattle.pgn_criteria.proofs.Common.{SomeHold, AllGood}
use Rattle.pgn_criteria.specs.Private.Counted.{AskWords}
use Rattle.pgn_criteria.specs.Private.Stages.{AllOfGame, EachIs, FitTheSame}
use Rattle.pgn_criteria.proofs.meets.Criteria.left_of_begun.Given as goal

abbrev pub invariant-loop-alternative : goal.invariant-loop-alternative
invariant-loop-alternative g l = record {
  good : AllGood (drop l.alternative-index l.alternative-items);
  kept : (most : ℕ) (replay : Replay) → EachIs (AskWords most) l.self
      → length replay.played ≡ l.plies → FitTheSame most l.beginning replay
      → EachIs (AskWords most) (drop l.alternative-index l.alternative-items)
      × EachIs (AllOfGame (g.H.Headed.heading l.game) replay) (map (λ a. a.now) l.left.items)
      × ((ply : ℕ) (P : State) → SomeHold (g.H.Headed.heading l.game) replay ply P
      (map (λ a. a.now) l.left.items ++ drop l.alternative-index l.alternative-items)
      ↔ SomeHold (g.H.Headed.heading l.game) replay ply P l.self);
}
