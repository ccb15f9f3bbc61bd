use Rattle.pgn_criteria.proofs.Common.{◌↔◌, ◌⊎◌, ℕ, Bool, IsTrue, drop, State, AreMarks, Replay}
use Rattle.pgn_criteria.proofs.Common.{has_marks, SomeHold, AllGood}
use Rattle.pgn_criteria.proofs.meets.Criteria.marks_of_heading.Given as goal

abbrev pub invariant-loop-alternative : goal.invariant-loop-alternative
invariant-loop-alternative g l = record {
  good : AllGood (drop l.alternative-index l.alternative-items);
  held : (P : State) (check stuck : Bool) → AreMarks P check stuck → (replay : Replay) (ply : ℕ)
      → (IsTrue (has_marks l.flags P.turn check stuck)
      ⊎ SomeHold (g.H.Headed.heading l.game) replay ply P
      (drop l.alternative-index l.alternative-items))
      ↔ SomeHold (g.H.Headed.heading l.game) replay ply P l.self;
}
