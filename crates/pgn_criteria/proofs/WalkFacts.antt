-- What conditions say of what is seen of a position is what they say of the position; and a step by
-- the code of a move keeps that.
use Rattle.pgn_criteria.proofs.Common.{◌↔◌, ℕ, List, refl, sym, ap, subst, ◌∙◌, HasMove, Placement}
use Rattle.pgn_criteria.proofs.Common.{opposite, State, IsCheck, Side, moved, AllOfSeen}
use Rattle.pgn_criteria.proofs.Common.{PositionsHold, IsSeenOf, PositionCondition}
use Rattle.pgn_game.proofs.PlyCodeFacts.{moved_after}
use Rattle.pgn_criteria.specs.Public.Laws.{StepShowsNextPosition}
use Rattle.pgn_criteria.proofs.SeenFacts.{all_said, all_position}

-- a position is seen as it is
pub seen_itself : (P : State) → IsSeenOf P P.men P.turn (IsCheck P.men P.turn) (¬ HasMove P)
seen_itself P =
    record { men = refl; turn = refl; check = (λ h. h, λ h. h); stuck = (λ h. h, λ h. h) }

pub seen_said : (P : State) (men : Placement) (turn : Side) (Checked Stuck : Type 0)
    (conditions : List (PositionCondition (List ℕ))) → IsSeenOf P men turn Checked Stuck
    → AllOfSeen men turn Checked Stuck conditions ↔ PositionsHold P conditions
seen_said P men turn Checked Stuck conditions seen =
    let marks =
    all_said men turn Checked (IsCheck P.men P.turn) Stuck (¬ HasMove P) conditions seen.check
    seen.stuck in
    let there =
    subst (λ placed. AllOfSeen placed turn (IsCheck P.men P.turn) (¬ HasMove P) conditions
    ↔ PositionsHold P conditions) (sym seen.men)
    (subst (λ side. AllOfSeen P.men side (IsCheck P.men P.turn) (¬ HasMove P) conditions
    ↔ PositionsHold P conditions) (sym seen.turn) (all_position P conditions)) in
    (λ all. there.0 (marks.0 all), λ all. marks.1 (there.1 all))

-- after a step by the code of a move the position after it is seen
pub step_shows_next_position : StepShowsNextPosition
step_shows_next_position P m c s legal code seen = record {
  men = ap (λ men. moved men c) seen.men ∙ moved_after P m c legal code;
  turn = ap opposite seen.turn;
  check = code.marks.check;
  stuck = code.marks.stuck;
}
