-- What conditions need of the marks of a position, check and no move, and of how many men there
-- are.
use Rattle.std.specs.Prelude.{◌≡◌, ◌↔◌, ◌⊎◌, ◌≤◌, ℕ, Bool, true, false, List, IsTrue}
use Rattle.chess.specs.Public.Moves.{HasMove}
use Rattle.chess.specs.Public.Placements.{Placement}
use Rattle.chess.specs.Public.Positions.{State, IsCheck}
use Rattle.chess.specs.declared.board.man.Side.{Side}
use Rattle.pgn_game.specs.Public.PlyCodes.{PlyCode}
use Rattle.pgn_criteria.specs.Public.ByMarks.{has_marks}
use Rattle.pgn_criteria.specs.Public.Materials.{Allows, FitsMaterial}
use Rattle.pgn_criteria.specs.Public.Meeting.{PositionsHold}
use Rattle.pgn_criteria.specs.Public.Walks.{IsSeenOf}
use Rattle.pgn_criteria.specs.declared.condition.PositionCondition.{PositionCondition}
use Rattle.pgn_criteria.specs.declared.condition.PositionClaim.{PositionClaim}
use Rattle.pgn_criteria.specs.declared.condition.PositionClaim.TheVariants.{Material, Check, Mate}
use Rattle.pgn_criteria.specs.declared.condition.PositionClaim.TheVariants.{Stalemate}
use Rattle.pgn_criteria.specs.declared.material.Limit.{Limit}
use Rattle.pgn_criteria.specs.declared.marks.Mark.{Mark}
use Rattle.pgn_criteria.specs.declared.marks.Mark.TheVariants as mark

-- this is seen of a position at which all conditions of an alternative hold, but for those on moves
abbrev pub FitsSeen : List (PositionCondition (List ℕ)) → Placement → Side → Type 0 → Type 0
    → Type 0
FitsSeen conditions men turn Checked Stuck =
    (P : State) × IsSeenOf P men turn Checked Stuck × PositionsHold P conditions

-- the mark is so of the position
abbrev pub IsMarked : Mark → State → Type 0
IsMarked mark.Check P = IsCheck P.men P.turn
IsMarked mark.Stuck P = ¬ HasMove P

-- the claim is so only where the mark is
abbrev pub asks_mark : Mark → PositionClaim (List ℕ) → Bool
asks_mark mark.Check Check = true
asks_mark mark.Check Mate = true
asks_mark mark.Stuck Mate = true
asks_mark mark.Stuck Stalemate = true
asks_mark other claim = false

-- the conditions hold only where the mark is so
abbrev pub NeedMark : Mark → List (PositionCondition (List ℕ)) → Type 0
NeedMark mark conditions = (P : State) → PositionsHold P conditions → IsMarked mark P

-- of the marks that are needed one is not that of the code
abbrev pub LacksMarks : Bool → Bool → PlyCode → Type 0
LacksMarks check stuck code =
    ¬ ((check ≡ true → code.check ≡ true) × (stuck ≡ true → code.stuck ≡ true))

-- the limit allows no number above this one
abbrev pub IsMost : Limit → ℕ → Type 0
IsMost limit most = (count : ℕ) → Allows limit count → count ≤ most

-- what a line `material` says of the men, or with `either` of them or of their mirror; no other
-- claim says anything of them here
abbrev pub SaysOfNumbers : Bool → PositionClaim (List ℕ) → Placement → Type 0
SaysOfNumbers either (Material white black) men =
    FitsMaterial men white black ⊎ ((either ≡ true) × FitsMaterial men black white)
SaysOfNumbers either claim men = Unit {0}

-- the set has the marks with which the fact is so
abbrev pub AreMarksOf : ℕ → (Side → Bool → Bool → Type 0) → Type 0
AreMarksOf set So = (turn : Side) (check stuck : Bool)
    → IsTrue (has_marks set turn check stuck) ↔ So turn check stuck

-- the set has marks only of positions in check, where that is asked, and only of those with no
-- move, where that is asked
abbrev pub Needs : Bool → Bool → ℕ → Type 0
Needs check stuck set =
    (check ≡ true → (turn : Side) (none : Bool) → has_marks set turn false none ≡ false)
    × (stuck ≡ true → (turn : Side) (attacked : Bool)
    → has_marks set turn attacked false ≡ false)
