-- Criteria that speak of no men and of no moves: the marks of a position tell whether it meets
-- them.
use Rattle.std.specs.Prelude.{◌≡◌, ◌↔◌, ◌⊎◌, ◌+◌, ◌==◌, ℕ, Bool, true, false, List, [], ◌∷◌, IsTrue}
use Rattle.std.specs.Int.{bit_at}
use Rattle.chess.specs.Public.Placements.{opposite}
use Rattle.chess.specs.Public.Positions.{State}
use Rattle.chess.specs.declared.board.man.Side.{Side}
use Rattle.chess.specs.declared.board.man.Side.TheVariants.{White, Black}
use Rattle.pgn_game.specs.Public.PlyCodes.{PlyCode, AreMarks, marks_number}
use Rattle.pgn_game.specs.Public.Replays.{Replay}
use Rattle.pgn_criteria.specs.Public.Meeting.{Heading, SomeHold}
use Rattle.pgn_criteria.specs.Public.Conditions.{Conditions}

-- the first of the four places of marks of a side to move
abbrev pub first_place : Side → ℕ
first_place White = 0
first_place Black = 4

-- the place of a position's marks among eight
abbrev pub place_of_marks : Side → Bool → Bool → ℕ
place_of_marks turn check stuck = first_place turn + marks_number check stuck

-- the set, a number of which each bit stands for one of the eight, has these marks
abbrev pub has_marks : ℕ → Side → Bool → Bool → Bool
has_marks set turn check stuck = bit_at set (place_of_marks turn check stuck) == 1

-- a position meets the criteria where the set has its marks, in whichever game with this heading it
-- stands
abbrev pub AreMetByMarks : ℕ → Heading → List Conditions → Type 0
AreMetByMarks set heading criteria =
    (P : State) (check stuck : Bool) → AreMarks P check stuck → (replay : Replay) (ply : ℕ)
    → IsTrue (has_marks set P.turn check stuck) ↔ SomeHold heading replay ply P criteria

-- the set has the marks after none of the plies that these codes tell, before which this side is to
-- move
abbrev pub NoneMeets : ℕ → Side → List PlyCode → Type 0
NoneMeets set turn [] = Unit {0}
NoneMeets set turn (c ∷ codes) = (has_marks set (opposite turn) c.check c.stuck ≡ false)
    × NoneMeets set (opposite turn) codes

-- it has the marks after one of them, and after the first such ply this side is to move and these
-- codes are left
abbrev pub IsNextMet : ℕ → Side → List PlyCode → Side → List PlyCode → Type 0
IsNextMet set turn [] side rest = ⊥
IsNextMet set turn (c ∷ codes) side rest =
    ((has_marks set (opposite turn) c.check c.stuck ≡ true) × (side ≡ opposite turn)
    × (rest ≡ codes))
    ⊎ ((has_marks set (opposite turn) c.check c.stuck ≡ false)
    × IsNextMet set (opposite turn) codes side rest)
