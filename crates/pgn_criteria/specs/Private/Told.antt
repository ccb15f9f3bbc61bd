-- The plies at which conditions hold, told while a game is played.
use Rattle.std.specs.Prelude.{◌≡◌, ◌↔◌, ◌++◌, ◌<◌, ℕ, Bool, false, List, [], ◌∷◌, IsTrue}
use Rattle.std.specs.Prelude.{Option, Some, get_or, length, map}
use Rattle.std.specs.List.{slice_get}
use Rattle.chess.specs.Public.Positions.{State}
use Rattle.chess.specs.Public.Sets.{has_bit}
use Rattle.chess.specs.declared.moves.Move.{Move}
use Rattle.pgn_game.specs.Public.Replays.{Replay}
use Rattle.pgn_criteria.specs.Public.Conditions.{Conditions}
use Rattle.pgn_criteria.specs.Public.Meeting.{PositionsHold, Taken}
use Rattle.pgn_criteria.specs.Public.MoveTexts.{GoesOnBy, IsReachedBy}
use Rattle.pgn_criteria.specs.Public.Setups.{IsSetUp}
use Rattle.pgn_criteria.specs.Public.Turns.{HasLed}
use Rattle.pgn_criteria.specs.Private.Stages.{FitsAt}
use Rattle.pgn_criteria.specs.declared.condition.MoveClaim.{MoveClaim}
use Rattle.pgn_criteria.specs.declared.condition.MoveClaim.TheVariants.{Next, Played, Setup}
use Rattle.pgn_criteria.specs.declared.condition.Stated.{Stated}
use Rattle.pgn_criteria.specs.declared.played.About.{About}
use Rattle.pgn_criteria.specs.declared.played.About.TheVariants as about

-- the claim speaks of the position alone
abbrev pub IsSetup : MoveClaim (List ℕ) → Type 0
IsSetup (Setup setup) = Unit {0}
IsSetup claim = ⊥

-- at a ply this is the position, and the move that is played from there; or, of the move that led
-- to it, the position before and that move
abbrev pub IsAbout : About → Replay → ℕ → State → Option Move → Type 0
IsAbout about.Here replay ply P m = slice_get replay.positions ply ≡ Some P
IsAbout about.Next replay ply P m = (slice_get replay.positions ply ≡ Some P)
    × (slice_get replay.played ply ≡ m)
IsAbout about.Last replay ply P m = HasLed replay ply P m

-- what a condition says at a ply, if it speaks of that
abbrev pub SaysAbout : About → Replay → ℕ → Bool → MoveClaim (List ℕ) → Type 0
SaysAbout about.Here replay ply denied (Setup setup) = Taken denied (IsSetUp replay ply setup)
SaysAbout about.Next replay ply denied (Next word) = Taken denied (GoesOnBy replay ply word)
SaysAbout about.Last replay ply denied (Played word) = Taken denied (IsReachedBy replay ply word)
SaysAbout _ replay ply denied claim = Unit {0}

-- what all conditions say
abbrev pub AllAbout : About → Replay → ℕ → List (Stated (MoveClaim (List ℕ))) → Type 0
AllAbout one replay ply [] = Unit {0}
AllAbout one replay ply (first ∷ more) =
    SaysAbout one replay ply first.is_denied first.claim × AllAbout one replay ply more

-- what all conditions say of the moves after and before a ply
abbrev pub IsBeside : Replay → ℕ → List (Stated (MoveClaim (List ℕ))) → Type 0
IsBeside replay ply moves =
    AllAbout about.Next replay ply moves × AllAbout about.Last replay ply moves

-- at a ply the conditions fit, as far as they speak of its position and of the move that led to it
abbrev pub FitsBefore : Replay → Conditions → ℕ → Type 0
FitsBefore replay asked ply = (P : State) × (slice_get replay.positions ply ≡ Some P)
    × PositionsHold P asked.positions × AllAbout about.Here replay ply asked.moves
    × AllAbout about.Last replay ply asked.moves

-- the ply is told to be such
abbrev pub IsTold : List Bool → ℕ → Type 0
IsTold told ply = IsTrue (get_or told ply false)

-- those that are told are all that are such
abbrev pub AreTold : (ℕ → Type 0) → List Bool → Type 0
AreTold Such told = (ply : ℕ) → IsTold told ply ↔ Such ply

-- the replay begins with these positions and moves
abbrev pub StartsWith : List State → List Move → Replay → Type 0
StartsWith before played replay = (rest : List State) × (more : List Move)
    × (replay.positions ≡ before ++ rest) × (replay.played ≡ played ++ more)

-- of each such replay it is told at which of so many first plies the conditions fit
pub record AreToldOf (asked : Conditions) (count : ℕ) (Of : Replay → Type 0)
    (told : List Bool) : Type 0 where
  pub each : length told ≡ count
  pub exactly : (replay : Replay) → Of replay → (ply : ℕ) → ply < count
      → IsTold told ply ↔ FitsAt replay asked ply

-- whether each of the numbers has this bit
abbrev pub column : ℕ → List ℕ → List Bool
column place fits = map (λ n. has_bit n place) fits

-- the bits of a number are those of the ones that are such, in their order
abbrev pub AreBits : {A : Type 0} → List A → (A → Type 0) → ℕ → Type 0
AreBits {A} asked Such fits =
    (i : ℕ) (one : A) → slice_get asked i ≡ Some one → IsTrue (has_bit fits i) ↔ Such one

-- for each of them, in their order, the bits of the numbers are such
abbrev pub EachColumn : {A : Type 0} → List A → (A → List Bool → Type 0) → List ℕ → Type 0
EachColumn {A} asked Such fits =
    (i : ℕ) (one : A) → slice_get asked i ≡ Some one → Such one (column i fits)
