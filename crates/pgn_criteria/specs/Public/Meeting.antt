-- Which positions of a game's main line meet criteria. Criteria are alternatives, each a list of
-- conditions.
use Rattle.std.specs.Prelude.{◌≡◌, ◌↔◌, ◌⊎◌, ◌+◌, ◌≤◌, ◌<◌, ◌&&◌, if◌then◌else◌, ℕ, Bool, true}
use Rattle.std.specs.Prelude.{false, List, [], ◌∷◌, length, Option, Some, None, IsTrue}
use Rattle.std.specs.List.{slice_get}
use Rattle.chess.specs.Public.Fen.{parted_at}
use Rattle.chess.specs.Public.Positions.{State, IsCheck}
use Rattle.chess.specs.Public.Moves.{IsMate, IsStalemate}
use Rattle.chess.specs.Public.Placements.{Placement}
use Rattle.chess.specs.declared.board.man.Side.{Side}
use Rattle.pgn_text.specs.Public.GameTexts.{GameText, tag_in}
use Rattle.pgn_game.specs.Public.Replays.{Replay}
use Rattle.pgn_criteria.specs.Public.Patterns.{FitsPattern}
use Rattle.pgn_criteria.specs.Public.Materials.{FitsMaterial}
use Rattle.pgn_criteria.specs.Public.Mirrors.{mirror, FitsEitherWay, can_be_mirrored}
use Rattle.pgn_criteria.specs.Public.MoveTexts.{FitMoves, GoesOnBy, IsReachedBy}
use Rattle.pgn_criteria.specs.Public.Setups.{IsSetUp}
use Rattle.pgn_criteria.specs.Public.Words.{words_of}
use Rattle.pgn_criteria.specs.Public.Comparing.{Stands, Compares, IsNumber}
use Rattle.pgn_criteria.specs.Public.Dates.{IsDate}
use Rattle.pgn_criteria.specs.Public.Conditions.{Conditions}
use Rattle.pgn_criteria.specs.declared.condition.Stated.{Stated}
use Rattle.pgn_criteria.specs.declared.condition.ValueClaim.{ValueClaim}
use Rattle.pgn_criteria.specs.declared.condition.ValueClaim.TheVariants.{Text, Number, Date}
use Rattle.pgn_criteria.specs.declared.condition.GameClaim.{GameClaim}
use Rattle.pgn_criteria.specs.declared.condition.GameClaim.TheVariants.{Tag, Moves, Plies, Result}
use Rattle.pgn_criteria.specs.declared.condition.PositionCondition.{PositionCondition}
use Rattle.pgn_criteria.specs.declared.condition.PositionClaim.{PositionClaim}
use Rattle.pgn_criteria.specs.declared.condition.PositionClaim.TheVariants.{Fen, Flip, Material}
use Rattle.pgn_criteria.specs.declared.condition.PositionClaim.TheVariants.{Turn, Check, Mate}
use Rattle.pgn_criteria.specs.declared.condition.PositionClaim.TheVariants.{Stalemate}
use Rattle.pgn_criteria.specs.declared.condition.MoveClaim.{MoveClaim}
use Rattle.pgn_criteria.specs.declared.condition.MoveClaim.TheVariants.{Next, Played, Setup}
use Rattle.pgn_criteria.specs.declared.condition.SpanClaim.{SpanClaim}
use Rattle.pgn_criteria.specs.declared.condition.SpanClaim.TheVariants.{For, Count}

-- what stands about the moves of a game: for a name, the contents of the string of the first tag
-- with it, if the game has one; and its result
pub record Heading : Type 0 where
  pub named : List ℕ → Option (List ℕ)
  pub result : List ℕ

-- the heading of a game
abbrev pub heading_of : GameText → Heading
heading_of game = record { named = λ name. tag_in name game.tags; result = game.result }

-- the claim is so of the value of a string with these contents
abbrev pub IsSoOfValue : List ℕ → ValueClaim (List ℕ) → Type 0
IsSoOfValue given (Text relation contents) = Stands relation given contents
IsSoOfValue given (Number comparison number) = IsNumber comparison given number
IsSoOfValue given (Date comparison days) = IsDate comparison given days

-- the game has a tag with the name, and the claim is so of its value
abbrev pub HasTag : Heading → ValueClaim (List ℕ) → List ℕ → Type 0
HasTag heading claim name =
    (given : List ℕ) × (heading.named name ≡ Some given) × IsSoOfValue given claim

-- so it is with one of these names
abbrev pub HasOneOf : Heading → ValueClaim (List ℕ) → List (List ℕ) → Type 0
HasOneOf heading claim [] = ⊥
HasOneOf heading claim (name ∷ more) = HasTag heading claim name ⊎ HasOneOf heading claim more

-- the claim is so of a game with this heading and this main line. A missing tag stands in no
-- relation
abbrev pub IsSoOfGame : Heading → Replay → GameClaim (List ℕ) → Type 0
IsSoOfGame heading replay (Tag names value) = HasOneOf heading value (parted_at 124 names)
IsSoOfGame heading replay (Moves words) = FitMoves replay 0 (words_of words)
IsSoOfGame heading replay (Plies comparison count) =
    Compares comparison (length replay.played) count
IsSoOfGame heading replay (Result result) = heading.result ≡ result

-- the claim is so of the moves before and after so many plies, or of the position between them
abbrev pub IsSoOfMoves : Replay → ℕ → MoveClaim (List ℕ) → Type 0
IsSoOfMoves replay ply (Next word) = GoesOnBy replay ply word
IsSoOfMoves replay ply (Played word) = IsReachedBy replay ply word
IsSoOfMoves replay ply (Setup setup) = IsSetUp replay ply setup

-- the claim is so of a position with these men and this side to move, where these facts say that
-- the side is in check, that it is mated, and that it is stalemated
abbrev pub IsSoOf : Placement → Side → Type 0 → Type 0 → Type 0 → PositionClaim (List ℕ) → Type 0
IsSoOf men turn Checked Mated Stalemated (Fen pattern) = FitsPattern men pattern
IsSoOf men turn Checked Mated Stalemated (Flip pattern) = FitsEitherWay men pattern
IsSoOf men turn Checked Mated Stalemated (Material white black) = FitsMaterial men white black
IsSoOf men turn Checked Mated Stalemated (Turn side) = turn ≡ side
IsSoOf men turn Checked Mated Stalemated Check = Checked
IsSoOf men turn Checked Mated Stalemated Mate = Mated
IsSoOf men turn Checked Mated Stalemated Stalemate = Stalemated

-- the claim is so of the position
abbrev pub IsSoAt : State → PositionClaim (List ℕ) → Type 0
IsSoAt P claim = IsSoOf P.men P.turn (IsCheck P.men P.turn) (IsMate P) (IsStalemate P) claim

-- the fact, or where it is denied, that it is not so
abbrev pub Taken : Bool → Type 0 → Type 0
Taken false fact = fact
Taken true fact = fact → ⊥

-- each claim is so, or is not so where it is denied. So a denied claim on a tag holds where the tag
-- is missing
abbrev pub AllTaken : {C : Type 0} → (C → Type 0) → List (Stated C) → Type 0
AllTaken So [] = Unit {0}
AllTaken So (one ∷ more) = Taken one.is_denied (So one.claim) × AllTaken So more

-- the condition on a position holds there
abbrev pub Holds : State → PositionCondition (List ℕ) → Type 0
Holds P condition = Taken condition.is_denied (IsSoAt P condition.claim)

-- the condition has `either`, as those of which the claim can be made of the mirror may
abbrev pub is_turned : PositionCondition (List ℕ) → Bool
is_turned condition = condition.is_either && can_be_mirrored condition.claim

-- each condition holds at the position, or where it has `either`, at the other one
abbrev pub EachHold : State → State → List (PositionCondition (List ℕ)) → Type 0
EachHold P other [] = Unit {0}
EachHold P other (condition ∷ more) = Holds (if is_turned condition then other else P) condition
    × EachHold P other more

-- all conditions on positions hold as they stand, or with all that have `either` tried at the
-- mirror
abbrev pub PositionsHold : State → List (PositionCondition (List ℕ)) → Type 0
PositionsHold P conditions = EachHold P P conditions ⊎ EachHold P (mirror P) conditions

-- all conditions hold of a game with this heading and this main line, after so many plies of it, at
-- this position; where there are none, they do
abbrev pub AllHold : Heading → Replay → ℕ → State → Conditions → Type 0
AllHold heading replay ply P asked =
    AllTaken (IsSoOfGame heading replay) asked.games × AllTaken (IsSoOfMoves replay ply) asked.moves
    × PositionsHold P asked.positions

-- the main line has a position after so many plies, and all conditions of the alternative hold
-- there
abbrev pub HoldsThere : Heading → Replay → Conditions → ℕ → Type 0
HoldsThere heading replay alternative ply =
    (P : State) × (slice_get replay.positions ply ≡ Some P)
    × AllHold heading replay ply P alternative

-- the plies ascend, and the first is this number or a greater one
abbrev pub Ascend : ℕ → List ℕ → Type 0
Ascend least [] = Unit {0}
Ascend least (ply ∷ more) = (least ≤ ply) × Ascend (ply + 1) more

-- the ply is one of these
abbrev pub IsAmong : ℕ → List ℕ → Type 0
IsAmong ply [] = ⊥
IsAmong ply (first ∷ more) = (ply ≡ first) ⊎ IsAmong ply more

-- the plies are all that are such, in ascending order
pub record AreAll (Such : ℕ → Type 0) (plies : List ℕ) : Type 0 where
  pub ascend : Ascend 0 plies
  pub exactly : (ply : ℕ) → IsAmong ply plies ↔ Such ply

-- where the plies at which the other conditions hold are such: `for N` says that this ply and the N
-- - 1 after it are; `count`, how many are
abbrev pub SpanHolds : (ℕ → Type 0) → ℕ → SpanClaim → Type 0
SpanHolds Such ply (For count) = (i : ℕ) → i < count → Such (ply + i)
SpanHolds Such ply (Count comparison count) =
    (plies : List ℕ) × AreAll Such plies × Compares comparison (length plies) count

-- what each of them says is so
abbrev pub SpansHold : (ℕ → Type 0) → ℕ → List SpanClaim → Type 0
SpansHold Such ply [] = Unit {0}
SpansHold Such ply (claim ∷ more) = SpanHolds Such ply claim × SpansHold Such ply more

-- the alternative is met: its conditions hold at the position, and what its `for` and `count` say
-- of the plies at which they hold is so
abbrev pub IsMetBy : Heading → Replay → ℕ → State → Conditions → Type 0
IsMetBy heading replay ply P asked = AllHold heading replay ply P asked
    × SpansHold (HoldsThere heading replay asked) ply asked.spans

-- some alternative is met
abbrev pub SomeHold : Heading → Replay → ℕ → State → List Conditions → Type 0
SomeHold heading replay ply P [] = ⊥
SomeHold heading replay ply P (alternative ∷ more) =
    IsMetBy heading replay ply P alternative ⊎ SomeHold heading replay ply P more

-- the main line has a position after so many plies, and it meets the criteria
pub record Meets (heading : Heading) (replay : Replay) (plies : ℕ)
    (alternatives : List Conditions) : Type 0 where
  pub position : State
  pub here : slice_get replay.positions plies ≡ Some position
  pub hold : SomeHold heading replay plies position alternatives

-- there is one answer for each ply of the main line, from 0 on: whether its position meets the
-- criteria
pub record AreMet (heading : Heading) (replay : Replay) (criteria : List Conditions)
    (met : List Bool) : Type 0 where
  pub each : length met ≡ length replay.positions
  pub reports : (ply : ℕ) (is : Bool) → slice_get met ply ≡ Some is
      → IsTrue is ↔ Meets heading replay ply criteria

-- the least number from min to max, both included, that has the fact, or none where none has
abbrev pub IsFirst : (ℕ → Type 0) → ℕ → ℕ → Option ℕ → Type 0
IsFirst fact min max None = (n : ℕ) → min ≤ n → n ≤ max → fact n → ⊥
IsFirst fact min max (Some n) = (min ≤ n) × (n ≤ max) × fact n
    × ((m : ℕ) → min ≤ m → m < n → fact m → ⊥)
