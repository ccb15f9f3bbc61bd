-- What holds of every text, whatever reads it.
use Rattle.std.specs.Prelude.{◌≡◌, ◌↔◌, ◌⊎◌, ℕ, List, [], ◌∷◌, Option, Some, IsTrue}
use Rattle.chess.specs.Public.Squares.{Place, IsOnBoard}
use Rattle.chess.specs.Public.Placements.{Placement, AreOnBoard}
use Rattle.chess.specs.Public.Positions.{State}
use Rattle.chess.specs.Public.Moves.{after, IsPseudoLegal}
use Rattle.chess.specs.declared.moves.Move.{Move}
use Rattle.pgn_text.specs.Public.Games.{Item}
use Rattle.pgn_game.specs.Public.PlyCodes.{PlyCode, IsCode}
use Rattle.pgn_game.specs.Public.Replays.{Replay, IsReplay}
use Rattle.pgn_game.specs.declared.replays.replayer.Lines.{Lines}
use Rattle.pgn_criteria.specs.Public.Lines.{Accepts, IsRefused}
use Rattle.pgn_criteria.specs.Public.Meeting.{Heading, AllHold, Meets, is_turned}
use Rattle.pgn_criteria.specs.Public.Mirrors.{flipped_men, mirror}
use Rattle.pgn_criteria.specs.Public.Walks.{Sight, IsSightOf, stepped}
use Rattle.pgn_criteria.specs.Public.Conditions.{Conditions}
use Rattle.pgn_criteria.specs.declared.condition.PositionCondition.{PositionCondition}
use Rattle.pgn_criteria.specs.declared.parse.CriteriaError.TheVariants.{TooLong, Line, OutOfMemory}

-- an accepted text has one meaning
abbrev pub TextHasOneMeaning : Type 0
TextHasOneMeaning = (text : List ℕ) (first second : List Conditions) → Accepts text first
    → Accepts text second → first ≡ second

-- no text is both accepted and refused, and none is refused for two reasons or for two lines
abbrev pub TextHasOneAnswer : Type 0
TextHasOneAnswer =
    ((text : List ℕ) (alternatives : List Conditions) → Accepts text alternatives
    → IsRefused text TooLong → ⊥)
    × ((text : List ℕ) (alternatives : List Conditions) (number : ℕ) → Accepts text alternatives
    → IsRefused text (Line number) → ⊥)
    × ((text : List ℕ) (number : ℕ) → IsRefused text TooLong → IsRefused text (Line number) → ⊥)
    × ((text : List ℕ) (number other : ℕ) → IsRefused text (Line number)
    → IsRefused text (Line other) → number ≡ other)

-- where memory runs out, the text has no other fault: it is neither too long, nor is one of its
-- lines bad
abbrev pub MemoryIsTheOnlyFault : Type 0
MemoryIsTheOnlyFault =
    (text : List ℕ) → IsRefused text OutOfMemory
    → (IsRefused text TooLong → ⊥) × ((number : ℕ) → IsRefused text (Line number) → ⊥)

-- each position of a sound game meets criteria or does not
abbrev pub EachPositionMeetsOrDoesNot : Type 0
EachPositionMeetsOrDoesNot =
    (lines : Lines) (fen : Option (List ℕ)) (items : List Item) (replay : Replay)
    → IsReplay lines fen items replay
    → (heading : Heading) (alternatives : List Conditions) (plies : ℕ)
    → Meets heading replay plies alternatives ⊎ (Meets heading replay plies alternatives → ⊥)

-- men and the en passant square stand on the board
abbrev pub StandsOnBoard : State → Type 0
StandsOnBoard P = AreOnBoard P.men × ((s : Place) → P.en_passant ≡ Some s → IsOnBoard s)

-- the mirror of the mirror is the position itself, and so with the files turned twice
abbrev pub MirrorIsUndone : Type 0
MirrorIsUndone = (P : State) → StandsOnBoard P → mirror (mirror P) ≡ P

abbrev pub FlipIsUndone : Type 0
FlipIsUndone = (men : Placement) → AreOnBoard men → flipped_men (flipped_men men) ≡ men

-- all conditions have `either`
abbrev pub AreTurned : List (PositionCondition (List ℕ)) → Type 0
AreTurned [] = Unit {0}
AreTurned (condition ∷ more) = IsTrue (is_turned condition) × AreTurned more

-- where all conditions on positions are such, a position meets an alternative exactly where its
-- mirror does, with the same tags and moves
abbrev pub SidesAreAlike : Type 0
SidesAreAlike =
    (heading : Heading) (replay : Replay) (ply : ℕ) (P : State) (asked : Conditions)
    → StandsOnBoard P → AreTurned asked.positions
    → AllHold heading replay ply P asked ↔ AllHold heading replay ply (mirror P) asked

-- where a walk shows a position, a step by the code of a pseudo-legal move shows the position after
-- the move
abbrev pub StepShowsNextPosition : Type 0
StepShowsNextPosition =
    (P : State) (m : Move) (c : PlyCode) (s : Sight) → IsPseudoLegal P m → IsCode P m c
    → IsSightOf P s → IsSightOf (after P m) (stepped s c)
