-- What holds of every text in FEN and of the text of every move, whatever writes and reads it.
use Rattle.std.specs.Prelude.{◌≡◌, ◌≢◌, ◌⊎◌, ◌↔◌, ◌≤◌, ℕ, List}
use Rattle.chess.specs.Public.Placements.{AreOnBoard}
use Rattle.chess.specs.Public.Positions.{State, IsSound}
use Rattle.chess.specs.Public.Moves.{IsLegal, after}
use Rattle.chess.specs.Public.Start.{initial, IsInitial}
use Rattle.chess.specs.Public.San.{IsSan, IsNamed, IsOnlyNamed}
use Rattle.chess.specs.Public.Refusals.{IsRefusal}
use Rattle.chess.specs.Public.Fen.{SpellsPosition, ReadsFen, IsRefused, IsFen}
use Rattle.chess.specs.Public.Keys.{IsSamePosition, IsKey, ArePawns}
use Rattle.chess.specs.declared.fen.FenError.{FenError}
use Rattle.chess.specs.declared.move_text.refusal.Refusal.{Refusal}
use Rattle.chess.specs.declared.moves.Move.{Move}

-- a text spells at most one position
abbrev pub TextSpellsOnePosition : Type 0
TextSpellsOnePosition = (x : List ℕ) (P Q : State) → SpellsPosition x P → SpellsPosition x Q → P ≡ Q

-- no text is both read and refused, and none is refused for two reasons
abbrev pub TextHasOneAnswer : Type 0
TextHasOneAnswer =
    ((x : List ℕ) (P : State) (error : FenError) → ReadsFen x P → IsRefused x error → ⊥)
    × ((x : List ℕ) (error other : FenError) → IsRefused x error → IsRefused x other
    → error ≡ other)

-- a text that spells a position is read as it exactly where the position is sound
abbrev pub SoundPositionsAreRead : Type 0
SoundPositionsAreRead = (x : List ℕ) (P : State) → SpellsPosition x P → IsSound P ↔ ReadsFen x P

-- the text of a sound position is read back as that position, where its two counts have seven
-- digits at most
abbrev pub FenIsReadBack : Type 0
FenIsReadBack = (P : State) (x : List ℕ) → IsSound P → P.halfmove_clock ≤ 9999999
    → P.fullmove_number ≤ 9999999 → IsFen P x → ReadsFen x P

-- a position has at most one text
abbrev pub PositionHasOneText : Type 0
PositionHasOneText = (P : State) (x y : List ℕ) → IsFen P x → IsFen P y → x ≡ y

-- and it has one
abbrev pub EachPositionHasAText : Type 0
EachPositionHasAText = (P : State) → (x : List ℕ) × IsFen P x

-- the position that is made square by square is the initial one, and there is no other
abbrev pub InitialPositionIsOne : Type 0
InitialPositionIsOne = IsInitial initial × ((P : State) → IsInitial P → P ≡ initial)

-- the initial position is sound, and so is each position after a legal move from a sound one
abbrev pub InitialPositionIsSound : Type 0
InitialPositionIsSound = IsSound initial

abbrev pub MovesKeepPositionsSound : Type 0
MovesKeepPositionsSound = (P : State) (m : Move) → IsSound P → IsLegal P m → IsSound (after P m)

-- in a sound position the standard text of a legal move names that move, and no other (were there
-- no pawn to take en passant, the text of that move would be the text of a step)
abbrev pub SanNamesItsMove : Type 0
SanNamesItsMove = (P : State) (m : Move) (x : List ℕ) → IsSound P → IsLegal P m → IsSan P m x
    → IsOnlyNamed P x m

-- a move has at most one standard text
abbrev pub MoveHasOneText : Type 0
MoveHasOneText = (P : State) (m : Move) (x y : List ℕ) → IsSan P m x → IsSan P m y → x ≡ y

-- and a legal move has one, in each position whose men stand on the board
abbrev pub EachMoveHasAText : Type 0
EachMoveHasAText = (P : State) (m : Move) → AreOnBoard P.men → IsLegal P m
    → (x : List ℕ) × IsSan P m x

-- a text names one legal move alone, or none, or several
abbrev pub NamesOneNoneOrSeveral : State → List ℕ → Type 0
NamesOneNoneOrSeveral P x =
    ((m : Move) × IsOnlyNamed P x m)
    ⊎ (((m : Move) → IsNamed P x m → ⊥) ⊎ ((m n : Move) × IsNamed P x m × IsNamed P x n × (m ≢ n)))

-- each text does so, in each position whose men stand on the board
abbrev pub EachTextNamesOneNoneOrSeveral : Type 0
EachTextNamesOneNoneOrSeveral = (P : State) (x : List ℕ) → AreOnBoard P.men
    → NamesOneNoneOrSeveral P x

-- they stand there in each position that a text in FEN spells, sound or not
abbrev pub SpelledMenAreOnBoard : Type 0
SpelledMenAreOnBoard = (x : List ℕ) (P : State) → SpellsPosition x P → AreOnBoard P.men

-- and after each legal move in a position in which they do
abbrev pub MenStayOnBoard : Type 0
MenStayOnBoard = (P : State) (m : Move) → AreOnBoard P.men → IsLegal P m
    → AreOnBoard (after P m).men

-- each text is read as a position in FEN, or refused
abbrev pub EachTextIsReadOrRefused : Type 0
EachTextIsReadOrRefused = (x : List ℕ) → ((P : State) × ReadsFen x P)
    ⊎ ((error : FenError) × IsRefused x error)

-- a text that names no legal move is refused for one reason
abbrev pub TextHasOneRefusal : Type 0
TextHasOneRefusal =
    (P : State) (x : List ℕ) (refusal other : Refusal) → IsRefusal P x refusal → IsRefusal P x other
    → refusal ≡ other

-- two sound positions have the same key exactly where they are the same
abbrev pub KeysTellPositions : Type 0
KeysTellPositions = (P Q : State) (x y : List ℕ) → IsSound P → IsSound Q → IsKey P x → IsKey Q y
    → (x ≡ y) ↔ IsSamePosition P Q

-- positions that are the same have the same pawns
abbrev pub SamePositionsHaveSamePawns : Type 0
SamePositionsHaveSamePawns = (P Q : State) (x y : List ℕ) → ArePawns P x → ArePawns Q y
    → IsSamePosition P Q → x ≡ y
