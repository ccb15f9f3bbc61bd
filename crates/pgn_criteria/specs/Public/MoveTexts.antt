-- Words that fit the moves of a main line. A line `moves` gives the first word to the first move,
-- the next to the next; moves after the last word are free.
use Rattle.std.specs.Prelude.{◌≡◌, ◌⊎◌, ◌+◌, ◌++◌, ℕ, if◌then◌else◌, List, [], ◌∷◌, codes, Some}
use Rattle.std.specs.List.{slice_get}
use Rattle.chess.specs.Public.Positions.{State}
use Rattle.chess.specs.Public.San.{IsSan}
use Rattle.chess.specs.Public.Letters.{is_check_sign}
use Rattle.chess.specs.declared.moves.Move.{Move}
use Rattle.pgn_game.specs.Public.Replays.{Replay}

-- a text without the signs of check and mate, + and #
abbrev pub without_check_signs : List ℕ → List ℕ
without_check_signs [] = []
without_check_signs (b ∷ x) = if is_check_sign b then without_check_signs x
    else b ∷ without_check_signs x

-- the word is *, which fits any move, or it is the move's standard text in this position (PGN
-- 8.2.3) without its check sign
abbrev pub FitsWord : State → Move → List ℕ → Type 0
FitsWord P m word = (word ≡ codes "*")
    ⊎ ((text : List ℕ) × IsSan P m text × (word ≡ without_check_signs text))

-- the main line has a move after so many plies, and the word fits it
pub record FitsMove (replay : Replay) (plies : ℕ) (word : List ℕ) : Type 0 where
  pub position : State
  pub move : Move
  pub here : slice_get replay.positions plies ≡ Some position
  pub played : slice_get replay.played plies ≡ Some move
  pub fits : FitsWord position move word

-- each word fits its move, the first word the move after so many plies; so there are at least as
-- many moves as words
abbrev pub FitMoves : Replay → ℕ → List (List ℕ) → Type 0
FitMoves replay plies [] = Unit {0}
FitMoves replay plies (word ∷ more) = FitsMove replay plies word × FitMoves replay (plies + 1) more

-- the text is like the word, in which * stands for any bytes, or none, and each byte for itself
abbrev pub IsLike : List ℕ → List ℕ → Type 0
IsLike [] text = text ≡ []
IsLike (b ∷ word) text =
    ((b ≡ 42) × ((some rest : List ℕ) × (text ≡ some ++ rest) × IsLike word rest))
    ⊎ ((rest : List ℕ) × (text ≡ b ∷ rest) × IsLike word rest)

-- after so many plies the main line goes on with a move whose standard text (PGN 8.2.3) without its
-- mark is like the word
pub record GoesOnBy (replay : Replay) (plies : ℕ) (word : List ℕ) : Type 0 where
  pub position : State
  pub move : Move
  pub text : List ℕ
  pub here : slice_get replay.positions plies ≡ Some position
  pub played : slice_get replay.played plies ≡ Some move
  pub is_text : IsSan position move text
  pub like : IsLike word (without_check_signs text)

-- the last of so many plies was such a move; before the first ply none was played
abbrev pub IsReachedBy : Replay → ℕ → List ℕ → Type 0
IsReachedBy replay plies word = (before : ℕ) × (plies ≡ before + 1) × GoesOnBy replay before word
