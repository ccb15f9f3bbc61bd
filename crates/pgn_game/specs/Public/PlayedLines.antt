-- A main line that is played ply by ply: where it stands, and what of it is still to come.
use Rattle.std.specs.Prelude.{◌≡◌, ◌+◌, ℕ, Bool, true, false, List, [], ◌∷◌, Option, None, Some}
use Rattle.std.specs.Prelude.{codes}
use Rattle.chess.specs.Public.Positions.{State}
use Rattle.chess.specs.Public.Moves.{after}
use Rattle.chess.specs.Public.San.{IsOnlyNamed, IsSan}
use Rattle.chess.specs.declared.moves.Move.{Move}
use Rattle.pgn_text.specs.Public.Games.{Item}
use Rattle.pgn_game.specs.Public.MainLines.{main_words}
use Rattle.pgn_game.specs.Public.Starts.{IsStart}

-- the position that is reached, how many plies lead to it, and the words of the moves that are
-- still to be played
pub record PlayedLine : Type 0 where
  pub position : State
  pub plies : ℕ
  pub words : List (List ℕ)

-- nothing is played yet of the game with these contents of its FEN tag and these elements
pub record IsBegun (fen : Option (List ℕ)) (items : List Item) (line : PlayedLine) : Type 0 where
  pub start : IsStart fen line.position
  pub plies : line.plies ≡ 0
  pub words : line.words ≡ main_words items 0

-- the next word is played: it names one legal move alone
pub record PlaysWord (old new : PlayedLine) : Type 0 where
  pub word : List ℕ
  pub m : Move
  pub words : old.words ≡ word ∷ new.words
  pub named : IsOnlyNamed old.position word m
  pub position : new.position ≡ after old.position m
  pub plies : new.plies ≡ old.plies + 1

-- no word is left, and the line stays as it is
pub record HasEnded (old new : PlayedLine) : Type 0 where
  pub words : old.words ≡ []
  pub same : new ≡ old

-- the line went on by one ply, or is at its end
abbrev pub HasAdvanced : PlayedLine → PlayedLine → Bool → Type 0
HasAdvanced old new true = PlaysWord old new
HasAdvanced old new false = HasEnded old new

-- the line went on by this move, or is at its end
abbrev pub HasGoneOn : PlayedLine → PlayedLine → Option Move → Type 0
HasGoneOn old new None = HasEnded old new
HasGoneOn old new (Some m) = (word : PlaysWord old new) × (word.m ≡ m)

-- the text of the next move, where these words are left: the standard text of the one legal move
-- that the first names, and `-` where none is left
abbrev pub IsNextText : State → List (List ℕ) → List ℕ → Type 0
IsNextText now [] text = text ≡ codes "-"
IsNextText now (word ∷ words) text = (m : Move) × IsOnlyNamed now word m × IsSan now m text
