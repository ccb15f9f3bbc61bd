-- The first plies of a main line.
use Rattle.std.specs.Prelude.{◌≡◌, ◌⊎◌, ◌≤◌, ◌++◌, ℕ, List, [], length, Option}
use Rattle.chess.specs.Public.Positions.{State}
use Rattle.pgn_text.specs.Public.Games.{Item}
use Rattle.pgn_game.specs.Public.MainLines.{main_words, IsMainLine}
use Rattle.pgn_game.specs.Public.Replays.{Replay}
use Rattle.pgn_game.specs.Public.Starts.{IsStart}

-- the first of the words lead through these positions by these moves: so many, or all words where
-- there are fewer
pub record IsBeginning (start : State) (words : List (List ℕ)) (most : ℕ)
    (beginning : Replay) : Type 0 where
  pub first : List (List ℕ)
  pub rest : List (List ℕ)
  pub parted : words ≡ first ++ rest
  pub line : IsMainLine start first beginning.positions beginning.played
  pub few : length beginning.played ≤ most
  pub far : (rest ≡ []) ⊎ (most ≤ length beginning.played)
  pub turns : beginning.turns ≡ []

-- it is the replay of the main line up to so many plies, or to its end, of the game with these
-- contents of its FEN tag and these elements
pub record IsGameBeginning (fen : Option (List ℕ)) (items : List Item) (most : ℕ)
    (beginning : Replay) : Type 0 where
  pub start : State
  pub is_start : IsStart fen start
  pub line : IsBeginning start (main_words items 0) most beginning
