-- A line of a game on one line of text: the position that it starts from, and its moves.
use Rattle.std.specs.Prelude.{◌≡◌, ◌≢◌, ◌↔◌, Bool, false, ℕ, ◌+◌, ◌==◌, if◌then◌else◌, List, []}
use Rattle.std.specs.Prelude.{◌∷◌, ◌++◌, map, codes, Option, Some, None}
use Rattle.chess.specs.Public.Positions.{State}
use Rattle.chess.specs.Public.Start.{initial}
use Rattle.chess.specs.Public.Moves.{after}
use Rattle.chess.specs.Public.Letters.{kind_letter, square_text}
use Rattle.chess.specs.Public.Fen.{IsFen}
use Rattle.chess.specs.Public.San.{IsSan}
use Rattle.chess.specs.declared.board.man.Kind.{Kind}
use Rattle.chess.specs.declared.moves.Move.{Move}
use Rattle.pgn_text.specs.Public.Games.{Item}
use Rattle.pgn_game.specs.Public.AllLines.{IsTurn, after_turn}
use Rattle.pgn_game.specs.Public.Exports.{IsTurnText}
use Rattle.pgn_game.specs.Public.MainLines.{main_words, IsMainLine}
use Rattle.pgn_game.specs.Public.Replays.{IsSoundGame}
use Rattle.pgn_game.specs.Public.Starts.{IsStart}
use Rattle.pgn_game.specs.declared.exports.notation.Notation.{Notation}
use Rattle.pgn_game.specs.declared.exports.notation.Notation.TheVariants.{San, Uci}
use Rattle.pgn_game.specs.declared.replays.replayer.Lines.TheVariants.{Main}
use Rattle.pgn_game.specs.declared.turns.line_move.LineMove.{LineMove}
use Rattle.pgn_game.specs.declared.turns.line_move.LineMove.TheVariants.{Passed, Played}

-- a byte of a position's text: `_` in place of a space
abbrev pub unspaced : ℕ → ℕ
unspaced b = if b == 32 then 95 else b

-- the position from which a game starts: `-` for the initial one, else its text in FEN without
-- spaces
pub data IsStartText (start : State) (text : List ℕ) : Type 0 where
  as_initial : start ≡ initial → text ≡ codes "-" → IsStartText start text
  as_fen : start ≢ initial → (fen : List ℕ) → IsFen start fen → text ≡ map unspaced fen
      → IsStartText start text

-- the letter of what a pawn becomes, in lower case
abbrev pub promotion_letter : Option Kind → List ℕ
promotion_letter None = []
promotion_letter (Some kind) = (kind_letter kind + 32) ∷ []

-- a move in the notation of the protocol UCI: its two squares, and what a pawn becomes; castling is
-- the king's move
abbrev pub uci_text : Move → List ℕ
uci_text m = square_text m.from ++ square_text m.to ++ promotion_letter m.promote

-- the text of a move of the position in a notation
abbrev pub IsMoveText : Notation → State → Move → List ℕ → Type 0
IsMoveText San now m text = IsSan now m text
IsMoveText Uci now m text = text ≡ uci_text m

-- the moves that are played in a row from the position, each after a space
abbrev pub AreMoveTexts : Notation → State → List Move → List ℕ → Type 0
AreMoveTexts notation now [] text = text ≡ []
AreMoveTexts notation now (m ∷ more) text =
    (own : List ℕ) × (rest : List ℕ) × (text ≡ 32 ∷ own ++ rest) × IsMoveText notation now m own
    × AreMoveTexts notation (after now m) more rest

-- the text of the main line of the game with these contents of its FEN tag and these elements: its
-- start and its moves
pub record IsGameLine (notation : Notation) (fen : Option (List ℕ)) (items : List Item)
    (text : List ℕ) : Type 0 where
  pub start : State
  pub is_start : IsStart fen start
  pub positions : List State
  pub played : List Move
  pub line : IsMainLine start (main_words items 0) positions played
  pub head : List ℕ
  pub begins : IsStartText start head
  pub moves : List ℕ
  pub are_moves : AreMoveTexts notation start played moves
  pub spells : text ≡ head ++ moves

-- the text of a turn of the position in a notation: as in the export, or as in the protocol UCI,
-- where a pass is the null move
abbrev pub IsTurnIn : Notation → State → LineMove → List ℕ → Type 0
IsTurnIn San now turn text = IsTurnText now turn text
IsTurnIn Uci now (Played m) text = text ≡ uci_text m
IsTurnIn Uci now Passed text = text ≡ codes "0000"

-- the turns that the words say in a row from the position, in a variation or not, each after a
-- space
abbrev pub AreTurnTexts : Notation → Bool → State → List (List ℕ) → List ℕ → Type 0
AreTurnTexts notation inside now [] text = text ≡ []
AreTurnTexts notation inside now (word ∷ words) text =
    (turn : LineMove) × (own : List ℕ) × (rest : List ℕ) × (text ≡ 32 ∷ own ++ rest)
    × IsTurn inside now word turn × IsTurnIn notation now turn own
    × AreTurnTexts notation inside (after_turn now turn) words rest

-- the text of a line with these words, which is a variation or not, of a game with these contents
-- of its FEN tag: its start and its turns
abbrev pub IsLineText : Notation → Bool → Option (List ℕ) → List (List ℕ) → List ℕ → Type 0
IsLineText notation inside fen words text =
    (start : State) × IsStart fen start × (head : List ℕ) × IsStartText start head
    × (turns : List ℕ) × AreTurnTexts notation inside start words turns × (text ≡ head ++ turns)

-- a game whose main line is sound has a line in each notation
abbrev pub SoundGameHasALine : Type 0
SoundGameHasALine =
    (notation : Notation) (fen : Option (List ℕ)) (items : List Item) → IsSoundGame Main fen items
    → (text : List ℕ) × IsGameLine notation fen items text

-- and one at most
abbrev pub GameHasOneLine : Type 0
GameHasOneLine =
    (notation : Notation) (fen : Option (List ℕ)) (items : List Item) (text other : List ℕ)
    → IsGameLine notation fen items text → IsGameLine notation fen items other → text ≡ other

-- the lines of two games in a notation are the same exactly where the games start in the same
-- position and have the same moves
abbrev pub LineIsTheGame : Type 0
LineIsTheGame =
    (notation : Notation) (fen tag : Option (List ℕ)) (items others : List Item)
    (text other : List ℕ)
    (first : IsGameLine notation fen items text) (second : IsGameLine notation tag others other)
    → (text ≡ other) ↔ ((first.start ≡ second.start) × (first.played ≡ second.played))

-- and it is the text of the words of the main line, none of which is a pass
abbrev pub GameLineHasItsWords : Type 0
GameLineHasItsWords =
    (notation : Notation) (fen : Option (List ℕ)) (items : List Item) (text : List ℕ)
    → IsGameLine notation fen items text ↔ IsLineText notation false fen (main_words items 0) text
