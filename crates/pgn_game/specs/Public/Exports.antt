-- The export of a game: its tags, and its movetext in standard texts (PGN 3.1, 8).
use Rattle.std.specs.Prelude.{◌≡◌, ℕ, Bool, true, false, ◌&&◌, ◌||◌, codes, decimal, List, [], ◌∷◌}
use Rattle.std.specs.Prelude.{◌++◌, Option}
use Rattle.chess.specs.Public.Positions.{State}
use Rattle.chess.specs.Public.San.{IsSan}
use Rattle.chess.specs.declared.board.man.Side.{Side}
use Rattle.chess.specs.declared.board.man.Side.TheVariants.{White, Black}
use Rattle.pgn_text.specs.Public.Games.{Item}
use Rattle.pgn_text.specs.Public.GameTexts.{GameText, tag_in}
use Rattle.pgn_game.specs.Public.AllLines.{Line, LineEnd, ThenMove, ThenGlyph, ThenComment}
use Rattle.pgn_game.specs.Public.AllLines.{ThenVariation, spelled, IsTurn, after_turn}
use Rattle.pgn_game.specs.Public.Comments.{is_written, shown_tokens}
use Rattle.pgn_game.specs.Public.Replays.{Replay, IsReplay}
use Rattle.pgn_game.specs.Public.Starts.{fen_tag, IsStart}
use Rattle.pgn_game.specs.Public.TagLines.{AreTagLines}
use Rattle.pgn_game.specs.Public.TextLines.{IsLaid}
use Rattle.pgn_game.specs.declared.replays.replayer.Lines.{Lines}
use Rattle.pgn_game.specs.declared.replays.replayer.Lines.TheVariants.{Main, All}
use Rattle.pgn_game.specs.declared.exports.style.Style.{Style}
use Rattle.pgn_game.specs.declared.turns.line_move.LineMove.{LineMove}
use Rattle.pgn_game.specs.declared.turns.line_move.LineMove.TheVariants.{Played, Passed}

-- the tokens of a move's number: White's move always has one; Black's has one where it stands apart
-- from the move before it, as the first of its line or with a written comment or variation between
-- them (PGN 8.2.2)
abbrev pub number_tokens : Side → ℕ → Bool → List (List ℕ)
number_tokens White number apart = (decimal number ++ codes ".") ∷ []
number_tokens Black number true = (decimal number ++ codes "...") ∷ []
number_tokens Black number false = []

-- the text of a turn: the standard text of a move, or `--`
abbrev pub IsTurnText : State → LineMove → List ℕ → Type 0
IsTurnText now (Played m) text = IsSan now m text
IsTurnText now Passed text = text ≡ codes "--"

-- tokens that are written or left out
abbrev pub kept : Bool → List (List ℕ) → List (List ℕ)
kept true tokens = tokens
kept false tokens = []

-- a comment with this text is written
abbrev pub shows : Style → List ℕ → Bool
shows style text = style.comments && is_written style.commands text

-- the tokens of the line with all its variations: `before` and `now` as where it is played, `apart`
-- where the next move stands apart from the one before it
abbrev pub AreTokens : Style → Bool → State → State → Bool → Line → List (List ℕ) → Type 0
AreTokens style inside before now apart LineEnd tokens = tokens ≡ []
AreTokens style inside before now apart (ThenMove word rest) tokens =
    (turn : LineMove) × (text : List ℕ) × (more : List (List ℕ)) × IsTurn inside now word turn
    × IsTurnText now turn text
    × (tokens ≡ number_tokens now.turn now.fullmove_number apart ++ text ∷ more)
    × AreTokens style inside now (after_turn now turn) false rest more
AreTokens style inside before now apart (ThenGlyph number rest) tokens =
    (more : List (List ℕ)) × (tokens ≡ kept style.glyphs ((36 ∷ decimal number) ∷ []) ++ more)
    × AreTokens style inside before now apart rest more
AreTokens style inside before now apart (ThenComment text rest) tokens =
    (more : List (List ℕ))
    × (tokens ≡ kept (shows style text) (shown_tokens style.commands text) ++ more)
    × AreTokens style inside before now (apart || shows style text) rest more
AreTokens style inside before now apart (ThenVariation inner rest) tokens =
    (own : List (List ℕ)) × (more : List (List ℕ))
    × (tokens ≡ kept style.variations (codes "(" ∷ own ++ codes ")" ∷ []) ++ more)
    × (style.variations ≡ true → AreTokens style true before before true inner own)
    × AreTokens style inside before now (apart || style.variations) rest more

-- the tokens of a movetext: those of the lines, and then the result. `inside` where the first line,
-- which is played from the start, is a variation: a pass may be made in it
abbrev pub AreLineTokens : Bool → Style → State → List Item → List ℕ → List (List ℕ) → Type 0
AreLineTokens inside style start items result tokens =
    (line : Line) × (own : List (List ℕ)) × (items ≡ spelled line)
    × AreTokens style inside start start true line own × (tokens ≡ own ++ result ∷ [])

-- those of a game: its first line is the main line
abbrev pub AreMovetextTokens : Style → State → List Item → List ℕ → List (List ℕ) → Type 0
AreMovetextTokens = AreLineTokens false

-- the text is the movetext of the game in the style, played from this start
abbrev pub IsLineMovetext : Bool → Style → State → GameText → List ℕ → Type 0
IsLineMovetext inside style start game text = (tokens : List (List ℕ))
    × AreLineTokens inside style start game.elements game.result tokens
    × IsLaid style.width tokens text

abbrev pub IsMovetext : Style → State → GameText → List ℕ → Type 0
IsMovetext = IsLineMovetext false

-- the lines of a game that are written, where variations are kept or left out
abbrev pub lines_with : Bool → Lines
lines_with true = All
lines_with false = Main

-- the replay is one of the game, and of all its lines where the style keeps variations
abbrev pub IsReplayFor : Style → Option (List ℕ) → List Item → Replay → Type 0
IsReplayFor style fen items replay = (lines : Lines) × (style.variations ≡ true → lines ≡ All)
    × IsReplay lines fen items replay

-- the text is the export of the game in the style, where some tags are asked for first: its tag
-- lines, an empty line, the lines of its movetext, and an empty line
pub record IsLineExport (inside : Bool) (order : List (List ℕ)) (style : Style) (game : GameText)
    (text : List ℕ) : Type 0 where
  pub start : State
  pub is_start : IsStart (tag_in fen_tag game.tags) start
  pub head : List ℕ
  pub tags : AreTagLines order style game.tags game.result head
  pub tokens : List (List ℕ)
  pub are_tokens : AreLineTokens inside style start game.elements game.result tokens
  pub movetext : List ℕ
  pub laid : IsLaid style.width tokens movetext
  pub spells : text ≡ head ++ 10 ∷ (movetext ++ 10 ∷ [])

abbrev pub IsOrderedExport : List (List ℕ) → Style → GameText → List ℕ → Type 0
IsOrderedExport = IsLineExport false

-- the text is the export of the game in the style
abbrev pub IsExport : Style → GameText → List ℕ → Type 0
IsExport = IsOrderedExport []

-- in a style the movetext has one list of tokens at most
abbrev pub MovetextHasOneList : Type 0
MovetextHasOneList =
    (style : Style) (start : State) (items : List Item) (result : List ℕ)
    (tokens others : List (List ℕ))
    → AreMovetextTokens style start items result tokens
    → AreMovetextTokens style start items result others → tokens ≡ others
