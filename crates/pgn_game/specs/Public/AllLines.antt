-- All lines of a game: a variation stands for the move before it, so it is played from the position
-- before that move (PGN 8.2.5).
use Rattle.std.specs.Prelude.{◌≡◌, Bool, true, false, ◌&&◌, ◌||◌, bytes_eq, codes, ℕ, List, [], ◌∷◌}
use Rattle.std.specs.Prelude.{◌++◌}
use Rattle.chess.specs.Public.Positions.{State, IsCheck}
use Rattle.chess.specs.Public.Moves.{after}
use Rattle.chess.specs.Public.Passes.{passed}
use Rattle.chess.specs.Public.San.{IsOnlyNamed}
use Rattle.pgn_text.specs.Public.Games.{Item, MoveText, GlyphNumber, CommentText, VariationOpen}
use Rattle.pgn_text.specs.Public.Games.{VariationClose}
use Rattle.pgn_game.specs.declared.turns.line_move.LineMove.{LineMove}
use Rattle.pgn_game.specs.declared.turns.line_move.LineMove.TheVariants.{Played, Passed}

-- a line from some place on: nothing, or a move, a NAG, a comment or a whole variation, and the
-- line after it
pub data Line : Type 0 where
  LineEnd : Line
  ThenMove : List ℕ → Line → Line
  ThenGlyph : ℕ → Line → Line
  ThenComment : List ℕ → Line → Line
  ThenVariation : Line → Line → Line

-- the elements that spell it: a variation stands between its parentheses
abbrev pub spelled : Line → List Item
spelled LineEnd = []
spelled (ThenMove word rest) = MoveText word ∷ spelled rest
spelled (ThenGlyph number rest) = GlyphNumber number ∷ spelled rest
spelled (ThenComment text rest) = CommentText text ∷ spelled rest
spelled (ThenVariation inner rest) = VariationOpen
    ∷ (spelled inner ++ VariationClose ∷ spelled rest)

-- the words of its own moves, without those of its variations
abbrev pub own_words : Line → List (List ℕ)
own_words LineEnd = []
own_words (ThenMove word rest) = word ∷ own_words rest
own_words (ThenGlyph number rest) = own_words rest
own_words (ThenComment text rest) = own_words rest
own_words (ThenVariation inner rest) = own_words rest

-- the texts that are a pass where they stand in a variation
abbrev pub is_pass : List ℕ → Bool
is_pass word = bytes_eq word (codes "--") || bytes_eq word (codes "Z0")

-- what the word says in the position, where it is a pass and where it is none: a pass, which no
-- side in check may make, or the only legal move that it names
abbrev pub SaysTurn : Bool → State → List ℕ → LineMove → Type 0
SaysTurn true now word Passed = IsCheck now.men now.turn → ⊥
SaysTurn true now word (Played m) = ⊥
SaysTurn false now word Passed = ⊥
SaysTurn false now word (Played m) = IsOnlyNamed now word m

-- what the word of a move says, which stands in a variation or not: in the main line there is no
-- pass
abbrev pub IsTurn : Bool → State → List ℕ → LineMove → Type 0
IsTurn inside now word turn = SaysTurn (inside && is_pass word) now word turn

-- the position after it
abbrev pub after_turn : State → LineMove → State
after_turn now (Played m) = after now m
after_turn now Passed = passed now

-- the line is played, with all its variations, by these turns in the order of the text. `now` is
-- the position that it is played from, and `before` the one before the last turn that stands in
-- front of it: from there a variation is played
abbrev pub IsPlayed : Bool → State → State → Line → List LineMove → Type 0
IsPlayed inside before now LineEnd turns = turns ≡ []
IsPlayed inside before now (ThenMove word rest) turns =
    (turn : LineMove) × (more : List LineMove) × (turns ≡ turn ∷ more) × IsTurn inside now word turn
    × IsPlayed inside now (after_turn now turn) rest more
IsPlayed inside before now (ThenGlyph number rest) turns = IsPlayed inside before now rest turns
IsPlayed inside before now (ThenComment text rest) turns = IsPlayed inside before now rest turns
IsPlayed inside before now (ThenVariation inner rest) turns =
    (own : List LineMove) × (more : List LineMove) × (turns ≡ own ++ more)
    × IsPlayed true before before inner own × IsPlayed inside before now rest more

-- the elements spell a line that is played from the position by these turns
abbrev pub ArePlayed : State → List Item → List LineMove → Type 0
ArePlayed start items turns = (line : Line) × (items ≡ spelled line)
    × IsPlayed false start start line turns
