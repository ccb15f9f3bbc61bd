-- Each line of a game as a game of its own: the main line, and each variation with the moves that
-- lead to the position that it is played from.
use Rattle.std.specs.Prelude.{◌≡◌, ℕ, Bool, true, false, not, bytes_eq, codes, filter, map, Option}
use Rattle.std.specs.Prelude.{option_map, List, [], ◌∷◌, ◌++◌}
use Rattle.pgn_text.specs.Public.Games.{Item, MoveText, GlyphNumber, CommentText}
use Rattle.pgn_text.specs.Public.GameTexts.{GameText, tag_in}
use Rattle.pgn_game.specs.Public.AllLines.{Line, LineEnd, ThenMove, ThenGlyph, ThenComment}
use Rattle.pgn_game.specs.Public.AllLines.{ThenVariation, spelled}
use Rattle.pgn_game.specs.Public.Edits.{Edits, IsEditedLine}
use Rattle.pgn_game.specs.Public.GameLines.{IsLineText}
use Rattle.pgn_game.specs.Public.MainLines.{main_words}
use Rattle.pgn_game.specs.Public.Starts.{fen_tag}
use Rattle.pgn_game.specs.declared.exports.line_form.LineForm.{LineForm}
use Rattle.pgn_game.specs.declared.exports.line_form.LineForm.TheVariants as forms
use Rattle.pgn_game.specs.declared.exports.notation.Notation.{Notation}
use Rattle.pgn_game.specs.declared.exports.style.Style.{Style}

-- the elements of a line that stand in none of its variations
abbrev pub own_items : Line → List Item
own_items LineEnd = []
own_items (ThenMove word rest) = MoveText word ∷ own_items rest
own_items (ThenGlyph number rest) = GlyphNumber number ∷ own_items rest
own_items (ThenComment text rest) = CommentText text ∷ own_items rest
own_items (ThenVariation inner rest) = own_items rest

-- a line of a game: whether it is a variation, the words of the moves that lead to it, and its own
-- elements
pub record LineGame : Type 0 where
  pub inside : Bool
  pub before : List (List ℕ)
  pub own : List Item

-- the variations in a line, in the order of the text: each before those that stand in it. `before`
-- are the words of the moves in front of the last one, for which a variation stands, and `now` are
-- all
abbrev pub variations_in : List (List ℕ) → List (List ℕ) → Line → List LineGame
variations_in before now LineEnd = []
variations_in before now (ThenMove word rest) = variations_in now (now ++ word ∷ []) rest
variations_in before now (ThenGlyph number rest) = variations_in before now rest
variations_in before now (ThenComment text rest) = variations_in before now rest
variations_in before now (ThenVariation inner rest) =
    record { inside = true; before = before; own = own_items inner }
    ∷ (variations_in before before inner ++ variations_in before now rest)

-- the lines of a game: the main line, and then all variations
abbrev pub lines_of : Line → List LineGame
lines_of line = record { inside = false; before = []; own = own_items line }
    ∷ variations_in [] [] line

-- the elements of a line as a game: the moves that lead to it, without what stands beside them, and
-- its own elements
abbrev pub line_items : LineGame → List Item
line_items line = map (λ word. MoveText word) line.before ++ line.own

-- the game without a result
abbrev pub unfinished : GameText → GameText
unfinished game = record game {
  tags = filter (λ tag. not (bytes_eq (codes "Result") tag.0)) game.tags;
  result = codes "*";
}

-- a variation is no part of what was played
abbrev pub ending_as : Bool → GameText → GameText
ending_as false game = game
ending_as true game = unfinished game

-- the line of a game as a game of its own
abbrev pub as_game : GameText → LineGame → GameText
as_game game line = record (ending_as line.inside game) { elements = line_items line }

-- how lines are written: as exports in a style, each as a game that is edited, or each on a line of
-- text with its turns in a notation, after the same bytes
pub data LineLayout : Type 0 where
  AsExports : Option Edits → Style → LineLayout
  OnLines : Notation → List ℕ → LineLayout

-- what a form asks for
abbrev pub layout_of : LineForm → LineLayout
layout_of (forms.Export edits style) = AsExports (option_map (λ own. own.now) edits) style.now
layout_of (forms.Turns notation before) = OnLines notation before.now

-- the text of a line, which is a variation or not and a game of its own
abbrev pub IsTextOfLine : LineLayout → Bool → GameText → List ℕ → Type 0
IsTextOfLine (AsExports edits style) inside line text = IsEditedLine inside edits style line text
IsTextOfLine (OnLines notation before) inside line text = (own : List ℕ)
    × IsLineText notation inside (tag_in fen_tag line.tags) (main_words line.elements 0) own
    × (text ≡ before ++ own ++ 10 ∷ [])

-- the text is those of these lines of the game, one after the other
abbrev pub AreTextsOf : LineLayout → GameText → List LineGame → List ℕ → Type 0
AreTextsOf layout game [] text = text ≡ []
AreTextsOf layout game (line ∷ more) text =
    (own : List ℕ) × (rest : List ℕ) × (text ≡ own ++ rest)
    × IsTextOfLine layout line.inside (as_game game line) own
    × AreTextsOf layout game more rest

-- the text is those of all lines of the game
abbrev pub AreLineTexts : LineLayout → GameText → List ℕ → Type 0
AreLineTexts layout game text = (line : Line) × (game.elements ≡ spelled line)
    × AreTextsOf layout game (lines_of line) text

-- the text is those of the first of these lines, and the others are left
abbrev pub WritesFirst : LineLayout → GameText → List LineGame → List LineGame → List ℕ → Type 0
WritesFirst layout game lines left text =
    (first : List LineGame) × (lines ≡ first ++ left) × AreTextsOf layout game first text

-- the lines that are left of a game of which the first are written, and how they are written; and
-- how many of its elements are still to be gone along
pub record LinesLeft : Type 0 where
  pub layout : LineLayout
  pub game : GameText
  pub lines : List LineGame
  pub steps : ℕ
