-- Each line of a game as a main line whose positions can be looked for, and the plies that no line
-- around it has.
use Rattle.std.specs.Prelude.{ℕ, ◌+◌, Bool, true, false, List, [], ◌∷◌, length}
use Rattle.std.specs.Prelude.{if◌then◌else◌}
use Rattle.pgn_text.specs.Public.Games.{Item, MoveText, GlyphNumber, CommentText, VariationOpen}
use Rattle.pgn_text.specs.Public.Games.{VariationClose}
use Rattle.pgn_text.specs.Public.GameTexts.{GameText}
use Rattle.pgn_game.specs.Public.AllLines.{is_pass}
use Rattle.pgn_game.specs.Public.LineGames.{LineGame, line_items}

-- the element is a pass, where it stands in a variation
abbrev pub passes : Item → Bool
passes (MoveText word) = is_pass word
passes (GlyphNumber number) = false
passes (CommentText text) = false
passes VariationOpen = false
passes VariationClose = false

-- the elements of a line up to its first pass: no position after one is of a game of chess
abbrev pub up_to_pass : List Item → List Item
up_to_pass [] = []
up_to_pass (item ∷ items) = if passes item then [] else item ∷ up_to_pass items

-- of a variation; in the main line there is no pass
abbrev pub up_to_pass_if : Bool → List Item → List Item
up_to_pass_if false items = items
up_to_pass_if true items = up_to_pass items

-- the line of a game as its main line, with the tags and the result of the game
abbrev pub as_searched : GameText → LineGame → GameText
as_searched game line =
    record game { elements = up_to_pass_if line.inside (line_items line) }

-- the first ply that no line around it has: the main line has each of its own, and a variation
-- those from its first move on, which comes after the moves that lead to it
abbrev pub first_own : Bool → List (List ℕ) → ℕ
first_own false before = 0
first_own true before = length before + 1

abbrev pub own_ply : LineGame → ℕ
own_ply line = first_own line.inside line.before

-- the variations that are left of a game that is gone along: the one that begins at once, if one
-- does, is the first of them; and how many of its elements are still to be gone along
pub record VariationsLeft : Type 0 where
  pub game : GameText
  pub begun : List LineGame
  pub lines : List LineGame
  pub steps : ℕ
