-- The main line of a game: its positions in a row, each the one after the only move that its word
-- names (PGN 8.2, 8.2.5).
use Rattle.std.specs.Prelude.{◌≡◌, ℕ, ◌+◌, ◌-◌, ◌==◌, if◌then◌else◌, List, [], ◌∷◌}
use Rattle.chess.specs.Public.Positions.{State}
use Rattle.chess.specs.Public.Moves.{after}
use Rattle.chess.specs.Public.San.{IsOnlyNamed}
use Rattle.chess.specs.declared.moves.Move.{Move}
use Rattle.pgn_text.specs.Public.Games.{Item, MoveText, GlyphNumber, CommentText, VariationOpen}
use Rattle.pgn_text.specs.Public.Games.{VariationClose}

-- the words of the moves that stand in no variation, where so many variations are open before the
-- elements (PGN 8.2.5)
abbrev pub main_words : List Item → ℕ → List (List ℕ)
main_words [] depth = []
main_words (MoveText word ∷ items) depth =
    if depth == 0 then word ∷ main_words items depth else main_words items depth
main_words (GlyphNumber number ∷ items) depth = main_words items depth
main_words (CommentText text ∷ items) depth = main_words items depth
main_words (VariationOpen ∷ items) depth = main_words items (depth + 1)
main_words (VariationClose ∷ items) depth = main_words items (depth - 1)

-- played from a position, the words lead through these positions by these moves: each word names
-- one legal move alone, and the next position is the one after it
abbrev pub IsMainLine : State → List (List ℕ) → List State → List Move → Type 0
IsMainLine now [] positions played = (positions ≡ now ∷ []) × (played ≡ [])
IsMainLine now (word ∷ words) positions played =
    (m : Move) × (later : List State) × (more : List Move) × (positions ≡ now ∷ later)
    × (played ≡ m ∷ more)
    × IsOnlyNamed now word m × IsMainLine (after now m) words later more
