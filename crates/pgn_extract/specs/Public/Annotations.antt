-- The annotations of a game: the NAGs and comments of its main line, by the ply after which they
-- stand.
use Rattle.std.specs.Prelude.{◌≡◌, ◌≤◌, ℕ, ◌+◌, ◌-◌, ◌==◌, false, if◌then◌else◌, List, [], ◌∷◌}
use Rattle.std.specs.Prelude.{◌++◌, flat_map, get_or, decimal, codes, length}
use Rattle.pgn_text.specs.Public.Games.{Item, MoveText, GlyphNumber, CommentText, VariationOpen}
use Rattle.pgn_text.specs.Public.Games.{VariationClose}
use Rattle.pgn_game.specs.Public.Comments.{has_bracket, words_in}
use Rattle.pgn_game.specs.Public.TextLines.{joined}
use Rattle.pgn_extract.specs.declared.rows.column.AnnotationColumn.{AnnotationColumn}
use Rattle.pgn_extract.specs.declared.rows.column.AnnotationColumn.TheVariants.{Nags, Comment}
use Rattle.pgn_extract.specs.declared.rows.column.AnnotationColumn.TheVariants.{Clock, Eval}

-- the elements that stand in no variation, where so many variations are open before the elements
-- (PGN 8.2.5)
abbrev pub main_items : List Item → ℕ → List Item
main_items [] depth = []
main_items (VariationOpen ∷ items) depth = main_items items (depth + 1)
main_items (VariationClose ∷ items) depth = main_items items (depth - 1)
main_items (item ∷ items) depth =
    if depth == 0 then item ∷ main_items items depth else main_items items depth

-- elements parted at the moves: those before the first move, those between it and the second, and
-- so on to those after the last
abbrev pub in_first : Item → List (List Item) → List (List Item)
in_first item [] = (item ∷ []) ∷ []
in_first item (own ∷ more) = (item ∷ own) ∷ more

abbrev pub parted_at_moves : List Item → List (List Item)
parted_at_moves [] = [] ∷ []
parted_at_moves (MoveText word ∷ items) = [] ∷ parted_at_moves items
parted_at_moves (item ∷ items) = in_first item (parted_at_moves items)

-- the annotations of each ply of a game with these elements, from ply 0 on
abbrev pub annotation_lists : List Item → List (List Item)
annotation_lists items = parted_at_moves (main_items items 0)

-- those of one ply
abbrev pub annotations_at : List Item → ℕ → List Item
annotations_at items ply = get_or (annotation_lists items) ply []

-- a NAG as it is written
abbrev pub nag_texts : Item → List (List ℕ)
nag_texts (GlyphNumber number) = (36 ∷ decimal number) ∷ []
nag_texts _ = []

-- the words of a comment
abbrev pub comment_words : Item → List (List ℕ)
comment_words (CommentText text) = words_in text
comment_words _ = []

-- the words of all comments, with a space between two
abbrev pub comments_text : List Item → List ℕ
comments_text items = joined (flat_map comment_words items)

-- a command begins so after these bytes of a text, and this is its value: what stands before the
-- next closing bracket
pub record IsCommandAt (opening text before value : List ℕ) : Type 0 where
  pub after : List ℕ
  pub parted : text ≡ before ++ (opening ++ (value ++ 93 ∷ after))
  pub within : has_bracket value ≡ false

-- the value of the first command of a text that begins so, and nothing where none does
pub data IsCommandValue (opening text value : List ℕ) : Type 0 where
  stands : (before : List ℕ) → IsCommandAt opening text before value
      → ((other own : List ℕ) → IsCommandAt opening text other own → length before ≤ length other)
      → IsCommandValue opening text value
  missing : ((before own : List ℕ) → IsCommandAt opening text before own → ⊥) → value ≡ []
      → IsCommandValue opening text value

-- what a column shows of annotations: the NAGs with a space between two, the comments, or the value
-- of a command of theirs
abbrev pub IsAnnotationCell : AnnotationColumn → List Item → List ℕ → Type 0
IsAnnotationCell Nags items cell = cell ≡ joined (flat_map nag_texts items)
IsAnnotationCell Comment items cell = cell ≡ comments_text items
IsAnnotationCell Clock items cell = IsCommandValue (codes "[%clk ") (comments_text items) cell
IsAnnotationCell Eval items cell = IsCommandValue (codes "[%eval ") (comments_text items) cell
