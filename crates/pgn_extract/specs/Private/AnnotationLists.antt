-- The annotations of a game as they are kept, and how the value of a column is made of them.
use Rattle.std.specs.Prelude.{◌≡◌, ℕ, Bool, not, if◌then◌else◌, List, [], ◌∷◌, ◌++◌, map}
use Rattle.std.specs.Prelude.{flat_map, codes}
use Rattle.pgn_text.specs.Public.Bytes.{is_white}
use Rattle.pgn_text.specs.Public.Elements.{item_of}
use Rattle.pgn_text.specs.Public.Games.{Item}
use Rattle.pgn_game.specs.Public.TextLines.{joined}
use Rattle.pgn_extract.specs.Private.Commands.{command_value}
use Rattle.pgn_extract.specs.Public.Annotations.{comment_words, main_items, nag_texts}
use Rattle.pgn_extract.specs.Public.Annotations.{parted_at_moves}
use Rattle.pgn_extract.specs.declared.entries.annotations.Annotations.{Annotations}
use Rattle.pgn_extract.specs.declared.entries.annotations.AnnotationKeeper.{AnnotationKeeper}
use Rattle.pgn_extract.specs.declared.rows.column.AnnotationColumn.{AnnotationColumn}
use Rattle.pgn_extract.specs.declared.rows.column.AnnotationColumn.TheVariants.{Nags, Comment}
use Rattle.pgn_extract.specs.declared.rows.column.AnnotationColumn.TheVariants.{Clock, Eval}

-- the lists that are kept, as a game's elements
abbrev pub lists_in : Annotations → List (List Item)
lists_in annotations = map (λ own. map item_of own.items) annotations.lists.items

-- elements before those of the first list
abbrev pub before_first : List Item → List (List Item) → List (List Item)
before_first own [] = own ∷ []
before_first own (list ∷ lists) = (own ++ list) ∷ lists

-- what is kept and what these elements have make those lists
abbrev pub MakesLists : AnnotationKeeper → List Item → List (List Item) → Type 0
MakesLists keeper items all =
    map (λ own. map item_of own.items) keeper.lists.items
    ++ before_first (map item_of keeper.own.items)
    (parted_at_moves (main_items items keeper.depth)) ≡ all

-- words, a space before each
abbrev pub spaced : List (List ℕ) → List ℕ
spaced words = flat_map (λ word. 32 ∷ word) words

-- a byte of a text whose words are written so: `inside` where the byte before it is one of a word
abbrev pub spaced_byte : Bool → ℕ → List ℕ
spaced_byte inside b = if is_white b then [] else (if inside then b ∷ [] else 32 ∷ b ∷ [])

abbrev pub spaced_bytes : Bool → List ℕ → List ℕ
spaced_bytes inside [] = []
spaced_bytes inside (b ∷ text) = spaced_byte inside b ++ spaced_bytes (not (is_white b)) text

-- the words of an annotation that a column is made of, and its value
abbrev pub annotation_words : AnnotationColumn → Item → List (List ℕ)
annotation_words Nags item = nag_texts item
annotation_words Comment item = comment_words item
annotation_words Clock item = comment_words item
annotation_words Eval item = comment_words item

abbrev pub shown_of : AnnotationColumn → List ℕ → List ℕ
shown_of Nags text = text
shown_of Comment text = text
shown_of Clock text = command_value (codes "[%clk ") text
shown_of Eval text = command_value (codes "[%eval ") text

abbrev pub annotation_value : AnnotationColumn → List Item → List ℕ
annotation_value own items = shown_of own (joined (flat_map (annotation_words own) items))
