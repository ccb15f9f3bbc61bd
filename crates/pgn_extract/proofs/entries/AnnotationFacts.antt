-- How the annotations of a game are kept, and how the value of a column is made of them.
use Rattle.std.proofs.Common.{◌≡◌, ℕ, Bool, true, false, List, [], ◌∷◌, ◌++◌, refl, sym}
use Rattle.std.proofs.Common.{ap, ◌∙◌, append_assoc, append-nil, drop}
use Rattle.std.specs.Prelude.{not, filter}
use Rattle.std.specs.Prelude.{codes}
use Rattle.pgn_text.specs.Public.Bytes.{is_white, is_empty}
use Rattle.pgn_text.specs.Public.Games.{Item, MoveText, GlyphNumber, CommentText, VariationOpen}
use Rattle.pgn_text.specs.Public.Games.{VariationClose}
use Rattle.pgn_game.specs.Public.Comments.{cut_at_white, words_in}
use Rattle.pgn_game.specs.Public.Comments as comment
use Rattle.pgn_game.specs.Public.TextLines.{joined}
use Rattle.pgn_extract.specs.Public.Annotations.{main_items, parted_at_moves, in_first}
use Rattle.pgn_extract.specs.Public.Annotations.{annotation_lists, comments_text, IsAnnotationCell}
use Rattle.pgn_extract.specs.Private.AnnotationLists.{annotation_value}
use Rattle.pgn_extract.specs.declared.rows.column.AnnotationColumn.{AnnotationColumn}
use Rattle.pgn_extract.specs.declared.rows.column.AnnotationColumn.TheVariants.{Nags, Comment}
use Rattle.pgn_extract.specs.declared.rows.column.AnnotationColumn.TheVariants.{Clock, Eval}
use Rattle.pgn_extract.proofs.rows.CommandFacts.{is_command_value, one_command_value}
use Rattle.pgn_extract.specs.Private.AnnotationLists.{before_first, spaced, spaced_bytes}

-- The words of a text.

abbrev words_of : List (List ℕ) → List (List ℕ)
words_of pieces = filter (λ piece. not (is_empty piece)) pieces

-- the first piece goes on with a word that is begun
abbrev goes_on : List (List ℕ) → List ℕ
goes_on [] = []
goes_on (piece ∷ more) = piece ++ spaced (words_of more)

begun : (b : ℕ) (pieces : List (List ℕ))
    → 32 ∷ b ∷ goes_on pieces ≡ spaced (words_of (comment.in_first b pieces))
begun b [] = refl
begun b (piece ∷ more) = refl

went_on : (b : ℕ) (pieces : List (List ℕ))
    → b ∷ goes_on pieces ≡ goes_on (comment.in_first b pieces)
went_on b [] = refl
went_on b (piece ∷ more) = refl

bytes_are : (text : List ℕ) → (spaced_bytes false text ≡ spaced (words_of (cut_at_white text)))
    × (spaced_bytes true text ≡ goes_on (cut_at_white text))
bytes_are [] = (refl, refl)
bytes_are (b ∷ text) = by_test (bytes_are text) (is_white b) refl
  where
    by_test : (spaced_bytes false text ≡ spaced (words_of (cut_at_white text)))
        × (spaced_bytes true text ≡ goes_on (cut_at_white text))
        → (t : Bool) → is_white b ≡ t
        → (spaced_bytes false (b ∷ text) ≡ spaced (words_of (cut_at_white (b ∷ text))))
        × (spaced_bytes true (b ∷ text) ≡ goes_on (cut_at_white (b ∷ text)))
    by_test later true white = rw white (later.0, later.0)
    by_test later false white = rw white (
      ap (λ (t : List ℕ). 32 ∷ b ∷ t) later.1 ∙ begun b (cut_at_white text),
      ap (λ (t : List ℕ). b ∷ t) later.1 ∙ went_on b (cut_at_white text),
    )

-- written byte by byte, with a space before each
pub spaced_words : (text : List ℕ) → spaced_bytes false text ≡ spaced (words_in text)
spaced_words text = (bytes_are text).0

-- A space before each word, and between two.

spaced_first : (word : List ℕ) (words : List (List ℕ))
    → spaced (word ∷ words) ≡ 32 ∷ joined (word ∷ words)
spaced_first word [] = ap (λ (t : List ℕ). 32 ∷ t) (append-nil word)
spaced_first word (next ∷ words) = ap (λ (t : List ℕ). 32 ∷ (word ++ t)) (spaced_first next words)

pub spaced_joined : (words : List (List ℕ)) → drop 1 (spaced words) ≡ joined words
spaced_joined [] = refl
spaced_joined (word ∷ words) = ap (drop 1) (spaced_first word words)

pub spaced_more : (words more : List (List ℕ))
    → spaced (words ++ more) ≡ spaced words ++ spaced more
spaced_more [] more = refl
spaced_more (word ∷ words) more =
    ap (λ (t : List ℕ). 32 ∷ (word ++ t)) (spaced_more words more)
    ∙ ap (λ (t : List ℕ). 32 ∷ t) (sym (append_assoc word (spaced words) (spaced more)))

-- The lists of annotations.

first_of_some : (item : Item) (lists : List (List Item))
    → before_first [] (in_first item lists) ≡ in_first item lists
first_of_some item [] = refl
first_of_some item (list ∷ lists) = refl

-- there is a first list
pub first_of : (items : List Item) → before_first [] (parted_at_moves items)
    ≡ parted_at_moves items
first_of [] = refl
first_of (MoveText word ∷ items) = refl
first_of (GlyphNumber number ∷ items) =
    first_of_some (GlyphNumber number) (parted_at_moves items)
first_of (CommentText text ∷ items) = first_of_some (CommentText text) (parted_at_moves items)
first_of (VariationOpen ∷ items) = first_of_some VariationOpen (parted_at_moves items)
first_of (VariationClose ∷ items) = first_of_some VariationClose (parted_at_moves items)

-- one more element before it
pub one_before : (own : List Item) (item : Item) (lists : List (List Item))
    → before_first own (in_first item lists) ≡ before_first (own ++ item ∷ []) lists
one_before own item [] = refl
one_before own item (list ∷ lists) =
    ap (λ (xs : List Item). xs ∷ lists) (sym (append_assoc own (item ∷ []) list))

-- a move ends the list
pub ended : (lists : List (List Item)) (own : List Item) (word : List ℕ) (items : List Item)
    → lists ++ before_first own (parted_at_moves (MoveText word ∷ items))
    ≡ (lists ++ own ∷ []) ++ before_first [] (parted_at_moves items)
ended lists own word items =
    ap (λ (xs : List Item). lists ++ xs ∷ parted_at_moves items) (append-nil own)
    ∙ sym (append_assoc lists (own ∷ []) (parted_at_moves items))
    ∙ ap (λ xs. (lists ++ own ∷ []) ++ xs) (sym (first_of items))

pub moved : (lists new : List (List Item)) (own : List Item) (word : List ℕ) (items : List Item)
    (all : List (List Item)) (depth : ℕ) → depth ≡ 0 → new ≡ lists ++ own ∷ []
    → lists ++ before_first own (parted_at_moves (main_items (MoveText word ∷ items) depth)) ≡ all
    → new ++ before_first [] (parted_at_moves (main_items items depth)) ≡ all
moved lists new own word items all depth none grown makes =
    rw (none, grown) (sym (ended lists own word (main_items items 0)) ∙ (rw none at makes))

-- nothing is kept at first
pub none_kept : (lists : List (List Item)) (own items : List Item) → lists ≡ [] → own ≡ []
    → lists ++ before_first own (parted_at_moves (main_items items 0)) ≡ annotation_lists items
none_kept lists own items none empty = rw (none, empty) (first_of (main_items items 0))

-- What a column shows.

pub annotation_is : (own : AnnotationColumn) (items : List Item)
    → IsAnnotationCell own items (annotation_value own items)
annotation_is Nags items = refl
annotation_is Comment items = refl
annotation_is Clock items = is_command_value (codes "[%clk ") (comments_text items)
annotation_is Eval items = is_command_value (codes "[%eval ") (comments_text items)

pub one_annotation_cell : (own : AnnotationColumn) (items : List Item) (x y : List ℕ)
    → IsAnnotationCell own items x → IsAnnotationCell own items y → x ≡ y
one_annotation_cell Nags items x y first other = first ∙ sym other
one_annotation_cell Comment items x y first other = first ∙ sym other
one_annotation_cell Clock items x y first other =
    one_command_value (codes "[%clk ") (comments_text items) x y first other
one_annotation_cell Eval items x y first other =
    one_command_value (codes "[%eval ") (comments_text items) x y first other
