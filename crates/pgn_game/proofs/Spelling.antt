-- Paired elements spell one line.
use Rattle.pgn_game.proofs.Common.{◌≡◌, ℕ, ◌+◌, ◌-◌, ◌<◌, List, [], ◌∷◌, ◌++◌, length, refl, sym}
use Rattle.pgn_game.proofs.Common.{ap, ◌∙◌, append_assoc, arith, Item, MoveText, GlyphNumber}
use Rattle.pgn_game.proofs.Common.{CommentText, VariationOpen, VariationClose, IsPaired, Line}
use Rattle.pgn_game.proofs.Common.{LineEnd, ThenMove, ThenGlyph, ThenComment, ThenVariation}
use Rattle.pgn_game.proofs.Common.{spelled}
use Rattle.pgn_game.proofs.Cells.{same_first}

-- the line and those further out, joined by the ends of variations
abbrev pub spelled_out : Line → List Line → List Item
spelled_out line [] = spelled line
spelled_out line (next ∷ outer) = spelled line ++ VariationClose ∷ spelled_out next outer

abbrev pub SpeltAt : ℕ → List Item → Type 0
SpeltAt depth items = (line : Line) × (outer : List Line) × (length outer ≡ depth)
    × (items ≡ spelled_out line outer)

-- one element more
in_front : (make : Line → Line) (item : Item)
    → ((line : Line) → spelled (make line) ≡ item ∷ spelled line)
    → (line : Line) (outer : List Line) → spelled_out (make line) outer
    ≡ item ∷ spelled_out line outer
in_front make item spells line [] = spells line
in_front make item spells line (next ∷ outer) =
    ap (λ items. items ++ VariationClose ∷ spelled_out next outer) (spells line)

grown : (make : Line → Line) (item : Item)
    → ((line : Line) → spelled (make line) ≡ item ∷ spelled line)
    → (depth : ℕ) (items : List Item) → SpeltAt depth items → SpeltAt depth (item ∷ items)
grown make item spells depth items (line, outer, count, is) = (
  make line,
  outer,
  count,
  ap (λ more. item ∷ more) is ∙ sym (in_front make item spells line outer),
)

opened : (inner next : Line) (outer : List Line) → VariationOpen ∷ spelled_out inner (next ∷ outer)
    ≡ spelled_out (ThenVariation inner next) outer
opened inner next [] = refl
opened inner next (further ∷ outer) =
    ap (λ more. VariationOpen
    ∷ more) (sym (append_assoc (spelled inner) (VariationClose ∷ spelled next) (VariationClose
    ∷ spelled_out further outer)))

begins : (depth : ℕ) (items : List Item) → SpeltAt (depth + 1) items
    → SpeltAt depth (VariationOpen ∷ items)
begins depth items (line, [], count, is) = absurd (omega arith)
begins depth items (line, next ∷ outer, count, is) = (
  ThenVariation line next,
  outer,
  omega arith,
  ap (λ more. VariationOpen ∷ more) is ∙ opened line next outer,
)

ends : (depth : ℕ) (items : List Item) → 0 < depth → SpeltAt (depth - 1) items
    → SpeltAt depth (VariationClose ∷ items)
ends depth items below (line, outer, count, is) =
    (LineEnd, line ∷ outer, omega arith, ap (λ more. VariationClose ∷ more) is)

spelt_at : (items : List Item) (depth : ℕ) → IsPaired depth items → SpeltAt depth items
spelt_at [] depth paired = outermost depth paired
  where
    outermost : (depth : ℕ) → IsPaired depth [] → SpeltAt depth []
    outermost depth none = (LineEnd, [], sym none, refl)
spelt_at (MoveText word ∷ items) depth paired =
    grown (λ line. ThenMove word line) (MoveText word) (λ _.
    refl) depth items (spelt_at items depth paired)
spelt_at (GlyphNumber number ∷ items) depth paired =
    grown (λ line. ThenGlyph number line) (GlyphNumber number) (λ _.
    refl) depth items (spelt_at items depth paired)
spelt_at (CommentText text ∷ items) depth paired =
    grown (λ line. ThenComment text line) (CommentText text) (λ _.
    refl) depth items (spelt_at items depth paired)
spelt_at (VariationOpen ∷ items) depth paired =
    begins depth items (spelt_at items (depth + 1) paired)
spelt_at (VariationClose ∷ items) depth paired =
    ends depth items paired.0 (spelt_at items (depth - 1) paired.1)

pub one_spelt : (items : List Item) → IsPaired 0 items → (line : Line) × (items ≡ spelled line)
one_spelt items paired = outermost (spelt_at items 0 paired)
  where
    outermost : SpeltAt 0 items → (line : Line) × (items ≡ spelled line)
    outermost (line, [], count, is) = (line, is)
    outermost (line, next ∷ outer, count, is) = absurd (omega arith)

-- ---- elements spell one line at most

-- the lines that elements spell from some place on, the innermost first
abbrev pub on_first : (Line → Line) → List Line → List Line
on_first make [] = []
on_first make (line ∷ outer) = make line ∷ outer

abbrev pub varied : List Line → List Line
varied [] = []
varied (inner ∷ []) = []
varied (inner ∷ rest ∷ outer) = ThenVariation inner rest ∷ outer

abbrev pub lines_of : List Item → List Line
lines_of [] = LineEnd ∷ []
lines_of (MoveText word ∷ items) = on_first (ThenMove word) (lines_of items)
lines_of (GlyphNumber number ∷ items) = on_first (ThenGlyph number) (lines_of items)
lines_of (CommentText text ∷ items) = on_first (ThenComment text) (lines_of items)
lines_of (VariationOpen ∷ items) = varied (lines_of items)
lines_of (VariationClose ∷ items) = LineEnd ∷ lines_of items

lines_back : (line : Line) (more : List Item) (outer : List Line) → lines_of more ≡ LineEnd ∷ outer
    → lines_of (spelled line ++ more) ≡ line ∷ outer
lines_back LineEnd more outer is = is
lines_back (ThenMove word line) more outer is =
    ap (on_first (ThenMove word)) (lines_back line more outer is)
lines_back (ThenGlyph number line) more outer is =
    ap (on_first (ThenGlyph number)) (lines_back line more outer is)
lines_back (ThenComment text line) more outer is =
    ap (on_first (ThenComment text)) (lines_back line more outer is)
lines_back (ThenVariation inner line) more outer is =
    ap (λ items. varied (lines_of items))
    (append_assoc (spelled inner) (VariationClose ∷ spelled line) more)
    ∙ ap varied (lines_back inner (VariationClose ∷ (spelled line ++ more)) (line
    ∷ outer) (ap (λ lines. LineEnd ∷ lines) (lines_back line more outer is)))

pub one_tree : (line other : Line) → spelled line ≡ spelled other → line ≡ other
one_tree line other is =
    same_first line other [] [] (sym (lines_back line [] [] refl)
    ∙ ap (λ items. lines_of (items ++ [])) is ∙ lines_back other [] [] refl)
