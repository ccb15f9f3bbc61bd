-- What is a line's own is no other's, and the lines of a game have one text at most.
use Rattle.std.specs.Prelude.{Bool, IsPermutation}
use Rattle.std.proofs.lemmas.List.Sorted.{IsPermutation-append, IsPermutation-append_comm}
use Rattle.std.proofs.lemmas.List.Sorted.{IsPermutation-cons, IsPermutation-refl}
use Rattle.std.proofs.lemmas.List.Sorted.{IsPermutation-trans}
use Rattle.pgn_game.proofs.Common.{◌≡◌, ℕ, List, [], ◌∷◌, ◌++◌, refl, sym, ap, ◌∙◌, subst}
use Rattle.pgn_game.proofs.Common.{append_assoc, Item, MoveText, GlyphNumber, CommentText}
use Rattle.pgn_game.proofs.Common.{VariationOpen, VariationClose, Line, LineEnd, ThenMove}
use Rattle.pgn_game.proofs.Common.{ThenGlyph}
use Rattle.pgn_game.proofs.Common.{ThenComment, ThenVariation, spelled, GameText, tag_in, fen_tag}
use Rattle.pgn_game.proofs.Common.{main_words}
use Rattle.pgn_game.specs.Public.Laws.{EachElementIsOfOneLine, LinesHaveOneText, own_parts}
use Rattle.pgn_game.specs.Public.Laws.{without_parentheses}
use Rattle.pgn_game.specs.Public.LineGames.{AreTextsOf, AsExports, IsTextOfLine, LineGame}
use Rattle.pgn_game.specs.Public.LineGames.{LineLayout, OnLines, as_game, lines_of, own_items}
use Rattle.pgn_game.specs.Public.LineGames.{variations_in}
use Rattle.pgn_game.proofs.OneEdited.{one_edited_line}
use Rattle.pgn_game.proofs.Spelling.{one_tree}
use Rattle.pgn_game.proofs.TurnTextFacts.{one_line_text}

-- ---- each element is one line's own

without_joined : (first second : List Item)
    → without_parentheses (first ++ second)
    ≡ without_parentheses first ++ without_parentheses second
without_joined [] second = refl
without_joined (MoveText word ∷ first) second =
    ap (λ items. MoveText word ∷ items) (without_joined first second)
without_joined (GlyphNumber number ∷ first) second =
    ap (λ items. GlyphNumber number ∷ items) (without_joined first second)
without_joined (CommentText text ∷ first) second =
    ap (λ items. CommentText text ∷ items) (without_joined first second)
without_joined (VariationOpen ∷ first) second = without_joined first second
without_joined (VariationClose ∷ first) second = without_joined first second

own_joined : (first second : List LineGame)
    → own_parts (first ++ second) ≡ own_parts first ++ own_parts second
own_joined [] second = refl
own_joined (line ∷ first) second = ap (λ items. line.own ++ items) (own_joined first second)
    ∙ sym (append_assoc line.own (own_parts first) (own_parts second))

-- two lines with what stands in them, of which the second comes first
pub turned : {X : Type 0} (inner within rest later : List X)
    → IsPermutation ((inner ++ within) ++ (rest ++ later)) (rest ++ (inner ++ (within ++ later)))
turned inner within rest later =
    let own = inner ++ within in
    let front = append_assoc own rest later in
    let back = append_assoc rest own later
    ∙ ap (λ items. rest ++ items) (append_assoc inner within later) in
    subst (λ items. IsPermutation items (rest ++ (inner ++ (within ++ later)))) front
    (subst (IsPermutation ((own ++ rest) ++ later)) back
    (IsPermutation-append (own ++ rest) (rest ++ own) later later
    (IsPermutation-append_comm own rest) (IsPermutation-refl later)))

each_of_one : (line : Line) (before now : List (List ℕ))
    → IsPermutation (without_parentheses (spelled line))
    (own_items line ++ own_parts (variations_in before now line))
each_of_one LineEnd before now = IsPermutation-refl []
each_of_one (ThenMove word rest) before now =
    IsPermutation-cons (MoveText word) (without_parentheses (spelled rest))
    (own_items rest ++ own_parts (variations_in now (now ++ word ∷ []) rest))
    (each_of_one rest now (now ++ word ∷ []))
each_of_one (ThenGlyph number rest) before now =
    IsPermutation-cons (GlyphNumber number) (without_parentheses (spelled rest))
    (own_items rest ++ own_parts (variations_in before now rest)) (each_of_one rest before now)
each_of_one (ThenComment text rest) before now =
    IsPermutation-cons (CommentText text) (without_parentheses (spelled rest))
    (own_items rest ++ own_parts (variations_in before now rest)) (each_of_one rest before now)
each_of_one (ThenVariation inner rest) before now =
    let within = variations_in before before inner in
    let later = variations_in before now rest in
    let own = own_items inner in
    let others = own_items rest in
    subst (λ items. IsPermutation items (others ++ (own ++ own_parts (within ++ later))))
    (sym (without_joined (spelled inner) (VariationClose ∷ spelled rest)))
    (subst (λ items. IsPermutation
    (without_parentheses (spelled inner) ++ without_parentheses (spelled rest))
    (others ++ (own ++ items))) (sym (own_joined within later))
    (IsPermutation-trans
    (without_parentheses (spelled inner) ++ without_parentheses (spelled rest))
    ((own ++ own_parts within) ++ (others ++ own_parts later))
    (others ++ (own ++ (own_parts within ++ own_parts later)))
    (IsPermutation-append (without_parentheses (spelled inner)) (own ++ own_parts within)
    (without_parentheses (spelled rest)) (others ++ own_parts later)
    (each_of_one inner before before) (each_of_one rest before now))
    (turned own (own_parts within) others (own_parts later))))

pub each_element : EachElementIsOfOneLine
each_element line = each_of_one line [] []

-- ---- one text

one_of_line : (layout : LineLayout) (inside : Bool) (line : GameText) (text other : List ℕ)
    → IsTextOfLine layout inside line text → IsTextOfLine layout inside line other → text ≡ other
one_of_line (AsExports edits style) inside line text other is also =
    one_edited_line inside edits style line text other is also
one_of_line (OnLines notation before) inside line text other (own, is, spells)
    (own2, also, spells2) =
    spells
    ∙ ap (λ bytes. before ++ bytes ++ 10 ∷ []) (one_line_text notation inside
    (tag_in fen_tag line.tags) (main_words line.elements 0) own own2 is also)
    ∙ sym spells2

module _ (layout : LineLayout) (game : GameText) where
  one_of_each : (lines : List LineGame) (text other : List ℕ)
      → AreTextsOf layout game lines text → AreTextsOf layout game lines other → text ≡ other
  one_of_each [] text other is also = is ∙ sym also
  one_of_each (line ∷ more) text other (own, rest, parted, is, later) (
    own2,
    rest2,
    split,
    is2,
    others,
  ) =
      parted ∙ ap (λ bytes. bytes ++ rest)
      (one_of_line layout line.inside (as_game game line) own own2 is is2)
      ∙ ap (λ bytes. own2 ++ bytes) (one_of_each more rest rest2 later others) ∙ sym split

pub one_text_of_lines : LinesHaveOneText
one_text_of_lines layout game text other (line, spells, is) (line2, spells2, also) =
    one_of_each layout game (lines_of line) text other is
    (subst (λ l. AreTextsOf layout game (lines_of l) other)
    (one_tree line2 line (sym spells2 ∙ spells)) also)
