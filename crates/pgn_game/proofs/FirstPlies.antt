-- The elements in front of a move of the main line: what they are, and that they are sound where
-- the game is.
use Rattle.std.specs.Prelude.{Option, ◌-◌, ◌==◌, ◌≤◌, if◌then◌else◌, length}
use Rattle.std.proofs.lemmas.List.{append_assoc, length-append}
use Rattle.pgn_game.proofs.Common.{◌≡◌, ℕ, ◌+◌, zero, suc, List, [], ◌∷◌, ◌++◌, refl, sym, ap}
use Rattle.pgn_game.proofs.Common.{◌∙◌, subst, false, inl, inr, take, State, after, Move, Item}
use Rattle.pgn_game.proofs.Common.{main_words, IsMainLine, IsPlayed, AreTurns}
use Rattle.pgn_game.proofs.Common.{Lines, Main, All, LineMove, IsSoundGame, Bool, arith, nat_tests}
use Rattle.pgn_text.specs.Public.Games.{MoveText, GlyphNumber, CommentText, VariationOpen}
use Rattle.pgn_text.specs.Public.Games.{VariationClose}
use Rattle.pgn_text.specs.Public.GameTexts.{IsPaired}
use Rattle.pgn_game.proofs.Common.{Fault, IsFault, IfSome, Some, None}
use Rattle.pgn_game.proofs.OneReplay.{no_fault}
use Rattle.pgn_game.specs.Public.AllLines.{Line, LineEnd, ThenMove, ThenGlyph, ThenComment}
use Rattle.pgn_game.specs.Public.AllLines.{ThenVariation, after_turn, spelled}
use Rattle.pgn_game.specs.Public.Edits.{first_plies}
use Rattle.pgn_game.specs.Public.Laws.{BeginsWithMove, FirstPliesAreABeginning}

-- ---- what they are

-- a move of the main line that is one of them, and one of a variation
one_ply : (plies : ℕ) (word : List ℕ) (items : List Item)
    → first_plies (suc plies) 0 (MoveText word ∷ items)
    ≡ MoveText word ∷ first_plies plies 0 items
one_ply plies word items =
    let some : (suc plies == 0) ≡ false = grind (arith, nat_tests) in
    let less : suc plies - 1 ≡ plies = omega arith in
    ap (λ (b : Bool). if b then [] else MoveText word ∷ first_plies (suc plies - 1) 0 items) some
    ∙ ap (λ left. MoveText word ∷ first_plies left 0 items) less

inside : (plies depth : ℕ) (word : List ℕ) (items : List Item)
    → first_plies plies (suc depth) (MoveText word ∷ items)
    ≡ MoveText word ∷ first_plies plies (suc depth) items
inside plies depth word items =
    let deep : (suc depth == 0) ≡ false = grind (arith, nat_tests) in
    ap (λ (b : Bool). if b
    then (if plies == 0 then [] else MoveText word ∷ first_plies (plies - 1) (suc depth) items)
    else MoveText word ∷ first_plies plies (suc depth) items) deep

front : (plies depth : ℕ) (items : List Item) → (rest : List Item)
    × (items ≡ first_plies plies depth items ++ rest) × BeginsWithMove rest
front plies depth [] = ([], refl, inl refl)
front zero zero (MoveText word ∷ items) = (MoveText word ∷ items, refl, inr (word, items, refl))
front (suc plies) zero (MoveText word ∷ items) =
    let (rest, is, ends) = front plies zero items in (
      rest,
      ap (λ more. MoveText word ∷ more) is
          ∙ ap (λ own. own ++ rest) (sym (one_ply plies word items)),
      ends,
    )
front plies (suc depth) (MoveText word ∷ items) =
    let (rest, is, ends) = front plies (suc depth) items in (
      rest,
      ap (λ more. MoveText word ∷ more) is
          ∙ ap (λ own. own ++ rest) (sym (inside plies depth word items)),
      ends,
    )
front plies depth (GlyphNumber number ∷ items) =
    let (rest, is, ends) = front plies depth items in
    (rest, ap (λ more. GlyphNumber number ∷ more) is, ends)
front plies depth (CommentText text ∷ items) =
    let (rest, is, ends) = front plies depth items in
    (rest, ap (λ more. CommentText text ∷ more) is, ends)
front plies depth (VariationOpen ∷ items) =
    let (rest, is, ends) = front plies (depth + 1) items in
    (rest, ap (λ more. VariationOpen ∷ more) is, ends)
front plies depth (VariationClose ∷ items) =
    let (rest, is, ends) = front plies (depth - 1) items in
    (rest, ap (λ more. VariationClose ∷ more) is, ends)

pub first_paired : (plies depth : ℕ) (items : List Item) → IsPaired depth items
    → IsPaired depth (first_plies plies depth items)
first_paired plies depth [] paired = paired
first_paired zero zero (MoveText word ∷ items) paired = refl
first_paired (suc plies) zero (MoveText word ∷ items) paired =
    subst (IsPaired 0) (sym (one_ply plies word items)) (first_paired plies zero items paired)
first_paired plies (suc depth) (MoveText word ∷ items) paired =
    subst (IsPaired (suc depth)) (sym (inside plies depth word items))
    (first_paired plies (suc depth) items paired)
first_paired plies depth (GlyphNumber number ∷ items) paired =
    first_paired plies depth items paired
first_paired plies depth (CommentText text ∷ items) paired = first_paired plies depth items paired
first_paired plies depth (VariationOpen ∷ items) paired =
    first_paired plies (depth + 1) items paired
first_paired plies depth (VariationClose ∷ items) paired =
    (paired.0, first_paired plies (depth - 1) items paired.1)

no_words : (plies depth : ℕ) → main_words [] depth ≡ take plies (main_words [] depth)
no_words zero depth = refl
no_words (suc plies) depth = refl

not_main : (depth : ℕ) (word : List ℕ) (items : List Item)
    → main_words (MoveText word ∷ items) (suc depth) ≡ main_words items (suc depth)
not_main depth word items =
    let deep : (suc depth == 0) ≡ false = grind (arith, nat_tests) in
    ap (λ (b : Bool). if b then word ∷ main_words items (suc depth)
    else main_words items (suc depth)) deep

first_words : (plies depth : ℕ) (items : List Item)
    → main_words (first_plies plies depth items) depth ≡ take plies (main_words items depth)
first_words plies depth [] = no_words plies depth
first_words zero zero (MoveText word ∷ items) = refl
first_words (suc plies) zero (MoveText word ∷ items) =
    ap (λ own. main_words own 0) (one_ply plies word items)
    ∙ ap (λ words. word ∷ words) (first_words plies zero items)
first_words plies (suc depth) (MoveText word ∷ items) =
    ap (λ own. main_words own (suc depth)) (inside plies depth word items)
    ∙ not_main depth word (first_plies plies (suc depth) items)
    ∙ first_words plies (suc depth) items
    ∙ ap (take plies) (sym (not_main depth word items))
first_words plies depth (GlyphNumber number ∷ items) = first_words plies depth items
first_words plies depth (CommentText text ∷ items) = first_words plies depth items
first_words plies depth (VariationOpen ∷ items) = first_words plies (depth + 1) items
first_words plies depth (VariationClose ∷ items) = first_words plies (depth - 1) items

take_front : (own rest : List Item) → take (length own) (own ++ rest) ≡ own
take_front [] rest = refl
take_front (item ∷ own) rest = ap (λ items. item ∷ items) (take_front own rest)

-- so many elements are they
pub first_taken : (plies : ℕ) (items : List Item)
    → take (length (first_plies plies 0 items)) items ≡ first_plies plies 0 items
first_taken plies items =
    let (rest, is, _) = front plies 0 items in
    ap (take (length (first_plies plies 0 items))) is
    ∙ take_front (first_plies plies 0 items) rest

pub first_within : (plies : ℕ) (items : List Item)
    → length (first_plies plies 0 items) ≤ length items
first_within plies items =
    let (rest, is, _) = front plies 0 items in
    let whole = ap length is ∙ length-append (first_plies plies 0 items) rest in
    omega arith

pub first_plies_beginning : FirstPliesAreABeginning
first_plies_beginning plies items =
    let (rest, is, ends) = front plies 0 items in
    (rest, is, ends, first_words plies 0 items, first_paired plies 0 items)

-- ---- they are sound

-- the line up to a ply
abbrev pub cut : ℕ → Line → Line
cut plies LineEnd = LineEnd
cut zero (ThenMove word rest) = LineEnd
cut (suc plies) (ThenMove word rest) = ThenMove word (cut plies rest)
cut plies (ThenGlyph number rest) = ThenGlyph number (cut plies rest)
cut plies (ThenComment text rest) = ThenComment text (cut plies rest)
cut plies (ThenVariation inner rest) = ThenVariation inner (cut plies rest)

-- a line inside is passed over
passed_over : (line : Line) (plies depth : ℕ) (more : List Item)
    → first_plies plies (suc depth) (spelled line ++ more)
    ≡ spelled line ++ first_plies plies (suc depth) more
passed_over LineEnd plies depth more = refl
passed_over (ThenMove word rest) plies depth more =
    inside plies depth word (spelled rest ++ more)
    ∙ ap (λ items. MoveText word ∷ items) (passed_over rest plies depth more)
passed_over (ThenGlyph number rest) plies depth more =
    ap (λ items. GlyphNumber number ∷ items) (passed_over rest plies depth more)
passed_over (ThenComment text rest) plies depth more =
    ap (λ items. CommentText text ∷ items) (passed_over rest plies depth more)
passed_over (ThenVariation inner rest) plies depth more =
    let deeper : suc depth + 1 ≡ suc (suc depth) = omega arith in
    let back : suc (suc depth) - 1 ≡ suc depth = omega arith in
    ap (λ items. VariationOpen ∷ items)
    (ap (λ d. first_plies plies d ((spelled inner ++ VariationClose ∷ spelled rest) ++ more)) deeper
    ∙ ap (first_plies plies (suc (suc depth)))
    (append_assoc (spelled inner) (VariationClose ∷ spelled rest) more)
    ∙ passed_over inner plies (suc depth) (VariationClose ∷ (spelled rest ++ more))
    ∙ ap (λ d. spelled inner ++ VariationClose ∷ first_plies plies d (spelled rest ++ more)) back
    ∙ ap (λ items. spelled inner ++ VariationClose ∷ items) (passed_over rest plies depth more)
    ∙ sym (append_assoc (spelled inner) (VariationClose ∷ spelled rest)
    (first_plies plies (suc depth) more)))

pub first_spelled : (line : Line) (plies : ℕ)
    → first_plies plies 0 (spelled line) ≡ spelled (cut plies line)
first_spelled LineEnd plies = refl
first_spelled (ThenMove word rest) zero = refl
first_spelled (ThenMove word rest) (suc plies) =
    one_ply plies word (spelled rest)
    ∙ ap (λ items. MoveText word ∷ items) (first_spelled rest plies)
first_spelled (ThenGlyph number rest) plies =
    ap (λ items. GlyphNumber number ∷ items) (first_spelled rest plies)
first_spelled (ThenComment text rest) plies =
    ap (λ items. CommentText text ∷ items) (first_spelled rest plies)
first_spelled (ThenVariation inner rest) plies =
    ap (λ items. VariationOpen ∷ items)
    (passed_over inner plies 0 (VariationClose ∷ spelled rest)
    ∙ ap (λ items. spelled inner ++ VariationClose ∷ items) (first_spelled rest plies))

pub first_turns : (line : Line) (plies : ℕ) (inside : Bool) (before now : State)
    (turns : List LineMove) → IsPlayed inside before now line turns
    → (own : List LineMove) × IsPlayed inside before now (cut plies line) own
first_turns LineEnd plies inside before now turns played = ([], refl)
first_turns (ThenMove word rest) zero inside before now turns played = ([], refl)
first_turns (ThenMove word rest) (suc plies) inside before now turns
    (turn, more, is, says, played) =
    let (own, later) = first_turns rest plies inside now (after_turn now turn) more played in
    (turn ∷ own, (turn, own, refl, says, later))
first_turns (ThenGlyph number rest) plies inside before now turns played =
    first_turns rest plies inside before now turns played
first_turns (ThenComment text rest) plies inside before now turns played =
    first_turns rest plies inside before now turns played
first_turns (ThenVariation inner rest) plies inside before now turns
    (own, more, is, played, later) =
    let (others, ends) = first_turns rest plies inside before now more later in
    (own ++ others, (own, others, refl, played, ends))

first_line : (plies : ℕ) (now : State) (words : List (List ℕ)) (positions : List State)
    (played : List Move) → IsMainLine now words positions played
    → (others : List State) × (moves : List Move) × IsMainLine now (take plies words) others moves
first_line zero now words positions played line = (now ∷ [], [], (refl, refl))
first_line (suc plies) now [] positions played line = (now ∷ [], [], (refl, refl))
first_line (suc plies) now (word ∷ words) positions played (m, later, more, _, _, named, rest) =
    let (others, moves, is) = first_line plies (after now m) words later more rest in
    (now ∷ others, m ∷ moves, (m, others, moves, refl, refl, named, is))

first_of_all : (lines : Lines) (plies : ℕ) (start : State) (items : List Item)
    (turns : List LineMove) → AreTurns lines start items turns
    → (own : List LineMove) × AreTurns lines start (first_plies plies 0 items) own
first_of_all Main plies start items turns are = ([], refl)
first_of_all All plies start items turns (line, spells, played) =
    let (own, ends) = first_turns line plies false start start turns played in
    (own, (cut plies line, ap (first_plies plies 0) spells ∙ first_spelled line plies, ends))

pub sound_first : (lines : Lines) (fen : Option (List ℕ)) (plies : ℕ) (items : List Item)
    → IsSoundGame lines fen items → IsSoundGame lines fen (first_plies plies 0 items)
sound_first lines fen plies items (replay, is) =
    let (others, moves, line) =
    first_line plies is.start (main_words items 0) replay.positions replay.played is.line in
    let (turns, are) = first_of_all lines plies is.start items replay.turns is.turns in (
      record { positions = others; played = moves; turns = turns },
      record {
        start = is.start;
        is_start = is.is_start;
        line = subst (λ words. IsMainLine is.start words others moves)
            (sym (first_words plies 0 items)) line;
        turns = are;
      },
    )

-- so they have no fault
pub none_of_first : (lines : Lines) (fen : Option (List ℕ)) (plies : ℕ) (items : List Item)
    (fault : Option Fault) → IsSoundGame lines fen items
    → IfSome fault (IsFault lines fen (first_plies plies 0 items)) → fault ≡ None
none_of_first lines fen plies items None sound is = refl
none_of_first lines fen plies items (Some fault) sound is =
    absurd (no_fault lines fen (first_plies plies 0 items) fault
    (sound_first lines fen plies items sound) is)
