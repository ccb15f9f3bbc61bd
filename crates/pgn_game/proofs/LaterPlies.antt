-- The elements after so many plies: what they are, and that they are sound where the game is.
use Rattle.std.specs.Prelude.{◌-◌, ◌==◌, ◌&&◌, if◌then◌else◌}
use Rattle.std.proofs.lemmas.List.{append_assoc}
use Rattle.pgn_game.proofs.Common.{◌≡◌, ℕ, ◌+◌, zero, suc, List, [], ◌∷◌, ◌++◌, refl, sym, ap}
use Rattle.pgn_game.proofs.Common.{◌∙◌, subst, false, drop, State, after, Move, Item, Some, None}
use Rattle.pgn_game.proofs.Common.{main_words, IsMainLine, IsPlayed, AreTurns}
use Rattle.pgn_game.proofs.Common.{Lines, Main, All, LineMove, Bool, arith, nat_tests, slice_get}
use Rattle.pgn_game.proofs.Common.{same_Some, own_words, Played, IsSound}
use Rattle.pgn_text.specs.Public.Games.{MoveText, GlyphNumber, CommentText, VariationOpen}
use Rattle.pgn_text.specs.Public.Games.{VariationClose}
use Rattle.pgn_text.specs.Public.GameTexts.{IsPaired}
use Rattle.pgn_game.proofs.OneLine.{main_words_of, one_turn}
use Rattle.pgn_game.proofs.OneReplay.{line_head}
use Rattle.chess.proofs.SoundFacts.{after_sound}
use Rattle.pgn_game.specs.Public.AllLines.{Line, LineEnd, ThenMove, ThenGlyph, ThenComment}
use Rattle.pgn_game.specs.Public.AllLines.{ThenVariation, after_turn, spelled}
use Rattle.pgn_game.specs.Public.LaterPlies.{later_plies}
use Rattle.pgn_game.specs.Public.Laws.{LaterPliesAreTheRest, LaterPliesAreReplayed}

-- ---- what they are

-- a move of the main line that is passed, one of a variation, and a comment that is passed
one_passed : (plies : ℕ) (word : List ℕ) (items : List Item)
    → later_plies (suc plies) 0 (MoveText word ∷ items) ≡ later_plies plies 0 items
one_passed plies word items =
    let some : (suc plies == 0) ≡ false = grind (arith, nat_tests) in
    let less : suc plies - 1 ≡ plies = omega arith in
    ap (λ (b : Bool). if b then MoveText word ∷ items else later_plies (suc plies - 1) 0 items) some
    ∙ ap (λ left. later_plies left 0 items) less

inside : (plies depth : ℕ) (word : List ℕ) (items : List Item)
    → later_plies plies (suc depth) (MoveText word ∷ items) ≡ later_plies plies (suc depth) items
inside plies depth word items =
    let deep : (suc depth == 0) ≡ false = grind (arith, nat_tests) in
    ap (λ (b : Bool). if b
    then (if plies == 0 then MoveText word ∷ items else later_plies (plies - 1) (suc depth) items)
    else later_plies plies (suc depth) items) deep

inside_comment : (plies depth : ℕ) (text : List ℕ) (items : List Item)
    → later_plies plies (suc depth) (CommentText text ∷ items)
    ≡ later_plies plies (suc depth) items
inside_comment plies depth text items =
    let deep : (suc depth == 0) ≡ false = grind (arith, nat_tests) in
    ap (λ (b : Bool). if (b && plies == 0)
    then CommentText text ∷ later_plies plies (suc depth) items
    else later_plies plies (suc depth) items) deep

passed_comment : (plies : ℕ) (text : List ℕ) (items : List Item)
    → later_plies (suc plies) 0 (CommentText text ∷ items) ≡ later_plies (suc plies) 0 items
passed_comment plies text items =
    let some : (suc plies == 0) ≡ false = grind (arith, nat_tests) in
    ap (λ (b : Bool). if b then CommentText text ∷ later_plies (suc plies) 0 items
    else later_plies (suc plies) 0 items) some

pub later_paired : (plies depth : ℕ) (items : List Item) → IsPaired depth items
    → IsPaired 0 (later_plies plies depth items)
later_paired plies depth [] paired = refl
later_paired zero zero (MoveText word ∷ items) paired = paired
later_paired (suc plies) zero (MoveText word ∷ items) paired =
    subst (IsPaired 0) (sym (one_passed plies word items)) (later_paired plies zero items paired)
later_paired plies (suc depth) (MoveText word ∷ items) paired =
    subst (IsPaired 0) (sym (inside plies depth word items))
    (later_paired plies (suc depth) items paired)
later_paired plies depth (GlyphNumber number ∷ items) paired =
    later_paired plies depth items paired
later_paired zero zero (CommentText text ∷ items) paired = later_paired zero zero items paired
later_paired (suc plies) zero (CommentText text ∷ items) paired =
    subst (IsPaired 0) (sym (passed_comment plies text items))
    (later_paired (suc plies) zero items paired)
later_paired plies (suc depth) (CommentText text ∷ items) paired =
    subst (IsPaired 0) (sym (inside_comment plies depth text items))
    (later_paired plies (suc depth) items paired)
later_paired plies depth (VariationOpen ∷ items) paired =
    later_paired plies (depth + 1) items paired
later_paired plies depth (VariationClose ∷ items) paired =
    later_paired plies (depth - 1) items paired.1

no_words : (plies : ℕ) → main_words [] 0 ≡ drop plies (main_words [] 0)
no_words zero = refl
no_words (suc plies) = refl

not_main : (depth : ℕ) (word : List ℕ) (items : List Item)
    → main_words items (suc depth) ≡ main_words (MoveText word ∷ items) (suc depth)
not_main depth word items =
    let deep : (suc depth == 0) ≡ false = grind (arith, nat_tests) in
    sym (ap (λ (b : Bool). if b then word ∷ main_words items (suc depth)
    else main_words items (suc depth)) deep)

later_words : (plies depth : ℕ) (items : List Item)
    → main_words (later_plies plies depth items) 0 ≡ drop plies (main_words items depth)
later_words plies depth [] = no_words plies
later_words zero zero (MoveText word ∷ items) = refl
later_words (suc plies) zero (MoveText word ∷ items) =
    ap (λ own. main_words own 0) (one_passed plies word items) ∙ later_words plies zero items
later_words plies (suc depth) (MoveText word ∷ items) =
    ap (λ own. main_words own 0) (inside plies depth word items)
    ∙ later_words plies (suc depth) items ∙ ap (drop plies) (not_main depth word items)
later_words plies depth (GlyphNumber number ∷ items) = later_words plies depth items
later_words zero zero (CommentText text ∷ items) = later_words zero zero items
later_words (suc plies) zero (CommentText text ∷ items) =
    ap (λ own. main_words own 0) (passed_comment plies text items)
    ∙ later_words (suc plies) zero items
later_words plies (suc depth) (CommentText text ∷ items) =
    ap (λ own. main_words own 0) (inside_comment plies depth text items)
    ∙ later_words plies (suc depth) items
later_words plies depth (VariationOpen ∷ items) = later_words plies (depth + 1) items
later_words plies depth (VariationClose ∷ items) = later_words plies (depth - 1) items

pub later_plies_rest : LaterPliesAreTheRest
later_plies_rest plies items = (later_words plies 0 items, later_paired plies 0 items)

-- ---- they are sound

-- the line from a ply on
abbrev rest_of : ℕ → Line → Line
rest_of plies LineEnd = LineEnd
rest_of zero (ThenMove word rest) = ThenMove word rest
rest_of (suc plies) (ThenMove word rest) = rest_of plies rest
rest_of plies (ThenGlyph number rest) = rest_of plies rest
rest_of zero (ThenComment text rest) = ThenComment text (rest_of zero rest)
rest_of (suc plies) (ThenComment text rest) = rest_of (suc plies) rest
rest_of plies (ThenVariation inner rest) = rest_of plies rest

-- a line inside is passed over
passed_over : (line : Line) (plies depth : ℕ) (more : List Item)
    → later_plies plies (suc depth) (spelled line ++ more) ≡ later_plies plies (suc depth) more
passed_over LineEnd plies depth more = refl
passed_over (ThenMove word rest) plies depth more =
    inside plies depth word (spelled rest ++ more) ∙ passed_over rest plies depth more
passed_over (ThenGlyph number rest) plies depth more = passed_over rest plies depth more
passed_over (ThenComment text rest) plies depth more =
    inside_comment plies depth text (spelled rest ++ more) ∙ passed_over rest plies depth more
passed_over (ThenVariation inner rest) plies depth more =
    let deeper : suc depth + 1 ≡ suc (suc depth) = omega arith in
    let back : suc (suc depth) - 1 ≡ suc depth = omega arith in
    ap (λ d. later_plies plies d ((spelled inner ++ VariationClose ∷ spelled rest) ++ more)) deeper
    ∙ ap (later_plies plies (suc (suc depth)))
    (append_assoc (spelled inner) (VariationClose ∷ spelled rest) more)
    ∙ passed_over inner plies (suc depth) (VariationClose ∷ (spelled rest ++ more))
    ∙ ap (λ d. later_plies plies d (spelled rest ++ more)) back
    ∙ passed_over rest plies depth more

later_spelled : (line : Line) (plies : ℕ)
    → later_plies plies 0 (spelled line) ≡ spelled (rest_of plies line)
later_spelled LineEnd plies = refl
later_spelled (ThenMove word rest) zero = refl
later_spelled (ThenMove word rest) (suc plies) =
    one_passed plies word (spelled rest) ∙ later_spelled rest plies
later_spelled (ThenGlyph number rest) plies = later_spelled rest plies
later_spelled (ThenComment text rest) zero =
    ap (λ items. CommentText text ∷ items) (later_spelled rest zero)
later_spelled (ThenComment text rest) (suc plies) =
    passed_comment plies text (spelled rest) ∙ later_spelled rest (suc plies)
later_spelled (ThenVariation inner rest) plies =
    passed_over inner plies 0 (VariationClose ∷ spelled rest) ∙ later_spelled rest plies

-- the main line from a position of it on
pub rest_line : (words : List (List ℕ)) (now : State) (positions : List State)
    (played : List Move) → IsMainLine now words positions played
    → (ply : ℕ) (P : State) → slice_get positions ply ≡ Some P
    → IsMainLine P (drop ply words) (drop ply positions) (drop ply played)
rest_line [] now positions played line zero P here =
    subst (λ s. IsMainLine s [] positions played)
    (same_Some now P (sym (line_head now [] positions played line) ∙ here)) line
rest_line [] now positions played line (suc ply) P here =
    let none : None ≡ Some P = sym (ap (λ ps. slice_get ps (suc ply)) line.0) ∙ here in absurd (cc)
rest_line (word ∷ words) now positions played line zero P here =
    subst (λ s. IsMainLine s (word ∷ words) positions played)
    (same_Some now P (sym (line_head now (word ∷ words) positions played line) ∙ here)) line
rest_line (word ∷ words) now positions played (m, later, more, is, moves, named, rest) (suc ply) P
    here =
    rw (is, moves) (rest_line words (after now m) later more rest ply P
    (sym (ap (λ ps. slice_get ps (suc ply)) is) ∙ here))

-- and all lines
rest_turns : (line : Line) (plies : ℕ) (before now : State) (turns : List LineMove)
    (positions : List State) (played : List Move) (P other : State)
    → IsPlayed false before now line turns → IsMainLine now (own_words line) positions played
    → slice_get positions plies ≡ Some P
    → (own : List LineMove) × IsPlayed false other P (rest_of plies line) own
rest_turns LineEnd plies before now turns positions played P other all line here = ([], refl)
rest_turns (ThenMove word rest) zero before now turns positions played P other all line here = (
  turns,
  subst (λ s. IsPlayed false other s (ThenMove word rest) turns)
      (same_Some now P (sym (line_head now (word ∷ own_words rest) positions played line) ∙ here))
      all,
)
rest_turns (ThenMove word rest) (suc plies) before now turns positions played P other
    (turn, more, is, says, all) (m, later, moves, positions_is, played_is, named, line) here =
    let same : turn ≡ Played m = one_turn false now word turn (Played m) says named in
    rest_turns rest plies now (after now m) more later moves P other
    (subst (λ t. IsPlayed false now (after_turn now t) rest more) same all) line
    (sym (ap (λ ps. slice_get ps (suc plies)) positions_is) ∙ here)
rest_turns (ThenGlyph number rest) plies before now turns positions played P other all line here =
    rest_turns rest plies before now turns positions played P other all line here
rest_turns (ThenComment text rest) zero before now turns positions played P other all line here =
    rest_turns rest zero before now turns positions played P other all line here
rest_turns (ThenComment text rest) (suc plies) before now turns positions played P other all line
    here =
    rest_turns rest (suc plies) before now turns positions played P other all line here
rest_turns (ThenVariation inner rest) plies before now turns positions played P other
    (own, more, is, within, all) line here =
    rest_turns rest plies before now more positions played P other all line here

rest_of_all : (lines : Lines) (start : State) (items : List Item) (turns : List LineMove)
    (positions : List State) (played : List Move) (ply : ℕ) (P : State)
    → AreTurns lines start items turns → IsMainLine start (main_words items 0) positions played
    → slice_get positions ply ≡ Some P
    → (own : List LineMove) × AreTurns lines P (later_plies ply 0 items) own
rest_of_all Main start items turns positions played ply P are line here = ([], refl)
rest_of_all All start items turns positions played ply P (tree, spells, all) line here =
    let words : main_words items 0 ≡ own_words tree =
    ap (λ xs. main_words xs 0) spells ∙ main_words_of tree in
    let (own, ends) =
    rest_turns tree ply start start turns positions played P P all
    (subst (λ ws. IsMainLine start ws positions played) words line) here in
    (own, (rest_of ply tree, ap (later_plies ply 0) spells ∙ later_spelled tree ply, ends))

pub later_replayed : LaterPliesAreReplayed
later_replayed lines fen contents items replay ply P is here start =
    let (turns, are) =
    rest_of_all lines is.start items replay.turns replay.positions replay.played ply P is.turns
    is.line here in (
      record {
        positions = drop ply replay.positions;
        played = drop ply replay.played;
        turns = turns;
      },
      record {
        start = P;
        is_start = start;
        line = subst (λ words. IsMainLine P words (drop ply replay.positions)
            (drop ply replay.played)) (sym (later_words ply 0 items))
            (rest_line (main_words items 0) is.start replay.positions replay.played is.line ply P
            here);
        turns = are;
      },
      refl,
      refl,
    )

-- ---- each position of a main line is sound

pub line_sound : (words : List (List ℕ)) (now : State) (positions : List State)
    (played : List Move) → IsSound now → IsMainLine now words positions played
    → (ply : ℕ) (P : State) → slice_get positions ply ≡ Some P → IsSound P
line_sound [] now positions played sound line zero P here =
    subst IsSound (same_Some now P (sym (line_head now [] positions played line) ∙ here)) sound
line_sound [] now positions played sound line (suc ply) P here =
    let none : None ≡ Some P = sym (ap (λ ps. slice_get ps (suc ply)) line.0) ∙ here in absurd (cc)
line_sound (word ∷ words) now positions played sound line zero P here =
    subst IsSound
    (same_Some now P (sym (line_head now (word ∷ words) positions played line) ∙ here)) sound
line_sound (word ∷ words) now positions played sound (m, later, more, is, moves, named, rest)
    (suc ply) P here =
    line_sound words (after now m) later more
    (after_sound now m (record { sound = sound; rules = named.named.legal.pseudo_legal })
    named.named.legal.safe) rest ply P (sym (ap (λ ps. slice_get ps (suc ply)) is) ∙ here)
