-- Worked rows of the parts of games, of how they stand and of what is read off them; and what the
-- definitions refuse.
use Rattle.std.proofs.Common.{◌&&◌}
use Rattle.std.specs.Borrow.{Bor}
use Rattle.pgn_text.proofs.Common.{◌≡◌, ◌≢◌, ℕ, ◌+◌, Bool, true, false, ◌||◌, ◌<◌, ◌≤◌, ◌∙◌, List}
use Rattle.pgn_text.proofs.Common.{[], ◌∷◌, ◌++◌, codes, length, refl, ap, sym, take, drop, arith}
use Rattle.pgn_text.proofs.Common.{None, IsTrue, tag_of, MoveText, is_number, is_result_word}
use Rattle.pgn_text.proofs.Common.{is_zero_castling, is_move_text, is_gap_part, is_tag, is_result}
use Rattle.pgn_text.proofs.Common.{is_move, is_open, is_close, is_meant, EachFrom, MoveInLine}
use Rattle.pgn_text.proofs.Common.{depth_after, begins_outside_gap, glyphs_of_marks, items_of_part}
use Rattle.pgn_text.proofs.Common.{result_of, Left, IsPiece, IsMark, GivesMark, largest_offset}
use Rattle.pgn_text.proofs.Common.{MarkedPiece, ReadableGame, UnreadableRest, TooLongBlock}
use Rattle.pgn_text.proofs.Common.{AreOfBlocks, marked, IsPlaceOf, GivesElement, IsFirstTag, Part}
use Rattle.pgn_text.proofs.Common.{ByteOrderMark, White, Brace, Line, EscapeLine, Tag, Word, Star}
use Rattle.pgn_text.proofs.Common.{Dot, Glyph, Marks, Open, Close, Standing, Stands, number_from}
use Rattle.pgn_text.proofs.Common.{number_of, spelled, spelled_part, IsCutShort, IsPastEnd}
use Rattle.pgn_text.specs.Public.GameTexts.{HaveNames}
use Rattle.pgn_text.specs.Public.Games.{GlyphNumber, CommentText, VariationOpen, VariationClose}
use Rattle.pgn_text.specs.Public.Games.{Each, single_mark, double_mark}
use Rattle.pgn_text.specs.Public.LeftMarks.{mark_place}
use Rattle.pgn_text.specs.Public.Marks.{is_readable_kind}
use Rattle.pgn_text.specs.Public.StopPlaces.{PartsThen, PartsThenOther, is_before_movetext}
use Rattle.pgn_text.specs.Public.Pieces as spec
use Rattle.pgn_text.specs.declared.game.pieces.Piece.TheVariants as pieces
use Rattle.pgn_text.specs.declared.game.pieces.PieceStart.TheVariants as starts

-- The bytes of parts.

mark_spelled : spelled_part ByteOrderMark ≡ 239 ∷ 187 ∷ 191 ∷ []
mark_spelled = refl

brace_spelled : spelled_part (Brace (codes "a")) ≡ codes "{a}"
brace_spelled = refl

line_spelled : spelled_part (Line (codes "a")) ≡ codes ";a"
line_spelled = refl

escape_spelled : spelled_part (EscapeLine (codes "a")) ≡ codes "%a"
escape_spelled = refl

tag_spelled : spelled_part (Tag (codes " ") (codes "A") (codes "  ") (codes "b") (codes "   "))
    ≡ codes "[ A  " ++ 34 ∷ (codes "b" ++ 34 ∷ codes "   ]")
tag_spelled = refl

signs_spelled : spelled (White 9 ∷ Word (codes "e4") ∷ Star ∷ Dot ∷ Glyph (codes "1")
    ∷ Marks (codes "!") ∷ Open ∷ Close ∷ []) ≡ 9 ∷ codes "e4*.$1!()"
signs_spelled = refl

digits_number : number_of (codes "139") ≡ 139
digits_number = refl

digits_go_on : number_from 1 (codes "39") ≡ 139
digits_go_on = refl

-- How parts stand: one that is cut short, or has a byte that it may not have, does not.

-- in column one, but not at the start of the file
abbrev column_one : Standing
column_one = record { file_start = false; column_one = true }

-- nowhere in particular
abbrev elsewhere : Standing
elsewhere = record { file_start = false; column_one = false }

no_mark_later : Stands column_one ByteOrderMark [] → ⊥
no_mark_later stands = cc

no_letter_is_white : Stands column_one (White 65) [] → ⊥
no_letter_is_white stands = cc

no_brace_in_a_comment : Stands column_one (Brace (codes "a}b")) [] → ⊥
no_brace_in_a_comment stands = cc

no_line_cut_short : Stands column_one (Line (codes "a")) (codes "b") → ⊥
no_line_cut_short stands = let end = stands.1 in cc

no_escape_elsewhere : Stands elsewhere (EscapeLine (codes "a")) [] → ⊥
no_escape_elsewhere stands = let column = stands.0 in cc

no_tag_without_a_name : Stands column_one (Tag [] [] [] [] []) [] → ⊥
no_tag_without_a_name stands = let some = stands.1 in cc

no_word_cut_short : Stands column_one (Word (codes "e")) (codes "4") → ⊥
no_word_cut_short stands = let end = stands.2 in cc

no_glyph_of_256 : Stands column_one (Glyph (codes "256")) [] → ⊥
no_glyph_of_256 stands = let small = stands.3 in cc

no_glyph_of_four_digits : Stands column_one (Glyph (codes "0001")) [] → ⊥
no_glyph_of_four_digits stands = let few = stands.2 in cc

no_marks_cut_short : Stands column_one (Marks (codes "!")) (codes "?") → ⊥
no_marks_cut_short stands = let end = stands.2 in cc

-- What words and parts are.

number_is_digits : is_number (codes "12") ≡ true
number_is_digits = refl

no_number_with_a_letter : is_number (codes "1a") ≡ false
no_number_with_a_letter = refl

no_number_of_nothing : is_number [] ≡ false
no_number_of_nothing = refl

results_are_words :
    is_result_word (codes "1-0") && (is_result_word (codes "0-1")
    && is_result_word (codes "1/2-1/2"))
    ≡ true
results_are_words = refl

no_result_of_half : is_result_word (codes "1/2") ≡ false
no_result_of_half = refl

zeros_castle : is_zero_castling (codes "0-0") && is_zero_castling (codes "0-0-0#") ≡ true
zeros_castle = refl

no_other_castling : is_zero_castling (codes "0-0x") || is_zero_castling (codes "O-O") ≡ false
no_other_castling = refl

words_are_moves :
    is_move_text (codes "e4") && (is_move_text (codes "0-0") && is_move_text (codes "--")) ≡ true
words_are_moves = refl

no_move_of_digits : is_move_text (codes "1") || is_move_text (codes "-") ≡ false
no_move_of_digits = refl

gaps_have_comments :
    is_gap_part ByteOrderMark && (is_gap_part (White 32) && (is_gap_part (Brace [])
    && (is_gap_part (Line []) && is_gap_part (EscapeLine [])))) ≡ true
gaps_have_comments = refl

gaps_have_nothing_else :
    is_gap_part (Tag [] [] [] [] []) || (is_gap_part (Word []) || (is_gap_part Star
    || (is_gap_part Dot || (is_gap_part (Glyph []) || (is_gap_part (Marks [])
    || (is_gap_part Open || is_gap_part Close)))))) ≡ false
gaps_have_nothing_else = refl

tag_is_a_tag : is_tag (Tag [] [] [] [] []) ≡ true
tag_is_a_tag = refl

word_is_no_tag : is_tag (Word (codes "Event")) ≡ false
word_is_no_tag = refl

star_is_a_result : is_result Star && is_result (Word (codes "1-0")) ≡ true
star_is_a_result = refl

move_is_no_result : is_result (Word (codes "e4")) || is_result Dot ≡ false
move_is_no_result = refl

word_is_a_move : is_move (Word (codes "e4")) ≡ true
word_is_a_move = refl

number_is_no_move : is_move (Word (codes "1")) || is_move (Brace (codes "e4")) ≡ false
number_is_no_move = refl

brackets_are_told_apart : is_open Open && is_close Close ≡ true
brackets_are_told_apart = refl

brackets_are_not_exchanged : is_open Close || (is_close Open || (is_open Star || is_close Star))
    ≡ false
brackets_are_not_exchanged = refl

words_have_meanings :
    is_meant (Word (codes "1")) && (is_meant (Word (codes "e4")) && (is_meant (Word (codes "1-0"))
    && is_meant Star)) ≡ true
words_have_meanings = refl

no_meaning_of_other_words : is_meant (Word (codes "1x")) ≡ false
no_meaning_of_other_words = refl

tags_come_before_movetext :
    is_before_movetext (Tag [] [] [] [] []) && is_before_movetext (White 32) ≡ true
tags_come_before_movetext = refl

no_word_before_movetext : is_before_movetext (Word (codes "e4")) ≡ false
no_word_before_movetext = refl

-- What each part has before and after it.

no_second_part_is_first : Each (λ front (part : Part) back. front ≡ []) (Star ∷ Star ∷ []) → ⊥
no_second_part_is_first each = let second = each.1.0 in cc

no_first_part_is_last : EachFrom (λ front (part : Part) back. back ≡ []) [] (Star ∷ Star ∷ []) → ⊥
no_first_part_is_last each = let first = each.0 in cc

one_is_open : depth_after (Open ∷ Star ∷ Open ∷ Close ∷ []) ≡ 1
one_is_open = refl

nothing_begins_nothing : begins_outside_gap [] ≡ false
nothing_begins_nothing = refl

comment_begins_in_a_gap : begins_outside_gap (Brace [] ∷ Star ∷ []) ≡ false
comment_begins_in_a_gap = refl

move_begins_outside : begins_outside_gap (Word (codes "e4") ∷ []) ≡ true
move_begins_outside = refl

-- A move stands before a variation in its own line: in `e4 (d4) (`, and in `e4 (e5 (`.

move_before_a_variation :
    MoveInLine (Word (codes "e4") ∷ Open ∷ Word (codes "d4") ∷ Close ∷ [])
move_before_a_variation =
    record {
      earlier = [];
      move = Word (codes "e4");
      later = Open ∷ Word (codes "d4") ∷ Close ∷ [];
      parted = refl;
      is_move = refl;
      same_depth = refl;
      one_line = λ some more is. omega arith;
    }

move_in_a_variation : MoveInLine (Word (codes "e4") ∷ Open ∷ Word (codes "e5") ∷ [])
move_in_a_variation =
    record {
      earlier = Word (codes "e4") ∷ Open ∷ [];
      move = Word (codes "e5");
      later = [];
      parted = refl;
      is_move = refl;
      same_depth = refl;
      one_line = within;
    }
  where
    within : (some more : List Part) → [] ≡ some ++ more
        → 1 ≤ depth_after (Word (codes "e4") ∷ Open ∷ Word (codes "e5") ∷ some)
    within [] more is = omega arith
    within (part ∷ some) more is = cc

no_move_of_no_part : MoveInLine [] → ⊥
no_move_of_no_part line = none line.earlier line.parted
  where
    none : (earlier : List Part) → [] ≡ earlier ++ line.move ∷ line.later → ⊥
    none [] parted = cc
    none (part ∷ earlier) parted = cc

-- `1. (` has a number, and no move
no_move_of_a_number : MoveInLine (Word (codes "1") ∷ []) → ⊥
no_move_of_a_number line = none line.earlier line.move line.parted line.is_move
  where
    none : (earlier : List Part) (move : Part)
        → Word (codes "1") ∷ [] ≡ earlier ++ move ∷ line.later → IsTrue (is_move move) → ⊥
    none [] move parted is = let same : Word (codes "1") ≡ move = cc in
        let number : false ≡ true = ap is_move same ∙ is in cc
    none (first ∷ []) move parted is = cc
    none (first ∷ second ∷ earlier) move parted is = cc

-- `e4 ((` has a move of another line
no_move_of_the_line_before : MoveInLine (Word (codes "e4") ∷ Open ∷ []) → ⊥
no_move_of_the_line_before line =
    none line.earlier line.move line.parted line.is_move line.same_depth
  where
    none : (earlier : List Part) (move : Part)
        → Word (codes "e4") ∷ Open ∷ [] ≡ earlier ++ move ∷ line.later → IsTrue (is_move move)
        → depth_after earlier ≡ 1 → ⊥
    none [] move parted is depth = omega (arith, depth)
    none (first ∷ []) move parted is depth =
        let same : Open ≡ move = cc in let no : false ≡ true = ap is_move same ∙ is in cc
    none (first ∷ second ∷ []) move parted is depth = cc
    none (first ∷ second ∷ third ∷ earlier) move parted is depth = cc

-- and `e4 (e5) ((` a move of a variation that is closed
no_move_of_a_closed_variation :
    MoveInLine (Word (codes "e4") ∷ Open ∷ Word (codes "e5") ∷ Close ∷ Open ∷ []) → ⊥
no_move_of_a_closed_variation line =
    none line.earlier line.move line.later line.parted line.is_move line.same_depth line.one_line
  where
    front : List Part
    front = Word (codes "e4") ∷ Open ∷ Word (codes "e5") ∷ Close ∷ Open ∷ []

    none : (earlier : List Part) (move : Part) (later : List Part) → front ≡ earlier ++ move ∷ later
        → IsTrue (is_move move) → depth_after earlier ≡ 1
        → ((some more : List Part) → later ≡ some ++ more
        → 1 ≤ depth_after (earlier ++ move ∷ some)) → ⊥
    none [] move later parted is depth line = omega (arith, depth)
    none (a ∷ []) move later parted is depth line =
        let same : Open ≡ move = cc in let no : false ≡ true = ap is_move same ∙ is in cc
    none (a ∷ b ∷ []) move later parted is depth line =
        let rest : later ≡ Close ∷ Open ∷ [] = ap (drop 3) (sym parted) in
        let own : depth_after (a ∷ b ∷ move ∷ Close ∷ []) ≡ 0 =
        ap (λ parts. depth_after (take 3 parts ++ Close ∷ [])) (sym parted) in
        let within : 1 ≤ depth_after (a ∷ b ∷ move ∷ Close ∷ []) =
        line (Close ∷ []) (Open ∷ []) rest in
        omega (arith, own, within)
    none (a ∷ b ∷ c ∷ []) move later parted is depth line =
        let same : Close ≡ move = cc in let no : false ≡ true = ap is_move same ∙ is in cc
    none (a ∷ b ∷ c ∷ d ∷ []) move later parted is depth line =
        let same : Open ≡ move = cc in let no : false ≡ true = ap is_move same ∙ is in cc
    none (a ∷ b ∷ c ∷ d ∷ e ∷ []) move later parted is depth line = cc
    none (a ∷ b ∷ c ∷ d ∷ e ∷ f ∷ earlier) move later parted is depth line = cc

-- What is read off parts.

marks_alone : single_mark 33 ∷ single_mark 63 ∷ [] ≡ 1 ∷ 2 ∷ []
marks_alone = refl

marks_in_pairs :
    double_mark 33 33 ∷ double_mark 63 63 ∷ double_mark 33 63 ∷ double_mark 63 33 ∷ []
    ≡ 3 ∷ 4 ∷ 5 ∷ 6 ∷ []
marks_in_pairs = refl

marks_are_cut_into_pairs :
    glyphs_of_marks (codes "!?!") ≡ GlyphNumber 5 ∷ GlyphNumber 1 ∷ []
marks_are_cut_into_pairs = refl

comments_are_items :
    items_of_part (Brace (codes "a")) ++ items_of_part (Line (codes "b"))
    ≡ CommentText (codes "a") ∷ CommentText (codes "b") ∷ []
comments_are_items = refl

words_are_items :
    items_of_part (Word (codes "1")) ++ items_of_part (Word (codes "e4"))
    ≡ MoveText (codes "e4") ∷ []
words_are_items = refl

signs_are_items :
    items_of_part (Glyph (codes "139")) ++ (items_of_part (Marks (codes "??"))
    ++ (items_of_part Open ++ items_of_part Close))
    ≡ GlyphNumber 139 ∷ GlyphNumber 4 ∷ VariationOpen ∷ VariationClose ∷ []
signs_are_items = refl

other_parts_are_no_items :
    items_of_part (White 32) ++ (items_of_part Star ++ (items_of_part Dot
    ++ items_of_part (Tag [] (codes "A") [] [] []))) ≡ []
other_parts_are_no_items = refl

last_part_is_the_result : result_of (Word (codes "e4") ∷ Word (codes "0-1") ∷ []) ≡ codes "0-1"
last_part_is_the_result = refl

-- Pieces and their places.

game_can_be_read :
    is_readable_kind (ReadableGame []) ≡ true
game_can_be_read = refl

other_kinds_can_not : is_readable_kind (UnreadableRest []) || is_readable_kind TooLongBlock ≡ false
other_kinds_can_not = refl

game_is_marked : marked 5 (spec.Game 3 []) ≡ record { offset = 8; kind = ReadableGame [] }
game_is_marked = refl

rest_is_marked :
    marked 5 (spec.Unreadable 3 (codes "x"))
    ≡ record { offset = 8; kind = UnreadableRest (codes "x") }
rest_is_marked = refl

no_piece_of_no_block : (limit depth offset : ℕ) (piece : MarkedPiece)
    → AreOfBlocks limit depth offset [] (piece ∷ []) → ⊥
no_piece_of_no_block limit depth offset piece are = cc

no_piece_elsewhere : IsPiece (pieces.Unreadable 3) (spec.Unreadable 4 []) → ⊥
no_piece_elsewhere is = omega (arith, is)

no_piece_of_another_kind : (at : ℕ) (parts : List Part)
    → IsPiece (pieces.Unreadable at) (spec.Game at parts) → ⊥
no_piece_of_another_kind at parts is = is

no_mark_elsewhere : IsMark (starts.Game 3) (spec.Game 4 []) → ⊥
no_mark_elsewhere is = omega (arith, is)

no_mark_of_another_kind : (at : ℕ) (parts : List Part)
    → IsMark (starts.Unreadable at) (spec.Game at parts) → ⊥
no_mark_of_another_kind at parts is = is

marks_have_places : mark_place (starts.Game 3) ∷ mark_place (starts.Unreadable 4) ∷ [] ≡ 3 ∷ 4 ∷ []
marks_have_places = refl

no_step_at_the_end : (depth : ℕ) (old new : Left) → new ≢ old → GivesMark depth old None new → ⊥
no_step_at_the_end depth old new other gives = other gives.1

no_name_with_a_blank : HaveNames ((codes "a b", []) ∷ []) → ⊥
no_name_with_a_blank names = let all = names (codes "a b") [] refl in cc

bytes_of_a_tag : (name contents : Bor (List ℕ)) → tag_of (name, contents) ≡ (name.now, contents.now)
bytes_of_a_tag name contents = refl

-- Where parts stand, and where reading was broken off.

no_place_among_none : (fact : List Part → Part → Type 0) (begin place : ℕ)
    → IsPlaceOf fact [] begin place → ⊥
no_place_among_none fact begin place is = none is.before is.parted
  where
    none : (before : List Part) → [] ≡ before ++ is.part ∷ is.after → ⊥
    none [] parted = cc
    none (first ∷ more) parted = cc

no_element_of_a_blank : GivesElement 0 [] (White 32) → ⊥
no_element_of_a_blank gives = omega (arith, gives.1)

no_element_before_its_index : GivesElement 1 [] (Word (codes "e4")) → ⊥
no_element_before_its_index gives = omega (arith, gives.1)

no_tag_of_a_star : IsFirstTag (codes "A") [] Star → ⊥
no_tag_of_a_star is = let some = is.1 in cc

no_second_tag_is_first :
    IsFirstTag (codes "A") (Tag [] (codes "A") [] [] [] ∷ []) (Tag [] (codes "A") [] [] []) → ⊥
no_second_tag_is_first is = let none = is.0 in cc

no_block_past_the_limit : (place : ℕ) (bytes : List ℕ) → largest_offset < place
    → IsCutShort place bytes → ⊥
no_block_past_the_limit place bytes far short = omega (arith, far, short.within)

no_byte_past_the_end : (place : ℕ) (ahead : List ℕ) → IsPastEnd place ahead [] → ⊥
no_byte_past_the_end place ahead past = none past.kept past.parted
  where
    none : (kept : List ℕ) → [] ≡ kept ++ past.byte ∷ [] → ⊥
    none [] parted = cc
    none (first ∷ more) parted = cc

no_other_place : (f : Bool) (block : List ℕ) (begin at place : ℕ) (parts : List Part)
    (front : List ℕ) → at ≢ begin + length (spelled parts)
    → PartsThen f block begin at place parts front → ⊥
no_other_place f block begin at place parts front other stand = other stand.at_is

no_part_ends_a_game : (f : Bool) (block : List ℕ) (begin place : ℕ)
    → PartsThenOther f block begin place (Star ∷ []) → ⊥
no_part_ends_a_game f block begin place other = let unended = other.unended in cc
