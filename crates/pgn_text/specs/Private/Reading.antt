-- The part at the front of a text, computed: what the functions of `scan` and `token` answer, and
-- what a game keeps of a part.
use Rattle.std.specs.Prelude.{ℕ, Bool, true, false, not, ◌&&◌, ◌==◌, ◌+◌, ◌-◌, nat_le, nat_lt}
use Rattle.std.specs.Prelude.{nat_eq, bytes_eq, if◌then◌else◌, List, [], ◌∷◌, length, drop}
use Rattle.std.specs.Prelude.{option_map, option_and_then, Option, Some, None}
use Rattle.std.specs.List.{starts_with}
use Rattle.std.specs.Option.{option_or}
use Rattle.pgn_text.specs.Public.Bytes.{is_white, is_digit, is_name_byte, is_word_byte, is_mark}
use Rattle.pgn_text.specs.Public.Bytes.{is_plain, is_not_line_feed, is_not_brace, is_empty}
use Rattle.pgn_text.specs.Public.Bytes.{is_letter, begins, run_of, after_run}
use Rattle.pgn_text.specs.Public.Parts.{Part, ByteOrderMark, White, Brace, Line, EscapeLine, Tag}
use Rattle.pgn_text.specs.Public.Parts.{Word, Star, Dot, Glyph, Marks, Open, Close, Standing}
use Rattle.pgn_text.specs.Public.Parts.{number_of}
use Rattle.pgn_text.specs.Public.Games.{is_number, is_result_word, is_move_text, Item, MoveText}
use Rattle.pgn_text.specs.Public.Games.{GlyphNumber, CommentText, VariationOpen, VariationClose}
use Rattle.pgn_text.specs.Public.Games.{glyphs_of_marks}
use Rattle.pgn_text.specs.Private.Steps.{State, in_movetext}
use Rattle.pgn_text.specs.Shared.StringTexts.{contents_front}

-- a byte that stands for itself in a string, wherever no backslash stands before it
abbrev pub is_single : ℕ → Bool
is_single b = is_plain b && (not (b == 34) && not (b == 92))

-- what follows the wanted byte, if the text begins with it
abbrev pub rest_after : ℕ → List ℕ → Option (List ℕ)
rest_after wanted [] = None
rest_after wanted (b ∷ rest) = if b == wanted then Some rest else None

-- the comment at whose opening brace the text begins, which was taken off
abbrev pub brace_front : List ℕ → Option (Part × List ℕ)
brace_front text =
    option_map (λ rest. (Brace (run_of is_not_brace text), rest))
    (rest_after 125 (after_run is_not_brace text))

-- the byte order mark whose first byte was taken off
abbrev pub mark_front : List ℕ → Option (Part × List ℕ)
mark_front text = if starts_with nat_eq text (187 ∷ 191 ∷ []) then Some (ByteOrderMark, drop 2 text)
    else None

-- the part of a gap at the front of the text
abbrev pub gap_front : Standing → List ℕ → Option (Part × List ℕ)
gap_front place [] = None
gap_front place (b ∷ rest) =
    if is_white b then Some (White b, rest)
    else (if b == 123 then brace_front rest
    else (if b == 59 then
    Some (Line (run_of is_not_line_feed rest), after_run is_not_line_feed rest)
    else (if b == 37 then
    (if place.column_one then
    Some (EscapeLine (run_of is_not_line_feed rest), after_run is_not_line_feed rest) else None)
    else (if b == 239 then (if place.file_start then mark_front rest else None)
    else None))))

-- the end of a tag, after the quote that ends its string
abbrev pub tag_end : List ℕ → List ℕ → List ℕ → List ℕ → List ℕ → Option (Part × List ℕ)
tag_end first name second contents text =
    option_map (λ rest. (Tag first name second contents (run_of is_white text), rest))
    (rest_after 93 (after_run is_white text))

-- a tag's string and its end
abbrev pub tag_string : List ℕ → List ℕ → List ℕ → List ℕ → Option (Part × List ℕ)
tag_string first name second text =
    option_and_then (λ after.
    option_and_then (λ found. option_and_then (λ rest. tag_end first name second found.0 rest)
    (rest_after 34 found.1)) (contents_front false after)) (rest_after 34 text)

-- a tag from its name on
abbrev pub tag_name : List ℕ → List ℕ → Option (Part × List ℕ)
tag_name first text =
    if is_empty (run_of is_name_byte text) then None
    else tag_string first (run_of is_name_byte text) (run_of is_white (after_run is_name_byte text))
    (after_run is_white (after_run is_name_byte text))

-- the tag whose opening bracket was taken off
abbrev pub tag_front : List ℕ → Option (Part × List ℕ)
tag_front text = tag_name (run_of is_white text) (after_run is_white text)

-- the digits are those of a NAG: one to three, which write at most 255
abbrev pub is_glyph : List ℕ → Bool
is_glyph digits = not (is_empty digits)
    && (nat_le (length digits) 3 && nat_le (number_of digits) 255)

-- the NAG whose dollar sign was taken off
abbrev pub glyph_front : List ℕ → Option (Part × List ℕ)
glyph_front text = if is_glyph (run_of is_digit text)
    then Some (Glyph (run_of is_digit text), after_run is_digit text) else None

-- the part at the front of the text that only a game can have
abbrev pub game_front : List ℕ → Option (Part × List ℕ)
game_front [] = None
game_front (b ∷ rest) =
    if is_word_byte b then
    Some (Word (run_of is_word_byte (b ∷ rest)), after_run is_word_byte (b ∷ rest))
    else (if b == 46 then Some (Dot, rest)
    else (if b == 36 then glyph_front rest
    else (if is_mark b then Some (Marks (run_of is_mark (b ∷ rest)), after_run is_mark (b ∷ rest))
    else (if b == 40 then Some (Open, rest)
    else (if b == 41 then Some (Close, rest)
    else (if b == 42 then Some (Star, rest)
    else (if b == 91 then tag_front rest
    else None)))))))

-- the part at the front of the text, which stands at the place
abbrev pub part_front : Standing → List ℕ → Option (Part × List ℕ)
part_front place text = option_or (gap_front place text) (game_front text)

-- what a game keeps of a part
pub data Kept : Type 0 where
  KeptGap : Kept
  KeptComment : List ℕ → Kept
  KeptTag : List ℕ → List ℕ → Kept
  KeptMove : List ℕ → Kept
  KeptNumber : Kept
  KeptResult : Kept
  KeptStray : Kept
  KeptDot : Kept
  KeptGlyph : ℕ → Kept
  KeptMarks : List ℕ → Kept
  KeptOpen : Kept
  KeptClose : Kept

-- what a game keeps of a word
abbrev pub kept_word : List ℕ → Kept
kept_word word =
    if begins is_letter word then KeptMove word
    else (if is_number word then KeptNumber
    else (if is_move_text word then KeptMove word
    else (if is_result_word word then KeptResult else KeptStray)))

-- what a game keeps of a part
abbrev pub kept : Part → Kept
kept ByteOrderMark = KeptGap
kept (White b) = KeptGap
kept (Brace text) = KeptComment text
kept (Line text) = KeptComment text
kept (EscapeLine text) = KeptGap
kept (Tag first name second contents third) = KeptTag name contents
kept (Word word) = kept_word word
kept Star = KeptResult
kept Dot = KeptDot
kept (Glyph digits) = KeptGlyph (number_of digits)
kept (Marks marks) = KeptMarks marks
kept Open = KeptOpen
kept Close = KeptClose

-- what a game keeps of a part that was found, and the text after it
abbrev pub kept_found : Part × List ℕ → Kept × List ℕ
kept_found found = (kept found.0, found.1)

-- what a game keeps of the part is a result
abbrev pub is_kept_result : Kept → Bool
is_kept_result KeptResult = true
is_kept_result _ = false

-- the state after a part, by what a game keeps of the part
abbrev pub step_kept : ℕ → State → Kept → Option State
step_kept max_depth state KeptGap = Some state
step_kept max_depth state (KeptComment text) = Some state
step_kept max_depth state (KeptTag name contents) = if state.in_tags then Some state else None
step_kept max_depth state (KeptMove word) =
    Some (record { in_tags = false; depth = state.depth; has_move = true })
step_kept max_depth state KeptNumber = Some (in_movetext state)
step_kept max_depth state KeptResult = None
step_kept max_depth state KeptStray = None
step_kept max_depth state KeptDot = Some (in_movetext state)
step_kept max_depth state (KeptGlyph number) = Some (in_movetext state)
step_kept max_depth state (KeptMarks marks) = Some (in_movetext state)
step_kept max_depth state KeptOpen =
    if state.has_move && nat_lt state.depth max_depth
    then Some (record { in_tags = false; depth = state.depth + 1; has_move = false })
    else None
step_kept max_depth state KeptClose =
    if nat_lt 0 state.depth
    then Some (record { in_tags = false; depth = state.depth - 1; has_move = true })
    else None

-- the elements of a part, by what a game keeps of the part
abbrev pub items_of_kept : Kept → List Item
items_of_kept (KeptComment text) = CommentText text ∷ []
items_of_kept (KeptMove word) = MoveText word ∷ []
items_of_kept (KeptGlyph number) = GlyphNumber number ∷ []
items_of_kept (KeptMarks marks) = glyphs_of_marks marks
items_of_kept KeptOpen = VariationOpen ∷ []
items_of_kept KeptClose = VariationClose ∷ []
items_of_kept _ = []

-- the contents of the string of a part, if it is a tag with the wanted name
abbrev pub named_kept : List ℕ → Kept → Option (List ℕ)
named_kept wanted (KeptTag name contents) = if bytes_eq name wanted then Some contents else None
named_kept wanted _ = None
