-- The parts of a text, and where each may stand (PGN 5 comments, 6 escape lines, 7 tokens, 8.1
-- tags, 8.2 movetext).
use Rattle.std.specs.Prelude.{ℕ, Bool, not, ◌&&◌, ◌||◌, ◌+◌, ◌*◌, ◌-◌, nat_le, List, [], ◌∷◌, ◌++◌}
use Rattle.std.specs.Prelude.{flat_map, length, bytes_eq, IsTrue}
use Rattle.std.specs.List.{list_all}
use Rattle.pgn_text.specs.Public.Bytes.{is_white, is_digit, is_name_byte, is_word_byte, is_mark}
use Rattle.pgn_text.specs.Public.Bytes.{is_not_line_feed, is_not_brace, ends_in_line_feed, is_empty}
use Rattle.pgn_text.specs.Public.Bytes.{stops}
use Rattle.pgn_text.specs.Public.Strings.{IsContents}

-- a part of a text, with its bytes
pub data Part : Type 0 where
  -- the byte order mark, the bytes EF BB BF
  ByteOrderMark : Part
  -- one byte of white space
  White : ℕ → Part
  -- a comment in braces (PGN 5)
  Brace : List ℕ → Part
  -- a comment from a semicolon to the end of its line, without the line feed (PGN 5)
  Line : List ℕ → Part
  -- an escape line, from a percent sign in column one to the end of its line, without the line feed
  -- (PGN 6)
  EscapeLine : List ℕ → Part
  -- a tag: white space, its name, white space, its string's contents, white space (PGN 8.1.1)
  Tag : List ℕ → List ℕ → List ℕ → List ℕ → List ℕ → Part
  -- a word: a move number, a result or move text (PGN 7, symbol and integer tokens)
  Word : List ℕ → Part
  -- an asterisk, the result of a game without one (PGN 8.2.6)
  Star : Part
  -- a period (PGN 8.2.2)
  Dot : Part
  -- a numeric annotation glyph (NAG): a dollar sign and digits (PGN 8.2.4)
  Glyph : List ℕ → Part
  -- a run of exclamation and question marks after a move (PGN 8.2.3.8)
  Marks : List ℕ → Part
  -- the parentheses of a variation (PGN 8.2.5)
  Open : Part
  Close : Part

-- the bytes of a part as they stand in the file
abbrev pub spelled_part : Part → List ℕ
spelled_part ByteOrderMark = 239 ∷ 187 ∷ 191 ∷ []
spelled_part (White b) = b ∷ []
spelled_part (Brace text) = 123 ∷ (text ++ 125 ∷ [])
spelled_part (Line text) = 59 ∷ text
spelled_part (EscapeLine text) = 37 ∷ text
spelled_part (Tag first name second contents third) =
    91 ∷ (first ++ (name ++ (second ++ (34 ∷ (contents ++ (34 ∷ (third ++ 93 ∷ [])))))))
spelled_part (Word text) = text
spelled_part Star = 42 ∷ []
spelled_part Dot = 46 ∷ []
spelled_part (Glyph digits) = 36 ∷ digits
spelled_part (Marks marks) = marks
spelled_part Open = 40 ∷ []
spelled_part Close = 41 ∷ []

-- the bytes of parts in a row
abbrev pub spelled : List Part → List ℕ
spelled parts = flat_map spelled_part parts

-- the number that digits write, after a number already read
abbrev pub number_from : ℕ → List ℕ → ℕ
number_from n [] = n
number_from n (d ∷ digits) = number_from (10 * n + (d - 48)) digits

-- the number that digits write
abbrev pub number_of : List ℕ → ℕ
number_of digits = number_from 0 digits

-- the place after these bytes of a block is in column one: after a line feed, or at the start of
-- the file or after a byte order mark there (`file_start` says that the block is at the start of
-- the file)
abbrev pub is_column_one : Bool → List ℕ → Bool
is_column_one file_start before =
    ends_in_line_feed before
    || (file_start && (bytes_eq before [] || bytes_eq before (239 ∷ 187 ∷ 191 ∷ [])))

-- how a part stands in a text, as far as it matters to the part
pub record Standing : Type 0 where
  -- at the start of the file
  pub file_start : Bool
  -- in column one
  pub column_one : Bool

-- how a part stands after these bytes of a block
abbrev pub standing_of : Bool → List ℕ → Standing
standing_of file_start before =
    record {
      file_start = file_start && is_empty before;
      column_one =
          is_column_one file_start before;
    }

-- the part may stand so, with those bytes after it
abbrev pub Stands : Standing → Part → List ℕ → Type 0
-- a byte order mark only at the start of the file
Stands place ByteOrderMark after = IsTrue place.file_start
Stands place (White b) after = IsTrue (is_white b)
-- a brace comment ends at the first closing brace: it doesn't nest
Stands place (Brace text) after = IsTrue (list_all is_not_brace text)
-- a line comment ends where its line does
Stands place (Line text) after = IsTrue (list_all is_not_line_feed text)
    × IsTrue (stops is_not_line_feed after)
-- an escape line stands in column one only, and ends where its line does
Stands place (EscapeLine text) after =
    IsTrue place.column_one × IsTrue (list_all is_not_line_feed text)
    × IsTrue (stops is_not_line_feed after)
Stands place (Tag first name second contents third) after =
    IsTrue (list_all is_white first) × IsTrue (not (is_empty name))
    × IsTrue (list_all is_name_byte name)
    × IsTrue (list_all is_white second) × IsContents contents × IsTrue (list_all is_white third)
-- a word is not cut short
Stands place (Word text) after =
    IsTrue (not (is_empty text)) × IsTrue (list_all is_word_byte text)
    × IsTrue (stops is_word_byte after)
Stands place Star after = Unit {0}
Stands place Dot after = Unit {0}
-- a NAG has one to three digits, which write at most 255, and no digit follows
Stands place (Glyph digits) after =
    IsTrue (not (is_empty digits)) × IsTrue (list_all is_digit digits)
    × IsTrue (nat_le (length digits) 3)
    × IsTrue (nat_le (number_of digits) 255) × IsTrue (stops is_digit after)
-- a run of marks is not cut short
Stands place (Marks marks) after =
    IsTrue (not (is_empty marks)) × IsTrue (list_all is_mark marks) × IsTrue (stops is_mark after)
Stands place Open after = Unit {0}
Stands place Close after = Unit {0}

-- each part may stand where those before it put it; `before` and `after` are the bytes round all of
-- them
abbrev pub AllStand : Bool → List ℕ → List Part → List ℕ → Type 0
AllStand file_start before [] after = Unit {0}
AllStand file_start before (part ∷ back) after =
    Stands (standing_of file_start before) part (spelled back ++ after)
    × AllStand file_start (before ++ spelled_part part) back after
