-- Which parts make a game, and what is read off them (PGN 8.1, 8.2, 8.2.5, 8.2.6, 10).
use Rattle.std.specs.Prelude.{◌≡◌, ℕ, Bool, true, false, not, ◌&&◌, ◌||◌, ◌==◌, ◌-◌, ◌≤◌, ◌↔◌}
use Rattle.std.specs.Prelude.{if◌then◌else◌, List, [], ◌∷◌, ◌++◌, flat_map, drop, count_by}
use Rattle.std.specs.Prelude.{bytes_eq, codes, nat_eq, Option, Some, None, IsTrue}
use Rattle.std.specs.List.{list_all, starts_with}
use Rattle.pgn_text.specs.Public.Bytes.{is_digit, is_letter, is_check_sign, is_empty, begins}
use Rattle.pgn_text.specs.Public.Parts.{Part, ByteOrderMark, White, Brace, Line, EscapeLine, Tag}
use Rattle.pgn_text.specs.Public.Parts.{Word, Star, Dot, Glyph, Marks, Open, Close, spelled_part}
use Rattle.pgn_text.specs.Public.Parts.{number_of, AllStand}

-- a word of digits only is a move number (PGN 8.2.2)
abbrev pub is_number : List ℕ → Bool
is_number word = not (is_empty word) && list_all is_digit word

-- a word that is a result (PGN 8.2.6)
abbrev pub is_result_word : List ℕ → Bool
is_result_word word = bytes_eq word (codes "1-0") || bytes_eq word (codes "0-1")
    || bytes_eq word (codes "1/2-1/2")

-- castling written with zeros, and then any number of + and #
abbrev pub is_zero_castling : List ℕ → Bool
is_zero_castling word =
    (starts_with nat_eq word (codes "0-0-0") && list_all is_check_sign (drop 5 word))
    || (starts_with nat_eq word (codes "0-0") && list_all is_check_sign (drop 3 word))

-- a word that is read as a move: it begins with a letter, or is castling with zeros, or two dashes
abbrev pub is_move_text : List ℕ → Bool
is_move_text word = begins is_letter word || is_zero_castling word || bytes_eq word (codes "--")

-- the part may stand in a gap between games: white space, a comment, an escape line or a byte order
-- mark
abbrev pub is_gap_part : Part → Bool
is_gap_part ByteOrderMark = true
is_gap_part (White b) = true
is_gap_part (Brace text) = true
is_gap_part (Line text) = true
is_gap_part (EscapeLine text) = true
is_gap_part (Tag first name second contents third) = false
is_gap_part (Word text) = false
is_gap_part Star = false
is_gap_part Dot = false
is_gap_part (Glyph digits) = false
is_gap_part (Marks marks) = false
is_gap_part Open = false
is_gap_part Close = false

-- the part is a tag
abbrev pub is_tag : Part → Bool
is_tag (Tag first name second contents third) = true
is_tag _ = false

-- the part is a result (PGN 8.2.6)
abbrev pub is_result : Part → Bool
is_result (Word text) = is_result_word text
is_result Star = true
is_result _ = false

-- the part is a move
abbrev pub is_move : Part → Bool
is_move (Word text) = is_move_text text
is_move _ = false

-- the part begins a variation
abbrev pub is_open : Part → Bool
is_open Open = true
is_open _ = false

-- the part ends a variation
abbrev pub is_close : Part → Bool
is_close Close = true
is_close _ = false

-- the part has a meaning: each word is a number, a result or a move
abbrev pub is_meant : Part → Bool
is_meant (Word text) = is_number text || is_result_word text || is_move_text text
is_meant _ = true

-- P holds of each element, given those before it (`front` and more) and those after it
abbrev pub EachFrom : {X : Type 0} → (List X → X → List X → Type 0) → List X → List X → Type 0
EachFrom P front [] = Unit {0}
EachFrom P front (x ∷ back) = P front x back × EachFrom P (front ++ x ∷ []) back

-- P holds of each element, given those before it and those after it
abbrev pub Each : {X : Type 0} → (List X → X → List X → Type 0) → List X → Type 0
Each P xs = EachFrom P [] xs

-- how many variations are open after these parts
abbrev pub depth_after : List Part → ℕ
depth_after front = count_by is_open front - count_by is_close front

-- a move stands before this place in its own line: at the same depth, and nothing between them has
-- a smaller depth
pub record MoveInLine (front : List Part) : Type 0 where
  pub earlier : List Part
  pub move : Part
  pub later : List Part
  pub parted : front ≡ earlier ++ move ∷ later
  pub is_move : IsTrue (is_move move)
  pub same_depth : depth_after earlier ≡ depth_after front
  pub one_line : (some more : List Part) → later ≡ some ++ more
      → depth_after front ≤ depth_after (earlier ++ move ∷ some)

-- there is a first part, and it is not one of a gap
abbrev pub begins_outside_gap : List Part → Bool
begins_outside_gap [] = false
begins_outside_gap (part ∷ back) = not (is_gap_part part)

-- the parts are a game between the bytes `before` and `after` of a block
pub record IsGame (max_depth : ℕ) (file_start : Bool) (before : List ℕ) (parts : List Part)
    (after : List ℕ) : Type 0 where
  -- each part may stand where it does
  pub stand : AllStand file_start before parts after
  -- the game's first byte is not part of a gap
  pub begins : IsTrue (begins_outside_gap parts)
  -- before a tag stand only tags and what a gap may have
  pub tags_first : Each (λ front part back. IsTrue (is_tag part)
      → IsTrue (list_all (λ p. is_tag p || is_gap_part p) front)) parts
  -- the last part is a result, and no other part is
  pub result_last : Each (λ front part back. IsTrue (is_result part) ↔ (back ≡ [])) parts
  -- each word is a number, a result or a move
  pub meant : IsTrue (list_all is_meant parts)
  -- a variation is ended only where one is open
  pub closed_were_open : Each (λ front part back. count_by is_close front
      ≤ count_by is_open front) parts
  -- variations nest no deeper than the limit
  pub depth : Each (λ front part back. depth_after front ≤ max_depth) parts
  -- all variations are ended before the result
  pub all_closed : Each (λ front part back. back ≡ [] → depth_after front ≡ 0) parts
  -- a variation begins only where a move stands before it in its own line
  pub variations : Each (λ front part back. IsTrue (is_open part) → MoveInLine front) parts

-- an element of a game, as readers of the game see it
pub data Item : Type 0 where
  -- a move, as its word stands
  MoveText : List ℕ → Item
  -- a NAG's number
  GlyphNumber : ℕ → Item
  -- a comment's bytes, without what marks it as a comment
  CommentText : List ℕ → Item
  -- a variation's begin and end
  VariationOpen : Item
  VariationClose : Item

-- the NAG of a single mark: 1 for !, 2 for ? (PGN 10)
abbrev pub single_mark : ℕ → ℕ
single_mark mark = if mark == 33 then 1 else 2

-- the NAG of two marks: 3 for !!, 4 for ??, 5 for !?, 6 for ?! (PGN 10)
abbrev pub double_mark : ℕ → ℕ → ℕ
double_mark first second =
    if first == 33 then (if second == 33 then 3 else 5) else (if second == 33 then 6 else 4)

-- the NAGs of a run of marks, which is cut into pairs from the left; a last one alone is a single
-- mark
abbrev pub glyphs_of_marks : List ℕ → List Item
glyphs_of_marks [] = []
glyphs_of_marks (mark ∷ []) = GlyphNumber (single_mark mark) ∷ []
glyphs_of_marks (first ∷ second ∷ more) =
    GlyphNumber (double_mark first second) ∷ glyphs_of_marks more

-- the elements that a part gives
abbrev pub items_of_part : Part → List Item
items_of_part (Brace text) = CommentText text ∷ []
items_of_part (Line text) = CommentText text ∷ []
items_of_part (Word text) = if is_move_text text then MoveText text ∷ [] else []
items_of_part (Glyph digits) = GlyphNumber (number_of digits) ∷ []
items_of_part (Marks marks) = glyphs_of_marks marks
items_of_part Open = VariationOpen ∷ []
items_of_part Close = VariationClose ∷ []
items_of_part _ = []

-- the elements of a game, in their order
abbrev pub items_of : List Part → List Item
items_of parts = flat_map items_of_part parts

-- the contents of the string of the first tag with the wanted name, if there is one
abbrev pub first_tag : List ℕ → List Part → Option (List ℕ)
first_tag wanted [] = None
first_tag wanted (Tag first name second contents third ∷ more) =
    if bytes_eq name wanted then Some contents else first_tag wanted more
first_tag wanted (part ∷ more) = first_tag wanted more

-- the result of a game: the bytes of its last part
abbrev pub result_of : List Part → List ℕ
result_of [] = []
result_of (part ∷ []) = spelled_part part
result_of (part ∷ next ∷ more) = result_of (next ∷ more)
