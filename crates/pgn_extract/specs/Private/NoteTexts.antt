-- The words of notes on bytes that are no game and on blocks over the limit: what the functions of
-- `notes` write.
use Rattle.std.specs.Prelude.{◌≡◌, ℕ, ◌+◌, ◌/◌, ◌%◌, ◌<◌, ◌==◌, ◌&&◌, nat_le, nat_lt, Bool, List}
use Rattle.std.specs.Prelude.{[], ◌∷◌, ◌++◌, length, take, drop, fold, count_by, slice_index}
use Rattle.std.specs.Prelude.{Option, Some, None, codes, decimal, if◌then◌else◌}
use Rattle.pgn_text.specs.Public.Limits.{depth_limit}
use Rattle.pgn_text.specs.Public.StopPlaces.{StandsWithin, tag_name_of}
use Rattle.pgn_text.specs.Public.Stops.{IsErrorPosition}
use Rattle.pgn_text.specs.declared.error.error_position.Within.{Within}
use Rattle.pgn_text.specs.declared.error.error_position.Within.TheVariants.{Comment, Tags, MainLine}
use Rattle.pgn_text.specs.declared.error.error_position.Within.TheVariants.{TagName, Game}
use Rattle.pgn_text.specs.declared.error.error_position.Within.TheVariants.{TagValue, Variation}
use Rattle.pgn_extract.specs.Public.Notes.{indented}
use Rattle.pgn_extract.specs.declared.explain.notes.Origin.{Origin}

-- how many line feeds the bytes have
abbrev pub line_feeds : List ℕ → ℕ
line_feeds bytes = count_by (λ b. b == 10) bytes

-- the column of the byte after the bytes: it is 1 at their begin and after a line feed, and else
-- one more than that of the byte before
abbrev pub column_after : List ℕ → ℕ
column_after front = fold (λ (column b : ℕ). if b == 10 then 1 else column + 1) 1 front

-- line and column of the byte after the front of a block that begins on the line
abbrev pub position_text : ℕ → List ℕ → List ℕ
position_text first front = codes "line " ++ decimal (first + line_feeds front) ++ codes ", column "
    ++ decimal (column_after front)

-- a byte by its offset, and where lines are known by its line and column too
abbrev pub place_in : Option ℕ → ℕ → List ℕ → List ℕ
place_in None byte front = codes "byte " ++ decimal byte
place_in (Some first) byte front = position_text first front ++ codes ", byte " ++ decimal byte

-- where the byte after the front of a block stands in the file
abbrev pub place_text : Origin → List ℕ → List ℕ
place_text origin front = place_in origin.line (origin.offset + length front) front

-- a byte by its line and column, and where lines are not known by its offset
abbrev pub begin_in : Option ℕ → ℕ → List ℕ → List ℕ
begin_in None byte front = codes "byte " ++ decimal byte
begin_in (Some first) byte front = position_text first front

-- where what stands after the front of a block begins in the file
abbrev pub begin_text : Origin → List ℕ → List ℕ
begin_text origin front = begin_in origin.line (origin.offset + length front) front

-- a hexadecimal digit
abbrev pub hex_digit : ℕ → ℕ
hex_digit n = if nat_lt n 10 then 48 + n else 55 + n

-- a byte between quotes where it is a printable one of ASCII, and else by its number
abbrev pub byte_text : ℕ → List ℕ
byte_text b = if nat_le 32 b && nat_le b 126 then 39 ∷ b ∷ 39 ∷ []
    else codes "0x" ++ hex_digit (b / 16) ∷ hex_digit (b % 16) ∷ []

-- the byte at the place of the block, with which no game goes on, or that the text ends there
abbrev pub stopper_text : List ℕ → ℕ → List ℕ
stopper_text block place =
    if place == length block then codes ": the text ends here"
    else codes ": no game goes on with " ++ byte_text (slice_index block place)

-- what a place of the block stands in, which may be its end; nothing is said of a byte that stands
-- in no comment, tag or variation
abbrev pub context_text : Origin → List ℕ → Bool → Within → List ℕ
context_text origin block ends (Comment at) =
    codes " (in a comment that begins at " ++ begin_text origin (take at block) ++ codes ")"
context_text origin block ends (TagName at) =
    codes " (in a tag that begins at " ++ begin_text origin (take at block) ++ codes ")"
context_text origin block ends (TagValue at) =
    codes " (in the value of tag " ++ tag_name_of (drop (at + 1) block) ++ codes ")"
context_text origin block ends Variation = codes " (in a variation)"
context_text origin block ends Tags = if ends then codes " (before a result)" else []
context_text origin block ends MainLine = if ends then codes " (before a result)" else []
context_text origin block ends Game = []

-- what is said of the place of a block at which its bytes stop agreeing with games, and which
-- stands in this
abbrev pub stop_line : Origin → List ℕ → ℕ → Within → List ℕ
stop_line origin block place within =
    place_text origin (take place block) ++ stopper_text block place
    ++ context_text origin block (place == length block) within

-- the note on the bytes of a block from `begin` on, which are no game: where they stop agreeing
-- with games, and what that place stands in
pub record IsStopNote (origin : Origin) (block : List ℕ) (begin : ℕ) (note : List ℕ) : Type 0 where
  pub place : ℕ
  pub within : Within
  pub stops : IsErrorPosition depth_limit (origin.offset == 0) block begin place
  pub stands : StandsWithin (origin.offset == 0) block begin place within
  pub says : note ≡ indented (stop_line origin block place within ∷ [])

-- what is said of a block of this size over the limit
abbrev pub too_long_text : ℕ → ℕ → List ℕ
too_long_text size limit =
    decimal size ++ codes " bytes, over the limit of " ++ decimal limit
    ++ codes
    "; games are parted at lines that begin with [Event \" (a compressed file needs zcat)"

-- what begins at a place begins before the end of a block of this length
abbrev pub IsWithinBlock : ℕ → Within → Type 0
IsWithinBlock size (Comment at) = at < size
IsWithinBlock size (TagName at) = at < size
IsWithinBlock size (TagValue at) = at < size
IsWithinBlock size Tags = Unit {0}
IsWithinBlock size Variation = Unit {0}
IsWithinBlock size MainLine = Unit {0}
IsWithinBlock size Game = Unit {0}
