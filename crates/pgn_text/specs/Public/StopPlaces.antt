-- What the place where a text stops agreeing with games stands in.
use Rattle.std.specs.Prelude.{◌≡◌, ℕ, Bool, true, false, not, ◌||◌, ◌==◌, ◌+◌, ◌<◌, List, [], ◌∷◌}
use Rattle.std.specs.Prelude.{◌++◌, length, take, drop, IsTrue}
use Rattle.std.specs.List.{list_all, list_any}
use Rattle.pgn_text.specs.Public.Bytes.{is_white, is_name_byte, is_not_brace, begins, run_of}
use Rattle.pgn_text.specs.Public.Bytes.{after_run}
use Rattle.pgn_text.specs.Public.Parts.{Part, Stands, AllStand, standing_of, spelled_part, spelled}
use Rattle.pgn_text.specs.Public.Games.{is_gap_part, is_tag, is_result, is_meant, depth_after}
use Rattle.pgn_text.specs.declared.error.error_position.Within.{Within}
use Rattle.pgn_text.specs.declared.error.error_position.Within.TheVariants.{Comment, Tags, MainLine}
use Rattle.pgn_text.specs.declared.error.error_position.Within.TheVariants.{TagName, Game}
use Rattle.pgn_text.specs.declared.error.error_position.Within.TheVariants.{TagValue, Variation}

-- an opening brace
abbrev pub is_open_brace : ℕ → Bool
is_open_brace b = b == 123

-- an opening bracket
abbrev pub is_open_bracket : ℕ → Bool
is_open_bracket b = b == 91

-- a double quote
abbrev pub is_quote : ℕ → Bool
is_quote b = b == 34

-- up to the place the text from `begin` of a block on is these parts, each of which has a meaning
-- and the last of which ends at the place `at`, and these bytes, at whose front stands no further
-- such part
pub record PartsThen (file_start : Bool) (block : List ℕ) (begin at place : ℕ) (parts : List Part)
    (front : List ℕ) : Type 0 where
  pub parted : drop begin block ≡ spelled parts ++ (front ++ drop place block)
  pub stand : AllStand file_start (take begin block) parts (front ++ drop place block)
  pub meant : IsTrue (list_all is_meant parts)
  pub no_more : (part : Part) (rest : List ℕ) → front ≡ spelled_part part ++ rest
      → Stands (standing_of file_start (take begin block ++ spelled parts)) part (rest
      ++ drop place block) → is_meant part ≡ false
  pub at_is : at ≡ begin + length (spelled parts)
  pub place_is : place ≡ at + length front

-- the same, the bytes are neither in a comment nor in a tag, and none of the parts ends a game
pub record PartsThenOther (file_start : Bool) (block : List ℕ) (begin place : ℕ)
    (parts : List Part) : Type 0 where
  pub at : ℕ
  pub front : List ℕ
  pub parts_then : PartsThen file_start block begin at place parts front
  pub other : IsTrue (not (begins (λ b. is_open_brace b || is_open_bracket b) front))
  pub unended : list_any is_result parts ≡ false

-- the name of the tag whose bracket stands before these bytes: the bytes of a name that follow its
-- first white space
abbrev pub tag_name_of : List ℕ → List ℕ
tag_name_of bytes = run_of is_name_byte (after_run is_white bytes)

-- a tag, or a part of a gap
abbrev pub is_before_movetext : Part → Bool
is_before_movetext part = is_tag part || is_gap_part part

-- the place of a block, up to which the text from `begin` on was read, stands in this
abbrev pub StandsWithin : Bool → List ℕ → ℕ → ℕ → Within → Type 0
-- in a comment that begins at the place `at`: a brace that no other closes
StandsWithin f block begin place (Comment at) =
    (parts : List Part) × (front : List ℕ) × PartsThen f block begin at place parts front
    × IsTrue (begins is_open_brace front) × IsTrue (list_all is_not_brace front)
-- in a tag that begins at the place `at`, before its string
StandsWithin f block begin place (TagName at) =
    (parts : List Part) × (front : List ℕ) × PartsThen f block begin at place parts front
    × IsTrue (begins is_open_bracket front) × (list_any is_quote front ≡ false)
-- in a tag that begins at the place `at`, within its string or after it
StandsWithin f block begin place (TagValue at) =
    (parts : List Part) × (front : List ℕ) × PartsThen f block begin at place parts front
    × IsTrue (begins is_open_bracket front) × (list_any is_quote front ≡ true)
-- elsewhere in a variation
StandsWithin f block begin place Variation =
    (parts : List Part) × PartsThenOther f block begin place parts × (0 < depth_after parts)
-- elsewhere among the tags, or before them
StandsWithin f block begin place Tags =
    (parts : List Part) × PartsThenOther f block begin place parts
    × IsTrue (list_all is_before_movetext parts)
-- elsewhere in the movetext, outside all variations
StandsWithin f block begin place MainLine =
    (parts : List Part) × PartsThenOther f block begin place parts × (depth_after parts ≡ 0)
    × (list_all is_before_movetext parts ≡ false)
-- after a game
StandsWithin f block begin place Game =
    (parts : List Part) × (result : Part)
    × PartsThen f block begin place place (parts ++ result ∷ []) [] × IsTrue (is_result result)
