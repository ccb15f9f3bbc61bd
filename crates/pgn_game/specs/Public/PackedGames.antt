-- A packed game, and its one spelling: a record of a pack. Numbers are big-endian.
use Rattle.std.specs.Prelude.{◌≡◌, ℕ, ◌+◌, ◌*◌, ◌^◌, ◌<◌, ◌≤◌, ◌==◌, ◌&&◌, ◌||◌, if◌then◌else◌, not}
use Rattle.std.specs.Prelude.{Bool, true, false, IsTrue, nat_le, List, [], ◌∷◌, ◌++◌, length}
use Rattle.std.specs.Prelude.{bytes_eq, codes, Option, Some, None, IfSome, option_map}
use Rattle.std.specs.Cmp.Lexicographic.{slice_cmp}
use Rattle.std.specs.List.Sorted.{IsStrictlySortedBy}
use Rattle.std.specs.Ordering.{nat_cmp}
use Rattle.std.specs.List.{flat_map, slice_get, AllByRecursion}
use Rattle.std.specs.Int.{w32, w64, to_be_bytes}
use Rattle.chess.specs.Public.Positions.{State}
use Rattle.pgn_text.specs.Public.Bytes.{begins}
use Rattle.pgn_text.specs.Public.Limits.{block_limit, largest_offset}
use Rattle.pgn_text.specs.Public.GameTexts.{GameText, IsResult, tag_in, tag_names}
use Rattle.pgn_game.specs.Public.PlyCodes.{PlyCode, FitsCode, AreMarks, AreCodes, marks_number}
use Rattle.pgn_game.specs.Public.PlyCodes.{code_bytes}
use Rattle.pgn_game.specs.Public.Replays.{Replay, IsReplay}
use Rattle.pgn_game.specs.Public.Starts.{fen_tag}
use Rattle.pgn_game.specs.declared.pack.origin.GameOrigin.{GameOrigin}
use Rattle.pgn_game.specs.declared.replays.replayer.Lines.TheVariants.{Main}

-- a tag: its name and its contents
abbrev pub Tag : Type 0
Tag = List ℕ × List ℕ

-- what is kept of a game
pub record PackedGame : Type 0 where
  -- its number, and the offset of its first byte in the text that it comes from
  pub number : ℕ
  pub offset : ℕ
  -- the name of its file, where lines have one
  pub name : Option (List ℕ)
  pub tags : List Tag
  -- the token that ends it
  pub result : List ℕ
  -- whether the side to move at its start is in check, and whether it has no legal move
  pub check : Bool
  pub stuck : Bool
  -- its plies in their order
  pub plies : List PlyCode

-- the name of a game's file, where lines have one
abbrev pub name_of : GameOrigin → Option (List ℕ)
name_of origin = option_map (λ name. name.now) origin.name

-- four bytes that say how many bytes follow, and these bytes
abbrev pub with_length : List ℕ → List ℕ
with_length bytes = to_be_bytes w32 (length bytes) ++ bytes

-- the name of a tag, and its contents
abbrev pub tag_bytes : Tag → List ℕ
tag_bytes tag = with_length tag.0 ++ with_length tag.1

-- the number of a result, and the result with such a number
abbrev pub result_number : List ℕ → ℕ
result_number result =
    if bytes_eq result (codes "1-0") then 1 else if bytes_eq result (codes "0-1") then 2
    else if bytes_eq result (codes "1/2-1/2") then 3 else 0

abbrev pub numbered_result : ℕ → List ℕ
numbered_result n = if n == 1 then codes "1-0" else if n == 2 then codes "0-1" else if n == 3
    then codes "1/2-1/2" else codes "*"

-- whether there is a name, as a number
abbrev pub named_number : Option (List ℕ) → ℕ
named_number None = 0
named_number (Some name) = 1

-- the number of the tags, and below it whether the game has a name, the number of its result and
-- the two marks of its start
abbrev pub head_of : PackedGame → ℕ
head_of game = 32 * length game.tags + 16 * named_number game.name + 4 * result_number game.result
    + marks_number game.check game.stuck

-- the name, where there is one
abbrev pub name_bytes : Option (List ℕ) → List ℕ
name_bytes None = []
name_bytes (Some name) = with_length name

-- the tags, and the plies up to the end of the record
abbrev pub tail_bytes : PackedGame → List ℕ
tail_bytes game = flat_map tag_bytes game.tags ++ flat_map code_bytes game.plies

-- what stands in a record after its size: number, offset, head, name, tags and plies
abbrev pub body_bytes : PackedGame → List ℕ
body_bytes game =
    to_be_bytes w64 game.number ++ to_be_bytes w64 game.offset ++ to_be_bytes w32 (head_of game)
    ++ (name_bytes game.name ++ tail_bytes game)

-- a record: four bytes of size, and so many bytes
abbrev pub record_bytes : PackedGame → List ℕ
record_bytes game = with_length (body_bytes game)

-- a pack: records one after another
abbrev pub pack_bytes : List PackedGame → List ℕ
pack_bytes games = flat_map record_bytes games

-- how many bytes a name takes in a record, and tags, and how many stand in one with so many plies
-- after its size
abbrev pub name_size : Option (List ℕ) → ℕ
name_size None = 0
name_size (Some name) = 4 + length name

abbrev pub tags_size : List Tag → ℕ
tags_size [] = 0
tags_size (tag ∷ tags) = 8 + length tag.0 + length tag.1 + tags_size tags

abbrev pub body_size : Option (List ℕ) → List Tag → ℕ → ℕ
body_size name tags plies = 20 + name_size name + tags_size tags + 3 * plies

-- the longest name with which each game of a block fits in a record: a path has no more bytes
abbrev pub longest_name : ℕ
longest_name = 4096

-- the most bytes that stand after the size of a record: number, offset and head, the length of a
-- name and a name, and twice a block. Beside its name and contents a tag takes at least 4 bytes of
-- a text, and 8 of a record; a ply takes at least 2, and 3
abbrev pub largest_body : ℕ
largest_body = 24 + longest_name + 2 * block_limit

-- the tag has a spelling
pub record FitsTag (tag : Tag) : Type 0 where
  pub name : length tag.0 < 2 ^ 32
  pub contents : length tag.1 < 2 ^ 32

-- a control character stands in front of the bytes: one of ASCII, or of U+0080 to U+009F in UTF-8
abbrev pub begins_control : List ℕ → Bool
begins_control [] = false
begins_control (b ∷ rest) =
    nat_le b 31 || b == 127 || (b == 194 && begins (λ next. nat_le next 159) rest)

-- lines show the name as it is: nowhere in it stands a control character
abbrev pub is_shown : List ℕ → Bool
is_shown [] = true
is_shown (b ∷ rest) = not (begins_control (b ∷ rest)) && is_shown rest

abbrev pub is_shown_name : Option (List ℕ) → Bool
is_shown_name None = true
is_shown_name (Some name) = is_shown name

-- a run may meet a game with this number, at this offset, of a file with this name
abbrev pub is_origin : ℕ → ℕ → Option (List ℕ) → Bool
is_origin number offset name = nat_le 1 number && nat_le offset largest_offset && is_shown_name name

-- the game has a spelling
pub record FitsRecord (game : PackedGame) : Type 0 where
  pub number : game.number < 2 ^ 64
  pub offset : game.offset < 2 ^ 64
  pub name : IfSome game.name (λ name. length name < 2 ^ 32)
  pub count : length game.tags < 2 ^ 27
  pub tags : AllByRecursion FitsTag game.tags
  -- a name stands once among them, and they ascend in the order of their names
  pub ordered : IsStrictlySortedBy (slice_cmp nat_cmp) (tag_names game.tags)
  pub result : IsResult game.result
  pub plies : AllByRecursion FitsCode game.plies
  pub size : length (body_bytes game) ≤ largest_body
  pub origin : IsTrue (is_origin game.number game.offset game.name)

-- what is kept of the game with this name of its file and this number, at this offset, of which
-- this is the replay: its tags and its result as they stand, the marks of the position that it
-- starts from, and the codes of its main line
pub record IsPacked (its_name : Option (List ℕ)) (its_number its_offset : ℕ) (game : GameText)
    (replay : Replay) (packed : PackedGame) : Type 0 where
  pub name : packed.name ≡ its_name
  pub number : packed.number ≡ its_number
  pub offset : packed.offset ≡ its_offset
  pub tags : packed.tags ≡ game.tags
  pub result : packed.result ≡ game.result
  pub start : State
  pub first : slice_get replay.positions 0 ≡ Some start
  pub marks : AreMarks start packed.check packed.stuck
  pub plies : AreCodes start replay.played packed.plies

-- the bytes are the record of the game with this name of its file and this number, at this offset:
-- its main line is sound
pub record IsRecordOf (its_name : Option (List ℕ)) (its_number its_offset : ℕ) (game : GameText)
    (bytes : List ℕ) : Type 0 where
  pub replay : Replay
  pub is_replay : IsReplay Main (tag_in fen_tag game.tags) game.elements replay
  pub packed : PackedGame
  pub is_packed : IsPacked its_name its_number its_offset game replay packed
  pub spells : bytes ≡ record_bytes packed
