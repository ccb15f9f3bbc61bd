-- The record of a packed game with the tags of a line of openings in place of its own.
use Rattle.std.specs.Prelude.{◌≡◌, ℕ, List, Option, Some, None}
use Rattle.std.specs.List.{slice_get}
use Rattle.pgn_text.specs.Public.GameTexts.{GameText, HaveNames, HoldStrings, IsGameText, tag_in}
use Rattle.pgn_game.specs.Public.Openings.{HasContents, NamedLine, tag_by}
use Rattle.pgn_game.specs.Public.PackedGames.{PackedGame, Tag, FitsRecord, record_bytes}

-- the packed game with these tags
abbrev pub with_tags : List Tag → PackedGame → PackedGame
with_tags tags game = record game { tags = tags }

-- the bytes are the record of the packed game with the tags of a game of some text, which has those
-- of the line at that place, and its other tags and its result as the packed game has them
pub record IsNamedRecord (lines : List NamedLine) (place : ℕ) (game : PackedGame)
    (bytes : List ℕ) : Type 0 where
  pub line : NamedLine
  pub there : slice_get lines place ≡ Some line
  pub contents : HasContents line
  pub head : GameText
  pub good : IsGameText head
  pub tags : (wanted : List ℕ)
      → tag_in wanted head.tags ≡ tag_by (Some line) wanted (tag_in wanted game.tags)
  pub result : head.result ≡ game.result
  pub fits : FitsRecord (with_tags head.tags game)
  pub spells : bytes ≡ record_bytes (with_tags head.tags game)

-- that record; or none, where no game of a text has the tags of the packed game
abbrev pub NamesRecord : List NamedLine → ℕ → PackedGame → Option (List ℕ) → Type 0
NamesRecord lines place game None = HoldStrings game.tags → HaveNames game.tags → ⊥
NamesRecord lines place game (Some bytes) = IsNamedRecord lines place game bytes
