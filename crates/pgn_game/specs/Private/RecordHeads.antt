-- The tags and the result of a packed game, read of its record.
use Rattle.std.specs.Prelude.{◌≡◌, ◌++◌, ℕ, List, drop, Option, Some, None}
use Rattle.std.specs.List.{flat_map}
use Rattle.std.specs.Option.{option_or}
use Rattle.pgn_text.specs.Public.GameTexts.{GameText, HaveNames, HoldStrings, tag_in}
use Rattle.pgn_game.specs.Public.PackReading.{RawRecord, raw_of}
use Rattle.pgn_game.specs.Public.PackedGames.{PackedGame, FitsRecord, tag_bytes}
use Rattle.pgn_game.specs.Public.PlyCodes.{code_bytes}

-- the head has the tags and the result of the packed game
pub record HasHead (game : PackedGame) (head : GameText) : Type 0 where
  pub tags : (wanted : List ℕ) → tag_in wanted head.tags ≡ tag_in wanted game.tags
  pub result : head.result ≡ game.result

-- that head; or none, where no game of a text has the tags
abbrev pub IsHeadOf : PackedGame → Option GameText → Type 0
IsHeadOf game None = HoldStrings game.tags → HaveNames game.tags → ⊥
IsHeadOf game (Some head) = HasHead game head

-- the first tags are in the head, and the bytes of the others are left
pub record HasFilled (game : PackedGame) (i : ℕ) (rest : List ℕ) (head : GameText) : Type 0 where
  pub left : rest ≡ flat_map tag_bytes (drop i game.tags) ++ flat_map code_bytes game.plies
  pub tags : (wanted : List ℕ)
      → option_or (tag_in wanted head.tags) (tag_in wanted (drop i game.tags))
      ≡ tag_in wanted game.tags
  pub result : head.result ≡ game.result

-- the same of whichever game the record shows
abbrev pub HaveFilled : RawRecord → ℕ → List ℕ → GameText → Type 0
HaveFilled raw i rest head = (game : PackedGame) → FitsRecord game → raw ≡ raw_of game
    → HasFilled game i rest head
