-- The game that rows are of, where it stands.
use Rattle.std.specs.Prelude.{◌≡◌, ℕ, Bool, true, false, List, Option, option_map}
use Rattle.pgn_text.specs.Public.GameTexts.{GameText}
use Rattle.pgn_game.specs.Public.Openings.{NamedLine}
use Rattle.pgn_game.specs.Public.PackedGames.{PackedGame}
use Rattle.pgn_game.specs.Public.PackReading.{RawRecord}
use Rattle.pgn_game.specs.Public.Replays.{Replay}
use Rattle.pgn_extract.specs.Private.Packed.{IsOfRecord}
use Rattle.pgn_extract.specs.declared.entries.row_game.GameSource.{GameSource}
use Rattle.pgn_extract.specs.declared.entries.row_game.GameSource.TheVariants.{Text, Record}
use Rattle.pgn_extract.specs.declared.entries.row_game.RowGame.{RowGame}

-- the game has this record
abbrev pub IsInRecord : RawRecord → GameText → Type 0
IsInRecord raw game =
    (replay : Replay) × (packed : PackedGame) × IsOfRecord raw game replay packed

-- the game has this text, or this record
abbrev pub IsGameIn : GameSource → GameText → Type 0
IsGameIn (Text raw openings) game = raw.now ≡ game
IsGameIn (Record raw openings) game = IsInRecord raw.now game

-- it is a text, which has annotations; a record has none
abbrev pub is_text : GameSource → Bool
is_text (Text raw openings) = true
is_text (Record raw openings) = false

-- the name of its file, where lines have one
abbrev pub name_of : RowGame → Option (List ℕ)
name_of game = option_map (λ name. name.now) game.name

-- the lines of openings, where they are given
abbrev pub openings_of : GameSource → Option (List NamedLine)
openings_of (Text raw openings) = option_map (λ lines. lines.now) openings
openings_of (Record raw openings) = option_map (λ lines. lines.now) openings
