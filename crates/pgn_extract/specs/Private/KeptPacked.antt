-- Private words: the entries of a packed game whose line is replayed and kept.
use Rattle.chess.specs.Public.Positions.{State}
use Rattle.pgn_text.specs.Public.GameTexts.{tag_in}
use Rattle.pgn_game.specs.Public.PackReading.{RawRecord}
use Rattle.pgn_game.specs.Public.Starts.{fen_tag, IsStart}
use Rattle.pgn_extract.specs.Private.Packed.{EachOfRecord}

-- each game that has the record starts from this position
abbrev pub IsStartOf : RawRecord → State → Type 0
IsStartOf raw start =
    EachOfRecord raw (λ game replay packed. IsStart (tag_in fen_tag game.tags) start)
