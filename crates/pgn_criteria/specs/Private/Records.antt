-- What the record of a packed game shows of it beside its moves.
use Rattle.std.specs.Prelude.{ℕ, zero, suc, ◌/◌, ◌%◌, List, [], ◌∷◌, Result, Ok, Err}
use Rattle.pgn_text.specs.Public.GameTexts.{tag_in}
use Rattle.pgn_game.specs.declared.pack.error.RecordError.{RecordError}
use Rattle.pgn_game.specs.Public.PackedGames.{PackedGame, Tag, numbered_result}
use Rattle.pgn_game.specs.Public.PackReading.{RawRecord, tag_at}
use Rattle.pgn_criteria.specs.Public.Meeting.{Heading}

-- a tag that is read, and before bytes of which it is said which tags they begin with; none, where
-- none is read
abbrev pub tag_before : Result (Tag × List ℕ) RecordError → (List ℕ → List Tag) → List Tag
tag_before (Ok found) later = found.0 ∷ later found.1
tag_before (Err e) later = []

-- so many tags in front of bytes, up to the first that is none
abbrev pub tags_at : ℕ → List ℕ → List Tag
tags_at zero bytes = []
tags_at (suc n) bytes = tag_before (tag_at bytes) (tags_at n)

-- the heading that a record shows
abbrev pub heading_of_raw : RawRecord → Heading
heading_of_raw raw =
    record {
      named = λ name. tag_in name (tags_at (raw.head / 32) raw.tail);
      result =
          numbered_result (raw.head / 4 % 4);
    }

-- the heading of a packed game
abbrev pub heading_of_packed : PackedGame → Heading
heading_of_packed packed =
    record { named = λ name. tag_in name packed.tags; result = packed.result }
