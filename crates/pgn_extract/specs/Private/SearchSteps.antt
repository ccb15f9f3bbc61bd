-- How far a search of a pack has come, and how one ends.
use Rattle.std.specs.Prelude.{◌≡◌, ◌⊎◌, ℕ, ◌+◌, ◌≤◌, Bool, true, false, List, ◌++◌, length, Option}
use Rattle.std.specs.Io.KnownBytes.{Appends, Consumes}
use Rattle.std.specs.List.{AllByRecursion}
use Rattle.pgn_text.specs.Public.Limits.{largest_offset}
use Rattle.pgn_game.specs.Public.PackStreams.{Window}
use Rattle.pgn_game.specs.Public.PackedGames.{PackedGame, FitsRecord, pack_bytes}
use Rattle.pgn_game.specs.declared.pack.records.RecordsError.{RecordsError}
use Rattle.pgn_game.specs.declared.pack.records.RecordsError.TheVariants as cause
use Rattle.pgn_extract.specs.Public.Aims.{Aim}
use Rattle.pgn_extract.specs.Public.Outcomes.{AppendsFront}
use Rattle.pgn_extract.specs.Public.Searching.{ArePackLines}
use Rattle.pgn_extract.specs.declared.packed.searching.SearchError.{SearchError}
use Rattle.pgn_extract.specs.declared.packed.searching.SearchError.TheVariants.{Read, OutOfMemory}
use Rattle.pgn_extract.specs.declared.packed.searching.SearchError.TheVariants.{Write, InputTooLong}
use Rattle.pgn_extract.specs.declared.packed.searching.SearchError.TheVariants.{BadPack}

-- these records are read, the last of them the one that is held; their lines are written in part,
-- and the text has the rest of them
pub record HasSearched (aim : Aim) (window : Window) (left left' out out' : Option (List ℕ))
    (text : List ℕ) (count : ℕ) : Type 0 where
  pub before : List PackedGame
  pub fit : AllByRecursion FitsRecord before
  pub counted : count ≡ length before
  pub bytes : Consumes left left' (pack_bytes before ++ window.ahead)
  pub place : window.place + length window.current ≡ length (pack_bytes before)
  pub small : window.place + length window.current ≤ largest_offset
  pub all : List ℕ
  pub lines : ArePackLines aim before all
  pub put : List ℕ
  pub written : Appends out out' put
  pub gathered : all ≡ put ++ text

-- some of what is gathered is written, and the rest is kept
abbrev pub PutsSome : Option (List ℕ) → Option (List ℕ) → List ℕ → List ℕ → Type 0
PutsSome out out' text rest = (put : List ℕ) × Appends out out' put × (text ≡ put ++ rest)

-- the error of a search for that of its records, which stands after so many bytes
abbrev pub search_error_of : RecordsError → ℕ → SearchError
search_error_of cause.Read place = Read
search_error_of cause.OutOfMemory place = OutOfMemory
search_error_of cause.InputTooLong place = InputTooLong
search_error_of cause.BadPack place = BadPack place

-- what is gathered is written, and the error stands; or the write failed
abbrev pub PutsRest : SearchError → Option (List ℕ) → Option (List ℕ) → Bool → List ℕ → SearchError
    → Type 0
PutsRest error out out' faulted text result =
    ((result ≡ error) × (faulted ≡ false) × Appends out out' text)
    ⊎ ((result ≡ Write) × (faulted ≡ true) × AppendsFront out out' text)
