-- The search of a pack: what is written of it is the listing of the text that was packed, or the
-- marks of its sound games.
use Rattle.std.specs.Prelude.{◌≡◌, ◌≢◌, ℕ, ◌+◌, ◌^◌, ◌<◌, ◌≤◌, List, [], ◌∷◌, ◌++◌, length, Option}
use Rattle.std.specs.Prelude.{None, Some, Result, IfSome, IfOk, IfErr, IsTrue}
use Rattle.std.specs.Io.KnownBytes.{Appends, Consumes}
use Rattle.std.specs.List.{AllByRecursion}
use Rattle.pgn_text.specs.Public.GameTexts.{GameText, IsGameText}
use Rattle.pgn_text.specs.Public.Limits.{block_limit, depth_limit, largest_offset}
use Rattle.pgn_text.specs.Public.Marks.{PieceKind, ReadableGame, UnreadableRest, TooLongBlock}
use Rattle.pgn_text.specs.Public.Marks.{MarkedPiece, AreMarkedPieces}
use Rattle.pgn_game.specs.Public.Faults.{Fault}
use Rattle.pgn_game.specs.Public.PackedGames.{PackedGame, FitsRecord, IsPacked, record_bytes}
use Rattle.pgn_game.specs.Public.PackedGames.{pack_bytes, longest_name, is_shown_name}
use Rattle.pgn_game.specs.Public.PackStreams.{HasNoRecord}
use Rattle.pgn_game.specs.Public.Replays.{Replay}
use Rattle.pgn_game.specs.declared.replays.replayer.Lines.TheVariants.{Main}
use Rattle.pgn_extract.specs.Public.Aims.{Aim, GameId}
use Rattle.pgn_extract.specs.Public.Exports.{AreExports}
use Rattle.pgn_extract.specs.Public.Index.{mark_line}
use Rattle.pgn_extract.specs.declared.settings.Form.TheVariants.{Record}
use Rattle.pgn_extract.specs.declared.settings.Mode.{Mode}
use Rattle.pgn_extract.specs.declared.settings.Mode.TheVariants as modes
use Rattle.pgn_extract.specs.declared.settings.Select.TheVariants.{Matching}
use Rattle.pgn_extract.specs.Public.GameReports.{AreListed, IsReplayOf, IsFaultOf}
use Rattle.pgn_extract.specs.Public.Listing.{CountsAs, Entry, AreEntries, IsGameOf, listing}
use Rattle.pgn_extract.specs.Public.Outcomes.{AppendsFront}
use Rattle.pgn_extract.specs.declared.packed.searching.SearchError.{SearchError}
use Rattle.pgn_extract.specs.declared.packed.searching.SearchError.TheVariants.{Read, OutOfMemory}
use Rattle.pgn_extract.specs.declared.packed.searching.SearchError.TheVariants.{Write, InputTooLong}
use Rattle.pgn_extract.specs.declared.packed.searching.SearchError.TheVariants.{BadPack}
use Rattle.pgn_extract.specs.declared.packed.searching.Searched.{Searched}
use Rattle.pgn_extract.specs.Public.GivenMarks.{game_id}
use Rattle.pgn_extract.specs.Public.Choices.{id_of}

-- What was packed.

-- the records of a game that can be read: of a sound one what is kept of it, and of a faulty one
-- none
pub data AreGameRecords (name : Option (List ℕ)) (id : GameId) (game : GameText)
    (records : List PackedGame) : Type 0 where
  sound : (replay : Replay) (packed : PackedGame) → IsReplayOf Main game replay
      → IsPacked name id.number id.offset game replay packed → records ≡ packed ∷ []
      → AreGameRecords name id game records
  faulty : (fault : Fault) → IsFaultOf Main game fault → records ≡ []
      → AreGameRecords name id game records

-- the records of a piece: only a game that can be read has one
abbrev pub ArePieceRecords : Option (List ℕ) → PieceKind → GameId → List PackedGame → Type 0
ArePieceRecords name (ReadableGame parts) id records =
    (game : GameText) × IsGameOf parts game × AreGameRecords name id game records
ArePieceRecords name (UnreadableRest bytes) id records = records ≡ []
ArePieceRecords name TooLongBlock id records = records ≡ []

-- the records of pieces that are numbered from a number on, each with the name of their file: of
-- each sound game one, in their order
abbrev pub AreRecords : Option (List ℕ) → ℕ → List MarkedPiece → List PackedGame → Type 0
AreRecords name number [] records = records ≡ []
AreRecords name number (piece ∷ more) records =
    (own : List PackedGame) × (rest : List PackedGame) × (records ≡ own ++ rest)
    × ArePieceRecords name piece.kind (id_of number piece) own
    × AreRecords name (number + 1) more rest

-- the bytes are the pack of all sound games of these pieces
pub record IsPackOf (name : Option (List ℕ)) (number : ℕ) (pieces : List MarkedPiece)
    (bytes : List ℕ) : Type 0 where
  pub records : List PackedGame
  pub are : AreRecords name number pieces records
  pub fit : AllByRecursion FitsRecord records
  pub packed : bytes ≡ pack_bytes records

-- each sound game is packed, whatever its mark and its moves
pub record PacksAll (packing : Aim) : Type 0 where
  pub chosen : packing.chosen ≡ None
  pub openings : packing.openings ≡ None
  pub form : packing.form ≡ Record
  pub criteria : packing.criteria ≡ None
  pub from_start : packing.min_ply ≡ 0
  pub select : packing.select ≡ Matching

-- these pieces of the text that begins at the offset, numbered from a number on, are packed in
-- these bytes
pub record PacksText (packing : Aim) (id : GameId) (text : List ℕ) (pieces : List MarkedPiece)
    (bytes : List ℕ) : Type 0 where
  pub all : PacksAll packing
  pub short : IfSome packing.name (λ name. length name ≤ longest_name)
  pub shown : IsTrue (is_shown_name packing.name)
  pub counted : 1 ≤ id.number
  pub few : id.number ≤ 2 ^ 62
  pub within : id.offset + length text ≤ largest_offset
  pub each : AreMarkedPieces block_limit depth_limit id.offset text pieces
  pub exported : AreExports packing id.number pieces bytes

-- these bytes are then the pack of the pieces
abbrev pub PackedTextIsAPack : Type 0
PackedTextIsAPack =
    (packing : Aim) (id : GameId) (text : List ℕ) (pieces : List MarkedPiece) (bytes : List ℕ)
    → PacksText packing id text pieces bytes → IsPackOf packing.name id.number pieces bytes

-- What is found in a pack.

-- the aim that passes over no game: marks are not looked for in packs
abbrev pub of_all : Aim → Aim
of_all aim = record aim { chosen = None }

-- the aim whose lines have this name of a file
abbrev pub named : Option (List ℕ) → Aim → Aim
named name aim = record aim { name = name }

-- the listing of a record: of whatever game it is kept, the lines of the entries of that game as it
-- counts
abbrev pub IsRecordListing : Aim → PackedGame → List ℕ → Type 0
IsRecordListing aim packed text =
    (game : GameText) (replay : Replay) → IsGameText game → IsReplayOf Main game replay
    → IsPacked packed.name packed.number packed.offset game replay packed
    → (own : GameText) × CountsAs aim.openings game own × (entries : List Entry)
    × AreListed (named packed.name (of_all aim)) (game_id packed.number packed.offset) own replay
    entries
    × (text ≡ listing packed.name entries)

-- the lines of a record in a mode: in that of the index its mark, else its listing
abbrev pub AreRecordLines : Mode → Aim → PackedGame → List ℕ → Type 0
AreRecordLines modes.Index aim packed text =
    text ≡ mark_line packed.name (game_id packed.number packed.offset)
AreRecordLines modes.List aim packed text = IsRecordListing aim packed text
AreRecordLines modes.EachLine aim packed text = IsRecordListing aim packed text
AreRecordLines modes.Export aim packed text = IsRecordListing aim packed text

-- no game has the record
abbrev pub IsOfNoGame : PackedGame → Type 0
IsOfNoGame packed =
    (game : GameText) (replay : Replay) → IsGameText game → IsReplayOf Main game replay
    → IsPacked packed.name packed.number packed.offset game replay packed → ⊥

-- in front of the bytes stands the record of no game
abbrev pub HasNoGame : List ℕ → Type 0
HasNoGame bytes = (packed : PackedGame) (rest : List ℕ) → FitsRecord packed
    → bytes ≡ record_bytes packed ++ rest → IsOfNoGame packed

-- the lines of records: those of the first, and then those of the others
abbrev pub ArePackLines : Aim → List PackedGame → List ℕ → Type 0
ArePackLines aim [] text = text ≡ []
ArePackLines aim (packed ∷ more) text =
    (own : List ℕ) × (rest : List ℕ) × (text ≡ own ++ rest) × AreRecordLines aim.mode aim packed own
    × ArePackLines aim more rest

-- the bytes begin with these records, and these are their lines
pub record BeginsWithRecords (aim : Aim) (whole : List ℕ) (before : List PackedGame)
    (rest text : List ℕ) : Type 0 where
  pub fit : AllByRecursion FitsRecord before
  pub parted : whole ≡ pack_bytes before ++ rest
  pub lines : ArePackLines aim before text

-- What stands at the end of a search.

-- at `Ok`: all bytes are records, each is counted, and their lines are written
pub record Searches (aim : Aim) (whole : List ℕ) (out out' : Option (List ℕ))
    (searched : Searched) : Type 0 where
  pub records : List PackedGame
  pub text : List ℕ
  pub read : BeginsWithRecords aim whole records [] text
  pub counted : searched.records ≡ length records
  pub written : Appends out out' text

-- so in the mode of the listing, of whatever text the bytes are the pack, its listing is written
abbrev pub ListsWhatWasPacked : Aim → List ℕ → Option (List ℕ) → Option (List ℕ) → Type 0
ListsWhatWasPacked aim whole out out' =
    aim.mode ≡ modes.List → (name : Option (List ℕ)) (number : ℕ) (pieces : List MarkedPiece)
    → IsPackOf name number pieces whole
    → (entries : List Entry) → AreEntries (named name (of_all aim)) number pieces entries
    → Appends out out' (listing name entries)

-- the piece is a game whose main line is sound
abbrev pub IsSoundPiece : PieceKind → Type 0
IsSoundPiece (ReadableGame parts) =
    (game : GameText) × IsGameOf parts game × (replay : Replay) × IsReplayOf Main game replay
IsSoundPiece (UnreadableRest bytes) = ⊥
IsSoundPiece TooLongBlock = ⊥

-- the index of the sound games among pieces that are numbered from a number on
pub data IsIndexOfSoundGames (name : Option (List ℕ)) : ℕ → List MarkedPiece → List ℕ → Type 0 where
  none : (number : ℕ) → IsIndexOfSoundGames name number [] []
  keep : (number : ℕ) (piece : MarkedPiece) (more : List MarkedPiece) (text : List ℕ)
      → IsSoundPiece piece.kind → IsIndexOfSoundGames name (number + 1) more text
      → IsIndexOfSoundGames name number (piece ∷ more) (mark_line name (id_of number piece) ++ text)
  leave : (number : ℕ) (piece : MarkedPiece) (more : List MarkedPiece) (text : List ℕ)
      → (IsSoundPiece piece.kind → ⊥) → IsIndexOfSoundGames name (number + 1) more text
      → IsIndexOfSoundGames name number (piece ∷ more) text

-- and in that of the index, the index of its sound games is
abbrev pub IndexesWhatWasPacked : Aim → List ℕ → Option (List ℕ) → Option (List ℕ) → Type 0
IndexesWhatWasPacked aim whole out out' =
    aim.mode ≡ modes.Index → (name : Option (List ℕ)) (number : ℕ) (pieces : List MarkedPiece)
    → IsPackOf name number pieces whole
    → (text : List ℕ) × IsIndexOfSoundGames name number pieces text × Appends out out' text

-- where something is the record of no game: it stands after records of so many bytes, whose lines
-- are written
pub record StopsAtBytes (aim : Aim) (whole : List ℕ) (at : ℕ) (out out' : Option (List ℕ)) : Type 0
  where
    pub before : List PackedGame
    pub rest : List ℕ
    pub text : List ℕ
    pub read : BeginsWithRecords aim whole before rest text
    pub place : at ≡ length (pack_bytes before)
    pub some : rest ≢ []
    pub bad : HasNoGame rest
    pub written : Appends out out' text

-- where a read fails: of the bytes that were taken until then, the lines of each whole record are
-- written
pub record StopsAtRead (aim : Aim) (whole : List ℕ) (left out out' : Option (List ℕ)) : Type 0 where
  pub taken : List ℕ
  pub bytes : Consumes (Some whole) left taken
  pub before : List PackedGame
  pub rest : List ℕ
  pub text : List ℕ
  pub read : BeginsWithRecords aim taken before rest text
  pub none : HasNoRecord rest
  pub written : Appends out out' text

-- where a record ends past the largest offset: the lines of those before it are written
pub record StopsAtLimit (aim : Aim) (whole : List ℕ) (out out' : Option (List ℕ)) : Type 0 where
  pub before : List PackedGame
  pub next : PackedGame
  pub rest : List ℕ
  pub text : List ℕ
  pub read : BeginsWithRecords aim whole before (record_bytes next ++ rest) text
  pub fits : FitsRecord next
  pub far : largest_offset < length (pack_bytes before) + length (record_bytes next)
  pub written : Appends out out' text

-- where a write fails, or memory runs out: a beginning of them is
pub record StopsWithin (aim : Aim) (whole : List ℕ) (out out' : Option (List ℕ)) : Type 0 where
  pub before : List PackedGame
  pub rest : List ℕ
  pub text : List ℕ
  pub read : BeginsWithRecords aim whole before rest text
  pub written : AppendsFront out out' text

-- what stands at an error, where the input had the bytes `whole`, and has those that are left
abbrev pub StopsSearch : SearchError → Aim → List ℕ → Option (List ℕ) → Option (List ℕ)
    → Option (List ℕ) → Type 0
StopsSearch Read aim whole left out out' = StopsAtRead aim whole left out out'
StopsSearch InputTooLong aim whole left out out' = StopsAtLimit aim whole out out'
StopsSearch Write aim whole left out out' = StopsWithin aim whole out out'
StopsSearch OutOfMemory aim whole left out out' = StopsWithin aim whole out out'
StopsSearch (BadPack at) aim whole left out out' = StopsAtBytes aim whole at out out'

-- So a search ends, of an input whose bytes are known.
pub record IsSearch (aim : Aim) (left left' out out' : Option (List ℕ))
    (result : Result Searched SearchError) : Type 0 where
  pub done : IfOk result (λ searched. IfSome left (λ whole. Searches aim whole out out' searched))
  pub lists : IfOk result (λ _. IfSome left (λ whole. ListsWhatWasPacked aim whole out out'))
  pub indexes : IfOk result (λ _. IfSome left (λ whole. IndexesWhatWasPacked aim whole out out'))
  pub stopped : IfErr result (λ error.
      IfSome left (λ whole. StopsSearch error aim whole left' out out'))
