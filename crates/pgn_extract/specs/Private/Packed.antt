-- The lines of a packed game: in the mode of the index its mark, else those of the entries of the
-- text that it was packed from.
use Rattle.std.specs.Prelude.{◌≡◌, ◌<◌, ◌++◌, ℕ, List, length, Some, ◌==◌, ◌/◌, ◌%◌, false}
use Rattle.std.specs.List.{slice_get}
use Rattle.chess.specs.Public.Positions.{State}
use Rattle.chess.specs.Public.Start.{initial}
use Rattle.chess.specs.declared.board.man.Side.{Side}
use Rattle.pgn_text.specs.Public.GameTexts.{GameText, IsGameText, tag_in}
use Rattle.pgn_game.specs.Public.PackReading.{RawRecord, raw_of}
use Rattle.pgn_game.specs.Public.PackedGames.{PackedGame, FitsRecord, IsPacked}
use Rattle.pgn_game.specs.Public.Replays.{Replay, IsReplay}
use Rattle.pgn_game.specs.Public.Starts.{fen_tag}
use Rattle.pgn_game.specs.declared.replays.replayer.Lines.TheVariants.{Main}
use Rattle.pgn_criteria.specs.Public.Meeting.{heading_of}
use Rattle.pgn_criteria.specs.Public.Walks.{Sight, IsSightOf}
use Rattle.pgn_extract.specs.Public.Aims.{Aim, GameId, IsWanted, IsEntry, aim_of}
use Rattle.pgn_extract.specs.declared.settings.EntryLine.TheVariants.{Marked}
use Rattle.pgn_extract.specs.declared.settings.Settings.{Settings}
use Rattle.pgn_extract.specs.Private.Lines.{NoneBefore, line_made, made_line}
use Rattle.pgn_extract.specs.declared.entries.line_maker.LineMaker.{LineMaker}
use Rattle.pgn_extract.specs.Public.GameReports.{AreListed}
use Rattle.pgn_extract.specs.Public.Listing.{CountsAs, Entry, listing}
use Rattle.pgn_extract.specs.Public.Searching.{AreRecordLines, IsOfNoGame}
use Rattle.pgn_extract.specs.Public.GivenMarks.{game_id}

-- which game it is
abbrev pub raw_id : RawRecord → GameId
raw_id raw = game_id raw.number raw.offset

-- the lines of a record are added to the text, of whatever packed game it is
abbrev pub PutsRecord : Aim → RawRecord → List ℕ → List ℕ → Type 0
PutsRecord aim raw old new =
    (own : List ℕ) × (new ≡ old ++ own)
    × ((packed : PackedGame) → FitsRecord packed → raw_of packed ≡ raw
    → AreRecordLines aim.mode aim packed own)

-- no game has the record, and the text stays as it was
abbrev pub LeavesRecord : RawRecord → List ℕ → List ℕ → Type 0
LeavesRecord raw old new = (new ≡ old)
    × ((packed : PackedGame) → FitsRecord packed → raw_of packed ≡ raw → IsOfNoGame packed)

-- Private words: how far the lines of a record are added.

-- the record is that of the game with this replay
pub record IsOfRecord (raw : RawRecord) (game : GameText) (replay : Replay)
    (packed : PackedGame) : Type 0 where
  pub fits : FitsRecord packed
  pub shows : raw_of packed ≡ raw
  pub text : IsGameText game
  pub is_replay : IsReplay Main (tag_in fen_tag game.tags) game.elements replay
  pub kept : IsPacked packed.name packed.number packed.offset game replay packed

-- so it is of each game that has the record
abbrev pub EachOfRecord : RawRecord → (GameText → Replay → PackedGame → Type 0) → Type 0
EachOfRecord raw So = (game : GameText) (replay : Replay) (packed : PackedGame)
    → IsOfRecord raw game replay packed → So game replay packed

-- no game has the record
abbrev pub HasNoText : RawRecord → Type 0
HasNoText raw = EachOfRecord raw (λ game replay packed. ⊥)

-- the aim, with the name that the record has
abbrev pub record_aim : Aim → RawRecord → Aim
record_aim aim raw = record aim { name = raw.name }

-- what the settings ask for, with the lines that are made; and with the mark and the ply alone
abbrev pub aim_making : Settings → LineMaker → Aim
aim_making settings lines =
    record (aim_of settings) { line = made_line lines; of_line = line_made lines }

abbrev pub bare_aim : Settings → Aim
bare_aim settings =
    record (aim_of settings) { line = Marked (record { fen = false; next = false }) }

-- the text grew at its end
abbrev pub Grows : List ℕ → List ℕ → Type 0
Grows old new = (own : List ℕ) × (new ≡ old ++ own)

-- the marks that are seen are those of the record's start
pub record HasItsMarks (raw : RawRecord) (sight : Sight) : Type 0 where
  pub check : sight.check ≡ (raw.head % 2 == 1)
  pub stuck : sight.stuck ≡ (raw.head / 2 % 2 == 1)

-- the initial position is seen, with these marks
pub record ShowsInitial (raw : RawRecord) (sight : Sight) : Type 0 where
  pub men : sight.men ≡ initial.men
  pub turn : sight.turn ≡ initial.turn
  pub marks : HasItsMarks raw sight

-- each game that has the record starts with this side to move
abbrev pub StartsWith : RawRecord → Side → Type 0
StartsWith raw turn =
    EachOfRecord raw (λ game replay packed. (P : State) × (slice_get replay.positions 0 ≡ Some P)
    × (P.turn ≡ turn))

-- the position is seen from which each game that has the record starts
abbrev pub StartsThere : RawRecord → Sight → Type 0
StartsThere raw sight =
    EachOfRecord raw (λ game replay packed. (P : State) × (slice_get replay.positions 0 ≡ Some P)
    × IsSightOf P sight)

-- the lines of the entries of each game that has the record are added
abbrev pub ListsRecord : Aim → RawRecord → List ℕ → List ℕ → Type 0
ListsRecord aim raw old new =
    Grows old new × EachOfRecord raw (λ game replay packed.
    (entries : List Entry) × AreListed (record_aim aim raw) (raw_id raw) game replay entries
    × (new ≡ old ++ listing raw.name entries))

-- the same of each game as it counts
abbrev pub ListsCounted : Aim → RawRecord → List ℕ → List ℕ → Type 0
ListsCounted aim raw old new =
    Grows old new × EachOfRecord raw (λ game replay packed.
    (own : GameText) × CountsAs aim.openings game own × (entries : List Entry)
    × AreListed (record_aim aim raw) (raw_id raw) own replay entries
    × (new ≡ old ++ listing raw.name entries))

-- the line stands at a position of each game that has the record, and none is wanted before it
abbrev pub StandsInRecord : (Aim → GameText → List State → State → Type 0) → Aim → RawRecord
    → Type 0
StandsInRecord At aim raw =
    EachOfRecord raw (λ game replay packed. (before : List State) × (P : State)
    × At (record_aim aim raw) game before P × NoneBefore (record_aim aim raw) game before)

-- no ply of a game that has the record is wanted
abbrev pub NoneInRecord : Aim → RawRecord → Type 0
NoneInRecord aim raw =
    EachOfRecord raw (λ game replay packed. (n : ℕ) → n < length replay.positions
    → IsWanted aim (heading_of game) replay n → ⊥)

-- no ply of a game that has the record is an entry
abbrev pub HasNoEntry : Aim → RawRecord → Type 0
HasNoEntry aim raw =
    EachOfRecord raw (λ game replay packed. (n : ℕ) → n < length replay.positions
    → IsEntry aim (heading_of game) replay n → ⊥)
