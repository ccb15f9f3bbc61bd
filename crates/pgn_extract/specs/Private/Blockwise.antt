-- What the parts of a run do with the bytes dropped, with one block and with the blocks in a row:
-- the words between the code and those of `Outcomes`.
use Rattle.std.specs.Prelude.{◌≡◌, ℕ, zero, suc, ◌+◌, ◌<◌, ◌≤◌, Bool, true, false, List, []}
use Rattle.std.specs.Prelude.{◌∷◌, ◌++◌, length, drop, count_by, Option, None, IfSome, codes}
use Rattle.std.specs.Prelude.{decimal, if◌then◌else◌, ◌==◌, ◌⊎◌}
use Rattle.std.specs.Io.KnownBytes.{Appends}
use Rattle.pgn_text.specs.Public.GameTexts.{GameText, ShowsGame}
use Rattle.pgn_game.specs.Public.Faults.{Fault}
use Rattle.pgn_game.specs.Public.LineGames.{AsExports, LineLayout, OnLines}
use Rattle.pgn_game.specs.Public.Openings.{NamedLine}
use Rattle.pgn_game.specs.Public.Replays.{Replay}
use Rattle.pgn_game.specs.declared.exports.notation.Notation.{Notation}
use Rattle.pgn_game.specs.declared.replays.replayer.Lines.{Lines}
use Rattle.pgn_extract.specs.Public.Exports.{IsTextOf, IsWritten, faulty_text, written_lines}
use Rattle.pgn_text.specs.Public.Left.{IsPiece}
use Rattle.pgn_text.specs.Public.Limits.{depth_limit, largest_offset}
use Rattle.pgn_text.specs.Public.Marks.{TooLongBlock, MarkedPiece, marked, AreOfBlock}
use Rattle.pgn_text.specs.Public.Marks.{AreMarkedPieces}
use Rattle.pgn_text.specs.Public.Parts.{Part}
use Rattle.pgn_text.specs.Public.Pieces as spec
use Rattle.pgn_text.specs.declared.game.pieces.PieceStart.{PieceStart}
use Rattle.pgn_text.specs.declared.game.pieces.PieceStart.TheVariants as mark
use Rattle.pgn_text.specs.declared.game.pieces.Piece.{Piece}
use Rattle.pgn_text.specs.Public.Stops.{IsErrorPosition}
use Rattle.pgn_text.specs.Public.Tallies.{Reads}
use Rattle.pgn_text.specs.declared.io.blocks.Body.{Body}
use Rattle.pgn_text.specs.declared.io.blocks.Body.TheVariants.{Bytes, TooLong}
use Rattle.pgn_text.specs.declared.io.blocks.ReadError.{ReadError}
use Rattle.pgn_text.specs.declared.io.blocks.ReadError.TheVariants as cause
use Rattle.pgn_extract.specs.Public.Notes.{IsNote, NamesByte}
use Rattle.pgn_extract.specs.Public.Outcomes.{AppendsFront, Writes, WritesComplete}
use Rattle.pgn_extract.specs.Public.Index.{fault_text, mark_line}
use Rattle.pgn_extract.specs.Public.Verdicts.{Verdict, SoundGame, FaultyGame, replayed_lines}
use Rattle.pgn_extract.specs.Public.Verdicts.{IsGameVerdict, IsOutput, IsReplayed, IsVerdictIn}
use Rattle.pgn_extract.specs.Public.Verdicts.{IsVerdict}
use Rattle.pgn_extract.specs.Public.Verdicts.{AreVerdicts, output_of, fault_line_of, output_text}
use Rattle.pgn_extract.specs.Public.Verdicts.{fault_lines, is_faulty}
use Rattle.pgn_extract.specs.declared.engine.report.Report.{Report}
use Rattle.pgn_extract.specs.declared.output.outcome.RunError.{RunError}
use Rattle.pgn_extract.specs.declared.output.outcome.RunError.TheVariants.{Read, Write, OutOfMemory}
use Rattle.pgn_extract.specs.declared.output.outcome.RunError.TheVariants.{InputTooLong}
use Rattle.pgn_extract.specs.declared.output.outcome.Summary.{Summary}
use Rattle.pgn_extract.specs.Public.Aims.{Aim, GameId}
use Rattle.pgn_extract.specs.Public.Choices.{IfChosen, is_chosen}
use Rattle.pgn_text.specs.Public.LeftMarks.{mark_place}
use Rattle.pgn_extract.specs.Public.Listing.{CountsAs, Entry, listing}
use Rattle.pgn_extract.specs.declared.settings.Form.{Form}
use Rattle.pgn_extract.specs.declared.settings.Form.TheVariants.{AsItStands, EachLine, FromEntry}
use Rattle.pgn_extract.specs.declared.settings.Form.TheVariants.{Line, LineOfEach, Record, Standard}
use Rattle.pgn_extract.specs.declared.settings.Mode.{Mode}
use Rattle.pgn_extract.specs.declared.settings.Mode.TheVariants as modes
use Rattle.pgn_extract.specs.declared.settings.Select.TheVariants.{Matching}
use Rattle.pgn_extract.specs.Private.Finding.{named_mark}
use Rattle.pgn_extract.specs.Public.GameReports.{AreListed, IsFaultOf, IsReplayOf}
use Rattle.pgn_extract.specs.Public.GivenMarks.{game_id}

-- the piece at this place of the block that begins there
abbrev pub id_at : GameId → ℕ → GameId
id_at id place = game_id id.number (id.offset + place)

-- a body that is shown has no more bytes than the limit
abbrev pub IsShown : ℕ → Body → Type 0
IsShown limit (Bytes shown) = length shown.now ≤ limit
IsShown limit (TooLong size) = Unit {0}

-- the report is of these pieces, which are numbered from a number on, and counts them
pub record Reports (aim : Aim) (report : Report) (number : ℕ) (pieces : List MarkedPiece) : Type 0
  where
    pub verdicts : List Verdict
    pub each : AreVerdicts aim number pieces verdicts
    pub output : report.output.items ≡ output_text verdicts
    pub faults : report.faults.items ≡ fault_lines verdicts
    pub same : length verdicts ≡ length pieces
    pub games : report.games ≡ length pieces
    pub faulty : report.faulty ≡ count_by is_faulty verdicts

-- what is reported is added, and so many pieces counted
pub record AddsVerdict (old new : Report) (verdict : Verdict) (count : ℕ) : Type 0 where
  pub output : new.output.items ≡ old.output.items ++ output_of verdict
  pub faults : new.faults.items ≡ old.faults.items ++ fault_line_of verdict
  pub games : new.games ≡ old.games + count
  pub faulty : new.faulty ≡ old.faulty + (if is_faulty verdict then 1 else 0)

-- where there are no criteria, the ply is listed of a main line with so many plies
abbrev pub IsPlainEntry : Aim → ℕ → ℕ → Type 0
IsPlainEntry aim plies ply = (ply ≤ plies) × (aim.min_ply ≤ ply) × (ply ≤ aim.max_ply)
    × (aim.first ≡ true → ply ≡ aim.min_ply)

-- the lines that begin with a mark at so many plies in a row
unfoldable pub lines_from : List ℕ → ℕ → ℕ → List ℕ
lines_from marked ply zero = []
lines_from marked ply (suc count) = (marked ++ 32 ∷ decimal ply ++ 10 ∷ [])
    ++ lines_from marked (ply + 1) count

-- the lines of the entries of any main line with so many plies are added
abbrev pub AddsPlies : Aim → GameId → ℕ → List ℕ → List ℕ → Type 0
AddsPlies aim id plies old new =
    (game : GameText) (replay : Replay) → length replay.positions ≡ plies + 1
    → (entries : List Entry) × AreListed aim id game replay entries
    × (new ≡ old ++ listing aim.name entries)

-- the same of a game with this mark, whatever it says
abbrev pub AddsLines : Aim → List ℕ → ℕ → List ℕ → List ℕ → Type 0
AddsLines aim marked plies old new =
    (name : Option (List ℕ)) (openings : Option (List NamedLine)) (id : GameId)
    → marked ≡ named_mark name id
    → AddsPlies (record aim { name = name; openings = openings }) id plies old new

-- the game, read by itself: its place is the first
abbrev pub by_itself : GameText → GameText
by_itself game = record game { at = 0 }

-- the game is sound in these lines, and a text is added that is one of its replay
abbrev pub AddsSound : Lines → GameText → (Replay → List ℕ → Type 0) → List ℕ → List ℕ → Type 0
AddsSound lines game IsIt old new =
    (replay : Replay) × IsReplayOf lines game replay
    × (text : List ℕ) × IsIt replay text × (new ≡ old ++ text)

-- the text of the game, selected or not, is added
abbrev pub PutsText : Aim → GameId → GameText → List ℕ → List ℕ → Type 0
PutsText aim id game old new =
    AddsSound (written_lines aim) game (λ _. IsTextOf aim.form aim id (by_itself game)) old new

-- what is written of it is added
abbrev pub AddsText : Aim → GameId → GameText → List ℕ → List ℕ → Type 0
AddsText aim id game old new =
    AddsSound (written_lines aim) game (IsWritten aim id (by_itself game)) old new

-- what goes to the output of it in the mode is added
abbrev pub AddsOutput : Aim → GameId → GameText → List ℕ → List ℕ → Type 0
AddsOutput aim id game old new =
    AddsSound (replayed_lines aim.mode aim) game (IsOutput aim.mode aim id (by_itself game)) old new

-- these lines of the game have the fault, and something may be added already
abbrev pub StopsIn : Lines → GameText → List ℕ → List ℕ → Fault → Type 0
StopsIn lines game old new fault =
    IsFaultOf lines game fault × (more : List ℕ) × (new ≡ old ++ more)

-- each sound game is written, whatever its moves
pub record TakesAll (aim : Aim) : Type 0 where
  pub criteria : aim.criteria ≡ None
  pub from_start : aim.min_ply ≡ 0
  pub select : aim.select ≡ Matching

-- and in the standard's form for export
pub record ExportsAll (aim : Aim) : Type 0 where
  pub mode : aim.mode ≡ modes.Export
  pub form : aim.form ≡ Standard
  pub edits : aim.edits ≡ None
  pub all : TakesAll aim

-- each line of a game is written for itself in the form
abbrev pub IsOfLines : Form → Type 0
IsOfLines form = (form ≡ EachLine) ⊎ ((notation : Notation) × (form ≡ LineOfEach notation))

-- how: on lines of text after these bytes, or as exports
abbrev pub line_layout : Form → Aim → List ℕ → LineLayout
line_layout Standard aim before = AsExports aim.edits aim.style
line_layout FromEntry aim before = AsExports aim.edits aim.style
line_layout EachLine aim before = AsExports aim.edits aim.style
line_layout (LineOfEach notation) aim before = OnLines notation before
line_layout AsItStands aim before = AsExports aim.edits aim.style
line_layout (Line notation) aim before = AsExports aim.edits aim.style
line_layout Record aim before = AsExports aim.edits aim.style

-- each line of each sound game is written for itself, whatever its moves
pub record ExportsLines (aim : Aim) : Type 0 where
  pub mode : aim.mode ≡ modes.Export
  pub form : IsOfLines aim.form
  pub openings : aim.openings ≡ None
  pub all : TakesAll aim

-- what the mode reports of the game by its replay is added; the game isn't counted yet
abbrev pub AddsReplayed : Mode → Aim → Report → Report → GameId → GameText → Type 0
AddsReplayed mode aim old new id game = (verdict : Verdict)
    × IsReplayed mode aim id (by_itself game) verdict × AddsVerdict old new verdict 0

-- what the mode reports of the game is, where tags may come first
abbrev pub AddsSearched : Mode → Aim → Report → Report → GameId → GameText → Type 0
AddsSearched mode aim old new id game = (verdict : Verdict)
    × IsGameVerdict aim.tags_first mode aim id (by_itself game) verdict
    × AddsVerdict old new verdict 0

-- what the mode reports of a game as which it counts is added
abbrev pub AddsCounted : Mode → Aim → Report → Report → GameId → GameText → Type 0
AddsCounted mode aim old new id game = (other : GameText) × CountsAs aim.openings game other
    × AddsSearched mode aim old new id other

-- the same of what the mode reports of whatever parts make the game
abbrev pub AddsGame : Aim → Report → Report → GameId → GameText → Type 0
AddsGame aim old new id game =
    (at : ℕ) (parts : List Part) → ShowsGame game at parts
    → (verdict : Verdict) × IsVerdictIn aim.mode aim id parts verdict
    × AddsVerdict old new verdict 0

-- what is reported of the piece in the mode is added, and the piece counted
abbrev pub AddsMark : Aim → Report → Report → ℕ → MarkedPiece → Type 0
AddsMark aim old new number piece = (verdict : Verdict) × IsVerdict aim number piece verdict
    × AddsVerdict old new verdict 1

-- the piece is one of those of the block that begins at the offset
abbrev pub IsPieceOf : ℕ → List ℕ → spec.Piece → Type 0
IsPieceOf offset block piece =
    (before : List spec.Piece) × (after : List spec.Piece)
    × spec.ArePieces depth_limit (offset == 0) [] (before ++ piece ∷ after) block

-- the same, of the piece that is given of the block that begins at the offset
abbrev pub AddsPiece : Aim → Report → Report → GameId → List ℕ → Piece → Type 0
AddsPiece aim old new id block piece =
    (shown : spec.Piece) → IsPiece piece shown → IsPieceOf id.offset block shown
    → AddsMark aim old new id.number (marked id.offset shown)

-- what is reported is added, and a beginning of all is written: the report has the rest; so many
-- pieces are counted
pub record PassesVerdict (old new : Report) (out out' err err' : Option (List ℕ))
    (verdict : Verdict) (count : ℕ) : Type 0 where
  pub first_output : List ℕ
  pub first_faults : List ℕ
  pub out_grew : Appends out out' first_output
  pub err_grew : Appends err err' first_faults
  pub output : first_output ++ new.output.items ≡ old.output.items ++ output_of verdict
  pub faults : first_faults ++ new.faults.items ≡ old.faults.items ++ fault_line_of verdict
  pub games : new.games ≡ old.games + count
  pub faulty : new.faulty ≡ old.faulty + (if is_faulty verdict then 1 else 0)

-- each of the two grew by a beginning of what the report had and of what is reported
pub record BeginsVerdict (old : Report) (out out' err err' : Option (List ℕ))
    (verdict : Verdict) : Type 0 where
  pub output : AppendsFront out out' (old.output.items ++ output_of verdict)
  pub faults : AppendsFront err err' (old.faults.items ++ fault_line_of verdict)

-- of the piece that is given of the block this is reported
abbrev pub OfPiece : Aim → GameId → List ℕ → Piece → (Verdict → Type 0) → Type 0
OfPiece aim id block piece Is =
    (shown : spec.Piece) → IsPiece piece shown → IsPieceOf id.offset block shown
    → (verdict : Verdict) × IsVerdict aim id.number (marked id.offset shown) verdict × Is verdict

-- the note names the byte at which the block, which begins at the offset, stops agreeing with games
-- from the place `begin` on
abbrev pub NamesBlockStop : Bool → ℕ → List ℕ → ℕ → List ℕ → Type 0
NamesBlockStop false offset block begin note = Unit {0}
NamesBlockStop true offset block begin note =
    (place : ℕ) × IsErrorPosition depth_limit (offset == 0) block begin place
    × NamesByte (offset + place) note

-- bytes of the block from the place `begin` on that are no game are reported so
abbrev pub IsBlockVerdict : Aim → GameId → List ℕ → ℕ → Verdict → Type 0
IsBlockVerdict aim id block begin verdict =
    (note : List ℕ) × IsNote aim.explain note
    × NamesBlockStop aim.explain id.offset block begin note
    × (verdict
    ≡ FaultyGame (faulty_text aim.mode aim.select (drop begin block))
    (fault_text aim.name (id_at id begin) (codes "unreadable")) note)

-- so the index reports the piece whose mark is given, in the block that begins at the offset, where
-- it is chosen
abbrev pub IsMarkVerdict : Aim → GameId → List ℕ → PieceStart → Verdict → Type 0
IsMarkVerdict aim id block (mark.Game place) verdict =
    verdict ≡ SoundGame (mark_line aim.name (id_at id place))
IsMarkVerdict aim id block (mark.Unreadable place) verdict =
    IsBlockVerdict aim id block place verdict

-- and so it does whether it is or not
abbrev pub IsMarkReport : Aim → GameId → List ℕ → PieceStart → Verdict → Type 0
IsMarkReport aim id block mark verdict =
    IfChosen (is_chosen aim.chosen (id_at id (mark_place mark)))
    (IsMarkVerdict aim id block mark verdict) (verdict ≡ SoundGame [])

-- of what is reported of these pieces a beginning is written; the report has the rest, and counts
-- the pieces
pub record Gathers (aim : Aim) (report : Report) (out out' err err' : Option (List ℕ)) (number : ℕ)
    (pieces : List MarkedPiece) : Type 0 where
  pub verdicts : List Verdict
  pub each : AreVerdicts aim number pieces verdicts
  pub first_output : List ℕ
  pub first_faults : List ℕ
  pub out_grew : Appends out out' first_output
  pub err_grew : Appends err err' first_faults
  pub output : first_output ++ report.output.items ≡ output_text verdicts
  pub faults : first_faults ++ report.faults.items ≡ fault_lines verdicts
  pub same : length verdicts ≡ length pieces
  pub games : report.games ≡ length pieces
  pub faulty : report.faulty ≡ count_by is_faulty verdicts

-- the same of the pieces of the block
pub record GathersBlock (aim : Aim) (report : Report) (limit max_depth : ℕ) (id : GameId)
    (block : List ℕ) (out out' err err' : Option (List ℕ)) : Type 0 where
  pub own : List MarkedPiece
  pub each : AreOfBlock limit max_depth id.offset block own
  pub written : Gathers aim report out out' err err' id.number own
  pub few : length own ≤ length block

-- what the one report has is written, or the other has it still; the counts stay
pub record Passes (old new : Report) (out out' err err' : Option (List ℕ)) : Type 0 where
  pub first_output : List ℕ
  pub first_faults : List ℕ
  pub out_grew : Appends out out' first_output
  pub err_grew : Appends err err' first_faults
  pub output : first_output ++ new.output.items ≡ old.output.items
  pub faults : first_faults ++ new.faults.items ≡ old.faults.items
  pub games : new.games ≡ old.games
  pub faulty : new.faulty ≡ old.faulty

-- the one piece of a block over the limit
abbrev pub too_long_piece : ℕ → MarkedPiece
too_long_piece offset = record { offset = offset; kind = TooLongBlock }

-- the pieces of the block are reported and counted
pub record WritesBlock (aim : Aim) (limit max_depth : ℕ) (id : GameId) (block : List ℕ)
    (out out' err err' : Option (List ℕ)) (summary : Summary) : Type 0 where
  pub own : List MarkedPiece
  pub each : AreOfBlock limit max_depth id.offset block own
  pub verdicts : List Verdict
  pub written : Writes aim out out' err err' id.number own verdicts
  pub same : length verdicts ≡ length own
  pub games : summary.games ≡ length own
  pub faulty : summary.faulty ≡ count_by is_faulty verdicts
  pub few : length own ≤ length block

-- each of the two grew by a beginning of what is reported of the first of the pieces
pub record Begins (aim : Aim) (out out' err err' : Option (List ℕ)) (number : ℕ)
    (pieces : List MarkedPiece) : Type 0 where
  pub before : List MarkedPiece
  pub after : List MarkedPiece
  pub parted : pieces ≡ before ++ after
  pub verdicts : List Verdict
  pub each : AreVerdicts aim number before verdicts
  pub output : AppendsFront out out' (output_text verdicts)
  pub faults : AppendsFront err err' (fault_lines verdicts)

-- what is reported is a beginning of what is to be reported of the block's pieces
pub record BeginsBlock (aim : Aim) (limit max_depth : ℕ) (id : GameId) (block : List ℕ)
    (out out' err err' : Option (List ℕ)) : Type 0 where
  pub own : List MarkedPiece
  pub each : AreOfBlock limit max_depth id.offset block own
  pub written : Begins aim out out' err err' id.number own

-- reads dropped at most so many bytes, and fewer only at the end
pub record Drops (left left' : Option (List ℕ)) (moved moved' most : ℕ) : Type 0 where
  pub dropped : List ℕ
  pub reads : Reads left left' moved moved' dropped
  pub within : length dropped ≤ most
  pub end : length dropped < most → IfSome left (λ whole. whole ≡ dropped)

-- reads dropped at most so many bytes, and then one failed
pub record DropsSome (left left' : Option (List ℕ)) (moved moved' most : ℕ) : Type 0 where
  pub dropped : List ℕ
  pub reads : Reads left left' moved moved' dropped
  pub within : length dropped ≤ most

-- all bytes that were left are read, and their pieces reported and counted
pub record EndsBlocks (aim : Aim) (limit max_depth : ℕ) (id : GameId) (left left' : Option (List ℕ))
    (moved moved' : ℕ) (out out' err err' : Option (List ℕ)) (summary : Summary) : Type 0 where
  pub read : List ℕ
  pub reads : Reads left left' moved moved' read
  pub all : IfSome left (λ whole. whole ≡ read)
  pub size : id.offset + length read ≤ largest_offset
  pub pieces : List MarkedPiece
  pub each : AreMarkedPieces limit max_depth id.offset read pieces
  pub verdicts : List Verdict
  pub written : Writes aim out out' err err' id.number pieces verdicts
  pub games : summary.games ≡ length pieces
  pub faulty : summary.faulty ≡ count_by is_faulty verdicts

-- one byte past the largest offset is read, and the pieces of the complete blocks before it are
-- reported
pub record WritesUpToEnd (aim : Aim) (limit max_depth : ℕ) (id : GameId) (read : List ℕ)
    (out out' err err' : Option (List ℕ)) : Type 0 where
  pub kept : List ℕ
  pub byte : ℕ
  pub parted : read ≡ kept ++ byte ∷ []
  pub full : id.offset + length kept ≡ largest_offset
  pub written : WritesComplete aim limit max_depth id kept out out' err err'

-- the same of all pieces of the bytes
pub record BeginsFirst (aim : Aim) (limit max_depth : ℕ) (id : GameId) (bytes : List ℕ)
    (out out' err err' : Option (List ℕ)) : Type 0 where
  pub pieces : List MarkedPiece
  pub each : AreMarkedPieces limit max_depth id.offset bytes pieces
  pub written : Begins aim out out' err err' id.number pieces

-- what stands after an error, of the bytes read and those that were left
abbrev pub StandsOver : Aim → ℕ → ℕ → GameId → Option (List ℕ) → List ℕ → Option (List ℕ)
    → Option (List ℕ) → Option (List ℕ) → Option (List ℕ) → RunError → Type 0
StandsOver aim limit max_depth id left read out out' err err' Read =
    WritesComplete aim limit max_depth id read out out' err err'
StandsOver aim limit max_depth id left read out out' err err' InputTooLong =
    WritesUpToEnd aim limit max_depth id read out out' err err'
StandsOver aim limit max_depth id left read out out' err err' Write =
    IfSome left (λ whole. BeginsFirst aim limit max_depth id whole out out' err err')
StandsOver aim limit max_depth id left read out out' err err' OutOfMemory =
    IfSome left (λ whole. BeginsFirst aim limit max_depth id whole out out' err err')

-- the blocks were read and reported in part, and then something failed
pub record BreaksOff (aim : Aim) (limit max_depth : ℕ) (id : GameId) (left left' : Option (List ℕ))
    (moved moved' : ℕ) (out out' err err' : Option (List ℕ)) (error : RunError) : Type 0 where
  pub read : List ℕ
  pub reads : Reads left left' moved moved' read
  pub size : id.offset + length read ≤ largest_offset + 1
  pub stands : StandsOver aim limit max_depth id left read out out' err err' error

-- the error of a run for the error of its reader
abbrev pub run_error_of : ReadError → RunError
run_error_of cause.Read = Read
run_error_of cause.OutOfMemory = OutOfMemory
run_error_of cause.InputTooLong = InputTooLong
run_error_of cause.Failed = Read
