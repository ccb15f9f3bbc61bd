-- What holds of the entries of every text, of its marks, and of what is reported of it.
use Rattle.std.specs.Prelude.{◌≡◌, ◌↔◌, Bool, true, false, ℕ, ◌+◌, ◌-◌, ◌^◌, ◌<◌, ◌≤◌, ◌==◌, List}
use Rattle.std.specs.Prelude.{[], ◌∷◌, ◌++◌, length, take, drop, count_by, codes, Option, Some, Ok}
use Rattle.std.specs.Prelude.{IfSome, IsTrue}
use Rattle.std.specs.Io.KnownBytes.{Appends}
use Rattle.pgn_text.specs.Public.Limits.{depth_limit, largest_offset}
use Rattle.pgn_text.specs.Public.Stops.{IsLongestViablePrefix}
use Rattle.pgn_text.specs.Public.Marks.{PieceKind, ReadableGame, UnreadableRest, TooLongBlock}
use Rattle.pgn_text.specs.Public.Marks.{MarkedPiece, AreMarkedPieces}
use Rattle.pgn_text.specs.Public.Parts.{spelled}
use Rattle.pgn_game.specs.Public.PackedGames.{longest_name, is_shown, is_shown_name}
use Rattle.pgn_extract.specs.Public.Index.{index, shown_name}
use Rattle.pgn_extract.specs.Public.Listing.{Entry, AreEntries, listing}
use Rattle.pgn_extract.specs.Public.Exports.{as_it_stands, IsPieceExport, AreExports}
use Rattle.pgn_extract.specs.Public.LineListing.{AreGameLineListings}
use Rattle.pgn_extract.specs.Public.Notes.{IsLinePlace, IsNote, NamesByte, NamesStop}
use Rattle.pgn_extract.specs.Public.Resuming.{IsMarkAmong, WritesRest}
use Rattle.pgn_extract.specs.Public.Runs.{Io, Job, job_of, ArePieces, Adds, Completes, IsRun}
use Rattle.pgn_extract.specs.Public.Searching.{IsSearch, PacksAll, of_all, named}
use Rattle.pgn_extract.specs.Public.Verdicts.{Verdict, AreVerdicts, IsSameReport, output_text}
use Rattle.pgn_extract.specs.Public.Verdicts.{fault_lines, is_faulty}
use Rattle.pgn_extract.specs.Public.Aims.{Aim, GameId, aim_of}
use Rattle.pgn_extract.specs.declared.output.outcome.Summary.{Summary}
use Rattle.pgn_extract.specs.declared.packed.searching.Searched.{Searched}
use Rattle.pgn_extract.specs.declared.settings.Settings.{Settings}
use Rattle.pgn_extract.specs.declared.settings.Form.TheVariants.{AsItStands}
use Rattle.pgn_extract.specs.declared.settings.Mode.TheVariants as modes
use Rattle.pgn_extract.specs.declared.settings.Select.{Select}
use Rattle.pgn_extract.specs.declared.settings.Select.TheVariants.{Matching, Others, Faulty}
use Rattle.pgn_extract.specs.Public.Choices.{id_of}

-- the pieces of each text have entries, which are one list
abbrev pub PiecesHaveOneListing : Type 0
PiecesHaveOneListing =
    (aim : Aim) (limit max_depth : ℕ) (id : GameId) (text : List ℕ) (pieces : List MarkedPiece)
    → AreMarkedPieces limit max_depth id.offset text pieces
    → (entries : List Entry) × AreEntries aim id.number pieces entries
    × ((others : List Entry) → AreEntries aim id.number pieces others → others ≡ entries)

-- each piece of a text has a mark, which is one of them: its number, counted from 1, and its
-- offset, which is within the text and no lower than the pieces before it are many
pub record HasAMark (text : List ℕ) (before : List MarkedPiece) (piece : MarkedPiece)
    (after : List MarkedPiece) : Type 0 where
  pub among : IsMarkAmong (id_of (length before + 1) piece) (before ++ piece ∷ after)
  pub within : piece.offset < length text
  pub few : length before ≤ piece.offset
  -- so it is one at which a run can begin
  pub number : length text ≤ largest_offset → length before + 1 ≤ largest_offset
  pub offset : length text ≤ largest_offset → piece.offset ≤ largest_offset

abbrev pub EachPieceHasAMark : Type 0
EachPieceHasAMark =
    (limit max_depth : ℕ) (text : List ℕ) (before : List MarkedPiece) (piece : MarkedPiece)
    (after : List MarkedPiece)
    → AreMarkedPieces limit max_depth 0 text (before ++ piece ∷ after)
    → HasAMark text before piece after

-- the pieces of each text are reported in some way, whatever is to be reported
abbrev pub TextHasAReport : Type 0
TextHasAReport =
    (aim : Aim) (limit max_depth : ℕ) (id : GameId) (text : List ℕ) (pieces : List MarkedPiece)
    → AreMarkedPieces limit max_depth id.offset text pieces
    → (reported : List Verdict) × AreVerdicts aim id.number pieces reported

-- and in only one way, but for the notes
abbrev pub TextHasOneReport : Type 0
TextHasOneReport =
    (aim : Aim) (number : ℕ) (pieces : List MarkedPiece) (reported others : List Verdict)
    → AreVerdicts aim number pieces reported → AreVerdicts aim number pieces others
    → IsSameReport aim others reported

-- the text that begins at the offset has these pieces, which are numbered from a number on and
-- reported so
pub record IsTextReported (aim : Aim) (limit max_depth : ℕ) (id : GameId) (text : List ℕ)
    (pieces : List MarkedPiece)
    (reported : List Verdict) : Type 0 where
  pub each : AreMarkedPieces limit max_depth id.offset text pieces
  pub written : AreVerdicts aim id.number pieces reported

-- in the export's mode what a run writes of pieces, by their verdicts, is the exports of the games
-- among them
abbrev pub ExportsAreWritten : Type 0
ExportsAreWritten =
    (aim : Aim) (number : ℕ) (pieces : List MarkedPiece) (verdicts : List Verdict)
    → aim.mode ≡ modes.Export → AreVerdicts aim number pieces verdicts
    → AreExports aim number pieces (output_text verdicts)

-- which are one text
abbrev pub TextHasOneExport : Type 0
TextHasOneExport =
    (aim : Aim) (number : ℕ) (pieces : List MarkedPiece) (text other : List ℕ)
    → AreExports aim number pieces text → AreExports aim number pieces other → text ≡ other

-- lines show the name that they have for a path as it is, which is so of no name with a control
-- character
abbrev pub NamesAreShown : Type 0
NamesAreShown = (path : List ℕ) → IsTrue (is_shown (shown_name path))

-- a run packs each sound game of its input, and answers `Ok`. A search of what it wrote that lists
-- and answers `Ok` writes the listing of the input
abbrev pub PackIsListedAsItsText : Type 0
PackIsListedAsItsText =
    (packing : Settings) (io : Io) (summary : Summary) (whole : List ℕ)
    → packing.mode ≡ modes.Export → PacksAll (aim_of packing)
    → IfSome packing.name (λ name. length name ≤ longest_name)
    → IsTrue (is_shown_name packing.name) → 1 ≤ packing.number → packing.number ≤ 2 ^ 62
    → packing.offset ≤ largest_offset → io.input.old.bytes ≡ Some whole
    → IsRun (job_of packing) io (Ok summary)
    → (pieces : List MarkedPiece) × (bytes : List ℕ) × ArePieces (job_of packing) whole pieces
    × Adds io.out bytes
    × ((aim : Aim) (left out out' : Option (List ℕ)) (searched : Searched) (entries : List Entry)
    → aim.mode ≡ modes.List
    → IsSearch aim (Some bytes) left out out' (Ok searched)
    → AreEntries (named packing.name (of_all aim)) packing.number pieces entries
    → Appends out out' (listing packing.name entries))

-- the aim that asks for all entries of each game, or for the first alone
abbrev pub with_first : Bool → Aim → Aim
with_first first aim = record aim { first = first }

-- the exports are the same whether the first entry of each game is asked for or all
abbrev pub FirstChangesNoExport : Type 0
FirstChangesNoExport =
    (aim : Aim) (number : ℕ) (pieces : List MarkedPiece) (text : List ℕ)
    → (AreExports (with_first true aim) number pieces text
    ↔ AreExports (with_first false aim) number pieces text)

-- the aim by which tags come first, or do not
abbrev pub with_tags_first : Bool → Aim → Aim
with_tags_first tags_first aim = record aim { tags_first = tags_first }

-- the same goes to the output whether tags come first or not: the same entries are listed, and the
-- same games exported
abbrev pub TagsFirstChangesNoOutput : Type 0
TagsFirstChangesNoOutput =
    (aim : Aim) (number : ℕ) (pieces : List MarkedPiece) (reported others : List Verdict)
    → AreVerdicts (with_tags_first true aim) number pieces reported
    → AreVerdicts (with_tags_first false aim) number pieces others
    → output_text reported ≡ output_text others

-- the aim that selects these games, each to be written as it stands
abbrev pub as_they_stand : Select → Aim → Aim
as_they_stand select aim = record aim { select = select; form = AsItStands }

-- a piece as it stands in an export: of a block over the limit nothing is kept
abbrev pub piece_as_it_stands : PieceKind → List ℕ
piece_as_it_stands (ReadableGame parts) = as_it_stands (spelled parts)
piece_as_it_stands (UnreadableRest bytes) = as_it_stands bytes
piece_as_it_stands TooLongBlock = []

-- one of the three is the text, and the two others are empty
pub data IsInOneOf (text first second third : List ℕ) : Type 0 where
  in_first : first ≡ text → second ≡ [] → third ≡ [] → IsInOneOf text first second third
  in_second : first ≡ [] → second ≡ text → third ≡ [] → IsInOneOf text first second third
  in_third : first ≡ [] → second ≡ [] → third ≡ text → IsInOneOf text first second third

-- of the games with an entry, those without one and the faulty ones, each written as it stands,
-- just one export has a piece, and all of it
abbrev pub PieceIsInOneExport : Type 0
PieceIsInOneExport =
    (aim : Aim) (id : GameId) (kind : PieceKind) (matching others faulty : List ℕ)
    → IsPieceExport (as_they_stand Matching aim) id kind matching
    → IsPieceExport (as_they_stand Others aim) id kind others
    → IsPieceExport (as_they_stand Faulty aim) id kind faulty
    → IsInOneOf (piece_as_it_stands kind) matching others faulty

-- a note names one byte at most, and so the note on bytes that are no game names that at which they
-- stop agreeing with games
abbrev pub NoteNamesTheStop : Type 0
NoteNamesTheStop =
    (offset byte : ℕ) (bytes note : List ℕ) → offset + length bytes < 2 ^ 64 → byte < 2 ^ 64
    → NamesStop true offset bytes note → NamesByte byte note
    → (agreeing : ℕ) × (byte ≡ offset + agreeing)
    × IsLongestViablePrefix depth_limit (offset == 0) [] bytes agreeing

-- a line that is not indented is no note, nor is any where no explanations are asked for; and a
-- byte alone is no place
abbrev pub NoNotes : Type 0
NoNotes = (IsNote true (codes "x") → ⊥) × (IsNote false (codes "  x") → ⊥)
    × (IsLinePlace (codes "x") → ⊥)

-- two parts of a text have its pieces, one part those before the cut and the other those after, and
-- what is reported of them, one after the other, is what is reported of the whole: on the output,
-- counted, and on standard error but for the notes
pub record AreJoined (aim : Aim) (before after first second : List MarkedPiece)
    (all front rest : List Verdict) : Type 0 where
  pub same_before : first ≡ before
  pub same_after : second ≡ after
  pub reported : IsSameReport aim all (front ++ rest)
  pub output : output_text all ≡ output_text front ++ output_text rest
  pub faults : aim.explain ≡ false → fault_lines all ≡ fault_lines front ++ fault_lines rest
  pub faulty : count_by is_faulty all ≡ count_by is_faulty front + count_by is_faulty rest

-- a text may be cut at any of its pieces, and each part reported alone: the second with the offset
-- of that piece, and its pieces numbered on from those of the first
abbrev pub PartsJoin : Type 0
PartsJoin =
    (aim : Aim) (limit max_depth : ℕ) (id : GameId) (text : List ℕ)
    (before : List MarkedPiece) (piece : MarkedPiece) (after : List MarkedPiece)
    (all : List Verdict)
    → IsTextReported aim limit max_depth id text (before ++ piece ∷ after) all
    → (first second : List MarkedPiece) (front rest : List Verdict)
    → IsTextReported aim limit max_depth id (take (piece.offset - id.offset) text) first front
    → IsTextReported aim limit max_depth (id_of (id.number + length first) piece)
    (drop (piece.offset - id.offset) text) second rest
    → AreJoined aim before (piece ∷ after) first second all front rest

-- so two runs over a text, the first up to a mark and the second from it on, report what one run
-- over the whole reports, where no explanations are asked for
abbrev pub PartsAreReported : Type 0
PartsAreReported =
    (aim : Aim) (limit max_depth : ℕ) (id : GameId) (text : List ℕ)
    (pieces first second : List MarkedPiece) (all front rest : List Verdict)
    → aim.explain ≡ false → AreMarkedPieces limit max_depth 0 text pieces → IsMarkAmong id pieces
    → AreVerdicts aim 1 pieces all
    → AreMarkedPieces limit max_depth 0 (take id.offset text) first → AreVerdicts aim 1 first front
    → AreMarkedPieces limit max_depth id.offset (drop id.offset text) second
    → AreVerdicts aim id.number second rest
    → (output_text all ≡ output_text front ++ output_text rest)
    × (fault_lines all ≡ fault_lines front ++ fault_lines rest)
    × (count_by is_faulty all ≡ count_by is_faulty front + count_by is_faulty rest)

-- What a run wrote that is complete, of an input whose bytes are known.

-- In the mode of the index the output grew by exactly the index of the pieces that are chosen,
abbrev pub RunIndexes : Type 0
RunIndexes =
    (job : Job) (io : Io) (whole : List ℕ) (summary : Summary)
    (done : Completes job io whole summary) → job.aim.mode ≡ modes.Index
    → Adds io.out (index job.aim.chosen job.aim.name job.id.number done.pieces)

-- in that of the listings of all lines by these of the games among them,
abbrev pub RunListsLines : Type 0
RunListsLines =
    (job : Job) (io : Io) (whole : List ℕ) (summary : Summary)
    (done : Completes job io whole summary) → job.aim.mode ≡ modes.EachLine
    → (text : List ℕ) × AreGameLineListings job.aim job.id.number done.pieces text
    × Adds io.out text

-- and in that of the export by the exports of the games among them.
abbrev pub RunExports : Type 0
RunExports =
    (job : Job) (io : Io) (whole : List ℕ) (summary : Summary)
    (done : Completes job io whole summary) → job.aim.mode ≡ modes.Export
    → (text : List ℕ) × AreExports job.aim job.id.number done.pieces text × Adds io.out text

-- Begun at a mark of one of the pieces of the whole input, the run reported just those from it on,
-- as a run over the whole reports them.
abbrev pub RunResumes : Type 0
RunResumes =
    (job : Job) (io : Io) (whole : List ℕ) (summary : Summary) → Completes job io whole summary
    → (pieces : List MarkedPiece) → AreMarkedPieces job.limit job.max_depth 0 whole pieces
    → (mark : IsMarkAmong job.id pieces)
    → WritesRest job.aim job.id.number pieces (mark.piece ∷ mark.after)
    io.out.old.bytes io.out.new.bytes io.err.old.bytes io.err.new.bytes
