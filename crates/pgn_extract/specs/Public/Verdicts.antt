-- What a run reports of the pieces of a text, in each of its modes.
use Rattle.std.specs.Prelude.{◌≡◌, ℕ, ◌+◌, Bool, true, false, List, [], ◌∷◌, ◌++◌, map, codes}
use Rattle.pgn_text.specs.Public.Marks.{PieceKind, ReadableGame, UnreadableRest, TooLongBlock}
use Rattle.pgn_text.specs.Public.Marks.{MarkedPiece}
use Rattle.pgn_text.specs.Public.GameTexts.{GameText}
use Rattle.pgn_text.specs.Public.Parts.{Part}
use Rattle.pgn_game.specs.Public.Faults.{Fault}
use Rattle.pgn_game.specs.Public.Replays.{Replay}
use Rattle.pgn_game.specs.declared.replays.replayer.Lines.{Lines}
use Rattle.pgn_game.specs.declared.replays.replayer.Lines.TheVariants.{All, Main}
use Rattle.pgn_criteria.specs.Public.Meeting.{heading_of}
use Rattle.pgn_extract.specs.Public.Index.{fault_text, mark_line}
use Rattle.pgn_extract.specs.Public.Listing.{Entry, IsCounted, listing}
use Rattle.pgn_extract.specs.Public.GameReports.{AreListed, IsReplayOf, IsFaultOf, cause_text}
use Rattle.pgn_extract.specs.Public.Aims.{Aim, GameId, IsRuledOut}
use Rattle.pgn_extract.specs.Public.Choices.{id_of, IfChosen, is_chosen}
use Rattle.pgn_extract.specs.Public.Exports.{written_lines, IsWritten, faulty_text}
use Rattle.pgn_extract.specs.Public.LineListing.{ListsEachLine}
use Rattle.pgn_extract.specs.Public.Notes.{IsNote, NamesStop}
use Rattle.pgn_extract.specs.declared.settings.Mode.{Mode}
use Rattle.pgn_extract.specs.declared.settings.Mode.TheVariants as modes

-- the verdict on a piece, which is what is reported of it
pub data Verdict : Type 0 where
  -- it is sound in the mode: these bytes go to the output
  SoundGame : List ℕ → Verdict
  -- it is faulty in the mode: these bytes go to the output, this line to standard error, and this
  -- note after it
  FaultyGame : List ℕ → List ℕ → List ℕ → Verdict

-- what goes to the output
abbrev pub output_of : Verdict → List ℕ
output_of (SoundGame text) = text
output_of (FaultyGame text line note) = text

-- what goes to standard error
abbrev pub fault_line_of : Verdict → List ℕ
fault_line_of (SoundGame text) = []
fault_line_of (FaultyGame text line note) = line ++ note

-- the piece is faulty
abbrev pub is_faulty : Verdict → Bool
is_faulty (SoundGame text) = false
is_faulty (FaultyGame text line note) = true

-- the verdict but for its note
abbrev pub without_note : Verdict → Verdict
without_note (SoundGame text) = SoundGame text
without_note (FaultyGame text line note) = FaultyGame text line []

-- what goes to the output of pieces in a row
abbrev pub output_text : List Verdict → List ℕ
output_text [] = []
output_text (verdict ∷ more) = output_of verdict ++ output_text more

-- what goes to standard error of them
abbrev pub fault_lines : List Verdict → List ℕ
fault_lines [] = []
fault_lines (verdict ∷ more) = fault_line_of verdict ++ fault_lines more

-- the lines of a game that must be sound in a mode: all where each is listed, in the export those
-- that are written, else its main line
abbrev pub replayed_lines : Mode → Aim → Lines
replayed_lines modes.Index aim = Main
replayed_lines modes.List aim = Main
replayed_lines modes.EachLine aim = All
replayed_lines modes.Export aim = written_lines aim

-- the lines of the entries that a sound game lists
abbrev pub AreEntryLines : Aim → GameId → GameText → Replay → List ℕ → Type 0
AreEntryLines aim id game replay text =
    (entries : List Entry) × AreListed aim id game replay entries
    × (text ≡ listing aim.name entries)

-- what goes to the output of a sound game in a mode: in the export what is written of it, else the
-- lines of its entries, or of those of each of its lines
abbrev pub IsOutput : Mode → Aim → GameId → GameText → Replay → List ℕ → Type 0
IsOutput modes.Index aim id game replay text = AreEntryLines aim id game replay text
IsOutput modes.List aim id game replay text = AreEntryLines aim id game replay text
IsOutput modes.EachLine aim id game replay text = ListsEachLine aim id game text
IsOutput modes.Export aim id game replay text = IsWritten aim id game replay text

-- the game is reported by its replay: where it is sound, by what goes to the output of it; else by
-- the line of its fault, and in the export by its bytes where the faulty ones are selected
abbrev pub IsReplayed : Mode → Aim → GameId → GameText → Verdict → Type 0
IsReplayed mode aim id game (SoundGame text) =
    (replay : Replay) × IsReplayOf (replayed_lines mode aim) game replay
    × IsOutput mode aim id game replay text
IsReplayed mode aim id game (FaultyGame text line note) =
    (fault : Fault) × IsFaultOf (replayed_lines mode aim) game fault
    × (line ≡ fault_text aim.name id (cause_text fault)) × IsNote aim.explain note
    × (text ≡ faulty_text mode aim.select game.text)

-- where tags come first: a game that its heading rules out is one without entries, so that nothing
-- goes anywhere, and no fault of a move or of its FEN tag is reported; each other is reported by
-- its replay
pub data IsPlayedOrNot (mode : Mode) (aim : Aim) (id : GameId) (game : GameText)
    (verdict : Verdict) : Type 0 where
  unplayed : IsRuledOut aim (heading_of game) → verdict ≡ SoundGame []
      → IsPlayedOrNot mode aim id game verdict
  played : (IsRuledOut aim (heading_of game) → ⊥) → IsReplayed mode aim id game verdict
      → IsPlayedOrNot mode aim id game verdict

-- the game is reported so where tags come first, and where they do not: by its replay
abbrev pub IsGameVerdict : Bool → Mode → Aim → GameId → GameText → Verdict → Type 0
IsGameVerdict false mode aim id game verdict = IsReplayed mode aim id game verdict
IsGameVerdict true mode aim id game verdict = IsPlayedOrNot mode aim id game verdict

-- the game of these parts is
abbrev pub IsGameReported : Mode → Aim → GameId → List Part → Verdict → Type 0
IsGameReported mode aim id parts verdict =
    (game : GameText) × IsCounted aim.openings parts game
    × IsGameVerdict aim.tags_first mode aim id game verdict

-- a game that can be read is reported so in a mode: in the index by its mark, else by its replay,
-- but where tags come first and rule it out
abbrev pub IsVerdictIn : Mode → Aim → GameId → List Part → Verdict → Type 0
IsVerdictIn modes.Index aim id parts verdict = verdict ≡ SoundGame (mark_line aim.name id)
IsVerdictIn modes.List aim id parts verdict = IsGameReported modes.List aim id parts verdict
IsVerdictIn modes.EachLine aim id parts verdict = IsGameReported modes.EachLine aim id parts verdict
IsVerdictIn modes.Export aim id parts verdict = IsGameReported modes.Export aim id parts verdict

-- the piece is faulty: these bytes go to the output, this line to standard error, and a note after
-- it where explanations are asked for
abbrev pub IsReportedBy : Aim → List ℕ → List ℕ → Verdict → Type 0
IsReportedBy aim text line verdict = (note : List ℕ) × IsNote aim.explain note
    × (verdict ≡ FaultyGame text line note)

-- bytes that begin at the offset and are no game are reported so: by this line, and where
-- explanations are asked for a note that names the byte at which they stop agreeing with games; and
-- they stand in the output where the faulty ones are selected
abbrev pub IsUnreadableVerdict : Aim → ℕ → List ℕ → List ℕ → Verdict → Type 0
IsUnreadableVerdict aim offset bytes line verdict =
    (note : List ℕ) × IsNote aim.explain note × NamesStop aim.explain offset bytes note
    × (verdict ≡ FaultyGame (faulty_text aim.mode aim.select bytes) line note)

-- a piece that is chosen is reported so, by what it is: what can't be read is reported by the same
-- line in each mode
abbrev pub IsPieceVerdict : PieceKind → Aim → GameId → Verdict → Type 0
IsPieceVerdict (ReadableGame parts) aim id verdict = IsVerdictIn aim.mode aim id parts verdict
IsPieceVerdict (UnreadableRest bytes) aim id verdict =
    IsUnreadableVerdict aim id.offset bytes (fault_text aim.name id (codes "unreadable")) verdict
IsPieceVerdict TooLongBlock aim id verdict =
    IsReportedBy aim [] (fault_text aim.name id (codes "too long")) verdict

-- the piece with this number is reported so in the mode: where it is not chosen, nothing goes
-- anywhere
abbrev pub IsVerdict : Aim → ℕ → MarkedPiece → Verdict → Type 0
IsVerdict aim number piece verdict =
    IfChosen (is_chosen aim.chosen (id_of number piece))
    (IsPieceVerdict piece.kind aim (id_of number piece) verdict) (verdict ≡ SoundGame [])

-- the pieces in a row, which are numbered from a number on, are reported so one after the other
abbrev pub AreVerdicts : Aim → ℕ → List MarkedPiece → List Verdict → Type 0
AreVerdicts aim number [] verdicts = verdicts ≡ []
AreVerdicts aim number (piece ∷ more) verdicts =
    (own : Verdict) × (rest : List Verdict) × (verdicts ≡ own ∷ rest)
    × IsVerdict aim number piece own × AreVerdicts aim (number + 1) more rest

-- the same is reported but for the notes, and all the same where no explanations are asked for
pub record IsSameReport (aim : Aim) (reported others : List Verdict) : Type 0 where
  pub but_notes : map without_note reported ≡ map without_note others
  pub without_notes : aim.explain ≡ false → reported ≡ others
