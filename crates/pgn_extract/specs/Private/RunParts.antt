-- What the parts of a run do, over the words of its contract. No public contract cites these.
use Rattle.std.specs.Prelude.{◌≡◌, ◌↔◌, ◌⊎◌, ℕ, true, List, Result, IsErrOf}
use Rattle.pgn_extract.specs.Private.Blockwise.{GathersBlock, Passes, WritesBlock, BeginsBlock}
use Rattle.pgn_extract.specs.Private.Blockwise.{EndsBlocks, BreaksOff, BeginsVerdict, OfPiece}
use Rattle.pgn_extract.specs.Private.Blockwise.{PassesVerdict}
use Rattle.pgn_text.specs.declared.game.pieces.Piece.{Piece}
use Rattle.pgn_extract.specs.Public.Aims.{Aim, GameId}
use Rattle.pgn_extract.specs.Public.Verdicts.{SoundGame}
use Rattle.pgn_extract.specs.declared.output.outcome.RunError.{RunError}
use Rattle.pgn_extract.specs.declared.output.outcome.RunError.TheVariants.{Write}
use Rattle.pgn_extract.specs.declared.output.outcome.Summary.{Summary}
use Rattle.pgn_extract.specs.declared.engine.report.Report.{Report}
use Rattle.pgn_extract.specs.Public.Outcomes.{AppendsFront}
use Rattle.pgn_extract.specs.Public.Runs.{Adds, Job, Io, Passage}
use Rattle.pgn_extract.specs.Public.Several.{AtPath, IsOfPath, Order}

-- the stream grew by a beginning of these bytes
abbrev pub AddsFront : Passage → List ℕ → Type 0
AddsFront stream bytes = AppendsFront stream.old.bytes stream.new.bytes bytes

-- what the one report has is written, or the other has it still
abbrev pub PassesOn : Report → Report → Passage → Passage → Type 0
PassesOn old new out err = Passes old new out.old.bytes out.new.bytes err.old.bytes err.new.bytes

-- the text is added to the output, and a beginning of all is written: the report has the rest
abbrev pub PassesText : Report → Report → Passage → Passage → List ℕ → Type 0
PassesText old new out err text =
    PassesVerdict old new out.old.bytes out.new.bytes err.old.bytes err.new.bytes (SoundGame text) 0

-- a beginning of what the report had and of the text is written
abbrev pub BeginsText : Report → Passage → Passage → List ℕ → Type 0
BeginsText old out err text =
    BeginsVerdict old out.old.bytes out.new.bytes err.old.bytes err.new.bytes (SoundGame text)

-- what is reported of the piece is added, and a beginning of all is written
abbrev pub PassesPiece : Aim → Report → Report → GameId → List ℕ → Piece → Passage → Passage
    → Type 0
PassesPiece aim old new id block piece out err = OfPiece aim id block piece (λ verdict.
    PassesVerdict old new out.old.bytes out.new.bytes err.old.bytes err.new.bytes verdict 1)

-- a beginning of what the report had is written, or of that and of what is reported of the piece
abbrev pub BeginsPiece : Aim → Report → GameId → List ℕ → Piece → Passage → Passage → Type 0
BeginsPiece aim old id block piece out err =
    (AddsFront out old.output.items × AddsFront err old.faults.items)
    ⊎ OfPiece aim id block piece (λ verdict.
    BeginsVerdict old out.old.bytes out.new.bytes err.old.bytes err.new.bytes verdict)

-- of what is reported of the pieces of the block a beginning is written; the report has the rest,
-- and counts the pieces
abbrev pub GathersPieces : Job → Report → Passage → Passage → List ℕ → Type 0
GathersPieces job report out err block =
    GathersBlock job.aim report job.limit job.max_depth job.id block out.old.bytes out.new.bytes
    err.old.bytes err.new.bytes

-- the pieces of the block are reported and counted
abbrev pub WritesPieces : Job → Passage → Passage → List ℕ → Summary → Type 0
WritesPieces job out err block summary =
    WritesBlock job.aim job.limit job.max_depth job.id block out.old.bytes out.new.bytes
    err.old.bytes err.new.bytes summary

-- a beginning of what is to be reported of them is
abbrev pub BeginsPieces : Job → Passage → Passage → List ℕ → Type 0
BeginsPieces job out err block =
    BeginsBlock job.aim job.limit job.max_depth job.id block out.old.bytes out.new.bytes
    err.old.bytes err.new.bytes

-- the bytes that were left are all read, their pieces reported and counted, and both writers
-- flushed
abbrev pub Finished : Job → Io → Summary → Type 0
Finished job io summary =
    EndsBlocks job.aim job.limit job.max_depth job.id io.input.old.bytes io.input.new.bytes
    io.input.old.moved io.input.new.moved
    io.out.old.bytes io.out.new.bytes io.err.old.bytes io.err.new.bytes summary
    × (io.out.new.flushed ≡ true) × (io.err.new.flushed ≡ true)

-- they are read and reported in part, and then something failed
abbrev pub Broken : Job → Io → RunError → Type 0
Broken job io error =
    BreaksOff job.aim job.limit job.max_depth job.id io.input.old.bytes io.input.new.bytes
    io.input.old.moved io.input.new.moved
    io.out.old.bytes io.out.new.bytes io.err.old.bytes io.err.new.bytes error

-- the writers failed exactly where the answer is that a write did, and one of them at most
pub record WriteFaultsAre {A : Type 0} (result : Result A RunError) (out err : Passage) : Type 0
  where
    pub write : IsErrOf result Write ↔ ((out.new.faulted ≡ true) ⊎ (err.new.faulted ≡ true))
    pub alone : (out.new.faulted ≡ true) × (err.new.faulted ≡ true) → ⊥

-- the output and standard error grew by what is written of a path
abbrev pub WritesPath : Order → List ℕ → AtPath → Passage → Passage → Type 0
WritesPath order path at out err = (output : List ℕ) × (report : List ℕ)
    × IsOfPath order path at output report × Adds out output × Adds err report
