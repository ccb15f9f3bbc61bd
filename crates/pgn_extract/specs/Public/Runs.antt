-- The words of the contract of `run`, in the order in which they are best read: what is asked, what
-- is met, and what stands then.
use Rattle.std.specs.Prelude.{◌≡◌, ◌↔◌, ◌⊎◌, ℕ, ◌<◌, ◌≤◌, Bool, true, false, List, length, take}
use Rattle.std.specs.Prelude.{drop, count_by, Option, Result, IfSome, IfOk, IfErr, OnOk, IsErrOf}
use Rattle.std.specs.Io.KnownBytes.{Appends}
use Rattle.pgn_text.specs.Public.Limits.{block_limit, depth_limit, largest_offset}
use Rattle.pgn_text.specs.Public.Marks.{MarkedPiece, AreMarkedPieces}
use Rattle.pgn_text.specs.Public.Tallies.{Tallied}
use Rattle.pgn_extract.specs.Public.Aims.{Aim, GameId, aim_of}
use Rattle.pgn_extract.specs.Public.Listing.{Entry, AreEntries, entries_at_least, listing}
use Rattle.pgn_extract.specs.Public.Outcomes.{Writes, WritesComplete, BeginsAll}
use Rattle.pgn_extract.specs.Public.Resuming.{IsMarkAmong}
use Rattle.pgn_extract.specs.Public.Verdicts.{Verdict, is_faulty}
use Rattle.pgn_extract.specs.declared.output.outcome.RunError.{RunError}
use Rattle.pgn_extract.specs.declared.output.outcome.RunError.TheVariants.{Read, Write, OutOfMemory}
use Rattle.pgn_extract.specs.declared.output.outcome.RunError.TheVariants.{InputTooLong}
use Rattle.pgn_extract.specs.declared.output.outcome.Summary.{Summary}
use Rattle.pgn_extract.specs.declared.settings.Mode.TheVariants as mode
use Rattle.pgn_extract.specs.declared.settings.Settings.{Settings}
use Rattle.pgn_extract.specs.Public.GivenMarks.{IsGameMark, game_id}

-- What is asked.

-- what is to be reported of each piece, the limits, the number of the first piece, and how many
-- bytes are passed over first
pub record Job : Type 0 where
  pub aim : Aim
  pub limit : ℕ
  pub max_depth : ℕ
  pub id : GameId

abbrev pub job_at : Settings → ℕ → ℕ → Job
job_at settings number offset =
    record {
      aim = aim_of settings;
      limit = block_limit;
      max_depth = depth_limit;
      id =
          game_id number offset;
    }

abbrev pub job_of : Settings → Job
job_of settings = job_at settings settings.number settings.offset

-- What is met.

-- a reader or a writer: the bytes that it has left or holds, where they are known; whether a call
-- to it failed, how many bytes went through it, and whether the last call was a good flush
pub record Stream : Type 0 where
  pub bytes : Option (List ℕ)
  pub faulted : Bool
  pub moved : ℕ
  pub flushed : Bool

-- a stream as a call finds it, and as it leaves it
pub record Passage : Type 0 where
  pub old : Stream
  pub new : Stream

pub record Io : Type 0 where
  pub input : Passage
  pub out : Passage
  pub err : Passage

abbrev pub stream_of : {T : Type 0} → (T → Option (List ℕ)) → Tallied T → Stream
stream_of bytes tally =
    record {
      bytes = bytes tally.inner;
      faulted = tally.faulted;
      moved = tally.moved;
      flushed =
          tally.flushed;
    }

abbrev pub passage : {T : Type 0} → (T → Option (List ℕ)) → Tallied T → Tallied T → Passage
passage bytes old new = record { old = stream_of bytes old; new = stream_of bytes new }

abbrev pub io_of : {R O E : Type 0} → (R → Option (List ℕ)) → (O → Option (List ℕ))
    → (E → Option (List ℕ))
    → Tallied R → Tallied R → Tallied O → Tallied O → Tallied E → Tallied E → Io
io_of left out_bytes err_bytes input input' out out' err err' =
    record {
      input = passage left input input';
      out = passage out_bytes out out';
      err =
          passage err_bytes err err';
    }

-- nothing has failed, no byte is read, and the run begins at a mark
abbrev pub IsReady : {R O E : Type 0} → Job → Tallied R → Tallied O → Tallied E → Type 0
IsReady job input out err =
    (input.faulted ≡ false) × (out.faulted ≡ false) × (err.faulted ≡ false) × (input.moved ≡ 0)
    × IsGameMark job.id

-- What stands then. Of an input whose bytes are known:
abbrev pub OnInput : Io → (List ℕ → Type 0) → Type 0
OnInput io P = IfSome io.input.old.bytes P

-- the pieces of the input from the offset on
abbrev pub ArePieces : Job → List ℕ → List MarkedPiece → Type 0
ArePieces job whole pieces =
    AreMarkedPieces job.limit job.max_depth job.id.offset (drop job.id.offset whole) pieces

-- the stream grew by these bytes
abbrev pub Adds : Passage → List ℕ → Type 0
Adds stream bytes = Appends stream.old.bytes stream.new.bytes bytes

-- the pieces are reported so, and the output and standard error grew by what is reported
abbrev pub AreWritten : Job → Io → List MarkedPiece → List Verdict → Type 0
AreWritten job io pieces verdicts =
    Writes job.aim io.out.old.bytes io.out.new.bytes io.err.old.bytes io.err.new.bytes job.id.number
    pieces verdicts

-- At `Ok`: all pieces are reported and counted, the input is not too long, and both writers are
-- flushed.
pub record Completes (job : Job) (io : Io) (whole : List ℕ) (summary : Summary) : Type 0 where
  pub size : length whole ≤ largest_offset
  pub pieces : List MarkedPiece
  pub each : ArePieces job whole pieces
  pub verdicts : List Verdict
  pub written : AreWritten job io pieces verdicts
  pub games : summary.games ≡ length pieces
  pub faulty : summary.faulty ≡ count_by is_faulty verdicts

abbrev pub Completed : Job → Io → Summary → Type 0
Completed job io summary = OnInput io (λ whole. Completes job io whole summary)
    × (io.out.new.flushed ≡ true) × (io.err.new.flushed ≡ true)

-- In the mode of the listing the output grew by exactly the listing of their entries; and where the
-- run began at a mark of the whole input, by exactly the lines of the whole listing from that game
-- on.
pub record Lists (job : Job) (io : Io) (whole : List ℕ) : Type 0 where
  pub pieces : List MarkedPiece
  pub each : ArePieces job whole pieces
  pub entries : List Entry
  pub are : AreEntries job.aim job.id.number pieces entries
  pub listed : Adds io.out (listing job.aim.name entries)
  pub rest : (all : List MarkedPiece) → AreMarkedPieces job.limit job.max_depth 0 whole all
      → IsMarkAmong job.id all → (found : List Entry) → AreEntries job.aim 1 all found
      → Adds io.out (listing job.aim.name (entries_at_least job.id.number found))

abbrev pub Listed : Job → Io → Type 0
Listed job io = OnInput io (λ whole. job.aim.mode ≡ mode.List → Lists job io whole)

-- At an error: the pieces of the complete blocks among some bytes from the offset on are reported,
-- and nothing else;
abbrev pub IsCompleteOf : Job → Io → List ℕ → Type 0
IsCompleteOf job io bytes =
    WritesComplete job.aim job.limit job.max_depth job.id (drop job.id.offset bytes)
    io.out.old.bytes io.out.new.bytes io.err.old.bytes io.err.new.bytes

-- or a beginning of the whole report is written.
abbrev pub IsBegun : Job → Io → List ℕ → Type 0
IsBegun job io whole =
    BeginsAll job.aim job.limit job.max_depth job.id (drop job.id.offset whole) io.out.old.bytes
    io.out.new.bytes io.err.old.bytes io.err.new.bytes

abbrev pub Stops : RunError → Job → Io → List ℕ → Type 0
Stops Read job io whole = IsCompleteOf job io (take io.input.new.moved whole)
Stops InputTooLong job io whole = (largest_offset < length whole)
    × IsCompleteOf job io (take largest_offset whole)
Stops Write job io whole = IsBegun job io whole
Stops OutOfMemory job io whole = IsBegun job io whole

abbrev pub Stopped : Job → Io → RunError → Type 0
Stopped job io error = OnInput io (λ whole. Stops error job io whole)

-- Which error comes when: at most one of the three streams has failed then.
pub record FaultsAre (result : Result Summary RunError) (io : Io) : Type 0 where
  pub read : IsErrOf result Read ↔ (io.input.new.faulted ≡ true)
  pub write : IsErrOf result Write ↔ ((io.out.new.faulted ≡ true) ⊎ (io.err.new.faulted ≡ true))
  pub alone : (io.out.new.faulted ≡ true) × (io.err.new.faulted ≡ true) → ⊥

-- So a run ends; `lists` is the listing theorem. What a complete run wrote in the other modes
-- follows from `done`: the laws `RunIndexes`, `RunExports` and `RunResumes`.
pub record IsRun (job : Job) (io : Io) (result : Result Summary RunError) : Type 0 where
  pub done : IfOk result (Completed job io)
  pub lists : OnOk result (Listed job io)
  pub stopped : IfErr result (Stopped job io)
  pub faults : FaultsAre result io
