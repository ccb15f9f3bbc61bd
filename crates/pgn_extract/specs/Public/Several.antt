-- Runs over several files: they write what a run over each file alone writes, in the order of the
-- files.
use Rattle.std.specs.Prelude.{◌≡◌, ◌≢◌, ◌==◌, ◌&&◌, if◌then◌else◌, ℕ, Bool, true, false, List, []}
use Rattle.std.specs.Prelude.{◌∷◌, ◌++◌, All, map, length, take, count_by, Option, Some, codes}
use Rattle.std.specs.Prelude.{decimal, is_some}
use Rattle.std.specs.declared.io.ErrorKind.{ErrorKind}
use Rattle.std.specs.declared.io.ErrorKind.TheVariants.{OutOfMemory}
use Rattle.pgn_text.specs.Public.Marks.{MarkedPiece}
use Rattle.pgn_extract.specs.Public.Aims.{aim_of}
use Rattle.pgn_extract.specs.Public.Index.{shown_name, titled}
use Rattle.pgn_extract.specs.Public.Outcomes.{AppendsFront}
use Rattle.pgn_extract.specs.Public.Runs.{Adds, Job, ArePieces, Passage, Stops, Stream, job_of}
use Rattle.pgn_extract.specs.Public.Verdicts.{Verdict, AreVerdicts, fault_lines, is_faulty}
use Rattle.pgn_extract.specs.Public.Verdicts.{output_text}
use Rattle.pgn_extract.specs.declared.app.files.Task.{Task}
use Rattle.pgn_extract.specs.declared.output.outcome.RunError.{RunError}
use Rattle.pgn_extract.specs.declared.output.outcome.RunError.TheVariants.{Read, Write}
use Rattle.pgn_extract.specs.declared.output.outcome.RunError.TheVariants.{InputTooLong}
use Rattle.pgn_extract.specs.declared.output.outcome.RunError.TheVariants as errors
use Rattle.pgn_extract.specs.declared.output.outcome.Summary.{Summary}

-- What stands at a path.

-- what is known of it: nothing, that no file can be opened there, or the bytes of the file
pub data AtPath : Type 0 where
  Unknown : AtPath
  NoFile : AtPath
  FileOf : List ℕ → AtPath

-- no file can be opened there
abbrev pub is_no_file : AtPath → Bool
is_no_file Unknown = false
is_no_file NoFile = true
is_no_file (FileOf text) = false

-- an input that was opened there has the bytes of the file left
abbrev pub IsOpened : AtPath → Option (List ℕ) → Type 0
IsOpened Unknown left = Unit {0}
IsOpened NoFile left = ⊥
IsOpened (FileOf text) left = left ≡ Some text

-- the opening may fail with an error of this kind: that of a file only where memory ran out
abbrev pub IsRefused : AtPath → ErrorKind → Type 0
IsRefused Unknown kind = Unit {0}
IsRefused NoFile kind = Unit {0}
IsRefused (FileOf text) kind = kind ≡ OutOfMemory

-- something is known of each of these paths
abbrev pub AreKnown : (List ℕ → AtPath) → List (List ℕ) → Type 0
AreKnown known paths = All (λ path. known path ≢ Unknown) paths

-- What is asked of the file at a path.

-- what a run over it is to do, the offset before which it ends, and whether a summary is asked for
pub record Order : Type 0 where
  pub job : Job
  pub end : ℕ
  pub summary : Bool

-- the name of its lines: their own; or where lines have the name of their file, its path, as lines
-- show it
abbrev pub name_at : Bool → List ℕ → Option (List ℕ) → Option (List ℕ)
name_at false path own = own
name_at true path own = Some (shown_name path)

-- with the name that the settings have
abbrev pub order_of : Task → Order
order_of task = record { job = job_of task.settings; end = task.end; summary = task.summary }

-- with the name for the path
abbrev pub order_at : Task → List ℕ → Order
order_at task path = record {
  job = record (job_of task.settings) {
    aim =
        record (aim_of task.settings) { name = name_at task.with_names path task.settings.name };
  };
  end = task.end;
  summary = task.summary;
}

-- the paths of the files, in their order
abbrev pub paths_of : Task → List (List ℕ)
paths_of task = map (λ path. path.now) task.paths.now

-- What is written of it.

-- by a run over a text alone: what is reported of its pieces from the offset on
pub record IsReport (job : Job) (text output faults : List ℕ) : Type 0 where
  pub pieces : List MarkedPiece
  pub each : ArePieces job text pieces
  pub verdicts : List Verdict
  pub reported : AreVerdicts job.aim job.id.number pieces verdicts
  pub outputs : output ≡ output_text verdicts
  pub lines : faults ≡ fault_lines verdicts

-- the line that names a file that cannot be opened, with the system's reason
pub record NamesUnopened (path line : List ℕ) : Type 0 where
  pub reason : List ℕ
  pub is : line ≡ codes "pgn-extract: cannot open input: " ++ shown_name path ++ codes ": "
      ++ reason ++ 10 ∷ []

-- what stands between the two numbers of a summary
abbrev pub games_word : ℕ → List ℕ
games_word games = if games == 1 then codes " game, " else codes " games, "

-- what a summary says of the games that were not played, where tags come first
abbrev pub unplayed_text : Bool → ℕ → List ℕ
unplayed_text false unplayed = []
unplayed_text true unplayed = codes ", " ++ decimal unplayed ++ codes " not played"

-- the line that says how many games were read, how many of them were faulty, and where tags come
-- first, how many were not played
abbrev pub summary_text : Bool → Option (List ℕ) → Summary → List ℕ
summary_text tags_first name summary =
    codes "pgn-extract: " ++ titled (codes ": ") name ++ decimal summary.games
    ++ games_word summary.games ++ decimal summary.faulty ++ codes " of them faulty"
    ++ unplayed_text tags_first summary.unplayed ++ 10 ∷ []

-- that of one file, which stands where it is asked for and lines have names
abbrev pub own_summary : Bool → Bool → Option (List ℕ) → Summary → List ℕ
own_summary asked tags_first name summary =
    if asked && is_some name then summary_text tags_first name summary else []

-- of a file: its report up to the end, and then the line with its summary
pub record IsRead (order : Order) (text output report : List ℕ) : Type 0 where
  pub faults : List ℕ
  pub summary : Summary
  pub reported : IsReport order.job (take order.end text) output faults
  pub games : summary.games ≡ length reported.pieces
  pub faulty : summary.faulty ≡ count_by is_faulty reported.verdicts
  pub is : report ≡ faults ++ own_summary order.summary order.job.aim.tags_first
      order.job.aim.name summary

-- of what stands at a path: of a file as above; where there is none, just the line that names it
abbrev pub IsOfPath : Order → List ℕ → AtPath → List ℕ → List ℕ → Type 0
IsOfPath order path Unknown output report = ⊥
IsOfPath order path NoFile output report = (output ≡ []) × NamesUnopened path report
IsOfPath order path (FileOf text) output report = IsRead order text output report

-- of paths in a row: what is written of each, one after the other
abbrev pub AreOfPaths : (List ℕ → Order) → (List ℕ → AtPath) → List (List ℕ) → List ℕ → List ℕ
    → Type 0
AreOfPaths order known [] output report = (output ≡ []) × (report ≡ [])
AreOfPaths order known (path ∷ more) output report =
    (own : List ℕ) × (own_report : List ℕ) × (rest : List ℕ) × (rest_report : List ℕ)
    × IsOfPath (order path) path (known path) own own_report
    × AreOfPaths order known more rest rest_report × (output ≡ own ++ rest)
    × (report ≡ own_report ++ rest_report)

-- the output and standard error grew by what a run over a text writes, or by what is written of
-- paths
abbrev pub WritesRead : Order → List ℕ → Passage → Passage → Type 0
WritesRead order text out err = (output : List ℕ) × (report : List ℕ)
    × IsRead order text output report × Adds out output × Adds err report

abbrev pub WritesPaths : (List ℕ → Order) → (List ℕ → AtPath) → List (List ℕ) → Passage → Passage
    → Type 0
WritesPaths order known paths out err =
    (output : List ℕ) × (report : List ℕ) × AreOfPaths order known paths output report
    × Adds out output × Adds err report

-- What stands where a run over files ends early.

-- of what is written of a path, both grew by a beginning
pub record BeginsPath (order : Order) (path : List ℕ) (at : AtPath) (out err : Passage) : Type 0
  where
    pub output : List ℕ
    pub report : List ℕ
    pub is : IsOfPath order path at output report
    pub outputs : AppendsFront out.old.bytes out.new.bytes output
    pub reports : AppendsFront err.old.bytes err.new.bytes report

-- a run over the file ended with the error, and left what it says where some of its bytes were read
abbrev pub StopsInFile : RunError → Order → AtPath → Passage → Passage → Type 0
StopsInFile error order (FileOf text) out err =
    (input : Passage)
    × Stops error order.job (record { input = input; out = out; err = err }) (take order.end text)
StopsInFile error order at out err = ⊥

-- at the path that was come to: `Read` and `InputTooLong` come of the run over its file alone
abbrev pub StopsAtPath : RunError → Order → List ℕ → AtPath → Passage → Passage → Type 0
StopsAtPath Read order path at out err = StopsInFile Read order at out err
StopsAtPath InputTooLong order path at out err = StopsInFile InputTooLong order at out err
StopsAtPath Write order path at out err = BeginsPath order path at out err
StopsAtPath errors.OutOfMemory order path at out err = BeginsPath order path at out err

-- of paths in a row: what is written of those before it stands whole, and nothing of those after it
pub record StopsAmong (order : List ℕ → Order) (known : List ℕ → AtPath) (paths : List (List ℕ))
    (error : RunError) (out err : Passage) : Type 0 where
  pub before : List (List ℕ)
  pub path : List ℕ
  pub after : List (List ℕ)
  pub parted : paths ≡ before ++ path ∷ after
  pub out_there : Stream
  pub err_there : Stream
  pub whole : WritesPaths order known before
      (record { old = out.old; new = out_there }) (record { old = err.old; new = err_there })
  pub there : StopsAtPath error (order path) path (known path)
      (record { old = out_there; new = out.new }) (record { old = err_there; new = err.new })
