-- Runs over files that end early.
use Rattle.std.proofs.Common.{IfSome}
use Rattle.std.specs.Prelude.{Err, Ok}
use Rattle.pgn_extract.proofs.Common.{◌≡◌, ◌≢◌, ◌⊎◌, ◌++◌, ◌<◌, ◌+◌, ℕ, List, [], ◌∷◌, Option, Some}
use Rattle.pgn_extract.proofs.Common.{None, codes, count_by, drop, get_or, length, map, take, refl}
use Rattle.pgn_extract.proofs.Common.{sym, subst, inl, inr, Appends, Keeps, option_map, OnErr}
use Rattle.pgn_extract.proofs.Common.{Result, ErrorKind, MarkedPiece, shown_name, AppendsFront}
use Rattle.pgn_extract.proofs.Common.{ArePieces, Completes, Io, IsBegun, Passage, Stops, Stream}
use Rattle.pgn_extract.proofs.Common.{AtPath, BeginsPath, FileOf, IsOfPath, IsRead, IsRefused}
use Rattle.pgn_extract.proofs.Common.{NamesUnopened, NoFile, Order, StopsAmong, StopsAtPath}
use Rattle.pgn_extract.proofs.Common.{Unknown, WritesPaths, own_summary, AreVerdicts, Verdict}
use Rattle.pgn_extract.proofs.Common.{fault_lines, is_faulty, output_text, RunError, InputTooLong}
use Rattle.pgn_extract.proofs.Common.{OutOfMemory, Read, Write, Summary}
use Rattle.pgn_text.proofs.MarkedPieces.{marked_pieces_exist}
use Rattle.pgn_extract.proofs.ChoiceFacts.{none_met}
use Rattle.pgn_extract.proofs.engine.Beginnings.{front_all, front_join}
use Rattle.pgn_extract.proofs.BegunAll.{front_longer}
use Rattle.pgn_extract.proofs.BlockWritten.{front_none}
use Rattle.pgn_extract.proofs.app.SeveralFacts.{parted_there, read_of, taken_to}
use Rattle.pgn_extract.proofs.SomeReport.{rest_reported}
use Rattle.pgn_extract.proofs.Writing.{appends_kept, appends_none}
use Rattle.std.specs.declared.io.ErrorKind.TheVariants as kinds

-- what is written of a text of which these pieces are so reported
abbrev report_text : Order → List MarkedPiece → List Verdict → List ℕ
report_text order pieces verdicts =
    let summary : Summary = record {
      games = length pieces;
      faulty = count_by is_faulty verdicts;
      unplayed = 0;
      met = none_met;
    } in
    fault_lines verdicts ++ own_summary order.summary order.job.aim.tags_first
    order.job.aim.name summary

read_by : (order : Order) (text : List ℕ) (pieces : List MarkedPiece) (verdicts : List Verdict)
    → ArePieces order.job (take order.end text) pieces
    → AreVerdicts order.job.aim order.job.id.number pieces verdicts
    → IsRead order text (output_text verdicts) (report_text order pieces verdicts)
read_by order text pieces verdicts each reported = record {
  faults = fault_lines verdicts;
  summary = record {
    games = length pieces;
    faulty = count_by is_faulty verdicts;
    unplayed = 0;
    met = none_met;
  };
  reported = record {
    pieces = pieces;
    each = each;
    verdicts = verdicts;
    reported = reported;
    outputs = refl;
    lines = refl;
  };
  games = refl;
  faulty = refl;
  is = refl;
}

-- of the line that names a file that cannot be opened nothing is written
abbrev unopened_line : List ℕ → List ℕ
unopened_line path = codes "pgn-extract: cannot open input: " ++ shown_name path ++ codes ": " ++ []
    ++ 10 ∷ []

names_unopened : (path : List ℕ) → NamesUnopened path (unopened_line path)
names_unopened path = record { reason = []; is = refl }

pub none_named : (old : Option (List ℕ)) (path : List ℕ)
    → (line : List ℕ) × NamesUnopened path line × AppendsFront old old line
none_named old path = (unopened_line path, names_unopened path, front_none old (unopened_line path))

pub none_named_at : {T E : Type 0} (result : Result T E) (old : Option (List ℕ)) (path : List ℕ)
    → OnErr result ((line : List ℕ) × NamesUnopened path line × AppendsFront old old line)
none_named_at (Ok value) old path = tt
none_named_at (Err error) old path = none_named old path

-- of each path of which something is known, something is written
path_written : (order : Order) (path : List ℕ) (at : AtPath) → at ≢ Unknown
    → (output : List ℕ) × (report : List ℕ) × IsOfPath order path at output report
path_written order path Unknown known = absurd (known refl)
path_written order path NoFile known = ([], unopened_line path, (refl, names_unopened path))
path_written order path (FileOf text) known =
    let job = order.job in
    let whole = drop job.id.offset (take order.end text) in
    let pieces = marked_pieces_exist job.limit job.max_depth job.id.offset whole in
    let verdicts = rest_reported job.aim job.limit job.max_depth job.id whole []
    pieces.0 pieces.1 in (
      output_text verdicts.0,
      report_text order pieces.0 verdicts.0,
      read_by order text pieces.0
          verdicts.0 pieces.1 verdicts.1,
    )

-- memory ran out before anything of a path was written
pub none_begun : (order : Order) (path : List ℕ) (at : AtPath) (out err : Passage) → at ≢ Unknown
    → Appends out.old.bytes out.new.bytes [] → Appends err.old.bytes err.new.bytes []
    → BeginsPath order path at out err
none_begun order path at out err known outputs reports =
    let own = path_written order path at known in
    record {
      output = own.0;
      report = own.1;
      is = own.2;
      outputs = (0, outputs);
      reports = (0, reports);
    }

-- of a file a beginning of its report is written
text_begun : (order : Order) (path text : List ℕ) (io : Io)
    → IsBegun order.job io (take order.end text) → BeginsPath order path (FileOf text) io.out io.err
text_begun order path text io begun = record {
  output = output_text begun.verdicts;
  report = report_text order begun.pieces begun.verdicts;
  is = read_by order text begun.pieces begun.verdicts begun.each begun.written;
  outputs = begun.output;
  reports = front_longer io.err.old.bytes io.err.new.bytes (fault_lines begun.verdicts) _
      begun.faults;
}

-- its report is written, and a beginning of the line after it
line_begun : (order : Order) (path text : List ℕ) (io : Io) (summary : Summary) (err : Stream)
    → Completes order.job io (take order.end text) summary
    → AppendsFront io.err.new.bytes err.bytes (own_summary order.summary order.job.aim.tags_first
    order.job.aim.name summary)
    → BeginsPath order path (FileOf text) io.out (record { old = io.err.old; new = err })
line_begun order path text io summary err done line = record {
  output = output_text done.verdicts;
  report = fault_lines done.verdicts ++ own_summary order.summary order.job.aim.tags_first
      order.job.aim.name summary;
  is = read_of order text io summary done;
  outputs = front_all io.out.old.bytes io.out.new.bytes (output_text done.verdicts)
      done.written.output;
  reports = front_join io.err.old.bytes io.err.new.bytes err.bytes (fault_lines done.verdicts) _
      done.written.faults line;
}

-- where it is for want of memory or for a write that failed
pub stops_late : (error : RunError) (order : Order) (path : List ℕ) (at : AtPath)
    (out err : Passage) → (error ≡ Write) ⊎ (error ≡ OutOfMemory) → BeginsPath order path at out err
    → StopsAtPath error order path at out err
stops_late error order path at out err (inl is) begun =
    subst (λ (e : RunError). StopsAtPath e order path at out err) (sym is) begun
stops_late error order path at out err (inr is) begun =
    subst (λ (e : RunError). StopsAtPath e order path at out err) (sym is) begun

-- a run over a text stopped with an error
stops_run : (error : RunError) (order : Order) (path text : List ℕ) (io : Io)
    → Stops error order.job io (take order.end text)
    → StopsAtPath error order path (FileOf text) io.out io.err
stops_run Read order path text io stops = (io.input, stops)
stops_run InputTooLong order path text io stops = (io.input, stops)
stops_run Write order path text io begun = text_begun order path text io begun
stops_run OutOfMemory order path text io begun = text_begun order path text io begun

stops_of : (error : RunError) (order : Order) (left : Option (List ℕ)) (io : Io)
    → IfSome (option_map (take order.end) left) (λ whole. Stops error order.job io whole)
    → IfSome left (λ text. (path : List ℕ) → StopsAtPath error order path (FileOf text) io.out
    io.err)
stops_of error order None io stops = tt
stops_of error order (Some text) io stops = λ path. stops_run error order path text io stops

-- so did one over what an input gives before an end
pub stops_to_end : (error : RunError) (order : Order) (left taken : Option (List ℕ)) (limit : ℕ)
    (io : Io) → limit ≡ order.end → taken ≡ left
    → IfSome (option_map (take limit) taken) (λ whole. Stops error order.job io whole)
    → IfSome left (λ text. (path : List ℕ) → StopsAtPath error order path (FileOf text) io.out
    io.err)
stops_to_end error order left taken limit io at same stops =
    stops_of error order left io
    (taken_to order.end left taken limit (λ whole. Stops error order.job io whole) at same stops)

line_of : (error : RunError) (order : Order) (left : Option (List ℕ)) (io : Io) (summary : Summary)
    (err : Stream) → (error ≡ Write) ⊎ (error ≡ OutOfMemory)
    → IfSome (option_map (take order.end) left) (λ whole. Completes order.job io whole summary)
    → AppendsFront io.err.new.bytes err.bytes (own_summary order.summary order.job.aim.tags_first
    order.job.aim.name summary)
    → IfSome left (λ text. (path : List ℕ) → StopsAtPath error order path (FileOf text) io.out
    (record { old = io.err.old; new = err }))
line_of error order None io summary err late done line = tt
line_of error order (Some text) io summary err late done line = λ path.
    stops_late error order path (FileOf text) io.out _ late
    (line_begun order path text io summary err done line)

-- a run over it came to its end, but the line after its report was not written whole
pub stops_at_line : (error : RunError) (order : Order) (left taken : Option (List ℕ)) (limit : ℕ)
    (io : Io) (summary : Summary) (err : Stream)
    → (error ≡ Write) ⊎ (error ≡ OutOfMemory) → limit ≡ order.end → taken ≡ left
    → IfSome (option_map (take limit) taken) (λ whole. Completes order.job io whole summary)
    → AppendsFront io.err.new.bytes err.bytes (own_summary order.summary order.job.aim.tags_first
    order.job.aim.name summary)
    → IfSome left (λ text. (path : List ℕ) → StopsAtPath error order path (FileOf text) io.out
    (record { old = io.err.old; new = err }))
stops_at_line error order left taken limit io summary err late at same done line =
    line_of error order left io summary err late
    (taken_to order.end left taken limit (λ whole. Completes order.job io whole summary) at same
    done) line

-- at a path where a file could not be opened, and that could not be said
pub stops_unopened : (error : RunError) (order : Order) (path : List ℕ) (at : AtPath)
    (kind : ErrorKind) (out err : Passage)
    → at ≢ Unknown → IsRefused at kind → (kind ≡ kinds.OutOfMemory → Keeps err.old.bytes
    err.new.bytes)
    → (error ≡ Write) ⊎ (error ≡ OutOfMemory) → Appends out.old.bytes out.new.bytes []
    → (line : List ℕ) → NamesUnopened path line → AppendsFront err.old.bytes err.new.bytes line
    → StopsAtPath error order path at out err
stops_unopened error order path Unknown kind out err known refused kept late same line names front =
    absurd (known refl)
stops_unopened error order path NoFile kind out err known refused kept late same line names front =
    stops_late error order path NoFile out err late
    (record {
      output = [];
      report = line;
      is = (refl, names);
      outputs = (0, same);
      reports = front;
    })
stops_unopened error order path (FileOf text) kind out err known refused kept late same line names
    front = stops_late error order path (FileOf text) out err late
    (none_begun order path (FileOf text) out err known same
    (appends_kept err.old.bytes err.old.bytes err.new.bytes [] (appends_none err.old.bytes)
    (kept refused)))

-- where runs over paths end at one of them, what is written of those before it stands
pub stops_there : {P : Type 0} (view : P → List ℕ) (all : List P) (i : ℕ) (d : P)
    (order order' : List ℕ → Order) (known known' : List ℕ → AtPath)
    → ((path : List ℕ) → order' path ≡ order path) → ((path : List ℕ) → known' path ≡ known path)
    → i < length all → (error : RunError) (out err : Passage) (out_there err_there : Stream)
    → WritesPaths order known (take i (map view all)) (record { old = out.old; new = out_there })
    (record { old = err.old; new = err_there })
    → StopsAtPath error (order' (view (get_or all i d))) (view (get_or all i d))
    (known' (view (get_or all i d)))
    (record { old = out_there; new = out.new }) (record { old = err_there; new = err.new })
    → StopsAmong order known (map view all) error out err
stops_there view all i d order order' known known' orders same within error out err out_there
    err_there whole stopped =
    let paths = map view all in
    let path = view (get_or all i d) in
    let now_out : Passage = record { old = out_there; new = out.new } in
    let now_err : Passage = record { old = err_there; new = err.new } in
    record {
      before = take i paths;
      path = path;
      after = drop (i + 1) paths;
      parted = parted_there view all i d within;
      out_there = out_there;
      err_there = err_there;
      whole = whole;
      there =
          subst (λ (o : Order). StopsAtPath error o path (known path) now_out now_err) (orders path)
          (subst (λ (at : AtPath). StopsAtPath error (order' path) path at now_out now_err)
          (same path) stopped);
    }
