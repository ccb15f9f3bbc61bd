-- What a task writes over its inputs, and the records in the segments that a pack's writer holds.
use Rattle.std.specs.Prelude.{ℕ, true, false, List, Option, None, Some, IfSome, option_and_then}
use Rattle.pgn_game.specs.Public.SegmentWriting.{records_of}
use Rattle.pgn_extract.specs.Public.Runs.{Passage, Stream}
use Rattle.pgn_extract.specs.Public.Several.{AtPath, AreKnown, WritesPaths, WritesRead, order_at}
use Rattle.pgn_extract.specs.Public.Several.{order_of, paths_of}
use Rattle.pgn_extract.specs.declared.app.files.Task.{Task}

-- the output and standard error grew by what runs over the input write, of which these bytes are
-- left; or without an input, by what runs over the paths do
abbrev pub WritesTask : Task → (List ℕ → AtPath) → Option (Option (List ℕ)) → Passage → Passage
    → Type 0
WritesTask task known (Some left) out err =
    IfSome left (λ text. WritesRead (order_of task) text out err)
WritesTask task known None out err =
    AreKnown known (paths_of task)
    → WritesPaths (order_at task) known (paths_of task) out err

-- of a writer of segments, the records in them; of their stream only the bytes are told
abbrev pub record_stream : Option (List ℕ) → Stream
record_stream segments = record {
  bytes = option_and_then records_of segments;
  faulted = false;
  moved = 0;
  flushed = true;
}

abbrev pub record_passage : Option (List ℕ) → Option (List ℕ) → Passage
record_passage old new = record { old = record_stream old; new = record_stream new }
