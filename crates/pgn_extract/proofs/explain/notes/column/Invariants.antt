use Rattle.pgn_extract.proofs.Common.{◌≡◌, ◌+◌, ◌≤◌, take, column_after}
use Rattle.pgn_extract.proofs.explain.notes.column.Given as goal

abbrev pub invariant-loop-byte : goal.invariant-loop-byte
invariant-loop-byte l =
    record {
      counted : l.column ≡ column_after (take l.byte-index l.front);
      fits : l.column ≤ l.byte-index + 1;
    }
