use Rattle.pgn_extract.proofs.Common.{◌≡◌, ◌≤◌, take, line_feeds}
use Rattle.pgn_extract.proofs.explain.notes.line_feeds.Given as goal

abbrev pub invariant-loop-byte : goal.invariant-loop-byte
invariant-loop-byte l =
    record {
      counted : l.count ≡ line_feeds (take l.byte-index l.bytes);
      fits : l.count ≤ l.byte-index;
    }
