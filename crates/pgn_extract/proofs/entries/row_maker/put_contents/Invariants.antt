use Rattle.std.proofs.Common.{◌≡◌}
use Rattle.pgn_extract.proofs.entries.row_maker.put_contents.Given as goal

abbrev pub invariant-loop-byte : goal.invariant-loop-byte
invariant-loop-byte l = l.own.items ≡ l.yielded
