use Rattle.std.proofs.Common.{◌≡◌, ◌++◌, take, flat_map}
use Rattle.pgn_extract.specs.Public.Csv.{doubled}
use Rattle.pgn_extract.proofs.rows.csv.push_bytes.Given as goal

abbrev pub invariant-loop-byte : goal.invariant-loop-byte
invariant-loop-byte l = l.out.items ≡ l.fn.out.items ++ flat_map doubled (take l.byte-index l.cell)
