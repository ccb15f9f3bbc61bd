use Rattle.std.proofs.Common.{◌≡◌, ◌≤◌, ◌++◌, take}
use Rattle.chess.proofs.fen.write.push_eight.Given as goal

abbrev pub invariant-loop-place : goal.invariant-loop-place
invariant-loop-place l = record {
  text : l.out.bytes ≡ l.fn.out.bytes ++ take l.place l.bytes;
  within : l.place ≤ 8;
}
