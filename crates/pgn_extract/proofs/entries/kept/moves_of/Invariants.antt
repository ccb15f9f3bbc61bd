use Rattle.std.proofs.Common.{◌≡◌, ◌≤◌, length, take}
use Rattle.pgn_extract.specs.Private.KeptLines.{AreFirst}
use Rattle.pgn_extract.proofs.entries.kept.moves_of.Given as goal

abbrev pub invariant-loop-ply : goal.invariant-loop-ply
invariant-loop-ply l = record {
  within : l.ply ≤ length l.replayed.played;
  moves : l.moves.items ≡ take l.ply l.replayed.played;
  first : AreFirst l.first.items l.replayed.positions;
}
