use Rattle.std.proofs.Common.{◌<◌}
use Rattle.pgn_extract.proofs.app.header.nearest_name.Given as goal

abbrev pub invariant-loop-place : goal.invariant-loop-place
invariant-loop-place l = l.nearest < 26
