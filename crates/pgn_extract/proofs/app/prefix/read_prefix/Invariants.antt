use Rattle.std.proofs.Common.{◌≡◌, ◌≤◌, ◌-◌, length}
use Rattle.pgn_extract.proofs.app.prefix.read_prefix.Given as goal

abbrev pub invariant-loop-held : goal.invariant-loop-held
invariant-loop-held g l = (length l.prefix.items ≡ l.most) × (l.held ≤ length l.prefix.items)

abbrev pub decreases-loop-held : goal.decreases-loop-held
decreases-loop-held g l = length l.prefix.items - l.held
