use Rattle.std.proofs.Common.{◌≡◌, length}
use Rattle.pgn_extract.specs.Private.Commands.{command_value}
use Rattle.pgn_extract.proofs.rows.commands.command_value.Given as goal

abbrev pub invariant-loop-after : goal.invariant-loop-after
invariant-loop-after l = command_value l.opening l.rest ≡ command_value l.opening l.text

abbrev pub decreases-loop-after : goal.decreases-loop-after
decreases-loop-after l = length l.rest
