use Rattle.std.proofs.Common.{length}
use Rattle.std.specs.Prelude.{map}
use Rattle.chess.specs.Public.Fen.{parted_at}
use Rattle.pgn_extract.proofs.app.OrderLists.{HasListed}
use Rattle.pgn_extract.proofs.app.edits.read_order.Given as goal

abbrev pub invariant-loop-after : goal.invariant-loop-after
invariant-loop-after l = HasListed l.text l.rest (map (λ name. name.items) l.order.items)

abbrev pub decreases-loop-after : goal.decreases-loop-after
decreases-loop-after l = length (parted_at 44 l.rest)
