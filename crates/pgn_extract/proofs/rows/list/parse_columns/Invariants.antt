use Rattle.std.proofs.Common.{length}
use Rattle.chess.specs.Public.Fen.{parted_at}
use Rattle.pgn_extract.specs.Private.ColumnLists.{HasRead}
use Rattle.pgn_extract.proofs.rows.list.parse_columns.Given as goal

abbrev pub invariant-loop-name : goal.invariant-loop-name
invariant-loop-name l = HasRead l.text l.rest l.columns.items

abbrev pub decreases-loop-name : goal.decreases-loop-name
decreases-loop-name l = length (parted_at 44 l.rest)
