use Rattle.pgn_text.proofs.Common.{◌-◌, List, length, Item, PlainTo}
use Rattle.pgn_text.proofs.lex.movetext.plain_end.Given as goal

abbrev pub invariant-loop-at : goal.invariant-loop-at
invariant-loop-at l = (moves : List Item) × PlainTo l.block l.from moves l.at

abbrev pub decreases-loop-at : goal.decreases-loop-at
decreases-loop-at l = length l.block - l.at
