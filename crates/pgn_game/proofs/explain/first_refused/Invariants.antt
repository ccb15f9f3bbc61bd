use Rattle.pgn_game.proofs.Common.{map, item_of, IsSearched}
use Rattle.pgn_game.proofs.explain.first_refused.Given as goal

abbrev pub invariant-loop-index : goal.invariant-loop-index
invariant-loop-index l = IsSearched l.lines l.start (map item_of l.elements) l.index l.stack l.depth
