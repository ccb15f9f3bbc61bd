use Rattle.pgn_game.proofs.Common.{drop, map, item_of, IsFlat}
use Rattle.pgn_game.proofs.replays.replayer.is_flat.Given as goal

abbrev pub invariant-loop-element : goal.invariant-loop-element
invariant-loop-element l = IsFlat (map item_of (drop l.element-index l.elements))
    → IsFlat (map item_of l.elements)
