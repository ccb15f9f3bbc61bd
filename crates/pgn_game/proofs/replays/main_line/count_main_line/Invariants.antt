use Rattle.pgn_game.proofs.Common.{◌≤◌, drop, map, item_of, main_words}
use Rattle.pgn_game.proofs.WalkFacts.{HasGone}
use Rattle.pgn_game.proofs.replays.main_line.count_main_line.Given as goal

abbrev pub invariant-loop-element : goal.invariant-loop-element
invariant-loop-element l =
    record {
      plies : l.walk.plies ≤ l.element-index;
      depth : l.walk.depth ≤ l.element-index;
      walked : HasGone l.fn.start (main_words (map item_of l.elements) 0) l.walk
          (map item_of (drop l.element-index l.elements));
    }
