use Rattle.pgn_game.proofs.Common.{◌≤◌, drop, map, item_of, main_words, KeepsLine}
use Rattle.pgn_game.proofs.replays.main_line.play_beginning.Given as goal

abbrev pub invariant-loop-element : goal.invariant-loop-element
invariant-loop-element l =
    record {
      few : l.beginning.walk.plies ≤ l.most;
      plies : l.beginning.walk.plies ≤ l.element-index;
      depth : l.beginning.walk.depth ≤ l.element-index;
      keeps : KeepsLine l.fn.start (main_words (map item_of l.elements) 0) l.beginning
          (map item_of (drop l.element-index l.elements));
    }
