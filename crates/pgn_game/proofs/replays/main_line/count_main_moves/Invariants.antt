use Rattle.pgn_game.proofs.Common.{◌≡◌, ◌+◌, ◌<◌, ◌-◌, ◌^◌, drop, length, map, item_of, main_words}
use Rattle.pgn_game.proofs.replays.main_line.count_main_moves.Given as goal

abbrev pub invariant-loop-element : goal.invariant-loop-element
invariant-loop-element l =
    record {
      room : l.depth + (length l.elements - l.element-index) < 2 ^ 64;
      plies : l.plies + (length l.elements - l.element-index) < 2 ^ 64;
      counted : l.plies
          + length (main_words (map item_of (drop l.element-index l.elements)) l.depth)
          ≡ length (main_words (map item_of l.elements) 0);
    }
