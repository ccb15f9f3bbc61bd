use Rattle.pgn_game.proofs.Common.{◌≡◌, ◌+◌, ◌<◌, ◌-◌, ◌^◌, drop, length, map, item_of, main_words}
use Rattle.pgn_game.proofs.replays.main_line.next_word.Given as goal

abbrev pub invariant-loop-element : goal.invariant-loop-element
invariant-loop-element l =
    record {
      room : l.depth + (length l.elements - l.element-index) < 2 ^ 64;
      words : main_words (map item_of (drop l.element-index l.elements)) l.depth
          ≡ main_words (map item_of l.elements) l.outer;
    }
