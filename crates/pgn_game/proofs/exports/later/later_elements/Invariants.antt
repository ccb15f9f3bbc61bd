use Rattle.pgn_game.proofs.Common.{◌≡◌, ◌++◌, ◌+◌, ◌<◌, ◌-◌, ◌^◌, drop, length, map, item_of}
use Rattle.pgn_game.specs.Public.LaterPlies.{later_plies}
use Rattle.pgn_game.proofs.exports.later.later_elements.Given as goal

abbrev pub invariant-loop-element : goal.invariant-loop-element
invariant-loop-element l =
    record {
      here : l.place ≡ l.element-index;
      room : l.depth + (length l.elements - l.element-index) < 2 ^ 64;
      parts : map item_of l.later.items
          ++ later_plies l.left l.depth (map item_of (drop l.element-index l.elements))
          ≡ later_plies l.fn.plies 0 (map item_of l.elements);
    }
