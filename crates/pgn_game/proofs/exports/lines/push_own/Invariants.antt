use Rattle.pgn_game.proofs.Common.{◌≡◌, ◌++◌, ◌+◌, ◌<◌, ◌-◌, ◌^◌, drop, length, map, item_of}
use Rattle.pgn_game.specs.Private.LinePaths.{own_front}
use Rattle.pgn_game.proofs.exports.lines.push_own.Given as goal

abbrev pub invariant-loop-element : goal.invariant-loop-element
invariant-loop-element l =
    record {
      room : l.depth + (length l.elements - l.element-index) < 2 ^ 64;
      parts : map item_of l.own.items
          ++ own_front (map item_of (drop l.element-index l.elements)) l.depth
          ≡ map item_of l.fn.own.items ++ own_front (map item_of l.elements) 0;
    }
