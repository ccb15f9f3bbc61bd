use Rattle.pgn_game.proofs.Common.{◌≡◌, ◌+◌, ◌<◌, ◌-◌, ◌^◌, drop, length, map, item_of}
use Rattle.pgn_game.specs.Public.Edits.{first_plies}
use Rattle.pgn_game.proofs.exports.edits.end_of_plies.Given as goal

abbrev pub invariant-loop-element : goal.invariant-loop-element
invariant-loop-element l =
    record {
      here : l.end ≡ l.element-index;
      room : l.depth + (length l.elements - l.element-index) < 2 ^ 64;
      first : l.end
          + length (first_plies l.left l.depth (map item_of (drop l.element-index l.elements)))
          ≡ length (first_plies l.fn.plies 0 (map item_of l.elements));
    }
