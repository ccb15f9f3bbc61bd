use Rattle.pgn_game.proofs.Common.{◌≤◌, drop, map, item_of, HasPutSome, main_words}
use Rattle.pgn_game.proofs.exports.game_line.push_moves.Given as goal

abbrev pub invariant-loop-element : goal.invariant-loop-element
invariant-loop-element l =
    record {
      plies : l.walk.plies ≤ l.element-index;
      depth : l.walk.depth ≤ l.element-index;
      put : HasPutSome l.notation l.fn.start (main_words (map item_of l.elements) 0) l.walk
          l.fn.out.items l.out.items (map item_of (drop l.element-index l.elements));
    }
