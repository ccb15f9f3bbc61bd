use Rattle.pgn_game.proofs.Common.{◌≤◌, drop, map, item_of, main_words}
use Rattle.pgn_game.specs.Private.PackWords.{HasPutPlayed}
use Rattle.pgn_game.proofs.pack.pushing.put_played.Given as goal

abbrev pub invariant-loop-element : goal.invariant-loop-element
invariant-loop-element l =
    record {
      plies : l.walk.plies ≤ l.element-index;
      depth : l.walk.depth ≤ l.element-index;
      put : HasPutPlayed l.initial.walk.position (main_words (map item_of l.elements) 0) l.count
          l.walk (map item_of (drop l.element-index l.elements)) l.initial.out.items l.out.items;
    }
