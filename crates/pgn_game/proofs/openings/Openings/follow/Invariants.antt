-- What was found so far is the opening of the positions so far.
use Rattle.pgn_game.proofs.Common.{◌≤◌, drop, map, item_of, main_words}
use Rattle.pgn_game.specs.Public.Openings.{ends_of}
use Rattle.pgn_game.proofs.openings.Following.{HasFollowed}
use Rattle.pgn_game.proofs.openings.Openings.follow.Given as goal

abbrev pub invariant-loop-element : goal.invariant-loop-element
invariant-loop-element l =
    record {
      plies : l.walk.plies ≤ l.element-index;
      depth : l.walk.depth ≤ l.element-index;
      followed : HasFollowed (ends_of l.self) l.fn.start (main_words (map item_of l.elements) 0)
          l.walk (map item_of (drop l.element-index l.elements)) l.found;
    }
