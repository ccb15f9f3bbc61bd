use Rattle.pgn_game.proofs.Common.{◌≡◌, ◌+◌, ◌<◌, ◌^◌, length, map, item_of, main_words}
use Rattle.pgn_game.proofs.replays.played_line.MainLine.next_move.Given as goal

abbrev pub invariant-loop-self : goal.invariant-loop-self
invariant-loop-self l =
    record {
      plies_room : l.self-inside.walk.plies + length l.self-inside.rest.now < 2 ^ 64;
      depth_room : l.self-inside.walk.depth + length l.self-inside.rest.now < 2 ^ 64;
      words : main_words (map item_of l.self-inside.rest.now) l.self-inside.walk.depth
          ≡ l.fn.self.words;
      position : l.self-inside.walk.position ≡ l.fn.self.position;
      plies : l.self-inside.walk.plies ≡ l.fn.self.plies;
    }

abbrev pub decreases-loop-self : goal.decreases-loop-self
decreases-loop-self l = length l.self-inside.rest.now
