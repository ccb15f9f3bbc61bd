use Rattle.pgn_extract.proofs.Common.{◌≡◌, ◌++◌, ◌+◌, ◌<◌, ◌^◌, ℕ, List, [], length, aim_of}
use Rattle.pgn_game.specs.Public.AllLines.{Line, spelled}
use Rattle.pgn_game.specs.Public.LineGames.{LineGame, variations_in}
use Rattle.pgn_extract.specs.Public.LineListing.{AreLineListings}
use Rattle.pgn_extract.proofs.entries.each_line.push_variations.Given as goal

abbrev pub invariant-loop-left : goal.invariant-loop-left
invariant-loop-left l = record {
  done : (line : Line) × (first : List LineGame) × (own : List ℕ)
      × (l.fn.game.elements ≡ spelled line)
      × (variations_in [] [] line ≡ first ++ l.left.lines)
      × (l.count ≡ length first)
      × AreLineListings (aim_of l.context.settings.now) l.context.own l.fn.game 1 first own
      × (l.text.items ≡ l.fn.text.items ++ own);
  game : l.left.game ≡ l.fn.game;
  room : l.count + l.left.steps < 2 ^ 64;
}

abbrev pub decreases-loop-left : goal.decreases-loop-left
decreases-loop-left l = l.left.steps
