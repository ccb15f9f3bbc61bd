use Rattle.pgn_game.proofs.Common.{◌≡◌, ℕ, List, ◌++◌}
use Rattle.pgn_game.specs.Public.AllLines.{Line, spelled}
use Rattle.pgn_game.specs.Public.LineGames.{WritesFirst, layout_of, lines_of}
use Rattle.pgn_game.proofs.exports.lines.put_lines.Given as goal

abbrev pub invariant-loop-left : goal.invariant-loop-left
invariant-loop-left l =
    record {
      done : (line : Line) × (written : List ℕ) × (l.fn.game.elements ≡ spelled line)
          × WritesFirst (layout_of l.fn.form) l.fn.game (lines_of line) l.left.lines written
          × (l.out.items ≡ l.fn.out.items ++ written);
      layout : l.left.layout ≡ layout_of l.fn.form;
      game : l.left.game ≡ l.fn.game;
    }

abbrev pub decreases-loop-left : goal.decreases-loop-left
decreases-loop-left l = l.left.steps
