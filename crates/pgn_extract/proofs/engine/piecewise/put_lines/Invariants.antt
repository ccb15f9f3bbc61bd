use Rattle.pgn_extract.proofs.Common.{◌≡◌, ℕ, List, false, SoundGame, aim_of}
use Rattle.pgn_game.specs.Public.AllLines.{Line, spelled}
use Rattle.pgn_game.specs.Public.LineGames.{WritesFirst, lines_of}
use Rattle.pgn_extract.specs.Private.Blockwise.{PassesVerdict, line_layout}
use Rattle.pgn_extract.specs.Public.Exports.{line_begin}
use Rattle.pgn_extract.proofs.engine.piecewise.put_lines.Given as goal

abbrev pub invariant-loop-left : goal.invariant-loop-left
invariant-loop-left g l =
    record {
      done : (line : Line) × (text : List ℕ) × (l.fn.game.elements ≡ spelled line)
          × WritesFirst (line_layout l.fn.context.settings.now.form
          (aim_of l.fn.context.settings.now)
          (line_begin l.fn.context.settings.now.name l.fn.context.own)) l.fn.game
          (lines_of line) l.left.lines text
          × PassesVerdict l.fn.report l.report
          (g.O.Write.contents l.fn.out.inner) (g.O.Write.contents l.out.inner)
          (g.E.Write.contents l.fn.err.inner) (g.E.Write.contents l.err.inner) (SoundGame text) 0;
      layout : l.left.layout ≡ line_layout l.fn.context.settings.now.form
          (aim_of l.fn.context.settings.now)
          (line_begin l.fn.context.settings.now.name l.fn.context.own);
      game : l.left.game ≡ l.fn.game;
      out : l.out.faulted ≡ false;
      err : l.err.faulted ≡ false;
    }

abbrev pub decreases-loop-left : goal.decreases-loop-left
decreases-loop-left g l = l.left.steps
