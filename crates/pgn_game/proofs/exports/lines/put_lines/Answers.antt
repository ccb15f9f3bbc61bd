use Rattle.pgn_game.proofs.Common.{◌++◌, ◌∙◌, ap, append_assoc}
use Rattle.pgn_game.specs.Public.LineGames.{layout_of, lines_of}
use Rattle.pgn_game.proofs.LinesInRow.{writes_all, writes_more}
use Rattle.pgn_game.proofs.exports.lines.put_lines.Goals as goal

pub loop-left-preserved : goal.loop-left-preserved
loop-left-preserved c =
    let layout = layout_of c.args.form in
    let game = c.args.game.now in
    let was = c.loop-left.left in
    let now = c.put_next.new.self in
    let l = c.loop-left.invariant in
    let (line, written, spells, first, put) = l.done in
    let (text, next, added) = c.in_ok-put_next.ensures.text in
    let (same_layout, same_game) = c.put_next.ensures.how in
    record {
      done = (
        line,
        written ++ text,
        spells,
        writes_more layout game was.layout was.game (lines_of line) was.lines now.lines written
            text l.layout l.game first next,
        added ∙ ap (λ bytes. bytes ++ text) put
            ∙ append_assoc c.args.out.now.items written text,
      );
      layout = same_layout ∙ l.layout;
      game = same_game ∙ l.game;
    }

pub returns-clause-text : goal.returns-clause-text
returns-clause-text c =
    let layout = layout_of c.args.form in
    let game = c.args.game.now in
    let was = c.loop-left.left in
    let now = c.put_next.new.self in
    let l = c.loop-left.invariant in
    let (line, written, spells, first, put) = l.done in
    let (text, next, added) = c.in_ok-put_next.ensures.text in
    let none = c.in_ok-put_next.ensures.left.1 c.if-branch.false in (
      written ++ text,
      (
        line,
        spells,
        writes_all layout game (lines_of line) now.lines (written ++ text) none
            (writes_more layout game was.layout was.game (lines_of line) was.lines now.lines
            written text l.layout l.game first next),
      ),
      added ∙ ap (λ bytes. bytes ++ text) put ∙ append_assoc c.args.out.now.items written text,
    )
