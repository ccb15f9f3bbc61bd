use Rattle.pgn_game.proofs.exports.MovetextFacts.{written_movetext}
use Rattle.pgn_game.proofs.exports.movetext.put_movetext.Goals as goal

pub returns-clause-text : goal.returns-clause-text
returns-clause-text c =
    let (steps, walks, visits) = c.in_ok-walked.ensures.walked in
    written_movetext c.args.style.now c.args.start.now c.args.game.now steps
    c.args.out.now.items c.put_last.new.out.items c.new-writer.result
    c.walk_lines-walked.new.visitor (rw c.replace.ensures.value at c.new-writer.ensures)
    c.walk_lines-walked.ensures.paired walks visits
    (rw c.result.ensures at c.in_ok-put_last.ensures.text)
