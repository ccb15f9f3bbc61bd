use Rattle.pgn_game.proofs.exports.tag_lines.put_text.Goals as goal

pub returns-in-Some-clause-text : goal.returns-in-Some-clause-text
returns-in-Some-clause-text c = rw c.in-Some.is c.put_value.ensures.text
