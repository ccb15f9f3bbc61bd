use Rattle.pgn_game.proofs.Common.{on_ok_weaker}
use Rattle.pgn_game.proofs.GameLineFacts.{puts_move}
use Rattle.pgn_game.proofs.exports.game_line.push_element.Goals as goal

pub returns-in-Move-clause-text : goal.returns-in-Move-clause-text
returns-in-Move-clause-text c =
    on_ok_weaker c.push_move.result
    (λ puts.
    rw c.in-Move.is (puts_move c.in-Move.word.now c.if-walk-eq0.true puts))
    c.push_move.ensures.text
