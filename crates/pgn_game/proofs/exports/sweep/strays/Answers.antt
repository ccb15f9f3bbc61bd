use Rattle.pgn_game.proofs.exports.SweepFacts.{first_stray, next_stray}
use Rattle.pgn_game.proofs.exports.sweep.strays.Goals as goal

pub returns-clause-first : goal.returns-clause-first
returns-clause-first c =
    let a = c.args in first_stray a.odd a.blanks a.percents a.brackets a.letters

pub returns-clause-next : goal.returns-clause-next
returns-clause-next c =
    let a = c.args in next_stray a.odd a.blanks a.percents a.brackets a.letters
