use Rattle.pgn_criteria.proofs.Common.{codes_in}
use Rattle.pgn_criteria.proofs.ArrivalFacts.{no_such_move}
use Rattle.pgn_criteria.proofs.by_record.word_is_shown.Goals as goal

pub returns-in-Some : goal.returns-in-Some
returns-in-Some c none P replay by ply goes =
    no_such_move c.args.word.now c.in-Some.sought P (codes_in c.args.plies.now) replay
    (rw c.in-Some.is at c.sought_by.ensures) (c.is_shown.ensures none) by ply goes
