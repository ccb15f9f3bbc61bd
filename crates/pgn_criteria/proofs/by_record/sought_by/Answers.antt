use Rattle.pgn_criteria.proofs.ArrivalFacts.{both_tell, castling_tells}
use Rattle.pgn_criteria.proofs.by_record.sought_by.Goals as goal

pub returns-in-Some : goal.returns-in-Some
returns-in-Some c =
    both_tell c.args.word.now _ (rw c.in-Some.is at c.last_square.ensures) c.first_byte.ensures

pub returns-in-len1-up : goal.returns-in-len1-up
returns-in-len1-up c =
    castling_tells c.args.word.now c.in-len1-up.len_at_least c.if-first-eq79.true
