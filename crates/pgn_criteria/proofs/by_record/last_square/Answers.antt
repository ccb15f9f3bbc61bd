use Rattle.pgn_criteria.proofs.Common.{◌-◌, length, get_or, arith}
use Rattle.pgn_criteria.proofs.ArrivalFacts.{ends_with_square, two_parts}
use Rattle.pgn_criteria.proofs.by_record.last_square.Goals as goal

pub returns : goal.returns
returns c =
    let word = c.args.word.now in
    let parts = two_parts word c.in-len2-up.len_at_least in
    ends_with_square word parts.0 (get_or word (length word - 2) 0)
    (get_or word (length word - 1) 0) parts.1 (omega (arith, c.if-file-lt97.false))
    (omega (arith, c.if-file-gt104.false)) (omega (arith, c.if-rank-lt49.false))
    (omega (arith, c.if-rank-gt56.false))
