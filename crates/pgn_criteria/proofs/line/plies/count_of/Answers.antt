use Rattle.pgn_criteria.proofs.Common.{arith, rules, first_and_rest}
use Rattle.chess.proofs.CountFacts.{count_start, count_small, count_more}
use Rattle.pgn_criteria.proofs.line.plies.count_of.Goals as goal

pub loop-rest-init : goal.loop-rest-init
loop-rest-init c = count_start 9 c.args.text.now (omega arith)

pub overflow_mul-count : goal.overflow_mul-count
overflow_mul-count c =
    let small =
    count_small 9 c.loop-rest.count c.loop-rest.rest.now c.args.text.now c.loop-rest.invariant
    c.in-len1-up.len_at_least in
    omega arith

pub overflow_add-count : goal.overflow_add-count
overflow_add-count c =
    let small =
    count_small 9 c.loop-rest.count c.loop-rest.rest.now c.args.text.now c.loop-rest.invariant
    c.in-len1-up.len_at_least in
    omega arith

pub loop-rest-preserved : goal.loop-rest-preserved
loop-rest-preserved c =
    count_more 9 c.loop-rest.count c.loop-rest.rest.now c.args.text.now _ _ c.loop-rest.invariant
    (first_and_rest c.loop-rest.rest.now c.in-len1-up.len_at_least) (search rules) (omega arith)
