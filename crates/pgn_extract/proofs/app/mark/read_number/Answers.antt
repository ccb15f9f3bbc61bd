use Rattle.std.proofs.Common.{arith, rules}
use Rattle.chess.proofs.RestFacts.{first_and_rest}
use Rattle.chess.proofs.CountFacts.{count_start, count_small, count_more}
use Rattle.pgn_extract.proofs.app.mark.read_number.Goals as goal

pub loop-rest-init : goal.loop-rest-init
loop-rest-init c = count_start 19 c.args.digits.now (omega arith)

pub overflow_mul-value : goal.overflow_mul-value
overflow_mul-value c =
    let small = count_small 19 c.loop-rest.value c.loop-rest.rest.now c.args.digits.now
    c.loop-rest.invariant c.in-len1-up.len_at_least in
    omega arith

pub overflow_add-value : goal.overflow_add-value
overflow_add-value c =
    let small = count_small 19 c.loop-rest.value c.loop-rest.rest.now c.args.digits.now
    c.loop-rest.invariant c.in-len1-up.len_at_least in
    omega arith

pub loop-rest-preserved : goal.loop-rest-preserved
loop-rest-preserved c =
    count_more 19 c.loop-rest.value c.loop-rest.rest.now c.args.digits.now _ _ c.loop-rest.invariant
    (first_and_rest c.loop-rest.rest.now c.in-len1-up.len_at_least) (search rules) (omega arith)
