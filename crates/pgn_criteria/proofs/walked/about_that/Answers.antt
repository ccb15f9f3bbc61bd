use Rattle.pgn_criteria.proofs.Common.{◌≡◌, ◌∙◌, ap, arith, drop, drop-length, length}
use Rattle.pgn_criteria.proofs.MeetFacts.{alternatives_from}
use Rattle.pgn_criteria.proofs.walked.about_that.Goals as goal

pub loop-condition-preserved : goal.loop-condition-preserved
loop-condition-preserved c replay ply rest =
    let all = c.args.conditions.now in
    let i = c.loop-condition.condition-index in
    let own = c.condition-item.result in
    let front = alternatives_from all i own c.loop-condition-test.true c.condition-item.is in
    c.loop-condition.invariant replay ply
    (rw front (c.speaks_of.ensures c.if-speaks_of.false replay ply own.is_denied, rest))

pub returns : goal.returns
returns c replay ply =
    let all = c.args.conditions.now in
    let end : c.loop-condition.condition-index ≡ length all = omega arith in
    let none = ap (λ n. drop n all) end ∙ drop-length all in
    (λ t. c.loop-condition.invariant replay ply (rw none tt), λ said. tt)
