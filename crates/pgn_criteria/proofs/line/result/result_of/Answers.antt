use Rattle.pgn_criteria.proofs.Common.{◌≡◌, ◌∙◌, sym, subst, IsResult}
use Rattle.pgn_criteria.proofs.ResultFacts.{result_read, result_spelled}
use Rattle.pgn_criteria.proofs.line.result.result_of.Goals as goal

pub returns-in_err-own : goal.returns-in_err-own
returns-in_err-own c =
    rw c.from_residual.ensures (λ own spells.
    c.in_err-own.ensures (result_read c.args.text.now own spells).0)

pub returns-then-is_result : goal.returns-then-is_result
returns-then-is_result c =
    result_spelled c.args.text.now c.in_ok-own.own.now c.in_ok-own.ensures.0 c.in_ok-own.ensures.1
    (c.is_result.ensures.0 c.if-is_result.true)

pub returns-else-is_result : goal.returns-else-is_result
returns-else-is_result c own spells =
    let same : own ≡ c.in_ok-own.own.now = sym (result_read c.args.text.now own spells).1
    ∙ sym c.in_ok-own.ensures.1 in
    let t = c.is_result.ensures.1 (subst IsResult same spells.1) in
    absurd (cc (t, c.if-is_result.false))
