use Rattle.pgn_criteria.proofs.Common.{◌∙◌, sym, subst, arith, SpellsCount}
use Rattle.pgn_criteria.proofs.PliesFacts.{for_read, for_spelled}
use Rattle.pgn_criteria.proofs.line.plies.for_of.Goals as goal

pub returns-in_err-digits : goal.returns-in_err-digits
returns-in_err-digits c =
    rw c.from_residual.ensures (λ count spells.
    c.in_err-digits.ensures (for_read c.args.text.now count spells).0)

pub returns-in_err-count : goal.returns-in_err-count
returns-in_err-count c =
    rw c.from_residual-in_err-count.ensures (λ count spells.
    c.in_err-count.ensures count
    (rw c.in_ok-digits.ensures.1 (for_read c.args.text.now count spells).1))

pub returns-then-count-eq0 : goal.returns-then-count-eq0
returns-then-count-eq0 c count spells =
    let read = for_read c.args.text.now count spells in
    let own : SpellsCount c.in_ok-digits.digits.now count =
    subst (λ x. SpellsCount x count) (sym c.in_ok-digits.ensures.1) read.1 in
    let same = own.value ∙ sym c.in_ok-count.ensures.value in
    omega (arith, same, read.2, c.if-count-eq0.true)

pub returns-else-count-eq0 : goal.returns-else-count-eq0
returns-else-count-eq0 c =
    for_spelled c.args.text.now c.in_ok-digits.digits.now c.in_ok-count.count
    c.in_ok-digits.ensures.0 c.in_ok-digits.ensures.1 c.in_ok-count.ensures
    (omega (arith, c.if-count-eq0.false))
