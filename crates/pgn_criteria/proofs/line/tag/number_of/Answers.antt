use Rattle.std.proofs.Common.{sym, subst, codes}
use Rattle.pgn_criteria.specs.Public.Lines.{SpellsDigits, comparison_text}
use Rattle.pgn_criteria.proofs.TagFacts.{number_read, number_spelled, named_once}
use Rattle.pgn_criteria.proofs.line.tag.number_of.Goals as goal

pub returns-in_err-names : goal.returns-in_err-names
returns-in_err-names c =
    rw c.from_residual.ensures λ names comparison number spells.
    let read = number_read c.args.text.now names comparison number spells in
    c.in_err-names.ensures names (comparison_text comparison) read.0 read.1

pub returns-in_err-comparison : goal.returns-in_err-comparison
returns-in_err-comparison c =
    rw c.from_residual-in_err-comparison.ensures λ names comparison number spells.
    let read = number_read c.args.text.now names comparison number spells in
    let same =
    named_once (codes "number") c.args.text.now _ _ _ _ _ _ c.in_ok-names.ensures read.1 in
    c.in_err-comparison.ensures comparison same.1

pub returns-in_err-number : goal.returns-in_err-number
returns-in_err-number c =
    rw c.from_residual-in_err-number.ensures λ names comparison number spells.
    let read = number_read c.args.text.now names comparison number spells in
    let same =
    named_once (codes "number") c.args.text.now _ _ _ _ _ _ c.in_ok-names.ensures read.1 in
    c.in_err-number.ensures number (subst (λ x. SpellsDigits 9 x number) (sym same.2) read.2)

pub returns : goal.returns
returns c =
    number_spelled c.args.text.now _ _ _ c.in_ok-comparison.comparison c.in_ok-number.number
    c.in_ok-names.ensures c.in_ok-comparison.ensures c.in_ok-number.ensures
