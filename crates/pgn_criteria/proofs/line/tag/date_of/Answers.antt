use Rattle.std.proofs.Common.{codes}
use Rattle.pgn_criteria.proofs.Common.{sym, subst, parted_at, SpellsDays, comparison_text}
use Rattle.pgn_criteria.proofs.TagFacts.{date_read, date_spelled, named_once}
use Rattle.pgn_criteria.proofs.line.tag.date_of.Goals as goal

pub returns-in_err-names : goal.returns-in_err-names
returns-in_err-names c =
    rw c.from_residual.ensures λ names comparison days spells.
    let read = date_read c.args.text.now names comparison days spells in
    c.in_err-names.ensures names (comparison_text comparison) read.0 read.1

pub returns-in_err-comparison : goal.returns-in_err-comparison
returns-in_err-comparison c =
    rw c.from_residual-in_err-comparison.ensures λ names comparison days spells.
    let read = date_read c.args.text.now names comparison days spells in
    let same = named_once (codes "date") c.args.text.now _ _ _ _ _ _ c.in_ok-names.ensures read.1 in
    c.in_err-comparison.ensures comparison same.1

pub returns-in_err-days : goal.returns-in_err-days
returns-in_err-days c =
    rw c.from_residual-in_err-days.ensures λ names comparison days spells.
    let read = date_read c.args.text.now names comparison days spells in
    let same = named_once (codes "date") c.args.text.now _ _ _ _ _ _ c.in_ok-names.ensures read.1 in
    c.in_err-days.ensures days (subst (λ x. SpellsDays (parted_at 46 x) days) (sym same.2) read.2)

pub returns : goal.returns
returns c =
    date_spelled c.args.text.now _ _ _ c.in_ok-comparison.comparison c.in_ok-days.days
    c.in_ok-names.ensures c.in_ok-comparison.ensures c.in_ok-days.ensures
