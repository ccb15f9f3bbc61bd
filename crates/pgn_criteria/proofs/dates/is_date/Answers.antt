use Rattle.pgn_criteria.proofs.DateFacts.{date_so, date_unknown}
use Rattle.pgn_criteria.proofs.dates.is_date.Goals as goal

pub returns-then-is_unknown : goal.returns-then-is_unknown
returns-then-is_unknown c = (
  (λ t. cc),
  (λ date. absurd (date_unknown c.args.comparison c.args.given.now c.args.days
      (c.is_unknown.ensures.0 c.if-is_unknown.true) date)),
)

pub returns : goal.returns
returns c =
    date_so c.args.comparison c.args.given.now c.args.days c.stands_surely.result
    c.requires.contents
    (λ same. let t = c.is_unknown.ensures.1 same in cc (t, c.if-is_unknown.false))
    c.stands_surely.ensures
