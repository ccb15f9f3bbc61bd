use Rattle.pgn_criteria.proofs.Common.{refl, subst, arith, MayWrite, year_text}
use Rattle.pgn_criteria.proofs.dates.may_be_within.Goals as goal

pub returns-then-not-may_be_year : goal.returns-then-not-may_be_year
returns-then-not-may_be_year c = (
  (λ t. cc),
  (λ it. let may = c.may_be_year.ensures.1
      (subst (MayWrite 0 (year_text c.args.written)) it.2.0 it.1.0) in
      absurd (cc (may, c.if-not-may_be_year.true))),
)

pub returns-in_default : goal.returns-in_default
returns-in_default c = (
  (λ t. cc),
  (λ it. absurd (c.in_default.ensures it.0.month it.2.1 it.2.2 it.1.2)),
)

pub returns-in_default-least_of : goal.returns-in_default-least_of
returns-in_default-least_of c = (
  (λ t. cc),
  (λ it. absurd (c.in_default-least_of.ensures it.0.day it.2.3 it.2.4 it.1.6)),
)

pub returns : goal.returns
returns c =
    let year = c.may_be_year.ensures.0 c.if-not-may_be_year.false in
    let month = c.in-Some.ensures in
    let day = c.in-Some-least_of.ensures in
    let good = c.requires in (
      (λ t. (
        record {
          year = c.args.days.year;
          month = c.in-Some.field-0;
          day = c.in-Some-least_of.field-0;
        },
        (year, refl, month.2, omega arith, omega arith, refl, day.2, omega arith, omega arith),
        (refl, month.0, month.1, day.0, day.1),
      )),
      (λ it. refl),
    )
