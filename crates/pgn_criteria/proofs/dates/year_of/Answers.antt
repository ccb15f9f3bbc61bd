use Rattle.pgn_criteria.proofs.DateFacts.{year_end}
use Rattle.pgn_criteria.proofs.dates.year_of.Goals as goal

pub returns-in_err-thousands : goal.returns-in_err-thousands
returns-in_err-thousands c =
    rw c.from_residual.ensures λ n such. c.in_err-thousands.ensures such.0 such.1

pub returns-in_err-hundreds : goal.returns-in_err-hundreds
returns-in_err-hundreds c =
    rw c.from_residual-in_err-hundreds.ensures λ n such.
    c.in_err-hundreds.ensures such.2.0 such.2.1

pub returns-in_err-tens : goal.returns-in_err-tens
returns-in_err-tens c =
    rw c.from_residual-in_err-tens.ensures λ n such. c.in_err-tens.ensures such.2.2.0 such.2.2.1

pub returns-in_err-units : goal.returns-in_err-units
returns-in_err-units c =
    rw c.from_residual-in_err-units.ensures λ n such.
    c.in_err-units.ensures such.2.2.2.0 such.2.2.2.1

pub returns : goal.returns
returns c =
    year_end c.args.unknown c.args.written c.in_ok-thousands.thousands c.in_ok-hundreds.hundreds
    c.in_ok-tens.tens c.in_ok-units.units c.in_ok-thousands.ensures c.in_ok-hundreds.ensures
    c.in_ok-tens.ensures c.in_ok-units.ensures
