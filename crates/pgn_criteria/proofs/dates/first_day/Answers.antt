use Rattle.std.proofs.Common.{refl}
use Rattle.pgn_criteria.proofs.dates.first_day.Goals as goal

pub returns-in_err-year : goal.returns-in_err-year
returns-in_err-year c = rw c.from_residual.ensures λ day may. c.in_err-year.ensures day.year may.0

pub returns-in_err-month : goal.returns-in_err-month
returns-in_err-month c =
    rw c.from_residual-in_err-month.ensures λ day may.
    c.in_err-month.ensures day.month may.3 may.4 may.2

pub returns-in_err-day : goal.returns-in_err-day
returns-in_err-day c =
    rw c.from_residual-in_err-day.ensures λ day may.
    c.in_err-day.ensures day.day may.7 may.8 may.6

pub returns : goal.returns
returns c =
    let year = c.in_ok-year.ensures in
    let month = c.in_ok-month.ensures in
    let day = c.in_ok-day.ensures in
    record {
      may_be = (year.0, refl, month.2, month.0, month.1, refl, day.2, day.0, day.1);
      least = λ other may. (
        (year.1 other.year may.0).0 refl,
        month.3 other.month may.3 may.4 may.2,
        day.3 other.day may.7 may.8 may.6,
      );
    }
