use Rattle.pgn_criteria.proofs.Common.{◌∷◌, ◌∙◌, ap, parted_at}
use Rattle.pgn_criteria.proofs.DayTextFacts.{some_rest, year_in, month_in, day_in, too_many}
use Rattle.pgn_criteria.proofs.line.days.days_of.Goals as goal

pub returns-in_err-year : goal.returns-in_err-year
returns-in_err-year c =
    let parts = some_rest (parted_at 46 c.args.text.now) c.next_part.result.0.now
    (λ rest. parted_at 46 rest.now) c.next_part.result.1 c.next_part.ensures in
    rw c.from_residual.ensures λ days spells.
    c.in_err-year.ensures days.year
    (year_in (parted_at 46 c.args.text.now) c.next_part.result.0.now parts.0 days parts.1 spells)

pub returns-in_err-month : goal.returns-in_err-month
returns-in_err-month c =
    let year = c.next_part.result.0.now in
    let month = c.next_part-2.result.0.now in
    let one = rw c.in-Some.is at c.next_part.ensures in
    let parts = some_rest (parted_at 46 c.in-Some.rest.now) month (λ rest. parted_at 46 rest.now)
    c.next_part-2.result.1 c.next_part-2.ensures in
    rw c.from_residual-in_err-month.ensures λ days spells.
    c.in_err-month.ensures days.first_month days.last_month
    (month_in (parted_at 46 c.args.text.now) year month parts.0 days
    (one ∙ ap (λ x. year ∷ x) parts.1) spells)

pub returns-in_err-day : goal.returns-in_err-day
returns-in_err-day c =
    let year = c.next_part.result.0.now in
    let month = c.next_part-2.result.0.now in
    let day = c.next_part-3.result.0.now in
    let one = rw c.in-Some.is at c.next_part.ensures in
    let two = rw c.in-Some-rest.is at c.next_part-2.ensures in
    let parts = some_rest (parted_at 46 c.in-Some-rest.rest.now) day (λ rest. parted_at 46 rest.now)
    c.next_part-3.result.1 c.next_part-3.ensures in
    rw c.from_residual-in_err-day.ensures λ days spells.
    c.in_err-day.ensures days.first_day days.last_day
    (day_in (parted_at 46 c.args.text.now) year month day parts.0 days
    (one ∙ ap (λ x. year ∷ x) (two ∙ ap (λ x. month ∷ x) parts.1)) spells)

pub returns-in-Some-rest-2 : goal.returns-in-Some-rest-2
returns-in-Some-rest-2 c days spells =
    let year = c.next_part.result.0.now in
    let month = c.next_part-2.result.0.now in
    let one = rw c.in-Some.is at c.next_part.ensures in
    let two = rw c.in-Some-rest.is at c.next_part-2.ensures in
    let three = rw c.in-Some-rest-2.is at c.next_part-3.ensures in
    too_many (parted_at 46 c.args.text.now) year month c.next_part-3.result.0.now
    c.in-Some-rest-2.field-0.now days
    (one ∙ ap (λ x. year ∷ x) (two ∙ ap (λ x. month ∷ x) three)) spells
