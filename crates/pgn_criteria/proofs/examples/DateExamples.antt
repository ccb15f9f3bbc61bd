-- What the definitions say of dates that every reader can check.
use Rattle.std.proofs.Common.{◌≡◌, ◌≤◌, ◌+◌, ◌*◌, ℕ, refl, inl, inr, arith, codes}
use Rattle.pgn_criteria.proofs.Common.{parted_at, SpellsGame, SpellsDays, MayBe, StandsTo, IsDate}
use Rattle.pgn_criteria.proofs.Common.{Comparison, Equal, Unequal, Less, LessOrEqual, Greater, Tag}
use Rattle.pgn_criteria.proofs.Common.{Date, Day, Days}
use Rattle.pgn_criteria.proofs.DateFacts.{date_unknown}

abbrev day_of : ℕ → ℕ → ℕ → Day
day_of year month day = record { year = year; month = month; day = day }

-- the days of 1985, and those of its June
abbrev a_year : Days
a_year =
    record { year = 1985; first_month = 1; last_month = 12; first_day = 1; last_day = 31 }

abbrev a_month : Days
a_month =
    record { year = 1985; first_month = 6; last_month = 6; first_day = 1; last_day = 31 }

-- ---- lines

a_month_spelled : SpellsDays (parted_at 46 (codes "1985.06")) a_month
a_month_spelled = (
  (record { digits = refl; short = (omega arith, omega arith); value = refl }, refl),
  (
    (record { digits = refl; short = (omega arith, omega arith); value = refl }, refl),
    omega arith,
    omega arith,
    refl,
  ),
  (refl, refl),
)

a_year_spelled : SpellsDays (parted_at 46 (codes "1985")) a_year
a_year_spelled = (
  (record { digits = refl; short = (omega arith, omega arith); value = refl }, refl),
  (refl, refl),
  (refl, refl),
)

date : SpellsGame (codes "date A <= 1985.06") (Tag (codes "A") (Date LessOrEqual a_month))
date = (
  codes "1985.06",
  (
    codes " ",
    codes " ",
    codes " ",
    refl,
    ((λ none. cc), refl),
    ((λ none. cc), refl),
    ((λ none. cc), refl),
    (((λ none. cc), refl), tt),
  ),
  a_month_spelled,
)

-- there is no month 13
no_month : (days : Days) → SpellsDays (parted_at 46 (codes "1985.13")) days → ⊥
no_month days spells =
    let value : days.first_month ≡ 13 = spells.1.0.0.value in
    let small : days.first_month ≤ 12 = spells.1.2 in
    omega arith

-- ---- values

-- 198?.?6.30 may be the 30th of June 1985
may_be_that_day : MayBe (codes "198?.?6.30") (day_of 1985 6 30)
may_be_that_day = (
  (
    1,
    (omega arith, inl refl),
    (
      9,
      (omega arith, inl refl),
      (8, (omega arith, inl refl), (5, (omega arith, inr refl), refl)),
    ),
  ),
  refl,
  (0, (omega arith, inr refl), (6, (omega arith, inl refl), refl)),
  omega arith,
  omega arith,
  refl,
  (3, (omega arith, inl refl), (0, (omega arith, inl refl), refl)),
  omega arith,
  omega arith,
)

-- a date of the month 0 may be no day, and a text of another form neither
no_month_0 : (day : Day) → MayBe (codes "1985.00.01") day → ⊥
no_month_0 day may =
    let some : 1 ≤ day.month = may.3 in
    let one : day.month ≡ 10 * (10 * 0 + may.2.0) + may.2.2.0 = may.2.2.2 in
    elim may.2.1.1 [
      | inl tens ↦ elim may.2.2.1.1 [ inl units ↦ omega arith | inr unknown ↦ omega arith ]
      | inr unknown ↦ omega arith
    ]

no_form : (day : Day) → MayBe (codes "1985.1.1") day → ⊥
no_form day may = may

nothing_known : (comparison : Comparison) (days : Days)
    → IsDate comparison (codes "????.??.??") days → ⊥
nothing_known comparison days = date_unknown comparison (codes "????.??.??") days refl

-- ---- days beside others

in_june : StandsTo Equal (day_of 1985 6 30) a_month
in_june = (refl, omega arith, omega arith, omega arith, omega arith)

not_in_june : StandsTo Unequal (day_of 1985 7 1) a_month
not_in_june (same, low, high, least, most) = omega arith

before_1985 : StandsTo Less (day_of 1984 12 31) a_year
before_1985 = omega arith

not_before_1985 : StandsTo Less (day_of 1985 1 1) a_year → ⊥
not_before_1985 less = omega arith

up_to_1985 : StandsTo LessOrEqual (day_of 1985 12 31) a_year
up_to_1985 = omega arith

not_after_1985 : StandsTo Greater (day_of 1985 12 31) a_year → ⊥
not_after_1985 more = omega arith
