-- Whether a date stands in a comparison to days is settled.
use Rattle.pgn_criteria.proofs.Common.{◌≤◌, ◌+◌, ◌*◌, ℕ, List, [], ◌∷◌, refl, subst, inl, inr}
use Rattle.pgn_criteria.proofs.Common.{arith, Settled, settled_like, settled_not, settled_both}
use Rattle.pgn_criteria.proofs.Common.{settled_either, settled_le, cases_bytes, StandsFor, MayWrite}
use Rattle.pgn_criteria.proofs.Common.{MayBe, IsWithin, StandsTo, number_of, first_of, last_of}
use Rattle.pgn_criteria.proofs.Common.{StandSurely, IsDate, Comparison, Equal, Unequal, Less}
use Rattle.pgn_criteria.proofs.Common.{LessOrEqual, Greater, GreaterOrEqual, Day, Days}
use Rattle.chess.proofs.Settled.{SearchIn, settled_below}
use Rattle.pgn_criteria.proofs.DateFacts.{unknown_date, date_so, date_unknown}
use Rattle.pgn_criteria.proofs.laws.StandsSettled.{settled_by, settled_same, settled_less_than}
use Rattle.pgn_criteria.proofs.laws.StandsSettled.{settled_contents}

settled_digit : (byte digit : ℕ) → Settled (StandsFor byte digit)
settled_digit byte digit =
    settled_both (settled_le digit 9)
    (settled_either (settled_same byte (48 + digit)) (settled_same byte 63))

-- each number that a text may write is tried
search_written : (n : ℕ) (text : List ℕ) → SearchIn ℕ (MayWrite n text)
search_written n [] F each = elim (each n) [
  | inl holds ↦ inl (n, refl, holds)
  | inr none ↦ inr (λ it. none (subst F it.1 it.2))
]
search_written n (b ∷ x) F each =
    settled_like (λ it. (it.2.1.0, (it.0, it.2.0, it.2.1.1), it.2.1.2))
    (λ it. (it.1.0, (let small = it.1.1.0 in omega arith), (it.1.1, (it.0, it.1.2, it.2))))
    (settled_below 10 (λ digit. StandsFor b digit
    × ((number : ℕ) × MayWrite (10 * n + digit) x number × F number))
    (λ digit small.
    settled_both (settled_digit b digit) (search_written (10 * n + digit) x F each)))

-- and of these each from 1 to another
abbrev IsOne : ℕ → List ℕ → ℕ → Type 0
IsOne most text number = MayWrite 0 text number × (1 ≤ number) × (number ≤ most)

search_one : (most : ℕ) (text : List ℕ) → SearchIn ℕ (IsOne most text)
search_one most text F each =
    settled_like (λ it. (it.0, (it.1, it.2.0.0, it.2.0.1), it.2.1))
    (λ it. (it.0, it.1.0, ((it.1.1, it.1.2), it.2)))
    (search_written 0 text (λ number. ((1 ≤ number) × (number ≤ most)) × F number)
    (λ number. settled_both (settled_both (settled_le 1 number) (settled_le number most))
    (each number)))

abbrev day_of : ℕ → ℕ → ℕ → Day
day_of year month day = record { year = year; month = month; day = day }

-- each day that a value may be is tried
search_day : (value : List ℕ) → SearchIn Day (MayBe value)
search_day (a ∷ b ∷ c ∷ d ∷ p ∷ e ∷ f ∷ q ∷ g ∷ h ∷ []) F each =
    settled_like
    (λ it. (
      day_of it.1.0 it.1.2.0 it.1.2.2.0,
      (
        it.1.1,
        it.0.0,
        it.1.2.1.0,
        it.1.2.1.1,
        it.1.2.1.2,
        it.0.1,
        it.1.2.2.1.0,
        it.1.2.2.1.1,
        it.1.2.2.1.2,
      ),
      it.1.2.2.2,
    ))
    (λ it. (
      (it.1.1, it.1.5),
      (
        it.0.year,
        it.1.0,
        (
          it.0.month,
          (it.1.2, it.1.3, it.1.4),
          (it.0.day, (it.1.6, it.1.7, it.1.8), it.2),
        ),
      ),
    ))
    (settled_both (settled_both (settled_same p 46) (settled_same q 46))
    (search_written 0 (a ∷ b ∷ c ∷ d ∷ []) (λ year. (month : ℕ) × IsOne 12 (e ∷ f ∷ []) month
    × ((day : ℕ) × IsOne 31 (g ∷ h ∷ []) day × F (day_of year month day)))
    (λ year. search_one 12 (e ∷ f ∷ []) (λ month. (day : ℕ) × IsOne 31 (g ∷ h ∷ []) day
    × F (day_of year month day))
    (λ month. search_one 31 (g ∷ h ∷ []) (λ day. F (day_of year month day))
    (λ day. each (day_of year month day))))))
search_day value F each = inr (λ it. it.1)

settled_within : (day : Day) (days : Days) → Settled (IsWithin day days)
settled_within day days =
    settled_like (λ it. (it.0, it.1.0.0, it.1.0.1, it.1.1.0, it.1.1.1))
    (λ it. (it.0, ((it.1, it.2), (it.3, it.4))))
    (settled_both (settled_same day.year days.year)
    (settled_both
    (settled_both (settled_le days.first_month day.month) (settled_le day.month days.last_month))
    (settled_both (settled_le days.first_day day.day) (settled_le day.day days.last_day))))

settled_to : (comparison : Comparison) (day : Day) (days : Days)
    → Settled (StandsTo comparison day days)
settled_to Equal day days = settled_within day days
settled_to Unequal day days = settled_not (settled_within day days)
settled_to Less day days = settled_less_than (number_of day) (first_of days)
settled_to LessOrEqual day days = settled_le (number_of day) (last_of days)
settled_to Greater day days = settled_less_than (last_of days) (number_of day)
settled_to GreaterOrEqual day days = settled_le (first_of days) (number_of day)

-- some day is tried, and each day of which the comparison does not hold
settled_some : (value : List ℕ) → Settled ((day : Day) × MayBe value day)
settled_some value =
    settled_like (λ it. (it.0, it.1)) (λ it. (it.0, it.1, tt))
    (search_day value (λ day. Unit {0}) (λ day. inl tt))

settled_each : (comparison : Comparison) (value : List ℕ) (days : Days)
    → Settled ((day : Day) → MayBe value day → StandsTo comparison day days)
settled_each comparison value days =
    elim (search_day value (λ day. StandsTo comparison day days → ⊥)
    (λ day. settled_not (settled_to comparison day days))) [
      | inl other ↦ inr (λ each. other.2 (each other.0 other.1))
      | inr none ↦ inl (λ day may. elim (settled_to comparison day days) [
        | inl stands ↦ stands
        | inr not_so ↦ absurd (none (day, may, not_so))
      ])
    ]

settled_surely : (comparison : Comparison) (value : List ℕ) (days : Days)
    → Settled (StandSurely comparison value days)
settled_surely comparison value days =
    settled_both (settled_some value) (settled_each comparison value days)

pub settled_date : (comparison : Comparison) (given : List ℕ) (days : Days)
    → Settled (IsDate comparison given days)
settled_date comparison given days = elim (settled_contents given) [
  | inr none ↦ inr (λ date. none (date.signs, date.has.spells, date.has.each))
  | inl good ↦ elim (cases_bytes given unknown_date) [
    | inl same ↦ inr (date_unknown comparison given days same)
    | inr known ↦ settled_by (λ r reports. date_so comparison given days r good known reports)
        (settled_surely comparison given days)
  ]
]
