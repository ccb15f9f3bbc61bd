-- The first and the last day that a date may be.
use Rattle.std.specs.Prelude.{◌≡◌, ◌⊎◌, ◌≤◌, ℕ, List, [], ◌∷◌, Option, Some, None}
use Rattle.pgn_criteria.specs.Public.Dates.{StandsFor, MayBe}
use Rattle.pgn_criteria.specs.declared.dates.Day.{Day}
use Rattle.pgn_criteria.specs.declared.dates.Days.{Days}
use Rattle.pgn_criteria.specs.declared.dates.Written.{Written}

-- the bytes of a year, and of a date
abbrev pub year_text : Written → List ℕ
year_text own = own.thousands ∷ own.hundreds ∷ own.tens ∷ own.units ∷ []

abbrev pub date_text : Written → List ℕ
date_text own =
    own.thousands ∷ own.hundreds ∷ own.tens ∷ own.units ∷ 46 ∷ own.month_tens ∷ own.month_units
    ∷ 46 ∷ own.day_tens ∷ own.day_units ∷ []

-- the least number from one to another that is such, and the greatest, or none where none is
abbrev pub IsLeast : (ℕ → Type 0) → ℕ → ℕ → Option ℕ → Type 0
IsLeast Such first last None = (n : ℕ) → first ≤ n → n ≤ last → Such n → ⊥
IsLeast Such first last (Some own) = (first ≤ own) × (own ≤ last) × Such own
    × ((n : ℕ) → first ≤ n → n ≤ last → Such n → own ≤ n)

abbrev pub IsGreatest : (ℕ → Type 0) → ℕ → ℕ → Option ℕ → Type 0
IsGreatest Such first last None = (n : ℕ) → first ≤ n → n ≤ last → Such n → ⊥
IsGreatest Such first last (Some own) = (first ≤ own) × (own ≤ last) × Such own
    × ((n : ℕ) → first ≤ n → n ≤ last → Such n → n ≤ own)

-- the byte stands for the digit, and for no other one, unless the digit stands for an unknown one
abbrev pub IsDigitEnd : ℕ → ℕ → ℕ → Type 0
IsDigitEnd unknown byte own = StandsFor byte own
    × ((digit : ℕ) → StandsFor byte digit → (own ≡ digit) ⊎ (own ≡ unknown))

-- a number that is such: the least of them, where 0 stands for what is not known, and the greatest,
-- where 9 does
abbrev pub IsYearEnd : ℕ → (ℕ → Type 0) → Option ℕ → Type 0
IsYearEnd unknown Such None = (n : ℕ) → Such n → ⊥
IsYearEnd unknown Such (Some own) = Such own
    × ((n : ℕ) → Such n → (unknown ≡ 0 → own ≤ n) × (unknown ≡ 9 → n ≤ own))

-- the value may be the day, and no day with a lesser number, or with a greater one
pub record IsFirstDay (value : List ℕ) (first : Day) : Type 0 where
  pub may_be : MayBe value first
  pub least : (day : Day) → MayBe value day
      → (first.year ≤ day.year) × (first.month ≤ day.month) × (first.day ≤ day.day)

pub record IsLastDay (value : List ℕ) (last : Day) : Type 0 where
  pub may_be : MayBe value last
  pub greatest : (day : Day) → MayBe value day
      → (day.year ≤ last.year) × (day.month ≤ last.month) × (day.day ≤ last.day)

-- the months and the days are some of a year
abbrev pub AreGoodDays : Days → Type 0
AreGoodDays days = (1 ≤ days.first_month) × (days.last_month ≤ 12) × (1 ≤ days.first_day)
    × (days.last_day ≤ 31)
