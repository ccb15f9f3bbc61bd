-- Days, and dates of which digits are not known (PGN 8.1.1.3). A date stands for each day that its
-- digits fit, with a month from 1 to 12 and a day from 1 to 31, whichever the month is.
use Rattle.std.specs.Prelude.{◌≡◌, ◌≢◌, ◌⊎◌, ◌+◌, ◌*◌, ◌≤◌, ◌<◌, ℕ, List, [], ◌∷◌, codes}
use Rattle.pgn_text.specs.Public.Strings.{Sign, HasValue}
use Rattle.pgn_criteria.specs.declared.compare.Comparison.{Comparison}
use Rattle.pgn_criteria.specs.declared.compare.Comparison.TheVariants.{Equal, Unequal, Less}
use Rattle.pgn_criteria.specs.declared.compare.Comparison.TheVariants.{LessOrEqual, Greater}
use Rattle.pgn_criteria.specs.declared.compare.Comparison.TheVariants.{GreaterOrEqual}
use Rattle.pgn_criteria.specs.declared.dates.Day.{Day}
use Rattle.pgn_criteria.specs.declared.dates.Days.{Days}

-- the byte stands for the digit: it is that digit, or ?, which stands for any
abbrev pub StandsFor : ℕ → ℕ → Type 0
StandsFor byte digit = (digit ≤ 9) × ((byte ≡ 48 + digit) ⊎ (byte ≡ 63))

-- each byte stands for a digit, and these write the number, after one that is read
abbrev pub MayWrite : ℕ → List ℕ → ℕ → Type 0
MayWrite n [] number = number ≡ n
MayWrite n (byte ∷ more) number =
    (digit : ℕ) × StandsFor byte digit × MayWrite (10 * n + digit) more number

-- the value is a date YYYY.MM.DD, and may be this day
abbrev pub MayBe : List ℕ → Day → Type 0
MayBe (a ∷ b ∷ c ∷ d ∷ dot ∷ e ∷ f ∷ other ∷ g ∷ h ∷ []) day =
    MayWrite 0 (a ∷ b ∷ c ∷ d ∷ []) day.year × (dot ≡ 46)
    × MayWrite 0 (e ∷ f ∷ []) day.month × (1 ≤ day.month) × (day.month ≤ 12) × (other ≡ 46)
    × MayWrite 0 (g ∷ h ∷ []) day.day × (1 ≤ day.day) × (day.day ≤ 31)
MayBe value day = ⊥

-- the day is one of these
abbrev pub IsWithin : Day → Days → Type 0
IsWithin day days = (day.year ≡ days.year)
    × (days.first_month ≤ day.month) × (day.month ≤ days.last_month)
    × (days.first_day ≤ day.day) × (day.day ≤ days.last_day)

-- days follow one another as these numbers do
abbrev pub day_number : ℕ → ℕ → ℕ → ℕ
day_number year month day = 10000 * year + 100 * month + day

-- the number of a day, and of the first and the last of several
abbrev pub number_of : Day → ℕ
number_of day = day_number day.year day.month day.day

abbrev pub first_of : Days → ℕ
first_of days = day_number days.year days.first_month days.first_day

abbrev pub last_of : Days → ℕ
last_of days = day_number days.year days.last_month days.last_day

-- the comparison holds of the day and of these days
abbrev pub StandsTo : Comparison → Day → Days → Type 0
StandsTo Equal day days = IsWithin day days
StandsTo Unequal day days = IsWithin day days → ⊥
StandsTo Less day days = number_of day < first_of days
StandsTo LessOrEqual day days = number_of day ≤ last_of days
StandsTo Greater day days = last_of days < number_of day
StandsTo GreaterOrEqual day days = first_of days ≤ number_of day

-- the value may be some day, and the comparison holds of each day that it may be
abbrev pub StandSurely : Comparison → List ℕ → Days → Type 0
StandSurely comparison value days = ((day : Day) × MayBe value day)
    × ((day : Day) → MayBe value day → StandsTo comparison day days)

-- the value of a string with these contents is a date of which a digit is known, and the comparison
-- holds of each day that it may be
pub record IsDate (comparison : Comparison) (given : List ℕ) (days : Days) : Type 0 where
  pub value : List ℕ
  pub signs : List Sign
  pub has : HasValue given value signs
  pub known : value ≢ codes "????.??.??"
  pub surely : StandSurely comparison value days
