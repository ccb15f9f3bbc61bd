-- The days that a condition on a date names: what spells them is solid, and spells no others.
use Rattle.std.specs.Prelude.{◌==◌, if◌then◌else◌, Option, Some, None, MatchOption}
use Rattle.pgn_criteria.proofs.Common.{◌≡◌, ◌≢◌, ◌≤◌, ℕ, true, false, List, [], ◌∷◌, refl, sym, ◌∙◌}
use Rattle.pgn_criteria.proofs.Common.{arith, is_digit, parted_at, before_first, SpellsDays, Days}
use Rattle.pgn_criteria.specs.Public.Lines.{SpellsField, SpellsOne}
use Rattle.pgn_criteria.specs.Private.DateEnds.{AreGoodDays}
use Rattle.pgn_criteria.proofs.PliesFacts.{digit_solid}
use Rattle.pgn_criteria.proofs.SolidFacts.{AreSolid, EachSolid, BeginsSolid, EndsSolid, all_solid}
use Rattle.pgn_criteria.proofs.SolidFacts.{parts_solid, solid_begins, solid_ends}

-- ---- the parts one by one

-- the first part, and those that follow it, if there are some
pub some_rest : {T : Type 0} (parts : List (List ℕ)) (first : List ℕ) (after : T → List (List ℕ))
    (rest : Option T) → MatchOption rest (parts ≡ first ∷ []) (λ own. parts ≡ first ∷ after own)
    → (more : List (List ℕ)) × (parts ≡ first ∷ more)
some_rest parts first after None is = ([], is)
some_rest parts first after (Some own) is = (after own, is)

pub year_in : (parts : List (List ℕ)) (year : List ℕ) (more : List (List ℕ)) (days : Days)
    → parts ≡ year ∷ more → SpellsDays parts days → SpellsField 4 year days.year
year_in parts year more days is spells = at more (rw is at spells)
  where
    at : (more : List (List ℕ)) → SpellsDays (year ∷ more) days → SpellsField 4 year days.year
    at [] spells = spells.0
    at (month ∷ []) spells = spells.0
    at (month ∷ day ∷ []) spells = spells.0
    at more spells = absurd spells

pub month_in : (parts : List (List ℕ)) (year month : List ℕ) (more : List (List ℕ)) (days : Days)
    → parts ≡ year ∷ month ∷ more → SpellsDays parts days
    → SpellsOne 12 month days.first_month days.last_month
month_in parts year month more days is spells = at more (rw is at spells)
  where
    at : (more : List (List ℕ)) → SpellsDays (year ∷ month ∷ more) days
        → SpellsOne 12 month days.first_month days.last_month
    at [] spells = spells.1
    at (day ∷ []) spells = spells.1
    at more spells = absurd spells

pub day_in : (parts : List (List ℕ)) (year month day : List ℕ) (more : List (List ℕ)) (days : Days)
    → parts ≡ year ∷ month ∷ day ∷ more → SpellsDays parts days
    → SpellsOne 31 day days.first_day days.last_day
day_in parts year month day more days is spells = at more (rw is at spells)
  where
    at : (more : List (List ℕ)) → SpellsDays (year ∷ month ∷ day ∷ more) days
        → SpellsOne 31 day days.first_day days.last_day
    at [] spells = spells.2
    at more spells = absurd spells

-- a text always has parts, so a fourth part is too much
before_some : (b : ℕ) (parts : List (List ℕ)) → before_first b parts ≢ []
before_some b [] none = cc
before_some b (first ∷ more) none = cc

some_parts : (separator : ℕ) (text : List ℕ) → parted_at separator text ≢ []
some_parts separator [] none = cc
some_parts separator (b ∷ x) none =
    elim (b == separator) as (λ t. (if t then [] ∷ parted_at separator x
    else before_first b (parted_at separator x)) ≢ []) [
      | true ↦ λ none. cc
      | false ↦ before_some b (parted_at separator x)
    ] none

pub too_many : (parts : List (List ℕ)) (year month day text : List ℕ) (days : Days)
    → parts ≡ year ∷ month ∷ day ∷ parted_at 46 text → SpellsDays parts days → ⊥
too_many parts year month day text days is spells =
    at (parted_at 46 text) (some_parts 46 text) (rw is at spells)
  where
    at : (more : List (List ℕ)) → more ≢ [] → SpellsDays (year ∷ month ∷ day ∷ more) days → ⊥
    at [] some spells = some refl
    at (part ∷ more) some spells = spells

-- ---- texts

field_solid : (size : ℕ) (text : List ℕ) (number : ℕ) → SpellsField size text number → AreSolid text
field_solid size text number spells = all_solid is_digit digit_solid text spells.0.digits

each_solid : (parts : List (List ℕ)) (days : Days) → SpellsDays parts days → EachSolid parts
each_solid (year ∷ []) days spells = (field_solid 4 year days.year spells.0, tt)
each_solid (year ∷ month ∷ []) days spells =
    (field_solid 4 year days.year spells.0, (field_solid 2 month days.first_month spells.1.0, tt))
each_solid (year ∷ month ∷ day ∷ []) days spells = (
  field_solid 4 year days.year spells.0,
  (
    field_solid 2 month days.first_month spells.1.0,
    (field_solid 2 day days.first_day spells.2.0, tt),
  ),
)
each_solid parts days spells = absurd spells

days_solid : (text : List ℕ) (days : Days) → SpellsDays (parted_at 46 text) days → AreSolid text
days_solid text days spells = parts_solid 46 refl text (each_solid (parted_at 46 text) days spells)

pub days_some : (text : List ℕ) (days : Days) → SpellsDays (parted_at 46 text) days → text ≢ []
days_some [] days spells none = let some : 1 ≤ 0 = spells.0.0.short.0 in omega arith
days_some (b ∷ x) days spells none = cc

pub days_begin : (text : List ℕ) (days : Days) → SpellsDays (parted_at 46 text) days
    → BeginsSolid text
days_begin text days spells =
    solid_begins text (days_some text days spells) (days_solid text days spells)

pub days_end : (text : List ℕ) (days : Days) → SpellsDays (parted_at 46 text) days → EndsSolid text
days_end text days spells =
    solid_ends text (days_some text days spells) (days_solid text days spells)

-- ---- they are some of a year, and no others

pub days_good : (parts : List (List ℕ)) (days : Days) → SpellsDays parts days → AreGoodDays days
days_good (year ∷ []) days spells =
    let months = spells.1 in
    let own = spells.2 in (omega arith, omega arith, omega arith, omega arith)
days_good (year ∷ month ∷ []) days spells =
    let months = spells.1 in
    let own = spells.2 in (omega arith, omega arith, omega arith, omega arith)
days_good (year ∷ month ∷ day ∷ []) days spells =
    let months = spells.1 in
    let own = spells.2 in (omega arith, omega arith, omega arith, omega arith)
days_good parts days spells = absurd spells

one_field : (size : ℕ) (text : List ℕ) (a b : ℕ) → SpellsField size text a
    → SpellsField size text b → a ≡ b
one_field size text a b is has = is.0.value ∙ sym has.0.value

one_range : (most : ℕ) (text : List ℕ) (a b c d : ℕ) → SpellsOne most text a b
    → SpellsOne most text c d → (a ≡ c) × (b ≡ d)
one_range most text a b c d is has =
    let same = one_field 2 text a c is.0 has.0 in (same, is.3 ∙ same ∙ sym has.3)

same_days : (a b : Days) → a.year ≡ b.year
    → (a.first_month ≡ b.first_month) × (a.last_month ≡ b.last_month)
    → (a.first_day ≡ b.first_day) × (a.last_day ≡ b.last_day) → a ≡ b
same_days a b year months days = λ i. record {
  year = year i;
  first_month = months.0 i;
  last_month = months.1 i;
  first_day = days.0 i;
  last_day = days.1 i;
}

pub one_days : (parts : List (List ℕ)) (a b : Days) → SpellsDays parts a → SpellsDays parts b
    → a ≡ b
one_days (year ∷ []) a b is has =
    same_days a b (one_field 4 year a.year b.year is.0 has.0)
    (is.1.0 ∙ sym has.1.0, is.1.1 ∙ sym has.1.1) (is.2.0 ∙ sym has.2.0, is.2.1 ∙ sym has.2.1)
one_days (year ∷ month ∷ []) a b is has =
    same_days a b (one_field 4 year a.year b.year is.0 has.0)
    (one_range 12 month a.first_month a.last_month b.first_month b.last_month is.1 has.1)
    (is.2.0 ∙ sym has.2.0, is.2.1 ∙ sym has.2.1)
one_days (year ∷ month ∷ day ∷ []) a b is has =
    same_days a b (one_field 4 year a.year b.year is.0 has.0)
    (one_range 12 month a.first_month a.last_month b.first_month b.last_month is.1 has.1)
    (one_range 31 day a.first_day a.last_day b.first_day b.last_day is.2 has.2)
one_days parts a b is has = absurd is
