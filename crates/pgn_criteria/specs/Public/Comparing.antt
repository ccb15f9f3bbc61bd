-- How the value of a tag stands to a text. To be ordered, two numbers of 1 to 18 digits are
-- compared as numbers, so that 9 is less than 10 and 007 equals 7; else they are compared byte by
-- byte, and a text that another begins with is the lesser. What a value contains, and what it
-- begins with, are bytes, of numbers too.
use Rattle.std.specs.Prelude.{◌≡◌, ◌≢◌, ◌<◌, ◌≤◌, ◌&&◌, ◌++◌, nat_le, if◌then◌else◌, ℕ, Bool, List}
use Rattle.std.specs.Prelude.{length, Option, Some, None}
use Rattle.std.specs.List.{list_all}
use Rattle.std.specs.Ordering.{nat_cmp}
use Rattle.std.specs.Cmp.Lexicographic.{slice_cmp}
use Rattle.std.specs.declared.cmp.Ordering.{Ordering}
use Rattle.std.specs.declared.cmp.Ordering.TheVariants as order
use Rattle.pgn_text.specs.Public.Bytes.{is_digit}
use Rattle.pgn_text.specs.Public.Strings.{Sign, HasValue}
use Rattle.chess.specs.Public.Fen.{number_from}
use Rattle.pgn_criteria.specs.declared.compare.Comparison.{Comparison}
use Rattle.pgn_criteria.specs.declared.compare.Comparison.TheVariants as compared
use Rattle.pgn_criteria.specs.declared.compare.Relation.{Relation}
use Rattle.pgn_criteria.specs.declared.compare.Relation.TheVariants.{Equal, Unequal, Less}
use Rattle.pgn_criteria.specs.declared.compare.Relation.TheVariants.{LessOrEqual, Greater}
use Rattle.pgn_criteria.specs.declared.compare.Relation.TheVariants.{GreaterOrEqual, Has, Begins}

-- 1 to 18 digits
abbrev pub is_number : List ℕ → Bool
is_number text = (nat_le 1 (length text) && nat_le (length text) 18) && list_all is_digit text

-- the number that a text of 1 to 18 digits writes; any other text writes none
abbrev pub number_in : List ℕ → Option ℕ
number_in text = if is_number text then Some (number_from 0 text) else None

-- two numbers are ordered as numbers, anything else as the bytes are
abbrev pub order_by : Option ℕ → Option ℕ → Ordering → Ordering
order_by (Some a) (Some b) bytes = nat_cmp a b
order_by (Some a) None bytes = bytes
order_by None b bytes = bytes

-- how two values stand to each other
abbrev pub order_of : List ℕ → List ℕ → Ordering
order_of a b = order_by (number_in a) (number_in b) (slice_cmp nat_cmp a b)

-- the relation holds of these two values
abbrev pub Allows : Relation → List ℕ → List ℕ → Type 0
Allows Equal a b = order_of a b ≡ order.Equal
Allows Unequal a b = order_of a b ≢ order.Equal
Allows Less a b = order_of a b ≡ order.Less
Allows LessOrEqual a b = order_of a b ≢ order.Greater
Allows Greater a b = order_of a b ≡ order.Greater
Allows GreaterOrEqual a b = order_of a b ≢ order.Less
Allows Has a b = (front back : List ℕ) × (a ≡ front ++ (b ++ back))
Allows Begins a b = (back : List ℕ) × (a ≡ b ++ back)

-- the relation holds of the values of two strings with these contents: in a value a backslash
-- before a quote or a backslash is dropped
pub record Stands (relation : Relation) (given text : List ℕ) : Type 0 where
  pub value : List ℕ
  pub other : List ℕ
  pub signs : List Sign
  pub other_signs : List Sign
  pub has : HasValue given value signs
  pub other_has : HasValue text other other_signs
  pub allowed : Allows relation value other

-- the comparison holds of these two numbers
abbrev pub Compares : Comparison → ℕ → ℕ → Type 0
Compares compared.Equal a b = a ≡ b
Compares compared.Unequal a b = a ≢ b
Compares compared.Less a b = a < b
Compares compared.LessOrEqual a b = a ≤ b
Compares compared.Greater a b = b < a
Compares compared.GreaterOrEqual a b = b ≤ a

-- the value of a string with these contents is a number of which the comparison with this one holds
pub record IsNumber (comparison : Comparison) (given : List ℕ) (number : ℕ) : Type 0 where
  pub value : List ℕ
  pub signs : List Sign
  pub has : HasValue given value signs
  pub own : ℕ
  pub is : number_in value ≡ Some own
  pub holds : Compares comparison own number
