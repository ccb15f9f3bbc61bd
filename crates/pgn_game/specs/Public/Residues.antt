-- The sum over bytes: what they leave as one number, and which changes it notices.
use Rattle.std.specs.Prelude.{◌≡◌, ℕ, ◌+◌, ◌%◌, ◌<◌, ◌≤◌, List, length, slice_index}
use Rattle.std.specs.Int.Digits.{number_from_digits}

-- 2 ^ 61 - 1
abbrev pub modulus : ℕ
modulus = 2305843009213693951

-- the bytes as the digits of one number in base 256, the first one the highest
abbrev pub number_of : List ℕ → ℕ
number_of bytes = number_from_digits 256 bytes

-- what this number leaves
abbrev pub residue : List ℕ → ℕ
residue bytes = number_of bytes % modulus

abbrev pub AreBytes : List ℕ → Type 0
AreBytes bytes = (i : ℕ) → slice_index bytes i < 256

-- the texts are equally long, and the same but for seven bytes in a row at most
pub record IsNear (text other : List ℕ) : Type 0 where
  pub long : length text ≡ length other
  pub at : ℕ
  pub before : (i : ℕ) → i < at → slice_index text i ≡ slice_index other i
  pub after : (i : ℕ) → at + 7 ≤ i → slice_index text i ≡ slice_index other i

-- a change in seven bytes in a row at most, as of one byte, or of two neighbours that change
-- places, is noticed
abbrev pub ChangeIsNoticed : Type 0
ChangeIsNoticed =
    (text other : List ℕ) → AreBytes text → AreBytes other → IsNear text other
    → residue text ≡ residue other → text ≡ other
