-- Powers of ten, and numbers of at most so many digits.
use Rattle.std.specs.Prelude.{◌≡◌, ℕ, zero, suc, ◌*◌, ◌-◌, ◌≤◌, ◌<◌, List, length}
use Rattle.std.specs.List.{list_all}
use Rattle.chess.specs.Public.Fen.{is_digit, number_from}

-- a power of ten
abbrev pub ten_to : ℕ → ℕ
ten_to zero = 1
ten_to (suc n) = 10 * ten_to n

-- the digits before the rest, of at most so many, write the number
pub record IsCounted (most n : ℕ) (rest text : List ℕ) : Type 0 where
  pub short : length rest ≤ most
  pub bound : n < ten_to (most - length rest)
  pub value : number_from n rest ≡ number_from 0 text
  pub digits : list_all is_digit rest ≡ list_all is_digit text
