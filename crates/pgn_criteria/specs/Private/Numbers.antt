-- Numbers that are read digit by digit.
use Rattle.std.specs.Prelude.{ℕ, ◌+◌, ◌*◌, ◌-◌, ◌==◌, ◌||◌, not, if◌then◌else◌, List, [], ◌∷◌}
use Rattle.std.specs.Prelude.{Option, Some, None}
use Rattle.pgn_text.specs.Public.Bytes.{is_digit}

-- the number that a text writes after digits of which there are so many already
abbrev pub number_after : ℕ → ℕ → List ℕ → Option ℕ
number_after number digits [] = if digits == 0 then None else Some number
number_after number digits (b ∷ x) = if (digits == 18 || not (is_digit b)) then None
    else number_after (10 * number + (b - 48)) (digits + 1) x
