-- The number of a square, which the code keeps in place of its file and rank.
use Rattle.std.specs.Prelude.{ℕ, refl}
use Rattle.std.specs.Coded.{Coded, coded_ℕ, coded×, code_by}
use Rattle.chess.specs.Public.Squares.{Place}

-- a square is stored as the pair of its numbers
abbrev pub coded_place : Coded Place
coded_place =
    code_by (ℕ × ℕ) (coded× coded_ℕ coded_ℕ) (λ s. (s.file, s.rank)) (λ p.
    record { file = p.0; rank = p.1 }) (λ _. refl)
